-- Worked examples: the smallest program, and one whose closing name is another.
use Rattle.std.specs.Prelude.{ℕ, false, List, [], ◌∷◌}
use Rattle.symbol.specs.Symbols.{PlacedSym}
use Rattle.symbol.specs.Symbols as symbol
use Rattle.symbol.specs.declared.mark.Mark.TheVariants as m
use Rattle.symbol.specs.declared.word.Word.TheVariants as w
use Rattle.syntax.specs.StatementTrees.{no_statement}
use Rattle.syntax.specs.ProgramTrees.{Modul, whole, heading, no_declaration}
use Rattle.syntax.specs.Program.{deepest}
use Rattle.grammar.specs.Phrases.{◌at◌}
use Rattle.grammar.specs.Modules.{Sentence}

-- module a; end X.
abbrev pub closed_by : List ℕ → List PlacedSym
closed_by x =
    symbol.word w.Module at 0
    ∷ symbol.name (97 ∷ []) at 7 ∷ symbol.mark m.Semicolon at 8 ∷ symbol.word w.End at 10 ∷ symbol.name x at 14 ∷ symbol.mark m.Dot at 15 ∷ []

abbrev pub smallest : Modul
smallest = whole (heading 0 false (97 ∷ [], 7) [] []) no_declaration no_statement

-- module a; end A. is a program: capital and small letters are the same
abbrev pub SmallestProgram : Type 0
SmallestProgram = Sentence smallest deepest (closed_by (65 ∷ []))

-- module a; end b. is none
abbrev pub OtherClosingName : Type 0
OtherClosingName = (t : Modul) → Sentence t deepest (closed_by (98 ∷ [])) → ⊥
