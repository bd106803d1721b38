-- The grammar of declarations and modules, rule by rule.
use Rattle.std.specs.Prelude.{ℕ, Bool, true, false, List, [], ◌∷◌, Some, None, Option}
use Rattle.symbol.specs.Symbols.{PlacedSym}
use Rattle.symbol.specs.declared.mark.Mark.TheVariants as m
use Rattle.symbol.specs.declared.word.Word.{Word}
use Rattle.symbol.specs.declared.word.Word.TheVariants as w
use Rattle.cursor.specs.Reading.{Lex}
use Rattle.type_tree.specs.Trees.{Con, Typ}
use Rattle.syntax.specs.StatementTrees.{Stmts}
use Rattle.syntax.specs.declared.Marking.{Marking}
use Rattle.syntax.specs.declared.Marking.TheVariants as marked
use Rattle.syntax.specs.ProgramTrees.{Variables, Parted, Section, Proc, Head, Modul, Decl, Decls}
use Rattle.syntax.specs.ProgramTrees as tree
use Rattle.grammar.specs.Phrases.{Phrase, ◌then◌, nothing, mark, word, word_at, ident, number, repeats, begun, deeper, repeated, separated, idents}
use Rattle.grammar.specs.Types.{ConR, TypR}
use Rattle.grammar.specs.Statements.{OptionalR}

-- ident "=" constant ";"
abbrev pub ConstantR : Lex × Con → Phrase
ConstantR x = ident x.0 then mark m.Equal then ConR x.1 then mark m.Semicolon

-- ident "=" type ";"
abbrev pub TypeR : ℕ → Lex × Typ → Phrase
TypeR d x = ident x.0 then mark m.Equal then TypR x.1 d then mark m.Semicolon

-- (idents | ident "[" number "]") ":" type ";"
abbrev pub VariablesR : ℕ → Variables → Phrase
VariablesR d (tree.variables ns t) = idents ns then mark m.Colon then TypR t d then mark m.Semicolon
VariablesR d (tree.register n a t) = ident n then mark m.LeftBracket then deeper d (λ _. number a then mark m.RightBracket) then mark m.Colon then TypR t d then mark m.Semicolon

-- part = "const" {ident "=" constant ";"} | "type" {ident "=" type ";"}
--   | "var" {(idents | ident "[" number "]") ":" type ";"}
abbrev pub PartR : ℕ → Parted → Phrase
PartR d (tree.constants xs) = word w.Const then repeated ConstantR xs
PartR d (tree.types xs) = word w.Type then repeated (TypeR d) xs
PartR d (tree.declared xs) = word w.Var then repeated (VariablesR d) xs

-- ["const" | "var"]
abbrev pub MarkingR : Option Marking → Phrase
MarkingR None = nothing
MarkingR (Some marked.Const) = word w.Const
MarkingR (Some marked.Var) = word w.Var

-- formals = ["const" | "var"] idents ":" ident
abbrev pub SectionR : Section → Phrase
SectionR (tree.formals k v ns c) = begun k (MarkingR v then idents ns then mark m.Colon then ident c)

-- ["(" formals {";" formals} ")"]
abbrev pub FormalsR : List Section → ℕ → Phrase
FormalsR [] d = nothing
FormalsR (x ∷ xs) d = mark m.LeftParen then deeper d (λ _. separated m.Semicolon SectionR (x ∷ xs) then mark m.RightParen)

-- [":" ident]
abbrev pub ResultR : Option Lex → Phrase
ResultR None = nothing
ResultR (Some n) = mark m.Colon then ident n

-- body = ["begin" block] "end"
abbrev pub BodyR : Stmts → ℕ → Phrase
BodyR b d = OptionalR w.Begin b d then word w.End

-- procedure = "procedure" ident ["(" formals {";" formals} ")"] [":" ident] ";" {part} body ident
abbrev pub ProcR : Proc → ℕ → Phrase
ProcR (tree.procedure k n fs r ps b) d = word_at w.Procedure k then deeper d (λ e. ident n then FormalsR fs e then ResultR r then mark m.Semicolon then repeated (PartR e) ps then BodyR b e then repeats n)

-- ["device"] "module"
abbrev pub OpeningR : Bool → ℕ → Phrase
OpeningR true k = word_at w.Device k then word w.Module
OpeningR false k = word_at w.Module k

-- [word idents ";"]
abbrev pub NamesR : Word → List Lex → Phrase
NamesR v [] = nothing
NamesR v (n ∷ ns) = word v then idents (n ∷ ns) then mark m.Semicolon

-- ident ";" ["define" idents ";"] ["use" idents ";"]
abbrev pub HeadR : Head → Phrase
HeadR (tree.heading k v n ds us) = ident n then mark m.Semicolon then NamesR w.Define ds then NamesR w.Use us

abbrev pub opening_of : Head → Phrase
opening_of (tree.heading k v n ds us) = OpeningR v k

abbrev pub name_of : Head → Lex
name_of (tree.heading k v n ds us) = n

abbrev mutual
  -- module = ["device"] "module" ident ";" ["define" idents ";"] ["use" idents ";"]
  --   {part | procedure ";" | module ";"} body ident
  pub ModulR : Modul → ℕ → Phrase
  ModulR (tree.whole h ds b) d = opening_of h then deeper d (λ e. HeadR h then DeclsR ds e then BodyR b e then repeats (name_of h))

  -- part | procedure ";" | module ";"
  pub DeclR : Decl → ℕ → Phrase
  DeclR (tree.a_part p) d = PartR d p
  DeclR (tree.a_procedure p) d = ProcR p d then mark m.Semicolon
  DeclR (tree.a_module x) d = ModulR x d then mark m.Semicolon

  -- {part | procedure ";" | module ";"}
  pub DeclsR : Decls → ℕ → Phrase
  DeclsR tree.no_declaration d = nothing
  DeclsR (tree.declaration x ds) d = DeclR x d then DeclsR ds d

-- program = module "."
abbrev pub ProgramR : Modul → ℕ → Phrase
ProgramR x d = ModulR x d then mark m.Dot

-- the symbols are a program, with at most so many constructs open at one place
abbrev pub Sentence : Modul → ℕ → List PlacedSym → Type 0
Sentence x d ss = ProgramR x d ss []
