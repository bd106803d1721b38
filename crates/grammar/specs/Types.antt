-- The grammar of constants and types, rule by rule.
use Rattle.std.specs.Prelude.{ℕ}
use Rattle.symbol.specs.declared.mark.Mark.TheVariants as m
use Rattle.symbol.specs.declared.word.Word.TheVariants as w
use Rattle.type_tree.specs.Trees.{Con, Typ, Secs}
use Rattle.type_tree.specs.Trees as tree
use Rattle.grammar.specs.Phrases.{Phrase, ◌then◌, nothing, never, mark, word, mark_at, word_at, ident, number, character, deeper, idents}
use Rattle.grammar.specs.Expressions.{SignR}

-- constant = ["+"|"-"] number | ident | character
abbrev pub ConR : Con → Phrase
ConR (tree.signed g n) = SignR g then number n
ConR (tree.constant_name n) = ident n
ConR (tree.constant_character n) = character n

abbrev mutual
  -- type = ident | "(" idents ")" | "array" constant ":" constant "of" type
  --   | "record" idents ":" type {";" idents ":" type} "end"
  pub TypR : Typ → ℕ → Phrase
  TypR (tree.named n) d = ident n
  TypR (tree.enumeration k ns) d = mark_at m.LeftParen k then deeper d (λ _. idents ns then mark m.RightParen)
  TypR (tree.array_of k a b t) d = word_at w.Array k then deeper d (λ e. ConR a then mark m.Colon then ConR b then word w.Of then TypR t e)
  TypR (tree.record_of k s) d = word_at w.Record k then deeper d (λ e. SecsR s e then word w.End)

  -- idents ":" type {";" idents ":" type}
  pub SecsR : Secs → ℕ → Phrase
  SecsR tree.no_section d = never
  SecsR (tree.section ns t s) d = idents ns then mark m.Colon then TypR t d then MoreR s d

  -- {";" idents ":" type}
  pub MoreR : Secs → ℕ → Phrase
  MoreR tree.no_section d = nothing
  MoreR (tree.section ns t s) d = mark m.Semicolon then idents ns then mark m.Colon then TypR t d then MoreR s d
