-- Every constant and every type of the grammar is read back. Assumes nothing.
use Rattle.std.proofs.Common.{◌≡◌, ℕ, zero, suc, false, cond, List, ◌∷◌, Some, None, refl, ap, ◌∙◌}
use Rattle.symbol.specs.Symbols.{PlacedSym}
use Rattle.symbol.specs.Symbols as symbol
use Rattle.symbol.specs.declared.mark.Mark.TheVariants as m
use Rattle.symbol.specs.declared.word.Word.TheVariants as w
use Rattle.cursor.specs.Kinds.{sym_is_mark}
use Rattle.cursor.specs.Reading.{got, head, tail, Lex, number_of, separator, further_of, list_of}
use Rattle.cursor.proofs.Loops.{further_turns}
use Rattle.expression_parser.specs.Classes.{sign}
use Rattle.type_tree.specs.Trees.{Con, Typ, Secs}
use Rattle.type_tree.specs.Trees as tree
use Rattle.type_parser.specs.Readers.{signed_of, constant_of, enumeration_of, array_at, section_of, record_at, type_of, type_expr_of}
use Rattle.type_parser.proofs.Within.{section_within, type_within}
use Rattle.grammar.specs.Phrases.{◌at◌, mark, idents}
use Rattle.grammar.specs.Types.{ConR, TypR, SecsR, MoreR}
use Rattle.grammar.proofs.Lists.{sec_list, secs_back}
use Rattle.grammar.proofs.Steps.{on, first, left_of, mark_read, word_read, number_read, idents_read, stops, turns}
use Rattle.grammar.proofs.CompleteExpressions.{sign_of}

pub constant_complete : (t : Con) (ss rest : List PlacedSym) → ConR t ss rest → constant_of ss ≡ got t rest
unfolding constant_of head tail
constant_complete (tree.signed None n) ss rest h = ap constant_of (h.1 ∙ h.2)
constant_complete (tree.signed (Some g) n) ss rest h =
    ap (λ x. signed_of x ss) (first (λ s. sign s ≡ Some g) h.1 (sign_of g)) ∙ on _ (ap number_of (left_of h.1) ∙ number_read n h.0 rest h.2) refl
constant_complete (tree.constant_name n) ss rest h = ap constant_of h
constant_complete (tree.constant_character n) ss rest h = ap constant_of h

type_name : (d : ℕ) (n : Lex) (rest : List PlacedSym) → type_expr_of d (symbol.name n.0 at n.1 ∷ rest) ≡ got (tree.named n) rest
unfolding head tail type_expr_of type_of
type_name zero n rest = refl
type_name (suc d) n rest = refl

-- idents ":" type
section_read : (d : ℕ) (ns : List Lex) (t : Typ) (ss r1 r2 rest : List PlacedSym) → idents ns ss r1 → mark m.Colon r1 r2 → type_expr_of d r2 ≡ got t rest → section_of (type_expr_of d) ss ≡ got (ns, t) rest
unfolding section_of
section_read d ns t ss r1 r2 rest i c h =
    on _ (idents_read ns ss r1 i (first (λ s. sym_is_mark m.Comma s ≡ false) c refl)) (on _ (mark_read m.Colon r1 r2 c) (on _ h refl))

mutual
  unfolding head tail type_expr_of type_of enumeration_of array_at record_at list_of

  pub type_complete : (t : Typ) (d : ℕ) (ss rest : List PlacedSym) → TypR t d ss rest → type_expr_of d ss ≡ got t rest
  type_complete (tree.named n) d ss rest h = ap (type_expr_of d) h ∙ type_name d n rest
  type_complete (tree.enumeration k ns) zero ss rest h = absurd h.2
  type_complete (tree.enumeration k ns) (suc d) ss rest h =
      ap (type_expr_of (suc d)) h.1
      ∙ on _ (idents_read ns h.0 h.2.0 h.2.1 (first (λ s. sym_is_mark m.Comma s ≡ false) h.2.2 refl)) (on _ (mark_read m.RightParen h.2.0 rest h.2.2) refl)
  type_complete (tree.array_of k a b t) zero ss rest h = absurd h.2
  type_complete (tree.array_of k a b t) (suc d) ss rest h =
      ap (type_expr_of (suc d)) h.1
      ∙ on _ (constant_complete a h.0 h.2.0 h.2.1)
      (on _ (mark_read m.Colon h.2.0 h.2.2.0 h.2.2.1)
      (on _ (constant_complete b h.2.2.0 h.2.2.2.0 h.2.2.2.1)
      (on _ (word_read w.Of h.2.2.2.0 h.2.2.2.2.0 h.2.2.2.2.1)
      (on _ (type_complete t d h.2.2.2.2.0 rest h.2.2.2.2.2) refl))))
  type_complete (tree.record_of k s) zero ss rest h = absurd h.2
  type_complete (tree.record_of k s) (suc d) ss rest h =
      ap (type_expr_of (suc d)) h.1
      ∙ on _ (secs_complete s d h.0 h.2.0 h.2.1 (first (λ x. sym_is_mark m.Semicolon x ≡ false) h.2.2 refl))
      (on _ (word_read w.End h.2.0 rest h.2.2) (ap (λ x. got (tree.record_of k x) rest) (secs_back s)))

  secs_complete : (s : Secs) (d : ℕ) (ss rest : List PlacedSym) → SecsR s d ss rest → sym_is_mark m.Semicolon (head rest).symbol ≡ false → list_of m.Semicolon (section_of (type_expr_of d)) ss ≡ got (sec_list s) rest
  secs_complete tree.no_section d ss rest h c = absurd h
  secs_complete (tree.section ns t s) d ss rest h c =
      on _ (section_read d ns t ss h.0 h.2.0 h.2.2.0 h.1 h.2.1 (type_complete t d h.2.0 h.2.2.0 h.2.2.1))
      (on _ (more_complete s d h.2.2.0 rest h.2.2.2 c) refl)

  more_complete : (s : Secs) (d : ℕ) (ss rest : List PlacedSym) → MoreR s d ss rest → sym_is_mark m.Semicolon (head rest).symbol ≡ false → further_of m.Semicolon (section_of (type_expr_of d)) ss ≡ got (sec_list s) rest
  more_complete tree.no_section d ss rest h c =
      stops (separator m.Semicolon) _ (further_turns m.Semicolon (section_of (type_expr_of d)) (section_within (type_expr_of d) (type_within d))) ss rest h (ap (λ v. cond v (Some tt) None) c)
  more_complete (tree.section ns t s) d ss rest h c =
      turns (separator m.Semicolon) _ (further_turns m.Semicolon (section_of (type_expr_of d)) (section_within (type_expr_of d) (type_within d))) tt (ns, t) (sec_list s) ss h.2.2.2.0 rest
      (first (λ x. separator m.Semicolon x ≡ Some tt) h.1 refl)
      (on _ (ap (section_of (type_expr_of d)) (left_of h.1) ∙ section_read d ns t h.0 h.2.0 h.2.2.0 h.2.2.2.0 h.2.1 h.2.2.1 (type_complete t d h.2.2.0 h.2.2.2.0 h.2.2.2.1)) refl)
      (more_complete s d h.2.2.2.0 rest h.2.2.2.2 c)
