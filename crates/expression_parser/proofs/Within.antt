-- No reader of expressions reads anything twice. Assumes nothing.
use Rattle.std.proofs.Common.{ℕ, zero, suc, ◌≤◌, List, length, Some, None, Option, refl, arith}
use Rattle.symbol.specs.Symbols.{PlacedSym}
use Rattle.symbol.specs.declared.mark.Mark.{Mark}
use Rattle.symbol.specs.declared.mark.Mark.TheVariants.{LeftParen, RightParen, RightBracket, Comma}
use Rattle.cursor.specs.Kinds.{sym_is_mark}
use Rattle.cursor.specs.Reading.{Reads, after, mapped, head, tail, Lex, ident_of, behind, paired, list_of, expect_mark}
use Rattle.cursor.proofs.Loops.{Within, Reading, All, Turns, within_after, within_more, within_mapped, within_tail, within_cond, length_tail, mark_within, ident_within, nested_within, behind_turns, loop_within, list_within}
use Rattle.expression_tree.specs.declared.Relation.{Relation}
use Rattle.expression_tree.specs.declared.Sign.{Sign}
use Rattle.expression_tree.specs.Trees.{Fac, Simp, to_field, to_index}
use Rattle.expression_parser.specs.Classes.{relation, sign, adding, multiplying, Start, a_number, a_character, a_name, an_opening, a_not, other, start, Selecting, by_field, by_index, selecting}
use Rattle.expression_parser.specs.Readers.{multipliers_of, term_of, addends_of, signed_of, simple_of, related_of, expression_of, enclosed_of, selector_of, selectors_of, named_of, factor_at, factor_of, factor}

module _ (f : Reads Fac) (w : Reading f) where
  pub multiplier_turns : Turns multiplying (behind paired f)
  multiplier_turns = behind_turns multiplying paired f refl w

  pub term_within : Reading (term_of f)
  unfolding term_of
  term_within ss = within_after _ (f ss) _ (w ss) (λ x rest. within_mapped _ _ (multipliers_of f rest) (loop_within _ _ multiplier_turns rest))

  pub addend_turns : Turns adding (behind paired (term_of f))
  addend_turns = behind_turns adding paired (term_of f) refl term_within

  signed_within : (g : Option Sign) (ss mid : List PlacedSym) → length mid ≤ length ss → Within (length ss) (after (term_of f mid) (λ t rest. mapped (λ xs. Rattle.expression_tree.specs.Trees.sum (head ss).place g t (Rattle.expression_tree.specs.Trees.adds xs)) (addends_of f rest)))
  signed_within g ss mid l =
      within_after _ (term_of f mid) _ (within_more _ _ (term_of f mid) l (term_within mid)) (λ t rest. within_mapped _ _ (addends_of f rest) (loop_within _ _ addend_turns rest))

  pub simple_within : Reading (simple_of f)
  unfolding simple_of
  simple_within ss = go (sign (head ss).symbol)
    where
      go : (x : Option Sign) → Within (length ss) (signed_of f x ss)
      go None = signed_within None ss ss (omega arith)
      go (Some g) = signed_within (Some g) ss (tail ss) (length_tail ss)

  related_within : (x : Option Relation) (a : Simp) → Reading (related_of f x a)
  related_within None a ss = omega arith
  related_within (Some r) a ss = within_mapped _ _ (simple_of f (tail ss)) (within_tail (simple_of f (tail ss)) ss (simple_within (tail ss)))

  pub expression_within : Reading (expression_of f)
  unfolding expression_of
  expression_within ss = within_after _ (simple_of f ss) _ (simple_within ss) (λ a rest. related_within (relation (head rest).symbol) a rest)

module _ (i : Option (Reads Fac)) (w : All Reading i) where
  pub enclosed_within : (close : Mark) (ss : List PlacedSym) → Within (length (tail ss)) (enclosed_of i close ss)
  unfolding enclosed_of
  enclosed_within close ss =
      nested_within Reading i ss _ w
      (λ f v rest. within_after _ (list_of Comma (expression_of f) rest) _ (list_within Comma (expression_of f) (expression_within f v) rest)
      (λ es left. within_mapped _ _ (expect_mark close left) (mark_within close left)))

  selector_within : (x : Selecting) (ss : List PlacedSym) → Within (length (tail ss)) (selector_of i x ss)
  selector_within by_field ss = within_mapped _ to_field (ident_of (tail ss)) (ident_within (tail ss))
  selector_within by_index ss = within_mapped _ to_index (enclosed_of i RightBracket ss) (enclosed_within RightBracket ss)

  pub selector_turns : Turns selecting (selector_of i)
  selector_turns = record { ends = refl; reads = selector_within }

  pub selectors_within : Reading (selectors_of i)
  unfolding selectors_of
  selectors_within ss = loop_within _ _ selector_turns ss

  pub named_within : (n : Lex) → Reading (named_of i n)
  unfolding named_of
  named_within n ss =
      within_cond _ (sym_is_mark LeftParen (head ss).symbol) _ _
      (within_mapped _ _ (enclosed_of i RightParen ss) (within_tail (enclosed_of i RightParen ss) ss (enclosed_within RightParen ss)))
      (within_mapped _ _ (selectors_of i ss) (selectors_within ss))

  at_within : (x : Start) → Reading (factor_at i x)
  at_within (a_number b) ss = length_tail ss
  at_within (a_character b) ss = length_tail ss
  at_within (a_name b) ss = within_tail (named_of i _ (tail ss)) ss (named_within _ (tail ss))
  at_within an_opening ss =
      within_tail (factor_at i an_opening ss) ss
      (nested_within Reading i ss _ w (λ f v rest. within_after _ (expression_of f rest) _ (expression_within f v rest) (λ e left. within_mapped _ _ (expect_mark RightParen left) (mark_within RightParen left))))
  at_within a_not ss = within_tail (factor_at i a_not ss) ss (nested_within Reading i ss _ w (λ f v rest. within_mapped _ _ (f rest) (v rest)))
  at_within other ss = tt

  pub factor_of_within : Reading (factor_of i)
  unfolding factor_of
  factor_of_within ss = at_within (start (head ss).symbol) ss

pub factor_within : (d : ℕ) → Reading (factor d)
unfolding factor
factor_within zero = factor_of_within None tt
factor_within (suc d) = factor_of_within (Some (factor d)) (factor_within d)
