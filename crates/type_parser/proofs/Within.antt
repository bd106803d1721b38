-- No reader of constants and types reads anything twice. Assumes nothing.
use Rattle.std.proofs.Common.{ℕ, zero, suc, List, length, Some, None, Option}
use Rattle.symbol.specs.Symbols.{PlacedSym}
use Rattle.symbol.specs.declared.mark.Mark.TheVariants.{RightParen, Colon, Semicolon}
use Rattle.symbol.specs.declared.word.Word.TheVariants.{Of, End}
use Rattle.cursor.specs.Reading.{Reads, head, tail, expect_mark, expect_word, number_of, idents_of, list_of}
use Rattle.cursor.proofs.Loops.{Within, Reading, All, within_after, within_mapped, within_tail, length_tail, mark_within, word_within, number_within, idents_within, nested_within, list_within}
use Rattle.expression_tree.specs.declared.Sign.{Sign}
use Rattle.expression_parser.specs.Classes.{sign, Start, a_number, a_character, a_name, an_opening, a_not, other, start}
use Rattle.type_tree.specs.Trees.{Typ}
use Rattle.type_parser.specs.Readers.{constant_at, signed_of, constant_of, Kind, of_name, of_enumeration, of_array, of_record, of_other, kind, enumeration_of, array_at, section_of, record_at, type_at, type_of, type_expr_of}

constant_at_lem : (x : Start) → Reading (constant_at x)
constant_at_lem (a_number b) ss = length_tail ss
constant_at_lem (a_character b) ss = length_tail ss
constant_at_lem (a_name b) ss = length_tail ss
constant_at_lem an_opening ss = tt
constant_at_lem a_not ss = tt
constant_at_lem other ss = tt

signed_within : (g : Option Sign) → Reading (signed_of g)
signed_within None ss = constant_at_lem (start (head ss).symbol) ss
signed_within (Some g) ss = within_mapped _ _ (number_of (tail ss)) (within_tail (number_of (tail ss)) ss (number_within (tail ss)))

pub constant_within : Reading constant_of
unfolding constant_of
constant_within ss = signed_within (sign (head ss).symbol) ss

pub section_within : (t : Reads Typ) → Reading t → Reading (section_of t)
unfolding section_of
section_within t w ss =
    within_after _ (idents_of ss) _ (idents_within ss)
    (λ ns rest. within_after _ (expect_mark Colon rest) _ (mark_within Colon rest) (λ _ left. within_mapped _ _ (t left) (w left)))

module _ (i : Option (Reads Typ)) (w : All Reading i) where
  enumeration_within : (ss : List PlacedSym) → Within (length (tail ss)) (enumeration_of i ss)
  unfolding enumeration_of
  enumeration_within ss =
      nested_within Reading i ss _ w
      (λ t v rest. within_after _ (idents_of rest) _ (idents_within rest) (λ ns left. within_mapped _ _ (expect_mark RightParen left) (mark_within RightParen left)))

  array_within : (ss : List PlacedSym) → Within (length (tail ss)) (array_at i ss)
  unfolding array_at
  array_within ss =
      nested_within Reading i ss _ w
      (λ t v r0. within_after _ (constant_of r0) _ (constant_within r0)
      (λ a r1. within_after _ (expect_mark Colon r1) _ (mark_within Colon r1)
      (λ _ r2. within_after _ (constant_of r2) _ (constant_within r2)
      (λ b r3. within_after _ (expect_word Of r3) _ (word_within Of r3) (λ _ r4. within_mapped _ _ (t r4) (v r4))))))

  record_within : (ss : List PlacedSym) → Within (length (tail ss)) (record_at i ss)
  unfolding record_at
  record_within ss =
      nested_within Reading i ss _ w
      (λ t v rest. within_after _ (list_of Semicolon (section_of t) rest) _ (list_within Semicolon (section_of t) (section_within t v) rest)
      (λ xs left. within_mapped _ _ (expect_word End left) (word_within End left)))

  type_at_lem : (k : Kind) → Reading (type_at i k)
  type_at_lem (of_name b) ss = length_tail ss
  type_at_lem of_enumeration ss = within_tail (enumeration_of i ss) ss (enumeration_within ss)
  type_at_lem of_array ss = within_tail (array_at i ss) ss (array_within ss)
  type_at_lem of_record ss = within_tail (record_at i ss) ss (record_within ss)
  type_at_lem of_other ss = tt

  type_of_within : Reading (type_of i)
  unfolding type_of
  type_of_within ss = type_at_lem (kind (head ss).symbol) ss

pub type_within : (d : ℕ) → Reading (type_expr_of d)
unfolding type_expr_of
type_within zero = type_of_within None tt
type_within (suc d) = type_of_within (Some (type_expr_of d)) (type_within d)
