-- What the readers of constants and types answer, step by step, in the forms that the code has. Assumes nothing.
use Rattle.std.proofs.Common.{◌≡◌, ℕ, zero, suc, Bool, true, false, List, Some, None, Option, Ok, sym, refl, ap, ◌∙◌, subst}
use Rattle.fault.specs.declared.Cause.TheVariants.{Syntax, TooDeep}
use Rattle.symbol.specs.Symbols.{PlacedSym, placed_of}
use Rattle.symbol.specs.declared.Placed.{Placed}
use Rattle.symbol.specs.declared.mark.Mark.TheVariants.{RightParen, Colon, Semicolon}
use Rattle.symbol.specs.declared.word.Word.TheVariants.{Of, End}
use Rattle.cursor.specs.Reading.{Reads, got, fault, after, mapped, head, tail, expect_mark, expect_word, Lex, number_of, idents_of, inner, list_of}
use Rattle.cursor.specs.Promises.{Opens}
use Rattle.cursor.proofs.Steps.{nested_none, nested_some}
use Rattle.expression_tree.specs.declared.Sign.{Sign}
use Rattle.expression_parser.specs.Classes.{sign, Start, a_number, a_character, a_name, an_opening, a_not, other, start}
use Rattle.expression_parser.specs.Readers.{unsigned}
use Rattle.type_tree.specs.Trees.{Con, Typ}
use Rattle.type_tree.specs.Trees as tree
use Rattle.type_parser.specs.Readers.{constant_at, signed_of, constant_of, Kind, kind, enumeration_of, array_at, section_of, record_at, type_at, type_of, type_expr_of}

-- ---- constants

abbrev pub constant_fault : Start → Bool
constant_fault (a_number b) = false
constant_fault (a_character b) = false
constant_fault (a_name b) = false
constant_fault an_opening = true
constant_fault a_not = true
constant_fault other = true

no_true : false ≡ true → ⊥
no_true h = subst holds h tt
  where
    holds : Bool → Type 0
    holds true = ⊥
    holds false = Unit {0}

pub constant_signed : (ss rest : List PlacedSym) (g : Option Sign) (h : Sign) → g ≡ sign (head ss).symbol → g ≡ Some h → rest ≡ unsigned g ss → constant_of ss ≡ mapped (tree.signed (Some h)) (number_of rest)
unfolding constant_of
constant_signed ss rest g h e s r = ap (λ x. signed_of x ss) (sym e ∙ s) ∙ ap (λ l. mapped (tree.signed (Some h)) (number_of l)) (sym (r ∙ ap (λ x. unsigned x ss) s))

pub constant_at_lem : (ss rest : List PlacedSym) (g : Option Sign) (x : Start) → g ≡ sign (head ss).symbol → g ≡ None → rest ≡ unsigned g ss → start (head rest).symbol ≡ x → constant_of ss ≡ constant_at x rest
unfolding constant_of
constant_at_lem ss rest g x e s r k =
    ap (λ y. signed_of y ss) (sym e ∙ s) ∙ ap (λ l. constant_at (start (head l).symbol) l) (sym (r ∙ ap (λ y. unsigned y ss) s)) ∙ ap (λ y. constant_at y rest) k

module _ (ss rest : List PlacedSym) (g : Option Sign) where
  pub constant_number : (left : List PlacedSym) (b : List ℕ) (n : Lex) → g ≡ sign (head ss).symbol → g ≡ None → rest ≡ unsigned g ss → start (head rest).symbol ≡ a_number b → n ≡ (b, (head rest).place) → left ≡ tail rest → constant_of ss ≡ got (tree.signed None n) left
  constant_number left b n e s r x p l = constant_at_lem ss rest g _ e s r x ∙ rw (p, l)

  pub constant_name_lem : (left : List PlacedSym) (b : List ℕ) (n : Lex) → g ≡ sign (head ss).symbol → g ≡ None → rest ≡ unsigned g ss → start (head rest).symbol ≡ a_name b → n ≡ (b, (head rest).place) → left ≡ tail rest → constant_of ss ≡ got (tree.constant_name n) left
  constant_name_lem left b n e s r x p l = constant_at_lem ss rest g _ e s r x ∙ rw (p, l)

  pub constant_character_lem : (left : List PlacedSym) (b : List ℕ) (n : Lex) → g ≡ sign (head ss).symbol → g ≡ None → rest ≡ unsigned g ss → start (head rest).symbol ≡ a_character b → n ≡ (b, (head rest).place) → left ≡ tail rest → constant_of ss ≡ got (tree.constant_character n) left
  constant_character_lem left b n e s r x p l = constant_at_lem ss rest g _ e s r x ∙ rw (p, l)

  -- what begins no constant
  pub constant_none : g ≡ sign (head ss).symbol → g ≡ None → rest ≡ unsigned g ss → constant_fault (start (head rest).symbol) ≡ true → constant_of ss ≡ fault Syntax rest
  constant_none e s r f = constant_at_lem ss rest g _ e s r refl ∙ go (start (head rest).symbol) f
    where
      go : (x : Start) → constant_fault x ≡ true → constant_at x rest ≡ fault Syntax rest
      go (a_number b) h = absurd (no_true h)
      go (a_character b) h = absurd (no_true h)
      go (a_name b) h = absurd (no_true h)
      go an_opening h = refl
      go a_not h = refl
      go other h = refl

-- ---- types, by their first symbol

module _ (d : ℕ) where
  type_is : type_expr_of d ≡ type_of (inner type_expr_of d)
  unfolding type_expr_of inner
  type_is = go d
    where
      go : (n : ℕ) → type_expr_of n ≡ type_of (inner type_expr_of n)
      go zero = refl
      go (suc n) = refl

  pub type_at_lem : (ss : List PlacedSym) (k : Kind) → kind (head ss).symbol ≡ k → type_expr_of d ss ≡ type_at (inner type_expr_of d) k ss
  unfolding type_of
  type_at_lem ss k e = ap (λ r. r ss) type_is ∙ ap (λ x. type_at (inner type_expr_of d) x ss) e

  pub enumeration_deep : (ss : List PlacedSym) → d ≡ 0 → enumeration_of (inner type_expr_of d) ss ≡ fault TooDeep ss
  unfolding enumeration_of
  enumeration_deep ss h = nested_none type_expr_of d ss _ h

  pub array_deep : (ss : List PlacedSym) → d ≡ 0 → array_at (inner type_expr_of d) ss ≡ fault TooDeep ss
  unfolding array_at
  array_deep ss h = nested_none type_expr_of d ss _ h

  pub record_deep : (ss : List PlacedSym) → d ≡ 0 → record_at (inner type_expr_of d) ss ≡ fault TooDeep ss
  unfolding record_at
  record_deep ss h = nested_none type_expr_of d ss _ h

  module _ (e : ℕ) (ss rest : List PlacedSym) (p : Placed) (h : placed_of p ≡ head ss) (o : Opens d (Ok e) ss rest) where
    pub enumeration_is : enumeration_of (inner type_expr_of d) ss ≡ after (idents_of rest) (λ ns left. mapped (λ _. tree.enumeration p.place ns) (expect_mark RightParen left))
    unfolding enumeration_of
    enumeration_is = nested_some type_expr_of d e ss rest _ o.0 o.1 ∙ rw (ap (λ x. x.place) h)

    pub array_is : array_at (inner type_expr_of d) ss ≡ after (constant_of rest) (λ a r1. after (expect_mark Colon r1) (λ _ r2. after (constant_of r2) (λ b r3. after (expect_word Of r3) (λ _ r4. mapped (tree.array_of p.place a b) (type_expr_of e r4)))))
    unfolding array_at
    array_is = nested_some type_expr_of d e ss rest _ o.0 o.1 ∙ rw (ap (λ x. x.place) h)

    pub record_is : record_at (inner type_expr_of d) ss ≡ after (list_of Semicolon (section_of (type_expr_of e)) rest) (λ xs left. mapped (λ _. tree.record_of p.place (tree.secs xs)) (expect_word End left))
    unfolding record_at
    record_is = nested_some type_expr_of d e ss rest _ o.0 o.1 ∙ rw (ap (λ x. x.place) h)

pub section_is : (t : Reads Typ) (ss : List PlacedSym) → section_of t ss ≡ after (idents_of ss) (λ ns rest. after (expect_mark Colon rest) (λ _ left. mapped (λ x. (ns, x)) (t left)))
unfolding section_of
section_is t ss = refl
