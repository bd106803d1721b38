-- The readers of expressions read what the grammar says. Assumes nothing.
use Rattle.std.proofs.Common.{◌≡◌, ℕ, zero, suc, true, List, [], ◌∷◌, Some, None, Option, refl}
use Rattle.symbol.specs.Symbols.{PlacedSym}
use Rattle.symbol.specs.declared.mark.Mark.{Mark}
use Rattle.symbol.specs.declared.mark.Mark.TheVariants as m
use Rattle.symbol.specs.declared.word.Word.TheVariants as w
use Rattle.cursor.specs.Kinds.{sym_is_mark, sym_is_word}
use Rattle.cursor.specs.Reading.{Reads, head, tail, Lex, inner, behind, paired, after, mapped, list_of, expect_mark}
use Rattle.expression_tree.specs.declared.Relation.{Relation}
use Rattle.expression_tree.specs.declared.Sign.{Sign}
use Rattle.expression_tree.specs.Trees.{Expr, Simp, Fac, Sel, to_field, to_index, adds, muls, sels, exprs, select}
use Rattle.expression_parser.specs.Classes.{relation, sign, adding, multiplying, Start, start, a_number, a_character, a_name, an_opening, a_not, other, Selecting, selecting, by_field, by_index}
use Rattle.expression_parser.specs.Readers.{multipliers_of, term_of, addends_of, unsigned, signed_of, simple_of, related_of, expression_of, enclosed_of, selector_of, selectors_of, named_of, factor_at, factor_of, factor}
use Rattle.grammar.specs.Phrases.{Phrase, ◌then◌, symbol_of, mark, ident, deeper, repeated, separated}
use Rattle.grammar.specs.Expressions.{adding_sym, multiplying_sym, SignR, ExprR, SimpR, AddsR, TerR, MulsR, FacR, SelsR, ExprsR, MoreR}
use Rattle.grammar.proofs.Holding.{Holds, done, faulted, bind, choose, starts_mark, starts_word, mark_holds, ident_holds, loop_holds, list_holds}
use Rattle.grammar.proofs.Classes.{starts_relation, starts_sign, starts_adding, starts_multiplying, starts_field, starts_index, starts_number, starts_character, starts_name, opening_is, not_is}

-- ---- at the allowance d, where the reader of factors keeps to the grammar

module _ (d : ℕ) (f : Reads Fac) (w : (ss : List PlacedSym) → Holds (λ t rest. FacR t d ss rest) (f ss)) where
  multipliers_sound : (ss : List PlacedSym) → Holds (λ xs rest. MulsR (muls xs) d ss rest) (multipliers_of f ss)
  multipliers_sound ss =
      loop_holds multiplying (behind paired f) (λ x. symbol_of (multiplying_sym x.0) then FacR x.1 d)
      (λ o l e. bind (w (tail l)) (λ t rest h. done (tail l, starts_multiplying o l e, h)))
      (λ xs. MulsR (muls xs) d) (λ l. refl) (λ x xs l mid rest h k. (h.0, h.1, (mid, h.2, k))) ss

  pub term_sound : (ss : List PlacedSym) → Holds (λ t rest. TerR t d ss rest) (term_of f ss)
  unfolding term_of
  term_sound ss = bind (w ss) (λ x mid h. bind (multipliers_sound mid) (λ xs rest k. done (mid, h, k)))

  addends_sound : (ss : List PlacedSym) → Holds (λ xs rest. AddsR (adds xs) d ss rest) (addends_of f ss)
  addends_sound ss =
      loop_holds adding (behind paired (term_of f)) (λ x. symbol_of (adding_sym x.0) then TerR x.1 d)
      (λ o l e. bind (term_sound (tail l)) (λ t rest h. done (tail l, starts_adding o l e, h)))
      (λ xs. AddsR (adds xs) d) (λ l. refl) (λ x xs l mid rest h k. (h.0, h.1, (mid, h.2, k))) ss

  signed_sound : (g : Option Sign) (ss : List PlacedSym) → SignR g ss (unsigned g ss) → Holds (λ t rest. SimpR t d ss rest) (signed_of f g ss)
  signed_sound g ss s =
      bind (term_sound (unsigned g ss)) (λ t mid h. bind (addends_sound mid) (λ xs rest k. done (refl, (unsigned g ss, s, (mid, h, k)))))

  pub simple_sound : (ss : List PlacedSym) → Holds (λ t rest. SimpR t d ss rest) (simple_of f ss)
  unfolding simple_of
  simple_sound ss = go (sign (head ss).symbol) refl
    where
      go : (x : Option Sign) → sign (head ss).symbol ≡ x → Holds (λ t rest. SimpR t d ss rest) (signed_of f x ss)
      go None e = signed_sound None ss refl
      go (Some g) e = signed_sound (Some g) ss (starts_sign g ss e)

  pub expression_sound : (ss : List PlacedSym) → Holds (λ t rest. ExprR t d ss rest) (expression_of f ss)
  unfolding expression_of
  expression_sound ss = bind (simple_sound ss) (λ a mid h. go a mid h (relation (head mid).symbol) refl)
    where
      go : (a : Simp) (mid : List PlacedSym) → SimpR a d ss mid → (x : Option Relation) → relation (head mid).symbol ≡ x → Holds (λ t rest. ExprR t d ss rest) (related_of f x a mid)
      go a mid h None e = done h
      go a mid h (Some r) e = bind (simple_sound (tail mid)) (λ b rest k. done (mid, h, (tail mid, starts_relation r mid e, k)))

  -- a list of expressions, as the tree has it
  more_of : (xs : List Expr) (ss rest : List PlacedSym) → repeated (λ x. mark m.Comma then ExprR x d) xs ss rest → MoreR (exprs xs) d ss rest
  more_of [] ss rest h = h
  more_of (x ∷ xs) ss rest h = (h.1.0, h.1.1, (h.0, h.1.2, more_of xs h.0 rest h.2))

  exprs_of_lem : (xs : List Expr) (ss rest : List PlacedSym) → separated m.Comma (λ x. ExprR x d) xs ss rest → ExprsR (exprs xs) d ss rest
  exprs_of_lem [] ss rest h = h
  exprs_of_lem (x ∷ xs) ss rest h = (h.0, h.1, more_of xs h.0 rest h.2)

  pub enclosed_within : (close : Mark) (ss : List PlacedSym) → Holds (λ xs rest. (ExprsR (exprs xs) d then mark close) ss rest) (after (list_of m.Comma (expression_of f) ss) (λ es left. mapped (λ _. es) (expect_mark close left)))
  enclosed_within close ss =
      bind (list_holds m.Comma (expression_of f) (λ x. ExprR x d) expression_sound ss)
      (λ es left h. bind (mark_holds close left) (λ _ rest k. done (left, exprs_of_lem es ss left h, k)))

-- ---- what opens

abbrev pub Keeps : ℕ → Type 0
Keeps d = (ss : List PlacedSym) → Holds (λ t rest. FacR t d ss rest) (factor d ss)

-- the reader one level deeper keeps to the grammar, where there is one
abbrev pub KeepsIn : ℕ → Type 0
KeepsIn zero = Unit {0}
KeepsIn (suc d) = Keeps d

pub enclosed_sound : (d : ℕ) → KeepsIn d → (close : Mark) (ss : List PlacedSym) → Holds (λ xs rest. deeper d (λ e. ExprsR (exprs xs) e then mark close) (tail ss) rest) (enclosed_of (inner factor d) close ss)
unfolding enclosed_of inner
enclosed_sound zero w close ss = faulted
enclosed_sound (suc d) w close ss = enclosed_within d (factor d) w close (tail ss)

module _ (d : ℕ) (w : KeepsIn d) where
  SelR : Sel → Phrase
  SelR (to_field n) = mark m.Dot then ident n
  SelR (to_index es) = mark m.LeftBracket then deeper d (λ e. ExprsR (exprs es) e then mark m.RightBracket)

  selector_sound : (x : Selecting) (ss : List PlacedSym) → selecting (head ss).symbol ≡ Some x → Holds (λ s rest. SelR s ss rest) (selector_of (inner factor d) x ss)
  unfolding SelR
  selector_sound by_field ss e = bind (ident_holds (tail ss)) (λ n rest h. done (tail ss, ((head ss).place, starts_mark m.Dot ss (starts_field ss e)), h))
  selector_sound by_index ss e = bind (enclosed_sound d w m.RightBracket ss) (λ es rest h. done (tail ss, ((head ss).place, starts_mark m.LeftBracket ss (starts_index ss e)), h))

  selects : (x : Sel) (xs : List Sel) (ss mid rest : List PlacedSym) → SelR x ss mid → SelsR (sels xs) d mid rest → SelsR (select x (sels xs)) d ss rest
  unfolding SelR
  selects (to_field n) xs ss mid rest h k = (h.0, h.1, (mid, h.2, k))
  selects (to_index es) xs ss mid rest h k = (h.0, h.1, (mid, h.2, k))

  pub selectors_sound : (ss : List PlacedSym) → Holds (λ xs rest. SelsR (sels xs) d ss rest) (selectors_of (inner factor d) ss)
  unfolding selectors_of
  selectors_sound ss = loop_holds selecting (selector_of (inner factor d)) SelR selector_sound (λ xs. SelsR (sels xs) d) (λ l. refl) selects ss

  pub named_sound : (n : Lex) (ss all : List PlacedSym) → ident n all ss → Holds (λ t rest. FacR t d all rest) (named_of (inner factor d) n ss)
  unfolding named_of
  named_sound n ss all i =
      choose (sym_is_mark m.LeftParen (head ss).symbol)
      (λ e. bind (enclosed_sound d w m.RightParen ss) (λ es rest h. done (ss, i, (tail ss, ((head ss).place, starts_mark m.LeftParen ss e), h))))
      (λ e. bind (selectors_sound ss) (λ xs rest h. done (ss, i, h)))

paren_sound : (d : ℕ) → KeepsIn d → (ss : List PlacedSym) → sym_is_mark m.LeftParen (head ss).symbol ≡ true → Holds (λ t rest. FacR t d ss rest) (factor_at (inner factor d) an_opening ss)
unfolding inner
paren_sound zero w ss e = faulted
paren_sound (suc d) w ss e =
    bind (expression_sound d (factor d) w (tail ss))
    (λ x left h. bind (mark_holds m.RightParen left) (λ _ rest k. done (tail ss, starts_mark m.LeftParen ss e, (left, h, k))))

not_sound : (d : ℕ) → KeepsIn d → (ss : List PlacedSym) → sym_is_word w.Not (head ss).symbol ≡ true → Holds (λ t rest. FacR t d ss rest) (factor_at (inner factor d) a_not ss)
unfolding inner
not_sound zero w ss e = faulted
not_sound (suc d) k ss e = bind (k (tail ss)) (λ x rest h. done (tail ss, starts_word w.Not ss e, h))

factor_step : (d : ℕ) → KeepsIn d → (ss : List PlacedSym) → Holds (λ t rest. FacR t d ss rest) (factor_of (inner factor d) ss)
unfolding factor_of
factor_step d w ss = go (start (head ss).symbol) refl
  where
    go : (x : Start) → start (head ss).symbol ≡ x → Holds (λ t rest. FacR t d ss rest) (factor_at (inner factor d) x ss)
    go (a_number b) e = done (starts_number b ss e)
    go (a_character b) e = done (starts_character b ss e)
    go (a_name b) e = named_sound d w (b, (head ss).place) (tail ss) ss (starts_name b ss e)
    go an_opening e = paren_sound d w ss (opening_is (head ss).symbol e)
    go a_not e = not_sound d w ss (not_is (head ss).symbol e)
    go other e = faulted

pub factor_sound : (d : ℕ) → Keeps d
unfolding factor inner
factor_sound zero ss = factor_step zero tt ss
factor_sound (suc d) ss = factor_step (suc d) (λ l. factor_sound d l) ss

pub keeps_in : (d : ℕ) → KeepsIn d
keeps_in zero = tt
keeps_in (suc d) = factor_sound d

pub expr_sound : (d : ℕ) (ss : List PlacedSym) → Holds (λ t rest. ExprR t d ss rest) (expression_of (factor d) ss)
expr_sound d ss = expression_sound d (factor d) (factor_sound d) ss
