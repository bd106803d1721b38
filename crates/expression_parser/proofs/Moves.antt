-- What the readers of expressions answer, step by step, in the forms that the code has. Assumes nothing.
use Rattle.std.proofs.Common.{◌≡◌, ℕ, zero, suc, ◌<◌, true, false, List, [], ◌∷◌, ◌++◌, map, length, Some, None, Option, Ok, sym, refl, ap, ◌∙◌}
use Rattle.fault.specs.declared.Cause.TheVariants.{Syntax, TooDeep}
use Rattle.symbol.specs.Symbols.{Sym, PlacedSym, sym_of, placed_of}
use Rattle.symbol.specs.declared.Placed.{Placed}
use Rattle.symbol.specs.declared.mark.Mark.{Mark}
use Rattle.symbol.specs.declared.mark.Mark.TheVariants.{LeftParen, RightParen, RightBracket, LeftBracket, Dot, Comma}
use Rattle.cursor.specs.Kinds.{sym_is_mark}
use Rattle.cursor.specs.Reading.{Out, Reads, got, fault, after, mapped, head, tail, Lex, ident_of, inner, paired, list_of, expect_mark}
use Rattle.cursor.proofs.Loops.{Reading, Turns, all_inner, after_after, mapped_turn, whole, push_again, turn_less, behind_turn, behind_less, behind_pushed}
use Rattle.cursor.specs.Promises.{Opens}
use Rattle.cursor.proofs.Steps.{at_first, onward, nested_none, nested_some}
use Rattle.expression_tree.specs.declared.Relation.{Relation}
use Rattle.expression_tree.specs.declared.Sign.{Sign}
use Rattle.expression_tree.specs.declared.Adding.{Adding}
use Rattle.expression_tree.specs.declared.Multiplying.{Multiplying}
use Rattle.expression_tree.specs.declared.Addend.{Addend}
use Rattle.expression_tree.specs.declared.Multiplier.{Multiplier}
use Rattle.expression_tree.specs.declared.Selector.{Selector}
use Rattle.expression_tree.specs.Trees.{Expr, Simp, Ter, Fac, Sel, to_field, to_index, addend_of, multiplier_of, sel_of}
use Rattle.expression_tree.specs.Trees as tree
use Rattle.expression_parser.specs.Classes.{relation, sign, adding, multiplying, Start, a_number, a_character, a_name, an_opening, a_not, other, start, by_field, by_index, selecting}
use Rattle.expression_parser.specs.Readers.{unsigned, multipliers_of, term_of, addends_of, simple_of, related_of, expression_of, enclosed_of, selector_of, selectors_of, named_of, factor_at, factor_of, factor}
use Rattle.expression_parser.proofs.Within.{factor_within, term_within, addend_turns, multiplier_turns, selector_turns}

-- ---- expression, simple, term

pub expression_is : (f : Reads Fac) (ss : List PlacedSym) → expression_of f ss ≡ after (simple_of f ss) (λ a rest. related_of f (relation (head rest).symbol) a rest)
unfolding expression_of
expression_is f ss = refl

pub expression_plain : (f : Reads Fac) (ss mid : List PlacedSym) (a : Simp) → simple_of f ss ≡ got a mid → relation (head mid).symbol ≡ None → expression_of f ss ≡ got (tree.plain a) mid
expression_plain f ss mid a e g = onward _ (expression_is f ss) e ∙ ap (λ x. related_of f x a mid) g

pub expression_related : (f : Reads Fac) (ss mid rest : List PlacedSym) (a : Simp) (r : Relation) → simple_of f ss ≡ got a mid → relation (head mid).symbol ≡ Some r → rest ≡ tail mid → expression_of f ss ≡ mapped (tree.related a r) (simple_of f rest)
expression_related f ss mid rest a r e g h = onward _ (expression_is f ss) e ∙ ap (λ x. related_of f x a mid) g ∙ ap (λ l. mapped (tree.related a r) (simple_of f l)) (sym h)

pub simple_is : (f : Reads Fac) (ss rest : List PlacedSym) (g : Option Sign) (p : Placed) → (g ≡ sign (head ss).symbol) × (rest ≡ unsigned g ss) → placed_of p ≡ head ss → simple_of f ss ≡ after (term_of f rest) (λ t left. mapped (λ xs. tree.sum p.place g t (tree.adds xs)) (addends_of f left))
unfolding simple_of
simple_is f ss rest g p e h = rw (← e.0, e.1, ap (λ x. x.place) h)

-- up to the repetition
pub simple_begins : (f : Reads Fac) (ss mid rest : List PlacedSym) (g : Option Sign) (p : Placed) (t : Ter) → (g ≡ sign (head ss).symbol) × (mid ≡ unsigned g ss) → placed_of p ≡ head ss → term_of f mid ≡ got t rest → simple_of f ss ≡ mapped (λ xs. tree.sum p.place g t (tree.adds xs)) (addends_of f rest)
simple_begins f ss mid rest g p t e h m = onward _ (simple_is f ss mid g p e h) m

pub term_is : (f : Reads Fac) (ss : List PlacedSym) → term_of f ss ≡ after (f ss) (λ x rest. mapped (λ ms. tree.product x (tree.muls ms)) (multipliers_of f rest))
unfolding term_of
term_is f ss = refl

pub term_begins : (f : Reads Fac) (ss rest : List PlacedSym) (x : Fac) → f ss ≡ got x rest → term_of f ss ≡ mapped (λ ms. tree.product x (tree.muls ms)) (multipliers_of f rest)
term_begins f ss rest x m = onward _ (term_is f ss) m

module _ (d : ℕ) where
  pub addends_whole : (xs none : List Addend) (ss mid : List PlacedSym) → none ≡ [] → adding (head ss).symbol ≡ None → mapped (λ bs. map addend_of xs ++ bs) (addends_of (factor d) ss) ≡ mapped (λ bs. map addend_of none ++ bs) (addends_of (factor d) mid) → addends_of (factor d) mid ≡ got (map addend_of xs) ss
  addends_whole xs none ss mid e n i = whole adding _ (addend_turns (factor d) (factor_within d)) addend_of xs none ss _ e n i

  pub addend_turn : {C : Type 0} (g : List (Adding × Ter) → C) (o : Adding) (ss rest : List PlacedSym) → adding (head ss).symbol ≡ Some o → rest ≡ tail ss → mapped g (addends_of (factor d) ss) ≡ after (term_of (factor d) rest) (λ t left. mapped (λ xs. g ((o, t) ∷ xs)) (addends_of (factor d) left))
  addend_turn g o ss rest e h = behind_turn adding _ (term_of (factor d)) refl (term_within (factor d) (factor_within d)) g o ss rest e h

  pub addend_less : (o : Adding) (ss rest left : List PlacedSym) (t : Ter) → adding (head ss).symbol ≡ Some o → rest ≡ tail ss → term_of (factor d) rest ≡ got t left → length left < length ss
  addend_less o ss rest left t e h g = behind_less adding paired (term_of (factor d)) refl (term_within (factor d) (factor_within d)) o ss rest left t e h g

  pub addend_again : (xs ys : List Addend) (x : Addend) (o : Adding) (ss rest left : List PlacedSym) (t : Ter) {k : Out (List (Adding × Ter))} → adding (head ss).symbol ≡ Some o → rest ≡ tail ss → term_of (factor d) rest ≡ got t left → addend_of x ≡ (o, t) → ys ≡ xs ++ x ∷ [] → mapped (λ bs. map addend_of xs ++ bs) (addends_of (factor d) ss) ≡ k → mapped (λ bs. map addend_of ys ++ bs) (addends_of (factor d) left) ≡ k
  addend_again xs ys x o ss rest left t e h g a y i =
      behind_pushed adding paired (term_of (factor d)) refl (term_within (factor d) (factor_within d)) addend_of xs ys x o ss rest left t e h g a y i

  pub multipliers_whole : (xs none : List Multiplier) (ss mid : List PlacedSym) → none ≡ [] → multiplying (head ss).symbol ≡ None → mapped (λ bs. map multiplier_of xs ++ bs) (multipliers_of (factor d) ss) ≡ mapped (λ bs. map multiplier_of none ++ bs) (multipliers_of (factor d) mid) → multipliers_of (factor d) mid ≡ got (map multiplier_of xs) ss
  multipliers_whole xs none ss mid e n i = whole multiplying _ (multiplier_turns (factor d) (factor_within d)) multiplier_of xs none ss _ e n i

  pub multiplier_turn : {C : Type 0} (g : List (Multiplying × Fac) → C) (o : Multiplying) (ss rest : List PlacedSym) → multiplying (head ss).symbol ≡ Some o → rest ≡ tail ss → mapped g (multipliers_of (factor d) ss) ≡ after (factor d rest) (λ t left. mapped (λ xs. g ((o, t) ∷ xs)) (multipliers_of (factor d) left))
  multiplier_turn g o ss rest e h = behind_turn multiplying _ (factor d) refl (factor_within d) g o ss rest e h

  pub multiplier_less : (o : Multiplying) (ss rest left : List PlacedSym) (t : Fac) → multiplying (head ss).symbol ≡ Some o → rest ≡ tail ss → factor d rest ≡ got t left → length left < length ss
  multiplier_less o ss rest left t e h g = behind_less multiplying paired (factor d) refl (factor_within d) o ss rest left t e h g

  pub multiplier_again : (xs ys : List Multiplier) (x : Multiplier) (o : Multiplying) (ss rest left : List PlacedSym) (t : Fac) {k : Out (List (Multiplying × Fac))} → multiplying (head ss).symbol ≡ Some o → rest ≡ tail ss → factor d rest ≡ got t left → multiplier_of x ≡ (o, t) → ys ≡ xs ++ x ∷ [] → mapped (λ bs. map multiplier_of xs ++ bs) (multipliers_of (factor d) ss) ≡ k → mapped (λ bs. map multiplier_of ys ++ bs) (multipliers_of (factor d) left) ≡ k
  multiplier_again xs ys x o ss rest left t e h g a y i =
      behind_pushed multiplying paired (factor d) refl (factor_within d) multiplier_of xs ys x o ss rest left t e h g a y i

  -- ---- factor, by its first symbol

  pub factor_is : factor d ≡ factor_of (inner factor d)
  unfolding factor inner
  factor_is = go d
    where
      go : (n : ℕ) → factor n ≡ factor_of (inner factor n)
      go zero = refl
      go (suc n) = refl

  pub factor_at_lem : (ss : List PlacedSym) (x : Start) → start (head ss).symbol ≡ x → factor d ss ≡ factor_at (inner factor d) x ss
  unfolding factor_of
  factor_at_lem ss x e = ap (λ r. r ss) factor_is ∙ ap (λ y. factor_at (inner factor d) y ss) e

  pub factor_number : (ss rest : List PlacedSym) (b : List ℕ) (n : Lex) → start (head ss).symbol ≡ a_number b → n ≡ (b, (head ss).place) → rest ≡ tail ss → factor d ss ≡ got (tree.number n) rest
  factor_number ss rest b n e f g = factor_at_lem ss _ e ∙ rw (f, g)

  pub factor_character : (ss rest : List PlacedSym) (b : List ℕ) (n : Lex) → start (head ss).symbol ≡ a_character b → n ≡ (b, (head ss).place) → rest ≡ tail ss → factor d ss ≡ got (tree.character n) rest
  factor_character ss rest b n e f g = factor_at_lem ss _ e ∙ rw (f, g)

  pub factor_name : (ss rest : List PlacedSym) (b : List ℕ) (n : Lex) → start (head ss).symbol ≡ a_name b → n ≡ (b, (head ss).place) → rest ≡ tail ss → factor d ss ≡ named_of (inner factor d) n rest
  factor_name ss rest b n e f g = factor_at_lem ss _ e ∙ rw (f, g)

  pub factor_paren : (e : ℕ) (ss rest : List PlacedSym) (p : Placed) → placed_of p ≡ head ss → start (sym_of p.symbol) ≡ an_opening → Opens d (Ok e) ss rest → factor d ss ≡ after (expression_of (factor e) rest) (λ x left. mapped (λ _. tree.paren p.place x) (expect_mark RightParen left))
  factor_paren e ss rest p h s o = factor_at_lem ss _ (at_first start p ss h s) ∙ nested_some factor d e ss rest _ o.0 o.1 ∙ rw (ap (λ x. x.place) h)

  pub factor_not : (e : ℕ) (ss rest : List PlacedSym) (p : Placed) → placed_of p ≡ head ss → start (sym_of p.symbol) ≡ a_not → Opens d (Ok e) ss rest → factor d ss ≡ mapped (tree.negated p.place) (factor e rest)
  factor_not e ss rest p h s o = factor_at_lem ss _ (at_first start p ss h s) ∙ nested_some factor d e ss rest _ o.0 o.1 ∙ rw (ap (λ x. x.place) h)

  pub paren_deep : (ss : List PlacedSym) → start (head ss).symbol ≡ an_opening → d ≡ 0 → factor d ss ≡ fault TooDeep ss
  paren_deep ss s h = factor_at_lem ss _ s ∙ nested_none factor d ss _ h

  pub not_deep : (ss : List PlacedSym) → start (head ss).symbol ≡ a_not → d ≡ 0 → factor d ss ≡ fault TooDeep ss
  not_deep ss s h = factor_at_lem ss _ s ∙ nested_none factor d ss _ h

  -- ---- what follows a name

  pub named_call : (n : Lex) (ss : List PlacedSym) → sym_is_mark LeftParen (head ss).symbol ≡ true → named_of (inner factor d) n ss ≡ mapped (λ es. tree.call n (tree.exprs es)) (enclosed_of (inner factor d) RightParen ss)
  unfolding named_of
  named_call n ss e = rw e

  pub named_variable : (n : Lex) (ss : List PlacedSym) → sym_is_mark LeftParen (head ss).symbol ≡ false → named_of (inner factor d) n ss ≡ mapped (λ xs. tree.variable n (tree.sels xs)) (selectors_of (inner factor d) ss)
  unfolding named_of
  named_variable n ss e = rw e

  turns : Turns selecting (selector_of (inner factor d))
  turns = selector_turns (inner factor d) (all_inner Reading factor d factor_within)

  by_dot : (s : Sym) → sym_is_mark Dot s ≡ true → selecting s ≡ Some by_field
  by_dot s e = rw e

  by_bracket : (s : Sym) → sym_is_mark Dot s ≡ false → sym_is_mark LeftBracket s ≡ true → selecting s ≡ Some by_index
  by_bracket s e f = rw (e, f)

  by_none : (s : Sym) → sym_is_mark Dot s ≡ false → sym_is_mark LeftBracket s ≡ false → selecting s ≡ None
  by_none s e f = rw (e, f)

  pub selectors_whole : (xs none : List Selector) (ss mid : List PlacedSym) → none ≡ [] → sym_is_mark Dot (head ss).symbol ≡ false → sym_is_mark LeftBracket (head ss).symbol ≡ false → mapped (λ bs. map sel_of xs ++ bs) (selectors_of (inner factor d) ss) ≡ mapped (λ bs. map sel_of none ++ bs) (selectors_of (inner factor d) mid) → selectors_of (inner factor d) mid ≡ got (map sel_of xs) ss
  unfolding selectors_of
  selectors_whole xs none ss mid e f g i = whole _ _ turns sel_of xs none ss _ e (by_none (head ss).symbol f g) i

  field_item : (ss rest left : List PlacedSym) (n : Lex) → rest ≡ tail ss → ident_of rest ≡ got n left → selector_of (inner factor d) by_field ss ≡ got (to_field n) left
  unfolding after
  field_item ss rest left n h g = ap (λ l. mapped to_field (ident_of l)) (sym h) ∙ ap (mapped to_field) g

  pub field_turn : {C : Type 0} (g : List Sel → C) (ss rest : List PlacedSym) → sym_is_mark Dot (head ss).symbol ≡ true → rest ≡ tail ss → mapped g (selectors_of (inner factor d) ss) ≡ after (ident_of rest) (λ n left. mapped (λ xs. g (to_field n ∷ xs)) (selectors_of (inner factor d) left))
  unfolding selectors_of after
  field_turn g ss rest e h = mapped_turn _ _ turns g by_field ss (by_dot (head ss).symbol e) ∙ after_after (ident_of (tail ss)) _ _ ∙ ap (λ l. after (ident_of l) (λ n left. mapped (λ xs. g (to_field n ∷ xs)) (selectors_of (inner factor d) left))) (sym h)

  pub field_again : (xs ys : List Selector) (x : Selector) (ss rest left : List PlacedSym) (n : Lex) {k : Out (List Sel)} → sym_is_mark Dot (head ss).symbol ≡ true → rest ≡ tail ss → ident_of rest ≡ got n left → sel_of x ≡ to_field n → ys ≡ xs ++ x ∷ [] → mapped (λ bs. map sel_of xs ++ bs) (selectors_of (inner factor d) ss) ≡ k → mapped (λ bs. map sel_of ys ++ bs) (selectors_of (inner factor d) left) ≡ k
  unfolding selectors_of
  field_again xs ys x ss rest left n e h g a y i =
      push_again _ _ turns sel_of xs ys x by_field ss left (by_dot (head ss).symbol e) (field_item ss rest left n h g ∙ ap (λ b. got b left) (sym a)) y i

  pub field_less : (ss rest left : List PlacedSym) (n : Lex) → sym_is_mark Dot (head ss).symbol ≡ true → rest ≡ tail ss → ident_of rest ≡ got n left → length left < length ss
  field_less ss rest left n e h g = turn_less _ _ turns by_field ss left (to_field n) (by_dot (head ss).symbol e) (field_item ss rest left n h g)

  index_item : (ss left : List PlacedSym) (es : List Expr) → enclosed_of (inner factor d) RightBracket ss ≡ got es left → selector_of (inner factor d) by_index ss ≡ got (to_index es) left
  unfolding after
  index_item ss left es g = ap (mapped to_index) g

  pub index_turn : {C : Type 0} (g : List Sel → C) (ss : List PlacedSym) → sym_is_mark Dot (head ss).symbol ≡ false → sym_is_mark LeftBracket (head ss).symbol ≡ true → mapped g (selectors_of (inner factor d) ss) ≡ after (enclosed_of (inner factor d) RightBracket ss) (λ es left. mapped (λ xs. g (to_index es ∷ xs)) (selectors_of (inner factor d) left))
  unfolding selectors_of after
  index_turn g ss e f = mapped_turn _ _ turns g by_index ss (by_bracket (head ss).symbol e f) ∙ after_after (enclosed_of (inner factor d) RightBracket ss) _ _

  pub index_again : (xs ys : List Selector) (x : Selector) (ss left : List PlacedSym) (es : List Expr) {k : Out (List Sel)} → sym_is_mark Dot (head ss).symbol ≡ false → sym_is_mark LeftBracket (head ss).symbol ≡ true → enclosed_of (inner factor d) RightBracket ss ≡ got es left → sel_of x ≡ to_index es → ys ≡ xs ++ x ∷ [] → mapped (λ bs. map sel_of xs ++ bs) (selectors_of (inner factor d) ss) ≡ k → mapped (λ bs. map sel_of ys ++ bs) (selectors_of (inner factor d) left) ≡ k
  unfolding selectors_of
  index_again xs ys x ss left es e f g a y i =
      push_again _ _ turns sel_of xs ys x by_index ss left (by_bracket (head ss).symbol e f) (index_item ss left es g ∙ ap (λ b. got b left) (sym a)) y i

  pub index_less : (ss left : List PlacedSym) (es : List Expr) → sym_is_mark Dot (head ss).symbol ≡ false → sym_is_mark LeftBracket (head ss).symbol ≡ true → enclosed_of (inner factor d) RightBracket ss ≡ got es left → length left < length ss
  index_less ss left es e f g = turn_less _ _ turns by_index ss left (to_index es) (by_bracket (head ss).symbol e f) (index_item ss left es g)

  -- ---- what is enclosed

  pub enclosed_deep : (close : Mark) (ss : List PlacedSym) → d ≡ 0 → enclosed_of (inner factor d) close ss ≡ fault TooDeep ss
  unfolding enclosed_of
  enclosed_deep close ss h = nested_none factor d ss _ h

  pub enclosed_is : (e : ℕ) (close : Mark) (ss rest : List PlacedSym) → Opens d (Ok e) ss rest → enclosed_of (inner factor d) close ss ≡ after (list_of Comma (expression_of (factor e)) rest) (λ es left. mapped (λ _. es) (expect_mark close left))
  unfolding enclosed_of
  enclosed_is e close ss rest o = nested_some factor d e ss rest _ o.0 o.1

pub factor_other : (d : ℕ) (ss : List PlacedSym) → start (head ss).symbol ≡ other → factor d ss ≡ fault Syntax ss
factor_other d ss e = factor_at_lem d ss _ e
