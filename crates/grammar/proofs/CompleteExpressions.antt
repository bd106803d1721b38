-- Every expression of the grammar is read back. Assumes nothing.
use Rattle.std.proofs.Common.{◌≡◌, ℕ, zero, suc, true, false, cond, List, ◌∷◌, Some, None, Option, sym, refl, ap, ◌∙◌, arith}
use Rattle.symbol.specs.Symbols.{Sym, PlacedSym}
use Rattle.symbol.specs.Symbols as symbol
use Rattle.symbol.specs.declared.mark.Mark.{Mark}
use Rattle.symbol.specs.declared.mark.Mark.TheVariants as m
use Rattle.cursor.specs.Kinds.{sym_is_mark}
use Rattle.cursor.specs.Reading.{got, mapped, head, tail, Lex, ident_of, inner, separator, further_of, list_of}
use Rattle.cursor.proofs.Loops.{further_turns, All, Reading}
use Rattle.expression_tree.specs.declared.Relation.{Relation}
use Rattle.expression_tree.specs.declared.Sign.{Sign}
use Rattle.expression_tree.specs.declared.Adding.{Adding}
use Rattle.expression_tree.specs.declared.Multiplying.{Multiplying}
use Rattle.expression_tree.specs.Trees.{Expr, Simp, Ter, Fac, Adds, Muls, Sels, Exprs, to_field, to_index, adds, sels, exprs}
use Rattle.expression_tree.specs.Trees as tree
use Rattle.expression_parser.specs.Classes.{relation, sign, adding, multiplying, selecting, by_field, by_index}
use Rattle.expression_parser.specs.Readers.{multipliers_of, term_of, addends_of, unsigned, signed_of, simple_of, related_of, expression_of, enclosed_of, selectors_of, named_of, factor_of, factor}
use Rattle.expression_parser.proofs.Within.{factor_within, expression_within, multiplier_turns, addend_turns, selector_turns}
use Rattle.grammar.specs.Phrases.{◌at◌, ◌then◌, symbol_of, mark, deeper}
use Rattle.grammar.specs.Expressions.{relation_sym, sign_sym, adding_sym, multiplying_sym, SignR, ExprR, SimpR, AddsR, TerR, MulsR, FacR, SelsR, ExprsR, MoreR}
use Rattle.grammar.specs.Stops.{StopF, StopT, StopS, StopE}
use Rattle.grammar.proofs.Lists.{add_list, adds_back, mul_list, muls_back, expr_list, exprs_back, sel_list, sels_back}
use Rattle.grammar.proofs.Steps.{on, first, first_at, same_first, left_of, mark_read, ident_read, stops, turns}

relation_of_lem : (r : Relation) → relation (relation_sym r) ≡ Some r
relation_of_lem r = grind arith

pub sign_of : (r : Sign) → sign (sign_sym r) ≡ Some r
sign_of r = grind arith

adding_of_lem : (r : Adding) → adding (adding_sym r) ≡ Some r
adding_of_lem r = grind arith

multiplying_of_lem : (r : Multiplying) → multiplying (multiplying_sym r) ≡ Some r
multiplying_of_lem r = grind arith

stop_relation : (r : Relation) → StopS (relation_sym r)
stop_relation r = (((grind arith, grind arith), grind arith), grind arith)

stop_adding : (r : Adding) → StopT (adding_sym r)
stop_adding r = ((grind arith, grind arith), grind arith)

stop_multiplying : (r : Multiplying) → StopF (multiplying_sym r)
stop_multiplying r = (grind arith, grind arith)

-- ---- what stands first in a repetition: its own first symbol, or what follows it

adds_first : (P : Sym → Type 0) → ((o : Adding) → P (adding_sym o)) → (a : Adds) (d : ℕ) (ss rest : List PlacedSym) → AddsR a d ss rest → P (head rest).symbol → P (head ss).symbol
adds_first P q tree.no_addend d ss rest h p = same_first P h p
adds_first P q (tree.addend o t a) d ss rest h p = first P h.1 (q o)

muls_first : (P : Sym → Type 0) → ((o : Multiplying) → P (multiplying_sym o)) → (a : Muls) (d : ℕ) (ss rest : List PlacedSym) → MulsR a d ss rest → P (head rest).symbol → P (head ss).symbol
muls_first P q tree.no_multiplier d ss rest h p = same_first P h p
muls_first P q (tree.multiplier o f a) d ss rest h p = first P h.1 (q o)

pub sels_first : (P : Sym → Type 0) → P (symbol.mark m.Dot) → P (symbol.mark m.LeftBracket) → (a : Sels) (d : ℕ) (ss rest : List PlacedSym) → SelsR a d ss rest → P (head rest).symbol → P (head ss).symbol
sels_first P q r tree.no_selector d ss rest h p = same_first P h p
sels_first P q r (tree.field n s) d ss rest h p = first P h.1 q
sels_first P q r (tree.index x s) d ss rest h p = first P h.1 r

more_first : (P : Sym → Type 0) → P (symbol.mark m.Comma) → (a : Exprs) (d : ℕ) (ss rest : List PlacedSym) → MoreR a d ss rest → P (head rest).symbol → P (head ss).symbol
more_first P q tree.no_expression d ss rest h p = same_first P h p
more_first P q (tree.item x a) d ss rest h p = first P h.1 q

-- ---- no term begins with a sign

fac_first : (f : Fac) (d : ℕ) (ss rest : List PlacedSym) → FacR f d ss rest → sign (head ss).symbol ≡ None
fac_first (tree.number n) d ss rest h = first_at (λ s. sign s ≡ None) h refl
fac_first (tree.character n) d ss rest h = first_at (λ s. sign s ≡ None) h refl
fac_first (tree.variable n s) d ss rest h = first_at (λ s. sign s ≡ None) h.1 refl
fac_first (tree.call n x) d ss rest h = first_at (λ s. sign s ≡ None) h.1 refl
fac_first (tree.paren k x) d ss rest h = first_at (λ s. sign s ≡ None) h.1 refl
fac_first (tree.negated k f) d ss rest h = first_at (λ s. sign s ≡ None) h.1 refl

ter_first : (t : Ter) (d : ℕ) (ss rest : List PlacedSym) → TerR t d ss rest → sign (head ss).symbol ≡ None
ter_first (tree.product f a) d ss rest h = fac_first f d ss h.0 h.1

sign_first : (g : Option Sign) (t : Ter) (d : ℕ) (ss mid rest : List PlacedSym) → SignR g ss mid → TerR t d mid rest → sign (head ss).symbol ≡ g
sign_first None t d ss mid rest s h = same_first (λ x. sign x ≡ None) s (ter_first t d mid rest h)
sign_first (Some g) t d ss mid rest s h = first (λ x. sign x ≡ Some g) s (sign_of g)

unsigned_is : (g : Option Sign) (ss mid : List PlacedSym) → SignR g ss mid → unsigned g ss ≡ mid
unsigned_is None ss mid s = s
unsigned_is (Some g) ss mid s = left_of s

-- the readers one level deeper read nothing twice
inner_within : (d : ℕ) → All Reading (inner factor d)
unfolding inner
inner_within zero = tt
inner_within (suc d) = factor_within d

-- a factor by its first symbol
factor_number : (d : ℕ) (n : Lex) (rest : List PlacedSym) → factor d (symbol.number n.0 at n.1 ∷ rest) ≡ got (tree.number n) rest
unfolding head tail factor factor_of
factor_number zero n rest = refl
factor_number (suc d) n rest = refl

factor_character : (d : ℕ) (n : Lex) (rest : List PlacedSym) → factor d (symbol.character n.0 at n.1 ∷ rest) ≡ got (tree.character n) rest
unfolding head tail factor factor_of
factor_character zero n rest = refl
factor_character (suc d) n rest = refl

factor_name : (d : ℕ) (n : Lex) (rest : List PlacedSym) → factor d (symbol.name n.0 at n.1 ∷ rest) ≡ named_of (inner factor d) n rest
unfolding head tail factor factor_of inner
factor_name zero n rest = refl
factor_name (suc d) n rest = refl

mutual
  unfolding head tail factor factor_of expression_of simple_of term_of named_of selectors_of enclosed_of list_of inner

  pub expr_complete : (t : Expr) (d : ℕ) (ss rest : List PlacedSym) → ExprR t d ss rest → StopE (head rest).symbol → expression_of (factor d) ss ≡ got t rest
  expr_complete (tree.plain a) d ss rest h k = on _ (simp_complete a d ss rest h k.0) (ap (λ x. related_of (factor d) x a rest) k.1)
  expr_complete (tree.related a r b) d ss rest h k =
      on _ (simp_complete a d ss h.0 h.1 (first StopS h.2.1 (stop_relation r)))
      (ap (λ x. related_of (factor d) x a h.0) (first (λ s. relation s ≡ Some r) h.2.1 (relation_of_lem r))
      ∙ on _ (ap (simple_of (factor d)) (left_of h.2.1) ∙ simp_complete b d h.2.0 rest h.2.2 k.0) refl)

  simp_complete : (t : Simp) (d : ℕ) (ss rest : List PlacedSym) → SimpR t d ss rest → StopS (head rest).symbol → simple_of (factor d) ss ≡ got t rest
  simp_complete (tree.sum p g t a) d ss rest h k =
      ap (λ x. signed_of (factor d) x ss) (sign_first g t d ss h.1.0 h.1.2.0 h.1.1 h.1.2.1)
      ∙ on _ (ap (term_of (factor d)) (unsigned_is g ss h.1.0 h.1.1) ∙ ter_complete t d h.1.0 h.1.2.0 h.1.2.1 (adds_first StopT stop_adding a d h.1.2.0 rest h.1.2.2 k.0))
      (on _ (adds_complete a d h.1.2.0 rest h.1.2.2 k) (ap (λ x. got (tree.sum x g t (adds (add_list a))) rest) (sym h.0) ∙ ap (λ x. got (tree.sum p g t x) rest) (adds_back a)))

  adds_complete : (a : Adds) (d : ℕ) (ss rest : List PlacedSym) → AddsR a d ss rest → StopS (head rest).symbol → addends_of (factor d) ss ≡ got (add_list a) rest
  adds_complete tree.no_addend d ss rest h k = stops adding _ (addend_turns (factor d) (factor_within d)) ss rest h k.1
  adds_complete (tree.addend o t a) d ss rest h k =
      turns adding _ (addend_turns (factor d) (factor_within d)) o (o, t) (add_list a) ss h.2.0 rest (first (λ s. adding s ≡ Some o) h.1 (adding_of_lem o))
      (on _ (ap (term_of (factor d)) (left_of h.1) ∙ ter_complete t d h.0 h.2.0 h.2.1 (adds_first StopT stop_adding a d h.2.0 rest h.2.2 k.0)) refl)
      (adds_complete a d h.2.0 rest h.2.2 k)

  ter_complete : (t : Ter) (d : ℕ) (ss rest : List PlacedSym) → TerR t d ss rest → StopT (head rest).symbol → term_of (factor d) ss ≡ got t rest
  ter_complete (tree.product f a) d ss rest h k =
      on _ (fac_complete f d ss h.0 h.1 (muls_first StopF stop_multiplying a d h.0 rest h.2 k.0))
      (on _ (muls_complete a d h.0 rest h.2 k) (ap (λ x. got (tree.product f x) rest) (muls_back a)))

  muls_complete : (a : Muls) (d : ℕ) (ss rest : List PlacedSym) → MulsR a d ss rest → StopT (head rest).symbol → multipliers_of (factor d) ss ≡ got (mul_list a) rest
  muls_complete tree.no_multiplier d ss rest h k = stops multiplying _ (multiplier_turns (factor d) (factor_within d)) ss rest h k.1
  muls_complete (tree.multiplier o f a) d ss rest h k =
      turns multiplying _ (multiplier_turns (factor d) (factor_within d)) o (o, f) (mul_list a) ss h.2.0 rest (first (λ s. multiplying s ≡ Some o) h.1 (multiplying_of_lem o))
      (on _ (ap (factor d) (left_of h.1) ∙ fac_complete f d h.0 h.2.0 h.2.1 (muls_first StopF stop_multiplying a d h.2.0 rest h.2.2 k.0)) refl)
      (muls_complete a d h.2.0 rest h.2.2 k)

  fac_complete : (f : Fac) (d : ℕ) (ss rest : List PlacedSym) → FacR f d ss rest → StopF (head rest).symbol → factor d ss ≡ got f rest
  fac_complete (tree.number n) d ss rest h k = ap (factor d) h ∙ factor_number d n rest
  fac_complete (tree.character n) d ss rest h k = ap (factor d) h ∙ factor_character d n rest
  fac_complete (tree.variable n s) d ss rest h k =
      ap (factor d) h.1 ∙ factor_name d n h.0
      ∙ ap (λ b. cond b (mapped (λ es. tree.call n (exprs es)) (enclosed_of (inner factor d) m.RightParen h.0)) (mapped (λ xs. tree.variable n (sels xs)) (selectors_of (inner factor d) h.0)))
      (sels_first (λ x. sym_is_mark m.LeftParen x ≡ false) refl refl s d h.0 rest h.2 k.1)
      ∙ on _ (sels_complete s d h.0 rest h.2 k.0) (ap (λ x. got (tree.variable n x) rest) (sels_back s))
  fac_complete (tree.call n x) d ss rest h k =
      ap (factor d) h.1 ∙ factor_name d n h.0
      ∙ ap (λ b. cond b (mapped (λ es. tree.call n (exprs es)) (enclosed_of (inner factor d) m.RightParen h.0)) (mapped (λ xs. tree.variable n (sels xs)) (selectors_of (inner factor d) h.0)))
      (first (λ s. sym_is_mark m.LeftParen s ≡ true) h.2.1 refl)
      ∙ on _ (enclosed_complete x d m.RightParen h.0 h.2.0 rest h.2.1 h.2.2 (((((refl, refl), refl), refl), refl), refl)) (ap (λ y. got (tree.call n y) rest) (exprs_back x))
  fac_complete (tree.paren p x) zero ss rest h k = absurd h.2
  fac_complete (tree.paren p x) (suc d) ss rest h k =
      ap (factor (suc d)) h.1
      ∙ on _ (expr_complete x d h.0 h.2.0 h.2.1 (first StopE h.2.2 ((((refl, refl), refl), refl), refl))) (on _ (mark_read m.RightParen h.2.0 rest h.2.2) refl)
  fac_complete (tree.negated p f) zero ss rest h k = absurd h.2
  fac_complete (tree.negated p f) (suc d) ss rest h k = ap (factor (suc d)) h.1 ∙ on _ (fac_complete f d h.0 rest h.2 k) refl

  pub sels_complete : (s : Sels) (d : ℕ) (ss rest : List PlacedSym) → SelsR s d ss rest → selecting (head rest).symbol ≡ None → selectors_of (inner factor d) ss ≡ got (sel_list s) rest
  sels_complete tree.no_selector d ss rest h k = stops selecting _ (selector_turns (inner factor d) (inner_within d)) ss rest h k
  sels_complete (tree.field n s) d ss rest h k =
      turns selecting _ (selector_turns (inner factor d) (inner_within d)) by_field (to_field n) (sel_list s) ss h.2.0 rest (first (λ x. selecting x ≡ Some by_field) h.1 refl)
      (on _ (ap ident_of (left_of h.1) ∙ ident_read n h.0 h.2.0 h.2.1) refl)
      (sels_complete s d h.2.0 rest h.2.2 k)
  sels_complete (tree.index x s) d ss rest h k =
      turns selecting _ (selector_turns (inner factor d) (inner_within d)) by_index (to_index (expr_list x)) (sel_list s) ss h.2.0 rest (first (λ y. selecting y ≡ Some by_index) h.1 refl)
      (on _ (enclosed_complete x d m.RightBracket ss h.0 h.2.0 h.1 h.2.1 (((((refl, refl), refl), refl), refl), refl)) refl)
      (sels_complete s d h.2.0 rest h.2.2 k)

  -- the symbol that opens, expressions and the mark that closes
  pub enclosed_complete : {o : Sym} (x : Exprs) (d : ℕ) (close : Mark) (ss mid rest : List PlacedSym) → symbol_of o ss mid → deeper d (λ e. ExprsR x e then mark close) mid rest → StopE (symbol.mark close) × (sym_is_mark m.Comma (symbol.mark close) ≡ false) → enclosed_of (inner factor d) close ss ≡ got (expr_list x) rest
  enclosed_complete tree.no_expression zero close ss mid rest o h k = absurd h
  enclosed_complete tree.no_expression (suc d) close ss mid rest o h k = absurd h.1
  enclosed_complete (tree.item x a) zero close ss mid rest o h k = absurd h
  enclosed_complete (tree.item x a) (suc d) close ss mid rest o h k =
      on _ (on _ (ap (expression_of (factor d)) (left_of o) ∙ expr_complete x d mid h.1.0 h.1.1 (more_first StopE ((((refl, refl), refl), refl), refl) a d h.1.0 h.0 h.1.2 (first StopE h.2 k.0)))
      (on _ (more_complete a d h.1.0 h.0 h.1.2 (first StopE h.2 k.0) (first (λ s. sym_is_mark m.Comma s ≡ false) h.2 k.1)) refl))
      (on _ (mark_read close h.0 rest h.2) refl)

  more_complete : (a : Exprs) (d : ℕ) (ss rest : List PlacedSym) → MoreR a d ss rest → StopE (head rest).symbol → sym_is_mark m.Comma (head rest).symbol ≡ false → further_of m.Comma (expression_of (factor d)) ss ≡ got (expr_list a) rest
  more_complete tree.no_expression d ss rest h k c = stops (separator m.Comma) _ (further_turns m.Comma (expression_of (factor d)) (expression_within (factor d) (factor_within d))) ss rest h (ap (λ v. cond v (Some tt) None) c)
  more_complete (tree.item x a) d ss rest h k c =
      turns (separator m.Comma) _ (further_turns m.Comma (expression_of (factor d)) (expression_within (factor d) (factor_within d))) tt x (expr_list a) ss h.2.0 rest (first (λ s. separator m.Comma s ≡ Some tt) h.1 refl)
      (on _ (ap (expression_of (factor d)) (left_of h.1) ∙ expr_complete x d h.0 h.2.0 h.2.1 (more_first StopE ((((refl, refl), refl), refl), refl) a d h.2.0 rest h.2.2 k)) refl)
      (more_complete a d h.2.0 rest h.2.2 k c)
