-- From a callee's answer to the caller's. Assumes nothing.
use Rattle.std.proofs.Common.{◌≡◌, ℕ, suc, Bool, true, List, [], ◌∷◌, ◌++◌, map, IsErrAnd, Some, Ok, Err, Result, sym, refl, ap, ◌∙◌, subst}
use Rattle.std.proofs.lemmas.Result.{err_from_is_err_and}
use Rattle.fault.specs.declared.Cause.{Cause}
use Rattle.fault.specs.declared.Cause.TheVariants.{TooDeep}
use Rattle.symbol.specs.Symbols.{Sym, PlacedSym, sym_of, placed_of}
use Rattle.symbol.specs.declared.Placed.{Placed}
use Rattle.symbol.specs.declared.mark.Mark.{Mark}
use Rattle.cursor.specs.declared.Halt.{Halt}
use Rattle.cursor.specs.declared.Halt.TheVariants as h
use Rattle.cursor.specs.Reading.{Out, Reads, got, fault, after, mapped, head, tail, expect, name_in, number_in, ident_of, number_of, inner, nested, further_of, list_of}
use Rattle.cursor.proofs.Loops.{begins_pushed}
use Rattle.cursor.specs.Promises.{halt_at, Answers, Follows, Opens}

-- ---- the first symbol

-- what a function of the symbol is at the first one
pub at_first : {Y : Type 0} (F : Sym → Y) (r : Placed) (ss : List PlacedSym) {y : Y} → placed_of r ≡ head ss → F (sym_of r.symbol) ≡ y → F (head ss).symbol ≡ y
at_first F r ss e f = ap (λ s. F s.symbol) (sym e) ∙ f

pub expect_yes : (is : Sym → Bool) (ss rest : List PlacedSym) → is (head ss).symbol ≡ true → rest ≡ tail ss → expect is ss ≡ got tt rest
unfolding expect
expect_yes is ss rest e f = rw (e, f)

pub ident_yes : (ss rest : List PlacedSym) (b : List ℕ) (k : ℕ) → name_in (head ss).symbol ≡ Some b → k ≡ (head ss).place → rest ≡ tail ss → ident_of ss ≡ got (b, k) rest
unfolding ident_of
ident_yes ss rest b k e f g = rw (e, f, g)

pub number_yes : (ss rest : List PlacedSym) (b : List ℕ) (k : ℕ) → number_in (head ss).symbol ≡ Some b → k ≡ (head ss).place → rest ≡ tail ss → number_of ss ≡ got (b, k) rest
unfolding number_of
number_yes ss rest b k e f g = rw (e, f, g)

-- ---- from a callee's answer to the caller's

pub followed : {X A : Type 0} {f : X → A} {x : X} {rest : List PlacedSym} {o : Out A} → Follows f (Ok x) rest o → o ≡ got (f x) rest
followed k = k.is

pub follow : {X A : Type 0} {f : X → A} {x : X} {rest : List PlacedSym} {o : Out A} → o ≡ got (f x) rest → Follows f (Ok x) rest o
follow k = record { is = k }

-- a tail call
pub goes : {X A : Type 0} {f : X → A} {r : Result X Halt} {rest : List PlacedSym} {o u : Out A} → Follows f r rest o → u ≡ o → Follows f r rest u
goes {f} {r} {rest} k q = subst (Follows f r rest) (sym q) k

pub onward : {A B : Type 0} {u : Out B} {a : A} {rest : List PlacedSym} {o : Out A} (k : A → Reads B) → u ≡ after o k → o ≡ got a rest → u ≡ k a rest
unfolding after
onward k e g = e ∙ ap (λ x. after x k) g

-- a fault goes through
passes : {X A : Type 0} {f : X → A} (Y B : Type 0) (g : Y → B) (e : Halt) {rest : List PlacedSym} {o : Out A} (k : A → Reads B) → Follows f (Err e) rest o → Answers g (Err e) rest (after o k)
unfolding after
passes Y B g (h.Wrong n) k a = (a.is.0, ap (λ x. after x k) a.is.1, a.is.2)
passes Y B g (h.Ended n) k a = (a.is.0, ap (λ x. after x k) a.is.1, a.is.2)
passes Y B g h.NoMemory k a = tt

-- at the exit of a `?`
pub broke : {X Y A B : Type 0} {f : X → A} {g : Y → B} {r : Result Y Halt} {e : Halt} {rest : List PlacedSym} {o : Out A} {u : Out B} (k : A → Reads B) → IsErrAnd r (λ y. y ≡ e) → Follows f (Err e) rest o → u ≡ after o k → Follows g r rest u
broke {g} {r} {e} {rest} {o} {u} k b a q =
    let p = err_from_is_err_and r b in
    record { is = subst (λ x. Answers g x rest u) (sym (p.1 ∙ ap Err p.2)) (subst (Answers g (Err e) rest) (sym q) (passes _ _ g e k a)) }

-- where a symbol cannot follow, or opens too deep
pub refused : {Y B : Type 0} {g : Y → B} (e : Halt) (c : Cause) (rest : List PlacedSym) {u : Out B} → e ≡ halt_at c rest → u ≡ fault c rest → Follows g (Err e) rest u
refused {g} e c rest {u} p q = record { is = subst (λ x. Answers g (Err x) rest u) (sym p) (go rest q) }
  where
    go : (l : List PlacedSym) → u ≡ fault c l → Answers g (Err (halt_at c l)) l u
    go [] k = (c, k, refl)
    go (s ∷ ss) k = (c, k, refl)

-- where the nesting is used up
pub too_deep : {Y B : Type 0} {g : Y → B} {r : Result Y Halt} (e : Halt) (d : ℕ) (ss rest : List PlacedSym) {u : Out B} → IsErrAnd r (λ y. y ≡ e) → Opens d (Err e) ss rest → (d ≡ 0 → u ≡ fault TooDeep ss) → Follows g r rest u
too_deep {g} {r} e d ss rest {u} b o q =
    let p = err_from_is_err_and r b in
    subst (λ x. Follows g x rest u) (sym (p.1 ∙ ap Err p.2))
    (subst (λ l. Follows g (Err e) l u) (sym o.1) (refused e TooDeep ss o.2 (q o.0)))

pub nested_none : {F T : Type 0} (r : ℕ → F) (d : ℕ) (ss : List PlacedSym) (k : F → Reads T) → d ≡ 0 → nested (inner r d) ss k ≡ fault TooDeep ss
unfolding inner
nested_none r d ss k e = ap (λ n. nested (inner r n) ss k) e

pub nested_some : {F T : Type 0} (r : ℕ → F) (d e : ℕ) (ss rest : List PlacedSym) (k : F → Reads T) → d ≡ suc e → rest ≡ tail ss → nested (inner r d) ss k ≡ k (r e) rest
unfolding inner
nested_some r d e ss rest k p q = ap (λ n. nested (inner r n) ss k) p ∙ ap (k (r e)) (sym q)

-- a value that was made
pub made : {X A : Type 0} {f : X → A} {x : X} {t : A} {rest : List PlacedSym} {u : Out A} → u ≡ got t rest → f x ≡ t → Follows f (Ok x) rest u
made {rest} q m = record { is = q ∙ ap (λ t. got t rest) (sym m) }

-- ---- a list with separators

pub list_is : {B : Type 0} (m : Mark) (r : Reads B) (ss : List PlacedSym) → list_of m r ss ≡ after (r ss) (λ b rest. mapped (λ bs. b ∷ bs) (further_of m r rest))
unfolding list_of
list_is m r ss = refl

-- up to the repetition, where the first item stands in a list that grows at its end
pub list_pushed : {X B : Type 0} (m : Mark) (r : Reads B) (f : X → B) (none ys : List X) (x : X) (ss rest : List PlacedSym) → r ss ≡ got (f x) rest → none ≡ [] → ys ≡ none ++ x ∷ [] → list_of m r ss ≡ mapped (λ bs. map f ys ++ bs) (further_of m r rest)
list_pushed m r f none ys x ss rest g e y = onward _ (list_is m r ss) g ∙ begins_pushed f none ys x _ e y
