-- What operators and signs give fits its type, and they trap exactly where they have a cause.
use Prim.{Unit, tt, ⊥, absurd, ¬◌}
use Rattle.std.proofs.Common.{◌≡◌, ℕ, zero, suc, ◌/◌, ◌<◌, ◌≤◌, Bool, true, false, cond, not, T, leb, ℤ, pos, negsuc, ◌+ℤ◌, ◌-ℤ◌, ◌*ℤ◌, neg_ℤ, nat_abs, ◌<ℤ◌, Ok, Err, Result, sym, refl, ap, subst, mod-lt, div-le_self, arith, le→leb, leb→le}
use borrow.Author.Differences.{ints}
use lib.Signed.{quot_z, lt_z_yes}
use lib.Dec.{nleb→lt}
use Rattle.fault.specs.declared.Trap.{Trap}
use Rattle.fault.specs.declared.Trap.TheVariants.{Index, Divisor, Beyond}
use Rattle.integer.specs.Integers.{greatest, bounded, floor_pair, truncated, quotient, remainder}
use Rattle.program.specs.Types.{Simple, Writing, Shape, fits, within, element_cell}
use Rattle.program.specs.Types.Simple.{integer, boolean}
use Rattle.program.specs.Trees.{Sign, Operator}
use Rattle.program.specs.Trees.Sign.{plus_sign, minus_sign, not_sign}
use Rattle.program.specs.Trees.Operator.{plus, minus, times, over, div, modulo, xor, eq, ne, lt, le, gt, ge}
use Rattle.program.specs.WellFormed.{ok_sign, ok_operator}
use Rattle.meaning.specs.Actions.{Action, bit, signed, operated, indexed}
use Rattle.meaning.specs.Actions.Action.{an_index, an_operator}
use Rattle.meaning.specs.Typing.{Causes}
use Rattle.meaning.specs.Typing.Causes.{out_of_bounds, divisor_0, div_below_1, mod_below_1, sum_beyond, difference_beyond, product_beyond}

abbrev pub Fits : Simple → ℤ → Type 0
Fits t v = T (fits t v)

pub as_type : {t u : Simple} (v : ℤ) → t ≡ u → Fits u v → Fits t v
as_type v e h = subst (λ t. Fits t v) (sym e) h

-- results told apart
pub ok_inj : {v w : ℤ} → ◌≡◌ {A = Result ℤ Trap} (Ok v) (Ok w) → v ≡ w
ok_inj {v} e = ap (λ (r : Result ℤ Trap). elim r [ Ok x ↦ x | Err t ↦ v ]) e

pub err_inj : {t u : Trap} → ◌≡◌ {A = Result ℤ Trap} (Err t) (Err u) → t ≡ u
err_inj {t} e = ap (λ (r : Result ℤ Trap). elim r [ Ok x ↦ t | Err u ↦ u ]) e

pub ok_err : {v : ℤ} {t : Trap} → ◌≡◌ {A = Result ℤ Trap} (Ok v) (Err t) → ⊥
ok_err e = let P : Result ℤ Trap → Type 0 = λ r. elim r [ Ok x ↦ Unit {0} | Err t ↦ ⊥ ] in subst P e tt

-- a result that is bounded
bounded_ok : (z v : ℤ) → bounded z ≡ Ok v → Fits integer v
bounded_ok z v e = go (leb (nat_abs z) greatest) (λ t. t) e
  where
    go : (b : Bool) → (T b → Fits integer z) → cond b (Ok z) (Err Beyond) ≡ Ok v → Fits integer v
    go true k e = subst (Fits integer) (ok_inj e) (k tt)
    go false k e = absurd (ok_err (sym e))

bounded_err : (z : ℤ) (t : Trap) → bounded z ≡ Err t → (Beyond ≡ t) × (greatest < nat_abs z)
bounded_err z t e = go (leb (nat_abs z) greatest) (λ n. n) e
  where
    go : (b : Bool) → (T (not b) → T (not (leb (nat_abs z) greatest))) → cond b (Ok z) (Err Beyond) ≡ Err t → (Beyond ≡ t) × (greatest < nat_abs z)
    go true k e = absurd (ok_err e)
    go false k e = (err_inj e, nleb→lt (nat_abs z) greatest (k tt))

-- what is not larger than an integer is no trap
bounded_small : (z x : ℤ) → nat_abs z ≤ nat_abs x → Fits integer x → (t : Trap) → bounded z ≡ Err t → ⊥
bounded_small z x l h t e =
    let b = bounded_err z t e in let p = leb→le (nat_abs x) greatest h in let q = b.1 in omega arith

too_large : (z : ℤ) → greatest < nat_abs z → bounded z ≡ Err Beyond
too_large z l = go (leb (nat_abs z) greatest) (λ t. t)
  where
    go : (b : Bool) → (T b → T (leb (nat_abs z) greatest)) → cond b (Ok z) (Err Beyond) ≡ Err Beyond
    go true k = let p = leb→le (nat_abs z) greatest (k tt) in absurd (omega arith)
    go false k = refl

-- quotients, remainders and negations are no larger than what they are taken of
abs_neg : (n : ℕ) → nat_abs (neg_ℤ (pos n)) ≡ n
abs_neg zero = refl
abs_neg (suc n) = refl

neg_small : (v : ℤ) → nat_abs (neg_ℤ v) ≤ nat_abs v
neg_small (pos n) = omega (arith, abs_neg n)
neg_small (negsuc n) = omega arith

quot_small : (x y : ℤ) → nat_abs (quot_z x y) ≤ nat_abs x
quot_small (pos a) (pos b) = div-le_self a b
quot_small (pos a) (negsuc b) = omega (arith, abs_neg (a / suc b), div-le_self a (suc b))
quot_small (negsuc a) (pos b) = omega (arith, abs_neg (suc a / b), div-le_self (suc a) b)
quot_small (negsuc a) (negsuc b) = div-le_self (suc a) (suc b)

floor_small : (x : ℤ) (n : ℕ) → nat_abs (floor_pair x n).0 ≤ nat_abs x
floor_small (pos a) n = div-le_self a n
floor_small (negsuc a) n = omega (arith, div-le_self a n)

rest_small : (x : ℤ) (n : ℕ) → nat_abs (floor_pair x (suc n)).1 ≤ n
rest_small (pos a) n = let p = mod-lt a {m = suc n} (omega arith) in omega arith
rest_small (negsuc a) n = omega arith

rest_fits : (x : ℤ) (n : ℕ) → Fits integer (pos (suc n)) → Fits integer (floor_pair x (suc n)).1
rest_fits x n h =
    let p = rest_small x n in let q = leb→le (suc n) greatest h in le→leb (nat_abs (floor_pair x (suc n)).1) greatest (omega arith)

bit_fits : (b : Bool) → Fits boolean (bit b)
bit_fits true = tt
bit_fits false = tt

truth_fits : (t : Simple) (b : Bool) (v : ℤ) → t ≡ boolean → ◌≡◌ {A = Result ℤ Trap} (Ok (bit b)) (Ok v) → Fits t v
truth_fits t b v h e = as_type v h (subst (Fits boolean) (ok_inj e) (bit_fits b))

over_fits : (x y v : ℤ) → truncated x y ≡ Ok v → Fits integer v
over_fits x (pos zero) v e = absurd (ok_err (sym e))
over_fits x (pos (suc n)) v e = bounded_ok (quot_z x (pos (suc n))) v e
over_fits x (negsuc n) v e = bounded_ok (quot_z x (negsuc n)) v e

div_fits : (x y v : ℤ) → quotient x y ≡ Ok v → Fits integer v
div_fits x (pos zero) v e = absurd (ok_err (sym e))
div_fits x (pos (suc n)) v e = bounded_ok (floor_pair x (suc n)).0 v e
div_fits x (negsuc n) v e = absurd (ok_err (sym e))

mod_fits : (x y v : ℤ) → Fits integer y → remainder x y ≡ Ok v → Fits integer v
mod_fits x (pos zero) v h e = absurd (ok_err (sym e))
mod_fits x (pos (suc n)) v h e = subst (Fits integer) (ok_inj e) (rest_fits x n h)
mod_fits x (negsuc n) v h e = absurd (ok_err (sym e))

pub operator_fits : (o : Operator) (u t : Simple) (x y v : ℤ) → ok_operator o u t → Fits u x → Fits u y → operated o x y ≡ Ok v → Fits t v
operator_fits plus u t x y v h fx fy e = as_type v h.1 (bounded_ok (x +ℤ y) v e)
operator_fits minus u t x y v h fx fy e = as_type v h.1 (bounded_ok (x -ℤ y) v e)
operator_fits times u t x y v h fx fy e = as_type v h.1 (bounded_ok (x *ℤ y) v e)
operator_fits over u t x y v h fx fy e = as_type v h.1 (over_fits x y v e)
operator_fits div u t x y v h fx fy e = as_type v h.1 (div_fits x y v e)
operator_fits modulo u t x y v h fx fy e = as_type v h.1 (mod_fits x y v (as_type y (sym h.0) fy) e)
operator_fits xor u t x y v h fx fy e = truth_fits t _ v h.1 e
operator_fits eq u t x y v h fx fy e = truth_fits t _ v h e
operator_fits ne u t x y v h fx fy e = truth_fits t _ v h e
operator_fits lt u t x y v h fx fy e = truth_fits t _ v h e
operator_fits le u t x y v h fx fy e = truth_fits t _ v h e
operator_fits gt u t x y v h fx fy e = truth_fits t _ v h e
operator_fits ge u t x y v h fx fy e = truth_fits t _ v h e

pub sign_fits : (g : Sign) (t : Simple) (x v : ℤ) → ok_sign g t → Fits t x → signed g x ≡ Ok v → Fits t v
sign_fits plus_sign t x v h fx e = subst (Fits t) (ok_inj e) fx
sign_fits minus_sign t x v h fx e = as_type v h (bounded_ok (neg_ℤ x) v e)
sign_fits not_sign t x v h fx e = truth_fits t _ v h e

-- a trap has its cause
pub sign_caused : (g : Sign) (t : Simple) (x : ℤ) (u : Trap) → ok_sign g t → Fits t x → signed g x ≡ Err u → ⊥
sign_caused plus_sign t x u h fx e = ok_err e
sign_caused minus_sign t x u h fx e = bounded_small (neg_ℤ x) x (neg_small x) (as_type x (sym h) fx) u e
sign_caused not_sign t x u h fx e = ok_err e

caused_by : {a : Action} {d : ℕ} {t u : Trap} → t ≡ u → Causes t d a → Causes u d a
caused_by {a} {d} e c = subst (λ t. Causes t d a) e c

over_caused : (d : ℕ) (x y : ℤ) (u : Trap) → Fits integer x → truncated x y ≡ Err u → Causes u d (an_operator over x y)
over_caused d x (pos zero) u fx e = caused_by (err_inj e) (divisor_0 refl)
over_caused d x (pos (suc n)) u fx e = absurd (bounded_small (quot_z x (pos (suc n))) x (quot_small x (pos (suc n))) fx u e)
over_caused d x (negsuc n) u fx e = absurd (bounded_small (quot_z x (negsuc n)) x (quot_small x (negsuc n)) fx u e)

div_caused : (d : ℕ) (x y : ℤ) (u : Trap) → Fits integer x → quotient x y ≡ Err u → Causes u d (an_operator div x y)
div_caused d x (pos zero) u fx e = caused_by (err_inj e) (div_below_1 (lt_z_yes tt))
div_caused d x (pos (suc n)) u fx e = absurd (bounded_small (floor_pair x (suc n)).0 x (floor_small x (suc n)) fx u e)
div_caused d x (negsuc n) u fx e = caused_by (err_inj e) (div_below_1 (lt_z_yes tt))

mod_caused : (d : ℕ) (x y : ℤ) (u : Trap) → remainder x y ≡ Err u → Causes u d (an_operator modulo x y)
mod_caused d x (pos zero) u e = caused_by (err_inj e) (mod_below_1 (lt_z_yes tt))
mod_caused d x (pos (suc n)) u e = absurd (ok_err e)
mod_caused d x (negsuc n) u e = caused_by (err_inj e) (mod_below_1 (lt_z_yes tt))

pub operator_caused : (d : ℕ) (o : Operator) (u t : Simple) (x y : ℤ) (p : Trap) → ok_operator o u t → Fits u x → operated o x y ≡ Err p
    → Causes p d (an_operator o x y)
operator_caused d plus u t x y p h fx e = let b = bounded_err (x +ℤ y) p e in caused_by b.0 (sum_beyond b.1)
operator_caused d minus u t x y p h fx e = let b = bounded_err (x -ℤ y) p e in caused_by b.0 (difference_beyond b.1)
operator_caused d times u t x y p h fx e = let b = bounded_err (x *ℤ y) p e in caused_by b.0 (product_beyond b.1)
operator_caused d over u t x y p h fx e = over_caused d x y p (as_type x (sym h.0) fx) e
operator_caused d div u t x y p h fx e = div_caused d x y p (as_type x (sym h.0) fx) e
operator_caused d modulo u t x y p h fx e = mod_caused d x y p e
operator_caused d xor u t x y p h fx e = absurd (ok_err e)
operator_caused d eq u t x y p h fx e = absurd (ok_err e)
operator_caused d ne u t x y p h fx e = absurd (ok_err e)
operator_caused d lt u t x y p h fx e = absurd (ok_err e)
operator_caused d le u t x y p h fx e = absurd (ok_err e)
operator_caused d gt u t x y p h fx e = absurd (ok_err e)
operator_caused d ge u t x y p h fx e = absurd (ok_err e)

-- an index
pub index_ok : (base : ℕ) (low high : ℤ) (s : Shape) (v c : ℤ) → indexed base low high s v ≡ Ok c
    → T (within low high v) × (pos (element_cell base low s v) ≡ c)
index_ok base low high s v c e = go (within low high v) e
  where
    go : (b : Bool) → cond b (Ok (pos (element_cell base low s v))) (Err Index) ≡ Ok c → T b × (pos (element_cell base low s v) ≡ c)
    go true e = (tt, ok_inj e)
    go false e = absurd (ok_err (sym e))

pub index_caused : (d base : ℕ) (w : Writing) (low high : ℤ) (s : Shape) (v : ℤ) (u : Trap) → indexed base low high s v ≡ Err u
    → Causes u d (an_index base w low high s v)
index_caused d base w low high s v u e = go (within low high v) (λ n. n) e
  where
    go : (b : Bool) → (¬ (T b) → ¬ (T (within low high v))) → cond b (Ok (pos (element_cell base low s v))) (Err Index) ≡ Err u
        → Causes u d (an_index base w low high s v)
    go true k e = absurd (ok_err e)
    go false k e = caused_by (err_inj e) (out_of_bounds (k (λ t. t)))

-- and where there is a cause, there is a trap
pub index_traps : (base : ℕ) (low high : ℤ) (s : Shape) (v : ℤ) → ¬ (T (within low high v)) → indexed base low high s v ≡ Err Index
index_traps base low high s v h = go (within low high v) (λ t. t)
  where
    go : (b : Bool) → (T b → T (within low high v)) → cond b (Ok (pos (element_cell base low s v))) (Err Index) ≡ Err Index
    go true k = absurd (h (k tt))
    go false k = refl

pub beyond_traps : (z : ℤ) → greatest < nat_abs z → bounded z ≡ Err Beyond
beyond_traps = too_large

pub over_traps : (x y : ℤ) → y ≡ pos 0 → truncated x y ≡ Err Divisor
over_traps x y e = ap (truncated x) e

pub div_traps : (x y : ℤ) → y <ℤ pos 1 → quotient x y ≡ Err Divisor
div_traps x (pos zero) h = refl
div_traps x (pos (suc n)) h = absurd (omega (arith, ints, h))
div_traps x (negsuc n) h = refl

pub mod_traps : (x y : ℤ) → y <ℤ pos 1 → remainder x y ≡ Err Divisor
mod_traps x (pos zero) h = refl
mod_traps x (pos (suc n)) h = absurd (omega (arith, ints, h))
mod_traps x (negsuc n) h = refl
