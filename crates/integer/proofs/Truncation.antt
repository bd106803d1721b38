-- The quotient that drops the fraction: its size and its sign.
use Rattle.std.proofs.Common.{◌≡◌, ℕ, zero, suc, ◌*◌, ◌/◌, ◌<◌, ◌≤◌, true, false, cond, leb, ℤ, pos, negsuc, neg_ℤ, nat_abs, ◌≤ℤ◌, Ok, Err, Result, sym, refl, subst, ⊎_elim, mul-suc, arith}
use native.Mathlib.Nat.{zero-div}
use lib.Signed.{quot_z}
use Rattle.std.proofs.lemmas.Int.{ints}
use Rattle.std.proofs.lemmas.Bool.Decides.{leb_tells}
use Rattle.fault.specs.declared.Trap.{Trap}
use Rattle.fault.specs.declared.Trap.TheVariants.{Beyond}
use Rattle.integer.specs.Integers.{greatest, bounded, truncated}
use Rattle.integer.specs.Laws.{Drops, Truncates}

abs_neg : (n : ℕ) → nat_abs (neg_ℤ (pos n)) ≡ n
abs_neg zero = refl
abs_neg (suc n) = refl

neg_low : (n : ℕ) → neg_ℤ (pos n) ≤ℤ pos 0
neg_low n = omega (arith, ints)

-- a product of two numbers other than 0 is not 0
much : (a n : ℕ) → 0 < suc a * suc n
much a n = omega (arith, mul-suc (suc a) n)

drops_above : (x : ℤ) (n : ℕ) → Drops x (pos (suc n)) (quot_z x (pos (suc n)))
drops_above (pos zero) n = (refl, λ _. omega (arith, ints), λ _. omega (arith, ints, zero-div (suc n)))
drops_above (pos (suc a)) n = (refl, λ _. omega (arith, ints), λ h. absurd (omega (arith, ints, much a n, h)))
drops_above (negsuc a) n = (abs_neg (suc a / suc n), λ h. absurd (omega (arith, ints, much a n, h)), λ _. neg_low (suc a / suc n))

drops_below : (x : ℤ) (n : ℕ) → Drops x (negsuc n) (quot_z x (negsuc n))
drops_below (pos zero) n = (abs_neg (0 / suc n), λ _. omega (arith, ints, zero-div (suc n)), λ _. neg_low (0 / suc n))
drops_below (pos (suc a)) n = (abs_neg (suc a / suc n), λ h. absurd (omega (arith, ints, much a n, h)), λ _. neg_low (suc a / suc n))
drops_below (negsuc a) n = (refl, λ _. omega (arith, ints), λ h. absurd (omega (arith, ints, much a n, h)))

bounded_truncates : (x y q : ℤ) → Drops x y q → Truncates x y (bounded q)
bounded_truncates x y q d =
    ⊎_elim
    (λ (h : (leb (nat_abs q) greatest ≡ true) × (nat_abs q ≤ greatest)). subst (λ b. Truncates x y (cond b (Ok q) (Err Beyond))) (sym h.0) d)
    (λ (h : (leb (nat_abs q) greatest ≡ false) × (greatest < nat_abs q)). subst (λ b. Truncates x y (cond b (Ok q) (Err Beyond))) (sym h.0) (subst (λ n. greatest < n) d.0 h.1))
    (leb_tells (nat_abs q) greatest)

pub truncates : (x y : ℤ) → Truncates x y (truncated x y)
truncates x (pos zero) = refl
truncates x (pos (suc n)) = bounded_truncates x (pos (suc n)) (quot_z x (pos (suc n))) (drops_above x n)
truncates x (negsuc n) = bounded_truncates x (negsuc n) (quot_z x (negsuc n)) (drops_below x n)

-- of an answer that is the defined one
pub truncates_of : (x y : ℤ) (r : Result ℤ Trap) → r ≡ truncated x y → Truncates x y r
truncates_of x y r e = subst (Truncates x y) (sym e) (truncates x y)
