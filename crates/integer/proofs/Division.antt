-- The quotient that is rounded down: its law, and that no other pair has it.
use Rattle.std.proofs.Common.{◌≡◌, ℕ, zero, suc, ◌+◌, ◌-◌, ◌*◌, ◌/◌, ◌%◌, ◌<◌, false, ℤ, pos, negsuc, Ok, sym, refl, ap, ◌∙◌, subst, mod-lt, mul_comm, mul-suc, arith}
use native.Mathlib.Nat.{div-add-mod}
use lib.Arith.{digits_div, digits_mod}
use lib.Signed.{lt_z}
use Rattle.std.specs.Int.{int_div_euclid, int_rem_euclid}
use Rattle.std.proofs.lemmas.Int.{ints}
use Rattle.integer.specs.Integers.{floor_pair, floored}
use Rattle.integer.specs.Laws.{Divides, Floors, OnlyPair}

pairs : {a b c d : ℤ} → a ≡ c → b ≡ d → ◌≡◌ {A = ℤ × ℤ} (a, b) (c, d)
pairs p q = cc

-- quotient and remainder of a number that is q * suc n + r
div_is : (a n q r : ℕ) → a ≡ q * suc n + r → r < suc n → a / suc n ≡ q
div_is a n q r e h = rw e (digits_div q h)

mod_is : (a n q r : ℕ) → a ≡ q * suc n + r → r < suc n → a % suc n ≡ r
mod_is a n q r e h = rw e (digits_mod q h)

-- as the code has it
pub floored_is : (x y : ℤ) → lt_z y (pos 1) ≡ false → Ok (int_div_euclid x y, int_rem_euclid x y) ≡ floored x y
floored_is x (pos zero) h = absurd (omega (arith, ints))
floored_is (pos a) (pos (suc n)) h = refl
floored_is (negsuc a) (pos (suc n)) h = refl
floored_is x (negsuc n) h = absurd (omega (arith, ints))

-- the law of the two
divides : (x : ℤ) (n : ℕ) → Divides x (pos (suc n)) (floor_pair x (suc n)).0 (floor_pair x (suc n)).1
divides (pos a) n =
    let e : suc n * (a / suc n) + a % suc n ≡ a = div-add-mod a (suc n) in
    let m : a % suc n < suc n = mod-lt a (omega arith) in
    (omega (arith, ints), omega (arith, ints), omega (arith, ints))
divides (negsuc a) n =
    let e : suc n * (a / suc n) + a % suc n ≡ a = div-add-mod a (suc n) in
    let m : a % suc n < suc n = mod-lt a (omega arith) in
    let k : suc n * suc (a / suc n) ≡ suc n * (a / suc n) + suc n = mul-suc (suc n) (a / suc n) in
    (omega (arith, ints), omega (arith, ints), omega (arith, ints))

pub floors : (x y : ℤ) → Floors x y (floored x y)
floors x (pos zero) = (refl, omega (arith, ints))
floors x (pos (suc n)) = divides x n
floors x (negsuc n) = (refl, omega (arith, ints))

-- no other pair divides: of a dividend at or above 0, then of one below
only_above : (a n q r : ℕ) → a ≡ suc n * q + r → r < suc n → floor_pair (pos a) (suc n) ≡ (pos q, pos r)
only_above a n q r e h =
    let c : suc n * q ≡ q * suc n = mul_comm (suc n) q in
    pairs (ap pos (div_is a n q r (omega (arith, c, e)) h)) (ap pos (mod_is a n q r (omega (arith, c, e)) h))

only_below : (a n q r : ℕ) → suc a + r ≡ suc n * suc q → r < suc n → floor_pair (negsuc a) (suc n) ≡ (negsuc q, pos r)
only_below a n q r e h =
    let k : suc n * suc q ≡ suc n * q + suc n = mul-suc (suc n) q in
    let c : suc n * q ≡ q * suc n = mul_comm (suc n) q in
    let f : a ≡ q * suc n + (n - r) = omega (arith, k, c, e) in
    let m : a % suc n ≡ n - r = mod_is a n q (n - r) f (omega arith) in
    pairs (ap negsuc (div_is a n q (n - r) f (omega arith))) (ap pos (omega arith))

only : (x : ℤ) (n : ℕ) (q : ℤ) (r : ℕ) → Divides x (pos (suc n)) q (pos r) → floor_pair x (suc n) ≡ (q, pos r)
only (pos a) n (pos q) r d = only_above a n q r (omega (arith, ints, d.0)) (omega (arith, ints, d.2))
only (pos a) n (negsuc q) r d =
    let k : suc n * suc q ≡ suc n * q + suc n = mul-suc (suc n) q in
    absurd (omega (arith, ints, k, d.0, d.2))
only (negsuc a) n (pos q) r d = absurd (omega (arith, ints, d.0))
only (negsuc a) n (negsuc q) r d = only_below a n q r (omega (arith, ints, d.0)) (omega (arith, ints, d.2))

pub only_pair : (x y : ℤ) → OnlyPair x y (floored x y)
only_pair x y q (negsuc r) d = absurd (omega (arith, ints, d.1))
only_pair x (pos zero) q (pos r) d = absurd (omega (arith, ints, d.2))
only_pair x (pos (suc n)) q (pos r) d = ap Ok (only x n q r d)
only_pair x (negsuc n) q (pos r) d = absurd (omega (arith, ints, d.2))

-- both, of an answer that is the defined one
pub floors_of : (x y q r : ℤ) → Ok (q, r) ≡ floored x y → Divides x y q r
floors_of x y q r e = subst (Floors x y) (sym e) (floors x y)

pub only_of : (x y q r : ℤ) → Ok (q, r) ≡ floored x y → OnlyPair x y (Ok (q, r))
only_of x y q r e q' r' d = e ∙ only_pair x y q' r' d
