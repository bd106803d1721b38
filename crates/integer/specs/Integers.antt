-- The integers of the language, from -2147483647 to 2147483647, and what its operators answer on them: a value, or a trap.
-- Everything is defined for all of ℤ.
use Rattle.std.specs.Prelude.{ℕ, zero, suc, ◌-◌, ◌/◌, ◌%◌, cond, ℤ, pos, negsuc, ◌+ℤ◌, ◌-ℤ◌, ◌*ℤ◌, neg_ℤ, Ok, Err, Result, int_div, nat_le, unsigned_abs}
use Rattle.fault.specs.declared.Trap.{Trap}
use Rattle.fault.specs.declared.Trap.TheVariants.{Divisor, Beyond}

-- no integer of the language is larger in size
abbrev pub greatest : ℕ
greatest = 2147483647

-- a result, or the trap where it is no integer of the language
abbrev pub bounded : ℤ → Result ℤ Trap
bounded z = cond (nat_le (unsigned_abs z) greatest) (Ok z) (Err Beyond)

-- x + y
abbrev pub sum : ℤ → ℤ → Result ℤ Trap
sum x y = bounded (x +ℤ y)

-- x - y
abbrev pub difference : ℤ → ℤ → Result ℤ Trap
difference x y = bounded (x -ℤ y)

-- x * y
abbrev pub product : ℤ → ℤ → Result ℤ Trap
product x y = bounded (x *ℤ y)

-- - x
abbrev pub negated : ℤ → Result ℤ Trap
negated x = bounded (neg_ℤ x)

-- x / y: the fraction is dropped
abbrev pub truncated : ℤ → ℤ → Result ℤ Trap
truncated x (pos zero) = Err Divisor
truncated x (pos (suc n)) = bounded (int_div x (pos (suc n)))
truncated x (negsuc n) = bounded (int_div x (negsuc n))

-- quotient and remainder of x by n, for an n above 0: the quotient is rounded down
abbrev pub floor_pair : ℤ → ℕ → ℤ × ℤ
floor_pair (pos a) n = (pos (a / n), pos (a % n))
floor_pair (negsuc a) n = (negsuc (a / n), pos (n - 1 - a % n))

-- both together, or the trap where y is below 1
abbrev pub floored : ℤ → ℤ → Result (ℤ × ℤ) Trap
floored x (pos zero) = Err Divisor
floored x (pos (suc n)) = Ok (floor_pair x (suc n))
floored x (negsuc n) = Err Divisor

-- a quotient is bounded as every result is; a remainder is always an integer of the language
abbrev pub quotient_of : Result (ℤ × ℤ) Trap → Result ℤ Trap
quotient_of (Ok p) = bounded p.0
quotient_of (Err e) = Err e

abbrev pub remainder_of : Result (ℤ × ℤ) Trap → Result ℤ Trap
remainder_of (Ok p) = Ok p.1
remainder_of (Err e) = Err e

-- x div y
abbrev pub quotient : ℤ → ℤ → Result ℤ Trap
quotient x y = quotient_of (floored x y)

-- x mod y
abbrev pub remainder : ℤ → ℤ → Result ℤ Trap
remainder x y = remainder_of (floored x y)
