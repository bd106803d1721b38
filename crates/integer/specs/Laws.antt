-- The laws of division: what quotients and remainders are, however they are found.
use Rattle.std.specs.Prelude.{◌≡◌, ◌/◌, ◌<◌, ℤ, pos, ◌+ℤ◌, ◌*ℤ◌, ◌≤ℤ◌, ◌<ℤ◌, Ok, Err, Result, unsigned_abs}
use Rattle.fault.specs.declared.Trap.{Trap}
use Rattle.fault.specs.declared.Trap.TheVariants.{Index, Divisor, Beyond, Depth, Foreign}
use Rattle.integer.specs.Integers.{greatest}

-- q and r are quotient and remainder of x by y: x = y * q + r and 0 <= r < y
abbrev pub Divides : ℤ → ℤ → ℤ → ℤ → Type 0
Divides x y q r = (x ≡ (y *ℤ q) +ℤ r) × (pos 0 ≤ℤ r) × (r <ℤ y)

-- the law of an answer that is a pair: it divides, and it is refused only for a divisor below 1
abbrev pub Floors : ℤ → ℤ → Result (ℤ × ℤ) Trap → Type 0
Floors x y (Ok p) = Divides x y p.0 p.1
Floors x y (Err e) = (e ≡ Divisor) × (y <ℤ pos 1)

-- the pair of an answer, where some pair divides x by y: that one and no other
abbrev pub OnlyPair : ℤ → ℤ → Result (ℤ × ℤ) Trap → Type 0
OnlyPair x y answer = (q r : ℤ) → Divides x y q r → answer ≡ Ok (q, r)

-- q is x / y with its fraction dropped: in size the quotient of the sizes, with the sign of the product x * y
abbrev pub Drops : ℤ → ℤ → ℤ → Type 0
Drops x y q = (unsigned_abs q ≡ unsigned_abs x / unsigned_abs y) × (pos 0 ≤ℤ (x *ℤ y) → pos 0 ≤ℤ q) × ((x *ℤ y) ≤ℤ pos 0 → q ≤ℤ pos 0)

-- why / answers no quotient: the divisor is 0, or the quotient is beyond the integers
abbrev pub Undivided : ℤ → ℤ → Trap → Type 0
Undivided x y Index = ⊥
Undivided x y Divisor = y ≡ pos 0
Undivided x y Beyond = greatest < unsigned_abs x / unsigned_abs y
Undivided x y Depth = ⊥
Undivided x y Foreign = ⊥

-- the law of /
abbrev pub Truncates : ℤ → ℤ → Result ℤ Trap → Type 0
Truncates x y (Ok q) = Drops x y q
Truncates x y (Err e) = Undivided x y e
