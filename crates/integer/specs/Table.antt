-- Worked examples: what each operator answers, also at the ends of the range.
use Rattle.std.specs.Prelude.{◌≡◌, ℕ, List, [], ◌∷◌, ℤ, pos, neg_ℤ, Ok, Err, Result}
use Rattle.fault.specs.declared.Trap.{Trap}
use Rattle.fault.specs.declared.Trap.TheVariants.{Divisor, Beyond}
use Rattle.integer.specs.Integers.{sum, difference, product, negated, truncated, quotient, remainder}

-- what an operator answers: the number n, the number -n, or a trap
abbrev pub is : ℕ → Result ℤ Trap
is n = Ok (pos n)

abbrev pub minus : ℕ → Result ℤ Trap
minus n = Ok (neg_ℤ (pos n))

abbrev pub trap : Trap → Result ℤ Trap
trap e = Err e

-- x and y with the answers of + - * / div mod, in this order
pub record Row : Type 0 where
  pub x : ℤ
  pub y : ℤ
  pub answers : List (Result ℤ Trap)

abbrev pub row : ℤ → ℤ → List (Result ℤ Trap) → Row
row x y rs = record { x = x; y = y; answers = rs }

abbrev pub rows : List Row
rows =
    row (neg_ℤ (pos 15)) (pos 4) (minus 11 ∷ minus 19 ∷ minus 60 ∷ minus 3 ∷ minus 4 ∷ is 1 ∷ [])
    ∷ row (pos 15) (pos 4) (is 19 ∷ is 11 ∷ is 60 ∷ is 3 ∷ is 3 ∷ is 3 ∷ [])
    ∷ row (pos 15) (neg_ℤ (pos 4)) (is 11 ∷ is 19 ∷ minus 60 ∷ minus 3 ∷ trap Divisor ∷ trap Divisor ∷ [])
    ∷ row (neg_ℤ (pos 15)) (neg_ℤ (pos 4)) (minus 19 ∷ minus 11 ∷ is 60 ∷ is 3 ∷ trap Divisor ∷ trap Divisor ∷ [])
    ∷ row (neg_ℤ (pos 16)) (pos 4) (minus 12 ∷ minus 20 ∷ minus 64 ∷ minus 4 ∷ minus 4 ∷ is 0 ∷ [])
    ∷ row (neg_ℤ (pos 1)) (pos 4) (is 3 ∷ minus 5 ∷ minus 4 ∷ is 0 ∷ minus 1 ∷ is 3 ∷ [])
    ∷ row (pos 7) (pos 0) (is 7 ∷ is 7 ∷ is 0 ∷ trap Divisor ∷ trap Divisor ∷ trap Divisor ∷ [])
    ∷ row (pos 0) (pos 7) (is 7 ∷ minus 7 ∷ is 0 ∷ is 0 ∷ is 0 ∷ is 0 ∷ [])
    ∷ row (pos 2147483647) (pos 1) (trap Beyond ∷ is 2147483646 ∷ is 2147483647 ∷ is 2147483647 ∷ is 2147483647 ∷ is 0 ∷ [])
    ∷ row (neg_ℤ (pos 2147483647)) (pos 1) (minus 2147483646 ∷ trap Beyond ∷ minus 2147483647 ∷ minus 2147483647 ∷ minus 2147483647 ∷ is 0 ∷ [])
    ∷ row (neg_ℤ (pos 2147483647)) (pos 2147483647) (is 0 ∷ trap Beyond ∷ trap Beyond ∷ minus 1 ∷ minus 1 ∷ is 0 ∷ [])
    ∷ row (neg_ℤ (pos 1)) (pos 2147483647) (is 2147483646 ∷ trap Beyond ∷ minus 2147483647 ∷ is 0 ∷ minus 1 ∷ is 2147483646 ∷ [])
    ∷ row (neg_ℤ (pos 2147483648)) (pos 1) (minus 2147483647 ∷ trap Beyond ∷ trap Beyond ∷ trap Beyond ∷ trap Beyond ∷ is 0 ∷ [])
    ∷ row (neg_ℤ (pos 2147483648)) (neg_ℤ (pos 1)) (trap Beyond ∷ minus 2147483647 ∷ trap Beyond ∷ trap Beyond ∷ trap Divisor ∷ trap Divisor ∷ [])
    ∷ []

abbrev pub answered : ℤ → ℤ → List (Result ℤ Trap)
answered x y = sum x y ∷ difference x y ∷ product x y ∷ truncated x y ∷ quotient x y ∷ remainder x y ∷ []

abbrev pub RowsHold : List Row → Type 0
RowsHold [] = Unit {0}
RowsHold (r ∷ rs) = (answered r.x r.y ≡ r.answers) × RowsHold rs

-- the sign: of 0, of both ends, and of the one number of 32 bits that is no integer of the language
abbrev pub SignsHold : Type 0
SignsHold =
    (negated (pos 0) ≡ is 0)
    × (negated (pos 2147483647) ≡ minus 2147483647)
    × (negated (neg_ℤ (pos 2147483647)) ≡ is 2147483647)
    × (negated (neg_ℤ (pos 2147483648)) ≡ trap Beyond)

-- the sign of -15 div 4 comes last
abbrev pub SignLast : Type 0
SignLast = (quotient (pos 15) (pos 4) ≡ is 3) × (negated (pos 3) ≡ minus 3)

abbrev pub Examples : Type 0
Examples = RowsHold rows × SignsHold × SignLast
