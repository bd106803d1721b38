-- What stands between symbols: blanks and comments.
use Rattle.std.specs.Prelude.{ℕ, ◌+◌, ◌-◌, Bool, cond, ◌&&◌, ◌||◌, List, [], ◌∷◌, Ok, Err, Result, ◌==◌, nat_lt}
use Rattle.fault.specs.declared.Fault.{Fault}
use Rattle.fault.specs.declared.Cause.TheVariants.{NoSymbol, TooDeep}
use Rattle.fault.specs.Numbers.{fault_at}
use Rattle.symbol.specs.Values.{printable}
use Rattle.scanner.specs.declared.gap.Move.{Move}
use Rattle.scanner.specs.declared.gap.Move.TheVariants as to

-- tab, the two line ends, and the blank
abbrev pub blank : ℕ → Bool
blank b = b == 9 || (b == 10 || (b == 13 || b == 32))

-- the bytes that a text may have
abbrev pub allowed : ℕ → Bool
allowed b = blank b || printable b

abbrev pub opening : ℕ → ℕ → Bool
opening b c = b == 40 && c == 42

abbrev pub closing : ℕ → ℕ → Bool
closing b c = b == 42 && c == 41

-- comments nest so deep
abbrev pub deepest : ℕ
deepest = 32

-- what to do before the bytes b and c, with d comments open
abbrev pub move_of : ℕ → ℕ → ℕ → Move
move_of d b c =
    cond (opening b c) (cond (nat_lt d deepest) to.Open to.TooDeep)
    (cond (d == 0) (cond (blank b) to.Pass to.Stop) (cond (closing b c) to.Close (cond (allowed b) to.Pass to.Wrong)))

-- Where blanks and comments end, from the place k on with d comments open, before the bytes bs.
-- (By `elim`, so that only the branch that is taken is computed.)
unfoldable pub gap : ℕ → ℕ → List ℕ → Result ℕ Fault
gap d k [] = cond (d == 0) (Ok k) (Err (fault_at NoSymbol k))
gap d k (b ∷ []) =
    elim (move_of d b 0) [
      | to.Open ↦ gap (d + 1) (k + 2) []
      | to.Close ↦ gap (d - 1) (k + 2) []
      | to.Pass ↦ gap d (k + 1) []
      | to.Stop ↦ Ok k
      | to.TooDeep ↦ Err (fault_at TooDeep k)
      | to.Wrong ↦ Err (fault_at NoSymbol k)
    ]
gap d k (b ∷ c ∷ bs) =
    elim (move_of d b c) [
      | to.Open ↦ gap (d + 1) (k + 2) bs
      | to.Close ↦ gap (d - 1) (k + 2) bs
      | to.Pass ↦ gap d (k + 1) (c ∷ bs)
      | to.Stop ↦ Ok k
      | to.TooDeep ↦ Err (fault_at TooDeep k)
      | to.Wrong ↦ Err (fault_at NoSymbol k)
    ]
