-- One move through blanks and comments. Assumes nothing.
use Rattle.std.proofs.Common.{◌≡◌, ℕ, ◌+◌, ◌-◌, ◌<◌, ◌≤◌, false, cond, eqb, List, [], ◌∷◌, length, get_or, drop, Ok, Err, Result, refl, ◌∙◌, add-zero, arith, length-drop}
use Rattle.std.proofs.lemmas.List.{drop-drop, drop_all, get_or-drop}
use Rattle.std.proofs.lemmas.Bool.Decides.{nat_tests}
use Rattle.fault.specs.declared.Fault.{Fault}
use Rattle.fault.specs.declared.Cause.TheVariants.{NoSymbol, TooDeep}
use Rattle.fault.specs.Numbers.{fault_at}
use Rattle.scanner.specs.declared.gap.Move.{Move}
use Rattle.scanner.specs.declared.gap.Move.TheVariants as to
use Rattle.scanner.specs.Gaps.{move_of, gap}

-- where the gap ends by this move at the place k, given where it ends behind an opening, behind a closing and one byte on
abbrev pub moved : Move → ℕ → Result ℕ Fault → Result ℕ Fault → Result ℕ Fault → Result ℕ Fault
moved to.Open k opened closed onward = opened
moved to.Close k opened closed onward = closed
moved to.Pass k opened closed onward = onward
moved to.Stop k opened closed onward = Ok k
moved to.TooDeep k opened closed onward = Err (fault_at TooDeep k)
moved to.Wrong k opened closed onward = Err (fault_at NoSymbol k)

pub gap_none : (d k : ℕ) → gap d k [] ≡ cond (eqb d 0) (Ok k) (Err (fault_at NoSymbol k))
unfolding gap
gap_none d k = refl

pub gap_move : (d k : ℕ) (bs : List ℕ) → 0 < length bs → gap d k bs ≡ moved (move_of d (get_or bs 0 0) (get_or bs 1 0)) k (gap (d + 1) (k + 2) (drop 2 bs)) (gap (d - 1) (k + 2) (drop 2 bs)) (gap d (k + 1) (drop 1 bs))
unfolding gap
gap_move d k [] h = absurd (omega arith)
gap_move d k (b ∷ []) h = go (move_of d b 0)
  where
    go : (m : Move) → elim m [ to.Open ↦ gap (d + 1) (k + 2) [] | to.Close ↦ gap (d - 1) (k + 2) [] | to.Pass ↦ gap d (k + 1) [] | to.Stop ↦ Ok k | to.TooDeep ↦ Err (fault_at TooDeep k) | to.Wrong ↦ Err (fault_at NoSymbol k) ] ≡ moved m k (gap (d + 1) (k + 2) []) (gap (d - 1) (k + 2) []) (gap d (k + 1) [])
    go to.Open = refl
    go to.Close = refl
    go to.Pass = refl
    go to.Stop = refl
    go to.TooDeep = refl
    go to.Wrong = refl
gap_move d k (b ∷ c ∷ bs) h = go (move_of d b c)
  where
    go : (m : Move) → elim m [ to.Open ↦ gap (d + 1) (k + 2) bs | to.Close ↦ gap (d - 1) (k + 2) bs | to.Pass ↦ gap d (k + 1) (c ∷ bs) | to.Stop ↦ Ok k | to.TooDeep ↦ Err (fault_at TooDeep k) | to.Wrong ↦ Err (fault_at NoSymbol k) ] ≡ moved m k (gap (d + 1) (k + 2) bs) (gap (d - 1) (k + 2) bs) (gap d (k + 1) (c ∷ bs))
    go to.Open = refl
    go to.Close = refl
    go to.Pass = refl
    go to.Stop = refl
    go to.TooDeep = refl
    go to.Wrong = refl

-- at the place i of a whole text, where the bytes b and c stand
module _ (d : ℕ) (xs : List ℕ) (i b c : ℕ) (m : Move) (h : i < length xs) (first : b ≡ get_or xs i 0) (second : c ≡ get_or xs (i + 1) 0) (e : m ≡ move_of d b c) where
  move_is : move_of d (get_or (drop i xs) 0 0) (get_or (drop i xs) 1 0) ≡ m
  move_is = rw (get_or-drop i xs 0 0, get_or-drop i xs 1 0, add-zero, ← first, ← second, ← e)

  some_left : 0 < length (drop i xs)
  some_left = rw length-drop (omega arith)

  pub gap_here : gap d i (drop i xs) ≡ moved m i (gap (d + 1) (i + 2) (drop (i + 2) xs)) (gap (d - 1) (i + 2) (drop (i + 2) xs)) (gap d (i + 1) (drop (i + 1) xs))
  gap_here =
      gap_move d i (drop i xs) some_left
      ∙ rw (move_is, drop-drop 2 i xs, drop-drop 1 i xs)

module _ (d : ℕ) (xs : List ℕ) (i : ℕ) (h : length xs ≤ i) where
  pub gap_ended : d ≡ 0 → gap d i (drop i xs) ≡ Ok i
  unfolding gap
  gap_ended e = rw (drop_all i xs h, e)

  pub gap_unended : 0 < d → gap d i (drop i xs) ≡ Err (fault_at NoSymbol i)
  unfolding gap
  gap_unended k =
      let some : eqb d 0 ≡ false = grind (arith, nat_tests) in
      rw (drop_all i xs h, some)

pub opens_below : (d b c : ℕ) → to.Open ≡ move_of d b c → d < 32
opens_below d b c e = grind (arith, nat_tests)
