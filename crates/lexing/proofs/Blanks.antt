-- What the scanner passes over is blanks and whole comments. Assumes nothing.
use Rattle.std.proofs.Common.{◌≡◌, ℕ, zero, suc, ◌+◌, ◌-◌, ◌<◌, ◌≤◌, Bool, true, false, cond, eqb, ◌⊎◌, List, [], ◌∷◌, length, get_or, take, Ok, Err, sym, refl, ap, ◌∙◌, subst, inl, inr, add-one, arith}
use Rattle.std.proofs.lemmas.Bool.Decides.{nat_tests}
use Rattle.fault.specs.declared.Cause.TheVariants.{NoSymbol}
use Rattle.fault.specs.Numbers.{fault_at}
use Rattle.scanner.specs.declared.gap.Move.{Move}
use Rattle.scanner.specs.declared.gap.Move.TheVariants as to
use Rattle.scanner.specs.Gaps.{blank, allowed, opening, closing, move_of, gap}
use Rattle.scanner.proofs.Gaps.{moved, gap_none, gap_move}
use Rattle.scanner.proofs.Within.{Within, gap_within}
use Rattle.lexing.specs.Spelling.{Gap, done, blank_then, opens, closes, inside}

-- ---- what each move says

opened : (d b c : ℕ) → move_of d b c ≡ to.Open → (opening b c ≡ true) × (d < 32)
opened d b c e = (grind (arith, nat_tests), grind (arith, nat_tests))

closed : (d b c : ℕ) → move_of d b c ≡ to.Close → (closing b c ≡ true) × (0 < d)
closed d b c e = (grind (arith, nat_tests), grind (arith, nat_tests))

stopped : (d b c : ℕ) → move_of d b c ≡ to.Stop → d ≡ 0
stopped d b c e = grind (arith, nat_tests)

pub record Inside (d b c : ℕ) : Type 0 where
  pub some : 0 < d
  pub held : allowed b ≡ true
  pub unopened : opening b c ≡ false
  pub unclosed : closing b c ≡ false

passed : (d b c : ℕ) → move_of d b c ≡ to.Pass → ((d ≡ 0) × (blank b ≡ true)) ⊎ Inside d b c
passed d b c e = go (eqb d 0) refl
  where
    go : (x : Bool) → eqb d 0 ≡ x → ((d ≡ 0) × (blank b ≡ true)) ⊎ Inside d b c
    go true z = inl (grind (arith, nat_tests), grind (arith, nat_tests))
    go false z = inr (record { some = grind (arith, nat_tests); held = grind (arith, nat_tests); unopened = grind (arith, nat_tests); unclosed = grind (arith, nat_tests) })

-- ---- a comment that is open has not ended

pub never_empty : (d : ℕ) (bs : List ℕ) → bs ≡ [] → Gap (suc d) bs → ⊥
never_empty d bs e (opens n b c cs o l g) = let z : ◌≡◌ {A = ℕ} 0 1 = cc in omega arith
never_empty d bs e (closes n b c cs o g) = let z : ◌≡◌ {A = ℕ} 0 1 = cc in omega arith
never_empty d bs e (inside n b cs a o c g) = let z : ◌≡◌ {A = ℕ} 0 1 = cc in omega arith

first_inside : (d n c : ℕ) (bs : List ℕ) → 0 < d → Gap d (take n (c ∷ bs)) → get_or (take n (c ∷ bs)) 0 0 ≡ c
first_inside zero n c bs h g = absurd (omega arith)
first_inside (suc d) zero c bs h g = absurd (never_empty d [] refl g)
first_inside (suc d) (suc n) c bs h g = refl

-- ---- the bytes of one move more

one_more : (j k b : ℕ) (bs : List ℕ) → k + 1 ≤ j → take (j - k) (b ∷ bs) ≡ b ∷ take (j - (k + 1)) bs
one_more j k b bs h =
    let n : j - k ≡ suc (j - (k + 1)) = omega arith in
    rw n

two_more : (j k b c : ℕ) (bs : List ℕ) → k + 2 ≤ j → take (j - k) (b ∷ c ∷ bs) ≡ b ∷ c ∷ take (j - (k + 2)) bs
two_more j k b c bs h =
    let n : j - k ≡ suc (suc (j - (k + 2))) = omega arith in
    rw n

none_more : (j k : ℕ) (bs : List ℕ) → j ≡ k → take (j - k) bs ≡ []
none_more j k bs e =
    let n : j - k ≡ 0 = omega arith in
    rw n

ended : (d k j : ℕ) → cond (eqb d 0) (Ok k) (Err (fault_at NoSymbol k)) ≡ Ok j → (d ≡ 0) × (k ≡ j)
ended d k j e = go (eqb d 0) refl e
  where
    go : (x : Bool) → eqb d 0 ≡ x → cond x (Ok k) (Err (fault_at NoSymbol k)) ≡ Ok j → (d ≡ 0) × (k ≡ j)
    go true z f = (grind (arith, nat_tests), cc)
    go false z f = let n : ◌≡◌ {A = ℕ} 0 1 = cc in absurd (omega arith)

bounded : (d k j : ℕ) (bs : List ℕ) → gap d k bs ≡ Ok j → k ≤ j
bounded d k j bs e = (subst (Within k (k + length bs)) e (gap_within d k bs)).0

passing : (d k j b c : ℕ) (bs : List ℕ) → get_or bs 0 0 ≡ c → k + 1 ≤ j → ((d ≡ 0) × (blank b ≡ true)) ⊎ Inside d b c → (0 < d → get_or (take (j - (k + 1)) bs) 0 0 ≡ c) → Gap d (take (j - (k + 1)) bs) → Gap d (take (j - k) (b ∷ bs))
passing d k j b c bs f l (inl z) first g =
    let none = z.0 in
    subst (λ x. Gap x (take (j - k) (b ∷ bs))) (sym none) (subst (Gap 0) (sym (one_more j k b bs l)) (blank_then b (take (j - (k + 1)) bs) z.1 (subst (λ x. Gap x (take (j - (k + 1)) bs)) none g)))
passing d k j b c bs f l (inr i) first g =
    let some = i.some in
    let pred : d ≡ suc (d - 1) = omega arith in
    let here = first some in
    subst (λ x. Gap x (take (j - k) (b ∷ bs))) (sym pred)
    (subst (Gap (suc (d - 1))) (sym (one_more j k b bs l))
    (inside (d - 1) b (take (j - (k + 1)) bs) i.held (ap (opening b) here ∙ i.unopened) (ap (closing b) here ∙ i.unclosed) (subst (λ x. Gap x (take (j - (k + 1)) bs)) pred g)))

module _ (d k j b c : ℕ) (bs : List ℕ) where
  pub by_move : (m : Move) → move_of d b c ≡ m → moved m k (gap (d + 1) (k + 2) bs) (gap (d - 1) (k + 2) bs) (gap d (k + 1) (c ∷ bs)) ≡ Ok j → (gap (d + 1) (k + 2) bs ≡ Ok j → Gap (d + 1) (take (j - (k + 2)) bs)) → (gap (d - 1) (k + 2) bs ≡ Ok j → Gap (d - 1) (take (j - (k + 2)) bs)) → (gap d (k + 1) (c ∷ bs) ≡ Ok j → Gap d (take (j - (k + 1)) (c ∷ bs))) → Gap d (take (j - k) (b ∷ c ∷ bs))
  by_move to.Open e f x y z =
      let says = opened d b c e in
      subst (Gap d) (sym (two_more j k b c bs (bounded (d + 1) (k + 2) j bs f))) (opens d b c (take (j - (k + 2)) bs) says.0 says.1 (subst (λ n. Gap n (take (j - (k + 2)) bs)) (add-one d) (x f)))
  by_move to.Close e f x y z =
      let says = closed d b c e in
      let some = says.1 in
      let pred : suc (d - 1) ≡ d = omega arith in
      subst (λ n. Gap n (take (j - k) (b ∷ c ∷ bs))) pred (subst (Gap (suc (d - 1))) (sym (two_more j k b c bs (bounded (d - 1) (k + 2) j bs f))) (closes (d - 1) b c (take (j - (k + 2)) bs) says.0 (y f)))
  by_move to.Pass e f x y z =
      passing d k j b c (c ∷ bs) refl (bounded d (k + 1) j (c ∷ bs) f) (passed d b c e) (λ h. first_inside d (j - (k + 1)) c bs h (z f)) (z f)
  by_move to.Stop e f x y z =
      let same : j ≡ k = cc in
      subst (λ n. Gap n (take (j - k) (b ∷ c ∷ bs))) (sym (stopped d b c e)) (subst (Gap 0) (sym (none_more j k (b ∷ c ∷ bs) same)) done)
  by_move to.TooDeep e f x y z = let n : ◌≡◌ {A = ℕ} 0 1 = cc in absurd (omega arith)
  by_move to.Wrong e f x y z = let n : ◌≡◌ {A = ℕ} 0 1 = cc in absurd (omega arith)

last_move : (d k j b : ℕ) (m : Move) → move_of d b 0 ≡ m → moved m k (gap (d + 1) (k + 2) []) (gap (d - 1) (k + 2) []) (gap d (k + 1) []) ≡ Ok j → Gap d (take (j - k) (b ∷ []))
last_move d k j b to.Open e f = let o = (opened d b 0 e).0 in let n : ◌≡◌ {A = ℕ} 0 1 = grind (arith, nat_tests) in absurd (omega arith)
last_move d k j b to.Close e f = let o = (closed d b 0 e).0 in let n : ◌≡◌ {A = ℕ} 0 1 = grind (arith, nat_tests) in absurd (omega arith)
last_move d k j b to.Pass e f =
    let end = ended d (k + 1) j (sym (gap_none d (k + 1)) ∙ f) in
    let is = end.1 in
    let none : take (j - (k + 1)) [] ≡ [] = none_more j (k + 1) [] (omega arith) in
    let whole = subst (λ x. Gap x []) (sym end.0) done in
    passing d k j b 0 [] refl (omega arith) (passed d b 0 e) (λ h. absurd (let z = end.0 in omega arith)) (subst (Gap d) (sym none) whole)
last_move d k j b to.Stop e f =
    let same : j ≡ k = cc in
    subst (λ n. Gap n (take (j - k) (b ∷ []))) (sym (stopped d b 0 e)) (subst (Gap 0) (sym (none_more j k (b ∷ []) same)) done)
last_move d k j b to.TooDeep e f = let n : ◌≡◌ {A = ℕ} 0 1 = cc in absurd (omega arith)
last_move d k j b to.Wrong e f = let n : ◌≡◌ {A = ℕ} 0 1 = cc in absurd (omega arith)

-- what is passed over from k to j is a gap
pub gap_blanks : (d k : ℕ) (bs : List ℕ) (j : ℕ) → gap d k bs ≡ Ok j → Gap d (take (j - k) bs)
gap_blanks d k [] j e =
    let end = ended d k j (sym (gap_none d k) ∙ e) in
    subst (λ n. Gap n (take (j - k) [])) (sym end.0) (subst (Gap 0) (sym (none_more j k [] (sym end.1))) done)
gap_blanks d k (b ∷ []) j e = last_move d k j b (move_of d b 0) refl (sym (gap_move d k (b ∷ []) (omega arith)) ∙ e)
gap_blanks d k (b ∷ c ∷ bs) j e =
    by_move d k j b c bs (move_of d b c) refl (sym (gap_move d k (b ∷ c ∷ bs) (omega arith)) ∙ e)
    (gap_blanks (d + 1) (k + 2) bs j) (gap_blanks (d - 1) (k + 2) bs j) (gap_blanks d (k + 1) (c ∷ bs) j)

-- ---- where a gap ends before the last byte, something else than a gap begins

abbrev Halts : List ℕ → ℕ → Type 0
Halts bs i = move_of 0 (get_or bs i 0) (get_or bs (i + 1) 0) ≡ to.Stop

halts_two : (j k b c : ℕ) (bs : List ℕ) → k + 2 ≤ j → Halts bs (j - (k + 2)) → Halts (b ∷ c ∷ bs) (j - k)
halts_two j k b c bs l h =
    let n : j - k ≡ suc (suc (j - (k + 2))) = omega arith in
    let m : j - k + 1 ≡ suc (suc (j - (k + 2) + 1)) = omega arith in
    rw (m, n) h

halts_one : (j k b : ℕ) (bs : List ℕ) → k + 1 ≤ j → Halts bs (j - (k + 1)) → Halts (b ∷ bs) (j - k)
halts_one j k b bs l h =
    let n : j - k ≡ suc (j - (k + 1)) = omega arith in
    let m : j - k + 1 ≡ suc (j - (k + 1) + 1) = omega arith in
    rw (m, n) h

halts_here : (j k d b c : ℕ) (bs : List ℕ) → get_or bs 0 0 ≡ c → j ≡ k → d ≡ 0 → move_of d b c ≡ to.Stop → Halts (b ∷ bs) (j - k)
halts_here j k d b c bs f e z h =
    let n : j - k ≡ 0 = omega arith in
    let m : j - k + 1 ≡ suc 0 = omega arith in
    rw (m, n, f) (rw z at h)

module _ (d k j b c : ℕ) (bs : List ℕ) where
  halts_by : (m : Move) → move_of d b c ≡ m → moved m k (gap (d + 1) (k + 2) bs) (gap (d - 1) (k + 2) bs) (gap d (k + 1) (c ∷ bs)) ≡ Ok j → (gap (d + 1) (k + 2) bs ≡ Ok j → Halts bs (j - (k + 2))) → (gap (d - 1) (k + 2) bs ≡ Ok j → Halts bs (j - (k + 2))) → (gap d (k + 1) (c ∷ bs) ≡ Ok j → Halts (c ∷ bs) (j - (k + 1))) → Halts (b ∷ c ∷ bs) (j - k)
  halts_by to.Open e f x y z = halts_two j k b c bs (bounded (d + 1) (k + 2) j bs f) (x f)
  halts_by to.Close e f x y z = halts_two j k b c bs (bounded (d - 1) (k + 2) j bs f) (y f)
  halts_by to.Pass e f x y z = halts_one j k b (c ∷ bs) (bounded d (k + 1) j (c ∷ bs) f) (z f)
  halts_by to.Stop e f x y z = let same : j ≡ k = cc in halts_here j k d b c (c ∷ bs) refl same (stopped d b c e) e
  halts_by to.TooDeep e f x y z = let n : ◌≡◌ {A = ℕ} 0 1 = cc in absurd (omega arith)
  halts_by to.Wrong e f x y z = let n : ◌≡◌ {A = ℕ} 0 1 = cc in absurd (omega arith)

halts_last : (d k j b : ℕ) (m : Move) → j < k + 1 → move_of d b 0 ≡ m → moved m k (gap (d + 1) (k + 2) []) (gap (d - 1) (k + 2) []) (gap d (k + 1) []) ≡ Ok j → Halts (b ∷ []) (j - k)
halts_last d k j b to.Open l e f = let o = (opened d b 0 e).0 in let n : ◌≡◌ {A = ℕ} 0 1 = grind (arith, nat_tests) in absurd (omega arith)
halts_last d k j b to.Close l e f = let o = (closed d b 0 e).0 in let n : ◌≡◌ {A = ℕ} 0 1 = grind (arith, nat_tests) in absurd (omega arith)
halts_last d k j b to.Pass l e f = let end = (ended d (k + 1) j (sym (gap_none d (k + 1)) ∙ f)).1 in absurd (omega arith)
halts_last d k j b to.Stop l e f = let same : j ≡ k = cc in halts_here j k d b 0 [] refl same (stopped d b 0 e) e
halts_last d k j b to.TooDeep l e f = let n : ◌≡◌ {A = ℕ} 0 1 = cc in absurd (omega arith)
halts_last d k j b to.Wrong l e f = let n : ◌≡◌ {A = ℕ} 0 1 = cc in absurd (omega arith)

pub gap_halts : (d k : ℕ) (bs : List ℕ) (j : ℕ) → j < k + length bs → gap d k bs ≡ Ok j → Halts bs (j - k)
gap_halts d k [] j l e = let end = (ended d k j (sym (gap_none d k) ∙ e)).1 in absurd (omega arith)
gap_halts d k (b ∷ []) j l e = halts_last d k j b (move_of d b 0) (omega arith) refl (sym (gap_move d k (b ∷ []) (omega arith)) ∙ e)
gap_halts d k (b ∷ c ∷ bs) j l e =
    halts_by d k j b c bs (move_of d b c) refl (sym (gap_move d k (b ∷ c ∷ bs) (omega arith)) ∙ e)
    (gap_halts (d + 1) (k + 2) bs j (omega arith)) (gap_halts (d - 1) (k + 2) bs j (omega arith)) (gap_halts d (k + 1) (c ∷ bs) j (omega arith))

pub halt_says : (b c : ℕ) → move_of 0 b c ≡ to.Stop → opening b c ≡ false
halt_says b c e = grind (arith, nat_tests)
