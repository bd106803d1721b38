-- Gaps and symbols stay within the text. Assumes nothing.
use Rattle.std.proofs.Common.{◌≡◌, ℕ, ◌+◌, ◌-◌, ◌<◌, ◌≤◌, Bool, true, false, cond, not, ◌&&◌, eqb, leb, List, [], ◌∷◌, length, get_or, take, is_some, Some, None, Ok, Err, Result, sym, refl, subst, arith}
use Rattle.std.proofs.lemmas.List.{get_or_past}
use Rattle.std.proofs.lemmas.List.Sums.{prefix_len-le-length}
use Rattle.std.proofs.lemmas.Bool.Decides.{nat_tests}
use Rattle.std.specs.Char.{is_ascii_alphanumeric, is_ascii_alphabetic, is_ascii_digit}
use Rattle.fault.specs.declared.Fault.{Fault}
use Rattle.symbol.specs.Symbols.{character}
use Rattle.symbol.specs.Values.{number_value_of, character_value_of}
use Rattle.scanner.specs.declared.gap.Move.{Move}
use Rattle.scanner.specs.declared.gap.Move.TheVariants as to
use Rattle.scanner.specs.Gaps.{move_of, gap}
use Rattle.scanner.proofs.Gaps.{moved, gap_none, gap_move}
use Rattle.scanner.specs.Fronts.{Begun, run, quotes, begins_quote, begins_mark, begins}

-- ---- gaps

-- a place from lo to hi, of what follows or of a fault
abbrev pub Within : ℕ → ℕ → Result ℕ Fault → Type 0
Within lo hi (Ok j) = (lo ≤ j) × (j ≤ hi)
Within lo hi (Err f) = (lo ≤ f.place) × (f.place ≤ hi)

wider : (lo hi lo' hi' : ℕ) (r : Result ℕ Fault) → lo' ≤ lo → hi ≤ hi' → Within lo hi r → Within lo' hi' r
wider lo hi lo' hi' (Ok j) p q h = (omega arith, omega arith)
wider lo hi lo' hi' (Err f) p q h = (omega arith, omega arith)

moved_within : (lo hi k : ℕ) (m : Move) (opened closed onward : Result ℕ Fault) → lo ≤ k → k ≤ hi → (m ≡ to.Open → Within lo hi opened) → (m ≡ to.Close → Within lo hi closed) → Within lo hi onward → Within lo hi (moved m k opened closed onward)
moved_within lo hi k to.Open o c p a b x y z = x refl
moved_within lo hi k to.Close o c p a b x y z = y refl
moved_within lo hi k to.Pass o c p a b x y z = z
moved_within lo hi k to.Stop o c p a b x y z = (a, b)
moved_within lo hi k to.TooDeep o c p a b x y z = (a, b)
moved_within lo hi k to.Wrong o c p a b x y z = (a, b)

-- the last byte alone is no bracket of a comment
no_opening : (d b : ℕ) → move_of d b 0 ≡ to.Open → ⊥
no_opening d b e = let z : ◌≡◌ {A = ℕ} 0 1 = grind (arith, nat_tests) in omega arith

no_closing : (d b : ℕ) → move_of d b 0 ≡ to.Close → ⊥
no_closing d b e = let z : ◌≡◌ {A = ℕ} 0 1 = grind (arith, nat_tests) in omega arith

end_within : (lo hi : ℕ) (b : Bool) (x y : Result ℕ Fault) → Within lo hi x → Within lo hi y → Within lo hi (cond b x y)
end_within lo hi true x y p q = p
end_within lo hi false x y p q = q

pub gap_within : (d k : ℕ) (bs : List ℕ) → Within k (k + length bs) (gap d k bs)
gap_within d k [] =
    subst (Within k (k + 0)) (sym (gap_none d k)) (end_within k (k + 0) (eqb d 0) _ _ (omega arith, omega arith) (omega arith, omega arith))
gap_within d k (b ∷ []) =
    subst (Within k (k + length (b ∷ []))) (sym (gap_move d k (b ∷ []) (omega arith)))
    (moved_within k (k + length (b ∷ [])) k (move_of d b 0) _ _ (gap d (k + 1) []) (omega arith) (omega arith)
    (λ e. absurd (no_opening d b e)) (λ e. absurd (no_closing d b e))
    (wider (k + 1) (k + 1 + 0) k (k + length (b ∷ [])) (gap d (k + 1) []) (omega arith) (omega arith) (gap_within d (k + 1) [])))
gap_within d k (b ∷ c ∷ bs) =
    subst (Within k (k + length (b ∷ c ∷ bs))) (sym (gap_move d k (b ∷ c ∷ bs) (omega arith)))
    (moved_within k (k + length (b ∷ c ∷ bs)) k (move_of d b c) (gap (d + 1) (k + 2) bs) (gap (d - 1) (k + 2) bs) (gap d (k + 1) (c ∷ bs)) (omega arith) (omega arith)
    (λ _. wider (k + 2) (k + 2 + length bs) k (k + length (b ∷ c ∷ bs)) (gap (d + 1) (k + 2) bs) (omega arith) (omega arith) (gap_within (d + 1) (k + 2) bs))
    (λ _. wider (k + 2) (k + 2 + length bs) k (k + length (b ∷ c ∷ bs)) (gap (d - 1) (k + 2) bs) (omega arith) (omega arith) (gap_within (d - 1) (k + 2) bs))
    (wider (k + 1) (k + 1 + length (c ∷ bs)) k (k + length (b ∷ c ∷ bs)) (gap d (k + 1) (c ∷ bs)) (omega arith) (omega arith) (gap_within d (k + 1) (c ∷ bs))))

-- ---- symbols

-- a symbol has a byte at least, and no more than there are
abbrev pub Sized : ℕ → Begun → Type 0
Sized l None = Unit {0}
Sized l (Some f) = (0 < f.1) × (f.1 ≤ l)

sized_cond : (l : ℕ) (b : Bool) (x y : Begun) → (b ≡ true → Sized l x) → (b ≡ false → Sized l y) → Sized l (cond b x y)
sized_cond l true x y h k = h refl
sized_cond l false x y h k = k refl

pub sized_mark : (b c l : ℕ) → 0 < l → (l < 2 → c ≡ 0) → Sized l (begins_mark b c)
sized_mark b c l h g = grind (arith, nat_tests, g)

-- a letter or digit in front makes a run
pub run_some : (bs : List ℕ) → 0 < length bs → is_ascii_alphanumeric (get_or bs 0 0) ≡ true → 0 < run bs
run_some [] h e = absurd (omega arith)
run_some (b ∷ bs) h e = rw e (omega arith)

letter_alnum : (b : ℕ) → is_ascii_alphabetic b ≡ true → is_ascii_alphanumeric b ≡ true
letter_alnum b e = grind (arith, nat_tests)

digit_alnum : (b : ℕ) → is_ascii_digit b ≡ true → is_ascii_alphanumeric b ≡ true
digit_alnum b e = grind (arith, nat_tests)

quotes_some : (b : Bool) → 0 < cond b 4 3
quotes_some true = omega arith
quotes_some false = omega arith

sized_quote : (bs : List ℕ) → Sized (length bs) (begins_quote bs)
sized_quote bs = go (leb (quotes bs) (length bs)) refl
  where
    go : (b : Bool) → leb (quotes bs) (length bs) ≡ b → Sized (length bs) (cond (b && (is_some (character_value_of (take (quotes bs) bs)) && not (is_ascii_alphanumeric (get_or bs (quotes bs) 0)))) (Some (character (take (quotes bs) bs), quotes bs)) None)
    go true e =
        sized_cond (length bs) (is_some (character_value_of (take (quotes bs) bs)) && not (is_ascii_alphanumeric (get_or bs (quotes bs) 0))) (Some (character (take (quotes bs) bs), quotes bs)) None
        (λ _. (quotes_some (eqb (get_or bs 1 0) 34), grind (arith, nat_tests))) (λ _. tt)
    go false e = tt

pub begins_sized : (bs : List ℕ) → 0 < length bs → Sized (length bs) (begins bs)
unfolding begins
begins_sized bs h =
    let fits = prefix_len-le-length is_ascii_alphanumeric bs in
    sized_cond (length bs) (is_ascii_alphabetic (get_or bs 0 0)) _ _
    (λ e. sized_cond (length bs) (leb (run bs) 24) _ _ (λ _. (run_some bs h (letter_alnum (get_or bs 0 0) e), fits)) (λ _. tt))
    (λ _. sized_cond (length bs) (is_ascii_digit (get_or bs 0 0)) _ _
    (λ e. sized_cond (length bs) (is_some (number_value_of (take (run bs) bs))) _ _ (λ _. (run_some bs h (digit_alnum (get_or bs 0 0) e), fits))
    (λ _. sized_cond (length bs) (is_some (character_value_of (take (run bs) bs))) _ _ (λ _. (run_some bs h (digit_alnum (get_or bs 0 0) e), fits)) (λ _. tt)))
    (λ _. sized_cond (length bs) (eqb (get_or bs 0 0) 34) _ _ (λ _. sized_quote bs)
    (λ _. sized_mark (get_or bs 0 0) (get_or bs 1 0) (length bs) h (λ l. get_or_past bs 1 0 (omega arith)))))
