-- Cells of four bytes: what a write of one leaves.
use Rattle.std.proofs.Common.{◌≡◌, ℕ, zero, suc, ◌+◌, ◌*◌, ◌/◌, ◌<◌, ◌≤◌, min, ltb, ◌≢◌, List, [], ◌∷◌, length, get_or, take, drop, set, ℤ, pos, Some, None, Option, Bor, sym, refl, ap, ◌∙◌, ⊎_elim, arith, length-set, length-drop, w32, SFits, rules}
use Rattle.std.proofs.lemmas.List.FromFn.{length-map-range_with_len, get_or-map-range_with_len}
use Rattle.std.proofs.lemmas.List.{get_or-set_same, get_or-set_other, same_lists, drop-set-lt}
use Rattle.std.proofs.lemmas.Slice.{between_to_end}
use Rattle.std.specs.List.{between}
use Rattle.std.specs.Option.{MatchOption, option_copied}
use Rattle.std.specs.Array.{IsFirstChunk}
use borrow.Rule.Slice.PartMut.{put_mid}
use Rattle.std.proofs.lemmas.Bool.{lt-ltb, cond-true}
use Rattle.std.proofs.lemmas.Bool.Decides.{eqb_tells}
use Rattle.strip.specs.Bytes.{bytes_of, cell_of, strip_count, strip_cells, four, Leftover, set4, with_cell}

pub strip_length : (bs : List ℕ) → length (strip_cells bs) ≡ strip_count bs
strip_length bs = length-map-range_with_len (cell_of bs) 0 (strip_count bs)

pub within : (bs : List ℕ) (n : ℕ) → n < length (strip_cells bs) → 4 * n + 3 < length bs
within bs n h = omega (arith, strip_length bs)

strip_at : (bs : List ℕ) (n : ℕ) (d : ℤ) → n < strip_count bs → get_or (strip_cells bs) n d ≡ cell_of bs n
strip_at bs n d h = get_or-map-range_with_len (cell_of bs) 0 (strip_count bs) n n d h (omega arith)

pub strip_cell : (bs : List ℕ) (n : ℕ) → n < length (strip_cells bs) → get_or (strip_cells bs) n (pos 0) ≡ cell_of bs n
strip_cell bs n h = strip_at bs n (pos 0) (omega (arith, strip_length bs))

pub length_set4 : (bs : List ℕ) (at : ℕ) (ws : List ℕ) → length (set4 bs at ws) ≡ length bs
length_set4 bs at ws = simp length-set

-- a place further on, as `get_or` and `set` step to it
module _ (at : ℕ) where
  one-on : suc at + 1 ≡ suc (at + 1)
  one-on = omega arith

  two-on : suc at + 2 ≡ suc (at + 2)
  two-on = omega arith

  three-on : suc at + 3 ≡ suc (at + 3)
  three-on = omega arith

-- the four elements from `at` on
pub four_at : (bs : List ℕ) (at : ℕ) → at + 4 ≤ length bs → take 4 (drop at bs) ≡ four bs at
four_at (a ∷ b ∷ c ∷ d ∷ bs) zero h = refl
four_at (x ∷ bs) (suc at) h = rw (one-on, two-on, three-on) (four_at bs at (omega arith))
four_at bs at h = absurd (omega arith)

-- the first four bytes of what is left from `at` on
pub chunk_at : (bs : List ℕ) (at : ℕ) (r : Option (Bor (List ℕ))) → at + 4 ≤ length bs →
    MatchOption r (length (between at (length bs) bs) < 4) (λ y. IsFirstChunk (between at (length bs) bs) y.now 4) → option_copied r ≡ Some (four bs at)
chunk_at bs at None h m = absurd (omega (arith, ap length (between_to_end bs at (length bs) (omega arith)), length-drop at bs, m))
chunk_at bs at (Some y) h m = ap Some (m.same ∙ ap (take 4) (between_to_end bs at (length bs) (omega arith)) ∙ four_at bs at h)

-- four bytes written in one piece
pub set4_mid : (bs : List ℕ) (at : ℕ) (a b c d : ℕ) → at + 4 ≤ length bs → put_mid at 4 bs (a ∷ b ∷ c ∷ d ∷ []) ≡ set4 bs at (a ∷ b ∷ c ∷ d ∷ [])
set4_mid (x ∷ y ∷ z ∷ w ∷ bs) zero a b c d h = refl
set4_mid (x ∷ bs) (suc at) a b c d h = rw (one-on, two-on, three-on) (ap (λ (t : List ℕ). x ∷ t) (set4_mid bs at a b c d (omega arith)))
set4_mid bs at a b c d h = absurd (omega arith)

-- what stands where after four bytes are written
module _ (bs : List ℕ) (at : ℕ) (ws : List ℕ) where
  other : (j : ℕ) → j ≢ at → j ≢ at + 1 → j ≢ at + 2 → j ≢ at + 3 → get_or (set4 bs at ws) j 0 ≡ get_or bs j 0
  other j h0 h1 h2 h3 = rw (get_or-set_other, get_or-set_other, get_or-set_other, get_or-set_other)

  module _ (h : at + 3 < length bs) where
    same0 : get_or (set4 bs at ws) at 0 ≡ get_or ws 0 0
    same0 = grind (arith, get_or-set_same, get_or-set_other, length-set)

    same1 : get_or (set4 bs at ws) (at + 1) 0 ≡ get_or ws 1 0
    same1 = grind (arith, get_or-set_same, get_or-set_other, length-set)

    same2 : get_or (set4 bs at ws) (at + 2) 0 ≡ get_or ws 2 0
    same2 = grind (arith, get_or-set_same, get_or-set_other, length-set)

    same3 : get_or (set4 bs at ws) (at + 3) 0 ≡ get_or ws 3 0
    same3 = grind (arith, get_or-set_same, get_or-set_other, length-set)

read_back : (v : ℤ) → SFits w32 v → cell_of (bytes_of v) 0 ≡ v
read_back v f = search rules

cell_same : (bs : List ℕ) (n : ℕ) (v : ℤ) → SFits w32 v → 4 * n + 3 < length bs → cell_of (set4 bs (4 * n) (bytes_of v)) n ≡ v
cell_same bs n v f h =
    let ws = bytes_of v in
    rw (same0 bs (4 * n) ws h, same1 bs (4 * n) ws h, same2 bs (4 * n) ws h, same3 bs (4 * n) ws h) (read_back v f)

cell_other : (bs : List ℕ) (n m : ℕ) (ws : List ℕ) → m ≢ n → cell_of (set4 bs (4 * n) ws) m ≡ cell_of bs m
cell_other bs n m ws h =
    rw (
      other bs (4 * n) ws (4 * m) (omega arith) (omega arith) (omega arith) (omega arith),
      other bs (4 * n) ws (4 * m + 1) (omega arith) (omega arith) (omega arith) (omega arith),
      other bs (4 * n) ws (4 * m + 2) (omega arith) (omega arith) (omega arith) (omega arith),
      other bs (4 * n) ws (4 * m + 3) (omega arith) (omega arith) (omega arith) (omega arith),
    )

pub strip_set : (bs : List ℕ) (n : ℕ) (v : ℤ) → SFits w32 v → n < length (strip_cells bs) → strip_cells (set4 bs (4 * n) (bytes_of v)) ≡ set (strip_cells bs) n v
strip_set bs n v f h =
    let ws = bytes_of v in
    let bs' = set4 bs (4 * n) ws in
    let l = strip_length bs in
    let l' = strip_length bs' in
    let e : length bs' ≡ length bs = length_set4 bs (4 * n) ws in
    let s : length (set (strip_cells bs) n v) ≡ length (strip_cells bs) = length-set (strip_cells bs) n v in
    let q : strip_count bs' ≡ strip_count bs = ap (λ m. min (m / 4) 4096) e in
    same_lists _ _ (omega arith) (λ k d p.
    ⊎_elim
    (λ y. rw y.1 (strip_at bs' n d (omega arith) ∙ cell_same bs n v f (within bs n h) ∙ sym (get_or-set_same (strip_cells bs) n v d h)))
    (λ y. strip_at bs' k d (omega arith) ∙ cell_other bs n k ws y.1 ∙ sym (get_or-set_other (strip_cells bs) n k v d y.1 ∙ strip_at bs k d (omega arith)))
    (eqb_tells k n))

pub leftover_set : (bs : List ℕ) (n : ℕ) (ws : List ℕ) → n < length (strip_cells bs) → Leftover bs (set4 bs (4 * n) ws)
leftover_set bs n ws h =
    let l = strip_length bs in
    let h0 : 4 * n < 4 * strip_count bs = omega arith in
    let h1 : 4 * n + 1 < 4 * strip_count bs = omega arith in
    let h2 : 4 * n + 2 < 4 * strip_count bs = omega arith in
    let h3 : 4 * n + 3 < 4 * strip_count bs = omega arith in
    (sym (length_set4 bs (4 * n) ws), sym (drop-set-lt _ _ _ (get_or ws 3 0) h3 ∙ drop-set-lt _ _ _ (get_or ws 2 0) h2 ∙ drop-set-lt _ _ _ (get_or ws 1 0) h1 ∙ drop-set-lt _ _ _ (get_or ws 0 0) h0))

pub with_cell_lem : (bs : List ℕ) (n : ℕ) (v : ℤ) → n < length (strip_cells bs) → set4 bs (4 * n) (bytes_of v) ≡ with_cell bs n v
with_cell_lem bs n v h = sym (cond-true (ltb n (strip_count bs)) (set4 bs (4 * n) (bytes_of v)) bs (lt-ltb n (strip_count bs) (omega (arith, strip_length bs))))
