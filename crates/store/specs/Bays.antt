-- What a bay means, over the meaning of the store below, and why the laws hold of it.
use Rattle.std.specs.Prelude.{◌≡◌, ℕ, ◌+◌, ◌-◌, ◌<◌, min, List, length, drop, ℤ, refl}
use Rattle.std.proofs.Common.{◌∙◌, arith, length-take, length-drop}
use Rattle.std.specs.List.{AllByRecursion}
use Rattle.std.proofs.ByRecursion.{All-take, All-drop}
use Rattle.store.specs.declared.Bay.{Bay}
use Rattle.store.specs.Cells.{Cell, window, Around}
use Rattle.store.specs.Laws.{Bounds, Steady}

abbrev pub bay_cells : {S : Type 0} → (S → List ℤ) → Bay S → List ℤ
bay_cells cells b = window b.first b.len (cells b.below)

-- first cell and length are the same, so are the cells below before and after those of the bay, and so is what is beside the store below
abbrev pub BayBeside : {S : Type 0} → (S → List ℤ) → (S → S → Type 0) → Bay S → Bay S → Type 0
BayBeside cells beside b c = (b.first ≡ c.first) × (b.len ≡ c.len) × Around b.first b.len (cells b.below) (cells c.below) × beside b.below c.below

window_few : (first len : ℕ) (xs : List ℤ) → length xs < 65536 → length (window first len xs) < 65536
window_few first len xs h = simp (length-take, length-drop) (omega arith)

window_narrow : (first len : ℕ) (xs : List ℤ) → AllByRecursion Cell xs → AllByRecursion Cell (window first len xs)
window_narrow first len xs h = All-take Cell len (drop first xs) (All-drop Cell first xs h)

around_along : (f k f' k' : ℕ) (xs ys zs : List ℤ) → f ≡ f' → k ≡ k' → Around f k xs ys → Around f' k' ys zs → Around f k xs zs
around_along f k f' k' xs ys zs e d p q = (p.0 ∙ rw e q.0, p.1 ∙ rw (e, d) q.1)

pub bay_bounds : {S : Type 0} (cells : S → List ℤ) → Bounds cells → Bounds (bay_cells cells)
bay_bounds cells l =
    record {
      few = λ b. window_few b.first b.len (cells b.below) (l.few b.below);
      narrow = λ b. window_narrow b.first b.len (cells b.below) (l.narrow b.below);
    }

pub bay_steady : {S : Type 0} (cells : S → List ℤ) (beside : S → S → Type 0) → Steady beside → Steady (BayBeside cells beside)
bay_steady cells beside l =
    record {
      same = λ b. (refl, refl, (refl, refl), l.same b.below);
      along = λ b c d p q. (
        p.0 ∙ q.0,
        p.1 ∙ q.1,
        around_along b.first b.len c.first c.len (cells b.below) (cells c.below) (cells d.below) p.0 p.1 p.2 q.2,
        l.along b.below c.below d.below p.3 q.3,
      );
    }

-- a bay on a bay is one bay: it begins where both beginnings lead, and ends where the first of the two ends
abbrev pub PilesAreBays : Type 0
PilesAreBays = (first len lower most : ℕ) (xs : List ℤ) → window first len (window lower most xs) ≡ window (lower + first) (min len (most - first)) xs
