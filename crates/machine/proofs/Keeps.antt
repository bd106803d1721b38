-- What every move keeps, every call keeps.
use Prim.{tt, absurd}
use Rattle.std.proofs.Common.{◌≡◌, ℕ, zero, suc, ◌<◌, Bool, true, false, cond, List, [], ◌∷◌, ℤ, Ok, Err, Result, sym, refl, subst, arith}
use Rattle.fault.specs.declared.Trap.{Trap}
use Rattle.program.specs.Trees.{At}
use Rattle.program.specs.Types.{fits}
use Rattle.meaning.specs.Actions.{Action, Cells, Line, Event, outcome}
use Rattle.meaning.specs.Actions.Event.{step, give, took}
use Rattle.machine.specs.Machine.{Task, Held, Config, Next, Now, next_of, next, then, acted, answer, moved_on, arrives}
use Rattle.machine.specs.Machine.Next.{none, acts, awaits, offers}
use Rattle.machine.specs.Machine.Answer.{refused, went_on}
use Rattle.machine.specs.Moves.{After, AfterMove, KeptByMoves, Holds, Move, move, weight, SoundMove}
use Rattle.machine.specs.Moves.Move.{rests, moves}
use Rattle.machine.proofs.Moves.{moves_find_lem}

module _ (X : Config → Type 0) (keeps : KeptByMoves X) where
  -- the next action is found by moves of falling weight
  next_by : (w : ℕ) (k : List Task) (h : Held) → weight k < suc w
      → ((k' : List Task) (h' : Held) → weight k' < w → X (then k' h') → After X (next_of k' h'))
      → (m : Move) → SoundMove k h m → AfterMove X m → After X (next_of k h)
  next_by w k h l deeper (rests x) s p = subst (After X) (sym s) p
  next_by w k h l deeper (moves k' h') s p = subst (After X) (sym s.0) (deeper k' h' (let q = s.1 in omega arith) p)

  next_keeps : (w : ℕ) (k : List Task) (h : Held) → weight k < w → X (then k h) → After X (next_of k h)
  next_keeps zero k h l i = absurd (omega arith)
  next_keeps (suc w) k h l i = next_by w k h l (next_keeps w) (move k h) (moves_find_lem k h) (keeps k h i)

  -- what holds where a move rests holds of the next action
  rest_by : (Y : Next → Type 0) (w : ℕ) (k : List Task) (h : Held) → weight k < suc w
      → ((k' : List Task) (h' : Held) → weight k' < w → X (then k' h') → Y (next_of k' h'))
      → (m : Move) → SoundMove k h m → AfterMove X m → ((x : Next) → m ≡ rests x → Y x) → Y (next_of k h)
  rest_by Y w k h l deeper (rests x) s p f = subst Y (sym s) (f x refl)
  rest_by Y w k h l deeper (moves k' h') s p f = subst Y (sym s.0) (deeper k' h' (let q = s.1 in omega arith) p)

  pub next_has : (Y : Next → Type 0) → ((k : List Task) (h : Held) → X (then k h) → (x : Next) → move k h ≡ rests x → Y x)
      → (w : ℕ) (k : List Task) (h : Held) → weight k < w → X (then k h) → Y (next_of k h)
  next_has Y f zero k h l i = absurd (omega arith)
  next_has Y f (suc w) k h l i = rest_by Y w k h l (next_has Y f w) (move k h) (moves_find_lem k h) (keeps k h i) (f k h i)

  acted_keeps : (k : Config → Now) (c₀ : Config) (at : At) (d : ℕ) (a : Action) (c : ℤ → Config) (σ : Cells) (r : Result ℤ Trap)
      → ((v : ℤ) → Holds X (k (c v))) → Holds X (moved_on k c₀ (acted at d a c σ r))
  acted_keeps k c₀ at d a c σ (Ok v) h = h v
  acted_keeps k c₀ at d a c σ (Err t) h = tt

  given_keeps : (k : Config → Now) (c₀ c : Config) (l : Line) (b : Bool) → Holds X (k c₀) → Holds X (k c)
      → Holds X (moved_on k c₀ (cond b (went_on l c) refused))
  given_keeps k c₀ c l true p q = q
  given_keeps k c₀ c l false p q = p

  answer_keeps : (k : Config → Now) (c : Config) → Holds X (k c) → ((c : Config) → X c → Holds X (k c))
      → (x : Next) → After X x → (e : Event) → Holds X (moved_on k c (answer x e))
  answer_keeps k c same f none h e = same
  answer_keeps k c same f (acts at d a c') h (step σ) = acted_keeps k c at d a c' σ (outcome d a σ) (λ v. f (c' v) (h v))
  answer_keeps k c same f (acts at d a c') h (give v) = same
  answer_keeps k c same f (acts at d a c') h took = same
  answer_keeps k c same f (awaits a t c') h (step σ) = same
  answer_keeps k c same f (awaits a t c') h (give v) = given_keeps k c (c' v) _ (fits t v) same (f (c' v) (h v))
  answer_keeps k c same f (awaits a t c') h took = same
  answer_keeps k c same f (offers a v c') h (step σ) = same
  answer_keeps k c same f (offers a v c') h (give w) = same
  answer_keeps k c same f (offers a v c') h took = f c' h

  pub calls_keep : (es : List Event) (c : Config) → X c → Holds X (arrives c es)
  calls_keep [] c i = i
  calls_keep (e ∷ es) c i =
      answer_keeps (λ c. arrives c es) c (calls_keep es c i) (calls_keep es) (next c)
      (next_keeps (suc (weight c.tasks)) c.tasks c.held (omega arith) i) e
