-- The law of order, read off the machine: refused calls count for nothing, what has been done stays, and the state tells what a call does.
use Prim.{absurd}
use Rattle.std.proofs.Common.{◌≡◌, ℕ, suc, Bool, true, false, cond, not, T, List, [], ◌∷◌, ◌++◌, ℤ, Ok, Err, Result, sym, refl, ap, ◌∙◌, subst}
use Rattle.fault.specs.declared.Trap.{Trap}
use Rattle.std.proofs.lemmas.List.{append-nil}
use Rattle.program.specs.Types.{Simple, fits}
use Rattle.program.specs.Trees.{At, Program}
use Rattle.meaning.specs.Actions.{Action, Cells, Line, Event, State, Run, stop, also, outcome}
use Rattle.meaning.specs.Actions.Line.{did, was_given}
use Rattle.meaning.specs.Actions.Event.{step, give, took}
use Rattle.meaning.specs.Actions.State.{finished, trapped}
use Rattle.meaning.specs.Meaning.{meaning}
use Rattle.meaning.specs.Order.{accepts, keep_if, accepted_after, accepted_calls, actions, steps_in, Answers, InOrder}
use Rattle.machine.specs.Machine.{Config, Next, Answer, Now, next, state_of, acted, answer, after, run, start, moved_on, arrives, kept, not_refused}
use Rattle.machine.specs.Machine.Next.{none, acts, awaits, offers}
use Rattle.machine.specs.Machine.Answer.{refused, went_on, was_taken, fell}
use Rattle.machine.specs.Machine.Now.{there, fallen}
use Rattle.machine.proofs.Simulates.{simulates}

-- REFUSED CALLS

-- one step of `run` on a call that is not refused, under the equation that says so
kept_runs : (es : List Event) (k : Config → List Event) → ((c : Config) → run c es ≡ run c (k c))
    → (c : Config) (e : Event) (x : Answer) → answer (next c) e ≡ x
    → after (λ c. run c es) c x ≡ run c (kept e k c x)
kept_runs es k h c e refused q = h c
kept_runs es k h c e (went_on l c') q = ap (also l) (h c') ∙ ap (after (λ c. run c (k c')) c) (sym q)
kept_runs es k h c e (was_taken c') q = h c' ∙ ap (after (λ c. run c (k c')) c) (sym q)
kept_runs es k h c e (fell l t p) q = ap (after (λ c. run c []) c) (sym q)

refused_runs : (es : List Event) (c : Config) → run c es ≡ run c (not_refused c es)
refused_runs [] c = refl
refused_runs (e ∷ es) c = kept_runs es (λ c. not_refused c es) (refused_runs es) c e (answer (next c) e) refl

-- AS MANY ACTIONS AS STEPS THAT ARE NOT REFUSED

acted_count : (k : Config → Run) (m : Config → List Event) → ((c : Config) → actions (k c).log ≡ steps_in (m c))
    → (c₀ : Config) (at : At) (d : ℕ) (a : Action) (c : ℤ → Config) (σ : Cells) (r : Result ℤ Trap)
    → actions (after k c₀ (acted at d a c σ r)).log ≡ steps_in (kept (step σ) m c₀ (acted at d a c σ r))
acted_count k m h c₀ at d a c σ (Ok v) = ap suc (h (c v))
acted_count k m h c₀ at d a c σ (Err t) = refl

given_count : (k : Config → Run) (m : Config → List Event) → ((c : Config) → actions (k c).log ≡ steps_in (m c))
    → (c₀ c : Config) (a : ℕ) (t : Simple) (v : ℤ) (b : Bool)
    → actions (after k c₀ (cond b (went_on (was_given a t v) c) refused)).log ≡ steps_in (kept (give v) m c₀ (cond b (went_on (was_given a t v) c) refused))
given_count k m h c₀ c a t v true = h c
given_count k m h c₀ c a t v false = h c₀

answer_count : (k : Config → Run) (m : Config → List Event) → ((c : Config) → actions (k c).log ≡ steps_in (m c))
    → (c : Config) (n : Next) (e : Event) → actions (after k c (answer n e)).log ≡ steps_in (kept e m c (answer n e))
answer_count k m h c none e = h c
answer_count k m h c (acts at d a c') (step σ) = acted_count k m h c at d a c' σ (outcome d a σ)
answer_count k m h c (acts at d a c') (give v) = h c
answer_count k m h c (acts at d a c') took = h c
answer_count k m h c (awaits a t c') (step σ) = h c
answer_count k m h c (awaits a t c') (give v) = given_count k m h c (c' v) a t v (fits t v)
answer_count k m h c (awaits a t c') took = h c
answer_count k m h c (offers a v c') (step σ) = h c
answer_count k m h c (offers a v c') (give w) = h c
answer_count k m h c (offers a v c') took = h c'

run_count : (es : List Event) (c : Config) → actions (run c es).log ≡ steps_in (not_refused c es)
run_count [] c = refl
run_count (e ∷ es) c = answer_count (λ c. run c es) (λ c. not_refused c es) (run_count es) c (next c) e

-- CALLS AFTER CALLS

abbrev from_now : Now → List Event → Run
from_now (there c) fs = run c fs
from_now (fallen t p) fs = stop (trapped t p)

abbrev now_state : Now → State
now_state (there c) = state_of (next c)
now_state (fallen t p) = trapped t p

abbrev joined : Run → Run → Run
joined r s = record { log = r.log ++ s.log; state = s.state }

split_after : (k k' : Config → Run) (n : Config → Now) (fs : List Event) → ((c : Config) → k c ≡ joined (k' c) (from_now (n c) fs))
    → (c : Config) (x : Answer) → after k c x ≡ joined (after k' c x) (from_now (moved_on n c x) fs)
split_after k k' n fs h c refused = h c
split_after k k' n fs h c (went_on l c') = ap (also l) (h c')
split_after k k' n fs h c (was_taken c') = h c'
split_after k k' n fs h c (fell l t p) = refl

run_splits : (es fs : List Event) (c : Config) → run c (es ++ fs) ≡ joined (run c es) (from_now (arrives c es) fs)
run_splits [] fs c = refl
run_splits (e ∷ es) fs c = split_after (λ c. run c (es ++ fs)) (λ c. run c es) (λ c. arrives c es) fs (run_splits es fs) c (answer (next c) e)

state_after : (k : Config → Run) (n : Config → Now) → ((c : Config) → (k c).state ≡ now_state (n c))
    → (c : Config) (x : Answer) → (after k c x).state ≡ now_state (moved_on n c x)
state_after k n h c refused = h c
state_after k n h c (went_on l c') = h c'
state_after k n h c (was_taken c') = h c'
state_after k n h c (fell l t p) = refl

run_state : (es : List Event) (c : Config) → (run c es).state ≡ now_state (arrives c es)
run_state [] c = refl
run_state (e ∷ es) c = state_after (λ c. run c es) (λ c. arrives c es) (run_state es) c (answer (next c) e)

-- what the program means after more calls, from where the machine is
meaning_splits : (P : Program) (es fs : List Event) → meaning P (es ++ fs) ≡ joined (meaning P es) (from_now (arrives (start P) es) fs)
meaning_splits P es fs =
    sym (simulates P (es ++ fs)) ∙ run_splits es fs (start P) ∙ ap (λ r. joined r (from_now (arrives (start P) es) fs)) (simulates P es)

meaning_state : (P : Program) (es : List Event) → (meaning P es).state ≡ now_state (arrives (start P) es)
meaning_state P es = ap (λ r. r.state) (sym (simulates P es)) ∙ run_state es (start P)

-- THE STATE TELLS WHAT A CALL DOES

-- a run that stops where it is
joined_stop : (r : Run) (s : State) → r.state ≡ s → joined r (stop s) ≡ r
joined_stop r s e = λ i. record { log = append-nil r.log i; state = sym e i }

-- a single call, where the next action is known
one : (c : Config) (x : Next) → next c ≡ x → (e : Event) → run c (e ∷ []) ≡ after (λ c. run c []) c (answer x e)
one c x q e = ap (λ n. after (λ c. run c []) c (answer n e)) q

stopped : (c : Config) (x : Next) → next c ≡ x → run c [] ≡ stop (state_of x)
stopped c x q = ap (λ n. stop (state_of n)) q

idle : (c : Config) → next c ≡ none → (fs : List Event) → run c fs ≡ stop finished
idle c q [] = stopped c none q
idle c q (e ∷ fs) = ap (λ n. after (λ c. run c fs) c (answer n e)) q ∙ idle c q fs

acted_log : (c : Config) (at : At) (d : ℕ) (a : Action) (c' : ℤ → Config) (σ : Cells) (r : Result ℤ Trap)
    → (after (λ c. run c []) c (acted at d a c' σ r)).log ≡ did at d a σ r ∷ []
acted_log c at d a c' σ (Ok v) = refl
acted_log c at d a c' σ (Err t) = refl

-- a given value that fits, and one that does not
given_log : (c c' : Config) (a : ℕ) (t : Simple) (v : ℤ) (b : Bool) → T b
    → (after (λ c. run c []) c (cond b (went_on (was_given a t v) c') refused)).log ≡ was_given a t v ∷ []
given_log c c' a t v true h = refl
given_log c c' a t v false h = absurd h

given_refused : (c c' : Config) (a : ℕ) (t : Simple) (v : ℤ) (b : Bool) → T (not b)
    → after (λ c. run c []) c (cond b (went_on (was_given a t v) c') refused) ≡ run c []
given_refused c c' a t v true h = absurd h
given_refused c c' a t v false h = refl

module _ (P : Program) (es : List Event) where
  abbrev r : Run
  r = meaning P es

  -- the calls to come do this from here
  abbrev GoesOn : Now → Type 0
  GoesOn n = (fs : List Event) → meaning P (es ++ fs) ≡ joined r (from_now n fs)

  -- a call that leaves the machine where it is
  stays_so : (c : Config) (x : Next) → GoesOn (there c) → r.state ≡ state_of x → next c ≡ x → (e : Event) → run c (e ∷ []) ≡ run c []
      → meaning P (es ++ e ∷ []) ≡ r
  stays_so c x g s q e h = g (e ∷ []) ∙ ap (joined r) (h ∙ stopped c x q) ∙ joined_stop r (state_of x) s

  answers_there : (c : Config) (x : Next) → GoesOn (there c) → r.state ≡ state_of x → next c ≡ x → Answers P es (state_of x)
  answers_there c none g s q = λ fs. g fs ∙ ap (joined r) (idle c q fs) ∙ joined_stop r finished s
  answers_there c (acts at d a c') g s q = (
    (at, d, a, λ σ. ap (λ r. r.log) (g (step σ ∷ [])) ∙ ap (λ l. r.log ++ l) (ap (λ r. r.log) (one c _ q (step σ)) ∙ acted_log c at d a c' σ (outcome d a σ))),
    λ v. stays_so c _ g s q (give v) (one c _ q (give v)),
    stays_so c _ g s q took (one c _ q took),
  )
  answers_there c (awaits a t c') g s q = (
    λ σ. stays_so c _ g s q (step σ) (one c _ q (step σ)),
    λ v f. ap (λ r. r.log) (g (give v ∷ [])) ∙ ap (λ l. r.log ++ l) (ap (λ r. r.log) (one c _ q (give v)) ∙ given_log c (c' v) a t v (fits t v) f),
    λ v f. stays_so c _ g s q (give v) (one c _ q (give v) ∙ given_refused c (c' v) a t v (fits t v) f),
    stays_so c _ g s q took (one c _ q took),
  )
  answers_there c (offers a v c') g s q = (
    λ σ. stays_so c _ g s q (step σ) (one c _ q (step σ)),
    λ w. stays_so c _ g s q (give w) (one c _ q (give w)),
    ap (λ r. r.log) (g (took ∷ [])) ∙ ap (λ l. r.log ++ l) (ap (λ r. r.log) (one c _ q took)) ∙ append-nil r.log,
  )

  answers_now : (n : Now) → GoesOn n → r.state ≡ now_state n → Answers P es (now_state n)
  answers_now (there c) g s = answers_there c (next c) g s refl
  answers_now (fallen t p) g s = λ fs. g fs ∙ joined_stop r (trapped t p) s

  answers_all : Answers P es r.state
  answers_all = subst (Answers P es) (sym (meaning_state P es)) (answers_now (arrives (start P) es) (meaning_splits P es) (meaning_state P es))

-- THE ACCEPTED CALLS ARE THOSE THAT THE MACHINE DOES NOT REFUSE

abbrev follow : Now → List Event → List Event
follow (there c) es = not_refused c es
follow (fallen t p) es = []

abbrev step_now : Now → Event → Now
step_now (there c) e = arrives c (e ∷ [])
step_now (fallen t p) e = fallen t p

snoc_after : (k k' : Config → Now) (e : Event) → ((c : Config) → k c ≡ step_now (k' c) e) → (c : Config) (x : Answer)
    → moved_on k c x ≡ step_now (moved_on k' c x) e
snoc_after k k' e h c refused = h c
snoc_after k k' e h c (went_on l c') = h c'
snoc_after k k' e h c (was_taken c') = h c'
snoc_after k k' e h c (fell l t p) = refl

arrives_snoc : (es : List Event) (e : Event) (c : Config) → arrives c (es ++ e ∷ []) ≡ step_now (arrives c es) e
arrives_snoc [] e c = refl
arrives_snoc (f ∷ es) e c = snoc_after (λ c. arrives c (es ++ e ∷ [])) (λ c. arrives c es) e (arrives_snoc es e) c (answer (next c) f)

acted_keeps : (es : List Event) (c : Config) (at : At) (d : ℕ) (a : Action) (c' : ℤ → Config) (σ : Cells) (r : Result ℤ Trap)
    → step σ ∷ follow (moved_on (λ c. there c) c (acted at d a c' σ r)) es ≡ kept (step σ) (λ c. not_refused c es) c (acted at d a c' σ r)
acted_keeps es c at d a c' σ (Ok v) = refl
acted_keeps es c at d a c' σ (Err t) = refl

given_keeps : (es : List Event) (c c' : Config) (l : Line) (v : ℤ) (b : Bool)
    → keep_if b (give v) (follow (moved_on (λ c. there c) c (cond b (went_on l c') refused)) es) (not_refused c es)
    ≡ kept (give v) (λ c. not_refused c es) c (cond b (went_on l c') refused)
given_keeps es c c' l v true = refl
given_keeps es c c' l v false = refl

keeps : (es : List Event) (c : Config) (x : Next) (e : Event)
    → keep_if (accepts (state_of x) e) e (follow (moved_on (λ c. there c) c (answer x e)) es) (not_refused c es)
    ≡ kept e (λ c. not_refused c es) c (answer x e)
keeps es c none e = refl
keeps es c (acts at d a c') (step σ) = acted_keeps es c at d a c' σ (outcome d a σ)
keeps es c (acts at d a c') (give v) = refl
keeps es c (acts at d a c') took = refl
keeps es c (awaits a t c') (step σ) = refl
keeps es c (awaits a t c') (give v) = given_keeps es c (c' v) _ v (fits t v)
keeps es c (awaits a t c') took = refl
keeps es c (offers a v c') (step σ) = refl
keeps es c (offers a v c') (give w) = refl
keeps es c (offers a v c') took = refl

now_keeps : (es : List Event) (n : Now) (e : Event)
    → keep_if (accepts (now_state n) e) e (follow (step_now n e) es) (follow n es) ≡ follow n (e ∷ es)
now_keeps es (there c) e = keeps es c (next c) e
now_keeps es (fallen t p) e = refl

nothing_more : (n : Now) → [] ≡ follow n []
nothing_more (there c) = refl
nothing_more (fallen t p) = refl

accepted_is : (P : Program) (es before : List Event) → accepted_after P before es ≡ follow (arrives (start P) before) es
accepted_is P [] before = nothing_more (arrives (start P) before)
accepted_is P (e ∷ es) before =
    (λ i. keep_if (accepts (meaning_state P before i) e) e
    ((accepted_is P es (before ++ e ∷ []) ∙ ap (λ n. follow n es) (arrives_snoc before e (start P))) i) (accepted_is P es before i))
    ∙ now_keeps es (arrives (start P) before) e

pub in_order : InOrder
in_order P es = record {
  accepted_alone = sym (simulates P es) ∙ refused_runs es (start P) ∙ ap (run (start P)) (sym (accepted_is P es [])) ∙ simulates P (accepted_calls P es);
  one_a_step = ap (λ r. actions r.log) (sym (simulates P es)) ∙ run_count es (start P) ∙ ap steps_in (sym (accepted_is P es []));
  stays = λ fs. ((from_now (arrives (start P) es) fs).log, ap (λ r. r.log) (meaning_splits P es fs));
  answers = answers_all P es;
}
