-- What is proved of the machine.
use Rattle.std.specs.Prelude.{◌≡◌, ℕ, ◌≤◌, List, length}
use Rattle.program.specs.Trees.{Program}
use Rattle.meaning.specs.Actions.{Event}
use Rattle.meaning.specs.Meaning.{meaning}
use Rattle.machine.specs.Machine.{Task, Held, run, start, arrives}
use Rattle.machine.specs.Moves.{move, SoundMove, KeptByMoves, Holds}
use Rattle.machine.specs.Present.{Present}
use Rattle.machine.specs.Depth.{Deep}
use Rattle.machine.specs.Opened.{leaves_in, Covered}
use Rattle.machine.specs.Waiting.{waits, Few}
use Rattle.machine.specs.Height.{peak, height, Low}

-- On every sequence of calls the machine does exactly the actions of the meaning, and comes to the same state.
abbrev pub Simulates : Type 0
Simulates = (P : Program) (es : List Event) → run (start P) es ≡ meaning P es

-- The loop that looks at the first task finds the machine's next action, and ends: each of its moves loses weight.
abbrev pub MovesFind : Type 0
MovesFind = (k : List Task) (h : Held) → SoundMove k h (move k h)

-- The list of tasks is never higher than its peak, no move raises the peak, and after all calls it is at most what was reckoned.
abbrev pub StaysLow : Type 0
StaysLow =
    ((k : List Task) → length k ≤ peak k)
    × ((n : ℕ) → KeptByMoves (Low n))
    × ((P : Program) (es : List Event) → Holds (Low (height P)) (arrives (start P) es))

-- No move lets more wait than was reckoned for its list of tasks, and after all calls no more wait than was reckoned for the program.
abbrev pub FewWait : Type 0
FewWait =
    ((n : ℕ) → KeptByMoves (Few n))
    × ((P : Program) (es : List Event) → Holds (Few (waits P)) (arrives (start P) es))

-- There are no more leaves to be done than tasks, and every open call has its leave among them, at every move and after all calls.
abbrev pub CallsCovered : Type 0
CallsCovered =
    ((k : List Task) → leaves_in k ≤ length k)
    × KeptByMoves Covered
    × ((P : Program) (es : List Event) → Holds Covered (arrives (start P) es))

-- What a task takes off the top of what waits is there, at every move and after all calls.
abbrev pub AllPresent : Type 0
AllPresent =
    KeptByMoves Present
    × ((P : Program) (es : List Event) → Holds Present (arrives (start P) es))

-- The depth is always what waits, the calls open and the statements open in all their bodies, and the next action tells it.
abbrev pub DepthReckoned : Type 0
DepthReckoned = (P : Program) (es : List Event) → Holds Deep (arrives (start P) es)
