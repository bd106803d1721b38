use Rattle.std.proofs.Common.{◌≡◌, ◌-◌, ◌≤◌, length, drop}
use Rattle.scanner.specs.Gaps.{gap}
use Rattle.scanner.proofs.gap.skip_gap.Given as goal

abbrev pub invariant-loop-at : goal.invariant-loop-at
invariant-loop-at l = (l.depth ≤ 32) × (gap l.depth l.at (drop l.at l.text) ≡ gap 0 l.initial.at (drop l.initial.at l.text))

abbrev pub decreases-loop-at : goal.decreases-loop-at
decreases-loop-at l = length l.text - l.at
