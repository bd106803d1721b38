use Rattle.std.proofs.Common.{arith}
use Rattle.scanner.proofs.Gaps.{gap_here, gap_ended, gap_unended, opens_below}
use Rattle.scanner.proofs.gap.skip_gap.Goals as goal

pub loop-at-preserved-in-Open : goal.loop-at-preserved-in-Open
loop-at-preserved-in-Open c = grind (arith, gap_here, opens_below)

pub loop-at-preserved-in-Close : goal.loop-at-preserved-in-Close
loop-at-preserved-in-Close c = grind (arith, gap_here)

pub loop-at-preserved : goal.loop-at-preserved
loop-at-preserved c = grind (arith, gap_here)

pub returns-in-Stop : goal.returns-in-Stop
returns-in-Stop c = grind (arith, gap_here)

pub returns-in-TooDeep : goal.returns-in-TooDeep
returns-in-TooDeep c = grind (arith, gap_here)

pub returns-in-Wrong : goal.returns-in-Wrong
returns-in-Wrong c = grind (arith, gap_here)

pub returns-then-depth-gt0 : goal.returns-then-depth-gt0
returns-then-depth-gt0 c = grind (arith, gap_unended)

pub returns-else-depth-gt0 : goal.returns-else-depth-gt0
returns-else-depth-gt0 c = grind (arith, gap_ended)
