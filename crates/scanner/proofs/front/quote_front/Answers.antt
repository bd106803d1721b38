use Rattle.std.proofs.Common.{rules}
use Rattle.scanner.proofs.front.quote_front.Goals as goal
use Rattle.scanner.proofs.front.quote_front.Goals.{then-is_none-via-then-is_none, then-is_none-via-else-is_none+then-is_ascii_alphanumeric}

pub returns-then-is_none : goal.returns-then-is_none
returns-then-is_none c = elim c.then-is_none.branch [ then-is_none-via-then-is_none w ↦ search rules | then-is_none-via-else-is_none+then-is_ascii_alphanumeric w ↦ search rules ]
