use Rattle.std.proofs.Common.{◌≡◌, ◌≤◌, drop}
use Rattle.symbol.specs.Values.{digits_value_of}
use Rattle.symbol.proofs.Digits.{onward}
use Rattle.symbol.proofs.value.digits_value.Given as goal

abbrev pub invariant-loop-byte : goal.invariant-loop-byte
invariant-loop-byte l = (l.value ≤ l.limit) × (onward l.base l.limit l.value (drop l.byte-index l.digits) ≡ digits_value_of l.base l.limit l.digits)
