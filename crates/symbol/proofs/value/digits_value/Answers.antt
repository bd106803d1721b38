use Rattle.std.proofs.Common.{◌∙◌, arith}
use Rattle.std.proofs.lemmas.Grind.{common_steps}
use Rattle.symbol.specs.Values.{digits_value_of}
use Rattle.symbol.proofs.Digits.{too_large}
use Rattle.symbol.proofs.value.digits_value.Goals as goal

pub returns-then-is_empty : goal.returns-then-is_empty
unfolding digits_value_of
returns-then-is_empty c = grind (arith, common_steps)

pub loop-byte-init : goal.loop-byte-init
unfolding digits_value_of
loop-byte-init c = grind (arith, common_steps)

pub returns-then-value-from : goal.returns-then-value-from
returns-then-value-from c =
    too_large _ _ _ c.args.digits.now _ _ c.loop-byte-test.true c.in_ok-digit.ensures (grind arith)
    ∙ c.loop-byte.invariant.1
