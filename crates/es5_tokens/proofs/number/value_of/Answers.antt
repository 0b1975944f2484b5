use Rattle.std.proofs.Common.{◌≤◌, arith}
use Rattle.es5_tokens.proofs.Steps.{digits_past}
use Rattle.es5_tokens.proofs.number.value_of.Goals as goal

pub returns-then-value-gt-GREATEST : goal.returns-then-value-gt-GREATEST
returns-then-value-gt-GREATEST c =
    let least : 1 ≤ c.args.radix = omega arith in
    omega (arith, c.loop-c.invariant.same, c.digit_value.ensures.value, digits_past c.args.radix c.loop-c.value c.loop-c.c-index c.args.digits.now c.c-item.result c.loop-c-test.true c.c-item.is least)
