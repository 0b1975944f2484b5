use Rattle.std.proofs.Common.{refl}
use Rattle.lower_modules.proofs.Hoisting.{hoisted_pushed}
use Rattle.lower_modules.proofs.listed.push_default_function.Goals as goal

pub returns : goal.returns
returns c =
    hoisted_pushed c.args.at c.place_or-at.result c.args.function.now c.args.function c.args.out.now c.push.new.self
    c.in_ok-push.ensures.ok c.place_or-at.ensures refl
