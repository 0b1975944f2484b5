use Rattle.std.proofs.Common.{◌+◌, ◌<◌, arith}
use Rattle.first_forms.proofs.Texts.{HasRead, HasRead-gap, HasRead-token, HasRead-bad, HasRead-end, IsClosed-by}
use Rattle.first_forms.proofs.lexer.tokens.Goals as goal
use Rattle.first_forms.proofs.lexer.tokens.Goals.{In-Token}

pub loop-place-preserved-in-Gap : goal.loop-place-preserved-in-Gap
loop-place-preserved-in-Gap c =
    HasRead-gap c.args.bytes.now c.loop-place.tokens c.loop-place.place c.in_ok-next_element.field-0 c.loop-place.invariant (omega arith) c.in_ok-next_element.ensures c.in-Gap.is

pub overflow_add-place-in-Token : goal.overflow_add-place-in-Token
overflow_add-place-in-Token c = let t : (0 < c.in-Token.len) × HasRead c.args.bytes.now c.push.new.self (c.loop-place.place + c.in-Token.len) = HasRead-token c.args.bytes.now c.loop-place.tokens c.push.new.self c.loop-place.place c.in-Token.len c.in-Token.kind c.in_ok-next_element.field-0 c.loop-place.invariant (omega arith) c.in_ok-next_element.ensures c.in-Token.is c.in_ok-push-in-Token.ensures.ok in omega (arith, t.1.0, c.well_formed)

pub loop-place-smaller : goal.loop-place-smaller
loop-place-smaller c = let t : (0 < c.in-Token.len) × HasRead c.args.bytes.now c.push.new.self (c.loop-place.place + c.in-Token.len) = HasRead-token c.args.bytes.now c.loop-place.tokens c.push.new.self c.loop-place.place c.in-Token.len c.in-Token.kind c.in_ok-next_element.field-0 c.loop-place.invariant (omega arith) c.in_ok-next_element.ensures c.in-Token.is c.in_ok-push-in-Token.ensures.ok in omega (arith, t.0, t.1.0)

pub loop-place-preserved : goal.loop-place-preserved
loop-place-preserved c =
    (HasRead-token c.args.bytes.now c.loop-place.tokens c.push.new.self c.loop-place.place c.in-Token.len c.in-Token.kind c.in_ok-next_element.field-0 c.loop-place.invariant (omega arith) c.in_ok-next_element.ensures c.in-Token.is c.in_ok-push-in-Token.ensures.ok).1

pub returns-in-Bad-clause-exact : goal.returns-in-Bad-clause-exact
returns-in-Bad-clause-exact c =
    HasRead-bad c.args.bytes.now c.loop-place.tokens c.push-in-Bad.new.self c.loop-place.place c.in_ok-next_element.field-0 c.loop-place.invariant (omega arith) c.in_ok-next_element.ensures c.in-Bad.is c.in_ok-push-in-Bad.ensures.ok

pub returns-in-Bad-clause-closed : goal.returns-in-Bad-clause-closed
returns-in-Bad-clause-closed c =
    IsClosed-by c.args.bytes.now c.push-in-Bad.new.self (HasRead-bad c.args.bytes.now c.loop-place.tokens c.push-in-Bad.new.self c.loop-place.place c.in_ok-next_element.field-0 c.loop-place.invariant (omega arith) c.in_ok-next_element.ensures c.in-Bad.is c.in_ok-push-in-Bad.ensures.ok)

pub returns-clause-exact : goal.returns-clause-exact
returns-clause-exact c =
    HasRead-end c.args.bytes.now c.loop-place.tokens c.push-2.new.self c.loop-place.place c.loop-place.invariant (omega arith) c.in_ok-push.ensures.ok

pub returns-clause-closed : goal.returns-clause-closed
returns-clause-closed c =
    IsClosed-by c.args.bytes.now c.push-2.new.self (HasRead-end c.args.bytes.now c.loop-place.tokens c.push-2.new.self c.loop-place.place c.loop-place.invariant (omega arith) c.in_ok-push.ensures.ok)
