use Rattle.module_endings.proofs.Growing.{fit-grown}
use Rattle.module_endings.proofs.answers.answers.Goals as goal

pub loop-number-preserved : goal.loop-number-preserved
loop-number-preserved c =
    fit-grown c.args.hosts.now c.args.web.now c.args.found.now c.args.numbers.now c.loop-number.number-index c.found_at.result c.loop-number.all c.push.new.self c.in_ok-answer.field-0
    c.loop-number-test.true c.loop-number.invariant c.found_at.ensures c.in_ok-answer.ensures c.in_ok-push.ensures.ok
