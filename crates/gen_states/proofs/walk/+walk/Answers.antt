use Rattle.std.proofs.lemmas.Result.{on_ok_weaker}
use Rattle.gen_states.proofs.Arms.{caught_adds, ensured_adds, loop_adds}
use Rattle.gen_states.proofs.walk.+walk.Goals as goal

pub turned_out-returns-in_ok-test-in-Loop : goal.turned_out-returns-in_ok-test-in-Loop
turned_out-returns-in_ok-test-in-Loop t c =
    on_ok_weaker c.repeats.result
    (λ e. loop_adds c.args.source.now c.in-Loop.labels c.as_slice-in-Loop-2.result.now c.in-Loop.test c.in-Loop.update c.in_ok-test-in-Loop.test c.in-Loop.body c.as_slice-in-Loop.result.now c.args.place.now c.args.machine.now c.repeats.new.machine c.in-Loop.is c.as_slice-in-Loop-2.ensures c.as_slice-in-Loop.ensures c.in_ok-test-in-Loop.ensures e)
    c.repeats.ensures

pub turned_out-returns-in_ok-guarded-in-TryCatch : goal.turned_out-returns-in_ok-guarded-in-TryCatch
turned_out-returns-in_ok-guarded-in-TryCatch t c =
    on_ok_weaker c.handled.result
    (λ e. caught_adds c.args.source.now _ _ _ _ _ _ c.args.place.now c.args.machine.now c.guarded.new.machine c.handled.new.machine c.in-TryCatch.is c.as_slice-in-TryCatch.ensures c.as_slice-in-TryCatch-2.ensures c.in_ok-guarded-in-TryCatch.ensures e)
    c.handled.ensures

pub turned_out-returns-in_ok-kept-in-TryFinally : goal.turned_out-returns-in_ok-kept-in-TryFinally
turned_out-returns-in_ok-kept-in-TryFinally t c =
    on_ok_weaker c.finished.result
    (λ e. ensured_adds c.args.source.now _ _ _ _ c.in_ok-kept-in-TryFinally.kept c.args.place.now c.args.machine.now c.ensured.new.machine c.finished.new.machine c.in-TryFinally.is c.as_slice-in-TryFinally.ensures c.as_slice-in-TryFinally-2.ensures c.in_ok-kept-in-TryFinally.ensures.kept c.in_ok-kept-in-TryFinally.ensures.machine e)
    c.finished.ensures
