use Rattle.std.proofs.Common.{w64}
use Rattle.std.proofs.lemmas.Int.{to_z-of_z}
use Rattle.std.proofs.lemmas.Result.{err_from_is_err_and}
use Rattle.es_value.proofs.Powers.{times_unsafe}
use Rattle.es_value.proofs.arithmetic.times.Goals as goal

pub returns-in_err-done : goal.returns-in_err-done
returns-in_err-done c =
    let p = err_from_is_err_and c.from_residual.result c.from_residual.ensures.1 in
    rw (p.1, p.2) (times_unsafe c.args.base c.loop.counter c.args.exponent _ c.requires c.loop-test.true
    (cc (c.loop.done-is, c.loop.invariant.power_so_far, to_z-of_z w64 c.args.base c.ranges.base, c.mul.ensures, c.in_err-done.was)))
