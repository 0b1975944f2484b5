use Rattle.std.proofs.Common.{arith}
use Rattle.std.proofs.lemmas.Result.{err_from_is_err_and}
use Rattle.source_map.proofs.Steps.{move_all-moved, move_all-fault, move_all-end}
use Rattle.source_map.proofs.reading.Reading.values_after.Goals as goal

pub loop-kind-preserved : goal.loop-kind-preserved
loop-kind-preserved c = grind (arith, move_all-moved)

pub returns-in_err-values : goal.returns-in_err-values
returns-in_err-values c =
    let p = err_from_is_err_and c.from_residual.result c.from_residual.ensures.1 in
    rw (p.1, p.2) (grind (arith, move_all-fault))

pub returns : goal.returns
returns c = grind (arith, move_all-end)
