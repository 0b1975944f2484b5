use Rattle.std.proofs.Common.{◌∙◌}
use Rattle.module_linker.proofs.graph_checks.Told.{told_with}
use Rattle.module_linker.proofs.graph_checks.faults.told_load.Goals as goal

pub returns-in-Ok : goal.returns-in-Ok
returns-in-Ok c = told_with c.args.entry.now c.in-Ok.path c.args.fault c.told_with.result (c.in-Ok.ensures ∙ c.as_bytes.ensures.value) c.told_with.ensures

pub returns-in-Err : goal.returns-in-Err
returns-in-Err c = tt
