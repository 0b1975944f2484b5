use Rattle.std.proofs.Common.{Err, ap, refl}
use Rattle.module_linker.proofs.graph_checks.Ran.{ran_checked}
use Rattle.module_linker.proofs.graph_checks.Told.{load_fault}
use Rattle.module_linker.proofs.graph_checks.running.run_checked.Goals as goal

pub returns-in-Ok-clause-ends : goal.returns-in-Ok-clause-ends
returns-in-Ok-clause-ends g c =
    ran_checked c.args.host_names.now (g.F.Files.files c.args.files.now) c.args.entry.now _ _ _ _ _ c.in-Ok.graph c.run_loaded.result.0 c.in-Ok.ensures.loads c.run_loaded.ensures.ends

pub returns-in-Err-clause-ends : goal.returns-in-Err-clause-ends
returns-in-Err-clause-ends g c = (
  load_fault (g.F.Files.files c.args.files.now) c.args.host_names.now c.args.entry.now (g.F.Files.faults c.args.files.now) (g.F.Files.faults c.load.new.files)
      c.in-Err.fault c.told_load.result c.in-Err.ensures.loads (λ path f. c.in-Err.ensures.failed (path, ap (λ z. Err z) f)) c.told_load.ensures,
  refl,
)
