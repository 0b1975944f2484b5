use Rattle.module_linker.proofs.graph_checks.Told.{check_link, check_load}
use Rattle.module_linker.proofs.graph_checks.checking.checked.Goals as goal

pub returns-in-Err-Load-clause-fault : goal.returns-in-Err-Load-clause-fault
returns-in-Err-Load-clause-fault g c =
    check_load (g.F.Files.files c.args.files.now) c.args.hosts.now c.args.entry.now (g.F.Files.faults c.args.files.now) (g.F.Files.faults c.check.new.files)
    c.in-Err-Load.field-0 c.in-Err-Load.fault c.told_load.result c.in-Err-Load.field-0-is c.in-Err-Load.ensures.fault c.in-Err-Load.ensures.failed c.told_load.ensures

pub returns-in-Err-Link-clause-fault : goal.returns-in-Err-Link-clause-fault
returns-in-Err-Link-clause-fault g c =
    check_link (g.F.Files.files c.args.files.now) c.args.hosts.now c.args.entry.now (g.F.Files.faults c.args.files.now) (g.F.Files.faults c.check.new.files)
    c.in-Err-Link.field-0 c.in-Err-Link.fault c.told_link.result c.in-Err-Link.field-0-is c.in-Err-Link.ensures.fault c.told_link.ensures
