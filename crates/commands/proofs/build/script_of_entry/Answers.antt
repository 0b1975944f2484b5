use Rattle.std.proofs.Common.{refl}
use Rattle.commands.proofs.Outcomes.{found_as, missing_fits, unread_fits}
use Rattle.commands.proofs.build.script_of_entry.Goals as goal

pub returns-in-Found-clause-built : goal.returns-in-Found-clause-built
returns-in-Found-clause-built g c =
    found_as c.args.hosts.now (g.F.Files.files c.args.files.now) c.args.path.now c.args.compiled.items (g.F.Files.faults c.args.files.now) (g.F.Files.faults c.read.new.self) c.in-Found.bytes.items c.as_slice.result.now c.script_of_bytes.result
    c.as_slice.ensures.value c.requires c.in-Found.ensures.told c.script_of_bytes.ensures

pub returns-in-Missing-clause-built : goal.returns-in-Missing-clause-built
returns-in-Missing-clause-built g c = missing_fits c.args.hosts.now (g.F.Files.files c.args.files.now) c.args.path.now _ _ c.entry_fault.result c.entry_fault.ensures c.in-Missing.ensures.told

pub returns-in-Failed-clause-built : goal.returns-in-Failed-clause-built
returns-in-Failed-clause-built g c = unread_fits c.args.hosts.now (g.F.Files.files c.args.files.now) c.args.path.now _ _ c.entry_fault-in-Failed.result c.entry_fault-in-Failed.ensures (c.in-Failed.ensures.failed refl)
