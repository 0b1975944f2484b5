use Rattle.rebuild.specs.Keeping.{keeps}
use Rattle.module_linker.proofs.graph_checks.Written.{all_written}
use Rattle.module_linker.proofs.graph_checks.building.written_builds.Goals as goal

pub returns-clause-writes : goal.returns-clause-writes
returns-clause-writes g c =
    all_written g.U.WritesGraph.is_text c.args.entry.now c.args.hosts.now (g.F.Files.files c.args.files.now) _ (keeps c.new.result) c.new.ensures.kept c.do_edits.result c.do_edits.ensures.writes
