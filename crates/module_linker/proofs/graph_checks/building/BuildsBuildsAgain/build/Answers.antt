use Rattle.std.proofs.Common.{◌∙◌}
use Rattle.rebuild.specs.Keeping.{graph_in, keeps}
use Rattle.module_linker.proofs.graph_checks.Written.{built_writes, refused_writes}
use Rattle.module_linker.proofs.graph_checks.building.BuildsBuildsAgain.build.Goals as goal

pub returns-in_ok-text_of-in-Ok-clause-writes : goal.returns-in_ok-text_of-in-Ok-clause-writes
returns-in_ok-text_of-in-Ok-clause-writes g c =
    built_writes g.U.WritesGraph.is_text (g.W.FindsFiles.files c.args.files.now) c.args.entry.now c.args.hosts.now (keeps c.args.self.now.rebuild) (keeps c.build_by.new.self)
    c.in-Ok.parsed c.len.result (graph_in c.build_by.new.self) c.graph_of-graph.result.now c.in_ok-text_of-in-Ok.field-0.items
    c.in-Ok.ensures.builds (c.len.ensures ∙ c.in-Ok.parsed.ok.0) c.graph_of-graph.ensures c.in_ok-text_of-in-Ok.ensures

pub returns-in-Err-clause-writes : goal.returns-in-Err-clause-writes
returns-in-Err-clause-writes g c =
    refused_writes g.U.WritesGraph.is_text (g.W.FindsFiles.files c.args.files.now) c.args.entry.now c.args.hosts.now (keeps c.args.self.now.rebuild) (keeps c.build_by.new.self)
    c.in-Err.fault (graph_in c.build_by.new.self) c.told.result c.in-Err.ensures.builds c.told.ensures
