use Rattle.module_linker.proofs.Opened.{linked_opened}
use Rattle.module_linker.proofs.rebuilding.ModulesRelinksModules.link.Goals as goal

pub returns-in-Ok-clause-apart : goal.returns-in-Ok-clause-apart
returns-in-Ok-clause-apart c = linked_opened c.args.graph.now c.link.new.graph c.args.hosts.now c.in-Ok.ensures.relinked
