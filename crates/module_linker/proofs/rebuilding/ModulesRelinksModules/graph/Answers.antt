use Rattle.module_linker.proofs.Loaded.{loaded}
use Rattle.module_linker.proofs.Opened.{loaded_opened}
use Rattle.module_linker.proofs.rebuilding.ModulesRelinksModules.graph.Goals as goal

pub returns-clause-loaded : goal.returns-clause-loaded
returns-clause-loaded c = loaded c.requires.told c.requires.entry c.args.modules c.requires.is_graph

pub returns-clause-apart : goal.returns-clause-apart
returns-clause-apart c = λ told entry is. loaded_opened told entry c.args.modules is
