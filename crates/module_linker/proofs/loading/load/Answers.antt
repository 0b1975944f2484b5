use Rattle.module_linker.proofs.Loaded.{loaded}
use Rattle.module_linker.proofs.loading.load.Goals as goal

pub returns-clause-loaded : goal.returns-clause-loaded
returns-clause-loaded g c = loaded _ _ _ c.in_ok-modules.ensures.loads
