use Rattle.module_links.proofs.Alike.{relinked}
use Rattle.module_links.proofs.law.put_endings_link.Goals as goal

pub returns : goal.returns
returns c = relinked
