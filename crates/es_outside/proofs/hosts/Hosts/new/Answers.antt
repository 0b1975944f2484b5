use Rattle.std.proofs.Common.{refl}
use Rattle.es_outside.proofs.hosts.Hosts.new.Goals as goal

pub returns-in-Some : goal.returns-in-Some
returns-in-Some g c = (refl, rw c.deref.ensures.value at c.in-Some.ensures)
