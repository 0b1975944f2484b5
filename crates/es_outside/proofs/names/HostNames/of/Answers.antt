use Rattle.es_outside.proofs.names.HostNames.of.Goals as goal

pub returns-in-Some : goal.returns-in-Some
returns-in-Some c = rw c.deref.ensures.value at c.in-Some.ensures
