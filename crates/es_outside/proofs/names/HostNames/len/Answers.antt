use Rattle.std.proofs.Common.{arith}
use Rattle.std.proofs.lemmas.List.{length-map}
use Rattle.es_outside.proofs.names.HostNames.len.Goals as goal

pub returns-clause-below : goal.returns-clause-below
returns-clause-below c =
    let vec = c.self.inside.list in
    rw (← c.self.view_is) (simp length-map (omega (arith, vec.ok.0, vec.ok.1, vec.small)))
