use Rattle.std.proofs.Common.{◌≡◌}
use Rattle.es_realm.specs.Realms.{host_functions}
use Rattle.es_realm.proofs.realm.host_functions.Given as goal

abbrev pub invariant-loop-host : goal.invariant-loop-host
invariant-loop-host l = l.list.items ≡ host_functions l.host
