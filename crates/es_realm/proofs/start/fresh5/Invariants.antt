use Rattle.std.proofs.Common.{◌≡◌}
use Rattle.es_realm.specs.Realms.{with_hosts, library5}
use Rattle.es_realm.proofs.start.fresh5.Given as goal

abbrev pub invariant-loop-host : goal.invariant-loop-host
invariant-loop-host l = l.heap ≡ with_hosts l.host library5
