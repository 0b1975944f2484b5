use Rattle.std.proofs.Common.{◌≡◌, ◌++◌, drop}
use Rattle.emission_rules.specs.Naming.{hosts_from}
use Rattle.emit_names.proofs.naming.hosts_of.Given as goal

abbrev pub invariant-loop-host : goal.invariant-loop-host
invariant-loop-host l = l.names ++ hosts_from l.sign l.taken l.number (drop l.host-index l.hosts) ≡ hosts_from l.sign l.taken l.first l.hosts
