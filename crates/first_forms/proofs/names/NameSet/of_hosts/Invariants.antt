use Rattle.std.proofs.Common.{◌≡◌, take}
use Rattle.first_forms.specs.Reading.{importable}
use Rattle.first_forms.proofs.names.NameSet.of_hosts.Given as goal

abbrev pub invariant-loop-host : goal.invariant-loop-host
invariant-loop-host l = l.names ≡ importable (take l.host-index l.hosts)
