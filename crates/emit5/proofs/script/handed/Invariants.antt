use Rattle.std.proofs.Common.{◌≡◌, ◌++◌, drop}
use Rattle.emission_rules.specs.Functions.{handed}
use Rattle.emit5.proofs.script.handed.Given as goal

abbrev pub invariant-loop-host : goal.invariant-loop-host
invariant-loop-host l = l.made ++ handed (drop l.host-index l.hosts) ≡ handed l.hosts
