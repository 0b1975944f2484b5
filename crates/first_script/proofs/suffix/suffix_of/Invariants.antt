use Rattle.std.proofs.Common.{◌≡◌, ◌<◌, ◌^◌, drop, max}
use Rattle.first_script.specs.Suffix.{most_dollars}
use Rattle.first_script.proofs.suffix.suffix_of.Given as goal

abbrev pub invariant-loop-host : goal.invariant-loop-host
invariant-loop-host l = record { rest : max l.most (most_dollars (drop l.host-index l.hosts)) ≡ most_dollars l.hosts; small : l.most < 2 ^ 63 }
