use Rattle.std.proofs.Common.{◌≡◌, ◌≤◌, length, reverse, take}
use Rattle.source_meaning.specs.Environments.{resolved}
use Rattle.source_moves.proofs.names.resolved.Given as goal

abbrev pub invariant-below : goal.invariant-below
invariant-below l = record {
  within : l.count ≤ length l.environment;
  same : resolved l.records (reverse (take l.count l.environment)) l.name ≡ resolved l.records (reverse l.environment) l.name;
}

abbrev pub decreases-below : goal.decreases-below
decreases-below l = l.count
