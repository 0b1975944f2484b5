use Rattle.std.proofs.Common.{◌≡◌, ◌≤◌, length, reverse, take}
use Rattle.core_meaning.specs.Names.{resolved}
use Rattle.core_moves.proofs.names.resolved.Given as goal

abbrev pub invariant-below : goal.invariant-below
invariant-below g l = record {
  within : l.count ≤ length l.environment;
  same : resolved l.records (reverse (take l.count l.environment)) l.var ≡ resolved l.records (reverse l.environment) l.var;
}

abbrev pub decreases-below : goal.decreases-below
decreases-below g l = l.count
