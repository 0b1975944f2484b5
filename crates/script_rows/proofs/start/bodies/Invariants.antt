use Rattle.std.proofs.Common.{◌≡◌, ◌≤◌, drop, length, map}
use Rattle.script_core.specs.Meaning.{instantiated}
use Rattle.script_rows.proofs.start.bodies.Given as goal

abbrev pub invariant-below : goal.invariant-below
invariant-below l = record {
  within : l.count ≤ length l.parts;
  same : l.ahead ≡ map instantiated (drop l.count l.parts);
}

abbrev pub decreases-below : goal.decreases-below
decreases-below l = l.count
