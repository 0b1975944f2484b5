use Rattle.std.proofs.Common.{◌≡◌, ◌≤◌, ◌-◌, ◌++◌, drop, length}
use Rattle.es6_lexer.specs.Values.{raw}
use Rattle.es6_lexer.proofs.values.raw.Given as goal

abbrev pub invariant-loop-at : goal.invariant-loop-at
invariant-loop-at l = record { same : l.units.items ++ raw (drop l.at l.text) ≡ raw l.text; inside : l.at ≤ length l.text }

abbrev pub decreases-loop-at : goal.decreases-loop-at
decreases-loop-at l = length l.text - l.at
