use Rattle.std.proofs.Common.{◌≡◌, ◌≤◌, ◌-◌, drop, length}
use Rattle.es5_tokens.specs.Quoted.{text_from, text_element}
use Rattle.es5_tokens.proofs.quoted.text_element.Given as goal

abbrev pub invariant-loop-at : goal.invariant-loop-at
invariant-loop-at l = record { same : text_from l.quote l.units.items l.at 0 (drop l.at l.rest) ≡ text_element l.rest; inside : l.at ≤ length l.rest }

abbrev pub decreases-loop-at : goal.decreases-loop-at
decreases-loop-at l = length l.rest - l.at
