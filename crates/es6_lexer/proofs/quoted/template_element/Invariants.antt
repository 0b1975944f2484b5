use Rattle.std.proofs.Common.{◌≡◌, ◌≤◌, ◌-◌, drop, length}
use Rattle.es6_lexer.specs.Quoted.{template_from, template_element}
use Rattle.es6_lexer.proofs.quoted.template_element.Given as goal

abbrev pub invariant-loop-at : goal.invariant-loop-at
invariant-loop-at l = record { same : template_from 0 l.at (drop l.at l.rest) ≡ template_element l.rest; inside : l.at ≤ length l.rest }

abbrev pub decreases-loop-at : goal.decreases-loop-at
decreases-loop-at l = length l.rest - l.at
