use Rattle.std.proofs.Common.{◌≡◌, ◌++◌, length, map}
use Rattle.lowering_rules.specs.Expressions.{text_element}
use Rattle.lower_tagged.proofs.templates.texts.Given as goal

abbrev pub invariant-loop-one : goal.invariant-loop-one
invariant-loop-one l = l.links ++ map text_element l.left.items ≡ map text_element l.fn.units.items

abbrev pub decreases-loop-one : goal.decreases-loop-one
decreases-loop-one l = length l.left.items
