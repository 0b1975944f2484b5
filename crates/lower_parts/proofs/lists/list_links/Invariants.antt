use Rattle.std.proofs.Common.{◌≡◌, ◌++◌, length, map}
use Rattle.lowering_rules.specs.Expressions.{list_link}
use Rattle.lower_parts.proofs.lists.list_links.Given as goal

abbrev pub invariant-loop-part : goal.invariant-loop-part
invariant-loop-part l = l.links ++ map list_link l.left.items ≡ map list_link l.fn.parts.items

abbrev pub decreases-loop-part : goal.decreases-loop-part
decreases-loop-part l = length l.left.items
