use Rattle.std.proofs.Common.{◌≡◌, ◌++◌, drop}
use Rattle.es6_static_semantics.specs.Findings.{joined}
use Rattle.scope_rules.specs.Marks.{item_marked}
use Rattle.scope_walk.proofs.module.items.Given as goal

abbrev pub invariant-loop-one : goal.invariant-loop-one
invariant-loop-one l = l.marks ++ joined item_marked (drop l.one-index l.list) ≡ l.initial.marks ++ joined item_marked l.list
