use Rattle.std.proofs.Common.{◌≡◌, ◌++◌, drop}
use Rattle.es6_static_semantics.specs.Findings.{joined}
use Rattle.source_meaning.specs.Modules.{item_statements}
use Rattle.source_meaning.specs.Trees.{variables_in}
use Rattle.source_modules.proofs.declared.add_variables_of.Given as goal

abbrev pub invariant-loop-item : goal.invariant-loop-item
invariant-loop-item l = l.names ++ variables_in (joined item_statements (drop l.item-index l.items)) ≡ variables_in (joined item_statements l.items)
