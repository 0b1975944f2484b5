use Rattle.std.proofs.Common.{◌≡◌, ◌++◌, drop, map}
use Rattle.es6_static_semantics.specs.Findings.{joined}
use Rattle.source_meaning.specs.Environments.{unbound}
use Rattle.source_meaning.specs.Modules.{item_statements}
use Rattle.source_meaning.specs.Trees.{lexicals_in}
use Rattle.source_modules.proofs.declared.add_lexicals_of.Given as goal

abbrev pub invariant-loop-item : goal.invariant-loop-item
invariant-loop-item l =
    l.bindings ++ map unbound (lexicals_in (joined item_statements (drop l.item-index l.items)))
    ≡ l.initial.bindings ++ map unbound (lexicals_in (joined item_statements l.items))
