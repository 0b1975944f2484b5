use Rattle.std.proofs.Common.{◌≡◌, ◌++◌, drop}
use Rattle.es6_static_semantics.specs.Findings.{joined}
use Rattle.source_meaning.specs.Modules.{namespace_bindings}
use Rattle.source_modules.proofs.records.add_namespaces.Given as goal

abbrev pub invariant-loop-item : goal.invariant-loop-item
invariant-loop-item l =
    l.bindings ++ joined (namespace_bindings l.requests) (drop l.item-index l.items)
    ≡ l.initial.bindings ++ joined (namespace_bindings l.requests) l.items
