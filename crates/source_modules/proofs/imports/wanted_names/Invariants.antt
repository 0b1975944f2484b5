use Rattle.std.proofs.Common.{◌≡◌, ◌++◌, drop}
use Rattle.es6_static_semantics.specs.Findings.{joined}
use Rattle.source_meaning.specs.Modules.{wanted_names}
use Rattle.source_modules.proofs.imports.wanted_names.Given as goal

abbrev pub invariant-loop-item : goal.invariant-loop-item
invariant-loop-item l = l.names ++ joined wanted_names (drop l.item-index l.items) ≡ joined wanted_names l.items
