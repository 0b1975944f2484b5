use Rattle.std.proofs.Common.{◌≡◌, ◌++◌, drop}
use Rattle.es6_static_semantics.specs.Findings.{joined}
use Rattle.module_summaries.specs.Homes.{home_in}
use Rattle.module_summaries.specs.Parts.{imports_at}
use Rattle.module_summaries.proofs.imports.add_imports.Given as goal

abbrev pub invariant-loop-item : goal.invariant-loop-item
invariant-loop-item l = l.all ++ joined (imports_at (home_in l.homes)) (drop l.item-index l.items) ≡ l.initial.all ++ joined (imports_at (home_in l.homes)) l.items
