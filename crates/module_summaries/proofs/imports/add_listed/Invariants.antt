use Rattle.std.proofs.Common.{◌≡◌, ◌++◌, drop, map}
use Rattle.module_summaries.specs.Homes.{home_in}
use Rattle.module_summaries.specs.Parts.{listed_import}
use Rattle.module_summaries.proofs.imports.add_listed.Given as goal

abbrev pub invariant-loop-name : goal.invariant-loop-name
invariant-loop-name l = l.all ++ map (listed_import (home_in l.homes) l.from) (drop l.name-index l.listed) ≡ l.initial.all ++ map (listed_import (home_in l.homes) l.from) l.listed
