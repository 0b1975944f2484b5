-- The next case of a switch that has a test, as code finds it.
use Rattle.std.specs.Prelude.{List, [], if◌then◌else◌, is_some, ◌∷◌}
use Rattle.es_value.specs.declared.value.Value.{Value}
use Rattle.es6_ast.specs.declared.tree.Case.{Case, out-Case}
use Rattle.source_meaning.specs.State.{State}
use Rattle.source_meaning.specs.Statements.{from_default, match_case, run_cases}
use Rattle.source_meaning.specs.Steps.{Next}

abbrev pub next_tested : List Case → List Case
next_tested [] = []
next_tested (c ∷ cs) = if is_some (out-Case c).test then c ∷ cs else next_tested cs

abbrev pub match_from : Value → List Case → List Case → State → Next
match_from v all [] st = run_cases (from_default all) st
match_from v all (c ∷ cs) st = match_case v all (c ∷ cs) st (run_cases (from_default all) st) (out-Case c).test
