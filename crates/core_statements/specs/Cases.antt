-- The next case of a switch that has a test, as code finds it.
use Rattle.std.specs.Prelude.{List, [], ◌∷◌, if◌then◌else◌, is_some}
use Rattle.es_value.specs.declared.value.Value.{Value}
use Rattle.core_ast.specs.declared.tree.CoreCase.{CoreCase, out-CoreCase}
use Rattle.core_meaning.specs.Rows.{Next}
use Rattle.core_meaning.specs.State.{Sorts, State}
use Rattle.core_meaning.specs.Statements.{from_default, match_case, run_cases}

abbrev pub next_tested : List CoreCase → List CoreCase
next_tested [] = []
next_tested (c ∷ cs) = if is_some (out-CoreCase c).test then c ∷ cs else next_tested cs

abbrev pub match_from : {s : Sorts} {S : Type 0} → Value → List CoreCase → List CoreCase → State s S → Next s S
match_from v all [] st = run_cases (from_default all) st
match_from v all (c ∷ cs) st = match_case v all (c ∷ cs) st (run_cases (from_default all) st) (out-CoreCase c).test
