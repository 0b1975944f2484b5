-- How many cases there are.
use Rattle.std.proofs.Common.{◌≡◌, List, length, map}
use Rattle.std.proofs.lemmas.List.{length-map}
use Rattle.core_ast.specs.declared.tree.CoreCase.{CoreCase}
use Rattle.pass_rules.specs.state_rules.States.{branch}

pub cases_counted : (cases : List CoreCase) → length (map branch cases) ≡ length cases
cases_counted cases = length-map cases branch
