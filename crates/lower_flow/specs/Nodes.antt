-- What statements become, by the nodes in them.
use Rattle.std.specs.Prelude.{ℕ, List, map, Option, Some}
use Rattle.std.specs.Option.{option_map}
use Rattle.es6_ast.specs.declared.tree.Block.{Block}
use Rattle.es6_ast.specs.declared.tree.Case.{Case}
use Rattle.es6_ast.specs.declared.tree.Catch.{Catch}
use Rattle.es6_ast.specs.declared.tree.Condition.{Condition}
use Rattle.es6_ast.specs.declared.tree.Expression.{Expression}
use Rattle.es6_ast.specs.declared.tree.ForFirst.{ForFirst}
use Rattle.es6_ast.specs.declared.tree.ForTarget.{ForTarget}
use Rattle.es6_ast.specs.declared.tree.Statement.{Statement}
use Rattle.es6_static_semantics.specs.Findings.{joined}
use Rattle.core_ast.specs.declared.tree.CoreStat.{CoreStat}
use Rattle.lowering_rules.specs.declared.naming.Iteration.{Iteration}
use Rattle.lowering_rules.specs.declared.statement_rules.statements.ForTurns.{ForTurns}
use Rattle.module_lowering.specs.Lowered.{block_lowered, case_lowered, catch_lowered, condition_lowered, expression_lowered, for_first_lowered, for_target_lowered, statement_lowered}
use Rattle.module_lowering.specs.Lowering.{Lowering, within}
use Rattle.module_lowering.specs.Nodes.{Exited}
use Rattle.module_lowering.specs.Statements.{do_while_lowered, for_lowered, for_of_lowered, if_lowered, listed, switch_lowered, targeting, try_lowered, while_lowered}
use Rattle.lower_flow.specs.declared.blocks.Scope.{Scope}
use Rattle.lower_flow.specs.Loops.{for_of_with, for_turns}
use Rattle.lower_flow.specs.Scopes.{scope_made}

abbrev pub statements_scope : List Statement → Lowering Scope
statements_scope ss = scope_made (listed (map statement_lowered ss)).lexicals (listed (map statement_lowered ss)).functions

-- the clauses of a switch are one scope
abbrev pub cases_scope : List Case → Lowering Scope
cases_scope cs =
    scope_made (joined (λ c. c.body.lexicals) (map case_lowered cs)) (joined (λ c. c.body.functions) (map case_lowered cs))

abbrev pub if_node : Condition → List Condition → Option Statement → Lowering (List CoreStat)
if_node first more otherwise =
    if_lowered (condition_lowered first) (map condition_lowered more) (option_map statement_lowered otherwise)

abbrev pub switch_node : ℕ → Expression → List Case → Lowering (List CoreStat)
switch_node at subject cs = switch_lowered at (expression_lowered subject) (map case_lowered cs)

abbrev pub try_node : Block → Option Catch → Option Block → Lowering (List CoreStat)
try_node tried caught last =
    try_lowered (block_lowered tried) (option_map catch_lowered caught) (option_map block_lowered last)

abbrev pub while_node : ℕ → Expression → Statement → Lowering (List CoreStat)
while_node at test body = while_lowered at (expression_lowered test) (statement_lowered body)

abbrev pub do_while_node : ℕ → Statement → Expression → Lowering (List CoreStat)
do_while_node at body test = do_while_lowered at (statement_lowered body) (expression_lowered test)

abbrev pub turns_node : ℕ → Option Expression → Option Expression → Statement → Lowering ForTurns
turns_node at test update body =
    for_turns at (option_map expression_lowered test) (option_map expression_lowered update) (statement_lowered body)

abbrev pub for_node : ℕ → ForFirst → Option Expression → Option Expression → Statement → Lowering (List CoreStat)
for_node at first test update body =
    for_lowered at (for_first_lowered first) (option_map expression_lowered test)
    (option_map expression_lowered update) (statement_lowered body)

abbrev pub for_of_node : ℕ → ForTarget → Expression → Statement → Lowering (List CoreStat)
for_of_node at target subject body =
    for_of_lowered at (for_target_lowered target) (expression_lowered subject) (statement_lowered body)

-- with the names of its walk
abbrev pub walk_node : ℕ → Iteration → ForTarget → Expression → Statement → Lowering (List CoreStat)
walk_node at i target subject body =
    for_of_with at i (for_target_lowered target) (expression_lowered subject) (statement_lowered body)

-- a statement that jumps with this label go to
abbrev pub target_node : List ℕ → Exited → Statement → Lowering (List CoreStat)
target_node label exit s = within (targeting (Some label) exit) (statement_lowered s).listed.statements
