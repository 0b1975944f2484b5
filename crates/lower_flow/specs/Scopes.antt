-- Scopes of statements, and switches.
use Rattle.std.specs.Prelude.{ℕ, List, ◌++◌, map}
use Rattle.core_ast.specs.declared.parts.Var.{Var}
use Rattle.core_ast.specs.declared.tree.CoreCase.{CoreCase}
use Rattle.core_ast.specs.declared.tree.CoreExpr.{CoreExpr}
use Rattle.core_ast.specs.declared.tree.CoreStat.{CoreStat}
use Rattle.es6_static_semantics.specs.Findings.{joined}
use Rattle.lowering_rules.specs.statement_rules.Statements.{exit_label, switch}
use Rattle.module_lowering.specs.declared.context.JumpForm.TheVariants.{Cases}
use Rattle.module_lowering.specs.Functions.{all_hoisted}
use Rattle.module_lowering.specs.Lowering.{Lowering, asks, each_by, pure, ◌>>=◌}
use Rattle.module_lowering.specs.Names.{scoped_names}
use Rattle.module_lowering.specs.Nodes.{Cased, Hoisted}
use Rattle.module_lowering.specs.Statements.{case_lowered, with_target}
use Rattle.lower_flow.specs.declared.blocks.Scope.{Scope}

-- the scope of the lexical names that are declared at these places, and of these functions
abbrev pub scope_made : List ℕ → List Hoisted → Lowering Scope
scope_made lexicals functions = do
  names ← asks (scoped_names (lexicals ++ map (λ h. h.at) functions))
  made ← all_hoisted functions
  pure (record { names = names; functions = made })

-- a switch that begins at a place, and whose subject is kept
abbrev pub switch_made : ℕ → Var → CoreExpr → Scope → List CoreCase → List CoreStat
switch_made at kept subject scope cases = switch (record {
  label = exit_label at;
  kept = kept;
  subject = subject;
  names = scope.names;
  functions = scope.functions;
  cases = cases;
})

abbrev pub switch_with : ℕ → Var → CoreExpr → List Cased → Lowering (List CoreStat)
switch_with at kept subject cs = do
  scope ← scope_made (joined (λ c. c.body.lexicals) cs) (joined (λ c. c.body.functions) cs)
  cases ← with_target at Cases (each_by case_lowered cs)
  pure (switch_made at kept subject scope cases)
