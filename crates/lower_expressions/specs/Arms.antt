-- Parts of what expressions come to.
use Rattle.std.specs.Prelude.{ℕ, Some}
use Rattle.es6_ast.specs.declared.tree.Argument.TheOpen as layer
use Rattle.core_ast.specs.declared.parts.When.TheVariants.{Choice}
use Rattle.core_ast.specs.declared.tree.CoreExpr.{CoreExpr}
use Rattle.core_ast.specs.declared.tree.CoreLink.TheVariants as link
use Rattle.core_ast.specs.Made.{linked}
use Rattle.lowering_rules.specs.declared.reference_rules.references.Compound.{Compound}
use Rattle.module_lowering.specs.Expressions.{assigned, operated, valued}
use Rattle.lowering_rules.specs.statement_rules.Bodies.{named_function}
use Rattle.module_lowering.specs.declared.context.FunctionForm.TheVariants.{PlainForm}
use Rattle.module_lowering.specs.Bindings.{scoped_name}
use Rattle.module_lowering.specs.Lowering.{asks, pure, temporary, Lowering, ◌>>=◌}
use Rattle.module_lowering.specs.Nodes.{Expressed, Functioned, Patterned}
use Rattle.module_lowering.specs.Patterns.{pattern_step}

-- `? :` behind its test
abbrev pub branches : CoreExpr → Expressed → Expressed → Lowering CoreExpr
branches t yes_ no_ = do
  y ← valued yes_
  n ← valued no_
  pure (linked t (link.Lazy Choice y (Some n)))

-- a pattern that is a target by itself
abbrev pub target_alone : Expressed → Patterned
target_alone x = pattern_step (layer.Target x)

abbrev pub assigned_by_form : Patterned → Expressed → Lowering CoreExpr
assigned_by_form p x = assigned p x p.form

abbrev pub operated_by_form : Compound → Patterned → Expressed → Lowering CoreExpr
operated_by_form o p x = operated o x p.form

-- a function whose name begins at a place (14.1.20), as `function_value` has it
abbrev pub function_named_at : ℕ → Functioned → Lowering CoreExpr
function_named_at at f = do
  number ← f.lowered PlainForm
  own ← asks (λ b c. scoped_name b c at)
  kept ← temporary
  pure (named_function kept own number)
