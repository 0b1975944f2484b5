-- What is met on the way to what a part goes to.
use Rattle.std.specs.Prelude.{Option}
use Rattle.std.specs.Option.{option_copied, option_map}
use denote.Ref.{Bor}
use Rattle.core_ast.specs.declared.parts.Var.{Var}
use Rattle.core_ast.specs.declared.tree.CoreExpr.{CoreExpr}
use Rattle.es6_ast.specs.declared.tree.Expression.{Expression}
use Rattle.es6_ast.specs.declared.tree.Identifier.{Identifier}
use Rattle.lower_walk.specs.declared.around.Around.{Around}
use Rattle.lowering_rules.specs.declared.patterns.MemberTarget.{MemberTarget}
use Rattle.module_lowering.specs.Bindings.{declared_var}
use Rattle.module_lowering.specs.Expressions.{form_of, optional}
use Rattle.module_lowering.specs.Lowered.{expression_lowered}
use Rattle.module_lowering.specs.Lowering.{drawing, Lowering, ◌>>=◌}
use Rattle.module_lowering.specs.Nodes.{Expressed, Form}
use Rattle.module_lowering.specs.Patterns.{member_reached}
use Rattle.lowering_rules.specs.declared.reference_rules.references.Reached.{Reached}

-- the form of a target by itself
abbrev pub form_by : Expressed → Form
form_by x = form_of x.name x.reached

-- a default that may be left out
abbrev pub default_of : Option (Bor Expression) → Option (Lowering CoreExpr)
default_of default = optional (option_map expression_lowered (option_copied default))

-- the variable that a name declares there
abbrev pub declared_there : Around → Identifier → Var
declared_there around x = declared_var around.bindings.now around.context.now x.span.begin

-- the property that is reached, if it is one
abbrev pub member_found : Lowering Reached → Lowering (Option MemberTarget)
member_found reached = do
  r ← reached
  drawing (member_reached r)
