-- Bodies of functions and of arrows.
use Rattle.std.specs.Prelude.{List, map}
use Rattle.core_ast.specs.declared.tree.CoreStat.{CoreStat}
use Rattle.core_ast.specs.declared.whole.Declared.{Declared}
use Rattle.lower_functions.specs.declared.bodies.Body.{Body}
use Rattle.lower_functions.specs.declared.bodies.Body.TheVariants.{Statements, Value}
use Rattle.module_lowering.specs.declared.context.Context.{Context}
use Rattle.module_lowering.specs.Bindings.{Bindings}
use Rattle.module_lowering.specs.Expressions.{valued}
use Rattle.module_lowering.specs.Functions.{body_names, parameter_names, value_returned, FunctionParts, Parameters}
use Rattle.module_lowering.specs.Lowered.{expression_lowered, statement_lowered}
use Rattle.module_lowering.specs.Names.{body_vars}
use Rattle.module_lowering.specs.Nodes.{Listed, Parametered, nothing}
use Rattle.module_lowering.specs.Statements.{listed}

-- what a body declares, and what it becomes
abbrev pub body_listed : Body → Listed
body_listed (Value x) = record nothing { statements = value_returned (valued (expression_lowered x.now)) }
body_listed (Statements ss) = listed (map statement_lowered ss.now)

-- the parts of a function, once its parameters and its body are made
abbrev pub parts_of : List Parametered → Listed → Parameters → List Declared → List CoreStat → Bindings → Context → FunctionParts
parts_of parameters body made functions statements b c = record {
  parameters = made;
  body_vars = body_vars (parameter_names parameters) body.variables b c;
  names = body_names body functions b c;
  statements = statements;
}
