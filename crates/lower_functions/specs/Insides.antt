-- Functions inside others.
use Rattle.std.specs.Prelude.{List}
use Rattle.core_ast.specs.declared.parts.Var.{Var}
use Rattle.core_ast.specs.declared.whole.CoreFunction.{CoreFunction}
use Rattle.core_ast.specs.declared.whole.CoreKind.{CoreKind}
use Rattle.module_lowering.specs.declared.lowerer.Lowerer.{Lowerer}
use Rattle.module_lowering.specs.declared.lowerer.Seen.{Seen}
use Rattle.module_lowering.specs.Functions.{assembled, FunctionParts}
use Rattle.module_lowering.specs.Lowering.{Inside}
use Rattle.lowering_rules.specs.declared.statement_rules.bodies.Receiver.{Receiver}
use Rattle.lowering_rules.specs.statement_rules.Bodies.{begun}

-- The function round it goes on with these temporaries, as `left` has it.
abbrev pub left_with : {A : Type 0} → List Var → Seen → A × Lowerer → Inside A × Lowerer
left_with locals seen x = (
  record { value = x.0; locals = x.1.names.locals; seen = x.1.seen },
  record x.1 { names = record { fresh = x.1.names.fresh; locals = locals }; seen = seen },
)

-- the function of these parts
abbrev pub function_of : CoreKind → Receiver → Inside FunctionParts → CoreFunction
function_of kind receiver x = assembled x.value x.locals (begun kind receiver)
