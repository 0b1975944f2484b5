-- What the value of a left side decides (ECMA-262, 6th edition, 12.12.3), as a loop along operands asks it.
use Rattle.std.specs.Prelude.{Bool, List, false, not}
use Rattle.es_value.specs.declared.value.Value.{Value}
use Rattle.es_operators.specs.Primitives.{truth_of}
use Rattle.es6_ast.specs.declared.operators.BinaryOperator.{BinaryOperator}
use Rattle.es6_ast.specs.declared.operators.BinaryOperator.TheVariants as binary
use Rattle.es6_ast.specs.declared.tree.Expression.{Expression}
use Rattle.es6_ast.specs.declared.tree.Operand.{Operand}
use Rattle.source_meaning.specs.State.{OperandRight, Operands, State}
use Rattle.source_meaning.specs.Steps.{Next, begins}

-- whether the value stands for the whole of both sides
abbrev pub decides : BinaryOperator → Value → Bool
decides binary.And v = not (truth_of v)
decides binary.Or v = truth_of v
decides b v = false

-- where it doesn't, the right side is evaluated
abbrev pub undecided : Value → State → Expression → List Operand → BinaryOperator → Next
undecided v st x os binary.And = begins (Operands os) x st
undecided v st x os binary.Or = begins (Operands os) x st
undecided v st x os b = begins (OperandRight v b os) x st
