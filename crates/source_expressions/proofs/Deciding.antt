-- A left side that decides is skipped with its right one.
use Rattle.std.proofs.Common.{◌≡◌, Bool, List, ◌∷◌, false, if◌then◌else◌, not, refl, true}
use Rattle.es_value.specs.declared.value.Value.{Value}
use Rattle.es_operators.specs.Primitives.{truth_of}
use Rattle.es6_ast.specs.declared.operators.BinaryOperator.{BinaryOperator}
use Rattle.es6_ast.specs.declared.operators.BinaryOperator.TheVariants as binary
use Rattle.es6_ast.specs.declared.tree.Expression.{Expression}
use Rattle.es6_ast.specs.declared.tree.Operand.{Operand, out-Operand}
use Rattle.source_meaning.specs.Expressions.{operand_by, operands_on}
use Rattle.source_meaning.specs.State.{State}
use Rattle.source_meaning.specs.Steps.{Next}
use Rattle.source_expressions.specs.Operands.{decides, undecided}

not_true : (t : Bool) (a b : Next) → not t ≡ true → (if t then a else b) ≡ b
not_true true a b e = cc
not_true false a b e = refl

not_false : (t : Bool) (a b : Next) → not t ≡ false → (if t then a else b) ≡ a
not_false true a b e = refl
not_false false a b e = cc

skipped_by : (v : Value) (st : State) (x : Expression) (os : List Operand) (rest : Value → Next) (b : BinaryOperator) → decides b v ≡ true → operand_by v st x os rest b ≡ rest v
skipped_by v st x os rest binary.And e = not_true (truth_of v) _ _ e
skipped_by v st x os rest binary.Or e = rw e refl
skipped_by v st x os rest b e = cc

evaluated_by : (v : Value) (st : State) (x : Expression) (os : List Operand) (rest : Value → Next) (b : BinaryOperator) → decides b v ≡ false → operand_by v st x os rest b ≡ undecided v st x os b
evaluated_by v st x os rest binary.And e = not_false (truth_of v) _ _ e
evaluated_by v st x os rest binary.Or e = rw e refl
evaluated_by v st x os rest b e = refl

pub skipped : (v : Value) (st : State) (o : Operand) (os : List Operand) → decides (out-Operand o).operator v ≡ true → operands_on (o ∷ os) st v ≡ operands_on os st v
skipped v st o os e = skipped_by v st (out-Operand o).value os (operands_on os st) (out-Operand o).operator e

pub evaluated : (v : Value) (st : State) (o : Operand) (os : List Operand) → decides (out-Operand o).operator v ≡ false → operands_on (o ∷ os) st v ≡ undecided v st (out-Operand o).value os (out-Operand o).operator
evaluated v st o os e = evaluated_by v st (out-Operand o).value os (operands_on os st) (out-Operand o).operator e
