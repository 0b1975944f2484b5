-- The rows by what takes a value are the rows of the definitions: each case.
use Rattle.std.proofs.Common.{◌≡◌, ◌∙◌, refl}
use Rattle.es_value.specs.declared.value.Value.{Value}
use Rattle.source_meaning.specs.Frames.{given, given_expression, given_pattern, given_statement, handed}
use Rattle.source_meaning.specs.State.{Breaks, Completion, Continues, Done, Gives, Refers, Resumes, Returns, State, Throws}
use Rattle.source_takers.proofs.ValueRows.{value_handed}
use Rattle.source_takers.specs.Takers.{assign_work, call_work, class_work, generator_work, list_work, literal_work, loop_work, operator_work, pattern_work, statement_work, value_work}
use Rattle.source_values.specs.Given.{assign_given, call_given, class_given, generator_given, list_given, literal_given, loop_given, operator_given, pattern_given, statement_given, value_given, valued}
use Rattle.source_takers.specs.declared.values.ListTaker.{ListTaker}
use Rattle.source_takers.specs.declared.values.ListTaker.TheVariants as list
use Rattle.source_takers.specs.declared.values.ClassTaker.{ClassTaker}
use Rattle.source_takers.specs.declared.values.ClassTaker.TheVariants as class
use Rattle.source_takers.specs.declared.values.LiteralTaker.{LiteralTaker}
use Rattle.source_takers.specs.declared.values.LiteralTaker.TheVariants as literal
use Rattle.source_takers.specs.declared.values.OperatorTaker.{OperatorTaker}
use Rattle.source_takers.specs.declared.values.OperatorTaker.TheVariants as operator
use Rattle.source_takers.specs.declared.values.AssignTaker.{AssignTaker}
use Rattle.source_takers.specs.declared.values.AssignTaker.TheVariants as assign
use Rattle.source_takers.specs.declared.values.PatternTaker.{PatternTaker}
use Rattle.source_takers.specs.declared.values.PatternTaker.TheVariants as pattern
use Rattle.source_takers.specs.declared.values.StatementTaker.{StatementTaker}
use Rattle.source_takers.specs.declared.values.StatementTaker.TheVariants as statement
use Rattle.source_takers.specs.declared.values.LoopTaker.{LoopTaker}
use Rattle.source_takers.specs.declared.values.LoopTaker.TheVariants as loop
use Rattle.source_takers.specs.declared.values.CallTaker.{CallTaker}
use Rattle.source_takers.specs.declared.values.CallTaker.TheVariants as call
use Rattle.source_takers.specs.declared.values.GeneratorTaker.{GeneratorTaker}
use Rattle.source_takers.specs.declared.values.GeneratorTaker.TheVariants as generator
use Rattle.source_takers.specs.declared.values.ValueTaker.{ValueTaker}
use Rattle.source_takers.specs.declared.values.ValueTaker.TheVariants as taker

pub list_row : (st : State) (v : Value) (t : ListTaker) → given st v (list_work t) ≡ list_given t st v
unfolding given given_statement given_pattern given_expression list_work
list_row st v (list.LinkIndex a b d) = refl
list_row st v t = refl

pub class_row : (st : State) (v : Value) (t : ClassTaker) → given st v (class_work t) ≡ class_given t st v
unfolding given given_statement given_pattern given_expression class_work
class_row st v (class.SuperKey a) = refl
class_row st v t = refl

pub literal_row : (st : State) (v : Value) (t : LiteralTaker) → given st v (literal_work t) ≡ literal_given t st v
unfolding given given_statement given_pattern given_expression literal_work
literal_row st v (literal.TemplateValue a b d) = refl
literal_row st v t = refl

pub operator_row : (st : State) (v : Value) (t : OperatorTaker) → given st v (operator_work t) ≡ operator_given t st v
unfolding given given_statement given_pattern given_expression operator_work
operator_row st v (operator.UnaryValue a) = refl
operator_row st v t = refl

pub assign_row : (st : State) (v : Value) (t : AssignTaker) → given st v (assign_work t) ≡ assign_given t st v
unfolding given given_statement given_pattern given_expression assign_work
assign_row st v (assign.UpdateOld a b) = refl
assign_row st v t = refl

pub pattern_row : (st : State) (v : Value) (t : PatternTaker) → given st v (pattern_work t) ≡ pattern_given t st v
unfolding given given_statement given_pattern given_expression pattern_work
pattern_row st v (pattern.PatternIterator a b) = refl
pattern_row st v t = refl

pub statement_row : (st : State) (v : Value) (t : StatementTaker) → given st v (statement_work t) ≡ statement_given t st v
unfolding given given_statement given_pattern given_expression statement_work
statement_row st v (statement.VariableValue a b d) = refl
statement_row st v t = refl

pub loop_row : (st : State) (v : Value) (t : LoopTaker) → given st v (loop_work t) ≡ loop_given t st v
unfolding given given_statement given_pattern given_expression loop_work
loop_row st v (loop.LoopTest a) = refl
loop_row st v t = refl

pub call_row : (st : State) (v : Value) (t : CallTaker) → given st v (call_work t) ≡ call_given t st v
unfolding given given_statement given_pattern given_expression call_work
call_row st v call.Ignoring = refl
call_row st v t = refl

pub generator_row : (st : State) (v : Value) (t : GeneratorTaker) → given st v (generator_work t) ≡ generator_given t st v
unfolding given given_statement given_pattern given_expression generator_work
generator_row st v (generator.GeneratorPrototype a) = refl
generator_row st v t = refl

pub value_row : (st : State) (v : Value) (t : ValueTaker) → given st v (value_work t) ≡ value_given t st v
unfolding value_work
value_row st v (taker.List t) = list_row st v t
value_row st v (taker.Class t) = class_row st v t
value_row st v (taker.Literal t) = literal_row st v t
value_row st v (taker.Operator t) = operator_row st v t
value_row st v (taker.Assign t) = assign_row st v t
value_row st v (taker.Pattern t) = pattern_row st v t
value_row st v (taker.Statement t) = statement_row st v t
value_row st v (taker.Loop t) = loop_row st v t
value_row st v (taker.Call t) = call_row st v t
value_row st v (taker.Generator t) = generator_row st v t

pub valued_row : (st : State) (c : Completion) (t : ValueTaker) → handed (value_work t) st c ≡ valued t st c
valued_row st (Gives v) t = value_handed st (Gives v) t ∙ value_row st v t
valued_row st (Refers r) t = value_handed st (Refers r) t
valued_row st Done t = value_handed st Done t
valued_row st (Resumes kind v) t = value_handed st (Resumes kind v) t
valued_row st (Throws v) t = value_handed st (Throws v) t
valued_row st (Returns v) t = value_handed st (Returns v) t
valued_row st (Breaks l) t = value_handed st (Breaks l) t
valued_row st (Continues l) t = value_handed st (Continues l) t
