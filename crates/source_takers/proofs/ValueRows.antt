-- What takes a value takes nothing else: each case of the definitions, by area.
use Rattle.std.proofs.Common.{◌≡◌, List, Option, refl, ℕ}
use Rattle.es_value.specs.declared.value.Value.{Value}
use Rattle.es_calls.specs.declared.call.Resumption.{Resumption}
use Rattle.source_meaning.specs.Frames.{abrupt, handed, over, taken}
use Rattle.source_meaning.specs.State.{Breaks, Completion, Continues, Done, Gives, Reference, Refers, Resumes, Returns, State, Throws}
use Rattle.source_takers.specs.Rows.{value_row}
use Rattle.source_takers.specs.Takers.{assign_work, call_work, class_work, generator_work, list_work, literal_work, loop_work, operator_work, pattern_work, statement_work, value_work}
use Rattle.source_takers.specs.declared.values.ListTaker.TheVariants as list
use Rattle.source_takers.specs.declared.values.ClassTaker.TheVariants as class
use Rattle.source_takers.specs.declared.values.LiteralTaker.TheVariants as literal
use Rattle.source_takers.specs.declared.values.OperatorTaker.TheVariants as operator
use Rattle.source_takers.specs.declared.values.AssignTaker.TheVariants as assign
use Rattle.source_takers.specs.declared.values.PatternTaker.TheVariants as pattern
use Rattle.source_takers.specs.declared.values.StatementTaker.TheVariants as statement
use Rattle.source_takers.specs.declared.values.LoopTaker.TheVariants as loop
use Rattle.source_takers.specs.declared.values.CallTaker.TheVariants as call
use Rattle.source_takers.specs.declared.values.GeneratorTaker.TheVariants as generator
use Rattle.source_takers.specs.declared.values.ValueTaker.TheVariants as value
use Rattle.source_takers.specs.declared.values.ValueTaker.{ValueTaker}

value_gives : (st : State) (v : Value) (t : ValueTaker) → handed (value_work t) st (Gives v) ≡ value_row t st (Gives v)
unfolding handed taken over abrupt value_work list_work class_work literal_work operator_work assign_work pattern_work statement_work loop_work call_work generator_work
value_gives st v (value.List (list.LinkIndex a b d)) = refl
value_gives st v (value.Class (class.SuperKey a)) = refl
value_gives st v (value.Literal (literal.TemplateValue a b d)) = refl
value_gives st v (value.Operator (operator.UnaryValue a)) = refl
value_gives st v (value.Assign (assign.UpdateOld a b)) = refl
value_gives st v (value.Pattern (pattern.PatternIterator a b)) = refl
value_gives st v (value.Statement (statement.VariableValue a b d)) = refl
value_gives st v (value.Loop (loop.LoopTest a)) = refl
value_gives st v (value.Call call.Ignoring) = refl
value_gives st v (value.Generator (generator.GeneratorPrototype a)) = refl
value_gives st v t = refl

value_refers : (st : State) (v : Reference) (t : ValueTaker) → handed (value_work t) st (Refers v) ≡ value_row t st (Refers v)
unfolding handed taken over abrupt value_work list_work class_work literal_work operator_work assign_work pattern_work statement_work loop_work call_work generator_work
value_refers st v (value.List (list.LinkIndex a b d)) = refl
value_refers st v (value.Class (class.SuperKey a)) = refl
value_refers st v (value.Literal (literal.TemplateValue a b d)) = refl
value_refers st v (value.Operator (operator.UnaryValue a)) = refl
value_refers st v (value.Assign (assign.UpdateOld a b)) = refl
value_refers st v (value.Pattern (pattern.PatternIterator a b)) = refl
value_refers st v (value.Statement (statement.VariableValue a b d)) = refl
value_refers st v (value.Loop (loop.LoopTest a)) = refl
value_refers st v (value.Call call.Ignoring) = refl
value_refers st v (value.Generator (generator.GeneratorPrototype a)) = refl
value_refers st v t = refl

value_done : (st : State) (t : ValueTaker) → handed (value_work t) st Done ≡ value_row t st Done
unfolding handed taken over abrupt value_work list_work class_work literal_work operator_work assign_work pattern_work statement_work loop_work call_work generator_work
value_done st (value.List (list.LinkIndex a b d)) = refl
value_done st (value.Class (class.SuperKey a)) = refl
value_done st (value.Literal (literal.TemplateValue a b d)) = refl
value_done st (value.Operator (operator.UnaryValue a)) = refl
value_done st (value.Assign (assign.UpdateOld a b)) = refl
value_done st (value.Pattern (pattern.PatternIterator a b)) = refl
value_done st (value.Statement (statement.VariableValue a b d)) = refl
value_done st (value.Loop (loop.LoopTest a)) = refl
value_done st (value.Call call.Ignoring) = refl
value_done st (value.Generator (generator.GeneratorPrototype a)) = refl
value_done st t = refl

value_throws : (st : State) (v : Value) (t : ValueTaker) → handed (value_work t) st (Throws v) ≡ value_row t st (Throws v)
unfolding handed taken over abrupt value_work list_work class_work literal_work operator_work assign_work pattern_work statement_work loop_work call_work generator_work
value_throws st v (value.List (list.LinkIndex a b d)) = refl
value_throws st v (value.Class (class.SuperKey a)) = refl
value_throws st v (value.Literal (literal.TemplateValue a b d)) = refl
value_throws st v (value.Operator (operator.UnaryValue a)) = refl
value_throws st v (value.Assign (assign.UpdateOld a b)) = refl
value_throws st v (value.Pattern (pattern.PatternIterator a b)) = refl
value_throws st v (value.Statement (statement.VariableValue a b d)) = refl
value_throws st v (value.Loop (loop.LoopTest a)) = refl
value_throws st v (value.Call call.Ignoring) = refl
value_throws st v (value.Generator (generator.GeneratorPrototype a)) = refl
value_throws st v t = refl

value_returns : (st : State) (v : Value) (t : ValueTaker) → handed (value_work t) st (Returns v) ≡ value_row t st (Returns v)
unfolding handed taken over abrupt value_work list_work class_work literal_work operator_work assign_work pattern_work statement_work loop_work call_work generator_work
value_returns st v (value.List (list.LinkIndex a b d)) = refl
value_returns st v (value.Class (class.SuperKey a)) = refl
value_returns st v (value.Literal (literal.TemplateValue a b d)) = refl
value_returns st v (value.Operator (operator.UnaryValue a)) = refl
value_returns st v (value.Assign (assign.UpdateOld a b)) = refl
value_returns st v (value.Pattern (pattern.PatternIterator a b)) = refl
value_returns st v (value.Statement (statement.VariableValue a b d)) = refl
value_returns st v (value.Loop (loop.LoopTest a)) = refl
value_returns st v (value.Call call.Ignoring) = refl
value_returns st v (value.Generator (generator.GeneratorPrototype a)) = refl
value_returns st v t = refl

value_breaks : (st : State) (v : Option (List ℕ)) (t : ValueTaker) → handed (value_work t) st (Breaks v) ≡ value_row t st (Breaks v)
unfolding handed taken over abrupt value_work list_work class_work literal_work operator_work assign_work pattern_work statement_work loop_work call_work generator_work
value_breaks st v (value.List (list.LinkIndex a b d)) = refl
value_breaks st v (value.Class (class.SuperKey a)) = refl
value_breaks st v (value.Literal (literal.TemplateValue a b d)) = refl
value_breaks st v (value.Operator (operator.UnaryValue a)) = refl
value_breaks st v (value.Assign (assign.UpdateOld a b)) = refl
value_breaks st v (value.Pattern (pattern.PatternIterator a b)) = refl
value_breaks st v (value.Statement (statement.VariableValue a b d)) = refl
value_breaks st v (value.Loop (loop.LoopTest a)) = refl
value_breaks st v (value.Call call.Ignoring) = refl
value_breaks st v (value.Generator (generator.GeneratorPrototype a)) = refl
value_breaks st v t = refl

value_continues : (st : State) (v : Option (List ℕ)) (t : ValueTaker) → handed (value_work t) st (Continues v) ≡ value_row t st (Continues v)
unfolding handed taken over abrupt value_work list_work class_work literal_work operator_work assign_work pattern_work statement_work loop_work call_work generator_work
value_continues st v (value.List (list.LinkIndex a b d)) = refl
value_continues st v (value.Class (class.SuperKey a)) = refl
value_continues st v (value.Literal (literal.TemplateValue a b d)) = refl
value_continues st v (value.Operator (operator.UnaryValue a)) = refl
value_continues st v (value.Assign (assign.UpdateOld a b)) = refl
value_continues st v (value.Pattern (pattern.PatternIterator a b)) = refl
value_continues st v (value.Statement (statement.VariableValue a b d)) = refl
value_continues st v (value.Loop (loop.LoopTest a)) = refl
value_continues st v (value.Call call.Ignoring) = refl
value_continues st v (value.Generator (generator.GeneratorPrototype a)) = refl
value_continues st v t = refl

value_resumes : (st : State) (k : Resumption) (v : Value) (t : ValueTaker) → handed (value_work t) st (Resumes k v) ≡ value_row t st (Resumes k v)
unfolding handed taken over abrupt value_work list_work class_work literal_work operator_work assign_work pattern_work statement_work loop_work call_work generator_work
value_resumes st k v (value.List (list.LinkIndex a b d)) = refl
value_resumes st k v (value.Class (class.SuperKey a)) = refl
value_resumes st k v (value.Literal (literal.TemplateValue a b d)) = refl
value_resumes st k v (value.Operator (operator.UnaryValue a)) = refl
value_resumes st k v (value.Assign (assign.UpdateOld a b)) = refl
value_resumes st k v (value.Pattern (pattern.PatternIterator a b)) = refl
value_resumes st k v (value.Statement (statement.VariableValue a b d)) = refl
value_resumes st k v (value.Loop (loop.LoopTest a)) = refl
value_resumes st k v (value.Call call.Ignoring) = refl
value_resumes st k v (value.Generator (generator.GeneratorPrototype a)) = refl
value_resumes st k v t = refl

pub value_handed : (st : State) (c : Completion) (t : ValueTaker) → handed (value_work t) st c ≡ value_row t st c
value_handed st (Gives v) t = value_gives st v t
value_handed st (Refers v) t = value_refers st v t
value_handed st Done t = value_done st t
value_handed st (Throws v) t = value_throws st v t
value_handed st (Returns v) t = value_returns st v t
value_handed st (Breaks v) t = value_breaks st v t
value_handed st (Continues v) t = value_continues st v t
value_handed st (Resumes k v) t = value_resumes st k v t
