-- What begins, by the kinds of nodes that are told apart in areas: the rows of begin_open and start_open (crates/source_meaning,
-- specs/Nodes.antt).
use Rattle.std.specs.Prelude.{List, [], false, ℕ, ◌∷◌}
use Rattle.es_heap.specs.Heaps.{next_id}
use Rattle.es_heap.specs.declared.key.Key.TheVariants.{Text}
use Rattle.es_value.specs.declared.value.Value.TheVariants as value
use Rattle.es6_ast.specs.declared.tree.Class.{out-Class}
use Rattle.es6_ast.specs.declared.tree.Pattern.{out-Pattern}
use Rattle.es6_ast.specs.declared.tree.Template.{out-Template}
use Rattle.source_meaning.specs.Classes.{begin_class}
use Rattle.source_meaning.specs.Environments.{read_name, with_this}
use Rattle.source_meaning.specs.Expressions.{begin_assignment, template_on}
use Rattle.source_meaning.specs.Functions.{closed, function_expression}
use Rattle.source_meaning.specs.Lists.{list_on}
use Rattle.source_meaning.specs.Loops.{for_loop, for_of, plain_loop, run_turn, test_loop}
use Rattle.source_meaning.specs.Modules.{name_or_default}
use Rattle.source_meaning.specs.Nodes.{begin_super, begin_unary, begin_yield, declare_class, gives_closure, label_of, with_array, with_new_object}
use Rattle.source_meaning.specs.Objects.{properties_on}
use Rattle.source_meaning.specs.References.{super_reference}
use Rattle.source_meaning.specs.State.{ArrowCode, Begin, Branches, Breaks, Continues, Delegating, Done, ForSuper, Ignoring, Labelling, Links, NewCallee, OfArguments, OfArray, Operands, PowerBase, SequenceRest, Start, State, Subject, Throwing, UpdateReference}
use Rattle.source_meaning.specs.Statements.{conditions_on, return_value, run_block, try_statement, variables_on}
use Rattle.source_meaning.specs.Steps.{Next, begins, controls, gives, hands, impossible, pushed, refers}
use Rattle.source_meaning.specs.Trees.{literal_value, name_units, optional_name}
use Rattle.source_state.specs.Parts.{arguments_parts, elements_parts}
use Rattle.source_takers.specs.declared.expression_nodes.PrimaryNode.{PrimaryNode}
use Rattle.source_takers.specs.declared.expression_nodes.PrimaryNode.TheVariants as primary
use Rattle.source_takers.specs.declared.expression_nodes.ClosureNode.{ClosureNode}
use Rattle.source_takers.specs.declared.expression_nodes.ClosureNode.TheVariants as closure
use Rattle.source_takers.specs.declared.expression_nodes.AccessNode.{AccessNode}
use Rattle.source_takers.specs.declared.expression_nodes.AccessNode.TheVariants as access
use Rattle.source_takers.specs.declared.expression_nodes.OperatorNode.{OperatorNode}
use Rattle.source_takers.specs.declared.expression_nodes.OperatorNode.TheVariants as operator
use Rattle.source_takers.specs.declared.expression_nodes.OtherNode.{OtherNode}
use Rattle.source_takers.specs.declared.expression_nodes.OtherNode.TheVariants as other
use Rattle.source_takers.specs.declared.expression_nodes.ExpressionNode.{ExpressionNode}
use Rattle.source_takers.specs.declared.expression_nodes.ExpressionNode.TheVariants as node
use Rattle.source_takers.specs.declared.statement_nodes.SimpleNode.{SimpleNode}
use Rattle.source_takers.specs.declared.statement_nodes.SimpleNode.TheVariants as simple
use Rattle.source_takers.specs.declared.statement_nodes.LoopNode.{LoopNode}
use Rattle.source_takers.specs.declared.statement_nodes.LoopNode.TheVariants as loop
use Rattle.source_takers.specs.declared.statement_nodes.JumpNode.{JumpNode}
use Rattle.source_takers.specs.declared.statement_nodes.JumpNode.TheVariants as jump
use Rattle.source_takers.specs.declared.statement_nodes.StatementNode.{StatementNode}
use Rattle.source_takers.specs.declared.statement_nodes.StatementNode.TheVariants as statement

-- ---- expressions

abbrev pub primary_begun : PrimaryNode → State → Next
primary_begun (primary.This span) st = with_this st (λ v. gives v st)
primary_begun (primary.Name span name) st = read_name name st
primary_begun (primary.Literal span l) st = gives (literal_value l) st
primary_begun (primary.Template t) st = template_on (out-Template t).first.cooked (out-Template t).rest st
primary_begun (primary.ArrayList span elements comma) st =
    list_on (OfArray (next_id st.heap)) (elements_parts elements) (with_array st)
primary_begun (primary.ObjectList span properties) st = properties_on (next_id st.heap) properties (with_new_object st)
primary_begun (primary.NewTarget span) st = gives st.context.own.target st

abbrev pub closure_begun : ClosureNode → State → Next
closure_begun (closure.Function f) st = gives_closure (function_expression f st)
closure_begun (closure.Arrow a) st = gives_closure (closed (ArrowCode a) value.Undefined st)
closure_begun (closure.Class c) st = begin_class c st

abbrev pub access_begun : AccessNode → State → Next
access_begun (access.Chain span head links) st = refers (Links false links) head st
access_begun (access.SuperMember span name) st = super_reference false (Text (name_units name.name)) st
access_begun (access.SuperIndex span x) st = begin_super false x st
access_begun (access.SuperCall span xs) st = list_on (OfArguments ForSuper []) (arguments_parts xs) st
access_begun (access.New span callee xs) st = begins (NewCallee xs) callee st

abbrev pub operator_begun : OperatorNode → State → Next
operator_begun (operator.Update span o x) st = refers (UpdateReference o) x st
operator_begun (operator.Unary span o x) st = begin_unary x st o
operator_begun (operator.Power span base exponent) st = begins (PowerBase exponent) base st
operator_begun (operator.Binary span first rest) st = begins (Operands rest) first st
operator_begun (operator.Conditional span test yes_ no_) st = begins (Branches yes_ no_) test st
operator_begun (operator.Sequence span first rest) st = begins (SequenceRest rest) first st

abbrev pub other_begun : OtherNode → State → Next
other_begun (other.Assign span o target x) st = begin_assignment o target x st (out-Pattern target)
other_begun (other.Yield span x) st = begin_yield st x
other_begun (other.Delegate span x) st = begins Delegating x st
other_begun (other.Group span held) st = controls (Begin held) st
other_begun (other.Cover span held rest) st = impossible st

abbrev pub expression_begun : ExpressionNode → State → Next
expression_begun (node.Primary n) st = primary_begun n st
expression_begun (node.Closure n) st = closure_begun n st
expression_begun (node.Access n) st = access_begun n st
expression_begun (node.Operator n) st = operator_begun n st
expression_begun (node.Other n) st = other_begun n st

-- ---- statements

abbrev pub simple_started : SimpleNode → State → Next
simple_started (simple.Block b) st = run_block b st
simple_started (simple.Variables span kind parts) st = variables_on kind parts st
simple_started (simple.Empty span) st = hands Done st
simple_started (simple.Expression span x) st = begins Ignoring x st
simple_started (simple.If span first more otherwise) st = conditions_on (first ∷ more) otherwise st
simple_started (simple.Debugger span) st = hands Done st
simple_started (simple.FunctionDeclaration f) st = hands Done st
simple_started (simple.ClassDeclaration c) st =
    declare_class (name_or_default (optional_name (out-Class c).name)) c st

abbrev pub loop_started : LoopNode → List (List ℕ) → State → Next
loop_started (loop.DoWhile span body test) labels st = run_turn (plain_loop labels test body) st
loop_started (loop.While span test body) labels st = test_loop (plain_loop labels test body) st
loop_started (loop.For span first test update body) labels st = for_loop labels first test update body st
loop_started (loop.ForOf span target subject body) labels st =
    for_of (record { labels = labels; target = target; body = body }) subject st

abbrev pub jump_started : JumpNode → List (List ℕ) → State → Next
jump_started (jump.Continue span label) labels st = hands (Continues (label_of label)) st
jump_started (jump.Break span label) labels st = hands (Breaks (label_of label)) st
jump_started (jump.Return span x) labels st = return_value x st
jump_started (jump.Switch span subject cases) labels st = begins (Subject cases) subject st
jump_started (jump.Labelled span label body) labels st =
    controls (Start (label.name ∷ labels) body) (pushed (Labelling label.name) st)
jump_started (jump.Throw span x) labels st = begins Throwing x st
jump_started (jump.Try span b handler last) labels st = try_statement b handler last st

abbrev pub statement_started : StatementNode → List (List ℕ) → State → Next
statement_started (statement.Simple n) labels st = simple_started n st
statement_started (statement.Loop n) labels st = loop_started n labels st
statement_started (statement.Jump n) labels st = jump_started n labels st
