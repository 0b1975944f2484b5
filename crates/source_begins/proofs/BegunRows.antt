-- The rows by kinds of nodes are the rows of the definitions: each case.
use Rattle.std.proofs.Common.{◌≡◌, ◌∙◌, List, ℕ, Result, ap, refl, subst, sym}
use Rattle.es6_ast.specs.Spans.{span_of, statement_span}
use Rattle.es_text.specs.declared.Span.{Span}
use Rattle.es6_ast.specs.declared.tree.Expression.{Expression, out-Expression}
use Rattle.es6_ast.specs.declared.tree.Statement.{Statement, out-Statement}
use Rattle.source_begins.specs.Begun.{access_begun, closure_begun, expression_begun, jump_started, loop_started, operator_begun, other_begun, primary_begun, simple_started, statement_started}
use Rattle.source_meaning.specs.Nodes.{begin, begin_open, start_open, start_statement}
use Rattle.source_meaning.specs.State.{State, Work}
use Rattle.source_meaning.specs.Steps.{at_node}
use Rattle.source_moves.specs.Moves.{Steps}
use Rattle.source_moves.specs.declared.moves.Move.{Move}
use Rattle.source_state.specs.declared.state.State.{State as StateOf}
use Rattle.source_takers.specs.ExpressionNodes.{access_expression_layer, closure_expression_layer, expression_layer, operator_expression_layer, other_expression_layer, primary_expression_layer}
use Rattle.source_takers.specs.StatementNodes.{jump_statement_layer, loop_statement_layer, simple_statement_layer, statement_layer}
use Rattle.source_takers.specs.declared.expression_nodes.PrimaryNode.{PrimaryNode}
use Rattle.source_takers.specs.declared.expression_nodes.PrimaryNode.TheVariants as primary
use Rattle.source_takers.specs.declared.expression_nodes.ClosureNode.{ClosureNode}
use Rattle.source_takers.specs.declared.expression_nodes.ClosureNode.TheVariants as closure
use Rattle.source_takers.specs.declared.expression_nodes.AccessNode.{AccessNode}
use Rattle.source_takers.specs.declared.expression_nodes.AccessNode.TheVariants as access
use Rattle.source_takers.specs.declared.expression_nodes.OperatorNode.{OperatorNode}
use Rattle.source_takers.specs.declared.expression_nodes.OperatorNode.TheVariants as operator
use Rattle.source_takers.specs.declared.expression_nodes.OtherNode.{OtherNode}
use Rattle.source_takers.specs.declared.expression_nodes.OtherNode.TheVariants as other
use Rattle.source_takers.specs.declared.expression_nodes.ExpressionNode.{ExpressionNode}
use Rattle.source_takers.specs.declared.expression_nodes.ExpressionNode.TheVariants as node
use Rattle.source_takers.specs.declared.statement_nodes.SimpleNode.{SimpleNode}
use Rattle.source_takers.specs.declared.statement_nodes.SimpleNode.TheVariants as simple
use Rattle.source_takers.specs.declared.statement_nodes.LoopNode.{LoopNode}
use Rattle.source_takers.specs.declared.statement_nodes.LoopNode.TheVariants as loop
use Rattle.source_takers.specs.declared.statement_nodes.JumpNode.{JumpNode}
use Rattle.source_takers.specs.declared.statement_nodes.JumpNode.TheVariants as jump
use Rattle.source_takers.specs.declared.statement_nodes.StatementNode.{StatementNode}
use Rattle.source_takers.specs.declared.statement_nodes.StatementNode.TheVariants as statement

primary_row : (st : State) (n : PrimaryNode) → begin_open st (primary_expression_layer n) ≡ primary_begun n st
unfolding begin_open
primary_row st (primary.This a) = refl
primary_row st n = refl

closure_row : (st : State) (n : ClosureNode) → begin_open st (closure_expression_layer n) ≡ closure_begun n st
unfolding begin_open
closure_row st (closure.Function a) = refl
closure_row st n = refl

access_row : (st : State) (n : AccessNode) → begin_open st (access_expression_layer n) ≡ access_begun n st
unfolding begin_open
access_row st (access.Chain a b c) = refl
access_row st n = refl

operator_row : (st : State) (n : OperatorNode) → begin_open st (operator_expression_layer n) ≡ operator_begun n st
unfolding begin_open
operator_row st (operator.Update a b c) = refl
operator_row st n = refl

other_row : (st : State) (n : OtherNode) → begin_open st (other_expression_layer n) ≡ other_begun n st
unfolding begin_open
other_row st (other.Assign a b c d) = refl
other_row st n = refl

expression_row : (st : State) (n : ExpressionNode) → begin_open st (expression_layer n) ≡ expression_begun n st
expression_row st (node.Primary n) = primary_row st n
expression_row st (node.Closure n) = closure_row st n
expression_row st (node.Access n) = access_row st n
expression_row st (node.Operator n) = operator_row st n
expression_row st (node.Other n) = other_row st n

simple_row : (labels : List (List ℕ)) (st : State) (n : SimpleNode) → start_open labels st (simple_statement_layer n) ≡ simple_started n st
unfolding start_open
simple_row labels st (simple.Block a) = refl
simple_row labels st n = refl

loop_row : (labels : List (List ℕ)) (st : State) (n : LoopNode) → start_open labels st (loop_statement_layer n) ≡ loop_started n labels st
unfolding start_open
loop_row labels st (loop.DoWhile a b c) = refl
loop_row labels st n = refl

jump_row : (labels : List (List ℕ)) (st : State) (n : JumpNode) → start_open labels st (jump_statement_layer n) ≡ jump_started n labels st
unfolding start_open
jump_row labels st (jump.Continue a b) = refl
jump_row labels st n = refl

statement_row : (labels : List (List ℕ)) (st : State) (n : StatementNode) → start_open labels st (statement_layer n) ≡ statement_started n labels st
statement_row labels st (statement.Simple n) = simple_row labels st n
statement_row labels st (statement.Loop n) = loop_row labels st n
statement_row labels st (statement.Jump n) = jump_row labels st n

-- a step by the row of a node is one by the expression, or the statement, that was taken apart
pub expression_steps : {W E : Type 0} (seen : W → Work) (r : Result Move E) (after : StateOf W) (x y : Expression) (span : Span) (st mid : State) (n : ExpressionNode)
    → y ≡ x → span ≡ span_of y → expression_layer n ≡ out-Expression y → mid ≡ at_node span.begin st → Steps seen r after (expression_begun n mid) → Steps seen r after (begin x st)
expression_steps seen r after x y span st mid n same spans is moved h =
    let law : begin x st ≡ expression_begun n mid =
    ap (λ z. begin z st) (sym same) ∙ ap (λ s. begin_open (at_node s.begin st) (out-Expression y)) (sym spans)
    ∙ ap (λ l. begin_open (at_node span.begin st) l) (sym is) ∙ expression_row (at_node span.begin st) n ∙ ap (λ m. expression_begun n m) (sym moved) in
    subst (λ next. Steps seen r after next) (sym law) h

pub statement_steps : {W E : Type 0} (seen : W → Work) (r : Result Move E) (after : StateOf W) (labels : List (List ℕ)) (s : Statement) (span : Span) (st mid : State) (n : StatementNode)
    → span ≡ statement_span s → statement_layer n ≡ out-Statement s → mid ≡ at_node span.begin st → Steps seen r after (statement_started n labels mid) → Steps seen r after (start_statement labels s st)
statement_steps seen r after labels s span st mid n spans is moved h =
    let law : start_statement labels s st ≡ statement_started n labels mid =
    ap (λ p. start_open labels (at_node p.begin st) (out-Statement s)) (sym spans)
    ∙ ap (λ l. start_open labels (at_node span.begin st) l) (sym is) ∙ statement_row labels (at_node span.begin st) n ∙ ap (λ m. statement_started n labels m) (sym moved) in
    subst (λ next. Steps seen r after next) (sym law) h
