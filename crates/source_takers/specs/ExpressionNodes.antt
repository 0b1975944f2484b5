-- The layer of an expression that is taken apart.
use Rattle.es6_ast.specs.Spans.{Open}
use Rattle.es6_ast.specs.declared.tree.Argument.TheOpen as layer
use Rattle.es6_ast.specs.declared.tree.Argument.TheOpen.{Expression-F}
use Rattle.source_takers.specs.declared.expression_nodes.PrimaryNode.{PrimaryNode}
use Rattle.source_takers.specs.declared.expression_nodes.PrimaryNode.TheVariants as primary
use Rattle.source_takers.specs.declared.expression_nodes.ClosureNode.{ClosureNode}
use Rattle.source_takers.specs.declared.expression_nodes.ClosureNode.TheVariants as closure
use Rattle.source_takers.specs.declared.expression_nodes.AccessNode.{AccessNode}
use Rattle.source_takers.specs.declared.expression_nodes.AccessNode.TheVariants as access
use Rattle.source_takers.specs.declared.expression_nodes.OperatorNode.{OperatorNode}
use Rattle.source_takers.specs.declared.expression_nodes.OperatorNode.TheVariants as operator
use Rattle.source_takers.specs.declared.expression_nodes.OtherNode.{OtherNode}
use Rattle.source_takers.specs.declared.expression_nodes.OtherNode.TheVariants as other
use Rattle.source_takers.specs.declared.expression_nodes.ExpressionNode.{ExpressionNode}
use Rattle.source_takers.specs.declared.expression_nodes.ExpressionNode.TheVariants as node

abbrev pub primary_expression_layer : PrimaryNode → Open Expression-F
primary_expression_layer (primary.This a) = layer.This a
primary_expression_layer (primary.Name a b) = layer.Name a b
primary_expression_layer (primary.Literal a b) = layer.Literal a b
primary_expression_layer (primary.Template a) = layer.Template a
primary_expression_layer (primary.ArrayList a b c) = layer.ArrayList a b c
primary_expression_layer (primary.ObjectList a b) = layer.ObjectList a b
primary_expression_layer (primary.NewTarget a) = layer.NewTarget a

abbrev pub closure_expression_layer : ClosureNode → Open Expression-F
closure_expression_layer (closure.Function a) = layer.Function a
closure_expression_layer (closure.Arrow a) = layer.Arrow a
closure_expression_layer (closure.Class a) = layer.Class a

abbrev pub access_expression_layer : AccessNode → Open Expression-F
access_expression_layer (access.Chain a b c) = layer.Chain a b c
access_expression_layer (access.SuperMember a b) = layer.SuperMember a b
access_expression_layer (access.SuperIndex a b) = layer.SuperIndex a b
access_expression_layer (access.SuperCall a b) = layer.SuperCall a b
access_expression_layer (access.New a b c) = layer.New a b c

abbrev pub operator_expression_layer : OperatorNode → Open Expression-F
operator_expression_layer (operator.Update a b c) = layer.Update a b c
operator_expression_layer (operator.Unary a b c) = layer.Unary a b c
operator_expression_layer (operator.Power a b c) = layer.Power a b c
operator_expression_layer (operator.Binary a b c) = layer.Binary a b c
operator_expression_layer (operator.Conditional a b c d) = layer.Conditional a b c d
operator_expression_layer (operator.Sequence a b c) = layer.Sequence a b c

abbrev pub other_expression_layer : OtherNode → Open Expression-F
other_expression_layer (other.Assign a b c d) = layer.Assign a b c d
other_expression_layer (other.Yield a b) = layer.Yield a b
other_expression_layer (other.Delegate a b) = layer.Delegate a b
other_expression_layer (other.Group a b) = layer.Group a b
other_expression_layer (other.Cover a b c) = layer.Cover a b c

abbrev pub expression_layer : ExpressionNode → Open Expression-F
expression_layer (node.Primary n) = primary_expression_layer n
expression_layer (node.Closure n) = closure_expression_layer n
expression_layer (node.Access n) = access_expression_layer n
expression_layer (node.Operator n) = operator_expression_layer n
expression_layer (node.Other n) = other_expression_layer n
