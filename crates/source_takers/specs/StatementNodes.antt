-- The layer of a statement that is taken apart.
use Rattle.es6_ast.specs.Spans.{Open}
use Rattle.es6_ast.specs.declared.tree.Argument.TheOpen as layer
use Rattle.es6_ast.specs.declared.tree.Argument.TheOpen.{Statement-F}
use Rattle.source_takers.specs.declared.statement_nodes.SimpleNode.{SimpleNode}
use Rattle.source_takers.specs.declared.statement_nodes.SimpleNode.TheVariants as simple
use Rattle.source_takers.specs.declared.statement_nodes.LoopNode.{LoopNode}
use Rattle.source_takers.specs.declared.statement_nodes.LoopNode.TheVariants as loop
use Rattle.source_takers.specs.declared.statement_nodes.JumpNode.{JumpNode}
use Rattle.source_takers.specs.declared.statement_nodes.JumpNode.TheVariants as jump
use Rattle.source_takers.specs.declared.statement_nodes.StatementNode.{StatementNode}
use Rattle.source_takers.specs.declared.statement_nodes.StatementNode.TheVariants as node

abbrev pub simple_statement_layer : SimpleNode → Open Statement-F
simple_statement_layer (simple.Block a) = layer.Block a
simple_statement_layer (simple.Variables a b c) = layer.Variables a b c
simple_statement_layer (simple.Empty a) = layer.Empty a
simple_statement_layer (simple.Expression a b) = layer.Expression a b
simple_statement_layer (simple.If a b c d) = layer.If a b c d
simple_statement_layer (simple.Debugger a) = layer.Debugger a
simple_statement_layer (simple.FunctionDeclaration a) = layer.FunctionDeclaration a
simple_statement_layer (simple.ClassDeclaration a) = layer.ClassDeclaration a

abbrev pub loop_statement_layer : LoopNode → Open Statement-F
loop_statement_layer (loop.DoWhile a b c) = layer.DoWhile a b c
loop_statement_layer (loop.While a b c) = layer.While a b c
loop_statement_layer (loop.For a b c d e) = layer.For a b c d e
loop_statement_layer (loop.ForOf a b c d) = layer.ForOf a b c d

abbrev pub jump_statement_layer : JumpNode → Open Statement-F
jump_statement_layer (jump.Continue a b) = layer.Continue a b
jump_statement_layer (jump.Break a b) = layer.Break a b
jump_statement_layer (jump.Return a b) = layer.Return a b
jump_statement_layer (jump.Switch a b c) = layer.Switch a b c
jump_statement_layer (jump.Labelled a b c) = layer.Labelled a b c
jump_statement_layer (jump.Throw a b) = layer.Throw a b
jump_statement_layer (jump.Try a b c d) = layer.Try a b c d

abbrev pub statement_layer : StatementNode → Open Statement-F
statement_layer (node.Simple n) = simple_statement_layer n
statement_layer (node.Loop n) = loop_statement_layer n
statement_layer (node.Jump n) = jump_statement_layer n
