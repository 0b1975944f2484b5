-- What statements of some kinds become. Nothing is made of one of another kind.
use Rattle.std.specs.Prelude.{true, false, List, []}
use Rattle.std.specs.Option.{option_map}
use Rattle.es6_ast.specs.declared.tree.Argument.{Argument}
use Rattle.es6_ast.specs.declared.tree.ArrayPart.{ArrayPart}
use Rattle.es6_ast.specs.declared.tree.ArrowBody.{ArrowBody}
use Rattle.es6_ast.specs.declared.tree.Element.{Element}
use Rattle.es6_ast.specs.declared.tree.Expression.{Expression}
use Rattle.es6_ast.specs.declared.tree.ForFirst.{ForFirst}
use Rattle.es6_ast.specs.declared.tree.ForTarget.{ForTarget}
use Rattle.es6_ast.specs.declared.tree.Key.{Key}
use Rattle.es6_ast.specs.declared.tree.Link.{Link}
use Rattle.es6_ast.specs.declared.tree.ObjectPart.{ObjectPart}
use Rattle.es6_ast.specs.declared.tree.Parameter.{Parameter}
use Rattle.es6_ast.specs.declared.tree.Pattern.{Pattern}
use Rattle.es6_ast.specs.declared.tree.Property.{Property}
use Rattle.es6_ast.specs.declared.tree.Statement.{Statement, out-Statement}
use Rattle.es6_ast.specs.declared.tree.Arrow.{Arrow}
use Rattle.es6_ast.specs.declared.tree.Block.{Block}
use Rattle.es6_ast.specs.declared.tree.Case.{Case}
use Rattle.es6_ast.specs.declared.tree.Catch.{Catch}
use Rattle.es6_ast.specs.declared.tree.Class.{Class}
use Rattle.es6_ast.specs.declared.tree.ClassMember.{ClassMember}
use Rattle.es6_ast.specs.declared.tree.Condition.{Condition}
use Rattle.es6_ast.specs.declared.tree.Function.{Function}
use Rattle.es6_ast.specs.declared.tree.Method.{Method}
use Rattle.es6_ast.specs.declared.tree.Operand.{Operand}
use Rattle.es6_ast.specs.declared.tree.Part.{Part}
use Rattle.es6_ast.specs.declared.tree.Template.{Template}
use Rattle.es6_ast.specs.declared.tree.TemplatePart.{TemplatePart}
use Rattle.es6_ast.specs.declared.tree.Argument.TheOpen as layer
use Rattle.es6_ast.specs.declared.tree.Argument.TheOpen.{Statement-F}
use Rattle.core_ast.specs.declared.tree.CoreStat.{CoreStat}
use Rattle.core_ast.specs.declared.tree.CoreStat.TheVariants as stat
use Rattle.module_lowering.specs.Expressions.{valued}
use Rattle.module_lowering.specs.Lowered.{expression_lowered}
use Rattle.module_lowering.specs.Lowering.{Lowering, asks, pure}
use Rattle.module_lowering.specs.Statements.{jumps, one_of, returning}
use Rattle.lower_flow.specs.Nodes.{do_while_node, for_node, for_of_node, if_node, switch_node, try_node, while_node}

abbrev pub Open : Type 0
Open = Statement-F Argument ArrayPart ArrowBody Element Expression ForFirst ForTarget Key Link ObjectPart Parameter Pattern Property Statement Arrow Block Case Catch Class ClassMember Condition Function Method Operand Part Template TemplatePart

-- a loop, without the place that jumps in it go to
abbrev pub loop_in : Open → Lowering (List CoreStat)
loop_in (layer.DoWhile span body test) = do_while_node span.begin body test
loop_in (layer.While span test body) = while_node span.begin test body
loop_in (layer.For span first test update body) = for_node span.begin first test update body
loop_in (layer.ForOf span target subject body) = for_of_node span.begin target subject body
loop_in _ = pure []

-- what chooses between statements
abbrev pub branch_in : Open → Lowering (List CoreStat)
branch_in (layer.If span first more otherwise) = if_node first more otherwise
branch_in (layer.Switch span subject cs) = switch_node span.begin subject cs
branch_in (layer.Try span tried caught last) = try_node tried caught last
branch_in _ = pure []

-- what leaves a statement
abbrev pub leave_in : Open → Lowering (List CoreStat)
leave_in (layer.Continue span label) = asks (λ b c. jumps true (option_map (λ x. x.name) label) c.targets)
leave_in (layer.Break span label) = asks (λ b c. jumps false (option_map (λ x. x.name) label) c.targets)
leave_in (layer.Return span x) = returning (option_map expression_lowered x)
leave_in (layer.Throw span x) = one_of stat.Throw (valued (expression_lowered x))
leave_in _ = pure []

abbrev pub looped : Statement → Lowering (List CoreStat)
looped s = loop_in (out-Statement s)

abbrev pub branched : Statement → Lowering (List CoreStat)
branched s = branch_in (out-Statement s)

abbrev pub left : Statement → Lowering (List CoreStat)
left s = leave_in (out-Statement s)
