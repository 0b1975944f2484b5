-- The marks of the parts of a loop.
use Rattle.std.specs.Option.{option_map}
use Rattle.std.specs.Prelude.{List, [], ◌++◌}
use Rattle.es6_ast.specs.declared.tree.Argument.{Argument}
use Rattle.es6_ast.specs.declared.tree.ArrayPart.{ArrayPart}
use Rattle.es6_ast.specs.declared.tree.ArrowBody.{ArrowBody}
use Rattle.es6_ast.specs.declared.tree.Element.{Element}
use Rattle.es6_ast.specs.declared.tree.Expression.{Expression}
use Rattle.es6_ast.specs.declared.tree.ForFirst.{ForFirst}
use Rattle.es6_ast.specs.declared.tree.ForTarget.{ForTarget}
use Rattle.es6_ast.specs.declared.tree.Key.{Key}
use Rattle.es6_ast.specs.declared.tree.Link.{Link}
use Rattle.es6_ast.specs.declared.tree.ObjectPart.{ObjectPart}
use Rattle.es6_ast.specs.declared.tree.Parameter.{Parameter}
use Rattle.es6_ast.specs.declared.tree.Pattern.{Pattern}
use Rattle.es6_ast.specs.declared.tree.Property.{Property}
use Rattle.es6_ast.specs.declared.tree.Statement.{Statement, out-Statement}
use Rattle.es6_ast.specs.declared.tree.Arrow.{Arrow}
use Rattle.es6_ast.specs.declared.tree.Block.{Block}
use Rattle.es6_ast.specs.declared.tree.Case.{Case}
use Rattle.es6_ast.specs.declared.tree.Catch.{Catch}
use Rattle.es6_ast.specs.declared.tree.Class.{Class}
use Rattle.es6_ast.specs.declared.tree.ClassMember.{ClassMember}
use Rattle.es6_ast.specs.declared.tree.Condition.{Condition}
use Rattle.es6_ast.specs.declared.tree.Function.{Function}
use Rattle.es6_ast.specs.declared.tree.Method.{Method}
use Rattle.es6_ast.specs.declared.tree.Operand.{Operand}
use Rattle.es6_ast.specs.declared.tree.Part.{Part}
use Rattle.es6_ast.specs.declared.tree.Template.{Template}
use Rattle.es6_ast.specs.declared.tree.TemplatePart.{TemplatePart}
use Rattle.es6_ast.specs.declared.tree.Argument.TheOpen as layer
use Rattle.es6_ast.specs.declared.tree.Argument.TheOpen.{Statement-F}
use Rattle.es6_static_semantics.specs.Findings.{maybe}
use Rattle.scope_rules.specs.Marks.{expression_marked, for_first_marked, for_target_marked, in_head, in_scope, statement_marked}
use Rattle.scope_rules.specs.declared.kinds.ScopeKind.TheVariants as scope
use Rattle.scope_rules.specs.declared.mark.Mark.{Mark}

abbrev pub Open : Type 0
Open = Statement-F Argument ArrayPart ArrowBody Element Expression ForFirst ForTarget Key Link ObjectPart Parameter Pattern Property Statement Arrow Block Case Catch Class ClassMember Condition Function Method Operand Part Template TemplatePart

-- what stands in the scope of a loop's head
abbrev pub headed_in : Open → List Mark
headed_in (layer.For span first test update body) = for_first_marked first ++ maybe (λ x. x.marks) (option_map expression_marked test) ++ maybe (λ x. x.marks) (option_map expression_marked update) ++ statement_marked body
headed_in (layer.ForOf span target subject body) = for_target_marked target ++ in_head (expression_marked subject).marks ++ statement_marked body
headed_in _ = []

-- what stands in a loop
abbrev pub looped_in : Open → List Mark
looped_in (layer.DoWhile span body test) = statement_marked body ++ (expression_marked test).marks
looped_in (layer.While span test body) = (expression_marked test).marks ++ statement_marked body
looped_in (layer.For span first test update body) = in_scope scope.Block span.begin (headed_in (layer.For span first test update body))
looped_in (layer.ForOf span target subject body) = in_scope scope.Block span.begin (headed_in (layer.ForOf span target subject body))
looped_in _ = []

abbrev pub headed_parts : Statement → List Mark
headed_parts s = headed_in (out-Statement s)

abbrev pub looped_parts : Statement → List Mark
looped_parts s = looped_in (out-Statement s)
