-- Where nodes stand: from the first token to the last one.
use Rattle.es_text.specs.declared.Span.{Span}
use Rattle.es6_ast.specs.declared.tree.Argument.{Argument}
use Rattle.es6_ast.specs.declared.tree.ArrayPart.{ArrayPart}
use Rattle.es6_ast.specs.declared.tree.ArrowBody.{ArrowBody}
use Rattle.es6_ast.specs.declared.tree.Element.{Element}
use Rattle.es6_ast.specs.declared.tree.Expression.{Expression, out-Expression}
use Rattle.es6_ast.specs.declared.tree.ForFirst.{ForFirst}
use Rattle.es6_ast.specs.declared.tree.ForTarget.{ForTarget}
use Rattle.es6_ast.specs.declared.tree.Key.{Key}
use Rattle.es6_ast.specs.declared.tree.Link.{Link}
use Rattle.es6_ast.specs.declared.tree.ObjectPart.{ObjectPart}
use Rattle.es6_ast.specs.declared.tree.Parameter.{Parameter}
use Rattle.es6_ast.specs.declared.tree.Pattern.{Pattern, out-Pattern}
use Rattle.es6_ast.specs.declared.tree.Property.{Property}
use Rattle.es6_ast.specs.declared.tree.Statement.{Statement, out-Statement}
use Rattle.es6_ast.specs.declared.tree.Arrow.{Arrow}
use Rattle.es6_ast.specs.declared.tree.Block.{Block, out-Block}
use Rattle.es6_ast.specs.declared.tree.Case.{Case}
use Rattle.es6_ast.specs.declared.tree.Catch.{Catch}
use Rattle.es6_ast.specs.declared.tree.Class.{Class, out-Class}
use Rattle.es6_ast.specs.declared.tree.ClassMember.{ClassMember}
use Rattle.es6_ast.specs.declared.tree.Condition.{Condition}
use Rattle.es6_ast.specs.declared.tree.Function.{Function}
use Rattle.es6_ast.specs.declared.tree.Method.{Method}
use Rattle.es6_ast.specs.declared.tree.Operand.{Operand}
use Rattle.es6_ast.specs.declared.tree.Part.{Part}
use Rattle.es6_ast.specs.declared.tree.Template.{Template, out-Template}
use Rattle.es6_ast.specs.declared.tree.TemplatePart.{TemplatePart}
use Rattle.es6_ast.specs.declared.tree.Argument.TheOpen as layer
use Rattle.es6_ast.specs.declared.tree.Argument.TheOpen.{Expression-F, Pattern-F, Statement-F}

-- one layer of a tree, with the trees below it
abbrev pub Open : (Type 0 → Type 0 → Type 0 → Type 0 → Type 0 → Type 0 → Type 0 → Type 0 → Type 0 → Type 0 → Type 0 → Type 0 → Type 0 → Type 0 → Type 0 → Type 0 → Type 0 → Type 0 → Type 0 → Type 0 → Type 0 → Type 0 → Type 0 → Type 0 → Type 0 → Type 0 → Type 0 → Type 0) → Type 0
Open Of = Of Argument ArrayPart ArrowBody Element Expression ForFirst ForTarget Key Link ObjectPart Parameter Pattern Property Statement Arrow Block Case Catch Class ClassMember Condition Function Method Operand Part Template TemplatePart

abbrev pub span_in : Open Expression-F → Span
span_in (layer.This span) = span
span_in (layer.Name span name) = span
span_in (layer.Literal span value) = span
span_in (layer.Template m) = (out-Template m).span
span_in (layer.ArrayList span elements comma) = span
span_in (layer.ObjectList span properties) = span
span_in (layer.Function g) = g.span
span_in (layer.Arrow a) = a.span
span_in (layer.Class c) = (out-Class c).span
span_in (layer.Chain span head links) = span
span_in (layer.SuperMember span name) = span
span_in (layer.SuperIndex span index) = span
span_in (layer.SuperCall span arguments) = span
span_in (layer.NewTarget span) = span
span_in (layer.New span callee arguments) = span
span_in (layer.Update span operator target) = span
span_in (layer.Unary span operator operand) = span
span_in (layer.Power span base exponent) = span
span_in (layer.Binary span first rest) = span
span_in (layer.Conditional span test yes_ no_) = span
span_in (layer.Assign span operator target value) = span
span_in (layer.Sequence span first rest) = span
span_in (layer.Yield span value) = span
span_in (layer.Delegate span value) = span
span_in (layer.Group span held) = span
span_in (layer.Cover span held rest) = span

abbrev pub span_of : Expression → Span
span_of x = span_in (out-Expression x)

abbrev pub statement_span_in : Open Statement-F → Span
statement_span_in (layer.Block b) = (out-Block b).span
statement_span_in (layer.Variables span kind parts) = span
statement_span_in (layer.Empty span) = span
statement_span_in (layer.Expression span x) = span
statement_span_in (layer.If span first more otherwise) = span
statement_span_in (layer.DoWhile span body test) = span
statement_span_in (layer.While span test body) = span
statement_span_in (layer.For span first test update body) = span
statement_span_in (layer.ForOf span target subject body) = span
statement_span_in (layer.Continue span label) = span
statement_span_in (layer.Break span label) = span
statement_span_in (layer.Return span value) = span
statement_span_in (layer.Switch span subject cases) = span
statement_span_in (layer.Labelled span label body) = span
statement_span_in (layer.Throw span value) = span
statement_span_in (layer.Try span block catch finally) = span
statement_span_in (layer.Debugger span) = span
statement_span_in (layer.FunctionDeclaration g) = g.span
statement_span_in (layer.ClassDeclaration c) = (out-Class c).span

abbrev pub statement_span : Statement → Span
statement_span x = statement_span_in (out-Statement x)

-- a target by itself stands where its expression does
abbrev pub pattern_span_in : Open Pattern-F → Span
pattern_span_in (layer.Target x) = span_of x
pattern_span_in (layer.ArrayPattern span parts) = span
pattern_span_in (layer.ObjectPattern span parts) = span

abbrev pub pattern_span : Pattern → Span
pattern_span p = pattern_span_in (out-Pattern p)
