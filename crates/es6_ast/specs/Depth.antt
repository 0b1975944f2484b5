-- How many constructs are open at a token: those that a reader keeps on its stack, of which it allows 256.
use Rattle.std.specs.Prelude.{ℕ, ◌+◌, ◌-◌, Bool, ◌&&◌, nat_lt, nat_le, List, [], ◌∷◌, ◌++◌, cond, Option, Some, None, count_by}
use Rattle.es_text.specs.declared.Span.{Span}
use Rattle.es6_lexer.specs.declared.token.Token.{Token}
use Rattle.es6_lexer.specs.declared.token.TokenKind.{TokenKind}
use Rattle.es6_lexer.specs.declared.token.TokenKind.TheVariants as kind
use Rattle.es6_lexer.specs.declared.token.Punctuator.TheVariants.{LeftBrace, RightBrace, LeftParenthesis, RightParenthesis, LeftBracket, RightBracket}
use Rattle.es6_ast.specs.declared.operators.UpdateOperator.{UpdateOperator}
use Rattle.es6_ast.specs.declared.operators.UpdateOperator.TheVariants.{IncrementBefore, DecrementBefore, IncrementAfter, DecrementAfter}
use Rattle.es6_ast.specs.declared.tree.Expression.{Expression, fold-Expression}
use Rattle.es6_ast.specs.declared.tree.Statement.{Statement, fold-Statement}
use Rattle.es6_ast.specs.declared.tree.Function.{Function, fold-Function}
use Rattle.es6_ast.specs.declared.tree.Class.{Class, fold-Class}
use Rattle.es6_ast.specs.declared.tree.Argument.TheOpen as layer
use Rattle.es6_ast.specs.declared.tree.Argument.TheOpen.{Argument-F, ArrayPart-F, ArrowBody-F, Element-F, Expression-F, ForFirst-F, ForTarget-F, Key-F, Link-F, ObjectPart-F, Parameter-F, Pattern-F, Property-F, Statement-F, Arrow-F, Block-F, Case-F, Catch-F, Class-F, ClassMember-F, Condition-F, Function-F, Method-F, Operand-F, Part-F, Template-F, TemplatePart-F}
use Rattle.es6_ast.specs.declared.module.Module.{Module}
use Rattle.es6_ast.specs.declared.module.Item.{Item}
use Rattle.es6_ast.specs.declared.module.Item.TheVariants as item
use Rattle.es6_ast.specs.declared.module.DefaultExport.{DefaultExport}
use Rattle.es6_ast.specs.declared.module.DefaultExport.TheVariants.{DefaultFunction, DefaultClass, DefaultValue}

-- groups in `( )`, `[ ]`, `{ }` and `${ }`, each from its first token to its last one
abbrev pub opens_group : TokenKind → ℕ
opens_group (kind.Punctuator LeftParenthesis) = 1
opens_group (kind.Punctuator LeftBracket) = 1
opens_group (kind.Punctuator LeftBrace) = 1
opens_group (kind.Template cooked raw first last) = cond first (cond last 0 1) 0
opens_group _ = 0

abbrev pub closes_group : TokenKind → ℕ
closes_group (kind.Punctuator RightParenthesis) = 1
closes_group (kind.Punctuator RightBracket) = 1
closes_group (kind.Punctuator RightBrace) = 1
closes_group (kind.Template cooked raw first last) = cond first 0 (cond last 1 0)
closes_group _ = 0

-- the groups that are open at the last of these tokens, after others in which so many are
abbrev pub open_groups : ℕ → List Token → ℕ
open_groups open_ [] = open_
open_groups open_ (t ∷ []) = open_ + opens_group t.kind
open_groups open_ (t ∷ u ∷ ts) = open_groups (open_ + opens_group t.kind - closes_group t.kind) (u ∷ ts)

-- The other constructs are parts of a tree: the statement under an `if`, a loop, a label, or an `else` that no `if` follows;
-- the operand of a prefix operator, `new` or `yield`; what follows an assignment operator or the `=` of an initializer or a
-- default; each branch of `? :`; an arrow's body; a class heritage; and the right side of `**`. An expression, a statement
-- and an arrow's body give their spans and the spans of these parts in them, any other node the latter.
pub record Spanned : Type 0 where
  pub span : Span
  pub inner : List Span

abbrev pub spanned : Span → List Span → Spanned
spanned span inner = record { span = span; inner = inner }

abbrev pub counted : Spanned → List Span
counted x = x.span ∷ x.inner

abbrev pub maybe : {A : Type 0} → (A → List Span) → Option A → List Span
maybe f None = []
maybe f (Some x) = f x

abbrev pub joined : {A : Type 0} → (A → List Span) → List A → List Span
joined f [] = []
joined f (x ∷ xs) = f x ++ joined f xs

abbrev pub all_of : List (List Span) → List Span
all_of xs = joined (λ x. x) xs

-- a prefix operator's operand counts
abbrev pub updated : UpdateOperator → Spanned → List Span
updated IncrementBefore x = counted x
updated DecrementBefore x = counted x
updated IncrementAfter x = x.inner
updated DecrementAfter x = x.inner

abbrev pub Layer : (Type 0 → Type 0 → Type 0 → Type 0 → Type 0 → Type 0 → Type 0 → Type 0 → Type 0 → Type 0 → Type 0 → Type 0 → Type 0 → Type 0 → Type 0 → Type 0 → Type 0 → Type 0 → Type 0 → Type 0 → Type 0 → Type 0 → Type 0 → Type 0 → Type 0 → Type 0 → Type 0 → Type 0) → Type 0
Layer Of = Of (List Span) (List Span) Spanned (List Span) Spanned (List Span) (List Span) (List Span) (List Span) (List Span) (List Span) (List Span) (List Span) Spanned Spanned Spanned (List Span) (List Span) Spanned (List Span) (List Span) Spanned (List Span) (List Span) (List Span) Spanned (List Span)

abbrev pub argument_step : Layer Argument-F → List Span
argument_step (layer.Single x) = x.inner
argument_step (layer.Spread span x) = x.inner

abbrev pub array_part_step : Layer ArrayPart-F → List Span
array_part_step layer.SkippedPart = []
array_part_step (layer.SinglePart x) = x
array_part_step (layer.RestPart span x) = x

abbrev pub arrow_body_step : Layer ArrowBody-F → Spanned
arrow_body_step (layer.ValueBody x) = x
arrow_body_step (layer.BlockBody x) = x

abbrev pub element_step : Layer Element-F → List Span
element_step layer.Hole = []
element_step (layer.Present x) = x

abbrev pub expression_step : Layer Expression-F → Spanned
expression_step (layer.This span) = spanned span []
expression_step (layer.Name span name) = spanned span []
expression_step (layer.Literal span value) = spanned span []
expression_step (layer.Template x) = x
expression_step (layer.ArrayList span elements comma) = spanned span (all_of elements)
expression_step (layer.ObjectList span properties) = spanned span (all_of properties)
expression_step (layer.Function x) = x
expression_step (layer.Arrow x) = x
expression_step (layer.Class x) = x
expression_step (layer.Chain span head links) = spanned span (head.inner ++ all_of links)
expression_step (layer.SuperMember span name) = spanned span []
expression_step (layer.SuperIndex span index) = spanned span index.inner
expression_step (layer.SuperCall span arguments) = spanned span (all_of arguments)
expression_step (layer.NewTarget span) = spanned span []
expression_step (layer.New span callee arguments) = spanned span (counted callee ++ all_of arguments)
expression_step (layer.Update span operator target) = spanned span (updated operator target)
expression_step (layer.Unary span operator operand) = spanned span (counted operand)
expression_step (layer.Power span base exponent) = spanned span (base.inner ++ counted exponent)
expression_step (layer.Binary span first rest) = spanned span (first.inner ++ all_of rest)
expression_step (layer.Conditional span test yes_ no_) = spanned span (test.inner ++ counted yes_ ++ counted no_)
expression_step (layer.Assign span operator target value) = spanned span (target ++ counted value)
expression_step (layer.Sequence span first rest) = spanned span (first.inner ++ joined (λ x. x.inner) rest)
expression_step (layer.Yield span value) = spanned span (maybe counted value)
expression_step (layer.Delegate span value) = spanned span (counted value)
expression_step (layer.Group span held) = spanned span held.inner
expression_step (layer.Cover span held rest) = spanned span (maybe (λ x. x.inner) held)

abbrev pub for_first_step : Layer ForFirst-F → List Span
for_first_step layer.NoFirst = []
for_first_step (layer.FirstVariables span kind parts) = all_of parts
for_first_step (layer.FirstExpression x) = x.inner

abbrev pub for_target_step : Layer ForTarget-F → List Span
for_target_step (layer.Declared span kind x) = x
for_target_step (layer.Assigned x) = x

abbrev pub key_step : Layer Key-F → List Span
key_step (layer.WordKey span name) = []
key_step (layer.TextKey span units) = []
key_step (layer.IntegerKey span value) = []
key_step (layer.ComputedKey span x) = x.inner

abbrev pub link_step : Layer Link-F → List Span
link_step (layer.Member span name) = []
link_step (layer.Index span x) = x.inner
link_step (layer.Call span arguments) = all_of arguments
link_step (layer.Tagged x) = x.inner

abbrev pub object_part_step : Layer ObjectPart-F → List Span
object_part_step (layer.NamedPart x) = x
object_part_step (layer.KeyedPart span key x) = key ++ x

abbrev pub parameter_step : Layer Parameter-F → List Span
parameter_step (layer.SingleParameter x) = x
parameter_step (layer.RestParameter span x) = x

abbrev pub pattern_step : Layer Pattern-F → List Span
pattern_step (layer.Target x) = x.inner
pattern_step (layer.ArrayPattern span parts) = all_of parts
pattern_step (layer.ObjectPattern span parts) = all_of parts

abbrev pub property_step : Layer Property-F → List Span
property_step (layer.Plain span key x) = key ++ x.inner
property_step (layer.Shorthand span name) = []
property_step (layer.Initialized span name equals x) = counted x
property_step (layer.Defined x) = x

abbrev pub statement_step : Layer Statement-F → Spanned
statement_step (layer.Block x) = x
statement_step (layer.Variables span kind parts) = spanned span (all_of parts)
statement_step (layer.Empty span) = spanned span []
statement_step (layer.Expression span x) = spanned span x.inner
statement_step (layer.If span first more otherwise) = spanned span (first ++ all_of more ++ maybe counted otherwise)
statement_step (layer.DoWhile span body test) = spanned span (counted body ++ test.inner)
statement_step (layer.While span test body) = spanned span (test.inner ++ counted body)
statement_step (layer.For span first test update body) = spanned span (first ++ maybe (λ x. x.inner) test ++ maybe (λ x. x.inner) update ++ counted body)
statement_step (layer.ForOf span target subject body) = spanned span (target ++ subject.inner ++ counted body)
statement_step (layer.Continue span label) = spanned span []
statement_step (layer.Break span label) = spanned span []
statement_step (layer.Return span value) = spanned span (maybe (λ x. x.inner) value)
statement_step (layer.Switch span subject cases) = spanned span (subject.inner ++ all_of cases)
statement_step (layer.Labelled span label body) = spanned span (counted body)
statement_step (layer.Throw span x) = spanned span x.inner
statement_step (layer.Try span block handler last) = spanned span (block.inner ++ maybe (λ x. x) handler ++ maybe (λ x. x.inner) last)
statement_step (layer.Debugger span) = spanned span []
statement_step (layer.FunctionDeclaration x) = x
statement_step (layer.ClassDeclaration x) = x

abbrev pub arrow_step : Layer Arrow-F → Spanned
arrow_step x = spanned x.span (all_of x.parameters ++ counted x.body)

abbrev pub block_step : Layer Block-F → Spanned
block_step x = spanned x.span (joined (λ s. s.inner) x.statements)

abbrev pub case_step : Layer Case-F → List Span
case_step x = maybe (λ y. y.inner) x.test ++ joined (λ s. s.inner) x.body

abbrev pub catch_step : Layer Catch-F → List Span
catch_step x = x.parameter ++ x.body.inner

abbrev pub class_step : Layer Class-F → Spanned
class_step x = spanned x.span (maybe counted x.heritage ++ all_of x.members)

abbrev pub class_member_step : Layer ClassMember-F → List Span
class_member_step x = x.method

abbrev pub condition_step : Layer Condition-F → List Span
condition_step x = x.test.inner ++ counted x.body

abbrev pub function_step : Layer Function-F → Spanned
function_step x = spanned x.span (all_of x.parameters ++ joined (λ s. s.inner) x.body)

abbrev pub method_step : Layer Method-F → List Span
method_step x = x.key ++ x.function.inner

abbrev pub operand_step : Layer Operand-F → List Span
operand_step x = x.value.inner

abbrev pub part_step : Layer Part-F → List Span
part_step x = x.pattern ++ maybe counted x.default

abbrev pub template_step : Layer Template-F → Spanned
template_step x = spanned x.span (all_of x.rest)

abbrev pub template_part_step : Layer TemplatePart-F → List Span
template_part_step x = x.value.inner

abbrev pub expression_spans : Expression → List Span
expression_spans x =
    (fold-Expression (List Span) (List Span) Spanned (List Span) Spanned (List Span) (List Span) (List Span) (List Span) (List Span) (List Span) (List Span) (List Span) Spanned Spanned Spanned (List Span) (List Span) Spanned (List Span) (List Span) Spanned (List Span) (List Span) (List Span) Spanned (List Span)
    argument_step array_part_step arrow_body_step element_step expression_step for_first_step for_target_step key_step link_step object_part_step parameter_step pattern_step property_step statement_step arrow_step block_step case_step catch_step class_step class_member_step condition_step function_step method_step operand_step part_step template_step template_part_step x).inner

abbrev pub statement_spans : Statement → List Span
statement_spans x =
    (fold-Statement (List Span) (List Span) Spanned (List Span) Spanned (List Span) (List Span) (List Span) (List Span) (List Span) (List Span) (List Span) (List Span) Spanned Spanned Spanned (List Span) (List Span) Spanned (List Span) (List Span) Spanned (List Span) (List Span) (List Span) Spanned (List Span)
    argument_step array_part_step arrow_body_step element_step expression_step for_first_step for_target_step key_step link_step object_part_step parameter_step pattern_step property_step statement_step arrow_step block_step case_step catch_step class_step class_member_step condition_step function_step method_step operand_step part_step template_step template_part_step x).inner

abbrev pub function_spans : Function → List Span
function_spans x =
    (fold-Function (List Span) (List Span) Spanned (List Span) Spanned (List Span) (List Span) (List Span) (List Span) (List Span) (List Span) (List Span) (List Span) Spanned Spanned Spanned (List Span) (List Span) Spanned (List Span) (List Span) Spanned (List Span) (List Span) (List Span) Spanned (List Span)
    argument_step array_part_step arrow_body_step element_step expression_step for_first_step for_target_step key_step link_step object_part_step parameter_step pattern_step property_step statement_step arrow_step block_step case_step catch_step class_step class_member_step condition_step function_step method_step operand_step part_step template_step template_part_step x).inner

abbrev pub class_spans : Class → List Span
class_spans x =
    (fold-Class (List Span) (List Span) Spanned (List Span) Spanned (List Span) (List Span) (List Span) (List Span) (List Span) (List Span) (List Span) (List Span) Spanned Spanned Spanned (List Span) (List Span) Spanned (List Span) (List Span) Spanned (List Span) (List Span) (List Span) Spanned (List Span)
    argument_step array_part_step arrow_body_step element_step expression_step for_first_step for_target_step key_step link_step object_part_step parameter_step pattern_step property_step statement_step arrow_step block_step case_step catch_step class_step class_member_step condition_step function_step method_step operand_step part_step template_step template_part_step x).inner

abbrev pub default_spans : DefaultExport → List Span
default_spans (DefaultFunction x) = function_spans x
default_spans (DefaultClass x) = class_spans x
default_spans (DefaultValue x) = expression_spans x

abbrev pub item_spans : Item → List Span
item_spans (item.Import span default_ names from) = []
item_spans (item.ExportNames span names from) = []
item_spans (item.ExportAll span from) = []
item_spans (item.ExportDeclaration span x) = statement_spans x
item_spans (item.ExportDefault span word x) = default_spans x
item_spans (item.Statement x) = statement_spans x

abbrev pub module_spans : Module → List Span
module_spans m = joined item_spans m.items

abbrev pub is_around : ℕ → Span → Bool
is_around at span = nat_le span.begin at && nat_lt at span.end

abbrev pub begin_of_last : List Token → ℕ
begin_of_last [] = 0
begin_of_last (t ∷ []) = t.span.begin
begin_of_last (t ∷ u ∷ ts) = begin_of_last (u ∷ ts)

-- the constructs that are open at the last of the tokens, with which the module begins
abbrev pub open_constructs : List Token → Module → ℕ
open_constructs tokens m = open_groups 0 tokens + count_by (is_around (begin_of_last tokens)) (module_spans m)
