-- How many spans of constructs in expressions and their parts lie round a place, as sums over what they are made of.
use Rattle.std.proofs.Common.{◌≡◌, ◌∙◌, ℕ, ◌+◌, ℤ, ◌≤◌, Bool, false, List, [], ◌++◌, map, Option, Some, None, ap, sym, refl, arith}
use Rattle.es_text.specs.declared.Span.{Span}
use Rattle.es6_ast.specs.declared.operators.UpdateOperator.{UpdateOperator}
use Rattle.es6_ast.specs.declared.operators.UpdateOperator.TheVariants.{IncrementBefore, DecrementBefore, IncrementAfter, DecrementAfter}
use Rattle.es6_ast.specs.Grammar.{is_before}
use Rattle.es6_ast.specs.declared.operators.AssignOperator.{AssignOperator}
use Rattle.es6_ast.specs.declared.operators.BinaryOperator.{BinaryOperator}
use Rattle.es6_ast.specs.declared.operators.Literal.{Literal}
use Rattle.es6_ast.specs.declared.operators.MethodKind.{MethodKind}
use Rattle.es6_ast.specs.declared.operators.UnaryOperator.{UnaryOperator}
use Rattle.es6_ast.specs.declared.tree.Identifier.{Identifier}
use Rattle.es6_ast.specs.declared.tree.Rest.{Rest}
use Rattle.es6_ast.specs.declared.tree.Stretch.{Stretch}
use Rattle.es6_ast.specs.declared.tree.Argument.{Argument}
use Rattle.es6_ast.specs.declared.tree.Argument.TheVariants as argument
use Rattle.es6_ast.specs.declared.tree.ArrayPart.{ArrayPart}
use Rattle.es6_ast.specs.declared.tree.ArrayPart.TheVariants as array_part
use Rattle.es6_ast.specs.declared.tree.ArrowBody.{ArrowBody}
use Rattle.es6_ast.specs.declared.tree.ArrowBody.TheVariants as arrow_body
use Rattle.es6_ast.specs.declared.tree.Element.{Element}
use Rattle.es6_ast.specs.declared.tree.Element.TheVariants as element
use Rattle.es6_ast.specs.declared.tree.Expression.{Expression}
use Rattle.es6_ast.specs.declared.tree.Expression.TheVariants as expr
use Rattle.es6_ast.specs.declared.tree.Key.{Key}
use Rattle.es6_ast.specs.declared.tree.Key.TheVariants as key
use Rattle.es6_ast.specs.declared.tree.Link.{Link}
use Rattle.es6_ast.specs.declared.tree.Link.TheVariants as link
use Rattle.es6_ast.specs.declared.tree.ObjectPart.{ObjectPart}
use Rattle.es6_ast.specs.declared.tree.ObjectPart.TheVariants as object_part
use Rattle.es6_ast.specs.declared.tree.Parameter.{Parameter}
use Rattle.es6_ast.specs.declared.tree.Parameter.TheVariants as parameter
use Rattle.es6_ast.specs.declared.tree.Pattern.{Pattern}
use Rattle.es6_ast.specs.declared.tree.Pattern.TheVariants as pattern
use Rattle.es6_ast.specs.declared.tree.Property.{Property}
use Rattle.es6_ast.specs.declared.tree.Property.TheVariants as property
use Rattle.es6_ast.specs.declared.tree.Statement.{Statement}
use Rattle.es6_ast.specs.declared.tree.Arrow.{Arrow, roll-Arrow}
use Rattle.es6_ast.specs.declared.tree.Block.{Block}
use Rattle.es6_ast.specs.declared.tree.Class.{Class, roll-Class}
use Rattle.es6_ast.specs.declared.tree.ClassMember.{ClassMember, roll-ClassMember}
use Rattle.es6_ast.specs.declared.tree.Function.{Function, roll-Function}
use Rattle.es6_ast.specs.declared.tree.Method.{Method, roll-Method}
use Rattle.es6_ast.specs.declared.tree.Operand.{Operand, roll-Operand}
use Rattle.es6_ast.specs.declared.tree.Part.{Part, roll-Part}
use Rattle.es6_ast.specs.declared.tree.Template.{Template, roll-Template}
use Rattle.es6_ast.specs.declared.tree.TemplatePart.{TemplatePart, roll-TemplatePart}
use Rattle.es6_ast.specs.declared.tree.Argument.TheOpen as layer
use Rattle.es6_ast.specs.Depth.{spanned, counted, maybe, joined, all_of, updated}
use Rattle.es6_reading.proofs.SpanCounts.{around, spans_argument, spans_array_part, spans_arrow_body, spans_element, spans_expression, spans_key, spans_link, spans_object_part, spans_parameter, spans_pattern, spans_property, spans_statement, spans_arrow, spans_block, spans_class, spans_class_member, spans_function, spans_method, spans_operand, spans_part, spans_template, spans_template_part, in_argument, in_array_part, in_arrow_body, with_arrow_body, in_element, in_expression, with_expression, in_key, in_link, in_object_part, in_parameter, in_pattern, in_property, in_statement, in_arrow, in_block, in_class, in_class_member, in_function, in_method, in_operand, in_part, in_template, in_template_part, sum_of, in_some, mapped, plus, all-in, joined-in, maybe-with, maybe-in}
use Rattle.es6_reading.proofs.SpanLayers.{rolled_argument, rolled_array_part, rolled_arrow_body, rolled_element, rolled_expression, rolled_key, rolled_link, rolled_object_part, rolled_parameter, rolled_pattern, rolled_property, rolled_arrow, rolled_class, rolled_class_member, rolled_function, rolled_method, rolled_operand, rolled_part, rolled_template, rolled_template_part}

single-rolled : (x : Expression) → spans_argument (argument.Single x) ≡ (spans_expression x).inner
single-rolled x = ap spans_argument (sym (argument.rolls-Single x)) ∙ rolled_argument (layer.Single x)

pub in-single : (x : Expression) (at : ℕ) → in_argument (argument.Single x) at ≡ in_expression x at
in-single x at = ap (λ z. around z at) (single-rolled x)

spread-rolled : (span : Span) (x : Expression) → spans_argument (argument.Spread span x) ≡ (spans_expression x).inner
spread-rolled span x = ap spans_argument (sym (argument.rolls-Spread span x)) ∙ rolled_argument (layer.Spread span x)

pub in-spread : (span : Span) (x : Expression) (at : ℕ) → in_argument (argument.Spread span x) at ≡ in_expression x at
in-spread span x at = ap (λ z. around z at) (spread-rolled span x)

skipped_part-rolled : spans_array_part array_part.SkippedPart ≡ []
skipped_part-rolled = ap spans_array_part (sym array_part.rolls-SkippedPart) ∙ rolled_array_part layer.SkippedPart

pub in-skipped_part : (at : ℕ) → in_array_part array_part.SkippedPart at ≡ 0
in-skipped_part at = ap (λ z. around z at) skipped_part-rolled

single_part-rolled : (x : Part) → spans_array_part (array_part.SinglePart x) ≡ spans_part x
single_part-rolled x = ap spans_array_part (sym (array_part.rolls-SinglePart x)) ∙ rolled_array_part (layer.SinglePart x)

pub in-single_part : (x : Part) (at : ℕ) → in_array_part (array_part.SinglePart x) at ≡ in_part x at
in-single_part x at = ap (λ z. around z at) (single_part-rolled x)

rest_part-rolled : (span : Span) (x : Pattern) → spans_array_part (array_part.RestPart span x) ≡ spans_pattern x
rest_part-rolled span x = ap spans_array_part (sym (array_part.rolls-RestPart span x)) ∙ rolled_array_part (layer.RestPart span x)

pub in-rest_part : (span : Span) (x : Pattern) (at : ℕ) → in_array_part (array_part.RestPart span x) at ≡ in_pattern x at
in-rest_part span x at = ap (λ z. around z at) (rest_part-rolled span x)

value_body-rolled : (x : Expression) → spans_arrow_body (arrow_body.ValueBody x) ≡ spans_expression x
value_body-rolled x = ap spans_arrow_body (sym (arrow_body.rolls-ValueBody x)) ∙ rolled_arrow_body (layer.ValueBody x)

pub in-value_body : (x : Expression) (at : ℕ) → in_arrow_body (arrow_body.ValueBody x) at ≡ in_expression x at
in-value_body x at = ap (λ z. around z.inner at) (value_body-rolled x)

pub span-value_body : (x : Expression) → (spans_arrow_body (arrow_body.ValueBody x)).span ≡ (spans_expression x).span
span-value_body x = ap (λ z. z.span) (value_body-rolled x)

block_body-rolled : (x : Block) → spans_arrow_body (arrow_body.BlockBody x) ≡ spans_block x
block_body-rolled x = ap spans_arrow_body (sym (arrow_body.rolls-BlockBody x)) ∙ rolled_arrow_body (layer.BlockBody x)

pub in-block_body : (x : Block) (at : ℕ) → in_arrow_body (arrow_body.BlockBody x) at ≡ in_block x at
in-block_body x at = ap (λ z. around z.inner at) (block_body-rolled x)

pub span-block_body : (x : Block) → (spans_arrow_body (arrow_body.BlockBody x)).span ≡ (spans_block x).span
span-block_body x = ap (λ z. z.span) (block_body-rolled x)

hole-rolled : spans_element element.Hole ≡ []
hole-rolled = ap spans_element (sym element.rolls-Hole) ∙ rolled_element layer.Hole

pub in-hole : (at : ℕ) → in_element element.Hole at ≡ 0
in-hole at = ap (λ z. around z at) hole-rolled

present-rolled : (x : Argument) → spans_element (element.Present x) ≡ spans_argument x
present-rolled x = ap spans_element (sym (element.rolls-Present x)) ∙ rolled_element (layer.Present x)

pub in-present : (x : Argument) (at : ℕ) → in_element (element.Present x) at ≡ in_argument x at
in-present x at = ap (λ z. around z at) (present-rolled x)

this-rolled : (span : Span) → spans_expression (expr.This span) ≡ spanned span []
this-rolled span = ap spans_expression (sym (expr.rolls-This span)) ∙ rolled_expression (layer.This span)

pub in-this : (span : Span) (at : ℕ) → in_expression (expr.This span) at ≡ 0
in-this span at = ap (λ z. around z.inner at) (this-rolled span)

pub span-this : (span : Span) → (spans_expression (expr.This span)).span ≡ span
span-this span = ap (λ z. z.span) (this-rolled span)

name-rolled : (span : Span) (name : List ℕ) → spans_expression (expr.Name span name) ≡ spanned span []
name-rolled span name = ap spans_expression (sym (expr.rolls-Name span name)) ∙ rolled_expression (layer.Name span name)

pub in-name : (span : Span) (name : List ℕ) (at : ℕ) → in_expression (expr.Name span name) at ≡ 0
in-name span name at = ap (λ z. around z.inner at) (name-rolled span name)

pub span-name : (span : Span) (name : List ℕ) → (spans_expression (expr.Name span name)).span ≡ span
span-name span name = ap (λ z. z.span) (name-rolled span name)

literal-rolled : (span : Span) (value : Literal) → spans_expression (expr.Literal span value) ≡ spanned span []
literal-rolled span value = ap spans_expression (sym (expr.rolls-Literal span value)) ∙ rolled_expression (layer.Literal span value)

pub in-literal : (span : Span) (value : Literal) (at : ℕ) → in_expression (expr.Literal span value) at ≡ 0
in-literal span value at = ap (λ z. around z.inner at) (literal-rolled span value)

pub span-literal : (span : Span) (value : Literal) → (spans_expression (expr.Literal span value)).span ≡ span
span-literal span value = ap (λ z. z.span) (literal-rolled span value)

template_value-rolled : (x : Template) → spans_expression (expr.Template x) ≡ spans_template x
template_value-rolled x = ap spans_expression (sym (expr.rolls-Template x)) ∙ rolled_expression (layer.Template x)

pub in-template_value : (x : Template) (at : ℕ) → in_expression (expr.Template x) at ≡ in_template x at
in-template_value x at = ap (λ z. around z.inner at) (template_value-rolled x)

pub span-template_value : (x : Template) → (spans_expression (expr.Template x)).span ≡ (spans_template x).span
span-template_value x = ap (λ z. z.span) (template_value-rolled x)

array_list-rolled : (span : Span) (elements : List Element) (comma : Bool) → spans_expression (expr.ArrayList span elements comma) ≡ spanned span (all_of (map spans_element elements))
array_list-rolled span elements comma = ap spans_expression (sym (expr.rolls-ArrayList span elements comma)) ∙ rolled_expression (layer.ArrayList span elements comma)

pub in-array_list : (span : Span) (elements : List Element) (comma : Bool) (at : ℕ) → in_expression (expr.ArrayList span elements comma) at ≡ sum_of in_element elements at
in-array_list span elements comma at = ap (λ z. around z.inner at) (array_list-rolled span elements comma) ∙ (all-in at spans_element elements)

pub span-array_list : (span : Span) (elements : List Element) (comma : Bool) → (spans_expression (expr.ArrayList span elements comma)).span ≡ span
span-array_list span elements comma = ap (λ z. z.span) (array_list-rolled span elements comma)

object_list-rolled : (span : Span) (properties : List Property) → spans_expression (expr.ObjectList span properties) ≡ spanned span (all_of (map spans_property properties))
object_list-rolled span properties = ap spans_expression (sym (expr.rolls-ObjectList span properties)) ∙ rolled_expression (layer.ObjectList span properties)

pub in-object_list : (span : Span) (properties : List Property) (at : ℕ) → in_expression (expr.ObjectList span properties) at ≡ sum_of in_property properties at
in-object_list span properties at = ap (λ z. around z.inner at) (object_list-rolled span properties) ∙ (all-in at spans_property properties)

pub span-object_list : (span : Span) (properties : List Property) → (spans_expression (expr.ObjectList span properties)).span ≡ span
span-object_list span properties = ap (λ z. z.span) (object_list-rolled span properties)

function_value-rolled : (x : Function) → spans_expression (expr.Function x) ≡ spans_function x
function_value-rolled x = ap spans_expression (sym (expr.rolls-Function x)) ∙ rolled_expression (layer.Function x)

pub in-function_value : (x : Function) (at : ℕ) → in_expression (expr.Function x) at ≡ in_function x at
in-function_value x at = ap (λ z. around z.inner at) (function_value-rolled x)

pub span-function_value : (x : Function) → (spans_expression (expr.Function x)).span ≡ (spans_function x).span
span-function_value x = ap (λ z. z.span) (function_value-rolled x)

arrow_value-rolled : (x : Arrow) → spans_expression (expr.Arrow x) ≡ spans_arrow x
arrow_value-rolled x = ap spans_expression (sym (expr.rolls-Arrow x)) ∙ rolled_expression (layer.Arrow x)

pub in-arrow_value : (x : Arrow) (at : ℕ) → in_expression (expr.Arrow x) at ≡ in_arrow x at
in-arrow_value x at = ap (λ z. around z.inner at) (arrow_value-rolled x)

pub span-arrow_value : (x : Arrow) → (spans_expression (expr.Arrow x)).span ≡ (spans_arrow x).span
span-arrow_value x = ap (λ z. z.span) (arrow_value-rolled x)

class_value-rolled : (x : Class) → spans_expression (expr.Class x) ≡ spans_class x
class_value-rolled x = ap spans_expression (sym (expr.rolls-Class x)) ∙ rolled_expression (layer.Class x)

pub in-class_value : (x : Class) (at : ℕ) → in_expression (expr.Class x) at ≡ in_class x at
in-class_value x at = ap (λ z. around z.inner at) (class_value-rolled x)

pub span-class_value : (x : Class) → (spans_expression (expr.Class x)).span ≡ (spans_class x).span
span-class_value x = ap (λ z. z.span) (class_value-rolled x)

chain-rolled : (span : Span) (x : Expression) (links : List Link) → spans_expression (expr.Chain span x links) ≡ spanned span ((spans_expression x).inner ++ all_of (map spans_link links))
chain-rolled span x links = ap spans_expression (sym (expr.rolls-Chain span x links)) ∙ rolled_expression (layer.Chain span x links)

pub in-chain : (span : Span) (x : Expression) (links : List Link) (at : ℕ) → in_expression (expr.Chain span x links) at ≡ in_expression x at + sum_of in_link links at
in-chain span x links at = ap (λ z. around z.inner at) (chain-rolled span x links) ∙ (plus at ((spans_expression x).inner) (all_of (map spans_link links)) refl (all-in at spans_link links))

pub span-chain : (span : Span) (x : Expression) (links : List Link) → (spans_expression (expr.Chain span x links)).span ≡ span
span-chain span x links = ap (λ z. z.span) (chain-rolled span x links)

super_member-rolled : (span : Span) (name : Identifier) → spans_expression (expr.SuperMember span name) ≡ spanned span []
super_member-rolled span name = ap spans_expression (sym (expr.rolls-SuperMember span name)) ∙ rolled_expression (layer.SuperMember span name)

pub in-super_member : (span : Span) (name : Identifier) (at : ℕ) → in_expression (expr.SuperMember span name) at ≡ 0
in-super_member span name at = ap (λ z. around z.inner at) (super_member-rolled span name)

pub span-super_member : (span : Span) (name : Identifier) → (spans_expression (expr.SuperMember span name)).span ≡ span
span-super_member span name = ap (λ z. z.span) (super_member-rolled span name)

super_index-rolled : (span : Span) (x : Expression) → spans_expression (expr.SuperIndex span x) ≡ spanned span ((spans_expression x).inner)
super_index-rolled span x = ap spans_expression (sym (expr.rolls-SuperIndex span x)) ∙ rolled_expression (layer.SuperIndex span x)

pub in-super_index : (span : Span) (x : Expression) (at : ℕ) → in_expression (expr.SuperIndex span x) at ≡ in_expression x at
in-super_index span x at = ap (λ z. around z.inner at) (super_index-rolled span x)

pub span-super_index : (span : Span) (x : Expression) → (spans_expression (expr.SuperIndex span x)).span ≡ span
span-super_index span x = ap (λ z. z.span) (super_index-rolled span x)

super_call-rolled : (span : Span) (arguments : List Argument) → spans_expression (expr.SuperCall span arguments) ≡ spanned span (all_of (map spans_argument arguments))
super_call-rolled span arguments = ap spans_expression (sym (expr.rolls-SuperCall span arguments)) ∙ rolled_expression (layer.SuperCall span arguments)

pub in-super_call : (span : Span) (arguments : List Argument) (at : ℕ) → in_expression (expr.SuperCall span arguments) at ≡ sum_of in_argument arguments at
in-super_call span arguments at = ap (λ z. around z.inner at) (super_call-rolled span arguments) ∙ (all-in at spans_argument arguments)

pub span-super_call : (span : Span) (arguments : List Argument) → (spans_expression (expr.SuperCall span arguments)).span ≡ span
span-super_call span arguments = ap (λ z. z.span) (super_call-rolled span arguments)

new_target-rolled : (span : Span) → spans_expression (expr.NewTarget span) ≡ spanned span []
new_target-rolled span = ap spans_expression (sym (expr.rolls-NewTarget span)) ∙ rolled_expression (layer.NewTarget span)

pub in-new_target : (span : Span) (at : ℕ) → in_expression (expr.NewTarget span) at ≡ 0
in-new_target span at = ap (λ z. around z.inner at) (new_target-rolled span)

pub span-new_target : (span : Span) → (spans_expression (expr.NewTarget span)).span ≡ span
span-new_target span = ap (λ z. z.span) (new_target-rolled span)

new-rolled : (span : Span) (x : Expression) (arguments : List Argument) → spans_expression (expr.New span x arguments) ≡ spanned span (counted (spans_expression x) ++ all_of (map spans_argument arguments))
new-rolled span x arguments = ap spans_expression (sym (expr.rolls-New span x arguments)) ∙ rolled_expression (layer.New span x arguments)

pub in-new : (span : Span) (x : Expression) (arguments : List Argument) (at : ℕ) → in_expression (expr.New span x arguments) at ≡ with_expression x at + sum_of in_argument arguments at
in-new span x arguments at = ap (λ z. around z.inner at) (new-rolled span x arguments) ∙ (plus at (counted (spans_expression x)) (all_of (map spans_argument arguments)) refl (all-in at spans_argument arguments))

pub span-new : (span : Span) (x : Expression) (arguments : List Argument) → (spans_expression (expr.New span x arguments)).span ≡ span
span-new span x arguments = ap (λ z. z.span) (new-rolled span x arguments)

unary-rolled : (span : Span) (operator : UnaryOperator) (x : Expression) → spans_expression (expr.Unary span operator x) ≡ spanned span (counted (spans_expression x))
unary-rolled span operator x = ap spans_expression (sym (expr.rolls-Unary span operator x)) ∙ rolled_expression (layer.Unary span operator x)

pub in-unary : (span : Span) (operator : UnaryOperator) (x : Expression) (at : ℕ) → in_expression (expr.Unary span operator x) at ≡ with_expression x at
in-unary span operator x at = ap (λ z. around z.inner at) (unary-rolled span operator x)

pub span-unary : (span : Span) (operator : UnaryOperator) (x : Expression) → (spans_expression (expr.Unary span operator x)).span ≡ span
span-unary span operator x = ap (λ z. z.span) (unary-rolled span operator x)

power-rolled : (span : Span) (x : Expression) (y : Expression) → spans_expression (expr.Power span x y) ≡ spanned span ((spans_expression x).inner ++ counted (spans_expression y))
power-rolled span x y = ap spans_expression (sym (expr.rolls-Power span x y)) ∙ rolled_expression (layer.Power span x y)

pub in-power : (span : Span) (x : Expression) (y : Expression) (at : ℕ) → in_expression (expr.Power span x y) at ≡ in_expression x at + with_expression y at
in-power span x y at = ap (λ z. around z.inner at) (power-rolled span x y) ∙ (plus at ((spans_expression x).inner) (counted (spans_expression y)) refl refl)

pub span-power : (span : Span) (x : Expression) (y : Expression) → (spans_expression (expr.Power span x y)).span ≡ span
span-power span x y = ap (λ z. z.span) (power-rolled span x y)

binary-rolled : (span : Span) (x : Expression) (rest : List Operand) → spans_expression (expr.Binary span x rest) ≡ spanned span ((spans_expression x).inner ++ all_of (map spans_operand rest))
binary-rolled span x rest = ap spans_expression (sym (expr.rolls-Binary span x rest)) ∙ rolled_expression (layer.Binary span x rest)

pub in-binary : (span : Span) (x : Expression) (rest : List Operand) (at : ℕ) → in_expression (expr.Binary span x rest) at ≡ in_expression x at + sum_of in_operand rest at
in-binary span x rest at = ap (λ z. around z.inner at) (binary-rolled span x rest) ∙ (plus at ((spans_expression x).inner) (all_of (map spans_operand rest)) refl (all-in at spans_operand rest))

pub span-binary : (span : Span) (x : Expression) (rest : List Operand) → (spans_expression (expr.Binary span x rest)).span ≡ span
span-binary span x rest = ap (λ z. z.span) (binary-rolled span x rest)

conditional-rolled : (span : Span) (x : Expression) (y : Expression) (z : Expression) → spans_expression (expr.Conditional span x y z) ≡ spanned span (((spans_expression x).inner ++ counted (spans_expression y)) ++ counted (spans_expression z))
conditional-rolled span x y z = ap spans_expression (sym (expr.rolls-Conditional span x y z)) ∙ rolled_expression (layer.Conditional span x y z)

pub in-conditional : (span : Span) (x : Expression) (y : Expression) (z : Expression) (at : ℕ) → in_expression (expr.Conditional span x y z) at ≡ in_expression x at + with_expression y at + with_expression z at
in-conditional span x y z at = ap (λ z. around z.inner at) (conditional-rolled span x y z) ∙ (plus at ((spans_expression x).inner ++ counted (spans_expression y)) (counted (spans_expression z)) (plus at ((spans_expression x).inner) (counted (spans_expression y)) refl refl) refl)

pub span-conditional : (span : Span) (x : Expression) (y : Expression) (z : Expression) → (spans_expression (expr.Conditional span x y z)).span ≡ span
span-conditional span x y z = ap (λ z. z.span) (conditional-rolled span x y z)

assign-rolled : (span : Span) (operator : AssignOperator) (target : Pattern) (x : Expression) → spans_expression (expr.Assign span operator target x) ≡ spanned span (spans_pattern target ++ counted (spans_expression x))
assign-rolled span operator target x = ap spans_expression (sym (expr.rolls-Assign span operator target x)) ∙ rolled_expression (layer.Assign span operator target x)

pub in-assign : (span : Span) (operator : AssignOperator) (target : Pattern) (x : Expression) (at : ℕ) → in_expression (expr.Assign span operator target x) at ≡ in_pattern target at + with_expression x at
in-assign span operator target x at = ap (λ z. around z.inner at) (assign-rolled span operator target x) ∙ (plus at (spans_pattern target) (counted (spans_expression x)) refl refl)

pub span-assign : (span : Span) (operator : AssignOperator) (target : Pattern) (x : Expression) → (spans_expression (expr.Assign span operator target x)).span ≡ span
span-assign span operator target x = ap (λ z. z.span) (assign-rolled span operator target x)

sequence-rolled : (span : Span) (x : Expression) (rest : List Expression) → spans_expression (expr.Sequence span x rest) ≡ spanned span ((spans_expression x).inner ++ joined (λ y. y.inner) (map spans_expression rest))
sequence-rolled span x rest = ap spans_expression (sym (expr.rolls-Sequence span x rest)) ∙ rolled_expression (layer.Sequence span x rest)

pub in-sequence : (span : Span) (x : Expression) (rest : List Expression) (at : ℕ) → in_expression (expr.Sequence span x rest) at ≡ in_expression x at + sum_of in_expression rest at
in-sequence span x rest at = ap (λ z. around z.inner at) (sequence-rolled span x rest) ∙ (plus at ((spans_expression x).inner) (joined (λ y. y.inner) (map spans_expression rest)) refl (joined-in at spans_expression rest))

pub span-sequence : (span : Span) (x : Expression) (rest : List Expression) → (spans_expression (expr.Sequence span x rest)).span ≡ span
span-sequence span x rest = ap (λ z. z.span) (sequence-rolled span x rest)

yield-rolled : (span : Span) (x : Option Expression) → spans_expression (expr.Yield span x) ≡ spanned span (maybe counted (mapped spans_expression x))
yield-rolled span None = ap spans_expression (sym (expr.rolls-Yield span None)) ∙ rolled_expression (layer.Yield span None)
yield-rolled span (Some x) = ap spans_expression (sym (expr.rolls-Yield span (Some x))) ∙ rolled_expression (layer.Yield span (Some x))

pub in-yield : (span : Span) (x : Option Expression) (at : ℕ) → in_expression (expr.Yield span x) at ≡ in_some with_expression x at
in-yield span x at = ap (λ z. around z.inner at) (yield-rolled span x) ∙ (maybe-with at spans_expression x)

pub span-yield : (span : Span) (x : Option Expression) → (spans_expression (expr.Yield span x)).span ≡ span
span-yield span x = ap (λ z. z.span) (yield-rolled span x)

delegate-rolled : (span : Span) (x : Expression) → spans_expression (expr.Delegate span x) ≡ spanned span (counted (spans_expression x))
delegate-rolled span x = ap spans_expression (sym (expr.rolls-Delegate span x)) ∙ rolled_expression (layer.Delegate span x)

pub in-delegate : (span : Span) (x : Expression) (at : ℕ) → in_expression (expr.Delegate span x) at ≡ with_expression x at
in-delegate span x at = ap (λ z. around z.inner at) (delegate-rolled span x)

pub span-delegate : (span : Span) (x : Expression) → (spans_expression (expr.Delegate span x)).span ≡ span
span-delegate span x = ap (λ z. z.span) (delegate-rolled span x)

group-rolled : (span : Span) (x : Expression) → spans_expression (expr.Group span x) ≡ spanned span ((spans_expression x).inner)
group-rolled span x = ap spans_expression (sym (expr.rolls-Group span x)) ∙ rolled_expression (layer.Group span x)

pub in-group : (span : Span) (x : Expression) (at : ℕ) → in_expression (expr.Group span x) at ≡ in_expression x at
in-group span x at = ap (λ z. around z.inner at) (group-rolled span x)

pub span-group : (span : Span) (x : Expression) → (spans_expression (expr.Group span x)).span ≡ span
span-group span x = ap (λ z. z.span) (group-rolled span x)

cover-rolled : (span : Span) (x : Option Expression) (rest : Option Rest) → spans_expression (expr.Cover span x rest) ≡ spanned span (maybe (λ y. y.inner) (mapped spans_expression x))
cover-rolled span None rest = ap spans_expression (sym (expr.rolls-Cover span None rest)) ∙ rolled_expression (layer.Cover span None rest)
cover-rolled span (Some x) rest = ap spans_expression (sym (expr.rolls-Cover span (Some x) rest)) ∙ rolled_expression (layer.Cover span (Some x) rest)

pub in-cover : (span : Span) (x : Option Expression) (rest : Option Rest) (at : ℕ) → in_expression (expr.Cover span x rest) at ≡ in_some in_expression x at
in-cover span x rest at = ap (λ z. around z.inner at) (cover-rolled span x rest) ∙ (maybe-in at spans_expression x)

pub span-cover : (span : Span) (x : Option Expression) (rest : Option Rest) → (spans_expression (expr.Cover span x rest)).span ≡ span
span-cover span x rest = ap (λ z. z.span) (cover-rolled span x rest)

word_key-rolled : (span : Span) (name : List ℕ) → spans_key (key.WordKey span name) ≡ []
word_key-rolled span name = ap spans_key (sym (key.rolls-WordKey span name)) ∙ rolled_key (layer.WordKey span name)

pub in-word_key : (span : Span) (name : List ℕ) (at : ℕ) → in_key (key.WordKey span name) at ≡ 0
in-word_key span name at = ap (λ z. around z at) (word_key-rolled span name)

text_key-rolled : (span : Span) (units : List ℕ) → spans_key (key.TextKey span units) ≡ []
text_key-rolled span units = ap spans_key (sym (key.rolls-TextKey span units)) ∙ rolled_key (layer.TextKey span units)

pub in-text_key : (span : Span) (units : List ℕ) (at : ℕ) → in_key (key.TextKey span units) at ≡ 0
in-text_key span units at = ap (λ z. around z at) (text_key-rolled span units)

integer_key-rolled : (span : Span) (value : ℤ) → spans_key (key.IntegerKey span value) ≡ []
integer_key-rolled span value = ap spans_key (sym (key.rolls-IntegerKey span value)) ∙ rolled_key (layer.IntegerKey span value)

pub in-integer_key : (span : Span) (value : ℤ) (at : ℕ) → in_key (key.IntegerKey span value) at ≡ 0
in-integer_key span value at = ap (λ z. around z at) (integer_key-rolled span value)

computed_key-rolled : (span : Span) (x : Expression) → spans_key (key.ComputedKey span x) ≡ (spans_expression x).inner
computed_key-rolled span x = ap spans_key (sym (key.rolls-ComputedKey span x)) ∙ rolled_key (layer.ComputedKey span x)

pub in-computed_key : (span : Span) (x : Expression) (at : ℕ) → in_key (key.ComputedKey span x) at ≡ in_expression x at
in-computed_key span x at = ap (λ z. around z at) (computed_key-rolled span x)

member-rolled : (span : Span) (name : Identifier) → spans_link (link.Member span name) ≡ []
member-rolled span name = ap spans_link (sym (link.rolls-Member span name)) ∙ rolled_link (layer.Member span name)

pub in-member : (span : Span) (name : Identifier) (at : ℕ) → in_link (link.Member span name) at ≡ 0
in-member span name at = ap (λ z. around z at) (member-rolled span name)

index-rolled : (span : Span) (x : Expression) → spans_link (link.Index span x) ≡ (spans_expression x).inner
index-rolled span x = ap spans_link (sym (link.rolls-Index span x)) ∙ rolled_link (layer.Index span x)

pub in-index : (span : Span) (x : Expression) (at : ℕ) → in_link (link.Index span x) at ≡ in_expression x at
in-index span x at = ap (λ z. around z at) (index-rolled span x)

call-rolled : (span : Span) (arguments : List Argument) → spans_link (link.Call span arguments) ≡ all_of (map spans_argument arguments)
call-rolled span arguments = ap spans_link (sym (link.rolls-Call span arguments)) ∙ rolled_link (layer.Call span arguments)

pub in-call : (span : Span) (arguments : List Argument) (at : ℕ) → in_link (link.Call span arguments) at ≡ sum_of in_argument arguments at
in-call span arguments at = ap (λ z. around z at) (call-rolled span arguments) ∙ (all-in at spans_argument arguments)

tagged-rolled : (x : Template) → spans_link (link.Tagged x) ≡ (spans_template x).inner
tagged-rolled x = ap spans_link (sym (link.rolls-Tagged x)) ∙ rolled_link (layer.Tagged x)

pub in-tagged : (x : Template) (at : ℕ) → in_link (link.Tagged x) at ≡ in_template x at
in-tagged x at = ap (λ z. around z at) (tagged-rolled x)

named_part-rolled : (x : Part) → spans_object_part (object_part.NamedPart x) ≡ spans_part x
named_part-rolled x = ap spans_object_part (sym (object_part.rolls-NamedPart x)) ∙ rolled_object_part (layer.NamedPart x)

pub in-named_part : (x : Part) (at : ℕ) → in_object_part (object_part.NamedPart x) at ≡ in_part x at
in-named_part x at = ap (λ z. around z at) (named_part-rolled x)

keyed_part-rolled : (span : Span) (key : Key) (x : Part) → spans_object_part (object_part.KeyedPart span key x) ≡ spans_key key ++ spans_part x
keyed_part-rolled span key x = ap spans_object_part (sym (object_part.rolls-KeyedPart span key x)) ∙ rolled_object_part (layer.KeyedPart span key x)

pub in-keyed_part : (span : Span) (key : Key) (x : Part) (at : ℕ) → in_object_part (object_part.KeyedPart span key x) at ≡ in_key key at + in_part x at
in-keyed_part span key x at = ap (λ z. around z at) (keyed_part-rolled span key x) ∙ (plus at (spans_key key) (spans_part x) refl refl)

single_parameter-rolled : (x : Part) → spans_parameter (parameter.SingleParameter x) ≡ spans_part x
single_parameter-rolled x = ap spans_parameter (sym (parameter.rolls-SingleParameter x)) ∙ rolled_parameter (layer.SingleParameter x)

pub in-single_parameter : (x : Part) (at : ℕ) → in_parameter (parameter.SingleParameter x) at ≡ in_part x at
in-single_parameter x at = ap (λ z. around z at) (single_parameter-rolled x)

rest_parameter-rolled : (span : Span) (x : Pattern) → spans_parameter (parameter.RestParameter span x) ≡ spans_pattern x
rest_parameter-rolled span x = ap spans_parameter (sym (parameter.rolls-RestParameter span x)) ∙ rolled_parameter (layer.RestParameter span x)

pub in-rest_parameter : (span : Span) (x : Pattern) (at : ℕ) → in_parameter (parameter.RestParameter span x) at ≡ in_pattern x at
in-rest_parameter span x at = ap (λ z. around z at) (rest_parameter-rolled span x)

target-rolled : (x : Expression) → spans_pattern (pattern.Target x) ≡ (spans_expression x).inner
target-rolled x = ap spans_pattern (sym (pattern.rolls-Target x)) ∙ rolled_pattern (layer.Target x)

pub in-target : (x : Expression) (at : ℕ) → in_pattern (pattern.Target x) at ≡ in_expression x at
in-target x at = ap (λ z. around z at) (target-rolled x)

array_pattern-rolled : (span : Span) (parts : List ArrayPart) → spans_pattern (pattern.ArrayPattern span parts) ≡ all_of (map spans_array_part parts)
array_pattern-rolled span parts = ap spans_pattern (sym (pattern.rolls-ArrayPattern span parts)) ∙ rolled_pattern (layer.ArrayPattern span parts)

pub in-array_pattern : (span : Span) (parts : List ArrayPart) (at : ℕ) → in_pattern (pattern.ArrayPattern span parts) at ≡ sum_of in_array_part parts at
in-array_pattern span parts at = ap (λ z. around z at) (array_pattern-rolled span parts) ∙ (all-in at spans_array_part parts)

object_pattern-rolled : (span : Span) (parts : List ObjectPart) → spans_pattern (pattern.ObjectPattern span parts) ≡ all_of (map spans_object_part parts)
object_pattern-rolled span parts = ap spans_pattern (sym (pattern.rolls-ObjectPattern span parts)) ∙ rolled_pattern (layer.ObjectPattern span parts)

pub in-object_pattern : (span : Span) (parts : List ObjectPart) (at : ℕ) → in_pattern (pattern.ObjectPattern span parts) at ≡ sum_of in_object_part parts at
in-object_pattern span parts at = ap (λ z. around z at) (object_pattern-rolled span parts) ∙ (all-in at spans_object_part parts)

plain-rolled : (span : Span) (key : Key) (x : Expression) → spans_property (property.Plain span key x) ≡ spans_key key ++ (spans_expression x).inner
plain-rolled span key x = ap spans_property (sym (property.rolls-Plain span key x)) ∙ rolled_property (layer.Plain span key x)

pub in-plain : (span : Span) (key : Key) (x : Expression) (at : ℕ) → in_property (property.Plain span key x) at ≡ in_key key at + in_expression x at
in-plain span key x at = ap (λ z. around z at) (plain-rolled span key x) ∙ (plus at (spans_key key) ((spans_expression x).inner) refl refl)

shorthand-rolled : (span : Span) (name : List ℕ) → spans_property (property.Shorthand span name) ≡ []
shorthand-rolled span name = ap spans_property (sym (property.rolls-Shorthand span name)) ∙ rolled_property (layer.Shorthand span name)

pub in-shorthand : (span : Span) (name : List ℕ) (at : ℕ) → in_property (property.Shorthand span name) at ≡ 0
in-shorthand span name at = ap (λ z. around z at) (shorthand-rolled span name)

initialized-rolled : (span : Span) (name : Identifier) (equals : Span) (x : Expression) → spans_property (property.Initialized span name equals x) ≡ counted (spans_expression x)
initialized-rolled span name equals x = ap spans_property (sym (property.rolls-Initialized span name equals x)) ∙ rolled_property (layer.Initialized span name equals x)

pub in-initialized : (span : Span) (name : Identifier) (equals : Span) (x : Expression) (at : ℕ) → in_property (property.Initialized span name equals x) at ≡ with_expression x at
in-initialized span name equals x at = ap (λ z. around z at) (initialized-rolled span name equals x)

defined-rolled : (x : Method) → spans_property (property.Defined x) ≡ spans_method x
defined-rolled x = ap spans_property (sym (property.rolls-Defined x)) ∙ rolled_property (layer.Defined x)

pub in-defined : (x : Method) (at : ℕ) → in_property (property.Defined x) at ≡ in_method x at
in-defined x at = ap (λ z. around z at) (defined-rolled x)

arrow-rolled : (span : Span) (parameters : List Parameter) (body : ArrowBody) → spans_arrow (roll-Arrow (record { span = span; parameters = parameters; body = body })) ≡ spanned span (all_of (map spans_parameter parameters) ++ counted (spans_arrow_body body))
arrow-rolled span parameters body = rolled_arrow (record { span = span; parameters = parameters; body = body })

pub in-arrow : (span : Span) (parameters : List Parameter) (body : ArrowBody) (at : ℕ) → in_arrow (roll-Arrow (record { span = span; parameters = parameters; body = body })) at ≡ sum_of in_parameter parameters at + with_arrow_body body at
in-arrow span parameters body at = ap (λ z. around z.inner at) (arrow-rolled span parameters body) ∙ (plus at (all_of (map spans_parameter parameters)) (counted (spans_arrow_body body)) (all-in at spans_parameter parameters) refl)

pub span-arrow : (span : Span) (parameters : List Parameter) (body : ArrowBody) → (spans_arrow (roll-Arrow (record { span = span; parameters = parameters; body = body }))).span ≡ span
span-arrow span parameters body = ap (λ z. z.span) (arrow-rolled span parameters body)

class-rolled : (span : Span) (name : Option Identifier) (heritage : Option Expression) (members : List ClassMember) → spans_class (roll-Class (record { span = span; name = name; heritage = heritage; members = members })) ≡ spanned span (maybe counted (mapped spans_expression heritage) ++ all_of (map spans_class_member members))
class-rolled span name None members = rolled_class (record { span = span; name = name; heritage = None; members = members })
class-rolled span name (Some heritage) members = rolled_class (record { span = span; name = name; heritage = (Some heritage); members = members })

pub in-class : (span : Span) (name : Option Identifier) (heritage : Option Expression) (members : List ClassMember) (at : ℕ) → in_class (roll-Class (record { span = span; name = name; heritage = heritage; members = members })) at ≡ in_some with_expression heritage at + sum_of in_class_member members at
in-class span name heritage members at = ap (λ z. around z.inner at) (class-rolled span name heritage members) ∙ (plus at (maybe counted (mapped spans_expression heritage)) (all_of (map spans_class_member members)) (maybe-with at spans_expression heritage) (all-in at spans_class_member members))

pub span-class : (span : Span) (name : Option Identifier) (heritage : Option Expression) (members : List ClassMember) → (spans_class (roll-Class (record { span = span; name = name; heritage = heritage; members = members }))).span ≡ span
span-class span name heritage members = ap (λ z. z.span) (class-rolled span name heritage members)

class_member-rolled : (span : Span) (is_static : Bool) (method : Method) → spans_class_member (roll-ClassMember (record { span = span; is_static = is_static; method = method })) ≡ spans_method method
class_member-rolled span is_static method = rolled_class_member (record { span = span; is_static = is_static; method = method })

pub in-class_member : (span : Span) (is_static : Bool) (method : Method) (at : ℕ) → in_class_member (roll-ClassMember (record { span = span; is_static = is_static; method = method })) at ≡ in_method method at
in-class_member span is_static method at = ap (λ z. around z at) (class_member-rolled span is_static method)

function-rolled : (span : Span) (is_generator : Bool) (name : Option Identifier) (parameters : List Parameter) (body : List Statement) → spans_function (roll-Function (record { span = span; is_generator = is_generator; name = name; parameters = parameters; body = body })) ≡ spanned span (all_of (map spans_parameter parameters) ++ joined (λ y. y.inner) (map spans_statement body))
function-rolled span is_generator name parameters body = rolled_function (record { span = span; is_generator = is_generator; name = name; parameters = parameters; body = body })

pub in-function : (span : Span) (is_generator : Bool) (name : Option Identifier) (parameters : List Parameter) (body : List Statement) (at : ℕ) → in_function (roll-Function (record { span = span; is_generator = is_generator; name = name; parameters = parameters; body = body })) at ≡ sum_of in_parameter parameters at + sum_of in_statement body at
in-function span is_generator name parameters body at = ap (λ z. around z.inner at) (function-rolled span is_generator name parameters body) ∙ (plus at (all_of (map spans_parameter parameters)) (joined (λ y. y.inner) (map spans_statement body)) (all-in at spans_parameter parameters) (joined-in at spans_statement body))

pub span-function : (span : Span) (is_generator : Bool) (name : Option Identifier) (parameters : List Parameter) (body : List Statement) → (spans_function (roll-Function (record { span = span; is_generator = is_generator; name = name; parameters = parameters; body = body }))).span ≡ span
span-function span is_generator name parameters body = ap (λ z. z.span) (function-rolled span is_generator name parameters body)

method-rolled : (span : Span) (kind : MethodKind) (key : Key) (function : Function) → spans_method (roll-Method (record { span = span; kind = kind; key = key; function = function })) ≡ spans_key key ++ (spans_function function).inner
method-rolled span kind key function = rolled_method (record { span = span; kind = kind; key = key; function = function })

pub in-method : (span : Span) (kind : MethodKind) (key : Key) (function : Function) (at : ℕ) → in_method (roll-Method (record { span = span; kind = kind; key = key; function = function })) at ≡ in_key key at + in_function function at
in-method span kind key function at = ap (λ z. around z at) (method-rolled span kind key function) ∙ (plus at (spans_key key) ((spans_function function).inner) refl refl)

operand-rolled : (operator : BinaryOperator) (value : Expression) → spans_operand (roll-Operand (record { operator = operator; value = value })) ≡ (spans_expression value).inner
operand-rolled operator value = rolled_operand (record { operator = operator; value = value })

pub in-operand : (operator : BinaryOperator) (value : Expression) (at : ℕ) → in_operand (roll-Operand (record { operator = operator; value = value })) at ≡ in_expression value at
in-operand operator value at = ap (λ z. around z at) (operand-rolled operator value)

part-rolled : (span : Span) (pattern : Pattern) (default : Option Expression) → spans_part (roll-Part (record { span = span; pattern = pattern; default = default })) ≡ spans_pattern pattern ++ maybe counted (mapped spans_expression default)
part-rolled span pattern None = rolled_part (record { span = span; pattern = pattern; default = None })
part-rolled span pattern (Some default) = rolled_part (record { span = span; pattern = pattern; default = (Some default) })

pub in-part : (span : Span) (pattern : Pattern) (default : Option Expression) (at : ℕ) → in_part (roll-Part (record { span = span; pattern = pattern; default = default })) at ≡ in_pattern pattern at + in_some with_expression default at
in-part span pattern default at = ap (λ z. around z at) (part-rolled span pattern default) ∙ (plus at (spans_pattern pattern) (maybe counted (mapped spans_expression default)) refl (maybe-with at spans_expression default))

template-rolled : (span : Span) (first : Stretch) (rest : List TemplatePart) → spans_template (roll-Template (record { span = span; first = first; rest = rest })) ≡ spanned span (all_of (map spans_template_part rest))
template-rolled span first rest = rolled_template (record { span = span; first = first; rest = rest })

pub in-template : (span : Span) (first : Stretch) (rest : List TemplatePart) (at : ℕ) → in_template (roll-Template (record { span = span; first = first; rest = rest })) at ≡ sum_of in_template_part rest at
in-template span first rest at = ap (λ z. around z.inner at) (template-rolled span first rest) ∙ (all-in at spans_template_part rest)

pub span-template : (span : Span) (first : Stretch) (rest : List TemplatePart) → (spans_template (roll-Template (record { span = span; first = first; rest = rest }))).span ≡ span
span-template span first rest = ap (λ z. z.span) (template-rolled span first rest)

template_part-rolled : (value : Expression) (after : Stretch) → spans_template_part (roll-TemplatePart (record { value = value; after = after })) ≡ (spans_expression value).inner
template_part-rolled value after = rolled_template_part (record { value = value; after = after })

pub in-template_part : (value : Expression) (after : Stretch) (at : ℕ) → in_template_part (roll-TemplatePart (record { value = value; after = after })) at ≡ in_expression value at
in-template_part value after at = ap (λ z. around z at) (template_part-rolled value after)

update-rolled : (span : Span) (operator : UpdateOperator) (x : Expression) → spans_expression (expr.Update span operator x) ≡ spanned span (updated operator (spans_expression x))
update-rolled span operator x = ap spans_expression (sym (expr.rolls-Update span operator x)) ∙ rolled_expression (layer.Update span operator x)

pub in-update : (span : Span) (operator : UpdateOperator) (x : Expression) (at : ℕ) → in_expression (expr.Update span operator x) at ≤ with_expression x at
in-update span operator x at = rw (ap (λ z. around z.inner at) (update-rolled span operator x)) (by-operator operator)
  where
    by-operator : (op : UpdateOperator) → around (updated op (spans_expression x)) at ≤ with_expression x at
    by-operator IncrementBefore = omega arith
    by-operator DecrementBefore = omega arith
    by-operator IncrementAfter = omega arith
    by-operator DecrementAfter = omega arith

pub in-update-after : (span : Span) (operator : UpdateOperator) (x : Expression) → is_before operator ≡ false → (at : ℕ) → in_expression (expr.Update span operator x) at ≡ in_expression x at
in-update-after span operator x h at = ap (λ z. around z.inner at) (update-rolled span operator x) ∙ by-operator operator h
  where
    by-operator : (op : UpdateOperator) → is_before op ≡ false → around (updated op (spans_expression x)) at ≡ in_expression x at
    by-operator IncrementBefore k = absurd (cc)
    by-operator DecrementBefore k = absurd (cc)
    by-operator IncrementAfter k = refl
    by-operator DecrementAfter k = refl

pub span-update : (span : Span) (operator : UpdateOperator) (x : Expression) → (spans_expression (expr.Update span operator x)).span ≡ span
span-update span operator x = ap (λ z. z.span) (update-rolled span operator x)
