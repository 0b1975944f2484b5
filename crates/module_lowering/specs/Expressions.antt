-- Expressions (ECMA-262, 6th edition, 12).
use Rattle.std.specs.Prelude.{ℕ, ℤ, pos, negsuc, Bool, true, false, ◌&&◌, codes, is_some, List, [], ◌∷◌, map, Option, Some, None}
use Rattle.std.specs.List.{list_any}
use Rattle.std.specs.Str.{bytes_eq}
use Rattle.es_outside.specs.declared.events.Site.{Site}
use Rattle.es6_ast.specs.declared.operators.AssignOperator.{AssignOperator}
use Rattle.es6_ast.specs.declared.operators.AssignOperator.TheVariants as assign
use Rattle.es6_ast.specs.declared.operators.BinaryOperator.{BinaryOperator}
use Rattle.es6_ast.specs.declared.operators.BinaryOperator.TheVariants as operator
use Rattle.es6_ast.specs.declared.operators.Literal.{Literal}
use Rattle.es6_ast.specs.declared.operators.Literal.TheVariants as literal
use Rattle.es6_ast.specs.declared.operators.UnaryOperator.{UnaryOperator}
use Rattle.es6_ast.specs.declared.operators.UnaryOperator.TheVariants as unary
use Rattle.es6_ast.specs.declared.operators.UpdateOperator.{UpdateOperator}
use Rattle.es6_ast.specs.declared.operators.UpdateOperator.TheVariants as update
use Rattle.es6_ast.specs.declared.tree.Identifier.{Identifier}
use Rattle.es6_ast.specs.declared.tree.Argument.TheOpen as layer
use Rattle.es6_ast.specs.declared.tree.Argument.TheOpen.{Argument-F, Element-F, Expression-F, Link-F, Operand-F, Template-F, TemplatePart-F}
use Rattle.core_ast.specs.declared.parts.Binary.{Binary}
use Rattle.core_ast.specs.declared.parts.Binary.TheVariants as binary
use Rattle.core_ast.specs.declared.parts.Constant.{Constant}
use Rattle.core_ast.specs.declared.parts.Constant.TheVariants.{Integer, Null, Text, Truth}
use Rattle.core_ast.specs.declared.parts.CoreOp.TheVariants as op
use Rattle.core_ast.specs.declared.parts.FunctionId.{FunctionId}
use Rattle.core_ast.specs.declared.parts.Key.TheVariants.{WordKey}
use Rattle.core_ast.specs.declared.parts.Primitive.TheVariants.{Construct, NewTarget, Power, SuperGet}
use Rattle.core_ast.specs.declared.parts.Unary.{Unary}
use Rattle.core_ast.specs.declared.parts.Unary.TheVariants as plain
use Rattle.core_ast.specs.declared.parts.Update.{Update}
use Rattle.core_ast.specs.declared.parts.Update.TheVariants.{DecrementAfter, DecrementBefore, IncrementAfter, IncrementBefore}
use Rattle.core_ast.specs.declared.parts.When.TheVariants.{Choice, Falsy, Truthy}
use Rattle.core_ast.specs.declared.tree.CoreExpr.{CoreExpr, out-CoreExpr}
use Rattle.core_ast.specs.declared.tree.CoreCase.{CoreCase}
use Rattle.core_ast.specs.declared.tree.CoreLink.{CoreLink, out-CoreLink}
use Rattle.core_ast.specs.declared.tree.CoreLink.TheOpen as core
use Rattle.core_ast.specs.declared.tree.CoreLink.TheOpen.{CoreLink-F}
use Rattle.core_ast.specs.declared.tree.CoreStat.{CoreStat}
use Rattle.core_ast.specs.declared.tree.CoreLink.TheVariants as link
use Rattle.core_ast.specs.Made.{act, constant, linked, undefined, variable}
use Rattle.lowering_rules.specs.declared.expressions.ListPart.{ListPart}
use Rattle.lowering_rules.specs.declared.expressions.ListPart.TheVariants.{Missing, Single, Spread}
use Rattle.lowering_rules.specs.declared.expressions.TemplatePart.{TemplatePart}
use Rattle.lowering_rules.specs.declared.reference_rules.objects.ObjectMember.{ObjectMember}
use Rattle.lowering_rules.specs.declared.reference_rules.references.Compound.{Compound}
use Rattle.lowering_rules.specs.declared.reference_rules.references.Compound.TheVariants.{Operates, Powers}
use Rattle.lowering_rules.specs.declared.reference_rules.references.MemberName.{MemberName}
use Rattle.lowering_rules.specs.declared.reference_rules.references.MemberName.TheVariants.{AtIterator, Indexed, Named}
use Rattle.lowering_rules.specs.declared.reference_rules.references.Reached.{Reached}
use Rattle.lowering_rules.specs.declared.reference_rules.references.Reached.TheVariants.{Inherited, Property, Value, Variable}
use Rattle.lowering_rules.specs.statement_rules.Bodies.{after_running, named_function}
use Rattle.lowering_rules.specs.Classes.{closure, super_call}
use Rattle.lowering_rules.specs.Classes as classes
use Rattle.lowering_rules.specs.Expressions.{arguments, array, template, template_object}
use Rattle.lowering_rules.specs.Making.{primitive, text, then, through_with, to_text}
use Rattle.lowering_rules.specs.reference_rules.Objects.{object}
use Rattle.lowering_rules.specs.Patterns.{iterator_name}
use Rattle.lowering_rules.specs.reference_rules.References as references
use Rattle.lowering_rules.specs.reference_rules.References.{accessed, called, called_as_tag, deleted, operated_at, pattern_assigned, updated, value_of}
use Rattle.module_lowering.specs.declared.context.FunctionForm.TheVariants.{PlainForm}
use Rattle.module_lowering.specs.declared.context.ThisKind.{ThisKind}
use Rattle.module_lowering.specs.declared.context.ThisKind.TheVariants.{OfConstructor, OfFunction, OfGenerator, OfMethod, OfModule}
use Rattle.module_lowering.specs.declared.context.Role.TheVariants.{Assigns}
use Rattle.module_lowering.specs.declared.lowerer.Lowerer.{Lowerer}
use Rattle.module_lowering.specs.Bindings.{scoped_name}
use Rattle.module_lowering.specs.Lowering.{along, along_by, asks, drawing, each, each_by, option, pure, sees_this, temporary, Lowering, ◌>>=◌}
use Rattle.module_lowering.specs.Names.{is_global, name_lowered, site, units_of}
use Rattle.module_lowering.specs.Nodes.{Chained, Classed, Expressed, Form, Functioned, Layer, Linked, MemberForm, NameForm, Operated, PartsForm, Patterned, Templated, TemplateParted}

-- ---- values

abbrev pub reaching : Lowering Reached → Expressed
reaching reached = record { name = None; bare = None; symbol = None; reached = reached }

abbrev pub gives : Lowering CoreExpr → Lowering Reached
gives a = do
  x ← a
  pure (Value x)

abbrev pub value : Lowering CoreExpr → Expressed
value a = reaching (gives a)

-- GetValue of what it comes to
abbrev pub valued : Expressed → Lowering CoreExpr
valued x = do
  r ← x.reached
  pure (value_of r)

abbrev pub values : List Expressed → List (Lowering CoreExpr)
values [] = []
values (x ∷ xs) = valued x ∷ values xs

abbrev pub optional : Option Expressed → Option (Lowering CoreExpr)
optional None = None
optional (Some x) = Some (valued x)

-- ---- names, `this` and `new.target`

abbrev pub named : Identifier → Expressed
named x = record { name = Some x; bare = Some x; symbol = None; reached = name_lowered x }

abbrev pub this_of : ThisKind → Lowerer → CoreExpr × Lowerer
this_of OfModule state = (undefined, state)
this_of OfFunction state = (classes.this false, state)
this_of OfMethod state = (classes.this false, state)
this_of (OfConstructor derived) state = (classes.this derived, state)
this_of (OfGenerator kept) state = (variable kept, sees_this state)

-- 12.2.2; in a module it is undefined (8.1.1.5.4)
abbrev pub this_lowered : Lowering CoreExpr
this_lowered bindings context state = this_of context.this state

-- 12.3.8; what can't be constructed has none
abbrev pub new_target : ThisKind → CoreExpr
new_target OfModule = undefined
new_target OfFunction = primitive NewTarget
new_target OfMethod = undefined
new_target (OfConstructor derived) = primitive NewTarget
new_target (OfGenerator kept) = undefined

-- ---- literals (12.2.4)

abbrev pub whole : ℤ → ℕ
whole (pos n) = n
whole (negsuc n) = 0

abbrev pub constant_of : Literal → Constant
constant_of literal.Null = Null
constant_of (literal.Truth b) = Truth b
constant_of (literal.Integer n) = Integer (whole n)
constant_of (literal.Text units) = Text units

-- ---- lists (12.2.5, 12.3.6)

abbrev pub argument_step : Layer Argument-F → Lowering ListPart
argument_step (layer.Single x) = do
  y ← valued x
  pure (Single y)
argument_step (layer.Spread span x) = do
  y ← valued x
  pure (Spread y)

abbrev pub element_step : Layer Element-F → Lowering ListPart
element_step layer.Hole = pure Missing
element_step (layer.Present x) = x

-- ---- templates (12.2.9)

abbrev pub template_part_step : Layer TemplatePart-F → TemplateParted
template_part_step x = record { value = valued x.value; after = x.after }

abbrev pub part_of : TemplateParted → Lowering TemplatePart
part_of p = do
  x ← p.value
  pure (record { value = x; text = p.after.cooked })

abbrev pub template_step : Layer Template-F → Templated
template_step x = record { first = x.first; rest = x.rest }

abbrev pub template_value : Templated → Lowering CoreExpr
template_value t = do
  ps ← each_by part_of t.rest
  pure (template t.first.cooked ps)

abbrev pub template_object_of : Templated → CoreExpr
template_object_of t =
    template_object
    (t.first.cooked ∷ map (λ p. p.after.cooked) t.rest)
    (t.first.raw ∷ map (λ p. p.after.raw) t.rest)

-- ---- chains of accesses and calls (12.3)

-- one of the links of an expression has a place
abbrev pub site_in : CoreLink-F CoreLink CoreStat CoreCase CoreExpr → Bool
site_in (core.Strict o parts site) = is_some site
site_in (core.Lazy when yes_ no_) = false
site_in (core.Run body) = false

abbrev pub has_site : CoreLink → Bool
has_site l = site_in (out-CoreLink l)

abbrev pub is_sited : CoreExpr → Bool
is_sited x = list_any has_site (out-CoreExpr x).links

unfoldable pub reached_sited : Reached → Bool
reached_sited (Value x) = is_sited x
reached_sited (Variable t imported) = false
reached_sited (Property object name) = is_sited object
reached_sited (Inherited x this) = is_sited x

-- [Symbol.iterator], where no scope declares Symbol
abbrev pub is_text : List ℕ → Option Identifier → Bool
is_text name None = false
is_text name (Some x) = bytes_eq x.name name

abbrev pub is_word : List ℕ → Option (List ℕ) → Bool
is_word name None = false
is_word name (Some x) = bytes_eq x name

abbrev pub are_iterator : List Linked → Bool
are_iterator [] = false
are_iterator (l ∷ []) = is_word (codes "iterator") l.member
are_iterator (l ∷ m ∷ ls) = false

abbrev pub place_if : Bool → Option Identifier → Option ℕ
place_if false x = None
place_if true None = None
place_if true (Some x) = Some x.span.begin

abbrev pub symbol_place : Option Identifier → List Linked → Option ℕ
symbol_place x links = place_if (is_text (codes "Symbol") x && are_iterator links) x

abbrev pub may_be_iterator : Option ℕ → Lowering Bool
may_be_iterator None = pure false
may_be_iterator (Some at) = is_global at

-- what names the property, where the expression in brackets isn't evaluated if it is Symbol.iterator
abbrev pub indexed_by : Expressed → Bool → Lowering MemberName
indexed_by x true = pure AtIterator
indexed_by x false = do
  y ← valued x
  pure (Indexed y)

abbrev pub indexed : Expressed → Lowering MemberName
indexed x = do
  is_iterator ← may_be_iterator x.symbol
  indexed_by x is_iterator

abbrev pub link_of : (ℕ → Chained → Lowering Chained) → Linked
link_of lowered = record { member = None; lowered = lowered }

abbrev pub called_with : List (Lowering ListPart) → ℕ → Chained → Lowering Chained
called_with xs begin c = do
  parts ← each xs
  place ← site c.sited begin
  x ← drawing (called c.reached parts place)
  pure (record { reached = Value x; sited = true })

abbrev pub tagged_with : Templated → ℕ → Chained → Lowering Chained
tagged_with t begin c = do
  xs ← each_by (λ p. p.value) t.rest
  place ← site c.sited begin
  x ← drawing (called_as_tag c.reached (template_object_of t) xs place)
  pure (record { reached = Value x; sited = true })

abbrev pub indexed_with : Expressed → ℕ → Chained → Lowering Chained
indexed_with x begin c = do
  name ← indexed x
  pure (record { reached = accessed c.reached name; sited = c.sited })

abbrev pub member_with : List ℕ → ℕ → Chained → Lowering Chained
member_with name begin c = pure (record { reached = accessed c.reached (Named (WordKey name)); sited = c.sited })

abbrev pub link_step : Layer Link-F → Linked
link_step (layer.Member span name) = record { member = Some name.name; lowered = member_with name.name }
link_step (layer.Index span x) = link_of (indexed_with x)
link_step (layer.Call span xs) = link_of (called_with xs)
link_step (layer.Tagged t) = link_of (tagged_with t)

abbrev pub linked_at : ℕ → Linked → Chained → Lowering Chained
linked_at begin l c = l.lowered begin c

abbrev pub chain_reached : ℕ → Expressed → List Linked → Lowering Reached
chain_reached begin head links = do
  r ← head.reached
  c ← along_by (linked_at begin) links (record { reached = r; sited = reached_sited r })
  pure c.reached

abbrev pub chain : ℕ → Expressed → List Linked → Expressed
chain begin head links = record {
  name = None;
  bare = None;
  symbol = symbol_place head.bare links;
  reached = chain_reached begin head links;
}

-- `new` (12.3.3.1)
abbrev pub constructed : CoreExpr → List ListPart → Option Site → CoreExpr
constructed callee parts place = linked callee (link.Strict (op.Primitive Construct) (arguments parts ∷ []) place)

abbrev pub new_value : ℕ → Expressed → List (Lowering ListPart) → Lowering CoreExpr
new_value begin callee xs = do
  x ← valued callee
  parts ← each xs
  place ← site (is_sited x) begin
  pure (constructed x parts place)

-- ---- super (12.3.5): the name of the property, converted to a key, and then `this`

abbrev pub inherited : Lowering CoreExpr → Lowering Reached
inherited key = do
  k ← key
  this ← this_lowered
  pure (Inherited (through_with k SuperGet this) this)

unfoldable pub key_value : MemberName → CoreExpr
key_value (Named key) = undefined
key_value (Indexed x) = to_text x
key_value AtIterator = text iterator_name

abbrev pub index_key : Expressed → Lowering CoreExpr
index_key x = do
  name ← indexed x
  pure (key_value name)

abbrev pub super_called : List (Lowering ListPart) → Lowering CoreExpr
super_called xs = do
  parts ← each xs
  pure (super_call parts)

-- ---- operators (12.5 to 12.13)

abbrev pub unary_of : UnaryOperator → Unary
unary_of unary.Delete = plain.Void
unary_of unary.Void = plain.Void
unary_of unary.Typeof = plain.Typeof
unary_of unary.Plus = plain.Plus
unary_of unary.Minus = plain.Minus
unary_of unary.BitNot = plain.BitNot
unary_of unary.Not = plain.Not

abbrev pub unary_value : UnaryOperator → Reached → CoreExpr
unary_value unary.Delete r = deleted r
unary_value o r = linked (value_of r) (act (op.Unary (unary_of o)))

abbrev pub unary_lowered : UnaryOperator → Expressed → Lowering CoreExpr
unary_lowered o x = do
  r ← x.reached
  pure (unary_value o r)

abbrev pub binary_of : BinaryOperator → Binary
binary_of operator.Or = binary.BitOr
binary_of operator.And = binary.BitAnd
binary_of operator.BitOr = binary.BitOr
binary_of operator.BitXor = binary.BitXor
binary_of operator.BitAnd = binary.BitAnd
binary_of operator.Equal = binary.Equal
binary_of operator.NotEqual = binary.NotEqual
binary_of operator.Same = binary.Same
binary_of operator.NotSame = binary.NotSame
binary_of operator.Less = binary.Less
binary_of operator.Greater = binary.Greater
binary_of operator.AtMost = binary.AtMost
binary_of operator.AtLeast = binary.AtLeast
binary_of operator.InstanceOf = binary.InstanceOf
binary_of operator.In = binary.In
binary_of operator.ShiftLeft = binary.ShiftLeft
binary_of operator.ShiftRight = binary.ShiftRight
binary_of operator.ShiftRightUnsigned = binary.ShiftRightUnsigned
binary_of operator.Add = binary.Add
binary_of operator.Subtract = binary.Subtract
binary_of operator.Multiply = binary.Multiply
binary_of operator.Divide = binary.Divide
binary_of operator.Remainder = binary.Remainder

-- `||` and `&&` evaluate what is behind them only where that is their value (12.12)
abbrev pub operand_link : BinaryOperator → CoreExpr → CoreLink
operand_link operator.Or y = link.Lazy Falsy y None
operand_link operator.And y = link.Lazy Truthy y None
operand_link o y = link.Strict (op.Operator (binary_of o)) (y ∷ []) None

abbrev pub operand_step : Layer Operand-F → Operated
operand_step x before = do
  y ← valued x.value
  pure (linked before (operand_link x.operator y))

abbrev pub binary_lowered : Expressed → List Operated → Lowering CoreExpr
binary_lowered first rest = do
  x ← valued first
  along rest x

abbrev pub power : Expressed → Expressed → Lowering CoreExpr
power base exponent = do
  x ← valued base
  y ← valued exponent
  pure (through_with x Power y)

abbrev pub conditional : Expressed → Expressed → Expressed → Lowering CoreExpr
conditional test yes_ no_ = do
  t ← valued test
  y ← valued yes_
  n ← valued no_
  pure (linked t (link.Lazy Choice y (Some n)))

-- 12.15
abbrev pub next_of : Expressed → Operated
next_of x before = do
  y ← valued x
  pure (then before y)

abbrev pub sequence : Expressed → List Expressed → Lowering CoreExpr
sequence first rest = do
  x ← valued first
  along_by next_of rest x

-- ---- yield (14.4.14)

unfoldable pub or_undefined : Option CoreExpr → CoreExpr
or_undefined None = undefined
or_undefined (Some x) = x

abbrev pub yielded : Option Expressed → Lowering CoreExpr
yielded x = do
  y ← option (optional x)
  pure (linked (or_undefined y) (act op.Yield))

abbrev pub delegated : Expressed → Lowering CoreExpr
delegated x = do
  y ← valued x
  pure (linked y (act op.Delegate))

-- ---- updates (12.4, 12.5.7, 12.5.8)

abbrev pub update_of : UpdateOperator → Update
update_of update.IncrementBefore = IncrementBefore
update_of update.DecrementBefore = DecrementBefore
update_of update.IncrementAfter = IncrementAfter
update_of update.DecrementAfter = DecrementAfter

abbrev pub update_lowered : Update → Expressed → Lowering CoreExpr
update_lowered u x = do
  r ← x.reached
  drawing (updated r u)

-- ---- assignments (12.14.4)

abbrev pub compound_of : AssignOperator → Option Compound
compound_of assign.Assign = None
compound_of assign.MultiplyAssign = Some (Operates binary.Multiply)
compound_of assign.DivideAssign = Some (Operates binary.Divide)
compound_of assign.RemainderAssign = Some (Operates binary.Remainder)
compound_of assign.AddAssign = Some (Operates binary.Add)
compound_of assign.SubtractAssign = Some (Operates binary.Subtract)
compound_of assign.ShiftLeftAssign = Some (Operates binary.ShiftLeft)
compound_of assign.ShiftRightAssign = Some (Operates binary.ShiftRight)
compound_of assign.ShiftRightUnsignedAssign = Some (Operates binary.ShiftRightUnsigned)
compound_of assign.BitAndAssign = Some (Operates binary.BitAnd)
compound_of assign.BitXorAssign = Some (Operates binary.BitXor)
compound_of assign.BitOrAssign = Some (Operates binary.BitOr)
compound_of assign.PowerAssign = Some Powers

-- the right side is evaluated first, and then the parts of the pattern take its value
abbrev pub pattern_value : Patterned → Expressed → Lowering CoreExpr
pattern_value p x = do
  y ← valued x
  kept ← temporary
  ss ← p.bound Assigns (variable kept)
  pure (pattern_assigned y kept ss)

abbrev pub form_of : Option Identifier → Lowering Reached → Form
form_of None reached = MemberForm reached
form_of (Some x) reached = NameForm x

abbrev pub assigned_to : Lowering Reached → Expressed → Lowering CoreExpr
assigned_to reached x = do
  r ← reached
  y ← valued x
  drawing (references.assigned r y)

abbrev pub assigned : Patterned → Expressed → Form → Lowering CoreExpr
assigned p x (NameForm n) = assigned_to (name_lowered n) x
assigned p x (MemberForm reached) = assigned_to reached x
assigned p x PartsForm = pattern_value p x

abbrev pub operated_on : Compound → Lowering Reached → Expressed → Lowering CoreExpr
operated_on o reached x = do
  r ← reached
  y ← valued x
  drawing (operated_at r o y)

-- no pattern is a target of these (12.14.1)
abbrev pub operated : Compound → Expressed → Form → Lowering CoreExpr
operated o x (NameForm n) = operated_on o (name_lowered n) x
operated o x (MemberForm reached) = operated_on o reached x
operated o x PartsForm = valued x

abbrev pub assignment : Option Compound → Patterned → Expressed → Lowering CoreExpr
assignment None p x = assigned p x p.form
assignment (Some o) p x = operated o x p.form

-- ---- functions and classes as values

-- a function with a name has it in a scope of its own (14.1.20)
abbrev pub function_value : Functioned → Option Identifier → Lowering CoreExpr
function_value f None = do
  number ← f.lowered PlainForm
  pure (closure number)
function_value f (Some name) = do
  number ← f.lowered PlainForm
  own ← asks (λ b c. scoped_name b c name.span.begin)
  kept ← temporary
  pure (named_function kept own number)

abbrev pub class_value : Classed → Lowering CoreExpr
class_value c = do
  made ← c.lowered
  pure (after_running made.statements (variable made.class))

-- ---- expressions

abbrev pub closed : Lowering FunctionId → Lowering CoreExpr
closed a = do
  number ← a
  pure (closure number)

abbrev pub object_lowered : List (Lowering ObjectMember) → Lowering CoreExpr
object_lowered xs = do
  ms ← each xs
  drawing (object ms)

abbrev pub array_lowered : List (Lowering ListPart) → Lowering CoreExpr
array_lowered xs = do
  parts ← each xs
  pure (array parts)

-- a group is what it holds, but for a key
abbrev pub grouped : Expressed → Expressed
grouped x = record { name = x.name; bare = None; symbol = None; reached = x.reached }

abbrev pub expression_step : Layer Expression-F → Expressed
expression_step (layer.This span) = value this_lowered
expression_step (layer.Name span name) = named (record { span = span; name = name })
expression_step (layer.Literal span x) = value (pure (constant (constant_of x)))
expression_step (layer.Template x) = value (template_value x)
expression_step (layer.ArrayList span elements comma) = value (array_lowered elements)
expression_step (layer.ObjectList span properties) = value (object_lowered properties)
expression_step (layer.Function f) = value (function_value f f.name)
expression_step (layer.Arrow x) = value (closed x)
expression_step (layer.Class c) = value (class_value c)
expression_step (layer.Chain span head links) = chain span.begin head links
expression_step (layer.SuperMember span name) = reaching (inherited (pure (text (units_of name.name))))
expression_step (layer.SuperIndex span index) = reaching (inherited (index_key index))
expression_step (layer.SuperCall span xs) = value (super_called xs)
expression_step (layer.NewTarget span) = value (asks (λ b c. new_target c.this))
expression_step (layer.New span callee xs) = value (new_value span.begin callee xs)
expression_step (layer.Update span o x) = value (update_lowered (update_of o) x)
expression_step (layer.Unary span o x) = value (unary_lowered o x)
expression_step (layer.Power span base exponent) = value (power base exponent)
expression_step (layer.Binary span first rest) = value (binary_lowered first rest)
expression_step (layer.Conditional span test yes_ no_) = value (conditional test yes_ no_)
expression_step (layer.Assign span o target x) = value (assignment (compound_of o) target x)
expression_step (layer.Sequence span first rest) = value (sequence first rest)
expression_step (layer.Yield span x) = value (yielded x)
expression_step (layer.Delegate span x) = value (delegated x)
expression_step (layer.Group span held) = grouped held
-- only parameters before an arrow are written so, and no tree of a module has it (12.2)
expression_step (layer.Cover span held rest) = value (pure undefined)
