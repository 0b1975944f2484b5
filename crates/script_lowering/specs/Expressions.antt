-- Expressions of a script as expressions of the small tree (5.1 edition, 11). Each construct goes on with its first operand.
use Rattle.std.specs.Prelude.{Bool, List, None, Option, Some, [], false, if◌then◌else◌, map, true, ℕ, ◌∷◌}
use Rattle.es_outside.specs.declared.events.Site.{Site}
use Rattle.es5_ast.specs.declared.operators.AssignOperator5.{AssignOperator5}
use Rattle.es5_ast.specs.declared.operators.AssignOperator5.TheVariants as assign
use Rattle.es5_ast.specs.declared.operators.BinaryOperator5.{BinaryOperator5}
use Rattle.es5_ast.specs.declared.operators.BinaryOperator5.TheVariants as binary5
use Rattle.es5_ast.specs.declared.operators.Key5.{Key5}
use Rattle.es5_ast.specs.declared.operators.Key5.TheVariants as key5
use Rattle.es5_ast.specs.declared.operators.Literal5.{Literal5}
use Rattle.es5_ast.specs.declared.operators.Literal5.TheVariants as literal5
use Rattle.es5_ast.specs.declared.operators.UnaryOperator5.{UnaryOperator5}
use Rattle.es5_ast.specs.declared.operators.UnaryOperator5.TheVariants as unary5
use Rattle.es5_ast.specs.declared.operators.UpdateOperator5.{UpdateOperator5}
use Rattle.es5_ast.specs.declared.operators.UpdateOperator5.TheVariants as update5
use Rattle.es5_ast.specs.declared.tree.Element5.TheOpen as layer
use Rattle.es5_ast.specs.declared.tree.Element5.TheOpen.{Element5-F, Expr5-F, Link5-F, Operand5-F, Property5-F}
use Rattle.es_text.specs.declared.Span.{Span}
use Rattle.script_lowering.specs.declared.sites.Sites.{Sites}
use Rattle.script_lowering.specs.declared.sites.Sites.TheVariants.{BySpan, Carried}
use Rattle.script_lowering.specs.Reading.{Reads, gives, named, reads_both, reads_each, reads_one, reads_then}
use Rattle.core_ast.specs.Made.{act, acting, expression, linked}
use Rattle.core_ast.specs.declared.parts.Binary.{Binary}
use Rattle.core_ast.specs.declared.parts.Binary.TheVariants as binary
use Rattle.core_ast.specs.declared.parts.Constant.{Constant}
use Rattle.core_ast.specs.declared.parts.Constant.TheVariants as constant
use Rattle.core_ast.specs.declared.parts.CoreHead.{CoreHead}
use Rattle.core_ast.specs.declared.parts.CoreHead.TheVariants as head
use Rattle.core_ast.specs.declared.parts.CoreOp.{CoreOp}
use Rattle.core_ast.specs.declared.parts.CoreOp.TheVariants as op
use Rattle.core_ast.specs.declared.parts.FunctionId.{FunctionId}
use Rattle.core_ast.specs.declared.parts.Key.{Key}
use Rattle.core_ast.specs.declared.parts.Key.TheVariants as key
use Rattle.core_ast.specs.declared.parts.Unary.{Unary}
use Rattle.core_ast.specs.declared.parts.Unary.TheVariants as unary
use Rattle.core_ast.specs.declared.parts.Update.{Update}
use Rattle.core_ast.specs.declared.parts.Update.TheVariants as update
use Rattle.core_ast.specs.declared.parts.Var.{Var}
use Rattle.core_ast.specs.declared.parts.When.TheVariants as when
use Rattle.core_ast.specs.declared.tree.CoreCase.{CoreCase}
use Rattle.core_ast.specs.declared.tree.CoreExpr.{CoreExpr, out-CoreExpr}
use Rattle.core_ast.specs.declared.tree.CoreLink.{CoreLink, out-CoreLink}
use Rattle.core_ast.specs.declared.tree.CoreLink.TheOpen as core
use Rattle.core_ast.specs.declared.tree.CoreLink.TheOpen.{CoreLink-F}
use Rattle.core_ast.specs.declared.tree.CoreLink.TheVariants as link
use Rattle.core_ast.specs.declared.tree.CoreStat.{CoreStat}
use Rattle.core_ast.specs.declared.whole.Declared.{Declared}

-- which place a call has
abbrev pub site_by : Sites → Span → Option Site → Option Site
site_by BySpan span carried = Some (record { «module» = 0; at = span.begin })
site_by Carried span carried = carried

-- a link more, or several
abbrev pub Adds : Type 0
Adds = CoreExpr → Reads CoreExpr

abbrev pub adds_each : List Adds → CoreExpr → Reads CoreExpr
adds_each [] x = gives x
adds_each (f ∷ fs) x = reads_then (f x) (adds_each fs)

abbrev pub alone : CoreHead → CoreExpr
alone h = expression None h []

abbrev pub name_read : Var → CoreExpr
name_read x = alone (head.Variable x)

-- ---- operators

abbrev pub unary_of : UnaryOperator5 → Unary
unary_of unary5.Typeof = unary.Typeof
unary_of unary5.Plus = unary.Plus
unary_of unary5.Minus = unary.Minus
unary_of unary5.BitNot = unary.BitNot
unary_of unary5.Not = unary.Not
unary_of u = unary.Void

abbrev pub update_of : UpdateOperator5 → Update
update_of update5.IncrementBefore = update.IncrementBefore
update_of update5.DecrementBefore = update.DecrementBefore
update_of update5.IncrementAfter = update.IncrementAfter
update_of update5.DecrementAfter = update.DecrementAfter

abbrev pub binary_of : BinaryOperator5 → Binary
binary_of binary5.BitOr = binary.BitOr
binary_of binary5.BitXor = binary.BitXor
binary_of binary5.BitAnd = binary.BitAnd
binary_of binary5.Equal = binary.Equal
binary_of binary5.NotEqual = binary.NotEqual
binary_of binary5.Same = binary.Same
binary_of binary5.NotSame = binary.NotSame
binary_of binary5.Less = binary.Less
binary_of binary5.Greater = binary.Greater
binary_of binary5.AtMost = binary.AtMost
binary_of binary5.AtLeast = binary.AtLeast
binary_of binary5.InstanceOf = binary.InstanceOf
binary_of binary5.In = binary.In
binary_of binary5.ShiftLeft = binary.ShiftLeft
binary_of binary5.ShiftRight = binary.ShiftRight
binary_of binary5.ShiftRightUnsigned = binary.ShiftRightUnsigned
binary_of binary5.Subtract = binary.Subtract
binary_of binary5.Multiply = binary.Multiply
binary_of binary5.Divide = binary.Divide
binary_of binary5.Remainder = binary.Remainder
binary_of b = binary.Add

-- `=` has none
abbrev pub compound_of : AssignOperator5 → Option Binary
compound_of assign.Assign = None
compound_of assign.MultiplyAssign = Some binary.Multiply
compound_of assign.DivideAssign = Some binary.Divide
compound_of assign.RemainderAssign = Some binary.Remainder
compound_of assign.AddAssign = Some binary.Add
compound_of assign.SubtractAssign = Some binary.Subtract
compound_of assign.ShiftLeftAssign = Some binary.ShiftLeft
compound_of assign.ShiftRightAssign = Some binary.ShiftRight
compound_of assign.ShiftRightUnsignedAssign = Some binary.ShiftRightUnsigned
compound_of assign.BitAndAssign = Some binary.BitAnd
compound_of assign.BitXorAssign = Some binary.BitXor
compound_of assign.BitOrAssign = Some binary.BitOr

-- ---- literals

abbrev pub literal_of : Literal5 → Constant
literal_of literal5.Null = constant.Null
literal_of (literal5.Truth b) = constant.Truth b
literal_of (literal5.Integer n) = constant.Integer n
literal_of (literal5.Text units) = constant.Text units

abbrev pub key_of : Key5 → Key
key_of (key5.WordKey word) = key.WordKey word
key_of (key5.TextKey units) = key.TextKey units
key_of (key5.IntegerKey n) = key.IntegerKey n

-- ---- what an expression is: a name, or a reference to a property (8.7)

abbrev pub name_in : CoreHead → List CoreLink → Option Var
name_in (head.Variable x) [] = Some x
name_in h ls = None

abbrev pub name_of : CoreExpr → Option Var
name_of x = name_in (out-CoreExpr x).head (out-CoreExpr x).links

abbrev pub refers_in : CoreLink-F CoreLink CoreStat CoreCase CoreExpr → Bool
refers_in (core.Strict (op.Member k) parts site) = true
refers_in (core.Strict op.Index parts site) = true
refers_in l = false

-- whether the last link gives a reference; a head gives none
abbrev pub last_refers : Bool → List CoreLink → Bool
last_refers refers [] = refers
last_refers refers (l ∷ ls) = last_refers (refers_in (out-CoreLink l)) ls

abbrev pub is_reference : CoreExpr → Bool
is_reference x = last_refers false (out-CoreExpr x).links

-- ---- assignments (11.13, 11.3, 11.4.4, 11.4.5) and unary operators (11.4)

abbrev pub assigned_name : Var → Option Binary → CoreExpr → CoreExpr
assigned_name x None value = linked value (act (op.Set x))
assigned_name x (Some b) value = linked (linked (name_read x) (acting (op.Operator b) value)) (act (op.Set x))

abbrev pub assigned_reference : CoreExpr → Option Binary → CoreExpr → CoreExpr
assigned_reference target None value = linked target (acting op.Put value)
assigned_reference target (Some b) value = linked target (acting (op.Update b) value)

abbrev pub assigned_to : CoreExpr → Option Binary → CoreExpr → Option Var → CoreExpr
assigned_to target b value None = assigned_reference target b value
assigned_to target b value (Some x) = assigned_name x b value

abbrev pub assigned : Option Binary → CoreExpr → CoreExpr → CoreExpr
assigned b target value = assigned_to target b value (name_of target)

abbrev pub stepped_to : CoreExpr → Update → Option Var → CoreExpr
stepped_to target u None = linked target (act (op.Step u))
stepped_to target u (Some x) = linked target (act (op.StepVariable u x))

-- of what is no reference `delete` gives true
abbrev pub deleted : CoreExpr → CoreExpr
deleted x = if is_reference x then linked x (act op.Delete) else linked x (acting op.Then (alone (head.Constant (constant.Truth true))))

abbrev pub type_of : CoreExpr → Option Var → CoreExpr
type_of x None = linked x (act (op.Unary unary.Typeof))
type_of x (Some y) = alone (head.TypeOf y)

abbrev pub with_unary : UnaryOperator5 → CoreExpr → CoreExpr
with_unary unary5.Delete x = deleted x
with_unary unary5.Typeof x = type_of x (name_of x)
with_unary u x = linked x (act (op.Unary (unary_of u)))

-- ---- operands (11.5 to 11.11)

pub record Operand : Type 0 where
  pub operator : BinaryOperator5
  pub value : Reads CoreExpr

abbrev pub operated : BinaryOperator5 → CoreExpr → CoreExpr → CoreExpr
operated binary5.Or x y = linked x (link.Lazy when.Falsy y None)
operated binary5.And x y = linked x (link.Lazy when.Truthy y None)
operated b x y = linked x (acting (op.Operator (binary_of b)) y)

abbrev pub adds_operand : Operand → Adds
adds_operand o x = reads_one o.value (operated o.operator x)

abbrev pub adds_part : Reads CoreExpr → Adds
adds_part y x = reads_one y (λ z. linked x (acting op.Then z))

-- ---- links (11.2), elements (11.1.4), properties (11.1.5)

abbrev pub with_parts : CoreOp → Option Site → CoreExpr → List CoreExpr → CoreExpr
with_parts o site x parts = linked x (link.Strict o parts site)

pub record FunctionRead : Type 0 where
  pub name : Option (List ℕ)
  pub reads : Bool → Reads FunctionId

abbrev pub closure : FunctionId → CoreExpr
closure f = alone (head.Function f)

-- 13: a function expression knows its own name
abbrev pub function_read : FunctionRead → Reads CoreExpr
function_read f = reads_one (f.reads true) closure

abbrev pub Places : Type 0
Places = Span → Adds

abbrev pub Layer : (Type 0 → Type 0 → Type 0 → Type 0 → Type 0 → Type 0 → Type 0 → Type 0 → Type 0 → Type 0 → Type 0 → Type 0 → Type 0 → Type 0) → Type 0 → Type 0 → Type 0 → Type 0 → Type 0 → Type 0 → Type 0 → Type 0
Layer Of Begin Stats Block Case Catch Condition Declared = Of Adds (Reads CoreExpr) Begin Places Adds Stats Block Case Catch Condition Declared FunctionRead Operand

abbrev pub element_step : {F S B C H D V : Type 0} → Layer Element5-F F S B C H D V → Adds
element_step layer.Hole x = gives (linked x (act op.Hole))
element_step (layer.Element y) x = reads_one y (λ z. linked x (acting op.Element z))

abbrev pub property_step : {F S B C H D V : Type 0} → Layer Property5-F F S B C H D V → Adds
property_step (layer.Plain span k y) x = reads_one y (λ z. linked x (acting (op.Define (key_of k.key)) z))
property_step (layer.Getter span k f) x = reads_one (function_read f) (λ z. linked x (acting (op.Getter (key_of k.key)) z))
property_step (layer.Setter span k f) x = reads_one (function_read f) (λ z. linked x (acting (op.Setter (key_of k.key)) z))

abbrev pub link_step : {F S B C H D V : Type 0} → Sites → Layer Link5-F F S B C H D V → Places
link_step sites (layer.Member span word) place x = gives (linked x (act (op.Member (key.WordKey word))))
link_step sites (layer.Index span y) place x = reads_one y (λ z. linked x (acting op.Index z))
link_step sites (layer.Call span ys site) place x =
    reads_one (reads_each ys) (with_parts op.Call (site_by sites place site) x)

abbrev pub operand_step : {F S B C H D V : Type 0} → Layer Operand5-F F S B C H D V → Operand
operand_step o = record { operator = o.operator; value = o.value }

-- ---- expressions

abbrev pub conditional : CoreExpr → CoreExpr → CoreExpr → CoreExpr
conditional test taken other = linked test (link.Lazy when.Choice taken (Some other))

abbrev pub expr_step : {F S B C H D V : Type 0} → Sites → Layer Expr5-F F S B C H D V → Reads CoreExpr
expr_step sites (layer.This span) = gives (alone head.This)
expr_step sites (layer.Name span name) = reads_one (named name) name_read
expr_step sites (layer.Literal span l) = gives (alone (head.Constant (literal_of l)))
expr_step sites (layer.ArrayList span elements) = adds_each elements (alone head.ArrayList)
expr_step sites (layer.ObjectList span properties) = adds_each properties (alone head.ObjectList)
expr_step sites (layer.Function f) = function_read f
expr_step sites (layer.Chain span first links) = reads_then first (adds_each (map (λ l. l span) links))
expr_step sites (layer.New span callee ys) =
    reads_both callee (reads_each ys) (with_parts op.New (site_by sites span None))
expr_step sites (layer.Update span u target) = reads_one target (λ x. stepped_to x (update_of u) (name_of x))
expr_step sites (layer.Unary span u operand) = reads_one operand (with_unary u)
expr_step sites (layer.Binary span first rest) = reads_then first (adds_each (map adds_operand rest))
expr_step sites (layer.Conditional span test taken other) =
    reads_then test (λ t. reads_both taken other (conditional t))
expr_step sites (layer.Assign span o target value) = reads_both target value (assigned (compound_of o))
expr_step sites (layer.Sequence span first rest) = reads_then first (adds_each (map adds_part rest))
