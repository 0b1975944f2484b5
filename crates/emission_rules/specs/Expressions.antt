-- What is written for what an expression begins with, and for what is done to the current value.
use Rattle.std.specs.Prelude.{ℕ, Bool, cond, true, false, codes, List, [], ◌∷◌, ◌++◌, Option, None, Some}
use Rattle.es_outside.specs.declared.events.Site.{Site}
use Rattle.core_ast.specs.declared.parts.Var.{Var}
use Rattle.core_ast.specs.declared.parts.Binary.{Binary}
use Rattle.core_ast.specs.declared.parts.Binary.TheVariants as binary
use Rattle.core_ast.specs.declared.parts.Unary.{Unary}
use Rattle.core_ast.specs.declared.parts.Unary.TheVariants as unary
use Rattle.core_ast.specs.declared.parts.Update.{Update}
use Rattle.core_ast.specs.declared.parts.Update.TheVariants as update
use Rattle.core_ast.specs.declared.parts.When.{When}
use Rattle.core_ast.specs.declared.parts.When.TheVariants as when
use Rattle.core_ast.specs.declared.parts.Constant.{Constant}
use Rattle.core_ast.specs.declared.parts.Constant.TheVariants as constant
use Rattle.core_ast.specs.declared.parts.Global.{Global}
use Rattle.core_ast.specs.declared.parts.Global.TheVariants as global
use Rattle.core_ast.specs.declared.parts.Key.{Key}
use Rattle.core_ast.specs.declared.parts.CoreHead.{CoreHead}
use Rattle.core_ast.specs.declared.parts.CoreHead.TheVariants as head
use Rattle.core_ast.specs.declared.parts.CoreOp.{CoreOp}
use Rattle.core_ast.specs.declared.parts.CoreOp.TheVariants as op
use Rattle.core_ast.specs.declared.parts.Primitive.TheVariants.{AccessorPut, Construct, MethodPut, SpreadList}
use Rattle.es5_ast.specs.declared.operators.AssignOperator5.{AssignOperator5}
use Rattle.es5_ast.specs.declared.operators.AssignOperator5.TheVariants as assign5
use Rattle.es5_ast.specs.declared.operators.BinaryOperator5.{BinaryOperator5}
use Rattle.es5_ast.specs.declared.operators.BinaryOperator5.TheVariants as binary5
use Rattle.es5_ast.specs.declared.operators.UnaryOperator5.{UnaryOperator5}
use Rattle.es5_ast.specs.declared.operators.UnaryOperator5.TheVariants as unary5
use Rattle.es5_ast.specs.declared.operators.UpdateOperator5.{UpdateOperator5}
use Rattle.es5_ast.specs.declared.operators.UpdateOperator5.TheVariants as update5
use Rattle.es5_ast.specs.declared.operators.Literal5.TheVariants as literal
use Rattle.es5_ast.specs.declared.tree.Expr5.{Expr5, out-Expr5}
use Rattle.es5_ast.specs.declared.tree.Expr5.TheVariants as expr
use Rattle.es5_ast.specs.declared.tree.Element5.TheVariants as element
use Rattle.es5_ast.specs.declared.tree.Element5.TheOpen as layer
use Rattle.emission_rules.specs.declared.scene.Closure.{Closure}
use Rattle.emission_rules.specs.declared.scene.Current.{Current}
use Rattle.emission_rules.specs.declared.scene.Scene.{Scene}
use Rattle.emission_rules.specs.Nodes.{Layer5, applied, assigned, called, called_by, chained, index, integer, key_name, key_value, keyed, member, name, nothing, nowhere, operated, plain, stored, text, then, this}
use Rattle.emission_rules.specs.Primitives.{apply_name, call_name, cell_key, concealed, empty_name, framed, helper_name, or_nothing, primitive_emitted, self_key, shown}
use Rattle.emission_rules.specs.Scenes.{Emits, asking, frame_used, gives, name_of, text_at}
use Rattle.emission_rules.specs.Slots.{left, taken}

-- ---- operators

unfoldable pub binary_operator : Binary → BinaryOperator5
binary_operator binary.BitOr = binary5.BitOr
binary_operator binary.BitXor = binary5.BitXor
binary_operator binary.BitAnd = binary5.BitAnd
binary_operator binary.Equal = binary5.Equal
binary_operator binary.NotEqual = binary5.NotEqual
binary_operator binary.Same = binary5.Same
binary_operator binary.NotSame = binary5.NotSame
binary_operator binary.Less = binary5.Less
binary_operator binary.Greater = binary5.Greater
binary_operator binary.AtMost = binary5.AtMost
binary_operator binary.AtLeast = binary5.AtLeast
binary_operator binary.InstanceOf = binary5.InstanceOf
binary_operator binary.In = binary5.In
binary_operator binary.ShiftLeft = binary5.ShiftLeft
binary_operator binary.ShiftRight = binary5.ShiftRight
binary_operator binary.ShiftRightUnsigned = binary5.ShiftRightUnsigned
binary_operator binary.Add = binary5.Add
binary_operator binary.Subtract = binary5.Subtract
binary_operator binary.Multiply = binary5.Multiply
binary_operator binary.Divide = binary5.Divide
binary_operator binary.Remainder = binary5.Remainder

-- 11.13.2: a comparison has no such operator
unfoldable pub assign_operator : Binary → AssignOperator5
assign_operator binary.BitOr = assign5.BitOrAssign
assign_operator binary.BitXor = assign5.BitXorAssign
assign_operator binary.BitAnd = assign5.BitAndAssign
assign_operator binary.ShiftLeft = assign5.ShiftLeftAssign
assign_operator binary.ShiftRight = assign5.ShiftRightAssign
assign_operator binary.ShiftRightUnsigned = assign5.ShiftRightUnsignedAssign
assign_operator binary.Add = assign5.AddAssign
assign_operator binary.Subtract = assign5.SubtractAssign
assign_operator binary.Multiply = assign5.MultiplyAssign
assign_operator binary.Divide = assign5.DivideAssign
assign_operator binary.Remainder = assign5.RemainderAssign
assign_operator b = assign5.Assign

unfoldable pub unary_operator : Unary → UnaryOperator5
unary_operator unary.Void = unary5.Void
unary_operator unary.Typeof = unary5.Typeof
unary_operator unary.Plus = unary5.Plus
unary_operator unary.Minus = unary5.Minus
unary_operator unary.BitNot = unary5.BitNot
unary_operator unary.Not = unary5.Not

unfoldable pub update_operator : Update → UpdateOperator5
update_operator update.IncrementBefore = update5.IncrementBefore
update_operator update.DecrementBefore = update5.DecrementBefore
update_operator update.IncrementAfter = update5.IncrementAfter
update_operator update.DecrementAfter = update5.DecrementAfter

-- ---- heads

unfoldable pub constant_emitted : Constant → Expr5
constant_emitted constant.Undefined = nothing
constant_emitted constant.Null = expr.Literal nowhere literal.Null
constant_emitted (constant.Truth b) = expr.Literal nowhere (literal.Truth b)
constant_emitted (constant.Integer n) = integer n
constant_emitted (constant.Text units) = text units

unfoldable pub global_name : Global → List ℕ
global_name global.ObjectGlobal = codes "Object"
global_name global.ArrayGlobal = codes "Array"
global_name global.StringGlobal = codes "String"
global_name global.ErrorGlobal = codes "Error"
global_name global.TypeErrorGlobal = codes "TypeError"
global_name global.ReferenceErrorGlobal = codes "ReferenceError"
global_name global.RangeErrorGlobal = codes "RangeError"

abbrev pub named : Scene → Var → Expr5
named s x = name (name_of s x)

-- in the frame, where `this` isn't the function's own
abbrev pub this_emitted : Emits Current
this_emitted s = cond s.framed (gives (framed self_key) (asking frame_used s)) (gives (shown this) s)

abbrev pub closure_or_nothing : Option Closure → Emits Current
closure_or_nothing None s = gives (shown nothing) s
closure_or_nothing (Some c) s = gives (shown c.value) (asking c.uses s)

-- a closure is taken, and what it asks is asked of the function that holds it
abbrev pub closure_emitted : ℕ → Emits Current
closure_emitted f s = closure_or_nothing (taken s.functions f) (record s { functions = left s.functions f })

unfoldable pub head_emitted : CoreHead → Emits Current
head_emitted (head.Constant c) s = gives (shown (constant_emitted c)) s
head_emitted head.Empty s = gives (shown (name empty_name)) s
head_emitted (head.Variable x) s = gives (shown (named s x)) s
head_emitted (head.TypeOf x) s = gives (shown (expr.Unary nowhere unary5.Typeof (named s x))) s
head_emitted (head.Global g) s = gives (shown (name (global_name g))) s
head_emitted (head.Host h) s = gives (shown (name (text_at s.hosts h))) s
head_emitted head.This s = this_emitted s
head_emitted head.ArrayList s = gives (shown (expr.ArrayList nowhere [])) s
head_emitted head.ObjectList s = gives (shown (expr.ObjectList nowhere [])) s
head_emitted head.ArgumentList s = gives (shown (expr.ArrayList nowhere [])) s
head_emitted (head.Function f) s = closure_emitted f.0 s
head_emitted (head.Primitive p) s = primitive_emitted p [] s
head_emitted (head.Copy xs) s = gives (shown nothing) s

-- ---- operations

abbrev pub flag : Bool → Expr5
flag b = expr.Literal nowhere (literal.Truth b)

-- the one part of an operation that has one
abbrev pub first : List Expr5 → Expr5
first [] = nothing
first (x ∷ xs) = x

-- what is called: a read that the core knows nothing of gives no receiver (11.2.3)
abbrev pub callee : Current → Expr5
callee c = cond c.hidden (expr.Sequence nowhere (integer 0) (c.value ∷ [])) c.value

-- an element more: in the literal, or of what is no literal
abbrev pub element_layer : Expr5 → Expr5 → Layer5 → Expr5
element_layer x y (layer.ArrayList span elements) = expr.ArrayList span (elements ++ element.Element y ∷ [])
element_layer x y z = applied (helper_name SpreadList) (x ∷ y ∷ integer 0 ∷ [])

unfoldable pub with_element : Expr5 → Expr5 → Expr5
with_element x y = element_layer x y (out-Expr5 x)

-- engines differ in what a hole of a literal is
abbrev pub with_hole : Expr5 → Expr5
with_hole x = applied (helper_name SpreadList) (x ∷ nothing ∷ integer 2 ∷ [])

-- a property more
abbrev pub property_layer : Expr5 → Key → Expr5 → Layer5 → Expr5
property_layer x k y (layer.ObjectList span properties) = expr.ObjectList span (properties ++ plain (key_name k) y ∷ [])
property_layer x k y z =
    applied (helper_name MethodPut) (x ∷ key_value k ∷ y ∷ flag false ∷ [])

unfoldable pub with_property : Expr5 → Key → Expr5 → Expr5
with_property x k y = property_layer x k y (out-Expr5 x)

abbrev pub with_getter : Expr5 → Key → Expr5 → Expr5
with_getter x k y = applied (helper_name AccessorPut) (x ∷ key_value k ∷ y ∷ flag false ∷ [])

abbrev pub with_setter : Expr5 → Key → Expr5 → Expr5
with_setter x k y = applied (helper_name AccessorPut) (x ∷ key_value k ∷ y ∷ flag true ∷ [])

-- the content of the cell
abbrev pub content : Expr5 → Expr5
content x = member x cell_key

-- 11.2: calls
unfoldable pub call_emitted : CoreOp → List Expr5 → Option Site → Current → Expr5
call_emitted op.Call parts site c = called (callee c) parts site
call_emitted op.CallList parts site c = called_by apply_name (c.value ∷ nothing ∷ parts) site
call_emitted op.CallWith parts site c = called_by call_name (c.value ∷ parts) site
call_emitted op.CallListWith parts site c = called_by apply_name (c.value ∷ parts) site
call_emitted op.New parts site c = expr.New nowhere c.value parts
call_emitted op.NewList parts site c = applied (helper_name Construct) (c.value ∷ parts)
call_emitted o parts site c = c.value

-- what has no part
unfoldable pub alone_emitted : CoreOp → Expr5 → Scene → Expr5
alone_emitted (op.Member k) x s = chained x (keyed k)
alone_emitted op.Delete x s = expr.Unary nowhere unary5.Delete x
alone_emitted (op.Step u) x s = expr.Update nowhere (update_operator u) x
alone_emitted (op.Unary u) x s = expr.Unary nowhere (unary_operator u) x
alone_emitted (op.Set v) x s = stored (named s v) x
alone_emitted (op.Init v) x s = stored (named s v) x
alone_emitted (op.StepVariable u v) x s = expr.Update nowhere (update_operator u) (named s v)
alone_emitted op.Hole x s = with_hole x
alone_emitted o x s = x

-- what has one part, which is the last here
unfoldable pub part_emitted : CoreOp → Expr5 → Expr5 → Expr5
part_emitted op.Index x y = index x y
part_emitted op.Put x y = stored x y
part_emitted (op.Update b) x y = assigned (assign_operator b) x y
part_emitted (op.Operator b) x y = operated x (binary_operator b) y
part_emitted op.Then x y = then x y
part_emitted op.Element x y = with_element x y
part_emitted (op.Define k) x y = with_property x k y
part_emitted (op.Getter k) x y = with_getter x k y
part_emitted (op.Setter k) x y = with_setter x k y
part_emitted op.SetContent x y = stored (content x) y
part_emitted o x y = x

abbrev pub calls : CoreOp → List Expr5 → Option Site → Current → Emits Current
calls o parts site c s = gives (shown (call_emitted o parts site c)) s

abbrev pub alone : CoreOp → Current → Emits Current
alone o c s = gives (shown (alone_emitted o c.value s)) s

abbrev pub with_part : CoreOp → List Expr5 → Current → Emits Current
with_part o parts c s = gives (shown (part_emitted o c.value (first parts))) s

unfoldable pub op_emitted : CoreOp → List Expr5 → Option Site → Current → Emits Current
op_emitted op.Call parts site c s = calls op.Call parts site c s
op_emitted op.CallList parts site c s = calls op.CallList parts site c s
op_emitted op.CallWith parts site c s = calls op.CallWith parts site c s
op_emitted op.CallListWith parts site c s = calls op.CallListWith parts site c s
op_emitted op.New parts site c s = calls op.New parts site c s
op_emitted op.NewList parts site c s = calls op.NewList parts site c s
op_emitted op.Index parts site c s = with_part op.Index parts c s
op_emitted op.Put parts site c s = with_part op.Put parts c s
op_emitted (op.Update b) parts site c s = with_part (op.Update b) parts c s
op_emitted (op.Operator b) parts site c s = with_part (op.Operator b) parts c s
op_emitted op.Then parts site c s = with_part op.Then parts c s
op_emitted op.Element parts site c s = with_part op.Element parts c s
op_emitted (op.Define k) parts site c s = with_part (op.Define k) parts c s
op_emitted (op.Getter k) parts site c s = with_part (op.Getter k) parts c s
op_emitted (op.Setter k) parts site c s = with_part (op.Setter k) parts c s
op_emitted op.SetContent parts site c s = with_part op.SetContent parts c s
op_emitted op.Content parts site c s = gives (concealed (content c.value)) s
op_emitted (op.Primitive p) parts site c s = primitive_emitted p (c.value ∷ parts) s
op_emitted op.Yield parts site c s = gives c s
op_emitted op.Delegate parts site c s = gives c s
op_emitted o parts site c s = alone o c s

-- `&&`, `||`, and `? :` (11.11, 11.12)
unfoldable pub lazy_emitted : When → Expr5 → Option Expr5 → Current → Current
lazy_emitted when.Truthy branch other c = shown (operated c.value binary5.And branch)
lazy_emitted when.Falsy branch other c = shown (operated c.value binary5.Or branch)
lazy_emitted when.Choice branch other c = shown (expr.Conditional nowhere c.value branch (or_nothing other))
