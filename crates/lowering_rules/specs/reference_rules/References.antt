-- Names, properties and calls (ECMA-262, 6th edition, 6.2.3, 12.1, 12.3 to 12.5 and 12.14).
use Rattle.std.specs.Prelude.{Bool, true, false, not, ◌&&◌, ◌||◌, cond, List, [], ◌∷◌, Option, None, Some}
use Rattle.std.specs.List.{flat_map, list_any}
use Rattle.es_outside.specs.declared.events.Site.{Site}
use Rattle.core_ast.specs.declared.parts.Binary.{Binary}
use Rattle.core_ast.specs.declared.parts.Binary.TheVariants.{Add, Subtract}
use Rattle.core_ast.specs.declared.parts.CoreHead.{CoreHead}
use Rattle.core_ast.specs.declared.parts.CoreHead.TheVariants as head
use Rattle.core_ast.specs.declared.parts.CoreOp.{CoreOp}
use Rattle.core_ast.specs.declared.parts.CoreOp.TheVariants as op
use Rattle.core_ast.specs.declared.parts.Key.TheVariants.{TextKey}
use Rattle.core_ast.specs.declared.parts.Primitive.TheVariants.{CheckReady, Construct, IterStart, Power, RefuseConst}
use Rattle.core_ast.specs.declared.parts.Unary.TheVariants.{Plus, Typeof}
use Rattle.core_ast.specs.declared.parts.Update.{Update}
use Rattle.core_ast.specs.declared.parts.Update.TheVariants.{DecrementAfter, DecrementBefore, IncrementAfter, IncrementBefore}
use Rattle.core_ast.specs.declared.parts.Var.{Var}
use Rattle.core_ast.specs.declared.tree.CoreExpr.{CoreExpr, out-CoreExpr}
use Rattle.core_ast.specs.declared.tree.CoreLink.TheVariants as link
use Rattle.core_ast.specs.declared.tree.CoreStat.{CoreStat}
use Rattle.core_ast.specs.Lawful.{is_empty}
use Rattle.core_ast.specs.Made.{act, expression, linked, undefined, variable}
use Rattle.lowering_rules.specs.declared.expressions.ListPart.{ListPart}
use Rattle.lowering_rules.specs.declared.expressions.ListPart.TheVariants.{Missing, Single, Spread}
use Rattle.lowering_rules.specs.declared.naming.Names.{Names}
use Rattle.lowering_rules.specs.declared.patterns.MemberTarget.{MemberTarget}
use Rattle.lowering_rules.specs.declared.patterns.PropertyName.{PropertyName}
use Rattle.lowering_rules.specs.declared.patterns.PropertyName.TheVariants.{Computed, Iterator, Literal}
use Rattle.lowering_rules.specs.declared.patterns.VariableTarget.{VariableTarget}
use Rattle.lowering_rules.specs.declared.reference_rules.references.Callee.{Callee}
use Rattle.lowering_rules.specs.declared.reference_rules.references.Compound.{Compound}
use Rattle.lowering_rules.specs.declared.reference_rules.references.Compound.TheVariants.{Operates, Powers}
use Rattle.lowering_rules.specs.declared.reference_rules.references.MemberName.{MemberName}
use Rattle.lowering_rules.specs.declared.reference_rules.references.MemberName.TheVariants.{AtIterator, Indexed, Named}
use Rattle.lowering_rules.specs.declared.reference_rules.references.NamedValue.{NamedValue}
use Rattle.lowering_rules.specs.declared.reference_rules.references.NamedValue.TheVariants.{GlobalName, HostName, UndefinedName, VariableName}
use Rattle.lowering_rules.specs.declared.reference_rules.references.Reached.{Reached}
use Rattle.lowering_rules.specs.declared.reference_rules.references.Reached.TheVariants.{Inherited, Property, Value, Variable}
use Rattle.lowering_rules.specs.Expressions.{arguments, call, spread_call, tagged}
use Rattle.lowering_rules.specs.Making.{flag, number, primitive, stored, then, through_with, to_text, two}
use Rattle.lowering_rules.specs.Naming.{Drawn, with_temporary}
use Rattle.lowering_rules.specs.reference_rules.Drawing.{drawn, made_of, with_one}
use Rattle.lowering_rules.specs.Patterns.{at_name, base_name, iterator_name, member_at, property_read}
use Rattle.core_ast.specs.Names.{next}

-- ---- names (12.1.6)

-- ReferenceError where it is uninitialized (8.1.1.1.6)
abbrev pub variable_read : Var → Bool → CoreExpr
variable_read x checked = expression None (head.Variable x) (cond checked (act (op.Primitive CheckReady) ∷ []) [])

unfoldable pub found : NamedValue → Reached
found UndefinedName = Value undefined
found (GlobalName g) = Value (expression None (head.Global g) [])
found (HostName h) = Value (expression None (head.Host h) [])
found (VariableName t imported) = Variable t imported

-- `typeof` (12.5.6.1): of a name too it is that of the value, since each name of a module is bound
abbrev pub type_of : CoreExpr → CoreExpr
type_of x = linked x (act (op.Unary Typeof))

-- ---- operators of assignments

unfoldable pub operation : Compound → CoreOp
operation (Operates b) = op.Operator b
operation Powers = op.Primitive Power

abbrev pub operated : CoreExpr → Compound → CoreExpr → CoreExpr
operated x c y = two x (operation c) y

-- `++` and `--` (12.4, 12.5.7, 12.5.8): the value before as a number, and one more or less
abbrev pub as_number : CoreExpr → CoreExpr
as_number x = linked x (act (op.Unary Plus))

unfoldable pub by_one : Update → Binary
by_one IncrementBefore = Add
by_one DecrementBefore = Subtract
by_one IncrementAfter = Add
by_one DecrementAfter = Subtract

unfoldable pub gives_old : Update → Bool
gives_old IncrementBefore = false
gives_old DecrementBefore = false
gives_old IncrementAfter = true
gives_old DecrementAfter = true

abbrev pub one_further : Update → CoreExpr → CoreExpr
one_further u x = two x (op.Operator (by_one u)) (number 1)

-- ---- names that are written (12.14.4, 8.1.1.1.5)

abbrev pub refused : CoreExpr → CoreExpr
refused e = then e (primitive RefuseConst)

-- the value of the expression, unless the name is constant; no check
abbrev pub written : VariableTarget → CoreExpr → CoreExpr
written t e = cond t.constant (refused e) (stored t.var e)

abbrev pub ready : Var → CoreExpr
ready x = variable_read x true

-- the value, the check of the name, and then the write
abbrev pub written_ready : VariableTarget → Var → CoreExpr → CoreExpr
written_ready t v e = then (then (stored v e) (ready t.var)) (stored t.var (variable v))

abbrev pub checked_written : VariableTarget → CoreExpr → Names → Drawn CoreExpr
checked_written t e n =
    cond t.constant (drawn (refused (then e (ready t.var))) n) (with_one (λ v. written_ready t v e) n)

-- an import's own binding is initialized, so an assignment checks nothing (8.1.1.5.5)
abbrev pub plain_target : VariableTarget → Bool → VariableTarget
plain_target t imported = record t { checked = t.checked && not imported }

-- `x = e`
abbrev pub name_assigned : VariableTarget → CoreExpr → Names → Drawn CoreExpr
name_assigned t e n = cond t.checked (checked_written t e n) (drawn (written t e) n)

-- `x op= e`: the name is checked when it is read, an import too
abbrev pub old_value : VariableTarget → CoreExpr
old_value t = variable_read t.var t.checked

abbrev pub name_operated : VariableTarget → Compound → CoreExpr → CoreExpr
name_operated t c e = written t (operated (old_value t) c e)

-- `++x`, `x++`: of the latter the old number is kept
abbrev pub name_updated_after : VariableTarget → Update → Var → CoreExpr
name_updated_after t u v =
    then (then (stored v (as_number (old_value t))) (written t (one_further u (variable v)))) (variable v)

abbrev pub name_updated_before : VariableTarget → Update → CoreExpr
name_updated_before t u = written t (one_further u (as_number (old_value t)))

abbrev pub name_updated : VariableTarget → Update → Names → Drawn CoreExpr
name_updated t u n = cond (gives_old u) (with_one (name_updated_after t u) n) (drawn (name_updated_before t u) n)

-- ---- properties (12.3.2.1)

-- as a reference
unfoldable pub member : CoreExpr → MemberName → CoreExpr
member object (Named key) = at_name object key
member object (Indexed key) = two object op.Index key
member object AtIterator = at_name object (TextKey iterator_name)

unfoldable pub member_read : CoreExpr → MemberName → CoreExpr
member_read object (Named key) = at_name object key
member_read object (Indexed key) = two object op.Index key
member_read object AtIterator = through_with object IterStart (number 1)

-- `delete` (12.5.4.2): of a property, and of what is no reference
abbrev pub member_deleted : CoreExpr → MemberName → CoreExpr
member_deleted object name = linked (member object name) (act op.Delete)

abbrev pub value_deleted : CoreExpr → CoreExpr
value_deleted x = then x (flag true)

-- ---- properties that are written: the object, and the key where it is computed, stand in temporaries

unfoldable pub drawn_name : MemberName → Names → Drawn PropertyName
drawn_name (Named key) n = drawn (Literal key) n
drawn_name (Indexed key) n = with_one (λ kept. Computed kept key) n
drawn_name AtIterator n = drawn Iterator n

abbrev pub drawn_member : CoreExpr → MemberName → Names → Drawn MemberTarget
drawn_member object name n =
    made_of (λ p. record { base = next n.fresh; object = object; name = p }) (drawn_name name (with_temporary n))

abbrev pub base_checked : Var → CoreExpr
base_checked x = at_name (variable x) (TextKey base_name)

-- the object and its check, between them the value of the name where it is computed, and then the one conversion of that
abbrev pub settled_object : Var → CoreExpr → CoreExpr
settled_object base object = then (stored base object) (base_checked base)

abbrev pub settled_key : Var → CoreExpr → Var → CoreExpr → CoreExpr
settled_key base object kept key = then (then (stored base object) (stored kept key)) (base_checked base)

abbrev pub converted : Var → CoreExpr
converted kept = stored kept (to_text (variable kept))

abbrev pub settled_computed : Var → CoreExpr → Var → CoreExpr → CoreExpr
settled_computed base object kept key = then (settled_key base object kept key) (converted kept)

unfoldable pub settled : Var → CoreExpr → PropertyName → CoreExpr
settled base object (Literal key) = settled_object base object
settled base object (Computed kept key) = settled_computed base object kept key
settled base object Iterator = settled_object base object

abbrev pub settled_first : MemberTarget → CoreExpr → CoreExpr
settled_first t x = then (settled t.base t.object t.name) x

abbrev pub put_at : MemberTarget → CoreExpr → CoreExpr
put_at t e = two (member_at t.base t.name) op.Put e

abbrev pub old_at : MemberTarget → CoreExpr
old_at t = property_read t.base t.name

-- what does nothing and can't throw, so that it doesn't matter when it is evaluated
unfoldable pub is_still_head : CoreHead → Bool
is_still_head (head.Constant c) = true
is_still_head (head.Variable x) = true
is_still_head (head.Global g) = true
is_still_head head.This = true
is_still_head head.ArrayList = true
is_still_head head.ObjectList = true
is_still_head (head.Function f) = true
is_still_head h = false

abbrev pub is_still : CoreExpr → Bool
is_still x = is_empty (out-CoreExpr x).links && is_still_head (out-CoreExpr x).head

-- `o.k = e`, `o[k] = e` (12.14.4): the property is settled before e is evaluated, unless that can't be seen
unfoldable pub is_direct : MemberName → CoreExpr → Bool
is_direct (Named key) e = is_still e
is_direct (Indexed key) e = false
is_direct AtIterator e = false

abbrev pub settled_assigned : CoreExpr → MemberName → CoreExpr → Names → Drawn CoreExpr
settled_assigned object name e n = made_of (λ t. settled_first t (put_at t e)) (drawn_member object name n)

abbrev pub member_assigned : CoreExpr → MemberName → CoreExpr → Names → Drawn CoreExpr
member_assigned object name e n =
    cond (is_direct name e) (drawn (two (member object name) op.Put e) n) (settled_assigned object name e n)

-- `o.k op= e`, `o[k] op= e`
abbrev pub operated_in : MemberTarget → Compound → CoreExpr → CoreExpr
operated_in t c e = settled_first t (put_at t (operated (old_at t) c e))

abbrev pub settled_operated : CoreExpr → MemberName → Compound → CoreExpr → Names → Drawn CoreExpr
settled_operated object name c e n = made_of (λ t. operated_in t c e) (drawn_member object name n)

unfoldable pub member_operated : CoreExpr → MemberName → Compound → CoreExpr → Names → Drawn CoreExpr
member_operated object (Named key) (Operates b) e n = drawn (two (at_name object key) (op.Update b) e) n
member_operated object (Named key) Powers e n = settled_operated object (Named key) Powers e n
member_operated object (Indexed key) c e n = settled_operated object (Indexed key) c e n
member_operated object AtIterator c e n = settled_operated object AtIterator c e n

-- `++o.k`, `o[k]++`
abbrev pub updated_at : MemberTarget → Update → CoreExpr
updated_at t u = settled_first t (put_at t (one_further u (as_number (old_at t))))

abbrev pub updated_after_at : MemberTarget → Update → Var → CoreExpr
updated_after_at t u v =
    then (then (settled_first t (stored v (as_number (old_at t)))) (put_at t (one_further u (variable v)))) (variable v)

abbrev pub updated_in : Update → Drawn MemberTarget → Drawn CoreExpr
updated_in u d = cond (gives_old u) (with_one (updated_after_at d.value u) d.names) (made_of (λ t. updated_at t u) d)

abbrev pub settled_updated : CoreExpr → MemberName → Update → Names → Drawn CoreExpr
settled_updated object name u n = updated_in u (drawn_member object name n)

unfoldable pub member_updated : CoreExpr → MemberName → Update → Names → Drawn CoreExpr
member_updated object (Named key) u n = drawn (linked (at_name object key) (act (op.Step u))) n
member_updated object (Indexed key) u n = settled_updated object (Indexed key) u n
member_updated object AtIterator u n = settled_updated object AtIterator u n

-- ---- patterns that are assigned in an expression (12.14.4): v keeps the right side, which is the value of the whole
abbrev pub pattern_assigned : CoreExpr → Var → List CoreStat → CoreExpr
pattern_assigned right v statements = then (linked (stored v right) (link.Run statements)) (variable v)

-- ---- what expressions come to, and chains of accesses and calls (6.2.3, 12.3)

-- GetValue (6.2.3.1)
unfoldable pub value_of : Reached → CoreExpr
value_of (Value x) = x
value_of (Variable t imported) = old_value t
value_of (Property object name) = member_read object name
value_of (Inherited x this) = x

-- PutValue (6.2.3.2) and `delete` (12.5.4.2). A module of the profile writes and deletes nothing of `super`, writes no plain
-- value, and deletes no name.
unfoldable pub assigned : Reached → CoreExpr → Names → Drawn CoreExpr
assigned (Value x) e n = drawn (then x e) n
assigned (Variable t imported) e n = name_assigned (plain_target t imported) e n
assigned (Property object name) e n = member_assigned object name e n
assigned (Inherited x this) e n = drawn (then x e) n

unfoldable pub operated_at : Reached → Compound → CoreExpr → Names → Drawn CoreExpr
operated_at (Value x) c e n = drawn (operated x c e) n
operated_at (Variable t imported) c e n = drawn (name_operated t c e) n
operated_at (Property object name) c e n = member_operated object name c e n
operated_at (Inherited x this) c e n = drawn (operated x c e) n

unfoldable pub updated : Reached → Update → Names → Drawn CoreExpr
updated (Value x) u n = drawn (as_number x) n
updated (Variable t imported) u n = name_updated t u n
updated (Property object name) u n = member_updated object name u n
updated (Inherited x this) u n = drawn (as_number x) n

unfoldable pub deleted : Reached → CoreExpr
deleted (Value x) = value_deleted x
deleted (Variable t imported) = value_deleted (old_value t)
deleted (Property object name) = member_deleted object name
deleted (Inherited x this) = value_deleted x

-- a `.k` or `[k]` more
abbrev pub accessed : Reached → MemberName → Reached
accessed r name = Property (value_of r) name

-- the function of a call with its receiver (12.3.4.2): the object of a property stands in a temporary where the call can't
-- take it from the reference, that is where the arguments are a list, and where the property isn't read by its name
abbrev pub callee_kept : CoreExpr → MemberName → Names → Drawn Callee
callee_kept object name n =
    with_one (λ t. record { function = member_read (stored t object) name; receiver = Some (variable t) }) n

abbrev pub callee_alone : CoreExpr → Callee
callee_alone x = record { function = x; receiver = None }

unfoldable pub is_iterator : MemberName → Bool
is_iterator (Named key) = false
is_iterator (Indexed key) = false
is_iterator AtIterator = true

unfoldable pub callee : Bool → Reached → Names → Drawn Callee
callee listed (Value x) n = drawn (callee_alone x) n
callee listed (Variable t imported) n = drawn (callee_alone (old_value t)) n
callee listed (Inherited x this) n = drawn (record { function = x; receiver = Some this }) n
callee listed (Property object name) n =
    cond (listed || is_iterator name) (callee_kept object name n) (drawn (callee_alone (member object name)) n)

unfoldable pub is_spread : ListPart → Bool
is_spread (Single x) = false
is_spread (Spread x) = true
is_spread Missing = false

unfoldable pub single : ListPart → List CoreExpr
single (Single x) = x ∷ []
single (Spread x) = []
single Missing = []

abbrev pub listed_call : Reached → List ListPart → Option Site → Names → Drawn CoreExpr
listed_call r parts site n = made_of (λ c. spread_call c.function c.receiver parts site) (callee true r n)

abbrev pub plain_call : Reached → List ListPart → Option Site → Names → Drawn CoreExpr
plain_call r parts site n = made_of (λ c. call c.function c.receiver (flat_map single parts) site) (callee false r n)

-- `f(a)`, `o.k(a)`, `super.k(a)`, each with spread arguments too (12.3.4.1, 12.3.5.1)
abbrev pub called : Reached → List ListPart → Option Site → Names → Drawn CoreExpr
called r parts site n = cond (list_any is_spread parts) (listed_call r parts site n) (plain_call r parts site n)

-- a tagged template (12.3.7.1)
abbrev pub called_as_tag : Reached → CoreExpr → List CoreExpr → Option Site → Names → Drawn CoreExpr
called_as_tag r object values site n =
    made_of (λ c. tagged c.function c.receiver object values site) (callee false r n)

-- `new` (12.3.3.1)
abbrev pub constructed : Reached → List ListPart → Option Site → CoreExpr
constructed r parts site = linked (value_of r) (link.Strict (op.Primitive Construct) (arguments parts ∷ []) site)
