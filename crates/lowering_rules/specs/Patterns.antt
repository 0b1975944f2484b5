-- Patterns (ECMA-262, 6th edition, 12.14.5 and 13.3.3). What a part goes to is evaluated before the part's value is taken, then
-- comes the default, and then the value is put there.
use Rattle.std.specs.Prelude.{ℕ, true, false, cond, List, [], ◌∷◌, ◌++◌, Option, None, Some}
use Rattle.std.specs.List.{flat_map}
use Rattle.core_ast.specs.declared.parts.CoreHead.TheVariants as head
use Rattle.core_ast.specs.declared.parts.CoreOp.TheVariants as op
use Rattle.core_ast.specs.declared.parts.Key.{Key}
use Rattle.core_ast.specs.declared.parts.Key.TheVariants.{TextKey}
use Rattle.core_ast.specs.declared.parts.Primitive.TheVariants.{CheckReady, IterStart, RefuseConst}
use Rattle.core_ast.specs.declared.parts.Var.{Var}
use Rattle.core_ast.specs.declared.tree.CoreExpr.{CoreExpr}
use Rattle.core_ast.specs.declared.tree.CoreStat.{CoreStat}
use Rattle.core_ast.specs.declared.tree.CoreStat.TheVariants as stat
use Rattle.core_ast.specs.Made.{act, expression, linked, undefined, variable}
use Rattle.lowering_rules.specs.declared.naming.Iteration.{Iteration}
use Rattle.lowering_rules.specs.declared.patterns.ArrayPart.{ArrayPart}
use Rattle.lowering_rules.specs.declared.patterns.ArrayPart.TheVariants.{Element, Elision, Rest}
use Rattle.lowering_rules.specs.declared.patterns.MemberTarget.{MemberTarget}
use Rattle.lowering_rules.specs.declared.patterns.ObjectPart.{ObjectPart}
use Rattle.lowering_rules.specs.declared.patterns.PropertyName.{PropertyName}
use Rattle.lowering_rules.specs.declared.patterns.PropertyName.TheVariants.{Computed, Iterator, Literal}
use Rattle.lowering_rules.specs.declared.patterns.Target.{Target}
use Rattle.lowering_rules.specs.declared.patterns.VariableTarget.{VariableTarget}
use Rattle.lowering_rules.specs.Iteration.{closing, has_result, iterator_of, stepped, value_of}
use Rattle.lowering_rules.specs.Making.{defaulted, flag, initialize, number, primitive, set, through, through_with, to_text, two, when}

-- ---- properties

abbrev pub at_name : CoreExpr → Key → CoreExpr
at_name x key = linked x (act (op.Member key))

abbrev pub at_key : CoreExpr → Var → CoreExpr
at_key x kept = two x op.Index (variable kept)

-- the name of the property [Symbol.iterator]
abbrev pub iterator_name : List ℕ
iterator_name = 64 ∷ 64 ∷ 105 ∷ 116 ∷ 101 ∷ 114 ∷ 97 ∷ 116 ∷ 111 ∷ 114 ∷ []

-- RequireObjectCoercible (7.2.1): throws where the value has no properties, since no property has this name
abbrev pub base_name : List ℕ
base_name = 64 ∷ 64 ∷ 98 ∷ 97 ∷ 115 ∷ 101 ∷ []

abbrev pub base_check : Var → CoreStat
base_check x = stat.Do (at_name (variable x) (TextKey base_name))

-- a computed name is evaluated, and converted to a key (12.2.6.8)
unfoldable pub name_kept : PropertyName → List CoreStat
name_kept (Literal key) = []
name_kept (Computed kept key) = set kept (to_text key) ∷ []
name_kept Iterator = []

unfoldable pub property_read : Var → PropertyName → CoreExpr
property_read x (Literal key) = at_name (variable x) key
property_read x (Computed kept key) = at_key (variable x) kept
property_read x Iterator = through_with (variable x) IterStart (number 1)

-- ---- what a value goes to; it stands in the variable v

-- a name that is declared (13.3.3.7)
abbrev pub initialized : Var → Var → List CoreStat
initialized x v = initialize x (variable v) ∷ []

-- a name that is assigned: a check where it may be uninitialized, and a refusal where it is constant (8.1.1.1.5)
abbrev pub name_checked : VariableTarget → List CoreStat
name_checked t = cond t.checked (stat.Do (through (variable t.var) CheckReady) ∷ []) []

abbrev pub name_put : VariableTarget → Var → CoreStat
name_put t v = cond t.constant (stat.Do (primitive RefuseConst)) (set t.var (variable v))

abbrev pub assigned : VariableTarget → Var → List CoreStat
assigned t v = name_checked t ++ name_put t v ∷ []

-- a property: its object and the value of its name, then the check of the object and the conversion of the name (12.3.2.1)
unfoldable pub member_found : Var → PropertyName → List CoreStat
member_found base (Literal key) = base_check base ∷ []
member_found base (Computed kept key) = set kept key ∷ base_check base ∷ set kept (to_text (variable kept)) ∷ []
member_found base Iterator = base_check base ∷ []

abbrev pub member_before : MemberTarget → List CoreStat
member_before t = set t.base t.object ∷ member_found t.base t.name

unfoldable pub member_at : Var → PropertyName → CoreExpr
member_at base (Literal key) = at_name (variable base) key
member_at base (Computed kept key) = at_key (variable base) kept
member_at base Iterator = at_name (variable base) (TextKey iterator_name)

abbrev pub member_after : MemberTarget → Var → List CoreStat
member_after t v = stat.Do (two (member_at t.base t.name) op.Put (variable v)) ∷ []

abbrev pub declared_target : Var → Option CoreExpr → Var → Target
declared_target x default v = record { before = []; default = default; after = initialized x v }

abbrev pub assigned_target : VariableTarget → Option CoreExpr → Var → Target
assigned_target t default v = record { before = []; default = default; after = assigned t v }

abbrev pub member_target : MemberTarget → Option CoreExpr → Var → Target
member_target t default v = record { before = member_before t; default = default; after = member_after t v }

-- ---- object patterns (12.14.5.4, 13.3.3.7) on the variable s; v takes each value

abbrev pub object_part : Var → Var → ObjectPart → List CoreStat
object_part s v p =
    name_kept p.name ++ p.target.before ++ set v (property_read s p.name) ∷ defaulted v p.target.default ++ p.target.after

abbrev pub object_pattern : Var → Var → List ObjectPart → List CoreStat
object_pattern s v parts = base_check s ∷ flat_map (object_part s v) parts

-- ---- array patterns (12.14.5.3, 13.3.3.6)

-- a step, and what is done with its result if there is one
abbrev pub step_then : Iteration → List CoreStat → List CoreStat
step_then i body =
    set i.is_open (flag false)
    ∷ stat.Do (stepped i)
    ∷ when (has_result i) (body ++ set i.is_open (flag true) ∷ [])
    ∷ []

-- the value of the next step, or undefined behind the last
abbrev pub element_taken : Iteration → List CoreStat
element_taken i =
    set i.value undefined ∷ when (variable i.is_open) (step_then i (set i.value (value_of i) ∷ [])) ∷ []

-- an array of the values of all further steps
abbrev pub rest_taken : Iteration → List CoreStat
rest_taken i =
    set i.value (expression None head.ArrayList [])
    ∷ stat.Loop [] (Some (variable i.is_open)) None (step_then i (stat.Do (two (variable i.value) op.Element (value_of i)) ∷ []))
    ∷ []

unfoldable pub array_part : Iteration → ArrayPart → List CoreStat
array_part i Elision = when (variable i.is_open) (step_then i []) ∷ []
array_part i (Element t) = t.before ++ element_taken i ++ defaulted i.value t.default ++ t.after
array_part i (Rest t) = t.before ++ rest_taken i ++ t.after

-- the iterator is closed behind the last part, unless it is done
abbrev pub array_pattern : Iteration → CoreExpr → List ArrayPart → List CoreStat
array_pattern i subject parts =
    set i.iterator (iterator_of subject)
    ∷ set i.is_open (flag true)
    ∷ closing i (flat_map (array_part i) parts)
    ∷ []
