-- Primitive values, and those that pass between a program and its hosts.
use Rattle.std.specs.Prelude.{ℕ, ℤ, pos, Bool, true, false, not, List, [], ◌∷◌, ◌++◌, fold, Option, None, Some, codes}
use Rattle.std.specs.Ordering.{int_eq}
use Rattle.es_value.specs.Convert.{text_of}
use Rattle.es_value.specs.declared.value.Value.{Value}
use Rattle.es_value.specs.declared.value.Value.TheVariants as value
use Rattle.es_outside.specs.declared.primitive.Primitive.{Primitive}
use Rattle.es_outside.specs.declared.primitive.Primitive.TheVariants as primitive
use Rattle.es_heap.specs.declared.class.Class.{Class}
use Rattle.es_heap.specs.declared.key.Key.{Key}
use Rattle.es_heap.specs.declared.key.Key.TheVariants.{Text}
use Rattle.es_heap.specs.Heaps.{Heap, object_at}
use Rattle.es_realm.specs.Look.{is_function}

-- the primitive that a value is
abbrev pub to_prim : Value → Option Primitive
to_prim value.Undefined = Some primitive.Undefined
to_prim value.Null = Some primitive.Null
to_prim (value.Bool b) = Some (primitive.Bool b)
to_prim (value.Number n) = Some (primitive.Number n)
to_prim (value.Text us) = Some (primitive.Text us)
to_prim (value.Object id) = None

-- the primitives that values are, or None where one is an object
abbrev pub with_prim : Option (List Primitive) → Option Primitive → Option (List Primitive)
with_prim None p = None
with_prim (Some ps) None = None
with_prim (Some ps) (Some p) = Some (ps ++ p ∷ [])

abbrev pub to_prims : List Value → Option (List Primitive)
to_prims vs = fold (λ ps v. with_prim ps (to_prim v)) (Some []) vs

abbrev pub of_prim : Primitive → Value
of_prim primitive.Undefined = value.Undefined
of_prim primitive.Null = value.Null
of_prim (primitive.Bool b) = value.Bool b
of_prim (primitive.Number n) = value.Number n
of_prim (primitive.Text us) = value.Text us

abbrev pub is_object : Value → Bool
is_object (value.Object id) = true
is_object _ = false

-- ToPropertyKey (7.1.14) of a primitive
abbrev pub to_key : Value → Key
to_key v = Text (text_of v)

-- ToBoolean (7.1.2)
abbrev pub has_units : List ℕ → Bool
has_units [] = false
has_units (u ∷ us) = true

abbrev pub truth_of : Value → Bool
truth_of value.Undefined = false
truth_of value.Null = false
truth_of (value.Bool b) = b
truth_of (value.Number n) = not (int_eq n (pos 0))
truth_of (value.Text us) = has_units us
truth_of (value.Object id) = true

-- whether a value can be called (7.2.3)
abbrev pub is_callable : Heap → Value → Bool
is_callable heap (value.Object id) = is_function (object_at heap id).class
is_callable heap _ = false

-- `typeof` (12.5.6)
abbrev pub type_name : Heap → Value → List ℕ
type_name heap value.Undefined = codes "undefined"
type_name heap value.Null = codes "object"
type_name heap (value.Bool b) = codes "boolean"
type_name heap (value.Number n) = codes "number"
type_name heap (value.Text us) = codes "string"
type_name heap (value.Object id) = of_function (is_function (object_at heap id).class)
  where
    of_function : Bool → List ℕ
    of_function true = codes "function"
    of_function false = codes "object"
