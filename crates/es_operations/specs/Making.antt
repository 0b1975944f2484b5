-- What evaluation makes (ECMA-262, 6th edition, 9.2, 9.4.6, 12.2.9.3, 14.4, 14.5 and 25.3; 5.1 edition, 13.2): functions, classes,
-- generators, namespace objects, template objects. Lists, arguments objects and errors are made by es_calls and es_realm.
use Rattle.std.specs.Prelude.{ℕ, suc, pos, Bool, true, false, if◌then◌else◌, List, [], ◌∷◌, length, Option, Some, None, codes}
use Rattle.es_value.specs.declared.value.ObjId.{ObjId}
use Rattle.es_value.specs.declared.value.Value.{Value}
use Rattle.es_value.specs.declared.value.Value.TheVariants as value
use Rattle.es_heap.specs.declared.class.Class.TheVariants as class
use Rattle.es_heap.specs.declared.key.Key.{Key}
use Rattle.es_heap.specs.declared.key.Key.TheVariants.{Text}
use Rattle.es_heap.specs.declared.prop.Prop.{Prop}
use Rattle.es_heap.specs.declared.prop.Prop.TheVariants.{Plain, Accessor}
use Rattle.es_heap.specs.Heaps.{Heap, made, next_id, define_own, object_at, with_object}
use Rattle.es_heap.specs.Objects.{own, recorded_after}
use Rattle.es_realm.specs.declared.edition.Edition.{Edition}
use Rattle.es_realm.specs.Look.{is_sixth}
use Rattle.es_realm.specs.Names.{function_prototype, object_prototype, array_prototype, generator_function_prototype, generator_prototype}
use Rattle.es_calls.specs.Calls.{index_key}

abbrev pub with_own : Heap → ObjId → List ℕ → Prop → Heap
with_own heap id name p = (define_own heap id (Text name) p).after

-- ---- functions (9.2.3 to 9.2.8)

-- a function with this number and prototype; its `length` can be configured in the 6th edition alone
unfoldable pub bare_function : Edition → Heap → ℕ → ObjId → ℕ → Heap
bare_function edition heap n proto count =
    with_own (made heap (Some proto) (class.Function n)) (next_id heap) (codes "length")
    (Plain (value.Number (pos count)) false (is_sixth edition))

-- a new object with this prototype becomes the function's `prototype`
unfoldable pub with_prototype : Heap → ObjId → Option ObjId → Bool → Heap
with_prototype heap f above writable =
    with_own (made heap above class.Object) f (codes "prototype") (Plain (value.Object (next_id heap)) writable false)

-- and the function is the `constructor` of that object (9.2.8)
unfoldable pub with_constructor : Heap → ObjId → ObjId → Heap
with_constructor heap prototype f = with_own heap prototype (codes "constructor") (Plain (value.Object f) true true)

-- a function that can be constructed
abbrev pub plain_function : Edition → Heap → ℕ → ℕ → Heap
plain_function edition heap n count =
    let f = next_id heap in
    let begun = bare_function edition heap n function_prototype count in
    with_constructor (with_prototype begun f (Some object_prototype) true) (next_id begun) f

-- an arrow, a method or an accessor
abbrev pub method_function : Edition → Heap → ℕ → ℕ → Heap
method_function edition heap n count = bare_function edition heap n function_prototype count

-- a generator function (14.4.11)
abbrev pub generator_function : Edition → Heap → ℕ → ℕ → Heap
generator_function edition heap n count =
    with_prototype (bare_function edition heap n generator_function_prototype count) (next_id heap) (Some generator_prototype) true

-- a class (14.5.14) with these prototypes of the function and of its own `prototype`
abbrev pub class_function : Edition → Heap → ℕ → ℕ → ObjId → Option ObjId → Heap
class_function edition heap n count parent above =
    let f = next_id heap in
    let begun = bare_function edition heap n parent count in
    with_constructor (with_prototype begun f above false) (next_id begun) f

-- the object that `class_function` makes behind the function
abbrev pub class_prototype : Heap → ObjId
class_prototype heap = record { 0 = suc (length heap) }

-- these keys are recorded for a class
abbrev pub with_recorded : Heap → ObjId → List Key → Heap
with_recorded heap f [] = heap
with_recorded heap f (k ∷ ks) = with_recorded (with_object heap f (recorded_after (object_at heap f) k)) f ks

-- ---- accessors (12.2.6.8, 14.3.9): the other half is kept

abbrev pub getter_of : Option Prop → Option ObjId
getter_of (Some (Accessor g s c)) = g
getter_of p = None

abbrev pub setter_of : Option Prop → Option ObjId
setter_of (Some (Accessor g s c)) = s
setter_of p = None

abbrev pub with_half : Heap → ObjId → Key → ObjId → Bool → Prop
with_half heap id k f is_setter =
    let now = own (object_at heap id) k in
    if is_setter then Accessor (getter_of now) (Some f) true else Accessor (Some f) (setter_of now) true

-- ---- objects of their own kinds

-- 25.2.1, 25.3: the generator with this number
abbrev pub made_generator : Heap → ObjId → ℕ → Heap
made_generator heap proto n = made heap (Some proto) (class.Generator n)

abbrev pub not_extensible : Heap → ObjId → Heap
not_extensible heap id = with_object heap id (record (object_at heap id) { extensible = false })

-- 9.4.6.13
abbrev pub made_namespace : Heap → ℕ → Heap
made_namespace heap n = not_extensible (made heap None (class.Namespace n)) (next_id heap)

-- ---- template objects (12.2.9.3): arrays of texts, which don't change any more

abbrev pub frozen : Value → Prop
frozen v = Plain v false false

abbrev pub with_texts : Heap → ObjId → ℕ → List Value → Heap
with_texts heap id n [] = heap
with_texts heap id n (v ∷ vs) = with_texts (define_own heap id (index_key (pos n)) (frozen v)).after id (suc n) vs

abbrev pub frozen_list : Heap → ObjId → List Value → Heap
frozen_list heap id vs =
    not_extensible (with_own (with_texts heap id 0 vs) id (codes "length") (frozen (value.Number (pos (length vs))))) id

abbrev pub made_template : Heap → List Value → List Value → Heap
made_template heap cooked raw =
    let template = next_id heap in
    let begun = made heap (Some array_prototype) class.Array in
    let raw_list = next_id begun in
    let both = frozen_list (made begun (Some array_prototype) class.Array) raw_list raw in
    frozen_list (with_own both template (codes "raw") (frozen (value.Object raw_list))) template cooked
