-- How a property is looked for: up the chain of prototypes (ECMA-262, 6th edition, 9.1.8), up to a step at which the run leaves
-- the profile.
use Rattle.std.specs.Prelude.{ℕ, zero, suc, Bool, true, false, ◌&&◌, ◌||◌, not, nat_eq, nat_lt, nat_le, if◌then◌else◌, List, [], ◌∷◌, length, Option, None, Some, is_none, codes}
use Rattle.std.specs.List.{list_any}
use Rattle.std.specs.Cmp.Lexicographic.{pointwise}
use Rattle.es_value.specs.declared.value.ObjId.{ObjId}
use Rattle.es_heap.specs.declared.class.Class.{Class}
use Rattle.es_heap.specs.declared.class.Class.TheVariants as class
use Rattle.es_heap.specs.declared.key.Key.{Key}
use Rattle.es_heap.specs.declared.key.Key.TheVariants.{Text, Iterator}
use Rattle.es_heap.specs.declared.prop.Prop.{Prop}
use Rattle.es_heap.specs.Keys.{same_key}
use Rattle.es_heap.specs.Objects.{own}
use Rattle.es_heap.specs.Heaps.{Heap, object_at}
use Rattle.es_realm.specs.declared.edition.Edition.{Edition}
use Rattle.es_realm.specs.declared.edition.Edition.TheVariants.{Sixth, Fifth}
use Rattle.es_realm.specs.declared.look.Look.{Look}
use Rattle.es_realm.specs.declared.look.Look.TheVariants.{Found, Missing, Binding, Leaves}
use Rattle.es_realm.specs.declared.look.Visit.{Visit}
use Rattle.es_realm.specs.declared.look.Visit.TheVariants.{Stops, Above}
use Rattle.es_realm.specs.LeftOut.{is_left_out}

abbrev pub is_sixth : Edition → Bool
is_sixth Sixth = true
is_sixth Fifth = false

-- the key is the text of this name
abbrev pub is_named : Key → List ℕ → Bool
is_named (Text units) word = pointwise nat_eq units word
is_named Iterator word = false

-- `@@` begins the text
abbrev pub begins_marked : List ℕ → Bool
begins_marked [] = false
begins_marked (u ∷ []) = false
begins_marked (u ∷ v ∷ us) = nat_eq u 64 && nat_eq v 64

-- X3: a key that no operation may use
abbrev pub is_reserved_key : Edition → Key → Bool
is_reserved_key edition Iterator = false
is_reserved_key edition (Text units) = pointwise nat_eq units (codes "__proto__") || (is_sixth edition && begins_marked units)

-- a function of the program
abbrev pub is_closure : Class → Bool
is_closure (class.Function n) = true
is_closure _ = false

abbrev pub is_function : Class → Bool
is_function (class.Function n) = true
is_function (class.Builtin n) = true
is_function (class.Host n) = true
is_function _ = false

abbrev pub is_arguments : Class → Bool
is_arguments class.Arguments = true
is_arguments _ = false

abbrev pub is_namespace : Class → Bool
is_namespace (class.Namespace n) = true
is_namespace _ = false

-- a function of the program lacks this own property; those that lack `prototype` are the arrows, methods and accessors
abbrev pub lacks : Heap → ObjId → Key → Bool
lacks heap id k = is_closure (object_at heap id).class && is_none (own (object_at heap id) k)

abbrev pub is_method : Heap → ObjId → Bool
is_method heap id = lacks heap id (Text (codes "prototype"))

-- a function of the library that the realm of the 5.1 edition lacks, which counts as a method
abbrev pub is_later_function : ObjId → Bool
is_later_function id = nat_le 43 id.0 && nat_lt id.0 52

abbrev pub is_hidden_function_name : Key → Bool
is_hidden_function_name k = is_named k (codes "name") || (is_named k (codes "caller") || is_named k (codes "arguments"))

abbrev pub is_hidden_arguments_name : Key → Bool
is_hidden_arguments_name k = is_named k (codes "callee") || is_named k (codes "caller")

abbrev pub is_hidden_prototype : Edition → Heap → ObjId → Key → Bool
is_hidden_prototype Sixth heap id k = is_named k (codes "prototype") && (lacks heap id k || is_later_function id)
is_hidden_prototype Fifth heap id k = false

-- X4: a property of a function or an arguments object that the editions have otherwise
abbrev pub is_hidden : Edition → Heap → ObjId → Key → Bool
is_hidden edition heap id k =
    (is_function (object_at heap id).class && is_hidden_function_name k)
    || ((is_arguments (object_at heap id).class && is_hidden_arguments_name k) || is_hidden_prototype edition heap id k)

-- the exit at which a look at this object for this key leaves: X4, or X7 for a name that is left out
abbrev pub exit_at : Edition → Heap → ObjId → Key → Option ℕ
exit_at edition heap id k = if is_hidden edition heap id k then Some 4 else if is_left_out edition id k then Some 7 else None

abbrev pub is_recorded : Heap → ObjId → Key → Bool
is_recorded heap id k = list_any (same_key k) (object_at heap id).recorded

-- a step from a class to its parent, for which the key isn't recorded: of the program's functions classes alone have a function
-- of the program as their prototype
abbrev pub passes_unrecorded : Heap → ObjId → ObjId → Key → Bool
passes_unrecorded heap id up k =
    (is_closure (object_at heap id).class && is_closure (object_at heap up).class) && not (is_recorded heap id k)

-- what is found at an object; X6 where it is a parent that was reached by a step for which the key isn't recorded
abbrev pub found_at : Heap → ObjId → Bool → Look
found_at heap id past = if past && is_closure (object_at heap id).class then Leaves 6 else Found id

abbrev pub go_up : Option ObjId → Visit
go_up None = Stops Missing
go_up (Some up) = Above up

abbrev pub visit_own : Heap → ObjId → Bool → Option Prop → Visit
visit_own heap id past (Some p) = Stops (found_at heap id past)
visit_own heap id past None = go_up (object_at heap id).proto

abbrev pub visit_unless : Heap → ObjId → Key → Bool → Option ℕ → Visit
visit_unless heap id k past (Some x) = Stops (Leaves x)
visit_unless heap id k past None = visit_own heap id past (own (object_at heap id) k)

-- a look at one object of the chain; `past` says that a step for which the key isn't recorded was taken
abbrev pub visit_object : Edition → Heap → ObjId → Key → Bool → Visit
visit_object edition heap id k past = visit_unless heap id k past (exit_at edition heap id k)

abbrev pub after_visit : Visit → (ObjId → Look) → Look
after_visit (Stops look) walk = look
after_visit (Above up) walk = walk up

-- the walk within this many objects
abbrev pub walk_within : ℕ → Edition → Heap → ObjId → Key → Bool → Look
walk_within zero edition heap id k past = Missing
walk_within (suc n) edition heap id k past =
    after_visit (visit_object edition heap id k past) (λ up. walk_within n edition heap up k (past || passes_unrecorded heap id up k))

-- no chain is longer than the heap
abbrev pub walk : Edition → Heap → ObjId → Key → Look
walk edition heap id k = walk_within (length heap) edition heap id k false

-- X12: the iterator key of a namespace object; its other keys go to its module's bindings (9.4.6)
abbrev pub look_in_namespace : Key → Look
look_in_namespace Iterator = Leaves 12
look_in_namespace (Text units) = Binding

-- where an object has a key
abbrev pub look_up : Edition → Heap → ObjId → Key → Look
look_up edition heap id k =
    if is_reserved_key edition k then Leaves 3
    else if is_namespace (object_at heap id).class then look_in_namespace k
    else walk edition heap id k

-- where the object itself has a key: the walk's first object alone
abbrev pub look_own_at : Heap → ObjId → Option ℕ → Option Prop → Look
look_own_at heap id (Some x) p = Leaves x
look_own_at heap id None (Some p) = Found id
look_own_at heap id None None = Missing

abbrev pub look_own : Edition → Heap → ObjId → Key → Look
look_own edition heap id k =
    if is_reserved_key edition k then Leaves 3
    else if is_namespace (object_at heap id).class then look_in_namespace k
    else look_own_at heap id (exit_at edition heap id k) (own (object_at heap id) k)
