-- What a class inherits, as code finds it.
use Rattle.std.specs.List.{filter_map}
use Rattle.std.specs.Prelude.{Bool, List, is_some, nat_eq, ◌&&◌, ◌++◌}
use Rattle.es_value.specs.declared.value.ObjId.{ObjId}
use Rattle.es_heap.specs.Heaps.{Heap, object_at}
use Rattle.es_heap.specs.Objects.{own}
use Rattle.es_heap.specs.declared.key.Key.{Key as PropertyKey}
use Rattle.source_meaning.specs.Classes.{still_there}
use Rattle.source_meaning.specs.State.{State, Static}

-- a static member that the parent's definition made, and the parent still has
abbrev pub is_there : Heap → ObjId → Static → Bool
is_there heap parent m = nat_eq m.class.0 parent.0 && is_some (own (object_at heap parent) m.key)

-- what is recorded for a class of this parent
abbrev pub recorded_of : State → ObjId → List PropertyKey
recorded_of st parent = filter_map (still_there st.heap parent) st.statics ++ (object_at st.heap parent).recorded
