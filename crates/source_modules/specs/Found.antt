-- What is read of namespace objects.
use Rattle.std.specs.Option.{option_map}
use Rattle.std.specs.Prelude.{List, Option, ℕ}
use Rattle.es_value.specs.declared.value.ObjId.{ObjId}
use Rattle.es_heap.specs.Heaps.{object_at}
use Rattle.es_heap.specs.declared.key.Key.{Key}
use Rattle.es_heap.specs.declared.key.Key.TheVariants.{Text}
use Rattle.source_meaning.specs.Environments.{held_by}
use Rattle.source_meaning.specs.Modules.{export_in, exports_at}
use Rattle.source_meaning.specs.State.{Exported, Held, Imported, State}

abbrev pub found_in : List Exported → List ℕ → Option Exported
found_in es units = export_in es (Text units)

abbrev pub binding_held : State → Exported → Held
binding_held st e = held_by st.records (Imported e.home e.local)

-- what an object has of this key, if it is a namespace object that has it, and what its binding holds
abbrev pub export_of : State → ObjId → Key → Option Exported
export_of st id k = export_in (exports_at st (object_at st.heap id).class) k

abbrev pub held_of : State → ObjId → Key → Option Held
held_of st id k = option_map (binding_held st) (export_of st id k)
