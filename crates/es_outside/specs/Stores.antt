-- Files in memory: the bytes of each path, and the calls.
use Rattle.std.specs.Prelude.{ℕ, List, Option, option_map}
use Rattle.std.specs.BTreeMap.{get_by_text}
use Rattle.es_outside.specs.declared.calls.Calls.{Calls}
use Rattle.es_outside.specs.declared.memory_files.MemoryFiles.{MemoryFiles}

-- the bytes of the file with this path
abbrev pub file_at : MemoryFiles → List ℕ → Option (List ℕ)
file_at store path = option_map (λ bytes. bytes.items) (get_by_text store.files path)

-- the calls so far
abbrev pub calls_of : MemoryFiles → Calls
calls_of store = store.calls
