use Rattle.std.proofs.Common.{◌≡◌, ℕ, List}
use Rattle.std.specs.Prelude.{option_map}
use Rattle.std.specs.BTreeMap.{get_by_text}
use Rattle.es_outside.specs.Files.{file_of}
use Rattle.es_outside.proofs.memory_files.MemoryFiles.new.Given as goal

abbrev pub invariant-loop-path : goal.invariant-loop-path
invariant-loop-path l = (path : List ℕ) → option_map (λ bytes. bytes.items) (get_by_text l.files path) ≡ file_of l.yielded path
