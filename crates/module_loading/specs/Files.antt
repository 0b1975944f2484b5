-- What stands at a path.
use Rattle.std.specs.Prelude.{◌≡◌, ℕ, ◌<◌, ◌≤◌, List, length, Option, Some, None}
use Rattle.module_loading.specs.declared.content.Content.{Content}
use Rattle.module_loading.specs.declared.content.Content.TheVariants.{Short, Long, Missing, Failed, OutOfMemory}

-- what files tell: the bytes of each path, or nothing
abbrev pub Told : Type 0
Told = Option (List ℕ → Option (List ℕ))

-- Files that tell what each path stands for have this there; of other files nothing is said.
abbrev pub Holds : Told → List ℕ → Option (List ℕ) → Type 0
Holds None path content = Unit {0}
Holds (Some file) path content = file path ≡ content

-- what is found at a path
abbrev pub Finds : Told → List ℕ → Content → Type 0
Finds told path (Short bytes) = Holds told path (Some bytes.items) × (length bytes.items ≤ 4194304)
Finds told path Long = (bytes : List ℕ) × Holds told path (Some bytes) × (4194304 < length bytes)
Finds told path Missing = Holds told path None
Finds told path Failed = Unit {0}
Finds told path OutOfMemory = Unit {0}
