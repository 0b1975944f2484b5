-- How a path, or that there is none, is answered.
use Rattle.std.specs.Prelude.{◌≡◌, ℕ, List, Option, Some, None, Result, Ok, Err, String, string_bytes}
use Rattle.std.specs.Global.{Global}
use Rattle.module_paths.specs.declared.paths.PathFault.{PathFault}
use Rattle.module_paths.specs.declared.paths.PathFault.TheVariants.{BadSpecifier, OutOfMemory}

-- Memory that runs out says nothing.
abbrev pub Gives : Option (List ℕ) → Result (String Global) PathFault → Type 0
Gives wanted (Ok path) = wanted ≡ Some (string_bytes path)
Gives wanted (Err BadSpecifier) = wanted ≡ None
Gives wanted (Err OutOfMemory) = Unit {0}
