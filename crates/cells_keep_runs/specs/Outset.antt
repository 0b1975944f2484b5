-- What is round the code of each module at the beginning of a run: the names of all modules.
use Rattle.std.specs.Prelude.{◌≡◌, true, List, Some, length, map, slice_get, ℕ}
use Rattle.core_ast.specs.declared.parts.Var.{Var}
use Rattle.core_ast.specs.declared.whole.CorePart.{CorePart}
use Rattle.core_meaning.specs.Modules.{numbers_from, part_record}
use Rattle.cells_keep_runs.specs.Found.{names_of}
use Rattle.cells_keep_runs.specs.MayBeFlattened.{Whole, all_names, modules_may, round_of, scoped_of}
use Rattle.cells_keep_runs.specs.Memory.{Keeping}
use Rattle.cells_keep_runs.specs.Rounds.{RoundAt}
use Rattle.cells_keep_runs.specs.Started.{part_seats}

abbrev pub ModulesAreRound : Type 0
ModulesAreRound = (whole : Whole) (kept : Keeping) (declarer : Var → ℕ) (table : List ℕ) (ps : List CorePart) (n : ℕ) (p : CorePart) (functions : ℕ)
    → slice_get ps n ≡ Some p → whole.modules ≡ length ps → modules_may whole functions ps ≡ true
    → ((x : Var) → whole.declarer x ≡ declarer x)
    → RoundAt whole kept declarer (part_seats kept table 0 ps) (names_of (map part_record ps)) (numbers_from 0 ps) (round_of (all_names ps) (scoped_of p) functions)
