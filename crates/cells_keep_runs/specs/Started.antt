-- Where a run begins, before the flattening and behind it.
use Rattle.std.specs.Prelude.{◌≡◌, true, false, List, [], ◌∷◌, Some, length, suc, ℕ}
use Rattle.core_ast.specs.Mentions.{part_mentions}
use Rattle.core_ast.specs.declared.parts.Var.{Var}
use Rattle.core_ast.specs.declared.whole.Core.{Core}
use Rattle.core_ast.specs.declared.whole.CorePart.{CorePart}
use Rattle.core_meaning.specs.Modules.{start}
use Rattle.pass_rules.specs.Cells.{found, is_among, owners}
use Rattle.pass_rules.specs.Scopes.{part_flat, vars, without_scopes}
use Rattle.cells_keep_runs.specs.Memory.{Keeping, Seat, Seats}
use Rattle.cells_keep_runs.specs.Related.{Related}

-- the owners of the shared names of a core, as the pass has them
abbrev pub owners_of : Core → List ℕ
owners_of core = owners (length core.fresh.hints) (found core)

-- The record of a module is its own image and home, and has what closures keep.
abbrev pub part_seat : Keeping → List ℕ → ℕ → CorePart → Seat
part_seat kept table n p = record {
  image = Some n;
  home = n;
  scoped = [];
  cells = [];
  has = vars (part_flat table p).names;
  locals = vars (part_mentions p).scoped;
  keeps = kept;
}

abbrev pub part_seats : Keeping → List ℕ → ℕ → List CorePart → Seats
part_seats kept table n [] = []
part_seats kept table n (p ∷ ps) = part_seat kept table n p ∷ part_seats kept table (suc n) ps

-- no name of a scope of a module is one of the module's own: a lawful core declares each name once
abbrev pub ScopedApart : List CorePart → Type 0
ScopedApart [] = Unit {0}
ScopedApart (p ∷ ps) =
    ((x : Var) → is_among x (vars (part_mentions p).scoped) ≡ true → is_among x (vars p.names) ≡ false) × ScopedApart ps

-- The beginnings are related.
abbrev pub BeginningsAreRelated : Type 0
BeginningsAreRelated = (core : Core) (kept : Keeping) → ScopedApart core.parts
    → Related (owners_of core) (part_seats kept (owners_of core) 0 core.parts) (start core) (start (without_scopes core))
