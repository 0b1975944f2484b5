use Rattle.std.proofs.Common.{◌≡◌, ◌+◌, ◌≤◌, ◌++◌, length, reverse}
use Rattle.std.specs.Prelude.{vec_capacity, vec_len}
use Rattle.module_links.specs.Zips.{zipped}
use Rattle.module_links.proofs.putting.relink.Given as goal

abbrev pub invariant-loop-module : goal.invariant-loop-module
invariant-loop-module g l =
    (length l.endings ≡ length l.modules) × (vec_len l.room + length l.modules ≤ vec_capacity l.room)
    × (zipped g.L.Links.linked_to l.modules l.endings ++ reverse l.room.items ≡ zipped g.L.Links.linked_to l.initial.modules l.initial.endings)

abbrev pub decreases-loop-module : goal.decreases-loop-module
decreases-loop-module g l = length l.modules
