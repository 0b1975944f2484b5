use Rattle.std.proofs.Common.{◌≡◌, ◌≤◌, take, map, vec_len}
use Rattle.edit_list.specs.Edits.{asked_of}
use Rattle.listed_builds.specs.Doing.{step_of}
use Rattle.edit_reading.specs.Reading.{AreTaken}
use Rattle.edit_reading.proofs.taking.take_all.Given as goal

abbrev pub invariant-loop-edit : goal.invariant-loop-edit
invariant-loop-edit g l =
    AreTaken (g.F.Files.files l.initial.files) (map asked_of (take l.edit-index l.edits)) (map step_of l.taken.items)
    × (vec_len l.taken ≡ l.edit-index)
    × (g.F.Files.files l.files ≡ g.F.Files.files l.initial.files)
    × (g.F.Files.faults l.initial.files ≤ g.F.Files.faults l.files)
