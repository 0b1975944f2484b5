use Rattle.std.proofs.Common.{◌≡◌, ◌≤◌, ◌++◌, ℕ, List, drop, map}
use Rattle.edited_files.specs.EditedFiles.{base_of, edit_of}
use Rattle.listed_builds.specs.Doing.{Reads, Writes, step_of}
use Rattle.listed_builds.proofs.doing.written.Given as goal

-- what is written and read of all edits is so of those that are left
abbrev pub invariant-loop-edit : goal.invariant-loop-edit
invariant-loop-edit g l =
    (g.F.Files.files (base_of l.edited).now ≡ g.F.Files.files (base_of l.initial.edited).now)
    × ((base_of l.edited).ghost_name ≡ (base_of l.initial.edited).ghost_name)
    × (g.F.Files.faults (base_of l.initial.edited).now ≤ g.F.Files.faults (base_of l.edited).now)
    × ((rest : List ℕ)
    → Writes (g.B.BuildsAgain.writes l.entry l.hosts) (g.F.Files.files (base_of l.initial.edited).now) (map step_of (drop l.edit-index l.edits)) (edit_of l.edited) (g.B.BuildsAgain.keeps l.builds) rest
    → Writes (g.B.BuildsAgain.writes l.entry l.hosts) (g.F.Files.files (base_of l.initial.edited).now) (map step_of l.edits) (edit_of l.initial.edited) (g.B.BuildsAgain.keeps l.initial.builds) (l.text.items ++ rest))
    × ((path : List ℕ)
    → Reads (g.B.BuildsAgain.reads l.entry) (g.F.Files.files (base_of l.initial.edited).now) (map step_of (drop l.edit-index l.edits)) (edit_of l.edited) path
    → Reads (g.B.BuildsAgain.reads l.entry) (g.F.Files.files (base_of l.initial.edited).now) (map step_of l.edits) (edit_of l.initial.edited) path)
