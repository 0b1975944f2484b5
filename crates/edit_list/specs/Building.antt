-- The builds among edits.
use Rattle.std.specs.Prelude.{ℕ, List, map, count_by}
use Rattle.edit_list.specs.declared.edit.Edit.{Edit}
use Rattle.edit_list.specs.Edits.{asked_of, is_build}

-- how many of these edits are builds
abbrev pub builds_of : List Edit → ℕ
builds_of edits = count_by is_build (map asked_of edits)
