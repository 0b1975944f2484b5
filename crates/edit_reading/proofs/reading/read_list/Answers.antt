use Rattle.std.proofs.Common.{ℕ, List, map, subst, MatchResult}
use Rattle.edit_list.specs.Edits.{asked_of}
use Rattle.edit_reading.specs.Reading.{IsUnread, Lists}
use Rattle.edit_reading.proofs.Contents.{found, missing}
use Rattle.edit_reading.proofs.reading.read_list.Goals as goal

pub returns-in-Found-clause-read : goal.returns-in-Found-clause-read
returns-in-Found-clause-read g c =
    let P : List ℕ → Type 0 = λ read. MatchResult c.edits_in.result (λ edits. Lists read (map asked_of edits.items)) (IsUnread read) in
    found _ _ c.in-Found.bytes.items _ _ c.edits_in.result c.in-Found.ensures.told (subst P c.as_slice.ensures.value c.edits_in.ensures)

pub returns-in-Missing-clause-read : goal.returns-in-Missing-clause-read
returns-in-Missing-clause-read g c = missing _ _ c.in-Missing.ensures.told
