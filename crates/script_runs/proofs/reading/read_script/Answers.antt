use Rattle.std.proofs.Common.{◌≡◌, ℕ, List, subst, MatchResult}
use Rattle.std.specs.Str.{chars}
use Rattle.script_runs.proofs.Contents.{found, missing}
use Rattle.script_runs.specs.Scripts.{AreScript, IsUnread}
use Rattle.script_runs.proofs.reading.read_script.Goals as goal

pub returns-in-Found-clause-read : goal.returns-in-Found-clause-read
returns-in-Found-clause-read g c =
    let P : List ℕ → Type 0 = λ read. MatchResult c.script_of.result (λ it. AreScript read it.script × (it.lines ≡ chars read)) (IsUnread read) in
    found _ _ c.in-Found.bytes.items _ _ c.script_of.result c.in-Found.ensures.told (subst P c.as_slice.ensures.value c.script_of.ensures)

pub returns-in-Missing-clause-read : goal.returns-in-Missing-clause-read
returns-in-Missing-clause-read g c = missing _ _ c.in-Missing.ensures.told
