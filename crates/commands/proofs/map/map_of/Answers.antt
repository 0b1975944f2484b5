use Rattle.std.proofs.Common.{ℕ, List, subst, MatchResult}
use Rattle.commands.specs.Parts.{IsBytesMap, FitsScript}
use Rattle.commands.proofs.Outcomes.{found_map, missing_script}
use Rattle.commands.proofs.map.map_of.Goals as goal

pub returns-in-Found-clause-made : goal.returns-in-Found-clause-made
returns-in-Found-clause-made g c =
    let P : List ℕ → Type 0 = λ read. MatchResult c.map_of_bytes.result (λ line. IsBytesMap read line.items) (FitsScript read) in
    found_map _ _ _ _ c.in-Found.bytes.items c.map_of_bytes.result c.in-Found.ensures.told (subst P c.as_slice.ensures.value c.map_of_bytes.ensures)

pub returns-in-Missing-clause-made : goal.returns-in-Missing-clause-made
returns-in-Missing-clause-made g c = missing_script _ _ c.in-Missing.ensures.told
