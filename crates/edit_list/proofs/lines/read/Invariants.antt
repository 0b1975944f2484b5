use Rattle.std.proofs.Common.{◌≡◌, map, take, Ok}
use Rattle.edit_list.specs.Edits.{asked_of, read}
use Rattle.edit_list.proofs.lines.read.Given as goal

abbrev pub invariant-loop-line : goal.invariant-loop-line
invariant-loop-line l = read (map (λ s. s.now) (take l.line-index l.lines)) ≡ Ok (map asked_of l.reading.edits.items)
