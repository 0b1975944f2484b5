-- How edits, or the line that is none, are answered.
use Rattle.std.specs.Prelude.{◌≡◌, ℕ, List, map, Result, Ok, Err, Vec}
use Rattle.std.specs.Global.{Global}
use Rattle.edit_list.specs.declared.edit.Edit.{Edit}
use Rattle.edit_list.specs.declared.fault.ListFault.{ListFault}
use Rattle.edit_list.specs.declared.fault.ListFault.TheVariants.{BadEdit, OutOfMemory}
use Rattle.edit_list.specs.Edits.{Asked, asked_of}

-- Memory that runs out says nothing.
abbrev pub IsRefused : Result (List Asked) ℕ → ListFault → Type 0
IsRefused wanted (BadEdit line) = wanted ≡ Err line
IsRefused wanted OutOfMemory = Unit {0}

abbrev pub Gives : Result (List Asked) ℕ → Result (Vec Edit Global) ListFault → Type 0
Gives wanted (Ok edits) = wanted ≡ Ok (map asked_of edits.items)
Gives wanted (Err fault) = IsRefused wanted fault

-- the same of edits in place
abbrev pub IsAdded : Result (List Asked) ℕ → List Edit → Result Unit ListFault → Type 0
IsAdded wanted edits (Ok done) = wanted ≡ Ok (map asked_of edits)
IsAdded wanted edits (Err fault) = IsRefused wanted fault
