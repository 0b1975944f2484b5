use Rattle.std.proofs.Common.{◌≡◌, take}
use Rattle.std.specs.List.{filter_map}
use Rattle.source_meaning.specs.Classes.{still_there}
use Rattle.source_objects.proofs.inherited.made_there.Given as goal

abbrev pub invariant-loop-member : goal.invariant-loop-member
invariant-loop-member l = l.keys ≡ filter_map (still_there l.heap l.parent) (take l.member-index l.members)
