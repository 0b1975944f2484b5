use Rattle.std.proofs.Common.{◌≡◌, ◌+◌, [], drop}
use Rattle.lowering_rules.specs.reference_rules.Objects.{front}
use Rattle.lower_objects.proofs.front.front.Given as goal

abbrev pub invariant-loop-member : goal.invariant-loop-member
invariant-loop-member l = record {
  counted : l.count ≡ l.member-index;
  found : l.count + front l.seen (drop l.member-index l.members) ≡ front [] l.members;
}
