use Rattle.std.proofs.Common.{◌≡◌, map, take}
use Rattle.first_forms.proofs.names.NameSet.to_names.Given as goal

abbrev pub invariant-loop-name : goal.invariant-loop-name
invariant-loop-name l = l.names ≡ map (λ v. v.items) (take l.name-index l.name-items)
