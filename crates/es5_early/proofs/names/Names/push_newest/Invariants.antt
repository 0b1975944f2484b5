use Rattle.std.proofs.Common.{◌≡◌, ◌++◌, map, reverse, take}
use Rattle.es5_early.proofs.names.Names.push_newest.Given as goal

abbrev pub invariant-loop-name : goal.invariant-loop-name
invariant-loop-name l = l.self ≡ reverse (map (λ v. v.items) (take l.name-index l.name-items)) ++ l.initial.self
