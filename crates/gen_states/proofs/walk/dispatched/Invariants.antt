use Rattle.std.proofs.Common.{◌≡◌, ◌++◌, drop, map}
use Rattle.pass_rules.specs.state_rules.States.{branch, dispatched}
use Rattle.gen_states.proofs.walk.dispatched.Given as goal

abbrev pub invariant-loop-one : goal.invariant-loop-one
invariant-loop-one l = l.made ++ dispatched l.place l.state (map branch (drop l.one-index l.source)) ≡ dispatched l.place l.first (map branch l.source)
