use Rattle.std.proofs.Common.{◌≡◌, drop, map}
use Rattle.pass_rules.specs.state_rules.States.{add_all, add_cases, branch, part}
use Rattle.gen_states.proofs.walk.+walk.Given as goal

abbrev pub invariant-stats-loop-one : goal.invariant-stats-loop-one
invariant-stats-loop-one l = add_all l.place (map part (drop l.one-index l.source)) l.machine ≡ add_all l.place (map part l.source) l.initial.machine

abbrev pub invariant-cases-loop-one : goal.invariant-cases-loop-one
invariant-cases-loop-one l = add_cases l.place l.falls l.after l.state (map branch (drop l.one-index l.source)) l.machine ≡ add_cases l.place l.falls l.after l.first (map branch l.source) l.initial.machine
