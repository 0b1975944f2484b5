use Rattle.std.proofs.Common.{◌≡◌, drop, map}
use Rattle.pass_rules.specs.state_rules.States.{all_stay, branch, cases_stay, part}
use Rattle.gen_copies.proofs.staying.+staying.Given as goal

abbrev pub invariant-all_stay-loop-one : goal.invariant-all_stay-loop-one
invariant-all_stay-loop-one l = all_stay (map part l.source) l.inside ≡ all_stay (map part (drop l.one-index l.source)) l.inside

abbrev pub invariant-cases_stay-loop-one : goal.invariant-cases_stay-loop-one
invariant-cases_stay-loop-one l = cases_stay (map branch l.source) l.inside ≡ cases_stay (map branch (drop l.one-index l.source)) l.inside
