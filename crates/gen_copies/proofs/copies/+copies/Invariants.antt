use Rattle.std.proofs.Common.{◌≡◌, ◌++◌, drop, map}
use Rattle.pass_rules.specs.state_rules.States.{branch, expr_whole, link_whole, part, whole_cases, wholes}
use Rattle.gen_copies.proofs.copies.+copies.Given as goal

abbrev pub invariant-links-loop-one : goal.invariant-links-loop-one
invariant-links-loop-one l = l.made ++ map link_whole (drop l.one-index l.source) ≡ map link_whole l.source

abbrev pub invariant-exprs-loop-one : goal.invariant-exprs-loop-one
invariant-exprs-loop-one l = l.made ++ map expr_whole (drop l.one-index l.source) ≡ map expr_whole l.source

abbrev pub invariant-cases-loop-one : goal.invariant-cases-loop-one
invariant-cases-loop-one l = l.made ++ whole_cases (map branch (drop l.one-index l.source)) ≡ whole_cases (map branch l.source)

abbrev pub invariant-stats-loop-one : goal.invariant-stats-loop-one
invariant-stats-loop-one l = l.made ++ wholes (map part (drop l.one-index l.source)) ≡ wholes (map part l.source)
