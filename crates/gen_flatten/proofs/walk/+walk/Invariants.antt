use Rattle.std.proofs.Common.{◌≡◌, ◌++◌, drop, map}
use Rattle.pass_rules.specs.yield_rules.Yields.{all_at, case_spilled, cases_at, each_at, expr_spilled, link_spilled, stat_spilled}
use Rattle.gen_flatten.proofs.walk.+walk.Given as goal

abbrev pub invariant-links-loop-one : goal.invariant-links-loop-one
invariant-links-loop-one l = all_at (map link_spilled (drop l.one-index l.source)) l.place l.made ≡ all_at (map link_spilled l.source) l.place l.initial.made

abbrev pub invariant-exprs-loop-one : goal.invariant-exprs-loop-one
invariant-exprs-loop-one l = l.made.items ++ each_at (map expr_spilled (drop l.one-index l.source)) l.at ≡ each_at (map expr_spilled l.source) l.initial.at

abbrev pub invariant-cases-loop-one : goal.invariant-cases-loop-one
invariant-cases-loop-one l = l.made.items ++ cases_at (map case_spilled (drop l.one-index l.source)) l.test_place l.place ≡ cases_at (map case_spilled l.source) l.test_place l.place

abbrev pub invariant-stats-loop-one : goal.invariant-stats-loop-one
invariant-stats-loop-one l = all_at (map stat_spilled (drop l.one-index l.source)) l.place l.out ≡ all_at (map stat_spilled l.source) l.place l.initial.out
