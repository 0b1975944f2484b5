use Rattle.std.proofs.Common.{◌≡◌, drop, map}
use Rattle.core_ast.specs.Walks.{along}
use Rattle.core_ast.specs.Checks.{case_checks, expr_checks, link_checks, stat_checks}
use Rattle.core_ast.proofs.counting.+checks.Given as goal

abbrev pub invariant-links-loop-one : goal.invariant-links-loop-one
invariant-links-loop-one l = along (map link_checks (drop l.one-index l.source)) l.so_far ≡ along (map link_checks l.source) l.initial.so_far

abbrev pub invariant-exprs-loop-one : goal.invariant-exprs-loop-one
invariant-exprs-loop-one l = along (map expr_checks (drop l.one-index l.source)) l.so_far ≡ along (map expr_checks l.source) l.initial.so_far

abbrev pub invariant-cases-loop-one : goal.invariant-cases-loop-one
invariant-cases-loop-one l = along (map case_checks (drop l.one-index l.source)) l.so_far ≡ along (map case_checks l.source) l.initial.so_far

abbrev pub invariant-stats-loop-one : goal.invariant-stats-loop-one
invariant-stats-loop-one l = along (map stat_checks (drop l.one-index l.source)) l.so_far ≡ along (map stat_checks l.source) l.initial.so_far
