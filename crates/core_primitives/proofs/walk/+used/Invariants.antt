use Rattle.std.proofs.Common.{◌≡◌, drop, map}
use Rattle.core_ast.specs.Walks.{along}
use Rattle.core_primitives.specs.Used.{case_used, expr_used, link_used, stat_used}
use Rattle.core_primitives.proofs.walk.+used.Given as goal

abbrev pub invariant-links-loop-one : goal.invariant-links-loop-one
invariant-links-loop-one l = along (map link_used (drop l.one-index l.source)) l.so_far ≡ along (map link_used l.source) l.initial.so_far

abbrev pub invariant-exprs-loop-one : goal.invariant-exprs-loop-one
invariant-exprs-loop-one l = along (map expr_used (drop l.one-index l.source)) l.so_far ≡ along (map expr_used l.source) l.initial.so_far

abbrev pub invariant-cases-loop-one : goal.invariant-cases-loop-one
invariant-cases-loop-one l = along (map case_used (drop l.one-index l.source)) l.so_far ≡ along (map case_used l.source) l.initial.so_far

abbrev pub invariant-stats-loop-one : goal.invariant-stats-loop-one
invariant-stats-loop-one l = along (map stat_used (drop l.one-index l.source)) l.so_far ≡ along (map stat_used l.source) l.initial.so_far
