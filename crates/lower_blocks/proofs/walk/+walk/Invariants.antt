use Rattle.std.proofs.Common.{◌≡◌, ◌++◌, drop, map}
use Rattle.core_ast.specs.Walks.{along}
use Rattle.pass_rules.specs.Scopes.{case_flat, expr_flat, link_flat, stat_flat}
use Rattle.lower_blocks.proofs.walk.+walk.Given as goal

abbrev pub invariant-links-loop-one : goal.invariant-links-loop-one
invariant-links-loop-one l = along (map (link_flat l.owners) (drop l.one-index l.source)) l.made ≡ along (map (link_flat l.owners) l.source) l.initial.made

abbrev pub invariant-exprs-loop-one : goal.invariant-exprs-loop-one
invariant-exprs-loop-one l = l.made ++ map (expr_flat l.owners) (drop l.one-index l.source) ≡ map (expr_flat l.owners) l.source

abbrev pub invariant-cases-loop-one : goal.invariant-cases-loop-one
invariant-cases-loop-one l = l.made ++ map (case_flat l.owners) (drop l.one-index l.source) ≡ map (case_flat l.owners) l.source

abbrev pub invariant-stats-loop-one : goal.invariant-stats-loop-one
invariant-stats-loop-one l = along (map (stat_flat l.owners) (drop l.one-index l.source)) l.out ≡ along (map (stat_flat l.owners) l.source) l.initial.out
