use Rattle.std.proofs.Common.{◌≡◌, drop, map}
use Rattle.core_ast.specs.Walks.{along}
use Rattle.core_ast.specs.Mentions.{case_mentions, expr_mentions, link_mentions, stat_mentions}
use Rattle.core_ast.proofs.gathering.+mentions.Given as goal

abbrev pub invariant-links-loop-one : goal.invariant-links-loop-one
invariant-links-loop-one l = along (map link_mentions (drop l.one-index l.source)) l.mentions ≡ along (map link_mentions l.source) l.initial.mentions

abbrev pub invariant-exprs-loop-one : goal.invariant-exprs-loop-one
invariant-exprs-loop-one l = along (map expr_mentions (drop l.one-index l.source)) l.mentions ≡ along (map expr_mentions l.source) l.initial.mentions

abbrev pub invariant-cases-loop-one : goal.invariant-cases-loop-one
invariant-cases-loop-one l = along (map case_mentions (drop l.one-index l.source)) l.mentions ≡ along (map case_mentions l.source) l.initial.mentions

abbrev pub invariant-stats-loop-one : goal.invariant-stats-loop-one
invariant-stats-loop-one l = along (map stat_mentions (drop l.one-index l.source)) l.mentions ≡ along (map stat_mentions l.source) l.initial.mentions
