use Rattle.std.proofs.Common.{Some, sym, ap, ◌∙◌, arith}
use Rattle.std.proofs.lemmas.Option.{slice_get-get_or}
use Rattle.module_summaries.proofs.Growing.{summaries-more}
use Rattle.module_summaries.proofs.summaries.summaries_of.Goals as goal

pub loop-index-preserved : goal.loop-index-preserved
loop-index-preserved g c =
    summaries-more c.args.modules.now c.loop-index.index c.index-modules-index.result c.loop-index.summaries c.push.new.self c.in_ok-made.made.summary
    (slice_get-get_or c.args.modules.now c.loop-index.index c.index-modules-index.result (omega arith) ∙ ap (λ z. Some z) (sym c.index-modules-index.is)) c.loop-index.invariant
    c.in_ok-made.ensures.summary c.in_ok-push.ensures.ok
