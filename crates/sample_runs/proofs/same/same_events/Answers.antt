use Rattle.std.proofs.Common.{◌∙◌, Some, ap, arith, refl, sym}
use Rattle.std.proofs.lemmas.Option.{slice_get-get_or}
use Rattle.sample_runs.proofs.Alike.{alike-all, alike-more}
use Rattle.sample_runs.proofs.same.same_events.Goals as goal

pub loop-at-preserved : goal.loop-at-preserved
loop-at-preserved g c =
    alike-more _ c.args.script.now c.args.source.now c.loop-at.at c.index-script-at.result c.index-source-at.result
    (slice_get-get_or c.args.script.now c.loop-at.at c.index-script-at.result (omega arith) ∙ ap (λ z. Some z) (sym c.index-script-at.is))
    (slice_get-get_or c.args.source.now c.loop-at.at c.index-source-at.result (omega arith) ∙ ap (λ z. Some z) (sym c.index-source-at.is))
    (c.is_same_event.ensures.0 c.if-not-is_same_event.false) c.loop-at.invariant

pub returns : goal.returns
returns g c = (
  λ t. record { size = omega arith; each = alike-all _ c.args.script.now c.args.source.now c.loop-at.at (omega arith) c.loop-at.invariant },
  λ s. refl,
)
