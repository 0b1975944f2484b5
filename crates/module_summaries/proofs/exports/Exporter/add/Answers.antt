use Rattle.std.proofs.Common.{Some, ap, sym, ◌∙◌}
use Rattle.std.proofs.lemmas.Option.{slice_get-get_or}
use Rattle.module_summaries.specs.Parts.{exports_at}
use Rattle.module_summaries.proofs.Maps.{all-joined, joined-more}
use Rattle.module_summaries.proofs.exports.Exporter.add.Goals as goal

pub loop-item-preserved : goal.loop-item-preserved
loop-item-preserved g c = λ known knows.
    joined-more (exports_at known c.args.self.now) c.args.items.now c.loop-item.item-index c.item-item.result c.loop-item.all c.add_item.new.all _
    (slice_get-get_or c.args.items.now c.loop-item.item-index c.item-item.result c.loop-item-test.true ∙ ap (λ z. Some z) (sym c.item-item.is)) (c.in_ok-add_item.ensures known knows) (c.loop-item.invariant known knows)

pub returns : goal.returns
returns g c = λ known knows.
    all-joined (exports_at known c.args.self.now) c.args.items.now c.loop-item.item-index c.loop-item.all _ c.loop-item-test.false (c.loop-item.invariant known knows)
