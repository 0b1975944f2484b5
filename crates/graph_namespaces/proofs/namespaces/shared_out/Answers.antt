use Rattle.std.proofs.Common.{◌≡◌, ◌+◌, ◌≤◌, List, drop, length, take, Some, sym, ap, ◌∙◌, subst, arith}
use Rattle.std.specs.Prelude.{slice_get}
use Rattle.std.proofs.lemmas.Option.{slice_get-get_or}
use Rattle.module_endings.specs.declared.answers.Outcome.{Outcome}
use Rattle.graph_namespaces.specs.Entries.{AddsNamespace}
use Rattle.graph_namespaces.proofs.Sharing.{enough, fewer, SharedTo, shared-all, shared-more, shared-none}
use Rattle.graph_namespaces.proofs.namespaces.shared_out.Goals as goal

pub split_at-requires : goal.split_at-requires
split_at-requires c =
    let s = c.index-asked-index.result in
    let there : slice_get c.args.asked.now c.loop-index.index ≡ Some s = slice_get-get_or c.args.asked.now c.loop-index.index s (omega arith) ∙ ap (λ z. Some z) (sym c.index-asked-index.is) in
    let long : length s.wants ≤ length c.loop-index.rest.now = enough c.args.asked.now c.loop-index.index s c.loop-index.rest.now there c.loop-index.invariant.0 in
    omega (arith, long, c.len.ensures)

pub loop-index-init : goal.loop-index-init
loop-index-init c = (c.requires, λ modules hosts are. shared-none modules hosts c.args.count c.args.asked.now c.args.outcomes.now c.new-all.result c.new-all.ensures are)

pub loop-index-preserved : goal.loop-index-preserved
loop-index-preserved c =
    let s = c.index-asked-index.result in
    let rest = c.loop-index.rest.now in
    let there : slice_get c.args.asked.now c.loop-index.index ≡ Some s = slice_get-get_or c.args.asked.now c.loop-index.index s (omega arith) ∙ ap (λ z. Some z) (sym c.index-asked-index.is) in
    let front : c.split_at.result.0.now ≡ take (length s.wants) rest = c.split_at.ensures.front ∙ ap (λ n. take n rest) c.len.ensures in
    let back : c.split_at.result.1.now ≡ drop (length s.wants) rest = c.split_at.ensures.back ∙ ap (λ n. drop n rest) c.len.ensures in (
      ap length back ∙ fewer c.args.asked.now c.loop-index.index s rest there c.loop-index.invariant.0,
      λ modules hosts are. (
          let P : List Outcome → Type 0 = λ os. SharedTo modules hosts c.args.count (c.loop-index.index + 1) c.args.asked.now os c.add_namespace.new.all in
          let Q : List Outcome → Type 0 = λ os. AddsNamespace s.wants os c.loop-index.all c.add_namespace.new.all in
          subst P (sym back) (shared-more modules hosts c.args.count c.loop-index.index c.args.asked.now s rest c.loop-index.all c.add_namespace.new.all there c.in_ok-add_namespace.ensures.skipped
          (λ l. subst Q front (subst (λ ps. AddsNamespace ps c.split_at.result.0.now c.loop-index.all c.add_namespace.new.all) c.as_slice.ensures (c.in_ok-add_namespace.ensures.added l)))
          (c.loop-index.invariant.1 modules hosts are))),
    )

pub returns : goal.returns
returns c = λ modules hosts are. shared-all modules hosts c.args.count c.loop-index.index c.args.asked.now c.loop-index.rest.now c.loop-index.all (omega arith) (c.loop-index.invariant.1 modules hosts are)
