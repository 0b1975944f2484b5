use Rattle.std.proofs.Common.{◌≡◌, ◌≢◌, arith, map, sym, ◌∙◌}
use Rattle.std.proofs.lemmas.List.{length-map}
use Rattle.std.proofs.lemmas.Slice.Eq.{bytes_eq-Decides}
use borrow.Author.Count.{below_more}
use Rattle.es_outside.specs.NamedList.{name_at}
use Rattle.es_outside.proofs.NameLemmas.{name_at-entry}
use Rattle.es_outside.proofs.named.position_of.Goals as goal

pub returns-then-eq-clause-some : goal.returns-then-eq-clause-some
returns-then-eq-clause-some g c =
    let here : name_at (map g.N.Named.label c.args.list.now) c.loop-index.index ≡ c.name.result.now =
    name_at-entry g.N.Named.label c.args.list.now c.loop-index.index c.index-list-index.result (omega arith) c.index-list-index.is ∙ sym c.name.ensures in
    record {
      within = simp length-map (omega arith);
      name_is = here ∙ (bytes_eq-Decides c.name.result.now c.args.name.now).0 (sym c.if-eq.ensures);
    }

pub loop-index-preserved : goal.loop-index-preserved
loop-index-preserved g c =
    let here : name_at (map g.N.Named.label c.args.list.now) c.loop-index.index ≡ c.name.result.now =
    name_at-entry g.N.Named.label c.args.list.now c.loop-index.index c.index-list-index.result (omega arith) c.index-list-index.is ∙ sym c.name.ensures in
    below_more (λ k. name_at (map g.N.Named.label c.args.list.now) k ≢ c.args.name.now) c.loop-index.index c.loop-index.invariant
    (λ same. cc ((bytes_eq-Decides c.name.result.now c.args.name.now).1 (sym here ∙ same), c.if-eq.ensures))
