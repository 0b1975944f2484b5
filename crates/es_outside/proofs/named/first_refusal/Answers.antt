use Rattle.std.proofs.Common.{◌≡◌, arith, map, sym, ◌∙◌, ap, inr, refl}
use Rattle.std.proofs.lemmas.List.{length-map}
use Rattle.es_outside.specs.HostNames.{is_host_name}
use Rattle.es_outside.specs.NamedList.{name_at}
use Rattle.es_outside.proofs.NameLemmas.{name_at-entry, found_in_front, none_in_front, AreHostNamesBelow-next}
use Rattle.es_outside.proofs.named.first_refusal.Goals as goal

pub returns-then-is_some : goal.returns-then-is_some
returns-then-is_some g c =
    let label = g.N.Named.label in
    let here : name_at (map g.N.Named.label c.args.list.now) c.loop-at.at ≡ c.name-name.result.now =
    name_at-entry label c.args.list.now c.loop-at.at c.index-list-at.result (omega arith) c.index-list-at.is ∙ sym c.name-name.ensures in
    let twin = found_in_front label c.args.list.now c.loop-at.at c.name-name.result.now c.position_of.result (omega arith)
    c.position_of.ensures.some c.if-is_some.ensures in
    record {
      within = simp length-map (omega arith);
      earlier = c.loop-at.invariant;
      reason = inr (refl, ap is_host_name here ∙ sym c.if-not-may_name_host.ensures, (twin.0, twin.1, twin.2 ∙ sym here));
    }

pub loop-at-preserved : goal.loop-at-preserved
loop-at-preserved g c =
    let label = g.N.Named.label in
    let here : name_at (map g.N.Named.label c.args.list.now) c.loop-at.at ≡ c.name-name.result.now =
    name_at-entry label c.args.list.now c.loop-at.at c.index-list-at.result (omega arith) c.index-list-at.is ∙ sym c.name-name.ensures in
    AreHostNamesBelow-next (map label c.args.list.now) c.loop-at.at c.loop-at.invariant (ap is_host_name here ∙ sym c.if-not-may_name_host.ensures)
    (rw here (none_in_front label c.args.list.now c.loop-at.at c.name-name.result.now c.position_of.result (omega arith)
    c.position_of.ensures.none c.if-is_some.ensures))
