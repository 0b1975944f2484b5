use Rattle.std.proofs.Common.{Some, sym, ap, ◌∙◌, subst}
use Rattle.std.proofs.lemmas.Option.{slice_get-get_or}
use Rattle.graph_namespaces.specs.Asked.{KeepsKeys, asked_names}
use Rattle.graph_namespaces.proofs.Asking.{visits-some}
use Rattle.graph_namespaces.proofs.reached.visit.Goals as goal

pub returns-in_ok-add_stars-in-Some : goal.returns-in_ok-add_stars-in-Some
returns-in_ok-add_stars-in-Some c =
    visits-some c.args.known.now c.args.number c.args.index c.in-Some.summary.now c.args.reached.now.keys c.add_stars.new.reached.keys c.args.names.now c.add_names.new.names
    (slice_get-get_or c.args.known.now c.args.number c.in-Some.summary.now c.in-Some.ensures.lookup.3.0 ∙ ap (λ z. Some z) (sym c.in-Some.ensures.lookup.1)) (c.in_ok-add_names-in-Some.ensures ∙ ap (asked_names c.args.index c.args.names.now) c.as_slice.ensures)
    (subst (λ hs. KeepsKeys hs c.args.reached.now.keys c.add_stars.new.reached.keys) c.as_slice-in-Some.ensures c.in_ok-add_stars-in-Some.ensures)
