use Rattle.std.proofs.Common.{◌≡◌, ◌∙◌, ap, sym, subst, string_bytes, slice_set}
use Rattle.std.proofs.Math.Seq.{map-set_same}
use Rattle.es_outside.specs.NamedList.{names_of}
use Rattle.es_outside.specs.Refusals.{AreHostNames}
use Rattle.es_outside.proofs.hosts.Hosts.ask.Goals as goal

pub invariant_of-self : goal.invariant_of-self
invariant_of-self g c =
    let entries = c.args.self.now.list.items in
    let same : names_of (slice_set entries c.args.index c.ask_one.new.entry) ≡ names_of entries =
    map-set_same (λ entry. string_bytes entry.0) entries c.args.index c.ask_one.new.entry c.index_mut.result.now
    (ap (λ name. string_bytes name) (c.ask_one.ensures.name ∙ ap (λ entry. entry.0) c.index_mut.ensures.value)) in
    record { are_host_names = subst AreHostNames (sym same) c.args.self.now.are_host_names }
