use Rattle.std.proofs.Common.{◌≡◌, ◌++◌, ◌∙◌, sym, ap, List}
use Rattle.es_heap.specs.declared.key.Key.{Key}
use Rattle.es_heap.specs.declared.prop.Prop.{Prop}
use Rattle.es_heap.specs.Objects.{length_entry}
use Rattle.es_heap.proofs.ObjectLemmas.{remove-apart, deleted-found}
use Rattle.es_heap.proofs.object.Object.delete_own.Goals as goal

pub returns-clause-object : goal.returns-clause-object
returns-clause-object c =
    let found = sym (rw (← c.self.view_is) at c.in-Some.ensures) in
    let goes = sym c.if-not-is_configurable.ensures in
    rw (← c.self.view_is)
    (deleted-found _ c.args.key.now c.in-Some.property.now _ found goes
    (ap (λ (t : List (Key × Prop)). length_entry c.self.inside.length ++ t) c.remove.ensures
    ∙ remove-apart c.self.inside.length c.self.inside.table c.args.key.now c.in-Some.property.now found goes))
