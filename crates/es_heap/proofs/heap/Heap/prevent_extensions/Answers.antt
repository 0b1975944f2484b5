use Rattle.std.proofs.Common.{◌<◌, ap, arith, length}
use Rattle.es_heap.specs.Objects.{Object}
use Rattle.es_heap.proofs.NoteLemmas.{kept}
use Rattle.es_heap.proofs.heap.Heap.prevent_extensions.Goals as goal

pub invariant_of-self : goal.invariant_of-self
invariant_of-self c =
    let there : c.args.id.0 < length c.self.inside.objects.items = omega arith in
    kept c.self.inside.notes.keys c.self.inside.objects.items c.args.id _ _ _ there c.index_mut-object.ensures.value (ap (λ (o : Object). o.proto) c.prevent_extensions.ensures) (ap (λ (o : Object). o.recorded) c.prevent_extensions.ensures) c.self.invariant
