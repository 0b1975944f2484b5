use Rattle.std.proofs.Common.{◌≡◌, ◌<◌, ◌∙◌, sym, ap, arith, length}
use Rattle.std.proofs.lemmas.List.{get_or_default}
use Rattle.es_heap.specs.Objects.{Object}
use Rattle.es_heap.proofs.NoteLemmas.{kept_record}
use Rattle.es_heap.proofs.heap.Heap.record_key.Goals as goal

pub invariant_of-self-2 : goal.invariant_of-self-2
invariant_of-self-2 c =
    let there : c.args.id.0 < length c.self.inside.objects.items = omega arith in
    let same : c.index.result.now ≡ c.index_mut-object.result.now = c.index.ensures ∙ get_or_default c.self.inside.objects.items c.args.id.0 _ _ there ∙ sym c.index_mut-object.ensures.value in
    kept_record c.self.inside.notes.keys c.note.new.notes.keys c.self.inside.objects.items c.args.id c.args.key _ _ _ c.proto.result c.record_key.result there c.index_mut-object.ensures.value
    (c.proto.ensures ∙ ap (λ (o : Object). o.proto) same) c.note.ensures.kept c.in_ok-note.ensures.ok c.record_key.ensures.ok c.record_key.ensures.err c.self.invariant
