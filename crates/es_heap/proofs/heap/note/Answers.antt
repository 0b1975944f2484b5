use Rattle.std.proofs.Common.{◌≡◌, ℕ, List, true, sym, subst}
use Rattle.std.specs.List.{list_any}
use Rattle.es_heap.specs.declared.key.Key.{Key}
use Rattle.es_heap.specs.Heaps.{IsNotedAt, same_note}
use Rattle.es_heap.proofs.NoteLemmas.{noted_insert}
use Rattle.es_heap.proofs.heap.note.Goals as goal

pub returns-in_ok-insert-clause-ok : goal.returns-in_ok-insert-clause-ok
returns-in_ok-insert-clause-ok c =
    subst (λ p. IsNotedAt p c.args.key.now c.insert.new.self.keys) (sym c.in-Some.is)
    (subst (λ (k : Key). list_any (same_note (c.in-Some.up.0, k)) c.insert.new.self.keys ≡ true) c.in_ok-share.ensures
    (subst (λ (ks : List (ℕ × Key)). list_any (same_note (c.in-Some.up.0, c.in_ok-share.field-0)) ks ≡ true) (sym c.in_ok-insert.ensures.keys)
    (noted_insert c.args.notes.now.keys (c.in-Some.up.0, c.in_ok-share.field-0))))
