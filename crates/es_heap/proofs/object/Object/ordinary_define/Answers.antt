use Rattle.std.proofs.Common.{◌≡◌, sym, ap, ◌∙◌, ◌&&◌, is_some, false}
use denote.Builtin.{unit}
use Rattle.es_heap.specs.Keys.{same_key, length_key}
use Rattle.es_heap.proofs.ObjectLemmas.{Comes-refused, lookup-apart, ordinary_define-refused}
use Rattle.es_heap.proofs.object.Object.ordinary_define.Goals as goal

pub returns-in-Some-refusal-clause-outcome : goal.returns-in-Some-refusal-clause-outcome
returns-in-Some-refusal-clause-outcome c =
    let apart : is_some c.self.inside.length && same_key c.args.key length_key ≡ false =
    ap (λ b. b && same_key c.args.key length_key) c.self.invariant ∙ (rw (← c.self.view_is) at c.requires) in
    Comes-refused (unit).Denot c.args.self.now c.in-Some-refusal.fault _
    (ordinary_define-refused c.args.self.now c.args.key c.in-Some.now.now c.args.next c.in-Some-refusal.fault
    (rw (← c.self.view_is) (lookup-apart c.self.inside.length c.self.inside.table c.args.key apart ∙ sym c.in-Some.ensures))
    (sym c.refusal.ensures ∙ c.in-Some-refusal.is))
