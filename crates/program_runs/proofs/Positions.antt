-- What the answer of a step says, by the answer.
use Rattle.std.proofs.Common.{◌≡◌, refl, sym, subst}
use Rattle.runs.specs.Run.{Goes, Asks}
use Rattle.es_outside.specs.declared.events.Event.{Event}
use Rattle.es_outside.specs.declared.host.Reply.{Reply}
use Rattle.es_outside.specs.declared.events.Step.TheVariants as answer
use Rattle.program_runs.specs.Positions.{Position, At, Awaits, Over, IsAt, IsAwaiting, Next, Steps}

pub at_state : {S : Type 0} (p : Position S) → IsAt p → (state : S) × (p ≡ At state)
at_state (At state) is = (state, refl)
at_state (Awaits follow) is = absurd is
at_state Over is = absurd is

pub is_at : {S : Type 0} (p : Position S) (state : S) → p ≡ At state → IsAt p
is_at p state is = subst (λ q. IsAt q) (sym is) tt

pub is_awaiting : {S : Type 0} (p : Position S) (follow : Reply → S) → p ≡ Awaits follow → IsAwaiting p
is_awaiting p follow is = subst (λ q. IsAwaiting q) (sym is) tt

pub running : {S : Type 0} (after : Position S) (next : Next S) → Steps answer.Running after next → (state : S) × (next ≡ Goes state) × (after ≡ At state)
running (At state) next is = (state, is, refl)
running (Awaits follow) next is = absurd is
running Over next is = absurd is

pub asking : {S : Type 0} (event : Event) (after : Position S) (next : Next S) → Steps (answer.Asks event) after next
    → (follow : Reply → S) × (next ≡ Asks event follow) × (after ≡ Awaits follow)
asking event (At state) next is = absurd is
asking event (Awaits follow) next is = (follow, is, refl)
asking event Over next is = absurd is
