-- A step by the row of what takes a completion is one by the work that it is.
use Rattle.std.proofs.Common.{◌≡◌, Result, subst, sym}
use Rattle.source_ends.proofs.TakenRows.{body_row, caller_row, end_row, scope_row, slot_row, target_row, waiting_row}
use Rattle.source_ends.specs.Taken.{body_done, caller_done, end_done, scope_done, slot_done, target_done, waiting_done}
use Rattle.source_meaning.specs.Frames.{handed}
use Rattle.source_meaning.specs.State.{Completion, State, Work}
use Rattle.source_meaning.specs.Steps.{Next}
use Rattle.source_moves.specs.Moves.{Steps}
use Rattle.source_moves.specs.declared.moves.Move.{Move}
use Rattle.source_state.specs.declared.state.State.{State as StateOf}
use Rattle.source_takers.specs.Takers.{body_work, caller_work, end_work, resumption_work, scope_work, slot_work, target_work, value_work, work_of}
use Rattle.source_takers.specs.declared.values.ValueTaker.{ValueTaker}
use Rattle.source_takers.specs.declared.takers.TargetTaker.{TargetTaker}
use Rattle.source_takers.specs.declared.takers.EndTaker.{EndTaker}
use Rattle.source_takers.specs.declared.takers.ResumptionTaker.{ResumptionTaker}
use Rattle.source_takers.specs.declared.takers.ScopeTaker.{ScopeTaker}
use Rattle.source_takers.specs.declared.takers.CallerTaker.{CallerTaker}
use Rattle.source_takers.specs.declared.takers.BodyTaker.{BodyTaker}
use Rattle.source_takers.specs.declared.takers.SlotTaker.{SlotTaker}
use Rattle.source_takers.specs.declared.takers.Taker.TheVariants as taker
use Rattle.source_values.proofs.GivenRows.{valued_row}
use Rattle.source_values.specs.Given.{valued}

by_law : {W E : Type 0} (seen : W → Work) (r : Result Move E) (after : StateOf W) (v w : Work) (st : State) (c : Completion) (n : Next) → v ≡ w → handed v st c ≡ n → Steps seen r after n → Steps seen r after (handed w st c)
by_law seen r after v w st c n is law h = subst (λ x. Steps seen r after (handed x st c)) is (subst (λ x. Steps seen r after x) (sym law) h)

pub value_steps : {W E : Type 0} (seen : W → Work) (r : Result Move E) (after : StateOf W) (w : Work) (st : State) (c : Completion) (t : ValueTaker) → work_of (taker.Value t) ≡ w → Steps seen r after (valued t st c) → Steps seen r after (handed w st c)
unfolding work_of
value_steps seen r after w st c t is h = by_law seen r after (value_work t) w st c (valued t st c) is (valued_row st c t) h

pub target_steps : {W E : Type 0} (seen : W → Work) (r : Result Move E) (after : StateOf W) (w : Work) (st : State) (c : Completion) (t : TargetTaker) → work_of (taker.Target t) ≡ w → Steps seen r after (target_done t st c) → Steps seen r after (handed w st c)
unfolding work_of
target_steps seen r after w st c t is h = by_law seen r after (target_work t) w st c (target_done t st c) is (target_row st c t) h

pub end_steps : {W E : Type 0} (seen : W → Work) (r : Result Move E) (after : StateOf W) (w : Work) (st : State) (c : Completion) (t : EndTaker) → work_of (taker.End t) ≡ w → Steps seen r after (end_done t st c) → Steps seen r after (handed w st c)
unfolding work_of
end_steps seen r after w st c t is h = by_law seen r after (end_work t) w st c (end_done t st c) is (end_row st c t) h

pub resumption_steps : {W E : Type 0} (seen : W → Work) (r : Result Move E) (after : StateOf W) (w : Work) (st : State) (c : Completion) (t : ResumptionTaker) → work_of (taker.Resumption t) ≡ w → Steps seen r after (waiting_done t st c) → Steps seen r after (handed w st c)
unfolding work_of
resumption_steps seen r after w st c t is h = by_law seen r after (resumption_work t) w st c (waiting_done t st c) is (waiting_row st c t) h

pub scope_steps : {W E : Type 0} (seen : W → Work) (r : Result Move E) (after : StateOf W) (w : Work) (st : State) (c : Completion) (t : ScopeTaker) → work_of (taker.Scope t) ≡ w → Steps seen r after (scope_done t st c) → Steps seen r after (handed w st c)
unfolding work_of
scope_steps seen r after w st c t is h = by_law seen r after (scope_work t) w st c (scope_done t st c) is (scope_row st c t) h

pub caller_steps : {W E : Type 0} (seen : W → Work) (r : Result Move E) (after : StateOf W) (w : Work) (st : State) (c : Completion) (t : CallerTaker) → work_of (taker.Caller t) ≡ w → Steps seen r after (caller_done t st c) → Steps seen r after (handed w st c)
unfolding work_of
caller_steps seen r after w st c t is h = by_law seen r after (caller_work t) w st c (caller_done t st c) is (caller_row st c t) h

pub body_steps : {W E : Type 0} (seen : W → Work) (r : Result Move E) (after : StateOf W) (w : Work) (st : State) (c : Completion) (t : BodyTaker) → work_of (taker.Body t) ≡ w → Steps seen r after (body_done t st c) → Steps seen r after (handed w st c)
unfolding work_of
body_steps seen r after w st c t is h = by_law seen r after (body_work t) w st c (body_done t st c) is (body_row st c t) h

pub slot_steps : {W E : Type 0} (seen : W → Work) (r : Result Move E) (after : StateOf W) (w : Work) (st : State) (c : Completion) (t : SlotTaker) → work_of (taker.Slot t) ≡ w → Steps seen r after (slot_done t st c) → Steps seen r after (handed w st c)
unfolding work_of
slot_steps seen r after w st c t is h = by_law seen r after (slot_work t) w st c (slot_done t st c) is (slot_row st c t) h
