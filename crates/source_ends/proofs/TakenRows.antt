-- The rows by what takes a completion are the rows of the definitions: each case.
use Rattle.std.proofs.Common.{◌≡◌, ◌∙◌, refl}
use Rattle.es_value.specs.declared.value.Value.{Value}
use Rattle.es_calls.specs.declared.call.Resumption.{Resumption}
use Rattle.source_meaning.specs.Frames.{given, given_expression, given_pattern, given_statement, handed, over, resumed, taken}
use Rattle.source_meaning.specs.State.{Breaks, Completion, Continues, Done, Gives, Reference, Refers, Resumes, Returns, State, Throws}
use Rattle.source_takers.proofs.OtherRows.{body_handed, caller_handed, end_handed, resumption_handed, scope_handed, slot_handed, target_handed}
use Rattle.source_takers.specs.Rows.{referred}
use Rattle.source_takers.specs.Takers.{body_work, caller_work, end_work, resumption_work, scope_work, slot_work, target_work}
use Rattle.source_ends.specs.Taken.{body_done, body_over, caller_done, caller_given, end_done, end_over, scope_done, scope_given, scope_over, slot_done, slot_taken, target_done, target_taken, waiting_done, waiting_resumed}
use Rattle.source_takers.specs.declared.takers.TargetTaker.{TargetTaker}
use Rattle.source_takers.specs.declared.takers.TargetTaker.TheVariants as target
use Rattle.source_takers.specs.declared.takers.SlotTaker.{SlotTaker}
use Rattle.source_takers.specs.declared.takers.SlotTaker.TheVariants as slot
use Rattle.source_takers.specs.declared.takers.EndTaker.{EndTaker}
use Rattle.source_takers.specs.declared.takers.EndTaker.TheVariants as end
use Rattle.source_takers.specs.declared.takers.ResumptionTaker.{ResumptionTaker}
use Rattle.source_takers.specs.declared.takers.ResumptionTaker.TheVariants as waiting
use Rattle.source_takers.specs.declared.takers.ScopeTaker.{ScopeTaker}
use Rattle.source_takers.specs.declared.takers.ScopeTaker.TheVariants as scope
use Rattle.source_takers.specs.declared.takers.CallerTaker.{CallerTaker}
use Rattle.source_takers.specs.declared.takers.CallerTaker.TheVariants as caller
use Rattle.source_takers.specs.declared.takers.BodyTaker.{BodyTaker}
use Rattle.source_takers.specs.declared.takers.BodyTaker.TheVariants as body

target_gives : (st : State) (v : Value) (t : TargetTaker) → referred st (Gives v) (target_work t) ≡ target_taken t st (Gives v)
unfolding taken target_work
target_gives st v (target.Links a b) = refl
target_gives st v t = refl

target_refers : (st : State) (r : Reference) (t : TargetTaker) → referred st (Refers r) (target_work t) ≡ target_taken t st (Refers r)
unfolding taken target_work
target_refers st r (target.Links a b) = refl
target_refers st r t = refl

slot_gives : (st : State) (v : Value) (t : SlotTaker) → referred st (Gives v) (slot_work t) ≡ slot_taken t st (Gives v)
unfolding taken slot_work
slot_gives st v (slot.ElementTarget a b d e) = refl
slot_gives st v t = refl

slot_refers : (st : State) (r : Reference) (t : SlotTaker) → referred st (Refers r) (slot_work t) ≡ slot_taken t st (Refers r)
unfolding taken slot_work
slot_refers st r (slot.ElementTarget a b d e) = refl
slot_refers st r t = refl

end_ends : (st : State) (t : EndTaker) → over st (end_work t) ≡ end_over t st
unfolding over end_work
end_ends st (end.MembersRest a b d) = refl
end_ends st t = refl

scope_ends : (st : State) (t : ScopeTaker) → over st (scope_work t) ≡ scope_over t st
unfolding over scope_work
scope_ends st (scope.Behind a) = refl
scope_ends st t = refl

body_ends : (st : State) (t : BodyTaker) → over st (body_work t) ≡ body_over t st
unfolding over body_work
body_ends st body.SwitchBody = refl
body_ends st t = refl

waiting_resumes : (st : State) (kind : Resumption) (v : Value) (t : ResumptionTaker) → resumed st kind v (resumption_work t) ≡ waiting_resumed t st kind v
unfolding resumption_work
waiting_resumes st kind v (waiting.GeneratorStart a) = refl
waiting_resumes st kind v t = refl

scope_gives : (st : State) (v : Value) (t : ScopeTaker) → given st v (scope_work t) ≡ scope_given t st v
unfolding given given_statement given_pattern given_expression scope_work
scope_gives st v (scope.Behind a) = refl
scope_gives st v t = refl

caller_gives : (st : State) (v : Value) (t : CallerTaker) → given st v (caller_work t) ≡ caller_given t st v
unfolding given given_statement given_pattern given_expression caller_work
caller_gives st v (caller.Operation a) = refl
caller_gives st v t = refl

pub target_row : (st : State) (c : Completion) (t : TargetTaker) → handed (target_work t) st c ≡ target_done t st c
target_row st (Gives v) t = target_handed st (Gives v) t ∙ target_gives st v t
target_row st (Refers r) t = target_handed st (Refers r) t ∙ target_refers st r t
target_row st Done t = target_handed st Done t
target_row st (Resumes kind v) t = target_handed st (Resumes kind v) t
target_row st (Throws v) t = target_handed st (Throws v) t
target_row st (Returns v) t = target_handed st (Returns v) t
target_row st (Breaks l) t = target_handed st (Breaks l) t
target_row st (Continues l) t = target_handed st (Continues l) t

pub slot_row : (st : State) (c : Completion) (t : SlotTaker) → handed (slot_work t) st c ≡ slot_done t st c
slot_row st (Gives v) t = slot_handed st (Gives v) t ∙ slot_gives st v t
slot_row st (Refers r) t = slot_handed st (Refers r) t ∙ slot_refers st r t
slot_row st Done t = slot_handed st Done t
slot_row st (Resumes kind v) t = slot_handed st (Resumes kind v) t
slot_row st (Throws v) t = slot_handed st (Throws v) t
slot_row st (Returns v) t = slot_handed st (Returns v) t
slot_row st (Breaks l) t = slot_handed st (Breaks l) t
slot_row st (Continues l) t = slot_handed st (Continues l) t

pub end_row : (st : State) (c : Completion) (t : EndTaker) → handed (end_work t) st c ≡ end_done t st c
end_row st (Gives v) t = end_handed st (Gives v) t
end_row st (Refers r) t = end_handed st (Refers r) t
end_row st Done t = end_handed st Done t ∙ end_ends st t
end_row st (Resumes kind v) t = end_handed st (Resumes kind v) t
end_row st (Throws v) t = end_handed st (Throws v) t
end_row st (Returns v) t = end_handed st (Returns v) t
end_row st (Breaks l) t = end_handed st (Breaks l) t
end_row st (Continues l) t = end_handed st (Continues l) t

pub waiting_row : (st : State) (c : Completion) (t : ResumptionTaker) → handed (resumption_work t) st c ≡ waiting_done t st c
waiting_row st (Gives v) t = resumption_handed st (Gives v) t
waiting_row st (Refers r) t = resumption_handed st (Refers r) t
waiting_row st Done t = resumption_handed st Done t
waiting_row st (Resumes kind v) t = resumption_handed st (Resumes kind v) t ∙ waiting_resumes st kind v t
waiting_row st (Throws v) t = resumption_handed st (Throws v) t
waiting_row st (Returns v) t = resumption_handed st (Returns v) t
waiting_row st (Breaks l) t = resumption_handed st (Breaks l) t
waiting_row st (Continues l) t = resumption_handed st (Continues l) t

pub scope_row : (st : State) (c : Completion) (t : ScopeTaker) → handed (scope_work t) st c ≡ scope_done t st c
scope_row st (Gives v) t = scope_handed st (Gives v) t ∙ scope_gives st v t
scope_row st (Refers r) t = scope_handed st (Refers r) t
scope_row st Done t = scope_handed st Done t ∙ scope_ends st t
scope_row st (Resumes kind v) t = scope_handed st (Resumes kind v) t
scope_row st (Throws v) t = scope_handed st (Throws v) t
scope_row st (Returns v) t = scope_handed st (Returns v) t
scope_row st (Breaks l) t = scope_handed st (Breaks l) t
scope_row st (Continues l) t = scope_handed st (Continues l) t

pub caller_row : (st : State) (c : Completion) (t : CallerTaker) → handed (caller_work t) st c ≡ caller_done t st c
caller_row st (Gives v) t = caller_handed st (Gives v) t ∙ caller_gives st v t
caller_row st (Refers r) t = caller_handed st (Refers r) t
caller_row st Done t = caller_handed st Done t
caller_row st (Resumes kind v) t = caller_handed st (Resumes kind v) t
caller_row st (Throws v) t = caller_handed st (Throws v) t
caller_row st (Returns v) t = caller_handed st (Returns v) t
caller_row st (Breaks l) t = caller_handed st (Breaks l) t
caller_row st (Continues l) t = caller_handed st (Continues l) t

pub body_row : (st : State) (c : Completion) (t : BodyTaker) → handed (body_work t) st c ≡ body_done t st c
body_row st (Gives v) t = body_handed st (Gives v) t
body_row st (Refers r) t = body_handed st (Refers r) t
body_row st Done t = body_handed st Done t ∙ body_ends st t
body_row st (Resumes kind v) t = body_handed st (Resumes kind v) t
body_row st (Throws v) t = body_handed st (Throws v) t
body_row st (Returns v) t = body_handed st (Returns v) t
body_row st (Breaks l) t = body_handed st (Breaks l) t
body_row st (Continues l) t = body_handed st (Continues l) t
