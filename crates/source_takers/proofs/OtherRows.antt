-- What is handed to pending work of each other group: each case of the definitions.
use Rattle.std.proofs.Common.{◌≡◌, refl}
use Rattle.source_meaning.specs.Frames.{abrupt, given, given_expression, given_pattern, given_statement, handed, over, taken}
use Rattle.source_meaning.specs.State.{Breaks, Completion, Continues, Done, Gives, Refers, Resumes, Returns, State, Throws}
use Rattle.source_takers.specs.Rows.{body_row, caller_row, end_row, resumption_row, scope_row, slot_row, target_row}
use Rattle.source_takers.specs.Takers.{body_work, caller_work, end_work, resumption_work, scope_work, slot_work, target_work}
use Rattle.source_takers.specs.declared.takers.TargetTaker.{TargetTaker}
use Rattle.source_takers.specs.declared.takers.TargetTaker.TheVariants as target
use Rattle.source_takers.specs.declared.takers.EndTaker.{EndTaker}
use Rattle.source_takers.specs.declared.takers.EndTaker.TheVariants as end
use Rattle.source_takers.specs.declared.takers.ResumptionTaker.{ResumptionTaker}
use Rattle.source_takers.specs.declared.takers.ResumptionTaker.TheVariants as resumption
use Rattle.source_takers.specs.declared.takers.ScopeTaker.{ScopeTaker}
use Rattle.source_takers.specs.declared.takers.ScopeTaker.TheVariants as scope
use Rattle.source_takers.specs.declared.takers.CallerTaker.{CallerTaker}
use Rattle.source_takers.specs.declared.takers.CallerTaker.TheVariants as caller
use Rattle.source_takers.specs.declared.takers.BodyTaker.{BodyTaker}
use Rattle.source_takers.specs.declared.takers.BodyTaker.TheVariants as body
use Rattle.source_takers.specs.declared.takers.SlotTaker.{SlotTaker}
use Rattle.source_takers.specs.declared.takers.SlotTaker.TheVariants as slot

pub target_handed : (st : State) (c : Completion) (t : TargetTaker) → handed (target_work t) st c ≡ target_row t st c
unfolding handed taken given given_statement given_pattern given_expression over abrupt target_work
target_handed st (Gives v) (target.Links a b) = refl
target_handed st (Gives v) t = refl
target_handed st (Refers v) (target.Links a b) = refl
target_handed st (Refers v) t = refl
target_handed st Done (target.Links a b) = refl
target_handed st Done t = refl
target_handed st (Throws v) (target.Links a b) = refl
target_handed st (Throws v) t = refl
target_handed st (Returns v) (target.Links a b) = refl
target_handed st (Returns v) t = refl
target_handed st (Breaks v) (target.Links a b) = refl
target_handed st (Breaks v) t = refl
target_handed st (Continues v) (target.Links a b) = refl
target_handed st (Continues v) t = refl
target_handed st (Resumes k v) (target.Links a b) = refl
target_handed st (Resumes k v) t = refl

pub end_handed : (st : State) (c : Completion) (t : EndTaker) → handed (end_work t) st c ≡ end_row t st c
unfolding handed taken given given_statement given_pattern given_expression over abrupt end_work
end_handed st (Gives v) (end.MembersRest a b d) = refl
end_handed st (Gives v) t = refl
end_handed st (Refers v) (end.MembersRest a b d) = refl
end_handed st (Refers v) t = refl
end_handed st Done (end.MembersRest a b d) = refl
end_handed st Done t = refl
end_handed st (Throws v) (end.MembersRest a b d) = refl
end_handed st (Throws v) t = refl
end_handed st (Returns v) (end.MembersRest a b d) = refl
end_handed st (Returns v) t = refl
end_handed st (Breaks v) (end.MembersRest a b d) = refl
end_handed st (Breaks v) t = refl
end_handed st (Continues v) (end.MembersRest a b d) = refl
end_handed st (Continues v) t = refl
end_handed st (Resumes k v) (end.MembersRest a b d) = refl
end_handed st (Resumes k v) t = refl

pub resumption_handed : (st : State) (c : Completion) (t : ResumptionTaker) → handed (resumption_work t) st c ≡ resumption_row t st c
unfolding handed taken given given_statement given_pattern given_expression over abrupt resumption_work
resumption_handed st (Gives v) (resumption.GeneratorStart a) = refl
resumption_handed st (Gives v) t = refl
resumption_handed st (Refers v) (resumption.GeneratorStart a) = refl
resumption_handed st (Refers v) t = refl
resumption_handed st Done (resumption.GeneratorStart a) = refl
resumption_handed st Done t = refl
resumption_handed st (Throws v) (resumption.GeneratorStart a) = refl
resumption_handed st (Throws v) t = refl
resumption_handed st (Returns v) (resumption.GeneratorStart a) = refl
resumption_handed st (Returns v) t = refl
resumption_handed st (Breaks v) (resumption.GeneratorStart a) = refl
resumption_handed st (Breaks v) t = refl
resumption_handed st (Continues v) (resumption.GeneratorStart a) = refl
resumption_handed st (Continues v) t = refl
resumption_handed st (Resumes k v) (resumption.GeneratorStart a) = refl
resumption_handed st (Resumes k v) t = refl

pub scope_handed : (st : State) (c : Completion) (t : ScopeTaker) → handed (scope_work t) st c ≡ scope_row t st c
unfolding handed taken given given_statement given_pattern given_expression over abrupt scope_work
scope_handed st (Gives v) (scope.Behind a) = refl
scope_handed st (Gives v) t = refl
scope_handed st (Refers v) (scope.Behind a) = refl
scope_handed st (Refers v) t = refl
scope_handed st Done (scope.Behind a) = refl
scope_handed st Done t = refl
scope_handed st (Throws v) (scope.Behind a) = refl
scope_handed st (Throws v) t = refl
scope_handed st (Returns v) (scope.Behind a) = refl
scope_handed st (Returns v) t = refl
scope_handed st (Breaks v) (scope.Behind a) = refl
scope_handed st (Breaks v) t = refl
scope_handed st (Continues v) (scope.Behind a) = refl
scope_handed st (Continues v) t = refl
scope_handed st (Resumes k v) (scope.Behind a) = refl
scope_handed st (Resumes k v) t = refl

pub caller_handed : (st : State) (c : Completion) (t : CallerTaker) → handed (caller_work t) st c ≡ caller_row t st c
unfolding handed taken given given_statement given_pattern given_expression over abrupt caller_work
caller_handed st (Gives v) (caller.Operation a) = refl
caller_handed st (Gives v) t = refl
caller_handed st (Refers v) (caller.Operation a) = refl
caller_handed st (Refers v) t = refl
caller_handed st Done (caller.Operation a) = refl
caller_handed st Done t = refl
caller_handed st (Throws v) (caller.Operation a) = refl
caller_handed st (Throws v) t = refl
caller_handed st (Returns v) (caller.Operation a) = refl
caller_handed st (Returns v) t = refl
caller_handed st (Breaks v) (caller.Operation a) = refl
caller_handed st (Breaks v) t = refl
caller_handed st (Continues v) (caller.Operation a) = refl
caller_handed st (Continues v) t = refl
caller_handed st (Resumes k v) (caller.Operation a) = refl
caller_handed st (Resumes k v) t = refl

pub body_handed : (st : State) (c : Completion) (t : BodyTaker) → handed (body_work t) st c ≡ body_row t st c
unfolding handed taken given given_statement given_pattern given_expression over abrupt body_work
body_handed st (Gives v) body.SwitchBody = refl
body_handed st (Gives v) t = refl
body_handed st (Refers v) body.SwitchBody = refl
body_handed st (Refers v) t = refl
body_handed st Done body.SwitchBody = refl
body_handed st Done t = refl
body_handed st (Throws v) body.SwitchBody = refl
body_handed st (Throws v) t = refl
body_handed st (Returns v) body.SwitchBody = refl
body_handed st (Returns v) t = refl
body_handed st (Breaks v) body.SwitchBody = refl
body_handed st (Breaks v) t = refl
body_handed st (Continues v) body.SwitchBody = refl
body_handed st (Continues v) t = refl
body_handed st (Resumes k v) body.SwitchBody = refl
body_handed st (Resumes k v) t = refl

pub slot_handed : (st : State) (c : Completion) (t : SlotTaker) → handed (slot_work t) st c ≡ slot_row t st c
unfolding handed taken given given_statement given_pattern given_expression over abrupt slot_work
slot_handed st (Gives v) (slot.ElementTarget a b d e) = refl
slot_handed st (Gives v) t = refl
slot_handed st (Refers v) (slot.ElementTarget a b d e) = refl
slot_handed st (Refers v) t = refl
slot_handed st Done (slot.ElementTarget a b d e) = refl
slot_handed st Done t = refl
slot_handed st (Throws v) (slot.ElementTarget a b d e) = refl
slot_handed st (Throws v) t = refl
slot_handed st (Returns v) (slot.ElementTarget a b d e) = refl
slot_handed st (Returns v) t = refl
slot_handed st (Breaks v) (slot.ElementTarget a b d e) = refl
slot_handed st (Breaks v) t = refl
slot_handed st (Continues v) (slot.ElementTarget a b d e) = refl
slot_handed st (Continues v) t = refl
slot_handed st (Resumes k v) (slot.ElementTarget a b d e) = refl
slot_handed st (Resumes k v) t = refl
