-- Each row is that of the work which was taken apart.
use Rattle.source_moves.specs.Seen.{state_of}
use Rattle.source_step.proofs.HandedSteps.{body_steps, caller_steps, end_steps, resumption_steps, scope_steps, slot_steps, target_steps, value_steps}
use Rattle.source_step.proofs.handed.handed.Goals as goal

pub returns-in-Value : goal.returns-in-Value
returns-in-Value g c = value_steps g.W.PendingWork.seen c.value_handed.result c.value_handed.new.st (g.W.PendingWork.seen c.args.work) (state_of g.W.PendingWork.seen c.args.st.now) c.args.completion c.in-Value.taker c.in-Value.ensures c.value_handed.ensures

pub returns-in-Target : goal.returns-in-Target
returns-in-Target g c = target_steps g.W.PendingWork.seen c.target_handed.result c.target_handed.new.st (g.W.PendingWork.seen c.args.work) (state_of g.W.PendingWork.seen c.args.st.now) c.args.completion c.in-Target.taker c.in-Target.ensures c.target_handed.ensures

pub returns-in-End : goal.returns-in-End
returns-in-End g c = end_steps g.W.PendingWork.seen c.end_handed.result c.end_handed.new.st (g.W.PendingWork.seen c.args.work) (state_of g.W.PendingWork.seen c.args.st.now) c.args.completion c.in-End.taker c.in-End.ensures c.end_handed.ensures

pub returns-in-Resumption : goal.returns-in-Resumption
returns-in-Resumption g c = resumption_steps g.W.PendingWork.seen c.resumption_handed.result c.resumption_handed.new.st (g.W.PendingWork.seen c.args.work) (state_of g.W.PendingWork.seen c.args.st.now) c.args.completion c.in-Resumption.taker c.in-Resumption.ensures c.resumption_handed.ensures

pub returns-in-Scope : goal.returns-in-Scope
returns-in-Scope g c = scope_steps g.W.PendingWork.seen c.scope_handed.result c.scope_handed.new.st (g.W.PendingWork.seen c.args.work) (state_of g.W.PendingWork.seen c.args.st.now) c.args.completion c.in-Scope.taker c.in-Scope.ensures c.scope_handed.ensures

pub returns-in-Caller : goal.returns-in-Caller
returns-in-Caller g c = caller_steps g.W.PendingWork.seen c.caller_handed.result c.caller_handed.new.st (g.W.PendingWork.seen c.args.work) (state_of g.W.PendingWork.seen c.args.st.now) c.args.completion c.in-Caller.taker c.in-Caller.ensures c.caller_handed.ensures

pub returns-in-Body : goal.returns-in-Body
returns-in-Body g c = body_steps g.W.PendingWork.seen c.body_handed.result c.body_handed.new.st (g.W.PendingWork.seen c.args.work) (state_of g.W.PendingWork.seen c.args.st.now) c.args.completion c.in-Body.taker c.in-Body.ensures c.body_handed.ensures

pub returns-in-Slot : goal.returns-in-Slot
returns-in-Slot g c = slot_steps g.W.PendingWork.seen c.slot_handed.result c.slot_handed.new.st (g.W.PendingWork.seen c.args.work) (state_of g.W.PendingWork.seen c.args.st.now) c.args.completion c.in-Slot.taker c.in-Slot.ensures c.slot_handed.ensures
