use Rattle.std.proofs.Common.{arith}
use Rattle.std.proofs.lemmas.Result.{err_from_is_err_and}
use Rattle.first_forms.proofs.Faults.{stop-fault, run-more, reads-all}
use Rattle.first_forms.proofs.reader.Reader.after_all.Goals as goal

pub loop-token-preserved : goal.loop-token-preserved
loop-token-preserved c =
    run-more c.args.hosts.now c.args.tokens.now c.loop-token.token-index c.token-item.result c.loop-token.reader c.loop-token.state c.next_state.new.self c.in_ok-state.state
    c.loop-token-test.true c.token-item.is c.loop-token.invariant c.in_ok-state.ensures.read

pub returns-in_err-state-clause-fault : goal.returns-in_err-state-clause-fault
returns-in_err-state-clause-fault c =
    let p = err_from_is_err_and c.from_residual-in_err-state.result c.from_residual-in_err-state.ensures.1 in
    rw (p.1, p.2)
    (stop-fault c.args.hosts.now c.args.tokens.now c.loop-token.token-index c.token-item.result c.loop-token.reader c.loop-token.state c.in_err-state.field-0.0
    c.loop-token-test.true c.token-item.is c.loop-token.invariant c.in_err-state.ensures.fault)

pub returns-clause-read : goal.returns-clause-read
returns-clause-read c =
    reads-all c.args.hosts.now c.args.tokens.now c.loop-token.token-index c.loop-token.reader c.loop-token.state (omega arith) c.loop-token.invariant
