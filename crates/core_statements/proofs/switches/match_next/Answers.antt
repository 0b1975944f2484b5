use Rattle.core_moves.specs.Moves.{sorts}
use Rattle.core_statements.proofs.Switched.{match_next_by}
use Rattle.core_statements.proofs.switches.match_next.Goals as goal

pub returns : goal.returns
returns g c = rw (match_next_by {s = sorts g.row.M.Denot g.row.O.Denot g.row.W.Denot} c.args.value c.args.all c.args.cases c.args.st.now, ← c.next_tested.ensures) c.match_from.ensures
