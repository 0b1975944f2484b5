use Rattle.std.proofs.Common.{◌-◌, ◌∙◌, ap, arith, sym}
use Rattle.es5_cursor.proofs.Loops.{turns_is}
use Rattle.es5_read_statements.proofs.StatementEnds.{in_case_end}
use Rattle.es5_reading.specs.Parser.{next_is}
use Rattle.es5_reading.specs.Statements.{ends_case}
use Rattle.es5_read_statements.proofs.cases.in_case.Goals as goal

pub returns-then-ends_case : goal.returns-then-ends_case
returns-then-ends_case g c = c.loop-turn.invariant ∙ in_case_end _ _ _ _ _ (omega (arith, turns_is)) (ap (next_is ends_case) (sym c.rest.ensures) ∙ sym c.ends_case.ensures ∙ c.if-ends_case.true)
