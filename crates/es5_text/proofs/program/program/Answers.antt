use Rattle.std.proofs.Common.{◌∙◌, sym, ap, true, arith}
use Rattle.es5_reading.specs.Parser.{next_is}
use Rattle.es5_text.proofs.Programs.{program_end}
use Rattle.es5_cursor.proofs.Loops.{turns_is}
use Rattle.es5_text.proofs.program.program.Goals as goal

pub returns-then-not-has_next : goal.returns-then-not-has_next
returns-then-not-has_next c = c.loop-turn.invariant ∙ program_end _ _ _ _ (omega (arith, turns_is)) (ap (next_is (λ t. true)) (sym c.rest.ensures) ∙ sym c.has_next.ensures ∙ c.if-not-has_next.true)
