use Rattle.std.proofs.Common.{◌∙◌, sym, ap, arith}
use Rattle.std.proofs.lemmas.Result.{err_from_is_err_and}
use Rattle.es6_reading.specs.Parser.{Took}
use Rattle.es6_reading.specs.Parts.{more_parameters}
use Rattle.es6_cursor.specs.Readers.{inner}
use Rattle.es6_cursor.specs.Reads.{Halts}
use Rattle.es6_cursor.proofs.Loops.{turns_is}
use Rattle.es6_read_parts.proofs.PartLists.{parameter_took, parameter_halts}
use Rattle.es6_read_parts.proofs.parameters.more_parameters.Goals as goal

pub returns-in_err-expect_mark : goal.returns-in_err-expect_mark
returns-in_err-expect_mark g c =
    let fault : Halts (more_parameters (inner c.args.room) c.args.flags (inner c.args.room).fuel c.args.cursor.now) c.in_err-expect_mark.field-0.0 c.expect_mark.new.self.tokens = rw c.loop-turn.invariant (parameter_halts _ _ _ _ _ _ _ _ _ c.in_err-expect_mark.field-0.0 _ (omega (arith, turns_is)) (rw c.if-take_mark.false at c.take_mark.ensures) (rw c.in_ok-part.was at c.inner_part.ensures) (rw c.if-not-take_mark.true at c.take_mark-in-loop-turn.ensures) (rw c.in_err-expect_mark.was at c.expect_mark.ensures)) in
    let p = err_from_is_err_and c.from_residual-in_err-expect_mark.result c.from_residual-in_err-expect_mark.ensures.1 in
    rw (p.1, p.2) fault

pub returns-then-not-take_mark : goal.returns-then-not-take_mark
returns-then-not-take_mark g c = c.loop-turn.invariant ∙ parameter_took _ _ _ _ _ _ _ _ _ _ _ (omega (arith, turns_is)) (rw c.if-take_mark.false at c.take_mark.ensures) (rw c.in_ok-part.was at c.inner_part.ensures) (rw c.if-not-take_mark.true at c.take_mark-in-loop-turn.ensures) ((rw c.in_ok-expect_mark.was at c.expect_mark.ensures).1) ∙ ap (λ xs. Took xs c.expect_mark.new.self) (sym c.in_ok-push_parameter.ensures)
