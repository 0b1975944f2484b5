use Rattle.std.proofs.Common.{◌∙◌, sym, ap, arith}
use Rattle.std.proofs.lemmas.Result.{err_from_is_err_and}
use Rattle.es6_reading.specs.Parser.{Took}
use Rattle.es6_reading.specs.Parts.{array_parts}
use Rattle.es6_cursor.specs.Readers.{inner}
use Rattle.es6_cursor.specs.Reads.{Halts}
use Rattle.es6_cursor.proofs.Loops.{turns_is}
use Rattle.es6_read_parts.proofs.Entered.{no_array}
use Rattle.es6_read_parts.proofs.PatternLists.{array_end, last_took, last_halts, object_end, object_took}
use Rattle.es6_read_parts.proofs.+reader.Goals as goal

pub patterns::array_parts-returns-then-take_mark : goal.patterns::array_parts-returns-then-take_mark
patterns::array_parts-returns-then-take_mark g t c = c.loop-turn.invariant ∙ array_end _ _ _ _ _ _ (omega (arith, turns_is)) (rw c.if-take_mark.true at c.take_mark.ensures)

pub patterns::array_parts-returns-in_err-expect_mark : goal.patterns::array_parts-returns-in_err-expect_mark
patterns::array_parts-returns-in_err-expect_mark g t c =
    let fault : Halts (array_parts (inner c.args.room) c.args.flags (inner c.args.room).fuel c.args.cursor.now) c.in_err-expect_mark.field-0.0 c.expect_mark.new.self.tokens = rw c.loop-turn.invariant (last_halts _ _ _ _ _ _ _ _ _ _ _ c.in_err-expect_mark.field-0.0 _ (omega (arith, turns_is)) (rw c.if-take_mark.false at c.take_mark.ensures) (rw c.if-take_mark-2.false at c.take_mark-in-loop-turn.ensures) (rw c.if-take_mark-3.false at c.take_mark-in-loop-turn-2.ensures) (rw c.in_ok-part.was at c.inner_part.ensures) (rw c.if-not-take_mark.true at c.take_mark-in-loop-turn-3.ensures) (rw c.in_err-expect_mark.was at c.expect_mark.ensures)) in
    let p = err_from_is_err_and c.from_residual-in_err-expect_mark.result c.from_residual-in_err-expect_mark.ensures.1 in
    rw (p.1, p.2) fault

pub patterns::array_parts-returns-then-not-take_mark : goal.patterns::array_parts-returns-then-not-take_mark
patterns::array_parts-returns-then-not-take_mark g t c = c.loop-turn.invariant ∙ last_took _ _ _ _ _ _ _ _ _ _ _ _ _ (omega (arith, turns_is)) (rw c.if-take_mark.false at c.take_mark.ensures) (rw c.if-take_mark-2.false at c.take_mark-in-loop-turn.ensures) (rw c.if-take_mark-3.false at c.take_mark-in-loop-turn-2.ensures) (rw c.in_ok-part.was at c.inner_part.ensures) (rw c.if-not-take_mark.true at c.take_mark-in-loop-turn-3.ensures) ((rw c.in_ok-expect_mark.was at c.expect_mark.ensures).1) ∙ ap (λ xs. Took xs c.expect_mark.new.self) (sym c.in_ok-push_single.ensures)

pub patterns::object_parts-returns-then-take_mark : goal.patterns::object_parts-returns-then-take_mark
patterns::object_parts-returns-then-take_mark g t c = c.loop-turn.invariant ∙ object_end _ _ _ _ _ _ (omega (arith, turns_is)) (rw c.if-take_mark.true at c.take_mark.ensures)

pub patterns::object_parts-returns-then-not-take_mark : goal.patterns::object_parts-returns-then-not-take_mark
patterns::object_parts-returns-then-not-take_mark g t c = c.loop-turn.invariant ∙ object_took _ _ _ _ _ _ _ _ _ _ _ (omega (arith, turns_is)) (rw c.if-take_mark.false at c.take_mark.ensures) (rw c.in_ok-part.was at c.inner_object_part.ensures) (rw c.if-not-take_mark.true at c.take_mark-in-loop-turn.ensures) ((rw c.in_ok-expect_mark.was at c.expect_mark.ensures).1) ∙ ap (λ xs. Took xs c.expect_mark.new.self) (sym c.in_ok-push_object_part.ensures)

pub patterns::binding_pattern-returns : goal.patterns::binding_pattern-returns
patterns::binding_pattern-returns g t c = rw (no_array (inner c.args.room) c.args.flags c.args.begin c.args.cursor.now c.open.new.cursor (rw c.if-branch.false at c.in_ok-open.ensures)) c.object_pattern.ensures
