use Rattle.std.proofs.Common.{◌∙◌, ◌-◌, ◌+◌, [], ◌∷◌, true, false, sym, ap, arith}
use Rattle.std.proofs.lemmas.Result.{err_from_is_err_and}
use Rattle.es6_reading.specs.Parser.{Took}
use Rattle.es6_reading.specs.Expressions.{held_parts}
use Rattle.es6_cursor.specs.Readers.{inner, turns}
use Rattle.es6_cursor.specs.Reads.{Halts}
use Rattle.es6_cursor.proofs.Loops.{turns_is}
use Rattle.es6_read_primaries.specs.Lists.{before_held}
use Rattle.es6_read_primaries.proofs.HeldParts.{held_halts, held_last, held_more, held_rest}
use Rattle.es6_read_primaries.proofs.readers.Primaries.more_held.Goals as goal

pub returns-in_err-part : goal.returns-in_err-part
returns-in_err-part g c =
    let i = inner c.args.self.now.here.room in
    let f = c.args.self.now.here.flags in
    let role = c.args.role in
    let x = (g.G.MakesReadings.seen c.args.first).value in
    let fault : Halts (before_held (x ∷ []) (held_parts i f role (turns - 1) c.args.cursor.now)) c.in_err-part.field-0.0 c.assignment_within.new.cursor.tokens = rw c.loop-turn.invariant (held_halts i f role c.loop-turn.turn (x ∷ g.G.MakesGroups.seen_expressions c.loop-turn.more) c.loop-turn.cursor c.in_err-part.field-0.0 c.assignment_within.new.cursor.tokens (omega (arith, turns_is)) (rw c.in_err-part.was at c.assignment_within.ensures)) in
    let p = err_from_is_err_and c.from_residual.result c.from_residual.ensures.1 in
    rw (p.1, p.2) fault

pub returns-then-not-take_mark : goal.returns-then-not-take_mark
returns-then-not-take_mark g c =
    let x = (g.G.MakesReadings.seen c.args.first).value in
    let d = c.assignment_within.new.cursor in
    let e = c.take_mark.new.self in
    c.loop-turn.invariant
    ∙ held_last (inner c.args.self.now.here.room) c.args.self.now.here.flags c.args.role c.loop-turn.turn (x ∷ g.G.MakesGroups.seen_expressions c.loop-turn.more) c.loop-turn.cursor d e (g.G.MakesReadings.seen c.in_ok-part.part) (omega (arith, turns_is)) (rw c.in_ok-part.was at c.assignment_within.ensures) (rw c.if-not-take_mark.true at c.take_mark.ensures)
    ∙ ap (λ xs. Took (record { first = x; more = xs; end = d.last; before_rest = false }) e) (sym c.in_ok-push_expression.ensures)
    ∙ ap (λ end. Took (record { first = x; more = g.G.MakesGroups.seen_expressions c.push_expression.new.list; end = end; before_rest = false }) e) (sym c.last_end-end.ensures)

pub returns-then-is_leading-next_is_mark : goal.returns-then-is_leading-next_is_mark
returns-then-is_leading-next_is_mark g c =
    let x = (g.G.MakesReadings.seen c.args.first).value in
    let d = c.assignment_within.new.cursor in
    let e = c.take_mark.new.self in
    c.loop-turn.invariant
    ∙ held_rest (inner c.args.self.now.here.room) c.args.self.now.here.flags c.args.role c.loop-turn.turn (x ∷ g.G.MakesGroups.seen_expressions c.loop-turn.more) c.loop-turn.cursor d e (g.G.MakesReadings.seen c.in_ok-part.part) (omega (arith, turns_is)) (rw c.in_ok-part.was at c.assignment_within.ensures) (rw c.if-not-take_mark.false at c.take_mark.ensures) (rw (c.is_leading.ensures, c.next_is_mark.ensures) at c.if-is_leading-next_is_mark.true)
    ∙ ap (λ xs. Took (record { first = x; more = xs; end = d.last; before_rest = true }) e) (sym c.in_ok-push_expression.ensures)
    ∙ ap (λ end. Took (record { first = x; more = g.G.MakesGroups.seen_expressions c.push_expression.new.list; end = end; before_rest = true }) e) (sym c.last_end-end.ensures)

pub loop-turn-preserved : goal.loop-turn-preserved
loop-turn-preserved g c =
    let i = inner c.args.self.now.here.room in
    let f = c.args.self.now.here.flags in
    let role = c.args.role in
    let x = (g.G.MakesReadings.seen c.args.first).value in
    let e = c.take_mark.new.self in
    c.loop-turn.invariant
    ∙ held_more i f role c.loop-turn.turn (x ∷ g.G.MakesGroups.seen_expressions c.loop-turn.more) c.loop-turn.cursor c.assignment_within.new.cursor e (g.G.MakesReadings.seen c.in_ok-part.part) (omega (arith, turns_is)) (rw c.in_ok-part.was at c.assignment_within.ensures) (rw c.if-not-take_mark.false at c.take_mark.ensures) (rw (c.is_leading.ensures, c.next_is_mark.ensures) at c.if-is_leading-next_is_mark.false)
    ∙ ap (λ xs. before_held (x ∷ xs) (held_parts i f role (turns - (c.loop-turn.turn + 1)) e)) (sym c.in_ok-push_expression.ensures)
