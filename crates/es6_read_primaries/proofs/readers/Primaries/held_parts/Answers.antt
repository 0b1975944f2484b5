use Rattle.std.proofs.Common.{◌∙◌, true, false, sym, ap}
use Rattle.std.proofs.lemmas.Result.{err_from_is_err_and}
use Rattle.es6_reading.specs.Parser.{Took}
use Rattle.es6_reading.specs.Expressions.{held_parts}
use Rattle.es6_cursor.specs.Readers.{inner}
use Rattle.es6_cursor.specs.Reads.{Halts}
use Rattle.es6_read_primaries.proofs.HeldParts.{first_halts, first_last, first_rest}
use Rattle.es6_read_primaries.proofs.readers.Primaries.held_parts.Goals as goal

pub returns-in_err-first : goal.returns-in_err-first
returns-in_err-first g c =
    let f = c.args.self.now.here.flags in
    let role = c.args.role in
    let fault : Halts (held_parts (inner c.args.self.now.here.room) f role (inner c.args.self.now.here.room).fuel c.args.cursor.now) c.in_err-first.field-0.0 c.assignment_within.new.cursor.tokens = first_halts c.args.self.now.here.room f role c.args.cursor.now c.in_err-first.field-0.0 c.assignment_within.new.cursor.tokens (rw c.in_err-first.was at c.assignment_within.ensures) in
    let p = err_from_is_err_and c.from_residual.result c.from_residual.ensures.1 in
    rw (p.1, p.2) fault

pub returns-then-not-take_mark : goal.returns-then-not-take_mark
returns-then-not-take_mark g c =
    let x = g.G.MakesReadings.seen c.in_ok-first.first in
    let d = c.assignment_within.new.cursor in
    let e = c.take_mark.new.self in
    first_last c.args.self.now.here.room c.args.self.now.here.flags c.args.role c.args.cursor.now d e x (rw c.in_ok-first.was at c.assignment_within.ensures) (rw c.if-not-take_mark.true at c.take_mark.ensures)
    ∙ ap (λ xs. Took (record { first = x.value; more = xs; end = d.last; before_rest = false }) e) (sym c.no_expressions-more.ensures)
    ∙ ap (λ end. Took (record { first = x.value; more = g.G.MakesGroups.seen_expressions c.no_expressions-more.result; end = end; before_rest = false }) e) (sym c.last_end-end.ensures)

pub returns-then-is_leading-next_is_mark : goal.returns-then-is_leading-next_is_mark
returns-then-is_leading-next_is_mark g c =
    let x = g.G.MakesReadings.seen c.in_ok-first.first in
    let d = c.assignment_within.new.cursor in
    let e = c.take_mark.new.self in
    first_rest c.args.self.now.here.room c.args.self.now.here.flags c.args.role c.args.cursor.now d e x (rw c.in_ok-first.was at c.assignment_within.ensures) (rw c.if-not-take_mark.false at c.take_mark.ensures) (rw (c.is_leading.ensures, c.next_is_mark.ensures) at c.if-is_leading-next_is_mark.true)
    ∙ ap (λ xs. Took (record { first = x.value; more = xs; end = d.last; before_rest = true }) e) (sym c.no_expressions-more.ensures)
    ∙ ap (λ end. Took (record { first = x.value; more = g.G.MakesGroups.seen_expressions c.no_expressions-more.result; end = end; before_rest = true }) e) (sym c.last_end-end.ensures)
