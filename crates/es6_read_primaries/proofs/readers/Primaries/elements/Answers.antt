use Rattle.std.proofs.Common.{◌∙◌, true, sym, ap, arith}
use Rattle.es6_reading.specs.Parser.{Took}
use Rattle.es6_cursor.proofs.Loops.{turns_is}
use Rattle.es6_read_primaries.proofs.Elements.{elements_comma, elements_end}
use Rattle.es6_read_primaries.proofs.readers.Primaries.elements.Goals as goal

pub returns-then-take_mark : goal.returns-then-take_mark
returns-then-take_mark g c = c.loop-turn.invariant ∙ elements_end _ _ _ _ _ _ (omega (arith, turns_is)) (rw c.if-take_mark.true at c.take_mark.ensures)

pub returns-then-take_mark-3 : goal.returns-then-take_mark-3
returns-then-take_mark-3 g c =
    c.loop-turn.invariant
    ∙ elements_comma _ _ _ _ _ _ _ _ _ _ (omega (arith, turns_is)) (rw c.if-take_mark.false at c.take_mark.ensures) (rw c.if-take_mark-2.false at c.take_mark-in-loop-turn.ensures) (rw c.in_ok-element.was at c.argument.ensures) _ (rw c.if-not-take_mark.false at c.take_mark-in-loop-turn-2.ensures) (rw c.if-take_mark-3.true at c.take_mark-in-loop-turn-3.ensures)
    ∙ ap (λ es. Took (record { elements = es; ends_in_comma = true }) c.take_mark-in-loop-turn-3.new.self) (sym c.in_ok-push_element.ensures)
