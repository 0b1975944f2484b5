use Rattle.std.proofs.Common.{◌∙◌, refl, sym, ap}
use Rattle.es6_cursor.specs.Readers.{inner}
use Rattle.es6_cursor.proofs.Rooms.{fuel_some}
use Rattle.es6_read_expressions.specs.Levels.{closed, resumed, standing, top}
use Rattle.es6_read_expressions.specs.Waits.{seen_waiting, stacked}
use Rattle.es6_read_expressions.proofs.Levels.{close_stack, rising_split, rising_again}
use Rattle.es6_read_expressions.proofs.Waits.{stacked_last}
use Rattle.es6_read_expressions.proofs.binary.settle.Goals as goal

pub closing-init : goal.closing-init
closing-init g c = record { same = λ room flags h. refl; rising = c.requires.rising }

pub closing-preserved : goal.closing-preserved
closing-preserved g c =
    let seen = g.G.MakesReadings.seen in
    let operands = g.G.MakesOperators.seen_operands in
    let s = stacked seen operands in
    let w = seen_waiting seen operands c.in-Some.waiting in
    let fs = s c.pop.new.self in
    let stack = s c.closing.stack in
    let e = stacked_last seen operands c.closing.stack c.pop.new.self c.in-Some.waiting c.in-Some.ensures in
    let split = rising_split 2 stack fs w e c.closing.invariant.rising in
    record {
      same = λ room flags h.
          c.closing.invariant.same room flags h
          ∙ close_stack (inner room) flags c.args.level 67108864 stack fs w c.closing.operand.begin (seen c.closing.operand.value) c.args.cursor.now (fuel_some room) e c.closing.invariant.rising c.if-waiting-level.false h
          ∙ ap (λ at. resumed (inner room) flags 2 fs (standing (inner room) flags (top 2 fs) c.args.level at (closed w (seen c.closing.operand.value) c.args.cursor.now.last) c.args.cursor.now)) (sym c.in_ok-operand.ensures.begin)
          ∙ ap (λ x. resumed (inner room) flags 2 fs (standing (inner room) flags (top 2 fs) c.args.level c.in_ok-operand.operand.begin x c.args.cursor.now)) (sym c.in_ok-operand.ensures.value);
      rising = split.front;
    }

pub returns-then-waiting-level-clause-rising : goal.returns-then-waiting-level-clause-rising
returns-then-waiting-level-clause-rising g c =
    let seen = g.G.MakesReadings.seen in
    let operands = g.G.MakesOperators.seen_operands in
    let s = stacked seen operands in
    rising_again (s c.closing.stack) (s c.push.new.self) (s c.pop.new.self) (seen_waiting seen operands c.in-Some.waiting) c.args.level
    (stacked_last seen operands c.closing.stack c.pop.new.self c.in-Some.waiting c.in-Some.ensures)
    (stacked_last seen operands c.push.new.self c.pop.new.self c.in-Some.waiting c.in_ok-push.ensures.ok) c.closing.invariant.rising c.if-waiting-level.true
