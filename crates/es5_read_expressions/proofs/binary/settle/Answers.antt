use Rattle.std.proofs.Common.{◌≡◌, ◌∙◌, refl, sym, ap}
use Rattle.es5_read_expressions.specs.declared.binary.Begun.{Begun}
use Rattle.es5_read_expressions.specs.Levels.{resumed, standing, top}
use Rattle.es5_cursor.specs.Readers.{inner}
use Rattle.es5_read_expressions.proofs.Levels.{close_stack, rising_split, rising_again}
use Rattle.es5_cursor.proofs.Rooms.{fuel_some}
use Rattle.es5_read_expressions.proofs.binary.settle.Goals as goal

pub closing-init : goal.closing-init
closing-init c = record { same = λ room no_in h. refl; rising = c.requires.rising }

pub closing-preserved : goal.closing-preserved
closing-preserved c =
    let fs = c.pop.new.self in
    let stack = c.closing.stack in
    let split = rising_split 2 stack fs c.in-Some.waiting c.in-Some.ensures c.closing.invariant.rising in
    record {
      same = λ room no_in h.
          c.closing.invariant.same room no_in h
          ∙ close_stack (inner room) no_in c.args.level 67108864 stack fs c.in-Some.waiting c.closing.operand.begin c.closing.operand.value c.args.cursor.now (fuel_some room) c.in-Some.ensures c.closing.invariant.rising c.if-waiting-level.false h
          ∙ ap (λ (o : Begun). resumed (inner room) no_in 2 fs (standing (inner room) no_in (top 2 fs) c.args.level o.begin o.value c.args.cursor.now)) (sym c.in_ok-operand.ensures);
      rising = split.front;
    }

pub returns-then-waiting-level-clause-rising : goal.returns-then-waiting-level-clause-rising
returns-then-waiting-level-clause-rising c = rising_again c.closing.stack c.push.new.self c.pop.new.self c.in-Some.waiting c.args.level c.in-Some.ensures c.in_ok-push.ensures.ok c.closing.invariant.rising c.if-waiting-level.true
