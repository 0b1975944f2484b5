use Rattle.std.proofs.Common.{◌≡◌, ◌≤◌, ◌∙◌, sym, ap, arith}
use Rattle.std.proofs.lemmas.Result.{err_from_is_err_and}
use Rattle.es6_ast.specs.declared.settings.Role.TheVariants.{Leading}
use Rattle.es6_ast.specs.Grammar.{binary_level}
use Rattle.es6_reading.specs.Expressions.{binary_from}
use Rattle.es6_cursor.specs.Reads.{Halts}
use Rattle.es6_cursor.specs.Readers.{inner}
use Rattle.es6_cursor.proofs.Rooms.{fuel_some}
use Rattle.es6_read_expressions.specs.Levels.{level_of, resumed, standing, top}
use Rattle.es6_read_expressions.specs.Waits.{stacked}
use Rattle.es6_read_expressions.proofs.Levels.{begins_with, below_twelve, finishes, known, none_rising, operand_halts, reads_on, silent}
use Rattle.es6_read_expressions.proofs.readers.Expressions.binary.Goals as goal

pub loop-turn-init : goal.loop-turn-init
loop-turn-init g c =
    let s = stacked g.G.MakesReadings.seen g.G.MakesOperators.seen_operands in
    let none = ap s c.new-stack.ensures in
    record {
      same = begins_with (inner c.args.self.now.here.room) c.args.self.now.here.flags (s c.new-stack.result) c.args.cursor.now none;
      rising = none_rising (s c.new-stack.result) none;
    }

pub returns-in_err-value : goal.returns-in_err-value
returns-in_err-value g c =
    let i = inner c.args.self.now.here.room in
    let flags = c.args.self.now.here.flags in
    let stack = stacked g.G.MakesReadings.seen g.G.MakesOperators.seen_operands c.loop-turn.stack in
    let fault : Halts (binary_from i flags Leading 10 3 c.args.cursor.now) c.in_err-value.field-0.0 c.power.new.cursor.tokens = rw c.loop-turn.invariant.same (operand_halts i flags (c.loop-turn.role) stack c.loop-turn.cursor c.in_err-value.field-0.0 c.power.new.cursor.tokens c.loop-turn.invariant.rising (rw c.in_err-value.was at c.power.ensures)) in
    let p = err_from_is_err_and c.from_residual.result c.from_residual.ensures.1 in
    rw (p.1, p.2) fault

pub returns-in_default : goal.returns-in_default
returns-in_default g c =
    let i = inner c.args.self.now.here.room in
    let flags = c.args.self.now.here.flags in
    let d = c.power.new.cursor in
    let seen = g.G.MakesReadings.seen in
    let s = stacked seen g.G.MakesOperators.seen_operands in
    let stack = s c.loop-turn.stack in
    let two : c.level.result ≡ 2 = c.level.ensures ∙ ap level_of c.in_default.is in
    let quiet = silent flags c.next_binary-next.result c.level.result d c.next_binary-next.ensures c.level.ensures in
    c.loop-turn.invariant.same
    ∙ reads_on i flags (c.loop-turn.role) c.level.result stack (seen c.in_ok-value.value) c.loop-turn.cursor d (fuel_some c.args.self.now.here.room) (omega (arith, two)) c.loop-turn.invariant.rising c.in_ok-value.ensures quiet
    ∙ ap (λ b. resumed i flags 2 stack (standing i flags (top 2 stack) c.level.result b (seen c.in_ok-value.value) d)) (sym c.begin-begin.ensures)
    ∙ c.in_ok-operand.ensures.same c.args.self.now.here.room flags quiet
    ∙ finishes i flags c.level.result (s c.settle.new.stack) c.in_ok-operand.operand.begin (seen c.in_ok-operand.operand.value) d two c.in_ok-operand.ensures.rising.0 c.in_ok-operand.ensures.rising.1

pub loop-turn-preserved : goal.loop-turn-preserved
loop-turn-preserved g c =
    let i = inner c.args.self.now.here.room in
    let flags = c.args.self.now.here.flags in
    let d = c.power.new.cursor in
    let seen = g.G.MakesReadings.seen in
    let s = stacked seen g.G.MakesOperators.seen_operands in
    let stack = s c.loop-turn.stack in
    let settled = s c.settle.new.stack in
    let op = c.in-Some.operator in
    let level : c.level.result ≡ binary_level op = c.level.ensures ∙ ap level_of c.in-Some.is in
    let high : c.level.result ≤ 12 = omega (arith, level, below_twelve op) in
    let quiet = silent flags c.next_binary-next.result c.level.result d c.next_binary-next.ensures c.level.ensures in
    record {
      same =
          c.loop-turn.invariant.same
          ∙ reads_on i flags (c.loop-turn.role) c.level.result stack (seen c.in_ok-value.value) c.loop-turn.cursor d (fuel_some c.args.self.now.here.room) high c.loop-turn.invariant.rising c.in_ok-value.ensures quiet
          ∙ ap (λ b. resumed i flags 2 stack (standing i flags (top 2 stack) c.level.result b (seen c.in_ok-value.value) d)) (sym c.begin-begin.ensures)
          ∙ c.in_ok-operand.ensures.same c.args.self.now.here.room flags quiet
          ∙ ap (λ l. resumed i flags 2 settled (standing i flags (top 2 settled) l c.in_ok-operand.operand.begin (seen c.in_ok-operand.operand.value) d)) level
          ∙ c.in_ok-wait.ensures.same c.args.self.now.here.room flags (known flags c.next_binary-next.result op d c.next_binary-next.ensures c.in-Some.is);
      rising = c.in_ok-wait.ensures.rising;
    }
