use Rattle.std.proofs.Common.{◌≡◌, ◌-◌, ◌≤◌, ◌∙◌, ap, arith, sym}
use Rattle.es5_ast.specs.Grammar.{binary_level}
use Rattle.es5_cursor.proofs.Rooms.{fuel_some}
use Rattle.es5_cursor.specs.Readers.{inner}
use Rattle.es5_read_expressions.proofs.Levels.{begins_with, below_twelve, finishes, known, none_rising, reads_on, silent}
use Rattle.es5_read_expressions.specs.Levels.{level_of, resumed, standing, top}
use Rattle.es5_read_expressions.proofs.binary.operators.Goals as goal

pub loop-turn-init : goal.loop-turn-init
loop-turn-init g c = record {
  same = begins_with (inner c.args.room) c.args.no_in c.args.stack.now c.args.cursor.now c.requires.empty;
  rising = none_rising c.args.stack.now c.requires.empty;
}

pub returns-in_default : goal.returns-in_default
returns-in_default g c =
    let i = inner c.args.room in
    let no_in = c.args.no_in in
    let d = c.unary.new.cursor in
    let two : c.level.result ≡ 2 = c.level.ensures ∙ ap level_of c.in_default.is in
    let quiet = silent no_in c.next_binary-next.result c.level.result d c.next_binary-next.ensures c.level.ensures in
    c.loop-turn.invariant.same
    ∙ reads_on i no_in c.level.result c.loop-turn.stack c.in_ok-value.value c.loop-turn.cursor d (fuel_some c.args.room) (omega (arith, two)) c.loop-turn.invariant.rising c.in_ok-value.ensures quiet
    ∙ ap (λ b. resumed i no_in 2 c.loop-turn.stack (standing i no_in (top 2 c.loop-turn.stack) c.level.result b c.in_ok-value.value d)) (sym c.begin-begin.ensures)
    ∙ c.in_ok-operand.ensures.same c.args.room no_in quiet
    ∙ finishes i no_in c.level.result c.settle.new.stack c.in_ok-operand.operand.begin c.in_ok-operand.operand.value d two c.in_ok-operand.ensures.rising.0 c.in_ok-operand.ensures.rising.1

pub loop-turn-preserved : goal.loop-turn-preserved
loop-turn-preserved g c =
    let i = inner c.args.room in
    let no_in = c.args.no_in in
    let d = c.unary.new.cursor in
    let op = c.in-Some.operator in
    let level : c.level.result ≡ binary_level op = c.level.ensures ∙ ap level_of c.in-Some.is in
    let high : c.level.result ≤ 12 = omega (arith, level, below_twelve op) in
    let quiet = silent no_in c.next_binary-next.result c.level.result d c.next_binary-next.ensures c.level.ensures in
    record {
      same =
          c.loop-turn.invariant.same
          ∙ reads_on i no_in c.level.result c.loop-turn.stack c.in_ok-value.value c.loop-turn.cursor d (fuel_some c.args.room) high c.loop-turn.invariant.rising c.in_ok-value.ensures quiet
          ∙ ap (λ b. resumed i no_in 2 c.loop-turn.stack (standing i no_in (top 2 c.loop-turn.stack) c.level.result b c.in_ok-value.value d)) (sym c.begin-begin.ensures)
          ∙ c.in_ok-operand.ensures.same c.args.room no_in quiet
          ∙ ap (λ l. resumed i no_in 2 c.settle.new.stack (standing i no_in (top 2 c.settle.new.stack) l c.in_ok-operand.operand.begin c.in_ok-operand.operand.value d)) level
          ∙ c.in_ok-wait.ensures.same c.args.room no_in (known no_in c.next_binary-next.result op d c.next_binary-next.ensures c.in-Some.is);
      rising = c.in_ok-wait.ensures.rising;
    }
