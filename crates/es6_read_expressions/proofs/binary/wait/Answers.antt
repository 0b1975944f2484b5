use Rattle.std.proofs.Common.{◌≡◌, ◌<◌, ◌∙◌, ◌++◌, ◌∷◌, [], sym, ap, arith}
use Rattle.es6_cursor.specs.Readers.{inner}
use Rattle.es6_cursor.proofs.Rooms.{fuel_some}
use Rattle.es6_read_expressions.specs.Levels.{Waiting, top}
use Rattle.es6_read_expressions.specs.Waits.{seen_waiting, stacked}
use Rattle.es6_read_expressions.proofs.Levels.{started, grown, rising_started, rising_grown, top_last, above_two, below_twelve}
use Rattle.es6_read_expressions.proofs.Waits.{stacked_last}
use Rattle.es6_read_expressions.proofs.binary.wait.Goals as goal

pub returns-in_default-clause-same : goal.returns-in_default-clause-same
returns-in_default-clause-same g c =
    let seen = g.G.MakesReadings.seen in
    let operands = g.G.MakesOperators.seen_operands in
    let s = stacked seen operands in
    let l = c.binary_level-level.result in
    let none : top 2 (s c.args.stack.now) ≡ 2 = ap (λ fs. top 2 (s fs)) c.in_default.ensures.0 in
    let low : top 2 (s c.args.stack.now) < l = omega (arith, none, c.binary_level-level.ensures, above_two c.args.operator) in
    λ room flags h. started (inner room) flags l c.args.operand.begin c.args.operator (seen c.args.operand.value) c.args.cursor.now c.take.new.self (s c.args.stack.now) (s c.push.new.self) (seen_waiting seen operands c.first.result)
    (fuel_some room) c.binary_level-level.ensures c.first.ensures
    (stacked_last seen operands c.push.new.self c.args.stack.now c.first.result (c.in_ok-push.ensures.ok ∙ ap (λ fs. fs ++ c.first.result ∷ []) (c.in_default.ensures.1 ∙ sym c.in_default.ensures.0))) c.requires.rising low c.take.ensures h

pub returns-then-waiting-level-clause-same : goal.returns-then-waiting-level-clause-same
returns-then-waiting-level-clause-same g c =
    let seen = g.G.MakesReadings.seen in
    let operands = g.G.MakesOperators.seen_operands in
    let s = stacked seen operands in
    λ room flags h. grown (inner room) flags c.args.operand.begin c.args.operator (seen c.args.operand.value) c.args.cursor.now c.take.new.self (s c.args.stack.now) (s c.push-then-waiting-level.new.self) (s c.pop.new.self)
    (seen_waiting seen operands c.in-Some.waiting) (seen_waiting seen operands c.in_ok-more.field-0)
    (c.if-waiting-level.true ∙ c.binary_level-level.ensures) c.in_ok-more.ensures.left c.in_ok-more.ensures.same
    (stacked_last seen operands c.args.stack.now c.pop.new.self c.in-Some.waiting c.in-Some.ensures)
    (stacked_last seen operands c.push-then-waiting-level.new.self c.pop.new.self c.in_ok-more.field-0 c.in_ok-push-2.ensures.ok) c.take.ensures h

pub returns-then-waiting-level-clause-rising : goal.returns-then-waiting-level-clause-rising
returns-then-waiting-level-clause-rising g c =
    let seen = g.G.MakesReadings.seen in
    let operands = g.G.MakesOperators.seen_operands in
    let s = stacked seen operands in
    let e = c.in_ok-more.ensures.same in
    rising_grown (s c.args.stack.now) (s c.push-then-waiting-level.new.self) (s c.pop.new.self) (seen_waiting seen operands c.in-Some.waiting) (seen_waiting seen operands c.in_ok-more.field-0)
    (stacked_last seen operands c.args.stack.now c.pop.new.self c.in-Some.waiting c.in-Some.ensures)
    (stacked_last seen operands c.push-then-waiting-level.new.self c.pop.new.self c.in_ok-more.field-0 c.in_ok-push-2.ensures.ok)
    (ap (λ (p : Waiting). p.level) e) (omega (arith, ap (λ (p : Waiting). p.turns) e, c.in_ok-more.ensures.left)) c.requires.rising

pub returns-clause-same : goal.returns-clause-same
returns-clause-same g c =
    let seen = g.G.MakesReadings.seen in
    let operands = g.G.MakesOperators.seen_operands in
    let s = stacked seen operands in
    let l = c.binary_level-level.result in
    let e = ap (top 2) (stacked_last seen operands c.args.stack.now c.pop.new.self c.in-Some.waiting c.in-Some.ensures) ∙ top_last 2 (s c.pop.new.self) (seen_waiting seen operands c.in-Some.waiting) in
    let low : top 2 (s c.args.stack.now) < l = omega (arith, e, c.binary_level-level.ensures, c.requires.below, c.if-waiting-level.false) in
    λ room flags h. started (inner room) flags l c.args.operand.begin c.args.operator (seen c.args.operand.value) c.args.cursor.now c.take.new.self (s c.args.stack.now) (s c.push-3.new.self) (seen_waiting seen operands c.first-2.result)
    (fuel_some room) c.binary_level-level.ensures c.first-2.ensures
    (stacked_last seen operands c.push-3.new.self c.args.stack.now c.first-2.result (c.in_ok-push-4.ensures.ok ∙ ap (λ fs. fs ++ c.first-2.result ∷ []) (c.in_ok-push-3.ensures.ok ∙ sym c.in-Some.ensures))) c.requires.rising low c.take.ensures h

pub returns-clause-rising : goal.returns-clause-rising
returns-clause-rising g c =
    let seen = g.G.MakesReadings.seen in
    let operands = g.G.MakesOperators.seen_operands in
    let s = stacked seen operands in
    let l = c.binary_level-level.result in
    let e = ap (top 2) (stacked_last seen operands c.args.stack.now c.pop.new.self c.in-Some.waiting c.in-Some.ensures) ∙ top_last 2 (s c.pop.new.self) (seen_waiting seen operands c.in-Some.waiting) in
    let w = c.first-2.ensures in
    let lw = ap (λ (p : Waiting). p.level) w in
    let tw = ap (λ (p : Waiting). p.turns) w in
    rising_started (s c.args.stack.now) (s c.push-3.new.self) (seen_waiting seen operands c.first-2.result)
    (stacked_last seen operands c.push-3.new.self c.args.stack.now c.first-2.result (c.in_ok-push-4.ensures.ok ∙ ap (λ fs. fs ++ c.first-2.result ∷ []) (c.in_ok-push-3.ensures.ok ∙ sym c.in-Some.ensures))) c.requires.rising
    (omega (arith, e, lw, c.binary_level-level.ensures, c.requires.below, c.if-waiting-level.false)) (omega (arith, lw, c.binary_level-level.ensures, below_twelve c.args.operator)) (omega (arith, tw))
