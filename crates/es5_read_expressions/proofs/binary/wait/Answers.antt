use Rattle.std.proofs.Common.{◌≡◌, ◌+◌, ◌<◌, ◌≤◌, ◌∙◌, ◌++◌, ◌∷◌, [], refl, sym, ap, arith}
use Rattle.es5_read_expressions.specs.declared.binary.Pending.{Pending}
use Rattle.es5_read_expressions.specs.Levels.{top}
use Rattle.es5_cursor.specs.Readers.{inner}
use Rattle.es5_read_expressions.proofs.Levels.{started, grown, rising_started, rising_grown, top_last, above_two, below_twelve}
use Rattle.es5_cursor.proofs.Rooms.{fuel_some}
use Rattle.es5_read_expressions.proofs.binary.wait.Goals as goal

pub returns-in_default-clause-same : goal.returns-in_default-clause-same
returns-in_default-clause-same c =
    let l = c.binary_level-level.result in
    let none : top 2 c.args.stack.now ≡ 2 = ap (top 2) c.in_default.ensures.0 in
    let low : top 2 c.args.stack.now < l = omega (arith, none, c.binary_level-level.ensures, above_two c.args.operator) in
    λ room no_in h. started (inner room) no_in l c.args.operand.begin c.args.operator c.args.operand.value c.args.cursor.now c.take.new.self c.args.stack.now c.push.new.self c.first.result
    (fuel_some room) c.binary_level-level.ensures c.first.ensures
    (c.in_ok-push.ensures.ok ∙ ap (λ s. s ++ c.first.result ∷ []) (c.in_default.ensures.1 ∙ sym c.in_default.ensures.0)) c.requires.rising low c.take.ensures h

pub returns-then-waiting-level-clause-same : goal.returns-then-waiting-level-clause-same
returns-then-waiting-level-clause-same c =
    λ room no_in h. grown (inner room) no_in c.args.operand.begin c.args.operator c.args.operand.value c.args.cursor.now c.take.new.self c.args.stack.now c.push-then-waiting-level.new.self c.pop.new.self c.in-Some.waiting c.in_ok-more.field-0
    (c.if-waiting-level.true ∙ c.binary_level-level.ensures) c.in_ok-more.ensures.left c.in_ok-more.ensures.same c.in-Some.ensures c.in_ok-push-2.ensures.ok c.take.ensures h

pub returns-then-waiting-level-clause-rising : goal.returns-then-waiting-level-clause-rising
returns-then-waiting-level-clause-rising c =
    let e = c.in_ok-more.ensures.same in
    rising_grown c.args.stack.now c.push-then-waiting-level.new.self c.pop.new.self c.in-Some.waiting c.in_ok-more.field-0 c.in-Some.ensures c.in_ok-push-2.ensures.ok
    (ap (λ (p : Pending). p.level) e) (omega (arith, ap (λ (p : Pending). p.turns) e, c.in_ok-more.ensures.left)) c.requires.rising

pub returns-clause-same : goal.returns-clause-same
returns-clause-same c =
    let l = c.binary_level-level.result in
    let e = ap (top 2) c.in-Some.ensures ∙ top_last 2 c.pop.new.self c.in-Some.waiting in
    let low : top 2 c.args.stack.now < l = omega (arith, e, c.binary_level-level.ensures, c.requires.below, c.if-waiting-level.false) in
    λ room no_in h. started (inner room) no_in l c.args.operand.begin c.args.operator c.args.operand.value c.args.cursor.now c.take.new.self c.args.stack.now c.push-3.new.self c.first-2.result
    (fuel_some room) c.binary_level-level.ensures c.first-2.ensures
    (c.in_ok-push-4.ensures.ok ∙ ap (λ s. s ++ c.first-2.result ∷ []) (c.in_ok-push-3.ensures.ok ∙ sym c.in-Some.ensures)) c.requires.rising low c.take.ensures h

pub returns-clause-rising : goal.returns-clause-rising
returns-clause-rising c =
    let l = c.binary_level-level.result in
    let e = ap (top 2) c.in-Some.ensures ∙ top_last 2 c.pop.new.self c.in-Some.waiting in
    let w = c.first-2.ensures in
    let lw = ap (λ (p : Pending). p.level) w in
    let tw = ap (λ (p : Pending). p.turns) w in
    rising_started c.args.stack.now c.push-3.new.self c.first-2.result
    (c.in_ok-push-4.ensures.ok ∙ ap (λ s. s ++ c.first-2.result ∷ []) (c.in_ok-push-3.ensures.ok ∙ sym c.in-Some.ensures)) c.requires.rising
    (omega (arith, e, lw, c.binary_level-level.ensures, c.requires.below, c.if-waiting-level.false)) (omega (arith, lw, c.binary_level-level.ensures, below_twelve c.args.operator)) (omega (arith, tw))
