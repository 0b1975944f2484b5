use Rattle.std.proofs.Common.{◌≡◌, ℕ, ◌+◌, ◌-◌, None, arith}
use Rattle.graph_bindings.proofs.Gathering.{unnamed_end, unnamed_more}
use Rattle.graph_bindings.proofs.counts.push_unnamed.Goals as goal

pub loop-left-preserved : goal.loop-left-preserved
loop-left-preserved c =
    let back : c.loop-left.left ≡ (c.loop-left.left - 1) + 1 = omega arith in
    unnamed_more c.loop-left.out c.push.new.self _ c.loop-left.left (c.loop-left.left - 1) back c.in_ok-push.ensures.ok c.loop-left.invariant

pub returns : goal.returns
returns c =
    let none : c.loop-left.left ≡ 0 = omega arith in
    unnamed_end c.loop-left.out _ c.loop-left.left none c.loop-left.invariant
