use Rattle.std.proofs.Common.{◌≡◌, ℕ, ◌+◌, ◌-◌, ◌<◌, ◌≤◌, List, length, drop, Some, sym, ap, ◌∙◌, arith}
use Rattle.std.proofs.lemmas.Option.{slice_get-get_or}
use Rattle.module_lowering.specs.Modules.{ImportedSpace, space_at}
use Rattle.graph_bindings.proofs.Looking.{placed_more}
use Rattle.graph_bindings.proofs.spaces.index_of.Goals as goal

pub loop-left-preserved : goal.loop-left-preserved
loop-left-preserved c =
    let spaces : List ImportedSpace = c.args.spaces.now in
    let i : ℕ = c.loop-left.left - 1 in
    let space : ImportedSpace = c.index-spaces-left.result in
    let within : c.loop-left.left ≤ length spaces = c.loop-left.invariant.within in
    let back : c.loop-left.left ≡ i + 1 = omega arith in
    let inside : i < length spaces = omega arith in
    record {
      within = omega arith;
      homes = placed_more c.loop-left.index c.insert.new.self spaces i space c.at.result c.home.result c.at.ensures c.home.ensures
          (slice_get-get_or spaces i space inside ∙ ap (λ z. Some z) (sym c.index-spaces-left.is)) c.in_ok-insert.ensures.updates
          (λ at. c.loop-left.invariant.homes at ∙ ap (λ n. space_at at (drop n spaces)) back);
    }
