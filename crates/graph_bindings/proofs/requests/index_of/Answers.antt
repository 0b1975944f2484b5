use Rattle.std.proofs.Common.{◌≡◌, ℕ, ◌+◌, ◌-◌, ◌<◌, ◌≤◌, List, length, drop, Some, sym, ap, ◌∙◌, arith}
use Rattle.std.proofs.lemmas.Option.{slice_get-get_or}
use Rattle.es6_ast.specs.declared.graph.Request.{Request}
use Rattle.es6_static_semantics.specs.Endings.{requested}
use Rattle.graph_bindings.proofs.Looking.{asked_more}
use Rattle.graph_bindings.proofs.requests.index_of.Goals as goal

pub loop-left-preserved : goal.loop-left-preserved
loop-left-preserved c =
    let requests : List Request = c.args.requests.now in
    let i : ℕ = c.loop-left.left - 1 in
    let request : Request = c.index-requests-left.result in
    let within : c.loop-left.left ≤ length requests = c.loop-left.invariant.within in
    let back : c.loop-left.left ≡ i + 1 = omega arith in
    let inside : i < length requests = omega arith in
    record {
      within = omega arith;
      asked = asked_more c.loop-left.index c.insert.new.self requests i request c.units.result.now c.units.ensures
          (slice_get-get_or requests i request inside ∙ ap (λ z. Some z) (sym c.index-requests-left.is)) c.in_ok-insert.ensures.updates
          (λ from. c.loop-left.invariant.asked from ∙ ap (λ n. requested (drop n requests) from) back);
    }
