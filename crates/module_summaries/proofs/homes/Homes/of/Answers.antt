use Rattle.std.proofs.Common.{◌≡◌, ℕ, ◌+◌, ◌-◌, ◌<◌, ◌≤◌, length, drop, Some, sym, ap, ◌∙◌, arith}
use Rattle.std.proofs.lemmas.Option.{slice_get-get_or}
use Rattle.module_resolution.specs.Summaries.{requested_home}
use Rattle.module_summaries.proofs.Looking.{homed-more}
use Rattle.module_summaries.proofs.homes.Homes.of.Goals as goal

pub loop-left-preserved : goal.loop-left-preserved
loop-left-preserved c =
    let requests = c.args.requests.now in
    let i : ℕ = c.loop-left.left - 1 in
    let request = c.index-requests-left.result in
    let within : c.loop-left.left ≤ length requests = c.loop-left.invariant.0 in
    let back : c.loop-left.left ≡ i + 1 = omega arith in
    let inside : i < length requests = omega arith in (
      omega arith,
      homed-more c.loop-left.homes.index c.insert.new.self requests i request c.units.result.now c.home_of.result c.units.ensures c.home_of.ensures
          (slice_get-get_or requests i request inside ∙ ap (λ z. Some z) (sym c.index-requests-left.is)) c.in_ok-insert.ensures.updates
          (λ from. c.loop-left.invariant.1 from ∙ ap (λ n. requested_home (drop n requests) from) back),
    )
