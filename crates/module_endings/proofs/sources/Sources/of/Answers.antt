use Rattle.std.proofs.Common.{◌≡◌, ℕ, ◌+◌, ◌-◌, ◌<◌, ◌≤◌, length, drop, Some, refl, sym, ap, ◌∙◌, arith}
use Rattle.std.proofs.lemmas.Option.{slice_get-get_or}
use Rattle.module_endings.specs.Ends.{first_source}
use Rattle.module_endings.proofs.Sourcing.{indexed-more}
use Rattle.module_endings.proofs.sources.Sources.of.Goals as goal

pub loop-left-preserved : goal.loop-left-preserved
loop-left-preserved c =
    let exports = c.args.exports.now in
    let i : ℕ = c.loop-left.left - 1 in
    let export = c.index-exports-left.result in
    let within : c.loop-left.left ≤ length exports = c.loop-left.invariant.0 in
    let back : c.loop-left.left ≡ i + 1 = omega arith in
    let inside : i < length exports = omega arith in (
      omega arith,
      indexed-more c.loop-left.sources.index c.insert.new.self exports i export c.bytes.result.now _ c.bytes.ensures refl
          (slice_get-get_or exports i export inside ∙ ap (λ z. Some z) (sym c.index-exports-left.is)) c.in_ok-insert.ensures.updates
          (λ name. c.loop-left.invariant.1 name ∙ ap (λ n. first_source (drop n exports) name) back),
    )
