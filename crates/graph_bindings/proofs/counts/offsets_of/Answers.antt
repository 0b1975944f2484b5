use Rattle.std.proofs.Common.{◌≡◌, ℕ, ◌+◌, ◌<◌, List, length, drop, refl, ap, subst}
use Rattle.std.specs.Prelude.{slice_get, sum_by}
use Rattle.scope_analysis.specs.declared.tables.ModuleScopes.{ModuleScopes}
use Rattle.module_lowering.specs.Modules.{offsets_from}
use Rattle.lower_walk.specs.lower_names.Names.{names_in}
use Rattle.graph_bindings.proofs.Counted.{count_turn, offsets_turn}
use Rattle.graph_bindings.proofs.Gathering.{appended, summed, var_end}
use Rattle.graph_bindings.proofs.counts.offsets_of.Goals as goal

pub loop-home-preserved : goal.loop-home-preserved
loop-home-preserved c =
    let ms : List ModuleScopes = c.args.scopes.now.modules.items in
    let n : ℕ = c.loop-home.home in
    let count : ℕ = c.loop-home.count in
    let len : ℕ = length (names_in (slice_get ms n)) in
    let within : n < length ms = subst (λ (k : ℕ). n < k) c.requires c.loop-home-test.true in
    let end : c.in_ok-end.end.0 ≡ count + len = var_end c.in_ok-end.end count c.in_ok-names.names len c.in_ok-end.ensures c.in_ok-names.ensures in
    record {
      offsets = appended c.loop-home.offsets c.push.new.self count count
          (offsets_from count (drop n ms)) (offsets_from (count + len) (drop (n + 1) ms)) (offsets_from c.in_ok-end.end.0 (drop (n + 1) ms)) _
          c.in_ok-push.ensures.ok refl (offsets_turn ms n count within)
          (ap (λ (k : ℕ). offsets_from k (drop (n + 1) ms)) end) c.loop-home.invariant.offsets;
      count = summed count len c.in_ok-end.end.0 len _ _ _ end refl (count_turn ms n within) c.loop-home.invariant.count;
    }
