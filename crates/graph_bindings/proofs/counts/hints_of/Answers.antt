use Rattle.std.proofs.Common.{ℕ, ◌+◌, ◌<◌, List, length, map, drop, Some, subst}
use Rattle.std.specs.Prelude.{slice_get}
use Rattle.scope_analysis.specs.declared.tables.ModuleScopes.{ModuleScopes}
use Rattle.module_lowering.specs.Modules.{hints}
use Rattle.lower_walk.specs.lower_names.Names.{names_in}
use Rattle.graph_bindings.proofs.Counted.{hints_turn}
use Rattle.graph_bindings.proofs.Gathering.{joined_on}
use Rattle.graph_bindings.proofs.counts.hints_of.Goals as goal

pub loop-home-preserved : goal.loop-home-preserved
loop-home-preserved c =
    let ms : List ModuleScopes = c.args.scopes.now.modules.items in
    let n : ℕ = c.loop-home.home in
    let within : n < length ms = subst (λ (k : ℕ). n < k) c.requires c.loop-home-test.true in
    joined_on c.loop-home.out c.push_hints.new.out (map (λ b. Some b.name) (names_in (slice_get ms n))) (hints (drop n ms)) (hints (drop (n + 1) ms)) _
    c.in_ok-push_hints.ensures (hints_turn ms n within) c.loop-home.invariant
