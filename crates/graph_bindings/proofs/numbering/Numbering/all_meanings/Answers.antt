use Rattle.std.proofs.Common.{ℕ, ◌+◌, ◌<◌, List, length, drop, subst}
use Rattle.std.specs.Prelude.{slice_get}
use Rattle.scope_analysis.specs.declared.tables.ModuleScopes.{ModuleScopes}
use Rattle.lower_walk.specs.lower_names.Names.{names_in}
use Rattle.graph_bindings.specs.declared.numbering.Numbering.{Numbering}
use Rattle.graph_bindings.specs.Meanings.{all_meanings_by, meanings_by}
use Rattle.graph_bindings.proofs.Counted.{meanings_turn}
use Rattle.graph_bindings.proofs.Gathering.{joined_on}
use Rattle.graph_bindings.proofs.numbering.Numbering.all_meanings.Goals as goal

pub loop-home-preserved : goal.loop-home-preserved
loop-home-preserved c =
    let x : Numbering = c.args.self.now in
    let ms : List ModuleScopes = x.scopes.now.modules.items in
    let n : ℕ = c.loop-home.home in
    let within : n < length ms = subst (λ (k : ℕ). n < k) c.requires c.loop-home-test.true in
    joined_on c.loop-home.out c.push_meanings.new.out (meanings_by x n 0 (names_in (slice_get ms n))) (all_meanings_by x n (drop n ms)) (all_meanings_by x (n + 1) (drop (n + 1) ms)) _
    c.in_ok-push_meanings.ensures (meanings_turn x ms n within) c.loop-home.invariant
