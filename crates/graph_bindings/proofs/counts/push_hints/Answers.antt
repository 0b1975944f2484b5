use Rattle.std.proofs.Common.{◌≡◌, ℕ, ◌+◌, List, map, drop, Option, Some, sym, ap}
use Rattle.std.specs.Prelude.{slice_get}
use Rattle.scope_rules.specs.declared.scope_tables.binding.Binding.{Binding}
use Rattle.scope_analysis.specs.declared.tables.ModuleScopes.{ModuleScopes}
use Rattle.lower_walk.specs.lower_names.Names.{names_in}
use Rattle.graph_bindings.proofs.Gathering.{appended, ended}
use Rattle.graph_bindings.proofs.Turns.{next_binding, no_binding}
use Rattle.graph_bindings.proofs.counts.push_hints.Goals as goal

pub loop-binding-preserved : goal.loop-binding-preserved
loop-binding-preserved c =
    let m : Option ModuleScopes = slice_get c.args.scopes.now.modules.items c.args.home in
    let b : Binding = c.in-Some.binding.now in
    let n : ℕ = c.loop-binding.number in
    appended c.loop-binding.out c.push.new.self (Some c.in_ok-copy.field-0) (Some b.name)
    (map (λ b. Some b.name) (drop n (names_in m))) (map (λ b. Some b.name) (drop (n + 1) (names_in m)))
    (map (λ b. Some b.name) (drop c.in-Some-checked_add.next (names_in m))) _
    c.in_ok-push.ensures.ok (ap (λ x. Some x) c.in_ok-copy.ensures)
    (ap (λ (bs : List Binding). map (λ b. Some b.name) bs) (next_binding m n b (sym c.in-Some.ensures)))
    (ap (λ (k : ℕ). map (λ b. Some b.name) (drop k (names_in m))) c.in-Some-checked_add.ensures.1)
    c.loop-binding.invariant

pub returns : goal.returns
returns c =
    let m : Option ModuleScopes = slice_get c.args.scopes.now.modules.items c.args.home in
    let n : ℕ = c.loop-binding.number in
    ended c.loop-binding.out (map (λ b. Some b.name) (drop n (names_in m))) _
    (ap (λ (bs : List Binding). map (λ b. Some b.name) bs) (no_binding m n (sym c.in_default.ensures))) c.loop-binding.invariant
