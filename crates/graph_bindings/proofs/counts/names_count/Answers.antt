use Rattle.std.proofs.Common.{◌≡◌, ◌<◌, ◌+◌, ℕ, length, Option, sym, arith}
use Rattle.std.specs.Prelude.{slice_get}
use Rattle.scope_analysis.specs.declared.tables.ModuleScopes.{ModuleScopes}
use Rattle.lower_walk.specs.lower_names.Names.{names_in}
use Rattle.lower_walk.proofs.lower_names.Numbers.{falls, number_within}
use Rattle.graph_bindings.proofs.Turns.{all_counted}
use Rattle.graph_bindings.proofs.counts.names_count.Goals as goal

pub loop-binding-smaller : goal.loop-binding-smaller
loop-binding-smaller c =
    let m : Option ModuleScopes = slice_get c.args.scopes.now.modules.items c.args.home in
    falls (length (names_in m)) c.loop-binding.number c.in-Some-checked_add.next c.in-Some-checked_add.ensures.1
    (number_within m c.loop-binding.number c.in-Some._binding.now (sym c.in-Some.ensures))

pub loop-binding-preserved : goal.loop-binding-preserved
loop-binding-preserved c =
    let m : Option ModuleScopes = slice_get c.args.scopes.now.modules.items c.args.home in
    let within : c.loop-binding.number < length (names_in m) = number_within m c.loop-binding.number c.in-Some._binding.now (sym c.in-Some.ensures) in
    let next : c.in-Some-checked_add.next ≡ c.loop-binding.number + 1 = c.in-Some-checked_add.ensures.1 in
    omega (arith, within, next)

pub returns : goal.returns
returns c =
    all_counted (slice_get c.args.scopes.now.modules.items c.args.home) c.loop-binding.number (sym c.in_default.ensures) c.loop-binding.invariant
