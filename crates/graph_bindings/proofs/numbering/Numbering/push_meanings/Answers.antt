use Rattle.std.proofs.Common.{◌≡◌, ℕ, ◌+◌, List, length, drop, Option, sym, ap}
use Rattle.std.specs.Prelude.{slice_get}
use Rattle.scope_rules.specs.declared.scope_tables.binding.Binding.{Binding}
use Rattle.scope_analysis.specs.declared.tables.ModuleScopes.{ModuleScopes}
use Rattle.lower_walk.specs.lower_names.Names.{names_in}
use Rattle.lower_walk.proofs.lower_names.Numbers.{falls, number_within}
use Rattle.graph_bindings.specs.declared.numbering.Numbering.{Numbering}
use Rattle.graph_bindings.specs.Meanings.{meaning_by, meanings_by}
use Rattle.graph_bindings.proofs.Gathering.{appended, ended}
use Rattle.graph_bindings.proofs.Turns.{next_binding, no_binding}
use Rattle.graph_bindings.proofs.numbering.Numbering.push_meanings.Goals as goal

pub loop-binding-smaller : goal.loop-binding-smaller
loop-binding-smaller c =
    let m : Option ModuleScopes = slice_get c.args.self.now.scopes.now.modules.items c.args.home in
    falls (length (names_in m)) c.loop-binding.number c.in-Some-checked_add.next c.in-Some-checked_add.ensures.1
    (number_within m c.loop-binding.number c.in-Some._binding.now (sym c.in-Some.ensures))

pub loop-binding-preserved : goal.loop-binding-preserved
loop-binding-preserved c =
    let x : Numbering = c.args.self.now in
    let home : ℕ = c.args.home in
    let m : Option ModuleScopes = slice_get x.scopes.now.modules.items home in
    let n : ℕ = c.loop-binding.number in
    appended c.loop-binding.out c.push.new.self c.in_ok-meaning.field-0 (meaning_by x home n)
    (meanings_by x home n (drop n (names_in m))) (meanings_by x home (n + 1) (drop (n + 1) (names_in m)))
    (meanings_by x home c.in-Some-checked_add.next (drop c.in-Some-checked_add.next (names_in m))) _
    c.in_ok-push.ensures.ok c.in_ok-meaning.ensures
    (ap (λ (bs : List Binding). meanings_by x home n bs) (next_binding m n c.in-Some._binding.now (sym c.in-Some.ensures)))
    (ap (λ (k : ℕ). meanings_by x home k (drop k (names_in m))) c.in-Some-checked_add.ensures.1)
    c.loop-binding.invariant

pub returns : goal.returns
returns c =
    let x : Numbering = c.args.self.now in
    let m : Option ModuleScopes = slice_get x.scopes.now.modules.items c.args.home in
    let n : ℕ = c.loop-binding.number in
    ended c.loop-binding.out (meanings_by x c.args.home n (drop n (names_in m))) _
    (ap (λ (bs : List Binding). meanings_by x c.args.home n bs) (no_binding m n (sym c.in_default.ensures))) c.loop-binding.invariant
