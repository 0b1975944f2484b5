use Rattle.std.proofs.Common.{◌≡◌, ℕ, ◌||◌, nat_eq, drop}
use Rattle.indexmap.specs.IndexSet.{contains}
use Rattle.graph_bindings.proofs.Wants.{any_of}
use Rattle.graph_bindings.proofs.wanted.want_all.Given as goal

abbrev pub invariant-loop-space : goal.invariant-loop-space
invariant-loop-space l =
    (n : ℕ) → (contains nat_eq l.wanted n || any_of n (drop l.space-index l.spaces)) ≡ (contains nat_eq l.initial.wanted n || any_of n l.spaces)
