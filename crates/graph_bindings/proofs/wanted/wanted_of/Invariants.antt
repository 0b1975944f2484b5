use Rattle.std.proofs.Common.{◌≡◌, ℕ, ◌||◌, nat_eq, drop}
use Rattle.indexmap.specs.IndexSet.{contains}
use Rattle.es6_static_semantics.specs.Findings.{joined}
use Rattle.graph_bindings.proofs.Wants.{any_of}
use Rattle.graph_bindings.specs.Wanted.{are_wanted}
use Rattle.graph_bindings.proofs.wanted.wanted_of.Given as goal

abbrev pub invariant-loop-one : goal.invariant-loop-one
invariant-loop-one l =
    (n : ℕ) → (contains nat_eq l.wanted n || any_of n (joined (λ ss. ss) (drop l.one-index l.spaces))) ≡ are_wanted n l.spaces
