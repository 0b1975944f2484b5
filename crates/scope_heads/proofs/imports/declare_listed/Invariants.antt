use Rattle.std.proofs.Common.{◌≡◌, [], ◌∷◌, ◌++◌, drop, map}
use Rattle.es6_static_semantics.specs.Findings.{joined}
use Rattle.scope_rules.specs.Marks.{declares}
use Rattle.scope_heads.proofs.imports.declare_listed.Given as goal

abbrev pub invariant-loop-name : goal.invariant-loop-name
invariant-loop-name l = l.marks ++ map (declares l.kind l.end) (joined (λ n. n.local ∷ []) (drop l.name-index l.names)) ≡ l.initial.marks ++ map (declares l.kind l.end) (joined (λ n. n.local ∷ []) l.names)
