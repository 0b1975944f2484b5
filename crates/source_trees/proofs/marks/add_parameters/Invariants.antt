use Rattle.std.proofs.Common.{◌≡◌, ◌++◌, drop}
use Rattle.es6_static_semantics.specs.Findings.{joined}
use Rattle.scope_rules.specs.Marks.{parameter_marked}
use Rattle.scope_rules.specs.declared.kinds.Kind.TheVariants as kind
use Rattle.scope_rules.specs.declared.kinds.Role.TheVariants as role
use Rattle.source_trees.proofs.marks.add_parameters.Given as goal

abbrev pub invariant-loop-parameter : goal.invariant-loop-parameter
invariant-loop-parameter l =
    l.marks ++ joined (λ p. (parameter_marked p).marks (role.Declared kind.Parameter 0)) (drop l.parameter-index l.parameters)
    ≡ l.initial.marks ++ joined (λ p. (parameter_marked p).marks (role.Declared kind.Parameter 0)) l.parameters
