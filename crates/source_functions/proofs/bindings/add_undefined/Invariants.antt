use Rattle.std.proofs.Common.{◌≡◌, ◌++◌, drop, map, not}
use Rattle.std.specs.List.{filter}
use Rattle.source_meaning.specs.Functions.{undefined_binding}
use Rattle.source_meaning.specs.Trees.{has_name}
use Rattle.source_functions.proofs.bindings.add_undefined.Given as goal

abbrev pub invariant-loop-name : goal.invariant-loop-name
invariant-loop-name l =
    l.bindings ++ map undefined_binding (filter (λ x. not (has_name l.parameters x)) (drop l.name-index l.names))
    ≡ l.initial.bindings ++ map undefined_binding (filter (λ x. not (has_name l.parameters x)) l.names)
