use Rattle.std.proofs.Common.{◌≡◌, ◌++◌, drop, map}
use Rattle.module_lowering.specs.Names.{body_vars}
use Rattle.lower_walk.proofs.lower_names.bindings.Bindings.body_vars.Given as goal

abbrev pub invariant-loop-variable : goal.invariant-loop-variable
invariant-loop-variable g l =
    l.vars ++ body_vars (map g.N.ListsName.identifier l.parameters) (map g.N.ListsName.identifier (drop l.variable-index l.variables)) l.self l.context
    ≡ body_vars (map g.N.ListsName.identifier l.parameters) (map g.N.ListsName.identifier l.variables) l.self l.context
