use Rattle.std.proofs.Common.{◌≡◌, drop, map}
use Rattle.std.specs.List.{list_any}
use Rattle.es5_ast.specs.declared.tree.Declared5.{out-Declared5}
use Rattle.es_outside.specs.HostNames.{is_among}
use Rattle.helpers.proofs.definitions.is_one_declared.Given as goal

abbrev pub invariant-loop-one : goal.invariant-loop-one
invariant-loop-one l = list_any (is_among l.names) (map (λ d. (out-Declared5 d).name.name) (drop l.one-index l.declared))
    ≡ list_any (is_among l.names) (map (λ d. (out-Declared5 d).name.name) l.declared)
