use Rattle.std.proofs.Common.{◌≡◌, ◌++◌, ◌∷◌, [], drop, map}
use Rattle.std.specs.List.{list_any}
use Rattle.es6_static_semantics.specs.Findings.{is_name_of}
use Rattle.early_scopes.proofs.var_names.VarNames.contain_any.Given as goal

abbrev pub invariant-loop-name : goal.invariant-loop-name
invariant-loop-name l = list_any (λ x. is_name_of x.name (drop l.mark l.self)) (drop l.name-index l.names) ≡ list_any (λ x. is_name_of x.name (drop l.mark l.self)) l.names
