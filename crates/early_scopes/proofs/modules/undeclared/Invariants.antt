use Rattle.std.proofs.Common.{◌≡◌, ◌++◌, ◌∷◌, [], drop, map}
use Rattle.early_findings.specs.Pairs.{least_with}
use Rattle.es6_static_semantics.specs.Early.{undeclared}
use Rattle.early_scopes.proofs.modules.undeclared.Given as goal

abbrev pub invariant-loop-name : goal.invariant-loop-name
invariant-loop-name l = least_with l.finder (undeclared (l.lexical ++ l.vars) (drop l.name-index l.names)) ≡ least_with l.initial.finder (undeclared (l.lexical ++ l.vars) l.names)
