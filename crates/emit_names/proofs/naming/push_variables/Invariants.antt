use Rattle.std.proofs.Common.{◌≡◌, ◌++◌, drop, map}
use Rattle.es5_ast.specs.declared.tree.Declared5.{out-Declared5}
use Rattle.emit_names.proofs.naming.push_variables.Given as goal

abbrev pub invariant-loop-one : goal.invariant-loop-one
invariant-loop-one l = l.out ++ map (λ d. (out-Declared5 d).name.name) (drop l.one-index l.declared) ≡ l.initial.out ++ map (λ d. (out-Declared5 d).name.name) l.declared
