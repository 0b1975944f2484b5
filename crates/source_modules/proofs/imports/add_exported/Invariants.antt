use Rattle.std.proofs.Common.{◌≡◌, ◌++◌, drop, map, None}
use Rattle.source_modules.proofs.imports.add_exported.Given as goal

abbrev pub invariant-loop-one : goal.invariant-loop-one
invariant-loop-one l = l.names ++ map (λ n. None) (drop l.one-index l.list) ≡ l.initial.names ++ map (λ n. None) l.list
