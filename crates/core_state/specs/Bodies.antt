-- The statements of cases, of which one falls through to the next (ECMA-262, 6th edition, 13.12.9).
use Rattle.std.specs.List.{flat_map}
use Rattle.std.specs.Prelude.{List}
use Rattle.core_ast.specs.declared.tree.CoreCase.{CoreCase, out-CoreCase}
use Rattle.core_ast.specs.declared.tree.CoreStat.{CoreStat}

abbrev pub bodies : List CoreCase → List CoreStat
bodies cs = flat_map (λ c. (out-CoreCase c).body) cs
