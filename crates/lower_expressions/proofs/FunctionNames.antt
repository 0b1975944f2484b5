-- The name of a function, as it is written.
use Rattle.std.proofs.Common.{◌≡◌}
use Rattle.es6_ast.specs.declared.tree.Function.{Function, out-Function}
use Rattle.module_lowering.specs.Lowered.{function_lowered}
use Rattle.lower_walk.proofs.Layers.{function_out}

pub function_named : (x : Function) → (function_lowered x).name ≡ (out-Function x).name
function_named x = rw function_out
