use Rattle.std.proofs.Common.{◌≡◌, drop, map}
use Rattle.core_ast.specs.Walks.{along}
use Rattle.core_primitives.specs.Used.{function_used, none, part_used}
use Rattle.core_primitives.proofs.walk.whole.Given as goal

abbrev pub invariant-loop-function : goal.invariant-loop-function
invariant-loop-function l = along (map function_used (drop l.function-index l.fn.source.functions)) l.used ≡ along (map function_used l.fn.source.functions) none

abbrev pub invariant-loop-part : goal.invariant-loop-part
invariant-loop-part l = along (map part_used (drop l.part-index l.fn.source.parts)) l.used ≡ along (map part_used l.fn.source.parts) l.initial.used
