use Rattle.std.proofs.Common.{◌≡◌, drop, map}
use Rattle.core_ast.specs.Walks.{along}
use Rattle.core_ast.specs.Checks.{function_checks, part_checks}
use Rattle.core_ast.proofs.counting.checks.Given as goal

abbrev pub invariant-loop-function : goal.invariant-loop-function
invariant-loop-function l = along (map function_checks (drop l.function-index l.fn.core.functions)) l.count ≡ along (map function_checks l.fn.core.functions) 0

abbrev pub invariant-loop-part : goal.invariant-loop-part
invariant-loop-part l = along (map part_checks (drop l.part-index l.fn.core.parts)) l.count ≡ along (map part_checks l.fn.core.parts) l.initial.count
