use Rattle.std.proofs.Common.{◌≡◌, ◌++◌, drop, map}
use Rattle.core_ast.specs.Mentions.{function_mentions, part_mentions}
use Rattle.lower_blocks.proofs.cells.found.Given as goal

abbrev pub invariant-loop-function : goal.invariant-loop-function
invariant-loop-function l = l.all ++ map function_mentions (drop l.function-index l.functions) ≡ map function_mentions l.functions

abbrev pub invariant-loop-part : goal.invariant-loop-part
invariant-loop-part l = l.all ++ map part_mentions (drop l.part-index l.parts) ≡ l.initial.all ++ map part_mentions l.parts
