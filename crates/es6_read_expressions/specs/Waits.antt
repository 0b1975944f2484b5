-- What waits on the reader's stack, in the terms of the model.
use Rattle.std.specs.Prelude.{List, map}
use Rattle.es6_ast.specs.declared.tree.Operand.{Operand}
use Rattle.es6_reading.specs.Parser.{Reading}
use Rattle.es6_read_expressions.specs.declared.binary.Pending.{Pending}
use Rattle.es6_read_expressions.specs.Levels.{Waiting}

module _ {R O : Type 0} (seen : R → Reading) (seen_operands : O → List Operand) where
  abbrev pub seen_waiting : Pending R O → Waiting
  seen_waiting p = record { begin = p.begin; level = p.level; first = seen p.first; rest = seen_operands p.rest; operator = p.operator; turns = p.turns }

  abbrev pub stacked : List (Pending R O) → List Waiting
  stacked ps = map seen_waiting ps
