-- What is read where a refinement has to fit.
use Rattle.std.specs.Prelude.{Result}
use Rattle.es6_reading.specs.Parser.{Input}
use Rattle.es6_reading.specs.Refine.{Refined}
use Rattle.es6_reading.specs.Expressions.{fitting}
use Rattle.es6_trees.specs.declared.fault.Unrefined.{Unrefined}
use Rattle.es6_trees.specs.Refines.{Refines}
use Rattle.es6_cursor.specs.declared.halt.Halt.{Halt}
use Rattle.es6_cursor.specs.Reads.{Reads}

-- of whatever the model refines so
abbrev pub ReadsRefined : {A : Type 0} → Result A Unrefined → Result A Halt → Input → Type 0
ReadsRefined {A = A} refined result c = (r : Refined A) → Refines r refined → Reads (fitting r c) result c
