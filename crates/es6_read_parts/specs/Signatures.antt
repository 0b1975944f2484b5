-- What functions and methods have after their names (ECMA-262, 6th edition, 14.1), as the model has it.
use Rattle.std.specs.Prelude.{List}
use Rattle.es6_ast.specs.declared.tree.Parameter.{Parameter}
use Rattle.es6_ast.specs.declared.tree.Statement.{Statement}
use Rattle.es6_reading.specs.Parts.{Signature as Seen}
use Rattle.es6_read_parts.specs.declared.signature.Signature.{Signature}

abbrev pub seen_signature : {P S : Type 0} → (P → List Parameter) → (S → List Statement) → Signature P S → Seen
seen_signature parameters statements s = record { parameters = parameters s.parameters; body = statements s.body }
