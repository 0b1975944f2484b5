-- What is put on the reader's stack, in the terms of the model.
use Rattle.std.proofs.Common.{◌≡◌, List, [], ◌∷◌, ◌++◌, ap, ◌∙◌}
use Rattle.std.proofs.lemmas.List.{map-append}
use Rattle.es6_ast.specs.declared.tree.Operand.{Operand}
use Rattle.es6_reading.specs.Parser.{Reading}
use Rattle.es6_read_expressions.specs.declared.binary.Pending.{Pending}
use Rattle.es6_read_expressions.specs.Waits.{seen_waiting, stacked}

module _ {R O : Type 0} (seen : R → Reading) (seen_operands : O → List Operand) where
  pub stacked_last : (stack fs : List (Pending R O)) (f : Pending R O) → stack ≡ fs ++ f ∷ [] → stacked seen seen_operands stack ≡ stacked seen seen_operands fs ++ seen_waiting seen seen_operands f ∷ []
  stacked_last stack fs f e = ap (stacked seen seen_operands) e ∙ map-append (seen_waiting seen seen_operands) fs (f ∷ [])
