-- An `in` in the header of a for statement.
use Rattle.std.proofs.Common.{◌≡◌, Bool, true, false, ◌&&◌, List, [], ◌∷◌, refl}
use Rattle.std.specs.Prelude.{codes}
use Rattle.es5_ast.specs.Lexical.{Token5}
use Rattle.es5_ast.specs.Grammar.{is_word}
use Rattle.es5_reading.specs.Parser.{next_is, next_word}

-- an `in` behind a left-hand-side expression
pub left_in : (b : Bool) (ts : List Token5) → next_is (λ t. b && is_word (codes "in") t.kind) ts ≡ b && next_is (next_word (codes "in")) ts
left_in true [] = refl
left_in false [] = refl
left_in b (t ∷ ts) = refl
