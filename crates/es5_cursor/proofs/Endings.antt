-- How the end of a statement is read, and labels on their line.
use Rattle.std.proofs.Common.{◌≡◌, ℕ, zero, suc, Bool, true, false, ◌&&◌, List, [], ◌∷◌, Option, Some, None, refl, sym, ap, ◌∙◌}
use Rattle.std.specs.Prelude.{codes}
use Rattle.es5_ast.specs.Lexical.{Token5}
use Rattle.es5_ast.specs.Grammar.{is_word}
use Rattle.es5_reading.specs.Parser.{Input5, next_is, next_word, semicolon}
use Rattle.es5_reading.specs.Expressions.{free_name}
use Rattle.es5_reading.specs.Statements.{begins_line, label_if, label_at}
use Rattle.es5_reading.specs.Programs.{readers}
use Rattle.es5_cursor.specs.Takes.{TakesAs, known_as}
use Rattle.es5_cursor.specs.Readers.{inner}
use Rattle.es5_cursor.specs.Endings.{ended}

pub semicolon_is : (room : ℕ) (c : Input5) → semicolon (inner room) c ≡ ended c
unfolding semicolon ended readers
semicolon_is zero c = refl
semicolon_is (suc room) c = refl

-- a token on a line of its own is no label
pub label_none : (c : Input5) → next_is begins_line c.tokens ≡ true → TakesAs label_at c None c
label_none c h = record { known = at c.tokens h; input = refl }
  where
    at : (ts : List Token5) → next_is begins_line ts ≡ true → None ≡ known_as label_at ts
    at [] e = refl
    at (t ∷ ts) e = ap (λ b. label_if b (free_name t)) (sym e)

pub label_same : (c d : Input5) (answer : Option (List ℕ)) → next_is begins_line c.tokens ≡ false → TakesAs free_name c answer d → TakesAs label_at c answer d
label_same c d answer h k = record { known = at c.tokens h k.known; input = k.input }
  where
    at : (ts : List Token5) → next_is begins_line ts ≡ false → answer ≡ known_as free_name ts → answer ≡ known_as label_at ts
    at [] e f = f
    at (t ∷ ts) e f = f ∙ ap (λ b. label_if b (free_name t)) (sym e)
