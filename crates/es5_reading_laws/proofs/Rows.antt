-- The rows of table V that stand where a reader finds their first token.
use Rattle.std.proofs.Common.{◌≡◌, inl, inr, Bool, true, false, ◌&&◌, List, [], ◌∷◌}
use Rattle.std.specs.Prelude.{codes}
use Rattle.std.proofs.lemmas.Bool.{false≢true, or_cases}
use Rattle.es5_ast.specs.Lexical.{Token5}
use Rattle.es5_ast.specs.Grammar.{is_word, is_mark}
use Rattle.es5_reading.specs.Parser.{next_is, next_word}
use Rattle.es5_reading.specs.Expressions.{begins_division}
use Rattle.es5_reading.proofs.Meanings.{mark-is, word-is}
use Rattle.es5_reading_laws.specs.Laws.{IsRow, with, for_in, regular_expression}

pub division : (ts : List Token5) → next_is begins_division ts ≡ true → IsRow 4 ts
division [] e = absurd (false≢true e)
division (t ∷ ts) e = elim (or_cases (is_mark (codes "/") t.kind) (is_mark (codes "/=") t.kind) e) [
  | inl h ↦ regular_expression (inl (mark-is (codes "/") t.kind h))
  | inr h ↦ regular_expression (inr (mark-is (codes "/=") t.kind h))
]

pub with-word : (ts : List Token5) → next_is (next_word (codes "with")) ts ≡ true → IsRow 2 ts
with-word [] e = absurd (false≢true e)
with-word (t ∷ ts) e = with (word-is (codes "with") t.kind e)

pub in-word : (ts : List Token5) → next_is (next_word (codes "in")) ts ≡ true → IsRow 3 ts
in-word [] e = absurd (false≢true e)
in-word (t ∷ ts) e = for_in (word-is (codes "in") t.kind e)

-- the same behind what may stand before it
pub in-word-if : (b : Bool) (ts : List Token5) → next_is (λ t. b && is_word (codes "in") t.kind) ts ≡ true → IsRow 3 ts
in-word-if b [] e = absurd (false≢true e)
in-word-if true (t ∷ ts) e = for_in (word-is (codes "in") t.kind e)
in-word-if false (t ∷ ts) e = absurd (false≢true e)
