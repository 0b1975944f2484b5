-- A primary expression is one of one token, or else one that opens a construct.
use Rattle.std.proofs.Common.{◌≡◌, ℕ, List, Option, Some, None, refl, ap, ◌∙◌}
use Rattle.std.specs.Prelude.{codes}
use Rattle.es5_ast.specs.Lexical.{Token5}
use Rattle.es5_reading.specs.Parser.{Input5, Inner5, Parser, Read5, Stop5, Took, Fault, after, returns, word}
use Rattle.es5_reading.specs.Expressions.{free_name, literal_at, primary}
use Rattle.es5_read_expressions.specs.Primaries.{simple, enclosed}
use Rattle.es5_read_expressions.proofs.Links.{after_on}
use Rattle.es5_cursor.proofs.Loops.{then}

-- what was read, or else what the reader reads
or_else : Parser Read5 → Option Read5 → Parser Read5
or_else other (Some x) = returns x
or_else other None = other

split : (i : Inner5) (at : ℕ) (c : Input5) → primary i at c ≡ after (simple at c) (or_else (enclosed i at))
unfolding primary simple enclosed or_else
split i at c =
    after_on (or_else (enclosed i at)) (word (codes "this")) _ _ _ _ c (λ t d. refl)
    (after_on (or_else (enclosed i at)) free_name _ _ _ _ c (λ name d. refl)
    (after_on (or_else (enclosed i at)) literal_at _ _ _ _ c (λ value d. refl) refl))

pub primary_simple : (i : Inner5) (at : ℕ) (c d : Input5) (x : Read5) → simple at c ≡ Took (Some x) d → primary i at c ≡ Took x d
unfolding or_else
primary_simple i at c d x read = split i at c ∙ then _ read

pub primary_enclosed : (i : Inner5) (at : ℕ) (c d : Input5) → simple at c ≡ Took None d → primary i at c ≡ enclosed i at d
unfolding or_else
primary_enclosed i at c d read = split i at c ∙ then _ read

pub primary_fault : (i : Inner5) (at : ℕ) (c : Input5) (stop : Stop5) (ts : List Token5) → simple at c ≡ Fault stop ts → primary i at c ≡ Fault stop ts
primary_fault i at c stop ts read = split i at c ∙ ap (λ o. after o (or_else (enclosed i at))) read
