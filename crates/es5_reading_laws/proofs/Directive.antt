-- A script that begins with the directive of strict code stops nowhere before its statements are read.
use Rattle.std.proofs.Common.{◌≡◌, ◌+◌, Bool, true, false, ◌&&◌, List, [], ◌∷◌, Option, None, refl, ap, ◌∙◌, eq-eqb}
use Rattle.std.specs.Prelude.{codes, ◌==◌}
use Rattle.es5_ast.specs.declared.operators.UpdateOperator5.TheVariants.{IncrementAfter, DecrementAfter}
use Rattle.es5_ast.specs.Lexical.{Token5, Text}
use Rattle.es5_ast.specs.Grammar.{is_mark, IsEnd, binary_kind, update_kind, assign_kind}
use Rattle.es5_ast.specs.Script.{IsStrict}
use Rattle.es5_reading.specs.Expressions.{is_some, look_up, binary_operators, assign_operators, unless}
use Rattle.es5_reading.specs.Programs.{is_text, is_directive, continues, directive_fault}
use Rattle.es5_reading.proofs.Meanings.{bytes_eq-refl}
use Rattle.es5_reading.proofs.CompleteStatements.{end-none, end-false}

nothing-found : {A : Type 0} (b : Bool) (o : Option A) → o ≡ None → is_some (unless b o) ≡ false
nothing-found true o e = refl
nothing-found false o e = ap (λ p. is_some p) e

-- a semicolon goes on with no literal
pub continues-not : (t : Token5) → IsEnd t → continues t ≡ false
unfolding continues binary_operators assign_operators
continues-not t h =
    let k = t.kind in
    rw (
      end-false (is_mark (codes ".")) k h refl refl,
      end-false (is_mark (codes "[")) k h refl refl,
      end-false (is_mark (codes "(")) k h refl refl,
      end-false (is_mark (codes "?")) k h refl refl,
      end-false (is_mark (codes ",")) k h refl refl,
      end-false (λ j. is_some (look_up binary_kind binary_operators j)) k h refl refl,
      end-false (λ j. is_some (look_up assign_kind assign_operators j)) k h refl refl,
      nothing-found t.after_line _ (end-none (λ j. look_up update_kind (IncrementAfter ∷ DecrementAfter ∷ []) j) k h refl refl),
    ) refl

pub directive-true : (t : Token5) → t.kind ≡ Text (codes "use strict") → t.end ≡ t.begin + 12 → is_directive t ≡ true
directive-true t e p = both (is_text (codes "use strict") t.kind) (t.end == t.begin + 12) (ap (λ k. is_text (codes "use strict") k) e ∙ bytes_eq-refl (codes "use strict")) (eq-eqb t.end (t.begin + 12) p)
  where
    both : (a b : Bool) → a ≡ true → b ≡ true → (a && b) ≡ true
    both a b h k = rw (h, k) refl

pub no-fault : (tokens : List Token5) → IsStrict tokens → directive_fault tokens ≡ None
no-fault tokens s = ap (λ ts. directive_fault ts) s.first ∙ at s.directive s.end s.rest (directive-true s.directive s.text s.plain) (continues-not s.end s.ends)
  where
    at : (t u : Token5) (us : List Token5) → is_directive t ≡ true → continues u ≡ false → directive_fault (t ∷ u ∷ us) ≡ None
    at t u us h k = rw (h, k) refl
