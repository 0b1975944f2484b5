-- What follows a choice follows each of its ways.
use Rattle.std.proofs.Common.{◌≡◌, ℕ, Bool, true, false, List, [], ◌∷◌, Option, Some, None, refl, ap}
use Rattle.es6_ast.specs.declared.settings.Stop.{Stop}
use Rattle.es6_ast.specs.Tokens.{Filled}
use Rattle.es6_reading.specs.Parser.{Input, Outcome, Took, Fault, Parser, after, on, on_taken, choose}
use Rattle.es6_cursor.specs.declared.halt.Halt.{Halt}
use Rattle.es6_cursor.specs.declared.halt.Halt.TheVariants.{Stopped, OutOfMemory}
use Rattle.es6_cursor.specs.Reads.{Halts}

pub halted : {A B : Type 0} (o : Outcome A) (q : A → Parser B) (halt : Halt) (ts : List Filled) → Halts o halt ts → Halts (after o q) halt ts
halted o q (Stopped stop) ts read = ap (λ x. after x q) read
halted o q OutOfMemory ts read = tt

-- what is the same halts the same
pub halts_as : {A : Type 0} {o p : Outcome A} (halt : Halt) (ts : List Filled) → o ≡ p → Halts p halt ts → Halts o halt ts
halts_as halt ts e h = rw e h

pub after_after : {A B C : Type 0} (o : Outcome A) (p : A → Parser B) (k : B → Parser C) → after o (λ x c. after (p x c) k) ≡ after (after o p) k
after_after (Took x c) p k = refl
after_after (Fault stop ts) p k = refl

module _ {A B : Type 0} (k : A → Parser B) where
  pub after_choice : (b : Bool) (p q : Parser A) (p' q' : Parser B) (c : Input) → p' c ≡ after (p c) k → q' c ≡ after (q c) k → choose b p' q' c ≡ after (choose b p q c) k
  after_choice true p q p' q' c f g = f
  after_choice false p q p' q' c f g = g

  pub after_on : {C : Type 0} (test : Filled → Option C) (p : C → Parser A) (q : Parser A) (p' : C → Parser B) (q' : Parser B) (c : Input) → ((x : C) (d : Input) → p' x d ≡ after (p x d) k) → q' c ≡ after (q c) k → on test p' q' c ≡ after (on test p q c) k
  after_on {C = C} test p q p' q' c f g = at c.tokens c.last g
    where
      at : (ts : List Filled) (last : ℕ) → q' (record { tokens = ts; last = last }) ≡ after (q (record { tokens = ts; last = last })) k → on test p' q' (record { tokens = ts; last = last }) ≡ after (on test p q (record { tokens = ts; last = last })) k
      at [] last g = g
      at (t ∷ ts) last g = known (test t) g
        where
          known : (o : Option C) → q' (record { tokens = t ∷ ts; last = last }) ≡ after (q (record { tokens = t ∷ ts; last = last })) k → on_taken o t ts p' q' (record { tokens = t ∷ ts; last = last }) ≡ after (on_taken o t ts p q (record { tokens = t ∷ ts; last = last })) k
          known (Some x) g = f x (record { tokens = ts; last = t.span.end })
          known None g = g
