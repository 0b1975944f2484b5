-- How lists are read, an item a turn.
use Rattle.std.proofs.Common.{◌≡◌, ℕ, suc, ◌+◌, ◌-◌, ◌<◌, ◌≤◌, List, [], ◌∷◌, ◌++◌, refl, sym, ap, ◌∙◌, arith, append_assoc, append-nil}
use Rattle.es5_reading.specs.Parser.{Input5, Outcome5, Took, Fault, Parser, after, returns}
use Rattle.es5_cursor.specs.Readers.{turns, before}

pub turns_is : turns ≡ 67108865
unfolding turns
turns_is = refl

-- a turn is left while the loop goes on
pub turn : (n : ℕ) → n < turns → turns - n ≡ suc (turns - (n + 1))
turn n h = omega arith

pub no_turn : (n : ℕ) → turns ≤ n → turns - n ≡ 0
no_turn n h = omega arith

pub none_before : {A : Type 0} (o : Outcome5 (List A)) → before [] o ≡ o
none_before (Took xs c) = refl
none_before (Fault stop ts) = refl

-- an item more
pub one_before : {A : Type 0} (front : List A) (x : A) (o : Outcome5 (List A)) → before front (after o (λ xs. returns (x ∷ xs))) ≡ before (front ++ x ∷ []) o
one_before front x (Took xs c) = ap (λ l. Took l c) (sym (append_assoc front (x ∷ []) xs))
one_before front x (Fault stop ts) = refl

pub then : {A B : Type 0} {o : Outcome5 A} (q : A → Parser B) {x : A} {d : Input5} → o ≡ Took x d → after o q ≡ q x d
then q read = ap (λ o. after o q) read

pub ended : {A : Type 0} (front : List A) {o : Outcome5 (List A)} {d : Input5} → o ≡ Took [] d → before front o ≡ Took front d
ended front {d = d} h = ap (before front) h ∙ ap (λ l. Took l d) (append-nil front)
