-- What is put together of a part that could be built, or couldn't.
use Rattle.std.proofs.Common.{◌≡◌, ◌++◌, List, [], ◌∷◌, sym, subst}
use Rattle.std.specs.Prelude.{Result, Ok, Err, IfOk}
use Rattle.es6_trees.specs.declared.made.Unbuilt.{Unbuilt}
use Rattle.es6_trees.specs.Made.{Adds, with_made}

-- what holds of the part, as far as the whole is concerned
pub put_together : {A B : Type 0} (f : A → B) (r : Result A Unbuilt) (s : Result B Unbuilt) (P : A → Type 0) (Q : B → Type 0) → s ≡ with_made f r → IfOk r P → ((x : A) → P x → Q (f x)) → IfOk s Q
put_together f (Ok x) s P Q e h k = subst (λ t. IfOk t Q) (sym e) (k x h)
put_together f (Err fault) s P Q e h k = subst (λ t. IfOk t Q) (sym e) tt

-- what is answered of a result, of another fact of it
pub still_ok : {A E : Type 0} (r : Result A E) (P Q : A → Type 0) → IfOk r P → ((x : A) → P x → Q x) → IfOk r Q
still_ok (Ok x) P Q h k = k x h
still_ok (Err fault) P Q h k = tt

pub data Added {A : Type 0} (P : A → Type 0) (before behind : List A) : Type 0 where
  added : (x : A) → P x → behind ≡ before ++ x ∷ [] → Added P before behind

-- what was added was built
pub was_added : {A : Type 0} (P : A → Type 0) (before : List A) (r : Result A Unbuilt) (behind : List A) → Adds before r behind → IfOk r P → Added P before behind
was_added P before (Ok x) behind e h = added x h e
was_added P before (Err fault) behind e h = absurd e
