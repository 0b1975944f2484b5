-- Lists that grow side by side.
use Rattle.std.proofs.Common.{◌≡◌, ℕ, ◌+◌, List, [], ◌∷◌, ◌++◌, length, reverse, take, Some, refl, sym, ap, ◌∙◌, arith}
use Rattle.std.specs.Prelude.{slice_get}
use Rattle.std.proofs.lemmas.List.{append_assoc, reverse-append}
use Rattle.module_links.specs.Zips.{zipped}
use Rattle.module_summaries.proofs.Growing.{take-one}

-- a list to which what stands at the next index is added
pub taken-more : {A : Type 0} (xs : List A) (i : ℕ) (x y : A) (old new : List A) → slice_get xs i ≡ Some x → y ≡ x → new ≡ old ++ y ∷ [] → old ≡ take i xs → new ≡ take (i + 1) xs
taken-more xs i x y old new there same grown before = grown ∙ ap (λ z. old ++ z ∷ []) same ∙ ap (λ list. list ++ x ∷ []) before ∙ sym (take-one xs i x there)

pub zipped-push : {A B : Type 0} (f : A → B → A) (xs : List A) (ys : List B) (x : A) (y : B) → length ys ≡ length xs → zipped f (xs ++ x ∷ []) (ys ++ y ∷ []) ≡ zipped f xs ys ++ f x y ∷ []
zipped-push f [] [] x y e = refl
zipped-push f [] (z ∷ ys) x y e = absurd (omega (arith, e))
zipped-push f (z ∷ xs) [] x y e = absurd (omega (arith, e))
zipped-push f (z ∷ xs) (w ∷ ys) x y e = ap (λ rest. f z w ∷ rest) (zipped-push f xs ys x y (omega (arith, e)))

-- one module more is moved from the end of the one list to the end of the other
pub zipped-moved : {A B : Type 0} (f : A → B → A) (xs : List A) (ys : List B) (x : A) (y : B) (room more all : List A) → length ys ≡ length xs → more ≡ room ++ f x y ∷ []
    → zipped f (xs ++ x ∷ []) (ys ++ y ∷ []) ++ reverse room ≡ all → zipped f xs ys ++ reverse more ≡ all
zipped-moved f xs ys x y room more all e grown before =
    ap (λ list. zipped f xs ys ++ reverse list) grown ∙ ap (λ list. zipped f xs ys ++ list) (reverse-append room (f x y ∷ []))
    ∙ sym (append_assoc (zipped f xs ys) (f x y ∷ []) (reverse room)) ∙ ap (λ list. list ++ reverse room) (sym (zipped-push f xs ys x y e)) ∙ before
