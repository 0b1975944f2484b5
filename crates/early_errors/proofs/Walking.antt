-- Pairs that stand one list after another, and what is asked of labels.
use Rattle.std.proofs.Common.{◌≡◌, Bool, true, false, ◌||◌, List, [], ◌∷◌, ◌++◌, fold, reverse, Option, refl, sym, ap, ◌∙◌, append_assoc}
use Rattle.std.specs.List.{list_any}
use Rattle.std.proofs.lemmas.List.{reverse-append}
use Rattle.std.proofs.lemmas.List.Folds.{list_any-append}
use Rattle.es6_static_semantics.specs.Findings.{Pair, joined}

pub fold_append : (f : Option Pair → Pair → Option Pair) (l : Option Pair) (xs ys : List Pair) → fold f l (xs ++ ys) ≡ fold f (fold f l xs) ys
fold_append f l [] ys = refl
fold_append f l (x ∷ xs) ys = fold_append f (f l x) xs ys

pub joined_append : {A B : Type 0} (f : A → List B) (xs ys : List A) → joined f (xs ++ ys) ≡ joined f xs ++ joined f ys
joined_append f [] ys = refl
joined_append f (x ∷ xs) ys = ap (λ zs. f x ++ zs) (joined_append f xs ys) ∙ sym (append_assoc (f x) (joined f xs) (joined f ys))

or_swap : (a b : Bool) → a || (b || false) ≡ b || a
or_swap true true = refl
or_swap true false = refl
or_swap false true = refl
or_swap false false = refl

pub any_reverse : {X : Type 0} (p : X → Bool) (xs : List X) → list_any p (reverse xs) ≡ list_any p xs
any_reverse p [] = refl
any_reverse p (x ∷ xs) =
    ap (list_any p) (reverse-append (x ∷ []) xs) ∙ list_any-append p (reverse xs) (x ∷ []) ∙ or_swap (list_any p (reverse xs)) (p x) ∙ ap (λ b. p x || b) (any_reverse p xs)

pub ruleset walking = (fold_append, joined_append)
