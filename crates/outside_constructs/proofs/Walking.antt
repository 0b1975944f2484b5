-- Pairs that stand one list after another, and the way back out of a scope.
use Rattle.std.proofs.Common.{◌≡◌, ◌-◌, List, [], ◌∷◌, ◌++◌, length, drop, fold, Option, refl, sym, ap, ◌∙◌, arith, append_assoc, length-append}
use Rattle.es6_static_semantics.specs.Findings.{Pair, joined}

pub fold_append : (f : Option Pair → Pair → Option Pair) (l : Option Pair) (xs ys : List Pair) → fold f l (xs ++ ys) ≡ fold f (fold f l xs) ys
fold_append f l [] ys = refl
fold_append f l (x ∷ xs) ys = fold_append f (f l x) xs ys

pub joined_append : {A B : Type 0} (f : A → List B) (xs ys : List A) → joined f (xs ++ ys) ≡ joined f xs ++ joined f ys
joined_append f [] ys = refl
joined_append f (x ∷ xs) ys = ap (λ zs. f x ++ zs) (joined_append f xs ys) ∙ sym (append_assoc (f x) (joined f xs) (joined f ys))

drop_past : {A : Type 0} (xs ys : List A) → drop (length xs) (xs ++ ys) ≡ ys
drop_past [] ys = refl
drop_past (x ∷ xs) ys = drop_past xs ys

pub drop_back : {A : Type 0} (xs ys : List A) → drop (length (xs ++ ys) - length ys) (xs ++ ys) ≡ ys
drop_back xs ys =
    let n : length (xs ++ ys) - length ys ≡ length xs = omega (arith, length-append xs ys) in
    ap (λ k. drop k (xs ++ ys)) n ∙ drop_past xs ys

pub ruleset walked = (fold_append, joined_append, drop_back)
