-- Pairs and names that stand one list after another.
use Rattle.std.proofs.Common.{◌≡◌, ℕ, ◌||◌, List, [], ◌∷◌, ◌++◌, length, drop, fold, Option, refl, sym, ap, ◌∙◌, append_assoc}
use Rattle.std.proofs.lemmas.List.Folds.{list_any-append}
use Rattle.std.specs.Str.{bytes_eq}
use Rattle.es6_ast.specs.declared.tree.Identifier.{Identifier}
use Rattle.es6_static_semantics.specs.Findings.{Pair, is_name_of, joined}

pub fold_append : (f : Option Pair → Pair → Option Pair) (l : Option Pair) (xs ys : List Pair) → fold f l (xs ++ ys) ≡ fold f (fold f l xs) ys
fold_append f l [] ys = refl
fold_append f l (x ∷ xs) ys = fold_append f (f l x) xs ys

pub joined_append : {A B : Type 0} (f : A → List B) (xs ys : List A) → joined f (xs ++ ys) ≡ joined f xs ++ joined f ys
joined_append f [] ys = refl
joined_append f (x ∷ xs) ys = ap (λ zs. f x ++ zs) (joined_append f xs ys) ∙ sym (append_assoc (f x) (joined f xs) (joined f ys))

pub drop_past : {A : Type 0} (xs ys : List A) → drop (length xs) (xs ++ ys) ≡ ys
drop_past [] ys = refl
drop_past (x ∷ xs) ys = drop_past xs ys

pub among_both : (name : List ℕ) (xs ys : List Identifier) → is_name_of name (xs ++ ys) ≡ (is_name_of name xs || is_name_of name ys)
among_both name xs ys = list_any-append (λ (x : Identifier). bytes_eq x.name name) xs ys

pub ruleset passing = (fold_append, joined_append, drop_past, append_assoc)
