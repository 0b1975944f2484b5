-- Where none of the names of one list stands in another, no rule on both is broken.
use Rattle.std.proofs.Common.{◌≡◌, ℕ, Bool, true, false, ◌||◌, List, [], ◌∷◌, ◌++◌, Option, Some, None, is_some, refl, sym, ap, ◌∙◌}
use Rattle.std.specs.List.{list_any}
use Rattle.std.specs.Str.{bytes_eq}
use Rattle.std.specs.Cmp.Lexicographic.{nat_list_eq_equiv}
use Rattle.es6_ast.specs.declared.tree.Identifier.{Identifier}
use Rattle.es6_static_semantics.specs.Findings.{Pair, clashes, first_place, is_name_of, maybe, shared, when}

abbrev pub are_among : List Identifier → List Identifier → Bool
are_among ys xs = list_any (λ x. is_name_of x.name ys) xs

left_false : (a b : Bool) → a || b ≡ false → a ≡ false
left_false true b e = e
left_false false b e = refl

right_false : (a b : Bool) → a || b ≡ false → b ≡ false
right_false true b e = absurd (cc)
right_false false b e = e

no_place : (name : List ℕ) (xs : List Identifier) → is_name_of name xs ≡ false → first_place name xs ≡ None
no_place name [] e = refl
no_place name (x ∷ xs) e = rw (left_false (bytes_eq x.name name) (is_name_of name xs) e) (no_place name xs (right_false (bytes_eq x.name name) (is_name_of name xs) e))

pub no_clash : (rule : ℕ) (xs ys : List Identifier) → are_among ys xs ≡ false → clashes rule xs ys ≡ []
no_clash rule [] ys e = refl
no_clash rule (x ∷ xs) ys e =
    rw (no_place x.name ys (left_false (is_name_of x.name ys) (are_among ys xs) e)) (no_clash rule xs ys (right_false (is_name_of x.name ys) (are_among ys xs) e))

-- none of them is one of the others, without the first of these
rest_among : (y : Identifier) (ys xs : List Identifier) → are_among (y ∷ ys) xs ≡ false → are_among ys xs ≡ false
rest_among y ys [] e = refl
rest_among y ys (x ∷ xs) e =
    let here : is_name_of x.name ys ≡ false = right_false (bytes_eq y.name x.name) (is_name_of x.name ys) (left_false (is_name_of x.name (y ∷ ys)) (are_among (y ∷ ys) xs) e) in
    rw here (rest_among y ys xs (right_false (is_name_of x.name (y ∷ ys)) (are_among (y ∷ ys) xs) e))

first_among : (y : Identifier) (ys xs : List Identifier) → are_among (y ∷ ys) xs ≡ false → is_name_of y.name xs ≡ false
first_among y ys [] e = refl
first_among y ys (x ∷ xs) e =
    let here : bytes_eq x.name y.name ≡ false = nat_list_eq_equiv.symm x.name y.name ∙ left_false (bytes_eq y.name x.name) (is_name_of x.name ys) (left_false (is_name_of x.name (y ∷ ys)) (are_among (y ∷ ys) xs) e) in
    rw here (first_among y ys xs (right_false (is_name_of x.name (y ∷ ys)) (are_among (y ∷ ys) xs) e))

pub none_shared : (rule : ℕ) (xs ys : List Identifier) → are_among ys xs ≡ false → shared rule xs ys ≡ []
none_shared rule xs [] e = refl
none_shared rule xs (y ∷ ys) e = rw (first_among y ys xs e) (none_shared rule xs ys (rest_among y ys xs e))
