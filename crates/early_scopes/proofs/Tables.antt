-- A name that is added at the end of a list, whose names have their last places in a table.
use Rattle.std.proofs.Common.{◌≡◌, ℕ, zero, suc, Bor, Bool, true, false, ◌||◌, not, nat_lt, cond, List, [], ◌∷◌, ◌++◌, length, drop, Option, Some, None, refl, sym, ap, subst, ◌∙◌, inl, inr, arith}
use Rattle.std.specs.List.{list_any}
use Rattle.std.specs.Str.{bytes_eq}
use Rattle.std.specs.Cmp.Lexicographic.{bytes_decides, nat_list_eq_equiv}
use Rattle.std.specs.Map.{lookup, IsKeyTest, AreApart, KeepsOthers}
use Rattle.std.specs.HashMap.{UpdatesBy, get_by}
use Rattle.std.proofs.lemmas.Bool.{cases_Bool, cond-true, cond-false}
use Rattle.std.proofs.lemmas.Bool.Decides.{nat_tests}
use Rattle.std.proofs.lemmas.List.Folds.{list_any-append}
use Rattle.es6_ast.specs.declared.tree.Identifier.{Identifier}
use Rattle.es6_static_semantics.specs.Findings.{is_name_of}
use Rattle.early_scopes.specs.Since.{AgreeWith, Table, is_key, is_since}

-- ---- the map

other_entries : {K X : Type 0} (eq : K → K → Bool) (test : K → Bool) (old new : List (K × X)) → KeepsOthers eq test old new → (other : K → Bool) → IsKeyTest eq other → AreApart test other → lookup other new ≡ lookup other old
unfolding KeepsOthers
other_entries eq test old new h = h

apart : (key q : List ℕ) → bytes_eq key q ≡ false → (k : Bor (List ℕ)) → is_key key k ≡ true → is_key q k ≡ false
apart key q n k y = nat_list_eq_equiv.symm q k.now ∙ sym (nat_list_eq_equiv.congr key k.now q y) ∙ n

-- what is found at a name after a change at another
pub get_by-updates : (key : List ℕ) (m n : Table) (w : Option ℕ) → UpdatesBy (λ x y. bytes_eq x.now y.now) (is_key key) m n w → (q : List ℕ) → get_by (is_key q) n ≡ cond (bytes_eq key q) w (get_by (is_key q) m)
get_by-updates key m n w h q =
    elim (cases_Bool (bytes_eq key q)) [
      | inl y ↦ subst (λ l. get_by (is_key l) n ≡ w) ((bytes_decides key q).0 y) h.1 ∙ sym (cond-true (bytes_eq key q) w (get_by (is_key q) m) y)
      | inr e ↦ other_entries _ _ _ _ h.3 _ (λ x y. nat_list_eq_equiv.congr q x.now y.now) (apart key q e) ∙ sym (cond-false (bytes_eq key q) w (get_by (is_key q) m) e)
    ]

-- ---- the list

drop_before : {A : Type 0} (mark : ℕ) (xs ys : List A) → nat_lt (length xs) mark ≡ false → drop mark (xs ++ ys) ≡ drop mark xs ++ ys
drop_before zero xs ys e = refl
drop_before (suc mark) [] ys e = absurd (grind (arith, nat_tests))
drop_before (suc mark) (x ∷ xs) ys e = drop_before mark xs ys (grind (arith, nat_tests))

drop_all : {A : Type 0} (mark : ℕ) (xs : List A) (y : A) → nat_lt (length xs) mark ≡ true → drop mark (xs ++ y ∷ []) ≡ []
drop_all zero xs y e = absurd (grind (arith, nat_tests))
drop_all (suc zero) [] y e = refl
drop_all (suc (suc mark)) [] y e = refl
drop_all (suc mark) (x ∷ xs) y e = drop_all mark xs y (grind (arith, nat_tests))

drop_past_end : {A : Type 0} (mark : ℕ) (xs : List A) → nat_lt (length xs) mark ≡ true → drop mark xs ≡ []
drop_past_end zero xs e = absurd (grind (arith, nat_tests))
drop_past_end (suc mark) [] e = refl
drop_past_end (suc mark) (x ∷ xs) e = drop_past_end mark xs (grind (arith, nat_tests))

or-true : (b : Bool) → b || (true || false) ≡ true
or-true true = refl
or-true false = refl

or-false : (b : Bool) → b || (false || false) ≡ b
or-false true = refl
or-false false = refl

any_of : (name : List ℕ) (xs : List Identifier) (x : Identifier) → is_name_of name (xs ++ x ∷ []) ≡ (is_name_of name xs || (bytes_eq x.name name || false))
any_of name xs x = list_any-append (λ (y : Identifier). bytes_eq y.name name) xs (x ∷ [])

-- the same list with a name more
pub agree_after : (found new : List ℕ → Option ℕ) (xs : List Identifier) (x : Identifier) → AgreeWith found xs
    → ((name : List ℕ) → new name ≡ cond (bytes_eq x.name name) (Some (length xs)) (found name)) → AgreeWith new (xs ++ x ∷ [])
agree_after found new xs x h same = λ name mark. elim (cases_Bool (bytes_eq x.name name)) [
  | inl y ↦
      let is : new name ≡ Some (length xs) = same name ∙ cond-true (bytes_eq x.name name) (Some (length xs)) (found name) y in
      ap (is_since mark) is ∙ elim (cases_Bool (nat_lt (length xs) mark)) [
        | inl late ↦ ap not late ∙ sym (ap (is_name_of name) (drop_all mark xs x late))
        | inr here ↦
            ap not here ∙ sym (ap (is_name_of name) (drop_before mark xs (x ∷ []) here) ∙ any_of name (drop mark xs) x ∙ ap (λ b. is_name_of name (drop mark xs) || (b || false)) y ∙ or-true (is_name_of name (drop mark xs)))
      ]
  | inr n ↦
      let is : new name ≡ found name = same name ∙ cond-false (bytes_eq x.name name) (Some (length xs)) (found name) n in
      ap (is_since mark) is ∙ h name mark ∙ elim (cases_Bool (nat_lt (length xs) mark)) [
        | inl late ↦ ap (is_name_of name) (drop_past_end mark xs late ∙ sym (drop_all mark xs x late))
        | inr here ↦
            sym (ap (is_name_of name) (drop_before mark xs (x ∷ []) here) ∙ any_of name (drop mark xs) x ∙ ap (λ b. is_name_of name (drop mark xs) || (b || false)) n ∙ or-false (is_name_of name (drop mark xs)))
      ]
]

-- a table that says the same agrees with the same list
pub agree_again : (found new : List ℕ → Option ℕ) (xs : List Identifier) → AgreeWith found xs → ((name : List ℕ) → new name ≡ found name) → AgreeWith new xs
agree_again found new xs h same = λ name mark. ap (is_since mark) (same name) ∙ h name mark
