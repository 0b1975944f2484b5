-- Names in a list, and where they first stand there.
use Rattle.std.proofs.Common.{◌≡◌, ℕ, Bor, Bool, true, false, ◌||◌, cond, List, [], ◌∷◌, ◌++◌, Option, Some, None, is_some, refl, sym, ap, subst, ◌∙◌, inl, inr}
use Rattle.std.specs.Str.{bytes_eq}
use Rattle.std.specs.Cmp.Lexicographic.{bytes_decides, nat_list_eq_equiv}
use Rattle.std.specs.Map.{lookup, IsKeyTest, AreApart, KeepsOthers}
use Rattle.std.specs.HashMap.{HashMap, UpdatesBy, get_by}
use Rattle.std.specs.declared.hash.FoldHasher.{FoldHasher}
use Rattle.std.specs.declared.hash.BuildHasherDefault.{BuildHasherDefault}
use Rattle.std.proofs.lemmas.Bool.{cases_Bool, cond-true, cond-false}
use Rattle.es6_ast.specs.declared.tree.Identifier.{Identifier}
use Rattle.es6_static_semantics.specs.Findings.{first_place, is_name_of}

is_some-cond : (b : Bool) (at : ℕ) (o : Option ℕ) → is_some (cond b (Some at) o) ≡ (b || is_some o)
is_some-cond true at o = refl
is_some-cond false at o = refl

pub first_place-is_some : (name : List ℕ) (xs : List Identifier) → is_some (first_place name xs) ≡ is_name_of name xs
first_place-is_some name [] = refl
first_place-is_some name (x ∷ xs) =
    is_some-cond (bytes_eq x.name name) x.span.begin (first_place name xs) ∙ ap (λ b. bytes_eq x.name name || b) (first_place-is_some name xs)

-- what stands first in a list with a name added
abbrev pub placed_with : Option ℕ → Option ℕ → Option ℕ
placed_with None later = later
placed_with (Some at) later = Some at

placed-cond : (b : Bool) (at : ℕ) (o later : Option ℕ) → cond b (Some at) (placed_with o later) ≡ placed_with (cond b (Some at) o) later
placed-cond true at o later = refl
placed-cond false at o later = refl

pub first_place-added : (name : List ℕ) (xs : List Identifier) (x : Identifier) → first_place name (xs ++ x ∷ []) ≡ placed_with (first_place name xs) (cond (bytes_eq x.name name) (Some x.span.begin) None)
first_place-added name [] x = refl
first_place-added name (y ∷ xs) x =
    ap (cond (bytes_eq y.name name) (Some y.span.begin)) (first_place-added name xs x)
    ∙ placed-cond (bytes_eq y.name name) y.span.begin (first_place name xs) (cond (bytes_eq x.name name) (Some x.span.begin) None)

is_some-none : (o : Option ℕ) → is_some o ≡ false → o ≡ None
is_some-none None e = refl
is_some-none (Some at) e = absurd (cc)

placed-none : (o : Option ℕ) → o ≡ placed_with o None
placed-none None = refl
placed-none (Some at) = refl

placed-some : (o later : Option ℕ) → is_some o ≡ true → o ≡ placed_with o later
placed-some None later e = absurd (cc)
placed-some (Some at) later e = refl

-- a name that stands in the list already changes no place
pub kept : (x : Identifier) (xs : List Identifier) → is_name_of x.name xs ≡ true → (name : List ℕ) → first_place name xs ≡ first_place name (xs ++ x ∷ [])
kept x xs e name =
    let added = sym (first_place-added name xs x) in
    elim (cases_Bool (bytes_eq x.name name)) [
      | inl y ↦
          let there : is_some (first_place name xs) ≡ true =
          first_place-is_some name xs ∙ ap (λ n. is_name_of n xs) (sym ((bytes_decides x.name name).0 y)) ∙ e in
          placed-some (first_place name xs) (cond (bytes_eq x.name name) (Some x.span.begin) None) there ∙ added
      | inr n ↦ placed-none (first_place name xs) ∙ ap (placed_with (first_place name xs)) (sym (cond-false (bytes_eq x.name name) (Some x.span.begin) None n)) ∙ added
    ]

-- another name gets its place
pub placed : (x : Identifier) (xs : List Identifier) → is_name_of x.name xs ≡ false → (name : List ℕ) → cond (bytes_eq x.name name) (Some x.span.begin) (first_place name xs) ≡ first_place name (xs ++ x ∷ [])
placed x xs e name =
    let added = sym (first_place-added name xs x) in
    elim (cases_Bool (bytes_eq x.name name)) [
      | inl y ↦
          let missing : first_place name xs ≡ None =
          is_some-none (first_place name xs) (first_place-is_some name xs ∙ ap (λ n. is_name_of n xs) (sym ((bytes_decides x.name name).0 y)) ∙ e) in
          cond-true (bytes_eq x.name name) (Some x.span.begin) (first_place name xs) y ∙ sym (cond-true (bytes_eq x.name name) (Some x.span.begin) None y)
          ∙ ap (λ o. placed_with o (cond (bytes_eq x.name name) (Some x.span.begin) None)) (sym missing) ∙ added
      | inr n ↦
          cond-false (bytes_eq x.name name) (Some x.span.begin) (first_place name xs) n ∙ placed-none (first_place name xs)
          ∙ ap (placed_with (first_place name xs)) (sym (cond-false (bytes_eq x.name name) (Some x.span.begin) None n)) ∙ added
    ]

-- ---- maps

abbrev pub Table : Type 0
Table = HashMap (Bor (List ℕ)) ℕ (BuildHasherDefault FoldHasher)

abbrev pub is_key : List ℕ → Bor (List ℕ) → Bool
is_key name key = bytes_eq name key.now

other_entries : {K X : Type 0} (eq : K → K → Bool) (test : K → Bool) (old new : List (K × X)) → KeepsOthers eq test old new → (other : K → Bool) → IsKeyTest eq other → AreApart test other → lookup other new ≡ lookup other old
unfolding KeepsOthers
other_entries eq test old new h = h

apart : (key q : List ℕ) → bytes_eq key q ≡ false → (k : Bor (List ℕ)) → is_key key k ≡ true → is_key q k ≡ false
apart key q n k y = nat_list_eq_equiv.symm q k.now ∙ sym (nat_list_eq_equiv.congr key k.now q y) ∙ n

-- what is found at a name after a change at another
pub get_by-updates : (key : List ℕ) (m n : Table) (w : Option ℕ) → UpdatesBy (λ x y. bytes_eq x.now y.now) (is_key key) m n w → (q : List ℕ) → get_by (is_key q) n ≡ cond (bytes_eq key q) w (get_by (is_key q) m)
get_by-updates key m n w h q =
    elim (cases_Bool (bytes_eq key q)) [
      | inl y ↦ subst (λ l. get_by (is_key l) n ≡ w) ((bytes_decides key q).0 y) h.1 ∙ sym (cond-true (bytes_eq key q) w (get_by (is_key q) m) y)
      | inr e ↦ other_entries _ _ _ _ h.3 _ (λ x y. nat_list_eq_equiv.congr q x.now y.now) (apart key q e) ∙ sym (cond-false (bytes_eq key q) w (get_by (is_key q) m) e)
    ]
