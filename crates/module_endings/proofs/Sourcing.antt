-- Texts and names that are looked up by hash.
use Rattle.std.proofs.Common.{◌≡◌, ℕ, zero, suc, ◌+◌, Bor, Bool, true, false, cond, List, [], ◌∷◌, drop, Option, Some, refl, sym, ap, subst, ◌∙◌, inl, inr, add-one}
use Rattle.std.specs.Prelude.{option_map, slice_get}
use Rattle.std.specs.Str.{bytes_eq}
use Rattle.std.specs.Cmp.Lexicographic.{bytes_decides, nat_list_eq_equiv}
use Rattle.std.specs.Map.{lookup, IsKeyTest, AreApart, KeepsOthers}
use Rattle.std.specs.HashMap.{HashMap, UpdatesBy, get_by}
use Rattle.std.specs.declared.hash.FoldHasher.{FoldHasher}
use Rattle.std.specs.declared.hash.BuildHasherDefault.{BuildHasherDefault}
use Rattle.std.proofs.lemmas.Bool.{cases_Bool, cond-true, cond-false}
use Rattle.module_endings.specs.declared.place.Place.{Place}
use Rattle.module_endings.specs.declared.summary.Export.{Export}
use Rattle.module_endings.specs.Ends.{first_source}
use Rattle.module_endings.proofs.Gets.{some-same}

abbrev pub Table : Type 0 → Type 0
Table V = HashMap (Bor (List ℕ)) V (BuildHasherDefault FoldHasher)

abbrev pub is_key : List ℕ → Bor (List ℕ) → Bool
is_key name key = bytes_eq name key.now

other_entries : {K X : Type 0} (eq : K → K → Bool) (test : K → Bool) (old new : List (K × X)) → KeepsOthers eq test old new → (other : K → Bool) → IsKeyTest eq other → AreApart test other → lookup other new ≡ lookup other old
unfolding KeepsOthers
other_entries eq test old new h = h

apart : (key q : List ℕ) → bytes_eq key q ≡ false → (k : Bor (List ℕ)) → is_key key k ≡ true → is_key q k ≡ false
apart key q n k y = nat_list_eq_equiv.symm q k.now ∙ sym (nat_list_eq_equiv.congr key k.now q y) ∙ n

-- what is found at a name after a change at another
pub get_by-updates : {V : Type 0} (key : List ℕ) (m n : Table V) (w : Option V) → UpdatesBy (λ x y. bytes_eq x.now y.now) (is_key key) m n w → (q : List ℕ) → get_by (is_key q) n ≡ cond (bytes_eq key q) w (get_by (is_key q) m)
get_by-updates key m n w h q =
    elim (cases_Bool (bytes_eq key q)) [
      | inl y ↦ subst (λ l. get_by (is_key l) n ≡ w) ((bytes_decides key q).0 y) h.1 ∙ sym (cond-true (bytes_eq key q) w (get_by (is_key q) m) y)
      | inr e ↦ other_entries _ _ _ _ h.3 _ (λ x y. nat_list_eq_equiv.congr q x.now y.now) (apart key q e) ∙ sym (cond-false (bytes_eq key q) w (get_by (is_key q) m) e)
    ]

pub option_map-cond : {A B : Type 0} (f : A → B) (test : Bool) (x y : Option A) → option_map f (cond test x y) ≡ cond test (option_map f x) (option_map f y)
option_map-cond f true x y = refl
option_map-cond f false x y = refl

pub drop-at : {A : Type 0} (xs : List A) (i : ℕ) (x : A) → slice_get xs i ≡ Some x → drop i xs ≡ x ∷ drop (suc i) xs
drop-at [] i x e = absurd (cc)
drop-at (y ∷ xs) zero x e = ap (λ z. z ∷ xs) (some-same e)
drop-at (y ∷ xs) (suc i) x e = drop-at xs i x e

-- one export more, before those that are known
pub indexed-more : (old new : Table (Bor Place)) (exports : List Export) (i : ℕ) (e : Export) (key : List ℕ) (value : Bor Place) → key ≡ e.name → value.now ≡ e.source → slice_get exports i ≡ Some e
    → UpdatesBy (λ x y. bytes_eq x.now y.now) (is_key key) old new (Some value)
    → ((name : List ℕ) → option_map (λ p. p.now) (get_by (is_key name) old) ≡ first_source (drop (i + 1) exports) name)
    → (name : List ℕ) → option_map (λ p. p.now) (get_by (is_key name) new) ≡ first_source (drop i exports) name
indexed-more old new exports i e key value is_key_of is_value there updates before name =
    ap (λ o. option_map (λ p. p.now) o) (get_by-updates key old new (Some value) updates name)
    ∙ option_map-cond (λ p. p.now) (bytes_eq key name) (Some value) (get_by (is_key name) old)
    ∙ ap (λ o. cond (bytes_eq key name) (Some value.now) o) (before name ∙ ap (λ n. first_source (drop n exports) name) (add-one i))
    ∙ ap (λ k. cond (bytes_eq k name) (Some value.now) (first_source (drop (suc i) exports) name)) is_key_of
    ∙ ap (λ v. cond (bytes_eq e.name name) (Some v) (first_source (drop (suc i) exports) name)) is_value
    ∙ ap (λ es. first_source es name) (sym (drop-at exports i e there))
