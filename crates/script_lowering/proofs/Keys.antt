-- Borrowed names as keys.
use denote.Ref.{Bor}
use Rattle.std.proofs.Common.{◌≡◌, ℕ, ◌+◌, Bool, true, false, not, cond, nat_lt, suc, List, [], ◌∷◌, ◌++◌, length, map, refl, sym, ap, ◌∙◌, ◌||◌, arith, tests}
use Rattle.std.proofs.lemmas.List.{map-append}
use Rattle.std.specs.List.{list_any, position_or_len}
use Rattle.std.specs.Str.{bytes_eq}
use Rattle.script_lowering.specs.Reading.{place_in, with_name}

abbrev pub Name : Type 0
Name = Bor (List ℕ)

abbrev pub names_of : List Name → List (List ℕ)
names_of ks = map (λ k. k.now) ks

any_now : (p : List ℕ → Bool) (ks : List Name) → list_any p (names_of ks) ≡ list_any (λ k. p k.now) ks
any_now p [] = refl
any_now p (k ∷ ks) = ap (λ b. p k.now || b) (any_now p ks)

added : (b : Bool) (ks : List Name) (k : Name) → names_of (cond b ks (ks ++ k ∷ [])) ≡ cond b (names_of ks) (names_of ks ++ k.now ∷ [])
added true ks k = refl
added false ks k = map-append (λ (x : Name). x.now) ks (k ∷ [])

first_inside : (b : Bool) (p l : ℕ) (a : Bool) → nat_lt p l ≡ a → nat_lt (cond b 0 (suc p)) (suc l) ≡ (b || a)
first_inside true p l a e = grind (arith, tests)
first_inside false p l a e = grind (arith, tests)

is_inside : (name : List ℕ) (ns : List (List ℕ)) → nat_lt (place_in ns name) (length ns) ≡ list_any (bytes_eq name) ns
is_inside name [] = refl
is_inside name (n ∷ ns) = first_inside (bytes_eq name n) (place_in ns name) (length ns) (list_any (bytes_eq name) ns) (is_inside name ns)

-- the keys of a set after a name is inserted
pub names_with : (ks : List Name) (k : Name) → names_of (cond (list_any (λ x. bytes_eq k.now x.now) ks) ks (ks ++ k ∷ [])) ≡ with_name k.now (names_of ks)
names_with ks k =
    added (list_any (λ x. bytes_eq k.now x.now) ks) ks k
    ∙ ap (λ b. cond b (names_of ks) (names_of ks ++ k.now ∷ [])) (sym (is_inside k.now (names_of ks) ∙ any_now (bytes_eq k.now) ks))

one_further : (b : Bool) (n m : ℕ) → n ≡ m → cond (not b) (1 + n) 0 ≡ cond b 0 (suc m)
one_further true n m e = refl
one_further false n m e = grind arith

-- the place of a name among the keys
pub place_at : (ks : List Name) (k : Name) → position_or_len (λ x. bytes_eq k.now x.now) ks ≡ place_in (names_of ks) k.now
place_at [] k = refl
place_at (x ∷ ks) k = one_further (bytes_eq k.now x.now) (position_or_len (λ y. bytes_eq k.now y.now) ks) (place_in (names_of ks) k.now) (place_at ks k)
