-- Borrowed names as keys.
use denote.Ref.{Bor}
use Rattle.std.proofs.Common.{◌≡◌, ℕ, ◌+◌, ◌≤◌, Bool, true, false, not, cond, nat_lt, List, [], ◌∷◌, ◌++◌, length, map, Some, None, refl, sym, ap, ◌∙◌, ◌||◌, arith, tests}
use Rattle.std.proofs.lemmas.List.{map-append}
use Rattle.std.proofs.lemmas.List.Sums.{prefix_len-le-length}
use Rattle.std.specs.List.{list_any, position, position_or_len}
use Rattle.std.specs.Option.{unwrap_or}
use Rattle.std.specs.Str.{bytes_eq}
use Rattle.binding_tables.specs.Names.{number_of_name, with_name}

abbrev pub Name : Type 0
Name = Bor (List ℕ)

abbrev pub names_of : List Name → List (List ℕ)
names_of ks = map (λ k. k.now) ks

any_now : (p : List ℕ → Bool) (ks : List Name) → list_any p (names_of ks) ≡ list_any (λ k. p k.now) ks
any_now p [] = refl
any_now p (k ∷ ks) = ap (λ b. p k.now || b) (any_now p ks)

position_now : (p : List ℕ → Bool) (ks : List Name) → position_or_len p (names_of ks) ≡ position_or_len (λ k. p k.now) ks
position_now p [] = refl
position_now p (k ∷ ks) = ap (λ n. cond (not (p k.now)) (1 + n) 0) (position_now p ks)

named : (b : Bool) (ks : List Name) (k : Name) → names_of (cond b ks (ks ++ k ∷ [])) ≡ cond b (names_of ks) (names_of ks ++ k.now ∷ [])
named true ks k = refl
named false ks k = map-append (λ (x : Name). x.now) ks (k ∷ [])

-- the keys of a set after a name is inserted
pub names_with : (ks : List Name) (k : Name) → names_of (cond (list_any (λ x. bytes_eq k.now x.now) ks) ks (ks ++ k ∷ [])) ≡ with_name (names_of ks) k.now
names_with ks k =
    named (list_any (λ x. bytes_eq k.now x.now) ks) ks k
    ∙ ap (λ b. cond b (names_of ks) (names_of ks ++ k.now ∷ [])) (sym (any_now (bytes_eq k.now) ks))

first_or_length : (n m : ℕ) → n ≤ m → unwrap_or (cond (nat_lt n m) (Some n) None) m ≡ n
first_or_length n m l = grind (arith, tests)

-- the number of a name among the keys
pub name_at : (ks : List Name) (k : Name) → unwrap_or (position (λ x. bytes_eq k.now x.now) ks) (length ks) ≡ number_of_name (names_of ks) k.now
name_at ks k =
    first_or_length (position_or_len (λ x. bytes_eq k.now x.now) ks) (length ks) (prefix_len-le-length (λ x. not (bytes_eq k.now x.now)) ks)
    ∙ sym (position_now (bytes_eq k.now) ks)
