-- What one more pair does to the files that a list of pairs gives.
use Rattle.std.proofs.Common.{◌≡◌, ℕ, Bool, true, false, List, [], ◌∷◌, ◌++◌, Option, Some, refl, ap, sym, ◌∙◌, cond, nat_cmp}
use Rattle.std.proofs.lemmas.List.{reverse-append}
use Rattle.std.proofs.lemmas.Map.Text.{btree_map_updates_text}
use Rattle.std.specs.BTreeMap.{BTreeMap, UpdatesBy, get_by_text}
use Rattle.std.specs.Cmp.Lexicographic.{slice_cmp}
use Rattle.std.specs.Prelude.{String, Vec, string_bytes, reverse, option_map}
use Rattle.std.specs.String.{string_cmp}
use Rattle.std.specs.List.{find}
use Rattle.std.specs.Str.{bytes_eq}
use Rattle.es_outside.specs.Files.{file_of}

option_map-cond : {A B : Type 0} (f : A → B) (test : Bool) (x y : Option A) → option_map f (cond test x y) ≡ cond test (option_map f x) (option_map f y)
option_map-cond f true x y = refl
option_map-cond f false x y = refl

-- the last pair counts
file_of-push : {A B : Type 0} (pairs : List (String A × Vec ℕ B)) (pair : String A × Vec ℕ B) (path : List ℕ)
    → file_of (pairs ++ pair ∷ []) path ≡ cond (bytes_eq (string_bytes pair.0) path) (Some pair.1.items) (file_of pairs path)
file_of-push pairs pair path =
    ap (λ all. option_map (λ p. p.1.items) (find (λ p. bytes_eq (string_bytes p.0) path) all)) (reverse-append pairs (pair ∷ []))
    ∙ option_map-cond (λ p. p.1.items) (bytes_eq (string_bytes pair.0) path) (Some pair) (find (λ p. bytes_eq (string_bytes p.0) path) (reverse pairs))

-- a map that holds what the pairs give holds what they give with one more, once that one is put in
pub file_of-put : {A B : Type 0} (pairs : List (String A × Vec ℕ B)) (pair : String A × Vec ℕ B) (m n : BTreeMap (String A) (Vec ℕ B))
    → UpdatesBy string_cmp (λ key. slice_cmp nat_cmp (string_bytes pair.0) (string_bytes key)) m n (Some pair.1)
    → ((path : List ℕ) → option_map (λ bytes. bytes.items) (get_by_text m path) ≡ file_of pairs path)
    → (path : List ℕ) → option_map (λ bytes. bytes.items) (get_by_text n path) ≡ file_of (pairs ++ pair ∷ []) path
file_of-put pairs pair m n updates before path =
    ap (λ found. option_map (λ bytes. bytes.items) found) (btree_map_updates_text (string_bytes pair.0) m n (Some pair.1) updates path)
    ∙ option_map-cond (λ bytes. bytes.items) (bytes_eq (string_bytes pair.0) path) (Some pair.1) (get_by_text m path)
    ∙ ap (λ rest. cond (bytes_eq (string_bytes pair.0) path) (Some pair.1.items) rest) (before path)
    ∙ sym (file_of-push pairs pair path)
