-- Files as a list of paths and bytes give each path what the pairs that hold them give it.
use Rattle.std.proofs.Common.{◌≡◌, ℕ, true, false, List, [], ◌∷◌, ◌++◌, refl, ap, sym, ◌∙◌, cond}
use Rattle.std.proofs.lemmas.List.{map-append, reverse-append}
use Rattle.std.specs.Prelude.{map, reverse, Some, option_map, String, Vec, string_bytes}
use Rattle.std.specs.List.{find}
use Rattle.std.specs.Str.{bytes_eq}
use Rattle.es_outside.specs.Files.{file_of}
use Rattle.sample_graph.specs.Listed.{file_listed, path_and_bytes}

reverse-map : {X Y : Type 0} (f : X → Y) (xs : List X) → reverse (map f xs) ≡ map f (reverse xs)
reverse-map f [] = refl
reverse-map f (x ∷ xs) = reverse-append (f x ∷ []) (map f xs) ∙ ap (λ rest. rest ++ f x ∷ []) (reverse-map f xs)
    ∙ sym (map-append f (reverse xs) (x ∷ [])) ∙ ap (λ all. map f all) (sym (reverse-append (x ∷ []) xs))

find-map : {A B : Type 0} (pairs : List (String A × Vec ℕ B)) (path : List ℕ)
    → option_map (λ file. file.1) (find (λ file. bytes_eq file.0 path) (map path_and_bytes pairs))
    ≡ option_map (λ pair. pair.1.items) (find (λ pair. bytes_eq (string_bytes pair.0) path) pairs)
find-map [] path = refl
find-map (pair ∷ pairs) path =
    elim (bytes_eq (string_bytes pair.0) path) as (λ found.
    option_map (λ file. file.1) (cond found (Some (path_and_bytes pair)) (find (λ file. bytes_eq file.0 path) (map path_and_bytes pairs)))
    ≡ option_map (λ p. p.1.items) (cond found (Some pair) (find (λ p. bytes_eq (string_bytes p.0) path) pairs)))
    [ true ↦ refl | false ↦ find-map pairs path ]

pub file_listed-map : {A B : Type 0} (pairs : List (String A × Vec ℕ B)) (path : List ℕ)
    → file_of pairs path ≡ file_listed (map path_and_bytes pairs) path
file_listed-map pairs path = sym (
    ap (λ files. option_map (λ file. file.1) (find (λ file. bytes_eq file.0 path) files)) (reverse-map path_and_bytes pairs)
    ∙ find-map (reverse pairs) path)
