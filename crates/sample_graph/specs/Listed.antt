-- Files as a list of paths and bytes.
use Rattle.std.specs.Prelude.{ℕ, List, reverse, Option, option_map, String, Vec, string_bytes}
use Rattle.std.specs.List.{find}
use Rattle.std.specs.Str.{bytes_eq}

-- a path with its bytes, as plain lists
abbrev pub path_and_bytes : {A B : Type 0} → String A × Vec ℕ B → List ℕ × List ℕ
path_and_bytes pair = (string_bytes pair.0, pair.1.items)

-- the bytes that such a list gives a path: those of the last pair with it
abbrev pub file_listed : List (List ℕ × List ℕ) → List ℕ → Option (List ℕ)
file_listed files path = option_map (λ file. file.1) (find (λ file. bytes_eq file.0 path) (reverse files))
