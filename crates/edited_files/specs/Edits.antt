-- Edits of files by path.
use Rattle.std.specs.Prelude.{ℕ, List, Option, Some, String, Vec, cond, option_map, unwrap_or}
use Rattle.std.specs.BTreeMap.{BTreeMap, get_by_text}
use Rattle.std.specs.Str.{bytes_eq}

-- the edit of a path, if there is one: the bytes that were put there, or none where it was dropped
abbrev pub edit_at : {A B : Type 0} → BTreeMap (String A) (Option (Vec ℕ B)) → List ℕ → Option (Option (List ℕ))
edit_at edits path = option_map (λ content. option_map (λ bytes. bytes.items) content) (get_by_text edits path)

-- edits by path after one more
abbrev pub with_edit : List ℕ → Option (List ℕ) → (List ℕ → Option (Option (List ℕ))) → List ℕ → Option (Option (List ℕ))
with_edit path content edits other = cond (bytes_eq path other) (Some content) (edits other)

-- what stands at a path of these files once they are edited
abbrev pub edited : (List ℕ → Option (Option (List ℕ))) → (List ℕ → Option (List ℕ)) → List ℕ → Option (List ℕ)
edited edits files path = unwrap_or (edits path) (files path)
