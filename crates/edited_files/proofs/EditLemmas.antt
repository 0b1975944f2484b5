-- What one more edit does to the edits of the other paths.
use Rattle.std.proofs.Common.{◌≡◌, ℕ, Bool, true, false, List, Option, Some, refl, ap, ◌∙◌, cond, nat_cmp}
use Rattle.std.proofs.lemmas.Map.Text.{btree_map_updates_text}
use Rattle.std.specs.BTreeMap.{BTreeMap, UpdatesBy, get_by_text}
use Rattle.std.specs.Cmp.Lexicographic.{slice_cmp}
use Rattle.std.specs.Prelude.{String, Vec, string_bytes, option_map}
use Rattle.std.specs.String.{string_cmp}
use Rattle.std.specs.Str.{bytes_eq}
use Rattle.edited_files.specs.Edits.{edit_at, with_edit}

option_map-cond : {A B : Type 0} (f : A → B) (test : Bool) (x y : Option A) → option_map f (cond test x y) ≡ cond test (option_map f x) (option_map f y)
option_map-cond f true x y = refl
option_map-cond f false x y = refl

pub edit_at-put : {A B : Type 0} (path : String A) (content : Option (Vec ℕ B)) (m n : BTreeMap (String A) (Option (Vec ℕ B)))
    → UpdatesBy string_cmp (λ key. slice_cmp nat_cmp (string_bytes path) (string_bytes key)) m n (Some content)
    → (other : List ℕ) → edit_at n other ≡ with_edit (string_bytes path) (option_map (λ bytes. bytes.items) content) (edit_at m) other
edit_at-put {A} {B} path content m n updates other =
    let seen : Option (Vec ℕ B) → Option (List ℕ) = λ it. option_map (λ bytes. bytes.items) it in
    ap (λ found. option_map seen found) (btree_map_updates_text (string_bytes path) m n (Some content) updates other)
    ∙ option_map-cond seen (bytes_eq (string_bytes path) other) (Some content) (get_by_text m other)
