-- What a text is, by whether it is UTF-8 and what JSON it is.
use Rattle.std.proofs.Common.{◌≡◌, ℕ, List, Bool, true, false, cond, Option, Some, None, Err, refl, ap, ◌∙◌}
use Rattle.std.specs.Str.{IsUtf8, is_utf8}
use Rattle.std.proofs.lemmas.Str.{is_utf8-from_IsUtf8, IsUtf8-from_is_utf8}
use Rattle.serde_json.specs.Data.{Data}
use Rattle.serde_json.specs.Read.{read}
use Rattle.source_map.specs.declared.fault.MapFault.TheVariants.{BadJson}
use Rattle.source_map.specs.Outcome.{◌>>=◌}
use Rattle.source_map.specs.Document.{map_of, map_of_data, or_bad_json}

pub map_of-read : (text : List ℕ) (d : Data) → IsUtf8 text → read text ≡ Some d → map_of text ≡ map_of_data d
unfolding map_of
map_of-read text d utf8 e =
    ap (λ b. or_bad_json (cond b (read text) None) >>= map_of_data) (is_utf8-from_IsUtf8 text utf8) ∙ ap (λ o. or_bad_json o >>= map_of_data) e

refused : (b : Bool) (o : Option Data) → (b ≡ true → o ≡ None) → (or_bad_json (cond b o None) >>= map_of_data) ≡ Err BadJson
refused true o h = ap (λ x. or_bad_json x >>= map_of_data) (h refl)
refused false o h = refl

pub map_of-refused : (text : List ℕ) → (IsUtf8 text → read text ≡ None) → map_of text ≡ Err BadJson
unfolding map_of
map_of-refused text h = refused (is_utf8 text) (read text) (λ e. h (IsUtf8-from_is_utf8 text e))
