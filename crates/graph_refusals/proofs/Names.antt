-- The units of a name, by whether its bytes are UTF-8.
use Rattle.std.proofs.Common.{◌≡◌, ℕ, List, true, false, cond, refl, ◌∙◌, sym, ap}
use Rattle.std.specs.List.{flat_map}
use Rattle.std.specs.Str.{IsUtf8, chars, is_utf8}
use Rattle.std.specs.Char.Escape.{encode_utf16}
use Rattle.std.proofs.lemmas.Str.{IsUtf8-from_is_utf8, is_utf8-from_IsUtf8}
use Rattle.graph_refusals.specs.Quoted.{name_units}

pub of_text : (name bytes text : List ℕ) → bytes ≡ name → text ≡ bytes → IsUtf8 bytes → flat_map encode_utf16 (chars text) ≡ name_units name
of_text name bytes text e f utf8 =
    let is_text : flat_map encode_utf16 (chars bytes) ≡ name_units bytes = rw (is_utf8-from_IsUtf8 bytes utf8) refl in
    ap (λ b. flat_map encode_utf16 (chars b)) f ∙ is_text ∙ ap name_units e

pub of_bytes : (name bytes again : List ℕ) → bytes ≡ name → again ≡ name → (IsUtf8 bytes → ⊥) → again ≡ name_units name
of_bytes name bytes again e f no_text =
    let is_bytes : name_units bytes ≡ bytes =
    elim (is_utf8 bytes) as (λ b. is_utf8 bytes ≡ b → cond b (flat_map encode_utf16 (chars bytes)) bytes ≡ bytes)
    [ true ↦ λ h. absurd (no_text (IsUtf8-from_is_utf8 bytes h)) | false ↦ λ h. refl ] refl in
    f ∙ sym e ∙ sym is_bytes ∙ ap name_units e
