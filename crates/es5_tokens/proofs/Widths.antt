-- The bytes of a text's characters are as many as its own.
use Rattle.std.proofs.Common.{◌≡◌, ℕ, List, [], ◌∷◌, length, refl, ap, ◌∙◌, arith, length-append}
use Rattle.std.specs.Char.{len_utf8}
use Rattle.std.specs.Str.{chars, IsUtf8, encode_utf8_all}
use Rattle.std.proofs.lemmas.Str.{encodes-chars, length-encode}
use Rattle.std.proofs.lemmas.List.Sums.{sum_by-cons}
use Rattle.es5_ast.specs.Lexical.{width}

width_encoded : (cs : List ℕ) → width cs ≡ length (encode_utf8_all cs)
width_encoded [] = refl
width_encoded (c ∷ cs) =
    let rest = width_encoded cs in
    let one = sum_by-cons len_utf8 c cs in
    simp (length-append, length-encode) (omega arith)

pub width_chars : (bytes : List ℕ) → IsUtf8 bytes → width (chars bytes) ≡ length bytes
width_chars bytes h = width_encoded (chars bytes) ∙ ap length (encodes-chars bytes h)
