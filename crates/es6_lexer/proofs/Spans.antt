-- The bytes of the first characters of a text, and of those behind them.
use Rattle.std.proofs.Common.{◌≡◌, ℕ, ◌+◌, ◌≤◌, List, ◌++◌, length, take, drop, refl, sym, ap, ◌∙◌, arith, length-append}
use Rattle.std.proofs.lemmas.List.{take-append-drop, take_at, drop_at}
use Rattle.std.proofs.lemmas.Str.{encodes-append}
use Rattle.std.specs.Str.{encode_utf8_all}

pub parts : (cs : List ℕ) (n : ℕ) → encode_utf8_all cs ≡ encode_utf8_all (take n cs) ++ encode_utf8_all (drop n cs)
parts cs n = ap encode_utf8_all (sym (take-append-drop n cs)) ∙ encodes-append (take n cs) (drop n cs)

pub sizes : (cs : List ℕ) (n : ℕ) → length (encode_utf8_all cs) ≡ length (encode_utf8_all (take n cs)) + length (encode_utf8_all (drop n cs))
sizes cs n = ap length (parts cs n) ∙ length-append (encode_utf8_all (take n cs)) (encode_utf8_all (drop n cs))

pub front_bytes : (bytes cs : List ℕ) (n : ℕ) → bytes ≡ encode_utf8_all cs → take (length (encode_utf8_all (take n cs))) bytes ≡ encode_utf8_all (take n cs)
front_bytes bytes cs n e = ap (take (length (encode_utf8_all (take n cs)))) (e ∙ parts cs n) ∙ take_at (encode_utf8_all (take n cs)) (encode_utf8_all (drop n cs)) _ refl

pub after_bytes : (bytes cs : List ℕ) (n : ℕ) → bytes ≡ encode_utf8_all cs → drop (length (encode_utf8_all (take n cs))) bytes ≡ encode_utf8_all (drop n cs)
after_bytes bytes cs n e = ap (drop (length (encode_utf8_all (take n cs)))) (e ∙ parts cs n) ∙ drop_at (encode_utf8_all (take n cs)) (encode_utf8_all (drop n cs)) _ refl
