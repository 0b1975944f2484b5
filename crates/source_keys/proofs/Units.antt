-- How large the value of a character's bytes gets, and the units of a whole name.
use Rattle.std.proofs.Common.{◌≡◌, ℕ, zero, suc, ◌+◌, ◌*◌, ◌<◌, List, [], ◌∷◌, length, refl, ap, ◌∙◌, subst, arith}
use Rattle.std.specs.Char.Escape.{encode_utf16}
use Rattle.std.specs.List.{flat_map}
use Rattle.std.specs.Str.{chars, chars_after, continuation_len, lead_bits}
use Rattle.source_meaning.specs.Trees.{name_units}
use Rattle.source_keys.specs.Texts.{led_by, limit, units_after}

pub limit_whole : (n c : ℕ) → c < limit n → c < 4460608
limit_whole zero c h = h
limit_whole (suc zero) c h = omega arith
limit_whole (suc (suc zero)) c h = omega arith
limit_whole (suc (suc (suc zero))) c h = omega arith
limit_whole (suc (suc (suc (suc n)))) c h = omega arith

next_within : (m c d : ℕ) → c < limit (suc m) → d < 128 → c * 64 + d < limit m
next_within zero c d h b = omega arith
next_within (suc zero) c d h b = omega arith
next_within (suc (suc zero)) c d h b = omega arith
next_within (suc (suc (suc m))) c d h b = absurd (omega arith)

pub limit_next : (n m c d : ℕ) → n ≡ suc m → c < limit n → d < 128 → c * 64 + d < limit m
limit_next n m c d e h b = next_within m c d (let P : ℕ → Type 0 = λ k. c < limit k in subst P e h) b

chars_led : (first : ℕ) (rest : List ℕ) → chars (first ∷ rest) ≡ chars_after (continuation_len first) (lead_bits first) rest
unfolding chars
chars_led first rest = refl

chars_none : chars [] ≡ []
unfolding chars
chars_none = refl

pub units_led : (name : List ℕ) (first : ℕ) (rest : List ℕ) → name ≡ first ∷ rest → name_units name ≡ units_after (led_by first) rest
units_led name first rest e = ap name_units e ∙ ap (λ (cs : List ℕ). flat_map encode_utf16 cs) (chars_led first rest)

pub units_none : (name : List ℕ) → length name ≡ 0 → name_units name ≡ []
units_none [] e = ap (λ (cs : List ℕ). flat_map encode_utf16 cs) chars_none
units_none (x ∷ xs) e = absurd (omega arith)
