-- What is read at the front of a text ends within it.
use Rattle.std.proofs.Common.{◌≡◌, ℕ, zero, suc, ◌<◌, Bool, true, false, List, [], ◌∷◌, length, get_or, refl, sym, ap, ◌∙◌, arith}
use Rattle.std.specs.Prelude.{slice_index}
use Rattle.std.specs.List.{list_all}
use Rattle.std.proofs.lemmas.Bool.{and_parts}
use Rattle.std.proofs.lemmas.Bool.Decides.{nat_tests}
use Rattle.es5_ast.specs.Lexical.{is_identifier_part}

-- a character that is not U+0000 is there
pub is_there : (cs : List ℕ) (i : ℕ) → (slice_index cs i ≡ 0 → ⊥) → i < length cs
is_there [] i h = absurd (h refl)
is_there (c ∷ cs) zero h = omega arith
is_there (c ∷ cs) (suc i) h = let ih = is_there cs i h in omega arith

pub is_there_by : (test : ℕ → Bool) (cs : List ℕ) (i : ℕ) → test 0 ≡ false → test (slice_index cs i) ≡ true → i < length cs
is_there_by test cs i fails passes = is_there cs i (λ z. let bad : test 0 ≡ true = ap test (sym z) ∙ passes in cc)

-- a part of an identifier is an ASCII character
pub part_is_small : (c : ℕ) → is_identifier_part c ≡ true → c < 128
part_is_small c h = grind (arith, nat_tests)

pub parts_are_small : (cs : List ℕ) (i : ℕ) → list_all is_identifier_part cs ≡ true → i < length cs → get_or cs i 0 < 128
parts_are_small [] i h l = absurd (omega arith)
parts_are_small (c ∷ cs) zero h l = part_is_small c (and_parts (is_identifier_part c) _ h).0
parts_are_small (c ∷ cs) (suc i) h l = parts_are_small cs i (and_parts (is_identifier_part c) _ h).1 (omega arith)
