-- Every reserved word is of small letters.
use Rattle.std.proofs.Common.{◌≡◌, ◌∙◌, Bool, true, false, refl, sym, ap, ℕ, List, [], ◌∷◌, inl, inr}
use Rattle.std.specs.List.{list_all}
use Rattle.std.specs.Str.{bytes_eq}
use Rattle.std.proofs.lemmas.Bool.{and_parts, cases_Bool, false≢true}
use Rattle.std.proofs.lemmas.Slice.Eq.{bytes_eq-Decides}
use Rattle.std.specs.Char.{is_ascii_lowercase}
use Rattle.es5_ast.specs.Lexical.{is_one_of, reserved_words}

abbrev is_small : List ℕ → Bool
is_small name = list_all is_ascii_lowercase name

-- what isn't of small letters is none of such words
is_none : (name : List ℕ) (words : List (List ℕ)) → is_small name ≡ false → list_all is_small words ≡ true → is_one_of name words ≡ false
is_none name [] apart small = refl
is_none name (w ∷ ws) apart small = elim (cases_Bool (bytes_eq name w)) [
  | inl t ↦ absurd (false≢true (sym apart ∙ ap is_small ((bytes_eq-Decides name w).0 t) ∙ (and_parts _ _ small).0))
  | inr f ↦ rw f (is_none name ws apart (and_parts _ _ small).1)
]

pub not_reserved : (name : List ℕ) → list_all is_ascii_lowercase name ≡ false → is_one_of name reserved_words ≡ false
unfolding reserved_words
not_reserved name apart = is_none name reserved_words apart refl
