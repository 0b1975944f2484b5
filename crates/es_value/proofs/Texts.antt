-- Texts from their end.
use Rattle.std.proofs.Common.{◌≡◌, ◌++◌, ◌∷◌, [], ℕ, List, reverse, cond, Bool, true, false, refl, sym, ap, ◌∙◌, if◌then◌else◌}
use Rattle.std.proofs.lemmas.List.{reverse-append, reverse-reverse}
use Rattle.es_value.specs.Convert.{skip_white, skip_white_back, is_white}

-- whether a text's last unit stays decides over the whole text
pub skip_white_back-push : (us : List ℕ) (u : ℕ) → skip_white_back (us ++ u ∷ []) ≡ (if is_white u then skip_white_back us else us ++ u ∷ [])
skip_white_back-push us u = ap (λ r. reverse (skip_white r)) (reverse-append us (u ∷ [])) ∙ by (is_white u)
  where
    by : (b : Bool) → reverse (cond b (skip_white (reverse us)) (u ∷ reverse us)) ≡ cond b (skip_white_back us) (us ++ u ∷ [])
    by true = refl
    by false = ap reverse (sym (reverse-append us (u ∷ []))) ∙ reverse-reverse (us ++ u ∷ [])
