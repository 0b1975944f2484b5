-- What holds of two lists place by place, where both grow.
use Rattle.std.proofs.Common.{◌≡◌, ℕ, ◌+◌, ◌<◌, List, [], ◌∷◌, ◌++◌, length, take, get_or, sym, ap, ◌∙◌, subst}
use Rattle.std.proofs.lemmas.List.{take_more}
use Rattle.std.specs.List.{AllZip}

zip_push : {A B : Type 0} (R : A → B → Type 0) (xs : List A) (ys : List B) (x : A) (y : B) → AllZip R xs ys → R x y → AllZip R (xs ++ x ∷ []) (ys ++ y ∷ [])
zip_push R [] [] x y h r = (r, tt)
zip_push R [] (b ∷ ys) x y h r = absurd h
zip_push R (a ∷ xs) [] x y h r = absurd h
zip_push R (a ∷ xs) (b ∷ ys) x y h r = (h.0, zip_push R xs ys x y h.1 r)

pub zip_more : {A B : Type 0} (R : A → B → Type 0) (xs : List A) (ys zs : List B) (i : ℕ) (x : A) (y : B) → i < length xs → x ≡ get_or xs i x
    → AllZip R (take i xs) ys → R x y → zs ≡ ys ++ y ∷ [] → AllZip R (take (i + 1) xs) zs
zip_more {A} {B} R xs ys zs i x y within there before is pushed =
    let F : List A → Type 0 = λ l. AllZip R l (ys ++ y ∷ []) in
    let T : List B → Type 0 = λ l. AllZip R (take (i + 1) xs) l in
    subst T (sym pushed) (subst F (ap (λ z. take i xs ++ z ∷ []) there ∙ sym (take_more xs i x within)) (zip_push R (take i xs) ys x y before is))
