-- Segments between slashes, and the last one of those that are kept.
use Rattle.std.proofs.Common.{◌≡◌, ℕ, Bool, true, List, [], ◌∷◌, ◌++◌, length, slice_get, Some, drop, take, ◌-◌, map, reverse, codes, refl, ap, sym, ◌∙◌, append_assoc}
use Rattle.std.specs.List.{flat_map, join_with_byte}
use Rattle.std.specs.Str.{bytes_eq}
use Rattle.std.proofs.lemmas.List.{append-nil, length-drop, map-append, reverse-append}
use Rattle.std.proofs.Math.Seq.{take-length}
use Rattle.module_paths.specs.Paths.{above}

joined-first : {A : Type 0} (text : A → List ℕ) (x : A) (xs : List A)
    → join_with_byte 47 (map text (x ∷ xs)) ≡ text x ++ flat_map (λ s. 47 ∷ text s) xs
joined-first text x [] = sym (append-nil (text x))
joined-first text x (y ∷ ys) = ap (λ rest. text x ++ (47 ∷ rest)) (joined-first text y ys)

-- the first one, and each other one behind its slash
joined_split : {A : Type 0} (text : A → List ℕ) (xs : List A) (x : A) → slice_get xs 0 ≡ Some x
    → join_with_byte 47 (map text xs) ≡ text x ++ flat_map (λ s. 47 ∷ text s) (drop 1 xs)
joined_split text [] x e = absurd (cc)
joined_split text (y ∷ xs) x e = let same : y ≡ x = cc in rw (← same) (joined-first text y xs)

rest-all : {A : Type 0} (xs : List A) → take (length xs - 1) (drop 1 xs) ≡ drop 1 xs
rest-all xs = ap (λ n. take n (drop 1 xs)) (sym (length-drop 1 xs)) ∙ take-length (drop 1 xs)

-- the first one is added, and then the others
pub joined-all : {A : Type 0} (text : A → List ℕ) (xs : List A) (x : A) (old mid new : List ℕ) → slice_get xs 0 ≡ Some x
    → mid ≡ old ++ text x → new ≡ mid ++ flat_map (λ s. 47 ∷ text s) (take (length xs - 1) (drop 1 xs)) → new ≡ old ++ join_with_byte 47 (map text xs)
joined-all text xs x old mid new e is_mid is_new =
    let whole : new ≡ mid ++ flat_map (λ s. 47 ∷ text s) (drop 1 xs) = is_new ∙ ap (λ ys. mid ++ flat_map (λ s. 47 ∷ text s) ys) (rest-all xs) in
    rw (whole, is_mid, joined_split text xs x e, append_assoc) refl

reversed : {A : Type 0} (text : A → List ℕ) (front : List A) (last : A) → reverse (map text (front ++ last ∷ [])) ≡ text last ∷ reverse (map text front)
reversed text front last = rw (map-append, reverse-append) refl

-- a last segment `..` stays, and another one stands behind it
pub above-last : {A : Type 0} (text : A → List ℕ) (absolute : Bool) (old front kept new : List A) (last up : A)
    → old ≡ front ++ last ∷ [] → kept ≡ front ++ last ∷ [] → new ≡ kept ++ up ∷ [] → bytes_eq (text last) (codes "..") ≡ true → text up ≡ codes ".."
    → reverse (map text new) ≡ above absolute (reverse (map text old))
above-last text absolute old front kept new last up is_old is_kept is_new is_up named =
    rw (is_new, is_kept, is_old, reversed text (front ++ last ∷ []) up, reversed text front last, is_up, named) refl
