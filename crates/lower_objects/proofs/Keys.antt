-- Borrowed texts as keys.
use denote.Ref.{Bor}
use Rattle.std.proofs.Common.{◌≡◌, ℕ, Bool, true, false, cond, nat_eq, List, [], ◌∷◌, ◌++◌, map, refl, sym, ap, ◌∙◌, ◌||◌}
use Rattle.std.proofs.lemmas.List.{map-append}
use Rattle.std.specs.Cmp.Lexicographic.{pointwise}
use Rattle.std.specs.List.{list_any}
use Rattle.lowering_rules.specs.reference_rules.Objects.{has_text, with_text}

abbrev pub Key : Type 0
Key = Bor (List ℕ)

abbrev pub texts_of : List Key → List (List ℕ)
texts_of ks = map (λ k. k.now) ks

any_now : (p : List ℕ → Bool) (ks : List Key) → list_any p (texts_of ks) ≡ list_any (λ k. p k.now) ks
any_now p [] = refl
any_now p (k ∷ ks) = ap (λ b. p k.now || b) (any_now p ks)

kept : (b : Bool) (ks : List Key) (k : Key) → texts_of (cond b ks (ks ++ k ∷ [])) ≡ cond b (texts_of ks) (texts_of ks ++ k.now ∷ [])
kept true ks k = refl
kept false ks k = map-append (λ (x : Key). x.now) ks (k ∷ [])

-- whether a text is among the keys of a set
pub has_key : (ks : List Key) (k : Key) → list_any (λ x. pointwise nat_eq k.now x.now) ks ≡ has_text k.now (texts_of ks)
has_key ks k = sym (any_now (pointwise nat_eq k.now) ks)

-- the keys after it is inserted
pub texts_with : (ks : List Key) (k : Key) → texts_of (cond (list_any (λ x. pointwise nat_eq k.now x.now) ks) ks (ks ++ k ∷ [])) ≡ with_text (texts_of ks) k.now
texts_with ks k =
    kept (list_any (λ x. pointwise nat_eq k.now x.now) ks) ks k
    ∙ ap (λ b. cond b (texts_of ks) (texts_of ks ++ k.now ∷ [])) (has_key ks k)
