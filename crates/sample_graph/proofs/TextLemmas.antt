-- What one more module adds to the lists and texts of the sample graph.
use Rattle.std.proofs.Common.{◌≡◌, ℕ, ◌+◌, List, [], ◌∷◌, ◌++◌, refl, ap, ap₂, sym, ◌∙◌, append_assoc, append-nil, arith}
use Rattle.std.specs.Prelude.{map, codes}
use Rattle.std.specs.List.{flat_map}
use Rattle.std.proofs.lemmas.List.Concat.{flat_map-append}
use Rattle.std.proofs.lemmas.List.FromFn.{map-range_with_len_more}
use Rattle.sample_graph.specs.Sample.{numbers, text_of}

pub map-numbers_more : {X : Type 0} (f : ℕ → X) (n : ℕ) → map f (numbers (n + 1)) ≡ map f (numbers n) ++ f (n + 1) ∷ []
map-numbers_more f n = map-range_with_len_more f 1 n (n + 1) (omega arith)

flat_map-map : {X : Type 0} (f : ℕ → List X) (ns : List ℕ) → flat_map (λ xs. xs) (map f ns) ≡ flat_map f ns
flat_map-map f [] = refl
flat_map-map f (n ∷ ns) = ap (λ rest. f n ++ rest) (flat_map-map f ns)

flat_map-numbers_more : {X : Type 0} (f : ℕ → List X) (n : ℕ) → flat_map f (numbers (n + 1)) ≡ flat_map f (numbers n) ++ f (n + 1)
flat_map-numbers_more f n = sym (flat_map-map f (numbers (n + 1)))
    ∙ ap (λ all. flat_map (λ xs. xs) all) (map-numbers_more f n)
    ∙ flat_map-append (λ xs. xs) (map f (numbers n)) (f (n + 1) ∷ [])
    ∙ ap₂ (λ a b. a ++ b) (flat_map-map f (numbers n)) (append-nil (f (n + 1)))

text_of-append : (a b : List (List ℕ)) → text_of (a ++ b) ≡ text_of a ++ text_of b
text_of-append = flat_map-append (λ line. line ++ codes "\n")

-- a line for each module
pub text_of-map_more : (f : ℕ → List ℕ) (front : List ℕ) (n : ℕ)
    → front ++ text_of (map f (numbers (n + 1))) ≡ (front ++ text_of (map f (numbers n))) ++ text_of (f (n + 1) ∷ [])
text_of-map_more f front n = ap (λ lines. front ++ text_of lines) (map-numbers_more f n)
    ∙ ap (λ text. front ++ text) (text_of-append (map f (numbers n)) (f (n + 1) ∷ []))
    ∙ sym (append_assoc front (text_of (map f (numbers n))) (text_of (f (n + 1) ∷ [])))

-- several lines for each
pub text_of-flat_map_more : (f : ℕ → List (List ℕ)) (front : List ℕ) (n : ℕ)
    → front ++ text_of (flat_map f (numbers (n + 1))) ≡ (front ++ text_of (flat_map f (numbers n))) ++ text_of (f (n + 1))
text_of-flat_map_more f front n = ap (λ lines. front ++ text_of lines) (flat_map-numbers_more f n)
    ∙ ap (λ text. front ++ text) (text_of-append (flat_map f (numbers n)) (f (n + 1)))
    ∙ sym (append_assoc front (text_of (flat_map f (numbers n))) (text_of (f (n + 1))))
