-- Which of a list are marked, from its start.
use Rattle.std.proofs.Common.{◌≡◌, Bool, true, false, List, [], ◌∷◌, length, refl, ap, ◌∙◌, arith}
use Rattle.module_lowering.specs.Nodes.{Hoisted}
use Rattle.lower_walk.specs.lower_names.Counting.{kept}

pub kept_end : (marks : List Bool) (hs : List Hoisted) → length marks ≡ 0 → kept marks hs ≡ []
kept_end [] hs e = refl
kept_end (m ∷ marks) hs e = absurd (omega (arith, e))

pub kept_none : (marks : List Bool) → kept {A = Hoisted} marks [] ≡ []
kept_none [] = refl
kept_none (true ∷ marks) = refl
kept_none (false ∷ marks) = refl

pub kept_marked : (marks rest : List Bool) (m : Bool) (h : Hoisted) (hs : List Hoisted) → marks ≡ m ∷ rest → m ≡ true → kept marks (h ∷ hs) ≡ h ∷ kept rest hs
kept_marked marks rest m h hs e t = ap (λ (bs : List Bool). kept bs (h ∷ hs)) (e ∙ ap (λ (b : Bool). b ∷ rest) t)

pub kept_unmarked : (marks rest : List Bool) (m : Bool) (h : Hoisted) (hs : List Hoisted) → marks ≡ m ∷ rest → m ≡ false → kept marks (h ∷ hs) ≡ kept rest hs
kept_unmarked marks rest m h hs e t = ap (λ (bs : List Bool). kept bs (h ∷ hs)) (e ∙ ap (λ (b : Bool). b ∷ rest) t)
