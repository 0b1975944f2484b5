-- The nearest place along a stack, from its bottom up.
use Rattle.std.proofs.Common.{◌≡◌, ℕ, ◌<◌, List, [], ◌∷◌, ◌++◌, length, get_or, take, reverse, refl, sym, ◌∙◌, ap, subst, suc}
use Rattle.std.proofs.lemmas.List.{reverse-append}
use Rattle.std.proofs.Math.Seq.{take-suc}
use Rattle.es_outside.specs.declared.events.Site.{Site}
use Rattle.core_meaning.specs.Rows.{nearest, or_else, site_in}
use Rattle.core_meaning.specs.State.{Frame}

-- one frame more from the bottom
pub nearest_take : {M W : Type 0} (fs : List (Frame M W)) (n c : ℕ) (f : Frame M W) (site : Site) → n < length fs → f ≡ get_or fs n f → suc n ≡ c → nearest (reverse (take c fs)) site ≡ or_else (site_in f) (nearest (reverse (take n fs)) site)
nearest_take fs n c f site h is e =
    let P : ℕ → Type 0 = λ k. nearest (reverse (take k fs)) site ≡ or_else (site_in f) (nearest (reverse (take n fs)) site) in
    subst P e (rw (take-suc fs n f h, reverse-append, ← is) refl)
