-- A target whose steps are the source's, with states and events mapped, does what the source does.
use Rattle.std.proofs.Common.{◌≡◌, refl, sym, subst, arith}
use Rattle.runs.specs.Run.{Step, Goes, Asks, Ends, Leaves, run}
use Rattle.runs.specs.Same.{Same}
use Rattle.runs.specs.Simulation.{Rank, IsMatched, Simulates, IsMapped}
use Rattle.runs.proofs.Simulated.{simulated}

module _ {S T E F A O L M : Type 0} (step1 : S → Step S E A O L) (step2 : T → Step T F A O M) (f : S → T) (g : E → F) where
  -- the state of the target is the source's, mapped
  abbrev Image : S → T → Type 0
  Image s t = t ≡ f s

  abbrev Event : E → F → Type 0
  Event x y = g x ≡ y

  abbrev no_rank : Rank Image
  no_rank s t related = 0

  matched_image : (x : Step S E A O L) (t : T) → IsMapped f g x (step2 t) → IsMatched step2 Image Event no_rank 0 x t
  matched_image (Goes s) t is = (1, f s, (f s, is, refl), refl, λ z. absurd (omega arith))
  matched_image (Asks e follow) t (follow2, is, alike) = (0, t, g e, follow2, refl, is, refl, alike)
  matched_image (Ends o) t is = (0, t, refl, is)
  matched_image (Leaves x) t is = tt

  module _ (mapped : (s : S) → IsMapped f g (step1 s) (step2 (f s))) where
    image_simulates : Simulates step1 step2 Image Event no_rank
    image_simulates = record {
      matched = λ s t related. subst (λ u. IsMatched step2 Image Event no_rank 0 (step1 s) u) (sym related) (matched_image (step1 s) (f s) (mapped s));
    }

    pub mapped_run : (s : S) → Same Event (run step1 s) (run step2 (f s))
    mapped_run s = simulated step1 step2 Image Event no_rank image_simulates s (f s) refl
