use Rattle.std.proofs.Common.{refl}
use Rattle.es_text.specs.Places.{IsBoundary}
use Rattle.run_parts.proofs.Placed.{of_none, of_place}
use Rattle.run_parts.proofs.placing.place_in.Goals as goal

pub returns-in-Some : goal.returns-in-Some
returns-in-Some c = of_place _ _ _ ((c.in-Some.ensures.place c.in-Some.place).0 refl)

pub returns-in-None : goal.returns-in-None
returns-in-None c = of_none _ _ (λ (b : IsBoundary c.args.lines.now c.args.offset). absurd (cc (c.in-None.ensures.boundary.1 b)))
