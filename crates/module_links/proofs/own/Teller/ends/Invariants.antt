use Rattle.std.proofs.Common.{◌≡◌, map, take}
use Rattle.module_endings.specs.declared.answers.Outcome.TheVariants.{Ends as EndsAt}
use Rattle.module_links.proofs.own.Teller.ends.Given as goal

abbrev pub invariant-loop-at : goal.invariant-loop-at
invariant-loop-at l = take l.at l.outcomes ≡ map EndsAt l.ends
