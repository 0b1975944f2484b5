use Rattle.std.proofs.Common.{◌≡◌, ◌∷◌, ◌++◌, map, drop}
use Rattle.module_lowering.specs.Lowered.{template_part_lowered}
use Rattle.lower_walk.proofs.lower_items.templates.cooked_texts.Given as goal

abbrev pub invariant-loop-part : goal.invariant-loop-part
invariant-loop-part l =
    l.texts.items ++ map (λ p. p.after.cooked) (map template_part_lowered (drop l.part-index l.rest)) ≡ l.first ∷ map (λ p. p.after.cooked) (map template_part_lowered l.rest)
