use Rattle.std.proofs.Common.{ap, sym, ◌∙◌}
use Rattle.std.proofs.lemmas.Iterator.{YieldsList-from_chars}
use Rattle.std.proofs.lemmas.Iterator.Consumers.{YieldsList-end}
use Rattle.std.proofs.lemmas.List.{map-id}
use Rattle.std.specs.Char.Escape.{encode_utf16}
use Rattle.std.specs.List.{flat_map}
use Rattle.shared_text.proofs.units.Units.of.Goals as goal

-- At the end of the loop every character was taken.
pub returns : goal.returns
returns c =
    let all = YieldsList-end (YieldsList-from_chars c.args.text.now c.utf8.text cc) c.loop-character.yielded _ c.loop-character.yielded_by
    _ _ c.in-None.is c.next.ensures.steps in
    c.of_units.ensures ∙ c.loop-character.invariant ∙ ap (λ cs. flat_map encode_utf16 cs) (sym (map-id c.loop-character.yielded) ∙ all.0)
