use Rattle.std.proofs.Common.{refl, sym, ◌∙◌}
use Rattle.source_map.proofs.Ends.{headed}
use Rattle.source_map.proofs.line.map_text.Goals as goal

pub returns-in-Ok-clause-line : goal.returns-in-Ok-clause-line
returns-in-Ok-clause-line c =
    sym c.last_line_of.ensures ∙ headed c.last_line_of.result.now c.in-Some.base64.now c.in-Ok.text.items c.in-Some.ensures.cases.0 c.in-Some.ensures.cases.1 (c.in-Ok.ensures.exact (refl, refl))
