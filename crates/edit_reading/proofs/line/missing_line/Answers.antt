use Rattle.std.proofs.Common.{◌≡◌, ◌++◌, codes, ap, ◌∙◌, append_assoc}
use Rattle.graph_refusals.specs.Quoted.{name_units, quoted}
use Rattle.edit_reading.specs.Lines.{line_at}
use Rattle.edit_reading.proofs.line.missing_line.Goals as goal

pub returns : goal.returns
returns c =
    let begun = line_at c.args.list.now c.args.line (codes "missing file ") in
    let name = c.in_ok-push_quoted.ensures ∙ ap (λ l. l ++ quoted c.units-2.result.now) c.in_ok-out.ensures ∙ ap (λ us. begun ++ quoted us) (c.units-2.ensures ∙ c.in_ok-units.ensures) in
    c.in_ok-extend_from_slice.ensures.items ∙ ap (λ l. l ++ codes "\n") name ∙ append_assoc begun (quoted (name_units c.args.from.now)) (codes "\n")
