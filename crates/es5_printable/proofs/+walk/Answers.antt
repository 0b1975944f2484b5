use Rattle.std.proofs.Common.{◌∙◌, map, ap, sym}
use Rattle.std.specs.List.{list_all}
use Rattle.std.specs.Option.{option_map}
use Rattle.es5_printable.specs.Parts.{are_closed}
use Rattle.es5_printable.specs.Printable.{condition_fit, stat_fit}
use Rattle.es5_printable.proofs.Split.{if_parts, if_shown}
use Rattle.es5_printable.proofs.+walk.Goals as goal

pub statement_forms::statement_fits-returns-in-If : goal.statement_forms::statement_fits-returns-in-If
statement_forms::statement_fits-returns-in-If t c =
    let inside = c.args.inside in
    let first = condition_fit c.in-If.first in
    let parts = if_parts inside first (map condition_fit c.in-If.more) (option_map stat_fit c.in-If.otherwise) _ _ _ _ _
    c.has_else.ensures
    (c.are_closed.ensures ∙ ap (λ l. are_closed first (map condition_fit l) c.has_else.result) c.as_slice-in-If.ensures)
    c.condition_fits.ensures
    (c.conditions_fit.ensures ∙ ap (λ l. list_all (λ k. k.fits inside) (map condition_fit l)) c.as_slice-in-If-2.ensures)
    c.else_fits.ensures in
    parts ∙ sym (if_shown c.in-If.span c.in-If.first c.in-If.more c.in-If.otherwise inside c.args.top) ∙ sym (ap (λ s. (stat_fit s).fits inside c.args.top) c.in-If.is)
