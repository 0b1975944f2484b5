use Rattle.std.proofs.Common.{◌∙◌, sym, ap}
use Rattle.std.proofs.lemmas.Result.{err_from_is_err_and}
use Rattle.es6_reading.specs.Parser.{Took}
use Rattle.es6_cursor.specs.Readers.{inner}
use Rattle.es6_cursor.specs.Reads.{Halts}
use Rattle.es6_read_primaries.specs.Composed.{held_or_template}
use Rattle.es6_read_primaries.proofs.Composed.{some_template, template_halts}
use Rattle.es6_read_primaries.proofs.readers.Primaries.held_or_template.Goals as goal

pub returns-in_err-template : goal.returns-in_err-template
returns-in_err-template g c =
    let i = inner c.args.self.now.here.room in
    let f = c.args.self.now.here.flags in
    let role = c.args.role in
    let fault : Halts (held_or_template i f role c.args.begin c.args.cursor.now) c.in_err-template.field-0.0 c.template.new.cursor.tokens = template_halts i f role c.args.begin c.args.cursor.now c.in_err-template.field-0.0 c.template.new.cursor.tokens (rw c.in_err-template.was at c.template.ensures) in
    let p = err_from_is_err_and c.from_residual.result c.from_residual.ensures.1 in
    rw (p.1, p.2) fault

pub returns-in-Some : goal.returns-in-Some
returns-in-Some g c =
    some_template (inner c.args.self.now.here.room) c.args.self.now.here.flags c.args.role c.args.begin c.args.cursor.now c.template.new.cursor (g.G.MakesTemplates.seen_template c.in-Some.template) (rw c.in-Some.is at c.in_ok-template.ensures)
    ∙ ap (λ x. Took x c.template.new.cursor) (sym c.template_expression.ensures)
