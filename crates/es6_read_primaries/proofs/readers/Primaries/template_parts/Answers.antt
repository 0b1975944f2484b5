use Rattle.std.proofs.Common.{◌∙◌, sym, ap, arith}
use Rattle.std.proofs.lemmas.Result.{err_from_is_err_and}
use Rattle.es6_reading.specs.Parser.{Took}
use Rattle.es6_reading.specs.Parts.{template_parts}
use Rattle.es6_cursor.specs.Readers.{inner}
use Rattle.es6_cursor.specs.Reads.{Halts}
use Rattle.es6_cursor.proofs.Loops.{turns_is}
use Rattle.es6_read_primaries.proofs.TemplateLists.{template_last, template_stretch_halts, template_value_halts}
use Rattle.es6_read_primaries.proofs.readers.Primaries.template_parts.Goals as goal

pub returns-in_err-value : goal.returns-in_err-value
returns-in_err-value g c =
    let fault : Halts (template_parts (inner c.args.self.now.here.room) c.args.self.now.here.flags (inner c.args.self.now.here.room).fuel c.args.cursor.now) c.in_err-value.field-0.0 c.sequence_within.new.cursor.tokens = rw c.loop-turn.invariant (template_value_halts _ _ _ _ _ c.in_err-value.field-0.0 _ (omega (arith, turns_is)) (rw c.in_err-value.was at c.sequence_within.ensures)) in
    let p = err_from_is_err_and c.from_residual.result c.from_residual.ensures.1 in
    rw (p.1, p.2) fault

pub returns-in-Some : goal.returns-in-Some
returns-in-Some g c =
    c.loop-turn.invariant
    ∙ template_last _ _ _ _ _ _ _ (g.G.MakesReadings.seen c.in_ok-value.value) c.in-Some.after (omega (arith, turns_is)) (rw c.in_ok-value.was at c.sequence_within.ensures) (rw c.in-Some.is at c.in_ok-after.ensures)
    ∙ ap (λ xs. Took xs c.take_stretch.new.self) (sym c.in_ok-push_template_part.ensures)

pub returns-in_err-after-2 : goal.returns-in_err-after-2
returns-in_err-after-2 g c =
    let fault : Halts (template_parts (inner c.args.self.now.here.room) c.args.self.now.here.flags (inner c.args.self.now.here.room).fuel c.args.cursor.now) c.in_err-after-2.field-0.0 c.expect_stretch.new.self.tokens = rw c.loop-turn.invariant (template_stretch_halts _ _ _ _ _ _ _ (g.G.MakesReadings.seen c.in_ok-value.value) c.in_err-after-2.field-0.0 _ (omega (arith, turns_is)) (rw c.in_ok-value.was at c.sequence_within.ensures) (rw c.in_default.is at c.in_ok-after.ensures) (rw c.in_err-after-2.was at c.expect_stretch.ensures)) in
    let p = err_from_is_err_and c.from_residual-in_err-after-2.result c.from_residual-in_err-after-2.ensures.1 in
    rw (p.1, p.2) fault
