use Rattle.std.proofs.Common.{sym, ◌∙◌}
use Rattle.es6_ast.specs.declared.tree.ArrayPart.{out-ArrayPart}
use Rattle.es6_ast.specs.declared.tree.ObjectPart.{out-ObjectPart}
use Rattle.es6_reading.specs.Refine.{array_part_binds, binds_names, object_part_binds}
use Rattle.es6_refine.proofs.Fitted.{binds_no_more}
use Rattle.es6_refine.proofs.binds.+binds.Goals as goal

pub array_parts_bind-returns-then-not-fits : goal.array_parts_bind-returns-then-not-fits
array_parts_bind-returns-then-not-fits t c =
    binds_no_more (λ e. array_part_binds (binds_names c.args.depth) (out-ArrayPart e)) c.args.parts.now c.loop-part.part-index c.part-item.result c.array_part_binds-fit.result (c.loop-part-test.true, c.part-item.is) c.array_part_binds-fit.ensures (sym c.fits.ensures ∙ c.if-not-fits.true)
    ∙ c.loop-part.invariant

pub object_parts_bind-returns-then-not-fits : goal.object_parts_bind-returns-then-not-fits
object_parts_bind-returns-then-not-fits t c =
    binds_no_more (λ e. object_part_binds (binds_names c.args.depth) (out-ObjectPart e)) c.args.parts.now c.loop-part.part-index c.part-item.result c.object_part_binds-fit.result (c.loop-part-test.true, c.part-item.is) c.object_part_binds-fit.ensures (sym c.fits.ensures ∙ c.if-not-fits.true)
    ∙ c.loop-part.invariant
