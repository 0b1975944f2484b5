use Rattle.std.proofs.Common.{ap, ◌∙◌}
use Rattle.es5_printer.proofs.Whole.{written_as}
use Rattle.es5_printer.proofs.write5.Goals as goal

pub returns-clause-bytes : goal.returns-clause-bytes
returns-clause-bytes c = c.into_parts-parts.ensures.bytes ∙ ap (λ w. w.bytes) (written_as c.args.script.now.statements c.as_slice.result.now c.new-out.result c.print_stats.new.out c.as_slice.ensures c.new-out.ensures c.in_ok-print_stats.ensures)

pub returns-clause-marks : goal.returns-clause-marks
returns-clause-marks c = c.into_parts-parts.ensures.marks ∙ ap (λ w. w.marks) (written_as c.args.script.now.statements c.as_slice.result.now c.new-out.result c.print_stats.new.out c.as_slice.ensures c.new-out.ensures c.in_ok-print_stats.ensures)
