use Rattle.std.proofs.Common.{◌∙◌, ap}
use Rattle.es5_printer.specs.Pieces.{grouped, whole, shown}
use Rattle.es5_printer.specs.Layout.{written}
use Rattle.es5_printer.proofs.print.+print.Goals as goal

pub print_value-returns : goal.print_value-returns
print_value-returns t c = λ rest. c.in_ok-print_grouped.ensures rest ∙ ap (λ b. written c.args.out.now (grouped b (whole (shown c.args.value.now)) rest)) (c.begins_call-group.ensures rest)

pub print_opened-returns : goal.print_opened-returns
print_opened-returns t c = λ rest. c.in_ok-print_grouped.ensures rest ∙ ap (λ b. written c.args.out.now (grouped b (whole (shown c.args.x.now)) rest)) (c.opens-group.ensures rest)
