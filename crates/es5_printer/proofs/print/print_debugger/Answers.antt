use Rattle.std.proofs.Common.{◌∙◌}
use Rattle.es5_printer.specs.Pieces.{end_of}
use Rattle.es5_printer.proofs.print.print_debugger.Goals as goal

pub returns : goal.returns
returns c = λ rest. c.in_ok-print_end.ensures rest ∙ c.in_ok-word.ensures (end_of rest)
