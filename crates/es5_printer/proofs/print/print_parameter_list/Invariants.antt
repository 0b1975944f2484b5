use Rattle.std.proofs.Common.{◌≡◌, List, drop, false}
use Rattle.es5_printer.specs.Pieces.{Piece, parameters_of}
use Rattle.es5_printer.specs.Layout.{written}
use Rattle.es5_printer.proofs.print.print_parameter_list.Given as goal

abbrev pub invariant-loop-parameter : goal.invariant-loop-parameter
invariant-loop-parameter l = (rest : List Piece) → written l.out (parameters_of l.again (drop l.parameter-index l.parameters) rest) ≡ written l.initial.out (parameters_of false l.parameters rest)
