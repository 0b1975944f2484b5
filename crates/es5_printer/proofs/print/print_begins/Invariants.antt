use Rattle.std.proofs.Common.{◌≡◌, List, drop, map}
use Rattle.es5_printer.specs.Pieces.{Piece, begins_of, link_shown}
use Rattle.es5_printer.specs.Layout.{written}
use Rattle.es5_printer.proofs.print.print_begins.Given as goal

abbrev pub invariant-loop-link : goal.invariant-loop-link
invariant-loop-link l = (rest : List Piece) → written l.out (begins_of (map link_shown (drop l.link-index l.links)) rest) ≡ written l.initial.out (begins_of (map link_shown l.links) rest)
