use Rattle.std.proofs.Common.{◌≡◌, ◌++◌, List, drop}
use Rattle.first_script.specs.Pieces.{Piece, text_of, more_pieces}
use Rattle.first_script.proofs.print.print_more_arguments.Given as goal

abbrev pub invariant-loop-sum : goal.invariant-loop-sum
invariant-loop-sum l = (rest : List Piece) → l.out.items ++ text_of (more_pieces l.suffix (drop l.sum-index l.args) rest) ≡ l.initial.out.items ++ text_of (more_pieces l.suffix l.args rest)
