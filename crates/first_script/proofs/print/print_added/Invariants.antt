use Rattle.std.proofs.Common.{◌≡◌, ◌++◌, List, drop}
use Rattle.first_script.specs.Pieces.{Piece, text_of, added_pieces}
use Rattle.first_script.proofs.print.print_added.Given as goal

abbrev pub invariant-loop-term : goal.invariant-loop-term
invariant-loop-term l = (rest : List Piece) → l.out.items ++ text_of (added_pieces l.suffix (drop l.term-index l.terms) rest) ≡ l.initial.out.items ++ text_of (added_pieces l.suffix l.terms rest)
