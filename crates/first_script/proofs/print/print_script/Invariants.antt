use Rattle.std.proofs.Common.{◌≡◌, ◌++◌, List, drop}
use Rattle.first_script.specs.Pieces.{Piece, text_of, items_pieces}
use Rattle.first_script.proofs.print.print_script.Given as goal

abbrev pub invariant-loop-item : goal.invariant-loop-item
invariant-loop-item l = (rest : List Piece) → l.out.items ++ text_of (items_pieces l.suffix (drop l.item-index l.item-items) rest) ≡ l.initial.out.items ++ text_of (items_pieces l.suffix l.item-items rest)
