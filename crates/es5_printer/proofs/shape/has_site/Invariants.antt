use Rattle.std.proofs.Common.{◌≡◌, ◌||◌, List, drop, map}
use Rattle.es5_printer.specs.Pieces.{Piece, begins_call, begins_of, link_shown}
use Rattle.es5_printer.proofs.shape.has_site.Given as goal

abbrev pub invariant-loop-link : goal.invariant-loop-link
invariant-loop-link l = (rest : List Piece) → begins_call (begins_of (map link_shown l.links) rest) ≡ (l.found || begins_call (begins_of (map link_shown (drop l.link-index l.links)) rest))
