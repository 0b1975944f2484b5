use Rattle.graph_namespaces.proofs.Booking.{BookTo}
use Rattle.graph_namespaces.proofs.entries.entries_of.Given as goal

abbrev pub invariant-loop-at : goal.invariant-loop-at
invariant-loop-at l = BookTo l.names l.outcomes l.at l.book.entries
