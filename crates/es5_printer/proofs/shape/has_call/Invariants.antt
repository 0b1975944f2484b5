use Rattle.std.proofs.Common.{◌≡◌, ◌||◌, drop, map}
use Rattle.es5_printer.specs.Pieces.{has_call, link_shown}
use Rattle.es5_printer.proofs.shape.has_call.Given as goal

abbrev pub invariant-loop-link : goal.invariant-loop-link
invariant-loop-link l = (l.found || has_call (map link_shown (drop l.link-index l.links))) ≡ has_call (map link_shown l.links)
