use Rattle.std.proofs.Common.{◌≡◌, ◌≤◌, length, reverse, take}
use Rattle.core_meaning.specs.Rows.{nearest}
use Rattle.core_moves.proofs.places.nearest.Given as goal

abbrev pub invariant-below : goal.invariant-below
invariant-below g l = record {
  within : l.count ≤ length l.frames;
  same : nearest (reverse (take l.count l.frames)) l.site ≡ nearest (reverse l.frames) l.site;
}

abbrev pub decreases-below : goal.decreases-below
decreases-below g l = l.count
