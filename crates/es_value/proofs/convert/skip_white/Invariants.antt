use Rattle.std.proofs.Common.{◌≡◌, length}
use Rattle.es_value.specs.Convert.{skip_white}
use Rattle.es_value.proofs.convert.skip_white.Given as goal

abbrev pub invariant-loop-first : goal.invariant-loop-first
invariant-loop-first l = skip_white l.units ≡ skip_white l.rest

abbrev pub decreases-loop-first : goal.decreases-loop-first
decreases-loop-first l = length l.rest
