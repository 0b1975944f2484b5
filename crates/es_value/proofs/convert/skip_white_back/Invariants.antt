use Rattle.std.proofs.Common.{◌≡◌, length}
use Rattle.es_value.specs.Convert.{skip_white_back}
use Rattle.es_value.proofs.convert.skip_white_back.Given as goal

abbrev pub invariant-loop-last : goal.invariant-loop-last
invariant-loop-last l = skip_white_back l.units ≡ skip_white_back l.front

abbrev pub decreases-loop-last : goal.decreases-loop-last
decreases-loop-last l = length l.front
