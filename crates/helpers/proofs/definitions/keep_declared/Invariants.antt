use Rattle.std.proofs.Common.{◌≡◌, ◌-◌, length}
use Rattle.helpers.proofs.Keeping.{passed_from}
use Rattle.helpers.proofs.definitions.keep_declared.Given as goal

abbrev pub invariant-loop-at : goal.invariant-loop-at
invariant-loop-at g l = passed_from (g.T.Declares.kept_by l.names) l.items l.at ≡ passed_from (g.T.Declares.kept_by l.names) l.initial.items 0

abbrev pub decreases-loop-at : goal.decreases-loop-at
decreases-loop-at g l = length l.items - l.at
