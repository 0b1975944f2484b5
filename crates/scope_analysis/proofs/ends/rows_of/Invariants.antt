use Rattle.std.proofs.Common.{◌≡◌, ◌++◌, drop}
use Rattle.scope_analysis.specs.Ends.{end_rows}
use Rattle.scope_analysis.proofs.ends.rows_of.Given as goal

abbrev pub invariant-loop-place : goal.invariant-loop-place
invariant-loop-place l = l.rows.items ++ end_rows l.modules (drop l.place-index l.places) l.rest ≡ end_rows l.modules l.places l.endings
