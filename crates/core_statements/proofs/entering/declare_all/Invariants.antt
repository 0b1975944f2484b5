use Rattle.std.proofs.Common.{◌≡◌, fold, take}
use Rattle.core_meaning.specs.Calls.{declare_one}
use Rattle.core_statements.proofs.entering.declare_all.Given as goal

abbrev pub invariant-loop-one : goal.invariant-loop-one
invariant-loop-one g l = l.st ≡ fold (declare_one (g.R.CoreRows.rows l.rows) (g.R.CoreRows.core l.rows)) l.fn.st (take l.one-index l.declared)
