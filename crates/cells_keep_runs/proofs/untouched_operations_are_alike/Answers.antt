use Rattle.runs.specs.Laws.{spanned}
use Rattle.cells_keep_runs.proofs.Alike.{acts}
use Rattle.cells_keep_runs.proofs.untouched_operations_are_alike.Goals as goal

pub returns : goal.returns
returns g c = λ from to near far below above carries core core2 o site d values parts p q untouched related.
    acts (spanned from to) (spanned near far) (spanned below above) carries core core2 o site d values parts p q untouched related
