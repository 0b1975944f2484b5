use Rattle.cells_keep_runs.proofs.Opened.{copies_made}
use Rattle.cells_keep_runs.proofs.copies_are_made.Goals as goal

pub returns : goal.returns
returns c = λ core owners content xs w links st apart h. copies_made core owners content xs w links st apart h
