use Rattle.runs.specs.Run.{run}
use Rattle.runs.specs.Laws.{spanned}
use Rattle.runs.proofs.Clauses.{clauses_of_same, same_of_clauses}
use Rattle.runs.proofs.same_is_three_clauses.Goals as goal

pub returns : goal.returns
returns g c = record {
  clauses = λ left right step1 step2 s t same. clauses_of_same (spanned left right) (run step1 s) (run step2 t) same;
  same = λ left right step1 step2 s t clauses. same_of_clauses (spanned left right) step1 step2 s t clauses;
}
