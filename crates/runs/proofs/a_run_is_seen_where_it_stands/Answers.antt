use Rattle.runs.proofs.Stands.{seen_where_it_stands}
use Rattle.runs.proofs.a_run_is_seen_where_it_stands.Goals as goal

pub returns : goal.returns
returns g c = λ step s answers n. seen_where_it_stands step n s answers
