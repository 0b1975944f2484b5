use Rattle.scopes_keep_runs.proofs.ScopesKept.{runs_kept}
use Rattle.scopes_keep_runs.proofs.runs_are_kept.Goals as goal

pub returns : goal.returns
returns c = runs_kept
