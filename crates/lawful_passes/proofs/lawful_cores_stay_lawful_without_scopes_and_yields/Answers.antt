use Rattle.lawful_passes.proofs.Scoping.{both_keep_law, scopes_keep_labels}
use Rattle.lawful_passes.proofs.lawful_cores_stay_lawful_without_scopes_and_yields.Goals as goal

pub returns : goal.returns
returns c = record { labels = scopes_keep_labels; both = both_keep_law }
