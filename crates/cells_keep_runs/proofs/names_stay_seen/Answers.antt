use Rattle.cells_keep_runs.proofs.Stays.{calls_seen, copies_seen, kept_seen, names_held, parameters_seen, patterns_seen, scopes_seen, seen_outside, seen_stays, seen_within}
use Rattle.cells_keep_runs.proofs.names_stay_seen.Goals as goal

pub returns : goal.returns
returns c = record {
  scopes = scopes_seen;
  calls = calls_seen;
  kept = kept_seen;
  patterns = patterns_seen;
  parameters = parameters_seen;
  copies = copies_seen;
  more = seen_stays;
  within = seen_within;
  outside = seen_outside;
  held = names_held;
}
