use Rattle.cells_keep_runs.proofs.Grown.{all_frames_stay, cells_stay, environments_stay}
use Rattle.cells_keep_runs.proofs.frames_stay_related.Goals as goal

pub returns : goal.returns
returns c = record { environments = environments_stay; cells = cells_stay; frames = all_frames_stay }
