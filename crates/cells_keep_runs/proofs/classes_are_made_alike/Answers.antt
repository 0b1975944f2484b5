use Rattle.cells_keep_runs.proofs.Classed.{classes_made, heritages_taken, members_put}
use Rattle.cells_keep_runs.proofs.classes_are_made_alike.Goals as goal

pub returns : goal.returns
returns c = record { classes = classes_made; heritages = heritages_taken; members = members_put }
