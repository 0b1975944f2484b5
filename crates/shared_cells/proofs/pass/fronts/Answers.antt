use Rattle.shared_cells.proofs.Fronts.{popped}
use Rattle.shared_cells.proofs.pass.fronts.Goals as goal

pub returns : goal.returns
returns c = popped c.pop.result c.args.parts c.pop.new.self c.pop.ensures
