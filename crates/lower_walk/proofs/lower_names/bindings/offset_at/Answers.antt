use Rattle.lower_walk.proofs.lower_names.Gets.{default_read, item_read}
use Rattle.lower_walk.proofs.lower_names.bindings.offset_at.Goals as goal

pub returns-in-None : goal.returns-in-None
returns-in-None c = default_read c.args.offsets.now c.args.home 0 c.in-None.ensures

pub returns-in-Some : goal.returns-in-Some
returns-in-Some c = item_read c.args.offsets.now c.args.home c.in-Some.offset.now 0 c.in-Some.ensures
