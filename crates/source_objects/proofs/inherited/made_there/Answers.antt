use Rattle.std.proofs.Common.{◌≡◌, arith}
use Rattle.std.proofs.lemmas.Grind.{common_steps}
use Rattle.std.proofs.lemmas.List.Elements.{filter_map-append}
use Rattle.source_meaning.specs.Classes.{still_there}
use Rattle.source_objects.proofs.inherited.made_there.Goals as goal

pub loop-member-preserved : goal.loop-member-preserved
loop-member-preserved c = grind (arith, common_steps, filter_map-append (still_there c.args.heap.now c.args.parent))
