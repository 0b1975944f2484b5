use Rattle.std.proofs.Common.{◌∙◌}
use Rattle.es6_trees.specs.Built.{IsParameterOf}
use Rattle.es6_trees.proofs.ParameterLists.{first_and_more}
use Rattle.es6_trees.proofs.Putting.{was_added}
use Rattle.es6_trees.proofs.parameters.parameters_of.Goals as goal

pub returns : goal.returns
returns c =
    first_and_more c.args.depth c.args.first c.args.more c.in_ok-back.back.items c.add.new.list.items c.from_vec.result c.in_ok-back.ensures
    (was_added (IsParameterOf c.args.depth c.args.first) c.in_ok-back.back.items c.parameter_of.result c.add.new.list.items c.in_ok-add.ensures c.parameter_of.ensures)
    (c.from_vec.ensures ∙ c.reverse.ensures.items)
