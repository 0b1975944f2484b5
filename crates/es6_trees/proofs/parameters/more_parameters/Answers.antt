use Rattle.es6_trees.specs.Built.{AreParametersOf, IsParameterOf}
use Rattle.es6_trees.proofs.ParameterLists.{more_parameters, no_parameters}
use Rattle.es6_trees.proofs.Putting.{was_added}
use Rattle.es6_trees.proofs.Taking.{none_taken, one_added}
use Rattle.es6_trees.proofs.parameters.more_parameters.Goals as goal

pub taking-init : goal.taking-init
taking-init c =
    none_taken (AreParametersOf c.args.depth) c.args.expressions c.new-back.result.items c.new-back.ensures.items (no_parameters c.args.depth)

pub taking-preserved : goal.taking-preserved
taking-preserved c =
    one_added (IsParameterOf c.args.depth) (λ es b bs h hs. more_parameters h hs) c.taking.invariant c.in-Some.ensures (was_added (IsParameterOf c.args.depth c.in-Some.expression) c.taking.back.items c.parameter_of.result c.add.new.list.items c.in_ok-add.ensures c.parameter_of.ensures)
