use Rattle.es6_static_semantics.specs.Outside.{outside_pairs}
use Rattle.outside_constructs.proofs.First.{first_of, none_of}
use Rattle.outside_constructs.proofs.outside.first_outside.Goals as goal

pub returns-clause-first : goal.returns-clause-first
returns-clause-first c = first_of c.least_outside.result (outside_pairs c.args.tree.now) c.least_outside.ensures

pub returns-clause-none : goal.returns-clause-none
returns-clause-none c = none_of c.least_outside.result (outside_pairs c.args.tree.now) c.least_outside.ensures
