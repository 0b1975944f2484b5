use Rattle.std.proofs.Common.{◌≡◌, [], None}
use Rattle.es6_ast.specs.declared.tree.Argument.TheOpen as layer
use Rattle.es6_reading.specs.Refine.{parameters_in}
use Rattle.es6_trees.specs.Built.{Becomes, IsRestedOf}
use Rattle.es6_trees.proofs.ParameterLists.{bare_is, rested_is}
use Rattle.es6_trees.proofs.Putting.{still_ok}
use Rattle.es6_trees.proofs.parameters.cover_parameters.Goals as goal

pub returns-in-Some : goal.returns-in-Some
returns-in-Some c =
    still_ok c.rested_parameters.result (λ es. IsRestedOf c.args.depth c.args.held c.in-Some.rest es) (λ es. Becomes (parameters_in c.args.depth (layer.Cover c.args.span c.args.held c.args.rest)) es) c.rested_parameters.ensures
    (λ es h. rested_is c.args.depth c.args.span c.args.held c.args.rest c.in-Some.rest es c.in-Some.is h)

pub returns-in-None : goal.returns-in-None
returns-in-None c =
    still_ok c.bare_cover.result (λ es. (c.args.held ≡ None) × (es ≡ [])) (λ es. Becomes (parameters_in c.args.depth (layer.Cover c.args.span c.args.held c.args.rest)) es) c.bare_cover.ensures
    (λ es h. bare_is c.args.depth c.args.span c.args.held c.args.rest es c.in-None.is h.0 h.1)
