use Rattle.std.proofs.Common.{◌≡◌, [], ◌∷◌, ◌++◌, Some, sym, ap, ◌∙◌}
use Rattle.es6_reading.specs.Refine.{rest_parameter}
use Rattle.es6_trees.specs.Built.{IsRestedOf, rest_after}
use Rattle.es6_trees.proofs.Putting.{still_ok}
use Rattle.es6_trees.proofs.parameters.rested_parameters.Goals as goal

pub returns-in_ok-parameters-in-Some : goal.returns-in_ok-parameters-in-Some
returns-in_ok-parameters-in-Some c =
    let es = c.in_ok-parameters-in-Some.parameters in
    still_ok c.with_rest.result (λ all. all ≡ es ++ rest_parameter c.args.rest ∷ []) (λ all. IsRestedOf c.args.depth c.args.held c.args.rest all) c.with_rest.ensures
    (λ all e. rest_after c.into_inner.result es (c.in-Some.is ∙ ap Some (sym c.into_inner.ensures)) c.in_ok-parameters-in-Some.ensures e)
