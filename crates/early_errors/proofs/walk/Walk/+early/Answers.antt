use Rattle.std.proofs.Common.{List, ap, map, ◌∙◌}
use Rattle.std.proofs.lemmas.Result.{on_ok_weaker}
use Rattle.es6_ast.specs.declared.tree.Function.{Function}
use Rattle.es6_ast.specs.declared.tree.Parameter.{Parameter}
use Rattle.es6_ast.specs.declared.tree.Statement.{Statement}
use Rattle.es6_static_semantics.specs.Early.{body_pairs, parameter_found, parameters_pairs, statement_found}
use Rattle.early_errors.proofs.Parts.{function_met}
use Rattle.early_errors.specs.Walked.{meets_inside}
use Rattle.early_errors.specs.declared.place.Place.{Place}
use Rattle.early_errors.specs.declared.walk.Walk.{Walk}
use Rattle.early_errors.proofs.walk.Walk.+early.Goals as goal

pub function-returns : goal.function-returns
function-returns t c =
    let f : Function = c.args.function.now in
    let place : Place = c.args.place in
    let inside : Place = c.with_parameters-inside.result in
    let named : Walk = c.bound_name.new.self in
    let entered : Walk = c.all_parameters.new.self in
    let parameters = c.in_ok-all_parameters.ensures ∙ ap (λ (ps : List Parameter). meets_inside (parameters_pairs (map parameter_found ps)) inside named) c.as_slice.ensures in
    let lists = ap (λ (ps : List Parameter). meets_inside (body_pairs (map parameter_found ps) (map statement_found c.as_slice-2.result.now)) place entered) c.as_slice-3.ensures
    ∙ ap (λ (ss : List Statement). meets_inside (body_pairs (map parameter_found f.parameters) (map statement_found ss)) place entered) c.as_slice-2.ensures in
    on_ok_weaker c.body.result (λ e. function_met f place inside c.args.self.now named entered c.body.new.self c.bound_name.ensures c.with_parameters-inside.ensures parameters (e ∙ lists)) c.body.ensures
