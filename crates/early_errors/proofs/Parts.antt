-- A function: its name, then its parameters, then its body.
use Rattle.std.proofs.Common.{◌≡◌, ◌∙◌, ◌++◌, List, Option, fold, map, ap, sym}
use Rattle.early_findings.specs.Pairs.{least_with}
use Rattle.es6_ast.specs.declared.tree.Function.{Function, out-Function}
use Rattle.es6_ast.specs.declared.tree.Parameter.{Parameter}
use Rattle.es6_ast.specs.declared.tree.Statement.{Statement}
use Rattle.es6_static_semantics.specs.Findings.{Pair, earlier, joined}
use Rattle.es6_static_semantics.specs.Early.{Inside, Rights, body_pairs, bound, function_found, parameter_found, parameters_pairs, some_name, statement_found, with_parameters}
use Rattle.early_errors.proofs.Layers.{function_out}
use Rattle.early_errors.proofs.Walking.{fold_append}
use Rattle.early_errors.specs.Walked.{meets_inside, met, rights_at}
use Rattle.early_errors.specs.declared.place.Place.{Place}
use Rattle.early_errors.specs.declared.walk.Walk.{Walk}

pub function_met : (f : Function) (p inside : Place) (old named entered exit : Walk) → named ≡ met (joined bound (some_name (out-Function f).name)) old → inside ≡ record p { in_parameters = (out-Function f).is_generator }
    → entered ≡ meets_inside (parameters_pairs (map parameter_found (out-Function f).parameters)) inside named
    → exit ≡ meets_inside (body_pairs (map parameter_found (out-Function f).parameters) (map statement_found (out-Function f).body)) p entered
    → exit ≡ meets_inside (function_found f).pairs p old
function_met f p inside old named entered exit names within parameters body =
    let r : Rights = rights_at p in
    let own : List Pair = joined bound (some_name (out-Function f).name) in
    let first : List Pair = parameters_pairs (map parameter_found (out-Function f).parameters) (with_parameters (out-Function f).is_generator r) in
    let last : List Pair = body_pairs (map parameter_found (out-Function f).parameters) (map statement_found (out-Function f).body) r in
    let one : entered ≡ met first (met own old) =
    parameters ∙ ap (λ (i : Place). met (parameters_pairs (map parameter_found (out-Function f).parameters) (rights_at i)) named) within ∙ ap (met first) names in
    body ∙ ap (met last) one
    ∙ ap (λ (l : Option Pair). record old { finder = l }) (sym (fold_append earlier old.finder (own ++ first) last ∙ ap (λ (l : Option Pair). fold earlier l last) (fold_append earlier old.finder own first)))
    ∙ ap (λ (q : Inside). record old { finder = least_with old.finder (q r) }) (sym (function_out f))
