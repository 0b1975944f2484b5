use Rattle.std.proofs.Common.{◌≡◌, List, ap, map, rules, sym, true, ◌∙◌}
use Rattle.std.proofs.lemmas.Result.{on_ok_weaker}
use Rattle.early_findings.specs.Pairs.{least_with}
use Rattle.es6_ast.specs.declared.tree.Argument.TheFolds.{the_lemmas}
use Rattle.es6_ast.specs.declared.tree.Argument.TheOpen as layer
use Rattle.es6_ast.specs.declared.tree.ArrowBody.{out-ArrowBody}
use Rattle.es6_ast.specs.declared.tree.Parameter.{Parameter}
use Rattle.es6_ast.specs.declared.tree.Statement.{Statement}
use Rattle.es6_static_semantics.specs.Findings.{Pair}
use Rattle.es6_static_semantics.specs.Outside.{parameter_found, parts_names, parts_pairs, statement_found}
use Rattle.outside_constructs.proofs.Layers.{arrow_out}
use Rattle.outside_constructs.proofs.Scoped.{scoped}
use Rattle.outside_constructs.specs.Walked.{arrow_body_in, arrow_body_parts, entered, inside_body, meets, statements_body}
use Rattle.outside_constructs.specs.declared.walk.Walk.{Walk}
use Rattle.outside_constructs.proofs.walk.Walk.+outside.Goals as goal

pub arrow-returns : goal.arrow-returns
arrow-returns t c =
    let old : Walk = c.args.self.now in
    let met : List Pair → Walk = λ ps. record old { finder = least_with old.finder ps } in
    on_ok_weaker c.inside_arrow.result (λ e. e ∙ ap met (sym (arrow_out c.args.arrow.now old.environment))) c.inside_arrow.ensures

pub inside_arrow-returns : goal.inside_arrow-returns
inside_arrow-returns t c =
    let old : Walk = c.args.self.now in
    let ps : List Parameter = c.args.arrow.now.parameters in
    scoped (parts_names (map parameter_found ps)) (parts_pairs true (map parameter_found ps)) (arrow_body_parts c.args.arrow.now.body) old c.enter_arrow.new.self c.parameters.new.self c.arrow_body.new.self c.leave.new.self c.in_ok-mark.mark
    (c.in_ok-mark.ensures.scope ∙ ap (λ (xs : List Parameter). entered (parts_names (map parameter_found xs)) old) c.as_slice.ensures)
    c.in_ok-mark.ensures.mark
    (c.in_ok-parameters.ensures ∙ ap (λ (xs : List Parameter). meets (parts_pairs true (map parameter_found xs)) c.enter_arrow.new.self) c.as_slice-2.ensures)
    c.in_ok-arrow_body.ensures
    c.leave.ensures

pub arrow_body-returns-in-BlockBody : goal.arrow_body-returns-in-BlockBody
arrow_body-returns-in-BlockBody t c =
    let old : Walk = c.args.self.now in
    let met : List Pair → Walk = λ ps. record old { finder = least_with old.finder ps } in
    let slice = ap (λ (ss : List Statement). inside_body (statements_body (map statement_found ss)) old.environment) c.as_slice.ensures in
    let is_block : out-ArrowBody c.args.body.now ≡ layer.BlockBody c.in-BlockBody.block = search (rules, the_lemmas) in
    let block = ap (λ l. arrow_body_in l old.environment) is_block in
    on_ok_weaker c.body.result (λ e. e ∙ ap met (slice ∙ sym block)) c.body.ensures
