use Rattle.std.proofs.Common.{◌≡◌, ◌∷◌, ◌++◌, [], false, List, codes, map, sym, ap, ◌∙◌}
use Rattle.std.proofs.lemmas.Result.{on_ok_weaker}
use Rattle.es6_ast.specs.declared.tree.Identifier.{Identifier}
use Rattle.es6_static_semantics.specs.Outside.{Known, knows, parameter_found, parts_names, some_name}
use Rattle.outside_constructs.proofs.ArgumentNames.{arguments_names}
use Rattle.outside_constructs.specs.declared.walk.Walk.{Walk}
use Rattle.outside_constructs.proofs.walk.Walk.enter_function.Goals as goal

pub returns-clause-scope : goal.returns-clause-scope
returns-clause-scope c =
    let old : Walk = c.args.self.now in
    let parameters : List Identifier = parts_names (map parameter_found c.args.function.now.parameters) in
    let own : List Identifier = some_name c.args.function.now.name in
    let named : Known = record { name = codes "arguments"; is_host = false } in
    let first : c.parameters.new.self ≡ map (knows false) parameters = c.in_ok-parameters.ensures ∙ rw (c.new-bindings.ensures, c.as_slice.ensures) in
    let second : c.push.new.self ≡ c.parameters.new.self ++ (named ∷ []) = c.in_ok-push.ensures ∙ rw c.as_slice-2.ensures in
    let third : c.optional.new.self ≡ c.push.new.self ++ map (knows false) own = c.in_ok-optional.ensures in
    let names : c.optional.new.self ≡ (map (knows false) parameters ++ (named ∷ [])) ++ map (knows false) own = third ∙ ap (λ (ns : List Known). ns ++ map (knows false) own) (second ∙ ap (λ (ns : List Known). ns ++ (named ∷ [])) first) in
    let enters : List Known → Walk = λ ns. record old { environment = record old.environment { known = ns ++ old.environment.known } } in
    on_ok_weaker c.enter.result (λ e. e ∙ ap enters (names ∙ sym (arguments_names parameters own))) c.enter.ensures.scope
