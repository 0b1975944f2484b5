use Rattle.std.proofs.Common.{◌≡◌, ◌++◌, drop, map, true}
use Rattle.es6_static_semantics.specs.Findings.{joined}
use Rattle.source_meaning.specs.Environments.{unbound}
use Rattle.source_meaning.specs.Modules.{function_name, item_statements}
use Rattle.source_meaning.specs.Trees.{functions_in, lexical}
use Rattle.source_modules.proofs.declared.add_function_names.Given as goal

abbrev pub invariant-loop-item : goal.invariant-loop-item
invariant-loop-item l =
    l.bindings ++ map (λ x. unbound (lexical true x)) (map function_name (functions_in (joined item_statements (drop l.item-index l.items))))
    ≡ l.initial.bindings ++ map (λ x. unbound (lexical true x)) (map function_name (functions_in (joined item_statements l.items)))
