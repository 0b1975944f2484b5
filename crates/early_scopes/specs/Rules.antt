-- The rules on the names of a module and of the scopes in it, without the other pairs of its items (ECMA-262, 6th edition, 15.2.1.1).
use Rattle.std.specs.Prelude.{List, [], ◌++◌}
use Rattle.es6_static_semantics.specs.Findings.{Pair, joined, repeated}
use Rattle.es6_static_semantics.specs.Early.{ItemFound, scope_pairs, undeclared}

abbrev pub module_rules : List ItemFound → List Pair
module_rules found =
    let lexical = joined (λ x. x.lexical) found in
    let vars = joined (λ x. x.vars) found in
    (joined (λ x. x.scopes) found ++ scope_pairs lexical vars) ++ repeated 23 [] (joined (λ x. x.exported) found) ++ undeclared (lexical ++ vars) (joined (λ x. x.local) found)
