-- The names that a function declares beside its parameters.
use Rattle.std.proofs.Common.{◌≡◌, false, List, [], ◌∷◌, ◌++◌, map, codes, refl, ap}
use Rattle.es6_ast.specs.declared.tree.Identifier.{Identifier}
use Rattle.es6_static_semantics.specs.Outside.{arguments_name, knows}

pub arguments_names : (ps own : List Identifier) → map (knows false) (ps ++ (arguments_name ∷ own)) ≡ (map (knows false) ps ++ ((record { name = codes "arguments"; is_host = false }) ∷ [])) ++ map (knows false) own
arguments_names [] own = refl
arguments_names (p ∷ ps) own = ap (λ ns. knows false p ∷ ns) (arguments_names ps own)
