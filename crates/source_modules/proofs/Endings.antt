-- The bindings of imported names, one by one.
use Rattle.std.proofs.Common.{◌≡◌, ℕ, List, [], ◌∷◌, ◌++◌, None, Option, Some, refl}
use Rattle.es6_ast.specs.declared.graph.EndOf.{EndOf}
use Rattle.source_meaning.specs.Modules.{ended_bindings}
use Rattle.source_modules.specs.Bindings.{end_bindings}

pub ended_none : (xs : List (Option (List ℕ))) → ended_bindings xs [] ≡ []
ended_none [] = refl
ended_none (None ∷ xs) = refl
ended_none (Some x ∷ xs) = refl

pub ended_first : (x : Option (List ℕ)) (xs : List (Option (List ℕ))) (e : EndOf) (es : List EndOf) → ended_bindings (x ∷ xs) (e ∷ es) ≡ end_bindings x e ++ ended_bindings xs es
ended_first None xs e es = refl
ended_first (Some x) xs e es = refl
