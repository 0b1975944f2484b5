-- The names that stand for those of a head.
use Rattle.std.proofs.Common.{◌≡◌, List, [], ◌∷◌, refl, length, arith}
use Rattle.core_ast.specs.declared.parts.ScopedName.{ScopedName}
use Rattle.module_lowering.specs.declared.context.Dead.{Dead}
use Rattle.module_lowering.specs.Statements.{stand_ins}

pub no_dead : (ns : List ScopedName) (ds : List Dead) → length ds ≡ 0 → stand_ins ns ds ≡ []
no_dead [] ds e = refl
no_dead (n ∷ ns) [] e = refl
no_dead (n ∷ ns) (d ∷ ds) e = absurd (omega arith)
