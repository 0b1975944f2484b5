-- The last of a list of statements takes a label.
use Rattle.std.proofs.Common.{◌≡◌, List, [], ◌∷◌, ◌++◌, refl, ap}
use Rattle.core_ast.specs.declared.parts.Label.{Label}
use Rattle.core_ast.specs.declared.tree.CoreStat.{CoreStat, out-CoreStat}
use Rattle.script_lowering.specs.Statements.{label_last, with_label}

pub label_last_push : (l : Label) (xs : List CoreStat) (s : CoreStat) → label_last l (xs ++ s ∷ []) ≡ xs ++ with_label l s (out-CoreStat s) ∷ []
label_last_push l [] s = refl
label_last_push l (x ∷ []) s = refl
label_last_push l (x ∷ y ∷ xs) s = ap (λ ss. x ∷ ss) (label_last_push l (y ∷ xs) s)
