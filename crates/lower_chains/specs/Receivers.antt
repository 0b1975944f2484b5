-- What `this` is made of.
use Rattle.std.specs.Prelude.{◌≡◌}
use Rattle.core_ast.specs.declared.tree.CoreExpr.{CoreExpr}
use Rattle.module_lowering.specs.declared.context.ThisKind.{ThisKind}
use Rattle.module_lowering.specs.declared.lowerer.Lowerer.{Lowerer}
use Rattle.module_lowering.specs.Expressions.{this_of}

-- it doesn't depend on what is met so far
abbrev pub GivesThis : ThisKind → CoreExpr → Type 0
GivesThis this x = (state : Lowerer) → (this_of this state).0 ≡ x
