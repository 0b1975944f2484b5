-- What classes are made of.
use Rattle.std.specs.Prelude.{List, Option}
use Rattle.core_ast.specs.declared.parts.FunctionId.{FunctionId}
use Rattle.core_ast.specs.declared.tree.CoreExpr.{CoreExpr}
use Rattle.lowering_rules.specs.declared.classes.ClassMember.{ClassMember}

-- what a class is made of: the heritage, the constructor, and the members
pub record PiecesMade : Type 0 where
  pub heritage : Option CoreExpr
  pub constructor : FunctionId
  pub members : List ClassMember
