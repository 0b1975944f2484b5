-- Targets with their defaults.
use Rattle.std.specs.Prelude.{◌≡◌}
use Rattle.es6_ast.specs.declared.operators.AssignOperator.TheVariants as assign
use Rattle.es6_ast.specs.declared.tree.Expression.{Expression, out-Expression}
use Rattle.es6_ast.specs.declared.tree.Expression.TheVariants as expr
use Rattle.es6_trees.specs.declared.split.Split.{Split}
use Rattle.es6_trees.specs.declared.split.Split.TheVariants.{Defaulted, Alone}
use Rattle.es6_trees.specs.Built.{HasNoDefault}

-- a target with its default, or an expression without one
abbrev pub IsSplit : Expression → Split → Type 0
IsSplit x (Defaulted span target value) = x ≡ expr.Assign span assign.Assign target value
IsSplit x (Alone y) = (x ≡ y) × HasNoDefault (out-Expression x)
