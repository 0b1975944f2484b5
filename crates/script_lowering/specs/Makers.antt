-- What is made of parts that are done.
use Rattle.std.specs.Prelude.{List, None, Some, false, ◌∷◌}
use Rattle.core_ast.specs.Made.{acting, linked}
use Rattle.core_ast.specs.declared.parts.CoreOp.TheVariants as op
use Rattle.core_ast.specs.declared.parts.Var.{Var}
use Rattle.core_ast.specs.declared.parts.When.TheVariants as when
use Rattle.core_ast.specs.declared.tree.CoreExpr.{CoreExpr}
use Rattle.core_ast.specs.declared.tree.CoreLink.TheVariants as link
use Rattle.core_ast.specs.declared.tree.CoreStat.{CoreStat}
use Rattle.script_lowering.specs.declared.makers.Join.{Join}
use Rattle.script_lowering.specs.declared.makers.Join.TheVariants as join
use Rattle.script_lowering.specs.Expressions.{assigned, compound_of, name_read, operated}
use Rattle.script_lowering.specs.Statements.{loop_stat, store_truth}

abbrev pub joined : Join → CoreExpr → CoreExpr → CoreExpr
joined join.Then x y = linked x (acting op.Then y)
joined join.Element x y = linked x (acting op.Element y)
joined join.Index x y = linked x (acting op.Index y)
joined (join.Operand o) x y = operated o x y
joined (join.Assign o) x y = assigned (compound_of o) x y

-- the loop of a do-while, whose variable tells whether its body was run yet
abbrev pub or_test : Var → CoreExpr → CoreExpr
or_test x test = linked (name_read x) (link.Lazy when.Falsy test None)

abbrev pub turning : Var → List CoreStat → CoreExpr → CoreStat
turning x body test = loop_stat (Some (or_test x test)) None (store_truth x false ∷ body)
