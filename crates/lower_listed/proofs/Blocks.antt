-- A block declares no lexical name for what is round it.
use Rattle.std.proofs.Common.{◌≡◌, [], rules, ap, ◌∙◌}
use Rattle.es6_ast.specs.declared.tree.Argument.TheFolds.{the_lemmas}
use Rattle.es6_ast.specs.declared.tree.Block.{Block}
use Rattle.es6_ast.specs.declared.tree.Statement.{Statement}
use Rattle.es6_ast.specs.declared.tree.Statement.TheVariants as statement
use Rattle.module_lowering.specs.Lowered.{statement_lowered}

by_itself : (b : Block) → (statement_lowered (statement.Block b)).listed.lexicals ≡ []
unfolding statement_lowered
by_itself b = search (rules, the_lemmas)

pub block_lexicals : (s : Statement) (b : Block) → s ≡ statement.Block b → (statement_lowered s).listed.lexicals ≡ []
block_lexicals s b e = ap (λ (x : Statement). (statement_lowered x).listed.lexicals) e ∙ by_itself b
