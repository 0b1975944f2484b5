-- What each kind of node of a script is read as, by the steps of the other files.
use Rattle.core_ast.specs.declared.tree.CoreCase.{CoreCase}
use Rattle.core_ast.specs.declared.tree.CoreExpr.{CoreExpr}
use Rattle.es5_ast.specs.declared.tree.Element5.{Element5, fold-Element5}
use Rattle.es5_ast.specs.declared.tree.Expr5.{Expr5, fold-Expr5}
use Rattle.es5_ast.specs.declared.tree.ForFirst5.{ForFirst5, fold-ForFirst5}
use Rattle.es5_ast.specs.declared.tree.Link5.{Link5, fold-Link5}
use Rattle.es5_ast.specs.declared.tree.Property5.{Property5, fold-Property5}
use Rattle.es5_ast.specs.declared.tree.Stat5.{Stat5, fold-Stat5}
use Rattle.es5_ast.specs.declared.tree.Block5.{Block5, fold-Block5}
use Rattle.es5_ast.specs.declared.tree.Case5.{Case5, fold-Case5}
use Rattle.es5_ast.specs.declared.tree.Catch5.{Catch5, fold-Catch5}
use Rattle.es5_ast.specs.declared.tree.Condition5.{Condition5, fold-Condition5}
use Rattle.es5_ast.specs.declared.tree.Declared5.{Declared5, fold-Declared5}
use Rattle.es5_ast.specs.declared.tree.Function5.{Function5, fold-Function5}
use Rattle.es5_ast.specs.declared.tree.Operand5.{Operand5, fold-Operand5}
use Rattle.script_lowering.specs.declared.sites.Sites.{Sites}
use Rattle.script_lowering.specs.Expressions.{Adds, FunctionRead, Operand, Places, element_step, expr_step, link_step, operand_step, property_step}
use Rattle.script_lowering.specs.Reading.{Reads}
use Rattle.script_lowering.specs.Statements.{Handler, ReadsStat, ReadsStats, block_step, case_step, catch_step, condition_step, declared_step, for_first_step, function_step, stat_step}

abbrev pub element_read : Sites → Element5 → Adds
element_read sites =
    fold-Element5 Adds (Reads CoreExpr) ReadsStats Places Adds ReadsStat ReadsStats (Reads CoreCase) (Reads Handler) (Reads CoreCase) ReadsStats FunctionRead Operand
    element_step (expr_step sites) for_first_step (link_step sites) property_step stat_step block_step case_step catch_step condition_step declared_step function_step operand_step

abbrev pub expr_read : Sites → Expr5 → Reads CoreExpr
expr_read sites =
    fold-Expr5 Adds (Reads CoreExpr) ReadsStats Places Adds ReadsStat ReadsStats (Reads CoreCase) (Reads Handler) (Reads CoreCase) ReadsStats FunctionRead Operand
    element_step (expr_step sites) for_first_step (link_step sites) property_step stat_step block_step case_step catch_step condition_step declared_step function_step operand_step

abbrev pub for_first_read : Sites → ForFirst5 → ReadsStats
for_first_read sites =
    fold-ForFirst5 Adds (Reads CoreExpr) ReadsStats Places Adds ReadsStat ReadsStats (Reads CoreCase) (Reads Handler) (Reads CoreCase) ReadsStats FunctionRead Operand
    element_step (expr_step sites) for_first_step (link_step sites) property_step stat_step block_step case_step catch_step condition_step declared_step function_step operand_step

abbrev pub link_read : Sites → Link5 → Places
link_read sites =
    fold-Link5 Adds (Reads CoreExpr) ReadsStats Places Adds ReadsStat ReadsStats (Reads CoreCase) (Reads Handler) (Reads CoreCase) ReadsStats FunctionRead Operand
    element_step (expr_step sites) for_first_step (link_step sites) property_step stat_step block_step case_step catch_step condition_step declared_step function_step operand_step

abbrev pub property_read : Sites → Property5 → Adds
property_read sites =
    fold-Property5 Adds (Reads CoreExpr) ReadsStats Places Adds ReadsStat ReadsStats (Reads CoreCase) (Reads Handler) (Reads CoreCase) ReadsStats FunctionRead Operand
    element_step (expr_step sites) for_first_step (link_step sites) property_step stat_step block_step case_step catch_step condition_step declared_step function_step operand_step

abbrev pub stat_read : Sites → Stat5 → ReadsStat
stat_read sites =
    fold-Stat5 Adds (Reads CoreExpr) ReadsStats Places Adds ReadsStat ReadsStats (Reads CoreCase) (Reads Handler) (Reads CoreCase) ReadsStats FunctionRead Operand
    element_step (expr_step sites) for_first_step (link_step sites) property_step stat_step block_step case_step catch_step condition_step declared_step function_step operand_step

abbrev pub block_read : Sites → Block5 → ReadsStats
block_read sites =
    fold-Block5 Adds (Reads CoreExpr) ReadsStats Places Adds ReadsStat ReadsStats (Reads CoreCase) (Reads Handler) (Reads CoreCase) ReadsStats FunctionRead Operand
    element_step (expr_step sites) for_first_step (link_step sites) property_step stat_step block_step case_step catch_step condition_step declared_step function_step operand_step

abbrev pub case_read : Sites → Case5 → Reads CoreCase
case_read sites =
    fold-Case5 Adds (Reads CoreExpr) ReadsStats Places Adds ReadsStat ReadsStats (Reads CoreCase) (Reads Handler) (Reads CoreCase) ReadsStats FunctionRead Operand
    element_step (expr_step sites) for_first_step (link_step sites) property_step stat_step block_step case_step catch_step condition_step declared_step function_step operand_step

abbrev pub catch_read : Sites → Catch5 → Reads Handler
catch_read sites =
    fold-Catch5 Adds (Reads CoreExpr) ReadsStats Places Adds ReadsStat ReadsStats (Reads CoreCase) (Reads Handler) (Reads CoreCase) ReadsStats FunctionRead Operand
    element_step (expr_step sites) for_first_step (link_step sites) property_step stat_step block_step case_step catch_step condition_step declared_step function_step operand_step

abbrev pub condition_read : Sites → Condition5 → Reads CoreCase
condition_read sites =
    fold-Condition5 Adds (Reads CoreExpr) ReadsStats Places Adds ReadsStat ReadsStats (Reads CoreCase) (Reads Handler) (Reads CoreCase) ReadsStats FunctionRead Operand
    element_step (expr_step sites) for_first_step (link_step sites) property_step stat_step block_step case_step catch_step condition_step declared_step function_step operand_step

abbrev pub declared_read : Sites → Declared5 → ReadsStats
declared_read sites =
    fold-Declared5 Adds (Reads CoreExpr) ReadsStats Places Adds ReadsStat ReadsStats (Reads CoreCase) (Reads Handler) (Reads CoreCase) ReadsStats FunctionRead Operand
    element_step (expr_step sites) for_first_step (link_step sites) property_step stat_step block_step case_step catch_step condition_step declared_step function_step operand_step

abbrev pub whole_read : Sites → Function5 → FunctionRead
whole_read sites =
    fold-Function5 Adds (Reads CoreExpr) ReadsStats Places Adds ReadsStat ReadsStats (Reads CoreCase) (Reads Handler) (Reads CoreCase) ReadsStats FunctionRead Operand
    element_step (expr_step sites) for_first_step (link_step sites) property_step stat_step block_step case_step catch_step condition_step declared_step function_step operand_step

abbrev pub operand_read : Sites → Operand5 → Operand
operand_read sites =
    fold-Operand5 Adds (Reads CoreExpr) ReadsStats Places Adds ReadsStat ReadsStats (Reads CoreCase) (Reads Handler) (Reads CoreCase) ReadsStats FunctionRead Operand
    element_step (expr_step sites) for_first_step (link_step sites) property_step stat_step block_step case_step catch_step condition_step declared_step function_step operand_step
