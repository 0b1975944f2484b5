-- What the definition of early errors gives for each kind of node, as it does for a statement.
use Rattle.std.specs.Prelude.{Bool}
use Rattle.es5_ast.specs.declared.tree.Element5.{Element5, fold-Element5}
use Rattle.es5_ast.specs.declared.tree.Expr5.{Expr5, fold-Expr5}
use Rattle.es5_ast.specs.declared.tree.ForFirst5.{ForFirst5, fold-ForFirst5}
use Rattle.es5_ast.specs.declared.tree.Link5.{Link5, fold-Link5}
use Rattle.es5_ast.specs.declared.tree.Property5.{Property5, fold-Property5}
use Rattle.es5_ast.specs.declared.tree.Block5.{Block5, fold-Block5}
use Rattle.es5_ast.specs.declared.tree.Case5.{Case5, fold-Case5}
use Rattle.es5_ast.specs.declared.tree.Catch5.{Catch5, fold-Catch5}
use Rattle.es5_ast.specs.declared.tree.Condition5.{Condition5, fold-Condition5}
use Rattle.es5_ast.specs.declared.tree.Declared5.{Declared5, fold-Declared5}
use Rattle.es5_ast.specs.declared.tree.Function5.{Function5, fold-Function5}
use Rattle.es5_ast.specs.declared.tree.Operand5.{Operand5, fold-Operand5}
use Rattle.es5_ast.specs.Early.{Inside, Around, Found5, Held5, Whole5, element_step, expr_step, for_first_step, link_step, property_step, stat_step, block_step, case_step, catch_step, condition_step, declared_step, function_step, operand_step}

abbrev pub element_pairs : Element5 → Inside
element_pairs =
    fold-Element5 Inside Found5 Around (Bool × Inside) Held5 Around Around Around Around Around Inside Whole5 Inside
    element_step expr_step for_first_step link_step property_step stat_step block_step case_step catch_step condition_step declared_step function_step operand_step

abbrev pub found : Expr5 → Found5
found =
    fold-Expr5 Inside Found5 Around (Bool × Inside) Held5 Around Around Around Around Around Inside Whole5 Inside
    element_step expr_step for_first_step link_step property_step stat_step block_step case_step catch_step condition_step declared_step function_step operand_step

abbrev pub for_first_pairs : ForFirst5 → Around
for_first_pairs =
    fold-ForFirst5 Inside Found5 Around (Bool × Inside) Held5 Around Around Around Around Around Inside Whole5 Inside
    element_step expr_step for_first_step link_step property_step stat_step block_step case_step catch_step condition_step declared_step function_step operand_step

abbrev pub linked : Link5 → Bool × Inside
linked =
    fold-Link5 Inside Found5 Around (Bool × Inside) Held5 Around Around Around Around Around Inside Whole5 Inside
    element_step expr_step for_first_step link_step property_step stat_step block_step case_step catch_step condition_step declared_step function_step operand_step

abbrev pub held : Property5 → Held5
held =
    fold-Property5 Inside Found5 Around (Bool × Inside) Held5 Around Around Around Around Around Inside Whole5 Inside
    element_step expr_step for_first_step link_step property_step stat_step block_step case_step catch_step condition_step declared_step function_step operand_step

abbrev pub block_pairs : Block5 → Around
block_pairs =
    fold-Block5 Inside Found5 Around (Bool × Inside) Held5 Around Around Around Around Around Inside Whole5 Inside
    element_step expr_step for_first_step link_step property_step stat_step block_step case_step catch_step condition_step declared_step function_step operand_step

abbrev pub case_pairs : Case5 → Around
case_pairs =
    fold-Case5 Inside Found5 Around (Bool × Inside) Held5 Around Around Around Around Around Inside Whole5 Inside
    element_step expr_step for_first_step link_step property_step stat_step block_step case_step catch_step condition_step declared_step function_step operand_step

abbrev pub catch_pairs : Catch5 → Around
catch_pairs =
    fold-Catch5 Inside Found5 Around (Bool × Inside) Held5 Around Around Around Around Around Inside Whole5 Inside
    element_step expr_step for_first_step link_step property_step stat_step block_step case_step catch_step condition_step declared_step function_step operand_step

abbrev pub condition_pairs : Condition5 → Around
condition_pairs =
    fold-Condition5 Inside Found5 Around (Bool × Inside) Held5 Around Around Around Around Around Inside Whole5 Inside
    element_step expr_step for_first_step link_step property_step stat_step block_step case_step catch_step condition_step declared_step function_step operand_step

abbrev pub declared_pairs : Declared5 → Inside
declared_pairs =
    fold-Declared5 Inside Found5 Around (Bool × Inside) Held5 Around Around Around Around Around Inside Whole5 Inside
    element_step expr_step for_first_step link_step property_step stat_step block_step case_step catch_step condition_step declared_step function_step operand_step

abbrev pub whole : Function5 → Whole5
whole =
    fold-Function5 Inside Found5 Around (Bool × Inside) Held5 Around Around Around Around Around Inside Whole5 Inside
    element_step expr_step for_first_step link_step property_step stat_step block_step case_step catch_step condition_step declared_step function_step operand_step

abbrev pub operand_pairs : Operand5 → Inside
operand_pairs =
    fold-Operand5 Inside Found5 Around (Bool × Inside) Held5 Around Around Around Around Around Inside Whole5 Inside
    element_step expr_step for_first_step link_step property_step stat_step block_step case_step catch_step condition_step declared_step function_step operand_step
