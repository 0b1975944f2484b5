-- What the two folds give of a node, by its layer: whether the grammar has it, and its early errors.
use Rattle.std.proofs.Common.{◌≡◌, Bool}
use Rattle.es5_ast.specs.declared.tree.Element5.{Element5, roll-Element5, map-Element5, fold-Element5, fold-roll-Element5}
use Rattle.es5_ast.specs.declared.tree.Expr5.{Expr5, roll-Expr5, out-Expr5, map-Expr5, fold-Expr5, fold-roll-Expr5, fold_out-Expr5}
use Rattle.es5_ast.specs.declared.tree.ForFirst5.{ForFirst5, roll-ForFirst5, map-ForFirst5, fold-ForFirst5, fold-roll-ForFirst5}
use Rattle.es5_ast.specs.declared.tree.Link5.{Link5, roll-Link5, map-Link5, fold-Link5, fold-roll-Link5}
use Rattle.es5_ast.specs.declared.tree.Property5.{Property5, roll-Property5, map-Property5, fold-Property5, fold-roll-Property5}
use Rattle.es5_ast.specs.declared.tree.Stat5.{Stat5, roll-Stat5, map-Stat5, fold-Stat5, fold-roll-Stat5}
use Rattle.es5_ast.specs.declared.tree.Block5.{Block5, roll-Block5, map-Block5, fold-Block5, fold-roll-Block5}
use Rattle.es5_ast.specs.declared.tree.Case5.{Case5, roll-Case5, out-Case5, map-Case5, fold-Case5, fold-roll-Case5, fold_out-Case5}
use Rattle.es5_ast.specs.declared.tree.Catch5.{Catch5, roll-Catch5, map-Catch5, fold-Catch5, fold-roll-Catch5}
use Rattle.es5_ast.specs.declared.tree.Condition5.{Condition5, roll-Condition5, map-Condition5, fold-Condition5, fold-roll-Condition5}
use Rattle.es5_ast.specs.declared.tree.Declared5.{Declared5, roll-Declared5, map-Declared5, fold-Declared5, fold-roll-Declared5}
use Rattle.es5_ast.specs.declared.tree.Function5.{Function5, roll-Function5, map-Function5, fold-Function5, fold-roll-Function5}
use Rattle.es5_ast.specs.declared.tree.Operand5.{Operand5, roll-Operand5, out-Operand5, map-Operand5, fold-Operand5, fold-roll-Operand5, fold_out-Operand5}
use Rattle.es5_ast.specs.declared.tree.Element5.TheOpen.{Element5-F, Expr5-F, ForFirst5-F, Link5-F, Property5-F, Stat5-F, Block5-F, Case5-F, Catch5-F, Condition5-F, Declared5-F, Function5-F, Operand5-F}
use Rattle.es5_ast.specs.Early as e
use Rattle.es5_ast.specs.Early.{Inside, Found5, Around, Held5, Whole5}
use Rattle.es5_printable.specs.Printable as p
use Rattle.es5_printable.specs.Printable.{FitExpr, FitLink, FitOperand, FitFunction, FitStat, FitCase, FitCondition, element_fit, expr_fit, for_first_fit, link_fit, property_fit, stat_fit, block_fit, case_fit, catch_fit, condition_fit, declared_fit, function_fit, operand_fit}

abbrev pub Open : (Type 0 → Type 0 → Type 0 → Type 0 → Type 0 → Type 0 → Type 0 → Type 0 → Type 0 → Type 0 → Type 0 → Type 0 → Type 0 → Type 0) → Type 0
Open Of = Of Element5 Expr5 ForFirst5 Link5 Property5 Stat5 Block5 Case5 Catch5 Condition5 Declared5 Function5 Operand5

abbrev pub element_found : Element5 → Inside
element_found = fold-Element5 Inside Found5 Around (Bool × Inside) Held5 Around Around Around Around Around Inside Whole5 Inside e.element_step e.expr_step e.for_first_step e.link_step e.property_step e.stat_step e.block_step e.case_step e.catch_step e.condition_step e.declared_step e.function_step e.operand_step

abbrev pub expr_found : Expr5 → Found5
expr_found = fold-Expr5 Inside Found5 Around (Bool × Inside) Held5 Around Around Around Around Around Inside Whole5 Inside e.element_step e.expr_step e.for_first_step e.link_step e.property_step e.stat_step e.block_step e.case_step e.catch_step e.condition_step e.declared_step e.function_step e.operand_step

abbrev pub for_first_found : ForFirst5 → Around
for_first_found = fold-ForFirst5 Inside Found5 Around (Bool × Inside) Held5 Around Around Around Around Around Inside Whole5 Inside e.element_step e.expr_step e.for_first_step e.link_step e.property_step e.stat_step e.block_step e.case_step e.catch_step e.condition_step e.declared_step e.function_step e.operand_step

abbrev pub link_found : Link5 → Bool × Inside
link_found = fold-Link5 Inside Found5 Around (Bool × Inside) Held5 Around Around Around Around Around Inside Whole5 Inside e.element_step e.expr_step e.for_first_step e.link_step e.property_step e.stat_step e.block_step e.case_step e.catch_step e.condition_step e.declared_step e.function_step e.operand_step

abbrev pub property_found : Property5 → Held5
property_found = fold-Property5 Inside Found5 Around (Bool × Inside) Held5 Around Around Around Around Around Inside Whole5 Inside e.element_step e.expr_step e.for_first_step e.link_step e.property_step e.stat_step e.block_step e.case_step e.catch_step e.condition_step e.declared_step e.function_step e.operand_step

abbrev pub stat_found : Stat5 → Around
stat_found = fold-Stat5 Inside Found5 Around (Bool × Inside) Held5 Around Around Around Around Around Inside Whole5 Inside e.element_step e.expr_step e.for_first_step e.link_step e.property_step e.stat_step e.block_step e.case_step e.catch_step e.condition_step e.declared_step e.function_step e.operand_step

abbrev pub block_found : Block5 → Around
block_found = fold-Block5 Inside Found5 Around (Bool × Inside) Held5 Around Around Around Around Around Inside Whole5 Inside e.element_step e.expr_step e.for_first_step e.link_step e.property_step e.stat_step e.block_step e.case_step e.catch_step e.condition_step e.declared_step e.function_step e.operand_step

abbrev pub case_found : Case5 → Around
case_found = fold-Case5 Inside Found5 Around (Bool × Inside) Held5 Around Around Around Around Around Inside Whole5 Inside e.element_step e.expr_step e.for_first_step e.link_step e.property_step e.stat_step e.block_step e.case_step e.catch_step e.condition_step e.declared_step e.function_step e.operand_step

abbrev pub catch_found : Catch5 → Around
catch_found = fold-Catch5 Inside Found5 Around (Bool × Inside) Held5 Around Around Around Around Around Inside Whole5 Inside e.element_step e.expr_step e.for_first_step e.link_step e.property_step e.stat_step e.block_step e.case_step e.catch_step e.condition_step e.declared_step e.function_step e.operand_step

abbrev pub condition_found : Condition5 → Around
condition_found = fold-Condition5 Inside Found5 Around (Bool × Inside) Held5 Around Around Around Around Around Inside Whole5 Inside e.element_step e.expr_step e.for_first_step e.link_step e.property_step e.stat_step e.block_step e.case_step e.catch_step e.condition_step e.declared_step e.function_step e.operand_step

abbrev pub declared_found : Declared5 → Inside
declared_found = fold-Declared5 Inside Found5 Around (Bool × Inside) Held5 Around Around Around Around Around Inside Whole5 Inside e.element_step e.expr_step e.for_first_step e.link_step e.property_step e.stat_step e.block_step e.case_step e.catch_step e.condition_step e.declared_step e.function_step e.operand_step

abbrev pub function_found : Function5 → Whole5
function_found = fold-Function5 Inside Found5 Around (Bool × Inside) Held5 Around Around Around Around Around Inside Whole5 Inside e.element_step e.expr_step e.for_first_step e.link_step e.property_step e.stat_step e.block_step e.case_step e.catch_step e.condition_step e.declared_step e.function_step e.operand_step

abbrev pub operand_found : Operand5 → Inside
operand_found = fold-Operand5 Inside Found5 Around (Bool × Inside) Held5 Around Around Around Around Around Inside Whole5 Inside e.element_step e.expr_step e.for_first_step e.link_step e.property_step e.stat_step e.block_step e.case_step e.catch_step e.condition_step e.declared_step e.function_step e.operand_step

abbrev pub fit_element : Open Element5-F → Element5-F Bool FitExpr Bool FitLink Bool FitStat (Bool → Bool) FitCase (Bool → Bool) FitCondition Bool FitFunction FitOperand
fit_element = map-Element5 Element5 Expr5 ForFirst5 Link5 Property5 Stat5 Block5 Case5 Catch5 Condition5 Declared5 Function5 Operand5 Bool FitExpr Bool FitLink Bool FitStat (Bool → Bool) FitCase (Bool → Bool) FitCondition Bool FitFunction FitOperand element_fit expr_fit for_first_fit link_fit property_fit stat_fit block_fit case_fit catch_fit condition_fit declared_fit function_fit operand_fit

abbrev pub found_element : Open Element5-F → Element5-F Inside Found5 Around (Bool × Inside) Held5 Around Around Around Around Around Inside Whole5 Inside
found_element = map-Element5 Element5 Expr5 ForFirst5 Link5 Property5 Stat5 Block5 Case5 Catch5 Condition5 Declared5 Function5 Operand5 Inside Found5 Around (Bool × Inside) Held5 Around Around Around Around Around Inside Whole5 Inside element_found expr_found for_first_found link_found property_found stat_found block_found case_found catch_found condition_found declared_found function_found operand_found

pub fit_element-roll : (y : Open Element5-F) → element_fit (roll-Element5 y) ≡ p.element_step (fit_element y)
fit_element-roll = fold-roll-Element5 Bool FitExpr Bool FitLink Bool FitStat (Bool → Bool) FitCase (Bool → Bool) FitCondition Bool FitFunction FitOperand p.element_step p.expr_step p.for_first_step p.link_step p.property_step p.stat_step p.block_step p.case_step p.catch_step p.condition_step p.declared_step p.function_step p.operand_step

pub found_element-roll : (y : Open Element5-F) → element_found (roll-Element5 y) ≡ e.element_step (found_element y)
found_element-roll = fold-roll-Element5 Inside Found5 Around (Bool × Inside) Held5 Around Around Around Around Around Inside Whole5 Inside e.element_step e.expr_step e.for_first_step e.link_step e.property_step e.stat_step e.block_step e.case_step e.catch_step e.condition_step e.declared_step e.function_step e.operand_step

abbrev pub fit_expr : Open Expr5-F → Expr5-F Bool FitExpr Bool FitLink Bool FitStat (Bool → Bool) FitCase (Bool → Bool) FitCondition Bool FitFunction FitOperand
fit_expr = map-Expr5 Element5 Expr5 ForFirst5 Link5 Property5 Stat5 Block5 Case5 Catch5 Condition5 Declared5 Function5 Operand5 Bool FitExpr Bool FitLink Bool FitStat (Bool → Bool) FitCase (Bool → Bool) FitCondition Bool FitFunction FitOperand element_fit expr_fit for_first_fit link_fit property_fit stat_fit block_fit case_fit catch_fit condition_fit declared_fit function_fit operand_fit

abbrev pub found_expr : Open Expr5-F → Expr5-F Inside Found5 Around (Bool × Inside) Held5 Around Around Around Around Around Inside Whole5 Inside
found_expr = map-Expr5 Element5 Expr5 ForFirst5 Link5 Property5 Stat5 Block5 Case5 Catch5 Condition5 Declared5 Function5 Operand5 Inside Found5 Around (Bool × Inside) Held5 Around Around Around Around Around Inside Whole5 Inside element_found expr_found for_first_found link_found property_found stat_found block_found case_found catch_found condition_found declared_found function_found operand_found

pub fit_expr-roll : (y : Open Expr5-F) → expr_fit (roll-Expr5 y) ≡ p.expr_step (fit_expr y)
fit_expr-roll = fold-roll-Expr5 Bool FitExpr Bool FitLink Bool FitStat (Bool → Bool) FitCase (Bool → Bool) FitCondition Bool FitFunction FitOperand p.element_step p.expr_step p.for_first_step p.link_step p.property_step p.stat_step p.block_step p.case_step p.catch_step p.condition_step p.declared_step p.function_step p.operand_step

pub found_expr-roll : (y : Open Expr5-F) → expr_found (roll-Expr5 y) ≡ e.expr_step (found_expr y)
found_expr-roll = fold-roll-Expr5 Inside Found5 Around (Bool × Inside) Held5 Around Around Around Around Around Inside Whole5 Inside e.element_step e.expr_step e.for_first_step e.link_step e.property_step e.stat_step e.block_step e.case_step e.catch_step e.condition_step e.declared_step e.function_step e.operand_step

abbrev pub fit_for_first : Open ForFirst5-F → ForFirst5-F Bool FitExpr Bool FitLink Bool FitStat (Bool → Bool) FitCase (Bool → Bool) FitCondition Bool FitFunction FitOperand
fit_for_first = map-ForFirst5 Element5 Expr5 ForFirst5 Link5 Property5 Stat5 Block5 Case5 Catch5 Condition5 Declared5 Function5 Operand5 Bool FitExpr Bool FitLink Bool FitStat (Bool → Bool) FitCase (Bool → Bool) FitCondition Bool FitFunction FitOperand element_fit expr_fit for_first_fit link_fit property_fit stat_fit block_fit case_fit catch_fit condition_fit declared_fit function_fit operand_fit

abbrev pub found_for_first : Open ForFirst5-F → ForFirst5-F Inside Found5 Around (Bool × Inside) Held5 Around Around Around Around Around Inside Whole5 Inside
found_for_first = map-ForFirst5 Element5 Expr5 ForFirst5 Link5 Property5 Stat5 Block5 Case5 Catch5 Condition5 Declared5 Function5 Operand5 Inside Found5 Around (Bool × Inside) Held5 Around Around Around Around Around Inside Whole5 Inside element_found expr_found for_first_found link_found property_found stat_found block_found case_found catch_found condition_found declared_found function_found operand_found

pub fit_for_first-roll : (y : Open ForFirst5-F) → for_first_fit (roll-ForFirst5 y) ≡ p.for_first_step (fit_for_first y)
fit_for_first-roll = fold-roll-ForFirst5 Bool FitExpr Bool FitLink Bool FitStat (Bool → Bool) FitCase (Bool → Bool) FitCondition Bool FitFunction FitOperand p.element_step p.expr_step p.for_first_step p.link_step p.property_step p.stat_step p.block_step p.case_step p.catch_step p.condition_step p.declared_step p.function_step p.operand_step

pub found_for_first-roll : (y : Open ForFirst5-F) → for_first_found (roll-ForFirst5 y) ≡ e.for_first_step (found_for_first y)
found_for_first-roll = fold-roll-ForFirst5 Inside Found5 Around (Bool × Inside) Held5 Around Around Around Around Around Inside Whole5 Inside e.element_step e.expr_step e.for_first_step e.link_step e.property_step e.stat_step e.block_step e.case_step e.catch_step e.condition_step e.declared_step e.function_step e.operand_step

abbrev pub fit_link : Open Link5-F → Link5-F Bool FitExpr Bool FitLink Bool FitStat (Bool → Bool) FitCase (Bool → Bool) FitCondition Bool FitFunction FitOperand
fit_link = map-Link5 Element5 Expr5 ForFirst5 Link5 Property5 Stat5 Block5 Case5 Catch5 Condition5 Declared5 Function5 Operand5 Bool FitExpr Bool FitLink Bool FitStat (Bool → Bool) FitCase (Bool → Bool) FitCondition Bool FitFunction FitOperand element_fit expr_fit for_first_fit link_fit property_fit stat_fit block_fit case_fit catch_fit condition_fit declared_fit function_fit operand_fit

abbrev pub found_link : Open Link5-F → Link5-F Inside Found5 Around (Bool × Inside) Held5 Around Around Around Around Around Inside Whole5 Inside
found_link = map-Link5 Element5 Expr5 ForFirst5 Link5 Property5 Stat5 Block5 Case5 Catch5 Condition5 Declared5 Function5 Operand5 Inside Found5 Around (Bool × Inside) Held5 Around Around Around Around Around Inside Whole5 Inside element_found expr_found for_first_found link_found property_found stat_found block_found case_found catch_found condition_found declared_found function_found operand_found

pub fit_link-roll : (y : Open Link5-F) → link_fit (roll-Link5 y) ≡ p.link_step (fit_link y)
fit_link-roll = fold-roll-Link5 Bool FitExpr Bool FitLink Bool FitStat (Bool → Bool) FitCase (Bool → Bool) FitCondition Bool FitFunction FitOperand p.element_step p.expr_step p.for_first_step p.link_step p.property_step p.stat_step p.block_step p.case_step p.catch_step p.condition_step p.declared_step p.function_step p.operand_step

pub found_link-roll : (y : Open Link5-F) → link_found (roll-Link5 y) ≡ e.link_step (found_link y)
found_link-roll = fold-roll-Link5 Inside Found5 Around (Bool × Inside) Held5 Around Around Around Around Around Inside Whole5 Inside e.element_step e.expr_step e.for_first_step e.link_step e.property_step e.stat_step e.block_step e.case_step e.catch_step e.condition_step e.declared_step e.function_step e.operand_step

abbrev pub fit_property : Open Property5-F → Property5-F Bool FitExpr Bool FitLink Bool FitStat (Bool → Bool) FitCase (Bool → Bool) FitCondition Bool FitFunction FitOperand
fit_property = map-Property5 Element5 Expr5 ForFirst5 Link5 Property5 Stat5 Block5 Case5 Catch5 Condition5 Declared5 Function5 Operand5 Bool FitExpr Bool FitLink Bool FitStat (Bool → Bool) FitCase (Bool → Bool) FitCondition Bool FitFunction FitOperand element_fit expr_fit for_first_fit link_fit property_fit stat_fit block_fit case_fit catch_fit condition_fit declared_fit function_fit operand_fit

abbrev pub found_property : Open Property5-F → Property5-F Inside Found5 Around (Bool × Inside) Held5 Around Around Around Around Around Inside Whole5 Inside
found_property = map-Property5 Element5 Expr5 ForFirst5 Link5 Property5 Stat5 Block5 Case5 Catch5 Condition5 Declared5 Function5 Operand5 Inside Found5 Around (Bool × Inside) Held5 Around Around Around Around Around Inside Whole5 Inside element_found expr_found for_first_found link_found property_found stat_found block_found case_found catch_found condition_found declared_found function_found operand_found

pub fit_property-roll : (y : Open Property5-F) → property_fit (roll-Property5 y) ≡ p.property_step (fit_property y)
fit_property-roll = fold-roll-Property5 Bool FitExpr Bool FitLink Bool FitStat (Bool → Bool) FitCase (Bool → Bool) FitCondition Bool FitFunction FitOperand p.element_step p.expr_step p.for_first_step p.link_step p.property_step p.stat_step p.block_step p.case_step p.catch_step p.condition_step p.declared_step p.function_step p.operand_step

pub found_property-roll : (y : Open Property5-F) → property_found (roll-Property5 y) ≡ e.property_step (found_property y)
found_property-roll = fold-roll-Property5 Inside Found5 Around (Bool × Inside) Held5 Around Around Around Around Around Inside Whole5 Inside e.element_step e.expr_step e.for_first_step e.link_step e.property_step e.stat_step e.block_step e.case_step e.catch_step e.condition_step e.declared_step e.function_step e.operand_step

abbrev pub fit_stat : Open Stat5-F → Stat5-F Bool FitExpr Bool FitLink Bool FitStat (Bool → Bool) FitCase (Bool → Bool) FitCondition Bool FitFunction FitOperand
fit_stat = map-Stat5 Element5 Expr5 ForFirst5 Link5 Property5 Stat5 Block5 Case5 Catch5 Condition5 Declared5 Function5 Operand5 Bool FitExpr Bool FitLink Bool FitStat (Bool → Bool) FitCase (Bool → Bool) FitCondition Bool FitFunction FitOperand element_fit expr_fit for_first_fit link_fit property_fit stat_fit block_fit case_fit catch_fit condition_fit declared_fit function_fit operand_fit

abbrev pub found_stat : Open Stat5-F → Stat5-F Inside Found5 Around (Bool × Inside) Held5 Around Around Around Around Around Inside Whole5 Inside
found_stat = map-Stat5 Element5 Expr5 ForFirst5 Link5 Property5 Stat5 Block5 Case5 Catch5 Condition5 Declared5 Function5 Operand5 Inside Found5 Around (Bool × Inside) Held5 Around Around Around Around Around Inside Whole5 Inside element_found expr_found for_first_found link_found property_found stat_found block_found case_found catch_found condition_found declared_found function_found operand_found

pub fit_stat-roll : (y : Open Stat5-F) → stat_fit (roll-Stat5 y) ≡ p.stat_step (fit_stat y)
fit_stat-roll = fold-roll-Stat5 Bool FitExpr Bool FitLink Bool FitStat (Bool → Bool) FitCase (Bool → Bool) FitCondition Bool FitFunction FitOperand p.element_step p.expr_step p.for_first_step p.link_step p.property_step p.stat_step p.block_step p.case_step p.catch_step p.condition_step p.declared_step p.function_step p.operand_step

pub found_stat-roll : (y : Open Stat5-F) → stat_found (roll-Stat5 y) ≡ e.stat_step (found_stat y)
found_stat-roll = fold-roll-Stat5 Inside Found5 Around (Bool × Inside) Held5 Around Around Around Around Around Inside Whole5 Inside e.element_step e.expr_step e.for_first_step e.link_step e.property_step e.stat_step e.block_step e.case_step e.catch_step e.condition_step e.declared_step e.function_step e.operand_step

abbrev pub fit_block : Open Block5-F → Block5-F Bool FitExpr Bool FitLink Bool FitStat (Bool → Bool) FitCase (Bool → Bool) FitCondition Bool FitFunction FitOperand
fit_block = map-Block5 Element5 Expr5 ForFirst5 Link5 Property5 Stat5 Block5 Case5 Catch5 Condition5 Declared5 Function5 Operand5 Bool FitExpr Bool FitLink Bool FitStat (Bool → Bool) FitCase (Bool → Bool) FitCondition Bool FitFunction FitOperand element_fit expr_fit for_first_fit link_fit property_fit stat_fit block_fit case_fit catch_fit condition_fit declared_fit function_fit operand_fit

abbrev pub found_block : Open Block5-F → Block5-F Inside Found5 Around (Bool × Inside) Held5 Around Around Around Around Around Inside Whole5 Inside
found_block = map-Block5 Element5 Expr5 ForFirst5 Link5 Property5 Stat5 Block5 Case5 Catch5 Condition5 Declared5 Function5 Operand5 Inside Found5 Around (Bool × Inside) Held5 Around Around Around Around Around Inside Whole5 Inside element_found expr_found for_first_found link_found property_found stat_found block_found case_found catch_found condition_found declared_found function_found operand_found

pub fit_block-roll : (y : Open Block5-F) → block_fit (roll-Block5 y) ≡ p.block_step (fit_block y)
fit_block-roll = fold-roll-Block5 Bool FitExpr Bool FitLink Bool FitStat (Bool → Bool) FitCase (Bool → Bool) FitCondition Bool FitFunction FitOperand p.element_step p.expr_step p.for_first_step p.link_step p.property_step p.stat_step p.block_step p.case_step p.catch_step p.condition_step p.declared_step p.function_step p.operand_step

pub found_block-roll : (y : Open Block5-F) → block_found (roll-Block5 y) ≡ e.block_step (found_block y)
found_block-roll = fold-roll-Block5 Inside Found5 Around (Bool × Inside) Held5 Around Around Around Around Around Inside Whole5 Inside e.element_step e.expr_step e.for_first_step e.link_step e.property_step e.stat_step e.block_step e.case_step e.catch_step e.condition_step e.declared_step e.function_step e.operand_step

abbrev pub fit_case : Open Case5-F → Case5-F Bool FitExpr Bool FitLink Bool FitStat (Bool → Bool) FitCase (Bool → Bool) FitCondition Bool FitFunction FitOperand
fit_case = map-Case5 Element5 Expr5 ForFirst5 Link5 Property5 Stat5 Block5 Case5 Catch5 Condition5 Declared5 Function5 Operand5 Bool FitExpr Bool FitLink Bool FitStat (Bool → Bool) FitCase (Bool → Bool) FitCondition Bool FitFunction FitOperand element_fit expr_fit for_first_fit link_fit property_fit stat_fit block_fit case_fit catch_fit condition_fit declared_fit function_fit operand_fit

abbrev pub found_case : Open Case5-F → Case5-F Inside Found5 Around (Bool × Inside) Held5 Around Around Around Around Around Inside Whole5 Inside
found_case = map-Case5 Element5 Expr5 ForFirst5 Link5 Property5 Stat5 Block5 Case5 Catch5 Condition5 Declared5 Function5 Operand5 Inside Found5 Around (Bool × Inside) Held5 Around Around Around Around Around Inside Whole5 Inside element_found expr_found for_first_found link_found property_found stat_found block_found case_found catch_found condition_found declared_found function_found operand_found

pub fit_case-roll : (y : Open Case5-F) → case_fit (roll-Case5 y) ≡ p.case_step (fit_case y)
fit_case-roll = fold-roll-Case5 Bool FitExpr Bool FitLink Bool FitStat (Bool → Bool) FitCase (Bool → Bool) FitCondition Bool FitFunction FitOperand p.element_step p.expr_step p.for_first_step p.link_step p.property_step p.stat_step p.block_step p.case_step p.catch_step p.condition_step p.declared_step p.function_step p.operand_step

pub found_case-roll : (y : Open Case5-F) → case_found (roll-Case5 y) ≡ e.case_step (found_case y)
found_case-roll = fold-roll-Case5 Inside Found5 Around (Bool × Inside) Held5 Around Around Around Around Around Inside Whole5 Inside e.element_step e.expr_step e.for_first_step e.link_step e.property_step e.stat_step e.block_step e.case_step e.catch_step e.condition_step e.declared_step e.function_step e.operand_step

abbrev pub fit_catch : Open Catch5-F → Catch5-F Bool FitExpr Bool FitLink Bool FitStat (Bool → Bool) FitCase (Bool → Bool) FitCondition Bool FitFunction FitOperand
fit_catch = map-Catch5 Element5 Expr5 ForFirst5 Link5 Property5 Stat5 Block5 Case5 Catch5 Condition5 Declared5 Function5 Operand5 Bool FitExpr Bool FitLink Bool FitStat (Bool → Bool) FitCase (Bool → Bool) FitCondition Bool FitFunction FitOperand element_fit expr_fit for_first_fit link_fit property_fit stat_fit block_fit case_fit catch_fit condition_fit declared_fit function_fit operand_fit

abbrev pub found_catch : Open Catch5-F → Catch5-F Inside Found5 Around (Bool × Inside) Held5 Around Around Around Around Around Inside Whole5 Inside
found_catch = map-Catch5 Element5 Expr5 ForFirst5 Link5 Property5 Stat5 Block5 Case5 Catch5 Condition5 Declared5 Function5 Operand5 Inside Found5 Around (Bool × Inside) Held5 Around Around Around Around Around Inside Whole5 Inside element_found expr_found for_first_found link_found property_found stat_found block_found case_found catch_found condition_found declared_found function_found operand_found

pub fit_catch-roll : (y : Open Catch5-F) → catch_fit (roll-Catch5 y) ≡ p.catch_step (fit_catch y)
fit_catch-roll = fold-roll-Catch5 Bool FitExpr Bool FitLink Bool FitStat (Bool → Bool) FitCase (Bool → Bool) FitCondition Bool FitFunction FitOperand p.element_step p.expr_step p.for_first_step p.link_step p.property_step p.stat_step p.block_step p.case_step p.catch_step p.condition_step p.declared_step p.function_step p.operand_step

pub found_catch-roll : (y : Open Catch5-F) → catch_found (roll-Catch5 y) ≡ e.catch_step (found_catch y)
found_catch-roll = fold-roll-Catch5 Inside Found5 Around (Bool × Inside) Held5 Around Around Around Around Around Inside Whole5 Inside e.element_step e.expr_step e.for_first_step e.link_step e.property_step e.stat_step e.block_step e.case_step e.catch_step e.condition_step e.declared_step e.function_step e.operand_step

abbrev pub fit_condition : Open Condition5-F → Condition5-F Bool FitExpr Bool FitLink Bool FitStat (Bool → Bool) FitCase (Bool → Bool) FitCondition Bool FitFunction FitOperand
fit_condition = map-Condition5 Element5 Expr5 ForFirst5 Link5 Property5 Stat5 Block5 Case5 Catch5 Condition5 Declared5 Function5 Operand5 Bool FitExpr Bool FitLink Bool FitStat (Bool → Bool) FitCase (Bool → Bool) FitCondition Bool FitFunction FitOperand element_fit expr_fit for_first_fit link_fit property_fit stat_fit block_fit case_fit catch_fit condition_fit declared_fit function_fit operand_fit

abbrev pub found_condition : Open Condition5-F → Condition5-F Inside Found5 Around (Bool × Inside) Held5 Around Around Around Around Around Inside Whole5 Inside
found_condition = map-Condition5 Element5 Expr5 ForFirst5 Link5 Property5 Stat5 Block5 Case5 Catch5 Condition5 Declared5 Function5 Operand5 Inside Found5 Around (Bool × Inside) Held5 Around Around Around Around Around Inside Whole5 Inside element_found expr_found for_first_found link_found property_found stat_found block_found case_found catch_found condition_found declared_found function_found operand_found

pub fit_condition-roll : (y : Open Condition5-F) → condition_fit (roll-Condition5 y) ≡ p.condition_step (fit_condition y)
fit_condition-roll = fold-roll-Condition5 Bool FitExpr Bool FitLink Bool FitStat (Bool → Bool) FitCase (Bool → Bool) FitCondition Bool FitFunction FitOperand p.element_step p.expr_step p.for_first_step p.link_step p.property_step p.stat_step p.block_step p.case_step p.catch_step p.condition_step p.declared_step p.function_step p.operand_step

pub found_condition-roll : (y : Open Condition5-F) → condition_found (roll-Condition5 y) ≡ e.condition_step (found_condition y)
found_condition-roll = fold-roll-Condition5 Inside Found5 Around (Bool × Inside) Held5 Around Around Around Around Around Inside Whole5 Inside e.element_step e.expr_step e.for_first_step e.link_step e.property_step e.stat_step e.block_step e.case_step e.catch_step e.condition_step e.declared_step e.function_step e.operand_step

abbrev pub fit_declared : Open Declared5-F → Declared5-F Bool FitExpr Bool FitLink Bool FitStat (Bool → Bool) FitCase (Bool → Bool) FitCondition Bool FitFunction FitOperand
fit_declared = map-Declared5 Element5 Expr5 ForFirst5 Link5 Property5 Stat5 Block5 Case5 Catch5 Condition5 Declared5 Function5 Operand5 Bool FitExpr Bool FitLink Bool FitStat (Bool → Bool) FitCase (Bool → Bool) FitCondition Bool FitFunction FitOperand element_fit expr_fit for_first_fit link_fit property_fit stat_fit block_fit case_fit catch_fit condition_fit declared_fit function_fit operand_fit

abbrev pub found_declared : Open Declared5-F → Declared5-F Inside Found5 Around (Bool × Inside) Held5 Around Around Around Around Around Inside Whole5 Inside
found_declared = map-Declared5 Element5 Expr5 ForFirst5 Link5 Property5 Stat5 Block5 Case5 Catch5 Condition5 Declared5 Function5 Operand5 Inside Found5 Around (Bool × Inside) Held5 Around Around Around Around Around Inside Whole5 Inside element_found expr_found for_first_found link_found property_found stat_found block_found case_found catch_found condition_found declared_found function_found operand_found

pub fit_declared-roll : (y : Open Declared5-F) → declared_fit (roll-Declared5 y) ≡ p.declared_step (fit_declared y)
fit_declared-roll = fold-roll-Declared5 Bool FitExpr Bool FitLink Bool FitStat (Bool → Bool) FitCase (Bool → Bool) FitCondition Bool FitFunction FitOperand p.element_step p.expr_step p.for_first_step p.link_step p.property_step p.stat_step p.block_step p.case_step p.catch_step p.condition_step p.declared_step p.function_step p.operand_step

pub found_declared-roll : (y : Open Declared5-F) → declared_found (roll-Declared5 y) ≡ e.declared_step (found_declared y)
found_declared-roll = fold-roll-Declared5 Inside Found5 Around (Bool × Inside) Held5 Around Around Around Around Around Inside Whole5 Inside e.element_step e.expr_step e.for_first_step e.link_step e.property_step e.stat_step e.block_step e.case_step e.catch_step e.condition_step e.declared_step e.function_step e.operand_step

abbrev pub fit_function : Open Function5-F → Function5-F Bool FitExpr Bool FitLink Bool FitStat (Bool → Bool) FitCase (Bool → Bool) FitCondition Bool FitFunction FitOperand
fit_function = map-Function5 Element5 Expr5 ForFirst5 Link5 Property5 Stat5 Block5 Case5 Catch5 Condition5 Declared5 Function5 Operand5 Bool FitExpr Bool FitLink Bool FitStat (Bool → Bool) FitCase (Bool → Bool) FitCondition Bool FitFunction FitOperand element_fit expr_fit for_first_fit link_fit property_fit stat_fit block_fit case_fit catch_fit condition_fit declared_fit function_fit operand_fit

abbrev pub found_function : Open Function5-F → Function5-F Inside Found5 Around (Bool × Inside) Held5 Around Around Around Around Around Inside Whole5 Inside
found_function = map-Function5 Element5 Expr5 ForFirst5 Link5 Property5 Stat5 Block5 Case5 Catch5 Condition5 Declared5 Function5 Operand5 Inside Found5 Around (Bool × Inside) Held5 Around Around Around Around Around Inside Whole5 Inside element_found expr_found for_first_found link_found property_found stat_found block_found case_found catch_found condition_found declared_found function_found operand_found

pub fit_function-roll : (y : Open Function5-F) → function_fit (roll-Function5 y) ≡ p.function_step (fit_function y)
fit_function-roll = fold-roll-Function5 Bool FitExpr Bool FitLink Bool FitStat (Bool → Bool) FitCase (Bool → Bool) FitCondition Bool FitFunction FitOperand p.element_step p.expr_step p.for_first_step p.link_step p.property_step p.stat_step p.block_step p.case_step p.catch_step p.condition_step p.declared_step p.function_step p.operand_step

pub found_function-roll : (y : Open Function5-F) → function_found (roll-Function5 y) ≡ e.function_step (found_function y)
found_function-roll = fold-roll-Function5 Inside Found5 Around (Bool × Inside) Held5 Around Around Around Around Around Inside Whole5 Inside e.element_step e.expr_step e.for_first_step e.link_step e.property_step e.stat_step e.block_step e.case_step e.catch_step e.condition_step e.declared_step e.function_step e.operand_step

abbrev pub fit_operand : Open Operand5-F → Operand5-F Bool FitExpr Bool FitLink Bool FitStat (Bool → Bool) FitCase (Bool → Bool) FitCondition Bool FitFunction FitOperand
fit_operand = map-Operand5 Element5 Expr5 ForFirst5 Link5 Property5 Stat5 Block5 Case5 Catch5 Condition5 Declared5 Function5 Operand5 Bool FitExpr Bool FitLink Bool FitStat (Bool → Bool) FitCase (Bool → Bool) FitCondition Bool FitFunction FitOperand element_fit expr_fit for_first_fit link_fit property_fit stat_fit block_fit case_fit catch_fit condition_fit declared_fit function_fit operand_fit

abbrev pub found_operand : Open Operand5-F → Operand5-F Inside Found5 Around (Bool × Inside) Held5 Around Around Around Around Around Inside Whole5 Inside
found_operand = map-Operand5 Element5 Expr5 ForFirst5 Link5 Property5 Stat5 Block5 Case5 Catch5 Condition5 Declared5 Function5 Operand5 Inside Found5 Around (Bool × Inside) Held5 Around Around Around Around Around Inside Whole5 Inside element_found expr_found for_first_found link_found property_found stat_found block_found case_found catch_found condition_found declared_found function_found operand_found

pub fit_operand-roll : (y : Open Operand5-F) → operand_fit (roll-Operand5 y) ≡ p.operand_step (fit_operand y)
fit_operand-roll = fold-roll-Operand5 Bool FitExpr Bool FitLink Bool FitStat (Bool → Bool) FitCase (Bool → Bool) FitCondition Bool FitFunction FitOperand p.element_step p.expr_step p.for_first_step p.link_step p.property_step p.stat_step p.block_step p.case_step p.catch_step p.condition_step p.declared_step p.function_step p.operand_step

pub found_operand-roll : (y : Open Operand5-F) → operand_found (roll-Operand5 y) ≡ e.operand_step (found_operand y)
found_operand-roll = fold-roll-Operand5 Inside Found5 Around (Bool × Inside) Held5 Around Around Around Around Around Inside Whole5 Inside e.element_step e.expr_step e.for_first_step e.link_step e.property_step e.stat_step e.block_step e.case_step e.catch_step e.condition_step e.declared_step e.function_step e.operand_step

pub fit_expr-out : (x : Expr5) → expr_fit x ≡ p.expr_step (fit_expr (out-Expr5 x))
fit_expr-out = fold_out-Expr5 Bool FitExpr Bool FitLink Bool FitStat (Bool → Bool) FitCase (Bool → Bool) FitCondition Bool FitFunction FitOperand p.element_step p.expr_step p.for_first_step p.link_step p.property_step p.stat_step p.block_step p.case_step p.catch_step p.condition_step p.declared_step p.function_step p.operand_step

pub found_expr-out : (x : Expr5) → expr_found x ≡ e.expr_step (found_expr (out-Expr5 x))
found_expr-out = fold_out-Expr5 Inside Found5 Around (Bool × Inside) Held5 Around Around Around Around Around Inside Whole5 Inside e.element_step e.expr_step e.for_first_step e.link_step e.property_step e.stat_step e.block_step e.case_step e.catch_step e.condition_step e.declared_step e.function_step e.operand_step

pub fit_operand-out : (x : Operand5) → operand_fit x ≡ p.operand_step (fit_operand (out-Operand5 x))
fit_operand-out = fold_out-Operand5 Bool FitExpr Bool FitLink Bool FitStat (Bool → Bool) FitCase (Bool → Bool) FitCondition Bool FitFunction FitOperand p.element_step p.expr_step p.for_first_step p.link_step p.property_step p.stat_step p.block_step p.case_step p.catch_step p.condition_step p.declared_step p.function_step p.operand_step

pub fit_case-out : (x : Case5) → case_fit x ≡ p.case_step (fit_case (out-Case5 x))
fit_case-out = fold_out-Case5 Bool FitExpr Bool FitLink Bool FitStat (Bool → Bool) FitCase (Bool → Bool) FitCondition Bool FitFunction FitOperand p.element_step p.expr_step p.for_first_step p.link_step p.property_step p.stat_step p.block_step p.case_step p.catch_step p.condition_step p.declared_step p.function_step p.operand_step

pub found_case-out : (x : Case5) → case_found x ≡ e.case_step (found_case (out-Case5 x))
found_case-out = fold_out-Case5 Inside Found5 Around (Bool × Inside) Held5 Around Around Around Around Around Inside Whole5 Inside e.element_step e.expr_step e.for_first_step e.link_step e.property_step e.stat_step e.block_step e.case_step e.catch_step e.condition_step e.declared_step e.function_step e.operand_step
