-- One layer of a tree, whose parts come with what is shown of them, and what the fold gives for it.
use Rattle.std.proofs.Common.{◌≡◌, Bool}
use Rattle.es5_ast.specs.declared.tree.Element5.{Element5, roll-Element5, map-Element5, fold-roll-Element5}
use Rattle.es5_ast.specs.declared.tree.Expr5.{Expr5, roll-Expr5, map-Expr5, fold-roll-Expr5}
use Rattle.es5_ast.specs.declared.tree.ForFirst5.{ForFirst5, roll-ForFirst5, map-ForFirst5, fold-roll-ForFirst5}
use Rattle.es5_ast.specs.declared.tree.Link5.{Link5, roll-Link5, map-Link5, fold-roll-Link5}
use Rattle.es5_ast.specs.declared.tree.Property5.{Property5, roll-Property5, map-Property5, fold-roll-Property5}
use Rattle.es5_ast.specs.declared.tree.Stat5.{Stat5, roll-Stat5, map-Stat5, fold-roll-Stat5}
use Rattle.es5_ast.specs.declared.tree.Block5.{Block5, roll-Block5, map-Block5, fold-roll-Block5}
use Rattle.es5_ast.specs.declared.tree.Case5.{Case5, roll-Case5, map-Case5, fold-roll-Case5}
use Rattle.es5_ast.specs.declared.tree.Catch5.{Catch5, roll-Catch5, map-Catch5, fold-roll-Catch5}
use Rattle.es5_ast.specs.declared.tree.Condition5.{Condition5, roll-Condition5, map-Condition5, fold-roll-Condition5}
use Rattle.es5_ast.specs.declared.tree.Declared5.{Declared5, roll-Declared5, map-Declared5, fold-roll-Declared5}
use Rattle.es5_ast.specs.declared.tree.Function5.{Function5, roll-Function5, map-Function5, fold-roll-Function5}
use Rattle.es5_ast.specs.declared.tree.Operand5.{Operand5, roll-Operand5, map-Operand5, fold-roll-Operand5}
use Rattle.es5_ast.specs.declared.tree.Element5.TheOpen.{Element5-F, Expr5-F, ForFirst5-F, Link5-F, Property5-F, Stat5-F, Block5-F, Case5-F, Catch5-F, Condition5-F, Declared5-F, Function5-F, Operand5-F}
use Rattle.es5_printable.specs.Printable.{FitExpr, FitLink, FitOperand, FitFunction, FitStat, FitCase, FitCondition, element_step, expr_step, for_first_step, link_step, property_step, stat_step, block_step, case_step, catch_step, condition_step, declared_step, function_step, operand_step, element_fit, expr_fit, for_first_fit, link_fit, property_fit, stat_fit, block_fit, case_fit, catch_fit, condition_fit, declared_fit, function_fit, operand_fit}
use Rattle.es5_printable.proofs.Shapes.{OfElement, OfExpr, OfForFirst, OfLink, OfProperty, OfStat, OfBlock, OfCase, OfCatch, OfCondition, OfDeclared, OfFunction, OfOperand}

abbrev pub With : {A : Type 0} → (A → Type 0) → Type 0
With {A} P = (x : A) × P x

abbrev pub Open : (Type 0 → Type 0 → Type 0 → Type 0 → Type 0 → Type 0 → Type 0 → Type 0 → Type 0 → Type 0 → Type 0 → Type 0 → Type 0 → Type 0) → Type 0
Open Of = Of Element5 Expr5 ForFirst5 Link5 Property5 Stat5 Block5 Case5 Catch5 Condition5 Declared5 Function5 Operand5

abbrev pub Shown : (Type 0 → Type 0 → Type 0 → Type 0 → Type 0 → Type 0 → Type 0 → Type 0 → Type 0 → Type 0 → Type 0 → Type 0 → Type 0 → Type 0) → Type 0
Shown Of = Of (With OfElement) (With OfExpr) (With OfForFirst) (With OfLink) (With OfProperty) (With OfStat) (With OfBlock) (With OfCase) (With OfCatch) (With OfCondition) (With OfDeclared) (With OfFunction) (With OfOperand)

-- the layer of the nodes themselves
abbrev pub bare_element : Shown Element5-F → Open Element5-F
bare_element = map-Element5 (With OfElement) (With OfExpr) (With OfForFirst) (With OfLink) (With OfProperty) (With OfStat) (With OfBlock) (With OfCase) (With OfCatch) (With OfCondition) (With OfDeclared) (With OfFunction) (With OfOperand) Element5 Expr5 ForFirst5 Link5 Property5 Stat5 Block5 Case5 Catch5 Condition5 Declared5 Function5 Operand5 (λ e. e.0) (λ e. e.0) (λ e. e.0) (λ e. e.0) (λ e. e.0) (λ e. e.0) (λ e. e.0) (λ e. e.0) (λ e. e.0) (λ e. e.0) (λ e. e.0) (λ e. e.0) (λ e. e.0)

abbrev pub fit_element : Open Element5-F → Element5-F Bool FitExpr Bool FitLink Bool FitStat (Bool → Bool) FitCase (Bool → Bool) FitCondition Bool FitFunction FitOperand
fit_element = map-Element5 Element5 Expr5 ForFirst5 Link5 Property5 Stat5 Block5 Case5 Catch5 Condition5 Declared5 Function5 Operand5 Bool FitExpr Bool FitLink Bool FitStat (Bool → Bool) FitCase (Bool → Bool) FitCondition Bool FitFunction FitOperand element_fit expr_fit for_first_fit link_fit property_fit stat_fit block_fit case_fit catch_fit condition_fit declared_fit function_fit operand_fit

pub element-roll : (x : Open Element5-F) → element_fit (roll-Element5 x) ≡ element_step (fit_element x)
element-roll = fold-roll-Element5 Bool FitExpr Bool FitLink Bool FitStat (Bool → Bool) FitCase (Bool → Bool) FitCondition Bool FitFunction FitOperand element_step expr_step for_first_step link_step property_step stat_step block_step case_step catch_step condition_step declared_step function_step operand_step

abbrev pub bare_expr : Shown Expr5-F → Open Expr5-F
bare_expr = map-Expr5 (With OfElement) (With OfExpr) (With OfForFirst) (With OfLink) (With OfProperty) (With OfStat) (With OfBlock) (With OfCase) (With OfCatch) (With OfCondition) (With OfDeclared) (With OfFunction) (With OfOperand) Element5 Expr5 ForFirst5 Link5 Property5 Stat5 Block5 Case5 Catch5 Condition5 Declared5 Function5 Operand5 (λ e. e.0) (λ e. e.0) (λ e. e.0) (λ e. e.0) (λ e. e.0) (λ e. e.0) (λ e. e.0) (λ e. e.0) (λ e. e.0) (λ e. e.0) (λ e. e.0) (λ e. e.0) (λ e. e.0)

abbrev pub fit_expr : Open Expr5-F → Expr5-F Bool FitExpr Bool FitLink Bool FitStat (Bool → Bool) FitCase (Bool → Bool) FitCondition Bool FitFunction FitOperand
fit_expr = map-Expr5 Element5 Expr5 ForFirst5 Link5 Property5 Stat5 Block5 Case5 Catch5 Condition5 Declared5 Function5 Operand5 Bool FitExpr Bool FitLink Bool FitStat (Bool → Bool) FitCase (Bool → Bool) FitCondition Bool FitFunction FitOperand element_fit expr_fit for_first_fit link_fit property_fit stat_fit block_fit case_fit catch_fit condition_fit declared_fit function_fit operand_fit

pub expr-roll : (x : Open Expr5-F) → expr_fit (roll-Expr5 x) ≡ expr_step (fit_expr x)
expr-roll = fold-roll-Expr5 Bool FitExpr Bool FitLink Bool FitStat (Bool → Bool) FitCase (Bool → Bool) FitCondition Bool FitFunction FitOperand element_step expr_step for_first_step link_step property_step stat_step block_step case_step catch_step condition_step declared_step function_step operand_step

abbrev pub bare_for_first : Shown ForFirst5-F → Open ForFirst5-F
bare_for_first = map-ForFirst5 (With OfElement) (With OfExpr) (With OfForFirst) (With OfLink) (With OfProperty) (With OfStat) (With OfBlock) (With OfCase) (With OfCatch) (With OfCondition) (With OfDeclared) (With OfFunction) (With OfOperand) Element5 Expr5 ForFirst5 Link5 Property5 Stat5 Block5 Case5 Catch5 Condition5 Declared5 Function5 Operand5 (λ e. e.0) (λ e. e.0) (λ e. e.0) (λ e. e.0) (λ e. e.0) (λ e. e.0) (λ e. e.0) (λ e. e.0) (λ e. e.0) (λ e. e.0) (λ e. e.0) (λ e. e.0) (λ e. e.0)

abbrev pub fit_for_first : Open ForFirst5-F → ForFirst5-F Bool FitExpr Bool FitLink Bool FitStat (Bool → Bool) FitCase (Bool → Bool) FitCondition Bool FitFunction FitOperand
fit_for_first = map-ForFirst5 Element5 Expr5 ForFirst5 Link5 Property5 Stat5 Block5 Case5 Catch5 Condition5 Declared5 Function5 Operand5 Bool FitExpr Bool FitLink Bool FitStat (Bool → Bool) FitCase (Bool → Bool) FitCondition Bool FitFunction FitOperand element_fit expr_fit for_first_fit link_fit property_fit stat_fit block_fit case_fit catch_fit condition_fit declared_fit function_fit operand_fit

pub for_first-roll : (x : Open ForFirst5-F) → for_first_fit (roll-ForFirst5 x) ≡ for_first_step (fit_for_first x)
for_first-roll = fold-roll-ForFirst5 Bool FitExpr Bool FitLink Bool FitStat (Bool → Bool) FitCase (Bool → Bool) FitCondition Bool FitFunction FitOperand element_step expr_step for_first_step link_step property_step stat_step block_step case_step catch_step condition_step declared_step function_step operand_step

abbrev pub bare_link : Shown Link5-F → Open Link5-F
bare_link = map-Link5 (With OfElement) (With OfExpr) (With OfForFirst) (With OfLink) (With OfProperty) (With OfStat) (With OfBlock) (With OfCase) (With OfCatch) (With OfCondition) (With OfDeclared) (With OfFunction) (With OfOperand) Element5 Expr5 ForFirst5 Link5 Property5 Stat5 Block5 Case5 Catch5 Condition5 Declared5 Function5 Operand5 (λ e. e.0) (λ e. e.0) (λ e. e.0) (λ e. e.0) (λ e. e.0) (λ e. e.0) (λ e. e.0) (λ e. e.0) (λ e. e.0) (λ e. e.0) (λ e. e.0) (λ e. e.0) (λ e. e.0)

abbrev pub fit_link : Open Link5-F → Link5-F Bool FitExpr Bool FitLink Bool FitStat (Bool → Bool) FitCase (Bool → Bool) FitCondition Bool FitFunction FitOperand
fit_link = map-Link5 Element5 Expr5 ForFirst5 Link5 Property5 Stat5 Block5 Case5 Catch5 Condition5 Declared5 Function5 Operand5 Bool FitExpr Bool FitLink Bool FitStat (Bool → Bool) FitCase (Bool → Bool) FitCondition Bool FitFunction FitOperand element_fit expr_fit for_first_fit link_fit property_fit stat_fit block_fit case_fit catch_fit condition_fit declared_fit function_fit operand_fit

pub link-roll : (x : Open Link5-F) → link_fit (roll-Link5 x) ≡ link_step (fit_link x)
link-roll = fold-roll-Link5 Bool FitExpr Bool FitLink Bool FitStat (Bool → Bool) FitCase (Bool → Bool) FitCondition Bool FitFunction FitOperand element_step expr_step for_first_step link_step property_step stat_step block_step case_step catch_step condition_step declared_step function_step operand_step

abbrev pub bare_property : Shown Property5-F → Open Property5-F
bare_property = map-Property5 (With OfElement) (With OfExpr) (With OfForFirst) (With OfLink) (With OfProperty) (With OfStat) (With OfBlock) (With OfCase) (With OfCatch) (With OfCondition) (With OfDeclared) (With OfFunction) (With OfOperand) Element5 Expr5 ForFirst5 Link5 Property5 Stat5 Block5 Case5 Catch5 Condition5 Declared5 Function5 Operand5 (λ e. e.0) (λ e. e.0) (λ e. e.0) (λ e. e.0) (λ e. e.0) (λ e. e.0) (λ e. e.0) (λ e. e.0) (λ e. e.0) (λ e. e.0) (λ e. e.0) (λ e. e.0) (λ e. e.0)

abbrev pub fit_property : Open Property5-F → Property5-F Bool FitExpr Bool FitLink Bool FitStat (Bool → Bool) FitCase (Bool → Bool) FitCondition Bool FitFunction FitOperand
fit_property = map-Property5 Element5 Expr5 ForFirst5 Link5 Property5 Stat5 Block5 Case5 Catch5 Condition5 Declared5 Function5 Operand5 Bool FitExpr Bool FitLink Bool FitStat (Bool → Bool) FitCase (Bool → Bool) FitCondition Bool FitFunction FitOperand element_fit expr_fit for_first_fit link_fit property_fit stat_fit block_fit case_fit catch_fit condition_fit declared_fit function_fit operand_fit

pub property-roll : (x : Open Property5-F) → property_fit (roll-Property5 x) ≡ property_step (fit_property x)
property-roll = fold-roll-Property5 Bool FitExpr Bool FitLink Bool FitStat (Bool → Bool) FitCase (Bool → Bool) FitCondition Bool FitFunction FitOperand element_step expr_step for_first_step link_step property_step stat_step block_step case_step catch_step condition_step declared_step function_step operand_step

abbrev pub bare_stat : Shown Stat5-F → Open Stat5-F
bare_stat = map-Stat5 (With OfElement) (With OfExpr) (With OfForFirst) (With OfLink) (With OfProperty) (With OfStat) (With OfBlock) (With OfCase) (With OfCatch) (With OfCondition) (With OfDeclared) (With OfFunction) (With OfOperand) Element5 Expr5 ForFirst5 Link5 Property5 Stat5 Block5 Case5 Catch5 Condition5 Declared5 Function5 Operand5 (λ e. e.0) (λ e. e.0) (λ e. e.0) (λ e. e.0) (λ e. e.0) (λ e. e.0) (λ e. e.0) (λ e. e.0) (λ e. e.0) (λ e. e.0) (λ e. e.0) (λ e. e.0) (λ e. e.0)

abbrev pub fit_stat : Open Stat5-F → Stat5-F Bool FitExpr Bool FitLink Bool FitStat (Bool → Bool) FitCase (Bool → Bool) FitCondition Bool FitFunction FitOperand
fit_stat = map-Stat5 Element5 Expr5 ForFirst5 Link5 Property5 Stat5 Block5 Case5 Catch5 Condition5 Declared5 Function5 Operand5 Bool FitExpr Bool FitLink Bool FitStat (Bool → Bool) FitCase (Bool → Bool) FitCondition Bool FitFunction FitOperand element_fit expr_fit for_first_fit link_fit property_fit stat_fit block_fit case_fit catch_fit condition_fit declared_fit function_fit operand_fit

pub stat-roll : (x : Open Stat5-F) → stat_fit (roll-Stat5 x) ≡ stat_step (fit_stat x)
stat-roll = fold-roll-Stat5 Bool FitExpr Bool FitLink Bool FitStat (Bool → Bool) FitCase (Bool → Bool) FitCondition Bool FitFunction FitOperand element_step expr_step for_first_step link_step property_step stat_step block_step case_step catch_step condition_step declared_step function_step operand_step

abbrev pub bare_block : Shown Block5-F → Open Block5-F
bare_block = map-Block5 (With OfElement) (With OfExpr) (With OfForFirst) (With OfLink) (With OfProperty) (With OfStat) (With OfBlock) (With OfCase) (With OfCatch) (With OfCondition) (With OfDeclared) (With OfFunction) (With OfOperand) Element5 Expr5 ForFirst5 Link5 Property5 Stat5 Block5 Case5 Catch5 Condition5 Declared5 Function5 Operand5 (λ e. e.0) (λ e. e.0) (λ e. e.0) (λ e. e.0) (λ e. e.0) (λ e. e.0) (λ e. e.0) (λ e. e.0) (λ e. e.0) (λ e. e.0) (λ e. e.0) (λ e. e.0) (λ e. e.0)

abbrev pub fit_block : Open Block5-F → Block5-F Bool FitExpr Bool FitLink Bool FitStat (Bool → Bool) FitCase (Bool → Bool) FitCondition Bool FitFunction FitOperand
fit_block = map-Block5 Element5 Expr5 ForFirst5 Link5 Property5 Stat5 Block5 Case5 Catch5 Condition5 Declared5 Function5 Operand5 Bool FitExpr Bool FitLink Bool FitStat (Bool → Bool) FitCase (Bool → Bool) FitCondition Bool FitFunction FitOperand element_fit expr_fit for_first_fit link_fit property_fit stat_fit block_fit case_fit catch_fit condition_fit declared_fit function_fit operand_fit

pub block-roll : (x : Open Block5-F) → block_fit (roll-Block5 x) ≡ block_step (fit_block x)
block-roll = fold-roll-Block5 Bool FitExpr Bool FitLink Bool FitStat (Bool → Bool) FitCase (Bool → Bool) FitCondition Bool FitFunction FitOperand element_step expr_step for_first_step link_step property_step stat_step block_step case_step catch_step condition_step declared_step function_step operand_step

abbrev pub bare_case : Shown Case5-F → Open Case5-F
bare_case = map-Case5 (With OfElement) (With OfExpr) (With OfForFirst) (With OfLink) (With OfProperty) (With OfStat) (With OfBlock) (With OfCase) (With OfCatch) (With OfCondition) (With OfDeclared) (With OfFunction) (With OfOperand) Element5 Expr5 ForFirst5 Link5 Property5 Stat5 Block5 Case5 Catch5 Condition5 Declared5 Function5 Operand5 (λ e. e.0) (λ e. e.0) (λ e. e.0) (λ e. e.0) (λ e. e.0) (λ e. e.0) (λ e. e.0) (λ e. e.0) (λ e. e.0) (λ e. e.0) (λ e. e.0) (λ e. e.0) (λ e. e.0)

abbrev pub fit_case : Open Case5-F → Case5-F Bool FitExpr Bool FitLink Bool FitStat (Bool → Bool) FitCase (Bool → Bool) FitCondition Bool FitFunction FitOperand
fit_case = map-Case5 Element5 Expr5 ForFirst5 Link5 Property5 Stat5 Block5 Case5 Catch5 Condition5 Declared5 Function5 Operand5 Bool FitExpr Bool FitLink Bool FitStat (Bool → Bool) FitCase (Bool → Bool) FitCondition Bool FitFunction FitOperand element_fit expr_fit for_first_fit link_fit property_fit stat_fit block_fit case_fit catch_fit condition_fit declared_fit function_fit operand_fit

pub case-roll : (x : Open Case5-F) → case_fit (roll-Case5 x) ≡ case_step (fit_case x)
case-roll = fold-roll-Case5 Bool FitExpr Bool FitLink Bool FitStat (Bool → Bool) FitCase (Bool → Bool) FitCondition Bool FitFunction FitOperand element_step expr_step for_first_step link_step property_step stat_step block_step case_step catch_step condition_step declared_step function_step operand_step

abbrev pub bare_catch : Shown Catch5-F → Open Catch5-F
bare_catch = map-Catch5 (With OfElement) (With OfExpr) (With OfForFirst) (With OfLink) (With OfProperty) (With OfStat) (With OfBlock) (With OfCase) (With OfCatch) (With OfCondition) (With OfDeclared) (With OfFunction) (With OfOperand) Element5 Expr5 ForFirst5 Link5 Property5 Stat5 Block5 Case5 Catch5 Condition5 Declared5 Function5 Operand5 (λ e. e.0) (λ e. e.0) (λ e. e.0) (λ e. e.0) (λ e. e.0) (λ e. e.0) (λ e. e.0) (λ e. e.0) (λ e. e.0) (λ e. e.0) (λ e. e.0) (λ e. e.0) (λ e. e.0)

abbrev pub fit_catch : Open Catch5-F → Catch5-F Bool FitExpr Bool FitLink Bool FitStat (Bool → Bool) FitCase (Bool → Bool) FitCondition Bool FitFunction FitOperand
fit_catch = map-Catch5 Element5 Expr5 ForFirst5 Link5 Property5 Stat5 Block5 Case5 Catch5 Condition5 Declared5 Function5 Operand5 Bool FitExpr Bool FitLink Bool FitStat (Bool → Bool) FitCase (Bool → Bool) FitCondition Bool FitFunction FitOperand element_fit expr_fit for_first_fit link_fit property_fit stat_fit block_fit case_fit catch_fit condition_fit declared_fit function_fit operand_fit

pub catch-roll : (x : Open Catch5-F) → catch_fit (roll-Catch5 x) ≡ catch_step (fit_catch x)
catch-roll = fold-roll-Catch5 Bool FitExpr Bool FitLink Bool FitStat (Bool → Bool) FitCase (Bool → Bool) FitCondition Bool FitFunction FitOperand element_step expr_step for_first_step link_step property_step stat_step block_step case_step catch_step condition_step declared_step function_step operand_step

abbrev pub bare_condition : Shown Condition5-F → Open Condition5-F
bare_condition = map-Condition5 (With OfElement) (With OfExpr) (With OfForFirst) (With OfLink) (With OfProperty) (With OfStat) (With OfBlock) (With OfCase) (With OfCatch) (With OfCondition) (With OfDeclared) (With OfFunction) (With OfOperand) Element5 Expr5 ForFirst5 Link5 Property5 Stat5 Block5 Case5 Catch5 Condition5 Declared5 Function5 Operand5 (λ e. e.0) (λ e. e.0) (λ e. e.0) (λ e. e.0) (λ e. e.0) (λ e. e.0) (λ e. e.0) (λ e. e.0) (λ e. e.0) (λ e. e.0) (λ e. e.0) (λ e. e.0) (λ e. e.0)

abbrev pub fit_condition : Open Condition5-F → Condition5-F Bool FitExpr Bool FitLink Bool FitStat (Bool → Bool) FitCase (Bool → Bool) FitCondition Bool FitFunction FitOperand
fit_condition = map-Condition5 Element5 Expr5 ForFirst5 Link5 Property5 Stat5 Block5 Case5 Catch5 Condition5 Declared5 Function5 Operand5 Bool FitExpr Bool FitLink Bool FitStat (Bool → Bool) FitCase (Bool → Bool) FitCondition Bool FitFunction FitOperand element_fit expr_fit for_first_fit link_fit property_fit stat_fit block_fit case_fit catch_fit condition_fit declared_fit function_fit operand_fit

pub condition-roll : (x : Open Condition5-F) → condition_fit (roll-Condition5 x) ≡ condition_step (fit_condition x)
condition-roll = fold-roll-Condition5 Bool FitExpr Bool FitLink Bool FitStat (Bool → Bool) FitCase (Bool → Bool) FitCondition Bool FitFunction FitOperand element_step expr_step for_first_step link_step property_step stat_step block_step case_step catch_step condition_step declared_step function_step operand_step

abbrev pub bare_declared : Shown Declared5-F → Open Declared5-F
bare_declared = map-Declared5 (With OfElement) (With OfExpr) (With OfForFirst) (With OfLink) (With OfProperty) (With OfStat) (With OfBlock) (With OfCase) (With OfCatch) (With OfCondition) (With OfDeclared) (With OfFunction) (With OfOperand) Element5 Expr5 ForFirst5 Link5 Property5 Stat5 Block5 Case5 Catch5 Condition5 Declared5 Function5 Operand5 (λ e. e.0) (λ e. e.0) (λ e. e.0) (λ e. e.0) (λ e. e.0) (λ e. e.0) (λ e. e.0) (λ e. e.0) (λ e. e.0) (λ e. e.0) (λ e. e.0) (λ e. e.0) (λ e. e.0)

abbrev pub fit_declared : Open Declared5-F → Declared5-F Bool FitExpr Bool FitLink Bool FitStat (Bool → Bool) FitCase (Bool → Bool) FitCondition Bool FitFunction FitOperand
fit_declared = map-Declared5 Element5 Expr5 ForFirst5 Link5 Property5 Stat5 Block5 Case5 Catch5 Condition5 Declared5 Function5 Operand5 Bool FitExpr Bool FitLink Bool FitStat (Bool → Bool) FitCase (Bool → Bool) FitCondition Bool FitFunction FitOperand element_fit expr_fit for_first_fit link_fit property_fit stat_fit block_fit case_fit catch_fit condition_fit declared_fit function_fit operand_fit

pub declared-roll : (x : Open Declared5-F) → declared_fit (roll-Declared5 x) ≡ declared_step (fit_declared x)
declared-roll = fold-roll-Declared5 Bool FitExpr Bool FitLink Bool FitStat (Bool → Bool) FitCase (Bool → Bool) FitCondition Bool FitFunction FitOperand element_step expr_step for_first_step link_step property_step stat_step block_step case_step catch_step condition_step declared_step function_step operand_step

abbrev pub bare_function : Shown Function5-F → Open Function5-F
bare_function = map-Function5 (With OfElement) (With OfExpr) (With OfForFirst) (With OfLink) (With OfProperty) (With OfStat) (With OfBlock) (With OfCase) (With OfCatch) (With OfCondition) (With OfDeclared) (With OfFunction) (With OfOperand) Element5 Expr5 ForFirst5 Link5 Property5 Stat5 Block5 Case5 Catch5 Condition5 Declared5 Function5 Operand5 (λ e. e.0) (λ e. e.0) (λ e. e.0) (λ e. e.0) (λ e. e.0) (λ e. e.0) (λ e. e.0) (λ e. e.0) (λ e. e.0) (λ e. e.0) (λ e. e.0) (λ e. e.0) (λ e. e.0)

abbrev pub fit_function : Open Function5-F → Function5-F Bool FitExpr Bool FitLink Bool FitStat (Bool → Bool) FitCase (Bool → Bool) FitCondition Bool FitFunction FitOperand
fit_function = map-Function5 Element5 Expr5 ForFirst5 Link5 Property5 Stat5 Block5 Case5 Catch5 Condition5 Declared5 Function5 Operand5 Bool FitExpr Bool FitLink Bool FitStat (Bool → Bool) FitCase (Bool → Bool) FitCondition Bool FitFunction FitOperand element_fit expr_fit for_first_fit link_fit property_fit stat_fit block_fit case_fit catch_fit condition_fit declared_fit function_fit operand_fit

pub function-roll : (x : Open Function5-F) → function_fit (roll-Function5 x) ≡ function_step (fit_function x)
function-roll = fold-roll-Function5 Bool FitExpr Bool FitLink Bool FitStat (Bool → Bool) FitCase (Bool → Bool) FitCondition Bool FitFunction FitOperand element_step expr_step for_first_step link_step property_step stat_step block_step case_step catch_step condition_step declared_step function_step operand_step

abbrev pub bare_operand : Shown Operand5-F → Open Operand5-F
bare_operand = map-Operand5 (With OfElement) (With OfExpr) (With OfForFirst) (With OfLink) (With OfProperty) (With OfStat) (With OfBlock) (With OfCase) (With OfCatch) (With OfCondition) (With OfDeclared) (With OfFunction) (With OfOperand) Element5 Expr5 ForFirst5 Link5 Property5 Stat5 Block5 Case5 Catch5 Condition5 Declared5 Function5 Operand5 (λ e. e.0) (λ e. e.0) (λ e. e.0) (λ e. e.0) (λ e. e.0) (λ e. e.0) (λ e. e.0) (λ e. e.0) (λ e. e.0) (λ e. e.0) (λ e. e.0) (λ e. e.0) (λ e. e.0)

abbrev pub fit_operand : Open Operand5-F → Operand5-F Bool FitExpr Bool FitLink Bool FitStat (Bool → Bool) FitCase (Bool → Bool) FitCondition Bool FitFunction FitOperand
fit_operand = map-Operand5 Element5 Expr5 ForFirst5 Link5 Property5 Stat5 Block5 Case5 Catch5 Condition5 Declared5 Function5 Operand5 Bool FitExpr Bool FitLink Bool FitStat (Bool → Bool) FitCase (Bool → Bool) FitCondition Bool FitFunction FitOperand element_fit expr_fit for_first_fit link_fit property_fit stat_fit block_fit case_fit catch_fit condition_fit declared_fit function_fit operand_fit

pub operand-roll : (x : Open Operand5-F) → operand_fit (roll-Operand5 x) ≡ operand_step (fit_operand x)
operand-roll = fold-roll-Operand5 Bool FitExpr Bool FitLink Bool FitStat (Bool → Bool) FitCase (Bool → Bool) FitCondition Bool FitFunction FitOperand element_step expr_step for_first_step link_step property_step stat_step block_step case_step catch_step condition_step declared_step function_step operand_step
