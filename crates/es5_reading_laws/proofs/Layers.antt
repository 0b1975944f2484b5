-- What each node of a tree gives of spans that are counted, by what its parts give.
use Rattle.std.proofs.Common.{◌≡◌, List}
use Rattle.es_text.specs.declared.Span.{Span}
use Rattle.es5_ast.specs.declared.tree.Element5.{Element5, roll-Element5, map-Element5, fold-Element5, fold-roll-Element5}
use Rattle.es5_ast.specs.declared.tree.Expr5.{Expr5, roll-Expr5, map-Expr5, fold-Expr5, fold-roll-Expr5}
use Rattle.es5_ast.specs.declared.tree.ForFirst5.{ForFirst5, roll-ForFirst5, map-ForFirst5, fold-ForFirst5, fold-roll-ForFirst5}
use Rattle.es5_ast.specs.declared.tree.Link5.{Link5, roll-Link5, map-Link5, fold-Link5, fold-roll-Link5}
use Rattle.es5_ast.specs.declared.tree.Property5.{Property5, roll-Property5, map-Property5, fold-Property5, fold-roll-Property5}
use Rattle.es5_ast.specs.declared.tree.Stat5.{Stat5, roll-Stat5, map-Stat5, fold-Stat5, fold-roll-Stat5}
use Rattle.es5_ast.specs.declared.tree.Block5.{Block5, roll-Block5, map-Block5, fold-Block5, fold-roll-Block5}
use Rattle.es5_ast.specs.declared.tree.Case5.{Case5, roll-Case5, map-Case5, fold-Case5, fold-roll-Case5}
use Rattle.es5_ast.specs.declared.tree.Catch5.{Catch5, roll-Catch5, map-Catch5, fold-Catch5, fold-roll-Catch5}
use Rattle.es5_ast.specs.declared.tree.Condition5.{Condition5, roll-Condition5, map-Condition5, fold-Condition5, fold-roll-Condition5}
use Rattle.es5_ast.specs.declared.tree.Declared5.{Declared5, roll-Declared5, map-Declared5, fold-Declared5, fold-roll-Declared5}
use Rattle.es5_ast.specs.declared.tree.Function5.{Function5, roll-Function5, map-Function5, fold-Function5, fold-roll-Function5}
use Rattle.es5_ast.specs.declared.tree.Operand5.{Operand5, roll-Operand5, map-Operand5, fold-Operand5, fold-roll-Operand5}
use Rattle.es5_ast.specs.declared.tree.Element5.TheOpen.{Element5-F, Expr5-F, ForFirst5-F, Link5-F, Property5-F, Stat5-F, Block5-F, Case5-F, Catch5-F, Condition5-F, Declared5-F, Function5-F, Operand5-F}
use Rattle.es5_ast.specs.Depth.{Spanned, element_step, expr_step, for_first_step, link_step, property_step, stat_step, block_step, case_step, catch_step, condition_step, declared_step, function_step, operand_step}

abbrev pub Open : (Type 0 → Type 0 → Type 0 → Type 0 → Type 0 → Type 0 → Type 0 → Type 0 → Type 0 → Type 0 → Type 0 → Type 0 → Type 0 → Type 0) → Type 0
Open Of = Of Element5 Expr5 ForFirst5 Link5 Property5 Stat5 Block5 Case5 Catch5 Condition5 Declared5 Function5 Operand5

abbrev pub element_spans : Element5 → List Span
element_spans = fold-Element5 (List Span) Spanned (List Span) (List Span) (List Span) Spanned Spanned (List Span) (List Span) (List Span) (List Span) Spanned (List Span) element_step expr_step for_first_step link_step property_step stat_step block_step case_step catch_step condition_step declared_step function_step operand_step

abbrev pub expr_spans : Expr5 → Spanned
expr_spans = fold-Expr5 (List Span) Spanned (List Span) (List Span) (List Span) Spanned Spanned (List Span) (List Span) (List Span) (List Span) Spanned (List Span) element_step expr_step for_first_step link_step property_step stat_step block_step case_step catch_step condition_step declared_step function_step operand_step

abbrev pub for_first_spans : ForFirst5 → List Span
for_first_spans = fold-ForFirst5 (List Span) Spanned (List Span) (List Span) (List Span) Spanned Spanned (List Span) (List Span) (List Span) (List Span) Spanned (List Span) element_step expr_step for_first_step link_step property_step stat_step block_step case_step catch_step condition_step declared_step function_step operand_step

abbrev pub link_spans : Link5 → List Span
link_spans = fold-Link5 (List Span) Spanned (List Span) (List Span) (List Span) Spanned Spanned (List Span) (List Span) (List Span) (List Span) Spanned (List Span) element_step expr_step for_first_step link_step property_step stat_step block_step case_step catch_step condition_step declared_step function_step operand_step

abbrev pub property_spans : Property5 → List Span
property_spans = fold-Property5 (List Span) Spanned (List Span) (List Span) (List Span) Spanned Spanned (List Span) (List Span) (List Span) (List Span) Spanned (List Span) element_step expr_step for_first_step link_step property_step stat_step block_step case_step catch_step condition_step declared_step function_step operand_step

abbrev pub stat_spans : Stat5 → Spanned
stat_spans = fold-Stat5 (List Span) Spanned (List Span) (List Span) (List Span) Spanned Spanned (List Span) (List Span) (List Span) (List Span) Spanned (List Span) element_step expr_step for_first_step link_step property_step stat_step block_step case_step catch_step condition_step declared_step function_step operand_step

abbrev pub block_spans : Block5 → Spanned
block_spans = fold-Block5 (List Span) Spanned (List Span) (List Span) (List Span) Spanned Spanned (List Span) (List Span) (List Span) (List Span) Spanned (List Span) element_step expr_step for_first_step link_step property_step stat_step block_step case_step catch_step condition_step declared_step function_step operand_step

abbrev pub case_spans : Case5 → List Span
case_spans = fold-Case5 (List Span) Spanned (List Span) (List Span) (List Span) Spanned Spanned (List Span) (List Span) (List Span) (List Span) Spanned (List Span) element_step expr_step for_first_step link_step property_step stat_step block_step case_step catch_step condition_step declared_step function_step operand_step

abbrev pub catch_spans : Catch5 → List Span
catch_spans = fold-Catch5 (List Span) Spanned (List Span) (List Span) (List Span) Spanned Spanned (List Span) (List Span) (List Span) (List Span) Spanned (List Span) element_step expr_step for_first_step link_step property_step stat_step block_step case_step catch_step condition_step declared_step function_step operand_step

abbrev pub condition_spans : Condition5 → List Span
condition_spans = fold-Condition5 (List Span) Spanned (List Span) (List Span) (List Span) Spanned Spanned (List Span) (List Span) (List Span) (List Span) Spanned (List Span) element_step expr_step for_first_step link_step property_step stat_step block_step case_step catch_step condition_step declared_step function_step operand_step

abbrev pub declared_spans : Declared5 → List Span
declared_spans = fold-Declared5 (List Span) Spanned (List Span) (List Span) (List Span) Spanned Spanned (List Span) (List Span) (List Span) (List Span) Spanned (List Span) element_step expr_step for_first_step link_step property_step stat_step block_step case_step catch_step condition_step declared_step function_step operand_step

abbrev pub function_spans : Function5 → Spanned
function_spans = fold-Function5 (List Span) Spanned (List Span) (List Span) (List Span) Spanned Spanned (List Span) (List Span) (List Span) (List Span) Spanned (List Span) element_step expr_step for_first_step link_step property_step stat_step block_step case_step catch_step condition_step declared_step function_step operand_step

abbrev pub operand_spans : Operand5 → List Span
operand_spans = fold-Operand5 (List Span) Spanned (List Span) (List Span) (List Span) Spanned Spanned (List Span) (List Span) (List Span) (List Span) Spanned (List Span) element_step expr_step for_first_step link_step property_step stat_step block_step case_step catch_step condition_step declared_step function_step operand_step

abbrev pub layer_element : Open Element5-F → Element5-F (List Span) Spanned (List Span) (List Span) (List Span) Spanned Spanned (List Span) (List Span) (List Span) (List Span) Spanned (List Span)
layer_element = map-Element5 Element5 Expr5 ForFirst5 Link5 Property5 Stat5 Block5 Case5 Catch5 Condition5 Declared5 Function5 Operand5 (List Span) Spanned (List Span) (List Span) (List Span) Spanned Spanned (List Span) (List Span) (List Span) (List Span) Spanned (List Span) element_spans expr_spans for_first_spans link_spans property_spans stat_spans block_spans case_spans catch_spans condition_spans declared_spans function_spans operand_spans

pub element-roll : (x : Open Element5-F) → element_spans (roll-Element5 x) ≡ element_step (layer_element x)
element-roll = fold-roll-Element5 (List Span) Spanned (List Span) (List Span) (List Span) Spanned Spanned (List Span) (List Span) (List Span) (List Span) Spanned (List Span) element_step expr_step for_first_step link_step property_step stat_step block_step case_step catch_step condition_step declared_step function_step operand_step

abbrev pub layer_expr : Open Expr5-F → Expr5-F (List Span) Spanned (List Span) (List Span) (List Span) Spanned Spanned (List Span) (List Span) (List Span) (List Span) Spanned (List Span)
layer_expr = map-Expr5 Element5 Expr5 ForFirst5 Link5 Property5 Stat5 Block5 Case5 Catch5 Condition5 Declared5 Function5 Operand5 (List Span) Spanned (List Span) (List Span) (List Span) Spanned Spanned (List Span) (List Span) (List Span) (List Span) Spanned (List Span) element_spans expr_spans for_first_spans link_spans property_spans stat_spans block_spans case_spans catch_spans condition_spans declared_spans function_spans operand_spans

pub expr-roll : (x : Open Expr5-F) → expr_spans (roll-Expr5 x) ≡ expr_step (layer_expr x)
expr-roll = fold-roll-Expr5 (List Span) Spanned (List Span) (List Span) (List Span) Spanned Spanned (List Span) (List Span) (List Span) (List Span) Spanned (List Span) element_step expr_step for_first_step link_step property_step stat_step block_step case_step catch_step condition_step declared_step function_step operand_step

abbrev pub layer_for_first : Open ForFirst5-F → ForFirst5-F (List Span) Spanned (List Span) (List Span) (List Span) Spanned Spanned (List Span) (List Span) (List Span) (List Span) Spanned (List Span)
layer_for_first = map-ForFirst5 Element5 Expr5 ForFirst5 Link5 Property5 Stat5 Block5 Case5 Catch5 Condition5 Declared5 Function5 Operand5 (List Span) Spanned (List Span) (List Span) (List Span) Spanned Spanned (List Span) (List Span) (List Span) (List Span) Spanned (List Span) element_spans expr_spans for_first_spans link_spans property_spans stat_spans block_spans case_spans catch_spans condition_spans declared_spans function_spans operand_spans

pub for_first-roll : (x : Open ForFirst5-F) → for_first_spans (roll-ForFirst5 x) ≡ for_first_step (layer_for_first x)
for_first-roll = fold-roll-ForFirst5 (List Span) Spanned (List Span) (List Span) (List Span) Spanned Spanned (List Span) (List Span) (List Span) (List Span) Spanned (List Span) element_step expr_step for_first_step link_step property_step stat_step block_step case_step catch_step condition_step declared_step function_step operand_step

abbrev pub layer_link : Open Link5-F → Link5-F (List Span) Spanned (List Span) (List Span) (List Span) Spanned Spanned (List Span) (List Span) (List Span) (List Span) Spanned (List Span)
layer_link = map-Link5 Element5 Expr5 ForFirst5 Link5 Property5 Stat5 Block5 Case5 Catch5 Condition5 Declared5 Function5 Operand5 (List Span) Spanned (List Span) (List Span) (List Span) Spanned Spanned (List Span) (List Span) (List Span) (List Span) Spanned (List Span) element_spans expr_spans for_first_spans link_spans property_spans stat_spans block_spans case_spans catch_spans condition_spans declared_spans function_spans operand_spans

pub link-roll : (x : Open Link5-F) → link_spans (roll-Link5 x) ≡ link_step (layer_link x)
link-roll = fold-roll-Link5 (List Span) Spanned (List Span) (List Span) (List Span) Spanned Spanned (List Span) (List Span) (List Span) (List Span) Spanned (List Span) element_step expr_step for_first_step link_step property_step stat_step block_step case_step catch_step condition_step declared_step function_step operand_step

abbrev pub layer_property : Open Property5-F → Property5-F (List Span) Spanned (List Span) (List Span) (List Span) Spanned Spanned (List Span) (List Span) (List Span) (List Span) Spanned (List Span)
layer_property = map-Property5 Element5 Expr5 ForFirst5 Link5 Property5 Stat5 Block5 Case5 Catch5 Condition5 Declared5 Function5 Operand5 (List Span) Spanned (List Span) (List Span) (List Span) Spanned Spanned (List Span) (List Span) (List Span) (List Span) Spanned (List Span) element_spans expr_spans for_first_spans link_spans property_spans stat_spans block_spans case_spans catch_spans condition_spans declared_spans function_spans operand_spans

pub property-roll : (x : Open Property5-F) → property_spans (roll-Property5 x) ≡ property_step (layer_property x)
property-roll = fold-roll-Property5 (List Span) Spanned (List Span) (List Span) (List Span) Spanned Spanned (List Span) (List Span) (List Span) (List Span) Spanned (List Span) element_step expr_step for_first_step link_step property_step stat_step block_step case_step catch_step condition_step declared_step function_step operand_step

abbrev pub layer_stat : Open Stat5-F → Stat5-F (List Span) Spanned (List Span) (List Span) (List Span) Spanned Spanned (List Span) (List Span) (List Span) (List Span) Spanned (List Span)
layer_stat = map-Stat5 Element5 Expr5 ForFirst5 Link5 Property5 Stat5 Block5 Case5 Catch5 Condition5 Declared5 Function5 Operand5 (List Span) Spanned (List Span) (List Span) (List Span) Spanned Spanned (List Span) (List Span) (List Span) (List Span) Spanned (List Span) element_spans expr_spans for_first_spans link_spans property_spans stat_spans block_spans case_spans catch_spans condition_spans declared_spans function_spans operand_spans

pub stat-roll : (x : Open Stat5-F) → stat_spans (roll-Stat5 x) ≡ stat_step (layer_stat x)
stat-roll = fold-roll-Stat5 (List Span) Spanned (List Span) (List Span) (List Span) Spanned Spanned (List Span) (List Span) (List Span) (List Span) Spanned (List Span) element_step expr_step for_first_step link_step property_step stat_step block_step case_step catch_step condition_step declared_step function_step operand_step

abbrev pub layer_block : Open Block5-F → Block5-F (List Span) Spanned (List Span) (List Span) (List Span) Spanned Spanned (List Span) (List Span) (List Span) (List Span) Spanned (List Span)
layer_block = map-Block5 Element5 Expr5 ForFirst5 Link5 Property5 Stat5 Block5 Case5 Catch5 Condition5 Declared5 Function5 Operand5 (List Span) Spanned (List Span) (List Span) (List Span) Spanned Spanned (List Span) (List Span) (List Span) (List Span) Spanned (List Span) element_spans expr_spans for_first_spans link_spans property_spans stat_spans block_spans case_spans catch_spans condition_spans declared_spans function_spans operand_spans

pub block-roll : (x : Open Block5-F) → block_spans (roll-Block5 x) ≡ block_step (layer_block x)
block-roll = fold-roll-Block5 (List Span) Spanned (List Span) (List Span) (List Span) Spanned Spanned (List Span) (List Span) (List Span) (List Span) Spanned (List Span) element_step expr_step for_first_step link_step property_step stat_step block_step case_step catch_step condition_step declared_step function_step operand_step

abbrev pub layer_case : Open Case5-F → Case5-F (List Span) Spanned (List Span) (List Span) (List Span) Spanned Spanned (List Span) (List Span) (List Span) (List Span) Spanned (List Span)
layer_case = map-Case5 Element5 Expr5 ForFirst5 Link5 Property5 Stat5 Block5 Case5 Catch5 Condition5 Declared5 Function5 Operand5 (List Span) Spanned (List Span) (List Span) (List Span) Spanned Spanned (List Span) (List Span) (List Span) (List Span) Spanned (List Span) element_spans expr_spans for_first_spans link_spans property_spans stat_spans block_spans case_spans catch_spans condition_spans declared_spans function_spans operand_spans

pub case-roll : (x : Open Case5-F) → case_spans (roll-Case5 x) ≡ case_step (layer_case x)
case-roll = fold-roll-Case5 (List Span) Spanned (List Span) (List Span) (List Span) Spanned Spanned (List Span) (List Span) (List Span) (List Span) Spanned (List Span) element_step expr_step for_first_step link_step property_step stat_step block_step case_step catch_step condition_step declared_step function_step operand_step

abbrev pub layer_catch : Open Catch5-F → Catch5-F (List Span) Spanned (List Span) (List Span) (List Span) Spanned Spanned (List Span) (List Span) (List Span) (List Span) Spanned (List Span)
layer_catch = map-Catch5 Element5 Expr5 ForFirst5 Link5 Property5 Stat5 Block5 Case5 Catch5 Condition5 Declared5 Function5 Operand5 (List Span) Spanned (List Span) (List Span) (List Span) Spanned Spanned (List Span) (List Span) (List Span) (List Span) Spanned (List Span) element_spans expr_spans for_first_spans link_spans property_spans stat_spans block_spans case_spans catch_spans condition_spans declared_spans function_spans operand_spans

pub catch-roll : (x : Open Catch5-F) → catch_spans (roll-Catch5 x) ≡ catch_step (layer_catch x)
catch-roll = fold-roll-Catch5 (List Span) Spanned (List Span) (List Span) (List Span) Spanned Spanned (List Span) (List Span) (List Span) (List Span) Spanned (List Span) element_step expr_step for_first_step link_step property_step stat_step block_step case_step catch_step condition_step declared_step function_step operand_step

abbrev pub layer_condition : Open Condition5-F → Condition5-F (List Span) Spanned (List Span) (List Span) (List Span) Spanned Spanned (List Span) (List Span) (List Span) (List Span) Spanned (List Span)
layer_condition = map-Condition5 Element5 Expr5 ForFirst5 Link5 Property5 Stat5 Block5 Case5 Catch5 Condition5 Declared5 Function5 Operand5 (List Span) Spanned (List Span) (List Span) (List Span) Spanned Spanned (List Span) (List Span) (List Span) (List Span) Spanned (List Span) element_spans expr_spans for_first_spans link_spans property_spans stat_spans block_spans case_spans catch_spans condition_spans declared_spans function_spans operand_spans

pub condition-roll : (x : Open Condition5-F) → condition_spans (roll-Condition5 x) ≡ condition_step (layer_condition x)
condition-roll = fold-roll-Condition5 (List Span) Spanned (List Span) (List Span) (List Span) Spanned Spanned (List Span) (List Span) (List Span) (List Span) Spanned (List Span) element_step expr_step for_first_step link_step property_step stat_step block_step case_step catch_step condition_step declared_step function_step operand_step

abbrev pub layer_declared : Open Declared5-F → Declared5-F (List Span) Spanned (List Span) (List Span) (List Span) Spanned Spanned (List Span) (List Span) (List Span) (List Span) Spanned (List Span)
layer_declared = map-Declared5 Element5 Expr5 ForFirst5 Link5 Property5 Stat5 Block5 Case5 Catch5 Condition5 Declared5 Function5 Operand5 (List Span) Spanned (List Span) (List Span) (List Span) Spanned Spanned (List Span) (List Span) (List Span) (List Span) Spanned (List Span) element_spans expr_spans for_first_spans link_spans property_spans stat_spans block_spans case_spans catch_spans condition_spans declared_spans function_spans operand_spans

pub declared-roll : (x : Open Declared5-F) → declared_spans (roll-Declared5 x) ≡ declared_step (layer_declared x)
declared-roll = fold-roll-Declared5 (List Span) Spanned (List Span) (List Span) (List Span) Spanned Spanned (List Span) (List Span) (List Span) (List Span) Spanned (List Span) element_step expr_step for_first_step link_step property_step stat_step block_step case_step catch_step condition_step declared_step function_step operand_step

abbrev pub layer_function : Open Function5-F → Function5-F (List Span) Spanned (List Span) (List Span) (List Span) Spanned Spanned (List Span) (List Span) (List Span) (List Span) Spanned (List Span)
layer_function = map-Function5 Element5 Expr5 ForFirst5 Link5 Property5 Stat5 Block5 Case5 Catch5 Condition5 Declared5 Function5 Operand5 (List Span) Spanned (List Span) (List Span) (List Span) Spanned Spanned (List Span) (List Span) (List Span) (List Span) Spanned (List Span) element_spans expr_spans for_first_spans link_spans property_spans stat_spans block_spans case_spans catch_spans condition_spans declared_spans function_spans operand_spans

pub function-roll : (x : Open Function5-F) → function_spans (roll-Function5 x) ≡ function_step (layer_function x)
function-roll = fold-roll-Function5 (List Span) Spanned (List Span) (List Span) (List Span) Spanned Spanned (List Span) (List Span) (List Span) (List Span) Spanned (List Span) element_step expr_step for_first_step link_step property_step stat_step block_step case_step catch_step condition_step declared_step function_step operand_step

abbrev pub layer_operand : Open Operand5-F → Operand5-F (List Span) Spanned (List Span) (List Span) (List Span) Spanned Spanned (List Span) (List Span) (List Span) (List Span) Spanned (List Span)
layer_operand = map-Operand5 Element5 Expr5 ForFirst5 Link5 Property5 Stat5 Block5 Case5 Catch5 Condition5 Declared5 Function5 Operand5 (List Span) Spanned (List Span) (List Span) (List Span) Spanned Spanned (List Span) (List Span) (List Span) (List Span) Spanned (List Span) element_spans expr_spans for_first_spans link_spans property_spans stat_spans block_spans case_spans catch_spans condition_spans declared_spans function_spans operand_spans

pub operand-roll : (x : Open Operand5-F) → operand_spans (roll-Operand5 x) ≡ operand_step (layer_operand x)
operand-roll = fold-roll-Operand5 (List Span) Spanned (List Span) (List Span) (List Span) Spanned Spanned (List Span) (List Span) (List Span) (List Span) Spanned (List Span) element_step expr_step for_first_step link_step property_step stat_step block_step case_step catch_step condition_step declared_step function_step operand_step
