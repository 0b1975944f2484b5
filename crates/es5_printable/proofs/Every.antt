-- By induction over the tree, each node that fits is made of pieces.
use Rattle.std.proofs.Common.{sym, subst}
use Rattle.es5_ast.specs.declared.tree.Element5.{roll-Element5}
use Rattle.es5_ast.specs.declared.tree.Expr5.{roll-Expr5}
use Rattle.es5_ast.specs.declared.tree.ForFirst5.{roll-ForFirst5}
use Rattle.es5_ast.specs.declared.tree.Link5.{roll-Link5}
use Rattle.es5_ast.specs.declared.tree.Property5.{roll-Property5}
use Rattle.es5_ast.specs.declared.tree.Stat5.{Stat5, roll-Stat5, ind-Stat5}
use Rattle.es5_ast.specs.declared.tree.Block5.{roll-Block5}
use Rattle.es5_ast.specs.declared.tree.Case5.{roll-Case5}
use Rattle.es5_ast.specs.declared.tree.Catch5.{roll-Catch5}
use Rattle.es5_ast.specs.declared.tree.Condition5.{roll-Condition5}
use Rattle.es5_ast.specs.declared.tree.Declared5.{roll-Declared5}
use Rattle.es5_ast.specs.declared.tree.Function5.{roll-Function5}
use Rattle.es5_ast.specs.declared.tree.Operand5.{roll-Operand5}
use Rattle.es5_ast.specs.declared.tree.Element5.TheOpen.{Element5-F, Expr5-F, ForFirst5-F, Link5-F, Property5-F, Stat5-F, Block5-F, Case5-F, Catch5-F, Condition5-F, Declared5-F, Function5-F, Operand5-F}
use Rattle.es5_printable.proofs.Shapes.{ElementOf, OfElement, ExprOf, OfExpr, ForFirstOf, OfForFirst, LinkOf, OfLink, PropertyOf, OfProperty, StatOf, OfStat, BlockOf, OfBlock, CaseOf, OfCase, CatchOf, OfCatch, ConditionOf, OfCondition, DeclaredOf, OfDeclared, FunctionOf, OfFunction, OperandOf, OfOperand, grouped}
use Rattle.es5_printable.proofs.Layers.{Shown, bare_element, element-roll, bare_expr, expr-roll, bare_for_first, for_first-roll, bare_link, link-roll, bare_property, property-roll, bare_stat, stat-roll, bare_block, block-roll, bare_case, case-roll, bare_catch, catch-roll, bare_condition, condition-roll, bare_declared, declared-roll, bare_function, function-roll, bare_operand, operand-roll}
use Rattle.es5_printable.proofs.Nodes.{element_made, node_made, for_first_made, link_made, link_counted, property_made, block_made, catch_made, condition_made, declared_by, case_by, operand_made, function_by}
use Rattle.es5_printable.proofs.Statements.{stat_made}

element_shown : (y : Shown Element5-F) → OfElement (roll-Element5 (bare_element y))
element_shown y = subst (λ v. ElementOf v (roll-Element5 (bare_element y))) (sym (element-roll (bare_element y))) (element_made y)

expr_shown : (y : Shown Expr5-F) → OfExpr (roll-Expr5 (bare_expr y))
expr_shown y = subst (λ v. ExprOf v (roll-Expr5 (bare_expr y))) (sym (expr-roll (bare_expr y))) (λ h. grouped (node_made y h))

for_first_shown : (y : Shown ForFirst5-F) → OfForFirst (roll-ForFirst5 (bare_for_first y))
for_first_shown y = subst (λ v. ForFirstOf v (roll-ForFirst5 (bare_for_first y))) (sym (for_first-roll (bare_for_first y))) (for_first_made y)

link_shown : (y : Shown Link5-F) → OfLink (roll-Link5 (bare_link y))
link_shown y = subst (λ v. LinkOf v (roll-Link5 (bare_link y))) (sym (link-roll (bare_link y))) (link_made y, link_counted (bare_link y))

property_shown : (y : Shown Property5-F) → OfProperty (roll-Property5 (bare_property y))
property_shown y = subst (λ v. PropertyOf v (roll-Property5 (bare_property y))) (sym (property-roll (bare_property y))) (property_made y)

stat_shown : (y : Shown Stat5-F) → OfStat (roll-Stat5 (bare_stat y))
stat_shown y = subst (λ v. StatOf v (roll-Stat5 (bare_stat y))) (sym (stat-roll (bare_stat y))) (stat_made y)

block_shown : (y : Shown Block5-F) → OfBlock (roll-Block5 (bare_block y))
block_shown y = subst (λ v. BlockOf v (roll-Block5 (bare_block y))) (sym (block-roll (bare_block y))) (block_made y)

case_shown : (y : Shown Case5-F) → OfCase (roll-Case5 (bare_case y))
case_shown y = subst (λ v. CaseOf v (roll-Case5 (bare_case y))) (sym (case-roll (bare_case y))) (case_by y.span y.test y.body)

catch_shown : (y : Shown Catch5-F) → OfCatch (roll-Catch5 (bare_catch y))
catch_shown y = subst (λ v. CatchOf v (roll-Catch5 (bare_catch y))) (sym (catch-roll (bare_catch y))) (catch_made y)

condition_shown : (y : Shown Condition5-F) → OfCondition (roll-Condition5 (bare_condition y))
condition_shown y = subst (λ v. ConditionOf v (roll-Condition5 (bare_condition y))) (sym (condition-roll (bare_condition y))) (condition_made y)

declared_shown : (y : Shown Declared5-F) → OfDeclared (roll-Declared5 (bare_declared y))
declared_shown y = subst (λ v. DeclaredOf v (roll-Declared5 (bare_declared y))) (sym (declared-roll (bare_declared y))) (declared_by y.span y.name y.init)

function_shown : (y : Shown Function5-F) → OfFunction (roll-Function5 (bare_function y))
function_shown y = subst (λ v. FunctionOf v (roll-Function5 (bare_function y))) (sym (function-roll (bare_function y))) (function_by y.span y.name y.parameters y.body)

operand_shown : (y : Shown Operand5-F) → OfOperand (roll-Operand5 (bare_operand y))
operand_shown y = subst (λ v. OperandOf v (roll-Operand5 (bare_operand y))) (sym (operand-roll (bare_operand y))) (operand_made y)

pub stat_every : (s : Stat5) → OfStat s
stat_every =
    ind-Stat5 OfElement OfExpr OfForFirst OfLink OfProperty OfStat OfBlock OfCase OfCatch OfCondition OfDeclared OfFunction OfOperand
    (λ x y is. subst (λ z. OfElement (roll-Element5 z)) is (element_shown y))
    (λ x y is. subst (λ z. OfExpr (roll-Expr5 z)) is (expr_shown y))
    (λ x y is. subst (λ z. OfForFirst (roll-ForFirst5 z)) is (for_first_shown y))
    (λ x y is. subst (λ z. OfLink (roll-Link5 z)) is (link_shown y))
    (λ x y is. subst (λ z. OfProperty (roll-Property5 z)) is (property_shown y))
    (λ x y is. subst (λ z. OfStat (roll-Stat5 z)) is (stat_shown y))
    (λ x y is. subst (λ z. OfBlock (roll-Block5 z)) is (block_shown y))
    (λ x y is. subst (λ z. OfCase (roll-Case5 z)) is (case_shown y))
    (λ x y is. subst (λ z. OfCatch (roll-Catch5 z)) is (catch_shown y))
    (λ x y is. subst (λ z. OfCondition (roll-Condition5 z)) is (condition_shown y))
    (λ x y is. subst (λ z. OfDeclared (roll-Declared5 z)) is (declared_shown y))
    (λ x y is. subst (λ z. OfFunction (roll-Function5 z)) is (function_shown y))
    (λ x y is. subst (λ z. OfOperand (roll-Operand5 z)) is (operand_shown y))
