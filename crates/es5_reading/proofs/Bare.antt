-- What each node is but for spans and sites, by what its children are.
use Rattle.std.proofs.Common.{◌≡◌, ℕ, List, Option, Some, None, map, sym, ap, ◌∙◌}
use Rattle.std.specs.Option.{option_map}
use Rattle.es_text.specs.declared.Span.{Span}
use Rattle.es_outside.specs.declared.events.Site.{Site}
use Rattle.es5_ast.specs.declared.operators.UnaryOperator5.{UnaryOperator5}
use Rattle.es5_ast.specs.declared.operators.UpdateOperator5.{UpdateOperator5}
use Rattle.es5_ast.specs.declared.operators.AssignOperator5.{AssignOperator5}
use Rattle.es5_ast.specs.declared.operators.BinaryOperator5.{BinaryOperator5}
use Rattle.es5_ast.specs.declared.operators.Literal5.{Literal5}
use Rattle.es5_ast.specs.declared.tree.Identifier5.{Identifier5}
use Rattle.es5_ast.specs.declared.tree.PlacedKey5.{PlacedKey5}
use Rattle.es5_ast.specs.declared.tree.Element5.TheOpen as layer
use Rattle.es5_ast.specs.declared.tree.Element5.{Element5, fold-roll-Element5}
use Rattle.es5_ast.specs.declared.tree.Element5.TheVariants as element
use Rattle.es5_ast.specs.declared.tree.Expr5.{Expr5, fold-roll-Expr5}
use Rattle.es5_ast.specs.declared.tree.Expr5.TheVariants as expr
use Rattle.es5_ast.specs.declared.tree.ForFirst5.{ForFirst5, fold-roll-ForFirst5}
use Rattle.es5_ast.specs.declared.tree.ForFirst5.TheVariants as for_first
use Rattle.es5_ast.specs.declared.tree.Link5.{Link5, fold-roll-Link5}
use Rattle.es5_ast.specs.declared.tree.Link5.TheVariants as link
use Rattle.es5_ast.specs.declared.tree.Property5.{Property5, fold-roll-Property5}
use Rattle.es5_ast.specs.declared.tree.Property5.TheVariants as property
use Rattle.es5_ast.specs.declared.tree.Stat5.{Stat5, fold-roll-Stat5}
use Rattle.es5_ast.specs.declared.tree.Stat5.TheVariants as stat
use Rattle.es5_ast.specs.declared.tree.Block5.{Block5, roll-Block5, fold-roll-Block5}
use Rattle.es5_ast.specs.declared.tree.Case5.{Case5, roll-Case5, fold-roll-Case5}
use Rattle.es5_ast.specs.declared.tree.Catch5.{Catch5, roll-Catch5, fold-roll-Catch5}
use Rattle.es5_ast.specs.declared.tree.Condition5.{Condition5, roll-Condition5, fold-roll-Condition5}
use Rattle.es5_ast.specs.declared.tree.Declared5.{Declared5, roll-Declared5, fold-roll-Declared5}
use Rattle.es5_ast.specs.declared.tree.Function5.{Function5, roll-Function5, fold-roll-Function5}
use Rattle.es5_ast.specs.declared.tree.Operand5.{Operand5, roll-Operand5, fold-roll-Operand5}
use Rattle.es5_ast.specs.Bare.{bare_element, bare_expr, bare_for_first, bare_link, bare_property, bare_stat, bare_block, bare_case, bare_catch, bare_condition, bare_declared, bare_function, bare_operand, element_step, expr_step, for_first_step, link_step, property_step, stat_step, block_step, case_step, catch_step, condition_step, declared_step, function_step, operand_step}

pub bare_element-Hole : bare_element (element.Hole) ≡ element_step (layer.Hole)
bare_element-Hole = ap bare_element (sym (element.rolls-Hole)) ∙ fold-roll-Element5 Element5 Expr5 ForFirst5 Link5 Property5 Stat5 Block5 Case5 Catch5 Condition5 Declared5 Function5 Operand5 element_step expr_step for_first_step link_step property_step stat_step block_step case_step catch_step condition_step declared_step function_step operand_step (layer.Hole)

pub bare_element-Element : (x : Expr5) → bare_element (element.Element x) ≡ element_step (layer.Element (bare_expr x))
bare_element-Element x = ap bare_element (sym (element.rolls-Element x)) ∙ fold-roll-Element5 Element5 Expr5 ForFirst5 Link5 Property5 Stat5 Block5 Case5 Catch5 Condition5 Declared5 Function5 Operand5 element_step expr_step for_first_step link_step property_step stat_step block_step case_step catch_step condition_step declared_step function_step operand_step (layer.Element x)

pub bare_expr-This : (span : Span) → bare_expr (expr.This span) ≡ expr_step (layer.This span)
bare_expr-This span = ap bare_expr (sym (expr.rolls-This span)) ∙ fold-roll-Expr5 Element5 Expr5 ForFirst5 Link5 Property5 Stat5 Block5 Case5 Catch5 Condition5 Declared5 Function5 Operand5 element_step expr_step for_first_step link_step property_step stat_step block_step case_step catch_step condition_step declared_step function_step operand_step (layer.This span)

pub bare_expr-Name : (span : Span) (name : List ℕ) → bare_expr (expr.Name span name) ≡ expr_step (layer.Name span name)
bare_expr-Name span name = ap bare_expr (sym (expr.rolls-Name span name)) ∙ fold-roll-Expr5 Element5 Expr5 ForFirst5 Link5 Property5 Stat5 Block5 Case5 Catch5 Condition5 Declared5 Function5 Operand5 element_step expr_step for_first_step link_step property_step stat_step block_step case_step catch_step condition_step declared_step function_step operand_step (layer.Name span name)

pub bare_expr-Literal : (span : Span) (value : Literal5) → bare_expr (expr.Literal span value) ≡ expr_step (layer.Literal span value)
bare_expr-Literal span value = ap bare_expr (sym (expr.rolls-Literal span value)) ∙ fold-roll-Expr5 Element5 Expr5 ForFirst5 Link5 Property5 Stat5 Block5 Case5 Catch5 Condition5 Declared5 Function5 Operand5 element_step expr_step for_first_step link_step property_step stat_step block_step case_step catch_step condition_step declared_step function_step operand_step (layer.Literal span value)

pub bare_expr-ArrayList : (span : Span) (elements : List Element5) → bare_expr (expr.ArrayList span elements) ≡ expr_step (layer.ArrayList span (map bare_element elements))
bare_expr-ArrayList span elements = ap bare_expr (sym (expr.rolls-ArrayList span elements)) ∙ fold-roll-Expr5 Element5 Expr5 ForFirst5 Link5 Property5 Stat5 Block5 Case5 Catch5 Condition5 Declared5 Function5 Operand5 element_step expr_step for_first_step link_step property_step stat_step block_step case_step catch_step condition_step declared_step function_step operand_step (layer.ArrayList span elements)

pub bare_expr-ObjectList : (span : Span) (properties : List Property5) → bare_expr (expr.ObjectList span properties) ≡ expr_step (layer.ObjectList span (map bare_property properties))
bare_expr-ObjectList span properties = ap bare_expr (sym (expr.rolls-ObjectList span properties)) ∙ fold-roll-Expr5 Element5 Expr5 ForFirst5 Link5 Property5 Stat5 Block5 Case5 Catch5 Condition5 Declared5 Function5 Operand5 element_step expr_step for_first_step link_step property_step stat_step block_step case_step catch_step condition_step declared_step function_step operand_step (layer.ObjectList span properties)

pub bare_expr-Function : (f : Function5) → bare_expr (expr.Function f) ≡ expr_step (layer.Function (bare_function f))
bare_expr-Function f = ap bare_expr (sym (expr.rolls-Function f)) ∙ fold-roll-Expr5 Element5 Expr5 ForFirst5 Link5 Property5 Stat5 Block5 Case5 Catch5 Condition5 Declared5 Function5 Operand5 element_step expr_step for_first_step link_step property_step stat_step block_step case_step catch_step condition_step declared_step function_step operand_step (layer.Function f)

pub bare_expr-Chain : (span : Span) (head : Expr5) (links : List Link5) → bare_expr (expr.Chain span head links) ≡ expr_step (layer.Chain span (bare_expr head) (map bare_link links))
bare_expr-Chain span head links = ap bare_expr (sym (expr.rolls-Chain span head links)) ∙ fold-roll-Expr5 Element5 Expr5 ForFirst5 Link5 Property5 Stat5 Block5 Case5 Catch5 Condition5 Declared5 Function5 Operand5 element_step expr_step for_first_step link_step property_step stat_step block_step case_step catch_step condition_step declared_step function_step operand_step (layer.Chain span head links)

pub bare_expr-New : (span : Span) (callee : Expr5) (arguments : List Expr5) → bare_expr (expr.New span callee arguments) ≡ expr_step (layer.New span (bare_expr callee) (map bare_expr arguments))
bare_expr-New span callee arguments = ap bare_expr (sym (expr.rolls-New span callee arguments)) ∙ fold-roll-Expr5 Element5 Expr5 ForFirst5 Link5 Property5 Stat5 Block5 Case5 Catch5 Condition5 Declared5 Function5 Operand5 element_step expr_step for_first_step link_step property_step stat_step block_step case_step catch_step condition_step declared_step function_step operand_step (layer.New span callee arguments)

pub bare_expr-Update : (span : Span) (operator : UpdateOperator5) (target : Expr5) → bare_expr (expr.Update span operator target) ≡ expr_step (layer.Update span operator (bare_expr target))
bare_expr-Update span operator target = ap bare_expr (sym (expr.rolls-Update span operator target)) ∙ fold-roll-Expr5 Element5 Expr5 ForFirst5 Link5 Property5 Stat5 Block5 Case5 Catch5 Condition5 Declared5 Function5 Operand5 element_step expr_step for_first_step link_step property_step stat_step block_step case_step catch_step condition_step declared_step function_step operand_step (layer.Update span operator target)

pub bare_expr-Unary : (span : Span) (operator : UnaryOperator5) (operand : Expr5) → bare_expr (expr.Unary span operator operand) ≡ expr_step (layer.Unary span operator (bare_expr operand))
bare_expr-Unary span operator operand = ap bare_expr (sym (expr.rolls-Unary span operator operand)) ∙ fold-roll-Expr5 Element5 Expr5 ForFirst5 Link5 Property5 Stat5 Block5 Case5 Catch5 Condition5 Declared5 Function5 Operand5 element_step expr_step for_first_step link_step property_step stat_step block_step case_step catch_step condition_step declared_step function_step operand_step (layer.Unary span operator operand)

pub bare_expr-Binary : (span : Span) (first : Expr5) (operands : List Operand5) → bare_expr (expr.Binary span first operands) ≡ expr_step (layer.Binary span (bare_expr first) (map bare_operand operands))
bare_expr-Binary span first operands = ap bare_expr (sym (expr.rolls-Binary span first operands)) ∙ fold-roll-Expr5 Element5 Expr5 ForFirst5 Link5 Property5 Stat5 Block5 Case5 Catch5 Condition5 Declared5 Function5 Operand5 element_step expr_step for_first_step link_step property_step stat_step block_step case_step catch_step condition_step declared_step function_step operand_step (layer.Binary span first operands)

pub bare_expr-Conditional : (span : Span) (test : Expr5) (yes_ : Expr5) (no_ : Expr5) → bare_expr (expr.Conditional span test yes_ no_) ≡ expr_step (layer.Conditional span (bare_expr test) (bare_expr yes_) (bare_expr no_))
bare_expr-Conditional span test yes_ no_ = ap bare_expr (sym (expr.rolls-Conditional span test yes_ no_)) ∙ fold-roll-Expr5 Element5 Expr5 ForFirst5 Link5 Property5 Stat5 Block5 Case5 Catch5 Condition5 Declared5 Function5 Operand5 element_step expr_step for_first_step link_step property_step stat_step block_step case_step catch_step condition_step declared_step function_step operand_step (layer.Conditional span test yes_ no_)

pub bare_expr-Assign : (span : Span) (operator : AssignOperator5) (target : Expr5) (value : Expr5) → bare_expr (expr.Assign span operator target value) ≡ expr_step (layer.Assign span operator (bare_expr target) (bare_expr value))
bare_expr-Assign span operator target value = ap bare_expr (sym (expr.rolls-Assign span operator target value)) ∙ fold-roll-Expr5 Element5 Expr5 ForFirst5 Link5 Property5 Stat5 Block5 Case5 Catch5 Condition5 Declared5 Function5 Operand5 element_step expr_step for_first_step link_step property_step stat_step block_step case_step catch_step condition_step declared_step function_step operand_step (layer.Assign span operator target value)

pub bare_expr-Sequence : (span : Span) (first : Expr5) (parts : List Expr5) → bare_expr (expr.Sequence span first parts) ≡ expr_step (layer.Sequence span (bare_expr first) (map bare_expr parts))
bare_expr-Sequence span first parts = ap bare_expr (sym (expr.rolls-Sequence span first parts)) ∙ fold-roll-Expr5 Element5 Expr5 ForFirst5 Link5 Property5 Stat5 Block5 Case5 Catch5 Condition5 Declared5 Function5 Operand5 element_step expr_step for_first_step link_step property_step stat_step block_step case_step catch_step condition_step declared_step function_step operand_step (layer.Sequence span first parts)

pub bare_for_first-NoFirst : bare_for_first (for_first.NoFirst) ≡ for_first_step (layer.NoFirst)
bare_for_first-NoFirst = ap bare_for_first (sym (for_first.rolls-NoFirst)) ∙ fold-roll-ForFirst5 Element5 Expr5 ForFirst5 Link5 Property5 Stat5 Block5 Case5 Catch5 Condition5 Declared5 Function5 Operand5 element_step expr_step for_first_step link_step property_step stat_step block_step case_step catch_step condition_step declared_step function_step operand_step (layer.NoFirst)

pub bare_for_first-FirstVar : (declared : List Declared5) → bare_for_first (for_first.FirstVar declared) ≡ for_first_step (layer.FirstVar (map bare_declared declared))
bare_for_first-FirstVar declared = ap bare_for_first (sym (for_first.rolls-FirstVar declared)) ∙ fold-roll-ForFirst5 Element5 Expr5 ForFirst5 Link5 Property5 Stat5 Block5 Case5 Catch5 Condition5 Declared5 Function5 Operand5 element_step expr_step for_first_step link_step property_step stat_step block_step case_step catch_step condition_step declared_step function_step operand_step (layer.FirstVar declared)

pub bare_for_first-FirstExpression : (x : Expr5) → bare_for_first (for_first.FirstExpression x) ≡ for_first_step (layer.FirstExpression (bare_expr x))
bare_for_first-FirstExpression x = ap bare_for_first (sym (for_first.rolls-FirstExpression x)) ∙ fold-roll-ForFirst5 Element5 Expr5 ForFirst5 Link5 Property5 Stat5 Block5 Case5 Catch5 Condition5 Declared5 Function5 Operand5 element_step expr_step for_first_step link_step property_step stat_step block_step case_step catch_step condition_step declared_step function_step operand_step (layer.FirstExpression x)

pub bare_link-Member : (span : Span) (name : List ℕ) → bare_link (link.Member span name) ≡ link_step (layer.Member span name)
bare_link-Member span name = ap bare_link (sym (link.rolls-Member span name)) ∙ fold-roll-Link5 Element5 Expr5 ForFirst5 Link5 Property5 Stat5 Block5 Case5 Catch5 Condition5 Declared5 Function5 Operand5 element_step expr_step for_first_step link_step property_step stat_step block_step case_step catch_step condition_step declared_step function_step operand_step (layer.Member span name)

pub bare_link-Index : (span : Span) (index : Expr5) → bare_link (link.Index span index) ≡ link_step (layer.Index span (bare_expr index))
bare_link-Index span index = ap bare_link (sym (link.rolls-Index span index)) ∙ fold-roll-Link5 Element5 Expr5 ForFirst5 Link5 Property5 Stat5 Block5 Case5 Catch5 Condition5 Declared5 Function5 Operand5 element_step expr_step for_first_step link_step property_step stat_step block_step case_step catch_step condition_step declared_step function_step operand_step (layer.Index span index)

pub bare_link-Call : (span : Span) (arguments : List Expr5) (site : Option Site) → bare_link (link.Call span arguments site) ≡ link_step (layer.Call span (map bare_expr arguments) site)
bare_link-Call span arguments site = ap bare_link (sym (link.rolls-Call span arguments site)) ∙ fold-roll-Link5 Element5 Expr5 ForFirst5 Link5 Property5 Stat5 Block5 Case5 Catch5 Condition5 Declared5 Function5 Operand5 element_step expr_step for_first_step link_step property_step stat_step block_step case_step catch_step condition_step declared_step function_step operand_step (layer.Call span arguments site)

pub bare_property-Plain : (span : Span) (key : PlacedKey5) (value : Expr5) → bare_property (property.Plain span key value) ≡ property_step (layer.Plain span key (bare_expr value))
bare_property-Plain span key value = ap bare_property (sym (property.rolls-Plain span key value)) ∙ fold-roll-Property5 Element5 Expr5 ForFirst5 Link5 Property5 Stat5 Block5 Case5 Catch5 Condition5 Declared5 Function5 Operand5 element_step expr_step for_first_step link_step property_step stat_step block_step case_step catch_step condition_step declared_step function_step operand_step (layer.Plain span key value)

pub bare_property-Getter : (span : Span) (key : PlacedKey5) (f : Function5) → bare_property (property.Getter span key f) ≡ property_step (layer.Getter span key (bare_function f))
bare_property-Getter span key f = ap bare_property (sym (property.rolls-Getter span key f)) ∙ fold-roll-Property5 Element5 Expr5 ForFirst5 Link5 Property5 Stat5 Block5 Case5 Catch5 Condition5 Declared5 Function5 Operand5 element_step expr_step for_first_step link_step property_step stat_step block_step case_step catch_step condition_step declared_step function_step operand_step (layer.Getter span key f)

pub bare_property-Setter : (span : Span) (key : PlacedKey5) (f : Function5) → bare_property (property.Setter span key f) ≡ property_step (layer.Setter span key (bare_function f))
bare_property-Setter span key f = ap bare_property (sym (property.rolls-Setter span key f)) ∙ fold-roll-Property5 Element5 Expr5 ForFirst5 Link5 Property5 Stat5 Block5 Case5 Catch5 Condition5 Declared5 Function5 Operand5 element_step expr_step for_first_step link_step property_step stat_step block_step case_step catch_step condition_step declared_step function_step operand_step (layer.Setter span key f)

pub bare_stat-Var : (span : Span) (declared : List Declared5) → bare_stat (stat.Var span declared) ≡ stat_step (layer.Var span (map bare_declared declared))
bare_stat-Var span declared = ap bare_stat (sym (stat.rolls-Var span declared)) ∙ fold-roll-Stat5 Element5 Expr5 ForFirst5 Link5 Property5 Stat5 Block5 Case5 Catch5 Condition5 Declared5 Function5 Operand5 element_step expr_step for_first_step link_step property_step stat_step block_step case_step catch_step condition_step declared_step function_step operand_step (layer.Var span declared)

pub bare_stat-FunctionDeclaration : (f : Function5) → bare_stat (stat.FunctionDeclaration f) ≡ stat_step (layer.FunctionDeclaration (bare_function f))
bare_stat-FunctionDeclaration f = ap bare_stat (sym (stat.rolls-FunctionDeclaration f)) ∙ fold-roll-Stat5 Element5 Expr5 ForFirst5 Link5 Property5 Stat5 Block5 Case5 Catch5 Condition5 Declared5 Function5 Operand5 element_step expr_step for_first_step link_step property_step stat_step block_step case_step catch_step condition_step declared_step function_step operand_step (layer.FunctionDeclaration f)

pub bare_stat-Block : (b : Block5) → bare_stat (stat.Block b) ≡ stat_step (layer.Block (bare_block b))
bare_stat-Block b = ap bare_stat (sym (stat.rolls-Block b)) ∙ fold-roll-Stat5 Element5 Expr5 ForFirst5 Link5 Property5 Stat5 Block5 Case5 Catch5 Condition5 Declared5 Function5 Operand5 element_step expr_step for_first_step link_step property_step stat_step block_step case_step catch_step condition_step declared_step function_step operand_step (layer.Block b)

pub bare_stat-Empty : (span : Span) → bare_stat (stat.Empty span) ≡ stat_step (layer.Empty span)
bare_stat-Empty span = ap bare_stat (sym (stat.rolls-Empty span)) ∙ fold-roll-Stat5 Element5 Expr5 ForFirst5 Link5 Property5 Stat5 Block5 Case5 Catch5 Condition5 Declared5 Function5 Operand5 element_step expr_step for_first_step link_step property_step stat_step block_step case_step catch_step condition_step declared_step function_step operand_step (layer.Empty span)

pub bare_stat-Expression : (span : Span) (x : Expr5) → bare_stat (stat.Expression span x) ≡ stat_step (layer.Expression span (bare_expr x))
bare_stat-Expression span x = ap bare_stat (sym (stat.rolls-Expression span x)) ∙ fold-roll-Stat5 Element5 Expr5 ForFirst5 Link5 Property5 Stat5 Block5 Case5 Catch5 Condition5 Declared5 Function5 Operand5 element_step expr_step for_first_step link_step property_step stat_step block_step case_step catch_step condition_step declared_step function_step operand_step (layer.Expression span x)

pub bare_stat-If : (span : Span) (first : Condition5) (more : List Condition5) (otherwise : Option Stat5) → bare_stat (stat.If span first more otherwise) ≡ stat_step (layer.If span (bare_condition first) (map bare_condition more) (option_map bare_stat otherwise))
bare_stat-If span first more None = ap bare_stat (sym (stat.rolls-If span first more None)) ∙ fold-roll-Stat5 Element5 Expr5 ForFirst5 Link5 Property5 Stat5 Block5 Case5 Catch5 Condition5 Declared5 Function5 Operand5 element_step expr_step for_first_step link_step property_step stat_step block_step case_step catch_step condition_step declared_step function_step operand_step (layer.If span first more None)
bare_stat-If span first more (Some otherwise) = ap bare_stat (sym (stat.rolls-If span first more (Some otherwise))) ∙ fold-roll-Stat5 Element5 Expr5 ForFirst5 Link5 Property5 Stat5 Block5 Case5 Catch5 Condition5 Declared5 Function5 Operand5 element_step expr_step for_first_step link_step property_step stat_step block_step case_step catch_step condition_step declared_step function_step operand_step (layer.If span first more (Some otherwise))

pub bare_stat-DoWhile : (span : Span) (body : Stat5) (test : Expr5) → bare_stat (stat.DoWhile span body test) ≡ stat_step (layer.DoWhile span (bare_stat body) (bare_expr test))
bare_stat-DoWhile span body test = ap bare_stat (sym (stat.rolls-DoWhile span body test)) ∙ fold-roll-Stat5 Element5 Expr5 ForFirst5 Link5 Property5 Stat5 Block5 Case5 Catch5 Condition5 Declared5 Function5 Operand5 element_step expr_step for_first_step link_step property_step stat_step block_step case_step catch_step condition_step declared_step function_step operand_step (layer.DoWhile span body test)

pub bare_stat-While : (span : Span) (test : Expr5) (body : Stat5) → bare_stat (stat.While span test body) ≡ stat_step (layer.While span (bare_expr test) (bare_stat body))
bare_stat-While span test body = ap bare_stat (sym (stat.rolls-While span test body)) ∙ fold-roll-Stat5 Element5 Expr5 ForFirst5 Link5 Property5 Stat5 Block5 Case5 Catch5 Condition5 Declared5 Function5 Operand5 element_step expr_step for_first_step link_step property_step stat_step block_step case_step catch_step condition_step declared_step function_step operand_step (layer.While span test body)

pub bare_stat-For : (span : Span) (first : ForFirst5) (test : Option Expr5) (update : Option Expr5) (body : Stat5) → bare_stat (stat.For span first test update body) ≡ stat_step (layer.For span (bare_for_first first) (option_map bare_expr test) (option_map bare_expr update) (bare_stat body))
bare_stat-For span first None None body = ap bare_stat (sym (stat.rolls-For span first None None body)) ∙ fold-roll-Stat5 Element5 Expr5 ForFirst5 Link5 Property5 Stat5 Block5 Case5 Catch5 Condition5 Declared5 Function5 Operand5 element_step expr_step for_first_step link_step property_step stat_step block_step case_step catch_step condition_step declared_step function_step operand_step (layer.For span first None None body)
bare_stat-For span first None (Some update) body = ap bare_stat (sym (stat.rolls-For span first None (Some update) body)) ∙ fold-roll-Stat5 Element5 Expr5 ForFirst5 Link5 Property5 Stat5 Block5 Case5 Catch5 Condition5 Declared5 Function5 Operand5 element_step expr_step for_first_step link_step property_step stat_step block_step case_step catch_step condition_step declared_step function_step operand_step (layer.For span first None (Some update) body)
bare_stat-For span first (Some test) None body = ap bare_stat (sym (stat.rolls-For span first (Some test) None body)) ∙ fold-roll-Stat5 Element5 Expr5 ForFirst5 Link5 Property5 Stat5 Block5 Case5 Catch5 Condition5 Declared5 Function5 Operand5 element_step expr_step for_first_step link_step property_step stat_step block_step case_step catch_step condition_step declared_step function_step operand_step (layer.For span first (Some test) None body)
bare_stat-For span first (Some test) (Some update) body = ap bare_stat (sym (stat.rolls-For span first (Some test) (Some update) body)) ∙ fold-roll-Stat5 Element5 Expr5 ForFirst5 Link5 Property5 Stat5 Block5 Case5 Catch5 Condition5 Declared5 Function5 Operand5 element_step expr_step for_first_step link_step property_step stat_step block_step case_step catch_step condition_step declared_step function_step operand_step (layer.For span first (Some test) (Some update) body)

pub bare_stat-Continue : (span : Span) (label : Option Identifier5) → bare_stat (stat.Continue span label) ≡ stat_step (layer.Continue span label)
bare_stat-Continue span label = ap bare_stat (sym (stat.rolls-Continue span label)) ∙ fold-roll-Stat5 Element5 Expr5 ForFirst5 Link5 Property5 Stat5 Block5 Case5 Catch5 Condition5 Declared5 Function5 Operand5 element_step expr_step for_first_step link_step property_step stat_step block_step case_step catch_step condition_step declared_step function_step operand_step (layer.Continue span label)

pub bare_stat-Break : (span : Span) (label : Option Identifier5) → bare_stat (stat.Break span label) ≡ stat_step (layer.Break span label)
bare_stat-Break span label = ap bare_stat (sym (stat.rolls-Break span label)) ∙ fold-roll-Stat5 Element5 Expr5 ForFirst5 Link5 Property5 Stat5 Block5 Case5 Catch5 Condition5 Declared5 Function5 Operand5 element_step expr_step for_first_step link_step property_step stat_step block_step case_step catch_step condition_step declared_step function_step operand_step (layer.Break span label)

pub bare_stat-Return : (span : Span) (value : Option Expr5) → bare_stat (stat.Return span value) ≡ stat_step (layer.Return span (option_map bare_expr value))
bare_stat-Return span None = ap bare_stat (sym (stat.rolls-Return span None)) ∙ fold-roll-Stat5 Element5 Expr5 ForFirst5 Link5 Property5 Stat5 Block5 Case5 Catch5 Condition5 Declared5 Function5 Operand5 element_step expr_step for_first_step link_step property_step stat_step block_step case_step catch_step condition_step declared_step function_step operand_step (layer.Return span None)
bare_stat-Return span (Some value) = ap bare_stat (sym (stat.rolls-Return span (Some value))) ∙ fold-roll-Stat5 Element5 Expr5 ForFirst5 Link5 Property5 Stat5 Block5 Case5 Catch5 Condition5 Declared5 Function5 Operand5 element_step expr_step for_first_step link_step property_step stat_step block_step case_step catch_step condition_step declared_step function_step operand_step (layer.Return span (Some value))

pub bare_stat-Switch : (span : Span) (subject : Expr5) (cases : List Case5) → bare_stat (stat.Switch span subject cases) ≡ stat_step (layer.Switch span (bare_expr subject) (map bare_case cases))
bare_stat-Switch span subject cases = ap bare_stat (sym (stat.rolls-Switch span subject cases)) ∙ fold-roll-Stat5 Element5 Expr5 ForFirst5 Link5 Property5 Stat5 Block5 Case5 Catch5 Condition5 Declared5 Function5 Operand5 element_step expr_step for_first_step link_step property_step stat_step block_step case_step catch_step condition_step declared_step function_step operand_step (layer.Switch span subject cases)

pub bare_stat-Labelled : (span : Span) (label : Identifier5) (body : Stat5) → bare_stat (stat.Labelled span label body) ≡ stat_step (layer.Labelled span label (bare_stat body))
bare_stat-Labelled span label body = ap bare_stat (sym (stat.rolls-Labelled span label body)) ∙ fold-roll-Stat5 Element5 Expr5 ForFirst5 Link5 Property5 Stat5 Block5 Case5 Catch5 Condition5 Declared5 Function5 Operand5 element_step expr_step for_first_step link_step property_step stat_step block_step case_step catch_step condition_step declared_step function_step operand_step (layer.Labelled span label body)

pub bare_stat-Throw : (span : Span) (value : Expr5) → bare_stat (stat.Throw span value) ≡ stat_step (layer.Throw span (bare_expr value))
bare_stat-Throw span value = ap bare_stat (sym (stat.rolls-Throw span value)) ∙ fold-roll-Stat5 Element5 Expr5 ForFirst5 Link5 Property5 Stat5 Block5 Case5 Catch5 Condition5 Declared5 Function5 Operand5 element_step expr_step for_first_step link_step property_step stat_step block_step case_step catch_step condition_step declared_step function_step operand_step (layer.Throw span value)

pub bare_stat-Try : (span : Span) (b : Block5) (handler : Option Catch5) (last : Option Block5) → bare_stat (stat.Try span b handler last) ≡ stat_step (layer.Try span (bare_block b) (option_map bare_catch handler) (option_map bare_block last))
bare_stat-Try span b None None = ap bare_stat (sym (stat.rolls-Try span b None None)) ∙ fold-roll-Stat5 Element5 Expr5 ForFirst5 Link5 Property5 Stat5 Block5 Case5 Catch5 Condition5 Declared5 Function5 Operand5 element_step expr_step for_first_step link_step property_step stat_step block_step case_step catch_step condition_step declared_step function_step operand_step (layer.Try span b None None)
bare_stat-Try span b None (Some last) = ap bare_stat (sym (stat.rolls-Try span b None (Some last))) ∙ fold-roll-Stat5 Element5 Expr5 ForFirst5 Link5 Property5 Stat5 Block5 Case5 Catch5 Condition5 Declared5 Function5 Operand5 element_step expr_step for_first_step link_step property_step stat_step block_step case_step catch_step condition_step declared_step function_step operand_step (layer.Try span b None (Some last))
bare_stat-Try span b (Some handler) None = ap bare_stat (sym (stat.rolls-Try span b (Some handler) None)) ∙ fold-roll-Stat5 Element5 Expr5 ForFirst5 Link5 Property5 Stat5 Block5 Case5 Catch5 Condition5 Declared5 Function5 Operand5 element_step expr_step for_first_step link_step property_step stat_step block_step case_step catch_step condition_step declared_step function_step operand_step (layer.Try span b (Some handler) None)
bare_stat-Try span b (Some handler) (Some last) = ap bare_stat (sym (stat.rolls-Try span b (Some handler) (Some last))) ∙ fold-roll-Stat5 Element5 Expr5 ForFirst5 Link5 Property5 Stat5 Block5 Case5 Catch5 Condition5 Declared5 Function5 Operand5 element_step expr_step for_first_step link_step property_step stat_step block_step case_step catch_step condition_step declared_step function_step operand_step (layer.Try span b (Some handler) (Some last))

pub bare_stat-Debugger : (span : Span) → bare_stat (stat.Debugger span) ≡ stat_step (layer.Debugger span)
bare_stat-Debugger span = ap bare_stat (sym (stat.rolls-Debugger span)) ∙ fold-roll-Stat5 Element5 Expr5 ForFirst5 Link5 Property5 Stat5 Block5 Case5 Catch5 Condition5 Declared5 Function5 Operand5 element_step expr_step for_first_step link_step property_step stat_step block_step case_step catch_step condition_step declared_step function_step operand_step (layer.Debugger span)

pub bare_block-roll : (span : Span) (statements : List Stat5) → bare_block (roll-Block5 (record { span = span; statements = statements })) ≡ block_step (record { span = span; statements = map bare_stat statements })
bare_block-roll span statements = fold-roll-Block5 Element5 Expr5 ForFirst5 Link5 Property5 Stat5 Block5 Case5 Catch5 Condition5 Declared5 Function5 Operand5 element_step expr_step for_first_step link_step property_step stat_step block_step case_step catch_step condition_step declared_step function_step operand_step (record { span = span; statements = statements })

pub bare_case-roll : (span : Span) (test : Option Expr5) (body : List Stat5) → bare_case (roll-Case5 (record { span = span; test = test; body = body })) ≡ case_step (record { span = span; test = option_map bare_expr test; body = map bare_stat body })
bare_case-roll span None body = fold-roll-Case5 Element5 Expr5 ForFirst5 Link5 Property5 Stat5 Block5 Case5 Catch5 Condition5 Declared5 Function5 Operand5 element_step expr_step for_first_step link_step property_step stat_step block_step case_step catch_step condition_step declared_step function_step operand_step (record { span = span; test = None; body = body })
bare_case-roll span (Some test) body = fold-roll-Case5 Element5 Expr5 ForFirst5 Link5 Property5 Stat5 Block5 Case5 Catch5 Condition5 Declared5 Function5 Operand5 element_step expr_step for_first_step link_step property_step stat_step block_step case_step catch_step condition_step declared_step function_step operand_step (record { span = span; test = Some test; body = body })

pub bare_catch-roll : (span : Span) (parameter : Identifier5) (body : Block5) → bare_catch (roll-Catch5 (record { span = span; parameter = parameter; body = body })) ≡ catch_step (record { span = span; parameter = parameter; body = bare_block body })
bare_catch-roll span parameter body = fold-roll-Catch5 Element5 Expr5 ForFirst5 Link5 Property5 Stat5 Block5 Case5 Catch5 Condition5 Declared5 Function5 Operand5 element_step expr_step for_first_step link_step property_step stat_step block_step case_step catch_step condition_step declared_step function_step operand_step (record { span = span; parameter = parameter; body = body })

pub bare_condition-roll : (span : Span) (test : Expr5) (body : Stat5) → bare_condition (roll-Condition5 (record { span = span; test = test; body = body })) ≡ condition_step (record { span = span; test = bare_expr test; body = bare_stat body })
bare_condition-roll span test body = fold-roll-Condition5 Element5 Expr5 ForFirst5 Link5 Property5 Stat5 Block5 Case5 Catch5 Condition5 Declared5 Function5 Operand5 element_step expr_step for_first_step link_step property_step stat_step block_step case_step catch_step condition_step declared_step function_step operand_step (record { span = span; test = test; body = body })

pub bare_declared-roll : (span : Span) (name : Identifier5) (init : Option Expr5) → bare_declared (roll-Declared5 (record { span = span; name = name; init = init })) ≡ declared_step (record { span = span; name = name; init = option_map bare_expr init })
bare_declared-roll span name None = fold-roll-Declared5 Element5 Expr5 ForFirst5 Link5 Property5 Stat5 Block5 Case5 Catch5 Condition5 Declared5 Function5 Operand5 element_step expr_step for_first_step link_step property_step stat_step block_step case_step catch_step condition_step declared_step function_step operand_step (record { span = span; name = name; init = None })
bare_declared-roll span name (Some init) = fold-roll-Declared5 Element5 Expr5 ForFirst5 Link5 Property5 Stat5 Block5 Case5 Catch5 Condition5 Declared5 Function5 Operand5 element_step expr_step for_first_step link_step property_step stat_step block_step case_step catch_step condition_step declared_step function_step operand_step (record { span = span; name = name; init = Some init })

pub bare_function-roll : (span : Span) (name : Option Identifier5) (parameters : List Identifier5) (body : List Stat5) → bare_function (roll-Function5 (record { span = span; name = name; parameters = parameters; body = body })) ≡ function_step (record { span = span; name = name; parameters = parameters; body = map bare_stat body })
bare_function-roll span name parameters body = fold-roll-Function5 Element5 Expr5 ForFirst5 Link5 Property5 Stat5 Block5 Case5 Catch5 Condition5 Declared5 Function5 Operand5 element_step expr_step for_first_step link_step property_step stat_step block_step case_step catch_step condition_step declared_step function_step operand_step (record { span = span; name = name; parameters = parameters; body = body })

pub bare_operand-roll : (operator : BinaryOperator5) (value : Expr5) → bare_operand (roll-Operand5 (record { operator = operator; value = value })) ≡ operand_step (record { operator = operator; value = bare_expr value })
bare_operand-roll operator value = fold-roll-Operand5 Element5 Expr5 ForFirst5 Link5 Property5 Stat5 Block5 Case5 Catch5 Condition5 Declared5 Function5 Operand5 element_step expr_step for_first_step link_step property_step stat_step block_step case_step catch_step condition_step declared_step function_step operand_step (record { operator = operator; value = value })
