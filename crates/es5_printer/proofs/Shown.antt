-- What is shown of each node, by what is shown of its children.
use Rattle.std.proofs.Common.{◌≡◌, ℕ, Bool, List, Option, Some, None, map, sym, ap, ◌∙◌}
use Rattle.std.specs.Option.{option_map}
use Rattle.es_text.specs.declared.Span.{Span}
use Rattle.es_outside.specs.declared.events.Site.{Site}
use Rattle.es5_ast.specs.declared.operators.UnaryOperator5.{UnaryOperator5}
use Rattle.es5_ast.specs.declared.operators.UpdateOperator5.{UpdateOperator5}
use Rattle.es5_ast.specs.declared.operators.AssignOperator5.{AssignOperator5}
use Rattle.es5_ast.specs.declared.operators.BinaryOperator5.{BinaryOperator5}
use Rattle.es5_ast.specs.declared.operators.Literal5.{Literal5}
use Rattle.es5_ast.specs.declared.tree.Identifier5.{Identifier5}
use Rattle.es5_ast.specs.declared.tree.PlacedKey5.{PlacedKey5}
use Rattle.es5_ast.specs.declared.tree.Element5.TheOpen as layer
use Rattle.es5_ast.specs.declared.tree.Element5.{Element5, fold-roll-Element5}
use Rattle.es5_ast.specs.declared.tree.Element5.TheVariants as element
use Rattle.es5_ast.specs.declared.tree.Expr5.{Expr5, fold-roll-Expr5}
use Rattle.es5_ast.specs.declared.tree.Expr5.TheVariants as expr
use Rattle.es5_ast.specs.declared.tree.ForFirst5.{ForFirst5, fold-roll-ForFirst5}
use Rattle.es5_ast.specs.declared.tree.ForFirst5.TheVariants as for_first
use Rattle.es5_ast.specs.declared.tree.Link5.{Link5, fold-roll-Link5}
use Rattle.es5_ast.specs.declared.tree.Link5.TheVariants as link
use Rattle.es5_ast.specs.declared.tree.Property5.{Property5, fold-roll-Property5}
use Rattle.es5_ast.specs.declared.tree.Property5.TheVariants as property
use Rattle.es5_ast.specs.declared.tree.Stat5.{Stat5, fold-roll-Stat5}
use Rattle.es5_ast.specs.declared.tree.Stat5.TheVariants as stat
use Rattle.es5_ast.specs.declared.tree.Block5.{Block5, roll-Block5, fold-roll-Block5}
use Rattle.es5_ast.specs.declared.tree.Case5.{Case5, roll-Case5, fold-roll-Case5}
use Rattle.es5_ast.specs.declared.tree.Catch5.{Catch5, roll-Catch5, fold-roll-Catch5}
use Rattle.es5_ast.specs.declared.tree.Condition5.{Condition5, roll-Condition5, fold-roll-Condition5}
use Rattle.es5_ast.specs.declared.tree.Declared5.{Declared5, roll-Declared5, fold-roll-Declared5}
use Rattle.es5_ast.specs.declared.tree.Function5.{Function5, roll-Function5, fold-roll-Function5}
use Rattle.es5_ast.specs.declared.tree.Operand5.{Operand5, roll-Operand5, fold-roll-Operand5}
use Rattle.es5_printer.specs.Pieces.{Write, Shown, ShownLink, ShownFunction, ShownOperand, element_shown, shown, for_first_shown, link_shown, property_shown, stat_shown, block_shown, case_shown, catch_shown, condition_shown, declared_shown, function_shown, operand_shown, element_step, expr_step, for_first_step, link_step, property_step, stat_step, block_step, case_step, catch_step, condition_step, declared_step, function_step, operand_step}

pub element_shown-Hole : element_shown (element.Hole) ≡ element_step (layer.Hole)
element_shown-Hole = ap element_shown (sym (element.rolls-Hole)) ∙ fold-roll-Element5 (Option Shown) Shown Write ShownLink Write Write Write Write Write Write (Bool → Write) ShownFunction ShownOperand element_step expr_step for_first_step link_step property_step stat_step block_step case_step catch_step condition_step declared_step function_step operand_step (layer.Hole)

pub element_shown-Element : (x : Expr5) → element_shown (element.Element x) ≡ element_step (layer.Element (shown x))
element_shown-Element x = ap element_shown (sym (element.rolls-Element x)) ∙ fold-roll-Element5 (Option Shown) Shown Write ShownLink Write Write Write Write Write Write (Bool → Write) ShownFunction ShownOperand element_step expr_step for_first_step link_step property_step stat_step block_step case_step catch_step condition_step declared_step function_step operand_step (layer.Element x)

pub shown-This : (span : Span) → shown (expr.This span) ≡ expr_step (layer.This span)
shown-This span = ap shown (sym (expr.rolls-This span)) ∙ fold-roll-Expr5 (Option Shown) Shown Write ShownLink Write Write Write Write Write Write (Bool → Write) ShownFunction ShownOperand element_step expr_step for_first_step link_step property_step stat_step block_step case_step catch_step condition_step declared_step function_step operand_step (layer.This span)

pub shown-Name : (span : Span) (name : List ℕ) → shown (expr.Name span name) ≡ expr_step (layer.Name span name)
shown-Name span name = ap shown (sym (expr.rolls-Name span name)) ∙ fold-roll-Expr5 (Option Shown) Shown Write ShownLink Write Write Write Write Write Write (Bool → Write) ShownFunction ShownOperand element_step expr_step for_first_step link_step property_step stat_step block_step case_step catch_step condition_step declared_step function_step operand_step (layer.Name span name)

pub shown-Literal : (span : Span) (value : Literal5) → shown (expr.Literal span value) ≡ expr_step (layer.Literal span value)
shown-Literal span value = ap shown (sym (expr.rolls-Literal span value)) ∙ fold-roll-Expr5 (Option Shown) Shown Write ShownLink Write Write Write Write Write Write (Bool → Write) ShownFunction ShownOperand element_step expr_step for_first_step link_step property_step stat_step block_step case_step catch_step condition_step declared_step function_step operand_step (layer.Literal span value)

pub shown-ArrayList : (span : Span) (elements : List Element5) → shown (expr.ArrayList span elements) ≡ expr_step (layer.ArrayList span (map element_shown elements))
shown-ArrayList span elements = ap shown (sym (expr.rolls-ArrayList span elements)) ∙ fold-roll-Expr5 (Option Shown) Shown Write ShownLink Write Write Write Write Write Write (Bool → Write) ShownFunction ShownOperand element_step expr_step for_first_step link_step property_step stat_step block_step case_step catch_step condition_step declared_step function_step operand_step (layer.ArrayList span elements)

pub shown-ObjectList : (span : Span) (properties : List Property5) → shown (expr.ObjectList span properties) ≡ expr_step (layer.ObjectList span (map property_shown properties))
shown-ObjectList span properties = ap shown (sym (expr.rolls-ObjectList span properties)) ∙ fold-roll-Expr5 (Option Shown) Shown Write ShownLink Write Write Write Write Write Write (Bool → Write) ShownFunction ShownOperand element_step expr_step for_first_step link_step property_step stat_step block_step case_step catch_step condition_step declared_step function_step operand_step (layer.ObjectList span properties)

pub shown-Function : (f : Function5) → shown (expr.Function f) ≡ expr_step (layer.Function (function_shown f))
shown-Function f = ap shown (sym (expr.rolls-Function f)) ∙ fold-roll-Expr5 (Option Shown) Shown Write ShownLink Write Write Write Write Write Write (Bool → Write) ShownFunction ShownOperand element_step expr_step for_first_step link_step property_step stat_step block_step case_step catch_step condition_step declared_step function_step operand_step (layer.Function f)

pub shown-Chain : (span : Span) (head : Expr5) (links : List Link5) → shown (expr.Chain span head links) ≡ expr_step (layer.Chain span (shown head) (map link_shown links))
shown-Chain span head links = ap shown (sym (expr.rolls-Chain span head links)) ∙ fold-roll-Expr5 (Option Shown) Shown Write ShownLink Write Write Write Write Write Write (Bool → Write) ShownFunction ShownOperand element_step expr_step for_first_step link_step property_step stat_step block_step case_step catch_step condition_step declared_step function_step operand_step (layer.Chain span head links)

pub shown-New : (span : Span) (callee : Expr5) (arguments : List Expr5) → shown (expr.New span callee arguments) ≡ expr_step (layer.New span (shown callee) (map shown arguments))
shown-New span callee arguments = ap shown (sym (expr.rolls-New span callee arguments)) ∙ fold-roll-Expr5 (Option Shown) Shown Write ShownLink Write Write Write Write Write Write (Bool → Write) ShownFunction ShownOperand element_step expr_step for_first_step link_step property_step stat_step block_step case_step catch_step condition_step declared_step function_step operand_step (layer.New span callee arguments)

pub shown-Update : (span : Span) (operator : UpdateOperator5) (target : Expr5) → shown (expr.Update span operator target) ≡ expr_step (layer.Update span operator (shown target))
shown-Update span operator target = ap shown (sym (expr.rolls-Update span operator target)) ∙ fold-roll-Expr5 (Option Shown) Shown Write ShownLink Write Write Write Write Write Write (Bool → Write) ShownFunction ShownOperand element_step expr_step for_first_step link_step property_step stat_step block_step case_step catch_step condition_step declared_step function_step operand_step (layer.Update span operator target)

pub shown-Unary : (span : Span) (operator : UnaryOperator5) (operand : Expr5) → shown (expr.Unary span operator operand) ≡ expr_step (layer.Unary span operator (shown operand))
shown-Unary span operator operand = ap shown (sym (expr.rolls-Unary span operator operand)) ∙ fold-roll-Expr5 (Option Shown) Shown Write ShownLink Write Write Write Write Write Write (Bool → Write) ShownFunction ShownOperand element_step expr_step for_first_step link_step property_step stat_step block_step case_step catch_step condition_step declared_step function_step operand_step (layer.Unary span operator operand)

pub shown-Binary : (span : Span) (first : Expr5) (operands : List Operand5) → shown (expr.Binary span first operands) ≡ expr_step (layer.Binary span (shown first) (map operand_shown operands))
shown-Binary span first operands = ap shown (sym (expr.rolls-Binary span first operands)) ∙ fold-roll-Expr5 (Option Shown) Shown Write ShownLink Write Write Write Write Write Write (Bool → Write) ShownFunction ShownOperand element_step expr_step for_first_step link_step property_step stat_step block_step case_step catch_step condition_step declared_step function_step operand_step (layer.Binary span first operands)

pub shown-Conditional : (span : Span) (test : Expr5) (yes_ : Expr5) (no_ : Expr5) → shown (expr.Conditional span test yes_ no_) ≡ expr_step (layer.Conditional span (shown test) (shown yes_) (shown no_))
shown-Conditional span test yes_ no_ = ap shown (sym (expr.rolls-Conditional span test yes_ no_)) ∙ fold-roll-Expr5 (Option Shown) Shown Write ShownLink Write Write Write Write Write Write (Bool → Write) ShownFunction ShownOperand element_step expr_step for_first_step link_step property_step stat_step block_step case_step catch_step condition_step declared_step function_step operand_step (layer.Conditional span test yes_ no_)

pub shown-Assign : (span : Span) (operator : AssignOperator5) (target : Expr5) (value : Expr5) → shown (expr.Assign span operator target value) ≡ expr_step (layer.Assign span operator (shown target) (shown value))
shown-Assign span operator target value = ap shown (sym (expr.rolls-Assign span operator target value)) ∙ fold-roll-Expr5 (Option Shown) Shown Write ShownLink Write Write Write Write Write Write (Bool → Write) ShownFunction ShownOperand element_step expr_step for_first_step link_step property_step stat_step block_step case_step catch_step condition_step declared_step function_step operand_step (layer.Assign span operator target value)

pub shown-Sequence : (span : Span) (first : Expr5) (parts : List Expr5) → shown (expr.Sequence span first parts) ≡ expr_step (layer.Sequence span (shown first) (map shown parts))
shown-Sequence span first parts = ap shown (sym (expr.rolls-Sequence span first parts)) ∙ fold-roll-Expr5 (Option Shown) Shown Write ShownLink Write Write Write Write Write Write (Bool → Write) ShownFunction ShownOperand element_step expr_step for_first_step link_step property_step stat_step block_step case_step catch_step condition_step declared_step function_step operand_step (layer.Sequence span first parts)

pub for_first_shown-NoFirst : for_first_shown (for_first.NoFirst) ≡ for_first_step (layer.NoFirst)
for_first_shown-NoFirst = ap for_first_shown (sym (for_first.rolls-NoFirst)) ∙ fold-roll-ForFirst5 (Option Shown) Shown Write ShownLink Write Write Write Write Write Write (Bool → Write) ShownFunction ShownOperand element_step expr_step for_first_step link_step property_step stat_step block_step case_step catch_step condition_step declared_step function_step operand_step (layer.NoFirst)

pub for_first_shown-FirstVar : (declared : List Declared5) → for_first_shown (for_first.FirstVar declared) ≡ for_first_step (layer.FirstVar (map declared_shown declared))
for_first_shown-FirstVar declared = ap for_first_shown (sym (for_first.rolls-FirstVar declared)) ∙ fold-roll-ForFirst5 (Option Shown) Shown Write ShownLink Write Write Write Write Write Write (Bool → Write) ShownFunction ShownOperand element_step expr_step for_first_step link_step property_step stat_step block_step case_step catch_step condition_step declared_step function_step operand_step (layer.FirstVar declared)

pub for_first_shown-FirstExpression : (x : Expr5) → for_first_shown (for_first.FirstExpression x) ≡ for_first_step (layer.FirstExpression (shown x))
for_first_shown-FirstExpression x = ap for_first_shown (sym (for_first.rolls-FirstExpression x)) ∙ fold-roll-ForFirst5 (Option Shown) Shown Write ShownLink Write Write Write Write Write Write (Bool → Write) ShownFunction ShownOperand element_step expr_step for_first_step link_step property_step stat_step block_step case_step catch_step condition_step declared_step function_step operand_step (layer.FirstExpression x)

pub link_shown-Member : (span : Span) (name : List ℕ) → link_shown (link.Member span name) ≡ link_step (layer.Member span name)
link_shown-Member span name = ap link_shown (sym (link.rolls-Member span name)) ∙ fold-roll-Link5 (Option Shown) Shown Write ShownLink Write Write Write Write Write Write (Bool → Write) ShownFunction ShownOperand element_step expr_step for_first_step link_step property_step stat_step block_step case_step catch_step condition_step declared_step function_step operand_step (layer.Member span name)

pub link_shown-Index : (span : Span) (index : Expr5) → link_shown (link.Index span index) ≡ link_step (layer.Index span (shown index))
link_shown-Index span index = ap link_shown (sym (link.rolls-Index span index)) ∙ fold-roll-Link5 (Option Shown) Shown Write ShownLink Write Write Write Write Write Write (Bool → Write) ShownFunction ShownOperand element_step expr_step for_first_step link_step property_step stat_step block_step case_step catch_step condition_step declared_step function_step operand_step (layer.Index span index)

pub link_shown-Call : (span : Span) (arguments : List Expr5) (site : Option Site) → link_shown (link.Call span arguments site) ≡ link_step (layer.Call span (map shown arguments) site)
link_shown-Call span arguments site = ap link_shown (sym (link.rolls-Call span arguments site)) ∙ fold-roll-Link5 (Option Shown) Shown Write ShownLink Write Write Write Write Write Write (Bool → Write) ShownFunction ShownOperand element_step expr_step for_first_step link_step property_step stat_step block_step case_step catch_step condition_step declared_step function_step operand_step (layer.Call span arguments site)

pub property_shown-Plain : (span : Span) (key : PlacedKey5) (value : Expr5) → property_shown (property.Plain span key value) ≡ property_step (layer.Plain span key (shown value))
property_shown-Plain span key value = ap property_shown (sym (property.rolls-Plain span key value)) ∙ fold-roll-Property5 (Option Shown) Shown Write ShownLink Write Write Write Write Write Write (Bool → Write) ShownFunction ShownOperand element_step expr_step for_first_step link_step property_step stat_step block_step case_step catch_step condition_step declared_step function_step operand_step (layer.Plain span key value)

pub property_shown-Getter : (span : Span) (key : PlacedKey5) (f : Function5) → property_shown (property.Getter span key f) ≡ property_step (layer.Getter span key (function_shown f))
property_shown-Getter span key f = ap property_shown (sym (property.rolls-Getter span key f)) ∙ fold-roll-Property5 (Option Shown) Shown Write ShownLink Write Write Write Write Write Write (Bool → Write) ShownFunction ShownOperand element_step expr_step for_first_step link_step property_step stat_step block_step case_step catch_step condition_step declared_step function_step operand_step (layer.Getter span key f)

pub property_shown-Setter : (span : Span) (key : PlacedKey5) (f : Function5) → property_shown (property.Setter span key f) ≡ property_step (layer.Setter span key (function_shown f))
property_shown-Setter span key f = ap property_shown (sym (property.rolls-Setter span key f)) ∙ fold-roll-Property5 (Option Shown) Shown Write ShownLink Write Write Write Write Write Write (Bool → Write) ShownFunction ShownOperand element_step expr_step for_first_step link_step property_step stat_step block_step case_step catch_step condition_step declared_step function_step operand_step (layer.Setter span key f)

pub stat_shown-Var : (span : Span) (declared : List Declared5) → stat_shown (stat.Var span declared) ≡ stat_step (layer.Var span (map declared_shown declared))
stat_shown-Var span declared = ap stat_shown (sym (stat.rolls-Var span declared)) ∙ fold-roll-Stat5 (Option Shown) Shown Write ShownLink Write Write Write Write Write Write (Bool → Write) ShownFunction ShownOperand element_step expr_step for_first_step link_step property_step stat_step block_step case_step catch_step condition_step declared_step function_step operand_step (layer.Var span declared)

pub stat_shown-FunctionDeclaration : (f : Function5) → stat_shown (stat.FunctionDeclaration f) ≡ stat_step (layer.FunctionDeclaration (function_shown f))
stat_shown-FunctionDeclaration f = ap stat_shown (sym (stat.rolls-FunctionDeclaration f)) ∙ fold-roll-Stat5 (Option Shown) Shown Write ShownLink Write Write Write Write Write Write (Bool → Write) ShownFunction ShownOperand element_step expr_step for_first_step link_step property_step stat_step block_step case_step catch_step condition_step declared_step function_step operand_step (layer.FunctionDeclaration f)

pub stat_shown-Block : (b : Block5) → stat_shown (stat.Block b) ≡ stat_step (layer.Block (block_shown b))
stat_shown-Block b = ap stat_shown (sym (stat.rolls-Block b)) ∙ fold-roll-Stat5 (Option Shown) Shown Write ShownLink Write Write Write Write Write Write (Bool → Write) ShownFunction ShownOperand element_step expr_step for_first_step link_step property_step stat_step block_step case_step catch_step condition_step declared_step function_step operand_step (layer.Block b)

pub stat_shown-Empty : (span : Span) → stat_shown (stat.Empty span) ≡ stat_step (layer.Empty span)
stat_shown-Empty span = ap stat_shown (sym (stat.rolls-Empty span)) ∙ fold-roll-Stat5 (Option Shown) Shown Write ShownLink Write Write Write Write Write Write (Bool → Write) ShownFunction ShownOperand element_step expr_step for_first_step link_step property_step stat_step block_step case_step catch_step condition_step declared_step function_step operand_step (layer.Empty span)

pub stat_shown-Expression : (span : Span) (x : Expr5) → stat_shown (stat.Expression span x) ≡ stat_step (layer.Expression span (shown x))
stat_shown-Expression span x = ap stat_shown (sym (stat.rolls-Expression span x)) ∙ fold-roll-Stat5 (Option Shown) Shown Write ShownLink Write Write Write Write Write Write (Bool → Write) ShownFunction ShownOperand element_step expr_step for_first_step link_step property_step stat_step block_step case_step catch_step condition_step declared_step function_step operand_step (layer.Expression span x)

pub stat_shown-If : (span : Span) (first : Condition5) (more : List Condition5) (otherwise : Option Stat5) → stat_shown (stat.If span first more otherwise) ≡ stat_step (layer.If span (condition_shown first) (map condition_shown more) (option_map stat_shown otherwise))
stat_shown-If span first more None = ap stat_shown (sym (stat.rolls-If span first more None)) ∙ fold-roll-Stat5 (Option Shown) Shown Write ShownLink Write Write Write Write Write Write (Bool → Write) ShownFunction ShownOperand element_step expr_step for_first_step link_step property_step stat_step block_step case_step catch_step condition_step declared_step function_step operand_step (layer.If span first more None)
stat_shown-If span first more (Some otherwise) = ap stat_shown (sym (stat.rolls-If span first more (Some otherwise))) ∙ fold-roll-Stat5 (Option Shown) Shown Write ShownLink Write Write Write Write Write Write (Bool → Write) ShownFunction ShownOperand element_step expr_step for_first_step link_step property_step stat_step block_step case_step catch_step condition_step declared_step function_step operand_step (layer.If span first more (Some otherwise))

pub stat_shown-DoWhile : (span : Span) (body : Stat5) (test : Expr5) → stat_shown (stat.DoWhile span body test) ≡ stat_step (layer.DoWhile span (stat_shown body) (shown test))
stat_shown-DoWhile span body test = ap stat_shown (sym (stat.rolls-DoWhile span body test)) ∙ fold-roll-Stat5 (Option Shown) Shown Write ShownLink Write Write Write Write Write Write (Bool → Write) ShownFunction ShownOperand element_step expr_step for_first_step link_step property_step stat_step block_step case_step catch_step condition_step declared_step function_step operand_step (layer.DoWhile span body test)

pub stat_shown-While : (span : Span) (test : Expr5) (body : Stat5) → stat_shown (stat.While span test body) ≡ stat_step (layer.While span (shown test) (stat_shown body))
stat_shown-While span test body = ap stat_shown (sym (stat.rolls-While span test body)) ∙ fold-roll-Stat5 (Option Shown) Shown Write ShownLink Write Write Write Write Write Write (Bool → Write) ShownFunction ShownOperand element_step expr_step for_first_step link_step property_step stat_step block_step case_step catch_step condition_step declared_step function_step operand_step (layer.While span test body)

pub stat_shown-For : (span : Span) (first : ForFirst5) (test : Option Expr5) (update : Option Expr5) (body : Stat5) → stat_shown (stat.For span first test update body) ≡ stat_step (layer.For span (for_first_shown first) (option_map shown test) (option_map shown update) (stat_shown body))
stat_shown-For span first None None body = ap stat_shown (sym (stat.rolls-For span first None None body)) ∙ fold-roll-Stat5 (Option Shown) Shown Write ShownLink Write Write Write Write Write Write (Bool → Write) ShownFunction ShownOperand element_step expr_step for_first_step link_step property_step stat_step block_step case_step catch_step condition_step declared_step function_step operand_step (layer.For span first None None body)
stat_shown-For span first None (Some update) body = ap stat_shown (sym (stat.rolls-For span first None (Some update) body)) ∙ fold-roll-Stat5 (Option Shown) Shown Write ShownLink Write Write Write Write Write Write (Bool → Write) ShownFunction ShownOperand element_step expr_step for_first_step link_step property_step stat_step block_step case_step catch_step condition_step declared_step function_step operand_step (layer.For span first None (Some update) body)
stat_shown-For span first (Some test) None body = ap stat_shown (sym (stat.rolls-For span first (Some test) None body)) ∙ fold-roll-Stat5 (Option Shown) Shown Write ShownLink Write Write Write Write Write Write (Bool → Write) ShownFunction ShownOperand element_step expr_step for_first_step link_step property_step stat_step block_step case_step catch_step condition_step declared_step function_step operand_step (layer.For span first (Some test) None body)
stat_shown-For span first (Some test) (Some update) body = ap stat_shown (sym (stat.rolls-For span first (Some test) (Some update) body)) ∙ fold-roll-Stat5 (Option Shown) Shown Write ShownLink Write Write Write Write Write Write (Bool → Write) ShownFunction ShownOperand element_step expr_step for_first_step link_step property_step stat_step block_step case_step catch_step condition_step declared_step function_step operand_step (layer.For span first (Some test) (Some update) body)

pub stat_shown-Continue : (span : Span) (label : Option Identifier5) → stat_shown (stat.Continue span label) ≡ stat_step (layer.Continue span label)
stat_shown-Continue span label = ap stat_shown (sym (stat.rolls-Continue span label)) ∙ fold-roll-Stat5 (Option Shown) Shown Write ShownLink Write Write Write Write Write Write (Bool → Write) ShownFunction ShownOperand element_step expr_step for_first_step link_step property_step stat_step block_step case_step catch_step condition_step declared_step function_step operand_step (layer.Continue span label)

pub stat_shown-Break : (span : Span) (label : Option Identifier5) → stat_shown (stat.Break span label) ≡ stat_step (layer.Break span label)
stat_shown-Break span label = ap stat_shown (sym (stat.rolls-Break span label)) ∙ fold-roll-Stat5 (Option Shown) Shown Write ShownLink Write Write Write Write Write Write (Bool → Write) ShownFunction ShownOperand element_step expr_step for_first_step link_step property_step stat_step block_step case_step catch_step condition_step declared_step function_step operand_step (layer.Break span label)

pub stat_shown-Return : (span : Span) (value : Option Expr5) → stat_shown (stat.Return span value) ≡ stat_step (layer.Return span (option_map shown value))
stat_shown-Return span None = ap stat_shown (sym (stat.rolls-Return span None)) ∙ fold-roll-Stat5 (Option Shown) Shown Write ShownLink Write Write Write Write Write Write (Bool → Write) ShownFunction ShownOperand element_step expr_step for_first_step link_step property_step stat_step block_step case_step catch_step condition_step declared_step function_step operand_step (layer.Return span None)
stat_shown-Return span (Some value) = ap stat_shown (sym (stat.rolls-Return span (Some value))) ∙ fold-roll-Stat5 (Option Shown) Shown Write ShownLink Write Write Write Write Write Write (Bool → Write) ShownFunction ShownOperand element_step expr_step for_first_step link_step property_step stat_step block_step case_step catch_step condition_step declared_step function_step operand_step (layer.Return span (Some value))

pub stat_shown-Switch : (span : Span) (subject : Expr5) (cases : List Case5) → stat_shown (stat.Switch span subject cases) ≡ stat_step (layer.Switch span (shown subject) (map case_shown cases))
stat_shown-Switch span subject cases = ap stat_shown (sym (stat.rolls-Switch span subject cases)) ∙ fold-roll-Stat5 (Option Shown) Shown Write ShownLink Write Write Write Write Write Write (Bool → Write) ShownFunction ShownOperand element_step expr_step for_first_step link_step property_step stat_step block_step case_step catch_step condition_step declared_step function_step operand_step (layer.Switch span subject cases)

pub stat_shown-Labelled : (span : Span) (label : Identifier5) (body : Stat5) → stat_shown (stat.Labelled span label body) ≡ stat_step (layer.Labelled span label (stat_shown body))
stat_shown-Labelled span label body = ap stat_shown (sym (stat.rolls-Labelled span label body)) ∙ fold-roll-Stat5 (Option Shown) Shown Write ShownLink Write Write Write Write Write Write (Bool → Write) ShownFunction ShownOperand element_step expr_step for_first_step link_step property_step stat_step block_step case_step catch_step condition_step declared_step function_step operand_step (layer.Labelled span label body)

pub stat_shown-Throw : (span : Span) (value : Expr5) → stat_shown (stat.Throw span value) ≡ stat_step (layer.Throw span (shown value))
stat_shown-Throw span value = ap stat_shown (sym (stat.rolls-Throw span value)) ∙ fold-roll-Stat5 (Option Shown) Shown Write ShownLink Write Write Write Write Write Write (Bool → Write) ShownFunction ShownOperand element_step expr_step for_first_step link_step property_step stat_step block_step case_step catch_step condition_step declared_step function_step operand_step (layer.Throw span value)

pub stat_shown-Try : (span : Span) (b : Block5) (handler : Option Catch5) (last : Option Block5) → stat_shown (stat.Try span b handler last) ≡ stat_step (layer.Try span (block_shown b) (option_map catch_shown handler) (option_map block_shown last))
stat_shown-Try span b None None = ap stat_shown (sym (stat.rolls-Try span b None None)) ∙ fold-roll-Stat5 (Option Shown) Shown Write ShownLink Write Write Write Write Write Write (Bool → Write) ShownFunction ShownOperand element_step expr_step for_first_step link_step property_step stat_step block_step case_step catch_step condition_step declared_step function_step operand_step (layer.Try span b None None)
stat_shown-Try span b None (Some last) = ap stat_shown (sym (stat.rolls-Try span b None (Some last))) ∙ fold-roll-Stat5 (Option Shown) Shown Write ShownLink Write Write Write Write Write Write (Bool → Write) ShownFunction ShownOperand element_step expr_step for_first_step link_step property_step stat_step block_step case_step catch_step condition_step declared_step function_step operand_step (layer.Try span b None (Some last))
stat_shown-Try span b (Some handler) None = ap stat_shown (sym (stat.rolls-Try span b (Some handler) None)) ∙ fold-roll-Stat5 (Option Shown) Shown Write ShownLink Write Write Write Write Write Write (Bool → Write) ShownFunction ShownOperand element_step expr_step for_first_step link_step property_step stat_step block_step case_step catch_step condition_step declared_step function_step operand_step (layer.Try span b (Some handler) None)
stat_shown-Try span b (Some handler) (Some last) = ap stat_shown (sym (stat.rolls-Try span b (Some handler) (Some last))) ∙ fold-roll-Stat5 (Option Shown) Shown Write ShownLink Write Write Write Write Write Write (Bool → Write) ShownFunction ShownOperand element_step expr_step for_first_step link_step property_step stat_step block_step case_step catch_step condition_step declared_step function_step operand_step (layer.Try span b (Some handler) (Some last))

pub stat_shown-Debugger : (span : Span) → stat_shown (stat.Debugger span) ≡ stat_step (layer.Debugger span)
stat_shown-Debugger span = ap stat_shown (sym (stat.rolls-Debugger span)) ∙ fold-roll-Stat5 (Option Shown) Shown Write ShownLink Write Write Write Write Write Write (Bool → Write) ShownFunction ShownOperand element_step expr_step for_first_step link_step property_step stat_step block_step case_step catch_step condition_step declared_step function_step operand_step (layer.Debugger span)

pub block_shown-roll : (span : Span) (statements : List Stat5) → block_shown (roll-Block5 (record { span = span; statements = statements })) ≡ block_step (record { span = span; statements = map stat_shown statements })
block_shown-roll span statements = fold-roll-Block5 (Option Shown) Shown Write ShownLink Write Write Write Write Write Write (Bool → Write) ShownFunction ShownOperand element_step expr_step for_first_step link_step property_step stat_step block_step case_step catch_step condition_step declared_step function_step operand_step (record { span = span; statements = statements })

pub case_shown-roll : (span : Span) (test : Option Expr5) (body : List Stat5) → case_shown (roll-Case5 (record { span = span; test = test; body = body })) ≡ case_step (record { span = span; test = option_map shown test; body = map stat_shown body })
case_shown-roll span None body = fold-roll-Case5 (Option Shown) Shown Write ShownLink Write Write Write Write Write Write (Bool → Write) ShownFunction ShownOperand element_step expr_step for_first_step link_step property_step stat_step block_step case_step catch_step condition_step declared_step function_step operand_step (record { span = span; test = None; body = body })
case_shown-roll span (Some test) body = fold-roll-Case5 (Option Shown) Shown Write ShownLink Write Write Write Write Write Write (Bool → Write) ShownFunction ShownOperand element_step expr_step for_first_step link_step property_step stat_step block_step case_step catch_step condition_step declared_step function_step operand_step (record { span = span; test = Some test; body = body })

pub catch_shown-roll : (span : Span) (parameter : Identifier5) (body : Block5) → catch_shown (roll-Catch5 (record { span = span; parameter = parameter; body = body })) ≡ catch_step (record { span = span; parameter = parameter; body = block_shown body })
catch_shown-roll span parameter body = fold-roll-Catch5 (Option Shown) Shown Write ShownLink Write Write Write Write Write Write (Bool → Write) ShownFunction ShownOperand element_step expr_step for_first_step link_step property_step stat_step block_step case_step catch_step condition_step declared_step function_step operand_step (record { span = span; parameter = parameter; body = body })

pub condition_shown-roll : (span : Span) (test : Expr5) (body : Stat5) → condition_shown (roll-Condition5 (record { span = span; test = test; body = body })) ≡ condition_step (record { span = span; test = shown test; body = stat_shown body })
condition_shown-roll span test body = fold-roll-Condition5 (Option Shown) Shown Write ShownLink Write Write Write Write Write Write (Bool → Write) ShownFunction ShownOperand element_step expr_step for_first_step link_step property_step stat_step block_step case_step catch_step condition_step declared_step function_step operand_step (record { span = span; test = test; body = body })

pub declared_shown-roll : (span : Span) (name : Identifier5) (init : Option Expr5) → declared_shown (roll-Declared5 (record { span = span; name = name; init = init })) ≡ declared_step (record { span = span; name = name; init = option_map shown init })
declared_shown-roll span name None = fold-roll-Declared5 (Option Shown) Shown Write ShownLink Write Write Write Write Write Write (Bool → Write) ShownFunction ShownOperand element_step expr_step for_first_step link_step property_step stat_step block_step case_step catch_step condition_step declared_step function_step operand_step (record { span = span; name = name; init = None })
declared_shown-roll span name (Some init) = fold-roll-Declared5 (Option Shown) Shown Write ShownLink Write Write Write Write Write Write (Bool → Write) ShownFunction ShownOperand element_step expr_step for_first_step link_step property_step stat_step block_step case_step catch_step condition_step declared_step function_step operand_step (record { span = span; name = name; init = Some init })

pub function_shown-roll : (span : Span) (name : Option Identifier5) (parameters : List Identifier5) (body : List Stat5) → function_shown (roll-Function5 (record { span = span; name = name; parameters = parameters; body = body })) ≡ function_step (record { span = span; name = name; parameters = parameters; body = map stat_shown body })
function_shown-roll span name parameters body = fold-roll-Function5 (Option Shown) Shown Write ShownLink Write Write Write Write Write Write (Bool → Write) ShownFunction ShownOperand element_step expr_step for_first_step link_step property_step stat_step block_step case_step catch_step condition_step declared_step function_step operand_step (record { span = span; name = name; parameters = parameters; body = body })

pub operand_shown-roll : (operator : BinaryOperator5) (value : Expr5) → operand_shown (roll-Operand5 (record { operator = operator; value = value })) ≡ operand_step (record { operator = operator; value = shown value })
operand_shown-roll operator value = fold-roll-Operand5 (Option Shown) Shown Write ShownLink Write Write Write Write Write Write (Bool → Write) ShownFunction ShownOperand element_step expr_step for_first_step link_step property_step stat_step block_step case_step catch_step condition_step declared_step function_step operand_step (record { operator = operator; value = value })
