-- The sites of each node, by those of its children.
use Rattle.std.proofs.Common.{◌≡◌, ℕ, List, Option, Some, None, map, sym, ap, ◌∙◌}
use Rattle.std.specs.Option.{option_map}
use Rattle.es_text.specs.declared.Span.{Span}
use Rattle.es_outside.specs.declared.events.Site.{Site}
use Rattle.es5_ast.specs.declared.operators.UnaryOperator5.{UnaryOperator5}
use Rattle.es5_ast.specs.declared.operators.UpdateOperator5.{UpdateOperator5}
use Rattle.es5_ast.specs.declared.operators.AssignOperator5.{AssignOperator5}
use Rattle.es5_ast.specs.declared.operators.BinaryOperator5.{BinaryOperator5}
use Rattle.es5_ast.specs.declared.operators.Literal5.{Literal5}
use Rattle.es5_ast.specs.declared.tree.Identifier5.{Identifier5}
use Rattle.es5_ast.specs.declared.tree.PlacedKey5.{PlacedKey5}
use Rattle.es5_ast.specs.declared.tree.Element5.TheOpen as layer
use Rattle.es5_ast.specs.declared.tree.Element5.{Element5, fold-roll-Element5}
use Rattle.es5_ast.specs.declared.tree.Element5.TheVariants as element
use Rattle.es5_ast.specs.declared.tree.Expr5.{Expr5, fold-roll-Expr5}
use Rattle.es5_ast.specs.declared.tree.Expr5.TheVariants as expr
use Rattle.es5_ast.specs.declared.tree.ForFirst5.{ForFirst5, fold-roll-ForFirst5}
use Rattle.es5_ast.specs.declared.tree.ForFirst5.TheVariants as for_first
use Rattle.es5_ast.specs.declared.tree.Link5.{Link5, fold-roll-Link5}
use Rattle.es5_ast.specs.declared.tree.Link5.TheVariants as link
use Rattle.es5_ast.specs.declared.tree.Property5.{Property5, fold-roll-Property5}
use Rattle.es5_ast.specs.declared.tree.Property5.TheVariants as property
use Rattle.es5_ast.specs.declared.tree.Stat5.{Stat5, fold-roll-Stat5}
use Rattle.es5_ast.specs.declared.tree.Stat5.TheVariants as stat
use Rattle.es5_ast.specs.declared.tree.Block5.{Block5, roll-Block5, fold-roll-Block5}
use Rattle.es5_ast.specs.declared.tree.Case5.{Case5, roll-Case5, fold-roll-Case5}
use Rattle.es5_ast.specs.declared.tree.Catch5.{Catch5, roll-Catch5, fold-roll-Catch5}
use Rattle.es5_ast.specs.declared.tree.Condition5.{Condition5, roll-Condition5, fold-roll-Condition5}
use Rattle.es5_ast.specs.declared.tree.Declared5.{Declared5, roll-Declared5, fold-roll-Declared5}
use Rattle.es5_ast.specs.declared.tree.Function5.{Function5, roll-Function5, fold-roll-Function5}
use Rattle.es5_ast.specs.declared.tree.Operand5.{Operand5, roll-Operand5, fold-roll-Operand5}
use Rattle.es5_printer.specs.Sites.{Sites, LinkSites, element_sites, expr_sites, for_first_sites, link_sites, property_sites, stat_sites, block_sites, case_sites, catch_sites, condition_sites, declared_sites, function_sites, operand_sites, element_step, expr_step, for_first_step, link_step, property_step, stat_step, block_step, case_step, catch_step, condition_step, declared_step, function_step, operand_step}

pub element_sites-Hole : element_sites (element.Hole) ≡ element_step (layer.Hole)
element_sites-Hole = ap element_sites (sym (element.rolls-Hole)) ∙ fold-roll-Element5 Sites Sites Sites LinkSites Sites Sites Sites Sites Sites Sites Sites Sites Sites element_step expr_step for_first_step link_step property_step stat_step block_step case_step catch_step condition_step declared_step function_step operand_step (layer.Hole)

pub element_sites-Element : (x : Expr5) → element_sites (element.Element x) ≡ element_step (layer.Element (expr_sites x))
element_sites-Element x = ap element_sites (sym (element.rolls-Element x)) ∙ fold-roll-Element5 Sites Sites Sites LinkSites Sites Sites Sites Sites Sites Sites Sites Sites Sites element_step expr_step for_first_step link_step property_step stat_step block_step case_step catch_step condition_step declared_step function_step operand_step (layer.Element x)

pub expr_sites-This : (span : Span) → expr_sites (expr.This span) ≡ expr_step (layer.This span)
expr_sites-This span = ap expr_sites (sym (expr.rolls-This span)) ∙ fold-roll-Expr5 Sites Sites Sites LinkSites Sites Sites Sites Sites Sites Sites Sites Sites Sites element_step expr_step for_first_step link_step property_step stat_step block_step case_step catch_step condition_step declared_step function_step operand_step (layer.This span)

pub expr_sites-Name : (span : Span) (name : List ℕ) → expr_sites (expr.Name span name) ≡ expr_step (layer.Name span name)
expr_sites-Name span name = ap expr_sites (sym (expr.rolls-Name span name)) ∙ fold-roll-Expr5 Sites Sites Sites LinkSites Sites Sites Sites Sites Sites Sites Sites Sites Sites element_step expr_step for_first_step link_step property_step stat_step block_step case_step catch_step condition_step declared_step function_step operand_step (layer.Name span name)

pub expr_sites-Literal : (span : Span) (value : Literal5) → expr_sites (expr.Literal span value) ≡ expr_step (layer.Literal span value)
expr_sites-Literal span value = ap expr_sites (sym (expr.rolls-Literal span value)) ∙ fold-roll-Expr5 Sites Sites Sites LinkSites Sites Sites Sites Sites Sites Sites Sites Sites Sites element_step expr_step for_first_step link_step property_step stat_step block_step case_step catch_step condition_step declared_step function_step operand_step (layer.Literal span value)

pub expr_sites-ArrayList : (span : Span) (elements : List Element5) → expr_sites (expr.ArrayList span elements) ≡ expr_step (layer.ArrayList span (map element_sites elements))
expr_sites-ArrayList span elements = ap expr_sites (sym (expr.rolls-ArrayList span elements)) ∙ fold-roll-Expr5 Sites Sites Sites LinkSites Sites Sites Sites Sites Sites Sites Sites Sites Sites element_step expr_step for_first_step link_step property_step stat_step block_step case_step catch_step condition_step declared_step function_step operand_step (layer.ArrayList span elements)

pub expr_sites-ObjectList : (span : Span) (properties : List Property5) → expr_sites (expr.ObjectList span properties) ≡ expr_step (layer.ObjectList span (map property_sites properties))
expr_sites-ObjectList span properties = ap expr_sites (sym (expr.rolls-ObjectList span properties)) ∙ fold-roll-Expr5 Sites Sites Sites LinkSites Sites Sites Sites Sites Sites Sites Sites Sites Sites element_step expr_step for_first_step link_step property_step stat_step block_step case_step catch_step condition_step declared_step function_step operand_step (layer.ObjectList span properties)

pub expr_sites-Function : (f : Function5) → expr_sites (expr.Function f) ≡ expr_step (layer.Function (function_sites f))
expr_sites-Function f = ap expr_sites (sym (expr.rolls-Function f)) ∙ fold-roll-Expr5 Sites Sites Sites LinkSites Sites Sites Sites Sites Sites Sites Sites Sites Sites element_step expr_step for_first_step link_step property_step stat_step block_step case_step catch_step condition_step declared_step function_step operand_step (layer.Function f)

pub expr_sites-Chain : (span : Span) (head : Expr5) (links : List Link5) → expr_sites (expr.Chain span head links) ≡ expr_step (layer.Chain span (expr_sites head) (map link_sites links))
expr_sites-Chain span head links = ap expr_sites (sym (expr.rolls-Chain span head links)) ∙ fold-roll-Expr5 Sites Sites Sites LinkSites Sites Sites Sites Sites Sites Sites Sites Sites Sites element_step expr_step for_first_step link_step property_step stat_step block_step case_step catch_step condition_step declared_step function_step operand_step (layer.Chain span head links)

pub expr_sites-New : (span : Span) (callee : Expr5) (arguments : List Expr5) → expr_sites (expr.New span callee arguments) ≡ expr_step (layer.New span (expr_sites callee) (map expr_sites arguments))
expr_sites-New span callee arguments = ap expr_sites (sym (expr.rolls-New span callee arguments)) ∙ fold-roll-Expr5 Sites Sites Sites LinkSites Sites Sites Sites Sites Sites Sites Sites Sites Sites element_step expr_step for_first_step link_step property_step stat_step block_step case_step catch_step condition_step declared_step function_step operand_step (layer.New span callee arguments)

pub expr_sites-Update : (span : Span) (operator : UpdateOperator5) (target : Expr5) → expr_sites (expr.Update span operator target) ≡ expr_step (layer.Update span operator (expr_sites target))
expr_sites-Update span operator target = ap expr_sites (sym (expr.rolls-Update span operator target)) ∙ fold-roll-Expr5 Sites Sites Sites LinkSites Sites Sites Sites Sites Sites Sites Sites Sites Sites element_step expr_step for_first_step link_step property_step stat_step block_step case_step catch_step condition_step declared_step function_step operand_step (layer.Update span operator target)

pub expr_sites-Unary : (span : Span) (operator : UnaryOperator5) (operand : Expr5) → expr_sites (expr.Unary span operator operand) ≡ expr_step (layer.Unary span operator (expr_sites operand))
expr_sites-Unary span operator operand = ap expr_sites (sym (expr.rolls-Unary span operator operand)) ∙ fold-roll-Expr5 Sites Sites Sites LinkSites Sites Sites Sites Sites Sites Sites Sites Sites Sites element_step expr_step for_first_step link_step property_step stat_step block_step case_step catch_step condition_step declared_step function_step operand_step (layer.Unary span operator operand)

pub expr_sites-Binary : (span : Span) (first : Expr5) (operands : List Operand5) → expr_sites (expr.Binary span first operands) ≡ expr_step (layer.Binary span (expr_sites first) (map operand_sites operands))
expr_sites-Binary span first operands = ap expr_sites (sym (expr.rolls-Binary span first operands)) ∙ fold-roll-Expr5 Sites Sites Sites LinkSites Sites Sites Sites Sites Sites Sites Sites Sites Sites element_step expr_step for_first_step link_step property_step stat_step block_step case_step catch_step condition_step declared_step function_step operand_step (layer.Binary span first operands)

pub expr_sites-Conditional : (span : Span) (test : Expr5) (yes_ : Expr5) (no_ : Expr5) → expr_sites (expr.Conditional span test yes_ no_) ≡ expr_step (layer.Conditional span (expr_sites test) (expr_sites yes_) (expr_sites no_))
expr_sites-Conditional span test yes_ no_ = ap expr_sites (sym (expr.rolls-Conditional span test yes_ no_)) ∙ fold-roll-Expr5 Sites Sites Sites LinkSites Sites Sites Sites Sites Sites Sites Sites Sites Sites element_step expr_step for_first_step link_step property_step stat_step block_step case_step catch_step condition_step declared_step function_step operand_step (layer.Conditional span test yes_ no_)

pub expr_sites-Assign : (span : Span) (operator : AssignOperator5) (target : Expr5) (value : Expr5) → expr_sites (expr.Assign span operator target value) ≡ expr_step (layer.Assign span operator (expr_sites target) (expr_sites value))
expr_sites-Assign span operator target value = ap expr_sites (sym (expr.rolls-Assign span operator target value)) ∙ fold-roll-Expr5 Sites Sites Sites LinkSites Sites Sites Sites Sites Sites Sites Sites Sites Sites element_step expr_step for_first_step link_step property_step stat_step block_step case_step catch_step condition_step declared_step function_step operand_step (layer.Assign span operator target value)

pub expr_sites-Sequence : (span : Span) (first : Expr5) (parts : List Expr5) → expr_sites (expr.Sequence span first parts) ≡ expr_step (layer.Sequence span (expr_sites first) (map expr_sites parts))
expr_sites-Sequence span first parts = ap expr_sites (sym (expr.rolls-Sequence span first parts)) ∙ fold-roll-Expr5 Sites Sites Sites LinkSites Sites Sites Sites Sites Sites Sites Sites Sites Sites element_step expr_step for_first_step link_step property_step stat_step block_step case_step catch_step condition_step declared_step function_step operand_step (layer.Sequence span first parts)

pub for_first_sites-NoFirst : for_first_sites (for_first.NoFirst) ≡ for_first_step (layer.NoFirst)
for_first_sites-NoFirst = ap for_first_sites (sym (for_first.rolls-NoFirst)) ∙ fold-roll-ForFirst5 Sites Sites Sites LinkSites Sites Sites Sites Sites Sites Sites Sites Sites Sites element_step expr_step for_first_step link_step property_step stat_step block_step case_step catch_step condition_step declared_step function_step operand_step (layer.NoFirst)

pub for_first_sites-FirstVar : (declared : List Declared5) → for_first_sites (for_first.FirstVar declared) ≡ for_first_step (layer.FirstVar (map declared_sites declared))
for_first_sites-FirstVar declared = ap for_first_sites (sym (for_first.rolls-FirstVar declared)) ∙ fold-roll-ForFirst5 Sites Sites Sites LinkSites Sites Sites Sites Sites Sites Sites Sites Sites Sites element_step expr_step for_first_step link_step property_step stat_step block_step case_step catch_step condition_step declared_step function_step operand_step (layer.FirstVar declared)

pub for_first_sites-FirstExpression : (x : Expr5) → for_first_sites (for_first.FirstExpression x) ≡ for_first_step (layer.FirstExpression (expr_sites x))
for_first_sites-FirstExpression x = ap for_first_sites (sym (for_first.rolls-FirstExpression x)) ∙ fold-roll-ForFirst5 Sites Sites Sites LinkSites Sites Sites Sites Sites Sites Sites Sites Sites Sites element_step expr_step for_first_step link_step property_step stat_step block_step case_step catch_step condition_step declared_step function_step operand_step (layer.FirstExpression x)

pub link_sites-Member : (span : Span) (name : List ℕ) → link_sites (link.Member span name) ≡ link_step (layer.Member span name)
link_sites-Member span name = ap link_sites (sym (link.rolls-Member span name)) ∙ fold-roll-Link5 Sites Sites Sites LinkSites Sites Sites Sites Sites Sites Sites Sites Sites Sites element_step expr_step for_first_step link_step property_step stat_step block_step case_step catch_step condition_step declared_step function_step operand_step (layer.Member span name)

pub link_sites-Index : (span : Span) (index : Expr5) → link_sites (link.Index span index) ≡ link_step (layer.Index span (expr_sites index))
link_sites-Index span index = ap link_sites (sym (link.rolls-Index span index)) ∙ fold-roll-Link5 Sites Sites Sites LinkSites Sites Sites Sites Sites Sites Sites Sites Sites Sites element_step expr_step for_first_step link_step property_step stat_step block_step case_step catch_step condition_step declared_step function_step operand_step (layer.Index span index)

pub link_sites-Call : (span : Span) (arguments : List Expr5) (site : Option Site) → link_sites (link.Call span arguments site) ≡ link_step (layer.Call span (map expr_sites arguments) site)
link_sites-Call span arguments site = ap link_sites (sym (link.rolls-Call span arguments site)) ∙ fold-roll-Link5 Sites Sites Sites LinkSites Sites Sites Sites Sites Sites Sites Sites Sites Sites element_step expr_step for_first_step link_step property_step stat_step block_step case_step catch_step condition_step declared_step function_step operand_step (layer.Call span arguments site)

pub property_sites-Plain : (span : Span) (key : PlacedKey5) (value : Expr5) → property_sites (property.Plain span key value) ≡ property_step (layer.Plain span key (expr_sites value))
property_sites-Plain span key value = ap property_sites (sym (property.rolls-Plain span key value)) ∙ fold-roll-Property5 Sites Sites Sites LinkSites Sites Sites Sites Sites Sites Sites Sites Sites Sites element_step expr_step for_first_step link_step property_step stat_step block_step case_step catch_step condition_step declared_step function_step operand_step (layer.Plain span key value)

pub property_sites-Getter : (span : Span) (key : PlacedKey5) (f : Function5) → property_sites (property.Getter span key f) ≡ property_step (layer.Getter span key (function_sites f))
property_sites-Getter span key f = ap property_sites (sym (property.rolls-Getter span key f)) ∙ fold-roll-Property5 Sites Sites Sites LinkSites Sites Sites Sites Sites Sites Sites Sites Sites Sites element_step expr_step for_first_step link_step property_step stat_step block_step case_step catch_step condition_step declared_step function_step operand_step (layer.Getter span key f)

pub property_sites-Setter : (span : Span) (key : PlacedKey5) (f : Function5) → property_sites (property.Setter span key f) ≡ property_step (layer.Setter span key (function_sites f))
property_sites-Setter span key f = ap property_sites (sym (property.rolls-Setter span key f)) ∙ fold-roll-Property5 Sites Sites Sites LinkSites Sites Sites Sites Sites Sites Sites Sites Sites Sites element_step expr_step for_first_step link_step property_step stat_step block_step case_step catch_step condition_step declared_step function_step operand_step (layer.Setter span key f)

pub stat_sites-Var : (span : Span) (declared : List Declared5) → stat_sites (stat.Var span declared) ≡ stat_step (layer.Var span (map declared_sites declared))
stat_sites-Var span declared = ap stat_sites (sym (stat.rolls-Var span declared)) ∙ fold-roll-Stat5 Sites Sites Sites LinkSites Sites Sites Sites Sites Sites Sites Sites Sites Sites element_step expr_step for_first_step link_step property_step stat_step block_step case_step catch_step condition_step declared_step function_step operand_step (layer.Var span declared)

pub stat_sites-FunctionDeclaration : (f : Function5) → stat_sites (stat.FunctionDeclaration f) ≡ stat_step (layer.FunctionDeclaration (function_sites f))
stat_sites-FunctionDeclaration f = ap stat_sites (sym (stat.rolls-FunctionDeclaration f)) ∙ fold-roll-Stat5 Sites Sites Sites LinkSites Sites Sites Sites Sites Sites Sites Sites Sites Sites element_step expr_step for_first_step link_step property_step stat_step block_step case_step catch_step condition_step declared_step function_step operand_step (layer.FunctionDeclaration f)

pub stat_sites-Block : (b : Block5) → stat_sites (stat.Block b) ≡ stat_step (layer.Block (block_sites b))
stat_sites-Block b = ap stat_sites (sym (stat.rolls-Block b)) ∙ fold-roll-Stat5 Sites Sites Sites LinkSites Sites Sites Sites Sites Sites Sites Sites Sites Sites element_step expr_step for_first_step link_step property_step stat_step block_step case_step catch_step condition_step declared_step function_step operand_step (layer.Block b)

pub stat_sites-Empty : (span : Span) → stat_sites (stat.Empty span) ≡ stat_step (layer.Empty span)
stat_sites-Empty span = ap stat_sites (sym (stat.rolls-Empty span)) ∙ fold-roll-Stat5 Sites Sites Sites LinkSites Sites Sites Sites Sites Sites Sites Sites Sites Sites element_step expr_step for_first_step link_step property_step stat_step block_step case_step catch_step condition_step declared_step function_step operand_step (layer.Empty span)

pub stat_sites-Expression : (span : Span) (x : Expr5) → stat_sites (stat.Expression span x) ≡ stat_step (layer.Expression span (expr_sites x))
stat_sites-Expression span x = ap stat_sites (sym (stat.rolls-Expression span x)) ∙ fold-roll-Stat5 Sites Sites Sites LinkSites Sites Sites Sites Sites Sites Sites Sites Sites Sites element_step expr_step for_first_step link_step property_step stat_step block_step case_step catch_step condition_step declared_step function_step operand_step (layer.Expression span x)

pub stat_sites-If : (span : Span) (first : Condition5) (more : List Condition5) (otherwise : Option Stat5) → stat_sites (stat.If span first more otherwise) ≡ stat_step (layer.If span (condition_sites first) (map condition_sites more) (option_map stat_sites otherwise))
stat_sites-If span first more None = ap stat_sites (sym (stat.rolls-If span first more None)) ∙ fold-roll-Stat5 Sites Sites Sites LinkSites Sites Sites Sites Sites Sites Sites Sites Sites Sites element_step expr_step for_first_step link_step property_step stat_step block_step case_step catch_step condition_step declared_step function_step operand_step (layer.If span first more None)
stat_sites-If span first more (Some otherwise) = ap stat_sites (sym (stat.rolls-If span first more (Some otherwise))) ∙ fold-roll-Stat5 Sites Sites Sites LinkSites Sites Sites Sites Sites Sites Sites Sites Sites Sites element_step expr_step for_first_step link_step property_step stat_step block_step case_step catch_step condition_step declared_step function_step operand_step (layer.If span first more (Some otherwise))

pub stat_sites-DoWhile : (span : Span) (body : Stat5) (test : Expr5) → stat_sites (stat.DoWhile span body test) ≡ stat_step (layer.DoWhile span (stat_sites body) (expr_sites test))
stat_sites-DoWhile span body test = ap stat_sites (sym (stat.rolls-DoWhile span body test)) ∙ fold-roll-Stat5 Sites Sites Sites LinkSites Sites Sites Sites Sites Sites Sites Sites Sites Sites element_step expr_step for_first_step link_step property_step stat_step block_step case_step catch_step condition_step declared_step function_step operand_step (layer.DoWhile span body test)

pub stat_sites-While : (span : Span) (test : Expr5) (body : Stat5) → stat_sites (stat.While span test body) ≡ stat_step (layer.While span (expr_sites test) (stat_sites body))
stat_sites-While span test body = ap stat_sites (sym (stat.rolls-While span test body)) ∙ fold-roll-Stat5 Sites Sites Sites LinkSites Sites Sites Sites Sites Sites Sites Sites Sites Sites element_step expr_step for_first_step link_step property_step stat_step block_step case_step catch_step condition_step declared_step function_step operand_step (layer.While span test body)

pub stat_sites-For : (span : Span) (first : ForFirst5) (test : Option Expr5) (update : Option Expr5) (body : Stat5) → stat_sites (stat.For span first test update body) ≡ stat_step (layer.For span (for_first_sites first) (option_map expr_sites test) (option_map expr_sites update) (stat_sites body))
stat_sites-For span first None None body = ap stat_sites (sym (stat.rolls-For span first None None body)) ∙ fold-roll-Stat5 Sites Sites Sites LinkSites Sites Sites Sites Sites Sites Sites Sites Sites Sites element_step expr_step for_first_step link_step property_step stat_step block_step case_step catch_step condition_step declared_step function_step operand_step (layer.For span first None None body)
stat_sites-For span first None (Some update) body = ap stat_sites (sym (stat.rolls-For span first None (Some update) body)) ∙ fold-roll-Stat5 Sites Sites Sites LinkSites Sites Sites Sites Sites Sites Sites Sites Sites Sites element_step expr_step for_first_step link_step property_step stat_step block_step case_step catch_step condition_step declared_step function_step operand_step (layer.For span first None (Some update) body)
stat_sites-For span first (Some test) None body = ap stat_sites (sym (stat.rolls-For span first (Some test) None body)) ∙ fold-roll-Stat5 Sites Sites Sites LinkSites Sites Sites Sites Sites Sites Sites Sites Sites Sites element_step expr_step for_first_step link_step property_step stat_step block_step case_step catch_step condition_step declared_step function_step operand_step (layer.For span first (Some test) None body)
stat_sites-For span first (Some test) (Some update) body = ap stat_sites (sym (stat.rolls-For span first (Some test) (Some update) body)) ∙ fold-roll-Stat5 Sites Sites Sites LinkSites Sites Sites Sites Sites Sites Sites Sites Sites Sites element_step expr_step for_first_step link_step property_step stat_step block_step case_step catch_step condition_step declared_step function_step operand_step (layer.For span first (Some test) (Some update) body)

pub stat_sites-Continue : (span : Span) (label : Option Identifier5) → stat_sites (stat.Continue span label) ≡ stat_step (layer.Continue span label)
stat_sites-Continue span label = ap stat_sites (sym (stat.rolls-Continue span label)) ∙ fold-roll-Stat5 Sites Sites Sites LinkSites Sites Sites Sites Sites Sites Sites Sites Sites Sites element_step expr_step for_first_step link_step property_step stat_step block_step case_step catch_step condition_step declared_step function_step operand_step (layer.Continue span label)

pub stat_sites-Break : (span : Span) (label : Option Identifier5) → stat_sites (stat.Break span label) ≡ stat_step (layer.Break span label)
stat_sites-Break span label = ap stat_sites (sym (stat.rolls-Break span label)) ∙ fold-roll-Stat5 Sites Sites Sites LinkSites Sites Sites Sites Sites Sites Sites Sites Sites Sites element_step expr_step for_first_step link_step property_step stat_step block_step case_step catch_step condition_step declared_step function_step operand_step (layer.Break span label)

pub stat_sites-Return : (span : Span) (value : Option Expr5) → stat_sites (stat.Return span value) ≡ stat_step (layer.Return span (option_map expr_sites value))
stat_sites-Return span None = ap stat_sites (sym (stat.rolls-Return span None)) ∙ fold-roll-Stat5 Sites Sites Sites LinkSites Sites Sites Sites Sites Sites Sites Sites Sites Sites element_step expr_step for_first_step link_step property_step stat_step block_step case_step catch_step condition_step declared_step function_step operand_step (layer.Return span None)
stat_sites-Return span (Some value) = ap stat_sites (sym (stat.rolls-Return span (Some value))) ∙ fold-roll-Stat5 Sites Sites Sites LinkSites Sites Sites Sites Sites Sites Sites Sites Sites Sites element_step expr_step for_first_step link_step property_step stat_step block_step case_step catch_step condition_step declared_step function_step operand_step (layer.Return span (Some value))

pub stat_sites-Switch : (span : Span) (subject : Expr5) (cases : List Case5) → stat_sites (stat.Switch span subject cases) ≡ stat_step (layer.Switch span (expr_sites subject) (map case_sites cases))
stat_sites-Switch span subject cases = ap stat_sites (sym (stat.rolls-Switch span subject cases)) ∙ fold-roll-Stat5 Sites Sites Sites LinkSites Sites Sites Sites Sites Sites Sites Sites Sites Sites element_step expr_step for_first_step link_step property_step stat_step block_step case_step catch_step condition_step declared_step function_step operand_step (layer.Switch span subject cases)

pub stat_sites-Labelled : (span : Span) (label : Identifier5) (body : Stat5) → stat_sites (stat.Labelled span label body) ≡ stat_step (layer.Labelled span label (stat_sites body))
stat_sites-Labelled span label body = ap stat_sites (sym (stat.rolls-Labelled span label body)) ∙ fold-roll-Stat5 Sites Sites Sites LinkSites Sites Sites Sites Sites Sites Sites Sites Sites Sites element_step expr_step for_first_step link_step property_step stat_step block_step case_step catch_step condition_step declared_step function_step operand_step (layer.Labelled span label body)

pub stat_sites-Throw : (span : Span) (value : Expr5) → stat_sites (stat.Throw span value) ≡ stat_step (layer.Throw span (expr_sites value))
stat_sites-Throw span value = ap stat_sites (sym (stat.rolls-Throw span value)) ∙ fold-roll-Stat5 Sites Sites Sites LinkSites Sites Sites Sites Sites Sites Sites Sites Sites Sites element_step expr_step for_first_step link_step property_step stat_step block_step case_step catch_step condition_step declared_step function_step operand_step (layer.Throw span value)

pub stat_sites-Try : (span : Span) (b : Block5) (handler : Option Catch5) (last : Option Block5) → stat_sites (stat.Try span b handler last) ≡ stat_step (layer.Try span (block_sites b) (option_map catch_sites handler) (option_map block_sites last))
stat_sites-Try span b None None = ap stat_sites (sym (stat.rolls-Try span b None None)) ∙ fold-roll-Stat5 Sites Sites Sites LinkSites Sites Sites Sites Sites Sites Sites Sites Sites Sites element_step expr_step for_first_step link_step property_step stat_step block_step case_step catch_step condition_step declared_step function_step operand_step (layer.Try span b None None)
stat_sites-Try span b None (Some last) = ap stat_sites (sym (stat.rolls-Try span b None (Some last))) ∙ fold-roll-Stat5 Sites Sites Sites LinkSites Sites Sites Sites Sites Sites Sites Sites Sites Sites element_step expr_step for_first_step link_step property_step stat_step block_step case_step catch_step condition_step declared_step function_step operand_step (layer.Try span b None (Some last))
stat_sites-Try span b (Some handler) None = ap stat_sites (sym (stat.rolls-Try span b (Some handler) None)) ∙ fold-roll-Stat5 Sites Sites Sites LinkSites Sites Sites Sites Sites Sites Sites Sites Sites Sites element_step expr_step for_first_step link_step property_step stat_step block_step case_step catch_step condition_step declared_step function_step operand_step (layer.Try span b (Some handler) None)
stat_sites-Try span b (Some handler) (Some last) = ap stat_sites (sym (stat.rolls-Try span b (Some handler) (Some last))) ∙ fold-roll-Stat5 Sites Sites Sites LinkSites Sites Sites Sites Sites Sites Sites Sites Sites Sites element_step expr_step for_first_step link_step property_step stat_step block_step case_step catch_step condition_step declared_step function_step operand_step (layer.Try span b (Some handler) (Some last))

pub stat_sites-Debugger : (span : Span) → stat_sites (stat.Debugger span) ≡ stat_step (layer.Debugger span)
stat_sites-Debugger span = ap stat_sites (sym (stat.rolls-Debugger span)) ∙ fold-roll-Stat5 Sites Sites Sites LinkSites Sites Sites Sites Sites Sites Sites Sites Sites Sites element_step expr_step for_first_step link_step property_step stat_step block_step case_step catch_step condition_step declared_step function_step operand_step (layer.Debugger span)

pub block_sites-roll : (span : Span) (statements : List Stat5) → block_sites (roll-Block5 (record { span = span; statements = statements })) ≡ block_step (record { span = span; statements = map stat_sites statements })
block_sites-roll span statements = fold-roll-Block5 Sites Sites Sites LinkSites Sites Sites Sites Sites Sites Sites Sites Sites Sites element_step expr_step for_first_step link_step property_step stat_step block_step case_step catch_step condition_step declared_step function_step operand_step (record { span = span; statements = statements })

pub case_sites-roll : (span : Span) (test : Option Expr5) (body : List Stat5) → case_sites (roll-Case5 (record { span = span; test = test; body = body })) ≡ case_step (record { span = span; test = option_map expr_sites test; body = map stat_sites body })
case_sites-roll span None body = fold-roll-Case5 Sites Sites Sites LinkSites Sites Sites Sites Sites Sites Sites Sites Sites Sites element_step expr_step for_first_step link_step property_step stat_step block_step case_step catch_step condition_step declared_step function_step operand_step (record { span = span; test = None; body = body })
case_sites-roll span (Some test) body = fold-roll-Case5 Sites Sites Sites LinkSites Sites Sites Sites Sites Sites Sites Sites Sites Sites element_step expr_step for_first_step link_step property_step stat_step block_step case_step catch_step condition_step declared_step function_step operand_step (record { span = span; test = Some test; body = body })

pub catch_sites-roll : (span : Span) (parameter : Identifier5) (body : Block5) → catch_sites (roll-Catch5 (record { span = span; parameter = parameter; body = body })) ≡ catch_step (record { span = span; parameter = parameter; body = block_sites body })
catch_sites-roll span parameter body = fold-roll-Catch5 Sites Sites Sites LinkSites Sites Sites Sites Sites Sites Sites Sites Sites Sites element_step expr_step for_first_step link_step property_step stat_step block_step case_step catch_step condition_step declared_step function_step operand_step (record { span = span; parameter = parameter; body = body })

pub condition_sites-roll : (span : Span) (test : Expr5) (body : Stat5) → condition_sites (roll-Condition5 (record { span = span; test = test; body = body })) ≡ condition_step (record { span = span; test = expr_sites test; body = stat_sites body })
condition_sites-roll span test body = fold-roll-Condition5 Sites Sites Sites LinkSites Sites Sites Sites Sites Sites Sites Sites Sites Sites element_step expr_step for_first_step link_step property_step stat_step block_step case_step catch_step condition_step declared_step function_step operand_step (record { span = span; test = test; body = body })

pub declared_sites-roll : (span : Span) (name : Identifier5) (init : Option Expr5) → declared_sites (roll-Declared5 (record { span = span; name = name; init = init })) ≡ declared_step (record { span = span; name = name; init = option_map expr_sites init })
declared_sites-roll span name None = fold-roll-Declared5 Sites Sites Sites LinkSites Sites Sites Sites Sites Sites Sites Sites Sites Sites element_step expr_step for_first_step link_step property_step stat_step block_step case_step catch_step condition_step declared_step function_step operand_step (record { span = span; name = name; init = None })
declared_sites-roll span name (Some init) = fold-roll-Declared5 Sites Sites Sites LinkSites Sites Sites Sites Sites Sites Sites Sites Sites Sites element_step expr_step for_first_step link_step property_step stat_step block_step case_step catch_step condition_step declared_step function_step operand_step (record { span = span; name = name; init = Some init })

pub function_sites-roll : (span : Span) (name : Option Identifier5) (parameters : List Identifier5) (body : List Stat5) → function_sites (roll-Function5 (record { span = span; name = name; parameters = parameters; body = body })) ≡ function_step (record { span = span; name = name; parameters = parameters; body = map stat_sites body })
function_sites-roll span name parameters body = fold-roll-Function5 Sites Sites Sites LinkSites Sites Sites Sites Sites Sites Sites Sites Sites Sites element_step expr_step for_first_step link_step property_step stat_step block_step case_step catch_step condition_step declared_step function_step operand_step (record { span = span; name = name; parameters = parameters; body = body })

pub operand_sites-roll : (operator : BinaryOperator5) (value : Expr5) → operand_sites (roll-Operand5 (record { operator = operator; value = value })) ≡ operand_step (record { operator = operator; value = expr_sites value })
operand_sites-roll operator value = fold-roll-Operand5 Sites Sites Sites LinkSites Sites Sites Sites Sites Sites Sites Sites Sites Sites element_step expr_step for_first_step link_step property_step stat_step block_step case_step catch_step condition_step declared_step function_step operand_step (record { operator = operator; value = value })
