-- What a script is but for its spans and the sites that its calls carry: the tree with every span at 0 and no site.
use Rattle.std.specs.Prelude.{List, map, None}
use Rattle.std.specs.Option.{option_map}
use Rattle.es_text.specs.declared.Span.{Span}
use Rattle.es5_ast.specs.declared.tree.Identifier5.{Identifier5}
use Rattle.es5_ast.specs.declared.tree.PlacedKey5.{PlacedKey5}
use Rattle.es5_ast.specs.declared.tree.Element5.{Element5, fold-Element5}
use Rattle.es5_ast.specs.declared.tree.Element5.TheVariants as element
use Rattle.es5_ast.specs.declared.tree.Expr5.{Expr5, fold-Expr5}
use Rattle.es5_ast.specs.declared.tree.Expr5.TheVariants as expr
use Rattle.es5_ast.specs.declared.tree.ForFirst5.{ForFirst5, fold-ForFirst5}
use Rattle.es5_ast.specs.declared.tree.ForFirst5.TheVariants as for_first
use Rattle.es5_ast.specs.declared.tree.Link5.{Link5, fold-Link5}
use Rattle.es5_ast.specs.declared.tree.Link5.TheVariants as link
use Rattle.es5_ast.specs.declared.tree.Property5.{Property5, fold-Property5}
use Rattle.es5_ast.specs.declared.tree.Property5.TheVariants as property
use Rattle.es5_ast.specs.declared.tree.Stat5.{Stat5, fold-Stat5}
use Rattle.es5_ast.specs.declared.tree.Stat5.TheVariants as stat
use Rattle.es5_ast.specs.declared.tree.Block5.{Block5, roll-Block5, fold-Block5}
use Rattle.es5_ast.specs.declared.tree.Case5.{Case5, roll-Case5, fold-Case5}
use Rattle.es5_ast.specs.declared.tree.Catch5.{Catch5, roll-Catch5, fold-Catch5}
use Rattle.es5_ast.specs.declared.tree.Condition5.{Condition5, roll-Condition5, fold-Condition5}
use Rattle.es5_ast.specs.declared.tree.Declared5.{Declared5, roll-Declared5, fold-Declared5}
use Rattle.es5_ast.specs.declared.tree.Function5.{Function5, roll-Function5, fold-Function5}
use Rattle.es5_ast.specs.declared.tree.Operand5.{Operand5, roll-Operand5, fold-Operand5}
use Rattle.es5_ast.specs.declared.tree.Element5.TheOpen as layer
use Rattle.es5_ast.specs.declared.tree.Element5.TheOpen.{Element5-F, Expr5-F, ForFirst5-F, Link5-F, Property5-F, Stat5-F, Block5-F, Case5-F, Catch5-F, Condition5-F, Declared5-F, Function5-F, Operand5-F}

abbrev pub nowhere : Span
nowhere = record { begin = 0; end = 0 }

abbrev pub bare_name : Identifier5 → Identifier5
bare_name x = record x { span = nowhere }

abbrev pub bare_key : PlacedKey5 → PlacedKey5
bare_key x = record x { span = nowhere }

abbrev Layer : (Type 0 → Type 0 → Type 0 → Type 0 → Type 0 → Type 0 → Type 0 → Type 0 → Type 0 → Type 0 → Type 0 → Type 0 → Type 0 → Type 0) → Type 0
Layer Of = Of Element5 Expr5 ForFirst5 Link5 Property5 Stat5 Block5 Case5 Catch5 Condition5 Declared5 Function5 Operand5

abbrev pub element_step : Layer Element5-F → Element5
element_step layer.Hole = element.Hole
element_step (layer.Element x) = element.Element x

abbrev pub expr_step : Layer Expr5-F → Expr5
expr_step (layer.This span) = expr.This nowhere
expr_step (layer.Name span name) = expr.Name nowhere name
expr_step (layer.Literal span value) = expr.Literal nowhere value
expr_step (layer.ArrayList span elements) = expr.ArrayList nowhere elements
expr_step (layer.ObjectList span properties) = expr.ObjectList nowhere properties
expr_step (layer.Function f) = expr.Function f
expr_step (layer.Chain span head links) = expr.Chain nowhere head links
expr_step (layer.New span callee arguments) = expr.New nowhere callee arguments
expr_step (layer.Update span operator target) = expr.Update nowhere operator target
expr_step (layer.Unary span operator operand) = expr.Unary nowhere operator operand
expr_step (layer.Binary span first rest) = expr.Binary nowhere first rest
expr_step (layer.Conditional span test yes_ no_) = expr.Conditional nowhere test yes_ no_
expr_step (layer.Assign span operator target value) = expr.Assign nowhere operator target value
expr_step (layer.Sequence span first rest) = expr.Sequence nowhere first rest

abbrev pub for_first_step : Layer ForFirst5-F → ForFirst5
for_first_step layer.NoFirst = for_first.NoFirst
for_first_step (layer.FirstVar declared) = for_first.FirstVar declared
for_first_step (layer.FirstExpression x) = for_first.FirstExpression x

abbrev pub link_step : Layer Link5-F → Link5
link_step (layer.Member span name) = link.Member nowhere name
link_step (layer.Index span index) = link.Index nowhere index
link_step (layer.Call span arguments site) = link.Call nowhere arguments None

abbrev pub property_step : Layer Property5-F → Property5
property_step (layer.Plain span key value) = property.Plain nowhere (bare_key key) value
property_step (layer.Getter span key function) = property.Getter nowhere (bare_key key) function
property_step (layer.Setter span key function) = property.Setter nowhere (bare_key key) function

abbrev pub stat_step : Layer Stat5-F → Stat5
stat_step (layer.Var span declared) = stat.Var nowhere declared
stat_step (layer.FunctionDeclaration function) = stat.FunctionDeclaration function
stat_step (layer.Block block) = stat.Block block
stat_step (layer.Empty span) = stat.Empty nowhere
stat_step (layer.Expression span x) = stat.Expression nowhere x
stat_step (layer.If span first more otherwise) = stat.If nowhere first more otherwise
stat_step (layer.DoWhile span body test) = stat.DoWhile nowhere body test
stat_step (layer.While span test body) = stat.While nowhere test body
stat_step (layer.For span first test update body) = stat.For nowhere first test update body
stat_step (layer.Continue span label) = stat.Continue nowhere (option_map bare_name label)
stat_step (layer.Break span label) = stat.Break nowhere (option_map bare_name label)
stat_step (layer.Return span value) = stat.Return nowhere value
stat_step (layer.Switch span subject cases) = stat.Switch nowhere subject cases
stat_step (layer.Labelled span label body) = stat.Labelled nowhere (bare_name label) body
stat_step (layer.Throw span value) = stat.Throw nowhere value
stat_step (layer.Try span block handler last) = stat.Try nowhere block handler last
stat_step (layer.Debugger span) = stat.Debugger nowhere

abbrev pub block_step : Layer Block5-F → Block5
block_step x = roll-Block5 (record x { span = nowhere })

abbrev pub case_step : Layer Case5-F → Case5
case_step x = roll-Case5 (record x { span = nowhere })

abbrev pub catch_step : Layer Catch5-F → Catch5
catch_step x = roll-Catch5 (record { span = nowhere; parameter = bare_name x.parameter; body = x.body })

abbrev pub condition_step : Layer Condition5-F → Condition5
condition_step x = roll-Condition5 (record x { span = nowhere })

abbrev pub declared_step : Layer Declared5-F → Declared5
declared_step x = roll-Declared5 (record { span = nowhere; name = bare_name x.name; init = x.init })

abbrev pub function_step : Layer Function5-F → Function5
function_step x = roll-Function5 (record { span = nowhere; name = option_map bare_name x.name; parameters = map bare_name x.parameters; body = x.body })

abbrev pub operand_step : Layer Operand5-F → Operand5
operand_step x = roll-Operand5 x

abbrev pub bare_element : Element5 → Element5
bare_element = fold-Element5 Element5 Expr5 ForFirst5 Link5 Property5 Stat5 Block5 Case5 Catch5 Condition5 Declared5 Function5 Operand5 element_step expr_step for_first_step link_step property_step stat_step block_step case_step catch_step condition_step declared_step function_step operand_step

abbrev pub bare_expr : Expr5 → Expr5
bare_expr = fold-Expr5 Element5 Expr5 ForFirst5 Link5 Property5 Stat5 Block5 Case5 Catch5 Condition5 Declared5 Function5 Operand5 element_step expr_step for_first_step link_step property_step stat_step block_step case_step catch_step condition_step declared_step function_step operand_step

abbrev pub bare_for_first : ForFirst5 → ForFirst5
bare_for_first = fold-ForFirst5 Element5 Expr5 ForFirst5 Link5 Property5 Stat5 Block5 Case5 Catch5 Condition5 Declared5 Function5 Operand5 element_step expr_step for_first_step link_step property_step stat_step block_step case_step catch_step condition_step declared_step function_step operand_step

abbrev pub bare_link : Link5 → Link5
bare_link = fold-Link5 Element5 Expr5 ForFirst5 Link5 Property5 Stat5 Block5 Case5 Catch5 Condition5 Declared5 Function5 Operand5 element_step expr_step for_first_step link_step property_step stat_step block_step case_step catch_step condition_step declared_step function_step operand_step

abbrev pub bare_property : Property5 → Property5
bare_property = fold-Property5 Element5 Expr5 ForFirst5 Link5 Property5 Stat5 Block5 Case5 Catch5 Condition5 Declared5 Function5 Operand5 element_step expr_step for_first_step link_step property_step stat_step block_step case_step catch_step condition_step declared_step function_step operand_step

abbrev pub bare_stat : Stat5 → Stat5
bare_stat = fold-Stat5 Element5 Expr5 ForFirst5 Link5 Property5 Stat5 Block5 Case5 Catch5 Condition5 Declared5 Function5 Operand5 element_step expr_step for_first_step link_step property_step stat_step block_step case_step catch_step condition_step declared_step function_step operand_step

abbrev pub bare_block : Block5 → Block5
bare_block = fold-Block5 Element5 Expr5 ForFirst5 Link5 Property5 Stat5 Block5 Case5 Catch5 Condition5 Declared5 Function5 Operand5 element_step expr_step for_first_step link_step property_step stat_step block_step case_step catch_step condition_step declared_step function_step operand_step

abbrev pub bare_case : Case5 → Case5
bare_case = fold-Case5 Element5 Expr5 ForFirst5 Link5 Property5 Stat5 Block5 Case5 Catch5 Condition5 Declared5 Function5 Operand5 element_step expr_step for_first_step link_step property_step stat_step block_step case_step catch_step condition_step declared_step function_step operand_step

abbrev pub bare_catch : Catch5 → Catch5
bare_catch = fold-Catch5 Element5 Expr5 ForFirst5 Link5 Property5 Stat5 Block5 Case5 Catch5 Condition5 Declared5 Function5 Operand5 element_step expr_step for_first_step link_step property_step stat_step block_step case_step catch_step condition_step declared_step function_step operand_step

abbrev pub bare_condition : Condition5 → Condition5
bare_condition = fold-Condition5 Element5 Expr5 ForFirst5 Link5 Property5 Stat5 Block5 Case5 Catch5 Condition5 Declared5 Function5 Operand5 element_step expr_step for_first_step link_step property_step stat_step block_step case_step catch_step condition_step declared_step function_step operand_step

abbrev pub bare_declared : Declared5 → Declared5
bare_declared = fold-Declared5 Element5 Expr5 ForFirst5 Link5 Property5 Stat5 Block5 Case5 Catch5 Condition5 Declared5 Function5 Operand5 element_step expr_step for_first_step link_step property_step stat_step block_step case_step catch_step condition_step declared_step function_step operand_step

abbrev pub bare_function : Function5 → Function5
bare_function = fold-Function5 Element5 Expr5 ForFirst5 Link5 Property5 Stat5 Block5 Case5 Catch5 Condition5 Declared5 Function5 Operand5 element_step expr_step for_first_step link_step property_step stat_step block_step case_step catch_step condition_step declared_step function_step operand_step

abbrev pub bare_operand : Operand5 → Operand5
bare_operand = fold-Operand5 Element5 Expr5 ForFirst5 Link5 Property5 Stat5 Block5 Case5 Catch5 Condition5 Declared5 Function5 Operand5 element_step expr_step for_first_step link_step property_step stat_step block_step case_step catch_step condition_step declared_step function_step operand_step

abbrev pub bare_statements : List Stat5 → List Stat5
bare_statements statements = map bare_stat statements
