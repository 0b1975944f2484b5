-- The sites of a script's calls in text order, where a call's own site comes before those inside it. What is given for
-- a node are its sites and then those that follow.
use Rattle.std.specs.Prelude.{List, [], ◌∷◌, map, Option, Some, None}
use Rattle.es_outside.specs.declared.events.Site.{Site}
use Rattle.es5_ast.specs.declared.tree.Element5.{Element5, fold-Element5}
use Rattle.es5_ast.specs.declared.tree.Expr5.{Expr5, fold-Expr5}
use Rattle.es5_ast.specs.declared.tree.ForFirst5.{ForFirst5, fold-ForFirst5}
use Rattle.es5_ast.specs.declared.tree.Link5.{Link5, fold-Link5}
use Rattle.es5_ast.specs.declared.tree.Property5.{Property5, fold-Property5}
use Rattle.es5_ast.specs.declared.tree.Stat5.{Stat5, fold-Stat5}
use Rattle.es5_ast.specs.declared.tree.Block5.{Block5, fold-Block5}
use Rattle.es5_ast.specs.declared.tree.Case5.{Case5, fold-Case5}
use Rattle.es5_ast.specs.declared.tree.Catch5.{Catch5, fold-Catch5}
use Rattle.es5_ast.specs.declared.tree.Condition5.{Condition5, fold-Condition5}
use Rattle.es5_ast.specs.declared.tree.Declared5.{Declared5, fold-Declared5}
use Rattle.es5_ast.specs.declared.tree.Function5.{Function5, fold-Function5}
use Rattle.es5_ast.specs.declared.tree.Operand5.{Operand5, fold-Operand5}
use Rattle.es5_ast.specs.declared.tree.Script.{Script}
use Rattle.es5_ast.specs.declared.tree.Element5.TheOpen as layer
use Rattle.es5_ast.specs.declared.tree.Element5.TheOpen.{Element5-F, Expr5-F, ForFirst5-F, Link5-F, Property5-F, Stat5-F, Block5-F, Case5-F, Catch5-F, Condition5-F, Declared5-F, Function5-F, Operand5-F}

abbrev pub Sites : Type 0
Sites = List Site → List Site

abbrev pub every : List Sites → Sites
every [] rest = rest
every (s ∷ ss) rest = s (every ss rest)

abbrev pub any : Option Sites → Sites
any None rest = rest
any (Some s) rest = s rest

-- a link's own site, if it is a call that carries one, and those inside it
pub record LinkSites : Type 0 where
  pub own : Option Site
  pub inner : Sites

abbrev pub own_site : Option Site → Sites
own_site None rest = rest
own_site (Some site) rest = site ∷ rest

abbrev pub own_sites : List LinkSites → Sites
own_sites [] rest = rest
own_sites (l ∷ ls) rest = own_site l.own (own_sites ls rest)

abbrev pub inner_sites : List LinkSites → Sites
inner_sites [] rest = rest
inner_sites (l ∷ ls) rest = l.inner (inner_sites ls rest)

abbrev pub Layer : (Type 0 → Type 0 → Type 0 → Type 0 → Type 0 → Type 0 → Type 0 → Type 0 → Type 0 → Type 0 → Type 0 → Type 0 → Type 0 → Type 0) → Type 0
Layer Of = Of Sites Sites Sites LinkSites Sites Sites Sites Sites Sites Sites Sites Sites Sites

abbrev pub element_step : Layer Element5-F → Sites
element_step layer.Hole rest = rest
element_step (layer.Element x) rest = x rest

abbrev pub expr_step : Layer Expr5-F → Sites
expr_step (layer.This span) rest = rest
expr_step (layer.Name span name) rest = rest
expr_step (layer.Literal span value) rest = rest
expr_step (layer.ArrayList span elements) rest = every elements rest
expr_step (layer.ObjectList span properties) rest = every properties rest
expr_step (layer.Function f) rest = f rest
expr_step (layer.Chain span head links) rest = own_sites links (head (inner_sites links rest))
expr_step (layer.New span callee arguments) rest = callee (every arguments rest)
expr_step (layer.Update span operator target) rest = target rest
expr_step (layer.Unary span operator operand) rest = operand rest
expr_step (layer.Binary span first operands) rest = first (every operands rest)
expr_step (layer.Conditional span test yes_ no_) rest = test (yes_ (no_ rest))
expr_step (layer.Assign span operator target value) rest = target (value rest)
expr_step (layer.Sequence span first parts) rest = first (every parts rest)

abbrev pub for_first_step : Layer ForFirst5-F → Sites
for_first_step layer.NoFirst rest = rest
for_first_step (layer.FirstVar declared) rest = every declared rest
for_first_step (layer.FirstExpression x) rest = x rest

abbrev pub link_step : Layer Link5-F → LinkSites
link_step (layer.Member span name) = record { own = None; inner = λ rest. rest }
link_step (layer.Index span index) = record { own = None; inner = index }
link_step (layer.Call span arguments site) = record { own = site; inner = every arguments }

abbrev pub property_step : Layer Property5-F → Sites
property_step (layer.Plain span key value) rest = value rest
property_step (layer.Getter span key f) rest = f rest
property_step (layer.Setter span key f) rest = f rest

abbrev pub stat_step : Layer Stat5-F → Sites
stat_step (layer.Var span declared) rest = every declared rest
stat_step (layer.FunctionDeclaration f) rest = f rest
stat_step (layer.Block block) rest = block rest
stat_step (layer.Empty span) rest = rest
stat_step (layer.Expression span x) rest = x rest
stat_step (layer.If span first more otherwise) rest = first (every more (any otherwise rest))
stat_step (layer.DoWhile span body test) rest = body (test rest)
stat_step (layer.While span test body) rest = test (body rest)
stat_step (layer.For span first test update body) rest = first (any test (any update (body rest)))
stat_step (layer.Continue span label) rest = rest
stat_step (layer.Break span label) rest = rest
stat_step (layer.Return span value) rest = any value rest
stat_step (layer.Switch span subject cases) rest = subject (every cases rest)
stat_step (layer.Labelled span label body) rest = body rest
stat_step (layer.Throw span value) rest = value rest
stat_step (layer.Try span block handler last) rest = block (any handler (any last rest))
stat_step (layer.Debugger span) rest = rest

abbrev pub block_step : Layer Block5-F → Sites
block_step b = every b.statements

abbrev pub case_step : Layer Case5-F → Sites
case_step c rest = any c.test (every c.body rest)

abbrev pub catch_step : Layer Catch5-F → Sites
catch_step c = c.body

abbrev pub condition_step : Layer Condition5-F → Sites
condition_step c rest = c.test (c.body rest)

abbrev pub declared_step : Layer Declared5-F → Sites
declared_step d = any d.init

abbrev pub function_step : Layer Function5-F → Sites
function_step f = every f.body

abbrev pub operand_step : Layer Operand5-F → Sites
operand_step o = o.value

abbrev pub element_sites : Element5 → Sites
element_sites =
    fold-Element5 Sites Sites Sites LinkSites Sites Sites Sites Sites Sites Sites Sites Sites Sites
    element_step expr_step for_first_step link_step property_step stat_step block_step case_step catch_step condition_step declared_step function_step operand_step

abbrev pub expr_sites : Expr5 → Sites
expr_sites =
    fold-Expr5 Sites Sites Sites LinkSites Sites Sites Sites Sites Sites Sites Sites Sites Sites
    element_step expr_step for_first_step link_step property_step stat_step block_step case_step catch_step condition_step declared_step function_step operand_step

abbrev pub for_first_sites : ForFirst5 → Sites
for_first_sites =
    fold-ForFirst5 Sites Sites Sites LinkSites Sites Sites Sites Sites Sites Sites Sites Sites Sites
    element_step expr_step for_first_step link_step property_step stat_step block_step case_step catch_step condition_step declared_step function_step operand_step

abbrev pub link_sites : Link5 → LinkSites
link_sites =
    fold-Link5 Sites Sites Sites LinkSites Sites Sites Sites Sites Sites Sites Sites Sites Sites
    element_step expr_step for_first_step link_step property_step stat_step block_step case_step catch_step condition_step declared_step function_step operand_step

abbrev pub property_sites : Property5 → Sites
property_sites =
    fold-Property5 Sites Sites Sites LinkSites Sites Sites Sites Sites Sites Sites Sites Sites Sites
    element_step expr_step for_first_step link_step property_step stat_step block_step case_step catch_step condition_step declared_step function_step operand_step

abbrev pub stat_sites : Stat5 → Sites
stat_sites =
    fold-Stat5 Sites Sites Sites LinkSites Sites Sites Sites Sites Sites Sites Sites Sites Sites
    element_step expr_step for_first_step link_step property_step stat_step block_step case_step catch_step condition_step declared_step function_step operand_step

abbrev pub block_sites : Block5 → Sites
block_sites =
    fold-Block5 Sites Sites Sites LinkSites Sites Sites Sites Sites Sites Sites Sites Sites Sites
    element_step expr_step for_first_step link_step property_step stat_step block_step case_step catch_step condition_step declared_step function_step operand_step

abbrev pub case_sites : Case5 → Sites
case_sites =
    fold-Case5 Sites Sites Sites LinkSites Sites Sites Sites Sites Sites Sites Sites Sites Sites
    element_step expr_step for_first_step link_step property_step stat_step block_step case_step catch_step condition_step declared_step function_step operand_step

abbrev pub catch_sites : Catch5 → Sites
catch_sites =
    fold-Catch5 Sites Sites Sites LinkSites Sites Sites Sites Sites Sites Sites Sites Sites Sites
    element_step expr_step for_first_step link_step property_step stat_step block_step case_step catch_step condition_step declared_step function_step operand_step

abbrev pub condition_sites : Condition5 → Sites
condition_sites =
    fold-Condition5 Sites Sites Sites LinkSites Sites Sites Sites Sites Sites Sites Sites Sites Sites
    element_step expr_step for_first_step link_step property_step stat_step block_step case_step catch_step condition_step declared_step function_step operand_step

abbrev pub declared_sites : Declared5 → Sites
declared_sites =
    fold-Declared5 Sites Sites Sites LinkSites Sites Sites Sites Sites Sites Sites Sites Sites Sites
    element_step expr_step for_first_step link_step property_step stat_step block_step case_step catch_step condition_step declared_step function_step operand_step

abbrev pub function_sites : Function5 → Sites
function_sites =
    fold-Function5 Sites Sites Sites LinkSites Sites Sites Sites Sites Sites Sites Sites Sites Sites
    element_step expr_step for_first_step link_step property_step stat_step block_step case_step catch_step condition_step declared_step function_step operand_step

abbrev pub operand_sites : Operand5 → Sites
operand_sites =
    fold-Operand5 Sites Sites Sites LinkSites Sites Sites Sites Sites Sites Sites Sites Sites Sites
    element_step expr_step for_first_step link_step property_step stat_step block_step case_step catch_step condition_step declared_step function_step operand_step

-- the sites of a script's calls
abbrev pub script_sites : Script → List Site
script_sites script = every (map stat_sites script.statements) []
