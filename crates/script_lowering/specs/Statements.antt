-- Statements and functions of a script as those of the small tree (5.1 edition, 10.5, 12 and 13).
use Rattle.std.specs.Prelude.{Bool, List, None, Option, Some, [], codes, false, if◌then◌else◌, length, map, true, ℕ, ◌++◌, ◌∷◌}
use Rattle.es5_ast.specs.declared.tree.Element5.TheOpen as layer
use Rattle.es5_ast.specs.declared.tree.Element5.TheOpen.{Block5-F, Case5-F, Catch5-F, Condition5-F, Declared5-F, ForFirst5-F, Function5-F, Stat5-F}
use Rattle.es5_ast.specs.declared.tree.Identifier5.{Identifier5}
use Rattle.script_lowering.specs.declared.gathered.Gathered.{Gathered}
use Rattle.script_lowering.specs.declared.read.StatRead.{StatRead}
use Rattle.script_lowering.specs.Expressions.{Adds, FunctionRead, Operand, Places, alone, name_read}
use Rattle.script_lowering.specs.Reading.{Reads, Taken, declares, first_turn, gives, label_named, named, reads_both, reads_each, reads_one, reads_onto, reads_perhaps, reads_then, variable_named}
use Rattle.core_ast.specs.Made.{act, linked, undefined}
use Rattle.core_ast.specs.declared.parts.Constant.TheVariants as constant
use Rattle.core_ast.specs.declared.parts.CoreHead.TheVariants as head
use Rattle.core_ast.specs.declared.parts.CoreOp.TheVariants as op
use Rattle.core_ast.specs.declared.parts.FunctionId.{FunctionId}
use Rattle.core_ast.specs.declared.parts.Label.{Label}
use Rattle.core_ast.specs.declared.parts.Var.{Var}
use Rattle.core_ast.specs.declared.parts.When.TheVariants as when
use Rattle.core_ast.specs.declared.tree.CoreCase.{CoreCase, roll-CoreCase}
use Rattle.core_ast.specs.declared.tree.CoreExpr.{CoreExpr}
use Rattle.core_ast.specs.declared.tree.CoreLink.{CoreLink}
use Rattle.core_ast.specs.declared.tree.CoreLink.TheOpen as core
use Rattle.core_ast.specs.declared.tree.CoreLink.TheOpen.{CoreStat-F}
use Rattle.core_ast.specs.declared.tree.CoreLink.TheVariants as link
use Rattle.core_ast.specs.declared.tree.CoreStat.{CoreStat, out-CoreStat}
use Rattle.core_ast.specs.declared.tree.CoreStat.TheVariants as stat
use Rattle.core_ast.specs.declared.whole.CoreFunction.{CoreFunction}
use Rattle.core_ast.specs.declared.whole.CoreKind.TheVariants as kind

abbrev pub ReadsStat : Type 0
ReadsStat = Reads StatRead

abbrev pub ReadsStats : Type 0
ReadsStats = Reads (List CoreStat)

pub record Handler : Type 0 where
  pub parameter : Var
  pub body : List CoreStat

abbrev pub plain : List CoreStat → StatRead
plain stats = record { stats = stats; is_loop = false }

abbrev pub looping : List CoreStat → StatRead
looping stats = record { stats = stats; is_loop = true }

abbrev pub single : CoreStat → StatRead
single s = plain (s ∷ [])

abbrev pub stats_of : ReadsStat → ReadsStats
stats_of r = reads_one r (λ x. x.stats)

abbrev pub stats_onto : List CoreStat → List ReadsStat → ReadsStats
stats_onto stats [] = gives stats
stats_onto stats (r ∷ rs) = reads_then r (λ x. stats_onto (stats ++ x.stats) rs)

abbrev pub all_stats : List ReadsStat → ReadsStats
all_stats rs = stats_onto [] rs

-- those of several declarations
abbrev pub joined_onto : List CoreStat → List ReadsStats → ReadsStats
joined_onto stats [] = gives stats
joined_onto stats (r ∷ rs) = reads_then r (λ xs. joined_onto (stats ++ xs) rs)

abbrev pub joined : List ReadsStats → ReadsStats
joined rs = joined_onto [] rs

abbrev pub case_with : Option CoreExpr → List CoreStat → CoreCase
case_with test body = roll-CoreCase (record { test = test; body = body })

-- ---- labels (12.12): that of a loop is for `continue` too

abbrev pub with_label : Label → CoreStat → CoreStat-F CoreLink CoreStat CoreCase CoreExpr → CoreStat
with_label l s (core.Loop labels test update body) = stat.Loop (l ∷ labels) test update body
with_label l s other = s

abbrev pub label_last : Label → List CoreStat → List CoreStat
label_last l [] = []
label_last l (s ∷ []) = with_label l s (out-CoreStat s) ∷ []
label_last l (s ∷ t ∷ ss) = s ∷ label_last l (t ∷ ss)

abbrev pub labelled : Label → StatRead → StatRead
labelled l r = if r.is_loop then looping (label_last l r.stats) else single (stat.Labelled l r.stats)

-- ---- loops (12.6). The body of a do-while runs once before the test

abbrev pub loop_stat : Option CoreExpr → Option CoreExpr → List CoreStat → CoreStat
loop_stat test update body = stat.Loop [] test update body

abbrev pub store_truth : Var → Bool → CoreStat
store_truth x b = stat.Do (linked (alone (head.Constant (constant.Truth b))) (act (op.Set x)))

abbrev pub do_while : Var → List CoreStat → CoreExpr → List CoreStat
do_while x body test =
    store_truth x true
    ∷ loop_stat (Some (linked (name_read x) (link.Lazy when.Falsy test None))) None (store_truth x false ∷ body)
    ∷ []

abbrev pub for_loop : List CoreStat → Option CoreExpr → Option CoreExpr → List CoreStat → StatRead
for_loop first test update body = looping (first ++ loop_stat test update body ∷ [])

-- ---- try (12.14)

abbrev pub caught : List CoreStat → Option Handler → List CoreStat
caught block None = block
caught block (Some h) = stat.TryCatch block h.parameter [] h.body ∷ []

abbrev pub ended : List CoreStat → Option (List CoreStat) → List CoreStat
ended stats None = stats
ended stats (Some last) = stat.TryFinally stats last ∷ []

-- ---- the layers

abbrev pub Layer : (Type 0 → Type 0 → Type 0 → Type 0 → Type 0 → Type 0 → Type 0 → Type 0 → Type 0 → Type 0 → Type 0 → Type 0 → Type 0 → Type 0) → Type 0
Layer Of = Of Adds (Reads CoreExpr) ReadsStats Places Adds ReadsStat ReadsStats (Reads CoreCase) (Reads Handler) (Reads CoreCase) ReadsStats FunctionRead Operand

abbrev pub for_first_step : Layer ForFirst5-F → ReadsStats
for_first_step layer.NoFirst = gives []
for_first_step (layer.FirstVar declared) = joined declared
for_first_step (layer.FirstExpression x) = reads_one x (λ y. stat.Do y ∷ [])

abbrev pub block_step : Layer Block5-F → ReadsStats
block_step b = all_stats b.statements

abbrev pub case_step : Layer Case5-F → Reads CoreCase
case_step c = reads_both (reads_perhaps c.test) (all_stats c.body) case_with

abbrev pub catch_step : Layer Catch5-F → Reads Handler
catch_step c = reads_both (named c.parameter.name) c.body (λ x body. record { parameter = x; body = body })

abbrev pub condition_step : Layer Condition5-F → Reads CoreCase
condition_step c = reads_both c.test (stats_of c.body) (λ test body. case_with (Some test) body)

-- a `var` without a value does nothing where it stands (12.2)
abbrev pub declared_with : Var → Option CoreExpr → List CoreStat
declared_with x None = []
declared_with x (Some e) = stat.Do (linked e (act (op.Set x))) ∷ []

abbrev pub declared_step : Layer Declared5-F → ReadsStats
declared_step d = reads_both (variable_named d.name.name) (reads_perhaps d.init) declared_with

-- ---- functions (13, 10.5)

abbrev pub own_named : Bool → Option (List ℕ) → Reads (Option Var)
own_named true (Some name) = reads_one (named name) (λ x. Some x)
own_named is_expression name = gives None

abbrev pub function_of : Option Var → List Var → Var → List CoreStat → Gathered → CoreFunction
function_of own parameters arguments body inside = record {
  kind = kind.Plain;
  own = own;
  parameters = parameters;
  length = length parameters;
  arguments = Some arguments;
  cells = [];
  locals = inside.vars;
  declared = inside.declared;
  setup = [];
  body = body;
  resumption = None;
  step = [];
}

-- the function goes into the table, and what was declared round it counts again
abbrev pub function_done : Gathered → Option Var → List Var → Var → Taken (List CoreStat) → Taken FunctionId
function_done outside own parameters arguments t = record {
  value = record { 0 = length t.after.functions };
  after = record t.after {
    functions = t.after.functions ++ function_of own parameters arguments t.value t.after ∷ [];
    vars = outside.vars;
    declared = outside.declared;
  };
}

abbrev pub function_inside : Option Var → List Var → Var → ReadsStats → Reads FunctionId
function_inside own parameters arguments body g =
    function_done g own parameters arguments (body (record g { vars = []; declared = [] }))

abbrev pub function_reads : Option (List ℕ) → List (List ℕ) → ReadsStats → Bool → Reads FunctionId
function_reads name parameters body is_expression =
    reads_then (own_named is_expression name) (λ own.
    reads_then (reads_each (map named parameters)) (λ xs.
    reads_then (named (codes "arguments")) (λ arguments. function_inside own xs arguments body)))

abbrev pub name_in : Option Identifier5 → Option (List ℕ)
name_in None = None
name_in (Some x) = Some x.name

abbrev pub function_step : Layer Function5-F → FunctionRead
function_step f = record {
  name = name_in f.name;
  reads = function_reads (name_in f.name) (map (λ p. p.name) f.parameters) (all_stats f.body);
}

-- a declaration is there from the start of the function round it on
abbrev pub declares_function : Var → FunctionId → ReadsStat
declares_function x f g = gives (plain []) (declares x f g)

abbrev pub declared_function : FunctionRead → Option (List ℕ) → ReadsStat
declared_function f None = gives (plain [])
declared_function f (Some name) = reads_then (named name) (λ x. reads_then (f.reads false) (declares_function x))

-- ---- statements

abbrev pub otherwise : Option (List CoreStat) → List CoreCase
otherwise None = []
otherwise (Some body) = case_with None body ∷ []

abbrev pub if_stat : List CoreCase → Option (List CoreStat) → StatRead
if_stat cases last = single (stat.If (cases ++ otherwise last))

abbrev pub returned : Option CoreExpr → CoreStat
returned None = stat.Return undefined
returned (Some x) = stat.Return x

abbrev pub perhaps_label : Option Identifier5 → Reads (Option Label)
perhaps_label None = gives None
perhaps_label (Some l) = reads_one (label_named l.name) (λ x. Some x)

abbrev pub perhaps_stats : Option ReadsStat → Reads (Option (List CoreStat))
perhaps_stats None = gives None
perhaps_stats (Some r) = reads_one (stats_of r) (λ x. Some x)

abbrev pub stat_step : Layer Stat5-F → ReadsStat
stat_step (layer.Var span declared) = reads_one (joined declared) plain
stat_step (layer.FunctionDeclaration f) = declared_function f f.name
stat_step (layer.Block b) = reads_one b plain
stat_step (layer.Empty span) = gives (plain [])
stat_step (layer.Expression span x) = reads_one x (λ y. single (stat.Do y))
stat_step (layer.If span first more other) =
    reads_then first (λ c. reads_both (reads_onto (c ∷ []) more) (perhaps_stats other)
    if_stat)
stat_step (layer.DoWhile span body test) =
    reads_then first_turn (λ x. reads_both (stats_of body) test (λ ss t. looping (do_while x ss t)))
stat_step (layer.While span test body) = reads_both test (stats_of body) (λ t ss. looping (loop_stat (Some t) None ss ∷ []))
stat_step (layer.For span first test update body) =
    reads_then first (λ f. reads_then (reads_perhaps test) (λ t.
    reads_both (reads_perhaps update) (stats_of body) (for_loop f t)))
stat_step (layer.Continue span l) = reads_one (perhaps_label l) (λ x. single (stat.Jump true x))
stat_step (layer.Break span l) = reads_one (perhaps_label l) (λ x. single (stat.Jump false x))
stat_step (layer.Return span x) = reads_one (reads_perhaps x) (λ y. single (returned y))
stat_step (layer.Switch span subject cases) =
    reads_both subject (reads_each cases) (λ x cs. single (stat.Switch x cs))
stat_step (layer.Labelled span l body) = reads_both (label_named l.name) body labelled
stat_step (layer.Throw span x) = reads_one x (λ y. single (stat.Throw y))
stat_step (layer.Try span block handler last) =
    reads_then block (λ ss. reads_both (reads_perhaps handler) (reads_perhaps last)
    (λ h l. plain (ended (caught ss h) l)))
stat_step (layer.Debugger span) = gives (plain [])
