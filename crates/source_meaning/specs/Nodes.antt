-- What begins: a row for each node.
use Rattle.std.specs.Prelude.{Bool, List, None, Option, Some, [], false, if◌then◌else◌, true, ℕ, ◌∷◌}
use Rattle.es_value.specs.declared.value.Value.TheVariants as value
use Rattle.es_heap.specs.Heaps.{made, next_id}
use Rattle.es_heap.specs.declared.class.Class.TheVariants as class
use Rattle.es_heap.specs.declared.key.Key.TheVariants.{Iterator, Text}
use Rattle.es_realm.specs.Names.{array_prototype, object_prototype}
use Rattle.es6_ast.specs.Spans.{Open, span_of, statement_span}
use Rattle.es6_ast.specs.declared.module.DefaultExport.{DefaultExport}
use Rattle.es6_ast.specs.declared.module.DefaultExport.TheVariants.{DefaultClass, DefaultFunction, DefaultValue}
use Rattle.es6_ast.specs.declared.module.Item.{Item}
use Rattle.es6_ast.specs.declared.module.Item.TheVariants as item
use Rattle.es6_ast.specs.declared.operators.UnaryOperator.{UnaryOperator}
use Rattle.es6_ast.specs.declared.operators.UnaryOperator.TheVariants as unary
use Rattle.es6_ast.specs.declared.tree.Argument.TheOpen as layer
use Rattle.es6_ast.specs.declared.tree.Argument.TheOpen.{Expression-F, Statement-F}
use Rattle.es6_ast.specs.declared.tree.Class.{Class, out-Class}
use Rattle.es6_ast.specs.declared.tree.Expression.{Expression, out-Expression}
use Rattle.es6_ast.specs.declared.tree.Pattern.{out-Pattern}
use Rattle.es6_ast.specs.declared.tree.Identifier.{Identifier}
use Rattle.es6_ast.specs.declared.tree.Statement.{Statement, out-Statement}
use Rattle.es6_ast.specs.declared.tree.Template.{out-Template}
use Rattle.source_state.specs.Parts.{arguments_parts, elements_parts}
use Rattle.source_meaning.specs.Classes.{begin_class}
use Rattle.source_meaning.specs.Environments.{read_name, with_this}
use Rattle.source_meaning.specs.Expressions.{begin_assignment, template_on}
use Rattle.source_meaning.specs.Functions.{Given, closed, function_expression}
use Rattle.source_meaning.specs.Lists.{list_on}
use Rattle.source_meaning.specs.Loops.{for_loop, for_of, plain_loop, run_turn, test_loop}
use Rattle.source_meaning.specs.Modules.{default_name, name_or_default}
use Rattle.source_meaning.specs.Objects.{properties_on}
use Rattle.source_meaning.specs.References.{is_iterator_key, super_reference}
use Rattle.source_meaning.specs.State.{ArrowCode, Begin, Branches, Breaks, Continues, Delegating, Deleting, Done, ForSuper, Ignoring, ItemsRest, Labelling, Links, NameGiven, NewCallee, OfArguments, OfArray, OfName, Operands, PowerBase, Refer, SequenceRest, Start, State, StatementsRest, Subject, SuperKey, Throwing, UnaryValue, UpdateReference, YieldValue}
use Rattle.source_meaning.specs.Statements.{conditions_on, return_value, run_block, try_statement, variables_on}
use Rattle.source_meaning.specs.Steps.{Next, at_node, begins, controls, gives, hands, impossible, pushed, refers, refers_to, with_heap}
use Rattle.source_meaning.specs.Trees.{literal_value, name_units, optional_name}

-- ---- expressions

abbrev pub gives_closure : Given → Next
gives_closure g = gives g.value g.state

-- an array or an object is there before its parts (12.2.5.3, 12.2.6.8)
abbrev pub with_array : State → State
with_array st = with_heap (made st.heap (Some array_prototype) class.Array) st

abbrev pub with_new_object : State → State
with_new_object st = with_heap (made st.heap (Some object_prototype) class.Object) st

-- 12.5: what is deleted is no value
abbrev pub begin_unary : Expression → State → UnaryOperator → Next
begin_unary x st unary.Delete = refers Deleting x st
begin_unary x st o = begins (UnaryValue o) x st

-- 14.4.14
abbrev pub begin_yield : State → Option Expression → Next
begin_yield st None = gives value.Undefined (pushed YieldValue st)
begin_yield st (Some x) = begins YieldValue x st

-- 12.3.5
abbrev pub begin_super : Bool → Expression → State → Next
begin_super wanted x st = if is_iterator_key x st then super_reference wanted Iterator st else begins (SuperKey wanted) x st

unfoldable pub begin_open : State → Open Expression-F → Next
begin_open st (layer.This span) = with_this st (λ v. gives v st)
begin_open st (layer.Name span name) = read_name name st
begin_open st (layer.Literal span l) = gives (literal_value l) st
begin_open st (layer.Template t) = template_on (out-Template t).first.cooked (out-Template t).rest st
begin_open st (layer.ArrayList span elements comma) =
    list_on (OfArray (next_id st.heap)) (elements_parts elements) (with_array st)
begin_open st (layer.ObjectList span properties) = properties_on (next_id st.heap) properties (with_new_object st)
begin_open st (layer.Function f) = gives_closure (function_expression f st)
begin_open st (layer.Arrow a) = gives_closure (closed (ArrowCode a) value.Undefined st)
begin_open st (layer.Class c) = begin_class c st
begin_open st (layer.Chain span head links) = refers (Links false links) head st
begin_open st (layer.SuperMember span name) = super_reference false (Text (name_units name.name)) st
begin_open st (layer.SuperIndex span x) = begin_super false x st
begin_open st (layer.SuperCall span xs) = list_on (OfArguments ForSuper []) (arguments_parts xs) st
begin_open st (layer.NewTarget span) = gives st.context.own.target st
begin_open st (layer.New span callee xs) = begins (NewCallee xs) callee st
begin_open st (layer.Update span o x) = refers (UpdateReference o) x st
begin_open st (layer.Unary span o x) = begin_unary x st o
begin_open st (layer.Power span base exponent) = begins (PowerBase exponent) base st
begin_open st (layer.Binary span first rest) = begins (Operands rest) first st
begin_open st (layer.Conditional span test yes_ no_) = begins (Branches yes_ no_) test st
begin_open st (layer.Assign span o target x) = begin_assignment o target x st (out-Pattern target)
begin_open st (layer.Sequence span first rest) = begins (SequenceRest rest) first st
begin_open st (layer.Yield span x) = begin_yield st x
begin_open st (layer.Delegate span x) = begins Delegating x st
begin_open st (layer.Group span held) = controls (Begin held) st
begin_open st (layer.Cover span held rest) = impossible st

abbrev pub begin : Expression → State → Next
begin x st = begin_open (at_node (span_of x).begin st) (out-Expression x)

-- where a reference is wanted (6.2.3); of another expression its value is
abbrev pub refer_open : Expression → State → Open Expression-F → Next
refer_open x st (layer.Name span name) = refers_to (OfName name) st
refer_open x st (layer.Chain span head links) = refers (Links true links) head st
refer_open x st (layer.SuperMember span name) = super_reference true (Text (name_units name.name)) st
refer_open x st (layer.SuperIndex span index) = begin_super true index st
refer_open x st (layer.Group span held) = controls (Refer held) st
refer_open x st other = begin x st

abbrev pub refer : Expression → State → Next
refer x st = refer_open x (at_node (span_of x).begin st) (out-Expression x)

-- ---- statements

abbrev pub label_of : Option Identifier → Option (List ℕ)
label_of x = optional_name x

-- a class declaration initializes its name (14.5.15)
abbrev pub declare_class : List ℕ → Class → State → Next
declare_class x c st = begin_class c (pushed (NameGiven x) st)

unfoldable pub start_open : List (List ℕ) → State → Open Statement-F → Next
start_open labels st (layer.Block b) = run_block b st
start_open labels st (layer.Variables span k parts) = variables_on k parts st
start_open labels st (layer.Empty span) = hands Done st
start_open labels st (layer.Expression span x) = begins Ignoring x st
start_open labels st (layer.If span first more otherwise) = conditions_on (first ∷ more) otherwise st
start_open labels st (layer.DoWhile span body test) = run_turn (plain_loop labels test body) st
start_open labels st (layer.While span test body) = test_loop (plain_loop labels test body) st
start_open labels st (layer.For span first test update body) = for_loop labels first test update body st
start_open labels st (layer.ForOf span target subject body) =
    for_of (record { labels = labels; target = target; body = body }) subject st
start_open labels st (layer.Continue span label) = hands (Continues (label_of label)) st
start_open labels st (layer.Break span label) = hands (Breaks (label_of label)) st
start_open labels st (layer.Return span x) = return_value x st
start_open labels st (layer.Switch span subject cases) = begins (Subject cases) subject st
start_open labels st (layer.Labelled span label body) =
    controls (Start (label.name ∷ labels) body) (pushed (Labelling label.name) st)
start_open labels st (layer.Throw span x) = begins Throwing x st
start_open labels st (layer.Try span b handler last) = try_statement b handler last st
start_open labels st (layer.Debugger span) = hands Done st
start_open labels st (layer.FunctionDeclaration f) = hands Done st
start_open labels st (layer.ClassDeclaration c) = declare_class (name_or_default (optional_name (out-Class c).name)) c st

abbrev pub start_statement : List (List ℕ) → Statement → State → Next
start_statement labels s st = start_open labels (at_node (statement_span s).begin st) (out-Statement s)

-- statements one by one (13.2.13)
abbrev pub run_statements : List Statement → State → Next
run_statements [] st = hands Done st
run_statements (s ∷ ss) st = start_statement [] s (pushed (StatementsRest ss) st)

-- ---- items of a module (15.2.1.20, 15.2.3.11)

abbrev pub export_default : State → DefaultExport → Next
export_default st (DefaultFunction f) = hands Done st
export_default st (DefaultClass c) =
    declare_class (name_or_default (optional_name (out-Class c).name)) c (at_node (out-Class c).span.begin st)
export_default st (DefaultValue x) = begins (NameGiven default_name) x st

abbrev pub begin_item : State → Item → Next
begin_item st (item.Statement s) = start_statement [] s st
begin_item st (item.ExportDeclaration span s) = start_statement [] s st
begin_item st (item.ExportDefault span word x) = export_default st x
begin_item st i = hands Done st

abbrev pub run_items : List Item → State → Next
run_items [] st = hands Done st
run_items (i ∷ more) st = begin_item (pushed (ItemsRest more) st) i
