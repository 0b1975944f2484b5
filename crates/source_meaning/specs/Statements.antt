-- Statements but loops (ECMA-262, 6th edition, 13).
use Rattle.std.specs.Prelude.{Bool, List, None, Option, Some, [], false, if◌then◌else◌, is_none, map, true, ℕ, ◌∷◌}
use Rattle.std.specs.Str.{bytes_eq}
use Rattle.es_value.specs.Equality.{same_value}
use Rattle.es_value.specs.declared.value.Value.{Value}
use Rattle.es_value.specs.declared.value.Value.TheVariants as value
use Rattle.es_operators.specs.Primitives.{truth_of}
use Rattle.es6_ast.specs.declared.operators.VariableKind.{VariableKind}
use Rattle.es6_ast.specs.declared.operators.VariableKind.TheVariants as variable
use Rattle.es6_ast.specs.declared.tree.Block.{Block, out-Block}
use Rattle.es6_ast.specs.declared.tree.Case.{Case, out-Case}
use Rattle.es6_ast.specs.declared.tree.Catch.{Catch, out-Catch}
use Rattle.es6_ast.specs.declared.tree.Condition.{Condition, out-Condition}
use Rattle.es6_ast.specs.declared.tree.Expression.{Expression}
use Rattle.es6_ast.specs.declared.tree.Part.{Part, out-Part}
use Rattle.es6_ast.specs.declared.tree.Pattern.{Pattern}
use Rattle.es6_ast.specs.declared.tree.Statement.{Statement}
use Rattle.source_state.specs.Bodies.{case_statements}
use Rattle.source_meaning.specs.Environments.{unbound, with_bindings}
use Rattle.source_meaning.specs.Functions.{with_functions}
use Rattle.source_meaning.specs.State.{Assigns, Binds, Breaks, CatchBlock, Catching, Chosen, Completion, Destructure, Done, Finishing, Initializes, Matching, Pending, Restore, Returning, Returns, Run, Start, State, SwitchBody, VariableValue, VariablesRest}
use Rattle.source_meaning.specs.Steps.{Next, begins, controls, hands, impossible, pushed}
use Rattle.source_meaning.specs.Trees.{Lexical, block_lexicals, functions_in, lexical, pattern_names}

-- ---- blocks (13.2.13, 13.2.14): a record where they declare names; their functions are made first

abbrev pub block_begun : List Lexical → List Statement → State → State
block_begun [] ss st = st
block_begun names ss st =
    with_functions (functions_in ss) (with_bindings (map unbound names) (pushed (Restore st.context.environment) st))

abbrev pub scope_entered : List Statement → State → State
scope_entered ss st = block_begun (block_lexicals ss) ss st

abbrev pub run_block : Block → State → Next
run_block b st = controls (Run (out-Block b).statements) (scope_entered (out-Block b).statements st)

-- ---- declarations (13.3.1.4, 13.3.2.4): without an initializer `let` gives undefined, and `var` nothing

abbrev pub binds_of : VariableKind → Binds
binds_of variable.Var = Assigns
binds_of k = Initializes

abbrev pub variable_matched : VariableKind → Pattern → List Part → State → Value → Next
variable_matched k p ps st v = controls (Destructure (binds_of k) p v) (pushed (VariablesRest k ps) st)

abbrev pub one_variable : VariableKind → Pattern → List Part → State → Next → Option Expression → Next
one_variable k p ps st rest (Some x) = begins (VariableValue k p ps) x st
one_variable variable.Var p ps st rest None = rest
one_variable k p ps st rest None = variable_matched k p ps st value.Undefined

abbrev pub variables_on : VariableKind → List Part → State → Next
variables_on k [] st = hands Done st
variables_on k (p ∷ ps) st = one_variable k (out-Part p).pattern ps st (variables_on k ps st) (out-Part p).default

-- ---- `if` (13.6.7): the conditions in order

abbrev pub otherwise_started : Option Statement → State → Next
otherwise_started None st = hands Done st
otherwise_started (Some s) st = controls (Start [] s) st

abbrev pub conditions_on : List Condition → Option Statement → State → Next
conditions_on [] otherwise st = otherwise_started otherwise st
conditions_on (c ∷ cs) otherwise st =
    begins (Chosen (out-Condition c).body cs otherwise) (out-Condition c).test st

abbrev pub chosen : Statement → List Condition → Option Statement → State → Value → Next
chosen body cs otherwise st v = if truth_of v then controls (Start [] body) st else conditions_on cs otherwise st

-- ---- `switch` (13.12.9, 13.12.11): one scope for all cases, behind the subject

abbrev pub run_cases : List Case → State → Next
run_cases cs st = controls (Run (case_statements cs)) (pushed SwitchBody st)

abbrev pub from_default : List Case → List Case
from_default [] = []
from_default (c ∷ cs) = if is_none (out-Case c).test then c ∷ cs else from_default cs

-- the next case with a test is tested; where none is equal the default's statements run
abbrev pub match_case : Value → List Case → List Case → State → Next → Option Expression → Next
match_case v all cs st next None = next
match_case v all cs st next (Some test) = begins (Matching v cs all) test st

abbrev pub match_next : Value → List Case → List Case → State → Next
match_next v all [] st = run_cases (from_default all) st
match_next v all (c ∷ cs) st = match_case v all (c ∷ cs) st (match_next v all cs st) (out-Case c).test

abbrev pub matched : Value → List Case → List Case → State → Value → Next
matched v [] all st w = impossible st
matched v (c ∷ cs) all st w = if same_value v w then run_cases (c ∷ cs) st else match_next v all cs st

abbrev pub switch_on : List Case → State → Value → Next
switch_on cs st v = match_next v cs cs (scope_entered (case_statements cs) st)

-- ---- jumps (13.8, 13.9, 13.13)

abbrev pub is_label : List ℕ → Option (List ℕ) → Bool
is_label l None = false
is_label l (Some m) = bytes_eq l m

abbrev pub broken_at : List ℕ → State → Option (List ℕ) → Next
broken_at l st m = if is_label l m then hands Done st else hands (Breaks m) st

-- a jump without a label ends the innermost switch or loop
abbrev pub broken : State → Option (List ℕ) → Next
broken st None = hands Done st
broken st (Some l) = hands (Breaks (Some l)) st

-- ---- `return` and `throw` (13.10, 13.14)

abbrev pub return_value : Option Expression → State → Next
return_value None st = hands (Returns value.Undefined) st
return_value (Some x) st = begins Returning x st

-- ---- `try` (13.15.7, 13.15.8): the names of the parameter have a record

abbrev pub try_block : Block → Option Catch → State → Next
try_block b None st = run_block b st
try_block b (Some c) st = run_block b (pushed (Catching c) st)

abbrev pub try_statement : Block → Option Catch → Option Block → State → Next
try_statement b c None st = try_block b c st
try_statement b c (Some last) st = try_block b c (pushed (Finishing last) st)

abbrev pub caught_names : Catch → List Lexical
caught_names c = map (lexical true) (pattern_names (out-Catch c).parameter)

abbrev pub catch_begun : Catch → State → State
catch_begun c st =
    pushed (CatchBlock (out-Catch c).body)
    (with_bindings (map unbound (caught_names c)) (pushed (Restore st.context.environment) st))

abbrev pub catches : Catch → State → Value → Next
catches c st v = controls (Destructure Initializes (out-Catch c).parameter v) (catch_begun c st)

abbrev pub finish : Block → Completion → State → Next
finish last completion st = run_block last (pushed (Pending completion) st)
