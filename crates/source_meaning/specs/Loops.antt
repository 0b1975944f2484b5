-- Loops (ECMA-262, 6th edition, 13.7).
use Rattle.std.specs.List.{list_any}
use Rattle.std.specs.Prelude.{Bool, List, None, Option, Some, [], false, if◌then◌else◌, map, true, ℕ}
use Rattle.std.specs.Str.{bytes_eq}
use Rattle.es_value.specs.declared.value.Value.{Value}
use Rattle.es_value.specs.declared.value.Value.TheVariants as value
use Rattle.es_operators.specs.Primitives.{truth_of}
use Rattle.es_operations.specs.Numbers as number
use Rattle.es6_ast.specs.Spans.{Open}
use Rattle.es6_ast.specs.declared.operators.VariableKind.{VariableKind}
use Rattle.es6_ast.specs.declared.operators.VariableKind.TheVariants as variable
use Rattle.es6_ast.specs.declared.tree.Argument.TheOpen as layer
use Rattle.es6_ast.specs.declared.tree.Argument.TheOpen.{ForFirst-F, ForTarget-F}
use Rattle.es6_ast.specs.declared.tree.Expression.{Expression}
use Rattle.es6_ast.specs.declared.tree.ForFirst.{ForFirst, out-ForFirst}
use Rattle.es6_ast.specs.declared.tree.ForTarget.{out-ForTarget}
use Rattle.es6_ast.specs.declared.tree.Part.{Part}
use Rattle.es6_ast.specs.declared.tree.Statement.{Statement}
use Rattle.source_meaning.specs.Environments.{copied, unbound, with_bindings}
use Rattle.source_meaning.specs.Patterns.{closes}
use Rattle.source_meaning.specs.State.{Assigns, Begin, Breaks, Completion, Continues, Destructure, Done, ForOfBody, ForOfBound, ForOfIterator, ForOfLoop, ForOfStep, ForOfSubject, ForOfValue, Loop, LoopBegin, LoopBody, LoopTest, LoopUpdate, Restore, Start, State}
use Rattle.source_meaning.specs.Statements.{binds_of, variables_on}
use Rattle.source_meaning.specs.Steps.{Next, begins, controls, hands, operates, pushed}
use Rattle.source_meaning.specs.Trees.{Lexical, lexical_of, parts_names, pattern_names}

-- ---- tests, turns and updates (13.7.2.6, 13.7.3.6, 13.7.4.8)

abbrev pub run_turn : Loop → State → Next
run_turn l st = controls (Start [] l.body) (pushed (LoopBody l) st)

abbrev pub test_by : Loop → State → Option Expression → Next
test_by l st None = run_turn l st
test_by l st (Some test) = begins (LoopTest l) test st

abbrev pub test_loop : Loop → State → Next
test_loop l st = test_by l st l.test

abbrev pub loop_tested : Loop → State → Value → Next
loop_tested l st v = if truth_of v then run_turn l st else hands Done st

-- the names of `let` are copied before the first test, and before each update (CreatePerIterationEnvironment, 13.7.4.9)
abbrev pub with_copies : Loop → State → State
with_copies l st = if l.copies then copied st else st

abbrev pub loop_begun : Loop → State → Next
loop_begun l st = test_loop l (with_copies l st)

abbrev pub update_by : Loop → State → Option Expression → Next
update_by l st None = test_loop l st
update_by l st (Some update) = begins (LoopUpdate l) update st

abbrev pub loop_on : Loop → State → Next
loop_on l st = update_by l (with_copies l st) l.update

-- LoopContinues (13.7.1.2): a jump that is the loop's own
abbrev pub is_for : List (List ℕ) → Option (List ℕ) → Bool
is_for labels None = true
is_for labels (Some l) = list_any (bytes_eq l) labels

abbrev pub loop_continued : Loop → State → Option (List ℕ) → Next
loop_continued l st label = if is_for l.labels label then loop_on l st else hands (Continues label) st

-- ---- loops that only test

abbrev pub plain_loop : List (List ℕ) → Expression → Statement → Loop
plain_loop labels test body = record { labels = labels; test = Some test; update = None; copies = false; body = body }

-- ---- `for` with three parts (13.7.4.7): the names of `let` and `const` have a record

abbrev pub names_of_kind : VariableKind → List Part → List Lexical
names_of_kind k ps = lexical_of k (parts_names ps)

abbrev pub lexical_first : List Lexical → State → State
lexical_first [] st = st
lexical_first names st = with_bindings (map unbound names) (pushed (Restore st.context.environment) st)

abbrev pub is_copied : VariableKind → Bool
is_copied variable.Let = true
is_copied k = false

abbrev pub for_by : Loop → State → Open ForFirst-F → Next
for_by l st layer.NoFirst = loop_begun l st
for_by l st (layer.FirstExpression x) = begins (LoopBegin l) x st
for_by l st (layer.FirstVariables span k parts) =
    variables_on k parts (pushed (LoopBegin (record l { copies = is_copied k })) (lexical_first (names_of_kind k parts) st))

abbrev pub for_loop : List (List ℕ) → ForFirst → Option Expression → Option Expression → Statement → State → Next
for_loop labels first test update body st =
    for_by (record { labels = labels; test = test; update = update; copies = false; body = body }) st (out-ForFirst first)

-- ---- for-of (13.7.5.11 to 13.7.5.13): the subject sees the names of the head without values

abbrev pub head_names : Open ForTarget-F → List Lexical
head_names (layer.Declared span k p) = lexical_of k (pattern_names p)
head_names (layer.Assigned p) = []

abbrev pub head_entered : ForOfLoop → State → State
head_entered l st = lexical_first (head_names (out-ForTarget l.target)) st

abbrev pub for_of : ForOfLoop → Expression → State → Next
for_of l subject st = controls (Begin subject) (head_entered l (pushed (ForOfSubject l) st))

-- behind the subject these names are gone, and its iterator is taken
abbrev pub subject_valued : ForOfLoop → State → Value → Next
subject_valued l st v = operates (ForOfIterator l) number.get_iterator_number v [] st

abbrev pub for_of_step : ForOfLoop → State → Value → Next
for_of_step l st iterator = operates (ForOfStep l iterator) number.iterator_step_number iterator [] st

abbrev pub for_of_stepped : ForOfLoop → Value → State → Value → Next
for_of_stepped l iterator st (value.Object result) =
    operates (ForOfValue l iterator) number.iterator_value_number (value.Object result) [] st
for_of_stepped l iterator st v = hands Done st

-- each turn has new names, which are bound first
abbrev pub bind_head : Value → State → Open ForTarget-F → Next
bind_head v st (layer.Declared span k p) = controls (Destructure (binds_of k) p v) st
bind_head v st (layer.Assigned p) = controls (Destructure Assigns p v) st

abbrev pub for_of_valued : ForOfLoop → Value → State → Value → Next
for_of_valued l iterator st v =
    bind_head v (pushed (ForOfBound l.body) (head_entered l (pushed (ForOfBody l iterator) st))) (out-ForTarget l.target)

-- a turn that ends otherwise closes the iterator, a jump out of the loop too
abbrev pub for_of_jumped : ForOfLoop → Value → State → Completion → Next
for_of_jumped l iterator st (Breaks None) = closes iterator Done st
for_of_jumped l iterator st (Continues label) =
    if is_for l.labels label then for_of_step l st iterator else closes iterator (Continues label) st
for_of_jumped l iterator st completion = closes iterator completion st
