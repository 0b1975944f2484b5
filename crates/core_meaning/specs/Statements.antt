-- Statements (ECMA-262, 6th edition, 13; 5.1 edition, 12).
use Rattle.std.specs.List.{list_any}
use Rattle.std.specs.Prelude.{Bool, List, None, Option, Some, [], false, if◌then◌else◌, is_none, nat_eq, not, true, ◌&&◌, ◌∷◌}
use Rattle.es_value.specs.Equality.{same_value}
use Rattle.es_value.specs.declared.value.Value.{Value}
use Rattle.es_operators.specs.Primitives.{truth_of}
use Rattle.core_ast.specs.declared.parts.Label.{Label}
use Rattle.core_ast.specs.declared.parts.ScopedName.{ScopedName}
use Rattle.core_ast.specs.declared.parts.Var.{Var}
use Rattle.core_ast.specs.declared.tree.CoreCase.{CoreCase, out-CoreCase}
use Rattle.core_ast.specs.declared.tree.CoreExpr.{CoreExpr}
use Rattle.core_ast.specs.declared.tree.CoreLink.{CoreLink}
use Rattle.core_ast.specs.declared.tree.CoreLink.TheOpen as layer
use Rattle.core_ast.specs.declared.tree.CoreLink.TheOpen.{CoreStat-F}
use Rattle.core_ast.specs.declared.tree.CoreStat.{CoreStat, out-CoreStat}
use Rattle.core_state.specs.Bodies.{bodies}
use Rattle.core_meaning.specs.Calls.{binding}
use Rattle.core_meaning.specs.Rows.{Next, Rows, begins, controls, hands, pushed, runs, unlawful, with_record}
use Rattle.core_meaning.specs.State.{Begin, Catching, Choice, Completion, Done, Finishing, Jumps, Loop, LoopBody, LoopTest, LoopUpdate, Matching, Pending, Rest, Restore, Returning, Run, Sorts, State, Subject, Target, Throwing, User}

-- ---- choices (13.6, 13.12)

abbrev pub choose_case : {s : Sorts} {S : Type 0} → Option CoreExpr → List CoreStat → List CoreCase → State s S → Next s S
choose_case None body cases st = controls (Run body) st
choose_case (Some test) body cases st = begins (Choice body cases) test st

abbrev pub choose : {s : Sorts} {S : Type 0} → List CoreCase → State s S → Next s S
choose [] st = hands Done st
choose (c ∷ cs) st = choose_case (out-CoreCase c).test (out-CoreCase c).body cs st

-- one case falls through to the next
abbrev pub run_cases : {s : Sorts} {S : Type 0} → List CoreCase → State s S → Next s S
run_cases cs st = runs (Target None) (bodies cs) st

-- the cases from the one without a test on
abbrev pub from_default : List CoreCase → List CoreCase
from_default [] = []
from_default (c ∷ cs) = if is_none (out-CoreCase c).test then c ∷ cs else from_default cs

abbrev pub match_case : {s : Sorts} {S : Type 0} → Value → List CoreCase → List CoreCase → State s S → Next s S → Option CoreExpr → Next s S
match_case v all cs st next None = next
match_case v all cs st next (Some test) = begins (Matching v cs all) test st

-- the next case with a test is tested
abbrev pub match_next : {s : Sorts} {S : Type 0} → Value → List CoreCase → List CoreCase → State s S → Next s S
match_next v all [] st = run_cases (from_default all) st
match_next v all (c ∷ cs) st = match_case v all (c ∷ cs) st (match_next v all cs st) (out-CoreCase c).test

abbrev pub matched : {s : Sorts} {S : Type 0} → Value → List CoreCase → List CoreCase → State s S → Value → Next s S
matched v [] all st w = unlawful st
matched v (c ∷ cs) all st w = if same_value v w then run_cases (c ∷ cs) st else match_next v all cs st

-- ---- loops (13.7)

abbrev pub run_turn : {s : Sorts} {S : Type 0} → Loop → State s S → Next s S
run_turn l st = runs (LoopBody l) l.body st

abbrev pub loop_by : {s : Sorts} {S : Type 0} → Loop → State s S → Option CoreExpr → Next s S
loop_by l st None = run_turn l st
loop_by l st (Some test) = begins (LoopTest l) test st

abbrev pub loop : {s : Sorts} {S : Type 0} → Loop → State s S → Next s S
loop l st = loop_by l st l.test

abbrev pub loop_tested : {s : Sorts} {S : Type 0} → Loop → State s S → Value → Next s S
loop_tested l st v = if truth_of v then run_turn l st else hands Done st

abbrev pub update_by : {s : Sorts} {S : Type 0} → Loop → State s S → Option CoreExpr → Next s S
update_by l st None = loop l st
update_by l st (Some update) = begins (LoopUpdate l) update st

abbrev pub loop_on : {s : Sorts} {S : Type 0} → Loop → State s S → Next s S
loop_on l st = update_by l st l.update

-- ---- jumps (13.8, 13.9, 13.13): one without a label is of the innermost loop or switch

abbrev pub is_label : Label → Label → Bool
is_label l m = nat_eq l.0 m.0

abbrev pub is_for : List Label → Option Label → Bool
is_for labels None = true
is_for labels (Some l) = list_any (is_label l) labels

abbrev pub at_target : Option Label → Option Label → Bool
at_target None None = true
at_target (Some l) (Some m) = is_label l m
at_target l m = false

-- a jump out of the body of a loop
abbrev pub loop_jumped : {s : Sorts} {S : Type 0} → Loop → State s S → Bool → Option Label → Next s S
loop_jumped l st goes_on label =
    if not (is_for l.labels label) then hands (Jumps goes_on label) st
    else if goes_on then loop_on l st
    else hands Done st

abbrev pub target_jumped : {s : Sorts} {S : Type 0} → Option Label → State s S → Bool → Option Label → Next s S
target_jumped target st goes_on label =
    if not goes_on && at_target target label then hands Done st else hands (Jumps goes_on label) st

-- ---- try (13.15): a handler has a record with its parameter, and the names of its pattern

abbrev pub catch : {s : Sorts} {S : Type 0} → Rows s S → Var → List ScopedName → List CoreStat → State s S → Value → Next s S
catch rows x names handler st v =
    controls (Run handler)
    (with_record (binding x (User v) ∷ rows.scoped names) (pushed (Restore st.context.environment) st))

abbrev pub finish : {s : Sorts} {S : Type 0} → List CoreStat → Completion s.Mark → State s S → Next s S
finish last completion st = runs (Pending completion) last st

-- ---- each statement

abbrev pub loop_of : List Label → Option CoreExpr → Option CoreExpr → List CoreStat → Loop
loop_of labels test update body = record { labels = labels; test = test; update = update; body = body }

unfoldable pub begin_stat : {s : Sorts} {S : Type 0} → Rows s S → CoreStat → State s S → CoreStat-F CoreLink CoreStat CoreCase CoreExpr → Next s S
begin_stat rows all st (layer.Do x) = controls (Begin x) st
begin_stat rows all st (layer.If cases) = choose cases st
begin_stat rows all st (layer.Switch subject cases) = begins (Subject cases) subject st
begin_stat rows all st (layer.Loop labels test update body) = loop (loop_of labels test update body) st
begin_stat rows all st (layer.Labelled l body) = runs (Target (Some l)) body st
begin_stat rows all st (layer.Jump goes_on label) = hands (Jumps goes_on label) st
begin_stat rows all st (layer.Return x) = begins Returning x st
begin_stat rows all st (layer.Throw x) = begins Throwing x st
begin_stat rows all st (layer.TryCatch block x names handler) = runs (Catching x names handler) block st
begin_stat rows all st (layer.TryFinally block last) = runs (Finishing last) block st
begin_stat rows all st other = rows.stat all st

-- a list (13.2.13)
abbrev pub run_stats : {s : Sorts} {S : Type 0} → Rows s S → List CoreStat → State s S → Next s S
run_stats rows [] st = hands Done st
run_stats rows (x ∷ xs) st = begin_stat rows x (pushed (Rest xs) st) (out-CoreStat x)
