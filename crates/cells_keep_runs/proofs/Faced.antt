-- What a step of matched configurations faces: an operation, a handler, or what the target does too.
use Rattle.std.proofs.Common.{◌≡◌, ℕ, List, [], ◌∷◌, ◌++◌, map, refl, ap, subst, ◌∙◌, ◌⊎◌, inl, inr}
use Rattle.runs.specs.Run.{Goes}
use Rattle.es_value.specs.declared.value.Value.{Value}
use Rattle.core_ast.specs.declared.parts.CoreOp.{CoreOp}
use Rattle.core_ast.specs.declared.parts.CoreOp.TheVariants as op
use Rattle.core_ast.specs.declared.parts.Primitive.{Primitive}
use Rattle.core_ast.specs.declared.parts.Primitive.TheVariants as primitive
use Rattle.core_ast.specs.declared.parts.ScopedName.{ScopedName}
use Rattle.core_ast.specs.declared.parts.Var.{Var}
use Rattle.core_ast.specs.declared.tree.CoreExpr.{CoreExpr}
use Rattle.core_ast.specs.declared.tree.CoreLink.{CoreLink}
use Rattle.core_ast.specs.declared.tree.CoreStat.{CoreStat}
use Rattle.core_ast.specs.declared.whole.Core.{Core}
use Rattle.core_meaning.specs.Marks.{CoreState, CoreWork, Mark}
use Rattle.core_meaning.specs.Modules.{core_step}
use Rattle.core_meaning.specs.Rows.{with_control}
use Rattle.core_meaning.specs.State.{Catching, Completion, Control, CoreValue, Done, Environment, Frame, Go, Hand, Made, Making, Operation, Run, Throws}
use Rattle.core_meaning.specs.Step.{parts, step}
use Rattle.pass_rules.specs.Scopes.{reset, stats_flat}
use Rattle.cells_keep_runs.specs.Acted.{IsAlikeOp}
use Rattle.cells_keep_runs.specs.Alike.{Config, IsPlain}
use Rattle.cells_keep_runs.specs.Ended.{PassesHere}
use Rattle.cells_keep_runs.specs.Ready.{Keeping, OpReady, PartsReady}
use Rattle.cells_keep_runs.specs.Related.{Frames, IsBare, Related, Seats, Waits, WaitsAfter, WaitsBehind, WaitsDelegate, WaitsDelegateDone, WaitsDelegateStart, WaitsDelegateTurn, WaitsDelegateValue, WaitsHeritage, WaitsKeyed, WaitsPrototype, WaitsSpread, WaitsSpreadStep, WaitsSpreadValue, WaitsToStep, WaitsToStore, WaitsYield, at_copy, at_exit, at_expression, at_links, at_same, at_statements, catching, choice, derived, fetch, finishing, instantiates, loop_body, loop_test, loop_update, matching, none, part, past_cells, pending, plain, prototype, rest, restore, resumes, returning, starts, subject, target, throwing, waiting, waits, waits_for_cell}

abbrev Frames1 : Type 0
Frames1 = List (Frame Mark CoreWork)

-- ---- what related configurations do

abbrev pub IsRun : Control Mark → Type 0
IsRun (Run xs) = Unit {0}
IsRun c = ⊥

abbrev pub IsGo : Control Mark → Type 0
IsGo (Go c ls) = Unit {0}
IsGo c = ⊥

no_run : (c : Control Mark) → IsBare c → IsRun c → ⊥
no_run (Run xs) bare is = bare
no_run c bare is = is

no_go : (c : Control Mark) → IsBare c → IsGo c → ⊥
no_go (Go c ls) bare is = bare
no_go c bare is = is

-- ---- what ends statements early

pub data Faces (c : Completion Mark) (fs : Frames1) : Type 0 where
  faces_end : fs ≡ [] → Faces c fs
  faces_handler : (v : Value) (x : Var) (names : List ScopedName) (handler : List CoreStat) (fs2 : Frames1) → c ≡ Throws v → fs ≡ Catching x names handler ∷ fs2 → Faces c fs
  faces_other : PassesHere c fs → Faces c fs

pub faces : (c : Completion Mark) (fs : Frames1) → Faces c fs
faces c [] = faces_end refl
faces (Throws v) (Catching x names handler ∷ fs) = faces_handler v x names handler fs refl refl
faces c (f ∷ fs) = faces_other tt

-- the target has the handler too
pub record Handler (owners : List ℕ) (seats : Seats) (e : Environment) (x : Var) (names : List ScopedName) (handler : List CoreStat) (fs gs : Frames1) : Type 0 where
  pub below : Frames1
  pub is : gs ≡ Catching x [] (map reset names ++ stats_flat owners handler) ∷ below
  pub related : Frames owners seats e fs below

no_handler_waits : (w : Waits) (ls : List CoreLink) (fs fs2 : Frames1) (x : Var) (names : List ScopedName) (handler : List CoreStat) → waiting w ls ∷ fs ≡ Catching x names handler ∷ fs2 → ⊥
no_handler_waits WaitsAfter ls fs fs2 x names handler is = cc
no_handler_waits (WaitsBehind v) ls fs fs2 x names handler is = cc
no_handler_waits (WaitsKeyed base) ls fs fs2 x names handler is = cc
no_handler_waits (WaitsToStore base k) ls fs fs2 x names handler is = cc
no_handler_waits (WaitsToStep u base k) ls fs fs2 x names handler is = cc
no_handler_waits (WaitsSpread list) ls fs fs2 x names handler is = cc
no_handler_waits (WaitsSpreadStep list it) ls fs fs2 x names handler is = cc
no_handler_waits (WaitsSpreadValue list it) ls fs fs2 x names handler is = cc
no_handler_waits (WaitsHeritage f heritage) ls fs fs2 x names handler is = cc
no_handler_waits WaitsPrototype ls fs fs2 x names handler is = cc
no_handler_waits WaitsYield ls fs fs2 x names handler is = cc
no_handler_waits (WaitsDelegate it) ls fs fs2 x names handler is = cc
no_handler_waits WaitsDelegateStart ls fs fs2 x names handler is = cc
no_handler_waits (WaitsDelegateTurn it kind v) ls fs fs2 x names handler is = cc
no_handler_waits (WaitsDelegateDone it kind v) ls fs fs2 x names handler is = cc
no_handler_waits (WaitsDelegateValue kind) ls fs fs2 x names handler is = cc

no_plain_handler : (f : Frame Mark CoreWork) (fs fs2 : Frames1) (x : Var) (names : List ScopedName) (handler : List CoreStat) → IsPlain f → f ∷ fs ≡ Catching x names handler ∷ fs2 → ⊥
no_plain_handler (Operation site c) fs fs2 x names handler is same = cc
no_plain_handler (Making g args new) fs fs2 x names handler is same = cc
no_plain_handler (Made o) fs fs2 x names handler is same = cc
no_plain_handler f fs fs2 x names handler is same = absurd is

-- an operation on no name
pub data OpView (o : CoreOp) : Type 0 where
  op_alike : IsAlikeOp o → OpView o
  op_class : o ≡ op.Primitive primitive.ClassMake → OpView o
  op_member : (p : Primitive) → o ≡ op.Primitive p → ((p ≡ primitive.MethodPut) ⊎ (p ≡ primitive.AccessorPut)) → OpView o

pub op_view : (o : CoreOp) → OpReady o → OpView o
unfolding IsAlikeOp
op_view (op.Primitive primitive.ClassMake) is = op_class refl
op_view (op.Primitive primitive.MethodPut) is = op_member primitive.MethodPut refl (inl refl)
op_view (op.Primitive primitive.AccessorPut) is = op_member primitive.AccessorPut refl (inr refl)
op_view o is = op_alike is

pub parts_ready : (core : Core) (kept : Keeping) (owners : List ℕ) (seats : Seats) (s : CoreState) (o : CoreOp) (values : List (CoreValue Mark)) (parts : List CoreExpr)
    → PartsReady core kept owners seats s o values parts → OpReady o
parts_ready core kept owners seats s (op.Primitive primitive.ClassMake) values [] is = tt
parts_ready core kept owners seats s o values parts is = is

pub empty_list : (core : Core) (s : CoreState) → core_step core (with_control (Run []) s) ≡ Goes (with_control (Hand Done) s)
unfolding step
empty_list core s = refl

module _ (owners : List ℕ) (seats : Seats) where
  abbrev R : Config → Config → Type 0
  R = Related owners seats

  abbrev At : Environment → Frames1 → Frames1 → Type 0
  At = Frames owners seats

  -- where the source runs statements, the target does
  pub runs_too : (a b : Config) → R a b → IsRun a.control → IsRun b.control
  runs_too a b (at_same c bare stand r) is = absurd (no_run c bare is)
  runs_too a b (at_copy n drops stand r) is = absurd is
  runs_too a b (at_expression x stand r) is = absurd is
  runs_too a b (at_links ls currents stand below) is = absurd is
  runs_too a b (at_statements xs stand below) is = tt
  runs_too a b (at_exit c abrupt stand below) is = absurd is
  runs_too a b (past_cells c ls abrupt stand below) is = absurd is

  -- where the source goes along links, the target does
  pub goes_too : (a b : Config) → R a b → IsGo a.control → IsGo b.control
  goes_too a b (at_same c bare stand r) is = absurd (no_go c bare is)
  goes_too a b (at_copy n drops stand r) is = absurd is
  goes_too a b (at_expression x stand r) is = absurd is
  goes_too a b (at_links ls currents stand below) is = tt
  goes_too a b (at_statements xs stand below) is = absurd is
  goes_too a b (at_exit c abrupt stand below) is = absurd is
  goes_too a b (past_cells c ls abrupt stand below) is = absurd is

  same_handler : (e : Environment) (x y : Var) (names names2 : List ScopedName) (handler handler2 : List CoreStat) (fs fs2 gs2 : Frames1) → At e fs gs2 → Catching y names2 handler2 ∷ fs ≡ Catching x names handler ∷ fs2
      → Handler owners seats e x names handler fs2 (Catching y [] (map reset names2 ++ stats_flat owners handler2) ∷ gs2)
  same_handler e x y names names2 handler handler2 fs fs2 gs2 r is =
      let same_x : y ≡ x = cc in
      let same_names : names2 ≡ names = cc in
      let same_body : handler2 ≡ handler = cc in
      let same_rest : fs ≡ fs2 = cc in
      record {
        below = gs2;
        is = ap (λ z. Catching z [] (map reset names2 ++ stats_flat owners handler2) ∷ gs2) same_x
            ∙ ap (λ ns. Catching x [] (map reset ns ++ stats_flat owners handler2) ∷ gs2) same_names
            ∙ ap (λ zs. Catching x [] (map reset names ++ stats_flat owners zs) ∷ gs2) same_body;
        related = subst (λ hs. At e hs gs2) same_rest r;
      }

  pub handler_too : (e : Environment) (fs gs : Frames1) (x : Var) (names : List ScopedName) (handler : List CoreStat) (fs2 : Frames1) → At e fs gs → fs ≡ Catching x names handler ∷ fs2 → Handler owners seats e x names handler fs2 gs
  handler_too e fs gs x names handler fs2 none is = cc
  handler_too e fs gs x names handler fs2 (plain {fs = fs3} {f = f} p r) is = absurd (no_plain_handler f fs3 fs2 x names handler p is)
  handler_too e fs gs x names handler fs2 (waits {fs = fs3} w ls r) is = absurd (no_handler_waits w ls fs3 fs2 x names handler is)
  handler_too e fs gs x names handler fs2 (waits_for_cell y l ls w r) is = cc
  handler_too e fs gs x names handler fs2 (part p c r) is = cc
  handler_too e fs gs x names handler fs2 (fetch base k p r) is = cc
  handler_too e fs gs x names handler fs2 (rest xs tail r) is = cc
  handler_too e fs gs x names handler fs2 (choice body cases r) is = cc
  handler_too e fs gs x names handler fs2 (subject cases r) is = cc
  handler_too e fs gs x names handler fs2 (matching v cases all r) is = cc
  handler_too e fs gs x names handler fs2 (loop_test l r) is = cc
  handler_too e fs gs x names handler fs2 (loop_body l r) is = cc
  handler_too e fs gs x names handler fs2 (loop_update l r) is = cc
  handler_too e fs gs x names handler fs2 (target label r) is = cc
  handler_too e fs gs x names handler fs2 (returning r) is = cc
  handler_too e fs gs x names handler fs2 (throwing r) is = cc
  handler_too e fs gs x names handler fs2 (catching {e = e3} {fs = fs3} {gs = gs3} y names2 handler2 r) is = same_handler e3 x y names names2 handler handler2 fs3 fs2 gs3 r is
  handler_too e fs gs x names handler fs2 (finishing last r) is = cc
  handler_too e fs gs x names handler fs2 (pending c r) is = cc
  handler_too e fs gs x names handler fs2 (restore away r) is = cc
  handler_too e fs gs x names handler fs2 (derived n r) is = cc
  handler_too e fs gs x names handler fs2 (instantiates body r) is = cc
  handler_too e fs gs x names handler fs2 (prototype body r) is = cc
  handler_too e fs gs x names handler fs2 (starts body r) is = cc
  handler_too e fs gs x names handler fs2 (resumes n r) is = cc
