-- How a statement begins.
use Rattle.std.proofs.Common.{◌≡◌, ℕ, List, [], ◌∷◌, ◌++◌, map, Option, None, Some, refl, sym, ap, subst, ◌∙◌}
use Rattle.std.proofs.lemmas.List.{append-nil}
use Rattle.core_ast.specs.declared.tree.CoreCase.{CoreCase, fold_out-CoreCase, out-CoreCase, out-roll-CoreCase}
use Rattle.core_ast.specs.declared.tree.CoreExpr.{CoreExpr}
use Rattle.core_ast.specs.declared.tree.CoreLink.{CoreLink}
use Rattle.core_ast.specs.declared.tree.CoreLink.TheOpen as layer
use Rattle.core_ast.specs.declared.tree.CoreLink.TheOpen.{CoreCase-F, CoreStat-F}
use Rattle.core_ast.specs.declared.tree.CoreStat.{CoreStat, out-CoreStat}
use Rattle.core_ast.specs.declared.tree.CoreStat.TheVariants as stat
use Rattle.core_ast.specs.declared.whole.Core.{Core}
use Rattle.core_meaning.specs.Marks.{CoreNext, CoreState, CoreWork, Mark}
use Rattle.core_meaning.specs.Modules.{core_step, rows}
use Rattle.core_meaning.specs.Rows.{begins, pushed, runs, with_control}
use Rattle.core_meaning.specs.State.{Catching, Choice, Done, Finishing, Frame, Hand, Jumps, Loop, LoopBody, LoopTest, Rest, Returning, Run, Subject, Target, Throwing}
use Rattle.core_meaning.specs.Statements.{begin_stat, choose, choose_case, loop_by, loop_of}
use Rattle.core_meaning.specs.Step.{step}
use Rattle.pass_rules.proofs.pass_laws.Related.{in_case}
use Rattle.pass_rules.proofs.pass_laws.Scopes.{flat}
use Rattle.pass_rules.specs.Scopes.{Extends, case_flat, case_step, expr_flat, expr_step, link_step, reset, stat_step, stats_flat}
use Rattle.cells_keep_runs.specs.Alike.{Alike, Config}
use Rattle.cells_keep_runs.specs.Related.{BelowScopes, Frames, Related, Seats, Stand, at_expression, at_same, at_statements, catching, choice, finishing, loop_body, loop_flat, loop_test, no_scope, rest, returning, subject, target, throwing}
use Rattle.cells_keep_runs.specs.Shapes.{became, option_flat}
use Rattle.cells_keep_runs.specs.Statements.{IsUntouchedStat, UntouchedStatementsKeepRelated}
use Rattle.cells_keep_runs.proofs.Carried.{stand_pushed}
use Rattle.cells_keep_runs.proofs.Shapes.{statements_become}

-- ---- what a statement becomes, where it becomes one

one_flat : List ℕ → CoreStat-F CoreLink CoreStat CoreCase CoreExpr → CoreStat-F CoreLink CoreStat CoreCase CoreExpr
one_flat owners (layer.Do x) = layer.Do (expr_flat owners x)
one_flat owners (layer.If cases) = layer.If (map (case_flat owners) cases)
one_flat owners (layer.Switch x cases) = layer.Switch (expr_flat owners x) (map (case_flat owners) cases)
one_flat owners (layer.Loop labels test update body) = layer.Loop labels (option_flat owners test) (option_flat owners update) (stats_flat owners body)
one_flat owners (layer.Labelled label body) = layer.Labelled label (stats_flat owners body)
one_flat owners (layer.Jump goes_on label) = layer.Jump goes_on label
one_flat owners (layer.Return x) = layer.Return (expr_flat owners x)
one_flat owners (layer.Throw x) = layer.Throw (expr_flat owners x)
one_flat owners (layer.TryCatch block x names handler) = layer.TryCatch (stats_flat owners block) x [] (map reset names ++ stats_flat owners handler)
one_flat owners (layer.TryFinally block last) = layer.TryFinally (stats_flat owners block) (stats_flat owners last)
one_flat owners (layer.Scoped names body) = layer.Scoped names body
one_flat owners (layer.Yield x kind result) = layer.Yield x kind result

-- the statement, and its layer
record One (owners : List ℕ) (y : CoreStat-F CoreLink CoreStat CoreCase CoreExpr) : Type 0 where
  made : CoreStat
  is : became owners y ≡ made ∷ []
  layer_is : out-CoreStat made ≡ one_flat owners y

one_of : (owners : List ℕ) (y : CoreStat-F CoreLink CoreStat CoreCase CoreExpr) → IsUntouchedStat y → One owners y
unfolding became one_flat
one_of owners (layer.Do x) is = record { made = stat.Do (expr_flat owners x); is = refl; layer_is = stat.outs-Do (expr_flat owners x) }
one_of owners (layer.If cases) is = record { made = stat.If (map (case_flat owners) cases); is = refl; layer_is = stat.outs-If (map (case_flat owners) cases) }
one_of owners (layer.Switch x cases) is = record { made = stat.Switch (expr_flat owners x) (map (case_flat owners) cases); is = refl; layer_is = stat.outs-Switch (expr_flat owners x) (map (case_flat owners) cases) }
one_of owners (layer.Loop labels test update body) is = record { made = stat.Loop labels (option_flat owners test) (option_flat owners update) (stats_flat owners body); is = refl; layer_is = stat.outs-Loop labels (option_flat owners test) (option_flat owners update) (stats_flat owners body) }
one_of owners (layer.Labelled label body) is = record { made = stat.Labelled label (stats_flat owners body); is = refl; layer_is = stat.outs-Labelled label (stats_flat owners body) }
one_of owners (layer.Jump goes_on label) is = record { made = stat.Jump goes_on label; is = refl; layer_is = stat.outs-Jump goes_on label }
one_of owners (layer.Return x) is = record { made = stat.Return (expr_flat owners x); is = refl; layer_is = stat.outs-Return (expr_flat owners x) }
one_of owners (layer.Throw x) is = record { made = stat.Throw (expr_flat owners x); is = refl; layer_is = stat.outs-Throw (expr_flat owners x) }
one_of owners (layer.TryCatch block x names handler) is = record { made = stat.TryCatch (stats_flat owners block) x [] (map reset names ++ stats_flat owners handler); is = refl; layer_is = stat.outs-TryCatch (stats_flat owners block) x [] (map reset names ++ stats_flat owners handler) }
one_of owners (layer.TryFinally block last) is = record { made = stat.TryFinally (stats_flat owners block) (stats_flat owners last); is = refl; layer_is = stat.outs-TryFinally (stats_flat owners block) (stats_flat owners last) }
one_of owners (layer.Scoped names body) is = absurd is
one_of owners (layer.Yield x kind result) is = absurd is

-- ---- cases

abbrev flat_case : List ℕ → Option CoreExpr → List CoreStat → CoreCase-F CoreLink CoreStat CoreCase CoreExpr
flat_case owners test body = record { test = option_flat owners test; body = stats_flat owners body }

case_at : (owners : List ℕ) (test : Option CoreExpr) (body : List CoreStat) → out-CoreCase (case_step (in_case (flat owners) (record { test = test; body = body }))) ≡ flat_case owners test body
case_at owners None body = out-roll-CoreCase (flat_case owners None body)
case_at owners (Some x) body = out-roll-CoreCase (flat_case owners (Some x) body)

pub case_is : (owners : List ℕ) (c : CoreCase) → out-CoreCase (case_flat owners c) ≡ flat_case owners (out-CoreCase c).test (out-CoreCase c).body
case_is owners c =
    ap (λ d. out-CoreCase d) (fold_out-CoreCase (Extends CoreExpr) (Extends (List CoreStat)) CoreCase CoreExpr (link_step owners) stat_step case_step (expr_step owners) c)
    ∙ case_at owners (out-CoreCase c).test (out-CoreCase c).body

module _ (core core2 : Core) (owners : List ℕ) (seats : Seats) where
  abbrev R : Config → Config → Type 0
  R = Related owners seats

  abbrev A : CoreNext → CoreNext → Type 0
  A = Alike R

  abbrev At : CoreState → List (Frame Mark CoreWork) → List (Frame Mark CoreWork) → Type 0
  At s fs gs = Frames owners seats s.context.environment fs gs

  pub run_at : (s t : CoreState) (body : List CoreStat) → Stand owners seats s t → At s s.context.frames t.context.frames → R (with_control (Run body) s) (with_control (Run (stats_flat owners body)) t)
  run_at s t body stand r =
      subst (λ xs. R (with_control (Run body) s) (with_control (Run xs) t)) (append-nil (stats_flat owners body))
      (at_statements body stand (s.context.environment, s.context.frames, no_scope, r))

  pub begins_at : (s t : CoreState) (f g : Frame Mark CoreWork) (x : CoreExpr) → Stand owners seats s t → At s (f ∷ s.context.frames) (g ∷ t.context.frames) → A (begins f x s) (begins g (expr_flat owners x) t)
  begins_at s t f g x stand r = (_, refl, at_expression x (stand_pushed owners seats s t f g stand) r)

  pub runs_at : (s t : CoreState) (f g : Frame Mark CoreWork) (body : List CoreStat) → Stand owners seats s t → At s (f ∷ s.context.frames) (g ∷ t.context.frames) → A (runs f body s) (runs g (stats_flat owners body) t)
  runs_at s t f g body stand r = (_, refl, run_at (pushed f s) (pushed g t) body (stand_pushed owners seats s t f g stand) r)

  case_alike : (s t : CoreState) (test : Option CoreExpr) (body : List CoreStat) (cs : List CoreCase) → Stand owners seats s t → At s s.context.frames t.context.frames
      → A (choose_case test body cs s) (choose_case (option_flat owners test) (stats_flat owners body) (map (case_flat owners) cs) t)
  case_alike s t None body cs stand r = (_, refl, run_at s t body stand r)
  case_alike s t (Some test) body cs stand r = begins_at s t (Choice body cs) (Choice (stats_flat owners body) (map (case_flat owners) cs)) test stand (choice body cs r)

  pub choose_alike : (s t : CoreState) (cs : List CoreCase) → Stand owners seats s t → At s s.context.frames t.context.frames → A (choose cs s) (choose (map (case_flat owners) cs) t)
  choose_alike s t [] stand r = (_, refl, at_same (Hand Done) tt stand r)
  choose_alike s t (c ∷ cs) stand r =
      subst (λ y. A (choose_case (out-CoreCase c).test (out-CoreCase c).body cs s) (choose_case y.test y.body (map (case_flat owners) cs) t)) (sym (case_is owners c))
      (case_alike s t (out-CoreCase c).test (out-CoreCase c).body cs stand r)

  pub loop_alike : (s t : CoreState) (l : Loop) (test : Option CoreExpr) → Stand owners seats s t → At s s.context.frames t.context.frames → A (loop_by l s test) (loop_by (loop_flat owners l) t (option_flat owners test))
  loop_alike s t l None stand r = runs_at s t (LoopBody l) (LoopBody (loop_flat owners l)) l.body stand (loop_body l r)
  loop_alike s t l (Some test) stand r = begins_at s t (LoopTest l) (LoopTest (loop_flat owners l)) test stand (loop_test l r)

  stat_alike : (s t : CoreState) (x x2 : CoreStat) (y : CoreStat-F CoreLink CoreStat CoreCase CoreExpr) → IsUntouchedStat y → Stand owners seats s t → At s s.context.frames t.context.frames
      → A (begin_stat (rows core) x s y) (begin_stat (rows core2) x2 t (one_flat owners y))
  unfolding begin_stat one_flat
  stat_alike s t x x2 (layer.Do e) is stand r = (_, refl, at_expression e stand r)
  stat_alike s t x x2 (layer.If cases) is stand r = choose_alike s t cases stand r
  stat_alike s t x x2 (layer.Switch e cases) is stand r = begins_at s t (Subject cases) (Subject (map (case_flat owners) cases)) e stand (subject cases r)
  stat_alike s t x x2 (layer.Loop labels test update body) is stand r = loop_alike s t (loop_of labels test update body) test stand r
  stat_alike s t x x2 (layer.Labelled label body) is stand r = runs_at s t (Target (Some label)) (Target (Some label)) body stand (target (Some label) r)
  stat_alike s t x x2 (layer.Jump goes_on label) is stand r = (_, refl, at_same (Hand (Jumps goes_on label)) tt stand r)
  stat_alike s t x x2 (layer.Return e) is stand r = begins_at s t Returning Returning e stand (returning r)
  stat_alike s t x x2 (layer.Throw e) is stand r = begins_at s t Throwing Throwing e stand (throwing r)
  stat_alike s t x x2 (layer.TryCatch block v names handler) is stand r =
      runs_at s t (Catching v names handler) (Catching v [] (map reset names ++ stats_flat owners handler)) block stand (catching v names handler r)
  stat_alike s t x x2 (layer.TryFinally block last) is stand r = runs_at s t (Finishing last) (Finishing (stats_flat owners last)) block stand (finishing last r)
  stat_alike s t x x2 (layer.Scoped names body) is stand r = absurd is
  stat_alike s t x x2 (layer.Yield e kind result) is stand r = absurd is

  one_alike : (s t : CoreState) (x : CoreStat) (xs zs : List CoreStat) (o : One owners (out-CoreStat x)) → IsUntouchedStat (out-CoreStat x) → Stand owners seats s t
      → At s (Rest xs ∷ s.context.frames) (Rest zs ∷ t.context.frames)
      → A (core_step core (with_control (Run (x ∷ xs)) s)) (core_step core2 (with_control (Run (o.made ∷ zs)) t))
  unfolding step
  one_alike s t x xs zs o is stand r =
      subst (λ y. A (begin_stat (rows core) x (pushed (Rest xs) s) (out-CoreStat x)) (begin_stat (rows core2) o.made (pushed (Rest zs) t) y)) (sym o.layer_is)
      (stat_alike (pushed (Rest xs) s) (pushed (Rest zs) t) x o.made (out-CoreStat x) is (stand_pushed owners seats s t (Rest xs) (Rest zs) stand) r)

  flat_list : (x : CoreStat) (xs ys : List CoreStat) (o : One owners (out-CoreStat x)) → stats_flat owners (x ∷ xs) ++ ys ≡ o.made ∷ (stats_flat owners xs ++ ys)
  flat_list x xs ys o = ap (λ zs. zs ++ ys) (statements_become owners x xs ∙ ap (λ zs. zs ++ stats_flat owners xs) o.is)

  statement_alike : (x : CoreStat) (xs ys : List CoreStat) (s t : CoreState) → IsUntouchedStat (out-CoreStat x) → Stand owners seats s t → BelowScopes owners seats s s.context.frames ys t
      → A (core_step core (with_control (Run (x ∷ xs)) s)) (core_step core2 (with_control (Run (stats_flat owners (x ∷ xs) ++ ys)) t))
  statement_alike x xs ys s t is stand (e, gs, tail, r) =
      let o = one_of owners (out-CoreStat x) is in
      subst (λ zs. A (core_step core (with_control (Run (x ∷ xs)) s)) (core_step core2 (with_control (Run zs) t))) (sym (flat_list x xs ys o))
      (one_alike s t x xs (stats_flat owners xs ++ ys) o is stand (rest xs tail r))

pub statements_begin : UntouchedStatementsKeepRelated
statements_begin core core2 owners seats x xs ys s t is stand below = statement_alike core core2 owners seats x xs ys s t is stand below
