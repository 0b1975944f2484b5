-- Values are taken alike.
use Rattle.std.proofs.Common.{◌≡◌, ℕ, Bool, true, false, List, [], ◌∷◌, ◌++◌, map, Option, None, Some, length, refl, sym, ap, subst, ◌∙◌}
use Rattle.std.specs.Prelude.{codes, if◌then◌else◌, is_none, slice_index_or}
use Rattle.es_outside.specs.declared.events.Site.{Site}
use Rattle.es_value.specs.Equality.{same_value}
use Rattle.es_value.specs.declared.value.ObjId.{ObjId}
use Rattle.es_value.specs.declared.value.Value.{Value}
use Rattle.es_value.specs.declared.value.Value.TheVariants as value
use Rattle.es_heap.specs.Heaps.{Heap, next_id}
use Rattle.es_realm.specs.declared.errors.ErrorKind.TheVariants.{ReferenceError, TypeError}
use Rattle.es_operators.specs.Primitives.{truth_of}
use Rattle.es_calls.specs.declared.call.Resumption.{Resumption}
use Rattle.es_calls.specs.declared.call.Resumption.TheVariants as resumption
use Rattle.es_operations.specs.Making.{made_generator}
use Rattle.es_operations.specs.Numbers as number
use Rattle.core_ast.specs.declared.parts.CoreOp.{CoreOp}
use Rattle.core_ast.specs.declared.parts.CoreOp.TheVariants as op
use Rattle.core_ast.specs.declared.tree.CoreCase.{CoreCase, out-CoreCase}
use Rattle.core_ast.specs.declared.tree.CoreExpr.{CoreExpr}
use Rattle.core_ast.specs.declared.tree.CoreLink.{out-CoreLink}
use Rattle.core_ast.specs.declared.tree.CoreStat.{CoreStat}
use Rattle.core_ast.specs.declared.whole.Core.{Core}
use Rattle.core_state.specs.Bodies.{bodies}
use Rattle.core_meaning.specs.Classes.{derived_given, own_this}
use Rattle.core_meaning.specs.Expressions.{single}
use Rattle.core_meaning.specs.Generators.{arrives, delegate_done, delegate_number, delegate_turn, delegate_turned, delegate_value, generator_made, resumed, saved_with, with_generator, with_resumed, yields}
use Rattle.core_meaning.specs.Iteration.{spread_step, spread_stepped, spread_value}
use Rattle.core_meaning.specs.Marks.{AtStart, Completed, CoreList, CoreNext, CoreState, CoreWork, Mark, OfArguments, OfArray, Own, Resumed, Starts}
use Rattle.core_meaning.specs.Modules.{rows, work_given}
use Rattle.core_meaning.specs.Properties.{add_element}
use Rattle.core_meaning.specs.Rows.{goes, hands, operates, raises, runs, with_frames, with_heap, with_user}
use Rattle.core_meaning.specs.State.{Completion, Context, CoreValue, Current, Environment, Extra, Frame, Gives, Hand, Has, LoopTest, LoopUpdate, Choice, Matching, Part, Returning, Returns, Target, Throwing, Throws, User, Work}
use Rattle.core_meaning.specs.Statements.{from_default, match_case, match_next, matched, run_cases}
use Rattle.core_meaning.specs.Step.{act, act_by, fetch_given, fetched, given, hand, parts, step}
use Rattle.pass_rules.specs.Scopes.{case_flat, expr_flat, stats_flat}
use Rattle.cells_keep_runs.specs.Acted.{IsAlikeOp, KindsAreKept}
use Rattle.cells_keep_runs.specs.Alike.{Alike, Along, Config, IsPlain, OfAfter, OfBehind, OfKeyed, OfStepAt, OfStore, strict}
use Rattle.cells_keep_runs.specs.Given.{of_choice, of_return, of_test, of_throw, of_update}
use Rattle.cells_keep_runs.specs.Opened.{opened, write_in}
use Rattle.cells_keep_runs.specs.Passed.{placed}
use Rattle.cells_keep_runs.specs.Related.{Frames, Generators, PartCurrents, Related, Seats, Stand, Waits, WaitsAfter, WaitsBehind, WaitsDelegate, WaitsDelegateDone, WaitsDelegateStart, WaitsDelegateTurn, WaitsDelegateValue, WaitsHeritage, WaitsKeyed, WaitsPrototype, WaitsSpread, WaitsSpreadStep, WaitsSpreadValue, WaitsToStep, WaitsToStore, WaitsYield, at_expression, at_same, at_start, at_statements, catching, cell_along, choice, completed, derived, fetch, finishing, instantiates, loop_body, loop_flat, loop_test, loop_update, matching, none, part, part_flat, pending, plain, prototype, rest, restore, resumes, returning, same_part, starts as starts_frame, subject, target, then_part, throwing, waiting, waits, waits_for_cell}
use Rattle.cells_keep_runs.specs.Shapes.{option_flat}
use Rattle.cells_keep_runs.specs.Ways.{IsAbrupt}
use Rattle.cells_keep_runs.specs.Taken.{TakesHere, ValuesAreTakenAlike}
use Rattle.cells_keep_runs.proofs.Acted.{acts_alike, from_links, goes_on, hands_on, results_alike, waits_yields, works_on}
use Rattle.cells_keep_runs.proofs.Alike.{at_heap, either_way, maybe, under_raised}
use Rattle.cells_keep_runs.proofs.Carried.{B, U, carries, stand_heap, stand_pushed}
use Rattle.cells_keep_runs.proofs.Closed.{all_length, all_push}
use Rattle.cells_keep_runs.proofs.Ended.{stand_generator}
use Rattle.cells_keep_runs.proofs.Given.{link_given, plain_given, stat_given}
use Rattle.cells_keep_runs.proofs.Shapes.{by_parts}
use Rattle.cells_keep_runs.proofs.Statements.{begins_at, case_is, run_at, runs_at}
use Rattle.cells_keep_runs.proofs.Writes.{not_none}

abbrev Frames1 : Type 0
Frames1 = List (Frame Mark CoreWork)

-- ---- cases

bodies_flat : (owners : List ℕ) (cs : List CoreCase) → bodies (map (case_flat owners) cs) ≡ stats_flat owners (bodies cs)
bodies_flat owners [] = refl
bodies_flat owners (c ∷ cs) =
    ap (λ y. y.body ++ bodies (map (case_flat owners) cs)) (case_is owners c) ∙ ap (λ xs. stats_flat owners (out-CoreCase c).body ++ xs) (bodies_flat owners cs)
    ∙ sym (by_parts owners (out-CoreCase c).body (bodies cs))

none_flat : (owners : List ℕ) (x : Option CoreExpr) → is_none (option_flat owners x) ≡ is_none x
none_flat owners None = refl
none_flat owners (Some x) = refl

default_by : (owners : List ℕ) (c : CoreCase) (cs : List CoreCase) (b : Bool) → from_default (map (case_flat owners) cs) ≡ map (case_flat owners) (from_default cs)
    → (if b then case_flat owners c ∷ map (case_flat owners) cs else from_default (map (case_flat owners) cs)) ≡ map (case_flat owners) (if b then c ∷ cs else from_default cs)
default_by owners c cs true h = refl
default_by owners c cs false h = h

default_flat : (owners : List ℕ) (cs : List CoreCase) → from_default (map (case_flat owners) cs) ≡ map (case_flat owners) (from_default cs)
default_flat owners [] = refl
default_flat owners (c ∷ cs) =
    ap (λ b. if b then case_flat owners c ∷ map (case_flat owners) cs else from_default (map (case_flat owners) cs)) (ap (λ y. is_none y.test) (case_is owners c) ∙ none_flat owners (out-CoreCase c).test)
    ∙ default_by owners c cs (is_none (out-CoreCase c).test) (default_flat owners cs)

module _ (core core2 : Core) (owners : List ℕ) (seats : Seats) where
  abbrev R : Config → Config → Type 0
  R = Related owners seats

  abbrev A : CoreNext → CoreNext → Type 0
  A = Alike R

  abbrev At : CoreState → Frames1 → Frames1 → Type 0
  At s fs gs = Frames owners seats s.context.environment fs gs

  abbrev UU : CoreState → CoreState → Type 0
  UU = U owners seats

  abbrev BB : Along → Along → Type 0
  BB = B owners seats

  -- ---- ways on, as they are for these cores

  works_here : (p q : Along) (w : Waits) (n : ℕ) (base : Value) (vs : List Value) → BB p q → A (operates (waiting w p.links) n base vs p.state) (operates (waiting w q.links) n base vs q.state)
  works_here p q w n base vs b = works_on core core2 owners seats p q w n base vs b

  goes_here : (p q : Along) (c : Current Mark) → BB p q → A (goes c p.links p.state) (goes c q.links q.state)
  goes_here p q c b = goes_on core core2 owners seats p q c b

  hands_here : (c : Completion Mark) (s t : CoreState) → UU s t → A (hands c s) (hands c t)
  hands_here c s t b = hands_on core core2 owners seats c s t b

  leaves_links : (p q : Along) (c : Completion Mark) → IsAbrupt c → BB p q → A (hands c p.state) (hands c q.state)
  leaves_links p q c is b = from_links core core2 owners seats p q c is b

  -- ---- the parts of an operation

  then_alike : (p q : Along) (site : Option Site) (c d : Current Mark) (vs : List (CoreValue Mark)) → BB p q → A (act (rows core) core (strict op.Then site c vs [] p.links) p.state) (act (rows core2) core2 (strict op.Then site d vs [] q.links) q.state)
  unfolding act_by
  then_alike p q site c d vs b =
      maybe R (B owners seats) (U owners seats) (carries owners seats) (single vs) p.state q.state (λ v. goes (Has v) p.links p.state) (λ v. goes (Has v) q.links q.state) (λ v. goes_here p q (Has v) b)

  last_part : (kinds : KindsAreKept core core2) (p q : Along) (o : CoreOp) (site : Option Site) (c d : Current Mark) (vs : List (CoreValue Mark)) → PartCurrents o c d → IsAlikeOp o → BB p q
      → A (act (rows core) core (strict o site c vs [] p.links) p.state) (act (rows core2) core2 (strict o site d vs [] q.links) q.state)
  last_part kinds p q o site c d vs (same_part is) untouched b =
      subst (λ z. A (act (rows core) core (strict o site c vs [] p.links) p.state) (act (rows core2) core2 (strict o site z vs [] q.links) q.state)) (sym is)
      (acts_alike core core2 owners seats kinds o site c vs [] p q untouched b)
  last_part kinds p q o site c d vs (then_part n is cell) untouched b =
      subst (λ z. A (act (rows core) core (strict z site c vs [] p.links) p.state) (act (rows core2) core2 (strict z site d vs [] q.links) q.state)) (sym is) (then_alike p q site c d vs b)

  abbrev pub PartsAt : Along → Along → CoreOp → Option Site → Current Mark → Current Mark → List (CoreValue Mark) → List CoreExpr → Type 0
  PartsAt p q o site c d vs xs = At p.state (Part (strict o site c vs xs p.links) ∷ p.state.context.frames) (Part (strict o site d vs (map (expr_flat owners) xs) q.links) ∷ q.state.context.frames)

  pub part_pushed : (p q : Along) (o : CoreOp) (site : Option Site) (c d : Current Mark) (vs : List (CoreValue Mark)) (xs : List CoreExpr) → PartCurrents o c d → BB p q → PartsAt p q o site c d vs xs
  part_pushed p q o site c d vs xs currents (stand, (gs, r, below), is) =
      let o2 = opened owners (cell_along seats p.state.context.environment) p.links in
      let first : At p.state (Part (strict o site c vs xs p.links) ∷ p.state.context.frames) (Part (strict o site d vs (map (expr_flat owners) xs) o2.links) ∷ (o2.frames ++ gs)) = part (strict o site c vs xs p.links) currents r in
      let second = subst (λ ls. At p.state (Part (strict o site c vs xs p.links) ∷ p.state.context.frames) (Part (strict o site d vs (map (expr_flat owners) xs) ls) ∷ (o2.frames ++ gs))) (sym is) first in
      subst (λ hs. At p.state (Part (strict o site c vs xs p.links) ∷ p.state.context.frames) (Part (strict o site d vs (map (expr_flat owners) xs) q.links) ∷ hs)) (sym below) second

  pub next_part : (kinds : KindsAreKept core core2) (p q : Along) (o : CoreOp) (site : Option Site) (c d : Current Mark) (vs : List (CoreValue Mark)) (xs : List CoreExpr) → PartCurrents o c d → IsAlikeOp o → BB p q
      → A (parts (rows core) core (strict o site c vs xs p.links) p.state) (parts (rows core2) core2 (strict o site d vs (map (expr_flat owners) xs) q.links) q.state)
  next_part kinds p q o site c d vs [] currents untouched b = last_part kinds p q o site c d vs currents untouched b
  next_part kinds p q o site c d vs (x ∷ xs) currents untouched b =
      (_, refl, at_expression x (stand_pushed owners seats p.state q.state (Part (strict o site c vs xs p.links)) (Part (strict o site d vs (map (expr_flat owners) xs) q.links)) b.0) (part_pushed p q o site c d vs xs currents b))

  -- ---- choices

  runs_cases : (s t : CoreState) (cs : List CoreCase) → UU s t → A (run_cases cs s) (run_cases (map (case_flat owners) cs) t)
  runs_cases s t cs b =
      subst (λ xs. A (run_cases cs s) (runs (Target None) xs t)) (sym (bodies_flat owners cs)) (runs_at core core2 owners seats s t (Target None) (Target None) (bodies cs) b.0 (target None b.1))

  case_by : (s t : CoreState) (v : Value) (all : List CoreCase) (c : CoreCase) (cs : List CoreCase) (test : Option CoreExpr) (x y : CoreNext) → UU s t → A x y
      → A (match_case v all (c ∷ cs) s x test) (match_case v (map (case_flat owners) all) (map (case_flat owners) (c ∷ cs)) t y (option_flat owners test))
  case_by s t v all c cs None x y b next = next
  case_by s t v all c cs (Some test) x y b next =
      begins_at core core2 owners seats s t (Matching v (c ∷ cs) all) (Matching v (map (case_flat owners) (c ∷ cs)) (map (case_flat owners) all)) test b.0 (matching v (c ∷ cs) all b.1)

  match_alike : (s t : CoreState) (v : Value) (all cs : List CoreCase) → UU s t → A (match_next v all cs s) (match_next v (map (case_flat owners) all) (map (case_flat owners) cs) t)
  match_alike s t v all [] b =
      subst (λ cs. A (run_cases (from_default all) s) (run_cases cs t)) (sym (default_flat owners all)) (runs_cases s t (from_default all) b)
  match_alike s t v all (c ∷ cs) b =
      subst (λ y. A (match_next v all (c ∷ cs) s) (match_case v (map (case_flat owners) all) (map (case_flat owners) (c ∷ cs)) t (match_next v (map (case_flat owners) all) (map (case_flat owners) cs) t) y.test)) (sym (case_is owners c))
      (case_by s t v all c cs (out-CoreCase c).test (match_next v all cs s) (match_next v (map (case_flat owners) all) (map (case_flat owners) cs) t) b (match_alike s t v all cs b))

  matched_alike : (s t : CoreState) (v w : Value) (cs all : List CoreCase) → UU s t → A (matched v cs all s w) (matched v (map (case_flat owners) cs) (map (case_flat owners) all) t w)
  matched_alike s t v w [] all b = tt
  matched_alike s t v w (c ∷ cs) all b =
      either_way R (B owners seats) (U owners seats) (carries owners seats) (same_value v w) (run_cases (c ∷ cs) s) (match_next v all cs s) (run_cases (map (case_flat owners) (c ∷ cs)) t) (match_next v (map (case_flat owners) all) (map (case_flat owners) cs) t)
      (runs_cases s t (c ∷ cs) b) (match_alike s t v all cs b)

  -- ---- pending work

  stepped_alike : (p q : Along) (list : CoreList) (it v : Value) → BB p q → A (spread_stepped list it p.links p.state v) (spread_stepped list it q.links q.state v)
  stepped_alike p q list it (value.Object id) b = works_here p q (WaitsSpreadValue list it) number.iterator_value_number (value.Object id) [] b
  stepped_alike p q (OfArray id) it value.Undefined b = goes_here p q _ b
  stepped_alike p q (OfArray id) it value.Null b = goes_here p q _ b
  stepped_alike p q (OfArray id) it (value.Bool x) b = goes_here p q _ b
  stepped_alike p q (OfArray id) it (value.Number x) b = goes_here p q _ b
  stepped_alike p q (OfArray id) it (value.Text x) b = goes_here p q _ b
  stepped_alike p q (OfArguments vs) it value.Undefined b = goes_here p q _ b
  stepped_alike p q (OfArguments vs) it value.Null b = goes_here p q _ b
  stepped_alike p q (OfArguments vs) it (value.Bool x) b = goes_here p q _ b
  stepped_alike p q (OfArguments vs) it (value.Number x) b = goes_here p q _ b
  stepped_alike p q (OfArguments vs) it (value.Text x) b = goes_here p q _ b

  stepping : (p q : Along) (list : CoreList) (it : Value) → BB p q → A (spread_step list it p.links p.state) (spread_step list it q.links q.state)
  stepping p q list it b = works_here p q (WaitsSpreadStep list it) number.iterator_step_number it [] b

  spread_alike : (p q : Along) (list : CoreList) (it v : Value) → BB p q → A (spread_value list it p.links p.state v) (spread_value list it q.links q.state v)
  spread_alike p q (OfArray id) it v b =
      at_heap R (B owners seats) (U owners seats) (carries owners seats) p q b (spread_value (OfArray id) it p.links p.state v) (λ h. spread_step (OfArray id) it q.links (with_heap (add_element h id v) q.state))
      (stepping (record { links = p.links; state = with_heap (add_element p.state.heap id v) p.state }) (record { links = q.links; state = with_heap (add_element p.state.heap id v) q.state }) (OfArray id) it
      (stand_heap owners seats p.state q.state (add_element p.state.heap id v) b.0, b.1, b.2))
  spread_alike p q (OfArguments vs) it v b = stepping p q (OfArguments (vs ++ v ∷ [])) it b

  arrives_alike : (p q : Along) (kind : Resumption) (v : Value) → BB p q → A (arrives p.links p.state kind v) (arrives q.links q.state kind v)
  arrives_alike p q resumption.Next v b = goes_here p q _ b
  arrives_alike p q resumption.Return v b = leaves_links p q (Returns (User v)) tt b
  arrives_alike p q resumption.Throw v b = leaves_links p q (Throws v) tt b

  turned_alike : (p q : Along) (it : Value) (kind : Resumption) (v r : Value) → BB p q → A (delegate_turned it kind v p.links p.state r) (delegate_turned it kind v q.links q.state r)
  turned_alike p q it kind v (value.Object result) b = works_here p q (WaitsDelegateDone it kind (value.Object result)) number.get_number (value.Object result) (value.Text (codes "done") ∷ []) b
  turned_alike p q it kind v r b = leaves_links p q (Returns (User v)) tt b

  done_alike : (p q : Along) (it : Value) (kind : Resumption) (result v : Value) → BB p q → A (delegate_done it kind result p.links p.state v) (delegate_done it kind result q.links q.state v)
  done_alike p q it kind result v b =
      either_way R (B owners seats) (U owners seats) (carries owners seats) (truth_of v)
      (operates (waiting (WaitsDelegateValue kind) p.links) number.get_number result (value.Text (codes "value") ∷ []) p.state) (yields (waiting (WaitsDelegate it) p.links) false result p.state)
      (operates (waiting (WaitsDelegateValue kind) q.links) number.get_number result (value.Text (codes "value") ∷ []) q.state) (yields (waiting (WaitsDelegate it) q.links) false result q.state)
      (works_here p q (WaitsDelegateValue kind) number.get_number result (value.Text (codes "value") ∷ []) b) (waits_yields core core2 owners seats p q (WaitsDelegate it) false result b)

  delegated_alike : (p q : Along) (kind : Resumption) (v : Value) → BB p q → A (delegate_value kind p.links p.state v) (delegate_value kind q.links q.state v)
  delegated_alike p q resumption.Return v b = leaves_links p q (Returns (User v)) tt b
  delegated_alike p q resumption.Next v b = goes_here p q _ b
  delegated_alike p q resumption.Throw v b = goes_here p q _ b

  resumed_by : (v : CoreValue Mark) (s t : CoreState) (f g : Resumption → Value → CoreNext) → ((kind : Resumption) (w : Value) → A (f kind w) (g kind w)) → A (with_resumed v s f) (with_resumed v t g)
  resumed_by (Extra (Resumed kind w)) s t f g h = h kind w
  resumed_by v s t f g h = tt

  user_by : (v : CoreValue Mark) (s t : CoreState) (f g : Value → CoreNext) → ((w : Value) → A (f w) (g w)) → A (with_user v s f) (with_user v t g)
  user_by (User w) s t f g h = h w
  user_by (Extra m) s t f g h = tt

  -- a frame that waits with links
  waits_given : (w : Waits) (v : CoreValue Mark) (p q : Along) (fs : Frames1) → TakesHere owners (waiting w p.links ∷ fs) → BB p q → A (given (rows core) core v p.state (waiting w p.links)) (given (rows core2) core2 v q.state (waiting w q.links))
  unfolding given work_given
  waits_given WaitsAfter v p q fs takes b = link_given core core2 owners seats p q OfAfter v b
  waits_given (WaitsBehind x) v p q fs takes b = link_given core core2 owners seats p q (OfBehind x) v b
  waits_given (WaitsKeyed base) v p q fs takes b = link_given core core2 owners seats p q (OfKeyed base) v b
  waits_given (WaitsToStore base k) v p q fs takes b = link_given core core2 owners seats p q (OfStore base k) v b
  waits_given (WaitsToStep u base k) v p q fs takes b = link_given core core2 owners seats p q (OfStepAt u base k) v b
  waits_given (WaitsSpread list) v p q fs takes b = user_by v p.state q.state (λ it. spread_step list it p.links p.state) (λ it. spread_step list it q.links q.state) (λ it. stepping p q list it b)
  waits_given (WaitsSpreadStep list it) v p q fs takes b = user_by v p.state q.state (spread_stepped list it p.links p.state) (spread_stepped list it q.links q.state) (λ x. stepped_alike p q list it x b)
  waits_given (WaitsSpreadValue list it) v p q fs takes b = user_by v p.state q.state (spread_value list it p.links p.state) (spread_value list it q.links q.state) (λ x. spread_alike p q list it x b)
  waits_given (WaitsHeritage f heritage) v p q fs takes b = absurd takes
  waits_given WaitsPrototype v p q fs takes b = absurd takes
  waits_given WaitsYield v p q fs takes b = resumed_by v p.state q.state (arrives p.links p.state) (arrives q.links q.state) (λ kind x. arrives_alike p q kind x b)
  waits_given (WaitsDelegate it) v p q fs takes b =
      resumed_by v p.state q.state (delegate_turn it p.links p.state) (delegate_turn it q.links q.state) (λ kind x. works_here p q (WaitsDelegateTurn it kind x) (delegate_number kind) it (x ∷ []) b)
  waits_given WaitsDelegateStart v p q fs takes b =
      user_by v p.state q.state (λ it. delegate_turn it p.links p.state resumption.Next value.Undefined) (λ it. delegate_turn it q.links q.state resumption.Next value.Undefined)
      (λ it. works_here p q (WaitsDelegateTurn it resumption.Next value.Undefined) (delegate_number resumption.Next) it (value.Undefined ∷ []) b)
  waits_given (WaitsDelegateTurn it kind x) v p q fs takes b = user_by v p.state q.state (delegate_turned it kind x p.links p.state) (delegate_turned it kind x q.links q.state) (λ r. turned_alike p q it kind x r b)
  waits_given (WaitsDelegateDone it kind x) v p q fs takes b = user_by v p.state q.state (delegate_done it kind x p.links p.state) (delegate_done it kind x q.links q.state) (λ r. done_alike p q it kind x r b)
  waits_given (WaitsDelegateValue kind) v p q fs takes b = user_by v p.state q.state (delegate_value kind p.links p.state) (delegate_value kind q.links q.state) (λ x. delegated_alike p q kind x b)

  -- ---- what constructions and generators give

  this_alike : (o : Option Value) (s t : CoreState) → UU s t → A (own_this s o) (own_this t o)
  this_alike None s t b = under_raised R (B owners seats) (U owners seats) (carries owners seats) s t ReferenceError b
  this_alike (Some v) s t b = hands_here (Gives (User v)) s t b

  type_error : (s t : CoreState) → UU s t → A (raises TypeError s) (raises TypeError t)
  type_error s t b = under_raised R (B owners seats) (U owners seats) (carries owners seats) s t TypeError b

  derived_alike : (n : ℕ) (v : Value) (s t : CoreState) → UU s t → A (derived_given n s v) (derived_given n t v)
  derived_alike n (value.Object id) s t b = hands_here (Gives (User (value.Object id))) s t b
  derived_alike n value.Undefined s t b =
      subst (λ vs. A (derived_given n s value.Undefined) (own_this t (slice_index_or vs n None))) (sym b.0.states.this_values) (this_alike (slice_index_or s.store.this_values n None) s t b)
  derived_alike n value.Null s t b = type_error s t b
  derived_alike n (value.Bool x) s t b = type_error s t b
  derived_alike n (value.Number x) s t b = type_error s t b
  derived_alike n (value.Text x) s t b = type_error s t b

  completed_alike : (n : ℕ) (v : CoreValue Mark) (s t : CoreState) → UU s t → A (resumed n s (Gives v)) (resumed n t (Gives v))
  completed_alike n (User v) s t b = results_alike core core2 owners seats v true (with_generator n Completed s) (with_generator n Completed t) (stand_generator owners seats s t n Completed Completed completed b.0, b.1)
  completed_alike n (Extra m) s t b = hands_here (Gives (Extra m)) (with_generator n Completed s) (with_generator n Completed t) (stand_generator owners seats s t n Completed Completed completed b.0, b.1)

  abbrev saved : List CoreStat → CoreState → Context Mark Own CoreWork
  saved stats s = saved_with (Work (Starts stats) ∷ []) s

  abbrev generator_with : List CoreStat → CoreState → ObjId → Heap → ℕ → CoreNext
  generator_with stats t proto h n =
      hands (Returns (User (value.Object (next_id h)))) (record t { heap = made_generator h proto n; store = record t.store { generators = t.store.generators ++ AtStart (saved stats t) ∷ [] } })

  stand_new : (body : List CoreStat) (s t : CoreState) (h : Heap) → Stand owners seats s t
      → Stand owners seats (record s { heap = h; store = record s.store { generators = s.store.generators ++ AtStart (saved body s) ∷ [] } })
      (record t { heap = h; store = record t.store { generators = t.store.generators ++ AtStart (saved (stats_flat owners body) t) ∷ [] } })
  stand_new body s t h x = record {
    states = record {
      heap = refl;
      memory = x.states.memory;
      closures = x.states.closures;
      callers = x.states.callers;
      ahead = x.states.ahead;
      this_values = x.states.this_values;
      generators = all_push (Generators owners seats) s.store.generators t.store.generators (AtStart (saved body s)) (AtStart (saved (stats_flat owners body) t)) x.states.generators
          (at_start (record { environment = x.environment; below = x.below; receiver = x.receiver; site = x.site; own = x.own; frames = starts_frame body none }));
      namespaces = x.states.namespaces;
      templates = x.states.templates;
      statics = x.states.statics;
    };
    environment = x.environment;
    below = x.below;
    receiver = x.receiver;
    site = x.site;
    own = x.own;
  }

  generator_alike : (body : List CoreStat) (v : Value) (s t : CoreState) → UU s t → A (generator_made body s v) (generator_made (stats_flat owners body) t v)
  generator_alike body (value.Object proto) s t b =
      let first : CoreNext = generator_made body s (value.Object proto) in
      let flat = stats_flat owners body in
      let h : Heap = made_generator s.heap proto (length s.store.generators) in
      let here : A first (generator_with flat t proto s.heap (length s.store.generators)) = (_, refl, at_same (Hand (Returns (User (value.Object (next_id s.heap))))) tt (stand_new body s t h b.0) b.1) in
      subst (λ heap. A first (generator_with flat t proto heap (length t.store.generators))) (sym b.0.states.heap)
      (subst (λ n. A first (generator_with flat t proto s.heap n)) (sym (all_length (Generators owners seats) s.store.generators t.store.generators b.0.states.generators)) here)
  generator_alike body value.Undefined s t b = tt
  generator_alike body value.Null s t b = tt
  generator_alike body (value.Bool x) s t b = tt
  generator_alike body (value.Number x) s t b = tt
  generator_alike body (value.Text x) s t b = tt

  -- ---- all of them

  abbrev Stood : Environment → Frames1 → Frames1 → CoreState → CoreState → Type 0
  Stood e fs gs s t = Stand owners seats (placed e fs s) (with_frames gs t)

  lowered : (e : Environment) (fs gs fs2 gs2 : Frames1) (s t : CoreState) → Stood e fs gs s t → Stood e fs2 gs2 s t
  lowered e fs gs fs2 gs2 s t x = record {
    states = record {
      heap = x.states.heap;
      memory = x.states.memory;
      closures = x.states.closures;
      callers = x.states.callers;
      ahead = x.states.ahead;
      this_values = x.states.this_values;
      generators = x.states.generators;
      namespaces = x.states.namespaces;
      templates = x.states.templates;
      statics = x.states.statics;
    };
    environment = x.environment;
    below = x.below;
    receiver = x.receiver;
    site = x.site;
    own = x.own;
  }

  plain_takes : (v : CoreValue Mark) (f : Frame Mark CoreWork) (s t : CoreState) → IsPlain f → UU s t → A (given (rows core) core v s f) (given (rows core2) core2 v t f)
  plain_takes v f s t is b = plain_given core core2 owners seats s t f v is b

  taken_by : (kinds : KindsAreKept core core2) (v : CoreValue Mark) (e : Environment) (fs gs : Frames1) (s t : CoreState) → TakesHere owners fs → Stood e fs gs s t → Frames owners seats e fs gs
      → A (hand (rows core) core (placed e fs s) (Gives v) fs) (hand (rows core2) core2 (with_frames gs t) (Gives v) gs)
  unfolding hand given work_given
  taken_by kinds v e fs gs s t takes stand none = absurd takes
  taken_by kinds v e fs gs s t takes stand (plain {e = e2} {fs = fs2} {gs = gs2} {f = f} is r) = plain_takes v f (placed e2 fs2 s) (with_frames gs2 t) is (lowered e2 fs gs fs2 gs2 s t stand, r)
  taken_by kinds v e fs gs s t takes stand (waits {e = e2} {fs = fs2} {gs = gs2} w ls r) =
      let o = opened owners (cell_along seats e2) ls in
      waits_given w v (record { links = ls; state = placed e2 fs2 s }) (record { links = o.links; state = with_frames (o.frames ++ gs2) t }) fs2 takes
      (lowered e2 fs gs fs2 (o.frames ++ gs2) s t stand, (gs2, r, refl), refl)
  taken_by kinds v e fs gs s t takes stand (waits_for_cell x l ls is r) = absurd (not_none (write_in owners (out-CoreLink l)) x is takes)
  taken_by kinds v e fs gs s t takes stand (part {e = e2} {fs = fs2} {gs = gs2} {c = c} p currents r) =
      let o = opened owners (cell_along seats e2) p.links in
      next_part kinds (record { links = p.links; state = placed e2 fs2 s }) (record { links = o.links; state = with_frames (o.frames ++ gs2) t }) p.op p.site p.current c (p.values ++ v ∷ []) p.parts currents takes
      (lowered e2 fs gs fs2 (o.frames ++ gs2) s t stand, (gs2, r, refl), refl)
  taken_by kinds v e fs gs s t takes stand (fetch {e = e2} {fs = fs2} {gs = gs2} base k p r) =
      let o = opened owners (cell_along seats e2) p.links in
      user_by v (placed e2 fs2 s) (with_frames (o.frames ++ gs2) t) (fetch_given (rows core) core base k p (placed e2 fs2 s)) (fetch_given (rows core2) core2 base k (part_flat owners p p.current o.links) (with_frames (o.frames ++ gs2) t))
      (λ w. next_part kinds (record { links = p.links; state = placed e2 fs2 s }) (record { links = o.links; state = with_frames (o.frames ++ gs2) t }) p.op p.site (fetched base k p.op w) (fetched base k p.op w) p.values p.parts (same_part refl) takes
      (lowered e2 fs gs fs2 (o.frames ++ gs2) s t stand, (gs2, r, refl), refl))
  taken_by kinds v e fs gs s t takes stand (rest {e = e2} {e2 = e3} {fs = fs2} {fs2 = fs3} {gs = gs2} {ys = ys} xs tail r) =
      (_, refl, at_statements xs (lowered e2 fs gs fs2 gs2 s t stand) (e3, fs3, tail, r))
  taken_by kinds v e fs gs s t takes stand (choice {e = e2} {fs = fs2} {gs = gs2} body cases r) = stat_given core core2 owners seats (placed e2 fs2 s) (with_frames gs2 t) (Choice body cases) (Choice (stats_flat owners body) (map (case_flat owners) cases)) v (of_choice body cases) (lowered e2 fs gs fs2 gs2 s t stand, r)
  taken_by kinds v e fs gs s t takes stand (subject {e = e2} {fs = fs2} {gs = gs2} cases r) =
      user_by v (placed e2 fs2 s) (with_frames gs2 t) (λ w. match_next w cases cases (placed e2 fs2 s)) (λ w. match_next w (map (case_flat owners) cases) (map (case_flat owners) cases) (with_frames gs2 t))
      (λ w. match_alike (placed e2 fs2 s) (with_frames gs2 t) w cases cases (lowered e2 fs gs fs2 gs2 s t stand, r))
  taken_by kinds v e fs gs s t takes stand (matching {e = e2} {fs = fs2} {gs = gs2} w cases all r) =
      user_by v (placed e2 fs2 s) (with_frames gs2 t) (matched w cases all (placed e2 fs2 s)) (matched w (map (case_flat owners) cases) (map (case_flat owners) all) (with_frames gs2 t))
      (λ x. matched_alike (placed e2 fs2 s) (with_frames gs2 t) w x cases all (lowered e2 fs gs fs2 gs2 s t stand, r))
  taken_by kinds v e fs gs s t takes stand (loop_test {e = e2} {fs = fs2} {gs = gs2} l r) = stat_given core core2 owners seats (placed e2 fs2 s) (with_frames gs2 t) (LoopTest l) (LoopTest (loop_flat owners l)) v (of_test l) (lowered e2 fs gs fs2 gs2 s t stand, r)
  taken_by kinds v e fs gs s t takes stand (loop_body l r) = tt
  taken_by kinds v e fs gs s t takes stand (loop_update {e = e2} {fs = fs2} {gs = gs2} l r) = stat_given core core2 owners seats (placed e2 fs2 s) (with_frames gs2 t) (LoopUpdate l) (LoopUpdate (loop_flat owners l)) v (of_update l) (lowered e2 fs gs fs2 gs2 s t stand, r)
  taken_by kinds v e fs gs s t takes stand (target label r) = tt
  taken_by kinds v e fs gs s t takes stand (returning {e = e2} {fs = fs2} {gs = gs2} r) = stat_given core core2 owners seats (placed e2 fs2 s) (with_frames gs2 t) Returning Returning v of_return (lowered e2 fs gs fs2 gs2 s t stand, r)
  taken_by kinds v e fs gs s t takes stand (throwing {e = e2} {fs = fs2} {gs = gs2} r) = stat_given core core2 owners seats (placed e2 fs2 s) (with_frames gs2 t) Throwing Throwing v of_throw (lowered e2 fs gs fs2 gs2 s t stand, r)
  taken_by kinds v e fs gs s t takes stand (catching x names handler r) = tt
  taken_by kinds v e fs gs s t takes stand (finishing last r) = tt
  taken_by kinds v e fs gs s t takes stand (pending c r) = tt
  taken_by kinds v e fs gs s t takes stand (restore away r) = tt
  taken_by kinds v e fs gs s t takes stand (derived {e = e2} {fs = fs2} {gs = gs2} n r) = user_by v (placed e2 fs2 s) (with_frames gs2 t) (λ w. derived_given n (placed e2 fs2 s) w) (λ w. derived_given n (with_frames gs2 t) w) (λ w. derived_alike n w (placed e2 fs2 s) (with_frames gs2 t) (lowered e2 fs gs fs2 gs2 s t stand, r))
  taken_by kinds v e fs gs s t takes stand (instantiates body r) = tt
  taken_by kinds v e fs gs s t takes stand (prototype {e = e2} {fs = fs2} {gs = gs2} body r) = user_by v (placed e2 fs2 s) (with_frames gs2 t) (generator_made body (placed e2 fs2 s)) (generator_made (stats_flat owners body) (with_frames gs2 t)) (λ w. generator_alike body w (placed e2 fs2 s) (with_frames gs2 t) (lowered e2 fs gs fs2 gs2 s t stand, r))
  taken_by kinds v e fs gs s t takes stand (starts_frame {e = e2} {fs = fs2} {gs = gs2} body r) = (_, refl, run_at core core2 owners seats (placed e2 fs2 s) (with_frames gs2 t) body (lowered e2 fs gs fs2 gs2 s t stand) r)
  taken_by kinds v e fs gs s t takes stand (resumes {e = e2} {fs = fs2} {gs = gs2} n r) = completed_alike n v (placed e2 fs2 s) (with_frames gs2 t) (lowered e2 fs gs fs2 gs2 s t stand, r)

pub values_taken : ValuesAreTakenAlike
unfolding step
values_taken core core2 owners seats v s t kinds takes stand r = taken_by core core2 owners seats kinds v s.context.environment s.context.frames t.context.frames s t takes stand r
