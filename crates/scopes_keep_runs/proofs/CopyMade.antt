-- A copy of the innermost record leaves code where it may stand, with the new record, and what is left to declare.
use Rattle.std.proofs.Common.{◌≡◌, ◌⊎◌, ◌≤◌, ◌<◌, inl, inr, ℕ, suc, Bool, true, false, ◌&&◌, ◌||◌, List, [], ◌∷◌, ◌++◌, get_or, map, Option, None, Some, length, nat_eq, nat_lt, slice_get, refl, sym, ap, arith, subst, ◌∙◌}
use Rattle.std.specs.Prelude.{if◌then◌else◌}
use Rattle.std.proofs.lemmas.Bool.{and_parts, eq-eqb, eqb-true}
use Rattle.runs.specs.Run.{Goes}
use Rattle.es_value.specs.declared.value.Value.TheVariants as value
use Rattle.core_ast.specs.declared.parts.CoreHead.TheVariants as head
use Rattle.core_ast.specs.declared.parts.FunctionId.{FunctionId}
use Rattle.core_ast.specs.declared.parts.ScopedName.{ScopedName}
use Rattle.core_ast.specs.declared.parts.Var.{Var}
use Rattle.core_ast.specs.declared.tree.CoreExpr.{CoreExpr, fold_out-CoreExpr, out-CoreExpr}
use Rattle.core_ast.specs.declared.tree.CoreLink.{CoreLink}
use Rattle.core_ast.specs.declared.tree.CoreStat.{CoreStat}
use Rattle.core_ast.specs.declared.whole.Core.{Core}
use Rattle.core_meaning.specs.Cells.{innermost, outer}
use Rattle.core_meaning.specs.Marks.{CoreState, CoreWork, Mark, Own}
use Rattle.core_meaning.specs.Modules.{core_step}
use Rattle.core_meaning.specs.Names.{record_at}
use Rattle.core_meaning.specs.Rows.{with_control}
use Rattle.core_meaning.specs.State.{Begin, Closure, Environment, Frame, Go, Has, LoopUpdate, Rest, Restore, User}
use Rattle.pass_rules.specs.Cells.{is_among, is_shared}
use Rattle.pass_rules.specs.Scopes.{vars}
use Rattle.pass_rules.proofs.pass_laws.Related.{in_expr}
use Rattle.cells_keep_runs.specs.Alike.{Config}
use Rattle.cells_keep_runs.specs.Callings.{outer_for}
use Rattle.cells_keep_runs.specs.Copied.{InScope, copied_seats, copy_renewals, content_in}
use Rattle.cells_keep_runs.specs.Counted.{AllFits, NextFits, bottom, counted, in_frames, with_control as with_code}
use Rattle.cells_keep_runs.specs.Declares.{declares}
use Rattle.cells_keep_runs.specs.Entering.{StateEndsBelow, entered, is_this}
use Rattle.cells_keep_runs.specs.Fitting.{Naming, any_shapes, fit_standing}
use Rattle.cells_keep_runs.specs.Floors.{AllOf, Anew, Copying, Everywhere, FramesAt, HeadAnew, NextAt, Placed, Standing, copied_inner, names_in}
use Rattle.cells_keep_runs.specs.Found.{Bound, first_at, names_of}
use Rattle.cells_keep_runs.specs.MayBeFlattened.{Round, copy_may, each, expr_may, expr_step, head_may, case_step, link_may, link_step, stat_step, Test}
use Rattle.cells_keep_runs.specs.Memory.{Keeps, Seat, Seats, is_scoped}
use Rattle.cells_keep_runs.specs.Places.{Below}
use Rattle.cells_keep_runs.specs.Recounted.{AllHave}
use Rattle.cells_keep_runs.specs.Related.{Related}
use Rattle.cells_keep_runs.specs.Renewed.{scope_seat}
use Rattle.cells_keep_runs.specs.Rounds.{InnermostAt, IsTail, ScopeAt, activation_at, grouped, grouped_in, home_in, once}
use Rattle.cells_keep_runs.specs.Seen.{target_at}
use Rattle.cells_keep_runs.specs.Standings.{Around, IsNew, Known, StaysAt}
use Rattle.cells_keep_runs.proofs.Anew.{floors_stay}
use Rattle.cells_keep_runs.proofs.Both.{both}
use Rattle.cells_keep_runs.proofs.Copied.{copied_at, copies_step}
use Rattle.cells_keep_runs.proofs.Declares.{declares_measures}
use Rattle.cells_keep_runs.proofs.GoingOn.{Exactly, OneOf, bound_in, with_shapes}
use Rattle.cells_keep_runs.proofs.Grown.{below_cons, below_here, below_more, below_rest}
use Rattle.cells_keep_runs.proofs.Recounted.{records_counted}
use Rattle.cells_keep_runs.proofs.Renewed.{got_last, still_got}
use Rattle.cells_keep_runs.proofs.RoundParts.{LinkRound, StatRound}
use Rattle.cells_keep_runs.proofs.Rounds.{home_stays}
use Rattle.cells_keep_runs.proofs.StateMoved.{AllOk}
use Rattle.cells_keep_runs.proofs.Writes.{differ, one_value}
use Rattle.scopes_keep_runs.specs.Counts.{AllCounts, CountsOf, Single, ahead_least, declared_in, left_in, limit_with}
use Rattle.scopes_keep_runs.specs.Instance.{LeadsOn}
use Rattle.scopes_keep_runs.proofs.CopiesRound.{often, parts, round_copied}
use Rattle.scopes_keep_runs.proofs.EnteredCode.{longer}
use Rattle.scopes_keep_runs.proofs.Instance.{names_on}
use Rattle.scopes_keep_runs.proofs.Lifted.{beside_moves, names_more}
use Rattle.scopes_keep_runs.proofs.Limits.{Elsewhere, entered_at, entered_more, entered_same, one_more, others_elsewhere}
use Rattle.scopes_keep_runs.proofs.Mixed.{Mixed, mixed, mixed_moves, mixed_placed, plain_again}
use Rattle.scopes_keep_runs.proofs.Moving.{everywhere_moved}
use Rattle.scopes_keep_runs.proofs.NamesOn.{made_on}
use Rattle.scopes_keep_runs.proofs.Small.{home_more, left_most, round_fold, same_length, tail_self}
use Rattle.scopes_keep_runs.proofs.Stay.{bottom_tail, closures_below, contexts_ok, ends_below, generators_ok, outer_is, same_activation, standing_at, states_of}

abbrev head_of : Environment → ℕ
head_of [] = 0
head_of (n ∷ e) = n

-- no environment is a part of itself
size_left : (e o : Environment) → IsTail e o → length e ≤ length o
size_left e [] is = subst (λ a. length a ≤ 0) (sym is) (omega arith)
size_left e (m ∷ o) (inl is) = subst (λ a. length a ≤ length (m ∷ o)) (sym is) (omega arith)
size_left e (m ∷ o) (inr further) = let h : length e ≤ length o = size_left e o further in omega arith

tail_of : (a b : Environment) → a ≡ b → IsTail a b
tail_of a b is = subst (λ c. IsTail c b) (sym is) (tail_self b)

tail_back : (e present p : Environment) (n : ℕ) → e ≡ n ∷ p → IsTail e present → IsTail p present
tail_back e [] p n is tail = cc
tail_back e (m ∷ o) p n is (inl here) = let same : p ≡ o = cc in inr (tail_of p o same)
tail_back e (m ∷ o) p n is (inr further) = inr (tail_back e o p n is further)

module _ (core : Core) (k : Known) (ends : Environment) (nm : Naming) (captured : (f : FunctionId) (x : Var) → is_among x (outer_for k.whole f.0) ≡ true → is_among x k.whole.captured ≡ true)
    (table : (f : FunctionId) (x : Var) → is_among x (get_or k.whole.kept f.0 []) ≡ true → is_among x (k.kept f) ≡ true) (fit_placed : Placed core (fit_standing core nm))
    (fresh : Var) (fresh_single : Single core fresh)
    (seats : Seats) (s : CoreState) (t : Config) (x : CoreExpr) (xs : List Var) (n : ℕ) (o : Environment) (seat : Seat) (j : ℕ) (head_is : (out-CoreExpr x).head ≡ head.Copy xs) (env : s.context.environment ≡ n ∷ o)
    (seated : slice_get seats n ≡ Some seat) (in_scope : InScope s.context.frames) (related : Related k.whole.owners seats (with_control (Begin x) s) t) (long : length seats ≡ length s.records)
    (all : Everywhere (standing_at core k ends nm seats (names_of s.records) (Exactly (names_of s.records))) (with_control (Begin x) s)) (counts : AllCounts core k.whole seats (with_control (Begin x) s)) where
  abbrev bound : Bound
  bound = names_of s.records

  abbrev bound2 : Bound
  bound2 = bound ++ names_in (record_at s.records n) ∷ []

  abbrev before : Config
  before = with_control (Begin x) s

  abbrev behind : Config
  behind = with_control (Go (Has (User value.Undefined)) (out-CoreExpr x).links)
      (record s { records = s.records ++ record_at s.records n ∷ []; context = record s.context { environment = length s.records ∷ o } })

  abbrev new : Seat
  new = scope_seat seat.home seat.scoped j (copy_renewals k.whole.owners (content_in (record_at s.records n)) xs)

  abbrev seats2 : Seats
  seats2 = seats ++ new ∷ []

  abbrev act : ℕ
  act = grouped k.whole seat.home

  -- ---- what is round the copy

  abbrev r : Round
  r = all.1.0.0

  around : Around k seats bound (n ∷ o) r
  around = subst (λ e. Around k seats bound e r) env all.1.0.2

  expr_out : expr_may k.whole x r ≡ expr_step k.whole (in_expr (round_fold k.whole) (out-CoreExpr x)) r
  expr_out = ap (λ f. f r) (fold_out-CoreExpr Test Test Test Test (link_step k.whole) (stat_step k.whole) (case_step k.whole) (expr_step k.whole) x)

  copy_is : copy_may k.whole xs r.innermost ≡ true
  copy_is =
      let both = and_parts (head_may k.whole (out-CoreExpr x).head r) (each (map (link_may k.whole) (out-CoreExpr x).links) r) (sym expr_out ∙ all.1.0.1) in
      subst (λ h. head_may k.whole h r ≡ true) head_is both.0

  some_inner : (i : Option (List ScopedName)) → r.innermost ≡ i → copy_may k.whole xs i ≡ true → (names : List ScopedName) × (r.innermost ≡ Some names) × (copy_may k.whole xs (Some names) ≡ true)
  some_inner None is may = cc
  some_inner (Some names) is may = (names, is, may)

  inner_scope : (names : List ScopedName) × (r.innermost ≡ Some names) × (copy_may k.whole xs (Some names) ≡ true)
  inner_scope = some_inner r.innermost refl copy_is

  abbrev names : List ScopedName
  names = inner_scope.0

  scope : ScopeAt seats bound (n ∷ o) r.here (vars names)
  scope = subst (λ i. InnermostAt seats bound (n ∷ o) r.here i) inner_scope.1 around.innermost

  seat_is : scope.seat ≡ seat
  seat_is =
      let number : scope.number ≡ n = ap (λ e. head_of e) (sym scope.is) in
      one_value (slice_get seats n) scope.seat seat (subst (λ i. slice_get seats i ≡ Some scope.seat) number scope.seated) seated

  scoped_is : seat.scoped ≡ vars names
  scoped_is = ap (λ z. z.scoped) (sym seat_is) ∙ scope.scoped

  below : Below (length seats) (n ∷ o)
  below = subst (λ e. Below (length seats) e) env all.0.2.inside.0

  below_o : Below (length seats) o
  below_o = below_rest (length seats) n o below

  bound_long : length seats ≡ length bound
  bound_long = long ∙ sym (same_length s.records)

  act_is : activation_at k.whole seats (n ∷ o) ≡ Some act
  act_is = ap (λ q. grouped_in k.whole (home_in q)) seated

  -- no closure keeps a cell of its names that the target finds
  unkept : (y : Var) (q i c : ℕ) → is_among y (vars names) ≡ true → Keeps seats q i y c → target_at seats (n ∷ o) y ≡ Some i → ⊥
  unkept y q i c among keeps target =
      let home : i ≡ scope.seat.home = one_value (target_at seats (n ∷ o) y) i scope.seat.home target (scope.found y among) in
      let number : scope.number ≡ n = ap (λ e. head_of e) (sym scope.is) in
      let got : slice_get seats n ≡ Some scope.seat = subst (λ z. slice_get seats z ≡ Some scope.seat) number scope.seated in
      let none : is_scoped scope.seat y ≡ false = (states_of k.whole.owners seats before t related).memory.kept_apart q i c n y scope.seat keeps got (sym home) in
      differ (is_among y (vars names)) among (ap (λ ys. is_among y ys) (sym scope.scoped) ∙ none)

  round_at : (r2 : Round) → Around k seats bound (n ∷ o) r2 → Around k seats2 bound2 (length seats ∷ o) r2
  round_at r2 at =
      let copied : Around k (copied_seats k.whole.owners seats scope.seat (record_at s.records n) xs j) bound2 (length seats ∷ o) r2 =
      round_copied k.whole k.kept k.declarer seats s.records n o names xs j r.here scope inner_scope.2 below_o long unkept r2 at in
      subst (λ z. Around k (copied_seats k.whole.owners seats z (record_at s.records n) xs j) bound2 (length seats ∷ o) r2) seat_is copied

  -- ---- what is further out

  scope_leads : (under : Environment → Type 0) (e : Environment) (fs : List (Frame Mark CoreWork)) → FramesAt (standing_at core k ends nm seats bound (Exactly bound)) under e fs → InScope fs
      → (p : Environment) × LeadsOn k seats bound e p × IsTail (bottom e fs) p
  scope_leads under e (Rest ys ∷ Restore p ∷ fs) (rest, ((free, (leads, fit)), frames)) inside = (p, leads, bottom_tail core k ends nm seats bound (Exactly bound) under p fs frames)
  scope_leads under e (LoopUpdate l ∷ fs) (at, frames) inside = scope_leads under e fs frames inside
  scope_leads under e fs at inside = absurd inside

  out_of : (p : Environment) × LeadsOn k seats bound s.context.environment p × IsTail (bottom s.context.environment s.context.frames) p
  out_of = scope_leads _ s.context.environment s.context.frames all.0.0 in_scope

  out_is : out_of.0 ≡ o
  out_is = let at : out_of.1.0.0 ∷ out_of.0 ≡ n ∷ o = sym out_of.1.0.1 ∙ env in cc

  bottom_out : IsTail (bottom s.context.environment s.context.frames) o
  bottom_out = subst (λ p. IsTail (bottom s.context.environment s.context.frames) p) out_is out_of.2

  number_out : out_of.1.0.0 ≡ n
  number_out = let at : out_of.1.0.0 ∷ out_of.0 ≡ n ∷ o = sym out_of.1.0.1 ∙ env in cc

  unbound : (y : Var) → is_scoped new y ≡ true → first_at bound o y ≡ None
  unbound y scoped =
      subst (λ p. first_at bound p y ≡ None) out_is
      (out_of.1.1 n seat y (env ∙ ap (λ p. n ∷ p) (sym out_is)) seated scoped)

  is_new : IsNew k seats bound new o
  is_new = record {
    unbound = unbound;
    first = λ y i here unshared comes got scoped home. never (is_scoped new y) y refl unshared comes;
  }
    where
      never : (b : Bool) (y : Var) → is_scoped new y ≡ b → is_shared k.whole.owners y ≡ false → once k.whole y ≡ true → b ≡ false
      never false y is unshared comes = refl
      never true y is unshared comes =
          by_often (often k.whole (vars names) y (parts k.whole k.kept k.declarer seats s.records n o names xs j r.here scope inner_scope.2 below_o long unkept).2 (ap (λ ys. is_among y ys) (sym scoped_is) ∙ is))
        where
          by_often : (is_shared k.whole.owners y ≡ true) ⊎ (once k.whole y ≡ false) → true ≡ false
          by_often (inl shared) = absurd (differ (is_shared k.whole.owners y) shared unshared)
          by_often (inr never_once) = absurd (differ (once k.whole y) comes never_once)

  -- ---- the step

  step_is : core_step core before ≡ Goes behind
  step_is = copies_step core x xs s head_is ∙ ap (λ u. Goes (with_control (Go (Has (User value.Undefined)) (out-CoreExpr x).links) u)) (copied_at s n o env)

  -- ---- what is left to declare

  act_there : activation_at k.whole seats (bottom s.context.environment s.context.frames) ≡ Some act
  act_there = same_activation core k ends nm seats bound (Exactly bound) _ s.context.environment s.context.frames all.0.0 ∙ ap (λ e. activation_at k.whole seats e) env ∙ act_is

  ends_there : StateEndsBelow (length seats) s
  ends_there = ends_below core k ends nm seats bound (Exactly bound) s all.0

  others : Elsewhere k.whole seats act s
  others =
      let m = declared_in fresh s.ahead in
      let lim = limit_with k.whole seats fresh m act in
      let mine : counted lim s.context ≡ 1 = ap (λ q. if is_this q act then 1 else 0) act_there ∙ ap (λ b. if b then 1 else 0) (eq-eqb act act refl) in
      let least : 1 ≤ counted lim s.context = omega arith in
      others_elsewhere k.whole seats (left_in k.whole seats fresh m) act (declares fresh) (counted lim s.context) s least ((counts.names fresh fresh_single).fits act).0

  -- the new record has names that were there
  entered_there : (y : Var) (a : ℕ) → entered k.whole seats2 a y ≡ entered k.whole seats a y
  entered_there y a = by_value (nat_eq act a && is_scoped new y) refl
    where
      by_value : (b : Bool) → nat_eq act a && is_scoped new y ≡ b → entered k.whole seats2 a y ≡ entered k.whole seats a y
      by_value false is = entered_same k.whole seats new a y is
      by_value true is =
          let both = and_parts (nat_eq act a) (is_scoped new y) is in
          let was : entered k.whole seats a y ≡ true = entered_at k.whole seats a y n seat seated (eqb-true act a both.0) both.1 in
          entered_more k.whole seats new a y ∙ ap (λ b. b || ((nat_eq act a && is_scoped new y) || false)) was ∙ sym was

  left_same : (y : Var) (m : ℕ) (q : Option ℕ) → left_in k.whole seats2 y m q ≡ left_in k.whole seats y m q
  left_same y m None = refl
  left_same y m (Some a) = ap (λ b. if b || (nat_lt a k.whole.modules && nat_lt 0 m) then 0 else 1) (entered_there y a)

  activation_there : (e : Environment) → Below (length seats) e → activation_at k.whole seats2 e ≡ activation_at k.whole seats e
  activation_there e h = ap (λ q. grouped_in k.whole q) (home_stays seats new e h)

  fits_before : (y : Var) → Single core y → (a : ℕ) → AllFits (declares y) (limit_with k.whole seats2 y (declared_in y s.ahead) a) before
  fits_before y one a =
      let m = declared_in y s.ahead in
      let now : AllFits (declares y) (limit_with k.whole seats y m a) before = (counts.names y one).fits a in
      let end_of = bottom s.context.environment s.context.frames in
      let code = with_code (declares y) (Begin x) (in_frames (declares y) s.context.frames) in
      let h : code ≤ left_in k.whole seats y m (activation_at k.whole seats end_of) = now.1 in
      let same : left_in k.whole seats2 y m (activation_at k.whole seats2 end_of) ≡ left_in k.whole seats y m (activation_at k.whole seats end_of) =
      ap (λ q. left_in k.whole seats2 y m q) (activation_there end_of ends_there.0) ∙ left_same y m (activation_at k.whole seats end_of) in
      let has : AllHave (declares y) (limit_with k.whole seats y m a) 0 before = (now.0, omega arith) in
      one_more k.whole (declares y) seats new (left_in k.whole seats y m) (left_in k.whole seats2 y m) a
      (λ q other. (let z : left_in k.whole seats2 y m q ≡ left_in k.whole seats y m q = left_same y m q in omega arith)) before 0 ends_there others (omega arith) has

  counts_of : (y : Var) → Single core y → CountsOf k.whole seats2 y behind
  counts_of y one =
      let m = declared_in y s.ahead in
      let least : ahead_least k.whole seats2 y ≡ ahead_least k.whole seats y = ap (λ b. if nat_lt 0 k.whole.modules && b then 0 else 1) (entered_there y 0) in
      record {
        ahead = subst (λ z. m ≤ z) (sym least) (counts.names y one).ahead;
        fits = λ a. (
            let lim = limit_with k.whole seats2 y m a in
            let uses = records_counted (declares y) lim (declares_measures y) (left_most k.whole seats2 y m a) in
            subst (λ z. NextFits (declares y) lim z) step_is (uses.copies core s x xs n o head_is env in_scope (fits_before y one a)));
      }

  -- ---- where code stands: along the present environment as it did

  abbrev K1 : Standing
  K1 = standing_at core k ends nm seats bound (Exactly bound)

  abbrev Around2 : Environment → Round → Type 0
  Around2 = Mixed core k ends nm captured table fit_placed seats bound new (names_in (record_at s.records n)) n o below bound_long is_new

  abbrev M : Standing
  M = mixed core k ends nm captured table fit_placed seats bound new (names_in (record_at s.records n)) n o below bound_long is_new

  abbrev KM : Standing
  KM = with_shapes (both M (fit_standing core nm)) (OneOf bound bound2)

  abbrev K2 : Standing
  K2 = with_shapes (both (names_on k ends seats2 bound2 any_shapes nm.fixed) (fit_standing core nm)) (Exactly bound2)

  abbrev Near : Environment → Type 0
  Near e = (e ≡ n ∷ o) ⊎ StaysAt k seats new o e

  ends_near : Near ends
  ends_near = by_case (outer_is core k ends nm seats bound (Exactly bound) act s all.0 others)
    where
      by_case : Below (length seats) ends × ((bottom s.context.environment s.context.frames ≡ ends) ⊎ (activation_at k.whole seats ends ≡ Some act → ⊥)) → Near ends
      by_case (h, inl is) = inr (record { below = h; apart = inl (subst (λ b. IsTail b o) is bottom_out) })
      by_case (h, inr other) = inr (record { below = h; apart = inr other })

  near_all : AllOk Near (λ (e : Environment). Below (length seats) e) before
  near_all = record {
    present = inl env;
    callers = contexts_ok core k ends nm seats bound (Exactly bound) new o Near (λ e at. inr at) s.callers all.0.1 others.0;
    generators = generators_ok core k ends nm seats bound (Exactly bound) new o Near (λ e at. inr at) s.store.generators all.0.2.generators_at others.1;
    closures = closures_below k.whole.owners seats s.closures t.state.closures (states_of k.whole.owners seats before t related).closures;
  }

  moved : Everywhere KM before
  moved =
      everywhere_moved K1 KM Near (λ e. Below (length seats) e)
      (record {
        code = beside_moves (names_on k ends seats bound any_shapes nm.fixed) M (fit_standing core nm) (Exactly bound) (OneOf bound bound2) Near
            (mixed_moves core k ends nm captured table fit_placed seats bound new (names_in (record_at s.records n)) n o below bound_long is_new);
        makes = λ e f made at. (made_on k ends seats bound new (names_in (record_at s.records n)) o any_shapes any_shapes nm.fixed bound_long is_new e f made at.0, at.1);
        outermost = λ e ok at. at;
        bodies = λ e at. (at, subst (λ z. Near z) (sym at.0) ends_near);
        fixed = λ y free. free;
      }) before near_all (inl refl) all

  -- ---- along the copy

  inner_is : length seats ∷ o ≡ copied_inner s
  inner_is = ap (λ i. i ∷ o) long ∙ ap (λ e. length s.records ∷ outer e) (sym env)

  less_n : n < length seats
  less_n = below_here (length seats) n o below

  not_present : copied_inner s ≡ n ∷ o → ⊥
  not_present is =
      let both : length seats ∷ o ≡ n ∷ o = inner_is ∙ is in
      let heads : length seats ≡ n = cc in
      let h = less_n in
      absurd (omega arith)

  around_copy : (r2 : Round) → Around2 s.context.environment r2 → Around2 (copied_inner s) r2
  around_copy r2 (here, there) =
      let at : Around k seats bound (n ∷ o) r2 = subst (λ e. Around k seats bound e r2) env (here env) in
      (λ is. absurd (not_present is), λ other. subst (λ e. Around k seats2 bound2 e r2) inner_is (round_at r2 at))

  stats_copy : (ys : List CoreStat) → AllOf (StatRound k.whole Around2 s.context.environment) ys → AllOf (StatRound k.whole Around2 (copied_inner s)) ys
  stats_copy [] at = tt
  stats_copy (y ∷ ys) ((r2, may, at), rest) = ((r2, may, around_copy r2 at), stats_copy ys rest)

  links_copy : (ls : List CoreLink) → AllOf (LinkRound k.whole Around2 s.context.environment) ls → AllOf (LinkRound k.whole Around2 (copied_inner s)) ls
  links_copy [] at = tt
  links_copy (l ∷ ls) ((r2, may, at), rest) = ((r2, may, around_copy r2 at), links_copy ls rest)

  inside_copy : Below (length seats2) (copied_inner s)
  inside_copy =
      let more : length seats2 ≡ suc (length seats) = longer seats new in
      let less : length seats < length seats2 = omega arith in
      let least : length seats ≤ length seats2 = omega arith in
      subst (λ e. Below (length seats2) e) inner_is (below_cons (length seats2) (length seats) o less (below_more (length seats) (length seats2) o least below_o))

  act_copy : activation_at k.whole seats2 (copied_inner s) ≡ Some act
  act_copy = subst (λ e. activation_at k.whole seats2 e ≡ Some act) inner_is (ap (λ q. grouped_in k.whole (home_in q)) (got_last seats new))

  leads_copy : (p : Environment) → LeadsOn k seats2 bound2 s.context.environment p → LeadsOn k seats2 bound2 (copied_inner s) p
  leads_copy p ((i, is, same), free) =
      let at : i ∷ p ≡ n ∷ o = sym is ∙ env in
      let rest : p ≡ o = cc in
      let here : activation_at k.whole seats2 s.context.environment ≡ Some act = ap (λ e. activation_at k.whole seats2 e) env ∙ activation_there (n ∷ o) below ∙ act_is in
      ((length seats, sym inner_is ∙ ap (λ q. length seats ∷ q) (sym rest), act_copy ∙ sym here ∙ same), λ m z y is2 got scoped. free_by m z y is2 got scoped rest)
    where
      free_by : (m : ℕ) (z : Seat) (y : Var) → copied_inner s ≡ m ∷ p → slice_get seats2 m ≡ Some z → is_scoped z y ≡ true → p ≡ o → first_at bound2 p y ≡ None
      free_by m z y is2 got scoped rest =
          let both : length seats ∷ o ≡ m ∷ p = inner_is ∙ is2 in
          let number : length seats ≡ m = cc in
          let seat2 : z ≡ new = one_value (slice_get seats2 m) z new got (subst (λ a. slice_get seats2 a ≡ Some new) number (got_last seats new)) in
          free n seat y (env ∙ ap (λ q. n ∷ q) (sym rest)) (still_got seats new n seat seated) (subst (λ w. is_scoped w y ≡ true) seat2 scoped)

  names_copied : names_in (innermost s s.context.environment) ≡ names_in (record_at s.records n)
  names_copied = ap (λ e. names_in (innermost s e)) env

  copying : Copying KM s
  copying = record {
    stats = λ own ys at. (stats_copy ys at.0, at.1);
    expr = λ w in_s y at. ((at.0.0, at.0.1, around_copy at.0.0 at.0.2), at.1);
    links = λ w ls at. (links_copy ls at.0, at.1);
    inside = (inside_copy, tt);
    leads = λ p at. (leads_copy p at.0, at.1);
    more = inr (ap (λ ys. map names_in s.records ++ ys ∷ []) names_copied);
  }

  anew : Anew core KM s (Begin x)
  anew = subst (λ h. HeadAnew KM s h) (sym head_is) copying

  stands_mixed : Everywhere KM behind
  stands_mixed =
      subst (λ z. NextAt KM z) step_is
      (floors_stay core KM (mixed_placed core k ends nm captured table fit_placed seats bound new (names_in (record_at s.records n)) n o below bound_long is_new (OneOf bound bound2)) before anew moved)

  -- ---- no code stands along the old environment then

  abbrev Far : Environment → Type 0
  Far e = IsTail e (length seats ∷ o) ⊎ (activation_at k.whole seats2 e ≡ Some act → ⊥)

  far_apart : (e : Environment) → Far e → e ≡ n ∷ o → ⊥
  far_apart e (inl (inl is)) here =
      let both : length seats ∷ o ≡ n ∷ o = sym is ∙ here in
      let heads : length seats ≡ n = cc in
      let h = less_n in
      absurd (omega arith)
  far_apart e (inl (inr further)) here =
      let h : length e ≤ length o = size_left e o further in
      let g : length e ≡ suc (length o) = ap (λ a. length a) here in
      absurd (omega arith)
  far_apart e (inr other) here = other (ap (λ a. activation_at k.whole seats2 a) here ∙ activation_there (n ∷ o) below ∙ act_is)

  far_back : (e p : Environment) → LeadsOn k seats2 bound2 e p → Far e → Far p
  far_back e p ((i, is, same), free) (inl tail) = inl (tail_back e (length seats ∷ o) p i is tail)
  far_back e p ((i, is, same), free) (inr other) = inr (λ here. other (same ∙ here))

  far_of : (e : Environment) → StaysAt k seats new o e → Far e
  far_of e at = by_case at.apart
    where
      by_case : IsTail e o ⊎ (activation_at k.whole seats e ≡ Some (grouped k.whole new.home) → ⊥) → Far e
      by_case (inl tail) = inl (inr tail)
      by_case (inr other) = inr (λ here. other (sym (activation_there e at.below) ∙ here))

  ends_far : Far ends
  ends_far = by_case (outer_is core k ends nm seats bound (Exactly bound) act s all.0 others)
    where
      by_case : Below (length seats) ends × ((bottom s.context.environment s.context.frames ≡ ends) ⊎ (activation_at k.whole seats ends ≡ Some act → ⊥)) → Far ends
      by_case (h, inl is) = inl (inr (subst (λ b. IsTail b o) is bottom_out))
      by_case (h, inr other) = inr (λ here. other (sym (activation_there ends h) ∙ here))

  all_unit : (cs : List (Closure Own)) → AllOf (λ (c : Closure Own). Unit {0}) cs
  all_unit [] = tt
  all_unit (c ∷ cs) = (tt, all_unit cs)

  far_all : AllOk Far (λ (e : Environment). Unit {0}) behind
  far_all = record {
    present = inl (tail_of (length s.records ∷ o) (length seats ∷ o) (ap (λ i. i ∷ o) (sym long)));
    callers = contexts_ok core k ends nm seats bound (Exactly bound) new o Far far_of s.callers all.0.1 others.0;
    generators = generators_ok core k ends nm seats bound (Exactly bound) new o Far far_of s.store.generators all.0.2.generators_at others.1;
    closures = all_unit s.closures;
  }

  names_there : bound_in behind ≡ bound2
  names_there = names_more s.records (record_at s.records n) (names_in (record_at s.records n)) refl

  exact : Everywhere K2 behind
  exact =
      everywhere_moved KM K2 Far (λ e. Unit {0})
      (record {
        code = beside_moves M (names_on k ends seats2 bound2 any_shapes nm.fixed) (fit_standing core nm) (OneOf bound bound2) (Exactly bound2) Far
            (plain_again core k ends nm captured table fit_placed seats bound new (names_in (record_at s.records n)) n o below bound_long is_new Far far_apart far_back);
        makes = λ e f made at. at;
        outermost = λ e ok at. at;
        bodies = λ e at. (at, subst (λ z. Far z) (sym at.0) ends_far);
        fixed = λ y free. free;
      }) behind far_all names_there stands_mixed

  -- ---- behind the copy

  pub copy_stands : Everywhere (standing_at core k ends nm seats2 (bound_in behind) (Exactly (bound_in behind))) behind
  copy_stands = subst (λ b. Everywhere (standing_at core k ends nm seats2 b (Exactly b)) behind) (sym names_there) exact

  pub copy_counts : AllCounts core k.whole seats2 behind
  copy_counts = record { names = counts_of; homes = λ h less. home_more seats new h (counts.homes h less) }

  pub copy_step : core_step core before ≡ Goes behind
  copy_step = step_is
