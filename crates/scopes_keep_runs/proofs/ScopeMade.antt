-- A scope that is entered leaves code where it may stand, with its record more, and what is left to declare.
use Rattle.std.proofs.Common.{◌≡◌, ◌||◌, inl, ℕ, Bool, true, false, ◌&&◌, List, [], ◌∷◌, ◌++◌, map, None, Some, length, slice_get, refl, sym, ap, subst, ◌∙◌}
use Rattle.std.proofs.lemmas.Bool.{and_parts, eq-eqb}
use Rattle.runs.specs.Run.{Goes}
use Rattle.core_ast.specs.declared.parts.ScopedName.{ScopedName}
use Rattle.core_ast.specs.declared.parts.Var.{Var}
use Rattle.core_ast.specs.declared.tree.CoreLink.TheOpen as layer
use Rattle.core_ast.specs.declared.tree.CoreStat.{CoreStat, out-CoreStat}
use Rattle.core_ast.specs.declared.whole.Core.{Core}
use Rattle.core_meaning.specs.Cells.{uninitialized}
use Rattle.core_meaning.specs.Marks.{CoreState}
use Rattle.core_meaning.specs.Modules.{core_step, rows, stat_of}
use Rattle.core_meaning.specs.Rows.{pushed, with_control}
use Rattle.core_meaning.specs.State.{Environment, Rest, Run}
use Rattle.core_meaning.specs.Statements.{begin_stat}
use Rattle.core_meaning.specs.Step.{step}
use Rattle.pass_rules.specs.Cells.{is_among, is_shared}
use Rattle.pass_rules.specs.Scopes.{vars}
use Rattle.pass_rules.proofs.pass_laws.Related.{in_stat}
use Rattle.cells_keep_runs.specs.Alike.{Config}
use Rattle.cells_keep_runs.specs.Counted.{bottom}
use Rattle.cells_keep_runs.specs.Entering.{StateEndsBelow}
use Rattle.cells_keep_runs.specs.Declares.{among_names, declares}
use Rattle.cells_keep_runs.specs.Entered.{AllAt}
use Rattle.cells_keep_runs.specs.Fitting.{Naming, any_shapes, are_some, fit_standing, list_fits, names_fit, stat_step as fit_step}
use Rattle.cells_keep_runs.specs.Floors.{Anew, Entering, Everywhere, Placed, Standing, StatAnew, floor_of}
use Rattle.cells_keep_runs.specs.Found.{Bound, first_at, names_of}
use Rattle.cells_keep_runs.specs.MayBeFlattened.{Round, each, scope_may, stat_may, stat_step, within}
use Rattle.cells_keep_runs.specs.Memory.{Seat, Seats, is_scoped}
use Rattle.cells_keep_runs.specs.Passed.{scope_entered}
use Rattle.cells_keep_runs.specs.Places.{Below}
use Rattle.cells_keep_runs.specs.Ready.{ScopeReady}
use Rattle.cells_keep_runs.specs.Recounted.{AllHave, NextHas}
use Rattle.cells_keep_runs.specs.Related.{Related}
use Rattle.cells_keep_runs.specs.Rounds.{activation_at, grouped, new_seat, once}
use Rattle.cells_keep_runs.specs.Seen.{target_at}
use Rattle.cells_keep_runs.specs.Standings.{Around, IsNew, Known, StaysAt}
use Rattle.cells_keep_runs.proofs.Declares.{declares_measures}
use Rattle.cells_keep_runs.proofs.Fitted.{stat_fitting, test_fold}
use Rattle.cells_keep_runs.proofs.GoingOn.{Exactly, OneOf, bound_in}
use Rattle.cells_keep_runs.proofs.Recounted.{records_counted}
use Rattle.cells_keep_runs.proofs.Rounds.{scopes_round}
use Rattle.cells_keep_runs.proofs.Standings.{new_records_away}
use Rattle.cells_keep_runs.proofs.StateMoved.{AllOk}
use Rattle.cells_keep_runs.proofs.Moved.{Moves}
use Rattle.cells_keep_runs.proofs.Writes.{differ, one_value}
use Rattle.scopes_keep_runs.specs.Counts.{AllCounts, CountsOf, Single, declared_in, limit_with}
use Rattle.scopes_keep_runs.proofs.EnteredCode.{entering}
use Rattle.scopes_keep_runs.proofs.EnteredCounts.{ahead_entered, elsewhere, fits_entered, none_before}
use Rattle.scopes_keep_runs.proofs.Instance.{names_on}
use Rattle.scopes_keep_runs.proofs.Lifted.{beside_moves, finished, names_more, scope_names}
use Rattle.scopes_keep_runs.proofs.Limits.{Elsewhere}
use Rattle.scopes_keep_runs.proofs.Moving.{everywhere_moved}
use Rattle.scopes_keep_runs.proofs.Small.{home_more, left_most, round_fold, same_length, scope_apart, scope_local, stat_out, tail_self}
use Rattle.scopes_keep_runs.proofs.NamesOn.{made_on, on_moves}
use Rattle.scopes_keep_runs.proofs.Stay.{bottom_tail, ends_below, ends_ok, same_activation, standing_at, stays_all}

module _ (core : Core) (k : Known) (ends : Environment) (nm : Naming) (placed : (seats : Seats) (bound : Bound) (shapes : List (List Var) → Type 0) → Placed core (standing_at core k ends nm seats bound shapes))
    (single : (x : Var) → is_shared k.whole.owners x ≡ false → once k.whole x ≡ true → Single core x) (fresh : Var) (fresh_single : Single core fresh)
    (seats : Seats) (s : CoreState) (t : Config) (x : CoreStat) (xs body : List CoreStat) (names : List ScopedName) (ready : ScopeReady k.whole.owners seats s names) (j : ℕ)
    (out : out-CoreStat x ≡ layer.Scoped names body) (related : Related k.whole.owners seats (with_control (Run (x ∷ xs)) s) t) (long : length seats ≡ length s.records)
    (all : Everywhere (standing_at core k ends nm seats (names_of s.records) (Exactly (names_of s.records))) (with_control (Run (x ∷ xs)) s)) (counts : AllCounts core k.whole seats (with_control (Run (x ∷ xs)) s)) where
  abbrev e : Environment
  e = s.context.environment

  abbrev new : Seat
  new = new_seat ready.home names j

  abbrev seats2 : Seats
  seats2 = seats ++ new ∷ []

  abbrev bound : Bound
  bound = names_of s.records

  abbrev bound2 : Bound
  bound2 = bound ++ vars names ∷ []

  abbrev before : Config
  before = with_control (Run (x ∷ xs)) s

  abbrev behind : Config
  behind = with_control (Run body) (scope_entered names xs s)

  abbrev K1 : Standing
  K1 = standing_at core k ends nm seats bound (Exactly bound)

  abbrev K2 : Standing
  K2 = standing_at core k ends nm seats2 bound2 (OneOf bound bound2)

  -- ---- what is round the scope

  abbrev r : Round
  r = all.1.1.0.0.0

  around : Around k seats bound e r
  around = all.1.1.0.0.2

  scope_is : scope_may k.whole names r && each (map (stat_may k.whole) body) (within names r) ≡ true
  scope_is = subst (λ y. stat_step k.whole (in_stat (round_fold k.whole) y) r ≡ true) out (sym (stat_out k.whole x r) ∙ all.1.1.0.0.1)

  may : (scope_may k.whole names r ≡ true) × (each (map (stat_may k.whole) body) (within names r) ≡ true)
  may = and_parts (scope_may k.whole names r) (each (map (stat_may k.whole) body) (within names r)) scope_is

  fit_is : are_some names && (names_fit nm names && list_fits core nm body true) ≡ true
  fit_is = subst (λ y. fit_step nm (in_stat (test_fold core nm any_shapes) y) (floor_of s.context.frames).own ≡ true) out (stat_fitting core nm any_shapes x xs (floor_of s.context.frames).own all.1.1.1)

  fit : (are_some names ≡ true) × (names_fit nm names && list_fits core nm body true ≡ true)
  fit = and_parts (are_some names) (names_fit nm names && list_fits core nm body true) fit_is

  fits : (names_fit nm names ≡ true) × (list_fits core nm body true ≡ true)
  fits = and_parts (names_fit nm names) (list_fits core nm body true) fit.1

  -- its names are locals that aren't round it
  local : (y : Var) → is_among y (vars names) ≡ true → is_among y r.locals ≡ true
  local y among = scope_local k.whole names r y may.0 among

  away : (y : Var) → is_among y (vars names) ≡ true → is_among y r.names ≡ false
  away y among = scope_apart k.whole names r y may.0 among

  -- the target has them at home
  home_at_first : (ns : List ScopedName) → are_some ns ≡ true → AllAt seats e ready.home ns → ((y : Var) → is_among y (vars ns) ≡ true → target_at seats e y ≡ Some around.base.home) → ready.home ≡ around.base.home
  home_at_first [] some at targets = cc
  home_at_first (n ∷ ns) some (at, rest) targets = one_value (target_at seats e n.var) ready.home around.base.home at (targets n.var (ap (λ b. b || is_among n.var (vars ns)) (eq-eqb n.var.0 n.var.0 refl)))

  home_is : ready.home ≡ around.base.home
  home_is = home_at_first names fit.0 ready.at (λ y among. (around.locals y (local y among)).target)

  act_is : activation_at k.whole seats e ≡ Some (grouped k.whole new.home)
  act_is = around.activation ∙ ap (λ h. Some (grouped k.whole h)) (sym home_is)

  below : Below (length seats) e
  below = all.0.2.inside.0

  bound_long : length seats ≡ length bound
  bound_long = long ∙ sym (same_length s.records)

  -- ---- the step

  step_is : core_step core before ≡ Goes behind
  unfolding step begin_stat
  step_is = ap (λ y. begin_stat (rows core) x (pushed (Rest xs) s) y) out ∙ ap (λ y. stat_of (pushed (Rest xs) s) y) out

  -- ---- what is left to declare

  has : (y : Var) → Single core y → (a : ℕ) → AllHave (declares y) (limit_with k.whole seats y (declared_in y s.ahead) a) (among_names y names) behind
  has y one a =
      let lim = limit_with k.whole seats y (declared_in y s.ahead) a in
      let uses = records_counted (declares y) lim (declares_measures y) (left_most k.whole seats y (declared_in y s.ahead) a) in
      subst (λ m. NextHas (declares y) lim (among_names y names) m) step_is (uses.scopes core s x xs body names out ((counts.names y one).fits a))

  act_there : activation_at k.whole seats (bottom behind.state.context.environment behind.state.context.frames) ≡ Some (grouped k.whole new.home)
  act_there = same_activation core k ends nm seats bound (Exactly bound) _ e s.context.frames all.0.0 ∙ act_is

  ends_there : StateEndsBelow (length seats) behind.state
  ends_there = let at : StateEndsBelow (length seats) s = ends_below core k ends nm seats bound (Exactly bound) s all.0 in (at.0, at.1, at.2)

  others : Elsewhere k.whole seats (grouped k.whole new.home) behind.state
  others = elsewhere k.whole seats new names behind body refl refl act_there ends_there fresh (declared_in fresh s.ahead) (has fresh fresh_single)

  none : (y : Var) → Single core y → is_among y (vars names) ≡ true → (i : ℕ) (here : Seat) → slice_get seats i ≡ Some here → new.home ≡ here.home → is_scoped here y ≡ false
  none y one among i here got home = none_before k.whole seats new names behind body refl refl act_there ends_there y (declared_in y s.ahead) (has y one) among i here got home

  counts_of : (y : Var) → Single core y → CountsOf k.whole seats2 y behind
  counts_of y one = record {
    ahead = ahead_entered k.whole seats new names behind body refl refl act_there ends_there y (declared_in y s.ahead) (has y one) (counts.names y one).ahead;
    fits = λ a. fits_entered k.whole seats new names behind body refl refl act_there ends_there y (declared_in y s.ahead) (has y one) a;
  }

  -- ---- where code stands

  unbound : (y : Var) → is_scoped new y ≡ true → first_at bound e y ≡ None
  unbound y scoped = around.unbound y (local y scoped) (away y scoped)

  is_new : IsNew k seats bound new e
  is_new = record {
    unbound = unbound;
    first = λ y i here unshared comes got scoped home. never (is_scoped new y) y refl i here unshared comes got scoped home;
  }
    where
      never : (b : Bool) (y : Var) → is_scoped new y ≡ b → (i : ℕ) (here : Seat) → is_shared k.whole.owners y ≡ false → once k.whole y ≡ true → slice_get seats i ≡ Some here → is_scoped here y ≡ true → new.home ≡ here.home → b ≡ false
      never false y is i here unshared comes got scoped home = refl
      never true y is i here unshared comes got scoped home = absurd (differ (is_scoped here y) scoped (none y (single y unshared comes) is i here got home))

  here_ok : StaysAt k seats new e e
  here_ok = record { below = below; apart = inl (tail_self e) }

  outer_ok : StaysAt k seats new e ends
  outer_ok = ends_ok core k ends nm seats bound (Exactly bound) new e (λ a. StaysAt k seats new e a) (λ a at. at) s all.0 others (bottom_tail core k ends nm seats bound (Exactly bound) _ e s.context.frames all.0.0)

  moved : Everywhere K2 before
  moved =
      let Ok = λ (a : Environment). StaysAt k seats new e a in
      let Made = λ (a : Environment). Below (length seats) a in
      let code : Moves (names_on k ends seats bound any_shapes nm.fixed) (names_on k ends seats2 bound2 any_shapes nm.fixed) Ok = on_moves k ends seats bound new (vars names) e any_shapes any_shapes nm.fixed bound_long is_new in
      let oks : AllOk Ok Made before = stays_all core k ends nm seats bound (Exactly bound) new e (λ a. StaysAt k seats new e a) (λ a at. at) before t k.whole.owners related all.0 others here_ok in
      everywhere_moved K1 K2 Ok Made
      (record {
        code = beside_moves (names_on k ends seats bound any_shapes nm.fixed) (names_on k ends seats2 bound2 any_shapes nm.fixed) (fit_standing core nm) (Exactly bound) (OneOf bound bound2) Ok code;
        makes = λ a f made at. (made_on k ends seats bound new (vars names) e any_shapes any_shapes nm.fixed bound_long is_new a f made at.0, at.1);
        outermost = λ a ok at. at;
        bodies = λ a at. (at, subst (λ z. Ok z) (sym at.0) outer_ok);
        fixed = λ y free. free;
      }) before oks (inl refl) all

  -- the new record is away from what is found along the present environment
  round_inner : Around k seats2 bound2 (length seats ∷ e) (within names r)
  round_inner =
      scopes_round k.whole k.kept k.declarer seats s names j r ready below long around may.0 home_is (new_records_away.away k seats bound new e e is_new here_ok)

  enters : Entering K2 s (vars names) names body
  enters = entering core k ends nm seats s new (vars names) names body (within names r) long below round_inner may.1 fits.1 fits.0 act_is unbound

  anew : Anew core K2 s (Run (x ∷ xs))
  anew = subst (λ y. StatAnew K2 s y) (sym out) enters

  names_there : bound_in behind ≡ bound2
  names_there = names_more s.records (uninitialized names) (vars names) (scope_names names)

  -- ---- behind the scope's beginning

  pub scope_stands : Everywhere (standing_at core k ends nm seats2 (bound_in behind) (Exactly (bound_in behind))) behind
  scope_stands = finished core k ends nm seats2 bound bound2 before behind (placed seats2 bound2 (OneOf bound bound2)) step_is moved anew names_there

  pub scope_counts : AllCounts core k.whole seats2 behind
  scope_counts = record { names = counts_of; homes = λ h less. home_more seats new h (counts.homes h less) }

  pub scope_step : core_step core before ≡ Goes behind
  scope_step = step_is
