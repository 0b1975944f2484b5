-- A handler that takes a throw leaves code where it may stand, with its record more, and what is left to declare.
use Rattle.std.proofs.Common.{◌≡◌, ◌≤◌, inl, ℕ, Bool, true, false, ◌&&◌, not, nat_le, List, [], ◌∷◌, ◌++◌, map, None, Some, length, slice_get, refl, sym, ap, subst, ◌∙◌}
use Rattle.std.proofs.lemmas.Bool.{and_parts, leb-true}
use Rattle.runs.specs.Run.{Goes}
use Rattle.core_ast.specs.declared.parts.ScopedName.{ScopedName}
use Rattle.core_ast.specs.declared.parts.Var.{Var}
use Rattle.es_value.specs.declared.value.Value.{Value}
use Rattle.core_ast.specs.declared.tree.CoreStat.{CoreStat}
use Rattle.core_ast.specs.declared.whole.Core.{Core}
use Rattle.core_meaning.specs.Calls.{binding}
use Rattle.core_meaning.specs.Cells.{uninitialized}
use Rattle.core_meaning.specs.Marks.{CoreState}
use Rattle.core_meaning.specs.Modules.{core_step}
use Rattle.core_meaning.specs.Rows.{pushed, with_control}
use Rattle.core_meaning.specs.State.{Catching, Environment, Hand, Run, Throws, User}
use Rattle.core_meaning.specs.Step.{abrupt, hand, step}
use Rattle.pass_rules.specs.Cells.{is_among, is_shared}
use Rattle.pass_rules.specs.Scopes.{vars}
use Rattle.cells_keep_runs.specs.Alike.{Config}
use Rattle.cells_keep_runs.specs.Counted.{bottom}
use Rattle.cells_keep_runs.specs.Entering.{StateEndsBelow}
use Rattle.cells_keep_runs.specs.Declares.{among_names, declares}
use Rattle.cells_keep_runs.specs.Fitting.{Naming, any_shapes, fit_standing, list_fits, names_fit}
use Rattle.cells_keep_runs.specs.Floors.{Entering, Everywhere, Placed, Standing}
use Rattle.cells_keep_runs.specs.Found.{Bound, first_at, names_of}
use Rattle.cells_keep_runs.specs.MayBeFlattened.{Round, each, in_handler, parameter_may, scope_may, stat_may}
use Rattle.cells_keep_runs.specs.Memory.{Seat, Seats, is_scoped}
use Rattle.cells_keep_runs.specs.Handled.{handler_entered, with_own_image}
use Rattle.cells_keep_runs.specs.Places.{Below}
use Rattle.cells_keep_runs.specs.Ready.{AllMarked, HandlerReady, ScopeReady}
use Rattle.cells_keep_runs.specs.Recounted.{AllHave, NextHas}
use Rattle.cells_keep_runs.specs.Related.{Related}
use Rattle.cells_keep_runs.specs.Rounds.{activation_at, grouped, new_seat, once}
use Rattle.cells_keep_runs.specs.Standings.{Around, IsNew, Known, StaysAt}
use Rattle.cells_keep_runs.proofs.Declares.{declares_measures}
use Rattle.cells_keep_runs.proofs.Readying.{all_differ, all_marked}
use Rattle.cells_keep_runs.proofs.GoingOn.{Exactly, OneOf, bound_in}
use Rattle.cells_keep_runs.proofs.Recounted.{records_counted}
use Rattle.cells_keep_runs.proofs.Rounds.{handlers_round, not_true, scopes_ready}
use Rattle.cells_keep_runs.proofs.Standings.{new_records_away}
use Rattle.cells_keep_runs.proofs.StateMoved.{AllOk}
use Rattle.cells_keep_runs.proofs.Moved.{Moves}
use Rattle.cells_keep_runs.proofs.Writes.{differ}
use Rattle.scopes_keep_runs.specs.Counts.{AllCounts, CountsOf, Single, declared_in, limit_with}
use Rattle.scopes_keep_runs.proofs.EnteredCode.{entering}
use Rattle.scopes_keep_runs.proofs.EnteredCounts.{ahead_entered, elsewhere, fits_entered, none_before}
use Rattle.scopes_keep_runs.proofs.Instance.{names_on}
use Rattle.scopes_keep_runs.proofs.Lifted.{beside_moves, finished, names_more, scope_names}
use Rattle.scopes_keep_runs.proofs.Limits.{Elsewhere}
use Rattle.scopes_keep_runs.proofs.Moving.{everywhere_moved}
use Rattle.scopes_keep_runs.proofs.Small.{home_more, left_most, same_length, scope_apart, scope_local, tail_self}
use Rattle.scopes_keep_runs.proofs.NamesOn.{made_on, on_moves}
use Rattle.scopes_keep_runs.proofs.Stay.{bottom_tail, ends_below, ends_ok, same_activation, standing_at, stays_all}

module _ (core : Core) (k : Known) (ends : Environment) (nm : Naming) (owners_are : nm.owners ≡ k.whole.owners) (declarers : (x : Var) → k.whole.declarer x ≡ k.declarer x)
    (placed : (seats : Seats) (bound : Bound) (shapes : List (List Var) → Type 0) → Placed core (standing_at core k ends nm seats bound shapes))
    (single : (x : Var) → is_shared k.whole.owners x ≡ false → once k.whole x ≡ true → Single core x) (fresh : Var) (fresh_single : Single core fresh)
    (seats : Seats) (s : CoreState) (t : Config) (v : Value) (x : Var) (names : List ScopedName) (handler : List CoreStat) (related : Related k.whole.owners seats (with_control (Hand (Throws v)) (pushed (Catching x names handler) s)) t)
    (long : length seats ≡ length s.records)
    (all : Everywhere (standing_at core k ends nm seats (names_of s.records) (Exactly (names_of s.records))) (with_control (Hand (Throws v)) (pushed (Catching x names handler) s)))
    (counts : AllCounts core k.whole seats (with_control (Hand (Throws v)) (pushed (Catching x names handler) s))) where
  abbrev e : Environment
  e = s.context.environment

  abbrev st : CoreState
  st = pushed (Catching x names handler) s

  abbrev bound : Bound
  bound = names_of s.records

  abbrev bound2 : Bound
  bound2 = bound ++ (x ∷ vars names) ∷ []

  abbrev before : Config
  before = with_control (Hand (Throws v)) st

  abbrev behind : Config
  behind = with_control (Run handler) (handler_entered x v names s)

  -- ---- what is round the handler

  abbrev r : Round
  r = all.0.0.0.1.0.0

  pub around : Around k seats bound e r
  around = all.0.0.0.1.0.2

  may : (parameter_may k.whole x names r && scope_may k.whole names r ≡ true) × (each (map (stat_may k.whole) handler) (in_handler x names r) ≡ true)
  may = and_parts (parameter_may k.whole x names r && scope_may k.whole names r) (each (map (stat_may k.whole) handler) (in_handler x names r)) all.0.0.0.1.0.1

  may_enter : (parameter_may k.whole x names r ≡ true) × (scope_may k.whole names r ≡ true)
  may_enter = and_parts (parameter_may k.whole x names r) (scope_may k.whole names r) may.0

  fit : (names_fit nm names ≡ true) × (not (is_among x (vars names)) && list_fits core nm handler true ≡ true)
  fit = and_parts (names_fit nm names) (not (is_among x (vars names)) && list_fits core nm handler true) all.0.0.0.1.1

  pub fits : (not (is_among x (vars names)) ≡ true) × (list_fits core nm handler true ≡ true)
  fits = and_parts (not (is_among x (vars names))) (list_fits core nm handler true) fit.1

  local : (y : Var) → is_among y (vars names) ≡ true → is_among y r.locals ≡ true
  local y among = scope_local k.whole names r y may_enter.1 among

  away : (y : Var) → is_among y (vars names) ≡ true → is_among y r.names ≡ false
  away y among = scope_apart k.whole names r y may_enter.1 among

  -- no function further in declares the parameter
  declared : r.functions ≤ k.declarer x
  declared =
      let last = and_parts (not (is_among x r.locals) && not (is_among x r.names) && not (is_shared k.whole.owners x) && not (is_among x (vars names))) (nat_le r.functions (k.whole.declarer x)) may_enter.0 in
      subst (λ n. r.functions ≤ n) (declarers x) (leb-true r.functions (k.whole.declarer x) last.1)

  -- the pattern's names are ready, at home in the present activation
  pub ready_is : (ready : ScopeReady k.whole.owners seats st names) × (ready.home ≡ around.base.home)
  ready_is =
      scopes_ready k.whole k.kept k.declarer seats st names r around may_enter.1 (all_differ nm names fit.0) (subst (λ os. AllMarked os names) owners_are (all_marked nm names fit.0))

  abbrev pub ready : HandlerReady k.whole.owners seats st x names
  ready = record { pattern = ready_is.0; apart = not_true (is_among x (vars names)) fits.0 }

  home_is : ready.pattern.home ≡ around.base.home
  home_is = ready_is.1

  module _ (i j : ℕ) where
    abbrev new : Seat
    new = with_own_image i x (new_seat ready.pattern.home names j)

    abbrev seats2 : Seats
    seats2 = seats ++ new ∷ []

    abbrev K1 : Standing
    K1 = standing_at core k ends nm seats bound (Exactly bound)

    abbrev K2 : Standing
    K2 = standing_at core k ends nm seats2 bound2 (OneOf bound bound2)

    act_is : activation_at k.whole seats e ≡ Some (grouped k.whole new.home)
    act_is = around.activation ∙ ap (λ h. Some (grouped k.whole h)) (sym home_is)

    below : Below (length seats) e
    below = all.0.2.inside.0

    bound_long : length seats ≡ length bound
    bound_long = long ∙ sym (same_length s.records)

    -- ---- the step

    step_is : core_step core before ≡ Goes behind
    unfolding step hand abrupt
    step_is = refl

    -- ---- what is left to declare

    has : (y : Var) → Single core y → (a : ℕ) → AllHave (declares y) (limit_with k.whole seats y (declared_in y s.ahead) a) (among_names y names) behind
    has y one a =
        let lim = limit_with k.whole seats y (declared_in y s.ahead) a in
        let uses = records_counted (declares y) lim (declares_measures y) (left_most k.whole seats y (declared_in y s.ahead) a) in
        subst (λ m. NextHas (declares y) lim (among_names y names) m) step_is (uses.handlers core s x names handler v ((counts.names y one).fits a))

    act_there : activation_at k.whole seats (bottom behind.state.context.environment behind.state.context.frames) ≡ Some (grouped k.whole new.home)
    act_there = same_activation core k ends nm seats bound (Exactly bound) _ e s.context.frames all.0.0.1 ∙ act_is

    ends_there : StateEndsBelow (length seats) behind.state
    ends_there = let at : StateEndsBelow (length seats) st = ends_below core k ends nm seats bound (Exactly bound) st all.0 in (at.0, at.1, at.2)

    others : Elsewhere k.whole seats (grouped k.whole new.home) behind.state
    others = elsewhere k.whole seats new names behind handler refl refl act_there ends_there fresh (declared_in fresh s.ahead) (has fresh fresh_single)

    none : (y : Var) → Single core y → is_among y (vars names) ≡ true → (i : ℕ) (here : Seat) → slice_get seats i ≡ Some here → new.home ≡ here.home → is_scoped here y ≡ false
    none y one among i here got home = none_before k.whole seats new names behind handler refl refl act_there ends_there y (declared_in y s.ahead) (has y one) among i here got home

    counts_of : (y : Var) → Single core y → CountsOf k.whole seats2 y behind
    counts_of y one = record {
      ahead = ahead_entered k.whole seats new names behind handler refl refl act_there ends_there y (declared_in y s.ahead) (has y one) (counts.names y one).ahead;
      fits = λ a. fits_entered k.whole seats new names behind handler refl refl act_there ends_there y (declared_in y s.ahead) (has y one) a;
    }

    -- ---- where code stands

    unbound : (y : Var) → is_scoped new y ≡ true → first_at bound e y ≡ None
    unbound y scoped = around.unbound y (local y scoped) (away y scoped)

    is_new : IsNew k seats bound new e
    is_new = record {
      unbound = unbound;
      first = λ y i here unshared comes got scoped home. never (is_scoped new y) y refl i here unshared comes got scoped home;
    }
      where
        never : (b : Bool) (y : Var) → is_scoped new y ≡ b → (i : ℕ) (here : Seat) → is_shared k.whole.owners y ≡ false → once k.whole y ≡ true → slice_get seats i ≡ Some here → is_scoped here y ≡ true → new.home ≡ here.home → b ≡ false
        never false y is i here unshared comes got scoped home = refl
        never true y is i here unshared comes got scoped home = absurd (differ (is_scoped here y) scoped (none y (single y unshared comes) is i here got home))

    here_ok : StaysAt k seats new e e
    here_ok = record { below = below; apart = inl (tail_self e) }

    outer_ok : StaysAt k seats new e ends
    outer_ok = ends_ok core k ends nm seats bound (Exactly bound) new e (λ a. StaysAt k seats new e a) (λ a at. at) st all.0 others (bottom_tail core k ends nm seats bound (Exactly bound) _ e s.context.frames all.0.0.1)

    moved : Everywhere K2 before
    moved =
        let Ok = λ (a : Environment). StaysAt k seats new e a in
        let Made = λ (a : Environment). Below (length seats) a in
        let code : Moves (names_on k ends seats bound any_shapes nm.fixed) (names_on k ends seats2 bound2 any_shapes nm.fixed) Ok = on_moves k ends seats bound new (x ∷ vars names) e any_shapes any_shapes nm.fixed bound_long is_new in
        let oks : AllOk Ok Made before = stays_all core k ends nm seats bound (Exactly bound) new e (λ a. StaysAt k seats new e a) (λ a at. at) before t k.whole.owners related all.0 others here_ok in
        everywhere_moved K1 K2 Ok Made
        (record {
          code = beside_moves (names_on k ends seats bound any_shapes nm.fixed) (names_on k ends seats2 bound2 any_shapes nm.fixed) (fit_standing core nm) (Exactly bound) (OneOf bound bound2) Ok code;
          makes = λ a f made at. (made_on k ends seats bound new (x ∷ vars names) e any_shapes any_shapes nm.fixed bound_long is_new a f made at.0, at.1);
          outermost = λ a ok at. at;
          bodies = λ a at. (at, subst (λ z. Ok z) (sym at.0) outer_ok);
          fixed = λ y free. free;
        }) before oks (inl refl) all

    -- the new record is away from what is found along the present environment
    round_inner : Around k seats2 bound2 (length seats ∷ e) (in_handler x names r)
    round_inner =
        handlers_round k.whole k.kept k.declarer seats st x names i j r ready below long around may_enter home_is declared (new_records_away.away k seats bound new e e is_new here_ok)

    enters : Entering K2 st (x ∷ vars names) names handler
    enters = entering core k ends nm seats st new (x ∷ vars names) names handler (in_handler x names r) long below round_inner may.1 fits.1 fit.0 act_is unbound

    names_there : bound_in behind ≡ bound2
    names_there = names_more s.records (binding x (User v) ∷ uninitialized names) (x ∷ vars names) (ap (λ ys. x ∷ ys) (scope_names names))

    -- ---- behind the handler's beginning

    pub handler_stands : Everywhere (standing_at core k ends nm seats2 (bound_in behind) (Exactly (bound_in behind))) behind
    handler_stands = finished core k ends nm seats2 bound bound2 before behind (placed seats2 bound2 (OneOf bound bound2)) step_is moved enters names_there

    pub handler_counts : AllCounts core k.whole seats2 behind
    handler_counts = record { names = counts_of; homes = λ h less. home_more seats new h (counts.homes h less) }

    pub handler_step : core_step core before ≡ Goes behind
    handler_step = step_is
