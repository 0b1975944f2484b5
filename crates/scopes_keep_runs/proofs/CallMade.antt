-- A call of a closure of the program leaves code where it may stand, with its record more, and what is left to declare.
use Rattle.std.proofs.Common.{◌≡◌, ◌≤◌, ◌<◌, inl, inr, ℕ, zero, suc, Bool, true, false, List, [], ◌∷◌, ◌++◌, map, Option, None, Some, length, slice_get, refl, sym, ap, arith, subst, ◌∙◌}
use Rattle.std.specs.Prelude.{◌&&◌}
use Rattle.std.proofs.lemmas.Bool.{and_parts}
use Rattle.runs.specs.Run.{Goes}
use Rattle.es_value.specs.declared.value.Value.TheVariants as value
use Rattle.es_heap.specs.Heaps.{object_at}
use Rattle.es_heap.specs.declared.class.Class.TheVariants as class
use Rattle.core_ast.specs.Lawful.{IsLawful}
use Rattle.core_ast.specs.declared.parts.Var.{Var}
use Rattle.core_ast.specs.declared.tree.CoreStat.{CoreStat}
use Rattle.core_ast.specs.declared.whole.Core.{Core}
use Rattle.core_ast.specs.declared.whole.CoreFunction.{CoreFunction}
use Rattle.core_meaning.specs.Expressions.{function_at}
use Rattle.core_meaning.specs.Marks.{CoreState, KeptCell, Own}
use Rattle.core_meaning.specs.Modules.{core_step}
use Rattle.core_meaning.specs.Rows.{with_control}
use Rattle.core_meaning.specs.State.{Call, Calls, Closure, Environment}
use Rattle.pass_rules.specs.Cells.{is_among}
use Rattle.cells_keep_runs.specs.Alike.{Config}
use Rattle.cells_keep_runs.specs.Called.{bindings_of}
use Rattle.cells_keep_runs.specs.Callings.{Calls1}
use Rattle.cells_keep_runs.specs.Entering.{StateEndsBelow}
use Rattle.cells_keep_runs.specs.Entries.{call_seat}
use Rattle.cells_keep_runs.specs.Fitting.{IsFitting, Naming, any_shapes, fit_standing, function_fits_in, functions_fit, list_fits, own_fits}
use Rattle.cells_keep_runs.specs.Floors.{AllOf, Anew, Calling, ClosureAt, Everywhere, NextAt, Perhaps, Placed, Standing}
use Rattle.cells_keep_runs.specs.Found.{Bound, names_in, names_of}
use Rattle.cells_keep_runs.specs.KeptFound.{naming}
use Rattle.cells_keep_runs.specs.MayBeFlattened.{Round, Whole, each, function_may, stat_may, whole_of}
use Rattle.cells_keep_runs.specs.Memory.{Seat, Seats}
use Rattle.cells_keep_runs.specs.Named.{call_names, own_names, scoped_names}
use Rattle.cells_keep_runs.specs.Places.{Below}
use Rattle.cells_keep_runs.specs.Ready.{ClosureCall}
use Rattle.cells_keep_runs.specs.Recorded.{inner}
use Rattle.cells_keep_runs.specs.Related.{All, Closures, Related, States}
use Rattle.cells_keep_runs.specs.Rounds.{activation_at, grouped}
use Rattle.cells_keep_runs.specs.Standings.{Around, IsNew, Known, StaysAt}
use Rattle.cells_keep_runs.specs.Started.{owners_of}
use Rattle.cells_keep_runs.proofs.Anew.{floors_stay}
use Rattle.cells_keep_runs.proofs.Apart.{functions_apart, none_declared}
use Rattle.cells_keep_runs.proofs.Callings.{calls_go_on}
use Rattle.cells_keep_runs.proofs.FitRuns.{Undeclared}
use Rattle.cells_keep_runs.proofs.GoingOn.{Exactly, OneOf, bound_in}
use Rattle.cells_keep_runs.proofs.Grown.{below_cons, below_more}
use Rattle.cells_keep_runs.proofs.Lasting.{more_count}
use Rattle.cells_keep_runs.proofs.Moved.{Moves}
use Rattle.cells_keep_runs.proofs.RoundParts.{StatRound}
use Rattle.cells_keep_runs.proofs.Rounds.{left_in, right_in}
use Rattle.cells_keep_runs.proofs.StateMoved.{AllOk}
use Rattle.cells_keep_runs.proofs.Writes.{differ, one_value}
use Rattle.scopes_keep_runs.specs.Counts.{AllCounts}
use Rattle.scopes_keep_runs.specs.Instance.{ends_of, known_of}
use Rattle.scopes_keep_runs.proofs.CallCounts.{call_counts}
use Rattle.scopes_keep_runs.proofs.Fresh.{all_away, elsewhere}
use Rattle.scopes_keep_runs.proofs.Instance.{At, Fitting, StandsBy, names_on}
use Rattle.scopes_keep_runs.proofs.Lifted.{beside_moves, finished}
use Rattle.scopes_keep_runs.proofs.Limits.{Elsewhere}
use Rattle.scopes_keep_runs.proofs.Moving.{everywhere_moved}
use Rattle.scopes_keep_runs.proofs.NamesMay.{FunctionMay, NamesMay, function_at_may, function_parts, function_round}
use Rattle.scopes_keep_runs.proofs.NamesOn.{made_on, on_moves}
use Rattle.scopes_keep_runs.proofs.Small.{same_length}
use Rattle.scopes_keep_runs.proofs.Stay.{bottom_tail, ends_below, ends_ok, standing_at, states_of, stays_all}

-- ---- lists

longer : {A : Type 0} (xs : List A) (x : A) → length (xs ++ x ∷ []) ≡ suc (length xs)
longer [] x = refl
longer (y ∷ xs) x = ap (λ n. suc n) (longer xs x)

-- what is at a place of a list, and of a related one
at_place : {A : Type 0} (P : A → Type 0) (xs : List A) (n : ℕ) (x : A) → AllOf P xs → slice_get xs n ≡ Some x → P x
at_place P [] n x all is = cc
at_place P (y ∷ xs) zero x (first, all) is = subst (λ z. P z) (one_value (Some y) y x refl is) first
at_place P (y ∷ xs) (suc n) x (first, all) is = at_place P xs n x all is

related_at : {A C : Type 0} (R : A → C → Type 0) (xs : List A) (ys : List C) (n : ℕ) (x : A) (y : C) → All R xs ys → slice_get xs n ≡ Some x → slice_get ys n ≡ Some y → R x y
related_at R [] ys n x y all is is2 = cc
related_at R (a ∷ xs) [] n x y all is is2 = absurd all
related_at R (a ∷ xs) (b ∷ ys) zero x y (r, all) is is2 = subst (λ w. R x w) (one_value (Some b) b y refl is2) (subst (λ z. R z b) (one_value (Some a) a x refl is) r)
related_at R (a ∷ xs) (b ∷ ys) (suc n) x y (r, all) is is2 = related_at R xs ys n x y all is is2

-- ---- the function's code fits

functions_in : (core : Core) (k : Naming) (fs : List CoreFunction) (n : ℕ) (f : CoreFunction) → functions_fit core k fs ≡ true → slice_get fs n ≡ Some f → function_fits_in core k f ≡ true
functions_in core k [] n f is at = cc
functions_in core k (g ∷ fs) zero f is at = subst (λ h. function_fits_in core k h ≡ true) (one_value (Some g) g f refl at) (and_parts (function_fits_in core k g) (functions_fit core k fs) is).0
functions_in core k (g ∷ fs) (suc n) f is at = functions_in core k fs n f (and_parts (function_fits_in core k g) (functions_fit core k fs) is).1 at

own_of : (k : Naming) (o : Option Var) → own_fits k o ≡ true → Perhaps (λ (x : Var). k.fixed x ≡ true) o
own_of k None is = tt
own_of k (Some x) is = is

-- ---- there is one closure that is called

module _ (core : Core) (s : CoreState) (c : Call) (r r2 : ClosureCall core c s) where
  same_id : r2.id ≡ r.id
  same_id = let one : c.function ≡ value.Object r.id = r.object in let two : c.function ≡ value.Object r2.id = r2.object in cc

  same_number : r2.number ≡ r.number
  same_number =
      let one : (object_at s.heap r.id).class ≡ class.Function r.number = r.class_is in
      let two : (object_at s.heap r.id).class ≡ class.Function r2.number = subst (λ i. (object_at s.heap i).class ≡ class.Function r2.number) same_id r2.class_is in
      cc

  same_closure : r2.closure ≡ r.closure
  same_closure = one_value (slice_get s.closures r.number) r2.closure r.closure (subst (λ n. slice_get s.closures n ≡ Some r2.closure) same_number r2.closure_at) r.closure_at

  same_function : r2.function ≡ r.function
  same_function = one_value (function_at core r.closure.function) r2.function r.function (subst (λ a. function_at core a.function ≡ Some r2.function) same_closure r2.function_is) r.function_is

-- ---- a call

module _ (core : Core) (fixed : Var → Bool) (lawful : IsLawful core) (may : NamesMay core) (fitting : IsFitting core (naming core fixed))
    (placed : (seats : Seats) (bound : Bound) (shapes : List (List Var) → Type 0) → Placed core (standing_at core (known_of core) (ends_of core) (naming core fixed) seats bound shapes))
    (seats : Seats) (s : CoreState) (t : Config) (c : Call) (r : ClosureCall core c s) (behind : Closure Own) (got : slice_get t.state.closures r.number ≡ Some behind)
    (related : Related (owners_of core) seats (with_control (Calls c) s) t) (long : length seats ≡ length s.records)
    (all : Everywhere (standing_at core (known_of core) (ends_of core) (naming core fixed) seats (names_of s.records) (Exactly (names_of s.records))) (with_control (Calls c) s))
    (counts : AllCounts core (whole_of core) seats (with_control (Calls c) s)) where
  abbrev k : Known
  k = known_of core

  abbrev whole : Whole
  whole = whole_of core

  abbrev ends : Environment
  ends = ends_of core

  abbrev nm : Naming
  nm = naming core fixed

  abbrev e : Environment
  e = s.context.environment

  abbrev f : CoreFunction
  f = r.function

  abbrev a : Closure Own
  a = r.closure

  abbrev place_is : ℕ
  place_is = a.function.0

  abbrev names : List Var
  names = names_in (bindings_of f a c s)

  abbrev cells : List KeptCell
  cells = behind.own.cells

  abbrev h : ℕ
  h = length t.state.records

  abbrev new : Seat
  new = call_seat h (scoped_names f) (call_names f cells) cells

  abbrev seats2 : Seats
  seats2 = seats ++ new ∷ []

  abbrev bound : Bound
  bound = names_of s.records

  abbrev bound2 : Bound
  bound2 = bound ++ names ∷ []

  abbrev before : Config
  before = with_control (Calls c) s

  abbrev K1 : Standing
  K1 = standing_at core k ends nm seats bound (Exactly bound)

  abbrev K2 : Standing
  K2 = standing_at core k ends nm seats2 bound2 (OneOf bound bound2)

  bound_long : length seats ≡ length bound
  bound_long = long ∙ sym (same_length s.records)

  states : States (owners_of core) seats s t.state
  states = states_of (owners_of core) seats before t related

  undeclared : Undeclared core
  undeclared g function at = none_declared core g function lawful at

  -- ---- its activation is a new one

  homes : (n : ℕ) (here : Seat) → slice_get seats n ≡ Some here → here.home < h
  homes n here at = states.memory.homes_made n here at

  away : Elsewhere whole seats (grouped whole h) s
  away = all_away whole seats h homes counts.homes s

  other : (b : Environment) → activation_at whole seats b ≡ Some (grouped whole h) → ⊥
  other b = elsewhere whole seats h homes counts.homes b

  ends_there : StateEndsBelow (length seats) s
  ends_there = ends_below core k ends nm seats bound (Exactly bound) s all.0

  pub called_counts : (v : Config) → core_step core before ≡ Goes v → AllCounts core whole seats2 v
  called_counts v is =
      call_counts core whole seats s c r (undeclared a.function f r.function_is) h (scoped_names f) (call_names f cells) cells homes long ends_there counts v is

  -- ---- where code stands

  is_new : IsNew k seats bound new e
  is_new = record {
    unbound = λ x scoped. absurd (differ false scoped refl);
    first = λ x n here unshared comes at scoped home. refl;
  }

  below : Below (length seats) e
  below = all.0.2.inside.0

  here_ok : StaysAt k seats new e e
  here_ok = record { below = below; apart = inr (other e) }

  outer_ok : StaysAt k seats new e ends
  outer_ok = ends_ok core k ends nm seats bound (Exactly bound) new e (λ b. StaysAt k seats new e b) (λ b at. at) s all.0 away (bottom_tail core k ends nm seats bound (Exactly bound) _ e s.context.frames all.0.0)

  moved : Everywhere K2 before
  moved =
      let Ok = λ (b : Environment). StaysAt k seats new e b in
      let Made = λ (b : Environment). Below (length seats) b in
      let code : Moves (names_on k ends seats bound any_shapes nm.fixed) (names_on k ends seats2 bound2 any_shapes nm.fixed) Ok = on_moves k ends seats bound new names e any_shapes any_shapes nm.fixed bound_long is_new in
      let oks : AllOk Ok Made before = stays_all core k ends nm seats bound (Exactly bound) new e (λ b. StaysAt k seats new e b) (λ b at. at) before t (owners_of core) related all.0 away here_ok in
      everywhere_moved K1 K2 Ok Made
      (record {
        code = beside_moves (names_on k ends seats bound any_shapes nm.fixed) (names_on k ends seats2 bound2 any_shapes nm.fixed) (fit_standing core nm) (Exactly bound) (OneOf bound bound2) Ok code;
        makes = λ b g made at. (made_on k ends seats bound new names e any_shapes any_shapes nm.fixed bound_long is_new b g made at.0, at.1);
        outermost = λ b ok at. at;
        bodies = λ b at. (at, subst (λ z. Ok z) (sym at.0) outer_ok);
        fixed = λ y free. free;
      }) before oks (inl refl) all

  -- ---- what is round the function's statements

  closures : Closures (owners_of core) seats a behind
  closures = related_at (Closures (owners_of core) seats) s.closures t.state.closures r.number a behind states.closures r.closure_at got

  made : ClosureAt K1 a
  made = at_place (ClosureAt K1) s.closures r.number a all.0.2.closures_at r.closure_at

  function_is : function_may whole place_is f ≡ true
  function_is = function_at_may whole core.functions place_is f may.functions r.function_is

  parts : FunctionMay whole place_is f
  parts = function_parts whole place_is f function_is

  declares_own : (x : Var) → is_among x (own_names f) ≡ true → place_is ≤ whole.declarer x
  declares_own x among =
      let is : whole.declarer x ≡ place_is = calls_go_on.declare whole place_is f x function_is (left_in (own_names f) (scoped_names f) x among) in
      omega arith

  declares_scoped : (x : Var) → is_among x (scoped_names f) ≡ true → whole.declarer x ≡ place_is
  declares_scoped x among = calls_go_on.declare whole place_is f x function_is (right_in (own_names f) (scoped_names f) x among)

  calls : Calls1 whole k.declarer seats a.environment a.function f names cells
  calls =
      calls_go_on.named whole k.declarer seats a behind f c s closures (undeclared a.function f r.function_is) (functions_apart core a.function f lawful r.function_is)
      declares_own declares_scoped

  abbrev round : Round
  round = function_round whole place_is f

  round_there : Around k seats2 bound2 (length seats ∷ a.environment) round
  round_there = calls_go_on.calls whole k.kept k.declarer seats bound a.environment a.function f h names cells closures.below bound_long made.0.0 calls function_is

  abbrev env : Environment
  env = inner s a.environment

  env_is : length seats ∷ a.environment ≡ env
  env_is = ap (λ n. n ∷ a.environment) long

  round_inner : Around k seats2 bound2 env round
  round_inner = subst (λ b. Around k seats2 bound2 b round) env_is round_there

  stats_round : (ys : List CoreStat) → each (map (stat_may whole) ys) round ≡ true → AllOf (StatRound whole (Around k seats2 bound2) env) ys
  stats_round [] is = tt
  stats_round (y ∷ ys) is =
      let both = and_parts (stat_may whole y round) (each (map (stat_may whole) ys) round) is in
      ((round, both.0, round_inner), stats_round ys both.1)

  inside : Below (length seats2) env
  inside =
      let more : length seats2 ≡ suc (length seats) = longer seats new in
      let less : length seats < length seats2 = omega arith in
      let least : length seats ≤ length seats2 = omega arith in
      subst (λ b. Below (length seats2) b) env_is (below_cons (length seats2) (length seats) a.environment less (below_more (length seats) (length seats2) a.environment least closures.below))

  fits : (own_fits nm f.own ≡ true) × (list_fits core nm f.setup false && list_fits core nm f.body false ≡ true)
  fits = and_parts (own_fits nm f.own) (list_fits core nm f.setup false && list_fits core nm f.body false) (functions_in core nm core.functions place_is f fitting.0 r.function_is)

  code_fits : (list_fits core nm f.setup false ≡ true) × (list_fits core nm f.body false ≡ true)
  code_fits = and_parts (list_fits core nm f.setup false) (list_fits core nm f.body false) fits.1

  setup_at : K2.stats env false f.setup
  setup_at = (stats_round f.setup parts.setup, code_fits.0)

  body_at : K2.stats env false f.body
  body_at = (stats_round f.body parts.body, code_fits.1)

  calling : (r2 : ClosureCall core c s) → Calling core K2 c s r2
  calling r2 =
      let function = same_function core s c r r2 in
      let closure = same_closure core s c r r2 in
      record {
        undeclared = undeclared r2.closure.function r2.function r2.function_is;
        own = subst (λ g. Perhaps (λ (x : Var). K2.fixed x ≡ true) g.own) (sym function) (own_of nm f.own fits.0);
        setup = subst (λ b. K2.stats (inner s b.environment) false r2.function.setup) (sym closure) (subst (λ g. K2.stats env false g.setup) (sym function) setup_at);
        body = subst (λ b. K2.stats (inner s b.environment) false r2.function.body) (sym closure) (subst (λ g. K2.stats env false g.body) (sym function) body_at);
        inside = subst (λ b. K2.inside (inner s b.environment)) (sym closure) (inside, tt);
        more = subst (λ b. OneOf bound bound2 (bound ++ names_in (bindings_of r2.function b c s) ∷ [])) (sym closure) (subst (λ g. OneOf bound bound2 (bound ++ names_in (bindings_of g a c s) ∷ [])) (sym function) (inr refl));
      }

  anew : Anew core K2 s (Calls c)
  anew r2 at = calling r2

  -- ---- behind the call's beginning

  module _ (v : Config) (is : core_step core before ≡ Goes v) where
    either : length bound2 ≡ suc (length bound) → suc (length s.records) ≤ length v.state.records → OneOf bound bound2 (bound_in v) → bound_in v ≡ bound2
    either longer1 more (inl same) =
        let few : length (bound_in v) ≡ length bound = ap (λ bs. length bs) same in
        let one : length (bound_in v) ≡ length v.state.records = same_length v.state.records in
        let two : length bound ≡ length s.records = same_length s.records in
        absurd (omega arith)
    either longer1 more (inr same) = same

    next : Everywhere K2 v
    next = subst (λ m. NextAt K2 m) is (floors_stay core K2 (placed seats2 bound2 (OneOf bound bound2)) before anew moved)

    names_there : bound_in v ≡ bound2
    names_there =
        let place = placed seats2 bound2 (OneOf bound bound2) in
        either (longer bound names) (more_count core nm fitting place.uncelled undeclared K2 place before v r is) next.0.2.shapes

    pub called_stands : Everywhere (standing_at core k ends nm seats2 (bound_in v) (Exactly (bound_in v))) v
    called_stands = finished core k ends nm seats2 bound bound2 before v (placed seats2 bound2 (OneOf bound bound2)) is moved anew names_there

-- ---- so it is for each configuration that is to call

module _ (core : Core) (fixed : Var → Bool) (lawful : IsLawful core) (may : NamesMay core) (fitting : IsFitting core (naming core fixed))
    (placed : (seats : Seats) (bound : Bound) (shapes : List (List Var) → Type 0) → Placed core (standing_at core (known_of core) (ends_of core) (naming core fixed) seats bound shapes)) where
  pub called : (seats : Seats) (s t v : Config) (c : Call) (r : ClosureCall core c s.state) (behind : Closure Own) → s.control ≡ Calls c → slice_get t.state.closures r.number ≡ Some behind
      → Related (owners_of core) seats s t → core_step core s ≡ Goes v → Fitting core fixed s → At core fixed seats s → AllCounts core (whole_of core) seats s
      → StandsBy core fixed (seats ++ call_seat (length t.state.records) (scoped_names r.function) (call_names r.function behind.own.cells) behind.own.cells ∷ []) v
      × AllCounts core (whole_of core) (seats ++ call_seat (length t.state.records) (scoped_names r.function) (call_names r.function behind.own.cells) behind.own.cells ∷ []) v
  called seats s t v c r behind control got related step fitting_here (all, long) counts =
      let st = s.state in
      let same : s ≡ with_control (Calls c) st = ap (λ d. with_control d st) control in
      let related2 : Related (owners_of core) seats (with_control (Calls c) st) t = subst (λ u. Related (owners_of core) seats u t) same related in
      let step2 : core_step core (with_control (Calls c) st) ≡ Goes v = subst (λ u. core_step core u ≡ Goes v) same step in
      let all2 : Everywhere (standing_at core (known_of core) (ends_of core) (naming core fixed) seats (names_of st.records) (Exactly (names_of st.records))) (with_control (Calls c) st) =
      subst (λ u. StandsBy core fixed seats u) same all in
      let counts2 : AllCounts core (whole_of core) seats (with_control (Calls c) st) = subst (λ u. AllCounts core (whole_of core) seats u) same counts in (
        called_stands core fixed lawful may fitting placed seats st t c r behind got related2 long all2 counts2 v step2,
        called_counts core fixed lawful may fitting placed seats st t c r behind got related2 long all2 counts2 v step2,
      )
