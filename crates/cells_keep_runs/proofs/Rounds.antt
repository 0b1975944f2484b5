-- What is round code stays so, and is round what stands in a scope.
use Rattle.std.proofs.Common.{◌≡◌, ◌⊎◌, inl, inr, ◌<◌, ◌≤◌, ℕ, suc, Bool, true, false, not, ◌&&◌, ◌||◌, cond, List, [], ◌∷◌, ◌++◌, map, Option, None, Some, length, nat_eq, nat_le, slice_get, refl, sym, ap, subst, ◌∙◌}
use Rattle.std.specs.Prelude.{if◌then◌else◌, is_some}
use Rattle.std.proofs.lemmas.Bool.{and_parts, eq-eqb, eqb-true}
use Rattle.std.proofs.lemmas.List.{length-map}
use Rattle.core_ast.specs.declared.parts.FunctionId.{FunctionId}
use Rattle.core_ast.specs.declared.parts.ScopedName.{ScopedName}
use Rattle.core_ast.specs.declared.parts.Var.{Var}
use Rattle.core_meaning.specs.Marks.{CoreState, Mark}
use Rattle.core_meaning.specs.Names.{binding_in, record_at}
use Rattle.core_meaning.specs.State.{Binding, Environment}
use Rattle.pass_rules.specs.Cells.{is_among, is_shared}
use Rattle.pass_rules.specs.Scopes.{vars}
use Rattle.cells_keep_runs.specs.Entered.{AllAt, entered_seats, reset_of}
use Rattle.cells_keep_runs.specs.Found.{Bound, FoundAt, LastsAt, Passes, bound_at, first_at, if_bound, lasts_once, lasts_unscoped, names_in, names_of}
use Rattle.cells_keep_runs.specs.Handled.{handled_seats, with_own_image}
use Rattle.cells_keep_runs.specs.MayBeFlattened.{Round, Whole, all_among, in_handler, may_come_often, none_among, parameter_may, scope_may, within}
use Rattle.cells_keep_runs.specs.Memory.{Keeping, Seat, Seats, cell_found, keeping_in, kept_along}
use Rattle.cells_keep_runs.specs.Places.{Below}
use Rattle.cells_keep_runs.specs.Ready.{AllAmong, AllMarked, HandlerReady, ScopeReady}
use Rattle.cells_keep_runs.specs.Renewed.{AllDiffer, NoValue, OwnCell, cells_from}
use Rattle.cells_keep_runs.specs.Rounds.{Away, BaseAt, HandlersAreRound, InnermostAt, IsAlong, LocalAt, NameAt, OwnAt, RoundAt, RoundsStay, ScopeAt, ScopesAreReady, ScopesAreRound, grouped_in, handler_may, home_at, home_in, new_seat, once}
use Rattle.cells_keep_runs.specs.Seen.{image_with, or_image, target_at}
use Rattle.cells_keep_runs.proofs.Found.{among_is, first_past, first_still, found_stays, found_within, index_last, index_left, lasting_stays, lasts_within}
use Rattle.cells_keep_runs.proofs.Grown.{below_here, keeping_stays, slice_left}
use Rattle.cells_keep_runs.proofs.Renewed.{got_last, still_got}
use Rattle.cells_keep_runs.proofs.Stays.{all_at, last_newest, newest_stays, past_target, patterns_seen, scopes_seen, target_stays}
use Rattle.cells_keep_runs.proofs.Writes.{differ, not_none, same_var}

-- ---- a record more

pub home_stays : (seats : Seats) (new : Seat) (e : Environment) → Below (length seats) e → home_at (seats ++ new ∷ []) e ≡ home_at seats e
home_stays seats new [] below = refl
home_stays seats new (n ∷ e) below = ap (λ o. home_in o) (slice_left seats (new ∷ []) n (below_here (length seats) n e below))

module _ (whole : Whole) (seats : Seats) (bound : Bound) (new : Seat) (names : List Var) (e : Environment) (below : Below (length seats) e) (same : length seats ≡ length bound) (away : Away whole seats bound new e) where
  abbrev seats2 : Seats
  seats2 = seats ++ new ∷ []

  abbrev bound2 : Bound
  bound2 = bound ++ names ∷ []

  home_was : home_at seats2 e ≡ home_at seats e
  home_was = home_stays seats new e below

  last_at : (x : Var) → LastsAt whole.owners (once whole) seats bound e x → LastsAt whole.owners (once whole) seats2 bound2 e x
  last_at x f = lasting_stays whole.owners (once whole) seats bound new names e x below same f (λ unshared is scoped homes. away.first x f.number f.here unshared is f.seated scoped homes)

  own_at : (here : List Var) (x : Var) → OwnAt whole seats bound e here x → OwnAt whole seats2 bound2 e here x
  own_at here x o = record {
    among = o.among;
    found = found_stays whole.owners seats bound new names e x below same o.found (λ homes. away.own (o.home ∙ ap (λ h. Some h) (sym homes)) x o.found.number o.found.first);
    home = home_was ∙ o.home;
    loose = o.loose;
  }

  pub name_at : (here : List Var) (x : Var) → NameAt whole seats bound e here x → NameAt whole seats2 bound2 e here x
  name_at here x (inl f) = inl (last_at x f)
  name_at here x (inr o) = inr (own_at here x o)

  abbrev base_at : BaseAt seats e → BaseAt seats2 e
  base_at b = record { number = b.number; seat = b.seat; home = b.home; along = b.along; seated = still_got seats new b.number b.seat b.seated; image = b.image }

  bound_below : (n : ℕ) (outer : Environment) → e ≡ n ∷ outer → n < length bound
  bound_below n outer is = subst (λ k. n < k) same (below_here (length seats) n outer (subst (λ a. Below (length seats) a) is below))

  -- a name of the innermost record is found there
  first_here : (n : ℕ) (outer : Environment) (xs : List Var) (x : Var) → e ≡ n ∷ outer → bound_at bound n ≡ xs → is_among x xs ≡ true → first_at bound e x ≡ Some n
  first_here n outer xs x is named among = ap (λ a. first_at bound a x) is ∙ ap (λ ys. if_bound (is_among x ys) n (first_at bound outer x)) named ∙ ap (λ b. if_bound b n (first_at bound outer x)) among

  scope_at : (here xs : List Var) → ScopeAt seats bound e here xs → ScopeAt seats2 bound2 e here xs
  scope_at here xs c = record {
    number = c.number;
    outer = c.outer;
    seat = c.seat;
    is = c.is;
    seated = still_got seats new c.number c.seat c.seated;
    scope = c.scope;
    scoped = c.scoped;
    bound_is = index_left bound (names ∷ []) c.number (bound_below c.number c.outer c.is) ∙ c.bound_is;
    unnamed = c.unnamed;
    uncelled = c.uncelled;
    unkeeping = c.unkeeping;
    own = c.own;
    newest = λ x among. newest_stays seats c.seat new c.number x c.seated
        (λ homes. away.own (ap (λ a. home_at seats a) c.is ∙ ap (λ o. home_in o) c.seated ∙ ap (λ h. Some h) (sym homes)) x c.number (first_here c.number c.outer xs x c.is c.bound_is among)) (c.newest x among);
    found = λ x among. target_stays seats (new ∷ []) e x below ∙ c.found x among;
  }

  pub innermost_at : (here : List Var) (o : Option (List ScopedName)) → InnermostAt seats bound e here o → InnermostAt seats2 bound2 e here o
  innermost_at here None c = tt
  innermost_at here (Some xs) c = scope_at here (vars xs) c

  pub local_at : (seat : Seat) (home : ℕ) (x : Var) → LocalAt seats e seat home x → LocalAt seats2 e seat home x
  local_at seat home x l = record { target = target_stays seats (new ∷ []) e x below ∙ l.target; local = l.local; unkept = l.unkept }

abbrev pub rounds_stay : RoundsStay
rounds_stay whole kept declarer seats bound new names e r below same away at =
    record {
      names = λ x among. name_at whole seats bound new names e below same away r.here x (at.names x among);
      base = base_at whole seats bound new names e below same away at.base;
      activation = ap (λ o. grouped_in whole o) (home_stays seats new e below) ∙ at.activation;
      at_home = λ x among. home_stays seats new e below ∙ at.at_home x among;
      locals = λ x among. local_at whole seats bound new names e below same away at.base.seat at.base.home x (at.locals x among);
      unbound = λ x local away2. first_still seats bound names e x below same ∙ at.unbound x local away2;
      innermost = innermost_at whole seats bound new names e below same away r.here r.innermost at.innermost;
      above = λ x n first. at.above x n (sym (first_still seats bound names e x below same) ∙ first);
      declared = at.declared;
      keeps = λ f x is. keeping_stays seats (new ∷ []) e f x below ∙ at.keeps f x is;
    }

-- ---- lists of names

pub all_in : (xs ys : List Var) (x : Var) → all_among xs ys ≡ true → is_among x xs ≡ true → is_among x ys ≡ true
all_in [] ys x all among = cc
all_in (y ∷ xs) ys x all among =
    let both = and_parts (is_among y ys) (all_among xs ys) all in
    by_name (nat_eq y.0 x.0) refl among both.0 (λ further. all_in xs ys x both.1 further)
  where
    by_name : (b : Bool) → nat_eq y.0 x.0 ≡ b → b || is_among x xs ≡ true → is_among y ys ≡ true → (is_among x xs ≡ true → is_among x ys ≡ true) → is_among x ys ≡ true
    by_name true e here is on = ap (λ z. is_among z ys) (sym (same_var y x (eqb-true y.0 x.0 e))) ∙ is
    by_name false e here is on = on here

pub not_true : (b : Bool) → not b ≡ true → b ≡ false
not_true true h = cc
not_true false h = refl

pub none_in : (xs ys : List Var) (x : Var) → none_among xs ys ≡ true → is_among x xs ≡ true → is_among x ys ≡ false
none_in [] ys x all among = cc
none_in (y ∷ xs) ys x all among =
    let both = and_parts (not (is_among y ys)) (none_among xs ys) all in
    by_name (nat_eq y.0 x.0) refl among (not_true (is_among y ys) both.0) (λ further. none_in xs ys x both.1 further)
  where
    by_name : (b : Bool) → nat_eq y.0 x.0 ≡ b → b || is_among x xs ≡ true → is_among y ys ≡ false → (is_among x xs ≡ true → is_among x ys ≡ false) → is_among x ys ≡ false
    by_name true e here is on = ap (λ z. is_among z ys) (sym (same_var y x (eqb-true y.0 x.0 e))) ∙ is
    by_name false e here is on = on here

-- a name of the second list isn't one of the first
pub none_back : (xs ys : List Var) (x : Var) → none_among xs ys ≡ true → is_among x ys ≡ true → is_among x xs ≡ false
none_back xs ys x all among = by_there (is_among x xs) refl
  where
    by_there : (b : Bool) → is_among x xs ≡ b → b ≡ false
    by_there true e = absurd (differ (is_among x ys) among (none_in xs ys x all e))
    by_there false e = refl

pub or_cases : (xs ys : List Var) (x : Var) → is_among x (xs ++ ys) ≡ true → (is_among x xs ≡ true) ⊎ (is_among x ys ≡ true)
or_cases [] ys x among = inr among
or_cases (y ∷ xs) ys x among = by_name (nat_eq y.0 x.0) refl among (λ further. or_cases xs ys x further)
  where
    by_name : (b : Bool) → nat_eq y.0 x.0 ≡ b → b || is_among x (xs ++ ys) ≡ true → (is_among x (xs ++ ys) ≡ true → (is_among x xs ≡ true) ⊎ (is_among x ys ≡ true)) → (nat_eq y.0 x.0 || is_among x xs ≡ true) ⊎ (is_among x ys ≡ true)
    by_name true e here on = inl (ap (λ b. b || is_among x xs) e)
    by_name false e here on = with_first (on here)
      where
        with_first : (is_among x xs ≡ true) ⊎ (is_among x ys ≡ true) → (nat_eq y.0 x.0 || is_among x xs ≡ true) ⊎ (is_among x ys ≡ true)
        with_first (inl is) = inl (ap (λ b. b || is_among x xs) e ∙ is)
        with_first (inr is) = inr is

pub left_in : (xs ys : List Var) (x : Var) → is_among x xs ≡ true → is_among x (xs ++ ys) ≡ true
left_in [] ys x among = cc
left_in (y ∷ xs) ys x among = by_name (nat_eq y.0 x.0) among (λ further. left_in xs ys x further)
  where
    by_name : (b : Bool) → b || is_among x xs ≡ true → (is_among x xs ≡ true → is_among x (xs ++ ys) ≡ true) → b || is_among x (xs ++ ys) ≡ true
    by_name true here on = refl
    by_name false here on = on here

pub right_in : (xs ys : List Var) (x : Var) → is_among x ys ≡ true → is_among x (xs ++ ys) ≡ true
right_in [] ys x among = among
right_in (y ∷ xs) ys x among = by_name (nat_eq y.0 x.0) (right_in xs ys x among)
  where
    by_name : (b : Bool) → is_among x (xs ++ ys) ≡ true → b || is_among x (xs ++ ys) ≡ true
    by_name true on = refl
    by_name false on = on

pub apart_left : (xs ys : List Var) (x : Var) → is_among x (xs ++ ys) ≡ false → is_among x xs ≡ false
apart_left xs ys x away = by_there (is_among x xs) refl
  where
    by_there : (b : Bool) → is_among x xs ≡ b → b ≡ false
    by_there true e = absurd (differ (is_among x (xs ++ ys)) (left_in xs ys x e) away)
    by_there false e = refl

pub apart_right : (xs ys : List Var) (x : Var) → is_among x (xs ++ ys) ≡ false → is_among x ys ≡ false
apart_right xs ys x away = by_there (is_among x ys) refl
  where
    by_there : (b : Bool) → is_among x ys ≡ b → b ≡ false
    by_there true e = absurd (differ (is_among x (xs ++ ys)) (right_in xs ys x e) away)
    by_there false e = refl

pub or_later : (a b : Bool) → b ≡ true → a || b ≡ true
or_later true b is = refl
or_later false b is = is

-- ---- a scope is ready

-- what isn't bound along an environment isn't bound in a record of it
unbound_at : (bound : Bound) (e : Environment) (n : ℕ) (x : Var) → IsAlong n e → first_at bound e x ≡ None → is_among x (bound_at bound n) ≡ false
unbound_at bound [] n x along none = absurd along
unbound_at bound (m ∷ e) n x along none = by_bound (is_among x (bound_at bound m)) refl none along (λ further first. unbound_at bound e n x further first)
  where
    by_bound : (b : Bool) → is_among x (bound_at bound m) ≡ b → if_bound b m (first_at bound e x) ≡ None → (m ≡ n) ⊎ IsAlong n e → (IsAlong n e → first_at bound e x ≡ None → is_among x (bound_at bound n) ≡ false) → is_among x (bound_at bound n) ≡ false
    by_bound true e2 first at on = absurd (not_none (Some m) m refl first)
    by_bound false e2 first (inl here) on = ap (λ k. is_among x (bound_at bound k)) (sym here) ∙ e2
    by_bound false e2 first (inr further) on = on further first

none_bound : (o : Option (Binding Mark)) (b : Bool) → b ≡ is_some o → b ≡ false → o ≡ None
none_bound None b is away = refl
none_bound (Some q) b is away = absurd (differ b is away)

scope_parts : (whole : Whole) (names : List ScopedName) (r : Round) → scope_may whole names r ≡ true
    → (all_among (vars names) r.locals ≡ true) × (none_among (vars names) r.names ≡ true) × (not r.in_loop || may_come_often whole (vars names) ≡ true)
scope_parts whole names r may =
    let first = and_parts (all_among (vars names) r.locals && none_among (vars names) r.names) (not r.in_loop || may_come_often whole (vars names)) may in
    let second = and_parts (all_among (vars names) r.locals) (none_among (vars names) r.names) first.0 in
    (second.0, second.1, first.1)

module _ (whole : Whole) (kept : Keeping) (declarer : Var → ℕ) (seats : Seats) (s : CoreState) (r : Round) (at : RoundAt whole kept declarer seats (names_of s.records) s.context.environment r) where
  abbrev e0 : Environment
  e0 = s.context.environment

  abbrev bound0 : Bound
  bound0 = names_of s.records

  pub targets : (names : List ScopedName) → ((x : Var) → is_among x (vars names) ≡ true → target_at seats e0 x ≡ Some at.base.home) → AllAt seats e0 at.base.home names
  targets [] h = tt
  targets (n ∷ names) h = (h n.var (ap (λ b. b || is_among n.var (vars names)) (eq-eqb n.var.0 n.var.0 refl)), targets names (λ x among. h x (or_later (nat_eq n.var.0 x.0) (is_among x (vars names)) among)))

  pub all_local : (names : List ScopedName) → ((x : Var) → is_among x (vars names) ≡ true → is_among x at.base.seat.locals ≡ true) → AllAmong at.base.seat.locals names
  all_local [] h = tt
  all_local (n ∷ names) h = (h n.var (ap (λ b. b || is_among n.var (vars names)) (eq-eqb n.var.0 n.var.0 refl)), all_local names (λ x among. h x (or_later (nat_eq n.var.0 x.0) (is_among x (vars names)) among)))

  module _ (names : List ScopedName) (may : scope_may whole names r ≡ true) where
    pub local_of : (x : Var) → is_among x (vars names) ≡ true → is_among x r.locals ≡ true
    local_of x among = all_in (vars names) r.locals x (scope_parts whole names r may).0 among

    new_name : (x : Var) → is_among x (vars names) ≡ true → is_among x r.names ≡ false
    new_name x among = none_in (vars names) r.names x (scope_parts whole names r may).1 among

    nowhere_bound : (x : Var) → is_among x (vars names) ≡ true → first_at bound0 e0 x ≡ None
    nowhere_bound x among = at.unbound x (local_of x among) (new_name x among)

    pub clear_at : (x : Var) → is_among x (vars names) ≡ true → binding_in (record_at s.records at.base.number) x ≡ None
    clear_at x among =
        none_bound (binding_in (record_at s.records at.base.number) x) (is_among x (bound_at bound0 at.base.number)) (among_is s.records at.base.number x)
        (unbound_at bound0 e0 at.base.number x at.base.along (nowhere_bound x among))

    abbrev ready_of : AllDiffer (map reset_of names) → AllMarked whole.owners names → ScopeReady whole.owners seats s names
    ready_of differ_all marked = record {
      number = at.base.number;
      seat = at.base.seat;
      home = at.base.home;
      seated = at.base.seated;
      image = at.base.image;
      at = targets names (λ x among. (at.locals x (local_of x among)).target);
      differ = differ_all;
      marked = marked;
      locals = all_local names (λ x among. (at.locals x (local_of x among)).local);
      clear = clear_at;
      unkept = λ x among. (at.locals x (local_of x among)).unkept;
    }

pub scopes_ready : ScopesAreReady
scopes_ready whole kept declarer seats s names r at may differ_all marked = (ready_of whole kept declarer seats s r at names may differ_all marked, refl)

-- ---- and is round what stands in it

cells_none : (names : List ScopedName) (k : ℕ) (x : Var) → is_among x (vars names) ≡ false → cell_found (cells_from k (map reset_of names)) x ≡ None
cells_none [] k x away = refl
cells_none (n ∷ names) k x away = by_mark n.shared (nat_eq n.var.0 x.0) refl refl away (λ j h. cells_none names j x h)
  where
    by_mark : (shared same : Bool) → n.shared ≡ shared → nat_eq n.var.0 x.0 ≡ same → same || is_among x (vars names) ≡ false → ((j : ℕ) → is_among x (vars names) ≡ false → cell_found (cells_from j (map reset_of names)) x ≡ None)
        → cell_found (cells_from k (reset_of n ∷ map reset_of names)) x ≡ None
    by_mark shared true is e h on = absurd (differ true refl h)
    by_mark true false is e h on =
        ap (λ b. cell_found (cells_from k (cond b (OwnCell n.var None) (NoValue n.var) ∷ map reset_of names)) x) is
        ∙ ap (λ b. if b then Some k else cell_found (cells_from (suc k) (map reset_of names)) x) e ∙ on (suc k) h
    by_mark false false is e h on =
        ap (λ b. cell_found (cells_from k (cond b (OwnCell n.var None) (NoValue n.var) ∷ map reset_of names)) x) is ∙ on k h

module _ (whole : Whole) (kept : Keeping) (declarer : Var → ℕ) (seats : Seats) (s : CoreState) (names : List ScopedName) (k : ℕ) (r : Round)
    (ready : ScopeReady whole.owners seats s names) (below : Below (length seats) s.context.environment) (long : length seats ≡ length s.records)
    (at : RoundAt whole kept declarer seats (names_of s.records) s.context.environment r) (may : scope_may whole names r ≡ true) (homes : ready.home ≡ at.base.home)
    (away : Away whole seats (names_of s.records) (new_seat ready.home names k) s.context.environment) where
  abbrev e1 : Environment
  e1 = s.context.environment

  abbrev new1 : Seat
  new1 = new_seat ready.home names k

  abbrev seats3 : Seats
  seats3 = entered_seats seats ready.home names k

  abbrev bound3 : Bound
  bound3 = names_of s.records ++ vars names ∷ []

  abbrev e3 : Environment
  e3 = length seats ∷ e1

  as_long : length seats ≡ length (names_of s.records)
  as_long = long ∙ sym (length-map s.records names_in)

  abbrev stayed : RoundAt whole kept declarer seats3 bound3 e1 r
  stayed = rounds_stay whole kept declarer seats (names_of s.records) new1 (vars names) e1 r below as_long away at

  new_at : slice_get seats3 (length seats) ≡ Some new1
  new_at = got_last seats new1

  named3 : bound_at bound3 (length seats) ≡ vars names
  named3 = index_last (names_of s.records) (vars names) (length seats) as_long

  passes3 : (x : Var) → is_among x (vars names) ≡ false → Passes seats3 bound3 (length seats) x
  passes3 x apart = record { seat = new1; seated = new_at; unbound = ap (λ ys. is_among x ys) named3 ∙ apart; unnamed = refl; uncelled = cells_none names k x apart }

  home3 : home_at seats3 e3 ≡ Some ready.home
  home3 = ap (λ o. home_in o) new_at

  target3 : (x : Var) → is_among x (vars names) ≡ true → target_at seats3 e3 x ≡ Some ready.home
  target3 x among =
      past_target seats3 new1 (length seats) e1 x new_at refl ∙ target_stays seats (new1 ∷ []) e1 x below ∙ all_at seats e1 ready.home names x ready.at among

  first3 : (x : Var) → is_among x (vars names) ≡ true → first_at bound3 e3 x ≡ Some (length seats)
  first3 x among = ap (λ ys. if_bound (is_among x ys) (length seats) (first_at bound3 e1 x)) named3 ∙ ap (λ b. if_bound b (length seats) (first_at bound3 e1 x)) among

  abbrev found3 : (x : Var) → is_among x (vars names) ≡ true → FoundAt whole.owners seats3 bound3 e3 x
  found3 x among = record { number = length seats; here = new1; first = first3 x among; seated = new_at; sees = scopes_seen whole.owners seats s names k x ready below among }

  own3 : (x : Var) → is_among x (vars names) ≡ true → (is_shared whole.owners x ≡ true) ⊎ (once whole x ≡ false) → OwnAt whole seats3 bound3 e3 (vars names ++ r.here) x
  own3 x among loose = record { among = left_in (vars names) r.here x among; found = found3 x among; home = home3; loose = loose }

  entered_name : (x : Var) → is_among x (vars names) ≡ true → (shared once1 : Bool) → is_shared whole.owners x ≡ shared → once whole x ≡ once1 → NameAt whole seats3 bound3 e3 (vars names ++ r.here) x
  entered_name x among true once1 is is2 = inr (own3 x among (inl is))
  entered_name x among false false is is2 = inr (own3 x among (inr is2))
  entered_name x among false true is is2 =
      inl (record { number = length seats; here = new1; first = first3 x among; seated = new_at; lasting = lasts_once is among is2 (last_newest seats new1 x) (target3 x among) })

  outer_name : (x : Var) → is_among x (vars names) ≡ false → is_among x r.names ≡ true → NameAt whole seats3 bound3 e1 r.here x → NameAt whole seats3 bound3 e3 (vars names ++ r.here) x
  outer_name x apart among (inl f) = inl (lasts_within whole.owners (once whole) seats3 bound3 (length seats) e1 x (passes3 x apart) f)
  outer_name x apart among (inr o) = inr (record {
    among = right_in (vars names) r.here x o.among;
    found = found_within whole.owners seats3 bound3 (length seats) e1 x (passes3 x apart) o.found;
    home = home3 ∙ ap (λ h. Some h) homes ∙ sym (stayed.at_home x o.among) ∙ o.home;
    loose = o.loose;
  })

  name3 : (x : Var) → (is_among x (vars names) ≡ true) ⊎ (is_among x r.names ≡ true) → NameAt whole seats3 bound3 e3 (vars names ++ r.here) x
  name3 x (inl new) = entered_name x new (is_shared whole.owners x) (once whole x) refl refl
  name3 x (inr old) = outer_name x (none_back (vars names) r.names x (scope_parts whole names r may).1 old) old (stayed.names x old)

  above3 : (x : Var) (n : ℕ) (b : Bool) → is_among x (vars names) ≡ b → first_at bound3 e3 x ≡ Some n → r.functions ≤ declarer x
  above3 x n true is first = at.declared x (all_in (vars names) r.locals x (scope_parts whole names r may).0 is)
  above3 x n false is first = stayed.above x n (sym (first_past bound3 (length seats) e1 x (ap (λ ys. is_among x ys) named3 ∙ is)) ∙ first)

  keeps3 : (f : FunctionId) (x : Var) → is_among x (kept f) ≡ true → kept_along seats3 e3 f x ≡ true
  keeps3 f x is = ap (λ o. is_among x (keeping_in o f) || kept_along seats3 e1 f x) new_at ∙ stayed.keeps f x is

  round3 : RoundAt whole kept declarer seats3 bound3 e3 (within names r)
  round3 = record {
    names = λ x among. name3 x (or_cases (vars names) r.names x among);
    base = record { number = stayed.base.number; seat = stayed.base.seat; home = stayed.base.home; along = inr stayed.base.along; seated = stayed.base.seated; image = stayed.base.image };
    activation = ap (λ o. grouped_in whole o) (home3 ∙ ap (λ h. Some h) homes);
    at_home = λ x among. home3 ∙ ap (λ h. Some h) homes;
    locals = λ x local. record {
      target = past_target seats3 new1 (length seats) e1 x new_at refl ∙ (stayed.locals x local).target;
      local = (stayed.locals x local).local;
      unkept = (stayed.locals x local).unkept;
    };
    unbound = λ x local apart.
        first_past bound3 (length seats) e1 x (ap (λ ys. is_among x ys) named3 ∙ apart_left (vars names) r.names x apart) ∙ stayed.unbound x local (apart_right (vars names) r.names x apart);
    innermost = record {
      number = length seats;
      outer = e1;
      seat = new1;
      is = refl;
      seated = new_at;
      scope = refl;
      scoped = refl;
      bound_is = named3;
      unnamed = refl;
      uncelled = λ x apart. cells_none names k x apart;
      unkeeping = λ f x. refl;
      own = λ x among. left_in (vars names) r.here x among;
      newest = λ x among. last_newest seats new1 x;
      found = target3;
    };
    above = λ x n first. above3 x n (is_among x (vars names)) refl first;
    declared = at.declared;
    keeps = keeps3;
  }

pub scopes_round : ScopesAreRound
scopes_round whole kept declarer seats s names k r ready below long at may homes away = round3 whole kept declarer seats s names k r ready below long at may homes away

-- ---- a handler

parameter_parts : (whole : Whole) (x : Var) (names : List ScopedName) (r : Round) → parameter_may whole x names r ≡ true
    → (is_among x r.locals ≡ false) × (is_among x r.names ≡ false) × (is_shared whole.owners x ≡ false) × (is_among x (vars names) ≡ false)
parameter_parts whole x names r may0 =
    let may = (and_parts (not (is_among x r.locals) && not (is_among x r.names) && not (is_shared whole.owners x) && not (is_among x (vars names))) (nat_le r.functions (whole.declarer x)) may0).0 in
    let last = and_parts (not (is_among x r.locals) && not (is_among x r.names) && not (is_shared whole.owners x)) (not (is_among x (vars names))) may in
    let third = and_parts (not (is_among x r.locals) && not (is_among x r.names)) (not (is_shared whole.owners x)) last.0 in
    let second = and_parts (not (is_among x r.locals)) (not (is_among x r.names)) third.0 in
    (not_true (is_among x r.locals) second.0, not_true (is_among x r.names) second.1, not_true (is_shared whole.owners x) third.1, not_true (is_among x (vars names)) last.1)

-- another name, of which this list says so
not_this : (x y : Var) (ys : List Var) → is_among x ys ≡ false → is_among y ys ≡ true → nat_eq x.0 y.0 ≡ false
not_this x y ys away among = by_name (nat_eq x.0 y.0) refl
  where
    by_name : (b : Bool) → nat_eq x.0 y.0 ≡ b → b ≡ false
    by_name true e = absurd (differ (is_among x ys) (ap (λ z. is_among z ys) (same_var x y (eqb-true x.0 y.0 e)) ∙ among) away)
    by_name false e = refl

first_away : (a b : Bool) → a || b ≡ false → a ≡ false
first_away true b h = h
first_away false b h = refl

rest_away : (a b : Bool) → a || b ≡ false → b ≡ false
rest_away true b h = absurd (differ true refl h)
rest_away false b h = h

module _ (whole : Whole) (kept : Keeping) (declarer : Var → ℕ) (seats : Seats) (s : CoreState) (x : Var) (names : List ScopedName) (i k : ℕ) (r : Round)
    (ready : HandlerReady whole.owners seats s x names) (below : Below (length seats) s.context.environment) (long : length seats ≡ length s.records)
    (at : RoundAt whole kept declarer seats (names_of s.records) s.context.environment r) (may : handler_may whole x names r) (homes : ready.pattern.home ≡ at.base.home)
    (declared : r.functions ≤ declarer x)
    (away : Away whole seats (names_of s.records) (with_own_image i x (new_seat ready.pattern.home names k)) s.context.environment) where
  abbrev e4 : Environment
  e4 = s.context.environment

  abbrev new4 : Seat
  new4 = with_own_image i x (new_seat ready.pattern.home names k)

  abbrev seats5 : Seats
  seats5 = handled_seats seats i x ready.pattern.home names k

  abbrev bound5 : Bound
  bound5 = names_of s.records ++ (x ∷ vars names) ∷ []

  abbrev e5 : Environment
  e5 = length seats ∷ e4

  parts4 : (is_among x r.locals ≡ false) × (is_among x r.names ≡ false) × (is_shared whole.owners x ≡ false) × (is_among x (vars names) ≡ false)
  parts4 = parameter_parts whole x names r may.0

  long4 : length seats ≡ length (names_of s.records)
  long4 = long ∙ sym (length-map s.records names_in)

  abbrev stayed4 : RoundAt whole kept declarer seats5 bound5 e4 r
  stayed4 = rounds_stay whole kept declarer seats (names_of s.records) new4 (x ∷ vars names) e4 r below long4 away at

  new_at4 : slice_get seats5 (length seats) ≡ Some new4
  new_at4 = got_last seats new4

  named5 : bound_at bound5 (length seats) ≡ x ∷ vars names
  named5 = index_last (names_of s.records) (x ∷ vars names) (length seats) long4

  passes5 : (y : Var) → nat_eq x.0 y.0 ≡ false → is_among y (vars names) ≡ false → Passes seats5 bound5 (length seats) y
  passes5 y other apart = record {
    seat = new4;
    seated = new_at4;
    unbound = ap (λ ys. is_among y ys) named5 ∙ ap (λ b. b || is_among y (vars names)) other ∙ apart;
    unnamed = ap (λ b. b || false) other;
    uncelled = cells_none names k y apart;
  }

  home5 : home_at seats5 e5 ≡ Some ready.pattern.home
  home5 = ap (λ o. home_in o) new_at4

  -- the target finds past the handler's record what isn't its parameter
  target_past5 : (y : Var) → nat_eq x.0 y.0 ≡ false → target_at seats5 e5 y ≡ target_at seats5 e4 y
  target_past5 y other = past_target seats5 new4 (length seats) e4 y new_at4 (ap (λ b. b || false) other)

  target5 : (y : Var) → is_among y (vars names) ≡ true → target_at seats5 e5 y ≡ Some ready.pattern.home
  target5 y among =
      target_past5 y (not_this x y (vars names) parts4.3 among) ∙ target_stays seats (new4 ∷ []) e4 y below ∙ all_at seats e4 ready.pattern.home names y ready.pattern.at among

  first5 : (y : Var) → is_among y (x ∷ vars names) ≡ true → first_at bound5 e5 y ≡ Some (length seats)
  first5 y among = ap (λ ys. if_bound (is_among y ys) (length seats) (first_at bound5 e4 y)) named5 ∙ ap (λ b. if_bound b (length seats) (first_at bound5 e4 y)) among

  in_pattern : (y : Var) → is_among y (vars names) ≡ true → is_among y (x ∷ vars names) ≡ true
  in_pattern y among = or_later (nat_eq x.0 y.0) (is_among y (vars names)) among

  own5 : (y : Var) → is_among y (vars names) ≡ true → (is_shared whole.owners y ≡ true) ⊎ (once whole y ≡ false) → OwnAt whole seats5 bound5 e5 (vars names ++ r.here) y
  own5 y among loose = record {
    among = left_in (vars names) r.here y among;
    found = record { number = length seats; here = new4; first = first5 y (in_pattern y among); seated = new_at4; sees = patterns_seen whole.owners seats s x names i k y ready below among };
    home = home5;
    loose = loose;
  }

  pattern_name : (y : Var) → is_among y (vars names) ≡ true → (shared once1 : Bool) → is_shared whole.owners y ≡ shared → once whole y ≡ once1 → NameAt whole seats5 bound5 e5 (vars names ++ r.here) y
  pattern_name y among true once1 is is2 = inr (own5 y among (inl is))
  pattern_name y among false false is is2 = inr (own5 y among (inr is2))
  pattern_name y among false true is is2 =
      inl (record { number = length seats; here = new4; first = first5 y (in_pattern y among); seated = new_at4; lasting = lasts_once is among is2 (last_newest seats new4 y) (target5 y among) })

  -- the parameter is in the handler's own image
  parameter_name : NameAt whole seats5 bound5 e5 (vars names ++ r.here) x
  parameter_name =
      let own : is_among x (x ∷ []) ≡ true = ap (λ b. b || false) (eq-eqb x.0 x.0 refl) in
      let outer = target_at seats5 e4 x in
      let target : target_at seats5 e5 x ≡ Some i = ap (λ o. image_with o x outer) new_at4 ∙ ap (λ b. if b then or_image (Some i) outer else outer) own in
      inl (record {
        number = length seats;
        here = new4;
        first = first5 x (ap (λ b. b || is_among x (vars names)) (eq-eqb x.0 x.0 refl));
        seated = new_at4;
        lasting = lasts_unscoped i parts4.2 refl parts4.3 target;
      })

  further_name : (y : Var) → nat_eq x.0 y.0 ≡ false → is_among y (vars names) ≡ false → NameAt whole seats5 bound5 e4 r.here y → NameAt whole seats5 bound5 e5 (vars names ++ r.here) y
  further_name y other apart (inl f) = inl (lasts_within whole.owners (once whole) seats5 bound5 (length seats) e4 y (passes5 y other apart) f)
  further_name y other apart (inr o) = inr (record {
    among = right_in (vars names) r.here y o.among;
    found = found_within whole.owners seats5 bound5 (length seats) e4 y (passes5 y other apart) o.found;
    home = home5 ∙ ap (λ h. Some h) homes ∙ sym (stayed4.at_home y o.among) ∙ o.home;
    loose = o.loose;
  })

  name_by : (y : Var) → nat_eq x.0 y.0 ≡ false → (is_among y (vars names) ≡ true) ⊎ (is_among y r.names ≡ true) → NameAt whole seats5 bound5 e5 (vars names ++ r.here) y
  name_by y other (inl new) = pattern_name y new (is_shared whole.owners y) (once whole y) refl refl
  name_by y other (inr old) = further_name y other (none_back (vars names) r.names y (scope_parts whole names r may.1).1 old) (stayed4.names y old)

  name5 : (y : Var) (b : Bool) → nat_eq x.0 y.0 ≡ b → b || is_among y (vars names ++ r.names) ≡ true → NameAt whole seats5 bound5 e5 (vars names ++ r.here) y
  name5 y true same among = subst (λ z. NameAt whole seats5 bound5 e5 (vars names ++ r.here) z) (same_var x y (eqb-true x.0 y.0 same)) parameter_name
  name5 y false same among = name_by y same (or_cases (vars names) r.names y among)

  declared_by5 : (y : Var) (b : Bool) → nat_eq x.0 y.0 ≡ b → b || is_among y (vars names) ≡ true → r.functions ≤ declarer y
  declared_by5 y true same is = subst (λ z. r.functions ≤ declarer z) (same_var x y (eqb-true x.0 y.0 same)) declared
  declared_by5 y false same is = at.declared y (all_in (vars names) r.locals y (scope_parts whole names r may.1).0 is)

  above5 : (y : Var) (n : ℕ) (b : Bool) → is_among y (x ∷ vars names) ≡ b → first_at bound5 e5 y ≡ Some n → r.functions ≤ declarer y
  above5 y n true is first = declared_by5 y (nat_eq x.0 y.0) refl is
  above5 y n false is first = stayed4.above y n (sym (first_past bound5 (length seats) e4 y (ap (λ ys. is_among y ys) named5 ∙ is)) ∙ first)

  keeps5 : (f : FunctionId) (y : Var) → is_among y (kept f) ≡ true → kept_along seats5 e5 f y ≡ true
  keeps5 f y is = ap (λ o. is_among y (keeping_in o f) || kept_along seats5 e4 f y) new_at4 ∙ stayed4.keeps f y is

  unbound5 : (y : Var) → is_among y r.locals ≡ true → nat_eq x.0 y.0 || is_among y (vars names ++ r.names) ≡ false → first_at bound5 e5 y ≡ None
  unbound5 y local apart =
      let other : nat_eq x.0 y.0 ≡ false = first_away (nat_eq x.0 y.0) (is_among y (vars names ++ r.names)) apart in
      let rest : is_among y (vars names ++ r.names) ≡ false = rest_away (nat_eq x.0 y.0) (is_among y (vars names ++ r.names)) apart in
      first_past bound5 (length seats) e4 y (ap (λ ys. is_among y ys) named5 ∙ ap (λ b. b || is_among y (vars names)) other ∙ apart_left (vars names) r.names y rest)
      ∙ stayed4.unbound y local (apart_right (vars names) r.names y rest)

  round5 : RoundAt whole kept declarer seats5 bound5 e5 (in_handler x names r)
  round5 = record {
    names = λ y among. name5 y (nat_eq x.0 y.0) refl among;
    base = record { number = stayed4.base.number; seat = stayed4.base.seat; home = stayed4.base.home; along = inr stayed4.base.along; seated = stayed4.base.seated; image = stayed4.base.image };
    activation = ap (λ o. grouped_in whole o) (home5 ∙ ap (λ h. Some h) homes);
    at_home = λ y among. home5 ∙ ap (λ h. Some h) homes;
    locals = λ y local. record {
      target = target_past5 y (not_this x y r.locals parts4.0 local) ∙ (stayed4.locals y local).target;
      local = (stayed4.locals y local).local;
      unkept = (stayed4.locals y local).unkept;
    };
    unbound = unbound5;
    innermost = tt;
    above = λ y n first. above5 y n (is_among y (x ∷ vars names)) refl first;
    declared = at.declared;
    keeps = keeps5;
  }

pub handlers_round : HandlersAreRound
handlers_round whole kept declarer seats s x names i k r ready below long at may homes declared away = round5 whole kept declarer seats s x names i k r ready below long at may homes declared away
