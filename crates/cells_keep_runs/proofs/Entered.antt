-- Scopes are entered alike.
use Rattle.std.specs.Option.{option_map}
use Rattle.std.proofs.Common.{◌≡◌, ℕ, ◌+◌, ◌<◌, Bool, true, false, ◌&&◌, cond, List, [], ◌∷◌, ◌++◌, map, None, Some, length, nat_eq, slice_get, refl, sym, ap, arith, subst, ◌∙◌}
use Rattle.std.specs.Prelude.{if◌then◌else◌}
use Rattle.std.proofs.lemmas.List.{append_assoc, length_push}
use Rattle.runs.specs.Run.{Goes}
use Rattle.core_ast.specs.declared.parts.ScopedName.{ScopedName}
use Rattle.core_ast.specs.declared.parts.Var.{Var}
use Rattle.core_ast.specs.declared.tree.CoreLink.TheOpen as layer
use Rattle.core_ast.specs.declared.tree.CoreStat.{CoreStat, out-CoreStat}
use Rattle.core_ast.specs.declared.whole.Core.{Core}
use Rattle.core_meaning.specs.Cells.{uninitialized}
use Rattle.core_meaning.specs.Marks.{Cell, CoreState, Mark, empty}
use Rattle.core_meaning.specs.Modules.{core_step, rows, stat_of}
use Rattle.core_meaning.specs.Names.{Resolved, binding_in, initialized, record_at, resolve, stored_at}
use Rattle.core_meaning.specs.Rows.{pushed, with_control}
use Rattle.core_meaning.specs.State.{CoreValue, Environment, EnvironmentRecord, Extra, Rest, Restore, Run}
use Rattle.core_meaning.specs.Statements.{begin_stat}
use Rattle.core_meaning.specs.Step.{step}
use Rattle.pass_rules.specs.Scopes.{reset, stats_flat, vars}
use Rattle.cells_keep_runs.specs.Entered.{AllAt, ScopesAreEnteredAlike, entered_seats, reset_of}
use Rattle.cells_keep_runs.specs.Memory.{OpenAt, Seat, Seats, image_in, images, with_image}
use Rattle.cells_keep_runs.specs.Passed.{scope_entered}
use Rattle.cells_keep_runs.specs.Places.{Below, rebound, written}
use Rattle.cells_keep_runs.specs.Related.{BelowScopes, IsScope, Stand, a_scope, at_statements}
use Rattle.cells_keep_runs.specs.Renewed.{AllNamed, Held, NewScope, NoValue, OwnCell, all_renewed, renewed_by, renewed_name, scope_seat}
use Rattle.cells_keep_runs.specs.Seen.{target_at}
use Rattle.cells_keep_runs.specs.Shapes.{became}
use Rattle.cells_keep_runs.specs.Ways.{AreOpen, IsOpen, Way, all_reset, reset_steps, with_new_cell, with_own_cell}
use Rattle.cells_keep_runs.proofs.Grown.{below_cons, below_more, environments_stay, frames_stay, states_stay, tail_below, tail_stays}
use Rattle.cells_keep_runs.proofs.Places.{seen}
use Rattle.cells_keep_runs.proofs.Renewed.{got_last, scopes_remembered}
use Rattle.cells_keep_runs.proofs.Seen.{FoundAt, FoundIn, found_at, resolved_on}
use Rattle.cells_keep_runs.proofs.Shapes.{statements_become}
use Rattle.cells_keep_runs.proofs.Ways.{resets, stored_is}
use Rattle.cells_keep_runs.proofs.Writes.{one_value}

abbrev Records : Type 0
Records = List (EnvironmentRecord Mark)

-- ---- resets, and renewals

abbrev pub held_of : CoreState → Held
held_of t = record { records = t.records; cells = t.store.cells }

abbrev pub with_held : Held → CoreState → CoreState
with_held m t = record t { records = m.records; store = record t.store { cells = m.cells } }

rebound_at : (n : ℕ) (x : Var) (v : CoreValue Mark) (r : Resolved Mark) (b : Bool) → (if b then record r { binding = record r.binding { value = v } } else r).at ≡ r.at
rebound_at n x v r true = refl
rebound_at n x v r false = refl

-- a name is found where it was
pub found_written : (records : Records) (h : ℕ) (x : Var) (v : CoreValue Mark) (e : Environment) (y : Var) (m : ℕ) → FoundIn records e y m → FoundIn (written h x v records) e y m
found_written records h x v e y m f = record {
  found = rebound h x v y f.found;
  is = seen records h x v e y ∙ ap (λ o. option_map (rebound h x v y) o) f.is;
  at = rebound_at h x v f.found (nat_eq y.0 x.0 && nat_eq f.found.at h) ∙ f.at;
}

abbrev pub AllFound : Records → Environment → ℕ → List ScopedName → Type 0
AllFound records e h [] = Unit {0}
AllFound records e h (n ∷ names) = FoundIn records e n.var h × AllFound records e h names

all_found_written : (records : Records) (h : ℕ) (x : Var) (v : CoreValue Mark) (e : Environment) (names : List ScopedName) → AllFound records e h names → AllFound (written h x v records) e h names
all_found_written records h x v e [] f = tt
all_found_written records h x v e (n ∷ names) (f, fs) = (found_written records h x v e n.var h f, all_found_written records h x v e names fs)

all_found_by : (m : Held) (h : ℕ) (x : Var) (b : Bool) (e : Environment) (names : List ScopedName) → AllFound m.records e h names → AllFound (renewed_by h (cond b (OwnCell x None) (NoValue x)) m).records e h names
all_found_by m h x true e names f = all_found_written m.records h x (Extra (Cell (length m.cells))) e names f
all_found_by m h x false e names f = all_found_written m.records h x empty e names f

module _ (core : Core) where
  pub initialized_is : (x : Var) (v : CoreValue Mark) (st : CoreState) (h : ℕ) → FoundIn st.records st.context.environment x h → initialized x v st ≡ stored_at h x v st
  unfolding resolve
  initialized_is x v st h f = sym (stored_is core x v st f.found f.is) ∙ ap (λ n. stored_at n x v st) f.at

  reset_by : (x : Var) (b : Bool) (h : ℕ) (m : Held) (t : CoreState) → FoundIn m.records t.context.environment x h
      → cond b (with_own_cell x None (with_held m t)) (initialized x empty (with_held m t)) ≡ with_held (renewed_by h (cond b (OwnCell x None) (NoValue x)) m) t
  reset_by x true h m t f = initialized_is x (Extra (Cell (length m.cells))) (with_new_cell None (with_held m t)) h f
  reset_by x false h m t f = initialized_is x empty (with_held m t) h f

  pub all_reset_is : (names : List ScopedName) (h : ℕ) (m : Held) (t : CoreState) → AllFound m.records t.context.environment h names → all_reset names (with_held m t) ≡ with_held (all_renewed h (map reset_of names) m) t
  all_reset_is [] h m t f = refl
  all_reset_is (n ∷ names) h m t (f, fs) =
      ap (λ st. all_reset names st) (reset_by n.var n.shared h m t f)
      ∙ all_reset_is names h (renewed_by h (reset_of n) m) t (all_found_by m h n.var n.shared t.context.environment names fs)

-- ---- what is there

name_of : (x : Var) (b : Bool) → renewed_name (cond b (OwnCell x None) (NoValue x)) ≡ x
name_of x true = refl
name_of x false = refl

pub open_at : (t : CoreState) (x : Var) (h : ℕ) → FoundAt t x h → OpenAt t.records h x → IsOpen t x
open_at t x h f o = (f.found, f.is, ap (λ b. b.mutable) (one_value (binding_in (record_at t.records h) x) f.found.binding o.binding f.bound o.there) ∙ o.mutable)

module _ (owners : List ℕ) (seats : Seats) (h : ℕ) (s t : CoreState) (stand : Stand owners seats s t) where
  found_here : (x : Var) → target_at seats s.context.environment x ≡ Some h → FoundIn t.records t.context.environment x h
  found_here x at =
      subst (λ e. FoundIn t.records e x h) (sym stand.environment) (found_at owners seats s.records t.records t.store.cells stand.states.memory s.context.environment x h at)

  pub all_found : (names : List ScopedName) → AllAt seats s.context.environment h names → AllFound t.records t.context.environment h names
  all_found [] at = tt
  all_found (n ∷ names) (at, ats) = (found_here n.var at, all_found names ats)

  all_open : (all : List Var) (names : List ScopedName) → AllNamed t.records h all (map reset_of names) → AllAt seats s.context.environment h names → AreOpen t names
  all_open all [] named at = tt
  all_open all (n ∷ names) (is, o, named) (at, ats) =
      let o2 : OpenAt t.records h n.var = subst (λ x. OpenAt t.records h x) (name_of n.var n.shared) o in
      (λ shared. open_at t n.var h (resolved_on t t.context.environment n.var h refl (found_here n.var at)) o2, all_open all names named ats)

-- ---- the entry

flat_scope : (owners : List ℕ) (x : CoreStat) (names : List ScopedName) (body xs ys : List CoreStat) → out-CoreStat x ≡ layer.Scoped names body
    → stats_flat owners (x ∷ xs) ++ ys ≡ map reset names ++ (stats_flat owners body ++ (stats_flat owners xs ++ ys))
unfolding became
flat_scope owners x names body xs ys is =
    ap (λ zs. zs ++ ys) (statements_become owners x xs ∙ ap (λ z. became owners z ++ stats_flat owners xs) is)
    ∙ append_assoc (map reset names ++ stats_flat owners body) (stats_flat owners xs) ys
    ∙ append_assoc (map reset names) (stats_flat owners body) (stats_flat owners xs ++ ys)

enters : (core : Core) (x : CoreStat) (names : List ScopedName) (body xs : List CoreStat) (s : CoreState) → out-CoreStat x ≡ layer.Scoped names body
    → core_step core (with_control (Run (x ∷ xs)) s) ≡ Goes (with_control (Run body) (scope_entered names xs s))
unfolding step begin_stat
enters core x names body xs s is =
    ap (λ y. begin_stat (rows core) x (pushed (Rest xs) s) y) is ∙ ap (λ y. stat_of (pushed (Rest xs) s) y) is

module _ (owners : List ℕ) (seats : Seats) (h : ℕ) (names : List ScopedName) (s t : CoreState)
    (scope : NewScope owners seats s.records t.records h (vars names) (uninitialized names) (map reset_of names)) (stand : Stand owners seats s t) where
  abbrev seats2 : Seats
  seats2 = entered_seats seats h names (length t.store.cells)

  abbrev seat : Seat
  seat = scope_seat h (vars names) (length t.store.cells) (map reset_of names)

  abbrev after : CoreState
  after = with_held (all_renewed h (map reset_of names) (held_of t)) t

  last_seat : slice_get seats2 (length s.records) ≡ Some seat
  last_seat = ap (λ n. slice_get seats2 n) (sym stand.states.memory.seated) ∙ got_last seats seat

  image_none : (e : Environment) → images seats2 (length s.records ∷ e) ≡ images seats2 e
  image_none e = ap (λ o. with_image (image_in o) (images seats2 e)) last_seat

  is_scope : IsScope seats2 (length s.records)
  is_scope = (seat, last_seat, refl)

  below_more_seats : (e : Environment) → Below (length seats) e → Below (length seats2) e
  below_more_seats e b = below_more (length seats) (length seats2) e (let p : length seats2 ≡ length seats + 1 = length_push seats seat in omega arith) b

  new_below : Below (length seats2) (length s.records ∷ s.context.environment)
  new_below =
      let p : length seats2 ≡ length seats + 1 = length_push seats seat in
      let q : length seats ≡ length s.records = stand.states.memory.seated in
      let l : length s.records < length seats2 = omega arith in
      below_cons (length seats2) (length s.records) s.context.environment l (below_more_seats s.context.environment stand.below)

  stand_after : (xs : List CoreStat) → Stand owners seats2 (scope_entered names xs s) after
  stand_after xs = record {
    states = states_stay owners seats (seat ∷ []) s t (scope_entered names xs s).context t.context (s.records ++ uninitialized names ∷ []) after.records after.store.cells stand.states
        (scopes_remembered owners seats s.records t.records t.store.cells h (vars names) (uninitialized names) (map reset_of names) stand.states.memory scope);
    environment = stand.environment ∙ sym (environments_stay seats (seat ∷ []) s.context.environment stand.below) ∙ sym (image_none s.context.environment);
    below = new_below;
    receiver = stand.receiver;
    site = stand.site;
    own = stand.own;
  }

  below_after : (xs ys : List CoreStat) → BelowScopes owners seats s s.context.frames ys t
      → BelowScopes owners seats2 (scope_entered names xs s) (Restore s.context.environment ∷ Rest xs ∷ s.context.frames) (stats_flat owners xs ++ ys) after
  below_after xs ys (e, gs, tail, frames) = (
    e,
    gs,
    a_scope xs is_scope (tail_stays owners seats (seat ∷ []) s.context.environment e s.context.frames gs ys stand.below tail),
    frames_stay owners seats (seat ∷ []) e gs t.context.frames (tail_below owners seats (seat ∷ []) (length seats) s.context.environment e s.context.frames gs ys tail stand.below) frames,
  )

pub scopes_entered : ScopesAreEnteredAlike
scopes_entered core core2 owners seats h x names body xs ys s t is scope at stand below =
    let zs = stats_flat owners body ++ (stats_flat owners xs ++ ys) in
    let u : CoreState = after owners seats h names s t scope stand in
    let way : Way core2 (reset_steps names) (Run (map reset names ++ zs)) t (Run zs) (all_reset names t) =
    resets core2 names zs t (all_open owners seats h s t stand (vars names) names scope.named at) in
    let made : all_reset names t ≡ u = all_reset_is core2 names h (held_of t) t (all_found owners seats h s t stand names at) in
    let way2 : Way core2 (reset_steps names) (Run (stats_flat owners (x ∷ xs) ++ ys)) t (Run zs) u =
    subst (λ v. Way core2 (reset_steps names) (Run (stats_flat owners (x ∷ xs) ++ ys)) t (Run zs) v) made
    (subst (λ ls. Way core2 (reset_steps names) (Run ls) t (Run zs) (all_reset names t)) (sym (flat_scope owners x names body xs ys is)) way) in
    (u, enters core x names body xs s is, way2, at_statements body (stand_after owners seats h names s t scope stand xs) (below_after owners seats h names s t scope stand xs ys below))
