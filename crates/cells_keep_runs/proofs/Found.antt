-- How names are found along an environment, and go on to be found.
use Rattle.std.proofs.Common.{◌≡◌, ◌<◌, ◌||◌, ℕ, zero, suc, Bool, true, false, List, [], ◌∷◌, ◌++◌, Option, None, Some, length, nat_eq, slice_get, refl, sym, ap, arith, subst, ◌∙◌}
use Rattle.std.specs.Prelude.{if◌then◌else◌, is_some}
use Rattle.core_ast.specs.declared.parts.FunctionId.{FunctionId}
use Rattle.core_ast.specs.declared.parts.Var.{Var}
use Rattle.core_meaning.specs.Marks.{Mark}
use Rattle.core_meaning.specs.Names.{Resolved, binding_in, or_outer as or_resolved, record_at, resolve, resolved}
use Rattle.core_meaning.specs.State.{Binding, Environment, EnvironmentRecord}
use Rattle.pass_rules.specs.Cells.{is_among, is_shared}
use Rattle.cells_keep_runs.specs.Found.{Bound, FirstAreFound, FoundAreFirst, FoundIn, FoundIsReady, FoundIsSeen, FoundStays, FoundWithin, KeptAt, KeptInCalls, KeptStays, Lasting, LastingIsFound, LastingStays, LastsWithin, NamesAreFoundOn, Passes, SharedIsKept, bound_at, first_at, if_bound, lasts_kept, lasts_once, lasts_unscoped, names_in, names_of}
use Rattle.cells_keep_runs.specs.Memory.{Seat, Seats, cell_along, cell_found, cells_in, is_scoped, kept_along, or_outer}
use Rattle.cells_keep_runs.specs.Places.{Below}
use Rattle.cells_keep_runs.specs.Seen.{Sees, sees_home, sees_kept, sees_plain}
use Rattle.cells_keep_runs.specs.Stays.{with_call}
use Rattle.cells_keep_runs.specs.Writes.{CellOf, at_home, at_image}
use Rattle.cells_keep_runs.proofs.Grown.{below_here, below_rest, cells_stay, keeping_stays}
use Rattle.cells_keep_runs.proofs.Renewed.{still_got}
use Rattle.cells_keep_runs.proofs.Stays.{called, cell_stays, finds, keeps_stays, last, newest_stays, past_cell, past_target, seen_stays, seen_within, target_stays}
use Rattle.cells_keep_runs.proofs.Writes.{differ, one_value}

abbrev Record1 : Type 0
Record1 = EnvironmentRecord Mark

-- ---- the names that records bind

bound_by : (b : Binding Mark) (x : Var) (is : Bool) (o : Option (Binding Mark)) (among : Bool) → is_some o ≡ among → is_some (if is then Some b else o) ≡ is || among
bound_by b x true o among h = refl
bound_by b x false o among h = h

names_bound : (bs : Record1) (x : Var) → is_some (binding_in bs x) ≡ is_among x (names_in bs)
names_bound [] x = refl
names_bound (b ∷ bs) x = bound_by b x (nat_eq b.var.0 x.0) (binding_in bs x) (is_among x (names_in bs)) (names_bound bs x)

pub bound_is : (rs : List Record1) (n : ℕ) → bound_at (names_of rs) n ≡ names_in (record_at rs n)
bound_is [] n = refl
bound_is (r ∷ rs) zero = refl
bound_is (r ∷ rs) (suc n) = bound_is rs n

pub among_is : (rs : List Record1) (n : ℕ) (x : Var) → is_among x (bound_at (names_of rs) n) ≡ is_some (binding_in (record_at rs n) x)
among_is rs n x = ap (λ ys. is_among x ys) (bound_is rs n) ∙ sym (names_bound (record_at rs n) x)

-- ---- the first record, and what is found

record First (rs : List Record1) (e : Environment) (x : Var) (n : ℕ) : Type 0 where
  found : Resolved Mark
  is : resolved rs e x ≡ Some found
  at : found.at ≡ n

first_resolved : (rs : List Record1) (e : Environment) (x : Var) (n : ℕ) → first_at (names_of rs) e x ≡ Some n → First rs e x n
first_resolved rs [] x n h = cc
first_resolved rs (m ∷ e) x n h =
    by_binding (binding_in (record_at rs m) x) refl (ap (λ b. if_bound b m (first_at (names_of rs) e x)) (sym (among_is rs m x)) ∙ h) (λ further. first_resolved rs e x n further)
  where
    by_binding : (o : Option (Binding Mark)) → binding_in (record_at rs m) x ≡ o → if_bound (is_some o) m (first_at (names_of rs) e x) ≡ Some n → (first_at (names_of rs) e x ≡ Some n → First rs e x n)
        → First rs (m ∷ e) x n
    by_binding None is first on =
        let f : First rs e x n = on first in record { found = f.found; is = ap (λ o. or_resolved m o (resolved rs e x)) is ∙ f.is; at = f.at }
    by_binding (Some b) is first on =
        record { found = record { at = m; binding = b }; is = ap (λ o. or_resolved m o (resolved rs e x)) is; at = one_value (Some m) m n refl first }

resolved_first : (rs : List Record1) (e : Environment) (x : Var) (r : Resolved Mark) → resolved rs e x ≡ Some r → first_at (names_of rs) e x ≡ Some r.at
resolved_first rs [] x r h = cc
resolved_first rs (m ∷ e) x r h =
    ap (λ b. if_bound b m (first_at (names_of rs) e x)) (among_is rs m x)
    ∙ by_binding (binding_in (record_at rs m) x) h (λ further. resolved_first rs e x r further)
  where
    by_binding : (o : Option (Binding Mark)) → or_resolved m o (resolved rs e x) ≡ Some r → (resolved rs e x ≡ Some r → first_at (names_of rs) e x ≡ Some r.at)
        → if_bound (is_some o) m (first_at (names_of rs) e x) ≡ Some r.at
    by_binding None is on = on is
    by_binding (Some b) is on = ap (λ q. Some q.at) (one_value (Some (record { at = m; binding = b })) (record { at = m; binding = b }) r refl is)

pub first_found : FirstAreFound
unfolding resolve
first_found s n x h = let f : First s.records s.context.environment x n = first_resolved s.records s.context.environment x n h in record { found = f.found; is = f.is; at = f.at }

found_first : FoundAreFirst
unfolding resolve
found_first s x r h = resolved_first s.records s.context.environment x r h

-- ---- at a closure's making

lasting_sees : (owners : List ℕ) (once : Var → Bool) (seats : Seats) (e : Environment) (n : ℕ) (here : Seat) (x : Var) → slice_get seats n ≡ Some here → Lasting owners once seats e n here x → Sees owners seats e n x
lasting_sees owners once seats e n here x at (lasts_unscoped m unshared image unscoped target) = sees_plain m unshared (at_image here at image unscoped) target
lasting_sees owners once seats e n here x at (lasts_once unshared scoped is newest target) = sees_plain here.home unshared (at_home here at refl scoped unshared newest) target
lasting_sees owners once seats e n here x at (lasts_kept k j i c along keeps target) = sees_kept k j i c along keeps target

pub lasting_found : LastingIsFound
lasting_found owners once seats bound e x f =
    record { number = f.number; here = f.here; first = f.first; seated = f.seated; sees = lasting_sees owners once seats e f.number f.here x f.seated f.lasting }

shared_by : (owners : List ℕ) (seats : Seats) (bound : Bound) (e : Environment) (f : FunctionId) (x : Var) (n : ℕ) → first_at bound e x ≡ Some n → is_shared owners x ≡ true → kept_along seats e f x ≡ true → Sees owners seats e n x
    → KeptAt owners seats bound e f x
shared_by owners seats bound e f x n first shared kept (sees_plain m unshared place target) = absurd (differ (is_shared owners x) shared unshared)
shared_by owners seats bound e f x n first shared kept (sees_home k c along newest target) = record { number = n; cell = k; first = first; cells = c; along = along; kept = kept }
shared_by owners seats bound e f x n first shared kept (sees_kept k j i c along keeps target) = record { number = n; cell = k; first = first; cells = c; along = along; kept = kept }

pub shared_kept : SharedIsKept
shared_kept owners seats bound e f x found shared kept = shared_by owners seats bound e f x found.number found.first shared kept found.sees

-- ---- with one record more

pub index_left : (bound : Bound) (more : Bound) (n : ℕ) → n < length bound → bound_at (bound ++ more) n ≡ bound_at bound n
index_left [] more n h = absurd (omega arith)
index_left (b ∷ bound) more zero h = refl
index_left (b ∷ bound) more (suc n) h = index_left bound more n (omega arith)

pub index_last : (bound : Bound) (names : List Var) (n : ℕ) → n ≡ length bound → bound_at (bound ++ names ∷ []) n ≡ names
index_last [] names zero h = refl
index_last [] names (suc n) h = absurd (omega arith)
index_last (b ∷ bound) names zero h = absurd (omega arith)
index_last (b ∷ bound) names (suc n) h = index_last bound names n (omega arith)

first_stays : (bound : Bound) (names : List Var) (e : Environment) (x : Var) → Below (length bound) e → first_at (bound ++ names ∷ []) e x ≡ first_at bound e x
first_stays bound names [] x below = refl
first_stays bound names (n ∷ e) x below =
    ap (λ ys. if_bound (is_among x ys) n (first_at (bound ++ names ∷ []) e x)) (index_left bound (names ∷ []) n (below_here (length bound) n e below))
    ∙ ap (λ o. if_bound (is_among x (bound_at bound n)) n o) (first_stays bound names e x (below_rest (length bound) n e below))

pub first_still : (seats : Seats) (bound : Bound) (names : List Var) (e : Environment) (x : Var) → Below (length seats) e → length seats ≡ length bound → first_at (bound ++ names ∷ []) e x ≡ first_at bound e x
first_still seats bound names e x below same = first_stays bound names e x (subst (λ n. Below n e) same below)

abbrev pub found_stays : FoundStays
found_stays owners seats bound new names e x below same f away =
    record {
      number = f.number;
      here = f.here;
      first = first_still seats bound names e x below same ∙ f.first;
      seated = still_got seats new f.number f.here f.seated;
      sees = seen_stays owners seats f.here new e f.number x below f.seated away f.sees;
    }

last_by : (owners : List ℕ) (once : Var → Bool) (seats : Seats) (new : Seat) (e : Environment) (n : ℕ) (here : Seat) (x : Var) → Below (length seats) e → slice_get seats n ≡ Some here
    → (is_shared owners x ≡ false → once x ≡ true → is_scoped here x ≡ true → new.home ≡ here.home → is_scoped new x ≡ false) → Lasting owners once seats e n here x → Lasting owners once (seats ++ new ∷ []) e n here x
last_by owners once seats new e n here x below at away (lasts_unscoped m unshared image unscoped target) = lasts_unscoped m unshared image unscoped (target_stays seats (new ∷ []) e x below ∙ target)
last_by owners once seats new e n here x below at away (lasts_once unshared scoped is newest target) =
    lasts_once unshared scoped is (newest_stays seats here new n x at (away unshared is scoped) newest) (target_stays seats (new ∷ []) e x below ∙ target)
last_by owners once seats new e n here x below at away (lasts_kept k j i c along keeps target) =
    lasts_kept k j i (cell_stays owners seats new n k x c) (cells_stay seats (new ∷ []) e x below ∙ along) (keeps_stays seats new j i k x keeps) (target_stays seats (new ∷ []) e x below ∙ target)

pub lasting_stays : LastingStays
lasting_stays owners once seats bound new names e x below same f away =
    record {
      number = f.number;
      here = f.here;
      first = first_still seats bound names e x below same ∙ f.first;
      seated = still_got seats new f.number f.here f.seated;
      lasting = last_by owners once seats new e f.number f.here x below f.seated away f.lasting;
    }

pub kept_stays : KeptStays
kept_stays owners seats bound new names e f x below same k =
    record {
      number = k.number;
      cell = k.cell;
      first = first_still seats bound names e x below same ∙ k.first;
      cells = cell_stays owners seats new k.number k.cell x k.cells;
      along = cells_stay seats (new ∷ []) e x below ∙ k.along;
      kept = keeping_stays seats (new ∷ []) e f x below ∙ k.kept;
    }

-- ---- within a record that hasn't the name

pub first_past : (bound : Bound) (n : ℕ) (e : Environment) (x : Var) → is_among x (bound_at bound n) ≡ false → first_at bound (n ∷ e) x ≡ first_at bound e x
first_past bound n e x away = ap (λ b. if_bound b n (first_at bound e x)) away

abbrev pub found_within : FoundWithin
found_within owners seats bound n e x past f =
    record {
      number = f.number;
      here = f.here;
      first = first_past bound n e x past.unbound ∙ f.first;
      seated = f.seated;
      sees = seen_within owners seats past.seat n e f.number x past.seated past.unnamed past.uncelled f.sees;
    }

last_within : (owners : List ℕ) (once : Var → Bool) (seats : Seats) (bound : Bound) (n : ℕ) (e : Environment) (m : ℕ) (here : Seat) (x : Var) → Passes seats bound n x → Lasting owners once seats e m here x
    → Lasting owners once seats (n ∷ e) m here x
last_within owners once seats bound n e m here x past (lasts_unscoped i unshared image unscoped target) = lasts_unscoped i unshared image unscoped (past_target seats past.seat n e x past.seated past.unnamed ∙ target)
last_within owners once seats bound n e m here x past (lasts_once unshared scoped is newest target) = lasts_once unshared scoped is newest (past_target seats past.seat n e x past.seated past.unnamed ∙ target)
last_within owners once seats bound n e m here x past (lasts_kept k j i c along keeps target) =
    lasts_kept k j i c (past_cell seats past.seat n e x past.seated past.uncelled ∙ along) keeps (past_target seats past.seat n e x past.seated past.unnamed ∙ target)

pub lasts_within : LastsWithin
lasts_within owners once seats bound n e x past f =
    record {
      number = f.number;
      here = f.here;
      first = first_past bound n e x past.unbound ∙ f.first;
      seated = f.seated;
      lasting = last_within owners once seats bound n e f.number f.here x past f.lasting;
    }

-- ---- in a call

kept_in_calls : KeptInCalls
kept_in_calls owners once seats bound e f x i k locals has names kept below same c found here away =
    let new : Seat = called owners seats e i locals has kept in
    let seats2 : Seats = with_call seats i locals has kept in
    let at : slice_get seats2 (length seats) ≡ Some new = last owners seats e i locals has kept in
    let outer = cell_along seats2 e x in
    let cells : CellOf owners seats2 c.number x c.cell = cell_stays owners seats new c.number c.cell x c.cells in
    let unbound : is_among x (bound_at (bound ++ names ∷ []) (length seats)) ≡ false = ap (λ ys. is_among x ys) (index_last bound names (length seats) same) ∙ away in
    let along : cell_along seats2 (length seats ∷ e) x ≡ c.cell = ap (λ o. or_outer (cell_found (cells_in o) x) outer) at ∙ ap (λ o. or_outer o outer) found in
    record {
      number = c.number;
      here = cells.seat;
      first = first_past (bound ++ names ∷ []) (length seats) e x unbound ∙ first_still seats bound names e x below same ∙ c.first;
      seated = cells.seated;
      lasting = lasts_kept c.cell (length seats) i cells along (record { seat = new; seated = at; image = refl; plain = refl; found = found }) (finds owners seats e i locals has kept x here);
    }

-- ---- what is asked of the source's configuration

pub found_seen : FoundIsSeen
found_seen owners seats s x f shared =
    let there : FoundIn s f.number x = first_found s f.number x f.first in
    record { shared = shared; found = there.found; is = there.is; sees = subst (λ n. Sees owners seats s.context.environment n x) (sym there.at) f.sees }

pub found_ready : FoundIsReady
found_ready owners seats s x r f is =
    let at : f.number ≡ r.at = one_value (first_at (names_of s.records) s.context.environment x) f.number r.at f.first (found_first s x r is) in
    subst (λ n. Sees owners seats s.context.environment n x) at f.sees

pub names_found_on : NamesAreFoundOn
names_found_on = record {
  first_found = first_found;
  found_first = found_first;
  lasting_found = lasting_found;
  shared_kept = shared_kept;
  found_stays = found_stays;
  lasting_stays = lasting_stays;
  kept_stays = kept_stays;
  found_within = found_within;
  lasts_within = lasts_within;
  kept_in_calls = kept_in_calls;
  found_seen = found_seen;
  found_ready = found_ready;
}
