-- How both machines come to find a name, and when they go on to.
use Rattle.std.proofs.Common.{subst, ◌≡◌, ◌≤◌, ◌+◌, ℕ, suc, Bool, true, false, ◌||◌, cond, List, [], ◌∷◌, ◌++◌, map, None, Some, length, nat_eq, slice_get, refl, sym, ap, arith, ◌∙◌, ◌⊎◌, inl, inr, Option}
use Rattle.std.specs.Prelude.{if◌then◌else◌}
use Rattle.std.proofs.lemmas.Bool.{eqb-true, eq-eqb}
use Rattle.std.proofs.lemmas.List.{length_push}
use Rattle.core_ast.specs.declared.parts.ScopedName.{ScopedName}
use Rattle.core_ast.specs.declared.parts.Var.{Var}
use Rattle.core_meaning.specs.Marks.{CoreState, KeptCell, Mark, value_or_empty}
use Rattle.core_meaning.specs.State.{Environment, EnvironmentRecord, Binding}
use Rattle.pass_rules.specs.Cells.{is_among, is_shared}
use Rattle.pass_rules.specs.Scopes.{vars}
use Rattle.es_value.specs.declared.value.Value.{Value}
use Rattle.core_meaning.specs.Names.{record_at}
use Rattle.cells_keep_runs.specs.Handled.{handled_seats, with_own_image}
use Rattle.cells_keep_runs.specs.Copied.{Copyable, content_in, copied_seats, copy_renewals}
use Rattle.cells_keep_runs.specs.Entered.{AllAt, entered_seats, reset_of}
use Rattle.cells_keep_runs.specs.Entries.{call_seat}
use Rattle.cells_keep_runs.specs.Memory.{IsNewest, Keeps, Seat, Seats, cell_along, cell_found, cells_in, is_scoped, or_outer, Names, in_image, in_cell, in_home}
use Rattle.cells_keep_runs.specs.Places.{Below}
use Rattle.cells_keep_runs.specs.Ready.{AllMarked, ScopeReady, HandlerReady}
use Rattle.cells_keep_runs.specs.Renewed.{NoValue, OwnCell, cells_from, scope_seat}
use Rattle.cells_keep_runs.specs.Seen.{Sees, image_with, or_image, sees_home, sees_kept, sees_plain, target_at}
use Rattle.cells_keep_runs.specs.Stays.{CallsNamesAreSeen, KeptNamesAreSeen, ScopesNamesAreSeen, SeenNamesStay, SeenOutside, SeenWithin, with_call, PatternsAreSeen, ParametersAreSeen, CopiesNamesAreSeen, SharedNamesAreHeld}
use Rattle.cells_keep_runs.specs.Writes.{CellOf, PlaceOf, at_home, at_image, IsHeld}
use Rattle.cells_keep_runs.proofs.Grown.{below_here, below_rest, cells_stay, slice_left}
use Rattle.cells_keep_runs.proofs.Renewed.{got_below, got_last, old_or_new, still_got}
use Rattle.cells_keep_runs.proofs.Writes.{differ, one_value, same_var}

-- ---- with more records

pub target_stays : (seats more : Seats) (e : Environment) (x : Var) → Below (length seats) e → target_at (seats ++ more) e x ≡ target_at seats e x
target_stays seats more [] x below = refl
target_stays seats more (n ∷ e) x below =
    ap (λ o. image_with o x (target_at (seats ++ more) e x)) (slice_left seats more n (below_here (length seats) n e below))
    ∙ ap (λ o. image_with (slice_get seats n) x o) (target_stays seats more e x (below_rest (length seats) n e below))

-- the last record is the newest
pub last_newest : (seats : Seats) (seat : Seat) (x : Var) → IsNewest (seats ++ seat ∷ []) (length seats) x
last_newest seats seat x m here there at at2 same scoped =
    let a = got_below (seats ++ seat ∷ []) m there at2 in
    let b : length (seats ++ seat ∷ []) ≡ length seats + 1 = length_push seats seat in
    omega arith

pub newest_stays : (seats : Seats) (here new : Seat) (n : ℕ) (x : Var) → slice_get seats n ≡ Some here → (new.home ≡ here.home → is_scoped new x ≡ false) → IsNewest seats n x → IsNewest (seats ++ new ∷ []) n x
newest_stays seats here new n x at away newest m a b a_at b_at same scoped = by_age (old_or_new seats new m b b_at)
  where
    a_is : a ≡ here
    a_is = one_value (slice_get (seats ++ new ∷ []) n) a here a_at (still_got seats new n here at)

    by_age : (slice_get seats m ≡ Some b) ⊎ ((m ≡ length seats) × (b ≡ new)) → m ≤ n
    by_age (inl old) = newest m here b at old (same ∙ ap (λ z. z.home) a_is) scoped
    by_age (inr (last, b_is)) =
        absurd (differ (is_scoped new x) (ap (λ z. is_scoped z x) (sym b_is) ∙ scoped) (away (ap (λ z. z.home) (sym b_is) ∙ same ∙ ap (λ z. z.home) a_is)))

abbrev pub cell_stays : (owners : List ℕ) (seats : Seats) (new : Seat) (n k : ℕ) (x : Var) → CellOf owners seats n x k → CellOf owners (seats ++ new ∷ []) n x k
cell_stays owners seats new n k x c = record { seat = c.seat; seated = still_got seats new n c.seat c.seated; scoped = c.scoped; shared = c.shared; found = c.found }

pub keeps_stays : (seats : Seats) (new : Seat) (n i k : ℕ) (x : Var) → Keeps seats n i x k → Keeps (seats ++ new ∷ []) n i x k
keeps_stays seats new n i k x c = record { seat = c.seat; seated = still_got seats new n c.seat c.seated; image = c.image; plain = c.plain; found = c.found }

place_stays : (owners : List ℕ) (seats : Seats) (here new : Seat) (n m : ℕ) (x : Var) → slice_get seats n ≡ Some here → (new.home ≡ here.home → is_scoped new x ≡ false) → PlaceOf owners seats n x m → PlaceOf owners (seats ++ new ∷ []) n x m
place_stays owners seats here new n m x at away (at_image seat seated image unscoped) = at_image seat (still_got seats new n seat seated) image unscoped
place_stays owners seats here new n m x at away (at_home seat seated home scoped unshared newest) =
    at_home seat (still_got seats new n seat seated) home scoped unshared (newest_stays seats here new n x at away newest)

pub seen_stays : SeenNamesStay
seen_stays owners seats here new e n x below at away (sees_plain m unshared place target) =
    sees_plain m unshared (place_stays owners seats here new n m x at away place) (target_stays seats (new ∷ []) e x below ∙ target)
seen_stays owners seats here new e n x below at away (sees_home k c along newest target) =
    sees_home k (cell_stays owners seats new n k x c) (cells_stay seats (new ∷ []) e x below ∙ along) (newest_stays seats here new n x at away newest) (target_stays seats (new ∷ []) e x below ∙ target)
seen_stays owners seats here new e n x below at away (sees_kept k j i c along keeps target) =
    sees_kept k j i (cell_stays owners seats new n k x c) (cells_stay seats (new ∷ []) e x below ∙ along) (keeps_stays seats new j i k x keeps) (target_stays seats (new ∷ []) e x below ∙ target)

-- ---- within a record, and out of it

pub past_target : (seats : Seats) (inner : Seat) (m : ℕ) (e : Environment) (x : Var) → slice_get seats m ≡ Some inner → is_among x inner.has ≡ false → target_at seats (m ∷ e) x ≡ target_at seats e x
past_target seats inner m e x at away =
    ap (λ o. image_with o x (target_at seats e x)) at ∙ ap (λ b. if b then or_image inner.image (target_at seats e x) else target_at seats e x) away

pub past_cell : (seats : Seats) (inner : Seat) (m : ℕ) (e : Environment) (x : Var) → slice_get seats m ≡ Some inner → cell_found inner.cells x ≡ None → cell_along seats (m ∷ e) x ≡ cell_along seats e x
past_cell seats inner m e x at none =
    ap (λ o. or_outer (cell_found (cells_in o) x) (cell_along seats e x)) at ∙ ap (λ o. or_outer o (cell_along seats e x)) none

pub seen_within : SeenWithin
seen_within owners seats inner m e n x at away none (sees_plain i unshared place target) = sees_plain i unshared place (past_target seats inner m e x at away ∙ target)
seen_within owners seats inner m e n x at away none (sees_home k c along newest target) =
    sees_home k c (past_cell seats inner m e x at none ∙ along) newest (past_target seats inner m e x at away ∙ target)
seen_within owners seats inner m e n x at away none (sees_kept k j i c along keeps target) =
    sees_kept k j i c (past_cell seats inner m e x at none ∙ along) keeps (past_target seats inner m e x at away ∙ target)

pub seen_outside : SeenOutside
seen_outside owners seats inner m e n x at away none (sees_plain i unshared place target) = sees_plain i unshared place (sym (past_target seats inner m e x at away) ∙ target)
seen_outside owners seats inner m e n x at away none (sees_home k c along newest target) =
    sees_home k c (sym (past_cell seats inner m e x at none) ∙ along) newest (sym (past_target seats inner m e x at away) ∙ target)
seen_outside owners seats inner m e n x at away none (sees_kept k j i c along keeps target) =
    sees_kept k j i c (sym (past_cell seats inner m e x at none) ∙ along) keeps (sym (past_target seats inner m e x at away) ∙ target)

-- ---- a call

module _ (owners : List ℕ) (seats : Seats) (e : Environment) (i : ℕ) (locals has : List Var) (kept : List KeptCell) where
  abbrev pub called : Seat
  called = call_seat i locals has kept

  pub last : slice_get (with_call seats i locals has kept) (length seats) ≡ Some called
  last = got_last seats called

  pub finds : (x : Var) → is_among x has ≡ true → target_at (with_call seats i locals has kept) (length seats ∷ e) x ≡ Some i
  finds x here =
      let outer = target_at (with_call seats i locals has kept) e x in
      ap (λ o. image_with o x outer) last ∙ ap (λ b. if b then or_image (Some i) outer else outer) here

  calls_see : (x : Var) → is_shared owners x ≡ false → is_among x has ≡ true → Sees owners (with_call seats i locals has kept) (length seats ∷ e) (length seats) x
  calls_see x unshared here = sees_plain i unshared (at_image called last refl refl) (finds x here)

  kept_see : (n k : ℕ) (x : Var) → CellOf owners seats n x k → cell_found kept x ≡ Some k → is_among x has ≡ true → Sees owners (with_call seats i locals has kept) (length seats ∷ e) n x
  kept_see n k x c found here =
      let outer = cell_along (with_call seats i locals has kept) e x in
      sees_kept k (length seats) i (cell_stays owners seats called n k x c)
      (ap (λ o. or_outer (cell_found (cells_in o) x) outer) last ∙ ap (λ o. or_outer o outer) found)
      (record { seat = called; seated = last; image = refl; plain = refl; found = found }) (finds x here)

pub calls_seen : CallsNamesAreSeen
calls_seen owners seats e i locals has kept x unshared here = calls_see owners seats e i locals has kept x unshared here

pub kept_seen : KeptNamesAreSeen
kept_seen owners seats e i locals has kept n k x c found here = kept_see owners seats e i locals has kept n k x c found here

-- ---- a scope

pub all_at : (seats : Seats) (e : Environment) (h : ℕ) (names : List ScopedName) (x : Var) → AllAt seats e h names → is_among x (vars names) ≡ true → target_at seats e x ≡ Some h
all_at seats e h [] x at among = cc
all_at seats e h (n ∷ names) x (at, others) among = by_name (nat_eq n.var.0 x.0) refl among (λ here. all_at seats e h names x others here)
  where
    by_name : (b : Bool) → nat_eq n.var.0 x.0 ≡ b → b || is_among x (vars names) ≡ true → (is_among x (vars names) ≡ true → target_at seats e x ≡ Some h) → target_at seats e x ≡ Some h
    by_name true same here on = ap (λ y. target_at seats e y) (sym (same_var n.var x (eqb-true n.var.0 x.0 same))) ∙ at
    by_name false same here on = on here

abbrev HasCell : List KeptCell → Var → Type 0
HasCell ks x = (j : ℕ) × (cell_found ks x ≡ Some j)

cell_here : (owners : List ℕ) (n : ScopedName) (names : List ScopedName) (k : ℕ) (x : Var) (shared same : Bool) → n.shared ≡ shared → nat_eq n.var.0 x.0 ≡ same → is_shared owners n.var ≡ n.shared
    → is_shared owners x ≡ true → same || is_among x (vars names) ≡ true → ((k2 : ℕ) → is_among x (vars names) ≡ true → HasCell (cells_from k2 (map reset_of names)) x)
    → HasCell (cells_from k (cond shared (OwnCell n.var None) (NoValue n.var) ∷ map reset_of names)) x
cell_here owners n names k x true true is same marked shared among on = (k, ap (λ b. if b then Some k else cell_found (cells_from (suc k) (map reset_of names)) x) same)
cell_here owners n names k x true false is same marked shared among on =
    let later = on (suc k) among in
    (later.0, ap (λ b. if b then Some k else cell_found (cells_from (suc k) (map reset_of names)) x) same ∙ later.1)
cell_here owners n names k x false true is same marked shared among on =
    absurd (differ (is_shared owners x) shared (ap (λ y. is_shared owners y) (sym (same_var n.var x (eqb-true n.var.0 x.0 same))) ∙ marked ∙ is))
cell_here owners n names k x false false is same marked shared among on = on k among

cell_of : (owners : List ℕ) (names : List ScopedName) (k : ℕ) (x : Var) → AllMarked owners names → is_shared owners x ≡ true → is_among x (vars names) ≡ true → HasCell (cells_from k (map reset_of names)) x
cell_of owners [] k x marked shared among = cc
cell_of owners (n ∷ names) k x (marked, others) shared among =
    cell_here owners n names k x n.shared (nat_eq n.var.0 x.0) refl refl marked shared among (λ k2 here. cell_of owners names k2 x others shared here)

module _ (owners : List ℕ) (seats : Seats) (s : CoreState) (names : List ScopedName) (k : ℕ) (x : Var) (r : ScopeReady owners seats s names) (below : Below (length seats) s.context.environment)
    (among : is_among x (vars names) ≡ true) where
  abbrev new : Seat
  new = scope_seat r.home (vars names) k (map reset_of names)

  abbrev seats2 : Seats
  seats2 = entered_seats seats r.home names k

  newest_at : slice_get seats2 (length seats) ≡ Some new
  newest_at = got_last seats new

  target : target_at seats2 (length seats ∷ s.context.environment) x ≡ Some r.home
  target =
      past_target seats2 new (length seats) s.context.environment x newest_at refl ∙ target_stays seats (new ∷ []) s.context.environment x below
      ∙ all_at seats s.context.environment r.home names x r.at among

  by_mark : (b : Bool) → is_shared owners x ≡ b → Sees owners seats2 (length seats ∷ s.context.environment) (length seats) x
  by_mark false unshared = sees_plain r.home unshared (at_home new newest_at refl among unshared (last_newest seats new x)) target
  by_mark true shared =
      let c = cell_of owners names k x r.marked shared among in
      let outer = cell_along seats2 s.context.environment x in
      sees_home c.0 (record { seat = new; seated = newest_at; scoped = among; shared = shared; found = c.1 })
      (ap (λ o. or_outer (cell_found (cells_in o) x) outer) newest_at ∙ ap (λ o. or_outer o outer) c.1) (last_newest seats new x) target

pub scopes_seen : ScopesNamesAreSeen
scopes_seen owners seats s names k x r below among = by_mark owners seats s names k x r below among (is_shared owners x) refl

-- ---- a handler

other_name : (x y : Var) (names : List ScopedName) → is_among x (vars names) ≡ false → is_among y (vars names) ≡ true → is_among y (x ∷ []) ≡ false
other_name x y names away among = by_name (nat_eq x.0 y.0) refl
  where
    by_name : (b : Bool) → nat_eq x.0 y.0 ≡ b → b || false ≡ false
    by_name true same = absurd (differ (is_among x (vars names)) (ap (λ z. is_among z (vars names)) (same_var x y (eqb-true x.0 y.0 same)) ∙ among) away)
    by_name false same = refl

module _ (owners : List ℕ) (seats : Seats) (s : CoreState) (x : Var) (names : List ScopedName) (i k : ℕ) (y : Var) (r : HandlerReady owners seats s x names) (below : Below (length seats) s.context.environment)
    (among : is_among y (vars names) ≡ true) where
  abbrev taken : Seat
  taken = with_own_image i x (scope_seat r.pattern.home (vars names) k (map reset_of names))

  abbrev seats3 : Seats
  seats3 = handled_seats seats i x r.pattern.home names k

  taken_at : slice_get seats3 (length seats) ≡ Some taken
  taken_at = got_last seats taken

  taken_target : target_at seats3 (length seats ∷ s.context.environment) y ≡ Some r.pattern.home
  taken_target =
      past_target seats3 taken (length seats) s.context.environment y taken_at (other_name x y names r.apart among) ∙ target_stays seats (taken ∷ []) s.context.environment y below
      ∙ all_at seats s.context.environment r.pattern.home names y r.pattern.at among

  pattern_by : (b : Bool) → is_shared owners y ≡ b → Sees owners seats3 (length seats ∷ s.context.environment) (length seats) y
  pattern_by false unshared = sees_plain r.pattern.home unshared (at_home taken taken_at refl among unshared (last_newest seats taken y)) taken_target
  pattern_by true shared =
      let c = cell_of owners names k y r.pattern.marked shared among in
      let outer = cell_along seats3 s.context.environment y in
      sees_home c.0 (record { seat = taken; seated = taken_at; scoped = among; shared = shared; found = c.1 })
      (ap (λ o. or_outer (cell_found (cells_in o) y) outer) taken_at ∙ ap (λ o. or_outer o outer) c.1) (last_newest seats taken y) taken_target

pub patterns_seen : PatternsAreSeen
patterns_seen owners seats s x names i k y r below among = pattern_by owners seats s x names i k y r below among (is_shared owners y) refl

own_among : (x : Var) → is_among x (x ∷ []) ≡ true
own_among x = ap (λ b. b || false) (eq-eqb x.0 x.0 refl)

pub parameters_seen : ParametersAreSeen
parameters_seen owners seats e x names i h k apart unshared =
    let new : Seat = with_own_image i x (scope_seat h (vars names) k (map reset_of names)) in
    let at : slice_get (handled_seats seats i x h names k) (length seats) ≡ Some new = got_last seats new in
    let outer = target_at (handled_seats seats i x h names k) e x in
    sees_plain i unshared (at_image new at refl apart)
    (ap (λ o. image_with o x outer) at ∙ ap (λ b. if b then or_image (Some i) outer else outer) (own_among x))

-- ---- a copy

copy_cell : (owners : List ℕ) (content : Var → Option Value) (x : Var) (xs : List Var) (k : ℕ) (y : Var) (shared same : Bool) → is_shared owners x ≡ shared → nat_eq x.0 y.0 ≡ same → is_shared owners y ≡ true → same || is_among y xs ≡ true
    → ((k2 : ℕ) → is_among y xs ≡ true → HasCell (cells_from k2 (copy_renewals owners content xs)) y)
    → HasCell (cells_from k (cond shared (OwnCell x (content x) ∷ copy_renewals owners content xs) (copy_renewals owners content xs))) y
copy_cell owners content x xs k y true true is same shared among on = (k, ap (λ b. if b then Some k else cell_found (cells_from (suc k) (copy_renewals owners content xs)) y) same)
copy_cell owners content x xs k y true false is same shared among on =
    let later = on (suc k) among in
    (later.0, ap (λ b. if b then Some k else cell_found (cells_from (suc k) (copy_renewals owners content xs)) y) same ∙ later.1)
copy_cell owners content x xs k y false true is same shared among on =
    absurd (differ (is_shared owners y) shared (ap (λ z. is_shared owners z) (sym (same_var x y (eqb-true x.0 y.0 same))) ∙ is))
copy_cell owners content x xs k y false false is same shared among on = on k among

copied_cell : (owners : List ℕ) (content : Var → Option Value) (xs : List Var) (k : ℕ) (y : Var) → is_shared owners y ≡ true → is_among y xs ≡ true → HasCell (cells_from k (copy_renewals owners content xs)) y
copied_cell owners content [] k y shared among = cc
copied_cell owners content (x ∷ xs) k y shared among =
    copy_cell owners content x xs k y (is_shared owners x) (nat_eq x.0 y.0) refl refl shared among (λ k2 here. copied_cell owners content xs k2 y shared here)

-- a scope's record has no image
pub past_scope : (seats : Seats) (seat : Seat) (n : ℕ) (o : Environment) (x : Var) → slice_get seats n ≡ Some seat → seat.image ≡ None → target_at seats (n ∷ o) x ≡ target_at seats o x
past_scope seats seat n o x at scope =
    ap (λ a. image_with a x (target_at seats o x)) at ∙ ap (λ i. if is_among x seat.has then or_image i (target_at seats o x) else target_at seats o x) scope ∙ either_same (is_among x seat.has) (target_at seats o x)
  where
    either_same : (b : Bool) (t : Option ℕ) → (if b then t else t) ≡ t
    either_same true t = refl
    either_same false t = refl

module _ (owners : List ℕ) (seats : Seats) (rs : List (EnvironmentRecord Mark)) (n : ℕ) (o : Environment) (xs : List Var) (k : ℕ) (y : Var) (c : Copyable owners seats rs (n ∷ o) n xs)
    (below : Below (length seats) o) (among : is_among y c.seat.scoped ≡ true) where
  abbrev copy : Seat
  copy = scope_seat c.seat.home c.seat.scoped k (copy_renewals owners (content_in (record_at rs n)) xs)

  abbrev seats4 : Seats
  seats4 = copied_seats owners seats c.seat (record_at rs n) xs k

  copy_at : slice_get seats4 (length seats) ≡ Some copy
  copy_at = got_last seats copy

  copy_target : target_at seats4 (length seats ∷ o) y ≡ Some c.seat.home
  copy_target = past_scope seats4 copy (length seats) o y copy_at refl ∙ target_stays seats (copy ∷ []) o y below ∙ sym (past_scope seats c.seat n o y c.seated c.scope) ∙ c.found y among

  copy_by : (b : Bool) → is_shared owners y ≡ b → Sees owners seats4 (length seats ∷ o) (length seats) y
  copy_by false unshared = sees_plain c.seat.home unshared (at_home copy copy_at refl among unshared (last_newest seats copy y)) copy_target
  copy_by true shared =
      let j = copied_cell owners (content_in (record_at rs n)) xs k y shared (c.listed y among shared) in
      let outer = cell_along seats4 o y in
      sees_home j.0 (record { seat = copy; seated = copy_at; scoped = among; shared = shared; found = j.1 })
      (ap (λ a. or_outer (cell_found (cells_in a) y) outer) copy_at ∙ ap (λ a. or_outer a outer) j.1) (last_newest seats copy y) copy_target

pub copies_seen : CopiesNamesAreSeen
copies_seen owners seats rs n o xs k y c below among = copy_by owners seats rs n o xs k y c below among (is_shared owners y) refl

-- ---- what a shared name has

held_value : (v : Option Value) → IsHeld (value_or_empty v)
held_value None = refl
held_value (Some v) = refl

held_by : (owners : List ℕ) (seats : Seats) (ts : List (EnvironmentRecord Mark)) (cells : List (Option Value)) (n k : ℕ) (x : Var) (b : Binding Mark) → CellOf owners seats n x k → Names owners seats ts cells n x b → IsHeld b.value
held_by owners seats ts cells n k x b c (in_image seat m d at image unscoped bound alike) =
    absurd (differ (is_scoped c.seat x) c.scoped (ap (λ z. is_scoped z x) (one_value (slice_get seats n) c.seat seat c.seated at) ∙ unscoped))
held_by owners seats ts cells n k x b c (in_cell seat j v at scoped shared found content is newest) = subst (λ w. IsHeld w) (sym is) (held_value v)
held_by owners seats ts cells n k x b c (in_home seat at scoped unshared open_here) = absurd (differ (is_shared owners x) c.shared unshared)

pub names_held : SharedNamesAreHeld
names_held owners seats rs ts cells n k x b mem bound c = held_by owners seats ts cells n k x b c (mem.names n x b bound)
