-- Handlers take throws alike.
use Rattle.std.proofs.Common.{◌≡◌, ℕ, zero, suc, ◌+◌, ◌<◌, Bool, true, false, ◌||◌, cond, List, [], ◌∷◌, ◌++◌, map, Option, None, Some, length, nat_eq, slice_get, refl, sym, ap, arith, subst, ◌∙◌, ◌⊎◌, inl, inr}
use Rattle.std.specs.Prelude.{if◌then◌else◌, is_some, slice_set}
use Rattle.std.proofs.lemmas.Bool.{eq-eqb, eqb-true, ne_eqb}
use Rattle.std.proofs.lemmas.List.{get_or_append_left, get_or_at, length_push, set-append_left}
use Rattle.runs.specs.Run.{Goes}
use Rattle.runs.specs.Simulation.{Reaches}
use Rattle.es_value.specs.declared.value.Value.{Value}
use Rattle.core_ast.specs.declared.parts.ScopedName.{ScopedName}
use Rattle.core_ast.specs.declared.parts.Var.{Var}
use Rattle.core_ast.specs.declared.tree.CoreStat.{CoreStat}
use Rattle.core_ast.specs.declared.whole.Core.{Core}
use Rattle.core_meaning.specs.Calls.{binding}
use Rattle.core_meaning.specs.Cells.{uninitialized}
use Rattle.core_meaning.specs.Marks.{Cell, CoreState, Mark, empty}
use Rattle.core_meaning.specs.Modules.{core_step}
use Rattle.core_meaning.specs.Names.{binding_in, or_outer, record_at, resolved, with_value}
use Rattle.core_meaning.specs.Rows.{pushed, with_control}
use Rattle.core_meaning.specs.State.{Binding, Catching, CoreValue, Environment, EnvironmentRecord, Extra, Hand, Restore, Run, Throws, User}
use Rattle.core_meaning.specs.Step.{abrupt, hand, step}
use Rattle.pass_rules.specs.Cells.{is_among}
use Rattle.pass_rules.specs.Scopes.{reset, stats_flat, vars}
use Rattle.cells_keep_runs.specs.Entered.{AllAt, reset_of}
use Rattle.cells_keep_runs.specs.Handled.{HandlersTakeThrows, ParametersAreRemembered, handled_seats, handler_entered, with_own_image}
use Rattle.cells_keep_runs.specs.Memory.{Bindings, CellAt, HasOpen, IsNewest, Keeps, Memory, Names, OpenAt, Seat, Seats, cell_found, image_in, images, in_cell, in_home, in_image, is_scoped, with_image}
use Rattle.cells_keep_runs.specs.Places.{Below, written}
use Rattle.cells_keep_runs.specs.Related.{Frames, IsScope, Stand, restore}
use Rattle.cells_keep_runs.specs.Renewed.{AllNamed, Held, NewScope, NoValue, OwnCell, Renewal, all_renewed, cells_from, renewed_by, renewed_name, scope_seat}
use Rattle.cells_keep_runs.specs.Ways.{AreOpen, Way, all_reset, reset_steps}
use Rattle.cells_keep_runs.proofs.Entered.{AllFound, all_found, all_reset_is, held_of, open_at, with_held}
use Rattle.cells_keep_runs.proofs.Grown.{below_cons, below_more, environments_stay, frames_stay, states_stay}
use Rattle.cells_keep_runs.proofs.Places.{first}
use Rattle.cells_keep_runs.proofs.Renewed.{bound_before, got_below, got_last, old_or_new, renewed_length, scopes_remembered, still_got}
use Rattle.cells_keep_runs.proofs.Seen.{FoundIn, resolved_on}
use Rattle.cells_keep_runs.proofs.Statements.{run_at}
use Rattle.cells_keep_runs.proofs.Ways.{resets}
use Rattle.cells_keep_runs.proofs.Writes.{differ, length_written, not_none, one_value, same_var}

abbrev Records : Type 0
Records = List (EnvironmentRecord Mark)

bound_on : (rs : Records) (bs : EnvironmentRecord Mark) (n : ℕ) (x : Var) (b : Binding Mark) → binding_in (record_at rs n) x ≡ Some b → binding_in (record_at (rs ++ bs ∷ []) n) x ≡ Some b
bound_on [] bs n x b h = cc
bound_on (r ∷ rs) bs zero x b h = h
bound_on (r ∷ rs) bs (suc n) x b h = bound_on rs bs n x b h

none_on : (rs : Records) (bs cs : EnvironmentRecord Mark) (n : ℕ) (x : Var) → n < length rs → binding_in (record_at (rs ++ bs ∷ []) n) x ≡ None → binding_in (record_at (rs ++ cs ∷ []) n) x ≡ None
none_on [] bs cs n x l h = absurd (omega arith)
none_on (r ∷ rs) bs cs zero x l h = h
none_on (r ∷ rs) bs cs (suc n) x l h = let k : n < length rs = omega arith in none_on rs bs cs n x k h

one_name : (b : Bool) (c : Binding Mark) → is_some (if b then Some c else None) ≡ b || false
one_name true c = refl
one_name false c = refl

module _ (owners : List ℕ) (seats : Seats) (seat : Seat) (rs ts : Records) (bindings : EnvironmentRecord Mark) (cells : List (Option Value)) (x : Var) (v : CoreValue Mark)
    (scope : seat.image ≡ None) (foreign : is_scoped seat x ≡ false) (named : (y : Var) (k : ℕ) → cell_found seat.cells y ≡ Some k → is_scoped seat y ≡ true)
    (mem : Memory owners (seats ++ seat ∷ []) (rs ++ bindings ∷ []) ts cells) where
  abbrev seat2 : Seat
  seat2 = with_own_image (length ts) x seat

  abbrev seats1 : Seats
  seats1 = seats ++ seat ∷ []

  abbrev seats2 : Seats
  seats2 = seats ++ seat2 ∷ []

  abbrev bindings2 : EnvironmentRecord Mark
  bindings2 = binding x v ∷ bindings

  abbrev rs1 : Records
  rs1 = rs ++ bindings ∷ []

  abbrev rs2 : Records
  rs2 = rs ++ bindings2 ∷ []

  abbrev own : EnvironmentRecord Mark
  own = binding x v ∷ []

  abbrev ts2 : Records
  ts2 = ts ++ own ∷ []

  abbrev IsOld : ℕ → Seat → Type 0
  IsOld n here = (slice_get seats n ≡ Some here) ⊎ ((n ≡ length seats) × (here ≡ seat2))

  same_length : length seats ≡ length rs
  same_length =
      let p : length seats1 ≡ length seats + 1 = length_push seats seat in
      let q : length rs1 ≡ length rs + 1 = length_push rs bindings in
      let e : length seats1 ≡ length rs1 = mem.seated in
      omega arith

  grown : (n : ℕ) → n < length ts → record_at ts2 n ≡ record_at ts n
  grown n l = get_or_append_left ts (own ∷ []) [] n l

  last_record : record_at ts2 (length ts) ≡ own
  last_record = get_or_at ts own [] [] (length ts) refl

  longer : (n : ℕ) → n < length ts → n < length ts2
  longer n l = let p : length ts2 ≡ length ts + 1 = length_push ts own in omega arith

  -- the seat that was there, and the one that is
  record Seated (all : Seats) (n : ℕ) (here : Seat) : Type 0 where
    other : Seat
    at : slice_get all n ≡ Some other
    home : other.home ≡ here.home
    scoped : (y : Var) → is_scoped other y ≡ is_scoped here y
    cells_are : (y : Var) → cell_found other.cells y ≡ cell_found here.cells y

  was_by : (n : ℕ) (here : Seat) → IsOld n here → Seated seats1 n here
  was_by n here (inl old) = record { other = here; at = still_got seats seat n here old; home = refl; scoped = λ y. refl; cells_are = λ y. refl }
  was_by n here (inr new) = record {
    other = seat;
    at = ap (λ m. slice_get seats1 m) new.0 ∙ got_last seats seat;
    home = ap (λ a. a.home) (sym new.1);
    scoped = λ y. ap (λ a. is_scoped a y) (sym new.1);
    cells_are = λ y. ap (λ a. cell_found a.cells y) (sym new.1);
  }

  was : (n : ℕ) (here : Seat) → slice_get seats2 n ≡ Some here → Seated seats1 n here
  was n here at = was_by n here (old_or_new seats seat2 n here at)

  is_by : (n : ℕ) (here : Seat) → (slice_get seats n ≡ Some here) ⊎ ((n ≡ length seats) × (here ≡ seat)) → Seated seats2 n here
  is_by n here (inl old) = record { other = here; at = still_got seats seat2 n here old; home = refl; scoped = λ y. refl; cells_are = λ y. refl }
  is_by n here (inr new) = record {
    other = seat2;
    at = ap (λ m. slice_get seats2 m) new.0 ∙ got_last seats seat2;
    home = ap (λ a. a.home) (sym new.1);
    scoped = λ y. ap (λ a. is_scoped a y) (sym new.1);
    cells_are = λ y. ap (λ a. cell_found a.cells y) (sym new.1);
  }

  is_now : (n : ℕ) (here : Seat) → slice_get seats1 n ≡ Some here → Seated seats2 n here
  is_now n here at = is_by n here (old_or_new seats seat n here at)

  was_newest : (n : ℕ) (y : Var) → IsNewest seats2 n y → IsNewest seats1 n y
  was_newest n y newest m here there at at2 home scoped =
      let a : Seated seats2 n here = is_now n here at in
      let b : Seated seats2 m there = is_now m there at2 in
      newest m a.other b.other a.at b.at (b.home ∙ home ∙ sym a.home) (b.scoped y ∙ scoped)

  open_grown : (h : ℕ) (y : Var) (w : CoreValue Mark) → h < length ts → HasOpen ts h y w → HasOpen ts2 h y w
  open_grown h y w l o = record { binding = o.binding; there = ap (λ r. binding_in r y) (grown h l) ∙ o.there; value = o.value; mutable = o.mutable }

  -- what has an image was there before
  image_old : (n i : ℕ) (here : Seat) → (slice_get seats n ≡ Some here) ⊎ ((n ≡ length seats) × (here ≡ seat)) → here.image ≡ Some i → slice_get seats n ≡ Some here
  image_old n i here (inl old) image = old
  image_old n i here (inr new) image = absurd (not_none here.image i image (ap (λ a. a.image) new.1 ∙ scope))

  name_on : (n : ℕ) (y : Var) (b : Binding Mark) → Names owners seats1 ts cells n y b → Names owners seats2 ts2 cells n y b
  name_on n y b (in_image here i c at image plain there same) =
      in_image here i c (still_got seats seat2 n here (image_old n i here (old_or_new seats seat n here at) image)) image plain (ap (λ r. binding_in r y) (grown i (mem.images_made n i here at image)) ∙ there) same
  name_on n y b (in_cell here k w at scoped shared found held is home) =
      let a : Seated seats2 n here = is_now n here at in
      in_cell a.other k w a.at (a.scoped y ∙ scoped) shared (a.cells_are y ∙ found) held is
      (λ newest. subst (λ h. HasOpen ts2 h y (Extra (Cell k))) (sym a.home) (open_grown here.home y (Extra (Cell k)) (mem.homes_made n here at) (home (was_newest n y newest))))
  name_on n y b (in_home here at scoped unshared home) =
      let a : Seated seats2 n here = is_now n here at in
      in_home a.other a.at (a.scoped y ∙ scoped) unshared
      (λ newest. subst (λ h. HasOpen ts2 h y b.value) (sym a.home) (open_grown here.home y b.value (mem.homes_made n here at) (home (was_newest n y newest))))

  new_name : (y : Var) (b : Binding Mark) (same : Bool) → nat_eq x.0 y.0 ≡ same → (if same then Some (binding x v) else binding_in bindings y) ≡ Some b → Names owners seats2 ts2 cells (length rs) y b
  new_name y b true is bound =
      let name : x ≡ y = same_var x y (eqb-true x.0 y.0 is) in
      in_image seat2 (length ts) (binding x v) (ap (λ n. slice_get seats2 n) (sym same_length) ∙ got_last seats seat2) refl (ap (λ z. is_scoped seat z) (sym name) ∙ foreign)
      (ap (λ r. binding_in r y) last_record ∙ ap (λ t. if t then Some (binding x v) else None) is)
      (subst (λ c. Bindings c (binding x v)) (one_value (Some b) (binding x v) b (sym bound) refl) (record { value = refl; mutable = refl }))
  new_name y b false is bound =
      name_on (length rs) y b (mem.names (length rs) y b (ap (λ r. binding_in r y) (get_or_at rs bindings [] [] (length rs) refl) ∙ bound))

  names_by : (n : ℕ) (y : Var) (b : Binding Mark) → (binding_in (record_at rs n) y ≡ Some b) ⊎ ((n ≡ length rs) × (binding_in bindings2 y ≡ Some b)) → Names owners seats2 ts2 cells n y b
  names_by n y b (inl old) = name_on n y b (mem.names n y b (bound_on rs bindings n y b old))
  names_by n y b (inr new) = subst (λ m. Names owners seats2 ts2 cells m y b) (sym new.0) (new_name y b (nat_eq x.0 y.0) refl new.1)

  images_by : (n i : ℕ) (here : Seat) → IsOld n here → here.image ≡ Some i → i < length ts2
  images_by n i here (inl old) image = longer i (mem.images_made n i here (still_got seats seat n here old) image)
  images_by n i here (inr new) image =
      let e : length ts ≡ i = one_value here.image (length ts) i (ap (λ a. a.image) new.1) image in
      let p : length ts2 ≡ length ts + 1 = length_push ts own in
      omega arith

  homes_by : (n : ℕ) (here : Seat) → Seated seats1 n here → here.home < length ts2
  homes_by n here a = subst (λ h. h < length ts2) a.home (longer a.other.home (mem.homes_made n a.other a.at))

  apart_by : (n m i : ℕ) (here there : Seat) → IsOld n here → IsOld m there → here.image ≡ Some i → there.image ≡ Some i → n ≡ m
  apart_by n m i here there (inl old) (inl old2) image image2 = mem.images_apart n m i here there (still_got seats seat n here old) (still_got seats seat m there old2) image image2
  apart_by n m i here there (inl old) (inr new) image image2 =
      let p : i < length ts = mem.images_made n i here (still_got seats seat n here old) image in
      let e : length ts ≡ i = one_value there.image (length ts) i (ap (λ a. a.image) new.1) image2 in
      absurd (omega arith)
  apart_by n m i here there (inr new) (inl old) image image2 =
      let p : i < length ts = mem.images_made m i there (still_got seats seat m there old) image2 in
      let e : length ts ≡ i = one_value here.image (length ts) i (ap (λ a. a.image) new.1) image in
      absurd (omega arith)
  apart_by n m i here there (inr new) (inr new2) image image2 = new.0 ∙ sym new2.0

  unbound_on : (n : ℕ) (here : Seat) (y : Var) → slice_get seats n ≡ Some here → binding_in (record_at rs1 n) y ≡ None → binding_in (record_at rs2 n) y ≡ None
  unbound_on n here y at out =
      let p : n < length seats = got_below seats n here at in
      let q : length seats ≡ length rs = same_length in
      let l : n < length rs = omega arith in
      none_on rs bindings bindings2 n y l out

  homes_apart_by : (n m : ℕ) (here there : Seat) (y : Var) → IsOld n here → Seated seats1 m there → here.image ≡ Some there.home → is_scoped there y ≡ true → binding_in (record_at rs2 n) y ≡ None
  homes_apart_by n m here there y (inl old) a image scoped =
      unbound_on n here y old (mem.homes_apart n m here a.other y (still_got seats seat n here old) a.at (image ∙ ap (λ h. Some h) (sym a.home)) (a.scoped y ∙ scoped))
  homes_apart_by n m here there y (inr new) a image scoped =
      let p : a.other.home < length ts = mem.homes_made m a.other a.at in
      let e : length ts ≡ there.home = one_value here.image (length ts) there.home (ap (λ b. b.image) new.1) image in
      let q : a.other.home ≡ there.home = a.home in
      absurd (omega arith)

  shapes_by : (n i : ℕ) (here : Seat) (y : Var) → IsOld n here → here.image ≡ Some i → is_some (binding_in (record_at ts2 i) y) ≡ is_among y here.has
  shapes_by n i here y (inl old) image =
      let at = still_got seats seat n here old in
      ap (λ r. is_some (binding_in r y)) (grown i (mem.images_made n i here at image)) ∙ mem.shapes n i here y at image
  shapes_by n i here y (inr new) image =
      let e : i ≡ length ts = one_value here.image i (length ts) image (ap (λ a. a.image) new.1) in
      ap (λ j. is_some (binding_in (record_at ts2 j) y)) e ∙ ap (λ r. is_some (binding_in r y)) last_record ∙ one_name (nat_eq x.0 y.0) (binding x v) ∙ ap (λ a. is_among y a.has) (sym new.1)

  locals_by : (n i : ℕ) (here : Seat) (y : Var) → IsOld n here → here.image ≡ Some i → is_among y here.locals ≡ true → OpenAt ts2 i y
  locals_by n i here y (inl old) image local =
      let at = still_got seats seat n here old in
      let o : OpenAt ts i y = mem.locals_open n i here y at image local in
      record { binding = o.binding; there = ap (λ r. binding_in r y) (grown i (mem.images_made n i here at image)) ∙ o.there; mutable = o.mutable }
  locals_by n i here y (inr new) image local = absurd (differ (is_among y here.locals) local (ap (λ a. is_among y a.locals) new.1))

  -- a cell that is kept was kept before
  kept_old : (n i k : ℕ) (y : Var) (keeps : Keeps seats2 n i y k) → IsOld n keeps.seat → slice_get seats n ≡ Some keeps.seat
  kept_old n i k y keeps (inl old) = old
  kept_old n i k y keeps (inr new) =
      let found : cell_found seat.cells y ≡ Some k = ap (λ a. cell_found a.cells y) (sym new.1) ∙ keeps.found in
      absurd (differ (is_scoped seat y) (named y k found) (ap (λ a. is_scoped a y) (sym new.1) ∙ keeps.plain))

  old_of : (n i k : ℕ) (y : Var) (keeps : Keeps seats2 n i y k) → slice_get seats n ≡ Some keeps.seat
  old_of n i k y keeps = kept_old n i k y keeps (old_or_new seats seat2 n keeps.seat keeps.seated)

  was_kept : (n i k : ℕ) (y : Var) → Keeps seats2 n i y k → Keeps seats1 n i y k
  was_kept n i k y keeps =
      record { seat = keeps.seat; seated = still_got seats seat n keeps.seat (old_of n i k y keeps); image = keeps.image; plain = keeps.plain; found = keeps.found }

  kept_on : (n i k : ℕ) (y : Var) → Keeps seats2 n i y k → CellAt ts2 i y k
  kept_on n i k y keeps =
      let at = still_got seats seat n keeps.seat (old_of n i k y keeps) in
      let o : CellAt ts i y k = mem.kept n i k y (was_kept n i k y keeps) in
      record { binding = o.binding; there = ap (λ r. binding_in r y) (grown i (mem.images_made n i keeps.seat at keeps.image)) ∙ o.there; value = o.value }

  cells_apart_by : (n m k : ℕ) (here there : Seat) (y z : Var) → Seated seats1 n here → Seated seats1 m there → is_scoped here y ≡ true → is_scoped there z ≡ true
      → cell_found here.cells y ≡ Some k → cell_found there.cells z ≡ Some k → (n ≡ m) × (y.0 ≡ z.0)
  cells_apart_by n m k here there y z a b scoped scoped2 found found2 =
      mem.cells_apart n m k a.other b.other y z a.at b.at (a.scoped y ∙ scoped) (b.scoped z ∙ scoped2) (a.cells_are y ∙ found) (b.cells_are z ∙ found2)

  kept_apart_by : (n i k m : ℕ) (y : Var) (there : Seat) → Keeps seats2 n i y k → Seated seats1 m there → there.home ≡ i → is_scoped there y ≡ false
  kept_apart_by n i k m y there keeps a home = sym (a.scoped y) ∙ mem.kept_apart n i k m y a.other (was_kept n i k y keeps) a.at (a.home ∙ home)

  with_parameter : Memory owners seats2 rs2 ts2 cells
  with_parameter = record {
    seated = length_push seats seat2 ∙ ap (λ l. l + 1) same_length ∙ sym (length_push rs bindings2);
    names = λ n y b bound. names_by n y b (bound_before rs bindings2 n y b bound);
    images_made = λ n i here at image. images_by n i here (old_or_new seats seat2 n here at) image;
    homes_made = λ n here at. homes_by n here (was n here at);
    cells_made = λ n k here y at found. mem.cells_made n k (was n here at).other y (was n here at).at ((was n here at).cells_are y ∙ found);
    images_apart = λ n m i here there at at2 image image2. apart_by n m i here there (old_or_new seats seat2 n here at) (old_or_new seats seat2 m there at2) image image2;
    homes_apart = λ n m here there y at at2 image scoped. homes_apart_by n m here there y (old_or_new seats seat2 n here at) (was m there at2) image scoped;
    cells_apart = λ n m k here there y z at at2 scoped scoped2 found found2. cells_apart_by n m k here there y z (was n here at) (was m there at2) scoped scoped2 found found2;
    shapes = λ n i here y at image. shapes_by n i here y (old_or_new seats seat2 n here at) image;
    locals_open = λ n i here y at image local. locals_by n i here y (old_or_new seats seat2 n here at) image local;
    kept = λ n i k y keeps. kept_on n i k y keeps;
    kept_unbound = λ n i k y keeps. unbound_on n keeps.seat y (old_of n i k y keeps) (mem.kept_unbound n i k y (was_kept n i k y keeps));
    kept_apart = λ n i k m y there keeps at home. kept_apart_by n i k m y there keeps (was m there at) home;
  }

pub parameters_remembered : ParametersAreRemembered
parameters_remembered owners seats seat rs ts bindings cells x v scope foreign named mem = with_parameter owners seats seat rs ts bindings cells x v scope foreign named mem

-- ---- a record more behind those that are renewed

written_append : (ts : Records) (d : EnvironmentRecord Mark) (h : ℕ) (x : Var) (v : CoreValue Mark) → h < length ts → written h x v (ts ++ d ∷ []) ≡ written h x v ts ++ d ∷ []
written_append ts d h x v l =
    ap (λ r. slice_set (ts ++ d ∷ []) h (with_value r x v)) (get_or_append_left ts (d ∷ []) [] h l) ∙ set-append_left ts (d ∷ []) h (with_value (record_at ts h) x v) l

abbrev held_with : Records → List (Option Value) → Held
held_with ts cells = record { records = ts; cells = cells }

abbrev appended : EnvironmentRecord Mark → Held → Held
appended d m = record { records = m.records ++ d ∷ []; cells = m.cells }

still_below : (ts : Records) (h : ℕ) (x : Var) (v : CoreValue Mark) → h < length ts → h < length (written h x v ts)
still_below ts h x v l = subst (λ n. h < n) (sym (length_written ts h x v)) l

renewed_append : (h : ℕ) (rs : List Renewal) (m : Held) (d : EnvironmentRecord Mark) → h < length m.records → all_renewed h rs (appended d m) ≡ appended d (all_renewed h rs m)
renewed_append h [] m d l = refl
renewed_append h (OwnCell y w ∷ rs) m d l =
    ap (λ ts. all_renewed h rs (held_with ts (m.cells ++ w ∷ []))) (written_append m.records d h y (Extra (Cell (length m.cells))) l)
    ∙ renewed_append h rs (renewed_by h (OwnCell y w) m) d (still_below m.records h y (Extra (Cell (length m.cells))) l)
renewed_append h (NoValue y ∷ rs) m d l =
    ap (λ ts. all_renewed h rs (held_with ts m.cells)) (written_append m.records d h y empty l)
    ∙ renewed_append h rs (renewed_by h (NoValue y) m) d (still_below m.records h y empty l)

-- ---- what the cells of a scope are of

or_right : (a b : Bool) → b ≡ true → a || b ≡ true
or_right true b h = refl
or_right false b h = h

or_false : (a b : Bool) → a || b ≡ false → (a ≡ false) × (b ≡ false)
or_false true b h = absurd (differ true refl h)
or_false false b h = (refl, h)

own_by : (e : Bool) (k j : ℕ) (o : Option ℕ) (r : Bool) → (if e then Some k else o) ≡ Some j → (o ≡ Some j → r ≡ true) → e || r ≡ true
own_by true k j o r h on = refl
own_by false k j o r h on = on h

cell_by : (n : ScopedName) (names : List ScopedName) (k : ℕ) (y : Var) (j : ℕ) (shared : Bool) → cell_found (cells_from k (cond shared (OwnCell n.var None) (NoValue n.var) ∷ map reset_of names)) y ≡ Some j
    → ((k2 : ℕ) → cell_found (cells_from k2 (map reset_of names)) y ≡ Some j → is_among y (vars names) ≡ true) → nat_eq n.var.0 y.0 || is_among y (vars names) ≡ true
cell_by n names k y j true h on = own_by (nat_eq n.var.0 y.0) k j (cell_found (cells_from (suc k) (map reset_of names)) y) (is_among y (vars names)) h (on (suc k))
cell_by n names k y j false h on = or_right (nat_eq n.var.0 y.0) (is_among y (vars names)) (on k h)

reset_cells : (names : List ScopedName) (k : ℕ) (y : Var) (j : ℕ) → cell_found (cells_from k (map reset_of names)) y ≡ Some j → is_among y (vars names) ≡ true
reset_cells [] k y j h = cc
reset_cells (n ∷ names) k y j h = cell_by n names k y j n.shared h (λ k2 i. reset_cells names k2 y j i)

-- ---- what the target finds behind the handler's record

images_by_seat : (owners : List ℕ) (seats : Seats) (rs ts : Records) (cells : List (Option Value)) (mem : Memory owners seats rs ts cells) (n : ℕ) (e : Environment) (o : Option Seat) → slice_get seats n ≡ o
    → Below (length ts) e → Below (length ts) (with_image (image_in o) e)
images_by_seat owners seats rs ts cells mem n e None at below = below
images_by_seat owners seats rs ts cells mem n e (Some seat) at below = by_image seat.image refl
  where
    by_image : (i : Option ℕ) → seat.image ≡ i → Below (length ts) (with_image i e)
    by_image None image = below
    by_image (Some i) image = below_cons (length ts) i e (mem.images_made n i seat at image) below

images_below : (owners : List ℕ) (seats : Seats) (rs ts : Records) (cells : List (Option Value)) (mem : Memory owners seats rs ts cells) (e : Environment) → Below (length ts) (images seats e)
images_below owners seats rs ts cells mem [] = refl
images_below owners seats rs ts cells mem (n ∷ e) = images_by_seat owners seats rs ts cells mem n (images seats e) (slice_get seats n) refl (images_below owners seats rs ts cells mem e)

found_behind : (ts : Records) (e : Environment) (x y : Var) (v : CoreValue Mark) (h : ℕ) → Below (length ts) e → nat_eq y.0 x.0 ≡ false → FoundIn ts e y h → FoundIn (ts ++ (binding x v ∷ []) ∷ []) (length ts ∷ e) y h
found_behind ts e x y v h below ne f =
    let away : nat_eq x.0 y.0 ≡ false = ne_eqb x.0 y.0 (λ p. differ (nat_eq y.0 x.0) (eq-eqb y.0 x.0 (sym p)) ne) in
    record {
      found = f.found;
      is = first ts (binding x v ∷ []) e y below ∙ ap (λ b. or_outer (length ts) (if b then Some (binding x v) else None) (resolved ts e y)) away ∙ f.is;
      at = f.at;
    }

name_of : (y : Var) (b : Bool) → renewed_name (cond b (OwnCell y None) (NoValue y)) ≡ y
name_of y true = refl
name_of y false = refl

handles : (core : Core) (x : Var) (names : List ScopedName) (handler : List CoreStat) (v : Value) (s : CoreState)
    → core_step core (with_control (Hand (Throws v)) (pushed (Catching x names handler) s)) ≡ Goes (with_control (Run handler) (handler_entered x v names s))
unfolding step hand abrupt
handles core x names handler v s = refl

module _ (core core2 : Core) (owners : List ℕ) (seats : Seats) (h : ℕ) (x : Var) (names : List ScopedName) (handler : List CoreStat) (v : Value) (s t : CoreState)
    (scope : NewScope owners seats s.records t.records h (vars names) (uninitialized names) (map reset_of names)) (at : AllAt seats s.context.environment h names) (foreign : is_among x (vars names) ≡ false)
    (stand : Stand owners seats s t) (frames : Frames owners seats s.context.environment s.context.frames t.context.frames) where
  abbrev own_of : EnvironmentRecord Mark
  own_of = binding x (User v) ∷ []

  abbrev renewals : List Renewal
  renewals = map reset_of names

  abbrev seat0 : Seat
  seat0 = scope_seat h (vars names) (length t.store.cells) renewals

  abbrev seat3 : Seat
  seat3 = with_own_image (length t.records) x seat0

  abbrev seats3 : Seats
  seats3 = seats ++ seat3 ∷ []

  abbrev entered : CoreState
  entered = handler_entered x v names s

  -- the target behind its own record, and behind the resets
  abbrev inside : CoreState
  inside = handler_entered x v [] t

  abbrev m : Held
  m = all_renewed h renewals (held_of t)

  abbrev after : CoreState
  after = with_held (appended own_of m) inside

  below_t : Below (length t.records) t.context.environment
  below_t = subst (λ e. Below (length t.records) e) (sym stand.environment) (images_below owners seats s.records t.records t.store.cells stand.states.memory s.context.environment)

  all_behind : (ns : List ScopedName) → is_among x (vars ns) ≡ false → AllFound t.records t.context.environment h ns → AllFound inside.records inside.context.environment h ns
  all_behind [] out f = tt
  all_behind (n ∷ ns) out (f, fs) =
      let parts = or_false (nat_eq n.var.0 x.0) (is_among x (vars ns)) out in
      (found_behind t.records t.context.environment x n.var (User v) h below_t parts.0 f, all_behind ns parts.1 fs)

  all_found_inside : AllFound inside.records inside.context.environment h names
  all_found_inside = all_behind names foreign (all_found owners seats h s t stand names at)

  open_inside : (y : Var) → OpenAt t.records h y → OpenAt inside.records h y
  open_inside y o = record { binding = o.binding; there = ap (λ r. binding_in r y) (get_or_append_left t.records (own_of ∷ []) [] h scope.home) ∙ o.there; mutable = o.mutable }

  all_open : (all : List Var) (ns : List ScopedName) → AllNamed t.records h all (map reset_of ns) → AllFound inside.records inside.context.environment h ns → AreOpen inside ns
  all_open all [] named f = tt
  all_open all (n ∷ ns) (is, o, named) (f, fs) =
      let o2 : OpenAt t.records h n.var = subst (λ y. OpenAt t.records h y) (name_of n.var n.shared) o in
      (λ shared. open_at inside n.var h (resolved_on inside inside.context.environment n.var h refl f) (open_inside n.var o2), all_open all ns named fs)

  target_way : Reaches (core_step core2) (suc (reset_steps names)) (with_control (Hand (Throws v)) (pushed (Catching x [] (map reset names ++ stats_flat owners handler)) t)) (with_control (Run (stats_flat owners handler)) after)
  target_way =
      let zs = stats_flat owners handler in
      let way : Way core2 (reset_steps names) (Run (map reset names ++ zs)) inside (Run zs) (all_reset names inside) = resets core2 names zs inside (all_open (vars names) names scope.named all_found_inside) in
      let made : all_reset names inside ≡ after =
      all_reset_is core2 names h (held_of inside) inside all_found_inside ∙ ap (λ y. with_held y inside) (renewed_append h renewals (held_of t) own_of scope.home) in
      (_, handles core2 x [] (map reset names ++ zs) v t, subst (λ u. Way core2 (reset_steps names) (Run (map reset names ++ zs)) inside (Run zs) u) made way)

  memory : Memory owners seats3 entered.records after.records after.store.cells
  memory =
      let first_mem = scopes_remembered owners seats s.records t.records t.store.cells h (vars names) (uninitialized names) renewals stand.states.memory scope in
      let second_mem : Memory owners (seats ++ with_own_image (length m.records) x seat0 ∷ []) entered.records after.records after.store.cells =
      parameters_remembered owners seats seat0 s.records m.records (uninitialized names) m.cells x (User v) refl foreign (λ y k found. reset_cells names (length t.store.cells) y k found) first_mem in
      subst (λ n. Memory owners (seats ++ with_own_image n x seat0 ∷ []) entered.records after.records after.store.cells) (renewed_length h renewals (held_of t)) second_mem

  last_seat : slice_get seats3 (length s.records) ≡ Some seat3
  last_seat = ap (λ i. slice_get seats3 i) (sym stand.states.memory.seated) ∙ got_last seats seat3

  new_below : Below (length seats3) (length s.records ∷ s.context.environment)
  new_below =
      let p : length seats3 ≡ length seats + 1 = length_push seats seat3 in
      let q : length seats ≡ length s.records = stand.states.memory.seated in
      let l : length s.records < length seats3 = omega arith in
      below_cons (length seats3) (length s.records) s.context.environment l (below_more (length seats) (length seats3) s.context.environment (omega arith) stand.below)

  images_are : t.context.environment ≡ images seats3 s.context.environment
  images_are = stand.environment ∙ sym (environments_stay seats (seat3 ∷ []) s.context.environment stand.below)

  stand_after : Stand owners seats3 entered after
  stand_after = record {
    states = states_stay owners seats (seat3 ∷ []) s t entered.context inside.context entered.records after.records after.store.cells stand.states memory;
    environment = ap (λ e. length t.records ∷ e) images_are ∙ sym (ap (λ o. with_image (image_in o) (images seats3 s.context.environment)) last_seat);
    below = new_below;
    receiver = stand.receiver;
    site = stand.site;
    own = stand.own;
  }

  no_scope_here : IsScope seats3 (length s.records) → ⊥
  no_scope_here (seat, is, away) = not_none seat.image (length t.records) (ap (λ a. a.image) (one_value (slice_get seats3 (length s.records)) seat seat3 is last_seat)) away

  frames_after : Frames owners seats3 (length s.records ∷ s.context.environment) entered.context.frames after.context.frames
  frames_after =
      subst (λ e. Frames owners seats3 (length s.records ∷ s.context.environment) entered.context.frames (Restore e ∷ t.context.frames)) (sym images_are)
      (restore no_scope_here (frames_stay owners seats (seat3 ∷ []) s.context.environment s.context.frames t.context.frames stand.below frames))

pub handlers_take : HandlersTakeThrows
handlers_take core core2 owners seats h x names handler v s t scope at foreign stand frames = (
  suc (reset_steps names),
  with_control (Run (stats_flat owners handler)) (after core core2 owners seats h x names handler v s t scope at foreign stand frames),
  handles core x names handler v s,
  target_way core core2 owners seats h x names handler v s t scope at foreign stand frames,
  run_at core core2 owners (handled_seats seats (length t.records) x h names (length t.store.cells)) (handler_entered x v names s) (after core core2 owners seats h x names handler v s t scope at foreign stand frames) handler
      (stand_after core core2 owners seats h x names handler v s t scope at foreign stand frames) (frames_after core core2 owners seats h x names handler v s t scope at foreign stand frames),
)
