-- The new record of a call.
use Rattle.std.proofs.Common.{◌≡◌, ℕ, ◌+◌, ◌<◌, true, false, List, [], ◌∷◌, ◌++◌, Option, None, Some, length, slice_get, refl, sym, ap, arith, subst, ◌∙◌, ◌⊎◌, inl, inr}
use Rattle.std.specs.Prelude.{is_some}
use Rattle.std.proofs.lemmas.List.{get_or_append_left, get_or_at, length_push}
use Rattle.es_value.specs.declared.value.Value.{Value}
use Rattle.core_ast.specs.declared.parts.Var.{Var}
use Rattle.core_meaning.specs.Marks.{Cell, KeptCell, Mark}
use Rattle.core_meaning.specs.Names.{binding_in, record_at}
use Rattle.core_meaning.specs.State.{Binding, CoreValue, EnvironmentRecord, Extra}
use Rattle.pass_rules.specs.Cells.{is_among}
use Rattle.cells_keep_runs.specs.Entries.{BoundAlike, BoundCell, BoundOpen, CallsAreRemembered, NewCall, call_seat}
use Rattle.cells_keep_runs.specs.Memory.{CellAt, HasOpen, IsNewest, Keeps, Memory, Names, OpenAt, Seat, Seats, cell_found, in_cell, in_home, in_image, is_scoped}
use Rattle.cells_keep_runs.proofs.Renewed.{bound_before, got_below, got_last, none_before, old_or_new, still_got}
use Rattle.cells_keep_runs.proofs.Writes.{differ, one_value}

abbrev Records : Type 0
Records = List (EnvironmentRecord Mark)

module _ (owners : List ℕ) (seats : Seats) (rs ts : Records) (cells : List (Option Value)) (bindings2 bindings : EnvironmentRecord Mark) (locals has : List Var) (kept : List KeptCell)
    (mem : Memory owners seats rs ts cells) (call : NewCall bindings2 bindings cells locals has kept) where
  abbrev seat : Seat
  seat = call_seat (length ts) locals has kept

  abbrev seats2 : Seats
  seats2 = seats ++ seat ∷ []

  abbrev ts2 : Records
  ts2 = ts ++ bindings2 ∷ []

  abbrev IsOld : ℕ → Seat → Type 0
  IsOld n here = (slice_get seats n ≡ Some here) ⊎ ((n ≡ length seats) × (here ≡ seat))

  grown : (n : ℕ) → n < length ts → record_at ts2 n ≡ record_at ts n
  grown n l = get_or_append_left ts (bindings2 ∷ []) [] n l

  newest_record : record_at ts2 (length ts) ≡ bindings2
  newest_record = get_or_at ts bindings2 [] [] (length ts) refl

  longer : (n : ℕ) → n < length ts → n < length ts2
  longer n l = let p : length ts2 ≡ length ts + 1 = length_push ts bindings2 in omega arith

  was_newest : (n : ℕ) (x : Var) → IsNewest seats2 n x → IsNewest seats n x
  was_newest n x newest m here there at at2 home scoped = newest m here there (still_got seats seat n here at) (still_got seats seat m there at2) home scoped

  open_grown : (h : ℕ) (x : Var) (v : CoreValue Mark) → h < length ts → HasOpen ts h x v → HasOpen ts2 h x v
  open_grown h x v l o = record { binding = o.binding; there = ap (λ r. binding_in r x) (grown h l) ∙ o.there; value = o.value; mutable = o.mutable }

  old_name : (n : ℕ) (x : Var) (b : Binding Mark) → Names owners seats ts cells n x b → Names owners seats2 ts2 cells n x b
  old_name n x b (in_image here i c at image plain there same) =
      in_image here i c (still_got seats seat n here at) image plain (ap (λ r. binding_in r x) (grown i (mem.images_made n i here at image)) ∙ there) same
  old_name n x b (in_cell here k v at scoped shared found held is home) =
      in_cell here k v (still_got seats seat n here at) scoped shared found held is (λ newest. open_grown here.home x (Extra (Cell k)) (mem.homes_made n here at) (home (was_newest n x newest)))
  old_name n x b (in_home here at scoped unshared home) =
      in_home here (still_got seats seat n here at) scoped unshared (λ newest. open_grown here.home x b.value (mem.homes_made n here at) (home (was_newest n x newest)))

  new_name : (x : Var) (b : Binding Mark) → binding_in bindings x ≡ Some b → Names owners seats2 ts2 cells (length seats) x b
  new_name x b bound =
      let a : BoundAlike bindings2 x b = call.same x b bound in
      in_image seat (length ts) a.binding (got_last seats seat) refl refl (ap (λ r. binding_in r x) newest_record ∙ a.there) a.same

  names_by : (n : ℕ) (x : Var) (b : Binding Mark) → (binding_in (record_at rs n) x ≡ Some b) ⊎ ((n ≡ length rs) × (binding_in bindings x ≡ Some b)) → Names owners seats2 ts2 cells n x b
  names_by n x b (inl old) = old_name n x b (mem.names n x b old)
  names_by n x b (inr new) = subst (λ j. Names owners seats2 ts2 cells j x b) (mem.seated ∙ sym new.0) (new_name x b new.1)

  images_by : (n i : ℕ) (here : Seat) → IsOld n here → here.image ≡ Some i → i < length ts2
  images_by n i here (inl old) image = longer i (mem.images_made n i here old image)
  images_by n i here (inr new) image =
      let e : length ts ≡ i = one_value here.image (length ts) i (ap (λ s. s.image) new.1) image in
      let p : length ts2 ≡ length ts + 1 = length_push ts bindings2 in
      omega arith

  homes_by : (n : ℕ) (here : Seat) → IsOld n here → here.home < length ts2
  homes_by n here (inl old) = longer here.home (mem.homes_made n here old)
  homes_by n here (inr new) =
      let e : here.home ≡ length ts = ap (λ s. s.home) new.1 in
      let p : length ts2 ≡ length ts + 1 = length_push ts bindings2 in
      omega arith

  cells_by : (n k : ℕ) (here : Seat) (x : Var) → IsOld n here → cell_found here.cells x ≡ Some k → k < length cells
  cells_by n k here x (inl old) found = mem.cells_made n k here x old found
  cells_by n k here x (inr new) found = call.made x k (ap (λ s. cell_found s.cells x) (sym new.1) ∙ found)

  apart_by : (n m i : ℕ) (here there : Seat) → IsOld n here → IsOld m there → here.image ≡ Some i → there.image ≡ Some i → n ≡ m
  apart_by n m i here there (inl old) (inl old2) image image2 = mem.images_apart n m i here there old old2 image image2
  apart_by n m i here there (inl old) (inr new) image image2 =
      let p : i < length ts = mem.images_made n i here old image in
      let e : length ts ≡ i = one_value there.image (length ts) i (ap (λ s. s.image) new.1) image2 in
      absurd (omega arith)
  apart_by n m i here there (inr new) (inl old) image image2 =
      let p : i < length ts = mem.images_made m i there old image2 in
      let e : length ts ≡ i = one_value here.image (length ts) i (ap (λ s. s.image) new.1) image in
      absurd (omega arith)
  apart_by n m i here there (inr new) (inr new2) image image2 = new.0 ∙ sym new2.0

  unscoped : (m : ℕ) (there : Seat) (x : Var) → there ≡ seat → is_scoped there x ≡ true → ⊥
  unscoped m there x is scoped = differ (is_scoped there x) scoped (ap (λ s. is_scoped s x) is)

  unbound_on : (n : ℕ) (here : Seat) (x : Var) → slice_get seats n ≡ Some here → binding_in (record_at rs n) x ≡ None → binding_in (record_at (rs ++ bindings ∷ []) n) x ≡ None
  unbound_on n here x at out =
      let p : n < length seats = got_below seats n here at in
      let q : length seats ≡ length rs = mem.seated in
      let l : n < length rs = omega arith in
      none_before rs bindings n x l out

  homes_apart_by : (n m : ℕ) (here there : Seat) (x : Var) → IsOld n here → IsOld m there → here.image ≡ Some there.home → is_scoped there x ≡ true → binding_in (record_at (rs ++ bindings ∷ []) n) x ≡ None
  homes_apart_by n m here there x (inl old) (inl old2) image scoped = unbound_on n here x old (mem.homes_apart n m here there x old old2 image scoped)
  homes_apart_by n m here there x (inr new) (inl old) image scoped =
      let p : there.home < length ts = mem.homes_made m there old in
      let e : length ts ≡ there.home = one_value here.image (length ts) there.home (ap (λ s. s.image) new.1) image in
      absurd (omega arith)
  homes_apart_by n m here there x (inl old) (inr new) image scoped = absurd (unscoped m there x new.1 scoped)
  homes_apart_by n m here there x (inr new2) (inr new) image scoped = absurd (unscoped m there x new.1 scoped)

  cells_apart_by : (n m k : ℕ) (here there : Seat) (x y : Var) → IsOld n here → IsOld m there → is_scoped here x ≡ true → is_scoped there y ≡ true
      → cell_found here.cells x ≡ Some k → cell_found there.cells y ≡ Some k → (n ≡ m) × (x.0 ≡ y.0)
  cells_apart_by n m k here there x y (inl old) (inl old2) scoped scoped2 found found2 = mem.cells_apart n m k here there x y old old2 scoped scoped2 found found2
  cells_apart_by n m k here there x y (inr new) (inl old2) scoped scoped2 found found2 = absurd (unscoped n here x new.1 scoped)
  cells_apart_by n m k here there x y (inl old) (inr new) scoped scoped2 found found2 = absurd (unscoped m there y new.1 scoped2)
  cells_apart_by n m k here there x y (inr new2) (inr new) scoped scoped2 found found2 = absurd (unscoped m there y new.1 scoped2)

  shapes_by : (n i : ℕ) (here : Seat) (x : Var) → IsOld n here → here.image ≡ Some i → is_some (binding_in (record_at ts2 i) x) ≡ is_among x here.has
  shapes_by n i here x (inl old) image = ap (λ r. is_some (binding_in r x)) (grown i (mem.images_made n i here old image)) ∙ mem.shapes n i here x old image
  shapes_by n i here x (inr new) image =
      let e : i ≡ length ts = one_value here.image i (length ts) image (ap (λ s. s.image) new.1) in
      ap (λ j. is_some (binding_in (record_at ts2 j) x)) e ∙ ap (λ r. is_some (binding_in r x)) newest_record ∙ call.shape x ∙ ap (λ s. is_among x s.has) (sym new.1)

  locals_by : (n i : ℕ) (here : Seat) (x : Var) → IsOld n here → here.image ≡ Some i → is_among x here.locals ≡ true → OpenAt ts2 i x
  locals_by n i here x (inl old) image local =
      let o : OpenAt ts i x = mem.locals_open n i here x old image local in
      record { binding = o.binding; there = ap (λ r. binding_in r x) (grown i (mem.images_made n i here old image)) ∙ o.there; mutable = o.mutable }
  locals_by n i here x (inr new) image local =
      let e : i ≡ length ts = one_value here.image i (length ts) image (ap (λ s. s.image) new.1) in
      let o : BoundOpen bindings2 x = call.locals_open x (ap (λ s. is_among x s.locals) (sym new.1) ∙ local) in
      record { binding = o.binding; there = ap (λ j. binding_in (record_at ts2 j) x) e ∙ ap (λ r. binding_in r x) newest_record ∙ o.there; mutable = o.mutable }

  old_keeps : (n i k : ℕ) (x : Var) (keeps : Keeps seats2 n i x k) → slice_get seats n ≡ Some keeps.seat → Keeps seats n i x k
  old_keeps n i k x keeps at = record { seat = keeps.seat; seated = at; image = keeps.image; plain = keeps.plain; found = keeps.found }

  kept_by : (n i k : ℕ) (x : Var) (keeps : Keeps seats2 n i x k) → IsOld n keeps.seat → CellAt ts2 i x k
  kept_by n i k x keeps (inl old) =
      let o : CellAt ts i x k = mem.kept n i k x (old_keeps n i k x keeps old) in
      record { binding = o.binding; there = ap (λ r. binding_in r x) (grown i (mem.images_made n i keeps.seat old keeps.image)) ∙ o.there; value = o.value }
  kept_by n i k x keeps (inr new) =
      let e : i ≡ length ts = one_value keeps.seat.image i (length ts) keeps.image (ap (λ s. s.image) new.1) in
      let o : BoundCell bindings2 x k = call.holds x k (ap (λ s. cell_found s.cells x) (sym new.1) ∙ keeps.found) in
      record { binding = o.binding; there = ap (λ j. binding_in (record_at ts2 j) x) e ∙ ap (λ r. binding_in r x) newest_record ∙ o.there; value = o.value }

  last_unbound : (n : ℕ) (x : Var) → n ≡ length rs → binding_in bindings x ≡ None → binding_in (record_at (rs ++ bindings ∷ []) n) x ≡ None
  last_unbound n x e out = ap (λ j. binding_in (record_at (rs ++ bindings ∷ []) j) x) e ∙ ap (λ r. binding_in r x) (get_or_at rs bindings [] [] (length rs) refl) ∙ out

  kept_unbound_by : (n i k : ℕ) (x : Var) (keeps : Keeps seats2 n i x k) → IsOld n keeps.seat → binding_in (record_at (rs ++ bindings ∷ []) n) x ≡ None
  kept_unbound_by n i k x keeps (inl old) = unbound_on n keeps.seat x old (mem.kept_unbound n i k x (old_keeps n i k x keeps old))
  kept_unbound_by n i k x keeps (inr new) = last_unbound n x (new.0 ∙ mem.seated) (call.foreign x k (ap (λ s. cell_found s.cells x) (sym new.1) ∙ keeps.found))

  kept_apart_by : (n i k m : ℕ) (x : Var) (there : Seat) (keeps : Keeps seats2 n i x k) → IsOld n keeps.seat → IsOld m there → there.home ≡ i → is_scoped there x ≡ false
  kept_apart_by n i k m x there keeps (inl old) (inl old2) home = mem.kept_apart n i k m x there (old_keeps n i k x keeps old) old2 home
  kept_apart_by n i k m x there keeps (inr new) (inl old) home =
      let p : there.home < length ts = mem.homes_made m there old in
      let e : length ts ≡ i = one_value keeps.seat.image (length ts) i (ap (λ s. s.image) new.1) keeps.image in
      absurd (omega arith)
  kept_apart_by n i k m x there keeps (inl old) (inr new) home = ap (λ s. is_scoped s x) new.1
  kept_apart_by n i k m x there keeps (inr new2) (inr new) home = ap (λ s. is_scoped s x) new.1

  new_call : Memory owners seats2 (rs ++ bindings ∷ []) ts2 cells
  new_call = record {
    seated = length_push seats seat ∙ ap (λ l. l + 1) mem.seated ∙ sym (length_push rs bindings);
    names = λ n x b bound. names_by n x b (bound_before rs bindings n x b bound);
    images_made = λ n i here at image. images_by n i here (old_or_new seats seat n here at) image;
    homes_made = λ n here at. homes_by n here (old_or_new seats seat n here at);
    cells_made = λ n k here x at found. cells_by n k here x (old_or_new seats seat n here at) found;
    images_apart = λ n m i here there at at2 image image2. apart_by n m i here there (old_or_new seats seat n here at) (old_or_new seats seat m there at2) image image2;
    homes_apart = λ n m here there x at at2 image scoped. homes_apart_by n m here there x (old_or_new seats seat n here at) (old_or_new seats seat m there at2) image scoped;
    cells_apart = λ n m k here there x y at at2 scoped scoped2 found found2.
        cells_apart_by n m k here there x y (old_or_new seats seat n here at) (old_or_new seats seat m there at2) scoped scoped2 found found2;
    shapes = λ n i here x at image. shapes_by n i here x (old_or_new seats seat n here at) image;
    locals_open = λ n i here x at image local. locals_by n i here x (old_or_new seats seat n here at) image local;
    kept = λ n i k x keeps. kept_by n i k x keeps (old_or_new seats seat n keeps.seat keeps.seated);
    kept_unbound = λ n i k x keeps. kept_unbound_by n i k x keeps (old_or_new seats seat n keeps.seat keeps.seated);
    kept_apart = λ n i k m x there keeps at home. kept_apart_by n i k m x there keeps (old_or_new seats seat n keeps.seat keeps.seated) (old_or_new seats seat m there at) home;
  }

pub calls_remembered : CallsAreRemembered
calls_remembered owners seats rs ts cells bindings2 bindings locals has kept mem call = new_call owners seats rs ts cells bindings2 bindings locals has kept mem call
