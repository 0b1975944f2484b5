-- Writes leave names where they are.
use Rattle.std.specs.Option.{option_map}
use Rattle.std.proofs.Common.{◌≡◌, ℕ, zero, suc, ◌<◌, ◌≤◌, Bool, true, false, List, [], ◌∷◌, Option, None, Some, length, slice_get, refl, sym, ap, arith, subst, ◌∙◌, ◌⊎◌, inl, inr}
use Rattle.std.specs.Prelude.{is_some, slice_set}
use Rattle.std.proofs.lemmas.Bool.{cases_eq}
use Rattle.std.proofs.lemmas.List.{length-set}
use Rattle.es_value.specs.declared.value.Value.{Value}
use Rattle.core_ast.specs.declared.parts.Var.{Var}
use Rattle.core_meaning.specs.Marks.{Cell, Mark, value_in}
use Rattle.core_meaning.specs.Names.{binding_in, record_at, with_value}
use Rattle.core_meaning.specs.State.{Binding, CoreValue, EnvironmentRecord, Extra}
use Rattle.pass_rules.specs.Cells.{is_shared}
use Rattle.cells_keep_runs.specs.Memory.{CellAt, HasOpen, Keeps, OpenAt, IsNewest, Memory, Names, Seat, Seats, cell_found, in_cell, in_home, in_image, is_scoped}
use Rattle.cells_keep_runs.specs.Places.{written}
use Rattle.cells_keep_runs.specs.Writes.{CellOf, IsHeld, PlaceOf, SharedAreWritten, UnsharedAreWritten, at_home, at_image}
use Rattle.cells_keep_runs.proofs.Places.{other_name, other_record, same_name, same_record, valued}

-- ---- equal things

pub differ : (b : Bool) → b ≡ true → b ≡ false → ⊥
differ b p q = cc

pub one_value : {A : Type 0} (o : Option A) (a b : A) → o ≡ Some a → o ≡ Some b → a ≡ b
one_value o a b p q = cc

pub not_none : {A : Type 0} (o : Option A) (a : A) → o ≡ Some a → o ≡ None → ⊥
not_none o a p q = cc

numbered : ℕ → Var
numbered n = record { 0 = n }

pub same_var : (x y : Var) → x.0 ≡ y.0 → x ≡ y
unfolding numbered
same_var x y p = ap numbered p

-- ---- one place, or another

abbrev pub IsHere : ℕ → ℕ → Var → Var → Type 0
IsHere i n y x = (i ≡ n) × (y.0 ≡ x.0)

by_parts : (i n : ℕ) (y x : Var) → ((i ≡ n) ⊎ (i ≡ n → ⊥)) → ((y.0 ≡ x.0) ⊎ (y.0 ≡ x.0 → ⊥)) → IsHere i n y x ⊎ (IsHere i n y x → ⊥)
by_parts i n y x (inr away) name = inr (λ h. away h.0)
by_parts i n y x (inl same) (inr away) = inr (λ h. away h.1)
by_parts i n y x (inl same) (inl name) = inl (same, name)

pub here_or : (i n : ℕ) (y x : Var) → IsHere i n y x ⊎ (IsHere i n y x → ⊥)
here_or i n y x = by_parts i n y x (cases_eq i n) (cases_eq y.0 x.0)

abbrev Records : Type 0
Records = List (EnvironmentRecord Mark)

pub written_here : (rs : Records) (n : ℕ) (x : Var) (v : CoreValue Mark) → binding_in (record_at (written n x v rs) n) x ≡ option_map (valued v) (binding_in (record_at rs n) x)
written_here rs n x v = ap (λ r. binding_in r x) (same_record rs n x v) ∙ same_name (record_at rs n) x v

there_by : (rs : Records) (n i : ℕ) (x y : Var) (v : CoreValue Mark) → ((i ≡ n) ⊎ (i ≡ n → ⊥)) → (IsHere i n y x → ⊥) → binding_in (record_at (written n x v rs) i) y ≡ binding_in (record_at rs i) y
there_by rs n i x y v (inr away) h = ap (λ r. binding_in r y) (other_record rs n i x v away)
there_by rs n i x y v (inl same) h =
    subst (λ j. binding_in (record_at (written n x v rs) j) y ≡ binding_in (record_at rs j) y) (sym same)
    (ap (λ r. binding_in r y) (same_record rs n x v) ∙ other_name (record_at rs n) x y v (λ p. h (same, p)))

pub written_there : (rs : Records) (n i : ℕ) (x y : Var) (v : CoreValue Mark) → (IsHere i n y x → ⊥) → binding_in (record_at (written n x v rs) i) y ≡ binding_in (record_at rs i) y
written_there rs n i x y v h = there_by rs n i x y v (cases_eq i n) h

-- a name that isn't there isn't there behind a write
unbound_by : (rs : Records) (n i : ℕ) (x y : Var) (v : CoreValue Mark) → (IsHere i n y x ⊎ (IsHere i n y x → ⊥)) → binding_in (record_at rs i) y ≡ None → binding_in (record_at (written n x v rs) i) y ≡ None
unbound_by rs n i x y v (inr away) h = written_there rs n i x y v away ∙ h
unbound_by rs n i x y v (inl here) h =
    let at : binding_in (record_at rs n) x ≡ None = ap (λ j. binding_in (record_at rs j) x) (sym here.0) ∙ ap (λ z. binding_in (record_at rs i) z) (sym (same_var y x here.1)) ∙ h in
    ap (λ j. binding_in (record_at (written n x v rs) j) y) here.0 ∙ ap (λ z. binding_in (record_at (written n x v rs) n) z) (same_var y x here.1)
    ∙ written_here rs n x v ∙ ap (λ o. option_map (valued v) o) at

pub unbound : (rs : Records) (n i : ℕ) (x y : Var) (v : CoreValue Mark) → binding_in (record_at rs i) y ≡ None → binding_in (record_at (written n x v rs) i) y ≡ None
unbound rs n i x y v h = unbound_by rs n i x y v (here_or i n y x) h

some_map : {A B : Type 0} (f : A → B) (o : Option A) → is_some (option_map f o) ≡ is_some o
some_map f None = refl
some_map f (Some a) = refl

some_by : (rs : Records) (n i : ℕ) (x y : Var) (v : CoreValue Mark) → (IsHere i n y x ⊎ (IsHere i n y x → ⊥)) → is_some (binding_in (record_at (written n x v rs) i) y) ≡ is_some (binding_in (record_at rs i) y)
some_by rs n i x y v (inr away) = ap (λ o. is_some o) (written_there rs n i x y v away)
some_by rs n i x y v (inl here) =
    subst (λ j. is_some (binding_in (record_at (written n x v rs) j) y) ≡ is_some (binding_in (record_at rs j) y)) (sym here.0)
    (subst (λ z. is_some (binding_in (record_at (written n x v rs) n) z) ≡ is_some (binding_in (record_at rs n) z)) (sym (same_var y x here.1))
    (ap (λ o. is_some o) (written_here rs n x v) ∙ some_map (valued v) (binding_in (record_at rs n) x)))

-- a record has the same names behind a write
pub some_written : (rs : Records) (n i : ℕ) (x y : Var) (v : CoreValue Mark) → is_some (binding_in (record_at (written n x v rs) i) y) ≡ is_some (binding_in (record_at rs i) y)
some_written rs n i x y v = some_by rs n i x y v (here_or i n y x)

pub length_written : (rs : Records) (n : ℕ) (x : Var) (v : CoreValue Mark) → length (written n x v rs) ≡ length rs
length_written rs n x v = length-set rs n (with_value (record_at rs n) x v)

-- ---- open names

pub open_there : (ts : Records) (m h : ℕ) (x y : Var) (v w : CoreValue Mark) → (IsHere h m y x → ⊥) → HasOpen ts h y w → HasOpen (written m x v ts) h y w
open_there ts m h x y v w away o = record { binding = o.binding; there = written_there ts m h x y v away ∙ o.there; value = o.value; mutable = o.mutable }

pub open_here : (ts : Records) (m : ℕ) (x : Var) (v w : CoreValue Mark) → HasOpen ts m x w → HasOpen (written m x v ts) m x v
open_here ts m x v w o =
    record { binding = valued v o.binding; there = written_here ts m x v ∙ ap (λ b. option_map (valued v) b) o.there; value = refl; mutable = o.mutable }

open_by : (ts : Records) (m h : ℕ) (x y : Var) (v : CoreValue Mark) → (IsHere h m y x ⊎ (IsHere h m y x → ⊥)) → OpenAt ts h y → OpenAt (written m x v ts) h y
open_by ts m h x y v (inr away) o = record { binding = o.binding; there = written_there ts m h x y v away ∙ o.there; mutable = o.mutable }
open_by ts m h x y v (inl here) o =
    let at : binding_in (record_at ts m) x ≡ Some o.binding = ap (λ j. binding_in (record_at ts j) x) (sym here.0) ∙ ap (λ z. binding_in (record_at ts h) z) (sym (same_var y x here.1)) ∙ o.there in
    subst (λ j. OpenAt (written m x v ts) j y) (sym here.0) (subst (λ z. OpenAt (written m x v ts) m z) (sym (same_var y x here.1))
    (record { binding = valued v o.binding; there = written_here ts m x v ∙ ap (λ b. option_map (valued v) b) at; mutable = o.mutable }))

-- a name may be written behind a write
pub still_open : (ts : Records) (m h : ℕ) (x y : Var) (v : CoreValue Mark) → OpenAt ts h y → OpenAt (written m x v ts) h y
still_open ts m h x y v o = open_by ts m h x y v (here_or h m y x) o

pub cell_there : (ts : Records) (m h : ℕ) (x y : Var) (v : CoreValue Mark) (k : ℕ) → (IsHere h m y x → ⊥) → CellAt ts h y k → CellAt (written m x v ts) h y k
cell_there ts m h x y v k away o = record { binding = o.binding; there = written_there ts m h x y v away ∙ o.there; value = o.value }

-- ---- a write of an unshared name

module _ (owners : List ℕ) (seats : Seats) (rs ts : Records) (cells : List (Option Value)) (mem : Memory owners seats rs ts cells) where
  abbrev Away : ℕ → ℕ → Var → Var → Type 0
  Away i n y x = IsHere i n y x → ⊥

  -- the place of another name is another
  image_away : (n m : ℕ) (x : Var) → PlaceOf owners seats n x m → (j i : ℕ) (there : Seat) (y : Var) (c : Binding Mark) → slice_get seats j ≡ Some there → there.image ≡ Some i
      → binding_in (record_at rs j) y ≡ Some c → Away j n y x → Away i m y x
  image_away n m x (at_image here at image plain) j i there y c at2 image2 bound away (same, name) =
      away (mem.images_apart j n i there here at2 at image2 (image ∙ ap (λ k. Some k) (sym same)), name)
  image_away n m x (at_home here at home scoped unshared newest) j i there y c at2 image2 bound away (same, name) =
      let free : binding_in (record_at rs j) x ≡ None = mem.homes_apart j n there here x at2 at (image2 ∙ ap (λ k. Some k) (same ∙ sym home)) scoped in
      not_none (binding_in (record_at rs j) y) c bound (ap (λ z. binding_in (record_at rs j) z) (same_var y x name) ∙ free)

  home_away : (n m : ℕ) (x : Var) (b : Binding Mark) → PlaceOf owners seats n x m → binding_in (record_at rs n) x ≡ Some b → (j : ℕ) (there : Seat) (y : Var) → slice_get seats j ≡ Some there
      → is_scoped there y ≡ true → IsNewest seats j y → Away j n y x → Away there.home m y x
  home_away n m x b (at_image here at image plain) bound j there y at2 scoped newest away (same, name) =
      let scoped_x : is_scoped there x ≡ true = ap (λ z. is_scoped there z) (sym (same_var y x name)) ∙ scoped in
      not_none (binding_in (record_at rs n) x) b bound (mem.homes_apart n j here there x at at2 (image ∙ ap (λ k. Some k) (sym same)) scoped_x)
  home_away n m x b (at_home here at home scoped_n unshared newest_n) bound j there y at2 scoped newest away (same, name) =
      let scoped_x : is_scoped there x ≡ true = ap (λ z. is_scoped there z) (sym (same_var y x name)) ∙ scoped in
      let scoped_y : is_scoped here y ≡ true = ap (λ z. is_scoped here z) (same_var y x name) ∙ scoped_n in
      let p : j ≤ n = newest_n j here there at at2 (same ∙ sym home) scoped_x in
      let q : n ≤ j = newest n there here at2 at (home ∙ sym same) scoped_y in
      away (omega arith, name)

  kept_away : (n m : ℕ) (x : Var) (b : Binding Mark) → PlaceOf owners seats n x m → binding_in (record_at rs n) x ≡ Some b → (j i k : ℕ) (y : Var) → Keeps seats j i y k → Away i m y x
  kept_away n m x b (at_image here at image plain) bound j i k y keeps (same, name) =
      let j_is : j ≡ n = mem.images_apart j n i keeps.seat here keeps.seated at keeps.image (image ∙ ap (λ a. Some a) (sym same)) in
      not_none (binding_in (record_at rs n) x) b bound
      (ap (λ a. binding_in (record_at rs a) x) (sym j_is) ∙ ap (λ z. binding_in (record_at rs j) z) (sym (same_var y x name)) ∙ mem.kept_unbound j i k y keeps)
  kept_away n m x b (at_home here at home scoped unshared newest) bound j i k y keeps (same, name) =
      differ (is_scoped here x) scoped (ap (λ z. is_scoped here z) (sym (same_var y x name)) ∙ mem.kept_apart j i k n y here keeps at (home ∙ sym same))

  -- another name stays as it was
  name_stays : (n m : ℕ) (x : Var) (v : CoreValue Mark) (b : Binding Mark) → PlaceOf owners seats n x m → binding_in (record_at rs n) x ≡ Some b
      → (j : ℕ) (y : Var) (c : Binding Mark) → binding_in (record_at rs j) y ≡ Some c → Away j n y x
      → Names owners seats ts cells j y c → Names owners seats (written m x v ts) cells j y c
  name_stays n m x v b place bound j y c bound2 away (in_image there i d at image plain has same) =
      in_image there i d at image plain (written_there ts m i x y v (image_away n m x place j i there y c at image bound2 away) ∙ has) same
  name_stays n m x v b place bound j y c bound2 away (in_cell there k w at scoped shared found held is home) =
      in_cell there k w at scoped shared found held is
      (λ newest. open_there ts m there.home x y v (Extra (Cell k)) (home_away n m x b place bound j there y at scoped newest away) (home newest))
  name_stays n m x v b place bound j y c bound2 away (in_home there at scoped unshared home) =
      in_home there at scoped unshared
      (λ newest. open_there ts m there.home x y v c.value (home_away n m x b place bound j there y at scoped newest away) (home newest))

  -- the name itself has the value
  name_takes : (n m : ℕ) (x : Var) (v : CoreValue Mark) (b : Binding Mark) → PlaceOf owners seats n x m → Names owners seats ts cells n x b → Names owners seats (written m x v ts) cells n x (valued v b)
  name_takes n m x v b (at_image here at image plain) (in_image there i c at2 image2 plain2 has same) =
      let seat : there ≡ here = one_value (slice_get seats n) there here at2 at in
      let is : i ≡ m = one_value here.image i m (ap (λ s. s.image) (sym seat) ∙ image2) image in
      in_image here m (valued v c) at image plain
      (written_here ts m x v ∙ ap (λ o. option_map (valued v) o) (ap (λ k. binding_in (record_at ts k) x) (sym is) ∙ has)) (record { value = refl; mutable = same.mutable })
  name_takes n m x v b (at_image here at image plain) (in_cell there k w at2 scoped shared found held is home) =
      absurd (differ (is_scoped here x) (ap (λ s. is_scoped s x) (one_value (slice_get seats n) here there at at2) ∙ scoped) plain)
  name_takes n m x v b (at_image here at image plain) (in_home there at2 scoped unshared home) =
      absurd (differ (is_scoped here x) (ap (λ s. is_scoped s x) (one_value (slice_get seats n) here there at at2) ∙ scoped) plain)
  name_takes n m x v b (at_home here at home scoped unshared newest) (in_image there i c at2 image plain has same) =
      absurd (differ (is_scoped here x) scoped (ap (λ s. is_scoped s x) (one_value (slice_get seats n) here there at at2) ∙ plain))
  name_takes n m x v b (at_home here at home scoped unshared newest) (in_cell there k w at2 scoped2 shared found held is home2) = absurd (differ (is_shared owners x) shared unshared)
  name_takes n m x v b (at_home here at home scoped unshared newest) (in_home there at2 scoped2 unshared2 home2) =
      let same : there.home ≡ m = ap (λ s. s.home) (one_value (slice_get seats n) there here at2 at) ∙ home in
      in_home there at2 scoped2 unshared2
      (λ newest2. subst (λ h. HasOpen (written m x v ts) h x v) (sym same) (open_here ts m x v b.value (subst (λ h. HasOpen ts h x b.value) same (home2 newest2))))

  unshared_by : (n m : ℕ) (x : Var) (v : CoreValue Mark) (b : Binding Mark) → PlaceOf owners seats n x m → binding_in (record_at rs n) x ≡ Some b
      → (j : ℕ) (y : Var) (c : Binding Mark) → (IsHere j n y x ⊎ (IsHere j n y x → ⊥)) → binding_in (record_at (written n x v rs) j) y ≡ Some c
      → Names owners seats (written m x v ts) cells j y c
  unshared_by n m x v b place bound j y c (inr away) h =
      let old : binding_in (record_at rs j) y ≡ Some c = sym (written_there rs n j x y v away) ∙ h in
      name_stays n m x v b place bound j y c old away (mem.names j y c old)
  unshared_by n m x v b place bound j y c (inl here) h =
      let at : binding_in (record_at (written n x v rs) n) x ≡ Some c =
      ap (λ k. binding_in (record_at (written n x v rs) k) x) (sym here.0) ∙ ap (λ z. binding_in (record_at (written n x v rs) j) z) (sym (same_var y x here.1)) ∙ h in
      let is : valued v b ≡ c = one_value (binding_in (record_at (written n x v rs) n) x) (valued v b) c (written_here rs n x v ∙ ap (λ o. option_map (valued v) o) bound) at in
      subst (λ z. Names owners seats (written m x v ts) cells j z c) (sym (same_var y x here.1))
      (subst (λ k. Names owners seats (written m x v ts) cells k x c) (sym here.0)
      (subst (λ d. Names owners seats (written m x v ts) cells n x d) is (name_takes n m x v b place (mem.names n x b bound))))

pub unshared_written : UnsharedAreWritten
unshared_written owners seats rs ts cells n m x v b mem bound place = record {
  seated = mem.seated ∙ sym (length_written rs n x v);
  names = λ j y c h. unshared_by owners seats rs ts cells mem n m x v b place bound j y c (here_or j n y x) h;
  images_made = λ j i here at image. subst (λ l. i < l) (sym (length_written ts m x v)) (mem.images_made j i here at image);
  homes_made = λ j here at. subst (λ l. here.home < l) (sym (length_written ts m x v)) (mem.homes_made j here at);
  cells_made = mem.cells_made;
  images_apart = mem.images_apart;
  homes_apart = λ j k here there y at at2 image scoped. unbound rs n j x y v (mem.homes_apart j k here there y at at2 image scoped);
  cells_apart = mem.cells_apart;
  shapes = λ j i here y at image. some_written ts m i x y v ∙ mem.shapes j i here y at image;
  locals_open = λ j i here y at image local. still_open ts m i x y v (mem.locals_open j i here y at image local);
  kept = λ j i k y keeps. cell_there ts m i x y v k (kept_away owners seats rs ts cells mem n m x b place bound j i k y keeps) (mem.kept j i k y keeps);
  kept_unbound = λ j i k y keeps. unbound rs n j x y v (mem.kept_unbound j i k y keeps);
  kept_apart = mem.kept_apart;
}

-- ---- a write of a shared name

get_set_same : {A : Type 0} (xs : List A) (k : ℕ) (w v : A) → slice_get xs k ≡ Some w → slice_get (slice_set xs k v) k ≡ Some v
get_set_same [] k w v h = cc
get_set_same (x ∷ xs) zero w v h = refl
get_set_same (x ∷ xs) (suc k) w v h = get_set_same xs k w v h

get_set_other : {A : Type 0} (xs : List A) (k i : ℕ) (v : A) → (i ≡ k → ⊥) → slice_get (slice_set xs k v) i ≡ slice_get xs i
get_set_other [] k i v h = refl
get_set_other (x ∷ xs) zero zero v h = absurd (h refl)
get_set_other (x ∷ xs) zero (suc i) v h = refl
get_set_other (x ∷ xs) (suc k) zero v h = refl
get_set_other (x ∷ xs) (suc k) (suc i) v h = get_set_other xs k i v (λ p. h (ap suc p))

module _ (owners : List ℕ) (seats : Seats) (rs ts : Records) (cells : List (Option Value)) (mem : Memory owners seats rs ts cells) where
  shared_stays : (n k : ℕ) (x : Var) (v : Option Value) → CellOf owners seats n x k → (j : ℕ) (y : Var) (c : Binding Mark) → (IsHere j n y x → ⊥)
      → Names owners seats ts cells j y c → Names owners seats ts (slice_set cells k v) j y c
  shared_stays n k x v cell j y c away (in_image there i d at image plain has same) = in_image there i d at image plain has same
  shared_stays n k x v cell j y c away (in_cell there i w at scoped shared found held is home) =
      let other : i ≡ k → ⊥ = λ p. away (mem.cells_apart j n i there cell.seat y x at cell.seated scoped cell.scoped found (cell.found ∙ ap (λ a. Some a) (sym p))) in
      in_cell there i w at scoped shared found (get_set_other cells k i v other ∙ held) is home
  shared_stays n k x v cell j y c away (in_home there at scoped unshared home) = in_home there at scoped unshared home

  shared_takes : (n k : ℕ) (x : Var) (v : CoreValue Mark) (b : Binding Mark) → CellOf owners seats n x k → IsHeld v → Names owners seats ts cells n x b → Names owners seats ts (slice_set cells k (value_in v)) n x (valued v b)
  shared_takes n k x v b cell is_held (in_image there i d at image plain has same) =
      absurd (differ (is_scoped there x) (ap (λ s. is_scoped s x) (one_value (slice_get seats n) there cell.seat at cell.seated) ∙ cell.scoped) plain)
  shared_takes n k x v b cell is_held (in_cell there i w at scoped shared found held is home) =
      let seat : there ≡ cell.seat = one_value (slice_get seats n) there cell.seat at cell.seated in
      let same : i ≡ k = one_value (cell_found there.cells x) i k found (ap (λ s. cell_found s.cells x) seat ∙ cell.found) in
      in_cell there i (value_in v) at scoped shared found
      (subst (λ a. slice_get (slice_set cells k (value_in v)) a ≡ Some (value_in v)) (sym same) (get_set_same cells k w (value_in v) (ap (λ a. slice_get cells a) (sym same) ∙ held))) is_held home
  shared_takes n k x v b cell is_held (in_home there at scoped unshared home) = absurd (differ (is_shared owners x) cell.shared unshared)

  shared_by : (n k : ℕ) (x : Var) (v : CoreValue Mark) (b : Binding Mark) → CellOf owners seats n x k → IsHeld v → binding_in (record_at rs n) x ≡ Some b
      → (j : ℕ) (y : Var) (c : Binding Mark) → (IsHere j n y x ⊎ (IsHere j n y x → ⊥)) → binding_in (record_at (written n x v rs) j) y ≡ Some c
      → Names owners seats ts (slice_set cells k (value_in v)) j y c
  shared_by n k x v b cell is_held bound j y c (inr away) h =
      shared_stays n k x (value_in v) cell j y c away (mem.names j y c (sym (written_there rs n j x y v away) ∙ h))
  shared_by n k x v b cell is_held bound j y c (inl here) h =
      let at : binding_in (record_at (written n x v rs) n) x ≡ Some c =
      ap (λ i. binding_in (record_at (written n x v rs) i) x) (sym here.0) ∙ ap (λ z. binding_in (record_at (written n x v rs) j) z) (sym (same_var y x here.1)) ∙ h in
      let is : valued v b ≡ c = one_value (binding_in (record_at (written n x v rs) n) x) (valued v b) c (written_here rs n x v ∙ ap (λ o. option_map (valued v) o) bound) at in
      let to = slice_set cells k (value_in v) in
      subst (λ z. Names owners seats ts to j z c) (sym (same_var y x here.1))
      (subst (λ i. Names owners seats ts to i x c) (sym here.0)
      (subst (λ d. Names owners seats ts to n x d) is (shared_takes n k x v b cell is_held (mem.names n x b bound))))

pub shared_written : SharedAreWritten
shared_written owners seats rs ts cells n k x v b mem bound cell is_held = record {
  seated = mem.seated ∙ sym (length_written rs n x v);
  names = λ j y c h. shared_by owners seats rs ts cells mem n k x v b cell is_held bound j y c (here_or j n y x) h;
  images_made = mem.images_made;
  homes_made = mem.homes_made;
  cells_made = λ j i here y at found. subst (λ l. i < l) (sym (length-set cells k (value_in v))) (mem.cells_made j i here y at found);
  images_apart = mem.images_apart;
  homes_apart = λ j i here there y at at2 image scoped. unbound rs n j x y v (mem.homes_apart j i here there y at at2 image scoped);
  cells_apart = mem.cells_apart;
  shapes = mem.shapes;
  locals_open = mem.locals_open;
  kept = mem.kept;
  kept_unbound = λ j i a y keeps. unbound rs n j x y v (mem.kept_unbound j i a y keeps);
  kept_apart = mem.kept_apart;
}
