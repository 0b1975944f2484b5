-- Names that are renewed at home.
use Rattle.std.proofs.Common.{◌≡◌, ℕ, zero, suc, ◌+◌, ◌<◌, ◌≤◌, Bool, true, false, List, [], ◌∷◌, ◌++◌, Option, None, Some, length, nat_eq, slice_get, refl, sym, ap, arith, subst, ◌∙◌, ◌⊎◌, inl, inr}
use Rattle.std.specs.Prelude.{if◌then◌else◌, is_some}
use Rattle.std.proofs.lemmas.Bool.{eqb-true, eq-eqb, ne_eqb}
use Rattle.std.proofs.lemmas.List.{length_push}
use Rattle.es_value.specs.declared.value.Value.{Value}
use Rattle.core_ast.specs.declared.parts.Var.{Var}
use Rattle.core_meaning.specs.Marks.{Cell, KeptCell, Mark, empty}
use Rattle.core_meaning.specs.Names.{binding_in, record_at}
use Rattle.core_meaning.specs.State.{Binding, CoreValue, EnvironmentRecord, Extra}
use Rattle.pass_rules.specs.Cells.{is_among}
use Rattle.cells_keep_runs.specs.Memory.{CellAt, HasOpen, IsNewest, Keeps, Memory, Names, OpenAt, Seat, Seats, cell_found, in_cell, in_home, in_image, is_scoped}
use Rattle.cells_keep_runs.specs.Renewed.{AllDiffer, AllNamed, Among, ApartFrom, Gets, Held, NewScope, NoValue, OwnCell, Renewal, ScopesAreRemembered, all_renewed, cells_from, gets_cell, gets_none, renewed_at, renewed_by, renewed_name, scope_seat, stays}
use Rattle.cells_keep_runs.proofs.Writes.{differ, length_written, not_none, one_value, open_here, same_var, some_written, still_open, written_there}

abbrev Records : Type 0
Records = List (EnvironmentRecord Mark)

-- ---- lists with one more

pub still_got : {A : Type 0} (xs : List A) (y : A) (n : ℕ) (x : A) → slice_get xs n ≡ Some x → slice_get (xs ++ y ∷ []) n ≡ Some x
still_got [] y n x h = cc
still_got (z ∷ xs) y zero x h = h
still_got (z ∷ xs) y (suc n) x h = still_got xs y n x h

pub got_last : {A : Type 0} (xs : List A) (y : A) → slice_get (xs ++ y ∷ []) (length xs) ≡ Some y
got_last [] y = refl
got_last (z ∷ xs) y = got_last xs y

pub got_below : {A : Type 0} (xs : List A) (n : ℕ) (x : A) → slice_get xs n ≡ Some x → n < length xs
got_below [] n x h = cc
got_below (z ∷ xs) zero x h = omega arith
got_below (z ∷ xs) (suc n) x h = let l : n < length xs = got_below xs n x h in omega arith

next_one : {A : Type 0} (xs : List A) (x y : A) (n : ℕ) → (slice_get xs n ≡ Some x) ⊎ ((n ≡ length xs) × (x ≡ y)) → (slice_get xs n ≡ Some x) ⊎ ((suc n ≡ suc (length xs)) × (x ≡ y))
next_one xs x y n (inl h) = inl h
next_one xs x y n (inr h) = inr (ap suc h.0, h.1)

-- what is found is old or the new one
pub old_or_new : {A : Type 0} (xs : List A) (y : A) (n : ℕ) (x : A) → slice_get (xs ++ y ∷ []) n ≡ Some x → (slice_get xs n ≡ Some x) ⊎ ((n ≡ length xs) × (x ≡ y))
old_or_new [] y zero x h = inr (refl, one_value (Some y) x y (h) refl)
old_or_new [] y (suc n) x h = cc
old_or_new (z ∷ xs) y zero x h = inl h
old_or_new (z ∷ xs) y (suc n) x h = next_one xs x y n (old_or_new xs y n x h)

next_binding : (rs : Records) (bs : EnvironmentRecord Mark) (n : ℕ) (x : Var) (b : Binding Mark)
    → (binding_in (record_at rs n) x ≡ Some b) ⊎ ((n ≡ length rs) × (binding_in bs x ≡ Some b)) → (binding_in (record_at rs n) x ≡ Some b) ⊎ ((suc n ≡ suc (length rs)) × (binding_in bs x ≡ Some b))
next_binding rs bs n x b (inl h) = inl h
next_binding rs bs n x b (inr h) = inr (ap suc h.0, h.1)

pub bound_before : (rs : Records) (bs : EnvironmentRecord Mark) (n : ℕ) (x : Var) (b : Binding Mark) → binding_in (record_at (rs ++ bs ∷ []) n) x ≡ Some b
    → (binding_in (record_at rs n) x ≡ Some b) ⊎ ((n ≡ length rs) × (binding_in bs x ≡ Some b))
bound_before [] bs zero x b h = inr (refl, h)
bound_before [] bs (suc n) x b h = cc
bound_before (r ∷ rs) bs zero x b h = inl h
bound_before (r ∷ rs) bs (suc n) x b h = next_binding rs bs n x b (bound_before rs bs n x b h)

pub none_before : (rs : Records) (bs : EnvironmentRecord Mark) (n : ℕ) (x : Var) → n < length rs → binding_in (record_at rs n) x ≡ None → binding_in (record_at (rs ++ bs ∷ []) n) x ≡ None
none_before [] bs n x l h = absurd (omega arith)
none_before (r ∷ rs) bs zero x l h = h
none_before (r ∷ rs) bs (suc n) x l h = let k : n < length rs = omega arith in none_before rs bs n x k h

-- ---- names that are renewed

pub apart_among : (z : Var) (q : Renewal) (rs : List Renewal) → ApartFrom z rs → Among q rs → (renewed_name q).0 ≡ z.0 → ⊥
apart_among z q [] apart h p = h
apart_among z q (r ∷ rs) (one, apart) (inl is) p = one (ap (λ a. (renewed_name a).0) is ∙ p)
apart_among z q (r ∷ rs) (one, apart) (inr h) p = apart_among z q rs apart h p

pub renewed_away : (h : ℕ) (rs : List Renewal) (m : Held) (i : ℕ) (y : Var) → (i ≡ h → ApartFrom y rs) → binding_in (record_at (all_renewed h rs m).records i) y ≡ binding_in (record_at m.records i) y
renewed_away h [] m i y away = refl
renewed_away h (OwnCell x v ∷ rs) m i y away =
    renewed_away h rs (renewed_by h (OwnCell x v) m) i y (λ p. (away p).1) ∙ written_there m.records h i x y (Extra (Cell (length m.cells))) (λ here. (away here.0).0 (sym here.1))
renewed_away h (NoValue x ∷ rs) m i y away =
    renewed_away h rs (renewed_by h (NoValue x) m) i y (λ p. (away p).1) ∙ written_there m.records h i x y empty (λ here. (away here.0).0 (sym here.1))

pub renewed_length : (h : ℕ) (rs : List Renewal) (m : Held) → length (all_renewed h rs m).records ≡ length m.records
renewed_length h [] m = refl
renewed_length h (OwnCell x v ∷ rs) m = renewed_length h rs (renewed_by h (OwnCell x v) m) ∙ length_written m.records h x (Extra (Cell (length m.cells)))
renewed_length h (NoValue x ∷ rs) m = renewed_length h rs (renewed_by h (NoValue x) m) ∙ length_written m.records h x empty

some_renewed : (h : ℕ) (rs : List Renewal) (m : Held) (i : ℕ) (y : Var) → is_some (binding_in (record_at (all_renewed h rs m).records i) y) ≡ is_some (binding_in (record_at m.records i) y)
some_renewed h [] m i y = refl
some_renewed h (OwnCell x v ∷ rs) m i y = some_renewed h rs (renewed_by h (OwnCell x v) m) i y ∙ some_written m.records h i x y (Extra (Cell (length m.cells)))
some_renewed h (NoValue x ∷ rs) m i y = some_renewed h rs (renewed_by h (NoValue x) m) i y ∙ some_written m.records h i x y empty

open_renewed : (h : ℕ) (rs : List Renewal) (m : Held) (i : ℕ) (y : Var) → OpenAt m.records i y → OpenAt (all_renewed h rs m).records i y
open_renewed h [] m i y o = o
open_renewed h (OwnCell x v ∷ rs) m i y o = open_renewed h rs (renewed_by h (OwnCell x v) m) i y (still_open m.records h i x y (Extra (Cell (length m.cells))) o)
open_renewed h (NoValue x ∷ rs) m i y o = open_renewed h rs (renewed_by h (NoValue x) m) i y (still_open m.records h i x y empty o)

has_renewed : (h : ℕ) (rs : List Renewal) (m : Held) (i : ℕ) (y : Var) (w : CoreValue Mark) → (i ≡ h → ApartFrom y rs) → HasOpen m.records i y w → HasOpen (all_renewed h rs m).records i y w
has_renewed h rs m i y w away o = record { binding = o.binding; there = renewed_away h rs m i y away ∙ o.there; value = o.value; mutable = o.mutable }

cell_renewed : (h : ℕ) (rs : List Renewal) (m : Held) (i : ℕ) (y : Var) (k : ℕ) → (i ≡ h → ApartFrom y rs) → CellAt m.records i y k → CellAt (all_renewed h rs m).records i y k
cell_renewed h rs m i y k away o = record { binding = o.binding; there = renewed_away h rs m i y away ∙ o.there; value = o.value }

-- ---- cells

pub held_on : (h : ℕ) (rs : List Renewal) (m : Held) (k : ℕ) (v : Option Value) → slice_get m.cells k ≡ Some v → slice_get (all_renewed h rs m).cells k ≡ Some v
held_on h [] m k v is = is
held_on h (OwnCell x w ∷ rs) m k v is = held_on h rs (renewed_by h (OwnCell x w) m) k v (still_got m.cells w k v is)
held_on h (NoValue x ∷ rs) m k v is = held_on h rs (renewed_by h (NoValue x) m) k v is

more_cells : (h : ℕ) (rs : List Renewal) (m : Held) → length m.cells ≤ length (all_renewed h rs m).cells
more_cells h [] m = omega arith
more_cells h (OwnCell x v ∷ rs) m =
    let l : length (m.cells ++ v ∷ []) ≤ length (all_renewed h rs (renewed_by h (OwnCell x v) m)).cells = more_cells h rs (renewed_by h (OwnCell x v) m) in
    let e : length (m.cells ++ v ∷ []) ≡ length m.cells + 1 = length_push m.cells v in
    omega arith
more_cells h (NoValue x ∷ rs) m = more_cells h rs (renewed_by h (NoValue x) m)

low_by : (k : ℕ) (rs : List Renewal) (x z : Var) (j : ℕ) (b : Bool) → (if b then Some k else cell_found (cells_from (suc k) rs) x) ≡ Some j → (cell_found (cells_from (suc k) rs) x ≡ Some j → suc k ≤ j) → k ≤ j
low_by k rs x z j true h on = let e : k ≡ j = one_value (Some j) k j (sym h) refl in omega arith
low_by k rs x z j false h on = let l : suc k ≤ j = on h in omega arith

pub from_low : (k : ℕ) (rs : List Renewal) (x : Var) (j : ℕ) → cell_found (cells_from k rs) x ≡ Some j → k ≤ j
from_low k [] x j h = cc
from_low k (OwnCell z v ∷ rs) x j h = low_by k rs x z j (nat_eq z.0 x.0) h (λ e. from_low (suc k) rs x j e)
from_low k (NoValue z ∷ rs) x j h = from_low k rs x j h

one_by : (k : ℕ) (rs : List Renewal) (z x y : Var) (j : ℕ) (a b : Bool) → nat_eq z.0 x.0 ≡ a → nat_eq z.0 y.0 ≡ b
    → (if a then Some k else cell_found (cells_from (suc k) rs) x) ≡ Some j → (if b then Some k else cell_found (cells_from (suc k) rs) y) ≡ Some j
    → (cell_found (cells_from (suc k) rs) x ≡ Some j → cell_found (cells_from (suc k) rs) y ≡ Some j → x.0 ≡ y.0) → x.0 ≡ y.0
one_by k rs z x y j true true p q h i on = sym (eqb-true z.0 x.0 p) ∙ eqb-true z.0 y.0 q
one_by k rs z x y j true false p q h i on =
    let e : k ≡ j = one_value (Some j) k j (sym h) refl in
    let l : suc k ≤ j = from_low (suc k) rs y j i in
    absurd (omega arith)
one_by k rs z x y j false true p q h i on =
    let e : k ≡ j = one_value (Some j) k j (sym i) refl in
    let l : suc k ≤ j = from_low (suc k) rs x j h in
    absurd (omega arith)
one_by k rs z x y j false false p q h i on = on h i

pub from_one : (k : ℕ) (rs : List Renewal) (x y : Var) (j : ℕ) → cell_found (cells_from k rs) x ≡ Some j → cell_found (cells_from k rs) y ≡ Some j → x.0 ≡ y.0
from_one k [] x y j h i = cc
from_one k (OwnCell z v ∷ rs) x y j h i = one_by k rs z x y j (nat_eq z.0 x.0) (nat_eq z.0 y.0) refl refl h i (λ a b. from_one (suc k) rs x y j a b)
from_one k (NoValue z ∷ rs) x y j h i = from_one k rs x y j h i

high_by : (h k : ℕ) (rs : List Renewal) (m : Held) (z x : Var) (v : Option Value) (j : ℕ) (b : Bool) → k ≡ length m.cells
    → (if b then Some k else cell_found (cells_from (suc k) rs) x) ≡ Some j
    → (cell_found (cells_from (suc k) rs) x ≡ Some j → j < length (all_renewed h rs (renewed_by h (OwnCell z v) m)).cells) → j < length (all_renewed h rs (renewed_by h (OwnCell z v) m)).cells
high_by h k rs m z x v j true e is on =
    let same : k ≡ j = one_value (Some j) k j (sym is) refl in
    let l : length (m.cells ++ v ∷ []) ≤ length (all_renewed h rs (renewed_by h (OwnCell z v) m)).cells = more_cells h rs (renewed_by h (OwnCell z v) m) in
    let p : length (m.cells ++ v ∷ []) ≡ length m.cells + 1 = length_push m.cells v in
    omega arith
high_by h k rs m z x v j false e is on = on is

from_high : (h k : ℕ) (rs : List Renewal) (m : Held) (x : Var) (j : ℕ) → k ≡ length m.cells → cell_found (cells_from k rs) x ≡ Some j → j < length (all_renewed h rs m).cells
from_high h k [] m x j e is = cc
from_high h k (OwnCell z v ∷ rs) m x j e is =
    let next : suc k ≡ length (m.cells ++ v ∷ []) = (let p : length (m.cells ++ v ∷ []) ≡ length m.cells + 1 = length_push m.cells v in omega arith) in
    high_by h k rs m z x v j (nat_eq z.0 x.0) e is (λ i. from_high h (suc k) rs (renewed_by h (OwnCell z v) m) x j next i)
from_high h k (NoValue z ∷ rs) m x j e is = from_high h k rs (renewed_by h (NoValue z) m) x j e is

-- ---- what a name gets

pub record Own (h k : ℕ) (rs : List Renewal) (m : Held) (x : Var) (v : Option Value) : Type 0 where
  pub cell : ℕ
  pub found : cell_found (cells_from k rs) x ≡ Some cell
  pub held : slice_get (all_renewed h rs m).cells cell ≡ Some v
  pub has : HasOpen (all_renewed h rs m).records h x (Extra (Cell cell))

open_value : (ts : Records) (h : ℕ) (x : Var) (o : OpenAt ts h x) → HasOpen ts h x o.binding.value
open_value ts h x o = record { binding = o.binding; there = o.there; value = refl; mutable = o.mutable }

other_found : (z x : Var) (k j : ℕ) (ks : List KeptCell) → (z.0 ≡ x.0 → ⊥) → cell_found ks x ≡ Some j → cell_found (record { var = z; cell = k } ∷ ks) x ≡ Some j
other_found z x k j ks ne h = ap (λ b. if b then Some k else cell_found ks x) (ne_eqb z.0 x.0 ne) ∙ h

pub own_cell : (h k : ℕ) (rs : List Renewal) (m : Held) (x : Var) (v : Option Value) → k ≡ length m.cells → AllDiffer rs → Among (OwnCell x v) rs → OpenAt m.records h x → Own h k rs m x v
own_cell h k [] m x v e differ among o = absurd among
own_cell h k (r ∷ rs) m x v e (apart, differ) (inl is) o =
    subst (λ q. Own h k (q ∷ rs) m x v) (sym is)
    (let m2 = renewed_by h (OwnCell x v) m in
    let apart_x : ApartFrom x rs = subst (λ q. ApartFrom (renewed_name q) rs) is apart in
    let last : slice_get (m.cells ++ v ∷ []) k ≡ Some v = ap (λ n. slice_get (m.cells ++ v ∷ []) n) e ∙ got_last m.cells v in
    let here : HasOpen (all_renewed h rs m2).records h x (Extra (Cell (length m.cells))) =
    has_renewed h rs m2 h x (Extra (Cell (length m.cells))) (λ p. apart_x) (open_here m.records h x (Extra (Cell (length m.cells))) o.binding.value (open_value m.records h x o)) in
    record {
      cell = k;
      found = ap (λ b. if b then Some k else cell_found (cells_from (suc k) rs) x) (eq-eqb x.0 x.0 refl);
      held = held_on h rs m2 k v last;
      has = subst (λ n. HasOpen (all_renewed h rs m2).records h x (Extra (Cell n))) (sym e) here;
    })
own_cell h k (OwnCell z w ∷ rs) m x v e (apart, differ) (inr among) o =
    let m2 = renewed_by h (OwnCell z w) m in
    let p : length (m.cells ++ w ∷ []) ≡ length m.cells + 1 = length_push m.cells w in
    let next : suc k ≡ length (m.cells ++ w ∷ []) = omega arith in
    let rest : Own h (suc k) rs m2 x v = own_cell h (suc k) rs m2 x v next differ among (still_open m.records h h z x (Extra (Cell (length m.cells))) o) in
    record {
      cell = rest.cell;
      found = other_found z x k rest.cell (cells_from (suc k) rs) (λ q. apart_among z (OwnCell x v) rs apart among (sym q)) rest.found;
      held = rest.held;
      has = rest.has;
    }
own_cell h k (NoValue z ∷ rs) m x v e (apart, differ) (inr among) o =
    let m2 = renewed_by h (NoValue z) m in
    let rest : Own h k rs m2 x v = own_cell h k rs m2 x v e differ among (still_open m.records h h z x empty o) in
    record { cell = rest.cell; found = rest.found; held = rest.held; has = rest.has }

pub no_value : (h : ℕ) (rs : List Renewal) (m : Held) (x : Var) → AllDiffer rs → Among (NoValue x) rs → OpenAt m.records h x → HasOpen (all_renewed h rs m).records h x empty
no_value h [] m x differ among o = absurd among
no_value h (r ∷ rs) m x (apart, differ) (inl is) o =
    subst (λ q. HasOpen (all_renewed h (q ∷ rs) m).records h x empty) (sym is)
    (let apart_x : ApartFrom x rs = subst (λ q. ApartFrom (renewed_name q) rs) is apart in
    has_renewed h rs (renewed_by h (NoValue x) m) h x empty (λ p. apart_x) (open_here m.records h x empty o.binding.value (open_value m.records h x o)))
no_value h (OwnCell z w ∷ rs) m x (apart, differ) (inr among) o = no_value h rs (renewed_by h (OwnCell z w) m) x differ among (still_open m.records h h z x (Extra (Cell (length m.cells))) o)
no_value h (NoValue z ∷ rs) m x (apart, differ) (inr among) o = no_value h rs (renewed_by h (NoValue z) m) x differ among (still_open m.records h h z x empty o)

-- ---- a new record

same_among : (x y : Var) (names : List Var) → x.0 ≡ y.0 → is_among x names ≡ is_among y names
same_among x y names p = ap (λ z. is_among z names) (same_var x y p)

unnamed : (ts : Records) (h : ℕ) (names : List Var) (rs : List Renewal) (x : Var) → AllNamed ts h names rs → is_among x names ≡ false → ApartFrom x rs
unnamed ts h names [] x named out = tt
unnamed ts h names (r ∷ rs) x (is, o, named) out =
    (λ p. differ (is_among x names) (sym (same_among (renewed_name r) x names p) ∙ is) out, unnamed ts h names rs x named out)

open_among : (ts : Records) (h : ℕ) (names : List Var) (rs : List Renewal) (q : Renewal) → AllNamed ts h names rs → Among q rs → OpenAt ts h (renewed_name q)
open_among ts h names [] q named among = absurd among
open_among ts h names (r ∷ rs) q (is, o, named) (inl same) = subst (λ a. OpenAt ts h (renewed_name a)) same o
open_among ts h names (r ∷ rs) q (is, o, named) (inr among) = open_among ts h names rs q named among

module _ (owners : List ℕ) (seats : Seats) (rs ts : Records) (cells : List (Option Value)) (h : ℕ) (names : List Var) (bindings : EnvironmentRecord Mark) (renewals : List Renewal)
    (mem : Memory owners seats rs ts cells) (scope : NewScope owners seats rs ts h names bindings renewals) where
  abbrev seat : Seat
  seat = scope_seat h names (length cells) renewals

  abbrev seats2 : Seats
  seats2 = seats ++ seat ∷ []

  abbrev now : Held
  now = renewed_at h renewals ts cells

  abbrev before : Held
  before = record { records = ts; cells = cells }

  away_by : (x : Var) (b : Bool) → is_among x names ≡ b → (is_among x names ≡ true → ⊥) → ApartFrom x renewals
  away_by x true is none = absurd (none is)
  away_by x false is none = unnamed ts h names renewals x scope.named is

  away : (x : Var) → (is_among x names ≡ true → ⊥) → ApartFrom x renewals
  away x none = away_by x (is_among x names) refl none

  was_newest : (n : ℕ) (x : Var) → IsNewest seats2 n x → IsNewest seats n x
  was_newest n x newest m here there at at2 home scoped = newest m here there (still_got seats seat n here at) (still_got seats seat m there at2) home scoped

  -- a name that is newest still isn't one of the new ones
  none_newer : (n : ℕ) (x : Var) (here : Seat) → slice_get seats n ≡ Some here → IsNewest seats2 n x → here.home ≡ h → is_among x names ≡ true → ⊥
  none_newer n x here at newest home is =
      let p : length seats ≤ n = newest (length seats) here seat (still_got seats seat n here at) (got_last seats seat) (sym home) is in
      let q : n < length seats = got_below seats n here at in
      omega arith

  image_stays : (n i : ℕ) (x : Var) (b : Binding Mark) (here : Seat) → slice_get seats n ≡ Some here → here.image ≡ Some i → binding_in (record_at rs n) x ≡ Some b → i ≡ h → ApartFrom x renewals
  image_stays n i x b here at image bound same =
      away x (λ is. not_none (binding_in (record_at rs n) x) b bound (scope.clear n here x at (image ∙ ap (λ a. Some a) same) is))

  old_name : (n : ℕ) (x : Var) (b : Binding Mark) → binding_in (record_at rs n) x ≡ Some b → Names owners seats ts cells n x b → Names owners seats2 now.records now.cells n x b
  old_name n x b bound (in_image here i c at image plain has same) =
      in_image here i c (still_got seats seat n here at) image plain (renewed_away h renewals before i x (image_stays n i x b here at image bound) ∙ has) same
  old_name n x b bound (in_cell here k v at scoped shared found held is home) =
      in_cell here k v (still_got seats seat n here at) scoped shared found (held_on h renewals before k v held) is
      (λ newest. has_renewed h renewals before here.home x (Extra (Cell k)) (λ same. away x (none_newer n x here at newest same)) (home (was_newest n x newest)))
  old_name n x b bound (in_home here at scoped unshared home) =
      in_home here (still_got seats seat n here at) scoped unshared
      (λ newest. has_renewed h renewals before here.home x b.value (λ same. away x (none_newer n x here at newest same)) (home (was_newest n x newest)))

  new_name : (x : Var) (b : Binding Mark) → is_among x names ≡ true → Gets owners ts h renewals x b → Names owners seats2 now.records now.cells (length seats) x b
  new_name x b named (gets_cell v among shared is) =
      let own : Own h (length cells) renewals before x v = own_cell h (length cells) renewals before x v refl scope.differ among (open_among ts h names renewals (OwnCell x v) scope.named among) in
      in_cell seat own.cell v (got_last seats seat) named shared own.found own.held is (λ newest. own.has)
  new_name x b named (gets_none among unshared is) =
      in_home seat (got_last seats seat) named unshared
      (λ newest. subst (λ v. HasOpen now.records h x v) (sym is) (no_value h renewals before x scope.differ among (open_among ts h names renewals (NoValue x) scope.named among)))
  new_name x b named (stays apart unshared has) =
      in_home seat (got_last seats seat) named unshared (λ newest. has_renewed h renewals before h x b.value (λ same. apart) has)

  names_by : (n : ℕ) (x : Var) (b : Binding Mark) → (binding_in (record_at rs n) x ≡ Some b) ⊎ ((n ≡ length rs) × (binding_in bindings x ≡ Some b)) → Names owners seats2 now.records now.cells n x b
  names_by n x b (inl old) = old_name n x b old (mem.names n x b old)
  names_by n x b (inr new) = subst (λ j. Names owners seats2 now.records now.cells j x b) (mem.seated ∙ sym new.0) (new_name x b (scope.bound x b new.1) (scope.gets x b new.1))

  -- what has an image is old
  old_image : (n i : ℕ) (here : Seat) → (slice_get seats n ≡ Some here) ⊎ ((n ≡ length seats) × (here ≡ seat)) → here.image ≡ Some i → slice_get seats n ≡ Some here
  old_image n i here (inl old) image = old
  old_image n i here (inr new) image = absurd (not_none here.image i image (ap (λ s. s.image) new.1))

  had_image : (n i : ℕ) (here : Seat) → slice_get seats2 n ≡ Some here → here.image ≡ Some i → slice_get seats n ≡ Some here
  had_image n i here at image = old_image n i here (old_or_new seats seat n here at) image

  homes_by : (n : ℕ) (here : Seat) → (slice_get seats n ≡ Some here) ⊎ ((n ≡ length seats) × (here ≡ seat)) → here.home < length now.records
  homes_by n here (inl old) = subst (λ l. here.home < l) (sym (renewed_length h renewals before)) (mem.homes_made n here old)
  homes_by n here (inr new) = subst (λ s. s.home < length now.records) (sym new.1) (subst (λ l. h < l) (sym (renewed_length h renewals before)) scope.home)

  cells_by : (n k : ℕ) (here : Seat) (x : Var) → (slice_get seats n ≡ Some here) ⊎ ((n ≡ length seats) × (here ≡ seat)) → cell_found here.cells x ≡ Some k → k < length now.cells
  cells_by n k here x (inl old) found =
      let p : k < length cells = mem.cells_made n k here x old found in
      let q : length cells ≤ length now.cells = more_cells h renewals before in
      omega arith
  cells_by n k here x (inr new) found = from_high h (length cells) renewals before x k refl (ap (λ s. cell_found s.cells x) (sym new.1) ∙ found)

  apart_by : (n m : ℕ) (here there : Seat) (x : Var) → slice_get seats n ≡ Some here → (slice_get seats m ≡ Some there) ⊎ ((m ≡ length seats) × (there ≡ seat))
      → here.image ≡ Some there.home → is_scoped there x ≡ true → binding_in (record_at rs n) x ≡ None
  apart_by n m here there x at (inl old) image scoped = mem.homes_apart n m here there x at old image scoped
  apart_by n m here there x at (inr new) image scoped =
      scope.clear n here x at (image ∙ ap (λ s. Some s.home) new.1) (ap (λ s. is_scoped s x) (sym new.1) ∙ scoped)

  distinct_by : (n m k : ℕ) (here there : Seat) (x y : Var) → (slice_get seats n ≡ Some here) ⊎ ((n ≡ length seats) × (here ≡ seat)) → (slice_get seats m ≡ Some there) ⊎ ((m ≡ length seats) × (there ≡ seat))
      → is_scoped here x ≡ true → is_scoped there y ≡ true → cell_found here.cells x ≡ Some k → cell_found there.cells y ≡ Some k → (n ≡ m) × (x.0 ≡ y.0)
  distinct_by n m k here there x y (inl old) (inl old2) scoped scoped2 found found2 = mem.cells_apart n m k here there x y old old2 scoped scoped2 found found2
  distinct_by n m k here there x y (inl old) (inr new) scoped scoped2 found found2 =
      let p : k < length cells = mem.cells_made n k here x old found in
      let q : length cells ≤ k = from_low (length cells) renewals y k (ap (λ s. cell_found s.cells y) (sym new.1) ∙ found2) in
      absurd (omega arith)
  distinct_by n m k here there x y (inr new) (inl old) scoped scoped2 found found2 =
      let p : k < length cells = mem.cells_made m k there y old found2 in
      let q : length cells ≤ k = from_low (length cells) renewals x k (ap (λ s. cell_found s.cells x) (sym new.1) ∙ found) in
      absurd (omega arith)
  distinct_by n m k here there x y (inr new) (inr new2) scoped scoped2 found found2 =
      (new.0 ∙ sym new2.0, from_one (length cells) renewals x y k (ap (λ s. cell_found s.cells x) (sym new.1) ∙ found) (ap (λ s. cell_found s.cells y) (sym new2.1) ∙ found2))

  had_kept : (n i k : ℕ) (x : Var) → Keeps seats2 n i x k → Keeps seats n i x k
  had_kept n i k x keeps = record { seat = keeps.seat; seated = had_image n i keeps.seat keeps.seated keeps.image; image = keeps.image; plain = keeps.plain; found = keeps.found }

  kept_by : (i k m : ℕ) (n : ℕ) (x : Var) (there : Seat) → Keeps seats n i x k → (slice_get seats m ≡ Some there) ⊎ ((m ≡ length seats) × (there ≡ seat)) → there.home ≡ i → is_scoped there x ≡ false
  kept_by i k m n x there keeps (inl old) home = mem.kept_apart n i k m x there keeps old home
  kept_by i k m n x there keeps (inr new) home =
      let same : i ≡ h = sym home ∙ ap (λ s. s.home) new.1 in
      ap (λ s. is_scoped s x) new.1 ∙ scope.unkept n k x (subst (λ a. Keeps seats n a x k) same keeps)

  unbound_on : (n : ℕ) (here : Seat) (x : Var) → slice_get seats n ≡ Some here → binding_in (record_at rs n) x ≡ None → binding_in (record_at (rs ++ bindings ∷ []) n) x ≡ None
  unbound_on n here x at none =
      let p : n < length seats = got_below seats n here at in
      let q : length seats ≡ length rs = mem.seated in
      let l : n < length rs = omega arith in
      none_before rs bindings n x l none

  kept_on : (n i k : ℕ) (x : Var) → Keeps seats n i x k → CellAt now.records i x k
  kept_on n i k x keeps =
      cell_renewed h renewals before i x k
      (λ same. away x (λ is. differ (is_among x names) is (scope.unkept n k x (subst (λ a. Keeps seats n a x k) same keeps)))) (mem.kept n i k x keeps)

  new_scope : Memory owners seats2 (rs ++ bindings ∷ []) now.records now.cells
  unfolding had_kept
  new_scope = record {
    seated = length_push seats seat ∙ ap (λ l. l + 1) mem.seated ∙ sym (length_push rs bindings);
    names = λ n x b bound. names_by n x b (bound_before rs bindings n x b bound);
    images_made = λ n i here at image. subst (λ l. i < l) (sym (renewed_length h renewals before)) (mem.images_made n i here (had_image n i here at image) image);
    homes_made = λ n here at. homes_by n here (old_or_new seats seat n here at);
    cells_made = λ n k here x at found. cells_by n k here x (old_or_new seats seat n here at) found;
    images_apart = λ n m i here there at at2 image image2. mem.images_apart n m i here there (had_image n i here at image) (had_image m i there at2 image2) image image2;
    homes_apart = λ n m here there x at at2 image scoped.
        unbound_on n here x (had_image n there.home here at image) (apart_by n m here there x (had_image n there.home here at image) (old_or_new seats seat m there at2) image scoped);
    cells_apart = λ n m k here there x y at at2 scoped scoped2 found found2.
        distinct_by n m k here there x y (old_or_new seats seat n here at) (old_or_new seats seat m there at2) scoped scoped2 found found2;
    shapes = λ n i here x at image. some_renewed h renewals before i x ∙ mem.shapes n i here x (had_image n i here at image) image;
    locals_open = λ n i here x at image local. open_renewed h renewals before i x (mem.locals_open n i here x (had_image n i here at image) image local);
    kept = λ n i k x keeps. kept_on n i k x (had_kept n i k x keeps);
    kept_unbound = λ n i k x keeps. unbound_on n keeps.seat x (had_kept n i k x keeps).seated (mem.kept_unbound n i k x (had_kept n i k x keeps));
    kept_apart = λ n i k m x there keeps at home. kept_by i k m n x there (had_kept n i k x keeps) (old_or_new seats seat m there at) home;
  }

pub scopes_remembered : ScopesAreRemembered
scopes_remembered owners seats rs ts cells h names bindings renewals mem scope = new_scope owners seats rs ts cells h names bindings renewals mem scope
