-- What is round any code along an environment is round it along a copy of the innermost record, if that may be copied for some of it.
use Rattle.std.proofs.Common.{◌≡◌, ◌⊎◌, inl, inr, ◌≤◌, ℕ, suc, Bool, true, false, not, ◌&&◌, ◌||◌, cond, List, [], ◌∷◌, ◌++◌, Option, None, Some, length, nat_eq, slice_get, refl, sym, ap, subst, ◌∙◌}
use Rattle.std.specs.Prelude.{if◌then◌else◌}
use Rattle.std.proofs.lemmas.Bool.{and_parts, eq-eqb, eqb-true}
use Rattle.std.proofs.lemmas.List.{length-map}
use Rattle.es_value.specs.declared.value.Value.{Value}
use Rattle.core_ast.specs.declared.parts.FunctionId.{FunctionId}
use Rattle.core_ast.specs.declared.parts.ScopedName.{ScopedName}
use Rattle.core_ast.specs.declared.parts.Var.{Var}
use Rattle.core_meaning.specs.Marks.{Mark}
use Rattle.core_meaning.specs.Names.{record_at}
use Rattle.core_meaning.specs.State.{Environment, EnvironmentRecord}
use Rattle.pass_rules.specs.Cells.{is_among, is_shared}
use Rattle.pass_rules.specs.Scopes.{vars}
use Rattle.cells_keep_runs.specs.Copied.{AllBound, Copyable, content_in, copied_seats, copy_renewals}
use Rattle.cells_keep_runs.specs.Found.{Bound, FoundAt, Lasting, Passes, bound_at, first_at, if_bound, lasts_kept, lasts_once, lasts_unscoped, names_in, names_of}
use Rattle.cells_keep_runs.specs.MayBeFlattened.{Round, Whole, all_among, copy_may, may_come_often, none_twice, shared_among}
use Rattle.cells_keep_runs.specs.Memory.{IsNewest, Keeping, Keeps, Seat, Seats, cell_along, cell_found, is_scoped, keeping_in, kept_along}
use Rattle.cells_keep_runs.specs.Opened.{AllApart, Apart}
use Rattle.cells_keep_runs.specs.Places.{Below}
use Rattle.cells_keep_runs.specs.Renewed.{OwnCell, cells_from, scope_seat}
use Rattle.cells_keep_runs.specs.Rounds.{InnermostAt, IsAlong, NameAt, RoundAt, ScopeAt, grouped_in, home_at, home_in, once}
use Rattle.cells_keep_runs.specs.Seen.{target_at}
use Rattle.cells_keep_runs.proofs.Found.{bound_is, first_past, first_still, index_last}
use Rattle.cells_keep_runs.proofs.Grown.{cells_stay, keeping_stays}
use Rattle.cells_keep_runs.proofs.Named.{some_there}
use Rattle.cells_keep_runs.proofs.Renewed.{got_last, still_got}
use Rattle.cells_keep_runs.proofs.Rounds.{all_in, not_true, or_later}
use Rattle.cells_keep_runs.proofs.Stays.{cell_stays, copies_seen, keeps_stays, last_newest, newest_stays, past_cell, past_scope, seen_outside, seen_stays, seen_within, target_stays}
use Rattle.cells_keep_runs.proofs.Writes.{differ, not_none, one_value, same_var}

-- ---- lists of names

apart_from : (x : Var) (xs : List Var) → is_among x xs ≡ false → Apart x xs
apart_from x [] away = tt
apart_from x (y ∷ xs) away = by_name (nat_eq y.0 x.0) refl away (λ h. apart_from x xs h)
  where
    by_name : (b : Bool) → nat_eq y.0 x.0 ≡ b → b || is_among x xs ≡ false → (is_among x xs ≡ false → Apart x xs) → Apart x (y ∷ xs)
    by_name true e h on = absurd (differ true refl h)
    by_name false e h on = (λ same. differ (nat_eq y.0 x.0) (eq-eqb y.0 x.0 same) e, on h)

all_apart : (xs : List Var) → none_twice xs ≡ true → AllApart xs
all_apart [] h = tt
all_apart (x ∷ xs) h =
    let both = and_parts (not (is_among x xs)) (none_twice xs) h in
    (apart_from x xs (not_true (is_among x xs) both.0), all_apart xs both.1)

or_true : (a b : Bool) → not a || b ≡ true → a ≡ true → b ≡ true
or_true true b h is = h
or_true false b h is = absurd (differ true refl (sym is))

-- by what is said of each name
said_of : (names xs : List Var) (whole : Whole) (x : Var) → shared_among whole names xs ≡ true → is_among x names ≡ true → is_shared whole.owners x ≡ true → is_among x xs ≡ true
said_of [] xs whole x all among shared = cc
said_of (y ∷ names) xs whole x all among shared =
    let both = and_parts (not (is_shared whole.owners y) || is_among y xs) (shared_among whole names xs) all in
    by_name (nat_eq y.0 x.0) refl among (λ further. said_of names xs whole x both.1 further shared) both.0
  where
    by_name : (b : Bool) → nat_eq y.0 x.0 ≡ b → b || is_among x names ≡ true → (is_among x names ≡ true → is_among x xs ≡ true) → not (is_shared whole.owners y) || is_among y xs ≡ true → is_among x xs ≡ true
    by_name true e here on is =
        let same : y ≡ x = same_var y x (eqb-true y.0 x.0 e) in
        or_true (is_shared whole.owners x) (is_among x xs) (ap (λ z. not (is_shared whole.owners z) || is_among z xs) (sym same) ∙ is) shared
    by_name false e here on is = on here

pub often : (whole : Whole) (names : List Var) (x : Var) → may_come_often whole names ≡ true → is_among x names ≡ true → (is_shared whole.owners x ≡ true) ⊎ (once whole x ≡ false)
often whole [] x all among = cc
often whole (y ∷ names) x all among =
    let both = and_parts (is_shared whole.owners y || not (is_among y whole.captured)) (may_come_often whole names) all in
    by_name (nat_eq y.0 x.0) refl among (λ further. often whole names x both.1 further) both.0
  where
    by_share : (a b : Bool) → is_shared whole.owners x ≡ a → is_among x whole.captured ≡ b → a || not b ≡ true → (is_shared whole.owners x ≡ true) ⊎ (once whole x ≡ false)
    by_share true b is is2 h = inl is
    by_share false true is is2 h = absurd (differ true refl (sym h))
    by_share false false is is2 h = inr is2

    by_name : (b : Bool) → nat_eq y.0 x.0 ≡ b → b || is_among x names ≡ true → (is_among x names ≡ true → (is_shared whole.owners x ≡ true) ⊎ (once whole x ≡ false)) → is_shared whole.owners y || not (is_among y whole.captured) ≡ true
        → (is_shared whole.owners x ≡ true) ⊎ (once whole x ≡ false)
    by_name true e here on is =
        let same : y ≡ x = same_var y x (eqb-true y.0 x.0 e) in
        by_share (is_shared whole.owners x) (is_among x whole.captured) refl refl (ap (λ z. is_shared whole.owners z || not (is_among z whole.captured)) (sym same) ∙ is)
    by_name false e here on is = on here

bound_all : (owners : List ℕ) (bindings : EnvironmentRecord Mark) (xs : List Var) → ((x : Var) → is_among x xs ≡ true → is_among x (names_in bindings) ≡ true) → AllBound owners bindings xs
bound_all owners bindings [] named = tt
bound_all owners bindings (x ∷ xs) named = (
  λ shared. some_there bindings x (named x (ap (λ b. b || is_among x xs) (eq-eqb x.0 x.0 refl))),
  bound_all owners bindings xs (λ y among. named y (or_later (nat_eq x.0 y.0) (is_among y xs) among)),
)

-- a copy has cells of what it names alone
copy_cells : (owners : List ℕ) (content : Var → Option Value) (xs : List Var) (k : ℕ) (y : Var) → is_among y xs ≡ false → cell_found (cells_from k (copy_renewals owners content xs)) y ≡ None
copy_cells owners content [] k y away = refl
copy_cells owners content (x ∷ xs) k y away = by_mark (is_shared owners x) (nat_eq x.0 y.0) refl refl away (λ j h. copy_cells owners content xs j y h)
  where
    by_mark : (shared same : Bool) → is_shared owners x ≡ shared → nat_eq x.0 y.0 ≡ same → same || is_among y xs ≡ false → ((j : ℕ) → is_among y xs ≡ false → cell_found (cells_from j (copy_renewals owners content xs)) y ≡ None)
        → cell_found (cells_from k (copy_renewals owners content (x ∷ xs))) y ≡ None
    by_mark shared true is e h on = absurd (differ true refl h)
    by_mark true false is e h on =
        ap (λ b. cell_found (cells_from k (cond b (OwnCell x (content x) ∷ copy_renewals owners content xs) (copy_renewals owners content xs))) y) is
        ∙ ap (λ b. if b then Some k else cell_found (cells_from (suc k) (copy_renewals owners content xs)) y) e ∙ on (suc k) h
    by_mark false false is e h on =
        ap (λ b. cell_found (cells_from k (cond b (OwnCell x (content x) ∷ copy_renewals owners content xs) (copy_renewals owners content xs))) y) is ∙ on k h

abbrev head_of : Environment → ℕ
head_of [] = 0
head_of (n ∷ e) = n

-- ---- a copy

module _ (whole : Whole) (kept : Keeping) (declarer : Var → ℕ) (seats : Seats) (rs : List (EnvironmentRecord Mark)) (n : ℕ) (o : Environment) (names : List ScopedName) (xs : List Var) (k : ℕ) (here0 : List Var)
    (a : ScopeAt seats (names_of rs) (n ∷ o) here0 (vars names)) (may : copy_may whole xs (Some names) ≡ true) (below : Below (length seats) o) (long : length seats ≡ length rs)
    (unkept : (x : Var) (q i j : ℕ) → is_among x (vars names) ≡ true → Keeps seats q i x j → target_at seats (n ∷ o) x ≡ Some i → ⊥) where
  abbrev bound0 : Bound
  bound0 = names_of rs

  number_is : a.number ≡ n
  number_is = ap (λ e. head_of e) (sym a.is)

  pub seated_n : slice_get seats n ≡ Some a.seat
  seated_n = ap (λ i. slice_get seats i) (sym number_is) ∙ a.seated

  pub parts : (all_among xs (vars names) ≡ true) × (none_twice xs ≡ true) × (may_come_often whole (vars names) ≡ true) × (shared_among whole (vars names) xs ≡ true)
  parts =
      let third = and_parts (all_among xs (vars names) && none_twice xs && may_come_often whole (vars names)) (shared_among whole (vars names) xs) may in
      let second = and_parts (all_among xs (vars names) && none_twice xs) (may_come_often whole (vars names)) third.0 in
      let first = and_parts (all_among xs (vars names)) (none_twice xs) second.0 in
      (first.0, first.1, second.1, third.1)

  named_n : names_in (record_at rs n) ≡ vars names
  named_n = sym (bound_is rs n) ∙ ap (λ i. bound_at bound0 i) (sym number_is) ∙ a.bound_is

  scoped_in : (x : Var) → is_among x a.seat.scoped ≡ true → is_among x (vars names) ≡ true
  scoped_in x among = ap (λ ys. is_among x ys) (sym a.scoped) ∙ among

  abbrev copyable : Copyable whole.owners seats rs (n ∷ o) n xs
  copyable = record {
    seat = a.seat;
    seated = seated_n;
    scope = a.scope;
    newest = λ x among. subst (λ i. IsNewest seats i x) number_is (a.newest x (scoped_in x among));
    found = λ x among. a.found x (scoped_in x among);
    listed = λ x among shared. said_of (vars names) xs whole x parts.3 (scoped_in x among) shared;
    bound = bound_all whole.owners (record_at rs n) xs (λ x among. ap (λ ys. is_among x ys) named_n ∙ all_in xs (vars names) x parts.0 among);
    apart = all_apart xs parts.1;
  }

  abbrev new : Seat
  new = scope_seat a.seat.home a.seat.scoped k (copy_renewals whole.owners (content_in (record_at rs n)) xs)

  abbrev seats2 : Seats
  seats2 = copied_seats whole.owners seats a.seat (record_at rs n) xs k

  abbrev bound2 : Bound
  bound2 = names_of rs ++ names_in (record_at rs n) ∷ []

  abbrev e2 : Environment
  e2 = length seats ∷ o

  as_long : length seats ≡ length bound0
  as_long = long ∙ sym (length-map rs names_in)

  new_at : slice_get seats2 (length seats) ≡ Some new
  new_at = got_last seats new

  named2 : bound_at bound2 (length seats) ≡ vars names
  named2 = index_last bound0 (names_in (record_at rs n)) (length seats) as_long ∙ named_n

  named1 : bound_at bound0 n ≡ vars names
  named1 = bound_is rs n ∙ named_n

  not_copied : (x : Var) → is_among x (vars names) ≡ false → is_among x xs ≡ false
  not_copied x away = by_there (is_among x xs) refl
    where
      by_there : (b : Bool) → is_among x xs ≡ b → b ≡ false
      by_there true e = absurd (differ (is_among x (vars names)) (all_in xs (vars names) x parts.0 e) away)
      by_there false e = refl

  -- of another name both records say nothing
  passes : (x : Var) → is_among x (vars names) ≡ false → Passes seats2 bound2 (length seats) x
  passes x away = record {
    seat = new;
    seated = new_at;
    unbound = ap (λ ys. is_among x ys) named2 ∙ away;
    unnamed = refl;
    uncelled = copy_cells whole.owners (content_in (record_at rs n)) xs k x (not_copied x away);
  }

  past_n : (x : Var) → is_among x (vars names) ≡ false → first_at bound0 (n ∷ o) x ≡ first_at bound0 o x
  past_n x away = first_past bound0 n o x (ap (λ ys. is_among x ys) named1 ∙ away)

  unnamed_n : (x : Var) → is_among x a.seat.has ≡ false
  unnamed_n x = ap (λ ys. is_among x ys) a.unnamed

  not_new : (x : Var) → is_among x (vars names) ≡ false → is_scoped new x ≡ false
  not_new x away = ap (λ ys. is_among x ys) a.scoped ∙ away

  target_out : (x : Var) → target_at seats2 e2 x ≡ target_at seats (n ∷ o) x
  target_out x = past_scope seats2 new (length seats) o x new_at refl ∙ target_stays seats (new ∷ []) o x below ∙ sym (past_scope seats a.seat n o x seated_n a.scope)

  home2 : home_at seats2 e2 ≡ home_at seats (n ∷ o)
  home2 = ap (λ q. home_in q) new_at ∙ sym (ap (λ q. home_in q) seated_n)

  -- a name further out
  abbrev found_out : (x : Var) → is_among x (vars names) ≡ false → FoundAt whole.owners seats bound0 (n ∷ o) x → FoundAt whole.owners seats2 bound2 e2 x
  found_out x away f =
      let sees = seen_outside whole.owners seats a.seat n o f.number x seated_n (unnamed_n x) (a.uncelled x away) f.sees in
      let stays = seen_stays whole.owners seats f.here new o f.number x below f.seated (λ homes. not_new x away) sees in
      record {
        number = f.number;
        here = f.here;
        first = first_past bound2 (length seats) o x (ap (λ ys. is_among x ys) named2 ∙ away) ∙ first_still seats bound0 (names_in (record_at rs n)) o x below as_long ∙ sym (past_n x away) ∙ f.first;
        seated = still_got seats new f.number f.here f.seated;
        sees = seen_within whole.owners seats2 new (length seats) o f.number x new_at refl (copy_cells whole.owners (content_in (record_at rs n)) xs k x (not_copied x away)) stays;
      }

  last_out : (x : Var) (m : ℕ) (here : Seat) → slice_get seats m ≡ Some here → is_among x (vars names) ≡ false → Lasting whole.owners (once whole) seats (n ∷ o) m here x → Lasting whole.owners (once whole) seats2 e2 m here x
  last_out x m here got away (lasts_unscoped i unshared image unscoped target) = lasts_unscoped i unshared image unscoped (target_out x ∙ target)
  last_out x m here got away (lasts_once unshared scoped is newest target) =
      lasts_once unshared scoped is (newest_stays seats here new m x got (λ homes. not_new x away) newest) (target_out x ∙ target)
  last_out x m here got away (lasts_kept j q i c along keeps target) =
      let out : cell_along seats o x ≡ j = sym (past_cell seats a.seat n o x seated_n (a.uncelled x away)) ∙ along in
      let far : cell_along seats2 e2 x ≡ j =
      past_cell seats2 new (length seats) o x new_at (copy_cells whole.owners (content_in (record_at rs n)) xs k x (not_copied x away)) ∙ cells_stay seats (new ∷ []) o x below ∙ out in
      lasts_kept j q i (cell_stays whole.owners seats new m j x c) far (keeps_stays seats new q i j x keeps) (target_out x ∙ target)

  name_out : (here : List Var) (x : Var) → is_among x (vars names) ≡ false → NameAt whole seats bound0 (n ∷ o) here x → NameAt whole seats2 bound2 e2 here x
  name_out here x away (inl f) = inl (record {
    number = f.number;
    here = f.here;
    first = first_past bound2 (length seats) o x (ap (λ ys. is_among x ys) named2 ∙ away) ∙ first_still seats bound0 (names_in (record_at rs n)) o x below as_long ∙ sym (past_n x away) ∙ f.first;
    seated = still_got seats new f.number f.here f.seated;
    lasting = last_out x f.number f.here f.seated away f.lasting;
  })
  name_out here x away (inr p) = inr (record { among = p.among; found = found_out x away p.found; home = home2 ∙ p.home; loose = p.loose })

  -- a name that is copied
  first2 : (x : Var) → is_among x (vars names) ≡ true → first_at bound2 e2 x ≡ Some (length seats)
  first2 x among = ap (λ ys. if_bound (is_among x ys) (length seats) (first_at bound2 o x)) named2 ∙ ap (λ b. if_bound b (length seats) (first_at bound2 o x)) among

  -- it isn't found as what lasts
  seat_first : (x : Var) (m : ℕ) (here : Seat) → is_among x (vars names) ≡ true → first_at bound0 (n ∷ o) x ≡ Some m → slice_get seats m ≡ Some here → here ≡ a.seat
  seat_first x m here among first got =
      let at_n : first_at bound0 (n ∷ o) x ≡ Some n = ap (λ ys. if_bound (is_among x ys) n (first_at bound0 o x)) named1 ∙ ap (λ b. if_bound b n (first_at bound0 o x)) among in
      let same : m ≡ n = one_value (first_at bound0 (n ∷ o) x) m n first at_n in
      one_value (slice_get seats n) here a.seat (subst (λ i. slice_get seats i ≡ Some here) same got) seated_n

  never_lasts : (x : Var) (m : ℕ) (here : Seat) → is_among x (vars names) ≡ true → here ≡ a.seat → Lasting whole.owners (once whole) seats (n ∷ o) m here x → ⊥
  never_lasts x m here among is (lasts_unscoped i unshared image unscoped target) =
      differ (is_among x (vars names)) among (ap (λ ys. is_among x ys) (sym a.scoped) ∙ ap (λ z. is_among x z.scoped) (sym is) ∙ unscoped)
  never_lasts x m here among is (lasts_once unshared scoped comes newest target) = by_often (often whole (vars names) x parts.2 among)
    where
      by_often : (is_shared whole.owners x ≡ true) ⊎ (once whole x ≡ false) → ⊥
      by_often (inl shared) = differ (is_shared whole.owners x) shared unshared
      by_often (inr never) = differ (once whole x) comes never
  never_lasts x m here among is (lasts_kept j q i c along keeps target) = unkept x q i j among keeps target

  own_name : (here : List Var) (x : Var) → is_among x (vars names) ≡ true → NameAt whole seats bound0 (n ∷ o) here x → is_among x here ≡ true
  own_name here x among (inl f) = absurd (never_lasts x f.number f.here among (seat_first x f.number f.here among f.first f.seated) f.lasting)
  own_name here x among (inr p) = p.among

  name_in : (here : List Var) (x : Var) → is_among x (vars names) ≡ true → NameAt whole seats bound0 (n ∷ o) here x → NameAt whole seats2 bound2 e2 here x
  name_in here x among was = inr (record {
    among = own_name here x among was;
    found = record { number = length seats; here = new; first = first2 x among; seated = new_at; sees = copies_seen whole.owners seats rs n o xs k x copyable below (ap (λ ys. is_among x ys) a.scoped ∙ among) };
    home = ap (λ q. home_in q) new_at;
    loose = often whole (vars names) x parts.2 among;
  })

  name2 : (here : List Var) (x : Var) (b : Bool) → is_among x (vars names) ≡ b → NameAt whole seats bound0 (n ∷ o) here x → NameAt whole seats2 bound2 e2 here x
  name2 here x true is was = name_in here x is was
  name2 here x false is was = name_out here x is was

  first_same : (x : Var) → is_among x (vars names) ≡ false → first_at bound2 e2 x ≡ first_at bound0 (n ∷ o) x
  first_same x away =
      first_past bound2 (length seats) o x (ap (λ ys. is_among x ys) named2 ∙ away) ∙ first_still seats bound0 (names_in (record_at rs n)) o x below as_long ∙ sym (past_n x away)

  first_n : (x : Var) → is_among x (vars names) ≡ true → first_at bound0 (n ∷ o) x ≡ Some n
  first_n x among = ap (λ ys. if_bound (is_among x ys) n (first_at bound0 o x)) named1 ∙ ap (λ b. if_bound b n (first_at bound0 o x)) among

  -- what isn't bound along the old environment isn't along the new one
  unbound2 : (x : Var) (b : Bool) → is_among x (vars names) ≡ b → first_at bound0 (n ∷ o) x ≡ None → first_at bound2 e2 x ≡ None
  unbound2 x true is none = absurd (not_none (first_at bound0 (n ∷ o) x) n (ap (λ ys. if_bound (is_among x ys) n (first_at bound0 o x)) named1 ∙ ap (λ b. if_bound b n (first_at bound0 o x)) is) none)
  unbound2 x false is none =
      first_past bound2 (length seats) o x (ap (λ ys. is_among x ys) named2 ∙ is) ∙ first_still seats bound0 (names_in (record_at rs n)) o x below as_long ∙ sym (past_n x is) ∙ none

  -- the first record has an image, and so isn't the one that is copied
  along2 : (i : ℕ) (seat : Seat) (h : ℕ) → IsAlong i (n ∷ o) → slice_get seats i ≡ Some seat → seat.image ≡ Some h → IsAlong i e2
  along2 i seat h (inl here) got image = absurd (not_none seat.image h image (ap (λ z. z.image) (one_value (slice_get seats n) seat a.seat (ap (λ j. slice_get seats j) here ∙ got) seated_n) ∙ a.scope))
  along2 i seat h (inr further) got image = inr further

  keeps2 : (f : FunctionId) (x : Var) → kept_along seats (n ∷ o) f x ≡ true → kept_along seats2 e2 f x ≡ true
  keeps2 f x is =
      let none : kept_along seats (n ∷ o) f x ≡ kept_along seats o f x =
      ap (λ q. is_among x (keeping_in q f) || kept_along seats o f x) seated_n ∙ ap (λ b. b || kept_along seats o f x) (a.unkeeping f x) in
      ap (λ q. is_among x (keeping_in q f) || kept_along seats2 o f x) new_at ∙ keeping_stays seats (new ∷ []) o f x below ∙ sym none ∙ is

  -- the innermost scope is the same
  same_names : (here names2 : List Var) → ScopeAt seats bound0 (n ∷ o) here names2 → names2 ≡ vars names
  same_names here names2 b =
      let number2 : b.number ≡ n = ap (λ e. head_of e) (sym b.is) in
      let seated2 : slice_get seats n ≡ Some b.seat = ap (λ i. slice_get seats i) (sym number2) ∙ b.seated in
      let seats_same : b.seat ≡ a.seat = one_value (slice_get seats n) b.seat a.seat seated2 seated_n in
      sym b.scoped ∙ ap (λ z. z.scoped) seats_same ∙ a.scoped

  innermost2 : (here : List Var) (inner : Option (List ScopedName)) → InnermostAt seats bound0 (n ∷ o) here inner → InnermostAt seats2 bound2 e2 here inner
  innermost2 here None at = tt
  innermost2 here (Some names2) b =
      let same : vars names2 ≡ vars names = same_names here (vars names2) b in
      record {
        number = length seats;
        outer = o;
        seat = new;
        is = refl;
        seated = new_at;
        scope = refl;
        scoped = a.scoped ∙ sym same;
        bound_is = named2 ∙ sym same;
        unnamed = refl;
        unkeeping = λ f x. refl;
        uncelled = λ x away. copy_cells whole.owners (content_in (record_at rs n)) xs k x (not_copied x (ap (λ ys. is_among x ys) (sym same) ∙ away));
        own = b.own;
        newest = λ x among. last_newest seats new x;
        found = λ x among. target_out x ∙ a.found x (ap (λ ys. is_among x ys) (sym same) ∙ among);
      }

  -- ---- what is round code

  module _ (r : Round) (at : RoundAt whole kept declarer seats bound0 (n ∷ o) r) where
    above2 : (x : Var) (m : ℕ) (b : Bool) → is_among x (vars names) ≡ b → first_at bound2 e2 x ≡ Some m → r.functions ≤ declarer x
    above2 x m true is first = at.above x n (first_n x is)
    above2 x m false is first = at.above x m (sym (first_same x is) ∙ first)

    pub round_copied : RoundAt whole kept declarer seats2 bound2 e2 r
    round_copied = record {
      names = λ x among. name2 r.here x (is_among x (vars names)) refl (at.names x among);
      base = record {
        number = at.base.number;
        seat = at.base.seat;
        home = at.base.home;
        along = along2 at.base.number at.base.seat at.base.home at.base.along at.base.seated at.base.image;
        seated = still_got seats new at.base.number at.base.seat at.base.seated;
        image = at.base.image;
      };
      activation = ap (λ q. grouped_in whole q) home2 ∙ at.activation;
      at_home = λ x among. home2 ∙ at.at_home x among;
      locals = λ x local. record { target = target_out x ∙ (at.locals x local).target; local = (at.locals x local).local; unkept = (at.locals x local).unkept };
      unbound = λ x local away. unbound2 x (is_among x (vars names)) refl (at.unbound x local away);
      innermost = innermost2 r.here r.innermost at.innermost;
      above = λ x m first. above2 x m (is_among x (vars names)) refl first;
      declared = at.declared;
      keeps = λ f x is. keeps2 f x (at.keeps f x is);
    }
