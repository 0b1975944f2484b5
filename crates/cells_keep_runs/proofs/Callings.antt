-- What is round the statements of a function that is called.
use Rattle.std.proofs.Common.{◌≡◌, ◌⊎◌, inl, inr, ◌≤◌, ◌<◌, ◌+◌, ℕ, suc, Bool, true, false, not, ◌&&◌, ◌||◌, List, [], ◌∷◌, ◌++◌, map, get_or, Option, None, Some, length, nat_eq, nat_lt, slice_get, refl, sym, ap, arith, ◌∙◌}
use Rattle.std.specs.Prelude.{if◌then◌else◌}
use Rattle.std.specs.List.{list_all}
use Rattle.std.proofs.lemmas.Bool.{and_parts, eqb-true, ltb-true}
use Rattle.core_ast.specs.declared.parts.FunctionId.{FunctionId}
use Rattle.core_ast.specs.declared.parts.Var.{Var}
use Rattle.core_ast.specs.declared.whole.CoreFunction.{CoreFunction}
use Rattle.core_meaning.specs.Calls.{name_bound, own_name, passed}
use Rattle.core_meaning.specs.Marks.{CoreState, KeptCell, Own}
use Rattle.core_meaning.specs.State.{Call, Closure, Environment}
use Rattle.pass_rules.specs.Cells.{is_among, is_foreign, is_shared, owner}
use Rattle.cells_keep_runs.specs.Called.{bindings_of}
use Rattle.cells_keep_runs.specs.Callings.{Calls1, CallsAreNamed, CallsAreRound, CallsGoOn, ClosuresMayBeMade, FunctionsDeclare, MakesAt, MakesStay, outer_for}
use Rattle.cells_keep_runs.specs.Entries.{call_seat}
use Rattle.cells_keep_runs.specs.Found.{Bound, ClosedAt, Lasting, LastsAt, bound_at, first_at, if_bound, lasts_kept, lasts_once, lasts_unscoped, names_in}
use Rattle.cells_keep_runs.specs.MayBeFlattened.{Round, Whole, all_among, closure_may, function_may, none_among, round_of, stats_may}
use Rattle.cells_keep_runs.specs.Memory.{Keeping, Seat, Seats, cell_along, cell_found, cells_in, is_scoped, keeping_in, kept_along, or_outer}
use Rattle.cells_keep_runs.specs.Named.{call_names, listed, own_names, scoped_names}
use Rattle.cells_keep_runs.specs.Places.{Below}
use Rattle.cells_keep_runs.specs.Related.{Kept}
use Rattle.cells_keep_runs.specs.Rounds.{NameAt, RoundAt, grouped_in, home_in, once}
use Rattle.cells_keep_runs.specs.Seen.{image_with, or_image, target_at}
use Rattle.cells_keep_runs.specs.Writes.{CellOf}
use Rattle.cells_keep_runs.proofs.Found.{first_past, first_still, index_last, kept_stays, lasting_stays, lasts_within, shared_kept}
use Rattle.cells_keep_runs.proofs.Grown.{keeping_stays}
use Rattle.cells_keep_runs.proofs.Named.{names_append, names_bound, names_own, names_passed, names_undefined, source_is, undefined_all}
use Rattle.cells_keep_runs.proofs.Renewed.{got_last}
use Rattle.cells_keep_runs.proofs.Rounds.{apart_left, apart_right, left_in, none_in, not_true, or_cases, right_in}
use Rattle.cells_keep_runs.proofs.Stays.{cell_stays}
use Rattle.cells_keep_runs.proofs.Writes.{differ, not_none, one_value, same_var}

-- ---- lists of names

apart_both : (xs ys : List Var) (x : Var) → is_among x xs ≡ false → is_among x ys ≡ false → is_among x (xs ++ ys) ≡ false
apart_both [] ys x h k = k
apart_both (y ∷ xs) ys x h k = by_name (nat_eq y.0 x.0) h (λ further. apart_both xs ys x further k)
  where
    by_name : (b : Bool) → b || is_among x xs ≡ false → (is_among x xs ≡ false → is_among x (xs ++ ys) ≡ false) → b || is_among x (xs ++ ys) ≡ false
    by_name true here on = absurd (differ true refl here)
    by_name false here on = on here

no_cell : (cells : List KeptCell) (x : Var) → cell_found cells x ≡ None → is_among x (map (λ k. k.var) cells) ≡ false
no_cell [] x none = refl
no_cell (c ∷ cells) x none = by_name (nat_eq c.var.0 x.0) none (λ further. no_cell cells x further)
  where
    by_name : (b : Bool) → (if b then Some c.cell else cell_found cells x) ≡ None → (cell_found cells x ≡ None → is_among x (map (λ k. k.var) cells) ≡ false) → b || is_among x (map (λ k. k.var) cells) ≡ false
    by_name true here on = absurd (not_none (Some c.cell) c.cell refl here)
    by_name false here on = on here

module _ (whole : Whole) (kept : Keeping) (declarer : Var → ℕ) (seats : Seats) (bound : Bound) (e : Environment) (f : FunctionId) (function : CoreFunction) (i : ℕ) (names : List Var) (cells : List KeptCell)
    (below : Below (length seats) e) (long : length seats ≡ length bound) (makes : MakesAt whole kept declarer seats bound e f) (calls : Calls1 whole declarer seats e f function names cells) (may : function_may whole f.0 function ≡ true) where
  abbrev outer : List Var
  outer = outer_for whole f.0

  abbrev own : List Var
  own = own_names function

  abbrev scoped : List Var
  scoped = scoped_names function

  abbrev has : List Var
  has = call_names function cells

  abbrev new : Seat
  new = call_seat i scoped has cells

  abbrev seats2 : Seats
  seats2 = seats ++ new ∷ []

  abbrev bound2 : Bound
  bound2 = bound ++ names ∷ []

  abbrev e2 : Environment
  e2 = length seats ∷ e

  abbrev r : Round
  r = round_of (own ++ outer) scoped f.0

  record Parts : Type 0 where
    unshared : list_all (λ x. not (is_shared whole.owners x)) own ≡ true
    apart : none_among outer (own ++ scoped) ≡ true
    scopes_apart : none_among own scoped ≡ true

  parts : Parts
  parts =
      let all = stats_may whole function.setup r && stats_may whole function.body r in
      let a1 = list_all (λ x. not (is_shared whole.owners x)) own in
      let a2 = none_among outer (own ++ scoped) in
      let a3 = none_among own scoped in
      let a4 = all_among (get_or whole.kept f.0 []) outer in
      let p5 = and_parts (all && a1 && a2 && a3 && a4) (list_all (λ x. nat_eq (whole.declarer x) f.0) (own ++ scoped)) may in
      let p4 = and_parts (all && a1 && a2 && a3) a4 p5.0 in
      let p3 = and_parts (all && a1 && a2) a3 p4.0 in
      let p2 = and_parts (all && a1) a2 p3.0 in
      let p1 = and_parts all a1 p2.0 in
      record { unshared = p1.1; apart = p2.1; scopes_apart = p3.1 }

  unshared_in : (xs : List Var) (x : Var) → list_all (λ y. not (is_shared whole.owners y)) xs ≡ true → is_among x xs ≡ true → is_shared whole.owners x ≡ false
  unshared_in [] x all among = cc
  unshared_in (y ∷ xs) x all among =
      let both = and_parts (not (is_shared whole.owners y)) (list_all (λ z. not (is_shared whole.owners z)) xs) all in
      by_name (nat_eq y.0 x.0) refl among (not_true (is_shared whole.owners y) both.0) (λ further. unshared_in xs x both.1 further)
    where
      by_name : (b : Bool) → nat_eq y.0 x.0 ≡ b → b || is_among x xs ≡ true → is_shared whole.owners y ≡ false → (is_among x xs ≡ true → is_shared whole.owners x ≡ false) → is_shared whole.owners x ≡ false
      by_name true same here is on = ap (λ z. is_shared whole.owners z) (sym (same_var y x (eqb-true y.0 x.0 same))) ∙ is
      by_name false same here is on = on here

  new_at : slice_get seats2 (length seats) ≡ Some new
  new_at = got_last seats new

  named2 : (x : Var) → is_among x (bound_at bound2 (length seats)) ≡ is_among x own
  named2 x = ap (λ ys. is_among x ys) (index_last bound names (length seats) long) ∙ calls.named x

  -- the record has its own names, and those of scopes behind the pass
  tail_names : List Var
  tail_names = map (λ k. k.var) cells ++ listed function.own

  has_own : (x : Var) → is_among x own ≡ true → is_among x has ≡ true
  unfolding tail_names
  has_own x among = by_first (or_cases function.parameters (listed function.arguments ++ (function.locals ++ listed function.own)) x among)
    where
      by_third : (is_among x function.locals ≡ true) ⊎ (is_among x (listed function.own) ≡ true) → is_among x ((function.locals ++ scoped) ++ tail_names) ≡ true
      by_third (inl is) = left_in (function.locals ++ scoped) tail_names x (left_in function.locals scoped x is)
      by_third (inr is) = right_in (function.locals ++ scoped) tail_names x (right_in (map (λ k. k.var) cells) (listed function.own) x is)

      by_second : (is_among x (listed function.arguments) ≡ true) ⊎ (is_among x (function.locals ++ listed function.own) ≡ true) → is_among x (listed function.arguments ++ ((function.locals ++ scoped) ++ tail_names)) ≡ true
      by_second (inl is) = left_in (listed function.arguments) ((function.locals ++ scoped) ++ tail_names) x is
      by_second (inr is) = right_in (listed function.arguments) ((function.locals ++ scoped) ++ tail_names) x (by_third (or_cases function.locals (listed function.own) x is))

      by_first : (is_among x function.parameters ≡ true) ⊎ (is_among x (listed function.arguments ++ (function.locals ++ listed function.own)) ≡ true) → is_among x has ≡ true
      by_first (inl is) = left_in function.parameters (listed function.arguments ++ ((function.locals ++ scoped) ++ tail_names)) x is
      by_first (inr is) = right_in function.parameters (listed function.arguments ++ ((function.locals ++ scoped) ++ tail_names)) x (by_second (or_cases (listed function.arguments) (function.locals ++ listed function.own) x is))

  has_scoped : (x : Var) → is_among x scoped ≡ true → is_among x has ≡ true
  unfolding tail_names
  has_scoped x among =
      right_in function.parameters (listed function.arguments ++ ((function.locals ++ scoped) ++ tail_names)) x
      (right_in (listed function.arguments) ((function.locals ++ scoped) ++ tail_names) x (left_in (function.locals ++ scoped) tail_names x (right_in function.locals scoped x among)))

  has_cell : (x : Var) → is_among x (map (λ k. k.var) cells) ≡ true → is_among x has ≡ true
  unfolding tail_names
  has_cell x among =
      right_in function.parameters (listed function.arguments ++ ((function.locals ++ scoped) ++ tail_names)) x
      (right_in (listed function.arguments) ((function.locals ++ scoped) ++ tail_names) x (right_in (function.locals ++ scoped) tail_names x (left_in (map (λ k. k.var) cells) (listed function.own) x among)))

  hasn't : (x : Var) → is_among x own ≡ false → is_among x scoped ≡ false → cell_found cells x ≡ None → is_among x has ≡ false
  unfolding tail_names
  hasn't x h k none =
      let rest = listed function.arguments ++ (function.locals ++ listed function.own) in
      let parameters = apart_left function.parameters rest x h in
      let h2 = apart_right function.parameters rest x h in
      let arguments = apart_left (listed function.arguments) (function.locals ++ listed function.own) x h2 in
      let h3 = apart_right (listed function.arguments) (function.locals ++ listed function.own) x h2 in
      let locals = apart_left function.locals (listed function.own) x h3 in
      let own_name = apart_right function.locals (listed function.own) x h3 in
      apart_both function.parameters (listed function.arguments ++ ((function.locals ++ scoped) ++ tail_names)) x parameters
      (apart_both (listed function.arguments) ((function.locals ++ scoped) ++ tail_names) x arguments
      (apart_both (function.locals ++ scoped) tail_names x (apart_both function.locals scoped x locals k) (apart_both (map (λ q. q.var) cells) (listed function.own) x (no_cell cells x none) own_name)))

  finds2 : (x : Var) → is_among x has ≡ true → target_at seats2 e2 x ≡ Some i
  finds2 x here =
      let far = target_at seats2 e x in
      ap (λ o. image_with o x far) new_at ∙ ap (λ b. if b then or_image (Some i) far else far) here

  -- ---- its own names

  own_name2 : (x : Var) → is_among x own ≡ true → LastsAt whole.owners (once whole) seats2 bound2 e2 x
  own_name2 x among = record {
    number = length seats;
    here = new;
    first = ap (λ b. if_bound b (length seats) (first_at bound2 e x)) (named2 x ∙ among);
    seated = new_at;
    lasting = lasts_unscoped i (unshared_in own x parts.unshared among) refl refl (finds2 x (has_own x among));
  }

  -- ---- names further out

  first_out : (x : Var) → is_among x own ≡ false → first_at bound2 e2 x ≡ first_at bound e x
  first_out x apart = first_past bound2 (length seats) e x (named2 x ∙ apart) ∙ first_still seats bound names e x below long

  found_cell : (x : Var) (k : ℕ) → cell_found cells x ≡ Some k → is_among x (map (λ q. q.var) cells) ≡ true
  found_cell x k found = by_there (is_among x (map (λ q. q.var) cells)) refl
    where
      none_of : (cs : List KeptCell) → is_among x (map (λ q. q.var) cs) ≡ false → cell_found cs x ≡ None
      none_of [] away = refl
      none_of (c ∷ cs) away = by_name (nat_eq c.var.0 x.0) away (λ further. none_of cs further)
        where
          by_name : (b : Bool) → b || is_among x (map (λ q. q.var) cs) ≡ false → (is_among x (map (λ q. q.var) cs) ≡ false → cell_found cs x ≡ None) → (if b then Some c.cell else cell_found cs x) ≡ None
          by_name true here on = absurd (differ true refl here)
          by_name false here on = on here

      by_there : (b : Bool) → is_among x (map (λ q. q.var) cells) ≡ b → b ≡ true
      by_there true is = refl
      by_there false is = absurd (not_none (cell_found cells x) k found (none_of cells is))

  -- the cell that the closure keeps
  kept_name : (x : Var) (n j : ℕ) → is_among x own ≡ false → first_at bound e x ≡ Some n → CellOf whole.owners seats n x j → cell_found cells x ≡ Some j → LastsAt whole.owners (once whole) seats2 bound2 e2 x
  kept_name x n j apart first c found =
      let c2 : CellOf whole.owners seats2 n x j = cell_stays whole.owners seats new n j x c in
      let far = cell_along seats2 e x in
      let along : cell_along seats2 e2 x ≡ j = ap (λ o. or_outer (cell_found (cells_in o) x) far) new_at ∙ ap (λ o. or_outer o far) found in
      record {
        number = n;
        here = c2.seat;
        first = first_out x apart ∙ first;
        seated = c2.seated;
        lasting = lasts_kept j (length seats) i c2 along (record { seat = new; seated = new_at; image = refl; plain = refl; found = found }) (finds2 x (has_cell x (found_cell x j found)));
      }

  same_cell : (x : Var) (j k : ℕ) → cell_along seats e x ≡ j → cell_found cells x ≡ Some k → cell_found cells x ≡ Some j
  same_cell x j k along found = found ∙ ap (λ m. Some m) (sym (calls.cells_along x k found) ∙ along)

  lasting_cell : (x : Var) (n k : ℕ) (here : Seat) → is_among x own ≡ false → first_at bound e x ≡ Some n → cell_found cells x ≡ Some k → Lasting whole.owners (once whole) seats e n here x → LastsAt whole.owners (once whole) seats2 bound2 e2 x
  lasting_cell x n k here apart first found (lasts_unscoped m unshared image unscoped target) = absurd (differ (is_shared whole.owners x) (calls.cells_shared x k found) unshared)
  lasting_cell x n k here apart first found (lasts_once unshared is_scoped1 is newest target) = absurd (differ (is_shared whole.owners x) (calls.cells_shared x k found) unshared)
  lasting_cell x n k here apart first found (lasts_kept j q m c along keeps target) = kept_name x n j apart first c (same_cell x j k along found)

  lasting_name : (x : Var) (o : Option ℕ) → cell_found cells x ≡ o → is_among x own ≡ false → is_among x scoped ≡ false → LastsAt whole.owners (once whole) seats bound e x → LastsAt whole.owners (once whole) seats2 bound2 e2 x
  lasting_name x (Some k) found apart away l = lasting_cell x l.number k l.here apart l.first found l.lasting
  lasting_name x None found apart away l =
      lasts_within whole.owners (once whole) seats2 bound2 (length seats) e x
      (record { seat = new; seated = new_at; unbound = named2 x ∙ apart; unnamed = hasn't x apart away found; uncelled = found })
      (lasting_stays whole.owners (once whole) seats bound new names e x below long l (λ unshared is scoped1 homes. refl))

  closed_name : (x : Var) → is_among x own ≡ false → is_among x scoped ≡ false → ClosedAt whole.owners (once whole) seats bound e f x → LastsAt whole.owners (once whole) seats2 bound2 e2 x
  closed_name x apart away (inl l) = lasting_name x (cell_found cells x) refl apart away l
  closed_name x apart away (inr k) =
      let there = calls.whole_cells x k.kept in
      kept_name x k.number k.cell apart k.first k.cells (same_cell x k.cell there.0 k.along there.1)

  outer_apart : (x : Var) → is_among x outer ≡ true → is_among x (own ++ scoped) ≡ false
  outer_apart x among = none_in outer (own ++ scoped) x parts.apart among

  name2 : (x : Var) → (is_among x own ≡ true) ⊎ (is_among x outer ≡ true) → NameAt whole seats2 bound2 e2 [] x
  name2 x (inl is) = inl (own_name2 x is)
  name2 x (inr is) = inl (closed_name x (apart_left own scoped x (outer_apart x is)) (apart_right own scoped x (outer_apart x is)) (makes.names x is))

  -- ---- its scopes' names

  nowhere : (x : Var) → is_among x scoped ≡ true → (o : Option ℕ) → first_at bound e x ≡ o → o ≡ None
  nowhere x among None is = refl
  nowhere x among (Some n) is = let h : suc f.0 ≤ declarer x = makes.above x n is in let k : declarer x ≡ f.0 = calls.scoped_declared x among in absurd (omega arith)

  unkept : (x : Var) → is_among x scoped ≡ true → (o : Option ℕ) → cell_found cells x ≡ o → o ≡ None
  unkept x among None is = refl
  unkept x among (Some k) is = absurd (differ (is_among x scoped) among (calls.cells_apart x k is))

  above2 : (x : Var) (n : ℕ) (b : Bool) → is_among x own ≡ b → first_at bound2 e2 x ≡ Some n → f.0 ≤ declarer x
  above2 x n true is first = calls.own_declared x is
  above2 x n false is first = let h : suc f.0 ≤ declarer x = makes.above x n (sym (first_out x is) ∙ first) in omega arith

  round2 : RoundAt whole kept declarer seats2 bound2 e2 r
  round2 = record {
    names = λ x among. name2 x (or_cases own outer x among);
    base = record { number = length seats; seat = new; home = i; along = inl refl; seated = new_at; image = refl };
    activation = ap (λ q. grouped_in whole (home_in q)) new_at;
    at_home = λ x among. absurd (differ false among refl);
    locals = λ x local. record { target = finds2 x (has_scoped x local); local = local; unkept = unkept x local (cell_found cells x) refl };
    unbound = λ x local apart. first_out x (apart_left own outer x apart) ∙ nowhere x local (first_at bound e x) refl;
    innermost = tt;
    above = λ x n first. above2 x n (is_among x own) refl first;
    declared = λ x local. (let h : declarer x ≡ f.0 = calls.scoped_declared x local in omega arith);
    keeps = λ g x is. ap (λ o. is_among x (keeping_in o g) || kept_along seats2 e g x) new_at ∙ keeping_stays seats (new ∷ []) e g x below ∙ makes.keeps g x is;
  }

calls_round : CallsAreRound
calls_round whole kept declarer seats bound e f function i names cells below long makes calls may = round2 whole kept declarer seats bound e f function i names cells below long makes calls may

-- ---- closures

module _ (whole : Whole) (kept : Keeping) (declarer : Var → ℕ) (seats : Seats) (bound : Bound) (e : Environment) (f : FunctionId) (r : Round)
    (captured : (x : Var) → is_among x (outer_for whole f.0) ≡ true → is_among x whole.captured ≡ true)
    (table : (x : Var) → is_among x (get_or whole.kept f.0 []) ≡ true → is_among x (kept f) ≡ true)
    (at : RoundAt whole kept declarer seats bound e r) where
  abbrev said : Var → Bool
  said x = is_among x r.names && (not (is_among x r.here && is_shared whole.owners x) || is_among x (get_or whole.kept f.0 []))

  said_of : (xs : List Var) (x : Var) → list_all said xs ≡ true → is_among x xs ≡ true → said x ≡ true
  said_of [] x all among = cc
  said_of (y ∷ xs) x all among =
      let both = and_parts (said y) (list_all said xs) all in
      by_name (nat_eq y.0 x.0) refl among both.0 (λ further. said_of xs x both.1 further)
    where
      by_name : (b : Bool) → nat_eq y.0 x.0 ≡ b → b || is_among x xs ≡ true → said y ≡ true → (is_among x xs ≡ true → said x ≡ true) → said x ≡ true
      by_name true same here is on = ap (λ z. said z) (sym (same_var y x (eqb-true y.0 x.0 same))) ∙ is
      by_name false same here is on = on here

  kept_if : (a b c : Bool) → not (a && b) || c ≡ true → a ≡ true → b ≡ true → c ≡ true
  kept_if true true c h is is2 = h
  kept_if true false c h is is2 = absurd (differ true refl (sym is2))
  kept_if false b c h is is2 = absurd (differ true refl (sym is))

  loosely : (x : Var) → is_among x (outer_for whole f.0) ≡ true → (is_shared whole.owners x ≡ true) ⊎ (once whole x ≡ false) → is_shared whole.owners x ≡ true
  loosely x among (inl is) = is
  loosely x among (inr is) = absurd (differ (is_among x whole.captured) (captured x among) is)

  closed_by : (x : Var) → is_among x (outer_for whole f.0) ≡ true → not (is_among x r.here && is_shared whole.owners x) || is_among x (get_or whole.kept f.0 []) ≡ true → NameAt whole seats bound e r.here x → ClosedAt whole.owners (once whole) seats bound e f x
  closed_by x among h (inl l) = inl l
  closed_by x among h (inr o) =
      let shared = loosely x among o.loose in
      let is : is_among x (get_or whole.kept f.0 []) ≡ true = kept_if (is_among x r.here) (is_shared whole.owners x) (is_among x (get_or whole.kept f.0 [])) h o.among shared in
      inr (shared_kept whole.owners seats bound e f x o.found shared (at.keeps f x (table x is)))

  module _ (may : closure_may whole f r ≡ true) where
    both : (nat_lt f.0 r.functions ≡ true) × (list_all said (outer_for whole f.0) ≡ true)
    both = and_parts (nat_lt f.0 r.functions) (list_all said (outer_for whole f.0)) may

    makes_of : MakesAt whole kept declarer seats bound e f
    makes_of = record {
      above = λ x n first. (let h : f.0 < r.functions = ltb-true f.0 r.functions both.0 in let k : r.functions ≤ declarer x = at.above x n first in omega arith);
      names = λ x among.
          (let is = and_parts (is_among x r.names) (not (is_among x r.here && is_shared whole.owners x) || is_among x (get_or whole.kept f.0 [])) (said_of (outer_for whole f.0) x both.1 among) in
          closed_by x among is.1 (at.names x is.0));
      keeps = λ g x is. at.keeps g x is;
    }

pub closures_made : ClosuresMayBeMade
closures_made whole kept declarer seats bound e f r captured table at may = makes_of whole kept declarer seats bound e f r captured table at may

-- ---- the names of a call's record, and its cells

bindings_named : (f : CoreFunction) (a : Closure Own) (c : Call) (s : CoreState) → f.declared ≡ [] → a.own.cells ≡ [] → names_in (bindings_of f a c s) ≡ own_names f
bindings_named f a c s undeclared uncelled =
    let p = passed f.parameters c.args in
    let n = name_bound f.arguments in
    let l = undefined_all f.locals in
    let o = own_name f.own c.function in
    ap (λ bs. names_in bs) (source_is f a c s undeclared uncelled)
    ∙ names_append p (n ++ (l ++ o)) ∙ ap (λ xs. xs ++ names_in (n ++ (l ++ o))) (names_passed f.parameters c.args)
    ∙ ap (λ xs. f.parameters ++ xs)
    (names_append n (l ++ o) ∙ ap (λ xs. xs ++ names_in (l ++ o)) (names_bound f.arguments)
    ∙ ap (λ xs. listed f.arguments ++ xs) (names_append l o ∙ ap (λ xs. xs ++ names_in o) (names_undefined f.locals) ∙ ap (λ xs. f.locals ++ xs) (names_own f.own c.function)))

along_of : (seats : Seats) (e : Environment) (ks : List KeptCell) (x : Var) (k : ℕ) → Kept seats e ks → cell_found ks x ≡ Some k → cell_along seats e x ≡ k
along_of seats e [] x k kept found = cc
along_of seats e (c ∷ ks) x k (along, at, kept) found = by_name (nat_eq c.var.0 x.0) refl found (λ further. along_of seats e ks x k kept further)
  where
    by_name : (b : Bool) → nat_eq c.var.0 x.0 ≡ b → (if b then Some c.cell else cell_found ks x) ≡ Some k → (cell_found ks x ≡ Some k → cell_along seats e x ≡ k) → cell_along seats e x ≡ k
    by_name true same here on = ap (λ y. cell_along seats e y) (sym (same_var c.var x (eqb-true c.var.0 x.0 same))) ∙ along ∙ one_value (Some c.cell) c.cell k refl here
    by_name false same here on = on here

foreign_shared : (owners : List ℕ) (number : ℕ) (x : Var) → is_foreign owners number x ≡ true → is_shared owners x ≡ true
foreign_shared owners number x is = (and_parts (is_shared owners x) (not (nat_eq (owner owners x) number)) is).0

calls_named : CallsAreNamed
calls_named whole declarer seats a b function c s closures undeclared apart own_declared scoped_declared = record {
  named = λ x. ap (λ xs. is_among x xs) (bindings_named function a c s undeclared closures.uncelled);
  cells_along = λ x k found. along_of seats a.environment b.own.cells x k closures.cells found;
  cells_shared = λ x k found. foreign_shared whole.owners (a.function.0 + 1) x (closures.foreign x k found);
  cells_apart = λ x k found. apart_right (own_names function) (scoped_names function) x (apart.others_apart x (closures.foreign x k found));
  whole_cells = closures.whole;
  own_declared = own_declared;
  scoped_declared = scoped_declared;
}

-- ---- with one record more

module _ (whole : Whole) (kept : Keeping) (declarer : Var → ℕ) (seats : Seats) (bound : Bound) (new : Seat) (names : List Var) (e : Environment) (f : FunctionId) (below : Below (length seats) e) (long : length seats ≡ length bound)
    (first : (x : Var) (n : ℕ) (here : Seat) → is_shared whole.owners x ≡ false → once whole x ≡ true → slice_get seats n ≡ Some here → is_scoped here x ≡ true → new.home ≡ here.home → is_scoped new x ≡ false) where
  closed_stays : (x : Var) → ClosedAt whole.owners (once whole) seats bound e f x → ClosedAt whole.owners (once whole) (seats ++ new ∷ []) (bound ++ names ∷ []) e f x
  closed_stays x (inl l) = inl (lasting_stays whole.owners (once whole) seats bound new names e x below long l (λ unshared is scoped homes. first x l.number l.here unshared is l.seated scoped homes))
  closed_stays x (inr k) = inr (kept_stays whole.owners seats bound new names e f x below long k)

  still_makes : MakesAt whole kept declarer seats bound e f → MakesAt whole kept declarer (seats ++ new ∷ []) (bound ++ names ∷ []) e f
  still_makes m = record {
    above = λ x n is. m.above x n (sym (first_still seats bound names e x below long) ∙ is);
    names = λ x among. closed_stays x (m.names x among);
    keeps = λ g x is. keeping_stays seats (new ∷ []) e g x below ∙ m.keeps g x is;
  }

pub makes_stay : MakesStay
makes_stay whole kept declarer seats bound new names e f below long first m = still_makes whole kept declarer seats bound new names e f below long first m

-- ---- what declares a name

all_said : (said : Var → Bool) (xs : List Var) (x : Var) → list_all said xs ≡ true → is_among x xs ≡ true → said x ≡ true
all_said said [] x all among = cc
all_said said (y ∷ xs) x all among =
    let both = and_parts (said y) (list_all said xs) all in
    by_name (nat_eq y.0 x.0) refl among both.0 (λ further. all_said said xs x both.1 further)
  where
    by_name : (b : Bool) → nat_eq y.0 x.0 ≡ b → b || is_among x xs ≡ true → said y ≡ true → (is_among x xs ≡ true → said x ≡ true) → said x ≡ true
    by_name true same here is on = ap (λ z. said z) (sym (same_var y x (eqb-true y.0 x.0 same))) ∙ is
    by_name false same here is on = on here

functions_declare : FunctionsDeclare
functions_declare whole place function x may among =
    let outer = get_or whole.outer place [] in
    let own = own_names function in
    let scoped = scoped_names function in
    let round = round_of (own ++ outer) scoped place in
    let said = λ (y : Var). nat_eq (whole.declarer y) place in
    let all = stats_may whole function.setup round && stats_may whole function.body round && list_all (λ y. not (is_shared whole.owners y)) own && none_among outer (own ++ scoped) && none_among own scoped
    && all_among (get_or whole.kept place []) outer in
    eqb-true (whole.declarer x) place (all_said said (own ++ scoped) x (and_parts all (list_all said (own ++ scoped)) may).1 among)

pub calls_go_on : CallsGoOn
calls_go_on = record { calls = calls_round; closures = closures_made; named = calls_named; stay = makes_stay; declare = functions_declare }
