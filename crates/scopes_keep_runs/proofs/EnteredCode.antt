-- What runs along the record of a scope or a handler that is entered may stand there, beside code that fits.
use Rattle.std.proofs.Common.{◌≡◌, ◌≤◌, ◌<◌, inr, ℕ, suc, Bool, true, false, not, ◌&&◌, cond, List, [], ◌∷◌, ◌++◌, map, None, Some, length, slice_get, refl, sym, ap, arith, subst, ◌∙◌}
use Rattle.std.proofs.lemmas.Bool.{and_parts}
use Rattle.core_ast.specs.declared.parts.ScopedName.{ScopedName}
use Rattle.core_ast.specs.declared.parts.Var.{Var}
use Rattle.core_ast.specs.declared.tree.CoreStat.{CoreStat}
use Rattle.core_ast.specs.declared.whole.Core.{Core}
use Rattle.core_meaning.specs.Marks.{CoreState}
use Rattle.core_meaning.specs.State.{Environment}
use Rattle.pass_rules.specs.Cells.{is_among}
use Rattle.pass_rules.specs.Scopes.{vars}
use Rattle.cells_keep_runs.specs.Fitting.{Naming, is_marked, list_fits, may_assign, names_fit}
use Rattle.cells_keep_runs.specs.Floors.{AllOf, Entering, MayAssign, Standing}
use Rattle.cells_keep_runs.specs.Found.{Bound, first_at, names_of}
use Rattle.cells_keep_runs.specs.MayBeFlattened.{Round, each, stat_may}
use Rattle.cells_keep_runs.specs.Memory.{Seat, Seats, is_scoped}
use Rattle.cells_keep_runs.specs.Places.{Below}
use Rattle.cells_keep_runs.specs.Recorded.{inner}
use Rattle.cells_keep_runs.specs.Rounds.{activation_at, grouped, grouped_in, home_in}
use Rattle.cells_keep_runs.specs.Standings.{Around, Known}
use Rattle.cells_keep_runs.proofs.Found.{first_still}
use Rattle.cells_keep_runs.proofs.GoingOn.{OneOf}
use Rattle.cells_keep_runs.proofs.Grown.{below_cons, below_more}
use Rattle.cells_keep_runs.proofs.Renewed.{got_last}
use Rattle.cells_keep_runs.proofs.RoundParts.{StatRound}
use Rattle.cells_keep_runs.proofs.Rounds.{home_stays}
use Rattle.cells_keep_runs.proofs.Writes.{one_value}
use Rattle.scopes_keep_runs.proofs.Small.{same_length}
use Rattle.scopes_keep_runs.proofs.Stay.{standing_at}

pub longer : {A : Type 0} (xs : List A) (x : A) → length (xs ++ x ∷ []) ≡ suc (length xs)
longer [] x = refl
longer (y ∷ xs) x = ap (λ n. suc n) (longer xs x)

by_fixed : (fixed mutable : Bool) → cond fixed true mutable ≡ true → fixed ≡ false → mutable ≡ true
by_fixed true mutable is free = cc
by_fixed false mutable is free = is

module _ (core : Core) (k : Known) (ends : Environment) (nm : Naming) (seats : Seats) (s : CoreState) (new : Seat) (xs : List Var) (names : List ScopedName) (body : List CoreStat) (r : Round)
    (long : length seats ≡ length s.records) (below : Below (length seats) s.context.environment)
    (round : Around k (seats ++ new ∷ []) (names_of s.records ++ xs ∷ []) (length seats ∷ s.context.environment) r) (may : each (map (stat_may k.whole) body) r ≡ true)
    (fit_body : list_fits core nm body true ≡ true) (fit_names : names_fit nm names ≡ true) (act : activation_at k.whole seats s.context.environment ≡ Some (grouped k.whole new.home))
    (unbound : (x : Var) → is_scoped new x ≡ true → first_at (names_of s.records) s.context.environment x ≡ None) where
  abbrev e : Environment
  e = s.context.environment

  abbrev seats2 : Seats
  seats2 = seats ++ new ∷ []

  abbrev bound2 : Bound
  bound2 = names_of s.records ++ xs ∷ []

  abbrev K2 : Standing
  K2 = standing_at core k ends nm seats2 bound2 (OneOf (names_of s.records) bound2)

  -- it is the innermost record then
  inner_is : length seats ∷ e ≡ inner s e
  inner_is = ap (λ n. n ∷ e) long

  last : slice_get seats2 (length s.records) ≡ Some new
  last = subst (λ n. slice_get seats2 n ≡ Some new) long (got_last seats new)

  round_inner : Around k seats2 bound2 (inner s e) r
  round_inner = subst (λ a. Around k seats2 bound2 a r) inner_is round

  stats_round : (ys : List CoreStat) → each (map (stat_may k.whole) ys) r ≡ true → AllOf (StatRound k.whole (Around k seats2 bound2) (inner s e)) ys
  stats_round [] is = tt
  stats_round (y ∷ ys) is =
      let both = and_parts (stat_may k.whole y r) (each (map (stat_may k.whole) ys) r) is in
      ((r, both.0, round_inner), stats_round ys both.1)

  inside : Below (length seats2) (inner s e)
  inside =
      let more : length seats2 ≡ suc (length seats) = longer seats new in
      let less : length seats < length seats2 = omega arith in
      let least : length seats ≤ length seats2 = omega arith in
      subst (λ a. Below (length seats2) a) inner_is (below_cons (length seats2) (length seats) e less (below_more (length seats) (length seats2) e least below))

  same : activation_at k.whole seats2 (inner s e) ≡ activation_at k.whole seats2 e
  same = ap (λ o. grouped_in k.whole (home_in o)) last ∙ sym act ∙ sym (ap (λ o. grouped_in k.whole o) (home_stays seats new e below))

  bound_long : length seats ≡ length (names_of s.records)
  bound_long = long ∙ sym (same_length s.records)

  unbound_on : (n : ℕ) (here : Seat) (x : Var) → inner s e ≡ n ∷ e → slice_get seats2 n ≡ Some here → is_scoped here x ≡ true → first_at bound2 e x ≡ None
  unbound_on n here x is got scoped =
      let number : length s.records ≡ n = cc in
      let seat : here ≡ new = one_value (slice_get seats2 n) here new got (subst (λ i. slice_get seats2 i ≡ Some new) number last) in
      first_still seats (names_of s.records) xs e x below bound_long ∙ unbound x (subst (λ h. is_scoped h x ≡ true) seat scoped)

  names_assign : (ns : List ScopedName) → names_fit nm ns ≡ true → AllOf (λ (n : ScopedName). MayAssign K2 n.var n.mutable) ns
  names_assign [] is = tt
  names_assign (n ∷ ns) is =
      let both = and_parts (is_marked nm.owners n && may_assign nm.fixed n) (not (is_among n.var (vars ns)) && names_fit nm ns) is in
      let first = and_parts (is_marked nm.owners n) (may_assign nm.fixed n) both.0 in
      let more = and_parts (not (is_among n.var (vars ns))) (names_fit nm ns) both.1 in
      (by_fixed (nm.fixed n.var) n.mutable first.1, names_assign ns more.1)

  pub entering : Entering K2 s xs names body
  entering = record {
    body_at = (stats_round body may, fit_body);
    inside = (inside, tt);
    leads = (((length s.records, refl, same), unbound_on), tt);
    names_fit = names_assign names fit_names;
    more = inr refl;
  }
