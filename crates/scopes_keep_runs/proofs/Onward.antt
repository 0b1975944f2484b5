-- What both machines come to goes on to be as it should: related, of fitting code that stands by the names of the core, with counts that do.
use Rattle.std.proofs.Common.{◌≡◌, ◌≤◌, ℕ, zero, suc, Bool, List, [], ◌∷◌, ◌++◌, map, length, refl, sym, subst, ap, arith}
use Rattle.runs.specs.Run.{Asks, Goes}
use Rattle.runs.specs.Simulation.{Reaches}
use Rattle.es_outside.specs.declared.events.Event.{Event}
use Rattle.es_outside.specs.declared.host.Reply.{Reply}
use Rattle.core_ast.specs.Lawful.{IsLawful}
use Rattle.core_ast.specs.declared.parts.Var.{Var}
use Rattle.core_ast.specs.declared.whole.Core.{Core}
use Rattle.core_meaning.specs.Marks.{Mark}
use Rattle.core_meaning.specs.Modules.{core_step}
use Rattle.core_meaning.specs.State.{EnvironmentRecord, Throws}
use Rattle.cells_keep_runs.specs.Alike.{Config}
use Rattle.cells_keep_runs.specs.Course.{NewSeats, a_call_more, a_copy_more, a_handler_more, a_scope_more, no_more}
use Rattle.cells_keep_runs.specs.Fitting.{IsFitting, Naming, any_shapes, fit_standing, fit_with}
use Rattle.cells_keep_runs.specs.Floors.{Everywhere, NextAt, Placed, Standing, names_in}
use Rattle.cells_keep_runs.specs.Kept.{NoneKept, kept_of}
use Rattle.cells_keep_runs.specs.KeptFound.{naming}
use Rattle.cells_keep_runs.specs.Memory.{Seat, Seats}
use Rattle.cells_keep_runs.specs.Related.{Related}
use Rattle.cells_keep_runs.specs.Started.{owners_of}
use Rattle.cells_keep_runs.proofs.Apart.{none_declared}
use Rattle.cells_keep_runs.proofs.Assembled.{seated}
use Rattle.cells_keep_runs.proofs.FitRuns.{Grows, Undeclared, fit_reaches, fit_step}
use Rattle.cells_keep_runs.proofs.GoingOn.{asked, beside, quiet, reshaped}
use Rattle.cells_keep_runs.proofs.Lasting.{HandMakes, HeadMakes, MakesRecord, StatMakes, asks_none, goes_fitting, more_count}
use Rattle.scopes_keep_runs.proofs.Instance.{At, Catches, Fitting, GoesOn, HandlerMatched, StandsBy, names_by}
use Rattle.scopes_keep_runs.proofs.PlacedBy.{placed_by}
use Rattle.scopes_keep_runs.proofs.SeatsKeep.{AllKeep, new_keep, one_keeps}

-- ---- the number of records

same_count : (rs : List (EnvironmentRecord Mark)) → length (map names_in rs) ≡ length rs
same_count [] = refl
same_count (r ∷ rs) = ap (λ n. suc n) (same_count rs)

bound_more : (bound : List (List Var)) (xs : List Var) → length (bound ++ xs ∷ []) ≡ suc (length bound)
bound_more [] xs = refl
bound_more (x ∷ bound) xs = ap (λ n. suc n) (bound_more bound xs)

one_longer : (seats : Seats) (x : Seat) → length (seats ++ x ∷ []) ≡ suc (length seats)
one_longer [] x = refl
one_longer (y ∷ seats) x = ap (λ n. suc n) (one_longer seats x)

abbrev AtLeast : ℕ → List (List Var) → Type 0
AtLeast n bound = n ≤ length bound

at_least : (n : ℕ) → Grows (AtLeast n)
at_least n bound xs at = let more = bound_more bound xs in omega arith

-- ---- what new seats say of the step: there is none more, or it makes a record

pub data Kinds (core : Core) (seats seats2 : Seats) (s : Config) : Type 0 where
  stays : seats2 ≡ seats → Kinds core seats seats2 s
  one_made : MakesRecord core s.state s.control → length seats2 ≡ suc (length seats) → Kinds core seats seats2 s

kinds : (core : Core) (owners : List ℕ) (seats : Seats) (s t : Config) (seats2 : Seats) → NewSeats core (kept_of core) owners seats s t seats2 → Kinds core seats seats2 s
kinds core owners seats s t seats2 no_more = stays refl
kinds core owners seats s t seats2 (a_scope_more x xs body names r is out) = one_made (subst (λ c. MakesRecord core s.state c) (sym is) (subst (λ y. StatMakes y) (sym out) tt)) (one_longer seats _)
kinds core owners seats s t seats2 (a_copy_more x xs r is head_is) = one_made (subst (λ c. MakesRecord core s.state c) (sym is) (subst (λ h. HeadMakes h) (sym head_is) tt)) (one_longer seats _)
kinds core owners seats s t seats2 (a_call_more c r behind is at) = one_made (subst (λ c. MakesRecord core s.state c) (sym is) r) (one_longer seats _)
kinds core owners seats s t seats2 (a_handler_more v x names handler fs r is frames) = one_made (subst (λ c. MakesRecord core s.state c) (sym is) (subst (λ fs. HandMakes (Throws v) fs) (sym frames) tt)) (one_longer seats _)

module _ (core : Core) (fixed : Var → Bool) (lawful : IsLawful core) (none_kept : NoneKept core) (fitting : IsFitting core (naming core fixed)) (C : Seats → Config → Type 0) (goes : GoesOn core fixed C) where
  abbrev owners : List ℕ
  owners = owners_of core

  abbrev k : Naming
  k = naming core fixed

  abbrev N : Seats → List (List Var) → Standing
  N = names_by core fixed

  abbrev count : Config → ℕ
  count s = length s.state.records

  placed : (seats : Seats) (bound : List (List Var)) (shapes : List (List Var) → Type 0) → Placed core (beside N core k seats bound shapes)
  placed seats bound shapes = placed_by core fixed none_kept seats bound shapes

  undeclared : Undeclared core
  undeclared f function at = none_declared core f function lawful at

  abbrev Fits : Config → Type 0
  Fits s = Fitting core fixed s

  abbrev F : Standing
  F = fit_standing core k

  place : Placed core (beside N core k [] [] any_shapes)
  place = placed [] [] any_shapes

  -- no step leaves fewer records, and one that makes a record leaves one more
  keeps_count : (s v : Config) → Fits s → core_step core s ≡ Goes v → count s ≤ count v
  keeps_count s v fits is =
      let n = count s in
      let same = same_count s.state.records in
      let enough : n ≤ length (map names_in s.state.records) = omega arith in
      let here : Everywhere (fit_with core k (AtLeast n)) s = reshaped F any_shapes (AtLeast n) s enough fits in
      let next : Everywhere (fit_with core k (AtLeast n)) v = subst (λ m. NextAt (fit_with core k (AtLeast n)) m) is (fit_step core k (AtLeast n) (at_least n) fitting none_kept undeclared s here) in
      let same2 = same_count v.state.records in
      let at : n ≤ length (map names_in v.state.records) = next.0.2.shapes in
      omega arith

  fits_next : (s v : Config) → Fits s → core_step core s ≡ Goes v → Fits v
  fits_next s v fits is = goes_fitting core k fitting none_kept undeclared (beside N core k [] [] any_shapes) place s v fits is

  grown : (s v : Config) → MakesRecord core s.state s.control → core_step core s ≡ Goes v → suc (count s) ≤ count v
  grown s v makes is = more_count core k fitting none_kept undeclared (beside N core k [] [] any_shapes) place s v makes is

  keeps_along : (n : ℕ) (s v : Config) → Reaches (core_step core) n s v → Fits s → count s ≤ count v
  keeps_along zero s v way fits = subst (λ a. count s ≤ count a) way (omega arith)
  keeps_along (suc n) s v (u, is, way) fits =
      let first = keeps_count s u fits is in
      let others = keeps_along n u v way (fits_next s u fits is) in
      omega arith

  -- ---- steps that make no record

  quiet_along : (seats : Seats) (n : ℕ) (s v : Config) → Reaches (core_step core) n s v → count v ≤ count s → Fits s → At core fixed seats s → C seats s → StandsBy core fixed seats v × C seats v
  quiet_along seats zero s v way few fits at counts = subst (λ a. StandsBy core fixed seats a × C seats a) way (at.0, counts)
  quiet_along seats (suc n) s v (u, is, way) few fits at counts =
      let next : Fits u = fits_next s u fits is in
      let first = keeps_count s u fits is in
      let others = keeps_along n u v way next in
      let none : MakesRecord core s.state s.control → ⊥ = λ makes. (let more = grown s u makes is in absurd (omega arith)) in
      let same = at.1 in
      let few2 : count u ≤ count s = omega arith in
      let here : StandsBy core fixed seats u = quiet core k fitting none_kept undeclared N placed seats (suc zero) s u (u, is, refl) few2 fits at.0 in
      let long : length seats ≡ count u = omega arith in
      let few3 : count v ≤ count u = omega arith in
      quiet_along seats n u v way few3 next (here, long) (goes.quiet seats s u is none fits at counts)

  -- ---- what is known where both machines come to

  pub record Good (seats : Seats) (s t : Config) : Type 0 where
    pub related : Related owners seats s t
    pub fits : Fits s
    pub at : At core fixed seats s
    pub counts : C seats s
    pub keeps : AllKeep (kept_of core) seats

  long_by : (seats : Seats) (s t : Config) → Related owners seats s t → length seats ≡ count s
  long_by seats s t related = seated owners seats s t related

  fits_along : (n : ℕ) (s v : Config) → Reaches (core_step core) n s v → Fits s → Fits v
  fits_along n s v way fits = fit_reaches core k any_shapes (λ bound xs at. tt) fitting none_kept undeclared n s v way fits

  behind : (seats seats2 : Seats) (s t s2 t2 : Config) (n : ℕ) → Good seats s t → (Catches s.control s.state.context.frames → ⊥) → Reaches (core_step core) (suc n) s s2 → NewSeats core (kept_of core) owners seats s t seats2
      → Related owners seats2 s2 t2 → Kinds core seats seats2 s → Good seats2 s2 t2
  behind seats seats2 s t s2 t2 n good free way new related (stays is) =
      let long2 : length seats2 ≡ count s2 = long_by seats2 s2 t2 related in
      let long : length seats ≡ count s = good.at.1 in
      let lengths : length seats2 ≡ length seats = ap (λ xs. length xs) is in
      let few : count s2 ≤ count s = omega arith in
      let next : StandsBy core fixed seats2 s2 × C seats2 s2 = subst (λ xs. StandsBy core fixed xs s2 × C xs s2) (sym is) (quiet_along seats (suc n) s s2 way few good.fits good.at good.counts) in
      record {
        related = related;
        fits = fits_along (suc n) s s2 way good.fits;
        at = (next.0, long2);
        counts = next.1;
        keeps = new_keep core (kept_of core) owners seats s t seats2 new good.keeps;
      }
  behind seats seats2 s t s2 t2 n good free (v, is, way) new related (one_made at longer) =
      let long2 : length seats2 ≡ count s2 = long_by seats2 s2 t2 related in
      let long : length seats ≡ count s = good.at.1 in
      let fits2 : Fits v = fits_next s v good.fits is in
      let more = grown s v at is in
      let others = keeps_along n v s2 way fits2 in
      let first = goes.made seats seats2 s t v good.related is at longer free new good.fits good.at good.counts in
      let long3 : length seats2 ≡ count v = omega arith in
      let few : count s2 ≤ count v = omega arith in
      let next = quiet_along seats2 n v s2 way few fits2 (first.0, long3) first.1 in
      record {
        related = related;
        fits = fits_along n v s2 way fits2;
        at = (next.0, long2);
        counts = next.1;
        keeps = new_keep core (kept_of core) owners seats s t seats2 new good.keeps;
      }

  pub good_behind : (seats seats2 : Seats) (s t s2 t2 : Config) (n : ℕ) → Good seats s t → (Catches s.control s.state.context.frames → ⊥) → Reaches (core_step core) (suc n) s s2 → NewSeats core (kept_of core) owners seats s t seats2
      → Related owners seats2 s2 t2 → Good seats2 s2 t2
  good_behind seats seats2 s t s2 t2 n good free way new related = behind seats seats2 s t s2 t2 n good free way new related (kinds core owners seats s t seats2 new)

  -- ---- hosts that are asked

  answered_by : (seats seats2 : Seats) (s t t2 : Config) (e : Event) (follow : Reply → Config) (a : Reply) → Good seats s t → core_step core s ≡ Asks e follow → NewSeats core (kept_of core) owners seats s t seats2
      → Related owners seats2 (follow a) t2 → Kinds core seats seats2 s → Good seats2 (follow a) t2
  answered_by seats seats2 s t t2 e follow a good is new related (stays same) =
      let next : StandsBy core fixed seats (follow a) = asked core k fitting none_kept undeclared N placed seats s e follow a is good.at.0 in
      let counts : C seats (follow a) = goes.asked seats s e follow a is good.fits good.at good.counts in
      let fits : NextAt F (Asks e follow) = subst (λ m. NextAt F m) is (fit_step core k any_shapes (λ bound xs at. tt) fitting none_kept undeclared s good.fits) in
      record {
        related = related;
        fits = fits a;
        at = (subst (λ xs. StandsBy core fixed xs (follow a)) (sym same) next, long_by seats2 (follow a) t2 related);
        counts = subst (λ xs. C xs (follow a)) (sym same) counts;
        keeps = new_keep core (kept_of core) owners seats s t seats2 new good.keeps;
      }
  answered_by seats seats2 s t t2 e follow a good is new related (one_made at longer) =
      absurd (asks_none core k fitting none_kept undeclared (beside N core k [] [] any_shapes) place s e follow at is)

  pub good_answered : (seats seats2 : Seats) (s t t2 : Config) (e : Event) (follow : Reply → Config) (a : Reply) → Good seats s t → core_step core s ≡ Asks e follow → NewSeats core (kept_of core) owners seats s t seats2
      → Related owners seats2 (follow a) t2 → Good seats2 (follow a) t2
  good_answered seats seats2 s t t2 e follow a good is new related = answered_by seats seats2 s t t2 e follow a good is new related (kinds core owners seats s t seats2 new)

  -- ---- a handler that takes a throw

  pub good_caught : (seats : Seats) (s t : Config) → Good seats s t → (h : HandlerMatched core fixed C seats s t) → Good (seats ++ h.new ∷ []) h.behind h.target
  good_caught seats s t good h = record {
    related = h.related;
    fits = fits_next s h.behind good.fits h.is;
    at = (h.standing, long_by (seats ++ h.new ∷ []) h.behind h.target h.related);
    counts = h.counts;
    keeps = one_keeps (kept_of core) seats h.new h.unkeeping good.keeps;
  }
