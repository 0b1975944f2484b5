-- Code along one environment stands as it did, and all other code as it does with a record more.
use Rattle.std.proofs.Common.{◌≡◌, ◌⊎◌, inl, inr, ℕ, Bool, true, false, List, [], ◌∷◌, ◌++◌, get_or, length, nat_eq, refl, sym, ap, subst, ◌∙◌}
use Rattle.std.proofs.lemmas.Bool.{eq-eqb, eqb-true}
use Rattle.core_ast.specs.declared.parts.FunctionId.{FunctionId}
use Rattle.core_ast.specs.declared.parts.Var.{Var}
use Rattle.core_ast.specs.declared.tree.CoreLink.{CoreLink}
use Rattle.core_ast.specs.declared.tree.CoreStat.{CoreStat}
use Rattle.core_ast.specs.declared.whole.Core.{Core}
use Rattle.core_meaning.specs.State.{Environment}
use Rattle.pass_rules.specs.Cells.{is_among}
use Rattle.cells_keep_runs.specs.Callings.{outer_for}
use Rattle.cells_keep_runs.specs.Fitting.{Naming, any_shapes, fit_standing}
use Rattle.cells_keep_runs.specs.Floors.{AllOf, Placed, Standing}
use Rattle.cells_keep_runs.specs.Found.{Bound}
use Rattle.cells_keep_runs.specs.MayBeFlattened.{Round, closure_may}
use Rattle.cells_keep_runs.specs.Memory.{Seat, Seats}
use Rattle.cells_keep_runs.specs.Places.{Below}
use Rattle.cells_keep_runs.specs.Rounds.{IsTail}
use Rattle.cells_keep_runs.specs.Standings.{Around, IsNew, Known, MadeAt, StaysAt}
use Rattle.cells_keep_runs.proofs.Both.{both, both_placed}
use Rattle.cells_keep_runs.proofs.Callings.{closures_made}
use Rattle.cells_keep_runs.proofs.Foundness.{round_looped}
use Rattle.cells_keep_runs.proofs.GoingOn.{placed_with_shapes, with_shapes}
use Rattle.cells_keep_runs.proofs.Grown.{below_more, below_rest, more_seats}
use Rattle.cells_keep_runs.proofs.Moved.{Moves}
use Rattle.cells_keep_runs.proofs.RoundParts.{Besides, LinkRound, RoundLaws, StatRound, round_parts, round_standing}
use Rattle.cells_keep_runs.proofs.Rounds.{rounds_stay}
use Rattle.cells_keep_runs.proofs.Standings.{new_records_away}
use Rattle.cells_keep_runs.proofs.Writes.{differ}
use Rattle.scopes_keep_runs.specs.Instance.{LeadsOn}
use Rattle.scopes_keep_runs.proofs.Instance.{names_on}
use Rattle.scopes_keep_runs.proofs.NamesOn.{leads_on, made_on}
use Rattle.scopes_keep_runs.proofs.Small.{tail_self}

-- environments are the same, or not
pub same_or_not : (a b : Environment) → (a ≡ b) ⊎ (a ≡ b → ⊥)
same_or_not [] [] = inl refl
same_or_not [] (m ∷ b) = inr (λ is. cc)
same_or_not (n ∷ a) [] = inr (λ is. cc)
same_or_not (n ∷ a) (m ∷ b) = by_heads (nat_eq n m) refl (same_or_not a b)
  where
    by_heads : (c : Bool) → nat_eq n m ≡ c → (a ≡ b) ⊎ (a ≡ b → ⊥) → (n ∷ a ≡ m ∷ b) ⊎ (n ∷ a ≡ m ∷ b → ⊥)
    by_heads true is (inl same) = inl (ap (λ i. i ∷ a) (eqb-true n m is) ∙ ap (λ e. m ∷ e) same)
    by_heads true is (inr other) = inr (λ same. other cc)
    by_heads false is rest = inr (λ same. (let heads : n ≡ m = cc in differ (nat_eq n m) (eq-eqb n m heads) is))

module _ (core : Core) (k : Known) (ends : Environment) (nm : Naming) (captured : (f : FunctionId) (x : Var) → is_among x (outer_for k.whole f.0) ≡ true → is_among x k.whole.captured ≡ true)
    (table : (f : FunctionId) (x : Var) → is_among x (get_or k.whole.kept f.0 []) ≡ true → is_among x (k.kept f) ≡ true) (fit_placed : Placed core (fit_standing core nm))
    (seats : Seats) (bound : Bound) (new : Seat) (names : List Var) (n : ℕ) (o : Environment) (below : Below (length seats) (n ∷ o)) (long : length seats ≡ length bound) (is_new : IsNew k seats bound new o) where
  abbrev pub present : Environment
  present = n ∷ o

  abbrev pub seats2 : Seats
  seats2 = seats ++ new ∷ []

  abbrev pub bound2 : Bound
  bound2 = bound ++ names ∷ []

  -- as before along the present environment, and else as behind the new record
  abbrev pub Mixed : Environment → Round → Type 0
  Mixed e r = (e ≡ present → Around k seats bound e r) × ((e ≡ present → ⊥) → Around k seats2 bound2 e r)

  abbrev pub besides_mixed : Besides
  besides_mixed = record {
    unmade = λ (e : Environment) (f : FunctionId). (r : Round) × (closure_may k.whole f r ≡ true) × Mixed e r;
    makes = λ (e : Environment) (f : FunctionId). MadeAt k seats2 bound2 e f;
    inside = λ (e : Environment). Below (length seats2) e;
    leads = λ (e p : Environment). LeadsOn k seats2 bound2 e p;
    outermost = λ (e : Environment). e ≡ ends;
    shapes = any_shapes;
    fixed = nm.fixed;
  }

  abbrev pub mixed : Standing
  mixed = round_standing k.whole Mixed besides_mixed

  laws_mixed : RoundLaws k.whole Mixed besides_mixed
  laws_mixed = record {
    loops = λ e r at. (λ is. round_looped k.whole k.kept k.declarer seats bound e r (at.0 is), λ other. round_looped k.whole k.kept k.declarer seats2 bound2 e r (at.1 other));
    closures = λ e r f may at. (r, may, at);
    made = λ e f (r, may, at). made_by e f r may at (same_or_not e present);
    back = λ e p ((i, is, same), unbound) inside. below_rest (length seats2) i p (subst (λ a. Below (length seats2) a) is inside);
  }
    where
      made_by : (e : Environment) (f : FunctionId) (r : Round) → closure_may k.whole f r ≡ true → Mixed e r → (e ≡ present) ⊎ (e ≡ present → ⊥) → MadeAt k seats2 bound2 e f
      made_by e f r may at (inl is) =
          made_on k ends seats bound new names o any_shapes any_shapes nm.fixed long is_new e f (subst (λ a. Below (length seats) a) (sym is) below)
          (closures_made k.whole k.kept k.declarer seats bound e f r (captured f) (table f) (at.0 is) may)
      made_by e f r may at (inr other) = closures_made k.whole k.kept k.declarer seats2 bound2 e f r (captured f) (table f) (at.1 other) may

  pub mixed_placed : (shapes : List (List Var) → Type 0) → Placed core (with_shapes (both mixed (fit_standing core nm)) shapes)
  mixed_placed shapes = placed_with_shapes core (both mixed (fit_standing core nm)) shapes (both_placed core mixed (fit_standing core nm) (round_parts k.whole Mixed besides_mixed laws_mixed) fit_placed)

  -- ---- code comes to stand so

  abbrev pub Ok : Environment → Type 0
  Ok e = (e ≡ present) ⊎ StaysAt k seats new o e

  around_mixed : (e : Environment) (r : Round) → Ok e → Around k seats bound e r → Mixed e r
  around_mixed e r (inl is) at = (λ same. at, λ other. absurd (other is))
  around_mixed e r (inr ok) at = (λ same. at, λ other. rounds_stay k.whole k.kept k.declarer seats bound new names e r ok.below long (new_records_away.away k seats bound new o e is_new ok) at)

  stats_mixed : (e : Environment) (xs : List CoreStat) → Ok e → AllOf (StatRound k.whole (Around k seats bound) e) xs → AllOf (StatRound k.whole Mixed e) xs
  stats_mixed e [] ok all = tt
  stats_mixed e (x ∷ xs) ok ((r, may, at), all) = ((r, may, around_mixed e r ok at), stats_mixed e xs ok all)

  links_mixed : (e : Environment) (ls : List CoreLink) → Ok e → AllOf (LinkRound k.whole (Around k seats bound) e) ls → AllOf (LinkRound k.whole Mixed e) ls
  links_mixed e [] ok all = tt
  links_mixed e (l ∷ ls) ok ((r, may, at), all) = ((r, may, around_mixed e r ok at), links_mixed e ls ok all)

  ok_below : (e : Environment) → Ok e → Below (length seats) e
  ok_below e (inl is) = subst (λ a. Below (length seats) a) (sym is) below
  ok_below e (inr ok) = ok.below

  back_mixed : (e p : Environment) → LeadsOn k seats bound e p → Ok e → Ok p
  back_mixed e p ((i, is, same), unbound) (inl here) =
      let at : i ∷ p ≡ n ∷ o = sym is ∙ here in
      let rest : p ≡ o = cc in
      inr (record { below = subst (λ a. Below (length seats) a) (sym rest) (below_rest (length seats) n o below); apart = inl (subst (λ a. IsTail a o) (sym rest) (tail_self o)) })
  back_mixed e p (leads, unbound) (inr ok) = inr (new_records_away.back k seats new o e p leads ok)

  pub mixed_moves : Moves (names_on k ends seats bound any_shapes nm.fixed) mixed Ok
  mixed_moves = record {
    stats = λ e own xs ok all. stats_mixed e xs ok all;
    expr = λ e w in_scope x ok at. (at.0, at.1, around_mixed e at.0 ok at.2);
    links = λ e w ls ok all. links_mixed e ls ok all;
    handler = λ e h ok at. (at.0, at.1, around_mixed e at.0 ok at.2);
    unmade = λ e f ok at. (at.0, at.1, around_mixed e at.0 ok at.2);
    leads = λ e p ok at. leads_on k ends seats bound new names o any_shapes any_shapes nm.fixed long is_new e p (ok_below e ok) at;
    inside = λ e ok at. below_more (length seats) (length seats2) e (more_seats [] seats (new ∷ [])) at;
    back = λ e p leads ok. back_mixed e p leads ok;
  }

  -- ---- and where no code stands along the present environment, all stands as behind the new record

  stats_plain : (e : Environment) (xs : List CoreStat) → (e ≡ present → ⊥) → AllOf (StatRound k.whole Mixed e) xs → AllOf (StatRound k.whole (Around k seats2 bound2) e) xs
  stats_plain e [] other all = tt
  stats_plain e (x ∷ xs) other ((r, may, at), all) = ((r, may, at.1 other), stats_plain e xs other all)

  links_plain : (e : Environment) (ls : List CoreLink) → (e ≡ present → ⊥) → AllOf (LinkRound k.whole Mixed e) ls → AllOf (LinkRound k.whole (Around k seats2 bound2) e) ls
  links_plain e [] other all = tt
  links_plain e (l ∷ ls) other ((r, may, at), all) = ((r, may, at.1 other), links_plain e ls other all)

  module _ (Far : Environment → Type 0) (apart : (e : Environment) → Far e → e ≡ present → ⊥) (back : (e p : Environment) → LeadsOn k seats2 bound2 e p → Far e → Far p) where
    pub plain_again : Moves mixed (names_on k ends seats2 bound2 any_shapes nm.fixed) Far
    plain_again = record {
      stats = λ e own xs far all. stats_plain e xs (apart e far) all;
      expr = λ e w in_scope x far at. (at.0, at.1, at.2.1 (apart e far));
      links = λ e w ls far all. links_plain e ls (apart e far) all;
      handler = λ e h far at. (at.0, at.1, at.2.1 (apart e far));
      unmade = λ e f far at. (at.0, at.1, at.2.1 (apart e far));
      leads = λ e p far at. at;
      inside = λ e far at. at;
      back = λ e p leads far. back e p leads far;
    }
