-- Where code stands with what is round it, and goes on to where there is a record more.
use Rattle.std.proofs.Common.{◌≡◌, ◌⊎◌, inl, inr, ℕ, Bool, true, false, List, [], ◌∷◌, ◌++◌, get_or, Some, length, refl, sym, ap, subst, ◌∙◌}
use Rattle.core_ast.specs.declared.parts.FunctionId.{FunctionId}
use Rattle.core_ast.specs.declared.parts.Var.{Var}
use Rattle.core_ast.specs.declared.tree.CoreLink.{CoreLink}
use Rattle.core_ast.specs.declared.tree.CoreStat.{CoreStat}
use Rattle.core_meaning.specs.State.{Environment}
use Rattle.pass_rules.specs.Cells.{is_among}
use Rattle.cells_keep_runs.specs.Callings.{outer_for}
use Rattle.cells_keep_runs.specs.Floors.{AllOf, Standing}
use Rattle.cells_keep_runs.specs.Found.{Bound, first_at}
use Rattle.cells_keep_runs.specs.MayBeFlattened.{Round}
use Rattle.cells_keep_runs.specs.Memory.{Seat, Seats, is_scoped}
use Rattle.cells_keep_runs.specs.Places.{Below}
use Rattle.cells_keep_runs.specs.Rounds.{IsTail, activation_at, grouped, grouped_in, home_at}
use Rattle.cells_keep_runs.specs.Standings.{Around, IsNew, Known, LeadsTo, MadeAt, NewIsAway, NewRecordsAreAway, StaysAt, StaysBack, UnmadeAt}
use Rattle.cells_keep_runs.proofs.Callings.{closures_made, makes_stay}
use Rattle.cells_keep_runs.proofs.Copies.{tails_unbound}
use Rattle.cells_keep_runs.proofs.Foundness.{round_looped}
use Rattle.cells_keep_runs.proofs.Grown.{below_more, below_rest, more_seats}
use Rattle.cells_keep_runs.proofs.Moved.{Moves}
use Rattle.cells_keep_runs.proofs.RoundParts.{Besides, LinkRound, RoundLaws, StatRound, round_standing}
use Rattle.cells_keep_runs.proofs.Rounds.{home_stays, rounds_stay}
use Rattle.cells_keep_runs.proofs.Writes.{not_none}

-- ---- the new record is away

new_away : NewIsAway
new_away k seats bound new present e is stays = record {
  own = λ home x n first. own_by stays.apart home x n first (is_scoped new x) refl;
  first = is.first;
}
  where
    own_by : IsTail e present ⊎ (activation_at k.whole seats e ≡ Some (grouped k.whole new.home) → ⊥) → home_at seats e ≡ Some new.home → (x : Var) (n : ℕ) → first_at bound e x ≡ Some n → (b : Bool) → is_scoped new x ≡ b → b ≡ false
    own_by apart home x n first false scoped = refl
    own_by (inl tail) home x n first true scoped = absurd (not_none (first_at bound e x) n first (tails_unbound bound e present x tail (is.unbound x scoped)))
    own_by (inr other) home x n first true scoped = absurd (other (ap (λ o. grouped_in k.whole o) home))

abbrev rest_of : Environment → Environment
rest_of [] = []
rest_of (n ∷ e) = e

tail_here : (a b : Environment) → a ≡ b → IsTail a b
tail_here a [] same = same
tail_here a (n ∷ b) same = inl same

tail_back : (e present o : Environment) (n : ℕ) → e ≡ n ∷ o → IsTail e present → IsTail o present
tail_back e [] o n is tail = cc
tail_back e (m ∷ p) o n is (inl here) = inr (tail_here o p (ap (λ a. rest_of a) (sym is ∙ here)))
tail_back e (m ∷ p) o n is (inr further) = inr (tail_back e p o n is further)

stays_back : StaysBack
stays_back k seats new present e o (n, is, same) stays = record {
  below = below_rest (length seats) n o (subst (λ a. Below (length seats) a) is stays.below);
  apart = apart_by stays.apart;
}
  where
    apart_by : IsTail e present ⊎ (activation_at k.whole seats e ≡ Some (grouped k.whole new.home) → ⊥) → IsTail o present ⊎ (activation_at k.whole seats o ≡ Some (grouped k.whole new.home) → ⊥)
    apart_by (inl tail) = inl (tail_back e present o n is tail)
    apart_by (inr other) = inr (λ here. other (same ∙ here))

pub new_records_away : NewRecordsAreAway
new_records_away = record { away = new_away; back = stays_back }

-- ---- the standing

abbrev pub besides_of : Known → Environment → Seats → Bound → (List (List Var) → Type 0) → (Var → Bool) → Besides
besides_of k ends seats bound shapes fixed = record {
  unmade = λ (e : Environment) (f : FunctionId). UnmadeAt k seats bound e f;
  makes = λ (e : Environment) (f : FunctionId). MadeAt k seats bound e f;
  inside = λ (e : Environment). Below (length seats) e;
  leads = λ (e o : Environment). LeadsTo k seats e o;
  outermost = λ (e : Environment). e ≡ ends;
  shapes = shapes;
  fixed = fixed;
}

abbrev pub names_standing : Known → Environment → Seats → Bound → (List (List Var) → Type 0) → (Var → Bool) → Standing
names_standing k ends seats bound shapes fixed = round_standing k.whole (Around k seats bound) (besides_of k ends seats bound shapes fixed)

module _ (k : Known) (ends : Environment) (captured : (f : FunctionId) (x : Var) → is_among x (outer_for k.whole f.0) ≡ true → is_among x k.whole.captured ≡ true)
    (table : (f : FunctionId) (x : Var) → is_among x (get_or k.whole.kept f.0 []) ≡ true → is_among x (k.kept f) ≡ true) (seats : Seats) (bound : Bound) (shapes : List (List Var) → Type 0) (fixed : Var → Bool) where
  pub round_laws : RoundLaws k.whole (Around k seats bound) (besides_of k ends seats bound shapes fixed)
  round_laws = record {
    loops = λ e r at. round_looped k.whole k.kept k.declarer seats bound e r at;
    closures = λ e r f may at. (r, may, at);
    made = λ e f (r, may, at). closures_made k.whole k.kept k.declarer seats bound e f r (captured f) (table f) at may;
    back = λ e o (n, is, same) inside. below_rest (length seats) n o (subst (λ a. Below (length seats) a) is inside);
  }

-- ---- where there is a record more

module _ (k : Known) (ends : Environment) (seats : Seats) (bound : Bound) (new : Seat) (names : List Var) (present : Environment) (shapes shapes2 : List (List Var) → Type 0) (fixed : Var → Bool)
    (long : length seats ≡ length bound) (is_new : IsNew k seats bound new present) where
  abbrev K1 : Standing
  K1 = names_standing k ends seats bound shapes fixed

  abbrev K2 : Standing
  K2 = names_standing k ends (seats ++ new ∷ []) (bound ++ names ∷ []) shapes2 fixed

  abbrev Ok : Environment → Type 0
  Ok e = StaysAt k seats new present e

  around : (e : Environment) (r : Round) → Ok e → Around k seats bound e r → Around k (seats ++ new ∷ []) (bound ++ names ∷ []) e r
  around e r ok at = rounds_stay k.whole k.kept k.declarer seats bound new names e r ok.below long (new_away k seats bound new present e is_new ok) at

  stats_around : (e : Environment) (xs : List CoreStat) → Ok e → AllOf (StatRound k.whole (Around k seats bound) e) xs → AllOf (StatRound k.whole (Around k (seats ++ new ∷ []) (bound ++ names ∷ [])) e) xs
  stats_around e [] ok all = tt
  stats_around e (x ∷ xs) ok ((r, may, at), all) = ((r, may, around e r ok at), stats_around e xs ok all)

  links_around : (e : Environment) (ls : List CoreLink) → Ok e → AllOf (LinkRound k.whole (Around k seats bound) e) ls → AllOf (LinkRound k.whole (Around k (seats ++ new ∷ []) (bound ++ names ∷ [])) e) ls
  links_around e [] ok all = tt
  links_around e (l ∷ ls) ok ((r, may, at), all) = ((r, may, around e r ok at), links_around e ls ok all)

  activation_same : (e : Environment) → Below (length seats) e → activation_at k.whole (seats ++ new ∷ []) e ≡ activation_at k.whole seats e
  activation_same e below = ap (λ o. grouped_in k.whole o) (home_stays seats new e below)

  leads_around : (e o : Environment) → Ok e → LeadsTo k seats e o → LeadsTo k (seats ++ new ∷ []) e o
  leads_around e o ok (n, is, same) =
      let below : Below (length seats) o = below_rest (length seats) n o (subst (λ a. Below (length seats) a) is ok.below) in
      (n, is, activation_same e ok.below ∙ same ∙ sym (activation_same o below))

  pub moves : Moves K1 K2 Ok
  moves = record {
    stats = λ e own xs ok all. stats_around e xs ok all;
    expr = λ e w c x ok at. (at.0, at.1, around e at.0 ok at.2);
    links = λ e w ls ok all. links_around e ls ok all;
    handler = λ e h ok at. (at.0, at.1, around e at.0 ok at.2);
    unmade = λ e f ok at. (at.0, at.1, around e at.0 ok at.2);
    leads = λ e o ok at. leads_around e o ok at;
    inside = λ e ok at. below_more (length seats) (length (seats ++ new ∷ [])) e (more_seats [] seats (new ∷ [])) at;
    back = λ e o leads ok. stays_back k seats new present e o leads ok;
  }

  -- closures may be made along any environment
  pub made_moved : (e : Environment) (f : FunctionId) → Below (length seats) e → MadeAt k seats bound e f → MadeAt k (seats ++ new ∷ []) (bound ++ names ∷ []) e f
  made_moved e f below at = makes_stay k.whole k.kept k.declarer seats bound new names e f below long is_new.first at
