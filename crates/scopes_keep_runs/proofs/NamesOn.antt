-- Code that stands with what is round it goes on to where there is a record more.
use Rattle.std.proofs.Common.{◌≡◌, Bool, List, [], ◌∷◌, ◌++◌, length, sym, ap, subst, ◌∙◌}
use Rattle.core_ast.specs.declared.parts.FunctionId.{FunctionId}
use Rattle.core_ast.specs.declared.parts.Var.{Var}
use Rattle.core_meaning.specs.State.{Environment}
use Rattle.cells_keep_runs.specs.Floors.{Standing}
use Rattle.cells_keep_runs.specs.Found.{Bound}
use Rattle.cells_keep_runs.specs.Memory.{Seat, Seats}
use Rattle.cells_keep_runs.specs.Places.{Below}
use Rattle.cells_keep_runs.specs.Rounds.{activation_at, grouped_in}
use Rattle.cells_keep_runs.specs.Standings.{IsNew, Known, MadeAt, StaysAt}
use Rattle.cells_keep_runs.proofs.Found.{first_still}
use Rattle.cells_keep_runs.proofs.Grown.{below_here, below_rest, slice_left}
use Rattle.cells_keep_runs.proofs.Moved.{Moves}
use Rattle.cells_keep_runs.proofs.Rounds.{home_stays}
use Rattle.cells_keep_runs.proofs.Standings.{made_moved, moves, names_standing}
use Rattle.scopes_keep_runs.specs.Instance.{LeadsOn}
use Rattle.scopes_keep_runs.proofs.Instance.{names_on}

-- ---- where there is a record more

module _ (k : Known) (ends : Environment) (seats : Seats) (bound : Bound) (new : Seat) (names : List Var) (present : Environment) (shapes shapes2 : List (List Var) → Type 0) (fixed : Var → Bool)
    (long : length seats ≡ length bound) (is_new : IsNew k seats bound new present) where
  abbrev K1 : Standing
  K1 = names_on k ends seats bound shapes fixed

  abbrev K2 : Standing
  K2 = names_on k ends (seats ++ new ∷ []) (bound ++ names ∷ []) shapes2 fixed

  abbrev Ok : Environment → Type 0
  Ok e = StaysAt k seats new present e

  plain : Moves (names_standing k ends seats bound shapes fixed) (names_standing k ends (seats ++ new ∷ []) (bound ++ names ∷ []) shapes2 fixed) Ok
  plain = moves k ends seats bound new names present shapes shapes2 fixed long is_new

  activation_same : (e : Environment) → Below (length seats) e → activation_at k.whole (seats ++ new ∷ []) e ≡ activation_at k.whole seats e
  activation_same e below = ap (λ o. grouped_in k.whole o) (home_stays seats new e below)

  pub leads_on : (e o : Environment) → Below (length seats) e → LeadsOn k seats bound e o → LeadsOn k (seats ++ new ∷ []) (bound ++ names ∷ []) e o
  leads_on e o below ((n, is, same), unbound) =
      let here : Below (length seats) (n ∷ o) = subst (λ a. Below (length seats) a) is below in
      let rest : Below (length seats) o = below_rest (length seats) n o here in (
        (n, is, activation_same e below ∙ same ∙ sym (activation_same o rest)),
        λ i seat x is2 at scoped.
            first_still seats bound names o x rest long
            ∙ unbound i seat x is2 (sym (slice_left seats (new ∷ []) i (below_here (length seats) i o (subst (λ a. Below (length seats) a) is2 below))) ∙ at) scoped,
      )

  pub on_moves : Moves K1 K2 Ok
  on_moves = record {
    stats = λ e own xs ok at. plain.stats e own xs ok at;
    expr = λ e w in_scope x ok at. plain.expr e w in_scope x ok at;
    links = λ e w ls ok at. plain.links e w ls ok at;
    handler = λ e h ok at. plain.handler e h ok at;
    unmade = λ e f ok at. plain.unmade e f ok at;
    leads = λ e o ok l. leads_on e o ok.below l;
    inside = λ e ok at. plain.inside e ok at;
    back = λ e o l ok. plain.back e o (l.0) ok;
  }

  -- closures may be made along any environment
  pub made_on : (e : Environment) (f : FunctionId) → Below (length seats) e → MadeAt k seats bound e f → MadeAt k (seats ++ new ∷ []) (bound ++ names ∷ []) e f
  made_on e f below at = made_moved k ends seats bound new names present shapes shapes2 fixed long is_new e f below at
