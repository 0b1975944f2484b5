-- Code that stands beside code that fits: where it moves, and behind a step that makes a record.
use Rattle.std.proofs.Common.{◌≡◌, List, [], ◌∷◌, ◌++◌, map, refl, sym, ap, subst}
use Rattle.runs.specs.Run.{Goes}
use Rattle.core_ast.specs.declared.parts.ScopedName.{ScopedName}
use Rattle.core_ast.specs.declared.parts.Var.{Var}
use Rattle.core_ast.specs.declared.whole.Core.{Core}
use Rattle.core_meaning.specs.Cells.{uninitialized}
use Rattle.core_meaning.specs.Marks.{Mark}
use Rattle.core_meaning.specs.Modules.{core_step}
use Rattle.core_meaning.specs.State.{Environment, EnvironmentRecord}
use Rattle.pass_rules.specs.Scopes.{vars}
use Rattle.cells_keep_runs.specs.Alike.{Config}
use Rattle.cells_keep_runs.specs.Fitting.{Naming, any_shapes, fit_standing}
use Rattle.cells_keep_runs.specs.Floors.{Anew, Everywhere, NextAt, Placed, Standing, names_in}
use Rattle.cells_keep_runs.specs.Found.{Bound}
use Rattle.cells_keep_runs.specs.Memory.{Seats}
use Rattle.cells_keep_runs.specs.Standings.{Known}
use Rattle.cells_keep_runs.proofs.Anew.{floors_stay}
use Rattle.cells_keep_runs.proofs.Both.{both}
use Rattle.cells_keep_runs.proofs.GoingOn.{Exactly, OneOf, bound_in, reshaped, with_shapes}
use Rattle.cells_keep_runs.proofs.Moved.{Moves}
use Rattle.scopes_keep_runs.proofs.Instance.{names_on}
use Rattle.scopes_keep_runs.proofs.Stay.{standing_at}

-- ---- beside code that fits

module _ (A A2 F : Standing) (shapes shapes2 : List (List Var) → Type 0) (Ok : Environment → Type 0) (moves : Moves A A2 Ok) where
  pub beside_moves : Moves (with_shapes (both A F) shapes) (with_shapes (both A2 F) shapes2) Ok
  beside_moves = record {
    stats = λ e own xs ok at. (moves.stats e own xs ok at.0, at.1);
    expr = λ e w in_scope x ok at. (moves.expr e w in_scope x ok at.0, at.1);
    links = λ e w ls ok at. (moves.links e w ls ok at.0, at.1);
    handler = λ e h ok at. (moves.handler e h ok at.0, at.1);
    unmade = λ e f ok at. (moves.unmade e f ok at.0, at.1);
    leads = λ e o ok at. (moves.leads e o ok at.0, at.1);
    inside = λ e ok at. (moves.inside e ok at.0, at.1);
    back = λ e o at ok. moves.back e o at.0 ok;
  }

-- ---- the names of records

pub names_more : (rs : List (EnvironmentRecord Mark)) (bs : EnvironmentRecord Mark) (xs : List Var) → names_in bs ≡ xs → map names_in (rs ++ bs ∷ []) ≡ map names_in rs ++ xs ∷ []
names_more [] bs xs is = ap (λ ys. ys ∷ []) is
names_more (r ∷ rs) bs xs is = ap (λ yss. names_in r ∷ yss) (names_more rs bs xs is)

pub scope_names : (names : List ScopedName) → names_in (uninitialized names) ≡ vars names
scope_names [] = refl
scope_names (n ∷ names) = ap (λ xs. n.var ∷ xs) (scope_names names)

-- ---- behind a step

module _ (core : Core) (k : Known) (ends : Environment) (nm : Naming) where
  -- code stands by the names that its records have then
  pub finished : (seats2 : Seats) (bound bound2 : Bound) (s v : Config) → Placed core (standing_at core k ends nm seats2 bound2 (OneOf bound bound2)) → core_step core s ≡ Goes v
      → Everywhere (standing_at core k ends nm seats2 bound2 (OneOf bound bound2)) s → Anew core (standing_at core k ends nm seats2 bound2 (OneOf bound bound2)) s.state s.control
      → bound_in v ≡ bound2 → Everywhere (standing_at core k ends nm seats2 (bound_in v) (Exactly (bound_in v))) v
  finished seats2 bound bound2 s v place step all anew is =
      let A = both (names_on k ends seats2 bound2 any_shapes nm.fixed) (fit_standing core nm) in
      let next : Everywhere (with_shapes A (OneOf bound bound2)) v = subst (λ m. NextAt (with_shapes A (OneOf bound bound2)) m) step (floors_stay core (with_shapes A (OneOf bound bound2)) place s anew all) in
      let exact : Everywhere (with_shapes A (Exactly bound2)) v = reshaped A (OneOf bound bound2) (Exactly bound2) v is next in
      subst (λ b. Everywhere (standing_at core k ends nm seats2 b (Exactly b)) v) (sym is) exact
