-- How the names of a loop's turn are copied between related states.
use Rattle.std.specs.Prelude.{◌≡◌, true, cond, List, [], ◌∷◌, ◌++◌, Option, None, Some, length, slice_get, ℕ}
use Rattle.es_value.specs.declared.value.Value.{Value}
use Rattle.core_ast.specs.declared.parts.CoreHead.TheVariants as head
use Rattle.core_ast.specs.declared.parts.Var.{Var}
use Rattle.core_ast.specs.declared.tree.CoreExpr.{CoreExpr, out-CoreExpr}
use Rattle.core_ast.specs.declared.tree.CoreLink.{CoreLink, out-CoreLink}
use Rattle.core_ast.specs.declared.whole.Core.{Core}
use Rattle.core_meaning.specs.Marks.{CoreState, CoreWork, Mark, value_in}
use Rattle.core_meaning.specs.Modules.{core_step}
use Rattle.core_meaning.specs.Names.{binding_in, record_at}
use Rattle.core_meaning.specs.Rows.{with_control}
use Rattle.core_meaning.specs.State.{Begin, Binding, Environment, EnvironmentRecord, Frame, LoopUpdate, Rest, Restore}
use Rattle.pass_rules.specs.Cells.{is_among, is_shared}
use Rattle.pass_rules.specs.Scopes.{expr_flat}
use Rattle.cells_keep_runs.specs.Begun.{Matched}
use Rattle.cells_keep_runs.specs.Memory.{IsNewest, Seat, Seats}
use Rattle.cells_keep_runs.specs.Opened.{AllApart, write_in}
use Rattle.cells_keep_runs.specs.Related.{Frames, IsThen, Related, Stand}
use Rattle.cells_keep_runs.specs.Renewed.{OwnCell, Renewal, scope_seat}
use Rattle.cells_keep_runs.specs.Seen.{target_at}

-- what the cell of a name of this record has
abbrev pub content_of : Option (Binding Mark) → Option Value
content_of None = None
content_of (Some b) = value_in b.value

abbrev pub content_in : EnvironmentRecord Mark → Var → Option Value
content_in bindings x = content_of (binding_in bindings x)

-- each shared name has a cell of its own then
abbrev pub copy_renewals : List ℕ → (Var → Option Value) → List Var → List Renewal
copy_renewals owners content [] = []
copy_renewals owners content (x ∷ xs) =
    cond (is_shared owners x) (OwnCell x (content x) ∷ copy_renewals owners content xs) (copy_renewals owners content xs)

-- the shared ones of these names are bound
abbrev pub AllBound : List ℕ → EnvironmentRecord Mark → List Var → Type 0
AllBound owners bindings [] = Unit {0}
AllBound owners bindings (x ∷ xs) =
    (is_shared owners x ≡ true → (b : Binding Mark) × (binding_in bindings x ≡ Some b)) × AllBound owners bindings xs

-- The innermost record is that of a scope, and the newest of its names, which the target finds at home. The copy has its shared names, each
-- once.
pub record Copyable (owners : List ℕ) (seats : Seats) (records : List (EnvironmentRecord Mark)) (e : Environment) (n : ℕ) (xs : List Var) : Type 0 where
  pub seat : Seat
  pub seated : slice_get seats n ≡ Some seat
  pub scope : seat.image ≡ None
  pub newest : (x : Var) → is_among x seat.scoped ≡ true → IsNewest seats n x
  pub found : (x : Var) → is_among x seat.scoped ≡ true → target_at seats e x ≡ Some seat.home
  pub listed : (x : Var) → is_among x seat.scoped ≡ true → is_shared owners x ≡ true → is_among x xs ≡ true
  pub bound : AllBound owners (record_at records n) xs
  pub apart : AllApart xs

-- no link writes a shared name
abbrev pub NoWrites : List ℕ → List CoreLink → Type 0
NoWrites owners [] = Unit {0}
NoWrites owners (l ∷ ls) = (write_in owners (out-CoreLink l) ≡ None) × NoWrites owners ls

-- the source is at the end of a scope's statements, or of such a handler's
abbrev pub EndsScope : List (Frame Mark CoreWork) → Type 0
EndsScope (Restore e ∷ fs) = Unit {0}
EndsScope fs = ⊥

-- it stands in the statements of a scope, or in the update of a loop there
abbrev pub InScope : List (Frame Mark CoreWork) → Type 0
InScope (Rest xs ∷ fs) = EndsScope fs
InScope (LoopUpdate l ∷ fs) = InScope fs
InScope fs = ⊥

-- what a copy gives goes on to another expression, or to no link
abbrev pub GoesToThen : List CoreLink → Type 0
GoesToThen [] = Unit {0}
GoesToThen (l ∷ links) = IsThen (out-CoreLink l)

abbrev pub copied_seats : List ℕ → Seats → Seat → EnvironmentRecord Mark → List Var → ℕ → Seats
copied_seats owners seats seat bindings xs k =
    seats ++ scope_seat seat.home seat.scoped k (copy_renewals owners (content_in bindings) xs) ∷ []

-- A copy begins in both machines, and comes to related states, with the new record more; the target has in the place of undefined the last
-- cell that it made.
abbrev pub CopiesBeginAlike : Type 0
CopiesBeginAlike = (core core2 : Core) (owners : List ℕ) (seats : Seats) (x : CoreExpr) (xs : List Var) (n : ℕ) (o : Environment) (s t : CoreState)
    → (out-CoreExpr x).head ≡ head.Copy xs → NoWrites owners (out-CoreExpr x).links → GoesToThen (out-CoreExpr x).links → s.context.environment ≡ n ∷ o
    → (c : Copyable owners seats s.records s.context.environment n xs)
    → InScope s.context.frames → Stand owners seats s t → Frames owners seats s.context.environment s.context.frames t.context.frames
    → Matched (Related owners (copied_seats owners seats c.seat (record_at s.records n) xs (length t.store.cells))) core2
    (core_step core (with_control (Begin x) s)) (with_control (Begin (expr_flat owners x)) t)
