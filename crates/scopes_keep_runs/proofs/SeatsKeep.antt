-- The seats of modules have what closures keep, and no others do.
use Rattle.std.proofs.Common.{◌≡◌, ℕ, zero, suc, Bool, true, false, ◌||◌, List, [], ◌∷◌, ◌++◌, slice_get, refl}
use Rattle.core_ast.specs.declared.parts.FunctionId.{FunctionId}
use Rattle.core_ast.specs.declared.parts.Var.{Var}
use Rattle.core_ast.specs.declared.whole.Core.{Core}
use Rattle.core_ast.specs.declared.whole.CorePart.{CorePart}
use Rattle.core_meaning.specs.State.{Environment}
use Rattle.pass_rules.specs.Cells.{is_among}
use Rattle.cells_keep_runs.specs.Alike.{Config}
use Rattle.cells_keep_runs.specs.Course.{NewSeats, a_call_more, a_copy_more, a_handler_more, a_scope_more, no_more}
use Rattle.cells_keep_runs.specs.Floors.{AllOf}
use Rattle.cells_keep_runs.specs.Memory.{Keeping, Seat, Seats, keeping_in, kept_along}
use Rattle.cells_keep_runs.specs.Started.{part_seats}
use Rattle.cells_keep_runs.proofs.Floored.{all_more}

abbrev pub SeatKeeps : Keeping → Seat → Type 0
SeatKeeps kept seat = (f : FunctionId) (x : Var) → is_among x (seat.keeps f) ≡ true → is_among x (kept f) ≡ true

abbrev pub AllKeep : Keeping → Seats → Type 0
AllKeep kept seats = AllOf (SeatKeeps kept) seats

pub parts_keep : (kept : Keeping) (table : List ℕ) (n : ℕ) (ps : List CorePart) → AllKeep kept (part_seats kept table n ps)
parts_keep kept table n [] = tt
parts_keep kept table n (p ∷ ps) = (λ f x is. is, parts_keep kept table (suc n) ps)

pub one_keeps : (kept : Keeping) (seats : Seats) (new : Seat) → ((f : FunctionId) (x : Var) → is_among x (new.keeps f) ≡ false) → AllKeep kept seats → AllKeep kept (seats ++ new ∷ [])
one_keeps kept seats new none all = all_more (SeatKeeps kept) seats new all (λ f x is. absurd (differ1 (is_among x (new.keeps f)) is (none f x)))
  where
    differ1 : (b : Bool) → b ≡ true → b ≡ false → ⊥
    differ1 b is isnt = cc

pub new_keep : (core : Core) (kept : Keeping) (owners : List ℕ) (seats : Seats) (s t : Config) (seats2 : Seats) → NewSeats core kept owners seats s t seats2 → AllKeep kept seats → AllKeep kept seats2
new_keep core kept owners seats s t seats2 no_more all = all
new_keep core kept owners seats s t seats2 (a_scope_more x xs body names r is out) all = one_keeps kept seats _ (λ f x. refl) all
new_keep core kept owners seats s t seats2 (a_copy_more x xs r is head_is) all = one_keeps kept seats _ (λ f x. refl) all
new_keep core kept owners seats s t seats2 (a_call_more c r behind is at) all = one_keeps kept seats _ (λ f x. refl) all
new_keep core kept owners seats s t seats2 (a_handler_more v x names handler fs r is frames) all = one_keeps kept seats _ (λ f x. refl) all

-- so closures keep no cells of other names
pub keeps_along : (kept : Keeping) (seats : Seats) → AllKeep kept seats → (e : Environment) (f : FunctionId) (x : Var) → kept_along seats e f x ≡ true → is_among x (kept f) ≡ true
keeps_along kept seats all [] f x along = cc
keeps_along kept seats all (n ∷ e) f x along = by_here (is_among x (keeping_in (slice_get seats n) f)) refl along (λ further. keeps_along kept seats all e f x further)
  where
    in_seat : (rest : Seats) (m : ℕ) → AllKeep kept rest → is_among x (keeping_in (slice_get rest m) f) ≡ true → is_among x (kept f) ≡ true
    in_seat [] m all is = cc
    in_seat (seat ∷ rest) zero (here, all) is = here f x is
    in_seat (seat ∷ rest) (suc m) (here, all) is = in_seat rest m all is

    by_here : (b : Bool) → is_among x (keeping_in (slice_get seats n) f) ≡ b → b || kept_along seats e f x ≡ true → (kept_along seats e f x ≡ true → is_among x (kept f) ≡ true) → is_among x (kept f) ≡ true
    by_here true is h on = in_seat seats n all is
    by_here false is h on = on h
