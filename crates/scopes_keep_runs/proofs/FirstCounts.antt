-- What is left to declare at the beginning of a run.
use Rattle.std.proofs.Common.{◌≡◌, ◌≤◌, ◌<◌, ◌+◌, ℕ, zero, suc, Bool, true, false, ◌&&◌, ◌||◌, List, [], ◌∷◌, Some, length, nat_eq, nat_lt, slice_get, refl, sym, ap, arith, subst, ◌∙◌}
use Rattle.std.specs.Prelude.{if◌then◌else◌}
use Rattle.core_ast.specs.declared.parts.Var.{Var}
use Rattle.core_ast.specs.declared.whole.Core.{Core}
use Rattle.core_ast.specs.declared.whole.CorePart.{CorePart}
use Rattle.core_meaning.specs.Modules.{bodies_of, start}
use Rattle.cells_keep_runs.specs.Entering.{entered, is_this}
use Rattle.cells_keep_runs.specs.Kept.{first_seats, kept_of}
use Rattle.cells_keep_runs.specs.MayBeFlattened.{Whole, whole_of}
use Rattle.cells_keep_runs.specs.Memory.{Keeping, Seat}
use Rattle.cells_keep_runs.specs.Rounds.{activation_at, grouped}
use Rattle.cells_keep_runs.specs.Started.{owners_of, part_seat, part_seats}
use Rattle.scopes_keep_runs.specs.Counts.{AllCounts, CountsOf, HasHome, Single, ahead_least, declared_in}

-- records of modules have no names of scopes
none_entered : (whole : Whole) (kept : Keeping) (table : List ℕ) (n : ℕ) (ps : List CorePart) (a : ℕ) (x : Var) → entered whole (part_seats kept table n ps) a x ≡ false
none_entered whole kept table n [] a x = refl
none_entered whole kept table n (p ∷ ps) a x = ap (λ b. b || entered whole (part_seats kept table (suc n) ps) a x) (no_scope (nat_eq (grouped whole n) a)) ∙ none_entered whole kept table (suc n) ps a x
  where
    no_scope : (b : Bool) → b && false ≡ false
    no_scope true = refl
    no_scope false = refl

homes_of : (kept : Keeping) (table : List ℕ) (n : ℕ) (ps : List CorePart) (h : ℕ) → h < length ps → (seat : Seat) × (slice_get (part_seats kept table n ps) h ≡ Some seat) × (seat.home ≡ n + h)
homes_of kept table n [] h less = absurd (omega arith)
homes_of kept table n (p ∷ ps) zero less = (part_seat kept table n p, refl, omega arith)
homes_of kept table n (p ∷ ps) (suc h) less =
    let fewer : h < length ps = omega arith in
    let at = homes_of kept table (suc n) ps h fewer in
    let home : at.0.home ≡ suc n + h = at.2 in
    (at.0, at.1, omega arith)

if_most : (b c : Bool) → (if b then 1 else 0) + (0 + 0) ≤ 1
if_most true c = omega arith
if_most false c = omega arith

pub counts_first : (core : Core) → AllCounts core (whole_of core) (first_seats core) (start core)
counts_first core = record { names = first_of; homes = home_of }
  where
    first_of : (x : Var) → Single core x → CountsOf (whole_of core) (first_seats core) x (start core)
    first_of x one =
        let whole = whole_of core in
        let seats = first_seats core in
        let least : ahead_least whole seats x ≡ (if nat_lt 0 whole.modules && false then 0 else 1) = ap (λ b. if nat_lt 0 whole.modules && b then 0 else 1) (none_entered whole (kept_of core) (owners_of core) 0 core.parts 0 x) in
        record {
          ahead = subst (λ n. declared_in x (bodies_of core) ≤ n) (sym least) (at_most (nat_lt 0 whole.modules) one.modules);
          fits = λ a. ((tt, tt, if_most (is_this (activation_at whole seats (start core).state.context.environment) a) true), omega arith);
        }
      where
        at_most : (b : Bool) → declared_in x (bodies_of core) ≤ 1 → declared_in x (bodies_of core) ≤ (if b && false then 0 else 1)
        at_most true h = h
        at_most false h = h

    home_of : (h : ℕ) → h < (whole_of core).modules → HasHome (first_seats core) h
    home_of h less =
        let at = homes_of (kept_of core) (owners_of core) 0 core.parts h less in
        let home : at.0.home ≡ 0 + h = at.2 in
        record { seat = at.0; seated = at.1; home = omega arith }
