-- A new home is that of no record before: so all contexts are of other activations than that of a call.
use Rattle.std.proofs.Common.{◌≡◌, ◌≤◌, ◌<◌, ℕ, zero, suc, Bool, true, false, ◌&&◌, ◌||◌, List, [], ◌∷◌, Option, None, Some, nat_eq, nat_lt, slice_get, refl, sym, ap, arith, ◌∙◌}
use Rattle.std.specs.Prelude.{if◌then◌else◌}
use Rattle.std.proofs.lemmas.Bool.{eqb-true, le-ltb}
use Rattle.core_ast.specs.declared.parts.Var.{Var}
use Rattle.core_meaning.specs.Marks.{AtStart, AtYield, Completed, CoreState, Executing, Generator}
use Rattle.core_meaning.specs.State.{Environment}
use Rattle.cells_keep_runs.specs.Counted.{Contexts1, bottom}
use Rattle.cells_keep_runs.specs.Entering.{AllElsewhere, AllGeneratorsElsewhere, entered}
use Rattle.cells_keep_runs.specs.MayBeFlattened.{Whole}
use Rattle.cells_keep_runs.specs.Memory.{Seat, Seats, is_scoped}
use Rattle.cells_keep_runs.specs.Rounds.{activation_at, grouped, grouped_in, home_in}
use Rattle.cells_keep_runs.proofs.Floored.{some_is}
use Rattle.scopes_keep_runs.specs.Counts.{HasHome}
use Rattle.scopes_keep_runs.proofs.Limits.{Elsewhere}

module _ (whole : Whole) (seats : Seats) (h : ℕ) (homes : (n : ℕ) (here : Seat) → slice_get seats n ≡ Some here → here.home < h) (modules : (i : ℕ) → i < whole.modules → HasHome seats i) where
  pub modules_below : whole.modules ≤ h
  modules_below = by_count whole.modules refl
    where
      by_count : (m : ℕ) → whole.modules ≡ m → whole.modules ≤ h
      by_count zero is = omega arith
      by_count (suc m) is =
          let less : m < whole.modules = omega arith in
          let at = modules m less in
          let low : at.seat.home < h = homes m at.seat at.seated in
          let same : at.seat.home ≡ m = at.home in
          omega arith

  pub past_modules : nat_lt h whole.modules ≡ false
  past_modules = le-ltb h whole.modules modules_below

  pub group_is : grouped whole h ≡ h
  group_is = ap (λ b. if b then 0 else h) past_modules

  other_group : (m : ℕ) → m < h → grouped whole m ≡ grouped whole h → ⊥
  other_group m low same = by_less (nat_lt m whole.modules) refl
    where
      by_less : (b : Bool) → nat_lt m whole.modules ≡ b → ⊥
      by_less true is =
          let zero_is : grouped whole m ≡ 0 = ap (λ c. if c then 0 else m) is in
          let h_is : h ≡ 0 = sym group_is ∙ sym same ∙ zero_is in
          absurd (omega arith)
      by_less false is =
          let own : grouped whole m ≡ m = ap (λ c. if c then 0 else m) is in
          let h_is : h ≡ m = sym group_is ∙ sym same ∙ own in
          absurd (omega arith)

  pub differs : (n : ℕ) (here : Seat) → slice_get seats n ≡ Some here → grouped whole here.home ≡ grouped whole h → ⊥
  differs n here got same = other_group here.home (homes n here got) same

  pub elsewhere : (e : Environment) → activation_at whole seats e ≡ Some (grouped whole h) → ⊥
  elsewhere [] is = cc
  elsewhere (n ∷ e) is = by_seat (slice_get seats n) refl is
    where
      by_seat : (o : Option Seat) → slice_get seats n ≡ o → grouped_in whole (home_in o) ≡ Some (grouped whole h) → ⊥
      by_seat None got is = cc
      by_seat (Some here) got is = differs n here got (some_is (grouped whole here.home) (grouped whole h) is)

  contexts_away : (ks : Contexts1) → AllElsewhere whole seats (grouped whole h) ks
  contexts_away [] = tt
  contexts_away (k ∷ ks) = (elsewhere (bottom k.environment k.frames), contexts_away ks)

  generators_away : (gs : List Generator) → AllGeneratorsElsewhere whole seats (grouped whole h) gs
  generators_away [] = tt
  generators_away (AtStart k ∷ gs) = (elsewhere (bottom k.environment k.frames), generators_away gs)
  generators_away (AtYield k ∷ gs) = (elsewhere (bottom k.environment k.frames), generators_away gs)
  generators_away (Executing ∷ gs) = (tt, generators_away gs)
  generators_away (Completed ∷ gs) = (tt, generators_away gs)

  pub all_away : (st : CoreState) → Elsewhere whole seats (grouped whole h) st
  all_away st = (contexts_away st.callers, generators_away st.store.generators)

-- no record of the activation has a name
pub none_entered_in : (whole : Whole) (a : ℕ) (x : Var) (rest : Seats) → ((n : ℕ) (here : Seat) → slice_get rest n ≡ Some here → grouped whole here.home ≡ a → ⊥) → entered whole rest a x ≡ false
none_entered_in whole a x [] other = refl
none_entered_in whole a x (seat ∷ rest) other = by_group (nat_eq (grouped whole seat.home) a) refl (none_entered_in whole a x rest (λ n here got same. other (suc n) here got same))
  where
    by_group : (b : Bool) → nat_eq (grouped whole seat.home) a ≡ b → entered whole rest a x ≡ false → (b && is_scoped seat x) || entered whole rest a x ≡ false
    by_group true is none = absurd (other zero seat refl (eqb-true (grouped whole seat.home) a is))
    by_group false is none = none
