-- The frames of the target, where the source stands in the statements of a scope.
use Rattle.std.proofs.Common.{◌≡◌, ℕ, List, [], ◌∷◌, ◌++◌, sym, subst, ◌⊎◌, inl, inr}
use Rattle.core_ast.specs.declared.tree.CoreLink.{CoreLink}
use Rattle.core_ast.specs.declared.tree.CoreStat.{CoreStat}
use Rattle.core_meaning.specs.Marks.{CoreWork, Mark}
use Rattle.core_meaning.specs.State.{Environment, Frame, Loop, LoopUpdate, Made, Making, Operation, Rest, Restore}
use Rattle.pass_rules.specs.Scopes.{stats_flat}
use Rattle.cells_keep_runs.specs.Alike.{IsPlain}
use Rattle.cells_keep_runs.specs.Copied.{EndsScope, GoesToThen, InScope}
use Rattle.cells_keep_runs.specs.Memory.{IsScope, Seats}
use Rattle.cells_keep_runs.specs.Related.{Drops, DropsHere, Frames, Tail, Waits, WaitsAfter, WaitsBehind, WaitsDelegate, WaitsDelegateDone, WaitsDelegateStart, WaitsDelegateTurn, WaitsDelegateValue, WaitsHeritage, WaitsKeyed, WaitsPrototype, WaitsSpread, WaitsSpreadStep, WaitsSpreadValue, WaitsToStep, WaitsToStore, WaitsYield, a_scope, catching, choice, derived, fetch, finishing, instantiates, loop_body, loop_flat, loop_test, loop_update, matching, no_scope, none, part, pending, plain, prototype, rest, restore, resumes, returning, starts, subject, target, throwing, waiting, waits, waits_for_cell}

-- the frames of both, at the statements of a scope or at the update of a loop there
pub data AtScope (owners : List ℕ) (seats : Seats) (o : Environment) : List (Frame Mark CoreWork) → List (Frame Mark CoreWork) → Type 0 where
  in_body : {e : Environment} {fs fs2 gs : List (Frame Mark CoreWork)} {ys : List CoreStat} (xs xs2 : List CoreStat)
      → Tail owners seats o fs ys e fs2 → Frames owners seats e fs2 gs
      → AtScope owners seats o (Rest xs ∷ Restore o ∷ Rest xs2 ∷ fs) (Rest (stats_flat owners xs ++ (stats_flat owners xs2 ++ ys)) ∷ gs)
  in_update : {fs gs : List (Frame Mark CoreWork)} (l : Loop) → AtScope owners seats o fs gs
      → AtScope owners seats o (LoopUpdate l ∷ fs) (LoopUpdate (loop_flat owners l) ∷ gs)

waits_outside : (w : Waits) (ls : List CoreLink) (fs : List (Frame Mark CoreWork)) → (EndsScope (waiting w ls ∷ fs) ⊎ InScope (waiting w ls ∷ fs)) → ⊥
waits_outside WaitsAfter ls fs (inl h) = h
waits_outside WaitsAfter ls fs (inr h) = h
waits_outside (WaitsBehind v) ls fs (inl h) = h
waits_outside (WaitsBehind v) ls fs (inr h) = h
waits_outside (WaitsKeyed base) ls fs (inl h) = h
waits_outside (WaitsKeyed base) ls fs (inr h) = h
waits_outside (WaitsToStore base k) ls fs (inl h) = h
waits_outside (WaitsToStore base k) ls fs (inr h) = h
waits_outside (WaitsToStep u base k) ls fs (inl h) = h
waits_outside (WaitsToStep u base k) ls fs (inr h) = h
waits_outside (WaitsSpread list) ls fs (inl h) = h
waits_outside (WaitsSpread list) ls fs (inr h) = h
waits_outside (WaitsSpreadStep list it) ls fs (inl h) = h
waits_outside (WaitsSpreadStep list it) ls fs (inr h) = h
waits_outside (WaitsSpreadValue list it) ls fs (inl h) = h
waits_outside (WaitsSpreadValue list it) ls fs (inr h) = h
waits_outside (WaitsHeritage f heritage) ls fs (inl h) = h
waits_outside (WaitsHeritage f heritage) ls fs (inr h) = h
waits_outside WaitsPrototype ls fs (inl h) = h
waits_outside WaitsPrototype ls fs (inr h) = h
waits_outside WaitsYield ls fs (inl h) = h
waits_outside WaitsYield ls fs (inr h) = h
waits_outside (WaitsDelegate it) ls fs (inl h) = h
waits_outside (WaitsDelegate it) ls fs (inr h) = h
waits_outside WaitsDelegateStart ls fs (inl h) = h
waits_outside WaitsDelegateStart ls fs (inr h) = h
waits_outside (WaitsDelegateTurn it kind v) ls fs (inl h) = h
waits_outside (WaitsDelegateTurn it kind v) ls fs (inr h) = h
waits_outside (WaitsDelegateDone it kind v) ls fs (inl h) = h
waits_outside (WaitsDelegateDone it kind v) ls fs (inr h) = h
waits_outside (WaitsDelegateValue kind) ls fs (inl h) = h
waits_outside (WaitsDelegateValue kind) ls fs (inr h) = h

plain_outside : (f : Frame Mark CoreWork) (fs : List (Frame Mark CoreWork)) → IsPlain f → (EndsScope (f ∷ fs) ⊎ InScope (f ∷ fs)) → ⊥
plain_outside (Operation site c) fs is (inl h) = h
plain_outside (Operation site c) fs is (inr h) = h
plain_outside (Making f args new) fs is (inl h) = h
plain_outside (Making f args new) fs is (inr h) = h
plain_outside (Made o) fs is (inl h) = h
plain_outside (Made o) fs is (inr h) = h
plain_outside f fs is h = is

module _ (owners : List ℕ) (seats : Seats) (n : ℕ) (o : Environment) (here : IsScope seats n) where
  same_number : (m : ℕ) (e : Environment) → m ∷ e ≡ n ∷ o → m ≡ n
  same_number m e is = cc

  same_outer : (m : ℕ) (e : Environment) → m ∷ e ≡ n ∷ o → e ≡ o
  same_outer m e is = cc

  -- the end of a scope is no frame of the target's
  no_end : (e : Environment) (fs gs : List (Frame Mark CoreWork)) → EndsScope fs → e ≡ n ∷ o → Frames owners seats e fs gs → ⊥
  no_end e fs gs ends is none = ends
  no_end e fs gs ends is (plain {fs = fs2} {f = f} p r) = plain_outside f fs2 p (inl ends)
  no_end e fs gs ends is (waits {fs = fs2} w ls r) = waits_outside w ls fs2 (inl ends)
  no_end e fs gs ends is (restore {n = m} {e = e2} away r) = away (subst (λ i. IsScope seats i) (sym (same_number m e2 is)) here)
  no_end e fs gs ends is (waits_for_cell x l ls w r) = ends
  no_end e fs gs ends is (part p c r) = ends
  no_end e fs gs ends is (fetch base k p r) = ends
  no_end e fs gs ends is (rest xs tail r) = ends
  no_end e fs gs ends is (choice body cases r) = ends
  no_end e fs gs ends is (subject cases r) = ends
  no_end e fs gs ends is (matching v cases all r) = ends
  no_end e fs gs ends is (loop_test l r) = ends
  no_end e fs gs ends is (loop_body l r) = ends
  no_end e fs gs ends is (loop_update l r) = ends
  no_end e fs gs ends is (target label r) = ends
  no_end e fs gs ends is (returning r) = ends
  no_end e fs gs ends is (throwing r) = ends
  no_end e fs gs ends is (catching x names handler r) = ends
  no_end e fs gs ends is (finishing last r) = ends
  no_end e fs gs ends is (pending c r) = ends
  no_end e fs gs ends is (derived m r) = ends
  no_end e fs gs ends is (instantiates body r) = ends
  no_end e fs gs ends is (prototype body r) = ends
  no_end e fs gs ends is (starts body r) = ends
  no_end e fs gs ends is (resumes m r) = ends

  in_tail : (e e2 : Environment) (xs ys : List CoreStat) (fs fs2 gs : List (Frame Mark CoreWork)) → EndsScope fs → e ≡ n ∷ o → Tail owners seats e fs ys e2 fs2 → Frames owners seats e2 fs2 gs
      → AtScope owners seats o (Rest xs ∷ fs) (Rest (stats_flat owners xs ++ ys) ∷ gs)
  in_tail e e2 xs ys fs fs2 gs ends is no_scope r = absurd (no_end e fs gs ends is r)
  in_tail e e2 xs ys fs fs2 gs ends is (a_scope {n = m} {e = e3} {ys = ys2} {fs = fs3} xs2 scope tail) r =
      let outer : e3 ≡ o = same_outer m e3 is in
      subst (λ a. AtScope owners seats o (Rest xs ∷ Restore a ∷ Rest xs2 ∷ fs3) (Rest (stats_flat owners xs ++ (stats_flat owners xs2 ++ ys2)) ∷ gs)) (sym outer)
      (in_body xs xs2 (subst (λ a. Tail owners seats a fs3 ys2 e2 fs2) outer tail) r)

  pub at_scope : (e : Environment) (fs gs : List (Frame Mark CoreWork)) → InScope fs → e ≡ n ∷ o → Frames owners seats e fs gs → AtScope owners seats o fs gs
  at_scope e fs gs inside is none = absurd inside
  at_scope e fs gs inside is (plain {fs = fs2} {f = f} p r) = absurd (plain_outside f fs2 p (inr inside))
  at_scope e fs gs inside is (waits {fs = fs2} w ls r) = absurd (waits_outside w ls fs2 (inr inside))
  at_scope e fs gs inside is (rest {e = e2} {e2 = e3} {fs = fs2} {fs2 = fs3} {gs = gs2} {ys = ys} xs tail r) = in_tail e2 e3 xs ys fs2 fs3 gs2 inside is tail r
  at_scope e fs gs inside is (loop_update {e = e2} {fs = fs2} {gs = gs2} l r) = in_update l (at_scope e2 fs2 gs2 inside is r)
  at_scope e fs gs inside is (waits_for_cell x l ls w r) = absurd inside
  at_scope e fs gs inside is (part p c r) = absurd inside
  at_scope e fs gs inside is (fetch base k p r) = absurd inside
  at_scope e fs gs inside is (choice body cases r) = absurd inside
  at_scope e fs gs inside is (subject cases r) = absurd inside
  at_scope e fs gs inside is (matching v cases all r) = absurd inside
  at_scope e fs gs inside is (loop_test l r) = absurd inside
  at_scope e fs gs inside is (loop_body l r) = absurd inside
  at_scope e fs gs inside is (target label r) = absurd inside
  at_scope e fs gs inside is (returning r) = absurd inside
  at_scope e fs gs inside is (throwing r) = absurd inside
  at_scope e fs gs inside is (catching x names handler r) = absurd inside
  at_scope e fs gs inside is (finishing last r) = absurd inside
  at_scope e fs gs inside is (pending c r) = absurd inside
  at_scope e fs gs inside is (restore away r) = absurd inside
  at_scope e fs gs inside is (derived m r) = absurd inside
  at_scope e fs gs inside is (instantiates body r) = absurd inside
  at_scope e fs gs inside is (prototype body r) = absurd inside
  at_scope e fs gs inside is (starts body r) = absurd inside
  at_scope e fs gs inside is (resumes m r) = absurd inside

-- what a copy gives is dropped there
drops_here : (fs : List (Frame Mark CoreWork)) → InScope fs → DropsHere fs
drops_here (Rest xs ∷ fs) inside = tt
drops_here (LoopUpdate l ∷ fs) inside = tt
drops_here fs inside = absurd inside

pub drops_then : (fs : List (Frame Mark CoreWork)) (links : List CoreLink) → InScope fs → GoesToThen links → Drops fs links
drops_then fs [] inside goes = drops_here fs inside
drops_then fs (l ∷ links) inside goes = goes
