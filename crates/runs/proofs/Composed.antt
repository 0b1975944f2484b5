-- A machine does what it does itself, and doing the same composes.
use Rattle.std.proofs.Common.{◌≡◌, List, [], ◌∷◌, refl, ◌⊎◌, inl, inr}
use Rattle.runs.specs.Run.{View, Running, Waits, Over, Left, trace, Behaviour}
use Rattle.runs.specs.Same.{Agree, IsFront, converse, Shows, shown_running, shown_waiting, shown_over, nothing_shown, Explains, only_part, both_waiting, both_over, left_before, Same, composed}

agree-refl : {E : Type 0} (es : List E) → Agree (λ (a b : E). a ≡ b) es es
agree-refl [] = tt
agree-refl (e ∷ es) = (refl, agree-refl es)

pub front-refl : {E : Type 0} (es : List E) → IsFront (λ (a b : E). a ≡ b) es es
front-refl [] = tt
front-refl (e ∷ es) = (refl, front-refl es)

front-refl-converse : {E : Type 0} (es : List E) → IsFront (converse (λ (a b : E). a ≡ b)) es es
front-refl-converse [] = tt
front-refl-converse (e ∷ es) = (refl, front-refl-converse es)

shows-refl : {E O L : Type 0} (v : View E O L) → Shows (λ (a b : E). a ≡ b) v v
shows-refl (Running t) = shown_running (agree-refl t)
shows-refl (Waits t) = shown_waiting (agree-refl t)
shows-refl (Over t o) = shown_over (agree-refl t)
shows-refl (Left t x) = nothing_shown

explains-refl : {E O L : Type 0} (v : View E O L) → Explains (λ (a b : E). a ≡ b) v v
explains-refl (Running t) = only_part (front-refl-converse t)
explains-refl (Waits t) = both_waiting (agree-refl t)
explains-refl (Over t o) = both_over (agree-refl t)
explains-refl (Left t x) = left_before (front-refl t)

pub same-refl : {E A O L : Type 0} (b : Behaviour E A O L) → Same (λ (x y : E). x ≡ y) b b
same-refl b = record {
  follows = λ ans n. (n, shows-refl (b ans n));
  no_more = λ ans n. (n, explains-refl (b ans n));
}

module _ {E F G : Type 0} (R : E → F → Type 0) (S : F → G → Type 0) where
  agree_trans : (es : List E) (fs : List F) (gs : List G) → Agree R es fs → Agree S fs gs → Agree (composed R S) es gs
  agree_trans [] [] [] a b = tt
  agree_trans [] [] (g ∷ gs) a b = absurd b
  agree_trans [] (f ∷ fs) gs a b = absurd a
  agree_trans (e ∷ es) [] gs a b = absurd a
  agree_trans (e ∷ es) (f ∷ fs) [] a b = absurd b
  agree_trans (e ∷ es) (f ∷ fs) (g ∷ gs) a b = ((f, a.0, b.0), agree_trans es fs gs a.1 b.1)

  -- a front of a front, as the source has it
  front_trans : (es : List E) (fs : List F) (gs : List G) → IsFront R es fs → IsFront S fs gs → IsFront (composed R S) es gs
  front_trans [] fs gs a b = tt
  front_trans (e ∷ es) [] gs a b = absurd a
  front_trans (e ∷ es) (f ∷ fs) [] a b = absurd b
  front_trans (e ∷ es) (f ∷ fs) (g ∷ gs) a b = ((f, a.0, b.0), front_trans es fs gs a.1 b.1)

  -- the same from the target's side
  front_trans_back : (gs : List G) (fs : List F) (es : List E) → IsFront (converse S) gs fs → IsFront (converse R) fs es → IsFront (converse (composed R S)) gs es
  front_trans_back [] fs es a b = tt
  front_trans_back (g ∷ gs) [] es a b = absurd a
  front_trans_back (g ∷ gs) (f ∷ fs) [] a b = absurd b
  front_trans_back (g ∷ gs) (f ∷ fs) (e ∷ es) a b = ((f, b.0, a.0), front_trans_back gs fs es a.1 b.1)

  agree-front : (es : List E) (fs : List F) → Agree R es fs → IsFront R es fs
  agree-front [] fs a = tt
  agree-front (e ∷ es) [] a = absurd a
  agree-front (e ∷ es) (f ∷ fs) a = (a.0, agree-front es fs a.1)

  agree-front_back : (es : List E) (fs : List F) → Agree R es fs → IsFront (converse R) fs es
  agree-front_back es [] a = tt
  agree-front_back [] (f ∷ fs) a = absurd a
  agree-front_back (e ∷ es) (f ∷ fs) a = (a.0, agree-front_back es fs a.1)

  agree-front2 : (fs : List F) (gs : List G) → Agree S fs gs → IsFront S fs gs
  agree-front2 [] gs a = tt
  agree-front2 (f ∷ fs) [] a = absurd a
  agree-front2 (f ∷ fs) (g ∷ gs) a = (a.0, agree-front2 fs gs a.1)

  -- of two fronts of one list, one is a front of the other
  fronts_compare : (es : List E) (gs : List G) (fs : List F) → IsFront R es fs → IsFront (converse S) gs fs → IsFront (converse (composed R S)) gs es ⊎ IsFront (composed R S) es gs
  fronts_compare es [] fs a b = inl tt
  fronts_compare [] (g ∷ gs) fs a b = inr tt
  fronts_compare (e ∷ es) (g ∷ gs) [] a b = absurd a
  fronts_compare (e ∷ es) (g ∷ gs) (f ∷ fs) a b = on_rest (fronts_compare es gs fs a.1 b.1)
    where
      on_rest : IsFront (converse (composed R S)) gs es ⊎ IsFront (composed R S) es gs → IsFront (converse (composed R S)) (g ∷ gs) (e ∷ es) ⊎ IsFront (composed R S) (e ∷ es) (g ∷ gs)
      on_rest (inl x) = inl ((f, a.0, b.0), x)
      on_rest (inr y) = inr ((f, a.0, b.0), y)

  module _ {O L M N : Type 0} where
    shows_trans : {a : View E O L} {b : View F O M} {c : View G O N} → Shows R a b → Shows S b c → Shows (composed R S) a c
    shows_trans (shown_running {es = es} {fs = fs} x) (shown_running {fs = gs} y) = shown_running (agree_trans es fs gs x y)
    shows_trans (shown_waiting {es = es} {fs = fs} x) (shown_waiting {fs = gs} y) = shown_waiting (agree_trans es fs gs x y)
    shows_trans (shown_over {es = es} {fs = fs} x) (shown_over {fs = gs} y) = shown_over (agree_trans es fs gs x y)
    shows_trans nothing_shown y = nothing_shown

    only_part_trans : (a : View E O L) (b : View F O M) (gs : List G) → Explains R a b → IsFront (converse S) gs (trace b) → Explains {M = N} (composed R S) a (Running gs)
    only_part_trans a b gs (only_part {fs = fs} x) y = only_part (front_trans_back gs fs (trace a) y x)
    only_part_trans a b gs (both_waiting {es = es} {fs = fs} x) y = only_part (front_trans_back gs fs es y (agree-front_back es fs x))
    only_part_trans a b gs (both_over {es = es} {fs = fs} x) y = only_part (front_trans_back gs fs es y (agree-front_back es fs x))
    only_part_trans a b gs (left_before {es = es} {exit = exit} x) y = by_length (fronts_compare es gs (trace b) x y)
      where
        by_length : IsFront (converse (composed R S)) gs es ⊎ IsFront (composed R S) es gs → Explains {O = O} {L = L} {M = N} (composed R S) (Left es exit) (Running gs)
        by_length (inl p) = only_part p
        by_length (inr p) = left_before p

    explains_trans : {a : View E O L} {b : View F O M} {c : View G O N} → Explains R a b → Explains S b c → Explains (composed R S) a c
    explains_trans {a = a} {b = b} x (only_part {fs = gs} y) = only_part_trans a b gs x y
    explains_trans (both_waiting {es = es} {fs = fs} x) (both_waiting {fs = gs} y) = both_waiting (agree_trans es fs gs x y)
    explains_trans (left_before {es = es} x) (both_waiting {es = fs} {fs = gs} y) = left_before (front_trans es fs gs x (agree-front2 fs gs y))
    explains_trans (both_over {es = es} {fs = fs} x) (both_over {fs = gs} y) = both_over (agree_trans es fs gs x y)
    explains_trans (left_before {es = es} x) (both_over {es = fs} {fs = gs} y) = left_before (front_trans es fs gs x (agree-front2 fs gs y))
    explains_trans (left_before {es = es} x) (left_before {es = fs} {target = c} y) = left_before (front_trans es fs (trace c) x y)

    module _ {A : Type 0} where
      pub same_trans : (a : Behaviour E A O L) (b : Behaviour F A O M) (c : Behaviour G A O N) → Same R a b → Same S b c → Same (composed R S) a c
      same_trans a b c x y = record {
        follows = λ ans n. let (m, p) = x.follows ans n in let (k, q) = y.follows ans m in (k, shows_trans p q);
        no_more = λ ans k. let (m, q) = y.no_more ans k in let (n, p) = x.no_more ans m in (n, explains_trans p q);
      }
