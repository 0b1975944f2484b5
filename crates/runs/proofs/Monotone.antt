-- Doing the same by a relation of events is doing the same by each that holds of more pairs.
use Rattle.std.proofs.Common.{List, [], ◌∷◌}
use Rattle.runs.specs.Run.{View, trace, Behaviour}
use Rattle.runs.specs.Same.{Agree, IsFront, converse, Shows, shown_running, shown_waiting, shown_over, nothing_shown, Explains, only_part, both_waiting, both_over, left_before, Same, composed}
use Rattle.runs.proofs.Composed.{same_trans}

module _ {E F : Type 0} (R S : E → F → Type 0) (wider : (e : E) (f : F) → R e f → S e f) where
  agree_wider : (es : List E) (fs : List F) → Agree R es fs → Agree S es fs
  agree_wider [] [] a = tt
  agree_wider [] (f ∷ fs) a = absurd a
  agree_wider (e ∷ es) [] a = absurd a
  agree_wider (e ∷ es) (f ∷ fs) a = (wider e f a.0, agree_wider es fs a.1)

  front_wider : (es : List E) (fs : List F) → IsFront R es fs → IsFront S es fs
  front_wider [] fs a = tt
  front_wider (e ∷ es) [] a = absurd a
  front_wider (e ∷ es) (f ∷ fs) a = (wider e f a.0, front_wider es fs a.1)

  front_wider_back : (fs : List F) (es : List E) → IsFront (converse R) fs es → IsFront (converse S) fs es
  front_wider_back [] es a = tt
  front_wider_back (f ∷ fs) [] a = absurd a
  front_wider_back (f ∷ fs) (e ∷ es) a = (wider e f a.0, front_wider_back fs es a.1)

  module _ {O L M : Type 0} where
    shows_wider : {a : View E O L} {b : View F O M} → Shows R a b → Shows S a b
    shows_wider (shown_running {es = es} {fs = fs} x) = shown_running (agree_wider es fs x)
    shows_wider (shown_waiting {es = es} {fs = fs} x) = shown_waiting (agree_wider es fs x)
    shows_wider (shown_over {es = es} {fs = fs} x) = shown_over (agree_wider es fs x)
    shows_wider nothing_shown = nothing_shown

    explains_wider : {a : View E O L} {b : View F O M} → Explains R a b → Explains S a b
    explains_wider (only_part {source = a} {fs = fs} x) = only_part (front_wider_back fs (trace a) x)
    explains_wider (both_waiting {es = es} {fs = fs} x) = both_waiting (agree_wider es fs x)
    explains_wider (both_over {es = es} {fs = fs} x) = both_over (agree_wider es fs x)
    explains_wider (left_before {es = es} {target = b} x) = left_before (front_wider es (trace b) x)

    module _ {A : Type 0} where
      pub same_wider : (a : Behaviour E A O L) (b : Behaviour F A O M) → Same R a b → Same S a b
      same_wider a b x = record {
        follows = λ ans n. let (m, p) = x.follows ans n in (m, shows_wider p);
        no_more = λ ans m. let (n, p) = x.no_more ans m in (n, explains_wider p);
      }

-- a chain of two, by each relation that holds of an event and one to which the first two lead from it
pub same_chain : {E F G A O L M N : Type 0} (R : E → F → Type 0) (S : F → G → Type 0) (T : E → G → Type 0) → ((e : E) (f : F) (g : G) → R e f → S f g → T e g) → (a : Behaviour E A O L) (b : Behaviour F A O M) (c : Behaviour G A O N) → Same R a b → Same S b c → Same T a c
same_chain R S T leads a b c x y = same_wider (composed R S) T (λ e g related. leads e related.0 g related.1 related.2) a c (same_trans R S a b c x y)
