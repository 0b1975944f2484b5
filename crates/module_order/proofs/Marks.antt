-- Marks, and the requests of modules without one.
use Rattle.std.proofs.Common.{◌≡◌, ◌+◌, ◌<◌, ◌≤◌, ℕ, zero, suc, Bool, true, false, List, [], ◌∷◌, length, refl, sym, ap, arith}
use Rattle.std.specs.Prelude.{get_or, set}
use Rattle.std.proofs.lemmas.Bool.{false≢true}

abbrev pub marks_in : List Bool → ℕ
marks_in [] = 0
marks_in (true ∷ bs) = suc (marks_in bs)
marks_in (false ∷ bs) = marks_in bs

pub one_more_mark : (bs : List Bool) (m : ℕ) → get_or bs m true ≡ false → marks_in (set bs m true) ≡ suc (marks_in bs)
one_more_mark [] m isnt = absurd (false≢true (sym isnt))
one_more_mark (true ∷ bs) zero isnt = absurd (false≢true (sym isnt))
one_more_mark (false ∷ bs) zero isnt = refl
one_more_mark (true ∷ bs) (suc m) isnt = ap suc (one_more_mark bs m isnt)
one_more_mark (false ∷ bs) (suc m) isnt = one_more_mark bs m isnt

at_most_all : (bs : List Bool) → marks_in bs ≤ length bs
at_most_all [] = omega arith
at_most_all (true ∷ bs) = omega (arith, at_most_all bs)
at_most_all (false ∷ bs) = omega (arith, at_most_all bs)

pub few_marks : (bs : List Bool) (m : ℕ) → get_or bs m true ≡ false → marks_in bs < length bs
few_marks [] m isnt = absurd (false≢true (sym isnt))
few_marks (true ∷ bs) zero isnt = absurd (false≢true (sym isnt))
few_marks (false ∷ bs) zero isnt = omega (arith, at_most_all bs)
few_marks (true ∷ bs) (suc m) isnt = omega (arith, few_marks bs m isnt)
few_marks (false ∷ bs) (suc m) isnt = omega (arith, few_marks bs m isnt)

-- the requests of modules without a mark, and one more for each such module
abbrev pub waiting : List (List ℕ) → List Bool → ℕ
waiting [] bs = 0
waiting (rs ∷ graph) [] = 0
waiting (rs ∷ graph) (true ∷ bs) = waiting graph bs
waiting (rs ∷ graph) (false ∷ bs) = suc (length rs) + waiting graph bs

pub marked_waits_no_more : (graph : List (List ℕ)) (bs : List Bool) (m : ℕ) → length bs ≡ length graph → get_or bs m true ≡ false
    → waiting graph bs ≡ suc (length (get_or graph m [])) + waiting graph (set bs m true)
marked_waits_no_more graph [] m same isnt = absurd (false≢true (sym isnt))
marked_waits_no_more [] (b ∷ bs) m same isnt = absurd (omega (arith, same))
marked_waits_no_more (rs ∷ graph) (true ∷ bs) zero same isnt = absurd (false≢true (sym isnt))
marked_waits_no_more (rs ∷ graph) (false ∷ bs) zero same isnt = refl
marked_waits_no_more (rs ∷ graph) (true ∷ bs) (suc m) same isnt = marked_waits_no_more graph bs m (omega (arith, same)) isnt
marked_waits_no_more (rs ∷ graph) (false ∷ bs) (suc m) same isnt = omega (arith, marked_waits_no_more graph bs m (omega (arith, same)) isnt)
