-- What holds of an evaluation under way: what is left of it gives the whole, and each of its turns leaves less to do.
use Rattle.std.proofs.Common.{◌≡◌, ◌+◌, ◌-◌, ◌<◌, ◌≤◌, ℕ, zero, suc, Bool, true, false, cond, List, [], ◌∷◌, ◌++◌, length, Option, None, Some, refl, sym, ap, ◌∙◌, subst, arith}
use Rattle.std.specs.Prelude.{drop, set, slice_get, replicate}
use Rattle.std.proofs.lemmas.Bool.{false≢true}
use Rattle.std.proofs.lemmas.List.{drop_more, length-set}
use Rattle.std.proofs.lemmas.Option.{get_or_from_slice_get, slice_get_within}
use Rattle.module_order.specs.declared.walk.Evaluation.{Evaluation}
use Rattle.module_order.specs.declared.walk.Frame.{Frame}
use Rattle.module_order.specs.declared.walk.Walk.{Walk}
use Rattle.module_order.specs.Order.{evaluated, evaluation_order, is_marked, nothing, one_by_one, ran, requests_of}
use Rattle.module_order.specs.Steps.{begins, begun, continued, entered, frame, gone_on}
use Rattle.module_order.proofs.Marks.{few_marks, marked_waits_no_more, marks_in, one_more_mark, waiting}
use Rattle.module_order.proofs.Unwound.{closed, reached, unwound, unwound-push}

pub record Walks (graph : List (List ℕ)) (entry : ℕ) (w : Walk) : Type 0 where
  pub total : unwound graph (length graph - 1) w.stack w.evaluation ≡ evaluated (length graph) graph entry (nothing (length graph))
  pub size : length w.evaluation.marks ≡ length graph
  pub few : length w.stack ≤ marks_in w.evaluation.marks

-- of a module that is reached
record Reaches (graph : List (List ℕ)) (m : ℕ) (w v : Walk) : Type 0 where
  total : unwound graph (length graph - 1) v.stack v.evaluation ≡ unwound graph (length graph - 1) w.stack (evaluated (length graph - length w.stack) graph m w.evaluation)
  size : length v.evaluation.marks ≡ length graph
  few : length v.stack ≤ marks_in v.evaluation.marks

length-push : {A : Type 0} (xs : List A) (x : A) → length (xs ++ x ∷ []) ≡ suc (length xs)
length-push [] x = refl
length-push (y ∷ xs) x = ap suc (length-push xs x)

reaches : (graph : List (List ℕ)) (m : ℕ) (w : Walk) (b : Bool) → is_marked m w.evaluation ≡ b → length w.evaluation.marks ≡ length graph → length w.stack ≤ marks_in w.evaluation.marks
    → Reaches graph m w (cond b w (begins m w))
reaches graph m w true is size few = record {
  total = reached graph (length graph) (length graph - length w.stack) w.stack m w.evaluation true is (λ isnt. absurd (false≢true (sym isnt))) refl;
  size = size;
  few = few;
}
reaches graph m w false is size few =
    let unmarked : marks_in w.evaluation.marks < length w.evaluation.marks = few_marks w.evaluation.marks m is in
    let one_more : marks_in (set w.evaluation.marks m true) ≡ suc (marks_in w.evaluation.marks) = one_more_mark w.evaluation.marks m is in
    let grown : length (w.stack ++ frame m 0 ∷ []) ≡ suc (length w.stack) = length-push w.stack (frame m 0) in
    record {
      total = reached graph (length graph) (length graph - length w.stack) w.stack m w.evaluation false is (λ _. omega (arith, unmarked, size, few)) refl;
      size = length-set w.evaluation.marks m true ∙ size;
      few = omega (arith, grown, one_more, few);
    }

-- the rest of a module's requests, from one of them on
drop-none : (xs : List ℕ) (i : ℕ) → slice_get xs i ≡ None → drop i xs ≡ []
drop-none [] zero isnt = refl
drop-none [] (suc i) isnt = refl
drop-none (x ∷ xs) zero isnt = absurd (cc)
drop-none (x ∷ xs) (suc i) isnt = drop-none xs i isnt

drop-some : (xs : List ℕ) (i x : ℕ) → slice_get xs i ≡ Some x → drop i xs ≡ x ∷ drop (i + 1) xs
drop-some xs i x is = drop_more xs i x (slice_get_within xs i x is) ∙ ap (λ z. z ∷ drop (i + 1) xs) (get_or_from_slice_get xs i x x is)

module _ (graph : List (List ℕ)) (entry : ℕ) where
  pub begun-walks : Walks graph entry (entered entry (begun (length graph)))
  begun-walks =
      let r : Reaches graph entry (begun (length graph)) (entered entry (begun (length graph)))
      = reaches graph entry (begun (length graph)) (is_marked entry (nothing (length graph))) refl (length-replicate (length graph)) (omega arith) in
      let whole : length graph - 0 ≡ length graph = omega arith in
      record { total = r.total ∙ ap (λ k. evaluated k graph entry (nothing (length graph))) whole; size = r.size; few = r.few }
    where
      length-replicate : (n : ℕ) → length (replicate n false) ≡ n
      length-replicate zero = refl
      length-replicate (suc n) = ap suc (length-replicate n)

  continues : (fs : List Frame) (f : Frame) (e : Evaluation) (r : Option ℕ) → slice_get (requests_of graph f.number) f.next ≡ r
      → Walks graph entry (record { evaluation = e; stack = fs ++ f ∷ [] }) → Walks graph entry (continued f r (record { evaluation = e; stack = fs }))
  unfolding continued
  continues fs f e None is old =
      let grown : length (fs ++ f ∷ []) ≡ suc (length fs) = length-push fs f in
      let rest : closed graph (length graph - 1 - length fs) f e ≡ ran f.number e
      = ap (λ xs. ran f.number (one_by_one (evaluated (length graph - 1 - length fs) graph) xs e)) (drop-none (requests_of graph f.number) f.next is) in
      record {
        total = sym (unwound-push graph (length graph - 1) fs f e ∙ ap (unwound graph (length graph - 1) fs) rest) ∙ old.total;
        size = old.size;
        few = omega (arith, grown, old.few);
      }
  continues fs f e (Some m) is old =
      let g : Frame = frame f.number (f.next + 1) in
      let d : ℕ = length graph - 1 - length fs in
      let grown : length (fs ++ f ∷ []) ≡ suc (length fs) = length-push fs f in
      let as_long : length (fs ++ g ∷ []) ≡ suc (length fs) = length-push fs g in
      let w : Walk = record { evaluation = e; stack = fs ++ g ∷ [] } in
      let r : Reaches graph m w (entered m w) = reaches graph m w (is_marked m e) refl old.size (omega (arith, grown, as_long, old.few)) in
      let depth : length graph - length (fs ++ g ∷ []) ≡ d = omega (arith, as_long) in
      let rest : closed graph d f e ≡ closed graph d g (evaluated d graph m e)
      = ap (λ xs. ran f.number (one_by_one (evaluated d graph) xs e)) (drop-some (requests_of graph f.number) f.next m is) in
      let before : unwound graph (length graph - 1) fs (closed graph d f e) ≡ evaluated (length graph) graph entry (nothing (length graph))
      = sym (unwound-push graph (length graph - 1) fs f e) ∙ old.total in
      record {
        total = r.total
            ∙ ap (λ k. unwound graph (length graph - 1) (fs ++ g ∷ []) (evaluated k graph m e)) depth
            ∙ unwound-push graph (length graph - 1) fs g (evaluated d graph m e)
            ∙ ap (unwound graph (length graph - 1) fs) (sym rest)
            ∙ before;
        size = r.size;
        few = r.few;
      }

  pub next-walks : (w : Walk) (fs : List Frame) (f : Frame) → w.stack ≡ fs ++ f ∷ [] → Walks graph entry w → Walks graph entry (gone_on graph f (record { evaluation = w.evaluation; stack = fs }))
  next-walks w fs f is old =
      continues fs f w.evaluation (slice_get (requests_of graph f.number) f.next) refl
      (subst (λ s. Walks graph entry (record { evaluation = w.evaluation; stack = s })) is old)

  pub walked : (w : Walk) → w.stack ≡ [] → Walks graph entry w → w.evaluation.order ≡ evaluation_order graph entry
  walked w is old = ap (λ (e : Evaluation). e.order) (ap (λ (s : List Frame). unwound graph (length graph - 1) s w.evaluation) (sym is) ∙ old.total)

-- ---- what is left to do

module _ (graph : List (List ℕ)) where
  abbrev left : List Frame → ℕ
  left [] = 0
  left (f ∷ fs) = suc (length (requests_of graph f.number) - f.next) + left fs

  left-push : (fs : List Frame) (f : Frame) → left (fs ++ f ∷ []) ≡ left fs + suc (length (requests_of graph f.number) - f.next)
  left-push [] f = omega arith
  left-push (g ∷ fs) f = omega (arith, left-push fs f)

  abbrev pub to_do : Walk → ℕ
  to_do w = left w.stack + waiting graph w.evaluation.marks

  enters-less : (m : ℕ) (w : Walk) (b : Bool) → is_marked m w.evaluation ≡ b → length w.evaluation.marks ≡ length graph → to_do (cond b w (begins m w)) ≤ to_do w
  enters-less m w true is size = omega arith
  enters-less m w false is size = omega (arith, left-push w.stack (frame m 0), marked_waits_no_more graph w.evaluation.marks m size is)

  continues-less : (fs : List Frame) (f : Frame) (e : Evaluation) (r : Option ℕ) → slice_get (requests_of graph f.number) f.next ≡ r → length e.marks ≡ length graph
      → to_do (continued f r (record { evaluation = e; stack = fs })) < to_do (record { evaluation = e; stack = fs ++ f ∷ [] })
  unfolding continued
  continues-less fs f e None is size = omega (arith, left-push fs f)
  continues-less fs f e (Some m) is size =
      let g : Frame = frame f.number (f.next + 1) in
      let w : Walk = record { evaluation = e; stack = fs ++ g ∷ [] } in
      omega (arith, left-push fs f, left-push fs g, enters-less m w (is_marked m e) refl size, slice_get_within (requests_of graph f.number) f.next m is)

  pub next-less : (entry : ℕ) (w : Walk) (fs : List Frame) (f : Frame) → w.stack ≡ fs ++ f ∷ [] → Walks graph entry w → to_do (gone_on graph f (record { evaluation = w.evaluation; stack = fs })) < to_do w
  next-less entry w fs f is old =
      subst (λ s. to_do (gone_on graph f (record { evaluation = w.evaluation; stack = fs })) < to_do (record { evaluation = w.evaluation; stack = s })) (sym is)
      (continues-less fs f w.evaluation (slice_get (requests_of graph f.number) f.next) refl old.size)
