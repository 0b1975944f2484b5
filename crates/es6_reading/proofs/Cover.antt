-- All laws of the expressions that patterns and parameters come from.
use Rattle.std.proofs.Common.{◌≡◌, ℕ, zero, suc, ◌≤◌, Bool, true, false, ◌&&◌, List, Option, refl, sym, ap, ◌∙◌, arith}
use Rattle.std.proofs.lemmas.Bool.{true≢false}
use Rattle.std.specs.Prelude.{is_none}
use Rattle.es6_ast.specs.declared.operators.AssignOperator.{AssignOperator}
use Rattle.es6_ast.specs.declared.operators.AssignOperator.TheVariants as assign
use Rattle.es6_ast.specs.declared.tree.Expression.{Expression, out-Expression}
use Rattle.es6_ast.specs.declared.tree.Pattern.{Pattern}
use Rattle.es6_ast.specs.declared.tree.Pattern.TheVariants as pattern
use Rattle.es6_ast.specs.declared.tree.Argument.TheOpen as layer
use Rattle.es6_ast.specs.declared.tree.Argument.TheOpen.{Expression-F}
use Rattle.es6_ast.specs.declared.settings.Flags.{Flags}
use Rattle.es6_ast.specs.Tokens.{Filled}
use Rattle.es6_ast.specs.Targets.{as_target, is_pattern, misfit}
use Rattle.es6_ast.specs.Grammar as g
use Rattle.es6_ast.specs.Grammar.{is_plain, level_left_hand_side, IsExpression, IsAssigned}
use Rattle.es6_ast.specs.Spans.{Open}
use Rattle.es6_reading.specs.Refine.{Refined, Fits, Misfit, TooNested, refined_map, simple, refine, refine_pattern, refine_part, else_itself, target_before}
use Rattle.es6_reading.specs.Refinements.{Places, no_misfit, first_misfit_at, too_deep, ComesFrom, ComeFromExpressions}
use Rattle.es6_reading.proofs.RefineTargetOf.{layer_target, as_target-is}
use Rattle.es6_reading.proofs.RefineTargets.{reads_part, IsAlone, target-alone}
use Rattle.es6_reading.proofs.RefineMisfits.{places}
use Rattle.es6_reading.proofs.RefineDepth.{target-settles}
use Rattle.es6_reading.proofs.Enough.{Sure, Settled, Settles}
use Rattle.es6_reading.proofs.Covers.{target-from, part-from}
use Rattle.es6_reading.proofs.CoverParameters.{arrow-from}

-- ## What stands before `=` by itself

literal-layer : (l : Open Expression-F) → (layer_target l).literal ≡ false → IsAlone l
literal-layer (layer.ArrayList span elements comma) h = absurd (true≢false h)
literal-layer (layer.ObjectList span properties) h = absurd (true≢false h)
literal-layer l h = tt

itself-alone : (y : Expression) (r : Refined (Unit {0})) → Settled (refined_map (λ u. pattern.Target y) r) → else_itself y (refined_map (λ u. pattern.Target y) r) ≡ Fits (pattern.Target y)
itself-alone y (Fits u) s = refl
itself-alone y (Misfit at) s = refl
itself-alone y TooNested s = absurd s

itself-misfit : (y : Expression) {m : Option ℕ} {r : Refined Pattern} → Places m r → is_none m ≡ false → Settled r → else_itself y r ≡ Fits (pattern.Target y)
itself-misfit y (no_misfit e) h s = absurd (true≢false (sym (ap is_none e) ∙ h))
itself-misfit y (first_misfit_at e) h s = refl
itself-misfit y too_deep h s = absurd s

itself : (y : Expression) (b : Bool) → (as_target y).literal ≡ b → (b && is_none (misfit y)) ≡ false → (n : ℕ) → Settled (refine false (suc n) y) → else_itself y (refine false (suc n) y) ≡ Fits (pattern.Target y)
itself y true e h n s = itself-misfit y (places (suc n) y) h s
itself y false e h n s =
    let k : refine false (suc n) y ≡ refined_map (λ u. pattern.Target y) (simple n y) = target-alone false n (refine false n) (reads_part false n) y (out-Expression y) (literal-layer (out-Expression y) (sym (ap (λ a. a.literal) (as_target-is y)) ∙ e)) in
    ap (λ r. else_itself y r) k ∙ itself-alone y (simple n y) (settled-as k s)
  where
    settled-as : {r q : Refined Pattern} → r ≡ q → Settled r → Settled q
    settled-as e s = rw (sym e) s

pub itself-sure : {f : Flags} {ts us : List Filled} {y : Expression} → IsExpression f level_left_hand_side ts y us → is_pattern y ≡ false → Sure (λ n. else_itself y (refine false n y)) (pattern.Target y)
itself-sure {y = y} d h = let s = target-settles d in record { enough = suc s.enough; refined = at s }
  where
    none : (k : ℕ) → suc k ≤ zero → ⊥
    none k l = omega arith

    less : (k n : ℕ) → suc k ≤ suc n → k ≤ suc n
    less k n l = omega arith

    at : (s : Settles (λ n. refine false n y)) (n : ℕ) → suc s.enough ≤ n → else_itself y (refine false n y) ≡ Fits (pattern.Target y)
    at s zero l = absurd (none s.enough l)
    at s (suc n) l = itself y (as_target y).literal refl h n (s.settled (suc n) (less s.enough n l))

pub updated : (operator : AssignOperator) (n : ℕ) (y : Expression) → is_plain operator ≡ false → target_before n operator y ≡ Fits (pattern.Target y)
unfolding target_before
updated assign.Assign n y h = absurd (true≢false h)
updated operator n y h = refl

assigned-from : (f : Flags) (operator : AssignOperator) (ts us : List Filled) (p : Pattern) → IsAssigned f operator ts p us → ComesFrom (λ x. IsExpression f level_left_hand_side ts x us) (λ n. target_before n operator) p
unfolding target_before refine_pattern
assigned-from f operator ts us p (g.assigned_pattern x d) =
    let t = target-from false f (g.nested_pattern x d) in
    record { value = t.value; spelled = t.derived; enough = t.sure.enough; becomes = λ n l. ap (λ r. else_itself t.value r) (t.sure.refined n l) }
assigned-from f operator ts us p (g.assigned_target y x d h e) =
    let s = itself-sure d h in
    record { value = y; spelled = d; enough = s.enough; becomes = λ n l. s.refined n l ∙ ap Fits (sym e) }
assigned-from f operator ts us p (g.updated_target op y x h d e) = record { value = y; spelled = d; enough = 0; becomes = λ n l. updated operator n y h ∙ ap Fits (sym e) }

pub cover : ComeFromExpressions
unfolding refine_pattern refine_part
cover = record {
  targets = λ f ts us p d. let t = target-from false f d in record { value = t.value; spelled = t.derived; enough = t.sure.enough; becomes = t.sure.refined };
  parts = λ f ts us q d. let x = part-from true f d in record { value = x.value; spelled = x.derived; enough = x.sure.enough; becomes = x.sure.refined };
  assigned = assigned-from;
  parameters = arrow-from;
}
