-- What is answered of an expression, by the laws of the model.
use Rattle.std.proofs.Common.{◌≡◌, ◌⊎◌, inl, inr, ℕ, zero, suc, ◌+◌, ◌-◌, ◌≤◌, Bool, true, false, List, Option, Some, None, refl, sym, ap, subst, ◌∙◌, arith}
use Rattle.std.proofs.lemmas.Bool.{true≢false, cases_lt}
use Rattle.es6_ast.specs.declared.tree.Expression.{Expression}
use Rattle.es6_ast.specs.declared.tree.Parameter.{Parameter}
use Rattle.es6_ast.specs.declared.tree.Pattern.{Pattern}
use Rattle.es6_ast.specs.declared.tree.Pattern.TheVariants as pattern
use Rattle.es6_ast.specs.declared.operators.AssignOperator.{AssignOperator}
use Rattle.es6_ast.specs.declared.operators.AssignOperator.TheVariants as assign
use Rattle.es6_ast.specs.declared.settings.Shape.TheVariants.{Bare}
use Rattle.es6_ast.specs.Targets.{misfit}
use Rattle.es6_reading.specs.Refine.{Refined, Fits, Misfit, TooNested, else_itself, refine_pattern, refine_parameters, target_before}
use Rattle.es6_reading.specs.Refinements.{IfFits, fits, misfits, too_nested, Places, no_misfit, first_misfit_at, too_deep}
use Rattle.es6_reading.proofs.Follows.{plus}
use Rattle.es6_reading.proofs.RefineMore.{Kept, as_it_was, was_too_nested, kept-parameters-before}
use Rattle.es6_reading.proofs.Refinement.{refinement}
use Rattle.es6_refine.specs.declared.fit.Fit.{Fit}
use Rattle.es6_refine.specs.declared.fit.Fit.TheVariants as fit
use Rattle.es6_trees.specs.Built as built
use Rattle.es6_trees.specs.Built.{Becomes}
use Rattle.es6_refine.specs.Fitting.{fit_of, is_fitting}
use Rattle.es6_trees.specs.Refines.{deepest, AreParametersIn, IsPatternIn}

-- ## What the walk found

abbrev place_of : Fit → ℕ
place_of fit.Fits = 0
place_of (fit.Misfit at) = at
place_of fit.TooNested = 0

abbrev is_nested : Fit → Bool
is_nested fit.Fits = false
is_nested (fit.Misfit at) = false
is_nested fit.TooNested = true

pub it_fits : {A : Type 0} {r : Refined A} {x : A} → fit_of r ≡ fit.Fits → Becomes r x → r ≡ Fits x
it_fits e built.fits_so = refl
it_fits e built.misfits = absurd (true≢false (sym (ap is_fitting e)))
it_fits e built.too_nested = absurd (true≢false (sym (ap is_fitting e)))

pub it_misfits : {A : Type 0} (r : Refined A) {at : ℕ} → fit_of r ≡ fit.Misfit at → r ≡ Misfit at
it_misfits (Fits x) e = absurd (true≢false (ap is_fitting e))
it_misfits (Misfit place) e = ap Misfit (ap place_of e)
it_misfits TooNested e = absurd (true≢false (ap is_nested e))

pub it_nests : {A : Type 0} (r : Refined A) → fit_of r ≡ fit.TooNested → r ≡ TooNested
it_nests (Fits x) e = absurd (true≢false (ap is_fitting e))
it_nests (Misfit place) e = absurd (true≢false (sym (ap is_nested e)))
it_nests TooNested e = refl

-- ## The laws

same-fit : {A : Type 0} {y z : A} → Fits y ≡ Fits z → y ≡ z
same-fit e = cc

fit-is : {A : Type 0} {Q : A → Type 0} {r : Refined A} {x : A} → r ≡ Fits x → IfFits Q r → Q x
fit-is {Q = Q} e (fits h) = subst Q (same-fit e) h
fit-is e misfits = absurd (cc)
fit-is e too_nested = absurd (cc)

none-misfits : {A : Type 0} {m : Option ℕ} {r : Refined A} {x : A} → r ≡ Fits x → Places m r → m ≡ None
none-misfits e (no_misfit h) = h
none-misfits e (first_misfit_at h) = absurd (cc)
none-misfits e too_deep = absurd (cc)

one-misfits : {A : Type 0} {m : Option ℕ} {r : Refined A} {at : ℕ} → r ≡ Misfit at → Places m r → m ≡ Some at
one-misfits e (no_misfit h) = absurd (cc)
one-misfits e (first_misfit_at h) = cc
one-misfits e too_deep = absurd (cc)

pub pattern_in : (x : Expression) (p : Pattern) → refine_pattern deepest x ≡ Fits p → IsPatternIn x p
pattern_in x p e = record {
  spelled = λ f least ts us d. fit-is e (refinement.targets deepest f least ts us x d);
  fits = none-misfits e (refinement.places deepest x);
  refined = e;
}

pub misfit_in : (n : ℕ) (x : Expression) (at : ℕ) → refine_pattern n x ≡ Misfit at → misfit x ≡ Some at
misfit_in n x at e = one-misfits e (refinement.places n x)

pub parameters_in : (x : Expression) (es : List Parameter) → refine_parameters deepest x ≡ Fits es → AreParametersIn x es
parameters_in x es e = record {
  spelled = λ f least ts us d. fit-is e (refinement.parameters deepest f least ts us x d);
  covered = λ f ts us d. fit-is e (refinement.covered deepest f ts us x d);
  refined = e;
}

-- ## Before an assignment operator

pub before_fits : (n : ℕ) (x : Expression) (p : Pattern) → refine_pattern n x ≡ Fits p → target_before n assign.Assign x ≡ Fits p
unfolding target_before
before_fits n x p e = ap (else_itself x) e

pub before_misfits : (n : ℕ) (x : Expression) (at : ℕ) → refine_pattern n x ≡ Misfit at → target_before n assign.Assign x ≡ Fits (pattern.Target x)
unfolding target_before
before_misfits n x at e = ap (else_itself x) e

pub before_nests : (n : ℕ) (x : Expression) → refine_pattern n x ≡ TooNested → target_before n assign.Assign x ≡ TooNested
unfolding target_before
before_nests n x e = ap (else_itself x) e

pub before_other : (n : ℕ) (operator : AssignOperator) (x : Expression) → (operator ≡ assign.Assign → ⊥) → target_before n operator x ≡ Fits (pattern.Target x)
unfolding target_before
before_other n assign.Assign x h = absurd (h refl)
before_other n operator x h = refl

-- ## Other depths

plus-is : (n l : ℕ) → plus n l ≡ n + l
plus-is zero l = omega arith
plus-is (suc n) l = omega (arith, plus-is n l)

abbrev Stays : {A : Type 0} → ℕ → Refined A → Type 0
Stays at r = (r ≡ Misfit at) ⊎ (r ≡ TooNested)

kept-back : {A : Type 0} {r r' : Refined A} {at : ℕ} → Kept r r' → r' ≡ Misfit at → Stays at r
kept-back as_it_was e = inl e
kept-back was_too_nested e = inr refl

kept-on : {A : Type 0} {r r' : Refined A} {at : ℕ} → Kept r r' → r ≡ Misfit at → Stays at r'
kept-on as_it_was e = inl e
kept-on was_too_nested e = absurd (cc)

deeper : (m n : ℕ) (x : Expression) → m ≤ n → Kept (refine_parameters m x) (refine_parameters n x)
deeper m n x h =
    let sum : plus m (n - m) ≡ n = plus-is m (n - m) ∙ omega arith in
    subst (λ k. Kept (refine_parameters m x) (refine_parameters k x)) sum (kept-parameters-before m (n - m) Bare x)

-- where one depth finds a misfit, none makes parameters
pub at_any_depth : (m : ℕ) (x : Expression) (at : ℕ) → refine_parameters m x ≡ Misfit at → (n : ℕ) → (refine_parameters n x ≡ Misfit at) ⊎ (refine_parameters n x ≡ TooNested)
at_any_depth m x at e n =
    elim (cases_lt m n) [
      | inl below ↦ kept-on (deeper m n x (omega arith)) e
      | inr above ↦ kept-back (deeper n m x above) e
    ]
