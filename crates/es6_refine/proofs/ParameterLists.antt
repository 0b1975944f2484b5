-- Parameters, one at a time.
use Rattle.std.proofs.Common.{◌≡◌, ℕ, ◌+◌, true, false, List, ◌∷◌, drop, refl, sym, ap, ◌∙◌}
use Rattle.es6_ast.specs.declared.tree.Expression.{Expression}
use Rattle.es6_ast.specs.declared.tree.Parameter.{Parameter}
use Rattle.es6_ast.specs.declared.tree.Parameter.TheVariants.{SingleParameter}
use Rattle.es6_reading.specs.Refine.{Refined, refined_map, refine_part, parameters_of}
use Rattle.es6_refine.specs.declared.fit.Fit.{Fit}
use Rattle.es6_refine.specs.Fitting.{fit_of, is_fitting, part_of}
use Rattle.es6_refine.proofs.Fitted.{IsByItems, IsItem, fit-map, fits_on, fits_no_more, first_decides, others_decide}

abbrev one_parameter : ℕ → Expression → Refined Parameter
one_parameter n x = refined_map SingleParameter (part_of true n x)

by_parameters : (n : ℕ) → IsByItems (one_parameter n) (parameters_of n)
unfolding refine_part
by_parameters n x xs = refl

as_parameter : (n : ℕ) (x : Expression) {answer : Fit} → answer ≡ fit_of (part_of true n x) → answer ≡ fit_of (one_parameter n x)
as_parameter n x e = e ∙ sym (fit-map SingleParameter (part_of true n x))

pub first_parameter_fits : (n : ℕ) (x : Expression) (xs : List Expression) (answer : Fit) → answer ≡ fit_of (part_of true n x) → is_fitting answer ≡ true → fit_of (parameters_of n xs) ≡ fit_of (parameters_of n (x ∷ xs))
first_parameter_fits n x xs answer e k =
    sym (ap fit_of (by_parameters n x xs) ∙ others_decide (one_parameter n x) (parameters_of n xs) (ap is_fitting (sym (as_parameter n x e)) ∙ k))

pub first_parameter_misfits : (n : ℕ) (x : Expression) (xs : List Expression) (answer : Fit) → answer ≡ fit_of (part_of true n x) → is_fitting answer ≡ false → answer ≡ fit_of (parameters_of n (x ∷ xs))
first_parameter_misfits n x xs answer e k =
    as_parameter n x e ∙ sym (ap fit_of (by_parameters n x xs) ∙ first_decides (one_parameter n x) (parameters_of n xs) (ap is_fitting (sym (as_parameter n x e)) ∙ k))

pub parameters_on : (n : ℕ) (xs : List Expression) (i : ℕ) (x : Expression) (answer : Fit) → IsItem xs i x → answer ≡ fit_of (part_of true n x) → is_fitting answer ≡ true → fit_of (parameters_of n (drop (i + 1) xs)) ≡ fit_of (parameters_of n (drop i xs))
parameters_on n xs i x answer h e k = fits_on (one_parameter n) (parameters_of n) (by_parameters n) xs i x answer h (as_parameter n x e) k

pub parameters_no_more : (n : ℕ) (xs : List Expression) (i : ℕ) (x : Expression) (answer : Fit) → IsItem xs i x → answer ≡ fit_of (part_of true n x) → is_fitting answer ≡ false → answer ≡ fit_of (parameters_of n (drop i xs))
parameters_no_more n xs i x answer h e k = fits_no_more (one_parameter n) (parameters_of n) (by_parameters n) xs i x answer h (as_parameter n x e) k
