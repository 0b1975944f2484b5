-- Whether something is refined, as the code answers it.
use Rattle.std.specs.Prelude.{ℕ, Bool, true, false}
use Rattle.es6_ast.specs.declared.tree.Expression.{Expression, out-Expression}
use Rattle.es6_ast.specs.declared.tree.Part.{Part}
use Rattle.es6_reading.specs.Refine.{Refined, Fits, Misfit, TooNested, part_in, refine}
use Rattle.es6_refine.specs.declared.fit.Fit.{Fit}
use Rattle.es6_refine.specs.declared.fit.Fit.TheVariants as fit

abbrev pub fit_of : {A : Type 0} → Refined A → Fit
fit_of (Fits x) = fit.Fits
fit_of (Misfit at) = fit.Misfit at
fit_of TooNested = fit.TooNested

abbrev pub is_fitting : Fit → Bool
is_fitting fit.Fits = true
is_fitting (fit.Misfit at) = false
is_fitting fit.TooNested = false

-- what holds an expression is a misfit at its own place
abbrev pub held_fit : ℕ → Fit → Fit
held_fit at fit.Fits = fit.Fits
held_fit at (fit.Misfit place) = fit.Misfit at
held_fit at fit.TooNested = fit.TooNested

-- an expression as a part of a pattern, down to the depth
abbrev pub part_of : Bool → ℕ → Expression → Refined Part
part_of binds n x = part_in binds n (refine binds n) x (out-Expression x)
