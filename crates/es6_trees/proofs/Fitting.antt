-- What is read where a refinement has to fit, by what the refinement is.
use Rattle.std.proofs.Common.{◌≡◌, ℕ, true, false, refl}
use Rattle.std.specs.Prelude.{Result, Ok, Err}
use Rattle.es6_ast.specs.declared.settings.Stop.TheVariants.{Endless}
use Rattle.es6_reading.specs.Parser.{Input, Took, Fault, refused}
use Rattle.es6_reading.specs.Refine.{Refined, Fits, Misfit, TooNested}
use Rattle.es6_reading.specs.Expressions.{fitting}
use Rattle.es6_refine.specs.declared.fit.Fit.TheVariants as fit
use Rattle.es6_refine.specs.Fitting.{fit_of}
use Rattle.es6_cursor.specs.declared.halt.Halt.{Halt}
use Rattle.es6_cursor.specs.declared.halt.Halt.TheVariants.{Stopped, OutOfMemory}
use Rattle.es6_cursor.specs.Reads.{Reads, Skips}
use Rattle.es6_makers.specs.Misfits.{misfits}

pub fits_found : {A : Type 0} (r : Refined A) → fit_of r ≡ fit.Fits → misfits r ≡ false
fits_found (Fits x) h = refl
fits_found (Misfit at) h = absurd (cc)
fits_found TooNested h = refl

pub misfit_found : {A : Type 0} (r : Refined A) (at : ℕ) → fit_of r ≡ fit.Misfit at → misfits r ≡ true
misfit_found (Fits x) at h = absurd (cc)
misfit_found (Misfit place) at h = refl
misfit_found TooNested at h = absurd (cc)

pub nested_found : {A : Type 0} (r : Refined A) → fit_of r ≡ fit.TooNested → misfits r ≡ false
nested_found (Fits x) h = refl
nested_found (Misfit at) h = absurd (cc)
nested_found TooNested h = refl

pub fits_skipped : {A : Type 0} (r : Refined A) (c : Input) → fit_of r ≡ fit.Fits → (y : A) × (fitting r c ≡ Took y c)
fits_skipped (Fits x) c h = (x, refl)
fits_skipped (Misfit at) c h = absurd (cc)
fits_skipped TooNested c h = absurd (cc)

pub misfit_skipped : {A : Type 0} (r : Refined A) (at : ℕ) (c : Input) (result : Result (Unit {0}) Halt) → fit_of r ≡ fit.Misfit at → Reads (refused c) result c → Skips (fitting r c) result c
unfolding refused
misfit_skipped (Fits x) at c result h read = absurd (cc)
misfit_skipped (Misfit place) at c (Ok x) h read = absurd (cc)
misfit_skipped (Misfit place) at c (Err (Stopped stop)) h read = cc
misfit_skipped (Misfit place) at c (Err OutOfMemory) h read = tt
misfit_skipped TooNested at c result h read = absurd (cc)

pub nested_skipped : {A : Type 0} (r : Refined A) (c : Input) → fit_of r ≡ fit.TooNested → fitting r c ≡ Fault Endless c.tokens
nested_skipped (Fits x) c h = absurd (cc)
nested_skipped (Misfit at) c h = absurd (cc)
nested_skipped TooNested c h = refl
