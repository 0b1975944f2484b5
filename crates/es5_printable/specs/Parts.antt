-- Parts of the test that are computed one by one.
use Rattle.std.specs.Prelude.{Bool, true, false, ◌&&◌, not, List, [], ◌∷◌, Option, Some, None}
use Rattle.es5_printable.specs.Printable.{FitStat, FitCondition}

-- 12.5: no condition before another one, or before an `else`, ends in an `if` without `else`
abbrev pub are_closed : FitCondition → List FitCondition → Bool → Bool
are_closed c [] has_else = not (has_else && c.is_open)
are_closed c (d ∷ more) has_else = not c.is_open && are_closed d more has_else

-- 12.5: what stands behind the last `else` is no `if`
abbrev pub else_fits : Bool → Option FitStat → Bool
else_fits inside None = true
else_fits inside (Some s) = s.fits inside false && not s.is_if

-- a catch or finally that may be left out (12.14)
abbrev pub maybe_fits : Bool → Option (Bool → Bool) → Bool
maybe_fits inside None = true
maybe_fits inside (Some fits) = fits inside
