-- Whether the model finds out that an expression is no pattern or no parameters.
use Rattle.std.specs.Prelude.{Bool, true, false}
use Rattle.es6_reading.specs.Refine.{Refined, Fits, Misfit, TooNested}

abbrev pub misfits : {A : Type 0} → Refined A → Bool
misfits (Fits x) = false
misfits (Misfit place) = true
misfits TooNested = false
