-- Arrow functions, by what is read before their `=>` (ECMA-262, 6th edition, 14.2).
use Rattle.std.proofs.Common.{◌≡◌, ℕ, true, false, List, refl}
use Rattle.es6_ast.specs.declared.tree.Parameter.{Parameter}
use Rattle.es6_ast.specs.declared.settings.Flags.{Flags}
use Rattle.es6_reading.specs.Parser.{Input, Inner, Reading, after, on, refused}
use Rattle.es6_reading.specs.Words.{arrow_at}
use Rattle.es6_reading.specs.Refine.{Refined, Fits, Misfit, TooNested}
use Rattle.es6_reading.specs.Expressions.{arrow_body, arrow_if, before_arrow, fitting}
use Rattle.es6_makers.specs.Misfits.{misfits}

pub arrow_is : (i : Inner) (f : Flags) (at : ℕ) (x : Reading) (r : Refined (List Parameter)) (c : Input) → misfits r ≡ false → arrow_if i f at x r c ≡ after (fitting r c) (λ ps. on arrow_at (λ _. arrow_body i f at ps) refused)
unfolding refused
arrow_is i f at x (Fits ps) c h = refl
arrow_is i f at x (Misfit place) c h = absurd (cc)
arrow_is i f at x TooNested c h = refl

pub no_arrow_is : (i : Inner) (f : Flags) (at : ℕ) (x : Reading) (r : Refined (List Parameter)) (c : Input) → misfits r ≡ true → arrow_if i f at x r c ≡ before_arrow x c
no_arrow_is i f at x (Fits ps) c h = absurd (cc)
no_arrow_is i f at x (Misfit place) c h = refl
no_arrow_is i f at x TooNested c h = absurd (cc)
