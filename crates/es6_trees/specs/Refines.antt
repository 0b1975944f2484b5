-- What refinements answer.
use Rattle.std.specs.Prelude.{◌≡◌, ℕ, ◌⊎◌, false, List, [], Some, None, Result, Ok, Err}
use Rattle.es6_ast.specs.declared.tree.Expression.{Expression}
use Rattle.es6_ast.specs.declared.tree.Parameter.{Parameter}
use Rattle.es6_ast.specs.declared.tree.Pattern.{Pattern}
use Rattle.es6_ast.specs.declared.settings.Flags.{Flags}
use Rattle.es6_ast.specs.Targets.{misfit}
use Rattle.es6_ast.specs.Tokens.{Filled}
use Rattle.es6_ast.specs.Grammar.{IsExpression, IsTarget, AreArrowParameters}
use Rattle.es6_reading.specs.Refine.{Refined, Fits, Misfit, TooNested, refine_pattern, refine_parameters}
use Rattle.es6_reading.specs.Refinements.{IsCover}
use Rattle.es6_reading_laws.specs.Fronts.{SpellsNoParameters}
use Rattle.es6_trees.specs.declared.fault.RefineFault.{RefineFault}
use Rattle.es6_trees.specs.declared.fault.RefineFault.TheVariants.{NotAPattern, OutOfMemory}
use Rattle.es6_trees.specs.declared.fault.Unrefined.{Unrefined}
use Rattle.es6_trees.specs.declared.fault.Unrefined.TheVariants as unrefined

-- what is answered of an expression that the model refines so; memory that runs out says nothing
abbrev pub Refines : {A : Type 0} → Refined A → Result A Unrefined → Type 0
Refines r (Ok x) = r ≡ Fits x
Refines r (Err (unrefined.Misfit at)) = r ≡ Misfit at
Refines r (Err unrefined.TooNested) = r ≡ TooNested
Refines r (Err unrefined.OutOfMemory) = Unit {0}

-- so deep is looked where no depth is given
abbrev pub deepest : ℕ
deepest = 4294967295

-- the tokens of the expression spell the pattern; no part of the expression is a misfit
pub record IsPatternIn (x : Expression) (p : Pattern) : Type 0 where
  pub spelled : (f : Flags) (least : ℕ) (ts us : List Filled) → IsExpression f least ts x us → IsTarget f false ts p us
  pub fits : misfit x ≡ None
  pub refined : refine_pattern deepest x ≡ Fits p

-- the tokens that spell the expression spell no pattern
abbrev pub SpellsNoPattern : Expression → Type 0
SpellsNoPattern x = (f : Flags) (least : ℕ) (ts : List Filled) → IsExpression f least ts x [] → (p : Pattern) → IsTarget f false ts p [] → ⊥

-- the first misfit begins there, and the expression is handed back
abbrev pub IsNoPattern : Expression → RefineFault → Type 0
IsNoPattern x (NotAPattern at y) = (misfit x ≡ Some at) × SpellsNoPattern x × (y ≡ x)
IsNoPattern x OutOfMemory = Unit {0}

-- the tokens of the expression, or of parentheses that only parameters have, spell the parameters
pub record AreParametersIn (x : Expression) (es : List Parameter) : Type 0 where
  pub spelled : (f : Flags) (least : ℕ) (ts us : List Filled) → IsExpression f least ts x us → AreArrowParameters f ts es us
  pub covered : (f : Flags) (ts us : List Filled) → IsCover f ts x us → AreArrowParameters f ts es us
  pub refined : refine_parameters deepest x ≡ Fits es

-- no depth makes parameters of the expression, which is handed back, nor do its tokens spell any
abbrev pub AreNoParameters : Expression → RefineFault → Type 0
AreNoParameters x (NotAPattern at y) = ((n : ℕ) → (refine_parameters n x ≡ Misfit at) ⊎ (refine_parameters n x ≡ TooNested)) × SpellsNoParameters x × (y ≡ x)
AreNoParameters x OutOfMemory = Unit {0}
