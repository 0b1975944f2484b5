-- Which modules' namespaces are imported.
use Rattle.std.specs.Prelude.{ℕ, Bool, List}
use Rattle.std.specs.List.{list_any}
use Rattle.es6_static_semantics.specs.Findings.{joined}
use Rattle.module_lowering.specs.Modules.{ImportedSpace, is_module}

-- by what each module imports
abbrev pub are_wanted : ℕ → List (List ImportedSpace) → Bool
are_wanted n spaces = list_any (λ s. is_module n s.home) (joined (λ ss. ss) spaces)
