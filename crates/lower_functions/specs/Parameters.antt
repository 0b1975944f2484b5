-- Parameters, step by step.
use Rattle.std.specs.Prelude.{◌≡◌, ⊤, Option, Result, Ok, Err}
use Rattle.std.specs.Option.{option_map}
use Rattle.es6_ast.specs.declared.tree.Expression.{Expression}
use Rattle.es6_ast.specs.declared.tree.Pattern.{Pattern}
use Rattle.core_ast.specs.Made.{variable}
use Rattle.lowering_rules.specs.declared.functions.Parameter.{Parameter}
use Rattle.lowering_rules.specs.declared.functions.RestParameter.{RestParameter}
use Rattle.module_lowering.specs.declared.context.Role.TheVariants.{Initializes}
use Rattle.module_lowering.specs.declared.lowerer.Lowerer.{Lowerer}
use Rattle.module_lowering.specs.Expressions.{optional}
use Rattle.module_lowering.specs.Lowered.{expression_lowered, pattern_lowered}
use Rattle.module_lowering.specs.Lowering.{option, pure, raw, temporary, Lowering, ◌>>=◌}
use Rattle.module_lowering.specs.Nodes.{Parted, Patterned}

-- what code changes in place: exactly so, or anything where memory is out
abbrev pub Changes : {A B E : Type 0} → A × Lowerer → Result B E → A → Lowerer → Type 0
Changes outcome (Ok x) now state = outcome ≡ (now, state)
Changes outcome (Err e) now state = ⊤

-- a pattern with its default
abbrev pub parted : Pattern → Option Expression → Parted
parted p default = record { pattern = pattern_lowered p; default = optional (option_map expression_lowered default) }

-- a variable of its own, of which the names take the value
abbrev pub bound_parameter : Parted → Lowering Parameter
bound_parameter p = do
  formal ← raw
  d ← option p.default
  ss ← p.pattern.bound Initializes (variable formal)
  pure (record { formal = formal; default = d; bound = ss })

abbrev pub bound_rest : Patterned → Lowering RestParameter
bound_rest p = do
  list ← temporary
  ss ← p.bound Initializes (variable list)
  pure (record { list = list; bound = ss })
