-- Variables of a body that are named as parameters (9.2.12, step 28), by where the parameter begins.
use Rattle.std.specs.Prelude.{ℕ, Option, Some, None}
use Rattle.lowering_rules.specs.declared.functions.BodyVar.{BodyVar}
use Rattle.module_lowering.specs.declared.context.Context.{Context}
use Rattle.module_lowering.specs.Bindings.{Bindings, declared_var}

abbrev pub body_var_at : Bindings → Context → ℕ → Option ℕ → Option BodyVar
body_var_at b c at None = None
body_var_at b c at (Some begin) = Some (record { var = declared_var b c at; parameter = declared_var b c begin })
