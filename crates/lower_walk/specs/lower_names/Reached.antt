-- A name by its place and its text.
use Rattle.std.specs.Prelude.{ℕ, List}
use Rattle.lowering_rules.specs.declared.reference_rules.references.Reached.{Reached}
use Rattle.lowering_rules.specs.reference_rules.References as references
use Rattle.module_lowering.specs.Bindings.{finds_arguments, found, name_value}
use Rattle.module_lowering.specs.Lowering.{Lowering, marking, sees_arguments}

-- what an identifier comes to (12.1.6), as `name_lowered` has it
abbrev pub name_reached : ℕ → List ℕ → Lowering Reached
name_reached at name bindings context state = (
  references.found (name_value bindings context at name),
  marking (finds_arguments (found bindings context at)) sees_arguments state,
)
