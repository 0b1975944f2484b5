-- What names of namespace objects stand for.
use Rattle.std.specs.Prelude.{false, true}
use Rattle.core_ast.specs.declared.parts.Var.{Var}
use Rattle.scope_rules.specs.declared.kinds.Kind.{Kind}
use Rattle.lowering_rules.specs.declared.reference_rules.references.NamedValue.{NamedValue}
use Rattle.lowering_rules.specs.declared.reference_rules.references.NamedValue.TheVariants.{HostName}
use Rattle.module_lowering.specs.declared.meaning.Meaning.{Meaning}
use Rattle.module_lowering.specs.declared.meaning.Meaning.TheVariants.{Elsewhere, Itself, NamespaceOf, OfHost}
use Rattle.module_lowering.specs.Bindings.{can_be_unready, imported_value}

-- by the kind of the binding
abbrev pub exported_as : Var → Kind → Meaning → NamedValue
exported_as x kind Itself = imported_value x (can_be_unready kind false)
exported_as x kind (Elsewhere y) = imported_value y true
exported_as x kind (NamespaceOf y) = imported_value y false
exported_as x kind (OfHost host) = HostName host
