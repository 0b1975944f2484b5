-- Names that are declared, as the program has them and as the definition of scopes has them.
use Rattle.module_scopes.specs.declared.bindings.Binding.{Binding}
use Rattle.es6_static_semantics.specs.Outside.{Known}

abbrev pub known_of : Binding → Known
known_of b = record { name = b.name.items; is_host = b.is_host }
