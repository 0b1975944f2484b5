-- What is taken of arguments.
use Rattle.std.specs.Prelude.{None, Option, Some}
use Rattle.es_value.specs.declared.value.Value.{Value}
use Rattle.es_value.specs.declared.value.Value.TheVariants as value

abbrev pub value_or_undefined : Option Value → Value
value_or_undefined None = value.Undefined
value_or_undefined (Some v) = v
