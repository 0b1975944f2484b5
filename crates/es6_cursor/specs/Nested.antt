-- The reader of an expression one construct deeper, by what it is.
use Rattle.es6_ast.specs.declared.settings.Flags.{Flags}
use Rattle.es6_reading.specs.Parser.{Inner, Parser, Reading}
use Rattle.es6_cursor.specs.declared.nested.Nested.{Nested}
use Rattle.es6_cursor.specs.declared.nested.Nested.TheVariants as nested

abbrev pub nested_of : Nested → Inner → Flags → Parser Reading
nested_of nested.Sequence i f = i.sequence f
nested_of nested.Assignment i f = i.assignment f
nested_of nested.Power i f = i.power f
nested_of nested.Unary i f = i.unary f
nested_of nested.Callee i f = i.callee f
nested_of nested.Heritage i f = i.heritage f
