-- What names a property (ECMA-262, 6th edition, 12.2.6.8), in place of how a step goes on with it.
use Rattle.std.specs.Prelude.{if◌then◌else◌}
use Rattle.es_value.specs.declared.value.Value.TheVariants as value
use Rattle.es_heap.specs.declared.key.Key.TheVariants.{Iterator, Text}
use Rattle.es_operators.specs.Primitives.{to_key}
use Rattle.es6_ast.specs.Spans.{Open}
use Rattle.es6_ast.specs.declared.tree.Argument.TheOpen as layer
use Rattle.es6_ast.specs.declared.tree.Argument.TheOpen.{Key-F}
use Rattle.es6_ast.specs.declared.tree.Expression.{Expression}
use Rattle.source_meaning.specs.References.{is_iterator_key}
use Rattle.source_meaning.specs.State.{State}
use Rattle.source_meaning.specs.Trees.{name_units}
use Rattle.source_keys.specs.declared.keys.FoundKey.{FoundKey}
use Rattle.source_keys.specs.declared.keys.FoundKey.TheVariants.{Computed, Known}

abbrev pub bracketed_key : State → Expression → FoundKey
bracketed_key st x = if is_iterator_key x st then Known Iterator else Computed x

abbrev pub found_key : State → Open Key-F → FoundKey
found_key st (layer.WordKey span name) = Known (Text (name_units name))
found_key st (layer.TextKey span units) = Known (Text units)
found_key st (layer.IntegerKey span n) = Known (to_key (value.Number n))
found_key st (layer.ComputedKey span x) = bracketed_key st x
