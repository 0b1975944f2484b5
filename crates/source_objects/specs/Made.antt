-- The objects and the name of a class, as code makes them.
use Rattle.std.specs.Prelude.{Option, ℕ, false}
use Rattle.es_heap.specs.Heaps.{Heap, next_id}
use Rattle.es_operations.specs.Making.{class_function, with_recorded}
use Rattle.es_realm.specs.declared.edition.Edition.TheVariants.{Sixth}
use Rattle.es6_ast.specs.declared.tree.Function.{Function}
use Rattle.es6_ast.specs.declared.tree.Identifier.{Identifier}
use Rattle.source_meaning.specs.Functions.{function_parameters}
use Rattle.source_meaning.specs.State.{Binding, Uninitialized}
use Rattle.source_meaning.specs.Trees.{expected_count}
use Rattle.source_objects.specs.declared.classes.Lineage.{Lineage}

-- the function with its prototype object, for the closure of this number
abbrev pub class_objects : Option Function → Lineage → ℕ → Heap → Heap
class_objects f lineage n heap =
    with_recorded (class_function Sixth heap n (expected_count (function_parameters f)) lineage.parent lineage.above)
    (next_id heap) lineage.recorded

-- the inner name, which can't be written
abbrev pub own_binding : Identifier → Binding
own_binding x = record { name = x.name; mutable = false; held = Uninitialized }
