-- Classes of objects.
use Rattle.std.specs.Prelude.{Bool, true, false}
use Rattle.es_heap.specs.declared.class.Class.{Class}
use Rattle.es_heap.specs.declared.class.Class.TheVariants.{Array}

abbrev pub is_array : Class → Bool
is_array Array = true
is_array _ = false
