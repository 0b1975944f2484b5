-- What several functions of the library do to objects.
use Rattle.std.specs.Prelude.{ℕ, true, List, Option, codes}
use Rattle.es_value.specs.declared.value.ObjId.{ObjId}
use Rattle.es_value.specs.declared.value.Value.{Value}
use Rattle.es_value.specs.declared.value.Value.TheVariants as value
use Rattle.es_heap.specs.declared.class.Class.{Class}
use Rattle.es_heap.specs.declared.class.Class.TheVariants as class
use Rattle.es_heap.specs.declared.key.Key.TheVariants.{Text}
use Rattle.es_heap.specs.declared.prop.Prop.TheVariants.{Plain}
use Rattle.es_heap.specs.Heaps.{Heap, made, next_id, define_own}
use Rattle.es_calls.specs.declared.call.Want.{Want}
use Rattle.es_calls.specs.declared.call.Want.TheVariants as want
use Rattle.es_calls.specs.Calls.{Answered}

-- a plain property as an assignment to a new one makes it
unfoldable pub with_property : Heap → ObjId → List ℕ → Value → Heap
with_property heap id name v = (define_own heap id (Text name) (Plain v true true)).after

-- what Object.prototype.toString gives for a class (19.1.3.6)
abbrev pub class_text : Class → List ℕ
class_text class.Array = codes "[object Array]"
class_text (class.Function n) = codes "[object Function]"
class_text (class.Builtin n) = codes "[object Function]"
class_text (class.Host n) = codes "[object Function]"
class_text class.Arguments = codes "[object Arguments]"
class_text class.Error = codes "[object Error]"
class_text class.Text = codes "[object String]"
class_text class.Number = codes "[object Number]"
class_text class.Bool = codes "[object Boolean]"
class_text _ = codes "[object Object]"

-- a new object, which is the result
abbrev pub made_object : Heap → Option ObjId → Class → Answered
made_object heap proto class = record { heap = made heap proto class; want = want.Done (value.Object (next_id heap)) }

abbrev pub wanted : Heap → Want → Answered
wanted heap w = record { heap = heap; want = w }
