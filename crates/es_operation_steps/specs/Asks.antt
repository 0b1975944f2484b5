-- What turns ask for, as the definitions say it.
use Rattle.std.specs.Prelude.{◌≡◌, Result, Ok, Err}
use Rattle.es_heap.specs.Heaps.{Heap}
use Rattle.es_calls.specs.declared.call.BuiltinCall.{BuiltinCall}
use Rattle.es_operations.specs.Turning.{Act, Ask as AskValue}
use Rattle.es_operations.specs.Turning as value
use Rattle.es_operation_steps.specs.declared.turning.Ask.{Ask}
use Rattle.es_operation_steps.specs.declared.turning.Ask.TheVariants.{Wants, Primitive, Found}

-- what is asked for
abbrev pub said : Ask → AskValue
said (Wants w) = value.Wants w
said (Primitive v hint) = value.Primitive v hint
said (Found base k read) = value.Found base k read

-- a turn did what its definition says, or found no memory
abbrev pub Acts : {E : Type 0} → Result Ask E → BuiltinCall → Heap → Act → Type 0
Acts (Ok ask) call heap act = (said ask ≡ act.ask) × (call ≡ act.call) × (heap ≡ act.heap)
Acts (Err e) call heap act = Unit {0}
