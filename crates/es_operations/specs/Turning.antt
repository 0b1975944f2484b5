-- An internal operation of the standard is a call of the same machine as a function of the library: its number is 100 or more, its
-- receiver and arguments are its operands. What a turn asks for is what a function of the library wants, or a conversion that
-- leaves a primitive as it is, or what a look-up found.
use Rattle.std.specs.Prelude.{if◌then◌else◌, List}
use Rattle.es_value.specs.declared.value.Value.{Value}
use Rattle.es_value.specs.declared.value.Value.TheVariants as value
use Rattle.es_heap.specs.Heaps.{Heap}
use Rattle.es_heap.specs.declared.key.Key.{Key}
use Rattle.es_heap.specs.declared.key.Key.TheVariants.{Text, Iterator}
use Rattle.es_realm.specs.declared.edition.Edition.{Edition}
use Rattle.es_realm.specs.declared.access.Read.{Read}
use Rattle.es_realm.specs.declared.errors.ErrorKind.{ErrorKind}
use Rattle.es_realm.specs.declared.errors.ErrorKind.TheVariants.{TypeError}
use Rattle.es_operators.specs.declared.conversion.Conversion.{Conversion}
use Rattle.es_operators.specs.declared.conversion.Hint.{Hint}
use Rattle.es_operators.specs.Conversions.{begun, next_method}
use Rattle.es_operators.specs.Primitives.{is_callable, is_object}
use Rattle.es_value.specs.Convert.{text_of}
use Rattle.es_calls.specs.declared.call.BuiltinCall.{BuiltinCall}
use Rattle.es_calls.specs.declared.call.Place.{Place}
use Rattle.es_calls.specs.declared.call.Want.{Want}
use Rattle.es_calls.specs.declared.call.Want.TheVariants as want
use Rattle.es_calls.specs.Steps.{Settled, has, settle, settle_attempt, settle_read}

pub data Ask : Type 0 where
  Wants : Want → Ask
  -- ToPrimitive (7.1.1)
  Primitive : Value → Hint → Ask
  -- what was found for this receiver and key
  Found : Value → Key → Read → Ask

-- what a turn leaves of the call and of the heap, and what it asks for
pub record Act : Type 0 where
  pub call : BuiltinCall
  pub heap : Heap
  pub ask : Ask

abbrev pub Turns : Type 0
Turns = Heap → BuiltinCall → Place → Act

abbrev pub asks : Heap → BuiltinCall → Place → Ask → Act
asks heap c p ask = record { call = record c { place = p }; heap = heap; ask = ask }

abbrev pub wants : Heap → BuiltinCall → Place → Want → Act
wants heap c p w = asks heap c p (Wants w)

abbrev pub ends : Heap → BuiltinCall → Want → Act
ends heap c w = record { call = c; heap = heap; ask = Wants w }

abbrev pub gives : Heap → BuiltinCall → Value → Act
gives heap c v = ends heap c (want.Done v)

abbrev pub throws : Heap → BuiltinCall → ErrorKind → Act
throws heap c e = ends heap c (want.Throws e)

-- the value, if it is an object, and else a TypeError
abbrev pub gives_object : Heap → BuiltinCall → Value → Act
gives_object heap c v = if is_object v then gives heap c v else throws heap c TypeError

-- a method is called on the receiver of the operation, and what can't be called is a TypeError (7.3.12)
abbrev pub calls : Heap → BuiltinCall → Place → Value → List Value → Act
calls heap c p f args =
    if is_callable heap f then wants heap c p (want.Call f c.this_value args) else throws heap c TypeError

-- ---- keys as operands: a text, or null for the iterator key

abbrev pub key_operand : Key → Value
key_operand (Text units) = value.Text units
key_operand Iterator = value.Null

abbrev pub operand_key : Value → Key
operand_key value.Null = Iterator
operand_key v = Text (text_of v)

-- ---- what a turn asks for

abbrev pub to_primitive : Edition → Heap → BuiltinCall → Hint → Value → Settled
to_primitive edition heap c hint (value.Object id) = settle_attempt c (next_method edition heap (begun id hint))
to_primitive edition heap c hint v = has c v

abbrev pub settle_ask : Edition → Heap → BuiltinCall → Ask → Settled
settle_ask edition heap c (Wants w) = settle edition heap c w
settle_ask edition heap c (Primitive v hint) = to_primitive edition heap c hint v
settle_ask edition heap c (Found base k read) = settle_read c base k read

-- what a conversion's method gave: behind an object the next method is tried
abbrev pub received : Edition → Heap → BuiltinCall → Conversion → Settled
received edition heap c conversion =
    if is_object c.input then settle_attempt c (next_method edition heap conversion) else has c c.input
