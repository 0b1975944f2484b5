-- String and the functions of String.prototype (ECMA-262, 6th edition, 21.1).
use Rattle.std.specs.Prelude.{ℕ, zero, suc, ℤ, pos, negsuc, ◌+◌, min, max, Bool, true, false, nat_eq, if◌then◌else◌, List, [], ◌∷◌, length, drop, slice_get, slice_range, Option, None, Some}
use Rattle.std.specs.List.{starts_with}
use Rattle.es_value.specs.declared.value.ObjId.{ObjId}
use Rattle.es_value.specs.declared.value.Value.{Value}
use Rattle.es_value.specs.declared.value.Value.TheVariants as value
use Rattle.es_realm.specs.declared.edition.Edition.{Edition}
use Rattle.es_realm.specs.declared.edition.Edition.TheVariants.{Sixth, Fifth}
use Rattle.es_realm.specs.Names.{string_prototype}
use Rattle.es_operators.specs.Operators.{is_nothing}
use Rattle.es_calls.specs.declared.call.BuiltinCall.{BuiltinCall}
use Rattle.es_calls.specs.declared.call.Place.{Place}
use Rattle.es_calls.specs.declared.call.Place.TheVariants as place
use Rattle.es_calls.specs.declared.call.Want.{Want}
use Rattle.es_calls.specs.declared.call.Want.TheVariants as want
use Rattle.es_realm.specs.declared.errors.ErrorKind.TheVariants.{TypeError}
use Rattle.es_calls.specs.Calls.{Turn, arg, gives, throws, leaves, goes, is_undefined, position, text_in, number_in}

-- the receiver as a text, unless it is undefined or null (7.2.1)
abbrev pub coerced : BuiltinCall → Turn
coerced c = if is_nothing c.this_value then throws c TypeError else goes c place.Receiver (want.Text c.this_value)

abbrev pub with_receiver : BuiltinCall → BuiltinCall
with_receiver c = record c { kept = c.input }

abbrev pub unit_at : List ℕ → ℤ → Option ℕ
unit_at us (pos i) = slice_get us i
unit_at us (negsuc i) = None

abbrev pub unit_list : Option ℕ → List ℕ
unit_list None = []
unit_list (Some u) = u ∷ []

-- charAt (21.1.3.1)
abbrev pub char_at : BuiltinCall → Place → Turn
char_at c place.Begin = coerced c
char_at c place.Receiver = goes (with_receiver c) place.Position (want.Number (position (arg c 0)))
char_at c _ = gives c (value.Text (unit_list (unit_at (text_in c.kept) (number_in c.input))))

-- a position past the text gives NaN, which is X1
abbrev pub code_or_exit : BuiltinCall → Option ℕ → Turn
code_or_exit c None = leaves c 1
code_or_exit c (Some u) = gives c (value.Number (pos u))

-- charCodeAt (21.1.3.2)
abbrev pub char_code_at : BuiltinCall → Place → Turn
char_code_at c place.Begin = coerced c
char_code_at c place.Receiver = goes (with_receiver c) place.Position (want.Number (position (arg c 0)))
char_code_at c _ = code_or_exit c (unit_at (text_in c.kept) (number_in c.input))

-- a position from 0 to the length
abbrev pub clamp : ℤ → ℕ → ℕ
clamp (pos i) n = min i n
clamp (negsuc i) n = 0

-- the least place from k on at which the text is found, or -1
abbrev pub search_from : ℕ → List ℕ → List ℕ → ℤ
search_from k [] search = if starts_with nat_eq [] search then pos k else negsuc 0
search_from k (u ∷ us) search = if starts_with nat_eq (u ∷ us) search then pos k else search_from (k + 1) us search

abbrev pub index_in : List ℕ → List ℕ → ℕ → ℤ
index_in us search start = search_from start (drop start us) search

-- indexOf (21.1.3.8)
abbrev pub index_of : BuiltinCall → Place → Turn
index_of c place.Begin = coerced c
index_of c place.Receiver = goes (with_receiver c) place.Search (want.Text (arg c 0))
index_of c place.Search = goes (record c { other = c.input }) place.Position (want.Number (position (arg c 1)))
index_of c _ = gives c (value.Number (index_in (text_in c.kept) (text_in c.other) (clamp (number_in c.input) (length (text_in c.kept)))))

abbrev pub between : List ℕ → ℕ → ℕ → List ℕ
between us a b = slice_range us (min a b) (max a b)

-- where a substring ends that has no end: at the length
abbrev pub end_of : BuiltinCall → Value
end_of c = if is_undefined (arg c 1) then value.Number (pos (length (text_in c.kept))) else arg c 1

-- substring (21.1.3.19)
abbrev pub substring : BuiltinCall → Place → Turn
substring c place.Begin = coerced c
substring c place.Receiver = goes (with_receiver c) place.Position (want.Number (position (arg c 0)))
substring c place.Position = goes (record c { index = number_in c.input }) place.End (want.Number (end_of c))
substring c _ = gives c (value.Text (between (text_in c.kept) (clamp c.index (length (text_in c.kept))) (clamp (number_in c.input) (length (text_in c.kept)))))

-- String called as a function (21.1.1.1)
abbrev pub string_of : BuiltinCall → Place → List Value → Turn
string_of c place.Begin [] = gives c (value.Text [])
string_of c place.Begin (v ∷ vs) = goes c place.Receiver (want.Text v)
string_of c _ vs = gives c c.input

-- toString (21.1.3.23). String.prototype is an ordinary object in the 6th edition, and the text "" in the 5.1 edition: X9
abbrev pub prototype_text : Edition → Want
prototype_text Sixth = want.Leaves 9
prototype_text Fifth = want.Done (value.Text [])

abbrev pub text_value : Edition → Value → Want
text_value edition (value.Text us) = want.Done (value.Text us)
text_value edition (value.Object id) = if nat_eq id.0 string_prototype.0 then prototype_text edition else want.Throws TypeError
text_value edition _ = want.Throws TypeError
