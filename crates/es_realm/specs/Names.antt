-- The objects of the library by their names. An object's name is its place in a fresh heap: first the prototypes, then the functions
-- that both realms have, then what one realm has alone.
use Rattle.es_value.specs.declared.value.ObjId.{ObjId}

-- the prototypes of both realms
abbrev pub object_prototype : ObjId
object_prototype = record { 0 = 0 }

abbrev pub function_prototype : ObjId
function_prototype = record { 0 = 1 }

abbrev pub array_prototype : ObjId
array_prototype = record { 0 = 2 }

abbrev pub string_prototype : ObjId
string_prototype = record { 0 = 3 }

abbrev pub number_prototype : ObjId
number_prototype = record { 0 = 4 }

abbrev pub boolean_prototype : ObjId
boolean_prototype = record { 0 = 5 }

abbrev pub error_prototype : ObjId
error_prototype = record { 0 = 6 }

abbrev pub type_error_prototype : ObjId
type_error_prototype = record { 0 = 7 }

abbrev pub reference_error_prototype : ObjId
reference_error_prototype = record { 0 = 8 }

abbrev pub range_error_prototype : ObjId
range_error_prototype = record { 0 = 9 }

-- the functions of both realms
abbrev pub object : ObjId
object = record { 0 = 10 }

abbrev pub array : ObjId
array = record { 0 = 11 }

abbrev pub string : ObjId
string = record { 0 = 12 }

abbrev pub error : ObjId
error = record { 0 = 13 }

abbrev pub type_error : ObjId
type_error = record { 0 = 14 }

abbrev pub reference_error : ObjId
reference_error = record { 0 = 15 }

abbrev pub range_error : ObjId
range_error = record { 0 = 16 }

abbrev pub object_create : ObjId
object_create = record { 0 = 17 }

abbrev pub array_is_array : ObjId
array_is_array = record { 0 = 18 }

abbrev pub object_has_own_property : ObjId
object_has_own_property = record { 0 = 19 }

abbrev pub object_to_string : ObjId
object_to_string = record { 0 = 20 }

abbrev pub object_value_of : ObjId
object_value_of = record { 0 = 21 }

abbrev pub function_call : ObjId
function_call = record { 0 = 22 }

abbrev pub function_apply : ObjId
function_apply = record { 0 = 23 }

abbrev pub function_to_string : ObjId
function_to_string = record { 0 = 24 }

abbrev pub array_push : ObjId
array_push = record { 0 = 25 }

abbrev pub array_pop : ObjId
array_pop = record { 0 = 26 }

abbrev pub array_index_of : ObjId
array_index_of = record { 0 = 27 }

abbrev pub array_join : ObjId
array_join = record { 0 = 28 }

abbrev pub array_for_each : ObjId
array_for_each = record { 0 = 29 }

abbrev pub array_to_string : ObjId
array_to_string = record { 0 = 30 }

abbrev pub string_char_at : ObjId
string_char_at = record { 0 = 31 }

abbrev pub string_char_code_at : ObjId
string_char_code_at = record { 0 = 32 }

abbrev pub string_index_of : ObjId
string_index_of = record { 0 = 33 }

abbrev pub string_substring : ObjId
string_substring = record { 0 = 34 }

abbrev pub string_to_string : ObjId
string_to_string = record { 0 = 35 }

abbrev pub number_to_string : ObjId
number_to_string = record { 0 = 36 }

abbrev pub boolean_to_string : ObjId
boolean_to_string = record { 0 = 37 }

abbrev pub error_to_string : ObjId
error_to_string = record { 0 = 38 }

-- the prototypes that the 6th edition's realm has besides; the first is that of generator functions (25.2.3)
abbrev pub generator_function_prototype : ObjId
generator_function_prototype = record { 0 = 39 }

abbrev pub generator_prototype : ObjId
generator_prototype = record { 0 = 40 }

abbrev pub array_iterator_prototype : ObjId
array_iterator_prototype = record { 0 = 41 }

abbrev pub string_iterator_prototype : ObjId
string_iterator_prototype = record { 0 = 42 }

-- the functions that the 6th edition's realm has besides
abbrev pub array_iterator : ObjId
array_iterator = record { 0 = 43 }

abbrev pub array_includes : ObjId
array_includes = record { 0 = 44 }

abbrev pub string_iterator : ObjId
string_iterator = record { 0 = 45 }

abbrev pub generator_next : ObjId
generator_next = record { 0 = 46 }

abbrev pub generator_return : ObjId
generator_return = record { 0 = 47 }

abbrev pub generator_throw : ObjId
generator_throw = record { 0 = 48 }

abbrev pub iterator_self : ObjId
iterator_self = record { 0 = 49 }

abbrev pub array_iterator_next : ObjId
array_iterator_next = record { 0 = 50 }

abbrev pub string_iterator_next : ObjId
string_iterator_next = record { 0 = 51 }

-- the functions that the 5.1 edition's realm has besides
abbrev pub object_define_property : ObjId
object_define_property = record { 0 = 39 }

abbrev pub object_get_own_property_descriptor : ObjId
object_get_own_property_descriptor = record { 0 = 40 }

abbrev pub object_get_prototype_of : ObjId
object_get_prototype_of = record { 0 = 41 }

abbrev pub object_prevent_extensions : ObjId
object_prevent_extensions = record { 0 = 42 }
