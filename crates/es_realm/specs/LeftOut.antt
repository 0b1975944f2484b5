-- Names that the editions have on the objects of the library, and that are known and left out here: a look-up that finds one
-- leaves the profile (ECMA-262, 6th edition, 19 to 22; 5.1 edition, 15).
use Rattle.std.specs.Prelude.{ℕ, Bool, true, false, ◌||◌, nat_eq, nat_lt, if◌then◌else◌, List, [], ◌∷◌, codes}
use Rattle.std.specs.List.{list_any}
use Rattle.std.specs.Cmp.Lexicographic.{pointwise}
use Rattle.es_value.specs.declared.value.ObjId.{ObjId}
use Rattle.es_heap.specs.declared.key.Key.{Key}
use Rattle.es_heap.specs.declared.key.Key.TheVariants.{Text, Iterator}
use Rattle.es_realm.specs.declared.edition.Edition.{Edition}
use Rattle.es_realm.specs.declared.edition.Edition.TheVariants.{Sixth, Fifth}
use Rattle.es_realm.specs.declared.left_out.Holder.{Holder}
use Rattle.es_realm.specs.declared.left_out.Holder.TheVariants.{Program, Prototype, Function}

abbrev pub is_among : List (List ℕ) → List ℕ → Bool
is_among words units = list_any (λ word. pointwise nat_eq units word) words

unfoldable pub object_names : List (List ℕ)
object_names =
    codes "assign" ∷ codes "defineProperties" ∷ codes "freeze" ∷ codes "getOwnPropertyNames" ∷ codes "getOwnPropertySymbols" ∷
    codes "is" ∷ codes "isExtensible" ∷ codes "isFrozen" ∷ codes "isSealed" ∷ codes "keys" ∷ codes "seal" ∷ codes "setPrototypeOf" ∷ []

-- what the realm of the 5.1 edition has and that of the 6th leaves out
unfoldable pub object_names6 : List (List ℕ)
object_names6 = codes "defineProperty" ∷ codes "getOwnPropertyDescriptor" ∷ codes "getPrototypeOf" ∷ codes "preventExtensions" ∷ []

unfoldable pub array_names : List (List ℕ)
array_names = codes "from" ∷ codes "of" ∷ []

unfoldable pub string_names : List (List ℕ)
string_names = codes "fromCharCode" ∷ codes "fromCodePoint" ∷ codes "raw" ∷ []

unfoldable pub object_prototype_names : List (List ℕ)
object_prototype_names = codes "isPrototypeOf" ∷ codes "propertyIsEnumerable" ∷ codes "toLocaleString" ∷ []

unfoldable pub function_prototype_names : List (List ℕ)
function_prototype_names = codes "bind" ∷ codes "length" ∷ []

unfoldable pub array_prototype_names : List (List ℕ)
array_prototype_names =
    codes "length" ∷ codes "concat" ∷ codes "reverse" ∷ codes "shift" ∷ codes "slice" ∷ codes "sort" ∷ codes "splice" ∷
    codes "unshift" ∷ codes "lastIndexOf" ∷ codes "every" ∷ codes "some" ∷ codes "map" ∷ codes "filter" ∷ codes "reduce" ∷
    codes "reduceRight" ∷ codes "toLocaleString" ∷ codes "copyWithin" ∷ codes "entries" ∷ codes "fill" ∷ codes "find" ∷
    codes "findIndex" ∷ codes "keys" ∷ codes "values" ∷ []

unfoldable pub string_prototype_names : List (List ℕ)
string_prototype_names =
    codes "length" ∷ codes "concat" ∷ codes "lastIndexOf" ∷ codes "localeCompare" ∷ codes "match" ∷ codes "replace" ∷
    codes "search" ∷ codes "slice" ∷ codes "split" ∷ codes "toLowerCase" ∷ codes "toUpperCase" ∷ codes "toLocaleLowerCase" ∷
    codes "toLocaleUpperCase" ∷ codes "trim" ∷ codes "valueOf" ∷ codes "substr" ∷ codes "codePointAt" ∷ codes "endsWith" ∷
    codes "includes" ∷ codes "normalize" ∷ codes "repeat" ∷ codes "startsWith" ∷ []

unfoldable pub number_prototype_names : List (List ℕ)
number_prototype_names = codes "toExponential" ∷ codes "toFixed" ∷ codes "toLocaleString" ∷ codes "toPrecision" ∷ codes "valueOf" ∷ []

unfoldable pub boolean_prototype_names : List (List ℕ)
boolean_prototype_names = codes "valueOf" ∷ []

-- what an object is to the library: a prototype of it, a function of it, or an object of the program
abbrev pub own_holder_of : Edition → ℕ → Holder
own_holder_of Sixth n = if nat_lt n 43 then Prototype else if nat_lt n 52 then Function else Program
own_holder_of Fifth n = if nat_lt n 43 then Function else Program

abbrev pub holder_of : Edition → ObjId → Holder
holder_of edition id = if nat_lt id.0 10 then Prototype else if nat_lt id.0 39 then Function else own_holder_of edition id.0

abbrev pub is_library_holder : Holder → Bool
is_library_holder Program = false
is_library_holder Prototype = true
is_library_holder Function = true

-- the object is one of the library; a host function isn't
abbrev pub is_builtin : Edition → ObjId → Bool
is_builtin edition id = is_library_holder (holder_of edition id)

abbrev pub is_prototype_name : ObjId → List ℕ → Bool
is_prototype_name id units =
    if nat_eq id.0 0 then is_among object_prototype_names units
    else if nat_eq id.0 1 then is_among function_prototype_names units
    else if nat_eq id.0 2 then is_among array_prototype_names units
    else if nat_eq id.0 3 then is_among string_prototype_names units
    else if nat_eq id.0 4 then is_among number_prototype_names units
    else if nat_eq id.0 5 then is_among boolean_prototype_names units
    else false

abbrev pub is_object_name : Edition → List ℕ → Bool
is_object_name Sixth units = is_among object_names units || is_among object_names6 units
is_object_name Fifth units = is_among object_names units

abbrev pub is_function_name : Edition → ObjId → List ℕ → Bool
is_function_name edition id units =
    if nat_eq id.0 10 then is_object_name edition units
    else if nat_eq id.0 11 then is_among array_names units
    else if nat_eq id.0 12 then is_among string_names units
    else false

-- each prototype's `constructor` and each function's `length` are left out too
abbrev pub is_name_of : Holder → Edition → ObjId → List ℕ → Bool
is_name_of Program edition id units = false
is_name_of Prototype edition id units = pointwise nat_eq units (codes "constructor") || is_prototype_name id units
is_name_of Function edition id units = pointwise nat_eq units (codes "length") || is_function_name edition id units

-- the object has, in the edition, a property of this key that is left out here
abbrev pub is_left_out : Edition → ObjId → Key → Bool
is_left_out edition id Iterator = false
is_left_out edition id (Text units) = is_name_of (holder_of edition id) edition id units
