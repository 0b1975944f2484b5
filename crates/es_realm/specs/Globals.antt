-- The global names (ECMA-262, 6th edition, 18; 5.1 edition, 15.1 and B.2).
use Rattle.std.specs.Prelude.{ℕ, List, codes, if◌then◌else◌}
use Rattle.std.specs.Str.{bytes_eq}
use Rattle.es_outside.specs.HostNames.{is_among, known_globals}
use Rattle.es_realm.specs.declared.globals.Global.{Global}
use Rattle.es_realm.specs.declared.globals.Global.TheVariants.{Undefined, Object, LeftOut, Unknown}
use Rattle.es_realm.specs.Names as name

-- what a name is in the global scope of both realms
abbrev pub global_of : List ℕ → Global
global_of word =
    if bytes_eq (codes "undefined") word then Undefined
    else if bytes_eq (codes "Object") word then Object name.object
    else if bytes_eq (codes "Array") word then Object name.array
    else if bytes_eq (codes "String") word then Object name.string
    else if bytes_eq (codes "Error") word then Object name.error
    else if bytes_eq (codes "TypeError") word then Object name.type_error
    else if bytes_eq (codes "ReferenceError") word then Object name.reference_error
    else if bytes_eq (codes "RangeError") word then Object name.range_error
    else if is_among known_globals word then LeftOut
    else Unknown
