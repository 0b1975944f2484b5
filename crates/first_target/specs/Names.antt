-- Global names of scripts (ECMA-262, 5.1 edition, 15.1 and B.2).
use Rattle.std.specs.Prelude.{ℕ, Bool, List, [], ◌∷◌, ◌++◌, codes}
use Rattle.std.specs.List.{list_any}
use Rattle.std.specs.Str.{bytes_eq}

-- whether the name is one of these
abbrev pub is_one_of : List ℕ → List (List ℕ) → Bool
is_one_of name names = list_any (bytes_eq name) names

-- the global names of the built-ins that the profile keeps (15.1)
unfoldable pub kept_globals : List (List ℕ)
kept_globals =
    codes "undefined" ∷ codes "Object" ∷ codes "Array" ∷ codes "String" ∷ codes "Error" ∷ codes "TypeError"
    ∷ codes "ReferenceError" ∷ codes "RangeError" ∷ []

-- those that it knows and leaves out (15.1 and B.2)
unfoldable pub left_out_globals : List (List ℕ)
left_out_globals =
    codes "NaN" ∷ codes "Infinity" ∷ codes "eval" ∷ codes "parseInt" ∷ codes "parseFloat" ∷ codes "isNaN"
    ∷ codes "isFinite" ∷ codes "decodeURI" ∷ codes "decodeURIComponent" ∷ codes "encodeURI"
    ∷ codes "encodeURIComponent" ∷ codes "escape" ∷ codes "unescape" ∷ codes "Function" ∷ codes "Boolean"
    ∷ codes "Number" ∷ codes "Date" ∷ codes "RegExp" ∷ codes "EvalError" ∷ codes "SyntaxError" ∷ codes "URIError"
    ∷ codes "Math" ∷ codes "JSON" ∷ []

-- the global names that a script doesn't declare
unfoldable pub known_globals : List (List ℕ)
known_globals = kept_globals ++ left_out_globals
