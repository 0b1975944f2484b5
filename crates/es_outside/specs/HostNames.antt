-- The names that a host may have: ASCII identifiers that name nothing else in a source or a script.
use Rattle.std.specs.Prelude.{ℕ, ◌==◌, ◌||◌, ◌&&◌, Bool, false, not, List, [], ◌∷◌, codes}
use Rattle.std.specs.Char.{is_ascii_alphabetic, is_ascii_alphanumeric}
use Rattle.std.specs.List.{list_any, list_all}
use Rattle.std.specs.Str.{bytes_eq}

-- ECMA-262, 6th edition, 11.6.2 and 12.1.1: the words that are no identifier in module code
unfoldable pub reserved_words : List (List ℕ)
reserved_words =
    codes "break" ∷ codes "case" ∷ codes "catch" ∷ codes "class" ∷ codes "const" ∷
    codes "continue" ∷ codes "debugger" ∷ codes "default" ∷ codes "delete" ∷ codes "do" ∷
    codes "else" ∷ codes "export" ∷ codes "extends" ∷ codes "finally" ∷ codes "for" ∷
    codes "function" ∷ codes "if" ∷ codes "import" ∷ codes "in" ∷ codes "instanceof" ∷ codes "new" ∷
    codes "return" ∷ codes "super" ∷ codes "switch" ∷ codes "this" ∷ codes "throw" ∷ codes "try" ∷
    codes "typeof" ∷ codes "var" ∷ codes "void" ∷ codes "while" ∷ codes "with" ∷ codes "yield" ∷
    codes "enum" ∷ codes "await" ∷ codes "null" ∷ codes "true" ∷ codes "false" ∷
    codes "implements" ∷ codes "interface" ∷ codes "let" ∷ codes "package" ∷ codes "private" ∷
    codes "protected" ∷ codes "public" ∷ codes "static" ∷ []

-- the global names that both realms have
unfoldable pub kept_globals : List (List ℕ)
kept_globals =
    codes "undefined" ∷ codes "Object" ∷ codes "Array" ∷ codes "String" ∷ codes "Error" ∷
    codes "TypeError" ∷ codes "ReferenceError" ∷ codes "RangeError" ∷ []

-- the global names of the 5.1 edition (15.1 and B.2) that are known and left out
unfoldable pub known_globals : List (List ℕ)
known_globals =
    codes "NaN" ∷ codes "Infinity" ∷ codes "eval" ∷ codes "parseInt" ∷ codes "parseFloat" ∷
    codes "isNaN" ∷ codes "isFinite" ∷ codes "decodeURI" ∷ codes "decodeURIComponent" ∷
    codes "encodeURI" ∷ codes "encodeURIComponent" ∷ codes "escape" ∷ codes "unescape" ∷
    codes "Function" ∷ codes "Boolean" ∷ codes "Number" ∷ codes "Date" ∷ codes "RegExp" ∷
    codes "EvalError" ∷ codes "SyntaxError" ∷ codes "URIError" ∷ codes "Math" ∷ codes "JSON" ∷ []

-- names with a meaning of their own: 12.1.1, and the one symbol's holder
unfoldable pub special_names : List (List ℕ)
special_names =
    codes "eval" ∷ codes "arguments" ∷ codes "Symbol" ∷ []

-- a letter, `$` or `_` (11.6)
abbrev pub starts_identifier : ℕ → Bool
starts_identifier byte = (is_ascii_alphabetic byte || byte == 36) || byte == 95

-- the same, or a digit
abbrev pub continues_identifier : ℕ → Bool
continues_identifier byte = (is_ascii_alphanumeric byte || byte == 36) || byte == 95

-- an identifier whose characters are all in ASCII
abbrev pub is_ascii_identifier : List ℕ → Bool
is_ascii_identifier [] = false
is_ascii_identifier (first ∷ rest) = starts_identifier first && list_all continues_identifier rest

-- the name is one of the words
abbrev pub is_among : List (List ℕ) → List ℕ → Bool
is_among words name = list_any (λ word. bytes_eq word name) words

-- a name that a host may have
unfoldable pub is_host_name : List ℕ → Bool
is_host_name name = is_ascii_identifier name && not (((is_among reserved_words name || is_among special_names name)
    || is_among kept_globals name) || is_among known_globals name)
