-- Names, and which of them a module may bind (ECMA-262, 6th edition, 11.6 and 12.1.1).
use Rattle.std.specs.Prelude.{◌≡◌, ℕ, Bool, true, false, ◌&&◌, ◌||◌, ◌==◌, List, [], ◌∷◌, codes}
use Rattle.std.specs.List.{list_all, list_any}
use Rattle.std.specs.Char.{is_ascii_alphabetic, is_ascii_digit}
use Rattle.std.specs.Str.{bytes_eq}

-- whether the name is one of these
abbrev pub is_one_of : List ℕ → List (List ℕ) → Bool
is_one_of name names = list_any (bytes_eq name) names

-- a letter, `_` or `$`
abbrev pub is_name_start : ℕ → Bool
is_name_start b = is_ascii_alphabetic b || (b == 95) || (b == 36)

abbrev pub is_name_part : ℕ → Bool
is_name_part b = is_name_start b || is_ascii_digit b

abbrev pub is_identifier_name : List ℕ → Bool
is_identifier_name [] = false
is_identifier_name (b ∷ bs) = is_name_start b && list_all is_name_part bs

-- the words that are reserved in module code (11.6.2), and the two that strict code doesn't bind (12.1.1)
unfoldable pub unbindable_names : List (List ℕ)
unbindable_names =
    codes "break" ∷ codes "case" ∷ codes "catch" ∷ codes "class" ∷ codes "const" ∷ codes "continue"
    ∷ codes "debugger" ∷ codes "default" ∷ codes "delete" ∷ codes "do" ∷ codes "else" ∷ codes "export"
    ∷ codes "extends" ∷ codes "finally" ∷ codes "for" ∷ codes "function" ∷ codes "if" ∷ codes "import"
    ∷ codes "in" ∷ codes "instanceof" ∷ codes "new" ∷ codes "return" ∷ codes "super" ∷ codes "switch"
    ∷ codes "this" ∷ codes "throw" ∷ codes "try" ∷ codes "typeof" ∷ codes "var" ∷ codes "void"
    ∷ codes "while" ∷ codes "with" ∷ codes "yield" ∷ codes "enum" ∷ codes "await" ∷ codes "null"
    ∷ codes "true" ∷ codes "false" ∷ codes "implements" ∷ codes "interface" ∷ codes "let"
    ∷ codes "package" ∷ codes "private" ∷ codes "protected" ∷ codes "public" ∷ codes "static"
    ∷ codes "eval" ∷ codes "arguments" ∷ []

-- a BindingIdentifier of strict module code
pub record IsBindable (name : List ℕ) : Type 0 where
  pub identifier : is_identifier_name name ≡ true
  pub free : is_one_of name unbindable_names ≡ false
