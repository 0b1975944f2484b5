-- The tokens of a script (ECMA-262, 5.1 edition, 7), as far as the profile has them: identifiers are ASCII and have no
-- escapes, and a number is whole. A text is a list of characters; offsets count their bytes in UTF-8.
use Rattle.std.specs.Prelude.{◌≡◌, ℕ, ◌+◌, ◌-◌, ◌*◌, ◌/◌, ◌%◌, ◌≤◌, Bool, true, false, ◌&&◌, ◌||◌, not, ◌==◌, nat_le, List, [], ◌∷◌, ◌++◌, length, codes, fold, sum_by, if◌then◌else◌}
use Rattle.std.specs.List.{list_all, list_any, starts_with}
use Rattle.std.specs.Fmt.{decimal}
use Rattle.std.specs.Str.{bytes_eq}
use Rattle.std.specs.Char.{len_utf8, is_ascii_alphabetic, is_ascii_digit, is_ascii_hexdigit, digit_value}

-- WhiteSpace (7.2): its own characters, and those of category Zs
abbrev pub is_white_space : ℕ → Bool
is_white_space c = (c == 9) || (c == 11) || (c == 12) || (c == 32) || (c == 160) || (c == 65279) || (c == 5760) || (nat_le 8192 c && nat_le c 8202) || (c == 8239) || (c == 8287) || (c == 12288)

-- LineTerminator (7.3)
abbrev pub is_line_terminator : ℕ → Bool
is_line_terminator c = (c == 10) || (c == 13) || (c == 8232) || (c == 8233)

-- IdentifierStart and IdentifierPart (7.6), as far as they are ASCII
abbrev pub is_identifier_start : ℕ → Bool
is_identifier_start c = is_ascii_alphabetic c || (c == 95) || (c == 36)

abbrev pub is_identifier_part : ℕ → Bool
is_identifier_part c = is_identifier_start c || is_ascii_digit c

abbrev pub is_identifier_name : List ℕ → Bool
is_identifier_name [] = false
is_identifier_name (c ∷ cs) = is_identifier_start c && list_all is_identifier_part cs

abbrev pub is_one_of : List ℕ → List (List ℕ) → Bool
is_one_of name names = list_any (bytes_eq name) names

-- ReservedWord (7.6.1), with the future reserved words of strict code
unfoldable pub reserved_words : List (List ℕ)
reserved_words =
    codes "break" ∷ codes "case" ∷ codes "catch" ∷ codes "class" ∷ codes "const" ∷ codes "continue"
    ∷ codes "debugger" ∷ codes "default" ∷ codes "delete" ∷ codes "do" ∷ codes "else" ∷ codes "enum" ∷ codes "export"
    ∷ codes "extends" ∷ codes "false" ∷ codes "finally" ∷ codes "for" ∷ codes "function" ∷ codes "if"
    ∷ codes "implements" ∷ codes "import" ∷ codes "in" ∷ codes "instanceof" ∷ codes "interface" ∷ codes "let"
    ∷ codes "new" ∷ codes "null" ∷ codes "package" ∷ codes "private" ∷ codes "protected" ∷ codes "public"
    ∷ codes "return" ∷ codes "static" ∷ codes "super" ∷ codes "switch" ∷ codes "this" ∷ codes "throw" ∷ codes "true"
    ∷ codes "try" ∷ codes "typeof" ∷ codes "var" ∷ codes "void" ∷ codes "while" ∷ codes "with" ∷ codes "yield" ∷ []

-- Punctuator and DivPunctuator (7.7)
unfoldable pub punctuators : List (List ℕ)
punctuators =
    codes "{" ∷ codes "}" ∷ codes "(" ∷ codes ")" ∷ codes "[" ∷ codes "]" ∷ codes "." ∷ codes ";" ∷ codes "," ∷ codes "<"
    ∷ codes ">" ∷ codes "<=" ∷ codes ">=" ∷ codes "==" ∷ codes "!=" ∷ codes "===" ∷ codes "!==" ∷ codes "+" ∷ codes "-"
    ∷ codes "*" ∷ codes "%" ∷ codes "++" ∷ codes "--" ∷ codes "<<" ∷ codes ">>" ∷ codes ">>>" ∷ codes "&" ∷ codes "|"
    ∷ codes "^" ∷ codes "!" ∷ codes "~" ∷ codes "&&" ∷ codes "||" ∷ codes "?" ∷ codes ":" ∷ codes "=" ∷ codes "+="
    ∷ codes "-=" ∷ codes "*=" ∷ codes "%=" ∷ codes "<<=" ∷ codes ">>=" ∷ codes ">>>=" ∷ codes "&=" ∷ codes "|="
    ∷ codes "^=" ∷ codes "/" ∷ codes "/=" ∷ []

-- A token: an IdentifierName, a numeric literal, a string literal with its units, a punctuator, or a semicolon that is
-- inserted (7.9), which is in no text.
pub data Kind5 : Type 0 where
  Word : List ℕ → Kind5
  Integer : ℕ → Kind5
  Text : List ℕ → Kind5
  Punctuator : List ℕ → Kind5
  Inserted : Kind5

-- a token, the offsets of its begin and its end, and whether a line terminator stands between it and the token before
pub record Token5 : Type 0 where
  pub begin : ℕ
  pub end : ℕ
  pub after_line : Bool
  pub kind : Kind5

-- the units of a character (6)
abbrev pub units_of : ℕ → List ℕ
units_of c = (if nat_le c 65535 then c ∷ [] else (55296 + (c - 65536) / 1024) ∷ (56320 + (c - 65536) % 1024) ∷ [])

-- the value of hexadecimal digits
abbrev pub hex_value : List ℕ → ℕ
hex_value digits = fold (λ n d. 16 * n + digit_value d) 0 digits

-- SingleEscapeCharacter (7.8.4), and the unit that it stands for: b t n v f r " ' \
abbrev pub single_escapes : List (ℕ × ℕ)
single_escapes = (98, 8) ∷ (116, 9) ∷ (110, 10) ∷ (118, 11) ∷ (102, 12) ∷ (114, 13) ∷ (34, 34) ∷ (39, 39) ∷ (92, 92) ∷ []

abbrev pub is_single_escape : ℕ → ℕ → Bool
is_single_escape c u = list_any (λ e. (e.0 == c) && (e.1 == u)) single_escapes

-- NonEscapeCharacter (7.8.4): neither of those, nor a digit, x, u or a line terminator
abbrev pub is_non_escape : ℕ → Bool
is_non_escape c = not (list_any (λ e. e.0 == c) single_escapes) && not (is_ascii_digit c) && not (c == 120) && not (c == 117) && not (is_line_terminator c)

-- LineTerminatorSequence (7.3): CR LF is one
abbrev pub is_line_terminator_sequence : List ℕ → Bool
is_line_terminator_sequence [] = false
is_line_terminator_sequence (c ∷ []) = is_line_terminator c
is_line_terminator_sequence (c ∷ d ∷ []) = (c == 13) && (d == 10)
is_line_terminator_sequence (c ∷ d ∷ e ∷ cs) = false

abbrev pub next_is : (ℕ → Bool) → List ℕ → Bool
next_is test [] = false
next_is test (c ∷ cs) = test c

-- The characters between the quotes of a string literal, and the units that they stand for (7.8.4).
pub data StringCharacters (quote : ℕ) : List ℕ → List ℕ → Type 0 where
  none : StringCharacters quote [] []
  itself : {c : ℕ} {cs us : List ℕ} → (c == quote) ≡ false → (c == 92) ≡ false → is_line_terminator c ≡ false → StringCharacters quote cs us → StringCharacters quote (c ∷ cs) (units_of c ++ us)
  single : {c u : ℕ} {cs us : List ℕ} → is_single_escape c u ≡ true → StringCharacters quote cs us → StringCharacters quote (92 ∷ c ∷ cs) (u ∷ us)
  non_escape : {c : ℕ} {cs us : List ℕ} → is_non_escape c ≡ true → StringCharacters quote cs us → StringCharacters quote (92 ∷ c ∷ cs) (units_of c ++ us)
  null_unit : {cs us : List ℕ} → next_is is_ascii_digit cs ≡ false → StringCharacters quote cs us → StringCharacters quote (92 ∷ 48 ∷ cs) (0 ∷ us)
  hexadecimal : {a b : ℕ} {cs us : List ℕ} → list_all is_ascii_hexdigit (a ∷ b ∷ []) ≡ true → StringCharacters quote cs us → StringCharacters quote (92 ∷ 120 ∷ a ∷ b ∷ cs) (hex_value (a ∷ b ∷ []) ∷ us)
  unicode : {a b c d : ℕ} {cs us : List ℕ} → list_all is_ascii_hexdigit (a ∷ b ∷ c ∷ d ∷ []) ≡ true → StringCharacters quote cs us → StringCharacters quote (92 ∷ 117 ∷ a ∷ b ∷ c ∷ d ∷ cs) (hex_value (a ∷ b ∷ c ∷ d ∷ []) ∷ us)
  continuation : (line : List ℕ) {cs us : List ℕ} → is_line_terminator_sequence line ≡ true → next_is (λ c. c == 10) cs ≡ false → StringCharacters quote cs us → StringCharacters quote (92 ∷ line ++ cs) us

-- which characters spell a token, by themselves
pub data SpellsToken : Kind5 → List ℕ → Type 0 where
  -- 7.6, reserved words included
  word : {name : List ℕ} → is_identifier_name name ≡ true → SpellsToken (Word name) name
  -- 7.8.3
  decimal_integer : {value : ℕ} → value ≤ 9007199254740991 → SpellsToken (Integer value) (decimal value)
  hexadecimal_integer : {x d : ℕ} {digits : List ℕ} → (x == 120) || (x == 88) ≡ true → list_all is_ascii_hexdigit (d ∷ digits) ≡ true → hex_value (d ∷ digits) ≤ 9007199254740991 → SpellsToken (Integer (hex_value (d ∷ digits))) (48 ∷ x ∷ d ∷ digits)
  -- 7.8.4
  double_quoted : {cs us : List ℕ} → StringCharacters 34 cs us → SpellsToken (Text us) (34 ∷ cs ++ 34 ∷ [])
  single_quoted : {cs us : List ℕ} → StringCharacters 39 cs us → SpellsToken (Text us) (39 ∷ cs ++ 39 ∷ [])
  -- 7.7
  punctuator : {p : List ℕ} → is_one_of p punctuators ≡ true → SpellsToken (Punctuator p) p

abbrev is_front_of : List ℕ → List ℕ → Bool
is_front_of front text = starts_with (λ a b. a == b) text front

-- no punctuator that is longer begins there, nor a comment
abbrev pub is_longest_punctuator : List ℕ → List ℕ → Bool
is_longest_punctuator p rest = list_all (λ q. nat_le (length q) (length p) || not (is_front_of q (p ++ rest))) (codes "//" ∷ codes "/*" ∷ punctuators)

-- a number's spelling is hexadecimal
abbrev pub is_hexadecimal : List ℕ → Bool
is_hexadecimal [] = false
is_hexadecimal (c ∷ cs) = next_is (λ x. (x == 120) || (x == 88)) cs

-- What follows a token's spelling makes no longer token of it (7): no identifier character after a name or a number (7.8.3),
-- no point after a decimal number, no digit after a point, and no longer punctuator.
abbrev pub is_whole : Kind5 → List ℕ → List ℕ → Bool
is_whole (Word name) text rest = not (next_is is_identifier_part rest)
is_whole (Integer value) text rest = not (next_is is_identifier_part rest) && (is_hexadecimal text || not (next_is (λ c. c == 46) rest))
is_whole (Text units) text rest = true
is_whole (Punctuator p) text rest = is_longest_punctuator p rest && not (bytes_eq p (codes ".") && next_is is_ascii_digit rest)
is_whole Inserted text rest = false

abbrev pub width : List ℕ → ℕ
width cs = sum_by len_utf8 cs

-- whether `*/` ends nowhere before the characters' own end (7.4)
abbrev pub has_no_end : List ℕ → Bool
has_no_end [] = true
has_no_end (c ∷ cs) = not ((c == 42) && next_is (λ d. d == 47) cs) && has_no_end cs

-- The tokens of a text from an offset on. The mark says whether a line terminator stands between the token before and
-- there; a comment with a line terminator inside counts as one (7.4).
pub data Tokens5 : ℕ → Bool → List ℕ → List Token5 → Type 0 where
  finished : {at : ℕ} {line : Bool} → Tokens5 at line [] []
  white_space : {at c : ℕ} {line : Bool} {cs : List ℕ} {ts : List Token5} → is_white_space c ≡ true → Tokens5 (at + len_utf8 c) line cs ts → Tokens5 at line (c ∷ cs) ts
  line_terminator : {at c : ℕ} {line : Bool} {cs : List ℕ} {ts : List Token5} → is_line_terminator c ≡ true → Tokens5 (at + len_utf8 c) true cs ts → Tokens5 at line (c ∷ cs) ts
  single_line_comment : {at : ℕ} {line : Bool} (text body rest : List ℕ) {ts : List Token5} → text ≡ codes "//" ++ body → list_any is_line_terminator body ≡ false → (next_is is_line_terminator rest ≡ false → rest ≡ []) → Tokens5 (at + width text) line rest ts → Tokens5 at line (text ++ rest) ts
  multi_line_comment : {at : ℕ} {line : Bool} (text body rest : List ℕ) {ts : List Token5} → text ≡ codes "/*" ++ body ++ codes "*/" → has_no_end (body ++ codes "*") ≡ true → Tokens5 (at + width text) (line || list_any is_line_terminator body) rest ts → Tokens5 at line (text ++ rest) ts
  token : {at : ℕ} {line : Bool} (text rest : List ℕ) {ts : List Token5} (kind : Kind5) → SpellsToken kind text → is_whole kind text rest ≡ true → Tokens5 (at + width text) false rest ts → Tokens5 at line (text ++ rest) (record { begin = at; end = at + width text; after_line = line; kind = kind } ∷ ts)
