-- The values of tokens.
use Rattle.std.specs.Prelude.{◌≡◌, ℕ, zero, suc, ◌+◌, ◌-◌, min, Bool, true, false, ◌==◌, List, [], ◌∷◌, ◌++◌, length, take, drop, slice_index, if◌then◌else◌}
use Rattle.std.specs.Str.{encode_utf8_all}
use Rattle.es_text.specs.Units.{units_of_code_point}
use Rattle.es6_lexer.specs.declared.token.TokenKind.{TokenKind}
use Rattle.es6_lexer.specs.declared.token.TokenKind.TheVariants.{Word, Punctuator, Number, Text, Template}
use Rattle.es6_lexer.specs.declared.shape.Shape.{Shape}
use Rattle.es6_lexer.specs.declared.shape.Shape.TheVariants.{OfWord, OfPunctuator, OfNumber, OfText, OfTemplate}
use Rattle.es6_lexer.specs.declared.shape.EscapeEnd.{EscapeEnd}
use Rattle.es6_lexer.specs.declared.shape.EscapeEnd.TheVariants.{Cut, Spelled, Wrong}
use Rattle.es6_lexer.specs.Classes.{is_line_terminator, run_of}
use Rattle.es6_lexer.specs.Numbers.{digits_value}
use Rattle.es6_lexer.specs.Quoted.{escape, is_hex}

-- the units of a character that `next` follows: CR LF and CR count as LF (11.8.6.1)
abbrev pub character_units : ℕ → ℕ → List ℕ
character_units c next = if c == 13 then (if next == 10 then [] else 10 ∷ []) else units_of_code_point c

-- the value of an escape's digits, which is at most 10FFFF
abbrev pub code_point : List ℕ → ℕ
code_point digits = min (digits_value 16 digits) 0x10_FFFF

-- the code point of `u` and four digits, or digits in braces
abbrev pub unicode_value : List ℕ → ℕ
unicode_value cs =
    if slice_index cs 1 == 123 then code_point (take (run_of is_hex (drop 2 cs)) (drop 2 cs)) else code_point (take 4 (drop 1 cs))

-- what a character stands for behind a `\` (table 34)
abbrev pub single_escape : ℕ → ℕ
single_escape c =
    if c == 98 then 0x8
    else (if c == 116 then 0x9
    else (if c == 110 then 0xA
    else (if c == 118 then 0xB
    else (if c == 102 then 0xC
    else (if c == 114 then 0xD
    else (if c == 48 then 0
    else c))))))

-- the units of an escape or a line continuation, behind its `\` (11.8.4.2)
unfoldable pub escape_units : List ℕ → List ℕ
escape_units [] = []
escape_units (c ∷ cs) =
    if c == 120 then units_of_code_point (code_point (take 2 cs))
    else (if c == 117 then units_of_code_point (unicode_value (c ∷ cs))
    else (if is_line_terminator c then []
    else units_of_code_point (single_escape c)))

-- how many characters the escape has behind its `\`
abbrev pub spelled_length : EscapeEnd → ℕ
spelled_length (Spelled n) = n
spelled_length Cut = 0
spelled_length (Wrong kind) = 0

abbrev pub escape_length : List ℕ → ℕ
escape_length cs = spelled_length (escape cs)

-- the units of characters and escapes, the first `skip` characters being those of an escape
unfoldable pub cooked_from : ℕ → List ℕ → List ℕ
cooked_from skip [] = []
cooked_from (suc skip) (c ∷ cs) = cooked_from skip cs
cooked_from zero (c ∷ cs) =
    if c == 92 then escape_units cs ++ cooked_from (escape_length cs) cs
    else character_units c (slice_index cs 0) ++ cooked_from 0 cs

-- the SV of a string literal's characters (11.8.4.2), the TV of a template's (11.8.6.1)
abbrev pub cooked : List ℕ → List ℕ
cooked cs = cooked_from 0 cs

-- the TRV of a template's characters (11.8.6.1)
abbrev pub raw : List ℕ → List ℕ
raw [] = []
raw (c ∷ cs) = character_units c (slice_index cs 0) ++ raw cs

-- a text without its first character and so many last ones
abbrev pub inside : ℕ → List ℕ → List ℕ
inside back text = take (length text - (1 + back)) (drop 1 text)

-- the token of a shape and a text
abbrev pub kind_of : Shape → List ℕ → TokenKind
kind_of OfWord text = Word (encode_utf8_all text)
kind_of (OfPunctuator p) text = Punctuator p
kind_of (OfNumber v) text = Number v
kind_of OfText text = Text (cooked (inside 1 text))
kind_of (OfTemplate last) text =
    let stretch = inside (if last then 1 else 2) text in
    Template (cooked stretch) (raw stretch) (slice_index text 0 == 96) last
