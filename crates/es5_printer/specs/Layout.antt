-- What the pieces are as characters: where spaces stand between tokens, where lines end, and at which places the marked
-- calls begin.
use Rattle.std.specs.Prelude.{ℕ, ◌+◌, ◌-◌, ◌/◌, ◌%◌, Bool, true, false, ◌&&◌, ◌||◌, not, ◌==◌, nat_le, nat_lt, List, [], ◌∷◌, ◌++◌, length, if◌then◌else◌}
use Rattle.std.specs.Fmt.{decimal}
use Rattle.es_outside.specs.declared.events.Site.{Site}
use Rattle.es5_ast.specs.Lexical.{Kind5, Word, Integer, Text, Punctuator, Inserted, is_identifier_start}
use Rattle.es5_printer.specs.declared.mark.Mark.{Mark}
use Rattle.es5_printer.specs.declared.mark.Last.{Last}
use Rattle.es5_printer.specs.declared.mark.Last.TheVariants as last
use Rattle.es5_ast.specs.declared.tree.Stat5.{Stat5}
use Rattle.es5_printer.specs.Pieces.{Piece, Lexeme, Begins, LineEnd, stats_pieces}

-- a hexadecimal digit
abbrev pub hex_digit : ℕ → ℕ
hex_digit d = (if nat_lt d 10 then 48 + d else 87 + d)

-- The units that stand for themselves in a text: printable ASCII but the quote, the backslash, and `<` and `>`, so that no
-- text has `<!--` or `-->`, which begin comments in older engines (6th edition, B.1.3).
abbrev pub is_plain_unit : ℕ → Bool
is_plain_unit u = nat_le 32 u && nat_le u 126 && not (u == 34) && not (u == 92) && not (u == 60) && not (u == 62)

-- UnicodeEscapeSequence (7.8.4)
abbrev pub escaped : ℕ → List ℕ
escaped u = 92 ∷ 117 ∷ hex_digit (u / 4096 % 16) ∷ hex_digit (u / 256 % 16) ∷ hex_digit (u / 16 % 16) ∷ hex_digit (u % 16) ∷ []

abbrev pub unit_text : ℕ → List ℕ
unit_text u = (if is_plain_unit u then u ∷ [] else escaped u)

abbrev pub units_text : List ℕ → List ℕ
units_text [] = []
units_text (u ∷ us) = unit_text u ++ units_text us

abbrev pub spelling : Kind5 → List ℕ
spelling (Word name) = name
spelling (Integer value) = decimal value
spelling (Text units) = 34 ∷ units_text units ++ 34 ∷ []
spelling (Punctuator p) = p
spelling Inserted = []

abbrev pub first_of : List ℕ → ℕ
first_of [] = 0
first_of (c ∷ cs) = c

-- `)` `]` `;` `,`, before which no space stands
abbrev pub is_closer : ℕ → Bool
is_closer c = (c == 41) || (c == 93) || (c == 59) || (c == 44)

-- `(` `[` `.` `:`, before which no space stands after a word, a text or a closing bracket
abbrev pub is_follower : ℕ → Bool
is_follower c = (c == 40) || (c == 91) || (c == 46) || (c == 58)

-- whether a space stands between what came last and a token that begins with this character
abbrev pub gap : Last → ℕ → Bool
gap last.Space c = false
gap last.Point c = not (is_identifier_start c)
gap last.Word c = not (is_closer c || is_follower c)
gap last.Number c = not (is_closer c)
gap last.Sign c = not (is_closer c)

-- what a punctuator is to what follows, by its first character
abbrev pub last_of_mark : ℕ → Last
last_of_mark c = (if (c == 40) || (c == 91) then last.Space else (if c == 46 then last.Point else (if (c == 41) || (c == 93) || (c == 125) then last.Word else last.Sign)))

abbrev pub last_of : Kind5 → Last
last_of (Word name) = last.Word
last_of (Integer value) = last.Number
last_of (Text units) = last.Word
last_of (Punctuator p) = last_of_mark (first_of p)
last_of Inserted = last.Sign

-- What is written so far: the bytes, the number of the line and the offset at which it begins, what came last, and the
-- marks.
pub record Written : Type 0 where
  pub bytes : List ℕ
  pub line : ℕ
  pub start : ℕ
  pub last : Last
  pub marks : List Mark

abbrev pub space : Bool → List ℕ
space true = 32 ∷ []
space false = []

abbrev pub with_token : Written → List ℕ → Last → Written
with_token s text after = record { bytes = s.bytes ++ space (gap s.last (first_of text)) ++ text; line = s.line; start = s.start; last = after; marks = s.marks }

abbrev pub with_line : Written → Written
with_line s = record { bytes = s.bytes ++ 10 ∷ []; line = s.line + 1; start = length s.bytes + 1; last = last.Space; marks = s.marks }

abbrev pub with_gap : Written → Written
with_gap s = record { bytes = s.bytes ++ space (gap s.last 0); line = s.line; start = s.start; last = last.Space; marks = s.marks }

-- No mark stands beyond this column.
abbrev pub limit : ℕ
limit = 100

abbrev pub is_full : Written → Bool
is_full s = nat_le limit (length s.bytes - s.start)

-- where a call with a site begins: after a space or on a new line
abbrev pub settled : Bool → Written → Written
settled true s = with_line s
settled false s = with_gap s

abbrev pub with_mark : Written → Site → Written
with_mark s site = record { bytes = s.bytes; line = s.line; start = s.start; last = s.last; marks = s.marks ++ record { generated = record { line = s.line; column = length s.bytes - s.start }; site = site } ∷ [] }

abbrev pub with_piece : Written → Piece → Written
with_piece s (Lexeme kind) = with_token s (spelling kind) (last_of kind)
with_piece s (Begins site) = with_mark (settled (is_full s) s) site
with_piece s LineEnd = with_line s

unfoldable pub written : Written → List Piece → Written
written s [] = s
written s (p ∷ ps) = written (with_piece s p) ps

-- nothing
abbrev pub blank : Written
blank = record { bytes = []; line = 0; start = 0; last = last.Space; marks = [] }

-- the text of a script's statements
abbrev pub text_of : List Stat5 → Written
text_of statements = written blank (stats_pieces statements)
