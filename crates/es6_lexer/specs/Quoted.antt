-- String literals (11.8.4), stretches of templates (11.8.6) and comments (11.4): how one is read.
use Rattle.std.specs.Prelude.{◌≡◌, ℕ, zero, suc, ◌+◌, ◌≤◌, Bool, true, false, not, ◌&&◌, ◌||◌, ◌==◌, nat_lt, nat_le, List, [], ◌∷◌, take, drop, slice_index, if◌then◌else◌}
use Rattle.es6_lexer.specs.declared.token.LexicalKind.TheVariants.{OpenString, OpenTemplate, OpenComment, BadEscape, LegacyOctal}
use Rattle.es6_lexer.specs.declared.shape.Element.{Element}
use Rattle.es6_lexer.specs.declared.shape.Element.TheVariants.{Finished, Skip, Take, Stop}
use Rattle.es6_lexer.specs.declared.shape.Shape.TheVariants.{OfText, OfTemplate}
use Rattle.es6_lexer.specs.declared.shape.EscapeEnd.{EscapeEnd}
use Rattle.es6_lexer.specs.declared.shape.EscapeEnd.TheVariants.{Cut, Spelled, Wrong}
use Rattle.es6_lexer.specs.Classes.{is_digit_of, is_decimal_digit, is_line_terminator, run_of}
use Rattle.es6_lexer.specs.Numbers.{digits_value}

abbrev pub is_hex : ℕ → Bool
is_hex = is_digit_of 16

-- what follows a `\`, each by its first character
abbrev pub digit_escape : List ℕ → EscapeEnd
digit_escape cs = if slice_index cs 0 == 48 && not (is_decimal_digit (slice_index cs 1)) then Spelled 1 else Wrong LegacyOctal

abbrev pub hexadecimal_escape : List ℕ → EscapeEnd
hexadecimal_escape cs = if is_hex (slice_index cs 1) && is_hex (slice_index cs 2) then Spelled 3 else Wrong BadEscape

abbrev pub is_code_point : List ℕ → Bool
is_code_point digits = nat_le (digits_value 16 digits) 0x10_FFFF

unfoldable pub braced_escape : List ℕ → EscapeEnd
braced_escape cs =
    let n = run_of is_hex (drop 2 cs) in
    if nat_lt 0 n && is_code_point (take n (drop 2 cs)) && slice_index cs (2 + n) == 125 then Spelled (n + 3) else Wrong BadEscape

abbrev pub unicode_escape : List ℕ → EscapeEnd
unicode_escape cs =
    if slice_index cs 1 == 123 then braced_escape cs
    else (if is_hex (slice_index cs 1) && is_hex (slice_index cs 2) && is_hex (slice_index cs 3) && is_hex (slice_index cs 4) then Spelled 5
    else Wrong BadEscape)

abbrev pub line_continuation : List ℕ → EscapeEnd
line_continuation cs = if slice_index cs 1 == 10 then Spelled 2 else Spelled 1

-- an escape or a line continuation behind its `\`
unfoldable pub escape : List ℕ → EscapeEnd
escape [] = Cut
escape (c ∷ cs) =
    if is_decimal_digit c then digit_escape (c ∷ cs)
    else (if c == 120 then hexadecimal_escape (c ∷ cs)
    else (if c == 117 then unicode_escape (c ∷ cs)
    else (if c == 13 then line_continuation (c ∷ cs)
    else Spelled 1)))

-- an escape has a character, and no more than there are
abbrev pub IsWithin : ℕ → EscapeEnd → Type 0
IsWithin n (Spelled k) = (1 ≤ k) × (k ≤ n)
IsWithin n Cut = Unit {0}
IsWithin n (Wrong kind) = Unit {0}

-- a string literal goes on at index i, the next `skip` characters being those of an escape
unfoldable pub text_from : ℕ → ℕ → ℕ → List ℕ → Element
text_from quote skip i [] = Stop OpenString 0
text_from quote (suc skip) i (c ∷ cs) = text_from quote skip (i + 1) cs
text_from quote zero i (c ∷ cs) =
    if c == quote then Take OfText (i + 1)
    else (if c == 92 then elim (escape cs) [ Cut ↦ Stop OpenString 0 | Wrong kind ↦ Stop kind i | Spelled n ↦ text_from quote n (i + 1) cs ]
    else (if is_line_terminator c then Stop OpenString 0
    else text_from quote 0 (i + 1) cs))

abbrev pub text_element : List ℕ → Element
text_element cs = text_from (slice_index cs 0) 0 1 (drop 1 cs)

-- a template goes on at index i
unfoldable pub template_from : ℕ → ℕ → List ℕ → Element
template_from skip i [] = Stop OpenTemplate 0
template_from (suc skip) i (c ∷ cs) = template_from skip (i + 1) cs
template_from zero i (c ∷ cs) =
    if c == 96 then Take (OfTemplate true) (i + 1)
    else (if c == 92 then elim (escape cs) [ Cut ↦ Stop OpenTemplate 0 | Wrong kind ↦ Stop kind i | Spelled n ↦ template_from n (i + 1) cs ]
    else (if c == 36 && slice_index cs 0 == 123 then Take (OfTemplate false) (i + 2)
    else template_from 0 (i + 1) cs))

abbrev pub template_element : List ℕ → Element
template_element cs = template_from 0 1 (drop 1 cs)

-- a comment goes on at index i, and has had a line terminator
unfoldable pub block_from : ℕ → Bool → List ℕ → Element
block_from i newline [] = Stop OpenComment 0
block_from i newline (c ∷ cs) =
    if c == 42 && slice_index cs 0 == 47 then Skip (i + 2) newline else block_from (i + 1) (newline || is_line_terminator c) cs

abbrev pub block_comment : List ℕ → Element
block_comment cs = block_from 2 false (drop 2 cs)
