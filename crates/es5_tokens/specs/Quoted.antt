-- String literals (ECMA-262, 5.1 edition, 7.8.4) and comments (7.4): how one is read.
use Rattle.std.specs.Prelude.{ℕ, zero, suc, ◌+◌, ◌<◌, ◌≤◌, Bool, false, not, ◌&&◌, ◌||◌, ◌==◌, List, [], ◌∷◌, ◌++◌, drop, slice_index, if◌then◌else◌}
use Rattle.std.specs.Char.{is_ascii_digit, is_ascii_hexdigit}
use Rattle.es5_ast.specs.Lexical.{is_line_terminator, units_of, hex_value, single_escapes}
use Rattle.es5_tokens.specs.declared.token.TokenKind.TheVariants.{Text}
use Rattle.es5_tokens.specs.declared.token.TokenFault.TheVariants.{Lexical}
use Rattle.es5_tokens.specs.declared.shape.Element.{Element}
use Rattle.es5_tokens.specs.declared.shape.Element.TheVariants.{Skip, Take, Stop}
use Rattle.es5_tokens.specs.declared.shape.Escape.{Escape}
use Rattle.es5_tokens.specs.declared.shape.Escape.TheVariants.{Cut, Wrong, Stands, Continues}

-- `"` and `'`
abbrev pub is_quote : ℕ → Bool
is_quote c = c == 34 || c == 39

-- what a character stands for behind a `\`, by rows of which a character in none stands for itself
abbrev pub escaped_by : List (ℕ × ℕ) → ℕ → ℕ
escaped_by [] c = c
escaped_by (row ∷ rows) c = if row.0 == c then row.1 else escaped_by rows c

abbrev pub escaped : ℕ → ℕ
escaped c = escaped_by single_escapes c

-- what follows a `\`, each by its first character
unfoldable pub digit_escape : List ℕ → Escape
digit_escape cs = if slice_index cs 0 == 48 && not (is_ascii_digit (slice_index cs 1)) then Stands 0 1 else Wrong

unfoldable pub hexadecimal_escape : List ℕ → Escape
hexadecimal_escape cs =
    let a = slice_index cs 1 in
    let b = slice_index cs 2 in
    if is_ascii_hexdigit a && is_ascii_hexdigit b then Stands (hex_value (a ∷ b ∷ [])) 3 else Wrong

unfoldable pub unicode_escape : List ℕ → Escape
unicode_escape cs =
    let a = slice_index cs 1 in
    let b = slice_index cs 2 in
    let c = slice_index cs 3 in
    let d = slice_index cs 4 in
    if is_ascii_hexdigit a && is_ascii_hexdigit b && is_ascii_hexdigit c && is_ascii_hexdigit d then Stands (hex_value (a ∷ b ∷ c ∷ d ∷ [])) 5 else Wrong

unfoldable pub plain_escape : List ℕ → Escape
plain_escape cs =
    let c = slice_index cs 0 in
    if c == 13 && slice_index cs 1 == 10 then Continues 2
    else (if is_line_terminator c then Continues 1
    else Stands (escaped c) 1)

-- an escape or a line continuation behind its `\`
unfoldable pub escape : List ℕ → Escape
escape [] = Cut
escape (c ∷ cs) =
    if is_ascii_digit c then digit_escape (c ∷ cs)
    else (if c == 120 then hexadecimal_escape (c ∷ cs)
    else (if c == 117 then unicode_escape (c ∷ cs)
    else plain_escape (c ∷ cs)))

-- an escape has a character, and no more than there are
abbrev pub IsWithin : ℕ → Escape → Type 0
IsWithin n (Stands code k) = (code < 0x11_0000) × (1 ≤ k) × (k ≤ n)
IsWithin n (Continues k) = (1 ≤ k) × (k ≤ n)
IsWithin n Cut = Unit {0}
IsWithin n Wrong = Unit {0}

-- a string literal goes on at index i, its units so far being these and the next `skip` characters those of an escape
unfoldable pub text_from : ℕ → List ℕ → ℕ → ℕ → List ℕ → Element
text_from quote us i skip [] = Stop Lexical 0
text_from quote us i (suc skip) (c ∷ cs) = text_from quote us (i + 1) skip cs
text_from quote us i zero (c ∷ cs) =
    if c == quote then Take (Text us) (i + 1)
    else (if c == 92 then elim (escape cs) [
      | Cut ↦ Stop Lexical 0
      | Wrong ↦ Stop Lexical i
      | Stands code n ↦ text_from quote (us ++ units_of code) (i + 1) n cs
      | Continues n ↦ text_from quote us (i + 1) n cs
    ]
    else (if is_line_terminator c then Stop Lexical 0
    else text_from quote (us ++ units_of c) (i + 1) 0 cs))

abbrev pub text_element : List ℕ → Element
text_element cs = text_from (slice_index cs 0) [] 1 0 (drop 1 cs)

-- a comment goes on at index i, and has had a line terminator
unfoldable pub block_from : ℕ → Bool → List ℕ → Element
block_from i line [] = Stop Lexical 0
block_from i line (c ∷ cs) =
    if c == 42 && slice_index cs 0 == 47 then Skip (i + 2) line else block_from (i + 1) (line || is_line_terminator c) cs

abbrev pub block_comment : List ℕ → Element
block_comment cs = block_from 2 false (drop 2 cs)
