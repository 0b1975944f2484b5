-- What tokens a text has (ECMA-262, 6th edition, 11), each of them the longest.
use Rattle.std.specs.Prelude.{ℕ, zero, suc, ◌+◌, ◌-◌, ◌*◌, Bool, ◌&&◌, ◌||◌, not, ◌==◌, List, [], ◌∷◌, if◌then◌else◌, nat_le, fold, take, drop, length, slice_index}
use Rattle.std.specs.List.{prefix_len, take_while}
use Rattle.std.specs.Char.{is_ascii_digit}
use Rattle.first_forms.specs.Names.{is_name_start, is_name_part}
use Rattle.first_forms.specs.WellFormed.{is_text_unit, max_integer}
use Rattle.first_forms.specs.declared.token.Token.{Token}
use Rattle.first_forms.specs.declared.token.TokenKind.{TokenKind}
use Rattle.first_forms.specs.declared.token.TokenKind.TheVariants as kind
use Rattle.first_forms.specs.declared.lexer.Element.{Element}
use Rattle.first_forms.specs.declared.lexer.Element.TheVariants as element

-- a space or LF
abbrev pub is_gap : ℕ → Bool
is_gap b = (b == 0x20) || (b == 0x0a)

abbrev pub decimal : List ℕ → ℕ
decimal digits = fold (λ n d. 10 * n + (d - 48)) 0 digits

-- 11.6: letters, digits, `_` and `$`
abbrev pub name_at : List ℕ → Element
name_at bytes = element.Token (kind.Name (take_while is_name_part bytes)) (prefix_len is_name_part bytes)

-- 11.8.3: no zero stands before another digit, and the value is safe
abbrev pub is_integer : List ℕ → Bool
is_integer digits = (nat_le (length digits) 1 || not (slice_index digits 0 == 48)) && nat_le (decimal digits) max_integer

abbrev pub integer_of : List ℕ → Element
integer_of digits = if is_integer digits then element.Token (kind.Integer (decimal digits)) (length digits) else element.Bad

-- 11.8.4: what stands after a `"`, up to the next one
abbrev pub text_at : List ℕ → Element
text_at bytes =
    let n = prefix_len is_text_unit bytes in
    if slice_index bytes n == 34 then element.Token (kind.Text (take n bytes)) (n + 2) else element.Bad

-- 11.7
abbrev pub punctuator : ℕ → Element
punctuator b =
    if b == 123 then element.Token kind.LeftBrace 1
    else (if b == 125 then element.Token kind.RightBrace 1
    else (if b == 40 then element.Token kind.LeftParen 1
    else (if b == 41 then element.Token kind.RightParen 1
    else (if b == 44 then element.Token kind.Comma 1
    else (if b == 59 then element.Token kind.Semicolon 1
    else (if b == 43 then element.Token kind.Plus 1
    else (if b == 61 then element.Token kind.Equals 1
    else element.Bad)))))))

-- what begins with the first of these bytes, of which there is one at least
unfoldable pub element_at : List ℕ → Element
element_at bytes =
    let b = slice_index bytes 0 in
    if is_gap b then element.Gap
    else (if is_name_start b then name_at bytes
    else (if is_ascii_digit b then integer_of (take_while is_ascii_digit bytes)
    else (if b == 34 then text_at (drop 1 bytes)
    else punctuator b)))

abbrev pub token : ℕ → TokenKind → Token
token place kind = record { at = place; kind = kind }

-- the tokens from this element at this place on, where `rest` has those after that many more bytes
abbrev pub tokens_after : ℕ → Element → (ℕ → List Token) → List Token
tokens_after place element.Gap rest = rest 0
tokens_after place (element.Token kind len) rest = token place kind ∷ rest (len - 1)
tokens_after place element.Bad rest = token place kind.Bad ∷ []

-- the tokens of the bytes from this place on, of which the first `skip` belong to the token before
unfoldable pub tokens_from : ℕ → ℕ → List ℕ → List Token
tokens_from place skip [] = token place kind.End ∷ []
tokens_from place (suc skip) (b ∷ bs) = tokens_from (suc place) skip bs
tokens_from place zero (b ∷ bs) =
    tokens_after place (element_at (b ∷ bs)) (λ skip. tokens_from (suc place) skip bs)

-- all tokens of a text, each with its offset, up to the end or to the first byte that begins none
abbrev pub tokens_of : List ℕ → List Token
tokens_of bytes = tokens_from 0 0 bytes
