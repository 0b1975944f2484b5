-- The characters of what is written: they are printable ASCII or line feeds, they spell tokens of the whole grammar, and what
-- follows makes no longer token.
use Rattle.std.proofs.Common.{◌≡◌, ℕ, zero, suc, ◌+◌, ◌-◌, ◌/◌, ◌%◌, ◌^◌, ◌≤◌, ◌<◌, Bool, true, false, ◌||◌, ◌&&◌, not, nat_le, ◌==◌, List, [], ◌∷◌, ◌++◌, length, refl, sym, ap, subst, ◌∙◌, arith}
use Rattle.std.specs.Prelude.{codes, if◌then◌else◌}
use Rattle.std.specs.List.{list_all}
use Rattle.std.specs.Fmt.{decimal}
use Rattle.std.specs.Str.{IsAscii}
use Rattle.std.specs.Str.Parse.{AllDigits}
use Rattle.std.specs.Char.{len_utf8, is_ascii_digit, is_ascii_alphabetic}
use Rattle.std.proofs.lemmas.Fmt.{decimal_is_IsNumeral}
use Rattle.std.proofs.lemmas.Str.Parse.{digit_from_value}
use Rattle.std.proofs.lemmas.Str.{len_utf8_ascii}
use Rattle.std.proofs.lemmas.Bool.{false≢true, leb-true, le-leb, eqb-true, and_parts}
use Rattle.std.proofs.lemmas.Bool.Decides.{nat_tests}
use Rattle.std.proofs.lemmas.List.Sums.{sum_by-cons}
use Rattle.std.proofs.lemmas.List.Folds.{list_all-append}
use Rattle.es5_ast.specs.Lexical.{Kind5, Word, Punctuator, is_identifier_name, is_identifier_start, is_identifier_part, is_line_terminator, punctuators, units_of, width, next_is, is_whole, is_hexadecimal, StringCharacters, none, itself, SpellsToken, word, decimal_integer, double_quoted, punctuator}
use Rattle.es5_ast.specs.Lexical as lexical
use Rattle.first_script.specs.Pieces.{Token, Name, Integer, Text, LeftParen, RightParen, Comma, Semicolon, Plus, Equals, spelling, is_plain_unit}

-- the kind of a token that is written, in the whole grammar
abbrev pub kind_of : Token → Kind5
kind_of (Name name) = Word name
kind_of (Integer value) = lexical.Integer value
kind_of (Text units) = lexical.Text units
kind_of LeftParen = Punctuator (codes "(")
kind_of RightParen = Punctuator (codes ")")
kind_of Comma = Punctuator (codes ",")
kind_of Semicolon = Punctuator (codes ";")
kind_of Plus = Punctuator (codes "+")
kind_of Equals = Punctuator (codes "=")

-- what has to hold of a token by itself
abbrev pub IsToken : Token → Type 0
IsToken (Name name) = is_identifier_name name ≡ true
IsToken (Integer value) = value ≤ 9007199254740991
IsToken (Text units) = list_all is_plain_unit units ≡ true
IsToken _ = Unit {0}

-- printable ASCII
abbrev pub is_clean : ℕ → Bool
is_clean c = nat_le 32 c && nat_le c 126

clean_bounds : (c : ℕ) → is_clean c ≡ true → (32 ≤ c) × (c ≤ 126)
clean_bounds c e = let p = and_parts (nat_le 32 c) (nat_le c 126) e in (leb-true 32 c p.0, leb-true c 126 p.1)

from_bounds : (c : ℕ) → 32 ≤ c → c ≤ 126 → is_clean c ≡ true
from_bounds c a b = ap (λ x. x && nat_le c 126) (le-leb 32 c a) ∙ le-leb c 126 b

all_append : (p : ℕ → Bool) (xs ys : List ℕ) → list_all p xs ≡ true → list_all p ys ≡ true → list_all p (xs ++ ys) ≡ true
all_append p xs ys a b = list_all-append p xs ys ∙ ap (λ x. x && list_all p ys) a ∙ b

or_elim : {R : Type 0} (a b : Bool) → (a || b) ≡ true → (a ≡ true → R) → (b ≡ true → R) → R
or_elim true b e f g = f refl
or_elim false b e f g = g e

-- a character that equals one of which P holds
at_char : (P : ℕ → Type 0) (c n : ℕ) → P n → (c == n) ≡ true → P c
at_char P c n p e = subst P (sym (eqb-true c n e)) p

in_range_clean : (low high c : ℕ) → 32 ≤ low → high ≤ 126 → nat_le low c && nat_le c high ≡ true → is_clean c ≡ true
in_range_clean low high c a b e =
    let p = and_parts (nat_le low c) (nat_le c high) e in
    let x : low ≤ c = leb-true low c p.0 in
    let y : c ≤ high = leb-true c high p.1 in
    from_bounds c (omega arith) (omega arith)

start_clean : (c : ℕ) → is_identifier_start c ≡ true → is_clean c ≡ true
start_clean c e =
    or_elim (is_ascii_alphabetic c || (c == 95)) (c == 36) e
    (λ e1. or_elim (is_ascii_alphabetic c) (c == 95) e1
    (λ e2. or_elim (nat_le 65 c && nat_le c 90) (nat_le 97 c && nat_le c 122) e2 (in_range_clean 65 90 c (omega arith) (omega arith)) (in_range_clean 97 122 c (omega arith) (omega arith)))
    (at_char (λ z. is_clean z ≡ true) c 95 refl))
    (at_char (λ z. is_clean z ≡ true) c 36 refl)

part_clean : (c : ℕ) → is_identifier_part c ≡ true → is_clean c ≡ true
part_clean c e = or_elim (is_identifier_start c) (is_ascii_digit c) e (start_clean c) (in_range_clean 48 57 c (omega arith) (omega arith))

parts_clean : (cs : List ℕ) → list_all is_identifier_part cs ≡ true → list_all is_clean cs ≡ true
parts_clean [] e = refl
parts_clean (c ∷ cs) e =
    let p = and_parts (is_identifier_part c) (list_all is_identifier_part cs) e in
    ap (λ x. x && list_all is_clean cs) (part_clean c p.0) ∙ parts_clean cs p.1

name_clean : (name : List ℕ) → is_identifier_name name ≡ true → list_all is_clean name ≡ true
name_clean [] e = refl
name_clean (c ∷ cs) e =
    let p = and_parts (is_identifier_start c) (list_all is_identifier_part cs) e in
    ap (λ x. x && list_all is_clean cs) (start_clean c p.0) ∙ parts_clean cs p.1

digits_clean : (cs : List ℕ) → AllDigits 10 cs → list_all is_clean cs ≡ true
digits_clean [] d = refl
digits_clean (c ∷ cs) d =
    let r = digit_from_value c d.0 in
    ap (λ x. x && list_all is_clean cs) (from_bounds c (omega arith) (omega arith)) ∙ digits_clean cs d.1

-- a character that stands for itself in a string
record IsPlain (u : ℕ) : Type 0 where
  low : 32 ≤ u
  high : u ≤ 126
  quote : (u == 34) ≡ false
  backslash : (u == 92) ≡ false

not_true : (b : Bool) → not b ≡ true → b ≡ false
not_true true e = sym e
not_true false e = refl

plain_parts : (u : ℕ) → is_plain_unit u ≡ true → IsPlain u
plain_parts u e =
    let p3 = and_parts (nat_le 32 u && nat_le u 126 && not (u == 34)) (not (u == 92)) e in
    let p2 = and_parts (nat_le 32 u && nat_le u 126) (not (u == 34)) p3.0 in
    let p1 = clean_bounds u p2.0 in
    record { low = p1.0; high = p1.1; quote = not_true (u == 34) p2.1; backslash = not_true (u == 92) p3.1 }

no_terminator : (u : ℕ) → 32 ≤ u → u ≤ 126 → is_line_terminator u ≡ false
no_terminator u a b = grind (arith, nat_tests)

one_unit : (u : ℕ) → u ≤ 126 → units_of u ≡ u ∷ []
one_unit u h = ap (λ b. (if b then u ∷ [] else (55296 + (u - 65536) / 1024) ∷ (56320 + (u - 65536) % 1024) ∷ [])) (le-leb u 65535 (omega arith))

units_spell : (us : List ℕ) → list_all is_plain_unit us ≡ true → StringCharacters 34 us us
units_spell [] e = none
units_spell (u ∷ us) e =
    let p = and_parts (is_plain_unit u) (list_all is_plain_unit us) e in
    let plain = plain_parts u p.0 in
    subst (λ z. StringCharacters 34 (u ∷ us) (z ++ us)) (one_unit u plain.high) (itself plain.quote plain.backslash (no_terminator u plain.low plain.high) (units_spell us p.1))

units_clean : (us : List ℕ) → list_all is_plain_unit us ≡ true → list_all is_clean us ≡ true
units_clean [] e = refl
units_clean (u ∷ us) e =
    let p = and_parts (is_plain_unit u) (list_all is_plain_unit us) e in
    let plain = plain_parts u p.0 in
    ap (λ x. x && list_all is_clean us) (from_bounds u plain.low plain.high) ∙ units_clean us p.1

small : (v : ℕ) → v ≤ 9007199254740991 → v < 2 ^ 64
small v h = omega arith

spelling_clean : (token : Token) → IsToken token → list_all is_clean (spelling token) ≡ true
spelling_clean (Name name) i = name_clean name i
spelling_clean (Integer value) i = digits_clean (decimal value) (decimal_is_IsNumeral value (small value i)).0.1
spelling_clean (Text units) i = all_append is_clean units (34 ∷ []) (units_clean units i) refl
spelling_clean LeftParen i = refl
spelling_clean RightParen i = refl
spelling_clean Comma i = refl
spelling_clean Semicolon i = refl
spelling_clean Plus i = refl
spelling_clean Equals i = refl

pub spells : (token : Token) → IsToken token → SpellsToken (kind_of token) (spelling token)
unfolding punctuators
spells (Name name) i = word i
spells (Integer value) i = decimal_integer i
spells (Text units) i = double_quoted (units_spell units i)
spells LeftParen i = punctuator refl
spells RightParen i = punctuator refl
spells Comma i = punctuator refl
spells Semicolon i = punctuator refl
spells Plus i = punctuator refl
spells Equals i = punctuator refl

clean_width : (cs : List ℕ) → list_all is_clean cs ≡ true → width cs ≡ length cs
clean_width [] e = refl
clean_width (c ∷ cs) e =
    let p = and_parts (is_clean c) (list_all is_clean cs) e in
    let b = clean_bounds c p.0 in
    let one = len_utf8_ascii c (omega arith) in
    let rest = clean_width cs p.1 in
    let sum = sum_by-cons len_utf8 c cs in
    omega arith

pub spelling_width : (token : Token) → IsToken token → width (spelling token) ≡ length (spelling token)
spelling_width token i = clean_width (spelling token) (spelling_clean token i)

-- printable ASCII, or a line feed
abbrev pub is_printable : ℕ → Bool
is_printable c = is_clean c || (c == 10)

clean_printable : (cs : List ℕ) → list_all is_clean cs ≡ true → list_all is_printable cs ≡ true
clean_printable [] e = refl
clean_printable (c ∷ cs) e =
    let p = and_parts (is_clean c) (list_all is_clean cs) e in
    ap (λ x. (x || (c == 10)) && list_all is_printable cs) p.0 ∙ clean_printable cs p.1

pub spelling_printable : (token : Token) (rest : List ℕ) → IsToken token → list_all is_printable rest ≡ true → list_all is_printable (spelling token ++ rest) ≡ true
spelling_printable token rest i e = all_append is_printable (spelling token) rest (clean_printable (spelling token) (spelling_clean token i)) e

printable_small : (c : ℕ) → is_printable c ≡ true → c < 128
printable_small c e = or_elim (is_clean c) (c == 10) e (λ h. let r = clean_bounds c h in omega arith) (λ h. let same = eqb-true c 10 h in omega arith)

pub printable_ascii : (cs : List ℕ) → list_all is_printable cs ≡ true → IsAscii cs
printable_ascii [] e i = omega arith
printable_ascii (c ∷ cs) e zero = printable_small c (and_parts (is_printable c) (list_all is_printable cs) e).0
printable_ascii (c ∷ cs) e (suc i) = printable_ascii cs (and_parts (is_printable c) (list_all is_printable cs) e).1 i

-- Neither an identifier nor a number goes on with what follows.
abbrev pub goes_on : ℕ → Bool
goes_on c = is_identifier_part c || (c == 46)

abbrev pub Stops : List ℕ → Type 0
Stops rest = next_is goes_on rest ≡ false

or_false : (a b : Bool) → (a || b) ≡ false → (a ≡ false) × (b ≡ false)
or_false true b e = absurd (false≢true (sym e))
or_false false b e = (refl, e)

pub name_whole : (name rest : List ℕ) → Stops rest → is_whole (Word name) name rest ≡ true
name_whole name [] e = refl
name_whole name (c ∷ cs) e = ap not (or_false (is_identifier_part c) (c == 46) e).0

or_true : (b : Bool) → (b || true) ≡ true
or_true true = refl
or_true false = refl

pub integer_whole : (value : ℕ) (rest : List ℕ) → Stops rest → is_whole (lexical.Integer value) (decimal value) rest ≡ true
integer_whole value [] e = or_true (is_hexadecimal (decimal value))
integer_whole value (c ∷ cs) e =
    let p = or_false (is_identifier_part c) (c == 46) e in
    ap (λ x. not x && (is_hexadecimal (decimal value) || not (c == 46))) p.0 ∙ ap (λ x. is_hexadecimal (decimal value) || not x) p.1 ∙ or_true (is_hexadecimal (decimal value))

-- the punctuators that are whole before anything, and those that are written before a space
pub left_whole : (rest : List ℕ) → is_whole (Punctuator (codes "(")) (codes "(") rest ≡ true
unfolding punctuators
left_whole rest = refl

pub right_whole : (rest : List ℕ) → is_whole (Punctuator (codes ")")) (codes ")") rest ≡ true
unfolding punctuators
right_whole rest = refl

pub comma_whole : (rest : List ℕ) → is_whole (Punctuator (codes ",")) (codes ",") rest ≡ true
unfolding punctuators
comma_whole rest = refl

pub semicolon_whole : (rest : List ℕ) → is_whole (Punctuator (codes ";")) (codes ";") rest ≡ true
unfolding punctuators
semicolon_whole rest = refl

pub plus_whole : (rest : List ℕ) → is_whole (Punctuator (codes "+")) (codes "+") (32 ∷ rest) ≡ true
unfolding punctuators
plus_whole rest = refl

pub equals_whole : (rest : List ℕ) → is_whole (Punctuator (codes "=")) (codes "=") (32 ∷ rest) ≡ true
unfolding punctuators
equals_whole rest = refl
