-- The characters of tokens: what spells each kind, that all are printable ASCII, and that what follows makes no longer token.
use Rattle.std.proofs.Common.{◌≡◌, ℕ, zero, suc, ◌+◌, ◌-◌, ◌^◌, ◌*◌, ◌/◌, ◌%◌, ◌≤◌, ◌<◌, Bool, true, false, ◌||◌, ◌&&◌, not, nat_le, nat_lt, ◌==◌, List, [], ◌∷◌, ◌++◌, length, refl, sym, ap, subst, ◌∙◌, arith}
use Rattle.std.specs.Prelude.{codes, if◌then◌else◌}
use Rattle.std.specs.List.{list_all}
use Rattle.std.specs.Fmt.{decimal}
use Rattle.std.specs.Str.{bytes_eq}
use Rattle.std.specs.Str.Parse.{AllDigits}
use Rattle.std.specs.Char.{len_utf8, digit_value, is_ascii_digit, is_ascii_hexdigit, is_ascii_alphabetic}
use Rattle.std.proofs.lemmas.Fmt.{decimal_is_IsNumeral}
use Rattle.std.proofs.lemmas.Str.Parse.{digit_from_value}
use Rattle.std.proofs.lemmas.Str.{len_utf8_ascii}
use Rattle.std.proofs.lemmas.Slice.Eq.{bytes_eq-Decides}
use Rattle.std.proofs.lemmas.Bool.{false≢true, leb-true, le-leb, eqb-true, and_parts}
use Rattle.std.proofs.lemmas.Bool.Decides.{nat_tests}
use Rattle.std.proofs.lemmas.List.Sums.{sum_by-cons}
use Rattle.std.proofs.lemmas.List.Folds.{list_all-append}
use Rattle.es5_ast.specs.Lexical.{Kind5, Word, Integer, Text, Punctuator, Inserted, is_one_of, is_identifier_name, is_identifier_start, is_identifier_part, is_line_terminator, punctuators, hex_value, units_of, width, next_is, is_whole, is_hexadecimal, StringCharacters, none, itself, unicode, SpellsToken, word, decimal_integer, double_quoted, punctuator}
use Rattle.es5_printer.specs.declared.mark.Last.{Last}
use Rattle.es5_printer.specs.declared.mark.Last.TheVariants as last
use Rattle.es5_printer.specs.Layout.{hex_digit, is_plain_unit, escaped, unit_text, units_text, spelling, first_of, is_closer, is_follower, gap, last_of}
use Rattle.es5_printer.proofs.Tokens.{IsSpelled}

-- printable ASCII
abbrev pub is_clean : ℕ → Bool
is_clean c = nat_le 32 c && nat_le c 126

pub clean_bounds : (c : ℕ) → is_clean c ≡ true → (32 ≤ c) × (c ≤ 126)
clean_bounds c e = let p = and_parts (nat_le 32 c) (nat_le c 126) e in (leb-true 32 c p.0, leb-true c 126 p.1)

from_bounds : (c : ℕ) → 32 ≤ c → c ≤ 126 → is_clean c ≡ true
from_bounds c a b = ap (λ x. x && nat_le c 126) (le-leb 32 c a) ∙ le-leb c 126 b

pub all_append : {X : Type 0} (p : X → Bool) (xs ys : List X) → list_all p xs ≡ true → list_all p ys ≡ true → list_all p (xs ++ ys) ≡ true
all_append p xs ys a b = list_all-append p xs ys ∙ ap (λ x. x && list_all p ys) a ∙ b

or_elim : {R : Type 0} (a b : Bool) → (a || b) ≡ true → (a ≡ true → R) → (b ≡ true → R) → R
or_elim true b e f g = f refl
or_elim false b e f g = g e

or_true : (b : Bool) → (b || true) ≡ true
or_true true = refl
or_true false = refl

not_not : (b : Bool) → not (not b) ≡ true → b ≡ true
not_not true e = refl
not_not false e = e

not_false : (b : Bool) → not b ≡ false → b ≡ true
not_false true e = refl
not_false false e = sym e

and_right_false : (b : Bool) → b && false ≡ false
and_right_false true = refl
and_right_false false = refl

-- a character that equals one of which P holds
at_char : (P : ℕ → Type 0) (c n : ℕ) → P n → (c == n) ≡ true → P c
at_char P c n p e = subst P (sym (eqb-true c n e)) p

in_range_clean : (low high c : ℕ) → 32 ≤ low → high ≤ 126 → nat_le low c && nat_le c high ≡ true → is_clean c ≡ true
in_range_clean low high c a b e =
    let p = and_parts (nat_le low c) (nat_le c high) e in
    let x : low ≤ c = leb-true low c p.0 in
    let y : c ≤ high = leb-true c high p.1 in
    from_bounds c (omega arith) (omega arith)

start_clean : (c : ℕ) → is_identifier_start c ≡ true → is_clean c ≡ true
start_clean c e =
    or_elim (is_ascii_alphabetic c || (c == 95)) (c == 36) e
    (λ e1. or_elim (is_ascii_alphabetic c) (c == 95) e1
    (λ e2. or_elim (nat_le 65 c && nat_le c 90) (nat_le 97 c && nat_le c 122) e2 (in_range_clean 65 90 c (omega arith) (omega arith)) (in_range_clean 97 122 c (omega arith) (omega arith)))
    (at_char (λ z. is_clean z ≡ true) c 95 refl))
    (at_char (λ z. is_clean z ≡ true) c 36 refl)

part_clean : (c : ℕ) → is_identifier_part c ≡ true → is_clean c ≡ true
part_clean c e = or_elim (is_identifier_start c) (is_ascii_digit c) e (start_clean c) (in_range_clean 48 57 c (omega arith) (omega arith))

parts_clean : (cs : List ℕ) → list_all is_identifier_part cs ≡ true → list_all is_clean cs ≡ true
parts_clean [] e = refl
parts_clean (c ∷ cs) e =
    let p = and_parts (is_identifier_part c) (list_all is_identifier_part cs) e in
    ap (λ x. x && list_all is_clean cs) (part_clean c p.0) ∙ parts_clean cs p.1

name_clean : (name : List ℕ) → is_identifier_name name ≡ true → list_all is_clean name ≡ true
name_clean [] e = refl
name_clean (c ∷ cs) e =
    let p = and_parts (is_identifier_start c) (list_all is_identifier_part cs) e in
    ap (λ x. x && list_all is_clean cs) (start_clean c p.0) ∙ parts_clean cs p.1

digits_clean : (cs : List ℕ) → AllDigits 10 cs → list_all is_clean cs ≡ true
digits_clean [] d = refl
digits_clean (c ∷ cs) d =
    let r = digit_from_value c d.0 in
    ap (λ x. x && list_all is_clean cs) (from_bounds c (omega arith) (omega arith)) ∙ digits_clean cs d.1

-- a hexadecimal digit, by its value
abbrev IsHexDigit : ℕ → Type 0
IsHexDigit d = (is_ascii_hexdigit (hex_digit d) ≡ true) × (digit_value (hex_digit d) ≡ d) × (is_clean (hex_digit d) ≡ true)

hex_digit_is : (d : ℕ) → d < 16 → IsHexDigit d
hex_digit_is zero h = (refl, refl, refl)
hex_digit_is (suc zero) h = (refl, refl, refl)
hex_digit_is (suc (suc zero)) h = (refl, refl, refl)
hex_digit_is (suc (suc (suc zero))) h = (refl, refl, refl)
hex_digit_is (suc (suc (suc (suc zero)))) h = (refl, refl, refl)
hex_digit_is (suc (suc (suc (suc (suc zero))))) h = (refl, refl, refl)
hex_digit_is (suc (suc (suc (suc (suc (suc zero)))))) h = (refl, refl, refl)
hex_digit_is (suc (suc (suc (suc (suc (suc (suc zero))))))) h = (refl, refl, refl)
hex_digit_is (suc (suc (suc (suc (suc (suc (suc (suc zero)))))))) h = (refl, refl, refl)
hex_digit_is (suc (suc (suc (suc (suc (suc (suc (suc (suc zero))))))))) h = (refl, refl, refl)
hex_digit_is (suc (suc (suc (suc (suc (suc (suc (suc (suc (suc zero)))))))))) h = (refl, refl, refl)
hex_digit_is (suc (suc (suc (suc (suc (suc (suc (suc (suc (suc (suc zero))))))))))) h = (refl, refl, refl)
hex_digit_is (suc (suc (suc (suc (suc (suc (suc (suc (suc (suc (suc (suc zero)))))))))))) h = (refl, refl, refl)
hex_digit_is (suc (suc (suc (suc (suc (suc (suc (suc (suc (suc (suc (suc (suc zero))))))))))))) h = (refl, refl, refl)
hex_digit_is (suc (suc (suc (suc (suc (suc (suc (suc (suc (suc (suc (suc (suc (suc zero)))))))))))))) h = (refl, refl, refl)
hex_digit_is (suc (suc (suc (suc (suc (suc (suc (suc (suc (suc (suc (suc (suc (suc (suc zero))))))))))))))) h = (refl, refl, refl)
hex_digit_is (suc (suc (suc (suc (suc (suc (suc (suc (suc (suc (suc (suc (suc (suc (suc (suc d)))))))))))))))) h = absurd (omega arith)

hex_all : (a b c d : ℕ) → is_ascii_hexdigit a ≡ true → is_ascii_hexdigit b ≡ true → is_ascii_hexdigit c ≡ true → is_ascii_hexdigit d ≡ true → list_all is_ascii_hexdigit (a ∷ b ∷ c ∷ d ∷ []) ≡ true
hex_all a b c d ea eb ec ed = ap (λ x. x && list_all is_ascii_hexdigit (b ∷ c ∷ d ∷ [])) ea ∙ ap (λ x. x && list_all is_ascii_hexdigit (c ∷ d ∷ [])) eb ∙ ap (λ x. x && list_all is_ascii_hexdigit (d ∷ [])) ec ∙ ap (λ x. x && true) ed

clean_all : (a b c d : ℕ) → is_clean a ≡ true → is_clean b ≡ true → is_clean c ≡ true → is_clean d ≡ true → list_all is_clean (a ∷ b ∷ c ∷ d ∷ []) ≡ true
clean_all a b c d ea eb ec ed = ap (λ x. x && list_all is_clean (b ∷ c ∷ d ∷ [])) ea ∙ ap (λ x. x && list_all is_clean (c ∷ d ∷ [])) eb ∙ ap (λ x. x && list_all is_clean (d ∷ [])) ec ∙ ap (λ x. x && true) ed

hex_digits_value : (u : ℕ) → u < 65536 → 16 * (16 * (16 * (16 * 0 + u / 4096 % 16) + u / 256 % 16) + u / 16 % 16) + u % 16 ≡ u
hex_digits_value u h = omega arith

digit_values : (a b c d va vb vc vd : ℕ) → digit_value a ≡ va → digit_value b ≡ vb → digit_value c ≡ vc → digit_value d ≡ vd → hex_value (a ∷ b ∷ c ∷ d ∷ []) ≡ 16 * (16 * (16 * (16 * 0 + va) + vb) + vc) + vd
digit_values a b c d va vb vc vd ea eb ec ed = cc

abbrev SpellsUnit : List ℕ → ℕ → Type 0
SpellsUnit cs u = (rest us : List ℕ) → StringCharacters 34 rest us → StringCharacters 34 (cs ++ rest) (u ∷ us)

escaped_spells : (u : ℕ) → u < 65536 → SpellsUnit (escaped u) u
escaped_spells u h rest us d =
    let a = hex_digit_is (u / 4096 % 16) (omega arith) in
    let b = hex_digit_is (u / 256 % 16) (omega arith) in
    let c = hex_digit_is (u / 16 % 16) (omega arith) in
    let e = hex_digit_is (u % 16) (omega arith) in
    let value = digit_values (hex_digit (u / 4096 % 16)) (hex_digit (u / 256 % 16)) (hex_digit (u / 16 % 16)) (hex_digit (u % 16)) (u / 4096 % 16) (u / 256 % 16) (u / 16 % 16) (u % 16) a.1 b.1 c.1 e.1 ∙ hex_digits_value u h in
    subst (λ z. StringCharacters 34 (escaped u ++ rest) (z ∷ us)) value (unicode (hex_all (hex_digit (u / 4096 % 16)) (hex_digit (u / 256 % 16)) (hex_digit (u / 16 % 16)) (hex_digit (u % 16)) a.0 b.0 c.0 e.0) d)

escaped_clean : (u : ℕ) → list_all is_clean (escaped u) ≡ true
escaped_clean u =
    let a = hex_digit_is (u / 4096 % 16) (omega arith) in
    let b = hex_digit_is (u / 256 % 16) (omega arith) in
    let c = hex_digit_is (u / 16 % 16) (omega arith) in
    let e = hex_digit_is (u % 16) (omega arith) in
    clean_all (hex_digit (u / 4096 % 16)) (hex_digit (u / 256 % 16)) (hex_digit (u / 16 % 16)) (hex_digit (u % 16)) a.2 b.2 c.2 e.2

record IsPlainUnit (u : ℕ) : Type 0 where
  low : 32 ≤ u
  high : u ≤ 126
  quote : (u == 34) ≡ false
  backslash : (u == 92) ≡ false

not_true : (b : Bool) → not b ≡ true → b ≡ false
not_true true e = sym e
not_true false e = refl

plain_parts : (u : ℕ) → is_plain_unit u ≡ true → IsPlainUnit u
plain_parts u e =
    let p5 = and_parts (nat_le 32 u && nat_le u 126 && not (u == 34) && not (u == 92) && not (u == 60)) (not (u == 62)) e in
    let p4 = and_parts (nat_le 32 u && nat_le u 126 && not (u == 34) && not (u == 92)) (not (u == 60)) p5.0 in
    let p3 = and_parts (nat_le 32 u && nat_le u 126 && not (u == 34)) (not (u == 92)) p4.0 in
    let p2 = and_parts (nat_le 32 u && nat_le u 126) (not (u == 34)) p3.0 in
    let p1 = clean_bounds u p2.0 in
    record { low = p1.0; high = p1.1; quote = not_true (u == 34) p2.1; backslash = not_true (u == 92) p3.1 }

no_terminator : (u : ℕ) → 32 ≤ u → u ≤ 126 → is_line_terminator u ≡ false
no_terminator u a b = grind (arith, nat_tests)

one_unit : (u : ℕ) → u ≤ 126 → units_of u ≡ u ∷ []
one_unit u h = ap (λ b. (if b then u ∷ [] else (55296 + (u - 65536) / 1024) ∷ (56320 + (u - 65536) % 1024) ∷ [])) (le-leb u 65535 (omega arith))

plain_spells : (u : ℕ) → IsPlainUnit u → SpellsUnit (u ∷ []) u
plain_spells u p rest us d =
    subst (λ z. StringCharacters 34 (u ∷ rest) (z ++ us)) (one_unit u p.high) (itself p.quote p.backslash (no_terminator u p.low p.high) d)

unit_spells : (u : ℕ) (b : Bool) → is_plain_unit u ≡ b → u < 65536 → SpellsUnit (if b then u ∷ [] else escaped u) u
unit_spells u true e h = plain_spells u (plain_parts u e)
unit_spells u false e h = escaped_spells u h

unit_clean : (u : ℕ) (b : Bool) → is_plain_unit u ≡ b → list_all is_clean (if b then u ∷ [] else escaped u) ≡ true
unit_clean u true e = let p = plain_parts u e in ap (λ x. x && true) (from_bounds u p.low p.high)
unit_clean u false e = escaped_clean u

units_spell : (us : List ℕ) → list_all (λ u. nat_lt u 65536) us ≡ true → StringCharacters 34 (units_text us) us
units_spell [] h = none
units_spell (u ∷ us) h =
    let p = and_parts (nat_lt u 65536) (list_all (λ v. nat_lt v 65536) us) h in
    unit_spells u (is_plain_unit u) refl (leb-true (suc u) 65536 p.0) (units_text us) us (units_spell us p.1)

units_clean : (us : List ℕ) → list_all is_clean (units_text us) ≡ true
units_clean [] = refl
units_clean (u ∷ us) = all_append is_clean (unit_text u) (units_text us) (unit_clean u (is_plain_unit u) refl) (units_clean us)

equal_bytes : (xs ys : List ℕ) → bytes_eq xs ys ≡ true → xs ≡ ys
equal_bytes xs ys e = (bytes_eq-Decides xs ys).0 e

-- a test that each row of a table passes
of_row : (F : List ℕ → Bool) (p q : List ℕ) (b : Bool) → bytes_eq p q ≡ b → F q ≡ true → (bytes_eq p q ≡ false → F p ≡ true) → F p ≡ true
of_row F p q true e here there = subst (λ z. F z ≡ true) (sym (equal_bytes p q e)) here
of_row F p q false e here there = there e

in_table : (F : List ℕ → Bool) (p : List ℕ) (qs : List (List ℕ)) → is_one_of p qs ≡ true → list_all F qs ≡ true → F p ≡ true
in_table F p [] i all = absurd (false≢true i)
in_table F p (q ∷ qs) i all =
    let a = and_parts (F q) (list_all F qs) all in
    of_row F p q (bytes_eq p q) refl a.0 (λ e. in_table F p qs (sym (ap (λ b. b || is_one_of p qs) e) ∙ i) a.1)

marks_clean : list_all (λ p. list_all is_clean p) punctuators ≡ true
unfolding punctuators
marks_clean = refl

marks_nonempty : list_all (λ p. nat_lt 0 (length p)) punctuators ≡ true
unfolding punctuators
marks_nonempty = refl

small : (v : ℕ) → v ≤ 9007199254740991 → v < 2 ^ 64
small v h = omega arith

pub spelling_clean : (kind : Kind5) → IsSpelled kind → list_all is_clean (spelling kind) ≡ true
spelling_clean (Word name) i = name_clean name i
spelling_clean (Integer value) i = digits_clean (decimal value) (decimal_is_IsNumeral value (small value i)).0.1
spelling_clean (Text units) i = all_append is_clean (units_text units) (34 ∷ []) (units_clean units) refl
spelling_clean (Punctuator p) i = in_table (λ q. list_all is_clean q) p punctuators i marks_clean
spelling_clean Inserted i = absurd i

name_nonempty : (name : List ℕ) → is_identifier_name name ≡ true → 0 < length name
name_nonempty [] e = absurd (false≢true e)
name_nonempty (c ∷ cs) e = omega arith

pub spelling_nonempty : (kind : Kind5) → IsSpelled kind → 0 < length (spelling kind)
spelling_nonempty (Word name) i = name_nonempty name i
spelling_nonempty (Integer value) i = (decimal_is_IsNumeral value (small value i)).0.0
spelling_nonempty (Text units) i = omega arith
spelling_nonempty (Punctuator p) i = leb-true 1 (length p) (in_table (λ q. nat_lt 0 (length q)) p punctuators i marks_nonempty)
spelling_nonempty Inserted i = absurd i

pub spells : (kind : Kind5) → IsSpelled kind → SpellsToken kind (spelling kind)
spells (Word name) i = word i
spells (Integer value) i = decimal_integer i
spells (Text units) i = double_quoted (units_spell units i)
spells (Punctuator p) i = punctuator i
spells Inserted i = absurd i

pub clean_width : (cs : List ℕ) → list_all is_clean cs ≡ true → width cs ≡ length cs
clean_width [] e = refl
clean_width (c ∷ cs) e =
    let p = and_parts (is_clean c) (list_all is_clean cs) e in
    let b = clean_bounds c p.0 in
    let one = len_utf8_ascii c (omega arith) in
    let rest = clean_width cs p.1 in
    let sum = sum_by-cons len_utf8 c cs in
    omega arith

-- the characters that may follow directly: white space, and those before which no space is written
abbrev pub may_follow : Last → ℕ → Bool
may_follow l c = (c == 32) || (c == 10) || not (gap l c)

sign_follow : (P : ℕ → Type 0) (c : ℕ) → may_follow last.Sign c ≡ true → P 32 → P 10 → P 41 → P 93 → P 59 → P 44 → P c
sign_follow P c e p32 p10 p41 p93 p59 p44 =
    or_elim ((c == 32) || (c == 10)) (not (not (is_closer c))) e
    (λ e1. or_elim (c == 32) (c == 10) e1 (at_char P c 32 p32) (at_char P c 10 p10))
    (λ e1. or_elim ((c == 41) || (c == 93) || (c == 59)) (c == 44) (not_not (is_closer c) e1)
    (λ e2. or_elim ((c == 41) || (c == 93)) (c == 59) e2 (λ e3. or_elim (c == 41) (c == 93) e3 (at_char P c 41 p41) (at_char P c 93 p93)) (at_char P c 59 p59))
    (at_char P c 44 p44))

word_follow : (P : ℕ → Type 0) (c : ℕ) → may_follow last.Word c ≡ true → P 32 → P 10 → P 41 → P 93 → P 59 → P 44 → P 40 → P 91 → P 46 → P 58 → P c
word_follow P c e p32 p10 p41 p93 p59 p44 p40 p91 p46 p58 =
    or_elim ((c == 32) || (c == 10)) (not (not (is_closer c || is_follower c))) e
    (λ e1. or_elim (c == 32) (c == 10) e1 (at_char P c 32 p32) (at_char P c 10 p10))
    (λ e1. or_elim (is_closer c) (is_follower c) (not_not (is_closer c || is_follower c) e1)
    (λ e4. or_elim ((c == 41) || (c == 93) || (c == 59)) (c == 44) e4
    (λ e2. or_elim ((c == 41) || (c == 93)) (c == 59) e2 (λ e3. or_elim (c == 41) (c == 93) e3 (at_char P c 41 p41) (at_char P c 93 p93)) (at_char P c 59 p59))
    (at_char P c 44 p44))
    (λ e4. or_elim ((c == 40) || (c == 91) || (c == 46)) (c == 58) e4
    (λ e2. or_elim ((c == 40) || (c == 91)) (c == 46) e2 (λ e3. or_elim (c == 40) (c == 91) e3 (at_char P c 40 p40) (at_char P c 91 p91)) (at_char P c 46 p46))
    (at_char P c 58 p58)))

abbrev whole_mark : List ℕ → List ℕ → Bool
whole_mark rest p = is_whole (Punctuator p) p rest

-- `(`, `[`, `)`, `]` and `}` are whole before anything
abbrev bracket : List ℕ → Bool
bracket p = ((first_of p == 40) || (first_of p == 91)) || ((first_of p == 41) || (first_of p == 93) || (first_of p == 125))

brackets_whole : (rest : List ℕ) → list_all (λ p. not (bracket p) || whole_mark rest p) punctuators ≡ true
unfolding punctuators
brackets_whole rest = refl

points : list_all (λ p. not (first_of p == 46) || bytes_eq p (codes ".")) punctuators ≡ true
unfolding punctuators
points = refl

at_end : list_all (whole_mark []) punctuators ≡ true
unfolding punctuators
at_end = refl

before_space : (cs : List ℕ) → list_all (whole_mark (32 ∷ cs)) punctuators ≡ true
unfolding punctuators
before_space cs = refl

before_line_feed : (cs : List ℕ) → list_all (whole_mark (10 ∷ cs)) punctuators ≡ true
unfolding punctuators
before_line_feed cs = refl

before_parenthesis : (cs : List ℕ) → list_all (whole_mark (41 ∷ cs)) punctuators ≡ true
unfolding punctuators
before_parenthesis cs = refl

before_bracket : (cs : List ℕ) → list_all (whole_mark (93 ∷ cs)) punctuators ≡ true
unfolding punctuators
before_bracket cs = refl

before_semicolon : (cs : List ℕ) → list_all (whole_mark (59 ∷ cs)) punctuators ≡ true
unfolding punctuators
before_semicolon cs = refl

before_comma : (cs : List ℕ) → list_all (whole_mark (44 ∷ cs)) punctuators ≡ true
unfolding punctuators
before_comma cs = refl

implied : (a b : Bool) → (not a || b) ≡ true → a ≡ true → b ≡ true
implied true b e h = e
implied false b e h = absurd (false≢true h)

-- no identifier begins with a digit
ten : (P : ℕ → Type 0) → P 48 → P 49 → P 50 → P 51 → P 52 → P 53 → P 54 → P 55 → P 56 → P 57 → (d : ℕ) → d ≤ 9 → P (48 + d)
ten P a b c d e f g h i j zero le = a
ten P a b c d e f g h i j (suc zero) le = b
ten P a b c d e f g h i j (suc (suc zero)) le = c
ten P a b c d e f g h i j (suc (suc (suc zero))) le = d
ten P a b c d e f g h i j (suc (suc (suc (suc zero)))) le = e
ten P a b c d e f g h i j (suc (suc (suc (suc (suc zero))))) le = f
ten P a b c d e f g h i j (suc (suc (suc (suc (suc (suc zero)))))) le = g
ten P a b c d e f g h i j (suc (suc (suc (suc (suc (suc (suc zero))))))) le = h
ten P a b c d e f g h i j (suc (suc (suc (suc (suc (suc (suc (suc zero)))))))) le = i
ten P a b c d e f g h i j (suc (suc (suc (suc (suc (suc (suc (suc (suc zero))))))))) le = j
ten P a b c d e f g h i j (suc (suc (suc (suc (suc (suc (suc (suc (suc (suc n)))))))))) le = absurd (omega arith)

digit_starts_none : (c : ℕ) → is_ascii_digit c ≡ true → is_identifier_start c ≡ false
digit_starts_none c e =
    let p = and_parts (nat_le 48 c) (nat_le c 57) e in
    let low : 48 ≤ c = leb-true 48 c p.0 in
    let high : c ≤ 57 = leb-true c 57 p.1 in
    let same : 48 + (c - 48) ≡ c = omega arith in
    subst (λ z. is_identifier_start z ≡ false) same (ten (λ z. is_identifier_start z ≡ false) refl refl refl refl refl refl refl refl refl refl (c - 48) (omega arith))

no_digit_by : (c : ℕ) (b : Bool) → is_ascii_digit c ≡ b → is_identifier_start c ≡ true → is_ascii_digit c ≡ false
no_digit_by c true e s = absurd (false≢true (sym (digit_starts_none c e) ∙ s))
no_digit_by c false e s = e

after_point : (c : ℕ) → may_follow last.Point c ≡ true → is_ascii_digit c ≡ false
after_point c e =
    or_elim ((c == 32) || (c == 10)) (not (not (is_identifier_start c))) e
    (λ e1. or_elim (c == 32) (c == 10) e1 (at_char (λ z. is_ascii_digit z ≡ false) c 32 refl) (at_char (λ z. is_ascii_digit z ≡ false) c 10 refl))
    (λ e1. no_digit_by c (is_ascii_digit c) refl (not_not (is_identifier_start c) e1))

abbrev Follows : Last → List ℕ → Type 0
Follows l rest = next_is (λ c. not (may_follow l c)) rest ≡ false

point_whole : (rest : List ℕ) → Follows last.Point rest → whole_mark rest (codes ".") ≡ true
unfolding punctuators
point_whole [] h = refl
point_whole (c ∷ cs) h = ap not (after_point c (not_false (may_follow last.Point c) h))

sign_whole : (p rest : List ℕ) → is_one_of p punctuators ≡ true → Follows last.Sign rest → whole_mark rest p ≡ true
sign_whole p [] i h = in_table (whole_mark []) p punctuators i at_end
sign_whole p (c ∷ cs) i h =
    sign_follow (λ z. whole_mark (z ∷ cs) p ≡ true) c (not_false (may_follow last.Sign c) h)
    (in_table (whole_mark (32 ∷ cs)) p punctuators i (before_space cs))
    (in_table (whole_mark (10 ∷ cs)) p punctuators i (before_line_feed cs))
    (in_table (whole_mark (41 ∷ cs)) p punctuators i (before_parenthesis cs))
    (in_table (whole_mark (93 ∷ cs)) p punctuators i (before_bracket cs))
    (in_table (whole_mark (59 ∷ cs)) p punctuators i (before_semicolon cs))
    (in_table (whole_mark (44 ∷ cs)) p punctuators i (before_comma cs))

or_right : (a b : Bool) → b ≡ true → (a || b) ≡ true
or_right true b e = refl
or_right false b e = e

or_left : (a b : Bool) → a ≡ true → (a || b) ≡ true
or_left a b e = ap (λ x. x || b) e

mark_whole : (p rest : List ℕ) → is_one_of p punctuators ≡ true → (b1 b2 b3 : Bool) → ((first_of p == 40) || (first_of p == 91)) ≡ b1 → (first_of p == 46) ≡ b2 → ((first_of p == 41) || (first_of p == 93) || (first_of p == 125)) ≡ b3 → Follows (if b1 then last.Space else (if b2 then last.Point else (if b3 then last.Word else last.Sign))) rest → whole_mark rest p ≡ true
mark_whole p rest i true b2 b3 e1 e2 e3 h =
    implied (bracket p) (whole_mark rest p) (in_table (λ q. not (bracket q) || whole_mark rest q) p punctuators i (brackets_whole rest)) (or_left ((first_of p == 40) || (first_of p == 91)) ((first_of p == 41) || (first_of p == 93) || (first_of p == 125)) e1)
mark_whole p rest i false true b3 e1 e2 e3 h =
    let same = equal_bytes p (codes ".") (implied (first_of p == 46) (bytes_eq p (codes ".")) (in_table (λ q. not (first_of q == 46) || bytes_eq q (codes ".")) p punctuators i points) e2) in
    subst (λ z. whole_mark rest z ≡ true) (sym same) (point_whole rest h)
mark_whole p rest i false false true e1 e2 e3 h =
    implied (bracket p) (whole_mark rest p) (in_table (λ q. not (bracket q) || whole_mark rest q) p punctuators i (brackets_whole rest)) (or_right ((first_of p == 40) || (first_of p == 91)) ((first_of p == 41) || (first_of p == 93) || (first_of p == 125)) e3)
mark_whole p rest i false false false e1 e2 e3 h = sign_whole p rest i h

number_whole : (value : ℕ) (rest : List ℕ) → Follows last.Number rest → is_whole (Integer value) (decimal value) rest ≡ true
number_whole value [] h = or_true (is_hexadecimal (decimal value))
number_whole value (c ∷ cs) h =
    let more : Bool = is_hexadecimal (decimal value) in
    sign_follow (λ z. not (is_identifier_part z) && (more || not (z == 46)) ≡ true) c (not_false (may_follow last.Sign c) h)
    (or_true more) (or_true more) (or_true more) (or_true more) (or_true more) (or_true more)

word_whole : (name rest : List ℕ) → Follows last.Word rest → is_whole (Word name) name rest ≡ true
word_whole name [] h = refl
word_whole name (c ∷ cs) h = word_follow (λ z. not (is_identifier_part z) ≡ true) c (not_false (may_follow last.Word c) h) refl refl refl refl refl refl refl refl refl refl

-- what follows a token's spelling makes no longer token of it
pub whole_before : (kind : Kind5) → IsSpelled kind → (rest : List ℕ) → Follows (last_of kind) rest → is_whole kind (spelling kind) rest ≡ true
whole_before (Word name) i rest h = word_whole name rest h
whole_before (Integer value) i rest h = number_whole value rest h
whole_before (Text units) i rest h = refl
whole_before (Punctuator p) i rest h = mark_whole p rest i ((first_of p == 40) || (first_of p == 91)) (first_of p == 46) ((first_of p == 41) || (first_of p == 93) || (first_of p == 125)) refl refl refl h
whole_before Inserted i rest h = absurd i
