-- No character is of two of the classes that begin elements.
use Rattle.std.proofs.Common.{◌≡◌, ℕ, ◌<◌, ◌≤◌, inl, inr, Bool, true, false, not, ◌&&◌, ◌||◌, ◌==◌, refl, sym, ap, subst, ◌∙◌, arith, lit<}
use Rattle.std.specs.Prelude.{eqb}
use Rattle.std.specs.Bool.{beq}
use Rattle.std.specs.Char.{is_ascii_alphabetic}
use Rattle.std.proofs.lemmas.Bool.{or_cases, eqb-true}
use Rattle.std.proofs.lemmas.Bool.Decides.{nat_tests}
use Rattle.ucd_table.proofs.Stepped.{zip_stepped}
use Rattle.ucd_table.proofs.Facts.{Stepped-everywhere, Stepped-below, same_from_beq}
use Rattle.ucd_derived.proofs.BinaryLemmas.{is_xid_start_stepped}
use Rattle.ucd_derived.specs.Binary.{is_xid_start}
use Rattle.ucd_category.specs.GeneralCategory.{general_category}
use Rattle.ucd_category.proofs.GeneralCategoryLemmas.{general_category_stepped}
use Rattle.ucd_category.proofs.Computing.{ucd_category}
use Rattle.unicode_ident.proofs.Computing.{unicode_ident}
use Rattle.unicode_ident.proofs.IdentLemmas.{is_xid_start-ascii}
use Rattle.lexical_grammar.proofs.TextOnly.{is_ne}
use Rattle.es6_lexer.specs.Classes.{is_space_separator, is_white_space, is_line_terminator, is_identifier_start, is_decimal_digit, is_quote}

-- no space is a letter, by the tables
space_is_no_start : (c : ℕ) → is_space_separator (general_category c) ≡ true → is_xid_start c ≡ false
unfolding unicode_ident ucd_category
space_is_no_start c h =
    let both_ways = zip_stepped (λ g x. not (is_space_separator g && x)) general_category is_xid_start general_category_stepped is_xid_start_stepped in
    let none = Stepped-everywhere _ both_ways refl c in
    from (is_space_separator (general_category c)) (is_xid_start c) h none where
      from : (a b : Bool) → a ≡ true → not (a && b) ≡ true → b ≡ false
      from true false e f = refl
      from true true e f = cc
      from false b e f = cc

ascii_space : (c : ℕ) → c < 128 → is_space_separator (general_category c) ≡ (c == 32)
unfolding ucd_category
ascii_space c h = same_from_beq _ _ (Stepped-below general_category general_category_stepped (λ x v. beq (is_space_separator v) (x == 32)) 128 refl c h)

start_of : (c : ℕ) → eqb c 36 ≡ false → eqb c 95 ≡ false → is_xid_start c ≡ false → is_identifier_start c ≡ false
start_of c a b x = rw (a, b, x) refl

no_start_a0 : is_identifier_start 0xA0 ≡ false
unfolding unicode_ident
no_start_a0 = refl

no_start_feff : is_identifier_start 0xFEFF ≡ false
unfolding unicode_ident
no_start_feff = refl

no_start_2028 : is_identifier_start 0x2028 ≡ false
unfolding unicode_ident
no_start_2028 = refl

no_start_2029 : is_identifier_start 0x2029 ≡ false
unfolding unicode_ident
no_start_2029 = refl

no_white_2028 : is_white_space 0x2028 ≡ false
unfolding ucd_category
no_white_2028 = refl

no_white_2029 : is_white_space 0x2029 ≡ false
unfolding ucd_category
no_white_2029 = refl

-- an ASCII character that is no letter, `$` or `_` begins no word
pub ascii_no_start : (c : ℕ) → c < 128 → is_ascii_alphabetic c ≡ false → eqb c 36 ≡ false → eqb c 95 ≡ false → is_identifier_start c ≡ false
ascii_no_start c h n a b = start_of c a b (is_xid_start-ascii c h ∙ n)

not_space : (c k : ℕ) → k < 128 → eqb k 32 ≡ false → is_space_separator (general_category c) ≡ true → c ≡ k → ⊥
not_space c k h n sp e = let bad = ap (λ x. is_space_separator (general_category x)) (sym e) ∙ sp in let good = ascii_space k h ∙ n in cc

pub white_is_no_start : (c : ℕ) → is_white_space c ≡ true → is_identifier_start c ≡ false
white_is_no_start c h = elim (or_cases (eqb c 0x9 || eqb c 0xB || eqb c 0xC || eqb c 0x20 || eqb c 0xA0 || eqb c 0xFEFF) _ h) [
  | inr sp ↦ start_of c (is_ne c 36 (not_space c 36 (lit< tt) refl sp)) (is_ne c 95 (not_space c 95 (lit< tt) refl sp)) (space_is_no_start c sp)
  | inl h5 ↦ elim (or_cases (eqb c 0x9 || eqb c 0xB || eqb c 0xC || eqb c 0x20 || eqb c 0xA0) _ h5) [
    | inr e ↦ ap is_identifier_start (eqb-true c 0xFEFF e) ∙ no_start_feff
    | inl h4 ↦ elim (or_cases (eqb c 0x9 || eqb c 0xB || eqb c 0xC || eqb c 0x20) _ h4) [
      | inr e ↦ ap is_identifier_start (eqb-true c 0xA0 e) ∙ no_start_a0
      | inl h3 ↦ elim (or_cases (eqb c 0x9 || eqb c 0xB || eqb c 0xC) _ h3) [
        | inr e ↦ ap is_identifier_start (eqb-true c 0x20 e) ∙ ascii_no_start 0x20 (lit< tt) refl refl refl
        | inl h2 ↦ elim (or_cases (eqb c 0x9 || eqb c 0xB) _ h2) [
          | inr e ↦ ap is_identifier_start (eqb-true c 0xC e) ∙ ascii_no_start 0xC (lit< tt) refl refl refl
          | inl h1 ↦ elim (or_cases (eqb c 0x9) _ h1) [
            | inr e ↦ ap is_identifier_start (eqb-true c 0xB e) ∙ ascii_no_start 0xB (lit< tt) refl refl refl
            | inl e ↦ ap is_identifier_start (eqb-true c 0x9 e) ∙ ascii_no_start 0x9 (lit< tt) refl refl refl
          ]
        ]
      ]
    ]
  ]
]

pub line_is_other : (c : ℕ) → is_line_terminator c ≡ true → (is_identifier_start c ≡ false) × (is_white_space c ≡ false)
line_is_other c h = elim (or_cases (eqb c 0xA || eqb c 0xD || eqb c 0x2028) _ h) [
  | inr e ↦ (ap is_identifier_start (eqb-true c 0x2029 e) ∙ no_start_2029, ap is_white_space (eqb-true c 0x2029 e) ∙ no_white_2029)
  | inl h2 ↦ elim (or_cases (eqb c 0xA || eqb c 0xD) _ h2) [
    | inr e ↦ (ap is_identifier_start (eqb-true c 0x2028 e) ∙ no_start_2028, ap is_white_space (eqb-true c 0x2028 e) ∙ no_white_2028)
    | inl h1 ↦ elim (or_cases (eqb c 0xA) _ h1) [
      | inr e ↦ (ap is_identifier_start (eqb-true c 0xD e) ∙ ascii_no_start 0xD (lit< tt) refl refl refl, ap is_white_space (eqb-true c 0xD e) ∙ ascii_space 0xD (lit< tt))
      | inl e ↦ (ap is_identifier_start (eqb-true c 0xA e) ∙ ascii_no_start 0xA (lit< tt) refl refl refl, ap is_white_space (eqb-true c 0xA e) ∙ ascii_space 0xA (lit< tt))
    ]
  ]
]

pub record IsOther (c : ℕ) : Type 0 where
  pub no_word : is_identifier_start c ≡ false
  pub no_white_space : is_white_space c ≡ false
  pub no_line_terminator : is_line_terminator c ≡ false

pub digit_is_other : (c : ℕ) → is_decimal_digit c ≡ true → IsOther c
digit_is_other c h =
    let low : 48 ≤ c = grind (arith, nat_tests) in
    let high : c ≤ 57 = grind (arith, nat_tests) in
    let small : c < 128 = omega arith in
    let no_letter : is_ascii_alphabetic c ≡ false = grind (arith, nat_tests) in
    record {
      no_word = ascii_no_start c small no_letter (is_ne c 36 (λ e. omega arith)) (is_ne c 95 (λ e. omega arith));
      no_white_space = rw (is_ne c 0x9 (λ e. omega arith), is_ne c 0xB (λ e. omega arith), is_ne c 0xC (λ e. omega arith), is_ne c 0x20 (λ e. omega arith), is_ne c 0xA0 (λ e. omega arith), is_ne c 0xFEFF (λ e. omega arith))
          (ascii_space c small ∙ is_ne c 32 (λ e. omega arith));
      no_line_terminator = rw (is_ne c 0xA (λ e. omega arith), is_ne c 0xD (λ e. omega arith), is_ne c 0x2028 (λ e. omega arith), is_ne c 0x2029 (λ e. omega arith)) refl;
    }

-- a mark is none of the classes
pub record IsMark (c : ℕ) : Type 0 where
  pub other : IsOther c
  pub no_digit : is_decimal_digit c ≡ false
  pub no_quote : is_quote c ≡ false

other_34 : IsOther 34
other_34 = record { no_word = ascii_no_start 34 (lit< tt) refl refl refl; no_white_space = ascii_space 34 (lit< tt); no_line_terminator = refl }

other_39 : IsOther 39
other_39 = record { no_word = ascii_no_start 39 (lit< tt) refl refl refl; no_white_space = ascii_space 39 (lit< tt); no_line_terminator = refl }

pub quote_is_other : (c : ℕ) → is_quote c ≡ true → IsOther c × (is_decimal_digit c ≡ false)
quote_is_other c h = elim (or_cases (eqb c 34) (eqb c 39) h) [
  | inl a ↦ (subst IsOther (sym (eqb-true c 34 a)) other_34, ap is_decimal_digit (eqb-true c 34 a))
  | inr b ↦ (subst IsOther (sym (eqb-true c 39 b)) other_39, ap is_decimal_digit (eqb-true c 39 b))
]

pub mark_96 : IsMark 96
mark_96 = record { other = record { no_word = ascii_no_start 96 (lit< tt) refl refl refl; no_white_space = ascii_space 96 (lit< tt); no_line_terminator = refl }; no_digit = refl; no_quote = refl }

pub mark_125 : IsMark 125
mark_125 = record { other = record { no_word = ascii_no_start 125 (lit< tt) refl refl refl; no_white_space = ascii_space 125 (lit< tt); no_line_terminator = refl }; no_digit = refl; no_quote = refl }

pub mark_92 : IsMark 92
mark_92 = record { other = record { no_word = ascii_no_start 92 (lit< tt) refl refl refl; no_white_space = ascii_space 92 (lit< tt); no_line_terminator = refl }; no_digit = refl; no_quote = refl }

pub mark_47 : IsMark 47
mark_47 = record { other = record { no_word = ascii_no_start 47 (lit< tt) refl refl refl; no_white_space = ascii_space 47 (lit< tt); no_line_terminator = refl }; no_digit = refl; no_quote = refl }

pub mark_46 : IsMark 46
mark_46 = record { other = record { no_word = ascii_no_start 46 (lit< tt) refl refl refl; no_white_space = ascii_space 46 (lit< tt); no_line_terminator = refl }; no_digit = refl; no_quote = refl }
