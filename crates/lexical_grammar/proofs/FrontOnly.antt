-- What stands in front of a text by the productions is read.
use Rattle.std.proofs.Common.{◌≡◌, ℕ, suc, ◌+◌, ◌⊎◌, inl, inr, Bool, true, false, ◌&&◌, ◌||◌, List, [], ◌∷◌, ◌++◌, length, eq-eqb, refl, sym, ap, subst, ◌∙◌, arith}
use Rattle.std.specs.Prelude.{eqb, slice_index}
use Rattle.std.proofs.lemmas.Bool.{cond-true, cond-false, cases_eq}
use Rattle.es6_lexer.specs.declared.token.Token.{Token}
use Rattle.es6_lexer.specs.declared.token.LexicalKind.TheVariants.{IdentifierEscape}
use Rattle.es6_lexer.specs.declared.shape.Element.{Element}
use Rattle.es6_lexer.specs.declared.shape.Element.TheVariants.{Skip, Stop}
use Rattle.es6_lexer.specs.Classes.{is_white_space, is_line_terminator, is_not_line_terminator, is_identifier_start, is_decimal_digit, is_quote}
use Rattle.es6_lexer.specs.Punctuators.{punctuator_element}
use Rattle.es6_lexer.specs.Numbers.{number_element}
use Rattle.es6_lexer.specs.Quoted as quoted
use Rattle.es6_lexer.specs.Elements.{element, marked_element, slash_element, word_element}
use Rattle.es6_lexer.specs.Lexes.{LexesFrom, closes}
use Rattle.es6_lexer.specs.Lexes as lexes
use Rattle.lexical_grammar.specs.Tokens.{BeginsNoOther, Front, at_end, word, white_space, line_terminator, line_comment, block_comment, number, text, template, escape_outside, punctuator, TokensFrom, finished, stopped, skipped, taken}
use Rattle.lexical_grammar.proofs.ClassLemmas.{IsMark, white_is_no_start, line_is_other, digit_is_other, quote_is_other, mark_96, mark_125, mark_92, mark_47, mark_46}
use Rattle.lexical_grammar.proofs.TextOnly.{is_ne, text_only}
use Rattle.lexical_grammar.proofs.TemplateOnly.{template_only}
use Rattle.lexical_grammar.proofs.WordOnly.{word_only, run_only}
use Rattle.lexical_grammar.proofs.CommentOnly.{comment_only}
use Rattle.lexical_grammar.proofs.NumberLemmas.{number_only}
use Rattle.lexical_grammar.proofs.PunctuatorOnly.{punctuator_only}

at_word : (closing : Bool) (c : ℕ) (rest : List ℕ) → is_identifier_start c ≡ true → element closing (c ∷ rest) ≡ word_element (c ∷ rest)
unfolding element
at_word closing c rest t = cond-true (is_identifier_start c) _ _ t

at_white : (closing : Bool) (c : ℕ) (rest : List ℕ) → is_white_space c ≡ true → element closing (c ∷ rest) ≡ Skip 1 false
unfolding element
at_white closing c rest t = cond-false (is_identifier_start c) _ _ (white_is_no_start c t) ∙ cond-true (is_white_space c) _ _ t

at_line : (closing : Bool) (c : ℕ) (rest : List ℕ) → is_line_terminator c ≡ true → element closing (c ∷ rest) ≡ Skip 1 true
unfolding element
at_line closing c rest t = let o = line_is_other c t in cond-false (is_identifier_start c) _ _ o.0 ∙ cond-false (is_white_space c) _ _ o.1 ∙ cond-true (is_line_terminator c) _ _ t

at_digit : (closing : Bool) (c : ℕ) (rest : List ℕ) → is_decimal_digit c ≡ true → element closing (c ∷ rest) ≡ number_element (c ∷ rest)
unfolding element
at_digit closing c rest t =
    let o = digit_is_other c t in
    cond-false (is_identifier_start c) _ _ o.no_word ∙ cond-false (is_white_space c) _ _ o.no_white_space ∙ cond-false (is_line_terminator c) _ _ o.no_line_terminator ∙ cond-true (is_decimal_digit c) _ _ t

at_quote : (closing : Bool) (c : ℕ) (rest : List ℕ) → is_quote c ≡ true → element closing (c ∷ rest) ≡ quoted.text_element (c ∷ rest)
unfolding element
at_quote closing c rest t =
    let o = quote_is_other c t in
    cond-false (is_identifier_start c) _ _ o.0.no_word ∙ cond-false (is_white_space c) _ _ o.0.no_white_space ∙ cond-false (is_line_terminator c) _ _ o.0.no_line_terminator
    ∙ cond-false (is_decimal_digit c) _ _ o.1 ∙ cond-true (is_quote c) _ _ t

at_mark : (closing : Bool) (c : ℕ) (rest : List ℕ) → IsMark c → element closing (c ∷ rest) ≡ marked_element closing (c ∷ rest)
unfolding element
at_mark closing c rest m =
    cond-false (is_identifier_start c) _ _ m.other.no_word ∙ cond-false (is_white_space c) _ _ m.other.no_white_space ∙ cond-false (is_line_terminator c) _ _ m.other.no_line_terminator
    ∙ cond-false (is_decimal_digit c) _ _ m.no_digit ∙ cond-false (is_quote c) _ _ m.no_quote

and_false : (a : Bool) → (a && false) ≡ false
and_false true = refl
and_false false = refl

at_slash : (closing : Bool) (rest : List ℕ) → element closing (47 ∷ rest) ≡ slash_element (47 ∷ rest)
unfolding marked_element
at_slash closing rest = at_mark closing 47 rest mark_47 ∙ cond-false (closing && false) _ _ (and_false closing)

at_backslash : (closing : Bool) (rest : List ℕ) → element closing (92 ∷ rest) ≡ Stop IdentifierEscape 0
unfolding marked_element
at_backslash closing rest = at_mark closing 92 rest mark_92 ∙ cond-false (closing && false) _ _ (and_false closing)

at_point : (closing : Bool) (rest : List ℕ) → is_decimal_digit (slice_index rest 0) ≡ true → element closing (46 ∷ rest) ≡ number_element (46 ∷ rest)
unfolding marked_element
at_point closing rest d = at_mark closing 46 rest mark_46 ∙ cond-false (closing && false) _ _ (and_false closing) ∙ cond-true (is_decimal_digit (slice_index rest 0)) _ _ d

at_back_quote : (closing : Bool) (rest : List ℕ) → element closing (96 ∷ rest) ≡ quoted.template_element (96 ∷ rest)
unfolding marked_element
at_back_quote closing rest = at_mark closing 96 rest mark_96

at_brace : (rest : List ℕ) → element true (125 ∷ rest) ≡ quoted.template_element (125 ∷ rest)
unfolding marked_element
at_brace rest = at_mark true 125 rest mark_125

no_stretch : (closing : Bool) (c : ℕ) → (c ≡ 96 → ⊥) → (closing ≡ true → c ≡ 125 → ⊥) → (eqb c 96 || (closing && eqb c 125)) ≡ false
no_stretch true c a b = rw (is_ne c 96 a, is_ne c 125 (b refl)) refl
no_stretch false c a b = rw (is_ne c 96 a) refl

no_point : (c : ℕ) (digit : Bool) → (c ≡ 46 → digit ≡ false) → (eqb c 46 && digit) ≡ false
no_point c digit h = elim (cases_eq c 46) [ inl e ↦ rw (h e) (and_false (eqb c 46)) | inr n ↦ rw (is_ne c 46 n) refl ]

at_number : (closing : Bool) (rest : List ℕ) → (is_decimal_digit (slice_index rest 0) ≡ true) ⊎ ((slice_index rest 0 ≡ 46) × (is_decimal_digit (slice_index rest 1) ≡ true)) → element closing rest ≡ number_element rest
at_number closing [] (inl d) = cc
at_number closing [] (inr p) = let bad : 0 ≡ 46 = p.0 in absurd (omega arith)
at_number closing (c ∷ rest) (inl d) = at_digit closing c rest d
at_number closing (c ∷ rest) (inr p) = subst (λ x. element closing (x ∷ rest) ≡ number_element (x ∷ rest)) (sym p.0) (at_point closing rest p.1)

at_template : (closing : Bool) (c : ℕ) (rest : List ℕ) → (c ≡ 96) ⊎ ((closing ≡ true) × (c ≡ 125)) → element closing (c ∷ rest) ≡ quoted.template_element (c ∷ rest)
at_template closing c rest (inl e) = subst (λ x. element closing (x ∷ rest) ≡ quoted.template_element (x ∷ rest)) (sym e) (at_back_quote closing rest)
at_template true c rest (inr p) = subst (λ x. element true (x ∷ rest) ≡ quoted.template_element (x ∷ rest)) (sym p.1) (at_brace rest)
at_template false c rest (inr p) = let bad = p.0 in cc

-- a mark that begins nothing else begins a punctuator
at_other : (closing : Bool) (c : ℕ) (rest : List ℕ) → BeginsNoOther closing (c ∷ rest) → element closing (c ∷ rest) ≡ punctuator_element (c ∷ rest)
unfolding marked_element
at_other closing c rest b =
    let mark : IsMark c = record { other = record { no_word = b.no_word; no_white_space = b.no_white_space; no_line_terminator = b.no_line_terminator }; no_digit = b.no_digit; no_quote = b.no_quote } in
    at_mark closing c rest mark
    ∙ cond-false (eqb c 96 || (closing && eqb c 125)) _ _ (no_stretch closing c b.no_template b.no_template_part)
    ∙ cond-false (eqb c 92) _ _ (is_ne c 92 b.no_escape)
    ∙ elim (cases_eq c 47) [
      | inl e ↦ cond-true (eqb c 47) _ _ (eq-eqb c 47 e)
          ∙ cond-false (eqb (slice_index rest 0) 47) _ _ (is_ne _ 47 (λ n. b.no_comment e (inl n)))
          ∙ cond-false (eqb (slice_index rest 0) 42) _ _ (is_ne _ 42 (λ n. b.no_comment e (inr n)))
      | inr n ↦ cond-false (eqb c 47) _ _ (is_ne c 47 n) ∙ cond-false (eqb c 46 && is_decimal_digit (slice_index rest 0)) _ _ (no_point c (is_decimal_digit (slice_index rest 0)) b.no_fraction)
    ]

-- what stands in front is read
pub front_only : (closing : Bool) (rest : List ℕ) (e : Element) → Front closing rest e → element closing rest ≡ e
unfolding element
front_only closing _ _ at_end = refl
front_only closing _ _ (word c rest e t h) = at_word closing c rest t ∙ word_only c rest e h
front_only closing _ _ (white_space c rest t) = at_white closing c rest t
front_only closing _ _ (line_terminator c rest t) = at_line closing c rest t
front_only closing _ _ (line_comment cs after all stop) =
    let two : 1 + suc (length cs) ≡ 2 + length cs = omega arith in
    at_slash closing (47 ∷ (cs ++ after)) ∙ ap (λ n. Skip (1 + suc n) false) (run_only is_not_line_terminator cs after all stop) ∙ ap (λ n. Skip n false) two
front_only closing _ _ (block_comment rest e h) = at_slash closing (42 ∷ rest) ∙ comment_only 2 false rest e h
front_only closing _ _ (number rest e begin h) = at_number closing rest begin ∙ number_only rest e h
front_only closing _ _ (text quote rest e q h) = at_quote closing quote rest q ∙ text_only quote 1 rest e q h
front_only closing _ _ (template c rest e why h) = at_template closing c rest why ∙ template_only 1 rest e h
front_only closing _ _ (escape_outside rest) = at_backslash closing rest
front_only closing _ _ (punctuator c rest e b h) = at_other closing c rest b ∙ punctuator_only (c ∷ rest) e h

-- a row of gaps and tokens is what is read
pub row_only : (braces : List Bool) (newline : Bool) (offset : ℕ) (rest : List ℕ) (tokens : List Token) → TokensFrom braces newline offset rest tokens → LexesFrom braces newline offset rest tokens
row_only _ _ _ _ _ (finished braces newline offset rest f) = lexes.finished braces newline offset rest (front_only (closes braces) rest _ f)
row_only _ _ _ _ _ (stopped braces newline offset rest kind at f) = lexes.stopped braces newline offset rest kind at (front_only (closes braces) rest _ f)
row_only _ _ _ _ _ (skipped braces newline offset rest n line tokens f d) = lexes.skipped braces newline offset rest n line tokens (front_only (closes braces) rest _ f) (row_only _ _ _ _ _ d)
row_only _ _ _ _ _ (taken braces newline offset rest shape n tokens f d) = lexes.taken braces newline offset rest shape n tokens (front_only (closes braces) rest _ f) (row_only _ _ _ _ _ d)
