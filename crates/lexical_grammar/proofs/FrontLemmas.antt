-- What is read in front of a text is what its productions say.
use Rattle.std.proofs.Common.{◌≡◌, ℕ, ◌+◌, ◌⊎◌, inl, inr, Bool, true, false, ◌&&◌, ◌||◌, List, [], ◌∷◌, suc, length, take, drop, eq-eqb, refl, sym, subst, arith}
use Rattle.std.specs.Prelude.{eqb, slice_index}
use Rattle.std.proofs.lemmas.Bool.{eqb-true, eqb-false, or_cases}
use Rattle.std.proofs.lemmas.List.{take-append-drop, length-take-le}
use Rattle.es6_lexer.specs.declared.token.Token.{Token}
use Rattle.es6_lexer.specs.declared.token.LexicalKind.TheVariants.{IdentifierEscape}
use Rattle.es6_lexer.specs.Quoted as quoted
use Rattle.es6_lexer.specs.declared.shape.Element.{Element}
use Rattle.es6_lexer.specs.declared.shape.Element.TheVariants.{Skip, Stop}
use Rattle.es6_lexer.specs.Classes.{is_white_space, is_line_terminator, is_not_line_terminator, is_identifier_start, is_decimal_digit, is_quote, run_of}
use Rattle.es6_lexer.specs.Elements.{element, marked_element, slash_element}
use Rattle.es6_lexer.specs.Lexes.{LexesFrom, closes}
use Rattle.es6_lexer.specs.Lexes as lexes
use Rattle.es6_lexer.proofs.Runs.{run_within}
use Rattle.lexical_grammar.specs.Tokens.{BeginsNoOther, Front, at_end, word, white_space, line_terminator, line_comment, block_comment, number, text, template, escape_outside, punctuator, TokensFrom, finished, stopped, skipped, taken}
use Rattle.lexical_grammar.proofs.Escapes.{by_cases, both}
use Rattle.lexical_grammar.proofs.WordLemmas.{word_is, run_passes, run_ends, begins}
use Rattle.lexical_grammar.proofs.TextLemmas.{text_element_is}
use Rattle.lexical_grammar.proofs.TemplateLemmas.{template_element_is}
use Rattle.lexical_grammar.proofs.CommentLemmas.{block_comment_is}
use Rattle.lexical_grammar.proofs.NumberLemmas.{number_is}
use Rattle.lexical_grammar.proofs.PunctuatorLemmas.{punctuator_is}

-- the tests that failed before one comes to `/`, `.` and the punctuators
record IsMarked (closing : Bool) (c : ℕ) : Type 0 where
  no_word : is_identifier_start c ≡ false
  no_white_space : is_white_space c ≡ false
  no_line_terminator : is_line_terminator c ≡ false
  no_digit : is_decimal_digit c ≡ false
  no_quote : is_quote c ≡ false
  no_template : (eqb c 96 || (closing && eqb c 125)) ≡ false
  no_escape : c ≡ 92 → ⊥

or_first : (a b : Bool) → (a || b) ≡ false → a ≡ false
or_first false b h = refl
or_first true b h = cc

or_second : (a b : Bool) → (a || b) ≡ false → b ≡ false
or_second false b h = h
or_second true b h = cc

no_part : (closing : Bool) (c : ℕ) → (closing && eqb c 125) ≡ false → closing ≡ true → c ≡ 125 → ⊥
no_part true c f e d = eqb-false c 125 f d
no_part false c f e d = cc

others : (closing : Bool) (c : ℕ) (rest : List ℕ) → IsMarked closing c → (c ≡ 47 → ((slice_index rest 0 ≡ 47) ⊎ (slice_index rest 0 ≡ 42)) → ⊥) → (c ≡ 46 → is_decimal_digit (slice_index rest 0) ≡ false) → BeginsNoOther closing (c ∷ rest)
others closing c rest m slash point = record {
  no_word = m.no_word;
  no_white_space = m.no_white_space;
  no_line_terminator = m.no_line_terminator;
  no_digit = m.no_digit;
  no_quote = m.no_quote;
  no_template = eqb-false c 96 (or_first _ _ m.no_template);
  no_template_part = no_part closing c (or_second (eqb c 96) _ m.no_template);
  no_escape = m.no_escape;
  no_comment = slash;
  no_fraction = point;
}

no_point : (c : ℕ) (digit : Bool) → c ≡ 46 → (eqb c 46 && digit) ≡ false → digit ≡ false
no_point c true e f = (let one : eqb c 46 ≡ true = eq-eqb c 46 e in let both_true : (eqb c 46 && true) ≡ true = rw one refl in absurd (cc))
no_point c false e f = refl

comment : (closing : Bool) (rest : List ℕ) → Front closing (47 ∷ 47 ∷ rest) (Skip (1 + run_of is_not_line_terminator (47 ∷ rest)) false)
comment closing rest =
    let n = run_of is_not_line_terminator rest in
    let size = length-take-le n rest (run_within is_not_line_terminator rest) in
    let count : 2 + length (take n rest) ≡ 1 + suc n = omega (arith, size) in
    subst (λ k. Front closing (47 ∷ 47 ∷ rest) (Skip k false)) count
    (subst (λ x. Front closing (47 ∷ 47 ∷ x) (Skip (2 + length (take n rest)) false)) (take-append-drop n rest)
    (line_comment (take n rest) (drop n rest) (run_passes is_not_line_terminator rest) (run_ends is_not_line_terminator rest)))

slash_is : (closing : Bool) (rest : List ℕ) → IsMarked closing 47 → Front closing (47 ∷ rest) (slash_element (47 ∷ rest))
slash_is closing rest m =
    by_cases (Front closing (47 ∷ rest)) (eqb (slice_index rest 0) 47) _ _
    (λ t. let b = begins rest 46 (eqb-true (slice_index rest 0) 47 t) in
    subst (λ x. Front closing (47 ∷ x) (Skip (1 + run_of is_not_line_terminator x) false)) (sym b.1) (comment closing b.0))
    (λ f. by_cases (Front closing (47 ∷ rest)) (eqb (slice_index rest 0) 42) _ _
    (λ t. let b = begins rest 41 (eqb-true (slice_index rest 0) 42 t) in
    subst (λ x. Front closing (47 ∷ x) (quoted.block_comment (47 ∷ x))) (sym b.1) (block_comment b.0 _ (block_comment_is 47 42 b.0)))
    (λ g. punctuator 47 rest _ (others closing 47 rest m
    (λ e. λ next. elim next [ inl a ↦ eqb-false (slice_index rest 0) 47 f a | inr a ↦ eqb-false (slice_index rest 0) 42 g a ])
    (λ e. let bad : 47 ≡ 46 = e in absurd (omega arith))) (punctuator_is (47 ∷ rest))))

marked_is : (closing : Bool) (c : ℕ) (rest : List ℕ) → is_identifier_start c ≡ false → is_white_space c ≡ false → is_line_terminator c ≡ false → is_decimal_digit c ≡ false → is_quote c ≡ false → Front closing (c ∷ rest) (marked_element closing (c ∷ rest))
unfolding marked_element
marked_is closing c rest w s l d q =
    let F : Element → Type 0 = Front closing (c ∷ rest) in
    by_cases F (eqb c 96 || (closing && eqb c 125)) _ _
    (λ t. template c rest _ (elim (or_cases (eqb c 96) _ t) [ inl a ↦ inl (eqb-true c 96 a) | inr b ↦ (let p = both _ _ b in inr (p.0, eqb-true c 125 p.1)) ]) (template_element_is c rest))
    (λ t. by_cases F (eqb c 92) _ _ (λ e. subst (λ x. Front closing (x ∷ rest) (Stop IdentifierEscape 0)) (sym (eqb-true c 92 e)) (escape_outside rest))
    (λ e.
    let m : IsMarked closing c = record { no_word = w; no_white_space = s; no_line_terminator = l; no_digit = d; no_quote = q; no_template = t; no_escape = eqb-false c 92 e } in
    by_cases F (eqb c 47) _ _
    (λ x. let is = eqb-true c 47 x in subst (λ y. Front closing (y ∷ rest) (slash_element (y ∷ rest))) (sym is) (slash_is closing rest (subst (λ y. IsMarked closing y) is m)))
    (λ x. by_cases F (eqb c 46 && is_decimal_digit (slice_index rest 0)) _ _
    (λ p. let two = both _ _ p in let begin = inr (eqb-true c 46 two.0, two.1) in number (c ∷ rest) _ begin (number_is (c ∷ rest)))
    (λ p. punctuator c rest _ (others closing c rest m (λ e47. absurd (eqb-false c 47 x e47)) (λ e46. no_point c _ e46 p)) (punctuator_is (c ∷ rest))))))

pub front : (closing : Bool) (rest : List ℕ) → Front closing rest (element closing rest)
unfolding element
front closing [] = at_end
front closing (c ∷ rest) =
    let F : Element → Type 0 = Front closing (c ∷ rest) in
    by_cases F (is_identifier_start c) _ _ (λ t. word c rest _ t (word_is c rest))
    (λ w. by_cases F (is_white_space c) _ _ (λ t. white_space c rest t)
    (λ s. by_cases F (is_line_terminator c) _ _ (λ t. line_terminator c rest t)
    (λ l. by_cases F (is_decimal_digit c) _ _ (λ t. number (c ∷ rest) _ (inl t) (number_is (c ∷ rest)))
    (λ d. by_cases F (is_quote c) _ _ (λ t. text c rest _ t (text_element_is c rest))
    (λ q. marked_is closing c rest w s l d q)))))

-- the tokens that are read are a row of gaps and tokens
pub row : (braces : List Bool) (newline : Bool) (offset : ℕ) (rest : List ℕ) (tokens : List Token) → LexesFrom braces newline offset rest tokens → TokensFrom braces newline offset rest tokens
row _ _ _ _ _ (lexes.finished braces newline offset rest e) = finished braces newline offset rest (subst (λ x. Front (closes braces) rest x) e (front (closes braces) rest))
row _ _ _ _ _ (lexes.stopped braces newline offset rest kind at e) = stopped braces newline offset rest kind at (subst (λ x. Front (closes braces) rest x) e (front (closes braces) rest))
row _ _ _ _ _ (lexes.skipped braces newline offset rest n line tokens e d) =
    skipped braces newline offset rest n line tokens (subst (λ x. Front (closes braces) rest x) e (front (closes braces) rest)) (row _ _ _ _ _ d)
row _ _ _ _ _ (lexes.taken braces newline offset rest shape n tokens e d) =
    taken braces newline offset rest shape n tokens (subst (λ x. Front (closes braces) rest x) e (front (closes braces) rest)) (row _ _ _ _ _ d)
