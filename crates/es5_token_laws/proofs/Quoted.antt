-- String literals are read as they are spelled.
use Rattle.std.proofs.Common.{◌≡◌, ℕ, suc, ◌+◌, ◌⊎◌, inl, inr, Bool, true, false, List, [], ◌∷◌, ◌++◌, length, refl, sym, ap, ◌∙◌, arith, append_assoc, append-nil, length-append}
use Rattle.std.specs.Prelude.{eqb, slice_index}
use Rattle.std.specs.List.{list_all}
use Rattle.std.specs.Char.{is_ascii_digit, is_ascii_hexdigit}
use Rattle.std.proofs.lemmas.Bool.{and_parts, cond-true, cond-false, eq-eqb}
use Rattle.std.proofs.lemmas.List.{drop_at}
use Rattle.es5_ast.specs.Lexical.{StringCharacters, none, itself, single, non_escape, null_unit, hexadecimal, unicode, continuation, is_line_terminator, units_of, hex_value, next_is}
use Rattle.es5_tokens.specs.declared.shape.Element.{Element}
use Rattle.es5_tokens.specs.declared.shape.Element.TheVariants.{Take, Stop}
use Rattle.es5_tokens.specs.declared.token.TokenKind.TheVariants.{Text}
use Rattle.es5_tokens.specs.declared.token.TokenFault.TheVariants.{Lexical}
use Rattle.es5_tokens.specs.declared.shape.Escape.{Escape}
use Rattle.es5_tokens.specs.declared.shape.Escape.TheVariants.{Cut, Wrong, Stands, Continues}
use Rattle.es5_tokens.specs.Elements.{element}
use Rattle.es5_tokens.specs.Quoted.{escape, text_from, text_element}
use Rattle.es5_tokens.proofs.Steps.{text_skip}
use Rattle.es5_tokens.proofs.Escapes.{one_unit, hex_small}
use Rattle.es5_token_laws.proofs.Escaped as escaped

-- a quote
abbrev pub IsQuote : ℕ → Type 0
IsQuote q = (q ≡ 34) ⊎ (q ≡ 39)

of_quotes : (f : ℕ → Bool) (v : Bool) (q : ℕ) → IsQuote q → f 34 ≡ v → f 39 ≡ v → f q ≡ v
of_quotes f v q (inl e) a b = ap f e ∙ a
of_quotes f v q (inr e) a b = ap f e ∙ b

-- the character behind an escape is one of the literal's or the quote
next_of : (test : ℕ → Bool) (q : ℕ) (body after : List ℕ) → test q ≡ false → next_is test body ≡ false → test (slice_index (body ++ (q ∷ after)) 0) ≡ false
next_of test q [] after h n = h
next_of test q (c ∷ body) after h n = n

at_slash : Escape → ℕ → List ℕ → ℕ → List ℕ → Element
at_slash v q us i cs = elim v [
  | Cut ↦ Stop Lexical 0
  | Wrong ↦ Stop Lexical i
  | Stands code n ↦ text_from q (us ++ units_of code) (i + 1) n cs
  | Continues n ↦ text_from q us (i + 1) n cs
]

slash_step : (q : ℕ) (us : List ℕ) (i : ℕ) (cs : List ℕ) (v : Escape) → IsQuote q → escape cs ≡ v → text_from q us i 0 (92 ∷ cs) ≡ at_slash v q us i cs
unfolding text_from at_slash
slash_step q us i cs v quote e = cond-false (eqb 92 q) _ _ (of_quotes (λ x. eqb 92 x) false q quote refl refl) ∙ ap (λ x. at_slash x q us i cs) e

-- an escape, whose characters stand before the rest
stands : (q : ℕ) (us : List ℕ) (i code : ℕ) (e rest : List ℕ) → IsQuote q → escape (e ++ rest) ≡ Stands code (length e) → text_from q us i 0 (92 ∷ (e ++ rest)) ≡ text_from q (us ++ units_of code) (i + 1 + length e) 0 rest
unfolding at_slash
stands q us i code e rest quote h =
    slash_step q us i (e ++ rest) (Stands code (length e)) quote h ∙ text_skip q (us ++ units_of code) (length e) (i + 1) (e ++ rest)
    ∙ ap (text_from q (us ++ units_of code) (i + 1 + length e) 0) (drop_at e rest (length e) refl)

continues : (q : ℕ) (us : List ℕ) (i : ℕ) (e rest : List ℕ) → IsQuote q → escape (e ++ rest) ≡ Continues (length e) → text_from q us i 0 (92 ∷ (e ++ rest)) ≡ text_from q us (i + 1 + length e) 0 rest
unfolding at_slash
continues q us i e rest quote h =
    slash_step q us i (e ++ rest) (Continues (length e)) quote h ∙ text_skip q us (length e) (i + 1) (e ++ rest) ∙ ap (text_from q us (i + 1 + length e) 0) (drop_at e rest (length e) refl)

plain : (q : ℕ) (us : List ℕ) (i c : ℕ) (cs : List ℕ) → eqb c q ≡ false → eqb c 92 ≡ false → is_line_terminator c ≡ false → text_from q us i 0 (c ∷ cs) ≡ text_from q (us ++ units_of c) (i + 1) 0 cs
unfolding text_from
plain q us i c cs f s l = cond-false (eqb c q) _ _ f ∙ cond-false (eqb c 92) _ _ s ∙ cond-false (is_line_terminator c) _ _ l

closes : (q : ℕ) (us : List ℕ) (i : ℕ) (cs : List ℕ) → text_from q us i 0 (q ∷ cs) ≡ Take (Text us) (i + 1)
unfolding text_from
closes q us i cs = cond-true (eqb q q) _ _ (eq-eqb q q refl)

-- characters in front that stand for units, up to the place k
in_front : (q : ℕ) (us units ws : List ℕ) (m k : ℕ) (cs after : List ℕ) → k ≡ m + length cs
    → text_from q (us ++ units) m 0 (cs ++ (q ∷ after)) ≡ text_from q ((us ++ units) ++ ws) (m + length cs) 0 (q ∷ after)
    → text_from q (us ++ units) m 0 (cs ++ (q ∷ after)) ≡ text_from q (us ++ (units ++ ws)) k 0 (q ∷ after)
in_front q us units ws m k cs after place ih =
    ih ∙ ap (λ v. text_from q v (m + length cs) 0 (q ∷ after)) (append_assoc us units ws) ∙ ap (λ n. text_from q (us ++ (units ++ ws)) n 0 (q ∷ after)) (sym place)

-- one unit
with_unit : (q u : ℕ) (us ws : List ℕ) (n : ℕ) (rest : List ℕ) → units_of u ≡ u ∷ [] → text_from q (us ++ (units_of u ++ ws)) n 0 rest ≡ text_from q (us ++ (u ∷ ws)) n 0 rest
with_unit q u us ws n rest e = ap (λ v. text_from q (us ++ (v ++ ws)) n 0 rest) e

hex_two : (a b : ℕ) → list_all is_ascii_hexdigit (a ∷ b ∷ []) ≡ true → units_of (hex_value (a ∷ b ∷ [])) ≡ hex_value (a ∷ b ∷ []) ∷ []
hex_two a b h =
    let first = and_parts (is_ascii_hexdigit a) _ h in
    let second = and_parts (is_ascii_hexdigit b) _ first.1 in
    one_unit (hex_value (a ∷ b ∷ [])) (omega (arith, hex_small a first.0, hex_small b second.0))

hex_four : (a b c d : ℕ) → list_all is_ascii_hexdigit (a ∷ b ∷ c ∷ d ∷ []) ≡ true → units_of (hex_value (a ∷ b ∷ c ∷ d ∷ [])) ≡ hex_value (a ∷ b ∷ c ∷ d ∷ []) ∷ []
hex_four a b c d h =
    let first = and_parts (is_ascii_hexdigit a) _ h in
    let second = and_parts (is_ascii_hexdigit b) _ first.1 in
    let third = and_parts (is_ascii_hexdigit c) _ second.1 in
    let fourth = and_parts (is_ascii_hexdigit d) _ third.1 in
    one_unit (hex_value (a ∷ b ∷ c ∷ d ∷ [])) (omega (arith, hex_small a first.0, hex_small b second.0, hex_small c third.0, hex_small d fourth.0))

characters : (q : ℕ) (us : List ℕ) (i : ℕ) (body ws after : List ℕ) → IsQuote q → StringCharacters q body ws → text_from q us i 0 (body ++ (q ∷ after)) ≡ text_from q (us ++ ws) (i + length body) 0 (q ∷ after)
characters q us i _ _ after quote none =
    let place : i ≡ i + 0 = omega arith in
    ap (λ v. text_from q v i 0 (q ∷ after)) (sym (append-nil us)) ∙ ap (λ n. text_from q (us ++ []) n 0 (q ∷ after)) place
characters q us i _ _ after quote (itself {c} {cs} {us = ws} f s l more) =
    plain q us i c (cs ++ (q ∷ after)) f s l
    ∙ in_front q us (units_of c) ws (i + 1) (i + suc (length cs)) cs after (omega arith) (characters q (us ++ units_of c) (i + 1) cs ws after quote more)
characters q us i _ _ after quote (single {c} {u} {cs} {us = ws} h more) =
    let row = escaped.single_escape c u (cs ++ (q ∷ after)) h in
    stands q us i u (c ∷ []) (cs ++ (q ∷ after)) quote row.0
    ∙ in_front q us (units_of u) ws (i + 1 + 1) (i + suc (suc (length cs))) cs after (omega arith) (characters q (us ++ units_of u) (i + 1 + 1) cs ws after quote more)
    ∙ with_unit q u us ws (i + suc (suc (length cs))) (q ∷ after) row.1
characters q us i _ _ after quote (non_escape {c} {cs} {us = ws} h more) =
    stands q us i c (c ∷ []) (cs ++ (q ∷ after)) quote (escaped.non_escape c (cs ++ (q ∷ after)) h)
    ∙ in_front q us (units_of c) ws (i + 1 + 1) (i + suc (suc (length cs))) cs after (omega arith) (characters q (us ++ units_of c) (i + 1 + 1) cs ws after quote more)
characters q us i _ _ after quote (null_unit {cs} {us = ws} h more) =
    let next = next_of is_ascii_digit q cs after (of_quotes is_ascii_digit false q quote refl refl) h in
    stands q us i 0 (48 ∷ []) (cs ++ (q ∷ after)) quote (escaped.null_escape (cs ++ (q ∷ after)) next)
    ∙ in_front q us (0 ∷ []) ws (i + 1 + 1) (i + suc (suc (length cs))) cs after (omega arith) (characters q (us ++ (0 ∷ [])) (i + 1 + 1) cs ws after quote more)
characters q us i _ _ after quote (hexadecimal {a} {b} {cs} {us = ws} h more) =
    let u = hex_value (a ∷ b ∷ []) in
    stands q us i u (120 ∷ a ∷ b ∷ []) (cs ++ (q ∷ after)) quote (escaped.two_digits a b (cs ++ (q ∷ after)) h)
    ∙ in_front q us (units_of u) ws (i + 1 + 3) (i + suc (suc (suc (suc (length cs))))) cs after (omega arith) (characters q (us ++ units_of u) (i + 1 + 3) cs ws after quote more)
    ∙ with_unit q u us ws (i + suc (suc (suc (suc (length cs))))) (q ∷ after) (hex_two a b h)
characters q us i _ _ after quote (unicode {a} {b} {c} {d} {cs} {us = ws} h more) =
    let u = hex_value (a ∷ b ∷ c ∷ d ∷ []) in
    stands q us i u (117 ∷ a ∷ b ∷ c ∷ d ∷ []) (cs ++ (q ∷ after)) quote (escaped.four_digits a b c d (cs ++ (q ∷ after)) h)
    ∙ in_front q us (units_of u) ws (i + 1 + 5) (i + suc (suc (suc (suc (suc (suc (length cs))))))) cs after (omega arith) (characters q (us ++ units_of u) (i + 1 + 5) cs ws after quote more)
    ∙ with_unit q u us ws (i + suc (suc (suc (suc (suc (suc (length cs))))))) (q ∷ after) (hex_four a b c d h)
characters q us i _ _ after quote (continuation line {cs} {us = ws} h n more) =
    let next = next_of (λ c. eqb c 10) q cs after (of_quotes (λ c. eqb c 10) false q quote refl refl) n in
    let place : i + 1 + length line + length cs ≡ i + suc (length (line ++ cs)) = omega (arith, length-append line cs) in
    ap (λ x. text_from q us i 0 (92 ∷ x)) (append_assoc line cs (q ∷ after))
    ∙ continues q us i line (cs ++ (q ∷ after)) quote (escaped.line_escape line (cs ++ (q ∷ after)) h next)
    ∙ characters q us (i + 1 + length line) cs ws after quote more ∙ ap (λ k. text_from q (us ++ ws) k 0 (q ∷ after)) place

begins : (q : ℕ) (cs : List ℕ) → IsQuote q → element (q ∷ cs) ≡ text_element (q ∷ cs)
unfolding element
begins q cs (inl e) = ap (λ x. element (x ∷ cs)) e ∙ ap (λ x. text_element (x ∷ cs)) (sym e)
begins q cs (inr e) = ap (λ x. element (x ∷ cs)) e ∙ ap (λ x. text_element (x ∷ cs)) (sym e)

pub quoted : (q : ℕ) (body us rest : List ℕ) → IsQuote q → StringCharacters q body us → element ((q ∷ (body ++ (q ∷ []))) ++ rest) ≡ Take (Text us) (length (q ∷ (body ++ (q ∷ []))))
quoted q body us rest quote s =
    let size : 1 + length body + 1 ≡ length (q ∷ (body ++ (q ∷ []))) = omega (arith, length-append body (q ∷ [])) in
    ap (λ x. element (q ∷ x)) (append_assoc body (q ∷ []) rest) ∙ begins q (body ++ (q ∷ rest)) quote ∙ characters q [] 1 body us rest quote s
    ∙ closes q us (1 + length body) rest ∙ ap (Take (Text us)) size
