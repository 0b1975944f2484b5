-- What the definition says of a text's tokens is how they are read.
use Rattle.std.proofs.Common.{◌≡◌, ℕ, ◌+◌, ◌≤◌, inl, inr, Bool, true, false, ◌||◌, List, [], ◌∷◌, ◌++◌, length, take, map, refl, sym, ap, subst, ◌∙◌, arith}
use Rattle.std.specs.Prelude.{eqb, not, Option, None}
use Rattle.std.specs.Char.{len_utf8, is_ascii_digit}
use Rattle.std.specs.List.{list_any}
use Rattle.std.proofs.lemmas.Fmt.{digits_decimal}
use Rattle.std.proofs.lemmas.Bool.{and_parts, not-true, or_cases, or_from, ne_eqb}
use Rattle.std.proofs.lemmas.List.{take_at, drop_at}
use Rattle.std.specs.Fmt as fmt
use Rattle.es5_ast.specs.Lexical.{Kind5, Token5, Tokens5, SpellsToken, is_whole, is_hexadecimal, is_line_terminator, next_is, width, is_longest_punctuator, hex_value}
use Rattle.es5_ast.specs.Lexical as lexical
use Rattle.es5_tokens.specs.declared.token.Token.{Token}
use Rattle.es5_tokens.specs.declared.token.TokenKind.{TokenKind}
use Rattle.es5_tokens.specs.declared.token.TokenKind.TheVariants.{Word, Integer, Text, Punctuator}
use Rattle.es5_tokens.specs.declared.token.TokenFault.{TokenFault}
use Rattle.es5_tokens.specs.declared.shape.Element.TheVariants.{Skip, Take, Finished}
use Rattle.es5_tokens.specs.Elements.{element}
use Rattle.es5_tokens.specs.Lexes.{LexesFrom, finished, skipped, taken, token_at}
use Rattle.es5_tokens.specs.Tokens.{kind5, token5}
use Rattle.es5_tokens.proofs.Digits.{own, AreDigits, in_range}
use Rattle.es5_token_laws.proofs.Characters.{white_element, line_element}
use Rattle.es5_token_laws.proofs.Gaps.{line_comment, block_comment}
use Rattle.es5_token_laws.proofs.Numbers.{word, decimal_number, hexadecimal_number}
use Rattle.es5_token_laws.proofs.Quoted.{quoted}
use Rattle.es5_token_laws.proofs.Marks.{punctuator_reads}
use Rattle.es5_token_laws.proofs.Unique.{same_tokens}

-- a token is read where it is spelled, before what makes no longer token of it
abbrev IsTaken : Kind5 → List ℕ → List ℕ → Type 0
IsTaken kind text rest = (k : TokenKind) × (kind5 k ≡ kind) × (element (text ++ rest) ≡ Take k (length text))

no_point : (text rest : List ℕ) → is_hexadecimal text ≡ false → (is_hexadecimal text || not (next_is (λ c. eqb c 46) rest)) ≡ true → next_is (λ c. eqb c 46) rest ≡ false
no_point text rest f h = elim (or_cases (is_hexadecimal text) _ h) [ inl t ↦ (let bad : true ≡ false = sym t ∙ f in absurd (cc)) | inr n ↦ not-true _ n ]

-- the second character of a decimal number is no `x`
plain_digits : (value : ℕ) → value ≤ 9007199254740991 → is_hexadecimal (fmt.decimal value) ≡ false
plain_digits value small = second (fmt.decimal value) (digits_decimal own value (omega arith)) where
  second : (ds : List ℕ) → AreDigits ds → is_hexadecimal ds ≡ false
  second [] h = refl
  second (d ∷ []) h = refl
  second (d ∷ e ∷ ds) h =
      let digit = in_range e (and_parts (is_ascii_digit e) _ (and_parts (is_ascii_digit d) _ h).1).0 in
      or_from (eqb e 120) _ (ne_eqb e 120 (λ z. let most = digit.1 in omega arith)) (ne_eqb e 88 (λ z. let most = digit.1 in omega arith))

taken_as : (kind : Kind5) (text rest : List ℕ) → SpellsToken kind text → is_whole kind text rest ≡ true → IsTaken kind text rest
taken_as _ _ rest (lexical.word {name} h) whole = (Word name, refl, word name rest h (not-true _ whole))
taken_as _ _ rest (lexical.decimal_integer {value} small) whole =
    let two = and_parts _ _ whole in
    (Integer value, refl, decimal_number value rest small (not-true _ two.0) (no_point (fmt.decimal value) rest (plain_digits value small) two.1))
taken_as _ _ rest (lexical.hexadecimal_integer {x} {d} {digits} e h small) whole =
    (Integer (hex_value (d ∷ digits)), refl, hexadecimal_number x (d ∷ digits) rest e h (omega arith) (not-true _ (and_parts _ _ whole).0) small)
taken_as _ _ rest (lexical.double_quoted {cs} {us} s) whole = (Text us, refl, quoted 34 cs us rest (inl refl) s)
taken_as _ _ rest (lexical.single_quoted {cs} {us} s) whole = (Text us, refl, quoted 39 cs us rest (inr refl) s)
taken_as _ _ rest (lexical.punctuator {p} h) whole =
    let two = and_parts (is_longest_punctuator p rest) _ whole in
    let found = punctuator_reads p rest h two.0 two.1 in
    (Punctuator found.0, ap lexical.Punctuator found.1, found.2)

-- tokens that are read up to the end
abbrev AreLexed : Bool → ℕ → List ℕ → List Token5 → Type 0
AreLexed line at text ts = (tokens : List Token) × (end : ℕ) × (map token5 tokens ≡ ts) × LexesFrom line at text tokens end None

skip_lexed : (line : Bool) (at : ℕ) (text rest : List ℕ) (more : Bool) (ts : List Token5) → element (text ++ rest) ≡ Skip (length text) more → AreLexed (line || more) (at + width text) rest ts → AreLexed line at (text ++ rest) ts
skip_lexed line at text rest more ts e (tokens, end, same, d) =
    let n = length text in
    let front = take_at text rest n refl in
    let back = drop_at text rest n refl in
    let moved = subst (λ x. LexesFrom (line || more) (at + width x) rest tokens end None) (sym front) d in
    let behind = subst (λ x. LexesFrom (line || more) (at + width (take n (text ++ rest))) x tokens end None) (sym back) moved in
    (tokens, end, same, skipped line at (text ++ rest) n more tokens end None e behind)

take_lexed : (line : Bool) (at : ℕ) (text rest : List ℕ) (kind : Kind5) (ts : List Token5) → IsTaken kind text rest → AreLexed false (at + width text) rest ts
    → AreLexed line at (text ++ rest) (record { begin = at; end = at + width text; after_line = line; kind = kind } ∷ ts)
take_lexed line at text rest kind ts (k, is, e) (tokens, end, same, d) =
    let n = length text in
    let front = take_at text rest n refl in
    let back = drop_at text rest n refl in
    let moved = subst (λ x. LexesFrom false (at + width x) rest tokens end None) (sym front) d in
    let behind = subst (λ x. LexesFrom false (at + width (take n (text ++ rest))) x tokens end None) (sym back) moved in
    let t = token_at k at (at + width (take n (text ++ rest))) line in
    let placed : token5 t ≡ record { begin = at; end = at + width text; after_line = line; kind = kind } =
    ap (λ x. token5 (token_at k at (at + width x) line)) front ∙ ap (λ (v : Kind5). let r : Token5 = record { begin = at; end = at + width text; after_line = line; kind = v } in r) is in
    (t ∷ tokens, end, ap (λ x. x ∷ map token5 tokens) placed ∙ ap (λ x. record { begin = at; end = at + width text; after_line = line; kind = kind } ∷ x) same, taken line at (text ++ rest) k n tokens end None e behind)

or_false : (a : Bool) → a ≡ (a || false)
or_false true = refl
or_false false = refl

or_true : (a : Bool) → true ≡ (a || true)
or_true true = refl
or_true false = refl

one_width : (at c : ℕ) → at + len_utf8 c ≡ at + width (c ∷ [])
one_width at c = omega arith

at_end : element [] ≡ Finished
unfolding element
at_end = refl

lexed : (at : ℕ) (line : Bool) (text : List ℕ) (ts : List Token5) → Tokens5 at line text ts → AreLexed line at text ts
lexed _ _ _ _ (lexical.finished {at} {line}) = ([], at, refl, finished line at [] at_end)
lexed _ _ _ _ (lexical.white_space {at} {c} {line} {cs} {ts} h d) =
    skip_lexed line at (c ∷ []) cs false ts (white_element c cs h) (subst (λ l. AreLexed l (at + width (c ∷ [])) cs ts) (or_false line) (subst (λ k. AreLexed line k cs ts) (one_width at c) (lexed (at + len_utf8 c) line cs ts d)))
lexed _ _ _ _ (lexical.line_terminator {at} {c} {line} {cs} {ts} h d) =
    skip_lexed line at (c ∷ []) cs true ts (line_element c cs h) (subst (λ l. AreLexed l (at + width (c ∷ [])) cs ts) (or_true line) (subst (λ k. AreLexed true k cs ts) (one_width at c) (lexed (at + len_utf8 c) true cs ts d)))
lexed _ _ _ _ (lexical.single_line_comment {at} {line} text body rest {ts} is none ends d) =
    skip_lexed line at text rest false ts (subst (λ x. element (x ++ rest) ≡ Skip (length x) false) (sym is) (line_comment body rest none ends))
    (subst (λ l. AreLexed l (at + width text) rest ts) (or_false line) (lexed (at + width text) line rest ts d))
lexed _ _ _ _ (lexical.multi_line_comment {at} {line} text body rest {ts} is open_still d) =
    skip_lexed line at text rest (list_any is_line_terminator body) ts (subst (λ x. element (x ++ rest) ≡ Skip (length x) (list_any is_line_terminator body)) (sym is) (block_comment body rest open_still))
    (lexed (at + width text) (line || list_any is_line_terminator body) rest ts d)
lexed _ _ _ _ (lexical.token {at} {line} text rest {ts} kind spelled whole d) = take_lexed line at text rest kind ts (taken_as kind text rest spelled whole) (lexed (at + width text) false rest ts d)

pub are_read : (text : List ℕ) (ts : List Token5) (tokens : List Token) (end : ℕ) (fault : Option TokenFault) → Tokens5 0 false text ts → LexesFrom false 0 text tokens end fault → (fault ≡ None) × (map token5 tokens ≡ ts)
are_read text ts tokens end fault d l =
    let mine = lexed 0 false text ts d in
    let same = same_tokens false 0 text tokens end fault mine.0 mine.1 None l mine.3 in
    (same.1, ap (map token5) same.0 ∙ mine.2)

pub one_list : (text : List ℕ) (a b : List Token5) → Tokens5 0 false text a → Tokens5 0 false text b → a ≡ b
one_list text a b d e =
    let mine = lexed 0 false text a d in
    sym mine.2 ∙ (are_read text b mine.0 mine.1 None e mine.3).1
