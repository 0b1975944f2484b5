-- The elements that are read one after another are the tokens of the definition.
use Rattle.std.proofs.Common.{◌≡◌, ℕ, ◌+◌, ◌≤◌, inl, inr, Bool, true, false, ◌||◌, List, [], ◌∷◌, ◌++◌, length, take, drop, map, codes, refl, sym, ap, subst, ◌∙◌, arith, length-append, append_assoc}
use Rattle.std.specs.Prelude.{eqb, nat_le, not, Option, None, Some}
use Rattle.std.specs.List.{list_all, starts_with}
use Rattle.std.specs.Str.{bytes_eq}
use Rattle.std.specs.Char.{len_utf8, is_ascii_digit}
use lib.Pointwise.{pointwise}
use Rattle.std.proofs.lemmas.Bool.{and_parts, and_from, and_cases, or_cases, or_left, or_right, not-true, not_from_false, cases_Bool, and_left, and_right}
use Rattle.std.proofs.lemmas.List.{take-append-drop, take-append-le, take_at, drop_at}
use Rattle.std.proofs.lemmas.List.Sums.{sum_by-append}
use Rattle.es5_ast.specs.Lexical.{Kind5, Word, Integer, Text, Punctuator, Inserted, Token5, Tokens5, finished, white_space, line_terminator, single_line_comment, multi_line_comment, token, SpellsToken, is_whole, is_longest_punctuator, is_hexadecimal, is_identifier_part, is_line_terminator, next_is, punctuators, width}
use Rattle.es5_tokens.specs.declared.token.Token.{Token}
use Rattle.es5_tokens.specs.declared.token.TokenKind.{TokenKind}
use Rattle.es5_tokens.specs.declared.token.TokenFault.{TokenFault}
use Rattle.es5_tokens.specs.declared.shape.Element.{Element}
use Rattle.es5_tokens.specs.declared.shape.Element.TheVariants.{Finished, Skip, Take, Stop}
use Rattle.es5_tokens.specs.Elements.{element}
use Rattle.es5_tokens.specs.Lexes.{LexesFrom, token_at}
use Rattle.es5_tokens.specs.Lexes as lexes
use Rattle.es5_tokens.specs.Tokens.{kind5, token5, IsFaultAt, Reads}
use Rattle.es5_tokens.proofs.Prefixes.{next_front}
use Rattle.es5_tokens.proofs.Read as gaps
use Rattle.es5_tokens.proofs.Read.{IsGap, IsRead}
use Rattle.es5_tokens.proofs.Punctuators.{same_lists}
use Rattle.es5_tokens.proofs.Front.{element_is}

all_more : {X : Type 0} (f g : X → Bool) (xs : List X) → ((x : X) → f x ≡ true → g x ≡ true) → list_all f xs ≡ true → list_all g xs ≡ true
all_more f g [] more h = refl
all_more f g (x ∷ xs) more h = let two = and_parts (f x) _ h in and_from (g x) _ (more x two.0) (all_more f g xs more two.1)

-- a front that a text has, it has with more behind it
starts_more : (cs q rest : List ℕ) → starts_with (λ x y. eqb x y) cs q ≡ true → starts_with (λ x y. eqb x y) (cs ++ rest) q ≡ true
starts_more cs q rest h =
    let same : q ≡ take (length q) cs = same_lists q (take (length q) cs) h in
    let size : length q ≤ length cs = omega (arith, ap length same, ap length (take-append-drop (length q) cs), length-append (take (length q) cs) (drop (length q) cs)) in
    ap (pointwise (λ x y. eqb x y) q) (take-append-le (length q) cs rest size) ∙ h

longest_front : (p front rest : List ℕ) → is_longest_punctuator p (front ++ rest) ≡ true → is_longest_punctuator p front ≡ true
longest_front p front rest h =
    all_more
    (λ q. nat_le (length q) (length p) || not (starts_with (λ a b. eqb a b) (p ++ (front ++ rest)) q))
    (λ q. nat_le (length q) (length p) || not (starts_with (λ a b. eqb a b) (p ++ front) q))
    (codes "//" ∷ codes "/*" ∷ punctuators)
    (λ q t. elim (or_cases (nat_le (length q) (length p)) _ t) [
      | inl short ↦ or_left _ _ short
      | inr long ↦ elim (cases_Bool (starts_with (λ a b. eqb a b) (p ++ front) q)) [
        | inl there ↦ (let whole = ap (λ x. starts_with (λ a b. eqb a b) x q) (sym (append_assoc p front rest)) ∙ starts_more (p ++ front) q rest there in
            let none = not-true _ long in absurd (cc))
        | inr away ↦ or_right (nat_le (length q) (length p)) _ (not_from_false _ away)
      ]
    ]) h

-- a token that is whole before a text is whole before a front of it
whole_front : (kind : Kind5) (text front rest : List ℕ) → is_whole kind text (front ++ rest) ≡ true → is_whole kind text front ≡ true
whole_front (Word name) text front rest h = not_from_false _ (next_front is_identifier_part front rest (not-true _ h))
whole_front (Integer value) text front rest h =
    let two = and_parts _ _ h in
    and_from _ _ (not_from_false _ (next_front is_identifier_part front rest (not-true _ two.0)))
    (elim (or_cases (is_hexadecimal text) _ two.1) [
      | inl marked ↦ or_left _ _ marked
      | inr none ↦ or_right (is_hexadecimal text) _ (not_from_false _ (next_front (λ c. eqb c 46) front rest (not-true _ none)))
    ])
whole_front (Text units) text front rest h = refl
whole_front (Punctuator p) text front rest h =
    let two = and_parts (is_longest_punctuator p (front ++ rest)) _ h in
    and_from _ _ (longest_front p front rest two.0)
    (not_from_false _ (elim (and_cases (bytes_eq p (codes ".")) _ (not-true _ two.1)) [
      | inl other ↦ and_left (bytes_eq p (codes ".")) (next_is is_ascii_digit front) other
      | inr none ↦ and_right (bytes_eq p (codes ".")) _ (next_front is_ascii_digit front rest none)
    ]))
whole_front Inserted text front rest h = cc

ends_front : (whole front rest : List ℕ) → whole ≡ front ++ rest → (next_is is_line_terminator whole ≡ false → whole ≡ []) → next_is is_line_terminator front ≡ false → front ≡ []
ends_front whole [] rest e h n = refl
ends_front whole (c ∷ front) rest e h n = let none : whole ≡ [] = h (ap (next_is is_line_terminator) e ∙ n) in let bad : [] ≡ c ∷ (front ++ rest) = sym none ∙ e in absurd (cc)

gap_front : (text whole front rest : List ℕ) (line : Bool) → whole ≡ front ++ rest → IsGap text whole line → IsGap text front line
gap_front _ _ front rest _ e (gaps.white_space c whole h) = gaps.white_space c front h
gap_front _ _ front rest _ e (gaps.line_terminator c whole h) = gaps.line_terminator c front h
gap_front _ _ front rest _ e (gaps.single_line_comment text body whole t n h) = gaps.single_line_comment text body front t n (ends_front whole front rest e h)
gap_front _ _ front rest _ e (gaps.multi_line_comment text body whole t n) = gaps.multi_line_comment text body front t n

or_false : (a : Bool) → (a || false) ≡ a
or_false true = refl
or_false false = refl

or_true : (a : Bool) → (a || true) ≡ true
or_true true = refl
or_true false = refl

-- a gap before tokens
gap_tokens : (text rest : List ℕ) (more : Bool) (at : ℕ) (line : Bool) (ts : List Token5) → IsGap text rest more → Tokens5 (at + width text) (line || more) rest ts → Tokens5 at line (text ++ rest) ts
gap_tokens _ _ _ at line ts (gaps.white_space c rest h) d =
    let width_is : at + width (c ∷ []) ≡ at + len_utf8 c = omega arith in
    white_space h (subst (λ l. Tokens5 (at + len_utf8 c) l rest ts) (or_false line) (subst (λ k. Tokens5 k (line || false) rest ts) width_is d))
gap_tokens _ _ _ at line ts (gaps.line_terminator c rest h) d =
    let width_is : at + width (c ∷ []) ≡ at + len_utf8 c = omega arith in
    line_terminator h (subst (λ l. Tokens5 (at + len_utf8 c) l rest ts) (or_true line) (subst (λ k. Tokens5 k (line || true) rest ts) width_is d))
gap_tokens _ _ _ at line ts (gaps.single_line_comment text body rest t n h) d =
    single_line_comment text body rest t n h (subst (λ l. Tokens5 (at + width text) l rest ts) (or_false line) d)
gap_tokens _ _ _ at line ts (gaps.multi_line_comment text body rest t n) d = multi_line_comment text body rest t n d

-- the tokens of a rest of a text
abbrev ReadsFrom : Bool → ℕ → List ℕ → List Token → ℕ → Option TokenFault → Type 0
ReadsFrom line at rest tokens end None = (end ≡ at + width rest) × Tokens5 at line rest (map token5 tokens)
ReadsFrom line at rest tokens end (Some fault) = (front : List ℕ) × (after : List ℕ) × (n : ℕ) × (rest ≡ front ++ after) × Tokens5 at line front (map token5 tokens) × IsFaultAt fault n after × (end ≡ at + width front + width (take n after))

front_width : (text rest : List ℕ) (at end more : ℕ) → end ≡ at + width text + width rest + more → end ≡ at + width (text ++ rest) + more
front_width text rest at end more e = omega (arith, e, sum_by-append len_utf8 text rest)

skip_reads : (line : Bool) (at : ℕ) (text rest : List ℕ) (more : Bool) (tokens : List Token) (end : ℕ) (fault : Option TokenFault) → IsGap text rest more
    → ReadsFrom (line || more) (at + width text) rest tokens end fault → ReadsFrom line at (text ++ rest) tokens end fault
skip_reads line at text rest more tokens end None g (e, d) =
    (omega (arith, e, sum_by-append len_utf8 text rest), gap_tokens text rest more at line (map token5 tokens) g d)
skip_reads line at text rest more tokens end (Some fault) g (front, after, n, split, d, stop, e) = (
  text ++ front,
  after,
  n,
  ap (λ x. text ++ x) split ∙ sym (append_assoc text front after),
  gap_tokens text front more at line (map token5 tokens) (gap_front text rest front after more split g) d,
  stop,
  front_width text front at end _ e,
)

take_reads : (line : Bool) (at : ℕ) (text rest : List ℕ) (t : Token) (tokens : List Token) (end : ℕ) (fault : Option TokenFault)
    → token5 t ≡ record { begin = at; end = at + width text; after_line = line; kind = kind5 t.kind } → SpellsToken (kind5 t.kind) text → is_whole (kind5 t.kind) text rest ≡ true
    → ReadsFrom false (at + width text) rest tokens end fault → ReadsFrom line at (text ++ rest) (t ∷ tokens) end fault
take_reads line at text rest t tokens end None place spelled whole (e, d) = (
  omega (arith, e, sum_by-append len_utf8 text rest),
  subst (λ x. Tokens5 at line (text ++ rest) (x ∷ map token5 tokens)) (sym place) (token text rest (kind5 t.kind) spelled whole d),
)
take_reads line at text rest t tokens end (Some fault) place spelled whole (front, after, n, split, d, stop, e) =
    let front_whole = whole_front (kind5 t.kind) text front after (ap (is_whole (kind5 t.kind) text) (sym split) ∙ whole) in (
      text ++ front,
      after,
      n,
      ap (λ x. text ++ x) split ∙ sym (append_assoc text front after),
      subst (λ x. Tokens5 at line (text ++ front) (x ∷ map token5 tokens)) (sym place) (token text front (kind5 t.kind) spelled front_whole d),
      stop,
      front_width text front at end _ e,
    )

read_as : (cs : List ℕ) (e : Element) → element cs ≡ e → IsRead cs e
read_as cs e h = subst (IsRead cs) h (element_is cs)

skip_case : (line : Bool) (at : ℕ) (rest : List ℕ) (n : ℕ) (more : Bool) (tokens : List Token) (end : ℕ) (fault : Option TokenFault) → IsRead rest (Skip n more)
    → ReadsFrom (line || more) (at + width (take n rest)) (drop n rest) tokens end fault → ReadsFrom line at rest tokens end fault
skip_case line at rest n more tokens end fault (text, after, split, size, some, gap) d =
    let front : take n rest ≡ text = ap (take n) split ∙ take_at text after n (sym size) in
    let back : drop n rest ≡ after = ap (drop n) split ∙ drop_at text after n (sym size) in
    let moved = subst (λ x. ReadsFrom (line || more) (at + width x) (drop n rest) tokens end fault) front d in
    let behind = subst (λ x. ReadsFrom (line || more) (at + width text) x tokens end fault) back moved in
    subst (λ x. ReadsFrom line at x tokens end fault) (sym split) (skip_reads line at text after more tokens end fault gap behind)

take_case : (line : Bool) (at : ℕ) (rest : List ℕ) (kind : TokenKind) (n : ℕ) (tokens : List Token) (end : ℕ) (fault : Option TokenFault) → IsRead rest (Take kind n)
    → ReadsFrom false (at + width (take n rest)) (drop n rest) tokens end fault → ReadsFrom line at rest (token_at kind at (at + width (take n rest)) line ∷ tokens) end fault
take_case line at rest kind n tokens end fault (text, after, split, size, some, spelled, whole) d =
    let front : take n rest ≡ text = ap (take n) split ∙ take_at text after n (sym size) in
    let back : drop n rest ≡ after = ap (drop n) split ∙ drop_at text after n (sym size) in
    let t = token_at kind at (at + width (take n rest)) line in
    let place : token5 t ≡ token5 (token_at kind at (at + width text) line) = ap (λ x. token5 (token_at kind at (at + width x) line)) front in
    let moved = subst (λ x. ReadsFrom false (at + width x) (drop n rest) tokens end fault) front d in
    let behind = subst (λ x. ReadsFrom false (at + width text) x tokens end fault) back moved in
    subst (λ x. ReadsFrom line at x (t ∷ tokens) end fault) (sym split) (take_reads line at text after t tokens end fault place spelled whole behind)

reads_from : (line : Bool) (at : ℕ) (rest : List ℕ) (tokens : List Token) (end : ℕ) (fault : Option TokenFault) → LexesFrom line at rest tokens end fault → ReadsFrom line at rest tokens end fault
reads_from _ _ _ _ _ _ (lexes.finished line at rest e) =
    let none : rest ≡ [] = read_as rest Finished e in
    subst (λ x. ReadsFrom line at x [] at None) (sym none) (omega arith, finished)
reads_from _ _ _ _ _ _ (lexes.stopped line at rest fault n e) = ([], rest, n, refl, finished, read_as rest (Stop fault n) e, omega arith)
reads_from _ _ _ _ _ _ (lexes.skipped line at rest n more tokens end fault e d) =
    skip_case line at rest n more tokens end fault (read_as rest (Skip n more) e) (reads_from (line || more) (at + width (take n rest)) (drop n rest) tokens end fault d)
reads_from _ _ _ _ _ _ (lexes.taken line at rest kind n tokens end fault e d) =
    take_case line at rest kind n tokens end fault (read_as rest (Take kind n) e) (reads_from false (at + width (take n rest)) (drop n rest) tokens end fault d)

from_start : (text : List ℕ) (tokens : List Token) (end : ℕ) (fault : Option TokenFault) → ReadsFrom false 0 text tokens end fault → Reads text tokens end fault
from_start text tokens end None (e, d) = (omega (arith, e), d)
from_start text tokens end (Some fault) (front, after, n, split, d, stop, e) = (front, after, n, split, d, stop, omega (arith, e))

pub reads : (text : List ℕ) (tokens : List Token) (end : ℕ) (fault : Option TokenFault) → LexesFrom false 0 text tokens end fault → Reads text tokens end fault
reads text tokens end fault d = from_start text tokens end fault (reads_from false 0 text tokens end fault d)
