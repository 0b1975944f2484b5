-- The tokens of a text begin and end where characters begin, or at its end. So does what a fault of the reader stands at.
use Rattle.std.proofs.Common.{◌≡◌, ℕ, zero, suc, ◌+◌, ◌≤◌, Bool, false, List, [], ◌∷◌, ◌++◌, drop, length, map, take, refl, sym, ap, ◌∙◌, subst, arith, length-append}
use Rattle.std.proofs.lemmas.Str.{encodes-append}
use Rattle.std.specs.Str.{encode_utf8_all}
use Rattle.es_text.specs.declared.Place.{Place}
use Rattle.es_text.specs.Places.{IsPlace, offset_at, place_at}
use Rattle.es6_lexer.specs.declared.token.Token.{Token}
use Rattle.es6_lexer.specs.Lexes.{Lexes, LexesFrom, finished, stopped, skipped, taken, offset_after}
use Rattle.es6_ast.specs.Tokens.{end_of, read}
use Rattle.es6_expr.specs.Faults.{place_of}
use Rattle.module_linker.specs.module_checks.Faults.{IsToldFor}

take_more : {A : Type 0} (k n m : ℕ) (xs : List A) → m ≡ k + n → take m xs ≡ take k xs ++ take n (drop k xs)
take_more zero n m xs e = (let same : m ≡ n = omega (arith, e) in ap (λ i. take i xs) same)
take_more (suc k) n zero xs e = absurd (omega (arith, e))
take_more (suc k) zero (suc m) [] e = refl
take_more (suc k) (suc n) (suc m) [] e = refl
take_more (suc k) n (suc m) (x ∷ xs) e = ap (λ rest. x ∷ rest) (take_more k n m xs (omega (arith, e)))

drop_more : {A : Type 0} (k n m : ℕ) (xs : List A) → m ≡ k + n → drop n (drop k xs) ≡ drop m xs
drop_more zero n m xs e = (let same : n ≡ m = omega (arith, e) in ap (λ i. drop i xs) same)
drop_more (suc k) n zero xs e = absurd (omega (arith, e))
drop_more (suc k) zero (suc m) [] e = refl
drop_more (suc k) (suc n) (suc m) [] e = refl
drop_more (suc k) n (suc m) (x ∷ xs) e = drop_more k n m xs (omega (arith, e))

-- some character has the offset, or the end, or what is past it
abbrev Stands : List ℕ → ℕ → Type 0
Stands text offset = (i : ℕ) × (offset ≡ offset_at text i)

after : (text : List ℕ) (k offset n : ℕ) (rest : List ℕ) → offset ≡ offset_at text k → rest ≡ drop k text → offset_after offset n rest ≡ offset_at text (k + n)
after text k offset n rest o r =
    let size : length (encode_utf8_all (take (k + n) text)) ≡ length (encode_utf8_all (take k text)) + length (encode_utf8_all (take n (drop k text)))
    = ap (λ cs. length (encode_utf8_all cs)) (take_more k n (k + n) text refl) ∙ ap length (encodes-append (take k text) (take n (drop k text)))
    ∙ length-append (encode_utf8_all (take k text)) (encode_utf8_all (take n (drop k text))) in
    ap (λ m. m + length (encode_utf8_all (take n rest))) o ∙ ap (λ cs. offset_at text k + length (encode_utf8_all (take n cs))) r ∙ sym size

behind : (text : List ℕ) (k n : ℕ) (rest : List ℕ) → rest ≡ drop k text → drop n rest ≡ drop (k + n) text
behind text k n rest r = ap (λ cs. drop n cs) r ∙ drop_more k n (k + n) text refl

abbrev AreBound : List ℕ → List Token → Type 0
AreBound text [] = Unit {0}
AreBound text (t ∷ ts) = Stands text t.span.begin × Stands text t.span.end × AreBound text ts

bound : (text : List ℕ) (k : ℕ) (braces : List Bool) (newline : Bool) (offset : ℕ) (rest : List ℕ) (tokens : List Token) → offset ≡ offset_at text k → rest ≡ drop k text → LexesFrom braces newline offset rest tokens → AreBound text tokens
bound text k _ _ _ _ _ o r (finished braces newline offset rest e) = ((k, o), (k, o), tt)
bound text k _ _ _ _ _ o r (stopped braces newline offset rest kind at e) = ((k + at, after text k offset at rest o r), (k + (at + 1), after text k offset (at + 1) rest o r), tt)
bound text k _ _ _ _ _ o r (skipped braces newline offset rest n line tokens e d) =
    bound text (k + n) _ _ (offset_after offset n rest) (drop n rest) tokens (after text k offset n rest o r) (behind text k n rest r) d
bound text k _ _ _ _ _ o r (taken braces newline offset rest shape n tokens e d) =
    ((k, o), (k + n, after text k offset n rest o r), bound text (k + n) _ false (offset_after offset n rest) (drop n rest) tokens (after text k offset n rest o r) (behind text k n rest r) d)

end_bound : (text : List ℕ) (at : ℕ) (ts : List Token) → Stands text at → AreBound text ts → Stands text (end_of at (map read ts))
end_bound text at [] s b = s
end_bound text at (t ∷ ts) s b = end_bound text t.span.end ts b.1 b.2

rest_bound : (text : List ℕ) (front rest : List Token) → AreBound text (front ++ rest) → AreBound text rest
rest_bound text [] rest b = b
rest_bound text (t ∷ front) rest b = rest_bound text front rest b.2

stop_bound : (text : List ℕ) (tokens front rest : List Token) → tokens ≡ front ++ rest → AreBound text tokens → Stands text (place_of (map read tokens) (map read rest))
stop_bound text tokens front [] e b = end_bound text 0 tokens (0, refl) b
stop_bound text tokens front (t ∷ rest) e b = (rest_bound text front (t ∷ rest) (subst (λ (ts : List Token). AreBound text ts) e b)).0

short : (text : List ℕ) (i : ℕ) → (j : ℕ) × (j ≤ length text) × (take i text ≡ take j text)
short [] zero = (0, omega arith, refl)
short [] (suc i) = (0, omega arith, refl)
short (x ∷ xs) zero = (0, omega arith, refl)
short (x ∷ xs) (suc i) = (let q = short xs i in (suc q.0, omega (arith, q.1), ap (λ rest. x ∷ rest) q.2))

placed : (text : List ℕ) (offset : ℕ) (place : Place) → Stands text offset → IsToldFor text offset place → IsPlace text offset place
placed text offset place stands told =
    let q = short text stands.0 in
    let p = place_at text q.0 in
    let is : IsPlace text offset p = record { index = q.0; inside = q.1; offset_is = stands.1 ∙ ap (λ cs. length (encode_utf8_all cs)) q.2; place_is = refl } in
    subst (λ (z : Place). IsPlace text offset z) (sym (told p is)) is

-- the place that is told for where the reader stops is that of a character, or of the end
pub stop_placed : (text : List ℕ) (tokens front rest : List Token) (at : ℕ) (place : Place) → Lexes text tokens → tokens ≡ front ++ rest → at ≡ place_of (map read tokens) (map read rest) → IsToldFor text at place → IsPlace text at place
stop_placed text tokens front rest at place lexed parts is told =
    let b : AreBound text tokens = bound text 0 _ _ 0 text tokens refl refl lexed in
    placed text at place (subst (λ (n : ℕ). Stands text n) (sym is) (stop_bound text tokens front rest parts b)) told
