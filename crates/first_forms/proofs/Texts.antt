-- What the tokens of a text are, one element at a time.
use Rattle.std.proofs.Common.{◌≡◌, ℕ, zero, suc, ◌+◌, ◌-◌, ◌<◌, ◌≤◌, Bool, true, false, cond, ◌||◌, List, [], ◌∷◌, ◌++◌, length, get_or, take, drop, refl, sym, ap, subst, ◌∙◌, arith, inl, inr, add-one}
use Rattle.std.proofs.Math.Seq.{drop-cons}
use Rattle.std.proofs.Math.ListN.{drop_of_length-le}
use Rattle.std.proofs.lemmas.List.{drop-drop, length-drop, append_assoc, take_all}
use Rattle.std.proofs.lemmas.List.Sums.{prefix_len-le-length}
use Rattle.std.proofs.lemmas.List.Folds.{length-prefix_len}
use Rattle.std.proofs.lemmas.Bool.{eqb-true}
use Rattle.std.specs.Prelude.{◌==◌}
use Rattle.std.specs.List.{prefix_len, take_while}
use Rattle.std.specs.Char.{is_ascii_digit}
use Rattle.first_forms.specs.Names.{is_name_start, is_name_part}
use Rattle.first_forms.specs.WellFormed.{is_text_unit}
use Rattle.first_forms.specs.Modules.{IsClosed, StopsAt}
use Rattle.first_forms.specs.Lexing.{is_gap, name_at, integer_of, is_integer, text_at, punctuator, element_at, token, tokens_after, tokens_from, tokens_of}
use Rattle.first_forms.specs.declared.token.Token.{Token}
use Rattle.first_forms.specs.declared.token.TokenKind.{TokenKind}
use Rattle.first_forms.specs.declared.token.TokenKind.TheVariants as kind
use Rattle.first_forms.specs.declared.lexer.Element.{Element}
use Rattle.first_forms.specs.declared.lexer.Element.TheVariants as element

-- a token has one byte at least, and no more than there are
unfoldable pub IsWithin : Element → ℕ → Type 0
IsWithin element.Gap n = Unit {0}
IsWithin (element.Token kind len) n = (0 < len) × (len ≤ n)
IsWithin element.Bad n = Unit {0}

IsWithin-token : (k : TokenKind) (len n : ℕ) → 0 < len → len ≤ n → IsWithin (element.Token k len) n
unfolding IsWithin
IsWithin-token k len n p q = (p, q)

IsWithin-bad : (n : ℕ) → IsWithin element.Bad n
unfolding IsWithin
IsWithin-bad n = tt

IsWithin-gap : (n : ℕ) → IsWithin element.Gap n
unfolding IsWithin
IsWithin-gap n = tt

IsWithin-cond : (b : Bool) (x y : Element) (n : ℕ) → (b ≡ true → IsWithin x n) → (b ≡ false → IsWithin y n) → IsWithin (cond b x y) n
IsWithin-cond true x y n f g = f refl
IsWithin-cond false x y n f g = g refl

prefix_len-pos : (p : ℕ → Bool) (b : ℕ) (bs : List ℕ) → p b ≡ true → 0 < prefix_len p (b ∷ bs)
prefix_len-pos p b bs h = rw h (omega arith)

or_left : (a b : Bool) → a ≡ true → (a || b) ≡ true
or_left a b h = rw h refl

IsWithin-name : (b : ℕ) (bs : List ℕ) → is_name_start b ≡ true → IsWithin (name_at (b ∷ bs)) (suc (length bs))
IsWithin-name b bs h =
    IsWithin-token (kind.Name (take_while is_name_part (b ∷ bs))) (prefix_len is_name_part (b ∷ bs)) (suc (length bs))
    (prefix_len-pos is_name_part b bs (or_left (is_name_start b) (is_ascii_digit b) h)) (prefix_len-le-length is_name_part (b ∷ bs))

IsWithin-integer : (b : ℕ) (bs : List ℕ) → is_ascii_digit b ≡ true → IsWithin (integer_of (take_while is_ascii_digit (b ∷ bs))) (suc (length bs))
IsWithin-integer b bs h =
    let digits : List ℕ = take_while is_ascii_digit (b ∷ bs) in
    let e : length digits ≡ prefix_len is_ascii_digit (b ∷ bs) = length-prefix_len is_ascii_digit (b ∷ bs) in
    let p : 0 < prefix_len is_ascii_digit (b ∷ bs) = prefix_len-pos is_ascii_digit b bs h in
    let q : prefix_len is_ascii_digit (b ∷ bs) ≤ suc (length bs) = prefix_len-le-length is_ascii_digit (b ∷ bs) in
    IsWithin-cond (is_integer digits) _ _ (suc (length bs)) (λ _. IsWithin-token _ (length digits) _ (rw e p) (rw e q)) (λ _. IsWithin-bad _)

get_or-34 : (xs : List ℕ) (n : ℕ) → get_or xs n 0 ≡ 34 → n < length xs
get_or-34 [] n h = absurd (omega (arith, h))
get_or-34 (x ∷ xs) zero h = omega arith
get_or-34 (x ∷ xs) (suc n) h = omega (arith, get_or-34 xs n h)

IsWithin-text : (bs : List ℕ) → IsWithin (text_at bs) (suc (length bs))
IsWithin-text bs =
    let n : ℕ = prefix_len is_text_unit bs in
    IsWithin-cond (get_or bs n 0 == 34) _ _ (suc (length bs))
    (λ h. let below : n < length bs = get_or-34 bs n (eqb-true (get_or bs n 0) 34 h) in IsWithin-token _ (n + 2) _ (omega arith) (omega arith))
    (λ _. IsWithin-bad _)

IsWithin-choice : (b : Bool) (k : TokenKind) (y : Element) (n : ℕ) → IsWithin y (suc n) → IsWithin (cond b (element.Token k 1) y) (suc n)
IsWithin-choice true k y n h = IsWithin-token k 1 (suc n) (omega arith) (omega arith)
IsWithin-choice false k y n h = h

IsWithin-punctuator : (b n : ℕ) → IsWithin (punctuator b) (suc n)
IsWithin-punctuator b n =
    (IsWithin-choice (b == 123) kind.LeftBrace _ n
    (IsWithin-choice (b == 125) kind.RightBrace _ n
    (IsWithin-choice (b == 40) kind.LeftParen _ n
    (IsWithin-choice (b == 41) kind.RightParen _ n
    (IsWithin-choice (b == 44) kind.Comma _ n
    (IsWithin-choice (b == 59) kind.Semicolon _ n
    (IsWithin-choice (b == 43) kind.Plus _ n
    (IsWithin-choice (b == 61) kind.Equals _ n (IsWithin-bad (suc n))))))))))

pub IsWithin-element : (b : ℕ) (bs : List ℕ) → IsWithin (element_at (b ∷ bs)) (suc (length bs))
unfolding element_at
IsWithin-element b bs =
    IsWithin-cond (is_gap b) _ _ _ (λ _. IsWithin-gap _) (λ _.
    IsWithin-cond (is_name_start b) _ _ _ (IsWithin-name b bs) (λ _.
    IsWithin-cond (is_ascii_digit b) _ _ _ (IsWithin-integer b bs) (λ _.
    IsWithin-cond _ _ _ _ (λ _. IsWithin-text bs) (λ _. IsWithin-punctuator b (length bs)))))

-- bytes that belong to the token before are passed over
tokens_from-skip : (skip place : ℕ) (bs : List ℕ) → skip ≤ length bs → tokens_from place skip bs ≡ tokens_from (place + skip) 0 (drop skip bs)
unfolding tokens_from
tokens_from-skip zero place bs h = ap (λ n. tokens_from n 0 bs) (omega arith)
tokens_from-skip (suc skip) place [] h = absurd (omega (arith, h))
tokens_from-skip (suc skip) place (b ∷ bs) h =
    tokens_from-skip skip (suc place) bs (omega (arith, h)) ∙ ap (λ n. tokens_from n 0 (drop skip bs)) (omega arith)

-- the tokens from a place on, by what begins there
pub tokens_from-step : (bytes : List ℕ) (place : ℕ) → place < length bytes
    → tokens_from place 0 (drop place bytes) ≡ tokens_after place (element_at (drop place bytes)) (λ skip. tokens_from (suc place) skip (drop (suc place) bytes))
unfolding tokens_from
tokens_from-step bytes place h = rw (drop-cons bytes place 0 h) refl

pub IsWithin-drop : (bytes : List ℕ) (place : ℕ) → place < length bytes → IsWithin (element_at (drop place bytes)) (length bytes - place)
IsWithin-drop bytes place h =
    let n : suc (length (drop (suc place) bytes)) ≡ length bytes - place = omega (arith, length-drop (suc place) bytes) in
    rw (drop-cons bytes place 0 h) (subst (λ m. IsWithin (element_at (get_or bytes place 0 ∷ drop (suc place) bytes)) m) n (IsWithin-element (get_or bytes place 0) (drop (suc place) bytes)))

pub within_token : (k : TokenKind) (len n : ℕ) (e : Element) → IsWithin e n → e ≡ element.Token k len → (0 < len) × (len ≤ n)
unfolding IsWithin
within_token k len n e w is = subst (λ e. IsWithin e n) is w

-- a gap
pub tokens_from-gap : (bytes : List ℕ) (place : ℕ) → place < length bytes → element_at (drop place bytes) ≡ element.Gap
    → tokens_from place 0 (drop place bytes) ≡ tokens_from (place + 1) 0 (drop (place + 1) bytes)
tokens_from-gap bytes place h is = rw (add-one) (tokens_from-step bytes place h ∙ ap (λ e. tokens_after place e (λ skip. tokens_from (suc place) skip (drop (suc place) bytes))) is)

-- a token
pub tokens_from-token : (bytes : List ℕ) (place : ℕ) (k : TokenKind) (len : ℕ) → place < length bytes → element_at (drop place bytes) ≡ element.Token k len
    → (0 < len) × (place + len ≤ length bytes) × (tokens_from place 0 (drop place bytes) ≡ token place k ∷ tokens_from (place + len) 0 (drop (place + len) bytes))
tokens_from-token bytes place k len h is =
    let w : (0 < len) × (len ≤ length bytes - place) = within_token k len (length bytes - place) (element_at (drop place bytes)) (IsWithin-drop bytes place h) is in
    let fits : len - 1 ≤ length (drop (suc place) bytes) = omega (arith, w, length-drop (suc place) bytes) in
    let more : tokens_from (suc place) (len - 1) (drop (suc place) bytes) ≡ tokens_from (suc place + (len - 1)) 0 (drop (len - 1) (drop (suc place) bytes)) = tokens_from-skip (len - 1) (suc place) (drop (suc place) bytes) fits in
    let moved : tokens_from (suc place + (len - 1)) 0 (drop (len - 1) (drop (suc place) bytes)) ≡ tokens_from (place + len) 0 (drop (place + len) bytes) =
    rw (drop-drop (len - 1) (suc place) bytes) (ap (λ n. tokens_from n 0 (drop n bytes)) (omega (arith, w))) in
    (w.0, omega (arith, w), tokens_from-step bytes place h ∙ ap (λ e. tokens_after place e (λ skip. tokens_from (suc place) skip (drop (suc place) bytes))) is ∙ ap (λ ts. token place k ∷ ts) (more ∙ moved))

-- no token
pub tokens_from-bad : (bytes : List ℕ) (place : ℕ) → place < length bytes → element_at (drop place bytes) ≡ element.Bad
    → tokens_from place 0 (drop place bytes) ≡ token place kind.Bad ∷ []
tokens_from-bad bytes place h is = tokens_from-step bytes place h ∙ ap (λ e. tokens_after place e (λ skip. tokens_from (suc place) skip (drop (suc place) bytes))) is

-- the end
pub tokens_from-end : (bytes : List ℕ) (place : ℕ) → length bytes ≤ place → tokens_from place 0 (drop place bytes) ≡ token place kind.End ∷ []
unfolding tokens_from
tokens_from-end bytes place h = rw (drop_of_length-le bytes h) refl

IsClosed-cons : (t : Token) (ts : List Token) → IsClosed ts → IsClosed (t ∷ ts)
IsClosed-cons t [] h = absurd h
IsClosed-cons t (u ∷ ts) h = h

IsClosed-after : (place : ℕ) (e : Element) (rest : ℕ → List Token) → ((skip : ℕ) → IsClosed (rest skip)) → IsClosed (tokens_after place e rest)
IsClosed-after place element.Gap rest h = h 0
IsClosed-after place (element.Token k len) rest h = IsClosed-cons (token place k) (rest (len - 1)) (h (len - 1))
IsClosed-after place element.Bad rest h = inr refl

IsClosed-tokens_from : (place skip : ℕ) (bs : List ℕ) → IsClosed (tokens_from place skip bs)
unfolding tokens_from
IsClosed-tokens_from place skip [] = inl refl
IsClosed-tokens_from place (suc skip) (b ∷ bs) = IsClosed-tokens_from (suc place) skip bs
IsClosed-tokens_from place zero (b ∷ bs) = IsClosed-after place (element_at (b ∷ bs)) _ (λ skip. IsClosed-tokens_from (suc place) skip bs)

-- the tokens of a text end with its end, or where no token begins
pub IsClosed-tokens_of : (bytes : List ℕ) → IsClosed (tokens_of bytes)
IsClosed-tokens_of bytes = IsClosed-tokens_from 0 0 bytes

-- these tokens, and those of the bytes from the place on, are all that the bytes have
abbrev pub HasRead : List ℕ → List Token → ℕ → Type 0
HasRead bytes tokens place = (place ≤ length bytes) × (tokens ++ tokens_from place 0 (drop place bytes) ≡ tokens_of bytes)

-- the bytes behind `&bytes[place..]`
rest-is : (bytes : List ℕ) (place : ℕ) (e : Element) → e ≡ element_at (take (length bytes - place) (drop place bytes)) → e ≡ element_at (drop place bytes)
rest-is bytes place e is =
    is ∙ ap element_at (take_all (length bytes - place) (drop place bytes) (omega (arith, length-drop place bytes)))

pub HasRead-gap : (bytes : List ℕ) (tokens : List Token) (place : ℕ) (e : Element) → HasRead bytes tokens place → place < length bytes
    → e ≡ element_at (take (length bytes - place) (drop place bytes)) → e ≡ element.Gap → HasRead bytes tokens (place + 1)
HasRead-gap bytes tokens place e had below is gap =
    (omega arith, ap (λ ts. tokens ++ ts) (sym (tokens_from-gap bytes place below (sym (rest-is bytes place e is) ∙ gap))) ∙ had.1)

pub HasRead-token : (bytes : List ℕ) (tokens more : List Token) (place len : ℕ) (k : TokenKind) (e : Element) → HasRead bytes tokens place → place < length bytes
    → e ≡ element_at (take (length bytes - place) (drop place bytes)) → e ≡ element.Token k len → more ≡ tokens ++ token place k ∷ [] → (0 < len) × HasRead bytes more (place + len)
HasRead-token bytes tokens more place len k e had below is found pushed =
    let t = tokens_from-token bytes place k len below (sym (rest-is bytes place e is) ∙ found) in (
      t.0,
      (
        t.1,
        ap (λ ts. ts ++ tokens_from (place + len) 0 (drop (place + len) bytes)) pushed
            ∙ append_assoc tokens (token place k ∷ []) (tokens_from (place + len) 0 (drop (place + len) bytes))
            ∙ ap (λ ts. tokens ++ ts) (sym t.2) ∙ had.1,
      ),
    )

pub HasRead-bad : (bytes : List ℕ) (tokens more : List Token) (place : ℕ) (e : Element) → HasRead bytes tokens place → place < length bytes
    → e ≡ element_at (take (length bytes - place) (drop place bytes)) → e ≡ element.Bad → more ≡ tokens ++ token place kind.Bad ∷ [] → more ≡ tokens_of bytes
HasRead-bad bytes tokens more place e had below is bad pushed =
    pushed ∙ ap (λ ts. tokens ++ ts) (sym (tokens_from-bad bytes place below (sym (rest-is bytes place e is) ∙ bad))) ∙ had.1

pub HasRead-end : (bytes : List ℕ) (tokens more : List Token) (place : ℕ) → HasRead bytes tokens place → length bytes ≤ place
    → more ≡ tokens ++ token place kind.End ∷ [] → more ≡ tokens_of bytes
HasRead-end bytes tokens more place had end pushed =
    pushed ∙ ap (λ ts. tokens ++ ts) (sym (tokens_from-end bytes place end)) ∙ had.1

pub IsClosed-by : (bytes : List ℕ) (tokens : List Token) → tokens ≡ tokens_of bytes → IsClosed tokens
IsClosed-by bytes tokens e = subst IsClosed (sym e) (IsClosed-tokens_of bytes)

-- ## Places

-- no token stands behind this place
PlacesWithin : ℕ → List Token → Type 0
PlacesWithin n [] = Unit {0}
PlacesWithin n (t ∷ ts) = (t.at ≤ n) × PlacesWithin n ts

PlacesWithin-after : (place n : ℕ) (e : Element) (rest : ℕ → List Token) → place ≤ n → ((skip : ℕ) → PlacesWithin n (rest skip)) → PlacesWithin n (tokens_after place e rest)
unfolding PlacesWithin
PlacesWithin-after place n element.Gap rest p h = h 0
PlacesWithin-after place n (element.Token k len) rest p h = (p, h (len - 1))
PlacesWithin-after place n element.Bad rest p h = (p, tt)

PlacesWithin-tokens_from : (place skip n : ℕ) (bs : List ℕ) → place + length bs ≤ n → PlacesWithin n (tokens_from place skip bs)
unfolding tokens_from PlacesWithin
PlacesWithin-tokens_from place skip n [] h = (omega (arith, h), tt)
PlacesWithin-tokens_from place (suc skip) n (b ∷ bs) h = PlacesWithin-tokens_from (suc place) skip n bs (omega (arith, h))
PlacesWithin-tokens_from place zero n (b ∷ bs) h =
    PlacesWithin-after place n (element_at (b ∷ bs)) (λ skip. tokens_from (suc place) skip bs) (omega (arith, h))
    (λ skip. PlacesWithin-tokens_from (suc place) skip n bs (omega (arith, h)))

PlacesWithin-split : (n : ℕ) (before : List Token) (t : Token) (ts : List Token) → PlacesWithin n (before ++ t ∷ ts) → t.at ≤ n
unfolding PlacesWithin
PlacesWithin-split n [] t ts h = h.0
PlacesWithin-split n (u ∷ before) t ts h = PlacesWithin-split n before t ts h.1

-- a fault stands in the text or at its end
pub stop-within : (hosts : List (List ℕ)) (bytes : List ℕ) (place : ℕ) → StopsAt hosts (tokens_of bytes) place → place ≤ length bytes
stop-within hosts bytes place s =
    let all : PlacesWithin (length bytes) (tokens_of bytes) = PlacesWithin-tokens_from 0 0 (length bytes) bytes (omega arith) in
    let here : s.token.at ≤ length bytes = PlacesWithin-split (length bytes) s.before s.token s.after (subst (PlacesWithin (length bytes)) s.split all) in
    omega (arith, here, s.stands)
