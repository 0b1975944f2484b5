-- What is read at one place of a text, from what is read at the next.
use Rattle.std.proofs.Common.{◌≡◌, ◌≢◌, ℕ, zero, suc, ◌+◌, ◌*◌, ◌<◌, ◌≤◌, Bool, true, false, cond, ◌&&◌, ◌||◌, List, [], ◌∷◌, ◌++◌, length, take, drop, get_or, refl, sym, ap, subst, ◌∙◌, arith, add-one, append_assoc, append-nil}
use Rattle.std.proofs.Math.Nat.{mul-le-mul_left}
use Rattle.std.specs.Prelude.{eqb, slice_index}
use Rattle.std.proofs.lemmas.List.{at_drop_more, at_drop_all, drop_more, drop-drop, get_or-drop}
use Rattle.std.proofs.lemmas.Bool.{cond-true, cond-false}
use Rattle.std.proofs.lemmas.Bool.Decides.{nat_tests}
use Rattle.es6_lexer.specs.declared.token.LexicalKind.{LexicalKind}
use Rattle.es6_lexer.specs.declared.token.LexicalKind.TheVariants.{OpenString, OpenTemplate, OpenComment}
use Rattle.es6_lexer.specs.declared.shape.Element.{Element}
use Rattle.es6_lexer.specs.declared.shape.Element.TheVariants.{Skip, Take, Stop}
use Rattle.es6_lexer.specs.declared.shape.Shape.TheVariants.{OfText, OfTemplate}
use Rattle.es6_lexer.specs.declared.shape.EscapeEnd.{EscapeEnd}
use Rattle.es6_lexer.specs.declared.shape.EscapeEnd.TheVariants.{Cut, Spelled, Wrong}
use Rattle.es6_lexer.specs.Classes.{is_line_terminator, digit_value}
use Rattle.es6_lexer.specs.Numbers.{digits_from}
use Rattle.es6_lexer.specs.Quoted.{escape, text_from, template_from, block_from}
use Rattle.es6_lexer.specs.Values.{cooked_from, escape_units, escape_length, character_units}

is_eq : (a b : ℕ) → a ≡ b → eqb a b ≡ true
is_eq a b e = grind (arith, nat_tests)

is_ne : (a b : ℕ) → (a ≡ b → ⊥) → eqb a b ≡ false
is_ne a b e = grind (arith, nat_tests)

-- digits only add to a value
pub digits_from_le : (radix value : ℕ) (cs : List ℕ) → 1 ≤ radix → value ≤ digits_from radix value cs
digits_from_le radix value [] h = omega arith
digits_from_le radix value (c ∷ cs) h =
    let more : value * 1 ≤ value * radix = mul-le-mul_left value h in
    omega (arith, digits_from_le radix (value * radix + digit_value c) cs h)

pub digits_past : (radix value i : ℕ) (cs : List ℕ) (x : ℕ) → i < length cs → x ≡ get_or cs i x → 1 ≤ radix → value * radix + digit_value x ≤ digits_from radix value (drop i cs)
digits_past radix value i cs x h r least =
    let e = ap (digits_from radix value) (drop_more cs i x h ∙ ap (λ c. c ∷ drop (i + 1) cs) (sym r)) in
    omega (arith, e, digits_from_le radix (value * radix + digit_value x) (drop (i + 1) cs) least)

-- the characters of an escape are passed over
pub text_skip : (q n i : ℕ) (cs : List ℕ) → text_from q n i cs ≡ text_from q 0 (i + n) (drop n cs)
unfolding text_from
text_skip q zero i cs = let e : i + 0 ≡ i = omega arith in rw e refl
text_skip q (suc n) i [] = refl
text_skip q (suc n) i (c ∷ cs) = let e : i + suc n ≡ i + 1 + n = omega arith in rw e (text_skip q n (i + 1) cs)

-- a string literal at its character x
text_at : (q i : ℕ) (cs : List ℕ) (x : ℕ) → i < length cs → x ≡ get_or cs i x → text_from q 0 i (drop i cs) ≡ text_from q 0 i (x ∷ drop (i + 1) cs)
text_at q i cs x h r = ap (text_from q 0 i) (drop_more cs i x h ∙ ap (λ c. c ∷ drop (i + 1) cs) (sym r))

pub text_quote : (q i : ℕ) (cs : List ℕ) (x : ℕ) → i < length cs → x ≡ get_or cs i x → x ≡ q → text_from q 0 i (drop i cs) ≡ Take OfText (i + 1)
unfolding text_from
text_quote q i cs x h r e = text_at q i cs x h r ∙ cond-true (eqb x q) _ _ (is_eq x q e)

-- a string literal at a `\`
text_escape : EscapeEnd → ℕ → ℕ → List ℕ → Element
text_escape end q i rest = elim end [ Cut ↦ Stop OpenString 0 | Wrong kind ↦ Stop kind i | Spelled n ↦ text_from q n (i + 1) rest ]

text_backslash : (q i : ℕ) (cs : List ℕ) (x : ℕ) → i < length cs → x ≡ get_or cs i x → (x ≡ q → ⊥) → x ≡ 92 → text_from q 0 i (drop i cs) ≡ text_escape (escape (drop (i + 1) cs)) q i (drop (i + 1) cs)
unfolding text_from text_escape
text_backslash q i cs x h r n e = text_at q i cs x h r ∙ cond-false (eqb x q) _ _ (is_ne x q n) ∙ cond-true (eqb x 92) _ _ (is_eq x 92 e)

pub text_cut : (q i : ℕ) (cs : List ℕ) (x : ℕ) → i < length cs → x ≡ get_or cs i x → (x ≡ q → ⊥) → x ≡ 92 → escape (drop (i + 1) cs) ≡ Cut → text_from q 0 i (drop i cs) ≡ Stop OpenString 0
unfolding text_escape
text_cut q i cs x h r n e end = text_backslash q i cs x h r n e ∙ ap (λ v. text_escape v q i (drop (i + 1) cs)) end

pub text_wrong : (q i : ℕ) (cs : List ℕ) (x : ℕ) (kind : LexicalKind) → i < length cs → x ≡ get_or cs i x → (x ≡ q → ⊥) → x ≡ 92 → escape (drop (i + 1) cs) ≡ Wrong kind → text_from q 0 i (drop i cs) ≡ Stop kind i
unfolding text_escape
text_wrong q i cs x kind h r n e end = text_backslash q i cs x h r n e ∙ ap (λ v. text_escape v q i (drop (i + 1) cs)) end

pub text_spelled : (q i : ℕ) (cs : List ℕ) (x k : ℕ) → i < length cs → x ≡ get_or cs i x → (x ≡ q → ⊥) → x ≡ 92 → escape (drop (i + 1) cs) ≡ Spelled k
    → text_from q 0 i (drop i cs) ≡ text_from q 0 (i + (1 + k)) (drop (i + (1 + k)) cs)
unfolding text_escape
text_spelled q i cs x k h r n e end =
    let place : i + 1 + k ≡ i + (1 + k) = omega arith in
    text_backslash q i cs x h r n e ∙ ap (λ v. text_escape v q i (drop (i + 1) cs)) end ∙ text_skip q k (i + 1) (drop (i + 1) cs)
    ∙ ap (text_from q 0 (i + 1 + k)) (drop-drop k (i + 1) cs) ∙ ap (λ m. text_from q 0 m (drop m cs)) place

pub text_line : (q i : ℕ) (cs : List ℕ) (x : ℕ) → i < length cs → x ≡ get_or cs i x → (x ≡ q → ⊥) → (x ≡ 92 → ⊥) → is_line_terminator x ≡ true → text_from q 0 i (drop i cs) ≡ Stop OpenString 0
unfolding text_from
text_line q i cs x h r n e l = text_at q i cs x h r ∙ cond-false (eqb x q) _ _ (is_ne x q n) ∙ cond-false (eqb x 92) _ _ (is_ne x 92 e) ∙ cond-true (is_line_terminator x) _ _ l

pub text_char : (q i : ℕ) (cs : List ℕ) (x : ℕ) → i < length cs → x ≡ get_or cs i x → (x ≡ q → ⊥) → (x ≡ 92 → ⊥) → is_line_terminator x ≡ false → text_from q 0 i (drop i cs) ≡ text_from q 0 (i + 1) (drop (i + 1) cs)
unfolding text_from
text_char q i cs x h r n e l = text_at q i cs x h r ∙ cond-false (eqb x q) _ _ (is_ne x q n) ∙ cond-false (eqb x 92) _ _ (is_ne x 92 e) ∙ cond-false (is_line_terminator x) _ _ l

text_nil : (q i : ℕ) → text_from q 0 i [] ≡ Stop OpenString 0
unfolding text_from
text_nil q i = refl

pub text_end : (q i : ℕ) (cs : List ℕ) → length cs ≤ i → text_from q 0 i (drop i cs) ≡ Stop OpenString 0
text_end q i cs h = at_drop_all (text_from q 0 i) cs i h ∙ text_nil q i

-- the same of templates
pub template_skip : (n i : ℕ) (cs : List ℕ) → template_from n i cs ≡ template_from 0 (i + n) (drop n cs)
unfolding template_from
template_skip zero i cs = let e : i + 0 ≡ i = omega arith in rw e refl
template_skip (suc n) i [] = refl
template_skip (suc n) i (c ∷ cs) = let e : i + suc n ≡ i + 1 + n = omega arith in rw e (template_skip n (i + 1) cs)

template_at : (i : ℕ) (cs : List ℕ) (x : ℕ) → i < length cs → x ≡ get_or cs i x → template_from 0 i (drop i cs) ≡ template_from 0 i (x ∷ drop (i + 1) cs)
template_at i cs x h r = ap (template_from 0 i) (drop_more cs i x h ∙ ap (λ c. c ∷ drop (i + 1) cs) (sym r))

pub template_close : (i : ℕ) (cs : List ℕ) (x : ℕ) → i < length cs → x ≡ get_or cs i x → x ≡ 96 → template_from 0 i (drop i cs) ≡ Take (OfTemplate true) (i + 1)
unfolding template_from
template_close i cs x h r e = template_at i cs x h r ∙ cond-true (eqb x 96) _ _ (is_eq x 96 e)

template_escape : EscapeEnd → ℕ → List ℕ → Element
template_escape end i rest = elim end [ Cut ↦ Stop OpenTemplate 0 | Wrong kind ↦ Stop kind i | Spelled n ↦ template_from n (i + 1) rest ]

template_backslash : (i : ℕ) (cs : List ℕ) (x : ℕ) → i < length cs → x ≡ get_or cs i x → x ≡ 92 → template_from 0 i (drop i cs) ≡ template_escape (escape (drop (i + 1) cs)) i (drop (i + 1) cs)
unfolding template_from template_escape
template_backslash i cs x h r e = template_at i cs x h r ∙ cond-false (eqb x 96) _ _ (is_ne x 96 (λ n. let bad : 92 ≡ 96 = sym e ∙ n in omega arith)) ∙ cond-true (eqb x 92) _ _ (is_eq x 92 e)

pub template_cut : (i : ℕ) (cs : List ℕ) (x : ℕ) → i < length cs → x ≡ get_or cs i x → x ≡ 92 → escape (drop (i + 1) cs) ≡ Cut → template_from 0 i (drop i cs) ≡ Stop OpenTemplate 0
unfolding template_escape
template_cut i cs x h r e end = template_backslash i cs x h r e ∙ ap (λ v. template_escape v i (drop (i + 1) cs)) end

pub template_wrong : (i : ℕ) (cs : List ℕ) (x : ℕ) (kind : LexicalKind) → i < length cs → x ≡ get_or cs i x → x ≡ 92 → escape (drop (i + 1) cs) ≡ Wrong kind → template_from 0 i (drop i cs) ≡ Stop kind i
unfolding template_escape
template_wrong i cs x kind h r e end = template_backslash i cs x h r e ∙ ap (λ v. template_escape v i (drop (i + 1) cs)) end

pub template_spelled : (i : ℕ) (cs : List ℕ) (x k : ℕ) → i < length cs → x ≡ get_or cs i x → x ≡ 92 → escape (drop (i + 1) cs) ≡ Spelled k
    → template_from 0 i (drop i cs) ≡ template_from 0 (i + (1 + k)) (drop (i + (1 + k)) cs)
unfolding template_escape
template_spelled i cs x k h r e end =
    let place : i + 1 + k ≡ i + (1 + k) = omega arith in
    template_backslash i cs x h r e ∙ ap (λ v. template_escape v i (drop (i + 1) cs)) end ∙ template_skip k (i + 1) (drop (i + 1) cs)
    ∙ ap (template_from 0 (i + 1 + k)) (drop-drop k (i + 1) cs) ∙ ap (λ m. template_from 0 m (drop m cs)) place

head_of_drop : (cs : List ℕ) (i : ℕ) → slice_index (drop (i + 1) cs) 0 ≡ slice_index cs (i + 1)
head_of_drop cs i = let e : i + 1 + 0 ≡ i + 1 = omega arith in get_or-drop (i + 1) cs 0 0 ∙ ap (λ n. get_or cs n 0) e

template_dollar : (i : ℕ) (cs : List ℕ) (x : ℕ) → i < length cs → x ≡ get_or cs i x → (x ≡ 96 → ⊥) → (x ≡ 92 → ⊥)
    → template_from 0 i (drop i cs) ≡ cond (eqb x 36 && eqb (slice_index cs (i + 1)) 123) (Take (OfTemplate false) (i + 2)) (template_from 0 (i + 1) (drop (i + 1) cs))
unfolding template_from
template_dollar i cs x h r n e =
    template_at i cs x h r ∙ cond-false (eqb x 96) _ _ (is_ne x 96 n) ∙ cond-false (eqb x 92) _ _ (is_ne x 92 e)
    ∙ ap (λ y. cond (eqb x 36 && eqb y 123) (Take (OfTemplate false) (i + 2)) (template_from 0 (i + 1) (drop (i + 1) cs))) (head_of_drop cs i)

pub template_open : (i : ℕ) (cs : List ℕ) (x : ℕ) → i < length cs → x ≡ get_or cs i x → (x ≡ 96 → ⊥) → (x ≡ 92 → ⊥) → (eqb x 36 && eqb (slice_index cs (i + 1)) 123) ≡ true
    → template_from 0 i (drop i cs) ≡ Take (OfTemplate false) (i + 2)
template_open i cs x h r n e l = template_dollar i cs x h r n e ∙ cond-true _ _ _ l

pub template_char : (i : ℕ) (cs : List ℕ) (x : ℕ) → i < length cs → x ≡ get_or cs i x → (x ≡ 96 → ⊥) → (x ≡ 92 → ⊥) → (eqb x 36 && eqb (slice_index cs (i + 1)) 123) ≡ false
    → template_from 0 i (drop i cs) ≡ template_from 0 (i + 1) (drop (i + 1) cs)
template_char i cs x h r n e l = template_dollar i cs x h r n e ∙ cond-false _ _ _ l

template_nil : (i : ℕ) → template_from 0 i [] ≡ Stop OpenTemplate 0
unfolding template_from
template_nil i = refl

pub template_end : (i : ℕ) (cs : List ℕ) → length cs ≤ i → template_from 0 i (drop i cs) ≡ Stop OpenTemplate 0
template_end i cs h = at_drop_all (template_from 0 i) cs i h ∙ template_nil i

-- a comment
block_step : (i : ℕ) (nl : Bool) (cs : List ℕ) (x : ℕ) → i < length cs → x ≡ get_or cs i x
    → block_from i nl (drop i cs) ≡ cond (eqb x 42 && eqb (slice_index cs (i + 1)) 47) (Skip (i + 2) nl) (block_from (i + 1) (nl || is_line_terminator x) (drop (i + 1) cs))
unfolding block_from
block_step i nl cs x h r =
    ap (block_from i nl) (drop_more cs i x h ∙ ap (λ c. c ∷ drop (i + 1) cs) (sym r))
    ∙ ap (λ y. cond (eqb x 42 && eqb y 47) (Skip (i + 2) nl) (block_from (i + 1) (nl || is_line_terminator x) (drop (i + 1) cs))) (head_of_drop cs i)

pub block_close : (i : ℕ) (nl : Bool) (cs : List ℕ) (x : ℕ) → i < length cs → x ≡ get_or cs i x → (eqb x 42 && eqb (slice_index cs (i + 1)) 47) ≡ true → block_from i nl (drop i cs) ≡ Skip (i + 2) nl
block_close i nl cs x h r l = block_step i nl cs x h r ∙ cond-true _ _ _ l

pub block_more : (i : ℕ) (nl : Bool) (cs : List ℕ) (x : ℕ) → i < length cs → x ≡ get_or cs i x → (eqb x 42 && eqb (slice_index cs (i + 1)) 47) ≡ false
    → block_from i nl (drop i cs) ≡ block_from (i + 1) (nl || is_line_terminator x) (drop (i + 1) cs)
block_more i nl cs x h r l = block_step i nl cs x h r ∙ cond-false _ _ _ l

block_nil : (i : ℕ) (nl : Bool) → block_from i nl [] ≡ Stop OpenComment 0
unfolding block_from
block_nil i nl = refl

pub block_end : (i : ℕ) (nl : Bool) (cs : List ℕ) → length cs ≤ i → block_from i nl (drop i cs) ≡ Stop OpenComment 0
block_end i nl cs h = at_drop_all (block_from i nl) cs i h ∙ block_nil i nl

-- the units of characters
cooked_skip : (n : ℕ) (cs : List ℕ) → cooked_from n cs ≡ cooked_from 0 (drop n cs)
unfolding cooked_from
cooked_skip zero cs = refl
cooked_skip (suc n) [] = refl
cooked_skip (suc n) (c ∷ cs) = cooked_skip n cs

cooked_at : (i : ℕ) (cs : List ℕ) (x : ℕ) → i < length cs → x ≡ get_or cs i x
    → cooked_from 0 (drop i cs) ≡ cond (eqb x 92) (escape_units (drop (i + 1) cs) ++ cooked_from (escape_length (drop (i + 1) cs)) (drop (i + 1) cs)) (character_units x (slice_index cs (i + 1)) ++ cooked_from 0 (drop (i + 1) cs))
unfolding cooked_from
cooked_at i cs x h r =
    ap (cooked_from 0) (drop_more cs i x h ∙ ap (λ c. c ∷ drop (i + 1) cs) (sym r))
    ∙ ap (λ y. cond (eqb x 92) (escape_units (drop (i + 1) cs) ++ cooked_from (escape_length (drop (i + 1) cs)) (drop (i + 1) cs)) (character_units x y ++ cooked_from 0 (drop (i + 1) cs))) (head_of_drop cs i)

pub cooked_escape : (us : List ℕ) (i : ℕ) (cs : List ℕ) (x : ℕ) → i < length cs → x ≡ get_or cs i x → x ≡ 92
    → (us ++ escape_units (drop (i + 1) cs)) ++ cooked_from 0 (drop (i + (1 + escape_length (drop (i + 1) cs))) cs) ≡ us ++ cooked_from 0 (drop i cs)
cooked_escape us i cs x h r e =
    let rest = drop (i + 1) cs in
    let n = escape_length rest in
    let place : i + 1 + n ≡ i + (1 + n) = omega arith in
    append_assoc us (escape_units rest) (cooked_from 0 (drop (i + (1 + n)) cs))
    ∙ ap (λ t. us ++ (escape_units rest ++ t)) (ap (λ m. cooked_from 0 (drop m cs)) (sym place) ∙ sym (ap (cooked_from 0) (drop-drop n (i + 1) cs)) ∙ sym (cooked_skip n rest))
    ∙ ap (λ t. us ++ t) (sym (cooked_at i cs x h r ∙ cond-true (eqb x 92) _ _ (is_eq x 92 e)))

pub cooked_char : (us : List ℕ) (i : ℕ) (cs : List ℕ) (x : ℕ) → i < length cs → x ≡ get_or cs i x → (x ≡ 92 → ⊥)
    → (us ++ character_units x (slice_index cs (i + 1))) ++ cooked_from 0 (drop (i + 1) cs) ≡ us ++ cooked_from 0 (drop i cs)
cooked_char us i cs x h r e =
    append_assoc us (character_units x (slice_index cs (i + 1))) (cooked_from 0 (drop (i + 1) cs))
    ∙ ap (λ t. us ++ t) (sym (cooked_at i cs x h r ∙ cond-false (eqb x 92) _ _ (is_ne x 92 e)))

cooked_nil : cooked_from 0 [] ≡ []
unfolding cooked_from
cooked_nil = refl

pub cooked_end : (us : List ℕ) (i : ℕ) (cs : List ℕ) → length cs ≤ i → us ++ cooked_from 0 (drop i cs) ≡ us
cooked_end us i cs h = ap (λ t. us ++ t) (at_drop_all (cooked_from 0) cs i h ∙ cooked_nil) ∙ append-nil us
