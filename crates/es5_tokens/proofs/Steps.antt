-- What is read at one place of a text, from what is read at the next.
use Rattle.std.proofs.Common.{◌≡◌, ℕ, zero, suc, ◌+◌, ◌*◌, ◌<◌, ◌≤◌, Bool, true, false, cond, ◌&&◌, ◌||◌, List, [], ◌∷◌, ◌++◌, length, drop, get_or, fold, refl, sym, ap, ◌∙◌, arith}
use Rattle.std.proofs.Math.Nat.{mul-le-mul_left}
use Rattle.std.specs.Prelude.{eqb, slice_index}
use Rattle.std.specs.Char.{digit_value}
use Rattle.std.proofs.lemmas.List.{at_drop_all, drop_more, drop-drop, get_or-drop}
use Rattle.std.proofs.lemmas.Bool.{cond-true, cond-false, eq-eqb, ne_eqb}
use Rattle.es5_ast.specs.Lexical.{is_line_terminator, units_of}
use Rattle.es5_tokens.specs.declared.token.TokenKind.TheVariants.{Text}
use Rattle.es5_tokens.specs.declared.token.TokenFault.TheVariants.{Lexical}
use Rattle.es5_tokens.specs.declared.shape.Element.{Element}
use Rattle.es5_tokens.specs.declared.shape.Element.TheVariants.{Skip, Take, Stop}
use Rattle.es5_tokens.specs.declared.shape.Escape.{Escape}
use Rattle.es5_tokens.specs.declared.shape.Escape.TheVariants.{Cut, Wrong, Stands, Continues}
use Rattle.es5_tokens.specs.Quoted.{escape, text_from, block_from}

-- digits only add to a value
digits_le : (radix value : ℕ) (cs : List ℕ) → 1 ≤ radix → value ≤ fold (λ n d. radix * n + digit_value d) value cs
digits_le radix value [] h = omega arith
digits_le radix value (c ∷ cs) h =
    let more : value * 1 ≤ value * radix = mul-le-mul_left value h in
    omega (arith, digits_le radix (radix * value + digit_value c) cs h)

pub digits_past : (radix value i : ℕ) (cs : List ℕ) (x : ℕ) → i < length cs → x ≡ get_or cs i x → 1 ≤ radix
    → radix * value + digit_value x ≤ fold (λ n d. radix * n + digit_value d) value (drop i cs)
digits_past radix value i cs x h r least =
    let e = ap (fold (λ n d. radix * n + digit_value d) value) (drop_more cs i x h ∙ ap (λ c. c ∷ drop (i + 1) cs) (sym r)) in
    omega (arith, e, digits_le radix (radix * value + digit_value x) (drop (i + 1) cs) least)

-- the characters of an escape are passed over
pub text_skip : (q : ℕ) (us : List ℕ) (n i : ℕ) (cs : List ℕ) → text_from q us i n cs ≡ text_from q us (i + n) 0 (drop n cs)
unfolding text_from
text_skip q us zero i cs = let e : i + 0 ≡ i = omega arith in rw e refl
text_skip q us (suc n) i [] = refl
text_skip q us (suc n) i (c ∷ cs) = let e : i + suc n ≡ i + 1 + n = omega arith in rw e (text_skip q us n (i + 1) cs)

-- a string literal at its character x
text_at : (q : ℕ) (us : List ℕ) (i : ℕ) (cs : List ℕ) (x : ℕ) → i < length cs → x ≡ get_or cs i x → text_from q us i 0 (drop i cs) ≡ text_from q us i 0 (x ∷ drop (i + 1) cs)
text_at q us i cs x h r = ap (text_from q us i 0) (drop_more cs i x h ∙ ap (λ c. c ∷ drop (i + 1) cs) (sym r))

pub text_quote : (q : ℕ) (us : List ℕ) (i : ℕ) (cs : List ℕ) (x : ℕ) → i < length cs → x ≡ get_or cs i x → x ≡ q → text_from q us i 0 (drop i cs) ≡ Take (Text us) (i + 1)
unfolding text_from
text_quote q us i cs x h r e = text_at q us i cs x h r ∙ cond-true (eqb x q) _ _ (eq-eqb x q e)

-- a string literal at a `\`
text_escape : Escape → ℕ → List ℕ → ℕ → List ℕ → Element
text_escape end q us i rest = elim end [
  | Cut ↦ Stop Lexical 0
  | Wrong ↦ Stop Lexical i
  | Stands code n ↦ text_from q (us ++ units_of code) (i + 1) n rest
  | Continues n ↦ text_from q us (i + 1) n rest
]

text_backslash : (q : ℕ) (us : List ℕ) (i : ℕ) (cs : List ℕ) (x : ℕ) → i < length cs → x ≡ get_or cs i x → (x ≡ q → ⊥) → x ≡ 92
    → text_from q us i 0 (drop i cs) ≡ text_escape (escape (drop (i + 1) cs)) q us i (drop (i + 1) cs)
unfolding text_from text_escape
text_backslash q us i cs x h r n e = text_at q us i cs x h r ∙ cond-false (eqb x q) _ _ (ne_eqb x q n) ∙ cond-true (eqb x 92) _ _ (eq-eqb x 92 e)

pub text_cut : (q : ℕ) (us : List ℕ) (i : ℕ) (cs : List ℕ) (x : ℕ) → i < length cs → x ≡ get_or cs i x → (x ≡ q → ⊥) → x ≡ 92 → escape (drop (i + 1) cs) ≡ Cut
    → text_from q us i 0 (drop i cs) ≡ Stop Lexical 0
unfolding text_escape
text_cut q us i cs x h r n e end = text_backslash q us i cs x h r n e ∙ ap (λ v. text_escape v q us i (drop (i + 1) cs)) end

pub text_wrong : (q : ℕ) (us : List ℕ) (i : ℕ) (cs : List ℕ) (x : ℕ) → i < length cs → x ≡ get_or cs i x → (x ≡ q → ⊥) → x ≡ 92 → escape (drop (i + 1) cs) ≡ Wrong
    → text_from q us i 0 (drop i cs) ≡ Stop Lexical i
unfolding text_escape
text_wrong q us i cs x h r n e end = text_backslash q us i cs x h r n e ∙ ap (λ v. text_escape v q us i (drop (i + 1) cs)) end

after_escape : (q : ℕ) (us : List ℕ) (k i : ℕ) (cs : List ℕ) → text_from q us (i + 1) k (drop (i + 1) cs) ≡ text_from q us (i + (1 + k)) 0 (drop (i + (1 + k)) cs)
after_escape q us k i cs =
    let place : i + 1 + k ≡ i + (1 + k) = omega arith in
    text_skip q us k (i + 1) (drop (i + 1) cs) ∙ ap (text_from q us (i + 1 + k) 0) (drop-drop k (i + 1) cs) ∙ ap (λ m. text_from q us m 0 (drop m cs)) place

pub text_stands : (q : ℕ) (us : List ℕ) (i : ℕ) (cs : List ℕ) (x code k : ℕ) → i < length cs → x ≡ get_or cs i x → (x ≡ q → ⊥) → x ≡ 92 → escape (drop (i + 1) cs) ≡ Stands code k
    → text_from q us i 0 (drop i cs) ≡ text_from q (us ++ units_of code) (i + (1 + k)) 0 (drop (i + (1 + k)) cs)
unfolding text_escape
text_stands q us i cs x code k h r n e end =
    text_backslash q us i cs x h r n e ∙ ap (λ v. text_escape v q us i (drop (i + 1) cs)) end ∙ after_escape q (us ++ units_of code) k i cs

pub text_continues : (q : ℕ) (us : List ℕ) (i : ℕ) (cs : List ℕ) (x k : ℕ) → i < length cs → x ≡ get_or cs i x → (x ≡ q → ⊥) → x ≡ 92 → escape (drop (i + 1) cs) ≡ Continues k
    → text_from q us i 0 (drop i cs) ≡ text_from q us (i + (1 + k)) 0 (drop (i + (1 + k)) cs)
unfolding text_escape
text_continues q us i cs x k h r n e end =
    text_backslash q us i cs x h r n e ∙ ap (λ v. text_escape v q us i (drop (i + 1) cs)) end ∙ after_escape q us k i cs

pub text_line : (q : ℕ) (us : List ℕ) (i : ℕ) (cs : List ℕ) (x : ℕ) → i < length cs → x ≡ get_or cs i x → (x ≡ q → ⊥) → (x ≡ 92 → ⊥) → is_line_terminator x ≡ true
    → text_from q us i 0 (drop i cs) ≡ Stop Lexical 0
unfolding text_from
text_line q us i cs x h r n e l =
    text_at q us i cs x h r ∙ cond-false (eqb x q) _ _ (ne_eqb x q n) ∙ cond-false (eqb x 92) _ _ (ne_eqb x 92 e) ∙ cond-true (is_line_terminator x) _ _ l

pub text_char : (q : ℕ) (us : List ℕ) (i : ℕ) (cs : List ℕ) (x : ℕ) → i < length cs → x ≡ get_or cs i x → (x ≡ q → ⊥) → (x ≡ 92 → ⊥) → is_line_terminator x ≡ false
    → text_from q us i 0 (drop i cs) ≡ text_from q (us ++ units_of x) (i + 1) 0 (drop (i + 1) cs)
unfolding text_from
text_char q us i cs x h r n e l =
    text_at q us i cs x h r ∙ cond-false (eqb x q) _ _ (ne_eqb x q n) ∙ cond-false (eqb x 92) _ _ (ne_eqb x 92 e) ∙ cond-false (is_line_terminator x) _ _ l

text_nil : (q : ℕ) (us : List ℕ) (i : ℕ) → text_from q us i 0 [] ≡ Stop Lexical 0
unfolding text_from
text_nil q us i = refl

pub text_end : (q : ℕ) (us : List ℕ) (i : ℕ) (cs : List ℕ) → length cs ≤ i → text_from q us i 0 (drop i cs) ≡ Stop Lexical 0
text_end q us i cs h = at_drop_all (text_from q us i 0) cs i h ∙ text_nil q us i

head_of_drop : (cs : List ℕ) (i : ℕ) → slice_index (drop (i + 1) cs) 0 ≡ slice_index cs (i + 1)
head_of_drop cs i = let e : i + 1 + 0 ≡ i + 1 = omega arith in get_or-drop (i + 1) cs 0 0 ∙ ap (λ n. get_or cs n 0) e

-- a comment
block_step : (i : ℕ) (line : Bool) (cs : List ℕ) (x : ℕ) → i < length cs → x ≡ get_or cs i x
    → block_from i line (drop i cs) ≡ cond (eqb x 42 && eqb (slice_index cs (i + 1)) 47) (Skip (i + 2) line) (block_from (i + 1) (line || is_line_terminator x) (drop (i + 1) cs))
unfolding block_from
block_step i line cs x h r =
    ap (block_from i line) (drop_more cs i x h ∙ ap (λ c. c ∷ drop (i + 1) cs) (sym r))
    ∙ ap (λ y. cond (eqb x 42 && eqb y 47) (Skip (i + 2) line) (block_from (i + 1) (line || is_line_terminator x) (drop (i + 1) cs))) (head_of_drop cs i)

pub block_close : (i : ℕ) (line : Bool) (cs : List ℕ) (x : ℕ) → i < length cs → x ≡ get_or cs i x → (eqb x 42 && eqb (slice_index cs (i + 1)) 47) ≡ true → block_from i line (drop i cs) ≡ Skip (i + 2) line
block_close i line cs x h r l = block_step i line cs x h r ∙ cond-true _ _ _ l

pub block_more : (i : ℕ) (line : Bool) (cs : List ℕ) (x : ℕ) → i < length cs → x ≡ get_or cs i x → (eqb x 42 && eqb (slice_index cs (i + 1)) 47) ≡ false
    → block_from i line (drop i cs) ≡ block_from (i + 1) (line || is_line_terminator x) (drop (i + 1) cs)
block_more i line cs x h r l = block_step i line cs x h r ∙ cond-false _ _ _ l

block_nil : (i : ℕ) (line : Bool) → block_from i line [] ≡ Stop Lexical 0
unfolding block_from
block_nil i line = refl

pub block_end : (i : ℕ) (line : Bool) (cs : List ℕ) → length cs ≤ i → block_from i line (drop i cs) ≡ Stop Lexical 0
block_end i line cs h = at_drop_all (block_from i line) cs i h ∙ block_nil i line
