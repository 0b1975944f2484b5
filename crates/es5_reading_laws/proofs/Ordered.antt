-- The tokens of a text stand one behind the other, and none is empty.
use Rattle.std.proofs.Common.{◌≡◌, ℕ, suc, ◌+◌, ◌<◌, ◌≤◌, Bool, true, List, [], ◌∷◌, length, sym, subst, arith}
use Rattle.std.specs.Char.{len_utf8}
use Rattle.std.proofs.lemmas.Bool.{false≢true}
use Rattle.std.proofs.lemmas.Fmt.{decimal_nonempty}
use Rattle.std.proofs.lemmas.List.Sums.{sum_by-cons}
use Rattle.std.proofs.lemmas.Str.{len_utf8_bounds}
use Rattle.es5_ast.specs.Lexical.{Kind5, Token5, is_identifier_name, is_one_of, punctuators, width, SpellsToken, word, decimal_integer, hexadecimal_integer, double_quoted, single_quoted, punctuator, Tokens5, finished, white_space, line_terminator, single_line_comment, multi_line_comment, token}
use Rattle.es5_ast.specs.Dead.{IsBefore, AreInOrder}
use Rattle.es5_reading_laws.specs.Laws.{TextsAreInOrder}

abbrev Behind : ℕ → List Token5 → Type 0
Behind last [] = Unit {0}
Behind last (t ∷ ts) = last ≤ t.begin

behind-more : (n m : ℕ) (ts : List Token5) → n ≤ m → Behind m ts → Behind n ts
behind-more n m [] l b = tt
behind-more n m (t ∷ ts) l b = by n m t.begin l b
  where
    by : (a b c : ℕ) → a ≤ b → b ≤ c → a ≤ c
    by a b c h k = omega arith

some : (n : ℕ) → 1 ≤ suc n
some n = omega arith

-- a token has a character at least
spelled : {kind : Kind5} {text : List ℕ} → SpellsToken kind text → 1 ≤ length text
unfolding punctuators
spelled (word {name = name} e) = by name e
  where
    by : (name : List ℕ) → is_identifier_name name ≡ true → 1 ≤ length name
    by [] e = absurd (false≢true e)
    by (c ∷ cs) e = some (length cs)
spelled (decimal_integer {value = value} e) = decimal_nonempty value (omega arith)
spelled (hexadecimal_integer x a e) = some _
spelled (double_quoted d) = some _
spelled (single_quoted d) = some _
spelled (punctuator {p = p} e) = by p e
  where
    by : (p : List ℕ) → is_one_of p punctuators ≡ true → 1 ≤ length p
    by [] e = absurd (false≢true e)
    by (c ∷ cs) e = some (length cs)

wide : (text : List ℕ) → 1 ≤ length text → 1 ≤ width text
wide [] h = absurd (none h)
  where
    none : 1 ≤ 0 → ⊥
    none h = omega arith
wide (c ∷ cs) h = subst (λ n. 1 ≤ n) (sym (sum_by-cons len_utf8 c cs)) (by (len_utf8 c) (width cs) (len_utf8_bounds c).0)
  where
    by : (a b : ℕ) → 1 ≤ a → 1 ≤ a + b
    by a b h = omega arith

grows : (a b : ℕ) → a ≤ a + b
grows a b = omega arith

before : (t : Token5) (ts : List Token5) → Behind t.end ts → IsBefore t ts
before t [] b = tt
before t (u ∷ us) b = b

ordered : {at : ℕ} {line : Bool} {text : List ℕ} {tokens : List Token5} → Tokens5 at line text tokens → Behind at tokens × AreInOrder tokens
ordered finished = (tt, tt)
ordered (white_space {at = at} {c = c} {ts = ts} e d) = let h = ordered d in (behind-more at (at + len_utf8 c) ts (grows at (len_utf8 c)) h.0, h.1)
ordered (line_terminator {at = at} {c = c} {ts = ts} e d) = let h = ordered d in (behind-more at (at + len_utf8 c) ts (grows at (len_utf8 c)) h.0, h.1)
ordered (single_line_comment {at = at} text body rest {ts = ts} a b c d) = let h = ordered d in (behind-more at (at + width text) ts (grows at (width text)) h.0, h.1)
ordered (multi_line_comment {at = at} text body rest {ts = ts} a b d) = let h = ordered d in (behind-more at (at + width text) ts (grows at (width text)) h.0, h.1)
ordered (token {at = at} {line = line} text rest {ts = ts} kind s w d) =
    let h = ordered d in
    (here at, (less at (width text) (wide text (spelled s)), before (record { begin = at; end = at + width text; after_line = line; kind = kind }) ts h.0, h.1))
  where
    here : (n : ℕ) → n ≤ n
    here n = omega arith

    less : (a b : ℕ) → 1 ≤ b → a < a + b
    less a b h = omega arith

pub in-order : TextsAreInOrder
in-order text tokens d = (ordered d).1
