-- Where the tokens of a text end.
use Rattle.std.proofs.Common.{◌≡◌, ℕ, suc, ◌-◌, List, [], ◌∷◌, length, map, take, Some, sym, ap, ◌∙◌, arith}
use Rattle.std.specs.List.{slice_get}
use Rattle.std.proofs.Math.Seq.{take-length}
use Rattle.es_text.specs.declared.Span.{Span}
use Rattle.es5_ast.specs.Lexical.{Token5}
use Rattle.es5_ast.specs.Grammar.{across, begin_of, end_of}
use Rattle.es5_tokens.specs.declared.token.Token.{Token}
use Rattle.es5_tokens.specs.Tokens.{token5}

one_before_last : (x y : Token) (xs : List Token) → slice_get (y ∷ xs) (length (y ∷ xs) - 1) ≡ slice_get (x ∷ y ∷ xs) (length (x ∷ y ∷ xs) - 1)
one_before_last x y xs =
    let e : length (y ∷ xs) - 1 ≡ length xs = omega arith in
    let f : suc (length xs) ≡ length (x ∷ y ∷ xs) - 1 = omega arith in
    ap (slice_get (y ∷ xs)) e ∙ ap (slice_get (x ∷ y ∷ xs)) f

last_end : (at : ℕ) (xs : List Token) (t : Token) → slice_get xs (length xs - 1) ≡ Some t → end_of at (map token5 xs) ≡ t.end
last_end at [] t h = absurd (cc)
last_end at (x ∷ []) t h = let e : x ≡ t = cc in ap (λ z. z.end) e
last_end at (x ∷ y ∷ xs) t h = last_end x.end (y ∷ xs) t (one_before_last x y xs ∙ h)

whole : (ts : List Token5) → across ts [] ≡ record { begin = begin_of ts; end = end_of 0 ts }
whole ts =
    let e : length ts - 0 ≡ length ts = omega arith in
    ap (λ us. record { begin = begin_of ts; end = end_of 0 us }) (ap (λ n. take n ts) e ∙ take-length ts)

first_begin : (xs : List Token) (t : Token) → slice_get xs 0 ≡ Some t → begin_of (map token5 xs) ≡ t.begin
first_begin [] t h = absurd (cc)
first_begin (x ∷ xs) t h = let e : x ≡ t = cc in ap (λ z. z.begin) e

pub from_first_to_last : (xs : List Token) (first last : Token) (span : Span) → slice_get xs 0 ≡ Some first → slice_get xs (length xs - 1) ≡ Some last → span ≡ record { begin = first.begin; end = last.end } → span ≡ across (map token5 xs) []
from_first_to_last xs first last span h k e =
    e ∙ ap (λ b. record { begin = b; end = last.end }) (sym (first_begin xs first h)) ∙ ap (λ n. record { begin = begin_of (map token5 xs); end = n }) (sym (last_end 0 xs last k)) ∙ sym (whole (map token5 xs))
