-- Where the tokens of a text end.
use Rattle.std.proofs.Common.{◌≡◌, ℕ, suc, ◌-◌, List, [], ◌∷◌, length, map, take, drop, Option, Some, None, sym, ap, ◌∙◌, arith}
use Rattle.std.specs.List.{slice_get}
use Rattle.std.proofs.Math.Seq.{take-length}
use Rattle.std.proofs.lemmas.List.{length-drop}
use Rattle.es6_lexer.specs.declared.token.Token.{Token}
use Rattle.es6_ast.specs.Tokens.{read, end_of}
use Rattle.es6_expr.specs.Faults.{place_of}

one_before_last : (x y : Token) (xs : List Token) → slice_get (y ∷ xs) (length (y ∷ xs) - 1) ≡ slice_get (x ∷ y ∷ xs) (length (x ∷ y ∷ xs) - 1)
one_before_last x y xs =
    let e : length (y ∷ xs) - 1 ≡ length xs = omega arith in
    let f : suc (length xs) ≡ length (x ∷ y ∷ xs) - 1 = omega arith in
    ap (slice_get (y ∷ xs)) e ∙ ap (slice_get (x ∷ y ∷ xs)) f

last_end : (at : ℕ) (xs : List Token) (t : Token) → slice_get xs (length xs - 1) ≡ Some t → end_of at (map read xs) ≡ t.span.end
last_end at [] t h = absurd (cc)
last_end at (x ∷ []) t h = let e : x ≡ t = cc in ap (λ z. z.span.end) e
last_end at (x ∷ y ∷ xs) t h = last_end x.span.end (y ∷ xs) t (one_before_last x y xs ∙ h)

-- where nothing is left
pub end_place : (all rest : List Token) (last : Token) → slice_get rest 0 ≡ None → slice_get all (length all - 1) ≡ Some last → last.span.end ≡ place_of (map read all) (map read rest)
end_place all [] last h k = sym (last_end 0 all last k)
end_place all (x ∷ xs) last h k = absurd (cc)

-- a slice up to the end
pub to_the_end : (all : List Token) (from : ℕ) → take (length all - from) (drop from all) ≡ drop from all
to_the_end all from = ap (λ n. take n (drop from all)) (sym (length-drop from all)) ∙ take-length (drop from all)
