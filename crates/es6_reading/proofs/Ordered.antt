-- The tokens of a text stand one behind the other, and none but the last is empty.
use Rattle.std.proofs.Common.{◌≡◌, ℕ, ◌<◌, ◌≤◌, Bool, false, List, [], ◌∷◌, length, take, drop, subst, arith}
use Rattle.std.proofs.lemmas.List.{length-take-le}
use Rattle.std.specs.Str.{encode_utf8_all}
use Rattle.std.proofs.lemmas.Str.{length-le-encodes}
use Rattle.es6_lexer.specs.declared.token.Token.{Token}
use Rattle.es6_lexer.specs.declared.token.TokenKind.{TokenKind}
use Rattle.es6_lexer.specs.declared.shape.Element.TheVariants.{Take}
use Rattle.es6_lexer.specs.declared.shape.Shape.{Shape}
use Rattle.es6_lexer.specs.Elements.{IsInside, element}
use Rattle.es6_lexer.specs.Values.{kind_of}
use Rattle.es6_lexer.specs.Lexes.{LexesFrom, finished, stopped, skipped, taken, closes, offset_after, token_at}
use Rattle.es6_lexer.proofs.Within.{element_inside}
use Rattle.es6_ast.specs.Dead.{IsBefore, AreInOrder}
use Rattle.es6_reading.specs.Laws.{StandInOrder}

abbrev pub Behind : ℕ → List Token → Type 0
Behind last [] = Unit {0}
Behind last (t ∷ ts) = last ≤ t.span.begin

behind-more : (n m : ℕ) (ts : List Token) → n ≤ m → Behind m ts → Behind n ts
behind-more n m [] l b = tt
behind-more n m (t ∷ ts) l b = omega arith

offset-grows : (offset n : ℕ) (rest : List ℕ) → offset ≤ offset_after offset n rest
offset-grows offset n rest = omega arith

-- an element takes bytes
taken-bytes : (b : Bool) (rest : List ℕ) (shape : Shape) (n : ℕ) → element b rest ≡ Take shape n → 1 ≤ length (encode_utf8_all (take n rest))
taken-bytes b rest shape n e =
    let inside = subst (λ x. IsInside (length rest) x) e (element_inside b rest) in
    omega (arith, inside.0, length-take-le n rest inside.1, length-le-encodes (take n rest))

before : (kind : TokenKind) (begin end : ℕ) (newline : Bool) (ts : List Token) → begin < end → Behind end ts → IsBefore (token_at kind begin end newline) ts
before kind begin end newline [] l b = tt
before kind begin end newline (t ∷ ts) l b = (l, b)

ordered : (braces : List Bool) (newline : Bool) (offset : ℕ) (rest : List ℕ) (tokens : List Token) → LexesFrom braces newline offset rest tokens → Behind offset tokens × AreInOrder tokens
ordered _ _ _ _ _ (finished braces newline offset rest e) = (omega arith, (tt, tt))
ordered _ _ _ _ _ (stopped braces newline offset rest kind at e) = (offset-grows offset at rest, (tt, tt))
ordered _ _ _ _ _ (skipped braces newline offset rest n line tokens e d) =
    let h = ordered _ _ (offset_after offset n rest) (drop n rest) tokens d in
    (behind-more offset (offset_after offset n rest) tokens (offset-grows offset n rest) h.0, h.1)
ordered _ _ _ _ _ (taken braces newline offset rest shape n tokens e d) =
    let h = ordered _ false (offset_after offset n rest) (drop n rest) tokens d in
    let more = taken-bytes (closes braces) rest shape n e in
    (omega arith, (before (kind_of shape (take n rest)) offset (offset_after offset n rest) newline tokens (omega (arith, more)) h.0, h.1))

pub order : StandInOrder
order text tokens d = (ordered _ _ 0 text tokens d).1
