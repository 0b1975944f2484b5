-- One turn of the lexer is one rule of the tokens.
use Rattle.std.proofs.Common.{◌≡◌, ℕ, ◌+◌, Bool, false, ◌||◌, List, [], ◌∷◌, ◌++◌, length, take, drop, refl, sym, ap, subst, ◌∙◌, append_assoc}
use Rattle.std.specs.Str.{encode_utf8_all}
use Rattle.es6_lexer.specs.declared.token.Token.{Token}
use Rattle.es6_lexer.specs.declared.token.TokenKind.{TokenKind}
use Rattle.es6_lexer.specs.declared.token.TokenKind.TheVariants.{Fault, End}
use Rattle.es6_lexer.specs.declared.token.LexicalKind.{LexicalKind}
use Rattle.es6_lexer.specs.declared.shape.Element.TheVariants.{Finished, Skip, Take, Stop}
use Rattle.es6_lexer.specs.declared.shape.Shape.{Shape}
use Rattle.es6_lexer.specs.Elements.{element}
use Rattle.es6_lexer.specs.Values.{kind_of}
use Rattle.es6_lexer.specs.Lexes.{LexesFrom, finished, stopped, skipped, taken, closes, opened, offset_after, token_at}

pub step_skip : (braces : List Bool) (newline : Bool) (offset : ℕ) (rest : List ℕ) (n : ℕ) (line b : Bool) (size : ℕ) (front after : List ℕ) (tokens : List Token)
    → Skip n line ≡ element b rest → b ≡ closes braces → size ≡ length (encode_utf8_all front) → front ≡ take n rest → after ≡ drop n rest
    → LexesFrom braces (newline || line) (offset + size) after tokens → LexesFrom braces newline offset rest tokens
step_skip braces newline offset rest n line b size front after tokens e c s f a d =
    let moved = subst (λ (m : ℕ). LexesFrom braces (newline || line) (offset + m) after tokens) (s ∙ ap (λ t. length (encode_utf8_all t)) f) d in
    skipped braces newline offset rest n line tokens (sym (e ∙ ap (λ x. element x rest) c)) (subst (λ (t : List ℕ). LexesFrom braces (newline || line) (offset_after offset n rest) t tokens) a moved)

pub step_take : (braces next : List Bool) (newline : Bool) (offset : ℕ) (rest : List ℕ) (shape : Shape) (n : ℕ) (b : Bool) (size end : ℕ) (front after : List ℕ) (kind : TokenKind) (token : Token) (tokens : List Token)
    → Take shape n ≡ element b rest → b ≡ closes braces → size ≡ length (encode_utf8_all front) → front ≡ take n rest → after ≡ drop n rest
    → kind ≡ kind_of shape front → next ≡ opened kind braces → token ≡ token_at kind offset end newline → end ≡ offset + size
    → LexesFrom next false (offset + size) after tokens → (all : List Token) × (all ≡ token ∷ tokens) × LexesFrom braces newline offset rest all
step_take braces next newline offset rest shape n b size end front after kind token tokens e c s f a k o t w d =
    let same_kind = k ∙ ap (kind_of shape) f in
    let size_is = s ∙ ap (λ x. length (encode_utf8_all x)) f in
    let d1 = subst (λ (m : ℕ). LexesFrom next false (offset + m) after tokens) size_is d in
    let d2 = subst (λ (x : List ℕ). LexesFrom next false (offset_after offset n rest) x tokens) a d1 in
    let d3 = subst (λ (x : List Bool). LexesFrom x false (offset_after offset n rest) (drop n rest) tokens) (o ∙ ap (λ x. opened x braces) same_kind) d2 in
    let token_is = t ∙ ap (λ x. token_at x offset end newline) same_kind ∙ ap (λ x. token_at (kind_of shape (take n rest)) offset x newline) (w ∙ ap (λ m. offset + m) size_is) in (
      token_at (kind_of shape (take n rest)) offset (offset_after offset n rest) newline ∷ tokens,
      ap (λ x. x ∷ tokens) (sym token_is),
      taken braces newline offset rest shape n tokens (sym (e ∙ ap (λ x. element x rest) c)) d3,
    )

pub step_end : (braces : List Bool) (newline : Bool) (offset : ℕ) (rest : List ℕ) (b : Bool) (token : Token) → Finished ≡ element b rest → b ≡ closes braces → token ≡ token_at End offset offset newline
    → LexesFrom braces newline offset rest (token ∷ [])
step_end braces newline offset rest b token e c t =
    subst (λ (x : Token). LexesFrom braces newline offset rest (x ∷ [])) (sym t) (finished braces newline offset rest (sym (e ∙ ap (λ x. element x rest) c)))

pub step_stop : (braces : List Bool) (newline : Bool) (offset : ℕ) (rest : List ℕ) (kind : LexicalKind) (at : ℕ) (b : Bool) (token : Token) → Stop kind at ≡ element b rest → b ≡ closes braces
    → token ≡ token_at (Fault kind) (offset_after offset at rest) (offset_after offset (at + 1) rest) newline → LexesFrom braces newline offset rest (token ∷ [])
step_stop braces newline offset rest kind at b token e c t =
    subst (λ (x : Token). LexesFrom braces newline offset rest (x ∷ [])) (sym t) (stopped braces newline offset rest kind at (sym (e ∙ ap (λ x. element x rest) c)))
