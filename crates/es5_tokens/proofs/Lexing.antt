-- One turn of the reader is one rule of the tokens.
use Rattle.std.proofs.Common.{◌≡◌, ℕ, ◌+◌, Bool, false, ◌||◌, List, [], ◌∷◌, take, drop, sym, ap, subst, ◌∙◌}
use Rattle.std.specs.Prelude.{Option, Some}
use Rattle.es5_ast.specs.Lexical.{width}
use Rattle.es5_tokens.specs.declared.token.Token.{Token}
use Rattle.es5_tokens.specs.declared.token.TokenKind.{TokenKind}
use Rattle.es5_tokens.specs.declared.token.TokenFault.{TokenFault}
use Rattle.es5_tokens.specs.declared.shape.Element.TheVariants.{Skip, Take, Stop}
use Rattle.es5_tokens.specs.Elements.{element}
use Rattle.es5_tokens.specs.Lexes.{LexesFrom, stopped, skipped, taken, token_at}

pub step_stop : (line : Bool) (at : ℕ) (rest : List ℕ) (fault : TokenFault) (n w : ℕ) → element rest ≡ Stop fault n → w ≡ width (take n rest) → LexesFrom line at rest [] (at + w) (Some fault)
step_stop line at rest fault n w e s = subst (λ m. LexesFrom line at rest [] (at + m) (Some fault)) (sym s) (stopped line at rest fault n e)

pub step_skip : (line : Bool) (at : ℕ) (rest : List ℕ) (n : ℕ) (more : Bool) (w : ℕ) (after : List ℕ) (tokens : List Token) (end : ℕ) (fault : Option TokenFault)
    → element rest ≡ Skip n more → w ≡ width (take n rest) → after ≡ drop n rest → LexesFrom (line || more) (at + w) after tokens end fault → LexesFrom line at rest tokens end fault
step_skip line at rest n more w after tokens end fault e s a d =
    let moved = subst (λ (m : ℕ). LexesFrom (line || more) (at + m) after tokens end fault) s d in
    skipped line at rest n more tokens end fault e (subst (λ (x : List ℕ). LexesFrom (line || more) (at + width (take n rest)) x tokens end fault) a moved)

pub step_take : (line : Bool) (at : ℕ) (rest : List ℕ) (kind : TokenKind) (n w : ℕ) (after : List ℕ) (token : Token) (tokens : List Token) (end : ℕ) (fault : Option TokenFault)
    → element rest ≡ Take kind n → w ≡ width (take n rest) → after ≡ drop n rest → token ≡ token_at kind at (at + w) line → LexesFrom false (at + w) after tokens end fault → LexesFrom line at rest (token ∷ tokens) end fault
step_take line at rest kind n w after token tokens end fault e s a t d =
    let moved = subst (λ (m : ℕ). LexesFrom false (at + m) after tokens end fault) s d in
    let placed = subst (λ (x : List ℕ). LexesFrom false (at + width (take n rest)) x tokens end fault) a moved in
    subst (λ (x : Token). LexesFrom line at rest (x ∷ tokens) end fault) (sym (t ∙ ap (λ m. token_at kind at (at + m) line) s)) (taken line at rest kind n tokens end fault e placed)
