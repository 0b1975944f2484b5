-- The rules of the tokens exclude one another.
use Rattle.std.proofs.Common.{◌≡◌, ℕ, ◌+◌, Bool, false, ◌||◌, List, [], ◌∷◌, take, drop, refl, sym, ap, subst, ◌∙◌}
use Rattle.es6_lexer.specs.declared.token.Token.{Token}
use Rattle.es6_lexer.specs.declared.token.TokenKind.TheVariants.{Fault}
use Rattle.es6_lexer.specs.declared.token.LexicalKind.{LexicalKind}
use Rattle.es6_lexer.specs.declared.shape.Element.{Element}
use Rattle.es6_lexer.specs.declared.shape.Element.TheVariants.{Finished, Skip, Take, Stop}
use Rattle.es6_lexer.specs.declared.shape.Shape.{Shape}
use Rattle.es6_lexer.specs.Elements.{element}
use Rattle.es6_lexer.specs.Values.{kind_of}
use Rattle.es6_lexer.specs.Lexes.{LexesFrom, finished, stopped, skipped, taken, closes, opened, offset_after, token_at}

pub same_tokens : (braces : List Bool) (newline : Bool) (offset : ℕ) (rest : List ℕ) (a b : List Token) → LexesFrom braces newline offset rest a → LexesFrom braces newline offset rest b → a ≡ b
same_tokens _ _ _ _ _ _ (finished braces newline offset rest e) (finished _ _ _ _ f) = refl
same_tokens _ _ _ _ _ _ (finished braces newline offset rest e) (stopped _ _ _ _ kind at f) = cc
same_tokens _ _ _ _ _ _ (finished braces newline offset rest e) (skipped _ _ _ _ n line tokens f d) = cc
same_tokens _ _ _ _ _ _ (finished braces newline offset rest e) (taken _ _ _ _ shape n tokens f d) = cc
same_tokens _ _ _ _ _ _ (stopped braces newline offset rest kind at e) (finished _ _ _ _ f) = cc
same_tokens _ _ _ _ _ _ (stopped braces newline offset rest kind at e) (stopped _ _ _ _ kind' at' f) = cc
same_tokens _ _ _ _ _ _ (stopped braces newline offset rest kind at e) (skipped _ _ _ _ n line tokens f d) = cc
same_tokens _ _ _ _ _ _ (stopped braces newline offset rest kind at e) (taken _ _ _ _ shape n tokens f d) = cc
same_tokens _ _ _ _ _ _ (skipped braces newline offset rest n line tokens e d) (finished _ _ _ _ f) = cc
same_tokens _ _ _ _ _ _ (skipped braces newline offset rest n line tokens e d) (stopped _ _ _ _ kind at f) = cc
same_tokens _ _ _ _ _ _ (skipped braces newline offset rest n line tokens e d) (skipped _ _ _ _ m line' tokens' f d') =
    let size : m ≡ n = cc in
    let mark : line' ≡ line = cc in
    let d1 = subst (λ (k : ℕ). LexesFrom braces (newline || line') (offset_after offset k rest) (drop k rest) tokens') size d' in
    let d2 = subst (λ (l : Bool). LexesFrom braces (newline || l) (offset_after offset n rest) (drop n rest) tokens') mark d1 in
    same_tokens braces (newline || line) (offset_after offset n rest) (drop n rest) tokens tokens' d d2
same_tokens _ _ _ _ _ _ (skipped braces newline offset rest n line tokens e d) (taken _ _ _ _ shape m tokens' f d') = cc
same_tokens _ _ _ _ _ _ (taken braces newline offset rest shape n tokens e d) (finished _ _ _ _ f) = cc
same_tokens _ _ _ _ _ _ (taken braces newline offset rest shape n tokens e d) (stopped _ _ _ _ kind at f) = cc
same_tokens _ _ _ _ _ _ (taken braces newline offset rest shape n tokens e d) (skipped _ _ _ _ m line tokens' f d') = cc
same_tokens _ _ _ _ _ _ (taken braces newline offset rest shape n tokens e d) (taken _ _ _ _ shape' m tokens' f d') =
    let size : m ≡ n = cc in
    let same_shape : shape' ≡ shape = cc in
    let d1 = subst (λ (k : ℕ). LexesFrom (opened (kind_of shape' (take k rest)) braces) false (offset_after offset k rest) (drop k rest) tokens') size d' in
    let d2 = subst (λ (s : Shape). LexesFrom (opened (kind_of s (take n rest)) braces) false (offset_after offset n rest) (drop n rest) tokens') same_shape d1 in
    let ih = same_tokens _ false (offset_after offset n rest) (drop n rest) tokens tokens' d d2 in
    ap (λ t. token_at (kind_of shape (take n rest)) offset (offset_after offset n rest) newline ∷ t) ih
    ∙ ap (λ s. token_at (kind_of s (take n rest)) offset (offset_after offset n rest) newline ∷ tokens') (sym same_shape)
    ∙ ap (λ k. token_at (kind_of shape' (take k rest)) offset (offset_after offset k rest) newline ∷ tokens') (sym size)
