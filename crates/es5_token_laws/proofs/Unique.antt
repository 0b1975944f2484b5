-- The rules by which a text is read exclude one another.
use Rattle.std.proofs.Common.{◌≡◌, ℕ, ◌+◌, Bool, false, ◌||◌, List, ◌∷◌, take, drop, refl, sym, ap, subst, ◌∙◌}
use Rattle.std.specs.Prelude.{Option}
use Rattle.es5_ast.specs.Lexical.{width}
use Rattle.es5_tokens.specs.declared.token.Token.{Token}
use Rattle.es5_tokens.specs.declared.token.TokenFault.{TokenFault}
use Rattle.es5_tokens.specs.Lexes.{LexesFrom, finished, stopped, skipped, taken, token_at}

pub same_tokens : (line : Bool) (at : ℕ) (rest : List ℕ) (a : List Token) (e : ℕ) (f : Option TokenFault) (b : List Token) (d : ℕ) (g : Option TokenFault)
    → LexesFrom line at rest a e f → LexesFrom line at rest b d g → (a ≡ b) × (f ≡ g)
same_tokens _ _ _ _ _ _ _ _ _ (finished line at rest e) (finished _ _ _ f) = (refl, refl)
same_tokens _ _ _ _ _ _ _ _ _ (finished line at rest e) (stopped _ _ _ fault n f) = cc
same_tokens _ _ _ _ _ _ _ _ _ (finished line at rest e) (skipped _ _ _ n more tokens end fault f d) = cc
same_tokens _ _ _ _ _ _ _ _ _ (finished line at rest e) (taken _ _ _ kind n tokens end fault f d) = cc
same_tokens _ _ _ _ _ _ _ _ _ (stopped line at rest fault n e) (finished _ _ _ f) = cc
same_tokens _ _ _ _ _ _ _ _ _ (stopped line at rest fault n e) (stopped _ _ _ fault' n' f) = (refl, cc)
same_tokens _ _ _ _ _ _ _ _ _ (stopped line at rest fault n e) (skipped _ _ _ m more tokens end fault' f d) = cc
same_tokens _ _ _ _ _ _ _ _ _ (stopped line at rest fault n e) (taken _ _ _ kind m tokens end fault' f d) = cc
same_tokens _ _ _ _ _ _ _ _ _ (skipped line at rest n more tokens end fault e d) (finished _ _ _ f) = cc
same_tokens _ _ _ _ _ _ _ _ _ (skipped line at rest n more tokens end fault e d) (stopped _ _ _ fault' m f) = cc
same_tokens _ _ _ _ _ _ _ _ _ (skipped line at rest n more tokens end fault e d) (skipped _ _ _ m more' tokens' end' fault' f d') =
    let size : m ≡ n = cc in
    let mark : more' ≡ more = cc in
    let d1 = subst (λ (k : ℕ). LexesFrom (line || more') (at + width (take k rest)) (drop k rest) tokens' end' fault') size d' in
    let d2 = subst (λ (l : Bool). LexesFrom (line || l) (at + width (take n rest)) (drop n rest) tokens' end' fault') mark d1 in
    same_tokens (line || more) (at + width (take n rest)) (drop n rest) tokens end fault tokens' end' fault' d d2
same_tokens _ _ _ _ _ _ _ _ _ (skipped line at rest n more tokens end fault e d) (taken _ _ _ kind m tokens' end' fault' f d') = cc
same_tokens _ _ _ _ _ _ _ _ _ (taken line at rest kind n tokens end fault e d) (finished _ _ _ f) = cc
same_tokens _ _ _ _ _ _ _ _ _ (taken line at rest kind n tokens end fault e d) (stopped _ _ _ fault' m f) = cc
same_tokens _ _ _ _ _ _ _ _ _ (taken line at rest kind n tokens end fault e d) (skipped _ _ _ m more tokens' end' fault' f d') = cc
same_tokens _ _ _ _ _ _ _ _ _ (taken line at rest kind n tokens end fault e d) (taken _ _ _ kind' m tokens' end' fault' f d') =
    let size : m ≡ n = cc in
    let same_kind : kind' ≡ kind = cc in
    let d1 = subst (λ (k : ℕ). LexesFrom false (at + width (take k rest)) (drop k rest) tokens' end' fault') size d' in
    let ih = same_tokens false (at + width (take n rest)) (drop n rest) tokens end fault tokens' end' fault' d d1 in (
      ap (λ t. token_at kind at (at + width (take n rest)) line ∷ t) ih.0
          ∙ ap (λ k. token_at k at (at + width (take n rest)) line ∷ tokens') (sym same_kind)
          ∙ ap (λ k. token_at kind' at (at + width (take k rest)) line ∷ tokens') (sym size),
      ih.1,
    )
