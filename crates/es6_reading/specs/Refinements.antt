-- What is proved of refinements, in the grammar's terms.
use Rattle.std.specs.Prelude.{◌≡◌, ◌⊎◌, ℕ, ◌≤◌, false, true, List, ◌∷◌, Option, Some, None}
use Rattle.es_text.specs.declared.Span.{Span}
use Rattle.es6_lexer.specs.declared.token.Punctuator.TheVariants as mark
use Rattle.es6_ast.specs.declared.operators.AssignOperator.{AssignOperator}
use Rattle.es6_ast.specs.declared.tree.Identifier.{Identifier}
use Rattle.es6_ast.specs.declared.tree.Expression.{Expression}
use Rattle.es6_ast.specs.declared.tree.Expression.TheVariants as expr
use Rattle.es6_ast.specs.declared.tree.Parameter.{Parameter}
use Rattle.es6_ast.specs.declared.tree.Part.{Part}
use Rattle.es6_ast.specs.declared.tree.Pattern.{Pattern}
use Rattle.es6_ast.specs.declared.settings.Flags.{Flags}
use Rattle.es6_ast.specs.Tokens.{Filled, IsMark, across}
use Rattle.es6_ast.specs.Targets.{misfit}
use Rattle.es6_ast.specs.Grammar.{with_in, level_sequence, level_assignment, level_left_hand_side, level_primary, IsName, IsExpression, IsAssigned, IsTarget, IsPart, AreArrowParameters}
use Rattle.es6_reading.specs.Refine.{Refined, Fits, Misfit, TooNested, refine_pattern, refine_part, target_before, refine_parameters}

-- this holds of what the expression is spelled as, if it is so spelled
pub data IfFits {A : Type 0} (Q : A → Type 0) : Refined A → Type 0 where
  fits : {x : A} → Q x → IfFits Q (Fits x)
  misfits : {at : ℕ} → IfFits Q (Misfit at)
  too_nested : IfFits Q TooNested

-- It is refined where there is no misfit, and else stands where the misfit is.
pub data Places {A : Type 0} (misfit : Option ℕ) : Refined A → Type 0 where
  no_misfit : {x : A} → misfit ≡ None → Places misfit (Fits x)
  first_misfit_at : {at : ℕ} → misfit ≡ Some at → Places misfit (Misfit at)
  too_deep : Places misfit TooNested

-- The parentheses that only an arrow's parameters have (14.2): nothing in them, or a rest, after an expression and a comma or
-- alone.
pub data IsCover (f : Flags) : List Filled → Expression → List Filled → Type 0 where
  empty_cover : {open_ close : Filled} {ts : List Filled} (span : Span) (x : Expression) → IsMark mark.LeftParenthesis open_ → IsMark mark.RightParenthesis close → x ≡ expr.Cover span None None → IsCover f (open_ ∷ close ∷ ts) x ts
  rest_cover : {open_ dots close : Filled} {ts us : List Filled} (span : Span) (n : Identifier) (x : Expression) → IsMark mark.LeftParenthesis open_ → IsMark mark.Ellipsis dots → IsName ts n (close ∷ us) → IsMark mark.RightParenthesis close
      → x ≡ expr.Cover span None (Some (record { span = across (dots ∷ ts) (close ∷ us); name = n })) → IsCover f (open_ ∷ dots ∷ ts) x us
  held_cover : {open_ comma dots close : Filled} {ts us vs : List Filled} (span : Span) (held : Expression) (n : Identifier) (x : Expression) → IsMark mark.LeftParenthesis open_ → IsExpression (with_in f) level_sequence ts held (comma ∷ dots ∷ us) → IsMark mark.Comma comma
      → IsMark mark.Ellipsis dots → IsName us n (close ∷ vs) → IsMark mark.RightParenthesis close → x ≡ expr.Cover span (Some held) (Some (record { span = across (dots ∷ us) (close ∷ vs); name = n })) → IsCover f (open_ ∷ ts) x vs

-- The tokens that spell an expression spell what it is refined to, too: a target of a pattern, a part that binds, what stands
-- before an assignment operator, and the parameters of an arrow. An expression that is no pattern is refined up to the first part
-- that no pattern spells.
pub record AreRefined : Type 0 where
  pub targets : (n : ℕ) (f : Flags) (least : ℕ) (ts us : List Filled) (x : Expression) → IsExpression f least ts x us → IfFits (λ p. IsTarget f false ts p us) (refine_pattern n x)
  pub parts : (n : ℕ) (f : Flags) (least : ℕ) (ts us : List Filled) (x : Expression) → IsExpression (with_in f) least ts x us → IfFits (λ q. IsPart (with_in f) true ts q us) (refine_part n x)
  pub assigned : (n : ℕ) (f : Flags) (operator : AssignOperator) (ts us : List Filled) (x : Expression) → IsExpression f level_left_hand_side ts x us → IfFits (λ p. IsAssigned f operator ts p us) (target_before n operator x)
  pub parameters : (n : ℕ) (f : Flags) (least : ℕ) (ts us : List Filled) (x : Expression) → IsExpression f least ts x us → IfFits (λ es. AreArrowParameters f ts es us) (refine_parameters n x)
  pub covered : (n : ℕ) (f : Flags) (ts us : List Filled) (x : Expression) → IsCover f ts x us → IfFits (λ es. AreArrowParameters f ts es us) (refine_parameters n x)
  pub places : (n : ℕ) (x : Expression) → Places (misfit x) (refine_pattern n x)

-- An expression that is so spelled, and is refined to this where it is looked into deep enough.
pub record ComesFrom {A : Type 0} (Spells : Expression → Type 0) (refined : ℕ → Expression → Refined A) (y : A) : Type 0 where
  pub value : Expression
  pub spelled : Spells value
  pub enough : ℕ
  pub becomes : (n : ℕ) → enough ≤ n → refined n value ≡ Fits y

-- Whatever tokens spell of these, they spell an expression, too, or the parentheses that only an arrow's parameters have, that
-- is refined to it.
pub record ComeFromExpressions : Type 0 where
  pub targets : (f : Flags) (ts us : List Filled) (p : Pattern) → IsTarget f false ts p us → ComesFrom (λ x. IsExpression f level_left_hand_side ts x us) refine_pattern p
  pub parts : (f : Flags) (ts us : List Filled) (q : Part) → IsPart (with_in f) true ts q us → ComesFrom (λ x. IsExpression (with_in f) level_assignment ts x us) refine_part q
  pub assigned : (f : Flags) (operator : AssignOperator) (ts us : List Filled) (p : Pattern) → IsAssigned f operator ts p us → ComesFrom (λ x. IsExpression f level_left_hand_side ts x us) (λ n. target_before n operator) p
  pub parameters : (f : Flags) (ts us : List Filled) (es : List Parameter) → AreArrowParameters f ts es us → ComesFrom (λ x. IsExpression f level_primary ts x us ⊎ IsCover f ts x us) refine_parameters es
