-- The rest in parentheses that only an arrow's parameters have (ECMA-262, 6th edition, 14.2).
use Rattle.std.proofs.Common.{◌≡◌, ℕ, List, Option, Some, refl, sym, ◌∙◌}
use Rattle.es6_lexer.specs.declared.token.Punctuator.TheVariants as marks
use Rattle.es6_ast.specs.declared.tree.Expression.{Expression}
use Rattle.es6_ast.specs.declared.tree.Parameter.{Parameter}
use Rattle.es6_reading.specs.Parser.{Input, after, on, take_as, mark, refused}
use Rattle.es6_reading.specs.Refine.{Refined, Fits, Misfit, TooNested}
use Rattle.es6_reading.specs.Parts.{identifier}
use Rattle.es6_reading.specs.Expressions.{covered, covered_rest, fitting, rest_after}
use Rattle.es6_read_primaries.specs.Groups.{rest_from}
use Rattle.es6_read_primaries.proofs.Follows.{after_after, after_same}

pub covered_rest_is : (at dots : ℕ) (held : Option Expression) (c : Input) → covered_rest at dots held c ≡ after (rest_from dots c) (λ rest. covered at held (Some rest))
unfolding covered_rest rest_from
covered_rest_is at dots held c =
    sym (after_after (identifier c) _ _
    ∙ after_same (identifier c) _ _ (λ n d. after_after (take_as (mark marks.RightParenthesis) d) _ _))

-- the rest after what has to be parameters
pub rest_is : (at dots : ℕ) (held : Expression) (r : Refined (List Parameter)) (c : Input) → rest_after at dots held r c ≡ after (fitting r c) (λ _. on (mark marks.Ellipsis) (λ _. covered_rest at dots (Some held)) refused)
unfolding refused
rest_is at dots held (Fits ps) c = refl
rest_is at dots held (Misfit place) c = refl
rest_is at dots held TooNested c = refl
