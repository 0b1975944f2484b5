-- The branches of a conditional expression, the second with the `:` before it (ECMA-262, 6th edition, 12.13).
use Rattle.std.proofs.Common.{◌≡◌, ℕ, sym}
use Rattle.es6_lexer.specs.declared.token.Punctuator.TheVariants as marks
use Rattle.es6_ast.specs.declared.tree.Expression.{Expression}
use Rattle.es6_ast.specs.declared.tree.Expression.TheVariants as expr
use Rattle.es6_ast.specs.declared.settings.Flags.{Flags}
use Rattle.es6_ast.specs.Grammar.{with_in}
use Rattle.es6_reading.specs.Parser.{Input, Inner, after, take_as, mark, made}
use Rattle.es6_reading.specs.Expressions.{branches, other}
use Rattle.es6_read_expressions.specs.Branches.{other_branch}
use Rattle.es6_read_primaries.proofs.Follows.{after_after, after_same}

pub branches_is : (i : Inner) (f : Flags) (at : ℕ) (test : Expression) (c : Input) → branches i f at test c ≡ after (i.assignment (with_in f) c) (λ x d. after (other_branch i f d) (λ y. made at (λ span. other (expr.Conditional span test x.value y.value))))
unfolding branches other_branch
branches_is i f at test c = after_same (i.assignment (with_in f) c) _ _ (λ x d. sym (after_after (take_as (mark marks.Colon) d) (λ _. i.assignment f) (λ y. made at (λ span. other (expr.Conditional span test x.value y.value)))))
