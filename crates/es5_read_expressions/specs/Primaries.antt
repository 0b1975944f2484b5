-- Primary expressions in two parts: those of one token, and those that open a construct.
use Rattle.std.specs.Prelude.{ℕ, codes, Option, Some, None}
use Rattle.es5_ast.specs.declared.tree.Expr5.TheVariants as expr
use Rattle.es5_reading.specs.Parser.{Inner5, Parser, Read5, Bare, returns, on, word, made, on_group, ◌>>=◌}
use Rattle.es5_reading.specs.Expressions.{free_name, literal_at, left, function_expression, grouped, bracketed}

-- an expression of one token, if one is next (11.1.1 to 11.1.3)
unfoldable pub simple : ℕ → Parser (Option Read5)
simple at = on (word (codes "this")) (λ _. made at (λ span. Some (left (expr.This span))))
    (on free_name (λ name. made at (λ span. Some (record { value = expr.Name span name; shape = Bare })))
    (on literal_at (λ value. made at (λ span. Some (left (expr.Literal span value)))) (returns None)))

-- a function or what stands in brackets (13, 11.1.4 to 11.1.6)
unfoldable pub enclosed : Inner5 → ℕ → Parser Read5
enclosed i at = on (word (codes "function")) (λ _. do
  f ← function_expression i at
  returns (left (expr.Function f)))
    (on_group i (codes "(") (grouped i) (bracketed i at))
