-- How chains begin, and one link of them.
use Rattle.std.specs.Prelude.{ℕ, Bool, codes, Option, Some, None}
use Rattle.es5_reading.specs.Parser.{Inner5, Parser, Read5, returns, on, mark, from, choose, on_group, ◌>>=◌}
use Rattle.es5_reading.specs.Expressions.{after_callee, member_link, index_link, call_link}
use Rattle.es5_ast.specs.declared.tree.Link5.{Link5}

-- an access, or a call where the mark says so, if one is next (11.2)
unfoldable pub one_link : Inner5 → Bool → Parser (Option Link5)
one_link i calls = from λ at. on (mark (codes ".")) (λ _. do
  l ← member_link at
  returns (Some l)) (on_group i (codes "[") (do
    l ← index_link i at
    returns (Some l)) (choose calls (on_group i (codes "(") (do
      l ← call_link i at
      returns (Some l)) (returns None)) (returns None)))

-- what follows the word `new` (11.2.2)
abbrev pub constructed : Inner5 → ℕ → Parser Read5
constructed i at = do
  callee ← i.callee
  after_callee i at callee.value
