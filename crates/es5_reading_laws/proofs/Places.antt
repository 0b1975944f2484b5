-- Readers that ask where the next token begins, each with that place put in.
use Rattle.std.proofs.Common.{ℕ, ◌+◌, Bool, true, false, List, [], ◌∷◌, Option, Some, None}
use Rattle.std.specs.Prelude.{codes}
use Rattle.es5_ast.specs.declared.tree.Block5.{Block5, roll-Block5}
use Rattle.es5_ast.specs.declared.tree.Case5.{Case5}
use Rattle.es5_ast.specs.declared.tree.Catch5.{Catch5, roll-Catch5}
use Rattle.es5_ast.specs.declared.tree.Condition5.{Condition5, roll-Condition5}
use Rattle.es5_ast.specs.declared.tree.Declared5.{Declared5, roll-Declared5}
use Rattle.es5_ast.specs.declared.tree.Expr5.TheVariants as expr
use Rattle.es5_ast.specs.declared.tree.Function5.{Function5, roll-Function5}
use Rattle.es5_ast.specs.declared.tree.Identifier5.{Identifier5}
use Rattle.es5_ast.specs.declared.tree.Link5.{Link5}
use Rattle.es5_ast.specs.declared.tree.PlacedKey5.{PlacedKey5}
use Rattle.es5_ast.specs.declared.tree.Property5.{Property5}
use Rattle.es5_ast.specs.declared.tree.Stat5.{Stat5}
use Rattle.es5_ast.specs.declared.tree.Stat5.TheVariants as stat
use Rattle.es5_reading.specs.Parser.{Syntax, Parser, returns, fails, ◌>>=◌, on, choose, if_next, take_as, mark, word, next_mark, next_word, made, Read5, is_left, Inner5, on_group, group as grouped}
use Rattle.es5_reading.specs.Expressions as e5
use Rattle.es5_reading.specs.Statements as s5

abbrev pub identifier_from : ℕ → Parser Identifier5
identifier_from at = do
  name ← take_as e5.free_name
  made at (λ span. record { span = span; name = name })

abbrev pub key_from : ℕ → Parser PlacedKey5
key_from at = do
  k ← take_as e5.key_at
  made at (λ span. record { span = span; key = k })

abbrev pub label_from : ℕ → Parser (Option Identifier5)
label_from at = on s5.label_at (λ name. made at (λ span. Some (record { span = span; name = name }))) (returns None)

abbrev pub accessor_function_from : Inner5 → Bool → ℕ → Parser Function5
accessor_function_from i setter at = do
  xs ← grouped i (codes "(") (e5.accessor_parameters setter)
  ss ← e5.body i
  made at (λ span. roll-Function5 (record { span = span; name = None; parameters = xs; body = ss }))

abbrev pub links_from : Inner5 → Bool → Parser (List Link5) → ℕ → Parser (List Link5)
links_from i calls more at = on (mark (codes ".")) (λ _. do
  l ← e5.member_link at
  ls ← more
  returns (l ∷ ls)) (on_group i (codes "[") (do
    l ← e5.index_link i at
    ls ← more
    returns (l ∷ ls)) (choose calls (on_group i (codes "(") (do
      l ← e5.call_link i at
      ls ← more
      returns (l ∷ ls)) (returns [])) (returns [])))

abbrev pub chain_from : Inner5 → Bool → ℕ → Parser Read5
chain_from i calls at = do
  x ← e5.head i at
  ls ← e5.links i calls i.fuel
  made at (λ span. e5.chained x ls span)

abbrev pub postfix_from : Inner5 → ℕ → Parser Read5
postfix_from i at = do
  x ← e5.chain i true
  on e5.after_at (λ op. made at (λ span. e5.other (expr.Update span op x.value))) (returns x)

abbrev pub unary_from : Inner5 → ℕ → Parser Read5
unary_from i at = on e5.unary_at (λ op. e5.prefixed i at op) (on e5.before_at (λ op. e5.updated i at op) (e5.postfix i))

abbrev pub binary_body : Inner5 → Bool → ℕ → ℕ → ℕ → Parser Read5
binary_body i no_in above level at = do
  x ← e5.binary_from i no_in above (level + 1)
  rest ← e5.operands (e5.binary_from i no_in above (level + 1)) no_in level i.fuel
  made at (λ span. e5.operated x rest span)

abbrev pub conditional_from : Inner5 → Bool → ℕ → Parser Read5
conditional_from i no_in at = do
  x ← e5.binary_from i no_in 10 3
  on (mark (codes "?")) (λ _. e5.branches i no_in at x.value) (returns x)

abbrev pub assignment_from : Inner5 → Bool → ℕ → Parser Read5
assignment_from i no_in at = do
  x ← e5.conditional i no_in
  choose (is_left x.shape) (on e5.assign_at (λ op. e5.assigned i no_in at x.value op) (returns x)) (returns x)

abbrev pub sequence_from : Inner5 → Bool → ℕ → Parser Read5
sequence_from i no_in at = do
  x ← e5.assignment i no_in
  on (mark (codes ",")) (λ _. e5.more_parts i no_in at x.value) (returns x)

abbrev pub property_from : Inner5 → ℕ → Parser Property5
property_from i at = on e5.accessor_at (λ setter. e5.after_accessor_word i at setter) (e5.plain_property i at)

abbrev pub block_from : Inner5 → Bool → ℕ → Parser Block5
block_from i inside at = grouped i (codes "{") (do
  ss ← e5.statements i inside false i.fuel
  made at (λ span. roll-Block5 (record { span = span; statements = ss })))

abbrev pub declared_from : Inner5 → Bool → ℕ → Parser Declared5
declared_from i no_in at = do
  name ← e5.identifier
  on (mark (codes "=")) (λ _. s5.initialized i no_in at name) (made at (λ span. roll-Declared5 (record { span = span; name = name; init = None })))

abbrev pub condition_from : Inner5 → Bool → ℕ → Parser Condition5
condition_from i inside at = do
  _ ← take_as (word (codes "if"))
  test ← s5.parenthesized i
  s ← i.statement inside false
  made at (λ span. roll-Condition5 (record { span = span; test = test; body = s }))

abbrev pub cases_from : Inner5 → Bool → Bool → Parser (List Case5) → Parser (List Case5) → ℕ → Parser (List Case5)
cases_from i inside may more others at = on (mark (codes "}")) (λ _. returns []) (on (word (codes "case")) (λ _. do
  c ← s5.case_clause i inside at
  cs ← more
  returns (c ∷ cs)) (choose may (on (word (codes "default")) (λ _. do
    c ← s5.default_clause i inside at
    cs ← others
    returns (c ∷ cs)) (fails Syntax)) (fails Syntax)))

abbrev pub handler_from : Inner5 → Bool → ℕ → Parser Catch5
handler_from i inside at = do
  _ ← take_as (word (codes "catch"))
  x ← grouped i (codes "(") s5.catch_parameter
  b ← s5.block i inside
  made at (λ span. roll-Catch5 (record { span = span; parameter = x; body = b }))

abbrev pub statement_from : Inner5 → Bool → Bool → ℕ → Parser Stat5
statement_from i inside top at = if_next (next_mark (codes "{")) (s5.block_statement i inside)
    (if_next (next_word (codes "if")) (s5.if_statement i inside at)
    (on (mark (codes ";")) (λ _. made at (λ span. stat.Empty span))
    (on (word (codes "var")) (λ _. s5.var_statement i at) (s5.compound_statement i inside top at))))
