-- Templates, accesses and calls, read where one is next.
use Rattle.std.specs.Prelude.{ℕ, Bool, Option, Some, None}
use Rattle.es6_lexer.specs.declared.token.Punctuator.TheVariants as marks
use Rattle.es6_ast.specs.declared.tree.Expression.{Expression}
use Rattle.es6_ast.specs.declared.tree.Expression.TheVariants as expr
use Rattle.es6_ast.specs.declared.tree.Link.{Link}
use Rattle.es6_ast.specs.declared.tree.Link.TheVariants as link
use Rattle.es6_ast.specs.declared.tree.Template.{Template}
use Rattle.es6_ast.specs.declared.settings.Flags.{Flags}
use Rattle.es6_ast.specs.Grammar.{with_in}
use Rattle.es6_reading.specs.Parser.{Inner, Parser, Reading, returns, ◌>>=◌, on, mark, choose, on_group, group, from, made, take_as}
use Rattle.es6_reading.specs.Parts.{on_template}
use Rattle.es6_reading.specs.Expressions.{left, arguments, member_link, index_link, call_link}

-- what is made of something, where there is something
abbrev pub if_made : {A B : Type 0} → (A → B) → Option A → Option B
if_made made None = None
if_made made (Some x) = Some (made x)

-- 12.2.9
unfoldable pub one_template : Inner → Flags → ℕ → Parser (Option Template)
one_template i f at = on_template i f at (λ m. returns (Some m)) (returns None)

-- a call (12.3)
abbrev pub one_call : Inner → Flags → ℕ → Parser (Option Link)
one_call i f at = on_group i marks.LeftParenthesis (do
  l ← call_link i f at
  returns (Some l)) (returns None)

-- a template, or a call where the mark says so (12.3)
unfoldable pub one_link_tail : Inner → Flags → Bool → ℕ → Parser (Option Link)
one_link_tail i f calls at = on_template i f at (λ m. returns (Some (link.Tagged m))) (choose calls (one_call i f at) (returns None))

-- an access, a template, or a call where the mark says so (12.3)
unfoldable pub one_link : Inner → Flags → Bool → Parser (Option Link)
one_link i f calls = from λ at. on (mark marks.Dot) (λ _. do
  l ← member_link at
  returns (Some l)) (on_group i marks.LeftBracket (do
    l ← index_link i f at
    returns (Some l)) (one_link_tail i f calls at))

-- the call of `super`, which begins at the place (12.3.5)
unfoldable pub super_arguments : Inner → Flags → ℕ → Parser Reading
super_arguments i f at = group i marks.LeftParenthesis (do
  xs ← arguments i f
  made at (λ span. left (expr.SuperCall span xs)))

-- the property in brackets after `super`, which begins at the place (12.3.5)
unfoldable pub super_index : Inner → Flags → ℕ → Parser Reading
super_index i f at = do
  x ← i.sequence (with_in f)
  _ ← take_as (mark marks.RightBracket)
  made at (λ span. left (expr.SuperIndex span x.value))

-- the arguments of `new`, which begins at the place, after the parenthesis that opens them (12.3.3)
unfoldable pub constructed : Inner → Flags → ℕ → Expression → Parser Reading
constructed i f at callee = do
  xs ← arguments i f
  made at (λ span. left (expr.New span callee xs))
