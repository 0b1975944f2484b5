-- What statements hold in brackets, each with its brackets, and what a turn of a list gives.
use Rattle.std.specs.Prelude.{ℕ, Bool, true, false, List, codes}
use Rattle.es6_lexer.specs.declared.token.Punctuator.TheVariants as marks
use Rattle.es6_ast.specs.declared.tree.Case.{Case}
use Rattle.es6_ast.specs.declared.tree.Condition.{Condition}
use Rattle.es6_ast.specs.declared.tree.Expression.{Expression}
use Rattle.es6_ast.specs.declared.tree.Pattern.{Pattern}
use Rattle.es6_ast.specs.declared.tree.Statement.{Statement}
use Rattle.es6_ast.specs.declared.settings.Flags.{Flags}
use Rattle.es6_ast.specs.declared.settings.Stand.TheVariants.{Under}
use Rattle.es6_ast.specs.Grammar.{with_in}
use Rattle.es6_reading.specs.Parser.{Inner, Parser, ◌>>=◌, returns, refused, on, choose, if_next, take_as, mark, word, next_word, group}
use Rattle.es6_reading.specs.Statements.{Header, case_clause, cases, catch_parameter, condition, default_clause, for_header}
use Rattle.es6_read_statements.specs.declared.cases.Clause.{Clause}
use Rattle.es6_read_statements.specs.declared.conditions.Alternative.{Alternative}
use Rattle.es6_read_statements.specs.declared.conditions.Alternative.TheVariants as alternative

-- an expression behind an opening parenthesis, and the closing one (13.6)
unfoldable pub closed_expression : Inner → Flags → Parser Expression
closed_expression i f = do
  x ← i.sequence (with_in f)
  _ ← take_as (mark marks.RightParenthesis)
  returns x.value

-- what follows a condition (13.6): `else` and a condition more, `else` and the last statement, or no `else`
unfoldable pub one_alternative : Inner → Flags → Parser (Alternative Condition Statement)
one_alternative i f = on (word (codes "else")) (λ _. if_next (next_word (codes "if")) (do
  c ← condition i f
  returns (alternative.More c)) (do
    s ← i.statement f Under
    returns (alternative.Last s))) (returns alternative.Nothing)

abbrev pub alternative_of : {C S : Type 0} → (C → Condition) → (S → Statement) → Alternative C S → Alternative Condition Statement
alternative_of condition statement (alternative.More c) = alternative.More (condition c)
alternative_of condition statement (alternative.Last s) = alternative.Last (statement s)
alternative_of condition statement alternative.Nothing = alternative.Nothing

-- the header of a for statement (13.7)
unfoldable pub enclosed_header : Inner → Flags → Parser Header
enclosed_header i f = group i marks.LeftParenthesis (for_header i f)

-- a clause of a switch (13.12), and whether a default clause may still come
unfoldable pub one_clause : Inner → Flags → Bool → ℕ → Parser (Clause Case)
one_clause i f may at = on (word (codes "case")) (λ _. do
  c ← case_clause i f at
  returns (record { case = c; may_default = may })) (choose may (on (word (codes "default")) (λ _. do
    c ← default_clause i f at
    returns (record { case = c; may_default = false })) refused) refused)

abbrev pub clause_of : {C : Type 0} → (C → Case) → Clause C → Clause Case
clause_of case x = record { case = case x.case; may_default = x.may_default }

-- CaseBlock (13.12)
unfoldable pub case_block : Inner → Flags → Parser (List Case)
case_block i f = group i marks.LeftBrace (cases i f true i.fuel)

-- CatchParameter (13.15)
unfoldable pub enclosed_parameter : Inner → Flags → Parser Pattern
enclosed_parameter i f = group i marks.LeftParenthesis (catch_parameter i f)
