-- The readers of statements and declarations (ECMA-262, 6th edition, 13), each by the first token.
use Rattle.std.specs.Prelude.{ℕ, zero, suc, Bool, true, false, ◌&&◌, ◌||◌, not, List, [], ◌∷◌, Option, Some, None, codes, is_some}
use Rattle.es_text.specs.declared.Span.{Span}
use Rattle.es6_lexer.specs.declared.token.Punctuator.TheVariants as marks
use Rattle.es6_ast.specs.declared.operators.AssignOperator.TheVariants as assign
use Rattle.es6_ast.specs.declared.operators.VariableKind.{VariableKind}
use Rattle.es6_ast.specs.declared.operators.VariableKind.TheVariants.{Var}
use Rattle.es6_ast.specs.declared.tree.Identifier.{Identifier}
use Rattle.es6_ast.specs.declared.tree.Expression.{Expression, out-Expression}
use Rattle.es6_ast.specs.declared.tree.Statement.{Statement}
use Rattle.es6_ast.specs.declared.tree.Statement.TheVariants as stat
use Rattle.es6_ast.specs.declared.tree.Pattern.{Pattern, out-Pattern}
use Rattle.es6_ast.specs.declared.tree.Argument.TheOpen as layer
use Rattle.es6_ast.specs.declared.tree.Argument.TheOpen.{Expression-F, Pattern-F}
use Rattle.es6_ast.specs.declared.tree.Block.{Block}
use Rattle.es6_ast.specs.declared.tree.Case.{Case, roll-Case}
use Rattle.es6_ast.specs.declared.tree.Catch.{Catch, roll-Catch}
use Rattle.es6_ast.specs.declared.tree.Condition.{Condition, roll-Condition}
use Rattle.es6_ast.specs.declared.tree.ForFirst.{ForFirst}
use Rattle.es6_ast.specs.declared.tree.ForFirst.TheVariants.{NoFirst, FirstVariables, FirstExpression}
use Rattle.es6_ast.specs.declared.tree.ForTarget.{ForTarget}
use Rattle.es6_ast.specs.declared.tree.ForTarget.TheVariants.{Declared, Assigned}
use Rattle.es6_ast.specs.declared.tree.Part.{Part}
use Rattle.es6_ast.specs.declared.settings.Flags.{Flags}
use Rattle.es6_ast.specs.declared.settings.Stand.{Stand}
use Rattle.es6_ast.specs.declared.settings.Stand.TheVariants.{Listed, Under, Labelled}
use Rattle.es6_ast.specs.declared.settings.Shape.{Shape}
use Rattle.es6_ast.specs.declared.settings.Shape.TheVariants.{Bare}
use Rattle.es6_ast.specs.declared.settings.Stop.TheVariants.{Syntax, Outside, Depth, Endless}
use Rattle.es6_ast.specs.Tokens.{Filling, Read, Inserted, Filled, is_word}
use Rattle.es6_ast.specs.Grammar.{with_in, without_in, ends}
use Rattle.es6_reading.specs.Parser.{Parser, returns, fails, ◌>>=◌, refused, no_expression, on, choose, if_next, take_as, is_mark, mark, word, next_mark, next_word, from, made, is_left, Inner, group, ends_block, semicolon, semicolon_of_do_while}
use Rattle.es6_reading.specs.Words.{free_name, kind_at, lexical_kind_at, is_any_word, begins_expression}
use Rattle.es6_ast.specs.Spans.{Open}
use Rattle.es6_reading.specs.Refine.{target_before}
use Rattle.es6_reading.specs.Parts.{block, initialized, function_after_word, named_function, class_after_word}
use Rattle.es6_reading.specs.Expressions.{fitting, sequence}

-- ## Variables (13.3)

-- whether a variable stands without the initializer that its pattern has to have
abbrev pub is_name_in : Open Pattern-F → Bool
is_name_in (layer.Target x) = true
is_name_in (layer.ArrayPattern span parts) = false
is_name_in (layer.ObjectPattern span parts) = false

abbrev pub is_whole : Part → Bool
is_whole q = is_some q.default || is_name_in (out-Pattern q.pattern)

-- a variable that the reader reads: a pattern has an initializer
unfoldable pub one_variable : Parser Part → Parser Part
one_variable one = do
  q ← one
  choose (is_whole q) (returns q) refused

-- such variables, up to one that no comma follows
unfoldable pub variables : Parser Part → ℕ → Parser (List Part)
variables one zero = fails Endless
variables one (suc turns) = do
  q ← one_variable one
  on (mark marks.Comma) (λ _. do
    qs ← variables one turns
    returns (q ∷ qs)) (returns (q ∷ []))

unfoldable pub variables_statement : Inner → Flags → ℕ → VariableKind → Parser Statement
variables_statement i f at kind = do
  qs ← variables (initialized i f f) i.fuel
  _ ← semicolon i
  made at (λ span. stat.Variables span kind qs)

-- ## If (13.6)

unfoldable pub parenthesized : Inner → Flags → Parser Expression
parenthesized i f = group i marks.LeftParenthesis (do
  x ← i.sequence (with_in f)
  _ ← take_as (mark marks.RightParenthesis)
  returns x.value)

-- from `if` to the end of the statement under it
unfoldable pub condition : Inner → Flags → Parser Condition
condition i f = from λ at. do
  _ ← take_as (word (codes "if"))
  test ← parenthesized i f
  s ← i.statement f Under
  made at (λ span. roll-Condition (record { span = span; test = test; body = s }))

pub record Otherwise : Type 0 where
  pub more : List Condition
  pub last : Option Statement

abbrev pub with_condition : Condition → Otherwise → Otherwise
with_condition c r = record { more = c ∷ r.more; last = r.last }

-- each `else` after a condition
unfoldable pub otherwise : Inner → Flags → ℕ → Parser Otherwise
otherwise i f zero = fails Endless
otherwise i f (suc turns) = on (word (codes "else")) (λ _. if_next (next_word (codes "if")) (do
  c ← condition i f
  r ← otherwise i f turns
  returns (with_condition c r)) (do
    s ← i.statement f Under
    returns (record { more = []; last = Some s }))) (returns (record { more = []; last = None }))

unfoldable pub if_statement : Inner → Flags → ℕ → Parser Statement
if_statement i f at = do
  c ← condition i f
  r ← otherwise i f i.fuel
  made at (λ span. stat.If span c r.more r.last)

-- ## Loops (13.7)

unfoldable pub do_statement : Inner → Flags → ℕ → Parser Statement
do_statement i f at = do
  s ← i.statement f Under
  _ ← take_as (word (codes "while"))
  test ← parenthesized i f
  _ ← semicolon_of_do_while i
  made at (λ span. stat.DoWhile span s test)

unfoldable pub while_statement : Inner → Flags → ℕ → Parser Statement
while_statement i f at = do
  test ← parenthesized i f
  s ← i.statement f Under
  made at (λ span. stat.While span test s)

-- what stands in the parentheses of a for statement, or of a for-of statement
pub data Header : Type 0 where
  ForHeader : ForFirst → Option Expression → Option Expression → Header
  OfHeader : ForTarget → Expression → Header

-- an expression, if there is one, and the mark after it
unfoldable pub optional : Inner → Flags → (Filled → Option Filled) → Parser (Option Expression)
optional i f end = on end (λ _. returns None) (do
  x ← i.sequence (with_in f)
  _ ← take_as end
  returns (Some x.value))

-- what follows the first semicolon
unfoldable pub rest_of_for : Inner → Flags → ForFirst → Parser Header
rest_of_for i f first = do
  test ← optional i f (mark marks.Semicolon)
  update ← optional i f (mark marks.RightParenthesis)
  returns (ForHeader first test update)

-- what follows `of`
unfoldable pub rest_of_of : Inner → Flags → ForTarget → Parser Header
rest_of_of i f target = do
  x ← i.assignment (with_in f)
  _ ← take_as (mark marks.RightParenthesis)
  returns (OfHeader target x.value)

-- the variables after the first, and the first semicolon
unfoldable pub first_variables : Inner → Flags → ℕ → VariableKind → List Part → Parser Header
first_variables i f at kind qs = do
  first ← made at (λ span. FirstVariables span kind qs)
  _ ← take_as (mark marks.Semicolon)
  rest_of_for i f first

unfoldable pub after_first_variable : Inner → Flags → ℕ → VariableKind → Part → Parser Header
after_first_variable i f at kind q = choose (is_whole q) (on (mark marks.Comma) (λ _. do
  qs ← variables (i.variable (without_in f)) i.fuel
  first_variables i f at kind (q ∷ qs)) (first_variables i f at kind (q ∷ []))) refused

-- After what is declared: `of`, or more variables. A for-in is outside the profile.
unfoldable pub after_bare_variable : Inner → Flags → ℕ → VariableKind → Part → Parser Header
after_bare_variable i f at kind q = if_next (next_word (codes "in")) (fails (Outside 1)) (if_next (next_word (codes "of")) (do
  target ← made at (λ span. Declared span kind q.pattern)
  _ ← take_as (word (codes "of"))
  rest_of_of i f target) (after_first_variable i f at kind q))

unfoldable pub for_variables : Inner → Flags → ℕ → VariableKind → Parser Header
for_variables i f at kind = do
  q ← i.variable (without_in f)
  choose (is_some q.default) (after_first_variable i f at kind q) (after_bare_variable i f at kind q)

unfoldable pub first_expression : Inner → Flags → Expression → Parser Header
first_expression i f x = do
  _ ← take_as (mark marks.Semicolon)
  rest_of_for i f (FirstExpression x)

unfoldable pub assigned_in_turn : Inner → Flags → Expression → Parser Header
assigned_in_turn i f x = do
  p ← fitting (target_before i.fuel assign.Assign x)
  rest_of_of i f (Assigned p)

unfoldable pub for_expression : Inner → Flags → Parser Header
for_expression i f = do
  x ← i.sequence (without_in f)
  choose (is_left x.shape) (if_next (next_word (codes "in")) (fails (Outside 1)) (on (word (codes "of")) (λ _. assigned_in_turn i f x.value) (first_expression i f x.value))) (first_expression i f x.value)

unfoldable pub for_header : Inner → Flags → Parser Header
for_header i f = from λ at. on (mark marks.Semicolon) (λ _. rest_of_for i f NoFirst) (on kind_at (λ kind. for_variables i f at kind) (for_expression i f))

abbrev pub loop_of : Header → Statement → Span → Statement
loop_of (ForHeader first test update) s span = stat.For span first test update s
loop_of (OfHeader target x) s span = stat.ForOf span target x s

unfoldable pub for_statement : Inner → Flags → ℕ → Parser Statement
for_statement i f at = do
  h ← group i marks.LeftParenthesis (for_header i f)
  s ← i.statement f Under
  made at (loop_of h s)

-- ## Jumps (13.8 to 13.10, 13.14)

-- a label on the line of the word before it
abbrev pub label_if : Bool → Option (List ℕ) → Option (List ℕ)
label_if true name = None
label_if false name = name

abbrev pub label_at : Filled → Option (List ℕ)
label_at t = label_if t.newline (free_name t)

unfoldable pub optional_label : Parser (Option Identifier)
optional_label = from λ at. on label_at (λ name. made at (λ span. Some (record { span = span; name = name }))) (returns None)

unfoldable pub continue_statement : Inner → ℕ → Parser Statement
continue_statement i at = do
  label ← optional_label
  _ ← semicolon i
  made at (λ span. stat.Continue span label)

unfoldable pub break_statement : Inner → ℕ → Parser Statement
break_statement i at = do
  label ← optional_label
  _ ← semicolon i
  made at (λ span. stat.Break span label)

abbrev pub is_inserted : Filling → Bool
is_inserted (Inserted do_while) = true
is_inserted (Read k) = false

-- what can't begin the value of a `return` before it
abbrev pub goes_on : Filled → Bool
goes_on t = not (t.newline || ends false t.kind || ends_block t.kind || is_inserted t.kind)

unfoldable pub returned : Inner → Flags → Parser (Option Expression)
returned i f = if_next goes_on (do
  x ← sequence i (with_in f)
  returns (Some x.value)) (returns None)

unfoldable pub return_statement : Inner → Flags → ℕ → Parser Statement
return_statement i f at = do
  x ← returned i f
  _ ← semicolon i
  made at (λ span. stat.Return span x)

abbrev pub begins_line : Filled → Bool
begins_line t = t.newline

unfoldable pub throw_statement : Inner → Flags → ℕ → Parser Statement
throw_statement i f at = if_next begins_line refused (do
  x ← sequence i (with_in f)
  _ ← semicolon i
  made at (λ span. stat.Throw span x.value))

-- ## Switch (13.12)

-- no statement begins with an inserted semicolon
abbrev pub ends_case : Filled → Bool
ends_case t = is_word (codes "case") t.kind || is_word (codes "default") t.kind || is_mark marks.RightBrace t.kind || is_inserted t.kind

-- the statements of a clause
unfoldable pub in_case : Inner → Flags → ℕ → Parser (List Statement)
in_case i f zero = fails Endless
in_case i f (suc turns) = if_next ends_case (returns []) (do
  s ← i.statement f Listed
  ss ← in_case i f turns
  returns (s ∷ ss))

unfoldable pub case_clause : Inner → Flags → ℕ → Parser Case
case_clause i f at = do
  x ← i.sequence (with_in f)
  _ ← take_as (mark marks.Colon)
  ss ← in_case i f i.fuel
  made at (λ span. roll-Case (record { span = span; test = Some x.value; body = ss }))

unfoldable pub default_clause : Inner → Flags → ℕ → Parser Case
default_clause i f at = do
  _ ← take_as (mark marks.Colon)
  ss ← in_case i f i.fuel
  made at (λ span. roll-Case (record { span = span; test = None; body = ss }))

-- the clauses and the closing brace; the mark says that a default clause may still come
unfoldable pub cases : Inner → Flags → Bool → ℕ → Parser (List Case)
cases i f may zero = fails Endless
cases i f may (suc turns) = from λ at. on (mark marks.RightBrace) (λ _. returns []) (on (word (codes "case")) (λ _. do
  c ← case_clause i f at
  cs ← cases i f may turns
  returns (c ∷ cs)) (choose may (on (word (codes "default")) (λ _. do
    c ← default_clause i f at
    cs ← cases i f false turns
    returns (c ∷ cs)) refused) refused))

unfoldable pub switch_statement : Inner → Flags → ℕ → Parser Statement
switch_statement i f at = do
  x ← parenthesized i f
  cs ← group i marks.LeftBrace (cases i f true i.fuel)
  made at (λ span. stat.Switch span x cs)

-- ## Try (13.15)

unfoldable pub catch_parameter : Inner → Flags → Parser Pattern
catch_parameter i f = do
  q ← i.target (with_in f)
  _ ← take_as (mark marks.RightParenthesis)
  returns q

unfoldable pub handler : Inner → Flags → Parser Catch
handler i f = from λ at. do
  _ ← take_as (word (codes "catch"))
  p ← group i marks.LeftParenthesis (catch_parameter i f)
  b ← block i f
  made at (λ span. roll-Catch (record { span = span; parameter = p; body = b }))

unfoldable pub after_handler : Inner → Flags → ℕ → Block → Catch → Parser Statement
after_handler i f at b h = on (word (codes "finally")) (λ _. do
  last ← block i f
  made at (λ span. stat.Try span b (Some h) (Some last))) (made at (λ span. stat.Try span b (Some h) None))

unfoldable pub only_finally : Inner → Flags → ℕ → Block → Parser Statement
only_finally i f at b = do
  _ ← take_as (word (codes "finally"))
  last ← block i f
  made at (λ span. stat.Try span b None (Some last))

unfoldable pub try_statement : Inner → Flags → ℕ → Parser Statement
try_statement i f at = do
  b ← block i f
  if_next (next_word (codes "catch")) (do
    h ← handler i f
    after_handler i f at b h) (only_finally i f at b)

unfoldable pub debugger_statement : Inner → ℕ → Parser Statement
debugger_statement i at = do
  _ ← semicolon i
  made at (λ span. stat.Debugger span)

-- ## Expressions and labels (13.5, 13.13)

unfoldable pub expression_end : Inner → ℕ → Expression → Parser Statement
expression_end i at x = do
  _ ← semicolon i
  made at (λ span. stat.Expression span x)

unfoldable pub labelled : Inner → Flags → ℕ → Identifier → Parser Statement
labelled i f at label = do
  s ← i.statement f Labelled
  made at (λ span. stat.Labelled span label s)

-- the identifier that an expression is
abbrev pub name_in : Open Expression-F → Option Identifier
name_in (layer.Name span name) = Some (record { span = span; name = name })
name_in _ = None

abbrev pub label_of : Shape → Expression → Option Identifier
label_of Bare x = name_in (out-Expression x)
label_of _ x = None

abbrev pub label_or_end : Inner → Flags → ℕ → Option Identifier → Expression → Parser Statement
label_or_end i f at (Some label) x = on (mark marks.Colon) (λ _. labelled i f at label) (expression_end i at x)
label_or_end i f at None x = expression_end i at x

unfoldable pub expression_statement : Inner → Flags → ℕ → Parser Statement
expression_statement i f at = do
  x ← sequence i f
  label_or_end i f at (label_of x.shape x.value) x.value

-- ## Declarations (13.3.1, 14.1, 14.4, 14.5)

unfoldable pub function_declaration : Inner → ℕ → Parser Statement
function_declaration i at = do
  g ← function_after_word i false at
  returns (stat.FunctionDeclaration g)

unfoldable pub class_declaration : Inner → Flags → ℕ → Parser Statement
class_declaration i f at = do
  c ← class_after_word i f false at
  returns (stat.ClassDeclaration c)

-- a declaration, or what is read where none begins
abbrev pub on_declaration : Inner → Flags → ℕ → Parser Statement → Parser Statement
on_declaration i f at q = on (word (codes "function")) (λ _. function_declaration i at) (on (word (codes "class")) (λ _. class_declaration i f at) (on lexical_kind_at (λ kind. variables_statement i f at kind) q))

-- a function under a label, which is no generator
unfoldable pub labelled_function : Inner → ℕ → Parser Statement
labelled_function i at = do
  g ← named_function i at false
  returns (stat.FunctionDeclaration g)

-- what stands by the mark beside a statement
abbrev pub on_more : Inner → Flags → Stand → ℕ → Parser Statement → Parser Statement
on_more i f Listed at q = on_declaration i f at q
on_more i f Under at q = q
on_more i f Labelled at q = on (word (codes "function")) (λ _. labelled_function i at) q

-- ## All together

-- no expression statement begins with these
abbrev pub begins_declaration : Filled → Bool
begins_declaration t = next_word (codes "function") t || next_word (codes "class") t

-- an expression statement; `with` is outside the profile
unfoldable pub plain_statement : Inner → Flags → ℕ → Parser Statement
plain_statement i f at = if_next (next_word (codes "with")) (fails (Outside 5)) (if_next begins_declaration (fails Syntax) (expression_statement i f at))

unfoldable pub jump_statement : Inner → Flags → Stand → ℕ → Parser Statement
jump_statement i f stand at = on (word (codes "continue")) (λ _. continue_statement i at)
    (on (word (codes "break")) (λ _. break_statement i at)
    (on (word (codes "throw")) (λ _. throw_statement i f at)
    (on (word (codes "debugger")) (λ _. debugger_statement i at)
    (choose f.has_return (on (word (codes "return")) (λ _. return_statement i f at) (on_more i f stand at (plain_statement i f at))) (on_more i f stand at (plain_statement i f at))))))

unfoldable pub compound_statement : Inner → Flags → Stand → ℕ → Parser Statement
compound_statement i f stand at = on (word (codes "do")) (λ _. do_statement i f at)
    (on (word (codes "while")) (λ _. while_statement i f at)
    (on (word (codes "for")) (λ _. for_statement i f at)
    (on (word (codes "switch")) (λ _. switch_statement i f at)
    (on (word (codes "try")) (λ _. try_statement i f at) (jump_statement i f stand at)))))

unfoldable pub block_statement : Inner → Flags → Parser Statement
block_statement i f = do
  b ← block i f
  returns (stat.Block b)

-- a statement, and what else the mark lets stand
unfoldable pub statement : Inner → Flags → Stand → Parser Statement
statement i f stand = from λ at. if_next (next_mark marks.LeftBrace) (block_statement i f)
    (if_next (next_word (codes "if")) (if_statement i f at)
    (on (mark marks.Semicolon) (λ _. made at (λ span. stat.Empty span))
    (on (word (codes "var")) (λ _. variables_statement i f at Var) (compound_statement i f stand at))))

-- ## Where no construct may open any more

unfoldable pub statement_words : List (List ℕ)
statement_words =
    codes "var" ∷ codes "if" ∷ codes "do" ∷ codes "while" ∷ codes "for" ∷ codes "switch" ∷ codes "try"
    ∷ codes "continue" ∷ codes "break" ∷ codes "throw" ∷ codes "debugger" ∷ []

abbrev pub may_declare : Stand → Filled → Bool
may_declare Listed t = true
may_declare Under t = not (begins_declaration t)
may_declare Labelled t = not (next_word (codes "class") t)

-- whether the token begins what the mark lets stand under another statement
unfoldable pub begins_statement : Flags → Stand → Filled → Bool
begins_statement f stand t = is_mark marks.LeftBrace t.kind || is_mark marks.Semicolon t.kind || is_any_word statement_words t.kind || (f.has_return && is_word (codes "return") t.kind)
    || (begins_expression f t && may_declare stand t)

unfoldable pub statement_at_limit : Flags → Stand → Parser Statement
statement_at_limit f stand = if_next (begins_statement f stand) (fails Depth) (if_next (next_word (codes "with")) (fails (Outside 5)) no_expression)
