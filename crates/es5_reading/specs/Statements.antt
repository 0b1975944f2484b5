-- The readers of statements (ECMA-262, 5.1 edition, 12), each by the first token.
use Rattle.std.specs.Prelude.{ℕ, zero, suc, Bool, true, false, ◌&&◌, ◌||◌, not, List, [], ◌∷◌, Option, Some, None, codes}
use Rattle.es5_ast.specs.declared.tree.Identifier5.{Identifier5}
use Rattle.es5_ast.specs.declared.tree.Stat5.{Stat5}
use Rattle.es5_ast.specs.declared.tree.Stat5.TheVariants as stat
use Rattle.es5_ast.specs.declared.tree.Declared5.{Declared5, roll-Declared5}
use Rattle.es5_ast.specs.declared.tree.Block5.{Block5, roll-Block5}
use Rattle.es5_ast.specs.declared.tree.Condition5.{Condition5, roll-Condition5}
use Rattle.es5_ast.specs.declared.tree.ForFirst5.{ForFirst5}
use Rattle.es5_ast.specs.declared.tree.ForFirst5.TheVariants as for_first
use Rattle.es5_ast.specs.declared.tree.Case5.{Case5, roll-Case5}
use Rattle.es5_ast.specs.declared.tree.Catch5.{Catch5, roll-Catch5}
use Rattle.es5_ast.specs.declared.tree.Expr5.{Expr5, out-Expr5}
use Rattle.es5_ast.specs.declared.tree.Function5.{Function5}
use Rattle.es5_ast.specs.declared.tree.Element5.{Element5}
use Rattle.es5_ast.specs.declared.tree.Property5.{Property5}
use Rattle.es5_ast.specs.declared.tree.Link5.{Link5}
use Rattle.es5_ast.specs.declared.tree.Operand5.{Operand5}
use Rattle.es5_ast.specs.declared.tree.Element5.TheOpen.{Expr5-F}
use Rattle.es5_ast.specs.declared.tree.Element5.TheOpen as layer
use Rattle.es5_ast.specs.Lexical.{Kind5, Word, Integer, Text, Punctuator, Inserted, Token5, is_one_of}
use Rattle.es5_ast.specs.Grammar.{is_word, is_mark, ends}
use Rattle.es5_reading.specs.Parser.{Parser, Syntax, Depth, Outside, Endless, returns, fails, ◌>>=◌, on, choose, if_next, take_as, mark, word, next_mark, next_word, from, made, Shape5, Bare, LeftHandSide, Other, is_left, Inner5, group, semicolon}
use Rattle.es5_reading.specs.Expressions.{free_name, identifier, statements, rest_of_function, sequence, begins_expression, begins_division}

-- ## Blocks and variables (12.1, 12.2)

unfoldable pub block : Inner5 → Bool → Parser Block5
block i inside = from λ at. group i (codes "{") (do
  ss ← statements i inside false i.fuel
  made at (λ span. roll-Block5 (record { span = span; statements = ss })))

unfoldable pub initialized : Inner5 → Bool → ℕ → Identifier5 → Parser Declared5
initialized i no_in at name = do
  x ← i.assignment no_in
  made at (λ span. roll-Declared5 (record { span = span; name = name; init = Some x.value }))

unfoldable pub one_declared : Inner5 → Bool → Parser Declared5
one_declared i no_in = from λ at. do
  name ← identifier
  on (mark (codes "=")) (λ _. initialized i no_in at name) (made at (λ span. roll-Declared5 (record { span = span; name = name; init = None })))

-- variables that the reader reads, up to one that no comma follows
unfoldable pub declared_list : Parser Declared5 → ℕ → Parser (List Declared5)
declared_list one zero = fails Endless
declared_list one (suc turns) = do
  d ← one
  on (mark (codes ",")) (λ _. do
    ds ← declared_list one turns
    returns (d ∷ ds)) (returns (d ∷ []))

unfoldable pub var_statement : Inner5 → ℕ → Parser Stat5
var_statement i at = do
  ds ← declared_list (one_declared i false) i.fuel
  _ ← semicolon i
  made at (λ span. stat.Var span ds)

-- ## If (12.5)

unfoldable pub parenthesized : Inner5 → Parser Expr5
parenthesized i = group i (codes "(") (do
  x ← i.sequence false
  _ ← take_as (mark (codes ")"))
  returns x.value)

-- from `if` to the end of the statement under it
unfoldable pub condition : Inner5 → Bool → Parser Condition5
condition i inside = from λ at. do
  _ ← take_as (word (codes "if"))
  test ← parenthesized i
  s ← i.statement inside false
  made at (λ span. roll-Condition5 (record { span = span; test = test; body = s }))

pub record Otherwise5 : Type 0 where
  pub more : List Condition5
  pub last : Option Stat5

abbrev pub with_condition : Condition5 → Otherwise5 → Otherwise5
with_condition c r = record { more = c ∷ r.more; last = r.last }

-- each `else` after a condition
unfoldable pub otherwise : Inner5 → Bool → ℕ → Parser Otherwise5
otherwise i inside zero = fails Endless
otherwise i inside (suc turns) = on (word (codes "else")) (λ _. if_next (next_word (codes "if")) (do
  c ← condition i inside
  r ← otherwise i inside turns
  returns (with_condition c r)) (do
    s ← i.statement inside false
    returns (record { more = []; last = Some s }))) (returns (record { more = []; last = None }))

unfoldable pub if_statement : Inner5 → Bool → ℕ → Parser Stat5
if_statement i inside at = do
  c ← condition i inside
  r ← otherwise i inside i.fuel
  made at (λ span. stat.If span c r.more r.last)

-- ## Loops (12.6)

unfoldable pub do_statement : Inner5 → Bool → ℕ → Parser Stat5
do_statement i inside at = do
  s ← i.statement inside false
  _ ← take_as (word (codes "while"))
  test ← parenthesized i
  _ ← semicolon i
  made at (λ span. stat.DoWhile span s test)

unfoldable pub while_statement : Inner5 → Bool → ℕ → Parser Stat5
while_statement i inside at = do
  test ← parenthesized i
  s ← i.statement inside false
  made at (λ span. stat.While span test s)

-- the variables of a for header after the first, and the semicolon; an `in` after the first makes a for-in, which is
-- outside the profile
unfoldable pub after_first_declared : Inner5 → Declared5 → Parser ForFirst5
after_first_declared i d = on (mark (codes ",")) (λ _. do
  ds ← declared_list (i.declared true) i.fuel
  _ ← take_as (mark (codes ";"))
  returns (for_first.FirstVar (d ∷ ds))) (do
    _ ← take_as (mark (codes ";"))
    returns (for_first.FirstVar (d ∷ [])))

unfoldable pub for_var : Inner5 → Parser ForFirst5
for_var i = do
  d ← i.declared true
  if_next (next_word (codes "in")) (fails (Outside 3)) (after_first_declared i d)

unfoldable pub for_expression : Inner5 → Parser ForFirst5
for_expression i = do
  x ← i.sequence true
  if_next (λ t. is_left x.shape && is_word (codes "in") t.kind) (fails (Outside 3)) (do
    _ ← take_as (mark (codes ";"))
    returns (for_first.FirstExpression x.value))

unfoldable pub for_first_part : Inner5 → Parser ForFirst5
for_first_part i = on (mark (codes ";")) (λ _. returns for_first.NoFirst) (on (word (codes "var")) (λ _. for_var i) (for_expression i))

-- an expression, if there is one, and the mark after it
unfoldable pub optional : Inner5 → List ℕ → Parser (Option Expr5)
optional i p = on (mark p) (λ _. returns None) (do
  x ← i.sequence false
  _ ← take_as (mark p)
  returns (Some x.value))

pub record Header5 : Type 0 where
  pub first : ForFirst5
  pub test : Option Expr5
  pub update : Option Expr5

unfoldable pub for_header : Inner5 → Parser Header5
for_header i = do
  first ← for_first_part i
  test ← optional i (codes ";")
  update ← optional i (codes ")")
  returns (record { first = first; test = test; update = update })

unfoldable pub for_statement : Inner5 → Bool → ℕ → Parser Stat5
for_statement i inside at = do
  h ← group i (codes "(") (for_header i)
  s ← i.statement inside false
  made at (λ span. stat.For span h.first h.test h.update s)

-- ## Jumps (12.7 to 12.9, 12.13)

-- a label on the line of the word before it
abbrev pub label_if : Bool → Option (List ℕ) → Option (List ℕ)
label_if true name = None
label_if false name = name

abbrev pub label_at : Token5 → Option (List ℕ)
label_at t = label_if t.after_line (free_name t)

unfoldable pub optional_label : Parser (Option Identifier5)
optional_label = from λ at. on label_at (λ name. made at (λ span. Some (record { span = span; name = name }))) (returns None)

unfoldable pub continue_statement : Inner5 → ℕ → Parser Stat5
continue_statement i at = do
  label ← optional_label
  _ ← semicolon i
  made at (λ span. stat.Continue span label)

unfoldable pub break_statement : Inner5 → ℕ → Parser Stat5
break_statement i at = do
  label ← optional_label
  _ ← semicolon i
  made at (λ span. stat.Break span label)

-- what can't begin the value of a `return` before it
abbrev pub goes_on : Token5 → Bool
goes_on t = not (t.after_line || ends t.kind || is_mark (codes "}") t.kind)

unfoldable pub returned : Inner5 → Parser (Option Expr5)
returned i = if_next goes_on (do
  x ← sequence i false
  returns (Some x.value)) (returns None)

unfoldable pub return_statement : Inner5 → ℕ → Parser Stat5
return_statement i at = do
  x ← returned i
  _ ← semicolon i
  made at (λ span. stat.Return span x)

abbrev pub begins_line : Token5 → Bool
begins_line t = t.after_line

unfoldable pub throw_statement : Inner5 → ℕ → Parser Stat5
throw_statement i at = if_next begins_line (fails Syntax) (do
  x ← sequence i false
  _ ← semicolon i
  made at (λ span. stat.Throw span x.value))

-- ## Switch (12.11)

abbrev pub is_inserted : Kind5 → Bool
is_inserted (Word name) = false
is_inserted (Integer value) = false
is_inserted (Text units) = false
is_inserted (Punctuator p) = false
is_inserted Inserted = true

-- no statement begins with an inserted semicolon
abbrev pub ends_case : Token5 → Bool
ends_case t = is_word (codes "case") t.kind || is_word (codes "default") t.kind || is_mark (codes "}") t.kind || is_inserted t.kind

-- the statements of a clause
unfoldable pub in_case : Inner5 → Bool → ℕ → Parser (List Stat5)
in_case i inside zero = fails Endless
in_case i inside (suc turns) = if_next ends_case (returns []) (do
  s ← i.statement inside false
  ss ← in_case i inside turns
  returns (s ∷ ss))

unfoldable pub case_clause : Inner5 → Bool → ℕ → Parser Case5
case_clause i inside at = do
  x ← i.sequence false
  _ ← take_as (mark (codes ":"))
  ss ← in_case i inside i.fuel
  made at (λ span. roll-Case5 (record { span = span; test = Some x.value; body = ss }))

unfoldable pub default_clause : Inner5 → Bool → ℕ → Parser Case5
default_clause i inside at = do
  _ ← take_as (mark (codes ":"))
  ss ← in_case i inside i.fuel
  made at (λ span. roll-Case5 (record { span = span; test = None; body = ss }))

-- the clauses and the closing brace; the second mark says that a default clause may still come
unfoldable pub cases : Inner5 → Bool → Bool → ℕ → Parser (List Case5)
cases i inside may zero = fails Endless
cases i inside may (suc turns) = from λ at. on (mark (codes "}")) (λ _. returns []) (on (word (codes "case")) (λ _. do
  c ← case_clause i inside at
  cs ← cases i inside may turns
  returns (c ∷ cs)) (choose may (on (word (codes "default")) (λ _. do
    c ← default_clause i inside at
    cs ← cases i inside false turns
    returns (c ∷ cs)) (fails Syntax)) (fails Syntax)))

unfoldable pub switch_statement : Inner5 → Bool → ℕ → Parser Stat5
switch_statement i inside at = do
  x ← parenthesized i
  cs ← group i (codes "{") (cases i inside true i.fuel)
  made at (λ span. stat.Switch span x cs)

-- ## Try (12.14)

unfoldable pub catch_parameter : Parser Identifier5
catch_parameter = do
  x ← identifier
  _ ← take_as (mark (codes ")"))
  returns x

unfoldable pub handler : Inner5 → Bool → Parser Catch5
handler i inside = from λ at. do
  _ ← take_as (word (codes "catch"))
  x ← group i (codes "(") catch_parameter
  b ← block i inside
  made at (λ span. roll-Catch5 (record { span = span; parameter = x; body = b }))

unfoldable pub after_handler : Inner5 → Bool → ℕ → Block5 → Catch5 → Parser Stat5
after_handler i inside at b h = on (word (codes "finally")) (λ _. do
  last ← block i inside
  made at (λ span. stat.Try span b (Some h) (Some last))) (made at (λ span. stat.Try span b (Some h) None))

unfoldable pub only_finally : Inner5 → Bool → ℕ → Block5 → Parser Stat5
only_finally i inside at b = do
  _ ← take_as (word (codes "finally"))
  last ← block i inside
  made at (λ span. stat.Try span b None (Some last))

unfoldable pub try_statement : Inner5 → Bool → ℕ → Parser Stat5
try_statement i inside at = do
  b ← block i inside
  if_next (next_word (codes "catch")) (do
    h ← handler i inside
    after_handler i inside at b h) (only_finally i inside at b)

unfoldable pub debugger_statement : Inner5 → ℕ → Parser Stat5
debugger_statement i at = do
  _ ← semicolon i
  made at (λ span. stat.Debugger span)

-- ## Functions, expressions, labels (13, 12.4, 12.12)

unfoldable pub declaration : Inner5 → ℕ → Parser Stat5
declaration i at = do
  name ← identifier
  f ← rest_of_function i at (Some name)
  returns (stat.FunctionDeclaration f)

unfoldable pub expression_end : Inner5 → ℕ → Expr5 → Parser Stat5
expression_end i at x = do
  _ ← semicolon i
  made at (λ span. stat.Expression span x)

unfoldable pub labelled : Inner5 → Bool → ℕ → Identifier5 → Parser Stat5
labelled i inside at label = do
  s ← i.statement inside false
  made at (λ span. stat.Labelled span label s)

-- the identifier that an expression is
abbrev pub name_in : Expr5-F Element5 Expr5 ForFirst5 Link5 Property5 Stat5 Block5 Case5 Catch5 Condition5 Declared5 Function5 Operand5 → Option Identifier5
name_in (layer.Name span name) = Some (record { span = span; name = name })
name_in x = None

abbrev pub label_of : Shape5 → Expr5 → Option Identifier5
label_of Bare x = name_in (out-Expr5 x)
label_of LeftHandSide x = None
label_of Other x = None

abbrev pub label_or_end : Inner5 → Bool → ℕ → Option Identifier5 → Expr5 → Parser Stat5
label_or_end i inside at (Some label) x = on (mark (codes ":")) (λ _. labelled i inside at label) (expression_end i at x)
label_or_end i inside at None x = expression_end i at x

unfoldable pub expression_statement : Inner5 → Bool → ℕ → Parser Stat5
expression_statement i inside at = do
  x ← sequence i false
  label_or_end i inside at (label_of x.shape x.value) x.value

-- ## All together

-- a declaration of a function, or an expression; `with` is outside the profile
unfoldable pub plain_statement : Inner5 → Bool → Bool → ℕ → Parser Stat5
plain_statement i inside top at = if_next (next_word (codes "function")) (choose top (on (word (codes "function")) (λ _. declaration i at) (fails Syntax)) (fails Syntax))
    (if_next (next_word (codes "with")) (fails (Outside 2)) (expression_statement i inside at))

unfoldable pub jump_statement : Inner5 → Bool → Bool → ℕ → Parser Stat5
jump_statement i inside top at = on (word (codes "continue")) (λ _. continue_statement i at)
    (on (word (codes "break")) (λ _. break_statement i at)
    (on (word (codes "throw")) (λ _. throw_statement i at)
    (on (word (codes "debugger")) (λ _. debugger_statement i at)
    (choose inside (on (word (codes "return")) (λ _. return_statement i at) (plain_statement i inside top at)) (plain_statement i inside top at)))))

unfoldable pub compound_statement : Inner5 → Bool → Bool → ℕ → Parser Stat5
compound_statement i inside top at = on (word (codes "do")) (λ _. do_statement i inside at)
    (on (word (codes "while")) (λ _. while_statement i inside at)
    (on (word (codes "for")) (λ _. for_statement i inside at)
    (on (word (codes "switch")) (λ _. switch_statement i inside at)
    (on (word (codes "try")) (λ _. try_statement i inside at) (jump_statement i inside top at)))))

unfoldable pub block_statement : Inner5 → Bool → Parser Stat5
block_statement i inside = do
  b ← block i inside
  returns (stat.Block b)

-- a statement, or a declaration of a function where the second mark lets it stand
unfoldable pub statement : Inner5 → Bool → Bool → Parser Stat5
statement i inside top = from λ at. if_next (next_mark (codes "{")) (block_statement i inside)
    (if_next (next_word (codes "if")) (if_statement i inside at)
    (on (mark (codes ";")) (λ _. made at (λ span. stat.Empty span))
    (on (word (codes "var")) (λ _. var_statement i at) (compound_statement i inside top at))))

-- ## Where no construct may open any more

abbrev pub is_any_word : List (List ℕ) → Kind5 → Bool
is_any_word words (Word name) = is_one_of name words
is_any_word words (Integer value) = false
is_any_word words (Text units) = false
is_any_word words (Punctuator p) = false
is_any_word words Inserted = false

unfoldable pub statement_words : List (List ℕ)
statement_words =
    codes "var" ∷ codes "if" ∷ codes "do" ∷ codes "while" ∷ codes "for" ∷ codes "switch" ∷ codes "try"
    ∷ codes "continue" ∷ codes "break" ∷ codes "throw" ∷ codes "debugger" ∷ []

-- whether the token begins a statement that is no declaration
unfoldable pub begins_statement : Bool → Token5 → Bool
begins_statement inside t = is_mark (codes "{") t.kind || is_mark (codes ";") t.kind || is_any_word statement_words t.kind || (inside && is_word (codes "return") t.kind)
    || (begins_expression t && not (is_word (codes "function") t.kind))

unfoldable pub statement_at_limit : Bool → Parser Stat5
statement_at_limit inside = if_next (begins_statement inside) (fails Depth) (if_next (next_word (codes "function")) (fails Syntax) (if_next (next_word (codes "with")) (fails (Outside 2))
    (if_next begins_division (fails (Outside 4)) (fails Syntax))))
