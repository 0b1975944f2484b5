-- The readers of imports, exports and the whole module (ECMA-262, 6th edition, 15.2), and the readers tied into one another.
use Rattle.std.specs.Prelude.{ℕ, zero, suc, Bool, true, false, ◌&&◌, ◌||◌, cond, List, [], ◌∷◌, Option, Some, None, codes, is_some}
use Rattle.es_text.specs.declared.Span.{Span}
use Rattle.es6_lexer.specs.declared.token.TokenKind.TheVariants as kinds
use Rattle.es6_lexer.specs.declared.token.Punctuator.TheVariants as marks
use Rattle.es6_ast.specs.declared.operators.VariableKind.TheVariants.{Var}
use Rattle.es6_ast.specs.declared.tree.Identifier.{Identifier}
use Rattle.es6_ast.specs.declared.tree.Statement.{Statement}
use Rattle.es6_ast.specs.declared.module.Module.{Module}
use Rattle.es6_ast.specs.declared.module.Item.{Item}
use Rattle.es6_ast.specs.declared.module.Item.TheVariants as item
use Rattle.es6_ast.specs.declared.module.Specifier.{Specifier}
use Rattle.es6_ast.specs.declared.module.ImportedNames.{ImportedNames}
use Rattle.es6_ast.specs.declared.module.ImportedNames.TheVariants.{NoNames, Namespace, Listed as ListedNames}
use Rattle.es6_ast.specs.declared.module.ImportName.{ImportName}
use Rattle.es6_ast.specs.declared.module.ExportName.{ExportName}
use Rattle.es6_ast.specs.declared.module.DefaultExport.TheVariants.{DefaultFunction, DefaultClass, DefaultValue}
use Rattle.es6_ast.specs.declared.settings.Role.TheVariants.{Among, Heritage, Callee}
use Rattle.es6_ast.specs.declared.settings.Stand.TheVariants.{Listed}
use Rattle.es6_ast.specs.declared.settings.Stop.TheVariants.{Depth, Endless}
use Rattle.es6_ast.specs.Tokens.{Filling, Read, Filled, is_identifier}
use Rattle.es6_ast.specs.Grammar.{of_module}
use Rattle.es6_reading.specs.Parser.{Parser, Outcome, returns, fails, ◌>>=◌, refused, on, choose, if_next, take_as, mark, word, next_mark, next_word, from, made, Inner, group, semicolon}
use Rattle.es6_reading.specs.Words.{text_at, begins_expression, begins_unary}
use Rattle.es6_reading.specs.Parts.{identifier, name_of_any_kind, block, binding, one_part, initialized, one_object_part, one_member, function_after_word, class_after_word}
use Rattle.es6_reading.specs.Expressions.{sequence, assignment, unary, power, chain, one_property, expression_at_limit, operand_at_limit}
use Rattle.es6_reading.specs.Statements.{statement, statement_at_limit, variables_statement, on_declaration}

-- ## The readers for what stands inside one more construct, of which `room` may still open

unfoldable pub readers : Bool → ℕ → ℕ → Inner
readers inserting fuel zero = record {
  inserting = inserting;
  fuel = fuel;
  may_open = false;
  sequence = λ f. expression_at_limit (begins_expression f);
  assignment = λ f. expression_at_limit (begins_expression f);
  power = λ f. expression_at_limit begins_unary;
  unary = λ f. expression_at_limit begins_unary;
  callee = λ f. operand_at_limit;
  heritage = λ f. operand_at_limit;
  block = λ f. fails Depth;
  property = λ f. fails Depth;
  target = λ f. fails Depth;
  part = λ f. fails Depth;
  object_part = λ f. fails Depth;
  variable = λ f. fails Depth;
  member = λ f. fails Depth;
  statement = λ f stand. statement_at_limit f stand;
}
readers inserting fuel (suc room) = record {
  inserting = inserting;
  fuel = fuel;
  may_open = true;
  sequence = λ f. sequence (readers inserting fuel room) f;
  assignment = λ f. assignment (readers inserting fuel room) f;
  power = λ f. power (readers inserting fuel room) f Among;
  unary = λ f. unary (readers inserting fuel room) f;
  callee = λ f. chain (readers inserting fuel room) f Callee;
  heritage = λ f. chain (readers inserting fuel room) f Heritage;
  block = λ f. block (readers inserting fuel room) f;
  property = λ f. one_property (readers inserting fuel room) f;
  target = λ f. binding (readers inserting fuel room) f;
  part = λ f. one_part (readers inserting fuel room) f;
  object_part = λ f. one_object_part (readers inserting fuel room) f;
  variable = λ f. initialized (readers inserting fuel room) f f;
  member = λ f. one_member (readers inserting fuel room) f;
  statement = λ f stand. statement (readers inserting fuel room) f stand;
}

-- ## Imports (15.2.2)

unfoldable pub specifier : Parser Specifier
specifier = from λ at. do
  units ← take_as text_at
  made at (λ span. record { span = span; text = units })

-- FromClause, and the semicolon after it
unfoldable pub from_clause : Inner → Parser Specifier
from_clause i = do
  _ ← take_as (word (codes "from"))
  s ← specifier
  _ ← semicolon i
  returns s

-- a name, and another one after `as`
abbrev pub import_of : Identifier → Identifier → Span → ImportName
import_of imported local span = record { span = span; imported = imported; local = local }

-- a name that is imported under its own may not be reserved
unfoldable pub one_import : Parser ImportName
one_import = from λ at. do
  n ← name_of_any_kind
  on (word (codes "as")) (λ _. do
    m ← identifier
    made at (import_of n m)) (choose (is_identifier n.name) (made at (import_of n n)) refused)

-- the names after the opening brace or a comma, and the closing brace
unfoldable pub imports : ℕ → Parser (List ImportName)
imports zero = fails Endless
imports (suc turns) = on (mark marks.RightBrace) (λ _. returns []) (do
  n ← one_import
  on (mark marks.Comma) (λ _. do
    ns ← imports turns
    returns (n ∷ ns)) (do
      _ ← take_as (mark marks.RightBrace)
      returns (n ∷ [])))

unfoldable pub namespace : Parser ImportedNames
namespace = do
  _ ← take_as (word (codes "as"))
  n ← identifier
  returns (Namespace n)

-- NameSpaceImport, or NamedImports
unfoldable pub imported_names : Inner → Parser ImportedNames
imported_names i = on (mark marks.Star) (λ _. namespace) (group i marks.LeftBrace (do
  ns ← imports i.fuel
  returns (ListedNames ns)))

unfoldable pub rest_of_import : Inner → ℕ → Option Identifier → ImportedNames → Parser Item
rest_of_import i at default_ names = do
  s ← from_clause i
  made at (λ span. item.Import span default_ names s)

unfoldable pub default_import : Inner → ℕ → Parser Item
default_import i at = do
  n ← identifier
  on (mark marks.Comma) (λ _. do
    names ← imported_names i
    rest_of_import i at (Some n) names) (rest_of_import i at (Some n) NoNames)

unfoldable pub import_alone : Inner → ℕ → Parser Item
import_alone i at = do
  s ← specifier
  _ ← semicolon i
  made at (λ span. item.Import span None NoNames s)

abbrev pub begins_names : Filled → Bool
begins_names t = next_mark marks.Star t || next_mark marks.LeftBrace t

-- what follows `import`
unfoldable pub import_item : Inner → ℕ → Parser Item
import_item i at = if_next (λ t. is_some (text_at t)) (import_alone i at) (if_next begins_names (do
  names ← imported_names i
  rest_of_import i at None names) (default_import i at))

-- ## Exports (15.2.3)

abbrev pub export_of : Identifier → Identifier → Span → ExportName
export_of local exported span = record { span = span; local = local; exported = exported }

unfoldable pub one_export : Parser ExportName
one_export = from λ at. do
  n ← name_of_any_kind
  on (word (codes "as")) (λ _. do
    m ← name_of_any_kind
    made at (export_of n m)) (made at (export_of n n))

-- the names after the opening brace or a comma, and the closing brace
unfoldable pub exports : ℕ → Parser (List ExportName)
exports zero = fails Endless
exports (suc turns) = on (mark marks.RightBrace) (λ _. returns []) (do
  n ← one_export
  on (mark marks.Comma) (λ _. do
    ns ← exports turns
    returns (n ∷ ns)) (do
      _ ← take_as (mark marks.RightBrace)
      returns (n ∷ [])))

-- whether the module's own names can be these
abbrev pub are_own : List ExportName → Bool
are_own [] = true
are_own (n ∷ ns) = is_identifier n.local.name && are_own ns

unfoldable pub own_names : Inner → ℕ → List ExportName → Parser Item
own_names i at ns = choose (are_own ns) (do
  _ ← semicolon i
  made at (λ span. item.ExportNames span ns None)) refused

-- names of this module, or of the one that is named after them
unfoldable pub export_names : Inner → ℕ → Parser Item
export_names i at = do
  ns ← group i marks.LeftBrace (exports i.fuel)
  if_next (next_word (codes "from")) (do
    s ← from_clause i
    made at (λ span. item.ExportNames span ns (Some s))) (own_names i at ns)

unfoldable pub export_all : Inner → ℕ → Parser Item
export_all i at = do
  s ← from_clause i
  made at (λ span. item.ExportAll span s)

-- what follows `default`, which has the span
unfoldable pub default_value : Inner → ℕ → Span → Parser Item
default_value i at word_span = do
  x ← assignment i of_module
  _ ← semicolon i
  made at (λ span. item.ExportDefault span word_span (DefaultValue x.value))

unfoldable pub export_default : Inner → ℕ → Span → Parser Item
export_default i at word_span = from λ inside. on (word (codes "function")) (λ _. do
  g ← function_after_word i true inside
  made at (λ span. item.ExportDefault span word_span (DefaultFunction g))) (on (word (codes "class")) (λ _. do
    c ← class_after_word i of_module true inside
    made at (λ span. item.ExportDefault span word_span (DefaultClass c))) (default_value i at word_span))

unfoldable pub exported_declaration : Inner → Parser Statement
exported_declaration i = from λ inside. on (word (codes "var")) (λ _. variables_statement i of_module inside Var) (on_declaration i of_module inside refused)

unfoldable pub export_declaration : Inner → ℕ → Parser Item
export_declaration i at = do
  s ← exported_declaration i
  made at (λ span. item.ExportDeclaration span s)

-- what follows `export`
unfoldable pub export_item : Inner → ℕ → Parser Item
export_item i at = on (mark marks.Star) (λ _. export_all i at) (on (word (codes "default")) (λ t. export_default i at t.span)
    (if_next (next_mark marks.LeftBrace) (export_names i at) (export_declaration i at)))

-- ## Modules (15.2.1)

unfoldable pub statement_item : Inner → Parser Item
statement_item i = do
  s ← statement i of_module Listed
  returns (item.Statement s)

-- ModuleItem
unfoldable pub one_item : Inner → Parser Item
one_item i = from λ at. on (word (codes "import")) (λ _. import_item i at) (on (word (codes "export")) (λ _. export_item i at) (statement_item i))

abbrev pub is_end_kind : Filling → Bool
is_end_kind (Read kinds.End) = true
is_end_kind _ = false

abbrev pub is_end : Filled → Bool
is_end t = is_end_kind t.kind

abbrev pub end_at : Filled → Option Filled
end_at t = cond (is_end t) (Some t) None

-- the items up to the end of the text
unfoldable pub items : Inner → ℕ → Parser (List Item)
items i zero = fails Endless
items i (suc turns) = if_next is_end (returns []) (do
  x ← one_item i
  xs ← items i turns
  returns (x ∷ xs))

-- the end of the text stands last
unfoldable pub whole_module : Inner → Parser Module
whole_module i = do
  xs ← items i i.fuel
  end ← take_as end_at
  if_next (λ t. true) refused (returns (record { span = record { begin = 0; end = end.span.end }; items = xs }))

-- How many constructs may be open at one token.
abbrev pub most_open : ℕ
most_open = 256

-- A module of these tokens. Loops have `fuel` turns.
unfoldable pub read_module : ℕ → List Filled → Outcome Module
read_module fuel tokens = whole_module (readers true fuel most_open) (record { tokens = tokens; last = 0 })
