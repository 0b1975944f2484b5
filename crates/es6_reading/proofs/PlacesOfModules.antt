-- Statements, imports, exports and modules leave a rest of the tokens that they were given, also where they stop at a fault, and the
-- fault says what stands there.
use Rattle.std.proofs.Common.{◌≡◌, ℕ, zero, suc, Bool, true, false, List, [], ◌∷◌, ◌++◌, ◌||◌, Option, Some, None, refl, ap, subst, arith}
use Rattle.std.specs.Prelude.{is_some, codes}
use Rattle.std.proofs.lemmas.Bool.{false≢true}
use Rattle.es_text.specs.declared.Span.{Span}
use Rattle.es6_lexer.specs.declared.token.Punctuator.TheVariants as marks
use Rattle.es6_ast.specs.declared.operators.VariableKind.{VariableKind}
use Rattle.es6_ast.specs.declared.operators.VariableKind.TheVariants.{Var}
use Rattle.es6_ast.specs.declared.tree.Block.{Block}
use Rattle.es6_ast.specs.declared.tree.Catch.{Catch}
use Rattle.es6_ast.specs.declared.tree.Expression.{Expression}
use Rattle.es6_ast.specs.declared.tree.ForFirst.{ForFirst}
use Rattle.es6_ast.specs.declared.tree.ForTarget.{ForTarget}
use Rattle.es6_ast.specs.declared.tree.Identifier.{Identifier}
use Rattle.es6_ast.specs.declared.tree.Part.{Part}
use Rattle.es6_ast.specs.declared.tree.Statement.{Statement}
use Rattle.es6_ast.specs.declared.module.ExportName.{ExportName}
use Rattle.es6_ast.specs.declared.module.ImportedNames.{ImportedNames}
use Rattle.es6_ast.specs.declared.module.Module.{Module}
use Rattle.es6_ast.specs.declared.settings.Flags.{Flags}
use Rattle.es6_ast.specs.declared.settings.Role.TheVariants.{Among, Heritage, Callee}
use Rattle.es6_ast.specs.declared.settings.Stand.{Stand}
use Rattle.es6_ast.specs.declared.settings.Stand.TheVariants.{Listed, Under, Labelled}
use Rattle.es6_ast.specs.declared.settings.Stop.{Stop}
use Rattle.es6_ast.specs.declared.settings.Stop.TheVariants.{Syntax, Outside}
use Rattle.es6_ast.specs.Tokens.{Filled, is_word, is_identifier}
use Rattle.es6_ast.specs.Grammar.{with_in, without_in, of_module}
use Rattle.es6_reading.specs.Parser.{Input, Fault, Parser, next_word, is_left, Inner}
use Rattle.es6_reading.specs.Statements as s6
use Rattle.es6_reading.specs.Modules as m6
use Rattle.es6_reading.specs.Expressions as e
use Rattle.es6_reading.specs.Laws.{FaultsAreInside, for_in, with, Says, FaultsSayWhatStandsThere}
use Rattle.es6_reading.proofs.Meanings.{word-is}
use Rattle.es6_reading.proofs.Places.{Rest, all, less, Leaves, fault_rest, bind, done, deep, endless, stops, nowhere, number, expression, next, take, either, looks, group, Placed, identifier, any_name, semicolon_, do_while_end, fitting, initialized, block, binding, one_part, object_part, named_function, function, class, member, assignment, sequence, unary, power, chain, property}

-- ## What is said of words

says_in_word : (t : Filled) (ts : List Filled) → next_word (codes "in") t ≡ true → Says (Outside 1) (t ∷ ts)
says_in_word t ts h = (omega arith, omega arith, for_in (word-is (codes "in") t.kind h))

says_with : (t : Filled) (ts : List Filled) → next_word (codes "with") t ≡ true → Says (Outside 5) (t ∷ ts)
says_with t ts h = (omega arith, omega arith, with (word-is (codes "with") t.kind h))

says_declaration : (t : Filled) (ts : List Filled) → s6.begins_declaration t ≡ true → Says Syntax (t ∷ ts)
says_declaration t ts h kind e = false≢true (subst (λ k. (is_word (codes "function") k || is_word (codes "class") k) ≡ true) e h)

-- ## Readers

variables : (one : Parser Part) (k : (s : Input) → Leaves s.tokens (one s)) (n : ℕ) (s : Input) → Leaves s.tokens (s6.variables one n s)
unfolding s6.variables s6.one_variable
variables one k zero s = endless
variables one k (suc n) s = bind (bind (k s) λ q c. either (s6.is_whole q) _ _ c done (nowhere c)) λ q c. next _ _ _ c (λ t d. bind (variables one k n d) λ qs m. done) done

label : (s : Input) → Leaves s.tokens (s6.optional_label s)
unfolding s6.optional_label
label s = next _ _ _ s (λ name c. done) done

specifier : (s : Input) → Leaves s.tokens (m6.specifier s)
unfolding m6.specifier
specifier s = bind (take _ s) λ x c. done

one_import : (s : Input) → Leaves s.tokens (m6.one_import s)
unfolding m6.one_import
one_import s = bind (any_name s) λ n c. next _ _ _ c (λ t d. bind (identifier d) λ m k. done) (either (is_identifier n.name) _ _ c done (nowhere c))

imports : (n : ℕ) (s : Input) → Leaves s.tokens (m6.imports n s)
unfolding m6.imports
imports zero s = endless
imports (suc n) s = next _ _ _ s (λ t c. done) (bind (one_import s) λ x c. next _ _ _ c (λ t d. bind (imports n d) λ y k. done) (bind (take _ c) λ t d. done))

namespace : (s : Input) → Leaves s.tokens (m6.namespace s)
unfolding m6.namespace
namespace s = bind (take _ s) λ t c. bind (identifier c) λ n d. done

one_export : (s : Input) → Leaves s.tokens (m6.one_export s)
unfolding m6.one_export
one_export s = bind (any_name s) λ n c. next _ _ _ c (λ t d. bind (any_name d) λ m k. done) done

exports : (n : ℕ) (s : Input) → Leaves s.tokens (m6.exports n s)
unfolding m6.exports
exports zero s = endless
exports (suc n) s = next _ _ _ s (λ t c. done) (bind (one_export s) λ x c. next _ _ _ c (λ t d. bind (exports n d) λ y k. done) (bind (take _ c) λ t d. done))

expression_stops : (begins : Filled → Bool) (s : Input) → Leaves s.tokens (e.expression_at_limit begins s)
unfolding e.expression_at_limit
expression_stops begins s = looks _ _ _ s deep (expression s)

operand_stops : (s : Input) → Leaves s.tokens (e.operand_at_limit s)
unfolding e.operand_at_limit
operand_stops s = looks _ _ _ s deep (number s)

statement_stops : (f : Flags) (stand : Stand) (s : Input) → Leaves s.tokens (s6.statement_at_limit f stand s)
unfolding s6.statement_at_limit
statement_stops f stand s = looks _ _ _ s deep (stops (Outside 5) _ _ s says_with (expression s))

module _ (i : Inner) (h : Placed i) where
  variables_statement : (f : Flags) (at : ℕ) (kind : VariableKind) (s : Input) → Leaves s.tokens (s6.variables_statement i f at kind s)
  unfolding s6.variables_statement
  variables_statement f at kind s = bind (variables _ (λ c. initialized i h f f c) i.fuel s) λ qs c. bind (semicolon_ i c) λ t d. done

  parenthesized : (f : Flags) (s : Input) → Leaves s.tokens (s6.parenthesized i f s)
  unfolding s6.parenthesized
  parenthesized f s = group i marks.LeftParenthesis _ _ s (λ c. bind (h.sequence (with_in f) c) λ x d. bind (take _ d) λ t k. done) (λ u. nowhere s)

  condition : (f : Flags) (s : Input) → Leaves s.tokens (s6.condition i f s)
  unfolding s6.condition
  condition f s = bind (take _ s) λ t c. bind (parenthesized f c) λ x d. bind (h.statement f Under d) λ y k. done

  otherwise : (f : Flags) (n : ℕ) (s : Input) → Leaves s.tokens (s6.otherwise i f n s)
  unfolding s6.otherwise
  otherwise f zero s = endless
  otherwise f (suc n) s = next _ _ _ s (λ t c. looks _ _ _ c (bind (condition f c) λ x d. bind (otherwise f n d) λ r k. done) (bind (h.statement f Under c) λ x d. done)) done

  if_statement : (f : Flags) (at : ℕ) (s : Input) → Leaves s.tokens (s6.if_statement i f at s)
  unfolding s6.if_statement
  if_statement f at s = bind (condition f s) λ x c. bind (otherwise f i.fuel c) λ r d. done

  do_statement : (f : Flags) (at : ℕ) (s : Input) → Leaves s.tokens (s6.do_statement i f at s)
  unfolding s6.do_statement
  do_statement f at s = bind (h.statement f Under s) λ x c. bind (take _ c) λ t d. bind (parenthesized f d) λ y k. bind (do_while_end i k) λ u m. done

  while_statement : (f : Flags) (at : ℕ) (s : Input) → Leaves s.tokens (s6.while_statement i f at s)
  unfolding s6.while_statement
  while_statement f at s = bind (parenthesized f s) λ x c. bind (h.statement f Under c) λ y d. done

  optional : (f : Flags) (end : Filled → Option Filled) (s : Input) → Leaves s.tokens (s6.optional i f end s)
  unfolding s6.optional
  optional f end s = next _ _ _ s (λ t c. done) (bind (h.sequence (with_in f) s) λ x c. bind (take _ c) λ t d. done)

  rest_of_for : (f : Flags) (first : ForFirst) (s : Input) → Leaves s.tokens (s6.rest_of_for i f first s)
  unfolding s6.rest_of_for
  rest_of_for f first s = bind (optional f _ s) λ x c. bind (optional f _ c) λ y d. done

  rest_of_of : (f : Flags) (target : ForTarget) (s : Input) → Leaves s.tokens (s6.rest_of_of i f target s)
  unfolding s6.rest_of_of
  rest_of_of f target s = bind (h.assignment (with_in f) s) λ x c. bind (take _ c) λ t d. done

  first_variables : (f : Flags) (at : ℕ) (kind : VariableKind) (qs : List Part) (s : Input) → Leaves s.tokens (s6.first_variables i f at kind qs s)
  unfolding s6.first_variables
  first_variables f at kind qs s = bind (take _ s) λ t c. rest_of_for f _ c

  after_first : (f : Flags) (at : ℕ) (kind : VariableKind) (q : Part) (s : Input) → Leaves s.tokens (s6.after_first_variable i f at kind q s)
  unfolding s6.after_first_variable
  after_first f at kind q s = either (s6.is_whole q) _ _ s (next _ _ _ s (λ t c. bind (variables _ (λ d. h.variable (without_in f) d) i.fuel c) λ qs d. first_variables f at kind _ d) (first_variables f at kind _ s)) (nowhere s)

  after_bare : (f : Flags) (at : ℕ) (kind : VariableKind) (q : Part) (s : Input) → Leaves s.tokens (s6.after_bare_variable i f at kind q s)
  unfolding s6.after_bare_variable
  after_bare f at kind q s = stops (Outside 1) _ _ s says_in_word (looks _ _ _ s (bind (take _ s) λ t c. rest_of_of f _ c) (after_first f at kind q s))

  for_variables : (f : Flags) (at : ℕ) (kind : VariableKind) (s : Input) → Leaves s.tokens (s6.for_variables i f at kind s)
  unfolding s6.for_variables
  for_variables f at kind s = bind (h.variable (without_in f) s) λ q c. either (is_some q.default) _ _ c (after_first f at kind q c) (after_bare f at kind q c)

  first_expression : (f : Flags) (x : Expression) (s : Input) → Leaves s.tokens (s6.first_expression i f x s)
  unfolding s6.first_expression
  first_expression f x s = bind (take _ s) λ t c. rest_of_for f _ c

  assigned_in_turn : (f : Flags) (x : Expression) (s : Input) → Leaves s.tokens (s6.assigned_in_turn i f x s)
  unfolding s6.assigned_in_turn
  assigned_in_turn f x s = bind (fitting _ s) λ q c. rest_of_of f _ c

  for_expression : (f : Flags) (s : Input) → Leaves s.tokens (s6.for_expression i f s)
  unfolding s6.for_expression
  for_expression f s = bind (h.sequence (without_in f) s) λ x c. either (is_left x.shape) _ _ c (stops (Outside 1) _ _ c says_in_word (next _ _ _ c (λ t d. assigned_in_turn f _ d) (first_expression f _ c))) (first_expression f _ c)

  for_header : (f : Flags) (s : Input) → Leaves s.tokens (s6.for_header i f s)
  unfolding s6.for_header
  for_header f s = next _ _ _ s (λ t c. rest_of_for f _ c) (next _ _ _ s (λ kind c. for_variables f _ kind c) (for_expression f s))

  for_statement : (f : Flags) (at : ℕ) (s : Input) → Leaves s.tokens (s6.for_statement i f at s)
  unfolding s6.for_statement
  for_statement f at s = bind (group i marks.LeftParenthesis _ _ s (λ c. for_header f c) (λ u. nowhere s)) λ x c. bind (h.statement f Under c) λ y d. done

  continue_statement : (at : ℕ) (s : Input) → Leaves s.tokens (s6.continue_statement i at s)
  unfolding s6.continue_statement
  continue_statement at s = bind (label s) λ x c. bind (semicolon_ i c) λ t d. done

  break_statement : (at : ℕ) (s : Input) → Leaves s.tokens (s6.break_statement i at s)
  unfolding s6.break_statement
  break_statement at s = bind (label s) λ x c. bind (semicolon_ i c) λ t d. done

  returned : (f : Flags) (s : Input) → Leaves s.tokens (s6.returned i f s)
  unfolding s6.returned
  returned f s = looks _ _ _ s (bind (sequence i h (with_in f) s) λ x c. done) done

  return_statement : (f : Flags) (at : ℕ) (s : Input) → Leaves s.tokens (s6.return_statement i f at s)
  unfolding s6.return_statement
  return_statement f at s = bind (returned f s) λ x c. bind (semicolon_ i c) λ t d. done

  throw_statement : (f : Flags) (at : ℕ) (s : Input) → Leaves s.tokens (s6.throw_statement i f at s)
  unfolding s6.throw_statement
  throw_statement f at s = looks _ _ _ s (nowhere s) (bind (sequence i h (with_in f) s) λ x c. bind (semicolon_ i c) λ t d. done)

  in_case : (f : Flags) (n : ℕ) (s : Input) → Leaves s.tokens (s6.in_case i f n s)
  unfolding s6.in_case
  in_case f zero s = endless
  in_case f (suc n) s = looks _ _ _ s done (bind (h.statement f Listed s) λ x c. bind (in_case f n c) λ y d. done)

  case_clause : (f : Flags) (at : ℕ) (s : Input) → Leaves s.tokens (s6.case_clause i f at s)
  unfolding s6.case_clause
  case_clause f at s = bind (h.sequence (with_in f) s) λ x c. bind (take _ c) λ t d. bind (in_case f i.fuel d) λ y k. done

  default_clause : (f : Flags) (at : ℕ) (s : Input) → Leaves s.tokens (s6.default_clause i f at s)
  unfolding s6.default_clause
  default_clause f at s = bind (take _ s) λ t c. bind (in_case f i.fuel c) λ y d. done

  cases : (f : Flags) (may : Bool) (n : ℕ) (s : Input) → Leaves s.tokens (s6.cases i f may n s)
  unfolding s6.cases
  cases f may zero s = endless
  cases f may (suc n) s = next _ _ _ s (λ t c. done) (next _ _ _ s (λ t c. bind (case_clause f _ c) λ x d. bind (cases f may n d) λ y k. done)
      (either may _ _ s (next _ _ _ s (λ t c. bind (default_clause f _ c) λ x d. bind (cases f false n d) λ y k. done) (nowhere s)) (nowhere s)))

  switch_statement : (f : Flags) (at : ℕ) (s : Input) → Leaves s.tokens (s6.switch_statement i f at s)
  unfolding s6.switch_statement
  switch_statement f at s = bind (parenthesized f s) λ x c. bind (group i marks.LeftBrace _ _ c (λ d. cases f true i.fuel d) (λ u. nowhere c)) λ y d. done

  catch_parameter : (f : Flags) (s : Input) → Leaves s.tokens (s6.catch_parameter i f s)
  unfolding s6.catch_parameter
  catch_parameter f s = bind (h.target (with_in f) s) λ x c. bind (take _ c) λ t d. done

  handler : (f : Flags) (s : Input) → Leaves s.tokens (s6.handler i f s)
  unfolding s6.handler
  handler f s = bind (take _ s) λ t c. bind (group i marks.LeftParenthesis _ _ c (λ d. catch_parameter f d) (λ u. nowhere c)) λ x d. bind (block i h f d) λ b k. done

  after_handler : (f : Flags) (at : ℕ) (b : Block) (x : Catch) (s : Input) → Leaves s.tokens (s6.after_handler i f at b x s)
  unfolding s6.after_handler
  after_handler f at b x s = next _ _ _ s (λ t c. bind (block i h f c) λ y d. done) done

  only_finally : (f : Flags) (at : ℕ) (b : Block) (s : Input) → Leaves s.tokens (s6.only_finally i f at b s)
  unfolding s6.only_finally
  only_finally f at b s = bind (take _ s) λ t c. bind (block i h f c) λ y d. done

  try_statement : (f : Flags) (at : ℕ) (s : Input) → Leaves s.tokens (s6.try_statement i f at s)
  unfolding s6.try_statement
  try_statement f at s = bind (block i h f s) λ b c. looks _ _ _ c (bind (handler f c) λ x d. after_handler f at b x d) (only_finally f at b c)

  debugger_statement : (at : ℕ) (s : Input) → Leaves s.tokens (s6.debugger_statement i at s)
  unfolding s6.debugger_statement
  debugger_statement at s = bind (semicolon_ i s) λ t c. done

  expression_end : (at : ℕ) (x : Expression) (s : Input) → Leaves s.tokens (s6.expression_end i at x s)
  unfolding s6.expression_end
  expression_end at x s = bind (semicolon_ i s) λ t c. done

  labelled : (f : Flags) (at : ℕ) (n : Identifier) (s : Input) → Leaves s.tokens (s6.labelled i f at n s)
  unfolding s6.labelled
  labelled f at n s = bind (h.statement f Labelled s) λ x c. done

  label_or_end : (f : Flags) (at : ℕ) (n : Option Identifier) (x : Expression) (s : Input) → Leaves s.tokens (s6.label_or_end i f at n x s)
  label_or_end f at (Some n) x s = next _ _ _ s (λ t c. labelled f at n c) (expression_end at x s)
  label_or_end f at None x s = expression_end at x s

  expression_statement : (f : Flags) (at : ℕ) (s : Input) → Leaves s.tokens (s6.expression_statement i f at s)
  unfolding s6.expression_statement
  expression_statement f at s = bind (sequence i h f s) λ x c. label_or_end f at _ _ c

  function_declaration : (at : ℕ) (s : Input) → Leaves s.tokens (s6.function_declaration i at s)
  unfolding s6.function_declaration
  function_declaration at s = bind (function i h false at s) λ g c. done

  class_declaration : (f : Flags) (at : ℕ) (s : Input) → Leaves s.tokens (s6.class_declaration i f at s)
  unfolding s6.class_declaration
  class_declaration f at s = bind (class i h f false at s) λ x c. done

  on_declaration : (f : Flags) (at : ℕ) (q : Parser Statement) (s : Input) → Leaves s.tokens (q s) → Leaves s.tokens (s6.on_declaration i f at q s)
  on_declaration f at q s k = next _ _ _ s (λ t c. function_declaration at c) (next _ _ _ s (λ t c. class_declaration f at c) (next _ _ _ s (λ kind c. variables_statement f at kind c) k))

  labelled_function : (at : ℕ) (s : Input) → Leaves s.tokens (s6.labelled_function i at s)
  unfolding s6.labelled_function
  labelled_function at s = bind (named_function i h at false s) λ g c. done

  on_more : (f : Flags) (stand : Stand) (at : ℕ) (q : Parser Statement) (s : Input) → Leaves s.tokens (q s) → Leaves s.tokens (s6.on_more i f stand at q s)
  on_more f Listed at q s k = on_declaration f at q s k
  on_more f Under at q s k = k
  on_more f Labelled at q s k = next _ _ _ s (λ t c. labelled_function at c) k

  plain_statement : (f : Flags) (at : ℕ) (s : Input) → Leaves s.tokens (s6.plain_statement i f at s)
  unfolding s6.plain_statement
  plain_statement f at s = stops (Outside 5) _ _ s says_with (stops Syntax _ _ s says_declaration (expression_statement f at s))

  jump_statement : (f : Flags) (stand : Stand) (at : ℕ) (s : Input) → Leaves s.tokens (s6.jump_statement i f stand at s)
  unfolding s6.jump_statement
  jump_statement f stand at s = next _ _ _ s (λ t c. continue_statement at c) (next _ _ _ s (λ t c. break_statement at c) (next _ _ _ s (λ t c. throw_statement f at c) (next _ _ _ s (λ t c. debugger_statement at c)
      (either f.has_return _ _ s (next _ _ _ s (λ t c. return_statement f at c) (on_more f stand at _ s (plain_statement f at s))) (on_more f stand at _ s (plain_statement f at s))))))

  compound_statement : (f : Flags) (stand : Stand) (at : ℕ) (s : Input) → Leaves s.tokens (s6.compound_statement i f stand at s)
  unfolding s6.compound_statement
  compound_statement f stand at s = next _ _ _ s (λ t c. do_statement f at c) (next _ _ _ s (λ t c. while_statement f at c) (next _ _ _ s (λ t c. for_statement f at c)
      (next _ _ _ s (λ t c. switch_statement f at c) (next _ _ _ s (λ t c. try_statement f at c) (jump_statement f stand at s)))))

  block_statement : (f : Flags) (s : Input) → Leaves s.tokens (s6.block_statement i f s)
  unfolding s6.block_statement
  block_statement f s = bind (block i h f s) λ b c. done

  statement : (f : Flags) (stand : Stand) (s : Input) → Leaves s.tokens (s6.statement i f stand s)
  unfolding s6.statement
  statement f stand s = looks _ _ _ s (block_statement f s) (looks _ _ _ s (if_statement f _ s) (next _ _ _ s (λ t c. done) (next _ _ _ s (λ t c. variables_statement f _ Var c) (compound_statement f stand _ s))))

  from_clause : (s : Input) → Leaves s.tokens (m6.from_clause i s)
  unfolding m6.from_clause
  from_clause s = bind (take _ s) λ t c. bind (specifier c) λ x d. bind (semicolon_ i d) λ u k. done

  imported_names : (s : Input) → Leaves s.tokens (m6.imported_names i s)
  unfolding m6.imported_names
  imported_names s = next _ _ _ s (λ t c. namespace c) (group i marks.LeftBrace _ _ s (λ c. bind (imports i.fuel c) λ x d. done) (λ u. nowhere s))

  rest_of_import : (at : ℕ) (n : Option Identifier) (names : ImportedNames) (s : Input) → Leaves s.tokens (m6.rest_of_import i at n names s)
  unfolding m6.rest_of_import
  rest_of_import at n names s = bind (from_clause s) λ x c. done

  default_import : (at : ℕ) (s : Input) → Leaves s.tokens (m6.default_import i at s)
  unfolding m6.default_import
  default_import at s = bind (identifier s) λ n c. next _ _ _ c (λ t d. bind (imported_names d) λ x k. rest_of_import at _ x k) (rest_of_import at _ _ c)

  import_alone : (at : ℕ) (s : Input) → Leaves s.tokens (m6.import_alone i at s)
  unfolding m6.import_alone
  import_alone at s = bind (specifier s) λ x c. bind (semicolon_ i c) λ t d. done

  import_item : (at : ℕ) (s : Input) → Leaves s.tokens (m6.import_item i at s)
  unfolding m6.import_item
  import_item at s = looks _ _ _ s (import_alone at s) (looks _ _ _ s (bind (imported_names s) λ x c. rest_of_import at _ x c) (default_import at s))

  own_names : (at : ℕ) (ns : List ExportName) (s : Input) → Leaves s.tokens (m6.own_names i at ns s)
  unfolding m6.own_names
  own_names at ns s = either (m6.are_own ns) _ _ s (bind (semicolon_ i s) λ t c. done) (nowhere s)

  export_names : (at : ℕ) (s : Input) → Leaves s.tokens (m6.export_names i at s)
  unfolding m6.export_names
  export_names at s = bind (group i marks.LeftBrace _ _ s (λ c. exports i.fuel c) (λ u. nowhere s)) λ ns c. looks _ _ _ c (bind (from_clause c) λ x d. done) (own_names at ns c)

  export_all : (at : ℕ) (s : Input) → Leaves s.tokens (m6.export_all i at s)
  unfolding m6.export_all
  export_all at s = bind (from_clause s) λ x c. done

  default_value : (at : ℕ) (span : Span) (s : Input) → Leaves s.tokens (m6.default_value i at span s)
  unfolding m6.default_value
  default_value at span s = bind (assignment i h of_module s) λ x c. bind (semicolon_ i c) λ t d. done

  export_default : (at : ℕ) (span : Span) (s : Input) → Leaves s.tokens (m6.export_default i at span s)
  unfolding m6.export_default
  export_default at span s = next _ _ _ s (λ t c. bind (function i h true _ c) λ g d. done) (next _ _ _ s (λ t c. bind (class i h of_module true _ c) λ x d. done) (default_value at span s))

  exported_declaration : (s : Input) → Leaves s.tokens (m6.exported_declaration i s)
  unfolding m6.exported_declaration
  exported_declaration s = next _ _ _ s (λ t c. variables_statement of_module _ Var c) (on_declaration of_module _ _ s (nowhere s))

  export_declaration : (at : ℕ) (s : Input) → Leaves s.tokens (m6.export_declaration i at s)
  unfolding m6.export_declaration
  export_declaration at s = bind (exported_declaration s) λ x c. done

  export_item : (at : ℕ) (s : Input) → Leaves s.tokens (m6.export_item i at s)
  unfolding m6.export_item
  export_item at s = next _ _ _ s (λ t c. export_all at c) (next _ _ _ s (λ t c. export_default at _ c) (looks _ _ _ s (export_names at s) (export_declaration at s)))

  statement_item : (s : Input) → Leaves s.tokens (m6.statement_item i s)
  unfolding m6.statement_item
  statement_item s = bind (statement of_module Listed s) λ x c. done

  one_item : (s : Input) → Leaves s.tokens (m6.one_item i s)
  unfolding m6.one_item
  one_item s = next _ _ _ s (λ t c. import_item _ c) (next _ _ _ s (λ t c. export_item _ c) (statement_item s))

  pub items : (n : ℕ) (s : Input) → Leaves s.tokens (m6.items i n s)
  unfolding m6.items
  items zero s = endless
  items (suc n) s = looks _ _ _ s done (bind (one_item s) λ x c. bind (items n c) λ y d. done)

  whole_module : (s : Input) → Leaves s.tokens (m6.whole_module i s)
  unfolding m6.whole_module
  whole_module s = bind (items i.fuel s) λ xs c. bind (take _ c) λ t d. looks _ _ _ d (nowhere d) done

pub placed : (mode : Bool) (fuel room : ℕ) → Placed (m6.readers mode fuel room)
unfolding m6.readers
placed mode fuel zero = record {
  sequence = λ f s. expression_stops _ s;
  assignment = λ f s. expression_stops _ s;
  power = λ f s. expression_stops _ s;
  unary = λ f s. expression_stops _ s;
  callee = λ f s. operand_stops s;
  heritage = λ f s. operand_stops s;
  block = λ f s. deep;
  property = λ f s. deep;
  target = λ f s. deep;
  part = λ f s. deep;
  object_part = λ f s. deep;
  variable = λ f s. deep;
  member = λ f s. deep;
  statement = λ f stand s. statement_stops f stand s;
}
placed mode fuel (suc room) =
    let deeper = placed mode fuel room in
    record {
      sequence = λ f s. sequence (m6.readers mode fuel room) deeper f s;
      assignment = λ f s. assignment (m6.readers mode fuel room) deeper f s;
      power = λ f s. power (m6.readers mode fuel room) deeper f Among s;
      unary = λ f s. unary (m6.readers mode fuel room) deeper f s;
      callee = λ f s. chain (m6.readers mode fuel room) deeper f Callee s;
      heritage = λ f s. chain (m6.readers mode fuel room) deeper f Heritage s;
      block = λ f s. block (m6.readers mode fuel room) deeper f s;
      property = λ f s. property (m6.readers mode fuel room) deeper f s;
      target = λ f s. binding (m6.readers mode fuel room) deeper f s;
      part = λ f s. one_part (m6.readers mode fuel room) deeper f s;
      object_part = λ f s. object_part (m6.readers mode fuel room) deeper f s;
      variable = λ f s. initialized (m6.readers mode fuel room) deeper f f s;
      member = λ f s. member (m6.readers mode fuel room) deeper f s;
      statement = λ f stand s. statement (m6.readers mode fuel room) deeper f stand s;
    }

-- ## Modules

of-rest : {ts us : List Filled} → Rest ts us → (front : List Filled) × (ts ≡ front ++ us)
of-rest all = ([], refl)
of-rest (less {t = t} h) = let f = of-rest h in (t ∷ f.0, ap (λ vs. t ∷ vs) f.1)

of-fault : {A : Type 0} {ts us : List Filled} {stop : Stop} → Leaves {A = A} ts (Fault stop us) → Says stop us × Rest ts us
of-fault (fault_rest k r) = (k, r)

left : (fuel : ℕ) (tokens : List Filled) (stop : Stop) (rest : List Filled) → m6.read_module fuel tokens ≡ Fault stop rest → Says stop rest × Rest tokens rest
unfolding m6.read_module
left fuel tokens stop rest e = of-fault {A = Module} {stop = stop} (subst (λ o. Leaves tokens o) e (whole_module (m6.readers true fuel m6.most_open) (placed true fuel m6.most_open) (record { tokens = tokens; last = 0 })))

pub places : FaultsAreInside
places fuel tokens stop rest e = of-rest (left fuel tokens stop rest e).1

pub says : FaultsSayWhatStandsThere
says fuel tokens stop rest e = (left fuel tokens stop rest e).0
