-- Readers of statements and of modules read the same where loops have more turns.
use Rattle.std.proofs.Common.{ℕ, Bool, true, false, List, Option, Some, None}
use Rattle.std.specs.Prelude.{is_some}
use Rattle.es_text.specs.declared.Span.{Span}
use Rattle.es6_lexer.specs.declared.token.Punctuator.TheVariants as marks
use Rattle.es6_ast.specs.declared.operators.AssignOperator.TheVariants as assign
use Rattle.es6_ast.specs.declared.operators.VariableKind.{VariableKind}
use Rattle.es6_ast.specs.declared.operators.VariableKind.TheVariants.{Var}
use Rattle.es6_ast.specs.declared.tree.Block.{Block}
use Rattle.es6_ast.specs.declared.tree.Catch.{Catch}
use Rattle.es6_ast.specs.declared.tree.Expression.{Expression}
use Rattle.es6_ast.specs.declared.tree.ForFirst.{ForFirst}
use Rattle.es6_ast.specs.declared.tree.ForTarget.{ForTarget}
use Rattle.es6_ast.specs.declared.tree.Identifier.{Identifier}
use Rattle.es6_ast.specs.declared.tree.Part.{Part}
use Rattle.es6_ast.specs.declared.tree.Statement.{Statement}
use Rattle.es6_ast.specs.declared.module.ExportName.{ExportName}
use Rattle.es6_ast.specs.declared.module.ImportedNames.{ImportedNames}
use Rattle.es6_ast.specs.declared.settings.Flags.{Flags}
use Rattle.es6_ast.specs.declared.settings.Stand.{Stand}
use Rattle.es6_ast.specs.declared.settings.Stand.TheVariants.{Listed, Under, Labelled}
use Rattle.es6_reading.specs.Parts as t6
use Rattle.es6_ast.specs.Tokens.{Filled}
use Rattle.es6_ast.specs.Grammar.{with_in, without_in, of_module}
use Rattle.es6_reading.specs.Parser.{Input, Parser, is_left, Inner}
use Rattle.es6_reading.specs.Refine.{target_before}
use Rattle.es6_reading.specs.Statements as s6
use Rattle.es6_reading.specs.Modules as m6
use Rattle.es6_reading.proofs.FollowStatements as statements'
use Rattle.es6_reading.proofs.FollowModules as modules'
use Rattle.es6_reading.proofs.RefineMore.{kept-before}
use Rattle.es6_reading.proofs.Locality.{Turns, over, turn, deeper}
use Rattle.es6_reading_laws.proofs.es6_viability.Longer.{Keeps, gave_up, as_is, done, stops, nowhere, take, bind, begins, either, looks, next, group}
use Rattle.es6_reading_laws.proofs.es6_viability.LongerExpressions.{Longer, semicolon_, do_while_end, fitting, initialized, block, named_function, function, class, assignment, sequence}

module _ {l : ℕ} where
  variables : (one one' : Parser Part) (k : (s : Input) → Keeps one one' s) {n m : ℕ} (w : Turns l n m) (s : Input) → Keeps (s6.variables one n) (s6.variables one' m) s
  unfolding s6.variables s6.one_variable
  variables one one' k over s = gave_up
  variables one one' k (turn w) s = bind _ _ (bind _ _ (k s) λ q c. either (s6.is_whole q) _ _ _ _ c done (nowhere c)) λ q c. next _ _ _ _ _ c (λ t d. bind _ _ (variables one one' k w d) λ qs m. done) done

  imports : {n m : ℕ} (w : Turns l n m) (s : Input) → Keeps (m6.imports n) (m6.imports m) s
  unfolding m6.imports
  imports over s = gave_up
  imports (turn w) s = next _ _ _ _ _ s (λ t c. done) (bind _ _ (as_is m6.one_import s) λ x c. next _ _ _ _ _ c (λ t d. bind _ _ (imports w d) λ y k. done) (bind _ _ (take _ c) λ t d. done))

  exports : {n m : ℕ} (w : Turns l n m) (s : Input) → Keeps (m6.exports n) (m6.exports m) s
  unfolding m6.exports
  exports over s = gave_up
  exports (turn w) s = next _ _ _ _ _ s (λ t c. done) (bind _ _ (as_is m6.one_export s) λ x c. next _ _ _ _ _ c (λ t d. bind _ _ (exports w d) λ y k. done) (bind _ _ (take _ c) λ t d. done))

module _ {l : ℕ} (i j : Inner) (h : Longer l i j) where
  variables_statement : (f : Flags) (at : ℕ) (kind : VariableKind) (s : Input) → Keeps (s6.variables_statement i f at kind) (s6.variables_statement j f at kind) s
  unfolding s6.variables_statement
  variables_statement f at kind s = bind _ _ (variables _ _ (λ c. initialized i j h f f c) h.fuel s) λ qs c. bind _ _ (semicolon_ i j h.mode c) λ t d. done

  parenthesized : (f : Flags) (s : Input) → Keeps (s6.parenthesized i f) (s6.parenthesized j f) s
  unfolding s6.parenthesized
  parenthesized f s = group i j h.opens marks.LeftParenthesis _ _ _ _ s (λ c. bind _ _ (h.sequence (with_in f) c) λ x d. bind _ _ (take _ d) λ t k. done) (nowhere s)

  condition : (f : Flags) (s : Input) → Keeps (s6.condition i f) (s6.condition j f) s
  unfolding s6.condition
  condition f s = begins (statements'.condition_from i f) (statements'.condition_from j f) s (λ place. bind _ _ (take _ s) λ t c. bind _ _ (parenthesized f c) λ x d. bind _ _ (h.statement f Under d) λ y k. done)

  otherwise : (f : Flags) {n m : ℕ} (w : Turns l n m) (s : Input) → Keeps (s6.otherwise i f n) (s6.otherwise j f m) s
  unfolding s6.otherwise
  otherwise f over s = gave_up
  otherwise f (turn w) s = next _ _ _ _ _ s (λ t c. looks _ _ _ _ _ c (bind _ _ (condition f c) λ x d. bind _ _ (otherwise f w d) λ r k. done) (bind _ _ (h.statement f Under c) λ x d. done)) done

  if_statement : (f : Flags) (at : ℕ) (s : Input) → Keeps (s6.if_statement i f at) (s6.if_statement j f at) s
  unfolding s6.if_statement
  if_statement f at s = bind _ _ (condition f s) λ x c. bind _ _ (otherwise f h.fuel c) λ r d. done

  do_statement : (f : Flags) (at : ℕ) (s : Input) → Keeps (s6.do_statement i f at) (s6.do_statement j f at) s
  unfolding s6.do_statement
  do_statement f at s = bind _ _ (h.statement f Under s) λ x c. bind _ _ (take _ c) λ t d. bind _ _ (parenthesized f d) λ y k. bind _ _ (do_while_end i j h.mode k) λ u m. done

  while_statement : (f : Flags) (at : ℕ) (s : Input) → Keeps (s6.while_statement i f at) (s6.while_statement j f at) s
  unfolding s6.while_statement
  while_statement f at s = bind _ _ (parenthesized f s) λ x c. bind _ _ (h.statement f Under c) λ y d. done

  optional : (f : Flags) (end : Filled → Option Filled) (s : Input) → Keeps (s6.optional i f end) (s6.optional j f end) s
  unfolding s6.optional
  optional f end s = next _ _ _ _ _ s (λ t c. done) (bind _ _ (h.sequence (with_in f) s) λ x c. bind _ _ (take _ c) λ t d. done)

  rest_of_for : (f : Flags) (first : ForFirst) (s : Input) → Keeps (s6.rest_of_for i f first) (s6.rest_of_for j f first) s
  unfolding s6.rest_of_for
  rest_of_for f first s = bind _ _ (optional f _ s) λ x c. bind _ _ (optional f _ c) λ y d. done

  rest_of_of : (f : Flags) (target : ForTarget) (s : Input) → Keeps (s6.rest_of_of i f target) (s6.rest_of_of j f target) s
  unfolding s6.rest_of_of
  rest_of_of f target s = bind _ _ (h.assignment (with_in f) s) λ x c. bind _ _ (take _ c) λ t d. done

  first_variables : (f : Flags) (at : ℕ) (kind : VariableKind) (qs : List Part) (s : Input) → Keeps (s6.first_variables i f at kind qs) (s6.first_variables j f at kind qs) s
  unfolding s6.first_variables
  first_variables f at kind qs s = bind _ _ (take _ s) λ t c. rest_of_for f _ c

  after_first : (f : Flags) (at : ℕ) (kind : VariableKind) (q : Part) (s : Input) → Keeps (s6.after_first_variable i f at kind q) (s6.after_first_variable j f at kind q) s
  unfolding s6.after_first_variable
  after_first f at kind q s = either (s6.is_whole q) _ _ _ _ s (next _ _ _ _ _ s (λ t c. bind _ _ (variables _ _ (λ d. h.variable (without_in f) d) h.fuel c) λ qs d. first_variables f at kind _ d) (first_variables f at kind _ s)) (nowhere s)

  after_bare : (f : Flags) (at : ℕ) (kind : VariableKind) (q : Part) (s : Input) → Keeps (s6.after_bare_variable i f at kind q) (s6.after_bare_variable j f at kind q) s
  unfolding s6.after_bare_variable
  after_bare f at kind q s = looks _ _ _ _ _ s stops (looks _ _ _ _ _ s (bind _ _ (take _ s) λ t c. rest_of_of f _ c) (after_first f at kind q s))

  for_variables : (f : Flags) (at : ℕ) (kind : VariableKind) (s : Input) → Keeps (s6.for_variables i f at kind) (s6.for_variables j f at kind) s
  unfolding s6.for_variables
  for_variables f at kind s = bind _ _ (h.variable (without_in f) s) λ q c. either (is_some q.default) _ _ _ _ c (after_first f at kind q c) (after_bare f at kind q c)

  first_expression : (f : Flags) (x : Expression) (s : Input) → Keeps (s6.first_expression i f x) (s6.first_expression j f x) s
  unfolding s6.first_expression
  first_expression f x s = bind _ _ (take _ s) λ t c. rest_of_for f _ c

  assigned_in_turn : (f : Flags) (x : Expression) (s : Input) → Keeps (s6.assigned_in_turn i f x) (s6.assigned_in_turn j f x) s
  unfolding s6.assigned_in_turn
  assigned_in_turn f x s = bind _ _ (fitting (deeper (λ n. target_before n assign.Assign x) (λ k more. kept-before k more assign.Assign x) h.fuel) s) λ q c. rest_of_of f _ c

  for_expression : (f : Flags) (s : Input) → Keeps (s6.for_expression i f) (s6.for_expression j f) s
  unfolding s6.for_expression
  for_expression f s = bind _ _ (h.sequence (without_in f) s) λ x c. either (is_left x.shape) _ _ _ _ c (looks _ _ _ _ _ c stops (next _ _ _ _ _ c (λ t d. assigned_in_turn f _ d) (first_expression f _ c))) (first_expression f _ c)

  for_header : (f : Flags) (s : Input) → Keeps (s6.for_header i f) (s6.for_header j f) s
  unfolding s6.for_header
  for_header f s = begins (statements'.header_from i f) (statements'.header_from j f) s (λ place. next _ _ _ _ _ s (λ t c. rest_of_for f _ c) (next _ _ _ _ _ s (λ kind c. for_variables f _ kind c) (for_expression f s)))

  for_statement : (f : Flags) (at : ℕ) (s : Input) → Keeps (s6.for_statement i f at) (s6.for_statement j f at) s
  unfolding s6.for_statement
  for_statement f at s = bind _ _ (group i j h.opens marks.LeftParenthesis _ _ _ _ s (λ c. for_header f c) (nowhere s)) λ x c. bind _ _ (h.statement f Under c) λ y d. done

  continue_statement : (at : ℕ) (s : Input) → Keeps (s6.continue_statement i at) (s6.continue_statement j at) s
  unfolding s6.continue_statement
  continue_statement at s = bind _ _ (as_is s6.optional_label s) λ x c. bind _ _ (semicolon_ i j h.mode c) λ t d. done

  break_statement : (at : ℕ) (s : Input) → Keeps (s6.break_statement i at) (s6.break_statement j at) s
  unfolding s6.break_statement
  break_statement at s = bind _ _ (as_is s6.optional_label s) λ x c. bind _ _ (semicolon_ i j h.mode c) λ t d. done

  returned : (f : Flags) (s : Input) → Keeps (s6.returned i f) (s6.returned j f) s
  unfolding s6.returned
  returned f s = looks _ _ _ _ _ s (bind _ _ (sequence i j h (with_in f) s) λ x c. done) done

  return_statement : (f : Flags) (at : ℕ) (s : Input) → Keeps (s6.return_statement i f at) (s6.return_statement j f at) s
  unfolding s6.return_statement
  return_statement f at s = bind _ _ (returned f s) λ x c. bind _ _ (semicolon_ i j h.mode c) λ t d. done

  throw_statement : (f : Flags) (at : ℕ) (s : Input) → Keeps (s6.throw_statement i f at) (s6.throw_statement j f at) s
  unfolding s6.throw_statement
  throw_statement f at s = looks _ _ _ _ _ s (nowhere s) (bind _ _ (sequence i j h (with_in f) s) λ x c. bind _ _ (semicolon_ i j h.mode c) λ t d. done)

  in_case : (f : Flags) {n m : ℕ} (w : Turns l n m) (s : Input) → Keeps (s6.in_case i f n) (s6.in_case j f m) s
  unfolding s6.in_case
  in_case f over s = gave_up
  in_case f (turn w) s = looks _ _ _ _ _ s done (bind _ _ (h.statement f Listed s) λ x c. bind _ _ (in_case f w c) λ y d. done)

  case_clause : (f : Flags) (at : ℕ) (s : Input) → Keeps (s6.case_clause i f at) (s6.case_clause j f at) s
  unfolding s6.case_clause
  case_clause f at s = bind _ _ (h.sequence (with_in f) s) λ x c. bind _ _ (take _ c) λ t d. bind _ _ (in_case f h.fuel d) λ y k. done

  default_clause : (f : Flags) (at : ℕ) (s : Input) → Keeps (s6.default_clause i f at) (s6.default_clause j f at) s
  unfolding s6.default_clause
  default_clause f at s = bind _ _ (take _ s) λ t c. bind _ _ (in_case f h.fuel c) λ y d. done

  cases : (f : Flags) (may : Bool) {n m : ℕ} (w : Turns l n m) (s : Input) → Keeps (s6.cases i f may n) (s6.cases j f may m) s
  unfolding s6.cases
  cases f may over s = gave_up
  cases f may (turn {n = n} {m = m} w) s = begins (statements'.cases_from i f may (s6.cases i f may n) (s6.cases i f false n)) (statements'.cases_from j f may (s6.cases j f may m) (s6.cases j f false m)) s (λ place. next _ _ _ _ _ s (λ t c. done) (next _ _ _ _ _ s (λ t c. bind _ _ (case_clause f _ c) λ x d. bind _ _ (cases f may w d) λ y k. done) (either may _ _ _ _ s (next _ _ _ _ _ s (λ t c. bind _ _ (default_clause f _ c) λ x d. bind _ _ (cases f false w d) λ y k. done) (nowhere s)) (nowhere s))))

  switch_statement : (f : Flags) (at : ℕ) (s : Input) → Keeps (s6.switch_statement i f at) (s6.switch_statement j f at) s
  unfolding s6.switch_statement
  switch_statement f at s = bind _ _ (parenthesized f s) λ x c. bind _ _ (group i j h.opens marks.LeftBrace _ _ _ _ c (λ d. cases f true h.fuel d) (nowhere c)) λ y d. done

  catch_parameter : (f : Flags) (s : Input) → Keeps (s6.catch_parameter i f) (s6.catch_parameter j f) s
  unfolding s6.catch_parameter
  catch_parameter f s = bind _ _ (h.target (with_in f) s) λ x c. bind _ _ (take _ c) λ t d. done

  handler : (f : Flags) (s : Input) → Keeps (s6.handler i f) (s6.handler j f) s
  unfolding s6.handler
  handler f s = begins (statements'.handler_from i f) (statements'.handler_from j f) s (λ place. bind _ _ (take _ s) λ t c. bind _ _ (group i j h.opens marks.LeftParenthesis _ _ _ _ c (λ d. catch_parameter f d) (nowhere c)) λ x d. bind _ _ (block i j h f d) λ b k. done)

  after_handler : (f : Flags) (at : ℕ) (b : Block) (x : Catch) (s : Input) → Keeps (s6.after_handler i f at b x) (s6.after_handler j f at b x) s
  unfolding s6.after_handler
  after_handler f at b x s = next _ _ _ _ _ s (λ t c. bind _ _ (block i j h f c) λ y d. done) done

  only_finally : (f : Flags) (at : ℕ) (b : Block) (s : Input) → Keeps (s6.only_finally i f at b) (s6.only_finally j f at b) s
  unfolding s6.only_finally
  only_finally f at b s = bind _ _ (take _ s) λ t c. bind _ _ (block i j h f c) λ y d. done

  try_statement : (f : Flags) (at : ℕ) (s : Input) → Keeps (s6.try_statement i f at) (s6.try_statement j f at) s
  unfolding s6.try_statement
  try_statement f at s = bind _ _ (block i j h f s) λ b c. looks _ _ _ _ _ c (bind _ _ (handler f c) λ x d. after_handler f at b x d) (only_finally f at b c)

  debugger_statement : (at : ℕ) (s : Input) → Keeps (s6.debugger_statement i at) (s6.debugger_statement j at) s
  unfolding s6.debugger_statement
  debugger_statement at s = bind _ _ (semicolon_ i j h.mode s) λ t c. done

  expression_end : (at : ℕ) (x : Expression) (s : Input) → Keeps (s6.expression_end i at x) (s6.expression_end j at x) s
  unfolding s6.expression_end
  expression_end at x s = bind _ _ (semicolon_ i j h.mode s) λ t c. done

  labelled : (f : Flags) (at : ℕ) (n : Identifier) (s : Input) → Keeps (s6.labelled i f at n) (s6.labelled j f at n) s
  unfolding s6.labelled
  labelled f at n s = bind _ _ (h.statement f Labelled s) λ x c. done

  label_or_end : (f : Flags) (at : ℕ) (n : Option Identifier) (x : Expression) (s : Input) → Keeps (s6.label_or_end i f at n x) (s6.label_or_end j f at n x) s
  label_or_end f at (Some n) x s = next _ _ _ _ _ s (λ t c. labelled f at n c) (expression_end at x s)
  label_or_end f at None x s = expression_end at x s

  expression_statement : (f : Flags) (at : ℕ) (s : Input) → Keeps (s6.expression_statement i f at) (s6.expression_statement j f at) s
  unfolding s6.expression_statement
  expression_statement f at s = bind _ _ (sequence i j h f s) λ x c. label_or_end f at _ _ c

  function_declaration : (at : ℕ) (s : Input) → Keeps (s6.function_declaration i at) (s6.function_declaration j at) s
  unfolding s6.function_declaration
  function_declaration at s = bind _ _ (function i j h false at s) λ g c. done

  class_declaration : (f : Flags) (at : ℕ) (s : Input) → Keeps (s6.class_declaration i f at) (s6.class_declaration j f at) s
  unfolding s6.class_declaration
  class_declaration f at s = bind _ _ (class i j h f false at s) λ x c. done

  on_declaration : (f : Flags) (at : ℕ) (q q' : Parser Statement) (s : Input) → Keeps q q' s → Keeps (s6.on_declaration i f at q) (s6.on_declaration j f at q') s
  on_declaration f at q q' s k = next _ _ _ _ _ s (λ t c. function_declaration at c) (next _ _ _ _ _ s (λ t c. class_declaration f at c) (next _ _ _ _ _ s (λ kind c. variables_statement f at kind c) k))

  labelled_function : (at : ℕ) (s : Input) → Keeps (s6.labelled_function i at) (s6.labelled_function j at) s
  unfolding s6.labelled_function
  labelled_function at s = bind _ _ (named_function i j h at false s) λ g c. done

  on_more : (f : Flags) (stand : Stand) (at : ℕ) (q q' : Parser Statement) (s : Input) → Keeps q q' s → Keeps (s6.on_more i f stand at q) (s6.on_more j f stand at q') s
  on_more f Listed at q q' s k = on_declaration f at q q' s k
  on_more f Under at q q' s k = k
  on_more f Labelled at q q' s k = next _ _ _ _ _ s (λ t c. labelled_function at c) k

  plain_statement : (f : Flags) (at : ℕ) (s : Input) → Keeps (s6.plain_statement i f at) (s6.plain_statement j f at) s
  unfolding s6.plain_statement
  plain_statement f at s = looks _ _ _ _ _ s stops (looks _ _ _ _ _ s stops (expression_statement f at s))

  jump_statement : (f : Flags) (stand : Stand) (at : ℕ) (s : Input) → Keeps (s6.jump_statement i f stand at) (s6.jump_statement j f stand at) s
  unfolding s6.jump_statement
  jump_statement f stand at s = next _ _ _ _ _ s (λ t c. continue_statement at c) (next _ _ _ _ _ s (λ t c. break_statement at c) (next _ _ _ _ _ s (λ t c. throw_statement f at c) (next _ _ _ _ _ s (λ t c. debugger_statement at c) (either f.has_return _ _ _ _ s (next _ _ _ _ _ s (λ t c. return_statement f at c) (on_more f stand at _ _ s (plain_statement f at s))) (on_more f stand at _ _ s (plain_statement f at s))))))

  compound_statement : (f : Flags) (stand : Stand) (at : ℕ) (s : Input) → Keeps (s6.compound_statement i f stand at) (s6.compound_statement j f stand at) s
  unfolding s6.compound_statement
  compound_statement f stand at s = next _ _ _ _ _ s (λ t c. do_statement f at c) (next _ _ _ _ _ s (λ t c. while_statement f at c) (next _ _ _ _ _ s (λ t c. for_statement f at c) (next _ _ _ _ _ s (λ t c. switch_statement f at c) (next _ _ _ _ _ s (λ t c. try_statement f at c) (jump_statement f stand at s)))))

  block_statement : (f : Flags) (s : Input) → Keeps (s6.block_statement i f) (s6.block_statement j f) s
  unfolding s6.block_statement
  block_statement f s = bind _ _ (block i j h f s) λ b c. done

  pub statement : (f : Flags) (stand : Stand) (s : Input) → Keeps (s6.statement i f stand) (s6.statement j f stand) s
  unfolding s6.statement
  statement f stand s = begins (modules'.statement_from i f stand) (modules'.statement_from j f stand) s (λ place. looks _ _ _ _ _ s (block_statement f s) (looks _ _ _ _ _ s (if_statement f _ s) (next _ _ _ _ _ s (λ t c. done) (next _ _ _ _ _ s (λ t c. variables_statement f _ Var c) (compound_statement f stand _ s)))))

  from_clause : (s : Input) → Keeps (m6.from_clause i) (m6.from_clause j) s
  unfolding m6.from_clause
  from_clause s = bind _ _ (take _ s) λ t c. bind _ _ (as_is m6.specifier c) λ x d. bind _ _ (semicolon_ i j h.mode d) λ u k. done

  imported_names : (s : Input) → Keeps (m6.imported_names i) (m6.imported_names j) s
  unfolding m6.imported_names
  imported_names s = next _ _ _ _ _ s (λ t c. as_is m6.namespace c) (group i j h.opens marks.LeftBrace _ _ _ _ s (λ c. bind _ _ (imports h.fuel c) λ x d. done) (nowhere s))

  rest_of_import : (at : ℕ) (n : Option Identifier) (names : ImportedNames) (s : Input) → Keeps (m6.rest_of_import i at n names) (m6.rest_of_import j at n names) s
  unfolding m6.rest_of_import
  rest_of_import at n names s = bind _ _ (from_clause s) λ x c. done

  default_import : (at : ℕ) (s : Input) → Keeps (m6.default_import i at) (m6.default_import j at) s
  unfolding m6.default_import
  default_import at s = bind _ _ (as_is t6.identifier s) λ n c. next _ _ _ _ _ c (λ t d. bind _ _ (imported_names d) λ x k. rest_of_import at _ x k) (rest_of_import at _ _ c)

  import_alone : (at : ℕ) (s : Input) → Keeps (m6.import_alone i at) (m6.import_alone j at) s
  unfolding m6.import_alone
  import_alone at s = bind _ _ (as_is m6.specifier s) λ x c. bind _ _ (semicolon_ i j h.mode c) λ t d. done

  import_item : (at : ℕ) (s : Input) → Keeps (m6.import_item i at) (m6.import_item j at) s
  unfolding m6.import_item
  import_item at s = looks _ _ _ _ _ s (import_alone at s) (looks _ _ _ _ _ s (bind _ _ (imported_names s) λ x c. rest_of_import at _ x c) (default_import at s))

  own_names : (at : ℕ) (ns : List ExportName) (s : Input) → Keeps (m6.own_names i at ns) (m6.own_names j at ns) s
  unfolding m6.own_names
  own_names at ns s = either (m6.are_own ns) _ _ _ _ s (bind _ _ (semicolon_ i j h.mode s) λ t c. done) (nowhere s)

  export_names : (at : ℕ) (s : Input) → Keeps (m6.export_names i at) (m6.export_names j at) s
  unfolding m6.export_names
  export_names at s = bind _ _ (group i j h.opens marks.LeftBrace _ _ _ _ s (λ c. exports h.fuel c) (nowhere s)) λ ns c. looks _ _ _ _ _ c (bind _ _ (from_clause c) λ x d. done) (own_names at ns c)

  export_all : (at : ℕ) (s : Input) → Keeps (m6.export_all i at) (m6.export_all j at) s
  unfolding m6.export_all
  export_all at s = bind _ _ (from_clause s) λ x c. done

  default_value : (at : ℕ) (span : Span) (s : Input) → Keeps (m6.default_value i at span) (m6.default_value j at span) s
  unfolding m6.default_value
  default_value at span s = bind _ _ (assignment i j h of_module s) λ x c. bind _ _ (semicolon_ i j h.mode c) λ t d. done

  export_default : (at : ℕ) (span : Span) (s : Input) → Keeps (m6.export_default i at span) (m6.export_default j at span) s
  unfolding m6.export_default
  export_default at span s = begins (modules'.default_from i at span) (modules'.default_from j at span) s (λ place. next _ _ _ _ _ s (λ t c. bind _ _ (function i j h true _ c) λ g d. done) (next _ _ _ _ _ s (λ t c. bind _ _ (class i j h of_module true _ c) λ x d. done) (default_value at span s)))

  exported_declaration : (s : Input) → Keeps (m6.exported_declaration i) (m6.exported_declaration j) s
  unfolding m6.exported_declaration
  exported_declaration s = begins (modules'.declaration_from i) (modules'.declaration_from j) s (λ place. next _ _ _ _ _ s (λ t c. variables_statement of_module _ Var c) (on_declaration of_module _ _ _ s (nowhere s)))

  export_declaration : (at : ℕ) (s : Input) → Keeps (m6.export_declaration i at) (m6.export_declaration j at) s
  unfolding m6.export_declaration
  export_declaration at s = bind _ _ (exported_declaration s) λ x c. done

  export_item : (at : ℕ) (s : Input) → Keeps (m6.export_item i at) (m6.export_item j at) s
  unfolding m6.export_item
  export_item at s = next _ _ _ _ _ s (λ t c. export_all at c) (next _ _ _ _ _ s (λ t c. export_default at _ c) (looks _ _ _ _ _ s (export_names at s) (export_declaration at s)))

  statement_item : (s : Input) → Keeps (m6.statement_item i) (m6.statement_item j) s
  unfolding m6.statement_item
  statement_item s = bind _ _ (statement of_module Listed s) λ x c. done

  pub one_item : (s : Input) → Keeps (m6.one_item i) (m6.one_item j) s
  unfolding m6.one_item
  one_item s = begins (modules'.item_from i) (modules'.item_from j) s (λ place. next _ _ _ _ _ s (λ t c. import_item _ c) (next _ _ _ _ _ s (λ t c. export_item _ c) (statement_item s)))

  items : {n m : ℕ} (w : Turns l n m) (s : Input) → Keeps (m6.items i n) (m6.items j m) s
  unfolding m6.items
  items over s = gave_up
  items (turn w) s = looks _ _ _ _ _ s done (bind _ _ (one_item s) λ x c. bind _ _ (items w c) λ y d. done)

  pub whole_module : (s : Input) → Keeps (m6.whole_module i) (m6.whole_module j) s
  unfolding m6.whole_module
  whole_module s = bind _ _ (items h.fuel s) λ xs c. bind _ _ (take _ c) λ t d. looks _ _ _ _ _ d (nowhere d) done
