-- Statements, imports, exports and modules take the same of two rows that fork at an inserted semicolon, so that no two modules do.
use Rattle.std.proofs.Common.{◌≡◌, ℕ, zero, suc, ◌+◌, ◌≤◌, arith, Bool, true, false, List, [], ◌∷◌, ◌++◌, Option, Some, None, refl, subst, ◌∙◌}
use Rattle.std.specs.Prelude.{codes, is_some}
use Rattle.es_text.specs.declared.Span.{Span}
use Rattle.es6_lexer.specs.declared.token.Punctuator.TheVariants as marks
use Rattle.es6_ast.specs.declared.operators.VariableKind.{VariableKind}
use Rattle.es6_ast.specs.declared.operators.VariableKind.TheVariants.{Var}
use Rattle.es6_ast.specs.declared.tree.Block.{Block}
use Rattle.es6_ast.specs.declared.tree.Catch.{Catch}
use Rattle.es6_ast.specs.declared.tree.Expression.{Expression}
use Rattle.es6_ast.specs.declared.tree.ForFirst.{ForFirst}
use Rattle.es6_ast.specs.declared.tree.ForTarget.{ForTarget}
use Rattle.es6_ast.specs.declared.tree.Identifier.{Identifier}
use Rattle.es6_ast.specs.declared.tree.Part.{Part}
use Rattle.es6_ast.specs.declared.tree.Statement.{Statement}
use Rattle.es6_ast.specs.declared.module.ExportName.{ExportName}
use Rattle.es6_ast.specs.declared.module.ImportedNames.{ImportedNames}
use Rattle.es6_ast.specs.declared.module.Module.{Module}
use Rattle.es6_ast.specs.declared.settings.Flags.{Flags}
use Rattle.es6_ast.specs.declared.settings.Role.TheVariants.{Among, Heritage, Callee}
use Rattle.es6_ast.specs.declared.settings.Stand.{Stand}
use Rattle.es6_ast.specs.declared.settings.Stand.TheVariants.{Listed, Under, Labelled}
use Rattle.es6_ast.specs.declared.settings.Stop.TheVariants.{Depth, Outside}
use Rattle.es6_ast.specs.Tokens.{Filled, is_identifier}
use Rattle.es6_ast.specs.Grammar.{with_in, without_in, of_module}
use Rattle.es6_reading.specs.Parser.{Input, Outcome, Took, Parser, fails, choose, next_is, if_next, next_word, no_number, no_expression, is_left, Inner}
use Rattle.es6_reading.specs.Words.{begins_operand}
use Rattle.es6_reading.specs.Statements as s6
use Rattle.es6_reading.specs.Modules as m6
use Rattle.es6_reading.specs.Expressions as e
use Rattle.es6_reading.proofs.FollowStatements as statements'
use Rattle.es6_reading.proofs.FollowModules as modules'
use Rattle.es6_reading.proofs.Follows.{semi}
use Rattle.es6_reading.proofs.Forks.{Forks, here, later, other, Agree, took_both, one_stops, other_stops, Twin, done, stopped, bind, nowhere, either, Misses, next, take, looks, group, begins, Paired, identifier, any_name, semicolon_, do_while_end, fitting, initialized, block, binding, one_part, object_part, named_function, function, class, member, assignment, sequence, unary, power, chain, property}
use Rattle.es6_ast.specs.Modules.{IsModule}
use Rattle.es6_reading.specs.Laws.{IsComplete}
use Rattle.es6_reading.proofs.Posts.{Holds, of_took}
use Rattle.es6_reading.proofs.Insertion.{whole-ends}

variables : (one : Parser Part) (k : (s : Input) → Twin one s) (n : ℕ) (s : Input) → Twin (s6.variables one n) s
unfolding s6.variables s6.one_variable
variables one k zero s = stopped _
variables one k (suc n) s = bind _ (bind _ (k s) λ q c. either (s6.is_whole q) _ _ c done (nowhere c)) λ q c. next _ _ _ (λ d at. refl) c (λ t d. bind _ (variables one k n d) λ qs m. done) done

label : (s : Input) → Twin (s6.optional_label) s
unfolding s6.optional_label
label s = begins statements'.label_from s (λ place. next _ _ _ (λ d at. refl) s (λ name c. done) done)

specifier : (s : Input) → Twin (m6.specifier) s
unfolding m6.specifier
specifier s = begins modules'.specifier_from s (λ place. bind _ (take _ (λ d at. refl) s) λ x c. done)

one_import : (s : Input) → Twin (m6.one_import) s
unfolding m6.one_import
one_import s = begins modules'.import_from s (λ place. bind _ (any_name s) λ n c. next _ _ _ (λ d at. refl) c (λ t d. bind _ (identifier d) λ m k. done) (either (is_identifier n.name) _ _ c done (nowhere c)))

imports : (n : ℕ) (s : Input) → Twin (m6.imports n) s
unfolding m6.imports
imports zero s = stopped _
imports (suc n) s = next _ _ _ (λ d at. refl) s (λ t c. done) (bind _ (one_import s) λ x c. next _ _ _ (λ d at. refl) c (λ t d. bind _ (imports n d) λ y k. done) (bind _ (take _ (λ d at. refl) c) λ t d. done))

namespace : (s : Input) → Twin (m6.namespace) s
unfolding m6.namespace
namespace s = bind _ (take _ (λ d at. refl) s) λ t c. bind _ (identifier c) λ n d. done

one_export : (s : Input) → Twin (m6.one_export) s
unfolding m6.one_export
one_export s = begins modules'.export_from s (λ place. bind _ (any_name s) λ n c. next _ _ _ (λ d at. refl) c (λ t d. bind _ (any_name d) λ m k. done) done)

exports : (n : ℕ) (s : Input) → Twin (m6.exports n) s
unfolding m6.exports
exports zero s = stopped _
exports (suc n) s = next _ _ _ (λ d at. refl) s (λ t c. done) (bind _ (one_export s) λ x c. next _ _ _ (λ d at. refl) c (λ t d. bind _ (exports n d) λ y k. done) (bind _ (take _ (λ d at. refl) c) λ t d. done))

-- where no construct may open any more, each reader stops
expression_stops : (begins : Filled → Bool) (s : Input) → Twin (e.expression_at_limit begins) s
unfolding e.expression_at_limit no_expression
expression_stops begins s s' = by (next_is begins s.tokens)
  where
    by : (b : Bool) → Agree (choose b (fails Depth) no_expression s) (e.expression_at_limit begins (other s s'))
    by true = one_stops
    by false = one_stops

operand_stops : (s : Input) → Twin e.operand_at_limit s
unfolding e.operand_at_limit no_number
operand_stops s s' = by (next_is begins_operand s.tokens)
  where
    by : (b : Bool) → Agree (choose b (fails Depth) no_number s) (e.operand_at_limit (other s s'))
    by true = one_stops
    by false = one_stops

statement_stops : (f : Flags) (stand : Stand) (s : Input) → Twin (s6.statement_at_limit f stand) s
unfolding s6.statement_at_limit no_expression
statement_stops f stand s s' = by (next_is (s6.begins_statement f stand) s.tokens)
  where
    outside : (b : Bool) → Agree (choose b (fails (Outside 5)) no_expression s) (s6.statement_at_limit f stand (other s s'))
    outside true = one_stops
    outside false = one_stops

    by : (b : Bool) → Agree (choose b (fails Depth) (if_next (next_word (codes "with")) (fails (Outside 5)) no_expression) s) (s6.statement_at_limit f stand (other s s'))
    by true = one_stops
    by false = outside (next_is (next_word (codes "with")) s.tokens)

module _ (i : Inner) (h : Paired i) where
  variables_statement : (f : Flags) (at : ℕ) (kind : VariableKind) (s : Input) → Twin (s6.variables_statement i f at kind) s
  unfolding s6.variables_statement
  variables_statement f at kind s = bind _ (variables _ (λ c. initialized i h f f c) i.fuel s) λ qs c. bind _ (semicolon_ i h.plain c) λ t d. done

  parenthesized : (f : Flags) (s : Input) → Twin (s6.parenthesized i f) s
  unfolding s6.parenthesized
  parenthesized f s = group i marks.LeftParenthesis _ _ s (λ c. bind _ (h.sequence (with_in f) c) λ x d. bind _ (take _ (λ d at. refl) d) λ t k. done) (nowhere s)

  condition : (f : Flags) (s : Input) → Twin (s6.condition i f) s
  unfolding s6.condition
  condition f s = begins (statements'.condition_from i f) s (λ place. bind _ (take _ (λ d at. refl) s) λ t c. bind _ (parenthesized f c) λ x d. bind _ (h.statement f Under d) λ y k. done)

  otherwise : (f : Flags) (n : ℕ) (s : Input) → Twin (s6.otherwise i f n) s
  unfolding s6.otherwise
  otherwise f zero s = stopped _
  otherwise f (suc n) s = next _ _ _ (λ d at. refl) s (λ t c. looks _ _ _ (λ at. refl) c (bind _ (condition f c) λ x d. bind _ (otherwise f n d) λ r k. done) (bind _ (h.statement f Under c) λ x d. done)) done

  if_statement : (f : Flags) (at : ℕ) (s : Input) → Twin (s6.if_statement i f at) s
  unfolding s6.if_statement
  if_statement f at s = bind _ (condition f s) λ x c. bind _ (otherwise f i.fuel c) λ r d. done

  do_statement : (f : Flags) (at : ℕ) (s : Input) → Twin (s6.do_statement i f at) s
  unfolding s6.do_statement
  do_statement f at s = bind _ (h.statement f Under s) λ x c. bind _ (take _ (λ d at. refl) c) λ t d. bind _ (parenthesized f d) λ y k. bind _ (do_while_end i h.plain k) λ u m. done

  while_statement : (f : Flags) (at : ℕ) (s : Input) → Twin (s6.while_statement i f at) s
  unfolding s6.while_statement
  while_statement f at s = bind _ (parenthesized f s) λ x c. bind _ (h.statement f Under c) λ y d. done

  optional : (f : Flags) (end : Filled → Option Filled) → Misses end → (s : Input) → Twin (s6.optional i f end) s
  unfolding s6.optional
  optional f end m s = next _ _ _ m s (λ t c. done) (bind _ (h.sequence (with_in f) s) λ x c. bind _ (take _ m c) λ t d. done)

  rest_of_for : (f : Flags) (first : ForFirst) (s : Input) → Twin (s6.rest_of_for i f first) s
  unfolding s6.rest_of_for
  rest_of_for f first s = bind _ (optional f _ (λ d at. refl) s) λ x c. bind _ (optional f _ (λ d at. refl) c) λ y d. done

  rest_of_of : (f : Flags) (target : ForTarget) (s : Input) → Twin (s6.rest_of_of i f target) s
  unfolding s6.rest_of_of
  rest_of_of f target s = bind _ (h.assignment (with_in f) s) λ x c. bind _ (take _ (λ d at. refl) c) λ t d. done

  first_variables : (f : Flags) (at : ℕ) (kind : VariableKind) (qs : List Part) (s : Input) → Twin (s6.first_variables i f at kind qs) s
  unfolding s6.first_variables
  first_variables f at kind qs s = bind _ (take _ (λ d at. refl) s) λ t c. rest_of_for f _ c

  after_first : (f : Flags) (at : ℕ) (kind : VariableKind) (q : Part) (s : Input) → Twin (s6.after_first_variable i f at kind q) s
  unfolding s6.after_first_variable
  after_first f at kind q s = either (s6.is_whole q) _ _ s (next _ _ _ (λ d at. refl) s (λ t c. bind _ (variables _ (λ d. h.variable (without_in f) d) i.fuel c) λ qs d. first_variables f at kind _ d) (first_variables f at kind _ s)) (nowhere s)

  after_bare : (f : Flags) (at : ℕ) (kind : VariableKind) (q : Part) (s : Input) → Twin (s6.after_bare_variable i f at kind q) s
  unfolding s6.after_bare_variable
  after_bare f at kind q s = looks _ _ _ (λ at. refl) s (stopped _) (looks _ _ _ (λ at. refl) s (bind _ (take _ (λ d at. refl) s) λ t c. rest_of_of f _ c) (after_first f at kind q s))

  for_variables : (f : Flags) (at : ℕ) (kind : VariableKind) (s : Input) → Twin (s6.for_variables i f at kind) s
  unfolding s6.for_variables
  for_variables f at kind s = bind _ (h.variable (without_in f) s) λ q c. either (is_some q.default) _ _ c (after_first f at kind q c) (after_bare f at kind q c)

  first_expression : (f : Flags) (x : Expression) (s : Input) → Twin (s6.first_expression i f x) s
  unfolding s6.first_expression
  first_expression f x s = bind _ (take _ (λ d at. refl) s) λ t c. rest_of_for f _ c

  assigned_in_turn : (f : Flags) (x : Expression) (s : Input) → Twin (s6.assigned_in_turn i f x) s
  unfolding s6.assigned_in_turn
  assigned_in_turn f x s = bind _ (fitting _ s) λ q c. rest_of_of f _ c

  for_expression : (f : Flags) (s : Input) → Twin (s6.for_expression i f) s
  unfolding s6.for_expression
  for_expression f s = bind _ (h.sequence (without_in f) s) λ x c. either (is_left x.shape) _ _ c (looks _ _ _ (λ at. refl) c (stopped _) (next _ _ _ (λ d at. refl) c (λ t d. assigned_in_turn f _ d) (first_expression f _ c))) (first_expression f _ c)

  for_header : (f : Flags) (s : Input) → Twin (s6.for_header i f) s
  unfolding s6.for_header
  for_header f s = begins (statements'.header_from i f) s (λ place. next _ _ _ (λ d at. refl) s (λ t c. rest_of_for f _ c) (next _ _ _ (λ d at. refl) s (λ kind c. for_variables f _ kind c) (for_expression f s)))

  for_statement : (f : Flags) (at : ℕ) (s : Input) → Twin (s6.for_statement i f at) s
  unfolding s6.for_statement
  for_statement f at s = bind _ (group i marks.LeftParenthesis _ _ s (λ c. for_header f c) (nowhere s)) λ x c. bind _ (h.statement f Under c) λ y d. done

  continue_statement : (at : ℕ) (s : Input) → Twin (s6.continue_statement i at) s
  unfolding s6.continue_statement
  continue_statement at s = bind _ (label s) λ x c. bind _ (semicolon_ i h.plain c) λ t d. done

  break_statement : (at : ℕ) (s : Input) → Twin (s6.break_statement i at) s
  unfolding s6.break_statement
  break_statement at s = bind _ (label s) λ x c. bind _ (semicolon_ i h.plain c) λ t d. done

  returned : (f : Flags) (s : Input) → Twin (s6.returned i f) s
  unfolding s6.returned
  returned f s = looks _ _ _ (λ at. refl) s (bind _ (sequence i h (with_in f) s) λ x c. done) done

  return_statement : (f : Flags) (at : ℕ) (s : Input) → Twin (s6.return_statement i f at) s
  unfolding s6.return_statement
  return_statement f at s = bind _ (returned f s) λ x c. bind _ (semicolon_ i h.plain c) λ t d. done

  throw_statement : (f : Flags) (at : ℕ) (s : Input) → Twin (s6.throw_statement i f at) s
  unfolding s6.throw_statement
  throw_statement f at s = looks _ _ _ (λ at. refl) s (nowhere s) (bind _ (sequence i h (with_in f) s) λ x c. bind _ (semicolon_ i h.plain c) λ t d. done)

  in_case : (f : Flags) (n : ℕ) (s : Input) → Twin (s6.in_case i f n) s
  unfolding s6.in_case
  in_case f zero s = stopped _
  in_case f (suc n) s = looks _ _ _ (λ at. refl) s done (bind _ (h.statement f Listed s) λ x c. bind _ (in_case f n c) λ y d. done)

  case_clause : (f : Flags) (at : ℕ) (s : Input) → Twin (s6.case_clause i f at) s
  unfolding s6.case_clause
  case_clause f at s = bind _ (h.sequence (with_in f) s) λ x c. bind _ (take _ (λ d at. refl) c) λ t d. bind _ (in_case f i.fuel d) λ y k. done

  default_clause : (f : Flags) (at : ℕ) (s : Input) → Twin (s6.default_clause i f at) s
  unfolding s6.default_clause
  default_clause f at s = bind _ (take _ (λ d at. refl) s) λ t c. bind _ (in_case f i.fuel c) λ y d. done

  cases : (f : Flags) (may : Bool) (n : ℕ) (s : Input) → Twin (s6.cases i f may n) s
  unfolding s6.cases
  cases f may zero s = stopped _
  cases f may (suc n) s = begins (statements'.cases_from i f may (s6.cases i f may n) (s6.cases i f false n)) s (λ place. next _ _ _ (λ d at. refl) s (λ t c. done) (next _ _ _ (λ d at. refl) s (λ t c. bind _ (case_clause f _ c) λ x d. bind _ (cases f may n d) λ y k. done) (either may _ _ s (next _ _ _ (λ d at. refl) s (λ t c. bind _ (default_clause f _ c) λ x d. bind _ (cases f false n d) λ y k. done) (nowhere s)) (nowhere s))))

  switch_statement : (f : Flags) (at : ℕ) (s : Input) → Twin (s6.switch_statement i f at) s
  unfolding s6.switch_statement
  switch_statement f at s = bind _ (parenthesized f s) λ x c. bind _ (group i marks.LeftBrace _ _ c (λ d. cases f true i.fuel d) (nowhere c)) λ y d. done

  catch_parameter : (f : Flags) (s : Input) → Twin (s6.catch_parameter i f) s
  unfolding s6.catch_parameter
  catch_parameter f s = bind _ (h.target (with_in f) s) λ x c. bind _ (take _ (λ d at. refl) c) λ t d. done

  handler : (f : Flags) (s : Input) → Twin (s6.handler i f) s
  unfolding s6.handler
  handler f s = begins (statements'.handler_from i f) s (λ place. bind _ (take _ (λ d at. refl) s) λ t c. bind _ (group i marks.LeftParenthesis _ _ c (λ d. catch_parameter f d) (nowhere c)) λ x d. bind _ (block i h f d) λ b k. done)

  after_handler : (f : Flags) (at : ℕ) (b : Block) (x : Catch) (s : Input) → Twin (s6.after_handler i f at b x) s
  unfolding s6.after_handler
  after_handler f at b x s = next _ _ _ (λ d at. refl) s (λ t c. bind _ (block i h f c) λ y d. done) done

  only_finally : (f : Flags) (at : ℕ) (b : Block) (s : Input) → Twin (s6.only_finally i f at b) s
  unfolding s6.only_finally
  only_finally f at b s = bind _ (take _ (λ d at. refl) s) λ t c. bind _ (block i h f c) λ y d. done

  try_statement : (f : Flags) (at : ℕ) (s : Input) → Twin (s6.try_statement i f at) s
  unfolding s6.try_statement
  try_statement f at s = bind _ (block i h f s) λ b c. looks _ _ _ (λ at. refl) c (bind _ (handler f c) λ x d. after_handler f at b x d) (only_finally f at b c)

  debugger_statement : (at : ℕ) (s : Input) → Twin (s6.debugger_statement i at) s
  unfolding s6.debugger_statement
  debugger_statement at s = bind _ (semicolon_ i h.plain s) λ t c. done

  expression_end : (at : ℕ) (x : Expression) (s : Input) → Twin (s6.expression_end i at x) s
  unfolding s6.expression_end
  expression_end at x s = bind _ (semicolon_ i h.plain s) λ t c. done

  labelled : (f : Flags) (at : ℕ) (n : Identifier) (s : Input) → Twin (s6.labelled i f at n) s
  unfolding s6.labelled
  labelled f at n s = bind _ (h.statement f Labelled s) λ x c. done

  label_or_end : (f : Flags) (at : ℕ) (n : Option Identifier) (x : Expression) (s : Input) → Twin (s6.label_or_end i f at n x) s
  label_or_end f at (Some n) x s = next _ _ _ (λ d at. refl) s (λ t c. labelled f at n c) (expression_end at x s)
  label_or_end f at None x s = expression_end at x s

  expression_statement : (f : Flags) (at : ℕ) (s : Input) → Twin (s6.expression_statement i f at) s
  unfolding s6.expression_statement
  expression_statement f at s = bind _ (sequence i h f s) λ x c. label_or_end f at _ _ c

  function_declaration : (at : ℕ) (s : Input) → Twin (s6.function_declaration i at) s
  unfolding s6.function_declaration
  function_declaration at s = bind _ (function i h false at s) λ g c. done

  class_declaration : (f : Flags) (at : ℕ) (s : Input) → Twin (s6.class_declaration i f at) s
  unfolding s6.class_declaration
  class_declaration f at s = bind _ (class i h f false at s) λ x c. done

  on_declaration : (f : Flags) (at : ℕ) (q : Parser Statement) (s : Input) → Twin q s → Twin (s6.on_declaration i f at q) s
  on_declaration f at q s k = next _ _ _ (λ d at. refl) s (λ t c. function_declaration at c) (next _ _ _ (λ d at. refl) s (λ t c. class_declaration f at c) (next _ _ _ (λ d at. refl) s (λ kind c. variables_statement f at kind c) k))

  labelled_function : (at : ℕ) (s : Input) → Twin (s6.labelled_function i at) s
  unfolding s6.labelled_function
  labelled_function at s = bind _ (named_function i h at false s) λ g c. done

  on_more : (f : Flags) (stand : Stand) (at : ℕ) (q : Parser Statement) (s : Input) → Twin q s → Twin (s6.on_more i f stand at q) s
  on_more f Listed at q s k = on_declaration f at q s k
  on_more f Under at q s k = k
  on_more f Labelled at q s k = next _ _ _ (λ d at. refl) s (λ t c. labelled_function at c) k

  plain_statement : (f : Flags) (at : ℕ) (s : Input) → Twin (s6.plain_statement i f at) s
  unfolding s6.plain_statement
  plain_statement f at s = looks _ _ _ (λ at. refl) s (stopped _) (looks _ _ _ (λ at. refl) s (stopped _) (expression_statement f at s))

  jump_statement : (f : Flags) (stand : Stand) (at : ℕ) (s : Input) → Twin (s6.jump_statement i f stand at) s
  unfolding s6.jump_statement
  jump_statement f stand at s = next _ _ _ (λ d at. refl) s (λ t c. continue_statement at c) (next _ _ _ (λ d at. refl) s (λ t c. break_statement at c) (next _ _ _ (λ d at. refl) s (λ t c. throw_statement f at c) (next _ _ _ (λ d at. refl) s (λ t c. debugger_statement at c) (either f.has_return _ _ s (next _ _ _ (λ d at. refl) s (λ t c. return_statement f at c) (on_more f stand at _ s (plain_statement f at s))) (on_more f stand at _ s (plain_statement f at s))))))

  compound_statement : (f : Flags) (stand : Stand) (at : ℕ) (s : Input) → Twin (s6.compound_statement i f stand at) s
  unfolding s6.compound_statement
  compound_statement f stand at s = next _ _ _ (λ d at. refl) s (λ t c. do_statement f at c) (next _ _ _ (λ d at. refl) s (λ t c. while_statement f at c) (next _ _ _ (λ d at. refl) s (λ t c. for_statement f at c) (next _ _ _ (λ d at. refl) s (λ t c. switch_statement f at c) (next _ _ _ (λ d at. refl) s (λ t c. try_statement f at c) (jump_statement f stand at s)))))

  block_statement : (f : Flags) (s : Input) → Twin (s6.block_statement i f) s
  unfolding s6.block_statement
  block_statement f s = bind _ (block i h f s) λ b c. done

  statement : (f : Flags) (stand : Stand) (s : Input) → Twin (s6.statement i f stand) s
  unfolding s6.statement
  statement f stand s = begins (modules'.statement_from i f stand) s (λ place. looks _ _ _ (λ at. refl) s (block_statement f s) (looks _ _ _ (λ at. refl) s (if_statement f _ s) (next _ _ _ (λ d at. refl) s (λ t c. done) (next _ _ _ (λ d at. refl) s (λ t c. variables_statement f _ Var c) (compound_statement f stand _ s)))))

  from_clause : (s : Input) → Twin (m6.from_clause i) s
  unfolding m6.from_clause
  from_clause s = bind _ (take _ (λ d at. refl) s) λ t c. bind _ (specifier c) λ x d. bind _ (semicolon_ i h.plain d) λ u k. done

  imported_names : (s : Input) → Twin (m6.imported_names i) s
  unfolding m6.imported_names
  imported_names s = next _ _ _ (λ d at. refl) s (λ t c. namespace c) (group i marks.LeftBrace _ _ s (λ c. bind _ (imports i.fuel c) λ x d. done) (nowhere s))

  rest_of_import : (at : ℕ) (n : Option Identifier) (names : ImportedNames) (s : Input) → Twin (m6.rest_of_import i at n names) s
  unfolding m6.rest_of_import
  rest_of_import at n names s = bind _ (from_clause s) λ x c. done

  default_import : (at : ℕ) (s : Input) → Twin (m6.default_import i at) s
  unfolding m6.default_import
  default_import at s = bind _ (identifier s) λ n c. next _ _ _ (λ d at. refl) c (λ t d. bind _ (imported_names d) λ x k. rest_of_import at _ x k) (rest_of_import at _ _ c)

  import_alone : (at : ℕ) (s : Input) → Twin (m6.import_alone i at) s
  unfolding m6.import_alone
  import_alone at s = bind _ (specifier s) λ x c. bind _ (semicolon_ i h.plain c) λ t d. done

  import_item : (at : ℕ) (s : Input) → Twin (m6.import_item i at) s
  unfolding m6.import_item
  import_item at s = looks _ _ _ (λ at. refl) s (import_alone at s) (looks _ _ _ (λ at. refl) s (bind _ (imported_names s) λ x c. rest_of_import at _ x c) (default_import at s))

  own_names : (at : ℕ) (ns : List ExportName) (s : Input) → Twin (m6.own_names i at ns) s
  unfolding m6.own_names
  own_names at ns s = either (m6.are_own ns) _ _ s (bind _ (semicolon_ i h.plain s) λ t c. done) (nowhere s)

  export_names : (at : ℕ) (s : Input) → Twin (m6.export_names i at) s
  unfolding m6.export_names
  export_names at s = bind _ (group i marks.LeftBrace _ _ s (λ c. exports i.fuel c) (nowhere s)) λ ns c. looks _ _ _ (λ at. refl) c (bind _ (from_clause c) λ x d. done) (own_names at ns c)

  export_all : (at : ℕ) (s : Input) → Twin (m6.export_all i at) s
  unfolding m6.export_all
  export_all at s = bind _ (from_clause s) λ x c. done

  default_value : (at : ℕ) (span : Span) (s : Input) → Twin (m6.default_value i at span) s
  unfolding m6.default_value
  default_value at span s = bind _ (assignment i h of_module s) λ x c. bind _ (semicolon_ i h.plain c) λ t d. done

  export_default : (at : ℕ) (span : Span) (s : Input) → Twin (m6.export_default i at span) s
  unfolding m6.export_default
  export_default at span s = begins (modules'.default_from i at span) s (λ place. next _ _ _ (λ d at. refl) s (λ t c. bind _ (function i h true _ c) λ g d. done) (next _ _ _ (λ d at. refl) s (λ t c. bind _ (class i h of_module true _ c) λ x d. done) (default_value at span s)))

  exported_declaration : (s : Input) → Twin (m6.exported_declaration i) s
  unfolding m6.exported_declaration
  exported_declaration s = begins (modules'.declaration_from i) s (λ place. next _ _ _ (λ d at. refl) s (λ t c. variables_statement of_module _ Var c) (on_declaration of_module _ _ s (nowhere s)))

  export_declaration : (at : ℕ) (s : Input) → Twin (m6.export_declaration i at) s
  unfolding m6.export_declaration
  export_declaration at s = bind _ (exported_declaration s) λ x c. done

  export_item : (at : ℕ) (s : Input) → Twin (m6.export_item i at) s
  unfolding m6.export_item
  export_item at s = next _ _ _ (λ d at. refl) s (λ t c. export_all at c) (next _ _ _ (λ d at. refl) s (λ t c. export_default at _ c) (looks _ _ _ (λ at. refl) s (export_names at s) (export_declaration at s)))

  statement_item : (s : Input) → Twin (m6.statement_item i) s
  unfolding m6.statement_item
  statement_item s = bind _ (statement of_module Listed s) λ x c. done

  one_item : (s : Input) → Twin (m6.one_item i) s
  unfolding m6.one_item
  one_item s = begins (modules'.item_from i) s (λ place. next _ _ _ (λ d at. refl) s (λ t c. import_item _ c) (next _ _ _ (λ d at. refl) s (λ t c. export_item _ c) (statement_item s)))

  items : (n : ℕ) (s : Input) → Twin (m6.items i n) s
  unfolding m6.items
  items zero s = stopped _
  items (suc n) s = looks _ _ _ (λ at. refl) s done (bind _ (one_item s) λ x c. bind _ (items n c) λ y d. done)

  whole_module : (s : Input) → Twin (m6.whole_module i) s
  unfolding m6.whole_module
  whole_module s = bind _ (items i.fuel s) λ xs c. bind _ (take _ (λ d at. refl) c) λ t d. looks _ _ _ (λ at. refl) d (nowhere d) done

paired : (fuel room : ℕ) → Paired (m6.readers false fuel room)
unfolding m6.readers
paired fuel zero = record {
  plain = refl;
  sequence = λ f s. expression_stops _ s;
  assignment = λ f s. expression_stops _ s;
  power = λ f s. expression_stops _ s;
  unary = λ f s. expression_stops _ s;
  callee = λ f s. operand_stops s;
  heritage = λ f s. operand_stops s;
  block = λ f s. stopped _;
  property = λ f s. stopped _;
  target = λ f s. stopped _;
  part = λ f s. stopped _;
  object_part = λ f s. stopped _;
  variable = λ f s. stopped _;
  member = λ f s. stopped _;
  statement = λ f stand s. statement_stops f stand s;
}
paired fuel (suc room) =
    let i : Inner = m6.readers false fuel room in
    let deeper : Paired i = paired fuel room in
    record {
      plain = refl;
      sequence = λ f s. sequence i deeper f s;
      assignment = λ f s. assignment i deeper f s;
      power = λ f s. power i deeper f Among s;
      unary = λ f s. unary i deeper f s;
      callee = λ f s. chain i deeper f Callee s;
      heritage = λ f s. chain i deeper f Heritage s;
      block = λ f s. block i deeper f s;
      property = λ f s. property i deeper f s;
      target = λ f s. binding i deeper f s;
      part = λ f s. one_part i deeper f s;
      object_part = λ f s. object_part i deeper f s;
      variable = λ f s. initialized i deeper f f s;
      member = λ f s. member i deeper f s;
      statement = λ f stand s. statement i deeper f stand s;
    }

-- ## No two modules fork so

never-empty : {ts us : List Filled} → Forks ts us → ts ≡ [] → ⊥
never-empty here e = absurd (cc)
never-empty (later w) e = absurd (cc)

not-both : {m n : Module} {c d : Input} {o o' : Outcome Module} → Agree o o' → o ≡ Took m c → o' ≡ Took n d → c.tokens ≡ [] → ⊥
not-both (took_both {s = s} s') h k e = never-empty s'.forks (input-of h ∙ e)
  where
    input-of : {x m : Module} {s c : Input} → Took x s ≡ Took m c → s.tokens ≡ c.tokens
    input-of h = cc
not-both one_stops h k e = absurd (cc)
not-both other_stops h k e = absurd (cc)

forks-after : (before : List Filled) (at : ℕ) (ts us : List Filled) → Forks (before ++ semi true at ∷ ts) (before ++ semi false at ∷ us)
forks-after [] at ts us = here
forks-after (t ∷ before) at ts us = later (forks-after before at ts us)

nothing-left : (fuel room : ℕ) (row : List Filled) (m : Module) (after : Input) → m6.whole_module (m6.readers false fuel room) (record { tokens = row; last = 0 }) ≡ Took m after → after.tokens ≡ []
nothing-left fuel room row m after e = of_took {Q = λ m c. c.tokens ≡ []} {x = m} (subst (λ o. Holds (λ m c. c.tokens ≡ []) o) e (whole-ends (m6.readers false fuel room) (record { tokens = row; last = 0 })))

pub no-fork : IsComplete → (before : List Filled) (at : ℕ) (ts us : List Filled) (m n : Module) → IsModule (before ++ semi true at ∷ ts) m → IsModule (before ++ semi false at ∷ us) n → ⊥
no-fork complete before at ts us m n d e =
    let row = before ++ semi true at ∷ ts in
    let c = complete row m d in
    let b = complete (before ++ semi false at ∷ us) n e in
    let k = c.0 + b.0 in
    let x = c.1 k k 0 (less c.0 b.0) (less c.0 b.0) in
    let y = b.1 k k 0 (more c.0 b.0) (more c.0 b.0) in
    not-both (whole_module (m6.readers false k k) (paired k k) (record { tokens = row; last = 0 }) (record { row = before ++ semi false at ∷ us; forks = forks-after before at ts us })) x.1 y.1 (nothing-left k k row m x.0 x.1)
  where
    less : (k l : ℕ) → k ≤ k + l
    less k l = omega arith

    more : (k l : ℕ) → l ≤ k + l
    more k l = omega arith
