-- Readers of statements, imports, exports and whole modules take across a semicolon that is left out at a break what they take with it.
use Rattle.std.proofs.Common.{◌≡◌, ◌∙◌, ℕ, zero, suc, Bool, true, false, List, Option, Some, None, refl, sym}
use Rattle.std.specs.Prelude.{codes, is_some}
use Rattle.es_text.specs.declared.Span.{Span}
use Rattle.es6_lexer.specs.declared.token.Punctuator.TheVariants as marks
use Rattle.es6_ast.specs.declared.operators.VariableKind.{VariableKind}
use Rattle.es6_ast.specs.declared.operators.VariableKind.TheVariants.{Var}
use Rattle.es6_ast.specs.declared.tree.Block.{Block}
use Rattle.es6_ast.specs.declared.tree.Case.{Case}
use Rattle.es6_ast.specs.declared.tree.Catch.{Catch}
use Rattle.es6_ast.specs.declared.tree.Expression.{Expression}
use Rattle.es6_ast.specs.declared.tree.ForFirst.{ForFirst}
use Rattle.es6_ast.specs.declared.tree.ForTarget.{ForTarget}
use Rattle.es6_ast.specs.declared.tree.Identifier.{Identifier}
use Rattle.es6_ast.specs.declared.tree.Part.{Part}
use Rattle.es6_ast.specs.declared.tree.Statement.{Statement}
use Rattle.es6_ast.specs.declared.module.ExportName.{ExportName}
use Rattle.es6_ast.specs.declared.module.ImportedNames.{ImportedNames}
use Rattle.es6_ast.specs.declared.settings.Flags.{Flags}
use Rattle.es6_ast.specs.declared.settings.Role.TheVariants.{Among, Heritage, Callee}
use Rattle.es6_ast.specs.declared.settings.Stand.{Stand}
use Rattle.es6_ast.specs.declared.settings.Stand.TheVariants.{Listed, Under, Labelled}
use Rattle.es6_ast.specs.Tokens.{Filled, is_identifier}
use Rattle.es6_ast.specs.Grammar.{with_in, without_in, of_module}
use Rattle.es6_reading.specs.Parser.{Input, Parser, choose, on, word, refused, is_left, Inner}
use Rattle.es6_reading.specs.Parts as t6
use Rattle.es6_reading.specs.Statements as s6
use Rattle.es6_reading.specs.Modules as m6
use Rattle.es6_reading.specs.Expressions as e
use Rattle.es6_reading.proofs.FollowChoices as choices'
use Rattle.es6_reading.proofs.FollowStatements as statements'
use Rattle.es6_reading.proofs.FollowModules as modules'
use Rattle.es6_reading.proofs.Follows.{semi, Never}
use Rattle.es6_reading.proofs.Posts.{fault, choose-holds, if-holds, refused-holds, no-expression-holds, no-number-holds}
use Rattle.es6_reading_laws.specs.Breaks.{another, label as names, source, renamed}
use Rattle.es6_reading_laws.proofs.Quiet.{no-word, mark-misses, word-misses, label-misses, value-misses}
use Rattle.es6_reading_laws.proofs.Across.{Gap, Across, AcrossOr, Stops, Idle, rests, stands, idle-bind, done, stopped, never-agrees, bind, bind-idle, bind-ends, or-lost, looks-idle, nowhere, either, may, must, take, looks-may, looks-must, begins, begins-free, group-must, semicolon_, do_while_end, Crosses}
use Rattle.es6_reading_laws.proofs.AcrossExpressions.{identifier, any_name, fitting, block, initialized, one_part, object_part, binding, member, property, chain, unary, power, assignment, sequence, function, named_function, class, chain-stops, assignment-stops, sequence-stops, part-stops, object-part-stops, member-stops, property-stops, block-stops}

-- ## Parts of statements

module _ {g : Gap} where
  variables : (one : Parser Part) (k : (s : Input) → Across g one s) (n : ℕ) (s : Input) → Across g (s6.variables one n) s
  unfolding s6.variables s6.one_variable
  variables one k zero s = stopped _
  variables one k (suc n) s = bind _ (bind _ (k s) λ q c. either (s6.is_whole q) _ _ c done (nowhere c)) λ q c. may _ _ _ (λ d at. refl) (mark-misses g.next g.quiet marks.Comma another) c (λ t d. bind _ (variables one k n d) λ qs m. done) done

  optional-label : (s : Input) → Across g (s6.optional_label) s
  unfolding s6.optional_label
  optional-label s = begins-free statements'.label_from (λ place place' d at us last. refl) s (λ place. may _ _ _ (λ d at. refl) (label-misses g.next g.quiet) s (λ name c. done) done)

  specifier : (s : Input) → Across g (m6.specifier) s
  unfolding m6.specifier refused
  specifier s = begins modules'.specifier_from (λ d at us last. fault) s (λ place. bind _ (take _ (λ d at. refl) s) λ x c. done)

  one_import : (s : Input) → Across g (m6.one_import) s
  unfolding m6.one_import t6.name_of_any_kind refused
  one_import s = begins modules'.import_from (λ d at us last. fault) s (λ place. bind _ (any_name s) λ n c. may _ _ _ (λ d at. refl) (word-misses g.next g.quiet (codes "as") renamed) c (λ t d. bind _ (identifier d) λ m k. done) (either (is_identifier n.name) _ _ c done (nowhere c)))

  imports : (n : ℕ) (s : Input) → Across g (m6.imports n) s
  unfolding m6.imports m6.one_import t6.name_of_any_kind refused
  imports zero s = stopped _
  imports (suc n) s = must _ _ _ (λ d at. refl) (λ d at us last. fault) s (λ t c. done) (bind _ (one_import s) λ x c. must _ _ _ (λ d at. refl) (λ d at us last. fault) c (λ t d. bind _ (imports n d) λ y k. done) (bind _ (take _ (λ d at. refl) c) λ t d. done))

  namespace : (s : Input) → Across g (m6.namespace) s
  unfolding m6.namespace
  namespace s = bind _ (take _ (λ d at. refl) s) λ t c. bind _ (identifier c) λ n d. done

  one_export : (s : Input) → Across g (m6.one_export) s
  unfolding m6.one_export t6.name_of_any_kind refused
  one_export s = begins modules'.export_from (λ d at us last. fault) s (λ place. bind _ (any_name s) λ n c. may _ _ _ (λ d at. refl) (word-misses g.next g.quiet (codes "as") renamed) c (λ t d. bind _ (any_name d) λ m k. done) done)

  exports : (n : ℕ) (s : Input) → Across g (m6.exports n) s
  unfolding m6.exports m6.one_export t6.name_of_any_kind refused
  exports zero s = stopped _
  exports (suc n) s = must _ _ _ (λ d at. refl) (λ d at us last. fault) s (λ t c. done) (bind _ (one_export s) λ x c. must _ _ _ (λ d at. refl) (λ d at us last. fault) c (λ t d. bind _ (exports n d) λ y k. done) (bind _ (take _ (λ d at. refl) c) λ t d. done))

goes-on-semi : (d : Bool) (at : ℕ) → s6.goes_on (semi d at) ≡ false
goes-on-semi true at = refl
goes-on-semi false at = refl

-- ## What begins with no inserted semicolon

module _ (i : Inner) where
  statement-stops : (f : Flags) (stand : Stand) → Stops (s6.statement i f stand)
  statement-stops f stand d at us last = modules'.statement-stops (λ l. i) f stand zero d at us last

  first-variables-stops : (f : Flags) (place : ℕ) (kind : VariableKind) (q : Part) → Stops (s6.after_first_variable i f place kind q)
  unfolding s6.after_first_variable s6.first_variables refused
  first-variables-stops f place kind q d at us last = choose-holds _ _ (s6.is_whole q) _ (λ k. fault) (λ k. fault)

  plain-stops : (f : Flags) (place : ℕ) → Stops (s6.plain_statement i f place)
  unfolding s6.plain_statement s6.expression_statement
  plain-stops f place d at us last = choices'.stopped _ (sequence-stops i f d at us last)

  on-more-stops : (f : Flags) (stand : Stand) (place : ℕ) → Stops (s6.on_more i f stand place (s6.plain_statement i f place))
  on-more-stops f Listed place d at us last = plain-stops f place d at us last
  on-more-stops f Under place d at us last = plain-stops f place d at us last
  on-more-stops f Labelled place d at us last = plain-stops f place d at us last

  after-jumps-stops : (f : Flags) (stand : Stand) (place : ℕ) → Stops (choose f.has_return (on (word (codes "return")) (λ _. s6.return_statement i f place) (s6.on_more i f stand place (s6.plain_statement i f place))) (s6.on_more i f stand place (s6.plain_statement i f place)))
  after-jumps-stops f stand place d at us last = choose-holds _ _ f.has_return _ (λ k. on-more-stops f stand place d at us last) (λ k. on-more-stops f stand place d at us last)

  jump-stops : (f : Flags) (stand : Stand) (place : ℕ) → Stops (s6.jump_statement i f stand place)
  unfolding s6.jump_statement
  jump-stops f stand place d at us last = after-jumps-stops f stand place d at us last

  compound-stops : (f : Flags) (stand : Stand) (place : ℕ) → Stops (s6.compound_statement i f stand place)
  unfolding s6.compound_statement
  compound-stops f stand place d at us last = jump-stops f stand place d at us last

  default-value-stops : (place : ℕ) (span : Span) → Stops (m6.default_value i place span)
  unfolding m6.default_value
  default-value-stops place span d at us last = choices'.stopped _ (assignment-stops i of_module d at us last)

  statement-item-stops : Stops (m6.statement_item i)
  unfolding m6.statement_item
  statement-item-stops d at us last = choices'.stopped _ (statement-stops of_module Listed d at us last)

  one-item-stops : Stops (m6.one_item i)
  unfolding m6.one_item
  one-item-stops d at us last = statement-item-stops d at us last

  items-stops : (n : ℕ) → Stops (m6.items i n)
  unfolding m6.items
  items-stops zero d at us last = fault
  items-stops (suc n) d at us last = choices'.stopped _ (one-item-stops d at us last)

  cases-stops : (f : Flags) (may : Bool) (n : ℕ) → Stops (s6.cases i f may n)
  unfolding s6.cases
  cases-stops f may zero d at us last = fault
  cases-stops f may (suc n) d at us last = choose-holds _ _ may _ (λ k. refused-holds _) (λ k. refused-holds _)

-- where no construct may open any more
expression-limit : (begins : Filled → Bool) (s : Input) → Never (e.expression_at_limit begins s)
unfolding e.expression_at_limit
expression-limit begins s = if-holds _ _ _ s (λ k. fault) (λ k. no-expression-holds s)

operand-limit : (s : Input) → Never (e.operand_at_limit s)
unfolding e.operand_at_limit
operand-limit s = if-holds _ _ _ s (λ k. fault) (λ k. no-number-holds s)

statement-limit : (f : Flags) (stand : Stand) (s : Input) → Never (s6.statement_at_limit f stand s)
unfolding s6.statement_at_limit
statement-limit f stand s = if-holds _ _ _ s (λ k. fault) (λ k. if-holds _ _ _ s (λ l. fault) (λ l. no-expression-holds s))

module _ {g : Gap} (i : Inner) (h : Crosses g i) where
  variables_statement : (f : Flags) (at : ℕ) (kind : VariableKind) (s : Input) → AcrossOr g (s6.variables_statement i f at kind) s
  unfolding s6.variables_statement
  variables_statement f at kind s = bind _ (variables _ (λ c. initialized i h f f c) i.fuel s) λ qs c. bind _ (semicolon_ i h.inserting c) λ t d. done

  parenthesized : (f : Flags) (s : Input) → Across g (s6.parenthesized i f) s
  unfolding s6.parenthesized
  parenthesized f s = group-must i marks.LeftParenthesis _ _ (λ d at us last. refused-holds _) s (λ c. bind _ (h.sequence (with_in f) c) λ x d. bind _ (take _ (λ d at. refl) d) λ t k. done) (nowhere s)

  -- ## If and loops

  condition : (f : Flags) (s : Input) → AcrossOr g (s6.condition i f) s
  unfolding s6.condition refused
  condition f s = begins (statements'.condition_from i f) (λ d at us last. fault) s (λ place. bind _ (take _ (λ d at. refl) s) λ t c. bind _ (parenthesized f c) λ x d. bind-idle _ (λ y. (λ d at us last. rests)) (h.statement f Under d) λ y k. done)

  otherwise-idle : (f : Flags) (n : ℕ) → Idle (s6.otherwise i f n)
  unfolding s6.otherwise
  otherwise-idle f zero d at us last = stands
  otherwise-idle f (suc n) d at us last = rests

  otherwise : (f : Flags) (n : ℕ) (s : Input) → AcrossOr g (s6.otherwise i f n) s
  unfolding s6.otherwise
  otherwise f zero s = stopped _
  otherwise f (suc n) s = or-lost _ _ _ (λ d at. refl) (λ d at us last. rests) s
      (λ t c. looks-must _ _ _ (λ d at us last. choices'.stopped _ (h.statement_stops f Under d at us last)) c
      (bind-idle _ (λ x d at us last. idle-bind _ (otherwise-idle f n d at us last) (λ r. (λ d at us last. rests))) (condition f c) λ x d. bind-idle _ (λ r. (λ d at us last. rests)) (otherwise f n d) λ r k. done)
      (bind-idle _ (λ x. (λ d at us last. rests)) (h.statement f Under c) λ x d. done))
      done

  if_statement : (f : Flags) (at : ℕ) (s : Input) → AcrossOr g (s6.if_statement i f at) s
  unfolding s6.if_statement
  if_statement f at s = bind-idle _ (λ x d place us last. idle-bind _ (otherwise-idle f i.fuel d place us last) (λ r. (λ d at us last. rests))) (condition f s) λ x c. bind-idle _ (λ r. (λ d at us last. rests)) (otherwise f i.fuel c) λ r d. done

  do_statement : (f : Flags) (at : ℕ) (s : Input) → AcrossOr g (s6.do_statement i f at) s
  unfolding s6.do_statement refused
  do_statement f at s = bind-ends _ (λ x. (λ d at us last. fault)) (h.statement f Under s) λ x c. bind _ (take _ (λ d at. refl) c) λ t d. bind _ (parenthesized f d) λ y k. bind _ (do_while_end i h.inserting k) λ u m. done

  while_statement : (f : Flags) (at : ℕ) (s : Input) → AcrossOr g (s6.while_statement i f at) s
  unfolding s6.while_statement
  while_statement f at s = bind _ (parenthesized f s) λ x c. bind-idle _ (λ y. (λ d at us last. rests)) (h.statement f Under c) λ y d. done

  optional : (f : Flags) (end : Filled → Option Filled) → ((d : Bool) (at : ℕ) → end (semi d at) ≡ None) → (s : Input) → Across g (s6.optional i f end) s
  unfolding s6.optional
  optional f end m s = must _ _ _ m (λ d at us last. choices'.stopped _ (h.sequence_stops (with_in f) d at us last)) s (λ t c. done) (bind _ (h.sequence (with_in f) s) λ x c. bind _ (take _ m c) λ t d. done)

  rest_of_for : (f : Flags) (first : ForFirst) (s : Input) → Across g (s6.rest_of_for i f first) s
  unfolding s6.rest_of_for
  rest_of_for f first s = bind _ (optional f _ (λ d at. refl) s) λ x c. bind _ (optional f _ (λ d at. refl) c) λ y d. done

  rest_of_of : (f : Flags) (target : ForTarget) (s : Input) → Across g (s6.rest_of_of i f target) s
  unfolding s6.rest_of_of
  rest_of_of f target s = bind _ (h.assignment (with_in f) s) λ x c. bind _ (take _ (λ d at. refl) c) λ t d. done

  first_variables : (f : Flags) (at : ℕ) (kind : VariableKind) (qs : List Part) (s : Input) → Across g (s6.first_variables i f at kind qs) s
  unfolding s6.first_variables
  first_variables f at kind qs s = bind _ (take _ (λ d at. refl) s) λ t c. rest_of_for f _ c

  after_first : (f : Flags) (at : ℕ) (kind : VariableKind) (q : Part) (s : Input) → Across g (s6.after_first_variable i f at kind q) s
  unfolding s6.after_first_variable s6.first_variables refused
  after_first f at kind q s = either (s6.is_whole q) _ _ s (must _ _ _ (λ d at. refl) (λ d at us last. fault) s (λ t c. bind _ (variables _ (λ d. h.variable (without_in f) d) i.fuel c) λ qs d. first_variables f at kind _ d) (first_variables f at kind _ s)) (nowhere s)

  after_bare : (f : Flags) (at : ℕ) (kind : VariableKind) (q : Part) (s : Input) → Across g (s6.after_bare_variable i f at kind q) s
  unfolding s6.after_bare_variable
  after_bare f at kind q s = looks-must _ _ _ (first-variables-stops i f at kind q) s (stopped _) (looks-must _ _ _ (first-variables-stops i f at kind q) s (bind _ (take _ (λ d at. refl) s) λ t c. rest_of_of f _ c) (after_first f at kind q s))

  for_variables : (f : Flags) (at : ℕ) (kind : VariableKind) (s : Input) → Across g (s6.for_variables i f at kind) s
  unfolding s6.for_variables
  for_variables f at kind s = bind _ (h.variable (without_in f) s) λ q c. either (is_some q.default) _ _ c (after_first f at kind q c) (after_bare f at kind q c)

  first_expression : (f : Flags) (x : Expression) (s : Input) → Across g (s6.first_expression i f x) s
  unfolding s6.first_expression
  first_expression f x s = bind _ (take _ (λ d at. refl) s) λ t c. rest_of_for f _ c

  assigned_in_turn : (f : Flags) (x : Expression) (s : Input) → Across g (s6.assigned_in_turn i f x) s
  unfolding s6.assigned_in_turn
  assigned_in_turn f x s = bind _ (fitting _ s) λ q c. rest_of_of f _ c

  for_expression : (f : Flags) (s : Input) → Across g (s6.for_expression i f) s
  unfolding s6.for_expression s6.first_expression refused
  for_expression f s = bind _ (h.sequence (without_in f) s) λ x c. either (is_left x.shape) _ _ c (looks-must _ _ _ (λ d at us last. fault) c (stopped _) (must _ _ _ (λ d at. refl) (λ d at us last. fault) c (λ t d. assigned_in_turn f _ d) (first_expression f _ c))) (first_expression f _ c)

  for-expression-stops : (f : Flags) → Stops (s6.for_expression i f)
  unfolding s6.for_expression
  for-expression-stops f d at us last = choices'.stopped _ (h.sequence_stops (without_in f) d at us last)

  for_header : (f : Flags) (s : Input) → Across g (s6.for_header i f) s
  unfolding s6.for_header
  for_header f s = begins (statements'.header_from i f) (for-expression-stops f) s (λ place. must _ _ _ (λ d at. refl) (for-expression-stops f) s (λ t c. rest_of_for f _ c) (must _ _ _ (λ d at. refl) (for-expression-stops f) s (λ kind c. for_variables f _ kind c) (for_expression f s)))

  for_statement : (f : Flags) (at : ℕ) (s : Input) → AcrossOr g (s6.for_statement i f at) s
  unfolding s6.for_statement
  for_statement f at s = bind _ (group-must i marks.LeftParenthesis _ _ (λ d at us last. refused-holds _) s (λ c. for_header f c) (nowhere s)) λ x c. bind-idle _ (λ y. (λ d at us last. rests)) (h.statement f Under c) λ y d. done

  -- ## Jumps

  continue_statement : (at : ℕ) (s : Input) → AcrossOr g (s6.continue_statement i at) s
  unfolding s6.continue_statement
  continue_statement at s = bind _ (optional-label s) λ x c. bind _ (semicolon_ i h.inserting c) λ t d. done

  break_statement : (at : ℕ) (s : Input) → AcrossOr g (s6.break_statement i at) s
  unfolding s6.break_statement
  break_statement at s = bind _ (optional-label s) λ x c. bind _ (semicolon_ i h.inserting c) λ t d. done

  value-semi : (d : Bool) (at : ℕ) → s6.goes_on (semi d at) ≡ s6.goes_on g.next
  value-semi d at = goes-on-semi d at ∙ sym (value-misses g.next g.quiet)

  returned : (f : Flags) (s : Input) → Across g (s6.returned i f) s
  unfolding s6.returned
  returned f s = looks-may _ _ _ value-semi s (bind _ (sequence i h (with_in f) s) λ x c. done) done

  return_statement : (f : Flags) (at : ℕ) (s : Input) → AcrossOr g (s6.return_statement i f at) s
  unfolding s6.return_statement
  return_statement f at s = bind _ (returned f s) λ x c. bind _ (semicolon_ i h.inserting c) λ t d. done

  throw_statement : (f : Flags) (at : ℕ) (s : Input) → AcrossOr g (s6.throw_statement i f at) s
  unfolding s6.throw_statement
  throw_statement f at s = looks-must _ _ _ (λ d place us last. choices'.stopped _ (sequence-stops i (with_in f) d place us last)) s (nowhere s) (bind _ (sequence i h (with_in f) s) λ x c. bind _ (semicolon_ i h.inserting c) λ t d. done)

  -- ## Switch

  in-case-idle : (f : Flags) (n : ℕ) → Idle (s6.in_case i f n)
  unfolding s6.in_case
  in-case-idle f zero d at us last = stands
  in-case-idle f (suc n) d at us last = rests

  in_case : (f : Flags) (n : ℕ) (s : Input) → AcrossOr g (s6.in_case i f n) s
  unfolding s6.in_case
  in_case f zero s = stopped _
  in_case f (suc n) s = looks-idle _ _ _ (λ d at us last. rests) s done
      (bind-idle _ (λ x d at us last. idle-bind _ (in-case-idle f n d at us last) (λ y. (λ d at us last. rests))) (h.statement f Listed s) λ x c. bind-idle _ (λ y. (λ d at us last. rests)) (in_case f n c) λ y d. done)

  case_clause : (f : Flags) (at : ℕ) (s : Input) → AcrossOr g (s6.case_clause i f at) s
  unfolding s6.case_clause
  case_clause f at s = bind _ (h.sequence (with_in f) s) λ x c. bind _ (take _ (λ d at. refl) c) λ t d. bind-idle _ (λ y. (λ d at us last. rests)) (in_case f i.fuel d) λ y k. done

  default_clause : (f : Flags) (at : ℕ) (s : Input) → AcrossOr g (s6.default_clause i f at) s
  unfolding s6.default_clause
  default_clause f at s = bind _ (take _ (λ d at. refl) s) λ t c. bind-idle _ (λ y. (λ d at us last. rests)) (in_case f i.fuel c) λ y d. done

  default-stops : (b : Bool) (p : Filled → Parser (List Case)) → Stops (choose b (on (word (codes "default")) p refused) refused)
  default-stops true p d at us last = refused-holds _
  default-stops false p d at us last = refused-holds _

  cases : (f : Flags) (b : Bool) (n : ℕ) (s : Input) → Across g (s6.cases i f b n) s
  unfolding s6.cases
  cases f b zero s = stopped _
  cases f b (suc n) s = begins (statements'.cases_from i f b (s6.cases i f b n) (s6.cases i f false n)) (λ d at us last. default-stops b _ d at us last) s
      (λ place. must _ _ _ (λ d at. refl) (λ d at us last. default-stops b _ d at us last) s (λ t c. done)
      (must _ _ _ (λ d at. refl) (λ d at us last. default-stops b _ d at us last) s (λ t c. bind-ends _ (λ x d at us last. choices'.stopped _ (cases-stops i f b n d at us last)) (case_clause f _ c) λ x d. bind _ (cases f b n d) λ y k. done)
      (either b _ _ s (must _ _ _ (λ d at. refl) (λ d at us last. refused-holds _) s (λ t c. bind-ends _ (λ x d at us last. choices'.stopped _ (cases-stops i f false n d at us last)) (default_clause f _ c) λ x d. bind _ (cases f false n d) λ y k. done) (nowhere s)) (nowhere s))))

  switch_statement : (f : Flags) (at : ℕ) (s : Input) → AcrossOr g (s6.switch_statement i f at) s
  unfolding s6.switch_statement
  switch_statement f at s = bind _ (parenthesized f s) λ x c. bind _ (group-must i marks.LeftBrace _ _ (λ d at us last. refused-holds _) c (λ d. cases f true i.fuel d) (nowhere c)) λ y d. done

  -- ## Try

  catch_parameter : (f : Flags) (s : Input) → Across g (s6.catch_parameter i f) s
  unfolding s6.catch_parameter
  catch_parameter f s = bind _ (h.target (with_in f) s) λ x c. bind _ (take _ (λ d at. refl) c) λ t d. done

  handler : (f : Flags) (s : Input) → Across g (s6.handler i f) s
  unfolding s6.handler refused
  handler f s = begins (statements'.handler_from i f) (λ d at us last. fault) s (λ place. bind _ (take _ (λ d at. refl) s) λ t c. bind _ (group-must i marks.LeftParenthesis _ _ (λ d at us last. fault) c (λ d. catch_parameter f d) (nowhere c)) λ x d. bind _ (block i h f d) λ b k. done)

  after_handler : (f : Flags) (at : ℕ) (b : Block) (x : Catch) (s : Input) → AcrossOr g (s6.after_handler i f at b x) s
  unfolding s6.after_handler
  after_handler f at b x s = or-lost _ _ _ (λ d at. refl) (λ d at us last. rests) s (λ t c. bind _ (block i h f c) λ y d. done) done

  only_finally : (f : Flags) (at : ℕ) (b : Block) (s : Input) → AcrossOr g (s6.only_finally i f at b) s
  unfolding s6.only_finally
  only_finally f at b s = bind _ (take _ (λ d at. refl) s) λ t c. bind _ (block i h f c) λ y d. done

  try_statement : (f : Flags) (at : ℕ) (s : Input) → AcrossOr g (s6.try_statement i f at) s
  unfolding s6.try_statement s6.only_finally refused
  try_statement f at s = bind _ (block i h f s) λ b c. looks-must _ _ _ (λ d at us last. fault) c (bind _ (handler f c) λ x d. after_handler f at b x d) (only_finally f at b c)

  debugger_statement : (at : ℕ) (s : Input) → AcrossOr g (s6.debugger_statement i at) s
  unfolding s6.debugger_statement
  debugger_statement at s = bind _ (semicolon_ i h.inserting s) λ t c. done

  -- ## Expressions, labels and declarations

  expression_end : (at : ℕ) (x : Expression) (s : Input) → AcrossOr g (s6.expression_end i at x) s
  unfolding s6.expression_end
  expression_end at x s = bind _ (semicolon_ i h.inserting s) λ t c. done

  labelled : (f : Flags) (at : ℕ) (n : Identifier) (s : Input) → AcrossOr g (s6.labelled i f at n) s
  unfolding s6.labelled
  labelled f at n s = bind-idle _ (λ x. (λ d at us last. rests)) (h.statement f Labelled s) λ x c. done

  label_or_end : (f : Flags) (at : ℕ) (n : Option Identifier) (x : Expression) (s : Input) → AcrossOr g (s6.label_or_end i f at n x) s
  label_or_end f at (Some n) x s = may _ _ _ (λ d at. refl) (mark-misses g.next g.quiet marks.Colon names) s (λ t c. labelled f at n c) (expression_end at x s)
  label_or_end f at None x s = expression_end at x s

  expression_statement : (f : Flags) (at : ℕ) (s : Input) → AcrossOr g (s6.expression_statement i f at) s
  unfolding s6.expression_statement
  expression_statement f at s = bind _ (sequence i h f s) λ x c. label_or_end f at _ _ c

  function_declaration : (at : ℕ) (s : Input) → AcrossOr g (s6.function_declaration i at) s
  unfolding s6.function_declaration
  function_declaration at s = bind _ (function i h false at s) λ k c. done

  class_declaration : (f : Flags) (at : ℕ) (s : Input) → AcrossOr g (s6.class_declaration i f at) s
  unfolding s6.class_declaration
  class_declaration f at s = bind _ (class i h f false at s) λ x c. done

  on_declaration : (f : Flags) (at : ℕ) (q : Parser Statement) → Stops q → (s : Input) → AcrossOr g q s → AcrossOr g (s6.on_declaration i f at q) s
  on_declaration f at q n s k = must _ _ _ (λ d at. refl) n s (λ t c. function_declaration at c) (must _ _ _ (λ d at. refl) n s (λ t c. class_declaration f at c) (must _ _ _ (λ d at. refl) n s (λ kind c. variables_statement f at kind c) k))

  labelled_function : (at : ℕ) (s : Input) → AcrossOr g (s6.labelled_function i at) s
  unfolding s6.labelled_function
  labelled_function at s = bind _ (named_function i h at false s) λ k c. done

  on_more : (f : Flags) (stand : Stand) (at : ℕ) (q : Parser Statement) → Stops q → (s : Input) → AcrossOr g q s → AcrossOr g (s6.on_more i f stand at q) s
  on_more f Listed at q n s k = on_declaration f at q n s k
  on_more f Under at q n s k = k
  on_more f Labelled at q n s k = must _ _ _ (λ d at. refl) n s (λ t c. labelled_function at c) k

  plain_statement : (f : Flags) (at : ℕ) (s : Input) → AcrossOr g (s6.plain_statement i f at) s
  unfolding s6.plain_statement s6.expression_statement
  plain_statement f at s = looks-must _ _ _ (λ d place us last. choices'.stopped _ (sequence-stops i f d place us last)) s (stopped _)
      (looks-must _ _ _ (λ d place us last. choices'.stopped _ (sequence-stops i f d place us last)) s (stopped _) (expression_statement f at s))

  after-jumps : (f : Flags) (stand : Stand) (at : ℕ) (s : Input) → AcrossOr g (choose f.has_return (on (word (codes "return")) (λ _. s6.return_statement i f at) (s6.on_more i f stand at (s6.plain_statement i f at))) (s6.on_more i f stand at (s6.plain_statement i f at))) s
  after-jumps f stand at s = either f.has_return _ _ s (must _ _ _ (λ d at. refl) (on-more-stops i f stand at) s (λ t c. return_statement f at c) (on_more f stand at _ (plain-stops i f at) s (plain_statement f at s))) (on_more f stand at _ (plain-stops i f at) s (plain_statement f at s))

  jump_statement : (f : Flags) (stand : Stand) (at : ℕ) (s : Input) → AcrossOr g (s6.jump_statement i f stand at) s
  unfolding s6.jump_statement
  jump_statement f stand at s = must _ _ _ (λ d at. refl) (after-jumps-stops i f stand at) s (λ t c. continue_statement at c) (must _ _ _ (λ d at. refl) (after-jumps-stops i f stand at) s (λ t c. break_statement at c) (must _ _ _ (λ d at. refl) (after-jumps-stops i f stand at) s (λ t c. throw_statement f at c) (must _ _ _ (λ d at. refl) (after-jumps-stops i f stand at) s (λ t c. debugger_statement at c) (after-jumps f stand at s))))

  compound_statement : (f : Flags) (stand : Stand) (at : ℕ) (s : Input) → AcrossOr g (s6.compound_statement i f stand at) s
  unfolding s6.compound_statement
  compound_statement f stand at s = must _ _ _ (λ d at. refl) (jump-stops i f stand at) s (λ t c. do_statement f at c) (must _ _ _ (λ d at. refl) (jump-stops i f stand at) s (λ t c. while_statement f at c) (must _ _ _ (λ d at. refl) (jump-stops i f stand at) s (λ t c. for_statement f at c)
      (must _ _ _ (λ d at. refl) (jump-stops i f stand at) s (λ t c. switch_statement f at c) (must _ _ _ (λ d at. refl) (jump-stops i f stand at) s (λ t c. try_statement f at c) (jump_statement f stand at s)))))

  block_statement : (f : Flags) (s : Input) → AcrossOr g (s6.block_statement i f) s
  unfolding s6.block_statement
  block_statement f s = bind _ (block i h f s) λ b c. done

  pub statement : (f : Flags) (stand : Stand) (s : Input) → AcrossOr g (s6.statement i f stand) s
  unfolding s6.statement
  statement f stand s = begins (modules'.statement_from i f stand) (statement-stops i f stand) s
      (λ at. looks-must _ _ _ (compound-stops i f stand at) s (block_statement f s) (looks-must _ _ _ (compound-stops i f stand at) s (if_statement f _ s) (must _ _ _ (λ d at. refl) (compound-stops i f stand at) s (λ t c. done) (must _ _ _ (λ d at. refl) (compound-stops i f stand at) s (λ t c. variables_statement f _ Var c) (compound_statement f stand _ s)))))

  -- ## Imports and exports

  from_clause : (s : Input) → Across g (m6.from_clause i) s
  unfolding m6.from_clause
  from_clause s = bind _ (take _ (λ d at. refl) s) λ t c. bind _ (specifier c) λ x d. bind _ (semicolon_ i h.inserting d) λ u k. done

  imported_names : (s : Input) → Across g (m6.imported_names i) s
  unfolding m6.imported_names
  imported_names s = must _ _ _ (λ d at. refl) (λ d at us last. refused-holds _) s (λ t c. namespace c) (group-must i marks.LeftBrace _ _ (λ d at us last. refused-holds _) s (λ c. bind _ (imports i.fuel c) λ x d. done) (nowhere s))

  rest_of_import : (at : ℕ) (n : Option Identifier) (ns : ImportedNames) (s : Input) → AcrossOr g (m6.rest_of_import i at n ns) s
  unfolding m6.rest_of_import
  rest_of_import at n ns s = bind _ (from_clause s) λ x c. done

  default_import : (at : ℕ) (s : Input) → AcrossOr g (m6.default_import i at) s
  unfolding m6.default_import m6.rest_of_import m6.from_clause refused
  default_import at s = bind _ (identifier s) λ n c. must _ _ _ (λ d at. refl) (λ d at us last. fault) c (λ t d. bind _ (imported_names d) λ x k. rest_of_import at _ x k) (rest_of_import at _ _ c)

  import_alone : (at : ℕ) (s : Input) → AcrossOr g (m6.import_alone i at) s
  unfolding m6.import_alone
  import_alone at s = bind _ (specifier s) λ x c. bind _ (semicolon_ i h.inserting c) λ t d. done

  import_item : (at : ℕ) (s : Input) → AcrossOr g (m6.import_item i at) s
  unfolding m6.import_item m6.default_import t6.identifier refused
  import_item at s = looks-must _ _ _ (λ d at us last. fault) s (import_alone at s) (looks-must _ _ _ (λ d at us last. fault) s (bind _ (imported_names s) λ x c. rest_of_import at _ x c) (default_import at s))

  own_names : (at : ℕ) (ns : List ExportName) (s : Input) → AcrossOr g (m6.own_names i at ns) s
  unfolding m6.own_names
  own_names at ns s = either (m6.are_own ns) _ _ s (bind _ (semicolon_ i h.inserting s) λ t c. done) (nowhere s)

  export_names : (at : ℕ) (s : Input) → AcrossOr g (m6.export_names i at) s
  unfolding m6.export_names
  export_names at s = bind _ (group-must i marks.LeftBrace _ _ (λ d at us last. refused-holds _) s (λ c. exports i.fuel c) (nowhere s)) λ ns c. looks-may _ _ _ (λ d at. sym (no-word g.next g.quiet (codes "from") source)) c (bind _ (from_clause c) λ x d. done) (own_names at ns c)

  export_all : (at : ℕ) (s : Input) → AcrossOr g (m6.export_all i at) s
  unfolding m6.export_all
  export_all at s = bind _ (from_clause s) λ x c. done

  default_value : (at : ℕ) (span : Span) (s : Input) → AcrossOr g (m6.default_value i at span) s
  unfolding m6.default_value
  default_value at span s = bind _ (assignment i h of_module s) λ x c. bind _ (semicolon_ i h.inserting c) λ t d. done

  export_default : (at : ℕ) (span : Span) (s : Input) → AcrossOr g (m6.export_default i at span) s
  unfolding m6.export_default
  export_default at span s = begins (modules'.default_from i at span) (default-value-stops i at span) s (λ place. must _ _ _ (λ d at. refl) (default-value-stops i at span) s (λ t c. bind _ (function i h true _ c) λ k d. done)
      (must _ _ _ (λ d at. refl) (default-value-stops i at span) s (λ t c. bind _ (class i h of_module true _ c) λ x d. done) (default_value at span s)))

  exported_declaration : (s : Input) → AcrossOr g (m6.exported_declaration i) s
  unfolding m6.exported_declaration
  exported_declaration s = begins (modules'.declaration_from i) (λ d at us last. refused-holds _) s (λ place. must _ _ _ (λ d at. refl) (λ d at us last. refused-holds _) s (λ t c. variables_statement of_module _ Var c) (on_declaration of_module _ _ (λ d at us last. refused-holds _) s (nowhere s)))

  export_declaration : (at : ℕ) (s : Input) → AcrossOr g (m6.export_declaration i at) s
  unfolding m6.export_declaration
  export_declaration at s = bind-idle _ (λ x. (λ d at us last. rests)) (exported_declaration s) λ x c. done

  export_item : (at : ℕ) (s : Input) → AcrossOr g (m6.export_item i at) s
  unfolding m6.export_item m6.export_declaration m6.exported_declaration refused
  export_item at s = must _ _ _ (λ d at. refl) (λ d at us last. fault) s (λ t c. export_all at c) (must _ _ _ (λ d at. refl) (λ d at us last. fault) s (λ t c. export_default at _ c) (looks-must _ _ _ (λ d at us last. fault) s (export_names at s) (export_declaration at s)))

  -- ## Modules

  statement_item : (s : Input) → AcrossOr g (m6.statement_item i) s
  unfolding m6.statement_item
  statement_item s = bind-idle _ (λ x. (λ d at us last. rests)) (statement of_module Listed s) λ x c. done

  one_item : (s : Input) → AcrossOr g (m6.one_item i) s
  unfolding m6.one_item
  one_item s = begins (modules'.item_from i) (statement-item-stops i) s (λ place. must _ _ _ (λ d at. refl) (statement-item-stops i) s (λ t c. import_item _ c) (must _ _ _ (λ d at. refl) (statement-item-stops i) s (λ t c. export_item _ c) (statement_item s)))

  items : (n : ℕ) (s : Input) → Across g (m6.items i n) s
  unfolding m6.items
  items zero s = stopped _
  items (suc n) s = looks-must _ _ _ (λ d at us last. choices'.stopped _ (one-item-stops i d at us last)) s done
      (bind-ends _ (λ x d at us last. choices'.stopped _ (items-stops i n d at us last)) (one_item s) λ x c. bind _ (items n c) λ y d. done)

  pub whole_module : (s : Input) → Across g (m6.whole_module i) s
  unfolding m6.whole_module
  whole_module s = bind _ (items i.fuel s) λ xs c. bind _ (take _ (λ d at. refl) c) λ t d. looks-must _ _ _ (λ d at us last. refused-holds _) d (nowhere d) done

-- ## All readers

module _ (g : Gap) where
  pub crosses : (fuel room : ℕ) → Crosses g (m6.readers true fuel room)
  unfolding m6.readers
  crosses fuel zero = record {
    inserting = refl;
    sequence = λ f s s'. never-agrees (expression-limit _ s);
    assignment = λ f s s'. never-agrees (expression-limit _ s);
    power = λ f s s'. never-agrees (expression-limit _ s);
    unary = λ f s s'. never-agrees (expression-limit _ s);
    callee = λ f s s'. never-agrees (operand-limit s);
    heritage = λ f s s'. never-agrees (operand-limit s);
    block = λ f s. stopped _;
    property = λ f s. stopped _;
    target = λ f s. stopped _;
    part = λ f s. stopped _;
    object_part = λ f s. stopped _;
    variable = λ f s. stopped _;
    member = λ f s. stopped _;
    statement = λ f stand s s'. never-agrees (statement-limit f stand s);
    sequence_stops = λ f d at us last. expression-limit _ _;
    assignment_stops = λ f d at us last. expression-limit _ _;
    callee_stops = λ f d at us last. operand-limit _;
    block_stops = λ f. (λ d at us last. fault);
    property_stops = λ f. (λ d at us last. fault);
    part_stops = λ f. (λ d at us last. fault);
    object_part_stops = λ f. (λ d at us last. fault);
    member_stops = λ f. (λ d at us last. fault);
    statement_stops = λ f stand d at us last. statement-limit f stand _;
  }
  crosses fuel (suc room) =
      let i : Inner = m6.readers true fuel room in
      let deeper : Crosses g i = crosses fuel room in
      record {
        inserting = refl;
        sequence = λ f s. sequence i deeper f s;
        assignment = λ f s. assignment i deeper f s;
        power = λ f s. power i deeper f Among s;
        unary = λ f s. unary i deeper f s;
        callee = λ f s. chain i deeper f Callee s;
        heritage = λ f s. chain i deeper f Heritage s;
        block = λ f s. block i deeper f s;
        property = λ f s. property i deeper f s;
        target = λ f s. binding i deeper f s;
        part = λ f s. one_part i deeper f s;
        object_part = λ f s. object_part i deeper f s;
        variable = λ f s. initialized i deeper f f s;
        member = λ f s. member i deeper f s;
        statement = λ f stand s. statement i deeper f stand s;
        sequence_stops = λ f. sequence-stops i f;
        assignment_stops = λ f. assignment-stops i f;
        callee_stops = λ f. chain-stops i f Callee;
        block_stops = λ f. block-stops i f;
        property_stops = λ f. property-stops i f;
        part_stops = λ f. part-stops i f;
        object_part_stops = λ f. object-part-stops i f;
        member_stops = λ f. member-stops i f;
        statement_stops = λ f stand. statement-stops i f stand;
      }
