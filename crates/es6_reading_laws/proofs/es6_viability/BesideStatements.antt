-- Readers of statements, imports, exports and whole modules take across a semicolon that is left out what they take with it, or a
-- reader that inserts none takes the token behind it.
use Rattle.std.proofs.Common.{◌≡◌, ◌∙◌, ℕ, zero, suc, Bool, true, false, ◌≤◌, arith, List, [], ◌∷◌, ◌++◌, length, Option, Some, None, refl, sym, ap, subst}
use Rattle.std.proofs.lemmas.Bool.{false≢true}
use Rattle.std.specs.Prelude.{codes, is_some}
use Rattle.es_text.specs.declared.Span.{Span}
use Rattle.es6_lexer.specs.declared.token.Punctuator.TheVariants as marks
use Rattle.es6_ast.specs.declared.operators.VariableKind.{VariableKind}
use Rattle.es6_ast.specs.declared.operators.VariableKind.TheVariants.{Var}
use Rattle.es6_ast.specs.declared.tree.Block.{Block}
use Rattle.es6_ast.specs.declared.tree.Case.{Case}
use Rattle.es6_ast.specs.declared.tree.Catch.{Catch}
use Rattle.es6_ast.specs.declared.tree.Expression.{Expression}
use Rattle.es6_ast.specs.declared.tree.ForFirst.{ForFirst}
use Rattle.es6_ast.specs.declared.tree.ForTarget.{ForTarget}
use Rattle.es6_ast.specs.declared.tree.Identifier.{Identifier}
use Rattle.es6_ast.specs.declared.tree.Part.{Part}
use Rattle.es6_ast.specs.declared.tree.Statement.{Statement}
use Rattle.es6_ast.specs.declared.module.ExportName.{ExportName}
use Rattle.es6_ast.specs.declared.module.Item.TheVariants as item
use Rattle.es6_ast.specs.declared.operators.AssignOperator.TheVariants as assign
use Rattle.es6_ast.specs.declared.module.ImportedNames.{ImportedNames}
use Rattle.es6_ast.specs.declared.settings.Flags.{Flags}
use Rattle.es6_ast.specs.declared.settings.Role.TheVariants.{Among, Heritage, Callee}
use Rattle.es6_ast.specs.declared.settings.Stand.{Stand}
use Rattle.es6_ast.specs.declared.settings.Stand.TheVariants.{Listed, Under, Labelled}
use Rattle.es6_ast.specs.Tokens.{Filled, is_identifier}
use Rattle.es6_ast.specs.Grammar.{with_in, without_in, of_module}
use Rattle.es6_reading.specs.Parser.{Input, Outcome, Parser, ◌>>=◌, after, choose, on, word, next_word, kept_if, made, returns, refused, semicolon, is_left, Inner}
use Rattle.es6_reading.specs.Refine.{target_before}
use Rattle.es6_reading.specs.Parts as t6
use Rattle.es6_reading.specs.Statements as s6
use Rattle.es6_reading.specs.Modules as m6
use Rattle.es6_reading.specs.Expressions as e
use Rattle.es6_reading.proofs.FollowChoices as choices'
use Rattle.es6_reading.proofs.FollowStatements as statements'
use Rattle.es6_reading.proofs.FollowModules as modules'
use Rattle.es6_reading.proofs.Follows.{semi, Never, plus}
use Rattle.es6_reading.proofs.Posts.{fault, choose-holds, if-holds, refused-holds, no-expression-holds, no-number-holds}
use Rattle.es6_reading.proofs.LocalExpressions as x'
use Rattle.es6_reading.proofs.LocalExpressions.{in_list, under_statement, under_label, Grown}
use Rattle.es6_reading.proofs.LocalModules as m'
use Rattle.es6_reading.proofs.LocalReaders.{gain, grown}
use Rattle.es6_reading.proofs.Locality.{LocalOf, took_so, stops_so, too_deep, too_long, not_inserted, Slack, same_mode}
use Rattle.es6_reading_laws.proofs.es6_viability.Viable.{left}
use Rattle.es6_reading_laws.proofs.es6_viability.Beside.{Gap, Loss, BesideBy, Beside, BesideOr, never-rests, bind-kept, bind-sure, bind-closed, Stops, Idle, rests, stands, idle-bind, Both, over, turn, both, both-same, outcome-inside, hit, low, on-line, done, stopped, never-agrees, bind, bind-idle, bind-ends, or-lost, looks-idle, nowhere, either, may, must, take, looks-may, looks-must, looks-taken, begins, begins-free, group-must, semicolon_, do_while_end, Crosses}
use Rattle.es6_reading_laws.proofs.es6_viability.BesideExpressions.{identifier, any_name, fitting, block, initialized, one_part, object_part, binding, member, property, chain, unary, power, assignment, sequence, function, named_function, class, chain-stops, assignment-stops, sequence-stops, part-stops, object-part-stops, member-stops, property-stops, block-stops}

-- ## Parts of statements

module _ {g : Gap} where
  variables : (one one3 : Parser Part) (k : (s : Input) → Beside g one one3 s) {n m : ℕ} (w : Both n m) (s : Input) → Beside g (s6.variables one n) (s6.variables one3 m) s
  unfolding s6.variables s6.one_variable
  variables one one3 k over s = stopped
  variables one one3 k (turn {n = n} {m = m} w) s = bind _ _ (bind _ _ (k s) λ q c. either (s6.is_whole q) _ _ _ _ c done (nowhere c)) λ q c. may _ _ _ _ _ (λ d at. refl) c (λ t d. bind _ _ (variables one one3 k w d) λ qs m. done) done

  optional-label : (s : Input) → Beside g (s6.optional_label) (s6.optional_label) s
  unfolding s6.optional_label
  optional-label s = begins-free statements'.label_from statements'.label_from (λ place place' d at us last. refl) s (λ place. may _ _ _ _ _ (λ d at. refl) s (λ name c. done) done)

  specifier : (s : Input) → Beside g (m6.specifier) (m6.specifier) s
  unfolding m6.specifier refused
  specifier s = begins modules'.specifier_from modules'.specifier_from (λ d at us last. fault) s (λ place. bind _ _ (take _ (λ d at. refl) s) λ x c. done)

  one_import : (s : Input) → Beside g (m6.one_import) (m6.one_import) s
  unfolding m6.one_import t6.name_of_any_kind refused
  one_import s = begins modules'.import_from modules'.import_from (λ d at us last. fault) s (λ place. bind _ _ (any_name s) λ n c. may _ _ _ _ _ (λ d at. refl) c (λ t d. bind _ _ (identifier d) λ m k. done) (either (is_identifier n.name) _ _ _ _ c done (nowhere c)))

  imports : {n m : ℕ} (w : Both n m) (s : Input) → Beside g (m6.imports n) (m6.imports m) s
  unfolding m6.imports m6.one_import t6.name_of_any_kind refused
  imports over s = stopped
  imports (turn {n = n} {m = m} w) s = must _ _ _ _ _ (λ d at. refl) (λ d at us last. fault) s (λ t c. done) (bind _ _ (one_import s) λ x c. must _ _ _ _ _ (λ d at. refl) (λ d at us last. fault) c (λ t d. bind _ _ (imports w d) λ y k. done) (bind _ _ (take _ (λ d at. refl) c) λ t d. done))

  namespace : (s : Input) → Beside g (m6.namespace) (m6.namespace) s
  unfolding m6.namespace
  namespace s = bind _ _ (take _ (λ d at. refl) s) λ t c. bind _ _ (identifier c) λ n d. done

  one_export : (s : Input) → Beside g (m6.one_export) (m6.one_export) s
  unfolding m6.one_export t6.name_of_any_kind refused
  one_export s = begins modules'.export_from modules'.export_from (λ d at us last. fault) s (λ place. bind _ _ (any_name s) λ n c. may _ _ _ _ _ (λ d at. refl) c (λ t d. bind _ _ (any_name d) λ m k. done) done)

  exports : {n m : ℕ} (w : Both n m) (s : Input) → Beside g (m6.exports n) (m6.exports m) s
  unfolding m6.exports m6.one_export t6.name_of_any_kind refused
  exports over s = stopped
  exports (turn {n = n} {m = m} w) s = must _ _ _ _ _ (λ d at. refl) (λ d at us last. fault) s (λ t c. done) (bind _ _ (one_export s) λ x c. must _ _ _ _ _ (λ d at. refl) (λ d at us last. fault) c (λ t d. bind _ _ (exports w d) λ y k. done) (bind _ _ (take _ (λ d at. refl) c) λ t d. done))

goes-on-semi : (d : Bool) (at : ℕ) → s6.goes_on (semi d at) ≡ false
goes-on-semi true at = refl
goes-on-semi false at = refl

-- ## What begins with no inserted semicolon

module _ (i : Inner) where
  statement-stops : (f : Flags) (stand : Stand) → Stops (s6.statement i f stand)
  statement-stops f stand d at us last = modules'.statement-stops (λ l. i) f stand zero d at us last

  first-variables-stops : (f : Flags) (place : ℕ) (kind : VariableKind) (q : Part) → Stops (s6.after_first_variable i f place kind q)
  unfolding s6.after_first_variable s6.first_variables refused
  first-variables-stops f place kind q d at us last = choose-holds _ _ (s6.is_whole q) _ (λ k. fault) (λ k. fault)

  plain-stops : (f : Flags) (place : ℕ) → Stops (s6.plain_statement i f place)
  unfolding s6.plain_statement s6.expression_statement
  plain-stops f place d at us last = choices'.stopped _ (sequence-stops i f d at us last)

  on-more-stops : (f : Flags) (stand : Stand) (place : ℕ) → Stops (s6.on_more i f stand place (s6.plain_statement i f place))
  on-more-stops f Listed place d at us last = plain-stops f place d at us last
  on-more-stops f Under place d at us last = plain-stops f place d at us last
  on-more-stops f Labelled place d at us last = plain-stops f place d at us last

  after-jumps-stops : (f : Flags) (stand : Stand) (place : ℕ) → Stops (choose f.has_return (on (word (codes "return")) (λ _. s6.return_statement i f place) (s6.on_more i f stand place (s6.plain_statement i f place))) (s6.on_more i f stand place (s6.plain_statement i f place)))
  after-jumps-stops f stand place d at us last = choose-holds _ _ f.has_return _ (λ k. on-more-stops f stand place d at us last) (λ k. on-more-stops f stand place d at us last)

  jump-stops : (f : Flags) (stand : Stand) (place : ℕ) → Stops (s6.jump_statement i f stand place)
  unfolding s6.jump_statement
  jump-stops f stand place d at us last = after-jumps-stops f stand place d at us last

  compound-stops : (f : Flags) (stand : Stand) (place : ℕ) → Stops (s6.compound_statement i f stand place)
  unfolding s6.compound_statement
  compound-stops f stand place d at us last = jump-stops f stand place d at us last

  default-value-stops : (place : ℕ) (span : Span) → Stops (m6.default_value i place span)
  unfolding m6.default_value
  default-value-stops place span d at us last = choices'.stopped _ (assignment-stops i of_module d at us last)

  statement-item-stops : Stops (m6.statement_item i)
  unfolding m6.statement_item
  statement-item-stops d at us last = choices'.stopped _ (statement-stops of_module Listed d at us last)

  one-item-stops : Stops (m6.one_item i)
  unfolding m6.one_item
  one-item-stops d at us last = statement-item-stops d at us last

  items-stops : (n : ℕ) → Stops (m6.items i n)
  unfolding m6.items
  items-stops zero d at us last = fault
  items-stops (suc n) d at us last = choices'.stopped _ (one-item-stops d at us last)

  cases-stops : (f : Flags) (may : Bool) (n : ℕ) → Stops (s6.cases i f may n)
  unfolding s6.cases
  cases-stops f may zero d at us last = fault
  cases-stops f may (suc n) d at us last = choose-holds _ _ may _ (λ k. refused-holds _) (λ k. refused-holds _)

-- where no construct may open any more
expression-limit : (begins : Filled → Bool) (s : Input) → Never (e.expression_at_limit begins s)
unfolding e.expression_at_limit
expression-limit begins s = if-holds _ _ _ s (λ k. fault) (λ k. no-expression-holds s)

operand-limit : (s : Input) → Never (e.operand_at_limit s)
unfolding e.operand_at_limit
operand-limit s = if-holds _ _ _ s (λ k. fault) (λ k. no-number-holds s)

statement-limit : (f : Flags) (stand : Stand) (s : Input) → Never (s6.statement_at_limit f stand s)
unfolding s6.statement_at_limit
statement-limit f stand s = if-holds _ _ _ s (λ k. fault) (λ k. if-holds _ _ _ s (λ l. fault) (λ l. no-expression-holds s))

module _ {g : Gap} (i j : Inner) (h : Crosses g i j) where
  variables_statement : (f : Flags) (at : ℕ) (kind : VariableKind) (s : Input) → BesideOr g (s6.variables_statement i f at kind) (s6.variables_statement j f at kind) s
  unfolding s6.variables_statement
  variables_statement f at kind s = bind _ _ (variables _ _ (λ c. initialized i j h f f c) h.turns s) λ qs c. bind _ _ (semicolon_ i j h.inserting h.plain c) λ t d. done

  parenthesized : {b : Option Loss} (f : Flags) (s : Input) → BesideBy b g (s6.parenthesized i f) (s6.parenthesized j f) s
  unfolding s6.parenthesized refused
  parenthesized f s = group-must i j h.opens marks.LeftParenthesis _ _ _ _ (λ d at us last. fault) s (λ c. bind-ends _ _ (λ x d at us last. fault) (h.sequence (with_in f) c) λ x d. bind-kept _ _ (take _ (λ d at. refl) d) λ t k. done) (nowhere s)

  parenthesized-stops : (f : Flags) → Stops (s6.parenthesized i f)
  unfolding s6.parenthesized refused
  parenthesized-stops f d at us last = fault

  -- ## If and loops

  condition : (f : Flags) (s : Input) → BesideOr g (s6.condition i f) (s6.condition j f) s
  unfolding s6.condition refused
  condition f s = begins (statements'.condition_from i f) (statements'.condition_from j f) (λ d at us last. fault) s (λ place. bind _ _ (take _ (λ d at. refl) s) λ t c. bind _ _ (parenthesized f c) λ x d. bind-idle _ _ (λ y. (λ d at us last. rests)) (h.statement f Under d) λ y k. done)

  otherwise-idle : (f : Flags) (n : ℕ) → Idle (s6.otherwise i f n)
  unfolding s6.otherwise
  otherwise-idle f zero d at us last = stands
  otherwise-idle f (suc n) d at us last = rests

  otherwise : (f : Flags) {n m : ℕ} (w : Both n m) (s : Input) → BesideOr g (s6.otherwise i f n) (s6.otherwise j f m) s
  unfolding s6.otherwise
  otherwise f over s = stopped
  otherwise f (turn {n = n} {m = m} w) s = or-lost _ _ _ _ _ (λ d at. refl) (λ d at us last. rests) s
      (λ t c. looks-must _ _ _ _ _ (λ d at us last. choices'.stopped _ (h.statement_stops f Under d at us last)) c
      (bind-idle _ _ (λ x d at us last. idle-bind _ (otherwise-idle f n d at us last) (λ r. (λ d at us last. rests))) (condition f c) λ x d. bind-idle _ _ (λ r. (λ d at us last. rests)) (otherwise f w d) λ r k. done)
      (bind-idle _ _ (λ x. (λ d at us last. rests)) (h.statement f Under c) λ x d. done))
      done

  if_statement : (f : Flags) (at : ℕ) (s : Input) → BesideOr g (s6.if_statement i f at) (s6.if_statement j f at) s
  unfolding s6.if_statement
  if_statement f at s = bind-idle _ _ (λ x d place us last. idle-bind _ (otherwise-idle f i.fuel d place us last) (λ r. (λ d at us last. rests))) (condition f s) λ x c. bind-idle _ _ (λ r. (λ d at us last. rests)) (otherwise f h.turns c) λ r d. done

  do_statement : (f : Flags) (at : ℕ) (s : Input) → BesideOr g (s6.do_statement i f at) (s6.do_statement j f at) s
  unfolding s6.do_statement refused
  do_statement f at s = bind-ends _ _ (λ x. (λ d at us last. fault)) (h.statement f Under s) λ x c. bind _ _ (take _ (λ d at. refl) c) λ t d. bind-sure _ _ (λ at us. parenthesized-stops f true at us d.last) (parenthesized f d) λ y k. bind-closed _ _ (λ u. (λ d at us last. rests)) (do_while_end i j h.inserting h.plain k) λ u m. done

  while_statement : (f : Flags) (at : ℕ) (s : Input) → BesideOr g (s6.while_statement i f at) (s6.while_statement j f at) s
  unfolding s6.while_statement
  while_statement f at s = bind _ _ (parenthesized f s) λ x c. bind-idle _ _ (λ y. (λ d at us last. rests)) (h.statement f Under c) λ y d. done

  optional : (f : Flags) (end : Filled → Option Filled) → ((d : Bool) (at : ℕ) → end (semi d at) ≡ None) → (s : Input) → Beside g (s6.optional i f end) (s6.optional j f end) s
  unfolding s6.optional
  optional f end m s = must _ _ _ _ _ m (λ d at us last. choices'.stopped _ (h.sequence_stops (with_in f) d at us last)) s (λ t c. done) (bind _ _ (h.sequence (with_in f) s) λ x c. bind _ _ (take _ m c) λ t d. done)

  rest_of_for : (f : Flags) (first : ForFirst) (s : Input) → Beside g (s6.rest_of_for i f first) (s6.rest_of_for j f first) s
  unfolding s6.rest_of_for
  rest_of_for f first s = bind _ _ (optional f _ (λ d at. refl) s) λ x c. bind _ _ (optional f _ (λ d at. refl) c) λ y d. done

  rest_of_of : (f : Flags) (target : ForTarget) (s : Input) → Beside g (s6.rest_of_of i f target) (s6.rest_of_of j f target) s
  unfolding s6.rest_of_of
  rest_of_of f target s = bind _ _ (h.assignment (with_in f) s) λ x c. bind _ _ (take _ (λ d at. refl) c) λ t d. done

  first_variables : (f : Flags) (at : ℕ) (kind : VariableKind) (qs : List Part) (s : Input) → Beside g (s6.first_variables i f at kind qs) (s6.first_variables j f at kind qs) s
  unfolding s6.first_variables
  first_variables f at kind qs s = bind _ _ (take _ (λ d at. refl) s) λ t c. rest_of_for f _ c

  after_first : (f : Flags) (at : ℕ) (kind : VariableKind) (q : Part) (s : Input) → Beside g (s6.after_first_variable i f at kind q) (s6.after_first_variable j f at kind q) s
  unfolding s6.after_first_variable s6.first_variables refused
  after_first f at kind q s = either (s6.is_whole q) _ _ _ _ s (must _ _ _ _ _ (λ d at. refl) (λ d at us last. fault) s (λ t c. bind _ _ (variables _ _ (λ d. h.variable (without_in f) d) h.turns c) λ qs d. first_variables f at kind _ d) (first_variables f at kind _ s)) (nowhere s)

  after_bare : (f : Flags) (at : ℕ) (kind : VariableKind) (q : Part) (s : Input) → Beside g (s6.after_bare_variable i f at kind q) (s6.after_bare_variable j f at kind q) s
  unfolding s6.after_bare_variable
  after_bare f at kind q s = looks-must _ _ _ _ _ (first-variables-stops i f at kind q) s (stopped) (looks-must _ _ _ _ _ (first-variables-stops i f at kind q) s (bind _ _ (take _ (λ d at. refl) s) λ t c. rest_of_of f _ c) (after_first f at kind q s))

  for_variables : (f : Flags) (at : ℕ) (kind : VariableKind) (s : Input) → Beside g (s6.for_variables i f at kind) (s6.for_variables j f at kind) s
  unfolding s6.for_variables
  for_variables f at kind s = bind _ _ (h.variable (without_in f) s) λ q c. either (is_some q.default) _ _ _ _ c (after_first f at kind q c) (after_bare f at kind q c)

  first_expression : (f : Flags) (x : Expression) (s : Input) → Beside g (s6.first_expression i f x) (s6.first_expression j f x) s
  unfolding s6.first_expression
  first_expression f x s = bind _ _ (take _ (λ d at. refl) s) λ t c. rest_of_for f _ c

  assigned_in_turn : (f : Flags) (x : Expression) (s : Input) → Beside g (s6.assigned_in_turn i f x) (s6.assigned_in_turn j f x) s
  unfolding s6.assigned_in_turn
  assigned_in_turn f x s = bind _ _ (subst (λ n. Beside g (e.fitting (target_before i.fuel assign.Assign x)) (e.fitting (target_before n assign.Assign x)) s) (both-same h.turns) (fitting (target_before i.fuel assign.Assign x) s)) λ q c. rest_of_of f _ c

  for_expression : (f : Flags) (s : Input) → Beside g (s6.for_expression i f) (s6.for_expression j f) s
  unfolding s6.for_expression s6.first_expression refused
  for_expression f s = bind _ _ (h.sequence (without_in f) s) λ x c. either (is_left x.shape) _ _ _ _ c (looks-must _ _ _ _ _ (λ d at us last. fault) c (stopped) (must _ _ _ _ _ (λ d at. refl) (λ d at us last. fault) c (λ t d. assigned_in_turn f _ d) (first_expression f _ c))) (first_expression f _ c)

  for-expression-stops : (f : Flags) → Stops (s6.for_expression i f)
  unfolding s6.for_expression
  for-expression-stops f d at us last = choices'.stopped _ (h.sequence_stops (without_in f) d at us last)

  for_header : (f : Flags) (s : Input) → Beside g (s6.for_header i f) (s6.for_header j f) s
  unfolding s6.for_header
  for_header f s = begins (statements'.header_from i f) (statements'.header_from j f) (for-expression-stops f) s (λ place. must _ _ _ _ _ (λ d at. refl) (for-expression-stops f) s (λ t c. rest_of_for f _ c) (must _ _ _ _ _ (λ d at. refl) (for-expression-stops f) s (λ kind c. for_variables f _ kind c) (for_expression f s)))

  for_statement : (f : Flags) (at : ℕ) (s : Input) → BesideOr g (s6.for_statement i f at) (s6.for_statement j f at) s
  unfolding s6.for_statement
  for_statement f at s = bind _ _ (group-must i j h.opens marks.LeftParenthesis _ _ _ _ (λ d at us last. refused-holds _) s (λ c. for_header f c) (nowhere s)) λ x c. bind-idle _ _ (λ y. (λ d at us last. rests)) (h.statement f Under c) λ y d. done

  -- ## Jumps

  continue_statement : (at : ℕ) (s : Input) → BesideOr g (s6.continue_statement i at) (s6.continue_statement j at) s
  unfolding s6.continue_statement
  continue_statement at s = bind _ _ (optional-label s) λ x c. bind _ _ (semicolon_ i j h.inserting h.plain c) λ t d. done

  break_statement : (at : ℕ) (s : Input) → BesideOr g (s6.break_statement i at) (s6.break_statement j at) s
  unfolding s6.break_statement
  break_statement at s = bind _ _ (optional-label s) λ x c. bind _ _ (semicolon_ i j h.inserting h.plain c) λ t d. done

  value-semi : g.do_while ≡ false → s6.goes_on (semi false g.at) ≡ s6.goes_on g.next
  value-semi e = goes-on-semi false g.at ∙ sym (on-line (λ u. s6.goes_on u ≡ false) (λ k span. refl) (λ span. refl) (λ span. refl) g.next (g.line e))

  returned : (f : Flags) (s : Input) → Beside g (s6.returned i f) (s6.returned j f) s
  unfolding s6.returned
  returned f s = looks-may _ _ _ _ _ refl value-semi s (bind _ _ (sequence i j h (with_in f) s) λ x c. done) done

  return_statement : (f : Flags) (at : ℕ) (s : Input) → BesideOr g (s6.return_statement i f at) (s6.return_statement j f at) s
  unfolding s6.return_statement
  return_statement f at s = bind _ _ (returned f s) λ x c. bind _ _ (semicolon_ i j h.inserting h.plain c) λ t d. done

  throw_statement : (f : Flags) (at : ℕ) (s : Input) → BesideOr g (s6.throw_statement i f at) (s6.throw_statement j f at) s
  unfolding s6.throw_statement
  throw_statement f at s = looks-must _ _ _ _ _ (λ d place us last. choices'.stopped _ (sequence-stops i (with_in f) d place us last)) s (nowhere s) (bind _ _ (sequence i j h (with_in f) s) λ x c. bind _ _ (semicolon_ i j h.inserting h.plain c) λ t d. done)

  -- ## Switch

  in-case-idle : (f : Flags) (n : ℕ) → Idle (s6.in_case i f n)
  unfolding s6.in_case
  in-case-idle f zero d at us last = stands
  in-case-idle f (suc n) d at us last = rests

  in_case : (f : Flags) {n m : ℕ} (w : Both n m) (s : Input) → BesideOr g (s6.in_case i f n) (s6.in_case j f m) s
  unfolding s6.in_case
  in_case f over s = stopped
  in_case f (turn {n = n} {m = m} w) s = looks-idle _ _ _ _ _ (λ d at us last. rests) s done
      (bind-idle _ _ (λ x d at us last. idle-bind _ (in-case-idle f n d at us last) (λ y. (λ d at us last. rests))) (h.statement f Listed s) λ x c. bind-idle _ _ (λ y. (λ d at us last. rests)) (in_case f w c) λ y d. done)

  case_clause : (f : Flags) (at : ℕ) (s : Input) → BesideOr g (s6.case_clause i f at) (s6.case_clause j f at) s
  unfolding s6.case_clause
  case_clause f at s = bind _ _ (h.sequence (with_in f) s) λ x c. bind _ _ (take _ (λ d at. refl) c) λ t d. bind-idle _ _ (λ y. (λ d at us last. rests)) (in_case f h.turns d) λ y k. done

  default_clause : (f : Flags) (at : ℕ) (s : Input) → BesideOr g (s6.default_clause i f at) (s6.default_clause j f at) s
  unfolding s6.default_clause
  default_clause f at s = bind _ _ (take _ (λ d at. refl) s) λ t c. bind-idle _ _ (λ y. (λ d at us last. rests)) (in_case f h.turns c) λ y d. done

  default-stops : (b : Bool) (p : Filled → Parser (List Case)) → Stops (choose b (on (word (codes "default")) p refused) refused)
  default-stops true p d at us last = refused-holds _
  default-stops false p d at us last = refused-holds _

  cases : (f : Flags) (b : Bool) {n m : ℕ} (w : Both n m) (s : Input) → Beside g (s6.cases i f b n) (s6.cases j f b m) s
  unfolding s6.cases
  cases f b over s = stopped
  cases f b (turn {n = n} {m = m} w) s = begins (statements'.cases_from i f b (s6.cases i f b n) (s6.cases i f false n)) (statements'.cases_from j f b (s6.cases j f b m) (s6.cases j f false m)) (λ d at us last. default-stops b _ d at us last) s
      (λ place. must _ _ _ _ _ (λ d at. refl) (λ d at us last. default-stops b _ d at us last) s (λ t c. done)
      (must _ _ _ _ _ (λ d at. refl) (λ d at us last. default-stops b _ d at us last) s (λ t c. bind-ends _ _ (λ x d at us last. choices'.stopped _ (cases-stops i f b n d at us last)) (case_clause f _ c) λ x d. bind _ _ (cases f b w d) λ y k. done)
      (either b _ _ _ _ s (must _ _ _ _ _ (λ d at. refl) (λ d at us last. refused-holds _) s (λ t c. bind-ends _ _ (λ x d at us last. choices'.stopped _ (cases-stops i f false n d at us last)) (default_clause f _ c) λ x d. bind _ _ (cases f false w d) λ y k. done) (nowhere s)) (nowhere s))))

  switch_statement : (f : Flags) (at : ℕ) (s : Input) → BesideOr g (s6.switch_statement i f at) (s6.switch_statement j f at) s
  unfolding s6.switch_statement
  switch_statement f at s = bind _ _ (parenthesized f s) λ x c. bind _ _ (group-must i j h.opens marks.LeftBrace _ _ _ _ (λ d at us last. refused-holds _) c (λ d. cases f true h.turns d) (nowhere c)) λ y d. done

  -- ## Try

  catch_parameter : (f : Flags) (s : Input) → Beside g (s6.catch_parameter i f) (s6.catch_parameter j f) s
  unfolding s6.catch_parameter
  catch_parameter f s = bind _ _ (h.target (with_in f) s) λ x c. bind _ _ (take _ (λ d at. refl) c) λ t d. done

  handler : (f : Flags) (s : Input) → Beside g (s6.handler i f) (s6.handler j f) s
  unfolding s6.handler refused
  handler f s = begins (statements'.handler_from i f) (statements'.handler_from j f) (λ d at us last. fault) s (λ place. bind _ _ (take _ (λ d at. refl) s) λ t c. bind _ _ (group-must i j h.opens marks.LeftParenthesis _ _ _ _ (λ d at us last. fault) c (λ d. catch_parameter f d) (nowhere c)) λ x d. bind _ _ (block i j h f d) λ b k. done)

  after_handler : (f : Flags) (at : ℕ) (b : Block) (x : Catch) (s : Input) → BesideOr g (s6.after_handler i f at b x) (s6.after_handler j f at b x) s
  unfolding s6.after_handler
  after_handler f at b x s = or-lost _ _ _ _ _ (λ d at. refl) (λ d at us last. rests) s (λ t c. bind _ _ (block i j h f c) λ y d. done) done

  only_finally : (f : Flags) (at : ℕ) (b : Block) (s : Input) → BesideOr g (s6.only_finally i f at b) (s6.only_finally j f at b) s
  unfolding s6.only_finally
  only_finally f at b s = bind _ _ (take _ (λ d at. refl) s) λ t c. bind _ _ (block i j h f c) λ y d. done

  try_statement : (f : Flags) (at : ℕ) (s : Input) → BesideOr g (s6.try_statement i f at) (s6.try_statement j f at) s
  unfolding s6.try_statement s6.only_finally refused
  try_statement f at s = bind _ _ (block i j h f s) λ b c. looks-must _ _ _ _ _ (λ d at us last. fault) c (bind _ _ (handler f c) λ x d. after_handler f at b x d) (only_finally f at b c)

  debugger_statement : (at : ℕ) (s : Input) → BesideOr g (s6.debugger_statement i at) (s6.debugger_statement j at) s
  unfolding s6.debugger_statement
  debugger_statement at s = bind _ _ (semicolon_ i j h.inserting h.plain s) λ t c. done

  -- ## Expressions, labels and declarations

  expression_end : (at : ℕ) (x : Expression) (s : Input) → BesideOr g (s6.expression_end i at x) (s6.expression_end j at x) s
  unfolding s6.expression_end
  expression_end at x s = bind _ _ (semicolon_ i j h.inserting h.plain s) λ t c. done

  labelled : (f : Flags) (at : ℕ) (n : Identifier) (s : Input) → BesideOr g (s6.labelled i f at n) (s6.labelled j f at n) s
  unfolding s6.labelled
  labelled f at n s = bind-idle _ _ (λ x. (λ d at us last. rests)) (h.statement f Labelled s) λ x c. done

  label_or_end : (f : Flags) (at : ℕ) (n : Option Identifier) (x : Expression) (s : Input) → BesideOr g (s6.label_or_end i f at n x) (s6.label_or_end j f at n x) s
  label_or_end f at (Some n) x s = may _ _ _ _ _ (λ d at. refl) s (λ t c. labelled f at n c) (expression_end at x s)
  label_or_end f at None x s = expression_end at x s

  expression_statement : (f : Flags) (at : ℕ) (s : Input) → BesideOr g (s6.expression_statement i f at) (s6.expression_statement j f at) s
  unfolding s6.expression_statement
  expression_statement f at s = bind _ _ (sequence i j h f s) λ x c. label_or_end f at _ _ c

  function_declaration : (at : ℕ) (s : Input) → BesideOr g (s6.function_declaration i at) (s6.function_declaration j at) s
  unfolding s6.function_declaration
  function_declaration at s = bind _ _ (function i j h false at s) λ k c. done

  class_declaration : (f : Flags) (at : ℕ) (s : Input) → BesideOr g (s6.class_declaration i f at) (s6.class_declaration j f at) s
  unfolding s6.class_declaration
  class_declaration f at s = bind _ _ (class i j h f false at s) λ x c. done

  on_declaration : (f : Flags) (at : ℕ) (q q3 : Parser Statement) → Stops q → (s : Input) → BesideOr g q q3 s → BesideOr g (s6.on_declaration i f at q) (s6.on_declaration j f at q3) s
  on_declaration f at q q3 n s k = must _ _ _ _ _ (λ d at. refl) n s (λ t c. function_declaration at c) (must _ _ _ _ _ (λ d at. refl) n s (λ t c. class_declaration f at c) (must _ _ _ _ _ (λ d at. refl) n s (λ kind c. variables_statement f at kind c) k))

  labelled_function : (at : ℕ) (s : Input) → BesideOr g (s6.labelled_function i at) (s6.labelled_function j at) s
  unfolding s6.labelled_function
  labelled_function at s = bind _ _ (named_function i j h at false s) λ k c. done

  on_more : (f : Flags) (stand : Stand) (at : ℕ) (q q3 : Parser Statement) → Stops q → (s : Input) → BesideOr g q q3 s → BesideOr g (s6.on_more i f stand at q) (s6.on_more j f stand at q3) s
  on_more f Listed at q q3 n s k = on_declaration f at q q3 n s k
  on_more f Under at q q3 n s k = k
  on_more f Labelled at q q3 n s k = must _ _ _ _ _ (λ d at. refl) n s (λ t c. labelled_function at c) k

  plain_statement : (f : Flags) (at : ℕ) (s : Input) → BesideOr g (s6.plain_statement i f at) (s6.plain_statement j f at) s
  unfolding s6.plain_statement s6.expression_statement
  plain_statement f at s = looks-must _ _ _ _ _ (λ d place us last. choices'.stopped _ (sequence-stops i f d place us last)) s (stopped)
      (looks-must _ _ _ _ _ (λ d place us last. choices'.stopped _ (sequence-stops i f d place us last)) s (stopped) (expression_statement f at s))

  after-jumps : (f : Flags) (stand : Stand) (at : ℕ) (s : Input) → BesideOr g (choose f.has_return (on (word (codes "return")) (λ _. s6.return_statement i f at) (s6.on_more i f stand at (s6.plain_statement i f at))) (s6.on_more i f stand at (s6.plain_statement i f at))) (choose f.has_return (on (word (codes "return")) (λ _. s6.return_statement j f at) (s6.on_more j f stand at (s6.plain_statement j f at))) (s6.on_more j f stand at (s6.plain_statement j f at))) s
  after-jumps f stand at s = either f.has_return _ _ _ _ s (must _ _ _ _ _ (λ d at. refl) (on-more-stops i f stand at) s (λ t c. return_statement f at c) (on_more f stand at _ _ (plain-stops i f at) s (plain_statement f at s))) (on_more f stand at _ _ (plain-stops i f at) s (plain_statement f at s))

  jump_statement : (f : Flags) (stand : Stand) (at : ℕ) (s : Input) → BesideOr g (s6.jump_statement i f stand at) (s6.jump_statement j f stand at) s
  unfolding s6.jump_statement
  jump_statement f stand at s = must _ _ _ _ _ (λ d at. refl) (after-jumps-stops i f stand at) s (λ t c. continue_statement at c) (must _ _ _ _ _ (λ d at. refl) (after-jumps-stops i f stand at) s (λ t c. break_statement at c) (must _ _ _ _ _ (λ d at. refl) (after-jumps-stops i f stand at) s (λ t c. throw_statement f at c) (must _ _ _ _ _ (λ d at. refl) (after-jumps-stops i f stand at) s (λ t c. debugger_statement at c) (after-jumps f stand at s))))

  compound_statement : (f : Flags) (stand : Stand) (at : ℕ) (s : Input) → BesideOr g (s6.compound_statement i f stand at) (s6.compound_statement j f stand at) s
  unfolding s6.compound_statement
  compound_statement f stand at s = must _ _ _ _ _ (λ d at. refl) (jump-stops i f stand at) s (λ t c. do_statement f at c) (must _ _ _ _ _ (λ d at. refl) (jump-stops i f stand at) s (λ t c. while_statement f at c) (must _ _ _ _ _ (λ d at. refl) (jump-stops i f stand at) s (λ t c. for_statement f at c)
      (must _ _ _ _ _ (λ d at. refl) (jump-stops i f stand at) s (λ t c. switch_statement f at c) (must _ _ _ _ _ (λ d at. refl) (jump-stops i f stand at) s (λ t c. try_statement f at c) (jump_statement f stand at s)))))

  block_statement : (f : Flags) (s : Input) → BesideOr g (s6.block_statement i f) (s6.block_statement j f) s
  unfolding s6.block_statement
  block_statement f s = bind _ _ (block i j h f s) λ b c. done

  pub statement : (f : Flags) (stand : Stand) (s : Input) → BesideOr g (s6.statement i f stand) (s6.statement j f stand) s
  unfolding s6.statement
  statement f stand s = begins (modules'.statement_from i f stand) (modules'.statement_from j f stand) (statement-stops i f stand) s
      (λ at. looks-must _ _ _ _ _ (compound-stops i f stand at) s (block_statement f s) (looks-must _ _ _ _ _ (compound-stops i f stand at) s (if_statement f _ s) (must _ _ _ _ _ (λ d at. refl) (compound-stops i f stand at) s (λ t c. done) (must _ _ _ _ _ (λ d at. refl) (compound-stops i f stand at) s (λ t c. variables_statement f _ Var c) (compound_statement f stand _ s)))))

  -- ## Imports and exports

  from_clause : (s : Input) → Beside g (m6.from_clause i) (m6.from_clause j) s
  unfolding m6.from_clause
  from_clause s = bind _ _ (take _ (λ d at. refl) s) λ t c. bind _ _ (specifier c) λ x d. bind _ _ (semicolon_ i j h.inserting h.plain d) λ u k. done

  imported_names : (s : Input) → Beside g (m6.imported_names i) (m6.imported_names j) s
  unfolding m6.imported_names
  imported_names s = must _ _ _ _ _ (λ d at. refl) (λ d at us last. refused-holds _) s (λ t c. namespace c) (group-must i j h.opens marks.LeftBrace _ _ _ _ (λ d at us last. refused-holds _) s (λ c. bind _ _ (imports h.turns c) λ x d. done) (nowhere s))

  rest_of_import : (at : ℕ) (n : Option Identifier) (ns : ImportedNames) (s : Input) → BesideOr g (m6.rest_of_import i at n ns) (m6.rest_of_import j at n ns) s
  unfolding m6.rest_of_import
  rest_of_import at n ns s = bind _ _ (from_clause s) λ x c. done

  default_import : (at : ℕ) (s : Input) → BesideOr g (m6.default_import i at) (m6.default_import j at) s
  unfolding m6.default_import m6.rest_of_import m6.from_clause refused
  default_import at s = bind _ _ (identifier s) λ n c. must _ _ _ _ _ (λ d at. refl) (λ d at us last. fault) c (λ t d. bind _ _ (imported_names d) λ x k. rest_of_import at _ x k) (rest_of_import at _ _ c)

  import_alone : (at : ℕ) (s : Input) → BesideOr g (m6.import_alone i at) (m6.import_alone j at) s
  unfolding m6.import_alone
  import_alone at s = bind _ _ (specifier s) λ x c. bind _ _ (semicolon_ i j h.inserting h.plain c) λ t d. done

  import_item : (at : ℕ) (s : Input) → BesideOr g (m6.import_item i at) (m6.import_item j at) s
  unfolding m6.import_item m6.default_import t6.identifier refused
  import_item at s = looks-must _ _ _ _ _ (λ d at us last. fault) s (import_alone at s) (looks-must _ _ _ _ _ (λ d at us last. fault) s (bind _ _ (imported_names s) λ x c. rest_of_import at _ x c) (default_import at s))

  own_names : (at : ℕ) (ns : List ExportName) (s : Input) → BesideOr g (m6.own_names i at ns) (m6.own_names j at ns) s
  unfolding m6.own_names
  own_names at ns s = either (m6.are_own ns) _ _ _ _ s (bind _ _ (semicolon_ i j h.inserting h.plain s) λ t c. done) (nowhere s)

  -- `from` behind the names is taken
  from-past : (at : ℕ) (ns : List ExportName) → next_word (codes "from") g.next ≡ true → length (left (◌>>=◌ (m6.from_clause j) (λ x. made at (λ span. item.ExportNames span ns (Some x))) (record { tokens = g.next ∷ g.behind; last = g.at }))) ≤ length g.behind
  unfolding m6.from_clause
  from-past at ns e = outcome-inside (λ x. made at (λ span. item.ExportNames span ns (Some x))) (length g.behind) (m6.from_clause j (record { tokens = g.next ∷ g.behind; last = g.at }))
      (subst (λ o. length (left (after o (λ t. ◌>>=◌ m6.specifier (λ x. ◌>>=◌ (semicolon j) (λ u. returns x))))) ≤ length g.behind) (sym (hit (word (codes "from")) g.next g.behind g.at (λ t. returns t) refused g.next (ap (λ v. kept_if v g.next) e)))
      (outcome-inside (λ x. ◌>>=◌ (semicolon j) (λ u. returns x)) (length g.behind) (m6.specifier (record { tokens = g.behind; last = g.next.span.end })) ((specifier {g = g} (record { tokens = g.behind; last = g.next.span.end })).inside g.behind)
      (λ x d. outcome-inside (λ u. returns x) (length d.tokens) (semicolon j d) ((semicolon_ {g = g} {b = None} i j h.inserting h.plain d).inside d.tokens) (λ u k. low (length k.tokens)))))
      (λ x c. low (length c.tokens))

  export_names : (at : ℕ) (s : Input) → BesideOr g (m6.export_names i at) (m6.export_names j at) s
  unfolding m6.export_names
  export_names at s = bind _ _ (group-must i j h.opens marks.LeftBrace _ _ _ _ (λ d at us last. refused-holds _) s (λ c. exports h.turns c) (nowhere s)) λ ns c. looks-taken (next_word (codes "from")) _ _ _ _ (λ d place. refl) (from-past at ns) c (bind _ _ (from_clause c) λ x d. done) (own_names at ns c)

  export_all : (at : ℕ) (s : Input) → BesideOr g (m6.export_all i at) (m6.export_all j at) s
  unfolding m6.export_all
  export_all at s = bind _ _ (from_clause s) λ x c. done

  default_value : (at : ℕ) (span : Span) (s : Input) → BesideOr g (m6.default_value i at span) (m6.default_value j at span) s
  unfolding m6.default_value
  default_value at span s = bind _ _ (assignment i j h of_module s) λ x c. bind _ _ (semicolon_ i j h.inserting h.plain c) λ t d. done

  export_default : (at : ℕ) (span : Span) (s : Input) → BesideOr g (m6.export_default i at span) (m6.export_default j at span) s
  unfolding m6.export_default
  export_default at span s = begins (modules'.default_from i at span) (modules'.default_from j at span) (default-value-stops i at span) s (λ place. must _ _ _ _ _ (λ d at. refl) (default-value-stops i at span) s (λ t c. bind _ _ (function i j h true _ c) λ k d. done)
      (must _ _ _ _ _ (λ d at. refl) (default-value-stops i at span) s (λ t c. bind _ _ (class i j h of_module true _ c) λ x d. done) (default_value at span s)))

  exported_declaration : (s : Input) → BesideOr g (m6.exported_declaration i) (m6.exported_declaration j) s
  unfolding m6.exported_declaration
  exported_declaration s = begins (modules'.declaration_from i) (modules'.declaration_from j) (λ d at us last. refused-holds _) s (λ place. must _ _ _ _ _ (λ d at. refl) (λ d at us last. refused-holds _) s (λ t c. variables_statement of_module _ Var c) (on_declaration of_module _ _ _ (λ d at us last. refused-holds _) s (nowhere s)))

  export_declaration : (at : ℕ) (s : Input) → BesideOr g (m6.export_declaration i at) (m6.export_declaration j at) s
  unfolding m6.export_declaration
  export_declaration at s = bind-idle _ _ (λ x. (λ d at us last. rests)) (exported_declaration s) λ x c. done

  export_item : (at : ℕ) (s : Input) → BesideOr g (m6.export_item i at) (m6.export_item j at) s
  unfolding m6.export_item m6.export_declaration m6.exported_declaration refused
  export_item at s = must _ _ _ _ _ (λ d at. refl) (λ d at us last. fault) s (λ t c. export_all at c) (must _ _ _ _ _ (λ d at. refl) (λ d at us last. fault) s (λ t c. export_default at _ c) (looks-must _ _ _ _ _ (λ d at us last. fault) s (export_names at s) (export_declaration at s)))

  -- ## Modules

  statement_item : (s : Input) → BesideOr g (m6.statement_item i) (m6.statement_item j) s
  unfolding m6.statement_item
  statement_item s = bind-idle _ _ (λ x. (λ d at us last. rests)) (statement of_module Listed s) λ x c. done

  one_item : (s : Input) → BesideOr g (m6.one_item i) (m6.one_item j) s
  unfolding m6.one_item
  one_item s = begins (modules'.item_from i) (modules'.item_from j) (statement-item-stops i) s (λ place. must _ _ _ _ _ (λ d at. refl) (statement-item-stops i) s (λ t c. import_item _ c) (must _ _ _ _ _ (λ d at. refl) (statement-item-stops i) s (λ t c. export_item _ c) (statement_item s)))

  items : {n m : ℕ} (w : Both n m) (s : Input) → Beside g (m6.items i n) (m6.items j m) s
  unfolding m6.items
  items over s = stopped
  items (turn {n = n} {m = m} w) s = looks-must _ _ _ _ _ (λ d at us last. choices'.stopped _ (one-item-stops i d at us last)) s done
      (bind-ends _ _ (λ x d at us last. choices'.stopped _ (items-stops i n d at us last)) (one_item s) λ x c. bind _ _ (items w c) λ y d. done)

  pub whole_module : (s : Input) → Beside g (m6.whole_module i) (m6.whole_module j) s
  unfolding m6.whole_module
  whole_module s = bind _ _ (items h.turns s) λ xs c. bind _ _ (take _ (λ d at. refl) c) λ t d. looks-must _ _ _ _ _ (λ d at us last. refused-holds _) d (nowhere d) done

-- ## All readers

length-append : (front us : List Filled) → length us ≤ length (front ++ us)
length-append [] us = low (length us)
length-append (t ∷ front) us = up (length us) (length (front ++ us)) (length-append front us)
  where
    up : (a b : ℕ) → a ≤ b → a ≤ suc b
    up a b h = omega arith

pub no-slack : Slack zero → ⊥
no-slack s = elim s [ ]

inside-of : {A : Type 0} {run : List Filled → Outcome A} {ts : List Filled} {o : Outcome A} → LocalOf (gain zero false) run ts o → length (left o) ≤ length ts
inside-of (took_so {c = c} front e r) = subst (λ us. length c.tokens ≤ length us) (sym e) (length-append front c.tokens)
inside-of (stops_so {us = us} front e r) = subst (λ vs. length us ≤ length vs) (sym e) (length-append front us)
inside-of (too_deep m) = absurd (no-slack m)
inside-of (too_long m) = absurd (no-slack m)
inside-of (not_inserted m) = absurd (false≢true m)

module _ (g : Gap) where
  pub crosses : (fuel room : ℕ) → Crosses g (m6.readers true fuel room) (m6.readers false fuel (suc room))
  unfolding m6.readers
  crosses fuel zero =
      let j : Inner = m6.readers false fuel zero in
      let l : Grown (gain zero false) j (m6.readers false (plus fuel zero) (plus zero zero)) = grown false false false fuel zero zero same_mode in
      let j' : Inner = m6.readers false (plus fuel zero) (plus zero zero) in
      record {
        inserting = refl;
        plain = refl;
        turns = both fuel;
        opens = refl;
        sequence = λ f s. record { across = λ s'. never-agrees (expression-limit _ s); inside = λ us. inside-of (x'.sequence j j' l f (record { tokens = us; last = s.last })); idle = λ at us. never-rests (expression-limit _ _) };
        assignment = λ f s. record { across = λ s'. never-agrees (expression-limit _ s); inside = λ us. inside-of (x'.assignment j j' l f (record { tokens = us; last = s.last })); idle = λ at us. never-rests (expression-limit _ _) };
        power = λ f s. record { across = λ s'. never-agrees (expression-limit _ s); inside = λ us. inside-of (x'.power j j' l f Among (record { tokens = us; last = s.last })); idle = λ at us. never-rests (expression-limit _ _) };
        unary = λ f s. record { across = λ s'. never-agrees (expression-limit _ s); inside = λ us. inside-of (x'.unary j j' l f (record { tokens = us; last = s.last })); idle = λ at us. never-rests (expression-limit _ _) };
        callee = λ f s. record { across = λ s'. never-agrees (operand-limit s); inside = λ us. inside-of (x'.chain j j' l f Callee (record { tokens = us; last = s.last })); idle = λ at us. never-rests (operand-limit _) };
        heritage = λ f s. record { across = λ s'. never-agrees (operand-limit s); inside = λ us. inside-of (x'.chain j j' l f Heritage (record { tokens = us; last = s.last })); idle = λ at us. never-rests (operand-limit _) };
        block = λ f s. record { across = λ s'. never-agrees fault; inside = λ us. inside-of (x'.block j j' l f (record { tokens = us; last = s.last })); idle = λ at us. never-rests fault };
        property = λ f s. record { across = λ s'. never-agrees fault; inside = λ us. inside-of (x'.property j j' l f (record { tokens = us; last = s.last })); idle = λ at us. never-rests fault };
        target = λ f s. record { across = λ s'. never-agrees fault; inside = λ us. inside-of (x'.binding j j' l f (record { tokens = us; last = s.last })); idle = λ at us. never-rests fault };
        part = λ f s. record { across = λ s'. never-agrees fault; inside = λ us. inside-of (x'.one_part j j' l f (record { tokens = us; last = s.last })); idle = λ at us. never-rests fault };
        object_part = λ f s. record { across = λ s'. never-agrees fault; inside = λ us. inside-of (x'.object_part j j' l f (record { tokens = us; last = s.last })); idle = λ at us. never-rests fault };
        variable = λ f s. record { across = λ s'. never-agrees fault; inside = λ us. inside-of (x'.initialized j j' l f f (record { tokens = us; last = s.last })); idle = λ at us. never-rests fault };
        member = λ f s. record { across = λ s'. never-agrees fault; inside = λ us. inside-of (x'.member j j' l f (record { tokens = us; last = s.last })); idle = λ at us. never-rests fault };
        statement = λ f stand s. record { across = λ s'. never-agrees (statement-limit f stand s); inside = λ us. inside-of (m'.statement j j' l f stand (record { tokens = us; last = s.last })); idle = λ at us. never-rests (statement-limit f stand _) };
        sequence_stops = λ f d at us last. expression-limit _ _;
        assignment_stops = λ f d at us last. expression-limit _ _;
        callee_stops = λ f d at us last. operand-limit _;
        block_stops = λ f. (λ d at us last. fault);
        property_stops = λ f. (λ d at us last. fault);
        part_stops = λ f. (λ d at us last. fault);
        object_part_stops = λ f. (λ d at us last. fault);
        member_stops = λ f. (λ d at us last. fault);
        statement_stops = λ f stand d at us last. statement-limit f stand _;
      }
  crosses fuel (suc room) =
      let i : Inner = m6.readers true fuel room in
      let j : Inner = m6.readers false fuel (suc room) in
      let deeper : Crosses g i j = crosses fuel room in
      record {
        inserting = refl;
        plain = refl;
        turns = both fuel;
        opens = refl;
        sequence = λ f s. sequence i j deeper f s;
        assignment = λ f s. assignment i j deeper f s;
        power = λ f s. power i j deeper f Among s;
        unary = λ f s. unary i j deeper f s;
        callee = λ f s. chain i j deeper f Callee s;
        heritage = λ f s. chain i j deeper f Heritage s;
        block = λ f s. block i j deeper f s;
        property = λ f s. property i j deeper f s;
        target = λ f s. binding i j deeper f s;
        part = λ f s. one_part i j deeper f s;
        object_part = λ f s. object_part i j deeper f s;
        variable = λ f s. initialized i j deeper f f s;
        member = λ f s. member i j deeper f s;
        statement = λ f stand s. statement i j deeper f stand s;
        sequence_stops = λ f. sequence-stops i f;
        assignment_stops = λ f. assignment-stops i f;
        callee_stops = λ f. chain-stops i f Callee;
        block_stops = λ f. block-stops i f;
        property_stops = λ f. property-stops i f;
        part_stops = λ f. part-stops i f;
        object_part_stops = λ f. object-part-stops i f;
        member_stops = λ f. member-stops i f;
        statement_stops = λ f stand. statement-stops i f stand;
      }
