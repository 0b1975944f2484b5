-- Each reader takes across a semicolon that is left out at a break, or at the end, what it takes with it.
use Rattle.std.proofs.Common.{◌≡◌, ℕ, zero, suc, ◌+◌, Bool, true, false, List, ◌∷◌, Option, Some, None, refl}
use Rattle.std.specs.Prelude.{codes, ◌&&◌}
use Rattle.es5_ast.specs.declared.operators.AssignOperator5.TheVariants as assign
use Rattle.es5_ast.specs.declared.operators.AssignOperator5.{AssignOperator5}
use Rattle.es5_ast.specs.declared.operators.UnaryOperator5.{UnaryOperator5}
use Rattle.es5_ast.specs.declared.operators.UpdateOperator5.{UpdateOperator5}
use Rattle.es5_ast.specs.declared.tree.Block5.{Block5}
use Rattle.es5_ast.specs.declared.tree.Case5.{Case5}
use Rattle.es5_ast.specs.declared.tree.Catch5.{Catch5}
use Rattle.es5_ast.specs.declared.tree.Declared5.{Declared5}
use Rattle.es5_ast.specs.declared.tree.Expr5.{Expr5}
use Rattle.es5_ast.specs.declared.tree.Identifier5.{Identifier5}
use Rattle.es5_ast.specs.declared.tree.Link5.{Link5}
use Rattle.es5_ast.specs.declared.tree.PlacedKey5.{PlacedKey5}
use Rattle.es5_reading.specs.Parser.{Input5, Outcome5, Syntax, Outside, Parser, after, returns, fails, ◌>>=◌, on, choose, if_next, take_as, mark, word, Read5, is_left, Inner5}
use Rattle.es5_ast.specs.declared.tree.ForFirst5.{ForFirst5}
use Rattle.es5_ast.specs.declared.tree.ForFirst5.TheVariants as first
use Rattle.es5_ast.specs.Lexical.{Token5}
use Rattle.es5_ast.specs.Grammar.{is_word}
use Rattle.es5_reading.specs.Expressions as e5
use Rattle.es5_reading.specs.Statements as s5
use Rattle.es5_reading.specs.Programs as p5
use Rattle.es5_reading.proofs.Posts.{took, fault, choose-holds, if-holds}
use Rattle.es5_reading.proofs.Follows.{Never}
use Rattle.es5_break_laws.specs.Breaks.{assignment as assigns, member as accesses, index as indexes, call as calls_, another, condition as asks, label as names}
use Rattle.es5_break_laws.proofs.Quiet.{mark-none, binary-none, assign-none, after-none, label-none, value-none}
use Rattle.es5_break_laws.proofs.Across.{semi, Gap, Across, AcrossOr, Stops, Idle, rests, stands, idle-bind, done, stopped, never-agrees, nowhere, either, may, must, take, looks-may, looks-must, begins, begins-free, group-must, group-may, bind, bind-idle, bind-ends, or-lost, looks-idle, semicolon_, Crosses}
use Rattle.es5_reading_laws.proofs.Places.{identifier_from, key_from, label_from, accessor_function_from, links_from, chain_from, postfix_from, unary_from, binary_body, conditional_from, assignment_from, sequence_from, property_from, block_from, declared_from, condition_from, cases_from, handler_from, statement_from}

-- ## What begins with no inserted semicolon

stops-after : {A B : Type 0} {o : Outcome5 A} (q : A → Parser B) → Never o → Never (after o q)
stops-after q (took h) = absurd h
stops-after q fault = fault

more-parameters-stops : (n : ℕ) → Stops (e5.more_parameters n)
unfolding e5.more_parameters e5.identifier
more-parameters-stops zero at us last = fault
more-parameters-stops (suc n) at us last = fault

module _ (i : Inner5) where
  head-stops : (place : ℕ) → Stops (e5.head i place)
  unfolding e5.head e5.primary e5.bracketed e5.no_expression
  head-stops place at us last = fault

  chain-stops : (calls : Bool) → Stops (e5.chain i calls)
  unfolding e5.chain
  chain-stops calls at us last = stops-after _ (head-stops at at us last)

  postfix-stops : Stops (e5.postfix i)
  unfolding e5.postfix
  postfix-stops at us last = stops-after _ (chain-stops true at us last)

  unary-stops : Stops (e5.unary i)
  unfolding e5.unary e5.unary_operators
  unary-stops at us last = postfix-stops at us last

  binary-stops : (k : Bool) (above level : ℕ) → Stops (e5.binary_from i k above level)
  unfolding e5.binary_from
  binary-stops k zero level at us last = unary-stops at us last
  binary-stops k (suc above) level at us last = stops-after _ (binary-stops k above (level + 1) at us last)

  assignment-stops : (k : Bool) → Stops (e5.assignment i k)
  unfolding e5.assignment e5.conditional
  assignment-stops k at us last = stops-after _ (stops-after _ (binary-stops k 10 3 at us last))

  sequence-stops : (k : Bool) → Stops (e5.sequence i k)
  unfolding e5.sequence
  sequence-stops k at us last = stops-after _ (assignment-stops k at us last)

  property-stops : Stops (e5.one_property i)
  unfolding e5.one_property e5.plain_property e5.key
  property-stops at us last = fault

  plain-stops : (inside top : Bool) (place : ℕ) → Stops (s5.plain_statement i inside top place)
  unfolding s5.plain_statement s5.expression_statement
  plain-stops inside top place at us last = stops-after _ (sequence-stops false at us last)

  jump-stops : (inside top : Bool) (place : ℕ) → Stops (s5.jump_statement i inside top place)
  unfolding s5.jump_statement
  jump-stops inside top place at us last = choose-holds _ _ inside _ (λ k. plain-stops inside top place at us last) (λ k. plain-stops inside top place at us last)

  compound-stops : (inside top : Bool) (place : ℕ) → Stops (s5.compound_statement i inside top place)
  unfolding s5.compound_statement
  compound-stops inside top place at us last = jump-stops inside top place at us last

  statement-stops : (inside top : Bool) → Stops (s5.statement i inside top)
  unfolding s5.statement
  statement-stops inside top at us last = compound-stops inside top at at us last

  program-stops : (n : ℕ) → Stops (p5.program i n)
  unfolding p5.program
  program-stops zero at us last = fault
  program-stops (suc n) at us last = stops-after _ (statement-stops false true at us last)

no-expression-never : (s : Input5) → Never (e5.no_expression s)
unfolding e5.no_expression
no-expression-never s = if-holds _ _ _ s (λ k. fault) (λ k. fault)

expression-limit : (s : Input5) → Never (e5.expression_at_limit s)
unfolding e5.expression_at_limit
expression-limit s = if-holds _ _ _ s (λ k. fault) (λ k. no-expression-never s)

callee-limit : (s : Input5) → Never (e5.callee_at_limit s)
unfolding e5.callee_at_limit
callee-limit s = if-holds _ _ _ s (λ k. fault) (λ k. no-expression-never s)

statement-limit : (inside : Bool) (s : Input5) → Never (s5.statement_at_limit inside s)
unfolding s5.statement_at_limit
statement-limit inside s = if-holds _ _ _ s (λ k. fault) (λ k. if-holds _ _ _ s (λ l. fault) (λ l. if-holds _ _ _ s (λ m. fault) (λ m. if-holds _ _ _ s (λ n. fault) (λ n. fault))))

-- the semicolon after an expression in the header of a for statement
abbrev semicolon_first : Read5 → Parser ForFirst5
semicolon_first x = do
  _ ← take_as (mark (codes ";"))
  returns (first.FirstExpression x.value)

in-stops : (x : Read5) → Stops (if_next (λ t. is_left x.shape && is_word (codes "in") t.kind) (fails (Outside 3)) (semicolon_first x))
in-stops x at us last = choose-holds (fails (Outside 3)) (semicolon_first x) (is_left x.shape && false) (record { tokens = semi at ∷ us; last = last }) (λ k. fault) (λ k. fault)

-- ## Parts

module _ {g : Gap} where
  identifier : (s : Input5) → Across g e5.identifier s
  unfolding e5.identifier
  identifier s = begins identifier_from (λ at us last. fault) s (λ place. bind _ (take _ (λ at. refl) s) λ x c. done)

  key : (s : Input5) → Across g e5.key s
  unfolding e5.key
  key s = begins key_from (λ at us last. fault) s (λ place. bind _ (take _ (λ at. refl) s) λ x c. done)

  label : (s : Input5) → Across g s5.optional_label s
  unfolding s5.optional_label
  label s = begins-free label_from (λ place place' at us last. refl) s (λ place. may _ _ _ (λ at. refl) (λ t k. label-none t k) s (λ name c. done) done)

  no_expression : (s : Input5) → Across g e5.no_expression s
  unfolding e5.no_expression
  no_expression s = looks-must _ _ _ (λ at us last. fault) s (nowhere s) (nowhere s)

  more_parameters : (n : ℕ) (s : Input5) → Across g (e5.more_parameters n) s
  unfolding e5.more_parameters
  more_parameters zero s = stopped _
  more_parameters (suc n) s = bind _ (identifier s) λ x c. must _ _ _ (λ at. refl) (λ at us last. fault) c (λ t d. bind _ (more_parameters n d) λ y k. done) (bind _ (take _ (λ at. refl) c) λ t d. done)

  accessor_parameters : (b : Bool) (s : Input5) → Across g (e5.accessor_parameters b) s
  unfolding e5.accessor_parameters e5.one_parameter e5.no_parameter
  accessor_parameters true s = bind _ (identifier s) λ x c. bind _ (take _ (λ at. refl) c) λ t d. done
  accessor_parameters false s = bind _ (take _ (λ at. refl) s) λ t d. done

  member_link : (place : ℕ) (s : Input5) → Across g (e5.member_link place) s
  unfolding e5.member_link
  member_link place s = bind _ (take _ (λ at. refl) s) λ x d. done

  catch_parameter : (s : Input5) → Across g s5.catch_parameter s
  unfolding s5.catch_parameter
  catch_parameter s = bind _ (identifier s) λ x c. bind _ (take _ (λ at. refl) c) λ u m. done

  list : (p : Parser Declared5) → ((s : Input5) → Across g p s) → (n : ℕ) (s : Input5) → Across g (s5.declared_list p n) s
  unfolding s5.declared_list
  list p f zero s = stopped _
  list p f (suc n) s = bind _ (f s) λ x c. may _ _ _ (λ at. refl) (λ t k. mark-none t k (codes ",") another) c (λ t d. bind _ (list p f n d) λ y m. done) done

  operands : (p : Parser Read5) → ((s : Input5) → Across g p s) → (k : Bool) (level n : ℕ) (s : Input5) → Across g (e5.operands p k level n) s
  unfolding e5.operands e5.binary_operators
  operands p f k level zero s = stopped _
  operands p f k level (suc n) s = may _ _ _ (λ at. refl) (λ t q. binary-none t q k level) s (λ op c. bind _ (f c) λ x d. bind _ (operands p f k level n d) λ y m. done) done

module _ {g : Gap} (i : Inner5) (h : Crosses g i) where
  parameters : (s : Input5) → Across g (e5.parameters i) s
  unfolding e5.parameters
  parameters s = must _ _ _ (λ at. refl) (more-parameters-stops i.fuel) s (λ t c. done) (more_parameters i.fuel s)

  statements-stops : (inside top : Bool) (n : ℕ) → Stops (e5.statements i inside top n)
  unfolding e5.statements
  statements-stops inside top zero at us last = fault
  statements-stops inside top (suc n) at us last = stops-after _ (h.statement_stops inside top at us last)

  statements : (inside top : Bool) (n : ℕ) (s : Input5) → Across g (e5.statements i inside top n) s
  unfolding e5.statements
  statements inside top zero s = stopped _
  statements inside top (suc n) s = must _ _ _ (λ at. refl) (λ at us last. stops-after _ (h.statement_stops inside top at us last)) s (λ t c. done)
      (bind-ends _ (λ x at us last. stops-after _ (statements-stops inside top n at us last)) (h.statement inside top s) λ x c. bind _ (statements inside top n c) λ y d. done)

  body : (s : Input5) → Across g (e5.body i) s
  unfolding e5.body
  body s = group-must i _ _ _ (λ at us last. fault) s (λ c. statements true true i.fuel c) (nowhere s)

  rest_of_function : (place : ℕ) (name : Option Identifier5) (s : Input5) → Across g (e5.rest_of_function i place name) s
  unfolding e5.rest_of_function
  rest_of_function place name s = bind _ (group-must i _ _ _ (λ at us last. fault) s (λ c. parameters c) (nowhere s)) λ x c. bind _ (body c) λ y d. done

  function_expression : (place : ℕ) (s : Input5) → Across g (e5.function_expression i place) s
  unfolding e5.function_expression e5.identifier
  function_expression place s = looks-must _ _ _ (λ at us last. fault) s (rest_of_function place None s) (bind _ (identifier s) λ x c. rest_of_function place (Some x) c)

  accessor_function : (b : Bool) (s : Input5) → Across g (e5.accessor_function i b) s
  unfolding e5.accessor_function
  accessor_function b s = begins (accessor_function_from i b) (λ at us last. fault) s (λ place. bind _ (group-must i _ _ _ (λ at us last. fault) s (λ c. accessor_parameters b c) (nowhere s)) λ x c. bind _ (body c) λ y d. done)

  accessor : (place : ℕ) (b : Bool) (s : Input5) → Across g (e5.accessor i place b) s
  unfolding e5.accessor
  accessor place b s = bind _ (key s) λ x c. bind _ (accessor_function b c) λ y d. done

  properties : (n : ℕ) (s : Input5) → Across g (e5.properties i n) s
  unfolding e5.properties
  properties zero s = stopped _
  properties (suc n) s = must _ _ _ (λ at. refl) (λ at us last. stops-after _ (h.property_stops at us last)) s (λ t c. done)
      (bind _ (h.property s) λ x c. must _ _ _ (λ at. refl) (λ at us last. fault) c (λ t d. bind _ (properties n d) λ y k. done) (bind _ (take _ (λ at. refl) c) λ t d. done))

  elements : (n : ℕ) (s : Input5) → Across g (e5.elements i n) s
  unfolding e5.elements
  elements zero s = stopped _
  elements (suc n) s = must _ _ _ (λ at. refl) (λ at us last. stops-after _ (h.assignment_stops false at us last)) s (λ t c. done)
      (must _ _ _ (λ at. refl) (λ at us last. stops-after _ (h.assignment_stops false at us last)) s (λ t c. bind _ (elements n c) λ x d. done)
      (bind _ (h.assignment false s) λ x c. must _ _ _ (λ at. refl) (λ at us last. fault) c (λ t d. bind _ (elements n d) λ y k. done) (bind _ (take _ (λ at. refl) c) λ t d. done)))

  more-arguments-stops : (n : ℕ) → Stops (e5.more_arguments i n)
  unfolding e5.more_arguments
  more-arguments-stops zero at us last = fault
  more-arguments-stops (suc n) at us last = stops-after _ (h.assignment_stops false at us last)

  more_arguments : (n : ℕ) (s : Input5) → Across g (e5.more_arguments i n) s
  unfolding e5.more_arguments
  more_arguments zero s = stopped _
  more_arguments (suc n) s = bind _ (h.assignment false s) λ x c. must _ _ _ (λ at. refl) (λ at us last. fault) c (λ t d. bind _ (more_arguments n d) λ y k. done) (bind _ (take _ (λ at. refl) c) λ t d. done)

  arguments : (s : Input5) → Across g (e5.arguments i) s
  unfolding e5.arguments
  arguments s = must _ _ _ (λ at. refl) (more-arguments-stops i.fuel) s (λ t c. done) (more_arguments i.fuel s)

  -- ## Expressions

  bracketed : (place : ℕ) (s : Input5) → Across g (e5.bracketed i place) s
  unfolding e5.bracketed e5.no_expression
  bracketed place s = group-must i _ _ _ (λ at us last. fault) s (λ c. bind _ (elements i.fuel c) λ x d. done) (group-must i _ _ _ (λ at us last. fault) s (λ c. bind _ (properties i.fuel c) λ x d. done) (no_expression s))

  grouped_ : (s : Input5) → Across g (e5.grouped i) s
  unfolding e5.grouped
  grouped_ s = bind _ (h.sequence false s) λ x d. bind _ (take _ (λ at. refl) d) λ t k. done

  primary : (place : ℕ) (s : Input5) → Across g (e5.primary i place) s
  unfolding e5.primary e5.bracketed e5.no_expression
  primary place s = must _ _ _ (λ at. refl) (λ at us last. fault) s (λ t c. done) (must _ _ _ (λ at. refl) (λ at us last. fault) s (λ t c. done) (must _ _ _ (λ at. refl) (λ at us last. fault) s (λ t c. done)
      (must _ _ _ (λ at. refl) (λ at us last. fault) s (λ t c. bind _ (function_expression place c) λ x d. done) (group-must i _ _ _ (λ at us last. fault) s (λ c. grouped_ c) (bracketed place s)))))

  after_callee : (place : ℕ) (x : Expr5) (s : Input5) → Across g (e5.after_callee i place x) s
  unfolding e5.after_callee
  after_callee place x s = group-may i _ _ _ calls_ s (λ c. bind _ (arguments c) λ y d. done) done

  head : (place : ℕ) (s : Input5) → Across g (e5.head i place) s
  unfolding e5.head e5.primary e5.bracketed e5.no_expression
  head place s = must _ _ _ (λ at. refl) (λ at us last. fault) s (λ t c. bind _ (h.callee c) λ x d. after_callee place _ d) (primary place s)

  index_link : (place : ℕ) (s : Input5) → Across g (e5.index_link i place) s
  unfolding e5.index_link
  index_link place s = bind _ (h.sequence false s) λ x d. bind _ (take _ (λ at. refl) d) λ t k. done

  call_link : (place : ℕ) (s : Input5) → Across g (e5.call_link i place) s
  unfolding e5.call_link
  call_link place s = bind _ (arguments s) λ x d. done

  links-free : (calls : Bool) (more : Parser (List Link5)) (place place' at : ℕ) (us : List Token5) (last : ℕ) → links_from i calls more place (record { tokens = semi at ∷ us; last = last }) ≡ links_from i calls more place' (record { tokens = semi at ∷ us; last = last })
  links-free true more place place' at us last = refl
  links-free false more place place' at us last = refl

  links : (calls : Bool) (n : ℕ) (s : Input5) → Across g (e5.links i calls n) s
  unfolding e5.links
  links calls zero s = stopped _
  links calls (suc n) s = begins-free (links_from i calls (e5.links i calls n)) (links-free calls (e5.links i calls n)) s (λ place. may _ _ _ (λ at. refl) (λ t k. mark-none t k (codes ".") accesses) s (λ t c. bind _ (member_link place c) λ x d. bind _ (links calls n d) λ y k. done)
      (group-may i _ _ _ indexes s (λ c. bind _ (index_link place c) λ x d. bind _ (links calls n d) λ y k. done)
      (either calls _ _ s (group-may i _ _ _ calls_ s (λ c. bind _ (call_link place c) λ x d. bind _ (links calls n d) λ y k. done) done) done)))

  chain : (calls : Bool) (s : Input5) → Across g (e5.chain i calls) s
  unfolding e5.chain
  chain calls s = begins (chain_from i calls) (chain-stops i calls) s (λ place. bind _ (head place s) λ x c. bind _ (links calls i.fuel c) λ y d. done)

  postfix : (s : Input5) → Across g (e5.postfix i) s
  unfolding e5.postfix
  postfix s = begins (postfix_from i) (postfix-stops i) s (λ place. bind _ (chain true s) λ x c. may _ _ _ (λ at. refl) (λ t k. after-none t k) c (λ op d. done) done)

  prefixed : (place : ℕ) (op : UnaryOperator5) (s : Input5) → Across g (e5.prefixed i place op) s
  unfolding e5.prefixed
  prefixed place op s = bind _ (h.unary s) λ x d. done

  updated : (place : ℕ) (op : UpdateOperator5) (s : Input5) → Across g (e5.updated i place op) s
  unfolding e5.updated
  updated place op s = bind _ (h.unary s) λ x d. done

  unary : (s : Input5) → Across g (e5.unary i) s
  unfolding e5.unary e5.unary_operators
  unary s = begins (unary_from i) (unary-stops i) s (λ place. must _ _ _ (λ at. refl) (λ at us last. postfix-stops i at us last) s (λ op c. prefixed place op c) (must _ _ _ (λ at. refl) (postfix-stops i) s (λ op c. updated place op c) (postfix s)))

  binary_from : (k : Bool) (above level : ℕ) (s : Input5) → Across g (e5.binary_from i k above level) s
  unfolding e5.binary_from
  binary_from k zero level s = unary s
  binary_from k (suc above) level s = begins (binary_body i k above level) (binary-stops i k (suc above) level) s
      (λ place. bind _ (binary_from k above (level + 1) s) λ x c. bind _ (operands _ (λ d. binary_from k above (level + 1) d) k level i.fuel c) λ y d. done)

  branches : (k : Bool) (place : ℕ) (x : Expr5) (s : Input5) → Across g (e5.branches i k place x) s
  unfolding e5.branches
  branches k place x s = bind _ (h.assignment false s) λ y c. bind _ (take _ (λ at. refl) c) λ t d. bind _ (h.assignment k d) λ z m. done

  conditional-stops : (k : Bool) → Stops (e5.conditional i k)
  unfolding e5.conditional
  conditional-stops k at us last = stops-after _ (binary-stops i k 10 3 at us last)

  conditional : (k : Bool) (s : Input5) → Across g (e5.conditional i k) s
  unfolding e5.conditional
  conditional k s = begins (conditional_from i k) (conditional-stops k) s (λ place. bind _ (binary_from k 10 3 s) λ x c. may _ _ _ (λ at. refl) (λ t q. mark-none t q (codes "?") asks) c (λ t d. branches k place _ d) done)

  assigned : (k : Bool) (place : ℕ) (x : Expr5) (op : AssignOperator5) (s : Input5) → Across g (e5.assigned i k place x op) s
  unfolding e5.assigned
  assigned k place x op s = bind _ (h.assignment k s) λ y d. done

  assignment : (k : Bool) (s : Input5) → Across g (e5.assignment i k) s
  unfolding e5.assignment e5.assign_operators
  assignment k s = begins (assignment_from i k) (assignment-stops i k) s (λ place. bind _ (conditional k s) λ x c. either (is_left x.shape) _ _ c (may _ _ _ (λ at. refl) (λ t q. assign-none t q) c (λ op d. assigned k place _ op d) done) done)

  parts : (k : Bool) (n : ℕ) (s : Input5) → Across g (e5.parts i k n) s
  unfolding e5.parts
  parts k zero s = stopped _
  parts k (suc n) s = bind _ (assignment k s) λ x c. may _ _ _ (λ at. refl) (λ t q. mark-none t q (codes ",") another) c (λ t d. bind _ (parts k n d) λ y m. done) done

  more_parts : (k : Bool) (place : ℕ) (x : Expr5) (s : Input5) → Across g (e5.more_parts i k place x) s
  unfolding e5.more_parts
  more_parts k place x s = bind _ (parts k i.fuel s) λ y d. done

  sequence : (k : Bool) (s : Input5) → Across g (e5.sequence i k) s
  unfolding e5.sequence
  sequence k s = begins (sequence_from i k) (sequence-stops i k) s (λ place. bind _ (assignment k s) λ x c. may _ _ _ (λ at. refl) (λ t q. mark-none t q (codes ",") another) c (λ t d. more_parts k place _ d) done)

  value_of_key : (place : ℕ) (k : PlacedKey5) (s : Input5) → Across g (e5.value_of_key i place k) s
  unfolding e5.value_of_key
  value_of_key place k s = bind _ (assignment false s) λ x d. done

  plain_property : (place : ℕ) (s : Input5) → Across g (e5.plain_property i place) s
  unfolding e5.plain_property
  plain_property place s = bind _ (key s) λ k c. bind _ (take _ (λ at. refl) c) λ t d. value_of_key place k d

  after_accessor_word : (place : ℕ) (b : Bool) (s : Input5) → Across g (e5.after_accessor_word i place b) s
  unfolding e5.after_accessor_word e5.accessor e5.key
  after_accessor_word place b s = must _ _ _ (λ at. refl) (λ at us last. fault) s (λ t c. value_of_key place _ c) (accessor place b s)

  property : (s : Input5) → Across g (e5.one_property i) s
  unfolding e5.one_property e5.plain_property e5.key
  property s = begins (property_from i) (property-stops i) s (λ place. must _ _ _ (λ at. refl) (λ at us last. fault) s (λ b c. after_accessor_word place b c) (plain_property place s))

  initialized : (k : Bool) (place : ℕ) (name : Identifier5) (s : Input5) → Across g (s5.initialized i k place name) s
  unfolding s5.initialized
  initialized k place name s = bind _ (h.assignment k s) λ y d. done

  declared : (k : Bool) (s : Input5) → Across g (s5.one_declared i k) s
  unfolding s5.one_declared e5.identifier
  declared k s = begins (declared_from i k) (λ at us last. fault) s (λ place. bind _ (identifier s) λ x c. may _ _ _ (λ at. refl) (λ t q. mark-none t q (codes "=") (assigns assign.Assign)) c (λ t d. initialized k place x d) done)

  -- ## Statements

  block : (inside : Bool) (s : Input5) → Across g (s5.block i inside) s
  unfolding s5.block
  block inside s = begins (block_from i inside) (λ at us last. fault) s (λ place. group-must i _ _ _ (λ at us last. fault) s (λ c. bind _ (statements inside false i.fuel c) λ x d. done) (nowhere s))

  var_statement : (place : ℕ) (s : Input5) → AcrossOr g (s5.var_statement i place) s
  unfolding s5.var_statement
  var_statement place s = bind _ (list _ (λ c. declared false c) i.fuel s) λ x c. bind _ (semicolon_ i h.inserting c) λ u d. done

  paren : (s : Input5) → Across g (s5.parenthesized i) s
  unfolding s5.parenthesized
  paren s = group-must i _ _ _ (λ at us last. fault) s (λ c. bind _ (h.sequence false c) λ x d. bind _ (take _ (λ at. refl) d) λ t m. done) (nowhere s)

  condition : (inside : Bool) (s : Input5) → AcrossOr g (s5.condition i inside) s
  unfolding s5.condition
  condition inside s = begins (condition_from i inside) (λ at us last. fault) s (λ place. bind _ (take _ (λ at. refl) s) λ t c. bind _ (paren c) λ x d. bind-idle _ (λ y at us last. rests) (h.statement inside false d) λ y m. done)

  otherwise-idle : (inside : Bool) (n : ℕ) → Idle (s5.otherwise i inside n)
  unfolding s5.otherwise
  otherwise-idle inside zero at us last = stands
  otherwise-idle inside (suc n) at us last = rests

  otherwise : (inside : Bool) (n : ℕ) (s : Input5) → AcrossOr g (s5.otherwise i inside n) s
  unfolding s5.otherwise
  otherwise inside zero s = stopped _
  otherwise inside (suc n) s = or-lost _ _ _ (λ at. refl) (λ at us last. rests) s
      (λ t c. looks-must _ _ _ (λ at us last. stops-after _ (h.statement_stops inside false at us last)) c
      (bind-idle _ (λ x at us last. idle-bind _ (otherwise-idle inside n at us last) (λ r at us last. rests)) (condition inside c) λ x d. bind-idle _ (λ r at us last. rests) (otherwise inside n d) λ r k. done)
      (bind-idle _ (λ x at us last. rests) (h.statement inside false c) λ x d. done))
      done

  if_statement : (inside : Bool) (place : ℕ) (s : Input5) → AcrossOr g (s5.if_statement i inside place) s
  unfolding s5.if_statement
  if_statement inside place s = bind-idle _ (λ x at us last. idle-bind _ (otherwise-idle inside i.fuel at us last) (λ r at us last. rests)) (condition inside s) λ x c. bind-idle _ (λ r at us last. rests) (otherwise inside i.fuel c) λ r d. done

  do_statement : (inside : Bool) (place : ℕ) (s : Input5) → AcrossOr g (s5.do_statement i inside place) s
  unfolding s5.do_statement
  do_statement inside place s = bind-ends _ (λ x at us last. fault) (h.statement inside false s) λ x c. bind _ (take _ (λ at. refl) c) λ t d. bind _ (paren d) λ y k. bind _ (semicolon_ i h.inserting k) λ u m. done

  while_statement : (inside : Bool) (place : ℕ) (s : Input5) → AcrossOr g (s5.while_statement i inside place) s
  unfolding s5.while_statement
  while_statement inside place s = bind _ (paren s) λ x c. bind-idle _ (λ y at us last. rests) (h.statement inside false c) λ y d. done

  after_first : (d : Declared5) (s : Input5) → Across g (s5.after_first_declared i d) s
  unfolding s5.after_first_declared
  after_first d s = must _ _ _ (λ at. refl) (λ at us last. fault) s (λ t c. bind _ (list _ (λ m. h.declared true m) i.fuel c) λ y m. bind _ (take _ (λ at. refl) m) λ v o. done) (bind _ (take _ (λ at. refl) s) λ v o. done)

  for_var : (s : Input5) → Across g (s5.for_var i) s
  unfolding s5.for_var s5.after_first_declared
  for_var s = bind _ (h.declared true s) λ x d. looks-must _ _ _ (λ at us last. fault) d (nowhere d) (after_first x d)

  for_expression : (s : Input5) → Across g (s5.for_expression i) s
  unfolding s5.for_expression
  for_expression s = bind _ (h.sequence true s) λ x c. looks-must _ _ _ (in-stops x) c (nowhere c) (bind _ (take _ (λ at. refl) c) λ v o. done)

  for-expression-stops : Stops (s5.for_expression i)
  unfolding s5.for_expression
  for-expression-stops at us last = stops-after _ (h.sequence_stops true at us last)

  for_first : (s : Input5) → Across g (s5.for_first_part i) s
  unfolding s5.for_first_part
  for_first s = must _ _ _ (λ at. refl) (λ at us last. for-expression-stops at us last) s (λ t c. done) (must _ _ _ (λ at. refl) for-expression-stops s (λ t c. for_var c) (for_expression s))

  optional : (p : List ℕ) (s : Input5) → Across g (s5.optional i p) s
  unfolding s5.optional
  optional p s = must _ _ _ (λ at. refl) (λ at us last. stops-after _ (h.sequence_stops false at us last)) s (λ t c. done) (bind _ (h.sequence false s) λ x c. bind _ (take _ (λ at. refl) c) λ t d. done)

  for_header : (s : Input5) → Across g (s5.for_header i) s
  unfolding s5.for_header
  for_header s = bind _ (for_first s) λ x c. bind _ (optional _ c) λ y d. bind _ (optional _ d) λ z m. done

  for_statement : (inside : Bool) (place : ℕ) (s : Input5) → AcrossOr g (s5.for_statement i inside place) s
  unfolding s5.for_statement
  for_statement inside place s = bind _ (group-must i _ _ _ (λ at us last. fault) s (λ c. for_header c) (nowhere s)) λ x c. bind-idle _ (λ y at us last. rests) (h.statement inside false c) λ y d. done

  returned : (s : Input5) → Across g (s5.returned i) s
  unfolding s5.returned
  returned s = looks-may _ _ _ (λ at. refl) (λ t k. value-none t k) s (bind _ (sequence false s) λ x c. done) done

  continue_statement : (place : ℕ) (s : Input5) → AcrossOr g (s5.continue_statement i place) s
  unfolding s5.continue_statement
  continue_statement place s = bind _ (label s) λ x c. bind _ (semicolon_ i h.inserting c) λ t d. done

  break_statement : (place : ℕ) (s : Input5) → AcrossOr g (s5.break_statement i place) s
  unfolding s5.break_statement
  break_statement place s = bind _ (label s) λ x c. bind _ (semicolon_ i h.inserting c) λ t d. done

  return_statement : (place : ℕ) (s : Input5) → AcrossOr g (s5.return_statement i place) s
  unfolding s5.return_statement
  return_statement place s = bind _ (returned s) λ x c. bind _ (semicolon_ i h.inserting c) λ t d. done

  throw_statement : (place : ℕ) (s : Input5) → AcrossOr g (s5.throw_statement i place) s
  unfolding s5.throw_statement
  throw_statement place s = looks-must _ _ _ (λ at us last. stops-after _ (sequence-stops i false at us last)) s (nowhere s) (bind _ (sequence false s) λ x c. bind _ (semicolon_ i h.inserting c) λ t d. done)

  debugger_statement : (place : ℕ) (s : Input5) → AcrossOr g (s5.debugger_statement i place) s
  unfolding s5.debugger_statement
  debugger_statement place s = bind _ (semicolon_ i h.inserting s) λ t c. done

  in-case-idle : (inside : Bool) (n : ℕ) → Idle (s5.in_case i inside n)
  unfolding s5.in_case
  in-case-idle inside zero at us last = stands
  in-case-idle inside (suc n) at us last = rests

  in_case : (inside : Bool) (n : ℕ) (s : Input5) → AcrossOr g (s5.in_case i inside n) s
  unfolding s5.in_case
  in_case inside zero s = stopped _
  in_case inside (suc n) s = looks-idle _ _ _ (λ at us last. rests) s done
      (bind-idle _ (λ x at us last. idle-bind _ (in-case-idle inside n at us last) (λ y at us last. rests)) (h.statement inside false s) λ x c. bind-idle _ (λ y at us last. rests) (in_case inside n c) λ y d. done)

  case_clause : (inside : Bool) (place : ℕ) (s : Input5) → AcrossOr g (s5.case_clause i inside place) s
  unfolding s5.case_clause
  case_clause inside place s = bind _ (h.sequence false s) λ x c. bind _ (take _ (λ at. refl) c) λ t d. bind-idle _ (λ y at us last. rests) (in_case inside i.fuel d) λ y k. done

  default_clause : (inside : Bool) (place : ℕ) (s : Input5) → AcrossOr g (s5.default_clause i inside place) s
  unfolding s5.default_clause
  default_clause inside place s = bind _ (take _ (λ at. refl) s) λ t c. bind-idle _ (λ y at us last. rests) (in_case inside i.fuel c) λ y d. done

  default-stops : (b : Bool) (p : Token5 → Parser (List Case5)) → Stops (choose b (on (word (codes "default")) p (fails Syntax)) (fails Syntax))
  default-stops true p at us last = fault
  default-stops false p at us last = fault

  cases-stops : (inside b : Bool) (n : ℕ) → Stops (s5.cases i inside b n)
  unfolding s5.cases
  cases-stops inside b zero at us last = fault
  cases-stops inside b (suc n) at us last = default-stops b _ at us last

  cases : (inside b : Bool) (n : ℕ) (s : Input5) → Across g (s5.cases i inside b n) s
  unfolding s5.cases
  cases inside b zero s = stopped _
  cases inside b (suc n) s = begins (cases_from i inside b (s5.cases i inside b n) (s5.cases i inside false n)) (λ at us last. default-stops b _ at us last) s
      (λ place. must _ _ _ (λ at. refl) (λ at us last. default-stops b _ at us last) s (λ t c. done)
      (must _ _ _ (λ at. refl) (λ at us last. default-stops b _ at us last) s (λ t c. bind-ends _ (λ x at us last. stops-after _ (cases-stops inside b n at us last)) (case_clause inside place c) λ x d. bind _ (cases inside b n d) λ y k. done)
      (either b _ _ s (must _ _ _ (λ at. refl) (λ at us last. fault) s (λ t c. bind-ends _ (λ x at us last. stops-after _ (cases-stops inside false n at us last)) (default_clause inside place c) λ x d. bind _ (cases inside false n d) λ y k. done) (nowhere s)) (nowhere s))))

  switch_statement : (inside : Bool) (place : ℕ) (s : Input5) → AcrossOr g (s5.switch_statement i inside place) s
  unfolding s5.switch_statement
  switch_statement inside place s = bind _ (paren s) λ x c. bind _ (group-must i _ _ _ (λ at us last. fault) c (λ d. cases inside true i.fuel d) (nowhere c)) λ y d. done

  handler : (inside : Bool) (s : Input5) → Across g (s5.handler i inside) s
  unfolding s5.handler
  handler inside s = begins (handler_from i inside) (λ at us last. fault) s (λ place. bind _ (take _ (λ at. refl) s) λ t c. bind _ (group-must i _ _ _ (λ at us last. fault) c (λ d. catch_parameter d) (nowhere c)) λ x d. bind _ (block inside d) λ b k. done)

  after_handler : (inside : Bool) (place : ℕ) (b : Block5) (x : Catch5) (s : Input5) → AcrossOr g (s5.after_handler i inside place b x) s
  unfolding s5.after_handler
  after_handler inside place b x s = or-lost _ _ _ (λ at. refl) (λ at us last. rests) s (λ t c. bind _ (block inside c) λ y d. done) done

  only_finally : (inside : Bool) (place : ℕ) (b : Block5) (s : Input5) → AcrossOr g (s5.only_finally i inside place b) s
  unfolding s5.only_finally
  only_finally inside place b s = bind _ (take _ (λ at. refl) s) λ t c. bind _ (block inside c) λ y d. done

  try_statement : (inside : Bool) (place : ℕ) (s : Input5) → AcrossOr g (s5.try_statement i inside place) s
  unfolding s5.try_statement s5.only_finally
  try_statement inside place s = bind _ (block inside s) λ b c. looks-must _ _ _ (λ at us last. fault) c (bind _ (handler inside c) λ x d. after_handler inside place b x d) (only_finally inside place b c)

  declaration : (place : ℕ) (s : Input5) → AcrossOr g (s5.declaration i place) s
  unfolding s5.declaration
  declaration place s = bind _ (identifier s) λ x c. bind _ (rest_of_function place _ c) λ y d. done

  expression_end : (place : ℕ) (x : Expr5) (s : Input5) → AcrossOr g (s5.expression_end i place x) s
  unfolding s5.expression_end
  expression_end place x s = bind _ (semicolon_ i h.inserting s) λ t c. done

  labelled : (inside : Bool) (place : ℕ) (n : Identifier5) (s : Input5) → AcrossOr g (s5.labelled i inside place n) s
  unfolding s5.labelled
  labelled inside place n s = bind-idle _ (λ x at us last. rests) (h.statement inside false s) λ x c. done

  label_or_end : (inside : Bool) (place : ℕ) (n : Option Identifier5) (x : Expr5) (s : Input5) → AcrossOr g (s5.label_or_end i inside place n x) s
  label_or_end inside place (Some n) x s = may _ _ _ (λ at. refl) (λ t k. mark-none t k (codes ":") names) s (λ t c. labelled inside place n c) (expression_end place x s)
  label_or_end inside place None x s = expression_end place x s

  expression_statement : (inside : Bool) (place : ℕ) (s : Input5) → AcrossOr g (s5.expression_statement i inside place) s
  unfolding s5.expression_statement
  expression_statement inside place s = bind _ (sequence false s) λ x c. label_or_end inside place _ _ c

  plain_statement : (inside top : Bool) (place : ℕ) (s : Input5) → AcrossOr g (s5.plain_statement i inside top place) s
  unfolding s5.plain_statement s5.expression_statement
  plain_statement inside top place s = looks-must _ _ _ (λ at us last. stops-after _ (sequence-stops i false at us last)) s (either top _ _ s (must _ _ _ (λ at. refl) (λ at us last. fault) s (λ t c. declaration place c) (nowhere s)) (nowhere s))
      (looks-must _ _ _ (λ at us last. stops-after _ (sequence-stops i false at us last)) s (nowhere s) (expression_statement inside place s))

  after-jumps-stops : (inside top : Bool) (place : ℕ) → Stops (choose inside (on (word (codes "return")) (λ _. s5.return_statement i place) (s5.plain_statement i inside top place)) (s5.plain_statement i inside top place))
  after-jumps-stops inside top place at us last = choose-holds _ _ inside _ (λ k. plain-stops i inside top place at us last) (λ k. plain-stops i inside top place at us last)

  jump_statement : (inside top : Bool) (place : ℕ) (s : Input5) → AcrossOr g (s5.jump_statement i inside top place) s
  unfolding s5.jump_statement
  jump_statement inside top place s = must _ _ _ (λ at. refl) (λ at us last. after-jumps-stops inside top place at us last) s (λ t c. continue_statement place c)
      (must _ _ _ (λ at. refl) (λ at us last. after-jumps-stops inside top place at us last) s (λ t c. break_statement place c)
      (must _ _ _ (λ at. refl) (λ at us last. after-jumps-stops inside top place at us last) s (λ t c. throw_statement place c)
      (must _ _ _ (λ at. refl) (after-jumps-stops inside top place) s (λ t c. debugger_statement place c)
      (either inside _ _ s (must _ _ _ (λ at. refl) (plain-stops i inside top place) s (λ t c. return_statement place c) (plain_statement inside top place s)) (plain_statement inside top place s)))))

  compound_statement : (inside top : Bool) (place : ℕ) (s : Input5) → AcrossOr g (s5.compound_statement i inside top place) s
  unfolding s5.compound_statement
  compound_statement inside top place s = must _ _ _ (λ at. refl) (λ at us last. jump-stops i inside top place at us last) s (λ t c. do_statement inside place c)
      (must _ _ _ (λ at. refl) (λ at us last. jump-stops i inside top place at us last) s (λ t c. while_statement inside place c)
      (must _ _ _ (λ at. refl) (λ at us last. jump-stops i inside top place at us last) s (λ t c. for_statement inside place c)
      (must _ _ _ (λ at. refl) (λ at us last. jump-stops i inside top place at us last) s (λ t c. switch_statement inside place c)
      (must _ _ _ (λ at. refl) (jump-stops i inside top place) s (λ t c. try_statement inside place c) (jump_statement inside top place s)))))

  block_statement : (inside : Bool) (s : Input5) → AcrossOr g (s5.block_statement i inside) s
  unfolding s5.block_statement
  block_statement inside s = bind _ (block inside s) λ x c. done

  statement : (inside top : Bool) (s : Input5) → AcrossOr g (s5.statement i inside top) s
  unfolding s5.statement
  statement inside top s = begins (statement_from i inside top) (statement-stops i inside top) s (λ place. looks-must _ _ _ (λ at us last. compound-stops i inside top place at us last) s (block_statement inside s)
      (looks-must _ _ _ (λ at us last. compound-stops i inside top place at us last) s (if_statement inside place s)
      (must _ _ _ (λ at. refl) (λ at us last. compound-stops i inside top place at us last) s (λ t c. done) (must _ _ _ (λ at. refl) (compound-stops i inside top place) s (λ t c. var_statement place c) (compound_statement inside top place s)))))

  pub program : (n : ℕ) (s : Input5) → Across g (p5.program i n) s
  unfolding p5.program
  program zero s = stopped _
  program (suc n) s = looks-must _ _ _ (λ at us last. stops-after _ (statement-stops i false true at us last)) s
      (bind-ends _ (λ x at us last. stops-after _ (program-stops i n at us last)) (statement false true s) λ x c. bind _ (program n c) λ y d. done) done

-- ## All readers

module _ (g : Gap) where
  pub crosses : (fuel room : ℕ) → Crosses g (p5.readers true fuel room)
  unfolding p5.readers
  crosses fuel zero = record {
    inserting = refl;
    sequence = λ k s s'. never-agrees (expression-limit s);
    assignment = λ k s s'. never-agrees (expression-limit s);
    unary = λ s s'. never-agrees (expression-limit s);
    callee = λ s s'. never-agrees (callee-limit s);
    property = λ s. stopped _;
    declared = λ k s. stopped _;
    statement = λ inside top s s'. never-agrees (statement-limit inside s);
    sequence_stops = λ k at us last. expression-limit _;
    assignment_stops = λ k at us last. expression-limit _;
    callee_stops = λ at us last. callee-limit _;
    property_stops = λ at us last. fault;
    statement_stops = λ inside top at us last. statement-limit inside _;
  }
  crosses fuel (suc room) =
      let i : Inner5 = p5.readers true fuel room in
      let deeper : Crosses g i = crosses fuel room in
      record {
        inserting = refl;
        sequence = λ k s. sequence i deeper k s;
        assignment = λ k s. assignment i deeper k s;
        unary = λ s. unary i deeper s;
        callee = λ s. chain i deeper false s;
        property = λ s. property i deeper s;
        declared = λ k s. declared i deeper k s;
        statement = λ inside top s. statement i deeper inside top s;
        sequence_stops = λ k. sequence-stops i k;
        assignment_stops = λ k. assignment-stops i k;
        callee_stops = chain-stops i false;
        property_stops = property-stops i;
        statement_stops = λ inside top. statement-stops i inside top;
      }
