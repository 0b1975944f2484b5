-- Each reader looks at no token past the first one that it doesn't take, and reads the same where more may open and loops have more
-- turns.
use Rattle.std.proofs.Common.{◌≡◌, ℕ, zero, suc, ◌+◌, Bool, true, false, List, Option, Some, None, refl, sym, subst}
use Rattle.std.proofs.lemmas.Bool.{false≢true}
use Rattle.es5_ast.specs.declared.operators.AssignOperator5.{AssignOperator5}
use Rattle.es5_ast.specs.declared.operators.UnaryOperator5.{UnaryOperator5}
use Rattle.es5_ast.specs.declared.operators.UpdateOperator5.{UpdateOperator5}
use Rattle.es5_ast.specs.declared.tree.Declared5.{Declared5}
use Rattle.es5_ast.specs.declared.tree.Expr5.{Expr5}
use Rattle.es5_ast.specs.declared.tree.Identifier5.{Identifier5}
use Rattle.es5_ast.specs.declared.tree.PlacedKey5.{PlacedKey5}
use Rattle.es5_reading.specs.Parser.{Input5, Outcome5, Syntax, Parser, fails, choose, Read5, is_left, Inner5, on_group, semicolon, inserts}
use Rattle.es5_reading.specs.Expressions as e5
use Rattle.es5_reading.specs.Statements as s5
use Rattle.es5_reading.proofs.Follows.{plus}
use Rattle.es5_reading_laws.proofs.Locality.{More, Local, LocalOf, bind, done, stops, left_out, either, next, take, looks, looks_so, begins, insertable, Opens, group, endless}
use Rattle.es5_reading_laws.proofs.Rows.{division, with-word, in-word, in-word-if}
use Rattle.es5_reading_laws.proofs.Places.{identifier_from, key_from, label_from, accessor_function_from, links_from, chain_from, postfix_from, unary_from, binary_body, conditional_from, assignment_from, sequence_from, property_from, block_from, declared_from, condition_from, cases_from, handler_from, statement_from}

-- ## The readers

-- the second may do more: so many constructs more may open, and each loop has so many turns more
pub record Grown (l : More) (i j : Inner5) : Type 0 where
  pub mode : i.inserting ≡ j.inserting
  pub turns : j.fuel ≡ plus i.fuel l.turns
  pub opens : Opens l i.may_open j.may_open
  pub sequence : (k : Bool) (s : Input5) → Local l (i.sequence k) (j.sequence k) s
  pub assignment : (k : Bool) (s : Input5) → Local l (i.assignment k) (j.assignment k) s
  pub unary : (s : Input5) → Local l i.unary j.unary s
  pub callee : (s : Input5) → Local l i.callee j.callee s
  pub property : (s : Input5) → Local l i.property j.property s
  pub declared : (k : Bool) (s : Input5) → Local l (i.declared k) (j.declared k) s
  pub statement : (inside top : Bool) → (top ≡ true → i.may_open ≡ true) → (s : Input5) → Local l (i.statement inside top) (j.statement inside top) s

module _ (l : More) (i j : Inner5) (h : Grown l i j) where
  with_turns : {A : Type 0} {o : Outcome5 A} (p : ℕ → Parser A) (s : Input5) → LocalOf l (λ us. p (plus i.fuel l.turns) (record { tokens = us; last = s.last })) s.tokens o → LocalOf l (λ us. p j.fuel (record { tokens = us; last = s.last })) s.tokens o
  with_turns {o = o} p s r = subst (λ n. LocalOf l (λ us. p n (record { tokens = us; last = s.last })) s.tokens o) (sym h.turns) r

  grouped_ : {A : Type 0} (m : List ℕ) (p p' q q' : Parser A) (s : Input5) → ((c : Input5) → Local l p p' c) → Local l q q' s → Local l (on_group i m p q) (on_group j m p' q') s
  grouped_ m p p' q q' s f g = group i j h.opens m p p' q q' s (λ c e. f c) g

  -- a statement under another one
  under : (inside : Bool) (s : Input5) → Local l (i.statement inside false) (j.statement inside false) s
  under inside s = h.statement inside false (λ e. absurd (false≢true e)) s

  identifier : (s : Input5) → Local l e5.identifier e5.identifier s
  unfolding e5.identifier
  identifier s = begins identifier_from identifier_from s (λ at. bind _ _ (take _ s) λ x c. done)

  key : (s : Input5) → Local l e5.key e5.key s
  unfolding e5.key
  key s = begins key_from key_from s (λ at. bind _ _ (take _ s) λ x c. done)

  label : (s : Input5) → Local l s5.optional_label s5.optional_label s
  unfolding s5.optional_label
  label s = begins label_from label_from s (λ at. next _ _ _ _ _ s (λ t c. done) done)

  pub no_expression : (s : Input5) → Local l e5.no_expression e5.no_expression s
  unfolding e5.no_expression
  no_expression s = looks_so _ _ _ _ _ s (λ e. left_out (division s.tokens e)) stops

  accessor_parameters : (b : Bool) (s : Input5) → Local l (e5.accessor_parameters b) (e5.accessor_parameters b) s
  unfolding e5.accessor_parameters e5.one_parameter e5.no_parameter
  accessor_parameters true s = bind _ _ (identifier s) λ x c. bind _ _ (take _ c) λ t d. done
  accessor_parameters false s = bind _ _ (take _ s) λ t d. done

  semicolon_ : (s : Input5) → Local l (semicolon i) (semicolon j) s
  unfolding semicolon
  semicolon_ s = next _ _ _ _ _ s (λ t c. done) (subst (λ b. Local l (choose i.inserting inserts (fails Syntax)) (choose b inserts (fails Syntax)) s) h.mode (either i.inserting _ _ _ _ s (insertable _ _ _ _ s done stops) stops))

  more_parameters : (n : ℕ) (s : Input5) → Local l (e5.more_parameters n) (e5.more_parameters (plus n l.turns)) s
  unfolding e5.more_parameters
  more_parameters zero s = endless (λ n. e5.more_parameters n) l (λ c. refl) s
  more_parameters (suc n) s = bind _ _ (identifier s) λ x c. next _ _ _ _ _ c (λ t d. bind _ _ (more_parameters n d) λ y k. done) (bind _ _ (take _ c) λ t d. done)

  parameters : (s : Input5) → Local l (e5.parameters i) (e5.parameters j) s
  unfolding e5.parameters
  parameters s = next _ _ _ _ _ s (λ t c. done) (with_turns (λ n. e5.more_parameters n) s (more_parameters i.fuel s))

  statements : (inside top : Bool) → (top ≡ true → i.may_open ≡ true) → (n : ℕ) (s : Input5) → Local l (e5.statements i inside top n) (e5.statements j inside top (plus n l.turns)) s
  unfolding e5.statements
  statements inside top w zero s = endless (λ n. e5.statements j inside top n) l (λ c. refl) s
  statements inside top w (suc n) s = next _ _ _ _ _ s (λ t c. done) (bind _ _ (h.statement inside top w s) λ x c. bind _ _ (statements inside top w n c) λ y d. done)

  body : (s : Input5) → Local l (e5.body i) (e5.body j) s
  unfolding e5.body
  body s = group i j h.opens _ _ _ _ _ s (λ c e. with_turns (λ n. e5.statements j true true n) c (statements true true (λ k. e) i.fuel c)) stops

  rest_of_function : (at : ℕ) (name : Option Identifier5) (s : Input5) → Local l (e5.rest_of_function i at name) (e5.rest_of_function j at name) s
  unfolding e5.rest_of_function
  rest_of_function at name s = bind _ _ (grouped_ _ _ _ _ _ s (λ c. parameters c) stops) λ x c. bind _ _ (body c) λ y d. done

  function_expression : (at : ℕ) (s : Input5) → Local l (e5.function_expression i at) (e5.function_expression j at) s
  unfolding e5.function_expression
  function_expression at s = looks _ _ _ _ _ s (rest_of_function at None s) (bind _ _ (identifier s) λ x c. rest_of_function at (Some x) c)

  accessor_function : (b : Bool) (s : Input5) → Local l (e5.accessor_function i b) (e5.accessor_function j b) s
  unfolding e5.accessor_function
  accessor_function b s = begins (accessor_function_from i b) (accessor_function_from j b) s (λ at. bind _ _ (grouped_ _ _ _ _ _ s (λ c. accessor_parameters b c) stops) λ x c. bind _ _ (body c) λ y d. done)

  accessor : (at : ℕ) (b : Bool) (s : Input5) → Local l (e5.accessor i at b) (e5.accessor j at b) s
  unfolding e5.accessor
  accessor at b s = bind _ _ (key s) λ x c. bind _ _ (accessor_function b c) λ y d. done

  properties : (n : ℕ) (s : Input5) → Local l (e5.properties i n) (e5.properties j (plus n l.turns)) s
  unfolding e5.properties
  properties zero s = endless (λ n. e5.properties j n) l (λ c. refl) s
  properties (suc n) s = next _ _ _ _ _ s (λ t c. done) (bind _ _ (h.property s) λ x c. next _ _ _ _ _ c (λ t d. bind _ _ (properties n d) λ y k. done) (bind _ _ (take _ c) λ t d. done))

  elements : (n : ℕ) (s : Input5) → Local l (e5.elements i n) (e5.elements j (plus n l.turns)) s
  unfolding e5.elements
  elements zero s = endless (λ n. e5.elements j n) l (λ c. refl) s
  elements (suc n) s = next _ _ _ _ _ s (λ t c. done) (next _ _ _ _ _ s (λ t c. bind _ _ (elements n c) λ x d. done) (bind _ _ (h.assignment false s) λ x c. next _ _ _ _ _ c (λ t d. bind _ _ (elements n d) λ y k. done) (bind _ _ (take _ c) λ t d. done)))

  more_arguments : (n : ℕ) (s : Input5) → Local l (e5.more_arguments i n) (e5.more_arguments j (plus n l.turns)) s
  unfolding e5.more_arguments
  more_arguments zero s = endless (λ n. e5.more_arguments j n) l (λ c. refl) s
  more_arguments (suc n) s = bind _ _ (h.assignment false s) λ x c. next _ _ _ _ _ c (λ t d. bind _ _ (more_arguments n d) λ y k. done) (bind _ _ (take _ c) λ t d. done)

  arguments : (s : Input5) → Local l (e5.arguments i) (e5.arguments j) s
  unfolding e5.arguments
  arguments s = next _ _ _ _ _ s (λ t c. done) (with_turns (λ n. e5.more_arguments j n) s (more_arguments i.fuel s))

  bracketed : (at : ℕ) (s : Input5) → Local l (e5.bracketed i at) (e5.bracketed j at) s
  unfolding e5.bracketed
  bracketed at s = grouped_ _ _ _ _ _ s (λ c. bind _ _ (with_turns (λ n. e5.elements j n) c (elements i.fuel c)) λ x d. done) (grouped_ _ _ _ _ _ s (λ c. bind _ _ (with_turns (λ n. e5.properties j n) c (properties i.fuel c)) λ x d. done) (no_expression s))

  primary : (at : ℕ) (s : Input5) → Local l (e5.primary i at) (e5.primary j at) s
  unfolding e5.primary e5.grouped
  primary at s = next _ _ _ _ _ s (λ t c. done) (next _ _ _ _ _ s (λ t c. done) (next _ _ _ _ _ s (λ t c. done) (next _ _ _ _ _ s (λ t c. bind _ _ (function_expression at c) λ x d. done)
      (grouped_ _ _ _ _ _ s (λ c. bind _ _ (h.sequence false c) λ x d. bind _ _ (take _ d) λ t k. done) (bracketed at s)))))

  head : (at : ℕ) (s : Input5) → Local l (e5.head i at) (e5.head j at) s
  unfolding e5.head e5.after_callee
  head at s = next _ _ _ _ _ s (λ t c. bind _ _ (h.callee c) λ x d. grouped_ _ _ _ _ _ d (λ k. bind _ _ (arguments k) λ y l. done) done) (primary at s)

  member_link : (at : ℕ) (s : Input5) → Local l (e5.member_link at) (e5.member_link at) s
  unfolding e5.member_link
  member_link at s = bind _ _ (take _ s) λ x d. done

  index_link : (at : ℕ) (s : Input5) → Local l (e5.index_link i at) (e5.index_link j at) s
  unfolding e5.index_link
  index_link at s = bind _ _ (h.sequence false s) λ x d. bind _ _ (take _ d) λ t k. done

  call_link : (at : ℕ) (s : Input5) → Local l (e5.call_link i at) (e5.call_link j at) s
  unfolding e5.call_link
  call_link at s = bind _ _ (arguments s) λ x d. done

  links : (calls : Bool) (n : ℕ) (s : Input5) → Local l (e5.links i calls n) (e5.links j calls (plus n l.turns)) s
  unfolding e5.links
  links calls zero s = endless (λ n. e5.links j calls n) l (λ c. refl) s
  links calls (suc n) s = begins (links_from i calls (e5.links i calls n)) (links_from j calls (e5.links j calls (plus n l.turns))) s (λ at. next _ _ _ _ _ s (λ t c. bind _ _ (member_link at c) λ x d. bind _ _ (links calls n d) λ y k. done)
      (grouped_ _ _ _ _ _ s (λ c. bind _ _ (index_link at c) λ x d. bind _ _ (links calls n d) λ y k. done)
      (either calls _ _ _ _ s (grouped_ _ _ _ _ _ s (λ c. bind _ _ (call_link at c) λ x d. bind _ _ (links calls n d) λ y k. done) done) done)))

  pub chain : (calls : Bool) (s : Input5) → Local l (e5.chain i calls) (e5.chain j calls) s
  unfolding e5.chain
  chain calls s = begins (chain_from i calls) (chain_from j calls) s (λ at. bind _ _ (head at s) λ x c. bind _ _ (with_turns (λ n. e5.links j calls n) c (links calls i.fuel c)) λ y d. done)

  postfix : (s : Input5) → Local l (e5.postfix i) (e5.postfix j) s
  unfolding e5.postfix
  postfix s = begins (postfix_from i) (postfix_from j) s (λ at. bind _ _ (chain true s) λ x c. next _ _ _ _ _ c (λ op d. done) done)

  prefixed : (at : ℕ) (op : UnaryOperator5) (s : Input5) → Local l (e5.prefixed i at op) (e5.prefixed j at op) s
  unfolding e5.prefixed
  prefixed at op s = bind _ _ (h.unary s) λ x d. done

  updated : (at : ℕ) (op : UpdateOperator5) (s : Input5) → Local l (e5.updated i at op) (e5.updated j at op) s
  unfolding e5.updated
  updated at op s = bind _ _ (h.unary s) λ x d. done

  pub unary : (s : Input5) → Local l (e5.unary i) (e5.unary j) s
  unfolding e5.unary
  unary s = begins (unary_from i) (unary_from j) s (λ at. next _ _ _ _ _ s (λ op c. prefixed at op c) (next _ _ _ _ _ s (λ op c. updated at op c) (postfix s)))

  operands : (p q : Parser Read5) → ((s : Input5) → Local l (p) (q) s) → (k : Bool) (level n : ℕ) (s : Input5) → Local l (e5.operands p k level n) (e5.operands q k level (plus n l.turns)) s
  unfolding e5.operands
  operands p q f k level zero s = endless (λ n. e5.operands q k level n) l (λ c. refl) s
  operands p q f k level (suc n) s = next _ _ _ _ _ s (λ op c. bind _ _ (f c) λ x d. bind _ _ (operands p q f k level n d) λ y l. done) done

  binary_from : (k : Bool) (above level : ℕ) (s : Input5) → Local l (e5.binary_from i k above level) (e5.binary_from j k above level) s
  unfolding e5.binary_from
  binary_from k zero level s = unary s
  binary_from k (suc above) level s = begins (binary_body i k above level) (binary_body j k above level) s
      (λ at. bind _ _ (binary_from k above (level + 1) s) λ x c. bind _ _ (with_turns (λ n. e5.operands (e5.binary_from j k above (level + 1)) k level n) c (operands _ _ (λ d. binary_from k above (level + 1) d) k level i.fuel c)) λ y d. done)

  branches : (k : Bool) (at : ℕ) (x : Expr5) (s : Input5) → Local l (e5.branches i k at x) (e5.branches j k at x) s
  unfolding e5.branches
  branches k at x s = bind _ _ (h.assignment false s) λ y c. bind _ _ (take _ c) λ t d. bind _ _ (h.assignment k d) λ z m. done

  conditional : (k : Bool) (s : Input5) → Local l (e5.conditional i k) (e5.conditional j k) s
  unfolding e5.conditional
  conditional k s = begins (conditional_from i k) (conditional_from j k) s (λ at. bind _ _ (binary_from k 10 3 s) λ x c. next _ _ _ _ _ c (λ t d. branches k at x.value d) done)

  assigned : (k : Bool) (at : ℕ) (x : Expr5) (op : AssignOperator5) (s : Input5) → Local l (e5.assigned i k at x op) (e5.assigned j k at x op) s
  unfolding e5.assigned
  assigned k at x op s = bind _ _ (h.assignment k s) λ y d. done

  pub assignment : (k : Bool) (s : Input5) → Local l (e5.assignment i k) (e5.assignment j k) s
  unfolding e5.assignment
  assignment k s = begins (assignment_from i k) (assignment_from j k) s (λ at. bind _ _ (conditional k s) λ x c. either (is_left x.shape) _ _ _ _ c (next _ _ _ _ _ c (λ op d. assigned k at x.value op d) done) done)

  parts : (k : Bool) (n : ℕ) (s : Input5) → Local l (e5.parts i k n) (e5.parts j k (plus n l.turns)) s
  unfolding e5.parts
  parts k zero s = endless (λ n. e5.parts j k n) l (λ c. refl) s
  parts k (suc n) s = bind _ _ (assignment k s) λ x c. next _ _ _ _ _ c (λ t d. bind _ _ (parts k n d) λ y l. done) done

  more_parts : (k : Bool) (at : ℕ) (x : Expr5) (s : Input5) → Local l (e5.more_parts i k at x) (e5.more_parts j k at x) s
  unfolding e5.more_parts
  more_parts k at x s = bind _ _ (with_turns (λ n. e5.parts j k n) s (parts k i.fuel s)) λ y d. done

  pub sequence : (k : Bool) (s : Input5) → Local l (e5.sequence i k) (e5.sequence j k) s
  unfolding e5.sequence
  sequence k s = begins (sequence_from i k) (sequence_from j k) s (λ at. bind _ _ (assignment k s) λ x c. next _ _ _ _ _ c (λ t d. more_parts k at x.value d) done)

  value_of_key : (at : ℕ) (k : PlacedKey5) (s : Input5) → Local l (e5.value_of_key i at k) (e5.value_of_key j at k) s
  unfolding e5.value_of_key
  value_of_key at k s = bind _ _ (assignment false s) λ x d. done

  plain_property : (at : ℕ) (s : Input5) → Local l (e5.plain_property i at) (e5.plain_property j at) s
  unfolding e5.plain_property
  plain_property at s = bind _ _ (key s) λ k c. bind _ _ (take _ c) λ t d. value_of_key at k d

  after_accessor_word : (at : ℕ) (b : Bool) (s : Input5) → Local l (e5.after_accessor_word i at b) (e5.after_accessor_word j at b) s
  unfolding e5.after_accessor_word
  after_accessor_word at b s = next _ _ _ _ _ s (λ t c. value_of_key at _ c) (accessor at b s)

  pub property : (s : Input5) → Local l (e5.one_property i) (e5.one_property j) s
  unfolding e5.one_property
  property s = begins (property_from i) (property_from j) s (λ at. next _ _ _ _ _ s (λ b c. after_accessor_word at b c) (plain_property at s))

  initialized : (k : Bool) (at : ℕ) (name : Identifier5) (s : Input5) → Local l (s5.initialized i k at name) (s5.initialized j k at name) s
  unfolding s5.initialized
  initialized k at name s = bind _ _ (h.assignment k s) λ y d. done

  pub declared : (k : Bool) (s : Input5) → Local l (s5.one_declared i k) (s5.one_declared j k) s
  unfolding s5.one_declared
  declared k s = begins (declared_from i k) (declared_from j k) s (λ at. bind _ _ (identifier s) λ x c. next _ _ _ _ _ c (λ t d. initialized k at x d) done)

  block : (inside : Bool) (s : Input5) → Local l (s5.block i inside) (s5.block j inside) s
  unfolding s5.block
  block inside s = begins (block_from i inside) (block_from j inside) s (λ at. grouped_ _ _ _ _ _ s (λ c. bind _ _ (with_turns (λ n. e5.statements j inside false n) c (statements inside false (λ k. absurd (false≢true k)) i.fuel c)) λ x d. done) stops)

  list : (p q : Parser Declared5) → ((s : Input5) → Local l (p) (q) s) → (n : ℕ) (s : Input5) → Local l (s5.declared_list p n) (s5.declared_list q (plus n l.turns)) s
  unfolding s5.declared_list
  list p q f zero s = endless (λ n. s5.declared_list q n) l (λ c. refl) s
  list p q f (suc n) s = bind _ _ (f s) λ x c. next _ _ _ _ _ c (λ t d. bind _ _ (list p q f n d) λ y l. done) done

  var_statement : (at : ℕ) (s : Input5) → Local l (s5.var_statement i at) (s5.var_statement j at) s
  unfolding s5.var_statement
  var_statement at s = bind _ _ (with_turns (λ n. s5.declared_list (s5.one_declared j false) n) s (list _ _ (λ c. declared false c) i.fuel s)) λ x c. bind _ _ (semicolon_ c) λ u d. done

  paren : (s : Input5) → Local l (s5.parenthesized i) (s5.parenthesized j) s
  unfolding s5.parenthesized
  paren s = grouped_ _ _ _ _ _ s (λ c. bind _ _ (h.sequence false c) λ x d. bind _ _ (take _ d) λ t l. done) stops

  condition : (inside : Bool) (s : Input5) → Local l (s5.condition i inside) (s5.condition j inside) s
  unfolding s5.condition
  condition inside s = begins (condition_from i inside) (condition_from j inside) s (λ at. bind _ _ (take _ s) λ t c. bind _ _ (paren c) λ x d. bind _ _ (under inside d) λ y m. done)

  otherwise : (inside : Bool) (n : ℕ) (s : Input5) → Local l (s5.otherwise i inside n) (s5.otherwise j inside (plus n l.turns)) s
  unfolding s5.otherwise
  otherwise inside zero s = endless (λ n. s5.otherwise j inside n) l (λ c. refl) s
  otherwise inside (suc n) s = next _ _ _ _ _ s (λ t c. looks _ _ _ _ _ c (bind _ _ (condition inside c) λ x d. bind _ _ (otherwise inside n d) λ y l. done) (bind _ _ (under inside c) λ x d. done)) done

  if_statement : (inside : Bool) (at : ℕ) (s : Input5) → Local l (s5.if_statement i inside at) (s5.if_statement j inside at) s
  unfolding s5.if_statement
  if_statement inside at s = bind _ _ (condition inside s) λ x c. bind _ _ (with_turns (λ n. s5.otherwise j inside n) c (otherwise inside i.fuel c)) λ y d. done

  for_first : (s : Input5) → Local l (s5.for_first_part i) (s5.for_first_part j) s
  unfolding s5.for_first_part s5.for_var s5.after_first_declared s5.for_expression
  for_first s = next _ _ _ _ _ s (λ t c. done) (next _ _ _ _ _ s
      (λ t c. bind _ _ (h.declared true c) λ x d. looks_so _ _ _ _ _ d (λ e. left_out (in-word d.tokens e)) (next _ _ _ _ _ d (λ u b. bind _ _ (with_turns (λ n. s5.declared_list (j.declared true) n) b (list _ _ (λ m. h.declared true m) i.fuel b)) λ y m. bind _ _ (take _ m) λ v o. done) (bind _ _ (take _ d) λ v o. done)))
      (bind _ _ (h.sequence true s) λ x c. looks_so _ _ _ _ _ c (λ e. left_out (in-word-if (is_left x.shape) c.tokens e)) (bind _ _ (take _ c) λ v o. done)))

  optional : (p : List ℕ) (s : Input5) → Local l (s5.optional i p) (s5.optional j p) s
  unfolding s5.optional
  optional p s = next _ _ _ _ _ s (λ t c. done) (bind _ _ (h.sequence false s) λ x c. bind _ _ (take _ c) λ t d. done)

  for_header : (s : Input5) → Local l (s5.for_header i) (s5.for_header j) s
  unfolding s5.for_header
  for_header s = bind _ _ (for_first s) λ x c. bind _ _ (optional _ c) λ y d. bind _ _ (optional _ d) λ z l. done

  returned : (s : Input5) → Local l (s5.returned i) (s5.returned j) s
  unfolding s5.returned
  returned s = looks _ _ _ _ _ s (bind _ _ (sequence false s) λ x c. done) done

  in_case : (inside : Bool) (n : ℕ) (s : Input5) → Local l (s5.in_case i inside n) (s5.in_case j inside (plus n l.turns)) s
  unfolding s5.in_case
  in_case inside zero s = endless (λ n. s5.in_case j inside n) l (λ c. refl) s
  in_case inside (suc n) s = looks _ _ _ _ _ s done (bind _ _ (under inside s) λ x c. bind _ _ (in_case inside n c) λ y d. done)

  case_clause : (inside : Bool) (at : ℕ) (s : Input5) → Local l (s5.case_clause i inside at) (s5.case_clause j inside at) s
  unfolding s5.case_clause
  case_clause inside at s = bind _ _ (h.sequence false s) λ x d. bind _ _ (take _ d) λ u b. bind _ _ (with_turns (λ n. s5.in_case j inside n) b (in_case inside i.fuel b)) λ y m. done

  default_clause : (inside : Bool) (at : ℕ) (s : Input5) → Local l (s5.default_clause i inside at) (s5.default_clause j inside at) s
  unfolding s5.default_clause
  default_clause inside at s = bind _ _ (take _ s) λ u b. bind _ _ (with_turns (λ n. s5.in_case j inside n) b (in_case inside i.fuel b)) λ y m. done

  cases : (inside may : Bool) (n : ℕ) (s : Input5) → Local l (s5.cases i inside may n) (s5.cases j inside may (plus n l.turns)) s
  unfolding s5.cases
  cases inside may zero s = endless (λ n. s5.cases j inside may n) l (λ c. refl) s
  cases inside may (suc n) s = begins (cases_from i inside may (s5.cases i inside may n) (s5.cases i inside false n)) (cases_from j inside may (s5.cases j inside may (plus n l.turns)) (s5.cases j inside false (plus n l.turns))) s (λ at. next _ _ _ _ _ s (λ t c. done) (next _ _ _ _ _ s
      (λ t c. bind _ _ (case_clause inside at c) λ x d. bind _ _ (cases inside may n d) λ y m. done)
      (either may _ _ _ _ s (next _ _ _ _ _ s (λ t c. bind _ _ (default_clause inside at c) λ x d. bind _ _ (cases inside false n d) λ y m. done) stops) stops)))

  catch_parameter : (s : Input5) → Local l s5.catch_parameter s5.catch_parameter s
  unfolding s5.catch_parameter
  catch_parameter s = bind _ _ (identifier s) λ x c. bind _ _ (take _ c) λ u m. done

  handler : (inside : Bool) (s : Input5) → Local l (s5.handler i inside) (s5.handler j inside) s
  unfolding s5.handler
  handler inside s = begins (handler_from i inside) (handler_from j inside) s (λ at. bind _ _ (take _ s) λ t c. bind _ _ (grouped_ _ _ _ _ _ c (λ d. catch_parameter d) stops) λ x d. bind _ _ (block inside d) λ y m. done)

  try_statement : (inside : Bool) (at : ℕ) (s : Input5) → Local l (s5.try_statement i inside at) (s5.try_statement j inside at) s
  unfolding s5.try_statement s5.after_handler s5.only_finally
  try_statement inside at s = bind _ _ (block inside s) λ x c. looks _ _ _ _ _ c (bind _ _ (handler inside c) λ y d. next _ _ _ _ _ d (λ t l. bind _ _ (block inside l) λ z m. done) done) (bind _ _ (take _ c) λ t d. bind _ _ (block inside d) λ y l. done)

  compound : (inside top : Bool) (at : ℕ) (s : Input5) → Local l (s5.jump_statement i inside top at) (s5.jump_statement j inside top at) s → Local l (s5.compound_statement i inside top at) (s5.compound_statement j inside top at) s
  unfolding s5.compound_statement s5.do_statement s5.while_statement s5.for_statement s5.switch_statement
  compound inside top at s jumps =
      next _ _ _ _ _ s (λ t c. bind _ _ (under inside c) λ x d. bind _ _ (take _ d) λ u l. bind _ _ (paren l) λ y m. bind _ _ (semicolon_ m) λ v o. done)
      (next _ _ _ _ _ s (λ t c. bind _ _ (paren c) λ x d. bind _ _ (under inside d) λ y l. done)
      (next _ _ _ _ _ s (λ t c. bind _ _ (grouped_ _ _ _ _ _ c (λ d. for_header d) stops) λ x d. bind _ _ (under inside d) λ y l. done)
      (next _ _ _ _ _ s (λ t c. bind _ _ (paren c) λ x d. bind _ _ (grouped_ _ _ _ _ _ d (λ b. with_turns (λ n. s5.cases j inside true n) b (cases inside true i.fuel b)) stops) λ y l. done)
      (next _ _ _ _ _ s (λ t c. try_statement inside at c) jumps))))

  label_or_end : (inside : Bool) (at : ℕ) (o : Option Identifier5) (x : Expr5) (s : Input5) → Local l (s5.label_or_end i inside at o x) (s5.label_or_end j inside at o x) s
  unfolding s5.labelled s5.expression_end
  label_or_end inside at (Some y) x s = next _ _ _ _ _ s (λ t c. bind _ _ (under inside c) λ z d. done) (bind _ _ (semicolon_ s) λ u d. done)
  label_or_end inside at None x s = bind _ _ (semicolon_ s) λ u d. done

  plain : (inside top : Bool) (at : ℕ) (s : Input5) → Local l (s5.plain_statement i inside top at) (s5.plain_statement j inside top at) s
  unfolding s5.plain_statement s5.declaration s5.expression_statement
  plain inside top at s = looks _ _ _ _ _ s (either top _ _ _ _ s (next _ _ _ _ _ s (λ t c. bind _ _ (identifier c) λ x d. bind _ _ (rest_of_function _ _ d) λ y l. done) stops) stops)
      (looks_so _ _ _ _ _ s (λ e. left_out (with-word s.tokens e)) (bind _ _ (sequence false s) λ x c. label_or_end inside at _ _ c))

  jump : (inside top : Bool) (at : ℕ) (s : Input5) → Local l (s5.jump_statement i inside top at) (s5.jump_statement j inside top at) s
  unfolding s5.jump_statement s5.continue_statement s5.break_statement s5.throw_statement s5.debugger_statement s5.return_statement
  jump inside top at s =
      next _ _ _ _ _ s (λ t c. bind _ _ (label c) λ x d. bind _ _ (semicolon_ d) λ u l. done) (next _ _ _ _ _ s (λ t c. bind _ _ (label c) λ x d. bind _ _ (semicolon_ d) λ u l. done)
      (next _ _ _ _ _ s (λ t c. looks _ _ _ _ _ c stops (bind _ _ (sequence false c) λ x d. bind _ _ (semicolon_ d) λ u l. done)) (next _ _ _ _ _ s (λ t c. bind _ _ (semicolon_ c) λ u l. done)
      (either inside _ _ _ _ s (next _ _ _ _ _ s (λ t c. bind _ _ (returned c) λ x d. bind _ _ (semicolon_ d) λ u l. done) (plain inside top at s)) (plain inside top at s)))))

  pub statement : (inside top : Bool) (s : Input5) → Local l (s5.statement i inside top) (s5.statement j inside top) s
  unfolding s5.statement s5.block_statement
  statement inside top s = begins (statement_from i inside top) (statement_from j inside top) s (λ at. looks _ _ _ _ _ s (bind _ _ (block inside s) λ x c. done) (looks _ _ _ _ _ s (if_statement inside at s)
      (next _ _ _ _ _ s (λ t c. done) (next _ _ _ _ _ s (λ t c. var_statement at c) (compound inside top at s (jump inside top at s))))))
