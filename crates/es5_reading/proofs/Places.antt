-- A reader leaves a rest of the tokens that it was given, also where it stops at a fault.
use Rattle.std.proofs.Common.{◌≡◌, ℕ, zero, suc, Bool, true, false, cond, List, [], ◌∷◌, ◌++◌, Option, Some, None, refl, ap, subst}
use Rattle.es5_reading.specs.Parser.{Input5, Stop5, Outcome5, Took, Fault, Parser, after, on, on_taken, choose, next_is, if_next, take_as, mark, Inner5, on_group, semicolon, is_insertable, Read5, is_left}
use Rattle.es5_ast.specs.Lexical.{Token5}
use Rattle.es5_ast.specs.declared.tree.Declared5.{Declared5}
use Rattle.es5_ast.specs.declared.tree.Stat5.{Stat5}
use Rattle.es5_ast.specs.declared.tree.Identifier5.{Identifier5}
use Rattle.es5_ast.specs.declared.tree.Expr5.{Expr5}
use Rattle.es5_reading.specs.Expressions as e
use Rattle.es5_reading.specs.Statements as s5
use Rattle.es5_ast.specs.Depth.{most_open}
use Rattle.es5_reading.specs.Programs.{readers, program, second_fault, directive_fault, unless_fault, script, is_directive, continues}
use Rattle.es5_reading.specs.Laws.{FaultsAreInside}

pub data Rest : List Token5 → List Token5 → Type 0 where
  all : {ts : List Token5} → Rest ts ts
  less : {t : Token5} {ts us : List Token5} → Rest ts us → Rest (t ∷ ts) us

rest-of : {ts us vs : List Token5} → Rest ts us → Rest us vs → Rest ts vs
rest-of all h = h
rest-of (less g) h = less (rest-of g h)

pub data Leaves {A : Type 0} (ts : List Token5) : Outcome5 A → Type 0 where
  took_rest : {x : A} {c : Input5} → Rest ts c.tokens → Leaves ts (Took x c)
  fault_rest : {stop : Stop5} {us : List Token5} → Rest ts us → Leaves ts (Fault stop us)

further : {A : Type 0} {ts us : List Token5} {o : Outcome5 A} → Rest ts us → Leaves us o → Leaves ts o
further h (took_rest r) = took_rest (rest-of h r)
further h (fault_rest r) = fault_rest (rest-of h r)

bind : {A B : Type 0} {ts : List Token5} {o : Outcome5 A} {q : A → Parser B} → Leaves ts o → ((x : A) (c : Input5) → Leaves c.tokens (q x c)) → Leaves ts (after o q)
bind (took_rest r) f = further r (f _ _)
bind (fault_rest r) f = fault_rest r

done : {A : Type 0} {x : A} {c : Input5} → Leaves c.tokens (Took x c)
done = took_rest all

stopped : {A : Type 0} {stop : Stop5} {ts : List Token5} → Leaves {A = A} ts (Fault stop ts)
stopped = fault_rest all

next : {A B : Type 0} (test : Token5 → Option B) (p : B → Parser A) (q : Parser A) (s : Input5) → ((x : B) (c : Input5) → Leaves c.tokens (p x c)) → Leaves s.tokens (q s) → Leaves s.tokens (on test p q s)
next {A = A} {B = B} test p q s f g = at s.tokens s.last g
  where
    at : (ts : List Token5) (last : ℕ) → Leaves ts (q (record { tokens = ts; last = last })) → Leaves ts (on test p q (record { tokens = ts; last = last }))
    at [] last g = g
    at (t ∷ ts) last g = known (test t) g
      where
        known : (o : Option B) → Leaves (t ∷ ts) (q (record { tokens = t ∷ ts; last = last })) → Leaves (t ∷ ts) (on_taken o t ts p q (record { tokens = t ∷ ts; last = last }))
        known (Some x) g = further (less all) (f x (record { tokens = ts; last = t.end }))
        known None g = g

take : {B : Type 0} (test : Token5 → Option B) (s : Input5) → Leaves s.tokens (take_as test s)
take test s = next test _ _ s (λ x c. done) stopped

either : {A : Type 0} (b : Bool) (p q : Parser A) (s : Input5) → Leaves s.tokens (p s) → Leaves s.tokens (q s) → Leaves s.tokens (choose b p q s)
either true p q s f g = f
either false p q s f g = g

looks : {A : Type 0} (test : Token5 → Bool) (p q : Parser A) (s : Input5) → Leaves s.tokens (p s) → Leaves s.tokens (q s) → Leaves s.tokens (if_next test p q s)
looks test p q s f g = either (next_is test s.tokens) p q s f g

group : {A : Type 0} (i : Inner5) (m : List ℕ) (p q : Parser A) (s : Input5) → ((c : Input5) → Leaves c.tokens (p c)) → Leaves s.tokens (q s) → Leaves s.tokens (on_group i m p q s)
group i m p q s f g = looks _ _ q s (either i.may_open _ _ s (next (mark m) (λ t. p) q s (λ t c. f c) g) stopped) g

pub record Placed (i : Inner5) : Type 0 where
  pub sequence : (k : Bool) (s : Input5) → Leaves s.tokens (i.sequence k s)
  pub assignment : (k : Bool) (s : Input5) → Leaves s.tokens (i.assignment k s)
  pub unary : (s : Input5) → Leaves s.tokens (i.unary s)
  pub callee : (s : Input5) → Leaves s.tokens (i.callee s)
  pub property : (s : Input5) → Leaves s.tokens (i.property s)
  pub declared : (k : Bool) (s : Input5) → Leaves s.tokens (i.declared k s)
  pub statement : (inside top : Bool) (s : Input5) → Leaves s.tokens (i.statement inside top s)

identifier : (s : Input5) → Leaves s.tokens (e.identifier s)
unfolding e.identifier
identifier s = bind (take _ s) λ x c. done

key : (s : Input5) → Leaves s.tokens (e.key s)
unfolding e.key
key s = bind (take _ s) λ x c. done

more_parameters : (n : ℕ) (s : Input5) → Leaves s.tokens (e.more_parameters n s)
unfolding e.more_parameters
more_parameters zero s = stopped
more_parameters (suc n) s = bind (identifier s) λ x c. next _ _ _ c (λ t d. bind (more_parameters n d) λ y k. done) (bind (take _ c) λ t d. done)

semicolon_ : (i : Inner5) (s : Input5) → Leaves s.tokens (semicolon i s)
unfolding semicolon
semicolon_ i s = next _ _ _ s (λ t c. done) (either i.inserting _ _ s (either (is_insertable s.tokens) _ _ s done stopped) stopped)

no_expression : (s : Input5) → Leaves s.tokens (e.no_expression s)
unfolding e.no_expression
no_expression s = looks _ _ _ s stopped stopped

module _ (i : Inner5) (h : Placed i) where
  parameters : (s : Input5) → Leaves s.tokens (e.parameters i s)
  unfolding e.parameters
  parameters s = next _ _ _ s (λ t c. done) (more_parameters i.fuel s)

  statements : (inside top : Bool) (n : ℕ) (s : Input5) → Leaves s.tokens (e.statements i inside top n s)
  unfolding e.statements
  statements inside top zero s = stopped
  statements inside top (suc n) s = next _ _ _ s (λ t c. done) (bind (h.statement inside top s) λ x c. bind (statements inside top n c) λ y d. done)

  body : (s : Input5) → Leaves s.tokens (e.body i s)
  unfolding e.body
  body s = group i _ _ _ s (λ c. statements true true i.fuel c) stopped

  rest_of_function : (at : ℕ) (name : Option Identifier5) (s : Input5) → Leaves s.tokens (e.rest_of_function i at name s)
  unfolding e.rest_of_function
  rest_of_function at name s = bind (group i _ _ _ s (λ c. parameters c) stopped) λ x c. bind (body c) λ y d. done

  function_expression : (at : ℕ) (s : Input5) → Leaves s.tokens (e.function_expression i at s)
  unfolding e.function_expression
  function_expression at s = looks _ _ _ s (rest_of_function at None s) (bind (identifier s) λ x c. rest_of_function at (Some x) c)

  accessor_parameters : (b : Bool) (s : Input5) → Leaves s.tokens (e.accessor_parameters b s)
  unfolding e.accessor_parameters e.one_parameter e.no_parameter
  accessor_parameters true s = bind (identifier s) λ x c. bind (take _ c) λ t d. done
  accessor_parameters false s = bind (take _ s) λ t d. done

  accessor_function : (b : Bool) (s : Input5) → Leaves s.tokens (e.accessor_function i b s)
  unfolding e.accessor_function
  accessor_function b s = bind (group i _ _ _ s (λ c. accessor_parameters b c) stopped) λ x c. bind (body c) λ y d. done

  accessor : (at : ℕ) (b : Bool) (s : Input5) → Leaves s.tokens (e.accessor i at b s)
  unfolding e.accessor
  accessor at b s = bind (key s) λ x c. bind (accessor_function b c) λ y d. done

  properties : (n : ℕ) (s : Input5) → Leaves s.tokens (e.properties i n s)
  unfolding e.properties
  properties zero s = stopped
  properties (suc n) s = next _ _ _ s (λ t c. done) (bind (h.property s) λ x c. next _ _ _ c (λ t d. bind (properties n d) λ y k. done) (bind (take _ c) λ t d. done))

  elements : (n : ℕ) (s : Input5) → Leaves s.tokens (e.elements i n s)
  unfolding e.elements
  elements zero s = stopped
  elements (suc n) s = next _ _ _ s (λ t c. done) (next _ _ _ s (λ t c. bind (elements n c) λ x d. done) (bind (h.assignment false s) λ x c. next _ _ _ c (λ t d. bind (elements n d) λ y k. done) (bind (take _ c) λ t d. done)))

  more_arguments : (n : ℕ) (s : Input5) → Leaves s.tokens (e.more_arguments i n s)
  unfolding e.more_arguments
  more_arguments zero s = stopped
  more_arguments (suc n) s = bind (h.assignment false s) λ x c. next _ _ _ c (λ t d. bind (more_arguments n d) λ y k. done) (bind (take _ c) λ t d. done)

  arguments : (s : Input5) → Leaves s.tokens (e.arguments i s)
  unfolding e.arguments
  arguments s = next _ _ _ s (λ t c. done) (more_arguments i.fuel s)

  bracketed : (at : ℕ) (s : Input5) → Leaves s.tokens (e.bracketed i at s)
  unfolding e.bracketed
  bracketed at s = group i _ _ _ s (λ c. bind (elements i.fuel c) λ x d. done) (group i _ _ _ s (λ c. bind (properties i.fuel c) λ x d. done) (no_expression s))

  primary : (at : ℕ) (s : Input5) → Leaves s.tokens (e.primary i at s)
  unfolding e.primary e.grouped
  primary at s = next _ _ _ s (λ t c. done) (next _ _ _ s (λ t c. done) (next _ _ _ s (λ t c. done) (next _ _ _ s (λ t c. bind (function_expression at c) λ x d. done)
      (group i _ _ _ s (λ c. bind (h.sequence false c) λ x d. bind (take _ d) λ t k. done) (bracketed at s)))))

  head : (at : ℕ) (s : Input5) → Leaves s.tokens (e.head i at s)
  unfolding e.head e.after_callee
  head at s = next _ _ _ s (λ t c. bind (h.callee c) λ x d. group i _ _ _ d (λ k. bind (arguments k) λ y l. done) done) (primary at s)

  links : (calls : Bool) (n : ℕ) (s : Input5) → Leaves s.tokens (e.links i calls n s)
  unfolding e.links e.member_link e.index_link e.call_link
  links calls zero s = stopped
  links calls (suc n) s = next _ _ _ s (λ t c. bind (bind (take _ c) λ x d. done) λ x d. bind (links calls n d) λ y k. done)
      (group i _ _ _ s (λ c. bind (bind (h.sequence false c) λ x d. bind (take _ d) λ t k. done) λ x d. bind (links calls n d) λ y k. done)
      (either calls _ _ s (group i _ _ _ s (λ c. bind (bind (arguments c) λ x d. done) λ x d. bind (links calls n d) λ y k. done) done) done))

  chain : (calls : Bool) (s : Input5) → Leaves s.tokens (e.chain i calls s)
  unfolding e.chain
  chain calls s = bind (head _ s) λ x c. bind (links calls i.fuel c) λ y d. done

  unary : (s : Input5) → Leaves s.tokens (e.unary i s)
  unfolding e.unary e.prefixed e.updated e.postfix
  unary s = next _ _ _ s (λ op c. bind (h.unary c) λ x d. done) (next _ _ _ s (λ op c. bind (h.unary c) λ x d. done) (bind (chain true s) λ x c. next _ _ _ c (λ op d. done) done))

  operands : (p : Parser Read5) → ((s : Input5) → Leaves s.tokens (p s)) → (k : Bool) (level n : ℕ) (s : Input5) → Leaves s.tokens (e.operands p k level n s)
  unfolding e.operands
  operands p f k level zero s = stopped
  operands p f k level (suc n) s = next _ _ _ s (λ op c. bind (f c) λ x d. bind (operands p f k level n d) λ y l. done) done

  binary_from : (k : Bool) (above level : ℕ) (s : Input5) → Leaves s.tokens (e.binary_from i k above level s)
  unfolding e.binary_from
  binary_from k zero level s = unary s
  binary_from k (suc above) level s = bind (binary_from k above _ s) λ x c. bind (operands _ (λ d. binary_from k above _ d) k level i.fuel c) λ y d. done

  assignment : (k : Bool) (s : Input5) → Leaves s.tokens (e.assignment i k s)
  unfolding e.assignment e.assigned e.conditional e.branches
  assignment k s = bind (bind (binary_from k 10 3 s) λ x c. next _ _ _ c (λ t d. bind (h.assignment false d) λ y l. bind (take _ l) λ t' m. bind (h.assignment k m) λ z o. done) done) λ x c.
      either (is_left x.shape) _ _ c (next _ _ _ c (λ op d. bind (h.assignment k d) λ y l. done) done) done

  parts : (k : Bool) (n : ℕ) (s : Input5) → Leaves s.tokens (e.parts i k n s)
  unfolding e.parts
  parts k zero s = stopped
  parts k (suc n) s = bind (assignment k s) λ x c. next _ _ _ c (λ t d. bind (parts k n d) λ y l. done) done

  sequence : (k : Bool) (s : Input5) → Leaves s.tokens (e.sequence i k s)
  unfolding e.sequence e.more_parts
  sequence k s = bind (assignment k s) λ x c. next _ _ _ c (λ t d. bind (parts k i.fuel d) λ y l. done) done

  property : (s : Input5) → Leaves s.tokens (e.one_property i s)
  unfolding e.one_property e.after_accessor_word e.plain_property e.value_of_key
  property s = next _ _ _ s (λ b c. next _ _ _ c (λ t d. bind (assignment false d) λ x l. done) (accessor _ b c)) (bind (key s) λ x c. bind (take _ c) λ t d. bind (assignment false d) λ y l. done)

  declared : (k : Bool) (s : Input5) → Leaves s.tokens (s5.one_declared i k s)
  unfolding s5.one_declared s5.initialized
  declared k s = bind (identifier s) λ x c. next _ _ _ c (λ t d. bind (h.assignment k d) λ y l. done) done

  -- ## Statements

  block : (inside : Bool) (s : Input5) → Leaves s.tokens (s5.block i inside s)
  unfolding s5.block
  block inside s = group i _ _ _ s (λ c. bind (statements inside false i.fuel c) λ x d. done) stopped

  list : (p : Parser Declared5) → ((s : Input5) → Leaves s.tokens (p s)) → (n : ℕ) (s : Input5) → Leaves s.tokens (s5.declared_list p n s)
  unfolding s5.declared_list
  list p f zero s = stopped
  list p f (suc n) s = bind (f s) λ x c. next _ _ _ c (λ t d. bind (list p f n d) λ y l. done) done

  var_statement : (at : ℕ) (s : Input5) → Leaves s.tokens (s5.var_statement i at s)
  unfolding s5.var_statement
  var_statement at s = bind (list _ (λ c. declared false c) i.fuel s) λ x c. bind (semicolon_ i c) λ u d. done

  paren : (s : Input5) → Leaves s.tokens (s5.parenthesized i s)
  unfolding s5.parenthesized
  paren s = group i _ _ _ s (λ c. bind (h.sequence false c) λ x d. bind (take _ d) λ t l. done) stopped

  condition : (inside : Bool) (s : Input5) → Leaves s.tokens (s5.condition i inside s)
  unfolding s5.condition
  condition inside s = bind (take _ s) λ t c. bind (paren c) λ x d. bind (h.statement inside false d) λ y l. done

  otherwise : (inside : Bool) (n : ℕ) (s : Input5) → Leaves s.tokens (s5.otherwise i inside n s)
  unfolding s5.otherwise
  otherwise inside zero s = stopped
  otherwise inside (suc n) s = next _ _ _ s (λ t c. looks _ _ _ c (bind (condition inside c) λ x d. bind (otherwise inside n d) λ y l. done) (bind (h.statement inside false c) λ x d. done)) done

  if_statement : (inside : Bool) (at : ℕ) (s : Input5) → Leaves s.tokens (s5.if_statement i inside at s)
  unfolding s5.if_statement
  if_statement inside at s = bind (condition inside s) λ x c. bind (otherwise inside i.fuel c) λ y d. done

  for_first : (s : Input5) → Leaves s.tokens (s5.for_first_part i s)
  unfolding s5.for_first_part s5.for_var s5.after_first_declared s5.for_expression
  for_first s = next _ _ _ s (λ t c. done) (next _ _ _ s
      (λ t c. bind (h.declared true c) λ x d. looks _ _ _ d stopped (next _ _ _ d (λ u l. bind (list _ (λ m. h.declared true m) i.fuel l) λ y m. bind (take _ m) λ v o. done) (bind (take _ d) λ v o. done)))
      (bind (h.sequence true s) λ x c. looks _ _ _ c stopped (bind (take _ c) λ v o. done)))

  optional : (p : List ℕ) (s : Input5) → Leaves s.tokens (s5.optional i p s)
  unfolding s5.optional
  optional p s = next _ _ _ s (λ t c. done) (bind (h.sequence false s) λ x c. bind (take _ c) λ t d. done)

  for_header : (s : Input5) → Leaves s.tokens (s5.for_header i s)
  unfolding s5.for_header
  for_header s = bind (for_first s) λ x c. bind (optional _ c) λ y d. bind (optional _ d) λ z l. done

  returned : (s : Input5) → Leaves s.tokens (s5.returned i s)
  unfolding s5.returned
  returned s = looks _ _ _ s (bind (sequence false s) λ x c. done) done

  in_case : (inside : Bool) (n : ℕ) (s : Input5) → Leaves s.tokens (s5.in_case i inside n s)
  unfolding s5.in_case
  in_case inside zero s = stopped
  in_case inside (suc n) s = looks _ _ _ s done (bind (h.statement inside false s) λ x c. bind (in_case inside n c) λ y d. done)

  cases : (inside may : Bool) (n : ℕ) (s : Input5) → Leaves s.tokens (s5.cases i inside may n s)
  unfolding s5.cases s5.case_clause s5.default_clause
  cases inside may zero s = stopped
  cases inside may (suc n) s = next _ _ _ s (λ t c. done) (next _ _ _ s
      (λ t c. bind (bind (h.sequence false c) λ x d. bind (take _ d) λ u l. bind (in_case inside i.fuel l) λ y m. done) λ x d. bind (cases inside may n d) λ y l. done)
      (either may _ _ s (next _ _ _ s (λ t c. bind (bind (take _ c) λ u l. bind (in_case inside i.fuel l) λ y m. done) λ x d. bind (cases inside false n d) λ y l. done) stopped) stopped))

  handler : (inside : Bool) (s : Input5) → Leaves s.tokens (s5.handler i inside s)
  unfolding s5.handler s5.catch_parameter
  handler inside s = bind (take _ s) λ t c. bind (group i _ _ _ c (λ d. bind (identifier d) λ x l. bind (take _ l) λ u m. done) stopped) λ x d. bind (block inside d) λ y l. done

  try_statement : (inside : Bool) (at : ℕ) (s : Input5) → Leaves s.tokens (s5.try_statement i inside at s)
  unfolding s5.try_statement s5.after_handler s5.only_finally
  try_statement inside at s = bind (block inside s) λ x c. looks _ _ _ c (bind (handler inside c) λ y d. next _ _ _ d (λ t l. bind (block inside l) λ z m. done) done) (bind (take _ c) λ t d. bind (block inside d) λ y l. done)

  compound : (inside top : Bool) (at : ℕ) (s : Input5) → Leaves s.tokens (s5.jump_statement i inside top at s) → Leaves s.tokens (s5.compound_statement i inside top at s)
  unfolding s5.compound_statement s5.do_statement s5.while_statement s5.for_statement s5.switch_statement
  compound inside top at s j =
      next _ _ _ s (λ t c. bind (h.statement inside false c) λ x d. bind (take _ d) λ u l. bind (paren l) λ y m. bind (semicolon_ i m) λ v o. done)
      (next _ _ _ s (λ t c. bind (paren c) λ x d. bind (h.statement inside false d) λ y l. done)
      (next _ _ _ s (λ t c. bind (group i _ _ _ c (λ d. for_header d) stopped) λ x d. bind (h.statement inside false d) λ y l. done)
      (next _ _ _ s (λ t c. bind (paren c) λ x d. bind (group i _ _ _ d (λ l. cases inside true i.fuel l) stopped) λ y l. done)
      (next _ _ _ s (λ t c. try_statement inside at c) j))))

  label : (s : Input5) → Leaves s.tokens (s5.optional_label s)
  unfolding s5.optional_label
  label s = next _ _ _ s (λ t c. done) done

  label_or_end : (inside : Bool) (at : ℕ) (o : Option Identifier5) (x : Expr5) (s : Input5) → Leaves s.tokens (s5.label_or_end i inside at o x s)
  unfolding s5.labelled s5.expression_end
  label_or_end inside at (Some y) x s = next _ _ _ s (λ t c. bind (h.statement inside false c) λ z d. done) (bind (semicolon_ i s) λ u d. done)
  label_or_end inside at None x s = bind (semicolon_ i s) λ u d. done

  plain : (inside top : Bool) (at : ℕ) (s : Input5) → Leaves s.tokens (s5.plain_statement i inside top at s)
  unfolding s5.plain_statement s5.declaration s5.expression_statement
  plain inside top at s = looks _ _ _ s (either top _ _ s (next _ _ _ s (λ t c. bind (identifier c) λ x d. bind (rest_of_function _ _ d) λ y l. done) stopped) stopped)
      (looks _ _ _ s stopped (bind (sequence false s) λ x c. label_or_end inside at _ _ c))

  jump : (inside top : Bool) (at : ℕ) (s : Input5) → Leaves s.tokens (s5.jump_statement i inside top at s)
  unfolding s5.jump_statement s5.continue_statement s5.break_statement s5.throw_statement s5.debugger_statement s5.return_statement
  jump inside top at s =
      next _ _ _ s (λ t c. bind (label c) λ x d. bind (semicolon_ i d) λ u l. done) (next _ _ _ s (λ t c. bind (label c) λ x d. bind (semicolon_ i d) λ u l. done)
      (next _ _ _ s (λ t c. looks _ _ _ c stopped (bind (sequence false c) λ x d. bind (semicolon_ i d) λ u l. done)) (next _ _ _ s (λ t c. bind (semicolon_ i c) λ u l. done)
      (either inside _ _ s (next _ _ _ s (λ t c. bind (returned c) λ x d. bind (semicolon_ i d) λ u l. done) (plain inside top at s)) (plain inside top at s)))))

  statement : (inside top : Bool) (s : Input5) → Leaves s.tokens (s5.statement i inside top s)
  unfolding s5.statement s5.block_statement
  statement inside top s = looks _ _ _ s (bind (block inside s) λ x c. done) (looks _ _ _ s (if_statement inside _ s)
      (next _ _ _ s (λ t c. done) (next _ _ _ s (λ t c. var_statement _ c) (compound inside top _ s (jump inside top _ s)))))

expression_stops : (s : Input5) → Leaves s.tokens (e.expression_at_limit s)
unfolding e.expression_at_limit
expression_stops s = looks _ _ _ s stopped (no_expression s)

callee_stops : (s : Input5) → Leaves s.tokens (e.callee_at_limit s)
unfolding e.callee_at_limit
callee_stops s = looks _ _ _ s stopped (no_expression s)

statement_stops : (inside : Bool) (s : Input5) → Leaves s.tokens (s5.statement_at_limit inside s)
unfolding s5.statement_at_limit
statement_stops inside s = looks _ _ _ s stopped (looks _ _ _ s stopped (looks _ _ _ s stopped (looks _ _ _ s stopped stopped)))

placed : (mode : Bool) (fuel room : ℕ) → Placed (readers mode fuel room)
unfolding readers
placed mode fuel zero = record {
  sequence = λ k s. expression_stops s;
  assignment = λ k s. expression_stops s;
  unary = λ s. expression_stops s;
  callee = λ s. callee_stops s;
  property = λ s. stopped;
  declared = λ k s. stopped;
  statement = λ inside top s. statement_stops inside s;
}
placed mode fuel (suc room) =
    let deeper = placed mode fuel room in
    record {
      sequence = λ k s. sequence (readers mode fuel room) deeper k s;
      assignment = λ k s. assignment (readers mode fuel room) deeper k s;
      unary = λ s. unary (readers mode fuel room) deeper s;
      callee = λ s. chain (readers mode fuel room) deeper false s;
      property = λ s. property (readers mode fuel room) deeper s;
      declared = λ k s. declared (readers mode fuel room) deeper k s;
      statement = λ inside top s. statement (readers mode fuel room) deeper inside top s;
    }

programs : (i : Inner5) (h : Placed i) (n : ℕ) (s : Input5) → Leaves s.tokens (program i n s)
unfolding program
programs i h zero s = stopped
programs i h (suc n) s = looks _ _ _ s (bind (statement i h false true s) λ x c. bind (programs i h n c) λ y d. done) done

-- ## Scripts

of-rest : {ts us : List Token5} → Rest ts us → (front : List Token5) × (ts ≡ front ++ us)
of-rest all = ([], refl)
of-rest (less {t = t} h) = let f = of-rest h in (t ∷ f.0, ap (λ vs. t ∷ vs) f.1)

abbrev FaultIn : List Token5 → Option (Stop5 × List Token5) → Type 0
FaultIn ts None = Unit {0}
FaultIn ts (Some f) = Rest ts f.1

cond-fault : (b : Bool) (ts : List Token5) (o p : Option (Stop5 × List Token5)) → FaultIn ts o → FaultIn ts p → FaultIn ts (cond b o p)
cond-fault true ts o p f g = f
cond-fault false ts o p f g = g

second-in : (t : Token5) (ts : List Token5) → FaultIn (t ∷ ts) (second_fault ts)
second-in t [] = tt
second-in t (u ∷ ts) = cond-fault (continues u) (t ∷ u ∷ ts) _ _ (less all) tt

directive-in : (ts : List Token5) → FaultIn ts (directive_fault ts)
directive-in [] = all
directive-in (t ∷ ts) = cond-fault (is_directive t) (t ∷ ts) _ _ (second-in t ts) all

unless-in : (ts : List Token5) (o : Option (Stop5 × List Token5)) (p : Outcome5 (List Stat5)) → FaultIn ts o → Leaves ts p → Leaves ts (unless_fault o p)
unless-in ts None p f h = h
unless-in ts (Some x) p f h = fault_rest f

of-fault : {A : Type 0} {ts us : List Token5} {stop : Stop5} → Leaves {A = A} ts (Fault stop us) → Rest ts us
of-fault (fault_rest r) = r

pub places : FaultsAreInside
unfolding script
places fuel tokens stop rest e = of-rest (of-fault {A = List Stat5} {stop = stop} (subst (λ o. Leaves tokens o) e
    (unless-in tokens (directive_fault tokens) _ (directive-in tokens) (programs (readers true fuel most_open) (placed true fuel most_open) fuel (record { tokens = tokens; last = 0 })))))
