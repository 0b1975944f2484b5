-- What is read is read so by readers that may do more: insert semicolons, open more constructs, and take more turns of a loop.
use Rattle.std.proofs.Common.{◌≡◌, ◌∙◌, ℕ, zero, suc, ◌+◌, arith, Bool, true, false, List, [], ◌∷◌, Option, Some, None, refl, sym, ap, subst}
use Rattle.std.proofs.lemmas.Bool.{false≢true}
use Rattle.es5_reading.specs.Parser.{Input5, Stop5, Outcome5, Took, Fault, Parser, after, fails, on, on_taken, choose, next_is, if_next, take_as, mark, Inner5, on_group, semicolon, inserts, Read5, is_left}
use Rattle.es5_ast.specs.Lexical.{Token5}
use Rattle.es5_ast.specs.declared.tree.Declared5.{Declared5}
use Rattle.es5_ast.specs.declared.tree.Stat5.{Stat5}
use Rattle.es5_ast.specs.declared.tree.Identifier5.{Identifier5}
use Rattle.es5_ast.specs.declared.tree.Expr5.{Expr5}
use Rattle.es5_reading.specs.Expressions as e
use Rattle.es5_reading.specs.Statements as s5
use Rattle.es5_reading.specs.Programs.{readers, program}
use Rattle.es5_reading.specs.Laws.{ReadingsStay, ReadingsStayInserting, IsComplete, IsReadExactly, IsReadInFull}
use Rattle.es5_reading.proofs.Follows.{plus}
use Rattle.es5_reading.proofs.Insertion.{readers-inserting, readers-fuel}

-- the second reader takes what the first one does
pub data Stays {A : Type 0} : Outcome5 A → Outcome5 A → Type 0 where
  took_so : {x : A} {c : Input5} → Stays (Took x c) (Took x c)
  fault_so : {stop : Stop5} {us : List Token5} {o : Outcome5 A} → Stays (Fault stop us) o

bind : {A B : Type 0} {o o' : Outcome5 A} {q q' : A → Parser B} → Stays o o' → ((x : A) (c : Input5) → Stays (q x c) (q' x c)) → Stays (after o q) (after o' q')
bind took_so f = f _ _
bind fault_so f = fault_so

done : {A : Type 0} {x : A} {c : Input5} → Stays (Took x c) (Took x c)
done = took_so

stopped : {A : Type 0} {stop : Stop5} {ts : List Token5} {o : Outcome5 A} → Stays (Fault stop ts) o
stopped = fault_so

same : {A : Type 0} (o : Outcome5 A) → Stays o o
same (Took x c) = took_so
same (Fault stop us) = fault_so

take : {B : Type 0} (test : Token5 → Option B) (s : Input5) → Stays (take_as test s) (take_as test s)
take test s = same (take_as test s)

identifier : (s : Input5) → Stays (e.identifier s) (e.identifier s)
identifier s = same (e.identifier s)

key : (s : Input5) → Stays (e.key s) (e.key s)
key s = same (e.key s)

label : (s : Input5) → Stays (s5.optional_label s) (s5.optional_label s)
label s = same (s5.optional_label s)

next : {A B : Type 0} (test : Token5 → Option B) (p p' : B → Parser A) (q q' : Parser A) (s : Input5) → ((x : B) (c : Input5) → Stays (p x c) (p' x c)) → Stays (q s) (q' s) → Stays (on test p q s) (on test p' q' s)
next {A = A} {B = B} test p p' q q' s f g = at s.tokens s.last g
  where
    at : (ts : List Token5) (last : ℕ) → Stays (q (record { tokens = ts; last = last })) (q' (record { tokens = ts; last = last })) → Stays (on test p q (record { tokens = ts; last = last })) (on test p' q' (record { tokens = ts; last = last }))
    at [] last g = g
    at (t ∷ ts) last g = known (test t) g
      where
        known : (o : Option B) → Stays (q (record { tokens = t ∷ ts; last = last })) (q' (record { tokens = t ∷ ts; last = last })) → Stays (on_taken o t ts p q (record { tokens = t ∷ ts; last = last })) (on_taken o t ts p' q' (record { tokens = t ∷ ts; last = last }))
        known (Some x) g = f x (record { tokens = ts; last = t.end })
        known None g = g

either : {A : Type 0} (b : Bool) (p p' q q' : Parser A) (s : Input5) → Stays (p s) (p' s) → Stays (q s) (q' s) → Stays (choose b p q s) (choose b p' q' s)
either true p p' q q' s f g = f
either false p p' q q' s f g = g

looks : {A : Type 0} (test : Token5 → Bool) (p p' q q' : Parser A) (s : Input5) → Stays (p s) (p' s) → Stays (q s) (q' s) → Stays (if_next test p q s) (if_next test p' q' s)
looks test p p' q q' s f g = either (next_is test s.tokens) p p' q q' s f g

-- where the first reader may go on, the second may, too
allowed : {A : Type 0} (b b' : Bool) (stop : Stop5) (p p' q' : Parser A) (s : Input5) → (b ≡ true → b' ≡ true) → Stays (p s) (p' s) → Stays (choose b p (fails stop) s) (choose b' p' q' s)
allowed true true stop p p' q' s h f = f
allowed true false stop p p' q' s h f = absurd (false≢true (h refl))
allowed false b' stop p p' q' s h f = fault_so

group : {A : Type 0} (i j : Inner5) → (i.may_open ≡ true → j.may_open ≡ true) → (m : List ℕ) (p p' q q' : Parser A) (s : Input5) → ((c : Input5) → Stays (p c) (p' c)) → Stays (q s) (q' s) → Stays (on_group i m p q s) (on_group j m p' q' s)
group i j h m p p' q q' s f g = looks _ _ _ q q' s (allowed i.may_open j.may_open _ _ _ _ s h (next (mark m) (λ t. p) (λ t. p') q q' s (λ t c. f c) g)) g

-- the second may do whatever the first may, and each loop has so many turns more
pub record Grows (l : ℕ) (i j : Inner5) : Type 0 where
  pub modes : i.inserting ≡ true → j.inserting ≡ true
  pub turns : j.fuel ≡ plus i.fuel l
  pub opens : i.may_open ≡ true → j.may_open ≡ true
  pub sequence : (k : Bool) (s : Input5) → Stays (i.sequence k s) (j.sequence k s)
  pub assignment : (k : Bool) (s : Input5) → Stays (i.assignment k s) (j.assignment k s)
  pub unary : (s : Input5) → Stays (i.unary s) (j.unary s)
  pub callee : (s : Input5) → Stays (i.callee s) (j.callee s)
  pub property : (s : Input5) → Stays (i.property s) (j.property s)
  pub declared : (k : Bool) (s : Input5) → Stays (i.declared k s) (j.declared k s)
  pub statement : (inside top : Bool) (s : Input5) → Stays (i.statement inside top s) (j.statement inside top s)

module _ (l : ℕ) (i j : Inner5) (h : Grows l i j) where
  with_turns : {A : Type 0} {o : Outcome5 A} (p : ℕ → Outcome5 A) → Stays o (p (plus i.fuel l)) → Stays o (p j.fuel)
  with_turns {o = o} p r = subst (λ n. Stays o (p n)) (sym h.turns) r

  grouped_ : {A : Type 0} (m : List ℕ) (p p' q q' : Parser A) (s : Input5) → ((c : Input5) → Stays (p c) (p' c)) → Stays (q s) (q' s) → Stays (on_group i m p q s) (on_group j m p' q' s)
  grouped_ m p p' q q' s f g = group i j h.opens m p p' q q' s f g

  semicolon_ : (s : Input5) → Stays (semicolon i s) (semicolon j s)
  unfolding semicolon
  semicolon_ s = next _ _ _ _ _ s (λ t c. done) (allowed i.inserting j.inserting _ _ _ _ s h.modes (same (inserts s)))

  more_parameters : (n : ℕ) (s : Input5) → Stays (e.more_parameters n s) (e.more_parameters (plus n l) s)
  unfolding e.more_parameters
  more_parameters zero s = stopped
  more_parameters (suc n) s = bind (identifier s) λ x c. next _ _ _ _ _ c (λ t d. bind (more_parameters n d) λ y k. done) (bind (take _ c) λ t d. done)

  parameters : (s : Input5) → Stays (e.parameters i s) (e.parameters j s)
  unfolding e.parameters
  parameters s = next _ _ _ _ _ s (λ t c. done) (with_turns (λ n. e.more_parameters n s) (more_parameters i.fuel s))

  statements : (inside top : Bool) (n : ℕ) (s : Input5) → Stays (e.statements i inside top n s) (e.statements j inside top (plus n l) s)
  unfolding e.statements
  statements inside top zero s = stopped
  statements inside top (suc n) s = next _ _ _ _ _ s (λ t c. done) (bind (h.statement inside top s) λ x c. bind (statements inside top n c) λ y d. done)

  body : (s : Input5) → Stays (e.body i s) (e.body j s)
  unfolding e.body
  body s = grouped_ _ _ _ _ _ s (λ c. with_turns (λ n. e.statements j true true n c) (statements true true i.fuel c)) stopped

  rest_of_function : (at : ℕ) (name : Option Identifier5) (s : Input5) → Stays (e.rest_of_function i at name s) (e.rest_of_function j at name s)
  unfolding e.rest_of_function
  rest_of_function at name s = bind (grouped_ _ _ _ _ _ s (λ c. parameters c) stopped) λ x c. bind (body c) λ y d. done

  function_expression : (at : ℕ) (s : Input5) → Stays (e.function_expression i at s) (e.function_expression j at s)
  unfolding e.function_expression
  function_expression at s = looks _ _ _ _ _ s (rest_of_function at None s) (bind (identifier s) λ x c. rest_of_function at (Some x) c)

  accessor_function : (b : Bool) (s : Input5) → Stays (e.accessor_function i b s) (e.accessor_function j b s)
  unfolding e.accessor_function
  accessor_function b s = bind (grouped_ _ _ _ _ _ s (λ c. same (e.accessor_parameters b c)) stopped) λ x c. bind (body c) λ y d. done

  accessor : (at : ℕ) (b : Bool) (s : Input5) → Stays (e.accessor i at b s) (e.accessor j at b s)
  unfolding e.accessor
  accessor at b s = bind (key s) λ x c. bind (accessor_function b c) λ y d. done

  properties : (n : ℕ) (s : Input5) → Stays (e.properties i n s) (e.properties j (plus n l) s)
  unfolding e.properties
  properties zero s = stopped
  properties (suc n) s = next _ _ _ _ _ s (λ t c. done) (bind (h.property s) λ x c. next _ _ _ _ _ c (λ t d. bind (properties n d) λ y k. done) (bind (take _ c) λ t d. done))

  elements : (n : ℕ) (s : Input5) → Stays (e.elements i n s) (e.elements j (plus n l) s)
  unfolding e.elements
  elements zero s = stopped
  elements (suc n) s = next _ _ _ _ _ s (λ t c. done) (next _ _ _ _ _ s (λ t c. bind (elements n c) λ x d. done) (bind (h.assignment false s) λ x c. next _ _ _ _ _ c (λ t d. bind (elements n d) λ y k. done) (bind (take _ c) λ t d. done)))

  more_arguments : (n : ℕ) (s : Input5) → Stays (e.more_arguments i n s) (e.more_arguments j (plus n l) s)
  unfolding e.more_arguments
  more_arguments zero s = stopped
  more_arguments (suc n) s = bind (h.assignment false s) λ x c. next _ _ _ _ _ c (λ t d. bind (more_arguments n d) λ y k. done) (bind (take _ c) λ t d. done)

  arguments : (s : Input5) → Stays (e.arguments i s) (e.arguments j s)
  unfolding e.arguments
  arguments s = next _ _ _ _ _ s (λ t c. done) (with_turns (λ n. e.more_arguments j n s) (more_arguments i.fuel s))

  bracketed : (at : ℕ) (s : Input5) → Stays (e.bracketed i at s) (e.bracketed j at s)
  unfolding e.bracketed
  bracketed at s = grouped_ _ _ _ _ _ s (λ c. bind (with_turns (λ n. e.elements j n c) (elements i.fuel c)) λ x d. done) (grouped_ _ _ _ _ _ s (λ c. bind (with_turns (λ n. e.properties j n c) (properties i.fuel c)) λ x d. done) (same (e.no_expression s)))

  primary : (at : ℕ) (s : Input5) → Stays (e.primary i at s) (e.primary j at s)
  unfolding e.primary e.grouped
  primary at s = next _ _ _ _ _ s (λ t c. done) (next _ _ _ _ _ s (λ t c. done) (next _ _ _ _ _ s (λ t c. done) (next _ _ _ _ _ s (λ t c. bind (function_expression at c) λ x d. done)
      (grouped_ _ _ _ _ _ s (λ c. bind (h.sequence false c) λ x d. bind (take _ d) λ t k. done) (bracketed at s)))))

  head : (at : ℕ) (s : Input5) → Stays (e.head i at s) (e.head j at s)
  unfolding e.head e.after_callee
  head at s = next _ _ _ _ _ s (λ t c. bind (h.callee c) λ x d. grouped_ _ _ _ _ _ d (λ k. bind (arguments k) λ y l. done) done) (primary at s)

  links : (calls : Bool) (n : ℕ) (s : Input5) → Stays (e.links i calls n s) (e.links j calls (plus n l) s)
  unfolding e.links e.member_link e.index_link e.call_link
  links calls zero s = stopped
  links calls (suc n) s = next _ _ _ _ _ s (λ t c. bind (bind (take _ c) λ x d. done) λ x d. bind (links calls n d) λ y k. done)
      (grouped_ _ _ _ _ _ s (λ c. bind (bind (h.sequence false c) λ x d. bind (take _ d) λ t k. done) λ x d. bind (links calls n d) λ y k. done)
      (either calls _ _ _ _ s (grouped_ _ _ _ _ _ s (λ c. bind (bind (arguments c) λ x d. done) λ x d. bind (links calls n d) λ y k. done) done) done))

  chain : (calls : Bool) (s : Input5) → Stays (e.chain i calls s) (e.chain j calls s)
  unfolding e.chain
  chain calls s = bind (head _ s) λ x c. bind (with_turns (λ n. e.links j calls n c) (links calls i.fuel c)) λ y d. done

  unary : (s : Input5) → Stays (e.unary i s) (e.unary j s)
  unfolding e.unary e.prefixed e.updated e.postfix
  unary s = next _ _ _ _ _ s (λ op c. bind (h.unary c) λ x d. done) (next _ _ _ _ _ s (λ op c. bind (h.unary c) λ x d. done) (bind (chain true s) λ x c. next _ _ _ _ _ c (λ op d. done) done))

  operands : (p q : Parser Read5) → ((s : Input5) → Stays (p s) (q s)) → (k : Bool) (level n : ℕ) (s : Input5) → Stays (e.operands p k level n s) (e.operands q k level (plus n l) s)
  unfolding e.operands
  operands p q f k level zero s = stopped
  operands p q f k level (suc n) s = next _ _ _ _ _ s (λ op c. bind (f c) λ x d. bind (operands p q f k level n d) λ y l. done) done

  binary_from : (k : Bool) (above level : ℕ) (s : Input5) → Stays (e.binary_from i k above level s) (e.binary_from j k above level s)
  unfolding e.binary_from
  binary_from k zero level s = unary s
  binary_from k (suc above) level s = bind (binary_from k above _ s) λ x c. bind (with_turns (λ n. e.operands (e.binary_from j k above (level + 1)) k level n c) (operands _ _ (λ d. binary_from k above _ d) k level i.fuel c)) λ y d. done

  assignment : (k : Bool) (s : Input5) → Stays (e.assignment i k s) (e.assignment j k s)
  unfolding e.assignment e.assigned e.conditional e.branches
  assignment k s = bind (bind (binary_from k 10 3 s) λ x c. next _ _ _ _ _ c (λ t d. bind (h.assignment false d) λ y l. bind (take _ l) λ t' m. bind (h.assignment k m) λ z o. done) done) λ x c.
      either (is_left x.shape) _ _ _ _ c (next _ _ _ _ _ c (λ op d. bind (h.assignment k d) λ y l. done) done) done

  parts : (k : Bool) (n : ℕ) (s : Input5) → Stays (e.parts i k n s) (e.parts j k (plus n l) s)
  unfolding e.parts
  parts k zero s = stopped
  parts k (suc n) s = bind (assignment k s) λ x c. next _ _ _ _ _ c (λ t d. bind (parts k n d) λ y l. done) done

  sequence : (k : Bool) (s : Input5) → Stays (e.sequence i k s) (e.sequence j k s)
  unfolding e.sequence e.more_parts
  sequence k s = bind (assignment k s) λ x c. next _ _ _ _ _ c (λ t d. bind (with_turns (λ n. e.parts j k n d) (parts k i.fuel d)) λ y l. done) done

  property : (s : Input5) → Stays (e.one_property i s) (e.one_property j s)
  unfolding e.one_property e.after_accessor_word e.plain_property e.value_of_key
  property s = next _ _ _ _ _ s (λ b c. next _ _ _ _ _ c (λ t d. bind (assignment false d) λ x l. done) (accessor _ b c)) (bind (key s) λ x c. bind (take _ c) λ t d. bind (assignment false d) λ y l. done)

  declared : (k : Bool) (s : Input5) → Stays (s5.one_declared i k s) (s5.one_declared j k s)
  unfolding s5.one_declared s5.initialized
  declared k s = bind (identifier s) λ x c. next _ _ _ _ _ c (λ t d. bind (h.assignment k d) λ y l. done) done

  -- ## Statements

  block : (inside : Bool) (s : Input5) → Stays (s5.block i inside s) (s5.block j inside s)
  unfolding s5.block
  block inside s = grouped_ _ _ _ _ _ s (λ c. bind (with_turns (λ n. e.statements j inside false n c) (statements inside false i.fuel c)) λ x d. done) stopped

  list : (p q : Parser Declared5) → ((s : Input5) → Stays (p s) (q s)) → (n : ℕ) (s : Input5) → Stays (s5.declared_list p n s) (s5.declared_list q (plus n l) s)
  unfolding s5.declared_list
  list p q f zero s = stopped
  list p q f (suc n) s = bind (f s) λ x c. next _ _ _ _ _ c (λ t d. bind (list p q f n d) λ y l. done) done

  var_statement : (at : ℕ) (s : Input5) → Stays (s5.var_statement i at s) (s5.var_statement j at s)
  unfolding s5.var_statement
  var_statement at s = bind (with_turns (λ n. s5.declared_list (s5.one_declared j false) n s) (list _ _ (λ c. declared false c) i.fuel s)) λ x c. bind (semicolon_ c) λ u d. done

  paren : (s : Input5) → Stays (s5.parenthesized i s) (s5.parenthesized j s)
  unfolding s5.parenthesized
  paren s = grouped_ _ _ _ _ _ s (λ c. bind (h.sequence false c) λ x d. bind (take _ d) λ t l. done) stopped

  condition : (inside : Bool) (s : Input5) → Stays (s5.condition i inside s) (s5.condition j inside s)
  unfolding s5.condition
  condition inside s = bind (take _ s) λ t c. bind (paren c) λ x d. bind (h.statement inside false d) λ y l. done

  otherwise : (inside : Bool) (n : ℕ) (s : Input5) → Stays (s5.otherwise i inside n s) (s5.otherwise j inside (plus n l) s)
  unfolding s5.otherwise
  otherwise inside zero s = stopped
  otherwise inside (suc n) s = next _ _ _ _ _ s (λ t c. looks _ _ _ _ _ c (bind (condition inside c) λ x d. bind (otherwise inside n d) λ y l. done) (bind (h.statement inside false c) λ x d. done)) done

  if_statement : (inside : Bool) (at : ℕ) (s : Input5) → Stays (s5.if_statement i inside at s) (s5.if_statement j inside at s)
  unfolding s5.if_statement
  if_statement inside at s = bind (condition inside s) λ x c. bind (with_turns (λ n. s5.otherwise j inside n c) (otherwise inside i.fuel c)) λ y d. done

  for_first : (s : Input5) → Stays (s5.for_first_part i s) (s5.for_first_part j s)
  unfolding s5.for_first_part s5.for_var s5.after_first_declared s5.for_expression
  for_first s = next _ _ _ _ _ s (λ t c. done) (next _ _ _ _ _ s
      (λ t c. bind (h.declared true c) λ x d. looks _ _ _ _ _ d stopped (next _ _ _ _ _ d (λ u b. bind (with_turns (λ n. s5.declared_list (j.declared true) n b) (list _ _ (λ m. h.declared true m) i.fuel b)) λ y m. bind (take _ m) λ v o. done) (bind (take _ d) λ v o. done)))
      (bind (h.sequence true s) λ x c. looks _ _ _ _ _ c stopped (bind (take _ c) λ v o. done)))

  optional : (p : List ℕ) (s : Input5) → Stays (s5.optional i p s) (s5.optional j p s)
  unfolding s5.optional
  optional p s = next _ _ _ _ _ s (λ t c. done) (bind (h.sequence false s) λ x c. bind (take _ c) λ t d. done)

  for_header : (s : Input5) → Stays (s5.for_header i s) (s5.for_header j s)
  unfolding s5.for_header
  for_header s = bind (for_first s) λ x c. bind (optional _ c) λ y d. bind (optional _ d) λ z l. done

  returned : (s : Input5) → Stays (s5.returned i s) (s5.returned j s)
  unfolding s5.returned
  returned s = looks _ _ _ _ _ s (bind (sequence false s) λ x c. done) done

  in_case : (inside : Bool) (n : ℕ) (s : Input5) → Stays (s5.in_case i inside n s) (s5.in_case j inside (plus n l) s)
  unfolding s5.in_case
  in_case inside zero s = stopped
  in_case inside (suc n) s = looks _ _ _ _ _ s done (bind (h.statement inside false s) λ x c. bind (in_case inside n c) λ y d. done)

  cases : (inside may : Bool) (n : ℕ) (s : Input5) → Stays (s5.cases i inside may n s) (s5.cases j inside may (plus n l) s)
  unfolding s5.cases s5.case_clause s5.default_clause
  cases inside may zero s = stopped
  cases inside may (suc n) s = next _ _ _ _ _ s (λ t c. done) (next _ _ _ _ _ s
      (λ t c. bind (bind (h.sequence false c) λ x d. bind (take _ d) λ u b. bind (with_turns (λ n. s5.in_case j inside n b) (in_case inside i.fuel b)) λ y m. done) λ x d. bind (cases inside may n d) λ y l. done)
      (either may _ _ _ _ s (next _ _ _ _ _ s (λ t c. bind (bind (take _ c) λ u b. bind (with_turns (λ n. s5.in_case j inside n b) (in_case inside i.fuel b)) λ y m. done) λ x d. bind (cases inside false n d) λ y l. done) stopped) stopped))

  handler : (inside : Bool) (s : Input5) → Stays (s5.handler i inside s) (s5.handler j inside s)
  unfolding s5.handler s5.catch_parameter
  handler inside s = bind (take _ s) λ t c. bind (grouped_ _ _ _ _ _ c (λ d. bind (identifier d) λ x l. bind (take _ l) λ u m. done) stopped) λ x d. bind (block inside d) λ y l. done

  try_statement : (inside : Bool) (at : ℕ) (s : Input5) → Stays (s5.try_statement i inside at s) (s5.try_statement j inside at s)
  unfolding s5.try_statement s5.after_handler s5.only_finally
  try_statement inside at s = bind (block inside s) λ x c. looks _ _ _ _ _ c (bind (handler inside c) λ y d. next _ _ _ _ _ d (λ t l. bind (block inside l) λ z m. done) done) (bind (take _ c) λ t d. bind (block inside d) λ y l. done)

  compound : (inside top : Bool) (at : ℕ) (s : Input5) → Stays (s5.jump_statement i inside top at s) (s5.jump_statement j inside top at s) → Stays (s5.compound_statement i inside top at s) (s5.compound_statement j inside top at s)
  unfolding s5.compound_statement s5.do_statement s5.while_statement s5.for_statement s5.switch_statement
  compound inside top at s jumps =
      next _ _ _ _ _ s (λ t c. bind (h.statement inside false c) λ x d. bind (take _ d) λ u l. bind (paren l) λ y m. bind (semicolon_ m) λ v o. done)
      (next _ _ _ _ _ s (λ t c. bind (paren c) λ x d. bind (h.statement inside false d) λ y l. done)
      (next _ _ _ _ _ s (λ t c. bind (grouped_ _ _ _ _ _ c (λ d. for_header d) stopped) λ x d. bind (h.statement inside false d) λ y l. done)
      (next _ _ _ _ _ s (λ t c. bind (paren c) λ x d. bind (grouped_ _ _ _ _ _ d (λ b. with_turns (λ n. s5.cases j inside true n b) (cases inside true i.fuel b)) stopped) λ y l. done)
      (next _ _ _ _ _ s (λ t c. try_statement inside at c) jumps))))

  label_or_end : (inside : Bool) (at : ℕ) (o : Option Identifier5) (x : Expr5) (s : Input5) → Stays (s5.label_or_end i inside at o x s) (s5.label_or_end j inside at o x s)
  unfolding s5.labelled s5.expression_end
  label_or_end inside at (Some y) x s = next _ _ _ _ _ s (λ t c. bind (h.statement inside false c) λ z d. done) (bind (semicolon_ s) λ u d. done)
  label_or_end inside at None x s = bind (semicolon_ s) λ u d. done

  plain : (inside top : Bool) (at : ℕ) (s : Input5) → Stays (s5.plain_statement i inside top at s) (s5.plain_statement j inside top at s)
  unfolding s5.plain_statement s5.declaration s5.expression_statement
  plain inside top at s = looks _ _ _ _ _ s (either top _ _ _ _ s (next _ _ _ _ _ s (λ t c. bind (identifier c) λ x d. bind (rest_of_function _ _ d) λ y l. done) stopped) stopped)
      (looks _ _ _ _ _ s stopped (bind (sequence false s) λ x c. label_or_end inside at _ _ c))

  jump : (inside top : Bool) (at : ℕ) (s : Input5) → Stays (s5.jump_statement i inside top at s) (s5.jump_statement j inside top at s)
  unfolding s5.jump_statement s5.continue_statement s5.break_statement s5.throw_statement s5.debugger_statement s5.return_statement
  jump inside top at s =
      next _ _ _ _ _ s (λ t c. bind (label c) λ x d. bind (semicolon_ d) λ u l. done) (next _ _ _ _ _ s (λ t c. bind (label c) λ x d. bind (semicolon_ d) λ u l. done)
      (next _ _ _ _ _ s (λ t c. looks _ _ _ _ _ c stopped (bind (sequence false c) λ x d. bind (semicolon_ d) λ u l. done)) (next _ _ _ _ _ s (λ t c. bind (semicolon_ c) λ u l. done)
      (either inside _ _ _ _ s (next _ _ _ _ _ s (λ t c. bind (returned c) λ x d. bind (semicolon_ d) λ u l. done) (plain inside top at s)) (plain inside top at s)))))

  statement : (inside top : Bool) (s : Input5) → Stays (s5.statement i inside top s) (s5.statement j inside top s)
  unfolding s5.statement s5.block_statement
  statement inside top s = looks _ _ _ _ _ s (bind (block inside s) λ x c. done) (looks _ _ _ _ _ s (if_statement inside _ s)
      (next _ _ _ _ _ s (λ t c. done) (next _ _ _ _ _ s (λ t c. var_statement _ c) (compound inside top _ s (jump inside top _ s)))))

-- ## The readers tied into one another

faults-only : {A : Type 0} (b : Bool) (p q : Parser A) (s : Input5) {o : Outcome5 A} → Stays (p s) o → Stays (q s) o → Stays (choose b p q s) o
faults-only true p q s f g = f
faults-only false p q s f g = g

only : {A : Type 0} (test : Token5 → Bool) (p q : Parser A) (s : Input5) {o : Outcome5 A} → Stays (p s) o → Stays (q s) o → Stays (if_next test p q s) o
only test p q s f g = faults-only (next_is test s.tokens) p q s f g

no-expression : (s : Input5) {o : Outcome5 Read5} → Stays (e.no_expression s) o
unfolding e.no_expression
no-expression s = only _ _ _ s stopped stopped

expression-stops : (s : Input5) {o : Outcome5 Read5} → Stays (e.expression_at_limit s) o
unfolding e.expression_at_limit
expression-stops s = only _ _ _ s stopped (no-expression s)

callee-stops : (s : Input5) {o : Outcome5 Read5} → Stays (e.callee_at_limit s) o
unfolding e.callee_at_limit
callee-stops s = only _ _ _ s stopped (no-expression s)

statement-stops : (inside : Bool) (s : Input5) {o : Outcome5 Stat5} → Stays (s5.statement_at_limit inside s) o
unfolding s5.statement_at_limit
statement-stops inside s = only _ _ _ s stopped (only _ _ _ s stopped (only _ _ _ s stopped (only _ _ _ s stopped stopped)))

pub grown : (mode mode' : Bool) → (mode ≡ true → mode' ≡ true) → (fuel l room k : ℕ) → Grows l (readers mode fuel room) (readers mode' (plus fuel l) (plus room k))
unfolding readers
grown mode mode' r fuel l zero k = record {
  modes = λ h. readers-inserting mode' (plus fuel l) k ∙ r h;
  turns = readers-fuel mode' (plus fuel l) k;
  opens = λ h. absurd (false≢true h);
  sequence = λ n s. expression-stops s;
  assignment = λ n s. expression-stops s;
  unary = λ s. expression-stops s;
  callee = λ s. callee-stops s;
  property = λ s. stopped;
  declared = λ n s. stopped;
  statement = λ inside top s. statement-stops inside s;
}
grown mode mode' r fuel l (suc room) k =
    let i = readers mode fuel room in
    let j = readers mode' (plus fuel l) (plus room k) in
    let deeper = grown mode mode' r fuel l room k in
    record {
      modes = r;
      turns = refl;
      opens = λ h. refl;
      sequence = λ n s. sequence l i j deeper n s;
      assignment = λ n s. assignment l i j deeper n s;
      unary = λ s. unary l i j deeper s;
      callee = λ s. chain l i j deeper false s;
      property = λ s. property l i j deeper s;
      declared = λ n s. declared l i j deeper n s;
      statement = λ inside top s. statement l i j deeper inside top s;
    }

programs : (l : ℕ) (i j : Inner5) → Grows l i j → (n : ℕ) (s : Input5) → Stays (program i n s) (program j (plus n l) s)
unfolding program
programs l i j h zero s = stopped
programs l i j h (suc n) s = looks _ _ _ _ _ s (bind (statement l i j h false true s) λ x c. bind (programs l i j h n c) λ y d. done) done

-- ## The laws

plus-sum : (n l : ℕ) → plus n l ≡ n + l
plus-sum zero l = none l
  where
    none : (l : ℕ) → l ≡ zero + l
    none l = omega arith
plus-sum (suc n) l = ap (λ m. suc m) (plus-sum n l) ∙ one n l
  where
    one : (n l : ℕ) → suc (n + l) ≡ suc n + l
    one n l = omega arith

took-of : {A : Type 0} {x : A} {c : Input5} {o o' : Outcome5 A} → Stays o o' → o ≡ Took x c → o' ≡ Took x c
took-of took_so e = e
took-of fault_so e = absurd (cc)

with-more : (mode mode' : Bool) → (mode ≡ true → mode' ≡ true) → (fuel room l k : ℕ) (s : Input5) (statements : List Stat5) (after_ : Input5) → program (readers mode fuel room) fuel s ≡ Took statements after_
    → program (readers mode' (fuel + l) (room + k)) (fuel + l) s ≡ Took statements after_
with-more mode mode' r fuel room l k s statements after_ e =
    ap (λ n. program (readers mode' n (room + k)) n s) (sym (plus-sum fuel l)) ∙ ap (λ n. program (readers mode' (plus fuel l) n) (plus fuel l) s) (sym (plus-sum room k))
    ∙ took-of (programs l _ _ (grown mode mode' r fuel l room k) fuel s) e

pub readings-stay : ReadingsStay
readings-stay mode fuel room more tokens last statements after_ e = with-more mode mode (λ h. h) fuel room more more _ statements after_ e

plus-none : (n : ℕ) → n + 0 ≡ n
plus-none n = omega arith

pub readings-stay-inserting : ReadingsStayInserting
readings-stay-inserting fuel room tokens last statements after_ e =
    let s : Input5 = record { tokens = tokens; last = last } in
    ap (λ n. program (readers true n room) n s) (sym (plus-none fuel)) ∙ ap (λ n. program (readers true (fuel + 0) n) (fuel + 0) s) (sym (plus-none room))
    ∙ with-more false true (λ h. refl) fuel room 0 0 s statements after_ e

pub full-readings : IsComplete → IsReadInFull
full-readings complete mode tokens statements d =
    let c = complete mode tokens statements d in
    (c.0, λ fuel room last f r. let k = c.1 fuel room last f r in (k.0, k.1, readings-stay-inserting fuel room tokens last k.0 _ k.2, k.3))

pub exact-full-readings : IsReadExactly false → IsReadExactly true
exact-full-readings exactly room tokens statements d w =
    let c = exactly room tokens statements d w in
    (c.0, λ fuel last f. let k = c.1 fuel last f in (k.0, readings-stay-inserting fuel room tokens last statements _ k.1))
