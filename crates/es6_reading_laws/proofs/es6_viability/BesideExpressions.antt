-- Readers of expressions and their parts take across a semicolon that is left out what they take with it, or a reader that inserts
-- none takes the token behind it.
use Rattle.std.specs.Prelude.{is_some, not}
use Rattle.std.proofs.lemmas.Bool.{false≢true}
use Rattle.std.proofs.Common.{◌≡◌, ◌∙◌, ℕ, zero, suc, ◌+◌, Bool, true, false, ◌&&◌, ◌||◌, ◌≤◌, List, [], ◌∷◌, length, Option, Some, None, refl, sym, ap, subst}
use Rattle.es6_lexer.specs.declared.token.Punctuator.TheVariants as marks
use Rattle.es6_ast.specs.declared.operators.AssignOperator.{AssignOperator}
use Rattle.es6_ast.specs.declared.operators.MethodKind.{MethodKind}
use Rattle.es6_ast.specs.declared.operators.UnaryOperator.{UnaryOperator}
use Rattle.es6_ast.specs.declared.tree.Expression.{Expression}
use Rattle.es6_ast.specs.declared.tree.Identifier.{Identifier}
use Rattle.es6_ast.specs.declared.tree.Key.{Key}
use Rattle.es6_ast.specs.declared.tree.Key.TheVariants.{WordKey}
use Rattle.es6_ast.specs.declared.operators.MethodKind.TheVariants.{PlainMethod}
use Rattle.es6_ast.specs.declared.tree.Link.{Link}
use Rattle.es6_ast.specs.declared.tree.Parameter.{Parameter}
use Rattle.es6_ast.specs.declared.tree.Property.TheVariants as properties'
use Rattle.es6_ast.specs.declared.tree.Rest.{Rest as Dots}
use Rattle.es6_ast.specs.declared.tree.Stretch.{Stretch}
use Rattle.es6_ast.specs.declared.tree.Template.{Template}
use Rattle.es6_ast.specs.declared.settings.Flags.{Flags}
use Rattle.es6_ast.specs.declared.settings.Role.{Role}
use Rattle.es6_ast.specs.declared.settings.Role.TheVariants.{Leading, Among, Heritage, Callee}
use Rattle.es6_ast.specs.declared.settings.Stand.TheVariants.{Listed}
use Rattle.es6_ast.specs.Settings.{is_leading, has_calls}
use Rattle.es6_ast.specs.Tokens.{Filled}
use Rattle.es6_ast.specs.Grammar.{with_in, of_function, of_arrow}
use Rattle.es6_reading.specs.Parser.{Parser, Input, ◌>>=◌, made, returns, on, mark, kept_if, from, group, ends_block, if_next, is_left, is_covered, next_mark, no_number, refused, Reading, Inner}
use Rattle.es6_reading.specs.Refine.{Refined, Fits, Misfit, TooNested, parameters_of, target_before}
use Rattle.es6_reading.specs.Words.{unary_operators, stretch_at, is_arrow}
use Rattle.es6_reading.specs.Parts as t6
use Rattle.es6_reading.specs.Expressions as e
use Rattle.es6_reading.proofs.FollowChoices as choices'
use Rattle.es6_reading.proofs.FollowParts as parts'
use Rattle.es6_reading.proofs.FollowPrimary as primary'
use Rattle.es6_reading.proofs.FollowLevels as levels'
use Rattle.es6_reading.proofs.FollowLevels.{unary-none, assign-none, binary-none}
use Rattle.es6_reading.proofs.Follows.{semi, not-before-arrow}
use Rattle.es6_reading.proofs.Posts.{fault, choose-holds, refused-holds}
use Rattle.es6_reading.proofs.SoundPrimary.{no-operand}
use Rattle.es6_reading_laws.proofs.es6_viability.Viable.{left}
use Rattle.es6_reading_laws.proofs.es6_viability.Beside.{Gap, Loss, Beside, BesideBy, Stops, Both, over, turn, both-same, outcome-inside, hit, missed, low, group-past, done, stopped, bind, bind-ends, nowhere, number, expression, either, may, must, take, looks-may, looks-must, looks-taken, on-line, begins, begins-free, opened, opened-past, group-must, group-may, Crosses}

no-arrow : (t : Filled) → (t.newline || ends_block t.kind) ≡ true → is_arrow t ≡ false
no-arrow t h = not-before-arrow (t ∷ []) h

-- ## What begins with no inserted semicolon

module _ (i : Inner) where
  pub chain-stops : (f : Flags) (role : Role) → Stops (e.chain i f role)
  chain-stops f role d at us last = primary'.chain-stops (λ l. i) f role zero d at us last

  postfix-stops : (f : Flags) (role : Role) → Stops (e.postfix i f role)
  unfolding e.postfix
  postfix-stops f role d at us last = choices'.stopped _ (chain-stops f role d at us last)

  update-stops : (f : Flags) (role : Role) → Stops (e.update i f role)
  unfolding e.update
  update-stops f role d at us last = postfix-stops f role d at us last

  pub unary-stops : (f : Flags) → Stops (e.unary i f)
  unfolding e.unary unary_operators
  unary-stops f d at us last = update-stops f Among d at us last

  pub power-stops : (f : Flags) (role : Role) → Stops (e.power i f role)
  unfolding e.power unary_operators
  power-stops f role d at us last = choices'.stopped _ (update-stops f role d at us last)

  binary-stops : (f : Flags) (role : Role) (up level : ℕ) → Stops (e.binary_from i f role up level)
  unfolding e.binary_from
  binary-stops f role zero level d at us last = power-stops f role d at us last
  binary-stops f role (suc up) level d at us last = choices'.stopped _ (binary-stops f role up (level + 1) d at us last)

  conditional-stops : (f : Flags) → Stops (e.conditional i f)
  unfolding e.conditional
  conditional-stops f d at us last = choices'.stopped _ (binary-stops f Leading 10 3 d at us last)

  without-yield-stops : (f : Flags) (place : ℕ) → Stops (e.without_yield i f place)
  unfolding e.without_yield
  without-yield-stops f place d at us last = choices'.stopped _ (conditional-stops f d at us last)

  pub assignment-stops : (f : Flags) → Stops (e.assignment i f)
  assignment-stops f d at us last = levels'.assignment-stops (λ l. i) f zero d at us last

  pub sequence-stops : (f : Flags) → Stops (e.sequence i f)
  sequence-stops f d at us last = levels'.sequence-stops (λ l. i) f zero d at us last

  pub binding-stops : (f : Flags) → Stops (t6.binding i f)
  unfolding t6.binding t6.binding_pattern refused
  binding-stops f d at us last = fault

  pub initialized-stops : (f g : Flags) → Stops (t6.initialized i f g)
  unfolding t6.initialized
  initialized-stops f g d at us last = choices'.stopped _ (binding-stops f d at us last)

  pub part-stops : (f : Flags) → Stops (t6.one_part i f)
  unfolding t6.one_part
  part-stops f d at us last = initialized-stops f (with_in f) d at us last

  pub object-part-stops : (f : Flags) → Stops (t6.one_object_part i f)
  unfolding t6.one_object_part t6.key no_number
  object-part-stops f d at us last = fault

  method-stops : (f : Flags) → Stops (t6.method i f)
  unfolding t6.method t6.key no_number
  method-stops f d at us last = fault

  pub member-stops : (f : Flags) → Stops (t6.one_member i f)
  unfolding t6.one_member
  member-stops f d at us last = choices'.stopped _ (method-stops f d at us last)

  pub property-stops : (f : Flags) → Stops (e.one_property i f)
  unfolding e.one_property t6.key no_number
  property-stops f d at us last = fault

  pub block-stops : (f : Flags) → Stops (t6.block i f)
  unfolding t6.block refused
  block-stops f d at us last = fault

  super-call-stops : (f : Flags) (role : Role) (place : ℕ) → Stops (e.super_call i f role place)
  unfolding e.super_call
  super-call-stops f role place d at us last = choose-holds _ _ (has_calls role) _ (λ k. refused-holds _) (λ k. refused-holds _)

rest-after-stops : (place dots : ℕ) (held : Expression) (r : Refined (List Parameter)) → Stops (e.rest_after place dots held r)
rest-after-stops place dots held (Fits es) d at us last = refused-holds _
rest-after-stops place dots held (Misfit m) d at us last = refused-holds _
rest-after-stops place dots held TooNested d at us last = fault

rest-again-stops : {A : Type 0} (role : Role) (p q : Parser A) → Stops q → Stops (if_next (λ t. is_leading role && next_mark marks.Ellipsis t) p q)
rest-again-stops Leading p q h d at us last = h d at us last
rest-again-stops Among p q h d at us last = h d at us last
rest-again-stops Heritage p q h d at us last = h d at us last
rest-again-stops Callee p q h d at us last = h d at us last

module _ {g : Gap} (i j : Inner) (h : Crosses g i j) where
  more-parameters-stops : (f : Flags) (n : ℕ) → Stops (t6.more_parameters i f n)
  unfolding t6.more_parameters
  more-parameters-stops f zero d at us last = fault
  more-parameters-stops f (suc n) d at us last = choices'.stopped _ (h.part_stops f d at us last)

  statements-stops : (f : Flags) (n : ℕ) → Stops (t6.statements i f n)
  unfolding t6.statements
  statements-stops f zero d at us last = fault
  statements-stops f (suc n) d at us last = choices'.stopped _ (h.statement_stops f Listed d at us last)

  argument-stops : (f : Flags) → Stops (e.argument i f)
  unfolding e.argument
  argument-stops f d at us last = choices'.stopped _ (h.assignment_stops (with_in f) d at us last)

  elements-stops : (f : Flags) (n : ℕ) → Stops (e.elements i f n)
  unfolding e.elements
  elements-stops f zero d at us last = fault
  elements-stops f (suc n) d at us last = choices'.stopped _ (argument-stops f d at us last)

  more-arguments-stops : (f : Flags) (n : ℕ) → Stops (e.more_arguments i f n)
  unfolding e.more_arguments
  more-arguments-stops f zero d at us last = fault
  more-arguments-stops f (suc n) d at us last = choices'.stopped _ (argument-stops f d at us last)

  held-parts-stops : (f : Flags) (role : Role) (n : ℕ) → Stops (e.held_parts i f role n)
  unfolding e.held_parts
  held-parts-stops f role zero d at us last = fault
  held-parts-stops f role (suc n) d at us last = choices'.stopped _ (h.assignment_stops (with_in f) d at us last)

  held-group-stops : (f : Flags) (role : Role) (place : ℕ) → Stops (e.held_group i f role place)
  unfolding e.held_group
  held-group-stops f role place d at us last = choices'.stopped _ (held-parts-stops f role i.fuel d at us last)

-- ## Parts

module _ {g : Gap} where
  pub identifier : (s : Input) → Beside g (t6.identifier) (t6.identifier) s
  unfolding t6.identifier refused
  identifier s = begins parts'.identifier_from parts'.identifier_from (λ d at us last. fault) s (λ place. bind _ _ (take _ (λ d at. refl) s) λ x c. done)

  pub any_name : (s : Input) → Beside g (t6.name_of_any_kind) (t6.name_of_any_kind) s
  unfolding t6.name_of_any_kind refused
  any_name s = begins parts'.any_name_from parts'.any_name_from (λ d at us last. fault) s (λ place. bind _ _ (take _ (λ d at. refl) s) λ x c. done)

  rest_part : (at : ℕ) (s : Input) → Beside g (t6.rest_part at) (t6.rest_part at) s
  unfolding t6.rest_part
  rest_part at s = bind _ _ (identifier s) λ x c. bind _ _ (take _ (λ d at. refl) c) λ t d. done

  rest_parameter : (at : ℕ) (s : Input) → Beside g (t6.rest_parameter at) (t6.rest_parameter at) s
  unfolding t6.rest_parameter
  rest_parameter at s = bind _ _ (identifier s) λ x c. bind _ _ (take _ (λ d at. refl) c) λ t d. done

  no_parameter : (s : Input) → Beside g (t6.no_parameter) (t6.no_parameter) s
  unfolding t6.no_parameter
  no_parameter s = bind _ _ (take _ (λ d at. refl) s) λ t c. done

  star : (s : Input) → Beside g (t6.star) (t6.star) s
  unfolding t6.star
  star s = may _ _ _ _ _ (λ d at. refl) s (λ t c. done) done

  no_operand : (role : Role) (s : Input) → Beside {A = Reading} g (e.no_operand role) (e.no_operand role) s
  no_operand Leading s = expression s
  no_operand Among s = expression s
  no_operand Heritage s = number s
  no_operand Callee s = number s

  covered : (at : ℕ) (held : Option Expression) (rest : Option Dots) (s : Input) → Beside g (e.covered at held rest) (e.covered at held rest) s
  unfolding e.covered
  covered at held rest s = looks-must _ _ _ _ _ (λ d at us last. refused-holds _) s done (nowhere s)

  covered_rest : (at dots : ℕ) (held : Option Expression) (s : Input) → Beside g (e.covered_rest at dots held) (e.covered_rest at dots held) s
  unfolding e.covered_rest
  covered_rest at dots held s = bind _ _ (identifier s) λ n c. bind _ _ (take _ (λ d at. refl) c) λ t d. covered at held _ d

  rest_after : (at dots : ℕ) (held : Expression) (r : Refined (List Parameter)) (s : Input) → Beside g (e.rest_after at dots held r) (e.rest_after at dots held r) s
  rest_after at dots held (Fits es) s = must _ _ _ _ _ (λ d at. refl) (λ d at us last. refused-holds _) s (λ t c. covered_rest at dots (Some held) c) (nowhere s)
  rest_after at dots held (Misfit place) s = nowhere s
  rest_after at dots held TooNested s = stopped

  closed_group : (at : ℕ) (held : Expression) (s : Input) → Beside g (e.closed_group at held) (e.closed_group at held) s
  unfolding e.closed_group
  closed_group at held s = bind _ _ (take _ (λ d at. refl) s) λ t c. done

  member_link : (at : ℕ) (s : Input) → Beside g (e.member_link at) (e.member_link at) s
  unfolding e.member_link
  member_link at s = bind _ _ (any_name s) λ n c. done

  pub fitting : {A : Type 0} (r : Refined A) (s : Input) → Beside g (e.fitting r) (e.fitting r) s
  fitting (Fits x) s = done
  fitting (Misfit place) s = nowhere s
  fitting TooNested s = stopped

module _ {g : Gap} (i j : Inner) (h : Crosses g i j) where
  key : (f : Flags) (s : Input) → Beside g (t6.key i f) (t6.key j f) s
  unfolding t6.key t6.computed_key no_number
  key f s = begins (parts'.key_from i f) (parts'.key_from j f) (λ d at us last. fault) s (λ place. must _ _ _ _ _ (λ d at. refl) (λ d at us last. fault) s (λ k c. done) (group-must i j h.opens marks.LeftBracket _ _ _ _ (λ d at us last. fault) s (λ c. bind _ _ (h.assignment (with_in f) c) λ x d. bind _ _ (take _ (λ d at. refl) d) λ t k. done) (number s)))

  array_parts : (f : Flags) {n m : ℕ} (w : Both n m) (s : Input) → Beside g (t6.array_parts i f n) (t6.array_parts j f m) s
  unfolding t6.array_parts refused
  array_parts f over s = stopped
  array_parts f (turn {n = n} {m = m} w) s = begins (parts'.array_parts_from i f (t6.array_parts i f n)) (parts'.array_parts_from j f (t6.array_parts j f m)) (λ d at us last. choices'.stopped _ (h.part_stops f d at us last)) s
      (λ place. must _ _ _ _ _ (λ d at. refl) (λ d at us last. choices'.stopped _ (h.part_stops f d at us last)) s (λ t c. done) (must _ _ _ _ _ (λ d at. refl) (λ d at us last. choices'.stopped _ (h.part_stops f d at us last)) s (λ t c. bind _ _ (array_parts f w c) λ x d. done) (must _ _ _ _ _ (λ d at. refl) (λ d at us last. choices'.stopped _ (h.part_stops f d at us last)) s (λ t c. rest_part _ c)
      (bind _ _ (h.part f s) λ q c. must _ _ _ _ _ (λ d at. refl) (λ d at us last. fault) c (λ t d. bind _ _ (array_parts f w d) λ x k. done) (bind _ _ (take _ (λ d at. refl) c) λ t d. done)))))

  object_parts : (f : Flags) {n m : ℕ} (w : Both n m) (s : Input) → Beside g (t6.object_parts i f n) (t6.object_parts j f m) s
  unfolding t6.object_parts refused
  object_parts f over s = stopped
  object_parts f (turn {n = n} {m = m} w) s = must _ _ _ _ _ (λ d at. refl) (λ d at us last. choices'.stopped _ (h.object_part_stops f d at us last)) s (λ t c. done)
      (bind _ _ (h.object_part f s) λ q c. must _ _ _ _ _ (λ d at. refl) (λ d at us last. fault) c (λ t d. bind _ _ (object_parts f w d) λ x k. done) (bind _ _ (take _ (λ d at. refl) c) λ t d. done))

  binding_pattern : (f : Flags) (at : ℕ) (s : Input) → Beside g (t6.binding_pattern i f at) (t6.binding_pattern j f at) s
  unfolding t6.binding_pattern
  binding_pattern f at s = group-must i j h.opens marks.LeftBracket _ _ _ _ (λ d at us last. refused-holds _) s (λ c. bind _ _ (array_parts f h.turns c) λ x d. done)
      (group-must i j h.opens marks.LeftBrace _ _ _ _ (λ d at us last. refused-holds _) s (λ c. bind _ _ (object_parts f h.turns c) λ x d. done) (nowhere s))

  pub binding : (f : Flags) (s : Input) → Beside g (t6.binding i f) (t6.binding j f) s
  unfolding t6.binding t6.binding_pattern refused
  binding f s = begins (parts'.binding_from i f) (parts'.binding_from j f) (binding-stops i f) s (λ place. must _ _ _ _ _ (λ d at. refl) (λ d at us last. fault) s (λ t c. done) (binding_pattern f _ s))

  pub initialized : (f k : Flags) (s : Input) → Beside g (t6.initialized i f k) (t6.initialized j f k) s
  unfolding t6.initialized
  initialized f k s = begins (parts'.initialized_from i f k) (parts'.initialized_from j f k) (initialized-stops i f k) s
      (λ place. bind _ _ (binding f s) λ y c. may _ _ _ _ _ (λ d at. refl) c (λ t d. bind _ _ (h.assignment k d) λ x m. done) done)

  pub one_part : (f : Flags) (s : Input) → Beside g (t6.one_part i f) (t6.one_part j f) s
  unfolding t6.one_part
  one_part f s = initialized f (with_in f) s

  keyed_part : (f : Flags) (at : ℕ) (k : Key) (s : Input) → Beside g (t6.keyed_part i f at k) (t6.keyed_part j f at k) s
  unfolding t6.keyed_part
  keyed_part f at k s = bind _ _ (one_part f s) λ q c. done

  named_part : (f : Flags) (at : ℕ) (n : Identifier) (s : Input) → Beside g (t6.named_part i f at n) (t6.named_part j f at n) s
  unfolding t6.named_part
  named_part f at n s = may _ _ _ _ _ (λ d at. refl) s (λ t c. bind _ _ (h.assignment (with_in f) c) λ x d. done) done

  pub object_part : (f : Flags) (s : Input) → Beside g (t6.one_object_part i f) (t6.one_object_part j f) s
  unfolding t6.one_object_part t6.key no_number
  object_part f s = begins (parts'.object_part_from i f) (parts'.object_part_from j f) (object-part-stops i f) s
      (λ place. must _ _ _ _ _ (λ d at. refl) (λ d at us last. fault) s (λ name c. may _ _ _ _ _ (λ d at. refl) c (λ t d. keyed_part f _ _ d) (named_part f _ _ c))
      (bind _ _ (key f s) λ k c. bind _ _ (take _ (λ d at. refl) c) λ t d. keyed_part f _ k d))

  more_parameters : (f : Flags) {n m : ℕ} (w : Both n m) (s : Input) → Beside g (t6.more_parameters i f n) (t6.more_parameters j f m) s
  unfolding t6.more_parameters refused
  more_parameters f over s = stopped
  more_parameters f (turn {n = n} {m = m} w) s = begins (parts'.more_parameters_from i f (t6.more_parameters i f n)) (parts'.more_parameters_from j f (t6.more_parameters j f m)) (λ d at us last. choices'.stopped _ (h.part_stops f d at us last)) s
      (λ place. must _ _ _ _ _ (λ d at. refl) (λ d at us last. choices'.stopped _ (h.part_stops f d at us last)) s (λ t c. bind _ _ (rest_parameter _ c) λ x d. done)
      (bind _ _ (h.part f s) λ q c. must _ _ _ _ _ (λ d at. refl) (λ d at us last. fault) c (λ t d. bind _ _ (more_parameters f w d) λ x k. done) (bind _ _ (take _ (λ d at. refl) c) λ t d. done)))

  parameters : (f : Flags) (s : Input) → Beside g (t6.parameters i f) (t6.parameters j f) s
  unfolding t6.parameters
  parameters f s = must _ _ _ _ _ (λ d at. refl) (more-parameters-stops i j h f i.fuel) s (λ t c. done) (more_parameters f h.turns s)

  statements : (f : Flags) {n m : ℕ} (w : Both n m) (s : Input) → Beside g (t6.statements i f n) (t6.statements j f m) s
  unfolding t6.statements
  statements f over s = stopped
  statements f (turn {n = n} {m = m} w) s = must _ _ _ _ _ (λ d at. refl) (λ d at us last. choices'.stopped _ (h.statement_stops f Listed d at us last)) s (λ t c. done)
      (bind-ends _ _ (λ x d at us last. choices'.stopped _ (statements-stops i j h f n d at us last)) (h.statement f Listed s) λ x c. bind _ _ (statements f w c) λ y d. done)

  pub block : (f : Flags) (s : Input) → Beside g (t6.block i f) (t6.block j f) s
  unfolding t6.block
  block f s = begins (parts'.block_from i f) (parts'.block_from j f) (block-stops i f) s (λ place. group-must i j h.opens marks.LeftBrace _ _ _ _ (λ d at us last. refused-holds _) s (λ c. bind _ _ (statements f h.turns c) λ x d. done) (nowhere s))

  function_body : (generator : Bool) (s : Input) → Beside g (t6.function_body i generator) (t6.function_body j generator) s
  unfolding t6.function_body
  function_body generator s = group-must i j h.opens marks.LeftBrace _ _ _ _ (λ d at us last. refused-holds _) s (λ c. statements (of_function generator) h.turns c) (nowhere s)

  signature : (generator : Bool) (s : Input) → Beside g (t6.signature i generator) (t6.signature j generator) s
  unfolding t6.signature
  signature generator s = bind _ _ (group-must i j h.opens marks.LeftParenthesis _ _ _ _ (λ d at us last. refused-holds _) s (λ c. parameters (of_function generator) c) (nowhere s)) λ x c. bind _ _ (function_body generator c) λ y d. done

  rest_of_function : (at : ℕ) (generator : Bool) (name : Option Identifier) (s : Input) → Beside g (t6.rest_of_function i at generator name) (t6.rest_of_function j at generator name) s
  unfolding t6.rest_of_function
  rest_of_function at generator name s = bind _ _ (signature generator s) λ x c. done

  pub named_function : (at : ℕ) (generator : Bool) (s : Input) → Beside g (t6.named_function i at generator) (t6.named_function j at generator) s
  unfolding t6.named_function
  named_function at generator s = bind _ _ (identifier s) λ n c. rest_of_function at generator (Some n) c

  pub function : (lacks : Bool) (at : ℕ) (s : Input) → Beside g (t6.function_after_word i lacks at) (t6.function_after_word j lacks at) s
  unfolding t6.function_after_word t6.named_function t6.identifier refused
  function lacks at s = bind _ _ (star s) λ generator c. either lacks _ _ _ _ c (looks-must _ _ _ _ _ (λ d at us last. fault) c (rest_of_function at generator None c) (named_function at generator c)) (named_function at generator c)

  method_after_key : (kind : MethodKind) (generator : Bool) (at : ℕ) (k : Key) (s : Input) → Beside g (t6.method_after_key i kind generator at k) (t6.method_after_key j kind generator at k) s
  unfolding t6.method_after_key t6.signature refused
  method_after_key kind generator at k s = begins (parts'.method_parameters_from i kind generator at k) (parts'.method_parameters_from j kind generator at k) (λ d at us last. fault) s (λ place. bind _ _ (signature generator s) λ x c. done)

  accessor_parameters : (setter : Bool) (s : Input) → Beside g (t6.accessor_parameters i setter) (t6.accessor_parameters j setter) s
  unfolding t6.accessor_parameters t6.one_parameter
  accessor_parameters true s = bind _ _ (h.part (of_function false) s) λ q c. bind _ _ (take _ (λ d at. refl) c) λ t d. done
  accessor_parameters false s = no_parameter s

  accessor : (f : Flags) (at : ℕ) (setter : Bool) (s : Input) → Beside g (t6.accessor i f at setter) (t6.accessor j f at setter) s
  unfolding t6.accessor refused
  accessor f at setter s = bind _ _ (key f s) λ k c. begins (parts'.accessor_parameters_from i at setter k) (parts'.accessor_parameters_from j at setter k) (λ d at us last. fault) c (λ place. bind _ _ (group-must i j h.opens marks.LeftParenthesis _ _ _ _ (λ d at us last. fault) c (λ d. accessor_parameters setter d) (nowhere c)) λ x d. bind _ _ (function_body false d) λ y m. done)

  generator_method : (f : Flags) (at : ℕ) (s : Input) → Beside g (t6.generator_method i f at) (t6.generator_method j f at) s
  unfolding t6.generator_method
  generator_method f at s = bind _ _ (key f s) λ k c. method_after_key _ true at k c

  accessor_word : (f : Flags) (at : ℕ) (setter : Bool) (s : Input) → Beside g (t6.method_after_accessor_word i f at setter) (t6.method_after_accessor_word j f at setter) s
  unfolding t6.method_after_accessor_word t6.accessor t6.key no_number
  accessor_word f at setter s = looks-must _ _ _ _ _ (λ d at us last. fault) s (method_after_key _ false at _ s) (accessor f at setter s)

  method : (f : Flags) (s : Input) → Beside g (t6.method i f) (t6.method j f) s
  unfolding t6.method t6.key no_number
  method f s = begins (parts'.method_from i f) (parts'.method_from j f) (method-stops i f) s (λ place. must _ _ _ _ _ (λ d at. refl) (λ d at us last. fault) s (λ t c. generator_method f _ c) (must _ _ _ _ _ (λ d at. refl) (λ d at us last. fault) s (λ setter c. accessor_word f _ setter c) (bind _ _ (key f s) λ k c. method_after_key _ false _ k c)))

  pub member : (f : Flags) (s : Input) → Beside g (t6.one_member i f) (t6.one_member j f) s
  unfolding t6.one_member t6.member_after_static
  member f s = begins (parts'.member_from i f) (parts'.member_from j f) (member-stops i f) s
      (λ place. must _ _ _ _ _ (λ d at. refl) (λ d at us last. choices'.stopped _ (method-stops i f d at us last)) s
      (λ t c. looks-must _ _ _ _ _ (λ d at us last. choices'.stopped _ (method-stops i f d at us last)) c (bind _ _ (method_after_key _ false _ _ c) λ m d. done) (bind _ _ (method f c) λ m d. done))
      (bind _ _ (method f s) λ m c. done))

  members : (f : Flags) {n m : ℕ} (w : Both n m) (s : Input) → Beside g (t6.members i f n) (t6.members j f m) s
  unfolding t6.members
  members f over s = stopped
  members f (turn {n = n} {m = m} w) s = must _ _ _ _ _ (λ d at. refl) (λ d at us last. choices'.stopped _ (h.member_stops f d at us last)) s (λ t c. done) (must _ _ _ _ _ (λ d at. refl) (λ d at us last. choices'.stopped _ (h.member_stops f d at us last)) s (λ t c. members f w c) (bind _ _ (h.member f s) λ m c. bind _ _ (members f w c) λ ms d. done))

  heritage : (f : Flags) (s : Input) → Beside g (t6.heritage i f) (t6.heritage j f) s
  unfolding t6.heritage
  heritage f s = may _ _ _ _ _ (λ d at. refl) s (λ t c. bind _ _ (h.heritage f c) λ x d. done) done

  rest_of_class : (f : Flags) (at : ℕ) (name : Option Identifier) (s : Input) → Beside g (t6.rest_of_class i f at name) (t6.rest_of_class j f at name) s
  unfolding t6.rest_of_class
  rest_of_class f at name s = bind _ _ (heritage f s) λ x c. bind _ _ (group-must i j h.opens marks.LeftBrace _ _ _ _ (λ d at us last. refused-holds _) c (λ d. members f h.turns d) (nowhere c)) λ ms d. done

  named_class : (f : Flags) (at : ℕ) (s : Input) → Beside g (t6.named_class i f at) (t6.named_class j f at) s
  unfolding t6.named_class
  named_class f at s = bind _ _ (identifier s) λ n c. rest_of_class f at (Some n) c

  pub class : (f : Flags) (lacks : Bool) (at : ℕ) (s : Input) → Beside g (t6.class_after_word i f lacks at) (t6.class_after_word j f lacks at) s
  unfolding t6.class_after_word t6.named_class t6.identifier refused
  class f lacks at s = either lacks _ _ _ _ s (looks-must _ _ _ _ _ (λ d at us last. fault) s (rest_of_class f at None s) (named_class f at s)) (named_class f at s)

  -- ## Templates

  template_parts : (f : Flags) {n m : ℕ} (w : Both n m) (s : Input) → Beside g (t6.template_parts i f n) (t6.template_parts j f m) s
  unfolding t6.template_parts refused
  template_parts f over s = stopped
  template_parts f (turn {n = n} {m = m} w) s = bind _ _ (h.sequence (with_in f) s) λ x c. must _ _ _ _ _ (λ d at. refl) (λ d at us last. fault) c (λ r d. done) (bind _ _ (take _ (λ d at. refl) c) λ r d. bind _ _ (template_parts f w d) λ ms k. done)

  parted : (f : Flags) (at : ℕ) (r : Stretch) (s : Input) → Beside g (t6.parted_template i f at r) (t6.parted_template j f at r) s
  unfolding t6.parted_template
  parted f at r s = bind _ _ (template_parts f h.turns s) λ ms c. done

  template_may : {A : Type 0} {b : Loss} (f : Flags) (at : ℕ) (p p3 : Template → Parser A) (q q3 : Parser A) (s : Input) → ((m : Template) (c : Input) → BesideBy (Some b) g (p m) (p3 m) c) → BesideBy (Some b) g q q3 s → BesideBy (Some b) g (t6.on_template i f at p q) (t6.on_template j f at p3 q3) s
  template_may {A = A} {b = b} f at p p3 q q3 s k l = may _ _ _ _ _ (λ d at. refl) s (λ r c. k _ c) (looks-taken (λ t. is_some (stretch_at true false t)) _ _ _ _ (λ d at. refl)
      (λ e. opened-past j.may_open h.opens _ (record { tokens = g.next ∷ g.behind; last = g.at }) (length g.behind) (taken (stretch_at true false g.next) refl e)) s (opened i.may_open j.may_open h.opens _ _ s parted-may) l)
    where
      parted-may : BesideBy (Some b) g (on (stretch_at true false) (λ r. ◌>>=◌ (t6.parted_template i f at r) p) q) (on (stretch_at true false) (λ r. ◌>>=◌ (t6.parted_template j f at r) p3) q3) s
      parted-may = may _ _ _ _ _ (λ d at. refl) s (λ r c. bind _ _ (parted f at r c) λ m d. k m d) l

      taken : (v : Option Stretch) → stretch_at true false g.next ≡ v → is_some (stretch_at true false g.next) ≡ true
          → length (left (on (stretch_at true false) (λ r. ◌>>=◌ (t6.parted_template j f at r) p3) q3 (record { tokens = g.next ∷ g.behind; last = g.at }))) ≤ length g.behind
      taken None e k' = absurd (false≢true (sym (ap (λ o. is_some o) e) ∙ k'))
      taken (Some r) e k' = subst (λ o. length (left o) ≤ length g.behind) (sym (hit (stretch_at true false) g.next g.behind g.at (λ r. ◌>>=◌ (t6.parted_template j f at r) p3) q3 r e))
          (outcome-inside p3 (length g.behind) (t6.parted_template j f at r (record { tokens = g.behind; last = g.next.span.end })) ((parted f at r (record { tokens = g.behind; last = g.next.span.end })).inside g.behind) (λ m c. (k m c).inside c.tokens))

  template_must : {A : Type 0} {b : Loss} (f : Flags) (at : ℕ) (p p3 : Template → Parser A) (q q3 : Parser A) → Stops q → (s : Input) → ((m : Template) (c : Input) → BesideBy (Some b) g (p m) (p3 m) c) → BesideBy (Some b) g q q3 s → BesideBy (Some b) g (t6.on_template i f at p q) (t6.on_template j f at p3 q3) s
  template_must f at p p3 q q3 n s k l = template_may f at p p3 q q3 s k l

  -- ## Primary expressions

  argument : (f : Flags) (s : Input) → Beside g (e.argument i f) (e.argument j f) s
  unfolding e.argument
  argument f s = begins (primary'.argument_from i f) (primary'.argument_from j f) (argument-stops i j h f) s (λ place. must _ _ _ _ _ (λ d at. refl) (λ d at us last. choices'.stopped _ (h.assignment_stops (with_in f) d at us last)) s
      (λ t c. bind _ _ (h.assignment (with_in f) c) λ x d. done) (bind _ _ (h.assignment (with_in f) s) λ x c. done))

  elements : (f : Flags) {n m : ℕ} (w : Both n m) (s : Input) → Beside g (e.elements i f n) (e.elements j f m) s
  unfolding e.elements refused
  elements f over s = stopped
  elements f (turn {n = n} {m = m} w) s = must _ _ _ _ _ (λ d at. refl) (λ d at us last. choices'.stopped _ (argument-stops i j h f d at us last)) s (λ t c. done) (must _ _ _ _ _ (λ d at. refl) (λ d at us last. choices'.stopped _ (argument-stops i j h f d at us last)) s (λ t c. bind _ _ (elements f w c) λ l d. done)
      (bind _ _ (argument f s) λ a c. must _ _ _ _ _ (λ d at. refl) (λ d at us last. fault) c (λ t d. must _ _ _ _ _ (λ d at. refl) (λ k at us last. choices'.stopped _ (elements-stops i j h f n k at us last)) d (λ u k. done) (bind _ _ (elements f w d) λ l k. done)) (bind _ _ (take _ (λ d at. refl) c) λ t d. done)))

  more_arguments : (f : Flags) {n m : ℕ} (w : Both n m) (s : Input) → Beside g (e.more_arguments i f n) (e.more_arguments j f m) s
  unfolding e.more_arguments refused
  more_arguments f over s = stopped
  more_arguments f (turn {n = n} {m = m} w) s = bind _ _ (argument f s) λ a c. must _ _ _ _ _ (λ d at. refl) (λ d at us last. fault) c (λ t d. bind _ _ (more_arguments f w d) λ x k. done) (bind _ _ (take _ (λ d at. refl) c) λ t d. done)

  arguments : (f : Flags) (s : Input) → Beside g (e.arguments i f) (e.arguments j f) s
  unfolding e.arguments
  arguments f s = must _ _ _ _ _ (λ d at. refl) (more-arguments-stops i j h f i.fuel) s (λ t c. done) (more_arguments f h.turns s)

  properties : (f : Flags) {n m : ℕ} (w : Both n m) (s : Input) → Beside g (e.properties i f n) (e.properties j f m) s
  unfolding e.properties refused
  properties f over s = stopped
  properties f (turn {n = n} {m = m} w) s = must _ _ _ _ _ (λ d at. refl) (λ d at us last. choices'.stopped _ (h.property_stops f d at us last)) s (λ t c. done)
      (bind _ _ (h.property f s) λ x c. must _ _ _ _ _ (λ d at. refl) (λ d at us last. fault) c (λ t d. bind _ _ (properties f w d) λ y k. done) (bind _ _ (take _ (λ d at. refl) c) λ t d. done))

  held_parts : (f : Flags) (role : Role) {n m : ℕ} (w : Both n m) (s : Input) → Beside g (e.held_parts i f role n) (e.held_parts j f role m) s
  unfolding e.held_parts
  held_parts f role over s = stopped
  held_parts f role (turn {n = n} {m = m} w) s = bind _ _ (h.assignment (with_in f) s) λ x c. may _ _ _ _ _ (λ d at. refl) c
      (λ t d. looks-must _ _ _ _ _ (rest-again-stops role _ _ (λ k at us last. choices'.stopped _ (held-parts-stops i j h f role n k at us last))) d done (bind _ _ (held_parts f role w d) λ y k. done)) done

  held_group : (f : Flags) (role : Role) (at : ℕ) (s : Input) → Beside g (e.held_group i f role at) (e.held_group j f role at) s
  unfolding e.held_group
  held_group f role at s = begins (primary'.held_group_from i f role at) (primary'.held_group_from j f role at) (held-group-stops i j h f role at) s
      (λ place. bind _ _ (held_parts f role h.turns s) λ x c. either x.before_rest _ _ _ _ c (subst (λ n. Beside g (from (primary'.rest_from at (e.whole place x) (parameters_of i.fuel (x.first ∷ x.more)))) (from (primary'.rest_from at (e.whole place x) (parameters_of n (x.first ∷ x.more)))) c) (both-same h.turns)
      (begins (primary'.rest_from at (e.whole place x) (parameters_of i.fuel (x.first ∷ x.more))) (primary'.rest_from at (e.whole place x) (parameters_of i.fuel (x.first ∷ x.more))) (λ d at' us last. rest-after-stops _ _ _ _ d at' us last) c (λ dots. rest_after at dots _ _ c))) (closed_group at _ c))

  grouped : (f : Flags) (role : Role) (at : ℕ) (s : Input) → Beside g (e.grouped i f role at) (e.grouped j f role at) s
  unfolding e.grouped
  grouped f role at s = either (is_leading role) _ _ _ _ s (must _ _ _ _ _ (λ d at. refl) (held-group-stops i j h f role at) s (λ t c. covered at None None c)
      (begins (primary'.dots_from i f role at) (primary'.dots_from j f role at) (held-group-stops i j h f role at) s (λ dots. must _ _ _ _ _ (λ d at. refl) (held-group-stops i j h f role at) s (λ t c. covered_rest at dots None c) (held_group f role at s)))) (held_group f role at s)

  bracketed : (f : Flags) (role : Role) (at : ℕ) (s : Input) → Beside g (e.bracketed i f role at) (e.bracketed j f role at) s
  unfolding e.bracketed
  bracketed f role at s = group-must i j h.opens marks.LeftBracket _ _ _ _ (λ d place us last. no-operand role _) s (λ c. bind _ _ (elements f h.turns c) λ l d. done) (group-must i j h.opens marks.LeftBrace _ _ _ _ (λ d place us last. no-operand role _) s (λ c. bind _ _ (properties f h.turns c) λ x d. done) (no_operand role s))

  composed : (f : Flags) (role : Role) (at : ℕ) (s : Input) → Beside g (e.composed i f role at) (e.composed j f role at) s
  unfolding e.composed e.bracketed
  composed f role at s = must _ _ _ _ _ (λ d at. refl) (λ d place us last. no-operand role _) s (λ t c. bind _ _ (function true at c) λ x d. done) (must _ _ _ _ _ (λ d at. refl) (λ d place us last. no-operand role _) s (λ t c. bind _ _ (class f true at c) λ x d. done)
      (template_must f at _ _ _ _ (λ d place us last. no-operand role _) s (λ m c. done) (group-must i j h.opens marks.LeftParenthesis _ _ _ _ (λ d place us last. no-operand role _) s (λ c. grouped f role at c) (bracketed f role at s))))

  primary : (f : Flags) (role : Role) (at : ℕ) (s : Input) → Beside g (e.primary i f role at) (e.primary j f role at) s
  unfolding e.primary e.composed e.bracketed
  primary f role at s = must _ _ _ _ _ (λ d at. refl) (λ d place us last. no-operand role _) s (λ t c. done) (must _ _ _ _ _ (λ d at. refl) (λ d place us last. no-operand role _) s (λ t c. done) (must _ _ _ _ _ (λ d at. refl) (λ d place us last. no-operand role _) s (λ t c. done) (composed f role at s)))

  after_new : (f : Flags) (at : ℕ) (s : Input) → Beside g (e.after_new i f at) (e.after_new j f at) s
  unfolding e.after_new e.after_callee
  after_new f at s = must _ _ _ _ _ (λ d at. refl) (λ d place us last. choices'.stopped _ (h.callee_stops f d place us last)) s (λ t c. bind _ _ (take _ (λ d at. refl) c) λ u d. done)
      (bind _ _ (h.callee f s) λ x c. group-may i j h.opens marks.LeftParenthesis _ _ _ _ c (λ d. bind _ _ (arguments f d) λ y k. done) (done))

  super_call : (f : Flags) (role : Role) (at : ℕ) (s : Input) → Beside g (e.super_call i f role at) (e.super_call j f role at) s
  unfolding e.super_call
  super_call f role at s = either (has_calls role) _ _ _ _ s (group-must i j h.opens marks.LeftParenthesis _ _ _ _ (λ d place us last. refused-holds _) s (λ c. bind _ _ (arguments f c) λ x d. done) (nowhere s)) (nowhere s)

  after_super : (f : Flags) (role : Role) (at : ℕ) (s : Input) → Beside g (e.after_super i f role at) (e.after_super j f role at) s
  unfolding e.after_super
  after_super f role at s = must _ _ _ _ _ (λ d at. refl) (super-call-stops i f role at) s (λ t c. bind _ _ (any_name c) λ n d. done)
      (group-must i j h.opens marks.LeftBracket _ _ _ _ (super-call-stops i f role at) s (λ c. bind _ _ (h.sequence (with_in f) c) λ x d. bind _ _ (take _ (λ d at. refl) d) λ t k. done) (super_call f role at s))

  head : (f : Flags) (role : Role) (at : ℕ) (s : Input) → Beside g (e.head i f role at) (e.head j f role at) s
  unfolding e.head e.primary e.composed e.bracketed
  head f role at s = must _ _ _ _ _ (λ d at. refl) (λ d place us last. no-operand role _) s (λ t c. after_new f at c) (must _ _ _ _ _ (λ d at. refl) (λ d place us last. no-operand role _) s (λ t c. after_super f role at c) (primary f role at s))

  -- ## Accesses and calls

  index : (f : Flags) (at : ℕ) (s : Input) → Beside g (e.index_link i f at) (e.index_link j f at) s
  unfolding e.index_link
  index f at s = bind _ _ (h.sequence (with_in f) s) λ x c. bind _ _ (take _ (λ d at. refl) c) λ t d. done

  call : (f : Flags) (at : ℕ) (s : Input) → Beside g (e.call_link i f at) (e.call_link j f at) s
  unfolding e.call_link
  call f at s = bind _ _ (arguments f s) λ x c. done

  on_link : (f : Flags) (calls : Bool) (at : ℕ) (p p3 : Link → Parser (List Link)) (q q3 : Parser (List Link)) (s : Input) → ((l : Link) (c : Input) → Beside g (p l) (p3 l) c) → Beside g q q3 s → Beside g (e.on_link i f calls at p q) (e.on_link j f calls at p3 q3) s
  on_link f calls at p p3 q q3 s k l = may _ _ _ _ _ (λ d at. refl) s (λ t c. bind _ _ (member_link _ c) λ m d. k m d)
      (group-may i j h.opens marks.LeftBracket _ _ _ _ s (λ c. bind _ _ (index f _ c) λ m d. k m d) (template_may f _ _ _ _ _ s (λ m c. k _ c)
      (either calls _ _ _ _ s (group-may i j h.opens marks.LeftParenthesis _ _ _ _ s (λ c. bind _ _ (call f _ c) λ m d. k m d) l) l)))

  links-free : (f : Flags) (calls : Bool) (more : Parser (List Link)) (place place' : ℕ) (d : Bool) (at : ℕ) (us : List Filled) (last : ℕ) → primary'.links_from i f calls more place (record { tokens = semi d at ∷ us; last = last }) ≡ primary'.links_from i f calls more place' (record { tokens = semi d at ∷ us; last = last })
  links-free f true more place place' d at us last = refl
  links-free f false more place place' d at us last = refl

  links : (f : Flags) (calls : Bool) {n m : ℕ} (w : Both n m) (s : Input) → Beside g (e.links i f calls n) (e.links j f calls m) s
  unfolding e.links
  links f calls over s = stopped
  links f calls (turn {n = n} {m = m} w) s = begins-free (primary'.links_from i f calls (e.links i f calls n)) (primary'.links_from j f calls (e.links j f calls m)) (links-free f calls (e.links i f calls n)) s (λ place. on_link f calls _ _ _ _ _ s (λ l c. bind _ _ (links f calls w c) λ ls d. done) done)

  pub chain : (f : Flags) (role : Role) (s : Input) → Beside g (e.chain i f role) (e.chain j f role) s
  unfolding e.chain
  chain f role s = begins (primary'.chain_from i f role) (primary'.chain_from j f role) (chain-stops i f role) s (λ place. bind _ _ (head f role _ s) λ x c. bind _ _ (links f (has_calls role) h.turns c) λ ls d. done)

  -- ## Operators

  postfix : (f : Flags) (role : Role) (s : Input) → Beside g (e.postfix i f role) (e.postfix j f role) s
  unfolding e.postfix
  postfix f role s = begins (levels'.postfix_from i f role) (levels'.postfix_from j f role) (postfix-stops i f role) s (λ place. bind _ _ (chain f role s) λ x c. may _ _ _ _ _ (λ d at. refl) c (λ op d. done) done)

  prefixed : (f : Flags) (at : ℕ) (op : UnaryOperator) (s : Input) → Beside g (e.prefixed i f at op) (e.prefixed j f at op) s
  unfolding e.prefixed
  prefixed f at op s = bind _ _ (h.unary f s) λ x c. done

  update : (f : Flags) (role : Role) (s : Input) → Beside g (e.update i f role) (e.update j f role) s
  unfolding e.update e.updated
  update f role s = begins (levels'.update_from i f role) (levels'.update_from j f role) (update-stops i f role) s (λ place. must _ _ _ _ _ (λ d at. refl) (postfix-stops i f role) s (λ op c. bind _ _ (h.unary f c) λ x d. done) (postfix f role s))

  pub unary : (f : Flags) (s : Input) → Beside g (e.unary i f) (e.unary j f) s
  unfolding e.unary
  unary f s = begins (levels'.unary_from i f) (levels'.unary_from j f) (unary-stops i f) s (λ place. must _ _ _ _ _ unary-none (update-stops i f Among) s (λ op c. prefixed f _ op c) (update f Among s))

  raised : (f : Flags) (at : ℕ) (x : Reading) (s : Input) → Beside g (e.raised i f at x) (e.raised j f at x) s
  unfolding e.raised
  raised f at x s = may _ _ _ _ _ (λ d at. refl) s (λ t d. bind _ _ (h.power f d) λ y k. done) done

  pub power : (f : Flags) (role : Role) (s : Input) → Beside g (e.power i f role) (e.power j f role) s
  unfolding e.power
  power f role s = begins (levels'.power_from i f role) (levels'.power_from j f role) (power-stops i f role) s
      (λ place. must _ _ _ _ _ unary-none (λ d at us last. choices'.stopped _ (update-stops i f role d at us last)) s (λ op c. prefixed f _ op c) (bind _ _ (update f role s) λ x c. raised f _ x c))

  operands : (f : Flags) (level : ℕ) (q q3 : Parser Reading) (k : (s : Input) → Beside g q q3 s) {n m : ℕ} (w : Both n m) (s : Input) → Beside g (e.operands q f level n) (e.operands q3 f level m) s
  unfolding e.operands
  operands f level q q3 k over s = stopped
  operands f level q q3 k (turn {n = n} {m = m} w) s = may _ _ _ _ _ (binary-none f level) s (λ op c. bind _ _ (k c) λ x d. bind _ _ (operands f level q q3 k w d) λ y m. done) done

  binary_ : (f : Flags) (role : Role) (up level : ℕ) (s : Input) → Beside g (e.binary_from i f role up level) (e.binary_from j f role up level) s
  unfolding e.binary_from
  binary_ f role zero level s = power f role s
  binary_ f role (suc up) level s = begins (levels'.binary_body i f role up level) (levels'.binary_body j f role up level) (binary-stops i f role (suc up) level) s (λ place. bind _ _ (binary_ f role up _ s) λ x c. bind _ _ (operands f level _ _ (λ d. binary_ f Among up _ d) h.turns c) λ y d. done)

  conditional : (f : Flags) (s : Input) → Beside g (e.conditional i f) (e.conditional j f) s
  unfolding e.conditional e.branches
  conditional f s = begins (levels'.conditional_from i f) (levels'.conditional_from j f) (conditional-stops i f) s
      (λ place. bind _ _ (binary_ f Leading 10 3 s) λ x c. may _ _ _ _ _ (λ d at. refl) c (λ t d. bind _ _ (h.assignment (with_in f) d) λ y k. bind _ _ (take _ (λ d at. refl) k) λ u m. bind _ _ (h.assignment f m) λ z o. done) done)

  arrow_body : (f : Flags) (at : ℕ) (es : List Parameter) (s : Input) → Beside g (e.arrow_body i f at es) (e.arrow_body j f at es) s
  unfolding e.arrow_body
  arrow_body f at es s = looks-must _ _ _ _ _ (λ d place us last. choices'.stopped _ (h.assignment_stops (of_arrow f) d place us last)) s (bind _ _ (h.block (of_function false) s) λ b c. done) (bind _ _ (h.assignment (of_arrow f) s) λ x c. done)

  arrow_if : (f : Flags) (at : ℕ) (x : Reading) (r : Refined (List Parameter)) (s : Input) → Beside g (e.arrow_if i f at x r) (e.arrow_if j f at x r) s
  arrow_if f at x (Fits es) s = must _ _ _ _ _ (λ d at. refl) (λ d place us last. refused-holds _) s (λ t c. arrow_body f at es c) (nowhere s)
  arrow_if f at x (Misfit place) s = either (is_covered x.shape) _ _ _ _ s (nowhere s) done
  arrow_if f at x TooNested s = stopped

  assigned_with : (f : Flags) (at : ℕ) (x : Expression) (op : AssignOperator) (s : Input) → Beside g (e.assigned_with i f at x op) (e.assigned_with j f at x op) s
  unfolding e.assigned_with
  assigned_with f at x op s = bind _ _ (subst (λ n. Beside g (e.fitting (target_before i.fuel op x)) (e.fitting (target_before n op x)) s) (both-same h.turns) (fitting (target_before i.fuel op x) s)) λ q c. bind _ _ (h.assignment f c) λ y d. done

  after_conditional : (f : Flags) (at : ℕ) (x : Reading) (s : Input) → Beside g (e.after_conditional i f at x) (e.after_conditional j f at x) s
  unfolding e.after_conditional
  after_conditional f at x s = looks-may _ _ _ _ _ refl (λ e. sym (no-arrow g.next (g.line e))) s (subst (λ n. Beside g (e.arrow_if i f at x (e.parameters_before i.fuel x.shape x.value)) (e.arrow_if j f at x (e.parameters_before n x.shape x.value)) s) (both-same h.turns) (arrow_if f at x (e.parameters_before i.fuel x.shape x.value) s))
      (either (is_left x.shape) _ _ _ _ s (may _ _ _ _ _ assign-none s (λ op c. assigned_with f at _ op c) done) done)

  yield-semi : g.do_while ≡ false → not (e.ends_yield (semi false g.at)) ≡ not (e.ends_yield g.next)
  unfolding e.ends_yield
  yield-semi k = sym (on-line (λ u. not (e.ends_yield u) ≡ false) (λ k span. refl) (λ span. refl) (λ span. refl) g.next (g.line k))

  after_yield : (f : Flags) (at : ℕ) (s : Input) → Beside g (e.after_yield i f at) (e.after_yield j f at) s
  unfolding e.after_yield
  after_yield f at s = may _ _ _ _ _ (λ d at. refl) s (λ t c. bind _ _ (h.assignment f c) λ x d. done) (looks-may _ _ _ _ _ refl yield-semi s (bind _ _ (h.assignment f s) λ x c. done) done)

  without_yield : (f : Flags) (at : ℕ) (s : Input) → Beside g (e.without_yield i f at) (e.without_yield j f at) s
  unfolding e.without_yield
  without_yield f at s = bind _ _ (conditional f s) λ x c. after_conditional f at x c

  pub assignment : (f : Flags) (s : Input) → Beside g (e.assignment i f) (e.assignment j f) s
  unfolding e.assignment
  assignment f s = begins (levels'.assignment_from i f) (levels'.assignment_from j f) (assignment-stops i f) s
      (λ place. either f.has_yield _ _ _ _ s (must _ _ _ _ _ (λ d at. refl) (λ d at us last. without-yield-stops i f _ d at us last) s (λ t c. after_yield f _ c) (without_yield f _ s)) (without_yield f _ s))

  parts : (f : Flags) {n m : ℕ} (w : Both n m) (s : Input) → Beside g (e.parts i f n) (e.parts j f m) s
  unfolding e.parts
  parts f over s = stopped
  parts f (turn {n = n} {m = m} w) s = bind _ _ (assignment f s) λ x c. may _ _ _ _ _ (λ d at. refl) c (λ t d. bind _ _ (parts f w d) λ y k. done) done

  pub sequence : (f : Flags) (s : Input) → Beside g (e.sequence i f) (e.sequence j f) s
  unfolding e.sequence e.more_parts
  sequence f s = begins (levels'.sequence_from i f) (levels'.sequence_from j f) (sequence-stops i f) s (λ place. bind _ _ (assignment f s) λ x c. may _ _ _ _ _ (λ d at. refl) c (λ t d. bind _ _ (parts f h.turns d) λ y k. done) done)

  -- ## Properties

  after_key : (f : Flags) (at : ℕ) (k : Key) (s : Input) → Beside g (e.after_key i f at k) (e.after_key j f at k) s
  unfolding e.after_key e.value_of_key e.method_of_key t6.method_after_key t6.signature refused
  after_key f at k s = must _ _ _ _ _ (λ d at. refl) (λ d at us last. fault) s (λ t c. bind _ _ (assignment (with_in f) c) λ x d. done) (bind _ _ (method_after_key _ false at k s) λ m c. done)

  shorthand : (f : Flags) (at : ℕ) (n : Identifier) (s : Input) → Beside g (e.shorthand i f at n) (e.shorthand j f at n) s
  unfolding e.shorthand
  shorthand f at n s = may _ _ _ _ _ (λ d at. refl) s (λ t c. bind _ _ (h.assignment (with_in f) c) λ x d. done) done

  -- a colon or a parenthesis behind a name is taken
  signature-past : (generator : Bool) → next_mark marks.LeftParenthesis g.next ≡ true → length (left (t6.signature j generator (record { tokens = g.next ∷ g.behind; last = g.at }))) ≤ length g.behind
  unfolding t6.signature
  signature-past generator e = outcome-inside _ (length g.behind) (group j marks.LeftParenthesis (t6.parameters j (of_function generator)) (record { tokens = g.next ∷ g.behind; last = g.at }))
      (group-past g j h.opens marks.LeftParenthesis (t6.parameters j (of_function generator)) refused e ((parameters (of_function generator) (record { tokens = g.behind; last = g.next.span.end })).inside g.behind))
      (λ x c. outcome-inside (λ ss. returns (record { parameters = x; body = ss })) (length c.tokens) (t6.function_body j generator c) ((function_body generator c).inside c.tokens) (λ y d. low (length d.tokens)))

  method-past : (f : Flags) (at : ℕ) (k : Key) → next_mark marks.LeftParenthesis g.next ≡ true → length (left (e.method_of_key j at k (record { tokens = g.next ∷ g.behind; last = g.at }))) ≤ length g.behind
  unfolding e.method_of_key t6.method_after_key
  method-past f at k e = outcome-inside _ (length g.behind) (t6.method_after_key j PlainMethod false at k (record { tokens = g.next ∷ g.behind; last = g.at }))
      (outcome-inside _ (length g.behind) (t6.signature j false (record { tokens = g.next ∷ g.behind; last = g.at })) (signature-past false e) (λ x c. low (length c.tokens))) (λ m c. low (length c.tokens))

  after-key-past : (f : Flags) (at : ℕ) (k : Key) → (next_mark marks.Colon g.next || next_mark marks.LeftParenthesis g.next) ≡ true → length (left (e.after_key j f at k (record { tokens = g.next ∷ g.behind; last = g.at }))) ≤ length g.behind
  unfolding e.after_key e.value_of_key
  after-key-past f at k both_ = by (next_mark marks.Colon g.next) refl both_
    where
      by : (v : Bool) → next_mark marks.Colon g.next ≡ v → (v || next_mark marks.LeftParenthesis g.next) ≡ true → length (left (e.after_key j f at k (record { tokens = g.next ∷ g.behind; last = g.at }))) ≤ length g.behind
      by true eb u = subst (λ o. length (left o) ≤ length g.behind) (sym (hit (mark marks.Colon) g.next g.behind g.at (λ t. e.value_of_key j f at k) (e.method_of_key j at k) g.next (ap (λ v. kept_if v g.next) eb)))
          (outcome-inside (λ x. made at (λ span. properties'.Plain span k x.value)) (length g.behind) (e.assignment j (with_in f) (record { tokens = g.behind; last = g.next.span.end })) ((assignment (with_in f) (record { tokens = g.behind; last = g.next.span.end })).inside g.behind) (λ x d. low (length d.tokens)))
      by false eb u = subst (λ o. length (left o) ≤ length g.behind) (sym (missed (mark marks.Colon) g.next g.behind g.at (λ t. e.value_of_key j f at k) (e.method_of_key j at k) (ap (λ v. kept_if v g.next) eb))) (method-past f at k u)

  after_name : (f : Flags) (at : ℕ) (n : Identifier) (s : Input) → Beside g (e.after_name i f at n) (e.after_name j f at n) s
  unfolding e.after_name
  after_name f at n s = looks-taken (λ t. next_mark marks.Colon t || next_mark marks.LeftParenthesis t) _ _ _ _ (λ d place. refl) (λ k. after-key-past f at (WordKey n.span n.name) k) s (after_key f at _ s) (shorthand f at n s)

  pub property : (f : Flags) (s : Input) → Beside g (e.one_property i f) (e.one_property j f) s
  unfolding e.one_property e.after_accessor_word t6.accessor t6.key no_number
  property f s = begins (levels'.property_from i f) (levels'.property_from j f) (property-stops i f) s
      (λ place. must _ _ _ _ _ (λ d at. refl) (λ d at us last. fault) s (λ t c. bind _ _ (generator_method f _ c) λ m d. done)
      (must _ _ _ _ _ (λ d at. refl) (λ d at us last. fault) s (λ setter c. looks-must _ _ _ _ _ (λ d at us last. fault) c (after_name f _ _ c) (bind _ _ (accessor f _ setter c) λ m d. done))
      (must _ _ _ _ _ (λ d at. refl) (λ d at us last. fault) s (λ name c. after_name f _ _ c) (bind _ _ (key f s) λ k c. after_key f _ k c))))
