-- Readers of expressions read the same where loops have more turns.
use Rattle.std.proofs.Common.{◌≡◌, ℕ, zero, suc, Bool, true, false, List, ◌∷◌, Option, Some, None}
use Rattle.es6_lexer.specs.declared.token.Punctuator.TheVariants as marks
use Rattle.es6_ast.specs.declared.operators.AssignOperator.{AssignOperator}
use Rattle.es6_ast.specs.declared.operators.MethodKind.{MethodKind}
use Rattle.es6_ast.specs.declared.operators.UnaryOperator.{UnaryOperator}
use Rattle.es6_ast.specs.declared.tree.Expression.{Expression}
use Rattle.es6_ast.specs.declared.tree.Identifier.{Identifier}
use Rattle.es6_ast.specs.declared.tree.Key.{Key}
use Rattle.es6_ast.specs.declared.tree.Link.{Link}
use Rattle.es6_ast.specs.declared.tree.Parameter.{Parameter}
use Rattle.es6_ast.specs.declared.tree.Stretch.{Stretch}
use Rattle.es6_ast.specs.declared.tree.Template.{Template}
use Rattle.es6_ast.specs.declared.settings.Flags.{Flags}
use Rattle.es6_ast.specs.declared.settings.Role.{Role}
use Rattle.es6_ast.specs.declared.settings.Role.TheVariants.{Leading, Among}
use Rattle.es6_ast.specs.declared.settings.Stand.{Stand}
use Rattle.es6_ast.specs.declared.settings.Stand.TheVariants.{Listed}
use Rattle.es6_ast.specs.Settings.{is_leading, has_calls}
use Rattle.es6_ast.specs.Grammar.{with_in, of_function, of_arrow}
use Rattle.es6_reading.specs.Parser.{semicolon_of_do_while, Input, Parser, Reading, is_left, is_covered, Inner, semicolon, inserts, inserts_anywhere}
use Rattle.es6_reading.specs.Refine.{Refined, Fits, Misfit, TooNested, target_before, parameters_of}
use Rattle.es6_reading.specs.Parts as t6
use Rattle.es6_reading.specs.Expressions as e
use Rattle.es6_reading.proofs.FollowParts as parts'
use Rattle.es6_reading.proofs.FollowPrimary as primary'
use Rattle.es6_reading.proofs.FollowLevels as levels'
use Rattle.es6_reading.proofs.RefineMore.{kept-before, kept-parameters-of, kept-parameters-before}
use Rattle.es6_reading.proofs.Locality.{Turns, over, turn, Deeper, as_before, nested_less, deeper}
use Rattle.es6_reading_laws.proofs.es6_viability.Longer.{Keeps, same, gave_up, as_is, done, stops, nowhere, number, take, bind, begins, either, looks, next, opened, group, inserted}

-- where two readers read inside themselves, of which the loops of the second one have more turns
pub record Longer (l : ℕ) (i j : Inner) : Type 0 where
  pub mode : i.inserting ≡ j.inserting
  pub fuel : Turns l i.fuel j.fuel
  pub opens : i.may_open ≡ j.may_open
  pub sequence : (f : Flags) (s : Input) → Keeps (i.sequence f) (j.sequence f) s
  pub assignment : (f : Flags) (s : Input) → Keeps (i.assignment f) (j.assignment f) s
  pub power : (f : Flags) (s : Input) → Keeps (i.power f) (j.power f) s
  pub unary : (f : Flags) (s : Input) → Keeps (i.unary f) (j.unary f) s
  pub callee : (f : Flags) (s : Input) → Keeps (i.callee f) (j.callee f) s
  pub heritage : (f : Flags) (s : Input) → Keeps (i.heritage f) (j.heritage f) s
  pub block : (f : Flags) (s : Input) → Keeps (i.block f) (j.block f) s
  pub property : (f : Flags) (s : Input) → Keeps (i.property f) (j.property f) s
  pub target : (f : Flags) (s : Input) → Keeps (i.target f) (j.target f) s
  pub part : (f : Flags) (s : Input) → Keeps (i.part f) (j.part f) s
  pub object_part : (f : Flags) (s : Input) → Keeps (i.object_part f) (j.object_part f) s
  pub variable : (f : Flags) (s : Input) → Keeps (i.variable f) (j.variable f) s
  pub member : (f : Flags) (s : Input) → Keeps (i.member f) (j.member f) s
  pub statement : (f : Flags) (stand : Stand) (s : Input) → Keeps (i.statement f stand) (j.statement f stand) s

pub semicolon_ : (i j : Inner) → i.inserting ≡ j.inserting → (s : Input) → Keeps (semicolon i) (semicolon j) s
unfolding semicolon
semicolon_ i j e s = next _ _ _ _ _ s (λ t c. done) (inserted inserts s e)

pub do_while_end : (i j : Inner) → i.inserting ≡ j.inserting → (s : Input) → Keeps (semicolon_of_do_while i) (semicolon_of_do_while j) s
unfolding semicolon_of_do_while
do_while_end i j e s = next _ _ _ _ _ s (λ t c. done) (inserted inserts_anywhere s e)

module _ {l : ℕ} where
  rest_after : (at dots : ℕ) (held : Expression) {r r' : Refined (List Parameter)} → Deeper l r r' → (s : Input) → Keeps (e.rest_after at dots held r) (e.rest_after at dots held r') s
  rest_after at dots held as_before s = same
  rest_after at dots held (nested_less m) s = gave_up

  pub fitting : {A : Type 0} {r r' : Refined A} → Deeper l r r' → (s : Input) → Keeps (e.fitting r) (e.fitting r') s
  fitting as_before s = same
  fitting (nested_less m) s = gave_up

module _ {l : ℕ} (i j : Inner) (h : Longer l i j) where
  key : (f : Flags) (s : Input) → Keeps (t6.key i f) (t6.key j f) s
  unfolding t6.key t6.computed_key
  key f s = begins (parts'.key_from i f) (parts'.key_from j f) s (λ place. next _ _ _ _ _ s (λ k c. done) (group i j h.opens marks.LeftBracket _ _ _ _ s (λ c. bind _ _ (h.assignment (with_in f) c) λ x d. bind _ _ (take _ d) λ t k. done) (number s)))

  array_parts : (f : Flags) {n m : ℕ} (w : Turns l n m) (s : Input) → Keeps (t6.array_parts i f n) (t6.array_parts j f m) s
  unfolding t6.array_parts
  array_parts f over s = gave_up
  array_parts f (turn {n = n} {m = m} w) s = begins (parts'.array_parts_from i f (t6.array_parts i f n)) (parts'.array_parts_from j f (t6.array_parts j f m)) s (λ place. next _ _ _ _ _ s (λ t c. done) (next _ _ _ _ _ s (λ t c. bind _ _ (array_parts f w c) λ x d. done) (next _ _ _ _ _ s (λ t c. as_is (t6.rest_part _) c) (bind _ _ (h.part f s) λ q c. next _ _ _ _ _ c (λ t d. bind _ _ (array_parts f w d) λ x k. done) (bind _ _ (take _ c) λ t d. done)))))

  object_parts : (f : Flags) {n m : ℕ} (w : Turns l n m) (s : Input) → Keeps (t6.object_parts i f n) (t6.object_parts j f m) s
  unfolding t6.object_parts
  object_parts f over s = gave_up
  object_parts f (turn w) s = next _ _ _ _ _ s (λ t c. done) (bind _ _ (h.object_part f s) λ q c. next _ _ _ _ _ c (λ t d. bind _ _ (object_parts f w d) λ x k. done) (bind _ _ (take _ c) λ t d. done))

  binding_pattern : (f : Flags) (at : ℕ) (s : Input) → Keeps (t6.binding_pattern i f at) (t6.binding_pattern j f at) s
  unfolding t6.binding_pattern
  binding_pattern f at s = group i j h.opens marks.LeftBracket _ _ _ _ s (λ c. bind _ _ (array_parts f h.fuel c) λ x d. done) (group i j h.opens marks.LeftBrace _ _ _ _ s (λ c. bind _ _ (object_parts f h.fuel c) λ x d. done) (nowhere s))

  pub binding : (f : Flags) (s : Input) → Keeps (t6.binding i f) (t6.binding j f) s
  unfolding t6.binding
  binding f s = begins (parts'.binding_from i f) (parts'.binding_from j f) s (λ place. next _ _ _ _ _ s (λ t c. done) (binding_pattern f _ s))

  pub initialized : (f g : Flags) (s : Input) → Keeps (t6.initialized i f g) (t6.initialized j f g) s
  unfolding t6.initialized
  initialized f g s = begins (parts'.initialized_from i f g) (parts'.initialized_from j f g) s (λ place. bind _ _ (binding f s) λ y c. next _ _ _ _ _ c (λ t d. bind _ _ (h.assignment g d) λ x k. done) done)

  pub one_part : (f : Flags) (s : Input) → Keeps (t6.one_part i f) (t6.one_part j f) s
  unfolding t6.one_part
  one_part f s = initialized f (with_in f) s

  keyed_part : (f : Flags) (at : ℕ) (k : Key) (s : Input) → Keeps (t6.keyed_part i f at k) (t6.keyed_part j f at k) s
  unfolding t6.keyed_part
  keyed_part f at k s = bind _ _ (one_part f s) λ q c. done

  named_part : (f : Flags) (at : ℕ) (n : Identifier) (s : Input) → Keeps (t6.named_part i f at n) (t6.named_part j f at n) s
  unfolding t6.named_part
  named_part f at n s = next _ _ _ _ _ s (λ t c. bind _ _ (h.assignment (with_in f) c) λ x d. done) done

  pub object_part : (f : Flags) (s : Input) → Keeps (t6.one_object_part i f) (t6.one_object_part j f) s
  unfolding t6.one_object_part
  object_part f s = begins (parts'.object_part_from i f) (parts'.object_part_from j f) s (λ place. next _ _ _ _ _ s (λ name c. next _ _ _ _ _ c (λ t d. keyed_part f _ _ d) (named_part f _ _ c)) (bind _ _ (key f s) λ k c. bind _ _ (take _ c) λ t d. keyed_part f _ k d))

  more_parameters : (f : Flags) {n m : ℕ} (w : Turns l n m) (s : Input) → Keeps (t6.more_parameters i f n) (t6.more_parameters j f m) s
  unfolding t6.more_parameters
  more_parameters f over s = gave_up
  more_parameters f (turn {n = n} {m = m} w) s = begins (parts'.more_parameters_from i f (t6.more_parameters i f n)) (parts'.more_parameters_from j f (t6.more_parameters j f m)) s (λ place. next _ _ _ _ _ s (λ t c. bind _ _ (as_is (t6.rest_parameter _) c) λ x d. done) (bind _ _ (h.part f s) λ q c. next _ _ _ _ _ c (λ t d. bind _ _ (more_parameters f w d) λ x k. done) (bind _ _ (take _ c) λ t d. done)))

  parameters : (f : Flags) (s : Input) → Keeps (t6.parameters i f) (t6.parameters j f) s
  unfolding t6.parameters
  parameters f s = next _ _ _ _ _ s (λ t c. done) (more_parameters f h.fuel s)

  statements : (f : Flags) {n m : ℕ} (w : Turns l n m) (s : Input) → Keeps (t6.statements i f n) (t6.statements j f m) s
  unfolding t6.statements
  statements f over s = gave_up
  statements f (turn w) s = next _ _ _ _ _ s (λ t c. done) (bind _ _ (h.statement f Listed s) λ x c. bind _ _ (statements f w c) λ y d. done)

  pub block : (f : Flags) (s : Input) → Keeps (t6.block i f) (t6.block j f) s
  unfolding t6.block
  block f s = begins (parts'.block_from i f) (parts'.block_from j f) s (λ place. group i j h.opens marks.LeftBrace _ _ _ _ s (λ c. bind _ _ (statements f h.fuel c) λ x d. done) (nowhere s))

  function_body : (generator : Bool) (s : Input) → Keeps (t6.function_body i generator) (t6.function_body j generator) s
  unfolding t6.function_body
  function_body generator s = group i j h.opens marks.LeftBrace _ _ _ _ s (λ c. statements (of_function generator) h.fuel c) (nowhere s)

  signature : (generator : Bool) (s : Input) → Keeps (t6.signature i generator) (t6.signature j generator) s
  unfolding t6.signature
  signature generator s = bind _ _ (group i j h.opens marks.LeftParenthesis _ _ _ _ s (λ c. parameters (of_function generator) c) (nowhere s)) λ x c. bind _ _ (function_body generator c) λ y d. done

  rest_of_function : (at : ℕ) (generator : Bool) (name : Option Identifier) (s : Input) → Keeps (t6.rest_of_function i at generator name) (t6.rest_of_function j at generator name) s
  unfolding t6.rest_of_function
  rest_of_function at generator name s = bind _ _ (signature generator s) λ x c. done

  pub named_function : (at : ℕ) (generator : Bool) (s : Input) → Keeps (t6.named_function i at generator) (t6.named_function j at generator) s
  unfolding t6.named_function
  named_function at generator s = bind _ _ (as_is t6.identifier s) λ n c. rest_of_function at generator (Some n) c

  pub function : (lacks : Bool) (at : ℕ) (s : Input) → Keeps (t6.function_after_word i lacks at) (t6.function_after_word j lacks at) s
  unfolding t6.function_after_word
  function lacks at s = bind _ _ (as_is t6.star s) λ generator c. either lacks _ _ _ _ c (looks _ _ _ _ _ c (rest_of_function at generator None c) (named_function at generator c)) (named_function at generator c)

  method_after_key : (kind : MethodKind) (generator : Bool) (at : ℕ) (k : Key) (s : Input) → Keeps (t6.method_after_key i kind generator at k) (t6.method_after_key j kind generator at k) s
  unfolding t6.method_after_key
  method_after_key kind generator at k s = begins (parts'.method_parameters_from i kind generator at k) (parts'.method_parameters_from j kind generator at k) s (λ place. bind _ _ (signature generator s) λ x c. done)

  accessor_parameters : (setter : Bool) (s : Input) → Keeps (t6.accessor_parameters i setter) (t6.accessor_parameters j setter) s
  unfolding t6.accessor_parameters t6.one_parameter
  accessor_parameters true s = bind _ _ (h.part (of_function false) s) λ q c. bind _ _ (take _ c) λ t d. done
  accessor_parameters false s = as_is t6.no_parameter s

  accessor : (f : Flags) (at : ℕ) (setter : Bool) (s : Input) → Keeps (t6.accessor i f at setter) (t6.accessor j f at setter) s
  unfolding t6.accessor
  accessor f at setter s = bind _ _ (key f s) λ k c. begins (parts'.accessor_parameters_from i at setter k) (parts'.accessor_parameters_from j at setter k) c (λ place. bind _ _ (group i j h.opens marks.LeftParenthesis _ _ _ _ c (λ d. accessor_parameters setter d) (nowhere c)) λ x d. bind _ _ (function_body false d) λ y m. done)

  generator_method : (f : Flags) (at : ℕ) (s : Input) → Keeps (t6.generator_method i f at) (t6.generator_method j f at) s
  unfolding t6.generator_method
  generator_method f at s = bind _ _ (key f s) λ k c. method_after_key _ true at k c

  accessor_word : (f : Flags) (at : ℕ) (setter : Bool) (s : Input) → Keeps (t6.method_after_accessor_word i f at setter) (t6.method_after_accessor_word j f at setter) s
  unfolding t6.method_after_accessor_word
  accessor_word f at setter s = looks _ _ _ _ _ s (method_after_key _ false at _ s) (accessor f at setter s)

  method : (f : Flags) (s : Input) → Keeps (t6.method i f) (t6.method j f) s
  unfolding t6.method
  method f s = begins (parts'.method_from i f) (parts'.method_from j f) s (λ place. next _ _ _ _ _ s (λ t c. generator_method f _ c) (next _ _ _ _ _ s (λ setter c. accessor_word f _ setter c) (bind _ _ (key f s) λ k c. method_after_key _ false _ k c)))

  pub member : (f : Flags) (s : Input) → Keeps (t6.one_member i f) (t6.one_member j f) s
  unfolding t6.one_member t6.member_after_static
  member f s = begins (parts'.member_from i f) (parts'.member_from j f) s (λ place. next _ _ _ _ _ s (λ t c. looks _ _ _ _ _ c (bind _ _ (method_after_key _ false _ _ c) λ m d. done) (bind _ _ (method f c) λ m d. done)) (bind _ _ (method f s) λ m c. done))

  members : (f : Flags) {n m : ℕ} (w : Turns l n m) (s : Input) → Keeps (t6.members i f n) (t6.members j f m) s
  unfolding t6.members
  members f over s = gave_up
  members f (turn w) s = next _ _ _ _ _ s (λ t c. done) (next _ _ _ _ _ s (λ t c. members f w c) (bind _ _ (h.member f s) λ m c. bind _ _ (members f w c) λ ms d. done))

  heritage : (f : Flags) (s : Input) → Keeps (t6.heritage i f) (t6.heritage j f) s
  unfolding t6.heritage
  heritage f s = next _ _ _ _ _ s (λ t c. bind _ _ (h.heritage f c) λ x d. done) done

  rest_of_class : (f : Flags) (at : ℕ) (name : Option Identifier) (s : Input) → Keeps (t6.rest_of_class i f at name) (t6.rest_of_class j f at name) s
  unfolding t6.rest_of_class
  rest_of_class f at name s = bind _ _ (heritage f s) λ x c. bind _ _ (group i j h.opens marks.LeftBrace _ _ _ _ c (λ d. members f h.fuel d) (nowhere c)) λ ms d. done

  named_class : (f : Flags) (at : ℕ) (s : Input) → Keeps (t6.named_class i f at) (t6.named_class j f at) s
  unfolding t6.named_class
  named_class f at s = bind _ _ (as_is t6.identifier s) λ n c. rest_of_class f at (Some n) c

  pub class : (f : Flags) (lacks : Bool) (at : ℕ) (s : Input) → Keeps (t6.class_after_word i f lacks at) (t6.class_after_word j f lacks at) s
  unfolding t6.class_after_word
  class f lacks at s = either lacks _ _ _ _ s (looks _ _ _ _ _ s (rest_of_class f at None s) (named_class f at s)) (named_class f at s)

  template_parts : (f : Flags) {n m : ℕ} (w : Turns l n m) (s : Input) → Keeps (t6.template_parts i f n) (t6.template_parts j f m) s
  unfolding t6.template_parts
  template_parts f over s = gave_up
  template_parts f (turn w) s = bind _ _ (h.sequence (with_in f) s) λ x c. next _ _ _ _ _ c (λ r d. done) (bind _ _ (take _ c) λ r d. bind _ _ (template_parts f w d) λ ms k. done)

  parted : (f : Flags) (at : ℕ) (r : Stretch) (s : Input) → Keeps (t6.parted_template i f at r) (t6.parted_template j f at r) s
  unfolding t6.parted_template
  parted f at r s = bind _ _ (template_parts f h.fuel s) λ ms c. done

  on_template : {A : Type 0} (f : Flags) (at : ℕ) (p p' : Template → Parser A) (q q' : Parser A) (s : Input) → ((m : Template) (c : Input) → Keeps (p m) (p' m) c) → Keeps q q' s → Keeps (t6.on_template i f at p q) (t6.on_template j f at p' q') s
  on_template f at p p' q q' s k g = next _ _ _ _ _ s (λ r c. k _ c) (looks _ _ _ _ _ s (opened _ _ s h.opens (next _ _ _ _ _ s (λ r c. bind _ _ (parted f at r c) λ m d. k m d) g)) g)

  argument : (f : Flags) (s : Input) → Keeps (e.argument i f) (e.argument j f) s
  unfolding e.argument
  argument f s = begins (primary'.argument_from i f) (primary'.argument_from j f) s (λ place. next _ _ _ _ _ s (λ t c. bind _ _ (h.assignment (with_in f) c) λ x d. done) (bind _ _ (h.assignment (with_in f) s) λ x c. done))

  elements : (f : Flags) {n m : ℕ} (w : Turns l n m) (s : Input) → Keeps (e.elements i f n) (e.elements j f m) s
  unfolding e.elements
  elements f over s = gave_up
  elements f (turn w) s = next _ _ _ _ _ s (λ t c. done) (next _ _ _ _ _ s (λ t c. bind _ _ (elements f w c) λ l d. done) (bind _ _ (argument f s) λ a c. next _ _ _ _ _ c (λ t d. next _ _ _ _ _ d (λ u k. done) (bind _ _ (elements f w d) λ l k. done)) (bind _ _ (take _ c) λ t d. done)))

  more_arguments : (f : Flags) {n m : ℕ} (w : Turns l n m) (s : Input) → Keeps (e.more_arguments i f n) (e.more_arguments j f m) s
  unfolding e.more_arguments
  more_arguments f over s = gave_up
  more_arguments f (turn w) s = bind _ _ (argument f s) λ a c. next _ _ _ _ _ c (λ t d. bind _ _ (more_arguments f w d) λ x k. done) (bind _ _ (take _ c) λ t d. done)

  arguments : (f : Flags) (s : Input) → Keeps (e.arguments i f) (e.arguments j f) s
  unfolding e.arguments
  arguments f s = next _ _ _ _ _ s (λ t c. done) (more_arguments f h.fuel s)

  properties : (f : Flags) {n m : ℕ} (w : Turns l n m) (s : Input) → Keeps (e.properties i f n) (e.properties j f m) s
  unfolding e.properties
  properties f over s = gave_up
  properties f (turn w) s = next _ _ _ _ _ s (λ t c. done) (bind _ _ (h.property f s) λ x c. next _ _ _ _ _ c (λ t d. bind _ _ (properties f w d) λ y k. done) (bind _ _ (take _ c) λ t d. done))

  held_parts : (f : Flags) (role : Role) {n m : ℕ} (w : Turns l n m) (s : Input) → Keeps (e.held_parts i f role n) (e.held_parts j f role m) s
  unfolding e.held_parts
  held_parts f role over s = gave_up
  held_parts f role (turn w) s = bind _ _ (h.assignment (with_in f) s) λ x c. next _ _ _ _ _ c (λ t d. looks _ _ _ _ _ d done (bind _ _ (held_parts f role w d) λ y k. done)) done

  held_group : (f : Flags) (role : Role) (at : ℕ) (s : Input) → Keeps (e.held_group i f role at) (e.held_group j f role at) s
  unfolding e.held_group
  held_group f role at s = begins (primary'.held_group_from i f role at) (primary'.held_group_from j f role at) s (λ place. bind _ _ (held_parts f role h.fuel s) λ x c. either x.before_rest _ _ _ _ c (begins (primary'.rest_from at (e.whole place x) (parameters_of i.fuel (x.first ∷ x.more))) (primary'.rest_from at (e.whole place x) (parameters_of j.fuel (x.first ∷ x.more))) c (λ dots. rest_after at dots _ (deeper (λ n. parameters_of n (x.first ∷ x.more)) (λ k more. kept-parameters-of k more (x.first ∷ x.more)) h.fuel) c)) (as_is (e.closed_group at _) c))

  grouped : (f : Flags) (role : Role) (at : ℕ) (s : Input) → Keeps (e.grouped i f role at) (e.grouped j f role at) s
  unfolding e.grouped
  grouped f role at s = either (is_leading role) _ _ _ _ s (next _ _ _ _ _ s (λ t c. as_is (e.covered at None None) c) (begins (primary'.dots_from i f role at) (primary'.dots_from j f role at) s (λ dots. next _ _ _ _ _ s (λ t c. as_is (e.covered_rest at dots None) c) (held_group f role at s)))) (held_group f role at s)

  bracketed : (f : Flags) (role : Role) (at : ℕ) (s : Input) → Keeps (e.bracketed i f role at) (e.bracketed j f role at) s
  unfolding e.bracketed
  bracketed f role at s = group i j h.opens marks.LeftBracket _ _ _ _ s (λ c. bind _ _ (elements f h.fuel c) λ l d. done) (group i j h.opens marks.LeftBrace _ _ _ _ s (λ c. bind _ _ (properties f h.fuel c) λ x d. done) (as_is (e.no_operand role) s))

  composed : (f : Flags) (role : Role) (at : ℕ) (s : Input) → Keeps (e.composed i f role at) (e.composed j f role at) s
  unfolding e.composed
  composed f role at s = next _ _ _ _ _ s (λ t c. bind _ _ (function true at c) λ x d. done) (next _ _ _ _ _ s (λ t c. bind _ _ (class f true at c) λ x d. done) (on_template f at _ _ _ _ s (λ m c. done) (group i j h.opens marks.LeftParenthesis _ _ _ _ s (λ c. grouped f role at c) (bracketed f role at s))))

  primary : (f : Flags) (role : Role) (at : ℕ) (s : Input) → Keeps (e.primary i f role at) (e.primary j f role at) s
  unfolding e.primary
  primary f role at s = next _ _ _ _ _ s (λ t c. done) (next _ _ _ _ _ s (λ t c. done) (next _ _ _ _ _ s (λ t c. done) (composed f role at s)))

  after_new : (f : Flags) (at : ℕ) (s : Input) → Keeps (e.after_new i f at) (e.after_new j f at) s
  unfolding e.after_new e.after_callee
  after_new f at s = next _ _ _ _ _ s (λ t c. bind _ _ (take _ c) λ u d. done) (bind _ _ (h.callee f s) λ x c. group i j h.opens marks.LeftParenthesis _ _ _ _ c (λ d. bind _ _ (arguments f d) λ y k. done) (done))

  after_super : (f : Flags) (role : Role) (at : ℕ) (s : Input) → Keeps (e.after_super i f role at) (e.after_super j f role at) s
  unfolding e.after_super e.super_call
  after_super f role at s = next _ _ _ _ _ s (λ t c. bind _ _ (as_is t6.name_of_any_kind c) λ n d. done) (group i j h.opens marks.LeftBracket _ _ _ _ s (λ c. bind _ _ (h.sequence (with_in f) c) λ x d. bind _ _ (take _ d) λ t k. done) (either (has_calls role) _ _ _ _ s (group i j h.opens marks.LeftParenthesis _ _ _ _ s (λ c. bind _ _ (arguments f c) λ x d. done) (nowhere s)) (nowhere s)))

  head : (f : Flags) (role : Role) (at : ℕ) (s : Input) → Keeps (e.head i f role at) (e.head j f role at) s
  unfolding e.head
  head f role at s = next _ _ _ _ _ s (λ t c. after_new f at c) (next _ _ _ _ _ s (λ t c. after_super f role at c) (primary f role at s))

  index : (f : Flags) (at : ℕ) (s : Input) → Keeps (e.index_link i f at) (e.index_link j f at) s
  unfolding e.index_link
  index f at s = bind _ _ (h.sequence (with_in f) s) λ x c. bind _ _ (take _ c) λ t d. done

  call : (f : Flags) (at : ℕ) (s : Input) → Keeps (e.call_link i f at) (e.call_link j f at) s
  unfolding e.call_link
  call f at s = bind _ _ (arguments f s) λ x c. done

  on_link : (f : Flags) (calls : Bool) (at : ℕ) (p p' : Link → Parser (List Link)) (q q' : Parser (List Link)) (s : Input) → ((x : Link) (c : Input) → Keeps (p x) (p' x) c) → Keeps q q' s → Keeps (e.on_link i f calls at p q) (e.on_link j f calls at p' q') s
  on_link f calls at p p' q q' s k g = next _ _ _ _ _ s (λ t c. bind _ _ (as_is (e.member_link _) c) λ x d. k x d) (group i j h.opens marks.LeftBracket _ _ _ _ s (λ c. bind _ _ (index f _ c) λ x d. k x d) (on_template f _ _ _ _ _ s (λ m c. k _ c) (either calls _ _ _ _ s (group i j h.opens marks.LeftParenthesis _ _ _ _ s (λ c. bind _ _ (call f _ c) λ x d. k x d) g) g)))

  links : (f : Flags) (calls : Bool) {n m : ℕ} (w : Turns l n m) (s : Input) → Keeps (e.links i f calls n) (e.links j f calls m) s
  unfolding e.links
  links f calls over s = gave_up
  links f calls (turn {n = n} {m = m} w) s = begins (primary'.links_from i f calls (e.links i f calls n)) (primary'.links_from j f calls (e.links j f calls m)) s (λ place. on_link f calls _ _ _ _ _ s (λ x c. bind _ _ (links f calls w c) λ ls d. done) done)

  pub chain : (f : Flags) (role : Role) (s : Input) → Keeps (e.chain i f role) (e.chain j f role) s
  unfolding e.chain
  chain f role s = begins (primary'.chain_from i f role) (primary'.chain_from j f role) s (λ place. bind _ _ (head f role _ s) λ x c. bind _ _ (links f (has_calls role) h.fuel c) λ ls d. done)

  postfix : (f : Flags) (role : Role) (s : Input) → Keeps (e.postfix i f role) (e.postfix j f role) s
  unfolding e.postfix
  postfix f role s = begins (levels'.postfix_from i f role) (levels'.postfix_from j f role) s (λ place. bind _ _ (chain f role s) λ x c. next _ _ _ _ _ c (λ op d. done) done)

  prefixed : (f : Flags) (at : ℕ) (op : UnaryOperator) (s : Input) → Keeps (e.prefixed i f at op) (e.prefixed j f at op) s
  unfolding e.prefixed
  prefixed f at op s = bind _ _ (h.unary f s) λ x c. done

  update : (f : Flags) (role : Role) (s : Input) → Keeps (e.update i f role) (e.update j f role) s
  unfolding e.update e.updated
  update f role s = begins (levels'.update_from i f role) (levels'.update_from j f role) s (λ place. next _ _ _ _ _ s (λ op c. bind _ _ (h.unary f c) λ x d. done) (postfix f role s))

  pub unary : (f : Flags) (s : Input) → Keeps (e.unary i f) (e.unary j f) s
  unfolding e.unary
  unary f s = begins (levels'.unary_from i f) (levels'.unary_from j f) s (λ place. next _ _ _ _ _ s (λ op c. prefixed f _ op c) (update f Among s))

  pub power : (f : Flags) (role : Role) (s : Input) → Keeps (e.power i f role) (e.power j f role) s
  unfolding e.power e.raised
  power f role s = begins (levels'.power_from i f role) (levels'.power_from j f role) s (λ place. next _ _ _ _ _ s (λ op c. prefixed f _ op c) (bind _ _ (update f role s) λ x c. next _ _ _ _ _ c (λ t d. bind _ _ (h.power f d) λ y k. done) done))

  operands : (f : Flags) (level : ℕ) (q q' : Parser Reading) (k : (s : Input) → Keeps q q' s) {n m : ℕ} (w : Turns l n m) (s : Input) → Keeps (e.operands q f level n) (e.operands q' f level m) s
  unfolding e.operands
  operands f level q q' k over s = gave_up
  operands f level q q' k (turn w) s = next _ _ _ _ _ s (λ op c. bind _ _ (k c) λ x d. bind _ _ (operands f level q q' k w d) λ y m. done) done

  binary : (f : Flags) (role : Role) (up level : ℕ) (s : Input) → Keeps (e.binary_from i f role up level) (e.binary_from j f role up level) s
  unfolding e.binary_from
  binary f role zero level s = power f role s
  binary f role (suc up) level s = begins (levels'.binary_body i f role up level) (levels'.binary_body j f role up level) s (λ place. bind _ _ (binary f role up _ s) λ x c. bind _ _ (operands f level _ _ (λ d. binary f Among up _ d) h.fuel c) λ y d. done)

  conditional : (f : Flags) (s : Input) → Keeps (e.conditional i f) (e.conditional j f) s
  unfolding e.conditional e.branches
  conditional f s = begins (levels'.conditional_from i f) (levels'.conditional_from j f) s (λ place. bind _ _ (binary f Leading 10 3 s) λ x c. next _ _ _ _ _ c (λ t d. bind _ _ (h.assignment (with_in f) d) λ y k. bind _ _ (take _ k) λ u m. bind _ _ (h.assignment f m) λ z o. done) done)

  arrow_body : (f : Flags) (at : ℕ) (es : List Parameter) (s : Input) → Keeps (e.arrow_body i f at es) (e.arrow_body j f at es) s
  unfolding e.arrow_body
  arrow_body f at es s = looks _ _ _ _ _ s (bind _ _ (h.block (of_function false) s) λ b c. done) (bind _ _ (h.assignment (of_arrow f) s) λ x c. done)

  arrow_if : (f : Flags) (at : ℕ) (x : Reading) {r r' : Refined (List Parameter)} → Deeper l r r' → (s : Input) → Keeps (e.arrow_if i f at x r) (e.arrow_if j f at x r') s
  arrow_if f at x {r = Fits es} as_before s = next _ _ _ _ _ s (λ t c. arrow_body f at es c) (nowhere s)
  arrow_if f at x {r = Misfit place} as_before s = either (is_covered x.shape) _ _ _ _ s (nowhere s) done
  arrow_if f at x {r = TooNested} as_before s = stops
  arrow_if f at x (nested_less m) s = gave_up

  assigned_with : (f : Flags) (at : ℕ) (x : Expression) (op : AssignOperator) (s : Input) → Keeps (e.assigned_with i f at x op) (e.assigned_with j f at x op) s
  unfolding e.assigned_with
  assigned_with f at x op s = bind _ _ (fitting (deeper (λ n. target_before n op x) (λ k more. kept-before k more op x) h.fuel) s) λ q c. bind _ _ (h.assignment f c) λ y d. done

  after_conditional : (f : Flags) (at : ℕ) (x : Reading) (s : Input) → Keeps (e.after_conditional i f at x) (e.after_conditional j f at x) s
  unfolding e.after_conditional
  after_conditional f at x s = looks _ _ _ _ _ s (arrow_if f at x (deeper (λ n. e.parameters_before n x.shape x.value) (λ k more. kept-parameters-before k more x.shape x.value) h.fuel) s) (either (is_left x.shape) _ _ _ _ s (next _ _ _ _ _ s (λ op c. assigned_with f at _ op c) done) done)

  after_yield : (f : Flags) (at : ℕ) (s : Input) → Keeps (e.after_yield i f at) (e.after_yield j f at) s
  unfolding e.after_yield
  after_yield f at s = next _ _ _ _ _ s (λ t c. bind _ _ (h.assignment f c) λ x d. done) (looks _ _ _ _ _ s (bind _ _ (h.assignment f s) λ x c. done) done)

  without_yield : (f : Flags) (at : ℕ) (s : Input) → Keeps (e.without_yield i f at) (e.without_yield j f at) s
  unfolding e.without_yield
  without_yield f at s = bind _ _ (conditional f s) λ x c. after_conditional f at x c

  pub assignment : (f : Flags) (s : Input) → Keeps (e.assignment i f) (e.assignment j f) s
  unfolding e.assignment
  assignment f s = begins (levels'.assignment_from i f) (levels'.assignment_from j f) s (λ place. either f.has_yield _ _ _ _ s (next _ _ _ _ _ s (λ t c. after_yield f _ c) (without_yield f _ s)) (without_yield f _ s))

  parts : (f : Flags) {n m : ℕ} (w : Turns l n m) (s : Input) → Keeps (e.parts i f n) (e.parts j f m) s
  unfolding e.parts
  parts f over s = gave_up
  parts f (turn w) s = bind _ _ (assignment f s) λ x c. next _ _ _ _ _ c (λ t d. bind _ _ (parts f w d) λ y k. done) done

  pub sequence : (f : Flags) (s : Input) → Keeps (e.sequence i f) (e.sequence j f) s
  unfolding e.sequence e.more_parts
  sequence f s = begins (levels'.sequence_from i f) (levels'.sequence_from j f) s (λ place. bind _ _ (assignment f s) λ x c. next _ _ _ _ _ c (λ t d. bind _ _ (parts f h.fuel d) λ y k. done) done)

  after_key : (f : Flags) (at : ℕ) (k : Key) (s : Input) → Keeps (e.after_key i f at k) (e.after_key j f at k) s
  unfolding e.after_key e.value_of_key e.method_of_key
  after_key f at k s = next _ _ _ _ _ s (λ t c. bind _ _ (assignment (with_in f) c) λ x d. done) (bind _ _ (method_after_key _ false at k s) λ m c. done)

  after_name : (f : Flags) (at : ℕ) (n : Identifier) (s : Input) → Keeps (e.after_name i f at n) (e.after_name j f at n) s
  unfolding e.after_name e.shorthand
  after_name f at n s = looks _ _ _ _ _ s (after_key f at _ s) (next _ _ _ _ _ s (λ t c. bind _ _ (h.assignment (with_in f) c) λ x d. done) done)

  pub property : (f : Flags) (s : Input) → Keeps (e.one_property i f) (e.one_property j f) s
  unfolding e.one_property e.after_accessor_word
  property f s = begins (levels'.property_from i f) (levels'.property_from j f) s (λ place. next _ _ _ _ _ s (λ t c. bind _ _ (generator_method f _ c) λ m d. done) (next _ _ _ _ _ s (λ setter c. looks _ _ _ _ _ c (after_name f _ _ c) (bind _ _ (accessor f _ setter c) λ m d. done)) (next _ _ _ _ _ s (λ name c. after_name f _ _ c) (bind _ _ (key f s) λ k c. after_key f _ k c))))
