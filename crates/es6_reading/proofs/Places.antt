-- A reader leaves a rest of the tokens that it was given, also where it stops at a fault, and the fault says what stands there.
use Rattle.std.proofs.Common.{◌≡◌, ◌∙◌, ℕ, zero, suc, inl, inr, Bool, true, false, List, [], ◌∷◌, Option, Some, None, ap, sym, refl, arith}
use Rattle.std.proofs.lemmas.Bool.{false≢true}
use Rattle.es6_lexer.specs.declared.token.TokenKind.TheVariants as kinds
use Rattle.es6_lexer.specs.declared.token.NumberToken.TheVariants.{TooLarge, Marked}
use Rattle.es6_lexer.specs.declared.token.Punctuator.{Punctuator as Mark}
use Rattle.es6_lexer.specs.declared.token.Punctuator.TheVariants as marks
use Rattle.es6_ast.specs.declared.operators.AssignOperator.{AssignOperator}
use Rattle.es6_ast.specs.declared.operators.MethodKind.{MethodKind}
use Rattle.es6_ast.specs.declared.operators.UnaryOperator.{UnaryOperator}
use Rattle.es6_ast.specs.declared.tree.Expression.{Expression}
use Rattle.es6_ast.specs.declared.tree.Identifier.{Identifier}
use Rattle.es6_ast.specs.declared.tree.Key.{Key}
use Rattle.es6_ast.specs.declared.tree.Link.{Link}
use Rattle.es6_ast.specs.declared.tree.Parameter.{Parameter}
use Rattle.es6_ast.specs.declared.tree.Rest.{Rest as Dots}
use Rattle.es6_ast.specs.declared.tree.Stretch.{Stretch}
use Rattle.es6_ast.specs.declared.tree.Template.{Template}
use Rattle.es6_ast.specs.declared.settings.Flags.{Flags}
use Rattle.es6_ast.specs.declared.settings.Role.{Role}
use Rattle.es6_ast.specs.declared.settings.Role.TheVariants.{Leading, Among, Heritage, Callee}
use Rattle.es6_ast.specs.declared.settings.Stand.{Stand}
use Rattle.es6_ast.specs.declared.settings.Stand.TheVariants.{Listed}
use Rattle.es6_ast.specs.declared.settings.Stop.{Stop}
use Rattle.es6_ast.specs.declared.settings.Stop.TheVariants.{Syntax, Depth, Endless}
use Rattle.es6_ast.specs.Settings.{is_leading, has_calls}
use Rattle.es6_ast.specs.Tokens.{Filling, Read, Filled}
use Rattle.es6_ast.specs.Grammar.{with_in, of_function, of_arrow}
use Rattle.es6_reading.specs.Parser as p
use Rattle.es6_reading.specs.Parser.{Input, Outcome, Took, Fault, Parser, fails, after, stop_in, number_stop_in, expression_stop_in, stop_at, on, on_taken, choose, next_is, if_next, take_as, mark, refused, no_number, no_expression, Reading, is_left, is_covered, Inner, on_group, semicolon, is_insertable}
use Rattle.es6_reading.specs.Refine.{Refined, Fits, Misfit, TooNested}
use Rattle.es6_reading.specs.Parts as t6
use Rattle.es6_reading.specs.Expressions as e
use Rattle.es6_reading.specs.Laws.{regular_expression, marked_number, large_number, Says}

pub data Rest : List Filled → List Filled → Type 0 where
  all : {ts : List Filled} → Rest ts ts
  less : {t : Filled} {ts us : List Filled} → Rest ts us → Rest (t ∷ ts) us

pub rest-of : {ts us vs : List Filled} → Rest ts us → Rest us vs → Rest ts vs
rest-of all h = h
rest-of (less g) h = less (rest-of g h)

-- ## What is said of a token where a reader stops at it

abbrev is_fault : Filling → Bool
is_fault (Read (kinds.Fault kind)) = true
is_fault k = false

no_fault : (t : Filled) (ts : List Filled) → is_fault t.kind ≡ false → Says Syntax (t ∷ ts)
no_fault t ts h kind e = false≢true (sym h ∙ ap is_fault e)

says_in : (k : Filling) (t : Filled) (ts : List Filled) → t.kind ≡ k → Says (stop_in k) (t ∷ ts)
says_in (Read (kinds.Fault kind)) t ts e = e
says_in k t ts e = no_fault t ts (ap is_fault e)

says_in_number : (k : Filling) (t : Filled) (ts : List Filled) → t.kind ≡ k → Says (number_stop_in k) (t ∷ ts)
says_in_number (Read (kinds.Number TooLarge)) t ts e = (omega arith, omega arith, large_number e)
says_in_number (Read (kinds.Number Marked)) t ts e = (omega arith, omega arith, marked_number e)
says_in_number k t ts e = says_in k t ts e

says_in_expression : (k : Filling) (t : Filled) (ts : List Filled) → t.kind ≡ k → Says (expression_stop_in k) (t ∷ ts)
says_in_expression (Read (kinds.Punctuator marks.Slash)) t ts e = (omega arith, omega arith, regular_expression (inl e))
says_in_expression (Read (kinds.Punctuator marks.SlashAssign)) t ts e = (omega arith, omega arith, regular_expression (inr e))
says_in_expression k t ts e = says_in_number k t ts e

says_at : (stop : Filling → Stop) → ((k : Filling) (t : Filled) (ts : List Filled) → t.kind ≡ k → Says (stop k) (t ∷ ts)) → (ts : List Filled) → Says (stop_at stop ts) ts
says_at stop h [] = λ kind e. e
says_at stop h (t ∷ ts) = h t.kind t ts refl

-- ## What a reader leaves

pub data Leaves {A : Type 0} (ts : List Filled) : Outcome A → Type 0 where
  took_rest : {x : A} {c : Input} → Rest ts c.tokens → Leaves ts (Took x c)
  fault_rest : {stop : Stop} {us : List Filled} → Says stop us → Rest ts us → Leaves ts (Fault stop us)

pub further : {A : Type 0} {ts us : List Filled} {o : Outcome A} → Rest ts us → Leaves us o → Leaves ts o
further h (took_rest r) = took_rest (rest-of h r)
further h (fault_rest k r) = fault_rest k (rest-of h r)

pub bind : {A B : Type 0} {ts : List Filled} {o : Outcome A} {q : A → Parser B} → Leaves ts o → ((x : A) (c : Input) → Leaves c.tokens (q x c)) → Leaves ts (after o q)
bind (took_rest r) f = further r (f _ _)
bind (fault_rest k r) f = fault_rest k r

pub done : {A : Type 0} {x : A} {c : Input} → Leaves c.tokens (Took x c)
done = took_rest all

pub endless : {A : Type 0} {ts : List Filled} → Leaves {A = A} ts (Fault Endless ts)
endless = fault_rest tt all

pub deep : {A : Type 0} {ts : List Filled} → Leaves {A = A} ts (Fault Depth ts)
deep = fault_rest tt all

pub nowhere : {A : Type 0} (s : Input) → Leaves {A = A} s.tokens (refused s)
unfolding refused
nowhere s = fault_rest (says_at stop_in says_in s.tokens) all

pub number : {A : Type 0} (s : Input) → Leaves {A = A} s.tokens (no_number s)
unfolding no_number
number s = fault_rest (says_at number_stop_in says_in_number s.tokens) all

pub expression : {A : Type 0} (s : Input) → Leaves {A = A} s.tokens (no_expression s)
unfolding no_expression
expression s = fault_rest (says_at expression_stop_in says_in_expression s.tokens) all

-- a stop at a token that the test knows
pub stops : {A : Type 0} (stop : Stop) (test : Filled → Bool) (q : Parser A) (s : Input) → ((t : Filled) (ts : List Filled) → test t ≡ true → Says stop (t ∷ ts)) → Leaves s.tokens (q s) → Leaves s.tokens (if_next test (fails stop) q s)
stops {A = A} stop test q s f g = at s.tokens s.last g
  where
    at : (ts : List Filled) (last : ℕ) → Leaves ts (q (record { tokens = ts; last = last })) → Leaves ts (if_next test (fails stop) q (record { tokens = ts; last = last }))
    at [] last g = g
    at (t ∷ ts) last g = known (test t) refl g
      where
        known : (b : Bool) → test t ≡ b → Leaves (t ∷ ts) (q (record { tokens = t ∷ ts; last = last })) → Leaves (t ∷ ts) (choose b (fails stop) q (record { tokens = t ∷ ts; last = last }))
        known true e g = fault_rest (f t ts e) all
        known false e g = g

pub next : {A B : Type 0} (test : Filled → Option B) (p : B → Parser A) (q : Parser A) (s : Input) → ((x : B) (c : Input) → Leaves c.tokens (p x c)) → Leaves s.tokens (q s) → Leaves s.tokens (on test p q s)
next {A = A} {B = B} test p q s f g = at s.tokens s.last g
  where
    at : (ts : List Filled) (last : ℕ) → Leaves ts (q (record { tokens = ts; last = last })) → Leaves ts (on test p q (record { tokens = ts; last = last }))
    at [] last g = g
    at (t ∷ ts) last g = known (test t) g
      where
        known : (o : Option B) → Leaves (t ∷ ts) (q (record { tokens = t ∷ ts; last = last })) → Leaves (t ∷ ts) (on_taken o t ts p q (record { tokens = t ∷ ts; last = last }))
        known (Some x) g = further (less all) (f x (record { tokens = ts; last = t.span.end }))
        known None g = g

pub take : {B : Type 0} (test : Filled → Option B) (s : Input) → Leaves s.tokens (take_as test s)
take test s = next test _ _ s (λ x c. done) (nowhere s)

pub either : {A : Type 0} (b : Bool) (p q : Parser A) (s : Input) → Leaves s.tokens (p s) → Leaves s.tokens (q s) → Leaves s.tokens (choose b p q s)
either true p q s f g = f
either false p q s f g = g

pub looks : {A : Type 0} (test : Filled → Bool) (p q : Parser A) (s : Input) → Leaves s.tokens (p s) → Leaves s.tokens (q s) → Leaves s.tokens (if_next test p q s)
looks test p q s f g = either (next_is test s.tokens) p q s f g

pub group : {A : Type 0} (i : Inner) (m : Mark) (p q : Parser A) (s : Input) → ((c : Input) → Leaves c.tokens (p c)) → (Unit {0} → Leaves s.tokens (q s)) → Leaves s.tokens (on_group i m p q s)
group i m p q s f g = looks _ _ q s (either i.may_open _ _ s (next (mark m) (λ t. p) q s (λ t c. f c) (g tt)) deep) (g tt)

pub record Placed (i : Inner) : Type 0 where
  pub sequence : (f : Flags) (s : Input) → Leaves s.tokens (i.sequence f s)
  pub assignment : (f : Flags) (s : Input) → Leaves s.tokens (i.assignment f s)
  pub power : (f : Flags) (s : Input) → Leaves s.tokens (i.power f s)
  pub unary : (f : Flags) (s : Input) → Leaves s.tokens (i.unary f s)
  pub callee : (f : Flags) (s : Input) → Leaves s.tokens (i.callee f s)
  pub heritage : (f : Flags) (s : Input) → Leaves s.tokens (i.heritage f s)
  pub block : (f : Flags) (s : Input) → Leaves s.tokens (i.block f s)
  pub property : (f : Flags) (s : Input) → Leaves s.tokens (i.property f s)
  pub target : (f : Flags) (s : Input) → Leaves s.tokens (i.target f s)
  pub part : (f : Flags) (s : Input) → Leaves s.tokens (i.part f s)
  pub object_part : (f : Flags) (s : Input) → Leaves s.tokens (i.object_part f s)
  pub variable : (f : Flags) (s : Input) → Leaves s.tokens (i.variable f s)
  pub member : (f : Flags) (s : Input) → Leaves s.tokens (i.member f s)
  pub statement : (f : Flags) (stand : Stand) (s : Input) → Leaves s.tokens (i.statement f stand s)

pub identifier : (s : Input) → Leaves s.tokens (t6.identifier s)
unfolding t6.identifier
identifier s = bind (take _ s) λ x c. done

pub any_name : (s : Input) → Leaves s.tokens (t6.name_of_any_kind s)
unfolding t6.name_of_any_kind
any_name s = bind (take _ s) λ x c. done

rest_part : (at : ℕ) (s : Input) → Leaves s.tokens (t6.rest_part at s)
unfolding t6.rest_part
rest_part at s = bind (identifier s) λ x c. bind (take _ c) λ t d. done

rest_parameter : (at : ℕ) (s : Input) → Leaves s.tokens (t6.rest_parameter at s)
unfolding t6.rest_parameter
rest_parameter at s = bind (identifier s) λ x c. bind (take _ c) λ t d. done

no_parameter : (s : Input) → Leaves s.tokens (t6.no_parameter s)
unfolding t6.no_parameter
no_parameter s = bind (take _ s) λ t c. done

star : (s : Input) → Leaves s.tokens (t6.star s)
unfolding t6.star
star s = next _ _ _ s (λ t c. done) done

pub semicolon_ : (i : Inner) (s : Input) → Leaves s.tokens (semicolon i s)
unfolding semicolon
semicolon_ i s = next _ _ _ s (λ t c. done) (either i.inserting _ _ s (either (is_insertable s.tokens) _ _ s done (nowhere s)) (nowhere s))

pub do_while_end : (i : Inner) (s : Input) → Leaves s.tokens (p.semicolon_of_do_while i s)
unfolding p.semicolon_of_do_while
do_while_end i s = next _ _ _ s (λ t c. done) (either i.inserting _ _ s (looks _ _ _ s done (nowhere s)) (nowhere s))

no_operand : (role : Role) (s : Input) → Leaves {A = Reading} s.tokens (e.no_operand role s)
no_operand Leading s = expression s
no_operand Among s = expression s
no_operand Heritage s = number s
no_operand Callee s = number s

covered : (at : ℕ) (held : Option Expression) (rest : Option Dots) (s : Input) → Leaves s.tokens (e.covered at held rest s)
unfolding e.covered
covered at held rest s = looks _ _ _ s done (nowhere s)

covered_rest : (at dots : ℕ) (held : Option Expression) (s : Input) → Leaves s.tokens (e.covered_rest at dots held s)
unfolding e.covered_rest
covered_rest at dots held s = bind (identifier s) λ n c. bind (take _ c) λ t d. covered at held _ d

rest_after : (at dots : ℕ) (held : Expression) (r : Refined (List Parameter)) (s : Input) → Leaves s.tokens (e.rest_after at dots held r s)
rest_after at dots held (Fits es) s = next _ _ _ s (λ t c. covered_rest at dots (Some held) c) (nowhere s)
rest_after at dots held (Misfit place) s = nowhere s
rest_after at dots held TooNested s = endless

closed_group : (at : ℕ) (held : Expression) (s : Input) → Leaves s.tokens (e.closed_group at held s)
unfolding e.closed_group
closed_group at held s = bind (take _ s) λ t c. done

member_link : (at : ℕ) (s : Input) → Leaves s.tokens (e.member_link at s)
unfolding e.member_link
member_link at s = bind (any_name s) λ n c. done

pub fitting : {A : Type 0} (r : Refined A) (s : Input) → Leaves s.tokens (e.fitting r s)
fitting (Fits x) s = done
fitting (Misfit place) s = nowhere s
fitting TooNested s = endless

module _ (i : Inner) (h : Placed i) where
  key : (f : Flags) (s : Input) → Leaves s.tokens (t6.key i f s)
  unfolding t6.key t6.computed_key
  key f s = next _ _ _ s (λ k c. done) (group i marks.LeftBracket _ _ s (λ c. bind (h.assignment (with_in f) c) λ x d. bind (take _ d) λ t k. done) (λ u. number s))

  array_parts : (f : Flags) (n : ℕ) (s : Input) → Leaves s.tokens (t6.array_parts i f n s)
  unfolding t6.array_parts
  array_parts f zero s = endless
  array_parts f (suc n) s = next _ _ _ s (λ t c. done) (next _ _ _ s (λ t c. bind (array_parts f n c) λ x d. done) (next _ _ _ s (λ t c. rest_part _ c)
      (bind (h.part f s) λ q c. next _ _ _ c (λ t d. bind (array_parts f n d) λ x k. done) (bind (take _ c) λ t d. done))))

  object_parts : (f : Flags) (n : ℕ) (s : Input) → Leaves s.tokens (t6.object_parts i f n s)
  unfolding t6.object_parts
  object_parts f zero s = endless
  object_parts f (suc n) s = next _ _ _ s (λ t c. done) (bind (h.object_part f s) λ q c. next _ _ _ c (λ t d. bind (object_parts f n d) λ x k. done) (bind (take _ c) λ t d. done))

  binding_pattern : (f : Flags) (at : ℕ) (s : Input) → Leaves s.tokens (t6.binding_pattern i f at s)
  unfolding t6.binding_pattern
  binding_pattern f at s = group i marks.LeftBracket _ _ s (λ c. bind (array_parts f i.fuel c) λ x d. done) (λ u. group i marks.LeftBrace _ _ s (λ c. bind (object_parts f i.fuel c) λ x d. done) (λ u. nowhere s))

  pub binding : (f : Flags) (s : Input) → Leaves s.tokens (t6.binding i f s)
  unfolding t6.binding
  binding f s = next _ _ _ s (λ t c. done) (binding_pattern f _ s)

  pub initialized : (f g : Flags) (s : Input) → Leaves s.tokens (t6.initialized i f g s)
  unfolding t6.initialized
  initialized f g s = bind (binding f s) λ y c. next _ _ _ c (λ t d. bind (h.assignment g d) λ x k. done) done

  pub one_part : (f : Flags) (s : Input) → Leaves s.tokens (t6.one_part i f s)
  unfolding t6.one_part
  one_part f s = initialized f (with_in f) s

  keyed_part : (f : Flags) (at : ℕ) (k : Key) (s : Input) → Leaves s.tokens (t6.keyed_part i f at k s)
  unfolding t6.keyed_part
  keyed_part f at k s = bind (one_part f s) λ q c. done

  named_part : (f : Flags) (at : ℕ) (n : Identifier) (s : Input) → Leaves s.tokens (t6.named_part i f at n s)
  unfolding t6.named_part
  named_part f at n s = next _ _ _ s (λ t c. bind (h.assignment (with_in f) c) λ x d. done) done

  pub object_part : (f : Flags) (s : Input) → Leaves s.tokens (t6.one_object_part i f s)
  unfolding t6.one_object_part
  object_part f s = next _ _ _ s (λ name c. next _ _ _ c (λ t d. keyed_part f _ _ d) (named_part f _ _ c)) (bind (key f s) λ k c. bind (take _ c) λ t d. keyed_part f _ k d)

  more_parameters : (f : Flags) (n : ℕ) (s : Input) → Leaves s.tokens (t6.more_parameters i f n s)
  unfolding t6.more_parameters
  more_parameters f zero s = endless
  more_parameters f (suc n) s = next _ _ _ s (λ t c. bind (rest_parameter _ c) λ x d. done) (bind (h.part f s) λ q c. next _ _ _ c (λ t d. bind (more_parameters f n d) λ x k. done) (bind (take _ c) λ t d. done))

  parameters : (f : Flags) (s : Input) → Leaves s.tokens (t6.parameters i f s)
  unfolding t6.parameters
  parameters f s = next _ _ _ s (λ t c. done) (more_parameters f i.fuel s)

  statements : (f : Flags) (n : ℕ) (s : Input) → Leaves s.tokens (t6.statements i f n s)
  unfolding t6.statements
  statements f zero s = endless
  statements f (suc n) s = next _ _ _ s (λ t c. done) (bind (h.statement f Listed s) λ x c. bind (statements f n c) λ y d. done)

  pub block : (f : Flags) (s : Input) → Leaves s.tokens (t6.block i f s)
  unfolding t6.block
  block f s = group i marks.LeftBrace _ _ s (λ c. bind (statements f i.fuel c) λ x d. done) (λ u. nowhere s)

  function_body : (generator : Bool) (s : Input) → Leaves s.tokens (t6.function_body i generator s)
  unfolding t6.function_body
  function_body generator s = group i marks.LeftBrace _ _ s (λ c. statements (of_function generator) i.fuel c) (λ u. nowhere s)

  signature : (generator : Bool) (s : Input) → Leaves s.tokens (t6.signature i generator s)
  unfolding t6.signature
  signature generator s = bind (group i marks.LeftParenthesis _ _ s (λ c. parameters (of_function generator) c) (λ u. nowhere s)) λ x c. bind (function_body generator c) λ y d. done

  rest_of_function : (at : ℕ) (generator : Bool) (name : Option Identifier) (s : Input) → Leaves s.tokens (t6.rest_of_function i at generator name s)
  unfolding t6.rest_of_function
  rest_of_function at generator name s = bind (signature generator s) λ x c. done

  pub named_function : (at : ℕ) (generator : Bool) (s : Input) → Leaves s.tokens (t6.named_function i at generator s)
  unfolding t6.named_function
  named_function at generator s = bind (identifier s) λ n c. rest_of_function at generator (Some n) c

  pub function : (lacks : Bool) (at : ℕ) (s : Input) → Leaves s.tokens (t6.function_after_word i lacks at s)
  unfolding t6.function_after_word
  function lacks at s = bind (star s) λ generator c. either lacks _ _ c (looks _ _ _ c (rest_of_function at generator None c) (named_function at generator c)) (named_function at generator c)

  method_after_key : (kind : MethodKind) (generator : Bool) (at : ℕ) (k : Key) (s : Input) → Leaves s.tokens (t6.method_after_key i kind generator at k s)
  unfolding t6.method_after_key
  method_after_key kind generator at k s = bind (signature generator s) λ x c. done

  accessor_parameters : (setter : Bool) (s : Input) → Leaves s.tokens (t6.accessor_parameters i setter s)
  unfolding t6.accessor_parameters t6.one_parameter
  accessor_parameters true s = bind (h.part (of_function false) s) λ q c. bind (take _ c) λ t d. done
  accessor_parameters false s = no_parameter s

  accessor : (f : Flags) (at : ℕ) (setter : Bool) (s : Input) → Leaves s.tokens (t6.accessor i f at setter s)
  unfolding t6.accessor
  accessor f at setter s = bind (key f s) λ k c. bind (group i marks.LeftParenthesis _ _ c (λ d. accessor_parameters setter d) (λ u. nowhere c)) λ x d. bind (function_body false d) λ y k'. done

  generator_method : (f : Flags) (at : ℕ) (s : Input) → Leaves s.tokens (t6.generator_method i f at s)
  unfolding t6.generator_method
  generator_method f at s = bind (key f s) λ k c. method_after_key _ true at k c

  accessor_word : (f : Flags) (at : ℕ) (setter : Bool) (s : Input) → Leaves s.tokens (t6.method_after_accessor_word i f at setter s)
  unfolding t6.method_after_accessor_word
  accessor_word f at setter s = looks _ _ _ s (method_after_key _ false at _ s) (accessor f at setter s)

  method : (f : Flags) (s : Input) → Leaves s.tokens (t6.method i f s)
  unfolding t6.method
  method f s = next _ _ _ s (λ t c. generator_method f _ c) (next _ _ _ s (λ setter c. accessor_word f _ setter c) (bind (key f s) λ k c. method_after_key _ false _ k c))

  pub member : (f : Flags) (s : Input) → Leaves s.tokens (t6.one_member i f s)
  unfolding t6.one_member t6.member_after_static
  member f s = next _ _ _ s (λ t c. looks _ _ _ c (bind (method_after_key _ false _ _ c) λ m d. done) (bind (method f c) λ m d. done)) (bind (method f s) λ m c. done)

  members : (f : Flags) (n : ℕ) (s : Input) → Leaves s.tokens (t6.members i f n s)
  unfolding t6.members
  members f zero s = endless
  members f (suc n) s = next _ _ _ s (λ t c. done) (next _ _ _ s (λ t c. members f n c) (bind (h.member f s) λ m c. bind (members f n c) λ ms d. done))

  heritage : (f : Flags) (s : Input) → Leaves s.tokens (t6.heritage i f s)
  unfolding t6.heritage
  heritage f s = next _ _ _ s (λ t c. bind (h.heritage f c) λ x d. done) done

  rest_of_class : (f : Flags) (at : ℕ) (name : Option Identifier) (s : Input) → Leaves s.tokens (t6.rest_of_class i f at name s)
  unfolding t6.rest_of_class
  rest_of_class f at name s = bind (heritage f s) λ x c. bind (group i marks.LeftBrace _ _ c (λ d. members f i.fuel d) (λ u. nowhere c)) λ ms d. done

  named_class : (f : Flags) (at : ℕ) (s : Input) → Leaves s.tokens (t6.named_class i f at s)
  unfolding t6.named_class
  named_class f at s = bind (identifier s) λ n c. rest_of_class f at (Some n) c

  pub class : (f : Flags) (lacks : Bool) (at : ℕ) (s : Input) → Leaves s.tokens (t6.class_after_word i f lacks at s)
  unfolding t6.class_after_word
  class f lacks at s = either lacks _ _ s (looks _ _ _ s (rest_of_class f at None s) (named_class f at s)) (named_class f at s)

  template_parts : (f : Flags) (n : ℕ) (s : Input) → Leaves s.tokens (t6.template_parts i f n s)
  unfolding t6.template_parts
  template_parts f zero s = endless
  template_parts f (suc n) s = bind (h.sequence (with_in f) s) λ x c. next _ _ _ c (λ r d. done) (bind (take _ c) λ r d. bind (template_parts f n d) λ ms k. done)

  parted : (f : Flags) (at : ℕ) (r : Stretch) (s : Input) → Leaves s.tokens (t6.parted_template i f at r s)
  unfolding t6.parted_template
  parted f at r s = bind (template_parts f i.fuel s) λ ms c. done

  on_template : {A : Type 0} (f : Flags) (at : ℕ) (p : Template → Parser A) (q : Parser A) (s : Input) → ((m : Template) (c : Input) → Leaves c.tokens (p m c)) → Leaves s.tokens (q s) → Leaves s.tokens (t6.on_template i f at p q s)
  on_template f at p q s k g = next _ _ _ s (λ r c. k _ c) (looks _ _ q s (either i.may_open _ _ s (next _ _ q s (λ r c. bind (parted f at r c) λ m d. k m d) g) deep) g)

  argument : (f : Flags) (s : Input) → Leaves s.tokens (e.argument i f s)
  unfolding e.argument
  argument f s = next _ _ _ s (λ t c. bind (h.assignment (with_in f) c) λ x d. done) (bind (h.assignment (with_in f) s) λ x c. done)

  elements : (f : Flags) (n : ℕ) (s : Input) → Leaves s.tokens (e.elements i f n s)
  unfolding e.elements
  elements f zero s = endless
  elements f (suc n) s = next _ _ _ s (λ t c. done) (next _ _ _ s (λ t c. bind (elements f n c) λ l d. done)
      (bind (argument f s) λ a c. next _ _ _ c (λ t d. next _ _ _ d (λ u k. done) (bind (elements f n d) λ l k. done)) (bind (take _ c) λ t d. done)))

  more_arguments : (f : Flags) (n : ℕ) (s : Input) → Leaves s.tokens (e.more_arguments i f n s)
  unfolding e.more_arguments
  more_arguments f zero s = endless
  more_arguments f (suc n) s = bind (argument f s) λ a c. next _ _ _ c (λ t d. bind (more_arguments f n d) λ x k. done) (bind (take _ c) λ t d. done)

  arguments : (f : Flags) (s : Input) → Leaves s.tokens (e.arguments i f s)
  unfolding e.arguments
  arguments f s = next _ _ _ s (λ t c. done) (more_arguments f i.fuel s)

  properties : (f : Flags) (n : ℕ) (s : Input) → Leaves s.tokens (e.properties i f n s)
  unfolding e.properties
  properties f zero s = endless
  properties f (suc n) s = next _ _ _ s (λ t c. done) (bind (h.property f s) λ x c. next _ _ _ c (λ t d. bind (properties f n d) λ y k. done) (bind (take _ c) λ t d. done))

  held_parts : (f : Flags) (role : Role) (n : ℕ) (s : Input) → Leaves s.tokens (e.held_parts i f role n s)
  unfolding e.held_parts
  held_parts f role zero s = endless
  held_parts f role (suc n) s = bind (h.assignment (with_in f) s) λ x c. next _ _ _ c (λ t d. looks _ _ _ d done (bind (held_parts f role n d) λ y k. done)) done

  held_group : (f : Flags) (role : Role) (at : ℕ) (s : Input) → Leaves s.tokens (e.held_group i f role at s)
  unfolding e.held_group
  held_group f role at s = bind (held_parts f role i.fuel s) λ x c. either x.before_rest _ _ c (rest_after at _ _ _ c) (closed_group at _ c)

  grouped : (f : Flags) (role : Role) (at : ℕ) (s : Input) → Leaves s.tokens (e.grouped i f role at s)
  unfolding e.grouped
  grouped f role at s = either (is_leading role) _ _ s (next _ _ _ s (λ t c. covered at None None c) (next _ _ _ s (λ t c. covered_rest at _ None c) (held_group f role at s))) (held_group f role at s)

  bracketed : (f : Flags) (role : Role) (at : ℕ) (s : Input) → Leaves s.tokens (e.bracketed i f role at s)
  unfolding e.bracketed
  bracketed f role at s = group i marks.LeftBracket _ _ s (λ c. bind (elements f i.fuel c) λ l d. done) (λ u. group i marks.LeftBrace _ _ s (λ c. bind (properties f i.fuel c) λ x d. done) (λ u. no_operand role s))

  composed : (f : Flags) (role : Role) (at : ℕ) (s : Input) → Leaves s.tokens (e.composed i f role at s)
  unfolding e.composed
  composed f role at s = next _ _ _ s (λ t c. bind (function true at c) λ x d. done) (next _ _ _ s (λ t c. bind (class f true at c) λ x d. done)
      (on_template f at _ _ s (λ m c. done) (group i marks.LeftParenthesis _ _ s (λ c. grouped f role at c) (λ u. bracketed f role at s))))

  primary : (f : Flags) (role : Role) (at : ℕ) (s : Input) → Leaves s.tokens (e.primary i f role at s)
  unfolding e.primary
  primary f role at s = next _ _ _ s (λ t c. done) (next _ _ _ s (λ t c. done) (next _ _ _ s (λ t c. done) (composed f role at s)))

  after_new : (f : Flags) (at : ℕ) (s : Input) → Leaves s.tokens (e.after_new i f at s)
  unfolding e.after_new e.after_callee
  after_new f at s = next _ _ _ s (λ t c. bind (take _ c) λ u d. done) (bind (h.callee f s) λ x c. group i marks.LeftParenthesis _ _ c (λ d. bind (arguments f d) λ y k. done) (λ u. done))

  after_super : (f : Flags) (role : Role) (at : ℕ) (s : Input) → Leaves s.tokens (e.after_super i f role at s)
  unfolding e.after_super e.super_call
  after_super f role at s = next _ _ _ s (λ t c. bind (any_name c) λ n d. done) (group i marks.LeftBracket _ _ s (λ c. bind (h.sequence (with_in f) c) λ x d. bind (take _ d) λ t k. done)
      (λ u. either (has_calls role) _ _ s (group i marks.LeftParenthesis _ _ s (λ c. bind (arguments f c) λ x d. done) (λ u. nowhere s)) (nowhere s)))

  head : (f : Flags) (role : Role) (at : ℕ) (s : Input) → Leaves s.tokens (e.head i f role at s)
  unfolding e.head
  head f role at s = next _ _ _ s (λ t c. after_new f at c) (next _ _ _ s (λ t c. after_super f role at c) (primary f role at s))

  index : (f : Flags) (at : ℕ) (s : Input) → Leaves s.tokens (e.index_link i f at s)
  unfolding e.index_link
  index f at s = bind (h.sequence (with_in f) s) λ x c. bind (take _ c) λ t d. done

  call : (f : Flags) (at : ℕ) (s : Input) → Leaves s.tokens (e.call_link i f at s)
  unfolding e.call_link
  call f at s = bind (arguments f s) λ x c. done

  on_link : (f : Flags) (calls : Bool) (at : ℕ) (p : Link → Parser (List Link)) (q : Parser (List Link)) (s : Input) → ((l : Link) (c : Input) → Leaves c.tokens (p l c)) → Leaves s.tokens (q s) → Leaves s.tokens (e.on_link i f calls at p q s)
  on_link f calls at p q s k g = next _ _ _ s (λ t c. bind (member_link _ c) λ l d. k l d) (group i marks.LeftBracket _ _ s (λ c. bind (index f _ c) λ l d. k l d) (λ u. on_template f _ _ _ s (λ m c. k _ c)
      (either calls _ _ s (group i marks.LeftParenthesis _ _ s (λ c. bind (call f _ c) λ l d. k l d) (λ u. g)) g)))

  links : (f : Flags) (calls : Bool) (n : ℕ) (s : Input) → Leaves s.tokens (e.links i f calls n s)
  unfolding e.links
  links f calls zero s = endless
  links f calls (suc n) s = on_link f calls _ _ _ s (λ l c. bind (links f calls n c) λ ls d. done) done

  pub chain : (f : Flags) (role : Role) (s : Input) → Leaves s.tokens (e.chain i f role s)
  unfolding e.chain
  chain f role s = bind (head f role _ s) λ x c. bind (links f (has_calls role) i.fuel c) λ ls d. done

  postfix : (f : Flags) (role : Role) (s : Input) → Leaves s.tokens (e.postfix i f role s)
  unfolding e.postfix
  postfix f role s = bind (chain f role s) λ x c. next _ _ _ c (λ op d. done) done

  prefixed : (f : Flags) (at : ℕ) (op : UnaryOperator) (s : Input) → Leaves s.tokens (e.prefixed i f at op s)
  unfolding e.prefixed
  prefixed f at op s = bind (h.unary f s) λ x c. done

  update : (f : Flags) (role : Role) (s : Input) → Leaves s.tokens (e.update i f role s)
  unfolding e.update e.updated
  update f role s = next _ _ _ s (λ op c. bind (h.unary f c) λ x d. done) (postfix f role s)

  pub unary : (f : Flags) (s : Input) → Leaves s.tokens (e.unary i f s)
  unfolding e.unary
  unary f s = next _ _ _ s (λ op c. prefixed f _ op c) (update f Among s)

  pub power : (f : Flags) (role : Role) (s : Input) → Leaves s.tokens (e.power i f role s)
  unfolding e.power e.raised
  power f role s = next _ _ _ s (λ op c. prefixed f _ op c) (bind (update f role s) λ x c. next _ _ _ c (λ t d. bind (h.power f d) λ y k. done) done)

  operands : (f : Flags) (level : ℕ) (q : Parser Reading) (k : (s : Input) → Leaves s.tokens (q s)) (n : ℕ) (s : Input) → Leaves s.tokens (e.operands q f level n s)
  unfolding e.operands
  operands f level q k zero s = endless
  operands f level q k (suc n) s = next _ _ _ s (λ op c. bind (k c) λ x d. bind (operands f level q k n d) λ y m. done) done

  binary : (f : Flags) (role : Role) (up level : ℕ) (s : Input) → Leaves s.tokens (e.binary_from i f role up level s)
  unfolding e.binary_from
  binary f role zero level s = power f role s
  binary f role (suc up) level s = bind (binary f role up _ s) λ x c. bind (operands f level _ (λ d. binary f Among up _ d) i.fuel c) λ y d. done

  conditional : (f : Flags) (s : Input) → Leaves s.tokens (e.conditional i f s)
  unfolding e.conditional e.branches
  conditional f s = bind (binary f Leading 10 3 s) λ x c. next _ _ _ c (λ t d. bind (h.assignment (with_in f) d) λ y k. bind (take _ k) λ u m. bind (h.assignment f m) λ z o. done) done

  arrow_body : (f : Flags) (at : ℕ) (es : List Parameter) (s : Input) → Leaves s.tokens (e.arrow_body i f at es s)
  unfolding e.arrow_body
  arrow_body f at es s = looks _ _ _ s (bind (h.block (of_function false) s) λ b c. done) (bind (h.assignment (of_arrow f) s) λ x c. done)

  arrow_if : (f : Flags) (at : ℕ) (x : Reading) (r : Refined (List Parameter)) (s : Input) → Leaves s.tokens (e.arrow_if i f at x r s)
  arrow_if f at x (Fits es) s = next _ _ _ s (λ t c. arrow_body f at es c) (nowhere s)
  arrow_if f at x (Misfit place) s = either (is_covered x.shape) _ _ s (nowhere s) done
  arrow_if f at x TooNested s = endless

  assigned_with : (f : Flags) (at : ℕ) (x : Expression) (op : AssignOperator) (s : Input) → Leaves s.tokens (e.assigned_with i f at x op s)
  unfolding e.assigned_with
  assigned_with f at x op s = bind (fitting _ s) λ q c. bind (h.assignment f c) λ y d. done

  after_conditional : (f : Flags) (at : ℕ) (x : Reading) (s : Input) → Leaves s.tokens (e.after_conditional i f at x s)
  unfolding e.after_conditional
  after_conditional f at x s = looks _ _ _ s (arrow_if f at x _ s) (either (is_left x.shape) _ _ s (next _ _ _ s (λ op c. assigned_with f at _ op c) done) done)

  after_yield : (f : Flags) (at : ℕ) (s : Input) → Leaves s.tokens (e.after_yield i f at s)
  unfolding e.after_yield
  after_yield f at s = next _ _ _ s (λ t c. bind (h.assignment f c) λ x d. done) (looks _ _ _ s (bind (h.assignment f s) λ x c. done) done)

  without_yield : (f : Flags) (at : ℕ) (s : Input) → Leaves s.tokens (e.without_yield i f at s)
  unfolding e.without_yield
  without_yield f at s = bind (conditional f s) λ x c. after_conditional f at x c

  pub assignment : (f : Flags) (s : Input) → Leaves s.tokens (e.assignment i f s)
  unfolding e.assignment
  assignment f s = either f.has_yield _ _ s (next _ _ _ s (λ t c. after_yield f _ c) (without_yield f _ s)) (without_yield f _ s)

  parts : (f : Flags) (n : ℕ) (s : Input) → Leaves s.tokens (e.parts i f n s)
  unfolding e.parts
  parts f zero s = endless
  parts f (suc n) s = bind (assignment f s) λ x c. next _ _ _ c (λ t d. bind (parts f n d) λ y k. done) done

  pub sequence : (f : Flags) (s : Input) → Leaves s.tokens (e.sequence i f s)
  unfolding e.sequence e.more_parts
  sequence f s = bind (assignment f s) λ x c. next _ _ _ c (λ t d. bind (parts f i.fuel d) λ y k. done) done

  after_key : (f : Flags) (at : ℕ) (k : Key) (s : Input) → Leaves s.tokens (e.after_key i f at k s)
  unfolding e.after_key e.value_of_key e.method_of_key
  after_key f at k s = next _ _ _ s (λ t c. bind (assignment (with_in f) c) λ x d. done) (bind (method_after_key _ false at k s) λ m c. done)

  after_name : (f : Flags) (at : ℕ) (n : Identifier) (s : Input) → Leaves s.tokens (e.after_name i f at n s)
  unfolding e.after_name e.shorthand
  after_name f at n s = looks _ _ _ s (after_key f at _ s) (next _ _ _ s (λ t c. bind (h.assignment (with_in f) c) λ x d. done) done)

  pub property : (f : Flags) (s : Input) → Leaves s.tokens (e.one_property i f s)
  unfolding e.one_property e.after_accessor_word
  property f s = next _ _ _ s (λ t c. bind (generator_method f _ c) λ m d. done) (next _ _ _ s (λ setter c. looks _ _ _ c (after_name f _ _ c) (bind (accessor f _ setter c) λ m d. done))
      (next _ _ _ s (λ name c. after_name f _ _ c) (bind (key f s) λ k c. after_key f _ k c)))
