-- How many constructs are open where a reader of names, keys, patterns that bind, functions, methods, classes and templates stops.
use Rattle.std.proofs.Common.{◌≡◌, ◌∙◌, ℕ, ◌+◌, ◌≤◌, Bool, true, false, List, [], Option, Some, None, refl, sym, subst, arith}
use Rattle.std.specs.Prelude.{codes, is_some}
use Rattle.std.proofs.lemmas.Bool.{false≢true}
use Rattle.es_text.specs.declared.Span.{Span}
use Rattle.es6_lexer.specs.declared.token.Punctuator.TheVariants as marks
use Rattle.es6_ast.specs.declared.operators.MethodKind.{MethodKind}
use Rattle.es6_ast.specs.declared.tree.ArrayPart.TheVariants.{RestPart}
use Rattle.es6_ast.specs.declared.tree.Expression.{Expression}
use Rattle.es6_ast.specs.declared.tree.Function.{roll-Function}
use Rattle.es6_ast.specs.declared.tree.Identifier.{Identifier}
use Rattle.es6_ast.specs.declared.tree.Key.{Key}
use Rattle.es6_ast.specs.declared.tree.ObjectPart.TheVariants.{NamedPart}
use Rattle.es6_ast.specs.declared.tree.Parameter.{Parameter}
use Rattle.es6_ast.specs.declared.tree.Part.{roll-Part}
use Rattle.es6_ast.specs.declared.tree.Expression.TheVariants as expr
use Rattle.es6_ast.specs.declared.tree.Statement.{Statement}
use Rattle.es6_ast.specs.declared.tree.Stretch.{Stretch}
use Rattle.es6_ast.specs.declared.tree.Template.{Template}
use Rattle.es6_ast.specs.declared.settings.Flags.{Flags}
use Rattle.es6_ast.specs.declared.settings.Stand.{Stand}
use Rattle.es6_ast.specs.declared.settings.Stand.TheVariants.{Listed}
use Rattle.es6_ast.specs.Tokens.{Filled, begin_of}
use Rattle.es6_ast.specs.Grammar.{with_in, of_function, name_target, method_of, is_generator_method}
use Rattle.es6_reading.specs.Parser as p
use Rattle.es6_reading.specs.Parser.{Parser, Reading, choose, next_is, next_mark, refused, Inner, semicolon, inserts, inserts_anywhere, is_insertable}
use Rattle.es6_reading.specs.Words.{KeyToken, WordToken, TextToken, IntegerToken, stretch_at}
use Rattle.es6_reading.specs.Parts as t6
use Rattle.es6_reading_laws.proofs.es6_viability.Beside.{Both, over, turn}
use Rattle.es6_reading.proofs.SpanCounts.{sum_of, in_some, spans_block, spans_class, spans_function, spans_template, in_array_part, in_block, in_class, in_class_member, in_expression, in_function, in_key, in_method, in_object_part, in_parameter, in_part, in_pattern, in_property, in_statement, in_template, in_template_part, with_block, with_expression, with_statement}
use Rattle.es6_reading.proofs.SpanSums.{in-skipped_part, in-single_part, in-rest_part, in-name, in-word_key, in-text_key, in-integer_key, in-computed_key, in-named_part, in-keyed_part, in-single_parameter, in-rest_parameter, in-target, in-array_pattern, in-object_pattern, in-class, span-class, in-class_member, in-function, span-function, in-method, in-part, in-template, span-template, in-template_part}
use Rattle.es6_reading.proofs.SpanSumsOfStatements.{in-block, span-block}
use Rattle.es6_reading_laws.proofs.es6_viability.Deep.{Spot, At, Ready, ready, begin, and, recount, finish, first, no_spans, Within, within, Opened, Deep, took, fault, bind, weaken, refused-holds, no-number-holds, next, ends, take, close, either, looks, Opens, opening, group}
use Rattle.es6_reading.proofs.ShallowTokens.{a-word, comma, colon, semicolon-mark, ellipsis, equals, a-star, right-parenthesis, right-bracket, right-brace, any-name, free-name, key-token, accessor-word, whole-template, template-head, template-middle, template-tail, statement-end, do-while-end}

-- what is read by the readers one construct deeper
pub record Deeper (all : List Filled) (i j : Inner) (room : ℕ) : Type 0 where
  pub opens : Opens i j room
  pub mode : j.inserting ≡ i.inserting
  pub turns : Both i.fuel j.fuel
  pub sequence : (f : Flags) (s : Spot all) → Ready room 1 s → Deep (λ x c. At true room s 1 1 c (in_expression x.value)) (i.sequence f) (j.sequence f) s
  pub assignment : (f : Flags) {h : ℕ} (s : Spot all) → Ready room h s → Deep (λ x c. Opened room h s c (in_expression x.value) (with_expression x.value)) (i.assignment f) (j.assignment f) s
  pub power : (f : Flags) {h : ℕ} (s : Spot all) → Ready room h s → Deep (λ x c. Opened room h s c (in_expression x.value) (with_expression x.value)) (i.power f) (j.power f) s
  pub unary : (f : Flags) {h : ℕ} (s : Spot all) → Ready room h s → Deep (λ x c. Opened room h s c (in_expression x.value) (with_expression x.value)) (i.unary f) (j.unary f) s
  pub callee : (f : Flags) {h : ℕ} (s : Spot all) → Ready room h s → Deep (λ x c. Opened room h s c (in_expression x.value) (with_expression x.value)) (i.callee f) (j.callee f) s
  pub heritage : (f : Flags) {h : ℕ} (s : Spot all) → Ready room h s → Deep (λ x c. Opened room h s c (in_expression x.value) (with_expression x.value)) (i.heritage f) (j.heritage f) s
  pub block : (f : Flags) {h : ℕ} (s : Spot all) → next_is (next_mark marks.LeftBrace) s.input.tokens ≡ true → Ready room h s → Deep (λ x c. Opened room h s c (in_block x) (with_block x)) (i.block f) (j.block f) s
  pub property : (f : Flags) (s : Spot all) → Ready room 1 s → Deep (λ x c. At true room s 1 1 c (in_property x)) (i.property f) (j.property f) s
  pub target : (f : Flags) (s : Spot all) → Ready room 1 s → Deep (λ x c. At true room s 1 1 c (in_pattern x)) (i.target f) (j.target f) s
  pub part : (f : Flags) (s : Spot all) → Ready room 1 s → Deep (λ x c. At true room s 1 1 c (in_part x)) (i.part f) (j.part f) s
  pub object_part : (f : Flags) (s : Spot all) → Ready room 1 s → Deep (λ x c. At true room s 1 1 c (in_object_part x)) (i.object_part f) (j.object_part f) s
  pub variable : (f : Flags) (s : Spot all) → Ready room 1 s → Deep (λ x c. At true room s 1 1 c (in_part x)) (i.variable f) (j.variable f) s
  pub member : (f : Flags) (s : Spot all) → Ready room 1 s → Deep (λ x c. At true room s 1 1 c (in_class_member x)) (i.member f) (j.member f) s
  pub statement : (f : Flags) (stand : Stand) {h : ℕ} → (stand ≡ Listed → 1 ≤ h) → (s : Spot all) → Ready room h s → Deep (λ x c. Opened room h s c (in_statement x) (with_statement x)) (i.statement f stand) (j.statement f stand) s

-- ## Names

module _ {all : List Filled} {b : Bool} {room g h : ℕ} {s : Spot all} {D : ℕ → ℕ} where
  pub identifier : (c : Spot all) → At b room s g h c D → Deep (λ n d. At true room s g h d D) t6.identifier t6.identifier c
  unfolding t6.identifier
  identifier c a = bind _ _ (take free-name a) λ x d e. took _ e

  pub name : (c : Spot all) → At b room s g h c D → Deep (λ n d. At true room s g h d D) t6.name_of_any_kind t6.name_of_any_kind c
  unfolding t6.name_of_any_kind
  name c a = bind _ _ (take any-name a) λ x d e. took _ e

module _ {all : List Filled} {room g h : ℕ} {s : Spot all} {D : ℕ → ℕ} where
  pub star : (c : Spot all) → At true room s g h c D → Deep (λ n d. At true room s g h d D) t6.star t6.star c
  unfolding t6.star
  star c a = next a-star _ _ _ _ a (λ t d k b. took _ b) (took _ a)

  pub semicolon_ : (i j : Inner) → j.inserting ≡ i.inserting → (c : Spot all) → At true room s g h c D → Deep (λ n d. At true room s g h d D) (semicolon i) (semicolon j) c
  unfolding semicolon
  semicolon_ i j e c a = next statement-end _ _ _ _ a (λ t d k b. took _ b)
      (subst (λ v. Deep (λ n d. At true room s g h d D) (choose i.inserting inserts refused) (choose v inserts refused) c) (sym e) (either i.inserting _ _ _ _ c (either (is_insertable c.input.tokens) _ _ _ _ c (took _ a) (refused-holds c)) (refused-holds c)))

  pub do_while_end : (i j : Inner) → j.inserting ≡ i.inserting → (c : Spot all) → At true room s g h c D → Deep (λ n d. At true room s g h d D) (p.semicolon_of_do_while i) (p.semicolon_of_do_while j) c
  unfolding p.semicolon_of_do_while
  do_while_end i j e c a = next do-while-end _ _ _ _ a (λ t d k b. took _ b)
      (subst (λ v. Deep (λ n d. At true room s g h d D) (choose i.inserting inserts_anywhere refused) (choose v inserts_anywhere refused) c) (sym e) (either i.inserting _ _ _ _ c (looks _ _ _ _ _ c (took _ a) (refused-holds c)) (refused-holds c)))

is-known : {A : Type 0} (o : Option A) → is_some o ≡ true → (x : A) × (o ≡ Some x)
is-known (Some x) e = (x, refl)
is-known None e = absurd (false≢true e)

stretch-known : (t : Filled) → is_some (stretch_at true false t) ≡ true → (x : Stretch) × (stretch_at true false t ≡ Some x)
stretch-known t e = is-known (stretch_at true false t) e

pub in-name_target : (n : Identifier) (at : ℕ) → in_pattern (name_target n) at ≡ 0
in-name_target n at = in-target (expr.Name n.span n.name) at ∙ in-name n.span n.name at

in-key_of : (span : Span) (k : KeyToken) (at : ℕ) → in_key (t6.key_of span k) at ≡ 0
in-key_of span (WordToken name) at = in-word_key span name at
in-key_of span (TextToken units) at = in-text_key span units at
in-key_of span (IntegerToken value) at = in-integer_key span value at

in-bound_rest : (span : Span) (n : Identifier) (at : ℕ) → in_array_part (RestPart span (name_target n)) at ≡ 0
in-bound_rest span n at = in-rest_part span (name_target n) at ∙ in-name_target n at

in-named : (span : Span) (n : Identifier) (o : Option Expression) (at : ℕ) → in_object_part (NamedPart (roll-Part (record { span = span; pattern = name_target n; default = o }))) at ≡ in_some with_expression o at
in-named span n o at = omega (arith, in-named_part (roll-Part (record { span = span; pattern = name_target n; default = o })) at, in-part span (name_target n) o at, in-name_target n at)

in-method_of : (span from : Span) (kind : MethodKind) (k : Key) (es : List Parameter) (body : List Statement) (at : ℕ) → in_method (method_of span kind k from es body) at ≡ in_key k at + sum_of in_parameter es at + sum_of in_statement body at
in-method_of span from kind k es body at =
    omega (arith, in-method span kind k (roll-Function (record { span = from; is_generator = is_generator_method kind; name = None; parameters = es; body = body })) at, in-function from (is_generator_method kind) None es body at)

module _ {all : List Filled} (i j : Inner) (room : ℕ) (h : Deeper all i j room) where
  pub key : (f : Flags) (s : Spot all) → Ready room 0 s → Deep (λ k c. At true room s 0 0 c (in_key k)) (t6.key i f) (t6.key j f) s
  unfolding t6.key t6.computed_key
  key f s r = let a = begin s r in next key-token _ _ _ _ a (λ k c t b. took _ (finish b (in-key_of _ k) (λ at. omega arith)))
      (group i j marks.LeftBracket _ _ _ _ h.opens (refl, refl, refl) a (λ c b. bind _ _ (h.assignment (with_in f) c (ready b)) λ x d o. bind _ _ (close right-bracket (and b o)) λ t e m. took _ (finish m (in-computed_key _ _) (λ at. omega arith))) (no-number-holds s))

  rest_part : (at : ℕ) (s : Spot all) → Ready room 1 s → Deep (λ es c. At true room s 1 0 c (sum_of in_array_part es)) (t6.rest_part at) (t6.rest_part at) s
  unfolding t6.rest_part
  rest_part at s r = bind _ _ (identifier s (begin s r)) λ n c a. bind _ _ (close right-bracket a) λ t d b. took _ (first in_array_part [] b (in-bound_rest _ n) (λ k. omega arith))

  array_parts : (f : Flags) {n m : ℕ} (w : Both n m) (s : Spot all) → Ready room 1 s → Deep (λ es c. At true room s 1 0 c (sum_of in_array_part es)) (t6.array_parts i f n) (t6.array_parts j f m) s
  unfolding t6.array_parts
  array_parts f over s r = fault
  array_parts f (turn {n = n} {m = m} w) s r = let a = begin s r in ends right-bracket _ _ _ _ a (λ t c b. took _ (recount b (λ at. omega arith)))
      (next comma _ _ _ _ a (λ t c k b. bind _ _ (array_parts f w c (ready b)) λ x d m. took _ (first in_array_part x (and b m) in-skipped_part (λ at. omega arith)))
      (next ellipsis _ _ _ _ a (λ t c k b. weaken (rest_part _ c (ready b)) λ x d m. recount (and b m) (λ at. omega arith))
      (bind _ _ (h.part f s r) λ q c b. next comma _ _ _ _ b (λ t d k m. bind _ _ (array_parts f w d (ready m)) λ x e o. took _ (first in_array_part x (and m o) (in-single_part _) (λ at. omega arith)))
      (bind _ _ (close right-bracket b) λ t d m. took _ (first in_array_part [] m (in-single_part _) (λ at. omega arith))))))

  object_parts : (f : Flags) {n m : ℕ} (w : Both n m) (s : Spot all) → Ready room 1 s → Deep (λ es c. At true room s 1 0 c (sum_of in_object_part es)) (t6.object_parts i f n) (t6.object_parts j f m) s
  unfolding t6.object_parts
  object_parts f over s r = fault
  object_parts f (turn {n = n} {m = m} w) s r = ends right-brace _ _ _ _ (begin s r) (λ t c b. took _ (recount b (λ at. omega arith)))
      (bind _ _ (h.object_part f s r) λ q c b. next comma _ _ _ _ b (λ t d k m. bind _ _ (object_parts f w d (ready m)) λ x e o. took _ (recount (and m o) (λ at. omega arith))) (bind _ _ (close right-brace b) λ t d m. took _ (recount m (λ at. omega arith))))

  binding_pattern : (f : Flags) (at : ℕ) (s : Spot all) → Ready room 0 s → Deep (λ x c. At true room s 0 0 c (in_pattern x)) (t6.binding_pattern i f at) (t6.binding_pattern j f at) s
  unfolding t6.binding_pattern
  binding_pattern f at s r = let a = begin s r in
      group i j marks.LeftBracket _ _ _ _ h.opens (refl, refl, refl) a (λ c b. bind _ _ (array_parts f h.turns c (ready b)) λ x d m. took _ (finish (and b m) (in-array_pattern _ _) (λ k. omega arith)))
      (group i j marks.LeftBrace _ _ _ _ h.opens (refl, refl, refl) a (λ c b. bind _ _ (object_parts f h.turns c (ready b)) λ x d m. took _ (finish (and b m) (in-object_pattern _ _) (λ k. omega arith))) (refused-holds s))

  pub binding : (f : Flags) (s : Spot all) → Ready room 0 s → Deep (λ x c. At true room s 0 0 c (in_pattern x)) (t6.binding i f) (t6.binding j f) s
  unfolding t6.binding
  binding f s r = next free-name _ _ _ _ (begin s r) (λ n c k a. took _ (finish a (in-name_target _) (λ at. omega arith))) (binding_pattern f _ s r)

  pub initialized : (f g : Flags) (s : Spot all) → Ready room 0 s → Deep (λ x c. At true room s 0 0 c (in_part x)) (t6.initialized i f g) (t6.initialized j f g) s
  unfolding t6.initialized
  initialized f g s r = bind _ _ (binding f s r) λ y c a. next equals _ _ _ _ a (λ t d k b. bind _ _ (h.assignment g d (ready b)) λ x e m. took _ (finish (and b m) (in-part _ _ _) (λ at. omega arith))) (took _ (finish a (in-part _ _ _) (λ at. omega arith)))

  pub one_part : (f : Flags) (s : Spot all) → Ready room 0 s → Deep (λ x c. At true room s 0 0 c (in_part x)) (t6.one_part i f) (t6.one_part j f) s
  unfolding t6.one_part
  one_part f s r = initialized f (with_in f) s r

  keyed_part : {s : Spot all} (f : Flags) (at : ℕ) (k : Key) (c : Spot all) → At true room s 0 0 c (in_key k) → Deep (λ x d. At true room s 0 0 d (in_object_part x)) (t6.keyed_part i f at k) (t6.keyed_part j f at k) c
  unfolding t6.keyed_part
  keyed_part f at k c a = bind _ _ (one_part f c (ready a)) λ q d b. took _ (finish (and a b) (in-keyed_part _ _ _) (λ at. omega arith))

  named_part : {s : Spot all} (f : Flags) (at : ℕ) (n : Identifier) (c : Spot all) → At true room s 0 0 c no_spans → Deep (λ x d. At true room s 0 0 d (in_object_part x)) (t6.named_part i f at n) (t6.named_part j f at n) c
  unfolding t6.named_part
  named_part f at n c a = next equals _ _ _ _ a (λ t d k b. bind _ _ (h.assignment (with_in f) d (ready b)) λ x e m. took _ (finish (and b m) (in-named _ n (Some x.value)) (λ at. omega arith)))
      (took _ (finish a (in-named _ n None) (λ at. omega arith)))

  pub object_part : (f : Flags) (s : Spot all) → Ready room 0 s → Deep (λ x c. At true room s 0 0 c (in_object_part x)) (t6.one_object_part i f) (t6.one_object_part j f) s
  unfolding t6.one_object_part
  object_part f s r = next free-name _ _ _ _ (begin s r) (λ name c k a. next colon _ _ _ _ a (λ t d k b. keyed_part f _ _ d (finish b (in-word_key _ _) (λ at. omega arith))) (named_part f _ _ c a))
      (bind _ _ (key f s r) λ k c a. bind _ _ (take colon a) λ t d b. keyed_part f _ k d b)

  -- ## Parameters and functions

  rest_parameter : (at : ℕ) (s : Spot all) → Ready room 1 s → Deep (λ x c. At true room s 1 0 c (in_parameter x)) (t6.rest_parameter at) (t6.rest_parameter at) s
  unfolding t6.rest_parameter
  rest_parameter at s r = bind _ _ (identifier s (begin s r)) λ n c a. bind _ _ (close right-parenthesis a) λ t d b. took _ (finish b (λ k. in-rest_parameter _ _ k ∙ in-name_target n k) (λ k. omega arith))

  more_parameters : (f : Flags) {n m : ℕ} (w : Both n m) (s : Spot all) → Ready room 1 s → Deep (λ es c. At true room s 1 0 c (sum_of in_parameter es)) (t6.more_parameters i f n) (t6.more_parameters j f m) s
  unfolding t6.more_parameters
  more_parameters f over s r = fault
  more_parameters f (turn {n = n} {m = m} w) s r = next ellipsis _ _ _ _ (begin s r) (λ t c k a. bind _ _ (rest_parameter _ c (ready a)) λ x d b. took _ (recount (and a b) (λ at. omega arith)))
      (bind _ _ (h.part f s r) λ q c a. next comma _ _ _ _ a (λ t d k b. bind _ _ (more_parameters f w d (ready b)) λ x e m. took _ (first in_parameter x (and b m) (in-single_parameter _) (λ at. omega arith)))
      (bind _ _ (close right-parenthesis a) λ t d b. took _ (first in_parameter [] b (in-single_parameter _) (λ at. omega arith))))

  parameters : (f : Flags) (s : Spot all) → Ready room 1 s → Deep (λ es c. At true room s 1 0 c (sum_of in_parameter es)) (t6.parameters i f) (t6.parameters j f) s
  unfolding t6.parameters
  parameters f s r = ends right-parenthesis _ _ _ _ (begin s r) (λ t c a. took _ (recount a (λ at. omega arith))) (more_parameters f h.turns s r)

  statements : (f : Flags) {n m : ℕ} (w : Both n m) (s : Spot all) → Ready room 1 s → Deep (λ xs c. At true room s 1 0 c (sum_of in_statement xs)) (t6.statements i f n) (t6.statements j f m) s
  unfolding t6.statements
  statements f over s r = fault
  statements f (turn {n = n} {m = m} w) s r = ends right-brace _ _ _ _ (begin s r) (λ t c a. took _ (recount a (λ at. omega arith))) (bind _ _ (h.statement f Listed (λ e. omega arith) s r) λ x c a. bind _ _ (statements f w c (ready a)) λ y d b. took _ (recount (and a b) (λ at. omega arith)))

  pub block : (f : Flags) (s : Spot all) → Ready room 0 s → Deep (λ x c. At true room s 0 0 c (in_block x) × Within s c (spans_block x).span) (t6.block i f) (t6.block j f) s
  unfolding t6.block
  block f s r = group i j marks.LeftBrace _ _ _ _ h.opens (refl, refl, refl) (begin s r) (λ c a. bind _ _ (statements f h.turns c (ready a)) λ x d b. took _ (finish (and a b) (in-block _ _) (λ at. omega arith), within (span-block _ _))) (refused-holds s)

  function_body : {s : Spot all} {D : ℕ → ℕ} (generator : Bool) (c : Spot all) → At true room s 0 0 c D → Deep (λ xs d. At true room s 0 0 d (λ at. D at + sum_of in_statement xs at)) (t6.function_body i generator) (t6.function_body j generator) c
  unfolding t6.function_body
  function_body generator c a = group i j marks.LeftBrace _ _ _ _ h.opens (refl, refl, refl) a (λ d b. weaken (statements (of_function generator) h.turns d (ready b)) (λ xs e m. and b m)) (refused-holds c)

  pub signature : {s : Spot all} {D : ℕ → ℕ} (generator : Bool) (c : Spot all) → At true room s 0 0 c D → Deep (λ x d. At true room s 0 0 d (λ at. D at + sum_of in_parameter x.parameters at + sum_of in_statement x.body at)) (t6.signature i generator) (t6.signature j generator) c
  unfolding t6.signature
  signature generator c a = bind _ _ (group i j marks.LeftParenthesis _ _ _ _ h.opens (refl, refl, refl) a (λ d b. weaken (parameters (of_function generator) d (ready b)) (λ es e m. and b m)) (refused-holds c)) λ es d b. bind _ _ (function_body generator d b) λ xs e m. took _ m

  rest_of_function : {s : Spot all} (generator : Bool) (name : Option Identifier) (c : Spot all) → At true room s 0 0 c no_spans → Deep (λ x d. At true room s 0 0 d (in_function x) × Within s d (spans_function x).span) (t6.rest_of_function i (begin_of s.input.tokens) generator name) (t6.rest_of_function j (begin_of s.input.tokens) generator name) c
  unfolding t6.rest_of_function
  rest_of_function generator name c a = bind _ _ (signature generator c a) λ x d b. took _ (finish b (in-function _ _ _ _ _) (λ at. omega arith), within (span-function _ _ _ _ _))

  pub named_function : {s : Spot all} (generator : Bool) (c : Spot all) → At true room s 0 0 c no_spans → Deep (λ x d. At true room s 0 0 d (in_function x) × Within s d (spans_function x).span) (t6.named_function i (begin_of s.input.tokens) generator) (t6.named_function j (begin_of s.input.tokens) generator) c
  unfolding t6.named_function
  named_function generator c a = bind _ _ (identifier c a) λ n d b. rest_of_function generator (Some n) d b

  pub function : {s : Spot all} (lacks : Bool) (c : Spot all) → At true room s 0 0 c no_spans → Deep (λ x d. At true room s 0 0 d (in_function x) × Within s d (spans_function x).span) (t6.function_after_word i lacks (begin_of s.input.tokens)) (t6.function_after_word j lacks (begin_of s.input.tokens)) c
  unfolding t6.function_after_word
  function lacks c a = bind _ _ (star c a) λ generator d b. either lacks _ _ _ _ d (looks _ _ _ _ _ d (rest_of_function generator None d b) (named_function generator d b)) (named_function generator d b)

  -- ## Methods and classes

  pub method_after_key : {s : Spot all} (kind : MethodKind) (generator : Bool) (at : ℕ) (k : Key) (c : Spot all) → At true room s 0 0 c (in_key k) → Deep (λ x d. At true room s 0 0 d (in_method x)) (t6.method_after_key i kind generator at k) (t6.method_after_key j kind generator at k) c
  unfolding t6.method_after_key
  method_after_key kind generator at k c a = bind _ _ (signature generator c a) λ x d b. took _ (finish b (in-method_of _ _ _ _ _ _) (λ at. omega arith))

  accessor_parameters : (setter : Bool) (s : Spot all) → Ready room 1 s → Deep (λ es c. At true room s 1 0 c (sum_of in_parameter es)) (t6.accessor_parameters i setter) (t6.accessor_parameters j setter) s
  unfolding t6.accessor_parameters t6.one_parameter t6.no_parameter
  accessor_parameters true s r = bind _ _ (h.part (of_function false) s r) λ q c a. bind _ _ (close right-parenthesis a) λ t d b. took _ (first in_parameter [] b (in-single_parameter _) (λ at. omega arith))
  accessor_parameters false s r = bind _ _ (close right-parenthesis (begin s r)) λ t c a. took _ (recount a (λ at. omega arith))

  pub accessor : {s : Spot all} (f : Flags) (at : ℕ) (setter : Bool) (c : Spot all) → At true room s 0 0 c no_spans → Deep (λ x d. At true room s 0 0 d (in_method x)) (t6.accessor i f at setter) (t6.accessor j f at setter) c
  unfolding t6.accessor
  accessor f at setter c a = bind _ _ (key f c (ready a)) λ k d b. bind _ _ (group i j marks.LeftParenthesis _ _ _ _ h.opens (refl, refl, refl) (and a b) (λ e m. weaken (accessor_parameters setter e (ready m)) (λ es o n. and m n)) (refused-holds d)) λ es e m. bind _ _ (function_body false e m) λ xs o n. took _ (finish n (in-method_of _ _ _ _ _ _) (λ at. omega arith))

  pub generator_method : {s : Spot all} (f : Flags) (at : ℕ) (c : Spot all) → At true room s 0 0 c no_spans → Deep (λ x d. At true room s 0 0 d (in_method x)) (t6.generator_method i f at) (t6.generator_method j f at) c
  unfolding t6.generator_method
  generator_method f at c a = bind _ _ (key f c (ready a)) λ k d b. method_after_key _ true at k d (recount (and a b) (λ at. omega arith))

  accessor_word : {s : Spot all} (f : Flags) (at : ℕ) (setter : Bool) (c : Spot all) → At true room s 0 0 c no_spans → Deep (λ x d. At true room s 0 0 d (in_method x)) (t6.method_after_accessor_word i f at setter) (t6.method_after_accessor_word j f at setter) c
  unfolding t6.method_after_accessor_word
  accessor_word f at setter c a = looks _ _ _ _ _ c (method_after_key _ false at _ c (finish a (in-word_key _ _) (λ at. omega arith))) (accessor f at setter c a)

  method : {s : Spot all} {b : Bool} (f : Flags) (c : Spot all) → At b room s 0 0 c no_spans → Deep (λ x d. At true room s 0 0 d (in_method x)) (t6.method i f) (t6.method j f) c
  unfolding t6.method
  method f c a = next a-star _ _ _ _ a (λ t d k b. generator_method f _ d b) (next accessor-word _ _ _ _ a (λ setter d k b. accessor_word f _ setter d b) (bind _ _ (key f c (ready a)) λ k d b. method_after_key _ false _ k d (recount (and a b) (λ at. omega arith))))

  pub member : (f : Flags) (s : Spot all) → Ready room 0 s → Deep (λ x c. At true room s 0 0 c (in_class_member x)) (t6.one_member i f) (t6.one_member j f) s
  unfolding t6.one_member t6.member_after_static
  member f s r = let a = begin s r in next (a-word (codes "static")) _ _ _ _ a (λ t c k b. looks _ _ _ _ _ c (bind _ _ (method_after_key _ false _ _ c (finish b (in-word_key _ _) (λ at. omega arith))) λ m d e. took _ (finish e (in-class_member _ _ _) (λ at. omega arith)))
      (bind _ _ (method f c b) λ m d e. took _ (finish e (in-class_member _ _ _) (λ at. omega arith)))) (bind _ _ (method f s a) λ m c b. took _ (finish b (in-class_member _ _ _) (λ at. omega arith)))

  members : (f : Flags) {n m : ℕ} (w : Both n m) (s : Spot all) → Ready room 1 s → Deep (λ xs c. At true room s 1 0 c (sum_of in_class_member xs)) (t6.members i f n) (t6.members j f m) s
  unfolding t6.members
  members f over s r = fault
  members f (turn {n = n} {m = m} w) s r = let a = begin s r in ends right-brace _ _ _ _ a (λ t c b. took _ (recount b (λ at. omega arith))) (next semicolon-mark _ _ _ _ a (λ t c k b. weaken (members f w c (ready b)) λ xs d m. recount (and b m) (λ at. omega arith))
      (bind _ _ (h.member f s r) λ m c b. bind _ _ (members f w c (ready b)) λ ms d e. took _ (recount (and b e) (λ at. omega arith))))

  heritage : {s : Spot all} (f : Flags) (c : Spot all) → At true room s 0 0 c no_spans → Deep (λ x d. At true room s 0 0 d (in_some with_expression x)) (t6.heritage i f) (t6.heritage j f) c
  unfolding t6.heritage
  heritage f c a = next (a-word (codes "extends")) _ _ _ _ a (λ t d k b. bind _ _ (h.heritage f d (ready b)) λ x e m. took _ (recount (and b m) (λ at. omega arith))) (took _ (recount a (λ at. omega arith)))

  rest_of_class : {s : Spot all} (f : Flags) (name : Option Identifier) (c : Spot all) → At true room s 0 0 c no_spans → Deep (λ x d. At true room s 0 0 d (in_class x) × Within s d (spans_class x).span) (t6.rest_of_class i f (begin_of s.input.tokens) name) (t6.rest_of_class j f (begin_of s.input.tokens) name) c
  unfolding t6.rest_of_class
  rest_of_class f name c a = bind _ _ (heritage f c a) λ x d b. bind _ _ (group i j marks.LeftBrace _ _ _ _ h.opens (refl, refl, refl) b (λ e m. weaken (members f h.turns e (ready m)) (λ xs o n. and m n)) (refused-holds d)) λ ms e m. took _ (finish m (in-class _ _ _ _) (λ at. omega arith), within (span-class _ _ _ _))

  named_class : {s : Spot all} (f : Flags) (c : Spot all) → At true room s 0 0 c no_spans → Deep (λ x d. At true room s 0 0 d (in_class x) × Within s d (spans_class x).span) (t6.named_class i f (begin_of s.input.tokens)) (t6.named_class j f (begin_of s.input.tokens)) c
  unfolding t6.named_class
  named_class f c a = bind _ _ (identifier c a) λ n d b. rest_of_class f (Some n) d b

  pub class : {s : Spot all} (f : Flags) (lacks : Bool) (c : Spot all) → At true room s 0 0 c no_spans → Deep (λ x d. At true room s 0 0 d (in_class x) × Within s d (spans_class x).span) (t6.class_after_word i f lacks (begin_of s.input.tokens)) (t6.class_after_word j f lacks (begin_of s.input.tokens)) c
  unfolding t6.class_after_word
  class f lacks c a = either lacks _ _ _ _ c (looks _ _ _ _ _ c (rest_of_class f None c a) (named_class f c a)) (named_class f c a)

  -- ## Templates

  template_parts : (f : Flags) {n m : ℕ} (w : Both n m) (s : Spot all) → Ready room 1 s → Deep (λ xs c. At true room s 1 0 c (sum_of in_template_part xs)) (t6.template_parts i f n) (t6.template_parts j f m) s
  unfolding t6.template_parts
  template_parts f over s r = fault
  template_parts f (turn {n = n} {m = m} w) s r = bind _ _ (h.sequence (with_in f) s r) λ x c a. ends template-tail _ _ _ _ a (λ t d b. took _ (first in_template_part [] b (in-template_part _ _) (λ at. omega arith)))
      (bind _ _ (take template-middle a) λ t d b. bind _ _ (template_parts f w d (ready b)) λ xs e m. took _ (first in_template_part xs (and b m) (in-template_part _ _) (λ at. omega arith)))

  parted : {s : Spot all} (f : Flags) (t : Stretch) (c : Spot all) → At true room s 0 1 c no_spans → Deep (λ x d. At true room s 0 0 d (in_template x) × Within s d (spans_template x).span) (t6.parted_template i f (begin_of s.input.tokens) t) (t6.parted_template j f (begin_of s.input.tokens) t) c
  unfolding t6.parted_template
  parted f t c a = bind _ _ (template_parts f h.turns c (ready a)) λ xs d b. took _ (finish (and a b) (in-template _ _ _) (λ at. omega arith), within (span-template _ _ _))

  pub on_template : {A : Type 0} {Q : A → Spot all → Type 0} (f : Flags) (p p' : Template → Parser A) (q q' : Parser A) (s : Spot all) → Ready room 0 s → ((x : Template) (c : Spot all) → At true room s 0 0 c (in_template x) × Within s c (spans_template x).span → Deep Q (p x) (p' x) c) → Deep Q q q' s
      → Deep Q (t6.on_template i f (begin_of s.input.tokens) p q) (t6.on_template j f (begin_of s.input.tokens) p' q') s
  on_template f p p' q q' s r k g = next whole-template _ _ _ _ (begin s r) (λ t c e a. k _ c (finish a (in-template _ _ _) (λ at. omega arith), within (span-template _ _ _)))
      (opening i j (stretch_at true false) (λ t. is_some (stretch_at true false t)) stretch-known _ _ _ _ h.opens template-head (begin s r) (λ t c a. bind _ _ (parted f t c a) λ m d b. k m d b) g)
