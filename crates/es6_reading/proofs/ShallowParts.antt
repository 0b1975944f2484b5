-- How many constructs are open at what is read as names, keys, patterns that bind, functions, methods, classes and templates.
use Rattle.std.proofs.Common.{◌≡◌, ◌∙◌, ℕ, zero, suc, ◌+◌, ◌≤◌, Bool, true, false, List, [], Option, Some, None, refl, arith}
use Rattle.std.specs.Prelude.{codes}
use Rattle.es_text.specs.declared.Span.{Span}
use Rattle.es6_lexer.specs.declared.token.Punctuator.TheVariants as marks
use Rattle.es6_ast.specs.declared.operators.MethodKind.{MethodKind}
use Rattle.es6_ast.specs.declared.tree.ArrayPart.TheVariants.{RestPart}
use Rattle.es6_ast.specs.declared.tree.Expression.{Expression}
use Rattle.es6_ast.specs.declared.tree.Function.{roll-Function}
use Rattle.es6_ast.specs.declared.tree.Identifier.{Identifier}
use Rattle.es6_ast.specs.declared.tree.Key.{Key}
use Rattle.es6_ast.specs.declared.tree.ObjectPart.TheVariants.{NamedPart}
use Rattle.es6_ast.specs.declared.tree.Parameter.{Parameter}
use Rattle.es6_ast.specs.declared.tree.Part.{roll-Part}
use Rattle.es6_ast.specs.declared.tree.Expression.TheVariants as expr
use Rattle.es6_ast.specs.declared.tree.Statement.{Statement}
use Rattle.es6_ast.specs.declared.tree.Stretch.{Stretch}
use Rattle.es6_ast.specs.declared.tree.Template.{Template}
use Rattle.es6_ast.specs.declared.settings.Flags.{Flags}
use Rattle.es6_ast.specs.declared.settings.Stand.{Stand}
use Rattle.es6_ast.specs.declared.settings.Stand.TheVariants.{Listed}
use Rattle.es6_ast.specs.Tokens.{begin_of}
use Rattle.es6_ast.specs.Grammar.{with_in, of_function, name_target, method_of, is_generator_method}
use Rattle.es6_reading.specs.Parser as p
use Rattle.es6_reading.specs.Parser.{Input, Outcome, Parser, Reading, Inner, semicolon, is_insertable}
use Rattle.es6_reading.specs.Words.{KeyToken, WordToken, TextToken, IntegerToken}
use Rattle.es6_reading.specs.Parts as t6
use Rattle.es6_reading.proofs.Posts.{Holds, took, fault, bind, weaken, on-holds, choose-holds, refused-holds, no-number-holds}
use Rattle.es6_reading.proofs.SpanCounts.{sum_of, in_some, spans_block, spans_class, spans_function, spans_template, in_array_part, in_block, in_class, in_class_member, in_expression, in_function, in_key, in_method, in_object_part, in_parameter, in_part, in_pattern, in_property, in_statement, in_template, in_template_part, with_block, with_expression, with_statement}
use Rattle.es6_reading.proofs.SpanSums.{in-skipped_part, in-single_part, in-rest_part, in-name, in-word_key, in-text_key, in-integer_key, in-computed_key, in-named_part, in-keyed_part, in-single_parameter, in-rest_parameter, in-target, in-array_pattern, in-object_pattern, in-class, span-class, in-class_member, in-function, span-function, in-method, in-part, in-template, span-template, in-template_part}
use Rattle.es6_reading.proofs.SpanSumsOfStatements.{in-block, span-block}
use Rattle.es6_reading.proofs.Shallow.{Sorted, At, Ready, ready, begin, and, less, finish, first, Within, within, Opened, entered, next, ends, take, close, either, looks, group}
use Rattle.es6_reading.proofs.ShallowTokens.{a-word, comma, colon, semicolon-mark, ellipsis, equals, a-star, right-parenthesis, right-bracket, right-brace, any-name, free-name, key-token, accessor-word, whole-template, template-head, template-middle, template-tail, statement-end, do-while-end}

-- what is read by the readers one construct deeper
pub record Shallow (i : Inner) (room : ℕ) : Type 0 where
  pub opens : i.may_open ≡ true → 1 ≤ room
  pub sequence : (f : Flags) (s : Input) → Sorted s.last s.tokens → Holds (λ x c. At room s 1 1 c (in_expression x.value)) (i.sequence f s)
  pub assignment : (f : Flags) (s : Input) → Sorted s.last s.tokens → Holds (λ x c. Opened room s c (in_expression x.value) (with_expression x.value)) (i.assignment f s)
  pub power : (f : Flags) (s : Input) → Sorted s.last s.tokens → Holds (λ x c. Opened room s c (in_expression x.value) (with_expression x.value)) (i.power f s)
  pub unary : (f : Flags) (s : Input) → Sorted s.last s.tokens → Holds (λ x c. Opened room s c (in_expression x.value) (with_expression x.value)) (i.unary f s)
  pub callee : (f : Flags) (s : Input) → Sorted s.last s.tokens → Holds (λ x c. Opened room s c (in_expression x.value) (with_expression x.value)) (i.callee f s)
  pub heritage : (f : Flags) (s : Input) → Sorted s.last s.tokens → Holds (λ x c. Opened room s c (in_expression x.value) (with_expression x.value)) (i.heritage f s)
  pub block : (f : Flags) (s : Input) → Sorted s.last s.tokens → Holds (λ x c. Opened room s c (in_block x) (with_block x)) (i.block f s)
  pub property : (f : Flags) (s : Input) → Sorted s.last s.tokens → Holds (λ x c. At room s 1 1 c (in_property x)) (i.property f s)
  pub target : (f : Flags) (s : Input) → Sorted s.last s.tokens → Holds (λ x c. At room s 1 1 c (in_pattern x)) (i.target f s)
  pub part : (f : Flags) (s : Input) → Sorted s.last s.tokens → Holds (λ x c. At room s 1 1 c (in_part x)) (i.part f s)
  pub object_part : (f : Flags) (s : Input) → Sorted s.last s.tokens → Holds (λ x c. At room s 1 1 c (in_object_part x)) (i.object_part f s)
  pub variable : (f : Flags) (s : Input) → Sorted s.last s.tokens → Holds (λ x c. At room s 1 1 c (in_part x)) (i.variable f s)
  pub member : (f : Flags) (s : Input) → Sorted s.last s.tokens → Holds (λ x c. At room s 1 1 c (in_class_member x)) (i.member f s)
  pub statement : (f : Flags) (stand : Stand) (s : Input) → Sorted s.last s.tokens → Holds (λ x c. Opened room s c (in_statement x) (with_statement x)) (i.statement f stand s)

-- ## Names

module _ {room g h : ℕ} {s : Input} {D : ℕ → ℕ} where
  pub identifier : (c : Input) → At room s g h c D → Holds (λ n d. At room s g h d D) (t6.identifier c)
  unfolding t6.identifier
  identifier c a = bind (take free-name a) λ x d b. took b

  pub name : (c : Input) → At room s g h c D → Holds (λ n d. At room s g h d D) (t6.name_of_any_kind c)
  unfolding t6.name_of_any_kind
  name c a = bind (take any-name a) λ x d b. took b

  pub star : (c : Input) → At room s g h c D → Holds (λ n d. At room s g h d D) (t6.star c)
  unfolding t6.star
  star c a = next a-star _ a (λ t d k b. took b) (took a)

  pub semicolon_ : (i : Inner) (c : Input) → At room s g h c D → Holds (λ n d. At room s g h d D) (semicolon i c)
  unfolding semicolon
  semicolon_ i c a = next statement-end _ a (λ t d k b. took b) (either i.inserting _ _ c (either (is_insertable c.tokens) _ _ c (took a) (refused-holds c)) (refused-holds c))

  pub do_while_end : (i : Inner) (c : Input) → At room s g h c D → Holds (λ n d. At room s g h d D) (p.semicolon_of_do_while i c)
  unfolding p.semicolon_of_do_while
  do_while_end i c a = next do-while-end _ a (λ t d k b. took b) (either i.inserting _ _ c (looks _ _ _ c (took a) (refused-holds c)) (refused-holds c))

pub in-name_target : (n : Identifier) (at : ℕ) → in_pattern (name_target n) at ≡ 0
in-name_target n at = in-target (expr.Name n.span n.name) at ∙ in-name n.span n.name at

in-key_of : (span : Span) (k : KeyToken) (at : ℕ) → in_key (t6.key_of span k) at ≡ 0
in-key_of span (WordToken name) at = in-word_key span name at
in-key_of span (TextToken units) at = in-text_key span units at
in-key_of span (IntegerToken value) at = in-integer_key span value at

in-bound_rest : (span : Span) (n : Identifier) (at : ℕ) → in_array_part (RestPart span (name_target n)) at ≡ 0
in-bound_rest span n at = in-rest_part span (name_target n) at ∙ in-name_target n at

in-named : (span : Span) (n : Identifier) (o : Option Expression) (at : ℕ) → in_object_part (NamedPart (roll-Part (record { span = span; pattern = name_target n; default = o }))) at ≡ in_some with_expression o at
in-named span n o at = omega (arith, in-named_part (roll-Part (record { span = span; pattern = name_target n; default = o })) at, in-part span (name_target n) o at, in-name_target n at)

in-method_of : (span from : Span) (kind : MethodKind) (k : Key) (es : List Parameter) (body : List Statement) (at : ℕ) → in_method (method_of span kind k from es body) at ≡ in_key k at + sum_of in_parameter es at + sum_of in_statement body at
in-method_of span from kind k es body at =
    omega (arith, in-method span kind k (roll-Function (record { span = from; is_generator = is_generator_method kind; name = None; parameters = es; body = body })) at, in-function from (is_generator_method kind) None es body at)

module _ (i : Inner) (room : ℕ) (h : Shallow i room) where
  pub key : (f : Flags) (s : Input) → Ready room 0 s → Holds (λ k c. At room s 0 0 c (in_key k)) (t6.key i f s)
  unfolding t6.key t6.computed_key
  key f s r = let a = begin s r in next key-token _ a (λ k c t b. took (finish b (in-key_of _ k) (λ at. omega arith)))
      (group i marks.LeftBracket _ h.opens (refl, refl, refl) a (λ c b. bind (h.assignment (with_in f) c b.sorted) λ x d o. bind (close right-bracket (and b o.grouped)) λ t e m. took (finish m (in-computed_key _ _) (λ at. omega arith))) (no-number-holds s))

  rest_part : (at : ℕ) (s : Input) → Ready room 1 s → Holds (λ es c. At room s 1 0 c (sum_of in_array_part es)) (t6.rest_part at s)
  unfolding t6.rest_part
  rest_part at s r = bind (identifier s (begin s r)) λ n c a. bind (close right-bracket a) λ t d b. took (first in_array_part [] b (in-bound_rest _ n) (λ k. omega arith))

  array_parts : (f : Flags) (n : ℕ) (s : Input) → Ready room 1 s → Holds (λ es c. At room s 1 0 c (sum_of in_array_part es)) (t6.array_parts i f n s)
  unfolding t6.array_parts
  array_parts f zero s r = fault
  array_parts f (suc n) s r = let a = begin s r in ends right-bracket _ a (λ t c b. took (less b (λ at. omega arith)))
      (next comma _ a (λ t c k b. bind (array_parts f n c (ready b)) λ x d m. took (first in_array_part x (and b m) in-skipped_part (λ at. omega arith)))
      (next ellipsis _ a (λ t c k b. weaken (rest_part _ c (ready b)) λ x d m. less (and b m) (λ at. omega arith))
      (bind (h.part f s r.sorted) λ q c b. next comma _ b (λ t d k m. bind (array_parts f n d (ready m)) λ x e o. took (first in_array_part x (and m o) (in-single_part _) (λ at. omega arith)))
      (bind (close right-bracket b) λ t d m. took (first in_array_part [] m (in-single_part _) (λ at. omega arith))))))

  object_parts : (f : Flags) (n : ℕ) (s : Input) → Ready room 1 s → Holds (λ es c. At room s 1 0 c (sum_of in_object_part es)) (t6.object_parts i f n s)
  unfolding t6.object_parts
  object_parts f zero s r = fault
  object_parts f (suc n) s r = ends right-brace _ (begin s r) (λ t c b. took (less b (λ at. omega arith)))
      (bind (h.object_part f s r.sorted) λ q c b. next comma _ b (λ t d k m. bind (object_parts f n d (ready m)) λ x e o. took (less (and m o) (λ at. omega arith))) (bind (close right-brace b) λ t d m. took (less m (λ at. omega arith))))

  binding_pattern : (f : Flags) (at : ℕ) (s : Input) → Ready room 0 s → Holds (λ x c. At room s 0 0 c (in_pattern x)) (t6.binding_pattern i f at s)
  unfolding t6.binding_pattern
  binding_pattern f at s r = let a = begin s r in
      group i marks.LeftBracket _ h.opens (refl, refl, refl) a (λ c b. bind (array_parts f i.fuel c (ready b)) λ x d m. took (finish (and b m) (in-array_pattern _ _) (λ k. omega arith)))
      (group i marks.LeftBrace _ h.opens (refl, refl, refl) a (λ c b. bind (object_parts f i.fuel c (ready b)) λ x d m. took (finish (and b m) (in-object_pattern _ _) (λ k. omega arith))) (refused-holds s))

  pub binding : (f : Flags) (s : Input) → Ready room 0 s → Holds (λ x c. At room s 0 0 c (in_pattern x)) (t6.binding i f s)
  unfolding t6.binding
  binding f s r = next free-name _ (begin s r) (λ n c k a. took (finish a (in-name_target _) (λ at. omega arith))) (binding_pattern f _ s r)

  pub initialized : (f g : Flags) (s : Input) → Ready room 0 s → Holds (λ x c. At room s 0 0 c (in_part x)) (t6.initialized i f g s)
  unfolding t6.initialized
  initialized f g s r = bind (binding f s r) λ y c a. next equals _ a (λ t d k b. bind (h.assignment g d b.sorted) λ x e m. took (finish (and b m.counted) (in-part _ _ _) (λ at. omega arith))) (took (finish a (in-part _ _ _) (λ at. omega arith)))

  pub one_part : (f : Flags) (s : Input) → Ready room 0 s → Holds (λ x c. At room s 0 0 c (in_part x)) (t6.one_part i f s)
  unfolding t6.one_part
  one_part f s r = initialized f (with_in f) s r

  keyed_part : {s : Input} (f : Flags) (at : ℕ) (k : Key) (c : Input) → At room s 0 0 c (in_key k) → Holds (λ x d. At room s 0 0 d (in_object_part x)) (t6.keyed_part i f at k c)
  unfolding t6.keyed_part
  keyed_part f at k c a = bind (one_part f c (ready a)) λ q d b. took (finish (and a b) (in-keyed_part _ _ _) (λ at. omega arith))

  named_part : {s : Input} {D : ℕ → ℕ} (f : Flags) (at : ℕ) (n : Identifier) (c : Input) → At room s 0 0 c D → Holds (λ x d. At room s 0 0 d (in_object_part x)) (t6.named_part i f at n c)
  unfolding t6.named_part
  named_part f at n c a = next equals _ a (λ t d k b. bind (h.assignment (with_in f) d b.sorted) λ x e m. took (finish (and b m.counted) (in-named _ n (Some x.value)) (λ at. omega arith)))
      (took (finish a (in-named _ n None) (λ at. omega arith)))

  pub object_part : (f : Flags) (s : Input) → Ready room 0 s → Holds (λ x c. At room s 0 0 c (in_object_part x)) (t6.one_object_part i f s)
  unfolding t6.one_object_part
  object_part f s r = next free-name _ (begin s r) (λ name c k a. next colon _ a (λ t d k b. keyed_part f _ _ d (finish b (in-word_key _ _) (λ at. omega arith))) (named_part f _ _ c a))
      (bind (key f s r) λ k c a. bind (take colon a) λ t d b. keyed_part f _ k d b)

  -- ## Parameters and functions

  rest_parameter : (at : ℕ) (s : Input) → Ready room 1 s → Holds (λ x c. At room s 1 0 c (in_parameter x)) (t6.rest_parameter at s)
  unfolding t6.rest_parameter
  rest_parameter at s r = bind (identifier s (begin s r)) λ n c a. bind (close right-parenthesis a) λ t d b. took (finish b (λ k. in-rest_parameter _ _ k ∙ in-name_target n k) (λ k. omega arith))

  more_parameters : (f : Flags) (n : ℕ) (s : Input) → Ready room 1 s → Holds (λ es c. At room s 1 0 c (sum_of in_parameter es)) (t6.more_parameters i f n s)
  unfolding t6.more_parameters
  more_parameters f zero s r = fault
  more_parameters f (suc n) s r = next ellipsis _ (begin s r) (λ t c k a. bind (rest_parameter _ c (ready a)) λ x d b. took (less (and a b) (λ at. omega arith)))
      (bind (h.part f s r.sorted) λ q c a. next comma _ a (λ t d k b. bind (more_parameters f n d (ready b)) λ x e m. took (first in_parameter x (and b m) (in-single_parameter _) (λ at. omega arith)))
      (bind (close right-parenthesis a) λ t d b. took (first in_parameter [] b (in-single_parameter _) (λ at. omega arith))))

  parameters : (f : Flags) (s : Input) → Ready room 1 s → Holds (λ es c. At room s 1 0 c (sum_of in_parameter es)) (t6.parameters i f s)
  unfolding t6.parameters
  parameters f s r = ends right-parenthesis _ (begin s r) (λ t c a. took (less a (λ at. omega arith))) (more_parameters f i.fuel s r)

  statements : (f : Flags) (n : ℕ) (s : Input) → Ready room 1 s → Holds (λ xs c. At room s 1 0 c (sum_of in_statement xs)) (t6.statements i f n s)
  unfolding t6.statements
  statements f zero s r = fault
  statements f (suc n) s r = ends right-brace _ (begin s r) (λ t c a. took (less a (λ at. omega arith))) (bind (h.statement f Listed s r.sorted) λ x c a. bind (statements f n c (ready a.grouped)) λ y d b. took (less (and a.grouped b) (λ at. omega arith)))

  pub block : (f : Flags) (s : Input) → Ready room 0 s → Holds (λ x c. At room s 0 0 c (in_block x) × Within s c (spans_block x).span) (t6.block i f s)
  unfolding t6.block
  block f s r = group i marks.LeftBrace _ h.opens (refl, refl, refl) (begin s r) (λ c a. bind (statements f i.fuel c (ready a)) λ x d b. took (finish (and a b) (in-block _ _) (λ at. omega arith), within (span-block _ _))) (refused-holds s)

  function_body : {s : Input} {D : ℕ → ℕ} (generator : Bool) (c : Input) → At room s 0 0 c D → Holds (λ xs d. At room s 0 0 d (λ at. D at + sum_of in_statement xs at)) (t6.function_body i generator c)
  unfolding t6.function_body
  function_body generator c a = group i marks.LeftBrace _ h.opens (refl, refl, refl) a (λ d b. weaken (statements (of_function generator) i.fuel d (ready b)) (λ xs e m. and b m)) (refused-holds c)

  pub signature : {s : Input} {D : ℕ → ℕ} (generator : Bool) (c : Input) → At room s 0 0 c D → Holds (λ x d. At room s 0 0 d (λ at. D at + sum_of in_parameter x.parameters at + sum_of in_statement x.body at)) (t6.signature i generator c)
  unfolding t6.signature
  signature generator c a = bind (group i marks.LeftParenthesis _ h.opens (refl, refl, refl) a (λ d b. weaken (parameters (of_function generator) d (ready b)) (λ es e m. and b m)) (refused-holds c)) λ es d b. bind (function_body generator d b) λ xs e m. took m

  rest_of_function : {s : Input} {D : ℕ → ℕ} (generator : Bool) (name : Option Identifier) (c : Input) → At room s 0 0 c D → Holds (λ x d. At room s 0 0 d (in_function x) × Within s d (spans_function x).span) (t6.rest_of_function i (begin_of s.tokens) generator name c)
  unfolding t6.rest_of_function
  rest_of_function generator name c a = bind (signature generator c a) λ x d b. took (finish b (in-function _ _ _ _ _) (λ at. omega arith), within (span-function _ _ _ _ _))

  pub named_function : {s : Input} {D : ℕ → ℕ} (generator : Bool) (c : Input) → At room s 0 0 c D → Holds (λ x d. At room s 0 0 d (in_function x) × Within s d (spans_function x).span) (t6.named_function i (begin_of s.tokens) generator c)
  unfolding t6.named_function
  named_function generator c a = bind (identifier c a) λ n d b. rest_of_function generator (Some n) d b

  pub function : {s : Input} {D : ℕ → ℕ} (lacks : Bool) (c : Input) → At room s 0 0 c D → Holds (λ x d. At room s 0 0 d (in_function x) × Within s d (spans_function x).span) (t6.function_after_word i lacks (begin_of s.tokens) c)
  unfolding t6.function_after_word
  function lacks c a = bind (star c a) λ generator d b. either lacks _ _ d (looks _ _ _ d (rest_of_function generator None d b) (named_function generator d b)) (named_function generator d b)

  -- ## Methods and classes

  pub method_after_key : {s : Input} (kind : MethodKind) (generator : Bool) (at : ℕ) (k : Key) (c : Input) → At room s 0 0 c (in_key k) → Holds (λ x d. At room s 0 0 d (in_method x)) (t6.method_after_key i kind generator at k c)
  unfolding t6.method_after_key
  method_after_key kind generator at k c a = bind (signature generator c a) λ x d b. took (finish b (in-method_of _ _ _ _ _ _) (λ at. omega arith))

  accessor_parameters : (setter : Bool) (s : Input) → Ready room 1 s → Holds (λ es c. At room s 1 0 c (sum_of in_parameter es)) (t6.accessor_parameters i setter s)
  unfolding t6.accessor_parameters t6.one_parameter t6.no_parameter
  accessor_parameters true s r = bind (h.part (of_function false) s r.sorted) λ q c a. bind (close right-parenthesis a) λ t d b. took (first in_parameter [] b (in-single_parameter _) (λ at. omega arith))
  accessor_parameters false s r = bind (close right-parenthesis (begin s r)) λ t c a. took (less a (λ at. omega arith))

  pub accessor : {s : Input} {D : ℕ → ℕ} (f : Flags) (at : ℕ) (setter : Bool) (c : Input) → At room s 0 0 c D → Holds (λ x d. At room s 0 0 d (in_method x)) (t6.accessor i f at setter c)
  unfolding t6.accessor
  accessor f at setter c a = bind (key f c (ready a)) λ k d b. bind (group i marks.LeftParenthesis _ h.opens (refl, refl, refl) (and a b) (λ e m. weaken (accessor_parameters setter e (ready m)) (λ es o n. and m n)) (refused-holds d)) λ es e m. bind (function_body false e m) λ xs o n. took (finish n (in-method_of _ _ _ _ _ _) (λ at. omega arith))

  pub generator_method : {s : Input} {D : ℕ → ℕ} (f : Flags) (at : ℕ) (c : Input) → At room s 0 0 c D → Holds (λ x d. At room s 0 0 d (in_method x)) (t6.generator_method i f at c)
  unfolding t6.generator_method
  generator_method f at c a = bind (key f c (ready a)) λ k d b. method_after_key _ true at k d (less (and a b) (λ at. omega arith))

  accessor_word : {s : Input} {D : ℕ → ℕ} (f : Flags) (at : ℕ) (setter : Bool) (c : Input) → At room s 0 0 c D → Holds (λ x d. At room s 0 0 d (in_method x)) (t6.method_after_accessor_word i f at setter c)
  unfolding t6.method_after_accessor_word
  accessor_word f at setter c a = looks _ _ _ c (method_after_key _ false at _ c (finish a (in-word_key _ _) (λ at. omega arith))) (accessor f at setter c a)

  method : {s : Input} {D : ℕ → ℕ} (f : Flags) (c : Input) → At room s 0 0 c D → Holds (λ x d. At room s 0 0 d (in_method x)) (t6.method i f c)
  unfolding t6.method
  method f c a = next a-star _ a (λ t d k b. generator_method f _ d b) (next accessor-word _ a (λ setter d k b. accessor_word f _ setter d b) (bind (key f c (ready a)) λ k d b. method_after_key _ false _ k d (less (and a b) (λ at. omega arith))))

  pub member : (f : Flags) (s : Input) → Ready room 0 s → Holds (λ x c. At room s 0 0 c (in_class_member x)) (t6.one_member i f s)
  unfolding t6.one_member t6.member_after_static
  member f s r = let a = begin s r in next (a-word (codes "static")) _ a (λ t c k b. looks _ _ _ c (bind (method_after_key _ false _ _ c (finish b (in-word_key _ _) (λ at. omega arith))) λ m d e. took (finish e (in-class_member _ _ _) (λ at. omega arith)))
      (bind (method f c b) λ m d e. took (finish e (in-class_member _ _ _) (λ at. omega arith)))) (bind (method f s a) λ m c b. took (finish b (in-class_member _ _ _) (λ at. omega arith)))

  members : (f : Flags) (n : ℕ) (s : Input) → Ready room 1 s → Holds (λ xs c. At room s 1 0 c (sum_of in_class_member xs)) (t6.members i f n s)
  unfolding t6.members
  members f zero s r = fault
  members f (suc n) s r = let a = begin s r in ends right-brace _ a (λ t c b. took (less b (λ at. omega arith))) (next semicolon-mark _ a (λ t c k b. weaken (members f n c (ready b)) λ xs d m. less (and b m) (λ at. omega arith))
      (bind (h.member f s r.sorted) λ m c b. bind (members f n c (ready b)) λ ms d e. took (less (and b e) (λ at. omega arith))))

  heritage : {s : Input} {D : ℕ → ℕ} (f : Flags) (c : Input) → At room s 0 0 c D → Holds (λ x d. At room s 0 0 d (in_some with_expression x)) (t6.heritage i f c)
  unfolding t6.heritage
  heritage f c a = next (a-word (codes "extends")) _ a (λ t d k b. bind (h.heritage f d b.sorted) λ x e m. took (less (and b m.counted) (λ at. omega arith))) (took (less a (λ at. omega arith)))

  rest_of_class : {s : Input} {D : ℕ → ℕ} (f : Flags) (name : Option Identifier) (c : Input) → At room s 0 0 c D → Holds (λ x d. At room s 0 0 d (in_class x) × Within s d (spans_class x).span) (t6.rest_of_class i f (begin_of s.tokens) name c)
  unfolding t6.rest_of_class
  rest_of_class f name c a = bind (heritage f c a) λ x d b. bind (group i marks.LeftBrace _ h.opens (refl, refl, refl) b (λ e m. weaken (members f i.fuel e (ready m)) (λ xs o n. and m n)) (refused-holds d)) λ ms e m. took (finish m (in-class _ _ _ _) (λ at. omega arith), within (span-class _ _ _ _))

  named_class : {s : Input} {D : ℕ → ℕ} (f : Flags) (c : Input) → At room s 0 0 c D → Holds (λ x d. At room s 0 0 d (in_class x) × Within s d (spans_class x).span) (t6.named_class i f (begin_of s.tokens) c)
  unfolding t6.named_class
  named_class f c a = bind (identifier c a) λ n d b. rest_of_class f (Some n) d b

  pub class : {s : Input} {D : ℕ → ℕ} (f : Flags) (lacks : Bool) (c : Input) → At room s 0 0 c D → Holds (λ x d. At room s 0 0 d (in_class x) × Within s d (spans_class x).span) (t6.class_after_word i f lacks (begin_of s.tokens) c)
  unfolding t6.class_after_word
  class f lacks c a = either lacks _ _ c (looks _ _ _ c (rest_of_class f None c a) (named_class f c a)) (named_class f c a)

  -- ## Templates

  template_parts : (f : Flags) (n : ℕ) (s : Input) → Ready room 1 s → Holds (λ xs c. At room s 1 0 c (sum_of in_template_part xs)) (t6.template_parts i f n s)
  unfolding t6.template_parts
  template_parts f zero s r = fault
  template_parts f (suc n) s r = bind (h.sequence (with_in f) s r.sorted) λ x c a. ends template-tail _ a (λ t d b. took (first in_template_part [] b (in-template_part _ _) (λ at. omega arith)))
      (bind (take template-middle a) λ t d b. bind (template_parts f n d (ready b)) λ xs e m. took (first in_template_part xs (and b m) (in-template_part _ _) (λ at. omega arith)))

  parted : {s : Input} {D : ℕ → ℕ} (f : Flags) (t : Stretch) (c : Input) → At room s 0 1 c D → Holds (λ x d. At room s 0 0 d (in_template x) × Within s d (spans_template x).span) (t6.parted_template i f (begin_of s.tokens) t c)
  unfolding t6.parted_template
  parted f t c a = bind (template_parts f i.fuel c (ready a)) λ xs d b. took (finish (and a b) (in-template _ _ _) (λ at. omega arith), within (span-template _ _ _))

  pub on_template : {A : Type 0} {Q : A → Input → Type 0} {p : Template → Parser A} (f : Flags) (q : Parser A) (s : Input) → Ready room 0 s → ((x : Template) (c : Input) → At room s 0 0 c (in_template x) × Within s c (spans_template x).span → Holds Q (p x c)) → Holds Q (q s)
      → Holds Q (t6.on_template i f (begin_of s.tokens) p q s)
  on_template f q s r k g = next whole-template _ (begin s r) (λ t c e a. k _ c (finish a (in-template _ _ _) (λ at. omega arith), within (span-template _ _ _)))
      (looks _ _ q s (choose-holds _ _ i.may_open s (λ o. on-holds _ _ _ s (λ t c e. bind (parted f t c (entered template-head (h.opens o) (begin s r) e)) λ m d b. k m d b) (λ m. g)) (λ o. fault)) g)
