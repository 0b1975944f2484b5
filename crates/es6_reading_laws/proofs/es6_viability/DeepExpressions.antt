-- How many constructs are open where a reader of primary and left-hand-side expressions stops.
use Rattle.std.proofs.Common.{◌≡◌, ℕ, ◌+◌, ◌≤◌, Bool, true, false, List, [], ◌∷◌, Option, Some, None, refl, subst, arith}
use Rattle.std.specs.Prelude.{codes}
use Rattle.es_text.specs.declared.Span.{Span}
use Rattle.es6_lexer.specs.declared.token.Punctuator.TheVariants as marks
use Rattle.es6_ast.specs.declared.tree.Expression.{Expression}
use Rattle.es6_ast.specs.declared.tree.Link.{Link}
use Rattle.es6_ast.specs.declared.tree.Parameter.{Parameter}
use Rattle.es6_ast.specs.declared.tree.Rest.{Rest}
use Rattle.es6_ast.specs.declared.settings.Flags.{Flags}
use Rattle.es6_ast.specs.declared.settings.Role.{Role}
use Rattle.es6_ast.specs.declared.settings.Role.TheVariants.{Leading, Among, Heritage, Callee}
use Rattle.es6_ast.specs.Settings.{is_leading, has_calls}
use Rattle.es6_ast.specs.Tokens.{Filled, begin_of}
use Rattle.es6_ast.specs.Grammar.{with_in}
use Rattle.es6_reading.specs.Parser.{Parser, Reading, Inner}
use Rattle.es6_reading.specs.Refine.{Refined, Fits, Misfit, TooNested, parameters_of}
use Rattle.es6_reading.specs.Expressions as e
use Rattle.es6_reading.proofs.SpanCounts.{sum_of, in_some, spans_expression, in_argument, in_element, in_expression, in_link, in_property, with_expression}
use Rattle.es6_reading.proofs.SpanSums.{in-single, in-spread, in-hole, in-present, in-this, in-name, in-literal, in-template_value, in-array_list, in-object_list, in-function_value, in-class_value, in-chain, in-super_member, in-super_index, in-super_call, in-new_target, in-new, in-sequence, in-group, in-cover, in-member, in-index, in-call, in-tagged, span-this, span-name, span-literal, span-template_value, span-array_list, span-object_list, span-function_value, span-class_value, span-chain, span-super_member, span-super_index, span-super_call, span-new_target, span-new, span-group, span-cover}
use Rattle.es6_reading.proofs.ShallowTokens.{a-word, comma, ellipsis, dot, right-parenthesis, right-bracket, right-brace, free-name, literal}
use Rattle.es6_reading_laws.proofs.es6_viability.Beside.{Both, over, turn, both-same}
use Rattle.es6_reading_laws.proofs.es6_viability.Deep.{Spot, At, Ready, ready, begin, and, recount, finish, first, forget, no_spans, Within, within, same-span, Deep, took, fault, bind, refused-holds, no-number-holds, no-expression-holds, next, ends, take, close, either, looks, group}
use Rattle.es6_reading_laws.proofs.es6_viability.DeepParts.{Deeper, identifier, name, function, class, on_template}

-- an expression, from its first token to its last one
abbrev pub ExpressionAt : {all : List Filled} → ℕ → Spot all → Reading → Spot all → Type 0
ExpressionAt room s x c = At true room s 0 0 c (in_expression x.value) × Within s c (spans_expression x.value).span

pub wider : {all : List Filled} {s c d : Spot all} {span : Span} → Within s c span → c.input.last ≤ d.input.last → d.input.last ≤ c.input.last → Within s d span
wider w o p = record { begins = w.begins; ends = omega (arith, w.ends, o, p) }

pub no_operand : {all : List Filled} {Q : Reading → Spot all → Type 0} (role : Role) (s : Spot all) → Deep Q (e.no_operand role) (e.no_operand role) s
no_operand Leading s = no-expression-holds s
no_operand Among s = no-expression-holds s
no_operand Heritage s = no-number-holds s
no_operand Callee s = no-number-holds s

-- ## Groups

in-sequenced : (x : Expression) (more : List Expression) (span : Span) (at : ℕ) → in_expression (e.sequenced x more span) at ≡ in_expression x at + sum_of in_expression more at
in-sequenced x [] span at = omega arith
in-sequenced x (y ∷ more) span at = in-sequence span x (y ∷ more) at

module _ {all : List Filled} {room : ℕ} {s : Spot all} {D : ℕ → ℕ} where
  covered : (held : Option Expression) (rest : Option Rest) (c : Spot all) → At true room s 0 0 c D → ((at : ℕ) → D at ≡ in_some in_expression held at) → Deep (ExpressionAt room s) (e.covered (begin_of s.input.tokens) held rest) (e.covered (begin_of s.input.tokens) held rest) c
  unfolding e.covered
  covered held rest c a l = looks _ _ _ _ _ c (took _ (finish a (in-cover _ _ _) l, within (span-cover _ _ _))) (refused-holds c)

  covered_rest : (dots : ℕ) (held : Option Expression) (c : Spot all) → At true room s 0 1 c D → ((at : ℕ) → D at ≡ in_some in_expression held at) → Deep (ExpressionAt room s) (e.covered_rest (begin_of s.input.tokens) dots held) (e.covered_rest (begin_of s.input.tokens) dots held) c
  unfolding e.covered_rest
  covered_rest dots held c a l = bind _ _ (identifier c a) λ n d b. bind _ _ (close right-parenthesis b) λ t k m. covered held _ k m l

  rest_after : (dots : ℕ) (held : Expression) (r : Refined (List Parameter)) (c : Spot all) → At true room s 0 1 c D → ((at : ℕ) → D at ≡ in_expression held at) → Deep (ExpressionAt room s) (e.rest_after (begin_of s.input.tokens) dots held r) (e.rest_after (begin_of s.input.tokens) dots held r) c
  rest_after dots held (Fits es) c a l = next ellipsis _ _ _ _ a (λ t d k b. covered_rest dots (Some held) d b l) (refused-holds c)
  rest_after dots held (Misfit place) c a l = refused-holds c
  rest_after dots held TooNested c a l = fault

  closed_group : (held : Expression) (c : Spot all) → At true room s 0 1 c D → ((at : ℕ) → D at ≡ in_expression held at) → Deep (ExpressionAt room s) (e.closed_group (begin_of s.input.tokens) held) (e.closed_group (begin_of s.input.tokens) held) c
  unfolding e.closed_group
  closed_group held c a l = bind _ _ (close right-parenthesis a) λ t d b. took _ (finish b (in-group _ _) l, within (span-group _ _))

module _ {all : List Filled} (i j : Inner) (room : ℕ) (h : Deeper all i j room) where
  argument : (f : Flags) (s : Spot all) → Ready room 1 s → Deep (λ x c. At true room s 1 1 c (in_argument x)) (e.argument i f) (e.argument j f) s
  unfolding e.argument
  argument f s r = next ellipsis _ _ _ _ (begin s r) (λ t c k a. bind _ _ (h.assignment (with_in f) c (ready a)) λ x d b. took _ (finish (and a b) (in-spread _ _) (λ at. omega arith)))
      (bind _ _ (h.assignment (with_in f) s r) λ x c a. took _ (finish a (in-single _) (λ at. omega arith)))

  elements : (f : Flags) {n m : ℕ} (w : Both n m) (s : Spot all) → Ready room 1 s → Deep (λ x c. At true room s 1 0 c (sum_of in_element x.elements)) (e.elements i f n) (e.elements j f m) s
  unfolding e.elements
  elements f over s r = fault
  elements f (turn {n = n} {m = m} w) s r = let a = begin s r in ends right-bracket _ _ _ _ a (λ t c b. took _ (recount b (λ at. omega arith)))
      (next comma _ _ _ _ a (λ t c k b. bind _ _ (elements f w c (ready b)) λ x d m. took _ (first in_element x.elements (and b m) in-hole (λ at. omega arith)))
      (bind _ _ (argument f s r) λ x c b. next comma _ _ _ _ b (λ t d k m. ends right-bracket _ _ _ _ m (λ u e o. took _ (first in_element [] o (in-present _) (λ at. omega arith)))
      (bind _ _ (elements f w d (ready m)) λ y e o. took _ (first in_element y.elements (and m o) (in-present _) (λ at. omega arith))))
      (bind _ _ (close right-bracket b) λ t d m. took _ (first in_element [] m (in-present _) (λ at. omega arith)))))

  more_arguments : (f : Flags) {n m : ℕ} (w : Both n m) (s : Spot all) → Ready room 1 s → Deep (λ xs c. At true room s 1 0 c (sum_of in_argument xs)) (e.more_arguments i f n) (e.more_arguments j f m) s
  unfolding e.more_arguments
  more_arguments f over s r = fault
  more_arguments f (turn {n = n} {m = m} w) s r = bind _ _ (argument f s r) λ x c a. next comma _ _ _ _ a (λ t d k b. bind _ _ (more_arguments f w d (ready b)) λ xs e m. took _ (recount (and b m) (λ at. omega arith))) (bind _ _ (close right-parenthesis a) λ t d b. took _ (recount b (λ at. omega arith)))

  arguments : (f : Flags) (s : Spot all) → Ready room 1 s → Deep (λ xs c. At true room s 1 0 c (sum_of in_argument xs)) (e.arguments i f) (e.arguments j f) s
  unfolding e.arguments
  arguments f s r = ends right-parenthesis _ _ _ _ (begin s r) (λ t c a. took _ (recount a (λ at. omega arith))) (more_arguments f h.turns s r)

  properties : (f : Flags) {n m : ℕ} (w : Both n m) (s : Spot all) → Ready room 1 s → Deep (λ xs c. At true room s 1 0 c (sum_of in_property xs)) (e.properties i f n) (e.properties j f m) s
  unfolding e.properties
  properties f over s r = fault
  properties f (turn {n = n} {m = m} w) s r = ends right-brace _ _ _ _ (begin s r) (λ t c a. took _ (recount a (λ at. omega arith)))
      (bind _ _ (h.property f s r) λ x c a. next comma _ _ _ _ a (λ t d k b. bind _ _ (properties f w d (ready b)) λ xs e m. took _ (recount (and b m) (λ at. omega arith))) (bind _ _ (close right-brace a) λ t d b. took _ (recount b (λ at. omega arith))))

  held_parts : (f : Flags) (role : Role) {n m : ℕ} (w : Both n m) (s : Spot all) → Ready room 1 s → Deep (λ x c. At true room s 1 1 c (sum_of in_expression (x.first ∷ x.more))) (e.held_parts i f role n) (e.held_parts j f role m) s
  unfolding e.held_parts
  held_parts f role over s r = fault
  held_parts f role (turn {n = n} {m = m} w) s r = bind _ _ (h.assignment (with_in f) s r) λ x c a. next comma _ _ _ _ a (λ t d k b. looks _ _ _ _ _ d (took _ (recount b (λ at. omega arith))) (bind _ _ (held_parts f role w d (ready b)) λ y e m. took _ (recount (and b m) (λ at. omega arith))))
      (took _ (recount a (λ at. omega arith)))

  held_group : {s : Spot all} (f : Flags) (role : Role) (c : Spot all) → At true room s 0 1 c no_spans → Deep (ExpressionAt room s) (e.held_group i f role (begin_of s.input.tokens)) (e.held_group j f role (begin_of s.input.tokens)) c
  unfolding e.held_group
  held_group {s = s} f role c a = bind _ _ (held_parts f role h.turns c (ready a)) λ x d b. either x.before_rest _ _ _ _ d
      (subst (λ n. Deep (ExpressionAt room s) (e.rest_after (begin_of s.input.tokens) (begin_of d.input.tokens) (e.whole (begin_of c.input.tokens) x) (parameters_of i.fuel (x.first ∷ x.more))) (e.rest_after (begin_of s.input.tokens) (begin_of d.input.tokens) (e.whole (begin_of c.input.tokens) x) (parameters_of n (x.first ∷ x.more))) d) (both-same h.turns)
      (rest_after _ _ _ d (and a b) (λ at. omega (arith, in-sequenced x.first x.more (record { begin = begin_of c.input.tokens; end = x.end }) at))))
      (closed_group _ d (and a b) (λ at. omega (arith, in-sequenced x.first x.more (record { begin = begin_of c.input.tokens; end = x.end }) at)))

  grouped : {s : Spot all} (f : Flags) (role : Role) (c : Spot all) → At true room s 0 1 c no_spans → Deep (ExpressionAt room s) (e.grouped i f role (begin_of s.input.tokens)) (e.grouped j f role (begin_of s.input.tokens)) c
  unfolding e.grouped
  grouped f role c a = either (is_leading role) _ _ _ _ c (ends right-parenthesis _ _ _ _ a (λ t d b. covered None None d b (λ at. omega arith)) (next ellipsis _ _ _ _ a (λ t d k b. covered_rest _ None d b (λ at. omega arith)) (held_group f role c a))) (held_group f role c a)

  -- ## Primary expressions

  bracketed : (f : Flags) (role : Role) (s : Spot all) → Ready room 0 s → Deep (ExpressionAt room s) (e.bracketed i f role (begin_of s.input.tokens)) (e.bracketed j f role (begin_of s.input.tokens)) s
  unfolding e.bracketed
  bracketed f role s r = let a = begin s r in
      group i j marks.LeftBracket _ _ _ _ h.opens (refl, refl, refl) a (λ c b. bind _ _ (elements f h.turns c (ready b)) λ x d m. took _ (finish (and b m) (in-array_list _ _ _) (λ at. omega arith), within (span-array_list _ _ _)))
      (group i j marks.LeftBrace _ _ _ _ h.opens (refl, refl, refl) a (λ c b. bind _ _ (properties f h.turns c (ready b)) λ x d m. took _ (finish (and b m) (in-object_list _ _) (λ at. omega arith), within (span-object_list _ _))) (no_operand role s))

  composed : (f : Flags) (role : Role) (s : Spot all) → Ready room 0 s → Deep (ExpressionAt room s) (e.composed i f role (begin_of s.input.tokens)) (e.composed j f role (begin_of s.input.tokens)) s
  unfolding e.composed
  composed f role s r = let a = begin s r in
      next (a-word (codes "function")) _ _ _ _ a (λ t c k b. bind _ _ (function i j room h true c b) λ x d m. took _ (finish m.0 (in-function_value _) (λ at. omega arith), same-span (span-function_value _) m.1))
      (next (a-word (codes "class")) _ _ _ _ a (λ t c k b. bind _ _ (class i j room h f true c b) λ x d m. took _ (finish m.0 (in-class_value _) (λ at. omega arith), same-span (span-class_value _) m.1))
      (on_template i j room h f _ _ _ _ s r (λ x c m. took _ (finish m.0 (in-template_value _) (λ at. omega arith), same-span (span-template_value _) m.1))
      (group i j marks.LeftParenthesis _ _ _ _ h.opens (refl, refl, refl) a (λ c b. grouped f role c b) (bracketed f role s r))))

  primary : (f : Flags) (role : Role) (s : Spot all) → Ready room 0 s → Deep (ExpressionAt room s) (e.primary i f role (begin_of s.input.tokens)) (e.primary j f role (begin_of s.input.tokens)) s
  unfolding e.primary
  primary f role s r = let a = begin s r in
      next (a-word (codes "this")) _ _ _ _ a (λ t c k b. took _ (finish b (in-this _) (λ at. omega arith), within (span-this _)))
      (next free-name _ _ _ _ a (λ n c k b. took _ (finish b (in-name _ _) (λ at. omega arith), within (span-name _ _)))
      (next literal _ _ _ _ a (λ v c k b. took _ (finish b (in-literal _ _) (λ at. omega arith), within (span-literal _ _))) (composed f role s r)))

  -- ## Left-hand-side expressions

  after_callee : {s : Spot all} (f : Flags) (callee : Expression) (c : Spot all) → At true room s 0 0 c (with_expression callee) → Deep (ExpressionAt room s) (e.after_callee i f (begin_of s.input.tokens) callee) (e.after_callee j f (begin_of s.input.tokens) callee) c
  unfolding e.after_callee
  after_callee f callee c a = group i j marks.LeftParenthesis _ _ _ _ h.opens (refl, refl, refl) a (λ d b. bind _ _ (arguments f d (ready b)) λ xs k m. took _ (finish (and b m) (in-new _ _ _) (λ at. omega arith), within (span-new _ _ _)))
      (took _ (finish a (in-new _ _ _) (λ at. omega arith), within (span-new _ _ _)))

  after_new : {s : Spot all} (f : Flags) (c : Spot all) → At true room s 0 0 c no_spans → Deep (ExpressionAt room s) (e.after_new i f (begin_of s.input.tokens)) (e.after_new j f (begin_of s.input.tokens)) c
  unfolding e.after_new
  after_new f c a = next dot _ _ _ _ a (λ t d k b. bind _ _ (take (a-word (codes "target")) b) λ u o m. took _ (finish m (in-new_target _) (λ at. omega arith), within (span-new_target _)))
      (bind _ _ (h.callee f c (ready a)) λ x d b. after_callee f x.value d (recount (and a b) (λ at. omega arith)))

  after_super : {s : Spot all} (f : Flags) (role : Role) (c : Spot all) → At true room s 0 0 c no_spans → Deep (ExpressionAt room s) (e.after_super i f role (begin_of s.input.tokens)) (e.after_super j f role (begin_of s.input.tokens)) c
  unfolding e.after_super e.super_call
  after_super f role c a = next dot _ _ _ _ a (λ t d k b. bind _ _ (name d b) λ n o m. took _ (finish m (in-super_member _ _) (λ at. omega arith), within (span-super_member _ _)))
      (group i j marks.LeftBracket _ _ _ _ h.opens (refl, refl, refl) a (λ d b. bind _ _ (h.sequence (with_in f) d (ready b)) λ x k m. bind _ _ (close right-bracket (and b m)) λ t o n. took _ (finish n (in-super_index _ _) (λ at. omega arith), within (span-super_index _ _)))
      (either (has_calls role) _ _ _ _ c (group i j marks.LeftParenthesis _ _ _ _ h.opens (refl, refl, refl) a (λ d b. bind _ _ (arguments f d (ready b)) λ xs k m. took _ (finish (and b m) (in-super_call _ _) (λ at. omega arith), within (span-super_call _ _))) (refused-holds c)) (refused-holds c)))

  head : (f : Flags) (role : Role) (s : Spot all) → Ready room 0 s → Deep (ExpressionAt room s) (e.head i f role (begin_of s.input.tokens)) (e.head j f role (begin_of s.input.tokens)) s
  unfolding e.head
  head f role s r = let a = begin s r in next (a-word (codes "new")) _ _ _ _ a (λ t c k b. after_new f c b) (next (a-word (codes "super")) _ _ _ _ a (λ t c k b. after_super f role c b) (primary f role s r))

  member_link : {s : Spot all} (at : ℕ) (c : Spot all) → At true room s 0 0 c no_spans → Deep (λ x d. At true room s 0 0 d (in_link x)) (e.member_link at) (e.member_link at) c
  unfolding e.member_link
  member_link at c a = bind _ _ (name c a) λ n d b. took _ (finish b (in-member _ _) (λ k. omega arith))

  index_link : {s : Spot all} (f : Flags) (at : ℕ) (c : Spot all) → At true room s 0 1 c no_spans → Deep (λ x d. At true room s 0 0 d (in_link x)) (e.index_link i f at) (e.index_link j f at) c
  unfolding e.index_link
  index_link f at c a = bind _ _ (h.sequence (with_in f) c (ready a)) λ x d b. bind _ _ (close right-bracket (and a b)) λ t k m. took _ (finish m (in-index _ _) (λ k. omega arith))

  call_link : {s : Spot all} (f : Flags) (at : ℕ) (c : Spot all) → At true room s 0 1 c no_spans → Deep (λ x d. At true room s 0 0 d (in_link x)) (e.call_link i f at) (e.call_link j f at) c
  unfolding e.call_link
  call_link f at c a = bind _ _ (arguments f c (ready a)) λ xs d b. took _ (finish (and a b) (in-call _ _) (λ k. omega arith))

  on_link : {Q : List Link → Spot all → Type 0} (f : Flags) (calls : Bool) (p p' : Link → Parser (List Link)) (q q' : Parser (List Link)) (s : Spot all) → Ready room 0 s → ((x : Link) (c : Spot all) → At true room s 0 0 c (in_link x) → Deep Q (p x) (p' x) c) → Deep Q q q' s
      → Deep Q (e.on_link i f calls (begin_of s.input.tokens) p q) (e.on_link j f calls (begin_of s.input.tokens) p' q') s
  on_link f calls p p' q q' s r k g = let a = begin s r in
      next dot _ _ _ _ a (λ t c e b. bind _ _ (member_link _ c b) λ x d m. k x d m)
      (group i j marks.LeftBracket _ _ _ _ h.opens (refl, refl, refl) a (λ c b. bind _ _ (index_link f _ c b) λ x d m. k x d m)
      (on_template i j room h f _ _ _ _ s r (λ x c m. k _ c (finish m.0 (in-tagged _) (λ at. omega arith)))
      (either calls _ _ _ _ s (group i j marks.LeftParenthesis _ _ _ _ h.opens (refl, refl, refl) a (λ c b. bind _ _ (call_link f _ c b) λ x d m. k x d m) g) g)))

  -- where there are none, nothing is taken
  links : (f : Flags) (calls : Bool) {n m : ℕ} (w : Both n m) (s : Spot all) → Ready room 0 s → Deep (λ xs c. At false room s 0 0 c (sum_of in_link xs) × (xs ≡ [] → c.input.last ≤ s.input.last)) (e.links i f calls n) (e.links j f calls m) s
  unfolding e.links
  links f calls over s r = fault
  links f calls (turn {n = n} {m = m} w) s r = on_link f calls _ _ _ _ s r (λ x c a. bind _ _ (links f calls w c (ready a)) λ xs d b. took _ (forget (recount (and a b.0) (λ at. omega arith)), λ e. absurd (cc))) (took _ (recount (begin s r) (λ at. omega arith), λ e. omega arith))

  chained : {s c d : Spot all} (x : Reading) (xs : List Link) → ExpressionAt room s x c → At false room c 0 0 d (sum_of in_link xs) → (xs ≡ [] → d.input.last ≤ c.input.last) → ExpressionAt room s (e.chained x xs (record { begin = begin_of s.input.tokens; end = d.input.last })) d
  chained x [] a b o = (recount (and a.0 b) (λ at. omega arith), wider a.1 b.order (o refl))
  chained x (l ∷ ls) a b o = (finish (and a.0 b) (in-chain _ _ _) (λ at. omega arith), within (span-chain _ _ _))

  pub chain : (f : Flags) (role : Role) (s : Spot all) → Ready room 0 s → Deep (ExpressionAt room s) (e.chain i f role) (e.chain j f role) s
  unfolding e.chain
  chain f role s r = bind _ _ (head f role s r) λ x c a. bind _ _ (links f (has_calls role) h.turns c (ready a.0)) λ xs d b. took _ (chained x xs a b.0 b.1)
