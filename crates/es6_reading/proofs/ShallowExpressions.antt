-- How many constructs are open at what is read as primary and left-hand-side expressions.
use Rattle.std.proofs.Common.{◌≡◌, ℕ, zero, suc, ◌+◌, ◌≤◌, Bool, true, List, [], ◌∷◌, Option, Some, None, sym, refl, subst, arith}
use Rattle.std.specs.Prelude.{codes}
use Rattle.es_text.specs.declared.Span.{Span}
use Rattle.es6_lexer.specs.declared.token.Punctuator.TheVariants as marks
use Rattle.es6_ast.specs.declared.tree.Expression.{Expression}
use Rattle.es6_ast.specs.declared.tree.Link.{Link}
use Rattle.es6_ast.specs.declared.tree.Parameter.{Parameter}
use Rattle.es6_ast.specs.declared.tree.Rest.{Rest}
use Rattle.es6_ast.specs.declared.settings.Flags.{Flags}
use Rattle.es6_ast.specs.declared.settings.Role.{Role}
use Rattle.es6_ast.specs.declared.settings.Role.TheVariants.{Leading, Among, Heritage, Callee}
use Rattle.es6_ast.specs.Settings.{is_leading, has_calls}
use Rattle.es6_ast.specs.Tokens.{begin_of}
use Rattle.es6_ast.specs.Grammar.{with_in}
use Rattle.es6_reading.specs.Parser.{Input, Parser, Reading, Inner}
use Rattle.es6_reading.specs.Refine.{Refined, Fits, Misfit, TooNested}
use Rattle.es6_reading.specs.Expressions as e
use Rattle.es6_reading.proofs.Posts.{Holds, took, fault, bind, refused-holds, no-number-holds, no-expression-holds}
use Rattle.es6_reading.proofs.SpanCounts.{sum_of, in_some, spans_expression, in_argument, in_element, in_expression, in_link, in_property, with_expression}
use Rattle.es6_reading.proofs.SpanSums.{in-single, in-spread, in-hole, in-present, in-this, in-name, in-literal, in-template_value, in-array_list, in-object_list, in-function_value, in-class_value, in-chain, in-super_member, in-super_index, in-super_call, in-new_target, in-new, in-sequence, in-group, in-cover, in-member, in-index, in-call, in-tagged, span-this, span-name, span-literal, span-template_value, span-array_list, span-object_list, span-function_value, span-class_value, span-chain, span-super_member, span-super_index, span-super_call, span-new_target, span-new, span-group, span-cover}
use Rattle.es6_reading.proofs.Shallow.{At, Ready, ready, begin, and, less, finish, first, Within, within, next, ends, take, close, either, looks, group}
use Rattle.es6_reading.proofs.ShallowTokens.{a-word, comma, ellipsis, dot, right-parenthesis, right-bracket, right-brace, free-name, literal}
use Rattle.es6_reading.proofs.ShallowParts.{Shallow, identifier, name, function, class, on_template}

-- an expression, from its first token to its last one
abbrev pub ExpressionAt : ℕ → Input → Reading → Input → Type 0
ExpressionAt room s x c = At room s 0 0 c (in_expression x.value) × Within s c (spans_expression x.value).span

pub same-span : {s c : Input} {x y : Span} → x ≡ y → Within s c y → Within s c x
same-span {s = s} {c = c} e w = subst (λ z. Within s c z) (sym e) w

pub wider : {room g h : ℕ} {s c d : Input} {D : ℕ → ℕ} {span : Span} → Within s c span → At room c g h d D → Within s d span
wider w a = record { begins = w.begins; ends = omega (arith, w.ends, a.order) }

pub no_operand : {Q : Reading → Input → Type 0} (role : Role) (s : Input) → Holds Q (e.no_operand role s)
no_operand Leading s = no-expression-holds s
no_operand Among s = no-expression-holds s
no_operand Heritage s = no-number-holds s
no_operand Callee s = no-number-holds s

-- ## Groups

in-sequenced : (x : Expression) (more : List Expression) (span : Span) (at : ℕ) → in_expression (e.sequenced x more span) at ≡ in_expression x at + sum_of in_expression more at
in-sequenced x [] span at = omega arith
in-sequenced x (y ∷ more) span at = in-sequence span x (y ∷ more) at

module _ {room : ℕ} {s : Input} {D : ℕ → ℕ} where
  covered : (held : Option Expression) (rest : Option Rest) (c : Input) → At room s 0 0 c D → ((at : ℕ) → in_some in_expression held at ≤ D at) → Holds (ExpressionAt room s) (e.covered (begin_of s.tokens) held rest c)
  unfolding e.covered
  covered held rest c a l = looks _ _ _ c (took (finish a (in-cover _ _ _) l, within (span-cover _ _ _))) (refused-holds c)

  covered_rest : (dots : ℕ) (held : Option Expression) (c : Input) → At room s 0 1 c D → ((at : ℕ) → in_some in_expression held at ≤ D at) → Holds (ExpressionAt room s) (e.covered_rest (begin_of s.tokens) dots held c)
  unfolding e.covered_rest
  covered_rest dots held c a l = bind (identifier c a) λ n d b. bind (close right-parenthesis b) λ t k m. covered held _ k m l

  rest_after : (dots : ℕ) (held : Expression) (r : Refined (List Parameter)) (c : Input) → At room s 0 1 c D → ((at : ℕ) → in_expression held at ≤ D at) → Holds (ExpressionAt room s) (e.rest_after (begin_of s.tokens) dots held r c)
  rest_after dots held (Fits es) c a l = next ellipsis _ a (λ t d k b. covered_rest dots (Some held) d b l) (refused-holds c)
  rest_after dots held (Misfit place) c a l = refused-holds c
  rest_after dots held TooNested c a l = fault

  closed_group : (held : Expression) (c : Input) → At room s 0 1 c D → ((at : ℕ) → in_expression held at ≤ D at) → Holds (ExpressionAt room s) (e.closed_group (begin_of s.tokens) held c)
  unfolding e.closed_group
  closed_group held c a l = bind (close right-parenthesis a) λ t d b. took (finish b (in-group _ _) l, within (span-group _ _))

module _ (i : Inner) (room : ℕ) (h : Shallow i room) where
  argument : (f : Flags) (s : Input) → Ready room 1 s → Holds (λ x c. At room s 1 1 c (in_argument x)) (e.argument i f s)
  unfolding e.argument
  argument f s r = next ellipsis _ (begin s r) (λ t c k a. bind (h.assignment (with_in f) c a.sorted) λ x d b. took (finish (and a b.grouped) (in-spread _ _) (λ at. omega arith)))
      (bind (h.assignment (with_in f) s r.sorted) λ x c a. took (finish a.grouped (in-single _) (λ at. omega arith)))

  elements : (f : Flags) (n : ℕ) (s : Input) → Ready room 1 s → Holds (λ x c. At room s 1 0 c (sum_of in_element x.elements)) (e.elements i f n s)
  unfolding e.elements
  elements f zero s r = fault
  elements f (suc n) s r = let a = begin s r in ends right-bracket _ a (λ t c b. took (less b (λ at. omega arith)))
      (next comma _ a (λ t c k b. bind (elements f n c (ready b)) λ x d m. took (first in_element x.elements (and b m) in-hole (λ at. omega arith)))
      (bind (argument f s r) λ x c b. next comma _ b (λ t d k m. ends right-bracket _ m (λ u e o. took (first in_element [] o (in-present _) (λ at. omega arith)))
      (bind (elements f n d (ready m)) λ y e o. took (first in_element y.elements (and m o) (in-present _) (λ at. omega arith))))
      (bind (close right-bracket b) λ t d m. took (first in_element [] m (in-present _) (λ at. omega arith)))))

  more_arguments : (f : Flags) (n : ℕ) (s : Input) → Ready room 1 s → Holds (λ xs c. At room s 1 0 c (sum_of in_argument xs)) (e.more_arguments i f n s)
  unfolding e.more_arguments
  more_arguments f zero s r = fault
  more_arguments f (suc n) s r = bind (argument f s r) λ x c a. next comma _ a (λ t d k b. bind (more_arguments f n d (ready b)) λ xs e m. took (less (and b m) (λ at. omega arith))) (bind (close right-parenthesis a) λ t d b. took (less b (λ at. omega arith)))

  arguments : (f : Flags) (s : Input) → Ready room 1 s → Holds (λ xs c. At room s 1 0 c (sum_of in_argument xs)) (e.arguments i f s)
  unfolding e.arguments
  arguments f s r = ends right-parenthesis _ (begin s r) (λ t c a. took (less a (λ at. omega arith))) (more_arguments f i.fuel s r)

  properties : (f : Flags) (n : ℕ) (s : Input) → Ready room 1 s → Holds (λ xs c. At room s 1 0 c (sum_of in_property xs)) (e.properties i f n s)
  unfolding e.properties
  properties f zero s r = fault
  properties f (suc n) s r = ends right-brace _ (begin s r) (λ t c a. took (less a (λ at. omega arith)))
      (bind (h.property f s r.sorted) λ x c a. next comma _ a (λ t d k b. bind (properties f n d (ready b)) λ xs e m. took (less (and b m) (λ at. omega arith))) (bind (close right-brace a) λ t d b. took (less b (λ at. omega arith))))

  held_parts : (f : Flags) (role : Role) (n : ℕ) (s : Input) → Ready room 1 s → Holds (λ x c. At room s 1 1 c (sum_of in_expression (x.first ∷ x.more))) (e.held_parts i f role n s)
  unfolding e.held_parts
  held_parts f role zero s r = fault
  held_parts f role (suc n) s r = bind (h.assignment (with_in f) s r.sorted) λ x c a. next comma _ a.grouped (λ t d k b. looks _ _ _ d (took (less b (λ at. omega arith))) (bind (held_parts f role n d (ready b)) λ y e m. took (less (and b m) (λ at. omega arith))))
      (took (less a.grouped (λ at. omega arith)))

  held_group : {s : Input} {D : ℕ → ℕ} (f : Flags) (role : Role) (c : Input) → At room s 0 1 c D → Holds (ExpressionAt room s) (e.held_group i f role (begin_of s.tokens) c)
  unfolding e.held_group
  held_group f role c a = bind (held_parts f role i.fuel c (ready a)) λ x d b. either x.before_rest _ _ d
      (rest_after _ _ _ d (and a b) (λ at. omega (arith, in-sequenced x.first x.more (record { begin = begin_of c.tokens; end = x.end }) at)))
      (closed_group _ d (and a b) (λ at. omega (arith, in-sequenced x.first x.more (record { begin = begin_of c.tokens; end = x.end }) at)))

  grouped : {s : Input} {D : ℕ → ℕ} (f : Flags) (role : Role) (c : Input) → At room s 0 1 c D → Holds (ExpressionAt room s) (e.grouped i f role (begin_of s.tokens) c)
  unfolding e.grouped
  grouped f role c a = either (is_leading role) _ _ c (ends right-parenthesis _ a (λ t d b. covered None None d b (λ at. omega arith)) (next ellipsis _ a (λ t d k b. covered_rest _ None d b (λ at. omega arith)) (held_group f role c a))) (held_group f role c a)

  -- ## Primary expressions

  bracketed : (f : Flags) (role : Role) (s : Input) → Ready room 0 s → Holds (ExpressionAt room s) (e.bracketed i f role (begin_of s.tokens) s)
  unfolding e.bracketed
  bracketed f role s r = let a = begin s r in
      group i marks.LeftBracket _ h.opens (refl, refl, refl) a (λ c b. bind (elements f i.fuel c (ready b)) λ x d m. took (finish (and b m) (in-array_list _ _ _) (λ at. omega arith), within (span-array_list _ _ _)))
      (group i marks.LeftBrace _ h.opens (refl, refl, refl) a (λ c b. bind (properties f i.fuel c (ready b)) λ x d m. took (finish (and b m) (in-object_list _ _) (λ at. omega arith), within (span-object_list _ _))) (no_operand role s))

  composed : (f : Flags) (role : Role) (s : Input) → Ready room 0 s → Holds (ExpressionAt room s) (e.composed i f role (begin_of s.tokens) s)
  unfolding e.composed
  composed f role s r = let a = begin s r in
      next (a-word (codes "function")) _ a (λ t c k b. bind (function i room h true c b) λ x d m. took (finish m.0 (in-function_value _) (λ at. omega arith), same-span (span-function_value _) m.1))
      (next (a-word (codes "class")) _ a (λ t c k b. bind (class i room h f true c b) λ x d m. took (finish m.0 (in-class_value _) (λ at. omega arith), same-span (span-class_value _) m.1))
      (on_template i room h f _ s r (λ x c m. took (finish m.0 (in-template_value _) (λ at. omega arith), same-span (span-template_value _) m.1))
      (group i marks.LeftParenthesis _ h.opens (refl, refl, refl) a (λ c b. grouped f role c b) (bracketed f role s r))))

  primary : (f : Flags) (role : Role) (s : Input) → Ready room 0 s → Holds (ExpressionAt room s) (e.primary i f role (begin_of s.tokens) s)
  unfolding e.primary
  primary f role s r = let a = begin s r in
      next (a-word (codes "this")) _ a (λ t c k b. took (finish b (in-this _) (λ at. omega arith), within (span-this _)))
      (next free-name _ a (λ n c k b. took (finish b (in-name _ _) (λ at. omega arith), within (span-name _ _)))
      (next literal _ a (λ v c k b. took (finish b (in-literal _ _) (λ at. omega arith), within (span-literal _ _))) (composed f role s r)))

  -- ## Left-hand-side expressions

  after_callee : {s : Input} (f : Flags) (callee : Expression) (c : Input) → At room s 0 0 c (with_expression callee) → Holds (ExpressionAt room s) (e.after_callee i f (begin_of s.tokens) callee c)
  unfolding e.after_callee
  after_callee f callee c a = group i marks.LeftParenthesis _ h.opens (refl, refl, refl) a (λ d b. bind (arguments f d (ready b)) λ xs k m. took (finish (and b m) (in-new _ _ _) (λ at. omega arith), within (span-new _ _ _)))
      (took (finish a (in-new _ _ _) (λ at. omega arith), within (span-new _ _ _)))

  after_new : {s : Input} {D : ℕ → ℕ} (f : Flags) (c : Input) → At room s 0 0 c D → Holds (ExpressionAt room s) (e.after_new i f (begin_of s.tokens) c)
  unfolding e.after_new
  after_new f c a = next dot _ a (λ t d k b. bind (take (a-word (codes "target")) b) λ u o m. took (finish m (in-new_target _) (λ at. omega arith), within (span-new_target _)))
      (bind (h.callee f c a.sorted) λ x d b. after_callee f x.value d (less (and a b.counted) (λ at. omega arith)))

  after_super : {s : Input} {D : ℕ → ℕ} (f : Flags) (role : Role) (c : Input) → At room s 0 0 c D → Holds (ExpressionAt room s) (e.after_super i f role (begin_of s.tokens) c)
  unfolding e.after_super e.super_call
  after_super f role c a = next dot _ a (λ t d k b. bind (name d b) λ n o m. took (finish m (in-super_member _ _) (λ at. omega arith), within (span-super_member _ _)))
      (group i marks.LeftBracket _ h.opens (refl, refl, refl) a (λ d b. bind (h.sequence (with_in f) d b.sorted) λ x k m. bind (close right-bracket (and b m)) λ t o n. took (finish n (in-super_index _ _) (λ at. omega arith), within (span-super_index _ _)))
      (either (has_calls role) _ _ c (group i marks.LeftParenthesis _ h.opens (refl, refl, refl) a (λ d b. bind (arguments f d (ready b)) λ xs k m. took (finish (and b m) (in-super_call _ _) (λ at. omega arith), within (span-super_call _ _))) (refused-holds c)) (refused-holds c)))

  head : (f : Flags) (role : Role) (s : Input) → Ready room 0 s → Holds (ExpressionAt room s) (e.head i f role (begin_of s.tokens) s)
  unfolding e.head
  head f role s r = let a = begin s r in next (a-word (codes "new")) _ a (λ t c k b. after_new f c b) (next (a-word (codes "super")) _ a (λ t c k b. after_super f role c b) (primary f role s r))

  member_link : {s : Input} {D : ℕ → ℕ} (at : ℕ) (c : Input) → At room s 0 0 c D → Holds (λ x d. At room s 0 0 d (in_link x)) (e.member_link at c)
  unfolding e.member_link
  member_link at c a = bind (name c a) λ n d b. took (finish b (in-member _ _) (λ k. omega arith))

  index_link : {s : Input} {D : ℕ → ℕ} (f : Flags) (at : ℕ) (c : Input) → At room s 0 1 c D → Holds (λ x d. At room s 0 0 d (in_link x)) (e.index_link i f at c)
  unfolding e.index_link
  index_link f at c a = bind (h.sequence (with_in f) c a.sorted) λ x d b. bind (close right-bracket (and a b)) λ t k m. took (finish m (in-index _ _) (λ k. omega arith))

  call_link : {s : Input} {D : ℕ → ℕ} (f : Flags) (at : ℕ) (c : Input) → At room s 0 1 c D → Holds (λ x d. At room s 0 0 d (in_link x)) (e.call_link i f at c)
  unfolding e.call_link
  call_link f at c a = bind (arguments f c (ready a)) λ xs d b. took (finish (and a b) (in-call _ _) (λ k. omega arith))

  on_link : {Q : List Link → Input → Type 0} {p : Link → Parser (List Link)} (f : Flags) (calls : Bool) (q : Parser (List Link)) (s : Input) → Ready room 0 s → ((x : Link) (c : Input) → At room s 0 0 c (in_link x) → Holds Q (p x c)) → Holds Q (q s)
      → Holds Q (e.on_link i f calls (begin_of s.tokens) p q s)
  on_link f calls q s r k g = let a = begin s r in
      next dot _ a (λ t c e b. bind (member_link _ c b) λ x d m. k x d m)
      (group i marks.LeftBracket _ h.opens (refl, refl, refl) a (λ c b. bind (index_link f _ c b) λ x d m. k x d m)
      (on_template i room h f _ s r (λ x c m. k _ c (finish m.0 (in-tagged _) (λ at. omega arith)))
      (either calls _ _ s (group i marks.LeftParenthesis _ h.opens (refl, refl, refl) a (λ c b. bind (call_link f _ c b) λ x d m. k x d m) g) g)))

  links : (f : Flags) (calls : Bool) (n : ℕ) (s : Input) → Ready room 0 s → Holds (λ xs c. At room s 0 0 c (sum_of in_link xs)) (e.links i f calls n s)
  unfolding e.links
  links f calls zero s r = fault
  links f calls (suc n) s r = on_link f calls _ s r (λ x c a. bind (links f calls n c (ready a)) λ xs d b. took (less (and a b) (λ at. omega arith))) (took (less (begin s r) (λ at. omega arith)))

  chained : {s c d : Input} (x : Reading) (xs : List Link) → ExpressionAt room s x c → At room c 0 0 d (sum_of in_link xs) → ExpressionAt room s (e.chained x xs (record { begin = begin_of s.tokens; end = d.last })) d
  chained x [] a b = (less (and a.0 b) (λ at. omega arith), wider a.1 b)
  chained x (l ∷ ls) a b = (finish (and a.0 b) (in-chain _ _ _) (λ at. omega arith), within (span-chain _ _ _))

  pub chain : (f : Flags) (role : Role) (s : Input) → Ready room 0 s → Holds (ExpressionAt room s) (e.chain i f role s)
  unfolding e.chain
  chain f role s r = bind (head f role s r) λ x c a. bind (links f (has_calls role) i.fuel c (ready a.0)) λ xs d b. took (chained x xs a b)
