-- How many constructs are open where a reader of operators, assignments, arrows and properties stops.
use Rattle.std.proofs.Common.{◌≡◌, ◌∙◌, ℕ, zero, suc, ◌+◌, ◌≤◌, true, false, List, [], ◌∷◌, Some, None, ap, sym, refl, subst, arith}
use Rattle.std.specs.Prelude.{codes}
use Rattle.es_text.specs.declared.Span.{Span}
use Rattle.es6_ast.specs.declared.operators.AssignOperator.{AssignOperator}
use Rattle.es6_ast.specs.declared.operators.UnaryOperator.{UnaryOperator}
use Rattle.es6_ast.specs.declared.operators.UpdateOperator.{UpdateOperator}
use Rattle.es6_ast.specs.declared.operators.UpdateOperator.TheVariants.{IncrementBefore, DecrementBefore, IncrementAfter, DecrementAfter}
use Rattle.es6_ast.specs.declared.tree.Argument.TheOpen as layer
use Rattle.es6_ast.specs.Depth.{updated}
use Rattle.es6_ast.specs.declared.tree.Arrow.{roll-Arrow}
use Rattle.es6_ast.specs.declared.tree.ArrowBody.{ArrowBody}
use Rattle.es6_ast.specs.declared.tree.ArrowBody.TheVariants.{ValueBody, BlockBody}
use Rattle.es6_ast.specs.declared.tree.Block.{Block}
use Rattle.es6_ast.specs.declared.tree.Expression.{Expression}
use Rattle.es6_ast.specs.declared.tree.Expression.TheVariants as expr
use Rattle.es6_ast.specs.declared.tree.Identifier.{Identifier}
use Rattle.es6_ast.specs.declared.tree.Key.{Key}
use Rattle.es6_ast.specs.declared.tree.Operand.{Operand}
use Rattle.es6_ast.specs.declared.tree.Parameter.{Parameter}
use Rattle.es6_ast.specs.declared.tree.Pattern.{Pattern}
use Rattle.es6_ast.specs.declared.settings.Flags.{Flags}
use Rattle.es6_ast.specs.declared.settings.Role.{Role}
use Rattle.es6_ast.specs.declared.settings.Role.TheVariants.{Leading, Among}
use Rattle.es6_ast.specs.Tokens.{Filled, begin_of}
use Rattle.es6_ast.specs.Grammar.{with_in, of_function, of_arrow, is_before}
use Rattle.es6_reading.specs.Parser.{Input, Parser, Reading, is_left, is_covered, Inner}
use Rattle.es6_reading.specs.Refine.{Refined, Fits, Misfit, TooNested, target_before}
use Rattle.es6_reading.specs.Words.{before_at, after_at}
use Rattle.es6_reading.specs.Expressions as e
use Rattle.es6_reading.proofs.Meanings.{before-means, after-means}
use Rattle.es6_reading.proofs.Posts.{Taken, taken}
use Rattle.es6_reading.proofs.SpanCounts.{around, sum_of, one, spans_block, spans_expression, in_arrow_body, in_expression, in_operand, in_parameter, in_pattern, in_property, in_key, with_block, with_expression}
use Rattle.es6_reading.proofs.SpanSums.{in-value_body, span-value_body, in-block_body, span-block_body, in-arrow_value, span-arrow_value, in-arrow, span-arrow, in-unary, in-power, in-binary, in-conditional, in-assign, in-sequence, in-yield, in-delegate, in-plain, in-shorthand, in-initialized, in-defined, in-operand, in-update-after, in-word_key, span-unary, span-power, span-binary, span-conditional, span-assign, span-sequence, span-yield, span-delegate, span-update}
use Rattle.es6_reading_laws.proofs.es6_viability.Deep.{Spot, At, Ready, ready, begin, and, recount, finish, first, forget, no_spans, within, Deep, took, fault, bind, refused-holds, next, take, either, looks, looks-yes}
use Rattle.es6_reading.proofs.ShallowTokens.{a-word, comma, colon, equals, a-star, power-mark, question, arrow, line-star, unary-operator, update-before, update-after, assign-operator, binary-operator, accessor-word, free-name}
use Rattle.es6_reading_laws.proofs.es6_viability.Beside.{Both, over, turn, both-same}
use Rattle.es6_reading_laws.proofs.es6_viability.DeepParts.{Deeper, method_after_key, accessor, generator_method, key}
use Rattle.es6_reading_laws.proofs.es6_viability.DeepExpressions.{ExpressionAt, wider, chain}
use Rattle.es6_reading_laws.proofs.es6_viability.DeepRefined.{Recounted, before-recounted, parameters-before}
use Rattle.es6_reading.proofs.SpanLayers.{rolled_expression}

-- no prefix operator is one that stands after its operand
is-after : {op : UpdateOperator} {c d : Input} → Taken after_at c op d → is_before op ≡ false
is-after (taken {t = t} {x = op} e) = (after-means op t e).1

is-prefix : {op : UpdateOperator} {c d : Input} → Taken before_at c op d → is_before op ≡ true
is-prefix (taken {t = t} {x = op} e) = (before-means op t e).1

in-update-before : (span : Span) (operator : UpdateOperator) (x : Expression) → is_before operator ≡ true → (at : ℕ) → with_expression x at ≡ in_expression (expr.Update span operator x) at
in-update-before span operator x h at = rw (ap (λ z. around z.inner at) (ap spans_expression (sym (expr.rolls-Update span operator x)) ∙ rolled_expression (layer.Update span operator x))) (by-operator operator h)
  where
    by-operator : (op : UpdateOperator) → is_before op ≡ true → with_expression x at ≡ around (updated op (spans_expression x)) at
    by-operator IncrementBefore k = refl
    by-operator DecrementBefore k = refl
    by-operator IncrementAfter k = absurd (cc)
    by-operator DecrementAfter k = absurd (cc)

in-block_arrow : (span : Span) (es : List Parameter) (b : Block) (at : ℕ) → in_expression (expr.Arrow (roll-Arrow (record { span = span; parameters = es; body = BlockBody b }))) at ≡ sum_of in_parameter es at + with_block b at
in-block_arrow span es b at =
    in-arrow_value (roll-Arrow (record { span = span; parameters = es; body = BlockBody b })) at
    ∙ in-arrow span es (BlockBody b) at
    ∙ ap (λ n. sum_of in_parameter es at + (n + in_arrow_body (BlockBody b) at)) (ap (λ z. one z at) (span-block_body b))
    ∙ ap (λ n. sum_of in_parameter es at + (one (spans_block b).span at + n)) (in-block_body b at)

in-value_arrow : (span : Span) (es : List Parameter) (x : Expression) (at : ℕ) → in_expression (expr.Arrow (roll-Arrow (record { span = span; parameters = es; body = ValueBody x }))) at ≡ sum_of in_parameter es at + with_expression x at
in-value_arrow span es x at =
    in-arrow_value (roll-Arrow (record { span = span; parameters = es; body = ValueBody x })) at
    ∙ in-arrow span es (ValueBody x) at
    ∙ ap (λ n. sum_of in_parameter es at + (n + in_arrow_body (ValueBody x) at)) (ap (λ z. one z at) (span-value_body x))
    ∙ ap (λ n. sum_of in_parameter es at + (one (spans_expression x).span at + n)) (in-value_body x at)

span-of_arrow : (span : Span) (es : List Parameter) (b : ArrowBody) → (spans_expression (expr.Arrow (roll-Arrow (record { span = span; parameters = es; body = b })))).span ≡ span
span-of_arrow span es b = span-arrow_value (roll-Arrow (record { span = span; parameters = es; body = b })) ∙ span-arrow span es b

module _ {all : List Filled} (i j : Inner) (room : ℕ) (h : Deeper all i j room) where
  postfix : (f : Flags) (role : Role) (s : Spot all) → Ready room 0 s → Deep (ExpressionAt room s) (e.postfix i f role) (e.postfix j f role) s
  unfolding e.postfix
  postfix f role s r = bind _ _ (chain i j room h f role s r) λ x c a. next update-after _ _ _ _ a.0 (λ op d k b. took _ (finish b (in-update-after _ op _ (is-after k)) (λ at. omega arith), within (span-update _ _ _))) (took _ a)

  prefixed : {s : Spot all} (f : Flags) (op : UnaryOperator) (c : Spot all) → At true room s 0 0 c no_spans → Deep (ExpressionAt room s) (e.prefixed i f (begin_of s.input.tokens) op) (e.prefixed j f (begin_of s.input.tokens) op) c
  unfolding e.prefixed
  prefixed f op c a = bind _ _ (h.unary f c (ready a)) λ x d b. took _ (finish (and a b) (in-unary _ _ _) (λ at. omega arith), within (span-unary _ _ _))

  update : (f : Flags) (role : Role) (s : Spot all) → Ready room 0 s → Deep (ExpressionAt room s) (e.update i f role) (e.update j f role) s
  unfolding e.update e.updated
  update f role s r = next update-before _ _ _ _ (begin s r) (λ op c k a. bind _ _ (h.unary f c (ready a)) λ x d b. took _ (recount (recount (and a b) (λ at. omega arith)) (in-update-before _ _ _ (is-prefix k)), within (span-update _ _ _))) (postfix f role s r)

  pub unary : (f : Flags) (s : Spot all) → Ready room 0 s → Deep (ExpressionAt room s) (e.unary i f) (e.unary j f) s
  unfolding e.unary
  unary f s r = next unary-operator _ _ _ _ (begin s r) (λ op c k a. prefixed f op c a) (update f Among s r)

  pub power : (f : Flags) (role : Role) (s : Spot all) → Ready room 0 s → Deep (ExpressionAt room s) (e.power i f role) (e.power j f role) s
  unfolding e.power e.raised
  power f role s r = next unary-operator _ _ _ _ (begin s r) (λ op c k a. prefixed f op c a) (bind _ _ (update f role s r) λ x c a. next power-mark _ _ _ _ a.0 (λ t d k b. bind _ _ (h.power f d (ready b)) λ y m n. took _ (finish (and b n) (in-power _ _ _) (λ at. omega arith), within (span-power _ _ _))) (took _ a))

  -- where there are none, nothing is taken
  operands : (f : Flags) (level : ℕ) (q q' : Parser Reading) (k : (s : Spot all) → Ready room 0 s → Deep (ExpressionAt room s) q q' s) {n m : ℕ} (w : Both n m) (s : Spot all) → Ready room 0 s
      → Deep (λ xs c. At false room s 0 0 c (sum_of in_operand xs) × (xs ≡ [] → c.input.last ≤ s.input.last)) (e.operands q f level n) (e.operands q' f level m) s
  unfolding e.operands
  operands f level q q' k over s r = fault
  operands f level q q' k (turn {n = n} {m = m} w) s r = next (binary-operator f level) _ _ _ _ (begin s r) (λ op c u a. bind _ _ (k c (ready a)) λ x d b. bind _ _ (operands f level q q' k w d (ready b.0)) λ xs m o. took _ (forget (first in_operand xs (and (and a b.0) o.0) (in-operand _ _) (λ at. omega arith)), λ u. absurd (cc)))
      (took _ (recount (begin s r) (λ at. omega arith), λ u. omega arith))

  operated : {s c d : Spot all} (x : Reading) (xs : List Operand) → ExpressionAt room s x c → At false room c 0 0 d (sum_of in_operand xs) → (xs ≡ [] → d.input.last ≤ c.input.last) → ExpressionAt room s (e.operated x xs (record { begin = begin_of s.input.tokens; end = d.input.last })) d
  operated x [] a b o = (recount (and a.0 b) (λ at. omega arith), wider a.1 b.order (o refl))
  operated x (y ∷ ys) a b o = (finish (and a.0 b) (in-binary _ _ _) (λ at. omega arith), within (span-binary _ _ _))

  binary : (f : Flags) (role : Role) (up level : ℕ) (s : Spot all) → Ready room 0 s → Deep (ExpressionAt room s) (e.binary_from i f role up level) (e.binary_from j f role up level) s
  unfolding e.binary_from
  binary f role zero level s r = power f role s r
  binary f role (suc up) level s r = bind _ _ (binary f role up _ s r) λ x c a. bind _ _ (operands f level _ _ (λ d k. binary f Among up _ d k) h.turns c (ready a.0)) λ xs d b. took _ (operated x xs a b.0 b.1)

  conditional : (f : Flags) (s : Spot all) → Ready room 0 s → Deep (ExpressionAt room s) (e.conditional i f) (e.conditional j f) s
  unfolding e.conditional e.branches
  conditional f s r = bind _ _ (binary f Leading 10 3 s r) λ x c a. next question _ _ _ _ a.0 (λ t d k b. bind _ _ (h.assignment (with_in f) d (ready b)) λ y m n. bind _ _ (take colon (and b n)) λ u o v. bind _ _ (h.assignment f o (ready v)) λ z w j.
      took _ (finish (and v j) (in-conditional _ _ _ _) (λ at. omega arith), within (span-conditional _ _ _ _))) (took _ a)

  -- ## Arrows, assignments and yield

  arrow_body : {s : Spot all} (f : Flags) (es : List Parameter) (c : Spot all) → At true room s 0 0 c (sum_of in_parameter es) → Deep (ExpressionAt room s) (e.arrow_body i f (begin_of s.input.tokens) es) (e.arrow_body j f (begin_of s.input.tokens) es) c
  unfolding e.arrow_body
  arrow_body f es c a = looks-yes _ _ _ _ _ c (λ u. bind _ _ (h.block (of_function false) c u (ready a)) λ b d m. took _ (finish (and a m) (in-block_arrow _ _ _) (λ at. omega arith), within (span-of_arrow _ _ _)))
      (bind _ _ (h.assignment (of_arrow f) c (ready a)) λ x d m. took _ (finish (and a m) (in-value_arrow _ _ _) (λ at. omega arith), within (span-of_arrow _ _ _)))

  arrow_if : {s : Spot all} (f : Flags) (x : Reading) (es : Refined (List Parameter)) (c : Spot all) → ExpressionAt room s x c → Recounted (sum_of in_parameter) es (in_expression x.value) → Deep (ExpressionAt room s) (e.arrow_if i f (begin_of s.input.tokens) x es) (e.arrow_if j f (begin_of s.input.tokens) x es) c
  arrow_if f x (Fits es) c a l = next arrow _ _ _ _ a.0 (λ t d k b. arrow_body f es d (recount b l)) (refused-holds c)
  arrow_if f x (Misfit place) c a l = either (is_covered x.shape) _ _ _ _ c (refused-holds c) (took _ a)
  arrow_if f x TooNested c a l = fault

  pub fitting : {s : Spot all} {g : ℕ} {D : ℕ → ℕ} (p : Refined Pattern) (c : Spot all) → At true room s 0 g c D → Recounted in_pattern p D → Deep (λ x d. At true room s 0 g d (in_pattern x)) (e.fitting p) (e.fitting p) c
  fitting (Fits p) c a l = took _ (recount a l)
  fitting (Misfit place) c a l = refused-holds c
  fitting TooNested c a l = fault

  assigned_with : {s : Spot all} (f : Flags) (x : Expression) (op : AssignOperator) (c : Spot all) → At true room s 0 0 c (in_expression x) → Deep (ExpressionAt room s) (e.assigned_with i f (begin_of s.input.tokens) x op) (e.assigned_with j f (begin_of s.input.tokens) x op) c
  unfolding e.assigned_with
  assigned_with {s = s} f x op c a = bind _ _ (subst (λ n. Deep (λ p d. At true room s 0 0 d (in_pattern p)) (e.fitting (target_before i.fuel op x)) (e.fitting (target_before n op x)) c) (both-same h.turns) (fitting (target_before i.fuel op x) c a (before-recounted i.fuel op x))) λ p d b. bind _ _ (h.assignment f d (ready b)) λ y m n. took _ (finish (and b n) (in-assign _ _ _ _) (λ at. omega arith), within (span-assign _ _ _ _))

  after_conditional : {s : Spot all} (f : Flags) (x : Reading) (c : Spot all) → ExpressionAt room s x c → Deep (ExpressionAt room s) (e.after_conditional i f (begin_of s.input.tokens) x) (e.after_conditional j f (begin_of s.input.tokens) x) c
  unfolding e.after_conditional
  after_conditional {s = s} f x c a = looks _ _ _ _ _ c (subst (λ n. Deep (ExpressionAt room s) (e.arrow_if i f (begin_of s.input.tokens) x (e.parameters_before i.fuel x.shape x.value)) (e.arrow_if j f (begin_of s.input.tokens) x (e.parameters_before n x.shape x.value)) c) (both-same h.turns)
      (arrow_if f x (e.parameters_before i.fuel x.shape x.value) c a (parameters-before i.fuel x.shape x.value))) (either (is_left x.shape) _ _ _ _ c (next assign-operator _ _ _ _ a.0 (λ op d k b. assigned_with f _ op d b) (took _ a)) (took _ a))

  after_yield : {s : Spot all} (f : Flags) (c : Spot all) → At true room s 0 0 c no_spans → Deep (ExpressionAt room s) (e.after_yield i f (begin_of s.input.tokens)) (e.after_yield j f (begin_of s.input.tokens)) c
  unfolding e.after_yield
  after_yield f c a = next line-star _ _ _ _ a (λ t d k b. bind _ _ (h.assignment f d (ready b)) λ x m n. took _ (finish (and b n) (in-delegate _ _) (λ at. omega arith), within (span-delegate _ _)))
      (looks _ _ _ _ _ c (bind _ _ (h.assignment f c (ready a)) λ x m n. took _ (finish (and a n) (in-yield _ (Some x.value)) (λ at. omega arith), within (span-yield _ (Some x.value)))) (took _ (finish a (in-yield _ None) (λ at. omega arith), within (span-yield _ None))))

  without_yield : (f : Flags) (s : Spot all) → Ready room 0 s → Deep (ExpressionAt room s) (e.without_yield i f (begin_of s.input.tokens)) (e.without_yield j f (begin_of s.input.tokens)) s
  unfolding e.without_yield
  without_yield f s r = bind _ _ (conditional f s r) λ x c a. after_conditional f x c a

  pub assignment : (f : Flags) (s : Spot all) → Ready room 0 s → Deep (ExpressionAt room s) (e.assignment i f) (e.assignment j f) s
  unfolding e.assignment
  assignment f s r = either f.has_yield _ _ _ _ s (next (a-word (codes "yield")) _ _ _ _ (begin s r) (λ t c k a. after_yield f c a) (without_yield f s r)) (without_yield f s r)

  parts : (f : Flags) {n m : ℕ} (w : Both n m) (s : Spot all) → Ready room 0 s → Deep (λ xs c. At true room s 0 0 c (sum_of in_expression xs)) (e.parts i f n) (e.parts j f m) s
  unfolding e.parts
  parts f over s r = fault
  parts f (turn {n = n} {m = m} w) s r = bind _ _ (assignment f s r) λ x c a. next comma _ _ _ _ a.0 (λ t d k b. bind _ _ (parts f w d (ready b)) λ xs m o. took _ (recount (and b o) (λ at. omega arith))) (took _ (recount a.0 (λ at. omega arith)))

  pub sequence : (f : Flags) (s : Spot all) → Ready room 0 s → Deep (ExpressionAt room s) (e.sequence i f) (e.sequence j f) s
  unfolding e.sequence e.more_parts
  sequence f s r = bind _ _ (assignment f s r) λ x c a. next comma _ _ _ _ a.0 (λ t d k b. bind _ _ (parts f h.turns d (ready b)) λ xs m o. took _ (finish (and b o) (in-sequence _ _ _) (λ at. omega arith), within (span-sequence _ _ _))) (took _ a)

  -- ## Properties

  after_key : {s : Spot all} (f : Flags) (at : ℕ) (k : Key) (c : Spot all) → At true room s 0 0 c (in_key k) → Deep (λ x d. At true room s 0 0 d (in_property x)) (e.after_key i f at k) (e.after_key j f at k) c
  unfolding e.after_key e.value_of_key e.method_of_key
  after_key f at k c a = next colon _ _ _ _ a (λ t d u b. bind _ _ (assignment (with_in f) d (ready b)) λ x m o. took _ (finish (and b o.0) (in-plain _ _ _) (λ at. omega arith)))
      (bind _ _ (method_after_key i j room h _ false at k c a) λ m d b. took _ (finish b (in-defined _) (λ at. omega arith)))

  after_name : {s : Spot all} (f : Flags) (at : ℕ) (n : Identifier) (c : Spot all) → At true room s 0 0 c no_spans → Deep (λ x d. At true room s 0 0 d (in_property x)) (e.after_name i f at n) (e.after_name j f at n) c
  unfolding e.after_name e.shorthand
  after_name f at n c a = looks _ _ _ _ _ c (after_key f at _ c (finish a (in-word_key _ _) (λ at. omega arith))) (next equals _ _ _ _ a (λ t d k b. bind _ _ (h.assignment (with_in f) d (ready b)) λ x m o. took _ (finish (and b o) (in-initialized _ _ _ _) (λ at. omega arith))) (took _ (finish a (in-shorthand _ _) (λ at. omega arith))))

  pub property : (f : Flags) (s : Spot all) → Ready room 0 s → Deep (λ x c. At true room s 0 0 c (in_property x)) (e.one_property i f) (e.one_property j f) s
  unfolding e.one_property e.after_accessor_word
  property f s r = let a = begin s r in
      next a-star _ _ _ _ a (λ t c k b. bind _ _ (generator_method i j room h f _ c b) λ m d o. took _ (finish o (in-defined _) (λ at. omega arith)))
      (next accessor-word _ _ _ _ a (λ setter c k b. looks _ _ _ _ _ c (after_name f _ _ c b) (bind _ _ (accessor i j room h f _ setter c b) λ m d o. took _ (finish o (in-defined _) (λ at. omega arith))))
      (next free-name _ _ _ _ a (λ n c k b. after_name f _ _ c b) (bind _ _ (key i j room h f s r) λ k c b. after_key f _ k c b)))
