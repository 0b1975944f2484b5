-- How many constructs are open at what is read as operators, assignments, arrows and properties.
use Rattle.std.proofs.Common.{◌≡◌, ◌∙◌, ℕ, zero, suc, ◌+◌, false, List, [], ◌∷◌, Some, None, ap, arith}
use Rattle.std.specs.Prelude.{codes}
use Rattle.es_text.specs.declared.Span.{Span}
use Rattle.es6_ast.specs.declared.operators.AssignOperator.{AssignOperator}
use Rattle.es6_ast.specs.declared.operators.UnaryOperator.{UnaryOperator}
use Rattle.es6_ast.specs.declared.operators.UpdateOperator.{UpdateOperator}
use Rattle.es6_ast.specs.declared.tree.Arrow.{roll-Arrow}
use Rattle.es6_ast.specs.declared.tree.ArrowBody.{ArrowBody}
use Rattle.es6_ast.specs.declared.tree.ArrowBody.TheVariants.{ValueBody, BlockBody}
use Rattle.es6_ast.specs.declared.tree.Block.{Block}
use Rattle.es6_ast.specs.declared.tree.Expression.{Expression}
use Rattle.es6_ast.specs.declared.tree.Expression.TheVariants as expr
use Rattle.es6_ast.specs.declared.tree.Identifier.{Identifier}
use Rattle.es6_ast.specs.declared.tree.Key.{Key}
use Rattle.es6_ast.specs.declared.tree.Operand.{Operand}
use Rattle.es6_ast.specs.declared.tree.Parameter.{Parameter}
use Rattle.es6_ast.specs.declared.tree.Pattern.{Pattern}
use Rattle.es6_ast.specs.declared.settings.Flags.{Flags}
use Rattle.es6_ast.specs.declared.settings.Role.{Role}
use Rattle.es6_ast.specs.declared.settings.Role.TheVariants.{Leading, Among}
use Rattle.es6_ast.specs.Tokens.{begin_of}
use Rattle.es6_ast.specs.Grammar.{with_in, of_function, of_arrow, is_before}
use Rattle.es6_reading.specs.Parser.{Input, Parser, Reading, is_left, is_covered, Inner}
use Rattle.es6_reading.specs.Refine.{Refined, Fits, Misfit, TooNested, target_before}
use Rattle.es6_reading.specs.Words.{after_at}
use Rattle.es6_reading.specs.Expressions as e
use Rattle.es6_reading.proofs.Meanings.{after-means}
use Rattle.es6_reading.proofs.Posts.{Holds, took, fault, bind, Taken, taken, refused-holds}
use Rattle.es6_reading.proofs.SpanCounts.{sum_of, one, spans_block, spans_expression, in_arrow_body, in_expression, in_operand, in_parameter, in_pattern, in_property, in_key, with_block, with_expression}
use Rattle.es6_reading.proofs.SpanSums.{in-value_body, span-value_body, in-block_body, span-block_body, in-arrow_value, span-arrow_value, in-arrow, span-arrow, in-unary, in-power, in-binary, in-conditional, in-assign, in-sequence, in-yield, in-delegate, in-plain, in-shorthand, in-initialized, in-defined, in-operand, in-update, in-update-after, in-word_key, span-unary, span-power, span-binary, span-conditional, span-assign, span-sequence, span-yield, span-delegate, span-update}
use Rattle.es6_reading.proofs.Shallow.{At, Ready, ready, begin, and, less, finish, first, within, Nothing, next, take, either, looks}
use Rattle.es6_reading.proofs.ShallowTokens.{a-word, comma, colon, equals, a-star, power-mark, question, arrow, line-star, unary-operator, update-before, update-after, assign-operator, binary-operator, accessor-word, free-name}
use Rattle.es6_reading.proofs.ShallowParts.{Shallow, method_after_key, accessor, generator_method, key}
use Rattle.es6_reading.proofs.ShallowExpressions.{ExpressionAt, wider, no_operand, chain}
use Rattle.es6_reading.proofs.ShallowRefined.{Below, before-below, parameters-before}

-- no prefix operator is one that stands after its operand
is-after : {op : UpdateOperator} {c d : Input} → Taken after_at c op d → is_before op ≡ false
is-after (taken {t = t} {x = op} e) = (after-means op t e).1

in-block_arrow : (span : Span) (es : List Parameter) (b : Block) (at : ℕ) → in_expression (expr.Arrow (roll-Arrow (record { span = span; parameters = es; body = BlockBody b }))) at ≡ sum_of in_parameter es at + with_block b at
in-block_arrow span es b at =
    in-arrow_value (roll-Arrow (record { span = span; parameters = es; body = BlockBody b })) at
    ∙ in-arrow span es (BlockBody b) at
    ∙ ap (λ n. sum_of in_parameter es at + (n + in_arrow_body (BlockBody b) at)) (ap (λ z. one z at) (span-block_body b))
    ∙ ap (λ n. sum_of in_parameter es at + (one (spans_block b).span at + n)) (in-block_body b at)

in-value_arrow : (span : Span) (es : List Parameter) (x : Expression) (at : ℕ) → in_expression (expr.Arrow (roll-Arrow (record { span = span; parameters = es; body = ValueBody x }))) at ≡ sum_of in_parameter es at + with_expression x at
in-value_arrow span es x at =
    in-arrow_value (roll-Arrow (record { span = span; parameters = es; body = ValueBody x })) at
    ∙ in-arrow span es (ValueBody x) at
    ∙ ap (λ n. sum_of in_parameter es at + (n + in_arrow_body (ValueBody x) at)) (ap (λ z. one z at) (span-value_body x))
    ∙ ap (λ n. sum_of in_parameter es at + (one (spans_expression x).span at + n)) (in-value_body x at)

span-of_arrow : (span : Span) (es : List Parameter) (b : ArrowBody) → (spans_expression (expr.Arrow (roll-Arrow (record { span = span; parameters = es; body = b })))).span ≡ span
span-of_arrow span es b = span-arrow_value (roll-Arrow (record { span = span; parameters = es; body = b })) ∙ span-arrow span es b

module _ (i : Inner) (room : ℕ) (h : Shallow i room) where
  postfix : (f : Flags) (role : Role) (s : Input) → Ready room 0 s → Holds (ExpressionAt room s) (e.postfix i f role s)
  unfolding e.postfix
  postfix f role s r = bind (chain i room h f role s r) λ x c a. next update-after _ a.0 (λ op d k b. took (finish b (in-update-after _ op _ (is-after k)) (λ at. omega arith), within (span-update _ _ _))) (took a)

  prefixed : {s : Input} {D : ℕ → ℕ} (f : Flags) (op : UnaryOperator) (c : Input) → At room s 0 0 c D → Holds (ExpressionAt room s) (e.prefixed i f (begin_of s.tokens) op c)
  unfolding e.prefixed
  prefixed f op c a = bind (h.unary f c a.sorted) λ x d b. took (finish (and a b.counted) (in-unary _ _ _) (λ at. omega arith), within (span-unary _ _ _))

  update : (f : Flags) (role : Role) (s : Input) → Ready room 0 s → Holds (ExpressionAt room s) (e.update i f role s)
  unfolding e.update e.updated
  update f role s r = next update-before _ (begin s r) (λ op c k a. bind (h.unary f c a.sorted) λ x d b. took (less (less (and a b.counted) (λ at. omega arith)) (in-update _ _ _), within (span-update _ _ _))) (postfix f role s r)

  pub unary : (f : Flags) (s : Input) → Ready room 0 s → Holds (ExpressionAt room s) (e.unary i f s)
  unfolding e.unary
  unary f s r = next unary-operator _ (begin s r) (λ op c k a. prefixed f op c a) (update f Among s r)

  pub power : (f : Flags) (role : Role) (s : Input) → Ready room 0 s → Holds (ExpressionAt room s) (e.power i f role s)
  unfolding e.power e.raised
  power f role s r = next unary-operator _ (begin s r) (λ op c k a. prefixed f op c a) (bind (update f role s r) λ x c a. next power-mark _ a.0 (λ t d k b. bind (h.power f d b.sorted) λ y m n. took (finish (and b n.counted) (in-power _ _ _) (λ at. omega arith), within (span-power _ _ _))) (took a))

  operands : (f : Flags) (level : ℕ) (q : Parser Reading) (k : (s : Input) → Ready room 0 s → Holds (ExpressionAt room s) (q s)) (n : ℕ) (s : Input) → Ready room 0 s → Holds (λ xs c. At room s 0 0 c (sum_of in_operand xs)) (e.operands q f level n s)
  unfolding e.operands
  operands f level q k zero s r = fault
  operands f level q k (suc n) s r = next (binary-operator f level) _ (begin s r) (λ op c e a. bind (k c (ready a)) λ x d b. bind (operands f level q k n d (ready b.0)) λ xs m o. took (first in_operand xs (and (and a b.0) o) (in-operand _ _) (λ at. omega arith))) (took (less (begin s r) (λ at. omega arith)))

  operated : {s c d : Input} (x : Reading) (xs : List Operand) → ExpressionAt room s x c → At room c 0 0 d (sum_of in_operand xs) → ExpressionAt room s (e.operated x xs (record { begin = begin_of s.tokens; end = d.last })) d
  operated x [] a b = (less (and a.0 b) (λ at. omega arith), wider a.1 b)
  operated x (o ∷ os) a b = (finish (and a.0 b) (in-binary _ _ _) (λ at. omega arith), within (span-binary _ _ _))

  binary : (f : Flags) (role : Role) (up level : ℕ) (s : Input) → Ready room 0 s → Holds (ExpressionAt room s) (e.binary_from i f role up level s)
  unfolding e.binary_from
  binary f role zero level s r = power f role s r
  binary f role (suc up) level s r = bind (binary f role up _ s r) λ x c a. bind (operands f level _ (λ d k. binary f Among up _ d k) i.fuel c (ready a.0)) λ xs d b. took (operated x xs a b)

  conditional : (f : Flags) (s : Input) → Ready room 0 s → Holds (ExpressionAt room s) (e.conditional i f s)
  unfolding e.conditional e.branches
  conditional f s r = bind (binary f Leading 10 3 s r) λ x c a. next question _ a.0 (λ t d k b. bind (h.assignment (with_in f) d b.sorted) λ y m n. bind (take colon (and b n.counted)) λ u o v. bind (h.assignment f o v.sorted) λ z w j.
      took (finish (and v j.counted) (in-conditional _ _ _ _) (λ at. omega arith), within (span-conditional _ _ _ _))) (took a)

  -- ## Arrows, assignments and yield

  arrow_body : {s : Input} (f : Flags) (es : List Parameter) (c : Input) → At room s 0 0 c (sum_of in_parameter es) → Holds (ExpressionAt room s) (e.arrow_body i f (begin_of s.tokens) es c)
  unfolding e.arrow_body
  arrow_body f es c a = looks _ _ _ c (bind (h.block (of_function false) c a.sorted) λ b d m. took (finish (and a m.counted) (in-block_arrow _ _ _) (λ at. omega arith), within (span-of_arrow _ _ _)))
      (bind (h.assignment (of_arrow f) c a.sorted) λ x d m. took (finish (and a m.counted) (in-value_arrow _ _ _) (λ at. omega arith), within (span-of_arrow _ _ _)))

  arrow_if : {s : Input} (f : Flags) (x : Reading) (es : Refined (List Parameter)) (c : Input) → ExpressionAt room s x c → Below (sum_of in_parameter) es (in_expression x.value) → Holds (ExpressionAt room s) (e.arrow_if i f (begin_of s.tokens) x es c)
  arrow_if f x (Fits es) c a l = next arrow _ a.0 (λ t d k b. arrow_body f es d (less b l)) (refused-holds c)
  arrow_if f x (Misfit place) c a l = either (is_covered x.shape) _ _ c (refused-holds c) (took a)
  arrow_if f x TooNested c a l = fault

  pub fitting : {s : Input} {g : ℕ} {D : ℕ → ℕ} (p : Refined Pattern) (c : Input) → At room s 0 g c D → Below in_pattern p D → Holds (λ x d. At room s 0 g d (in_pattern x)) (e.fitting p c)
  fitting (Fits p) c a l = took (less a l)
  fitting (Misfit place) c a l = refused-holds c
  fitting TooNested c a l = fault

  assigned_with : {s : Input} (f : Flags) (x : Expression) (op : AssignOperator) (c : Input) → At room s 0 0 c (in_expression x) → Holds (ExpressionAt room s) (e.assigned_with i f (begin_of s.tokens) x op c)
  unfolding e.assigned_with
  assigned_with f x op c a = bind (fitting (target_before i.fuel op x) c a (before-below i.fuel op x)) λ p d b. bind (h.assignment f d b.sorted) λ y m n. took (finish (and b n.counted) (in-assign _ _ _ _) (λ at. omega arith), within (span-assign _ _ _ _))

  after_conditional : {s : Input} (f : Flags) (x : Reading) (c : Input) → ExpressionAt room s x c → Holds (ExpressionAt room s) (e.after_conditional i f (begin_of s.tokens) x c)
  unfolding e.after_conditional
  after_conditional f x c a = looks _ _ _ c (arrow_if f x (e.parameters_before i.fuel x.shape x.value) c a (parameters-before i.fuel x.shape x.value)) (either (is_left x.shape) _ _ c (next assign-operator _ a.0 (λ op d k b. assigned_with f _ op d b) (took a)) (took a))

  after_yield : {s : Input} {D : ℕ → ℕ} (f : Flags) (c : Input) → At room s 0 0 c D → Holds (ExpressionAt room s) (e.after_yield i f (begin_of s.tokens) c)
  unfolding e.after_yield
  after_yield f c a = next line-star _ a (λ t d k b. bind (h.assignment f d b.sorted) λ x m n. took (finish (and b n.counted) (in-delegate _ _) (λ at. omega arith), within (span-delegate _ _)))
      (looks _ _ _ c (bind (h.assignment f c a.sorted) λ x m n. took (finish (and a n.counted) (in-yield _ (Some x.value)) (λ at. omega arith), within (span-yield _ (Some x.value)))) (took (finish a (in-yield _ None) (λ at. omega arith), within (span-yield _ None))))

  without_yield : (f : Flags) (s : Input) → Ready room 0 s → Holds (ExpressionAt room s) (e.without_yield i f (begin_of s.tokens) s)
  unfolding e.without_yield
  without_yield f s r = bind (conditional f s r) λ x c a. after_conditional f x c a

  pub assignment : (f : Flags) (s : Input) → Ready room 0 s → Holds (ExpressionAt room s) (e.assignment i f s)
  unfolding e.assignment
  assignment f s r = either f.has_yield _ _ s (next (a-word (codes "yield")) _ (begin s r) (λ t c k a. after_yield f c a) (without_yield f s r)) (without_yield f s r)

  parts : (f : Flags) (n : ℕ) (s : Input) → Ready room 0 s → Holds (λ xs c. At room s 0 0 c (sum_of in_expression xs)) (e.parts i f n s)
  unfolding e.parts
  parts f zero s r = fault
  parts f (suc n) s r = bind (assignment f s r) λ x c a. next comma _ a.0 (λ t d k b. bind (parts f n d (ready b)) λ xs m o. took (less (and b o) (λ at. omega arith))) (took (less a.0 (λ at. omega arith)))

  pub sequence : (f : Flags) (s : Input) → Ready room 0 s → Holds (ExpressionAt room s) (e.sequence i f s)
  unfolding e.sequence e.more_parts
  sequence f s r = bind (assignment f s r) λ x c a. next comma _ a.0 (λ t d k b. bind (parts f i.fuel d (ready b)) λ xs m o. took (finish (and b o) (in-sequence _ _ _) (λ at. omega arith), within (span-sequence _ _ _))) (took a)

  -- ## Properties

  after_key : {s : Input} (f : Flags) (at : ℕ) (k : Key) (c : Input) → At room s 0 0 c (in_key k) → Holds (λ x d. At room s 0 0 d (in_property x)) (e.after_key i f at k c)
  unfolding e.after_key e.value_of_key e.method_of_key
  after_key f at k c a = next colon _ a (λ t d u b. bind (assignment (with_in f) d (ready b)) λ x m o. took (finish (and b o.0) (in-plain _ _ _) (λ at. omega arith)))
      (bind (method_after_key i room h _ false at k c a) λ m d b. took (finish b (in-defined _) (λ at. omega arith)))

  after_name : {s : Input} {D : ℕ → ℕ} (f : Flags) (at : ℕ) (n : Identifier) (c : Input) → At room s 0 0 c D → Holds (λ x d. At room s 0 0 d (in_property x)) (e.after_name i f at n c)
  unfolding e.after_name e.shorthand
  after_name f at n c a = looks _ _ _ c (after_key f at _ c (finish a (in-word_key _ _) (λ at. omega arith))) (next equals _ a (λ t d k b. bind (h.assignment (with_in f) d b.sorted) λ x m o. took (finish (and b o.counted) (in-initialized _ _ _ _) (λ at. omega arith))) (took (finish a (in-shorthand _ _) (λ at. omega arith))))

  pub property : (f : Flags) (s : Input) → Ready room 0 s → Holds (λ x c. At room s 0 0 c (in_property x)) (e.one_property i f s)
  unfolding e.one_property e.after_accessor_word
  property f s r = let a = begin s r in
      next a-star _ a (λ t c k b. bind (generator_method i room h f _ c b) λ m d o. took (finish o (in-defined _) (λ at. omega arith)))
      (next accessor-word _ a (λ setter c k b. looks _ _ _ c (after_name f _ _ c b) (bind (accessor i room h f _ setter c b) λ m d o. took (finish o (in-defined _) (λ at. omega arith))))
      (next free-name _ a (λ n c k b. after_name f _ _ c b) (bind (key i room h f s r) λ k c b. after_key f _ k c b)))

  -- ## Where the tokens end

  none-operand : (role : Role) → Nothing (λ s. e.no_operand {A = Reading} role s)
  none-operand role last = no_operand role (record { tokens = []; last = last })

  pub none-chain : (f : Flags) (role : Role) → Nothing (e.chain i f role)
  unfolding e.chain e.head e.primary e.composed e.bracketed
  none-chain f role last = bind (none-operand role last) λ x c z. absurd z

  none-update : (f : Flags) (role : Role) → Nothing (e.update i f role)
  unfolding e.update e.postfix
  none-update f role last = bind (none-chain f role last) λ x c z. absurd z

  pub none-unary : (f : Flags) → Nothing (e.unary i f)
  unfolding e.unary
  none-unary f last = none-update f Among last

  pub none-power : (f : Flags) (role : Role) → Nothing (e.power i f role)
  unfolding e.power
  none-power f role last = bind (none-update f role last) λ x c z. absurd z

  none-binary : (f : Flags) (role : Role) (up level : ℕ) → Nothing (e.binary_from i f role up level)
  unfolding e.binary_from
  none-binary f role zero level last = none-power f role last
  none-binary f role (suc up) level last = bind (none-binary f role up _ last) λ x c z. absurd z

  none-without : (f : Flags) (at : ℕ) → Nothing (e.without_yield i f at)
  unfolding e.without_yield e.conditional
  none-without f at last = bind (bind (none-binary f Leading 10 3 last) λ x c z. absurd z) λ x c z. absurd z

  pub none-assignment : (f : Flags) → Nothing (e.assignment i f)
  unfolding e.assignment
  none-assignment f last = either f.has_yield _ _ _ (none-without f _ last) (none-without f _ last)

  pub none-sequence : (f : Flags) → Nothing (e.sequence i f)
  unfolding e.sequence
  none-sequence f last = bind (none-assignment f last) λ x c z. absurd z
