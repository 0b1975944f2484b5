-- What the readers of operators, arrows, assignments and commas give is derived, if the readers for one construct deeper are sound.
use Rattle.std.proofs.Common.{◌≡◌, ℕ, zero, suc, ◌+◌, ◌≤◌, Bool, true, false, ◌||◌, not, cond, List, [], ◌∷◌, Option, Some, None, refl, sym, ap, subst, arith}
use Rattle.std.specs.Prelude.{codes}
use Rattle.es_text.specs.declared.Span.{Span}
use Rattle.es6_lexer.specs.declared.token.TokenKind.TheVariants as kinds
use Rattle.es6_lexer.specs.declared.token.Punctuator.TheVariants as marks
use Rattle.es6_ast.specs.declared.operators.UnaryOperator.{UnaryOperator}
use Rattle.es6_ast.specs.declared.operators.UpdateOperator.{UpdateOperator}
use Rattle.es6_ast.specs.declared.operators.UpdateOperator.TheVariants.{IncrementBefore, DecrementBefore, IncrementAfter, DecrementAfter}
use Rattle.es6_ast.specs.declared.operators.BinaryOperator.{BinaryOperator}
use Rattle.es6_ast.specs.declared.operators.BinaryOperator.TheVariants as binary
use Rattle.es6_ast.specs.declared.operators.AssignOperator.{AssignOperator}
use Rattle.es6_ast.specs.declared.tree.Arrow.{roll-Arrow}
use Rattle.es6_ast.specs.declared.tree.ArrowBody.{ArrowBody}
use Rattle.es6_ast.specs.declared.tree.Expression.{Expression}
use Rattle.es6_ast.specs.declared.tree.Expression.TheVariants as expr
use Rattle.es6_ast.specs.declared.tree.Operand.{Operand, roll-Operand}
use Rattle.es6_ast.specs.declared.tree.Parameter.{Parameter}
use Rattle.es6_ast.specs.declared.tree.Pattern.{Pattern}
use Rattle.es6_ast.specs.declared.settings.Flags.{Flags}
use Rattle.es6_ast.specs.declared.settings.Role.{Role}
use Rattle.es6_ast.specs.declared.settings.Role.TheVariants.{Leading, Among}
use Rattle.es6_ast.specs.Tokens.{Filling, Read, Filled, IsWord, IsMark, IsOnLine, is_left_brace, across, begin_of}
use Rattle.es6_ast.specs.Grammar as g
use Rattle.es6_ast.specs.Grammar.{with_in, of_function, of_arrow, level_sequence, level_assignment, level_conditional, level_power, level_unary, level_update, level_left_hand_side, unary_kind, update_kind, binary_kind, assign_kind, is_before, NotBrace, IsName, IsExpression, IsNode, AreOperands, AreMore, AreArrowParameters, IsArrowBody, IsAssigned, IsKey}
use Rattle.es6_reading.specs.Parser.{Input, Parser, next_is, is_mark, mark, next_mark, is_left, is_covered, after, refused, Reading, Inner}
use Rattle.es6_reading.specs.Words.{unary_at, before_at, after_at, assign_at, binary_at, is_arrow, arrow_at}
use Rattle.es6_reading.specs.Refine.{Refined, Fits, Misfit, TooNested, target_before}
use Rattle.es6_reading.specs.Expressions.{other, postfix, prefixed, updated, update, unary, raised, power, operands, operated, binary_from, branches, conditional, parameters_before, arrow_body, arrow_if, fitting, assigned_with, after_conditional, star_at, ends_value, ends_yield, after_yield, without_yield, assignment, parts, more_parts, sequence}
use Rattle.es6_reading.proofs.Posts.{Holds, took, fault, both, bind, weaken, choose-holds, if-holds, refused-holds}
use Rattle.es6_reading.proofs.Meanings.{unary-means, before-means, after-means, assign-means, IsOperator, binary-means, IsArrow, arrow-means, mark-means, or_false, not_true}
use Rattle.es6_reading.proofs.Spans.{Moves, ◌⟫◌, span-across}
use Rattle.es6_reading.proofs.Derived.{Uncovered, by-token, by-shape, ReadIn, ReadAmong, among, ReadWhole, Sound, Next, next, on-means, one, not-arrow, IsKind, on-mark, take-mark, on-word}
use Rattle.es6_reading.proofs.Refinement.{refinement}
use Rattle.es6_reading.proofs.SoundPrimary.{lower, refined-so}
use Rattle.es6_reading.proofs.Uncovered.{uncovered, plain-unary, plain-power, plain-binary}
use Rattle.es6_reading.proofs.SoundChains.{sound-chain}

-- ## What is read, at other levels

pub lower-read : (f : Flags) (a b : ℕ) {s c : Input} {x : Reading} → a ≤ b → ReadIn f b s x c → ReadIn f a s x c
lower-read f a b h r = record { moves = r.moves; derived = λ k. lower f a b h (r.derived k); left_side = r.left_side; named = r.named; parameters = r.parameters }

-- an expression that is no left-hand side
other-read : (f : Flags) (least level : ℕ) {s c : Input} {x : Expression} → least ≤ level → Moves s c → IsNode f level s.tokens x c.tokens → ReadIn f least s (other x) c
other-read f least level h m d = record {
  moves = m;
  derived = λ k. g.at_level level _ h d;
  left_side = λ e. absurd (cc);
  named = λ label e. absurd (cc);
  parameters = λ n es e. absurd (cc);
}

other-whole : (f : Flags) (least level : ℕ) {s c : Input} {x : Expression} → least ≤ level → Moves s c → IsNode f level s.tokens x c.tokens → ReadWhole f least s (other x) c
other-whole f least level h m d = record { moves = m; derived = g.at_level level _ h d; left_side = λ e. absurd (cc); named = λ label e. absurd (cc) }

lower-whole : (f : Flags) (a b : ℕ) {s c : Input} {x : Reading} → a ≤ b → ReadWhole f b s x c → ReadWhole f a s x c
lower-whole f a b h r = record { moves = r.moves; derived = lower f a b h r.derived; left_side = r.left_side; named = r.named }

-- ## Which operators are no arrow

update-no-arrow : (op : UpdateOperator) → is_mark marks.Arrow (Read (update_kind op)) ≡ false
update-no-arrow IncrementBefore = refl
update-no-arrow DecrementBefore = refl
update-no-arrow IncrementAfter = refl
update-no-arrow DecrementAfter = refl

binary-no-arrow : (op : BinaryOperator) → is_mark marks.Arrow (Read (binary_kind op)) ≡ false
binary-no-arrow binary.Or = refl
binary-no-arrow binary.And = refl
binary-no-arrow binary.BitOr = refl
binary-no-arrow binary.BitXor = refl
binary-no-arrow binary.BitAnd = refl
binary-no-arrow binary.Equal = refl
binary-no-arrow binary.NotEqual = refl
binary-no-arrow binary.Same = refl
binary-no-arrow binary.NotSame = refl
binary-no-arrow binary.Less = refl
binary-no-arrow binary.Greater = refl
binary-no-arrow binary.AtMost = refl
binary-no-arrow binary.AtLeast = refl
binary-no-arrow binary.InstanceOf = refl
binary-no-arrow binary.In = refl
binary-no-arrow binary.ShiftLeft = refl
binary-no-arrow binary.ShiftRight = refl
binary-no-arrow binary.ShiftRightUnsigned = refl
binary-no-arrow binary.Add = refl
binary-no-arrow binary.Subtract = refl
binary-no-arrow binary.Multiply = refl
binary-no-arrow binary.Divide = refl
binary-no-arrow binary.Remainder = refl

-- ## Unary and update operators

abbrev IsAfter : UpdateOperator → Filled → Type 0
IsAfter op t = IsKind (update_kind op) t × (is_before op ≡ false) × (t.newline ≡ false)

postfix-rule : (f : Flags) (op : UpdateOperator) {s a c : Input} (x : Reading) → ReadIn f level_left_hand_side s x a → Next (IsAfter op) a c → ReadIn f level_update s (other (expr.Update (record { begin = begin_of s.tokens; end = c.last }) op x.value)) c
postfix-rule f op x r (next {t = t} e) = other-read f level_update level_update (omega arith) (r.moves ⟫ one)
    (g.update_after op x.value _ e.1 (r.derived (by-token x.shape (not-arrow (update_kind op) t e.0 (update-no-arrow op)))) e.0 e.2 (ap (λ span. expr.Update span op x.value) (span-across (r.moves ⟫ one))))

sound-postfix : (i : Inner) (sound : Sound i) (f : Flags) (role : Role) (s : Input) → Holds (ReadIn f level_update s) (postfix i f role s)
unfolding postfix
sound-postfix i sound f role s = bind (sound-chain i sound f role s) λ x a r. on-means after_at IsAfter after-means _ _ a
    (λ op c h. took (postfix-rule f op x r h))
    (λ m. took (lower-read-up f r))
  where
    lower-read-up : (f : Flags) {s c : Input} {x : Reading} → ReadIn f level_left_hand_side s x c → ReadIn f level_update s x c
    lower-read-up f r = lower-read f level_update level_left_hand_side (omega arith) r

prefixed-rule : (f : Flags) (op : UnaryOperator) {s a c : Input} (x : Reading) → Next (IsKind (unary_kind op)) s a → ReadAmong f level_unary a x c → ReadIn f level_unary s (other (expr.Unary (record { begin = begin_of s.tokens; end = c.last }) op x.value)) c
prefixed-rule f op x (next {t = t} e) r = other-read f level_unary level_unary (omega arith) (one ⟫ r.moves) (g.unary op x.value _ e r.derived (ap (λ span. expr.Unary span op x.value) (span-across (one {t = t} {last = 0} ⟫ r.moves))))

sound-prefixed : (i : Inner) (sound : Sound i) (f : Flags) (op : UnaryOperator) (s a : Input) → Next (IsKind (unary_kind op)) s a → Holds (ReadIn f level_unary s) (prefixed i f (begin_of s.tokens) op a)
unfolding prefixed
sound-prefixed i sound f op s a h = bind (sound.unary f a) λ x c r. took (prefixed-rule f op x h r)

abbrev IsBefore : UpdateOperator → Filled → Type 0
IsBefore op t = IsKind (update_kind op) t × (is_before op ≡ true)

updated-rule : (f : Flags) (op : UpdateOperator) {s a c : Input} (x : Reading) → Next (IsBefore op) s a → ReadAmong f level_unary a x c → ReadIn f level_update s (other (expr.Update (record { begin = begin_of s.tokens; end = c.last }) op x.value)) c
updated-rule f op x (next {t = t} e) r = other-read f level_update level_update (omega arith) (one ⟫ r.moves) (g.update_before op x.value _ e.1 e.0 r.derived (ap (λ span. expr.Update span op x.value) (span-across (one {t = t} {last = 0} ⟫ r.moves))))

sound-update : (i : Inner) (sound : Sound i) (f : Flags) (role : Role) (s : Input) → Holds (ReadIn f level_update s) (update i f role s)
unfolding update updated
sound-update i sound f role s = on-means before_at IsBefore before-means _ _ s (λ op a h. bind (sound.unary f a) λ x c r. took (updated-rule f op x h r)) (λ m. sound-postfix i sound f role s)

any-unary : (i : Inner) (sound : Sound i) (f : Flags) (s : Input) → Holds (ReadIn f level_unary s) (unary i f s)
unfolding unary
any-unary i sound f s = on-means unary_at (λ op t. IsKind (unary_kind op) t) unary-means _ _ s
    (λ op a h. sound-prefixed i sound f op s a h)
    (λ m. weaken (sound-update i sound f Among s) (λ x c r. lower-read f level_unary level_update (omega arith) r))

pub sound-unary : (i : Inner) (sound : Sound i) (f : Flags) (s : Input) → Holds (ReadAmong f level_unary s) (unary i f s)
sound-unary i sound f s = weaken (both (any-unary i sound f s) (plain-unary i sound f s)) (λ x c r. among r.0 (uncovered r.1))

-- ## Powers

raised-rule : (f : Flags) {s a b c : Input} (x y : Reading) → ReadIn f level_update s x a → Next (IsMark marks.StarStar) a b → ReadAmong f level_power b y c → ReadIn f level_power s (other (expr.Power (record { begin = begin_of s.tokens; end = c.last }) x.value y.value)) c
raised-rule f x y r (next {t = t} p) r' = other-read f level_power level_power (omega arith) (r.moves ⟫ one ⟫ r'.moves)
    (g.power x.value y.value _ (r.derived (by-token x.shape (not-arrow (kinds.Punctuator marks.StarStar) t p refl))) p r'.derived (ap (λ span. expr.Power span x.value y.value) (span-across (r.moves ⟫ one ⟫ r'.moves))))

any-power : (i : Inner) (sound : Sound i) (f : Flags) (role : Role) (s : Input) → Holds (ReadIn f level_power s) (power i f role s)
unfolding power raised
any-power i sound f role s = on-means unary_at (λ op t. IsKind (unary_kind op) t) unary-means _ _ s
    (λ op a h. weaken (sound-prefixed i sound f op s a h) (λ x c r. lower-read f level_power level_unary (omega arith) r))
    (λ m. bind (sound-update i sound f role s) λ x a r. on-mark _ _ _ a
    (λ t b p. bind (sound.power f b) λ y c r'. took (raised-rule f x y r p r'))
    (λ m. took (lower-read f level_power level_update (omega arith) r)))

pub sound-power : (i : Inner) (sound : Sound i) (f : Flags) (s : Input) → Holds (ReadAmong f level_power s) (power i f Among s)
sound-power i sound f s = weaken (both (any-power i sound f Among s) (plain-power i sound f Among refl s)) (λ x c r. among r.0 (uncovered r.1))

-- ## Binary operators

-- operators, each with its operand
data OperandsIn (f : Flags) (level : ℕ) : Input → List Operand → Input → Type 0 where
  no_operand_in : {s : Input} → OperandsIn f level s [] s
  operands_in : {s c : Input} {o : Operand} {os : List Operand} → Moves s c → next_is is_arrow s.tokens ≡ false → AreOperands f level s.tokens (o ∷ os) c.tokens → OperandsIn f level s (o ∷ os) c

operand-rule : (f : Flags) (level : ℕ) (op : BinaryOperator) {s a b c : Input} (x : Reading) {os : List Operand} → Next (IsOperator f level op) s a → ReadAmong f (level + 1) a x b → OperandsIn f level b os c
    → OperandsIn f level s (roll-Operand (record { operator = op; value = x.value }) ∷ os) c
operand-rule f level op x (next {t = t} e) r no_operand_in = operands_in (one ⟫ r.moves) (not-arrow (binary_kind op) t e.0 (binary-no-arrow op)) (g.next_operand op x.value _ _ e.1 e.2 e.0 r.derived refl g.no_operand)
operand-rule f level op x (next {t = t} e) r (operands_in m n d) = operands_in (one ⟫ r.moves ⟫ m) (not-arrow (binary_kind op) t e.0 (binary-no-arrow op)) (g.next_operand op x.value _ _ e.1 e.2 e.0 r.derived refl d)

sound-operands : (f : Flags) (level : ℕ) (operand : Parser Reading) (sound : (s : Input) → Holds (ReadAmong f (level + 1) s) (operand s)) (turns : ℕ) (s : Input) → Holds (OperandsIn f level s) (operands operand f level turns s)
unfolding operands
sound-operands f level operand sound zero s = fault
sound-operands f level operand sound (suc turns) s = on-means (binary_at f level) (IsOperator f level) (binary-means f level) _ _ s
    (λ op a h. bind (sound a) λ x b r. bind (sound-operands f level operand sound turns b) λ os c d. took (operand-rule f level op x h r d))
    (λ m. took no_operand_in)

binary-rule : (f : Flags) (level : ℕ) {s b c : Input} (x : Reading) {os : List Operand} → ReadIn f (level + 1) s x b → OperandsIn f level b os c → ReadIn f level s (operated x os (record { begin = begin_of s.tokens; end = c.last })) c
binary-rule f level x r no_operand_in = lower-read f level (level + 1) (omega arith) r
binary-rule f level x r (operands_in {o = o} {os = os} m n d) = other-read f level level (omega arith) (r.moves ⟫ m) (g.binary_chain x.value _ _ _ (r.derived (by-token x.shape n)) d (ap (λ span. expr.Binary span x.value (o ∷ os)) (span-across (r.moves ⟫ m))))

sound-binary : (i : Inner) (sound : Sound i) (f : Flags) (role : Role) (above level : ℕ) → above + level ≡ level_power → (s : Input) → Holds (ReadIn f level s) (binary_from i f role above level s)
unfolding binary_from
sound-binary i sound f role zero level e s = subst (λ l. Holds (ReadIn f l s) (power i f role s)) (last-level level e) (any-power i sound f role s)
  where
    last-level : (level : ℕ) → zero + level ≡ level_power → level_power ≡ level
    last-level level e = omega arith
sound-binary i sound f role (suc above) level e s =
    let deeper : above + (level + 1) ≡ level_power = next-level above level e in
    bind (sound-binary i sound f role above (level + 1) deeper s) λ x b r.
    bind (sound-operands f level (binary_from i f Among above (level + 1)) (λ a. weaken (both (sound-binary i sound f Among above (level + 1) deeper a) (plain-binary i sound f Among refl above (level + 1) a)) (λ y c k. among k.0 (uncovered k.1))) i.fuel b) λ os c d.
    took (binary-rule f level x r d)
  where
    next-level : (above level : ℕ) → suc above + level ≡ level_power → above + (level + 1) ≡ level_power
    next-level above level e = omega arith

-- ## Conditional expressions

conditional-rule : (f : Flags) {s a b c d e : Input} (x y z : Reading) → ReadIn f (level_conditional + 1) s x a → Next (IsMark marks.Question) a b → ReadWhole (with_in f) level_assignment b y c → Next (IsMark marks.Colon) c d → ReadWhole f level_assignment d z e
    → ReadIn f level_conditional s (other (expr.Conditional (record { begin = begin_of s.tokens; end = e.last }) x.value y.value z.value)) e
conditional-rule f x y z r (next {t = t} q) r' (next p) r'' = other-read f level_conditional level_conditional (omega arith) (r.moves ⟫ one ⟫ r'.moves ⟫ one ⟫ r''.moves)
    (g.conditional x.value y.value z.value _ (r.derived (by-token x.shape (not-arrow (kinds.Punctuator marks.Question) t q refl))) q r'.derived p r''.derived (ap (λ span. expr.Conditional span x.value y.value z.value) (span-across (r.moves ⟫ one ⟫ r'.moves ⟫ one ⟫ r''.moves))))

sound-conditional : (i : Inner) (sound : Sound i) (f : Flags) (s : Input) → Holds (ReadIn f level_conditional s) (conditional i f s)
unfolding conditional branches
sound-conditional i sound f s = bind (sound-binary i sound f Leading 10 3 refl s) λ x a r. on-mark _ _ _ a
    (λ t b q. bind (sound.assignment (with_in f) b) λ y c r'. bind (take-mark _ c) λ u d p. bind (sound.assignment f d) λ z e r''. took (conditional-rule f x y z r q r' p r''))
    (λ m. took (lower-read f level_conditional (level_conditional + 1) (omega arith) r))

-- ## Arrow functions

not-brace : (k : Filling) → is_mark marks.LeftBrace k ≡ false → is_left_brace k ≡ false
not-brace (Read (kinds.Punctuator marks.LeftBrace)) h = absurd (cc)
not-brace k h = refl

begins-no-brace : (ts : List Filled) → next_is (next_mark marks.LeftBrace) ts ≡ false → NotBrace ts
begins-no-brace [] h = refl
begins-no-brace (t ∷ ts) h = not-brace t.kind h

abbrev arrow_of : List Parameter → ArrowBody → Span → Expression
arrow_of es body span = expr.Arrow (roll-Arrow (record { span = span; parameters = es; body = body }))

-- the parameters and the arrow
data ArrowHead (f : Flags) (s : Input) (es : List Parameter) : Input → Type 0 where
  arrow_head : {a c : Input} → Moves s a → AreArrowParameters f s.tokens es a.tokens → Next IsArrow a c → ArrowHead f s es c

arrow-rule : (f : Flags) {s a c : Input} {es : List Parameter} {body : ArrowBody} → ArrowHead f s es a → Moves a c → IsArrowBody f a.tokens body c.tokens → ReadWhole f level_assignment s (other (arrow_of es body (record { begin = begin_of s.tokens; end = c.last }))) c
arrow-rule f {es = es} {body = body} (arrow_head m d (next e)) m' d' = other-whole f level_assignment level_assignment (omega arith) (m ⟫ one ⟫ m') (g.arrow es body _ d e.0 e.1 d' (ap (arrow_of es body) (span-across (m ⟫ one ⟫ m'))))

sound-arrow-body : (i : Inner) (sound : Sound i) (f : Flags) (es : List Parameter) (s a : Input) → ArrowHead f s es a → Holds (ReadWhole f level_assignment s) (arrow_body i f (begin_of s.tokens) es a)
unfolding arrow_body
sound-arrow-body i sound f es s a h = if-holds _ _ _ a
    (λ k. bind (sound.block (of_function false) a) λ b c d. took (arrow-rule f h d.0 (g.block_body b _ d.1 refl)))
    (λ k. bind (sound.assignment (of_arrow f) a) λ x c r. took (arrow-rule f h r.moves (g.value_body x.value _ (begins-no-brace a.tokens k) r.derived refl)))

whole-of : (f : Flags) {s c : Input} {x : Reading} → Uncovered x.shape c → ReadIn f level_conditional s x c → ReadWhole f level_assignment s x c
whole-of f h r = record { moves = r.moves; derived = lower f level_assignment level_conditional (omega arith) (r.derived h); left_side = r.left_side; named = r.named }

sound-arrow-if : (i : Inner) (sound : Sound i) (f : Flags) (x : Reading) (r : Refined (List Parameter)) (s a : Input) → ReadIn f level_conditional s x a → ((es : List Parameter) → r ≡ Fits es → AreArrowParameters f s.tokens es a.tokens) → Holds (ReadWhole f level_assignment s) (arrow_if i f (begin_of s.tokens) x r a)
sound-arrow-if i sound f x (Fits es) s a m d = on-means arrow_at (λ u t. IsArrow t) (λ u t h. arrow-means t u h) _ _ a (λ u c h. sound-arrow-body i sound f es s c (arrow_head m.moves (d es refl) h)) (λ k. refused-holds a)
sound-arrow-if i sound f x (Misfit place) s a m d = choose-holds _ _ (is_covered x.shape) a (λ k. refused-holds a) (λ k. took (whole-of f (by-shape x.shape _ k) m))
sound-arrow-if i sound f x TooNested s a m d = fault

-- ## Assignments

assigned-rule : (f : Flags) (op : AssignOperator) (p : Pattern) {s a b c : Input} (y : Reading) → Moves s a → IsAssigned f op s.tokens p a.tokens → Next (IsKind (assign_kind op)) a b → ReadWhole f level_assignment b y c
    → ReadWhole f level_assignment s (other (expr.Assign (record { begin = begin_of s.tokens; end = c.last }) op p y.value)) c
assigned-rule f op p y m d (next e) r = other-whole f level_assignment level_assignment (omega arith) (m ⟫ one ⟫ r.moves) (g.assignment op p y.value _ d e r.derived (ap (λ span. expr.Assign span op p y.value) (span-across (m ⟫ one ⟫ r.moves))))

-- what a refinement gives, and what is read after it
pub fitting-holds : {A B : Type 0} {Q : B → Input → Type 0} (r : Refined A) (k : A → Parser B) (s : Input) → ((x : A) → r ≡ Fits x → Holds Q (k x s)) → Holds Q (after (fitting r s) k)
unfolding refused
fitting-holds (Fits x) k s f = f x refl
fitting-holds (Misfit place) k s f = fault
fitting-holds TooNested k s f = fault

sound-assigned : (i : Inner) (sound : Sound i) (f : Flags) (op : AssignOperator) (x : Expression) (s a b : Input) → Moves s a → IsExpression f level_left_hand_side s.tokens x a.tokens → Next (IsKind (assign_kind op)) a b → Holds (ReadWhole f level_assignment s) (assigned_with i f (begin_of s.tokens) x op b)
unfolding assigned_with
sound-assigned i sound f op x s a b m d h = fitting-holds (target_before i.fuel op x) _ b λ p e. bind (sound.assignment f b) λ y c r. took (assigned-rule f op p y m (refined-so (refinement.assigned i.fuel f op s.tokens a.tokens x d) e) h r)

sound-after-conditional : (i : Inner) (sound : Sound i) (f : Flags) (x : Reading) (s a : Input) → ReadIn f level_conditional s x a → Holds (ReadWhole f level_assignment s) (after_conditional i f (begin_of s.tokens) x a)
unfolding after_conditional
sound-after-conditional i sound f x s a r = if-holds _ _ _ a
    (λ h. sound-arrow-if i sound f x (parameters_before i.fuel x.shape x.value) s a r (λ es e. r.parameters i.fuel es e))
    (λ h. choose-holds _ _ (is_left x.shape) a
    (λ l. on-means assign_at (λ op t. IsKind (assign_kind op) t) assign-means _ _ a (λ op b e. sound-assigned i sound f op x.value s a b r.moves (r.left_side l) e) (λ m. took (whole-of f (by-token x.shape h) r)))
    (λ l. took (whole-of f (by-token x.shape h) r)))

-- ## Yield

abbrev IsStarOnLine : Filled → Type 0
IsStarOnLine t = IsMark marks.Star t × IsOnLine t

cond-star : (b : Bool) (o : Option Filled) (u : Filled) → cond b None o ≡ Some u → (b ≡ false) × (o ≡ Some u)
cond-star true o u h = absurd (cc)
cond-star false o u h = (refl, h)

star-means : (t u : Filled) → star_at t ≡ Some u → IsStarOnLine t
star-means t u h = let e = cond-star t.newline (mark marks.Star t) u h in ((mark-means marks.Star t u e.1).0, e.0)

delegate-rule : (f : Flags) {s a b c : Input} (x : Reading) → f.has_yield ≡ true → Next (IsWord (codes "yield")) s a → Next IsStarOnLine a b → ReadWhole f level_assignment b x c
    → ReadWhole f level_assignment s (other (expr.Delegate (record { begin = begin_of s.tokens; end = c.last }) x.value)) c
delegate-rule f x may (next {t = t} w) (next {t = u} e) r = other-whole f level_assignment level_assignment (omega arith) (one ⟫ one ⟫ r.moves)
    (g.delegate x.value _ may w e.0 e.1 r.derived (ap (λ span. expr.Delegate span x.value) (span-across (one {t = t} {last = 0} ⟫ one {t = u} ⟫ r.moves))))

-- the next token stands on the line of the `yield`
data OnLine : List Filled → Type 0 where
  on_line : {t : Filled} {ts : List Filled} → IsOnLine t → OnLine (t ∷ ts)

goes-on-line : (ts : List Filled) → next_is (λ t. not (ends_yield t)) ts ≡ true → OnLine ts
unfolding ends_yield
goes-on-line [] h = absurd (cc)
goes-on-line (t ∷ ts) h = on_line (or_false t.newline (ends_value t.kind) (not_true (t.newline || ends_value t.kind) h)).0

value-node : (f : Flags) {t : Filled} {ts us : List Filled} (x : Expression) → f.has_yield ≡ true → IsWord (codes "yield") t → OnLine ts → IsExpression f level_assignment ts x us → IsNode f level_assignment (t ∷ ts) (expr.Yield (across (t ∷ ts) us) (Some x)) us
value-node f x may w (on_line o) d = g.yield_value x _ may w o d refl

value-rule : (f : Flags) {s a c : Input} (x : Reading) → f.has_yield ≡ true → Next (IsWord (codes "yield")) s a → OnLine a.tokens → ReadWhole f level_assignment a x c
    → ReadWhole f level_assignment s (other (expr.Yield (record { begin = begin_of s.tokens; end = c.last }) (Some x.value))) c
value-rule f {c = c} x may (next {t = t} {ts = ts} {last = last} w) o r =
    let moves = one {t = t} {ts = ts} {last = last} ⟫ r.moves in
    other-whole f level_assignment level_assignment (omega arith) moves (subst (λ span. IsNode f level_assignment (t ∷ ts) (expr.Yield span (Some x.value)) c.tokens) (sym (span-across moves)) (value-node f x.value may w o r.derived))

bare-rule : (f : Flags) {s a : Input} → f.has_yield ≡ true → Next (IsWord (codes "yield")) s a → ReadWhole f level_assignment s (other (expr.Yield (record { begin = begin_of s.tokens; end = a.last }) None)) a
bare-rule f may (next w) = other-whole f level_assignment level_assignment (omega arith) one (g.yield _ may w refl)

sound-yield : (i : Inner) (sound : Sound i) (f : Flags) (s a : Input) → f.has_yield ≡ true → Next (IsWord (codes "yield")) s a → Holds (ReadWhole f level_assignment s) (after_yield i f (begin_of s.tokens) a)
unfolding after_yield
sound-yield i sound f s a may w = on-means star_at (λ u t. IsStarOnLine t) (λ u t h. star-means t u h) _ _ a
    (λ u b h. bind (sound.assignment f b) λ x c r. took (delegate-rule f x may w h r))
    (λ m. if-holds _ _ _ a
    (λ h. bind (sound.assignment f a) λ x c r. took (value-rule f x may w (goes-on-line a.tokens h) r))
    (λ h. took (bare-rule f may w)))

sound-without-yield : (i : Inner) (sound : Sound i) (f : Flags) (s : Input) → Holds (ReadWhole f level_assignment s) (without_yield i f (begin_of s.tokens) s)
unfolding without_yield
sound-without-yield i sound f s = bind (sound-conditional i sound f s) λ x a r. sound-after-conditional i sound f x s a r

-- AssignmentExpression
pub sound-assignment : (i : Inner) (sound : Sound i) (f : Flags) (s : Input) → Holds (ReadWhole f level_assignment s) (assignment i f s)
unfolding assignment
sound-assignment i sound f s = choose-holds _ _ f.has_yield s
    (λ may. on-word _ _ _ s (λ t a w. sound-yield i sound f s a may w) (λ m. sound-without-yield i sound f s))
    (λ may. sound-without-yield i sound f s)

-- ## Commas

-- the parts of an expression after a comma
data PartsIn (f : Flags) : Input → List Expression → Input → Type 0 where
  parts_in : {s c : Input} {x : Expression} {xs : List Expression} → Moves s c → ((t : Filled) → IsMark marks.Comma t → AreMore f (t ∷ s.tokens) (x ∷ xs) c.tokens) → PartsIn f s (x ∷ xs) c

parts-last : (f : Flags) {s c : Input} (x : Reading) → ReadWhole f level_assignment s x c → PartsIn f s (x.value ∷ []) c
parts-last f x r = parts_in r.moves (λ t p. g.one_more_part x.value [] p r.derived g.no_more_parts)

parts-next : (f : Flags) {s a b c : Input} (x : Reading) {xs : List Expression} → ReadWhole f level_assignment s x a → Next (IsMark marks.Comma) a b → PartsIn f b xs c → PartsIn f s (x.value ∷ xs) c
parts-next f x r (next {t = u} e) (parts_in m k) = parts_in (r.moves ⟫ one ⟫ m) (λ t p. g.one_more_part x.value _ p r.derived (k u e))

sound-parts : (i : Inner) (sound : Sound i) (f : Flags) (turns : ℕ) (s : Input) → Holds (PartsIn f s) (parts i f turns s)
unfolding parts
sound-parts i sound f zero s = fault
sound-parts i sound f (suc turns) s = bind (sound-assignment i sound f s) λ x a r. on-mark _ _ _ a
    (λ t b p. bind (sound-parts i sound f turns b) λ xs c d. took (parts-next f x r p d))
    (λ m. took (parts-last f x r))

sequence-rule : (f : Flags) {s a b c : Input} (x : Reading) {xs : List Expression} → ReadWhole f level_assignment s x a → Next (IsMark marks.Comma) a b → PartsIn f b xs c
    → ReadWhole f level_sequence s (other (expr.Sequence (record { begin = begin_of s.tokens; end = c.last }) x.value xs)) c
sequence-rule f x r (next {t = u} e) (parts_in {x = y} {xs = ys} m k) = other-whole f level_sequence level_sequence (omega arith) (r.moves ⟫ one ⟫ m)
    (g.sequence x.value _ _ _ r.derived (k u e) (ap (λ span. expr.Sequence span x.value (y ∷ ys)) (span-across (r.moves ⟫ one ⟫ m))))

-- Expression
pub sound-sequence : (i : Inner) (sound : Sound i) (f : Flags) (s : Input) → Holds (ReadWhole f level_sequence s) (sequence i f s)
unfolding sequence more_parts
sound-sequence i sound f s = bind (sound-assignment i sound f s) λ x a r. on-mark _ _ _ a
    (λ t b p. bind (sound-parts i sound f i.fuel b) λ xs c d. took (sequence-rule f x r p d))
    (λ m. took (lower-whole f level_sequence level_assignment (omega arith) r))
