-- What the readers of operators give is derived at their level.
use Rattle.std.proofs.Common.{◌≡◌, ℕ, zero, suc, ◌+◌, ◌≤◌, Bool, true, false, ◌&&◌, List, [], ◌∷◌, refl, sym, subst, ◌∙◌, arith}
use Rattle.std.specs.Prelude.{codes}
use Rattle.es5_ast.specs.declared.operators.UnaryOperator5.{UnaryOperator5}
use Rattle.es5_ast.specs.declared.operators.UpdateOperator5.{UpdateOperator5}
use Rattle.es5_ast.specs.declared.operators.BinaryOperator5.{BinaryOperator5}
use Rattle.es5_ast.specs.declared.operators.AssignOperator5.{AssignOperator5}
use Rattle.es5_ast.specs.declared.operators.Key5.TheVariants as keys
use Rattle.es5_ast.specs.declared.tree.PlacedKey5.{PlacedKey5}
use Rattle.es5_ast.specs.declared.tree.Expr5.{Expr5}
use Rattle.es5_ast.specs.declared.tree.Expr5.TheVariants as expr
use Rattle.es5_ast.specs.declared.tree.Operand5.{Operand5, roll-Operand5}
use Rattle.es5_ast.specs.Lexical.{Token5}
use Rattle.es5_ast.specs.Grammar as g
use Rattle.es5_ast.specs.Grammar.{Mode5, Exact, IsExpr, IsNode, IsNewCallee, IsIdentifier, AreLinks, AreOperands, AreParts, IsMark, IsWord, is_mark, is_identifier, is_before, is_in, unary_kind, update_kind, assign_kind, binary_kind, binary_level, literal_kind, key_kind, begin_of, link_sites, chain_level}
use Rattle.es5_ast.specs.Within.{NewCalleeWithin, OperandsWithin, PartsWithin}
use Rattle.es5_reading.specs.Parser.{Input5, Parser, next_is, next_mark, Read5, is_left, Inner5}
use Rattle.es5_reading.specs.Expressions.{unary_at, before_at, after_at, assign_at, binary_at, accessor_at, accessor_name, other, postfix, prefixed, updated, unary, operands, operated, binary_from, branches, conditional, assigned, assignment, parts, more_parts, sequence, value_of_key, plain_property, after_accessor_word, one_property, accessor}
use Rattle.es5_reading.proofs.Posts.{Holds, took, fault, bind, choose-holds}
use Rattle.es5_reading.proofs.Meanings.{unary-means, before-means, after-means, assign-means, binary-means, accessor-means}
use Rattle.es5_reading.proofs.Spans.{Moves, Goes, stays, goes, goes-on, then-goes, ◌⟫◌, span-across}
use Rattle.es5_reading.proofs.Derived.{ExprIn, ReadIn, ReadOpen, lower, node, lower_read, other_read, Next, next, on-means, one, step, on-mark, take-mark}
use Rattle.es5_reading.proofs.SoundParts.{CalleeOpen, Sound, IsKind, KeyIn, key-rule, sound-key, PropertyIn, sound-accessor-function, accessor-property-rule, plain-property-rule}
use Rattle.es5_reading.proofs.SoundOperators.{ChainIn, whole_chain, bare_new, ChainRead, sound-chain, expr-to}
use Rattle.std.proofs.lemmas.Bool.{true≢false}

chain-left : (n : ℕ) (s c : Input5) (x : Expr5) → ChainIn n true s x c → (k : Bool) → ExprIn n k 15 s x c
chain-left n s c x (whole_chain d) k = lower n k 15 16 s c (omega arith) (d k)
chain-left n s c x (bare_new d h) k = node n k 15 15 s c (omega arith) (d k)

callee-of : (n : ℕ) (s c : Input5) (x : Expr5) → ChainIn n false s x c → (d : IsNewCallee Exact s.tokens x c.tokens) × NewCalleeWithin d n
callee-of n s c x (whole_chain d) = (g.member (d false).0, (d false).1)
callee-of n s c x (bare_new d h) = (g.another_new (d false).0, (d false).1)

callee-member : (n : ℕ) (s c : Input5) (x : Expr5) → ChainIn n false s x c → next_is (next_mark (codes "(")) c.tokens ≡ true → ExprIn n false 17 s x c
callee-member n s c x (whole_chain d) e = d false
callee-member n s c x (bare_new d h) e = absurd (true≢false (sym e ∙ h.2 refl))

pub callee-open : (n : ℕ) {s c : Input5} (x : Read5) → ChainRead n false s x c → CalleeOpen (suc n) s x c
callee-open n {s = s} {c = c} x r = record { moves = r.moves; callee = callee-of n s c x.value r.derived; member = callee-member n s c x.value r.derived; stopped = r.stopped }

-- ## Unary operators

chain-read : (n : ℕ) (k : Bool) {s c : Input5} (x : Read5) → ChainRead n true s x c → ReadIn n k 13 s x c
chain-read n k {s = s} {c = c} x r = record {
  moves = r.moves;
  derived = lower n k 13 15 s c (omega arith) (chain-left n s c x.value r.derived k);
  left_side = λ e j. chain-left n s c x.value r.derived j;
  named = r.named;
}

abbrev IsAfter : UpdateOperator5 → Token5 → Type 0
IsAfter op t = (t.kind ≡ update_kind op) × (is_before op ≡ false) × (t.after_line ≡ false)

update-after-rule : (n : ℕ) (k : Bool) (op : UpdateOperator5) {s b c : Input5} (x : Read5) → ChainRead n true s x b → Next (IsAfter op) b c → ReadIn n k 13 s (other (expr.Update (record { begin = begin_of s.tokens; end = c.last }) op x.value)) c
update-after-rule n k op {s = s} x r (next {t = t} {ts = ts} {last = last} e) =
    let target = chain-left n s (record { tokens = t ∷ ts; last = last }) x.value r.derived false in
    other_read n k 13 14 (omega arith) (r.moves ⟫ one) (g.update_after _ op x.value refl (span-across (r.moves ⟫ one)) e.1 target.0 e.0 e.2, target.1)

sound-postfix : (i : Inner5) (n : ℕ) (sound : Sound i n) (k : Bool) (s : Input5) → Holds (ReadIn n k 13 s) (postfix i s)
unfolding postfix
sound-postfix i n sound k s = bind (sound-chain i n sound true s) λ x b r. on-means after_at IsAfter after-means _ _ b
    (λ op c h. took (update-after-rule n k op x r h)) (λ m. took (chain-read n k x r))

abbrev IsBefore : UpdateOperator5 → Token5 → Type 0
IsBefore op t = (t.kind ≡ update_kind op) × (is_before op ≡ true)

prefixed-rule : (n : ℕ) (k : Bool) (op : UnaryOperator5) {s a c : Input5} (x : Read5) → Next (IsKind (unary_kind op)) s a → ReadOpen n false 13 a x c → ReadIn n k 13 s (other (expr.Unary (record { begin = begin_of s.tokens; end = c.last }) op x.value)) c
prefixed-rule n k op x (next e) r = other_read n k 13 13 (omega arith) (one ⟫ r.moves) (g.unary _ op x.value refl (span-across (one {last = 0} ⟫ r.moves)) e r.derived.0, r.derived.1)

updated-rule : (n : ℕ) (k : Bool) (op : UpdateOperator5) {s a c : Input5} (x : Read5) → Next (IsBefore op) s a → ReadOpen n false 13 a x c → ReadIn n k 13 s (other (expr.Update (record { begin = begin_of s.tokens; end = c.last }) op x.value)) c
updated-rule n k op x (next e) r = other_read n k 13 13 (omega arith) (one ⟫ r.moves) (g.update_before _ op x.value refl (span-across (one {last = 0} ⟫ r.moves)) e.1 e.0 r.derived.0, r.derived.1)

pub sound-unary : (i : Inner5) (n : ℕ) (sound : Sound i n) (k : Bool) (s : Input5) → Holds (ReadIn n k 13 s) (unary i s)
unfolding unary prefixed updated
sound-unary i n sound k s = on-means unary_at (λ op t. IsKind (unary_kind op) t) unary-means _ _ s (λ op a h. bind (sound.unary a) λ x c r. took (prefixed-rule n k op x h r))
    (λ m. on-means before_at IsBefore before-means _ _ s (λ op a h. bind (sound.unary a) λ x c r. took (updated-rule n k op x h r)) (λ m. sound-postfix i n sound k s))

-- ## Binary operators

abbrev IsOperator : Bool → ℕ → BinaryOperator5 → Token5 → Type 0
IsOperator k level op t = (t.kind ≡ binary_kind op) × (binary_level op ≡ level) × ((k && is_in op) ≡ false)

abbrev OperandsIn : ℕ → Bool → ℕ → Input5 → List Operand5 → Input5 → Type 0
OperandsIn n k level s os c = Goes s c × (d : AreOperands Exact k level s.tokens os c.tokens) × OperandsWithin d n

operand-rule : (n : ℕ) (k : Bool) (level : ℕ) (op : BinaryOperator5) {s a b c : Input5} (x : Read5) {os : List Operand5} → Next (IsOperator k level op) s a → ReadIn n k (level + 1) a x b → OperandsIn n k level b os c
    → OperandsIn n k level s (roll-Operand5 (record { operator = op; value = x.value }) ∷ os) c
operand-rule n k level op x (next e) r (m, d, w) = (goes-on (goes (one ⟫ r.moves)) m, g.next_operand op x.value refl e.1 e.2 e.0 r.derived.0 d, (r.derived.1, w))

sound-operands : (n : ℕ) (k : Bool) (level : ℕ) (operand : Parser Read5) (sound : (s : Input5) → Holds (ReadIn n k (level + 1) s) (operand s)) (turns : ℕ) (s : Input5) → Holds (OperandsIn n k level s) (operands operand k level turns s)
unfolding operands
sound-operands n k level operand sound zero s = fault
sound-operands n k level operand sound (suc turns) s = on-means (binary_at k level) (IsOperator k level) (binary-means k level) _ _ s
    (λ op a h. bind (sound a) λ x b r. bind (sound-operands n k level operand sound turns b) λ os c d. took (operand-rule n k level op x h r d))
    (λ m. took (stays s, g.no_operand, tt))

operands-nil : {k : Bool} {level : ℕ} {ts us : List Token5} → AreOperands Exact k level ts [] us → ts ≡ us
operands-nil g.no_operand = refl

read-to : (n : ℕ) (k : Bool) (a b : ℕ) {s d c : Input5} (x : Read5) → a ≤ b → ReadIn n k b s x d → Goes d c → d.tokens ≡ c.tokens → ReadIn n k a s x c
read-to n k a b {s = s} {d = d} {c = c} x h r m e = record {
  moves = then-goes r.moves m;
  derived = expr-to n k a s.tokens x.value d.tokens c.tokens e (lower n k a b s d h r.derived);
  left_side = λ l j. expr-to n j 15 s.tokens x.value d.tokens c.tokens e (r.left_side l j);
  named = λ label l. subst (λ ts. IsIdentifier Exact s.tokens label ts) e (r.named label l);
}

binary-rule : (n : ℕ) (k : Bool) (level : ℕ) {s b c : Input5} (x : Read5) (os : List Operand5) → ReadIn n k (level + 1) s x b → OperandsIn n k level b os c → ReadIn n k level s (operated x os (record { begin = begin_of s.tokens; end = c.last })) c
binary-rule n k level x [] r (m, d, w) = read-to n k level (level + 1) x (omega arith) r m (operands-nil d)
binary-rule n k level x (o ∷ os) r (m, d, w) = other_read n k level level (omega arith) (then-goes r.moves m) (g.binary_chain level _ x.value o os refl (span-across (then-goes r.moves m)) r.derived.0 d, (r.derived.1, w))

sound-binary : (i : Inner5) (n : ℕ) (sound : Sound i n) (k : Bool) (above level : ℕ) → above + level ≡ 13 → (s : Input5) → Holds (ReadIn n k level s) (binary_from i k above level s)
unfolding binary_from
sound-binary i n sound k zero level e s = subst (λ l. Holds (ReadIn n k l s) (unary i s)) (last-level level e) (sound-unary i n sound k s)
  where
    last-level : (level : ℕ) → zero + level ≡ 13 → 13 ≡ level
    last-level level e = omega arith
sound-binary i n sound k (suc above) level e s =
    let deeper : above + (level + 1) ≡ 13 = next-level above level e in
    bind (sound-binary i n sound k above (level + 1) deeper s) λ x b r.
    bind (sound-operands n k level (binary_from i k above (level + 1)) (λ a. sound-binary i n sound k above (level + 1) deeper a) i.fuel b) λ os c d.
    took (binary-rule n k level x os r d)
  where
    next-level : (above level : ℕ) → suc above + level ≡ 13 → above + (level + 1) ≡ 13
    next-level above level e = omega arith

-- ## Conditional expressions, assignments, commas

conditional-rule : (n : ℕ) (k : Bool) {s a b c d e : Input5} (x y z : Read5) → ReadIn n k 3 s x a → Next (IsMark (codes "?")) a b → ReadOpen n false 1 b y c → Next (IsMark (codes ":")) c d → ReadOpen n k 1 d z e
    → ReadIn n k 2 s (other (expr.Conditional (record { begin = begin_of s.tokens; end = e.last }) x.value y.value z.value)) e
conditional-rule n k x y z r (next q) r' (next p) r'' = other_read n k 2 2 (omega arith) (r.moves ⟫ one ⟫ r'.moves ⟫ one ⟫ r''.moves)
    (g.conditional _ x.value y.value z.value refl (span-across (r.moves ⟫ one ⟫ r'.moves ⟫ one ⟫ r''.moves)) r.derived.0 q r'.derived.0 p r''.derived.0, (r.derived.1, r'.derived.1, r''.derived.1))

sound-conditional : (i : Inner5) (n : ℕ) (sound : Sound i n) (k : Bool) (s : Input5) → Holds (ReadIn n k 2 s) (conditional i k s)
unfolding conditional branches
sound-conditional i n sound k s = bind (sound-binary i n sound k 10 3 refl s) λ x a r. on-mark _ _ _ a
    (λ t b q. bind (sound.assignment false b) λ y c r'. bind (take-mark _ c) λ u d p. bind (sound.assignment k d) λ z e r''. took (conditional-rule n k x y z r q r' p r''))
    (λ m. took (lower_read n k 2 3 (omega arith) r))

assignment-rule : (n : ℕ) (k : Bool) (op : AssignOperator5) {s a b c : Input5} (x y : Read5) → ReadIn n k 2 s x a → is_left x.shape ≡ true → Next (IsKind (assign_kind op)) a b → ReadOpen n k 1 b y c
    → ReadIn n k 1 s (other (expr.Assign (record { begin = begin_of s.tokens; end = c.last }) op x.value y.value)) c
assignment-rule n k op x y r l (next e) r' = other_read n k 1 1 (omega arith) (r.moves ⟫ one ⟫ r'.moves)
    (g.assignment _ op x.value y.value refl (span-across (r.moves ⟫ one ⟫ r'.moves)) (r.left_side l false).0 e r'.derived.0, ((r.left_side l false).1, r'.derived.1))

pub sound-assignment : (i : Inner5) (n : ℕ) (sound : Sound i n) (k : Bool) (s : Input5) → Holds (ReadIn n k 1 s) (assignment i k s)
unfolding assignment assigned
sound-assignment i n sound k s = bind (sound-conditional i n sound k s) λ x a r. choose-holds _ _ (is_left x.shape) a
    (λ l. on-means assign_at (λ op t. IsKind (assign_kind op) t) assign-means _ _ a (λ op b h. bind (sound.assignment k b) λ y c r'. took (assignment-rule n k op x y r l h r')) (λ m. took (lower_read n k 1 2 (omega arith) r)))
    (λ l. took (lower_read n k 1 2 (omega arith) r))

-- the parts of an expression after a comma
data PartsIn (n : ℕ) (k : Bool) : Input5 → List Expr5 → Input5 → Type 0 where
  parts_of : {s c : Input5} {x : Expr5} {xs : List Expr5} → Moves s c → ((t : Token5) → IsMark (codes ",") t → (d : AreParts Exact k (t ∷ s.tokens) (x ∷ xs) c.tokens) × PartsWithin d n) → PartsIn n k s (x ∷ xs) c

parts-last : (n : ℕ) (k : Bool) {s c : Input5} (x : Read5) → ReadIn n k 1 s x c → PartsIn n k s (x.value ∷ []) c
parts-last n k x r = parts_of r.moves (λ t p. (g.next_part p r.derived.0 g.no_part, (r.derived.1, tt)))

parts-next : (n : ℕ) (k : Bool) {s a b c : Input5} (x : Read5) {xs : List Expr5} → ReadIn n k 1 s x a → Next (IsMark (codes ",")) a b → PartsIn n k b xs c → PartsIn n k s (x.value ∷ xs) c
parts-next n k x r (next {t = u} e) (parts_of m f) = parts_of (r.moves ⟫ one ⟫ m) (λ t p. (g.next_part p r.derived.0 (f u e).0, (r.derived.1, (f u e).1)))

sound-parts : (i : Inner5) (n : ℕ) (sound : Sound i n) (k : Bool) (turns : ℕ) (s : Input5) → Holds (PartsIn n k s) (parts i k turns s)
unfolding parts
sound-parts i n sound k zero s = fault
sound-parts i n sound k (suc turns) s = bind (sound-assignment i n sound k s) λ x a r. on-mark _ _ _ a
    (λ t b h. bind (sound-parts i n sound k turns b) λ xs c d. took (parts-next n k x r h d))
    (λ m. took (parts-last n k x r))

sequence-rule : (n : ℕ) (k : Bool) {s a b c : Input5} (x : Read5) (xs : List Expr5) → ReadIn n k 1 s x a → Next (IsMark (codes ",")) a b → PartsIn n k b xs c → ReadIn n k 0 s (other (expr.Sequence (record { begin = begin_of s.tokens; end = c.last }) x.value xs)) c
sequence-rule n k x xs r (next {t = u} e) (parts_of m f) = other_read n k 0 0 (omega arith) (r.moves ⟫ one ⟫ m)
    (g.sequence _ x.value _ _ refl (span-across (r.moves ⟫ one ⟫ m)) r.derived.0 (f u e).0, (r.derived.1, (f u e).1))

pub sound-sequence : (i : Inner5) (n : ℕ) (sound : Sound i n) (k : Bool) (s : Input5) → Holds (ReadIn n k 0 s) (sequence i k s)
unfolding sequence more_parts
sound-sequence i n sound k s = bind (sound-assignment i n sound k s) λ x a r. on-mark _ _ _ a
    (λ t b h. bind (sound-parts i n sound k i.fuel b) λ xs c d. took (sequence-rule n k x xs r h d))
    (λ m. took (lower_read n k 0 1 (omega arith) r))

-- ## Properties

value-of-key : (i : Inner5) (n : ℕ) (sound : Sound i n) (key_ : PlacedKey5) (s a b : Input5) → KeyIn s key_ a → Next (IsMark (codes ":")) a b → Holds (PropertyIn n s) (value_of_key i (begin_of s.tokens) key_ b)
unfolding value_of_key
value-of-key i n sound key_ s a b k h = bind (sound-assignment i n sound false b) λ x c r. took (plain-property-rule n x k h r.moves r.derived.0 r.derived.1)

pub sound-property : (i : Inner5) (n : ℕ) (sound : Sound i n) (s : Input5) → Holds (PropertyIn n s) (one_property i s)
unfolding one_property after_accessor_word plain_property accessor
sound-property i n sound s = on-means accessor_at (λ setter t. IsWord (accessor_name setter) t) accessor-means _ _ s
    (λ setter a w. on-mark _ _ _ a
    (λ t b h. value-of-key i n sound _ s a b (step w, key-rule (keys.WordKey (accessor_name setter)) w) h)
    (λ m. bind (sound-key a) λ key_ b k. bind (sound-accessor-function i n sound setter b) λ f c d. took (accessor-property-rule n setter w k d)))
    (λ m. bind (sound-key s) λ key_ a k. bind (take-mark _ a) λ t b h. value-of-key i n sound key_ s a b k h)
