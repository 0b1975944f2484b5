-- What single tokens are to the readers of expressions: what begins one, and what goes on with none.
use Rattle.std.proofs.Common.{◌≡◌, ℕ, suc, ◌+◌, ◌≤◌, Bool, true, false, ◌&&◌, ◌||◌, not, cond, List, [], ◌∷◌, Option, Some, None, refl, sym, ap, subst, ◌∙◌, arith, eqb-true, eq-eqb}
use Rattle.std.proofs.lemmas.Bool.{false≢true, true≢false}
use Rattle.std.specs.Prelude.{codes, ◌==◌}
use Rattle.std.specs.Str.{bytes_eq}
use Rattle.es5_ast.specs.declared.operators.UnaryOperator5.{UnaryOperator5}
use Rattle.es5_ast.specs.declared.operators.UnaryOperator5.TheVariants.{Delete, Void, Typeof, Plus, Minus, BitNot, Not}
use Rattle.es5_ast.specs.declared.operators.UpdateOperator5.{UpdateOperator5}
use Rattle.es5_ast.specs.declared.operators.UpdateOperator5.TheVariants.{IncrementBefore, DecrementBefore, IncrementAfter, DecrementAfter}
use Rattle.es5_ast.specs.declared.operators.BinaryOperator5.{BinaryOperator5}
use Rattle.es5_ast.specs.declared.operators.BinaryOperator5.TheVariants as binary
use Rattle.es5_ast.specs.declared.operators.AssignOperator5.{AssignOperator5}
use Rattle.es5_ast.specs.declared.operators.AssignOperator5.TheVariants as assign
use Rattle.es5_ast.specs.Lexical.{Kind5, Word, Integer, Text, Punctuator, Inserted, Token5, is_one_of, reserved_words}
use Rattle.es5_ast.specs.Grammar.{is_word, is_mark, ends, is_identifier, is_in, is_before, unary_kind, update_kind, assign_kind, binary_kind, binary_level}
use Rattle.es5_reading.specs.Parser.{kept_if, mark, word, next_is, next_mark}
use Rattle.es5_reading.specs.Expressions.{same_kind, look_up, unary_operators, unary_at, before_at, unless, after_at, assign_operators, assign_at, binary_operators, operator_of_level, binary_at}
use Rattle.es5_reading.proofs.Posts.{Misses}
use Rattle.es5_reading.proofs.Meanings.{same_bytes, not_true}

-- what holds of a token with a kind holds of one that has that kind
pub at-kind : (P : Token5 → Type 0) (t : Token5) (k : Kind5) → t.kind ≡ k → P (record { begin = t.begin; end = t.end; after_line = t.after_line; kind = k }) → P t
at-kind P t k e h = subst (λ j. P (record { begin = t.begin; end = t.end; after_line = t.after_line; kind = j })) (sym e) h

pub is-false : (b : Bool) → (b ≡ true → ⊥) → b ≡ false
is-false true h = absurd (h refl)
is-false false h = refl

-- ## Words and marks

disjoint : (xs : List (List ℕ)) (w v : List ℕ) → is_one_of w xs ≡ true → is_one_of v xs ≡ false → bytes_eq w v ≡ false
disjoint xs w v h k = is-false (bytes_eq w v) (λ e. false≢true (sym k ∙ subst (λ u. is_one_of u xs ≡ true) (same_bytes w v e) h))

pub not-reserved : (name w : List ℕ) → is_identifier name ≡ true → is_one_of w reserved_words ≡ true → bytes_eq name w ≡ false
not-reserved name w h k = is-false (bytes_eq name w) (λ e. true≢false (sym k ∙ subst (λ u. is_one_of u reserved_words ≡ false) (same_bytes name w e) (not_true (is_one_of name reserved_words) h)))

unfoldable pub operand_words : List (List ℕ)
operand_words = codes "this" ∷ codes "null" ∷ codes "true" ∷ codes "false" ∷ codes "function" ∷ codes "new" ∷ []

unfoldable pub operand_marks : List (List ℕ)
operand_marks = codes "(" ∷ codes "[" ∷ codes "{" ∷ []

unfoldable pub prefix_words : List (List ℕ)
prefix_words = codes "delete" ∷ codes "void" ∷ codes "typeof" ∷ []

unfoldable pub prefix_marks : List (List ℕ)
prefix_marks = codes "+" ∷ codes "-" ∷ codes "~" ∷ codes "!" ∷ codes "++" ∷ codes "--" ∷ []

-- what begins a left-hand-side expression, and what begins any
pub data Operand : Kind5 → Type 0 where
  operand_name : {name : List ℕ} → is_identifier name ≡ true → Operand (Word name)
  operand_word : {w : List ℕ} → is_one_of w operand_words ≡ true → Operand (Word w)
  operand_integer : {n : ℕ} → Operand (Integer n)
  operand_text : {us : List ℕ} → Operand (Text us)
  operand_mark : {p : List ℕ} → is_one_of p operand_marks ≡ true → Operand (Punctuator p)

pub data First : Kind5 → Type 0 where
  first_operand : {k : Kind5} → Operand k → First k
  first_word : {w : List ℕ} → is_one_of w prefix_words ≡ true → First (Word w)
  first_mark : {p : List ℕ} → is_one_of p prefix_marks ≡ true → First (Punctuator p)

pub data BeginsOperand : List Token5 → Type 0 where
  begins_operand_at : {t : Token5} {ts : List Token5} → Operand t.kind → BeginsOperand (t ∷ ts)

pub data BeginsFirst : List Token5 → Type 0 where
  begins_first_at : {t : Token5} {ts : List Token5} → First t.kind → BeginsFirst (t ∷ ts)

pub begins-first : {ts : List Token5} → BeginsOperand ts → BeginsFirst ts
begins-first (begins_operand_at h) = begins_first_at (first_operand h)

operand-no-word : (v : List ℕ) (k : Kind5) → is_one_of v reserved_words ≡ true → is_one_of v operand_words ≡ false → Operand k → is_word v k ≡ false
operand-no-word v k r n (operand_name {name = name} h) = not-reserved name v h r
operand-no-word v k r n (operand_word {w = w} h) = disjoint operand_words w v h n
operand-no-word v k r n operand_integer = refl
operand-no-word v k r n operand_text = refl
operand-no-word v k r n (operand_mark h) = refl

operand-no-mark : (p : List ℕ) (k : Kind5) → is_one_of p operand_marks ≡ false → Operand k → is_mark p k ≡ false
operand-no-mark p k n (operand_name h) = refl
operand-no-mark p k n (operand_word h) = refl
operand-no-mark p k n operand_integer = refl
operand-no-mark p k n operand_text = refl
operand-no-mark p k n (operand_mark {p = q} h) = disjoint operand_marks q p h n

pub first-no-word : (v : List ℕ) (k : Kind5) → is_one_of v reserved_words ≡ true → is_one_of v operand_words ≡ false → is_one_of v prefix_words ≡ false → First k → is_word v k ≡ false
first-no-word v k r n m (first_operand h) = operand-no-word v k r n h
first-no-word v k r n m (first_word {w = w} h) = disjoint prefix_words w v h m
first-no-word v k r n m (first_mark h) = refl

pub first-no-mark : (p : List ℕ) (k : Kind5) → is_one_of p operand_marks ≡ false → is_one_of p prefix_marks ≡ false → First k → is_mark p k ≡ false
first-no-mark p k n m (first_operand h) = operand-no-mark p k n h
first-no-mark p k n m (first_word h) = refl
first-no-mark p k n m (first_mark {p = q} h) = disjoint prefix_marks q p h m

-- ## No prefix operator

pub cond-false : {A : Type 0} (b : Bool) (x y : A) → b ≡ false → cond b x y ≡ y
cond-false true x y h = absurd (true≢false h)
cond-false false x y h = refl

abbrev NoneSame : {A : Type 0} → (A → Kind5) → List A → Kind5 → Type 0
NoneSame f [] k = Unit {0}
NoneSame f (x ∷ xs) k = (same_kind (f x) k ≡ false) × NoneSame f xs k

look-up-none : {A : Type 0} (f : A → Kind5) (xs : List A) (k : Kind5) → NoneSame f xs k → look_up f xs k ≡ None
look-up-none f [] k h = refl
look-up-none f (x ∷ xs) k h = cond-false (same_kind (f x) k) (Some x) (look_up f xs k) h.0 ∙ look-up-none f xs k h.1

pub operand-no-unary : (t : Token5) → Operand t.kind → unary_at t ≡ None
unfolding operand_words operand_marks unary_operators reserved_words
operand-no-unary t h = look-up-none unary_kind unary_operators t.kind (
  operand-no-word (codes "delete") t.kind refl refl h,
  (
    operand-no-word (codes "void") t.kind refl refl h,
    (
      operand-no-word (codes "typeof") t.kind refl refl h,
      (operand-no-mark (codes "+") t.kind refl h, (operand-no-mark (codes "-") t.kind refl h, (operand-no-mark (codes "~") t.kind refl h, (operand-no-mark (codes "!") t.kind refl h, tt)))),
    ),
  ),
)

pub operand-no-before : (t : Token5) → Operand t.kind → before_at t ≡ None
unfolding operand_marks
operand-no-before t h = look-up-none update_kind (IncrementBefore ∷ DecrementBefore ∷ []) t.kind (operand-no-mark (codes "++") t.kind refl h, (operand-no-mark (codes "--") t.kind refl h, tt))

-- ## What goes on with no expression of a level

pub record Closes (k : Bool) (least : ℕ) (ts : List Token5) : Type 0 where
  pub dot : next_is (next_mark (codes ".")) ts ≡ false
  pub bracket : next_is (next_mark (codes "[")) ts ≡ false
  pub paren : least ≤ 16 → next_is (next_mark (codes "(")) ts ≡ false
  pub after : least ≤ 14 → Misses after_at ts
  pub operator : (level : ℕ) → least ≤ level → level ≤ 12 → Misses (binary_at k level) ts
  pub question : least ≤ 2 → Misses (mark (codes "?")) ts
  pub assigns : least ≤ 1 → Misses assign_at ts
  pub comma : least ≤ 0 → Misses (mark (codes ",")) ts

le-trans : (a b c : ℕ) → a ≤ b → b ≤ c → a ≤ c
le-trans a b c h k = omega arith

pub closes-up : (k : Bool) (a b : ℕ) (ts : List Token5) → a ≤ b → Closes k a ts → Closes k b ts
closes-up k a b ts h c = record {
  dot = c.dot;
  bracket = c.bracket;
  paren = λ l. c.paren (le-trans a b 16 h l);
  after = λ l. c.after (le-trans a b 14 h l);
  operator = λ level l m. c.operator level (le-trans a b level h l) m;
  question = λ l. c.question (le-trans a b 2 h l);
  assigns = λ l. c.assigns (le-trans a b 1 h l);
  comma = λ l. c.comma (le-trans a b 0 h l);
}

no-level : (a n : ℕ) → 13 ≤ a → a ≤ n → n ≤ 12 → ⊥
no-level a n h k l = omega arith

-- above the binary operators the mark of `in` counts nothing
pub closes-any : (k j : Bool) (least : ℕ) (ts : List Token5) → 13 ≤ least → Closes k least ts → Closes j least ts
closes-any k j least ts h c = record { dot = c.dot; bracket = c.bracket; paren = c.paren; after = c.after; operator = λ level l m. absurd (no-level least level h l m); question = c.question; assigns = c.assigns; comma = c.comma }

unless-none : {A : Type 0} (b : Bool) (o : Option A) → o ≡ None → unless b o ≡ None
unless-none true o h = refl
unless-none false o h = h

kept-none : (b : Bool) (t : Token5) → b ≡ false → kept_if b t ≡ None
kept-none true t h = absurd (true≢false h)
kept-none false t h = refl

pub mark-miss : (p : List ℕ) (t : Token5) → is_mark p t.kind ≡ false → mark p t ≡ None
mark-miss p t h = kept-none (is_mark p t.kind) t h

pub word-miss : (w : List ℕ) (t : Token5) → is_word w t.kind ≡ false → word w t ≡ None
word-miss w t h = kept-none (is_word w t.kind) t h

-- the tests of a kind of token
record Tests (least : ℕ) (k : Kind5) : Type 0 where
  dot : is_mark (codes ".") k ≡ false
  bracket : is_mark (codes "[") k ≡ false
  paren : is_mark (codes "(") k ≡ false
  after : look_up update_kind (IncrementAfter ∷ DecrementAfter ∷ []) k ≡ None
  operator : look_up binary_kind binary_operators k ≡ None
  question : least ≤ 2 → is_mark (codes "?") k ≡ false
  assigns : least ≤ 1 → look_up assign_kind assign_operators k ≡ None
  comma : least ≤ 0 → is_mark (codes ",") k ≡ false

closes-tests : (j : Bool) (least : ℕ) (t : Token5) (ts : List Token5) (k : Kind5) → t.kind ≡ k → Tests least k → Closes j least (t ∷ ts)
closes-tests j least t ts k e h = at-kind (λ u. Closes j least (u ∷ ts)) t k e (record {
  dot = h.dot;
  bracket = h.bracket;
  paren = λ l. h.paren;
  after = λ l. unless-none t.after_line (look_up update_kind (IncrementAfter ∷ DecrementAfter ∷ []) k) h.after;
  operator = λ level l m. ap (λ o. operator_of_level j level o) h.operator;
  question = λ l. mark-miss (codes "?") (record { begin = t.begin; end = t.end; after_line = t.after_line; kind = k }) (h.question l);
  assigns = h.assigns;
  comma = λ l. mark-miss (codes ",") (record { begin = t.begin; end = t.end; after_line = t.after_line; kind = k }) (h.comma l);
})

no-le : (a b : ℕ) → suc b ≤ a → a ≤ b → ⊥
no-le a b h k = omega arith

pub closes-end : (j : Bool) (ts : List Token5) (t : Token5) → ends t.kind ≡ true → Closes j 0 (t ∷ ts)
unfolding binary_operators assign_operators
closes-end j ts t h = at t.kind refl h
  where
    at : (k : Kind5) → t.kind ≡ k → ends k ≡ true → Closes j 0 (t ∷ ts)
    at (Punctuator p) e h = closes-tests j 0 t ts (Punctuator (codes ";")) (e ∙ ap (λ q. Punctuator q) (same_bytes p (codes ";") h)) (record { dot = refl; bracket = refl; paren = refl; after = refl; operator = refl; question = λ l. refl; assigns = λ l. refl; comma = λ l. refl })
    at Inserted e h = closes-tests j 0 t ts Inserted e (record { dot = refl; bracket = refl; paren = refl; after = refl; operator = refl; question = λ l. refl; assigns = λ l. refl; comma = λ l. refl })
    at (Word w) e h = absurd (false≢true h)
    at (Integer n) e h = absurd (false≢true h)
    at (Text us) e h = absurd (false≢true h)

pub closes-close : (j : Bool) (ts : List Token5) (t : Token5) → t.kind ≡ Punctuator (codes ")") → Closes j 0 (t ∷ ts)
unfolding binary_operators assign_operators
closes-close j ts t e = closes-tests j 0 t ts (Punctuator (codes ")")) e (record { dot = refl; bracket = refl; paren = refl; after = refl; operator = refl; question = λ l. refl; assigns = λ l. refl; comma = λ l. refl })

pub closes-square : (j : Bool) (ts : List Token5) (t : Token5) → t.kind ≡ Punctuator (codes "]") → Closes j 0 (t ∷ ts)
unfolding binary_operators assign_operators
closes-square j ts t e = closes-tests j 0 t ts (Punctuator (codes "]")) e (record { dot = refl; bracket = refl; paren = refl; after = refl; operator = refl; question = λ l. refl; assigns = λ l. refl; comma = λ l. refl })

pub closes-brace : (j : Bool) (ts : List Token5) (t : Token5) → t.kind ≡ Punctuator (codes "}") → Closes j 0 (t ∷ ts)
unfolding binary_operators assign_operators
closes-brace j ts t e = closes-tests j 0 t ts (Punctuator (codes "}")) e (record { dot = refl; bracket = refl; paren = refl; after = refl; operator = refl; question = λ l. refl; assigns = λ l. refl; comma = λ l. refl })

pub closes-colon : (j : Bool) (ts : List Token5) (t : Token5) → t.kind ≡ Punctuator (codes ":") → Closes j 0 (t ∷ ts)
unfolding binary_operators assign_operators
closes-colon j ts t e = closes-tests j 0 t ts (Punctuator (codes ":")) e (record { dot = refl; bracket = refl; paren = refl; after = refl; operator = refl; question = λ l. refl; assigns = λ l. refl; comma = λ l. refl })

pub closes-semicolon : (j : Bool) (ts : List Token5) (t : Token5) → t.kind ≡ Punctuator (codes ";") → Closes j 0 (t ∷ ts)
closes-semicolon j ts t e = closes-end j ts t (subst (λ k. ends k ≡ true) (sym e) refl)

pub closes-comma : (j : Bool) (ts : List Token5) (t : Token5) → t.kind ≡ Punctuator (codes ",") → Closes j 1 (t ∷ ts)
unfolding binary_operators assign_operators
closes-comma j ts t e = closes-tests j 1 t ts (Punctuator (codes ",")) e (record { dot = refl; bracket = refl; paren = refl; after = refl; operator = refl; question = λ l. refl; assigns = λ l. refl; comma = λ l. absurd (no-le 1 0 (omega arith) l) })

pub closes-question : (j : Bool) (ts : List Token5) (t : Token5) → t.kind ≡ Punctuator (codes "?") → Closes j 3 (t ∷ ts)
unfolding binary_operators assign_operators
closes-question j ts t e = closes-tests j 3 t ts (Punctuator (codes "?")) e (record { dot = refl; bracket = refl; paren = refl; after = refl; operator = refl; question = λ l. absurd (no-le 3 2 (omega arith) l); assigns = λ l. refl; comma = λ l. refl })

assign-tests : (op : AssignOperator5) → Tests 2 (assign_kind op)
unfolding binary_operators assign_operators
assign-tests assign.Assign = record { dot = refl; bracket = refl; paren = refl; after = refl; operator = refl; question = λ l. refl; assigns = λ l. absurd (no-le 2 1 (omega arith) l); comma = λ l. refl }
assign-tests assign.MultiplyAssign = record { dot = refl; bracket = refl; paren = refl; after = refl; operator = refl; question = λ l. refl; assigns = λ l. absurd (no-le 2 1 (omega arith) l); comma = λ l. refl }
assign-tests assign.DivideAssign = record { dot = refl; bracket = refl; paren = refl; after = refl; operator = refl; question = λ l. refl; assigns = λ l. absurd (no-le 2 1 (omega arith) l); comma = λ l. refl }
assign-tests assign.RemainderAssign = record { dot = refl; bracket = refl; paren = refl; after = refl; operator = refl; question = λ l. refl; assigns = λ l. absurd (no-le 2 1 (omega arith) l); comma = λ l. refl }
assign-tests assign.AddAssign = record { dot = refl; bracket = refl; paren = refl; after = refl; operator = refl; question = λ l. refl; assigns = λ l. absurd (no-le 2 1 (omega arith) l); comma = λ l. refl }
assign-tests assign.SubtractAssign = record { dot = refl; bracket = refl; paren = refl; after = refl; operator = refl; question = λ l. refl; assigns = λ l. absurd (no-le 2 1 (omega arith) l); comma = λ l. refl }
assign-tests assign.ShiftLeftAssign = record { dot = refl; bracket = refl; paren = refl; after = refl; operator = refl; question = λ l. refl; assigns = λ l. absurd (no-le 2 1 (omega arith) l); comma = λ l. refl }
assign-tests assign.ShiftRightAssign = record { dot = refl; bracket = refl; paren = refl; after = refl; operator = refl; question = λ l. refl; assigns = λ l. absurd (no-le 2 1 (omega arith) l); comma = λ l. refl }
assign-tests assign.ShiftRightUnsignedAssign = record { dot = refl; bracket = refl; paren = refl; after = refl; operator = refl; question = λ l. refl; assigns = λ l. absurd (no-le 2 1 (omega arith) l); comma = λ l. refl }
assign-tests assign.BitAndAssign = record { dot = refl; bracket = refl; paren = refl; after = refl; operator = refl; question = λ l. refl; assigns = λ l. absurd (no-le 2 1 (omega arith) l); comma = λ l. refl }
assign-tests assign.BitXorAssign = record { dot = refl; bracket = refl; paren = refl; after = refl; operator = refl; question = λ l. refl; assigns = λ l. absurd (no-le 2 1 (omega arith) l); comma = λ l. refl }
assign-tests assign.BitOrAssign = record { dot = refl; bracket = refl; paren = refl; after = refl; operator = refl; question = λ l. refl; assigns = λ l. absurd (no-le 2 1 (omega arith) l); comma = λ l. refl }

pub closes-assign : (j : Bool) (ts : List Token5) (t : Token5) (op : AssignOperator5) → t.kind ≡ assign_kind op → Closes j 2 (t ∷ ts)
closes-assign j ts t op e = closes-tests j 2 t ts (assign_kind op) e (assign-tests op)

pub assign-hit : (t : Token5) (op : AssignOperator5) → t.kind ≡ assign_kind op → assign_at t ≡ Some op
unfolding assign_operators
assign-hit t assign.Assign e = ap (λ k. look_up assign_kind assign_operators k) e
assign-hit t assign.MultiplyAssign e = ap (λ k. look_up assign_kind assign_operators k) e
assign-hit t assign.DivideAssign e = ap (λ k. look_up assign_kind assign_operators k) e
assign-hit t assign.RemainderAssign e = ap (λ k. look_up assign_kind assign_operators k) e
assign-hit t assign.AddAssign e = ap (λ k. look_up assign_kind assign_operators k) e
assign-hit t assign.SubtractAssign e = ap (λ k. look_up assign_kind assign_operators k) e
assign-hit t assign.ShiftLeftAssign e = ap (λ k. look_up assign_kind assign_operators k) e
assign-hit t assign.ShiftRightAssign e = ap (λ k. look_up assign_kind assign_operators k) e
assign-hit t assign.ShiftRightUnsignedAssign e = ap (λ k. look_up assign_kind assign_operators k) e
assign-hit t assign.BitAndAssign e = ap (λ k. look_up assign_kind assign_operators k) e
assign-hit t assign.BitXorAssign e = ap (λ k. look_up assign_kind assign_operators k) e
assign-hit t assign.BitOrAssign e = ap (λ k. look_up assign_kind assign_operators k) e

pub unary-hit : (t : Token5) (op : UnaryOperator5) → t.kind ≡ unary_kind op → unary_at t ≡ Some op
unfolding unary_operators
unary-hit t Delete e = ap (λ k. look_up unary_kind unary_operators k) e
unary-hit t Void e = ap (λ k. look_up unary_kind unary_operators k) e
unary-hit t Typeof e = ap (λ k. look_up unary_kind unary_operators k) e
unary-hit t Plus e = ap (λ k. look_up unary_kind unary_operators k) e
unary-hit t Minus e = ap (λ k. look_up unary_kind unary_operators k) e
unary-hit t BitNot e = ap (λ k. look_up unary_kind unary_operators k) e
unary-hit t Not e = ap (λ k. look_up unary_kind unary_operators k) e

pub unary-first : (op : UnaryOperator5) → First (unary_kind op)
unfolding prefix_words prefix_marks
unary-first Delete = first_word refl
unary-first Void = first_word refl
unary-first Typeof = first_word refl
unary-first Plus = first_mark refl
unary-first Minus = first_mark refl
unary-first BitNot = first_mark refl
unary-first Not = first_mark refl

-- a prefix `++` or `--` is no unary operator
pub before-hit : (t : Token5) (op : UpdateOperator5) → is_before op ≡ true → t.kind ≡ update_kind op → (unary_at t ≡ None) × (before_at t ≡ Some op)
unfolding unary_operators
before-hit t IncrementBefore h e = (ap (λ k. look_up unary_kind unary_operators k) e, ap (λ k. look_up update_kind (IncrementBefore ∷ DecrementBefore ∷ []) k) e)
before-hit t DecrementBefore h e = (ap (λ k. look_up unary_kind unary_operators k) e, ap (λ k. look_up update_kind (IncrementBefore ∷ DecrementBefore ∷ []) k) e)
before-hit t IncrementAfter h e = absurd (false≢true h)
before-hit t DecrementAfter h e = absurd (false≢true h)

pub before-first : (op : UpdateOperator5) → First (update_kind op)
unfolding prefix_marks
before-first IncrementBefore = first_mark refl
before-first DecrementBefore = first_mark refl
before-first IncrementAfter = first_mark refl
before-first DecrementAfter = first_mark refl

unless-false : {A : Type 0} (b : Bool) (o : Option A) → b ≡ false → unless b o ≡ o
unless-false true o h = absurd (true≢false h)
unless-false false o h = refl

pub after-hit : (t : Token5) (op : UpdateOperator5) → is_before op ≡ false → t.after_line ≡ false → t.kind ≡ update_kind op → after_at t ≡ Some op
after-hit t IncrementAfter h l e = unless-false t.after_line (look_up update_kind (IncrementAfter ∷ DecrementAfter ∷ []) t.kind) l ∙ ap (λ k. look_up update_kind (IncrementAfter ∷ DecrementAfter ∷ []) k) e
after-hit t DecrementAfter h l e = unless-false t.after_line (look_up update_kind (IncrementAfter ∷ DecrementAfter ∷ []) t.kind) l ∙ ap (λ k. look_up update_kind (IncrementAfter ∷ DecrementAfter ∷ []) k) e
after-hit t IncrementBefore h l e = absurd (true≢false h)
after-hit t DecrementBefore h l e = absurd (true≢false h)

-- a postfix operator goes on with no access or call
pub update-stops : (t : Token5) (op : UpdateOperator5) → t.kind ≡ update_kind op → (is_mark (codes ".") t.kind ≡ false) × (is_mark (codes "[") t.kind ≡ false) × (is_mark (codes "(") t.kind ≡ false)
update-stops t op e = subst (λ k. (is_mark (codes ".") k ≡ false) × (is_mark (codes "[") k ≡ false) × (is_mark (codes "(") k ≡ false)) (sym e) (at op)
  where
    at : (op : UpdateOperator5) → (is_mark (codes ".") (update_kind op) ≡ false) × (is_mark (codes "[") (update_kind op) ≡ false) × (is_mark (codes "(") (update_kind op) ≡ false)
    at IncrementBefore = (refl, refl, refl)
    at DecrementBefore = (refl, refl, refl)
    at IncrementAfter = (refl, refl, refl)
    at DecrementAfter = (refl, refl, refl)

-- ## Binary operators

record OperatorTests (op : BinaryOperator5) : Type 0 where
  dot : is_mark (codes ".") (binary_kind op) ≡ false
  bracket : is_mark (codes "[") (binary_kind op) ≡ false
  paren : is_mark (codes "(") (binary_kind op) ≡ false
  after : look_up update_kind (IncrementAfter ∷ DecrementAfter ∷ []) (binary_kind op) ≡ None
  question : is_mark (codes "?") (binary_kind op) ≡ false
  assigns : look_up assign_kind assign_operators (binary_kind op) ≡ None
  comma : is_mark (codes ",") (binary_kind op) ≡ false
  found : look_up binary_kind binary_operators (binary_kind op) ≡ Some op
  high : binary_level op ≤ 12

operator-tests : (op : BinaryOperator5) → OperatorTests op
unfolding binary_operators assign_operators
operator-tests binary.Or = record { dot = refl; bracket = refl; paren = refl; after = refl; question = refl; assigns = refl; comma = refl; found = refl; high = omega arith }
operator-tests binary.And = record { dot = refl; bracket = refl; paren = refl; after = refl; question = refl; assigns = refl; comma = refl; found = refl; high = omega arith }
operator-tests binary.BitOr = record { dot = refl; bracket = refl; paren = refl; after = refl; question = refl; assigns = refl; comma = refl; found = refl; high = omega arith }
operator-tests binary.BitXor = record { dot = refl; bracket = refl; paren = refl; after = refl; question = refl; assigns = refl; comma = refl; found = refl; high = omega arith }
operator-tests binary.BitAnd = record { dot = refl; bracket = refl; paren = refl; after = refl; question = refl; assigns = refl; comma = refl; found = refl; high = omega arith }
operator-tests binary.Equal = record { dot = refl; bracket = refl; paren = refl; after = refl; question = refl; assigns = refl; comma = refl; found = refl; high = omega arith }
operator-tests binary.NotEqual = record { dot = refl; bracket = refl; paren = refl; after = refl; question = refl; assigns = refl; comma = refl; found = refl; high = omega arith }
operator-tests binary.Same = record { dot = refl; bracket = refl; paren = refl; after = refl; question = refl; assigns = refl; comma = refl; found = refl; high = omega arith }
operator-tests binary.NotSame = record { dot = refl; bracket = refl; paren = refl; after = refl; question = refl; assigns = refl; comma = refl; found = refl; high = omega arith }
operator-tests binary.Less = record { dot = refl; bracket = refl; paren = refl; after = refl; question = refl; assigns = refl; comma = refl; found = refl; high = omega arith }
operator-tests binary.Greater = record { dot = refl; bracket = refl; paren = refl; after = refl; question = refl; assigns = refl; comma = refl; found = refl; high = omega arith }
operator-tests binary.AtMost = record { dot = refl; bracket = refl; paren = refl; after = refl; question = refl; assigns = refl; comma = refl; found = refl; high = omega arith }
operator-tests binary.AtLeast = record { dot = refl; bracket = refl; paren = refl; after = refl; question = refl; assigns = refl; comma = refl; found = refl; high = omega arith }
operator-tests binary.InstanceOf = record { dot = refl; bracket = refl; paren = refl; after = refl; question = refl; assigns = refl; comma = refl; found = refl; high = omega arith }
operator-tests binary.In = record { dot = refl; bracket = refl; paren = refl; after = refl; question = refl; assigns = refl; comma = refl; found = refl; high = omega arith }
operator-tests binary.ShiftLeft = record { dot = refl; bracket = refl; paren = refl; after = refl; question = refl; assigns = refl; comma = refl; found = refl; high = omega arith }
operator-tests binary.ShiftRight = record { dot = refl; bracket = refl; paren = refl; after = refl; question = refl; assigns = refl; comma = refl; found = refl; high = omega arith }
operator-tests binary.ShiftRightUnsigned = record { dot = refl; bracket = refl; paren = refl; after = refl; question = refl; assigns = refl; comma = refl; found = refl; high = omega arith }
operator-tests binary.Add = record { dot = refl; bracket = refl; paren = refl; after = refl; question = refl; assigns = refl; comma = refl; found = refl; high = omega arith }
operator-tests binary.Subtract = record { dot = refl; bracket = refl; paren = refl; after = refl; question = refl; assigns = refl; comma = refl; found = refl; high = omega arith }
operator-tests binary.Multiply = record { dot = refl; bracket = refl; paren = refl; after = refl; question = refl; assigns = refl; comma = refl; found = refl; high = omega arith }
operator-tests binary.Divide = record { dot = refl; bracket = refl; paren = refl; after = refl; question = refl; assigns = refl; comma = refl; found = refl; high = omega arith }
operator-tests binary.Remainder = record { dot = refl; bracket = refl; paren = refl; after = refl; question = refl; assigns = refl; comma = refl; found = refl; high = omega arith }

pub level-high : (op : BinaryOperator5) → binary_level op ≤ 12
level-high op = (operator-tests op).high

other-level : (op : BinaryOperator5) (level : ℕ) → suc (binary_level op) ≤ level → (binary_level op == level) ≡ false
other-level op level h = is-false (binary_level op == level) (λ e. no-same (binary_level op) level h (eqb-true (binary_level op) level e))
  where
    no-same : (a b : ℕ) → suc a ≤ b → a ≡ b → ⊥
    no-same a b h e = omega arith

unless-true : {A : Type 0} (b : Bool) (o : Option A) → b ≡ true → unless b o ≡ None
unless-true true o h = refl
unless-true false o h = absurd (false≢true h)

pub closes-operator : (j : Bool) (ts : List Token5) (t : Token5) (op : BinaryOperator5) (level : ℕ) → t.kind ≡ binary_kind op → binary_level op ≡ level → Closes j (level + 1) (t ∷ ts)
closes-operator j ts t op level e l = at-kind (λ u. Closes j (level + 1) (u ∷ ts)) t (binary_kind op) e (record {
  dot = h.dot;
  bracket = h.bracket;
  paren = λ m. h.paren;
  after = λ m. unless-none t.after_line (look_up update_kind (IncrementAfter ∷ DecrementAfter ∷ []) (binary_kind op)) h.after;
  operator = λ level' m n. ap (λ o. operator_of_level j level' o) h.found ∙ unless-true (not (binary_level op == level') || (j && is_in op)) (Some op)
      (ap (λ b. not b || (j && is_in op)) (other-level op level' (below level' m)));
  question = λ m. mark-miss (codes "?") (record { begin = t.begin; end = t.end; after_line = t.after_line; kind = binary_kind op }) h.question;
  assigns = λ m. h.assigns;
  comma = λ m. mark-miss (codes ",") (record { begin = t.begin; end = t.end; after_line = t.after_line; kind = binary_kind op }) h.comma;
})
  where
    h : OperatorTests op
    h = operator-tests op

    below : (level' : ℕ) → level + 1 ≤ level' → suc (binary_level op) ≤ level'
    below level' m = omega (arith, l)

eq-same : (a b : ℕ) → a ≡ b → (a == b) ≡ true
eq-same a b e = subst (λ c. (a == c) ≡ true) e (self a)
  where
    self : (a : ℕ) → (a == a) ≡ true
    self a = eq-eqb a a refl

pub binary-hit : (j : Bool) (level : ℕ) (t : Token5) (op : BinaryOperator5) → t.kind ≡ binary_kind op → binary_level op ≡ level → (j && is_in op) ≡ false → binary_at j level t ≡ Some op
binary-hit j level t op e l n = ap (λ k. operator_of_level j level (look_up binary_kind binary_operators k)) e ∙ ap (λ o. operator_of_level j level o) (operator-tests op).found
    ∙ unless-false (not (binary_level op == level) || (j && is_in op)) (Some op) (ap (λ b. not b || (j && is_in op)) (eq-same (binary_level op) level l) ∙ n)
