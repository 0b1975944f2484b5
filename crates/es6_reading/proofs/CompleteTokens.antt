-- What single tokens are to the readers of expressions: what begins one, and what goes on with none.
use Rattle.std.proofs.Common.{◌≡◌, ℕ, suc, ◌+◌, ◌≤◌, Bool, true, false, ◌&&◌, ◌||◌, not, cond, List, [], ◌∷◌, Option, Some, None, refl, sym, ap, subst, ◌∙◌, arith, eqb-true, eq-eqb}
use Rattle.std.proofs.lemmas.Bool.{false≢true, true≢false}
use Rattle.std.specs.Prelude.{codes, ◌==◌}
use Rattle.es_outside.specs.HostNames.{reserved_words}
use Rattle.es6_lexer.specs.declared.token.TokenKind.{TokenKind}
use Rattle.es6_lexer.specs.declared.token.TokenKind.TheVariants as kinds
use Rattle.es6_lexer.specs.declared.token.Punctuator.{Punctuator as Mark}
use Rattle.es6_lexer.specs.declared.token.Punctuator.TheVariants as marks
use Rattle.es6_ast.specs.declared.operators.UnaryOperator.{UnaryOperator}
use Rattle.es6_ast.specs.declared.operators.UnaryOperator.TheVariants as unaries
use Rattle.es6_ast.specs.declared.operators.UpdateOperator.{UpdateOperator}
use Rattle.es6_ast.specs.declared.operators.UpdateOperator.TheVariants.{IncrementBefore, DecrementBefore, IncrementAfter, DecrementAfter}
use Rattle.es6_ast.specs.declared.operators.BinaryOperator.{BinaryOperator}
use Rattle.es6_ast.specs.declared.operators.BinaryOperator.TheVariants as binary
use Rattle.es6_ast.specs.declared.operators.AssignOperator.{AssignOperator}
use Rattle.es6_ast.specs.declared.operators.AssignOperator.TheVariants as assign
use Rattle.es6_ast.specs.declared.operators.Literal.{Literal}
use Rattle.es6_ast.specs.declared.operators.Literal.TheVariants as literals
use Rattle.es6_ast.specs.declared.settings.Flags.{Flags}
use Rattle.es6_ast.specs.Tokens.{Filling, Read, Inserted, Filled, IsWord, IsMark, is_word, is_identifier}
use Rattle.es6_ast.specs.Grammar.{IsEnd, ends, is_in, is_before, unary_kind, update_kind, assign_kind, binary_kind, binary_level, literal_kind}
use Rattle.es6_reading.specs.Parser.{is_mark, kept_if, mark, word, next_is, next_mark}
use Rattle.es6_reading.specs.Words.{same_kind, look_up, unary_operators, unary_at, before_at, unless, after_at, assign_operators, assign_at, binary_operators, operator_of_level, binary_at, is_arrow, is_template_head, operand_words, begins_operand, begins_unary, begins_expression}
use Rattle.es6_reading.specs.Expressions.{ends_yield}
use Rattle.es6_reading.proofs.Posts.{Misses}
use Rattle.es6_reading.proofs.Meanings.{mark-is, word-is}

-- what holds of a token with a kind holds of one that has that kind
pub at-kind : (P : Filled → Type 0) (t : Filled) (k : Filling) → t.kind ≡ k → P (record { kind = k; span = t.span; newline = t.newline }) → P t
at-kind P t k e h = subst (λ j. P (record { kind = j; span = t.span; newline = t.newline })) (sym e) h

pub is-false : (b : Bool) → (b ≡ true → ⊥) → b ≡ false
is-false true h = absurd (h refl)
is-false false h = refl

or-left : (a b : Bool) → a ≡ true → (a || b) ≡ true
or-left true b h = refl
or-left false b h = absurd (false≢true h)

or-right : (a b : Bool) → b ≡ true → (a || b) ≡ true
or-right true b h = refl
or-right false b h = h

-- ## What begins an expression

-- a token of which a test holds is no word, and no mark, of which it doesn't hold
pub no-word : (test : Filled → Bool) (w : List ℕ) (t : Filled) → test t ≡ true → test (record { kind = Read (kinds.Word w); span = t.span; newline = t.newline }) ≡ false → is_word w t.kind ≡ false
no-word test w t h n = is-false (is_word w t.kind) (λ e. false≢true (sym n ∙ subst (λ k. test (record { kind = k; span = t.span; newline = t.newline }) ≡ true) (word-is w t.kind e) h))

pub no-mark : (test : Filled → Bool) (p : Mark) (t : Filled) → test t ≡ true → test (record { kind = Read (kinds.Punctuator p); span = t.span; newline = t.newline }) ≡ false → is_mark p t.kind ≡ false
no-mark test p t h n = is-false (is_mark p t.kind) (λ e. false≢true (sym n ∙ subst (λ k. test (record { kind = k; span = t.span; newline = t.newline }) ≡ true) (mark-is p t.kind e) h))

pub name-begins : (w : List ℕ) (t : Filled) → IsWord w t → is_identifier w ≡ true → begins_operand t ≡ true
unfolding begins_operand
name-begins w t e h = at-kind (λ u. begins_operand u ≡ true) t (Read (kinds.Word w)) e (by-name (is_identifier w) h)
  where
    by-name : (b : Bool) → b ≡ true → begins_operand (record { kind = Read (kinds.Word w); span = t.span; newline = t.newline }) ≡ true
    by-name b k = rw h refl

pub literal-begins : (value : Literal) (t : Filled) → t.kind ≡ Read (literal_kind value) → begins_operand t ≡ true
unfolding begins_operand reserved_words operand_words
literal-begins literals.Null t e = at-kind (λ u. begins_operand u ≡ true) t _ e refl
literal-begins (literals.Truth true) t e = at-kind (λ u. begins_operand u ≡ true) t _ e refl
literal-begins (literals.Truth false) t e = at-kind (λ u. begins_operand u ≡ true) t _ e refl
literal-begins (literals.Integer value) t e = at-kind (λ u. begins_operand u ≡ true) t _ e refl
literal-begins (literals.Text units) t e = at-kind (λ u. begins_operand u ≡ true) t _ e refl

pub template-begins : (cooked raw : List ℕ) (last : Bool) (t : Filled) → t.kind ≡ Read (kinds.Template cooked raw true last) → begins_operand t ≡ true
unfolding begins_operand reserved_words operand_words
template-begins cooked raw last t e = at-kind (λ u. begins_operand u ≡ true) t _ e refl

pub this-begins : (t : Filled) → IsWord (codes "this") t → begins_operand t ≡ true
unfolding begins_operand reserved_words operand_words
this-begins t e = at-kind (λ u. begins_operand u ≡ true) t _ e refl

pub function-begins : (t : Filled) → IsWord (codes "function") t → begins_operand t ≡ true
unfolding begins_operand reserved_words operand_words
function-begins t e = at-kind (λ u. begins_operand u ≡ true) t _ e refl

pub class-begins : (t : Filled) → IsWord (codes "class") t → begins_operand t ≡ true
unfolding begins_operand reserved_words operand_words
class-begins t e = at-kind (λ u. begins_operand u ≡ true) t _ e refl

pub new-begins : (t : Filled) → IsWord (codes "new") t → begins_operand t ≡ true
unfolding begins_operand reserved_words operand_words
new-begins t e = at-kind (λ u. begins_operand u ≡ true) t _ e refl

pub super-begins : (t : Filled) → IsWord (codes "super") t → begins_operand t ≡ true
unfolding begins_operand reserved_words operand_words
super-begins t e = at-kind (λ u. begins_operand u ≡ true) t _ e refl

pub parenthesis-begins : (t : Filled) → IsMark marks.LeftParenthesis t → begins_operand t ≡ true
unfolding begins_operand reserved_words operand_words
parenthesis-begins t e = at-kind (λ u. begins_operand u ≡ true) t _ e refl

pub bracket-begins : (t : Filled) → IsMark marks.LeftBracket t → begins_operand t ≡ true
unfolding begins_operand reserved_words operand_words
bracket-begins t e = at-kind (λ u. begins_operand u ≡ true) t _ e refl

pub brace-begins : (t : Filled) → IsMark marks.LeftBrace t → begins_operand t ≡ true
unfolding begins_operand reserved_words operand_words
brace-begins t e = at-kind (λ u. begins_operand u ≡ true) t _ e refl

pub operand-begins : (t : Filled) → begins_operand t ≡ true → begins_unary t ≡ true
unfolding begins_unary
operand-begins t h = rw h refl

pub unary-begins : (op : UnaryOperator) (t : Filled) → t.kind ≡ Read (unary_kind op) → begins_unary t ≡ true
unfolding begins_unary begins_operand reserved_words operand_words unary_operators
unary-begins unaries.Delete t e = at-kind (λ u. begins_unary u ≡ true) t _ e refl
unary-begins unaries.Void t e = at-kind (λ u. begins_unary u ≡ true) t _ e refl
unary-begins unaries.Typeof t e = at-kind (λ u. begins_unary u ≡ true) t _ e refl
unary-begins unaries.Plus t e = at-kind (λ u. begins_unary u ≡ true) t _ e refl
unary-begins unaries.Minus t e = at-kind (λ u. begins_unary u ≡ true) t _ e refl
unary-begins unaries.BitNot t e = at-kind (λ u. begins_unary u ≡ true) t _ e refl
unary-begins unaries.Not t e = at-kind (λ u. begins_unary u ≡ true) t _ e refl

pub before-begins : (op : UpdateOperator) (t : Filled) → t.kind ≡ Read (update_kind op) → begins_unary t ≡ true
unfolding begins_unary begins_operand reserved_words operand_words unary_operators
before-begins IncrementBefore t e = at-kind (λ u. begins_unary u ≡ true) t _ e refl
before-begins DecrementBefore t e = at-kind (λ u. begins_unary u ≡ true) t _ e refl
before-begins IncrementAfter t e = at-kind (λ u. begins_unary u ≡ true) t _ e refl
before-begins DecrementAfter t e = at-kind (λ u. begins_unary u ≡ true) t _ e refl

pub expression-begins : (f : Flags) (t : Filled) → begins_unary t ≡ true → begins_expression f t ≡ true
unfolding begins_expression
expression-begins f t h = rw h refl

pub yield-begins : (f : Flags) (t : Filled) → f.has_yield ≡ true → IsWord (codes "yield") t → begins_expression f t ≡ true
unfolding begins_expression
yield-begins f t h e = or-right (begins_unary t) (f.has_yield && is_word (codes "yield") t.kind) (rw (h, e) refl)

-- ## No prefix operator

pub cond-false : {A : Type 0} (b : Bool) (x y : A) → b ≡ false → cond b x y ≡ y
cond-false true x y h = absurd (true≢false h)
cond-false false x y h = refl

abbrev NoneSame : {A : Type 0} → (A → TokenKind) → List A → Filling → Type 0
NoneSame f [] k = Unit {0}
NoneSame f (x ∷ xs) k = (same_kind (f x) k ≡ false) × NoneSame f xs k

look-up-none : {A : Type 0} (f : A → TokenKind) (xs : List A) (k : Filling) → NoneSame f xs k → look_up f xs k ≡ None
look-up-none f [] k h = refl
look-up-none f (x ∷ xs) k h = cond-false (same_kind (f x) k) (Some x) (look_up f xs k) h.0 ∙ look-up-none f xs k h.1

pub operand-no-unary : (t : Filled) → begins_operand t ≡ true → unary_at t ≡ None
unfolding begins_operand reserved_words operand_words unary_operators
operand-no-unary t h = look-up-none unary_kind unary_operators t.kind (
  no-word begins_operand (codes "delete") t h refl,
  (
    no-word begins_operand (codes "void") t h refl,
    (
      no-word begins_operand (codes "typeof") t h refl,
      (no-mark begins_operand marks.Plus t h refl, (no-mark begins_operand marks.Minus t h refl, (no-mark begins_operand marks.Tilde t h refl, (no-mark begins_operand marks.Exclamation t h refl, tt)))),
    ),
  ),
)

pub operand-no-before : (t : Filled) → begins_operand t ≡ true → before_at t ≡ None
unfolding begins_operand reserved_words operand_words
operand-no-before t h = look-up-none update_kind (IncrementBefore ∷ DecrementBefore ∷ []) t.kind (no-mark begins_operand marks.PlusPlus t h refl, (no-mark begins_operand marks.MinusMinus t h refl, tt))

-- ## What goes on with no expression of a level

pub record Closes (f : Flags) (least : ℕ) (ts : List Filled) : Type 0 where
  pub dot : next_is (next_mark marks.Dot) ts ≡ false
  pub bracket : next_is (next_mark marks.LeftBracket) ts ≡ false
  pub template : next_is (λ t. is_template_head t.kind) ts ≡ false
  pub paren : least ≤ 17 → next_is (next_mark marks.LeftParenthesis) ts ≡ false
  pub after : least ≤ 15 → Misses after_at ts
  pub raised : least ≤ 13 → Misses (mark marks.StarStar) ts
  pub operator : (level : ℕ) → least ≤ level → level ≤ 12 → Misses (binary_at f level) ts
  pub question : least ≤ 2 → Misses (mark marks.Question) ts
  pub arrow : least ≤ 1 → next_is is_arrow ts ≡ false
  pub assigns : least ≤ 1 → Misses assign_at ts
  pub comma : least ≤ 0 → Misses (mark marks.Comma) ts

-- A `yield` without a value ends before these, where an expression of the level may end in one.
abbrev pub EndsYield : ℕ → List Filled → Type 0
EndsYield level ts = level ≤ 2 → next_is (λ t. not (ends_yield t)) ts ≡ false

le-trans : (a b c : ℕ) → a ≤ b → b ≤ c → a ≤ c
le-trans a b c h k = omega arith

pub closes-up : (f : Flags) (a b : ℕ) (ts : List Filled) → a ≤ b → Closes f a ts → Closes f b ts
closes-up f a b ts h c = record {
  dot = c.dot;
  bracket = c.bracket;
  template = c.template;
  paren = λ l. c.paren (le-trans a b 17 h l);
  after = λ l. c.after (le-trans a b 15 h l);
  raised = λ l. c.raised (le-trans a b 13 h l);
  operator = λ level l m. c.operator level (le-trans a b level h l) m;
  question = λ l. c.question (le-trans a b 2 h l);
  arrow = λ l. c.arrow (le-trans a b 1 h l);
  assigns = λ l. c.assigns (le-trans a b 1 h l);
  comma = λ l. c.comma (le-trans a b 0 h l);
}

no-level : (a n : ℕ) → 13 ≤ a → a ≤ n → n ≤ 12 → ⊥
no-level a n h k l = omega arith

-- above the binary operators the flags count nothing
pub closes-any : (f g : Flags) (least : ℕ) (ts : List Filled) → 13 ≤ least → Closes f least ts → Closes g least ts
closes-any f g least ts h c = record { dot = c.dot; bracket = c.bracket; template = c.template; paren = c.paren; after = c.after; raised = c.raised; operator = λ level l m. absurd (no-level least level h l m); question = c.question; arrow = c.arrow; assigns = c.assigns; comma = c.comma }

unless-none : {A : Type 0} (b : Bool) (o : Option A) → o ≡ None → unless b o ≡ None
unless-none true o h = refl
unless-none false o h = h

kept-none : (b : Bool) (t : Filled) → b ≡ false → kept_if b t ≡ None
kept-none true t h = absurd (true≢false h)
kept-none false t h = refl

pub mark-miss : (p : Mark) (t : Filled) → is_mark p t.kind ≡ false → mark p t ≡ None
mark-miss p t h = kept-none (is_mark p t.kind) t h

pub word-miss : (w : List ℕ) (t : Filled) → is_word w t.kind ≡ false → word w t ≡ None
word-miss w t h = kept-none (is_word w t.kind) t h

-- the tests of a kind of token
record Tests (least : ℕ) (k : Filling) : Type 0 where
  dot : is_mark marks.Dot k ≡ false
  bracket : is_mark marks.LeftBracket k ≡ false
  template : is_template_head k ≡ false
  paren : least ≤ 17 → is_mark marks.LeftParenthesis k ≡ false
  after : least ≤ 15 → look_up update_kind (IncrementAfter ∷ DecrementAfter ∷ []) k ≡ None
  raised : least ≤ 13 → is_mark marks.StarStar k ≡ false
  operator : look_up binary_kind binary_operators k ≡ None
  question : least ≤ 2 → is_mark marks.Question k ≡ false
  arrow : least ≤ 1 → is_mark marks.Arrow k ≡ false
  assigns : least ≤ 1 → look_up assign_kind assign_operators k ≡ None
  comma : least ≤ 0 → is_mark marks.Comma k ≡ false

closes-tests : (f : Flags) (least : ℕ) (t : Filled) (ts : List Filled) (k : Filling) → t.kind ≡ k → Tests least k → Closes f least (t ∷ ts)
closes-tests f least t ts k e h = at-kind (λ u. Closes f least (u ∷ ts)) t k e (record {
  dot = h.dot;
  bracket = h.bracket;
  template = h.template;
  paren = h.paren;
  after = λ l. unless-none t.newline (look_up update_kind (IncrementAfter ∷ DecrementAfter ∷ []) k) (h.after l);
  raised = λ l. mark-miss marks.StarStar (record { kind = k; span = t.span; newline = t.newline }) (h.raised l);
  operator = λ level l m. ap (λ o. operator_of_level f level o) h.operator;
  question = λ l. mark-miss marks.Question (record { kind = k; span = t.span; newline = t.newline }) (h.question l);
  arrow = λ l. ap (λ b. b && not t.newline) (h.arrow l);
  assigns = h.assigns;
  comma = λ l. mark-miss marks.Comma (record { kind = k; span = t.span; newline = t.newline }) (h.comma l);
})

no-le : (a b : ℕ) → suc b ≤ a → a ≤ b → ⊥
no-le a b h k = omega arith

-- what goes on with nothing
record NoTests (k : Filling) : Type 0 where
  dot : is_mark marks.Dot k ≡ false
  bracket : is_mark marks.LeftBracket k ≡ false
  template : is_template_head k ≡ false
  paren : is_mark marks.LeftParenthesis k ≡ false
  after : look_up update_kind (IncrementAfter ∷ DecrementAfter ∷ []) k ≡ None
  raised : is_mark marks.StarStar k ≡ false
  operator : look_up binary_kind binary_operators k ≡ None
  question : is_mark marks.Question k ≡ false
  arrow : is_mark marks.Arrow k ≡ false
  assigns : look_up assign_kind assign_operators k ≡ None

closes-all : (f : Flags) (least : ℕ) (t : Filled) (ts : List Filled) (k : Filling) → t.kind ≡ k → NoTests k → (least ≤ 0 → is_mark marks.Comma k ≡ false) → Closes f least (t ∷ ts)
closes-all f least t ts k e h c = closes-tests f least t ts k e (record { dot = h.dot; bracket = h.bracket; template = h.template; paren = λ l. h.paren; after = λ l. h.after; raised = λ l. h.raised; operator = h.operator; question = λ l. h.question; arrow = λ l. h.arrow; assigns = λ l. h.assigns; comma = c })

pub closes-close : (f : Flags) (ts : List Filled) (t : Filled) → IsMark marks.RightParenthesis t → Closes f 0 (t ∷ ts)
unfolding binary_operators assign_operators
closes-close f ts t e = closes-all f 0 t ts (Read (kinds.Punctuator marks.RightParenthesis)) e (record { dot = refl; bracket = refl; template = refl; paren = refl; after = refl; raised = refl; operator = refl; question = refl; arrow = refl; assigns = refl }) (λ l. refl)

pub closes-square : (f : Flags) (ts : List Filled) (t : Filled) → IsMark marks.RightBracket t → Closes f 0 (t ∷ ts)
unfolding binary_operators assign_operators
closes-square f ts t e = closes-all f 0 t ts (Read (kinds.Punctuator marks.RightBracket)) e (record { dot = refl; bracket = refl; template = refl; paren = refl; after = refl; raised = refl; operator = refl; question = refl; arrow = refl; assigns = refl }) (λ l. refl)

pub closes-brace : (f : Flags) (ts : List Filled) (t : Filled) → IsMark marks.RightBrace t → Closes f 0 (t ∷ ts)
unfolding binary_operators assign_operators
closes-brace f ts t e = closes-all f 0 t ts (Read (kinds.Punctuator marks.RightBrace)) e (record { dot = refl; bracket = refl; template = refl; paren = refl; after = refl; raised = refl; operator = refl; question = refl; arrow = refl; assigns = refl }) (λ l. refl)

pub closes-colon : (f : Flags) (ts : List Filled) (t : Filled) → IsMark marks.Colon t → Closes f 0 (t ∷ ts)
unfolding binary_operators assign_operators
closes-colon f ts t e = closes-all f 0 t ts (Read (kinds.Punctuator marks.Colon)) e (record { dot = refl; bracket = refl; template = refl; paren = refl; after = refl; raised = refl; operator = refl; question = refl; arrow = refl; assigns = refl }) (λ l. refl)

pub closes-semicolon : (f : Flags) (ts : List Filled) (t : Filled) → IsMark marks.Semicolon t → Closes f 0 (t ∷ ts)
unfolding binary_operators assign_operators
closes-semicolon f ts t e = closes-all f 0 t ts (Read (kinds.Punctuator marks.Semicolon)) e (record { dot = refl; bracket = refl; template = refl; paren = refl; after = refl; raised = refl; operator = refl; question = refl; arrow = refl; assigns = refl }) (λ l. refl)

pub closes-comma : (f : Flags) (ts : List Filled) (t : Filled) → IsMark marks.Comma t → Closes f 1 (t ∷ ts)
unfolding binary_operators assign_operators
closes-comma f ts t e = closes-all f 1 t ts (Read (kinds.Punctuator marks.Comma)) e (record { dot = refl; bracket = refl; template = refl; paren = refl; after = refl; raised = refl; operator = refl; question = refl; arrow = refl; assigns = refl }) (λ l. absurd (no-le 1 0 (omega arith) l))

-- `{` after a heritage
pub closes-body : (f : Flags) (ts : List Filled) (t : Filled) → IsMark marks.LeftBrace t → Closes f 0 (t ∷ ts)
unfolding binary_operators assign_operators
closes-body f ts t e = closes-all f 0 t ts (Read (kinds.Punctuator marks.LeftBrace)) e (record { dot = refl; bracket = refl; template = refl; paren = refl; after = refl; raised = refl; operator = refl; question = refl; arrow = refl; assigns = refl }) (λ l. refl)

-- `of` after what a for-of statement assigns
pub closes-of : (f : Flags) (ts : List Filled) (t : Filled) → IsWord (codes "of") t → Closes f 0 (t ∷ ts)
unfolding binary_operators assign_operators
closes-of f ts t e = closes-all f 0 t ts (Read (kinds.Word (codes "of"))) e (record { dot = refl; bracket = refl; template = refl; paren = refl; after = refl; raised = refl; operator = refl; question = refl; arrow = refl; assigns = refl }) (λ l. refl)

pub closes-inserted : (f : Flags) (d : Bool) (ts : List Filled) (t : Filled) → t.kind ≡ Inserted d → Closes f 0 (t ∷ ts)
unfolding binary_operators assign_operators
closes-inserted f d ts t e = closes-all f 0 t ts (Inserted d) e (record { dot = refl; bracket = refl; template = refl; paren = refl; after = refl; raised = refl; operator = refl; question = refl; arrow = refl; assigns = refl }) (λ l. refl)

-- a stretch of a template after a value
pub closes-stretch : (f : Flags) (cooked raw : List ℕ) (last : Bool) (ts : List Filled) (t : Filled) → t.kind ≡ Read (kinds.Template cooked raw false last) → Closes f 0 (t ∷ ts)
unfolding binary_operators assign_operators
closes-stretch f cooked raw last ts t e = closes-all f 0 t ts (Read (kinds.Template cooked raw false last)) e (record { dot = refl; bracket = refl; template = refl; paren = refl; after = refl; raised = refl; operator = refl; question = refl; arrow = refl; assigns = refl }) (λ l. refl)

pub closes-question : (f : Flags) (ts : List Filled) (t : Filled) → IsMark marks.Question t → Closes f 3 (t ∷ ts)
unfolding binary_operators assign_operators
closes-question f ts t e = closes-tests f 3 t ts (Read (kinds.Punctuator marks.Question)) e (record { dot = refl; bracket = refl; template = refl; paren = λ l. refl; after = λ l. refl; raised = λ l. refl; operator = refl; question = λ l. absurd (no-le 3 2 (omega arith) l); arrow = λ l. refl; assigns = λ l. refl; comma = λ l. refl })

pub closes-arrow : (f : Flags) (ts : List Filled) (t : Filled) → IsMark marks.Arrow t → Closes f 2 (t ∷ ts)
unfolding binary_operators assign_operators
closes-arrow f ts t e = closes-tests f 2 t ts (Read (kinds.Punctuator marks.Arrow)) e (record { dot = refl; bracket = refl; template = refl; paren = λ l. refl; after = λ l. refl; raised = λ l. refl; operator = refl; question = λ l. refl; arrow = λ l. absurd (no-le 2 1 (omega arith) l); assigns = λ l. refl; comma = λ l. refl })

pub closes-power : (f : Flags) (ts : List Filled) (t : Filled) → IsMark marks.StarStar t → Closes f 14 (t ∷ ts)
unfolding binary_operators assign_operators
closes-power f ts t e = closes-tests f 14 t ts (Read (kinds.Punctuator marks.StarStar)) e (record { dot = refl; bracket = refl; template = refl; paren = λ l. refl; after = λ l. refl; raised = λ l. absurd (no-le 14 13 (omega arith) l); operator = refl; question = λ l. refl; arrow = λ l. refl; assigns = λ l. refl; comma = λ l. refl })

pub closes-update : (f : Flags) (ts : List Filled) (t : Filled) (op : UpdateOperator) → t.kind ≡ Read (update_kind op) → Closes f 16 (t ∷ ts)
unfolding binary_operators assign_operators
closes-update f ts t IncrementBefore e = closes-tests f 16 t ts (Read (kinds.Punctuator marks.PlusPlus)) e (record { dot = refl; bracket = refl; template = refl; paren = λ l. refl; after = λ l. absurd (no-le 16 15 (omega arith) l); raised = λ l. refl; operator = refl; question = λ l. refl; arrow = λ l. refl; assigns = λ l. refl; comma = λ l. refl })
closes-update f ts t DecrementBefore e = closes-tests f 16 t ts (Read (kinds.Punctuator marks.MinusMinus)) e (record { dot = refl; bracket = refl; template = refl; paren = λ l. refl; after = λ l. absurd (no-le 16 15 (omega arith) l); raised = λ l. refl; operator = refl; question = λ l. refl; arrow = λ l. refl; assigns = λ l. refl; comma = λ l. refl })
closes-update f ts t IncrementAfter e = closes-tests f 16 t ts (Read (kinds.Punctuator marks.PlusPlus)) e (record { dot = refl; bracket = refl; template = refl; paren = λ l. refl; after = λ l. absurd (no-le 16 15 (omega arith) l); raised = λ l. refl; operator = refl; question = λ l. refl; arrow = λ l. refl; assigns = λ l. refl; comma = λ l. refl })
closes-update f ts t DecrementAfter e = closes-tests f 16 t ts (Read (kinds.Punctuator marks.MinusMinus)) e (record { dot = refl; bracket = refl; template = refl; paren = λ l. refl; after = λ l. absurd (no-le 16 15 (omega arith) l); raised = λ l. refl; operator = refl; question = λ l. refl; arrow = λ l. refl; assigns = λ l. refl; comma = λ l. refl })

assign-tests : (op : AssignOperator) → Tests 2 (Read (assign_kind op))
unfolding binary_operators assign_operators
assign-tests assign.Assign = record { dot = refl; bracket = refl; template = refl; paren = λ l. refl; after = λ l. refl; raised = λ l. refl; operator = refl; question = λ l. refl; arrow = λ l. refl; assigns = λ l. absurd (no-le 2 1 (omega arith) l); comma = λ l. refl }
assign-tests assign.MultiplyAssign = record { dot = refl; bracket = refl; template = refl; paren = λ l. refl; after = λ l. refl; raised = λ l. refl; operator = refl; question = λ l. refl; arrow = λ l. refl; assigns = λ l. absurd (no-le 2 1 (omega arith) l); comma = λ l. refl }
assign-tests assign.DivideAssign = record { dot = refl; bracket = refl; template = refl; paren = λ l. refl; after = λ l. refl; raised = λ l. refl; operator = refl; question = λ l. refl; arrow = λ l. refl; assigns = λ l. absurd (no-le 2 1 (omega arith) l); comma = λ l. refl }
assign-tests assign.RemainderAssign = record { dot = refl; bracket = refl; template = refl; paren = λ l. refl; after = λ l. refl; raised = λ l. refl; operator = refl; question = λ l. refl; arrow = λ l. refl; assigns = λ l. absurd (no-le 2 1 (omega arith) l); comma = λ l. refl }
assign-tests assign.AddAssign = record { dot = refl; bracket = refl; template = refl; paren = λ l. refl; after = λ l. refl; raised = λ l. refl; operator = refl; question = λ l. refl; arrow = λ l. refl; assigns = λ l. absurd (no-le 2 1 (omega arith) l); comma = λ l. refl }
assign-tests assign.SubtractAssign = record { dot = refl; bracket = refl; template = refl; paren = λ l. refl; after = λ l. refl; raised = λ l. refl; operator = refl; question = λ l. refl; arrow = λ l. refl; assigns = λ l. absurd (no-le 2 1 (omega arith) l); comma = λ l. refl }
assign-tests assign.ShiftLeftAssign = record { dot = refl; bracket = refl; template = refl; paren = λ l. refl; after = λ l. refl; raised = λ l. refl; operator = refl; question = λ l. refl; arrow = λ l. refl; assigns = λ l. absurd (no-le 2 1 (omega arith) l); comma = λ l. refl }
assign-tests assign.ShiftRightAssign = record { dot = refl; bracket = refl; template = refl; paren = λ l. refl; after = λ l. refl; raised = λ l. refl; operator = refl; question = λ l. refl; arrow = λ l. refl; assigns = λ l. absurd (no-le 2 1 (omega arith) l); comma = λ l. refl }
assign-tests assign.ShiftRightUnsignedAssign = record { dot = refl; bracket = refl; template = refl; paren = λ l. refl; after = λ l. refl; raised = λ l. refl; operator = refl; question = λ l. refl; arrow = λ l. refl; assigns = λ l. absurd (no-le 2 1 (omega arith) l); comma = λ l. refl }
assign-tests assign.BitAndAssign = record { dot = refl; bracket = refl; template = refl; paren = λ l. refl; after = λ l. refl; raised = λ l. refl; operator = refl; question = λ l. refl; arrow = λ l. refl; assigns = λ l. absurd (no-le 2 1 (omega arith) l); comma = λ l. refl }
assign-tests assign.BitXorAssign = record { dot = refl; bracket = refl; template = refl; paren = λ l. refl; after = λ l. refl; raised = λ l. refl; operator = refl; question = λ l. refl; arrow = λ l. refl; assigns = λ l. absurd (no-le 2 1 (omega arith) l); comma = λ l. refl }
assign-tests assign.BitOrAssign = record { dot = refl; bracket = refl; template = refl; paren = λ l. refl; after = λ l. refl; raised = λ l. refl; operator = refl; question = λ l. refl; arrow = λ l. refl; assigns = λ l. absurd (no-le 2 1 (omega arith) l); comma = λ l. refl }
assign-tests assign.PowerAssign = record { dot = refl; bracket = refl; template = refl; paren = λ l. refl; after = λ l. refl; raised = λ l. refl; operator = refl; question = λ l. refl; arrow = λ l. refl; assigns = λ l. absurd (no-le 2 1 (omega arith) l); comma = λ l. refl }

pub closes-assign : (f : Flags) (ts : List Filled) (t : Filled) (op : AssignOperator) → t.kind ≡ Read (assign_kind op) → Closes f 2 (t ∷ ts)
closes-assign f ts t op e = closes-tests f 2 t ts (Read (assign_kind op)) e (assign-tests op)

pub assign-hit : (t : Filled) (op : AssignOperator) → t.kind ≡ Read (assign_kind op) → assign_at t ≡ Some op
unfolding assign_operators
assign-hit t assign.Assign e = ap (λ k. look_up assign_kind assign_operators k) e
assign-hit t assign.MultiplyAssign e = ap (λ k. look_up assign_kind assign_operators k) e
assign-hit t assign.DivideAssign e = ap (λ k. look_up assign_kind assign_operators k) e
assign-hit t assign.RemainderAssign e = ap (λ k. look_up assign_kind assign_operators k) e
assign-hit t assign.AddAssign e = ap (λ k. look_up assign_kind assign_operators k) e
assign-hit t assign.SubtractAssign e = ap (λ k. look_up assign_kind assign_operators k) e
assign-hit t assign.ShiftLeftAssign e = ap (λ k. look_up assign_kind assign_operators k) e
assign-hit t assign.ShiftRightAssign e = ap (λ k. look_up assign_kind assign_operators k) e
assign-hit t assign.ShiftRightUnsignedAssign e = ap (λ k. look_up assign_kind assign_operators k) e
assign-hit t assign.BitAndAssign e = ap (λ k. look_up assign_kind assign_operators k) e
assign-hit t assign.BitXorAssign e = ap (λ k. look_up assign_kind assign_operators k) e
assign-hit t assign.BitOrAssign e = ap (λ k. look_up assign_kind assign_operators k) e
assign-hit t assign.PowerAssign e = ap (λ k. look_up assign_kind assign_operators k) e

pub unary-hit : (t : Filled) (op : UnaryOperator) → t.kind ≡ Read (unary_kind op) → unary_at t ≡ Some op
unfolding unary_operators
unary-hit t unaries.Delete e = ap (λ k. look_up unary_kind unary_operators k) e
unary-hit t unaries.Void e = ap (λ k. look_up unary_kind unary_operators k) e
unary-hit t unaries.Typeof e = ap (λ k. look_up unary_kind unary_operators k) e
unary-hit t unaries.Plus e = ap (λ k. look_up unary_kind unary_operators k) e
unary-hit t unaries.Minus e = ap (λ k. look_up unary_kind unary_operators k) e
unary-hit t unaries.BitNot e = ap (λ k. look_up unary_kind unary_operators k) e
unary-hit t unaries.Not e = ap (λ k. look_up unary_kind unary_operators k) e

-- a prefix `++` or `--` is no unary operator
pub before-hit : (t : Filled) (op : UpdateOperator) → is_before op ≡ true → t.kind ≡ Read (update_kind op) → (unary_at t ≡ None) × (before_at t ≡ Some op)
unfolding unary_operators
before-hit t IncrementBefore h e = (ap (λ k. look_up unary_kind unary_operators k) e, ap (λ k. look_up update_kind (IncrementBefore ∷ DecrementBefore ∷ []) k) e)
before-hit t DecrementBefore h e = (ap (λ k. look_up unary_kind unary_operators k) e, ap (λ k. look_up update_kind (IncrementBefore ∷ DecrementBefore ∷ []) k) e)
before-hit t IncrementAfter h e = absurd (false≢true h)
before-hit t DecrementAfter h e = absurd (false≢true h)

unless-false : {A : Type 0} (b : Bool) (o : Option A) → b ≡ false → unless b o ≡ o
unless-false true o h = absurd (true≢false h)
unless-false false o h = refl

pub after-hit : (t : Filled) (op : UpdateOperator) → is_before op ≡ false → t.newline ≡ false → t.kind ≡ Read (update_kind op) → after_at t ≡ Some op
after-hit t IncrementAfter h l e = unless-false t.newline (look_up update_kind (IncrementAfter ∷ DecrementAfter ∷ []) t.kind) l ∙ ap (λ k. look_up update_kind (IncrementAfter ∷ DecrementAfter ∷ []) k) e
after-hit t DecrementAfter h l e = unless-false t.newline (look_up update_kind (IncrementAfter ∷ DecrementAfter ∷ []) t.kind) l ∙ ap (λ k. look_up update_kind (IncrementAfter ∷ DecrementAfter ∷ []) k) e
after-hit t IncrementBefore h l e = absurd (true≢false h)
after-hit t DecrementBefore h l e = absurd (true≢false h)

-- ## Binary operators

record OperatorTests (op : BinaryOperator) : Type 0 where
  dot : is_mark marks.Dot (Read (binary_kind op)) ≡ false
  bracket : is_mark marks.LeftBracket (Read (binary_kind op)) ≡ false
  paren : is_mark marks.LeftParenthesis (Read (binary_kind op)) ≡ false
  template : is_template_head (Read (binary_kind op)) ≡ false
  after : look_up update_kind (IncrementAfter ∷ DecrementAfter ∷ []) (Read (binary_kind op)) ≡ None
  raised : is_mark marks.StarStar (Read (binary_kind op)) ≡ false
  question : is_mark marks.Question (Read (binary_kind op)) ≡ false
  arrow : is_mark marks.Arrow (Read (binary_kind op)) ≡ false
  assigns : look_up assign_kind assign_operators (Read (binary_kind op)) ≡ None
  comma : is_mark marks.Comma (Read (binary_kind op)) ≡ false
  found : look_up binary_kind binary_operators (Read (binary_kind op)) ≡ Some op
  high : binary_level op ≤ 12

operator-tests : (op : BinaryOperator) → OperatorTests op
unfolding binary_operators assign_operators
operator-tests binary.Or = record { dot = refl; bracket = refl; paren = refl; template = refl; after = refl; raised = refl; question = refl; arrow = refl; assigns = refl; comma = refl; found = refl; high = omega arith }
operator-tests binary.And = record { dot = refl; bracket = refl; paren = refl; template = refl; after = refl; raised = refl; question = refl; arrow = refl; assigns = refl; comma = refl; found = refl; high = omega arith }
operator-tests binary.BitOr = record { dot = refl; bracket = refl; paren = refl; template = refl; after = refl; raised = refl; question = refl; arrow = refl; assigns = refl; comma = refl; found = refl; high = omega arith }
operator-tests binary.BitXor = record { dot = refl; bracket = refl; paren = refl; template = refl; after = refl; raised = refl; question = refl; arrow = refl; assigns = refl; comma = refl; found = refl; high = omega arith }
operator-tests binary.BitAnd = record { dot = refl; bracket = refl; paren = refl; template = refl; after = refl; raised = refl; question = refl; arrow = refl; assigns = refl; comma = refl; found = refl; high = omega arith }
operator-tests binary.Equal = record { dot = refl; bracket = refl; paren = refl; template = refl; after = refl; raised = refl; question = refl; arrow = refl; assigns = refl; comma = refl; found = refl; high = omega arith }
operator-tests binary.NotEqual = record { dot = refl; bracket = refl; paren = refl; template = refl; after = refl; raised = refl; question = refl; arrow = refl; assigns = refl; comma = refl; found = refl; high = omega arith }
operator-tests binary.Same = record { dot = refl; bracket = refl; paren = refl; template = refl; after = refl; raised = refl; question = refl; arrow = refl; assigns = refl; comma = refl; found = refl; high = omega arith }
operator-tests binary.NotSame = record { dot = refl; bracket = refl; paren = refl; template = refl; after = refl; raised = refl; question = refl; arrow = refl; assigns = refl; comma = refl; found = refl; high = omega arith }
operator-tests binary.Less = record { dot = refl; bracket = refl; paren = refl; template = refl; after = refl; raised = refl; question = refl; arrow = refl; assigns = refl; comma = refl; found = refl; high = omega arith }
operator-tests binary.Greater = record { dot = refl; bracket = refl; paren = refl; template = refl; after = refl; raised = refl; question = refl; arrow = refl; assigns = refl; comma = refl; found = refl; high = omega arith }
operator-tests binary.AtMost = record { dot = refl; bracket = refl; paren = refl; template = refl; after = refl; raised = refl; question = refl; arrow = refl; assigns = refl; comma = refl; found = refl; high = omega arith }
operator-tests binary.AtLeast = record { dot = refl; bracket = refl; paren = refl; template = refl; after = refl; raised = refl; question = refl; arrow = refl; assigns = refl; comma = refl; found = refl; high = omega arith }
operator-tests binary.InstanceOf = record { dot = refl; bracket = refl; paren = refl; template = refl; after = refl; raised = refl; question = refl; arrow = refl; assigns = refl; comma = refl; found = refl; high = omega arith }
operator-tests binary.In = record { dot = refl; bracket = refl; paren = refl; template = refl; after = refl; raised = refl; question = refl; arrow = refl; assigns = refl; comma = refl; found = refl; high = omega arith }
operator-tests binary.ShiftLeft = record { dot = refl; bracket = refl; paren = refl; template = refl; after = refl; raised = refl; question = refl; arrow = refl; assigns = refl; comma = refl; found = refl; high = omega arith }
operator-tests binary.ShiftRight = record { dot = refl; bracket = refl; paren = refl; template = refl; after = refl; raised = refl; question = refl; arrow = refl; assigns = refl; comma = refl; found = refl; high = omega arith }
operator-tests binary.ShiftRightUnsigned = record { dot = refl; bracket = refl; paren = refl; template = refl; after = refl; raised = refl; question = refl; arrow = refl; assigns = refl; comma = refl; found = refl; high = omega arith }
operator-tests binary.Add = record { dot = refl; bracket = refl; paren = refl; template = refl; after = refl; raised = refl; question = refl; arrow = refl; assigns = refl; comma = refl; found = refl; high = omega arith }
operator-tests binary.Subtract = record { dot = refl; bracket = refl; paren = refl; template = refl; after = refl; raised = refl; question = refl; arrow = refl; assigns = refl; comma = refl; found = refl; high = omega arith }
operator-tests binary.Multiply = record { dot = refl; bracket = refl; paren = refl; template = refl; after = refl; raised = refl; question = refl; arrow = refl; assigns = refl; comma = refl; found = refl; high = omega arith }
operator-tests binary.Divide = record { dot = refl; bracket = refl; paren = refl; template = refl; after = refl; raised = refl; question = refl; arrow = refl; assigns = refl; comma = refl; found = refl; high = omega arith }
operator-tests binary.Remainder = record { dot = refl; bracket = refl; paren = refl; template = refl; after = refl; raised = refl; question = refl; arrow = refl; assigns = refl; comma = refl; found = refl; high = omega arith }

pub level-low : (op : BinaryOperator) → 3 ≤ binary_level op
level-low binary.Or = omega arith
level-low binary.And = omega arith
level-low binary.BitOr = omega arith
level-low binary.BitXor = omega arith
level-low binary.BitAnd = omega arith
level-low binary.Equal = omega arith
level-low binary.NotEqual = omega arith
level-low binary.Same = omega arith
level-low binary.NotSame = omega arith
level-low binary.Less = omega arith
level-low binary.Greater = omega arith
level-low binary.AtMost = omega arith
level-low binary.AtLeast = omega arith
level-low binary.InstanceOf = omega arith
level-low binary.In = omega arith
level-low binary.ShiftLeft = omega arith
level-low binary.ShiftRight = omega arith
level-low binary.ShiftRightUnsigned = omega arith
level-low binary.Add = omega arith
level-low binary.Subtract = omega arith
level-low binary.Multiply = omega arith
level-low binary.Divide = omega arith
level-low binary.Remainder = omega arith

pub level-high : (op : BinaryOperator) → binary_level op ≤ 12
level-high op = (operator-tests op).high

other-level : (op : BinaryOperator) (level : ℕ) → suc (binary_level op) ≤ level → (binary_level op == level) ≡ false
other-level op level h = is-false (binary_level op == level) (λ e. no-same (binary_level op) level h (eqb-true (binary_level op) level e))
  where
    no-same : (a b : ℕ) → suc a ≤ b → a ≡ b → ⊥
    no-same a b h e = omega arith

unless-true : {A : Type 0} (b : Bool) (o : Option A) → b ≡ true → unless b o ≡ None
unless-true true o h = refl
unless-true false o h = absurd (false≢true h)

-- an operator of a level goes on with nothing above that level
pub closes-operator : (f : Flags) (ts : List Filled) (t : Filled) (op : BinaryOperator) (level : ℕ) → t.kind ≡ Read (binary_kind op) → binary_level op ≡ level → Closes f (level + 1) (t ∷ ts)
closes-operator f ts t op level e l = at-kind (λ u. Closes f (level + 1) (u ∷ ts)) t (Read (binary_kind op)) e (record {
  dot = h.dot;
  bracket = h.bracket;
  template = h.template;
  paren = λ m. h.paren;
  after = λ m. unless-none t.newline (look_up update_kind (IncrementAfter ∷ DecrementAfter ∷ []) (Read (binary_kind op))) h.after;
  raised = λ m. mark-miss marks.StarStar (record { kind = Read (binary_kind op); span = t.span; newline = t.newline }) h.raised;
  operator = λ level' m n. ap (λ o. operator_of_level f level' o) h.found ∙ unless-true (not (binary_level op == level') || not (f.has_in || not (is_in op))) (Some op)
      (ap (λ b. not b || not (f.has_in || not (is_in op))) (other-level op level' (below level' m)));
  question = λ m. mark-miss marks.Question (record { kind = Read (binary_kind op); span = t.span; newline = t.newline }) h.question;
  arrow = λ m. ap (λ b. b && not t.newline) h.arrow;
  assigns = λ m. h.assigns;
  comma = λ m. mark-miss marks.Comma (record { kind = Read (binary_kind op); span = t.span; newline = t.newline }) h.comma;
})
  where
    h : OperatorTests op
    h = operator-tests op

    below : (level' : ℕ) → level + 1 ≤ level' → suc (binary_level op) ≤ level'
    below level' m = omega (arith, l)

eq-same : (a b : ℕ) → a ≡ b → (a == b) ≡ true
eq-same a b e = subst (λ c. (a == c) ≡ true) e (self a)
  where
    self : (a : ℕ) → (a == a) ≡ true
    self a = eq-eqb a a refl

pub binary-hit : (f : Flags) (level : ℕ) (t : Filled) (op : BinaryOperator) → t.kind ≡ Read (binary_kind op) → binary_level op ≡ level → (f.has_in || not (is_in op)) ≡ true → binary_at f level t ≡ Some op
binary-hit f level t op e l n = ap (λ k. operator_of_level f level (look_up binary_kind binary_operators k)) e ∙ ap (λ o. operator_of_level f level o) (operator-tests op).found
    ∙ unless-false (not (binary_level op == level) || not (f.has_in || not (is_in op))) (Some op) (ap (λ b. not b || not (f.has_in || not (is_in op))) (eq-same (binary_level op) level l) ∙ ap not n)

-- ## What ends statements, and a `yield` without a value

pub closes-end : (f : Flags) (ts : List Filled) (t : Filled) → IsEnd t → Closes f 0 (t ∷ ts)
closes-end f ts t h = at t.kind refl h
  where
    at : (k : Filling) → t.kind ≡ k → ends false k ≡ true → Closes f 0 (t ∷ ts)
    at (Inserted d) e h = closes-inserted f d ts t e
    at (Read (kinds.Punctuator marks.Semicolon)) e h = closes-semicolon f ts t e
    at (Read k) e h = absurd (false≢true h)

pub close-ends-yield : (t : Filled) → IsMark marks.RightParenthesis t → ends_yield t ≡ true
unfolding ends_yield
close-ends-yield t e = or-right t.newline _ (rw e refl)

pub square-ends-yield : (t : Filled) → IsMark marks.RightBracket t → ends_yield t ≡ true
unfolding ends_yield
square-ends-yield t e = or-right t.newline _ (rw e refl)

pub brace-ends-yield : (t : Filled) → IsMark marks.RightBrace t → ends_yield t ≡ true
unfolding ends_yield
brace-ends-yield t e = or-right t.newline _ (rw e refl)

pub colon-ends-yield : (t : Filled) → IsMark marks.Colon t → ends_yield t ≡ true
unfolding ends_yield
colon-ends-yield t e = or-right t.newline _ (rw e refl)

pub semicolon-ends-yield : (t : Filled) → IsMark marks.Semicolon t → ends_yield t ≡ true
unfolding ends_yield
semicolon-ends-yield t e = or-right t.newline _ (rw e refl)

pub comma-ends-yield : (t : Filled) → IsMark marks.Comma t → ends_yield t ≡ true
unfolding ends_yield
comma-ends-yield t e = or-right t.newline _ (rw e refl)

pub inserted-ends-yield : (d : Bool) (t : Filled) → t.kind ≡ Inserted d → ends_yield t ≡ true
unfolding ends_yield
inserted-ends-yield d t e = or-right t.newline _ (rw e refl)

pub stretch-ends-yield : (cooked raw : List ℕ) (last : Bool) (t : Filled) → t.kind ≡ Read (kinds.Template cooked raw false last) → ends_yield t ≡ true
unfolding ends_yield
stretch-ends-yield cooked raw last t e = or-right t.newline _ (rw e refl)

pub ends-yield : (level : ℕ) (t : Filled) (ts : List Filled) → ends_yield t ≡ true → EndsYield level (t ∷ ts)
ends-yield level t ts h l = ap not h
