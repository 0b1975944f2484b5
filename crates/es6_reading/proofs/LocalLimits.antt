-- Where the next token begins no expression, or no statement, the readers of them stop at it, as they do where no construct may
-- open any more.
use Rattle.std.specs.Prelude.{codes, is_some, not}
use Rattle.std.proofs.Common.{◌≡◌, ◌∙◌, ℕ, zero, suc, ◌+◌, Bool, true, false, ◌||◌, ◌&&◌, List, [], ◌∷◌, Option, Some, None, refl, sym, ap}
use Rattle.std.proofs.lemmas.Bool.{false≢true, or_parts}
use Rattle.es_text.specs.declared.Span.{Span}
use Rattle.es_outside.specs.HostNames.{reserved_words}
use Rattle.es6_lexer.specs.declared.token.TokenKind.TheVariants as kinds
use Rattle.es6_lexer.specs.declared.token.Punctuator.TheVariants as marks
use Rattle.es6_ast.specs.declared.settings.Flags.{Flags}
use Rattle.es6_ast.specs.declared.settings.Role.{Role}
use Rattle.es6_ast.specs.declared.settings.Role.TheVariants.{Leading, Among, Heritage, Callee}
use Rattle.es6_ast.specs.declared.settings.Stand.{Stand}
use Rattle.es6_ast.specs.declared.settings.Stand.TheVariants.{Listed, Under, Labelled}
use Rattle.es6_ast.specs.declared.settings.Stop.{Stop}
use Rattle.es6_ast.specs.declared.settings.Stop.TheVariants.{Syntax, Outside, Depth}
use Rattle.es6_ast.specs.Tokens.{Filling, Read, Filled, is_word}
use Rattle.es6_ast.specs.declared.tree.Statement.{Statement}
use Rattle.es6_reading.specs.Parser.{Input, Outcome, Fault, Parser, fails, after, expression_stop_in, number_stop_in, choose, next_is, on, if_next, is_mark, next_mark, mark, word, next_word, no_expression, no_number, Inner}
use Rattle.es6_reading.specs.Words.{free_name, literal_at, stretch_in, stretch_at, unary_at, before_at, is_any_word, is_template_head, operand_words, begins_operand, begins_unary, begins_expression}
use Rattle.es6_reading.specs.Expressions as e
use Rattle.es6_reading.specs.Statements as s6
use Rattle.es6_reading.specs.Statements.{begins_declaration, begins_statement, statement_words, may_declare}
use Rattle.es6_reading.proofs.CompleteTokens.{no-word, mark-miss, word-miss}
use Rattle.es6_reading.proofs.Meanings.{word-is}
use Rattle.es6_reading.proofs.Reading.{on-miss-is}
use Rattle.es6_reading.proofs.Locality.{Slack, Gain, Local, LocalOf, too_deep, relay, same-next}

none-if : {A : Type 0} (o : Option A) → is_some o ≡ false → o ≡ None
none-if None h = refl
none-if (Some x) h = absurd (false≢true (sym h))

no-stretch : (last : Bool) (span : Span) (k : Filling) → is_template_head k ≡ false → stretch_in true last span k ≡ None
no-stretch last span (Read (kinds.Template cooked raw false ends)) h = refl
no-stretch last span (Read (kinds.Template cooked raw true ends)) h = absurd (false≢true (sym h))
no-stretch last span k h = refl

-- what the next token isn't where it begins no operand
pub record NoOperand (t : Filled) : Type 0 where
  pub free : free_name t ≡ None
  pub literal : literal_at t ≡ None
  pub new_ : is_word (codes "new") t.kind ≡ false
  pub super_ : is_word (codes "super") t.kind ≡ false
  pub this_ : is_word (codes "this") t.kind ≡ false
  pub function : is_word (codes "function") t.kind ≡ false
  pub class : is_word (codes "class") t.kind ≡ false
  pub whole : stretch_at true true t ≡ None
  pub opening : stretch_at true false t ≡ None
  pub parenthesis : is_mark marks.LeftParenthesis t.kind ≡ false
  pub bracket : is_mark marks.LeftBracket t.kind ≡ false
  pub brace : is_mark marks.LeftBrace t.kind ≡ false

all-false : (a b c d x y z : Bool) → (a || b || c || d || x || y || z) ≡ false → (a ≡ false) × (b ≡ false) × (c ≡ false) × (d ≡ false) × (x ≡ false) × (y ≡ false) × (z ≡ false)
all-false false false false false false false false h = (refl, refl, refl, refl, refl, refl, refl)
all-false false false false false false false true h = absurd (false≢true (sym h))
all-false false false false false false true z h = absurd (false≢true (sym h))
all-false false false false false true y z h = absurd (false≢true (sym h))
all-false false false false true x y z h = absurd (false≢true (sym h))
all-false false false true d x y z h = absurd (false≢true (sym h))
all-false false true c d x y z h = absurd (false≢true (sym h))
all-false true b c d x y z h = absurd (false≢true (sym h))

pub no-operand : (t : Filled) → begins_operand t ≡ false → NoOperand t
unfolding begins_operand operand_words reserved_words
no-operand t h =
    let q = all-false (is_some (free_name t)) (is_some (literal_at t)) (is_any_word operand_words t.kind) (is_template_head t.kind) (is_mark marks.LeftParenthesis t.kind) (is_mark marks.LeftBracket t.kind) (is_mark marks.LeftBrace t.kind) h in
    let n : not (begins_operand t) ≡ true = ap not h in
    record {
      free = none-if (free_name t) q.0;
      literal = none-if (literal_at t) q.1;
      new_ = no-word (λ u. not (begins_operand u)) (codes "new") t n refl;
      super_ = no-word (λ u. not (begins_operand u)) (codes "super") t n refl;
      this_ = no-word (λ u. not (begins_operand u)) (codes "this") t n refl;
      function = no-word (λ u. not (begins_operand u)) (codes "function") t n refl;
      class = no-word (λ u. not (begins_operand u)) (codes "class") t n refl;
      whole = no-stretch true t.span t.kind q.3;
      opening = no-stretch false t.span t.kind q.3;
      parenthesis = q.4;
      bracket = q.5;
      brace = q.6;
    }

-- the tokens t ∷ ts, behind this place
abbrev At : Filled → List Filled → ℕ → Input
At t ts last = record { tokens = t ∷ ts; last = last }

if-missed : {A : Type 0} (test : Filled → Bool) (p q : Parser A) (t : Filled) (ts : List Filled) (last : ℕ) → test t ≡ false → if_next test p q (At t ts last) ≡ q (At t ts last)
if-missed test p q t ts last h = ap (λ b. choose b p q (At t ts last)) h

-- where a part of a reader stops, the reader stops
stops-with : {A B : Type 0} {o : Outcome A} {stop : Stop} {ts : List Filled} (q : A → Parser B) → o ≡ Fault stop ts → after o q ≡ Fault stop ts
stops-with q h = ap (λ o. after o q) h

abbrev pub stop_of : Role → Filling → Stop
stop_of Leading = expression_stop_in
stop_of Among = expression_stop_in
stop_of Heritage = number_stop_in
stop_of Callee = number_stop_in

operand-stop : {A : Type 0} (role : Role) (t : Filled) (ts : List Filled) (last : ℕ) → e.no_operand {A = A} role (At t ts last) ≡ Fault (stop_of role t.kind) (t ∷ ts)
unfolding no_expression no_number
operand-stop Leading t ts last = refl
operand-stop Among t ts last = refl
operand-stop Heritage t ts last = refl
operand-stop Callee t ts last = refl

module _ (i : Inner) (t : Filled) (ts : List Filled) (h : NoOperand t) where
  head-none : (f : Flags) (role : Role) (at last : ℕ) → e.head i f role at (At t ts last) ≡ Fault (stop_of role t.kind) (t ∷ ts)
  unfolding e.head e.primary e.composed e.bracketed
  head-none f role at last =
      on-miss-is (word (codes "new")) _ _ (t ∷ ts) last (word-miss (codes "new") t h.new_)
      ∙ on-miss-is (word (codes "super")) _ _ (t ∷ ts) last (word-miss (codes "super") t h.super_)
      ∙ on-miss-is (word (codes "this")) _ _ (t ∷ ts) last (word-miss (codes "this") t h.this_)
      ∙ on-miss-is free_name _ _ (t ∷ ts) last h.free
      ∙ on-miss-is literal_at _ _ (t ∷ ts) last h.literal
      ∙ on-miss-is (word (codes "function")) _ _ (t ∷ ts) last (word-miss (codes "function") t h.function)
      ∙ on-miss-is (word (codes "class")) _ _ (t ∷ ts) last (word-miss (codes "class") t h.class)
      ∙ on-miss-is (stretch_at true true) _ _ (t ∷ ts) last h.whole
      ∙ if-missed (λ u. is_some (stretch_at true false u)) _ _ t ts last (ap (λ o. is_some o) h.opening)
      ∙ if-missed (next_mark marks.LeftParenthesis) _ _ t ts last h.parenthesis
      ∙ if-missed (next_mark marks.LeftBracket) _ _ t ts last h.bracket
      ∙ if-missed (next_mark marks.LeftBrace) _ _ t ts last h.brace
      ∙ operand-stop role t ts last

  pub chain-none : (f : Flags) (role : Role) (last : ℕ) → e.chain i f role (At t ts last) ≡ Fault (stop_of role t.kind) (t ∷ ts)
  unfolding e.chain
  chain-none f role last = stops-with _ (head-none f role t.span.begin last)

  module _ (u : unary_at t ≡ None) (b : before_at t ≡ None) where
    update-none : (f : Flags) (role : Role) (last : ℕ) → e.update i f role (At t ts last) ≡ Fault (stop_of role t.kind) (t ∷ ts)
    unfolding e.update e.postfix
    update-none f role last = on-miss-is before_at _ _ (t ∷ ts) last b ∙ stops-with _ (chain-none f role last)

    pub unary-none : (f : Flags) (last : ℕ) → e.unary i f (At t ts last) ≡ Fault (expression_stop_in t.kind) (t ∷ ts)
    unfolding e.unary
    unary-none f last = on-miss-is unary_at _ _ (t ∷ ts) last u ∙ update-none f Among last

    pub power-none : (f : Flags) (role : Role) (last : ℕ) → e.power i f role (At t ts last) ≡ Fault (stop_of role t.kind) (t ∷ ts)
    unfolding e.power
    power-none f role last = on-miss-is unary_at _ _ (t ∷ ts) last u ∙ stops-with _ (update-none f role last)

    binary-none : (f : Flags) (role : Role) (up level last : ℕ) → e.binary_from i f role up level (At t ts last) ≡ Fault (stop_of role t.kind) (t ∷ ts)
    unfolding e.binary_from
    binary-none f role zero level last = power-none f role last
    binary-none f role (suc up) level last = stops-with _ (binary-none f role up (level + 1) last)

    without-yield : (f : Flags) (at last : ℕ) → e.without_yield i f at (At t ts last) ≡ Fault (expression_stop_in t.kind) (t ∷ ts)
    unfolding e.without_yield e.conditional
    without-yield f at last = stops-with _ (stops-with _ (binary-none f Leading 10 3 last))

    pub assignment-none : (f : Flags) (last : ℕ) → (f.has_yield ≡ true → is_word (codes "yield") t.kind ≡ false) → e.assignment i f (At t ts last) ≡ Fault (expression_stop_in t.kind) (t ∷ ts)
    unfolding e.assignment
    assignment-none f last y = by f.has_yield refl
      where
        by : (w : Bool) → f.has_yield ≡ w → choose w (on (word (codes "yield")) (λ _. e.after_yield i f t.span.begin) (e.without_yield i f t.span.begin)) (e.without_yield i f t.span.begin) (At t ts last) ≡ Fault (expression_stop_in t.kind) (t ∷ ts)
        by true k = on-miss-is (word (codes "yield")) _ _ (t ∷ ts) last (word-miss (codes "yield") t (y k)) ∙ without-yield f t.span.begin last
        by false k = without-yield f t.span.begin last

    pub sequence-none : (f : Flags) (last : ℕ) → (f.has_yield ≡ true → is_word (codes "yield") t.kind ≡ false) → e.sequence i f (At t ts last) ≡ Fault (expression_stop_in t.kind) (t ∷ ts)
    unfolding e.sequence
    sequence-none f last y = stops-with _ (assignment-none f last y)

-- ## At any tokens, none of which begin so

and-parts : (a b : Bool) → (a && b) ≡ false → b ≡ true → a ≡ false
and-parts true b h k = absurd (false≢true (sym h ∙ k))
and-parts false b h k = refl

and-right : (a b : Bool) → (a && b) ≡ false → a ≡ true → b ≡ false
and-right true b h k = h
and-right false b h k = absurd (false≢true k)

-- what the next token isn't where it begins no unary expression
record NoUnary (t : Filled) : Type 0 where
  operand : NoOperand t
  unary_ : unary_at t ≡ None
  before_ : before_at t ≡ None

three-false : (a b c : Bool) → (a || b || c) ≡ false → (a ≡ false) × (b ≡ false) × (c ≡ false)
three-false false false false h = (refl, refl, refl)
three-false false false true h = absurd (false≢true (sym h))
three-false false true c h = absurd (false≢true (sym h))
three-false true b c h = absurd (false≢true (sym h))

no-unary : (t : Filled) → begins_unary t ≡ false → NoUnary t
unfolding begins_unary
no-unary t h =
    let q = three-false (begins_operand t) (is_some (unary_at t)) (is_some (before_at t)) h in
    record { operand = no-operand t q.0; unary_ = none-if (unary_at t) q.1; before_ = none-if (before_at t) q.2 }

record NoExpression (f : Flags) (t : Filled) : Type 0 where
  unary : NoUnary t
  yield_ : f.has_yield ≡ true → is_word (codes "yield") t.kind ≡ false

no-begin : (f : Flags) (t : Filled) → begins_expression f t ≡ false → NoExpression f t
unfolding begins_expression
no-begin f t h =
    let q = or_parts (begins_unary t) (f.has_yield && is_word (codes "yield") t.kind) h in
    record { unary = no-unary t q.0; yield_ = and-right f.has_yield (is_word (codes "yield") t.kind) q.1 }

module _ (i : Inner) where
  pub operand-limit : (f : Flags) (ts : List Filled) (last : ℕ) → next_is begins_operand ts ≡ false → e.chain i f Callee (record { tokens = ts; last = last }) ≡ no_number (record { tokens = ts; last = last })
  unfolding e.chain e.head e.primary e.composed e.bracketed no_number
  operand-limit f [] last h = refl
  operand-limit f (t ∷ ts) last h = chain-none i t ts (no-operand t h) f Callee last

  pub heritage-limit : (f : Flags) (ts : List Filled) (last : ℕ) → next_is begins_operand ts ≡ false → e.chain i f Heritage (record { tokens = ts; last = last }) ≡ no_number (record { tokens = ts; last = last })
  unfolding e.chain e.head e.primary e.composed e.bracketed no_number
  heritage-limit f [] last h = refl
  heritage-limit f (t ∷ ts) last h = chain-none i t ts (no-operand t h) f Heritage last

  pub unary-limit : (f : Flags) (ts : List Filled) (last : ℕ) → next_is begins_unary ts ≡ false → e.unary i f (record { tokens = ts; last = last }) ≡ no_expression (record { tokens = ts; last = last })
  unfolding e.unary e.update e.postfix e.chain e.head e.primary e.composed e.bracketed no_expression
  unary-limit f [] last h = refl
  unary-limit f (t ∷ ts) last h =
      let n = no-unary t h in
      unary-none i t ts n.operand n.unary_ n.before_ f last

  pub power-limit : (f : Flags) (ts : List Filled) (last : ℕ) → next_is begins_unary ts ≡ false → e.power i f Among (record { tokens = ts; last = last }) ≡ no_expression (record { tokens = ts; last = last })
  unfolding e.power e.update e.postfix e.chain e.head e.primary e.composed e.bracketed no_expression
  power-limit f [] last h = refl
  power-limit f (t ∷ ts) last h =
      let n = no-unary t h in
      power-none i t ts n.operand n.unary_ n.before_ f Among last

  assignment-empty : (f : Flags) (last : ℕ) → e.assignment i f (record { tokens = []; last = last }) ≡ Fault Syntax []
  unfolding e.assignment e.without_yield e.conditional e.binary_from e.power e.update e.postfix e.chain e.head e.primary e.composed e.bracketed no_expression
  assignment-empty f last = by f.has_yield
    where
      by : (w : Bool) → choose w (on (word (codes "yield")) (λ _. e.after_yield i f 0) (e.without_yield i f 0)) (e.without_yield i f 0) (record { tokens = []; last = last }) ≡ Fault Syntax []
      by true = refl
      by false = refl

  pub assignment-limit : (f : Flags) (ts : List Filled) (last : ℕ) → next_is (begins_expression f) ts ≡ false → e.assignment i f (record { tokens = ts; last = last }) ≡ no_expression (record { tokens = ts; last = last })
  unfolding no_expression
  assignment-limit f [] last h = assignment-empty f last
  assignment-limit f (t ∷ ts) last h =
      let n = no-begin f t h in
      assignment-none i t ts n.unary.operand n.unary.unary_ n.unary.before_ f last n.yield_

  pub sequence-limit : (f : Flags) (ts : List Filled) (last : ℕ) → next_is (begins_expression f) ts ≡ false → e.sequence i f (record { tokens = ts; last = last }) ≡ no_expression (record { tokens = ts; last = last })
  unfolding e.sequence no_expression
  sequence-limit f [] last h = stops-with _ (assignment-empty f last)
  sequence-limit f (t ∷ ts) last h =
      let n = no-begin f t h in
      sequence-none i t ts n.unary.operand n.unary.unary_ n.unary.before_ f last n.yield_

-- ## Statements

record NoStatement (f : Flags) (stand : Stand) (t : Filled) : Type 0 where
  brace : is_mark marks.LeftBrace t.kind ≡ false
  semicolon_ : is_mark marks.Semicolon t.kind ≡ false
  words : is_any_word statement_words t.kind ≡ false
  return_ : f.has_return ≡ true → is_word (codes "return") t.kind ≡ false
  expression : (begins_expression f t && may_declare stand t) ≡ false

five-false : (a b c d x : Bool) → (a || b || c || d || x) ≡ false → (a ≡ false) × (b ≡ false) × (c ≡ false) × (d ≡ false) × (x ≡ false)
five-false false false false false false h = (refl, refl, refl, refl, refl)
five-false false false false false true h = absurd (false≢true (sym h))
five-false false false false true x h = absurd (false≢true (sym h))
five-false false false true d x h = absurd (false≢true (sym h))
five-false false true c d x h = absurd (false≢true (sym h))
five-false true b c d x h = absurd (false≢true (sym h))

no-statement : (f : Flags) (stand : Stand) (t : Filled) → begins_statement f stand t ≡ false → NoStatement f stand t
unfolding begins_statement
no-statement f stand t h =
    let q = five-false (is_mark marks.LeftBrace t.kind) (is_mark marks.Semicolon t.kind) (is_any_word statement_words t.kind) (f.has_return && is_word (codes "return") t.kind) (begins_expression f t && may_declare stand t) h in
    record { brace = q.0; semicolon_ = q.1; words = q.2; return_ = and-right f.has_return (is_word (codes "return") t.kind) q.3; expression = q.4 }

-- what stands where no statement begins
abbrev pub no_statement : Parser Statement
no_statement = if_next (next_word (codes "with")) (fails (Outside 5)) no_expression

module _ (i : Inner) (f : Flags) (t : Filled) (ts : List Filled) where
  miss : (w : List ℕ) → is_any_word statement_words t.kind ≡ false → (is_any_word statement_words (Read (kinds.Word w)) ≡ true) → word w t ≡ None
  miss w n k = word-miss w t (no-word (λ u. not (is_any_word statement_words u.kind)) w t (ap not n) (ap not k))

  abbrev More : Stand → Parser Statement
  More stand = s6.on_more i f stand t.span.begin (s6.plain_statement i f t.span.begin)

  to-more : (stand : Stand) (last : ℕ) → NoStatement f stand t → s6.statement i f stand (At t ts last) ≡ More stand (At t ts last)
  unfolding s6.statement s6.compound_statement s6.jump_statement statement_words
  to-more stand last h =
      if-missed (next_mark marks.LeftBrace) _ _ t ts last h.brace
      ∙ if-missed (next_word (codes "if")) _ _ t ts last (no-word (λ u. not (is_any_word statement_words u.kind)) (codes "if") t (ap not h.words) refl)
      ∙ on-miss-is (mark marks.Semicolon) _ _ (t ∷ ts) last (mark-miss marks.Semicolon t h.semicolon_)
      ∙ on-miss-is (word (codes "var")) _ _ (t ∷ ts) last (miss (codes "var") h.words refl)
      ∙ on-miss-is (word (codes "do")) _ _ (t ∷ ts) last (miss (codes "do") h.words refl)
      ∙ on-miss-is (word (codes "while")) _ _ (t ∷ ts) last (miss (codes "while") h.words refl)
      ∙ on-miss-is (word (codes "for")) _ _ (t ∷ ts) last (miss (codes "for") h.words refl)
      ∙ on-miss-is (word (codes "switch")) _ _ (t ∷ ts) last (miss (codes "switch") h.words refl)
      ∙ on-miss-is (word (codes "try")) _ _ (t ∷ ts) last (miss (codes "try") h.words refl)
      ∙ on-miss-is (word (codes "continue")) _ _ (t ∷ ts) last (miss (codes "continue") h.words refl)
      ∙ on-miss-is (word (codes "break")) _ _ (t ∷ ts) last (miss (codes "break") h.words refl)
      ∙ on-miss-is (word (codes "throw")) _ _ (t ∷ ts) last (miss (codes "throw") h.words refl)
      ∙ on-miss-is (word (codes "debugger")) _ _ (t ∷ ts) last (miss (codes "debugger") h.words refl)
      ∙ by f.has_return refl
    where
      by : (b : Bool) → f.has_return ≡ b → choose b (on (word (codes "return")) (λ _. s6.return_statement i f t.span.begin) (More stand)) (More stand) (At t ts last) ≡ More stand (At t ts last)
      by true k = on-miss-is (word (codes "return")) _ _ (t ∷ ts) last (word-miss (codes "return") t (h.return_ k))
      by false k = refl

  same-otherwise : {A : Type 0} (b : Bool) (p q q' : Parser A) (s : Input) → q s ≡ q' s → choose b p q s ≡ choose b p q' s
  same-otherwise true p q q' s h = refl
  same-otherwise false p q q' s h = h

  declaration-stop : begins_declaration t ≡ true → expression_stop_in t.kind ≡ Syntax
  declaration-stop h = by (is_word (codes "function") t.kind) refl h
    where
      word-stop : (w : List ℕ) → is_word w t.kind ≡ true → expression_stop_in t.kind ≡ Syntax
      word-stop w k = ap expression_stop_in (word-is w t.kind k)

      by : (b : Bool) → is_word (codes "function") t.kind ≡ b → (b || next_word (codes "class") t) ≡ true → expression_stop_in t.kind ≡ Syntax
      by true k m = word-stop (codes "function") k
      by false k m = word-stop (codes "class") m

  plain-none : (at last : ℕ) → (begins_declaration t ≡ false → begins_expression f t ≡ false) → s6.plain_statement i f at (At t ts last) ≡ no_statement (At t ts last)
  unfolding s6.plain_statement s6.expression_statement no_expression
  plain-none at last h = same-otherwise (next_word (codes "with") t) _ _ _ (At t ts last) (by (begins_declaration t) refl)
    where
      by : (b : Bool) → begins_declaration t ≡ b → choose b (fails Syntax) (s6.expression_statement i f at) (At t ts last) ≡ no_expression (At t ts last)
      by true k = ap (λ v. Fault v (t ∷ ts)) (sym (declaration-stop k))
      by false k = stops-with _ (sequence-limit i f (t ∷ ts) last (h k))

  under-none : (last : ℕ) → begins_statement f Under t ≡ false → s6.statement i f Under (At t ts last) ≡ no_statement (At t ts last)
  under-none last h =
      let n = no-statement f Under t h in
      to-more Under last n ∙ plain-none t.span.begin last (λ d. and-parts (begins_expression f t) (may_declare Under t) n.expression (ap not d))

  labelled-none : (last : ℕ) → begins_statement f Labelled t ≡ false → s6.statement i f Labelled (At t ts last) ≡ no_statement (At t ts last)
  unfolding begins_expression begins_unary begins_operand operand_words reserved_words
  labelled-none last h =
      let n = no-statement f Labelled t h in
      let g = no-word (λ u. not (begins_expression f u && may_declare Labelled u)) (codes "function") t (ap not n.expression) refl in
      to-more Labelled last n ∙ on-miss-is (word (codes "function")) _ _ (t ∷ ts) last (word-miss (codes "function") t g)
      ∙ plain-none t.span.begin last (λ d. and-parts (begins_expression f t) (may_declare Labelled t) n.expression (ap not (or_parts (next_word (codes "function") t) (next_word (codes "class") t) d).1))

statement-empty : (i : Inner) (f : Flags) (stand : Stand) → (stand ≡ Listed → ⊥) → (last : ℕ) → s6.statement i f stand (record { tokens = []; last = last }) ≡ Fault Syntax []
unfolding s6.statement s6.compound_statement s6.jump_statement s6.plain_statement s6.expression_statement no_expression
statement-empty i f stand n last = by f.has_return stand n
  where
    end : Input
    end = record { tokens = []; last = last }

    plain : s6.plain_statement i f 0 end ≡ Fault Syntax []
    plain = stops-with _ (sequence-limit i f [] last refl)

    more : (stand : Stand) → (stand ≡ Listed → ⊥) → s6.on_more i f stand 0 (s6.plain_statement i f 0) end ≡ Fault Syntax []
    more Listed n = absurd (n refl)
    more Under n = plain
    more Labelled n = plain

    by : (b : Bool) (stand : Stand) → (stand ≡ Listed → ⊥) → choose b (on (word (codes "return")) (λ _. s6.return_statement i f 0) (s6.on_more i f stand 0 (s6.plain_statement i f 0))) (s6.on_more i f stand 0 (s6.plain_statement i f 0)) end ≡ Fault Syntax []
    by true stand n = more stand n
    by false stand n = more stand n

pub statement-limit : (i : Inner) (f : Flags) (stand : Stand) → (stand ≡ Listed → ⊥) → (ts : List Filled) (last : ℕ) → next_is (begins_statement f stand) ts ≡ false → s6.statement i f stand (record { tokens = ts; last = last }) ≡ no_statement (record { tokens = ts; last = last })
unfolding no_expression
statement-limit i f Listed n ts last h = absurd (n refl)
statement-limit i f Under n [] last h = statement-empty i f Under n last
statement-limit i f Labelled n [] last h = statement-empty i f Labelled n last
statement-limit i f Under n (t ∷ ts) last h = under-none i f t ts last h
statement-limit i f Labelled n (t ∷ ts) last h = labelled-none i f t ts last h

-- a reader where no construct may open any more, and one where some may
pub at-limit : {A : Type 0} {l : Gain} (test : Filled → Bool) (q p' : Parser A) → Slack l.more → ((ts : List Filled) (last : ℕ) → next_is test ts ≡ false → p' (record { tokens = ts; last = last }) ≡ q (record { tokens = ts; last = last }))
    → (s : Input) → Local l q q s → Local l (if_next test (fails Depth) q) p' s
at-limit {A = A} {l = l} test q p' m f s g = by (next_is test s.tokens) refl
  where
    by : (b : Bool) → next_is test s.tokens ≡ b → LocalOf l (λ us. p' (record { tokens = us; last = s.last })) s.tokens (choose b (fails Depth) q s)
    by true e = too_deep m
    by false e = relay (λ us k. f us s.last (same-next test k ∙ e)) g
