-- Where the next token begins no expression, or no statement, the readers of them stop at it, as they do where no construct may
-- open any more.
use Rattle.std.proofs.Common.{◌≡◌, ◌∙◌, ℕ, zero, suc, ◌+◌, Bool, true, false, ◌||◌, ◌&&◌, not, List, [], ◌∷◌, Option, Some, None, refl, sym, ap}
use Rattle.std.specs.Prelude.{codes}
use Rattle.std.specs.Str.{bytes_eq}
use Rattle.std.proofs.lemmas.Bool.{false≢true}
use Rattle.es5_ast.specs.declared.tree.Stat5.{Stat5}
use Rattle.es5_ast.specs.Lexical.{Kind5, Word, Integer, Text, Punctuator, Inserted, Token5, is_one_of}
use Rattle.es5_ast.specs.Grammar.{is_word, is_mark}
use Rattle.es5_reading.specs.Parser.{Input5, Syntax, Depth, Outside, Outcome5, Fault, Parser, fails, after, choose, next_is, on, on_taken, if_next, mark, next_mark, word, next_word, Read5, Inner5}
use Rattle.es5_reading.specs.Expressions as e5
use Rattle.es5_reading.specs.Expressions.{free_name, literal_at, unary_at, before_at, is_some, begins_operand, begins_expression, begins_division}
use Rattle.es5_reading.specs.Statements as s5
use Rattle.es5_reading.specs.Statements.{begins_statement, statement_words, is_any_word}
use Rattle.es5_reading.proofs.CompleteTokens.{mark-miss, word-miss}
use Rattle.es5_reading.proofs.Meanings.{same_bytes}
use Rattle.es5_reading_laws.proofs.Locality.{More, Slack, Local, LocalOf, too_deep, relay, same-next}

none-if : {A : Type 0} (o : Option A) → is_some o ≡ false → o ≡ None
none-if None h = refl
none-if (Some x) h = absurd (false≢true (sym h))

-- what the next token isn't where it begins no operand
record NoOperand (t : Token5) : Type 0 where
  free : free_name t ≡ None
  literal : literal_at t ≡ None
  this_ : is_word (codes "this") t.kind ≡ false
  function : is_word (codes "function") t.kind ≡ false
  new_ : is_word (codes "new") t.kind ≡ false
  parenthesis : is_mark (codes "(") t.kind ≡ false
  bracket : is_mark (codes "[") t.kind ≡ false
  brace : is_mark (codes "{") t.kind ≡ false

all-false : (a b c d e x y z : Bool) → (a || b || c || d || e || x || y || z) ≡ false → (a ≡ false) × (b ≡ false) × (c ≡ false) × (d ≡ false) × (e ≡ false) × (x ≡ false) × (y ≡ false) × (z ≡ false)
all-false false false false false false false false false h = (refl, refl, refl, refl, refl, refl, refl, refl)
all-false false false false false false false false true h = absurd (false≢true (sym h))
all-false false false false false false false true z h = absurd (false≢true (sym h))
all-false false false false false false true y z h = absurd (false≢true (sym h))
all-false false false false false true x y z h = absurd (false≢true (sym h))
all-false false false false true e x y z h = absurd (false≢true (sym h))
all-false false false true d e x y z h = absurd (false≢true (sym h))
all-false false true c d e x y z h = absurd (false≢true (sym h))
all-false true b c d e x y z h = absurd (false≢true (sym h))

no-operand : (t : Token5) → begins_operand t ≡ false → NoOperand t
unfolding begins_operand
no-operand t h =
    let q = all-false (is_some (free_name t)) (is_some (literal_at t)) (is_word (codes "this") t.kind) (is_word (codes "function") t.kind) (is_word (codes "new") t.kind) (is_mark (codes "(") t.kind) (is_mark (codes "[") t.kind) (is_mark (codes "{") t.kind) h in
    record { free = none-if (free_name t) q.0; literal = none-if (literal_at t) q.1; this_ = q.2; function = q.3; new_ = q.4; parenthesis = q.5; bracket = q.6; brace = q.7 }

record NoExpression (t : Token5) : Type 0 where
  operand : NoOperand t
  unary_ : unary_at t ≡ None
  before_ : before_at t ≡ None

three-false : (a b c : Bool) → (a || b || c) ≡ false → (a ≡ false) × (b ≡ false) × (c ≡ false)
three-false false false false h = (refl, refl, refl)
three-false false false true h = absurd (false≢true (sym h))
three-false false true c h = absurd (false≢true (sym h))
three-false true b c h = absurd (false≢true (sym h))

no-begin : (t : Token5) → begins_expression t ≡ false → NoExpression t
unfolding begins_expression
no-begin t h =
    let q = three-false (begins_operand t) (is_some (unary_at t)) (is_some (before_at t)) h in
    record { operand = no-operand t q.0; unary_ = none-if (unary_at t) q.1; before_ = none-if (before_at t) q.2 }

-- the tokens t ∷ ts, behind this place
abbrev At : Token5 → List Token5 → ℕ → Input5
At t ts last = record { tokens = t ∷ ts; last = last }

missed : {A B : Type 0} (test : Token5 → Option B) (p : B → Parser A) (q : Parser A) (t : Token5) (ts : List Token5) (last : ℕ) → test t ≡ None → on test p q (At t ts last) ≡ q (At t ts last)
missed test p q t ts last h = ap (λ o. on_taken o t ts p q (At t ts last)) h

if-missed : {A : Type 0} (test : Token5 → Bool) (p q : Parser A) (t : Token5) (ts : List Token5) (last : ℕ) → test t ≡ false → if_next test p q (At t ts last) ≡ q (At t ts last)
if-missed test p q t ts last h = ap (λ b. choose b p q (At t ts last)) h

-- where a part of a reader finds no expression, the reader doesn't either
nothing-after : (q : Read5 → Parser Read5) (s : Input5) {o : Outcome5 Read5} → o ≡ e5.no_expression s → after o q ≡ e5.no_expression s
unfolding e5.no_expression
nothing-after q s e = ap (λ o. after o q) e ∙ by (next_is begins_division s.tokens)
  where
    by : (b : Bool) → after (choose b (fails (Outside 4)) (fails Syntax) s) q ≡ choose b (fails (Outside 4)) (fails Syntax) s
    by true = refl
    by false = refl

-- the same of a statement
abbrev no_statement : Parser Stat5
no_statement = if_next begins_division (fails (Outside 4)) (fails Syntax)

nothing-stated : (q : Read5 → Parser Stat5) (s : Input5) {o : Outcome5 Read5} → o ≡ e5.no_expression s → after o q ≡ no_statement s
unfolding e5.no_expression
nothing-stated q s e = ap (λ o. after o q) e ∙ by (next_is begins_division s.tokens)
  where
    by : (b : Bool) → after (choose b (fails (Outside 4)) (fails Syntax) s) q ≡ choose b (fails (Outside 4)) (fails Syntax) s
    by true = refl
    by false = refl

module _ (i : Inner5) (t : Token5) (ts : List Token5) (h : NoOperand t) where
  head-none : (at last : ℕ) → e5.head i at (At t ts last) ≡ e5.no_expression (At t ts last)
  unfolding e5.head e5.primary e5.bracketed
  head-none at last =
      missed (word (codes "new")) _ _ t ts last (word-miss (codes "new") t h.new_)
      ∙ missed (word (codes "this")) _ _ t ts last (word-miss (codes "this") t h.this_)
      ∙ missed free_name _ _ t ts last h.free
      ∙ missed literal_at _ _ t ts last h.literal
      ∙ missed (word (codes "function")) _ _ t ts last (word-miss (codes "function") t h.function)
      ∙ if-missed (next_mark (codes "(")) _ _ t ts last h.parenthesis
      ∙ if-missed (next_mark (codes "[")) _ _ t ts last h.bracket
      ∙ if-missed (next_mark (codes "{")) _ _ t ts last h.brace

  chain-none : (calls : Bool) (last : ℕ) → e5.chain i calls (At t ts last) ≡ e5.no_expression (At t ts last)
  unfolding e5.chain
  chain-none calls last = nothing-after _ (At t ts last) (head-none t.begin last)

  module _ (u : unary_at t ≡ None) (b : before_at t ≡ None) where
    unary-none : (last : ℕ) → e5.unary i (At t ts last) ≡ e5.no_expression (At t ts last)
    unfolding e5.unary e5.postfix
    unary-none last = missed unary_at _ _ t ts last u ∙ missed before_at _ _ t ts last b ∙ nothing-after _ (At t ts last) (chain-none true last)

    binary-none : (k : Bool) (up level last : ℕ) → e5.binary_from i k up level (At t ts last) ≡ e5.no_expression (At t ts last)
    unfolding e5.binary_from
    binary-none k zero level last = unary-none last
    binary-none k (suc up) level last = nothing-after _ (At t ts last) (binary-none k up (level + 1) last)

    assignment-none : (k : Bool) (last : ℕ) → e5.assignment i k (At t ts last) ≡ e5.no_expression (At t ts last)
    unfolding e5.assignment e5.conditional
    assignment-none k last = nothing-after _ (At t ts last) (nothing-after _ (At t ts last) (binary-none k 10 3 last))

    sequence-none : (k : Bool) (last : ℕ) → e5.sequence i k (At t ts last) ≡ e5.no_expression (At t ts last)
    unfolding e5.sequence
    sequence-none k last = nothing-after _ (At t ts last) (assignment-none k last)

-- ## At any tokens, none of which begin so

module _ (i : Inner5) where
  pub callee-limit : (ts : List Token5) (last : ℕ) → next_is begins_operand ts ≡ false → e5.chain i false (record { tokens = ts; last = last }) ≡ e5.no_expression (record { tokens = ts; last = last })
  unfolding e5.chain e5.head e5.primary e5.bracketed e5.no_expression
  callee-limit [] last h = refl
  callee-limit (t ∷ ts) last h = chain-none i t ts (no-operand t h) false last

  pub unary-limit : (ts : List Token5) (last : ℕ) → next_is begins_expression ts ≡ false → e5.unary i (record { tokens = ts; last = last }) ≡ e5.no_expression (record { tokens = ts; last = last })
  unfolding e5.unary e5.postfix e5.chain e5.head e5.primary e5.bracketed e5.no_expression
  unary-limit [] last h = refl
  unary-limit (t ∷ ts) last h = let n = no-begin t h in unary-none i t ts n.operand n.unary_ n.before_ last

  pub assignment-limit : (k : Bool) (ts : List Token5) (last : ℕ) → next_is begins_expression ts ≡ false → e5.assignment i k (record { tokens = ts; last = last }) ≡ e5.no_expression (record { tokens = ts; last = last })
  unfolding e5.assignment e5.conditional e5.binary_from e5.unary e5.postfix e5.chain e5.head e5.primary e5.bracketed e5.no_expression
  assignment-limit k [] last h = refl
  assignment-limit k (t ∷ ts) last h = let n = no-begin t h in assignment-none i t ts n.operand n.unary_ n.before_ k last

  pub sequence-limit : (k : Bool) (ts : List Token5) (last : ℕ) → next_is begins_expression ts ≡ false → e5.sequence i k (record { tokens = ts; last = last }) ≡ e5.no_expression (record { tokens = ts; last = last })
  unfolding e5.sequence e5.assignment e5.conditional e5.binary_from e5.unary e5.postfix e5.chain e5.head e5.primary e5.bracketed e5.no_expression
  sequence-limit k [] last h = refl
  sequence-limit k (t ∷ ts) last h = let n = no-begin t h in sequence-none i t ts n.operand n.unary_ n.before_ k last

-- ## Statements

-- none of these words
miss-word : (words : List (List ℕ)) (w : List ℕ) (k : Kind5) → is_any_word words k ≡ false → is_one_of w words ≡ true → is_word w k ≡ false
miss-word words w (Word name) h m = by (bytes_eq name w) refl
  where
    by : (b : Bool) → bytes_eq name w ≡ b → b ≡ false
    by false e = refl
    by true e = absurd (false≢true (sym h ∙ ap (λ z. is_one_of z words) (same_bytes name w e) ∙ m))
miss-word words w (Integer value) h m = refl
miss-word words w (Text units) h m = refl
miss-word words w (Punctuator p) h m = refl
miss-word words w Inserted h m = refl

and-left : (a b : Bool) → (a && b) ≡ false → b ≡ true → a ≡ false
and-left true b h k = absurd (false≢true (sym h ∙ k))
and-left false b h k = refl

and-right : (a b : Bool) → (a && b) ≡ false → a ≡ true → b ≡ false
and-right true b h k = h
and-right false b h k = absurd (false≢true k)

record NoStatement (inside : Bool) (t : Token5) : Type 0 where
  brace : is_mark (codes "{") t.kind ≡ false
  empty : is_mark (codes ";") t.kind ≡ false
  words : is_any_word statement_words t.kind ≡ false
  return_ : inside ≡ true → is_word (codes "return") t.kind ≡ false
  expression : is_word (codes "function") t.kind ≡ false → begins_expression t ≡ false

five-false : (a b c d e : Bool) → (a || b || c || d || e) ≡ false → (a ≡ false) × (b ≡ false) × (c ≡ false) × (d ≡ false) × (e ≡ false)
five-false false false false false false h = (refl, refl, refl, refl, refl)
five-false false false false false true h = absurd (false≢true (sym h))
five-false false false false true e h = absurd (false≢true (sym h))
five-false false false true d e h = absurd (false≢true (sym h))
five-false false true c d e h = absurd (false≢true (sym h))
five-false true b c d e h = absurd (false≢true (sym h))

no-statement : (inside : Bool) (t : Token5) → begins_statement inside t ≡ false → NoStatement inside t
unfolding begins_statement
no-statement inside t h =
    let q = five-false (is_mark (codes "{") t.kind) (is_mark (codes ";") t.kind) (is_any_word statement_words t.kind) (inside && is_word (codes "return") t.kind) (begins_expression t && not (is_word (codes "function") t.kind)) h in
    record { brace = q.0; empty = q.1; words = q.2; return_ = λ k. and-right inside (is_word (codes "return") t.kind) q.3 k; expression = λ k. and-left (begins_expression t) (not (is_word (codes "function") t.kind)) q.4 (ap not k) }

-- what is left to say where no statement begins
abbrev pub stops_there : Parser Stat5
stops_there = if_next (next_word (codes "function")) (fails Syntax) (if_next (next_word (codes "with")) (fails (Outside 2)) no_statement)

module _ (i : Inner5) (inside : Bool) where
  module _ (t : Token5) (ts : List Token5) (h : NoStatement inside t) where
    miss : (w : List ℕ) → is_one_of w statement_words ≡ true → word w t ≡ None
    miss w m = word-miss w t (miss-word statement_words w t.kind h.words m)

    otherwise-same : {A : Type 0} (b : Bool) (p q q' : Parser A) (s : Input5) → (b ≡ false → q s ≡ q' s) → choose b p q s ≡ choose b p q' s
    otherwise-same true p q q' s f = refl
    otherwise-same false p q q' s f = f refl

    plain-none : (at last : ℕ) → s5.plain_statement i inside false at (At t ts last) ≡ stops_there (At t ts last)
    unfolding s5.plain_statement s5.expression_statement
    plain-none at last = otherwise-same (is_word (codes "function") t.kind) _ _ _ (At t ts last)
        (λ k. otherwise-same (is_word (codes "with") t.kind) _ _ _ (At t ts last) (λ w. nothing-stated _ (At t ts last) (sequence-limit i false (t ∷ ts) last (h.expression k))))

    statement-none : (last : ℕ) → s5.statement i inside false (At t ts last) ≡ stops_there (At t ts last)
    unfolding s5.statement s5.compound_statement s5.jump_statement statement_words
    statement-none last =
        if-missed (next_mark (codes "{")) _ _ t ts last h.brace
        ∙ if-missed (next_word (codes "if")) _ _ t ts last (miss-word statement_words (codes "if") t.kind h.words refl)
        ∙ missed (mark (codes ";")) _ _ t ts last (mark-miss (codes ";") t h.empty)
        ∙ missed (word (codes "var")) _ _ t ts last (miss (codes "var") refl)
        ∙ missed (word (codes "do")) _ _ t ts last (miss (codes "do") refl)
        ∙ missed (word (codes "while")) _ _ t ts last (miss (codes "while") refl)
        ∙ missed (word (codes "for")) _ _ t ts last (miss (codes "for") refl)
        ∙ missed (word (codes "switch")) _ _ t ts last (miss (codes "switch") refl)
        ∙ missed (word (codes "try")) _ _ t ts last (miss (codes "try") refl)
        ∙ missed (word (codes "continue")) _ _ t ts last (miss (codes "continue") refl)
        ∙ missed (word (codes "break")) _ _ t ts last (miss (codes "break") refl)
        ∙ missed (word (codes "throw")) _ _ t ts last (miss (codes "throw") refl)
        ∙ missed (word (codes "debugger")) _ _ t ts last (miss (codes "debugger") refl)
        ∙ by inside refl
      where
        by : (b : Bool) → inside ≡ b → choose b (on (word (codes "return")) (λ _. s5.return_statement i t.begin) (s5.plain_statement i inside false t.begin)) (s5.plain_statement i inside false t.begin) (At t ts last) ≡ stops_there (At t ts last)
        by true k = missed (word (codes "return")) _ _ t ts last (word-miss (codes "return") t (h.return_ k)) ∙ plain-none t.begin last
        by false k = plain-none t.begin last

  statement-empty : (last : ℕ) → s5.statement i inside false (record { tokens = []; last = last }) ≡ Fault Syntax []
  unfolding s5.statement s5.compound_statement s5.jump_statement s5.plain_statement s5.expression_statement
  statement-empty last = by inside
    where
      end : Input5
      end = record { tokens = []; last = last }

      plain : s5.plain_statement i inside false 0 end ≡ Fault Syntax []
      plain = nothing-stated _ end (sequence-limit i false [] last refl)

      by : (b : Bool) → choose b (on (word (codes "return")) (λ _. s5.return_statement i 0) (s5.plain_statement i inside false 0)) (s5.plain_statement i inside false 0) end ≡ Fault Syntax []
      by true = plain
      by false = plain

  pub statement-limit : (ts : List Token5) (last : ℕ) → next_is (begins_statement inside) ts ≡ false → s5.statement i inside false (record { tokens = ts; last = last }) ≡ stops_there (record { tokens = ts; last = last })
  statement-limit [] last h = statement-empty last
  statement-limit (t ∷ ts) last h = statement-none t ts (no-statement inside t h) last

-- a reader where no construct may open any more, and one where some may
pub at-limit : {A : Type 0} {l : More} (test : Token5 → Bool) (q p' : Parser A) → Slack l.room → ((ts : List Token5) (last : ℕ) → next_is test ts ≡ false → p' (record { tokens = ts; last = last }) ≡ q (record { tokens = ts; last = last }))
    → (s : Input5) → Local l q q s → Local l (if_next test (fails Depth) q) p' s
at-limit {A = A} {l = l} test q p' m f s g = by (next_is test s.tokens) refl
  where
    by : (b : Bool) → next_is test s.tokens ≡ b → LocalOf l (λ us. p' (record { tokens = us; last = s.last })) s.tokens (choose b (fails Depth) q s)
    by true e = too_deep m
    by false e = relay (λ us k. f us s.last (same-next test k ∙ e)) g
