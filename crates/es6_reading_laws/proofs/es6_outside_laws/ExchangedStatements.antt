-- Readers of statements, of tokens of which one is exchanged.
use Rattle.std.specs.Prelude.{codes, is_some}
use Rattle.std.proofs.Common.{◌≡◌, inl, ℕ, zero, suc, ◌≤◌, arith, Bool, true, false, List, [], ◌∷◌, Option, Some, None, refl, sym, ap, subst}
use Rattle.std.proofs.lemmas.Bool.{false≢true}
use Rattle.es_text.specs.declared.Span.{Span}
use Rattle.es_outside.specs.HostNames.{reserved_words}
use Rattle.es6_lexer.specs.declared.token.TokenKind.TheVariants.{Word}
use Rattle.es6_lexer.specs.declared.token.Punctuator.TheVariants as marks
use Rattle.es6_ast.specs.declared.operators.AssignOperator.TheVariants as assign
use Rattle.es6_ast.specs.declared.operators.VariableKind.{VariableKind}
use Rattle.es6_ast.specs.declared.operators.VariableKind.TheVariants.{Var}
use Rattle.es6_ast.specs.declared.tree.Block.{Block}
use Rattle.es6_ast.specs.declared.tree.Catch.{Catch}
use Rattle.es6_ast.specs.declared.tree.Expression.{Expression}
use Rattle.es6_ast.specs.declared.tree.ForFirst.{ForFirst}
use Rattle.es6_ast.specs.declared.tree.ForFirst.TheVariants.{NoFirst, FirstVariables}
use Rattle.es6_ast.specs.declared.tree.ForTarget.{ForTarget}
use Rattle.es6_ast.specs.declared.tree.ForTarget.TheVariants.{Declared, Assigned}
use Rattle.es6_ast.specs.declared.tree.Identifier.{Identifier}
use Rattle.es6_ast.specs.declared.tree.Part.{Part}
use Rattle.es6_ast.specs.declared.tree.Pattern.{Pattern}
use Rattle.es6_ast.specs.declared.tree.Statement.{Statement}
use Rattle.es6_ast.specs.declared.tree.Statement.TheVariants as stat
use Rattle.es6_ast.specs.declared.settings.Flags.{Flags}
use Rattle.es6_ast.specs.declared.settings.Stand.{Stand}
use Rattle.es6_ast.specs.declared.settings.Stand.TheVariants.{Listed, Under, Labelled}
use Rattle.es6_ast.specs.declared.settings.Stop.TheVariants.{Outside, Syntax}
use Rattle.es6_ast.specs.Tokens.{Filled}
use Rattle.es6_ast.specs.Grammar.{with_in, without_in}
use Rattle.es6_reading.specs.Parser.{Fault, Parser, Reading, Inner, fails, after, choose, on, if_next, mark, word, next_word, refused, take_as, made, is_left, semicolon, inserts}
use Rattle.es6_reading.specs.Refine.{Refined, Fits, Misfit, TooNested, target_before}
use Rattle.es6_reading.specs.Parts as t6
use Rattle.es6_reading.specs.Expressions as e6
use Rattle.es6_reading.specs.Statements as s6
use Rattle.es6_reading.proofs.Follows.{plus}
use Rattle.es6_reading.proofs.FollowStatements as statements'
use Rattle.es6_reading.proofs.FollowModules as modules'
use Rattle.es6_reading.proofs.RefineMore.{kept-before}
use Rattle.es6_reading_laws.proofs.es6_outside_laws.Exchanged.{for_in, with_, Place, at_kind, it, one_of, two_of, input, none, Any, Over, Rel, here, before, outside, passed, Agree, misses, Unseen, Onward, KeepsIf, Keeps, stopped, over-bind, onward-bind, onward-either, easier, bind, bind-seen, either, begins, next, next-by, next-onward-if, looks, looks-by, looks-more-if, looks-alike, done}
use Rattle.es6_reading_laws.proofs.es6_outside_laws.Tests.{place, each, a-mark, a-word, a-kind, a-lexical, u-mark, u-word, u-declaration, u-case, l-line, l-goes-on, nowhere, take}
use Rattle.es6_reading_laws.proofs.es6_outside_laws.ExchangedParts.{gave-up, turned, valued, over-halt, Pairs, group, semicolon_, do-while-end, initialized, block, named-function, function, class}
use Rattle.es6_reading_laws.proofs.es6_outside_laws.ExchangedExpressions.{deep, fitting, sequence}

-- ## Under conditions

-- it isn't `in`
abbrev pub NotIn : Place → Type 0
NotIn e = e.strict ≡ true → ⊥

-- it isn't `with`
abbrev pub NotWith : Place → Type 0
NotWith e = e.rule ≡ 5 → ⊥

no-of : {e : Place} → NotIn e → Agree e (word (codes "of"))
no-of {e = e} c = each (λ e. NotIn e → Agree e (word (codes "of"))) (λ s n c. absurd (c refl)) (λ s n c. misses refl refl refl) (λ s n c. misses refl refl refl) (λ s n c. misses refl refl refl) (λ s n c. misses refl refl refl) (λ s n c. misses refl refl refl) e c

unseen-of : {e : Place} → NotIn e → Unseen e (next_word (codes "of"))
unseen-of {e = e} c = each (λ e. NotIn e → Unseen e (next_word (codes "of"))) (λ s n c. absurd (c refl)) (λ s n c. record { its = refl; ones = refl; twos = refl }) (λ s n c. record { its = refl; ones = refl; twos = refl }) (λ s n c. record { its = refl; ones = refl; twos = refl }) (λ s n c. record { its = refl; ones = refl; twos = refl }) (λ s n c. record { its = refl; ones = refl; twos = refl }) e c

unseen-with : {e : Place} → NotWith e → Unseen e (next_word (codes "with"))
unseen-with {e = e} c = each (λ e. NotWith e → Unseen e (next_word (codes "with"))) (λ s n c. record { its = refl; ones = refl; twos = refl }) (λ s n c. record { its = refl; ones = refl; twos = refl }) (λ s n c. record { its = refl; ones = refl; twos = refl }) (λ s n c. record { its = refl; ones = refl; twos = refl }) (λ s n c. record { its = refl; ones = refl; twos = refl }) (λ s n c. absurd (c refl)) e c

take-of : {e : Place} → KeepsIf e ⊥ Any (take_as (word (codes "of"))) (λ l. take_as (word (codes "of")))
take-of = next-by (word (codes "of")) (λ x. (done λ a b n. refl).onward) {D = Unit {0}} nowhere (λ c last. absurd c)

far : {e : Place} {A : Type 0} {p : Parser A} {p' : ℕ → Parser A} → Keeps e p p' → KeepsIf e ⊥ Any p p'
far k = easier (λ c. absurd c) k

-- ## Loops

module _ {e : Place} (one : Parser Part) (one' : ℕ → Parser Part) (k : Keeps e one one') where
  one-variable : Keeps e (s6.one_variable one) (λ l. s6.one_variable (one' l))
  unfolding s6.one_variable
  one-variable = bind k λ q. either (s6.is_whole q) (done λ a b n. refl) nowhere

  variables : (n : ℕ) → Keeps e (s6.variables one n) (λ l. s6.variables (one' l) (plus n (suc l)))
  unfolding s6.variables
  variables zero = gave-up (λ l last. over-bind Any Any (s6.one_variable (one' l) (none last)) _ (one-variable.second l last) (λ q w n. (refl, tt)))
  variables (suc n) = bind one-variable λ q. next (a-mark marks.Comma refl) (λ t. bind (variables n) λ qs. done λ a b n. refl) (done λ a b n. refl)

module _ {e : Place} {i : Inner} {j : ℕ → Inner} (h : Pairs e i j) where
  pub variables-statement : (f : Flags) (at : ℕ) (kind : VariableKind) → Keeps e (s6.variables_statement i f at kind) (λ l. s6.variables_statement (j l) f at kind)
  unfolding s6.variables_statement
  variables-statement f at kind = bind (turned i.fuel (λ l m. s6.variables (t6.initialized (j l) f f) m) h.fuel (variables _ _ (initialized h f f) i.fuel)) λ qs. bind (semicolon_ i j h.mode) λ t. done λ a b n. refl

  parenthesized : (f : Flags) → Keeps e (s6.parenthesized i f) (λ l. s6.parenthesized (j l) f)
  unfolding s6.parenthesized
  parenthesized f = group h marks.LeftParenthesis refl (bind (h.sequence (with_in f)) λ x. bind (take (a-mark marks.RightParenthesis refl)) λ t. done λ a b n. refl) nowhere

  condition : (f : Flags) → Keeps e (s6.condition i f) (λ l. s6.condition (j l) f)
  unfolding s6.condition
  condition f = begins (statements'.condition_from i f) (λ l. statements'.condition_from (j l) f) (λ at. bind (take (a-word (codes "if") refl)) λ t. bind (parenthesized f) λ x. bind (h.statement f Under) λ y. done λ a b n. refl)

  otherwise : (f : Flags) (n : ℕ) → Keeps e (s6.otherwise i f n) (λ l. s6.otherwise (j l) f (plus n (suc l)))
  unfolding s6.otherwise
  otherwise f zero = gave-up (λ l last. (refl, tt))
  otherwise f (suc n) = next (a-word (codes "else") refl) (λ t. looks (u-word (codes "if") refl) (bind (condition f) λ x. bind (otherwise f n) λ r. done λ a b n. refl) (bind (h.statement f Under) λ x. done λ a b n. refl)) (done λ a b n. refl)

  if-statement : (f : Flags) (at : ℕ) → Keeps e (s6.if_statement i f at) (λ l. s6.if_statement (j l) f at)
  unfolding s6.if_statement
  if-statement f at = bind (condition f) λ x. bind (turned i.fuel (λ l m. s6.otherwise (j l) f m) h.fuel (otherwise f i.fuel)) λ r. done λ a b n. refl

  do-statement : (f : Flags) (at : ℕ) → Keeps e (s6.do_statement i f at) (λ l. s6.do_statement (j l) f at)
  unfolding s6.do_statement
  do-statement f at = bind (h.statement f Under) λ x. bind (take (a-word (codes "while") refl)) λ t. bind (parenthesized f) λ y. bind (do-while-end i j h.mode) λ u. done λ a b n. refl

  while-statement : (f : Flags) (at : ℕ) → Keeps e (s6.while_statement i f at) (λ l. s6.while_statement (j l) f at)
  unfolding s6.while_statement
  while-statement f at = bind (parenthesized f) λ x. bind (h.statement f Under) λ y. done λ a b n. refl

  -- ## For

  optional : (f : Flags) (end : Filled → Option Filled) → Agree e end → Keeps e (s6.optional i f end) (λ l. s6.optional (j l) f end)
  unfolding s6.optional
  optional f end a = next a (λ t. done λ a b n. refl) (bind (h.sequence (with_in f)) λ x. bind (take a) λ t. done λ a b n. refl)

  rest-of-for : (f : Flags) (first : ForFirst) → Keeps e (s6.rest_of_for i f first) (λ l. s6.rest_of_for (j l) f first)
  unfolding s6.rest_of_for
  rest-of-for f first = bind (optional f (mark marks.Semicolon) (a-mark marks.Semicolon refl)) λ x. bind (optional f (mark marks.RightParenthesis) (a-mark marks.RightParenthesis refl)) λ y. done λ a b n. refl

  rest-of-of : (f : Flags) (target : ForTarget) → Keeps e (s6.rest_of_of i f target) (λ l. s6.rest_of_of (j l) f target)
  unfolding s6.rest_of_of
  rest-of-of f target = bind (h.assignment (with_in f)) λ x. bind (take (a-mark marks.RightParenthesis refl)) λ t. done λ a b n. refl

  first-variables : (f : Flags) (at : ℕ) (kind : VariableKind) (qs : List Part) → Keeps e (s6.first_variables i f at kind qs) (λ l. s6.first_variables (j l) f at kind qs)
  unfolding s6.first_variables
  first-variables f at kind qs = valued (λ first c. after (take_as (mark marks.Semicolon) c) (λ t. s6.rest_of_for i f first)) (λ l first c. after (take_as (mark marks.Semicolon) c) (λ t. s6.rest_of_for (j l) f first)) (λ c. FirstVariables (record { begin = at; end = c.last }) kind qs) (λ a b n. refl)
      (λ first. bind (take (a-mark marks.Semicolon refl)) λ t. rest-of-for f first)

  after-first : (f : Flags) (at : ℕ) (kind : VariableKind) (q : Part) → Keeps e (s6.after_first_variable i f at kind q) (λ l. s6.after_first_variable (j l) f at kind q)
  unfolding s6.after_first_variable
  after-first f at kind q = either (s6.is_whole q) (next (a-mark marks.Comma refl) (λ t. bind (turned i.fuel (λ l m. s6.variables ((j l).variable (without_in f)) m) h.fuel (variables _ _ (h.variable (without_in f)) i.fuel)) λ qs. first-variables f at kind _) (first-variables f at kind _)) nowhere

  from-stops : (i : Inner) (f : Flags) (at : ℕ) (kind : VariableKind) (q : Part) (last : ℕ) (s : Span) (n : Bool) → s6.after_first_variable i f at kind q (input (at_kind s n (Word (codes "from")) ∷ []) last) ≡ Fault Syntax (at_kind s n (Word (codes "from")) ∷ [])
  unfolding s6.after_first_variable s6.first_variables refused
  from-stops i f at kind q last s n = by (s6.is_whole q)
    where
      by : (b : Bool) → choose b (on (mark marks.Comma) (λ t c. after (s6.variables (i.variable (without_in f)) i.fuel c) (λ qs. s6.first_variables i f at kind (q ∷ qs))) (s6.first_variables i f at kind (q ∷ []))) refused (input (at_kind s n (Word (codes "from")) ∷ []) last) ≡ Fault Syntax (at_kind s n (Word (codes "from")) ∷ [])
      by true = refl
      by false = refl

  after-bare : (f : Flags) (at : ℕ) (kind : VariableKind) (q : Part) → Keeps e (s6.after_bare_variable i f at kind q) (λ l. s6.after_bare_variable (j l) f at kind q)
  unfolding s6.after_bare_variable
  after-bare f at kind q = looks-by (next_word (codes "in")) (λ ts us vs t m last. before m) inner (λ c last. each (λ e. Made e last)
      (λ s n d k. here (outside (0, λ l m. inl (d (Declared (record { begin = at; end = last }) kind q.pattern) l s.end)) (λ y l. (Syntax, from-stops (j l) f at kind q last s n, tt))))
      (λ s n d k. k (λ y. absurd (false≢true y))) (λ s n d k. k (λ y. absurd (false≢true y))) (λ s n d k. k (λ y. absurd (false≢true y))) (λ s n d k. k (λ y. absurd (false≢true y))) (λ s n d k. k (λ y. absurd (false≢true y)))
      e (λ target. (rest-of-of f target).second) (λ d. inner.onward.there d last))
    where
      declared : Inner → Parser s6.Header
      declared i c = after (take_as (word (codes "of")) c) (λ t. s6.rest_of_of i f (Declared (record { begin = at; end = c.last }) kind q.pattern))

      otherwise' : Inner → Parser s6.Header
      otherwise' i = if_next (next_word (codes "of")) (declared i) (s6.after_first_variable i f at kind q)

      inner : KeepsIf e (NotIn e) Any (otherwise' i) (λ l. otherwise' (j l))
      inner = looks-more-if unseen-of (valued (λ target c. after (take_as (word (codes "of")) c) (λ t. s6.rest_of_of i f target)) (λ l target c. after (take_as (word (codes "of")) c) (λ t. s6.rest_of_of (j l) f target)) (λ c. Declared (record { begin = at; end = c.last }) kind q.pattern) (λ a b n. refl) (λ target. bind take-of λ t. rest-of-of f target)).onward.more (easier (λ c. tt) (after-first f at kind q))

      Made : Place → ℕ → Type 0
      Made e last = ((target : ForTarget) (l last : ℕ) → Over Any (s6.rest_of_of (j l) f target (none last))) → (NotIn e → Rel e Any (λ l. otherwise' (j l) (input (one_of e ∷ []) last)) (λ l. otherwise' (j l) (input (two_of e ∷ []) last)) (otherwise' i (input (it e ∷ []) last)))
          → Rel e Any (λ l. if_next (next_word (codes "in")) (fails (Outside 1)) (otherwise' (j l)) (input (one_of e ∷ []) last)) (λ l. if_next (next_word (codes "in")) (fails (Outside 1)) (otherwise' (j l)) (input (two_of e ∷ []) last)) (if_next (next_word (codes "in")) (fails (Outside 1)) (otherwise' i) (input (it e ∷ []) last))

  for-variables : (f : Flags) (at : ℕ) (kind : VariableKind) → Keeps e (s6.for_variables i f at kind) (λ l. s6.for_variables (j l) f at kind)
  unfolding s6.for_variables
  for-variables f at kind = bind (h.variable (without_in f)) λ q. either (is_some q.default) (after-first f at kind q) (after-bare f at kind q)

  first-expression : (f : Flags) (x : Expression) → Keeps e (s6.first_expression i f x) (λ l. s6.first_expression (j l) f x)
  unfolding s6.first_expression
  first-expression f x = bind (take (a-mark marks.Semicolon refl)) λ t. rest-of-for f _

  assigned-in-turn : (f : Flags) (x : Expression) → Onward e (Unit {0}) Any (s6.assigned_in_turn i f x) (λ l. s6.assigned_in_turn (j l) f x)
  unfolding s6.assigned_in_turn
  assigned-in-turn f x = onward-bind (fitting (deep (λ n. target_before n assign.Assign x) h.fuel (λ k more. kept-before k more assign.Assign x))) (λ q. (rest-of-of f _).onward) (λ q w l last. (rest-of-of f _).second l last)

  low : (n l b : ℕ) → b ≤ l → b ≤ plus n (suc l)
  low zero l b m = omega (arith, m)
  low (suc n) l b m = up b (plus n (suc l)) (low n l b m)
    where
      up : (b k : ℕ) → b ≤ k → b ≤ suc k
      up b k m = omega (arith, m)

  -- nothing follows, and it isn't nested too far
  turn-over : (f : Flags) (x : Expression) (b : ℕ) → ((n : ℕ) → b ≤ n → target_before n assign.Assign x ≡ TooNested → ⊥) → (l last : ℕ) → b ≤ l → Over Any (s6.assigned_in_turn (j l) f x (none last))
  unfolding s6.assigned_in_turn refused
  turn-over f x b never l last m = by (target_before (j l).fuel assign.Assign x) (never (j l).fuel (subst (λ n. b ≤ n) (sym (h.fuel l)) (low i.fuel l b m)))
    where
      by : (r : Refined Pattern) → (r ≡ TooNested → ⊥) → Over Any (after (e6.fitting r (none last)) (λ p. s6.rest_of_of (j l) f (Assigned p)))
      by (Fits p) k = (rest-of-of f (Assigned p)).second l last
      by (Misfit place) k = stopped
      by TooNested k = absurd (k refl)

  in-turn : Inner → Flags → Expression → Parser s6.Header
  in-turn i f x = if_next (next_word (codes "in")) (fails (Outside 1)) (on (word (codes "of")) (λ t. s6.assigned_in_turn i f x) (s6.first_expression i f x))

  turns : (f : Flags) (x : Expression) (b : ℕ) → ((n : ℕ) → b ≤ n → target_before n assign.Assign x ≡ TooNested → ⊥) → Keeps e (in-turn i f x) (λ l. in-turn (j l) f x)
  unfolding in-turn s6.first_expression refused
  turns f x b never = looks-by (next_word (codes "in")) (λ ts us vs t m last. before m) inner (λ c last. each (λ e. Made e last)
      (λ s n d k. here (outside (b, λ l m. inl (d l s.end m)) (λ y l. (Syntax, refl, tt))))
      (λ s n d k. k (λ y. absurd (false≢true y))) (λ s n d k. k (λ y. absurd (false≢true y))) (λ s n d k. k (λ y. absurd (false≢true y))) (λ s n d k. k (λ y. absurd (false≢true y))) (λ s n d k. k (λ y. absurd (false≢true y)))
      e (turn-over f x b never) (λ d. inner.onward.there d last))
    where
      of' : Inner → Parser s6.Header
      of' i = on (word (codes "of")) (λ t. s6.assigned_in_turn i f x) (s6.first_expression i f x)

      inner : KeepsIf e (NotIn e) Any (of' i) (λ l. of' (j l))
      inner = next-onward-if no-of (λ t. assigned-in-turn f x) (easier (λ c. tt) (first-expression f x))

      Made : Place → ℕ → Type 0
      Made e last = ((l last : ℕ) → b ≤ l → Over Any (s6.assigned_in_turn (j l) f x (none last))) → (NotIn e → Rel e Any (λ l. of' (j l) (input (one_of e ∷ []) last)) (λ l. of' (j l) (input (two_of e ∷ []) last)) (of' i (input (it e ∷ []) last)))
          → Rel e Any (λ l. in-turn (j l) f x (input (one_of e ∷ []) last)) (λ l. in-turn (j l) f x (input (two_of e ∷ []) last)) (in-turn i f x (input (it e ∷ []) last))

  none-in-turn : (f : Flags) (x : Reading) (l last : ℕ) (b : Bool) → Over Any (choose b (if_next (next_word (codes "in")) (fails (Outside 1)) (on (word (codes "of")) (λ t. s6.assigned_in_turn (j l) f x.value) (s6.first_expression (j l) f x.value))) (s6.first_expression (j l) f x.value) (none last))
  unfolding s6.first_expression refused
  none-in-turn f x l last true = stopped
  none-in-turn f x l last false = stopped

  for-expression : (f : Flags) → Keeps e (s6.for_expression i f) (λ l. s6.for_expression (j l) f)
  unfolding s6.for_expression in-turn
  for-expression f = bind-seen (h.sequence (without_in f)) (λ x s c y. let q = h.nests (without_in f) s c x y in onward-either (is_left x.shape) (turns f x.value q.0 q.1).onward (first-expression f x.value).onward) (λ x w l last. none-in-turn f x l last (is_left x.shape))

  for-header : (f : Flags) → Keeps e (s6.for_header i f) (λ l. s6.for_header (j l) f)
  unfolding s6.for_header
  for-header f = begins (statements'.header_from i f) (λ l. statements'.header_from (j l) f) (λ at. next (a-mark marks.Semicolon refl) (λ t. rest-of-for f NoFirst) (next a-kind (λ kind. for-variables f at kind) (for-expression f)))

  for-statement : (f : Flags) (at : ℕ) → Keeps e (s6.for_statement i f at) (λ l. s6.for_statement (j l) f at)
  unfolding s6.for_statement
  for-statement f at = bind (group h marks.LeftParenthesis refl (for-header f) nowhere) λ x. bind (h.statement f Under) λ y. done λ a b n. refl

  -- ## Jumps

  -- a label may be read where a name may stand, on the same line
  abbrev MayLabel : Place → Type 0
  MayLabel e = e.strict ≡ true → e.newline ≡ true

  label-none : (b : Bool) → s6.label_if b None ≡ None
  label-none true = refl
  label-none false = refl

  no-label : MayLabel e → Agree e s6.label_at
  unfolding reserved_words
  no-label c = each (λ e. MayLabel e → Agree e s6.label_at) (λ s n c. let k : n ≡ true = c refl in misses (label-none n) (ap (λ b. s6.label_if b (Some (codes "of"))) k) (ap (λ b. s6.label_if b (Some (codes "from"))) k))
      (λ s n c. misses (label-none n) (label-none n) (label-none n)) (λ s n c. misses (label-none n) (label-none n) (label-none n)) (λ s n c. misses (label-none n) (label-none n) (label-none n)) (λ s n c. misses (label-none n) (label-none n) (label-none n)) (λ s n c. misses (label-none n) (label-none n) (label-none n)) e c

  label : KeepsIf e (MayLabel e) Any s6.optional_label (λ l. s6.optional_label)
  unfolding s6.optional_label
  label = begins statements'.label_from (λ l. statements'.label_from) (λ at. next-onward-if no-label (λ name. (done λ a b n. refl).onward) (easier (λ c. tt) (done λ a b n. refl)))

  jump : Inner → ℕ → (Option Identifier → Span → Statement) → Parser Statement
  jump i at make c = after (s6.optional_label c) (λ label c. after (semicolon i c) (λ t. made at (make label)))

  ends-jump : (at : ℕ) (make : Option Identifier → Span → Statement) → Keeps e (jump i at make) (λ l. jump (j l) at make)
  unfolding jump s6.optional_label semicolon reserved_words refused
  ends-jump at make = record { onward = record { more = k.onward.more; there = λ c last. each (λ e. Made e last) (λ s n d k. by-line s n last d k) (λ s n d k. k (λ y. absurd (false≢true y))) (λ s n d k. k (λ y. absurd (false≢true y))) (λ s n d k. k (λ y. absurd (false≢true y))) (λ s n d k. k (λ y. absurd (false≢true y))) (λ s n d k. k (λ y. absurd (false≢true y))) e (semicolon_ {e = e} i j h.mode).second (λ d. k.onward.there d last); first = k.onward.first }; second = k.second }
    where
      k : KeepsIf e (MayLabel e) Any (jump i at make) (λ l. jump (j l) at make)
      k = bind label λ x. bind (semicolon_ i j h.mode) λ t. done λ a b n. refl

      Made : Place → ℕ → Type 0
      Made e last = ((l last : ℕ) → Over Any (semicolon (j l) (none last))) → (MayLabel e → Rel e Any (λ l. jump (j l) at make (input (one_of e ∷ []) last)) (λ l. jump (j l) at make (input (two_of e ∷ []) last)) (jump i at make (input (it e ∷ []) last)))
          → Rel e Any (λ l. jump (j l) at make (input (one_of e ∷ []) last)) (λ l. jump (j l) at make (input (two_of e ∷ []) last)) (jump i at make (input (it e ∷ []) last))

      -- on the line, no semicolon is inserted before it
      ended : (b : Bool) (s : Span) (last : ℕ) → after (choose b inserts refused (input (at_kind s false (Word (codes "in")) ∷ []) last)) (λ t. made at (make None)) ≡ Fault Syntax (at_kind s false (Word (codes "in")) ∷ [])
      ended true s last = refl
      ended false s last = refl

      by-line : (s : Span) (n : Bool) (last : ℕ) → Made (place for_in s n) last
      by-line s true last d k = k (λ y. refl)
      by-line s false last d k = subst (λ o. Rel (place for_in s false) Any (λ l. jump (j l) at make (input (at_kind s false (Word (codes "of")) ∷ []) last)) (λ l. jump (j l) at make (input (at_kind s false (Word (codes "from")) ∷ []) last)) o) (sym (ended i.inserting s last))
          (here (passed (λ y. absurd (cc)) refl (0, λ l m. inl (over-bind Any Any (semicolon (j l) (none s.end)) _ (d l s.end) (λ t w n. (refl, tt))))))

  continue-statement : (at : ℕ) → Keeps e (s6.continue_statement i at) (λ l. s6.continue_statement (j l) at)
  unfolding s6.continue_statement jump
  continue-statement at = ends-jump at (λ label span. stat.Continue span label)

  break-statement : (at : ℕ) → Keeps e (s6.break_statement i at) (λ l. s6.break_statement (j l) at)
  unfolding s6.break_statement jump
  break-statement at = ends-jump at (λ label span. stat.Break span label)

  returned : (f : Flags) → Keeps e (s6.returned i f) (λ l. s6.returned (j l) f)
  unfolding s6.returned
  returned f = looks-alike l-goes-on (bind (sequence h (with_in f)) λ x. done λ a b n. refl) (done λ a b n. refl)

  return-statement : (f : Flags) (at : ℕ) → Keeps e (s6.return_statement i f at) (λ l. s6.return_statement (j l) f at)
  unfolding s6.return_statement
  return-statement f at = bind (returned f) λ x. bind (semicolon_ i j h.mode) λ t. done λ a b n. refl

  throw-statement : (f : Flags) (at : ℕ) → Keeps e (s6.throw_statement i f at) (λ l. s6.throw_statement (j l) f at)
  unfolding s6.throw_statement
  throw-statement f at = looks-alike l-line nowhere (bind (sequence h (with_in f)) λ x. bind (semicolon_ i j h.mode) λ t. done λ a b n. refl)

  -- ## Switch and try

  in-case : (f : Flags) (n : ℕ) → Keeps e (s6.in_case i f n) (λ l. s6.in_case (j l) f (plus n (suc l)))
  unfolding s6.in_case
  in-case f zero = gave-up (λ l last. over-halt Any ((j l).statement f Listed (none last)) _ (h.statement_ends f Listed l last))
  in-case f (suc n) = looks u-case (done λ a b n. refl) (bind (h.statement f Listed) λ x. bind (in-case f n) λ y. done λ a b n. refl)

  case-clause : (f : Flags) (at : ℕ) → Keeps e (s6.case_clause i f at) (λ l. s6.case_clause (j l) f at)
  unfolding s6.case_clause
  case-clause f at = bind (h.sequence (with_in f)) λ x. bind (take (a-mark marks.Colon refl)) λ t. bind (turned i.fuel (λ l m. s6.in_case (j l) f m) h.fuel (in-case f i.fuel)) λ y. done λ a b n. refl

  default-clause : (f : Flags) (at : ℕ) → Keeps e (s6.default_clause i f at) (λ l. s6.default_clause (j l) f at)
  unfolding s6.default_clause
  default-clause f at = bind (take (a-mark marks.Colon refl)) λ t. bind (turned i.fuel (λ l m. s6.in_case (j l) f m) h.fuel (in-case f i.fuel)) λ y. done λ a b n. refl

  cases : (f : Flags) (may : Bool) (n : ℕ) → Keeps e (s6.cases i f may n) (λ l. s6.cases (j l) f may (plus n (suc l)))
  unfolding s6.cases refused
  cases f true zero = gave-up (λ l last. stopped)
  cases f false zero = gave-up (λ l last. stopped)
  cases f may (suc n) = begins (statements'.cases_from i f may (s6.cases i f may n) (s6.cases i f false n)) (λ l. statements'.cases_from (j l) f may (s6.cases (j l) f may (plus n (suc l))) (s6.cases (j l) f false (plus n (suc l)))) (λ at. next (a-mark marks.RightBrace refl) (λ t. done λ a b n. refl) (next (a-word (codes "case") refl) (λ t. bind (case-clause f at) λ x. bind (cases f may n) λ y. done λ a b n. refl)
      (either may (next (a-word (codes "default") refl) (λ t. bind (default-clause f at) λ x. bind (cases f false n) λ y. done λ a b n. refl) nowhere) nowhere)))

  switch-statement : (f : Flags) (at : ℕ) → Keeps e (s6.switch_statement i f at) (λ l. s6.switch_statement (j l) f at)
  unfolding s6.switch_statement
  switch-statement f at = bind (parenthesized f) λ x. bind (group h marks.LeftBrace refl (turned i.fuel (λ l m. s6.cases (j l) f true m) h.fuel (cases f true i.fuel)) nowhere) λ y. done λ a b n. refl

  catch-parameter : (f : Flags) → Keeps e (s6.catch_parameter i f) (λ l. s6.catch_parameter (j l) f)
  unfolding s6.catch_parameter
  catch-parameter f = bind (h.target (with_in f)) λ x. bind (take (a-mark marks.RightParenthesis refl)) λ t. done λ a b n. refl

  handler : (f : Flags) → Keeps e (s6.handler i f) (λ l. s6.handler (j l) f)
  unfolding s6.handler
  handler f = begins (statements'.handler_from i f) (λ l. statements'.handler_from (j l) f) (λ at. bind (take (a-word (codes "catch") refl)) λ t. bind (group h marks.LeftParenthesis refl (catch-parameter f) nowhere) λ x. bind (block h f) λ b. done λ a b n. refl)

  after-handler : (f : Flags) (at : ℕ) (b : Block) (x : Catch) → Keeps e (s6.after_handler i f at b x) (λ l. s6.after_handler (j l) f at b x)
  unfolding s6.after_handler
  after-handler f at b x = next (a-word (codes "finally") refl) (λ t. bind (block h f) λ y. done λ a b n. refl) (done λ a b n. refl)

  only-finally : (f : Flags) (at : ℕ) (b : Block) → Keeps e (s6.only_finally i f at b) (λ l. s6.only_finally (j l) f at b)
  unfolding s6.only_finally
  only-finally f at b = bind (take (a-word (codes "finally") refl)) λ t. bind (block h f) λ y. done λ a b n. refl

  try-statement : (f : Flags) (at : ℕ) → Keeps e (s6.try_statement i f at) (λ l. s6.try_statement (j l) f at)
  unfolding s6.try_statement
  try-statement f at = bind (block h f) λ b. looks (u-word (codes "catch") refl) (bind (handler f) λ x. after-handler f at b x) (only-finally f at b)

  debugger-statement : (at : ℕ) → Keeps e (s6.debugger_statement i at) (λ l. s6.debugger_statement (j l) at)
  unfolding s6.debugger_statement
  debugger-statement at = bind (semicolon_ i j h.mode) λ t. done λ a b n. refl

  -- ## Expressions, labels and declarations

  expression-end : (at : ℕ) (x : Expression) → Keeps e (s6.expression_end i at x) (λ l. s6.expression_end (j l) at x)
  unfolding s6.expression_end
  expression-end at x = bind (semicolon_ i j h.mode) λ t. done λ a b n. refl

  labelled : (f : Flags) (at : ℕ) (n : Identifier) → Keeps e (s6.labelled i f at n) (λ l. s6.labelled (j l) f at n)
  unfolding s6.labelled
  labelled f at n = bind (h.statement f Labelled) λ x. done λ a b n. refl

  label-or-end : (f : Flags) (at : ℕ) (n : Option Identifier) (x : Expression) → Keeps e (s6.label_or_end i f at n x) (λ l. s6.label_or_end (j l) f at n x)
  label-or-end f at (Some n) x = next (a-mark marks.Colon refl) (λ t. labelled f at n) (expression-end at x)
  label-or-end f at None x = expression-end at x

  expression-statement : (f : Flags) (at : ℕ) → Keeps e (s6.expression_statement i f at) (λ l. s6.expression_statement (j l) f at)
  unfolding s6.expression_statement
  expression-statement f at = bind (sequence h f) λ x. label-or-end f at (s6.label_of x.shape x.value) x.value

  function-declaration : (at : ℕ) → Keeps e (s6.function_declaration i at) (λ l. s6.function_declaration (j l) at)
  unfolding s6.function_declaration
  function-declaration at = bind (function h false at) λ g. done λ a b n. refl

  class-declaration : (f : Flags) (at : ℕ) → Keeps e (s6.class_declaration i f at) (λ l. s6.class_declaration (j l) f at)
  unfolding s6.class_declaration
  class-declaration f at = bind (class h f false at) λ x. done λ a b n. refl

  pub on-declaration : {C : Type 0} (f : Flags) (at : ℕ) {q : Parser Statement} {q' : ℕ → Parser Statement} → KeepsIf e C Any q q' → KeepsIf e C Any (s6.on_declaration i f at q) (λ l. s6.on_declaration (j l) f at (q' l))
  on-declaration f at k = next (a-word (codes "function") refl) (λ t. function-declaration at) (next (a-word (codes "class") refl) (λ t. class-declaration f at) (next a-lexical (λ kind. variables-statement f at kind) k))

  labelled-function : (at : ℕ) → Keeps e (s6.labelled_function i at) (λ l. s6.labelled_function (j l) at)
  unfolding s6.labelled_function
  labelled-function at = bind (named-function h at false) λ g. done λ a b n. refl

  on-more : {C : Type 0} (f : Flags) (stand : Stand) (at : ℕ) (q : Parser Statement) (q' : ℕ → Parser Statement) → KeepsIf e C Any q q' → KeepsIf e C Any (s6.on_more i f stand at q) (λ l. s6.on_more (j l) f stand at (q' l))
  on-more f Listed at q q' k = on-declaration f at k
  on-more f Under at q q' k = k
  on-more f Labelled at q q' k = next (a-word (codes "function") refl) (λ t. labelled-function at) k

  -- ## All together

  plain-statement : (f : Flags) (at : ℕ) → KeepsIf e (NotWith e) Any (s6.plain_statement i f at) (λ l. s6.plain_statement (j l) f at)
  unfolding s6.plain_statement
  plain-statement f at = looks-more-if unseen-with (λ ts us vs t m last. before m) (looks-more-if (λ c. u-declaration) (λ ts us vs t m last. before m) (easier (λ c. tt) (expression-statement f at)))

  simple : Inner → Flags → Stand → ℕ → Parser Statement
  simple i f stand at = choose f.has_return (on (word (codes "return")) (λ t. s6.return_statement i f at) (s6.on_more i f stand at (s6.plain_statement i f at))) (s6.on_more i f stand at (s6.plain_statement i f at))

  with-stops : (b : Bool) (f : Flags) (stand : Stand) (at last : ℕ) (s : Span) (n : Bool) → choose b (on (word (codes "return")) (λ t. s6.return_statement i f at) (s6.on_more i f stand at (s6.plain_statement i f at))) (s6.on_more i f stand at (s6.plain_statement i f at)) (input (at_kind s n (Word (codes "with")) ∷ []) last) ≡ Fault (Outside 5) (at_kind s n (Word (codes "with")) ∷ [])
  unfolding s6.plain_statement
  with-stops true f Listed at last s n = refl
  with-stops true f Under at last s n = refl
  with-stops true f Labelled at last s n = refl
  with-stops false f Listed at last s n = refl
  with-stops false f Under at last s n = refl
  with-stops false f Labelled at last s n = refl

  debugging : (f : Flags) (stand : Stand) (at : ℕ) → Keeps e (on (word (codes "debugger")) (λ t. s6.debugger_statement i at) (simple i f stand at)) (λ l. on (word (codes "debugger")) (λ t. s6.debugger_statement (j l) at) (simple (j l) f stand at))
  unfolding simple
  debugging f stand at = next-by (word (codes "debugger")) (λ t. (debugger-statement at).onward) k (λ c last. each (λ e. Made e last)
      (λ s n d k. k (λ y. absurd (cc))) (λ s n d k. k (λ y. absurd (cc))) (λ s n d k. k (λ y. absurd (cc))) (λ s n d k. k (λ y. absurd (cc))) (λ s n d k. k (λ y. absurd (cc)))
      (λ s n d k. subst (λ o. Rel (place with_ s n) Any (λ l. s6.debugger_statement (j l) at (none s.end)) (λ l. s6.debugger_statement (j l) at (none s.end)) o) (sym (with-stops f.has_return f stand at last s n)) (here (outside (0, λ l m. inl (d l s.end)) (λ y. absurd (false≢true y)))))
      e (debugger-statement at).second (λ d. k.onward.there d last))
    where
      k : KeepsIf e (NotWith e) Any (simple i f stand at) (λ l. simple (j l) f stand at)
      k = either f.has_return (next (a-word (codes "return") refl) (λ t. return-statement f at) (on-more f stand at (s6.plain_statement i f at) (λ l. s6.plain_statement (j l) f at) (plain-statement f at))) (on-more f stand at (s6.plain_statement i f at) (λ l. s6.plain_statement (j l) f at) (plain-statement f at))

      Made : Place → ℕ → Type 0
      Made e last = ((l last : ℕ) → Over Any (s6.debugger_statement (j l) at (none last))) → (NotWith e → Rel e Any (λ l. simple (j l) f stand at (input (one_of e ∷ []) last)) (λ l. simple (j l) f stand at (input (two_of e ∷ []) last)) (simple i f stand at (input (it e ∷ []) last)))
          → Rel e Any (λ l. on (word (codes "debugger")) (λ t. s6.debugger_statement (j l) at) (simple (j l) f stand at) (input (one_of e ∷ []) last)) (λ l. on (word (codes "debugger")) (λ t. s6.debugger_statement (j l) at) (simple (j l) f stand at) (input (two_of e ∷ []) last))
          (on (word (codes "debugger")) (λ t. s6.debugger_statement i at) (simple i f stand at) (input (it e ∷ []) last))

  jump-statement : (f : Flags) (stand : Stand) (at : ℕ) → Keeps e (s6.jump_statement i f stand at) (λ l. s6.jump_statement (j l) f stand at)
  unfolding s6.jump_statement simple
  jump-statement f stand at = next (a-word (codes "continue") refl) (λ t. continue-statement at) (next (a-word (codes "break") refl) (λ t. break-statement at) (next (a-word (codes "throw") refl) (λ t. throw-statement f at) (debugging f stand at)))

  compound-statement : (f : Flags) (stand : Stand) (at : ℕ) → Keeps e (s6.compound_statement i f stand at) (λ l. s6.compound_statement (j l) f stand at)
  unfolding s6.compound_statement
  compound-statement f stand at = next (a-word (codes "do") refl) (λ t. do-statement f at) (next (a-word (codes "while") refl) (λ t. while-statement f at) (next (a-word (codes "for") refl) (λ t. for-statement f at) (next (a-word (codes "switch") refl) (λ t. switch-statement f at) (next (a-word (codes "try") refl) (λ t. try-statement f at) (jump-statement f stand at)))))

  block-statement : (f : Flags) → Keeps e (s6.block_statement i f) (λ l. s6.block_statement (j l) f)
  unfolding s6.block_statement
  block-statement f = bind (block h f) λ b. done λ a b n. refl

  pub statement : (f : Flags) (stand : Stand) → Keeps e (s6.statement i f stand) (λ l. s6.statement (j l) f stand)
  unfolding s6.statement
  statement f stand = begins (modules'.statement_from i f stand) (λ l. modules'.statement_from (j l) f stand) (λ at. looks (u-mark marks.LeftBrace refl) (block-statement f) (looks (u-word (codes "if") refl) (if-statement f at) (next (a-mark marks.Semicolon refl) (λ t. done λ a b n. refl) (next (a-word (codes "var") refl) (λ t. variables-statement f at Var) (compound-statement f stand at)))))
