-- Statements, imports, exports and modules can be completed wherever their readers stop.
use Rattle.std.specs.Prelude.{codes, is_some}
use Rattle.std.proofs.Common.{◌≡◌, ℕ, suc, Bool, true, false, ◌||◌, List, [], ◌∷◌, ◌++◌, length, Option, Some, None, refl, ap, subst, inl, inr}
use Rattle.es_text.specs.declared.Span.{Span}
use Rattle.es6_lexer.specs.declared.token.TokenKind.{TokenKind}
use Rattle.es6_lexer.specs.declared.token.TokenKind.TheVariants.{Word, Punctuator, Text, End}
use Rattle.es6_lexer.specs.declared.token.Punctuator.TheVariants as marks
use Rattle.es6_ast.specs.declared.module.ExportName.{ExportName}
use Rattle.es6_ast.specs.declared.module.ImportedNames.{ImportedNames}
use Rattle.es6_ast.specs.declared.module.Item.{Item}
use Rattle.es6_ast.specs.declared.operators.AssignOperator.TheVariants as assign
use Rattle.es6_ast.specs.declared.operators.VariableKind.{VariableKind}
use Rattle.es6_ast.specs.declared.operators.VariableKind.TheVariants.{Var}
use Rattle.es6_ast.specs.declared.settings.Flags.{Flags}
use Rattle.es6_ast.specs.declared.settings.Stand.{Stand}
use Rattle.es6_ast.specs.declared.settings.Stop.TheVariants.{Outside}
use Rattle.es6_ast.specs.declared.settings.Stand.TheVariants.{Listed, Under, Labelled}
use Rattle.es6_ast.specs.declared.tree.Block.{Block}
use Rattle.es6_ast.specs.declared.tree.Catch.{Catch}
use Rattle.es6_ast.specs.declared.tree.Expression.{Expression}
use Rattle.es6_ast.specs.declared.tree.ForFirst.{ForFirst}
use Rattle.es6_ast.specs.declared.tree.ForTarget.{ForTarget}
use Rattle.es6_ast.specs.declared.tree.ForTarget.TheVariants.{Assigned}
use Rattle.es6_ast.specs.declared.tree.Identifier.{Identifier}
use Rattle.es6_ast.specs.declared.tree.Part.{Part}
use Rattle.es6_ast.specs.declared.tree.Pattern.{Pattern, out-Pattern}
use Rattle.es6_ast.specs.declared.tree.Statement.{Statement}
use Rattle.es6_ast.specs.Grammar.{with_in, without_in, of_module, level_sequence, IsExpression}
use Rattle.es6_ast.specs.Tokens.{Filled, is_identifier}
use Rattle.es6_reading.specs.Parser.{Input, Outcome, Took, Parser, Reading, ◌>>=◌, on, choose, if_next, fails, mark, word, next_word, next_is, is_left, Inner}
use Rattle.es6_reading.specs.Refine.{Refined, Fits, Misfit, TooNested, target_before}
use Rattle.es6_reading.specs.Words.{text_at}
use Rattle.es6_reading.specs.Statements as s6
use Rattle.es6_reading.specs.Modules as m6
use Rattle.es6_reading.specs.Expressions as e6
use Rattle.es6_reading.proofs.FollowStatements as statements'
use Rattle.es6_reading.proofs.FollowModules as modules'
use Rattle.es6_reading.proofs.Derived.{ReadWhole, Sound}
use Rattle.es6_reading.proofs.Locality.{Turns, over, turn, Deeper, as_before, nested_less, deeper}
use Rattle.es6_reading.proofs.Posts.{Holds, of_took, Misses}
use Rattle.es6_reading.proofs.RefineMore.{kept-before}
use Rattle.es6_reading_laws.proofs.es6_viability.Viable.{Limit, goes-within, bind-by, allowed-before, put, Head, head, Any, Goes, Begins, Viable, Partly, Onward, used_up, past, done, rests, stops, nowhere, bind, bind-if, bind-half, fresh-bind, may, must, fresh-may, half-on, take, half-either, looks-no, looks-yes, half-looks, fresh-yes, begins, half-group, group-must, group-must-in, endless, weaken, head-place, on-head, finished, fresh-choice-yes}
use Rattle.es6_reading_laws.proofs.es6_viability.Completions.{x_, Free, Closer, HasDefault, Better, inside, into, opened, Behind, behind_while, behind_end, no-comma, no-else, no-finally}
use Rattle.es6_reading_laws.proofs.es6_viability.Parts.{closing, brace-behind, semicolon-closes, colon-closes, identifier, any-name, take-mark, take-word, semicolon_, do-while-end, with-default, block, named-function, function, class}
use Rattle.es6_reading_laws.proofs.es6_viability.Expressions.{assignment, sequence, never-misfit, unsettled}
use Rattle.es6_reading_laws.proofs.es6_viability.Nesting.{deep-has-tokens}

while-behind : {A : Type 0} (y : A) (us : List Filled) → Head (Word (codes "while")) us → Behind us
while-behind y us head = behind_while

-- ## Variables

module _ {lim : Limit} (one one' : Parser Part) (k : (s : Input) → Viable lim (λ y us. Closer false us) HasDefault (λ us. Head x_ us) one one' s) where
  one-variable : (s : Input) → Viable lim (λ y us. Closer false us) Any (λ us. Head x_ us) (s6.one_variable one) (s6.one_variable one') s
  unfolding s6.one_variable
  one-variable s = bind-if _ _ (k s) (λ q c. half-either (s6.is_whole q) _ _ _ _ c rests (nowhere c)) (λ q last ok. fresh-choice-yes (s6.is_whole q) (whole q ok) _ _ last finished) (λ y us ok z. z)
    where
      whole : (q : Part) → HasDefault q → s6.is_whole q ≡ true
      whole q ok = ap (λ b. b || s6.is_name_in (out-Pattern q.pattern)) ok

  variables : {l n m : ℕ} (w : Turns (suc l) n m) (s : Input) → Viable lim (λ y us. Closer false us) Any (λ us. Head x_ us) (s6.variables one n) (s6.variables one' m) s
  unfolding s6.variables
  variables over s = endless (fresh-bind _ (λ q last u. fresh-may (mark marks.Comma) _ _ last finished no-comma) (λ y us u z. z) (one-variable s).fresh)
  variables (turn w) s = bind _ _ (one-variable s) (λ q c. may _ _ _ _ _ c (λ t d. past (bind _ _ (variables w d) (λ qs m. done) (λ y us t. t))) done no-comma) (λ y us t. t)

label : {lim : Limit} (s : Input) → Viable lim (λ y us. Head (Punctuator marks.Semicolon) us) Any (λ us. Head (Punctuator marks.Semicolon) us) s6.optional_label s6.optional_label s
unfolding s6.optional_label
label s = begins statements'.label_from statements'.label_from s head-place (λ place. may _ _ _ _ _ s (λ name c. past done) done (on-head _ (λ span us. refl)))

-- ## Parts of imports and exports

specifier : {lim : Limit} (s : Input) → Viable lim Free Any (λ us. Head (Text []) us) m6.specifier m6.specifier s
unfolding m6.specifier
specifier s = begins modules'.specifier_from modules'.specifier_from s head-place (λ place. bind _ _ (take {F = Free} text_at (Text []) (λ span. []) (λ span. refl) s) (λ x c. done) (λ y us t. tt))

one-import : {lim : Limit} (s : Input) → Viable lim Free Any (λ us. Head x_ us) m6.one_import m6.one_import s
unfolding m6.one_import
one-import s = begins modules'.import_from modules'.import_from s head-place (λ place. bind _ _ (any-name s) (λ n c. must (word (codes "as")) (Word (codes "as")) (put (Word (codes "as"))) (λ span. refl) _ _ _ _ c (λ t d. bind _ _ (identifier d) (λ m k. done) (λ y us t. tt)) (half-either (is_identifier n.name) _ _ _ _ c rests (nowhere c))) (λ y us t. tt))

one-export : {lim : Limit} (s : Input) → Viable lim Free Any (λ us. Head x_ us) m6.one_export m6.one_export s
unfolding m6.one_export
one-export s = begins modules'.export_from modules'.export_from s head-place (λ place. bind _ _ (any-name s) (λ n c. must (word (codes "as")) (Word (codes "as")) (put (Word (codes "as"))) (λ span. refl) _ _ _ _ c (λ t d. bind _ _ (any-name d) (λ m k. done) (λ y us t. tt)) rests) (λ y us t. tt))

namespace : {lim : Limit} (s : Input) → Viable lim Free Any (λ us. Head (Word (codes "as")) us) m6.namespace m6.namespace s
unfolding m6.namespace
namespace s = bind _ _ (take-word {F = Free} (codes "as") (λ span. refl) s) (λ t c. bind _ _ (identifier c) (λ n d. done) (λ y us t. tt)) (λ y us t. tt)

module _ {l : ℕ} where
  imports : {lim : Limit} {n m : ℕ} (w : Turns (suc l) n m) (s : Input) → Viable lim Free Any (λ us. Head (Punctuator marks.RightBrace) us) (m6.imports n) (m6.imports m) s
  unfolding m6.imports
  imports over s = endless (λ n. record { more = Punctuator marks.RightBrace ∷ []; value = []; last = suc n; ok = tt; reads = λ us h a. refl; starts = λ us h. head })
  imports (turn w) s = must (mark marks.RightBrace) (Punctuator marks.RightBrace) (put (Punctuator marks.RightBrace)) (λ span. refl) _ _ _ _ s (λ t c. done)
      (bind-half _ _ (one-import s).half (λ x c. may _ _ _ _ _ c (λ t d. past (bind _ _ (imports w d) (λ y k. done) (λ y us t. tt))) (bind _ _ (take-mark {F = Free} marks.RightBrace (λ span. refl) c) (λ t d. done) (λ y us t. tt)) (on-head _ (λ span us. refl))) (λ y us t. tt))

  exports : {lim : Limit} {n m : ℕ} (w : Turns (suc l) n m) (s : Input) → Viable lim Free Any (λ us. Head (Punctuator marks.RightBrace) us) (m6.exports n) (m6.exports m) s
  unfolding m6.exports
  exports over s = endless (λ n. record { more = Punctuator marks.RightBrace ∷ []; value = []; last = suc n; ok = tt; reads = λ us h a. refl; starts = λ us h. head })
  exports (turn w) s = must (mark marks.RightBrace) (Punctuator marks.RightBrace) (put (Punctuator marks.RightBrace)) (λ span. refl) _ _ _ _ s (λ t c. done)
      (bind-half _ _ (one-export s).half (λ x c. may _ _ _ _ _ c (λ t d. past (bind _ _ (exports w d) (λ y k. done) (λ y us t. tt))) (bind _ _ (take-mark {F = Free} marks.RightBrace (λ span. refl) c) (λ t d. done) (λ y us t. tt)) (on-head _ (λ span us. refl))) (λ y us t. tt))

-- what follows a first variable that is whole
abbrev more_first : Inner → Flags → ℕ → VariableKind → Part → Parser s6.Header
more_first i f at kind q = on (mark marks.Comma) (λ _. ◌>>=◌ (s6.variables (i.variable (without_in f)) i.fuel) (λ qs. s6.first_variables i f at kind (q ∷ qs))) (s6.first_variables i f at kind (q ∷ []))

module _ {lim : Limit} {l : ℕ} (i j : Inner) (h : Better lim l i j) where
  variables-statement : (f : Flags) (at : ℕ) (kind : VariableKind) (s : Input) → Viable lim Free Any (λ us. Head x_ us) (s6.variables_statement i f at kind) (s6.variables_statement j f at kind) s
  unfolding s6.variables_statement
  variables-statement f at kind s = bind _ _ (variables _ _ (λ c. with-default i j h f f c) h.turns s) (λ qs c. bind _ _ (semicolon_ i j h.mode c) (λ t d. done) (λ y us t. tt)) semicolon-closes

  parenthesized : (f : Flags) (s : Input) → Viable lim Free Any (λ us. Head (Punctuator marks.LeftParenthesis) us) (s6.parenthesized i f) (s6.parenthesized j f) s
  unfolding s6.parenthesized
  parenthesized f s = group-must i j h.opens marks.LeftParenthesis (λ span. refl) _ _ _ _ s (λ c. bind _ _ (h.sequence (with_in f) c) (λ x d. bind _ _ (take-mark {F = Free} marks.RightParenthesis (λ span. refl) d) (λ t k. done) (λ y us t. tt)) closing) (nowhere s)

  condition : (f : Flags) (s : Input) → Viable lim (λ y us. Behind us) Any (λ us. Head (Word (codes "if")) us) (s6.condition i f) (s6.condition j f) s
  unfolding s6.condition
  condition f s = begins (statements'.condition_from i f) (statements'.condition_from j f) s head-place (λ place. bind _ _ (take-word {F = Free} (codes "if") (λ span. refl) s) (λ t c. bind _ _ (parenthesized f c) (λ x d. bind _ _ (h.statement f Under d) (λ y k. done) (λ y us t. t)) (λ y us t. tt)) (λ y us t. tt))

  otherwise : (f : Flags) {n m : ℕ} (w : Turns (suc l) n m) (s : Input) → Viable lim (λ y us. Behind us) Any (λ us. Behind us) (s6.otherwise i f n) (s6.otherwise j f m) s
  unfolding s6.otherwise
  otherwise f over s = endless (fresh-may (word (codes "else")) _ _ s.last finished no-else)
  otherwise f (turn w) s = may _ _ _ _ _ s (λ t c. past (looks-no _ _ _ _ _ c (bind-half _ _ (condition f c).half (λ x d. bind _ _ (otherwise f w d) (λ r k. done) (λ y us t. t)) (λ y us t. t)) (bind _ _ (h.statement f Under c) (λ x d. done) (λ y us t. t)) (on-head _ (λ span us. refl)))) done no-else

  if-statement : (f : Flags) (at : ℕ) (s : Input) → Viable lim (λ y us. Behind us) Any (λ us. Head (Word (codes "if")) us) (s6.if_statement i f at) (s6.if_statement j f at) s
  unfolding s6.if_statement
  if-statement f at s = bind _ _ (condition f s) (λ x c. bind _ _ (otherwise f h.turns c) (λ r d. done) (λ y us t. t)) (λ y us t. t)

  do-statement : (f : Flags) (at : ℕ) (s : Input) → Viable lim Free Any (λ us. Head (Punctuator marks.Semicolon) us) (s6.do_statement i f at) (s6.do_statement j f at) s
  unfolding s6.do_statement
  do-statement f at s = bind _ _ (h.statement f Under s) (λ x c. bind _ _ (take-word {F = Free} (codes "while") (λ span. refl) c) (λ t d. bind _ _ (parenthesized f d) (λ y k. bind _ _ (do-while-end i j h.mode k) (λ u m. done) (λ y us t. tt)) (λ y us t. tt)) (λ y us t. tt)) while-behind

  while-statement : (f : Flags) (at : ℕ) (s : Input) → Viable lim (λ y us. Behind us) Any (λ us. Head (Punctuator marks.LeftParenthesis) us) (s6.while_statement i f at) (s6.while_statement j f at) s
  unfolding s6.while_statement
  while-statement f at s = bind _ _ (parenthesized f s) (λ x c. bind _ _ (h.statement f Under c) (λ y d. done) (λ y us t. t)) (λ y us t. tt)

  optional : (f : Flags) (end : Filled → Option Filled) (k : TokenKind) (t : Span → Filled) → ((span : Span) → end (put k span) ≡ Some (t span)) → ((us : List Filled) → Head k us → Closer false us) → (s : Input) → Viable lim Free Any (λ us. Head k us) (s6.optional i f end) (s6.optional j f end) s
  unfolding s6.optional
  optional f end k t e closes s = must end k t e _ _ _ _ s (λ t c. done) (bind-half _ _ (h.sequence (with_in f) s).half (λ x c. bind _ _ (take {F = Free} end k t e c) (λ t d. done) (λ y us t. tt)) (λ y us z. closes us z))

  rest-of-for : (f : Flags) (first : ForFirst) (s : Input) → Viable lim Free Any (λ us. Head (Punctuator marks.Semicolon) us) (s6.rest_of_for i f first) (s6.rest_of_for j f first) s
  unfolding s6.rest_of_for
  rest-of-for f first s = bind _ _ (optional f _ (Punctuator marks.Semicolon) (put (Punctuator marks.Semicolon)) (λ span. refl) (λ us k. semicolon-closes (tt {0}) us k) s) (λ x c. bind _ _ (optional f _ (Punctuator marks.RightParenthesis) (put (Punctuator marks.RightParenthesis)) (λ span. refl) (λ us k. closing (tt {0}) us k) c) (λ y d. done) (λ y us t. tt)) (λ y us t. tt)

  rest-of-of : (f : Flags) (target : ForTarget) (s : Input) → Viable lim Free Any (λ us. Head x_ us) (s6.rest_of_of i f target) (s6.rest_of_of j f target) s
  unfolding s6.rest_of_of
  rest-of-of f target s = bind _ _ (h.assignment (with_in f) s) (λ x c. bind _ _ (take-mark {F = Free} marks.RightParenthesis (λ span. refl) c) (λ t d. done) (λ y us t. tt)) closing

  first-variables : (f : Flags) (at : ℕ) (kind : VariableKind) (qs : List Part) (s : Input) → Viable lim Free Any (λ us. Head (Punctuator marks.Semicolon) us) (s6.first_variables i f at kind qs) (s6.first_variables j f at kind qs) s
  unfolding s6.first_variables
  first-variables f at kind qs s = bind _ _ (take-mark {F = Free} marks.Semicolon (λ span. refl) s) (λ t c. rest-of-for f _ c) (λ y us t. tt)

  whole-first : (f : Flags) (at : ℕ) (kind : VariableKind) (q : Part) (s : Input) → Viable (inside lim i.may_open) Free Any (λ us. Head (Punctuator marks.Semicolon) us) (more_first i f at kind q) (more_first j f at kind q) s
  whole-first f at kind q s = may _ _ _ _ _ s (λ t c. past (bind _ _ (variables _ _ (λ d. h.variable (without_in f) d) h.turns c) (λ qs d. into (first-variables f at kind _ d)) semicolon-closes)) (into (first-variables f at kind _ s)) (on-head _ (λ span us. refl))

  after-first : (f : Flags) (at : ℕ) (kind : VariableKind) (q : Part) (s : Input) → Partly (inside lim i.may_open) Free Any (s6.after_first_variable i f at kind q) (s6.after_first_variable j f at kind q) s
  unfolding s6.after_first_variable
  after-first f at kind q s = half-either (s6.is_whole q) _ _ _ _ s (whole-first f at kind q s).half (nowhere s)

  after-first-fresh : (f : Flags) (at : ℕ) (kind : VariableKind) (q : Part) (last : ℕ) → s6.is_whole q ≡ true → Begins Free Any (λ us. Head (Punctuator marks.Semicolon) us) (s6.after_first_variable j f at kind q) last
  unfolding s6.after_first_variable
  after-first-fresh f at kind q last e = fresh-choice-yes (s6.is_whole q) e _ _ last (whole-first f at kind q (record { tokens = []; last = last })).fresh

  after-bare : (f : Flags) (at : ℕ) (kind : VariableKind) (q : Part) (s : Input) → Partly (inside lim i.may_open) Free Any (s6.after_bare_variable i f at kind q) (s6.after_bare_variable j f at kind q) s
  unfolding s6.after_bare_variable
  after-bare f at kind q s = half-looks _ _ _ _ _ s (stops (λ e. absurd (cc))) (half-looks _ _ _ _ _ s (bind-half _ _ (take-word {F = Free} (codes "of") (λ span. refl) s).half (λ t c. into (rest-of-of f _ c)) (λ y us t. tt)) (after-first f at kind q s))

  for-variables : (f : Flags) (at : ℕ) (kind : VariableKind) (s : Input) → Viable (inside lim i.may_open) Free Any (λ us. Head x_ us) (s6.for_variables i f at kind) (s6.for_variables j f at kind) s
  unfolding s6.for_variables
  for-variables f at kind s = bind-if _ _ (h.variable (without_in f) s) (λ q c. half-either (is_some q.default) _ _ _ _ c (after-first f at kind q c) (after-bare f at kind q c))
      (λ q last ok. fresh-choice-yes (is_some q.default) ok _ _ last (after-first-fresh f at kind q last (ap (λ b. b || s6.is_name_in (out-Pattern q.pattern)) ok))) (λ y us ok z. semicolon-closes y us z)

  first-expression : (f : Flags) (x : Expression) (s : Input) → Viable lim Free Any (λ us. Head (Punctuator marks.Semicolon) us) (s6.first_expression i f x) (s6.first_expression j f x) s
  unfolding s6.first_expression
  first-expression f x s = bind _ _ (take-mark {F = Free} marks.Semicolon (λ span. refl) s) (λ t c. rest-of-for f _ c) (λ y us t. tt)

  assigned-by : (f : Flags) (x : Reading) {r r' : Refined Pattern} → Deeper (suc l) r r' → is_left x.shape ≡ true → target_before i.fuel assign.Assign x.value ≡ r → (s : Input) → Onward (unsettled lim i.fuel x) Free Any (◌>>=◌ (e6.fitting r) (λ q. s6.rest_of_of i f (Assigned q))) (◌>>=◌ (e6.fitting r') (λ q. s6.rest_of_of j f (Assigned q))) s
  assigned-by f x {r = Fits q} as_before left k s = past (goes-within (λ n a. inl a) (λ z. z) (rest-of-of f _ s))
  assigned-by f x {r = Misfit place} as_before left k s = absurd (never-misfit i.fuel assign.Assign x.value place k)
  assigned-by f x {r = TooNested} as_before left k s = used_up (inr (left, (assign.Assign, k)))
  assigned-by f x (nested_less m) left k s = used_up (inr (left, (assign.Assign, k)))

  assigned-in-turn : (f : Flags) (x : Reading) → is_left x.shape ≡ true → (s : Input) → Onward (unsettled lim i.fuel x) Free Any (s6.assigned_in_turn i f x.value) (s6.assigned_in_turn j f x.value) s
  unfolding s6.assigned_in_turn
  assigned-in-turn f x left s = assigned-by f x (deeper (λ n. target_before n assign.Assign x.value) (λ k more. kept-before k more assign.Assign x.value) h.turns) left refl s

  -- what follows an expression that begins a header
  after-expression : (f : Flags) (x : Reading) (v : Bool) → is_left x.shape ≡ v → (s : Input) → Viable (unsettled lim i.fuel x) Free Any (λ us. Head (Punctuator marks.Semicolon) us)
      (choose v (if_next (next_word (codes "in")) (fails (Outside 1)) (on (word (codes "of")) (λ t. s6.assigned_in_turn i f x.value) (s6.first_expression i f x.value))) (s6.first_expression i f x.value))
      (choose v (if_next (next_word (codes "in")) (fails (Outside 1)) (on (word (codes "of")) (λ t. s6.assigned_in_turn j f x.value) (s6.first_expression j f x.value))) (s6.first_expression j f x.value)) s
  after-expression f x true k s = looks-no _ _ _ _ _ s (stops (λ e. absurd (cc))) (may (word (codes "of")) _ _ _ _ s (λ t d. assigned-in-turn f x k d) (goes-within (λ n a. inl a) (λ z. z) (first-expression f _ s)) (on-head _ (λ span us. refl))) (on-head _ (λ span us. refl))
  after-expression f x false k s = goes-within (λ n a. inl a) (λ z. z) (first-expression f _ s)

  given-up : (f : Flags) (s : Input) (x : Reading) (c : Input) (front : List Filled) → i.sequence (without_in f) s ≡ Took x c → s.tokens ≡ front ++ c.tokens → (unsettled lim i.fuel x).allows (length c.tokens) → lim.allows (length s.tokens)
  given-up f s x c front seen k (inl a) = allowed-before lim front c.tokens k a
  given-up f s x c front seen k (inr (left, (op, n))) = h.gives_up (length s.tokens) (λ plain. deep-has-tokens (sequence-left (h.sound plain)) i.fuel op n)
    where
      sequence-left : Sound i → IsExpression (without_in f) level_sequence s.tokens x.value c.tokens
      sequence-left sound = (of_took {Q = λ y d. ReadWhole (without_in f) level_sequence s y d} {x = x} {c = c} (subst (λ o. Holds (λ y d. ReadWhole (without_in f) level_sequence s y d) o) seen (sound.sequence (without_in f) s))).derived

  for-expression : (f : Flags) (s : Input) → Viable lim Free Any (λ us. Head x_ us) (s6.for_expression i f) (s6.for_expression j f) s
  unfolding s6.for_expression
  for-expression f s = bind-by _ _ (h.sequence (without_in f) s) (λ x c seen. (after-expression f x (is_left x.shape) refl c).half) (λ x c front seen k a. given-up f s x c front seen k a) (λ x z. z)
      (λ y last ok. (after-expression f y (is_left y.shape) refl (record { tokens = []; last = last })).fresh) (λ y us ok t. semicolon-closes y us t)

  for-header : (f : Flags) (s : Input) → Viable (inside lim i.may_open) Free Any (λ us. Head (Punctuator marks.Semicolon) us) (s6.for_header i f) (s6.for_header j f) s
  unfolding s6.for_header
  for-header f s = begins (statements'.header_from i f) (statements'.header_from j f) s head-place (λ place. must (mark marks.Semicolon) (Punctuator marks.Semicolon) (put (Punctuator marks.Semicolon)) (λ span. refl) _ _ _ _ s (λ t c. into (rest-of-for f _ c)) (half-on _ _ _ _ _ s (λ kind c. past (for-variables f _ kind c)) (into (for-expression f s)).half))

  for-statement : (f : Flags) (at : ℕ) (s : Input) → Viable lim (λ y us. Behind us) Any (λ us. Head (Punctuator marks.LeftParenthesis) us) (s6.for_statement i f at) (s6.for_statement j f at) s
  unfolding s6.for_statement
  for-statement f at s = bind _ _ (group-must-in i j h.opens (λ n a. a) (opened lim.shallow i.may_open) marks.LeftParenthesis (λ span. refl) _ _ _ _ s (λ c. for-header f c) (nowhere s)) (λ x c. bind _ _ (h.statement f Under c) (λ y d. done) (λ y us t. t)) (λ y us t. tt)

  -- ## Jumps

  continue-statement : (at : ℕ) (s : Input) → Viable lim Free Any (λ us. Head (Punctuator marks.Semicolon) us) (s6.continue_statement i at) (s6.continue_statement j at) s
  unfolding s6.continue_statement
  continue-statement at s = bind _ _ (label s) (λ x c. bind _ _ (semicolon_ i j h.mode c) (λ t d. done) (λ y us t. tt)) (λ y us t. t)

  break-statement : (at : ℕ) (s : Input) → Viable lim Free Any (λ us. Head (Punctuator marks.Semicolon) us) (s6.break_statement i at) (s6.break_statement j at) s
  unfolding s6.break_statement
  break-statement at s = bind _ _ (label s) (λ x c. bind _ _ (semicolon_ i j h.mode c) (λ t d. done) (λ y us t. tt)) (λ y us t. t)

  returned : (f : Flags) (s : Input) → Viable lim (λ y us. Head (Punctuator marks.Semicolon) us) Any (λ us. Head (Punctuator marks.Semicolon) us) (s6.returned i f) (s6.returned j f) s
  unfolding s6.returned
  returned f s = looks-no _ _ _ _ _ s (bind-half _ _ (sequence i j h (with_in f) s).half (λ x c. done) semicolon-closes) done (on-head _ (λ span us. refl))

  return-statement : (f : Flags) (at : ℕ) (s : Input) → Viable lim Free Any (λ us. Head (Punctuator marks.Semicolon) us) (s6.return_statement i f at) (s6.return_statement j f at) s
  unfolding s6.return_statement
  return-statement f at s = bind _ _ (returned f s) (λ x c. bind _ _ (semicolon_ i j h.mode c) (λ t d. done) (λ y us t. tt)) (λ y us t. t)

  throw-statement : (f : Flags) (at : ℕ) (s : Input) → Viable lim Free Any (λ us. Head x_ us) (s6.throw_statement i f at) (s6.throw_statement j f at) s
  unfolding s6.throw_statement
  throw-statement f at s = looks-no _ _ _ _ _ s (nowhere s) (bind _ _ (sequence i j h (with_in f) s) (λ x c. bind _ _ (semicolon_ i j h.mode c) (λ t d. done) (λ y us t. tt)) semicolon-closes) (on-head _ (λ span us. refl))

  -- ## Switch and try

  in-case : (f : Flags) {n m : ℕ} (w : Turns (suc l) n m) (s : Input) → Viable lim (λ y us. Head (Punctuator marks.RightBrace) us) Any (λ us. Head (Punctuator marks.RightBrace) us) (s6.in_case i f n) (s6.in_case j f m) s
  unfolding s6.in_case
  in-case f over s = endless (fresh-yes s6.ends_case _ _ s.last finished (on-head _ (λ span us. refl)))
  in-case f (turn w) s = looks-yes _ _ _ _ _ s done (bind-half _ _ (h.statement f Listed s).half (λ x c. bind _ _ (in-case f w c) (λ y d. done) (λ y us t. t)) brace-behind) (on-head _ (λ span us. refl))

  case-clause : (f : Flags) (at : ℕ) (s : Input) → Viable lim (λ y us. Head (Punctuator marks.RightBrace) us) Any (λ us. Head x_ us) (s6.case_clause i f at) (s6.case_clause j f at) s
  unfolding s6.case_clause
  case-clause f at s = bind _ _ (h.sequence (with_in f) s) (λ x c. bind _ _ (take-mark {F = Free} marks.Colon (λ span. refl) c) (λ t d. bind _ _ (in-case f h.turns d) (λ y k. done) (λ y us t. t)) (λ y us t. tt)) colon-closes

  default-clause : (f : Flags) (at : ℕ) (s : Input) → Viable lim (λ y us. Head (Punctuator marks.RightBrace) us) Any (λ us. Head (Punctuator marks.Colon) us) (s6.default_clause i f at) (s6.default_clause j f at) s
  unfolding s6.default_clause
  default-clause f at s = bind _ _ (take-mark {F = Free} marks.Colon (λ span. refl) s) (λ t c. bind _ _ (in-case f h.turns c) (λ y d. done) (λ y us t. t)) (λ y us t. tt)

  cases : (f : Flags) (may_ : Bool) {n m : ℕ} (w : Turns (suc l) n m) (s : Input) → Viable lim Free Any (λ us. Head (Punctuator marks.RightBrace) us) (s6.cases i f may_ n) (s6.cases j f may_ m) s
  unfolding s6.cases
  cases f may_ over s = endless (λ n. record { more = Punctuator marks.RightBrace ∷ []; value = []; last = suc n; ok = tt; reads = λ us h a. refl; starts = λ us h. head })
  cases f may_ (turn {n = n} {m = m} w) s = begins (statements'.cases_from i f may_ (s6.cases i f may_ n) (s6.cases i f false n)) (statements'.cases_from j f may_ (s6.cases j f may_ m) (s6.cases j f false m)) s head-place (λ place.
      must (mark marks.RightBrace) (Punctuator marks.RightBrace) (put (Punctuator marks.RightBrace)) (λ span. refl) _ _ _ _ s (λ t c. done)
      (half-on _ _ _ _ _ s (λ t c. past (bind _ _ (case-clause f _ c) (λ x d. bind _ _ (cases f may_ w d) (λ y k. done) (λ y us t. tt)) (λ y us t. t)))
      (half-either may_ _ _ _ _ s (half-on _ _ _ _ _ s (λ t c. past (bind _ _ (default-clause f _ c) (λ x d. bind _ _ (cases f false w d) (λ y k. done) (λ y us t. tt)) (λ y us t. t))) (nowhere s)) (nowhere s))))

  switch-statement : (f : Flags) (at : ℕ) (s : Input) → Viable lim Free Any (λ us. Head (Punctuator marks.LeftParenthesis) us) (s6.switch_statement i f at) (s6.switch_statement j f at) s
  unfolding s6.switch_statement
  switch-statement f at s = bind _ _ (parenthesized f s) (λ x c. bind _ _ (group-must i j h.opens marks.LeftBrace (λ span. refl) _ _ _ _ c (λ d. cases f true h.turns d) (nowhere c)) (λ y d. done) (λ y us t. tt)) (λ y us t. tt)

  catch-parameter : (f : Flags) (s : Input) → Viable (inside lim i.may_open) Free Any (λ us. Head x_ us) (s6.catch_parameter i f) (s6.catch_parameter j f) s
  unfolding s6.catch_parameter
  catch-parameter f s = bind _ _ (h.target (with_in f) s) (λ x c. bind _ _ (take-mark {F = Free} marks.RightParenthesis (λ span. refl) c) (λ t d. done) (λ y us t. tt)) (λ y us t. tt)

  handler : (f : Flags) (s : Input) → Viable lim Free Any (λ us. Head (Word (codes "catch")) us) (s6.handler i f) (s6.handler j f) s
  unfolding s6.handler
  handler f s = begins (statements'.handler_from i f) (statements'.handler_from j f) s head-place (λ place. bind _ _ (take-word {F = Free} (codes "catch") (λ span. refl) s) (λ t c. bind _ _ (group-must-in i j h.opens (λ n a. a) (opened lim.shallow i.may_open) marks.LeftParenthesis (λ span. refl) _ _ _ _ c (λ d. catch-parameter f d) (nowhere c)) (λ x d. bind _ _ (block i j h f d) (λ b k. done) (λ y us t. tt)) (λ y us t. tt)) (λ y us t. tt))

  after-handler : (f : Flags) (at : ℕ) (b : Block) (x : Catch) (s : Input) → Viable lim (λ y us. Behind us) Any (λ us. Behind us) (s6.after_handler i f at b x) (s6.after_handler j f at b x) s
  unfolding s6.after_handler
  after-handler f at b x s = may _ _ _ _ _ s (λ t c. past (bind _ _ (block i j h f c) (λ y d. done) (λ y us t. tt))) done no-finally

  only-finally : (f : Flags) (at : ℕ) (b : Block) (s : Input) → Viable lim (λ y us. Behind us) Any (λ us. Head (Word (codes "finally")) us) (s6.only_finally i f at b) (s6.only_finally j f at b) s
  unfolding s6.only_finally
  only-finally f at b s = bind _ _ (take-word {F = Free} (codes "finally") (λ span. refl) s) (λ t c. bind _ _ (block i j h f c) (λ y d. done) (λ y us t. tt)) (λ y us t. tt)

  try-statement : (f : Flags) (at : ℕ) (s : Input) → Viable lim (λ y us. Behind us) Any (λ us. Head (Punctuator marks.LeftBrace) us) (s6.try_statement i f at) (s6.try_statement j f at) s
  unfolding s6.try_statement
  try-statement f at s = bind _ _ (block i j h f s) (λ b c. looks-no _ _ _ _ _ c (bind-half _ _ (handler f c).half (λ x d. after-handler f at b x d) (λ y us t. tt)) (only-finally f at b c) (on-head _ (λ span us. refl))) (λ y us t. tt)

  debugger-statement : (at : ℕ) (s : Input) → Viable lim Free Any (λ us. Head (Punctuator marks.Semicolon) us) (s6.debugger_statement i at) (s6.debugger_statement j at) s
  unfolding s6.debugger_statement
  debugger-statement at s = bind _ _ (semicolon_ i j h.mode s) (λ t c. done) (λ y us t. tt)

  -- ## Expressions, labels and declarations

  -- what follows a statement follows what anything may follow
  behind-free : {S : List Filled → Type 0} {run : List Filled → Outcome Statement} {ts : List Filled} {o : Outcome Statement} → Goes lim Free Any S run ts o → Goes lim (λ y us. Behind us) Any S run ts o
  behind-free g = weaken (λ y ok. tt) (λ y us ok k. tt) g

  expression-end : (at : ℕ) (x : Expression) (s : Input) → Viable lim Free Any (λ us. Head (Punctuator marks.Semicolon) us) (s6.expression_end i at x) (s6.expression_end j at x) s
  unfolding s6.expression_end
  expression-end at x s = bind _ _ (semicolon_ i j h.mode s) (λ t c. done) (λ y us t. tt)

  labelled : (f : Flags) (at : ℕ) (n : Identifier) (s : Input) → Viable lim (λ y us. Behind us) Any (λ us. Head (Punctuator marks.Semicolon) us) (s6.labelled i f at n) (s6.labelled j f at n) s
  unfolding s6.labelled
  labelled f at n s = bind _ _ (h.statement f Labelled s) (λ x c. done) (λ y us t. t)

  label-or-end : (f : Flags) (at : ℕ) (n : Option Identifier) (x : Expression) (s : Input) → Viable lim (λ y us. Behind us) Any (λ us. Head (Punctuator marks.Semicolon) us) (s6.label_or_end i f at n x) (s6.label_or_end j f at n x) s
  label-or-end f at (Some n) x s = may _ _ _ _ _ s (λ t c. past (labelled f at n c)) (behind-free (expression-end at x s)) (on-head _ (λ span us. refl))
  label-or-end f at None x s = behind-free (expression-end at x s)

  expression-statement : (f : Flags) (at : ℕ) (s : Input) → Viable lim (λ y us. Behind us) Any (λ us. Head x_ us) (s6.expression_statement i f at) (s6.expression_statement j f at) s
  unfolding s6.expression_statement
  expression-statement f at s = bind _ _ (sequence i j h f s) (λ x c. label-or-end f at _ _ c) semicolon-closes

  function-declaration : {F : Statement → List Filled → Type 0} (at : ℕ) (s : Input) → Viable lim F Any (λ us. Misses (mark marks.Star) us) (s6.function_declaration i at) (s6.function_declaration j at) s
  unfolding s6.function_declaration
  function-declaration at s = bind _ _ (function i j h false at s) (λ g c. done) (λ y us t. tt)

  class-declaration : {F : Statement → List Filled → Type 0} (f : Flags) (at : ℕ) (s : Input) → Viable lim F Any (λ us. Head x_ us) (s6.class_declaration i f at) (s6.class_declaration j f at) s
  unfolding s6.class_declaration
  class-declaration f at s = bind _ _ (class i j h f false at s) (λ x c. done) (λ y us t. tt)

  free-variables : {F : Statement → List Filled → Type 0} (f : Flags) (at : ℕ) (kind : VariableKind) (s : Input) → Viable lim F Any (λ us. Head x_ us) (s6.variables_statement i f at kind) (s6.variables_statement j f at kind) s
  free-variables f at kind s = weaken (λ y ok. tt) (λ y us ok k. tt) (variables-statement f at kind s)

  on-declaration : {F : Statement → List Filled → Type 0} (f : Flags) (at : ℕ) (q q' : Parser Statement) (s : Input) → Partly lim F Any q q' s → Partly lim F Any (s6.on_declaration i f at q) (s6.on_declaration j f at q') s
  on-declaration f at q q' s k = half-on _ _ _ _ _ s (λ t c. past (function-declaration at c)) (half-on _ _ _ _ _ s (λ t c. past (class-declaration f at c)) (half-on _ _ _ _ _ s (λ kind c. past (free-variables f at kind c)) k))

  labelled-function : {F : Statement → List Filled → Type 0} (at : ℕ) (s : Input) → Viable lim F Any (λ us. Head x_ us) (s6.labelled_function i at) (s6.labelled_function j at) s
  unfolding s6.labelled_function
  labelled-function at s = bind _ _ (named-function i j h at false s) (λ g c. done) (λ y us t. tt)

  on-more : {F : Statement → List Filled → Type 0} (f : Flags) (stand : Stand) (at : ℕ) (q q' : Parser Statement) (s : Input) → Partly lim F Any q q' s → Partly lim F Any (s6.on_more i f stand at q) (s6.on_more j f stand at q') s
  on-more f Listed at q q' s k = on-declaration f at q q' s k
  on-more f Under at q q' s k = k
  on-more f Labelled at q q' s k = half-on _ _ _ _ _ s (λ t c. past (labelled-function at c)) k

  plain-statement : (f : Flags) (at : ℕ) (s : Input) → Partly lim (λ y us. Behind us) Any (s6.plain_statement i f at) (s6.plain_statement j f at) s
  unfolding s6.plain_statement
  plain-statement f at s = half-looks _ _ _ _ _ s (stops (λ e. absurd (cc))) (half-looks _ _ _ _ _ s (stops (λ e. absurd (cc))) (expression-statement f at s).half)

  jump-statement : (f : Flags) (stand : Stand) (at : ℕ) (s : Input) → Partly lim (λ y us. Behind us) Any (s6.jump_statement i f stand at) (s6.jump_statement j f stand at) s
  unfolding s6.jump_statement
  jump-statement f stand at s = half-on _ _ _ _ _ s (λ t c. past (behind-free (continue-statement at c))) (half-on _ _ _ _ _ s (λ t c. past (behind-free (break-statement at c))) (half-on _ _ _ _ _ s (λ t c. past (behind-free (throw-statement f at c))) (half-on _ _ _ _ _ s (λ t c. past (behind-free (debugger-statement at c)))
      (half-either f.has_return _ _ _ _ s (half-on _ _ _ _ _ s (λ t c. past (behind-free (return-statement f at c))) (on-more f stand at _ _ s (plain-statement f at s))) (on-more f stand at _ _ s (plain-statement f at s))))))

  compound-statement : (f : Flags) (stand : Stand) (at : ℕ) (s : Input) → Partly lim (λ y us. Behind us) Any (s6.compound_statement i f stand at) (s6.compound_statement j f stand at) s
  unfolding s6.compound_statement
  compound-statement f stand at s = half-on _ _ _ _ _ s (λ t c. past (behind-free (do-statement f at c))) (half-on _ _ _ _ _ s (λ t c. past (while-statement f at c)) (half-on _ _ _ _ _ s (λ t c. past (for-statement f at c))
      (half-on _ _ _ _ _ s (λ t c. past (behind-free (switch-statement f at c))) (half-on _ _ _ _ _ s (λ t c. past (try-statement f at c)) (jump-statement f stand at s)))))

  block-statement : (f : Flags) (s : Input) → Viable lim Free Any (λ us. Head (Punctuator marks.LeftBrace) us) (s6.block_statement i f) (s6.block_statement j f) s
  unfolding s6.block_statement
  block-statement f s = bind _ _ (block i j h f s) (λ b c. done) (λ y us t. tt)

  pub statement : (f : Flags) (stand : Stand) (s : Input) → Viable lim (λ y us. Behind us) Any (λ us. Head (Punctuator marks.Semicolon) us) (s6.statement i f stand) (s6.statement j f stand) s
  unfolding s6.statement
  statement f stand s = begins (modules'.statement_from i f stand) (modules'.statement_from j f stand) s head-place (λ place. looks-no _ _ _ _ _ s (behind-free (block-statement f s)).half
      (looks-no _ _ _ _ _ s (if-statement f _ s).half (must (mark marks.Semicolon) (Punctuator marks.Semicolon) (put (Punctuator marks.Semicolon)) (λ span. refl) _ _ _ _ s (λ t c. done) (half-on _ _ _ _ _ s (λ t c. past (free-variables f _ Var c)) (compound-statement f stand _ s))) (on-head _ (λ span us. refl))) (on-head _ (λ span us. refl)))

  -- ## Imports and exports

  from-clause : (s : Input) → Viable lim Free Any (λ us. Head (Word (codes "from")) us) (m6.from_clause i) (m6.from_clause j) s
  unfolding m6.from_clause
  from-clause s = bind _ _ (take-word {F = Free} (codes "from") (λ span. refl) s) (λ t c. bind _ _ (specifier c) (λ x d. bind _ _ (semicolon_ i j h.mode d) (λ u k. done) (λ y us t. tt)) (λ y us t. tt)) (λ y us t. tt)

  imported-names : (s : Input) → Viable lim Free Any (λ us. Head (Punctuator marks.Star) us) (m6.imported_names i) (m6.imported_names j) s
  unfolding m6.imported_names
  imported-names s = must (mark marks.Star) (Punctuator marks.Star) (put (Punctuator marks.Star)) (λ span. refl) _ _ _ _ s (λ t c. namespace c) (half-group i j h.opens marks.LeftBrace _ _ _ _ s (λ c. bind _ _ (imports h.turns c) (λ x d. done) (λ y us t. tt)) (nowhere s))

  rest-of-import : (at : ℕ) (n : Option Identifier) (names : ImportedNames) (s : Input) → Viable lim Free Any (λ us. Head (Word (codes "from")) us) (m6.rest_of_import i at n names) (m6.rest_of_import j at n names) s
  unfolding m6.rest_of_import
  rest-of-import at n names s = bind _ _ (from-clause s) (λ x c. done) (λ y us t. tt)

  default-import : (at : ℕ) (s : Input) → Viable lim Free Any (λ us. Head x_ us) (m6.default_import i at) (m6.default_import j at) s
  unfolding m6.default_import
  default-import at s = bind _ _ (identifier s) (λ n c. may _ _ _ _ _ c (λ t d. past (bind _ _ (imported-names d) (λ x k. rest-of-import at _ x k) (λ y us t. tt))) (rest-of-import at _ _ c) (on-head _ (λ span us. refl))) (λ y us t. tt)

  import-alone : (at : ℕ) (s : Input) → Viable lim Free Any (λ us. Head (Text []) us) (m6.import_alone i at) (m6.import_alone j at) s
  unfolding m6.import_alone
  import-alone at s = bind _ _ (specifier s) (λ x c. bind _ _ (semicolon_ i j h.mode c) (λ t d. done) (λ y us t. tt)) (λ y us t. tt)

  import-item : (at : ℕ) (s : Input) → Viable lim Free Any (λ us. Head (Text []) us) (m6.import_item i at) (m6.import_item j at) s
  unfolding m6.import_item
  import-item at s = looks-yes _ _ _ _ _ s (import-alone at s) (half-looks _ _ _ _ _ s (bind-half _ _ (imported-names s).half (λ x c. rest-of-import at _ x c) (λ y us t. tt)) (default-import at s).half) (on-head _ (λ span us. refl))

  own-names : (at : ℕ) (ns : List ExportName) (s : Input) → Partly lim Free Any (m6.own_names i at ns) (m6.own_names j at ns) s
  unfolding m6.own_names
  own-names at ns s = half-either (m6.are_own ns) _ _ _ _ s (bind-half _ _ (semicolon_ i j h.mode s).half (λ t c. done) (λ y us t. tt)) (nowhere s)

  export-names : (at : ℕ) (s : Input) → Viable lim Free Any (λ us. Head (Punctuator marks.LeftBrace) us) (m6.export_names i at) (m6.export_names j at) s
  unfolding m6.export_names
  export-names at s = bind _ _ (group-must i j h.opens marks.LeftBrace (λ span. refl) _ _ _ _ s (λ c. exports h.turns c) (nowhere s)) (λ ns c. looks-yes _ _ _ _ _ c (bind _ _ (from-clause c) (λ x d. done) (λ y us t. tt)) (own-names at ns c) (on-head _ (λ span us. refl))) (λ y us t. tt)

  export-all : (at : ℕ) (s : Input) → Viable lim Free Any (λ us. Head (Word (codes "from")) us) (m6.export_all i at) (m6.export_all j at) s
  unfolding m6.export_all
  export-all at s = bind _ _ (from-clause s) (λ x c. done) (λ y us t. tt)

  default-value : (at : ℕ) (span : Span) (s : Input) → Viable lim Free Any (λ us. Head x_ us) (m6.default_value i at span) (m6.default_value j at span) s
  unfolding m6.default_value
  default-value at span s = bind _ _ (assignment i j h of_module s) (λ x c. bind _ _ (semicolon_ i j h.mode c) (λ t d. done) (λ y us t. tt)) semicolon-closes

  export-default : (at : ℕ) (span : Span) (s : Input) → Viable lim Free Any (λ us. Head x_ us) (m6.export_default i at span) (m6.export_default j at span) s
  unfolding m6.export_default
  export-default at span s = begins (modules'.default_from i at span) (modules'.default_from j at span) s head-place (λ place. may _ _ _ _ _ s (λ t c. past (bind _ _ (function i j h true _ c) (λ g d. done) (λ y us t. tt))) (may _ _ _ _ _ s (λ t c. past (bind _ _ (class i j h of_module true _ c) (λ x d. done) (λ y us t. tt))) (default-value at span s) (on-head _ (λ span us. refl))) (on-head _ (λ span us. refl)))

  exported-declaration : (s : Input) → Viable lim Free Any (λ us. Head (Word (codes "var")) us) (m6.exported_declaration i) (m6.exported_declaration j) s
  unfolding m6.exported_declaration
  exported-declaration s = begins (modules'.declaration_from i) (modules'.declaration_from j) s head-place (λ place. must (word (codes "var")) (Word (codes "var")) (put (Word (codes "var"))) (λ span. refl) _ _ _ _ s (λ t c. variables-statement of_module _ Var c) (on-declaration of_module _ _ _ s (nowhere s)))

  export-declaration : (at : ℕ) (s : Input) → Viable lim Free Any (λ us. Head (Word (codes "var")) us) (m6.export_declaration i at) (m6.export_declaration j at) s
  unfolding m6.export_declaration
  export-declaration at s = bind _ _ (exported-declaration s) (λ x c. done) (λ y us t. tt)

  export-item : (at : ℕ) (s : Input) → Viable lim Free Any (λ us. Head (Punctuator marks.Star) us) (m6.export_item i at) (m6.export_item j at) s
  unfolding m6.export_item
  export-item at s = must (mark marks.Star) (Punctuator marks.Star) (put (Punctuator marks.Star)) (λ span. refl) _ _ _ _ s (λ t c. export-all at c) (half-on _ _ _ _ _ s (λ t c. past (export-default at _ c)) (half-looks _ _ _ _ _ s (export-names at s).half (export-declaration at s).half))

  statement-item : (s : Input) → Viable lim (λ y us. Behind us) Any (λ us. Head (Punctuator marks.Semicolon) us) (m6.statement_item i) (m6.statement_item j) s
  unfolding m6.statement_item
  statement-item s = bind _ _ (statement of_module Listed s) (λ x c. done) (λ y us t. t)

  item-free : {S : List Filled → Type 0} {run : List Filled → Outcome Item} {ts : List Filled} {o : Outcome Item} → Goes lim Free Any S run ts o → Goes lim (λ y us. Behind us) Any S run ts o
  item-free g = weaken (λ y ok. tt) (λ y us ok k. tt) g

  one-item : (s : Input) → Viable lim (λ y us. Behind us) Any (λ us. Head (Punctuator marks.Semicolon) us) (m6.one_item i) (m6.one_item j) s
  unfolding m6.one_item
  one-item s = begins (modules'.item_from i) (modules'.item_from j) s head-place (λ place. may _ _ _ _ _ s (λ t c. past (item-free (import-item _ c))) (may _ _ _ _ _ s (λ t c. past (item-free (export-item _ c))) (statement-item s) (on-head _ (λ span us. refl))) (on-head _ (λ span us. refl)))

  items : {n m : ℕ} (w : Turns (suc l) n m) (s : Input) → Viable lim (λ y us. Head End us) Any (λ us. Head End us) (m6.items i n) (m6.items j m) s
  unfolding m6.items
  items over s = endless (fresh-yes m6.is_end _ _ s.last finished (on-head _ (λ span us. refl)))
  items (turn w) s = looks-yes _ _ _ _ _ s done (bind-half _ _ (one-item s).half (λ x c. bind _ _ (items w c) (λ y d. done) (λ y us t. t)) end-behind) (on-head _ (λ span us. refl))
    where
      end-behind : (y : Item) (us : List Filled) → Head End us → Behind us
      end-behind y us head = behind_end

  -- the text ends there
  pub whole-module : (s : Input) → Viable lim (λ y us. us ≡ []) Any (λ us. Head End us) (m6.whole_module i) (m6.whole_module j) s
  unfolding m6.whole_module
  whole-module s = bind _ _ (items h.turns s) (λ xs c. bind _ _ (take {F = λ t us. us ≡ []} m6.end_at End (put End) (λ span. refl) c) (λ t d. looks-no _ _ _ _ _ d (nowhere d) done (λ us e. ap (λ vs. next_is (λ t. true) vs) e)) (λ y us t. t)) (λ y us t. t)
