-- How many constructs are open where a reader of statements stops.
use Rattle.std.proofs.Common.{◌≡◌, ◌∙◌, ℕ, ◌+◌, Bool, true, false, List, Option, Some, None, ap, sym, refl, subst, arith}
use Rattle.std.specs.Prelude.{codes, is_some}
use Rattle.es_text.specs.declared.Span.{Span}
use Rattle.es6_lexer.specs.declared.token.Punctuator.TheVariants as marks
use Rattle.es6_ast.specs.declared.operators.AssignOperator.TheVariants as assign
use Rattle.es6_ast.specs.declared.operators.VariableKind.{VariableKind}
use Rattle.es6_ast.specs.declared.operators.VariableKind.TheVariants.{Var}
use Rattle.es6_ast.specs.declared.tree.Block.{Block}
use Rattle.es6_ast.specs.declared.tree.Catch.{Catch}
use Rattle.es6_ast.specs.declared.tree.Argument.TheOpen as layer
use Rattle.es6_ast.specs.declared.tree.Argument.TheOpen.{Expression-F}
use Rattle.es6_ast.specs.declared.tree.Expression.{Expression, out-Expression}
use Rattle.es6_ast.specs.declared.tree.Expression.TheVariants as expr
use Rattle.es6_ast.specs.declared.settings.Shape.{Shape}
use Rattle.es6_ast.specs.declared.settings.Shape.TheVariants.{Bare}
use Rattle.es6_ast.specs.Spans.{Open}
use Rattle.es6_ast.specs.declared.tree.ForFirst.{ForFirst}
use Rattle.es6_ast.specs.declared.tree.ForTarget.{ForTarget}
use Rattle.es6_ast.specs.declared.tree.Identifier.{Identifier}
use Rattle.es6_ast.specs.declared.tree.Part.{Part, roll-out-Part}
use Rattle.es6_ast.specs.declared.tree.Statement.{Statement}
use Rattle.es6_ast.specs.declared.settings.Flags.{Flags}
use Rattle.es6_ast.specs.declared.settings.Stand.{Stand}
use Rattle.es6_ast.specs.declared.settings.Stand.TheVariants.{Listed, Under, Labelled}
use Rattle.es6_ast.specs.Tokens.{Filled, begin_of}
use Rattle.es6_ast.specs.Grammar.{with_in, without_in}
use Rattle.es6_reading.specs.Parser.{Parser, is_left, mark, Inner}
use Rattle.es6_reading.specs.Refine.{target_before}
use Rattle.es6_reading.specs.Expressions as e
use Rattle.es6_reading.specs.Statements as s6
use Rattle.es6_reading.specs.Statements.{Header, ForHeader, OfHeader}
use Rattle.es6_reading.proofs.SpanCounts.{sum_of, in_some, spans_statement, in_block, in_case, in_catch, in_condition, in_expression, in_for_first, in_for_target, in_part, in_pattern, in_statement, with_statement, with_expression}
use Rattle.es6_reading.proofs.SpanSums.{in-name, in-part}
use Rattle.es6_reading.proofs.SpanSumsOfStatements as laws
use Rattle.es6_reading_laws.proofs.es6_viability.Deep.{Spot, At, Ready, ready, begin, and, recount, finish, first, forget, no_spans, Within, within, same-span, Deep, took, fault, bind, weaken, refused-holds, next, ends, take, close, either, either-by, looks, group}
use Rattle.es6_reading.proofs.ShallowTokens.{a-word, comma, colon, semicolon-mark, right-parenthesis, right-brace, label, kind-word, lexical-word}
use Rattle.es6_reading_laws.proofs.es6_viability.Beside.{Both, over, turn, both-same}
use Rattle.es6_reading_laws.proofs.es6_viability.DeepParts.{Deeper, semicolon_, do_while_end, block, initialized, function, named_function, class}
use Rattle.es6_reading_laws.proofs.es6_viability.DeepRefined.{before-recounted, expression-is}
use Rattle.es6_reading_laws.proofs.es6_viability.DeepLevels.{fitting, sequence}

-- a statement, from its first token to its last one
abbrev pub StatementAt : {all : List Filled} → ℕ → Spot all → Statement → Spot all → Type 0
StatementAt room s x c = At true room s 0 0 c (in_statement x) × Within s c (spans_statement x).span

-- what stands in the parentheses of a for statement
abbrev in_header : Header → ℕ → ℕ
in_header (ForHeader first test update) at = in_for_first first at + in_some in_expression test at + in_some in_expression update at
in_header (OfHeader target x) at = in_for_target target at + in_expression x at

in-loop : (x : Header) (body : Statement) (span : Span) (at : ℕ) → in_statement (s6.loop_of x body span) at ≡ in_header x at + with_statement body at
in-loop (ForHeader first test update) body span at = laws.in-for span first test update body at
in-loop (OfHeader target x) body span at = laws.in-for_of span target x body at

span-loop : (x : Header) (body : Statement) (span : Span) → (spans_statement (s6.loop_of x body span)).span ≡ span
span-loop (ForHeader first test update) body span = laws.span-for span first test update body
span-loop (OfHeader target x) body span = laws.span-for_of span target x body

none-counts : (o : Option Expression) → is_some o ≡ false → (at : ℕ) → in_some with_expression o at ≡ 0
none-counts None h at = refl
none-counts (Some x) h at = absurd (cc)

pattern-alone : (q : Part) → is_some q.default ≡ false → (at : ℕ) → in_part q at ≡ in_pattern q.pattern at
pattern-alone q h at = omega (arith, ap (λ z. in_part z at) (sym (roll-out-Part q)), in-part q.span q.pattern q.default at, none-counts q.default h at)

-- a label holds no construct
name-none : (x : Expression) (l : Open Expression-F) → out-Expression x ≡ l → is_some (s6.name_in l) ≡ true → (at : ℕ) → in_expression x at ≡ 0
name-none x (layer.Name span name) k h at = expression-is x k (expr.rolls-Name span name) at ∙ in-name span name at
name-none x l k h at = absurd (cc)

label-none : (shape : Shape) (x : Expression) → is_some (s6.label_of shape x) ≡ true → (at : ℕ) → in_expression x at ≡ 0
label-none Bare x h at = name-none x (out-Expression x) refl h at
label-none shape x h at = absurd (cc)

optional_label : {all : List Filled} {room : ℕ} {s : Spot all} {D : ℕ → ℕ} (c : Spot all) → At true room s 0 0 c D → Deep (λ x d. At true room s 0 0 d D) s6.optional_label s6.optional_label c
unfolding s6.optional_label
optional_label c a = next label _ _ _ _ a (λ n d k b. took _ b) (took _ a)

one_variable : {all : List Filled} {room g : ℕ} (one one' : Parser Part) (k : (s : Spot all) → Ready room g s → Deep (λ x c. At true room s g g c (in_part x)) one one' s) (s : Spot all) → Ready room g s → Deep (λ x c. At true room s g g c (in_part x)) (s6.one_variable one) (s6.one_variable one') s
unfolding s6.one_variable
one_variable one one' k s r = bind _ _ (k s r) λ q c a. either (s6.is_whole q) _ _ _ _ c (took _ a) (refused-holds c)

-- variables, in the parentheses of a for statement or not
variables : {all : List Filled} {room g : ℕ} (one one' : Parser Part) (k : (s : Spot all) → Ready room g s → Deep (λ x c. At true room s g g c (in_part x)) one one' s) {n m : ℕ} (w : Both n m) (s : Spot all) → Ready room g s → Deep (λ xs c. At true room s g g c (sum_of in_part xs)) (s6.variables one n) (s6.variables one' m) s
unfolding s6.variables
variables one one' k over s r = fault
variables one one' k (turn {n = n} {m = m} w) s r = bind _ _ (one_variable one one' k s r) λ q c a. next comma _ _ _ _ a (λ t d u b. bind _ _ (variables one one' k w d (ready b)) λ xs m o. took _ (recount (and b o) (λ at. omega arith))) (took _ (recount a (λ at. omega arith)))

module _ {all : List Filled} (i j : Inner) (room : ℕ) (h : Deeper all i j room) where
  pub variables_statement : {s : Spot all} (f : Flags) (kind : VariableKind) (c : Spot all) → At true room s 0 0 c no_spans → Deep (StatementAt room s) (s6.variables_statement i f (begin_of s.input.tokens) kind) (s6.variables_statement j f (begin_of s.input.tokens) kind) c
  unfolding s6.variables_statement
  variables_statement f kind c a = bind _ _ (variables _ _ (λ d k. initialized i j room h f f d k) h.turns c (ready a)) λ qs d b. bind _ _ (semicolon_ i j h.mode d (and a b)) λ t m n. took _ (finish n (laws.in-variables _ _ _) (λ at. omega arith), within (laws.span-variables _ _ _))

  parenthesized : {s : Spot all} {D : ℕ → ℕ} (f : Flags) (c : Spot all) → At true room s 0 0 c D → Deep (λ x d. At true room s 0 0 d (λ at. D at + in_expression x at)) (s6.parenthesized i f) (s6.parenthesized j f) c
  unfolding s6.parenthesized
  parenthesized f c a = group i j marks.LeftParenthesis _ _ _ _ h.opens (refl, refl, refl) a (λ d b. bind _ _ (h.sequence (with_in f) d (ready b)) λ x m n. bind _ _ (close right-parenthesis (and b n)) λ t o p. took _ p) (refused-holds c)

  condition : (f : Flags) (s : Spot all) → Ready room 0 s → Deep (λ x c. At true room s 0 0 c (in_condition x)) (s6.condition i f) (s6.condition j f) s
  unfolding s6.condition
  condition f s r = bind _ _ (take (a-word (codes "if")) (begin s r)) λ t c a. bind _ _ (parenthesized f c a) λ x d b. bind _ _ (h.statement f Under (λ u. absurd (cc)) d (ready b)) λ y m n. took _ (finish (and b n) (laws.in-condition _ _ _) (λ at. omega arith))

  otherwise : (f : Flags) {n m : ℕ} (w : Both n m) (s : Spot all) → Ready room 0 s → Deep (λ x c. At false room s 0 0 c (λ at. sum_of in_condition x.more at + in_some with_statement x.last at)) (s6.otherwise i f n) (s6.otherwise j f m) s
  unfolding s6.otherwise
  otherwise f over s r = fault
  otherwise f (turn {n = n} {m = m} w) s r = next (a-word (codes "else")) _ _ _ _ (begin s r) (λ t c k a. looks _ _ _ _ _ c (bind _ _ (condition f c (ready a)) λ x d b. bind _ _ (otherwise f w d (ready b)) λ y m o. took _ (forget (recount (and (and a b) o) (λ at. omega arith))))
      (bind _ _ (h.statement f Under (λ u. absurd (cc)) c (ready a)) λ x d b. took _ (forget (recount (and a b) (λ at. omega arith))))) (took _ (recount (begin s r) (λ at. omega arith)))

  if_statement : (f : Flags) (s : Spot all) → Ready room 0 s → Deep (StatementAt room s) (s6.if_statement i f (begin_of s.input.tokens)) (s6.if_statement j f (begin_of s.input.tokens)) s
  unfolding s6.if_statement
  if_statement f s r = bind _ _ (condition f s r) λ x c a. bind _ _ (otherwise f h.turns c (ready a)) λ y d b. took _ (finish (and a b) (laws.in-if _ _ _ _) (λ at. omega arith), within (laws.span-if _ _ _ _))

  -- ## Loops

  do_statement : {s : Spot all} (f : Flags) (c : Spot all) → At true room s 0 0 c no_spans → Deep (StatementAt room s) (s6.do_statement i f (begin_of s.input.tokens)) (s6.do_statement j f (begin_of s.input.tokens)) c
  unfolding s6.do_statement
  do_statement f c a = bind _ _ (h.statement f Under (λ u. absurd (cc)) c (ready a)) λ x d b. bind _ _ (take (a-word (codes "while")) (and a b)) λ t m n. bind _ _ (parenthesized f m n) λ y o p. bind _ _ (do_while_end i j h.mode o p) λ u q w. took _ (finish w (laws.in-do_while _ _ _) (λ at. omega arith), within (laws.span-do_while _ _ _))

  while_statement : {s : Spot all} (f : Flags) (c : Spot all) → At true room s 0 0 c no_spans → Deep (StatementAt room s) (s6.while_statement i f (begin_of s.input.tokens)) (s6.while_statement j f (begin_of s.input.tokens)) c
  unfolding s6.while_statement
  while_statement f c a = bind _ _ (parenthesized f c a) λ x d b. bind _ _ (h.statement f Under (λ u. absurd (cc)) d (ready b)) λ y m n. took _ (finish (and b n) (laws.in-while _ _ _) (λ at. omega arith), within (laws.span-while _ _ _))

  optional : {s : Spot all} {D : ℕ → ℕ} (f : Flags) (c : Spot all) → At true room s 0 1 c D → Deep (λ x d. At true room s 0 1 d (λ at. D at + in_some in_expression x at)) (s6.optional i f (mark marks.Semicolon)) (s6.optional j f (mark marks.Semicolon)) c
  unfolding s6.optional
  optional f c a = next semicolon-mark _ _ _ _ a (λ t d k b. took _ (recount b (λ at. omega arith))) (bind _ _ (h.sequence (with_in f) c (ready a)) λ x d b. bind _ _ (take semicolon-mark (and a b)) λ t m n. took _ (recount n (λ at. omega arith)))

  optional_last : {s : Spot all} {D : ℕ → ℕ} (f : Flags) (c : Spot all) → At true room s 0 1 c D → Deep (λ x d. At true room s 0 0 d (λ at. D at + in_some in_expression x at)) (s6.optional i f (mark marks.RightParenthesis)) (s6.optional j f (mark marks.RightParenthesis)) c
  unfolding s6.optional
  optional_last f c a = ends right-parenthesis _ _ _ _ a (λ t d b. took _ (recount b (λ at. omega arith))) (bind _ _ (h.sequence (with_in f) c (ready a)) λ x d b. bind _ _ (close right-parenthesis (and a b)) λ t m n. took _ (recount n (λ at. omega arith)))

  rest_of_for : {s : Spot all} (f : Flags) (x : ForFirst) (c : Spot all) → At true room s 0 1 c (in_for_first x) → Deep (λ y d. At true room s 0 0 d (in_header y)) (s6.rest_of_for i f x) (s6.rest_of_for j f x) c
  unfolding s6.rest_of_for
  rest_of_for f x c a = bind _ _ (optional f c a) λ y d b. bind _ _ (optional_last f d b) λ z m n. took _ (recount n (λ at. omega arith))

  rest_of_of : {s : Spot all} (f : Flags) (x : ForTarget) (c : Spot all) → At true room s 0 1 c (in_for_target x) → Deep (λ y d. At true room s 0 0 d (in_header y)) (s6.rest_of_of i f x) (s6.rest_of_of j f x) c
  unfolding s6.rest_of_of
  rest_of_of f x c a = bind _ _ (h.assignment (with_in f) c (ready a)) λ y d b. bind _ _ (close right-parenthesis (and a b)) λ t m n. took _ (recount n (λ at. omega arith))

  first_variables : {s : Spot all} (f : Flags) (at : ℕ) (kind : VariableKind) (qs : List Part) (c : Spot all) → At true room s 0 1 c (sum_of in_part qs) → Deep (λ y d. At true room s 0 0 d (in_header y)) (s6.first_variables i f at kind qs) (s6.first_variables j f at kind qs) c
  unfolding s6.first_variables
  first_variables f at kind qs c a = bind _ _ (take semicolon-mark a) λ t d b. rest_of_for f _ d (finish b (laws.in-first_variables _ _ _) (λ k. omega arith))

  after_first : {s : Spot all} (f : Flags) (at : ℕ) (kind : VariableKind) (q : Part) (c : Spot all) → At true room s 0 1 c (in_part q) → Deep (λ y d. At true room s 0 0 d (in_header y)) (s6.after_first_variable i f at kind q) (s6.after_first_variable j f at kind q) c
  unfolding s6.after_first_variable
  after_first f at kind q c a = either (s6.is_whole q) _ _ _ _ c (next comma _ _ _ _ a (λ t d k b. bind _ _ (variables _ _ (λ m o. h.variable (without_in f) m o) h.turns d (ready b)) λ qs m n. first_variables f at kind _ m (recount (and b n) (λ k. omega arith)))
      (first_variables f at kind _ c (recount a (λ k. omega arith)))) (refused-holds c)

  after_bare : {s : Spot all} (f : Flags) (at : ℕ) (kind : VariableKind) (q : Part) (c : Spot all) → is_some q.default ≡ false → At true room s 0 1 c (in_part q) → Deep (λ y d. At true room s 0 0 d (in_header y)) (s6.after_bare_variable i f at kind q) (s6.after_bare_variable j f at kind q) c
  unfolding s6.after_bare_variable
  after_bare f at kind q c none a = looks _ _ _ _ _ c fault (looks _ _ _ _ _ c (bind _ _ (take (a-word (codes "of")) a) λ t d b. rest_of_of f _ d (finish b (laws.in-declared _ _ _) (λ k. omega (arith, pattern-alone q none k)))) (after_first f at kind q c a))

  for_variables : {s : Spot all} (f : Flags) (at : ℕ) (kind : VariableKind) (c : Spot all) → At true room s 0 1 c no_spans → Deep (λ y d. At true room s 0 0 d (in_header y)) (s6.for_variables i f at kind) (s6.for_variables j f at kind) c
  unfolding s6.for_variables
  for_variables f at kind c a = bind _ _ (h.variable (without_in f) c (ready a)) λ q d b. let m = recount (and a b) (λ k. omega arith) in either-by (is_some q.default) _ _ _ _ d (λ u. after_first f at kind q d m) (λ u. after_bare f at kind q d u m)

  first_expression : {s : Spot all} (f : Flags) (x : Expression) (c : Spot all) → At true room s 0 1 c (in_expression x) → Deep (λ y d. At true room s 0 0 d (in_header y)) (s6.first_expression i f x) (s6.first_expression j f x) c
  unfolding s6.first_expression
  first_expression f x c a = bind _ _ (take semicolon-mark a) λ t d b. rest_of_for f _ d (finish b (laws.in-first_expression _) (λ k. omega arith))

  assigned_in_turn : {s : Spot all} (f : Flags) (x : Expression) (c : Spot all) → At true room s 0 1 c (in_expression x) → Deep (λ y d. At true room s 0 0 d (in_header y)) (s6.assigned_in_turn i f x) (s6.assigned_in_turn j f x) c
  unfolding s6.assigned_in_turn
  assigned_in_turn {s = s} f x c a = bind _ _ (subst (λ n. Deep (λ p d. At true room s 0 1 d (in_pattern p)) (e.fitting (target_before i.fuel assign.Assign x)) (e.fitting (target_before n assign.Assign x)) c) (both-same h.turns) (fitting i j room h (target_before i.fuel assign.Assign x) c a (before-recounted i.fuel assign.Assign x))) λ p d b. rest_of_of f _ d (finish b (laws.in-assigned _) (λ k. omega arith))

  for_expression : {s : Spot all} (f : Flags) (c : Spot all) → At true room s 0 1 c no_spans → Deep (λ y d. At true room s 0 0 d (in_header y)) (s6.for_expression i f) (s6.for_expression j f) c
  unfolding s6.for_expression
  for_expression f c a = bind _ _ (h.sequence (without_in f) c (ready a)) λ x d b. let m = recount (and a b) (λ k. omega arith) in either (is_left x.shape) _ _ _ _ d (looks _ _ _ _ _ d fault (next (a-word (codes "of")) _ _ _ _ m (λ t o k n. assigned_in_turn f _ o n) (first_expression f _ d m))) (first_expression f _ d m)

  for_header : {s : Spot all} (f : Flags) (c : Spot all) → At true room s 0 1 c no_spans → Deep (λ y d. At true room s 0 0 d (in_header y)) (s6.for_header i f) (s6.for_header j f) c
  unfolding s6.for_header
  for_header f c a = next semicolon-mark _ _ _ _ a (λ t d k b. rest_of_for f _ d (finish b laws.in-no_first (λ k. omega arith))) (next kind-word _ _ _ _ a (λ kind d k b. for_variables f _ kind d b) (for_expression f c a))

  for_statement : {s : Spot all} (f : Flags) (c : Spot all) → At true room s 0 0 c no_spans → Deep (StatementAt room s) (s6.for_statement i f (begin_of s.input.tokens)) (s6.for_statement j f (begin_of s.input.tokens)) c
  unfolding s6.for_statement
  for_statement f c a = bind _ _ (group i j marks.LeftParenthesis _ _ _ _ h.opens (refl, refl, refl) a (λ d b. for_header f d b) (refused-holds c)) λ x d b. bind _ _ (h.statement f Under (λ u. absurd (cc)) d (ready b)) λ y m n. took _ (finish (and b n) (in-loop x y _) (λ at. omega arith), within (span-loop x y _))

  -- ## Jumps and switches

  continue_statement : {s : Spot all} (c : Spot all) → At true room s 0 0 c no_spans → Deep (StatementAt room s) (s6.continue_statement i (begin_of s.input.tokens)) (s6.continue_statement j (begin_of s.input.tokens)) c
  unfolding s6.continue_statement
  continue_statement c a = bind _ _ (optional_label c a) λ x d b. bind _ _ (semicolon_ i j h.mode d b) λ t m n. took _ (finish n (laws.in-continue _ _) (λ at. omega arith), within (laws.span-continue _ _))

  break_statement : {s : Spot all} (c : Spot all) → At true room s 0 0 c no_spans → Deep (StatementAt room s) (s6.break_statement i (begin_of s.input.tokens)) (s6.break_statement j (begin_of s.input.tokens)) c
  unfolding s6.break_statement
  break_statement c a = bind _ _ (optional_label c a) λ x d b. bind _ _ (semicolon_ i j h.mode d b) λ t m n. took _ (finish n (laws.in-break _ _) (λ at. omega arith), within (laws.span-break _ _))

  returned : {s : Spot all} (f : Flags) (c : Spot all) → At true room s 0 0 c no_spans → Deep (λ x d. At true room s 0 0 d (in_some in_expression x)) (s6.returned i f) (s6.returned j f) c
  unfolding s6.returned
  returned f c a = looks _ _ _ _ _ c (bind _ _ (sequence i j room h (with_in f) c (ready a)) λ x d b. took _ (recount (and a b.0) (λ at. omega arith))) (took _ (recount a (λ at. omega arith)))

  return_statement : {s : Spot all} (f : Flags) (c : Spot all) → At true room s 0 0 c no_spans → Deep (StatementAt room s) (s6.return_statement i f (begin_of s.input.tokens)) (s6.return_statement j f (begin_of s.input.tokens)) c
  unfolding s6.return_statement
  return_statement f c a = bind _ _ (returned f c a) λ x d b. bind _ _ (semicolon_ i j h.mode d b) λ t m n. took _ (finish n (laws.in-return _ x) (λ at. omega arith), within (laws.span-return _ x))

  throw_statement : {s : Spot all} (f : Flags) (c : Spot all) → At true room s 0 0 c no_spans → Deep (StatementAt room s) (s6.throw_statement i f (begin_of s.input.tokens)) (s6.throw_statement j f (begin_of s.input.tokens)) c
  unfolding s6.throw_statement
  throw_statement f c a = looks _ _ _ _ _ c (refused-holds c) (bind _ _ (sequence i j room h (with_in f) c (ready a)) λ x d b. bind _ _ (semicolon_ i j h.mode d (and a b.0)) λ t m n. took _ (finish n (laws.in-throw _ _) (λ at. omega arith), within (laws.span-throw _ _)))

  in_case_clause : (f : Flags) {n m : ℕ} (w : Both n m) (s : Spot all) → Ready room 1 s → Deep (λ xs c. At false room s 1 1 c (sum_of in_statement xs)) (s6.in_case i f n) (s6.in_case j f m) s
  unfolding s6.in_case
  in_case_clause f over s r = fault
  in_case_clause f (turn {n = n} {m = m} w) s r = looks _ _ _ _ _ s (took _ (recount (begin s r) (λ at. omega arith))) (bind _ _ (h.statement f Listed (λ u. omega arith) s r) λ x c a. bind _ _ (in_case_clause f w c (ready a)) λ xs d b. took _ (forget (recount (and a b) (λ at. omega arith))))

  case_clause : {s : Spot all} (f : Flags) (at : ℕ) (c : Spot all) → At true room s 1 1 c no_spans → Deep (λ x d. At true room s 1 1 d (in_case x)) (s6.case_clause i f at) (s6.case_clause j f at) c
  unfolding s6.case_clause
  case_clause f at c a = bind _ _ (h.sequence (with_in f) c (ready a)) λ x d b. bind _ _ (take colon (and a b)) λ t m n. bind _ _ (in_case_clause f h.turns m (ready n)) λ xs o p. took _ (finish (and n p) (laws.in-case _ (Some x.value) xs) (λ k. omega arith))

  default_clause : {s : Spot all} (f : Flags) (at : ℕ) (c : Spot all) → At true room s 1 1 c no_spans → Deep (λ x d. At true room s 1 1 d (in_case x)) (s6.default_clause i f at) (s6.default_clause j f at) c
  unfolding s6.default_clause
  default_clause f at c a = bind _ _ (take colon a) λ t m n. bind _ _ (in_case_clause f h.turns m (ready n)) λ xs o p. took _ (finish (and n p) (laws.in-case _ None xs) (λ k. omega arith))

  cases : (f : Flags) (may : Bool) {n m : ℕ} (w : Both n m) (s : Spot all) → Ready room 1 s → Deep (λ xs c. At true room s 1 0 c (sum_of in_case xs)) (s6.cases i f may n) (s6.cases j f may m) s
  unfolding s6.cases
  cases f may over s r = fault
  cases f may (turn {n = n} {m = m} w) s r = let a = begin s r in ends right-brace _ _ _ _ a (λ t c b. took _ (recount b (λ at. omega arith)))
      (next (a-word (codes "case")) _ _ _ _ a (λ t c k b. bind _ _ (case_clause f _ c b) λ x d m. bind _ _ (cases f may w d (ready m)) λ xs o p. took _ (recount (and m p) (λ at. omega arith)))
      (either may _ _ _ _ s (next (a-word (codes "default")) _ _ _ _ a (λ t c k b. bind _ _ (default_clause f _ c b) λ x d m. bind _ _ (cases f false w d (ready m)) λ xs o p. took _ (recount (and m p) (λ at. omega arith))) (refused-holds s)) (refused-holds s)))

  switch_statement : {s : Spot all} (f : Flags) (c : Spot all) → At true room s 0 0 c no_spans → Deep (StatementAt room s) (s6.switch_statement i f (begin_of s.input.tokens)) (s6.switch_statement j f (begin_of s.input.tokens)) c
  unfolding s6.switch_statement
  switch_statement f c a = bind _ _ (parenthesized f c a) λ x d b. bind _ _ (group i j marks.LeftBrace _ _ _ _ h.opens (refl, refl, refl) b (λ m n. weaken (cases f true h.turns m (ready n)) (λ xs o p. and n p)) (refused-holds d)) λ xs m n. took _ (finish n (laws.in-switch _ _ _) (λ at. omega arith), within (laws.span-switch _ _ _))

  -- ## Try

  catch_parameter : {s : Spot all} (f : Flags) (c : Spot all) → At true room s 0 1 c no_spans → Deep (λ x d. At true room s 0 0 d (in_pattern x)) (s6.catch_parameter i f) (s6.catch_parameter j f) c
  unfolding s6.catch_parameter
  catch_parameter f c a = bind _ _ (h.target (with_in f) c (ready a)) λ x d b. bind _ _ (close right-parenthesis (and a b)) λ t m n. took _ (recount n (λ at. omega arith))

  handler : (f : Flags) (s : Spot all) → Ready room 0 s → Deep (λ x c. At true room s 0 0 c (in_catch x)) (s6.handler i f) (s6.handler j f) s
  unfolding s6.handler
  handler f s r = bind _ _ (take (a-word (codes "catch")) (begin s r)) λ t c a. bind _ _ (group i j marks.LeftParenthesis _ _ _ _ h.opens (refl, refl, refl) a (λ d b. catch_parameter f d b) (refused-holds c)) λ x d b. bind _ _ (block i j room h f d (ready b)) λ y m n. took _ (finish (and b n.0) (laws.in-catch _ _ _) (λ at. omega arith))

  after_handler : {s : Spot all} (f : Flags) (b : Block) (x : Catch) (c : Spot all) → At true room s 0 0 c (λ at. in_block b at + in_catch x at) → Deep (StatementAt room s) (s6.after_handler i f (begin_of s.input.tokens) b x) (s6.after_handler j f (begin_of s.input.tokens) b x) c
  unfolding s6.after_handler
  after_handler f b x c a = next (a-word (codes "finally")) _ _ _ _ a (λ t d k m. bind _ _ (block i j room h f d (ready m)) λ y o p. took _ (finish (and m p.0) (laws.in-try _ b (Some x) (Some y)) (λ at. omega arith), within (laws.span-try _ b (Some x) (Some y)))) (took _ (finish a (laws.in-try _ b (Some x) None) (λ at. omega arith), within (laws.span-try _ b (Some x) None)))

  only_finally : {s : Spot all} (f : Flags) (b : Block) (c : Spot all) → At true room s 0 0 c (in_block b) → Deep (StatementAt room s) (s6.only_finally i f (begin_of s.input.tokens) b) (s6.only_finally j f (begin_of s.input.tokens) b) c
  unfolding s6.only_finally
  only_finally f b c a = bind _ _ (take (a-word (codes "finally")) a) λ t d m. bind _ _ (block i j room h f d (ready m)) λ y o p. took _ (finish (and m p.0) (laws.in-try _ b None (Some y)) (λ at. omega arith), within (laws.span-try _ b None (Some y)))

  try_statement : {s : Spot all} (f : Flags) (c : Spot all) → At true room s 0 0 c no_spans → Deep (StatementAt room s) (s6.try_statement i f (begin_of s.input.tokens)) (s6.try_statement j f (begin_of s.input.tokens)) c
  unfolding s6.try_statement
  try_statement f c a = bind _ _ (block i j room h f c (ready a)) λ b d m. let n = recount (and a m.0) (λ at. omega arith) in looks _ _ _ _ _ d (bind _ _ (handler f d (ready n)) λ x o p. after_handler f b x o (and n p)) (only_finally f b d n)

  debugger_statement : {s : Spot all} (c : Spot all) → At true room s 0 0 c no_spans → Deep (StatementAt room s) (s6.debugger_statement i (begin_of s.input.tokens)) (s6.debugger_statement j (begin_of s.input.tokens)) c
  unfolding s6.debugger_statement
  debugger_statement c a = bind _ _ (semicolon_ i j h.mode c a) λ t m n. took _ (finish n (laws.in-debugger _) (λ at. omega arith), within (laws.span-debugger _))

  -- ## Expressions, labels and declarations

  expression_end : {s : Spot all} (x : Expression) (c : Spot all) → At true room s 0 0 c (in_expression x) → Deep (StatementAt room s) (s6.expression_end i (begin_of s.input.tokens) x) (s6.expression_end j (begin_of s.input.tokens) x) c
  unfolding s6.expression_end
  expression_end x c a = bind _ _ (semicolon_ i j h.mode c a) λ t m n. took _ (finish n (laws.in-expression_statement _ _) (λ at. omega arith), within (laws.span-expression_statement _ _))

  labelled : {s : Spot all} (f : Flags) (n : Identifier) (c : Spot all) → At true room s 0 0 c no_spans → Deep (StatementAt room s) (s6.labelled i f (begin_of s.input.tokens) n) (s6.labelled j f (begin_of s.input.tokens) n) c
  unfolding s6.labelled
  labelled f n c a = bind _ _ (h.statement f Labelled (λ u. absurd (cc)) c (ready a)) λ x d b. took _ (finish (and a b) (laws.in-labelled _ _ _) (λ at. omega arith), within (laws.span-labelled _ _ _))

  label_or_end : {s : Spot all} (f : Flags) (n : Option Identifier) (x : Expression) (c : Spot all) → (is_some n ≡ true → (at : ℕ) → in_expression x at ≡ 0) → At true room s 0 0 c (in_expression x) → Deep (StatementAt room s) (s6.label_or_end i f (begin_of s.input.tokens) n x) (s6.label_or_end j f (begin_of s.input.tokens) n x) c
  label_or_end f (Some n) x c none a = next colon _ _ _ _ a (λ t d k b. labelled f n d (recount b (λ at. omega (arith, none refl at)))) (expression_end x c a)
  label_or_end f None x c none a = expression_end x c a

  expression_statement : (f : Flags) (s : Spot all) → Ready room 0 s → Deep (StatementAt room s) (s6.expression_statement i f (begin_of s.input.tokens)) (s6.expression_statement j f (begin_of s.input.tokens)) s
  unfolding s6.expression_statement
  expression_statement f s r = bind _ _ (sequence i j room h f s r) λ x c a. label_or_end f _ _ c (label-none x.shape x.value) a.0

  function_declaration : {s : Spot all} (c : Spot all) → At true room s 0 0 c no_spans → Deep (StatementAt room s) (s6.function_declaration i (begin_of s.input.tokens)) (s6.function_declaration j (begin_of s.input.tokens)) c
  unfolding s6.function_declaration
  function_declaration c a = bind _ _ (function i j room h false c a) λ g d b. took _ (finish b.0 (laws.in-function_declaration _) (λ at. omega arith), same-span (laws.span-function_declaration _) b.1)

  class_declaration : {s : Spot all} (f : Flags) (c : Spot all) → At true room s 0 0 c no_spans → Deep (StatementAt room s) (s6.class_declaration i f (begin_of s.input.tokens)) (s6.class_declaration j f (begin_of s.input.tokens)) c
  unfolding s6.class_declaration
  class_declaration f c a = bind _ _ (class i j room h f false c a) λ g d b. took _ (finish b.0 (laws.in-class_declaration _) (λ at. omega arith), same-span (laws.span-class_declaration _) b.1)

  pub on_declaration : (f : Flags) (q q' : Parser Statement) (s : Spot all) → Ready room 0 s → Deep (StatementAt room s) q q' s → Deep (StatementAt room s) (s6.on_declaration i f (begin_of s.input.tokens) q) (s6.on_declaration j f (begin_of s.input.tokens) q') s
  on_declaration f q q' s r k = let a = begin s r in next (a-word (codes "function")) _ _ _ _ a (λ t c e b. function_declaration c b) (next (a-word (codes "class")) _ _ _ _ a (λ t c e b. class_declaration f c b) (next lexical-word _ _ _ _ a (λ kind c e b. variables_statement f kind c b) k))

  labelled_function : {s : Spot all} (c : Spot all) → At true room s 0 0 c no_spans → Deep (StatementAt room s) (s6.labelled_function i (begin_of s.input.tokens)) (s6.labelled_function j (begin_of s.input.tokens)) c
  unfolding s6.labelled_function
  labelled_function c a = bind _ _ (named_function i j room h false c a) λ g d b. took _ (finish b.0 (laws.in-function_declaration _) (λ at. omega arith), same-span (laws.span-function_declaration _) b.1)

  on_more : (f : Flags) (stand : Stand) (q q' : Parser Statement) (s : Spot all) → Ready room 0 s → Deep (StatementAt room s) q q' s → Deep (StatementAt room s) (s6.on_more i f stand (begin_of s.input.tokens) q) (s6.on_more j f stand (begin_of s.input.tokens) q') s
  on_more f Listed q q' s r k = on_declaration f q q' s r k
  on_more f Under q q' s r k = k
  on_more f Labelled q q' s r k = next (a-word (codes "function")) _ _ _ _ (begin s r) (λ t c e b. labelled_function c b) k

  plain_statement : (f : Flags) (s : Spot all) → Ready room 0 s → Deep (StatementAt room s) (s6.plain_statement i f (begin_of s.input.tokens)) (s6.plain_statement j f (begin_of s.input.tokens)) s
  unfolding s6.plain_statement
  plain_statement f s r = looks _ _ _ _ _ s fault (looks _ _ _ _ _ s fault (expression_statement f s r))

  jump_statement : (f : Flags) (stand : Stand) (s : Spot all) → Ready room 0 s → Deep (StatementAt room s) (s6.jump_statement i f stand (begin_of s.input.tokens)) (s6.jump_statement j f stand (begin_of s.input.tokens)) s
  unfolding s6.jump_statement
  jump_statement f stand s r = let a = begin s r in
      next (a-word (codes "continue")) _ _ _ _ a (λ t c k b. continue_statement c b) (next (a-word (codes "break")) _ _ _ _ a (λ t c k b. break_statement c b) (next (a-word (codes "throw")) _ _ _ _ a (λ t c k b. throw_statement f c b) (next (a-word (codes "debugger")) _ _ _ _ a (λ t c k b. debugger_statement c b)
      (either f.has_return _ _ _ _ s (next (a-word (codes "return")) _ _ _ _ a (λ t c k b. return_statement f c b) (on_more f stand _ _ s r (plain_statement f s r))) (on_more f stand _ _ s r (plain_statement f s r))))))

  compound_statement : (f : Flags) (stand : Stand) (s : Spot all) → Ready room 0 s → Deep (StatementAt room s) (s6.compound_statement i f stand (begin_of s.input.tokens)) (s6.compound_statement j f stand (begin_of s.input.tokens)) s
  unfolding s6.compound_statement
  compound_statement f stand s r = let a = begin s r in
      next (a-word (codes "do")) _ _ _ _ a (λ t c k b. do_statement f c b) (next (a-word (codes "while")) _ _ _ _ a (λ t c k b. while_statement f c b) (next (a-word (codes "for")) _ _ _ _ a (λ t c k b. for_statement f c b)
      (next (a-word (codes "switch")) _ _ _ _ a (λ t c k b. switch_statement f c b) (next (a-word (codes "try")) _ _ _ _ a (λ t c k b. try_statement f c b) (jump_statement f stand s r)))))

  block_statement : (f : Flags) (s : Spot all) → Ready room 0 s → Deep (StatementAt room s) (s6.block_statement i f) (s6.block_statement j f) s
  unfolding s6.block_statement
  block_statement f s r = bind _ _ (block i j room h f s r) λ b c a. took _ (finish a.0 (laws.in-block_statement _) (λ at. omega arith), same-span (laws.span-block_statement _) a.1)

  pub statement : (f : Flags) (stand : Stand) (s : Spot all) → Ready room 0 s → Deep (StatementAt room s) (s6.statement i f stand) (s6.statement j f stand) s
  unfolding s6.statement
  statement f stand s r = looks _ _ _ _ _ s (block_statement f s r) (looks _ _ _ _ _ s (if_statement f s r) (next semicolon-mark _ _ _ _ (begin s r) (λ t c k a. took _ (finish a (laws.in-empty _) (λ at. omega arith), within (laws.span-empty _)))
      (next (a-word (codes "var")) _ _ _ _ (begin s r) (λ t c k a. variables_statement f Var c a) (compound_statement f stand s r))))
