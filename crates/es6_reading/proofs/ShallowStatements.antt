-- How many constructs are open at what is read as statements.
use Rattle.std.proofs.Common.{◌≡◌, ℕ, zero, suc, ◌+◌, ◌≤◌, Bool, true, false, List, [], Option, Some, None, ap, sym, refl, arith}
use Rattle.std.specs.Prelude.{codes, is_some}
use Rattle.es_text.specs.declared.Span.{Span}
use Rattle.es6_lexer.specs.declared.token.Punctuator.TheVariants as marks
use Rattle.es6_ast.specs.declared.operators.AssignOperator.TheVariants as assign
use Rattle.es6_ast.specs.declared.operators.VariableKind.{VariableKind}
use Rattle.es6_ast.specs.declared.operators.VariableKind.TheVariants.{Var}
use Rattle.es6_ast.specs.declared.tree.Block.{Block}
use Rattle.es6_ast.specs.declared.tree.Catch.{Catch}
use Rattle.es6_ast.specs.declared.tree.Expression.{Expression}
use Rattle.es6_ast.specs.declared.tree.ForFirst.{ForFirst}
use Rattle.es6_ast.specs.declared.tree.ForTarget.{ForTarget}
use Rattle.es6_ast.specs.declared.tree.Identifier.{Identifier}
use Rattle.es6_ast.specs.declared.tree.Part.{Part, roll-out-Part}
use Rattle.es6_ast.specs.declared.tree.Statement.{Statement}
use Rattle.es6_ast.specs.declared.settings.Flags.{Flags}
use Rattle.es6_ast.specs.declared.settings.Stand.{Stand}
use Rattle.es6_ast.specs.declared.settings.Stand.TheVariants.{Listed, Under, Labelled}
use Rattle.es6_ast.specs.Tokens.{begin_of}
use Rattle.es6_ast.specs.Grammar.{with_in, without_in}
use Rattle.es6_reading.specs.Parser.{Input, Parser, is_left, mark, Inner}
use Rattle.es6_reading.specs.Refine.{target_before}
use Rattle.es6_reading.specs.Parts as t6
use Rattle.es6_reading.specs.Statements as s6
use Rattle.es6_reading.specs.Statements.{Header, ForHeader, OfHeader}
use Rattle.es6_reading.proofs.Posts.{Holds, took, fault, bind, weaken, refused-holds}
use Rattle.es6_reading.proofs.SpanCounts.{sum_of, in_some, spans_statement, in_block, in_case, in_catch, in_condition, in_expression, in_for_first, in_for_target, in_part, in_pattern, in_statement, with_statement}
use Rattle.es6_reading.proofs.SpanSums.{in-part}
use Rattle.es6_reading.proofs.SpanSumsOfStatements as laws
use Rattle.es6_reading.proofs.Shallow.{At, Ready, ready, begin, and, less, finish, first, Within, within, Nothing, next, ends, take, close, either, looks, group}
use Rattle.es6_reading.proofs.ShallowTokens.{a-word, comma, colon, semicolon-mark, right-parenthesis, right-brace, label, kind-word, lexical-word}
use Rattle.es6_reading.proofs.ShallowParts.{Shallow, semicolon_, do_while_end, block, initialized, function, named_function, class}
use Rattle.es6_reading.proofs.ShallowExpressions.{same-span}
use Rattle.es6_reading.proofs.ShallowRefined.{before-below}
use Rattle.es6_reading.proofs.ShallowLevels.{fitting, sequence, none-sequence}

-- a statement, from its first token to its last one
abbrev pub StatementAt : ℕ → Input → Statement → Input → Type 0
StatementAt room s x c = At room s 0 0 c (in_statement x) × Within s c (spans_statement x).span

-- what stands in the parentheses of a for statement
abbrev in_header : Header → ℕ → ℕ
in_header (ForHeader first test update) at = in_for_first first at + in_some in_expression test at + in_some in_expression update at
in_header (OfHeader target x) at = in_for_target target at + in_expression x at

in-loop : (x : Header) (body : Statement) (span : Span) (at : ℕ) → in_statement (s6.loop_of x body span) at ≡ in_header x at + with_statement body at
in-loop (ForHeader first test update) body span at = laws.in-for span first test update body at
in-loop (OfHeader target x) body span at = laws.in-for_of span target x body at

span-loop : (x : Header) (body : Statement) (span : Span) → (spans_statement (s6.loop_of x body span)).span ≡ span
span-loop (ForHeader first test update) body span = laws.span-for span first test update body
span-loop (OfHeader target x) body span = laws.span-for_of span target x body

pattern-below : (q : Part) (at : ℕ) → in_pattern q.pattern at ≤ in_part q at
pattern-below q at = omega (arith, ap (λ z. in_part z at) (sym (roll-out-Part q)), in-part q.span q.pattern q.default at)

optional_label : {room : ℕ} {s : Input} {D : ℕ → ℕ} (c : Input) → At room s 0 0 c D → Holds (λ x d. At room s 0 0 d D) (s6.optional_label c)
unfolding s6.optional_label
optional_label c a = next label _ a (λ n d k b. took b) (took a)

-- variables, in the parentheses of a for statement or not
variables : {room g : ℕ} (one : Parser Part) (k : (s : Input) → Ready room g s → Holds (λ x c. At room s g g c (in_part x)) (one s)) (n : ℕ) (s : Input) → Ready room g s → Holds (λ xs c. At room s g g c (sum_of in_part xs)) (s6.variables one n s)
unfolding s6.variables s6.one_variable
variables one k zero s r = fault
variables one k (suc n) s r = bind (bind (k s r) λ q c a. either (s6.is_whole q) _ _ c (took a) (refused-holds c)) λ q c a. next comma _ a (λ t d e b. bind (variables one k n d (ready b)) λ xs m o. took (less (and b o) (λ at. omega arith))) (took (less a (λ at. omega arith)))

module _ (i : Inner) (room : ℕ) (h : Shallow i room) where
  pub variables_statement : {s : Input} {D : ℕ → ℕ} (f : Flags) (kind : VariableKind) (c : Input) → At room s 0 0 c D → Holds (StatementAt room s) (s6.variables_statement i f (begin_of s.tokens) kind c)
  unfolding s6.variables_statement
  variables_statement f kind c a = bind (variables _ (λ d k. initialized i room h f f d k) i.fuel c (ready a)) λ qs d b. bind (semicolon_ i d (and a b)) λ t m n. took (finish n (laws.in-variables _ _ _) (λ at. omega arith), within (laws.span-variables _ _ _))

  parenthesized : {s : Input} {D : ℕ → ℕ} (f : Flags) (c : Input) → At room s 0 0 c D → Holds (λ x d. At room s 0 0 d (λ at. D at + in_expression x at)) (s6.parenthesized i f c)
  unfolding s6.parenthesized
  parenthesized f c a = group i marks.LeftParenthesis _ h.opens (refl, refl, refl) a (λ d b. bind (h.sequence (with_in f) d b.sorted) λ x m n. bind (close right-parenthesis (and b n)) λ t o p. took p) (refused-holds c)

  condition : (f : Flags) (s : Input) → Ready room 0 s → Holds (λ x c. At room s 0 0 c (in_condition x)) (s6.condition i f s)
  unfolding s6.condition
  condition f s r = bind (take (a-word (codes "if")) (begin s r)) λ t c a. bind (parenthesized f c a) λ x d b. bind (h.statement f Under d b.sorted) λ y m n. took (finish (and b n.counted) (laws.in-condition _ _ _) (λ at. omega arith))

  otherwise : (f : Flags) (n : ℕ) (s : Input) → Ready room 0 s → Holds (λ x c. At room s 0 0 c (λ at. sum_of in_condition x.more at + in_some with_statement x.last at)) (s6.otherwise i f n s)
  unfolding s6.otherwise
  otherwise f zero s r = fault
  otherwise f (suc n) s r = next (a-word (codes "else")) _ (begin s r) (λ t c k a. looks _ _ _ c (bind (condition f c (ready a)) λ x d b. bind (otherwise f n d (ready b)) λ y m o. took (less (and (and a b) o) (λ at. omega arith)))
      (bind (h.statement f Under c a.sorted) λ x d b. took (less (and a b.counted) (λ at. omega arith)))) (took (less (begin s r) (λ at. omega arith)))

  if_statement : (f : Flags) (s : Input) → Ready room 0 s → Holds (StatementAt room s) (s6.if_statement i f (begin_of s.tokens) s)
  unfolding s6.if_statement
  if_statement f s r = bind (condition f s r) λ x c a. bind (otherwise f i.fuel c (ready a)) λ y d b. took (finish (and a b) (laws.in-if _ _ _ _) (λ at. omega arith), within (laws.span-if _ _ _ _))

  -- ## Loops

  do_statement : {s : Input} {D : ℕ → ℕ} (f : Flags) (c : Input) → At room s 0 0 c D → Holds (StatementAt room s) (s6.do_statement i f (begin_of s.tokens) c)
  unfolding s6.do_statement
  do_statement f c a = bind (h.statement f Under c a.sorted) λ x d b. bind (take (a-word (codes "while")) (and a b.counted)) λ t m n. bind (parenthesized f m n) λ y o p. bind (do_while_end i o p) λ u q w. took (finish w (laws.in-do_while _ _ _) (λ at. omega arith), within (laws.span-do_while _ _ _))

  while_statement : {s : Input} {D : ℕ → ℕ} (f : Flags) (c : Input) → At room s 0 0 c D → Holds (StatementAt room s) (s6.while_statement i f (begin_of s.tokens) c)
  unfolding s6.while_statement
  while_statement f c a = bind (parenthesized f c a) λ x d b. bind (h.statement f Under d b.sorted) λ y m n. took (finish (and b n.counted) (laws.in-while _ _ _) (λ at. omega arith), within (laws.span-while _ _ _))

  optional : {s : Input} {D : ℕ → ℕ} (f : Flags) (c : Input) → At room s 0 1 c D → Holds (λ x d. At room s 0 1 d (λ at. D at + in_some in_expression x at)) (s6.optional i f (mark marks.Semicolon) c)
  unfolding s6.optional
  optional f c a = next semicolon-mark _ a (λ t d k b. took (less b (λ at. omega arith))) (bind (h.sequence (with_in f) c a.sorted) λ x d b. bind (take semicolon-mark (and a b)) λ t m n. took (less n (λ at. omega arith)))

  optional_last : {s : Input} {D : ℕ → ℕ} (f : Flags) (c : Input) → At room s 0 1 c D → Holds (λ x d. At room s 0 0 d (λ at. D at + in_some in_expression x at)) (s6.optional i f (mark marks.RightParenthesis) c)
  unfolding s6.optional
  optional_last f c a = ends right-parenthesis _ a (λ t d b. took (less b (λ at. omega arith))) (bind (h.sequence (with_in f) c a.sorted) λ x d b. bind (close right-parenthesis (and a b)) λ t m n. took (less n (λ at. omega arith)))

  rest_of_for : {s : Input} (f : Flags) (x : ForFirst) (c : Input) → At room s 0 1 c (in_for_first x) → Holds (λ y d. At room s 0 0 d (in_header y)) (s6.rest_of_for i f x c)
  unfolding s6.rest_of_for
  rest_of_for f x c a = bind (optional f c a) λ y d b. bind (optional_last f d b) λ z m n. took (less n (λ at. omega arith))

  rest_of_of : {s : Input} (f : Flags) (x : ForTarget) (c : Input) → At room s 0 1 c (in_for_target x) → Holds (λ y d. At room s 0 0 d (in_header y)) (s6.rest_of_of i f x c)
  unfolding s6.rest_of_of
  rest_of_of f x c a = bind (h.assignment (with_in f) c a.sorted) λ y d b. bind (close right-parenthesis (and a b.grouped)) λ t m n. took (less n (λ at. omega arith))

  first_variables : {s : Input} (f : Flags) (at : ℕ) (kind : VariableKind) (qs : List Part) (c : Input) → At room s 0 1 c (sum_of in_part qs) → Holds (λ y d. At room s 0 0 d (in_header y)) (s6.first_variables i f at kind qs c)
  unfolding s6.first_variables
  first_variables f at kind qs c a = bind (take semicolon-mark a) λ t d b. rest_of_for f _ d (finish b (laws.in-first_variables _ _ _) (λ k. omega arith))

  after_first : {s : Input} (f : Flags) (at : ℕ) (kind : VariableKind) (q : Part) (c : Input) → At room s 0 1 c (in_part q) → Holds (λ y d. At room s 0 0 d (in_header y)) (s6.after_first_variable i f at kind q c)
  unfolding s6.after_first_variable
  after_first f at kind q c a = either (s6.is_whole q) _ _ c (next comma _ a (λ t d k b. bind (variables _ (λ m o. h.variable (without_in f) m o.sorted) i.fuel d (ready b)) λ qs m n. first_variables f at kind _ m (less (and b n) (λ k. omega arith)))
      (first_variables f at kind _ c (less a (λ k. omega arith)))) (refused-holds c)

  after_bare : {s : Input} (f : Flags) (at : ℕ) (kind : VariableKind) (q : Part) (c : Input) → At room s 0 1 c (in_part q) → Holds (λ y d. At room s 0 0 d (in_header y)) (s6.after_bare_variable i f at kind q c)
  unfolding s6.after_bare_variable
  after_bare f at kind q c a = looks _ _ _ c fault (looks _ _ _ c (bind (take (a-word (codes "of")) a) λ t d b. rest_of_of f _ d (finish b (laws.in-declared _ _ _) (λ k. omega (arith, pattern-below q k)))) (after_first f at kind q c a))

  for_variables : {s : Input} {D : ℕ → ℕ} (f : Flags) (at : ℕ) (kind : VariableKind) (c : Input) → At room s 0 1 c D → Holds (λ y d. At room s 0 0 d (in_header y)) (s6.for_variables i f at kind c)
  unfolding s6.for_variables
  for_variables f at kind c a = bind (h.variable (without_in f) c a.sorted) λ q d b. let m = less (and a b) (λ k. omega arith) in either (is_some q.default) _ _ d (after_first f at kind q d m) (after_bare f at kind q d m)

  first_expression : {s : Input} (f : Flags) (x : Expression) (c : Input) → At room s 0 1 c (in_expression x) → Holds (λ y d. At room s 0 0 d (in_header y)) (s6.first_expression i f x c)
  unfolding s6.first_expression
  first_expression f x c a = bind (take semicolon-mark a) λ t d b. rest_of_for f _ d (finish b (laws.in-first_expression _) (λ k. omega arith))

  assigned_in_turn : {s : Input} (f : Flags) (x : Expression) (c : Input) → At room s 0 1 c (in_expression x) → Holds (λ y d. At room s 0 0 d (in_header y)) (s6.assigned_in_turn i f x c)
  unfolding s6.assigned_in_turn
  assigned_in_turn f x c a = bind (fitting i room h (target_before i.fuel assign.Assign x) c a (before-below i.fuel assign.Assign x)) λ p d b. rest_of_of f _ d (finish b (laws.in-assigned _) (λ k. omega arith))

  for_expression : {s : Input} {D : ℕ → ℕ} (f : Flags) (c : Input) → At room s 0 1 c D → Holds (λ y d. At room s 0 0 d (in_header y)) (s6.for_expression i f c)
  unfolding s6.for_expression
  for_expression f c a = bind (h.sequence (without_in f) c a.sorted) λ x d b. let m = less (and a b) (λ k. omega arith) in either (is_left x.shape) _ _ d (looks _ _ _ d fault (next (a-word (codes "of")) _ m (λ t o k n. assigned_in_turn f _ o n) (first_expression f _ d m))) (first_expression f _ d m)

  for_header : {s : Input} {D : ℕ → ℕ} (f : Flags) (c : Input) → At room s 0 1 c D → Holds (λ y d. At room s 0 0 d (in_header y)) (s6.for_header i f c)
  unfolding s6.for_header
  for_header f c a = next semicolon-mark _ a (λ t d k b. rest_of_for f _ d (finish b laws.in-no_first (λ k. omega arith))) (next kind-word _ a (λ kind d k b. for_variables f _ kind d b) (for_expression f c a))

  for_statement : {s : Input} {D : ℕ → ℕ} (f : Flags) (c : Input) → At room s 0 0 c D → Holds (StatementAt room s) (s6.for_statement i f (begin_of s.tokens) c)
  unfolding s6.for_statement
  for_statement f c a = bind (group i marks.LeftParenthesis _ h.opens (refl, refl, refl) a (λ d b. for_header f d b) (refused-holds c)) λ x d b. bind (h.statement f Under d b.sorted) λ y m n. took (finish (and b n.counted) (in-loop x y _) (λ at. omega arith), within (span-loop x y _))

  -- ## Jumps and switches

  continue_statement : {s : Input} {D : ℕ → ℕ} (c : Input) → At room s 0 0 c D → Holds (StatementAt room s) (s6.continue_statement i (begin_of s.tokens) c)
  unfolding s6.continue_statement
  continue_statement c a = bind (optional_label c a) λ x d b. bind (semicolon_ i d b) λ t m n. took (finish n (laws.in-continue _ _) (λ at. omega arith), within (laws.span-continue _ _))

  break_statement : {s : Input} {D : ℕ → ℕ} (c : Input) → At room s 0 0 c D → Holds (StatementAt room s) (s6.break_statement i (begin_of s.tokens) c)
  unfolding s6.break_statement
  break_statement c a = bind (optional_label c a) λ x d b. bind (semicolon_ i d b) λ t m n. took (finish n (laws.in-break _ _) (λ at. omega arith), within (laws.span-break _ _))

  returned : {s : Input} {D : ℕ → ℕ} (f : Flags) (c : Input) → At room s 0 0 c D → Holds (λ x d. At room s 0 0 d (in_some in_expression x)) (s6.returned i f c)
  unfolding s6.returned
  returned f c a = looks _ _ _ c (bind (sequence i room h (with_in f) c (ready a)) λ x d b. took (less (and a b.0) (λ at. omega arith))) (took (less a (λ at. omega arith)))

  return_statement : {s : Input} {D : ℕ → ℕ} (f : Flags) (c : Input) → At room s 0 0 c D → Holds (StatementAt room s) (s6.return_statement i f (begin_of s.tokens) c)
  unfolding s6.return_statement
  return_statement f c a = bind (returned f c a) λ x d b. bind (semicolon_ i d b) λ t m n. took (finish n (laws.in-return _ x) (λ at. omega arith), within (laws.span-return _ x))

  throw_statement : {s : Input} {D : ℕ → ℕ} (f : Flags) (c : Input) → At room s 0 0 c D → Holds (StatementAt room s) (s6.throw_statement i f (begin_of s.tokens) c)
  unfolding s6.throw_statement
  throw_statement f c a = looks _ _ _ c (refused-holds c) (bind (sequence i room h (with_in f) c (ready a)) λ x d b. bind (semicolon_ i d (and a b.0)) λ t m n. took (finish n (laws.in-throw _ _) (λ at. omega arith), within (laws.span-throw _ _)))

  in_case_clause : (f : Flags) (n : ℕ) (s : Input) → Ready room 1 s → Holds (λ xs c. At room s 1 1 c (sum_of in_statement xs)) (s6.in_case i f n s)
  unfolding s6.in_case
  in_case_clause f zero s r = fault
  in_case_clause f (suc n) s r = looks _ _ _ s (took (less (begin s r) (λ at. omega arith))) (bind (h.statement f Listed s r.sorted) λ x c a. bind (in_case_clause f n c (ready a.grouped)) λ xs d b. took (less (and a.grouped b) (λ at. omega arith)))

  case_clause : {s : Input} {D : ℕ → ℕ} (f : Flags) (at : ℕ) (c : Input) → At room s 1 1 c D → Holds (λ x d. At room s 1 1 d (in_case x)) (s6.case_clause i f at c)
  unfolding s6.case_clause
  case_clause f at c a = bind (h.sequence (with_in f) c a.sorted) λ x d b. bind (take colon (and a b)) λ t m n. bind (in_case_clause f i.fuel m (ready n)) λ xs o p. took (finish (and n p) (laws.in-case _ (Some x.value) xs) (λ k. omega arith))

  default_clause : {s : Input} {D : ℕ → ℕ} (f : Flags) (at : ℕ) (c : Input) → At room s 1 1 c D → Holds (λ x d. At room s 1 1 d (in_case x)) (s6.default_clause i f at c)
  unfolding s6.default_clause
  default_clause f at c a = bind (take colon a) λ t m n. bind (in_case_clause f i.fuel m (ready n)) λ xs o p. took (finish (and n p) (laws.in-case _ None xs) (λ k. omega arith))

  cases : (f : Flags) (may : Bool) (n : ℕ) (s : Input) → Ready room 1 s → Holds (λ xs c. At room s 1 0 c (sum_of in_case xs)) (s6.cases i f may n s)
  unfolding s6.cases
  cases f may zero s r = fault
  cases f may (suc n) s r = let a = begin s r in ends right-brace _ a (λ t c b. took (less b (λ at. omega arith)))
      (next (a-word (codes "case")) _ a (λ t c k b. bind (case_clause f _ c b) λ x d m. bind (cases f may n d (ready m)) λ xs o p. took (less (and m p) (λ at. omega arith)))
      (either may _ _ s (next (a-word (codes "default")) _ a (λ t c k b. bind (default_clause f _ c b) λ x d m. bind (cases f false n d (ready m)) λ xs o p. took (less (and m p) (λ at. omega arith))) (refused-holds s)) (refused-holds s)))

  switch_statement : {s : Input} {D : ℕ → ℕ} (f : Flags) (c : Input) → At room s 0 0 c D → Holds (StatementAt room s) (s6.switch_statement i f (begin_of s.tokens) c)
  unfolding s6.switch_statement
  switch_statement f c a = bind (parenthesized f c a) λ x d b. bind (group i marks.LeftBrace _ h.opens (refl, refl, refl) b (λ m n. weaken (cases f true i.fuel m (ready n)) (λ xs o p. and n p)) (refused-holds d)) λ xs m n. took (finish n (laws.in-switch _ _ _) (λ at. omega arith), within (laws.span-switch _ _ _))

  -- ## Try

  catch_parameter : {s : Input} {D : ℕ → ℕ} (f : Flags) (c : Input) → At room s 0 1 c D → Holds (λ x d. At room s 0 0 d (in_pattern x)) (s6.catch_parameter i f c)
  unfolding s6.catch_parameter
  catch_parameter f c a = bind (h.target (with_in f) c a.sorted) λ x d b. bind (close right-parenthesis (and a b)) λ t m n. took (less n (λ at. omega arith))

  handler : (f : Flags) (s : Input) → Ready room 0 s → Holds (λ x c. At room s 0 0 c (in_catch x)) (s6.handler i f s)
  unfolding s6.handler
  handler f s r = bind (take (a-word (codes "catch")) (begin s r)) λ t c a. bind (group i marks.LeftParenthesis _ h.opens (refl, refl, refl) a (λ d b. catch_parameter f d b) (refused-holds c)) λ x d b. bind (block i room h f d (ready b)) λ y m n. took (finish (and b n.0) (laws.in-catch _ _ _) (λ at. omega arith))

  after_handler : {s : Input} (f : Flags) (b : Block) (x : Catch) (c : Input) → At room s 0 0 c (λ at. in_block b at + in_catch x at) → Holds (StatementAt room s) (s6.after_handler i f (begin_of s.tokens) b x c)
  unfolding s6.after_handler
  after_handler f b x c a = next (a-word (codes "finally")) _ a (λ t d k m. bind (block i room h f d (ready m)) λ y o p. took (finish (and m p.0) (laws.in-try _ b (Some x) (Some y)) (λ at. omega arith), within (laws.span-try _ b (Some x) (Some y)))) (took (finish a (laws.in-try _ b (Some x) None) (λ at. omega arith), within (laws.span-try _ b (Some x) None)))

  only_finally : {s : Input} (f : Flags) (b : Block) (c : Input) → At room s 0 0 c (in_block b) → Holds (StatementAt room s) (s6.only_finally i f (begin_of s.tokens) b c)
  unfolding s6.only_finally
  only_finally f b c a = bind (take (a-word (codes "finally")) a) λ t d m. bind (block i room h f d (ready m)) λ y o p. took (finish (and m p.0) (laws.in-try _ b None (Some y)) (λ at. omega arith), within (laws.span-try _ b None (Some y)))

  try_statement : {s : Input} {D : ℕ → ℕ} (f : Flags) (c : Input) → At room s 0 0 c D → Holds (StatementAt room s) (s6.try_statement i f (begin_of s.tokens) c)
  unfolding s6.try_statement
  try_statement f c a = bind (block i room h f c (ready a)) λ b d m. let n = less (and a m.0) (λ at. omega arith) in looks _ _ _ d (bind (handler f d (ready n)) λ x o p. after_handler f b x o (and n p)) (only_finally f b d n)

  debugger_statement : {s : Input} {D : ℕ → ℕ} (c : Input) → At room s 0 0 c D → Holds (StatementAt room s) (s6.debugger_statement i (begin_of s.tokens) c)
  unfolding s6.debugger_statement
  debugger_statement c a = bind (semicolon_ i c a) λ t m n. took (finish n (laws.in-debugger _) (λ at. omega arith), within (laws.span-debugger _))

  -- ## Expressions, labels and declarations

  expression_end : {s : Input} (x : Expression) (c : Input) → At room s 0 0 c (in_expression x) → Holds (StatementAt room s) (s6.expression_end i (begin_of s.tokens) x c)
  unfolding s6.expression_end
  expression_end x c a = bind (semicolon_ i c a) λ t m n. took (finish n (laws.in-expression_statement _ _) (λ at. omega arith), within (laws.span-expression_statement _ _))

  labelled : {s : Input} {D : ℕ → ℕ} (f : Flags) (n : Identifier) (c : Input) → At room s 0 0 c D → Holds (StatementAt room s) (s6.labelled i f (begin_of s.tokens) n c)
  unfolding s6.labelled
  labelled f n c a = bind (h.statement f Labelled c a.sorted) λ x d b. took (finish (and a b.counted) (laws.in-labelled _ _ _) (λ at. omega arith), within (laws.span-labelled _ _ _))

  label_or_end : {s : Input} (f : Flags) (n : Option Identifier) (x : Expression) (c : Input) → At room s 0 0 c (in_expression x) → Holds (StatementAt room s) (s6.label_or_end i f (begin_of s.tokens) n x c)
  label_or_end f (Some n) x c a = next colon _ a (λ t d k b. labelled f n d b) (expression_end x c a)
  label_or_end f None x c a = expression_end x c a

  expression_statement : (f : Flags) (s : Input) → Ready room 0 s → Holds (StatementAt room s) (s6.expression_statement i f (begin_of s.tokens) s)
  unfolding s6.expression_statement
  expression_statement f s r = bind (sequence i room h f s r) λ x c a. label_or_end f _ _ c a.0

  function_declaration : {s : Input} {D : ℕ → ℕ} (c : Input) → At room s 0 0 c D → Holds (StatementAt room s) (s6.function_declaration i (begin_of s.tokens) c)
  unfolding s6.function_declaration
  function_declaration c a = bind (function i room h false c a) λ g d b. took (finish b.0 (laws.in-function_declaration _) (λ at. omega arith), same-span (laws.span-function_declaration _) b.1)

  class_declaration : {s : Input} {D : ℕ → ℕ} (f : Flags) (c : Input) → At room s 0 0 c D → Holds (StatementAt room s) (s6.class_declaration i f (begin_of s.tokens) c)
  unfolding s6.class_declaration
  class_declaration f c a = bind (class i room h f false c a) λ g d b. took (finish b.0 (laws.in-class_declaration _) (λ at. omega arith), same-span (laws.span-class_declaration _) b.1)

  pub on_declaration : (f : Flags) (q : Parser Statement) (s : Input) → Ready room 0 s → Holds (StatementAt room s) (q s) → Holds (StatementAt room s) (s6.on_declaration i f (begin_of s.tokens) q s)
  on_declaration f q s r k = let a = begin s r in next (a-word (codes "function")) _ a (λ t c e b. function_declaration c b) (next (a-word (codes "class")) _ a (λ t c e b. class_declaration f c b) (next lexical-word _ a (λ kind c e b. variables_statement f kind c b) k))

  labelled_function : {s : Input} {D : ℕ → ℕ} (c : Input) → At room s 0 0 c D → Holds (StatementAt room s) (s6.labelled_function i (begin_of s.tokens) c)
  unfolding s6.labelled_function
  labelled_function c a = bind (named_function i room h false c a) λ g d b. took (finish b.0 (laws.in-function_declaration _) (λ at. omega arith), same-span (laws.span-function_declaration _) b.1)

  on_more : (f : Flags) (stand : Stand) (q : Parser Statement) (s : Input) → Ready room 0 s → Holds (StatementAt room s) (q s) → Holds (StatementAt room s) (s6.on_more i f stand (begin_of s.tokens) q s)
  on_more f Listed q s r k = on_declaration f q s r k
  on_more f Under q s r k = k
  on_more f Labelled q s r k = next (a-word (codes "function")) _ (begin s r) (λ t c e b. labelled_function c b) k

  plain_statement : (f : Flags) (s : Input) → Ready room 0 s → Holds (StatementAt room s) (s6.plain_statement i f (begin_of s.tokens) s)
  unfolding s6.plain_statement
  plain_statement f s r = looks _ _ _ s fault (looks _ _ _ s fault (expression_statement f s r))

  jump_statement : (f : Flags) (stand : Stand) (s : Input) → Ready room 0 s → Holds (StatementAt room s) (s6.jump_statement i f stand (begin_of s.tokens) s)
  unfolding s6.jump_statement
  jump_statement f stand s r = let a = begin s r in
      next (a-word (codes "continue")) _ a (λ t c k b. continue_statement c b) (next (a-word (codes "break")) _ a (λ t c k b. break_statement c b) (next (a-word (codes "throw")) _ a (λ t c k b. throw_statement f c b) (next (a-word (codes "debugger")) _ a (λ t c k b. debugger_statement c b)
      (either f.has_return _ _ s (next (a-word (codes "return")) _ a (λ t c k b. return_statement f c b) (on_more f stand _ s r (plain_statement f s r))) (on_more f stand _ s r (plain_statement f s r))))))

  compound_statement : (f : Flags) (stand : Stand) (s : Input) → Ready room 0 s → Holds (StatementAt room s) (s6.compound_statement i f stand (begin_of s.tokens) s)
  unfolding s6.compound_statement
  compound_statement f stand s r = let a = begin s r in
      next (a-word (codes "do")) _ a (λ t c k b. do_statement f c b) (next (a-word (codes "while")) _ a (λ t c k b. while_statement f c b) (next (a-word (codes "for")) _ a (λ t c k b. for_statement f c b)
      (next (a-word (codes "switch")) _ a (λ t c k b. switch_statement f c b) (next (a-word (codes "try")) _ a (λ t c k b. try_statement f c b) (jump_statement f stand s r)))))

  block_statement : (f : Flags) (s : Input) → Ready room 0 s → Holds (StatementAt room s) (s6.block_statement i f s)
  unfolding s6.block_statement
  block_statement f s r = bind (block i room h f s r) λ b c a. took (finish a.0 (laws.in-block_statement _) (λ at. omega arith), same-span (laws.span-block_statement _) a.1)

  pub statement : (f : Flags) (stand : Stand) (s : Input) → Ready room 0 s → Holds (StatementAt room s) (s6.statement i f stand s)
  unfolding s6.statement
  statement f stand s r = looks _ _ _ s (block_statement f s r) (looks _ _ _ s (if_statement f s r) (next semicolon-mark _ (begin s r) (λ t c k a. took (finish a (laws.in-empty _) (λ at. omega arith), within (laws.span-empty _)))
      (next (a-word (codes "var")) _ (begin s r) (λ t c k a. variables_statement f Var c a) (compound_statement f stand s r))))

  -- ## Where the tokens end

  pub none-block : (f : Flags) → Nothing (t6.block i f)
  unfolding t6.block
  none-block f last = refused-holds (record { tokens = []; last = last })

  none-plain : (f : Flags) (at : ℕ) → Nothing (s6.plain_statement i f at)
  unfolding s6.plain_statement s6.expression_statement
  none-plain f at last = bind (none-sequence i room h f last) λ x c z. absurd z

  none-more : (f : Flags) (stand : Stand) (at : ℕ) → Nothing (s6.on_more i f stand at (s6.plain_statement i f at))
  none-more f Listed at last = none-plain f at last
  none-more f Under at last = none-plain f at last
  none-more f Labelled at last = none-plain f at last

  pub none-statement : (f : Flags) (stand : Stand) → Nothing (s6.statement i f stand)
  unfolding s6.statement s6.compound_statement s6.jump_statement
  none-statement f stand last = either f.has_return _ _ _ (none-more f stand _ last) (none-more f stand _ last)
