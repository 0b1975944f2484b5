-- The readers of statements with insertion follow those without it.
use Rattle.std.proofs.Common.{◌≡◌, ℕ, zero, suc, Bool, true, false, List, [], ◌∷◌, Option, Some, None, refl, sym, ap, subst}
use Rattle.std.specs.Prelude.{codes, is_some}
use Rattle.es6_lexer.specs.declared.token.Punctuator.{Punctuator as Mark}
use Rattle.es6_lexer.specs.declared.token.Punctuator.TheVariants as marks
use Rattle.es6_ast.specs.declared.operators.AssignOperator.TheVariants as assign
use Rattle.es6_ast.specs.declared.operators.VariableKind.{VariableKind}
use Rattle.es6_ast.specs.declared.tree.Identifier.{Identifier}
use Rattle.es6_ast.specs.declared.tree.Expression.{Expression}
use Rattle.es6_ast.specs.declared.tree.Statement.TheVariants as stat
use Rattle.es6_ast.specs.declared.tree.Block.{Block}
use Rattle.es6_ast.specs.declared.tree.Case.{Case}
use Rattle.es6_ast.specs.declared.tree.Catch.{Catch, roll-Catch}
use Rattle.es6_ast.specs.declared.tree.Condition.{Condition, roll-Condition}
use Rattle.es6_ast.specs.declared.tree.ForFirst.{ForFirst}
use Rattle.es6_ast.specs.declared.tree.ForFirst.TheVariants.{NoFirst, FirstVariables, FirstExpression}
use Rattle.es6_ast.specs.declared.tree.ForTarget.{ForTarget}
use Rattle.es6_ast.specs.declared.tree.ForTarget.TheVariants.{Declared}
use Rattle.es6_ast.specs.declared.tree.Part.{Part}
use Rattle.es6_ast.specs.declared.settings.Flags.{Flags}
use Rattle.es6_ast.specs.declared.settings.Stand.TheVariants.{Listed, Under}
use Rattle.es6_ast.specs.declared.settings.Stop.TheVariants.{Outside}
use Rattle.es6_ast.specs.Tokens.{Filled}
use Rattle.es6_ast.specs.Grammar.{with_in, without_in}
use Rattle.es6_reading.specs.Parser.{Input, Parser, returns, fails, ◌>>=◌, refused, on, choose, take_as, mark, word, next_word, made, is_left, Inner, group, semicolon}
use Rattle.es6_reading.specs.Words.{kind_at}
use Rattle.es6_reading.specs.Refine.{target_before}
use Rattle.es6_reading.specs.Parts.{block, initialized}
use Rattle.es6_reading.specs.Statements.{is_whole, one_variable, variables, variables_statement, parenthesized, condition, otherwise, if_statement, do_statement, while_statement, Header, optional, rest_of_for, rest_of_of, first_variables, after_first_variable, after_bare_variable, for_variables, first_expression, assigned_in_turn, for_expression, for_header, for_statement, label_at, optional_label, continue_statement, break_statement, goes_on, returned, return_statement, begins_line, throw_statement, ends_case, in_case, case_clause, default_clause, cases, switch_statement, catch_parameter, handler, after_handler, only_finally, try_statement, debugger_statement}
use Rattle.es6_reading.proofs.Posts.{Holds, took, fault, weaken, refused-holds}
use Rattle.es6_reading.proofs.Follows.{plus, semi, Whatever, stop, FollowedBy, FirmBy, bind-follows, stands-less}
use Rattle.es6_reading.proofs.FollowChoices.{Runs, on-follows, mark-follows, choose-follows, StopsAtSemi, stopped, if-follows, if-semi-follows, only-group-follows, whole-group-follows, from-follows, made-follows, made-at-follows, returns-follows, spelled-follows, firm-followed-by, take-firm, strictly, strict-then-firm}
use Rattle.es6_reading.proofs.FollowEnds.{Follows, semicolon-follows, do-while-follows, fitting-follows}
use Rattle.es6_reading.proofs.FollowParts.{word-follows, follow-initialized, follow-block}
use Rattle.es6_reading.proofs.FollowLevels.{sequence-stops, follow-sequence}
use Rattle.es6_reading.proofs.RefineMore.{Kept, kept-before}

goes-none : (d : Bool) (at : ℕ) → goes_on (semi d at) ≡ false
goes-none true at = refl
goes-none false at = refl

abbrev pub label_from : ℕ → Parser (Option Identifier)
label_from at = on label_at (λ name. made at (λ span. Some (record { span = span; name = name }))) (returns None)

follow-label : (s : Input) → Runs (λ l. optional_label) optional_label s
unfolding optional_label
follow-label s = from-follows label_from (λ l. label_from) s (λ l place place' d at us last. refl)
    (on-follows label_at (λ d at. refl) _ _ _ _ s (λ name c n. made-follows _ c (λ _ _ _. refl)) (λ m. returns-follows _ s))

follow-one-variable : (one : Parser Part) (one' : ℕ → Parser Part) (h : (s : Input) → Runs one' one s) (s : Input) → Runs (λ l. one_variable (one' l)) (one_variable one) s
unfolding one_variable
follow-one-variable one one' h s = bind-follows _ _ _ _ s (h s) (λ q c. choose-follows (is_whole q) (returns q) (λ l. returns q) refused (λ l. refused) c (λ e. returns-follows _ c) (λ e. refused-holds c))

follow-variables : (one : Parser Part) (one' : ℕ → Parser Part) (h : (s : Input) → Runs one' one s) (turns : ℕ) (s : Input) → Runs (λ l. variables (one' l) (plus turns l)) (variables one turns) s
unfolding variables
follow-variables one one' h zero s = fault
follow-variables one one' h (suc turns) s = bind-follows _ _ _ _ s (follow-one-variable one one' h s) (λ x c. on-follows (mark marks.Comma) (λ d at. refl) _ _ _ _ c
    (λ t d k. bind-follows _ _ _ _ d (follow-variables one one' h turns d) (λ xs e. returns-follows _ e)) (λ m. returns-follows _ c))

whatever-follows : {A : Type 0} (x : A) (s : Input) → Holds (FollowedBy Whatever (λ l. returns x) s) (returns x s)
whatever-follows x s = took (record { filled = []; ends = refl; gaps = stop; run = λ l rest k. refl })

abbrev pub condition_from : Inner → Flags → ℕ → Parser Condition
condition_from i f at = ◌>>=◌ (take_as (word (codes "if"))) (λ _. ◌>>=◌ (parenthesized i f) (λ test. ◌>>=◌ (i.statement f Under) (λ s. made at (λ span. roll-Condition (record { span = span; test = test; body = s })))))

abbrev pub header_from : Inner → Flags → ℕ → Parser Header
header_from i f at = on (mark marks.Semicolon) (λ _. rest_of_for i f NoFirst) (on kind_at (λ kind. for_variables i f at kind) (for_expression i f))

abbrev pub handler_from : Inner → Flags → ℕ → Parser Catch
handler_from i f at = ◌>>=◌ (take_as (word (codes "catch"))) (λ _. ◌>>=◌ (group i marks.LeftParenthesis (catch_parameter i f)) (λ p. ◌>>=◌ (block i f) (λ b. made at (λ span. roll-Catch (record { span = span; parameter = p; body = b })))))

abbrev pub cases_from : Inner → Flags → Bool → Parser (List Case) → Parser (List Case) → ℕ → Parser (List Case)
cases_from i f may more last at = on (mark marks.RightBrace) (λ _. returns []) (on (word (codes "case")) (λ _. ◌>>=◌ (case_clause i f at) (λ c. ◌>>=◌ more (λ cs. returns (c ∷ cs))))
    (choose may (on (word (codes "default")) (λ _. ◌>>=◌ (default_clause i f at) (λ c. ◌>>=◌ last (λ cs. returns (c ∷ cs)))) refused) refused))

module _ (i : Inner) (i' : ℕ → Inner) (h : Follows i i') where
  pub follow-semicolon : (s : Input) → Runs (λ l. semicolon (i' l)) (semicolon i) s
  follow-semicolon s = semicolon-follows i i' h s

  pub follow-variables-statement : (f : Flags) (at : ℕ) (kind : VariableKind) (s : Input) → Runs (λ l. variables_statement (i' l) f at kind) (variables_statement i f at kind) s
  unfolding variables_statement
  follow-variables-statement f at kind s = bind-follows _ _ _ _ s
      (spelled-follows _ (λ l. variables (initialized (i' l) f f) (plus i.fuel l)) s (λ l. ap (λ n. variables (initialized (i' l) f f) n) (h.fuel l)) (follow-variables (initialized i f f) (λ l. initialized (i' l) f f) (λ c. follow-initialized i i' h f f c) i.fuel s))
      (λ qs c. bind-follows _ _ _ _ c (follow-semicolon c) (λ u d. made-follows _ d (λ _ _ _. refl)))

  -- ## If

  paren-closes : (f : Flags) (s : Input) → Holds (FirmBy Whatever (λ l. parenthesized (i' l) f) s) (parenthesized i f s)
  unfolding parenthesized
  paren-closes f s = whole-group-follows i i' marks.LeftParenthesis _ _ s h.opens
      (λ c. strict-then-firm Whatever _ _ _ _ c (strictly (h.sequence (with_in f) c)) (λ x d. take-firm (mark marks.RightParenthesis) (λ _. returns x.value) (λ l _. returns x.value) d (λ t e. whatever-follows x.value e)))

  follow-paren : (f : Flags) (s : Input) → Runs (λ l. parenthesized (i' l) f) (parenthesized i f) s
  follow-paren f s = weaken (paren-closes f s) (λ y d r. stands-less {more = Whatever} (λ ts us k. tt) (firm-followed-by r))

  condition-free : (f : Flags) (l place place' : ℕ) (d : Bool) (at : ℕ) (us : List Filled) (last : ℕ) → condition_from (i' l) f place (record { tokens = semi d at ∷ us; last = last }) ≡ condition_from (i' l) f place' (record { tokens = semi d at ∷ us; last = last })
  unfolding refused
  condition-free f l place place' d at us last = refl

  follow-condition : (f : Flags) (s : Input) → Runs (λ l. condition (i' l) f) (condition i f) s
  unfolding condition
  follow-condition f s = from-follows (condition_from i f) (λ l. condition_from (i' l) f) s (condition-free f)
      (bind-follows _ _ _ _ s (word-follows (codes "if") s) (λ t c. bind-follows _ _ _ _ c (follow-paren f c) (λ test d. bind-follows _ _ _ _ d (h.statement f Under d) (λ x e. made-follows _ e (λ _ _ _. refl)))))

  condition-stops : (f : Flags) → StopsAtSemi (λ l. condition (i' l) f)
  unfolding condition refused
  condition-stops f l d at us last = fault

  follow-otherwise : (f : Flags) (turns : ℕ) (s : Input) → Runs (λ l. otherwise (i' l) f (plus turns l)) (otherwise i f turns) s
  unfolding otherwise
  follow-otherwise f zero s = fault
  follow-otherwise f (suc turns) s = on-follows (word (codes "else")) (λ d at. refl) _ _ _ _ s
      (λ t c n. if-follows (next_word (codes "if")) (λ d at. refl) _ _ _ _ c (λ l d at us last. stopped _ (condition-stops f l d at us last))
      (λ e. bind-follows _ _ _ _ c (follow-condition f c) (λ x d. bind-follows _ _ _ _ d (follow-otherwise f turns d) (λ r e. returns-follows _ e)))
      (λ e. bind-follows _ _ _ _ c (h.statement f Under c) (λ x d. returns-follows _ d)))
      (λ m. returns-follows _ s)

  pub if-statement-stops : (f : Flags) (at : ℕ) → StopsAtSemi (λ l. if_statement (i' l) f at)
  unfolding if_statement
  if-statement-stops f at l d place us last = stopped _ (condition-stops f l d place us last)

  pub follow-if : (f : Flags) (at : ℕ) (s : Input) → Runs (λ l. if_statement (i' l) f at) (if_statement i f at) s
  unfolding if_statement
  follow-if f at s = bind-follows _ _ _ _ s (follow-condition f s) (λ x c. bind-follows _ _ _ _ c
      (spelled-follows _ (λ l. otherwise (i' l) f (plus i.fuel l)) c (λ l. ap (λ n. otherwise (i' l) f n) (h.fuel l)) (follow-otherwise f i.fuel c)) (λ r d. made-follows _ d (λ _ _ _. refl)))

  -- ## Loops

  pub follow-do : (f : Flags) (at : ℕ) (s : Input) → Runs (λ l. do_statement (i' l) f at) (do_statement i f at) s
  unfolding do_statement
  follow-do f at s = bind-follows _ _ _ _ s (h.statement f Under s) (λ x c. bind-follows _ _ _ _ c (word-follows (codes "while") c)
      (λ t d. do-while-follows i i' h (λ test span. stat.DoWhile span x test) at (parenthesized i f) (λ l. parenthesized (i' l) f) d (paren-closes f d)))

  pub follow-while : (f : Flags) (at : ℕ) (s : Input) → Runs (λ l. while_statement (i' l) f at) (while_statement i f at) s
  unfolding while_statement
  follow-while f at s = bind-follows _ _ _ _ s (follow-paren f s) (λ x c. bind-follows _ _ _ _ c (h.statement f Under c) (λ y d. made-follows _ d (λ _ _ _. refl)))

  follow-optional : (f : Flags) (end : Mark) (s : Input) → Runs (λ l. optional (i' l) f (mark end)) (optional i f (mark end)) s
  unfolding optional
  follow-optional f end s = on-follows (mark end) (λ d at. refl) _ _ _ _ s (λ t c n. returns-follows _ c)
      (λ m. bind-follows _ _ _ _ s (h.sequence (with_in f) s) (λ x c. bind-follows _ _ _ _ c (mark-follows end c) (λ t d. returns-follows _ d)))

  follow-rest-of-for : (f : Flags) (first : ForFirst) (s : Input) → Runs (λ l. rest_of_for (i' l) f first) (rest_of_for i f first) s
  unfolding rest_of_for
  follow-rest-of-for f first s = bind-follows _ _ _ _ s (follow-optional f marks.Semicolon s) (λ x c. bind-follows _ _ _ _ c (follow-optional f marks.RightParenthesis c) (λ y d. returns-follows _ d))

  follow-rest-of-of : (f : Flags) (target : ForTarget) (s : Input) → Runs (λ l. rest_of_of (i' l) f target) (rest_of_of i f target) s
  unfolding rest_of_of
  follow-rest-of-of f target s = bind-follows _ _ _ _ s (h.assignment (with_in f) s) (λ x c. bind-follows _ _ _ _ c (mark-follows marks.RightParenthesis c) (λ t d. returns-follows _ d))

  follow-first-variables : (f : Flags) (at : ℕ) (kind : VariableKind) (qs : List Part) (s : Input) → Runs (λ l. first_variables (i' l) f at kind qs) (first_variables i f at kind qs) s
  unfolding first_variables
  follow-first-variables f at kind qs s = bind-follows _ _ (λ first. ◌>>=◌ (take_as (mark marks.Semicolon)) (λ _. rest_of_for i f first)) (λ l first. ◌>>=◌ (take_as (mark marks.Semicolon)) (λ _. rest_of_for (i' l) f first)) s
      (made-at-follows at (λ span. FirstVariables span kind qs) s) (λ first c. bind-follows _ _ _ _ c (mark-follows marks.Semicolon c) (λ t d. follow-rest-of-for f first d))

  follow-after-first : (f : Flags) (at : ℕ) (kind : VariableKind) (q : Part) (s : Input) → Runs (λ l. after_first_variable (i' l) f at kind q) (after_first_variable i f at kind q) s
  unfolding after_first_variable
  follow-after-first f at kind q s = choose-follows (is_whole q) _ _ refused (λ l. refused) s
      (λ e. on-follows (mark marks.Comma) (λ d at. refl) _ _ _ _ s
      (λ t c n. bind-follows _ _ _ _ c (spelled-follows _ (λ l. variables ((i' l).variable (without_in f)) (plus i.fuel l)) c (λ l. ap (λ n. variables ((i' l).variable (without_in f)) n) (h.fuel l)) (follow-variables (i.variable (without_in f)) (λ l. (i' l).variable (without_in f)) (λ d. h.variable (without_in f) d) i.fuel c))
      (λ qs d. follow-first-variables f at kind (q ∷ qs) d))
      (λ m. follow-first-variables f at kind (q ∷ []) s))
      (λ e. refused-holds s)

  abbrev of_target : Inner → Flags → ℕ → VariableKind → Part → Parser Header
  of_target j f at kind q = ◌>>=◌ (made at (λ span. Declared span kind q.pattern)) (λ target. ◌>>=◌ (take_as (word (codes "of"))) (λ _. rest_of_of j f target))

  of-target-stops : (f : Flags) (at : ℕ) (kind : VariableKind) (q : Part) → StopsAtSemi (λ l. of_target (i' l) f at kind q)
  unfolding refused
  of-target-stops f at kind q l d place us last = fault

  follow-of-target : (f : Flags) (at : ℕ) (kind : VariableKind) (q : Part) (s : Input) → Runs (λ l. of_target (i' l) f at kind q) (of_target i f at kind q) s
  follow-of-target f at kind q s = bind-follows _ _ (λ target. ◌>>=◌ (take_as (word (codes "of"))) (λ _. rest_of_of i f target)) (λ l target. ◌>>=◌ (take_as (word (codes "of"))) (λ _. rest_of_of (i' l) f target)) s
      (made-at-follows at (λ span. Declared span kind q.pattern) s) (λ target c. bind-follows _ _ _ _ c (word-follows (codes "of") c) (λ t d. follow-rest-of-of f target d))

  follow-after-bare : (f : Flags) (at : ℕ) (kind : VariableKind) (q : Part) (s : Input) → Runs (λ l. after_bare_variable (i' l) f at kind q) (after_bare_variable i f at kind q) s
  unfolding after_bare_variable
  follow-after-bare f at kind q s = if-follows (next_word (codes "in")) (λ d at. refl) (fails (Outside 1)) (λ l. fails (Outside 1)) _ _ s (λ l d at us last. fault) (λ e. fault)
      (λ e. if-follows (next_word (codes "of")) (λ d at. refl) (of_target i f at kind q) (λ l. of_target (i' l) f at kind q) (after_first_variable i f at kind q) (λ l. after_first_variable (i' l) f at kind q) s (of-target-stops f at kind q)
      (λ k. follow-of-target f at kind q s) (λ k. follow-after-first f at kind q s))

  follow-for-variables : (f : Flags) (at : ℕ) (kind : VariableKind) (s : Input) → Runs (λ l. for_variables (i' l) f at kind) (for_variables i f at kind) s
  unfolding for_variables
  follow-for-variables f at kind s = bind-follows _ _ _ _ s (h.variable (without_in f) s) (λ q c. choose-follows (is_some q.default) _ _ _ _ c (λ e. follow-after-first f at kind q c) (λ e. follow-after-bare f at kind q c))

  follow-first-expression : (f : Flags) (x : Expression) (s : Input) → Runs (λ l. first_expression (i' l) f x) (first_expression i f x) s
  unfolding first_expression
  follow-first-expression f x s = bind-follows _ _ _ _ s (mark-follows marks.Semicolon s) (λ t c. follow-rest-of-for f (FirstExpression x) c)

  follow-assigned-in-turn : (f : Flags) (x : Expression) (s : Input) → Runs (λ l. assigned_in_turn (i' l) f x) (assigned_in_turn i f x) s
  unfolding assigned_in_turn
  follow-assigned-in-turn f x s = bind-follows _ _ _ _ s
      (fitting-follows (target_before i.fuel assign.Assign x) (λ l. target_before (i' l).fuel assign.Assign x) s (λ l. subst (λ n. Kept (target_before i.fuel assign.Assign x) (target_before n assign.Assign x)) (sym (h.fuel l)) (kept-before i.fuel l assign.Assign x)))
      (λ p c. follow-rest-of-of f _ c)

  follow-for-expression : (f : Flags) (s : Input) → Runs (λ l. for_expression (i' l) f) (for_expression i f) s
  unfolding for_expression
  follow-for-expression f s = bind-follows _ _ _ _ s (h.sequence (without_in f) s) (λ x c. choose-follows (is_left x.shape) _ _ _ _ c
      (λ e. if-follows (next_word (codes "in")) (λ d at. refl) (fails (Outside 1)) (λ l. fails (Outside 1)) _ _ c (λ l d at us last. fault) (λ e. fault)
      (λ k. on-follows (word (codes "of")) (λ d at. refl) _ _ _ _ c (λ t d n. follow-assigned-in-turn f x.value d) (λ m. follow-first-expression f x.value c)))
      (λ e. follow-first-expression f x.value c))

  follow-header : (f : Flags) (s : Input) → Runs (λ l. for_header (i' l) f) (for_header i f) s
  unfolding for_header
  follow-header f s = from-follows (header_from i f) (λ l. header_from (i' l) f) s (λ l place place' d at us last. refl)
      (on-follows (mark marks.Semicolon) (λ d at. refl) _ _ _ _ s (λ t c n. follow-rest-of-for f NoFirst c) (λ m.
      on-follows kind_at (λ d at. refl) _ _ _ _ s (λ kind c n. follow-for-variables f _ kind c) (λ m. follow-for-expression f s)))

  pub follow-for : (f : Flags) (at : ℕ) (s : Input) → Runs (λ l. for_statement (i' l) f at) (for_statement i f at) s
  unfolding for_statement
  follow-for f at s = bind-follows _ _ _ _ s (only-group-follows i i' marks.LeftParenthesis _ _ s h.opens (λ c. follow-header f c)) (λ x c. bind-follows _ _ _ _ c (h.statement f Under c) (λ y d. made-follows _ d (λ _ _ _. refl)))

  -- ## Jumps

  pub follow-continue : (at : ℕ) (s : Input) → Runs (λ l. continue_statement (i' l) at) (continue_statement i at) s
  unfolding continue_statement
  follow-continue at s = bind-follows _ _ _ _ s (follow-label s) (λ x c. bind-follows _ _ _ _ c (follow-semicolon c) (λ u d. made-follows _ d (λ _ _ _. refl)))

  pub follow-break : (at : ℕ) (s : Input) → Runs (λ l. break_statement (i' l) at) (break_statement i at) s
  unfolding break_statement
  follow-break at s = bind-follows _ _ _ _ s (follow-label s) (λ x c. bind-follows _ _ _ _ c (follow-semicolon c) (λ u d. made-follows _ d (λ _ _ _. refl)))

  follow-returned : (f : Flags) (s : Input) → Runs (λ l. returned (i' l) f) (returned i f) s
  unfolding returned
  follow-returned f s = if-follows goes_on goes-none _ _ _ _ s (λ l d at us last. stopped _ (sequence-stops i' (with_in f) l d at us last))
      (λ e. bind-follows _ _ _ _ s (follow-sequence i i' h (with_in f) s) (λ x c. returns-follows _ c)) (λ e. returns-follows _ s)

  pub follow-return : (f : Flags) (at : ℕ) (s : Input) → Runs (λ l. return_statement (i' l) f at) (return_statement i f at) s
  unfolding return_statement
  follow-return f at s = bind-follows _ _ _ _ s (follow-returned f s) (λ x c. bind-follows _ _ _ _ c (follow-semicolon c) (λ u d. made-follows _ d (λ _ _ _. refl)))

  pub follow-throw : (f : Flags) (at : ℕ) (s : Input) → Runs (λ l. throw_statement (i' l) f at) (throw_statement i f at) s
  unfolding throw_statement
  follow-throw f at s = if-follows begins_line (λ d at. refl) refused (λ l. refused) _ _ s (λ l d at us last. refused-holds _) (λ e. refused-holds s)
      (λ e. bind-follows _ _ _ _ s (follow-sequence i i' h (with_in f) s) (λ x c. bind-follows _ _ _ _ c (follow-semicolon c) (λ u d. made-follows _ d (λ _ _ _. refl))))

  pub follow-debugger : (at : ℕ) (s : Input) → Runs (λ l. debugger_statement (i' l) at) (debugger_statement i at) s
  unfolding debugger_statement
  follow-debugger at s = bind-follows _ _ _ _ s (follow-semicolon s) (λ u d. made-follows _ d (λ _ _ _. refl))

  -- ## Switch

  follow-in-case : (f : Flags) (turns : ℕ) (s : Input) → Runs (λ l. in_case (i' l) f (plus turns l)) (in_case i f turns) s
  unfolding in_case
  follow-in-case f zero s = fault
  follow-in-case f (suc turns) s = if-semi-follows ends_case (λ d at. refl) _ _ _ _ s (λ l d at us last. stopped _ (h.statement_stops f Listed l d at us last))
      (λ e. returns-follows _ s) (λ e. bind-follows _ _ _ _ s (h.statement f Listed s) (λ x c. bind-follows _ _ _ _ c (follow-in-case f turns c) (λ xs d. returns-follows _ d)))

  follow-in-case-fuel : (f : Flags) (s : Input) → Runs (λ l. in_case (i' l) f (i' l).fuel) (in_case i f i.fuel) s
  follow-in-case-fuel f s = spelled-follows _ (λ l. in_case (i' l) f (plus i.fuel l)) s (λ l. ap (λ n. in_case (i' l) f n) (h.fuel l)) (follow-in-case f i.fuel s)

  follow-case : (f : Flags) (at : ℕ) (s : Input) → Runs (λ l. case_clause (i' l) f at) (case_clause i f at) s
  unfolding case_clause
  follow-case f at s = bind-follows _ _ _ _ s (h.sequence (with_in f) s) (λ x c. bind-follows _ _ _ _ c (mark-follows marks.Colon c) (λ t d. bind-follows _ _ _ _ d (follow-in-case-fuel f d) (λ ss e. made-follows _ e (λ _ _ _. refl))))

  follow-default : (f : Flags) (at : ℕ) (s : Input) → Runs (λ l. default_clause (i' l) f at) (default_clause i f at) s
  unfolding default_clause
  follow-default f at s = bind-follows _ _ _ _ s (mark-follows marks.Colon s) (λ t d. bind-follows _ _ _ _ d (follow-in-case-fuel f d) (λ ss e. made-follows _ e (λ _ _ _. refl)))

  follow-cases : (f : Flags) (may : Bool) (turns : ℕ) (s : Input) → Runs (λ l. cases (i' l) f may (plus turns l)) (cases i f may turns) s
  unfolding cases
  follow-cases f may zero s = fault
  follow-cases f true (suc turns) s = from-follows (cases_from i f true (cases i f true turns) (cases i f false turns)) (λ l. cases_from (i' l) f true (cases (i' l) f true (plus turns l)) (cases (i' l) f false (plus turns l))) s (λ l place place' d at us last. refl)
      (on-follows (mark marks.RightBrace) (λ d at. refl) _ _ _ _ s (λ t c n. returns-follows _ c) (λ m. on-follows (word (codes "case")) (λ d at. refl) _ _ _ _ s
      (λ t c n. bind-follows _ _ _ _ c (follow-case f _ c) (λ x d. bind-follows _ _ _ _ d (follow-cases f true turns d) (λ xs e. returns-follows _ e)))
      (λ m. on-follows (word (codes "default")) (λ d at. refl) _ _ refused (λ l. refused) s
      (λ t c n. bind-follows _ _ _ _ c (follow-default f _ c) (λ x d. bind-follows _ _ _ _ d (follow-cases f false turns d) (λ xs e. returns-follows _ e)))
      (λ m. refused-holds s))))
  follow-cases f false (suc turns) s = from-follows (cases_from i f false (cases i f false turns) (cases i f false turns)) (λ l. cases_from (i' l) f false (cases (i' l) f false (plus turns l)) (cases (i' l) f false (plus turns l))) s (λ l place place' d at us last. refl)
      (on-follows (mark marks.RightBrace) (λ d at. refl) _ _ _ _ s (λ t c n. returns-follows _ c) (λ m. on-follows (word (codes "case")) (λ d at. refl) _ _ refused (λ l. refused) s
      (λ t c n. bind-follows _ _ _ _ c (follow-case f _ c) (λ x d. bind-follows _ _ _ _ d (follow-cases f false turns d) (λ xs e. returns-follows _ e)))
      (λ m. refused-holds s)))

  pub follow-switch : (f : Flags) (at : ℕ) (s : Input) → Runs (λ l. switch_statement (i' l) f at) (switch_statement i f at) s
  unfolding switch_statement
  follow-switch f at s = bind-follows _ _ _ _ s (follow-paren f s) (λ x c. bind-follows _ _ _ _ c
      (only-group-follows i i' marks.LeftBrace _ _ c h.opens (λ d. spelled-follows _ (λ l. cases (i' l) f true (plus i.fuel l)) d (λ l. ap (λ n. cases (i' l) f true n) (h.fuel l)) (follow-cases f true i.fuel d)))
      (λ cs d. made-follows _ d (λ _ _ _. refl)))

  -- ## Try

  follow-catch-parameter : (f : Flags) (s : Input) → Runs (λ l. catch_parameter (i' l) f) (catch_parameter i f) s
  unfolding catch_parameter
  follow-catch-parameter f s = bind-follows _ _ _ _ s (h.target (with_in f) s) (λ x c. bind-follows _ _ _ _ c (mark-follows marks.RightParenthesis c) (λ t d. returns-follows _ d))

  handler-free : (f : Flags) (l place place' : ℕ) (d : Bool) (at : ℕ) (us : List Filled) (last : ℕ) → handler_from (i' l) f place (record { tokens = semi d at ∷ us; last = last }) ≡ handler_from (i' l) f place' (record { tokens = semi d at ∷ us; last = last })
  unfolding refused
  handler-free f l place place' d at us last = refl

  follow-handler : (f : Flags) (s : Input) → Runs (λ l. handler (i' l) f) (handler i f) s
  unfolding handler
  follow-handler f s = from-follows (handler_from i f) (λ l. handler_from (i' l) f) s (handler-free f)
      (bind-follows _ _ _ _ s (word-follows (codes "catch") s) (λ t c. bind-follows _ _ _ _ c (only-group-follows i i' marks.LeftParenthesis _ _ c h.opens (λ d. follow-catch-parameter f d)) (λ x d.
      bind-follows _ _ _ _ d (follow-block i i' h f d) (λ b e. made-follows _ e (λ _ _ _. refl)))))

  handler-stops : (f : Flags) → StopsAtSemi (λ l. handler (i' l) f)
  unfolding handler refused
  handler-stops f l d at us last = fault

  follow-after-handler : (f : Flags) (at : ℕ) (b : Block) (x : Catch) (s : Input) → Runs (λ l. after_handler (i' l) f at b x) (after_handler i f at b x) s
  unfolding after_handler
  follow-after-handler f at b x s = on-follows (word (codes "finally")) (λ d at. refl) _ _ _ _ s
      (λ t c k. bind-follows _ _ _ _ c (follow-block i i' h f c) (λ y d. made-follows _ d (λ _ _ _. refl))) (λ m. made-follows _ s (λ _ _ _. refl))

  follow-only-finally : (f : Flags) (at : ℕ) (b : Block) (s : Input) → Runs (λ l. only_finally (i' l) f at b) (only_finally i f at b) s
  unfolding only_finally
  follow-only-finally f at b s = bind-follows _ _ _ _ s (word-follows (codes "finally") s) (λ t c. bind-follows _ _ _ _ c (follow-block i i' h f c) (λ y d. made-follows _ d (λ _ _ _. refl)))

  pub follow-try : (f : Flags) (at : ℕ) (s : Input) → Runs (λ l. try_statement (i' l) f at) (try_statement i f at) s
  unfolding try_statement
  follow-try f at s = bind-follows _ _ _ _ s (follow-block i i' h f s) (λ x c. if-follows (next_word (codes "catch")) (λ d at. refl) _ _ _ _ c (λ l d at us last. stopped _ (handler-stops f l d at us last))
      (λ e. bind-follows _ _ _ _ c (follow-handler f c) (λ y d. follow-after-handler f at x y d)) (λ e. follow-only-finally f at x c))
