-- The readers of statements with insertion follow those without it.
use Rattle.std.proofs.Common.{◌≡◌, ℕ, zero, suc, Bool, true, false, ◌&&◌, List, [], ◌∷◌, Option, Some, None, refl, sym, ap, subst, ◌∙◌}
use Rattle.std.specs.Prelude.{codes}
use Rattle.es5_ast.specs.declared.tree.Identifier5.{Identifier5}
use Rattle.es5_ast.specs.declared.tree.Declared5.{Declared5, roll-Declared5}
use Rattle.es5_ast.specs.declared.tree.Block5.{Block5, roll-Block5}
use Rattle.es5_ast.specs.declared.tree.Condition5.{Condition5, roll-Condition5}
use Rattle.es5_ast.specs.declared.tree.Case5.{Case5}
use Rattle.es5_ast.specs.declared.tree.Catch5.{Catch5, roll-Catch5}
use Rattle.es5_ast.specs.declared.tree.Expr5.{Expr5}
use Rattle.es5_ast.specs.Lexical.{Token5}
use Rattle.es5_ast.specs.Grammar.{is_word}
use Rattle.es5_reading.specs.Parser.{Input5, Syntax, Outside, Took, Fault, Parser, ◌>>=◌, on, choose, if_next, take_as, fails, returns, mark, word, next_word, made, is_left, Inner5, group, semicolon}
use Rattle.es5_reading.specs.Expressions.{identifier, statements, sequence}
use Rattle.es5_reading.specs.Statements.{block, initialized, one_declared, declared_list, var_statement, parenthesized, condition, otherwise, if_statement, do_statement, while_statement, after_first_declared, for_var, for_expression, for_first_part, optional, for_header, for_statement, label_at, optional_label, continue_statement, break_statement, goes_on, returned, return_statement, begins_line, throw_statement, ends_case, in_case, case_clause, default_clause, cases, switch_statement, catch_parameter, handler, after_handler, only_finally, try_statement, debugger_statement, declaration, expression_end, labelled, label_of, label_or_end, expression_statement, plain_statement, jump_statement, compound_statement}
use Rattle.es5_reading.proofs.Posts.{fault, bind, choose-holds}
use Rattle.es5_reading.proofs.Follows.{plus, semi, Never, bind-follows}
use Rattle.es5_reading.proofs.FollowChoices.{on-follows, take-follows, choose-follows, StopsAtSemi, if-follows, if-semi-follows, unless-follows, group-follows, from-follows, made-follows, returns-follows, spelled-follows, Follows, semicolon-follows}
use Rattle.es5_reading.proofs.FollowExpressions.{Runs, mark-follows, follow-identifier, follow-braced, follow-rest}
use Rattle.es5_reading.proofs.FollowOperators.{at_semi, sequence-semi, follow-sequence}

word-follows : (w : List ℕ) (s : Input5) → Runs (λ l. take_as (word w)) (take_as (word w)) s
word-follows w s = take-follows (word w) (λ b e a. refl) s

sequence-stops : (i' : ℕ → Inner5) (k : Bool) → StopsAtSemi (λ l. sequence (i' l) k)
sequence-stops i' k l b e a us last = subst (λ o. Never o) (sym (sequence-semi (i' l) k b e a us last)) fault

label-none : (b e : ℕ) (a : Bool) → ◌≡◌ {A = Option (List ℕ)} (label_at (semi b e a)) None
label-none b e true = refl
label-none b e false = refl

goes-none : (b e : ℕ) (a : Bool) → goes_on (semi b e a) ≡ false
goes-none b e true = refl
goes-none b e false = refl

and-none : (x : Bool) → (x && false) ≡ false
and-none true = refl
and-none false = refl

abbrev label_from : ℕ → Parser (Option Identifier5)
label_from at = on label_at (λ name. made at (λ span. Some (record { span = span; name = name }))) (returns None)

label-semi : (at b e : ℕ) (a : Bool) (us : List Token5) (last : ℕ) → label_from at (at_semi b e a us last) ≡ Took None (at_semi b e a us last)
label-semi at b e true us last = refl
label-semi at b e false us last = refl

follow-label : (s : Input5) → Runs (λ l. optional_label) optional_label s
unfolding optional_label
follow-label s = from-follows label_from (λ l. label_from) s (λ l at at' b e a us last. label-semi at b e a us last ∙ sym (label-semi at' b e a us last))
    (on-follows label_at label-none _ _ _ _ s (λ name c h. made-follows _ c (λ _ _ _. refl)) (λ m. returns-follows _ s))

follow-list : (one : Parser Declared5) (one' : ℕ → Parser Declared5) (h : (s : Input5) → Runs one' one s) (turns : ℕ) (s : Input5) → Runs (λ l. declared_list (one' l) (plus turns l)) (declared_list one turns) s
unfolding declared_list
follow-list one one' h zero s = fault
follow-list one one' h (suc turns) s = bind-follows _ _ _ _ s (h s) (λ x c. on-follows (mark (codes ",")) (λ b e a. refl) _ _ _ _ c
    (λ t d k. bind-follows _ _ _ _ d (follow-list one one' h turns d) (λ xs e. returns-follows _ e)) (λ m. returns-follows _ c))

abbrev block_from : Inner5 → Bool → ℕ → Parser Block5
block_from i inside at = group i (codes "{") (◌>>=◌ (statements i inside false i.fuel) (λ ss. made at (λ span. roll-Block5 (record { span = span; statements = ss }))))

abbrev declared_from : Inner5 → Bool → ℕ → Parser Declared5
declared_from i k at = ◌>>=◌ identifier (λ name. on (mark (codes "=")) (λ t. initialized i k at name) (made at (λ span. roll-Declared5 (record { span = span; name = name; init = None }))))

declared-semi : (i : Inner5) (k : Bool) (at b e : ℕ) (a : Bool) (us : List Token5) (last : ℕ) → declared_from i k at (at_semi b e a us last) ≡ Fault Syntax (semi b e a ∷ us)
unfolding identifier
declared-semi i k at b e a us last = refl

abbrev condition_from : Inner5 → Bool → ℕ → Parser Condition5
condition_from i inside at = ◌>>=◌ (take_as (word (codes "if"))) (λ t. ◌>>=◌ (parenthesized i) (λ test. ◌>>=◌ (i.statement inside false) (λ s. made at (λ span. roll-Condition5 (record { span = span; test = test; body = s })))))

abbrev handler_from : Inner5 → Bool → ℕ → Parser Catch5
handler_from i inside at = ◌>>=◌ (take_as (word (codes "catch"))) (λ t. ◌>>=◌ (group i (codes "(") catch_parameter) (λ x. ◌>>=◌ (block i inside) (λ b. made at (λ span. roll-Catch5 (record { span = span; parameter = x; body = b })))))

abbrev cases_from : Inner5 → Bool → Bool → Parser (List Case5) → Parser (List Case5) → ℕ → Parser (List Case5)
cases_from i inside may more last at = on (mark (codes "}")) (λ _. returns []) (on (word (codes "case")) (λ _. ◌>>=◌ (case_clause i inside at) (λ c. ◌>>=◌ more (λ cs. returns (c ∷ cs))))
    (choose may (on (word (codes "default")) (λ _. ◌>>=◌ (default_clause i inside at) (λ c. ◌>>=◌ last (λ cs. returns (c ∷ cs)))) (fails Syntax)) (fails Syntax)))

module _ (i : Inner5) (i' : ℕ → Inner5) (f : Follows i i') where
  pub follow-block : (inside : Bool) (s : Input5) → Runs (λ l. block (i' l) inside) (block i inside) s
  unfolding block
  follow-block inside s = from-follows (block_from i inside) (λ l. block_from (i' l) inside) s (λ l at at' b e a us last. refl)
      (group-follows i i' _ _ _ _ _ s f.opens (λ o c. bind-follows _ _ _ _ c (follow-braced i i' f inside false c) (λ ss d. made-follows _ d (λ _ _ _. refl))) (λ m. fault))

  pub follow-declared : (k : Bool) (s : Input5) → Runs (λ l. one_declared (i' l) k) (one_declared i k) s
  unfolding one_declared initialized
  follow-declared k s = from-follows (declared_from i k) (λ l. declared_from (i' l) k) s (λ l at at' b e a us last. declared-semi (i' l) k at b e a us last ∙ sym (declared-semi (i' l) k at' b e a us last))
      (bind-follows _ _ _ _ s (follow-identifier s) (λ x c. on-follows (mark (codes "=")) (λ b e a. refl) _ _ _ _ c
      (λ t d h. bind-follows _ _ _ _ d (f.assignment k d) (λ y e. made-follows _ e (λ _ _ _. refl))) (λ m. made-follows _ c (λ _ _ _. refl))))

  follow-semicolon : (s : Input5) → Runs (λ l. semicolon (i' l)) (semicolon i) s
  follow-semicolon s = semicolon-follows i i' f s

  pub follow-var : (at : ℕ) (s : Input5) → Runs (λ l. var_statement (i' l) at) (var_statement i at) s
  unfolding var_statement
  follow-var at s = bind-follows _ _ _ _ s
      (spelled-follows _ (λ l. declared_list (one_declared (i' l) false) (plus i.fuel l)) s (λ l. ap (λ n. declared_list (one_declared (i' l) false) n) (f.fuel l)) (follow-list (one_declared i false) (λ l. one_declared (i' l) false) (λ c. follow-declared false c) i.fuel s))
      (λ ds c. bind-follows _ _ _ _ c (follow-semicolon c) (λ u d. made-follows _ d (λ _ _ _. refl)))

  -- ## If

  follow-paren : (s : Input5) → Runs (λ l. parenthesized (i' l)) (parenthesized i) s
  unfolding parenthesized
  follow-paren s = group-follows i i' _ _ _ _ _ s f.opens (λ o c. bind-follows _ _ _ _ c (f.sequence false c) (λ x d. bind-follows _ _ _ _ d (mark-follows _ d) (λ t e. returns-follows _ e))) (λ m. fault)

  follow-condition : (inside : Bool) (s : Input5) → Runs (λ l. condition (i' l) inside) (condition i inside) s
  unfolding condition
  follow-condition inside s = from-follows (condition_from i inside) (λ l. condition_from (i' l) inside) s (λ l at at' b e a us last. refl)
      (bind-follows _ _ _ _ s (word-follows _ s) (λ t c. bind-follows _ _ _ _ c (follow-paren c) (λ test d. bind-follows _ _ _ _ d (f.statement inside false d) (λ x e. made-follows _ e (λ _ _ _. refl)))))

  condition-stops : (inside : Bool) → StopsAtSemi (λ l. condition (i' l) inside)
  unfolding condition
  condition-stops inside l b e a us last = fault

  follow-otherwise : (inside : Bool) (turns : ℕ) (s : Input5) → Runs (λ l. otherwise (i' l) inside (plus turns l)) (otherwise i inside turns) s
  unfolding otherwise
  follow-otherwise inside zero s = fault
  follow-otherwise inside (suc turns) s = on-follows (word (codes "else")) (λ b e a. refl) _ _ _ _ s
      (λ t c h. if-follows (next_word (codes "if")) (λ b e a. refl) _ _ _ _ c (λ l b e a us last. bind (condition-stops inside l b e a us last) (λ x d n. absurd n))
      (λ h. bind-follows _ _ _ _ c (follow-condition inside c) (λ x d. bind-follows _ _ _ _ d (follow-otherwise inside turns d) (λ r e. returns-follows _ e)))
      (λ h. bind-follows _ _ _ _ c (f.statement inside false c) (λ x d. returns-follows _ d)))
      (λ m. returns-follows _ s)

  pub follow-if : (inside : Bool) (at : ℕ) (s : Input5) → Runs (λ l. if_statement (i' l) inside at) (if_statement i inside at) s
  unfolding if_statement
  follow-if inside at s = bind-follows _ _ _ _ s (follow-condition inside s) (λ x c. bind-follows _ _ _ _ c
      (spelled-follows _ (λ l. otherwise (i' l) inside (plus i.fuel l)) c (λ l. ap (λ n. otherwise (i' l) inside n) (f.fuel l)) (follow-otherwise inside i.fuel c)) (λ r d. made-follows _ d (λ _ _ _. refl)))

  -- ## Loops

  follow-do : (inside : Bool) (at : ℕ) (s : Input5) → Runs (λ l. do_statement (i' l) inside at) (do_statement i inside at) s
  unfolding do_statement
  follow-do inside at s = bind-follows _ _ _ _ s (f.statement inside false s) (λ x c. bind-follows _ _ _ _ c (word-follows _ c) (λ t d. bind-follows _ _ _ _ d (follow-paren d) (λ y e.
      bind-follows _ _ _ _ e (follow-semicolon e) (λ u g. made-follows _ g (λ _ _ _. refl)))))

  follow-while : (inside : Bool) (at : ℕ) (s : Input5) → Runs (λ l. while_statement (i' l) inside at) (while_statement i inside at) s
  unfolding while_statement
  follow-while inside at s = bind-follows _ _ _ _ s (follow-paren s) (λ x c. bind-follows _ _ _ _ c (f.statement inside false c) (λ y d. made-follows _ d (λ _ _ _. refl)))

  follow-after-first : (x : Declared5) (s : Input5) → Runs (λ l. after_first_declared (i' l) x) (after_first_declared i x) s
  unfolding after_first_declared
  follow-after-first x s = on-follows (mark (codes ",")) (λ b e a. refl) _ _ _ _ s
      (λ t c h. bind-follows _ _ _ _ c (spelled-follows _ (λ l. declared_list ((i' l).declared true) (plus i.fuel l)) c (λ l. ap (λ n. declared_list ((i' l).declared true) n) (f.fuel l)) (follow-list (i.declared true) (λ l. (i' l).declared true) (λ d. f.declared true d) i.fuel c))
      (λ ds d. bind-follows _ _ _ _ d (mark-follows _ d) (λ u e. returns-follows _ e)))
      (λ m. bind-follows _ _ _ _ s (mark-follows _ s) (λ u e. returns-follows _ e))

  follow-for-var : (s : Input5) → Runs (λ l. for_var (i' l)) (for_var i) s
  unfolding for_var
  follow-for-var s = bind-follows _ _ _ _ s (f.declared true s) (λ x c. if-follows (next_word (codes "in")) (λ b e a. refl) (fails (Outside 3)) (λ l. fails (Outside 3)) (after_first_declared i x) (λ l. after_first_declared (i' l) x) c (λ l b e a us last. fault) (λ h. fault) (λ h. follow-after-first x c))

  follow-for-expression : (s : Input5) → Runs (λ l. for_expression (i' l)) (for_expression i) s
  unfolding for_expression
  follow-for-expression s = bind-follows _ _ _ _ s (f.sequence true s) (λ x c. if-follows (λ t. is_left x.shape && is_word (codes "in") t.kind) (λ b e a. and-none (is_left x.shape)) (fails (Outside 3)) (λ l. fails (Outside 3)) _ _ c (λ l b e a us last. fault) (λ h. fault)
      (λ h. bind-follows _ _ _ _ c (mark-follows _ c) (λ t d. returns-follows _ d)))

  follow-first : (s : Input5) → Runs (λ l. for_first_part (i' l)) (for_first_part i) s
  unfolding for_first_part
  follow-first s = on-follows (mark (codes ";")) (λ b e a. refl) _ _ _ _ s (λ t c h. returns-follows _ c)
      (λ m. on-follows (word (codes "var")) (λ b e a. refl) _ _ _ _ s (λ t c h. follow-for-var c) (λ m. follow-for-expression s))

  follow-optional : (p : List ℕ) (s : Input5) → Runs (λ l. optional (i' l) p) (optional i p) s
  unfolding optional
  follow-optional p s = on-follows (mark p) (λ b e a. refl) _ _ _ _ s (λ t c h. returns-follows _ c)
      (λ m. bind-follows _ _ _ _ s (f.sequence false s) (λ x c. bind-follows _ _ _ _ c (mark-follows _ c) (λ t d. returns-follows _ d)))

  follow-header : (s : Input5) → Runs (λ l. for_header (i' l)) (for_header i) s
  unfolding for_header
  follow-header s = bind-follows _ _ _ _ s (follow-first s) (λ x c. bind-follows _ _ _ _ c (follow-optional _ c) (λ y d. bind-follows _ _ _ _ d (follow-optional _ d) (λ z e. returns-follows _ e)))

  follow-for : (inside : Bool) (at : ℕ) (s : Input5) → Runs (λ l. for_statement (i' l) inside at) (for_statement i inside at) s
  unfolding for_statement
  follow-for inside at s = bind-follows _ _ _ _ s (group-follows i i' _ _ _ _ _ s f.opens (λ o c. follow-header c) (λ m. fault)) (λ h c. bind-follows _ _ _ _ c (f.statement inside false c) (λ y d. made-follows _ d (λ _ _ _. refl)))

  -- ## Jumps

  follow-continue : (at : ℕ) (s : Input5) → Runs (λ l. continue_statement (i' l) at) (continue_statement i at) s
  unfolding continue_statement
  follow-continue at s = bind-follows _ _ _ _ s (follow-label s) (λ x c. bind-follows _ _ _ _ c (follow-semicolon c) (λ u d. made-follows _ d (λ _ _ _. refl)))

  follow-break : (at : ℕ) (s : Input5) → Runs (λ l. break_statement (i' l) at) (break_statement i at) s
  unfolding break_statement
  follow-break at s = bind-follows _ _ _ _ s (follow-label s) (λ x c. bind-follows _ _ _ _ c (follow-semicolon c) (λ u d. made-follows _ d (λ _ _ _. refl)))

  follow-returned : (s : Input5) → Runs (λ l. returned (i' l)) (returned i) s
  unfolding returned
  follow-returned s = if-follows goes_on goes-none _ _ _ _ s (λ l b e a us last. bind (sequence-stops i' false l b e a us last) (λ x d n. absurd n))
      (λ h. bind-follows _ _ _ _ s (follow-sequence i i' f false s) (λ x c. returns-follows _ c)) (λ h. returns-follows _ s)

  follow-return : (at : ℕ) (s : Input5) → Runs (λ l. return_statement (i' l) at) (return_statement i at) s
  unfolding return_statement
  follow-return at s = bind-follows _ _ _ _ s (follow-returned s) (λ x c. bind-follows _ _ _ _ c (follow-semicolon c) (λ u d. made-follows _ d (λ _ _ _. refl)))

  follow-throw : (at : ℕ) (s : Input5) → Runs (λ l. throw_statement (i' l) at) (throw_statement i at) s
  unfolding throw_statement
  follow-throw at s = unless-follows begins_line Syntax _ _ s (λ l b e a us last. bind (sequence-stops i' false l b e a us last) (λ x d n. absurd n))
      (λ h. bind-follows _ _ _ _ s (follow-sequence i i' f false s) (λ x c. bind-follows _ _ _ _ c (follow-semicolon c) (λ u d. made-follows _ d (λ _ _ _. refl))))

  follow-debugger : (at : ℕ) (s : Input5) → Runs (λ l. debugger_statement (i' l) at) (debugger_statement i at) s
  unfolding debugger_statement
  follow-debugger at s = bind-follows _ _ _ _ s (follow-semicolon s) (λ u d. made-follows _ d (λ _ _ _. refl))

  -- ## Switch

  follow-in-case : (inside : Bool) (turns : ℕ) (s : Input5) → Runs (λ l. in_case (i' l) inside (plus turns l)) (in_case i inside turns) s
  unfolding in_case
  follow-in-case inside zero s = fault
  follow-in-case inside (suc turns) s = if-semi-follows ends_case (λ b e a. refl) _ _ _ _ s (λ l b e a us last. bind (f.statement_stops inside false l b e a us last) (λ x d n. absurd n))
      (λ h. returns-follows _ s) (λ h. bind-follows _ _ _ _ s (f.statement inside false s) (λ x c. bind-follows _ _ _ _ c (follow-in-case inside turns c) (λ xs d. returns-follows _ d)))

  follow-in-case-fuel : (inside : Bool) (s : Input5) → Runs (λ l. in_case (i' l) inside (i' l).fuel) (in_case i inside i.fuel) s
  follow-in-case-fuel inside s = spelled-follows _ (λ l. in_case (i' l) inside (plus i.fuel l)) s (λ l. ap (λ n. in_case (i' l) inside n) (f.fuel l)) (follow-in-case inside i.fuel s)

  follow-case : (inside : Bool) (at : ℕ) (s : Input5) → Runs (λ l. case_clause (i' l) inside at) (case_clause i inside at) s
  unfolding case_clause
  follow-case inside at s = bind-follows _ _ _ _ s (f.sequence false s) (λ x c. bind-follows _ _ _ _ c (mark-follows _ c) (λ t d. bind-follows _ _ _ _ d (follow-in-case-fuel inside d) (λ ss e. made-follows _ e (λ _ _ _. refl))))

  follow-default : (inside : Bool) (at : ℕ) (s : Input5) → Runs (λ l. default_clause (i' l) inside at) (default_clause i inside at) s
  unfolding default_clause
  follow-default inside at s = bind-follows _ _ _ _ s (mark-follows _ s) (λ t d. bind-follows _ _ _ _ d (follow-in-case-fuel inside d) (λ ss e. made-follows _ e (λ _ _ _. refl)))

  follow-cases : (inside may : Bool) (turns : ℕ) (s : Input5) → Runs (λ l. cases (i' l) inside may (plus turns l)) (cases i inside may turns) s
  unfolding cases
  follow-cases inside may zero s = fault
  follow-cases inside true (suc turns) s = from-follows (cases_from i inside true (cases i inside true turns) (cases i inside false turns)) (λ l. cases_from (i' l) inside true (cases (i' l) inside true (plus turns l)) (cases (i' l) inside false (plus turns l))) s (λ l at at' b e a us last. refl)
      (on-follows (mark (codes "}")) (λ b e a. refl) _ _ _ _ s (λ t c h. returns-follows _ c) (λ m. on-follows (word (codes "case")) (λ b e a. refl) _ _ _ _ s
      (λ t c h. bind-follows _ _ _ _ c (follow-case inside _ c) (λ x d. bind-follows _ _ _ _ d (follow-cases inside true turns d) (λ xs e. returns-follows _ e)))
      (λ m. on-follows (word (codes "default")) (λ b e a. refl) _ _ _ _ s
      (λ t c h. bind-follows _ _ _ _ c (follow-default inside _ c) (λ x d. bind-follows _ _ _ _ d (follow-cases inside false turns d) (λ xs e. returns-follows _ e)))
      (λ m. fault))))
  follow-cases inside false (suc turns) s = from-follows (cases_from i inside false (cases i inside false turns) (cases i inside false turns)) (λ l. cases_from (i' l) inside false (cases (i' l) inside false (plus turns l)) (cases (i' l) inside false (plus turns l))) s (λ l at at' b e a us last. refl)
      (on-follows (mark (codes "}")) (λ b e a. refl) _ _ _ _ s (λ t c h. returns-follows _ c) (λ m. on-follows (word (codes "case")) (λ b e a. refl) _ _ _ _ s
      (λ t c h. bind-follows _ _ _ _ c (follow-case inside _ c) (λ x d. bind-follows _ _ _ _ d (follow-cases inside false turns d) (λ xs e. returns-follows _ e)))
      (λ m. fault)))

  follow-switch : (inside : Bool) (at : ℕ) (s : Input5) → Runs (λ l. switch_statement (i' l) inside at) (switch_statement i inside at) s
  unfolding switch_statement
  follow-switch inside at s = bind-follows _ _ _ _ s (follow-paren s) (λ x c. bind-follows _ _ _ _ c
      (group-follows i i' _ _ _ _ _ c f.opens (λ o d. spelled-follows _ (λ l. cases (i' l) inside true (plus i.fuel l)) d (λ l. ap (λ n. cases (i' l) inside true n) (f.fuel l)) (follow-cases inside true i.fuel d)) (λ m. fault))
      (λ cs d. made-follows _ d (λ _ _ _. refl)))

  -- ## Try

  follow-catch-parameter : (s : Input5) → Runs (λ l. catch_parameter) catch_parameter s
  unfolding catch_parameter
  follow-catch-parameter s = bind-follows _ _ _ _ s (follow-identifier s) (λ x c. bind-follows _ _ _ _ c (mark-follows _ c) (λ t d. returns-follows _ d))

  follow-handler : (inside : Bool) (s : Input5) → Runs (λ l. handler (i' l) inside) (handler i inside) s
  unfolding handler
  follow-handler inside s = from-follows (handler_from i inside) (λ l. handler_from (i' l) inside) s (λ l at at' b e a us last. refl)
      (bind-follows _ _ _ _ s (word-follows _ s) (λ t c. bind-follows _ _ _ _ c (group-follows i i' _ _ _ _ _ c f.opens (λ o d. follow-catch-parameter d) (λ m. fault)) (λ x d.
      bind-follows _ _ _ _ d (follow-block inside d) (λ b e. made-follows _ e (λ _ _ _. refl)))))

  handler-stops : (inside : Bool) → StopsAtSemi (λ l. handler (i' l) inside)
  unfolding handler
  handler-stops inside l b e a us last = fault

  follow-after-handler : (inside : Bool) (at : ℕ) (b : Block5) (h : Catch5) (s : Input5) → Runs (λ l. after_handler (i' l) inside at b h) (after_handler i inside at b h) s
  unfolding after_handler
  follow-after-handler inside at b h s = on-follows (word (codes "finally")) (λ b e a. refl) _ _ _ _ s
      (λ t c k. bind-follows _ _ _ _ c (follow-block inside c) (λ y d. made-follows _ d (λ _ _ _. refl))) (λ m. made-follows _ s (λ _ _ _. refl))

  follow-only-finally : (inside : Bool) (at : ℕ) (b : Block5) (s : Input5) → Runs (λ l. only_finally (i' l) inside at b) (only_finally i inside at b) s
  unfolding only_finally
  follow-only-finally inside at b s = bind-follows _ _ _ _ s (word-follows _ s) (λ t c. bind-follows _ _ _ _ c (follow-block inside c) (λ y d. made-follows _ d (λ _ _ _. refl)))

  follow-try : (inside : Bool) (at : ℕ) (s : Input5) → Runs (λ l. try_statement (i' l) inside at) (try_statement i inside at) s
  unfolding try_statement
  follow-try inside at s = bind-follows _ _ _ _ s (follow-block inside s) (λ x c. if-follows (next_word (codes "catch")) (λ b e a. refl) _ _ _ _ c (λ l b e a us last. bind (handler-stops inside l b e a us last) (λ y d n. absurd n))
      (λ h. bind-follows _ _ _ _ c (follow-handler inside c) (λ y d. follow-after-handler inside at x y d)) (λ h. follow-only-finally inside at x c))

  -- ## Functions, expressions, labels

  follow-declaration : (at : ℕ) (s : Input5) → Runs (λ l. declaration (i' l) at) (declaration i at) s
  unfolding declaration
  follow-declaration at s = bind-follows _ _ _ _ s (follow-identifier s) (λ x c. bind-follows _ _ _ _ c (follow-rest i i' f at (Some x) c) (λ g d. returns-follows _ d))

  follow-expression-end : (at : ℕ) (x : Expr5) (s : Input5) → Runs (λ l. expression_end (i' l) at x) (expression_end i at x) s
  unfolding expression_end
  follow-expression-end at x s = bind-follows _ _ _ _ s (follow-semicolon s) (λ u d. made-follows _ d (λ _ _ _. refl))

  follow-labelled : (inside : Bool) (at : ℕ) (x : Identifier5) (s : Input5) → Runs (λ l. labelled (i' l) inside at x) (labelled i inside at x) s
  unfolding labelled
  follow-labelled inside at x s = bind-follows _ _ _ _ s (f.statement inside false s) (λ y d. made-follows _ d (λ _ _ _. refl))

  follow-label-or-end : (inside : Bool) (at : ℕ) (o : Option Identifier5) (x : Expr5) (s : Input5) → Runs (λ l. label_or_end (i' l) inside at o x) (label_or_end i inside at o x) s
  follow-label-or-end inside at (Some y) x s = on-follows (mark (codes ":")) (λ b e a. refl) (λ t. labelled i inside at y) (λ l t. labelled (i' l) inside at y) (expression_end i at x) (λ l. expression_end (i' l) at x) s (λ t c h. follow-labelled inside at y c) (λ m. follow-expression-end at x s)
  follow-label-or-end inside at None x s = follow-expression-end at x s

  follow-expression-statement : (inside : Bool) (at : ℕ) (s : Input5) → Runs (λ l. expression_statement (i' l) inside at) (expression_statement i inside at) s
  unfolding expression_statement
  follow-expression-statement inside at s = bind-follows _ _ _ _ s (follow-sequence i i' f false s) (λ x c. follow-label-or-end inside at (label_of x.shape x.value) x.value c)

  -- ## All together

  follow-plain : (inside top : Bool) (at : ℕ) (s : Input5) → Runs (λ l. plain_statement (i' l) inside top at) (plain_statement i inside top at) s
  unfolding plain_statement
  follow-plain inside top at s = if-follows (next_word (codes "function")) (λ b e a. refl)
      (choose top (on (word (codes "function")) (λ t. declaration i at) (fails Syntax)) (fails Syntax)) (λ l. choose top (on (word (codes "function")) (λ t. declaration (i' l) at) (fails Syntax)) (fails Syntax))
      (if_next (next_word (codes "with")) (fails (Outside 2)) (expression_statement i inside at)) (λ l. if_next (next_word (codes "with")) (fails (Outside 2)) (expression_statement (i' l) inside at)) s
      (λ l b e a us last. choose-holds _ _ top (at_semi b e a us last) (λ h. fault) (λ h. fault))
      (λ h. choose-follows top _ _ _ _ s (λ t. on-follows (word (codes "function")) (λ b e a. refl) (λ u. declaration i at) (λ l u. declaration (i' l) at) (fails Syntax) (λ l. fails Syntax) s (λ u c k. follow-declaration at c) (λ m. fault)) (λ t. fault))
      (λ h. if-follows (next_word (codes "with")) (λ b e a. refl) (fails (Outside 2)) (λ l. fails (Outside 2)) (expression_statement i inside at) (λ l. expression_statement (i' l) inside at) s (λ l b e a us last. fault) (λ k. fault) (λ k. follow-expression-statement inside at s))

  follow-jump : (inside top : Bool) (at : ℕ) (s : Input5) → Runs (λ l. jump_statement (i' l) inside top at) (jump_statement i inside top at) s
  unfolding jump_statement
  follow-jump inside top at s = on-follows (word (codes "continue")) (λ b e a. refl) _ _ _ _ s (λ t c h. follow-continue at c) (λ m.
      on-follows (word (codes "break")) (λ b e a. refl) _ _ _ _ s (λ t c h. follow-break at c) (λ m.
      on-follows (word (codes "throw")) (λ b e a. refl) _ _ _ _ s (λ t c h. follow-throw at c) (λ m.
      on-follows (word (codes "debugger")) (λ b e a. refl) _ _ _ _ s (λ t c h. follow-debugger at c) (λ m.
      choose-follows inside _ _ _ _ s
      (λ h. on-follows (word (codes "return")) (λ b e a. refl) _ _ _ _ s (λ t c k. follow-return at c) (λ m. follow-plain inside top at s))
      (λ h. follow-plain inside top at s)))))

  pub follow-compound : (inside top : Bool) (at : ℕ) (s : Input5) → Runs (λ l. compound_statement (i' l) inside top at) (compound_statement i inside top at) s
  unfolding compound_statement
  follow-compound inside top at s = on-follows (word (codes "do")) (λ b e a. refl) _ _ _ _ s (λ t c h. follow-do inside at c) (λ m.
      on-follows (word (codes "while")) (λ b e a. refl) _ _ _ _ s (λ t c h. follow-while inside at c) (λ m.
      on-follows (word (codes "for")) (λ b e a. refl) _ _ _ _ s (λ t c h. follow-for inside at c) (λ m.
      on-follows (word (codes "switch")) (λ b e a. refl) _ _ _ _ s (λ t c h. follow-switch inside at c) (λ m.
      on-follows (word (codes "try")) (λ b e a. refl) _ _ _ _ s (λ t c h. follow-try inside at c) (λ m. follow-jump inside top at s)))))
