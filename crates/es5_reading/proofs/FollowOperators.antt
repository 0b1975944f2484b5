-- The readers of operators with insertion follow those without it.
use Rattle.std.proofs.Common.{◌≡◌, ℕ, zero, suc, ◌+◌, Bool, true, false, List, ◌∷◌, Option, None, refl, sym, ap, ◌∙◌}
use Rattle.std.specs.Prelude.{codes}
use Rattle.es5_ast.specs.declared.tree.PlacedKey5.{PlacedKey5}
use Rattle.es5_ast.specs.Lexical.{Token5}
use Rattle.es5_ast.specs.Grammar.{begin_of}
use Rattle.es5_reading.specs.Parser.{Input5, Syntax, Fault, Parser, after, ◌>>=◌, on, choose, returns, mark, made, Read5, is_left, Inner5}
use Rattle.es5_reading.specs.Expressions.{accessor_at, unary_at, before_at, after_at, assign_at, binary_at, key, accessor, value_of_key, plain_property, after_accessor_word, one_property, no_expression, bracketed, primary, head, links, chained, chain, postfix, prefixed, updated, unary, operands, operated, binary_from, branches, conditional, assigned, assignment, parts, more_parts, sequence, unary_operators, binary_operators, assign_operators}
use Rattle.es5_reading.proofs.Posts.{fault}
use Rattle.es5_reading.proofs.Follows.{plus, semi, bind-follows}
use Rattle.es5_reading.proofs.FollowChoices.{on-follows, choose-follows, from-follows, made-follows, returns-follows, spelled-follows, Follows}
use Rattle.es5_reading.proofs.FollowExpressions.{Runs, mark-follows, follow-key, follow-head, follow-links, follow-accessor}
use Rattle.es5_ast.specs.declared.operators.Key5.TheVariants as keys
use Rattle.es5_ast.specs.declared.tree.Expr5.TheVariants as expr
use Rattle.es5_ast.specs.declared.tree.Property5.{Property5}
use Rattle.es5_ast.specs.declared.operators.UnaryOperator5.{UnaryOperator5}
use Rattle.es5_ast.specs.declared.operators.UpdateOperator5.{UpdateOperator5}
use Rattle.es5_ast.specs.declared.operators.BinaryOperator5.{BinaryOperator5}
use Rattle.es5_ast.specs.declared.operators.AssignOperator5.{AssignOperator5}
use Rattle.es5_reading.specs.Expressions.{other, accessor_name}

-- ## No expression begins with an inserted semicolon

abbrev pub at_semi : ℕ → ℕ → Bool → List Token5 → ℕ → Input5
at_semi b e a us last = record { tokens = semi b e a ∷ us; last = last }

unary-none : (b e : ℕ) (a : Bool) → ◌≡◌ {A = Option UnaryOperator5} (unary_at (semi b e a)) None
unfolding unary_operators
unary-none b e a = refl

after-none : (b e : ℕ) (a : Bool) → ◌≡◌ {A = Option UpdateOperator5} (after_at (semi b e a)) None
after-none b e true = refl
after-none b e false = refl

assign-none : (b e : ℕ) (a : Bool) → ◌≡◌ {A = Option AssignOperator5} (assign_at (semi b e a)) None
unfolding assign_operators
assign-none b e a = refl

pub binary-none : (k : Bool) (level b e : ℕ) (a : Bool) → ◌≡◌ {A = Option BinaryOperator5} (binary_at k level (semi b e a)) None
unfolding binary_operators
binary-none k level b e a = refl

head-semi : (i : Inner5) (at b e : ℕ) (a : Bool) (us : List Token5) (last : ℕ) → head i at (at_semi b e a us last) ≡ Fault Syntax (semi b e a ∷ us)
unfolding head primary bracketed no_expression
head-semi i at b e a us last = refl

abbrev chain_from : Inner5 → Bool → ℕ → Parser Read5
chain_from i calls at = ◌>>=◌ (head i at) (λ x. ◌>>=◌ (links i calls i.fuel) (λ ls. made at (λ span. chained x ls span)))

chain-semi : (i : Inner5) (calls : Bool) (at b e : ℕ) (a : Bool) (us : List Token5) (last : ℕ) → chain_from i calls at (at_semi b e a us last) ≡ Fault Syntax (semi b e a ∷ us)
chain-semi i calls at b e a us last = ap (λ o. after o (λ x. ◌>>=◌ (links i calls i.fuel) (λ ls. made at (λ span. chained x ls span)))) (head-semi i at b e a us last)

abbrev postfix_from : Inner5 → ℕ → Parser Read5
postfix_from i at = ◌>>=◌ (chain i true) (λ x. on after_at (λ op. made at (λ span. other (expr.Update span op x.value))) (returns x))

postfix-semi : (i : Inner5) (at b e : ℕ) (a : Bool) (us : List Token5) (last : ℕ) → postfix_from i at (at_semi b e a us last) ≡ Fault Syntax (semi b e a ∷ us)
unfolding chain
postfix-semi i at b e a us last = ap (λ o. after o (λ x. on after_at (λ op. made at (λ span. other (expr.Update span op x.value))) (returns x))) (chain-semi i true b b e a us last)

abbrev unary_from : Inner5 → ℕ → Parser Read5
unary_from i at = on unary_at (λ op. prefixed i at op) (on before_at (λ op. updated i at op) (postfix i))

unary-semi : (i : Inner5) (at b e : ℕ) (a : Bool) (us : List Token5) (last : ℕ) → unary_from i at (at_semi b e a us last) ≡ Fault Syntax (semi b e a ∷ us)
unfolding unary_operators postfix
unary-semi i at b e a us last = postfix-semi i b b e a us last

abbrev binary_body : Inner5 → Bool → ℕ → ℕ → ℕ → Parser Read5
binary_body i k above level at = ◌>>=◌ (binary_from i k above (level + 1)) (λ x. ◌>>=◌ (operands (binary_from i k above (level + 1)) k level i.fuel) (λ rest. made at (λ span. operated x rest span)))

binary-semi : (i : Inner5) (k : Bool) (above level b e : ℕ) (a : Bool) (us : List Token5) (last : ℕ) → binary_from i k above level (at_semi b e a us last) ≡ Fault Syntax (semi b e a ∷ us)
unfolding binary_from unary
binary-semi i k zero level b e a us last = unary-semi i b b e a us last
binary-semi i k (suc above) level b e a us last = ap (λ o. after o (λ x. ◌>>=◌ (operands (binary_from i k above (level + 1)) k level i.fuel) (λ rest. made b (λ span. operated x rest span)))) (binary-semi i k above (level + 1) b e a us last)

binary-body-semi : (i : Inner5) (k : Bool) (above level at b e : ℕ) (a : Bool) (us : List Token5) (last : ℕ) → binary_body i k above level at (at_semi b e a us last) ≡ Fault Syntax (semi b e a ∷ us)
binary-body-semi i k above level at b e a us last = ap (λ o. after o (λ x. ◌>>=◌ (operands (binary_from i k above (level + 1)) k level i.fuel) (λ rest. made at (λ span. operated x rest span)))) (binary-semi i k above (level + 1) b e a us last)

abbrev conditional_from : Inner5 → Bool → ℕ → Parser Read5
conditional_from i k at = ◌>>=◌ (binary_from i k 10 3) (λ x. on (mark (codes "?")) (λ t. branches i k at x.value) (returns x))

conditional-semi : (i : Inner5) (k : Bool) (at b e : ℕ) (a : Bool) (us : List Token5) (last : ℕ) → conditional_from i k at (at_semi b e a us last) ≡ Fault Syntax (semi b e a ∷ us)
conditional-semi i k at b e a us last = ap (λ o. after o (λ x. on (mark (codes "?")) (λ t. branches i k at x.value) (returns x))) (binary-semi i k 10 3 b e a us last)

abbrev assignment_from : Inner5 → Bool → ℕ → Parser Read5
assignment_from i k at = ◌>>=◌ (conditional i k) (λ x. choose (is_left x.shape) (on assign_at (λ op. assigned i k at x.value op) (returns x)) (returns x))

assignment-semi : (i : Inner5) (k : Bool) (at b e : ℕ) (a : Bool) (us : List Token5) (last : ℕ) → assignment_from i k at (at_semi b e a us last) ≡ Fault Syntax (semi b e a ∷ us)
unfolding conditional
assignment-semi i k at b e a us last = ap (λ o. after o (λ x. choose (is_left x.shape) (on assign_at (λ op. assigned i k at x.value op) (returns x)) (returns x))) (conditional-semi i k b b e a us last)

abbrev sequence_from : Inner5 → Bool → ℕ → Parser Read5
sequence_from i k at = ◌>>=◌ (assignment i k) (λ x. on (mark (codes ",")) (λ t. more_parts i k at x.value) (returns x))

sequence-from-semi : (i : Inner5) (k : Bool) (at b e : ℕ) (a : Bool) (us : List Token5) (last : ℕ) → sequence_from i k at (at_semi b e a us last) ≡ Fault Syntax (semi b e a ∷ us)
unfolding assignment
sequence-from-semi i k at b e a us last = ap (λ o. after o (λ x. on (mark (codes ",")) (λ t. more_parts i k at x.value) (returns x))) (assignment-semi i k b b e a us last)

pub sequence-semi : (i : Inner5) (k : Bool) (b e : ℕ) (a : Bool) (us : List Token5) (last : ℕ) → sequence i k (at_semi b e a us last) ≡ Fault Syntax (semi b e a ∷ us)
unfolding sequence
sequence-semi i k b e a us last = sequence-from-semi i k b b e a us last

abbrev property_from : Inner5 → ℕ → Parser Property5
property_from i at = on accessor_at (λ setter. after_accessor_word i at setter) (plain_property i at)

-- ## The readers

follow-operands : (operand : Parser Read5) (operand' : ℕ → Parser Read5) (h : (s : Input5) → Runs operand' operand s) (k : Bool) (level turns : ℕ) (s : Input5) → Runs (λ l. operands (operand' l) k level (plus turns l)) (operands operand k level turns) s
unfolding operands
follow-operands operand operand' h k level zero s = fault
follow-operands operand operand' h k level (suc turns) s = on-follows (binary_at k level) (binary-none k level) _ _ _ _ s
    (λ op c t. bind-follows _ _ _ _ c (h c) (λ x d. bind-follows _ _ _ _ d (follow-operands operand operand' h k level turns d) (λ rest e. returns-follows _ e)))
    (λ m. returns-follows _ s)

module _ (i : Inner5) (i' : ℕ → Inner5) (f : Follows i i') where
  pub follow-chain : (calls : Bool) (s : Input5) → Runs (λ l. chain (i' l) calls) (chain i calls) s
  unfolding chain
  follow-chain calls s = from-follows (chain_from i calls) (λ l. chain_from (i' l) calls) s (λ l at at' b e a us last. chain-semi (i' l) calls at b e a us last ∙ sym (chain-semi (i' l) calls at' b e a us last))
      (bind-follows _ _ _ _ s (follow-head i i' f (begin_of s.tokens) s) (λ x c.
      bind-follows _ _ _ _ c (spelled-follows _ (λ l. links (i' l) calls (plus i.fuel l)) c (λ l. ap (λ n. links (i' l) calls n) (f.fuel l)) (follow-links i i' f calls i.fuel c)) (λ ls d. made-follows _ d (λ _ _ _. refl))))

  follow-postfix : (s : Input5) → Runs (λ l. postfix (i' l)) (postfix i) s
  unfolding postfix
  follow-postfix s = from-follows (postfix_from i) (λ l. postfix_from (i' l)) s (λ l at at' b e a us last. postfix-semi (i' l) at b e a us last ∙ sym (postfix-semi (i' l) at' b e a us last))
      (bind-follows _ _ _ _ s (follow-chain true s) (λ x c. on-follows after_at after-none _ _ _ _ c (λ op d h. made-follows _ d (λ _ _ _. refl)) (λ m. returns-follows _ c)))

  pub follow-unary : (s : Input5) → Runs (λ l. unary (i' l)) (unary i) s
  unfolding unary prefixed updated
  follow-unary s = from-follows (unary_from i) (λ l. unary_from (i' l)) s (λ l at at' b e a us last. unary-semi (i' l) at b e a us last ∙ sym (unary-semi (i' l) at' b e a us last))
      (on-follows unary_at unary-none _ _ _ _ s (λ op c h. bind-follows _ _ _ _ c (f.unary c) (λ x d. made-follows _ d (λ _ _ _. refl)))
      (λ m. on-follows before_at (λ b e a. refl) _ _ _ _ s (λ op c h. bind-follows _ _ _ _ c (f.unary c) (λ x d. made-follows _ d (λ _ _ _. refl))) (λ m. follow-postfix s)))

  follow-binary : (k : Bool) (above level : ℕ) (s : Input5) → Runs (λ l. binary_from (i' l) k above level) (binary_from i k above level) s
  unfolding binary_from
  follow-binary k zero level s = follow-unary s
  follow-binary k (suc above) level s = from-follows (binary_body i k above level) (λ l. binary_body (i' l) k above level) s (λ l at at' b e a us last. binary-body-semi (i' l) k above level at b e a us last ∙ sym (binary-body-semi (i' l) k above level at' b e a us last))
      (bind-follows _ _ _ _ s (follow-binary k above (level + 1) s) (λ x c. bind-follows _ _ _ _ c
      (spelled-follows _ (λ l. operands (binary_from (i' l) k above (level + 1)) k level (plus i.fuel l)) c (λ l. ap (λ n. operands (binary_from (i' l) k above (level + 1)) k level n) (f.fuel l))
      (follow-operands (binary_from i k above (level + 1)) (λ l. binary_from (i' l) k above (level + 1)) (λ d. follow-binary k above (level + 1) d) k level i.fuel c))
      (λ rest d. made-follows _ d (λ _ _ _. refl))))

  follow-conditional : (k : Bool) (s : Input5) → Runs (λ l. conditional (i' l) k) (conditional i k) s
  unfolding conditional branches
  follow-conditional k s = from-follows (conditional_from i k) (λ l. conditional_from (i' l) k) s (λ l at at' b e a us last. conditional-semi (i' l) k at b e a us last ∙ sym (conditional-semi (i' l) k at' b e a us last))
      (bind-follows _ _ _ _ s (follow-binary k 10 3 s) (λ x c. on-follows (mark (codes "?")) (λ b e a. refl) _ _ _ _ c
      (λ t d h. bind-follows _ _ _ _ d (f.assignment false d) (λ y e. bind-follows _ _ _ _ e (mark-follows _ e) (λ u g. bind-follows _ _ _ _ g (f.assignment k g) (λ z j. made-follows _ j (λ _ _ _. refl)))))
      (λ m. returns-follows _ c)))

  pub follow-assignment : (k : Bool) (s : Input5) → Runs (λ l. assignment (i' l) k) (assignment i k) s
  unfolding assignment assigned
  follow-assignment k s = from-follows (assignment_from i k) (λ l. assignment_from (i' l) k) s (λ l at at' b e a us last. assignment-semi (i' l) k at b e a us last ∙ sym (assignment-semi (i' l) k at' b e a us last))
      (bind-follows _ _ _ _ s (follow-conditional k s) (λ x c. choose-follows (is_left x.shape) _ _ _ _ c
      (λ h. on-follows assign_at assign-none _ _ _ _ c (λ op d g. bind-follows _ _ _ _ d (f.assignment k d) (λ y e. made-follows _ e (λ _ _ _. refl))) (λ m. returns-follows _ c))
      (λ h. returns-follows _ c)))

  follow-parts : (k : Bool) (turns : ℕ) (s : Input5) → Runs (λ l. parts (i' l) k (plus turns l)) (parts i k turns) s
  unfolding parts
  follow-parts k zero s = fault
  follow-parts k (suc turns) s = bind-follows _ _ _ _ s (follow-assignment k s) (λ x c. on-follows (mark (codes ",")) (λ b e a. refl) _ _ _ _ c
      (λ t d h. bind-follows _ _ _ _ d (follow-parts k turns d) (λ xs e. returns-follows _ e)) (λ m. returns-follows _ c))

  pub follow-sequence : (k : Bool) (s : Input5) → Runs (λ l. sequence (i' l) k) (sequence i k) s
  unfolding sequence more_parts
  follow-sequence k s = from-follows (sequence_from i k) (λ l. sequence_from (i' l) k) s (λ l at at' b e a us last. sequence-from-semi (i' l) k at b e a us last ∙ sym (sequence-from-semi (i' l) k at' b e a us last))
      (bind-follows _ _ _ _ s (follow-assignment k s) (λ x c. on-follows (mark (codes ",")) (λ b e a. refl) _ _ _ _ c
      (λ t d h. bind-follows _ _ _ _ d (spelled-follows _ (λ l. parts (i' l) k (plus i.fuel l)) d (λ l. ap (λ n. parts (i' l) k n) (f.fuel l)) (follow-parts k i.fuel d)) (λ xs e. made-follows _ e (λ _ _ _. refl)))
      (λ m. returns-follows _ c)))

  -- ## Properties

  follow-value : (at : ℕ) (k : PlacedKey5) (s : Input5) → Runs (λ l. value_of_key (i' l) at k) (value_of_key i at k) s
  unfolding value_of_key
  follow-value at k s = bind-follows _ _ _ _ s (follow-assignment false s) (λ x c. made-follows _ c (λ _ _ _. refl))

  follow-plain : (at : ℕ) (s : Input5) → Runs (λ l. plain_property (i' l) at) (plain_property i at) s
  unfolding plain_property
  follow-plain at s = bind-follows _ _ _ _ s (follow-key s) (λ k c. bind-follows _ _ _ _ c (mark-follows _ c) (λ t d. follow-value at k d))

  follow-accessor-word : (at : ℕ) (setter : Bool) (s : Input5) → Runs (λ l. after_accessor_word (i' l) at setter) (after_accessor_word i at setter) s
  unfolding after_accessor_word
  follow-accessor-word at setter s = bind-follows _ _ _ _ s (made-follows (λ c. record { span = record { begin = at; end = c.last }; key = keys.WordKey (accessor_name setter) }) s (λ _ _ _. refl)) (λ k c.
      on-follows (mark (codes ":")) (λ b e a. refl) (λ t. value_of_key i at k) (λ l t. value_of_key (i' l) at k) (accessor i at setter) (λ l. accessor (i' l) at setter) c (λ t d h. follow-value at k d) (λ m. follow-accessor i i' f at setter c))

  property-semi : (at : ℕ) (l b e : ℕ) (a : Bool) (us : List Token5) (last : ℕ) → property_from (i' l) at (at_semi b e a us last) ≡ Fault Syntax (semi b e a ∷ us)
  unfolding plain_property key
  property-semi at l b e a us last = refl

  pub follow-property : (s : Input5) → Runs (λ l. one_property (i' l)) (one_property i) s
  unfolding one_property
  follow-property s = from-follows (property_from i) (λ l. property_from (i' l)) s (λ l at at' b e a us last. property-semi at l b e a us last ∙ sym (property-semi at' l b e a us last))
      (on-follows accessor_at (λ b e a. refl) _ _ _ _ s (λ setter c h. follow-accessor-word (begin_of s.tokens) setter c) (λ m. follow-plain (begin_of s.tokens) s))
