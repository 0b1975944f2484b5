-- The readers of operators, arrow functions, assignments, expressions with commas and properties with insertion follow those
-- without it.
use Rattle.std.proofs.Common.{◌≡◌, ℕ, zero, suc, ◌+◌, Bool, true, false, ◌||◌, not, List, [], ◌∷◌, Option, None, refl, sym, ap, subst, ◌∙◌}
use Rattle.std.proofs.lemmas.Bool.{false≢true}
use Rattle.std.specs.Prelude.{codes}
use Rattle.es6_lexer.specs.declared.token.Punctuator.TheVariants as marks
use Rattle.es6_ast.specs.declared.operators.MethodKind.TheVariants.{PlainMethod}
use Rattle.es6_ast.specs.declared.operators.BinaryOperator.{BinaryOperator}
use Rattle.es6_ast.specs.declared.operators.UnaryOperator.{UnaryOperator}
use Rattle.es6_ast.specs.declared.operators.UpdateOperator.{UpdateOperator}
use Rattle.es6_ast.specs.declared.operators.AssignOperator.{AssignOperator}
use Rattle.es6_ast.specs.declared.tree.Identifier.{Identifier}
use Rattle.es6_ast.specs.declared.tree.Expression.{Expression}
use Rattle.es6_ast.specs.declared.tree.Expression.TheVariants as expr
use Rattle.es6_ast.specs.declared.tree.Key.{Key}
use Rattle.es6_ast.specs.declared.tree.Key.TheVariants.{WordKey}
use Rattle.es6_ast.specs.declared.tree.Parameter.{Parameter}
use Rattle.es6_ast.specs.declared.tree.Property.{Property}
use Rattle.es6_ast.specs.declared.tree.Property.TheVariants as property
use Rattle.es6_ast.specs.declared.settings.Flags.{Flags}
use Rattle.es6_ast.specs.declared.settings.Role.{Role}
use Rattle.es6_ast.specs.declared.settings.Role.TheVariants.{Leading, Among}
use Rattle.es6_ast.specs.Tokens.{Filled, begin_of}
use Rattle.es6_ast.specs.Grammar.{with_in, of_function, of_arrow}
use Rattle.es6_reading.specs.Parser.{Input, Parser, returns, ◌>>=◌, refused, no_number, on, choose, next_is, if_next, mark, word, next_mark, from, made, Reading, is_left, is_covered, Inner}
use Rattle.es6_reading.specs.Words.{free_name, accessor_at, accessor_name, unary_operators, unary_at, before_at, after_at, assign_operators, assign_at, binary_operators, binary_at, arrow_at}
use Rattle.es6_reading.specs.Refine.{Refined, Fits, Misfit, TooNested, target_before}
use Rattle.es6_reading.specs.Parts.{key, accessor, generator_method}
use Rattle.es6_reading.specs.Expressions.{other, chain, postfix, prefixed, updated, update, unary, raised, power, operands, operated, binary_from, branches, conditional, parameters_before, arrow_body, before_arrow, arrow_if, assigned_with, after_conditional, star_at, ends_yield, after_yield, without_yield, assignment, parts, more_parts, sequence, value_of_key, method_of_key, after_key, shorthand, after_name, ends_name, after_accessor_word, one_property}
use Rattle.es6_reading.proofs.Posts.{Holds, took, fault, weaken, on-holds, choose-holds, if-holds, refused-holds}
use Rattle.es6_reading.proofs.Follows.{plus, semi, SameHead, nothing, same, Near, near, stop, FollowedBy, Followed, FirmBy, bind-follows, same-followed, stands-less}
use Rattle.es6_reading.proofs.FollowChoices.{Runs, on-missed, near-next, on-follows, mark-follows, choose-follows, StopsAtSemi, stopped, firm-followed, if-value, if-follows, before-arrow-follows, from-follows, from-firm, made-follows, made-at-follows, returns-follows, spelled-follows, firm-same, firm-followed-by, hit-firm, strictly, then-strict, on-strict, from-strict}
use Rattle.es6_reading.proofs.FollowEnds.{Follows, fitting-follows, kept-fits, kept-misfit}
use Rattle.es6_reading.proofs.FollowParts.{follow-key, follow-method-after-key, method-after-key-stops, follow-accessor, follow-generator}
use Rattle.es6_reading.proofs.FollowPrimary.{follow-chain, chain-stops}
use Rattle.es6_reading.proofs.RefineMore.{Kept, kept-before, kept-parameters-before}

-- ## No expression begins with an inserted semicolon

pub unary-none : (d : Bool) (at : ℕ) → ◌≡◌ {A = Option UnaryOperator} (unary_at (semi d at)) None
unfolding unary_operators
unary-none d at = refl

pub assign-none : (d : Bool) (at : ℕ) → ◌≡◌ {A = Option AssignOperator} (assign_at (semi d at)) None
unfolding assign_operators
assign-none d at = refl

pub binary-none : (f : Flags) (level : ℕ) (d : Bool) (at : ℕ) → ◌≡◌ {A = Option BinaryOperator} (binary_at f level (semi d at)) None
unfolding binary_operators
binary-none f level d at = refl

abbrev pub postfix_from : Inner → Flags → Role → ℕ → Parser Reading
postfix_from i f role at = ◌>>=◌ (chain i f role) (λ x. on after_at (λ op. made at (λ span. other (expr.Update span op x.value))) (returns x))

abbrev pub update_from : Inner → Flags → Role → ℕ → Parser Reading
update_from i f role at = on before_at (λ op. updated i f at op) (postfix i f role)

abbrev pub unary_from : Inner → Flags → ℕ → Parser Reading
unary_from i f at = on unary_at (λ op. prefixed i f at op) (update i f Among)

abbrev pub power_from : Inner → Flags → Role → ℕ → Parser Reading
power_from i f role at = on unary_at (λ op. prefixed i f at op) (◌>>=◌ (update i f role) (λ x. raised i f at x))

abbrev pub binary_body : Inner → Flags → Role → ℕ → ℕ → ℕ → Parser Reading
binary_body i f role above level at = ◌>>=◌ (binary_from i f role above (level + 1)) (λ x. ◌>>=◌ (operands (binary_from i f Among above (level + 1)) f level i.fuel) (λ rest. made at (operated x rest)))

abbrev pub conditional_from : Inner → Flags → ℕ → Parser Reading
conditional_from i f at = ◌>>=◌ (binary_from i f Leading 10 3) (λ x. on (mark marks.Question) (λ _. branches i f at x.value) (returns x))

abbrev pub assignment_from : Inner → Flags → ℕ → Parser Reading
assignment_from i f at = choose f.has_yield (on (word (codes "yield")) (λ _. after_yield i f at) (without_yield i f at)) (without_yield i f at)

abbrev pub sequence_from : Inner → Flags → ℕ → Parser Reading
sequence_from i f at = ◌>>=◌ (assignment i f) (λ x. on (mark marks.Comma) (λ _. more_parts i f at x.value) (returns x))

abbrev pub arrow_from : Inner → Flags → ℕ → Reading → ℕ → Parser Reading
arrow_from i f at x place = arrow_if i f at x (parameters_before i.fuel x.shape x.value)

abbrev pub property_from : Inner → Flags → ℕ → Parser Property
property_from i f at = on (mark marks.Star) (λ _. ◌>>=◌ (generator_method i f at) (λ m. returns (property.Defined m))) (on accessor_at (λ setter. after_accessor_word i f at setter)
    (on free_name (λ name. ◌>>=◌ (made {A = Identifier} at (λ span. record { span = span; name = name })) (λ n. after_name i f at n)) (◌>>=◌ (key i f) (λ k. after_key i f at k))))

-- ## The readers

follow-operands : (operand : Parser Reading) (operand' : ℕ → Parser Reading) (h : (s : Input) → Runs operand' operand s) (f : Flags) (level turns : ℕ) (s : Input) → Runs (λ l. operands (operand' l) f level (plus turns l)) (operands operand f level turns) s
unfolding operands
follow-operands operand operand' h f level zero s = fault
follow-operands operand operand' h f level (suc turns) s = on-follows (binary_at f level) (binary-none f level) _ _ _ _ s
    (λ op c t. bind-follows _ _ _ _ c (h c) (λ x d. bind-follows _ _ _ _ d (follow-operands operand operand' h f level turns d) (λ rest e. returns-follows _ e)))
    (λ m. returns-follows _ s)

module _ (i' : ℕ → Inner) where
  postfix-stops : (f : Flags) (role : Role) → StopsAtSemi (λ l. postfix (i' l) f role)
  unfolding postfix
  postfix-stops f role l d at us last = stopped _ (chain-stops i' f role l d at us last)

  update-stops : (f : Flags) (role : Role) → StopsAtSemi (λ l. update (i' l) f role)
  unfolding update
  update-stops f role l d at us last = postfix-stops f role l d at us last

  unary-from-stops : (f : Flags) (place : ℕ) → StopsAtSemi (λ l. unary_from (i' l) f place)
  unfolding unary_operators
  unary-from-stops f place l d at us last = update-stops f Among l d at us last

  power-from-stops : (f : Flags) (role : Role) (place : ℕ) → StopsAtSemi (λ l. power_from (i' l) f role place)
  unfolding unary_operators
  power-from-stops f role place l d at us last = stopped _ (update-stops f role l d at us last)

  power-stops : (f : Flags) (role : Role) → StopsAtSemi (λ l. power (i' l) f role)
  unfolding power
  power-stops f role l d at us last = power-from-stops f role at l d at us last

  binary-stops : (f : Flags) (role : Role) (above level : ℕ) → StopsAtSemi (λ l. binary_from (i' l) f role above level)
  unfolding binary_from
  binary-stops f role zero level l d at us last = power-stops f role l d at us last
  binary-stops f role (suc above) level l d at us last = stopped _ (binary-stops f role above (level + 1) l d at us last)

  conditional-stops : (f : Flags) → StopsAtSemi (λ l. conditional (i' l) f)
  unfolding conditional
  conditional-stops f l d at us last = stopped _ (binary-stops f Leading 10 3 l d at us last)

  without-yield-stops : (f : Flags) (at : ℕ) → StopsAtSemi (λ l. without_yield (i' l) f at)
  unfolding without_yield
  without-yield-stops f at l d place us last = stopped _ (conditional-stops f l d place us last)

  assignment-from-stops : (f : Flags) (place : ℕ) → StopsAtSemi (λ l. assignment_from (i' l) f place)
  assignment-from-stops f place l d at us last = choose-holds _ _ f.has_yield _ (λ e. without-yield-stops f place l d at us last) (λ e. without-yield-stops f place l d at us last)

  pub assignment-stops : (f : Flags) → StopsAtSemi (λ l. assignment (i' l) f)
  unfolding assignment
  assignment-stops f l d at us last = assignment-from-stops f at l d at us last

  pub sequence-stops : (f : Flags) → StopsAtSemi (λ l. sequence (i' l) f)
  unfolding sequence
  sequence-stops f l d at us last = stopped _ (assignment-stops f l d at us last)

module _ (i : Inner) (i' : ℕ → Inner) (h : Follows i i') where
  follow-postfix : (f : Flags) (role : Role) (s : Input) → Runs (λ l. postfix (i' l) f role) (postfix i f role) s
  unfolding postfix
  follow-postfix f role s = from-firm (postfix_from i f role) (λ l. postfix_from (i' l) f role) s (λ place l d at us last. stopped _ (chain-stops i' f role l d at us last))
      (bind-follows _ _ _ _ s (follow-chain i i' h f role s) (λ x c. on-follows after_at (λ d at. refl) _ _ _ _ c (λ op d n. made-follows _ d (λ _ _ _. refl)) (λ m. returns-follows _ c)))

  follow-prefixed : (f : Flags) (at : ℕ) (op : UnaryOperator) (s : Input) → Runs (λ l. prefixed (i' l) f at op) (prefixed i f at op) s
  unfolding prefixed
  follow-prefixed f at op s = bind-follows _ _ _ _ s (h.unary f s) (λ x c. made-follows _ c (λ _ _ _. refl))

  follow-updated : (f : Flags) (at : ℕ) (op : UpdateOperator) (s : Input) → Runs (λ l. updated (i' l) f at op) (updated i f at op) s
  unfolding updated
  follow-updated f at op s = bind-follows _ _ _ _ s (h.unary f s) (λ x c. made-follows _ c (λ _ _ _. refl))

  follow-update : (f : Flags) (role : Role) (s : Input) → Runs (λ l. update (i' l) f role) (update i f role) s
  unfolding update
  follow-update f role s = from-firm (update_from i f role) (λ l. update_from (i' l) f role) s (λ place l d at us last. postfix-stops i' f role l d at us last)
      (on-follows before_at (λ d at. refl) _ _ _ _ s (λ op c n. follow-updated f _ op c) (λ m. follow-postfix f role s))

  pub follow-unary : (f : Flags) (s : Input) → Runs (λ l. unary (i' l) f) (unary i f) s
  unfolding unary
  follow-unary f s = from-firm (unary_from i f) (λ l. unary_from (i' l) f) s (unary-from-stops i' f)
      (on-follows unary_at unary-none _ _ _ _ s (λ op c n. follow-prefixed f _ op c) (λ m. follow-update f Among s))

  follow-raised : (f : Flags) (at : ℕ) (x : Reading) (s : Input) → Runs (λ l. raised (i' l) f at x) (raised i f at x) s
  unfolding raised
  follow-raised f at x s = on-follows (mark marks.StarStar) (λ d at. refl) _ _ _ _ s (λ t c n. bind-follows _ _ _ _ c (h.power f c) (λ y d. made-follows _ d (λ _ _ _. refl))) (λ m. returns-follows _ s)

  pub follow-power : (f : Flags) (role : Role) (s : Input) → Runs (λ l. power (i' l) f role) (power i f role) s
  unfolding power
  follow-power f role s = from-firm (power_from i f role) (λ l. power_from (i' l) f role) s (power-from-stops i' f role)
      (on-follows unary_at unary-none _ _ _ _ s (λ op c n. follow-prefixed f _ op c) (λ m. bind-follows _ _ _ _ s (follow-update f role s) (λ x c. follow-raised f _ x c)))

  follow-binary : (f : Flags) (role : Role) (above level : ℕ) (s : Input) → Runs (λ l. binary_from (i' l) f role above level) (binary_from i f role above level) s
  unfolding binary_from
  follow-binary f role zero level s = follow-power f role s
  follow-binary f role (suc above) level s = from-firm (binary_body i f role above level) (λ l. binary_body (i' l) f role above level) s (λ place l d at us last. stopped _ (binary-stops i' f role above (level + 1) l d at us last))
      (bind-follows _ _ _ _ s (follow-binary f role above (level + 1) s) (λ x c. bind-follows _ _ _ _ c
      (spelled-follows _ (λ l. operands (binary_from (i' l) f Among above (level + 1)) f level (plus i.fuel l)) c (λ l. ap (λ n. operands (binary_from (i' l) f Among above (level + 1)) f level n) (h.fuel l))
      (follow-operands (binary_from i f Among above (level + 1)) (λ l. binary_from (i' l) f Among above (level + 1)) (λ d. follow-binary f Among above (level + 1) d) f level i.fuel c))
      (λ rest d. made-follows _ d (λ _ _ _. refl))))

  follow-branches : (f : Flags) (at : ℕ) (test : Expression) (s : Input) → Runs (λ l. branches (i' l) f at test) (branches i f at test) s
  unfolding branches
  follow-branches f at test s = bind-follows _ _ _ _ s (h.assignment (with_in f) s) (λ x c. bind-follows _ _ _ _ c (mark-follows marks.Colon c) (λ t d. bind-follows _ _ _ _ d (h.assignment f d) (λ y e. made-follows _ e (λ _ _ _. refl))))

  follow-conditional : (f : Flags) (s : Input) → Runs (λ l. conditional (i' l) f) (conditional i f) s
  unfolding conditional
  follow-conditional f s = from-firm (conditional_from i f) (λ l. conditional_from (i' l) f) s (λ place l d at us last. stopped _ (binary-stops i' f Leading 10 3 l d at us last))
      (bind-follows _ _ _ _ s (follow-binary f Leading 10 3 s) (λ x c. on-follows (mark marks.Question) (λ d at. refl) _ _ _ _ c (λ t d n. follow-branches f _ x.value d) (λ m. returns-follows _ c)))

  -- ## Arrow functions

  follow-arrow-body : (f : Flags) (at : ℕ) (es : List Parameter) (s : Input) → Runs (λ l. arrow_body (i' l) f at es) (arrow_body i f at es) s
  unfolding arrow_body
  follow-arrow-body f at es s = if-follows (next_mark marks.LeftBrace) (λ d at. refl) _ _ _ _ s (λ l d place us last. stopped _ (h.block_stops (of_function false) l d place us last))
      (λ e. bind-follows _ _ _ _ s (h.block (of_function false) s) (λ b c. made-follows _ c (λ _ _ _. refl)))
      (λ e. bind-follows _ _ _ _ s (h.assignment (of_arrow f) s) (λ x c. made-follows _ c (λ _ _ _. refl)))

  follow-arrow-if : (f : Flags) (at : ℕ) (x : Reading) (r : Refined (List Parameter)) (r' : ℕ → Refined (List Parameter)) → ((l : ℕ) → Kept r (r' l)) → (s : Input) → Runs (λ l. arrow_if (i' l) f at x (r' l)) (arrow_if i f at x r) s
  follow-arrow-if f at x (Fits es) r' k s = spelled-follows _ (λ l. on arrow_at (λ _. arrow_body (i' l) f at es) refused) s (λ l. ap (λ o. arrow_if (i' l) f at x o) (kept-fits (k l)))
      (on-follows arrow_at (λ d at. refl) (λ _. arrow_body i f at es) (λ l _. arrow_body (i' l) f at es) refused (λ l. refused) s (λ t c n. follow-arrow-body f at es c) (λ m. refused-holds s))
  follow-arrow-if f at x (Misfit place) r' k s = spelled-follows _ (λ l. before_arrow x) s (λ l. ap (λ o. arrow_if (i' l) f at x o) (kept-misfit (k l)))
      (choose-follows (is_covered x.shape) _ _ _ _ s (λ c. refused-holds s) (λ c. returns-follows x s))
  follow-arrow-if f at x TooNested r' k s = fault

  more-parameters : (x : Reading) (l : ℕ) → Kept (parameters_before i.fuel x.shape x.value) (parameters_before (i' l).fuel x.shape x.value)
  more-parameters x l = subst (λ n. Kept (parameters_before i.fuel x.shape x.value) (parameters_before n x.shape x.value)) (sym (h.fuel l)) (kept-parameters-before i.fuel l x.shape x.value)

  -- ## Assignment and yield

  follow-assigned : (f : Flags) (at : ℕ) (x : Expression) (op : AssignOperator) (s : Input) → Runs (λ l. assigned_with (i' l) f at x op) (assigned_with i f at x op) s
  unfolding assigned_with
  follow-assigned f at x op s = bind-follows _ _ _ _ s
      (fitting-follows (target_before i.fuel op x) (λ l. target_before (i' l).fuel op x) s (λ l. subst (λ n. Kept (target_before i.fuel op x) (target_before n op x)) (sym (h.fuel l)) (kept-before i.fuel l op x)))
      (λ p c. bind-follows _ _ _ _ c (h.assignment f c) (λ y d. made-follows _ d (λ _ _ _. refl)))

  follow-after-conditional : (f : Flags) (at : ℕ) (x : Reading) (s : Input) → Runs (λ l. after_conditional (i' l) f at x) (after_conditional i f at x) s
  unfolding after_conditional
  follow-after-conditional f at x s = before-arrow-follows (from (arrow_from i f at x)) (λ l. from (arrow_from (i' l) f at x)) _ _ s
      (λ e. from-follows (arrow_from i f at x) (λ l. arrow_from (i' l) f at x) s (λ l place place' d at us last. refl)
      (follow-arrow-if f at x (parameters_before i.fuel x.shape x.value) (λ l. parameters_before (i' l).fuel x.shape x.value) (more-parameters x) s))
      (λ e. choose-follows (is_left x.shape) _ _ _ _ s
      (λ k. on-follows assign_at assign-none _ _ _ _ s (λ op c n. follow-assigned f at x.value op c) (λ m. returns-follows _ s))
      (λ k. returns-follows _ s))

  yield-ends : (d : Bool) (at : ℕ) → not (ends_yield (semi d at)) ≡ false
  unfolding ends_yield
  yield-ends d at = refl

  follow-after-yield : (f : Flags) (at : ℕ) (s : Input) → Runs (λ l. after_yield (i' l) f at) (after_yield i f at) s
  unfolding after_yield
  follow-after-yield f at s = on-follows star_at (λ d at. refl) _ _ _ _ s (λ t c n. bind-follows _ _ _ _ c (h.assignment f c) (λ x d. made-follows _ d (λ _ _ _. refl)))
      (λ m. if-follows (λ t. not (ends_yield t)) yield-ends _ _ _ _ s (λ l d place us last. stopped _ (h.assignment_stops f l d place us last))
      (λ e. bind-follows _ _ _ _ s (h.assignment f s) (λ x c. made-follows _ c (λ _ _ _. refl))) (λ e. made-follows _ s (λ _ _ _. refl)))

  follow-without-yield : (f : Flags) (at : ℕ) (s : Input) → Runs (λ l. without_yield (i' l) f at) (without_yield i f at) s
  unfolding without_yield
  follow-without-yield f at s = bind-follows _ _ _ _ s (follow-conditional f s) (λ x c. follow-after-conditional f at x c)

  pub follow-assignment : (f : Flags) (s : Input) → Runs (λ l. assignment (i' l) f) (assignment i f) s
  unfolding assignment
  follow-assignment f s = from-firm (assignment_from i f) (λ l. assignment_from (i' l) f) s (assignment-from-stops i' f)
      (choose-follows f.has_yield _ _ _ _ s
      (λ e. on-follows (word (codes "yield")) (λ d at. refl) _ _ _ _ s (λ t c n. follow-after-yield f _ c) (λ m. follow-without-yield f _ s))
      (λ e. follow-without-yield f _ s))

  -- ## Expressions with commas

  follow-more : (f : Flags) (turns : ℕ) (s : Input) → Runs (λ l. parts (i' l) f (plus turns l)) (parts i f turns) s
  unfolding parts
  follow-more f zero s = fault
  follow-more f (suc turns) s = bind-follows _ _ _ _ s (follow-assignment f s) (λ x c. on-follows (mark marks.Comma) (λ d at. refl) _ _ _ _ c
      (λ t d n. bind-follows _ _ _ _ d (follow-more f turns d) (λ xs e. returns-follows _ e)) (λ m. returns-follows _ c))

  follow-more-parts : (f : Flags) (at : ℕ) (first : Expression) (s : Input) → Runs (λ l. more_parts (i' l) f at first) (more_parts i f at first) s
  unfolding more_parts
  follow-more-parts f at first s = bind-follows _ _ _ _ s (spelled-follows _ (λ l. parts (i' l) f (plus i.fuel l)) s (λ l. ap (λ n. parts (i' l) f n) (h.fuel l)) (follow-more f i.fuel s)) (λ xs c. made-follows _ c (λ _ _ _. refl))

  pub follow-sequence : (f : Flags) (s : Input) → Runs (λ l. sequence (i' l) f) (sequence i f) s
  unfolding sequence
  follow-sequence f s = from-firm (sequence_from i f) (λ l. sequence_from (i' l) f) s (λ place l d at us last. stopped _ (assignment-stops i' f l d at us last))
      (bind-follows _ _ _ _ s (follow-assignment f s) (λ x c. on-follows (mark marks.Comma) (λ d at. refl) _ _ _ _ c (λ t d n. follow-more-parts f _ x.value d) (λ m. returns-follows _ c)))

  -- ## Properties

  follow-value : (f : Flags) (at : ℕ) (k : Key) (s : Input) → Runs (λ l. value_of_key (i' l) f at k) (value_of_key i f at k) s
  unfolding value_of_key
  follow-value f at k s = bind-follows _ _ _ _ s (follow-assignment (with_in f) s) (λ x c. made-follows _ c (λ _ _ _. refl))

  follow-method-of-key : (at : ℕ) (k : Key) (s : Input) → Runs (λ l. method_of_key (i' l) at k) (method_of_key i at k) s
  unfolding method_of_key
  follow-method-of-key at k s = bind-follows _ _ _ _ s (follow-method-after-key i i' h PlainMethod false at k s) (λ m c. returns-follows _ c)

  follow-after-key : (f : Flags) (at : ℕ) (k : Key) (s : Input) → Runs (λ l. after_key (i' l) f at k) (after_key i f at k) s
  unfolding after_key
  follow-after-key f at k s = on-follows (mark marks.Colon) (λ d at. refl) _ _ _ _ s (λ t c n. follow-value f at k c) (λ m. follow-method-of-key at k s)

  after-key-stops : (f : Flags) (at : ℕ) (k : Key) → StopsAtSemi (λ l. after_key (i' l) f at k)
  unfolding after_key method_of_key
  after-key-stops f at k l d place us last = stopped _ (method-after-key-stops i i' h PlainMethod false at k l d place us last)

  follow-shorthand : (f : Flags) (at : ℕ) (n : Identifier) (s : Input) → Runs (λ l. shorthand (i' l) f at n) (shorthand i f at n) s
  unfolding shorthand
  follow-shorthand f at n s = on-follows (mark marks.Assign) (λ d at. refl) _ _ _ _ s (λ t c k. bind-follows _ _ _ _ c (h.assignment (with_in f) c) (λ x d. made-follows _ d (λ _ _ _. refl))) (λ m. returns-follows _ s)

  follow-after-name : (f : Flags) (at : ℕ) (n : Identifier) (s : Input) → Runs (λ l. after_name (i' l) f at n) (after_name i f at n) s
  unfolding after_name
  follow-after-name f at n s = if-follows (λ t. next_mark marks.Colon t || next_mark marks.LeftParenthesis t) (λ d at. refl) _ _ _ _ s (after-key-stops f at (WordKey n.span n.name))
      (λ e. follow-after-key f at (WordKey n.span n.name) s) (λ e. follow-shorthand f at n s)

  abbrev ends_key : Filled → Bool
  ends_key t = next_mark marks.Colon t || next_mark marks.LeftParenthesis t

  abbrev named_or_accessor : Inner → Flags → ℕ → Bool → Identifier → Parser Property
  named_or_accessor j f at setter n = if_next ends_name (after_name j f at n) (◌>>=◌ (accessor j f at setter) (λ m. returns (property.Defined m)))

  same-next : (test : Filled → Bool) (v : Bool) {ts us : List Filled} → SameHead ts us → next_is test ts ≡ v → next_is test us ≡ v
  same-next test v nothing e = e
  same-next test v same e = e

  key-followed : (f : Flags) (at : ℕ) (setter : Bool) (n : Identifier) (ts : List Filled) (last : ℕ) (x : Property) (c : Input) → next_is ends_name ts ≡ true → next_is ends_key ts ≡ true
      → Followed (λ l. after_key (i' l) f at (WordKey n.span n.name)) (record { tokens = ts; last = last }) x c → Followed (λ l. named_or_accessor (i' l) f at setter n) (record { tokens = ts; last = last }) x c
  unfolding after_name
  key-followed f at setter n [] last x c e k r = absurd (false≢true e)
  key-followed f at setter n (t ∷ ts) last x c e k r = firm-followed _ (λ l. after_key (i' l) f at (WordKey n.span n.name)) t ts last c x (after-key-stops f at (WordKey n.span n.name))
      (λ l us. if-value ends_name (after_name (i' l) f at n) _ true (t ∷ us) last e ∙ if-value ends_key (after_key (i' l) f at (WordKey n.span n.name)) (shorthand (i' l) f at n) true (t ∷ us) last k) r

  initialized-followed : (f : Flags) (at : ℕ) (setter : Bool) (n : Identifier) (s : Input) (x : Property) (c : Input) → next_is ends_name s.tokens ≡ true → next_is ends_key s.tokens ≡ false
      → FirmBy Near (λ l. shorthand (i' l) f at n) s x c → FollowedBy SameHead (λ l. named_or_accessor (i' l) f at setter n) s x c
  unfolding after_name
  initialized-followed f at setter n s x c e k r = stands-less {more = Near} (λ ts us j. near j) (firm-followed-by (firm-same (λ l. named_or_accessor (i' l) f at setter n) (λ l. shorthand (i' l) f at n) s c x r
      (λ l us. if-value ends_name (after_name (i' l) f at n) _ true (r.first ∷ us) s.last (subst (λ ts. next_is ends_name ts ≡ true) r.all e)
      ∙ if-value ends_key (after_key (i' l) f at (WordKey n.span n.name)) (shorthand (i' l) f at n) false (r.first ∷ us) s.last (subst (λ ts. next_is ends_key ts ≡ false) r.all k))))

  name-followed : (f : Flags) (at : ℕ) (setter : Bool) (n : Identifier) (s : Input) → next_is ends_name s.tokens ≡ true → Holds (FollowedBy SameHead (λ l. named_or_accessor (i' l) f at setter n) s) (after_name i f at n s)
  unfolding after_name shorthand
  name-followed f at setter n s e = if-holds ends_key (after_key i f at (WordKey n.span n.name)) (shorthand i f at n) s
      (λ k. strictly (weaken (follow-after-key f at (WordKey n.span n.name) s) (λ y d r. key-followed f at setter n s.tokens s.last y d e k r)))
      (λ k. on-holds (mark marks.Assign) _ _ s
      (λ t c m. weaken (bind-follows _ _ (λ x. made at (λ span. property.Initialized span n t.span x.value)) (λ l x. made at (λ span. property.Initialized span n t.span x.value)) c (h.assignment (with_in f) c) (λ x d. made-follows _ d (λ _ _ _. refl)))
      (λ y d r. initialized-followed f at setter n s y d e k (hit-firm (mark marks.Assign) (λ l t. ◌>>=◌ ((i' l).assignment (with_in f)) (λ x. made at (λ span. property.Initialized span n t.span x.value))) (λ l. returns (property.Shorthand n.span n.name)) m r)))
      (λ m. took (record {
        filled = [];
        ends = refl;
        gaps = stop;
        run = λ l rest j. if-value ends_name (after_name (i' l) f at n) _ true rest s.last (same-next ends_name true j e)
            ∙ if-value ends_key (after_key (i' l) f at (WordKey n.span n.name)) (shorthand (i' l) f at n) false rest s.last (same-next ends_key false j k)
            ∙ on-missed (mark marks.Assign) (λ d at. refl) _ (returns (property.Shorthand n.span n.name)) s.last (near j) m;
      })))

  follow-named-or-accessor : (f : Flags) (at : ℕ) (setter : Bool) (n : Identifier) (s : Input) → Holds (FollowedBy SameHead (λ l. named_or_accessor (i' l) f at setter n) s) (named_or_accessor i f at setter n s)
  follow-named-or-accessor f at setter n s = if-holds ends_name (after_name i f at n) (◌>>=◌ (accessor i f at setter) (λ m. returns (property.Defined m))) s
      (λ e. name-followed f at setter n s e)
      (λ e. strictly (weaken (bind-follows _ _ (λ m. returns (property.Defined m)) (λ l m. returns (property.Defined m)) s (follow-accessor i i' h f at setter s) (λ m c. returns-follows _ c))
      (λ y d r. same-followed _ _ s d y (λ l us k. if-value ends_name (after_name (i' l) f at n) _ false us s.last (near-next ends_name false (λ d at. refl) k e)) r)))

  follow-accessor-property : (f : Flags) (at : ℕ) (setter : Bool) (s : Input) → Holds (FollowedBy SameHead (λ l. after_accessor_word (i' l) f at setter) s) (after_accessor_word i f at setter s)
  unfolding after_accessor_word
  follow-accessor-property f at setter s = then-strict _ _ (λ n. named_or_accessor i f at setter n) (λ l n. named_or_accessor (i' l) f at setter n) s (made-at-follows {A = Identifier} at (λ span. record { span = span; name = accessor_name setter }) s) (λ n c. follow-named-or-accessor f at setter n c)

  property-free : (f : Flags) (l place place' : ℕ) (d : Bool) (at : ℕ) (us : List Filled) (last : ℕ) → property_from (i' l) f place (record { tokens = semi d at ∷ us; last = last }) ≡ property_from (i' l) f place' (record { tokens = semi d at ∷ us; last = last })
  unfolding key no_number
  property-free f l place place' d at us last = refl

  pub follow-property : (f : Flags) (s : Input) → Holds (FollowedBy SameHead (λ l. one_property (i' l) f) s) (one_property i f s)
  unfolding one_property
  follow-property f s = from-strict (property_from i f) (λ l. property_from (i' l) f) s (property-free f)
      (on-strict (mark marks.Star) (λ d at. refl) _ _ _ _ s (λ t c n. strictly (bind-follows _ _ _ _ c (follow-generator i i' h f (begin_of s.tokens) c) (λ m d. returns-follows _ d))) (λ m.
      on-strict accessor_at (λ d at. refl) _ _ _ _ s (λ setter c n. follow-accessor-property f (begin_of s.tokens) setter c) (λ m.
      on-strict free_name (λ d at. refl) _ _ _ _ s
      (λ name c k. strictly (bind-follows _ _ (λ n. after_name i f (begin_of s.tokens) n) (λ l n. after_name (i' l) f (begin_of s.tokens) n) c (made-at-follows {A = Identifier} (begin_of s.tokens) (λ span. record { span = span; name = name }) c) (λ n d. follow-after-name f (begin_of s.tokens) n d)))
      (λ m. strictly (bind-follows _ _ _ _ s (follow-key i i' h f s) (λ k c. follow-after-key f (begin_of s.tokens) k c))))))
