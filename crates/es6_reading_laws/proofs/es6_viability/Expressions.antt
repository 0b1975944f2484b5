-- Expressions can be completed wherever their readers stop.
use Rattle.std.specs.Prelude.{codes, is_some, ◌⊎◌}
use Rattle.std.proofs.Common.{◌≡◌, ◌∙◌, ℕ, zero, suc, ◌+◌, ◌≤◌, Bool, true, false, ◌&&◌, List, [], ◌∷◌, ◌++◌, length, Option, Some, None, refl, sym, ap, subst, inl, inr}
use Rattle.std.proofs.lemmas.Bool.{false≢true}
use Rattle.es_text.specs.declared.Span.{Span}
use Rattle.es6_lexer.specs.declared.token.TokenKind.TheVariants.{Punctuator}
use Rattle.es6_lexer.specs.declared.token.Punctuator.TheVariants as marks
use Rattle.es6_ast.specs.declared.operators.AssignOperator.{AssignOperator}
use Rattle.es6_ast.specs.declared.operators.AssignOperator.TheVariants as assign
use Rattle.es6_ast.specs.declared.operators.UnaryOperator.{UnaryOperator}
use Rattle.es6_ast.specs.declared.settings.Flags.{Flags}
use Rattle.es6_ast.specs.declared.settings.Role.{Role}
use Rattle.es6_ast.specs.declared.settings.Role.TheVariants.{Leading, Among, Heritage, Callee}
use Rattle.es6_ast.specs.declared.settings.Shape.{Shape}
use Rattle.es6_ast.specs.declared.settings.Shape.TheVariants.{Bare, Grouped, Covered, LeftHandSide, Other}
use Rattle.es6_ast.specs.declared.tree.Expression.{Expression, out-Expression}
use Rattle.es6_ast.specs.declared.tree.Expression.TheVariants as expr
use Rattle.es6_ast.specs.declared.tree.Argument.TheOpen as layer
use Rattle.es6_ast.specs.declared.tree.Argument.TheOpen.{Expression-F}
use Rattle.es6_ast.specs.declared.tree.Parameter.TheVariants.{SingleParameter}
use Rattle.es6_ast.specs.declared.tree.Part.{Part}
use Rattle.es6_ast.specs.declared.tree.Pattern.TheVariants as pattern
use Rattle.es6_ast.specs.Spans.{Open, span_of}
use Rattle.es6_ast.specs.declared.tree.Identifier.{Identifier}
use Rattle.es6_ast.specs.declared.tree.Key.{Key}
use Rattle.es6_ast.specs.declared.tree.Link.{Link}
use Rattle.es6_ast.specs.declared.tree.Operand.{Operand}
use Rattle.es6_ast.specs.declared.tree.Parameter.{Parameter}
use Rattle.es6_ast.specs.declared.tree.Pattern.{Pattern}
use Rattle.es6_ast.specs.declared.tree.Rest.{Rest as Dots}
use Rattle.es6_ast.specs.Settings.{is_leading, has_calls}
use Rattle.es6_ast.specs.Tokens.{Filled}
use Rattle.es6_ast.specs.Grammar.{with_in, of_function, of_arrow}
use Rattle.es6_reading.specs.Parser.{Input, Took, Parser, ◌>>=◌, returns, on, mark, made, choose, after, if_next, on_group, next_is, next_mark, Reading, is_left, is_covered, Inner}
use Rattle.es6_reading.specs.Refine.{Refined, Fits, Misfit, TooNested, refined_map, refined_cons, fits_if, is_name_in, begin_of_expression, made_part, part_in, target_in, refine, refine_part, parts_of, parameters_of, rest_parameter, refine_parameters, target_before, else_itself, refine_pattern}
use Rattle.es6_reading.proofs.RefineParameters.{IsNoSequence, one-alone}
use Rattle.es6_reading.specs.Words.{free_name, unary_at, before_at, after_at, assign_at, binary_at, is_arrow, arrow_at, stretch_at}
use Rattle.es6_reading.specs.Expressions as e
use Rattle.es6_reading.proofs.FollowPrimary as primary'
use Rattle.es6_reading.proofs.FollowLevels as levels'
use Rattle.es6_reading.proofs.Derived.{Sound}
use Rattle.es6_reading.proofs.Locality.{Turns, over, turn, Deeper, as_before, nested_less, deeper}
use Rattle.es6_reading.proofs.Posts.{Holds, took, fault, of_took, on-holds, if-holds, any as any-holds, bind as holds-bind}
use Rattle.es6_reading.proofs.RefineMore.{kept-before, kept-parameters-of, kept-parameters-before}
use Rattle.es6_reading_laws.proofs.es6_viability.Viable.{Limit, half-within, goes-within, bind-by, allowed-before, put, Head, head, Any, Begins, Viable, Partly, Onward, used_up, past, done, done-ok, rests, stops, nowhere, number-by, expression-by, bind, bind-if, bind-half, half-bind, fresh-bind, may, must, fresh-may, fresh-must, half-on, either, half-either, looks-no, looks-no-seen, looks-yes, half-looks, fresh-no, fresh-yes, begins, half-begins, half-group, half-group-in, group-may, endless, weaken, head-place, on-head, finished, finished-ok, free, half-choice-no, fresh-choice-no, on-missed, no-next, nothing-more, bind-seen}
use Rattle.es6_reading_laws.proofs.es6_viability.LeftSides.{LeftIn}
use Rattle.es6_reading_laws.proofs.es6_viability.LeftSides.{conditional as left-conditional}
use Rattle.es6_reading_laws.proofs.es6_viability.Nesting.{deep-has-tokens}
use Rattle.es6_reading_laws.proofs.es6_viability.Completions.{x_, Free, Closer, After, FollowOf, Follow, EndOf, End_, end-follow, follow-after, Refines, AllowedOf, Allowed, Better, inside, opened, no-dot, no-index, no-call, no-template, no-parted, no-postfix, no-power, no-binary, no-question, no-arrow, no-assign, no-comma, no-star, no-value, x-free, x-no-unary}
use Rattle.es6_reading_laws.proofs.es6_viability.Parts.{closing, bracket-closes, brace-closes, colon-closes, identifier, any-name, take-mark, take-word, function, class, half-template, method-after-key, generator-method, accessor, key}

-- ## Parentheses

-- it stops, and fits nothing
pub data Unfit {A : Type 0} : Refined A → Type 0 where
  nested : Unfit TooNested
  misfit : {at : ℕ} → Unfit (Misfit at)

never-fits : {A : Type 0} {y : A} (r : Refined A) → Unfit r → r ≡ Fits y → ⊥
never-fits (Fits z) u h = elim u [ ]
never-fits TooNested nested h = absurd (cc)
never-fits (Misfit at) misfit h = absurd (cc)

-- a sequence is no part of parameters
sequence-misfits : (n : ℕ) (x : Expression) (span : Span) (first : Expression) (rest : List Expression) → out-Expression x ≡ layer.Sequence span first rest → Unfit (refine_part n x)
unfolding refine_part
sequence-misfits zero x span first rest e = subst (λ r. Unfit r) (sym (ap (λ l. part_in true zero (refine true zero) x l) e)) nested
sequence-misfits (suc n) x span first rest e = subst (λ r. Unfit r) (sym (ap (λ l. part_in true (suc n) (refine true (suc n)) x l) e
    ∙ ap (λ l. refined_map (made_part (span_of x) None) (target_in true n (refine true n) (λ y. part_in true n (refine true n) y (out-Expression y)) x l)) e
    ∙ ap (λ l. refined_map (made_part (span_of x) None) (refined_map (λ u. pattern.Target x) (fits_if (is_name_in l) (begin_of_expression x)))) e)) misfit

part-fits : (n : ℕ) (x : Expression) (xs : List Expression) (es : List Parameter) → parameters_of n (x ∷ xs) ≡ Fits es → (q : Part) × (refine_part n x ≡ Fits q)
part-fits n x xs es h = by (refine_part n x) refl
  where
    unlike-nested : {y : List Parameter} → TooNested ≡ Fits y → ⊥
    unlike-nested k = absurd (cc)

    unlike-misfit : {at : ℕ} {y : List Parameter} → Misfit at ≡ Fits y → ⊥
    unlike-misfit k = absurd (cc)

    by : (r : Refined Part) → refine_part n x ≡ r → (q : Part) × (refine_part n x ≡ Fits q)
    by (Fits q) e = (q, e)
    by (Misfit at) e = absurd (unlike-misfit (sym (ap (λ r. refined_cons (refined_map SingleParameter r) (parameters_of n xs)) e) ∙ h))
    by TooNested e = absurd (unlike-nested (sym (ap (λ r. refined_cons (refined_map SingleParameter r) (parameters_of n xs)) e) ∙ h))

first-no-sequence : (n : ℕ) (x : Expression) (q : Part) → refine_part n x ≡ Fits q → IsNoSequence (out-Expression x)
first-no-sequence n x q h = by (out-Expression x) refl
  where
    by : (l : Open Expression-F) → out-Expression x ≡ l → IsNoSequence l
    by (layer.Sequence span first rest) e = never-fits (refine_part n x) (sequence-misfits n x span first rest e) h
    by l e = tt

sequenced-parts : (first : Expression) (more : List Expression) (span : Span) → IsNoSequence (out-Expression first) → parts_of (e.sequenced first more span) ≡ first ∷ more
sequenced-parts first [] span h = one-alone first (out-Expression first) h
sequenced-parts first (y ∷ rest) span h = rw expr.outs-Sequence refl

held-refines : (n inside : ℕ) (k : e.Held) (rest : Dots) (span : Span) (es : List Parameter) → parameters_of n (k.first ∷ k.more) ≡ Fits es → Refines n (expr.Cover span (Some (e.whole inside k)) (Some rest))
unfolding refine_parameters
held-refines n inside k rest span es h =
    let q = part-fits n k.first k.more es h in
    let s : parts_of (e.whole inside k) ≡ k.first ∷ k.more = sequenced-parts k.first k.more (record { begin = inside; end = k.end }) (first-no-sequence n k.first q.0 q.1) in
    (es ++ rest_parameter rest ∷ [], rw (expr.outs-Cover, s, h) refl)

rest-refines : (n : ℕ) (rest : Dots) (span : Span) → Refines n (expr.Cover span None (Some rest))
unfolding refine_parameters
rest-refines n rest span = (rest_parameter rest ∷ [], rw expr.outs-Cover refl)

empty-refines : (n : ℕ) (span : Span) → Refines n (expr.Cover span None None)
unfolding refine_parameters
empty-refines n span = ([], rw expr.outs-Cover refl)

no-operand : {lim : Limit} {F : Reading → List Filled → Type 0} {P : Reading → Type 0} (role : Role) (p' : Parser Reading) (s : Input) → Partly lim F P (e.no_operand role) p' s
no-operand Leading p' s = expression-by p' s
no-operand Among p' s = expression-by p' s
no-operand Heritage p' s = number-by p' s
no-operand Callee p' s = number-by p' s

module _ (role : Role) (n : ℕ) where
  covered : {lim : Limit} → is_leading role ≡ true → (at : ℕ) (held : Option Expression) (rest : Option Dots) → ((span : Span) → Refines n (expr.Cover span held rest)) → (s : Input) → Viable lim Follow (Allowed role n) (λ us. Head (Punctuator marks.Arrow) us) (e.covered at held rest) (e.covered at held rest) s
  unfolding e.covered
  covered leads at held rest r s = looks-yes _ _ _ _ _ s (done-ok (leads, r _)) (nowhere s) (on-head _ (λ span us. refl))

  covered-rest : {lim : Limit} → is_leading role ≡ true → (at dots : ℕ) (held : Option Expression) → ((rest : Dots) (span : Span) → Refines n (expr.Cover span held (Some rest))) → (s : Input) → Viable lim Follow (Allowed role n) (λ us. Head x_ us) (e.covered_rest at dots held) (e.covered_rest at dots held) s
  unfolding e.covered_rest
  covered-rest leads at dots held r s = bind _ _ (identifier s) (λ m c. bind _ _ (take-mark {F = Free} marks.RightParenthesis (λ span. refl) c) (λ t d. covered leads at held _ (r _) d) (λ y us t. tt)) (λ y us t. tt)

  closed-group : {lim : Limit} (at : ℕ) (held : Expression) (s : Input) → Viable lim Follow (Allowed role n) (λ us. Head (Punctuator marks.RightParenthesis) us) (e.closed_group at held) (e.closed_group at held) s
  unfolding e.closed_group
  closed-group at held s = bind _ _ (take-mark {F = Free} marks.RightParenthesis (λ span. refl) s) (λ t c. done-ok tt) (λ y us t. tt)

  rest-after : {lim : Limit} {l : ℕ} → is_leading role ≡ true → (at dots inside : ℕ) (k : e.Held) {r : Refined (List Parameter)} → Deeper l r (parameters_of n (k.first ∷ k.more)) → (s : Input)
      → Partly lim Follow (Allowed role n) (e.rest_after at dots (e.whole inside k) r) (e.rest_after at dots (e.whole inside k) (parameters_of n (k.first ∷ k.more))) s
  rest-after {lim = lim} {l = l} leads at dots inside k d s = by d refl
    where
      by : {r r' : Refined (List Parameter)} → Deeper l r r' → parameters_of n (k.first ∷ k.more) ≡ r' → Partly lim Follow (Allowed role n) (e.rest_after at dots (e.whole inside k) r) (e.rest_after at dots (e.whole inside k) r') s
      by {r = Fits es} as_before h = half-on _ _ _ _ _ s (λ t c. past (covered-rest leads at dots (Some (e.whole inside k)) (λ rest span. held-refines n inside k rest span es h) c)) (nowhere s)
      by {r = Misfit place} as_before h = nowhere s
      by {r = TooNested} as_before h = stops (λ e. absurd (cc))
      by (nested_less m) h = stops (λ e. absurd (cc))

abbrev NonEmpty : {A : Type 0} → List A → Type 0
NonEmpty [] = ⊥
NonEmpty (x ∷ xs) = Unit {0}

abbrev IsSuccessor : ℕ → Type 0
IsSuccessor zero = ⊥
IsSuccessor (suc n) = Unit {0}

some-left : {l n m : ℕ} → Turns (suc l) n m → IsSuccessor m
some-left over = tt
some-left (turn w) = tt

turns-left : {l n : ℕ} → Turns (suc l) n zero → ⊥
turns-left w = some-left w

-- where no arrow's parameters may stand, there are none
among-follow : (n : ℕ) (sh : Shape) (x : Expression) → AllowedOf Among n sh x → (us : List Filled) → After us → FollowOf sh us
among-follow n Bare x ok us k = k
among-follow n Grouped x ok us k = k
among-follow n Covered x (leads, r) us k = absurd (false≢true leads)
among-follow n LeftHandSide x ok us k = k
among-follow n Other x ok us k = k

pub never-misfit : (n : ℕ) (op : AssignOperator) (x : Expression) (place : ℕ) → target_before n op x ≡ Misfit place → ⊥
unfolding target_before
never-misfit n assign.Assign x place e = by (refine_pattern n x) e
  where
    by : (r : Refined Pattern) → else_itself x r ≡ Misfit place → ⊥
    by (Fits p) e = absurd (cc)
    by (Misfit at) e = absurd (cc)
    by TooNested e = absurd (cc)
never-misfit n op x place e = absurd (cc)

abbrev ClosesHeld : e.Held → Type 0
ClosesHeld k = k.before_rest ≡ false

-- ## Where nothing goes on

module _ (j : Inner) where
  pub links-none : (f : Flags) (calls : Bool) (m : ℕ) (us : List Filled) (last : ℕ) → After us → e.links j f calls (suc m) (record { tokens = us; last = last }) ≡ Took [] (record { tokens = us; last = last })
  unfolding e.links
  links-none f calls m us last k = on-missed (mark marks.Dot) _ _ us last (no-dot us k) ∙ no-next (next_mark marks.LeftBracket) _ _ us last (no-index us k) ∙ on-missed (stretch_at true true) _ _ us last (no-template us k)
      ∙ no-next (λ t. is_some (stretch_at true false t)) _ _ us last (no-parted us k) ∙ no-calls calls _
    where
      no-calls : (b : Bool) (p : Parser (List Link)) → choose b (on_group j marks.LeftParenthesis p (returns [])) (returns []) (record { tokens = us; last = last }) ≡ Took [] (record { tokens = us; last = last })
      no-calls true p = no-next (next_mark marks.LeftParenthesis) _ _ us last (no-call us k)
      no-calls false p = refl

pub operands-none : (f : Flags) (level : ℕ) (q' : Parser Reading) (m : ℕ) (us : List Filled) (last : ℕ) → After us → e.operands q' f level (suc m) (record { tokens = us; last = last }) ≡ Took [] (record { tokens = us; last = last })
unfolding e.operands
operands-none f level q' m us last a = on-missed (binary_at f level) _ _ us last (no-binary f level us a)

-- an assignment is given up whose left side isn't looked into deep enough
abbrev pub Unsettled : ℕ → Reading → Type 0
Unsettled n x = (is_left x.shape ≡ true) × ((op : AssignOperator) × (target_before n op x.value ≡ TooNested))

pub unsettled-grows : (lim : Limit) (n : ℕ) (x : Reading) (m k : ℕ) → m ≤ k → lim.allows m ⊎ Unsettled n x → lim.allows k ⊎ Unsettled n x
unsettled-grows lim n x m k l (inl a) = inl (lim.grows m k l a)
unsettled-grows lim n x m k l (inr u) = inr u

abbrev pub unsettled : Limit → ℕ → Reading → Limit
unsettled lim n x = record { allows = λ m. lim.allows m ⊎ Unsettled n x; grows = unsettled-grows lim n x; shallow = lim.shallow }

module _ {lim : Limit} {l : ℕ} (i j : Inner) (h : Better lim l i j) where
  argument : (f : Flags) (s : Input) → Viable lim (λ y us. Closer false us) Any (λ us. Head x_ us) (e.argument i f) (e.argument j f) s
  unfolding e.argument
  argument f s = begins (primary'.argument_from i f) (primary'.argument_from j f) s head-place (λ place. may _ _ _ _ _ s (λ t c. past (bind _ _ (h.assignment (with_in f) c) (λ x d. done) (λ y us t. t))) (bind _ _ (h.assignment (with_in f) s) (λ x c. done) (λ y us t. t)) (on-head _ (λ span us. refl)))

  elements : (f : Flags) {n m : ℕ} (w : Turns (suc l) n m) (s : Input) → Viable lim Free Any (λ us. Head (Punctuator marks.RightBracket) us) (e.elements i f n) (e.elements j f m) s
  unfolding e.elements
  elements f over s = endless (λ n. record { more = Punctuator marks.RightBracket ∷ []; value = record { elements = []; ends_in_comma = false }; last = suc n; ok = tt; reads = λ us h a. refl; starts = λ us h. head })
  elements f (turn w) s = must (mark marks.RightBracket) (Punctuator marks.RightBracket) (put (Punctuator marks.RightBracket)) (λ span. refl) _ _ _ _ s (λ t c. done)
      (half-on _ _ _ _ _ s (λ t c. past (bind _ _ (elements f w c) (λ k d. done) (λ y us t. tt)))
      (bind-half _ _ (argument f s).half (λ a c. may _ _ _ _ _ c
      (λ t d. past (must (mark marks.RightBracket) (Punctuator marks.RightBracket) (put (Punctuator marks.RightBracket)) (λ span. refl) _ _ _ _ d (λ u k. done) (bind-half _ _ (elements f w d).half (λ y k. done) (λ y us t. tt))))
      (bind _ _ (take-mark {F = Free} marks.RightBracket (λ span. refl) c) (λ t d. done) (λ y us t. tt)) (on-head _ (λ span us. refl))) bracket-closes))

  more-arguments : (f : Flags) {n m : ℕ} (w : Turns (suc l) n m) (s : Input) → Viable lim Free Any (λ us. Head x_ us) (e.more_arguments i f n) (e.more_arguments j f m) s
  unfolding e.more_arguments
  more-arguments f over s = endless (fresh-bind _ (λ q last u. fresh-may (mark marks.Comma) _ _ last (fresh-bind _ (λ t k v. finished) (λ y us v z. tt) (take-mark {lim = lim} {F = Free} marks.RightParenthesis (λ span. refl) (record { tokens = []; last = last })).fresh) (on-head _ (λ span us. refl))) (λ y us v z. closing y us z) (argument f s).fresh)
  more-arguments f (turn w) s = bind _ _ (argument f s) (λ a c. may _ _ _ _ _ c (λ t d. past (bind _ _ (more-arguments f w d) (λ x k. done) (λ y us t. tt))) (bind _ _ (take-mark {F = Free} marks.RightParenthesis (λ span. refl) c) (λ t d. done) (λ y us t. tt)) (on-head _ (λ span us. refl))) closing

  arguments : (f : Flags) (s : Input) → Viable lim Free Any (λ us. Head (Punctuator marks.RightParenthesis) us) (e.arguments i f) (e.arguments j f) s
  unfolding e.arguments
  arguments f s = must (mark marks.RightParenthesis) (Punctuator marks.RightParenthesis) (put (Punctuator marks.RightParenthesis)) (λ span. refl) _ _ _ _ s (λ t c. done) (more-arguments f h.turns s).half

  properties : (f : Flags) {n m : ℕ} (w : Turns (suc l) n m) (s : Input) → Viable (inside lim i.may_open) Free Any (λ us. Head (Punctuator marks.RightBrace) us) (e.properties i f n) (e.properties j f m) s
  unfolding e.properties
  properties f over s = endless (λ n. record { more = Punctuator marks.RightBrace ∷ []; value = []; last = suc n; ok = tt; reads = λ us h a. refl; starts = λ us h. head })
  properties f (turn w) s = must (mark marks.RightBrace) (Punctuator marks.RightBrace) (put (Punctuator marks.RightBrace)) (λ span. refl) _ _ _ _ s (λ t c. done)
      (bind-half _ _ (h.property f s).half (λ x c. may _ _ _ _ _ c (λ t d. past (bind _ _ (properties f w d) (λ y k. done) (λ y us t. tt))) (bind _ _ (take-mark {F = Free} marks.RightBrace (λ span. refl) c) (λ t d. done) (λ y us t. tt)) (on-head _ (λ span us. refl))) (λ y us t. t))

  held-parts : (f : Flags) (role : Role) {n m : ℕ} (w : Turns (suc l) n m) (s : Input) → Viable lim (λ y us. Head (Punctuator marks.RightParenthesis) us) ClosesHeld (λ us. Head x_ us) (e.held_parts i f role n) (e.held_parts j f role m) s
  unfolding e.held_parts
  held-parts f role over s = endless (fresh-bind _ (λ x last u. fresh-may (mark marks.Comma) _ _ last (finished-ok refl) (on-head _ (λ span us. refl))) (λ y us v z. closing y us z) (h.assignment (with_in f) s).fresh)
  held-parts f role (turn w) s = bind _ _ (h.assignment (with_in f) s) (λ x c. may _ _ _ _ _ c (λ t d. past (looks-no _ _ _ _ _ d rests (bind-if _ _ (held-parts f role w d) (λ y k. rests) (λ y last ok. finished-ok ok) (λ y us ok z. z)) (on-head _ (λ span us. no-dots role span)))) (done-ok refl) (on-head _ (λ span us. refl))) closing
    where
      no-dots : (role : Role) (span : Span) → (is_leading role && next_mark marks.Ellipsis (put x_ span)) ≡ false
      no-dots Leading span = refl
      no-dots Among span = refl
      no-dots Heritage span = refl
      no-dots Callee span = refl

  -- no rest stands in parentheses that are no arrow's parameters
  held-closes : (f : Flags) (role : Role) → is_leading role ≡ false → (n : ℕ) (s : Input) → Holds (λ k c. ClosesHeld k) (e.held_parts i f role n s)
  unfolding e.held_parts
  held-closes f role leads zero s = fault
  held-closes f role leads (suc n) s = holds-bind (any-holds (i.assignment (with_in f) s)) (λ x c u.
      on-holds (mark marks.Comma) (λ t. if_next (λ t. is_leading role && next_mark marks.Ellipsis t) (returns (e.held_alone x.value c.last true)) (◌>>=◌ (e.held_parts i f role n) (λ k. returns (e.held_first x.value k)))) (returns (e.held_alone x.value c.last false)) c
      (λ t d m. if-holds (λ t. is_leading role && next_mark marks.Ellipsis t) (returns (e.held_alone x.value c.last true)) (◌>>=◌ (e.held_parts i f role n) (λ k. returns (e.held_first x.value k))) d (λ seen. absurd (no-rest d.tokens seen)) (λ seen. holds-bind (held-closes f role leads n d) (λ k z v. took v))) (λ m. took refl))
    where
      no-rest : (ts : List Filled) → next_is (λ t. is_leading role && next_mark marks.Ellipsis t) ts ≡ true → ⊥
      no-rest [] e = false≢true e
      no-rest (t ∷ ts) e = false≢true (sym (ap (λ b. b && next_mark marks.Ellipsis t) leads) ∙ e)

  held-leading : (f : Flags) (at : ℕ) (s : Input) → Viable lim Follow (Allowed Leading j.fuel) (λ us. Head x_ us) (e.held_group i f Leading at) (e.held_group j f Leading at) s
  unfolding e.held_group
  held-leading f at s = begins (primary'.held_group_from i f Leading at) (primary'.held_group_from j f Leading at) s head-place (λ place. bind-if _ _ (held-parts f Leading h.turns s)
      (λ k c. half-either k.before_rest _ _ _ _ c (half-begins (primary'.rest_from at (e.whole place k) (parameters_of i.fuel (k.first ∷ k.more))) (primary'.rest_from at (e.whole place k) (parameters_of j.fuel (k.first ∷ k.more))) c
      (λ dots. rest-after Leading j.fuel refl at dots place k (deeper (λ n. parameters_of n (k.first ∷ k.more)) (λ m more. kept-parameters-of m more (k.first ∷ k.more)) h.turns) c)) (closed-group Leading j.fuel at (e.whole place k) c).half)
      (λ k last ok. fresh-choice-no k.before_rest ok _ _ last (closed-group Leading j.fuel {lim = lim} at (e.whole place k) (record { tokens = []; last = last })).fresh) (λ k us ok z. z))

  held-among : (f : Flags) (role : Role) → is_leading role ≡ false → (at : ℕ) (s : Input) → Viable lim Follow (Allowed role j.fuel) (λ us. Head x_ us) (e.held_group i f role at) (e.held_group j f role at) s
  unfolding e.held_group
  held-among f role leads at s = begins (primary'.held_group_from i f role at) (primary'.held_group_from j f role at) s head-place (λ place. bind-seen _ _ (held-parts f role h.turns s)
      (λ k c seen. half-choice-no k.before_rest (of_took {Q = λ k c. ClosesHeld k} {x = k} {c = c} (subst (λ o. Holds (λ k c. ClosesHeld k) o) seen (held-closes f role leads i.fuel s))) _ _ _ _ c (closed-group role j.fuel at (e.whole place k) c).half)
      (λ k last ok. fresh-choice-no k.before_rest ok _ _ last (closed-group role j.fuel {lim = lim} at (e.whole place k) (record { tokens = []; last = last })).fresh) (λ k us ok z. z))

  grouped : (f : Flags) (role : Role) (at : ℕ) (s : Input) → Viable lim Follow (Allowed role j.fuel) (λ us. Head x_ us) (e.grouped i f role at) (e.grouped j f role at) s
  unfolding e.grouped
  grouped f Leading at s = may (mark marks.RightParenthesis) _ _ _ _ s (λ t c. past (covered Leading j.fuel refl at None None (empty-refines j.fuel) c)) (begins (primary'.dots_from i f Leading at) (primary'.dots_from j f Leading at) s head-place (λ dots. may (mark marks.Ellipsis) _ _ _ _ s
      (λ t c. past (covered-rest Leading j.fuel refl at dots None (rest-refines j.fuel) c)) (held-leading f at s) (on-head _ (λ span us. refl)))) (on-head _ (λ span us. refl))
  grouped f Among at s = held-among f Among refl at s
  grouped f Heritage at s = held-among f Heritage refl at s
  grouped f Callee at s = held-among f Callee refl at s

  bracketed : (f : Flags) (role : Role) (at : ℕ) (s : Input) → Partly lim Follow (Allowed role j.fuel) (e.bracketed i f role at) (e.bracketed j f role at) s
  unfolding e.bracketed
  bracketed f role at s = half-group i j h.opens marks.LeftBracket _ _ _ _ s (λ c. bind _ _ (elements f h.turns c) (λ k d. done-ok tt) (λ y us t. tt))
      (half-group-in i j h.opens (λ n a. a) (opened lim.shallow i.may_open) marks.LeftBrace _ _ _ _ s (λ c. bind _ _ (properties f h.turns c) (λ x d. done-ok tt) (λ y us t. tt)) (no-operand role (e.no_operand role) s))

  composed : (f : Flags) (role : Role) (at : ℕ) (s : Input) → Partly lim Follow (Allowed role j.fuel) (e.composed i f role at) (e.composed j f role at) s
  unfolding e.composed
  composed f role at s = half-on _ _ _ _ _ s (λ t c. past (bind _ _ (function i j h true at c) (λ x d. done-ok tt) (λ y us t. tt))) (half-on _ _ _ _ _ s (λ t c. past (bind _ _ (class i j h f true at c) (λ x d. done-ok tt) (λ y us t. tt)))
      (half-template i j h f at _ _ _ _ s (λ m c. done-ok tt) (half-group i j h.opens marks.LeftParenthesis _ _ _ _ s (λ c. grouped f role at c) (bracketed f role at s))))

  primary : (f : Flags) (role : Role) (at : ℕ) (s : Input) → Viable lim Follow (Allowed role j.fuel) (λ us. Head x_ us) (e.primary i f role at) (e.primary j f role at) s
  unfolding e.primary
  primary f role at s = may _ _ _ _ _ s (λ t c. past (done-ok tt)) (must free_name x_ (λ span. codes "x") x-free _ _ _ _ s (λ name c. done-ok tt) (half-on _ _ _ _ _ s (λ t c. past (done-ok tt)) (composed f role at s))) (on-head _ (λ span us. refl))

  after-new : (f : Flags) (role : Role) (at : ℕ) (s : Input) → Viable lim Follow (Allowed role j.fuel) (λ us. Head x_ us) (e.after_new i f at) (e.after_new j f at) s
  unfolding e.after_new e.after_callee
  after-new f role at s = may _ _ _ _ _ s (λ t c. past (bind _ _ (take-word {F = Free} (codes "target") (λ span. refl) c) (λ u d. done-ok tt) (λ y us t. tt)))
      (bind _ _ (h.callee f s) (λ x c. group-may i j h.opens marks.LeftParenthesis _ _ _ _ c (λ d. bind _ _ (arguments f d) (λ y k. done-ok tt) (λ y us t. tt)) (done-ok tt) no-call) (λ y us t. t)) (on-head _ (λ span us. refl))

  after-super : (f : Flags) (role : Role) (at : ℕ) (s : Input) → Viable lim Follow (Allowed role j.fuel) (λ us. Head (Punctuator marks.Dot) us) (e.after_super i f role at) (e.after_super j f role at) s
  unfolding e.after_super e.super_call
  after-super f role at s = must (mark marks.Dot) (Punctuator marks.Dot) (put (Punctuator marks.Dot)) (λ span. refl) _ _ _ _ s (λ t c. bind _ _ (any-name c) (λ n d. done-ok tt) (λ y us t. tt))
      (half-group i j h.opens marks.LeftBracket _ _ _ _ s (λ c. bind _ _ (h.sequence (with_in f) c) (λ x d. bind _ _ (take-mark {F = Free} marks.RightBracket (λ span. refl) d) (λ t k. done-ok tt) (λ y us t. tt)) bracket-closes)
      (half-either (has_calls role) _ _ _ _ s (half-group i j h.opens marks.LeftParenthesis _ _ _ _ s (λ c. bind _ _ (arguments f c) (λ x d. done-ok tt) (λ y us t. tt)) (nowhere s)) (nowhere s)))

  head_ : (f : Flags) (role : Role) (at : ℕ) (s : Input) → Viable lim Follow (Allowed role j.fuel) (λ us. Head x_ us) (e.head i f role at) (e.head j f role at) s
  unfolding e.head
  head_ f role at s = may _ _ _ _ _ s (λ t c. past (after-new f role at c)) (may _ _ _ _ _ s (λ t c. past (after-super f role at c)) (primary f role at s) (on-head _ (λ span us. refl))) (on-head _ (λ span us. refl))

  -- ## Accesses and calls

  member-link : (at : ℕ) (s : Input) → Viable lim Free Any (λ us. Head x_ us) (e.member_link at) (e.member_link at) s
  unfolding e.member_link
  member-link at s = bind _ _ (any-name s) (λ n c. done) (λ y us t. tt)

  index : (f : Flags) (at : ℕ) (s : Input) → Viable lim Free Any (λ us. Head x_ us) (e.index_link i f at) (e.index_link j f at) s
  unfolding e.index_link
  index f at s = bind _ _ (h.sequence (with_in f) s) (λ x c. bind _ _ (take-mark {F = Free} marks.RightBracket (λ span. refl) c) (λ t d. done) (λ y us t. tt)) bracket-closes

  call : (f : Flags) (at : ℕ) (s : Input) → Viable lim Free Any (λ us. Head (Punctuator marks.RightParenthesis) us) (e.call_link i f at) (e.call_link j f at) s
  unfolding e.call_link
  call f at s = bind _ _ (arguments f s) (λ x c. done) (λ y us t. tt)

  on-link : {F : List Link → List Filled → Type 0} {P : List Link → Type 0} {S : Link → List Filled → Type 0} (f : Flags) (calls : Bool) (at : ℕ) (p p' : Link → Parser (List Link)) (q q' : Parser (List Link)) (s : Input)
      → ((x : Link) (c : Input) → Viable lim F P (S x) (p x) (p' x) c) → Partly lim F P q q' s → Partly lim F P (e.on_link i f calls at p q) (e.on_link j f calls at p' q') s
  on-link f calls at p p' q q' s k g = half-on _ _ _ _ _ s (λ t c. past (bind _ _ (member-link _ c) (λ x d. k x d) (λ y us t. tt))) (half-group i j h.opens marks.LeftBracket _ _ _ _ s (λ c. bind _ _ (index f _ c) (λ x d. k x d) (λ y us t. tt))
      (half-template i j h f _ _ _ _ _ s (λ m c. k _ c) (half-either calls _ _ _ _ s (half-group i j h.opens marks.LeftParenthesis _ _ _ _ s (λ c. bind _ _ (call f _ c) (λ x d. k x d) (λ y us t. tt)) g) g)))

  links : (f : Flags) (calls : Bool) {n m : ℕ} (w : Turns (suc l) n m) (s : Input) → Viable lim (λ y us. After us) Any (λ us. After us) (e.links i f calls n) (e.links j f calls m) s
  unfolding e.links
  links f calls over s = endless (nothing-more [] s.last tt (λ us k. links-none j f calls l us s.last k))
  links f calls (turn {n = n} {m = m} w) s = record {
    half = half-begins (primary'.links_from i f calls (e.links i f calls n)) (primary'.links_from j f calls (e.links j f calls m)) s (λ place. on-link f calls _ _ _ _ _ s (λ x c. bind _ _ (links f calls w c) (λ ls d. done) (λ y us t. t)) rests);
    fresh = nothing-more [] s.last tt (λ us k. links-none j f calls m us s.last k);
  }

  -- behind one there are some
  links-some : (f : Flags) (calls : Bool) {n m : ℕ} (w : Turns (suc l) n m) (s : Input) → Partly lim (λ y us. After us) NonEmpty (e.links i f calls n) (e.links j f calls m) s
  unfolding e.links
  links-some f calls over s = stops (λ e. absurd (cc))
  links-some f calls (turn {n = n} {m = m} w) s = half-begins (primary'.links_from i f calls (e.links i f calls n)) (primary'.links_from j f calls (e.links j f calls m)) s (λ place. on-link f calls _ _ _ _ _ s (λ x c. bind _ _ (links f calls w c) (λ ls d. done-ok tt) (λ y us t. t)) rests)

  chained-fresh : (role : Role) (at : ℕ) (x : Reading) (ls : List Link) (last : ℕ) → NonEmpty ls → Begins Follow (Allowed role j.fuel) (λ us. After us) (made at (e.chained x ls)) last
  chained-fresh role at x [] last u = absurd u
  chained-fresh role at x (y ∷ ls) last u = finished-ok tt

  links-end : (f : Flags) (calls : Bool) (role : Role) (at : ℕ) (x : Reading) {n m : ℕ} → Turns (suc l) n m → (last : ℕ) → Allowed role j.fuel x → Begins Follow (Allowed role j.fuel) (λ us. Follow x us) (◌>>=◌ (e.links j f calls m) (λ ls. made at (e.chained x ls))) last
  links-end f calls role at x {m = suc m} w last ok = nothing-more x last ok (λ us k. ap (λ o. after o (λ ls. made at (e.chained x ls))) (links-none j f calls m us last (follow-after x.shape us k)))
  links-end f calls role at x {m = zero} w last ok = absurd (turns-left w)

  pub chain : (f : Flags) (role : Role) (s : Input) → Viable lim Follow (Allowed role j.fuel) (λ us. Head x_ us) (e.chain i f role) (e.chain j f role) s
  unfolding e.chain
  chain f role s = begins (primary'.chain_from i f role) (primary'.chain_from j f role) s head-place (λ place. bind-if _ _ (head_ f role _ s)
      (λ x c. half-bind _ _ (λ ls last u. chained-fresh role place x ls last u) (λ y us u k. k) _ (links-some f (has_calls role) h.turns c) (λ ls d e. rests))
      (λ x last ok. links-end f (has_calls role) role place x h.turns last ok) (λ x us ok k. k))

  -- ## Operators

  postfix : (f : Flags) (role : Role) (s : Input) → Viable lim Follow (Allowed role j.fuel) (λ us. Head x_ us) (e.postfix i f role) (e.postfix j f role) s
  unfolding e.postfix
  postfix f role s = begins (levels'.postfix_from i f role) (levels'.postfix_from j f role) s head-place (λ place. bind-if _ _ (chain f role s) (λ x c. half-on _ _ _ _ _ c (λ op d. past (done-ok tt)) rests)
      (λ y last ok. fresh-may after_at _ _ last (finished-ok ok) (λ us k. no-postfix us (follow-after y.shape us k))) (λ y us ok k. k))

  prefixed : (f : Flags) (role : Role) (at : ℕ) (op : UnaryOperator) (s : Input) → Viable lim Follow (Allowed role j.fuel) (λ us. Head x_ us) (e.prefixed i f at op) (e.prefixed j f at op) s
  unfolding e.prefixed
  prefixed f role at op s = bind _ _ (h.unary f s) (λ x c. done-ok tt) (λ y us t. t)

  update : (f : Flags) (role : Role) (s : Input) → Viable lim Follow (Allowed role j.fuel) (λ us. Head x_ us) (e.update i f role) (e.update j f role) s
  unfolding e.update e.updated
  update f role s = begins (levels'.update_from i f role) (levels'.update_from j f role) s head-place (λ place. may before_at _ _ _ _ s (λ op c. past (bind _ _ (h.unary f c) (λ x d. done-ok tt) (λ y us t. t))) (postfix f role s) (on-head _ (λ span us. refl)))

  pub unary : (f : Flags) (s : Input) → Viable lim Follow (Allowed Among j.fuel) (λ us. Head x_ us) (e.unary i f) (e.unary j f) s
  unfolding e.unary
  unary f s = begins (levels'.unary_from i f) (levels'.unary_from j f) s head-place (λ place. may unary_at _ _ _ _ s (λ op c. past (prefixed f Among _ op c)) (update f Among s) (on-head _ (λ span us. x-no-unary span)))

  pub power : (f : Flags) (role : Role) (s : Input) → Viable lim Follow (Allowed role j.fuel) (λ us. Head x_ us) (e.power i f role) (e.power j f role) s
  unfolding e.power e.raised
  power f role s = begins (levels'.power_from i f role) (levels'.power_from j f role) s head-place (λ place. may unary_at _ _ _ _ s (λ op c. past (prefixed f role _ op c))
      (bind-if _ _ (update f role s) (λ x c. half-on _ _ _ _ _ c (λ t d. past (bind _ _ (h.power f d) (λ y k. done-ok tt) (λ y us t. t))) rests) (λ y last ok. fresh-may (mark marks.StarStar) _ _ last (finished-ok ok) (λ us k. no-power us (follow-after y.shape us k))) (λ y us ok k. k))
      (on-head _ (λ span us. x-no-unary span)))

  module _ (f : Flags) (level : ℕ) (q q' : Parser Reading) (k : (s : Input) → Viable lim (λ y us. After us) Any (λ us. Head x_ us) q q' s) where
    operands : {n m : ℕ} (w : Turns (suc l) n m) (s : Input) → Viable lim (λ y us. After us) Any (λ us. After us) (e.operands q f level n) (e.operands q' f level m) s
    unfolding e.operands
    operands over s = endless (nothing-more [] s.last tt (λ us a. operands-none f level q' l us s.last a))
    operands (turn {n = n} {m = m} w) s = record {
      half = half-on _ _ _ _ _ s (λ op c. past (bind _ _ (k c) (λ x d. bind _ _ (operands w d) (λ y z. done) (λ y us t. t)) (λ y us t. t))) rests;
      fresh = nothing-more [] s.last tt (λ us a. operands-none f level q' m us s.last a);
    }

    operands-some : {n m : ℕ} (w : Turns (suc l) n m) (s : Input) → Partly lim (λ y us. After us) NonEmpty (e.operands q f level n) (e.operands q' f level m) s
    unfolding e.operands
    operands-some over s = stops (λ e. absurd (cc))
    operands-some (turn w) s = half-on _ _ _ _ _ s (λ op c. past (bind _ _ (k c) (λ x d. bind _ _ (operands w d) (λ y z. done-ok tt) (λ y us t. t)) (λ y us t. t))) rests

    operands-end : (role : Role) (at : ℕ) (x : Reading) {n m : ℕ} → Turns (suc l) n m → (last : ℕ) → Allowed role j.fuel x → Begins Follow (Allowed role j.fuel) (λ us. Follow x us) (◌>>=◌ (e.operands q' f level m) (λ os. made at (e.operated x os))) last
    operands-end role at x {m = suc m} w last ok = nothing-more x last ok (λ us a. ap (λ o. after o (λ os. made at (e.operated x os))) (operands-none f level q' m us last (follow-after x.shape us a)))
    operands-end role at x {m = zero} w last ok = absurd (turns-left w)

  operated-fresh : (role : Role) (at : ℕ) (x : Reading) (os : List Operand) (last : ℕ) → NonEmpty os → Begins Follow (Allowed role j.fuel) (λ us. After us) (made at (e.operated x os)) last
  operated-fresh role at x [] last u = absurd u
  operated-fresh role at x (y ∷ os) last u = finished-ok tt

  binary_ : (f : Flags) (role : Role) (up level : ℕ) (s : Input) → Viable lim Follow (Allowed role j.fuel) (λ us. Head x_ us) (e.binary_from i f role up level) (e.binary_from j f role up level) s
  unfolding e.binary_from
  binary_ f role zero level s = power f role s
  binary_ f role (suc up) level s = begins (levels'.binary_body i f role up level) (levels'.binary_body j f role up level) s head-place (λ place. bind-if _ _ (binary_ f role up _ s)
      (λ x c. half-bind _ _ (λ os last u. operated-fresh role place x os last u) (λ y us u k. k) _ (operands-some f level _ _ (λ d. weaken (λ y ok. tt) (λ y us ok k. among-follow j.fuel y.shape y.value ok us k) (binary_ f Among up (level + 1) d)) h.turns c) (λ os d e. rests))
      (λ x last ok. operands-end f level _ _ (λ d. weaken (λ y ok. tt) (λ y us ok k. among-follow j.fuel y.shape y.value ok us k) (binary_ f Among up (level + 1) d)) role place x h.turns last ok) (λ x us ok k. k))

  branches : (f : Flags) (at : ℕ) (test : Expression) (s : Input) → Viable lim End_ (Allowed Leading j.fuel) (λ us. Head x_ us) (e.branches i f at test) (e.branches j f at test) s
  unfolding e.branches
  branches f at test s = bind _ _ (h.assignment (with_in f) s) (λ y c. bind _ _ (take-mark {F = Free} marks.Colon (λ span. refl) c) (λ u d. bind _ _ (h.assignment f d) (λ z k. done-ok tt) (λ y us t. t)) (λ y us t. tt)) colon-closes

  conditional : (f : Flags) (s : Input) → Viable lim End_ (Allowed Leading j.fuel) (λ us. Head x_ us) (e.conditional i f) (e.conditional j f) s
  unfolding e.conditional
  conditional f s = begins (levels'.conditional_from i f) (levels'.conditional_from j f) s head-place (λ place. bind-if _ _ (binary_ f Leading 10 3 s) (λ x c. half-on _ _ _ _ _ c (λ t d. past (branches f _ x.value d)) rests)
      (λ y last ok. fresh-may (mark marks.Question) _ _ last (finished-ok ok) (λ us k. no-question us (follow-after y.shape us (end-follow y.shape us k)))) (λ y us ok k. end-follow y.shape us k))

  -- ## Arrows and assignments

  arrow-body : (f : Flags) (at : ℕ) (es : List Parameter) (s : Input) → Viable lim (λ y us. Closer false us) Any (λ us. Head x_ us) (e.arrow_body i f at es) (e.arrow_body j f at es) s
  unfolding e.arrow_body
  arrow-body f at es s = looks-no-seen _ _ _ _ _ s (λ seen. bind-half _ _ (h.block (of_function false) s seen) (λ b c. done) (λ y us t. tt)) (bind _ _ (h.assignment (of_arrow f) s) (λ x c. done) (λ y us t. t)) (on-head _ (λ span us. refl))

  arrow-if : (f : Flags) (at : ℕ) (x : Reading) {r r' : Refined (List Parameter)} → Deeper (suc l) r r' → (s : Input) → Partly lim (λ y us. Closer false us) Any (e.arrow_if i f at x r) (e.arrow_if j f at x r') s
  arrow-if f at x {r = Fits es} as_before s = half-on _ _ _ _ _ s (λ t c. past (arrow-body f at es c)) (nowhere s)
  arrow-if f at x {r = Misfit place} as_before s = half-either (is_covered x.shape) _ _ _ _ s (nowhere s) rests
  arrow-if f at x {r = TooNested} as_before s = stops (λ e. absurd (cc))
  arrow-if f at x (nested_less m) s = stops (λ e. absurd (cc))

  -- where what nests too far is given up
  assigned-by : (f : Flags) (at : ℕ) (x : Reading) (op : AssignOperator) {r r' : Refined Pattern} → Deeper (suc l) r r' → is_left x.shape ≡ true → target_before i.fuel op x.value ≡ r → (s : Input)
      → Onward (unsettled lim i.fuel x) (λ y us. Closer false us) Any (◌>>=◌ (e.fitting r) (λ q. ◌>>=◌ (i.assignment f) (λ y. made at (λ span. e.other (expr.Assign span op q y.value))))) (◌>>=◌ (e.fitting r') (λ q. ◌>>=◌ (j.assignment f) (λ y. made at (λ span. e.other (expr.Assign span op q y.value))))) s
  assigned-by f at x op {r = Fits q} as_before left k s = past (goes-within (λ n a. inl a) (λ z. z) (bind _ _ (h.assignment f s) (λ y d. done) (λ y us t. t)))
  assigned-by f at x op {r = Misfit place} as_before left k s = absurd (never-misfit i.fuel op x.value place k)
  assigned-by f at x op {r = TooNested} as_before left k s = used_up (inr (left, (op, k)))
  assigned-by f at x op (nested_less m) left k s = used_up (inr (left, (op, k)))

  assigned-with : (f : Flags) (at : ℕ) (x : Reading) (op : AssignOperator) → is_left x.shape ≡ true → (s : Input) → Onward (unsettled lim i.fuel x) (λ y us. Closer false us) Any (e.assigned_with i f at x.value op) (e.assigned_with j f at x.value op) s
  unfolding e.assigned_with
  assigned-with f at x op left s = assigned-by f at x op (deeper (λ n. target_before n op x.value) (λ k more. kept-before k more op x.value) h.turns) left refl s

  after-half : (f : Flags) (at : ℕ) (x : Reading) (s : Input) → Partly (unsettled lim i.fuel x) (λ y us. Closer false us) Any (e.after_conditional i f at x) (e.after_conditional j f at x) s
  unfolding e.after_conditional
  after-half f at x s = half-looks _ _ _ _ _ s (half-within (λ n a. inl a) (λ z. z) (arrow-if f at x (deeper (λ n. e.parameters_before n x.shape x.value) (λ k more. kept-parameters-before k more x.shape x.value) h.turns) s)) (by (is_left x.shape) refl)
    where
      by : (v : Bool) → is_left x.shape ≡ v → Partly (unsettled lim i.fuel x) (λ y us. Closer false us) Any (choose v (on assign_at (λ op. e.assigned_with i f at x.value op) (returns x)) (returns x)) (choose v (on assign_at (λ op. e.assigned_with j f at x.value op) (returns x)) (returns x)) s
      by true k = half-on _ _ _ _ _ s (λ op c. assigned-with f at x op k c) rests
      by false k = rests

  after-fresh : (f : Flags) (at : ℕ) (x : Expression) (sh : Shape) (last : ℕ) → AllowedOf Leading j.fuel sh x → Begins (λ (y : Reading) us. Closer false us) Any (λ us. EndOf sh us) (e.after_conditional j f at (record { value = x; shape = sh })) last
  unfolding e.after_conditional
  after-fresh f at x Bare last ok = fresh-no is_arrow _ _ last (fresh-may assign_at _ _ last finished no-assign) no-arrow
  after-fresh f at x Grouped last ok = fresh-no is_arrow _ _ last (fresh-may assign_at _ _ last finished no-assign) no-arrow
  after-fresh f at x LeftHandSide last ok = fresh-no is_arrow _ _ last (fresh-may assign_at _ _ last finished no-assign) no-arrow
  after-fresh f at x Other last ok = fresh-no is_arrow _ _ last finished no-arrow
  after-fresh f at x Covered last (leads, (es, r)) = fresh-yes is_arrow _ _ last
      (subst (λ q. Begins (λ (y : Reading) us. Closer false us) Any (λ us. Head (Punctuator marks.Arrow) us) (e.arrow_if j f at (record { value = x; shape = Covered }) q) last) (sym r)
      (fresh-must arrow_at (Punctuator marks.Arrow) (put (Punctuator marks.Arrow)) (λ span. refl) _ _ last (λ n. free (arrow-body f at es (record { tokens = []; last = suc n })).fresh)))
      (on-head _ (λ span us. refl))

  after-yield : (f : Flags) (at : ℕ) (s : Input) → Viable lim (λ y us. Closer false us) Any (λ us. Closer false us) (e.after_yield i f at) (e.after_yield j f at) s
  unfolding e.after_yield
  after-yield f at s = may _ _ _ _ _ s (λ t c. past (bind _ _ (h.assignment f c) (λ x d. done) (λ y us t. t))) (looks-no _ _ _ _ _ s (bind-half _ _ (h.assignment f s).half (λ x c. done) (λ y us t. t)) done no-value) no-star

  conditional-left : (f : Flags) (s : Input) → Sound i → (x : Reading) (c : Input) → e.conditional i f s ≡ Took x c → LeftIn f s x c
  conditional-left f s sound x c seen = of_took {Q = λ y d. LeftIn f s y d} {x = x} {c = c} (subst (λ o. Holds (λ y d. LeftIn f s y d) o) seen (left-conditional i sound f s))

  given-up : (f : Flags) (s : Input) (x : Reading) (c : Input) (front : List Filled) → e.conditional i f s ≡ Took x c → s.tokens ≡ front ++ c.tokens → (unsettled lim i.fuel x).allows (length c.tokens) → lim.allows (length s.tokens)
  given-up f s x c front seen k (inl a) = allowed-before lim front c.tokens k a
  given-up f s x c front seen k (inr (left, (op, n))) = h.gives_up (length s.tokens) (λ plain. deep-has-tokens (conditional-left f s (h.sound plain) x c seen left) i.fuel op n)

  without-yield : (f : Flags) (at : ℕ) (s : Input) → Viable lim (λ y us. Closer false us) Any (λ us. Head x_ us) (e.without_yield i f at) (e.without_yield j f at) s
  unfolding e.without_yield
  without-yield f at s = bind-by _ _ (conditional f s) (λ x c seen. after-half f at x c) (λ x c front seen k a. given-up f s x c front seen k a) (λ x z. z) (λ y last ok. after-fresh f at y.value y.shape last ok) (λ y us ok k. k)

  pub assignment : (f : Flags) (s : Input) → Viable lim (λ y us. Closer false us) Any (λ us. Head x_ us) (e.assignment i f) (e.assignment j f) s
  unfolding e.assignment
  assignment f s = begins (levels'.assignment_from i f) (levels'.assignment_from j f) s head-place (λ place. either f.has_yield _ _ _ _ s (may _ _ _ _ _ s (λ t c. past (after-yield f _ c)) (without-yield f _ s) (on-head _ (λ span us. refl))) (without-yield f _ s))

  parts : (f : Flags) {n m : ℕ} (w : Turns (suc l) n m) (s : Input) → Viable lim (λ y us. Closer false us) Any (λ us. Head x_ us) (e.parts i f n) (e.parts j f m) s
  unfolding e.parts
  parts f over s = endless (fresh-bind _ (λ x last u. fresh-may (mark marks.Comma) _ _ last finished no-comma) (λ y us u k. k) (assignment f s).fresh)
  parts f (turn w) s = bind _ _ (assignment f s) (λ x c. may _ _ _ _ _ c (λ t d. past (bind _ _ (parts f w d) (λ y k. done) (λ y us t. t))) done no-comma) (λ y us t. t)

  pub sequence : (f : Flags) (s : Input) → Viable lim (λ y us. Closer false us) Any (λ us. Head x_ us) (e.sequence i f) (e.sequence j f) s
  unfolding e.sequence e.more_parts
  sequence f s = begins (levels'.sequence_from i f) (levels'.sequence_from j f) s head-place (λ place. bind _ _ (assignment f s) (λ x c. may _ _ _ _ _ c (λ t d. past (bind _ _ (parts f h.turns d) (λ y k. done) (λ y us t. t))) done no-comma) (λ y us t. t))

  -- ## Properties

  after-key : (f : Flags) (at : ℕ) (k : Key) (s : Input) → Viable lim (λ y us. Head (Punctuator marks.RightBrace) us) Any (λ us. Head (Punctuator marks.Colon) us) (e.after_key i f at k) (e.after_key j f at k) s
  unfolding e.after_key e.value_of_key e.method_of_key
  after-key f at k s = must (mark marks.Colon) (Punctuator marks.Colon) (put (Punctuator marks.Colon)) (λ span. refl) _ _ _ _ s (λ t c. bind _ _ (assignment (with_in f) c) (λ x d. done) brace-closes) (bind-half _ _ (method-after-key i j h _ false at k s).half (λ m c. done) (λ y us t. tt))

  after-name : (f : Flags) (at : ℕ) (n : Identifier) (s : Input) → Viable lim (λ y us. Head (Punctuator marks.RightBrace) us) Any (λ us. Head (Punctuator marks.RightBrace) us) (e.after_name i f at n) (e.after_name j f at n) s
  unfolding e.after_name e.shorthand
  after-name f at n s = looks-no _ _ _ _ _ s (after-key f at _ s).half (may _ _ _ _ _ s (λ t c. past (bind _ _ (h.assignment (with_in f) c) (λ x d. done) brace-closes)) done (on-head _ (λ span us. refl))) (on-head _ (λ span us. refl))

  pub property : (f : Flags) (s : Input) → Viable lim (λ y us. Head (Punctuator marks.RightBrace) us) Any (λ us. Head x_ us) (e.one_property i f) (e.one_property j f) s
  unfolding e.one_property e.after_accessor_word
  property f s = begins (levels'.property_from i f) (levels'.property_from j f) s head-place (λ place. may _ _ _ _ _ s (λ t c. past (bind _ _ (generator-method i j h f _ c) (λ m d. done) (λ y us t. tt)))
      (may _ _ _ _ _ s (λ setter c. past (looks-yes _ _ _ _ _ c (after-name f _ _ c) (bind-half _ _ (accessor i j h f _ setter c).half (λ m d. done) (λ y us t. tt)) (on-head _ (λ span us. refl))))
      (must free_name x_ (λ span. codes "x") x-free _ _ _ _ s (λ name c. after-name f _ _ c) (bind-half _ _ (key i j h f s).half (λ k c. after-key f _ k c) (λ y us t. tt))) (on-head _ (λ span us. refl))) (on-head _ (λ span us. refl)))
