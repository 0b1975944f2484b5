-- The readers of literals, groups and left-hand-side expressions with insertion follow those without it.
use Rattle.std.proofs.Common.{◌≡◌, ℕ, zero, suc, Bool, true, false, ◌&&◌, List, [], ◌∷◌, Option, Some, None, refl, sym, ap, subst, ◌∙◌}
use Rattle.std.specs.Prelude.{codes}
use Rattle.es6_lexer.specs.declared.token.Punctuator.TheVariants as marks
use Rattle.es6_ast.specs.declared.tree.Expression.{Expression}
use Rattle.es6_ast.specs.declared.tree.Argument.{Argument}
use Rattle.es6_ast.specs.declared.tree.Argument.TheVariants.{Single, Spread}
use Rattle.es6_ast.specs.declared.tree.Link.{Link}
use Rattle.es6_ast.specs.declared.tree.Parameter.{Parameter}
use Rattle.es6_ast.specs.declared.tree.Rest.{Rest}
use Rattle.es6_ast.specs.declared.settings.Flags.{Flags}
use Rattle.es6_ast.specs.declared.settings.Role.{Role}
use Rattle.es6_ast.specs.declared.settings.Role.TheVariants.{Leading, Among, Heritage, Callee}
use Rattle.es6_ast.specs.Settings.{is_leading, has_calls}
use Rattle.es6_ast.specs.Tokens.{Filled, begin_of}
use Rattle.es6_ast.specs.Grammar.{with_in}
use Rattle.es6_reading.specs.Parser.{Input, Parser, after, returns, ◌>>=◌, refused, no_number, no_expression, on, choose, next_is, if_next, mark, word, next_mark, from, last_end, made, Reading, Inner}
use Rattle.es6_reading.specs.Words.{free_name, literal_at}
use Rattle.es6_reading.specs.Refine.{Refined, Fits, Misfit, TooNested, parameters_of}
use Rattle.es6_reading.specs.Expressions.{no_operand, argument, elements, more_arguments, arguments, properties, covered, covered_rest, rest_after, Held, held_alone, held_first, held_parts, closed_group, whole, held_group, grouped, bracketed, composed, primary, after_callee, after_new, super_call, after_super, head, member_link, index_link, call_link, on_link, links, chained, chain}
use Rattle.es6_reading.proofs.Posts.{Holds, took, fault, bind, weaken, on-holds, if-holds, refused-holds, no-number-holds, no-expression-holds}
use Rattle.es6_reading.proofs.Follows.{plus, semi, SameHead, nothing, same, Near, near, stop, gaps-each, FollowedBy, Followed, FirmBy, bind-followed, bind-firm, bind-follows, same-followed-by, returns-followed}
use Rattle.es6_reading.proofs.FollowChoices.{Runs, on-missed, on-hit, on-follows, mark-follows, near-next, choose-follows, StopsAtSemi, stopped, if-value, if-arrow-follows, group-follows, only-group-follows, from-follows, from-firm, made-follows, made-at-follows, returns-follows, spelled-follows, firm-same, on-firm, take-firm, strict-then-firm}
use Rattle.es6_reading.proofs.FollowEnds.{Follows, kept-fits}
use Rattle.es6_reading.proofs.FollowParts.{follow-identifier, follow-any-name, word-follows, follow-function, follow-class, template-follows}
use Rattle.es6_reading.proofs.RefineMore.{Kept, kept-parameters-of}

-- ## Groups that only an arrow's parameters have

follow-covered : (at : ℕ) (held : Option Expression) (rest : Option Rest) (s : Input) → Runs (λ l. covered at held rest) (covered at held rest) s
unfolding covered
follow-covered at held rest s = if-arrow-follows _ s (λ _ _ _. refl)

follow-covered-rest : (at dots : ℕ) (held : Option Expression) (s : Input) → Runs (λ l. covered_rest at dots held) (covered_rest at dots held) s
unfolding covered_rest
follow-covered-rest at dots held s = bind-follows _ _ _ _ s (follow-identifier s) (λ n c. bind-follows _ _ _ _ c (made-at-follows {A = Rest} dots (λ span. record { span = span; name = n }) c) (λ r d. bind-follows _ _ _ _ d (mark-follows marks.RightParenthesis d) (λ t e. follow-covered at held (Some r) e)))

abbrev pub rest_from : ℕ → Expression → Refined (List Parameter) → ℕ → Parser Reading
rest_from at held r dots = rest_after at dots held r

-- what takes a rest, by what looks at more of the nesting of what stands before it
follow-rest-after : (at : ℕ) (held : Expression) (r : Refined (List Parameter)) (r' : ℕ → Refined (List Parameter)) → ((l : ℕ) → Kept r (r' l)) → (s : Input) → Holds (FirmBy Near (λ l. from (rest_from at held (r' l))) s) (from (rest_from at held r) s)
follow-rest-after at held (Fits es) r' k s = weaken
    (on-firm (mark marks.Ellipsis) (λ _. covered_rest at (begin_of s.tokens) (Some held)) (λ l _. covered_rest at (begin_of s.tokens) (Some held)) refused (λ l. refused) s (λ t c n. follow-covered-rest at _ (Some held) c) (λ m. refused-holds s))
    (λ y d r. firm-same _ _ s d y r (λ l us. ap (λ o. from (rest_from at held o) (record { tokens = r.first ∷ us; last = s.last })) (kept-fits (k l)) ∙ placed r.first us (ap begin_of r.all)))
  where
    placed : (first : Filled) (us : List Filled) → begin_of s.tokens ≡ first.span.begin → on (mark marks.Ellipsis) (λ _. covered_rest at first.span.begin (Some held)) refused (record { tokens = first ∷ us; last = s.last })
        ≡ on (mark marks.Ellipsis) (λ _. covered_rest at (begin_of s.tokens) (Some held)) refused (record { tokens = first ∷ us; last = s.last })
    placed first us e = ap (λ n. on (mark marks.Ellipsis) (λ _. covered_rest at n (Some held)) refused (record { tokens = first ∷ us; last = s.last })) (sym e)
follow-rest-after at held (Misfit place) r' k s = refused-holds s
follow-rest-after at held TooNested r' k s = fault

-- what stands to the tokens that are left after a group's parts: before a rest, the same token
abbrev StandsBy : Bool → List Filled → List Filled → Type 0
StandsBy true = SameHead
StandsBy false = Near

stands-near : (v : Bool) (ts us : List Filled) → StandsBy v ts us → Near ts us
stands-near true ts us k = near k
stands-near false ts us k = k

and-none : (x : Bool) → (x && false) ≡ false
and-none true = refl
and-none false = refl

-- a value that is made of what a reader reads
pub mapped : {A B : Type 0} {stands : List Filled → List Filled → Type 0} {p : ℕ → Parser A} {s c : Input} {x : A} (k : A → B) → ((ts us : List Filled) → stands ts us → Near ts us) → FollowedBy stands p s x c → FollowedBy stands (λ l. ◌>>=◌ (p l) (λ y. returns (k y))) s (k x) c
mapped {stands = stands} {p = p} {s = s} {c = c} {x = x} k nears r = record {
  filled = r.filled;
  ends = r.ends;
  gaps = gaps-each (λ before ts dead l rest h. stopped _ (dead l rest h)) r.gaps;
  run = λ l rest h. ap (λ o. after o (λ y. returns (k y))) (r.run l rest h);
}

abbrev pub argument_from : Inner → Flags → ℕ → Parser Argument
argument_from i f at = on (mark marks.Ellipsis) (λ _. ◌>>=◌ (i.assignment (with_in f)) (λ x. made at (λ span. Spread span x.value))) (◌>>=◌ (i.assignment (with_in f)) (λ x. returns (Single x.value)))

abbrev pub held_group_from : Inner → Flags → Role → ℕ → ℕ → Parser Reading
held_group_from i f role at inside = ◌>>=◌ (held_parts i f role i.fuel) (λ h. choose h.before_rest (from (λ dots. rest_after at dots (whole inside h) (parameters_of i.fuel (h.first ∷ h.more)))) (closed_group at (whole inside h)))

abbrev pub dots_from : Inner → Flags → Role → ℕ → ℕ → Parser Reading
dots_from i f role at dots = on (mark marks.Ellipsis) (λ _. covered_rest at dots None) (held_group i f role at)

abbrev pub links_from : Inner → Flags → Bool → Parser (List Link) → ℕ → Parser (List Link)
links_from i f calls more at = on_link i f calls at (λ x. ◌>>=◌ more (λ ls. returns (x ∷ ls))) (returns [])

abbrev pub chain_from : Inner → Flags → Role → ℕ → Parser Reading
chain_from i f role at = ◌>>=◌ (head i f role at) (λ x. ◌>>=◌ (links i f (has_calls role) i.fuel) (λ ls. made at (chained x ls)))

follow-no-operand : {A : Type 0} {p' : ℕ → Parser A} (role : Role) (s : Input) → Runs p' (no_operand role) s
follow-no-operand Leading s = no-expression-holds s
follow-no-operand Among s = no-expression-holds s
follow-no-operand Heritage s = no-number-holds s
follow-no-operand Callee s = no-number-holds s

follow-closed : (at : ℕ) (held : Expression) (s : Input) → Runs (λ l. closed_group at held) (closed_group at held) s
unfolding closed_group
follow-closed at held s = bind-follows _ _ _ _ s (mark-follows marks.RightParenthesis s) (λ t c. made-follows _ c (λ _ _ _. refl))

follow-member-link : (at : ℕ) (s : Input) → Runs (λ l. member_link at) (member_link at) s
unfolding member_link
follow-member-link at s = bind-follows _ _ _ _ s (follow-any-name s) (λ n c. made-follows _ c (λ _ _ _. refl))

module _ (i' : ℕ → Inner) where
  head-stops : (f : Flags) (role : Role) (at : ℕ) → StopsAtSemi (λ l. head (i' l) f role at)
  unfolding head primary composed bracketed no_expression no_number
  head-stops f Leading at l d place us last = fault
  head-stops f Among at l d place us last = fault
  head-stops f Heritage at l d place us last = fault
  head-stops f Callee at l d place us last = fault

  pub chain-stops : (f : Flags) (role : Role) → StopsAtSemi (λ l. chain (i' l) f role)
  unfolding chain
  chain-stops f role l d place us last = stopped _ (head-stops f role place l d place us last)

module _ (i : Inner) (i' : ℕ → Inner) (h : Follows i i') where
  -- ## Array literals, arguments, object literals

  follow-argument : (f : Flags) (s : Input) → Runs (λ l. argument (i' l) f) (argument i f) s
  unfolding argument
  follow-argument f s = from-follows (argument_from i f) (λ l. argument_from (i' l) f) s (λ l place place' d at us last. refl)
      (on-follows (mark marks.Ellipsis) (λ d at. refl) _ _ _ _ s (λ t c n. bind-follows _ _ _ _ c (h.assignment (with_in f) c) (λ x d. made-follows _ d (λ _ _ _. refl)))
      (λ m. bind-follows _ _ _ _ s (h.assignment (with_in f) s) (λ x c. returns-follows _ c)))

  follow-elements : (f : Flags) (turns : ℕ) (s : Input) → Runs (λ l. elements (i' l) f (plus turns l)) (elements i f turns) s
  unfolding elements
  follow-elements f zero s = fault
  follow-elements f (suc turns) s = on-follows (mark marks.RightBracket) (λ d at. refl) _ _ _ _ s (λ t c n. returns-follows _ c) (λ m.
      on-follows (mark marks.Comma) (λ d at. refl) _ _ _ _ s (λ t c n. bind-follows _ _ _ _ c (follow-elements f turns c) (λ x d. returns-follows _ d)) (λ m.
      bind-follows _ _ _ _ s (follow-argument f s) (λ a c. on-follows (mark marks.Comma) (λ d at. refl) _ _ _ _ c
      (λ t d n. on-follows (mark marks.RightBracket) (λ d at. refl) _ _ _ _ d (λ u e k. returns-follows _ e) (λ m. bind-follows _ _ _ _ d (follow-elements f turns d) (λ x e. returns-follows _ e)))
      (λ m. bind-follows _ _ _ _ c (mark-follows marks.RightBracket c) (λ t d. returns-follows _ d)))))

  follow-more-arguments : (f : Flags) (turns : ℕ) (s : Input) → Runs (λ l. more_arguments (i' l) f (plus turns l)) (more_arguments i f turns) s
  unfolding more_arguments
  follow-more-arguments f zero s = fault
  follow-more-arguments f (suc turns) s = bind-follows _ _ _ _ s (follow-argument f s) (λ a c. on-follows (mark marks.Comma) (λ d at. refl) _ _ _ _ c
      (λ t d n. bind-follows _ _ _ _ d (follow-more-arguments f turns d) (λ xs k. returns-follows _ k))
      (λ m. bind-follows _ _ _ _ c (mark-follows marks.RightParenthesis c) (λ t d. returns-follows _ d)))

  follow-arguments : (f : Flags) (s : Input) → Runs (λ l. arguments (i' l) f) (arguments i f) s
  unfolding arguments
  follow-arguments f s = on-follows (mark marks.RightParenthesis) (λ d at. refl) _ _ _ _ s (λ t c n. returns-follows _ c)
      (λ m. spelled-follows _ (λ l. more_arguments (i' l) f (plus i.fuel l)) s (λ l. ap (λ n. more_arguments (i' l) f n) (h.fuel l)) (follow-more-arguments f i.fuel s))

  follow-properties : (f : Flags) (turns : ℕ) (s : Input) → Runs (λ l. properties (i' l) f (plus turns l)) (properties i f turns) s
  unfolding properties
  follow-properties f zero s = fault
  follow-properties f (suc turns) s = on-follows (mark marks.RightBrace) (λ d at. refl) _ _ _ _ s (λ t c n. returns-follows _ c) (λ m.
      strict-then-firm Near _ _ _ _ s (h.property f s) (λ x c. on-firm (mark marks.Comma) _ _ _ _ c
      (λ t d n. bind-follows _ _ _ _ d (follow-properties f turns d) (λ xs k. returns-follows _ k))
      (λ m. take-firm (mark marks.RightBrace) _ _ c (λ t d. returns-follows _ d))))

  -- ## Groups

  abbrev HeldBy : (ℕ → Parser Held) → Input → Held → Input → Type 0
  HeldBy p s x c = FollowedBy (StandsBy x.before_rest) p s x c

  abbrev is_dots : Role → Filled → Bool
  is_dots role t = is_leading role && next_mark marks.Ellipsis t

  abbrev after_comma : Role → Parser Held → Expression → ℕ → Parser Held
  after_comma role more x end = if_next (is_dots role) (returns (held_alone x end true)) (◌>>=◌ more (λ y. returns (held_first x y)))

  abbrev after_part : Role → Parser Held → Expression → ℕ → Parser Held
  after_part role more x end = on (mark marks.Comma) (λ _. after_comma role more x end) (returns (held_alone x end false))

  follow-after-comma : (role : Role) (more : Parser Held) (more' : ℕ → Parser Held) → ((c : Input) → Holds (HeldBy more' c) (more c)) → (x : Expression) (end : ℕ) (s : Input) → Holds (HeldBy (λ l. after_comma role (more' l) x end) s) (after_comma role more x end s)
  follow-after-comma role more more' m x end s = if-holds (is_dots role) (returns (held_alone x end true)) (◌>>=◌ more (λ y. returns (held_first x y))) s
      (λ e. took (record { filled = []; ends = refl; gaps = stop; run = λ l rest k. if-value (is_dots role) _ _ true rest s.last (same-next k e) }))
      (λ e. bind (m s) (λ y c r. took (same-followed-by (StandsBy y.before_rest) (stands-near y.before_rest) _ (λ l. ◌>>=◌ (more' l) (λ z. returns (held_first x z))) s c (held_first x y)
      (λ l us n. if-value (is_dots role) _ _ false us s.last (near-next (is_dots role) false (λ d at. and-none (is_leading role)) n e)) (mapped (held_first x) (stands-near y.before_rest) r))))
    where
      same-next : {ts us : List Filled} → SameHead ts us → next_is (is_dots role) ts ≡ true → next_is (is_dots role) us ≡ true
      same-next nothing e = e
      same-next same e = e

  follow-after-part : (role : Role) (more : Parser Held) (more' : ℕ → Parser Held) → ((c : Input) → Holds (HeldBy more' c) (more c)) → (x : Expression) (end : ℕ) (s : Input) → Holds (HeldBy (λ l. after_part role (more' l) x end) s) (after_part role more x end s)
  follow-after-part role more more' m x end s = on-holds (mark marks.Comma) (λ _. after_comma role more x end) (returns (held_alone x end false)) s
      (λ t c n. weaken (follow-after-comma role more more' m x end c) (λ y d r. on-hit (mark marks.Comma) (λ l _. after_comma role (more' l) x end) (λ l. returns (held_alone x end false)) n r))
      (λ n. took (same-followed-by Near (λ ts us k. k) _ (λ l. returns (held_alone x end false)) s s (held_alone x end false) (λ l us k. on-missed (mark marks.Comma) (λ d at. refl) (λ _. after_comma role (more' l) x end) (returns (held_alone x end false)) s.last k n) (returns-followed _ s)))

  follow-held : (f : Flags) (role : Role) (turns : ℕ) (s : Input) → Holds (HeldBy (λ l. held_parts (i' l) f role (plus turns l)) s) (held_parts i f role turns s)
  unfolding held_parts
  follow-held f role zero s = fault
  follow-held f role (suc turns) s = bind (h.assignment (with_in f) s) (λ x b r. weaken (follow-after-part role (held_parts i f role turns) (λ l. held_parts (i' l) f role (plus turns l)) (λ c. follow-held f role turns c) x.value b.last b)
      (λ y c r'. bind-followed (StandsBy y.before_rest) (stands-near y.before_rest) (λ l. (i' l).assignment (with_in f)) (λ l x. ◌>>=◌ last_end (after_part role (held_parts (i' l) f role (plus turns l)) x.value)) s b c x y r
      (same-followed-by (StandsBy y.before_rest) (stands-near y.before_rest) _ (λ l. after_part role (held_parts (i' l) f role (plus turns l)) x.value b.last) b c y (λ l us n. refl) r')))

  held-stops : (f : Flags) (role : Role) (turns : ℕ) → StopsAtSemi (λ l. held_parts (i' l) f role turns)
  unfolding held_parts
  held-stops f role zero l d place us last = fault
  held-stops f role (suc turns) l d place us last = stopped _ (h.assignment_stops (with_in f) l d place us last)

  -- what follows the parts, by whether that is a rest
  after-held : (v : Bool) (p : ℕ → Parser Held) (k : ℕ → Held → Parser Reading) (a : Parser Reading) (a' : ℕ → Parser Reading) (b : Parser Reading) (b' : ℕ → Parser Reading) (s c : Input) (x : Held) → ((l : ℕ) → k l x ≡ choose v (a' l) (b' l))
      → FollowedBy (StandsBy v) p s x c → Holds (FirmBy Near a' c) (a c) → Holds (Followed b' c) (b c) → Holds (Followed (λ l. ◌>>=◌ (p l) (k l)) s) (choose v a b c)
  after-held true p k a a' b b' s c x e r g j = weaken g (λ y d r'. bind-firm Near p k s c d x y r (firm-same (λ l. k l x) a' c d y r' (λ l us. ap (λ q. q (record { tokens = r'.first ∷ us; last = c.last })) (e l))))
  after-held false p k a a' b b' s c x e r g j = weaken (spelled-follows (λ l. k l x) b' c e j) (λ y d r'. bind-followed Near (λ ts us n. n) p k s c d x y r r')

  follow-held-group : (f : Flags) (role : Role) (at : ℕ) (s : Input) → Runs (λ l. held_group (i' l) f role at) (held_group i f role at) s
  unfolding held_group
  follow-held-group f role at s = from-firm (held_group_from i f role at) (λ l. held_group_from (i' l) f role at) s (λ place l d begin us last. stopped _ (held-stops f role (i' l).fuel l d begin us last))
      (bind (follow-held f role i.fuel s) (λ x c r. after-held x.before_rest (λ l. held_parts (i' l) f role (i' l).fuel) _ _ (λ l. from (rest_from at (whole (begin_of s.tokens) x) (parameters_of (i' l).fuel (x.first ∷ x.more)))) _ (λ l. closed_group at (whole (begin_of s.tokens) x)) s c x (λ l. refl)
      (same-followed-by (StandsBy x.before_rest) (stands-near x.before_rest) _ (λ l. held_parts (i' l) f role (plus i.fuel l)) s c x (λ l us n. ap (λ n. held_parts (i' l) f role n (record { tokens = us; last = s.last })) (h.fuel l)) r)
      (follow-rest-after at (whole (begin_of s.tokens) x) (parameters_of i.fuel (x.first ∷ x.more)) (λ l. parameters_of (i' l).fuel (x.first ∷ x.more))
      (λ l. subst (λ n. Kept (parameters_of i.fuel (x.first ∷ x.more)) (parameters_of n (x.first ∷ x.more))) (sym (h.fuel l)) (kept-parameters-of i.fuel l (x.first ∷ x.more))) c)
      (follow-closed at (whole (begin_of s.tokens) x) c)))

  held-group-stops : (f : Flags) (role : Role) (at : ℕ) → StopsAtSemi (λ l. held_group (i' l) f role at)
  unfolding held_group
  held-group-stops f role at l d place us last = stopped _ (held-stops f role (i' l).fuel l d place us last)

  follow-grouped : (f : Flags) (role : Role) (at : ℕ) (s : Input) → Runs (λ l. grouped (i' l) f role at) (grouped i f role at) s
  unfolding grouped
  follow-grouped f role at s = choose-follows (is_leading role) _ _ _ _ s
      (λ e. on-follows (mark marks.RightParenthesis) (λ d at. refl) _ _ _ _ s (λ t c n. follow-covered at None None c)
      (λ m. from-firm (dots_from i f role at) (λ l. dots_from (i' l) f role at) s (λ place l d begin us last. held-group-stops f role at l d begin us last)
      (on-follows (mark marks.Ellipsis) (λ d at. refl) _ _ _ _ s (λ t c n. follow-covered-rest at _ None c) (λ m. follow-held-group f role at s))))
      (λ e. follow-held-group f role at s)

  -- ## Primary expressions

  follow-bracketed : (f : Flags) (role : Role) (at : ℕ) (s : Input) → Runs (λ l. bracketed (i' l) f role at) (bracketed i f role at) s
  unfolding bracketed
  follow-bracketed f role at s = group-follows i i' marks.LeftBracket _ _ _ _ s h.opens
      (λ c. bind-follows _ _ _ _ c (spelled-follows _ (λ l. elements (i' l) f (plus i.fuel l)) c (λ l. ap (λ n. elements (i' l) f n) (h.fuel l)) (follow-elements f i.fuel c)) (λ xs d. made-follows _ d (λ _ _ _. refl)))
      (λ m. group-follows i i' marks.LeftBrace _ _ (no_operand role) (λ l. no_operand role) s h.opens
      (λ c. bind-follows _ _ _ _ c (spelled-follows _ (λ l. properties (i' l) f (plus i.fuel l)) c (λ l. ap (λ n. properties (i' l) f n) (h.fuel l)) (follow-properties f i.fuel c)) (λ xs d. made-follows _ d (λ _ _ _. refl)))
      (λ m. follow-no-operand role s))

  follow-composed : (f : Flags) (role : Role) (at : ℕ) (s : Input) → Runs (λ l. composed (i' l) f role at) (composed i f role at) s
  unfolding composed
  follow-composed f role at s = on-follows (word (codes "function")) (λ d at. refl) _ _ _ _ s (λ t c n. bind-follows _ _ _ _ c (follow-function i i' h true at c) (λ g d. returns-follows _ d)) (λ m.
      on-follows (word (codes "class")) (λ d at. refl) _ _ _ _ s (λ t c n. bind-follows _ _ _ _ c (follow-class i i' h f true at c) (λ g d. returns-follows _ d)) (λ m.
      template-follows i i' h f at _ _ _ _ s (λ x c. returns-follows _ c)
      (group-follows i i' marks.LeftParenthesis _ _ _ _ s h.opens (λ c. follow-grouped f role at c) (λ m. follow-bracketed f role at s))))

  follow-primary : (f : Flags) (role : Role) (at : ℕ) (s : Input) → Runs (λ l. primary (i' l) f role at) (primary i f role at) s
  unfolding primary
  follow-primary f role at s = on-follows (word (codes "this")) (λ d at. refl) _ _ _ _ s (λ t c n. made-follows _ c (λ _ _ _. refl)) (λ m.
      on-follows free_name (λ d at. refl) _ _ _ _ s (λ name c n. made-follows _ c (λ _ _ _. refl)) (λ m.
      on-follows literal_at (λ d at. refl) _ _ _ _ s (λ value c n. made-follows _ c (λ _ _ _. refl)) (λ m. follow-composed f role at s)))

  -- ## Left-hand-side expressions

  follow-after-callee : (f : Flags) (at : ℕ) (callee : Expression) (s : Input) → Runs (λ l. after_callee (i' l) f at callee) (after_callee i f at callee) s
  unfolding after_callee
  follow-after-callee f at callee s = group-follows i i' marks.LeftParenthesis _ _ _ _ s h.opens (λ c. bind-follows _ _ _ _ c (follow-arguments f c) (λ xs d. made-follows _ d (λ _ _ _. refl))) (λ m. made-follows _ s (λ _ _ _. refl))

  follow-after-new : (f : Flags) (at : ℕ) (s : Input) → Runs (λ l. after_new (i' l) f at) (after_new i f at) s
  unfolding after_new
  follow-after-new f at s = on-follows (mark marks.Dot) (λ d at. refl) _ _ _ _ s (λ t c n. bind-follows _ _ _ _ c (word-follows (codes "target") c) (λ u d. made-follows _ d (λ _ _ _. refl)))
      (λ m. bind-follows _ _ _ _ s (h.callee f s) (λ x c. follow-after-callee f at x.value c))

  follow-super-call : (f : Flags) (role : Role) (at : ℕ) (s : Input) → Runs (λ l. super_call (i' l) f role at) (super_call i f role at) s
  unfolding super_call
  follow-super-call f role at s = choose-follows (has_calls role) _ _ _ _ s
      (λ e. only-group-follows i i' marks.LeftParenthesis _ _ s h.opens (λ c. bind-follows _ _ _ _ c (follow-arguments f c) (λ xs d. made-follows _ d (λ _ _ _. refl)))) (λ e. refused-holds s)

  follow-after-super : (f : Flags) (role : Role) (at : ℕ) (s : Input) → Runs (λ l. after_super (i' l) f role at) (after_super i f role at) s
  unfolding after_super
  follow-after-super f role at s = on-follows (mark marks.Dot) (λ d at. refl) _ _ _ _ s (λ t c n. bind-follows _ _ _ _ c (follow-any-name c) (λ u d. made-follows _ d (λ _ _ _. refl)))
      (λ m. group-follows i i' marks.LeftBracket _ _ _ _ s h.opens (λ c. bind-follows _ _ _ _ c (h.sequence (with_in f) c) (λ x d. bind-follows _ _ _ _ d (mark-follows marks.RightBracket d) (λ t e. made-follows _ e (λ _ _ _. refl)))) (λ m. follow-super-call f role at s))

  follow-head : (f : Flags) (role : Role) (at : ℕ) (s : Input) → Runs (λ l. head (i' l) f role at) (head i f role at) s
  unfolding head
  follow-head f role at s = on-follows (word (codes "new")) (λ d at. refl) _ _ _ _ s (λ t c n. follow-after-new f at c) (λ m.
      on-follows (word (codes "super")) (λ d at. refl) _ _ _ _ s (λ t c n. follow-after-super f role at c) (λ m. follow-primary f role at s))

  follow-index : (f : Flags) (at : ℕ) (s : Input) → Runs (λ l. index_link (i' l) f at) (index_link i f at) s
  unfolding index_link
  follow-index f at s = bind-follows _ _ _ _ s (h.sequence (with_in f) s) (λ x c. bind-follows _ _ _ _ c (mark-follows marks.RightBracket c) (λ t d. made-follows _ d (λ _ _ _. refl)))

  follow-call : (f : Flags) (at : ℕ) (s : Input) → Runs (λ l. call_link (i' l) f at) (call_link i f at) s
  unfolding call_link
  follow-call f at s = bind-follows _ _ _ _ s (follow-arguments f s) (λ xs c. made-follows _ c (λ _ _ _. refl))

  follow-links : (f : Flags) (calls : Bool) (turns : ℕ) (s : Input) → Runs (λ l. links (i' l) f calls (plus turns l)) (links i f calls turns) s
  unfolding links
  follow-links f calls zero s = fault
  follow-links f calls (suc turns) s = from-follows (links_from i f calls (links i f calls turns)) (λ l. links_from (i' l) f calls (links (i' l) f calls (plus turns l))) s (λ l place place' d at us last. free calls l place place' d at us last)
      (on-follows (mark marks.Dot) (λ d at. refl) _ _ _ _ s (λ t c n. bind-follows _ _ _ _ c (follow-member-link _ c) (λ x d. bind-follows _ _ _ _ d (follow-links f calls turns d) (λ ls e. returns-follows _ e))) (λ m.
      group-follows i i' marks.LeftBracket _ _ _ _ s h.opens (λ c. bind-follows _ _ _ _ c (follow-index f _ c) (λ x d. bind-follows _ _ _ _ d (follow-links f calls turns d) (λ ls e. returns-follows _ e))) (λ m.
      template-follows i i' h f _ _ _ _ _ s (λ x c. bind-follows _ _ _ _ c (follow-links f calls turns c) (λ ls e. returns-follows _ e))
      (choose-follows calls _ _ _ _ s (λ e. group-follows i i' marks.LeftParenthesis _ _ _ _ s h.opens (λ c. bind-follows _ _ _ _ c (follow-call f _ c) (λ x d. bind-follows _ _ _ _ d (follow-links f calls turns d) (λ ls e. returns-follows _ e))) (λ m. returns-follows _ s)) (λ e. returns-follows _ s)))))
    where
      free : (calls : Bool) (l place place' : ℕ) (d : Bool) (at : ℕ) (us : List Filled) (last : ℕ) → links_from (i' l) f calls (links (i' l) f calls (plus turns l)) place (record { tokens = semi d at ∷ us; last = last })
          ≡ links_from (i' l) f calls (links (i' l) f calls (plus turns l)) place' (record { tokens = semi d at ∷ us; last = last })
      free true l place place' d at us last = refl
      free false l place place' d at us last = refl

  pub follow-chain : (f : Flags) (role : Role) (s : Input) → Runs (λ l. chain (i' l) f role) (chain i f role) s
  unfolding chain
  follow-chain f role s = from-firm (chain_from i f role) (λ l. chain_from (i' l) f role) s (λ place l d at us last. stopped _ (head-stops i' f role place l d at us last))
      (bind-follows _ _ _ _ s (follow-head f role _ s) (λ x c. bind-follows _ _ _ _ c
      (spelled-follows _ (λ l. links (i' l) f (has_calls role) (plus i.fuel l)) c (λ l. ap (λ n. links (i' l) f (has_calls role) n) (h.fuel l)) (follow-links f (has_calls role) i.fuel c)) (λ ls d. made-follows _ d (λ _ _ _. refl))))
