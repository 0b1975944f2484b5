-- The readers of expressions with insertion follow those without it.
use Rattle.std.proofs.Common.{ℕ, zero, suc, Bool, true, false, List, [], ◌∷◌, Option, Some, None, refl, ap}
use Rattle.std.specs.Prelude.{codes}
use Rattle.es5_ast.specs.declared.tree.Identifier5.{Identifier5}
use Rattle.es5_ast.specs.declared.tree.PlacedKey5.{PlacedKey5}
use Rattle.es5_ast.specs.declared.tree.Expr5.{Expr5}
use Rattle.es5_ast.specs.declared.tree.Link5.{Link5}
use Rattle.es5_ast.specs.declared.tree.Function5.{Function5, roll-Function5}
use Rattle.es5_reading.specs.Parser.{Input5, Parser, ◌>>=◌, on, choose, take_as, returns, mark, word, made, Read5, Inner5, on_group, group}
use Rattle.es5_reading.specs.Expressions.{any_name, free_name, literal_at, key_at, identifier, key, more_parameters, parameters, statements, body, rest_of_function, function_expression, no_parameter, one_parameter, accessor_parameters, accessor_function, accessor, properties, elements, more_arguments, arguments, grouped, no_expression, bracketed, primary, after_callee, head, member_link, index_link, call_link, links}
use Rattle.es5_reading.proofs.Posts.{Holds, fault, if-holds}
use Rattle.es5_reading.proofs.Follows.{plus, Followed, bind-follows}
use Rattle.es5_reading.proofs.FollowChoices.{on-follows, take-follows, StopsAtSemi, if-follows, group-follows, from-follows, made-follows, returns-follows, spelled-follows, Follows}

abbrev pub Runs : {A : Type 0} → (ℕ → Parser A) → Parser A → Input5 → Type 0
Runs p' p s = Holds (Followed p' s) (p s)

pub mark-follows : (p : List ℕ) (s : Input5) → Runs (λ l. take_as (mark p)) (take_as (mark p)) s
mark-follows p s = take-follows (mark p) (λ b e a. refl) s

-- ## Identifiers, parameters

abbrev identifier_from : ℕ → Parser Identifier5
identifier_from at = ◌>>=◌ (take_as free_name) (λ name. made at (λ span. record { span = span; name = name }))

abbrev key_from : ℕ → Parser PlacedKey5
key_from at = ◌>>=◌ (take_as key_at) (λ k. made at (λ span. record { span = span; key = k }))

abbrev accessor_function_from : Inner5 → Bool → ℕ → Parser Function5
accessor_function_from i setter at = ◌>>=◌ (group i (codes "(") (accessor_parameters setter)) (λ xs. ◌>>=◌ (body i) (λ ss. made at (λ span. roll-Function5 (record { span = span; name = None; parameters = xs; body = ss }))))

abbrev links_from : Inner5 → Bool → Parser (List Link5) → ℕ → Parser (List Link5)
links_from i calls more at = on (mark (codes ".")) (λ _. ◌>>=◌ (member_link at) (λ l. ◌>>=◌ more (λ ls. returns (l ∷ ls))))
    (on_group i (codes "[") (◌>>=◌ (index_link i at) (λ l. ◌>>=◌ more (λ ls. returns (l ∷ ls))))
    (choose calls (on_group i (codes "(") (◌>>=◌ (call_link i at) (λ l. ◌>>=◌ more (λ ls. returns (l ∷ ls)))) (returns [])) (returns [])))

pub follow-identifier : (s : Input5) → Runs (λ l. identifier) identifier s
unfolding identifier
follow-identifier s = from-follows identifier_from (λ l. identifier_from) s (λ l at at' b e a us last. refl) (bind-follows _ _ _ _ s (take-follows free_name (λ b e a. refl) s) (λ name c. made-follows _ c (λ _ _ _. refl)))

pub follow-key : (s : Input5) → Runs (λ l. key) key s
unfolding key
follow-key s = from-follows key_from (λ l. key_from) s (λ l at at' b e a us last. refl) (bind-follows _ _ _ _ s (take-follows key_at (λ b e a. refl) s) (λ k c. made-follows _ c (λ _ _ _. refl)))

follow-more-parameters : (turns : ℕ) (s : Input5) → Runs (λ l. more_parameters (plus turns l)) (more_parameters turns) s
unfolding more_parameters
follow-more-parameters zero s = fault
follow-more-parameters (suc turns) s = bind-follows _ _ _ _ s (follow-identifier s) (λ x c. on-follows (mark (codes ",")) (λ b e a. refl) _ _ _ _ c
    (λ t d h. bind-follows _ _ _ _ d (follow-more-parameters turns d) (λ xs k. returns-follows _ k))
    (λ m. bind-follows _ _ _ _ c (mark-follows _ c) (λ t d. returns-follows _ d)))

module _ (i : Inner5) (i' : ℕ → Inner5) (f : Follows i i') where
  follow-parameters : (s : Input5) → Runs (λ l. parameters (i' l)) (parameters i) s
  unfolding parameters
  follow-parameters s = on-follows (mark (codes ")")) (λ b e a. refl) _ _ _ _ s (λ t c h. returns-follows _ c)
      (λ m. spelled-follows _ (λ l. more_parameters (plus i.fuel l)) s (λ l. ap (λ n. more_parameters n) (f.fuel l)) (follow-more-parameters i.fuel s))

  -- ## Functions

  pub follow-statements : (inside top : Bool) (turns : ℕ) (s : Input5) → Runs (λ l. statements (i' l) inside top (plus turns l)) (statements i inside top turns) s
  unfolding statements
  follow-statements inside top zero s = fault
  follow-statements inside top (suc turns) s = on-follows (mark (codes "}")) (λ b e a. refl) _ _ _ _ s (λ t c h. returns-follows _ c)
      (λ m. bind-follows _ _ _ _ s (f.statement inside top s) (λ x c. bind-follows _ _ _ _ c (follow-statements inside top turns c) (λ xs d. returns-follows _ d)))

  pub follow-braced : (inside top : Bool) (s : Input5) → Runs (λ l. statements (i' l) inside top (i' l).fuel) (statements i inside top i.fuel) s
  follow-braced inside top s = spelled-follows _ (λ l. statements (i' l) inside top (plus i.fuel l)) s (λ l. ap (λ n. statements (i' l) inside top n) (f.fuel l)) (follow-statements inside top i.fuel s)

  follow-body : (s : Input5) → Runs (λ l. body (i' l)) (body i) s
  unfolding body
  follow-body s = group-follows i i' _ _ _ _ _ s f.opens (λ o c. follow-braced true true c) (λ m. fault)

  pub follow-rest : (at : ℕ) (name : Option Identifier5) (s : Input5) → Runs (λ l. rest_of_function (i' l) at name) (rest_of_function i at name) s
  unfolding rest_of_function
  follow-rest at name s = bind-follows _ _ _ _ s (group-follows i i' _ _ _ _ _ s f.opens (λ o c. follow-parameters c) (λ m. fault)) (λ xs c.
      bind-follows _ _ _ _ c (follow-body c) (λ ss d. made-follows _ d (λ _ _ _. refl)))

  rest-stops : (at : ℕ) (name : Option Identifier5) → StopsAtSemi (λ l. rest_of_function (i' l) at name)
  unfolding rest_of_function
  rest-stops at name l b e a us last = fault

  pub follow-function : (at : ℕ) (s : Input5) → Runs (λ l. function_expression (i' l) at) (function_expression i at) s
  unfolding function_expression
  follow-function at s = if-follows _ (λ b e a. refl) _ _ _ _ s (rest-stops at None) (λ h. follow-rest at None s)
      (λ h. bind-follows _ _ _ _ s (follow-identifier s) (λ x c. follow-rest at (Some x) c))

  -- ## Literals

  follow-accessor-parameters : (setter : Bool) (s : Input5) → Runs (λ l. accessor_parameters setter) (accessor_parameters setter) s
  unfolding accessor_parameters one_parameter no_parameter
  follow-accessor-parameters true s = bind-follows _ _ _ _ s (follow-identifier s) (λ x c. bind-follows _ _ _ _ c (mark-follows _ c) (λ t d. returns-follows _ d))
  follow-accessor-parameters false s = bind-follows _ _ _ _ s (mark-follows _ s) (λ t d. returns-follows _ d)

  follow-accessor-function : (setter : Bool) (s : Input5) → Runs (λ l. accessor_function (i' l) setter) (accessor_function i setter) s
  unfolding accessor_function
  follow-accessor-function setter s = from-follows (accessor_function_from i setter) (λ l. accessor_function_from (i' l) setter) s (λ l at at' b e a us last. refl)
      (bind-follows _ _ _ _ s (group-follows i i' _ _ _ _ _ s f.opens (λ o c. follow-accessor-parameters setter c) (λ m. fault)) (λ xs c. bind-follows _ _ _ _ c (follow-body c) (λ ss d. made-follows _ d (λ _ _ _. refl))))

  pub follow-accessor : (at : ℕ) (setter : Bool) (s : Input5) → Runs (λ l. accessor (i' l) at setter) (accessor i at setter) s
  unfolding accessor
  follow-accessor at setter s = bind-follows _ _ _ _ s (follow-key s) (λ k c. bind-follows _ _ _ _ c (follow-accessor-function setter c) (λ g d. made-follows _ d (λ _ _ _. refl)))

  follow-properties : (turns : ℕ) (s : Input5) → Runs (λ l. properties (i' l) (plus turns l)) (properties i turns) s
  unfolding properties
  follow-properties zero s = fault
  follow-properties (suc turns) s = on-follows (mark (codes "}")) (λ b e a. refl) _ _ _ _ s (λ t c h. returns-follows _ c) (λ m. bind-follows _ _ _ _ s (f.property s) (λ x c.
      on-follows (mark (codes ",")) (λ b e a. refl) _ _ _ _ c
      (λ t d h. bind-follows _ _ _ _ d (follow-properties turns d) (λ xs k. returns-follows _ k))
      (λ m. bind-follows _ _ _ _ c (mark-follows _ c) (λ t d. returns-follows _ d))))

  follow-elements : (turns : ℕ) (s : Input5) → Runs (λ l. elements (i' l) (plus turns l)) (elements i turns) s
  unfolding elements
  follow-elements zero s = fault
  follow-elements (suc turns) s = on-follows (mark (codes "]")) (λ b e a. refl) _ _ _ _ s (λ t c h. returns-follows _ c) (λ m.
      on-follows (mark (codes ",")) (λ b e a. refl) _ _ _ _ s (λ t c h. bind-follows _ _ _ _ c (follow-elements turns c) (λ xs d. returns-follows _ d))
      (λ m. bind-follows _ _ _ _ s (f.assignment false s) (λ x c. on-follows (mark (codes ",")) (λ b e a. refl) _ _ _ _ c
      (λ t d h. bind-follows _ _ _ _ d (follow-elements turns d) (λ xs k. returns-follows _ k))
      (λ m. bind-follows _ _ _ _ c (mark-follows _ c) (λ t d. returns-follows _ d)))))

  follow-more-arguments : (turns : ℕ) (s : Input5) → Runs (λ l. more_arguments (i' l) (plus turns l)) (more_arguments i turns) s
  unfolding more_arguments
  follow-more-arguments zero s = fault
  follow-more-arguments (suc turns) s = bind-follows _ _ _ _ s (f.assignment false s) (λ x c. on-follows (mark (codes ",")) (λ b e a. refl) _ _ _ _ c
      (λ t d h. bind-follows _ _ _ _ d (follow-more-arguments turns d) (λ xs k. returns-follows _ k))
      (λ m. bind-follows _ _ _ _ c (mark-follows _ c) (λ t d. returns-follows _ d)))

  follow-arguments : (s : Input5) → Runs (λ l. arguments (i' l)) (arguments i) s
  unfolding arguments
  follow-arguments s = on-follows (mark (codes ")")) (λ b e a. refl) _ _ _ _ s (λ t c h. returns-follows _ c)
      (λ m. spelled-follows _ (λ l. more_arguments (i' l) (plus i.fuel l)) s (λ l. ap (λ n. more_arguments (i' l) n) (f.fuel l)) (follow-more-arguments i.fuel s))

  -- ## Primary expressions

  follow-none : {p' : ℕ → Parser Read5} (s : Input5) → Runs p' no_expression s
  unfolding no_expression
  follow-none s = if-holds _ _ _ s (λ h. fault) (λ h. fault)

  follow-bracketed : (at : ℕ) (s : Input5) → Runs (λ l. bracketed (i' l) at) (bracketed i at) s
  unfolding bracketed
  follow-bracketed at s = group-follows i i' _ _ _ _ _ s f.opens
      (λ o c. bind-follows _ _ _ _ c (spelled-follows _ (λ l. elements (i' l) (plus i.fuel l)) c (λ l. ap (λ n. elements (i' l) n) (f.fuel l)) (follow-elements i.fuel c)) (λ xs d. made-follows _ d (λ _ _ _. refl)))
      (λ m. group-follows i i' _ _ _ _ _ s f.opens
      (λ o c. bind-follows _ _ _ _ c (spelled-follows _ (λ l. properties (i' l) (plus i.fuel l)) c (λ l. ap (λ n. properties (i' l) n) (f.fuel l)) (follow-properties i.fuel c)) (λ xs d. made-follows _ d (λ _ _ _. refl)))
      (λ m. follow-none s))

  follow-primary : (at : ℕ) (s : Input5) → Runs (λ l. primary (i' l) at) (primary i at) s
  unfolding primary grouped
  follow-primary at s = on-follows (word (codes "this")) (λ b e a. refl) _ _ _ _ s (λ t c h. made-follows _ c (λ _ _ _. refl)) (λ m.
      on-follows free_name (λ b e a. refl) _ _ _ _ s (λ name c h. made-follows _ c (λ _ _ _. refl)) (λ m.
      on-follows literal_at (λ b e a. refl) _ _ _ _ s (λ value c h. made-follows _ c (λ _ _ _. refl)) (λ m.
      on-follows (word (codes "function")) (λ b e a. refl) _ _ _ _ s (λ t c h. bind-follows _ _ _ _ c (follow-function at c) (λ g d. returns-follows _ d)) (λ m.
      group-follows i i' _ _ _ _ _ s f.opens (λ o c. bind-follows _ _ _ _ c (f.sequence false c) (λ x d. bind-follows _ _ _ _ d (mark-follows _ d) (λ t k. returns-follows _ k))) (λ m. follow-bracketed at s)))))

  -- ## Left-hand-side expressions

  follow-after-callee : (at : ℕ) (callee : Expr5) (s : Input5) → Runs (λ l. after_callee (i' l) at callee) (after_callee i at callee) s
  unfolding after_callee
  follow-after-callee at callee s = group-follows i i' _ _ _ _ _ s f.opens (λ o c. bind-follows _ _ _ _ c (follow-arguments c) (λ xs d. made-follows _ d (λ _ _ _. refl))) (λ m. made-follows _ s (λ _ _ _. refl))

  pub follow-head : (at : ℕ) (s : Input5) → Runs (λ l. head (i' l) at) (head i at) s
  unfolding head
  follow-head at s = on-follows (word (codes "new")) (λ b e a. refl) _ _ _ _ s (λ t c h. bind-follows _ _ _ _ c (f.callee c) (λ x d. follow-after-callee at x.value d)) (λ m. follow-primary at s)

  follow-member : (at : ℕ) (s : Input5) → Runs (λ l. member_link at) (member_link at) s
  unfolding member_link
  follow-member at s = bind-follows _ _ _ _ s (take-follows any_name (λ b e a. refl) s) (λ name c. made-follows _ c (λ _ _ _. refl))

  follow-index : (at : ℕ) (s : Input5) → Runs (λ l. index_link (i' l) at) (index_link i at) s
  unfolding index_link
  follow-index at s = bind-follows _ _ _ _ s (f.sequence false s) (λ x c. bind-follows _ _ _ _ c (mark-follows _ c) (λ t d. made-follows _ d (λ _ _ _. refl)))

  follow-call : (at : ℕ) (s : Input5) → Runs (λ l. call_link (i' l) at) (call_link i at) s
  unfolding call_link
  follow-call at s = bind-follows _ _ _ _ s (follow-arguments s) (λ xs c. made-follows _ c (λ _ _ _. refl))

  pub follow-links : (calls : Bool) (turns : ℕ) (s : Input5) → Runs (λ l. links (i' l) calls (plus turns l)) (links i calls turns) s
  unfolding links
  follow-links calls zero s = fault
  follow-links true (suc turns) s = from-follows (links_from i true (links i true turns)) (λ l. links_from (i' l) true (links (i' l) true (plus turns l))) s (λ l at at' b e a us last. refl) (on-follows (mark (codes ".")) (λ b e a. refl) _ _ _ _ s
      (λ t c h. bind-follows _ _ _ _ c (follow-member _ c) (λ x d. bind-follows _ _ _ _ d (follow-links true turns d) (λ xs k. returns-follows _ k)))
      (λ m. group-follows i i' _ _ _ _ _ s f.opens
      (λ o c. bind-follows _ _ _ _ c (follow-index _ c) (λ x d. bind-follows _ _ _ _ d (follow-links true turns d) (λ xs k. returns-follows _ k)))
      (λ m. group-follows i i' _ _ _ _ _ s f.opens
      (λ o c. bind-follows _ _ _ _ c (follow-call _ c) (λ x d. bind-follows _ _ _ _ d (follow-links true turns d) (λ xs k. returns-follows _ k)))
      (λ m. returns-follows _ s))))
  follow-links false (suc turns) s = from-follows (links_from i false (links i false turns)) (λ l. links_from (i' l) false (links (i' l) false (plus turns l))) s (λ l at at' b e a us last. refl) (on-follows (mark (codes ".")) (λ b e a. refl) _ _ _ _ s
      (λ t c h. bind-follows _ _ _ _ c (follow-member _ c) (λ x d. bind-follows _ _ _ _ d (follow-links false turns d) (λ xs k. returns-follows _ k)))
      (λ m. group-follows i i' _ _ _ _ _ s f.opens
      (λ o c. bind-follows _ _ _ _ c (follow-index _ c) (λ x d. bind-follows _ _ _ _ d (follow-links false turns d) (λ xs k. returns-follows _ k)))
      (λ m. returns-follows _ s)))
