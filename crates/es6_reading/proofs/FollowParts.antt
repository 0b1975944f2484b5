-- The readers of names, keys, patterns that bind, parameters, functions, methods, classes and templates with insertion follow
-- those without it.
use Rattle.std.proofs.Common.{◌≡◌, ℕ, zero, suc, Bool, true, false, List, [], ◌∷◌, Option, Some, None, refl, ap}
use Rattle.std.specs.Prelude.{codes}
use Rattle.es6_lexer.specs.declared.token.Punctuator.TheVariants as marks
use Rattle.es6_ast.specs.declared.operators.MethodKind.{MethodKind}
use Rattle.es6_ast.specs.declared.operators.MethodKind.TheVariants.{PlainMethod, GeneratorMethod}
use Rattle.es6_ast.specs.declared.tree.Identifier.{Identifier}
use Rattle.es6_ast.specs.declared.tree.Pattern.{Pattern}
use Rattle.es6_ast.specs.declared.tree.ArrayPart.{ArrayPart}
use Rattle.es6_ast.specs.declared.tree.ArrayPart.TheVariants.{SkippedPart, SinglePart, RestPart}
use Rattle.es6_ast.specs.declared.tree.ObjectPart.{ObjectPart}
use Rattle.es6_ast.specs.declared.tree.Parameter.{Parameter}
use Rattle.es6_ast.specs.declared.tree.Parameter.TheVariants.{SingleParameter, RestParameter}
use Rattle.es6_ast.specs.declared.tree.Key.{Key}
use Rattle.es6_ast.specs.declared.tree.Key.TheVariants.{WordKey}
use Rattle.es6_ast.specs.declared.tree.Block.{Block, roll-Block}
use Rattle.es6_ast.specs.declared.tree.ClassMember.{ClassMember}
use Rattle.es6_ast.specs.declared.tree.Method.{Method}
use Rattle.es6_ast.specs.declared.tree.Part.{Part, roll-Part}
use Rattle.es6_ast.specs.declared.tree.Stretch.{Stretch}
use Rattle.es6_ast.specs.declared.tree.Template.{Template, roll-Template}
use Rattle.es6_ast.specs.declared.settings.Flags.{Flags}
use Rattle.es6_ast.specs.declared.settings.Stand.TheVariants.{Listed}
use Rattle.es6_ast.specs.Tokens.{Filled, begin_of}
use Rattle.es6_ast.specs.Grammar.{with_in, of_function, name_target, method_of}
use Rattle.es6_reading.specs.Parser.{Input, Parser, returns, ◌>>=◌, refused, no_number, on, if_next, take_as, mark, word, next_mark, made, Inner, on_group, group}
use Rattle.es6_reading.specs.Words.{any_name, free_name, key_at, accessor_at, accessor_name, stretch_at}
use Rattle.es6_reading.specs.Parts.{identifier, name_of_any_kind, key_of, computed_key, key, rest_part, array_parts, object_parts, binding_pattern, binding, initialized, one_part, keyed_part, named_part, one_object_part, rest_parameter, more_parameters, parameters, statements, block, function_body, signature, star, rest_of_function, named_function, function_after_word, method_after_key, no_parameter, one_parameter, accessor_parameters, accessor_kind, accessor, generator_method, method_after_accessor_word, method, member_of, member_after_static, one_member, members, heritage, rest_of_class, named_class, begins_class_tail, class_after_word, template_parts, parted_template, on_template}
use Rattle.es6_reading.proofs.Posts.{Holds, fault, no-number-holds}
use Rattle.es6_reading.proofs.Follows.{plus, semi, Followed, bind-follows}
use Rattle.es6_reading.proofs.FollowChoices.{Runs, on-follows, take-follows, mark-follows, choose-follows, StopsAtSemi, stopped, if-follows, group-follows, opening-follows, only-group-follows, from-follows, made-follows, made-at-follows, returns-follows, spelled-follows}
use Rattle.es6_reading.proofs.FollowEnds.{Follows}

-- ## Names

abbrev pub identifier_from : ℕ → Parser Identifier
identifier_from at = ◌>>=◌ (take_as free_name) (λ name. made at (λ span. record { span = span; name = name }))

abbrev pub any_name_from : ℕ → Parser Identifier
any_name_from at = ◌>>=◌ (take_as any_name) (λ name. made at (λ span. record { span = span; name = name }))

pub follow-identifier : (s : Input) → Runs (λ l. identifier) identifier s
unfolding identifier refused
follow-identifier s = from-follows identifier_from (λ l. identifier_from) s (λ l place place' d at us last. refl) (bind-follows _ _ _ _ s (take-follows free_name (λ d at. refl) s) (λ name c. made-follows _ c (λ _ _ _. refl)))

pub follow-any-name : (s : Input) → Runs (λ l. name_of_any_kind) name_of_any_kind s
unfolding name_of_any_kind refused
follow-any-name s = from-follows any_name_from (λ l. any_name_from) s (λ l place place' d at us last. refl) (bind-follows _ _ _ _ s (take-follows any_name (λ d at. refl) s) (λ name c. made-follows _ c (λ _ _ _. refl)))

pub word-follows : (w : List ℕ) (s : Input) → Runs (λ l. take_as (word w)) (take_as (word w)) s
word-follows w s = take-follows (word w) (λ d at. refl) s

follow-rest-part : (at : ℕ) (s : Input) → Runs (λ l. rest_part at) (rest_part at) s
unfolding rest_part
follow-rest-part at s = bind-follows _ _ _ _ s (follow-identifier s) (λ n c. bind-follows _ _ _ (λ l e. ◌>>=◌ (take_as (mark marks.RightBracket)) (λ _. returns (e ∷ []))) c (made-at-follows at (λ span. RestPart span (name_target n)) c) (λ e d. bind-follows _ _ _ _ d (mark-follows marks.RightBracket d) (λ t k. returns-follows _ k)))

follow-rest-parameter : (at : ℕ) (s : Input) → Runs (λ l. rest_parameter at) (rest_parameter at) s
unfolding rest_parameter
follow-rest-parameter at s = bind-follows _ _ _ _ s (follow-identifier s) (λ n c. bind-follows _ _ _ (λ l e. ◌>>=◌ (take_as (mark marks.RightParenthesis)) (λ _. returns e)) c (made-at-follows at (λ span. RestParameter span (name_target n)) c) (λ e d. bind-follows _ _ _ _ d (mark-follows marks.RightParenthesis d) (λ t k. returns-follows _ k)))

follow-star : (s : Input) → Runs (λ l. star) star s
unfolding star
follow-star s = on-follows (mark marks.Star) (λ d at. refl) _ _ _ _ s (λ t c n. returns-follows _ c) (λ m. returns-follows _ s)

follow-no-parameter : (s : Input) → Runs (λ l. no_parameter) no_parameter s
unfolding no_parameter
follow-no-parameter s = bind-follows _ _ _ _ s (mark-follows marks.RightParenthesis s) (λ t c. returns-follows _ c)

-- ## What begins at a place

abbrev pub key_from : Inner → Flags → ℕ → Parser Key
key_from i f at = on key_at (λ k. made at (λ span. key_of span k)) (on_group i marks.LeftBracket (computed_key i f at) no_number)

abbrev pub array_parts_from : Inner → Flags → Parser (List ArrayPart) → ℕ → Parser (List ArrayPart)
array_parts_from i f more at = on (mark marks.RightBracket) (λ _. returns []) (on (mark marks.Comma) (λ _. ◌>>=◌ more (λ es. returns (SkippedPart ∷ es))) (on (mark marks.Ellipsis) (λ _. rest_part at)
    (◌>>=◌ (i.part f) (λ q. on (mark marks.Comma) (λ _. ◌>>=◌ more (λ es. returns (SinglePart q ∷ es))) (◌>>=◌ (take_as (mark marks.RightBracket)) (λ _. returns (SinglePart q ∷ [])))))))

abbrev pub binding_from : Inner → Flags → ℕ → Parser Pattern
binding_from i f at = on free_name (λ name. made at (λ span. name_target (record { span = span; name = name }))) (binding_pattern i f at)

abbrev pub initialized_from : Inner → Flags → Flags → ℕ → Parser Part
initialized_from i f g at = ◌>>=◌ (binding i f) (λ p. on (mark marks.Assign) (λ _. ◌>>=◌ (i.assignment g) (λ x. made at (λ span. roll-Part (record { span = span; pattern = p; default = Some x.value }))))
    (made at (λ span. roll-Part (record { span = span; pattern = p; default = None }))))

abbrev pub object_part_from : Inner → Flags → ℕ → Parser ObjectPart
object_part_from i f at = on free_name (λ name. ◌>>=◌ (made {A = Identifier} at (λ span. record { span = span; name = name })) (λ n. on (mark marks.Colon) (λ _. keyed_part i f at (WordKey n.span n.name)) (named_part i f at n)))
    (◌>>=◌ (key i f) (λ k. ◌>>=◌ (take_as (mark marks.Colon)) (λ _. keyed_part i f at k)))

abbrev pub more_parameters_from : Inner → Flags → Parser (List Parameter) → ℕ → Parser (List Parameter)
more_parameters_from i f more at = on (mark marks.Ellipsis) (λ _. ◌>>=◌ (rest_parameter at) (λ e. returns (e ∷ [])))
    (◌>>=◌ (i.part f) (λ q. on (mark marks.Comma) (λ _. ◌>>=◌ more (λ es. returns (SingleParameter q ∷ es))) (◌>>=◌ (take_as (mark marks.RightParenthesis)) (λ _. returns (SingleParameter q ∷ [])))))

abbrev pub block_from : Inner → Flags → ℕ → Parser Block
block_from i f at = group i marks.LeftBrace (◌>>=◌ (statements i f i.fuel) (λ ss. made at (λ span. roll-Block (record { span = span; statements = ss }))))

abbrev pub method_parameters_from : Inner → MethodKind → Bool → ℕ → Key → ℕ → Parser Method
method_parameters_from i kind generator at k place = ◌>>=◌ (signature i generator) (λ s. ◌>>=◌ (made place (λ span. span)) (λ c. made at (λ span. method_of span kind k c s.parameters s.body)))

abbrev pub accessor_parameters_from : Inner → ℕ → Bool → Key → ℕ → Parser Method
accessor_parameters_from i at setter k place = ◌>>=◌ (group i marks.LeftParenthesis (accessor_parameters i setter)) (λ es. ◌>>=◌ (function_body i false) (λ ss. ◌>>=◌ (made place (λ span. span)) (λ c. made at (λ span. method_of span (accessor_kind setter) k c es ss))))

abbrev pub method_from : Inner → Flags → ℕ → Parser Method
method_from i f at = on (mark marks.Star) (λ _. generator_method i f at) (on accessor_at (λ setter. method_after_accessor_word i f at setter) (◌>>=◌ (key i f) (λ k. method_after_key i PlainMethod false at k)))

abbrev pub member_from : Inner → Flags → ℕ → Parser ClassMember
member_from i f at = on (word (codes "static")) (λ _. member_after_static i f at) (◌>>=◌ (method i f) (λ m. made at (member_of false m)))

module _ (i : Inner) (i' : ℕ → Inner) (h : Follows i i') where
  follow-computed : (f : Flags) (at : ℕ) (s : Input) → Runs (λ l. computed_key (i' l) f at) (computed_key i f at) s
  unfolding computed_key
  follow-computed f at s = bind-follows _ _ _ _ s (h.assignment (with_in f) s) (λ x c. bind-follows _ _ _ _ c (mark-follows marks.RightBracket c) (λ t d. made-follows _ d (λ _ _ _. refl)))

  pub follow-key : (f : Flags) (s : Input) → Runs (λ l. key (i' l) f) (key i f) s
  unfolding key
  follow-key f s = from-follows (key_from i f) (λ l. key_from (i' l) f) s (λ l place place' d at us last. refl)
      (on-follows key_at (λ d at. refl) _ _ _ _ s (λ k c n. made-follows _ c (λ _ _ _. refl)) (λ m. group-follows i i' marks.LeftBracket _ _ no_number (λ l. no_number) s h.opens (λ c. follow-computed f _ c) (λ m. no-number-holds s)))

  -- ## Patterns

  follow-array-parts : (f : Flags) (turns : ℕ) (s : Input) → Runs (λ l. array_parts (i' l) f (plus turns l)) (array_parts i f turns) s
  unfolding array_parts
  follow-array-parts f zero s = fault
  follow-array-parts f (suc turns) s = from-follows (array_parts_from i f (array_parts i f turns)) (λ l. array_parts_from (i' l) f (array_parts (i' l) f (plus turns l))) s (λ l place place' d at us last. refl)
      (on-follows (mark marks.RightBracket) (λ d at. refl) _ _ _ _ s (λ t c n. returns-follows _ c) (λ m.
      on-follows (mark marks.Comma) (λ d at. refl) _ _ _ _ s (λ t c n. bind-follows _ _ _ _ c (follow-array-parts f turns c) (λ es d. returns-follows _ d)) (λ m.
      on-follows (mark marks.Ellipsis) (λ d at. refl) _ _ _ _ s (λ t c n. follow-rest-part _ c) (λ m.
      bind-follows _ _ _ _ s (h.part f s) (λ q c. on-follows (mark marks.Comma) (λ d at. refl) _ _ _ _ c
      (λ t d n. bind-follows _ _ _ _ d (follow-array-parts f turns d) (λ es k. returns-follows _ k))
      (λ m. bind-follows _ _ _ _ c (mark-follows marks.RightBracket c) (λ t d. returns-follows _ d)))))))

  follow-object-parts : (f : Flags) (turns : ℕ) (s : Input) → Runs (λ l. object_parts (i' l) f (plus turns l)) (object_parts i f turns) s
  unfolding object_parts
  follow-object-parts f zero s = fault
  follow-object-parts f (suc turns) s = on-follows (mark marks.RightBrace) (λ d at. refl) _ _ _ _ s (λ t c n. returns-follows _ c) (λ m. bind-follows _ _ _ _ s (h.object_part f s) (λ e c.
      on-follows (mark marks.Comma) (λ d at. refl) _ _ _ _ c
      (λ t d n. bind-follows _ _ _ _ d (follow-object-parts f turns d) (λ es k. returns-follows _ k))
      (λ m. bind-follows _ _ _ _ c (mark-follows marks.RightBrace c) (λ t d. returns-follows _ d))))

  follow-pattern : (f : Flags) (at : ℕ) (s : Input) → Runs (λ l. binding_pattern (i' l) f at) (binding_pattern i f at) s
  unfolding binding_pattern
  follow-pattern f at s = group-follows i i' marks.LeftBracket _ _ _ _ s h.opens
      (λ c. bind-follows _ _ _ _ c (spelled-follows _ (λ l. array_parts (i' l) f (plus i.fuel l)) c (λ l. ap (λ n. array_parts (i' l) f n) (h.fuel l)) (follow-array-parts f i.fuel c)) (λ es d. made-follows _ d (λ _ _ _. refl)))
      (λ m. only-group-follows i i' marks.LeftBrace _ _ s h.opens
      (λ c. bind-follows _ _ _ _ c (spelled-follows _ (λ l. object_parts (i' l) f (plus i.fuel l)) c (λ l. ap (λ n. object_parts (i' l) f n) (h.fuel l)) (follow-object-parts f i.fuel c)) (λ es d. made-follows _ d (λ _ _ _. refl))))

  pub follow-binding : (f : Flags) (s : Input) → Runs (λ l. binding (i' l) f) (binding i f) s
  unfolding binding binding_pattern
  follow-binding f s = from-follows (binding_from i f) (λ l. binding_from (i' l) f) s (λ l place place' d at us last. refl)
      (on-follows free_name (λ d at. refl) _ _ _ _ s (λ name c n. made-follows _ c (λ _ _ _. refl)) (λ m. follow-pattern f _ s))

  initialized-free : (f g : Flags) (l place place' : ℕ) (d : Bool) (at : ℕ) (us : List Filled) (last : ℕ) → initialized_from (i' l) f g place (record { tokens = semi d at ∷ us; last = last }) ≡ initialized_from (i' l) f g place' (record { tokens = semi d at ∷ us; last = last })
  unfolding binding binding_pattern refused
  initialized-free f g l place place' d at us last = refl

  pub follow-initialized : (f g : Flags) (s : Input) → Runs (λ l. initialized (i' l) f g) (initialized i f g) s
  unfolding initialized
  follow-initialized f g s = from-follows (initialized_from i f g) (λ l. initialized_from (i' l) f g) s (initialized-free f g)
      (bind-follows _ _ _ _ s (follow-binding f s) (λ p c. on-follows (mark marks.Assign) (λ d at. refl) _ _ _ _ c
      (λ t d n. bind-follows _ _ _ _ d (h.assignment g d) (λ x k. made-follows _ k (λ _ _ _. refl))) (λ m. made-follows _ c (λ _ _ _. refl))))

  pub follow-part : (f : Flags) (s : Input) → Runs (λ l. one_part (i' l) f) (one_part i f) s
  unfolding one_part
  follow-part f s = follow-initialized f (with_in f) s

  follow-keyed : (f : Flags) (at : ℕ) (k : Key) (s : Input) → Runs (λ l. keyed_part (i' l) f at k) (keyed_part i f at k) s
  unfolding keyed_part
  follow-keyed f at k s = bind-follows _ _ _ _ s (follow-part f s) (λ q c. made-follows _ c (λ _ _ _. refl))

  follow-named : (f : Flags) (at : ℕ) (n : Identifier) (s : Input) → Runs (λ l. named_part (i' l) f at n) (named_part i f at n) s
  unfolding named_part
  follow-named f at n s = on-follows (mark marks.Assign) (λ d at. refl) _ _ _ _ s (λ t c k. bind-follows _ _ _ _ c (h.assignment (with_in f) c) (λ x d. made-follows _ d (λ _ _ _. refl))) (λ m. returns-follows _ s)

  object-part-free : (f : Flags) (l place place' : ℕ) (d : Bool) (at : ℕ) (us : List Filled) (last : ℕ) → object_part_from (i' l) f place (record { tokens = semi d at ∷ us; last = last }) ≡ object_part_from (i' l) f place' (record { tokens = semi d at ∷ us; last = last })
  unfolding key no_number
  object-part-free f l place place' d at us last = refl

  pub follow-object-part : (f : Flags) (s : Input) → Runs (λ l. one_object_part (i' l) f) (one_object_part i f) s
  unfolding one_object_part
  follow-object-part f s = from-follows (object_part_from i f) (λ l. object_part_from (i' l) f) s (object-part-free f)
      (on-follows free_name (λ d at. refl) _ _ _ _ s (λ name c n. bind-follows _ _ _ (λ l n. on (mark marks.Colon) (λ _. keyed_part (i' l) f (begin_of s.tokens) (WordKey n.span n.name)) (named_part (i' l) f (begin_of s.tokens) n)) c (made-at-follows {A = Identifier} (begin_of s.tokens) (λ span. record { span = span; name = name }) c) (λ n d. on-follows (mark marks.Colon) (λ d at. refl) (λ _. keyed_part i f (begin_of s.tokens) (WordKey n.span n.name)) (λ l _. keyed_part (i' l) f (begin_of s.tokens) (WordKey n.span n.name)) (named_part i f (begin_of s.tokens) n) (λ l. named_part (i' l) f (begin_of s.tokens) n) d (λ t k m. follow-keyed f _ _ k) (λ m. follow-named f _ n d)))
      (λ m. bind-follows _ _ _ _ s (follow-key f s) (λ k c. bind-follows _ _ _ _ c (mark-follows marks.Colon c) (λ t d. follow-keyed f _ k d))))

  -- ## Parameters and functions

  follow-more-parameters : (f : Flags) (turns : ℕ) (s : Input) → Runs (λ l. more_parameters (i' l) f (plus turns l)) (more_parameters i f turns) s
  unfolding more_parameters
  follow-more-parameters f zero s = fault
  follow-more-parameters f (suc turns) s = from-follows (more_parameters_from i f (more_parameters i f turns)) (λ l. more_parameters_from (i' l) f (more_parameters (i' l) f (plus turns l))) s (λ l place place' d at us last. refl)
      (on-follows (mark marks.Ellipsis) (λ d at. refl) _ _ _ _ s (λ t c n. bind-follows _ _ _ _ c (follow-rest-parameter _ c) (λ e d. returns-follows _ d))
      (λ m. bind-follows _ _ _ _ s (h.part f s) (λ q c. on-follows (mark marks.Comma) (λ d at. refl) _ _ _ _ c
      (λ t d n. bind-follows _ _ _ _ d (follow-more-parameters f turns d) (λ es k. returns-follows _ k))
      (λ m. bind-follows _ _ _ _ c (mark-follows marks.RightParenthesis c) (λ t d. returns-follows _ d)))))

  follow-parameters : (f : Flags) (s : Input) → Runs (λ l. parameters (i' l) f) (parameters i f) s
  unfolding parameters
  follow-parameters f s = on-follows (mark marks.RightParenthesis) (λ d at. refl) _ _ _ _ s (λ t c n. returns-follows _ c)
      (λ m. spelled-follows _ (λ l. more_parameters (i' l) f (plus i.fuel l)) s (λ l. ap (λ n. more_parameters (i' l) f n) (h.fuel l)) (follow-more-parameters f i.fuel s))

  follow-statements : (f : Flags) (turns : ℕ) (s : Input) → Runs (λ l. statements (i' l) f (plus turns l)) (statements i f turns) s
  unfolding statements
  follow-statements f zero s = fault
  follow-statements f (suc turns) s = on-follows (mark marks.RightBrace) (λ d at. refl) _ _ _ _ s (λ t c n. returns-follows _ c)
      (λ m. bind-follows _ _ _ _ s (h.statement f Listed s) (λ x c. bind-follows _ _ _ _ c (follow-statements f turns c) (λ xs d. returns-follows _ d)))

  follow-braced : (f : Flags) (s : Input) → Runs (λ l. statements (i' l) f (i' l).fuel) (statements i f i.fuel) s
  follow-braced f s = spelled-follows _ (λ l. statements (i' l) f (plus i.fuel l)) s (λ l. ap (λ n. statements (i' l) f n) (h.fuel l)) (follow-statements f i.fuel s)

  pub follow-block : (f : Flags) (s : Input) → Runs (λ l. block (i' l) f) (block i f) s
  unfolding block
  follow-block f s = from-follows (block_from i f) (λ l. block_from (i' l) f) s (λ l place place' d at us last. refl)
      (only-group-follows i i' marks.LeftBrace _ _ s h.opens (λ c. bind-follows _ _ _ _ c (follow-braced f c) (λ ss d. made-follows _ d (λ _ _ _. refl))))

  follow-body : (generator : Bool) (s : Input) → Runs (λ l. function_body (i' l) generator) (function_body i generator) s
  unfolding function_body
  follow-body generator s = only-group-follows i i' marks.LeftBrace _ _ s h.opens (λ c. follow-braced (of_function generator) c)

  follow-signature : (generator : Bool) (s : Input) → Runs (λ l. signature (i' l) generator) (signature i generator) s
  unfolding signature
  follow-signature generator s = bind-follows _ _ _ _ s (only-group-follows i i' marks.LeftParenthesis _ _ s h.opens (λ c. follow-parameters (of_function generator) c)) (λ es c.
      bind-follows _ _ _ _ c (follow-body generator c) (λ ss d. returns-follows _ d))

  follow-rest-of-function : (at : ℕ) (generator : Bool) (name : Option Identifier) (s : Input) → Runs (λ l. rest_of_function (i' l) at generator name) (rest_of_function i at generator name) s
  unfolding rest_of_function
  follow-rest-of-function at generator name s = bind-follows _ _ _ _ s (follow-signature generator s) (λ x c. made-follows _ c (λ _ _ _. refl))

  rest-of-function-stops : (at : ℕ) (generator : Bool) (name : Option Identifier) → StopsAtSemi (λ l. rest_of_function (i' l) at generator name)
  unfolding rest_of_function signature refused
  rest-of-function-stops at generator name l d place us last = fault

  pub follow-named-function : (at : ℕ) (generator : Bool) (s : Input) → Runs (λ l. named_function (i' l) at generator) (named_function i at generator) s
  unfolding named_function
  follow-named-function at generator s = bind-follows _ _ _ _ s (follow-identifier s) (λ n c. follow-rest-of-function at generator (Some n) c)

  pub follow-function : (lacks : Bool) (at : ℕ) (s : Input) → Runs (λ l. function_after_word (i' l) lacks at) (function_after_word i lacks at) s
  unfolding function_after_word
  follow-function lacks at s = bind-follows _ _ _ _ s (follow-star s) (λ generator c. choose-follows lacks _ _ _ _ c
      (λ e. if-follows (next_mark marks.LeftParenthesis) (λ d at. refl) _ _ _ _ c (rest-of-function-stops at generator None) (λ k. follow-rest-of-function at generator None c) (λ k. follow-named-function at generator c))
      (λ e. follow-named-function at generator c))

  -- ## Methods

  method-free : (kind : MethodKind) (generator : Bool) (at : ℕ) (k : Key) (l place place' : ℕ) (d : Bool) (begin : ℕ) (us : List Filled) (last : ℕ) → method_parameters_from (i' l) kind generator at k place (record { tokens = semi d begin ∷ us; last = last }) ≡ method_parameters_from (i' l) kind generator at k place' (record { tokens = semi d begin ∷ us; last = last })
  unfolding signature refused
  method-free kind generator at k l place place' d begin us last = refl

  pub follow-method-after-key : (kind : MethodKind) (generator : Bool) (at : ℕ) (k : Key) (s : Input) → Runs (λ l. method_after_key (i' l) kind generator at k) (method_after_key i kind generator at k) s
  unfolding method_after_key
  follow-method-after-key kind generator at k s = from-follows (method_parameters_from i kind generator at k) (λ l. method_parameters_from (i' l) kind generator at k) s (method-free kind generator at k)
      (bind-follows _ _ _ _ s (follow-signature generator s) (λ x c. bind-follows _ _ _ (λ l y. made at (λ span. method_of span kind k y x.parameters x.body)) c (made-at-follows (begin_of s.tokens) (λ span. span) c) (λ y d. made-follows _ d (λ _ _ _. refl))))

  pub method-after-key-stops : (kind : MethodKind) (generator : Bool) (at : ℕ) (k : Key) → StopsAtSemi (λ l. method_after_key (i' l) kind generator at k)
  unfolding method_after_key signature refused
  method-after-key-stops kind generator at k l d place us last = fault

  follow-accessor-parameters : (setter : Bool) (s : Input) → Runs (λ l. accessor_parameters (i' l) setter) (accessor_parameters i setter) s
  unfolding accessor_parameters one_parameter
  follow-accessor-parameters true s = bind-follows _ _ _ _ s (h.part (of_function false) s) (λ q c. bind-follows _ _ _ _ c (mark-follows marks.RightParenthesis c) (λ t d. returns-follows _ d))
  follow-accessor-parameters false s = follow-no-parameter s

  accessor-free : (at : ℕ) (setter : Bool) (k : Key) (l place place' : ℕ) (d : Bool) (begin : ℕ) (us : List Filled) (last : ℕ) → accessor_parameters_from (i' l) at setter k place (record { tokens = semi d begin ∷ us; last = last }) ≡ accessor_parameters_from (i' l) at setter k place' (record { tokens = semi d begin ∷ us; last = last })
  unfolding refused
  accessor-free at setter k l place place' d begin us last = refl

  pub follow-accessor : (f : Flags) (at : ℕ) (setter : Bool) (s : Input) → Runs (λ l. accessor (i' l) f at setter) (accessor i f at setter) s
  unfolding accessor
  follow-accessor f at setter s = bind-follows _ _ _ _ s (follow-key f s) (λ k c. from-follows (accessor_parameters_from i at setter k) (λ l. accessor_parameters_from (i' l) at setter k) c (accessor-free at setter k)
      (bind-follows _ _ _ _ c (only-group-follows i i' marks.LeftParenthesis _ _ c h.opens (λ d. follow-accessor-parameters setter d)) (λ es d.
      bind-follows _ _ _ _ d (follow-body false d) (λ ss e. bind-follows _ _ _ (λ l y. made at (λ span. method_of span (accessor_kind setter) k y es ss)) e (made-at-follows (begin_of c.tokens) (λ span. span) e) (λ y g. made-follows _ g (λ _ _ _. refl))))))

  pub follow-generator : (f : Flags) (at : ℕ) (s : Input) → Runs (λ l. generator_method (i' l) f at) (generator_method i f at) s
  unfolding generator_method
  follow-generator f at s = bind-follows _ _ _ _ s (follow-key f s) (λ k c. follow-method-after-key GeneratorMethod true at k c)

  follow-accessor-word : (f : Flags) (at : ℕ) (setter : Bool) (s : Input) → Runs (λ l. method_after_accessor_word (i' l) f at setter) (method_after_accessor_word i f at setter) s
  unfolding method_after_accessor_word
  follow-accessor-word f at setter s = bind-follows _ _ _ (λ l k. if_next (next_mark marks.LeftParenthesis) (method_after_key (i' l) PlainMethod false at k) (accessor (i' l) f at setter)) s (made-at-follows at (λ span. WordKey span (accessor_name setter)) s) (λ k c. if-follows (next_mark marks.LeftParenthesis) (λ d at. refl) (method_after_key i PlainMethod false at k) (λ l. method_after_key (i' l) PlainMethod false at k) (accessor i f at setter) (λ l. accessor (i' l) f at setter) c (method-after-key-stops PlainMethod false at k)
      (λ e. follow-method-after-key PlainMethod false at k c) (λ e. follow-accessor f at setter c))

  method-place-free : (f : Flags) (l place place' : ℕ) (d : Bool) (at : ℕ) (us : List Filled) (last : ℕ) → method_from (i' l) f place (record { tokens = semi d at ∷ us; last = last }) ≡ method_from (i' l) f place' (record { tokens = semi d at ∷ us; last = last })
  unfolding key no_number
  method-place-free f l place place' d at us last = refl

  follow-method : (f : Flags) (s : Input) → Runs (λ l. method (i' l) f) (method i f) s
  unfolding method
  follow-method f s = from-follows (method_from i f) (λ l. method_from (i' l) f) s (method-place-free f)
      (on-follows (mark marks.Star) (λ d at. refl) _ _ _ _ s (λ t c n. follow-generator f _ c) (λ m.
      on-follows accessor_at (λ d at. refl) _ _ _ _ s (λ setter c n. follow-accessor-word f _ setter c) (λ m.
      bind-follows _ _ _ _ s (follow-key f s) (λ k c. follow-method-after-key PlainMethod false _ k c))))

  -- ## Classes

  member-free : (f : Flags) (l place place' : ℕ) (d : Bool) (at : ℕ) (us : List Filled) (last : ℕ) → member_from (i' l) f place (record { tokens = semi d at ∷ us; last = last }) ≡ member_from (i' l) f place' (record { tokens = semi d at ∷ us; last = last })
  unfolding method key no_number
  member-free f l place place' d at us last = refl

  follow-static : (f : Flags) (at : ℕ) (s : Input) → Runs (λ l. member_after_static (i' l) f at) (member_after_static i f at) s
  unfolding member_after_static
  follow-static f at s = bind-follows _ _ _ (λ l k. if_next (next_mark marks.LeftParenthesis) (◌>>=◌ (method_after_key (i' l) PlainMethod false at k) (λ m. made at (member_of false m))) (◌>>=◌ (method (i' l) f) (λ m. made at (member_of true m)))) s (made-at-follows at (λ span. WordKey span (codes "static")) s) (λ k c. if-follows (next_mark marks.LeftParenthesis) (λ d at. refl) (◌>>=◌ (method_after_key i PlainMethod false at k) (λ m. made at (member_of false m))) (λ l. ◌>>=◌ (method_after_key (i' l) PlainMethod false at k) (λ m. made at (member_of false m))) (◌>>=◌ (method i f) (λ m. made at (member_of true m))) (λ l. ◌>>=◌ (method (i' l) f) (λ m. made at (member_of true m))) c
      (λ l d place us last. stopped _ (method-after-key-stops PlainMethod false at k l d place us last))
      (λ e. bind-follows _ _ _ _ c (follow-method-after-key PlainMethod false at k c) (λ m d. made-follows _ d (λ _ _ _. refl)))
      (λ e. bind-follows _ _ _ _ c (follow-method f c) (λ m d. made-follows _ d (λ _ _ _. refl))))

  pub follow-member : (f : Flags) (s : Input) → Runs (λ l. one_member (i' l) f) (one_member i f) s
  unfolding one_member
  follow-member f s = from-follows (member_from i f) (λ l. member_from (i' l) f) s (member-free f)
      (on-follows (word (codes "static")) (λ d at. refl) _ _ _ _ s (λ t c n. follow-static f _ c) (λ m. bind-follows _ _ _ _ s (follow-method f s) (λ x c. made-follows _ c (λ _ _ _. refl))))

  follow-members : (f : Flags) (turns : ℕ) (s : Input) → Runs (λ l. members (i' l) f (plus turns l)) (members i f turns) s
  unfolding members
  follow-members f zero s = fault
  follow-members f (suc turns) s = on-follows (mark marks.RightBrace) (λ d at. refl) _ _ _ _ s (λ t c n. returns-follows _ c) (λ m.
      on-follows (mark marks.Semicolon) (λ d at. refl) _ _ _ _ s (λ t c n. follow-members f turns c) (λ m.
      bind-follows _ _ _ _ s (h.member f s) (λ x c. bind-follows _ _ _ _ c (follow-members f turns c) (λ xs d. returns-follows _ d))))

  follow-heritage : (f : Flags) (s : Input) → Runs (λ l. heritage (i' l) f) (heritage i f) s
  unfolding heritage
  follow-heritage f s = on-follows (word (codes "extends")) (λ d at. refl) _ _ _ _ s (λ t c n. bind-follows _ _ _ _ c (h.heritage f c) (λ x d. returns-follows _ d)) (λ m. returns-follows _ s)

  follow-rest-of-class : (f : Flags) (at : ℕ) (name : Option Identifier) (s : Input) → Runs (λ l. rest_of_class (i' l) f at name) (rest_of_class i f at name) s
  unfolding rest_of_class
  follow-rest-of-class f at name s = bind-follows _ _ _ _ s (follow-heritage f s) (λ x c. bind-follows _ _ _ _ c
      (only-group-follows i i' marks.LeftBrace _ _ c h.opens (λ d. spelled-follows _ (λ l. members (i' l) f (plus i.fuel l)) d (λ l. ap (λ n. members (i' l) f n) (h.fuel l)) (follow-members f i.fuel d)))
      (λ ms d. made-follows _ d (λ _ _ _. refl)))

  rest-of-class-stops : (f : Flags) (at : ℕ) (name : Option Identifier) → StopsAtSemi (λ l. rest_of_class (i' l) f at name)
  unfolding rest_of_class heritage refused
  rest-of-class-stops f at name l d place us last = fault

  follow-named-class : (f : Flags) (at : ℕ) (s : Input) → Runs (λ l. named_class (i' l) f at) (named_class i f at) s
  unfolding named_class
  follow-named-class f at s = bind-follows _ _ _ _ s (follow-identifier s) (λ n c. follow-rest-of-class f at (Some n) c)

  pub follow-class : (f : Flags) (lacks : Bool) (at : ℕ) (s : Input) → Runs (λ l. class_after_word (i' l) f lacks at) (class_after_word i f lacks at) s
  unfolding class_after_word
  follow-class f lacks at s = choose-follows lacks _ _ _ _ s
      (λ e. if-follows begins_class_tail (λ d at. refl) _ _ _ _ s (rest-of-class-stops f at None) (λ k. follow-rest-of-class f at None s) (λ k. follow-named-class f at s))
      (λ e. follow-named-class f at s)

  -- ## Templates

  follow-template-parts : (f : Flags) (turns : ℕ) (s : Input) → Runs (λ l. template_parts (i' l) f (plus turns l)) (template_parts i f turns) s
  unfolding template_parts
  follow-template-parts f zero s = fault
  follow-template-parts f (suc turns) s = bind-follows _ _ _ _ s (h.sequence (with_in f) s) (λ x c. on-follows (stretch_at false true) (λ d at. refl) _ _ _ _ c (λ r d n. returns-follows _ d)
      (λ m. bind-follows _ _ _ _ c (take-follows (stretch_at false false) (λ d at. refl) c) (λ r d. bind-follows _ _ _ _ d (follow-template-parts f turns d) (λ ms k. returns-follows _ k))))

  follow-parted : (f : Flags) (at : ℕ) (r : Stretch) (s : Input) → Runs (λ l. parted_template (i' l) f at r) (parted_template i f at r) s
  unfolding parted_template
  follow-parted f at r s = bind-follows _ _ _ _ s (spelled-follows _ (λ l. template_parts (i' l) f (plus i.fuel l)) s (λ l. ap (λ n. template_parts (i' l) f n) (h.fuel l)) (follow-template-parts f i.fuel s)) (λ ms c. made-follows _ c (λ _ _ _. refl))

  pub template-follows : {A : Type 0} (f : Flags) (at : ℕ) (p : Template → Parser A) (p' : ℕ → Template → Parser A) (q : Parser A) (q' : ℕ → Parser A) (s : Input) → ((m : Template) (c : Input) → Holds (Followed (λ l. p' l m) c) (p m c)) → Holds (Followed q' s) (q s)
      → Holds (Followed (λ l. on_template (i' l) f at (p' l) (q' l)) s) (on_template i f at p q s)
  template-follows f at p p' q q' s k g = on-follows (stretch_at true true) (λ d at. refl) _ _ _ _ s (λ r c n. bind-follows _ _ p p' c (made-at-follows at (λ span. roll-Template (record { span = span; first = r; rest = [] })) c) (λ m d. k m d)) (λ m.
      opening-follows i i' (stretch_at true false) (λ d at. refl) _ (λ l r. ◌>>=◌ (parted_template (i' l) f at r) (p' l)) q q' s h.opens (λ r c n. bind-follows _ _ _ _ c (follow-parted f at r c) (λ m d. k m d)) g)
