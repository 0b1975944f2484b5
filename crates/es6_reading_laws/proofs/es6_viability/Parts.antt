-- Names, patterns, functions and classes can be completed wherever their readers stop.
use Rattle.std.specs.Prelude.{codes, is_some}
use Rattle.std.proofs.Common.{◌≡◌, ℕ, suc, Bool, true, false, List, [], ◌∷◌, Option, Some, None, ap, refl}
use Rattle.std.proofs.lemmas.Bool.{false≢true}
use Rattle.es_text.specs.declared.Span.{Span}
use Rattle.es6_lexer.specs.declared.token.TokenKind.TheVariants.{Word, Punctuator, Template, End}
use Rattle.es6_lexer.specs.declared.token.Punctuator.{Punctuator as Mark}
use Rattle.es6_lexer.specs.declared.token.Punctuator.TheVariants as marks
use Rattle.es6_ast.specs.declared.operators.MethodKind.{MethodKind}
use Rattle.es6_ast.specs.declared.settings.Flags.{Flags}
use Rattle.es6_ast.specs.declared.settings.Stand.TheVariants.{Listed}
use Rattle.es6_ast.specs.declared.tree.Identifier.{Identifier}
use Rattle.es6_ast.specs.declared.tree.Key.{Key}
use Rattle.es6_ast.specs.declared.tree.Stretch.{Stretch}
use Rattle.es6_ast.specs.declared.tree.Template.{Template as Template'}
use Rattle.es6_ast.specs.Tokens.{Filled, Read}
use Rattle.es6_ast.specs.Grammar.{with_in, of_function}
use Rattle.es6_reading.specs.Parser as p
use Rattle.es6_reading.specs.Parser.{Input, Outcome, Took, Parser, returns, mark, word, next_is, next_mark, take_as, Inner, semicolon}
use Rattle.es6_reading.specs.Words.{free_name, any_name, key_at, WordToken, stretch_at, stretch_in}
use Rattle.es6_reading.specs.Parts as t6
use Rattle.es6_reading.proofs.FollowParts as parts'
use Rattle.es6_reading.proofs.Locality.{Turns, over, turn}
use Rattle.es6_reading_laws.proofs.es6_viability.Viable.{Limit, put, Head, head, Any, Anything, Viable, Partly, past, done, done-ok, rests, nowhere, number, bind, bind-half, fresh-bind, may, must, fresh-may, fresh-must, half-on, take, either, looks-no, looks-yes, half-looks, begins, half-group, half-group-in, half-opening, group-must, group-must-in, endless, head-place, half-mode, half-insertable, on-head, finished, begins-fresh, anywhere}
use Rattle.es6_reading.proofs.Posts.{Misses}
use Rattle.es6_reading_laws.proofs.es6_viability.Completions.{x_, Free, Closer, parenthesis, bracket, brace, semicolon as semicolon_follows, colon, tail, After, closes, opening, HasDefault, Better, inside, opened, Behind, behind_brace, no-initializer, x-free}

abbrev tail-stretch : Span → Stretch
tail-stretch span = record { span = span; cooked = []; raw = [] }

pub brace-behind : {A : Type 0} (y : A) (us : List Filled) → Head (Punctuator marks.RightBrace) us → Behind us
brace-behind y us head = behind_brace

pub closing : {A : Type 0} (y : A) (us : List Filled) → Head (Punctuator marks.RightParenthesis) us → Closer false us
closing y us head = parenthesis

pub bracket-closes : {A : Type 0} (y : A) (us : List Filled) → Head (Punctuator marks.RightBracket) us → Closer false us
bracket-closes y us head = bracket

pub brace-closes : {A : Type 0} (y : A) (us : List Filled) → Head (Punctuator marks.RightBrace) us → Closer false us
brace-closes y us head = brace

pub semicolon-closes : {A : Type 0} (y : A) (us : List Filled) → Head (Punctuator marks.Semicolon) us → Closer false us
semicolon-closes y us head = semicolon_follows

pub colon-closes : {A : Type 0} (y : A) (us : List Filled) → Head (Punctuator marks.Colon) us → Closer false us
colon-closes y us head = colon

pub tail-closes : {A : Type 0} (y : A) (us : List Filled) → Head (Template [] [] false true) us → Closer false us
tail-closes y us head = tail

pub brace-after : {A : Type 0} (y : A) (us : List Filled) → Head (Punctuator marks.LeftBrace) us → After us
brace-after y us head = closes opening

pub identifier : {lim : Limit} (s : Input) → Viable lim Free Any (λ us. Head x_ us) t6.identifier t6.identifier s
unfolding t6.identifier
identifier s = begins parts'.identifier_from parts'.identifier_from s head-place (λ place. bind _ _ (take {F = Free} free_name x_ (λ span. codes "x") x-free s) (λ x c. done) (λ y us t. tt))

pub any-name : {lim : Limit} (s : Input) → Viable lim Free Any (λ us. Head x_ us) t6.name_of_any_kind t6.name_of_any_kind s
unfolding t6.name_of_any_kind
any-name s = begins parts'.any_name_from parts'.any_name_from s head-place (λ place. bind _ _ (take {F = Free} any_name x_ (λ span. codes "x") (λ span. refl) s) (λ x c. done) (λ y us t. tt))

pub take-mark : {lim : Limit} {F : Filled → List Filled → Type 0} (m : Mark) → ((span : Span) → mark m (put (Punctuator m) span) ≡ Some (put (Punctuator m) span)) → (s : Input) → Viable lim F Any (λ us. Head (Punctuator m) us) (take_as (mark m)) (take_as (mark m)) s
take-mark m e s = take (mark m) (Punctuator m) (put (Punctuator m)) e s

pub take-word : {lim : Limit} {F : Filled → List Filled → Type 0} (w : List ℕ) → ((span : Span) → word w (put (Word w) span) ≡ Some (put (Word w) span)) → (s : Input) → Viable lim F Any (λ us. Head (Word w) us) (take_as (word w)) (take_as (word w)) s
take-word w e s = take (word w) (Word w) (put (Word w)) e s

rest-part : {lim : Limit} (at : ℕ) (s : Input) → Viable lim Free Any (λ us. Head x_ us) (t6.rest_part at) (t6.rest_part at) s
unfolding t6.rest_part
rest-part at s = bind _ _ (identifier s) (λ x c. bind _ _ (take-mark {F = Free} marks.RightBracket (λ span. refl) c) (λ t d. done) (λ y us t. tt)) (λ y us t. tt)

rest-parameter : {lim : Limit} (at : ℕ) (s : Input) → Viable lim Free Any (λ us. Head x_ us) (t6.rest_parameter at) (t6.rest_parameter at) s
unfolding t6.rest_parameter
rest-parameter at s = bind _ _ (identifier s) (λ x c. bind _ _ (take-mark {F = Free} marks.RightParenthesis (λ span. refl) c) (λ t d. done) (λ y us t. tt)) (λ y us t. tt)

no-parameter : {lim : Limit} (s : Input) → Viable lim Free Any (λ us. Head (Punctuator marks.RightParenthesis) us) t6.no_parameter t6.no_parameter s
unfolding t6.no_parameter
no-parameter s = bind _ _ (take-mark {F = Free} marks.RightParenthesis (λ span. refl) s) (λ t c. done) (λ y us t. tt)

abbrev NoStar : Bool → List Filled → Type 0
NoStar y us = Misses (mark marks.Star) us

star : {lim : Limit} (s : Input) → Viable lim NoStar Any (λ us. Misses (mark marks.Star) us) t6.star t6.star s
unfolding t6.star
star s = may _ _ _ _ _ s (λ t c. past done) done (λ us h. h)

-- ## Semicolons

pub semicolon_ : {lim : Limit} (i j : Inner) → j.inserting ≡ i.inserting → (s : Input) → Viable lim Free Any (λ us. Head (Punctuator marks.Semicolon) us) (semicolon i) (semicolon j) s
unfolding semicolon
semicolon_ i j e s = must _ (Punctuator marks.Semicolon) (put (Punctuator marks.Semicolon)) (λ span. refl) _ _ _ _ s (λ t c. done) (half-mode i.inserting j.inserting e _ _ s (half-insertable _ _ _ _ s rests (nowhere s)))

pub do-while-end : {lim : Limit} (i j : Inner) → j.inserting ≡ i.inserting → (s : Input) → Viable lim Free Any (λ us. Head (Punctuator marks.Semicolon) us) (p.semicolon_of_do_while i) (p.semicolon_of_do_while j) s
unfolding p.semicolon_of_do_while
do-while-end i j e s = must _ (Punctuator marks.Semicolon) (put (Punctuator marks.Semicolon)) (λ span. refl) _ _ _ _ s (λ t c. done) (half-mode i.inserting j.inserting e _ _ s (half-looks _ _ _ _ _ s rests (nowhere s)))

no-stretch : (t : Filled) → t.kind ≡ Read End → is_some (stretch_at true false t) ≡ false
no-stretch t e = ap (λ k. is_some (stretch_in true false t.span k)) e

known-some : {A : Type 0} (o : Option A) → is_some o ≡ true → (x : A) × (o ≡ Some x)
known-some (Some x) e = (x, refl)
known-some None e = absurd (false≢true e)

module _ {lim : Limit} {l : ℕ} (i j : Inner) (h : Better lim l i j) where
  pub key : (f : Flags) (s : Input) → Viable lim Free Any (λ us. Head x_ us) (t6.key i f) (t6.key j f) s
  unfolding t6.key t6.computed_key
  key f s = begins (parts'.key_from i f) (parts'.key_from j f) s head-place (λ place. must key_at x_ (λ span. WordToken (codes "x")) (λ span. refl) _ _ _ _ s (λ k c. done)
      (half-group i j h.opens marks.LeftBracket _ _ _ _ s (λ c. bind _ _ (h.assignment (with_in f) c) (λ x d. bind _ _ (take-mark {F = Free} marks.RightBracket (λ span. refl) d) (λ t k. done) (λ y us t. tt)) bracket-closes) (number s)))

  array-parts : (f : Flags) {n m : ℕ} (w : Turns (suc l) n m) (s : Input) → Viable (inside lim i.may_open) Free Any (λ us. Head (Punctuator marks.RightBracket) us) (t6.array_parts i f n) (t6.array_parts j f m) s
  unfolding t6.array_parts
  array-parts f over s = endless (λ n. record { more = Punctuator marks.RightBracket ∷ []; value = []; last = suc n; ok = tt; reads = λ us h a. refl; starts = λ us h. head })
  array-parts f (turn {n = n} {m = m} w) s = begins (parts'.array_parts_from i f (t6.array_parts i f n)) (parts'.array_parts_from j f (t6.array_parts j f m)) s head-place (λ place.
      must (mark marks.RightBracket) (Punctuator marks.RightBracket) (put (Punctuator marks.RightBracket)) (λ span. refl) _ _ _ _ s (λ t c. done)
      (half-on _ _ _ _ _ s (λ t c. past (bind _ _ (array-parts f w c) (λ x d. done) (λ y us t. tt)))
      (half-on _ _ _ _ _ s (λ t c. past (rest-part _ c))
      (bind-half _ _ (h.part f s).half (λ q c. may _ _ _ _ _ c (λ t d. past (bind _ _ (array-parts f w d) (λ x k. done) (λ y us t. tt))) (bind _ _ (take-mark {F = Free} marks.RightBracket (λ span. refl) c) (λ t d. done) (λ y us t. tt)) (on-head _ (λ span us. refl))) bracket-closes))))

  object-parts : (f : Flags) {n m : ℕ} (w : Turns (suc l) n m) (s : Input) → Viable (inside lim i.may_open) Free Any (λ us. Head (Punctuator marks.RightBrace) us) (t6.object_parts i f n) (t6.object_parts j f m) s
  unfolding t6.object_parts
  object-parts f over s = endless (λ n. record { more = Punctuator marks.RightBrace ∷ []; value = []; last = suc n; ok = tt; reads = λ us h a. refl; starts = λ us h. head })
  object-parts f (turn w) s = must (mark marks.RightBrace) (Punctuator marks.RightBrace) (put (Punctuator marks.RightBrace)) (λ span. refl) _ _ _ _ s (λ t c. done)
      (bind-half _ _ (h.object_part f s).half (λ q c. may _ _ _ _ _ c (λ t d. past (bind _ _ (object-parts f w d) (λ x k. done) (λ y us t. tt))) (bind _ _ (take-mark {F = Free} marks.RightBrace (λ span. refl) c) (λ t d. done) (λ y us t. tt)) (on-head _ (λ span us. refl))) (λ y us t. t))

  binding-pattern : (f : Flags) (at : ℕ) (s : Input) → Partly lim Free Any (t6.binding_pattern i f at) (t6.binding_pattern j f at) s
  unfolding t6.binding_pattern
  binding-pattern f at s = half-group-in i j h.opens (λ n a. a) (opened lim.shallow i.may_open) marks.LeftBracket _ _ _ _ s (λ c. bind _ _ (array-parts f h.turns c) (λ x d. done) (λ y us t. tt))
      (half-group-in i j h.opens (λ n a. a) (opened lim.shallow i.may_open) marks.LeftBrace _ _ _ _ s (λ c. bind _ _ (object-parts f h.turns c) (λ x d. done) (λ y us t. tt)) (nowhere s))

  pub binding : (f : Flags) (s : Input) → Viable lim Free Any (λ us. Head x_ us) (t6.binding i f) (t6.binding j f) s
  unfolding t6.binding
  binding f s = begins (parts'.binding_from i f) (parts'.binding_from j f) s head-place (λ place. must free_name x_ (λ span. codes "x") x-free _ _ _ _ s (λ name c. done) (binding-pattern f _ s))

  -- without a default, and with one
  initialized : (f g : Flags) (s : Input) → Viable lim (λ y us. Closer false us) Any (λ us. Head x_ us) (t6.initialized i f g) (t6.initialized j f g) s
  unfolding t6.initialized
  initialized f g s = begins (parts'.initialized_from i f g) (parts'.initialized_from j f g) s head-place (λ place. bind _ _ (binding f s) (λ y c. may _ _ _ _ _ c (λ t d. past (bind _ _ (h.assignment g d) (λ x k. done) (λ y us t. t))) done no-initializer) (λ y us t. tt))

  pub with-default : (f g : Flags) (s : Input) → Viable lim (λ y us. Closer false us) HasDefault (λ us. Head x_ us) (t6.initialized i f g) (t6.initialized j f g) s
  unfolding t6.initialized
  with-default f g s = begins (parts'.initialized_from i f g) (parts'.initialized_from j f g) s head-place (λ place.
      bind _ _ (binding f s) (λ y c. must (mark marks.Assign) (Punctuator marks.Assign) (put (Punctuator marks.Assign)) (λ span. refl) _ _ _ _ c (λ t d. bind _ _ (h.assignment g d) (λ x k. done-ok refl) (λ y us t. t)) rests) (λ y us t. tt))

  pub one-part : (f : Flags) (s : Input) → Viable lim (λ y us. Closer false us) Any (λ us. Head x_ us) (t6.one_part i f) (t6.one_part j f) s
  unfolding t6.one_part
  one-part f s = initialized f (with_in f) s

  keyed-part : (f : Flags) (at : ℕ) (k : Key) (s : Input) → Viable lim (λ y us. Head (Punctuator marks.RightBrace) us) Any (λ us. Head x_ us) (t6.keyed_part i f at k) (t6.keyed_part j f at k) s
  unfolding t6.keyed_part
  keyed-part f at k s = bind _ _ (one-part f s) (λ q c. done) brace-closes

  named-part : (f : Flags) (at : ℕ) (n : Identifier) (s : Input) → Viable lim (λ y us. Head (Punctuator marks.RightBrace) us) Any (λ us. Head (Punctuator marks.RightBrace) us) (t6.named_part i f at n) (t6.named_part j f at n) s
  unfolding t6.named_part
  named-part f at n s = may _ _ _ _ _ s (λ t c. past (bind _ _ (h.assignment (with_in f) c) (λ x d. done) brace-closes)) done (on-head _ (λ span us. refl))

  pub object-part : (f : Flags) (s : Input) → Viable lim (λ y us. Head (Punctuator marks.RightBrace) us) Any (λ us. Head x_ us) (t6.one_object_part i f) (t6.one_object_part j f) s
  unfolding t6.one_object_part
  object-part f s = begins (parts'.object_part_from i f) (parts'.object_part_from j f) s head-place (λ place. must free_name x_ (λ span. codes "x") x-free _ _ _ _ s
      (λ name c. may _ _ _ _ _ c (λ t d. past (keyed-part f _ _ d)) (named-part f _ _ c) (on-head _ (λ span us. refl)))
      (bind-half _ _ (key f s).half (λ k c. bind _ _ (take-mark {F = Free} marks.Colon (λ span. refl) c) (λ t d. keyed-part f _ k d) (λ y us t. tt)) (λ y us t. tt)))

  more-parameters : (f : Flags) {n m : ℕ} (w : Turns (suc l) n m) (s : Input) → Viable (inside lim i.may_open) Free Any (λ us. Head x_ us) (t6.more_parameters i f n) (t6.more_parameters j f m) s
  unfolding t6.more_parameters
  more-parameters f over s = endless (begins-fresh (parts'.more_parameters_from j f (t6.more_parameters j f l)) s.last head-place (λ place. fresh-may (mark marks.Ellipsis) _ _ s.last
      (fresh-bind _ (λ q last u. fresh-may (mark marks.Comma) _ _ last (fresh-bind _ (λ t k v. finished) (λ y us v z. tt) (take-mark {lim = lim} {F = Free} marks.RightParenthesis (λ span. refl) (record { tokens = []; last = last })).fresh) (on-head _ (λ span us. refl))) (λ y us v z. closing y us z) (h.part f s).fresh)
      (on-head _ (λ span us. refl))))
  more-parameters f (turn {n = n} {m = m} w) s = begins (parts'.more_parameters_from i f (t6.more_parameters i f n)) (parts'.more_parameters_from j f (t6.more_parameters j f m)) s head-place (λ place. may _ _ _ _ _ s (λ t c. past (bind _ _ (rest-parameter _ c) (λ x d. done) (λ y us t. tt)))
      (bind _ _ (h.part f s) (λ q c. may _ _ _ _ _ c (λ t d. past (bind _ _ (more-parameters f w d) (λ x k. done) (λ y us t. tt))) (bind _ _ (take-mark {F = Free} marks.RightParenthesis (λ span. refl) c) (λ t d. done) (λ y us t. tt)) (on-head _ (λ span us. refl))) closing)
      (on-head _ (λ span us. refl)))

  parameters : (f : Flags) (s : Input) → Viable (inside lim i.may_open) Free Any (λ us. Head (Punctuator marks.RightParenthesis) us) (t6.parameters i f) (t6.parameters j f) s
  unfolding t6.parameters
  parameters f s = must (mark marks.RightParenthesis) (Punctuator marks.RightParenthesis) (put (Punctuator marks.RightParenthesis)) (λ span. refl) _ _ _ _ s (λ t c. done) (more-parameters f h.turns s).half

  statements : (f : Flags) {n m : ℕ} (w : Turns (suc l) n m) (s : Input) → Viable lim Free Any (λ us. Head (Punctuator marks.RightBrace) us) (t6.statements i f n) (t6.statements j f m) s
  unfolding t6.statements
  statements f over s = endless (λ n. record { more = Punctuator marks.RightBrace ∷ []; value = []; last = suc n; ok = tt; reads = λ us h a. refl; starts = λ us h. head })
  statements f (turn w) s = must (mark marks.RightBrace) (Punctuator marks.RightBrace) (put (Punctuator marks.RightBrace)) (λ span. refl) _ _ _ _ s (λ t c. done)
      (bind-half _ _ (h.statement f Listed s).half (λ x c. bind _ _ (statements f w c) (λ y d. done) (λ y us t. tt)) brace-behind)

  pub block : (f : Flags) (s : Input) → Viable lim Free Any (λ us. Head (Punctuator marks.LeftBrace) us) (t6.block i f) (t6.block j f) s
  unfolding t6.block
  block f s = begins (parts'.block_from i f) (parts'.block_from j f) s head-place (λ place. group-must i j h.opens marks.LeftBrace (λ span. refl) _ _ _ _ s (λ c. bind _ _ (statements f h.turns c) (λ x d. done) (λ y us t. tt)) (nowhere s))

  function-body : (generator : Bool) (s : Input) → Viable lim Free Any (λ us. Head (Punctuator marks.LeftBrace) us) (t6.function_body i generator) (t6.function_body j generator) s
  unfolding t6.function_body
  function-body generator s = group-must i j h.opens marks.LeftBrace (λ span. refl) _ _ _ _ s (λ c. statements (of_function generator) h.turns c) (nowhere s)

  signature : (generator : Bool) (s : Input) → Viable lim Free Any (λ us. Head (Punctuator marks.LeftParenthesis) us) (t6.signature i generator) (t6.signature j generator) s
  unfolding t6.signature
  signature generator s = bind _ _ (group-must-in i j h.opens (λ n a. a) (opened lim.shallow i.may_open) marks.LeftParenthesis (λ span. refl) _ _ _ _ s (λ c. parameters (of_function generator) c) (nowhere s)) (λ x c. bind _ _ (function-body generator c) (λ y d. done) (λ y us t. tt)) (λ y us t. tt)

  rest-of-function : (at : ℕ) (generator : Bool) (name : Option Identifier) (s : Input) → Viable lim Free Any (λ us. Head (Punctuator marks.LeftParenthesis) us) (t6.rest_of_function i at generator name) (t6.rest_of_function j at generator name) s
  unfolding t6.rest_of_function
  rest-of-function at generator name s = bind _ _ (signature generator s) (λ x c. done) (λ y us t. tt)

  pub named-function : (at : ℕ) (generator : Bool) (s : Input) → Viable lim Free Any (λ us. Head x_ us) (t6.named_function i at generator) (t6.named_function j at generator) s
  unfolding t6.named_function
  named-function at generator s = bind _ _ (identifier s) (λ n c. rest-of-function at generator (Some n) c) (λ y us t. tt)

  pub function : (lacks : Bool) (at : ℕ) (s : Input) → Viable lim Free Any (λ us. Misses (mark marks.Star) us) (t6.function_after_word i lacks at) (t6.function_after_word j lacks at) s
  unfolding t6.function_after_word
  function lacks at s = bind _ _ (star s) (λ generator c. either lacks _ _ _ _ c (looks-no _ _ _ _ _ c (rest-of-function at generator None c).half (named-function at generator c) (on-head _ (λ span us. refl))) (named-function at generator c)) (λ y us k. on-head (λ us. Misses (mark marks.Star) us) (λ span us. refl) us k)

  pub method-after-key : (kind : MethodKind) (generator : Bool) (at : ℕ) (k : Key) (s : Input) → Viable lim Free Any (λ us. Head (Punctuator marks.LeftParenthesis) us) (t6.method_after_key i kind generator at k) (t6.method_after_key j kind generator at k) s
  unfolding t6.method_after_key
  method-after-key kind generator at k s = begins (parts'.method_parameters_from i kind generator at k) (parts'.method_parameters_from j kind generator at k) s head-place (λ place. bind _ _ (signature generator s) (λ x c. done) (λ y us t. tt))

  accessor-parameters : (setter : Bool) (s : Input) → Viable (inside lim i.may_open) Free Any Anything (t6.accessor_parameters i setter) (t6.accessor_parameters j setter) s
  unfolding t6.one_parameter t6.accessor_parameters
  accessor-parameters true s = anywhere (bind _ _ (h.part (of_function false) s) (λ q c. bind _ _ (take-mark {F = Free} marks.RightParenthesis (λ span. refl) c) (λ t d. done) (λ y us t. tt)) closing)
  accessor-parameters false s = anywhere (no-parameter s)

  pub accessor : (f : Flags) (at : ℕ) (setter : Bool) (s : Input) → Viable lim Free Any (λ us. Head x_ us) (t6.accessor i f at setter) (t6.accessor j f at setter) s
  unfolding t6.accessor
  accessor f at setter s = bind _ _ (key f s) (λ k c. begins (parts'.accessor_parameters_from i at setter k) (parts'.accessor_parameters_from j at setter k) c head-place (λ place. bind _ _ (group-must-in i j h.opens (λ n a. a) (opened lim.shallow i.may_open) marks.LeftParenthesis (λ span. refl) _ _ _ _ c (λ d. accessor-parameters setter d) (nowhere c)) (λ x d. bind _ _ (function-body false d) (λ y m. done) (λ y us t. tt)) (λ y us t. tt))) (λ y us t. tt)

  pub generator-method : (f : Flags) (at : ℕ) (s : Input) → Viable lim Free Any (λ us. Head x_ us) (t6.generator_method i f at) (t6.generator_method j f at) s
  unfolding t6.generator_method
  generator-method f at s = bind _ _ (key f s) (λ k c. method-after-key _ true at k c) (λ y us t. tt)

  accessor-word : (f : Flags) (at : ℕ) (setter : Bool) (s : Input) → Viable lim Free Any (λ us. Head (Punctuator marks.LeftParenthesis) us) (t6.method_after_accessor_word i f at setter) (t6.method_after_accessor_word j f at setter) s
  unfolding t6.method_after_accessor_word
  accessor-word f at setter s = looks-yes _ _ _ _ _ s (method-after-key _ false at _ s) (accessor f at setter s).half (on-head _ (λ span us. refl))

  method : (f : Flags) (s : Input) → Viable lim Free Any (λ us. Head x_ us) (t6.method i f) (t6.method j f) s
  unfolding t6.method
  method f s = begins (parts'.method_from i f) (parts'.method_from j f) s head-place (λ place. may _ _ _ _ _ s (λ t c. past (generator-method f _ c)) (may _ _ _ _ _ s (λ setter c. past (accessor-word f _ setter c)) (bind _ _ (key f s) (λ k c. method-after-key _ false _ k c) (λ y us t. tt)) (on-head _ (λ span us. refl))) (on-head _ (λ span us. refl)))

  pub member : (f : Flags) (s : Input) → Viable lim Free Any (λ us. Head x_ us) (t6.one_member i f) (t6.one_member j f) s
  unfolding t6.one_member t6.member_after_static
  member f s = begins (parts'.member_from i f) (parts'.member_from j f) s head-place (λ place. may _ _ _ _ _ s (λ t c. past (looks-yes _ _ _ _ _ c (bind _ _ (method-after-key _ false _ _ c) (λ m d. done) (λ y us t. tt)) (bind-half _ _ (method f c).half (λ m d. done) (λ y us t. tt)) (on-head _ (λ span us. refl)))) (bind _ _ (method f s) (λ m c. done) (λ y us t. tt)) (on-head _ (λ span us. refl)))

  members : (f : Flags) {n m : ℕ} (w : Turns (suc l) n m) (s : Input) → Viable (inside lim i.may_open) Free Any (λ us. Head (Punctuator marks.RightBrace) us) (t6.members i f n) (t6.members j f m) s
  unfolding t6.members
  members f over s = endless (λ n. record { more = Punctuator marks.RightBrace ∷ []; value = []; last = suc n; ok = tt; reads = λ us h a. refl; starts = λ us h. head })
  members f (turn w) s = must (mark marks.RightBrace) (Punctuator marks.RightBrace) (put (Punctuator marks.RightBrace)) (λ span. refl) _ _ _ _ s (λ t c. done) (half-on _ _ _ _ _ s (λ t c. past (members f w c)) (bind-half _ _ (h.member f s).half (λ m c. bind _ _ (members f w c) (λ ms d. done) (λ y us t. tt)) (λ y us t. tt)))

  heritage : (f : Flags) (s : Input) → Viable lim (λ y us. Head (Punctuator marks.LeftBrace) us) Any (λ us. Head (Punctuator marks.LeftBrace) us) (t6.heritage i f) (t6.heritage j f) s
  unfolding t6.heritage
  heritage f s = may _ _ _ _ _ s (λ t c. past (bind _ _ (h.heritage f c) (λ x d. done) brace-after)) done (on-head _ (λ span us. refl))

  rest-of-class : (f : Flags) (at : ℕ) (name : Option Identifier) (s : Input) → Viable lim Free Any (λ us. Head (Punctuator marks.LeftBrace) us) (t6.rest_of_class i f at name) (t6.rest_of_class j f at name) s
  unfolding t6.rest_of_class
  rest-of-class f at name s = bind _ _ (heritage f s) (λ x c. bind _ _ (group-must-in i j h.opens (λ n a. a) (opened lim.shallow i.may_open) marks.LeftBrace (λ span. refl) _ _ _ _ c (λ d. members f h.turns d) (nowhere c)) (λ ms d. done) (λ y us t. tt)) (λ y us t. t)

  named-class : (f : Flags) (at : ℕ) (s : Input) → Viable lim Free Any (λ us. Head x_ us) (t6.named_class i f at) (t6.named_class j f at) s
  unfolding t6.named_class
  named-class f at s = bind _ _ (identifier s) (λ n c. rest-of-class f at (Some n) c) (λ y us t. tt)

  pub class : (f : Flags) (lacks : Bool) (at : ℕ) (s : Input) → Viable lim Free Any (λ us. Head x_ us) (t6.class_after_word i f lacks at) (t6.class_after_word j f lacks at) s
  unfolding t6.class_after_word
  class f lacks at s = either lacks _ _ _ _ s (looks-no _ _ _ _ _ s (rest-of-class f at None s).half (named-class f at s) (on-head _ (λ span us. refl))) (named-class f at s)

  template-parts : (f : Flags) {n m : ℕ} (w : Turns (suc l) n m) (s : Input) → Viable lim Free Any (λ us. Head x_ us) (t6.template_parts i f n) (t6.template_parts j f m) s
  unfolding t6.template_parts
  template-parts f over s = endless (fresh-bind _ (λ x last u. fresh-must (stretch_at false true) (Template [] [] false true) tail-stretch (λ span. refl) _ _ last (λ n. finished)) (λ y us u z. tail-closes y us z) (h.sequence (with_in f) s).fresh)
  template-parts f (turn w) s = bind _ _ (h.sequence (with_in f) s) (λ x c. must (stretch_at false true) (Template [] [] false true) tail-stretch (λ span. refl) _ _ _ _ c (λ r d. done)
      (bind-half _ _ (half-on {F = Free} {P = Any} _ _ _ _ _ c (λ r d. past done) (nowhere c)) (λ r d. bind _ _ (template-parts f w d) (λ ms k. done) (λ y us t. tt)) (λ y us t. tt))) tail-closes

  parted : (f : Flags) (at : ℕ) (r : Stretch) (s : Input) → Viable lim Free Any (λ us. Head x_ us) (t6.parted_template i f at r) (t6.parted_template j f at r) s
  unfolding t6.parted_template
  parted f at r s = bind _ _ (template-parts f h.turns s) (λ ms c. done) (λ y us t. tt)

  pub half-template : {A : Type 0} {F : A → List Filled → Type 0} {P : A → Type 0} {S : Template' → List Filled → Type 0} (f : Flags) (at : ℕ) (p p' : Template' → Parser A) (q q' : Parser A) (s : Input) → ((m : Template') (c : Input) → Viable lim F P (S m) (p m) (p' m) c) → Partly lim F P q q' s
      → Partly lim F P (t6.on_template i f at p q) (t6.on_template j f at p' q') s
  half-template {F = F} {P = P} f at p p' q q' s k g = half-on _ _ _ _ _ s (λ r c. past (k _ c)) (half-opening {S = λ r us. Head x_ us} i j h.opens (λ n a. a) (λ e z. z) (stretch_at true false) (λ t. is_some (stretch_at true false t)) (λ t e. known-some (stretch_at true false t) e) no-stretch _ _ _ _ s (λ r c. bind _ _ (parted f at r c) (λ m d. k m d) (λ y us t. tt)) g)
