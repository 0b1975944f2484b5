-- Two rows that are the same up to an inserted semicolon, which ends a do-while in the one and another statement in the other: where
-- a reader takes tokens of both, it takes the same ones, and none from the semicolon on.
use Rattle.std.specs.Prelude.{not}
use Rattle.std.proofs.Common.{◌≡◌, ℕ, zero, suc, Bool, true, false, List, ◌∷◌, Option, Some, None, refl, sym, ap, subst}
use Rattle.es6_lexer.specs.declared.token.Punctuator.{Punctuator as Mark}
use Rattle.es6_lexer.specs.declared.token.Punctuator.TheVariants as marks
use Rattle.es6_ast.specs.declared.operators.AssignOperator.{AssignOperator}
use Rattle.es6_ast.specs.declared.operators.MethodKind.{MethodKind}
use Rattle.es6_ast.specs.declared.operators.UnaryOperator.{UnaryOperator}
use Rattle.es6_ast.specs.declared.tree.Expression.{Expression}
use Rattle.es6_ast.specs.declared.tree.Identifier.{Identifier}
use Rattle.es6_ast.specs.declared.tree.Key.{Key}
use Rattle.es6_ast.specs.declared.tree.Link.{Link}
use Rattle.es6_ast.specs.declared.tree.Parameter.{Parameter}
use Rattle.es6_ast.specs.declared.tree.Rest.{Rest as Dots}
use Rattle.es6_ast.specs.declared.tree.Stretch.{Stretch}
use Rattle.es6_ast.specs.declared.tree.Template.{Template}
use Rattle.es6_ast.specs.declared.settings.Flags.{Flags}
use Rattle.es6_ast.specs.declared.settings.Role.{Role}
use Rattle.es6_ast.specs.declared.settings.Role.TheVariants.{Leading, Among, Heritage, Callee}
use Rattle.es6_ast.specs.declared.settings.Stand.{Stand}
use Rattle.es6_ast.specs.declared.settings.Stand.TheVariants.{Listed}
use Rattle.es6_ast.specs.declared.settings.Stop.{Stop}
use Rattle.es6_ast.specs.Settings.{is_leading, has_calls}
use Rattle.es6_ast.specs.Tokens.{Filled, begin_of}
use Rattle.es6_ast.specs.Grammar.{with_in, of_function, of_arrow}
use Rattle.es6_reading.specs.Parser as p
use Rattle.es6_reading.specs.Parser.{Input, Outcome, Took, Fault, Parser, after, on, on_taken, choose, next_is, if_next, from, take_as, mark, refused, no_number, no_expression, ending, Reading, is_left, is_covered, Inner, on_group, semicolon, inserts, inserts_anywhere, returns, ◌>>=◌}
use Rattle.es6_reading.specs.Refine.{Refined, Fits, Misfit, TooNested}
use Rattle.es6_reading.specs.Parts as t6
use Rattle.es6_reading.specs.Expressions as e
use Rattle.es6_reading.proofs.Follows.{semi}
use Rattle.es6_reading.proofs.FollowParts as parts'
use Rattle.es6_reading.proofs.FollowPrimary as primary'
use Rattle.es6_reading.proofs.FollowLevels as levels'
use Rattle.es6_reading.proofs.FollowLevels.{unary-none, assign-none, binary-none}

-- what is left of the rows
pub data Forks : List Filled → List Filled → Type 0 where
  here : {at : ℕ} {ts us : List Filled} → Forks (semi true at ∷ ts) (semi false at ∷ us)
  later : {t : Filled} {ts us : List Filled} → Forks ts us → Forks (t ∷ ts) (t ∷ us)

-- what is left of the other row
pub record Fork (s : Input) : Type 0 where
  pub row : List Filled
  pub forks : Forks s.tokens row

abbrev pub other : (s : Input) → Fork s → Input
other s s' = record { tokens = s'.row; last = s.last }

pub data Agree {A : Type 0} : Outcome A → Outcome A → Type 0 where
  took_both : {x : A} {s : Input} (s' : Fork s) → Agree (Took x s) (Took x (other s s'))
  one_stops : {stop : Stop} {ts : List Filled} {o : Outcome A} → Agree (Fault stop ts) o
  other_stops : {stop : Stop} {ts : List Filled} {o : Outcome A} → Agree o (Fault stop ts)

-- the reader takes the same of both rows, or stops at one
abbrev pub Twin : {A : Type 0} → Parser A → Input → Type 0
Twin p s = (s' : Fork s) → Agree (p s) (p (other s s'))

pub done : {A : Type 0} {x : A} {s : Input} (s' : Fork s) → Agree (Took x s) (Took x (other s s'))
done s' = took_both s'

pub stopped : {A : Type 0} {s : Input} {stop : Stop} {ts : List Filled} (us : Fork s → List Filled) (s' : Fork s) → Agree {A = A} (Fault stop ts) (Fault stop (us s'))
stopped us s' = one_stops

joined : {A B : Type 0} {o o' : Outcome A} (q : A → Parser B) → Agree o o' → ((x : A) (s : Input) → Twin (q x) s) → Agree (after o q) (after o' q)
joined q (took_both {s = s} s') f = f _ s s'
joined q one_stops f = one_stops
joined q other_stops f = other_stops

pub bind : {A B : Type 0} {s : Input} {o : Outcome A} {o' : Fork s → Outcome A} (q : A → Parser B) → ((s' : Fork s) → Agree o (o' s')) → ((x : A) (c : Input) → Twin (q x) c) → (s' : Fork s) → Agree (after o q) (after (o' s') q)
bind q h f s' = joined q (h s') f

pub nowhere : {A : Type 0} (s : Input) → Twin {A = A} refused s
unfolding refused
nowhere s s' = one_stops

pub number : {A : Type 0} (s : Input) → Twin {A = A} no_number s
unfolding no_number
number s s' = one_stops

pub expression : {A : Type 0} (s : Input) → Twin {A = A} no_expression s
unfolding no_expression
expression s s' = one_stops

pub either : {A : Type 0} (b : Bool) (p q : Parser A) (s : Input) → Twin p s → Twin q s → Twin (choose b p q) s
either true p q s f g = f
either false p q s f g = g

-- a test that takes no inserted semicolon
abbrev pub Misses : {B : Type 0} → (Filled → Option B) → Type 0
Misses test = (d : Bool) (at : ℕ) → test (semi d at) ≡ None

on-missed : {A B : Type 0} (test : Filled → Option B) (t : Filled) (ts : List Filled) (last : ℕ) (p : B → Parser A) (q : Parser A) → test t ≡ None → on test p q (record { tokens = t ∷ ts; last = last }) ≡ q (record { tokens = t ∷ ts; last = last })
on-missed test t ts last p q h = ap (λ o. on_taken o t ts p q (record { tokens = t ∷ ts; last = last })) h

pub next : {A B : Type 0} (test : Filled → Option B) (p : B → Parser A) (q : Parser A) → Misses test → (s : Input) → ((x : B) (c : Input) → Twin (p x) c) → Twin q s → Twin (on test p q) s
next {A = A} {B = B} test p q h s f g s' = by s'.forks (g s')
  where
    by : {ts us : List Filled} → Forks ts us → Agree (q (record { tokens = ts; last = s.last })) (q (record { tokens = us; last = s.last })) → Agree (on test p q (record { tokens = ts; last = s.last })) (on test p q (record { tokens = us; last = s.last }))
    by (here {at = at} {ts = ts} {us = us}) g =
        subst (λ o. Agree o (on test p q (record { tokens = semi false at ∷ us; last = s.last }))) (sym (on-missed test (semi true at) ts s.last p q (h true at)))
        (subst (λ o. Agree (q (record { tokens = semi true at ∷ ts; last = s.last })) o) (sym (on-missed test (semi false at) us s.last p q (h false at))) g)
    by (later {t = t} {ts = ts} {us = us} w) g = known (test t)
      where
        known : (o : Option B) → Agree (on_taken o t ts p q (record { tokens = t ∷ ts; last = s.last })) (on_taken o t us p q (record { tokens = t ∷ us; last = s.last }))
        known (Some x) = f x (record { tokens = ts; last = t.span.end }) (record { row = us; forks = w })
        known None = g

pub take : {B : Type 0} (test : Filled → Option B) → Misses test → (s : Input) → Twin (take_as test) s
take test h s = next test _ _ h s (λ x c. done) (nowhere s)

pub looks : {A : Type 0} (test : Filled → Bool) (p q : Parser A) → ((at : ℕ) → test (semi true at) ≡ test (semi false at)) → (s : Input) → Twin p s → Twin q s → Twin (if_next test p q) s
looks test p q h s f g s' = subst (λ b. Agree (choose (next_is test s.tokens) p q s) (choose b p q (other s s'))) (same s'.forks) (either (next_is test s.tokens) p q s f g s')
  where
    same : {ts us : List Filled} → Forks ts us → next_is test ts ≡ next_is test us
    same (here {at = at}) = h at
    same (later w) = refl

pub group : {A : Type 0} (i : Inner) (m : Mark) (p q : Parser A) (s : Input) → ((c : Input) → Twin p c) → Twin q s → Twin (on_group i m p q) s
group i m p q s f g = looks _ _ q (λ at. refl) s (either i.may_open _ _ s (next (mark m) (λ t. p) q (λ d at. refl) s (λ t c. f c) g) (stopped _)) g

-- what depends on where the next token begins
pub begins : {A : Type 0} (p : ℕ → Parser A) (s : Input) → ((at : ℕ) → Twin (p at) s) → Twin (from p) s
begins p s f s' = subst (λ at. Agree (p (begin_of s.tokens) s) (p at (other s s'))) (same s'.forks) (f (begin_of s.tokens) s')
  where
    same : {ts us : List Filled} → Forks ts us → begin_of ts ≡ begin_of us
    same here = refl
    same (later w) = refl

pub yield-ends : (at : ℕ) → not (e.ends_yield (semi true at)) ≡ not (e.ends_yield (semi false at))
unfolding e.ends_yield
yield-ends at = refl

-- ## Semicolons

pub semicolon_ : (i : Inner) → i.inserting ≡ false → (s : Input) → Twin (semicolon i) s
unfolding semicolon refused
semicolon_ i h s s' = by s'.forks
  where
    none : (c : Input) {o : Outcome (Unit {0})} → Agree (choose i.inserting inserts refused c) o
    none c {o = o} = subst (λ b. Agree (choose b inserts refused c) o) (sym h) one_stops

    by : {ts us : List Filled} → Forks ts us → Agree (semicolon i (record { tokens = ts; last = s.last })) (semicolon i (record { tokens = us; last = s.last }))
    by here = none _
    by (later {t = t} {ts = ts} {us = us} w) = known (ending false t)
      where
        known : (o : Option Filled) → Agree (on_taken o t ts (λ t. returns tt) (choose i.inserting inserts refused) (record { tokens = t ∷ ts; last = s.last })) (on_taken o t us (λ t. returns tt) (choose i.inserting inserts refused) (record { tokens = t ∷ us; last = s.last }))
        known (Some u) = took_both {s = record { tokens = ts; last = t.span.end }} (record { row = us; forks = w })
        known None = none _

pub do_while_end : (i : Inner) → i.inserting ≡ false → (s : Input) → Twin (p.semicolon_of_do_while i) s
unfolding p.semicolon_of_do_while refused
do_while_end i h s s' = by s'.forks
  where
    none : (c : Input) {o : Outcome (Unit {0})} → Agree o (choose i.inserting inserts_anywhere refused c)
    none c {o = o} = subst (λ b. Agree o (choose b inserts_anywhere refused c)) (sym h) other_stops

    by : {ts us : List Filled} → Forks ts us → Agree (p.semicolon_of_do_while i (record { tokens = ts; last = s.last })) (p.semicolon_of_do_while i (record { tokens = us; last = s.last }))
    by here = none _
    by (later {t = t} {ts = ts} {us = us} w) = known (ending true t)
      where
        known : (o : Option Filled) → Agree (on_taken o t ts (λ t. returns tt) (choose i.inserting inserts_anywhere refused) (record { tokens = t ∷ ts; last = s.last })) (on_taken o t us (λ t. returns tt) (choose i.inserting inserts_anywhere refused) (record { tokens = t ∷ us; last = s.last }))
        known (Some u) = took_both {s = record { tokens = ts; last = t.span.end }} (record { row = us; forks = w })
        known None = none _

-- readers of what stands one construct deeper
pub record Paired (i : Inner) : Type 0 where
  pub plain : i.inserting ≡ false
  pub sequence : (f : Flags) (s : Input) → Twin (i.sequence f) s
  pub assignment : (f : Flags) (s : Input) → Twin (i.assignment f) s
  pub power : (f : Flags) (s : Input) → Twin (i.power f) s
  pub unary : (f : Flags) (s : Input) → Twin (i.unary f) s
  pub callee : (f : Flags) (s : Input) → Twin (i.callee f) s
  pub heritage : (f : Flags) (s : Input) → Twin (i.heritage f) s
  pub block : (f : Flags) (s : Input) → Twin (i.block f) s
  pub property : (f : Flags) (s : Input) → Twin (i.property f) s
  pub target : (f : Flags) (s : Input) → Twin (i.target f) s
  pub part : (f : Flags) (s : Input) → Twin (i.part f) s
  pub object_part : (f : Flags) (s : Input) → Twin (i.object_part f) s
  pub variable : (f : Flags) (s : Input) → Twin (i.variable f) s
  pub member : (f : Flags) (s : Input) → Twin (i.member f) s
  pub statement : (f : Flags) (stand : Stand) (s : Input) → Twin (i.statement f stand) s

pub identifier : (s : Input) → Twin (t6.identifier) s
unfolding t6.identifier
identifier s = begins parts'.identifier_from s (λ place. bind _ (take _ (λ d at. refl) s) λ x c. done)

pub any_name : (s : Input) → Twin (t6.name_of_any_kind) s
unfolding t6.name_of_any_kind
any_name s = begins parts'.any_name_from s (λ place. bind _ (take _ (λ d at. refl) s) λ x c. done)

rest_part : (at : ℕ) (s : Input) → Twin (t6.rest_part at) s
unfolding t6.rest_part
rest_part at s = bind _ (identifier s) λ x c. bind _ (take _ (λ d at. refl) c) λ t d. done

rest_parameter : (at : ℕ) (s : Input) → Twin (t6.rest_parameter at) s
unfolding t6.rest_parameter
rest_parameter at s = bind _ (identifier s) λ x c. bind _ (take _ (λ d at. refl) c) λ t d. done

no_parameter : (s : Input) → Twin (t6.no_parameter) s
unfolding t6.no_parameter
no_parameter s = bind _ (take _ (λ d at. refl) s) λ t c. done

star : (s : Input) → Twin (t6.star) s
unfolding t6.star
star s = next _ _ _ (λ d at. refl) s (λ t c. done) done

no_operand : (role : Role) (s : Input) → Twin {A = Reading} (e.no_operand role) s
no_operand Leading s = expression s
no_operand Among s = expression s
no_operand Heritage s = number s
no_operand Callee s = number s

covered : (at : ℕ) (held : Option Expression) (rest : Option Dots) (s : Input) → Twin (e.covered at held rest) s
unfolding e.covered
covered at held rest s = looks _ _ _ (λ at. refl) s done (nowhere s)

covered_rest : (at dots : ℕ) (held : Option Expression) (s : Input) → Twin (e.covered_rest at dots held) s
unfolding e.covered_rest
covered_rest at dots held s = bind _ (identifier s) λ n c. bind _ (take _ (λ d at. refl) c) λ t d. covered at held _ d

rest_after : (at dots : ℕ) (held : Expression) (r : Refined (List Parameter)) (s : Input) → Twin (e.rest_after at dots held r) s
rest_after at dots held (Fits es) s = next _ _ _ (λ d at. refl) s (λ t c. covered_rest at dots (Some held) c) (nowhere s)
rest_after at dots held (Misfit place) s = nowhere s
rest_after at dots held TooNested s = stopped _

closed_group : (at : ℕ) (held : Expression) (s : Input) → Twin (e.closed_group at held) s
unfolding e.closed_group
closed_group at held s = bind _ (take _ (λ d at. refl) s) λ t c. done

member_link : (at : ℕ) (s : Input) → Twin (e.member_link at) s
unfolding e.member_link
member_link at s = bind _ (any_name s) λ n c. done

pub fitting : {A : Type 0} (r : Refined A) (s : Input) → Twin (e.fitting r) s
fitting (Fits x) s = done
fitting (Misfit place) s = nowhere s
fitting TooNested s = stopped _

module _ (i : Inner) (h : Paired i) where
  key : (f : Flags) (s : Input) → Twin (t6.key i f) s
  unfolding t6.key t6.computed_key
  key f s = begins (parts'.key_from i f) s (λ place. next _ _ _ (λ d at. refl) s (λ k c. done) (group i marks.LeftBracket _ _ s (λ c. bind _ (h.assignment (with_in f) c) λ x d. bind _ (take _ (λ d at. refl) d) λ t k. done) (number s)))

  array_parts : (f : Flags) (n : ℕ) (s : Input) → Twin (t6.array_parts i f n) s
  unfolding t6.array_parts
  array_parts f zero s = stopped _
  array_parts f (suc n) s = begins (parts'.array_parts_from i f (t6.array_parts i f n)) s (λ place. next _ _ _ (λ d at. refl) s (λ t c. done) (next _ _ _ (λ d at. refl) s (λ t c. bind _ (array_parts f n c) λ x d. done) (next _ _ _ (λ d at. refl) s (λ t c. rest_part _ c) (bind _ (h.part f s) λ q c. next _ _ _ (λ d at. refl) c (λ t d. bind _ (array_parts f n d) λ x k. done) (bind _ (take _ (λ d at. refl) c) λ t d. done)))))

  object_parts : (f : Flags) (n : ℕ) (s : Input) → Twin (t6.object_parts i f n) s
  unfolding t6.object_parts
  object_parts f zero s = stopped _
  object_parts f (suc n) s = next _ _ _ (λ d at. refl) s (λ t c. done) (bind _ (h.object_part f s) λ q c. next _ _ _ (λ d at. refl) c (λ t d. bind _ (object_parts f n d) λ x k. done) (bind _ (take _ (λ d at. refl) c) λ t d. done))

  binding_pattern : (f : Flags) (at : ℕ) (s : Input) → Twin (t6.binding_pattern i f at) s
  unfolding t6.binding_pattern
  binding_pattern f at s = group i marks.LeftBracket _ _ s (λ c. bind _ (array_parts f i.fuel c) λ x d. done) (group i marks.LeftBrace _ _ s (λ c. bind _ (object_parts f i.fuel c) λ x d. done) (nowhere s))

  pub binding : (f : Flags) (s : Input) → Twin (t6.binding i f) s
  unfolding t6.binding
  binding f s = begins (parts'.binding_from i f) s (λ place. next _ _ _ (λ d at. refl) s (λ t c. done) (binding_pattern f _ s))

  pub initialized : (f g : Flags) (s : Input) → Twin (t6.initialized i f g) s
  unfolding t6.initialized
  initialized f g s = begins (parts'.initialized_from i f g) s (λ place. bind _ (binding f s) λ y c. next _ _ _ (λ d at. refl) c (λ t d. bind _ (h.assignment g d) λ x k. done) done)

  pub one_part : (f : Flags) (s : Input) → Twin (t6.one_part i f) s
  unfolding t6.one_part
  one_part f s = initialized f (with_in f) s

  keyed_part : (f : Flags) (at : ℕ) (k : Key) (s : Input) → Twin (t6.keyed_part i f at k) s
  unfolding t6.keyed_part
  keyed_part f at k s = bind _ (one_part f s) λ q c. done

  named_part : (f : Flags) (at : ℕ) (n : Identifier) (s : Input) → Twin (t6.named_part i f at n) s
  unfolding t6.named_part
  named_part f at n s = next _ _ _ (λ d at. refl) s (λ t c. bind _ (h.assignment (with_in f) c) λ x d. done) done

  pub object_part : (f : Flags) (s : Input) → Twin (t6.one_object_part i f) s
  unfolding t6.one_object_part
  object_part f s = begins (parts'.object_part_from i f) s (λ place. next _ _ _ (λ d at. refl) s (λ name c. next _ _ _ (λ d at. refl) c (λ t d. keyed_part f _ _ d) (named_part f _ _ c)) (bind _ (key f s) λ k c. bind _ (take _ (λ d at. refl) c) λ t d. keyed_part f _ k d))

  more_parameters : (f : Flags) (n : ℕ) (s : Input) → Twin (t6.more_parameters i f n) s
  unfolding t6.more_parameters
  more_parameters f zero s = stopped _
  more_parameters f (suc n) s = begins (parts'.more_parameters_from i f (t6.more_parameters i f n)) s (λ place. next _ _ _ (λ d at. refl) s (λ t c. bind _ (rest_parameter _ c) λ x d. done) (bind _ (h.part f s) λ q c. next _ _ _ (λ d at. refl) c (λ t d. bind _ (more_parameters f n d) λ x k. done) (bind _ (take _ (λ d at. refl) c) λ t d. done)))

  parameters : (f : Flags) (s : Input) → Twin (t6.parameters i f) s
  unfolding t6.parameters
  parameters f s = next _ _ _ (λ d at. refl) s (λ t c. done) (more_parameters f i.fuel s)

  statements : (f : Flags) (n : ℕ) (s : Input) → Twin (t6.statements i f n) s
  unfolding t6.statements
  statements f zero s = stopped _
  statements f (suc n) s = next _ _ _ (λ d at. refl) s (λ t c. done) (bind _ (h.statement f Listed s) λ x c. bind _ (statements f n c) λ y d. done)

  pub block : (f : Flags) (s : Input) → Twin (t6.block i f) s
  unfolding t6.block
  block f s = begins (parts'.block_from i f) s (λ place. group i marks.LeftBrace _ _ s (λ c. bind _ (statements f i.fuel c) λ x d. done) (nowhere s))

  function_body : (generator : Bool) (s : Input) → Twin (t6.function_body i generator) s
  unfolding t6.function_body
  function_body generator s = group i marks.LeftBrace _ _ s (λ c. statements (of_function generator) i.fuel c) (nowhere s)

  signature : (generator : Bool) (s : Input) → Twin (t6.signature i generator) s
  unfolding t6.signature
  signature generator s = bind _ (group i marks.LeftParenthesis _ _ s (λ c. parameters (of_function generator) c) (nowhere s)) λ x c. bind _ (function_body generator c) λ y d. done

  rest_of_function : (at : ℕ) (generator : Bool) (name : Option Identifier) (s : Input) → Twin (t6.rest_of_function i at generator name) s
  unfolding t6.rest_of_function
  rest_of_function at generator name s = bind _ (signature generator s) λ x c. done

  pub named_function : (at : ℕ) (generator : Bool) (s : Input) → Twin (t6.named_function i at generator) s
  unfolding t6.named_function
  named_function at generator s = bind _ (identifier s) λ n c. rest_of_function at generator (Some n) c

  pub function : (lacks : Bool) (at : ℕ) (s : Input) → Twin (t6.function_after_word i lacks at) s
  unfolding t6.function_after_word
  function lacks at s = bind _ (star s) λ generator c. either lacks _ _ c (looks _ _ _ (λ at. refl) c (rest_of_function at generator None c) (named_function at generator c)) (named_function at generator c)

  method_after_key : (kind : MethodKind) (generator : Bool) (at : ℕ) (k : Key) (s : Input) → Twin (t6.method_after_key i kind generator at k) s
  unfolding t6.method_after_key
  method_after_key kind generator at k s = begins (parts'.method_parameters_from i kind generator at k) s (λ place. bind _ (signature generator s) λ x c. done)

  accessor_parameters : (setter : Bool) (s : Input) → Twin (t6.accessor_parameters i setter) s
  unfolding t6.accessor_parameters t6.one_parameter
  accessor_parameters true s = bind _ (h.part (of_function false) s) λ q c. bind _ (take _ (λ d at. refl) c) λ t d. done
  accessor_parameters false s = no_parameter s

  accessor : (f : Flags) (at : ℕ) (setter : Bool) (s : Input) → Twin (t6.accessor i f at setter) s
  unfolding t6.accessor
  accessor f at setter s = bind _ (key f s) λ k c. begins (parts'.accessor_parameters_from i at setter k) c (λ place. bind _ (group i marks.LeftParenthesis _ _ c (λ d. accessor_parameters setter d) (nowhere c)) λ x d. bind _ (function_body false d) λ y m. done)

  generator_method : (f : Flags) (at : ℕ) (s : Input) → Twin (t6.generator_method i f at) s
  unfolding t6.generator_method
  generator_method f at s = bind _ (key f s) λ k c. method_after_key _ true at k c

  accessor_word : (f : Flags) (at : ℕ) (setter : Bool) (s : Input) → Twin (t6.method_after_accessor_word i f at setter) s
  unfolding t6.method_after_accessor_word
  accessor_word f at setter s = looks _ _ _ (λ at. refl) s (method_after_key _ false at _ s) (accessor f at setter s)

  method : (f : Flags) (s : Input) → Twin (t6.method i f) s
  unfolding t6.method
  method f s = begins (parts'.method_from i f) s (λ place. next _ _ _ (λ d at. refl) s (λ t c. generator_method f _ c) (next _ _ _ (λ d at. refl) s (λ setter c. accessor_word f _ setter c) (bind _ (key f s) λ k c. method_after_key _ false _ k c)))

  pub member : (f : Flags) (s : Input) → Twin (t6.one_member i f) s
  unfolding t6.one_member t6.member_after_static
  member f s = begins (parts'.member_from i f) s (λ place. next _ _ _ (λ d at. refl) s (λ t c. looks _ _ _ (λ at. refl) c (bind _ (method_after_key _ false _ _ c) λ m d. done) (bind _ (method f c) λ m d. done)) (bind _ (method f s) λ m c. done))

  members : (f : Flags) (n : ℕ) (s : Input) → Twin (t6.members i f n) s
  unfolding t6.members
  members f zero s = stopped _
  members f (suc n) s = next _ _ _ (λ d at. refl) s (λ t c. done) (next _ _ _ (λ d at. refl) s (λ t c. members f n c) (bind _ (h.member f s) λ m c. bind _ (members f n c) λ ms d. done))

  heritage : (f : Flags) (s : Input) → Twin (t6.heritage i f) s
  unfolding t6.heritage
  heritage f s = next _ _ _ (λ d at. refl) s (λ t c. bind _ (h.heritage f c) λ x d. done) done

  rest_of_class : (f : Flags) (at : ℕ) (name : Option Identifier) (s : Input) → Twin (t6.rest_of_class i f at name) s
  unfolding t6.rest_of_class
  rest_of_class f at name s = bind _ (heritage f s) λ x c. bind _ (group i marks.LeftBrace _ _ c (λ d. members f i.fuel d) (nowhere c)) λ ms d. done

  named_class : (f : Flags) (at : ℕ) (s : Input) → Twin (t6.named_class i f at) s
  unfolding t6.named_class
  named_class f at s = bind _ (identifier s) λ n c. rest_of_class f at (Some n) c

  pub class : (f : Flags) (lacks : Bool) (at : ℕ) (s : Input) → Twin (t6.class_after_word i f lacks at) s
  unfolding t6.class_after_word
  class f lacks at s = either lacks _ _ s (looks _ _ _ (λ at. refl) s (rest_of_class f at None s) (named_class f at s)) (named_class f at s)

  template_parts : (f : Flags) (n : ℕ) (s : Input) → Twin (t6.template_parts i f n) s
  unfolding t6.template_parts
  template_parts f zero s = stopped _
  template_parts f (suc n) s = bind _ (h.sequence (with_in f) s) λ x c. next _ _ _ (λ d at. refl) c (λ r d. done) (bind _ (take _ (λ d at. refl) c) λ r d. bind _ (template_parts f n d) λ ms k. done)

  parted : (f : Flags) (at : ℕ) (r : Stretch) (s : Input) → Twin (t6.parted_template i f at r) s
  unfolding t6.parted_template
  parted f at r s = bind _ (template_parts f i.fuel s) λ ms c. done

  on_template : {A : Type 0} (f : Flags) (at : ℕ) (p : Template → Parser A) (q : Parser A) (s : Input) → ((m : Template) (c : Input) → Twin (p m) c) → Twin q s → Twin (t6.on_template i f at p q) s
  on_template f at p q s k g = next _ _ _ (λ d at. refl) s (λ r c. k _ c) (looks _ _ q (λ at. refl) s (either i.may_open _ _ s (next _ _ q (λ d at. refl) s (λ r c. bind _ (parted f at r c) λ m d. k m d) g) (stopped _)) g)

  argument : (f : Flags) (s : Input) → Twin (e.argument i f) s
  unfolding e.argument
  argument f s = begins (primary'.argument_from i f) s (λ place. next _ _ _ (λ d at. refl) s (λ t c. bind _ (h.assignment (with_in f) c) λ x d. done) (bind _ (h.assignment (with_in f) s) λ x c. done))

  elements : (f : Flags) (n : ℕ) (s : Input) → Twin (e.elements i f n) s
  unfolding e.elements
  elements f zero s = stopped _
  elements f (suc n) s = next _ _ _ (λ d at. refl) s (λ t c. done) (next _ _ _ (λ d at. refl) s (λ t c. bind _ (elements f n c) λ l d. done) (bind _ (argument f s) λ a c. next _ _ _ (λ d at. refl) c (λ t d. next _ _ _ (λ d at. refl) d (λ u k. done) (bind _ (elements f n d) λ l k. done)) (bind _ (take _ (λ d at. refl) c) λ t d. done)))

  more_arguments : (f : Flags) (n : ℕ) (s : Input) → Twin (e.more_arguments i f n) s
  unfolding e.more_arguments
  more_arguments f zero s = stopped _
  more_arguments f (suc n) s = bind _ (argument f s) λ a c. next _ _ _ (λ d at. refl) c (λ t d. bind _ (more_arguments f n d) λ x k. done) (bind _ (take _ (λ d at. refl) c) λ t d. done)

  arguments : (f : Flags) (s : Input) → Twin (e.arguments i f) s
  unfolding e.arguments
  arguments f s = next _ _ _ (λ d at. refl) s (λ t c. done) (more_arguments f i.fuel s)

  properties : (f : Flags) (n : ℕ) (s : Input) → Twin (e.properties i f n) s
  unfolding e.properties
  properties f zero s = stopped _
  properties f (suc n) s = next _ _ _ (λ d at. refl) s (λ t c. done) (bind _ (h.property f s) λ x c. next _ _ _ (λ d at. refl) c (λ t d. bind _ (properties f n d) λ y k. done) (bind _ (take _ (λ d at. refl) c) λ t d. done))

  held_parts : (f : Flags) (role : Role) (n : ℕ) (s : Input) → Twin (e.held_parts i f role n) s
  unfolding e.held_parts
  held_parts f role zero s = stopped _
  held_parts f role (suc n) s = bind _ (h.assignment (with_in f) s) λ x c. next _ _ _ (λ d at. refl) c (λ t d. looks _ _ _ (λ at. refl) d done (bind _ (held_parts f role n d) λ y k. done)) done

  held_group : (f : Flags) (role : Role) (at : ℕ) (s : Input) → Twin (e.held_group i f role at) s
  unfolding e.held_group
  held_group f role at s = begins (primary'.held_group_from i f role at) s (λ place. bind _ (held_parts f role i.fuel s) λ x c. either x.before_rest _ _ c (begins (primary'.rest_from at _ _) c (λ dots. rest_after at dots _ _ c)) (closed_group at _ c))

  grouped : (f : Flags) (role : Role) (at : ℕ) (s : Input) → Twin (e.grouped i f role at) s
  unfolding e.grouped
  grouped f role at s = either (is_leading role) _ _ s (next _ _ _ (λ d at. refl) s (λ t c. covered at None None c) (begins (primary'.dots_from i f role at) s (λ dots. next _ _ _ (λ d at. refl) s (λ t c. covered_rest at dots None c) (held_group f role at s)))) (held_group f role at s)

  bracketed : (f : Flags) (role : Role) (at : ℕ) (s : Input) → Twin (e.bracketed i f role at) s
  unfolding e.bracketed
  bracketed f role at s = group i marks.LeftBracket _ _ s (λ c. bind _ (elements f i.fuel c) λ l d. done) (group i marks.LeftBrace _ _ s (λ c. bind _ (properties f i.fuel c) λ x d. done) (no_operand role s))

  composed : (f : Flags) (role : Role) (at : ℕ) (s : Input) → Twin (e.composed i f role at) s
  unfolding e.composed
  composed f role at s = next _ _ _ (λ d at. refl) s (λ t c. bind _ (function true at c) λ x d. done) (next _ _ _ (λ d at. refl) s (λ t c. bind _ (class f true at c) λ x d. done) (on_template f at _ _ s (λ m c. done) (group i marks.LeftParenthesis _ _ s (λ c. grouped f role at c) (bracketed f role at s))))

  primary : (f : Flags) (role : Role) (at : ℕ) (s : Input) → Twin (e.primary i f role at) s
  unfolding e.primary
  primary f role at s = next _ _ _ (λ d at. refl) s (λ t c. done) (next _ _ _ (λ d at. refl) s (λ t c. done) (next _ _ _ (λ d at. refl) s (λ t c. done) (composed f role at s)))

  after_new : (f : Flags) (at : ℕ) (s : Input) → Twin (e.after_new i f at) s
  unfolding e.after_new e.after_callee
  after_new f at s = next _ _ _ (λ d at. refl) s (λ t c. bind _ (take _ (λ d at. refl) c) λ u d. done) (bind _ (h.callee f s) λ x c. group i marks.LeftParenthesis _ _ c (λ d. bind _ (arguments f d) λ y k. done) (done))

  after_super : (f : Flags) (role : Role) (at : ℕ) (s : Input) → Twin (e.after_super i f role at) s
  unfolding e.after_super e.super_call
  after_super f role at s = next _ _ _ (λ d at. refl) s (λ t c. bind _ (any_name c) λ n d. done) (group i marks.LeftBracket _ _ s (λ c. bind _ (h.sequence (with_in f) c) λ x d. bind _ (take _ (λ d at. refl) d) λ t k. done) (either (has_calls role) _ _ s (group i marks.LeftParenthesis _ _ s (λ c. bind _ (arguments f c) λ x d. done) (nowhere s)) (nowhere s)))

  head : (f : Flags) (role : Role) (at : ℕ) (s : Input) → Twin (e.head i f role at) s
  unfolding e.head
  head f role at s = next _ _ _ (λ d at. refl) s (λ t c. after_new f at c) (next _ _ _ (λ d at. refl) s (λ t c. after_super f role at c) (primary f role at s))

  index : (f : Flags) (at : ℕ) (s : Input) → Twin (e.index_link i f at) s
  unfolding e.index_link
  index f at s = bind _ (h.sequence (with_in f) s) λ x c. bind _ (take _ (λ d at. refl) c) λ t d. done

  call : (f : Flags) (at : ℕ) (s : Input) → Twin (e.call_link i f at) s
  unfolding e.call_link
  call f at s = bind _ (arguments f s) λ x c. done

  on_link : (f : Flags) (calls : Bool) (at : ℕ) (p : Link → Parser (List Link)) (q : Parser (List Link)) (s : Input) → ((l : Link) (c : Input) → Twin (p l) c) → Twin q s → Twin (e.on_link i f calls at p q) s
  on_link f calls at p q s k g = next _ _ _ (λ d at. refl) s (λ t c. bind _ (member_link _ c) λ l d. k l d) (group i marks.LeftBracket _ _ s (λ c. bind _ (index f _ c) λ l d. k l d) (on_template f _ _ _ s (λ m c. k _ c)
      (either calls _ _ s (group i marks.LeftParenthesis _ _ s (λ c. bind _ (call f _ c) λ l d. k l d) g) g)))

  links : (f : Flags) (calls : Bool) (n : ℕ) (s : Input) → Twin (e.links i f calls n) s
  unfolding e.links
  links f calls zero s = stopped _
  links f calls (suc n) s = begins (primary'.links_from i f calls (e.links i f calls n)) s (λ place. on_link f calls _ _ _ s (λ l c. bind _ (links f calls n c) λ ls d. done) done)

  pub chain : (f : Flags) (role : Role) (s : Input) → Twin (e.chain i f role) s
  unfolding e.chain
  chain f role s = begins (primary'.chain_from i f role) s (λ place. bind _ (head f role _ s) λ x c. bind _ (links f (has_calls role) i.fuel c) λ ls d. done)

  postfix : (f : Flags) (role : Role) (s : Input) → Twin (e.postfix i f role) s
  unfolding e.postfix
  postfix f role s = begins (levels'.postfix_from i f role) s (λ place. bind _ (chain f role s) λ x c. next _ _ _ (λ d at. refl) c (λ op d. done) done)

  prefixed : (f : Flags) (at : ℕ) (op : UnaryOperator) (s : Input) → Twin (e.prefixed i f at op) s
  unfolding e.prefixed
  prefixed f at op s = bind _ (h.unary f s) λ x c. done

  update : (f : Flags) (role : Role) (s : Input) → Twin (e.update i f role) s
  unfolding e.update e.updated
  update f role s = begins (levels'.update_from i f role) s (λ place. next _ _ _ (λ d at. refl) s (λ op c. bind _ (h.unary f c) λ x d. done) (postfix f role s))

  pub unary : (f : Flags) (s : Input) → Twin (e.unary i f) s
  unfolding e.unary
  unary f s = begins (levels'.unary_from i f) s (λ place. next _ _ _ unary-none s (λ op c. prefixed f _ op c) (update f Among s))

  pub power : (f : Flags) (role : Role) (s : Input) → Twin (e.power i f role) s
  unfolding e.power e.raised
  power f role s = begins (levels'.power_from i f role) s (λ place. next _ _ _ unary-none s (λ op c. prefixed f _ op c) (bind _ (update f role s) λ x c. next _ _ _ (λ d at. refl) c (λ t d. bind _ (h.power f d) λ y k. done) done))

  operands : (f : Flags) (level : ℕ) (q : Parser Reading) (k : (s : Input) → Twin (q) s) (n : ℕ) (s : Input) → Twin (e.operands q f level n) s
  unfolding e.operands
  operands f level q k zero s = stopped _
  operands f level q k (suc n) s = next _ _ _ (binary-none f level) s (λ op c. bind _ (k c) λ x d. bind _ (operands f level q k n d) λ y m. done) done

  binary : (f : Flags) (role : Role) (up level : ℕ) (s : Input) → Twin (e.binary_from i f role up level) s
  unfolding e.binary_from
  binary f role zero level s = power f role s
  binary f role (suc up) level s = begins (levels'.binary_body i f role up level) s (λ place. bind _ (binary f role up _ s) λ x c. bind _ (operands f level _ (λ d. binary f Among up _ d) i.fuel c) λ y d. done)

  conditional : (f : Flags) (s : Input) → Twin (e.conditional i f) s
  unfolding e.conditional e.branches
  conditional f s = begins (levels'.conditional_from i f) s (λ place. bind _ (binary f Leading 10 3 s) λ x c. next _ _ _ (λ d at. refl) c (λ t d. bind _ (h.assignment (with_in f) d) λ y k. bind _ (take _ (λ d at. refl) k) λ u m. bind _ (h.assignment f m) λ z o. done) done)

  arrow_body : (f : Flags) (at : ℕ) (es : List Parameter) (s : Input) → Twin (e.arrow_body i f at es) s
  unfolding e.arrow_body
  arrow_body f at es s = looks _ _ _ (λ at. refl) s (bind _ (h.block (of_function false) s) λ b c. done) (bind _ (h.assignment (of_arrow f) s) λ x c. done)

  arrow_if : (f : Flags) (at : ℕ) (x : Reading) (r : Refined (List Parameter)) (s : Input) → Twin (e.arrow_if i f at x r) s
  arrow_if f at x (Fits es) s = next _ _ _ (λ d at. refl) s (λ t c. arrow_body f at es c) (nowhere s)
  arrow_if f at x (Misfit place) s = either (is_covered x.shape) _ _ s (nowhere s) done
  arrow_if f at x TooNested s = stopped _

  assigned_with : (f : Flags) (at : ℕ) (x : Expression) (op : AssignOperator) (s : Input) → Twin (e.assigned_with i f at x op) s
  unfolding e.assigned_with
  assigned_with f at x op s = bind _ (fitting _ s) λ q c. bind _ (h.assignment f c) λ y d. done

  after_conditional : (f : Flags) (at : ℕ) (x : Reading) (s : Input) → Twin (e.after_conditional i f at x) s
  unfolding e.after_conditional
  after_conditional f at x s = looks _ _ _ (λ at. refl) s (arrow_if f at x _ s) (either (is_left x.shape) _ _ s (next _ _ _ assign-none s (λ op c. assigned_with f at _ op c) done) done)

  after_yield : (f : Flags) (at : ℕ) (s : Input) → Twin (e.after_yield i f at) s
  unfolding e.after_yield
  after_yield f at s = next _ _ _ (λ d at. refl) s (λ t c. bind _ (h.assignment f c) λ x d. done) (looks _ _ _ yield-ends s (bind _ (h.assignment f s) λ x c. done) done)

  without_yield : (f : Flags) (at : ℕ) (s : Input) → Twin (e.without_yield i f at) s
  unfolding e.without_yield
  without_yield f at s = bind _ (conditional f s) λ x c. after_conditional f at x c

  pub assignment : (f : Flags) (s : Input) → Twin (e.assignment i f) s
  unfolding e.assignment
  assignment f s = begins (levels'.assignment_from i f) s (λ place. either f.has_yield _ _ s (next _ _ _ (λ d at. refl) s (λ t c. after_yield f _ c) (without_yield f _ s)) (without_yield f _ s))

  parts : (f : Flags) (n : ℕ) (s : Input) → Twin (e.parts i f n) s
  unfolding e.parts
  parts f zero s = stopped _
  parts f (suc n) s = bind _ (assignment f s) λ x c. next _ _ _ (λ d at. refl) c (λ t d. bind _ (parts f n d) λ y k. done) done

  pub sequence : (f : Flags) (s : Input) → Twin (e.sequence i f) s
  unfolding e.sequence e.more_parts
  sequence f s = begins (levels'.sequence_from i f) s (λ place. bind _ (assignment f s) λ x c. next _ _ _ (λ d at. refl) c (λ t d. bind _ (parts f i.fuel d) λ y k. done) done)

  after_key : (f : Flags) (at : ℕ) (k : Key) (s : Input) → Twin (e.after_key i f at k) s
  unfolding e.after_key e.value_of_key e.method_of_key
  after_key f at k s = next _ _ _ (λ d at. refl) s (λ t c. bind _ (assignment (with_in f) c) λ x d. done) (bind _ (method_after_key _ false at k s) λ m c. done)

  after_name : (f : Flags) (at : ℕ) (n : Identifier) (s : Input) → Twin (e.after_name i f at n) s
  unfolding e.after_name e.shorthand
  after_name f at n s = looks _ _ _ (λ at. refl) s (after_key f at _ s) (next _ _ _ (λ d at. refl) s (λ t c. bind _ (h.assignment (with_in f) c) λ x d. done) done)

  pub property : (f : Flags) (s : Input) → Twin (e.one_property i f) s
  unfolding e.one_property e.after_accessor_word
  property f s = begins (levels'.property_from i f) s (λ place. next _ _ _ (λ d at. refl) s (λ t c. bind _ (generator_method f _ c) λ m d. done) (next _ _ _ (λ d at. refl) s (λ setter c. looks _ _ _ (λ at. refl) c (after_name f _ _ c) (bind _ (accessor f _ setter c) λ m d. done)) (next _ _ _ (λ d at. refl) s (λ name c. after_name f _ _ c) (bind _ (key f s) λ k c. after_key f _ k c))))
