-- What follows a choice follows each of its ways.
use Rattle.std.proofs.Common.{◌≡◌, ℕ, Bool, true, false, List, [], ◌∷◌, Option, Some, None, refl, ap, ◌∙◌}
use Rattle.std.specs.Prelude.{is_some}
use Rattle.es6_lexer.specs.declared.token.Punctuator.{Punctuator as Mark}
use Rattle.es6_ast.specs.declared.tree.Template.{Template, roll-Template}
use Rattle.es6_ast.specs.declared.settings.Flags.{Flags}
use Rattle.es6_ast.specs.declared.settings.Stop.{Stop}
use Rattle.es6_ast.specs.Tokens.{Filled}
use Rattle.es6_reading.specs.Parser.{Input, Inner, Outcome, Took, Fault, Parser, after, returns, on, on_taken, mark, next_mark, next_is, choose, on_group}
use Rattle.es6_reading.specs.Words.{stretch_at}
use Rattle.es6_cursor.specs.Reads.{Halts}
use Rattle.es6_cursor.specs.declared.halt.Halt.{Halt}
use Rattle.es6_cursor.specs.declared.halt.Halt.TheVariants.{Stopped, OutOfMemory}
use Rattle.es6_reading.specs.Parts.{on_template, parted_template}
use Rattle.es6_read_primaries.specs.Links.{one_template}

-- a fault stops all that follows
pub halts : {A B : Type 0} {o : Outcome A} (q : A → Parser B) {stop : Stop} {ts : List Filled} → o ≡ Fault stop ts → after o q ≡ Fault stop ts
halts q read = ap (λ o. after o q) read

pub halted : {A B : Type 0} (o : Outcome A) (q : A → Parser B) (halt : Halt) (ts : List Filled) → Halts o halt ts → Halts (after o q) halt ts
halted o q (Stopped stop) ts read = ap (λ x. after x q) read
halted o q OutOfMemory ts read = tt

pub after_after : {A B C : Type 0} (o : Outcome A) (p : A → Parser B) (k : B → Parser C) → after (after o p) k ≡ after o (λ x c. after (p x c) k)
after_after (Took x c) p k = refl
after_after (Fault stop ts) p k = refl

pub after_same : {A B : Type 0} (o : Outcome A) (p q : A → Parser B) → ((x : A) (c : Input) → p x c ≡ q x c) → after o p ≡ after o q
after_same (Took x c) p q h = h x c
after_same (Fault stop ts) p q h = refl

module _ {A B : Type 0} (k : A → Parser B) where
  pub after_choice : (b : Bool) (p q : Parser A) (p' q' : Parser B) (c : Input) → p' c ≡ after (p c) k → q' c ≡ after (q c) k → choose b p' q' c ≡ after (choose b p q c) k
  after_choice true p q p' q' c f g = f
  after_choice false p q p' q' c f g = g

  pub after_on : {C : Type 0} (test : Filled → Option C) (p : C → Parser A) (q : Parser A) (p' : C → Parser B) (q' : Parser B) (c : Input) → ((x : C) (d : Input) → p' x d ≡ after (p x d) k) → q' c ≡ after (q c) k → on test p' q' c ≡ after (on test p q c) k
  after_on {C = C} test p q p' q' c f g = at c.tokens c.last g
    where
      at : (ts : List Filled) (last : ℕ) → q' (record { tokens = ts; last = last }) ≡ after (q (record { tokens = ts; last = last })) k → on test p' q' (record { tokens = ts; last = last }) ≡ after (on test p q (record { tokens = ts; last = last })) k
      at [] last g = g
      at (t ∷ ts) last g = known (test t) g
        where
          known : (o : Option C) → q' (record { tokens = t ∷ ts; last = last }) ≡ after (q (record { tokens = t ∷ ts; last = last })) k → on_taken o t ts p' q' (record { tokens = t ∷ ts; last = last }) ≡ after (on_taken o t ts p q (record { tokens = t ∷ ts; last = last })) k
          known (Some x) g = f x (record { tokens = ts; last = t.span.end })
          known None g = g

  pub after_group : (i : Inner) (m : Mark) (p q : Parser A) (p' q' : Parser B) (c : Input) → ((d : Input) → p' d ≡ after (p d) k) → q' c ≡ after (q c) k → on_group i m p' q' c ≡ after (on_group i m p q c) k
  after_group i m p q p' q' c f g =
      after_choice (next_is (next_mark m) c.tokens) _ _ _ _ c
      (after_choice i.may_open _ _ _ _ c (after_on (mark m) (λ t. p) q (λ t. p') q' c (λ t d. f d) g) refl) g

  pub after_template : (i : Inner) (f : Flags) (at : ℕ) (p : Template → Parser A) (q : Parser A) (p' : Template → Parser B) (q' : Parser B) (c : Input) → ((m : Template) (d : Input) → p' m d ≡ after (p m d) k) → q' c ≡ after (q c) k
      → on_template i f at p' q' c ≡ after (on_template i f at p q c) k
  after_template i f at p q p' q' c g h =
      after_on (stretch_at true true) _ _ _ _ c (λ s d. g (roll-Template (record { span = record { begin = at; end = d.last }; first = s; rest = [] })) d)
      (after_choice (next_is (λ t. is_some (stretch_at true false t)) c.tokens) _ _ _ _ c
      (after_choice i.may_open _ _ _ _ c (after_on (stretch_at true false) _ _ _ _ c (λ s d. parted (parted_template i f at s d)) h) refl) h)
    where
      parted : (o : Outcome Template) → after o p' ≡ after (after o p) k
      parted (Took m d) = g m d
      parted (Fault stop ts) = refl

-- what is read after a template, or in its place
pub from_template : {A : Type 0} → (Template → Parser A) → Parser A → Option Template → Parser A
from_template p q (Some m) = p m
from_template p q None = q

-- a template is looked for alone, and then what stands there is read
pub template_first : {A : Type 0} (i : Inner) (f : Flags) (at : ℕ) (p : Template → Parser A) (q : Parser A) (c : Input) → on_template i f at p q c ≡ after (one_template i f at c) (from_template p q)
unfolding one_template from_template
template_first i f at p q c = after_template (from_template p q) i f at (λ m. returns (Some m)) (returns None) p q c (λ m d. refl) refl

module _ {A : Type 0} (i : Inner) (f : Flags) (at : ℕ) (p : Template → Parser A) (q : Parser A) (c : Input) where
  pub on_one_template : (d : Input) (m : Template) → one_template i f at c ≡ Took (Some m) d → on_template i f at p q c ≡ p m d
  unfolding from_template
  on_one_template d m h = template_first i f at p q c ∙ ap (λ o. after o (from_template p q)) h

  pub off_one_template : (d : Input) → one_template i f at c ≡ Took None d → on_template i f at p q c ≡ q d
  unfolding from_template
  off_one_template d h = template_first i f at p q c ∙ ap (λ o. after o (from_template p q)) h

  pub one_template_fault : (stop : Stop) (ts : List Filled) → one_template i f at c ≡ Fault stop ts → on_template i f at p q c ≡ Fault stop ts
  one_template_fault stop ts h = template_first i f at p q c ∙ ap (λ o. after o (from_template p q)) h
