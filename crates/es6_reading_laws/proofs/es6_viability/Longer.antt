-- Two readers, of which the loops of the second one have more turns. What the first one makes of tokens the second one makes of them too,
-- unless the first one has used up its turns.
use Rattle.std.proofs.Common.{◌≡◌, ℕ, Bool, true, false, List, [], ◌∷◌, Option, Some, None, subst}
use Rattle.es6_lexer.specs.declared.token.Punctuator.{Punctuator as Mark}
use Rattle.es6_ast.specs.declared.settings.Stop.{Stop}
use Rattle.es6_ast.specs.declared.settings.Stop.TheVariants.{Depth, Endless}
use Rattle.es6_ast.specs.Tokens.{Filled, begin_of}
use Rattle.es6_reading.specs.Parser.{Input, Outcome, Took, Fault, Parser, fails, after, on, on_taken, choose, next_is, if_next, from, mark, next_mark, refused, no_number, no_expression, take_as, Inner, on_group}

pub data Later {A : Type 0} : Outcome A → Outcome A → Type 0 where
  same : {o : Outcome A} → Later o o
  gave_up : {us : List Filled} {o : Outcome A} → Later (Fault Endless us) o

abbrev pub Keeps : {A : Type 0} → Parser A → Parser A → Input → Type 0
Keeps p p' s = Later (p s) (p' s)

pub as_is : {A : Type 0} (p : Parser A) (s : Input) → Keeps p p s
as_is p s = same

pub done : {A : Type 0} {x : A} {c : Input} → Later (Took x c) (Took x c)
done = same

pub stops : {A : Type 0} {stop : Stop} {ts : List Filled} → Later {A = A} (Fault stop ts) (Fault stop ts)
stops = same

pub nowhere : {A : Type 0} (s : Input) → Keeps {A = A} refused refused s
nowhere s = same

pub number : {A : Type 0} (s : Input) → Keeps {A = A} no_number no_number s
number s = same

pub expression : {A : Type 0} (s : Input) → Keeps {A = A} no_expression no_expression s
expression s = same

pub take : {B : Type 0} (test : Filled → Option B) (s : Input) → Keeps (take_as test) (take_as test) s
take test s = same

pub bind : {A B : Type 0} {o o' : Outcome A} (q q' : A → Parser B) → Later o o' → ((x : A) (c : Input) → Keeps (q x) (q' x) c) → Later (after o q) (after o' q')
bind {o = Took x c} q q' same f = f x c
bind {o = Fault stop ts} q q' same f = same
bind q q' gave_up f = gave_up

pub either : {A : Type 0} (b : Bool) (p p' q q' : Parser A) (s : Input) → Keeps p p' s → Keeps q q' s → Keeps (choose b p q) (choose b p' q') s
either true p p' q q' s f g = f
either false p p' q q' s f g = g

pub looks : {A : Type 0} (test : Filled → Bool) (p p' q q' : Parser A) (s : Input) → Keeps p p' s → Keeps q q' s → Keeps (if_next test p q) (if_next test p' q') s
looks test p p' q q' s f g = either (next_is test s.tokens) p p' q q' s f g

pub next : {A B : Type 0} (test : Filled → Option B) (p p' : B → Parser A) (q q' : Parser A) (s : Input) → ((x : B) (c : Input) → Keeps (p x) (p' x) c) → Keeps q q' s → Keeps (on test p q) (on test p' q') s
next {A = A} {B = B} test p p' q q' s f g = at s.tokens s.last g
  where
    known : (v : Option B) (t : Filled) (ts : List Filled) (c : Input) → Keeps q q' c → Later (on_taken v t ts p q c) (on_taken v t ts p' q' c)
    known (Some x) t ts c g = f x (record { tokens = ts; last = t.span.end })
    known None t ts c g = g

    at : (ts : List Filled) (last : ℕ) → Keeps q q' (record { tokens = ts; last = last }) → Keeps (on test p q) (on test p' q') (record { tokens = ts; last = last })
    at [] last g = g
    at (t ∷ ts) last g = known (test t) t ts (record { tokens = t ∷ ts; last = last }) g

pub begins : {A : Type 0} (p p' : ℕ → Parser A) (s : Input) → ((at : ℕ) → Keeps (p at) (p' at) s) → Keeps (from p) (from p') s
begins p p' s f = f (begin_of s.tokens)

-- as many constructs may open in both
pub opened : {A : Type 0} {b b' : Bool} (p p' : Parser A) (s : Input) → b ≡ b' → Keeps p p' s → Keeps (choose b p (fails Depth)) (choose b' p' (fails Depth)) s
opened {b = b} p p' s e f = subst (λ v. Keeps (choose b p (fails Depth)) (choose v p' (fails Depth)) s) e (either b p p' (fails Depth) (fails Depth) s f same)

pub group : {A : Type 0} (i j : Inner) → i.may_open ≡ j.may_open → (m : Mark) (p p' q q' : Parser A) (s : Input) → ((c : Input) → Keeps p p' c) → Keeps q q' s → Keeps (on_group i m p q) (on_group j m p' q') s
group i j o m p p' q q' s f g = looks (next_mark m) _ _ q q' s (opened _ _ s o (next (mark m) (λ t. p) (λ t. p') q q' s (λ t c. f c) g)) g

-- both put in semicolons, or none does
pub inserted : {A : Type 0} {b b' : Bool} (p : Parser A) (s : Input) → b ≡ b' → Keeps (choose b p refused) (choose b' p refused) s
inserted {b = b} p s e = subst (λ v. Keeps (choose b p refused) (choose v p refused) s) e same
