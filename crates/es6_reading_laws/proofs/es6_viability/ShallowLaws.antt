-- At each token of an expression, a statement or a module that is read, at most as many constructs are open in it as may be.
use Rattle.std.proofs.Common.{◌≡◌, ◌∙◌, ℕ, suc, ◌+◌, ◌-◌, ◌<◌, ◌≤◌, true, List, [], ◌∷◌, ◌++◌, length, length-append, map, take, ap, sym, refl, subst, arith}
use Rattle.std.proofs.lemmas.List.{map-append}
use Rattle.es6_lexer.specs.declared.token.Token.{Token}
use Rattle.es6_ast.specs.Depth.{begin_of_last, closes_group, expression_spans, open_groups, opens_group, statement_spans}
use Rattle.es6_ast.specs.Tokens.{Filled, read}
use Rattle.es6_reading.specs.Expressions.{sequence}
use Rattle.es6_reading.specs.Modules.{most_open, read_module, readers, whole_module}
use Rattle.es6_reading.specs.Parser.{Input, Parser, Reading}
use Rattle.es6_reading.specs.Statements.{statement}
use Rattle.es6_reading.proofs.Posts.{Holds, of_took, weaken}
use Rattle.es6_reading.proofs.Shallow.{opens_of, closes_of, Sorted, Walk, stay, step, Ready}
use Rattle.es6_reading.proofs.ShallowItems.{shallow}
use Rattle.es6_reading.proofs.ShallowModules.{depth}
use Rattle.es6_reading.proofs.ShallowLevels as levels'
use Rattle.es6_reading.proofs.ShallowStatements as statements'
use Rattle.es6_reading.proofs.ShallowStatements.{StatementAt}
use Rattle.es6_reading.proofs.SpanCounts.{around-is, in_expression, in_statement}
use Rattle.es6_reading_laws.specs.es6_viability.TooDeep.{IsShallowIn, open_in_expression, open_in_module, open_in_statement, ExpressionsAreShallow, StatementsAreShallow}
use Rattle.es6_reading_laws.proofs.es6_viability.Passed.{take-next}
use Rattle.es6_reading_laws.proofs.es6_viability.Texts.{begin-last, head-of, length-more, sorted, tail-of}

module _ {room low high : ℕ} {D : ℕ → ℕ} where
  pub bounded : {g n : ℕ} {ts vs : List Filled} → Walk room D low high g ts n vs → (front : List Token) (t : Token) (us : List Filled) → ts ≡ map read front ++ read t ∷ us → length vs ≤ length us → open_groups g (front ++ t ∷ []) + D t.span.begin ≤ room
  bounded (stay {ts = ts}) front t us e l = absurd (too-long (length us) (length ts) (length (map read front ++ read t ∷ us)) (ap length e) (length-more front (read t ∷ us)) l)
    where
      too-long : (a b c : ℕ) → b ≡ c → suc a ≤ c → b ≤ a → ⊥
      too-long a b c e h l = omega arith
  bounded {g = g} (step {t = v} l m b e w) [] t us q n =
      let opens : opens_of v.kind ≡ opens_group t.kind = ap (λ u. opens_of u.kind) (head-of q) in
      let place : D v.span.begin ≡ D t.span.begin = ap (λ u. D u.span.begin) (head-of q) in
      omega (arith, b, opens, place)
  bounded {g = g} (step {k = k} {t = v} l m b e w) (u ∷ front) t us q n = on front (bounded w front t us (tail-of q) n)
    where
      exact : g + opens_group u.kind - closes_group u.kind ≡ k
      exact = by (ap (λ x. g + opens_of x.kind) (sym (head-of q)) ∙ e ∙ ap (λ x. k + closes_of x.kind) (head-of q))
        where
          by : g + opens_group u.kind ≡ k + closes_group u.kind → g + opens_group u.kind - closes_group u.kind ≡ k
          by h = omega (arith, h)

      on : (front : List Token) → open_groups k (front ++ t ∷ []) + D t.span.begin ≤ room → open_groups g (u ∷ front ++ t ∷ []) + D t.span.begin ≤ room
      on [] h = subst (λ a. open_groups a (t ∷ []) + D t.span.begin ≤ room) (sym exact) h
      on (x ∷ xs) h = subst (λ a. open_groups a (x ∷ xs ++ t ∷ []) + D t.span.begin ≤ room) (sym exact) h

abbrev begin-of : (tokens : List Token) → Input
begin-of tokens = record { tokens = map read tokens; last = 0 }

ready-of : (tokens : List Token) (room : ℕ) → Sorted 0 (map read tokens) → Ready room 0 (begin-of tokens)
ready-of tokens room w = record { sorted = w; fits = omega arith }

-- a reader of which it is known what it walks over
module _ {A : Type 0} (count : A → List Token → ℕ) (D : A → ℕ → ℕ) (counts : (x : A) (tokens : List Token) → open_groups 0 tokens + D x (begin_of_last tokens) ≡ count x tokens) (room : ℕ) (p : Parser A)
    (walks : (tokens : List Token) → Sorted 0 (map read tokens) → Holds (λ x c. (low : ℕ) × (high : ℕ) × (n : ℕ) × Walk room (D x) low high 0 (map read tokens) n c.tokens) (p (begin-of tokens))) where
  shallow-in : IsShallowIn room count p
  shallow-in tokens a x after h front behind t e l =
      let w = of_took {Q = λ x c. (low : ℕ) × (high : ℕ) × (n : ℕ) × Walk room (D x) low high 0 (map read tokens) n c.tokens} {x = x} {c = after} (subst (λ o. Holds (λ x c. (low : ℕ) × (high : ℕ) × (n : ℕ) × Walk room (D x) low high 0 (map read tokens) n c.tokens) o) h (walks tokens (sorted tokens a))) in
      let whole : map read tokens ≡ map read front ++ read t ∷ map read behind = ap (map read) e ∙ map-append read front (t ∷ behind) in
      let b = bounded w.3 front t (map read behind) whole (subst (λ n. length after.tokens ≤ n) (sym (length-read behind)) l) in
      subst (λ n. n ≤ room) (counts x (front ++ t ∷ [])) (subst (λ at. open_groups 0 (front ++ t ∷ []) + D x at ≤ room) (sym (begin-last front t)) b)
    where
      length-read : (ts : List Token) → length (map read ts) ≡ length ts
      length-read [] = refl
      length-read (t ∷ ts) = ap (λ n. suc n) (length-read ts)

pub expressions-are-shallow : ExpressionsAreShallow
expressions-are-shallow fuel room f = shallow-in (λ (x : Reading). open_in_expression x.value) (λ x. in_expression x.value) (λ x tokens. ap (λ n. open_groups 0 tokens + n) (around-is (expression_spans x.value) (begin_of_last tokens))) room (sequence (readers true fuel room) f)
    (λ tokens w. weaken (levels'.sequence (readers true fuel room) room (shallow true fuel room) f (begin-of tokens) (ready-of tokens room w)) (λ x c a. (0, c.last, 0, a.0.walk)))

pub statements-are-shallow : StatementsAreShallow
statements-are-shallow fuel room f stand = shallow-in open_in_statement in_statement (λ x tokens. ap (λ n. open_groups 0 tokens + n) (around-is (statement_spans x) (begin_of_last tokens))) room (statement (readers true fuel room) f stand)
    (λ tokens w. weaken (statements'.statement (readers true fuel room) room (shallow true fuel room) f stand (begin-of tokens) (ready-of tokens room w)) (λ x c a. (0, c.last, 0, a.0.walk)))

module-read : (fuel : ℕ) (tokens : List Filled) → read_module fuel tokens ≡ whole_module (readers true fuel most_open) (record { tokens = tokens; last = 0 })
unfolding read_module
module-read fuel tokens = refl

-- of a module it is law of es6_reading, by the number of the token
pub modules-are-shallow : (fuel : ℕ) → IsShallowIn most_open open_in_module (whole_module (readers true fuel most_open))
modules-are-shallow fuel tokens a x after h front behind t e l =
    let next : length front + 1 ≡ suc (length front) = omega arith in
    let here : take (length front + 1) tokens ≡ front ++ t ∷ [] = ap (λ n. take n tokens) next ∙ ap (λ ts. take (suc (length front)) ts) e ∙ take-next front t behind in
    subst (λ ts. open_in_module x ts ≤ most_open) here (depth fuel tokens x after a.placed (module-read fuel (map read tokens) ∙ h) (length front) (subst (λ ts. length front < length ts) (sym e) (omega (arith, length-append front (t ∷ behind)))))
