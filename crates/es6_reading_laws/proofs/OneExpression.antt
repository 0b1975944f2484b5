-- What is derived as an expression is what the reader takes, and it alone.
use Rattle.std.proofs.Common.{◌≡◌, ◌∙◌, ℕ, ◌+◌, ◌≤◌, arith, Bool, true, false, ◌||◌, not, List, [], ◌∷◌, Option, Some, None, refl, sym, ap}
use Rattle.es6_lexer.specs.declared.token.Punctuator.{Punctuator as Mark}
use Rattle.es6_lexer.specs.declared.token.Punctuator.TheVariants as marks
use Rattle.es6_lexer.specs.declared.token.TokenKind.TheVariants as kinds
use Rattle.es6_ast.specs.declared.tree.Expression.{Expression}
use Rattle.es6_ast.specs.declared.settings.Flags.{Flags}
use Rattle.es6_ast.specs.Targets.{misfit}
use Rattle.es6_ast.specs.Tokens.{Read, Filled, IsMark}
use Rattle.es6_reading.specs.Expressions.{sequence, ends_value, ends_yield}
use Rattle.es6_reading.specs.Modules.{readers}
use Rattle.es6_reading.specs.Parser.{Input, Outcome, Took, Reading}
use Rattle.es6_reading.specs.Refine.{Refined, Fits}
use Rattle.es6_reading.specs.Refinements.{Places, no_misfit, first_misfit_at, too_deep}
use Rattle.es6_reading.proofs.CompleteClaims.{Claim}
use Rattle.es6_reading.proofs.CompleteLevels.{reading, sequence_level}
use Rattle.es6_reading.proofs.CompleteTokens.{Closes, EndsYield, closes-close, closes-square, closes-brace, closes-colon, closes-semicolon}
use Rattle.es6_reading.proofs.Completeness.{expression-read}
use Rattle.es6_reading.proofs.Cover.{cover}
use Rattle.es6_reading.proofs.Exactly.{Exactly, exactly, ReadsExactly}
use Rattle.es6_reading.proofs.Reading.{Eventually}
use Rattle.es6_reading.proofs.Refinement.{refinement}
use Rattle.es6_reading_laws.specs.Fronts.{EndsThere, at_end, parenthesis, bracket, brace, colon, semicolon, IsOneExpression, MisfitsAreNoPatterns}

-- ## Where nothing goes on

closes-end : (f : Flags) → Closes f 0 []
closes-end f = record {
  dot = refl;
  bracket = refl;
  template = refl;
  paren = λ l. refl;
  after = λ l. tt;
  raised = λ l. tt;
  operator = λ level l m. tt;
  question = λ l. tt;
  arrow = λ l. refl;
  assigns = λ l. tt;
  comma = λ l. tt;
}

pub closes : (f : Flags) {us : List Filled} → EndsThere us → Closes f 0 us
closes f at_end = closes-end f
closes f (parenthesis {t = t} {ts = ts} e) = closes-close f ts t e
closes f (bracket {t = t} {ts = ts} e) = closes-square f ts t e
closes f (brace {t = t} {ts = ts} e) = closes-brace f ts t e
closes f (colon {t = t} {ts = ts} e) = closes-colon f ts t e
closes f (semicolon {t = t} {ts = ts} e) = closes-semicolon f ts t e

ended-by : (newline : Bool) (v : Bool) → v ≡ true → not (newline || v) ≡ false
ended-by true v e = refl
ended-by false v e = ap (λ w. not w) e

value-ends : (p : Mark) (t : Filled) (ts : List Filled) (level : ℕ) → IsMark p t → ends_value (Read (kinds.Punctuator p)) ≡ true → EndsYield level (t ∷ ts)
unfolding ends_yield
value-ends p t ts level e v l = ended-by t.newline (ends_value t.kind) (ap (λ k. ends_value k) e ∙ v)

pub yields : (level : ℕ) {us : List Filled} → EndsThere us → EndsYield level us
yields level at_end l = refl
yields level (parenthesis {t = t} {ts = ts} e) l = value-ends marks.RightParenthesis t ts level e refl l
yields level (bracket {t = t} {ts = ts} e) l = value-ends marks.RightBracket t ts level e refl l
yields level (brace {t = t} {ts = ts} e) l = value-ends marks.RightBrace t ts level e refl l
yields level (colon {t = t} {ts = ts} e) l = value-ends marks.Colon t ts level e refl l
yields level (semicolon {t = t} {ts = ts} e) l = value-ends marks.Semicolon t ts level e refl l

-- ## The reading of a derived expression

low-zero : (n : ℕ) → 0 ≤ n
low-zero n = omega arith

abbrev pub SequenceRead : Flags → List Filled → List Filled → Reading → Type 0
SequenceRead f ts us r = Eventually (λ t k n. ReadsExactly (sequence (readers false k n) f) r ts us)

pub read-of : {f : Flags} {least : ℕ} {ts us : List Filled} {x : Expression} → EndsThere us → (c : Claim f least ts us x) → SequenceRead f ts us (reading x c.shape)
read-of {f = f} {least = least} e c = c.levels 0 sequence_level (low-zero least) (closes f e) (yields least e)

pub outcome-of : {A : Type 0} {x : A} {s : Input} {us : List Filled} {o : Outcome A} → Exactly x s us o → (end : ℕ) × (o ≡ Took x (record { tokens = us; last = end }))
outcome-of (exactly {end = end} m) = (end, refl)

took-one : {a b : Reading} {p q : Input} → Took a p ≡ Took b q → a ≡ b
took-one k = cc

one-reading : {a b : Reading} {s : Input} {us : List Filled} {o : Outcome Reading} → Exactly a s us o → Exactly b s us o → a ≡ b
one-reading h k = took-one (sym (outcome-of h).1 ∙ (outcome-of k).1)

low-left : (n m : ℕ) → n ≤ n + m
low-left n m = omega arith

low-right : (n m : ℕ) → m ≤ n + m
low-right n m = omega arith

pub one-expression : IsOneExpression
one-expression f a b ts x y d e =
    let c : Claim f a ts [] x = expression-read d in
    let g : Claim f b ts [] y = expression-read e in
    let p : SequenceRead f ts [] (reading x c.shape) = read-of at_end c in
    let q : SequenceRead f ts [] (reading y g.shape) = read-of at_end g in
    let n : ℕ = p.bound + q.bound in
    ap (λ r. r.value) (one-reading (p.reads n n n (low-left p.bound q.bound) (low-left p.bound q.bound) (low-left p.bound q.bound) 0) (q.reads n n n (low-right p.bound q.bound) (low-right p.bound q.bound) (low-right p.bound q.bound) 0))

-- ## Patterns

fits-where-none : {A : Type 0} {m : Option ℕ} {r : Refined A} {y : A} → Places m r → r ≡ Fits y → m ≡ None
fits-where-none (no_misfit h) e = h
fits-where-none (first_misfit_at h) e = absurd (cc)
fits-where-none too_deep e = absurd (cc)

self-low : (n : ℕ) → n ≤ n
self-low n = omega arith

not-both : (o : Option ℕ) (at : ℕ) → o ≡ Some at → o ≡ None → ⊥
not-both o at h k = absurd (cc)

pub no-patterns : MisfitsAreNoPatterns
no-patterns x at h f least ts d p e =
    let y = cover.targets f ts [] p e in
    let n : misfit y.value ≡ None = fits-where-none (refinement.places y.enough y.value) (y.becomes y.enough (self-low y.enough)) in
    not-both (misfit x) at h (ap (λ z. misfit z) (one-expression f least _ ts x y.value d y.spelled) ∙ n)
