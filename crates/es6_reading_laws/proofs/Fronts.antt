-- An expression or a statement that tokens begin with, with semicolons put in at breaks, is what is read of them.
use Rattle.std.specs.Prelude.{codes}
use Rattle.std.proofs.Common.{◌≡◌, ◌∙◌, ℕ, zero, suc, ◌≤◌, arith, Bool, true, false, List, [], ◌∷◌, ◌++◌, map, refl, sym, ap}
use Rattle.std.proofs.lemmas.Bool.{false≢true}
use Rattle.es6_lexer.specs.declared.token.Token.{Token}
use Rattle.es6_lexer.specs.declared.token.TokenKind.TheVariants.{Word}
use Rattle.es6_ast.specs.declared.settings.Flags.{Flags}
use Rattle.es6_ast.specs.declared.settings.Stand.TheVariants.{Listed}
use Rattle.es6_ast.specs.declared.settings.Stop.{Stop}
use Rattle.es6_ast.specs.declared.tree.Statement.{Statement}
use Rattle.es6_ast.specs.Tokens.{Read, Filled, is_word, read}
use Rattle.es6_reading.specs.Expressions.{sequence}
use Rattle.es6_reading.specs.Laws.{BeginWith}
use Rattle.es6_reading.specs.Modules.{readers}
use Rattle.es6_reading.specs.Parser.{Input, Outcome, Took, Fault, Parser, Reading, word}
use Rattle.es6_reading.specs.Statements.{statement}
use Rattle.es6_reading.proofs.CompleteLevels.{reading}
use Rattle.es6_reading.proofs.CompleteStatements.{StatementClaim}
use Rattle.es6_reading.proofs.CompleteTokens.{word-miss}
use Rattle.es6_reading.proofs.Completeness.{expression-read, listed-read}
use Rattle.es6_reading.proofs.Exactly.{ReadsExactly}
use Rattle.es6_reading.proofs.Follows.{plus, SameHead, nothing, same}
use Rattle.es6_reading.proofs.LocalExpressions as x'
use Rattle.es6_reading.proofs.LocalModules as m'
use Rattle.es6_reading.proofs.LocalReaders.{gain, grown}
use Rattle.es6_reading.proofs.Locality.{Gain, Modes, Local, LocalOf, took_so, stops_so, too_deep as deeper_now, too_long as longer_now, not_inserted, same_mode, now_inserts}
use Rattle.es6_reading.proofs.Meanings.{word-is}
use Rattle.es6_reading.proofs.Posts.{Misses}
use Rattle.es6_reading.proofs.Reading.{Eventually}
use Rattle.es6_reading_laws.specs.Breaks.{Breaks}
use Rattle.es6_reading_laws.specs.Fronts.{Settles, reads, too_deep, too_long, ExpressionsAreRead, StatementsAreRead}
use Rattle.es6_reading_laws.proofs.Across.{Gap, AcrossBy}
use Rattle.es6_reading_laws.proofs.AcrossExpressions as e'
use Rattle.es6_reading_laws.proofs.AcrossStatements as s'
use Rattle.es6_reading_laws.proofs.AcrossStatements.{crosses}
use Rattle.es6_reading_laws.proofs.AtBreaks.{all-left-out}
use Rattle.es6_reading_laws.proofs.OneExpression.{SequenceRead, read-of, outcome-of}

same-refl : (ts : List Filled) → SameHead ts ts
same-refl [] = nothing
same-refl (t ∷ ts) = same

plus-zero : (n : ℕ) → plus n zero ≡ n
plus-zero zero = refl
plus-zero (suc n) = ap (λ m. suc m) (plus-zero n)

more-left : (n l : ℕ) → l ≤ plus n l
more-left zero l = omega arith
more-left (suc n) l = up (plus n l) l (more-left n l)
  where
    up : (a b : ℕ) → b ≤ a → b ≤ suc a
    up a b h = omega arith

took-again : {A : Type 0} {l : Gain} {r : List Filled → Outcome A} {ts : List Filled} {o : Outcome A} {x : A} {c : Input} → LocalOf l r ts o → o ≡ Took x c → r ts ≡ Took x c
took-again {r = r} (took_so {c = c} front e g) h = ap r e ∙ g c.tokens (same-refl c.tokens) ∙ h
took-again (stops_so front e g) h = absurd (cc)
took-again (deeper_now m) h = absurd (cc)
took-again (longer_now m) h = absurd (cc)
took-again (not_inserted m) h = absurd (cc)

value-of : {A : Type 0} {a b : A} {p q : Input} → Took a p ≡ Took b q → a ≡ b
value-of k = cc

input-of : {A : Type 0} {a b : A} {p q : Input} → Took a p ≡ Took b q → p ≡ q
input-of k = cc

differ : {A : Type 0} {o : Outcome A} {stop : Stop} {vs : List Filled} {a : A} {p : Input} → o ≡ Fault stop vs → o ≡ Took a p → ⊥
differ k l = absurd (cc)

settled : {A B : Type 0} {l : ℕ} {r : List Filled → Outcome A} {ts : List Filled} {o : Outcome A} (made : A → B) (y : A) (d : Input) → LocalOf (gain l false) r ts o → r ts ≡ Took y d → Settles made (made y) d.tokens o
settled {r = r} made y d (took_so {c = c} front e g) h =
    let same_run = sym (ap r e ∙ g c.tokens (same-refl c.tokens)) ∙ h in
    reads (ap made (value-of same_run)) (ap (λ z. z.tokens) (input-of same_run))
settled {r = r} made y d (stops_so {us = us} front e g) h = absurd (differ (ap r e ∙ g us (same-refl us)) h)
settled made y d (deeper_now m) h = too_deep
settled made y d (longer_now m) h = too_long
settled made y d (not_inserted m) h = absurd (false≢true m)

-- A reader, by whether it inserts semicolons, how many turns a loop has, and how many constructs may open.
module _ {A B : Type 0} (p : Bool → ℕ → ℕ → Parser A)
    (local : (g a b : Bool) (fuel room l : ℕ) → Modes (gain l g) a b → (s : Input) → Local (gain l g) (p a fuel room) (p b (plus fuel l) (plus room l)) s)
    {v : Bool} (across : (fuel room : ℕ) (g : Gap) (s : Input) → AcrossBy v g (p true fuel room) s) (made : A → B) where
  abbrev run : Bool → ℕ → ℕ → List Filled → Outcome A
  run mode fuel room ts = p mode fuel room (record { tokens = ts; last = 0 })

  -- the reader that inserts takes it too
  inserting : (fuel room : ℕ) (ts : List Filled) (x : A) (c : Input) → run false fuel room ts ≡ Took x c → run true fuel room ts ≡ Took x c
  inserting fuel room ts x c h =
      ap (λ n. run true n room ts) (sym (plus-zero fuel)) ∙ ap (λ n. run true (plus fuel zero) n ts) (sym (plus-zero room))
      ∙ took-again (local true false true fuel room zero (now_inserts refl) (record { tokens = ts; last = 0 })) h

  pub front-is-read : (fuel room : ℕ) (tokens rest : List Token) (filled : List Filled) (x : A) → Breaks [] tokens filled rest → Eventually (λ t k r. ReadsExactly (p false k r) x (filled ++ map read rest) (map read rest))
      → Settles made (made x) (map read rest) (run true fuel room (map read tokens))
  front-is-read fuel room tokens rest filled x g e =
      let l : ℕ = e.bound in
      let row : List Filled = filled ++ map read rest in
      let k = outcome-of (e.reads (plus fuel l) (plus fuel l) (plus room l) (more-left fuel l) (more-left fuel l) (more-left room l) 0) in
      let c : Input = record { tokens = map read rest; last = k.0 } in
      let all : run true (plus fuel l) (plus room l) (map read tokens) ≡ Took x c =
      all-left-out (p true (plus fuel l) (plus room l)) (across (plus fuel l) (plus room l)) rest x c refl g (inserting (plus fuel l) (plus room l) row x c k.1) in
      settled made x c (local false true true fuel room l same_mode (record { tokens = map read tokens; last = 0 })) all

-- ## Expressions

sequence-local : (f : Flags) (g a b : Bool) (fuel room l : ℕ) → Modes (gain l g) a b → (s : Input) → Local (gain l g) (sequence (readers a fuel room) f) (sequence (readers b (plus fuel l) (plus room l)) f) s
sequence-local f g a b fuel room l m s = x'.sequence (readers a fuel room) (readers b (plus fuel l) (plus room l)) (grown g a b fuel room l m) f s

sequence-across : (f : Flags) (fuel room : ℕ) (g : Gap) (s : Input) → AcrossBy false g (sequence (readers true fuel room) f) s
sequence-across f fuel room g s = e'.sequence (readers true fuel room) (crosses g fuel room) f s

pub expressions-are-read : ExpressionsAreRead
expressions-are-read fuel room f tokens rest x d e =
    let c = expression-read d.spelled in
    let reading_ : SequenceRead f (d.filled ++ map read rest) (map read rest) (reading x c.shape) = read-of e c in
    front-is-read (λ mode n k. sequence (readers mode n k) f) (sequence-local f) (sequence-across f) (λ (r : Reading). r.value) fuel room tokens rest d.filled (reading x c.shape) d.breaks reading_

-- ## Statements

statement-local : (f : Flags) (g a b : Bool) (fuel room l : ℕ) → Modes (gain l g) a b → (s : Input) → Local (gain l g) (statement (readers a fuel room) f Listed) (statement (readers b (plus fuel l) (plus room l)) f Listed) s
statement-local f g a b fuel room l m s = m'.statement (readers a fuel room) (readers b (plus fuel l) (plus room l)) (grown g a b fuel room l m) f Listed s

statement-across : (f : Flags) (fuel room : ℕ) (g : Gap) (s : Input) → AcrossBy true g (statement (readers true fuel room) f Listed) s
statement-across f fuel room g s = s'.statement (readers true fuel room) (crosses g fuel room) f Listed s

no-finally : (us : List Filled) → (BeginWith (Read (Word (codes "finally"))) us → ⊥) → Misses (word (codes "finally")) us
no-finally [] n = tt
no-finally (t ∷ ts) n = word-miss (codes "finally") t (by (is_word (codes "finally") t.kind) (λ e. n (word-is (codes "finally") t.kind e)))
  where
    by : (b : Bool) → (b ≡ true → ⊥) → b ≡ false
    by false n = refl
    by true n = absurd (n refl)

pub statements-are-read : StatementsAreRead
statements-are-read fuel room f tokens rest s d n =
    let c : StatementClaim f Listed (d.filled ++ map read rest) (map read rest) s = listed-read d.spelled in
    front-is-read (λ mode n k. statement (readers mode n k) f Listed) (statement-local f) (statement-across f) (λ (y : Statement). y) fuel room tokens rest d.filled s d.breaks (c.reads (no-finally (map read rest) n))
