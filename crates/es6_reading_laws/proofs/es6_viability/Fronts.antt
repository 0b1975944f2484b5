-- An expression or a statement that tokens begin with, with semicolons put in where none goes on, is what is read of them.
use Rattle.std.specs.Prelude.{codes}
use Rattle.std.proofs.Common.{◌≡◌, ◌∙◌, ℕ, zero, suc, ◌+◌, ◌≤◌, arith, Bool, true, false, Option, List, [], ◌∷◌, ◌++◌, map, length, refl, sym, ap, subst}
use Rattle.std.proofs.lemmas.Bool.{false≢true}
use Rattle.es6_lexer.specs.declared.token.Token.{Token}
use Rattle.es6_lexer.specs.declared.token.TokenKind.TheVariants.{Word}
use Rattle.es6_ast.specs.declared.settings.Flags.{Flags}
use Rattle.es6_ast.specs.declared.settings.Stand.TheVariants.{Listed}
use Rattle.es6_ast.specs.declared.settings.Stop.{Stop}
use Rattle.es6_ast.specs.declared.tree.Expression.{Expression}
use Rattle.es6_ast.specs.declared.tree.Statement.{Statement}
use Rattle.es6_ast.specs.Grammar.{level_sequence, IsExpression, IsListed}
use Rattle.es6_ast.specs.Semicolons.{Fills}
use Rattle.es6_ast.specs.Tokens.{Read, Filled, is_word, read}
use Rattle.es6_reading.specs.Expressions.{sequence}
use Rattle.es6_reading.specs.Laws.{BeginWith}
use Rattle.es6_reading.specs.Modules.{readers}
use Rattle.es6_reading.specs.Parser.{Input, Outcome, Took, Fault, Parser, Reading, word}
use Rattle.es6_reading.specs.Statements.{statement}
use Rattle.es6_reading.proofs.CompleteLevels.{reading}
use Rattle.es6_reading.proofs.CompleteStatements.{StatementClaim}
use Rattle.es6_reading.proofs.CompleteTokens.{word-miss}
use Rattle.es6_reading.proofs.Completeness.{expression-read, listed-read}
use Rattle.es6_reading.proofs.Derived.{ReadWhole, StatementIn}
use Rattle.es6_reading.proofs.Exactly.{ReadsExactly}
use Rattle.es6_reading.proofs.Follows.{plus, SameHead, nothing as no_head, same}
use Rattle.es6_reading.proofs.LocalExpressions as x'
use Rattle.es6_reading.proofs.LocalModules as m'
use Rattle.es6_reading.proofs.LocalReaders.{gain, grown}
use Rattle.es6_reading.proofs.Locality.{Gain, Modes, Local, LocalOf, took_so, stops_so, too_deep as deeper_now, too_long as longer_now, not_inserted, same_mode, now_inserts}
use Rattle.es6_reading.proofs.Meanings.{word-is}
use Rattle.es6_reading.proofs.Posts.{Holds, of_took, Misses}
use Rattle.es6_reading.proofs.Reading.{Eventually}
use Rattle.es6_reading.proofs.SoundDeclarations.{sound-statement}
use Rattle.es6_reading.proofs.SoundLevels.{sound-sequence}
use Rattle.es6_reading.proofs.Soundness.{sound-readers}
use Rattle.es6_reading_laws.specs.Fronts.{Settles, reads, too_deep, too_long}
use Rattle.es6_reading_laws.proofs.OneExpression.{SequenceRead, read-of, outcome-of}
use Rattle.es6_reading_laws.specs.es6_viability.Fronts.{IsExpressionBefore, IsStatementBefore, SpelledExpressionsAreRead, SpelledStatementsAreRead}
use Rattle.es6_reading_laws.proofs.es6_viability.Viable.{Any, Half, run_of}
use Rattle.es6_reading_laws.proofs.es6_viability.Completions.{nothing, behind_nothing}
use Rattle.es6_reading_laws.proofs.es6_viability.Expressions as expressions'
use Rattle.es6_reading_laws.proofs.es6_viability.Statements as statements'
use Rattle.es6_reading_laws.proofs.es6_viability.Readers.{better, lasting}
use Rattle.es6_reading_laws.proofs.es6_viability.Beside.{Gap, Loss, BesideBy}
use Rattle.es6_reading_laws.proofs.es6_viability.BesideExpressions as e'
use Rattle.es6_reading_laws.proofs.es6_viability.BesideStatements as s'
use Rattle.es6_reading_laws.proofs.es6_viability.BesideStatements.{crosses}
use Rattle.es6_reading_laws.proofs.es6_viability.LeftOut.{plus-zero, all-left-out}

same-refl : (ts : List Filled) → SameHead ts ts
same-refl [] = no_head
same-refl (t ∷ ts) = same

pub more-left : (n l : ℕ) → l ≤ plus n l
more-left zero l = omega arith
more-left (suc n) l = up (plus n l) l (more-left n l)
  where
    up : (a b : ℕ) → b ≤ a → b ≤ suc a
    up a b h = omega arith

most : (a b n : ℕ) → a + b ≤ n → a ≤ n
most a b n h = omega arith

rest_ : (a b n : ℕ) → a + b ≤ n → b ≤ n
rest_ a b n h = omega arith

one-up : (a n : ℕ) → a ≤ n → a ≤ suc n
one-up a n h = omega arith

took-again : {A : Type 0} {l : Gain} {r : List Filled → Outcome A} {ts : List Filled} {o : Outcome A} {x : A} {c : Input} → LocalOf l r ts o → o ≡ Took x c → r ts ≡ Took x c
took-again {r = r} (took_so {c = c} front e g) h = ap r e ∙ g c.tokens (same-refl c.tokens) ∙ h
took-again (stops_so front e g) h = absurd (cc)
took-again (deeper_now m) h = absurd (cc)
took-again (longer_now m) h = absurd (cc)
took-again (not_inserted m) h = absurd (cc)

value-of : {A : Type 0} {a b : A} {p q : Input} → Took a p ≡ Took b q → a ≡ b
value-of k = cc

input-of : {A : Type 0} {a b : A} {p q : Input} → Took a p ≡ Took b q → p ≡ q
input-of k = cc

differ : {A : Type 0} {o : Outcome A} {stop : Stop} {vs : List Filled} {a : A} {p : Input} → o ≡ Fault stop vs → o ≡ Took a p → ⊥
differ k l = absurd (cc)

settled : {A B : Type 0} {l : ℕ} {r : List Filled → Outcome A} {ts : List Filled} {o : Outcome A} (made : A → B) (y : A) (d : Input) → LocalOf (gain l false) r ts o → r ts ≡ Took y d → Settles made (made y) d.tokens o
settled {r = r} made y d (took_so {c = c} front e g) h =
    let same_run = sym (ap r e ∙ g c.tokens (same-refl c.tokens)) ∙ h in
    reads (ap made (value-of same_run)) (ap (λ z. z.tokens) (input-of same_run))
settled {r = r} made y d (stops_so {us = us} front e g) h = absurd (differ (ap r e ∙ g us (same-refl us)) h)
settled made y d (deeper_now m) h = too_deep
settled made y d (longer_now m) h = too_long
settled made y d (not_inserted m) h = absurd (false≢true m)

-- The reader, by how many turns a loop has and how many constructs may open, takes exactly this with more of both.
pub record IsReadWithMore {A : Type 0} (p : ℕ → ℕ → Parser A) (fuel room : ℕ) (tokens rest : List Token) (x : A) : Type 0 where
  pub more : ℕ
  pub last : ℕ
  pub taken : p (plus fuel more) (plus room more) (record { tokens = map read tokens; last = 0 }) ≡ Took x (record { tokens = map read rest; last = last })

-- A reader, by whether it inserts semicolons, how many turns a loop has, and how many constructs may open.
module _ {A : Type 0} (p : Bool → ℕ → ℕ → Parser A) (Full : List Filled → Type 0)
    (local : (g a b : Bool) (fuel room l : ℕ) → Modes (gain l g) a b → (s : Input) → Local (gain l g) (p a fuel room) (p b (plus fuel l) (plus room l)) s)
    {b : Option Loss} (across : (g : Gap) (fuel room : ℕ) (s : Input) → BesideBy b g (p true fuel room) (p false fuel (suc room)) s)
    {F : A → List Filled → Type 0} (viable : (fuel room : ℕ) (s : Input) → Half (lasting false fuel) F Any (run_of (p false (suc fuel) (plus (suc room) 3)) s.last) s.tokens (p false fuel (suc room) s))
    (ends : (x : A) → F x []) (full : (fuel room : ℕ) (us : List Filled) (x : A) (last : ℕ) → p false fuel room (record { tokens = us; last = 0 }) ≡ Took x (record { tokens = []; last = last }) → Full us) where
  abbrev run : Bool → ℕ → ℕ → List Filled → Outcome A
  run mode fuel room us = p mode fuel room (record { tokens = us; last = 0 })

  -- the reader that inserts takes it too
  inserting : (fuel room : ℕ) (ts : List Filled) (x : A) (c : Input) → run false fuel room ts ≡ Took x c → run true fuel room ts ≡ Took x c
  inserting fuel room ts x c h =
      ap (λ n. run true n room ts) (sym (plus-zero fuel)) ∙ ap (λ n. run true (plus fuel zero) n ts) (sym (plus-zero room))
      ∙ took-again (local true false true fuel room zero (now_inserts refl) (record { tokens = ts; last = 0 })) h

  -- it is read with turns and room enough
  front-is-read : (fuel room : ℕ) (tokens rest : List Token) (filled : List Filled) (x : A) → Fills Full [] tokens filled rest → Eventually (λ t k r. ReadsExactly (p false k r) x (filled ++ map read rest) (map read rest))
      → IsReadWithMore (p true) fuel room tokens rest x
  front-is-read fuel room tokens rest filled x g e =
      let row : List Filled = filled ++ map read rest in
      let enough : ℕ = suc (suc (length row)) in
      let l : ℕ = e.bound + enough in
      let turns : ℕ = plus fuel l in
      let open_ : ℕ = plus room l in
      let t : e.bound ≤ turns = most e.bound enough turns (more-left fuel l) in
      let o : e.bound ≤ open_ = most e.bound enough open_ (more-left room l) in
      let k = outcome-of (e.reads turns turns open_ t t o 0) in
      let k' = outcome-of (e.reads turns turns (suc open_) t t (one-up e.bound open_ o) 0) in
      let c : Input = record { tokens = map read rest; last = k.0 } in
      let all : run true turns open_ (map read tokens) ≡ Took x c =
      all-left-out p Full local across viable ends full turns open_ row x c (record { tokens = map read rest; last = k'.0 }) k'.1 rest refl g (rest_ e.bound enough turns (more-left fuel l)) refl (inserting turns open_ row x c k.1) in
      record { more = l; last = k.0; taken = all }

-- what such a reader makes of it
settles : {A B : Type 0} (p : ℕ → ℕ → Parser A) (made : A → B) (local : (fuel room l : ℕ) (s : Input) → Local (gain l false) (p fuel room) (p (plus fuel l) (plus room l)) s) {fuel room : ℕ} {tokens rest : List Token} {x : A}
    → IsReadWithMore p fuel room tokens rest x → Settles made (made x) (map read rest) (p fuel room (record { tokens = map read tokens; last = 0 }))
settles p made local {fuel = fuel} {room = room} {tokens = tokens} {rest = rest} {x = x} r = settled made x (record { tokens = map read rest; last = r.last }) (local fuel room r.more (record { tokens = map read tokens; last = 0 })) r.taken

-- ## Expressions

-- what is read of the tokens of an expression
pub record ExpressionRead (f : Flags) (fuel room : ℕ) (tokens rest : List Token) (x : Expression) : Type 0 where
  pub reading : Reading
  pub same_value : reading.value ≡ x
  pub taken : IsReadWithMore (λ n k. sequence (readers true n k) f) fuel room tokens rest reading

pub expression-is-read : (fuel room : ℕ) (f : Flags) (tokens rest : List Token) (x : Expression) → IsExpressionBefore f tokens x rest → ExpressionRead f fuel room tokens rest x
expression-is-read fuel room f tokens rest x (d, e) =
    let c = expression-read d.spelled in
    let reading_ : SequenceRead f (d.filled ++ map read rest) (map read rest) (reading x c.shape) = read-of e c in
    record {
      reading = reading x c.shape;
      same_value = refl;
      taken = front-is-read (λ mode n k. sequence (readers mode n k) f) (λ row. (y : Expression) × IsExpression f level_sequence row y [])
          (λ g a b fuel room l m s. x'.sequence (readers a fuel room) (readers b _ _) (grown g a b fuel room l m) f s)
          (λ g fuel room s. e'.sequence (readers true fuel room) (readers false fuel (suc room)) (crosses g fuel room) f s)
          (λ fuel room s. (expressions'.sequence (readers false fuel (suc room)) (readers false (suc fuel) _) (better false fuel (suc room)) f s).half)
          (λ y. nothing) whole fuel room tokens rest d.filled (reading x c.shape) d.fills reading_;
    }
  where
    whole : (fuel room : ℕ) (us : List Filled) (r : Reading) (last : ℕ) → sequence (readers false fuel room) f (record { tokens = us; last = 0 }) ≡ Took r (record { tokens = []; last = last }) → (y : Expression) × IsExpression f level_sequence us y []
    whole fuel room us r last k =
        let s : Input = record { tokens = us; last = 0 } in
        let h = of_took {Q = λ y d. ReadWhole f level_sequence s y d} {x = r} {c = record { tokens = []; last = last }} (subst (λ o. Holds (λ y d. ReadWhole f level_sequence s y d) o) k (sound-sequence (readers false fuel room) (sound-readers fuel room) f s)) in
        (r.value, h.derived)

pub spelled-expressions : SpelledExpressionsAreRead
spelled-expressions fuel room f tokens rest x d =
    let r = expression-is-read fuel room f tokens rest x d in
    subst (λ y. Settles (λ (z : Reading). z.value) y (map read rest) (sequence (readers true fuel room) f (record { tokens = map read tokens; last = 0 }))) r.same_value
    (settles (λ n k. sequence (readers true n k) f) (λ (z : Reading). z.value) (λ fuel room l s. x'.sequence (readers true fuel room) (readers true _ _) (grown false true true fuel room l same_mode) f s) r.taken)

-- ## Statements

no-finally : (us : List Filled) → (BeginWith (Read (Word (codes "finally"))) us → ⊥) → Misses (word (codes "finally")) us
no-finally [] n = tt
no-finally (t ∷ ts) n = word-miss (codes "finally") t (by (is_word (codes "finally") t.kind) (λ e. n (word-is (codes "finally") t.kind e)))
  where
    by : (b : Bool) → (b ≡ true → ⊥) → b ≡ false
    by false n = refl
    by true n = absurd (n refl)

pub statement-is-read : (fuel room : ℕ) (f : Flags) (tokens rest : List Token) (x : Statement) → IsStatementBefore f tokens x rest → IsReadWithMore (λ n k. statement (readers true n k) f Listed) fuel room tokens rest x
statement-is-read fuel room f tokens rest x (d, n) =
    let c : StatementClaim f Listed (d.filled ++ map read rest) (map read rest) x = listed-read d.spelled in
    front-is-read (λ mode n k. statement (readers mode n k) f Listed) (λ row. (r : Statement) × IsListed f row r [])
    (λ g a b fuel room l m s. m'.statement (readers a fuel room) (readers b _ _) (grown g a b fuel room l m) f Listed s)
    (λ g fuel room s. s'.statement (readers true fuel room) (readers false fuel (suc room)) (crosses g fuel room) f Listed s)
    (λ fuel room s. (statements'.statement (readers false fuel (suc room)) (readers false (suc fuel) _) (better false fuel (suc room)) f Listed s).half)
    (λ y. behind_nothing) whole fuel room tokens rest d.filled x d.fills (c.reads (no-finally (map read rest) n))
  where
    whole : (fuel room : ℕ) (us : List Filled) (r : Statement) (last : ℕ) → statement (readers false fuel room) f Listed (record { tokens = us; last = 0 }) ≡ Took r (record { tokens = []; last = last }) → (y : Statement) × IsListed f us y []
    whole fuel room us r last k =
        let s : Input = record { tokens = us; last = 0 } in
        let h = of_took {Q = λ y d. StatementIn f Listed s y d} {x = r} {c = record { tokens = []; last = last }} (subst (λ o. Holds (λ y d. StatementIn f Listed s y d) o) k (sound-statement (readers false fuel room) (sound-readers fuel room) f Listed s)) in
        (r, h.1)

pub spelled-statements : SpelledStatementsAreRead
spelled-statements fuel room f tokens rest x d = settles (λ n k. statement (readers true n k) f Listed) (λ (y : Statement). y) (λ fuel room l s. m'.statement (readers true fuel room) (readers true _ _) (grown false true true fuel room l same_mode) f Listed s) (statement-is-read fuel room f tokens rest x d)
