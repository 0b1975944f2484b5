-- What is read of an expression's or a statement's tokens is spelled by them, with semicolons put in among them (ECMA-262, 6th edition,
-- 11.9).
use Rattle.std.proofs.Common.{◌≡◌, ℕ, zero, suc, ◌≤◌, Bool, true, false, List, [], ◌∷◌, ◌++◌, map, refl, sym, ap, subst, ◌∙◌, append_assoc, arith}
use Rattle.std.proofs.lemmas.Bool.{false≢true}
use Rattle.es6_lexer.specs.declared.token.Token.{Token}
use Rattle.es6_ast.specs.declared.tree.Expression.{Expression}
use Rattle.es6_ast.specs.declared.tree.Statement.{Statement}
use Rattle.es6_ast.specs.declared.settings.Flags.{Flags}
use Rattle.es6_ast.specs.declared.settings.Stand.TheVariants.{Listed}
use Rattle.es6_ast.specs.Tokens.{Filled, read, end_of}
use Rattle.es6_ast.specs.Grammar.{level_sequence, IsExpression, IsListed}
use Rattle.es6_ast.specs.Semicolons.{Begins, inserted, may_precede, Fills, done, keeps, inserts, SpellsExpression, SpellsStatement}
use Rattle.es6_reading.specs.Parser.{Input, Outcome, Took, Parser, Reading, is_insertable}
use Rattle.es6_reading.specs.Expressions.{sequence}
use Rattle.es6_reading.specs.Statements.{statement}
use Rattle.es6_reading.specs.Modules.{readers}
use Rattle.es6_reading.proofs.Posts.{Holds, of_took}
use Rattle.es6_reading.proofs.Derived.{ReadWhole, StatementIn}
use Rattle.es6_reading.proofs.Soundness.{sound-readers}
use Rattle.es6_reading.proofs.Follows.{plus, semi, same, Near, near_end, near_same, Dead, MayInsert, before_line, after_do_while, Gaps, stop, keep, insert, Followed}
use Rattle.es6_reading.proofs.FollowChoices.{never-took}
use Rattle.es6_reading.proofs.Insertion.{plain_readers, readers-follow}
use Rattle.es6_reading.proofs.Exactly.{Exactly, exactly}
use Rattle.es6_reading.proofs.CompleteTokens.{Closes}
use Rattle.es6_reading.proofs.CompleteLevels.{reading, sequence_level}
use Rattle.es6_reading.proofs.Completeness.{expression-read, listed-read}

-- ## Which tokens come of a run that inserts semicolons

semi-inserted : (d : Bool) (at : ℕ) (before : List Filled) → at ≡ end_of 0 before → inserted d before ≡ semi d at
semi-inserted d at before e = ap (λ n. semi d n) (sym e)

none-may : {d : Bool} {before fs : List Filled} → MayInsert d before fs → fs ≡ [] → ⊥
none-may (before_line m) e = false≢true (subst (λ us. is_insertable us ≡ true) e m)
none-may after_do_while e = absurd (cc)

may-stand : {d : Bool} {before fs : List Filled} (t : Token) (ts : List Token) → MayInsert d before fs → fs ≡ read t ∷ map read ts → may_precede d t ≡ true
may-stand t ts (before_line m) e = subst (λ us. is_insertable us ≡ true) e m
may-stand t ts after_do_while e = refl

head-same : {t u : Filled} {ts us : List Filled} → t ∷ ts ≡ u ∷ us → t ≡ u
head-same e = cc

tail-same : {t u : Filled} {ts us : List Filled} → t ∷ ts ≡ u ∷ us → ts ≡ us
tail-same e = cc

-- the tokens that are left, and how those before them are filled
record Filling (Full : List Filled → Type 0) (before : List Filled) (tokens : List Token) (filled us : List Filled) : Type 0 where
  front : List Token
  rest : List Token
  parts : tokens ≡ front ++ rest
  left : us ≡ map read rest
  fills : Fills Full before tokens filled rest

-- a row of the kind is read to its end without insertion, where loops have turns enough and constructs enough may open
abbrev AreRead : {A : Type 0} → (List Filled → Type 0) → (ℕ → Parser A) → Type 0
AreRead {A = A} Full p = (row : List Filled) → Full row → (l : ℕ) × (x : A) × (c : Input) × (p l (record { tokens = row; last = 0 }) ≡ Took x c)

module _ {A : Type 0} (Full : List Filled → Type 0) (p : ℕ → Parser A) (whole : AreRead Full p) where
  not-begins : (before : List Filled) (t : Filled) (ts : List Filled) → Dead p 0 before (t ∷ ts) → Begins Full (before ++ t ∷ []) → ⊥
  not-begins before t ts dead (rest, full) =
      let e = whole ((before ++ t ∷ []) ++ rest) full in
      never-took (p e.0 (record { tokens = before ++ t ∷ rest; last = 0 })) e.1 e.2
      (ap (λ us. p e.0 (record { tokens = us; last = 0 })) (sym (append_assoc before (t ∷ []) rest)) ∙ e.3)
      (dead e.0 (t ∷ rest) same)

  gaps-fill : (tokens : List Token) {before ts us filled : List Filled} → Gaps (Dead p 0) 0 before ts us filled → ts ≡ map read tokens → Filling Full before tokens filled us
  gaps-fill tokens stop e = record { front = []; rest = tokens; parts = refl; left = e; fills = done }
  gaps-fill [] (keep g) e = absurd (cc)
  gaps-fill (t ∷ tokens) {before = before} (keep {us = us} {filled = filled} {t = u} g) e =
      let r = gaps-fill tokens (subst (λ v. Gaps (Dead p 0) 0 (before ++ v ∷ []) (map read tokens) us filled) (head-same e) (subst (λ vs. Gaps (Dead p 0) 0 (before ++ u ∷ []) vs us filled) (tail-same e) g)) refl in
      record {
        front = t ∷ r.front;
        rest = r.rest;
        parts = ap (λ l. t ∷ l) r.parts;
        left = r.left;
        fills = subst (λ v. Fills Full before (t ∷ tokens) (v ∷ filled) r.rest) (sym (head-same e)) (keeps r.fills);
      }
  gaps-fill [] (insert d at is dead may g) e = absurd (none-may may e)
  gaps-fill (t ∷ tokens) {before = before} (insert {filled = filled} d at is dead may g) e =
      let r = gaps-fill (t ∷ tokens) g e in
      record {
        front = r.front;
        rest = r.rest;
        parts = r.parts;
        left = r.left;
        fills = subst (λ v. Fills Full before (t ∷ tokens) (v ∷ filled) r.rest) (semi-inserted d at before is)
            (inserts d (not-begins before (read t) (map read tokens) (subst (λ vs. Dead p 0 before vs) e dead)) (may-stand t tokens may e)
            (subst (λ v. Fills Full (before ++ v ∷ []) (t ∷ tokens) filled r.rest) (sym (semi-inserted d at before is)) r.fills));
      }

-- ## What is read to its end

exactly-took : {A : Type 0} {x : A} {s : Input} {us : List Filled} {o : Outcome A} → Exactly x s us o → (c : Input) × (o ≡ Took x c)
exactly-took {us = us} (exactly {end = end} m) = (record { tokens = us; last = end }, refl)

more : (n l : ℕ) → l ≤ plus n l
more zero l = omega arith
more (suc n) l = next (more n l)
  where
    next : {k m : ℕ} → k ≤ m → k ≤ suc m
    next h = omega arith

near-refl : (ts : List Filled) → Near ts ts
near-refl [] = near_end
near-refl (t ∷ ts) = near_same

abbrev Expressions : Flags → List Filled → Type 0
Expressions f row = (y : Expression) × IsExpression f level_sequence row y []

abbrev Statements : Flags → List Filled → Type 0
Statements f row = (r : Statement) × IsListed f row r []

expressions-read : (fuel room : ℕ) (f : Flags) → AreRead (Expressions f) (λ l. sequence (plain_readers fuel room l) f)
expressions-read fuel room f row (y, d) =
    let k = expression-read d in
    let closed : Closes f 0 [] = record { dot = refl; bracket = refl; template = refl; paren = λ l. refl; after = λ l. tt; raised = λ l. tt; operator = λ level l m. tt; question = λ l. tt; arrow = λ l. refl; assigns = λ l. tt; comma = λ l. tt } in
    let e = k.levels 0 sequence_level (omega arith) closed (λ l. refl) in
    let r = exactly-took (e.reads (plus fuel e.bound) (plus fuel e.bound) (plus room e.bound) (more fuel e.bound) (more fuel e.bound) (more room e.bound) 0) in
    (e.bound, reading y k.shape, r.0, r.1)

statements-read : (fuel room : ℕ) (f : Flags) → AreRead (Statements f) (λ l. statement (plain_readers fuel room l) f Listed)
statements-read fuel room f row (y, d) =
    let e = (listed-read d).reads tt in
    let r = exactly-took (e.reads (plus fuel e.bound) (plus fuel e.bound) (plus room e.bound) (more fuel e.bound) (more fuel e.bound) (more room e.bound) 0) in
    (e.bound, y, r.0, r.1)

-- ## Expressions and statements

-- The reader of what stands inside one construct more is the reader itself.
expression-followed : (fuel room : ℕ) (f : Flags) (s : Input) → Holds (Followed (λ l. sequence (plain_readers fuel room l) f) s) (sequence (readers true fuel room) f s)
unfolding readers
expression-followed fuel room f s = (readers-follow fuel (suc room)).sequence f s

statement-followed : (fuel room : ℕ) (f : Flags) (s : Input) → Holds (Followed (λ l. statement (plain_readers fuel room l) f Listed) s) (statement (readers true fuel room) f Listed s)
unfolding readers
statement-followed fuel room f s = (readers-follow fuel (suc room)).statement f Listed s

expression-sound : (fuel room : ℕ) (f : Flags) (s : Input) → Holds (ReadWhole f level_sequence s) (sequence (readers false fuel room) f s)
unfolding readers
expression-sound fuel room f s = (sound-readers fuel (suc room)).sequence f s

statement-sound : (fuel room : ℕ) (f : Flags) (s : Input) → Holds (StatementIn f Listed s) (statement (readers false fuel room) f Listed s)
unfolding readers
statement-sound fuel room f s = (sound-readers fuel (suc room)).statement f Listed s

-- the tokens that are left spell nothing of it
pub record Spelled (Spells : List Token → List Token → Type 0) (tokens : List Token) (us : List Filled) : Type 0 where
  pub front : List Token
  pub rest : List Token
  pub parts : tokens ≡ front ++ rest
  pub left_ : us ≡ map read rest
  pub spelled : Spells tokens rest

pub expression-spelled : (fuel room : ℕ) (f : Flags) (tokens : List Token) (x : Reading) (c : Input) → sequence (readers true fuel room) f (record { tokens = map read tokens; last = 0 }) ≡ Took x c → Spelled (λ ts rest. SpellsExpression f level_sequence ts x.value rest) tokens c.tokens
expression-spelled fuel room f tokens x c e =
    let s : Input = record { tokens = map read tokens; last = 0 } in
    let r = of_took (subst (λ o. Holds (Followed (λ l. sequence (plain_readers fuel room l) f) s) o) e (expression-followed fuel room f s)) in
    let g = gaps-fill (Expressions f) (λ l. sequence (plain_readers fuel room l) f) (expressions-read fuel room f) tokens r.gaps refl in
    let d = of_took (subst (λ o. Holds (ReadWhole f level_sequence (record { tokens = r.filled ++ c.tokens; last = 0 })) o) (r.run 0 c.tokens (near-refl c.tokens)) (expression-sound (plus fuel 0) (plus room 0) f (record { tokens = r.filled ++ c.tokens; last = 0 }))) in
    record { front = g.front; rest = g.rest; parts = g.parts; left_ = g.left; spelled = record { filled = r.filled; fills = g.fills; spelled = subst (λ us. IsExpression f level_sequence (r.filled ++ us) x.value us) g.left d.derived } }

pub statement-spelled : (fuel room : ℕ) (f : Flags) (tokens : List Token) (x : Statement) (c : Input) → statement (readers true fuel room) f Listed (record { tokens = map read tokens; last = 0 }) ≡ Took x c → Spelled (λ ts rest. SpellsStatement f ts x rest) tokens c.tokens
statement-spelled fuel room f tokens x c e =
    let s : Input = record { tokens = map read tokens; last = 0 } in
    let r = of_took (subst (λ o. Holds (Followed (λ l. statement (plain_readers fuel room l) f Listed) s) o) e (statement-followed fuel room f s)) in
    let g = gaps-fill (Statements f) (λ l. statement (plain_readers fuel room l) f Listed) (statements-read fuel room f) tokens r.gaps refl in
    let d = of_took (subst (λ o. Holds (StatementIn f Listed (record { tokens = r.filled ++ c.tokens; last = 0 })) o) (r.run 0 c.tokens (near-refl c.tokens)) (statement-sound (plus fuel 0) (plus room 0) f (record { tokens = r.filled ++ c.tokens; last = 0 }))) in
    record { front = g.front; rest = g.rest; parts = g.parts; left_ = g.left; spelled = record { filled = r.filled; fills = g.fills; spelled = subst (λ us. IsListed f (r.filled ++ us) x us) g.left d.1 } }
