-- A run with insertion fills the tokens as the standard says, by what is read without insertion.
use Rattle.std.proofs.Common.{◌≡◌, ℕ, zero, suc, ◌+◌, Bool, true, false, List, [], ◌∷◌, ◌++◌, map, refl, sym, ap, subst, ◌∙◌, append_assoc, arith}
use Rattle.std.proofs.lemmas.Bool.{false≢true}
use Rattle.es6_lexer.specs.declared.token.Token.{Token}
use Rattle.es6_ast.specs.declared.module.Module.{Module}
use Rattle.es6_ast.specs.Tokens.{Filled, read, end_of}
use Rattle.es6_ast.specs.Modules.{IsModule}
use Rattle.es6_ast.specs.Semicolons.{Begins, inserted, may_precede, Fills, done, keeps, inserts}
use Rattle.es6_reading.specs.Parser.{Input, Took, is_insertable}
use Rattle.es6_reading.specs.Modules.{readers, whole_module, most_open, read_module}
use Rattle.es6_reading.specs.Laws.{IsReadAlone, IsInserted}
use Rattle.es6_reading.proofs.Posts.{Holds, of_took}
use Rattle.es6_reading.proofs.Soundness.{soundness}
use Rattle.es6_reading.proofs.Follows.{plus, semi, SameHead, nothing, same, Dead, MayInsert, before_line, after_do_while, Gaps, stop, keep, insert, FollowedBy, append-nil}
use Rattle.es6_reading.proofs.FollowChoices.{never-took}
use Rattle.es6_reading.proofs.Insertion.{plain_readers, readers-follow, whole-ends, follow-whole}

plus-is : (n l : ℕ) → plus n l ≡ n + l
plus-is zero l = omega arith
plus-is (suc n) l = ap (λ m. suc m) (plus-is n l) ∙ next n l
  where
    next : (n l : ℕ) → suc (n + l) ≡ suc n + l
    next n l = omega arith

-- the reader without insertion goes on with no tokens that begin so
abbrev Stuck : ℕ → ℕ → List Filled → List Filled → Type 0
Stuck fuel room before ts = Dead (λ l. whole_module (plain_readers fuel room l)) 0 before ts

not-begins : (fuel room : ℕ) (before : List Filled) (t : Filled) (ts : List Filled) → Stuck fuel room before (t ∷ ts) → Begins (IsReadAlone fuel room) (before ++ t ∷ []) → ⊥
not-begins fuel room before t ts dead (rest, (more, m, after, e)) =
    never-took (whole_module (plain_readers fuel room more) (record { tokens = before ++ t ∷ rest; last = 0 })) m after
    (ap (λ us. whole_module (plain_readers fuel room more) (record { tokens = us; last = 0 })) (sym (append_assoc before (t ∷ []) rest))
    ∙ ap (λ n. whole_module (readers false n (plus room more)) (record { tokens = (before ++ t ∷ []) ++ rest; last = 0 })) (plus-is fuel more)
    ∙ ap (λ n. whole_module (readers false (fuel + more) n) (record { tokens = (before ++ t ∷ []) ++ rest; last = 0 })) (plus-is room more) ∙ e)
    (dead more (t ∷ rest) same)

head-same : {t u : Filled} {ts us : List Filled} → t ∷ ts ≡ u ∷ us → t ≡ u
head-same {t = t} e = ap (λ vs. head_or t vs) e
  where
    head_or : Filled → List Filled → Filled
    head_or v [] = v
    head_or v (w ∷ ws) = w

tail-same : {t u : Filled} {ts us : List Filled} → t ∷ ts ≡ u ∷ us → ts ≡ us
tail-same e = ap (λ vs. tail_of vs) e
  where
    tail_of : List Filled → List Filled
    tail_of [] = []
    tail_of (w ∷ ws) = ws

not-nil : {A : Type 0} {t : Filled} {ts : List Filled} → t ∷ ts ≡ [] → A
not-nil e = absurd (cc)

not-cons : {A : Type 0} {t : Filled} {ts : List Filled} → [] ≡ t ∷ ts → A
not-cons e = absurd (cc)

semi-inserted : (d : Bool) (at : ℕ) (before : List Filled) → at ≡ end_of 0 before → inserted d before ≡ semi d at
semi-inserted d at before e = ap (λ n. semi d n) (sym e)

may-stand : {d : Bool} {before fs : List Filled} (t : Token) (ts : List Token) → MayInsert d before fs → fs ≡ read t ∷ map read ts → may_precede d t ≡ true
may-stand t ts (before_line m) e = subst (λ us. is_insertable us ≡ true) e m
may-stand t ts after_do_while e = refl

none-may : {d : Bool} {before fs : List Filled} → MayInsert d before fs → fs ≡ [] → ⊥
none-may (before_line m) e = false≢true (subst (λ us. is_insertable us ≡ true) e m)
none-may after_do_while e = not-nil e

pub gaps-fill : (fuel room : ℕ) (tokens : List Token) {before ts us filled : List Filled} → Gaps (Stuck fuel room) 0 before ts us filled → ts ≡ map read tokens → us ≡ [] → Fills (IsReadAlone fuel room) before tokens filled []
gaps-fill fuel room [] stop e n = done
gaps-fill fuel room (t ∷ tokens) stop e n = not-cons (sym n ∙ e)
gaps-fill fuel room [] (keep g) e n = not-nil e
gaps-fill fuel room (t ∷ tokens) {before = before} (keep {us = us} {filled = filled} {t = u} g) e n =
    subst (λ v. Fills (IsReadAlone fuel room) before (t ∷ tokens) (v ∷ filled) []) (sym (head-same e))
    (keeps (gaps-fill fuel room tokens (subst (λ v. Gaps (Stuck fuel room) 0 (before ++ v ∷ []) (map read tokens) us filled) (head-same e) (subst (λ vs. Gaps (Stuck fuel room) 0 (before ++ u ∷ []) vs us filled) (tail-same e) g)) refl n))
gaps-fill fuel room [] (insert d at is dead may g) e n = absurd (none-may may e)
gaps-fill fuel room (t ∷ tokens) {before = before} (insert {filled = filled} d at is dead may g) e n =
    subst (λ v. Fills (IsReadAlone fuel room) before (t ∷ tokens) (v ∷ filled) []) (semi-inserted d at before is)
    (inserts d (not-begins fuel room before (read t) (map read tokens) (subst (λ vs. Stuck fuel room before vs) e dead)) (may-stand t tokens may e)
    (subst (λ v. Fills (IsReadAlone fuel room) (before ++ v ∷ []) (t ∷ tokens) filled []) (sym (semi-inserted d at before is)) (gaps-fill fuel room (t ∷ tokens) g e n)))

pub followed-module : (fuel room : ℕ) (tokens : List Filled) (m : Module) (after : Input) → whole_module (readers true fuel room) (record { tokens = tokens; last = 0 }) ≡ Took m after
    → FollowedBy SameHead (λ l. whole_module (plain_readers fuel room l)) (record { tokens = tokens; last = 0 }) m after
followed-module fuel room tokens m after e = of_took (subst (λ o. Holds (FollowedBy SameHead (λ l. whole_module (plain_readers fuel room l)) (record { tokens = tokens; last = 0 })) o) e
    (follow-whole (readers true fuel room) (plain_readers fuel room) (readers-follow fuel room) (record { tokens = tokens; last = 0 })))

pub left-over : (fuel room : ℕ) (tokens : List Filled) (m : Module) (after : Input) → whole_module (readers true fuel room) (record { tokens = tokens; last = 0 }) ≡ Took m after → after.tokens ≡ []
left-over fuel room tokens m after e = of_took {Q = λ m c. c.tokens ≡ []} {x = m} (subst (λ o. Holds (λ m c. c.tokens ≡ []) o) e (whole-ends (readers true fuel room) (record { tokens = tokens; last = 0 })))

same-end : (us : List Filled) → us ≡ [] → SameHead us []
same-end us e = subst (λ vs. SameHead vs []) (sym e) nothing

pub derived-of : (fuel room : ℕ) (tokens : List Filled) (m : Module) (after : Input) (r : FollowedBy SameHead (λ l. whole_module (plain_readers fuel room l)) (record { tokens = tokens; last = 0 }) m after) → after.tokens ≡ [] → IsModule r.filled m
derived-of fuel room tokens m after r n = soundness (plus fuel zero) (plus room zero) r.filled 0 m (record { tokens = []; last = after.last })
    (subst (λ us. whole_module (plain_readers fuel room zero) (record { tokens = us; last = 0 }) ≡ Took m (record { tokens = []; last = after.last })) (append-nil r.filled) (r.run zero [] (same-end after.tokens n)))

pub inserting : IsInserted
unfolding read_module
inserting fuel tokens m after e =
    let r = followed-module fuel most_open (map read tokens) m after e in
    let n = left-over fuel most_open (map read tokens) m after e in
    record { filled = r.filled; fills = gaps-fill fuel most_open tokens r.gaps refl n; derived = derived-of fuel most_open (map read tokens) m after r n }
