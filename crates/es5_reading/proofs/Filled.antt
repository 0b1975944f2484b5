-- A run with insertion fills the tokens as the standard says.
use Rattle.std.proofs.Common.{◌≡◌, ℕ, zero, suc, ◌+◌, ◌≤◌, true, false, List, [], ◌∷◌, ◌++◌, refl, sym, ap, subst, append_assoc, arith}
use Rattle.es5_ast.specs.declared.tree.Stat5.{Stat5}
use Rattle.es5_ast.specs.Lexical.{Token5}
use Rattle.es5_ast.specs.Grammar.{Exact, Aside, IsProgram, end_of}
use Rattle.es5_ast.specs.Within.{ProgramWithin}
use Rattle.es5_ast.specs.Script.{Begins, IsWhole, inserted, Fills, at_end, keeps, inserts, inserts_at_end}
use Rattle.es5_reading.specs.Parser.{Input5, Outcome5, Took, Parser, is_insertable}
use Rattle.es5_reading.specs.Programs.{readers, program}
use Rattle.es5_reading.specs.Laws.{IsFilled, IsComplete, IsReadExactly}
use Rattle.es5_reading.proofs.Posts.{Holds, of_took}
use Rattle.es5_reading.proofs.Soundness.{soundness}
use Rattle.es5_reading.proofs.Follows.{plus, semi, SameHead, nothing, same, Never, Dead, Gaps, stop, keep, insert, FollowedBy}
use Rattle.es5_reading.proofs.Insertion.{plain_readers, readers-follow, follow-program}
use Rattle.es5_reading.proofs.Reading.{ReadsOf, reads_}
use Rattle.es5_reading.proofs.Completeness.{completeness}
use Rattle.es5_reading.proofs.Alike.{exact, placed-program}
use Rattle.es5_reading.proofs.Enough.{enough}

plus-zero : (n : ℕ) → plus n zero ≡ n
plus-zero zero = refl
plus-zero (suc n) = ap (λ m. suc m) (plus-zero n)

pub plus-more : (n l : ℕ) → l ≤ plus n l
plus-more zero l = self l
  where
    self : (l : ℕ) → l ≤ l
    self l = omega arith
plus-more (suc n) l = more l (plus n l) (plus-more n l)
  where
    more : (l m : ℕ) → l ≤ m → l ≤ suc m
    more l m h = omega arith

pub reads-never : {A : Type 0} {M : Input5 → Type 0} {x : A} {us : List Token5} {o : Outcome5 A} → ReadsOf M x us o → Never o → ⊥
reads-never (reads_ q) n = of_took n

-- the reader of programs without insertion, for tokens after none
abbrev pub plain_program : ℕ → ℕ → ℕ → Parser (List Stat5)
plain_program fuel room l = program (plain_readers fuel room l) (plus fuel l)

-- tokens with which the reader never goes on begin no program
no-program : (fuel room : ℕ) (tokens : List Token5) (statements : List Stat5) → IsProgram Aside tokens statements → ((l : ℕ) → Never (plain_program fuel room l (record { tokens = tokens; last = 0 }))) → ⊥
no-program fuel room tokens statements d h =
    let p = placed-program exact d in
    let w = enough p.derived in
    let e = completeness w.bound p.derived (w.fits w.bound (self w.bound)) in
    let l = e.bound + w.bound in
    reads-never (e.reads (plus fuel l) (plus fuel l) (plus room l) (more e.bound w.bound (plus fuel l) (plus-more fuel l)) (more e.bound w.bound (plus fuel l) (plus-more fuel l)) (more' e.bound w.bound (plus room l) (plus-more room l)) 0) (h l)
  where
    self : (n : ℕ) → n ≤ n
    self n = omega arith

    more : (a b n : ℕ) → a + b ≤ n → a ≤ n
    more a b n h = omega arith

    more' : (a b n : ℕ) → a + b ≤ n → b ≤ n
    more' a b n h = omega arith

not-begins : (fuel room : ℕ) (before : List Token5) (t : Token5) (ts : List Token5) → Dead (plain_program fuel room) 0 before (t ∷ ts) → Begins (before ++ t ∷ []) → ⊥
not-begins fuel room before t ts dead b =
    no-program fuel room (before ++ t ∷ b.0) b.1 (subst (λ us. IsProgram Aside us b.1) (append_assoc before (t ∷ []) b.0) b.2) (λ l. dead l (t ∷ b.0) same)

pub append-nil : (xs : List Token5) → xs ++ [] ≡ xs
append-nil [] = refl
append-nil (x ∷ xs) = ap (λ ys. x ∷ ys) (append-nil xs)

not-whole : (fuel room : ℕ) (before : List Token5) → Dead (plain_program fuel room) 0 before [] → IsWhole before → ⊥
not-whole fuel room before dead w = no-program fuel room before w.0 w.1 (λ l. subst (λ us. Never (plain_program fuel room l (record { tokens = us; last = 0 }))) (append-nil before) (dead l [] nothing))

semi-inserted : (at : ℕ) (before : List Token5) → at ≡ end_of 0 before → inserted before ≡ semi at at false
semi-inserted at before e = ap (λ n. semi n n false) (sym e)

pub gaps-fill : (fuel room : ℕ) {before ts us filled : List Token5} → Gaps (Dead (plain_program fuel room) 0) 0 before ts us filled → us ≡ [] → Fills before ts filled
gaps-fill fuel room {before = before} (stop {ts = ts}) e = subst (λ vs. Fills before vs []) (sym e) at_end
gaps-fill fuel room (keep g) e = keeps (gaps-fill fuel room g e)
gaps-fill fuel room {before = before} (insert {ts = ts} {filled = filled} at is dead n g) e = put ts (gaps-fill fuel room g e) dead n
  where
    put : (vs : List Token5) → Fills (before ++ semi at at false ∷ []) vs filled → Dead (plain_program fuel room) 0 before vs → is_insertable vs ≡ true → Fills before vs (semi at at false ∷ filled)
    put [] h d m = subst (λ t. Fills before [] (t ∷ filled)) (semi-inserted at before is) (inserts_at_end (not-whole fuel room before d) (subst (λ t. Fills (before ++ t ∷ []) [] filled) (sym (semi-inserted at before is)) h))
    put (u ∷ vs) h d m = subst (λ t. Fills before (u ∷ vs) (t ∷ filled)) (semi-inserted at before is) (inserts (not-begins fuel room before u vs d) m (subst (λ t. Fills (before ++ t ∷ []) (u ∷ vs) filled) (sym (semi-inserted at before is)) h))

pub followed-program : (fuel room : ℕ) (tokens : List Token5) (statements : List Stat5) (after_ : Input5) → program (readers true fuel room) fuel (record { tokens = tokens; last = 0 }) ≡ Took statements after_
    → (after_.tokens ≡ []) × FollowedBy SameHead (plain_program fuel room) (record { tokens = tokens; last = 0 }) statements after_
followed-program fuel room tokens statements after_ e = of_took (subst (λ o. Holds (λ xs c. (c.tokens ≡ []) × FollowedBy SameHead (plain_program fuel room) (record { tokens = tokens; last = 0 }) xs c) o) e
    (follow-program (readers true fuel room) (plain_readers fuel room) (readers-follow fuel room) fuel (record { tokens = tokens; last = 0 })))

pub same-end : (us : List Token5) → us ≡ [] → SameHead us []
same-end us e = subst (λ vs. SameHead vs []) (sym e) nothing

pub derived-of : (fuel room : ℕ) (tokens : List Token5) (statements : List Stat5) (after_ : Input5) (r : (after_.tokens ≡ []) × FollowedBy SameHead (plain_program fuel room) (record { tokens = tokens; last = 0 }) statements after_)
    → (d : IsProgram Exact r.1.filled statements) × ProgramWithin d room
derived-of fuel room tokens statements after_ r =
    let ran = r.1.run zero [] (same-end after_.tokens r.0) in
    let d = soundness (plus fuel zero) (plus room zero) r.1.filled 0 statements (record { tokens = []; last = after_.last })
    (subst (λ us. plain_program fuel room zero (record { tokens = us; last = 0 }) ≡ Took statements (record { tokens = []; last = after_.last })) (append-nil r.1.filled) ran) in
    (d.0, subst (λ n. ProgramWithin d.0 n) (plus-zero room) d.1)

pub filled : IsFilled
filled fuel room tokens statements after_ e =
    let r = followed-program fuel room tokens statements after_ e in
    let d = derived-of fuel room tokens statements after_ r in
    record { filled = r.1.filled; fills = gaps-fill fuel room r.1.gaps r.0; derived = d.0; within = d.1 }

taken-of : {A : Type 0} {M : Input5 → Type 0} {x : A} {us : List Token5} {o : Outcome5 A} → ReadsOf M x us o → (end : ℕ) × (o ≡ Took x (record { tokens = us; last = end }))
taken-of (reads_ {end = end} m) = (end, refl)

pub read-exactly : IsReadExactly false
read-exactly room tokens statements d w =
    let e = completeness room d w in
    (e.bound, λ fuel last a. taken-of (e.reads fuel fuel room a a (self room) last))
  where
    self : (n : ℕ) → n ≤ n
    self n = omega arith

pub complete : IsComplete
complete mode tokens statements d =
    let p = placed-program exact d in
    let w = enough p.derived in
    let e = completeness w.bound p.derived (w.fits w.bound (self w.bound)) in (
      e.bound + w.bound,
      λ fuel room last a b. let r = taken-of (e.reads fuel fuel room (more e.bound w.bound fuel a) (more e.bound w.bound fuel a) (more' e.bound w.bound room b) last) in (p.tree, r.0, r.1, p.same),
    )
  where
    self : (n : ℕ) → n ≤ n
    self n = omega arith

    more : (a b n : ℕ) → a + b ≤ n → a ≤ n
    more a b n h = omega arith

    more' : (a b n : ℕ) → a + b ≤ n → b ≤ n
    more' a b n h = omega arith
