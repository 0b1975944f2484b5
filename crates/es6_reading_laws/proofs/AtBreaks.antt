-- A module that tokens spell with semicolons put in at breaks is read of the tokens.
use Rattle.std.proofs.Common.{◌≡◌, ◌∙◌, ℕ, Bool, true, List, [], ◌∷◌, ◌++◌, map, refl, sym, ap, subst, append_assoc, ◌+◌, ◌≤◌, arith}
use Rattle.es6_lexer.specs.declared.token.Token.{Token}
use Rattle.es6_lexer.specs.declared.token.TokenKind.{TokenKind}
use Rattle.es6_ast.specs.declared.module.Module.{Module}
use Rattle.es6_ast.specs.Modules.{IsModule}
use Rattle.es6_ast.specs.Semicolons as semicolons'
use Rattle.es6_ast.specs.Semicolons.{Fills, inserted}
use Rattle.es6_ast.specs.Tokens.{Filled, Read, Inserted, read, end_of}
use Rattle.es6_ast.specs.declared.settings.Stop.{Stop}
use Rattle.std.proofs.lemmas.List.{append_cancel_right, map-append}
use Rattle.es6_reading.specs.Laws.{IsComplete, IsReadAlone}
use Rattle.es6_reading.specs.Modules.{readers, whole_module, most_open, read_module}
use Rattle.es6_reading.specs.Parser.{Input, Outcome, Took, Fault, Parser}
use Rattle.es6_reading.proofs.Filled.{derived-of, followed-module, gaps-fill, left-over}
use Rattle.es6_reading.proofs.Follows.{semi}
use Rattle.es6_reading.proofs.Insertion.{whole-ends}
use Rattle.es6_reading.proofs.LocalReaders.{full-readings, faults-stay}
use Rattle.es6_reading.proofs.Posts.{Holds, of_took}
use Rattle.es6_reading_laws.specs.Breaks.{AreReadAtBreaks, BreaksAreInsertions, FaultsAreDeadAtBreaks, Breaks, done, keeps, inserts}
use Rattle.es6_reading_laws.proofs.Quiet.{quiet}
use Rattle.es6_reading_laws.proofs.Across.{AcrossBy, Agree, took_both, joined, first_stops, lost, Gap, Rows, here, later}
use Rattle.es6_reading_laws.proofs.AcrossStatements as s'
use Rattle.es6_reading_laws.proofs.AcrossStatements.{crosses}

-- ## One semicolon left out

kind-of : {t u : Filled} {ts us : List Filled} → t ∷ ts ≡ u ∷ us → t.kind ≡ u.kind
kind-of e = cc

rest-of : {t u : Filled} {ts us : List Filled} → t ∷ ts ≡ u ∷ us → ts ≡ us
rest-of e = cc

never-read : {d : Bool} {at : ℕ} {us : List Filled} (rest : List Token) → semi d at ∷ us ≡ map read rest → ⊥
never-read [] e = absurd (cc)
never-read (t ∷ rest) e = unlike (kind-of e)
  where
    unlike : {d : Bool} {k : TokenKind} → Inserted d ≡ Read k → ⊥
    unlike k = absurd (cc)

-- tokens of the text have no inserted semicolon among them
no-row : {g : Gap} {last : ℕ} {ts us : List Filled} (rest : List Token) → Rows g last ts us → ts ≡ map read rest → ⊥
no-row rest here e = never-read rest e
no-row [] (later w) e = absurd (cc)
no-row (t ∷ rest) (later w) e = no-row rest w (rest-of e)

tokens-of : {A : Type 0} {x y : A} {s c : Input} → Took x s ≡ Took y c → s.tokens ≡ c.tokens
tokens-of h = cc

taken-of : {A : Type 0} {g : Gap} {b : Bool} {x : A} {c : Input} {o o' : Outcome A} (rest : List Token) → Agree g b o o' → o ≡ Took x c → c.tokens ≡ map read rest → o' ≡ Took x c
taken-of rest (took_both {s = s} s') h e = absurd (no-row rest s'.rows (tokens-of h ∙ e))
taken-of rest joined h e = h
taken-of rest first_stops h e = absurd (cc)
taken-of rest (lost k) h e = absurd (never-read rest (tokens-of h ∙ e))

rows-after : (g : Gap) (before : List Filled) (last : ℕ) → g.at ≡ end_of last before → Rows g last (before ++ semi g.do_while g.at ∷ g.next ∷ g.behind) (before ++ g.next ∷ g.behind)
rows-after g [] last e = subst (λ n. Rows g n (semi g.do_while g.at ∷ g.next ∷ g.behind) (g.next ∷ g.behind)) e here
rows-after g (t ∷ before) last e = later (rows-after g before t.span.end e)

-- ## All of them left out, the last first

module _ {A : Type 0} {b : Bool} (p : Parser A) (across : (g : Gap) (s : Input) → AcrossBy b g p s) (rest : List Token) (x : A) (c : Input) (left : c.tokens ≡ map read rest) where
  abbrev Reads : List Filled → Type 0
  Reads ts = p (record { tokens = ts; last = 0 }) ≡ Took x c

  left-out : (g : Gap) (before : List Filled) → g.at ≡ end_of 0 before → Reads (before ++ semi g.do_while g.at ∷ g.next ∷ g.behind) → Reads (before ++ g.next ∷ g.behind)
  left-out g before e h =
      let row : List Filled = before ++ semi g.do_while g.at ∷ g.next ∷ g.behind in
      taken-of rest (across g (record { tokens = row; last = 0 }) (record { row = before ++ g.next ∷ g.behind; rows = rows-after g before 0 e })) h left

  one-more : (before : List Filled) (t : Filled) (ts : List Filled) → Reads ((before ++ t ∷ []) ++ ts) → Reads (before ++ t ∷ ts)
  one-more before t ts h = subst (λ us. Reads us) (append_assoc before (t ∷ []) ts) h

  one-back : (before : List Filled) (t : Filled) (ts : List Filled) → Reads (before ++ t ∷ ts) → Reads ((before ++ t ∷ []) ++ ts)
  one-back before t ts h = subst (λ us. Reads us) (sym (append_assoc before (t ∷ []) ts)) h

  pub all-left-out : {before filled : List Filled} {tokens : List Token} → Breaks before tokens filled rest → Reads (before ++ (filled ++ map read rest)) → Reads (before ++ map read tokens)
  all-left-out done h = h
  all-left-out (keeps {before = before} {filled = filled} {t = t} {ts = ts} g) h = one-more before (read t) (map read ts) (all-left-out g (one-back before (read t) (filled ++ map read rest) h))
  all-left-out (inserts {before = before} {filled = filled} {t = t} {ts = ts} d b g) h =
      let gap : Gap = record { do_while = d; at = end_of 0 before; next = read t; behind = map read ts; quiet = quiet t b } in
      left-out gap before refl (one-more before (inserted d before) (read t ∷ map read ts) (all-left-out g (one-back before (inserted d before) (filled ++ map read rest) h)))

-- ## Modules

append-nil : (ts : List Filled) → ts ++ [] ≡ ts
append-nil [] = refl
append-nil (t ∷ ts) = ap (λ us. t ∷ us) (append-nil ts)

module _ (fuel room : ℕ) where
  abbrev ModuleRead : List Filled → Module → Input → Type 0
  ModuleRead ts m after = whole_module (readers true fuel room) (record { tokens = ts; last = 0 }) ≡ Took m after

  ends : (ts : List Filled) (m : Module) (after : Input) → ModuleRead ts m after → after.tokens ≡ []
  ends ts m after h = of_took {Q = λ m c. c.tokens ≡ []} {x = m} (subst (λ o. Holds (λ m c. c.tokens ≡ []) o) h (whole-ends (readers true fuel room) (record { tokens = ts; last = 0 })))

  module-at-breaks : (filled : List Filled) (tokens : List Token) (m : Module) (after : Input) → Breaks [] tokens filled [] → ModuleRead filled m after → ModuleRead (map read tokens) m after
  module-at-breaks filled tokens m after g h =
      all-left-out (whole_module (readers true fuel room)) (λ gap s. s'.whole_module (readers true fuel room) (crosses gap fuel room) s) [] m after (ends filled m after h) g
      (ap (λ ts. whole_module (readers true fuel room) (record { tokens = ts; last = 0 })) (append-nil filled) ∙ h)

pub read-at-breaks : IsComplete → AreReadAtBreaks
read-at-breaks complete tokens m s =
    let c = full-readings complete s.filled m s.spelled in
    (c.0, λ fuel room f r. let k = c.1 fuel room 0 f r in (k.0, module-at-breaks fuel room s.filled tokens m k.0 s.breaks k.1))

-- ## By the standard's rule

low : (n l : ℕ) → l ≤ n + l
low n l = omega arith

self-low : (n : ℕ) → n ≤ n
self-low n = omega arith

-- a semicolon that stands where no row of the one kind goes on stands where none of fewer rows does
fills-less : {Full Less : List Filled → Type 0} → ((row : List Filled) → Less row → Full row) → {before filled : List Filled} {ts us : List Token} → Fills Full before ts filled us → Fills Less before ts filled us
fills-less f semicolons'.done = semicolons'.done
fills-less f (semicolons'.keeps g) = semicolons'.keeps (fills-less f g)
fills-less f (semicolons'.inserts d n m g) = semicolons'.inserts d (λ b. n (b.0, f _ b.1)) m (fills-less f g)

read-alone : IsComplete → (fuel room : ℕ) (row : List Filled) → (n : Module) × IsModule row n → IsReadAlone fuel room row
read-alone complete fuel room row (n, d) =
    let c = complete row n d in
    let r = c.1 (fuel + c.0) (room + c.0) 0 (low fuel c.0) (low room c.0) in
    (c.0, n, r.0, r.1)

pub inserted-at-breaks : IsComplete → BreaksAreInsertions
inserted-at-breaks complete tokens m s =
    let c = read-at-breaks complete tokens m s in
    let k = c.1 c.0 c.0 (self-low c.0) (self-low c.0) in
    let r = followed-module c.0 c.0 (map read tokens) m k.0 k.1 in
    let n = left-over c.0 c.0 (map read tokens) m k.0 k.1 in
    record {
      filled = r.filled;
      fills = fills-less (read-alone complete c.0 c.0) (gaps-fill c.0 c.0 tokens r.gaps refl n);
      spelled = derived-of c.0 c.0 (map read tokens) m k.0 r n;
    }

-- ## Faults

module-read : (fuel : ℕ) (tokens : List Filled) → read_module fuel tokens ≡ whole_module (readers true fuel most_open) (record { tokens = tokens; last = 0 })
unfolding read_module
module-read fuel tokens = refl

never-both : {m : Module} {after : Input} {stop : Stop} {ts : List Filled} (o : Outcome Module) → o ≡ Took m after → o ≡ Fault stop ts → ⊥
never-both o h k = absurd (cc)

pub dead-at-breaks : IsComplete → FaultsAreDeadAtBreaks
dead-at-breaks complete fuel tokens stop rest h final front behind e r others alike m s =
    let f = faults-stay true fuel most_open (map read tokens) 0 stop rest (sym (module-read fuel (map read tokens)) ∙ h) final in
    let c = read-at-breaks complete (front ++ others) m s in
    let k = c.1 (fuel + c.0) (most_open + c.0) (low fuel c.0) (low most_open c.0) in
    let parts : map read tokens ≡ map read front ++ rest = ap (map read) e ∙ map-append read front behind ∙ ap (λ l. map read front ++ l) r in
    let fronts : map read front ≡ f.0 = append_cancel_right (map read front) f.0 rest (sym parts ∙ f.1) in
    let row : map read (front ++ others) ≡ f.0 ++ map read others = map-append read front others ∙ ap (λ l. l ++ map read others) fronts in
    never-both _ k.1 (ap (λ ts. whole_module (readers true (fuel + c.0) (most_open + c.0)) (record { tokens = ts; last = 0 })) row ∙ f.2 c.0 (map read others) alike)
