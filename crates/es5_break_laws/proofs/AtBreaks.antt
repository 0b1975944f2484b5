-- A program that tokens spell with semicolons put in at breaks is read of the tokens.
use Rattle.std.proofs.Common.{◌≡◌, ◌∙◌, ℕ, true, false, List, [], ◌∷◌, ◌++◌, refl, sym, subst, append_assoc, ◌+◌, ◌≤◌, arith}
use Rattle.std.proofs.lemmas.Bool.{false≢true}
use Rattle.es5_ast.specs.declared.tree.Stat5.{Stat5}
use Rattle.es5_ast.specs.Lexical.{Token5}
use Rattle.es5_ast.specs.Grammar.{end_of, Mode5, IsProgram}
use Rattle.es5_ast.specs.Script.{inserted}
use Rattle.es5_reading.specs.Laws.{IsFilled, IsReadExactly, IsReadInFull}
use Rattle.es5_reading.specs.Parser.{Input5, Outcome5, Took, Fault}
use Rattle.es5_reading.specs.Programs.{readers, program}
use Rattle.es5_break_laws.specs.Breaks.{AreReadAtBreaks, BreaksAreInsertions, FaultsAreDeadAtBreaks, Breaks, at_end, keeps, inserts, inserts_at_end}
use Rattle.es5_break_laws.proofs.Across.{semi, at_the_end, before_break, Agree, took_both, joined, first_stops, lost, Gap, Rows, here, later}
use Rattle.es5_reading.proofs.Enough.{enough}
use Rattle.es5_reading_laws.specs.Laws.{BeginAlike, FaultsStay}
use Rattle.es5_reading_laws.proofs.DeadFaults.{never-both}
use Rattle.es5_break_laws.proofs.AcrossReaders as r
use Rattle.es5_break_laws.proofs.AcrossReaders.{crosses}

-- ## One semicolon left out

no-token : {t : Token5} {ts : List Token5} → t ∷ ts ≡ [] → ⊥
no-token e = cc

no-row : {g : Gap} {last : ℕ} {ts us : List Token5} → Rows g last ts us → ts ≡ [] → ⊥
no-row here e = no-token e
no-row (later w) e = no-token e

tokens-of : {A : Type 0} {x y : A} {s c : Input5} → Took x s ≡ Took y c → s.tokens ≡ c.tokens
tokens-of h = cc

taken-of : {A : Type 0} {g : Gap} {x : A} {c : Input5} {o o' : Outcome5 A} → Agree g false o o' → o ≡ Took x c → c.tokens ≡ [] → o' ≡ Took x c
taken-of (took_both {s = s} s') h e = absurd (no-row s'.rows (tokens-of h ∙ e))
taken-of joined h e = h
taken-of first_stops h e = absurd (cc)
taken-of (lost k) h e = absurd (false≢true k)

rows-after : (g : Gap) (before : List Token5) (last : ℕ) → g.at ≡ end_of last before → Rows g last (before ++ semi g.at ∷ g.behind) (before ++ g.behind)
rows-after g [] last e = subst (λ n. Rows g n (semi g.at ∷ g.behind) g.behind) e here
rows-after g (t ∷ before) last e = later (rows-after g before t.end e)

-- ## All of them left out, the last first

module _ (fuel room : ℕ) (statements : List Stat5) (c : Input5) (left : c.tokens ≡ []) where
  abbrev Reads : List Token5 → Type 0
  Reads ts = program (readers true fuel room) fuel (record { tokens = ts; last = 0 }) ≡ Took statements c

  left-out : (g : Gap) (before : List Token5) → g.at ≡ end_of 0 before → Reads (before ++ semi g.at ∷ g.behind) → Reads (before ++ g.behind)
  left-out g before e h =
      taken-of (r.program (readers true fuel room) (crosses g fuel room) fuel (record { tokens = before ++ semi g.at ∷ g.behind; last = 0 }) (record { row = before ++ g.behind; rows = rows-after g before 0 e })) h left

  one-more : (before : List Token5) (t : Token5) (ts : List Token5) → Reads ((before ++ t ∷ []) ++ ts) → Reads (before ++ t ∷ ts)
  one-more before t ts h = subst (λ us. Reads us) (append_assoc before (t ∷ []) ts) h

  one-back : (before : List Token5) (t : Token5) (ts : List Token5) → Reads (before ++ t ∷ ts) → Reads ((before ++ t ∷ []) ++ ts)
  one-back before t ts h = subst (λ us. Reads us) (sym (append_assoc before (t ∷ []) ts)) h

  all-left-out : {before filled tokens : List Token5} → Breaks before tokens filled → Reads (before ++ filled) → Reads (before ++ tokens)
  all-left-out at_end h = h
  all-left-out (keeps {before = before} {filled = filled} {t = t} {ts = ts} g) h = one-more before t ts (all-left-out g (one-back before t filled h))
  all-left-out (inserts {before = before} {filled = filled} {t = t} {ts = ts} b g) h =
      left-out (record { at = end_of 0 before; behind = t ∷ ts; quiet = before_break b }) before refl (one-more before (inserted before) (t ∷ ts) (all-left-out g (one-back before (inserted before) filled h)))
  all-left-out (inserts_at_end {before = before} {filled = filled} g) h =
      left-out (record { at = end_of 0 before; behind = []; quiet = at_the_end }) before refl (one-more before (inserted before) [] (all-left-out g (one-back before (inserted before) filled h)))

pub read-at-breaks : IsReadExactly true → AreReadAtBreaks
read-at-breaks exactly room tokens filled statements d g w =
    let e = exactly room filled statements d w in
    (e.0, λ fuel f. let k = e.1 fuel 0 f in (k.0, all-left-out fuel room statements (record { tokens = []; last = k.0 }) refl g k.1))

-- ## By the standard's rule

self-low : (n : ℕ) → n ≤ n
self-low n = omega arith

low : (n l : ℕ) → l ≤ n + l
low n l = omega arith

pub inserted-at-breaks : IsReadExactly true → IsFilled → BreaksAreInsertions
inserted-at-breaks exactly is-filled tokens filled statements d g =
    let w = enough d in
    let e = read-at-breaks exactly w.bound tokens filled statements d g (w.fits w.bound (self-low w.bound)) in
    let k = e.1 e.0 (self-low e.0) in
    let r = is-filled e.0 w.bound tokens statements (record { tokens = []; last = k.0 }) k.1 in
    (r.filled, r.fills, r.derived)

-- ## Faults

pub dead-at-breaks : IsReadInFull → FaultsStay → FaultsAreDeadAtBreaks
dead-at-breaks full stay fuel room tokens stop rest h k =
    let f = stay true fuel room tokens 0 stop rest h k in
    (f.0, f.1, λ mode others filled statements a g d. dead f.0 f.2 mode others filled statements a g d)
  where
    dead : (front : List Token5) → ((more : ℕ) (others : List Token5) → BeginAlike rest others → program (readers true (fuel + more) (room + more)) (fuel + more) (record { tokens = front ++ others; last = 0 }) ≡ Fault stop others)
        → (mode : Mode5) (others filled : List Token5) (statements : List Stat5) → BeginAlike rest others → Breaks [] (front ++ others) filled → IsProgram mode filled statements → ⊥
    dead front stays mode others filled statements a g d =
        let c = full mode filled statements d in
        let t = c.1 (fuel + c.0) (room + c.0) 0 (low fuel c.0) (low room c.0) in
        never-both (all-left-out (fuel + c.0) (room + c.0) t.0 (record { tokens = []; last = t.1 }) refl g t.2) (stays c.0 others a)
