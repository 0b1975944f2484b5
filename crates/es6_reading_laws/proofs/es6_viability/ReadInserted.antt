-- A module that tokens spell, with semicolons put in where no module goes on, is read of the tokens.
use Rattle.std.proofs.Common.{◌≡◌, ◌∙◌, ℕ, suc, ◌+◌, ◌≤◌, arith, true, false, List, [], ◌++◌, map, length, refl, sym, ap, subst}
use Rattle.std.proofs.lemmas.List.{append-nil, append_cancel_right, map-append}
use Rattle.es6_lexer.specs.declared.token.Token.{Token}
use Rattle.es6_ast.specs.Modules.{IsModule}
use Rattle.es6_ast.specs.Semicolons.{Fills}
use Rattle.es6_ast.specs.Tokens.{Filled, read}
use Rattle.es6_ast.specs.declared.module.Module.{Module}
use Rattle.es6_ast.specs.declared.settings.Stop.{Stop}
use Rattle.es6_reading.specs.Laws.{IsComplete}
use Rattle.es6_reading.specs.Modules.{readers, whole_module, most_open, read_module}
use Rattle.es6_reading.specs.Parser.{Input, Outcome, Took, Fault}
use Rattle.es6_reading.proofs.Insertion.{whole-ends}
use Rattle.es6_reading.proofs.LocalModules as m'
use Rattle.es6_reading.proofs.LocalReaders.{full-readings, faults-stay, grown}
use Rattle.es6_reading.proofs.Posts.{Holds, of_took}
use Rattle.es6_reading.proofs.Soundness.{soundness}
use Rattle.es6_reading_laws.specs.es6_viability.Spelled.{SpelledModulesAreRead, NoneIsSpelledPastFaults}
use Rattle.es6_reading_laws.proofs.es6_viability.Statements as statements'
use Rattle.es6_reading_laws.proofs.es6_viability.Readers.{better}
use Rattle.es6_reading_laws.proofs.es6_viability.BesideStatements as b'
use Rattle.es6_reading_laws.proofs.es6_viability.BesideStatements.{crosses}
use Rattle.es6_reading_laws.proofs.es6_viability.LeftOut.{all-left-out}

never-both : {m : Module} {c : Input} {stop : Stop} {ts : List Filled} (o : Outcome Module) → o ≡ Took m c → o ≡ Fault stop ts → ⊥
never-both o h k = absurd (cc)

module-left-out : (fuel room : ℕ) (row : List Filled) (m : Module) (c after : Input) → whole_module (readers false fuel (suc room)) (record { tokens = row; last = 0 }) ≡ Took m after → c.tokens ≡ [] → {tokens : List Token} → Fills (λ row. (n : Module) × IsModule row n) [] tokens row [] → suc (suc (length row)) ≤ fuel
    → whole_module (readers true fuel room) (record { tokens = row; last = 0 }) ≡ Took m c → whole_module (readers true fuel room) (record { tokens = map read tokens; last = 0 }) ≡ Took m c
module-left-out fuel room row m c after h ended g turns r = all-left-out (λ mode fuel room. whole_module (readers mode fuel room)) (λ row. (n : Module) × IsModule row n)
    (λ g a b fuel room l m s. m'.whole_module (readers a fuel room) (readers b _ _) (grown g a b fuel room l m) s)
    (λ g fuel room s. b'.whole_module (readers true fuel room) (readers false fuel (suc room)) (crosses g fuel room) s)
    (λ fuel room s. (statements'.whole-module (readers false fuel (suc room)) (readers false (suc fuel) _) (better false fuel (suc room)) s).half)
    (λ m. refl) (λ fuel room us m last k. (m, soundness fuel room us 0 m (record { tokens = []; last = last }) k))
    fuel room row m c after h [] ended g turns (sym (append-nil row)) r

most : (a b c n : ℕ) → a + b + c ≤ n → a ≤ n
most a b c n h = omega arith

middle : (a b c n : ℕ) → a + b + c ≤ n → b ≤ n
middle a b c n h = omega arith

rest_ : (a b c n : ℕ) → a + b + c ≤ n → c ≤ n
rest_ a b c n h = omega arith

one-up : (a b : ℕ) → a ≤ b → a ≤ suc b
one-up a b h = omega arith

pub ended-true : (fuel room : ℕ) (row : List Filled) (m : Module) (c : Input) → whole_module (readers true fuel room) (record { tokens = row; last = 0 }) ≡ Took m c → c.tokens ≡ []
ended-true fuel room row m c h = of_took {Q = λ m c. c.tokens ≡ []} {x = m} (subst (λ o. Holds (λ m c. c.tokens ≡ []) o) h (whole-ends (readers true fuel room) (record { tokens = row; last = 0 })))

pub read-spelled : IsComplete → SpelledModulesAreRead
read-spelled complete tokens m s =
    let f = full-readings complete s.filled m s.spelled in
    let p = complete s.filled m s.spelled in
    let l : ℕ = suc (suc (length s.filled)) in (
      f.0 + p.0 + l,
      λ fuel room a b.
          let k = f.1 fuel room 0 (most f.0 p.0 l fuel a) (most f.0 p.0 l room b) in
          let o = p.1 fuel (suc room) 0 (middle f.0 p.0 l fuel a) (one-up p.0 room (middle f.0 p.0 l room b)) in
          (k.0, module-left-out fuel room s.filled m k.0 o.0 o.1 (ended-true fuel room s.filled m k.0 k.1) s.fills (rest_ f.0 p.0 l fuel a) k.1),
    )

-- ## Faults

low : (n l : ℕ) → l ≤ n + l
low n l = omega arith

module-read : (fuel : ℕ) (tokens : List Filled) → read_module fuel tokens ≡ whole_module (readers true fuel most_open) (record { tokens = tokens; last = 0 })
unfolding read_module
module-read fuel tokens = refl

pub none-past : IsComplete → NoneIsSpelledPastFaults
none-past complete fuel tokens stop rest h final front behind e r others alike m s =
    let f = faults-stay true fuel most_open (map read tokens) 0 stop rest (sym (module-read fuel (map read tokens)) ∙ h) final in
    let c = read-spelled complete (front ++ others) m s in
    let k = c.1 (fuel + c.0) (most_open + c.0) (low fuel c.0) (low most_open c.0) in
    let parts : map read tokens ≡ map read front ++ rest = ap (map read) e ∙ map-append read front behind ∙ ap (λ l. map read front ++ l) r in
    let fronts : map read front ≡ f.0 = append_cancel_right (map read front) f.0 rest (sym parts ∙ f.1) in
    let row : map read (front ++ others) ≡ f.0 ++ map read others = map-append read front others ∙ ap (λ l. l ++ map read others) fronts in
    never-both _ k.1 (ap (λ ts. whole_module (readers true (fuel + c.0) (most_open + c.0)) (record { tokens = ts; last = 0 })) row ∙ f.2 c.0 (map read others) alike)
