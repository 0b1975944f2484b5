-- A reader of a module stops no later than at the first token that is dead or too deep, and of a module that is read there is none. What
-- stops it but for depth is the first.
use Rattle.std.specs.Prelude.{slice_get}
use Rattle.std.proofs.Common.{◌≡◌, ◌∙◌, inl, inr, ℕ, suc, ◌+◌, ◌-◌, ◌<◌, ◌≤◌, true, List, [], ◌∷◌, ◌++◌, drop, length, length-append, map, ap, refl, sym, subst, arith}
use Rattle.std.proofs.lemmas.List.{length-map, take-append-drop}
use Rattle.es6_lexer.specs.declared.token.Token.{Token}
use Rattle.es6_ast.specs.declared.settings.Stop.{Stop}
use Rattle.es6_ast.specs.declared.settings.Stop.TheVariants.{Endless, Lexical, Syntax}
use Rattle.es6_ast.specs.Dead.{IsOutside, StopsAt, for_in, large_number, marked_number, regular_expression, syntax_fault, with}
use Rattle.es6_ast.specs.Semicolons.{SpellsModule}
use Rattle.es6_ast.specs.Tokens.{Filled, Read, begin_of, read}
use Rattle.es6_reading.specs.Laws.{IsFinal, Says}
use Rattle.es6_reading.specs.Modules.{most_open, read_module, readers, whole_module}
use Rattle.es6_reading.proofs.Completeness.{what-is-derived-is-read}
use Rattle.es6_reading.proofs.PlacesOfModules.{places, says}
use Rattle.es6_reading.proofs.Spelled.{spelled}
use Rattle.es6_reading_laws.specs.es6_viability.Spelled.{FaultsAreDead}
use Rattle.es6_reading_laws.specs.es6_viability.TooDeep.{FaultsStandAtStops, LexicalFaultsAreStops, NoStopIsPassed, Passes, ReadModulesHaveNoStop, SyntaxFaultsAreStops, TellsOutside, in_, marked, slash, slash_assign, too_large, with_}
use Rattle.es6_reading_laws.proofs.es6_viability.Passed.{faults-dead, lexical-reported, no-dead, seam, split}
use Rattle.es6_reading_laws.proofs.es6_viability.ReadInserted.{ended-true, none-past}
use Rattle.es6_reading_laws.proofs.es6_viability.Readers.{tokens-alive}
use Rattle.es6_reading_laws.proofs.es6_viability.TooDeep.{none-too-deep}

pub module-read : (fuel : ℕ) (tokens : List Filled) → read_module fuel tokens ≡ whole_module (readers true fuel most_open) (record { tokens = tokens; last = 0 })
unfolding read_module
module-read fuel tokens = refl

behind-there : (p n : ℕ) → p < n → p + suc (n - suc p) ≡ n
behind-there p n h = omega (arith, h)

before-rest : (p b n : ℕ) → p + b < n → p < n
before-rest p b n h = omega (arith, h)

no-more : (p b n : ℕ) → p + b < n → b ≤ n - suc p
no-more p b n h = omega (arith, h)

least : (n : ℕ) → length {A = Filled} [] ≤ n
least n = omega arith

pub no-stop-passed : NoStopIsPassed
no-stop-passed fuel tokens stop rest e ended p l (inl dead) = no-dead places (tokens-alive what-is-derived-is-read) fuel tokens stop rest e ended p l dead
no-stop-passed fuel tokens stop rest e ended p l (inr deep) =
    none-too-deep fuel tokens p (length tokens - suc p) (behind-there p (length tokens) (before-rest p (length rest) (length tokens) l)) (subst (λ o. Passes (length tokens - suc p) o) (sym e) (ended, no-more p (length rest) (length tokens) l)) deep

pub no-stop-in-read : ReadModulesHaveNoStop
no-stop-in-read fuel tokens m after e p l (inl dead) = dead (drop (p + 1) tokens, m, subst (λ ts. SpellsModule ts m) (sym (take-append-drop (p + 1) tokens)) (spelled what-is-derived-is-read fuel tokens m after e))
no-stop-in-read fuel tokens m after e p l (inr deep) =
    let none : after.tokens ≡ [] = ended-true fuel most_open (map read tokens) m after (sym (module-read fuel (map read tokens)) ∙ e) in
    none-too-deep fuel tokens p (length tokens - suc p) (behind-there p (length tokens) l) (subst (λ o. Passes (length tokens - suc p) o) (sym e) (subst (λ us. length us ≤ length tokens - suc p) (sym none) (least (length tokens - suc p)))) deep

-- ## At the first

dead-there : FaultsAreDead
dead-there = faults-dead places (none-past what-is-derived-is-read)

ended-not : (stop : Stop) → IsFinal stop → stop ≡ Endless → ⊥
ended-not stop final e = subst IsFinal e final

pub before-it : (q p b n : ℕ) → q < p → p + b ≡ n → q + b < n
before-it q p b n l e = omega (arith, l, e)

pub first-stops : FaultsStandAtStops
first-stops fuel tokens stop rest e final p l m = record {
  inside = m;
  stops = inl (dead-there fuel tokens stop rest e final p l m);
  first = λ q k. no-stop-passed fuel tokens stop rest e (ended-not stop final) q (before-it q p (length rest) (length tokens) k l);
}

lengths : (front rest : List Token) (rs : List Filled) → map read rest ≡ rs → length front + length rs ≡ length (front ++ rest)
lengths front rest rs e = omega (arith, ap length (sym e), length-map rest read, length-append front rest)

shorter : (front rest : List Token) (t : Token) → length front < length (front ++ t ∷ rest)
shorter front rest t = omega (arith, length-append front (t ∷ rest))

pub lexical-stops : LexicalFaultsAreStops
lexical-stops fuel tokens kind rest e =
    let f = places fuel (map read tokens) (Lexical kind) rest e in
    let s = split tokens f.0 rest f.1 in
    by s.front s.behind s.whole s.left_
  where
    at-token : (front ts : List Token) (t : Token) → map read (t ∷ ts) ≡ rest → tokens ≡ front ++ t ∷ ts → StopsAt tokens (begin_of rest) (Lexical kind)
    at-token front ts t r w =
        let l : length front + length rest ≡ length tokens = lengths front (t ∷ ts) rest r ∙ ap length (sym w) in
        let there = ap (λ us. slice_get us (length front)) w ∙ seam front t ts in
        record {
          index = length front;
          token = t;
          there = there;
          stops = first-stops fuel tokens (Lexical kind) rest e tt (length front) l (subst (λ us. length front < length us) (sym w) (shorter front ts t));
          reported = lexical-reported places says dead-there fuel tokens kind rest e (length front) t l there;
          place = ap begin_of (sym r);
        }

    by : (front behind : List Token) → tokens ≡ front ++ behind → map read behind ≡ rest → StopsAt tokens (begin_of rest) (Lexical kind)
    by front [] w r = absurd (subst (λ us. Says (Lexical kind) us) (sym r) (says fuel (map read tokens) (Lexical kind) rest e))
    by front (t ∷ ts) w r = at-token front ts t r w

-- only some tokens tell of what is outside the profile
none-outside : {tokens : List Token} {p : ℕ} {t : Token} {rule : ℕ} → (TellsOutside t.kind → ⊥) → IsOutside tokens p t rule → ⊥
none-outside h (for_in e w n) = h (subst TellsOutside (sym e) in_)
none-outside h (regular_expression (inl e) w) = h (subst TellsOutside (sym e) slash)
none-outside h (regular_expression (inr e) w) = h (subst TellsOutside (sym e) slash_assign)
none-outside h (marked_number e w) = h (subst TellsOutside (sym e) marked)
none-outside h (large_number e w) = h (subst TellsOutside (sym e) too_large)
none-outside h (with e w) = h (subst TellsOutside (sym e) with_)

pub syntax-stops : SyntaxFaultsAreStops
syntax-stops fuel front behind t e h =
    let tokens : List Token = front ++ t ∷ behind in
    let rest : List Filled = map read (t ∷ behind) in
    let l : length front + length rest ≡ length tokens = lengths front (t ∷ behind) rest refl in
    let here = first-stops fuel tokens Syntax rest e tt (length front) l (shorter front behind t) in
    record {
      index = length front;
      token = t;
      there = seam front t behind;
      stops = here;
      reported = syntax_fault (dead-there fuel tokens Syntax rest e tt (length front) l (shorter front behind t)) (λ kind k. says fuel (map read tokens) Syntax rest e kind (ap Read k)) (λ rule o. none-outside h o);
      place = refl;
    }
