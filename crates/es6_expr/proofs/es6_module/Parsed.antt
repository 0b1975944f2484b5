-- What the laws of the model say of an answer.
use Rattle.std.proofs.Common.{◌≡◌, ℕ, suc, ◌+◌, ◌<◌, arith, true, List, [], ◌∷◌, ◌++◌, length, map, take, refl, sym, ap, subst, ◌∙◌, length-append}
use Rattle.std.specs.Prelude.{Result, Ok, Err, IfOk, IfErr}
use Rattle.std.proofs.lemmas.List.{append-nil, length-map, map-append}
use Rattle.es6_lexer.specs.declared.token.Token.{Token}
use Rattle.es6_ast.specs.declared.module.Module.{Module}
use Rattle.es6_ast.specs.declared.settings.Stop.{Stop}
use Rattle.es6_ast.specs.declared.settings.Stop.TheVariants as stops
use Rattle.es6_ast.specs.Depth.{open_constructs}
use Rattle.es6_ast.specs.Semicolons.{SpellsModule}
use Rattle.es6_ast.specs.Tokens.{Filled, read}
use Rattle.es6_reading.specs.Laws.{BeginAlike, IsFinal, Says}
use Rattle.es6_reading.specs.Modules.{most_open, read_module, readers, whole_module}
use Rattle.es6_reading.specs.Parser.{Input, Took, Fault}
use Rattle.es6_reading.proofs.Completeness.{what-is-derived-is-read}
use Rattle.es6_reading.proofs.LocalReaders.{local-faults}
use Rattle.es6_reading.proofs.OneModule.{one-module}
use Rattle.es6_reading.proofs.PlacesOfModules.{places, says}
use Rattle.es6_reading.proofs.ShallowModules.{depth}
use Rattle.es6_reading.proofs.Spelled.{spelled}
use Rattle.es6_reading_laws.specs.es6_viability.Alive.{TokensBeforeFaultsAreAlive}
use Rattle.es6_reading_laws.specs.es6_viability.Spelled.{IsReadAs, NoneIsSpelledPastFaults, SpelledModulesAreReadOrLimited}
use Rattle.es6_reading_laws.specs.es6_viability.TooDeep.{AreOfText, TooManyOpen, open_in_module}
use Rattle.es6_reading_laws.proofs.es6_viability.TooDeep.{modules-are-too-deep}
use Rattle.es6_reading_laws.proofs.es6_viability.NoStop.{no-stop-in-read, no-stop-passed}
use Rattle.es6_reading_laws.proofs.es6_viability.Passed.{read-or-limited, take-next}
use Rattle.es6_reading_laws.proofs.es6_viability.Placed.{depth-before-end, depth-stops}
use Rattle.es6_reading_laws.proofs.es6_viability.Readers.{depth-alive, tokens-alive}
use Rattle.es6_reading_laws.proofs.es6_viability.ReadInserted.{none-past}
use Rattle.es6_reading_laws.proofs.es6_outside_laws.Reported.{faults-reported}
use Rattle.es6_cursor.specs.Readers.{turns}
use Rattle.es6_expr.specs.declared.fault.ParseFault.{ParseFault}
use Rattle.es6_expr.specs.Faults.{fault_of, place_of}
use Rattle.es6_expr.specs.es6_module.Parsed.{Accepts, Answers, IsDeep, IsFault, IsParsed, IsStopAt, IsStopped, Refuses, out_of_memory, stopped}

-- ## The laws, of all that is derived

alive : TokensBeforeFaultsAreAlive
alive = tokens-alive what-is-derived-is-read

none_past : NoneIsSpelledPastFaults
none_past = none-past what-is-derived-is-read

limited : SpelledModulesAreReadOrLimited
limited = read-or-limited places (one-module what-is-derived-is-read) (spelled what-is-derived-is-read) none_past

-- ## Modules

pub is_parsed : (tokens : List Token) (tree : Module) (after : Input) → read_module turns (map read tokens) ≡ Took tree after → IsParsed tokens tree
is_parsed tokens tree after e = record {
  spelled = spelled what-is-derived-is-read turns tokens tree after e;
  no_stop = no-stop-in-read turns tokens tree after e;
  shallow = λ order. depth turns tokens tree after order e;
}

pub parsed : (tokens : List Token) (r : Result Module ParseFault) → Answers tokens (read_module turns (map read tokens)) r → IfOk r (λ tree. IsParsed tokens tree)
parsed tokens (Ok tree) h = is_parsed tokens tree h.0 h.1
parsed tokens (Err fault) h = tt

-- ## Faults

-- what stands among the tokens as the model sees them are parts of the tokens
record Parts (tokens : List Token) (front rest : List Filled) : Type 0 where
  before : List Token
  behind : List Token
  whole : tokens ≡ before ++ behind
  front_is : map read before ≡ front
  rest_is : map read behind ≡ rest

parts : (tokens : List Token) (front rest : List Filled) → map read tokens ≡ front ++ rest → Parts tokens front rest
parts tokens [] rest e = record { before = []; behind = tokens; whole = refl; front_is = refl; rest_is = e }
parts [] (f ∷ fs) rest e = absurd (cc)
parts (t ∷ ts) (f ∷ fs) rest e =
    let head : read t ≡ f = cc in
    let tail : map read ts ≡ fs ++ rest = cc in
    let q = parts ts fs rest tail in
    record {
      before = t ∷ q.before;
      behind = q.behind;
      whole = ap (λ l. t ∷ l) q.whole;
      front_is = ap (λ l. read t ∷ l) q.front_is ∙ ap (λ x. x ∷ fs) head;
      rest_is = q.rest_is;
    }

module-read : (tokens : List Filled) → read_module turns tokens ≡ whole_module (readers true turns most_open) (record { tokens = tokens; last = 0 })
unfolding read_module
module-read tokens = refl

-- a front of the tokens as the model sees them
joined : (before others : List Token) (front : List Filled) → map read before ≡ front → map read (before ++ others) ≡ front ++ map read others
joined before others front e = map-append read before others ∙ ap (λ l. l ++ map read others) e

lengths : (front rest : List Token) → length front + length (map read rest) ≡ length (front ++ rest)
lengths front rest = omega (arith, length-map rest read, length-append front rest)

-- the model stops behind the front
abbrev Stops : List Token → List Token → Stop → Type 0
Stops front rest stop = read_module turns (map read (front ++ rest)) ≡ Fault stop (map read rest)

at-end : (front : List Token) (stop : Stop) → Stops front [] stop → IsFinal stop → (tree : Module) → SpellsModule front tree → ⊥
at-end front stop e final tree spells = none_past turns (front ++ []) stop [] e final front [] refl refl [] refl tree (subst (λ ts. SpellsModule ts tree) (sym (append-nil front)) spells)

inside : (front rest : List Token) (t : Token) → length front < length (front ++ t ∷ rest)
inside front rest t = omega (arith, length-append front (t ∷ rest))

deep-there : (front rest : List Token) → Stops front rest stops.Depth → TooManyOpen most_open open_in_module SpellsModule front rest
deep-there front rest e = modules-are-too-deep turns most_open front rest (sym (module-read (map read (front ++ rest))) ∙ e)

stop-at : (front rest : List Token) (stop : Stop) → Stops front rest stop → IsStopAt front rest stop
stop-at front rest stops.Endless e = tt
stop-at front [] stops.Depth e = deep-there front [] e
stop-at front (t ∷ ts) stops.Depth e = record { inner = depth-before-end turns front ts t e; begun = depth-alive what-is-derived-is-read turns front ts t e; open_ = deep-there front (t ∷ ts) e; stop = depth-stops turns front ts t e }
stop-at front [] (stops.Lexical kind) e = at-end front (stops.Lexical kind) e tt
stop-at front [] stops.Syntax e = at-end front stops.Syntax e tt
stop-at front [] (stops.Outside rule) e = at-end front (stops.Outside rule) e tt
stop-at front (t ∷ ts) (stops.Lexical kind) e = faults-reported turns front ts t (stops.Lexical kind) e tt
stop-at front (t ∷ ts) stops.Syntax e = faults-reported turns front ts t stops.Syntax e tt
stop-at front (t ∷ ts) (stops.Outside rule) e = faults-reported turns front ts t (stops.Outside rule) e tt

-- what is before the tokens that are left
before-rest : (p a b n : ℕ) → p < a → a + b ≡ n → p + b < n
before-rest p a b n h e = omega arith

stops-there : (tokens front rest : List Token) (stop : Stop) → tokens ≡ front ++ rest → read_module turns (map read tokens) ≡ Fault stop (map read rest) → Stops front rest stop
stops-there tokens front rest stop whole e = ap (λ ts. read_module turns (map read ts)) (sym whole) ∙ e

stands : (tokens : List Token) (stop : Stop) (rest : List Filled) → (stop ≡ stops.Endless → ⊥) → read_module turns (map read tokens) ≡ Fault stop rest → IsStopped tokens stop (place_of (map read tokens) rest)
stands tokens stop rest ended e =
    let l = local-faults true turns most_open (map read tokens) 0 stop rest (sym (module-read (map read tokens)) ∙ e) in
    let q = parts tokens l.0 rest l.1 in
    let there : read_module turns (map read tokens) ≡ Fault stop (map read q.behind) = e ∙ ap (λ us. Fault stop us) (sym q.rest_is) in
    let split : Stops q.before q.behind stop = stops-there tokens q.before q.behind stop q.whole there in
    record {
      front = q.before;
      rest = q.behind;
      parts = q.whole;
      place = ap (place_of (map read tokens)) (sym q.rest_is);
      alive = alive turns q.before q.behind stop split ended;
      first = λ p h. no-stop-passed turns tokens stop (map read q.behind) there ended p (before-rest p (length q.before) (length (map read q.behind)) (length tokens) h (lengths q.before q.behind ∙ ap length (sym q.whole)));
      stops = stop-at q.before q.behind stop split;
      says = subst (λ r. Says stop r) (sym q.rest_is) (says turns (map read tokens) stop rest e);
      stays = λ others alike. ap (read_module turns) (joined q.before others l.0 q.front_is) ∙ module-read (l.0 ++ map read others) ∙ l.2 (map read others) (subst (λ r. BeginAlike r (map read others)) q.rest_is alike);
    }

told : (tokens : List Token) (at : ℕ) (stop : Stop) → ((stop ≡ stops.Endless → ⊥) → IsStopped tokens stop at) → IsFault tokens (fault_of stop at)
told tokens at stops.Syntax s = s (λ e. absurd (cc))
told tokens at (stops.Lexical kind) s = s (λ e. absurd (cc))
told tokens at (stops.Outside rule) s = s (λ e. absurd (cc))
told tokens at stops.Depth s = s (λ e. absurd (cc))
told tokens at stops.Endless s = tt

refused : (tokens : List Token) (fault : ParseFault) → Refuses tokens (read_module turns (map read tokens)) fault → IsFault tokens fault
refused tokens fault (out_of_memory e) = subst (λ f. IsFault tokens f) (sym e) tt
refused tokens fault (stopped stop rest e f) = subst (λ f. IsFault tokens f) (sym f) (told tokens (place_of (map read tokens) rest) stop (λ ended. stands tokens stop rest ended e))

pub faults : (tokens : List Token) (r : Result Module ParseFault) → Answers tokens (read_module turns (map read tokens)) r → IfErr r (λ fault. IsFault tokens fault)
faults tokens (Ok tree) h = tt
faults tokens (Err fault) h = refused tokens fault h

-- ## What is refused

one-more : (n : ℕ) → n + 1 ≡ suc n
one-more n = omega arith

many-open : (front rest : List Token) → IsStopAt front rest stops.Depth → TooManyOpen most_open open_in_module SpellsModule front rest
many-open front [] d = d
many-open front (t ∷ ts) d = d.open_

-- a module of which too many constructs are open at the first token of the rest
deep-at : (front rest : List Token) → TooManyOpen most_open open_in_module SpellsModule front rest → AreOfText (front ++ rest) → (tree : Module) → SpellsModule (front ++ rest) tree → IsDeep (front ++ rest) tree
deep-at front [] deep text tree spells = absurd (deep (subst AreOfText (append-nil front) text) tree (subst (λ ts. SpellsModule ts tree) (append-nil front) spells))
deep-at front (t ∷ ts) deep text tree spells = (
  length front,
  inside front ts t,
  subst (λ us. most_open < open_constructs us tree) (sym (ap (λ n. take n (front ++ t ∷ ts)) (one-more (length front)) ∙ take-next front t ts)) (deep ts text tree spells),
)

refusing : (tokens : List Token) (stop : Stop) (at : ℕ) → (IsFinal stop → (tree : Module) → SpellsModule tokens tree → ⊥) → ((stop ≡ stops.Endless → ⊥) → IsStopped tokens stop at) → Accepts tokens (Err (fault_of stop at))
refusing tokens stops.Syntax at h s = h tt
refusing tokens (stops.Lexical kind) at h s = h tt
refusing tokens (stops.Outside rule) at h s = h tt
refusing tokens stops.Depth at h s = λ text tree spells.
    let r = s (λ e. absurd (cc)) in
    subst (λ ts. IsDeep ts tree) (sym r.parts) (deep-at r.front r.rest (many-open r.front r.rest r.stops) (subst AreOfText r.parts text) tree (subst (λ ts. SpellsModule ts tree) r.parts spells))
refusing tokens stops.Endless at h s = tt

refusals : (tokens : List Token) (fault : ParseFault) → Refuses tokens (read_module turns (map read tokens)) fault → Accepts tokens (Err fault)
refusals tokens fault (out_of_memory e) = subst (λ f. Accepts tokens (Err f)) (sym e) tt
refusals tokens fault (stopped stop rest e f) =
    subst (λ f. Accepts tokens (Err f)) (sym f) (refusing tokens stop (place_of (map read tokens) rest) (λ final tree spells. subst (λ o. IsReadAs tree o) e (limited turns tokens tree spells) final) (λ ended. stands tokens stop rest ended e))

pub accepts : (tokens : List Token) (r : Result Module ParseFault) → Answers tokens (read_module turns (map read tokens)) r → Accepts tokens r
accepts tokens (Ok tree) h = λ other spells. one-module what-is-derived-is-read tokens other tree spells (spelled what-is-derived-is-read turns tokens tree h.0 h.1)
accepts tokens (Err fault) h = refusals tokens fault h
