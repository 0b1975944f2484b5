-- No token with which no module goes on stands before a fault, and such a one at it.
use Rattle.std.proofs.Common.{◌≡◌, ◌∙◌, ℕ, zero, suc, ◌+◌, ◌≤◌, ◌<◌, arith, List, [], ◌∷◌, ◌++◌, map, length, take, Option, Some, append_assoc, refl, sym, ap, subst}
use Rattle.std.specs.Prelude.{slice_get}
use Rattle.std.proofs.Math.Seq.{get_or-append_seam}
use Rattle.std.proofs.lemmas.Option.{slice_get_read, slice_get_within}
use Rattle.es6_lexer.specs.declared.token.Token.{Token}
use Rattle.es6_lexer.specs.declared.token.TokenKind.{TokenKind}
use Rattle.es6_lexer.specs.declared.token.TokenKind.TheVariants as kinds
use Rattle.es6_ast.specs.Dead.{lexical_fault}
use Rattle.es6_ast.specs.declared.module.Module.{Module}
use Rattle.es6_ast.specs.declared.settings.Stop.TheVariants.{Lexical}
use Rattle.es6_ast.specs.Semicolons.{SpellsModule}
use Rattle.es6_ast.specs.Tokens.{Read, Filled, read}
use Rattle.es6_reading.specs.Laws.{IsUnique, AreSpelled, BeginAlike, BeginWith, FaultsAreInside, FaultsSayWhatStandsThere}
use Rattle.es6_reading.specs.Modules.{read_module}
use Rattle.es6_reading.specs.Parser.{Outcome, Took, Fault}
use Rattle.es6_reading_laws.specs.es6_viability.Alive.{TokensBeforeFaultsAreAlive, NoDeadTokenIsPassed}
use Rattle.es6_reading_laws.specs.es6_viability.Spelled.{IsReadAs, SpelledModulesAreReadOrLimited, NoneIsSpelledPastFaults, FaultsAreDead, LexicalFaultsAreReported}

-- the tokens of a text that spell the front of a row, and those behind
pub record Split (tokens : List Token) (rest : List Filled) : Type 0 where
  pub front : List Token
  pub behind : List Token
  pub whole : tokens ≡ front ++ behind
  pub left_ : map read behind ≡ rest

tail-of : {t u : Filled} {ts us : List Filled} → t ∷ ts ≡ u ∷ us → ts ≡ us
tail-of e = cc

pub split : (tokens : List Token) (front rest : List Filled) → map read tokens ≡ front ++ rest → Split tokens rest
split tokens [] rest e = record { front = []; behind = tokens; whole = refl; left_ = e }
split [] (t ∷ front) rest e = absurd (cc)
split (u ∷ tokens) (t ∷ front) rest e =
    let s = split tokens front rest (tail-of e) in
    record { front = u ∷ s.front; behind = s.behind; whole = ap (λ ts. u ∷ ts) s.whole; left_ = s.left_ }

none-taken : (k : ℕ) → suc k ≤ 0 → ⊥
none-taken k h = omega arith

one-less : (k n : ℕ) → suc k ≤ suc n → k ≤ n
one-less k n h = omega arith

-- what begins with some of the tokens of a front, goes on to the end of it
prefix : (k : ℕ) (front behind more : List Token) → k ≤ length front → (rest : List Token) × (take k (front ++ behind) ++ rest ≡ front ++ more)
prefix zero front behind more h = (front ++ more, refl)
prefix (suc k) [] behind more h = absurd (none-taken k h)
prefix (suc k) (t ∷ front) behind more h = let r = prefix k front behind more (one-less k (length front) h) in (r.0, ap (λ ts. t ∷ ts) r.1)

length-both : (front behind : List Token) → length (front ++ behind) ≡ length front + length behind
length-both [] behind = omega arith
length-both (t ∷ front) behind = step (length (front ++ behind)) (length front) (length behind) (length-both front behind)
  where
    step : (a b c : ℕ) → a ≡ b + c → suc a ≡ suc b + c
    step a b c e = omega arith

length-read : (ts : List Token) → length (map read ts) ≡ length ts
length-read [] = refl
length-read (t ∷ ts) = ap (λ n. suc n) (length-read ts)

before : (q a b n r : ℕ) → q + r < n → n ≡ a + b → r ≡ b → q + 1 ≤ a
before q a b n r h e k = omega arith

pub no-dead : FaultsAreInside → TokensBeforeFaultsAreAlive → NoDeadTokenIsPassed
no-dead inside alive fuel tokens stop rest k final q h dead =
    let f = inside fuel (map read tokens) stop rest k in
    let s = split tokens f.0 rest f.1 in
    let a = alive fuel s.front s.behind stop (subst (λ ts. read_module fuel (map read ts) ≡ Fault stop (map read s.behind)) s.whole (subst (λ us. read_module fuel (map read tokens) ≡ Fault stop us) (sym s.left_) k)) final in
    let le : q + 1 ≤ length s.front = before q (length s.front) (length s.behind) (length tokens) (length rest) h (ap length s.whole ∙ length-both s.front s.behind) (ap length (sym s.left_) ∙ length-read s.behind) in
    let r = prefix (q + 1) s.front s.behind a.0 le in
    dead (r.0, a.1, subst (λ ts. SpellsModule ts a.1) (sym r.1 ∙ ap (λ ts. take (q + 1) ts ++ r.0) (sym s.whole)) a.2)

pub take-next : (front : List Token) (t : Token) (ts : List Token) → take (suc (length front)) (front ++ t ∷ ts) ≡ front ++ t ∷ []
take-next [] t ts = refl
take-next (u ∷ front) t ts = ap (λ us. u ∷ us) (take-next front t ts)

nothing-there : (p n a b r : ℕ) → p + r ≡ n → p < n → n ≡ a + b → r ≡ b → b ≡ 0 → ⊥
nothing-there p n a b r e l w k z = omega arith

next-there : (p n a b r : ℕ) → p + r ≡ n → n ≡ a + b → r ≡ b → p + 1 ≡ suc a
next-there p n a b r e w k = omega arith

pub faults-dead : FaultsAreInside → NoneIsSpelledPastFaults → FaultsAreDead
faults-dead inside none fuel tokens stop rest k final p e l alive =
    let f = inside fuel (map read tokens) stop rest k in
    let s = split tokens f.0 rest f.1 in
    by s.front s.behind s.whole s.left_
  where
    by : (front behind : List Token) → tokens ≡ front ++ behind → map read behind ≡ rest → ⊥
    by front [] w r = nothing-there p (length tokens) (length front) 0 (length rest) e l (ap length w ∙ length-both front []) (ap length (sym r)) refl
    by front (t ∷ ts) w r =
        let n : p + 1 ≡ suc (length front) = next-there p (length tokens) (length front) (length (t ∷ ts)) (length rest) e (ap length w ∙ length-both front (t ∷ ts)) (ap length (sym r) ∙ length-read (t ∷ ts)) in
        let row : take (p + 1) tokens ≡ front ++ t ∷ [] = ap (λ us. take (p + 1) us) w ∙ ap (λ q. take q (front ++ t ∷ ts)) n ∙ take-next front t ts in
        none fuel tokens stop rest k final front (t ∷ ts) w r (t ∷ alive.0) (subst (λ us. BeginAlike us (map read (t ∷ alive.0))) r (map read alive.0, refl)) alive.1
        (subst (λ us. SpellsModule us alive.1) (ap (λ us. us ++ alive.0) row ∙ append_assoc front (t ∷ []) alive.0) alive.2)

-- ## What is spelled, and what is reported

alike : (us : List Filled) → BeginAlike us us
alike [] = refl
alike (t ∷ us) = (us, refl)

pub read-or-limited : FaultsAreInside → IsUnique → AreSpelled → NoneIsSpelledPastFaults → SpelledModulesAreReadOrLimited
read-or-limited inside unique spelled none fuel tokens m spells = by (read_module fuel (map read tokens)) refl
  where
    by : (o : Outcome Module) → read_module fuel (map read tokens) ≡ o → IsReadAs m o
    by (Took n after) k = unique tokens n m (spelled fuel tokens n after k) spells
    by (Fault stop rest) k = λ final.
        let f = inside fuel (map read tokens) stop rest k in
        let s = split tokens f.0 rest f.1 in
        none fuel tokens stop rest k final s.front s.behind s.whole s.left_ s.behind (subst (λ us. BeginAlike us (map read s.behind)) s.left_ (alike (map read s.behind))) m (subst (λ us. SpellsModule us m) s.whole spells)

below-seam : (a b : ℕ) → a < a + suc b
below-seam a b = omega arith

pub seam : (front : List Token) (t : Token) (ts : List Token) → slice_get (front ++ t ∷ ts) (length front) ≡ Some t
seam front t ts = slice_get_read (front ++ t ∷ ts) (length (front ++ t ∷ ts)) (length front) t refl (subst (λ n. length front < n) (sym (length-both front (t ∷ ts))) (below-seam (length front) (length ts))) (sym (get_or-append_seam front t ts t))

some-is : {x y : Token} → ◌≡◌ {A = Option Token} (Some x) (Some y) → x ≡ y
some-is e = cc

at-place : (p n a b r : ℕ) → p + r ≡ n → n ≡ a + b → r ≡ b → p ≡ a
at-place p n a b r e w k = omega arith

pub lexical-reported : FaultsAreInside → FaultsSayWhatStandsThere → FaultsAreDead → LexicalFaultsAreReported
lexical-reported inside says dead fuel tokens kind rest k p t e g =
    let f = inside fuel (map read tokens) (Lexical kind) rest k in
    let s = split tokens f.0 rest f.1 in
    lexical_fault kind (dead fuel tokens (Lexical kind) rest k tt p e (slice_get_within tokens p t g)) (by s.front s.behind s.whole s.left_)
  where
    read-kind : {a b : TokenKind} → Read a ≡ Read b → a ≡ b
    read-kind h = cc

    by : (front behind : List Token) → tokens ≡ front ++ behind → map read behind ≡ rest → t.kind ≡ kinds.Fault kind
    by front [] w r = absurd (subst (λ us. BeginWith (Read (kinds.Fault kind)) us) (sym r) (says fuel (map read tokens) (Lexical kind) rest k))
    by front (u ∷ us) w r =
        let q : p ≡ length front = at-place p (length tokens) (length front) (length (u ∷ us)) (length rest) e (ap length w ∙ length-both front (u ∷ us)) (ap length (sym r) ∙ length-read (u ∷ us)) in
        let same : t ≡ u = some-is (sym g ∙ ap (λ vs. slice_get vs p) w ∙ ap (λ n. slice_get (front ++ u ∷ us) n) q ∙ seam front u us) in
        ap (λ v. v.kind) same ∙ read-kind (subst (λ vs. BeginWith (Read (kinds.Fault kind)) vs) (sym r) (says fuel (map read tokens) (Lexical kind) rest k))
