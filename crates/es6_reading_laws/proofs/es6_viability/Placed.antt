-- Where a reader of a module stops for depth, some module of tokens in order begins with the tokens up to that one, and more constructs
-- than may be are open there.
use Rattle.std.proofs.Common.{◌≡◌, ◌∙◌, inr, ℕ, suc, ◌+◌, ◌<◌, ◌≤◌, List, [], ◌∷◌, ◌++◌, append_assoc, length, length-append, map, take, ap, sym, subst, refl, arith}
use Rattle.std.proofs.lemmas.List.{length-map}
use Rattle.es6_lexer.specs.declared.token.Token.{Token}
use Rattle.es6_lexer.specs.declared.token.TokenKind.{TokenKind}
use Rattle.es6_ast.specs.declared.settings.Stop.TheVariants.{Depth, Endless}
use Rattle.es6_ast.specs.Dead.{AreInOrder, IsBefore, IsTooDeep, too_deep}
use Rattle.es6_ast.specs.Semicolons.{SpellsModule}
use Rattle.es6_ast.specs.Tokens.{read}
use Rattle.es6_reading.specs.Modules.{most_open, read_module}
use Rattle.es6_reading.specs.Parser.{Fault}
use Rattle.es6_reading.proofs.Completeness.{what-is-derived-is-read}
use Rattle.es6_reading_laws.specs.es6_viability.TooDeep.{DepthFaultsAreStops, DepthFaultsStandBeforeTheEnd, open_in_module}
use Rattle.es6_reading_laws.proofs.es6_viability.NoStop.{before-it, module-read, no-stop-passed}
use Rattle.es6_reading_laws.proofs.es6_viability.Passed.{seam, take-next}
use Rattle.es6_reading_laws.proofs.es6_viability.Readers.{depth-placed, tokens_at}
use Rattle.es6_reading_laws.proofs.es6_viability.TooDeep.{modules-are-too-deep, spelled-text}

less : (n : ℕ) → n < suc n
less n = omega arith

low : (n : ℕ) → n ≤ n
low n = omega arith

-- tokens that are put in stand in order
in-order : (n : ℕ) (ks : List TokenKind) → AreInOrder (tokens_at n ks)
in-order n [] = tt
in-order n (k ∷ []) = (tt, tt)
in-order n (k ∷ l ∷ ks) = ((less n, low (suc n)), in-order (suc n) (l ∷ ks))

-- and behind a token
behind-token : (t : Token) → t.span.begin < t.span.end → (ks : List TokenKind) → IsBefore t (tokens_at t.span.end ks)
behind-token t h [] = tt
behind-token t h (k ∷ ks) = (h, low t.span.end)

same-next : (u t : Token) (us behind more : List Token) → IsBefore u (us ++ t ∷ behind) → IsBefore u ((us ++ t ∷ []) ++ more)
same-next u t [] behind more h = h
same-next u t (v ∷ us) behind more h = h

completed : (front behind : List Token) (t : Token) → AreInOrder (front ++ t ∷ behind) → t.span.begin < t.span.end → (ks : List TokenKind) → AreInOrder ((front ++ t ∷ []) ++ tokens_at t.span.end ks)
completed [] behind t order h ks = (behind-token t h ks, in-order t.span.end ks)
completed (u ∷ us) behind t order h ks = (same-next u t us behind (tokens_at t.span.end ks) order.0, completed us behind t order.1 h ks)

next-is : (n : ℕ) → n + 1 ≡ suc n
next-is n = omega arith

row-of : (front behind : List Token) (t : Token) → take (length front + 1) (front ++ t ∷ behind) ≡ front ++ t ∷ []
row-of front behind t = ap (λ n. take n (front ++ t ∷ behind)) (next-is (length front)) ∙ take-next front t behind

deep-there : (fuel : ℕ) (front behind : List Token) (t : Token) → read_module fuel (map read (front ++ t ∷ behind)) ≡ Fault Depth (map read (t ∷ behind)) → AreInOrder (front ++ t ∷ behind) → t.span.begin < t.span.end → IsTooDeep (front ++ t ∷ behind) (length front)
deep-there fuel front behind t e order h =
    let q = (depth-placed what-is-derived-is-read fuel front behind t e).1 t.span.end in
    let rest : List Token = tokens_at t.span.end q.0 in
    let row = row-of front behind t in
    let stands : AreInOrder ((front ++ t ∷ []) ++ rest) = completed front behind t order h q.0 in
    let whole : (front ++ t ∷ []) ++ rest ≡ front ++ t ∷ rest = append_assoc front (t ∷ []) rest in
    let spells : SpellsModule (front ++ t ∷ rest) q.1 = subst (λ ts. SpellsModule ts q.1) whole q.2 in
    let text = spelled-text (front ++ t ∷ rest) q.1 spells (subst AreInOrder whole stands) in
    let many : most_open < open_in_module q.1 (front ++ t ∷ []) = modules-are-too-deep fuel most_open front (t ∷ behind) (sym (module-read fuel (map read (front ++ t ∷ behind))) ∙ e) rest text q.1 spells in
    record {
      rest = rest;
      placed = subst (λ ts. AreInOrder (ts ++ rest)) (sym row) stands;
      tree = q.1;
      spelled = subst (λ ts. SpellsModule (ts ++ rest) q.1) (sym row) q.2;
      deep = subst (λ ts. most_open < open_in_module q.1 ts) (sym row) many;
    }

lengths : (front rest : List Token) → length front + length (map read rest) ≡ length (front ++ rest)
lengths front rest = omega (arith, length-map rest read, length-append front rest)

shorter : (front rest : List Token) (t : Token) → length front < length (front ++ t ∷ rest)
shorter front rest t = omega (arith, length-append front (t ∷ rest))

never-ended : Depth ≡ Endless → ⊥
never-ended e = absurd (cc)

pub depth-stops : DepthFaultsAreStops
depth-stops fuel front behind t e order h =
    let deep = deep-there fuel front behind t e order h in
    record {
      index = length front;
      token = t;
      there = seam front t behind;
      stops = record {
        inside = shorter front behind t;
        stops = inr deep;
        first = λ q k. no-stop-passed fuel (front ++ t ∷ behind) Depth (map read (t ∷ behind)) e never-ended q (before-it q (length front) (length (map read (t ∷ behind))) (length (front ++ t ∷ behind)) k (lengths front (t ∷ behind)));
      };
      reported = too_deep deep;
      place = refl;
    }

pub depth-before-end : DepthFaultsStandBeforeTheEnd
depth-before-end fuel front behind t e = (depth-placed what-is-derived-is-read fuel front behind t e).0
