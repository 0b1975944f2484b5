-- No tokens spell two modules: semicolons go in among them in one way only, and what they are filled to derives one module.
use Rattle.std.proofs.Common.{◌≡◌, true, false, List, [], ◌∷◌, ◌++◌, refl, sym, ap, subst, append_assoc}
use Rattle.es6_lexer.specs.declared.token.Token.{Token}
use Rattle.es6_ast.specs.declared.module.Module.{Module}
use Rattle.es6_ast.specs.Tokens.{Filled, read, end_of}
use Rattle.es6_ast.specs.Modules.{IsModule}
use Rattle.es6_ast.specs.Semicolons.{Begins, inserted, Fills, done, keeps, inserts}
use Rattle.es6_reading.specs.Laws.{IsComplete, IsUnique}
use Rattle.es6_reading.proofs.Spelled.{unambiguous}
use Rattle.es6_reading.proofs.ForksOfModules.{no-fork}

abbrev IsRow : List Filled → Type 0
IsRow row = (m : Module) × IsModule row m

-- one token further on
further : (before : List Filled) (t : Filled) (filled : List Filled) → IsRow (before ++ t ∷ filled) → IsRow ((before ++ t ∷ []) ++ filled)
further before t filled r = subst (λ row. IsRow row) (sym (append_assoc before (t ∷ []) filled)) r

-- a semicolon stands only where no row goes on
kept : (before : List Filled) (t : Filled) (filled : List Filled) → IsRow (before ++ t ∷ filled) → Begins IsRow (before ++ t ∷ [])
kept before t filled r = (filled, further before t filled r)

same-filled : IsComplete → {before filled filled' : List Filled} {ts : List Token} → Fills IsRow before ts filled [] → Fills IsRow before ts filled' [] → IsRow (before ++ filled) → IsRow (before ++ filled') → filled ≡ filled'
same-filled c done done r r' = refl
same-filled c (keeps {before = before} {filled = filled} {t = t} g) (keeps {filled = filled'} g') r r' = ap (λ row. read t ∷ row) (same-filled c g g' (further before (read t) filled r) (further before (read t) filled' r'))
same-filled c (keeps {before = before} {filled = filled} {t = t} g) (inserts d n m g') r r' = absurd (n (kept before (read t) filled r))
same-filled c (inserts d n m g) (keeps {before = before} {filled = filled} {t = t} g') r r' = absurd (n (kept before (read t) filled r'))
same-filled c (inserts {before = before} {filled = filled} true n m g) (inserts {filled = filled'} true n' m' g') r r' = ap (λ row. inserted true before ∷ row) (same-filled c g g' (further before (inserted true before) filled r) (further before (inserted true before) filled' r'))
same-filled c (inserts {before = before} {filled = filled} false n m g) (inserts {filled = filled'} false n' m' g') r r' = ap (λ row. inserted false before ∷ row) (same-filled c g g' (further before (inserted false before) filled r) (further before (inserted false before) filled' r'))
same-filled c (inserts {before = before} {filled = filled} true n m g) (inserts {filled = filled'} false n' m' g') r r' = absurd (no-fork c before (end_of 0 before) filled filled' r.0 r'.0 r.1 r'.1)
same-filled c (inserts {before = before} {filled = filled} false n m g) (inserts {filled = filled'} true n' m' g') r r' = absurd (no-fork c before (end_of 0 before) filled' filled r'.0 r.0 r'.1 r.1)

pub one-module : IsComplete → IsUnique
one-module c tokens m n a b =
    let e = same-filled c a.fills b.fills (m, a.spelled) (n, b.spelled) in
    unambiguous c a.filled m n a.spelled (subst (λ row. IsModule row n) (sym e) b.spelled)
