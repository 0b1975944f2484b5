-- No tokens spell two scripts: semicolons go in among them in one way only, and what they are filled to derives one program.
use Rattle.std.proofs.Common.{◌≡◌, ℕ, ◌+◌, ◌≤◌, false, List, [], ◌∷◌, ◌++◌, refl, sym, ap, subst, ◌∙◌, append_assoc, arith}
use Rattle.es5_ast.specs.declared.tree.Stat5.{Stat5}
use Rattle.es5_ast.specs.Lexical.{Token5}
use Rattle.es5_ast.specs.Grammar.{Mode5, Exact, IsProgram}
use Rattle.es5_ast.specs.Script.{Begins, IsWhole, inserted, Fills, at_end, keeps, inserts, inserts_at_end}
use Rattle.es5_ast.specs.Bare.{bare_statements}
use Rattle.es5_reading.specs.Parser.{Input5, Outcome5, Took}
use Rattle.es5_reading.specs.Laws.{IsReadExactly, IsUnambiguous, AreAlike, IsUnique, AreFilledOnce}
use Rattle.es5_reading.proofs.Alike.{exact, aside, placed-program}
use Rattle.es5_reading.proofs.Enough.{enough}
use Rattle.es5_reading.proofs.Filled.{append-nil}

took-one : {a b : List Stat5} {c d : Input5} {o : Outcome5 (List Stat5)} → o ≡ Took a c → o ≡ Took b d → a ≡ b
took-one h k = cc

pub unambiguous : IsReadExactly false → IsUnambiguous
unambiguous complete tokens a b d e =
    let v = enough d in
    let w = enough e in
    let room = v.bound + w.bound in
    let c = complete room tokens a d (v.fits room (left v.bound w.bound)) in
    let k = complete room tokens b e (w.fits room (right v.bound w.bound)) in
    took-one (c.1 (c.0 + k.0) 0 (left c.0 k.0)).1 (k.1 (c.0 + k.0) 0 (right c.0 k.0)).1
  where
    left : (a b : ℕ) → a ≤ a + b
    left a b = omega arith

    right : (a b : ℕ) → b ≤ a + b
    right a b = omega arith

pub alike : IsUnambiguous → AreAlike
alike one mode other tokens a b d e =
    let p = placed-program exact d in
    let q = placed-program exact e in
    sym p.same ∙ ap bare_statements (one tokens p.tree q.tree p.derived q.derived) ∙ q.same

-- ## Inserted semicolons

abbrev IsRow : List Token5 → Type 0
IsRow row = IsWhole row

-- one token further on
further : (before : List Token5) (t : Token5) (filled : List Token5) → IsRow (before ++ t ∷ filled) → IsRow ((before ++ t ∷ []) ++ filled)
further before t filled r = subst (λ row. IsRow row) (sym (append_assoc before (t ∷ []) filled)) r

-- a semicolon stands only where no program goes on
kept : (before : List Token5) (t : Token5) (filled : List Token5) → IsRow (before ++ t ∷ filled) → Begins (before ++ t ∷ [])
kept before t filled r = let k = further before t filled r in (filled, k.0, k.1)

whole : (before : List Token5) → IsRow (before ++ []) → IsWhole before
whole before r = subst (λ row. IsRow row) (append-nil before) r

same-filled : {before filled again : List Token5} {ts : List Token5} → Fills before ts filled → Fills before ts again → IsRow (before ++ filled) → IsRow (before ++ again) → filled ≡ again
same-filled at_end at_end r s = refl
same-filled {before = before} at_end (inserts_at_end n h) r s = absurd (n (whole before r))
same-filled {before = before} (inserts_at_end n g) at_end r s = absurd (n (whole before s))
same-filled {before = before} (inserts_at_end {filled = filled} n g) (inserts_at_end {filled = again} o h) r s = ap (λ row. inserted before ∷ row) (same-filled g h (further before (inserted before) filled r) (further before (inserted before) again s))
same-filled {before = before} (keeps {filled = filled} {t = t} g) (keeps {filled = again} h) r s = ap (λ row. t ∷ row) (same-filled g h (further before t filled r) (further before t again s))
same-filled {before = before} (keeps {filled = filled} {t = t} g) (inserts n m h) r s = absurd (n (kept before t filled r))
same-filled {before = before} (inserts n m g) (keeps {filled = again} {t = t} h) r s = absurd (n (kept before t again s))
same-filled {before = before} (inserts {filled = filled} n m g) (inserts {filled = again} o l h) r s = ap (λ row. inserted before ∷ row) (same-filled g h (further before (inserted before) filled r) (further before (inserted before) again s))

row : {mode : Mode5} {tokens : List Token5} {a : List Stat5} → IsProgram mode tokens a → IsRow tokens
row d = let p = placed-program aside d in (p.tree, p.derived)

pub filled-once : AreAlike → AreFilledOnce
filled-once one mode other tokens filled again a b f g d e =
    let same = same-filled f g (row d) (row e) in
    (same, one mode other filled a b d (subst (λ ts. IsProgram other ts b) (sym same) e))

pub unique : IsUnambiguous → IsUnique
unique one tokens a b s t =
    let same = same-filled s.fills t.fills (row s.parsed) (row t.parsed) in
    one s.filled a b s.parsed (subst (λ ts. IsProgram Exact ts b) (sym same) t.parsed)
