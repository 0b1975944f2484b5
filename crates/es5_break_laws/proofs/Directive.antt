-- A script that begins with the directive of strict code stops nowhere before its statements are read, also where the semicolon behind
-- the directive is missing at a break (ECMA-262, 5.1 edition, 14.1).
use Rattle.std.proofs.Common.{◌≡◌, ◌∙◌, ℕ, true, false, cond, List, [], ◌∷◌, Some, None, refl, sym, ap, subst}
use Rattle.std.specs.Prelude.{codes}
use Rattle.es5_ast.specs.Lexical.{Text, Inserted, Token5}
use Rattle.es5_ast.specs.Grammar.{IsEnd}
use Rattle.es5_ast.specs.Script.{inserted, IsStrict}
use Rattle.es5_reading.specs.Parser.{Outside, Syntax}
use Rattle.es5_reading.specs.Expressions.{is_some}
use Rattle.es5_reading.specs.Programs.{is_directive, continues, second_fault, directive_fault}
use Rattle.es5_reading_laws.proofs.Directive.{continues-not, directive-true}
use Rattle.es5_break_laws.specs.Breaks.{Breaks, at_end, keeps, inserts, inserts_at_end, IsBreak, member, index, call, another, condition}
use Rattle.es5_break_laws.proofs.Quiet.{no-mark, assign-none, operator-none, after-none}

-- a token at a break goes on with no literal
continues-no-more : (t : Token5) → IsBreak t → continues t ≡ false
unfolding continues
continues-no-more t q = rw (
  no-mark t q (codes ".") member,
  no-mark t q (codes "[") index,
  no-mark t q (codes "(") call,
  no-mark t q (codes "?") condition,
  no-mark t q (codes ",") another,
  ap (λ o. is_some o) (operator-none t q),
  ap (λ o. is_some o) (assign-none t q),
  ap (λ o. is_some o) (after-none t q),
) refl

alone : (t : Token5) (ts : List Token5) → is_directive t ≡ true → second_fault ts ≡ None → directive_fault (t ∷ ts) ≡ None
alone t ts h k = ap (λ b. cond b (second_fault ts) (Some (Outside 1, t ∷ ts))) h ∙ k

second-none : (t : Token5) (ts : List Token5) → continues t ≡ false → second_fault (t ∷ ts) ≡ None
second-none t ts h = ap (λ b. cond b (Some (Syntax, t ∷ ts)) None) h

-- the first of two rows that are the same
first-is : {t u : Token5} {ts us : List Token5} → t ∷ ts ≡ u ∷ us → t ≡ u
first-is e = cc

rest-is : {t u : Token5} {ts us : List Token5} → t ∷ ts ≡ u ∷ us → ts ≡ us
rest-is e = cc

nothing-is : {t : Token5} {ts : List Token5} → [] ≡ t ∷ ts → ⊥
nothing-is e = cc

no-text : {units : List ℕ} → Inserted ≡ Text units → ⊥
no-text e = cc

behind : {before tokens filled : List Token5} → Breaks before tokens filled → (end : Token5) (rest : List Token5) → filled ≡ end ∷ rest → IsEnd end → second_fault tokens ≡ None
behind at_end end rest e h = absurd (nothing-is e)
behind (keeps {t = t} {ts = ts} g) end rest e h = second-none t ts (continues-not t (subst (λ u. IsEnd u) (sym (first-is e)) h))
behind (inserts {t = t} {ts = ts} b g) end rest e h = second-none t ts (continues-no-more t b)
behind (inserts_at_end g) end rest e h = refl

module _ (filled : List Token5) (s : IsStrict filled) where
  not-inserted : (before fs : List Token5) → inserted before ∷ fs ≡ filled → ⊥
  not-inserted before fs e = no-text (ap (λ t. t.kind) (first-is (e ∙ s.first)) ∙ s.text)

  at-front : {before tokens fs : List Token5} → Breaks before tokens fs → fs ≡ filled → directive_fault tokens ≡ None
  at-front at_end e = absurd (nothing-is (e ∙ s.first))
  at-front (keeps {t = t} {ts = ts} g) e =
      let k = e ∙ s.first in
      alone t ts (ap (λ u. is_directive u) (first-is k) ∙ directive-true s.directive s.text s.plain) (behind g s.end s.rest (rest-is k) s.ends)
  at-front (inserts {before = before} {filled = fs} b g) e = absurd (not-inserted before fs e)
  at-front (inserts_at_end {before = before} {filled = fs} g) e = absurd (not-inserted before fs e)

pub no-fault-at-breaks : {tokens filled : List Token5} → Breaks [] tokens filled → IsStrict filled → directive_fault tokens ≡ None
no-fault-at-breaks {filled = filled} g s = at-front filled s g refl
