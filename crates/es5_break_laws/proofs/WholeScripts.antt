-- A whole script that tokens spell with semicolons put in at breaks is read of the tokens, and where the reader stops no such script goes
-- on.
use Rattle.std.proofs.Common.{◌≡◌, ◌∙◌, ◌⊎◌, inl, inr, ℕ, ◌+◌, ◌≤◌, arith, true, List, [], ◌++◌, Option, Some, None, refl, sym, ap, subst}
use Rattle.es5_ast.specs.declared.tree.Stat5.{Stat5}
use Rattle.es5_ast.specs.Lexical.{Token5}
use Rattle.es5_ast.specs.Grammar.{Mode5, IsProgram}
use Rattle.es5_ast.specs.Script.{IsStrict}
use Rattle.es5_ast.specs.Depth.{most_open}
use Rattle.es5_reading.specs.Laws.{IsReadExactly, IsReadInFull}
use Rattle.es5_reading.specs.Parser.{Stop5, Endless, Outcome5, Fault}
use Rattle.es5_reading.specs.Programs.{readers, program, directive_fault, unless_fault, script}
use Rattle.es5_reading_laws.specs.Laws.{BeginAlike, AnswersLast, FaultsStay}
use Rattle.es5_reading_laws.proofs.DeadFaults.{Early, directive-early}
use Rattle.es5_break_laws.specs.Breaks.{Breaks, ScriptsAreReadAtBreaks, ScriptFaultsAreDeadAtBreaks}
use Rattle.es5_break_laws.proofs.AtBreaks.{read-at-breaks, dead-at-breaks}
use Rattle.es5_break_laws.proofs.Directive.{no-fault-at-breaks}

low : (n l : ℕ) → l ≤ n + l
low n l = omega arith

-- the reader of the statements, with so many turns
abbrev run : ℕ → List Token5 → Outcome5 (List Stat5)
run fuel tokens = program (readers true fuel most_open) fuel (record { tokens = tokens; last = 0 })

begun : (fuel : ℕ) (tokens : List Token5) → directive_fault tokens ≡ None → script fuel tokens ≡ run fuel tokens
unfolding script
begun fuel tokens e = ap (λ f. unless_fault f (run fuel tokens)) e

-- ## What is read

-- what is read with more turns is read with fewer, or these don't suffice
with-fewer : AnswersLast → (fuel more : ℕ) (tokens : List Token5) {o : Outcome5 (List Stat5)} → run (fuel + more) tokens ≡ o → (run fuel tokens ≡ o) ⊎ ((rest : List Token5) × (run fuel tokens ≡ Fault Endless rest))
with-fewer last fuel more tokens h = elim (last true fuel most_open tokens 0 more) [
  | inl e ↦ inr e
  | inr e ↦ inl (sym e ∙ h)
]

pub whole-read : IsReadExactly true → AnswersLast → ScriptsAreReadAtBreaks
whole-read exactly last tokens filled statements d g s w fuel =
    let c = read-at-breaks exactly most_open tokens filled statements d g w in
    let k = c.1 (fuel + c.0) (low fuel c.0) in
    elim (with-fewer last fuel c.0 tokens k.1) [
      | inl e ↦ inl (k.0, begun fuel tokens (no-fault-at-breaks g s) ∙ e)
      | inr e ↦ inr (e.0, begun fuel tokens (no-fault-at-breaks g s) ∙ e.1)
    ]

-- ## Faults

same-rest : {a b : Stop5} {vs ws : List Token5} {o : Outcome5 (List Stat5)} → o ≡ Fault a vs → o ≡ Fault b ws → vs ≡ ws
same-rest h k = cc

none-some : {A : Type 0} {x : A} {o : Option A} → o ≡ None → o ≡ Some x → ⊥
none-some h k = absurd (cc)

-- where a script stops before its statements are read, no script begins so
abbrev IsDead : List Token5 → List Token5 → Type 0
IsDead tokens rest = (front : List Token5) × (tokens ≡ front ++ rest) × ((mode : Mode5) (others filled : List Token5) (statements : List Stat5) → BeginAlike rest others → Breaks [] (front ++ others) filled → IsStrict filled → IsProgram mode filled statements → ⊥)

pub whole-dead : IsReadInFull → FaultsStay → ScriptFaultsAreDeadAtBreaks
unfolding script
whole-dead full stay fuel tokens stop rest h k = by (directive_fault tokens) refl h
  where
    by : (o : Option (Stop5 × List Token5)) → directive_fault tokens ≡ o → unless_fault o (run fuel tokens) ≡ Fault stop rest → IsDead tokens rest
    by None e h =
        let d = dead-at-breaks full stay fuel most_open tokens stop rest h k in
        (d.0, d.1, λ mode others filled statements a g s p. d.2 mode others filled statements a g p)
    by (Some x) e h =
        let d = subst (λ z. Early tokens z) (same-rest refl h) (directive-early tokens x e) in
        (d.front, d.splits, λ mode others filled statements a g s p. none-some (no-fault-at-breaks g s) (d.stays others a).1)
