-- What is said of the definitions that are answered, by what is said of the script that is read.
use Rattle.std.proofs.Common.{◌≡◌, ◌∙◌, ◌⊎◌, inl, inr, ℕ, List, [], refl, sym, ap, subst}
use Rattle.std.specs.Prelude.{IfErr, IfOk, Result, Ok, Err}
use Rattle.es5_ast.specs.declared.tree.Script.{Script}
use Rattle.es5_ast.specs.declared.tree.Stat5.{Stat5}
use Rattle.core_primitives.specs.declared.used.UsedPrimitives.{UsedPrimitives}
use Rattle.core_primitives.specs.Used.{none}
use Rattle.es5_text.specs.declared.fault.Fault5.{Fault5}
use Rattle.es5_text.specs.declared.fault.Fault5.TheVariants.{OutOfMemory}
use Rattle.es5_text.specs.Accepted.{AcceptsAtBreaks}
use Rattle.es5_text.specs.Faults.{IsFault}
use Rattle.es5_text.specs.Parsed.{IsParsed}
use Rattle.helpers.specs.Definitions.{AnswersAtBreaks, AreDefinitions}
use Rattle.helpers.specs.Text.{text_bytes}
use Rattle.helpers.specs.Wanted.{kept, wanted}
use Rattle.helpers.proofs.None.{none_kept}

-- ---- what is read

ok-err : {A : Type 0} {x : A} {fault : Fault5} {r : Result A Fault5} → r ≡ Ok x → r ≡ Err fault → ⊥
ok-err h k = absurd (cc)

ok-same : {A : Type 0} {x y : A} {r : Result A Fault5} → r ≡ Ok x → r ≡ Ok y → x ≡ y
ok-same h k = cc

err-same : {A : Type 0} {f g : Fault5} {r : Result A Fault5} → r ≡ Err f → r ≡ Err g → f ≡ g
err-same h k = cc

parsed-in : (r : Result Script Fault5) (script : Script) → r ≡ Ok script → IfOk r (λ s. IsParsed text_bytes s) → IsParsed text_bytes script
parsed-in r script is parsed = subst (λ x. IfOk x (λ s. IsParsed text_bytes s)) is parsed

pub made : (names : List (List ℕ)) (r : Result Script Fault5) (script : Script) (statements : List Stat5) → r ≡ Ok script
    → IfOk r (λ s. IsParsed text_bytes s) → statements ≡ kept names script.statements → AreDefinitions names statements
made names r script statements is parsed taken = record { script = script; parsed = parsed-in r script is parsed; taken = taken }

pub answers_kept : (names : List (List ℕ)) (r : Result Script Fault5) (script : Script) (statements : List Stat5) → r ≡ Ok script
    → AcceptsAtBreaks text_bytes r → statements ≡ kept names script.statements → AnswersAtBreaks names (Ok statements)
answers_kept names r script statements is accepts taken = λ other spelled few. elim (accepts other spelled few) [
  | inl e ↦ inl (ap (λ xs. Ok xs) (taken ∙ ap (λ s. kept names s.statements) (ok-same is e)))
  | inr e ↦ absurd (ok-err is e)
]

pub answers_fault : (names : List (List ℕ)) (r : Result Script Fault5) (fault : Fault5) → r ≡ Err fault → AcceptsAtBreaks text_bytes r
    → AnswersAtBreaks names (Err fault)
answers_fault names r fault is accepts = λ other spelled few. elim (accepts other spelled few) [
  | inl e ↦ absurd (ok-err e is)
  | inr e ↦ inr (ap (λ f. Err f) (err-same is e))
]

pub fault_told : (r : Result Script Fault5) (fault : Fault5) → r ≡ Err fault → IfErr r (λ f. IsFault text_bytes f) → IsFault text_bytes fault
fault_told r fault is told = subst (λ x. IfErr x (λ f. IsFault text_bytes f)) is told

-- ---- memory that runs out

pub answers_memory : (names : List (List ℕ)) (fault : Fault5) → fault ≡ OutOfMemory → AnswersAtBreaks names (Err fault)
answers_memory names fault e = λ other spelled few. inr (ap (λ f. Err f) e)

pub fault_memory : (bytes : List ℕ) (fault : Fault5) → fault ≡ OutOfMemory → IsFault bytes fault
fault_memory bytes fault e = subst (λ f. IsFault bytes f) (sym e) tt

pub short_of_memory : (bytes : List ℕ) → AcceptsAtBreaks bytes (Err OutOfMemory)
short_of_memory bytes = λ other spelled few. inr refl

-- ---- names that are equal

pub moved : (ns ms : List (List ℕ)) (result : Result (List Stat5) Fault5) → ns ≡ ms → IfOk result (λ ss. AreDefinitions ns ss)
    → IfOk result (λ ss. AreDefinitions ms ss)
moved ns ms result e = subst (λ names. IfOk result (λ ss. AreDefinitions names ss)) e

pub answers_moved : (ns ms : List (List ℕ)) (result : Result (List Stat5) Fault5) → ns ≡ ms → AnswersAtBreaks ns result
    → AnswersAtBreaks ms result
answers_moved ns ms result e = subst (λ names. AnswersAtBreaks names result) e

-- ---- a script that calls no primitive

pub none_made : (u : UsedPrimitives) (names : List (List ℕ)) (result : Result (List Stat5) Fault5) → names ≡ wanted u
    → IfOk result (λ ss. AreDefinitions names ss) → u ≡ none → IfOk result (λ ss. ss ≡ [])
none_made u names (Ok ss) e d nothing = d.taken ∙ ap (λ ns. kept ns d.script.statements) e ∙ none_kept u d.script.statements nothing
none_made u names (Err fault) e d nothing = tt
