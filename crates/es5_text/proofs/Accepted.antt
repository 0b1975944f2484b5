-- A script whose semicolons are missing only at breaks is what is answered for its bytes.
use Rattle.std.proofs.Common.{◌≡◌, ◌∙◌, ◌⊎◌, inl, inr, ℕ, List, [], ◌∷◌, length, map, refl, sym, ap, subst, arith}
use Rattle.std.specs.Prelude.{Result, Ok, Err, None}
use Rattle.std.specs.Str.{chars, IsUtf8, IsValidUpTo}
use Rattle.std.proofs.Math.Seq.{take-length}
use Rattle.es_text.specs.declared.Span.{Span}
use Rattle.es5_ast.specs.declared.tree.Script.{Script}
use Rattle.es5_ast.specs.declared.tree.Stat5.{Stat5}
use Rattle.es5_ast.specs.Lexical.{Token5}
use Rattle.es5_ast.specs.Grammar.{across}
use Rattle.es5_ast.specs.Early.{Pair5, IsFirst, script_pairs}
use Rattle.es5_ast.specs.Within.{ProgramWithin}
use Rattle.es5_ast.specs.Dead.{AreInOrder}
use Rattle.es5_ast.specs.Depth.{most_open}
use Rattle.es5_early.specs.Pairs.{pair_of}
use Rattle.es5_tokens.specs.Tokens.{token5}
use Rattle.es5_token_laws.proofs.Lexed.{are_read}
use Rattle.es5_reading.specs.Parser as p
use Rattle.es5_reading.specs.Programs.{script}
use Rattle.es5_reading.proofs.Filled.{read-exactly}
use Rattle.es5_reading.proofs.Stays.{exact-full-readings}
use Rattle.es5_reading_laws.specs.Laws.{IsShallow}
use Rattle.es5_reading_laws.proofs.DeadFaults.{answers-last}
use Rattle.es5_reading_laws.proofs.Depths.{within-depth}
use Rattle.es5_reading_laws.proofs.Ordered.{in-order}
use Rattle.es5_break_laws.specs.Breaks.{IsReadOrEndless}
use Rattle.es5_break_laws.proofs.WholeScripts.{whole-read}
use Rattle.es5_cursor.specs.Readers.{turns}
use Rattle.es5_text.specs.declared.fault.Fault5.{Fault5}
use Rattle.es5_text.specs.declared.fault.Fault5.TheVariants.{OutOfMemory}
use Rattle.es5_text.specs.Accepted.{SpellsAtBreaks, FewAreOpen, AcceptsAtBreaks}
use Rattle.es5_text.specs.Answer.{answer_of, stopped}
use Rattle.es5_text.specs.Faults.{Lexed5}
use Rattle.es5_text.specs.Read.{IsRead, IsRefused, out_of_memory, not_utf8, unread, paired, statements_of}

-- ## What is read of its tokens

few-within : (bytes : List ℕ) (tree : Script) (s : SpellsAtBreaks bytes tree) → FewAreOpen s → ProgramWithin s.parsed most_open
few-within bytes tree s (inl w) = w
few-within bytes tree s (inr h) =
    let order = subst (λ ts. AreInOrder ts) h.0 (in-order (chars bytes) s.tokens s.lexed) in
    let shallow = subst (λ ts. IsShallow most_open ts tree.statements) h.0 h.1 in
    within-depth most_open s.filled tree.statements s.parsed order shallow

-- the statements, or memory has run out
abbrev Answers : List Stat5 → Result (List Stat5) Fault5 → Type 0
Answers statements r = (r ≡ Ok statements) ⊎ (r ≡ Err OutOfMemory)

endless : (rest : List Token5) (end : ℕ) → stopped p.Endless rest end None ≡ OutOfMemory
endless [] end = refl
endless (t ∷ ts) end = refl

answer-is : (statements : List Stat5) (tokens : List Token5) (end : ℕ) → IsReadOrEndless turns tokens statements → Answers statements (answer_of (script turns tokens) end None)
answer-is statements tokens end (inl h) = inl (ap (λ o. answer_of o end None) h.1)
answer-is statements tokens end (inr h) = inr (ap (λ o. answer_of o end None) h.1 ∙ ap (λ f. Err f) (endless h.0 end))

module _ (bytes : List ℕ) (tree : Script) (s : SpellsAtBreaks bytes tree) (few : FewAreOpen s) where
  tokens-are : (l : Lexed5 bytes) → (l.fault ≡ None) × (map token5 l.tokens ≡ s.tokens)
  tokens-are l = are_read (chars bytes) s.tokens l.tokens l.end l.fault s.lexed l.lexes

  answer-for : (l : Lexed5 bytes) → Answers tree.statements (statements_of l)
  answer-for l =
      let t = tokens-are l in
      let read = whole-read (exact-full-readings read-exactly) answers-last s.tokens s.filled tree.statements s.parsed s.breaks s.strict (few-within bytes tree s few) turns in
      let same : statements_of l ≡ answer_of (script turns s.tokens) l.end None = ap (λ f. answer_of (script turns (map token5 l.tokens)) l.end f) t.0 ∙ ap (λ ts. answer_of (script turns ts) l.end None) t.1 in
      subst (λ r. Answers tree.statements r) (sym same) (answer-is tree.statements s.tokens l.end read)

-- ## The answer

not-both : (bytes : List ℕ) (at : ℕ) → IsUtf8 bytes → IsValidUpTo bytes at → ⊥
not-both bytes at utf8 h = h.longest (length bytes) h.short (subst (λ bs. IsUtf8 bs) (sym (take-length bytes)) utf8)

no-pair : (pair : Pair5) → IsFirst pair [] → ⊥
no-pair pair h = absurd (omega (arith, h.0.1))

ok-err : {A : Type 0} {x : A} {fault : Fault5} {r : Result A Fault5} → r ≡ Ok x → r ≡ Err fault → ⊥
ok-err h k = absurd (cc)

ok-same : {A : Type 0} {x y : A} {r : Result A Fault5} → r ≡ Ok x → r ≡ Ok y → x ≡ y
ok-same h k = cc

err-same : {A : Type 0} {f g : Fault5} {r : Result A Fault5} → r ≡ Err f → r ≡ Err g → f ≡ g
err-same h k = cc

abbrev script-of : Span → List Stat5 → Script
script-of span statements = record { span = span; statements = statements }

same-script : (a b : Script) → a.span ≡ b.span → a.statements ≡ b.statements → a ≡ b
same-script a b e f = ap (λ x. script-of x a.statements) e ∙ ap (λ xs. script-of b.span xs) f

refusal : (bytes : List ℕ) (tree : Script) (s : SpellsAtBreaks bytes tree) → FewAreOpen s → (fault : Fault5) → IsRefused bytes fault → fault ≡ OutOfMemory
refusal bytes tree s few fault (out_of_memory e) = e
refusal bytes tree s few fault (not_utf8 at h e) = absurd (not-both bytes at s.utf8 h)
refusal bytes tree s few fault (unread l e) = elim (answer-for bytes tree s few l) [
  | inl k ↦ absurd (ok-err k e)
  | inr k ↦ err-same e k
]
refusal bytes tree s few fault (paired l statements pair e h f) = elim (answer-for bytes tree s few l) [
  | inl k ↦ absurd (no-pair (pair_of pair) (subst (λ ps. IsFirst (pair_of pair) ps) (ap (λ xs. script_pairs xs) (ok-same e k) ∙ s.legal) h))
  | inr k ↦ absurd (ok-err e k)
]

pub accepts : (bytes : List ℕ) (r : Result Script Fault5) → IsRead bytes r → AcceptsAtBreaks bytes r
accepts bytes (Ok answer) h tree s few = elim (answer-for bytes tree s few h.lexed) [
  | inl k ↦ inl (ap (λ x. Ok x) (same-script answer tree (h.span ∙ ap (λ ts. across ts []) (tokens-are bytes tree s few h.lexed).1 ∙ sym s.spans) (ok-same h.read k)))
  | inr k ↦ absurd (ok-err h.read k)
]
accepts bytes (Err fault) h tree s few = inr (ap (λ f. Err f) (refusal bytes tree s few fault h))
