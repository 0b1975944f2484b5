-- Outcomes that are shared out among the modules.
use Rattle.std.proofs.Common.{◌≡◌, ℕ, suc, ◌+◌, ◌-◌, ◌<◌, ◌≤◌, List, [], ◌∷◌, ◌++◌, drop, length, take, Some, sym, ap, ◌∙◌, subst, inl, inr, arith, add-one, length-append}
use Rattle.std.specs.Prelude.{slice_get}
use Rattle.std.proofs.lemmas.Bool.{cases_lt}
use Rattle.std.proofs.lemmas.Option.{slice_get_within}
use Rattle.module_endings.specs.declared.answers.Outcome.{Outcome}
use Rattle.module_endings.specs.declared.summary.Summary.{Summary}
use Rattle.module_endings.specs.Ends.{AreOutcomes, all_wants}
use Rattle.module_endings.proofs.Gets.{get-push_cases, one-there}
use Rattle.module_endings.proofs.Sourcing.{drop-at}
use Rattle.module_links.proofs.Resolved.{first-outcomes, next-outcomes}
use Rattle.module_links.proofs.Shared.{rest-size}
use Rattle.module_lowering.specs.declared.meaning.NamespaceEntries.{NamespaceEntries}
use Rattle.module_summaries.proofs.Growing.{length-push}
use Rattle.graph_namespaces.specs.Asked.{IsAsk}
use Rattle.graph_namespaces.specs.Entries.{AddsNamespace, AreSharedOut, IsShared}

-- what is asked of the first modules
pub record AskTo (known : List Summary) (i : ℕ) (asked : List Summary) : Type 0 where
  pub size : length asked ≡ i
  pub each : (k : ℕ) (s : Summary) → slice_get asked k ≡ Some s → IsAsk known k s

pub asked-more : (known : List Summary) (i : ℕ) (old new : List Summary) (s : Summary) → AskTo known i old → IsAsk known i s → new ≡ old ++ s ∷ [] → AskTo known (i + 1) new
asked-more known i old new s to ask grown = subst (AskTo known (i + 1)) (sym grown) (record {
  size = length-push old s ∙ ap suc to.size ∙ sym (add-one i);
  each = λ k t e. elim (get-push_cases old s k t e) [
    | inl before ↦ to.each k t before
    | inr last ↦ subst (λ n. IsAsk known n t) (sym (last.0 ∙ to.size)) (subst (IsAsk known i) (sym last.1) ask)
  ];
})

-- the wanted names of the modules from one on are its own and those of the rest
pub wants-from : (sums : List Summary) (i : ℕ) (s : Summary) → slice_get sums i ≡ Some s → all_wants (drop i sums) ≡ s.wants ++ all_wants (drop (i + 1) sums)
wants-from sums i s there = ap all_wants (drop-at sums i s there ∙ ap (λ n. s ∷ drop n sums) (sym (add-one i)))

-- the outcomes that are left are as many as the names
pub fewer : (sums : List Summary) (i : ℕ) (s : Summary) (rest : List Outcome) → slice_get sums i ≡ Some s → length rest ≡ length (all_wants (drop i sums)) → length (drop (length s.wants) rest) ≡ length (all_wants (drop (i + 1) sums))
fewer sums i s rest there size = rest-size s.wants (all_wants (drop (i + 1) sums)) rest (size ∙ ap length (wants-from sums i s there))

pub enough : (sums : List Summary) (i : ℕ) (s : Summary) (rest : List Outcome) → slice_get sums i ≡ Some s → length rest ≡ length (all_wants (drop i sums)) → length s.wants ≤ length rest
enough sums i s rest there size =
    let both : length (s.wants ++ all_wants (drop (i + 1) sums)) ≡ length s.wants + length (all_wants (drop (i + 1) sums)) = length-append s.wants (all_wants (drop (i + 1) sums)) in
    omega (arith, size ∙ ap length (wants-from sums i s there), both)

-- the first summaries are shared out
pub record SharedTo (modules : List Summary) (hosts : List (List ℕ)) (count i : ℕ) (asked : List Summary) (rest : List Outcome) (all : List NamespaceEntries) : Type 0 where
  pub left : AreOutcomes modules hosts (all_wants (drop i asked)) rest
  pub size : length all ≡ i - count
  pub each : (k : ℕ) (s : Summary) (e : NamespaceEntries) → slice_get asked (count + k) ≡ Some s → slice_get all k ≡ Some e → IsShared modules hosts s.wants e.entries

next-left : (modules : List Summary) (hosts : List (List ℕ)) (i : ℕ) (asked : List Summary) (s : Summary) (rest : List Outcome) → slice_get asked i ≡ Some s → AreOutcomes modules hosts (all_wants (drop i asked)) rest
    → AreOutcomes modules hosts s.wants (take (length s.wants) rest) × AreOutcomes modules hosts (all_wants (drop (i + 1) asked)) (drop (length s.wants) rest)
next-left modules hosts i asked s rest there left =
    let both : AreOutcomes modules hosts (s.wants ++ all_wants (drop (i + 1) asked)) rest = subst (λ ps. AreOutcomes modules hosts ps rest) (wants-from asked i s there) left in
    (first-outcomes modules hosts s.wants (all_wants (drop (i + 1) asked)) rest both, next-outcomes modules hosts s.wants (all_wants (drop (i + 1) asked)) rest both)

pub shared-more : (modules : List Summary) (hosts : List (List ℕ)) (count i : ℕ) (asked : List Summary) (s : Summary) (rest : List Outcome) (old new : List NamespaceEntries) → slice_get asked i ≡ Some s
    → (i < count → new ≡ old) → (count ≤ i → AddsNamespace s.wants (take (length s.wants) rest) old new) → SharedTo modules hosts count i asked rest old
    → SharedTo modules hosts count (i + 1) asked (drop (length s.wants) rest) new
shared-more modules hosts count i asked s rest old new there early late to = elim (cases_lt i count) [ inl l ↦ skipped l | inr l ↦ added l (late l) ]
  where
    next : AreOutcomes modules hosts s.wants (take (length s.wants) rest) × AreOutcomes modules hosts (all_wants (drop (i + 1) asked)) (drop (length s.wants) rest)
    next = next-left modules hosts i asked s rest there to.left

    skipped : i < count → SharedTo modules hosts count (i + 1) asked (drop (length s.wants) rest) new
    skipped l =
        let same : length new ≡ length old = ap length (early l) in
        let empty : length new ≡ 0 = omega (arith, same, to.size, l) in
        record {
          left = next.1;
          size = omega (arith, empty, l);
          each = λ k t e at there'. absurd (omega (arith, slice_get_within new k e there', empty));
        }

    added : count ≤ i → AddsNamespace s.wants (take (length s.wants) rest) old new → SharedTo modules hosts count (i + 1) asked (drop (length s.wants) rest) new
    added l adds =
        let long : length new ≡ suc (length old) = ap length adds.grown ∙ length-push old adds.added in
        record {
          left = next.1;
          size = omega (arith, long, to.size, l);
          each = λ k t e at there'. elim (get-push_cases old adds.added k e (ap (λ z. slice_get z k) (sym adds.grown) ∙ there')) [
            | inl before ↦ to.each k t e at before
            | inr last ↦
                (let index : count + k ≡ i = omega (arith, last.0, to.size, l) in
                let is : s ≡ t = one-there asked i s t there (ap (λ n. slice_get asked n) (sym index) ∙ at) in
                subst (λ z. IsShared modules hosts z.wants e.entries) is
                (subst (λ z. IsShared modules hosts s.wants z.entries) (sym last.1) (record { outcomes = take (length s.wants) rest; are = next.0; picked = adds.picked })))
          ];
        }

-- nothing is shared out at first
pub shared-none : (modules : List Summary) (hosts : List (List ℕ)) (count : ℕ) (asked : List Summary) (rest : List Outcome) (all : List NamespaceEntries) → all ≡ [] → AreOutcomes modules hosts (all_wants asked) rest
    → SharedTo modules hosts count 0 asked rest all
shared-none modules hosts count asked rest all none are =
    let empty : length all ≡ 0 = ap length none in
    record { left = are; size = omega (arith, empty); each = λ k s e at there. absurd (omega (arith, slice_get_within all k e there, empty)) }

pub shared-all : (modules : List Summary) (hosts : List (List ℕ)) (count i : ℕ) (asked : List Summary) (rest : List Outcome) (all : List NamespaceEntries) → i ≡ length asked → SharedTo modules hosts count i asked rest all
    → AreSharedOut modules hosts count asked all
shared-all modules hosts count i asked rest all is to = record { size = omega (arith, to.size, is); each = to.each }
