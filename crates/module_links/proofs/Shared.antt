-- Outcomes that are shared out among the modules.
use Rattle.std.proofs.Common.{◌≡◌, ℕ, suc, ◌+◌, ◌<◌, List, [], ◌∷◌, ◌++◌, drop, length, map, take, Some, Err, refl, sym, ap, ◌∙◌, subst, inl, inr, arith, add-one}
use Rattle.std.specs.Prelude.{slice_get}
use Rattle.std.proofs.lemmas.Bool.{cases_order}
use Rattle.std.proofs.lemmas.List.{map-append}
use Rattle.std.proofs.lemmas.Option.{slice_get-get_or, slice_get_within}
use Rattle.es_outside.specs.NamedList.{name_at}
use Rattle.es_outside.specs.Refusals.{AreHostNames}
use Rattle.es_text.specs.declared.Place.{Place}
use Rattle.es6_ast.specs.declared.graph.EndOf.{EndOf}
use Rattle.es6_ast.specs.declared.graph.Graph.{Graph}
use Rattle.es6_ast.specs.declared.graph.LoadedModule.{LoadedModule}
use Rattle.es6_static_semantics.specs.Endings.{AllResolve, IsAmbiguous, IsUnresolved, wants}
use Rattle.module_endings.specs.declared.answers.Outcome.{Outcome}
use Rattle.module_endings.specs.declared.answers.Outcome.TheVariants.{Unresolved, Ambiguous, Ends as EndsAt}
use Rattle.module_endings.specs.declared.place.Place.{Place as Target}
use Rattle.module_endings.specs.declared.summary.Summary.{Summary}
use Rattle.module_endings.specs.Ends.{AreOutcomes, all_wants}
use Rattle.module_endings.specs.Webs.{AreDistinct}
use Rattle.module_endings.proofs.Gets.{get-push_cases, one-there, some-same}
use Rattle.module_endings.proofs.Sourcing.{drop-at}
use Rattle.module_links.specs.declared.fault.LinkFault.{LinkFault}
use Rattle.module_links.specs.declared.fault.LinkFault.TheVariants as faults
use Rattle.module_links.specs.declared.summaries.Summaries.{Summaries}
use Rattle.module_links.specs.Links.{AreLinked, AreSummed, IsFirstOf, IsLinkable, IsRefusal, IsTold, OwnLinks, Tells, graph_of}
use Rattle.module_summaries.proofs.Growing.{length-push, take-one}
use Rattle.module_links.proofs.Resolved.{all-resolved, first-outcomes, first-refused, next-outcomes, targets_of}
use Rattle.module_resolution.specs.Summaries.{summary_of}

pub ends-more : (os : List Outcome) (i : ℕ) (o : Outcome) (e : EndOf) (old new : List EndOf) → slice_get os i ≡ Some o → o ≡ EndsAt e → new ≡ old ++ e ∷ [] → take i os ≡ map EndsAt old → take (i + 1) os ≡ map EndsAt new
ends-more os i o e old new there is grown before =
    take-one os i o there ∙ ap (λ list. list ++ o ∷ []) before ∙ ap (λ z. map EndsAt old ++ z ∷ []) is ∙ sym (map-append EndsAt old (e ∷ [])) ∙ ap (map EndsAt) (sym grown)

told-first : (lines own : List ℕ) (targets : List Target) (offsets : List ℕ) (os : List Outcome) (at : ℕ) (ends : List EndOf) → take at os ≡ map EndsAt ends → (o : Outcome) → slice_get os at ≡ Some o
    → (target : Target) (offset : ℕ) → slice_get targets at ≡ Some target → slice_get offsets at ≡ Some offset → (path : List ℕ) (place : Place) (name : List ℕ)
    → IsTold lines own offset target.name path place name → IsFirstOf lines own targets offsets os o path place name
told-first lines own targets offsets os at ends before o there target offset at-target at-offset path place name told =
    record {
      at = at;
      ends = ends;
      before = before;
      there = there;
      told = λ t n et en. (
          let P : Target → Type 0 = λ z. IsTold lines own n z.name path place name in
          let Q : ℕ → Type 0 = λ z. IsTold lines own z target.name path place name in
          subst P (one-there targets at target t at-target et) (subst Q (one-there offsets at offset n at-offset en) told));
    }

-- what is told of an outcome that is no end
pub own-fault : (lines own : List ℕ) (targets : List Target) (offsets : List ℕ) (os : List Outcome) (at : ℕ) (ends : List EndOf) → take at os ≡ map EndsAt ends → (o : Outcome) → slice_get os at ≡ Some o
    → (target : Target) (offset : ℕ) → slice_get targets at ≡ Some target → slice_get offsets at ≡ Some offset → ((e : EndOf) → o ≡ EndsAt e → ⊥) → (fault : LinkFault) → Tells lines own target.name offset o fault
    → OwnLinks lines own targets offsets os (Err fault)
own-fault lines own targets offsets os at ends before Unresolved there target offset t n other (faults.Unresolved path place name) tells = told-first lines own targets offsets os at ends before Unresolved there target offset t n path place name tells
own-fault lines own targets offsets os at ends before Unresolved there target offset t n other (faults.Ambiguous path place name) tells = absurd tells
own-fault lines own targets offsets os at ends before Unresolved there target offset t n other faults.OutOfMemory tells = absurd tells
own-fault lines own targets offsets os at ends before Ambiguous there target offset t n other (faults.Unresolved path place name) tells = absurd tells
own-fault lines own targets offsets os at ends before Ambiguous there target offset t n other (faults.Ambiguous path place name) tells = told-first lines own targets offsets os at ends before Ambiguous there target offset t n path place name tells
own-fault lines own targets offsets os at ends before Ambiguous there target offset t n other faults.OutOfMemory tells = absurd tells
own-fault lines own targets offsets os at ends before (EndsAt e) there target offset t n other fault tells = absurd (other e refl)

-- the wanted names of the modules from one on are its own and those of the rest
wants-from : (sums : List Summary) (i : ℕ) (s : Summary) → slice_get sums i ≡ Some s → all_wants (drop i sums) ≡ s.wants ++ all_wants (drop (i + 1) sums)
wants-from sums i s there = ap all_wants (drop-at sums i s there ∙ ap (λ n. s ∷ drop n sums) (sym (add-one i)))

-- the names of a module are within the outcomes that are left
pub own-within : (sums : List Summary) (i : ℕ) (s : Summary) (rest : List Outcome) → slice_get sums i ≡ Some s → length rest ≡ length (all_wants (drop i sums)) → length rest ≡ length (s.wants ++ all_wants (drop (i + 1) sums))
own-within sums i s rest there size = size ∙ ap length (wants-from sums i s there)

own-summary : (modules : List LoadedModule) (known : Summaries) → AreSummed modules known → (i : ℕ) (m : LoadedModule) (s : Summary) → slice_get modules i ≡ Some m → slice_get known.summaries i ≡ Some s → s.wants ≡ targets_of m (wants m.tree)
own-summary modules known summed i m s there is = ap (λ z. z.wants) (one-there known.summaries i s (summary_of i m) is (summed.summaries.each i m there))

-- the outcomes of one module, and those of the rest
split : (modules : List LoadedModule) (known : Summaries) (hosts : List (List ℕ)) (i : ℕ) (s : Summary) (rest : List Outcome) → slice_get known.summaries i ≡ Some s
    → AreOutcomes known.summaries hosts (all_wants (drop i known.summaries)) rest → AreOutcomes known.summaries hosts (s.wants ++ all_wants (drop (i + 1) known.summaries)) rest
split modules known hosts i s rest is are = let P : List Target → Type 0 = λ ps. AreOutcomes known.summaries hosts ps rest in subst P (wants-from known.summaries i s is) are

own-outcomes : (modules : List LoadedModule) (known : Summaries) (hosts : List (List ℕ)) → AreSummed modules known → (i : ℕ) (m : LoadedModule) (s : Summary) (rest : List Outcome) → slice_get modules i ≡ Some m
    → slice_get known.summaries i ≡ Some s → AreOutcomes known.summaries hosts (all_wants (drop i known.summaries)) rest → AreOutcomes known.summaries hosts (targets_of m (wants m.tree)) (take (length s.wants) rest)
own-outcomes modules known hosts summed i m s rest there is are =
    let P : List Target → Type 0 = λ ps. AreOutcomes known.summaries hosts ps (take (length s.wants) rest) in
    subst P (own-summary modules known summed i m s there is)
    (first-outcomes known.summaries hosts s.wants (all_wants (drop (i + 1) known.summaries)) rest (split modules known hosts i s rest is are))

linked-more : (g : Graph) (hosts : List (List ℕ)) (i : ℕ) (m : LoadedModule) (all more : List (List EndOf)) (ends : List EndOf) → slice_get g.modules i ≡ Some m → AreLinked g hosts i all → AllResolve g hosts m (wants m.tree) ends
    → more ≡ all ++ ends ∷ [] → AreLinked g hosts (i + 1) more
linked-more g hosts i m all more ends there linked resolved grown =
    let P : List (List EndOf) → Type 0 = λ list. AreLinked g hosts (i + 1) list in
    subst P (sym grown) (record {
      size = length-push all ends ∙ ap suc linked.size ∙ sym (add-one i);
      each = λ k n es at is. elim (get-push_cases all ends k es is) [
        | inl old ↦ linked.each k n es at old
        | inr last ↦
            (let here : n ≡ m = one-there g.modules i n m (ap (λ z. slice_get g.modules z) (sym (last.0 ∙ linked.size)) ∙ at) there in
            let Q : LoadedModule → Type 0 = λ z. AllResolve g hosts z (wants z.tree) es in
            let R : List EndOf → Type 0 = λ z. AllResolve g hosts m (wants m.tree) z in
            subst Q (sym here) (subst R (sym last.1) resolved))
      ];
    })

-- one module more has its endings
pub share-more : (modules : List LoadedModule) (known : Summaries) (hosts : List (List ℕ)) → AreSummed modules known → IsLinkable (graph_of modules) → (i : ℕ) (m : LoadedModule) (s : Summary) (rest : List Outcome)
    → slice_get modules i ≡ Some m → slice_get known.summaries i ≡ Some s → AreOutcomes known.summaries hosts (all_wants (drop i known.summaries)) rest → (all more : List (List EndOf)) (ends : List EndOf)
    → AreLinked (graph_of modules) hosts i all → take (length s.wants) rest ≡ map EndsAt ends → more ≡ all ++ ends ∷ []
    → AreOutcomes known.summaries hosts (all_wants (drop (i + 1) known.summaries)) (drop (length s.wants) rest) × AreLinked (graph_of modules) hosts (i + 1) more
share-more modules known hosts summed linkable i m s rest there is are all more ends linked own grown =
    let P : List Outcome → Type 0 = λ os. AreOutcomes known.summaries hosts (targets_of m (wants m.tree)) os in (
      next-outcomes known.summaries hosts s.wants (all_wants (drop (i + 1) known.summaries)) rest (split modules known hosts i s rest is are),
      linked-more (graph_of modules) hosts i m all more ends there linked
          (all-resolved (graph_of modules) hosts known.summaries summed.summaries linkable.legal m (wants m.tree) ends (subst P own (own-outcomes modules known hosts summed i m s rest there is are))) grown,
    )

-- a module's first name that isn't resolved refuses the graph
pub share-refused : (modules : List LoadedModule) (known : Summaries) (hosts : List (List ℕ)) → AreSummed modules known → IsLinkable (graph_of modules) → (i : ℕ) (m : LoadedModule) (s : Summary) (offsets : List ℕ) (rest : List Outcome)
    → slice_get modules i ≡ Some m → slice_get known.summaries i ≡ Some s → slice_get known.offsets i ≡ Some offsets → AreOutcomes known.summaries hosts (all_wants (drop i known.summaries)) rest → (all : List (List EndOf))
    → AreLinked (graph_of modules) hosts i all → (fault : LinkFault) → OwnLinks m.lines m.path s.wants offsets (take (length s.wants) rest) (Err fault)
    → IsRefusal (graph_of modules) hosts fault
share-refused modules known hosts summed linkable i m s offsets rest there is offs are all linked (faults.Unresolved path place name) first =
    first-refused (graph_of modules) hosts known.summaries summed.summaries linkable.legal i m there all linked (take (length s.wants) rest) (own-outcomes modules known hosts summed i m s rest there is are)
    Unresolved (IsUnresolved (graph_of modules) hosts) (λ other h. h) s.wants offsets (own-summary modules known summed i m s there is)
    (one-there known.offsets i offsets _ offs (summed.offsets i m there)) path place name first
share-refused modules known hosts summed linkable i m s offsets rest there is offs are all linked (faults.Ambiguous path place name) first =
    first-refused (graph_of modules) hosts known.summaries summed.summaries linkable.legal i m there all linked (take (length s.wants) rest) (own-outcomes modules known hosts summed i m s rest there is are)
    Ambiguous (IsAmbiguous (graph_of modules) hosts) (λ other h. h) s.wants offsets (own-summary modules known summed i m s there is)
    (one-there known.offsets i offsets _ offs (summed.offsets i m there)) path place name first
share-refused modules known hosts summed linkable i m s offsets rest there is offs are all linked faults.OutOfMemory first = tt

-- no two hosts have one name
pub distinct-hosts : (hosts : List (List ℕ)) → AreHostNames hosts → AreDistinct hosts
distinct-hosts hosts names j k name at-j at-k =
    let in-j : j < length hosts = slice_get_within hosts j name at-j in
    let in-k : k < length hosts = slice_get_within hosts k name at-k in
    let name-j : name_at hosts j ≡ name = some-same (sym (slice_get-get_or hosts j [] in-j) ∙ at-j) in
    let name-k : name_at hosts k ≡ name = some-same (sym (slice_get-get_or hosts k [] in-k) ∙ at-k) in
    elim (cases_order j k) [
      | inl same ↦ same
      | inr apart ↦ elim apart [ inl first ↦ absurd (names.distinct k in-k j first (name-j ∙ sym name-k)) | inr second ↦ absurd (names.distinct j in-j k second (name-k ∙ sym name-j)) ]
    ]

pub rest-size : {A B : Type 0} (ps qs : List A) (os : List B) → length os ≡ length (ps ++ qs) → length (drop (length ps) os) ≡ length qs
rest-size [] qs os e = e
rest-size (p ∷ ps) qs [] e = absurd (omega (arith, e))
rest-size (p ∷ ps) qs (o ∷ os) e = rest-size ps qs os (omega (arith, e))
