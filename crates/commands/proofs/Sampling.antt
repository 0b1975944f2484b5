-- From what both runs of the sample graph show to what the command leaves.
use Rattle.std.proofs.Common.{◌≡◌, ℕ, ◌<◌, true, false, List, Option, Some, refl, sym, ap, ◌∙◌, subst, inl, inr, arith}
use Rattle.std.specs.Prelude.{codes}
use mathlib.Core.Path.{fun_ext}
use Rattle.es_outside.specs.Counts.{CountRose}
use Rattle.es_outside.specs.HostNames.{is_host_name, kept_globals, known_globals, reserved_words, special_names}
use Rattle.es_outside.specs.NamedList.{name_at}
use Rattle.es_outside.specs.Refusals.{IsRefused}
use Rattle.graph_refusals.specs.declared.fault.GraphFault.{GraphFault}
use Rattle.graph_refusals.specs.declared.fault.GraphFault.TheVariants.{Refused, OutOfMemory}
use Rattle.module_linker.specs.Checking.{IsMadeOf}
use Rattle.module_linker.specs.graph_checks.Checks.{HasGraphFault, Refuses, by_files, by_reading}
use Rattle.sample_graph.specs.Listed.{file_listed}
use Rattle.sample_graph.specs.Sample.{sample_files}
use Rattle.sample_runs.specs.declared.comparison.Comparison.{Comparison}
use Rattle.commands.specs.Outcome.{IsSampled, print_alone, sample_entry, sample_told}
use Rattle.commands.specs.Parts.{FitsSample, IsComparedGraph, graph_fault_of}

abbrev Files : Type 0
Files = Option (List ℕ → Option (List ℕ))

-- files in which the sample graph stands tell what its definition lists
pub tells_sample : (told : Files) (file : List ℕ → Option (List ℕ)) (count : ℕ) → told ≡ Some file → ((path : List ℕ) → file path ≡ file_listed (sample_files count) path) → told ≡ sample_told count
tells_sample told file count e each = e ∙ ap (λ f. Some f) (fun_ext each)

-- what is said of these files, this entry and these hosts is said of the sample graph's
at_sample : (P : Files → List ℕ → List (List ℕ) → Type 0) (count : ℕ) (told : Files) (entry : List ℕ) (hosts : List (List ℕ)) → told ≡ sample_told count → entry ≡ sample_entry → hosts ≡ print_alone → P told entry hosts → P (sample_told count) sample_entry print_alone
at_sample P count told entry hosts t e h p =
    subst (λ c. P (sample_told count) sample_entry c) h (subst (λ b. P (sample_told count) b hosts) e (subst (λ a. P a entry hosts) t p))

pub sampled_of : (count : ℕ) (told : Files) (entry : List ℕ) (hosts : List (List ℕ)) (comparison : Comparison) → told ≡ sample_told count → entry ≡ sample_entry → hosts ≡ print_alone
    → IsMadeOf IsComparedGraph told entry hosts comparison → IsSampled count comparison
sampled_of count told entry hosts comparison t e h m =
    let here = at_sample (λ a b c. IsMadeOf IsComparedGraph a b c comparison) count told entry hosts t e h m in
    let made = here.is_made.is_made in
    record { graph = here.graph; loads = here.loads; linked = here.is_made.linked; relinked = here.is_made.relinked; script = made.script; compiled = made.compiled; compared = made.compared }

-- no count of files in memory rises
never_rose : (old new : ℕ) → old ≡ 0 → new ≡ 0 → CountRose old new → ⊥
never_rose old new o n rose = let up : old < new = rose (λ last. absurd (omega (arith, n, last))) in omega (arith, o, n, up)

pub sample_refused : (count : ℕ) (told : Files) (entry : List ℕ) (hosts : List (List ℕ)) (old new : ℕ) (fault : GraphFault) → told ≡ sample_told count → entry ≡ sample_entry → hosts ≡ print_alone → old ≡ 0 → new ≡ 0
    → HasGraphFault told hosts entry old new fault → FitsSample count (graph_fault_of fault)
sample_refused count told entry hosts old new OutOfMemory t e h o n f = tt
sample_refused count told entry hosts old new (Refused _) t e h o n (by_files {refusal = r} x) = at_sample (λ a b c. Refuses a c b r) count told entry hosts t e h x
sample_refused count told entry hosts old new (Refused _) t e h o n (by_reading rose next) = absurd (never_rose old new o n rose)

-- `print` may name a host
print_stands : is_host_name (codes "print") ≡ true
unfolding is_host_name reserved_words special_names kept_globals known_globals
print_stands = refl

pub print_alone_stands : (number at : ℕ) → IsRefused print_alone number at → ⊥
print_alone_stands number at r =
    let first : at ≡ 0 = omega (arith, r.within) in
    elim r.reason [
      | inl no_name ↦
          let none : is_host_name (name_at print_alone 0) ≡ false = subst (λ k. is_host_name (name_at print_alone k) ≡ false) first no_name.1 in
          let bad : true ≡ false = sym print_stands ∙ none in
          absurd (cc)
      | inr twice ↦ (let earlier = twice.2.1 in absurd (omega (arith, first, earlier)))
    ]

-- what is made of the one name isn't refused
pub print_stands_in : (names : List (List ℕ)) (number at : ℕ) → names ≡ print_alone → IsRefused names number at → ⊥
print_stands_in names number at e r = print_alone_stands number at (subst (λ (ns : List (List ℕ)). IsRefused ns number at) e r)
