-- What is told of a list of hosts in which one entry is replaced.
use Rattle.std.proofs.Common.{◌≡◌, ℕ, ◌<◌, ◌≤◌, List, length, map, get_or, slice_set, ap, sym, ◌∙◌, subst, inl, inr, String, string_bytes, Option, None, option_map, arith}
use Rattle.std.proofs.lemmas.Bool.{cases_eq}
use Rattle.std.proofs.lemmas.List.{map-set, get_or-map, get_or-set_same, get_or-set_other, length-map}
use Rattle.std.proofs.Math.Seq.{map-set_same}
use Rattle.es_outside.specs.Counts.{CountRose}
use Rattle.es_outside.specs.Talk.{talk_after}
use Rattle.es_outside.specs.declared.primitive.Primitive.{Primitive}
use Rattle.es_outside.specs.declared.events.Event.{Event}
use Rattle.es_outside.specs.declared.host.HostAnswer.{HostAnswer}
use Rattle.es_outside.specs.declared.talk.Talk.{Talk}
use Rattle.program_runs.specs.Around.{KeepsHosts, hosted}
use Rattle.program_runs.specs.Talks.{asked, talks_after}

module _ {A H : Type 0} (talk : H → Option Talk) (l : List (String A × H)) (i : ℕ) (y d : String A × H) (within : i < length l) where
  put_talks : (args : List Primitive) (answer : HostAnswer) → talk y.1 ≡ option_map (talk_after args answer) (talk (get_or l i d).1)
      → map (λ entry. talk entry.1) (slice_set l i y) ≡ talks_after i args answer (map (λ entry. talk entry.1) l)
  put_talks args answer told =
      map-set (λ entry. talk entry.1) l i y
      ∙ ap (λ t. slice_set (map (λ entry. talk entry.1) l) i t)
      (told ∙ ap (option_map (talk_after args answer)) (sym (get_or-map (λ entry. talk entry.1) l i d None within)))

  -- the host of an event, whose arguments are these, was asked
  pub put_event : (event : Event) (args : List Primitive) (answer : HostAnswer) → i ≡ event.host → args ≡ event.args
      → talk y.1 ≡ option_map (talk_after args answer) (talk (get_or l i d).1)
      → map (λ entry. talk entry.1) (slice_set l i y) ≡ asked event answer (map (λ entry. talk entry.1) l)
  put_event event args answer here same told =
      put_talks args answer told
      ∙ ap (λ (n : ℕ). talks_after n args answer (map (λ entry. talk entry.1) l)) here
      ∙ ap (λ (ps : List Primitive). talks_after event.host ps answer (map (λ entry. talk entry.1) l)) same

-- the count of the host with this number
abbrev pub count_at : {A H : Type 0} → (H → ℕ) → List (String A × H) → ℕ → ℕ
count_at faults l n = get_or (map (λ entry. faults entry.1) l) n 0

module _ {A H : Type 0} (faults : H → ℕ) (l : List (String A × H)) (i : ℕ) (y d : String A × H) (within : i < length l) where
  count_before : count_at faults l i ≡ faults (get_or l i d).1
  count_before = get_or-map (λ entry. faults entry.1) l i d 0 within

  count_behind : count_at faults (slice_set l i y) i ≡ faults y.1
  count_behind =
      ap (λ fs. get_or fs i 0) (map-set (λ entry. faults entry.1) l i y)
      ∙ get_or-set_same (map (λ entry. faults entry.1) l) i (faults y.1) 0 (simp length-map within)

  count_beside : (n : ℕ) → (n ≡ i → ⊥) → count_at faults (slice_set l i y) n ≡ count_at faults l n
  count_beside n other =
      ap (λ fs. get_or fs n 0) (map-set (λ entry. faults entry.1) l i y)
      ∙ get_or-set_other (map (λ entry. faults entry.1) l) i n (faults y.1) 0 other

  pub put_rose : CountRose (faults (get_or l i d).1) (faults y.1)
      → CountRose (get_or (map (λ entry. faults entry.1) l) i 0) (get_or (map (λ entry. faults entry.1) (slice_set l i y)) i 0)
  put_rose rose =
      subst (λ (m : ℕ). CountRose m (count_at faults (slice_set l i y) i)) (sym count_before)
      (subst (λ (m : ℕ). CountRose (faults (get_or l i d).1) m) (sym count_behind) rose)

  pub put_counts : faults (get_or l i d).1 ≤ faults y.1 → (n : ℕ) → count_at faults l n ≤ count_at faults (slice_set l i y) n
  put_counts up n = elim (cases_eq n i) [
    | inl same ↦ subst (λ (m : ℕ). count_at faults l m ≤ count_at faults (slice_set l i y) m) (sym same)
        (omega (arith, count_before, count_behind, up))
    | inr other ↦ omega (arith, count_beside n other)
  ]

pub put_keeps : {A H : Type 0} (talk : H → Option Talk) (faults : H → ℕ) (l : List (String A × H)) (i : ℕ) (y d : String A × H) → i < length l
    → y.0 ≡ (get_or l i d).0 → faults (get_or l i d).1 ≤ faults y.1 → KeepsHosts (hosted l talk faults) (hosted (slice_set l i y) talk faults)
put_keeps talk faults l i y d within same up = record {
  names = map-set_same (λ entry. string_bytes entry.0) l i y d (ap (λ name. string_bytes name) same);
  faults = put_counts faults l i y d within up;
}
