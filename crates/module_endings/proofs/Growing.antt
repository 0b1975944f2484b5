-- One element more of the lists over which loops go.
use Rattle.std.proofs.Common.{◌≡◌, ℕ, ◌+◌, ◌<◌, List, [], ◌∷◌, ◌++◌, length, get_or, map, take, Some, sym, ap, ◌∙◌, subst, inl, inr, arith, length-append}
use Rattle.std.specs.Prelude.{slice_get}
use Rattle.std.proofs.lemmas.List.{map_push, take_more}
use Rattle.std.proofs.lemmas.Option.{slice_get-get_or, slice_get_within}
use Rattle.module_flows.specs.declared.found.Found.{Found}
use Rattle.module_flows.specs.Flows.{found_at}
use Rattle.module_endings.specs.declared.answers.Outcome.{Outcome}
use Rattle.module_endings.specs.declared.cover.Entry.{Entry}
use Rattle.module_endings.specs.declared.place.Home.{Home}
use Rattle.module_endings.specs.declared.place.Place.{Place}
use Rattle.module_endings.specs.declared.summary.Export.{Export}
use Rattle.module_endings.specs.declared.summary.Summary.{Summary}
use Rattle.module_endings.specs.declared.web.Web.{Web}
use Rattle.module_endings.specs.Indexes.{Indexes}
use Rattle.module_endings.specs.Places.{at_place}
use Rattle.module_endings.specs.Webs.{AreEntries, FitAll, Fits, Linked}
use Rattle.module_endings.proofs.Gets.{get-push_cases, some-same}
use Rattle.module_endings.proofs.Linking.{linked-then}

entries-more : (ms : List Summary) (m : Summary) (es : List Entry) (e : Entry) → AreEntries ms es → e.summary.now ≡ m → Indexes e.sources e.summary.now.exports → AreEntries (ms ++ m ∷ []) (es ++ e ∷ [])
entries-more ms m es e are same indexed = record {
  same = map_push (λ x. x.summary.now) es e ∙ ap (λ front. front ++ e.summary.now ∷ []) are.same ∙ ap (λ z. ms ++ z ∷ []) same;
  indexed = λ k f there. elim (get-push_cases es e k f there) [
    | inl old ↦ are.indexed k f old
    | inr last ↦ (let P : Entry → Type 0 = λ z. Indexes z.sources z.summary.now.exports in subst P (sym last.1) indexed)
  ];
}

-- one module more with its sources
pub entries-grown : (modules : List Summary) (i : ℕ) (m : Summary) (old new : List Entry) (e : Entry) (exports : List Export) → i < length modules → m ≡ get_or modules i m → AreEntries (take i modules) old
    → new ≡ old ++ e ∷ [] → e.summary.now ≡ m → exports ≡ e.summary.now.exports → Indexes e.sources exports → AreEntries (take (i + 1) modules) new
entries-grown modules i m old new e exports inside is are grown same exported indexed =
    let P : List Summary → Type 0 = λ ms. AreEntries ms new in
    let Q : List Entry → Type 0 = λ es. AreEntries (take i modules ++ get_or modules i m ∷ []) es in
    let R : List Export → Type 0 = λ xs. Indexes e.sources xs in
    subst P (sym (take_more modules i m inside)) (subst Q (sym grown) (entries-more (take i modules) (get_or modules i m) old e are (same ∙ is) (subst R exported indexed)))

fit-more : (hosts : List (List ℕ)) (w : Web) (found : List Found) (ns : List ℕ) (n : ℕ) (os : List Outcome) (o : Outcome) → FitAll hosts w found ns os → Fits hosts w (found_at found n) o → FitAll hosts w found (ns ++ n ∷ []) (os ++ o ∷ [])
fit-more hosts w found ns n os o fit fits = record {
  size = length-append os (o ∷ []) ∙ ap (λ k. k + 1) fit.size ∙ sym (length-append ns (n ∷ []));
  each = λ k m p e f. elim (get-push_cases ns n k m e) [
    | inl old_number ↦ elim (get-push_cases os o k p f) [
      | inl old ↦ fit.each k m p old_number old
      | inr end ↦ absurd (omega (arith, slice_get_within ns k m old_number, fit.size, end.0))
    ]
    | inr last ↦ elim (get-push_cases os o k p f) [
      | inl old ↦ absurd (omega (arith, slice_get_within os k p old, fit.size, last.0))
      | inr end ↦ (let P : ℕ → Type 0 = λ z. Fits hosts w (found_at found z) p in let Q : Outcome → Type 0 = λ z. Fits hosts w (found_at found n) z in
          subst P (sym last.1) (subst Q (sym end.1) fits))
    ]
  ];
}

-- one answer more
pub fit-grown : (hosts : List (List ℕ)) (w : Web) (found : List Found) (numbers : List ℕ) (i : ℕ) (known : Found) (old new : List Outcome) (o : Outcome) → i < length numbers → FitAll hosts w found (take i numbers) old
    → known ≡ found_at found (get_or numbers i 0) → Fits hosts w known o → new ≡ old ++ o ∷ [] → FitAll hosts w found (take (i + 1) numbers) new
fit-grown hosts w found numbers i known old new o inside fit is fits grown =
    let P : List ℕ → Type 0 = λ ns. FitAll hosts w found ns new in
    let Q : List Outcome → Type 0 = λ os. FitAll hosts w found (take i numbers ++ get_or numbers i 0 ∷ []) os in
    let R : Found → Type 0 = λ z. Fits hosts w z o in
    subst P (sym (take_more numbers i 0 inside)) (subst Q (sym grown) (fit-more hosts w found (take i numbers) (get_or numbers i 0) old o fit (subst R is fits)))

-- one star more
pub stars-grown : (user : ℕ) (stars : List Home) (i : ℕ) (home : Home) (name other : List ℕ) (a b c : Web) → slice_get stars i ≡ Some home → other ≡ name
    → Linked user (map (λ h. at_place h name) (take i stars)) a b → Linked user (record { home = home; name = other } ∷ []) b c → Linked user (map (λ h. at_place h name) (take (i + 1) stars)) a c
stars-grown user stars i home name other a b c there same first second =
    let inside : i < length stars = slice_get_within stars i home there in
    let is : get_or stars i home ≡ home = some-same (sym (slice_get-get_or stars i home inside) ∙ there) in
    let P : List Place → Type 0 = λ ps. Linked user ps a c in
    let Q : List ℕ → Type 0 = λ n. Linked user (at_place home n ∷ []) b c in
    let more : map (λ h. at_place h name) (take (i + 1) stars) ≡ map (λ h. at_place h name) (take i stars) ++ at_place home name ∷ [] =
    ap (λ hs. map (λ h. at_place h name) hs) (take_more stars i home inside) ∙ map_push (λ h. at_place h name) (take i stars) (get_or stars i home)
    ∙ ap (λ h. map (λ x. at_place x name) (take i stars) ++ at_place h name ∷ []) is in
    subst P (sym more) (linked-then user (map (λ h. at_place h name) (take i stars)) (at_place home name) a b c first (subst Q same second))
