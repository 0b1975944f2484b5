-- Names and stars that are added.
use Rattle.std.proofs.Common.{◌≡◌, ℕ, zero, suc, ◌+◌, ◌<◌, ◌≤◌, ◌⊎◌, Bool, true, false, nat_eq, List, [], ◌∷◌, ◌++◌, length, map, take, Option, Some, None, if◌then◌else◌, refl, sym, ap, ◌∙◌, subst, inl, inr, arith}
use Rattle.std.specs.Prelude.{slice_get}
use Rattle.std.specs.List.{Contains, list_any}
use Rattle.std.proofs.lemmas.Bool.{cases_lt}
use Rattle.std.proofs.lemmas.Bool.Decides.{Decides-eqb}
use Rattle.std.proofs.lemmas.List.Elements.{Contains-append_cases, Contains-append_left, Contains-append_right}
use Rattle.std.proofs.lemmas.Option.{slice_get-map, slice_get_within}
use Rattle.indexmap.specs.IndexSet.{insert_key}
use Rattle.indexmap.proofs.CallerLemmas.{Contains-insert_key}
use Rattle.module_endings.specs.declared.place.Home.{Home}
use Rattle.module_endings.specs.declared.place.Home.TheVariants.{Nowhere, OfHosts, Module, Binding}
use Rattle.module_endings.specs.declared.place.Place.{Place}
use Rattle.module_endings.specs.declared.summary.Export.{Export}
use Rattle.module_endings.specs.declared.summary.Summary.{Summary}
use Rattle.module_endings.proofs.Gets.{contains-get, contains-same, get-contains, get-left, one-contained, one-there, some-same}
use Rattle.module_summaries.proofs.Growing.{take-one}
use Rattle.graph_namespaces.specs.Asked.{Asks, KeepsAll, KeepsKeys, Visits, asked_names, name_at}

get-some : {A : Type 0} (xs : List A) (i : ℕ) → i < length xs → (x : A) × (slice_get xs i ≡ Some x)
get-some [] i h = absurd (omega arith)
get-some (x ∷ xs) zero h = (x, refl)
get-some (x ∷ xs) (suc i) h = get-some xs i (omega arith)

kept-inserted : (keys : List ℕ) (x : ℕ) (b : Bool) → KeepsAll keys (if b then keys else keys ++ x ∷ [])
kept-inserted keys x true k y e = e
kept-inserted keys x false k y e = get-left keys (x ∷ []) k y e

same_number : (x y : ℕ) → nat_eq x y ≡ true → x ≡ y
same_number x y e = (Decides-eqb x y).0 e

-- a module is added
pub inserted : (old new : List ℕ) (x : ℕ) → new ≡ insert_key nat_eq old x → KeepsAll old new × Contains new x
inserted old new x is =
    (subst (KeepsAll old) (sym is) (kept-inserted old x (list_any (nat_eq x) old)), subst (λ keys. Contains keys x) (sym is) (Contains-insert_key nat_eq same_number old x))

-- the module of one star
pub star-added : (old new : List ℕ) (x : ℕ) → new ≡ insert_key nat_eq old x → KeepsKeys (Module x ∷ []) old new
star-added old new x is =
    let added = inserted old new x is in
    record {
      kept = added.0;
      there = λ j c. (let home : Module x ≡ Module j = one-contained (Module x) (Module j) c in let same : x ≡ j = cc in subst (Contains new) same added.1);
    }

-- other stars add none
pub nowhere-added : (keys : List ℕ) → KeepsKeys (Nowhere ∷ []) keys keys
nowhere-added keys = record { kept = λ k x e. e; there = λ j c. (let bad : Nowhere ≡ Module j = one-contained Nowhere (Module j) c in absurd (cc)) }

pub hosts-added : (keys : List ℕ) → KeepsKeys (OfHosts ∷ []) keys keys
hosts-added keys = record { kept = λ k x e. e; there = λ j c. (let bad : OfHosts ≡ Module j = one-contained OfHosts (Module j) c in absurd (cc)) }

pub binding-added : (keys : List ℕ) (i : ℕ) → KeepsKeys (Binding i ∷ []) keys keys
binding-added keys i = record { kept = λ k x e. e; there = λ j c. (let bad : Binding i ≡ Module j = one-contained (Binding i) (Module j) c in absurd (cc)) }

contains-kept : (old new : List ℕ) → KeepsAll old new → (x : ℕ) → Contains old x → Contains new x
contains-kept old new kept x c = let at = get-contains old x c in contains-get new at.0 x (kept at.0 x at.1)

-- one star more
pub stars-more : (stars : List Home) (i : ℕ) (home : Home) (old mid new : List ℕ) → slice_get stars i ≡ Some home → KeepsKeys (take i stars) old mid → KeepsKeys (home ∷ []) mid new → KeepsKeys (take (i + 1) stars) old new
stars-more stars i home old mid new at before one = record {
  kept = λ k x e. one.kept k x (before.kept k x e);
  there = λ j c. elim (Contains-append_cases (take i stars) (home ∷ []) (Module j) (contains-same (take (i + 1) stars) (take i stars ++ home ∷ []) (Module j) (take-one stars i home at) c)) [
    | inl early ↦ contains-kept mid new one.kept j (before.there j early)
    | inr last ↦ one.there j last
  ];
}

-- there is no module of this number
pub visits-none : (known : List Summary) (number index : ℕ) (keys : List ℕ) (names : List Place) → slice_get known number ≡ None → Visits known number index keys names keys names
visits-none known number index keys names none = record {
  kept = λ k x e. e;
  stays = λ p c. c;
  homes = λ p c. inl c;
  stars = λ s j e c. (let bad : None ≡ Some s = sym none ∙ e in absurd (cc));
  exports = λ s x e c. (let bad : None ≡ Some s = sym none ∙ e in absurd (cc));
}

map-home : (index : ℕ) (xs : List Export) (k : ℕ) (p : Place) → slice_get (map (name_at index) xs) k ≡ Some p → p.home ≡ Module index
map-home index [] k p e = absurd (cc)
map-home index (x ∷ xs) zero p e = ap (λ q. q.home) (sym (some-same e))
map-home index (x ∷ xs) (suc k) p e = map-home index xs k p e

contains-map : (index : ℕ) (xs : List Export) (x : Export) → Contains xs x → Contains (map (name_at index) xs) (name_at index x)
contains-map index xs x c =
    let at = get-contains xs x c in
    contains-get (map (name_at index) xs) at.0 (name_at index x) (slice_get-map (name_at index) xs at.0 ∙ ap mapped at.1)
  where
    mapped : Option Export → Option Place
    mapped None = None
    mapped (Some y) = Some (name_at index y)

-- the names and the stars of a module
pub visits-some : (known : List Summary) (number index : ℕ) (s : Summary) (keys keys2 : List ℕ) (names names2 : List Place) → slice_get known number ≡ Some s → names2 ≡ asked_names index names s.exports → KeepsKeys s.stars keys keys2
    → Visits known number index keys names keys2 names2
visits-some known number index s keys keys2 names names2 at is stars =
    let own : List Place = map (name_at index) s.exports in
    record {
      kept = stars.kept;
      stays = λ p c. contains-same (names ++ own) names2 p (sym is) (Contains-append_left names own p c);
      homes = λ p c. elim (Contains-append_cases names own p (contains-same names2 (names ++ own) p is c)) [
        | inl old ↦ inl old
        | inr new ↦ inr (let k = get-contains own p new in map-home index s.exports k.0 p k.1)
      ];
      stars = λ t j e c. stars.there j (subst (λ z. Contains z.stars (Module j)) (one-there known number t s e at) c);
      exports = λ t x e c. contains-same (names ++ own) names2 (name_at index x) (sym is)
          (Contains-append_right names own (name_at index x) (contains-map index s.exports x (subst (λ z. Contains z.exports x) (one-there known number t s e at) c)));
    }

-- the modules with the first keys are visited
pub record AsksTo (known : List Summary) (index at : ℕ) (keys : List ℕ) (ps : List Place) : Type 0 where
  pub homes : (p : Place) → Contains ps p → p.home ≡ Module index
  pub first : Contains keys index
  pub stars : (k i j : ℕ) (s : Summary) → k < at → slice_get keys k ≡ Some i → slice_get known i ≡ Some s → Contains s.stars (Module j) → Contains keys j
  pub exports : (k i : ℕ) (s : Summary) (x : Export) → k < at → slice_get keys k ≡ Some i → slice_get known i ≡ Some s → Contains s.exports x → Contains ps (name_at index x)

pub asks-more : (known : List Summary) (index at number : ℕ) (keys keys2 : List ℕ) (ps ps2 : List Place) → slice_get keys at ≡ Some number → AsksTo known index at keys ps → Visits known number index keys ps keys2 ps2 → AsksTo known index (at + 1) keys2 ps2
asks-more known index at number keys keys2 ps ps2 there before visited = record {
  homes = λ p c. elim (visited.homes p c) [ inl old ↦ before.homes p old | inr new ↦ new ];
  first = contains-kept keys keys2 visited.kept index before.first;
  stars = λ k i j s l e f c. elim (last k l) [
    | inl early ↦ contains-kept keys keys2 visited.kept j (before.stars k i j s early (old-at k i early e) f c)
    | inr same ↦ visited.stars s j (subst (λ n. slice_get known n ≡ Some s) (number-at k i same e) f) c
  ];
  exports = λ k i s x l e f c. elim (last k l) [
    | inl early ↦ visited.stays (name_at index x) (before.exports k i s x early (old-at k i early e) f c)
    | inr same ↦ visited.exports s x (subst (λ n. slice_get known n ≡ Some s) (number-at k i same e) f) c
  ];
}
  where
    inside : at < length keys
    inside = slice_get_within keys at number there

    last : (k : ℕ) → k < at + 1 → (k < at) ⊎ (k ≡ at)
    last k l = elim (cases_lt k at) [ inl early ↦ inl early | inr late ↦ inr (omega (arith, l, late)) ]

    old-at : (k i : ℕ) → k < at → slice_get keys2 k ≡ Some i → slice_get keys k ≡ Some i
    old-at k i early e =
        let x = get-some keys k (omega (arith, early, inside)) in
        let same : x.0 ≡ i = one-there keys2 k x.0 i (visited.kept k x.0 x.1) e in
        x.1 ∙ ap (λ z. Some z) same

    number-at : (k i : ℕ) → k ≡ at → slice_get keys2 k ≡ Some i → i ≡ number
    number-at k i same e = one-there keys2 at i number (ap (λ n. slice_get keys2 n) (sym same) ∙ e) (visited.kept at number there)

pub asks-all : (known : List Summary) (index at : ℕ) (keys : List ℕ) (ps : List Place) → AsksTo known index at keys ps → length keys ≤ at → Asks known index ps
asks-all known index at keys ps to over = record {
  homes = to.homes;
  keys = keys;
  first = to.first;
  stars = λ i j s c e d. (let k = get-contains keys i c in to.stars k.0 i j s (omega (arith, slice_get_within keys k.0 i k.1, over)) k.1 e d);
  exports = λ i s x c e d. (let k = get-contains keys i c in to.exports k.0 i s x (omega (arith, slice_get_within keys k.0 i k.1, over)) k.1 e d);
}
