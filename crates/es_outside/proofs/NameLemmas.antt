-- The names of a list of named things, one by one.
use Rattle.std.proofs.Common.{◌≡◌, ℕ, ◌+◌, ◌<◌, ◌≤◌, List, [], ◌∷◌, ◌++◌, length, map, get_or, take, ap, sym, ◌∙◌, subst, add-one, inl, inr, true, false, Option, Some, None}
use Rattle.std.proofs.lemmas.List.{get_or-map, take-map, get_or-take, length-map, length-take-le}
use Rattle.std.proofs.Math.Seq.{take-suc}
use Rattle.std.specs.Option.{IfSome, IfNone, is_some}
use Rattle.std.proofs.lemmas.Bool.{cases_order}
use borrow.Author.Count.{below_more}
use Rattle.es_outside.specs.HostNames.{is_host_name}
use Rattle.es_outside.specs.NamedList.{name_at, IsNamed, NoneNamed, NoneNamedBelow}
use Rattle.es_outside.specs.Refusals.{AreHostNames, AreHostNamesBelow}

-- the name at an index is that of the thing there
pub name_at-entry : {A : Type 0} (label : A → List ℕ) (entries : List A) (index : ℕ) (entry : A) → index < length entries
    → entry ≡ get_or entries index entry → name_at (map label entries) index ≡ label entry
name_at-entry label entries index entry within there = get_or-map label entries index entry [] within ∙ sym (ap label there)

-- the names up to an entry and its own
pub names-next : {A : Type 0} (label : A → List ℕ) (entries : List A) (count : ℕ) (entry : A) → count < length entries
    → entry ≡ get_or entries count entry → take (count + 1) (map label entries) ≡ take count (map label entries) ++ label entry ∷ []
names-next label entries count entry within there = rw add-one
    (take-suc (map label entries) count [] (simp length-map within)
    ∙ ap (λ (name : List ℕ). take count (map label entries) ++ name ∷ []) (name_at-entry label entries count entry within there))

-- the names of a front
name_at-front : {A : Type 0} (label : A → List ℕ) (entries : List A) (count k : ℕ) → k < count
    → name_at (map label (take count entries)) k ≡ name_at (map label entries) k
name_at-front label entries count k within =
    ap (λ (names : List (List ℕ)). get_or names k []) (sym (take-map label count entries))
    ∙ get_or-take count (map label entries) k [] within

length-front : {A : Type 0} (label : A → List ℕ) (entries : List A) (count : ℕ) → count ≤ length entries
    → length (map label (take count entries)) ≡ count
length-front label entries count within = length-map (take count entries) label ∙ length-take-le count entries within

-- a name that is found in a front stands in it
pub found_in_front : {A : Type 0} (label : A → List ℕ) (entries : List A) (count : ℕ) (name : List ℕ) (found : Option ℕ)
    → count ≤ length entries → IfSome found (IsNamed (map label (take count entries)) name) → true ≡ is_some found
    → (j : ℕ) × (j < count) × (name_at (map label entries) j ≡ name)
found_in_front label entries count name None fits is test = cc
found_in_front label entries count name (Some j) fits is test =
    let within : j < count = subst (λ (n : ℕ). j < n) (length-front label entries count fits) is.within in
    (j, within, sym (name_at-front label entries count j within) ∙ is.name_is)

-- a name that isn't found in a front doesn't stand in it
pub none_in_front : {A : Type 0} (label : A → List ℕ) (entries : List A) (count : ℕ) (name : List ℕ) (found : Option ℕ)
    → count ≤ length entries → IfNone found (NoneNamed (map label (take count entries)) name) → false ≡ is_some found
    → NoneNamedBelow (map label entries) name count
none_in_front label entries count name (Some j) fits none test = absurd (cc test)
none_in_front label entries count name None fits none test = λ k below same.
    none k (subst (λ (n : ℕ). k < n) (sym (length-front label entries count fits)) below) (name_at-front label entries count k below ∙ same)

-- one more name that may stand
pub AreHostNamesBelow-next : (names : List (List ℕ)) (count : ℕ) → AreHostNamesBelow names count → is_host_name (name_at names count) ≡ true
    → NoneNamedBelow names (name_at names count) count → AreHostNamesBelow names (count + 1)
AreHostNamesBelow-next names count before may fresh = record {
  lawful = below_more (λ k. is_host_name (name_at names k) ≡ true) count before.lawful may;
  distinct = below_more (λ k. NoneNamedBelow names (name_at names k) k) count before.distinct fresh;
}

-- one name stands at one index
pub IsNamed-unique : (names : List (List ℕ)) (name : List ℕ) (i j : ℕ) → AreHostNames names → IsNamed names name i → IsNamed names name j → i ≡ j
IsNamed-unique names name i j are one other = elim (cases_order i j) [
  | inl same ↦ same
  | inr apart ↦ elim apart [
    | inl below ↦ absurd (are.distinct j other.within i below (one.name_is ∙ sym other.name_is))
    | inr above ↦ absurd (are.distinct i one.within j above (other.name_is ∙ sym one.name_is))
  ]
]
