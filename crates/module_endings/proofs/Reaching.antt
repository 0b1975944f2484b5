-- The ends that are reached over the numbers of a web are the ends of its places.
use Rattle.std.proofs.Common.{◌≡◌, ℕ, zero, suc, ◌<◌, false, true≢false, List, [], ◌∷◌, length, get_or, Some, refl, sym, ap, ◌∙◌, subst, inl, inr, arith}
use Rattle.std.specs.Prelude.{slice_get}
use Rattle.std.specs.List.{All, Contains, IsDistinct}
use Rattle.std.proofs.lemmas.Bool.{cases_order}
use Rattle.std.proofs.lemmas.List.Elements.{Contains-get_or}
use Rattle.std.proofs.lemmas.Map.Keys.{apart_from_distinct}
use Rattle.std.proofs.lemmas.Option.{slice_get-get_or, slice_get_within}
use Rattle.es6_ast.specs.declared.graph.EndOf.{EndOf}
use Rattle.es6_ast.specs.declared.graph.EndOf.TheVariants.{Local, Host}
use Rattle.module_flows.specs.declared.found.Found.{Found}
use Rattle.module_flows.specs.declared.found.Found.TheVariants.{Nothing, One, Several}
use Rattle.module_flows.specs.Flows.{Reaches, itself, by_use, IsRight, AreRight, found_at}
use Rattle.module_endings.specs.declared.answers.Outcome.{Outcome}
use Rattle.module_endings.specs.declared.answers.Outcome.TheVariants.{Unresolved, Ambiguous, Ends as EndsAt}
use Rattle.module_endings.specs.declared.place.Home.{Home}
use Rattle.module_endings.specs.declared.place.Home.TheVariants.{Nowhere, OfHosts, Module, Binding}
use Rattle.module_endings.specs.declared.place.Place.{Place}
use Rattle.module_endings.specs.declared.summary.Summary.{Summary}
use Rattle.module_endings.specs.declared.wanted.Wanted.{Wanted}
use Rattle.module_endings.specs.declared.web.Web.{Web}
use Rattle.module_endings.specs.Ends.{Ends, here, along, AreOutcomes, all_wants, IsEnding, IsEndingFrom, IsOutcome}
use Rattle.module_endings.specs.Places.{same_place, same_place-Decides}
use Rattle.module_endings.specs.Webs.{AreDistinct, AreWanted, Covered, FitAll, Fits, FitsEnd, IsCovered, IsTrue, uses}
use Rattle.module_endings.proofs.Gets.{contains-same, one-there, some-same}

-- a web with all that is known of it at the end
pub record IsWhole (modules : List Summary) (hosts : List (List ℕ)) (w : Web) : Type 0 where
  pub said : IsTrue modules hosts w
  pub covered : (k : ℕ) (x : Place) → slice_get w.places.keys k ≡ Some x → IsCovered modules hosts w k x
  pub distinct : IsDistinct same_place w.places.keys
  pub hosts_distinct : AreDistinct hosts

-- an end that is reached from a place
pub record ReachesEnd (hosts : List (List ℕ)) (w : Web) (k : ℕ) (end : EndOf) : Type 0 where
  pub at : ℕ
  pub place : Place
  pub reached : Reaches w.users.items w.ends k at
  pub there : slice_get w.places.keys at ≡ Some place
  pub ending : IsEnding hosts place end

pub ends-reached : (modules : List Summary) (hosts : List (List ℕ)) (w : Web) → IsWhole modules hosts w → {x : Place} {end : EndOf} → Ends modules hosts x end
    → (k : ℕ) → slice_get w.places.keys k ≡ Some x → ReachesEnd hosts w k end
ends-reached modules hosts w whole (here {p = x} {end = end} is) k e =
    record { at = k; place = x; reached = itself ((whole.covered k x e).ends end is); there = e; ending = is }
ends-reached modules hosts w whole (along {p = x} {end = end} next c rest) k e =
    let on = (whole.covered k x e).goes next c in
    let far : ReachesEnd hosts w on.0 end = ends-reached modules hosts w whole rest on.0 on.1 in
    record { at = far.at; place = far.place; reached = by_use on.0 on.2 far.reached; there = far.there; ending = far.ending }

-- what is reached is an end
pub reached-end : (w : Web) {k at : ℕ} → Reaches w.users.items w.ends k at → Contains w.ends at
reached-end w (itself c) = c
reached-end w (by_use node c r) = reached-end w r

pub reached-ends : (modules : List Summary) (hosts : List (List ℕ)) (w : Web) → IsWhole modules hosts w → {k at : ℕ} → Reaches w.users.items w.ends k at
    → (z : Place) (end : EndOf) → slice_get w.places.keys at ≡ Some z → IsEnding hosts z end → (x : Place) → slice_get w.places.keys k ≡ Some x → Ends modules hosts x end
reached-ends modules hosts w whole (itself {end = k} c) z end there is x e =
    let P : Place → Type 0 = λ y. Ends modules hosts y end in
    subst P (one-there w.places.keys k z x there e) (here is)
reached-ends modules hosts w whole (by_use {user = k} {end = at} node c r) z end there is x e =
    let step = whole.said.users node k c in
    let P : Place → Type 0 = λ y. Ends modules hosts y end in
    subst P (one-there w.places.keys k step.0 x step.2.0 e) (along step.1 step.2.2 (reached-ends modules hosts w whole r z end there is step.1 step.2.1))

-- a place is one end
pub one-ending : (hosts : List (List ℕ)) → AreDistinct hosts → (home : Home) (name : List ℕ) (a b : EndOf) → IsEndingFrom hosts home name a → IsEndingFrom hosts home name b → a ≡ b
one-ending hosts distinct Nowhere name a b h k = absurd h
one-ending hosts distinct OfHosts name a b h k = h.2 ∙ ap Host (distinct h.0 k.0 name h.1 k.1) ∙ sym k.2
one-ending hosts distinct (Module i) name a b h k = absurd h
one-ending hosts distinct (Binding i) name a b h k = h ∙ sym k

same_parts : (p q : Place) → p.home ≡ q.home → p.name ≡ q.name → p ≡ q
same_parts p q h k = λ j. record { home = h j; name = k j }

-- an end is one place
one-home : (hosts : List (List ℕ)) (g h : Home) (m n : List ℕ) (a : EndOf) → IsEndingFrom hosts g m a → IsEndingFrom hosts h n a → (g ≡ h) × (m ≡ n)
one-home hosts Nowhere h m n a x y = absurd x
one-home hosts (Module i) h m n a x y = absurd x
one-home hosts OfHosts Nowhere m n a x y = absurd y
one-home hosts OfHosts (Module i) m n a x y = absurd y
one-home hosts OfHosts OfHosts m n a x y =
    let same : x.0 ≡ y.0 = host-same (sym x.2 ∙ y.2) in
    (refl, some-same (sym x.1 ∙ ap (λ z. slice_get hosts z) same ∙ y.1))
  where
    host-same : {i j : ℕ} → Host i ≡ Host j → i ≡ j
    host-same e = cc
one-home hosts OfHosts (Binding i) m n a x y = absurd (differ (sym x.2 ∙ y))
  where
    differ : Host x.0 ≡ Local i n → ⊥
    differ e = cc
one-home hosts (Binding i) Nowhere m n a x y = absurd y
one-home hosts (Binding i) (Module j) m n a x y = absurd y
one-home hosts (Binding i) OfHosts m n a x y = absurd (differ (sym x ∙ y.2))
  where
    differ : Local i m ≡ Host y.0 → ⊥
    differ e = cc
one-home hosts (Binding i) (Binding j) m n a x y = parts (sym x ∙ y)
  where
    parts : Local i m ≡ Local j n → (Binding i ≡ Binding j) × (m ≡ n)
    parts e = (cc, cc)

one-place : (hosts : List (List ℕ)) (p q : Place) (a b : EndOf) → a ≡ b → IsEnding hosts p a → IsEnding hosts q b → p ≡ q
one-place hosts p q a b e h k =
    let P : EndOf → Type 0 = λ z. IsEnding hosts q z in
    let same = one-home hosts p.home q.home p.name q.name a h (subst P (sym e) k) in
    same_parts p q same.0 same.1

apart : (keys : List Place) → IsDistinct same_place keys → (i j : ℕ) (x : Place) → i < j → slice_get keys i ≡ Some x → slice_get keys j ≡ Some x → ⊥
apart keys distinct i j x less e f =
    let inside : j < length keys = slice_get_within keys j x f in
    let first : get_or keys i x ≡ x = some-same (sym (slice_get-get_or keys i x (omega arith)) ∙ e) in
    let second : get_or keys j x ≡ x = some-same (sym (slice_get-get_or keys j x inside) ∙ f) in
    let differ : same_place (get_or keys i x) (get_or keys j x) ≡ false = apart_from_distinct same_place keys i j x distinct less inside in
    true≢false (sym ((same_place-Decides (get_or keys i x) (get_or keys j x)).1 (first ∙ sym second)) ∙ differ)

-- a place has one number
one-number : (keys : List Place) → IsDistinct same_place keys → (i j : ℕ) (x : Place) → slice_get keys i ≡ Some x → slice_get keys j ≡ Some x → i ≡ j
one-number keys distinct i j x e f = elim (cases_order i j) [
  | inl same ↦ same
  | inr other ↦ elim other [ inl less ↦ absurd (apart keys distinct i j x less e f) | inr more ↦ absurd (apart keys distinct j i x more f e) ]
]

outcome-nothing : (modules : List Summary) (hosts : List (List ℕ)) (w : Web) → IsWhole modules hosts w → (k : ℕ) (x : Place) → slice_get w.places.keys k ≡ Some x
    → ((at : ℕ) → Reaches w.users.items w.ends k at → ⊥) → (end : EndOf) → Ends modules hosts x end → ⊥
outcome-nothing modules hosts w whole k x e none end ends = let far = ends-reached modules hosts w whole ends k e in none far.at far.reached

outcome-several : (modules : List Summary) (hosts : List (List ℕ)) (w : Web) → IsWhole modules hosts w → (k : ℕ) (x : Place) → slice_get w.places.keys k ≡ Some x
    → IsRight w.users.items w.ends k Several → IsOutcome modules hosts x Ambiguous
outcome-several modules hosts w whole k x e right =
    let first = whole.said.ends right.0 (reached-end w right.2.0) in
    let second = whole.said.ends right.1 (reached-end w right.2.1) in (
      first.1,
      second.1,
      (
        reached-ends modules hosts w whole right.2.0 first.0 first.1 first.2.0 first.2.1 x e,
        reached-ends modules hosts w whole right.2.1 second.0 second.1 second.2.0 second.2.1 x e,
        λ same.
            let place : first.0 ≡ second.0 = one-place hosts first.0 second.0 first.1 second.1 same first.2.1 second.2.1 in
            right.2.2 (one-number w.places.keys whole.distinct right.0 right.1 first.0 first.2.0 (second.2.0 ∙ ap (λ z. Some z) (sym place))),
      ),
    )

outcome-one : (modules : List Summary) (hosts : List (List ℕ)) (w : Web) → IsWhole modules hosts w → (k at : ℕ) (x : Place) → slice_get w.places.keys k ≡ Some x
    → IsRight w.users.items w.ends k (One at) → (o : Outcome) → ((z : Place) → slice_get w.places.keys at ≡ Some z → FitsEnd hosts z o) → IsOutcome modules hosts x o
outcome-one modules hosts w whole k at x e right o fits =
    let known = whole.said.ends at (reached-end w right.0) in
    by o (fits known.0 known.2.0)
  where
    by : (o : Outcome) → FitsEnd hosts (whole.said.ends at (reached-end w right.0)).0 o → IsOutcome modules hosts x o
    by Unresolved none = let known = whole.said.ends at (reached-end w right.0) in absurd (none known.1 known.2.1)
    by Ambiguous none = absurd none
    by (EndsAt end) is =
        let known = whole.said.ends at (reached-end w right.0) in (
          reached-ends modules hosts w whole right.0 known.0 end known.2.0 is x e,
          λ other ends.
              let far : ReachesEnd hosts w k other = ends-reached modules hosts w whole ends k e in
              let same_at : far.at ≡ at = right.1 far.at far.reached in
              let same : far.place ≡ known.0 = one-there w.places.keys at far.place known.0 (ap (λ z. slice_get w.places.keys z) (sym same_at) ∙ far.there) known.2.0 in
              let P : Place → Type 0 = λ z. IsEnding hosts z other in
              one-ending hosts whole.hosts_distinct known.0.home known.0.name other end (subst P same far.ending) is,
        )

pub outcome-right : (modules : List Summary) (hosts : List (List ℕ)) (w : Web) → IsWhole modules hosts w → (k : ℕ) (x : Place) → slice_get w.places.keys k ≡ Some x
    → (found : Found) → IsRight w.users.items w.ends k found → (o : Outcome) → Fits hosts w found o → IsOutcome modules hosts x o
outcome-right modules hosts w whole k x e Nothing right o fits =
    let P : Outcome → Type 0 = λ z. IsOutcome modules hosts x z in subst P (sym fits) (outcome-nothing modules hosts w whole k x e right)
outcome-right modules hosts w whole k x e (One at) right o fits = outcome-one modules hosts w whole k at x e right o fits
outcome-right modules hosts w whole k x e Several right o fits =
    let P : Outcome → Type 0 = λ z. IsOutcome modules hosts x z in subst P (sym fits) (outcome-several modules hosts w whole k x e right)

pub get-some : {A : Type 0} (xs : List A) (i : ℕ) → i < length xs → (x : A) × (slice_get xs i ≡ Some x)
get-some [] i h = absurd (omega arith)
get-some (x ∷ xs) zero h = (x, refl)
get-some (x ∷ xs) (suc i) h = get-some xs i (omega arith)

-- what is answered for the wanted places is right
pub outcomes-right : (modules : List Summary) (hosts : List (List ℕ)) (w : Web) (ps : List Place) (numbers : List ℕ) (found : List Found) (outcomes : List Outcome)
    → IsWhole modules hosts w → AreRight w.users.items w.ends found → length numbers ≡ length ps
    → ((k : ℕ) (p : Place) (n : ℕ) → slice_get ps k ≡ Some p → slice_get numbers k ≡ Some n → slice_get w.places.keys n ≡ Some p)
    → FitAll hosts w found numbers outcomes → AreOutcomes modules hosts ps outcomes
outcomes-right modules hosts w ps numbers found outcomes whole right count each fit = record {
  size = fit.size ∙ count;
  each = λ k p o e f.
      let below : k < length ps = slice_get_within ps k p e in
      let n = get-some numbers k (omega (arith, count, below)) in
      outcome-right modules hosts w whole n.0 p (each k p n.0 e n.1) (found_at found n.0) (right.right n.0) o (fit.each k n.0 o n.1 f);
}

-- each number in a web is that of a place
pub users-within : (modules : List Summary) (hosts : List (List ℕ)) (w : Web) → IsTrue modules hosts w → All (λ list. All (λ node. node < length w.users.items) list) w.users.items
users-within modules hosts w is = λ k d inside. λ j e below.
    let list : List ℕ = get_or w.users.items k d in
    let same : list ≡ uses w k = get_or_any w.users.items k d [] inside in
    let c : Contains (uses w k) (get_or list j e) = contains-same list (uses w k) (get_or list j e) same (Contains-get_or list j e below) in
    let step = is.users k (get_or list j e) c in
    omega (arith, slice_get_within w.places.keys (get_or list j e) step.0 step.2.0, is.size)
  where
    get_or_any : {A : Type 0} (xs : List A) (k : ℕ) (d e : A) → k < length xs → get_or xs k d ≡ get_or xs k e
    get_or_any xs k d e h = some-same (sym (slice_get-get_or xs k d h) ∙ slice_get-get_or xs k e h)

pub ends-within : (modules : List Summary) (hosts : List (List ℕ)) (w : Web) → IsTrue modules hosts w → All (λ node. node < length w.users.items) w.ends
ends-within modules hosts w is = λ k d inside.
    let end = is.ends (get_or w.ends k d) (Contains-get_or w.ends k d inside) in
    omega (arith, slice_get_within w.places.keys (get_or w.ends k d) end.0 end.2.0, is.size)

-- what is answered, over all that was found before
pub all-answered : (modules : List Summary) (hosts : List (List ℕ)) (wanted : Wanted) (w : Web) (users : List (List ℕ)) (ends numbers : List ℕ) (found known : List Found) (outcomes : List Outcome)
    → AreDistinct hosts → AreWanted (all_wants modules) wanted → Covered modules hosts wanted.web w → IsDistinct same_place w.places.keys
    → users ≡ w.users.items → ends ≡ w.ends → AreRight users ends found → known ≡ found → numbers ≡ wanted.numbers → FitAll hosts w known numbers outcomes
    → AreOutcomes modules hosts (all_wants modules) outcomes
all-answered modules hosts wanted w users ends numbers found known outcomes apart are covered distinct is_users is_ends right is_found is_numbers fit =
    let whole : IsWhole modules hosts w = record {
      said = covered.said;
      covered = λ k x e. covered.covered k x (slice_get_within w.places.keys k x e) e;
      distinct = distinct;
      hosts_distinct = apart;
    } in
    let P : List (List ℕ) → Type 0 = λ us. AreRight us w.ends found in
    let Q : List ℕ → Type 0 = λ es. AreRight users es found in
    let R : List Found → Type 0 = λ fs. FitAll hosts w fs wanted.numbers outcomes in
    let S : List ℕ → Type 0 = λ ns. FitAll hosts w known ns outcomes in
    outcomes-right modules hosts w (all_wants modules) wanted.numbers found outcomes whole (subst P is_users (subst Q is_ends right)) are.count
    (λ k p n e f. covered.kept n p (are.each k p n e f)) (subst R is_found (subst S is_numbers fit))
