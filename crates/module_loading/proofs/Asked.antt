-- The request that waits, as the code finds it.
use Rattle.std.proofs.Common.{◌≡◌, ℕ, List, [], ◌∷◌, ◌++◌, map, reverse, Some, refl, sym, ap, ◌∙◌, subst}
use Rattle.std.specs.Prelude.{slice_get}
use Rattle.es_text.specs.declared.Place.{Place}
use Rattle.es6_ast.specs.declared.graph.Request.{Request}
use Rattle.module_loading.specs.declared.loading.Loading.{Loading}
use Rattle.module_loading.specs.declared.waiting.Wait.{Wait}
use Rattle.module_loading.specs.Loading.{IsOf, Loaded}
use Rattle.module_loading.specs.States.{IsAsked, Shows}
use Rattle.module_loading.proofs.Lists.{get-map, map-get, one-there, reverse-push}

pub asked : {M : Type 0} (requests : M → List Request) (shows : M → ℕ → Place → Type 0) (modules : List (Loaded M)) (waiting : List Wait) (l : Loading M) (wait : Wait)
    (made : M) (request : Request) (base : List ℕ) (place : Place) → Shows modules waiting l → slice_get l.modules wait.importer ≡ Some made → slice_get (requests made) wait.index ≡ Some request
    → slice_get l.paths wait.importer ≡ Some base → shows made request.at place → IsAsked requests shows modules wait base request place
asked {M} requests shows modules waiting l wait made request base place kept there wanted path told =
    let found = get-map (λ m. m.made) modules wait.importer made (ap (λ list. slice_get list wait.importer) (sym kept.modules_are) ∙ there) in
    let m : Loaded M = found.0 in
    let A : M → Type 0 = λ z. slice_get (requests z) wait.index ≡ Some request in
    let S : M → Type 0 = λ z. shows z request.at place in record {
      m = m;
      is_of = record { stands = found.1; asked = subst A (sym found.2) wanted };
      base_is = one-there (map (λ m. m.path) modules) wait.importer base m.path (ap (λ list. slice_get list wait.importer) (sym kept.paths_are) ∙ path) (map-get (λ m. m.path) modules wait.importer m found.1);
      place_is = subst S (sym found.2) told;
    }

-- one request is asked by what waits
pub one-asked : {M : Type 0} (requests : M → List Request) (modules : List (Loaded M)) (wait : Wait) (m n : Loaded M) (r s : Request) → IsOf requests modules wait m r → IsOf requests modules wait n s
    → (m ≡ n) × (r ≡ s)
one-asked requests modules wait m n r s p q =
    let same : m ≡ n = one-there modules wait.importer m n p.stands q.stands in
    (same, one-there (requests n.made) wait.index r s (ap (λ z. slice_get (requests z.made) wait.index) (sym same) ∙ p.asked) q.asked)

-- the last that was put there comes first
pub popped : {M : Type 0} (modules : List (Loaded M)) (rest : List Wait) (l n : Loading M) (wait : Wait) → Shows modules rest l → n.paths ≡ l.paths → n.modules ≡ l.modules → n.size ≡ l.size
    → l.waiting ≡ n.waiting ++ wait ∷ [] → (rest ≡ wait ∷ reverse n.waiting) × Shows modules (reverse n.waiting) n
popped modules rest l n wait kept paths made size waiting = (
  sym kept.waits_are ∙ ap reverse waiting ∙ reverse-push n.waiting wait,
  record { paths_are = paths ∙ kept.paths_are; modules_are = made ∙ kept.modules_are; size_is = size ∙ kept.size_is; waits_are = refl },
)
