-- Outcomes that are ends, and what they say of a graph.
use Rattle.std.proofs.Common.{◌≡◌, ℕ, zero, suc, ◌+◌, List, [], ◌∷◌, ◌++◌, drop, length, map, take, Some, refl, ap, ◌∙◌, subst, arith}
use Rattle.std.specs.Prelude.{slice_get}
use Rattle.es_text.specs.declared.Place.{Place}
use Rattle.es6_ast.specs.declared.graph.EndOf.{EndOf}
use Rattle.es6_ast.specs.declared.graph.Graph.{Graph}
use Rattle.es6_ast.specs.declared.graph.LoadedModule.{LoadedModule}
use Rattle.es6_static_semantics.specs.Endings.{AllResolve, none_wanted, one_wanted, Elsewhere, Wanted, wants}
use Rattle.module_endings.specs.declared.answers.Outcome.{Outcome}
use Rattle.module_endings.specs.declared.answers.Outcome.TheVariants.{Ends as EndsAt}
use Rattle.module_endings.specs.declared.place.Place.{Place as Target}
use Rattle.module_endings.specs.declared.summary.Summary.{Summary}
use Rattle.module_endings.specs.Ends.{AreOutcomes, IsOutcome}
use Rattle.module_endings.proofs.Gets.{some-same}
use Rattle.module_links.specs.Links.{AreLinked, IsFirstOf, IsFirstRefused, IsTold}
use Rattle.module_resolution.specs.Summaries.{AreLegal, AreSummaries, IsResolution, elsewhere}
use Rattle.module_resolution.proofs.Laws.{resolution}

each-cons : (sums : List Summary) (hosts : List (List ℕ)) (p : Target) (ps : List Target) (o : Outcome) (os : List Outcome) → IsOutcome sums hosts p o → AreOutcomes sums hosts ps os
    → (k : ℕ) (q : Target) (r : Outcome) → slice_get (p ∷ ps) k ≡ Some q → slice_get (o ∷ os) k ≡ Some r → IsOutcome sums hosts q r
each-cons sums hosts p ps o os first rest zero q r e f =
    let P : Target → Type 0 = λ z. IsOutcome sums hosts z o in
    let Q : Outcome → Type 0 = λ z. IsOutcome sums hosts q z in
    subst Q (some-same f) (subst P (some-same e) first)
each-cons sums hosts p ps o os first rest (suc k) q r e f = rest.each k q r e f

cons-outcomes : (sums : List Summary) (hosts : List (List ℕ)) (p : Target) (ps : List Target) (o : Outcome) (os : List Outcome) → IsOutcome sums hosts p o → AreOutcomes sums hosts ps os → AreOutcomes sums hosts (p ∷ ps) (o ∷ os)
cons-outcomes sums hosts p ps o os first rest = record { size = ap suc rest.size; each = each-cons sums hosts p ps o os first rest }

rest-outcomes : (sums : List Summary) (hosts : List (List ℕ)) (p : Target) (ps : List Target) (o : Outcome) (os : List Outcome) → AreOutcomes sums hosts (p ∷ ps) (o ∷ os) → AreOutcomes sums hosts ps os
rest-outcomes sums hosts p ps o os are = record { size = omega (arith, are.size); each = λ k. are.each (suc k) }

-- the outcomes of two rows of names are those of each
pub first-outcomes : (sums : List Summary) (hosts : List (List ℕ)) (ps qs : List Target) (os : List Outcome) → AreOutcomes sums hosts (ps ++ qs) os → AreOutcomes sums hosts ps (take (length ps) os)
first-outcomes sums hosts [] qs os are = record { size = refl; each = λ k p o e f. absurd (cc) }
first-outcomes sums hosts (p ∷ ps) qs [] are = absurd (omega (arith, are.size))
first-outcomes sums hosts (p ∷ ps) qs (o ∷ os) are =
    cons-outcomes sums hosts p ps o (take (length ps) os) (are.each zero p o refl refl) (first-outcomes sums hosts ps qs os (rest-outcomes sums hosts p (ps ++ qs) o os are))

pub next-outcomes : (sums : List Summary) (hosts : List (List ℕ)) (ps qs : List Target) (os : List Outcome) → AreOutcomes sums hosts (ps ++ qs) os → AreOutcomes sums hosts qs (drop (length ps) os)
next-outcomes sums hosts [] qs os are = are
next-outcomes sums hosts (p ∷ ps) qs [] are = absurd (omega (arith, are.size))
next-outcomes sums hosts (p ∷ ps) qs (o ∷ os) are = next-outcomes sums hosts ps qs os (rest-outcomes sums hosts p (ps ++ qs) o os are)

-- the first outcomes are those of the first names
taken-outcomes : (sums : List Summary) (hosts : List (List ℕ)) (k : ℕ) (ps : List Target) (os : List Outcome) → AreOutcomes sums hosts ps os → AreOutcomes sums hosts (take k ps) (take k os)
taken-outcomes sums hosts zero ps os are = record { size = refl; each = λ k p o e f. absurd (cc) }
taken-outcomes sums hosts (suc k) [] [] are = record { size = refl; each = λ k p o e f. absurd (cc) }
taken-outcomes sums hosts (suc k) [] (o ∷ os) are = absurd (omega (arith, are.size))
taken-outcomes sums hosts (suc k) (p ∷ ps) [] are = absurd (omega (arith, are.size))
taken-outcomes sums hosts (suc k) (p ∷ ps) (o ∷ os) are =
    cons-outcomes sums hosts p (take k ps) o (take k os) (are.each zero p o refl refl) (taken-outcomes sums hosts k ps os (rest-outcomes sums hosts p ps o os are))

-- where the names of a module are looked up
abbrev pub targets_of : LoadedModule → List Wanted → List Target
targets_of m ws = map (λ w. elsewhere m.requests w.other) ws

targets-taken : (m : LoadedModule) (k : ℕ) (ws : List Wanted) → take k (targets_of m ws) ≡ targets_of m (take k ws)
targets-taken m zero ws = refl
targets-taken m (suc k) [] = refl
targets-taken m (suc k) (w ∷ ws) = ap (λ rest. elsewhere m.requests w.other ∷ rest) (targets-taken m k ws)

-- names whose outcomes are ends are resolved
pub all-resolved : (g : Graph) (hosts : List (List ℕ)) (sums : List Summary) → AreSummaries g.modules sums → AreLegal g.modules → (m : LoadedModule) (ws : List Wanted) (ends : List EndOf)
    → AreOutcomes sums hosts (targets_of m ws) (map EndsAt ends) → AllResolve g hosts m ws ends
all-resolved g hosts sums summed legal m [] [] are = none_wanted
all-resolved g hosts sums summed legal m [] (e ∷ ends) are = absurd (omega (arith, are.size))
all-resolved g hosts sums summed legal m (w ∷ ws) [] are = absurd (omega (arith, are.size))
all-resolved g hosts sums summed legal m (w ∷ ws) (e ∷ ends) are =
    one_wanted (resolution g hosts sums m w.other (EndsAt e) summed legal (are.each zero (elsewhere m.requests w.other) (EndsAt e) refl refl))
    (all-resolved g hosts sums summed legal m ws ends (rest-outcomes sums hosts (elsewhere m.requests w.other) (targets_of m ws) (EndsAt e) (map EndsAt ends) are))

-- a name stands at each outcome
name-there : (sums : List Summary) (hosts : List (List ℕ)) (m : LoadedModule) (ws : List Wanted) (os : List Outcome) → AreOutcomes sums hosts (targets_of m ws) os → (k : ℕ) (o : Outcome) → slice_get os k ≡ Some o
    → (w : Wanted) × (slice_get ws k ≡ Some w)
name-there sums hosts m ws [] are k o there = absurd (cc)
name-there sums hosts m [] (p ∷ os) are k o there = absurd (omega (arith, are.size))
name-there sums hosts m (w ∷ ws) (p ∷ os) are zero o there = (w, refl)
name-there sums hosts m (w ∷ ws) (p ∷ os) are (suc k) o there =
    name-there sums hosts m ws os (rest-outcomes sums hosts (elsewhere m.requests w.other) (targets_of m ws) p os are) k o there

mapped-there : {A B : Type 0} (f : A → B) (xs : List A) (k : ℕ) (x : A) → slice_get xs k ≡ Some x → slice_get (map f xs) k ≡ Some (f x)
mapped-there f [] k x e = absurd (cc)
mapped-there f (y ∷ xs) zero x e = ap (λ z. Some (f z)) (some-same e)
mapped-there f (y ∷ xs) (suc k) x e = mapped-there f xs k x e

-- the first outcome that is no end tells the first name that isn't resolved
pub first-refused : (g : Graph) (hosts : List (List ℕ)) (sums : List Summary) → AreSummaries g.modules sums → AreLegal g.modules → (number : ℕ) (m : LoadedModule) → slice_get g.modules number ≡ Some m
    → (before : List (List EndOf)) → AreLinked g hosts number before → (own : List Outcome) → AreOutcomes sums hosts (targets_of m (wants m.tree)) own
    → (outcome : Outcome) (refused : LoadedModule → Elsewhere → Type 0) → ((other : Elsewhere) → IsResolution g hosts m other outcome → refused m other)
    → (targets : List Target) (offsets : List ℕ) → targets ≡ targets_of m (wants m.tree) → offsets ≡ map (λ w. w.at) (wants m.tree)
    → (path : List ℕ) (place : Place) (name : List ℕ) → IsFirstOf m.lines m.path targets offsets own outcome path place name → IsFirstRefused g hosts refused path place name
first-refused g hosts sums summed legal number m there before linked own are outcome refused means targets offsets targets-are offsets-are path place name first =
    let w = name-there sums hosts m (wants m.tree) own are first.at outcome first.there in
    let target : Target = elsewhere m.requests w.0.other in
    let at-target : slice_get (targets_of m (wants m.tree)) first.at ≡ Some target = mapped-there (λ v. elsewhere m.requests v.other) (wants m.tree) first.at w.0 w.1 in
    let at-offset : slice_get (map (λ v. v.at) (wants m.tree)) first.at ≡ Some w.0.at = mapped-there (λ v. v.at) (wants m.tree) first.at w.0 w.1 in
    let P : List Target → Type 0 = λ ps. AreOutcomes sums hosts ps (map EndsAt first.ends) in
    let Q : List Outcome → Type 0 = λ os. AreOutcomes sums hosts (take first.at (targets_of m (wants m.tree))) os in
    let told : IsTold m.lines m.path w.0.at w.0.other.name path place name
    = first.told target w.0.at (ap (λ ps. slice_get ps first.at) targets-are ∙ at-target) (ap (λ os. slice_get os first.at) offsets-are ∙ at-offset) in
    record {
      number = number;
      m = m;
      there = there;
      before = before;
      linked = linked;
      at = first.at;
      w = w.0;
      wanted = w.1;
      earlier = first.ends;
      resolved = all-resolved g hosts sums summed legal m (take first.at (wants m.tree)) first.ends (subst P (targets-taken m first.at (wants m.tree)) (subst Q first.before (taken-outcomes sums hosts first.at (targets_of m (wants m.tree)) own are)));
      refused = means w.0.other (resolution g hosts sums m w.0.other outcome summed legal (are.each first.at target outcome at-target first.there));
      told = told;
    }
