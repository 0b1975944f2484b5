-- The ends over summaries are those of the graph.
use Rattle.std.proofs.Common.{◌≡◌, ℕ, zero, suc, ◌<◌, false, cond, List, [], ◌∷◌, length, map, Option, Some, None, refl, sym, ap, ◌∙◌, subst, inl, inr, arith}
use Rattle.std.specs.Prelude.{slice_get, codes}
use Rattle.std.specs.List.{Contains}
use Rattle.std.specs.Str.{bytes_eq}
use Rattle.std.proofs.lemmas.Bool.{cases_Bool}
use Rattle.std.proofs.lemmas.Option.{slice_get-map, slice_get_within}
use Rattle.es6_ast.specs.declared.graph.EndOf.{EndOf}
use Rattle.es6_ast.specs.declared.graph.EndOf.TheVariants.{Local, Host}
use Rattle.es6_ast.specs.declared.graph.Graph.{Graph}
use Rattle.es6_ast.specs.declared.graph.LoadedModule.{LoadedModule}
use Rattle.es6_static_semantics.specs.Endings as endings
use Rattle.es6_static_semantics.specs.Endings.{Elsewhere, ExportEntry, Source, OwnBinding, OtherName, EndsElsewhere, in_module, in_host, at_binding, at_other_name, by_star, exports, is_exported, own_entry, requested, stars, Resolves, IsAmbiguous, IsUnresolved}
use Rattle.module_endings.specs.declared.answers.Outcome.{Outcome}
use Rattle.module_endings.specs.declared.answers.Outcome.TheVariants.{Unresolved, Ambiguous, Ends as EndsAt}
use Rattle.module_endings.specs.declared.place.Home.{Home}
use Rattle.module_endings.specs.declared.place.Home.TheVariants.{Nowhere, OfHosts, Module, Binding}
use Rattle.module_endings.specs.declared.place.Place.{Place}
use Rattle.module_endings.specs.declared.summary.Summary.{Summary}
use Rattle.module_endings.specs.Ends.{Ends, here, along, IsEndingFrom, IsOutcome, first_source, module_nexts, nexts, nexts_from, nexts_in}
use Rattle.module_endings.specs.Places.{at_place}
use Rattle.module_endings.proofs.Gets.{contains-get, contains-one, contains-same, get-contains, one-contained, one-there, some-same, none-contained}
use Rattle.module_resolution.specs.Summaries.{AreLegal, AreSummaries, IsResolution, elsewhere, export_of, home_of, requested_home, source_place, summary_of}
use Rattle.module_resolution.proofs.Names.{exported-none, first-source, none-exported, source-entry}

-- a graph with the summaries of its modules
pub record IsSummed (g : Graph) (sums : List Summary) : Type 0 where
  pub summaries : AreSummaries g.modules sums
  pub legal : AreLegal g.modules

get-some : {A : Type 0} (xs : List A) (i : ℕ) → i < length xs → (x : A) × (slice_get xs i ≡ Some x)
get-some [] i h = absurd (omega arith)
get-some (x ∷ xs) zero h = (x, refl)
get-some (x ∷ xs) (suc i) h = get-some xs i (omega arith)

contains-map : {A B : Type 0} (f : A → B) (xs : List A) (x : A) → Contains xs x → Contains (map f xs) (f x)
contains-map f xs x c = let at = get-contains xs x c in contains-get (map f xs) at.0 (f x) (slice_get-map f xs at.0 ∙ ap (λ o. mapped f o) at.1)
  where
    mapped : {A B : Type 0} → (A → B) → Option A → Option B
    mapped f None = None
    mapped f (Some y) = Some (f y)

map-get : {A B : Type 0} (f : A → B) (xs : List A) (k : ℕ) (y : B) → slice_get (map f xs) k ≡ Some y → (x : A) × (slice_get xs k ≡ Some x) × (f x ≡ y)
map-get f [] k y e = absurd (cc)
map-get f (x ∷ xs) zero y e = (x, refl, some-same e)
map-get f (x ∷ xs) (suc k) y e = map-get f xs k y e

map-contains : {A B : Type 0} (f : A → B) (xs : List A) (y : B) → Contains (map f xs) y → (x : A) × Contains xs x × (f x ≡ y)
map-contains f xs y c =
    let at = get-contains (map f xs) y c in
    let x = map-get f xs at.0 y at.1 in
    (x.0, contains-get xs at.0 x.0 x.1, x.2)

module-nexts : (g : Graph) (sums : List Summary) → IsSummed g sums → (i : ℕ) (m : LoadedModule) (name : List ℕ) → slice_get g.modules i ≡ Some m
    → nexts sums (at_place (Module i) name) ≡ module_nexts (summary_of i m) name (first_source (map (export_of i m.requests) (exports m.tree)) name)
module-nexts g sums summed i m name there = ap (λ o. nexts_in o name) (summed.summaries.each i m there)

-- one goes on from an exported name to its source
own-next : (g : Graph) (sums : List Summary) → IsSummed g sums → (i : ℕ) (m : LoadedModule) (e : ExportEntry) → slice_get g.modules i ≡ Some m → Contains (exports m.tree) e
    → Contains (nexts sums (at_place (Module i) e.name)) (source_place i m.requests e.source)
own-next g sums summed i m e there c =
    let p : Place = source_place i m.requests e.source in
    let is : nexts sums (at_place (Module i) e.name) ≡ p ∷ [] = module-nexts g sums summed i m e.name there
    ∙ ap (λ o. module_nexts (summary_of i m) e.name o) (first-source i m.requests m.tree (summed.legal i m there) e c) in
    contains-same (p ∷ []) (nexts sums (at_place (Module i) e.name)) p (sym is) (contains-one p p refl)

-- and from a name that is not exported to the stars
star-next : (g : Graph) (sums : List Summary) → IsSummed g sums → (i : ℕ) (m : LoadedModule) (name from : List ℕ) → slice_get g.modules i ≡ Some m → bytes_eq name (codes "default") ≡ false
    → is_exported m.tree name ≡ false → Contains (stars m.tree) from → Contains (nexts sums (at_place (Module i) name)) (elsewhere m.requests (record { from = from; name = name }))
star-next g sums summed i m name from there no_default hidden c =
    let homes : List Home = map (requested_home m.requests) (stars m.tree) in
    let ps : List Place = map (λ home. at_place home name) homes in
    let is : nexts sums (at_place (Module i) name) ≡ ps = module-nexts g sums summed i m name there
    ∙ ap (λ o. module_nexts (summary_of i m) name o) (exported-none i m.requests (exports m.tree) name hidden)
    ∙ ap (λ b. cond b [] ps) no_default in
    contains-same ps (nexts sums (at_place (Module i) name)) (at_place (requested_home m.requests from) name) (sym is)
    (contains-map (λ home. at_place home name) homes (requested_home m.requests from) (contains-map (requested_home m.requests) (stars m.tree) from c))

-- from the graph to the summaries
mutual
  to-places : (g : Graph) (hosts : List (List ℕ)) (sums : List Summary) → IsSummed g sums → {i : ℕ} {name : List ℕ} {end : EndOf} → endings.Ends g hosts i name end → Ends sums hosts (at_place (Module i) name) end
  to-places g hosts sums summed {i = i} {name = name} {end = end} (at_binding m binding end2 there c e) =
      along (at_place (Binding i) binding) (own-next g sums summed i m (own_entry name binding) there c) (here e)
  to-places g hosts sums summed {i = i} {name = name} {end = end} (at_other_name m other end2 there c rest) =
      along (elsewhere m.requests other) (own-next g sums summed i m (record { name = name; source = OtherName other }) there c) (to-elsewhere g hosts sums summed rest)
  to-places g hosts sums summed {i = i} {name = name} {end = end} (by_star m from end2 there no_default hidden c rest) =
      along (elsewhere m.requests (record { from = from; name = name })) (star-next g sums summed i m name from there no_default hidden c) (to-elsewhere g hosts sums summed rest)

  to-elsewhere : (g : Graph) (hosts : List (List ℕ)) (sums : List Summary) → IsSummed g sums → {m : LoadedModule} {other : Elsewhere} {end : EndOf} → EndsElsewhere g hosts m other end → Ends sums hosts (elsewhere m.requests other) end
  to-elsewhere g hosts sums summed {m = m} {other = other} {end = end} (in_module i end2 e rest) =
      let P : Home → Type 0 = λ home. Ends sums hosts (at_place home other.name) end in
      subst P (ap home_of (sym e)) (to-places g hosts sums summed rest)
  to-elsewhere g hosts sums summed {m = m} {other = other} {end = end} (in_host i end2 e there is) =
      let P : Home → Type 0 = λ home. Ends sums hosts (at_place home other.name) end in
      subst P (ap home_of (sym e)) (here (i, there, is))

-- what an end over the summaries is in the graph, by the home of its place
abbrev pub IsBack : Graph → List (List ℕ) → Home → List ℕ → EndOf → Type 0
IsBack g hosts Nowhere name end = ⊥
IsBack g hosts OfHosts name end = (k : ℕ) × (slice_get hosts k ≡ Some name) × (end ≡ Host k)
IsBack g hosts (Module i) name end = endings.Ends g hosts i name end
IsBack g hosts (Binding i) name end = end ≡ Local i name

back-here : (g : Graph) (hosts : List (List ℕ)) (home : Home) (name : List ℕ) (end : EndOf) → IsEndingFrom hosts home name end → IsBack g hosts home name end
back-here g hosts Nowhere name end h = absurd h
back-here g hosts OfHosts name end h = h
back-here g hosts (Module i) name end h = absurd h
back-here g hosts (Binding i) name end h = h

-- an end of a name elsewhere
back-elsewhere : (g : Graph) (hosts : List (List ℕ)) (m : LoadedModule) (other : Elsewhere) (end : EndOf) (r : Option (Option ℕ)) → requested m.requests other.from ≡ r → IsBack g hosts (home_of r) other.name end
    → EndsElsewhere g hosts m other end
back-elsewhere g hosts m other end None e h = absurd h
back-elsewhere g hosts m other end (Some None) e h = in_host h.0 end e h.1 h.2
back-elsewhere g hosts m other end (Some (Some i)) e h = in_module i end e h

-- an end of an entry's source
back-source : (g : Graph) (hosts : List (List ℕ)) (i : ℕ) (m : LoadedModule) (name : List ℕ) (end : EndOf) (source : Source) → slice_get g.modules i ≡ Some m → Contains (exports m.tree) (record { name = name; source = source })
    → IsBack g hosts (source_place i m.requests source).home (source_place i m.requests source).name end → endings.Ends g hosts i name end
back-source g hosts i m name end (OwnBinding binding) there c h = at_binding m binding end there c h
back-source g hosts i m name end (OtherName other) there c h = at_other_name m other end there c (back-elsewhere g hosts m other end (requested m.requests other.from) refl h)

back-module : (g : Graph) (hosts : List (List ℕ)) (i : ℕ) (m : LoadedModule) (name : List ℕ) (next : Place) (end : EndOf) → slice_get g.modules i ≡ Some m
    → (o : Option Place) → first_source (map (export_of i m.requests) (exports m.tree)) name ≡ o → Contains (module_nexts (summary_of i m) name o) next
    → IsBack g hosts next.home next.name end → endings.Ends g hosts i name end
back-module g hosts i m name next end there (Some source) found c h =
    let entry = source-entry i m.requests (exports m.tree) name source found in
    let same : source_place i m.requests entry.0.source ≡ next = entry.3 ∙ one-contained source next c in
    let P : Place → Type 0 = λ p. IsBack g hosts p.home p.name end in
    let Q : List ℕ → Type 0 = λ n. endings.Ends g hosts i n end in
    subst Q entry.2 (back-source g hosts i m entry.0.name end entry.0.source there entry.1 (subst P (sym same) h))
back-module g hosts i m name next end there None found c h = elim (cases_Bool (bytes_eq name (codes "default"))) [
  | inl hit ↦ absurd (none-contained next (contains-same (cond (bytes_eq name (codes "default")) [] ps) [] next (ap (λ b. cond b [] ps) hit) c))
  | inr miss ↦ star miss (map-contains (λ home. at_place home name) homes next (contains-same (cond (bytes_eq name (codes "default")) [] ps) ps next (ap (λ b. cond b [] ps) miss) c))
]
  where
    homes : List Home
    homes = map (requested_home m.requests) (stars m.tree)

    ps : List Place
    ps = map (λ home. at_place home name) homes

    star : bytes_eq name (codes "default") ≡ false → (home : Home) × Contains homes home × (at_place home name ≡ next) → endings.Ends g hosts i name end
    star miss at =
        let from = map-contains (requested_home m.requests) (stars m.tree) at.0 at.1 in
        let P : Place → Type 0 = λ p. IsBack g hosts p.home p.name end in
        let Q : Home → Type 0 = λ home. IsBack g hosts home name end in
        by_star m from.0 end there miss (none-exported i m.requests (exports m.tree) name found) from.1
        (back-elsewhere g hosts m (record { from = from.0; name = name }) end (requested m.requests from.0) refl (subst Q (sym from.2) (subst P (sym at.2) h)))

back : (g : Graph) (hosts : List (List ℕ)) (sums : List Summary) → IsSummed g sums → {p : Place} {end : EndOf} → Ends sums hosts p end → IsBack g hosts p.home p.name end
back g hosts sums summed (here {p = p} {end = end} is) = back-here g hosts p.home p.name end is
back g hosts sums summed (along {p = p} {end = end} next c rest) = by p.home p.name c (back g hosts sums summed rest)
  where
    by : (home : Home) (name : List ℕ) → Contains (nexts_from sums home name) next → IsBack g hosts next.home next.name end → IsBack g hosts home name end
    by Nowhere name c h = absurd (none-contained next c)
    by OfHosts name c h = absurd (none-contained next c)
    by (Binding i) name c h = absurd (none-contained next c)
    by (Module i) name c h = in_sums (slice_get sums i) refl c
      where
        in_sums : (o : Option Summary) → slice_get sums i ≡ o → Contains (nexts_in o name) next → endings.Ends g hosts i name end
        in_sums None e d = absurd (none-contained next d)
        in_sums (Some s) e d =
            let inside : i < length g.modules = omega (arith, slice_get_within sums i s e, summed.summaries.size) in
            let m = get-some g.modules i inside in
            let same : s ≡ summary_of i m.0 = one-there sums i s (summary_of i m.0) e (summed.summaries.each i m.0 m.1) in
            let P : Summary → Type 0 = λ z. Contains (module_nexts z name (first_source z.exports name)) next in
            back-module g hosts i m.0 name next end m.1 (first_source (map (export_of i m.0.requests) (exports m.0.tree)) name) refl (subst P same d) h

pub resolution : (g : Graph) (hosts : List (List ℕ)) (sums : List Summary) (m : LoadedModule) (other : Elsewhere) (o : Outcome) → AreSummaries g.modules sums → AreLegal g.modules
    → IsOutcome sums hosts (elsewhere m.requests other) o → IsResolution g hosts m other o
resolution g hosts sums m other Unresolved summaries legal h =
    let summed : IsSummed g sums = record { summaries = summaries; legal = legal } in
    λ end e. h end (to-elsewhere g hosts sums summed e)
resolution g hosts sums m other Ambiguous summaries legal h =
    let summed : IsSummed g sums = record { summaries = summaries; legal = legal } in
    record {
      one = h.0;
      another = h.1;
      one_ends = back-elsewhere g hosts m other h.0 (requested m.requests other.from) refl (back g hosts sums summed h.2.0);
      another_ends = back-elsewhere g hosts m other h.1 (requested m.requests other.from) refl (back g hosts sums summed h.2.1);
      differ = h.2.2;
    }
resolution g hosts sums m other (EndsAt end) summaries legal h =
    let summed : IsSummed g sums = record { summaries = summaries; legal = legal } in
    record {
      ends = back-elsewhere g hosts m other end (requested m.requests other.from) refl (back g hosts sums summed h.0);
      alone = λ e k. h.1 e (to-elsewhere g hosts sums summed k);
    }
