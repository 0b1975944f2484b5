-- From what is answered for the names that are asked of modules to their namespaces.
use Rattle.std.proofs.Common.{◌≡◌, ℕ, zero, suc, ◌+◌, ◌<◌, List, [], ◌∷◌, ◌++◌, length, map, Option, Some, None, refl, sym, ap, ◌∙◌, subst, arith, length-append}
use Rattle.std.specs.Prelude.{slice_get, slice_index_or}
use Rattle.std.specs.List.{Contains}
use Rattle.std.proofs.lemmas.List.Elements.{Contains-get_or}
use Rattle.std.proofs.lemmas.Option.{slice_get-map, slice_get_within}
use Rattle.es6_ast.specs.declared.graph.EndOf.{EndOf}
use Rattle.es6_ast.specs.declared.graph.EndOf.TheVariants.{Local, Host}
use Rattle.es6_ast.specs.declared.graph.Graph.{Graph}
use Rattle.es6_ast.specs.declared.graph.LoadedModule.{LoadedModule}
use Rattle.es6_static_semantics.specs.Endings.{Elsewhere, Ends, EndsElsewhere, at_binding, at_other_name, by_star, in_module, in_host, OtherName, Resolves, IsAmbiguous, exports, own_entry, requested, stars}
use Rattle.es6_static_semantics.specs.Graphs.{IsLinked}
use Rattle.module_endings.specs.declared.answers.Outcome.{Outcome}
use Rattle.module_endings.specs.declared.answers.Outcome.TheVariants.{Unresolved, Ambiguous, Ends as EndsAt}
use Rattle.module_endings.specs.declared.place.Home.TheVariants.{Module}
use Rattle.module_endings.specs.declared.place.Place.{Place}
use Rattle.module_endings.specs.declared.summary.Summary.{Summary}
use Rattle.module_endings.specs.Ends.{IsOutcome}
use Rattle.module_endings.specs.Places.{at_place}
use Rattle.module_endings.proofs.Gets.{contains-get, get-contains, some-same}
use Rattle.module_links.proofs.Alike.{are-legal}
use Rattle.module_lowering.specs.declared.meaning.Entry.{Entry}
use Rattle.module_lowering.specs.declared.meaning.NamespaceEntries.{NamespaceEntries}
use Rattle.module_lowering.specs.Namespaces.{AreEntries, AreNamespaces, no_module, one_module, EndsAlone}
use Rattle.module_resolution.specs.Summaries.{AreLegal, AreSummaries, export_of, home_of, requested_home, summary_of}
use Rattle.module_resolution.proofs.Laws.{resolution}
use Rattle.graph_namespaces.specs.Asked.{AskAll, Asks, IsAsk}
use Rattle.graph_namespaces.specs.Entries.{AreSharedOut, IsFrom, IsShared}
use Rattle.graph_namespaces.proofs.Silent.{AreSilent, outcome-fewer}

get-some : {A : Type 0} (xs : List A) (i : ℕ) → i < length xs → (x : A) × (slice_get xs i ≡ Some x)
get-some [] i h = absurd (omega arith)
get-some (x ∷ xs) zero h = (x, refl)
get-some (x ∷ xs) (suc i) h = get-some xs i (omega arith)

get-right : {A : Type 0} (xs ys : List A) (n i : ℕ) → n ≡ length xs + i → slice_get (xs ++ ys) n ≡ slice_get ys i
get-right [] ys n i e = let same : n ≡ i = omega (arith, e) in ap (slice_get ys) same
get-right (x ∷ xs) ys zero i e = absurd (omega (arith, e))
get-right (x ∷ xs) ys (suc n) i e = get-right xs ys n i (omega (arith, e))

contains-map : {A B : Type 0} (f : A → B) (xs : List A) (x : A) → Contains xs x → Contains (map f xs) (f x)
contains-map f xs x c = let at = get-contains xs x c in contains-get (map f xs) at.0 (f x) (slice_get-map f xs at.0 ∙ ap (λ o. mapped f o) at.1)
  where
    mapped : {A B : Type 0} → (A → B) → Option A → Option B
    mapped f None = None
    mapped f (Some y) = Some (f y)

-- a name of the module with a number is that of a module that requests it
abbrev asking : LoadedModule → ℕ → LoadedModule
asking m n = record m { requests = record { at = 0; specifier = []; «module» = Some n } ∷ [] }

abbrev own : List ℕ → Elsewhere
own name = record { from = []; name = name }

to-own : (g : Graph) (hosts : List (List ℕ)) (n : ℕ) {m : LoadedModule} {other : Elsewhere} {end : EndOf} → requested m.requests other.from ≡ Some (Some n) → EndsElsewhere g hosts m other end → Ends g hosts n other.name end
to-own g hosts n {m = m} {other = other} {end = end} is (in_module i end2 e rest) =
    let same : n ≡ i = some-same (some-same (sym is ∙ e)) in
    let P : ℕ → Type 0 = λ k. Ends g hosts k other.name end in
    subst P (sym same) rest
to-own g hosts n {m = m} {other = other} {end = end} is (in_host i end2 e there same) = let bad : Some n ≡ None = some-same (sym is ∙ e) in absurd (cc)

module _ (g : Graph) (hosts : List (List ℕ)) (known : List Summary) (summaries : AreSummaries g.modules known) (legal : AreLegal g.modules) where
  -- an end that is answered is the only one
  alone-of : (m : LoadedModule) (n : ℕ) (name : List ℕ) (end : EndOf) → IsOutcome known hosts (at_place (Module n) name) (EndsAt end) → EndsAlone g hosts n name end
  alone-of m n name end is =
      let r : Resolves g hosts (asking m n) (own name) end = resolution g hosts known (asking m n) (own name) (EndsAt end) summaries legal is in
      record { ends = to-own g hosts n refl r.ends; alone = λ other e. r.alone other (in_module n other refl e) }

  -- and where there is only one, it is answered
  the-one : (m : LoadedModule) (n : ℕ) (name : List ℕ) (end : EndOf) → EndsAlone g hosts n name end → (o : Outcome) → IsOutcome known hosts (at_place (Module n) name) o → o ≡ EndsAt end
  the-one m n name end alone Unresolved is = absurd (resolution g hosts known (asking m n) (own name) Unresolved summaries legal is end (in_module n end refl alone.ends))
  the-one m n name end alone Ambiguous is =
      let r : IsAmbiguous g hosts (asking m n) (own name) = resolution g hosts known (asking m n) (own name) Ambiguous summaries legal is in
      absurd (r.differ (alone.alone r.one (to-own g hosts n refl r.one_ends) ∙ sym (alone.alone r.another (to-own g hosts n refl r.another_ends))))
  the-one m n name end alone (EndsAt e) is =
      let r : Resolves g hosts (asking m n) (own name) e = resolution g hosts known (asking m n) (own name) (EndsAt e) summaries legal is in
      ap EndsAt (sym (r.alone end (in_module n end refl alone.ends)))

  module _ (n : ℕ) (ps : List Place) (asks : Asks known n ps) (home : ℕ) (local : List ℕ) where
    -- each name that ends at a binding of a module is asked
    mutual
      asked-name : {i : ℕ} {name : List ℕ} {end : EndOf} → Ends g hosts i name end → Contains asks.keys i → end ≡ Local home local → Contains ps (at_place (Module n) name)
      asked-name {i = i} {name = name} {end = end} (at_binding m binding end2 there c e) reached is =
          asks.exports i (summary_of i m) (export_of i m.requests (own_entry name binding)) reached (summaries.each i m there) (contains-map (export_of i m.requests) (exports m.tree) (own_entry name binding) c)
      asked-name {i = i} {name = name} {end = end} (at_other_name m other end2 there c rest) reached is =
          asks.exports i (summary_of i m) (export_of i m.requests (record { name = name; source = OtherName other })) reached (summaries.each i m there)
          (contains-map (export_of i m.requests) (exports m.tree) (record { name = name; source = OtherName other }) c)
      asked-name {i = i} {name = name} {end = end} (by_star m from end2 there no_default hidden c rest) reached is =
          asked-elsewhere rest
          (λ j e. asks.stars i j (summary_of i m) reached (summaries.each i m there)
          (subst (Contains (map (requested_home m.requests) (stars m.tree))) (ap home_of e) (contains-map (requested_home m.requests) (stars m.tree) from c)))
          is

      asked-elsewhere : {m : LoadedModule} {other : Elsewhere} {end : EndOf} → EndsElsewhere g hosts m other end → ((j : ℕ) → requested m.requests other.from ≡ Some (Some j) → Contains asks.keys j) → end ≡ Local home local
          → Contains ps (at_place (Module n) other.name)
      asked-elsewhere {m = m} {other = other} {end = end} (in_module j end2 e rest) reached is = asked-name rest (reached j e) is
      asked-elsewhere {m = m} {other = other} {end = end} (in_host k end2 e there same) reached is = let bad : Host k ≡ Local home local = sym same ∙ is in absurd (cc)

  module _ (asked : List Summary) (silent : AreSilent asked) (n : ℕ) (m : LoadedModule) (s : Summary) (ask : IsAsk known n s) (es : List Entry) (shared : IsShared (known ++ asked) hosts s.wants es) where
    ends-of : (e : Entry) → Contains es e → EndsAlone g hosts n e.name (Local e.home e.local)
    ends-of e c =
        let from : IsFrom s.wants shared.outcomes e = shared.picked.from e c in
        let home : from.place.home ≡ Module n = ask.asks.homes from.place (contains-get s.wants from.at from.place from.asked) in
        let place : from.place ≡ at_place (Module n) e.name = (λ i. record { home = home i; name = from.named i }) in
        let end : EndOf = Local e.home e.local in
        let is : IsOutcome known hosts from.place (EndsAt end) = outcome-fewer known asked silent hosts from.place (EndsAt end) (shared.are.each from.at from.place (EndsAt end) from.asked from.answered) in
        alone-of m n e.name end (subst (λ p. IsOutcome known hosts p (EndsAt end)) place is)

    all-of : (name : List ℕ) (home : ℕ) (local : List ℕ) → EndsAlone g hosts n name (Local home local) → Contains (map (λ e. e.name) es) name
    all-of name home local alone =
        let p : Place = at_place (Module n) name in
        let at = get-contains s.wants p (asked-name n s.wants ask.asks home local alone.ends ask.asks.first refl) in
        let inside : at.0 < length shared.outcomes = omega (arith, slice_get_within s.wants at.0 p at.1, shared.are.size) in
        let o = get-some shared.outcomes at.0 inside in
        let is : o.0 ≡ EndsAt (Local home local) = the-one m n name (Local home local) alone o.0 (outcome-fewer known asked silent hosts p o.0 (shared.are.each at.0 p o.0 at.1 o.1)) in
        shared.picked.all at.0 p home local at.1 (o.1 ∙ ap (λ z. Some z) is)

    entries-of : AreEntries g hosts n es
    entries-of = record {
      ordered = shared.picked.ordered;
      ends = λ k d inside. ends-of (slice_index_or es k d) (Contains-get_or es k d inside);
      all = all-of;
    }

namespaces-from : (g : Graph) (hosts : List (List ℕ)) (n : ℕ) (ms : List LoadedModule) (all : List NamespaceEntries) → length all ≡ length ms → ((k : ℕ) (e : NamespaceEntries) → slice_get all k ≡ Some e → AreEntries g hosts (n + k) e.entries)
    → AreNamespaces g hosts n ms all
namespaces-from g hosts n [] [] size each = no_module
namespaces-from g hosts n [] (e ∷ all) size each = absurd (omega (arith, size))
namespaces-from g hosts n (m ∷ ms) [] size each = absurd (omega (arith, size))
namespaces-from g hosts n (m ∷ ms) (e ∷ all) size each =
    let here : n + 0 ≡ n = omega arith in
    let next : (k : ℕ) → n + suc k ≡ n + 1 + k = λ k. omega arith in
    one_module (subst (λ i. AreEntries g hosts i e.entries) here (each 0 e refl))
    (namespaces-from g hosts (n + 1) ms all (omega (arith, size)) (λ k f at. subst (λ i. AreEntries g hosts i f.entries) (next k) (each (suc k) f at)))

pub namespaces : (g : Graph) (hosts : List (List ℕ)) (known asked : List Summary) (all : List NamespaceEntries) → IsLinked g hosts → AreSummaries g.modules known → AskAll known asked
    → AreSharedOut (known ++ asked) hosts (length known) (known ++ asked) all → AreNamespaces g hosts 0 g.modules all
namespaces g hosts known asked all linked summaries asks out =
    let both : length (known ++ asked) ≡ length known + length asked = length-append known asked in
    let size : length all ≡ length g.modules = omega (arith, both, out.size, asks.size, summaries.size) in
    let legal : AreLegal g.modules = are-legal (length g.modules) linked.sound.loaded in
    let silent : AreSilent asked = λ i s there. ((asks.each i s there).no_exports, (asks.each i s there).no_stars) in
    namespaces-from g hosts 0 g.modules all size (λ k e at. (
    let inside : k < length all = slice_get_within all k e at in
    let s = get-some asked k (omega (arith, size, asks.size, summaries.size)) in
    let m = get-some g.modules k (omega (arith, size)) in
    let is : k ≡ 0 + k = omega arith in
    subst (λ n. AreEntries g hosts n e.entries) is
    (entries-of g hosts known summaries legal asked silent k m.0 s.0 (asks.each k s.0 s.1) e.entries (out.each k s.0 e (get-right known asked (length known + k) k refl ∙ s.1) at))))
