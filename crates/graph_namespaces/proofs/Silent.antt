-- Summaries that export nothing change no end.
use Rattle.std.proofs.Common.{◌≡◌, ℕ, zero, suc, ◌⊎◌, Bool, true, false, cond, List, [], ◌∷◌, ◌++◌, map, Option, Some, None, refl, sym, ap, ◌∙◌, inl, inr}
use Rattle.std.specs.Prelude.{slice_get, codes}
use Rattle.std.specs.Str.{bytes_eq}
use Rattle.es6_ast.specs.declared.graph.EndOf.{EndOf}
use Rattle.module_endings.specs.declared.answers.Outcome.{Outcome}
use Rattle.module_endings.specs.declared.answers.Outcome.TheVariants.{Unresolved, Ambiguous, Ends as EndsAt}
use Rattle.module_endings.specs.declared.place.Home.{Home}
use Rattle.module_endings.specs.declared.place.Home.TheVariants.{Nowhere, OfHosts, Module, Binding}
use Rattle.module_endings.specs.declared.place.Place.{Place}
use Rattle.module_endings.specs.declared.summary.Summary.{Summary}
use Rattle.module_endings.specs.Ends.{Ends, here, along, IsOutcome, first_source, module_nexts, nexts, nexts_from, nexts_in}
use Rattle.module_endings.specs.Places.{at_place}
use Rattle.module_endings.proofs.Gets.{contains-same}

abbrev pub AreSilent : List Summary → Type 0
AreSilent asked = (i : ℕ) (s : Summary) → slice_get asked i ≡ Some s → (s.exports ≡ []) × (s.stars ≡ [])

nothing : (b : Bool) (ps : List Place) → ps ≡ [] → cond b [] ps ≡ []
nothing true ps e = refl
nothing false ps e = e

silent-nexts : (s : Summary) (name : List ℕ) → s.exports ≡ [] → s.stars ≡ [] → nexts_in (Some s) name ≡ []
silent-nexts s name no_exports no_stars =
    ap (λ es. module_nexts s name (first_source es name)) no_exports
    ∙ nothing (bytes_eq name (codes "default")) (map (λ home. at_place home name) s.stars) (ap (λ hs. map (λ home. at_place home name) hs) no_stars)

-- what stands at an index of two rows
get-either : {A : Type 0} (xs ys : List A) (i : ℕ) → (slice_get (xs ++ ys) i ≡ slice_get xs i) ⊎ ((slice_get xs i ≡ None) × ((j : ℕ) × (slice_get (xs ++ ys) i ≡ slice_get ys j)))
get-either [] ys i = inr (refl, (i, refl))
get-either (x ∷ xs) ys zero = inl refl
get-either (x ∷ xs) ys (suc i) = get-either xs ys i

more-nexts : (known asked : List Summary) → AreSilent asked → (home : Home) (name : List ℕ) → nexts_from (known ++ asked) home name ≡ nexts_from known home name
more-nexts known asked silent Nowhere name = refl
more-nexts known asked silent OfHosts name = refl
more-nexts known asked silent (Binding i) name = refl
more-nexts known asked silent (Module i) name = elim (get-either known asked i) [
  | inl same ↦ ap (λ o. nexts_in o name) same
  | inr added ↦ ap (λ o. nexts_in o name) added.1.1 ∙ by added.1.0 (slice_get asked added.1.0) refl ∙ ap (λ o. nexts_in o name) (sym added.0)
]
  where
    by : (j : ℕ) (o : Option Summary) → slice_get asked j ≡ o → nexts_in (slice_get asked j) name ≡ []
    by j None e = ap (λ o. nexts_in o name) e
    by j (Some s) e = ap (λ o. nexts_in o name) e ∙ silent-nexts s name (silent j s e).0 (silent j s e).1

ends-fewer : (known asked : List Summary) → AreSilent asked → (hosts : List (List ℕ)) {p : Place} {end : EndOf} → Ends (known ++ asked) hosts p end → Ends known hosts p end
ends-fewer known asked silent hosts (here is) = here is
ends-fewer known asked silent hosts (along {p = p} next c rest) =
    along next (contains-same (nexts (known ++ asked) p) (nexts known p) next (more-nexts known asked silent p.home p.name) c) (ends-fewer known asked silent hosts rest)

ends-more : (known asked : List Summary) → AreSilent asked → (hosts : List (List ℕ)) {p : Place} {end : EndOf} → Ends known hosts p end → Ends (known ++ asked) hosts p end
ends-more known asked silent hosts (here is) = here is
ends-more known asked silent hosts (along {p = p} next c rest) =
    along next (contains-same (nexts known p) (nexts (known ++ asked) p) next (sym (more-nexts known asked silent p.home p.name)) c) (ends-more known asked silent hosts rest)

-- what is answered with such summaries is so without them
pub outcome-fewer : (known asked : List Summary) → AreSilent asked → (hosts : List (List ℕ)) (p : Place) (o : Outcome) → IsOutcome (known ++ asked) hosts p o → IsOutcome known hosts p o
outcome-fewer known asked silent hosts p Unresolved is = λ end e. is end (ends-more known asked silent hosts e)
outcome-fewer known asked silent hosts p Ambiguous is = (is.0, is.1, (ends-fewer known asked silent hosts is.2.0, ends-fewer known asked silent hosts is.2.1, is.2.2))
outcome-fewer known asked silent hosts p (EndsAt end) is = (ends-fewer known asked silent hosts is.0, λ other e. is.1 other (ends-more known asked silent hosts e))
