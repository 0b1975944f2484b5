-- Places of names: when two are the same, and what a hasher sees of one.
use Rattle.std.specs.Prelude.{◌≡◌, ℕ, Bool, true, false, ◌&&◌, nat_eq, List, ◌++◌}
use Rattle.std.specs.Bool.{Decides}
use Rattle.std.specs.Cmp.{IsEquivalence, IsPartialEquivalence, decided, partial_equiv_from_equiv}
use Rattle.std.specs.Cmp.Lexicographic.{pointwise}
use Rattle.std.specs.Hash.{HashWrites, slice, u8, u32}
use Rattle.std.proofs.Common.{true≢false, sym, refl, ap}
use Rattle.std.proofs.lemmas.Bool.Decides.{Decides-and, Decides-eqb, Decides-like}
use Rattle.std.proofs.lemmas.Slice.Eq.{bytes_eq-Decides}
use Rattle.module_endings.specs.declared.place.Home.{Home}
use Rattle.module_endings.specs.declared.place.Home.TheVariants.{Nowhere, OfHosts, Module, Binding}
use Rattle.module_endings.specs.declared.place.Place.{Place}

abbrev pub at_place : Home → List ℕ → Place
at_place home name = record { home = home; name = name }

abbrev pub same_home : Home → Home → Bool
same_home Nowhere Nowhere = true
same_home Nowhere OfHosts = false
same_home Nowhere (Module b) = false
same_home Nowhere (Binding b) = false
same_home OfHosts Nowhere = false
same_home OfHosts OfHosts = true
same_home OfHosts (Module b) = false
same_home OfHosts (Binding b) = false
same_home (Module a) Nowhere = false
same_home (Module a) OfHosts = false
same_home (Module a) (Module b) = nat_eq a b
same_home (Module a) (Binding b) = false
same_home (Binding a) Nowhere = false
same_home (Binding a) OfHosts = false
same_home (Binding a) (Module b) = false
same_home (Binding a) (Binding b) = nat_eq a b

abbrev pub home_number : Home → ℕ
home_number Nowhere = 0
home_number OfHosts = 0
home_number (Module a) = a
home_number (Binding a) = a

abbrev pub same_place : Place → Place → Bool
same_place p q = same_home p.home q.home && pointwise nat_eq p.name q.name

same_home-Decides : (a b : Home) → Decides (same_home a b) (a ≡ b)
same_home-Decides Nowhere Nowhere = (λ e. refl, λ e. refl)
same_home-Decides Nowhere OfHosts = (λ e. absurd (true≢false (sym e)), λ e. absurd (cc))
same_home-Decides Nowhere (Module b) = (λ e. absurd (true≢false (sym e)), λ e. absurd (cc))
same_home-Decides Nowhere (Binding b) = (λ e. absurd (true≢false (sym e)), λ e. absurd (cc))
same_home-Decides OfHosts Nowhere = (λ e. absurd (true≢false (sym e)), λ e. absurd (cc))
same_home-Decides OfHosts OfHosts = (λ e. refl, λ e. refl)
same_home-Decides OfHosts (Module b) = (λ e. absurd (true≢false (sym e)), λ e. absurd (cc))
same_home-Decides OfHosts (Binding b) = (λ e. absurd (true≢false (sym e)), λ e. absurd (cc))
same_home-Decides (Module a) Nowhere = (λ e. absurd (true≢false (sym e)), λ e. absurd (cc))
same_home-Decides (Module a) OfHosts = (λ e. absurd (true≢false (sym e)), λ e. absurd (cc))
same_home-Decides (Module a) (Module b) = (λ e. ap Module ((Decides-eqb a b).0 e), λ e. (Decides-eqb a b).1 (cc))
same_home-Decides (Module a) (Binding b) = (λ e. absurd (true≢false (sym e)), λ e. absurd (cc))
same_home-Decides (Binding a) Nowhere = (λ e. absurd (true≢false (sym e)), λ e. absurd (cc))
same_home-Decides (Binding a) OfHosts = (λ e. absurd (true≢false (sym e)), λ e. absurd (cc))
same_home-Decides (Binding a) (Module b) = (λ e. absurd (true≢false (sym e)), λ e. absurd (cc))
same_home-Decides (Binding a) (Binding b) = (λ e. ap Binding ((Decides-eqb a b).0 e), λ e. (Decides-eqb a b).1 (cc))

same_parts : (p q : Place) → (p.home ≡ q.home) × (p.name ≡ q.name) → p ≡ q
same_parts p q h = λ j. record { home = h.0 j; name = h.1 j }

pub same_place-Decides : (p q : Place) → Decides (same_place p q) (p ≡ q)
same_place-Decides p q =
    Decides-like (same_place p q) (same_parts p q) (λ e. (ap (λ x. x.home) e, ap (λ x. x.name) e))
    (Decides-and (same_home p.home q.home) (pointwise nat_eq p.name q.name) (same_home-Decides p.home q.home) (bytes_eq-Decides p.name q.name))

pub same_place-equivalence : IsEquivalence same_place
same_place-equivalence = decided same_place same_place-Decides

pub same_place-laws : IsPartialEquivalence same_place
same_place-laws = partial_equiv_from_equiv same_place-equivalence

abbrev pub place_input : Place → HashWrites
place_input p = u32 (home_number p.home) ++ slice u8 p.name

pub place_input-respects : (p q : Place) → same_place p q ≡ true → place_input p ≡ place_input q
place_input-respects p q e = ap place_input ((same_place-Decides p q).0 e)
