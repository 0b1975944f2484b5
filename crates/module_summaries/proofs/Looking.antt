-- Specifiers that are looked up by hash, and names that imports bind.
use Rattle.std.proofs.Common.{◌≡◌, ℕ, suc, ◌+◌, Bool, true, false, cond, List, [], ◌∷◌, drop, map, Option, Some, None, refl, sym, ap, ◌∙◌, add-one}
use Rattle.std.specs.Prelude.{slice_get}
use Rattle.std.specs.Str.{bytes_eq}
use Rattle.std.specs.HashMap.{UpdatesBy, get_by}
use Rattle.es6_ast.specs.declared.graph.Request.{Request}
use Rattle.es6_static_semantics.specs.Endings.{Elsewhere, ImportEntry, Source, OtherName, requested, source_of}
use Rattle.module_endings.specs.declared.place.Home.{Home}
use Rattle.module_endings.specs.declared.place.Place.{Place}
use Rattle.module_endings.specs.Ends.{first_source}
use Rattle.module_endings.proofs.Sourcing.{Table, drop-at, get_by-updates, is_key}
use Rattle.module_resolution.specs.Summaries.{home_of, requested_home}
use Rattle.module_summaries.specs.declared.exports.Exporter.{Exporter}
use Rattle.module_summaries.specs.Homes.{home_in, home_or_none}
use Rattle.module_summaries.specs.Parts.{binding_at, import_at, placed, source_at}

home-cond : (b : Bool) (home : Home) (o : Option Home) → home_or_none (cond b (Some home) o) ≡ cond b home (home_or_none o)
home-cond true home o = refl
home-cond false home o = refl

requested-cond : (b : Bool) (r : Request) (rest : Option (Option ℕ)) → home_of (cond b (Some r.module) rest) ≡ cond b (home_of (Some r.module)) (home_of rest)
requested-cond true r rest = refl
requested-cond false r rest = refl

-- one request more, before those that are known
pub homed-more : (old new : Table Home) (requests : List Request) (i : ℕ) (r : Request) (key : List ℕ) (home : Home) → key ≡ r.specifier → home ≡ home_of (Some r.module) → slice_get requests i ≡ Some r
    → UpdatesBy (λ x y. bytes_eq x.now y.now) (is_key key) old new (Some home)
    → ((from : List ℕ) → home_or_none (get_by (is_key from) old) ≡ requested_home (drop (i + 1) requests) from)
    → (from : List ℕ) → home_or_none (get_by (is_key from) new) ≡ requested_home (drop i requests) from
homed-more old new requests i r key home is_key_of is_home there updates before from =
    ap home_or_none (get_by-updates key old new (Some home) updates from)
    ∙ home-cond (bytes_eq key from) home (get_by (is_key from) old)
    ∙ ap (λ h. cond (bytes_eq key from) home h) (before from ∙ ap (λ n. requested_home (drop n requests) from) (add-one i))
    ∙ ap (λ k. cond (bytes_eq k from) home (requested_home (drop (suc i) requests) from)) is_key_of
    ∙ ap (λ h. cond (bytes_eq r.specifier from) h (requested_home (drop (suc i) requests) from)) is_home
    ∙ sym (requested-cond (bytes_eq r.specifier from) r (requested (drop (suc i) requests) from))
    ∙ ap (λ rs. requested_home rs from) (sym (drop-at requests i r there))

pub place_or : Option Place → Place → Place
place_or None place = place
place_or (Some found) place = found

place-cond : (x : Exporter) (b : Bool) (other : Elsewhere) (source : Source) (found : Option Place) (own : Place) → source_at x source ≡ place_or found own
    → source_at x (cond b (OtherName other) source) ≡ place_or (cond b (Some (placed (home_in x.homes) other)) found) own
unfolding place_or
place-cond x true other source found own e = refl
place-cond x false other source found own e = e

-- a name that an import binds is where that is, and another one is the module's own
known-place : (x : Exporter) (known : List ImportEntry) (name : List ℕ)
    → source_at x (source_of known name) ≡ place_or (first_source (map (import_at (home_in x.homes)) known) name) (binding_at x name)
unfolding place_or
known-place x [] name = refl
known-place x (e ∷ es) name =
    place-cond x (bytes_eq e.local name) e.imported (source_of es name) (first_source (map (import_at (home_in x.homes)) es) name) (binding_at x name) (known-place x es name)

pub known_source : (x : Exporter) (known : List ImportEntry) (name : List ℕ) (p : Place) → Some p ≡ first_source (map (import_at (home_in x.homes)) known) name → p ≡ source_at x (source_of known name)
unfolding place_or
known_source x known name p e = ap (λ o. place_or o (binding_at x name)) e ∙ sym (known-place x known name)

pub own_source : (x : Exporter) (known : List ImportEntry) (name : List ℕ) → None ≡ first_source (map (import_at (home_in x.homes)) known) name → binding_at x name ≡ source_at x (source_of known name)
unfolding place_or
own_source x known name e = ap (λ o. place_or o (binding_at x name)) e ∙ sym (known-place x known name)
