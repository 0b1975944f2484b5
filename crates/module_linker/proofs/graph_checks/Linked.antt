-- A graph in which each wanted name ends in one place has no name that doesn't.
use Rattle.std.proofs.Common.{◌≡◌, ℕ, zero, suc, ◌<◌, ◌≤◌, ◌⊎◌, inl, inr, List, [], Some, None, sym, subst, ◌∙◌, length, get_or, arith}
use Rattle.std.specs.Prelude.{slice_get}
use Rattle.std.proofs.lemmas.Bool.{cases_lt}
use Rattle.std.proofs.lemmas.Option.{slice_get-get_or, slice_get_past}
use Rattle.es_text.specs.declared.Place.{Place}
use Rattle.es6_ast.specs.declared.graph.EndOf.{EndOf}
use Rattle.es6_ast.specs.declared.graph.Graph.{Graph}
use Rattle.es6_ast.specs.declared.graph.LoadedModule.{LoadedModule}
use Rattle.es6_static_semantics.specs.Endings.{AllResolve, none_wanted, one_wanted, Elsewhere, IsAmbiguous, IsUnresolved, Resolves, Wanted, wants}
use Rattle.module_links.specs.declared.fault.LinkFault.{LinkFault}
use Rattle.module_links.specs.declared.fault.LinkFault.TheVariants as links
use Rattle.module_links.specs.Links.{AreLinked, IsFirstRefused, IsRefusal}

-- the end of a wanted name
record EndsAt (g : Graph) (hosts : List (List ℕ)) (m : LoadedModule) (other : Elsewhere) : Type 0 where
  end : EndOf
  resolves : Resolves g hosts m other end

wanted_ends : (g : Graph) (hosts : List (List ℕ)) (m : LoadedModule) (ws : List Wanted) (es : List EndOf) (at : ℕ) (w : Wanted) → AllResolve g hosts m ws es → slice_get ws at ≡ Some w → EndsAt g hosts m w.other
wanted_ends g hosts m _ _ at w none_wanted e = absurd (let none : None ≡ Some w = e in cc)
wanted_ends g hosts m _ _ zero w (one_wanted {w = first} {e = end} r all) e =
    let same : first ≡ w = let here : Some first ≡ Some w = e in cc in
    record { end = end; resolves = subst (λ (x : Wanted). Resolves g hosts m x.other end) same r }
wanted_ends g hosts m _ _ (suc at) w (one_wanted {ws = ws} {es = es} r all) e = wanted_ends g hosts m ws es at w all e

-- an element stands below the length
stands_below : {A : Type 0} (xs : List A) (i : ℕ) (x : A) → slice_get xs i ≡ Some x → i < length xs
stands_below xs i x e = by_case (cases_lt i (length xs))
  where
    by_case : (i < length xs) ⊎ (length xs ≤ i) → i < length xs
    by_case (inl below) = below
    by_case (inr past) = absurd (let none : slice_get xs i ≡ None = slice_get_past xs i past in cc)

linked_ends : (g : Graph) (hosts : List (List ℕ)) (endings : List (List EndOf)) (fails : LoadedModule → Elsewhere → Type 0) (path : List ℕ) (place : Place) (name : List ℕ) → AreLinked g hosts (length g.modules) endings → (f : IsFirstRefused g hosts fails path place name) → EndsAt g hosts f.m f.w.other
linked_ends g hosts endings fails path place name linked f =
    let below : f.number < length g.modules = stands_below g.modules f.number f.m f.there in
    let size = linked.size in
    let here : slice_get endings f.number ≡ Some (get_or endings f.number []) = slice_get-get_or endings f.number [] (omega arith) in
    wanted_ends g hosts f.m (wants f.m.tree) (get_or endings f.number []) f.at f.w (linked.each f.number f.m (get_or endings f.number []) f.there here) f.wanted

-- a fault of linking that isn't want of memory
abbrev pub IsKnownLink : LinkFault → Type 0
IsKnownLink links.OutOfMemory = ⊥
IsKnownLink _ = Unit {0}

pub linked_or_refused : (g : Graph) (hosts : List (List ℕ)) (endings : List (List EndOf)) (fault : LinkFault) → IsKnownLink fault → AreLinked g hosts (length g.modules) endings → IsRefusal g hosts fault → ⊥
linked_or_refused g hosts endings (links.Unresolved path place name) known linked f =
    let e = linked_ends g hosts endings (IsUnresolved g hosts) path place name linked f in
    f.refused e.end e.resolves.ends
linked_or_refused g hosts endings (links.Ambiguous path place name) known linked f =
    let e = linked_ends g hosts endings (IsAmbiguous g hosts) path place name linked f in
    let a = f.refused in
    a.differ (e.resolves.alone a.one a.one_ends ∙ sym (e.resolves.alone a.another a.another_ends))
linked_or_refused g hosts endings links.OutOfMemory known linked f = known
