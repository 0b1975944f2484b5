-- The segments of marks make a map.
use Rattle.std.proofs.Common.{◌≡◌, refl, ℕ, ◌<◌, ◌≤◌, inl, inr, nat_eq, nat_lt, ◌||◌, ◌&&◌, Bool, true, false, List, [], ◌∷◌, length, sym, ap, subst}
use Rattle.std.specs.Prelude.{Option, Some, None, IfSome, slice_get, All, if◌then◌else◌, ⊤, ◌<◌}
use Rattle.std.specs.List.{AllByRecursion}
use Rattle.std.proofs.lemmas.Bool.{and_parts, eqb-true, leb-true, ltb-true}
use Rattle.std.proofs.lemmas.List.Elements.{All-from_recursion}
use Rattle.std.proofs.lemmas.Option.{slice_get_within}
use Rattle.std.proofs.lemmas.Slice.Zip.{AllZip-long}
use Rattle.es_outside.specs.declared.events.Site.{Site}
use Rattle.source_map.specs.declared.map.Map.{Map}
use Rattle.source_map.specs.declared.map.Target.{Target}
use Rattle.source_map.specs.Segments.{limit}
use Rattle.es_text.specs.declared.Place.{Place}
use Rattle.es_text.specs.Places.{IsBefore}
use Rattle.es_text.proofs.Walk.{before_trans}
use Rattle.es6_ast.specs.declared.graph.LoadedModule.{LoadedModule}
use Rattle.es5_printer.specs.declared.mark.Mark.{Mark}
use Rattle.source_map.specs.declared.map.Segment.{Segment}
use Rattle.source_map.specs.Maps.{AreOrdered, IsMap, IsName, IsSegment, IsTarget}
use Rattle.script_maps.specs.Mapped.{apart, AreSegmentsOf, IsMapOf, IsSegmentOf, IsTargetIn, IsTargetOf, is_behind, stands_apart}

-- p stands behind the last place
abbrev pub IsBehind : Option Place → Place → Type 0
IsBehind None p = ⊤
IsBehind (Some q) p = IsBefore q p

abbrev pub AreBehind : Option Place → List Segment → Type 0
AreBehind last = AllByRecursion (λ s. IsBehind last s.generated)

behind_by : (q p : Place) → (nat_lt q.line p.line || (nat_eq q.line p.line && nat_lt q.column p.column)) ≡ true → IsBefore q p
behind_by q p h = by (nat_lt q.line p.line) refl h
  where
    by : (b : Bool) → nat_lt q.line p.line ≡ b → (b || (nat_eq q.line p.line && nat_lt q.column p.column)) ≡ true → IsBefore q p
    by true e h = inl (ltb-true q.line p.line e)
    by false e h = let parts = and_parts _ _ h in inr (eqb-true q.line p.line parts.0, ltb-true q.column p.column parts.1)

behind : (last : Option Place) (p : Place) → is_behind last p ≡ true → IsBehind last p
behind None p h = tt
behind (Some q) p h = behind_by q p h

behind_both : (last : Option Place) (p q : Place) → IsBehind last p → IsBefore p q → IsBehind last q
behind_both None p q a b = tt
behind_both (Some x) p q a b = before_trans x p q a b

all_behind : (last : Option Place) (p : Place) (ss : List Segment) → IsBehind last p → AreBehind (Some p) ss → AreBehind last ss
all_behind last p [] a b = tt
all_behind last p (s ∷ ss) a b = (behind_both last p s.generated a b.0, all_behind last p ss a b.1)

-- ---- order

abbrev pub Goes : Option Place → List Segment → Type 0
Goes last ss = AreBehind last ss × AreOrdered ss

one_more : (modules : List LoadedModule) (last : Option Place) (m : Mark) (ms : List Mark) (ss : List Segment) (b : Bool) → stands_apart last m.generated ≡ b
    → ((us : List Segment) → AreSegmentsOf modules (apart (Some m.generated) ms) us → Goes (Some m.generated) us)
    → ((us : List Segment) → AreSegmentsOf modules (apart last ms) us → Goes last us)
    → AreSegmentsOf modules (if b then m ∷ apart (Some m.generated) ms else apart last ms) ss → Goes last ss
one_more modules last m ms [] true e f g h = absurd h
one_more modules last m ms (s ∷ ss) true e f g h =
    let rest : Goes (Some m.generated) ss = f ss h.1 in
    let first : IsBehind last m.generated = behind last m.generated (and_parts _ _ e).0 in
    let B : Place → Type 0 = λ p. IsBehind last p in
    let O : Place → Type 0 = λ p. AreBehind (Some p) ss in
    ((subst B (sym h.0.generated_is) first, all_behind last m.generated ss first rest.0), (subst O (sym h.0.generated_is) rest.0, rest.1))
one_more modules last m ms ss false e f g h = g ss h

pub ordered : (modules : List LoadedModule) (last : Option Place) (ms : List Mark) (ss : List Segment) → AreSegmentsOf modules (apart last ms) ss → Goes last ss
unfolding apart
ordered modules last [] [] h = (tt, tt)
ordered modules last [] (s ∷ ss) h = absurd h
ordered modules last (m ∷ ms) ss h =
    one_more modules last m ms ss (stands_apart last m.generated) refl (ordered modules (Some m.generated) ms) (ordered modules last ms) h

-- ---- each by itself

target_valid : (modules : List LoadedModule) (n i : ℕ) (text : List ℕ) (at : ℕ) (t : Option Target) → i < n → IsTargetIn text i at t → IfSome t (IsTarget n 0)
target_valid modules n i text at None within h = tt
target_valid modules n i text at (Some t) within h = record {
  source = subst (λ k. k < n) (sym h.source_is) within;
  small = subst (λ k. k ≤ limit) (sym h.source_is) h.small.source_is;
  line = h.small.line_is;
  column = h.small.column_is;
  name = subst (λ x. IfSome x (IsName 0)) (sym h.name_is) tt;
}

found_valid : (modules : List LoadedModule) (site : Site) (x : Option LoadedModule) (t : Option Target) → slice_get modules site.module ≡ x → IsTargetOf x site t → IfSome t (IsTarget (length modules) 0)
found_valid modules site None t e h = subst (λ x. IfSome x (IsTarget (length modules) 0)) (sym h) tt
found_valid modules site (Some m) t e h = target_valid modules (length modules) site.module m.lines site.at t (slice_get_within modules site.module m e) h

segment_valid : (modules : List LoadedModule) (m : Mark) (s : Segment) → m.generated.column ≤ limit → IsSegmentOf modules m s → IsSegment (length modules) 0 s
segment_valid modules m s low h = record {
  column = subst (λ p. p.column ≤ limit) (sym h.generated_is) low;
  target = found_valid modules m.site (slice_get modules m.site.module) s.target refl h.target_is;
}

abbrev pub AreValid : List LoadedModule → List Segment → Type 0
AreValid modules = AllByRecursion (IsSegment (length modules) 0)

valid_more : (modules : List LoadedModule) (last : Option Place) (m : Mark) (ms : List Mark) (ss : List Segment) (b : Bool) → stands_apart last m.generated ≡ b
    → ((us : List Segment) → AreSegmentsOf modules (apart (Some m.generated) ms) us → AreValid modules us)
    → ((us : List Segment) → AreSegmentsOf modules (apart last ms) us → AreValid modules us)
    → AreSegmentsOf modules (if b then m ∷ apart (Some m.generated) ms else apart last ms) ss → AreValid modules ss
valid_more modules last m ms [] true e f g h = absurd h
valid_more modules last m ms (s ∷ ss) true e f g h = (segment_valid modules m s (leb-true _ _ (and_parts _ _ e).1) h.0, f ss h.1)
valid_more modules last m ms ss false e f g h = g ss h

pub valid : (modules : List LoadedModule) (last : Option Place) (ms : List Mark) (ss : List Segment) → AreSegmentsOf modules (apart last ms) ss → AreValid modules ss
unfolding apart
valid modules last [] [] h = tt
valid modules last [] (s ∷ ss) h = absurd h
valid modules last (m ∷ ms) ss h =
    valid_more modules last m ms ss (stands_apart last m.generated) refl (valid modules (Some m.generated) ms) (valid modules last ms) h

-- the map of marks is a map
pub is_map : (modules : List LoadedModule) (marks : List Mark) (x : Map) → IsMapOf modules marks x → IsMap x
is_map modules marks x h =
    let n : length modules ≡ length x.sources = sym (AllZip-long _ modules x.sources h.sources_are) in
    let all : All (IsSegment (length modules) 0) x.segments = All-from_recursion (IsSegment (length modules) 0) x.segments (valid modules None marks x.segments h.segments_are) in
    record {
      ordered = (ordered modules None marks x.segments h.segments_are).1;
      each = subst (λ k. All (IsSegment (length x.sources) k) x.segments) (sym (ap length h.names_are)) (subst (λ k. All (IsSegment k 0) x.segments) n all);
    }
