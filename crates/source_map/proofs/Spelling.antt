-- The characters of segments, a segment at a time.
use Rattle.std.proofs.Common.{◌≡◌, ℕ, ◌+◌, ◌<◌, ◌≤◌, ltb, List, [], ◌++◌, length, get_or, drop, Bool, true, false, cond, Option, Some, None, refl, sym, ap, ◌∙◌, subst, arith, append_assoc, append-nil, add-one, drop-cons}
use Rattle.std.proofs.lemmas.List.{drop_all}
use Rattle.std.specs.Prelude.{IfSome}
use Rattle.source_map.specs.declared.map.Segment.{Segment}
use Rattle.source_map.specs.declared.map.Target.{Target}
use Rattle.source_map.specs.declared.reading.Values.{Values}
use Rattle.source_map.specs.Segments.{limit}
use Rattle.source_map.specs.Written.{separator, segment_text, values_in, values_to, named, placed, targeted, mappings_text, AreSmall, IsSmallTarget}

regroup : (o s t r : List ℕ) → ((o ++ s) ++ t) ++ r ≡ o ++ (s ++ (t ++ r))
regroup o s t r = simp append_assoc

mappings_text-step : (line : ℕ) (first : Bool) (v : Values) (k : ℕ) (ss : List Segment) (d : Segment) → k < length ss → let s = get_or ss k d in let x = values_in line s.generated.line v in
    mappings_text line first v (drop k ss) ≡ separator line first s.generated.line ++ (segment_text x s ++ mappings_text s.generated.line false (values_to x s) (drop (k + 1) ss))
unfolding mappings_text
mappings_text-step line first v k ss d h = rw (add-one k, drop-cons ss k d) refl

-- one segment more, and then those that are left
pub mappings_text-pushed : (line : ℕ) (first : Bool) (v x w : Values) (k : ℕ) (ss : List Segment) (d : Segment) (all out between new : List ℕ) → k < length ss
    → out ++ mappings_text line first v (drop k ss) ≡ all → between ≡ out ++ separator line first (get_or ss k d).generated.line → x ≡ values_in line (get_or ss k d).generated.line v
    → new ≡ between ++ segment_text x (get_or ss k d) → w ≡ values_to x (get_or ss k d)
    → new ++ mappings_text (get_or ss k d).generated.line false w (drop (k + 1) ss) ≡ all
mappings_text-pushed line first v x w k ss d all out between new h before sep is text values =
    let s = get_or ss k d in
    let y = values_in line s.generated.line v in
    let rest : Values → List ℕ = λ u. mappings_text s.generated.line false u (drop (k + 1) ss) in
    ap (λ t. t ++ rest w) (text ∙ ap (λ b. b ++ segment_text x s) sep)
    ∙ regroup out (separator line first s.generated.line) (segment_text x s) (rest w)
    ∙ ap (λ u. out ++ (separator line first s.generated.line ++ (segment_text x s ++ rest u))) values
    ∙ ap (λ u. out ++ (separator line first s.generated.line ++ (segment_text u s ++ rest (values_to u s)))) is
    ∙ sym (ap (λ t. out ++ t) (mappings_text-step line first v k ss d h)) ∙ before

pub mappings_text-end : (line : ℕ) (first : Bool) (v : Values) (k : ℕ) (ss : List Segment) (all out : List ℕ) → length ss ≤ k → out ++ mappings_text line first v (drop k ss) ≡ all → out ≡ all
unfolding mappings_text
mappings_text-end line first v k ss all out h before =
    let none : mappings_text line first v (drop k ss) ≡ [] = rw (drop_all k ss h) refl in
    sym (append-nil out) ∙ sym (ap (λ t. out ++ t) none) ∙ before

in_line : (b : Bool) (v : Values) → AreSmall v → AreSmall (cond b (record v { generated = 0 }) v)
in_line true v h = record { generated = omega arith; source = h.source; line = h.line; column = h.column; name = h.name }
in_line false v h = h

after_name : (v : Values) (n : Option ℕ) → AreSmall v → IfSome n (λ n. n ≤ limit) → AreSmall (named v n)
after_name v None h small = h
after_name v (Some n) h small = record { generated = h.generated; source = h.source; line = h.line; column = h.column; name = small }

pub after_target : (v : Values) (t : Option Target) → AreSmall v → IfSome t IsSmallTarget → AreSmall (targeted v t)
after_target v None h small = h
after_target v (Some t) h small =
    after_name (placed v t) t.name (record { generated = h.generated; source = small.source; line = small.line; column = small.column; name = h.name }) small.name

pub AreSmall-values_to : (line : ℕ) (v x w : Values) (s : Segment) → AreSmall v → x ≡ values_in line s.generated.line v → w ≡ values_to x s → s.generated.column ≤ limit → IfSome s.target IsSmallTarget → AreSmall w
AreSmall-values_to line v x w s h is values column small =
    let y = subst AreSmall (sym is) (in_line (ltb line s.generated.line) v h) in
    subst AreSmall (sym values)
    (after_target (record x { generated = s.generated.column }) s.target (record { generated = column; source = y.source; line = y.line; column = y.column; name = y.name }) small)

-- seven texts, pushed one after another, of which two are known by equations
pub pushed : (o a b c d e f g p x u q y v r z t : List ℕ) → o ≡ [] → a ≡ o ++ p → b ≡ a ++ x → x ≡ u → c ≡ b ++ q → d ≡ c ++ y → y ≡ v → e ≡ d ++ r → f ≡ e ++ z → g ≡ f ++ t
    → g ≡ p ++ (u ++ (q ++ (v ++ (r ++ (z ++ t)))))
pushed o a b c d e f g p x u q y v r z t h0 h1 h2 i2 h3 h4 i4 h5 h6 h7 = rw (h7, h6, h5, h4, i4, h3, h2, i2, h1, h0) (simp append_assoc)
