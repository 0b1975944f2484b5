-- The characters that are written for segments are those segments.
use Rattle.std.proofs.Common.{◌≡◌, ℕ, zero, suc, ◌+◌, ◌-◌, ◌<◌, ◌≤◌, ltb, List, [], ◌∷◌, ◌++◌, length, Bool, true, false, cond, ◌&&◌, Option, Some, None, Ok, inl, inr, refl, sym, ap, ◌∙◌, subst, arith, append_assoc, append-nil}
use Rattle.std.specs.Prelude.{IfSome, replicate}
use Rattle.std.specs.List.{AllByRecursion}
use Rattle.std.proofs.lemmas.Bool.{lt-ltb, le-ltb, ne_eqb}
use Rattle.source_map.specs.declared.map.Segment.{Segment}
use Rattle.source_map.specs.declared.map.Target.{Target}
use Rattle.source_map.specs.declared.fields.Field.{Field}
use Rattle.source_map.specs.declared.reading.Values.{Values}
use Rattle.source_map.specs.declared.reading.Reading.{Reading}
use Rattle.source_map.specs.Outcome.{◌>>=◌}
use Rattle.source_map.specs.Segments.{limit, end_fields, end_segment, end_line, character_at, characters_from, beginning, segments_of}
use Rattle.source_map.specs.Maps.{IsBefore, AreOrdered, IsTarget, IsName, IsSegment}
use Rattle.source_map.specs.Written.{separator, values_in, segment_text, placed, named, targeted, values_to, mappings_text, no_values, AreSmall, IsSmallTarget}
use Rattle.source_map.proofs.FieldsBack.{between}
use Rattle.source_map.proofs.SegmentsBack.{Follows, Ends, ended, read_target}
use Rattle.source_map.proofs.Spelling.{after_target}

-- ---- values

small_name : (names : ℕ) (n : Option ℕ) → IfSome n (IsName names) → IfSome n (λ n. n ≤ limit)
small_name names None h = tt
small_name names (Some n) h = h.1

small_target : (sources names : ℕ) (t : Option Target) → IfSome t (IsTarget sources names) → IfSome t IsSmallTarget
small_target sources names None h = tt
small_target sources names (Some t) h = record { source = h.small; line = h.line; column = h.column; name = small_name names t.name h.name }

small_values : (sources names : ℕ) (v : Values) (s : Segment) → AreSmall v → IsSegment sources names s → AreSmall (values_to v s)
small_values sources names v s h is =
    after_target (record v { generated = s.generated.column }) s.target (record { generated = is.column; source = h.source; line = h.line; column = h.column; name = h.name }) (small_target sources names s.target is.target)

small_start : (v : Values) → AreSmall v → AreSmall (record v { generated = 0 })
small_start v h = record { generated = omega arith; source = h.source; line = h.line; column = h.column; name = h.name }

generated-named : (v : Values) (n : Option ℕ) → (named v n).generated ≡ v.generated
generated-named v None = refl
generated-named v (Some n) = refl

generated-targeted : (v : Values) (t : Option Target) → (targeted v t).generated ≡ v.generated
generated-targeted v None = refl
generated-targeted v (Some t) = generated-named (placed v t) t.name

generated-values_to : (v : Values) (s : Segment) → (values_to v s).generated ≡ s.generated.column
generated-values_to v s = generated-targeted (record v { generated = s.generated.column }) s.target

-- ---- between segments

and_false : (b : Bool) → (b && false) ≡ false
and_false true = refl
and_false false = refl

module _ (sources names : ℕ) where
  -- between two segments
  abbrev clean : ℕ → Values → Bool → ℕ → List Segment → ℕ → Reading
  clean line v first start segments b = between sources names line v first start segments [] b 0 1

  end_line-fields : (line : ℕ) (v : Values) (first : Bool) (start : ℕ) (segments : List Segment) (fs : List Field) (b : ℕ) → 0 < length fs
      → end_line (between sources names line v first start segments fs b 0 1) ≡ end_fields (between sources names line v first start segments fs b 0 1)
  unfolding end_line end_segment
  end_line-fields line v first start segments fs b some = rw (ne_eqb (length fs) 0 (λ e. omega arith), and_false first) refl

  -- the end of a line without more segments
  line_over : (at line : ℕ) (v : Values) (start : ℕ) (segments : List Segment) (b : ℕ) (rest : List ℕ)
      → characters_from at (59 ∷ rest) (clean line (record v { generated = 0 }) true start segments b) ≡ characters_from (suc at) rest (clean (line + 1) (record v { generated = 0 }) true (at + 1) segments b)
  unfolding characters_from character_at end_line
  line_over at line v start segments b rest = refl

  abbrev ReadsLines : ℕ → ℕ → ℕ → Values → ℕ → List Segment → ℕ → List ℕ → Type 0
  ReadsLines m at line v start segments b rest =
      (after : ℕ) × (begun : ℕ) × (characters_from at (replicate m 59 ++ rest) (clean line (record v { generated = 0 }) true start segments b)
      ≡ characters_from after rest (clean (line + m) (record v { generated = 0 }) true begun segments b))

  lines_over : (m at line : ℕ) (v : Values) (start : ℕ) (segments : List Segment) (b : ℕ) (rest : List ℕ) → ReadsLines m at line v start segments b rest
  lines_over zero at line v start segments b rest =
      let same : line + 0 ≡ line = omega arith in
      (at, start, ap (λ l. characters_from at rest (clean l (record v { generated = 0 }) true start segments b)) (sym same))
  lines_over (suc m) at line v start segments b rest =
      let more = lines_over m (suc at) (line + 1) v (at + 1) segments b rest in
      let sum : line + 1 + m ≡ line + suc m = omega arith in
      (more.0, more.1, line_over at line v start segments b (replicate m 59 ++ rest) ∙ more.2 ∙ ap (λ l. characters_from more.0 rest (clean l (record v { generated = 0 }) true more.1 segments b)) sum)

  -- a segment's end before a new line
  semicolon_after : (at line : ℕ) (v : Values) (first : Bool) (start : ℕ) (segments : List Segment) (fs : List Field) (b : ℕ) (s : Segment) (rest : List ℕ) → Ends sources names line v first start segments s fs b
      → characters_from at (59 ∷ rest) (between sources names line v first start segments fs b 0 1)
      ≡ characters_from (suc at) rest (clean (line + 1) (record (values_to v s) { generated = 0 }) true (at + 1) (segments ++ s ∷ []) b)
  unfolding characters_from character_at
  semicolon_after at line v first start segments fs b s rest ends = rw (end_line-fields line v first start segments fs b ends.0, ends.1) refl

  comma_after : (at line : ℕ) (v : Values) (first : Bool) (start : ℕ) (segments : List Segment) (fs : List Field) (b : ℕ) (s : Segment) (rest : List ℕ) → Ends sources names line v first start segments s fs b
      → characters_from at (44 ∷ rest) (between sources names line v first start segments fs b 0 1)
      ≡ characters_from (suc at) rest (clean line (values_to v s) false (at + 1) (segments ++ s ∷ []) b)
  unfolding characters_from character_at end_segment
  comma_after at line v first start segments fs b s rest ends = rw (ends.1) refl

  -- ---- all segments

  abbrev ReadsAll : ℕ → List ℕ → Reading → List Segment → Type 0
  ReadsAll at text s all = (r : Reading) × (characters_from at text s ≡ Ok r) × (r.segments ≡ all)

  abbrev RestReads : List Segment → Type 0
  RestReads ts =
      (at : ℕ) (v : Values) (first : Bool) (start : ℕ) (segments : List Segment) (fs : List Field) (b : ℕ) (s : Segment) → Ends sources names s.generated.line v first start segments s fs b
      → AllByRecursion (λ t. IsBefore s.generated t.generated) ts → AreOrdered ts → AllByRecursion (IsSegment sources names) ts → AreSmall (values_to v s)
      → ReadsAll at (mappings_text s.generated.line false (values_to v s) ts) (between sources names s.generated.line v first start segments fs b 0 1) ((segments ++ s ∷ []) ++ ts)

  -- from where a segment may begin
  ready : (t : Segment) (ts : List Segment) → RestReads ts → (at : ℕ) (w : Values) (first : Bool) (start : ℕ) (segments : List Segment) (b : ℕ) → AreSmall w → Follows first w.generated t.generated.column
      → IsSegment sources names t → AllByRecursion (λ u. IsBefore t.generated u.generated) ts → AreOrdered ts → AllByRecursion (IsSegment sources names) ts
      → ReadsAll at (segment_text w t ++ mappings_text t.generated.line false (values_to w t) ts) (clean t.generated.line w first start segments b) ((segments ++ t ∷ []) ++ ts)
  ready t ts more at w first start segments b small follows is before ordered each =
      let rest = mappings_text t.generated.line false (values_to w t) ts in
      let r = read_target sources names t.generated.line w first start segments t.generated.column at b t.target rest small is.column follows is.target in
      let q = more r.0 w first start segments r.2 r.1 t r.4 before ordered each (small_values sources names w t small is) in
      (q.0, r.3 ∙ q.1, q.2)

  concat : (segments : List Segment) (s t : Segment) (ts : List Segment) → (((segments ++ s ∷ []) ++ t ∷ []) ++ ts) ≡ (segments ++ s ∷ []) ++ (t ∷ ts)
  concat segments s t ts = append_assoc (segments ++ s ∷ []) (t ∷ []) ts

  -- one semicolon or more, and then the next segment
  next_line : (t : Segment) (ts : List Segment) → RestReads ts → (at : ℕ) (v : Values) (first : Bool) (start : ℕ) (segments : List Segment) (fs : List Field) (b : ℕ) (s : Segment)
      → Ends sources names s.generated.line v first start segments s fs b → AreSmall (values_to v s) → s.generated.line < t.generated.line
      → IsSegment sources names t → AllByRecursion (λ u. IsBefore t.generated u.generated) ts → AreOrdered ts → AllByRecursion (IsSegment sources names) ts
      → ReadsAll at (mappings_text s.generated.line false (values_to v s) (t ∷ ts)) (between sources names s.generated.line v first start segments fs b 0 1) ((segments ++ s ∷ []) ++ (t ∷ ts))
  unfolding mappings_text
  next_line t ts more at v first start segments fs b s ends small below is before ordered each =
      let line = s.generated.line in
      let to = t.generated.line in
      let w = record (values_to v s) { generated = 0 } in
      let after = segments ++ s ∷ [] in
      let m = to - (line + 1) in
      let rest = segment_text w t ++ mappings_text to false (values_to w t) ts in
      let count : to - line ≡ suc m = omega arith in
      let sum : line + 1 + m ≡ to = omega arith in
      let q = lines_over m (suc at) (line + 1) (values_to v s) (at + 1) after b rest in
      let r = ready t ts more q.0 w true q.1 after b (small_start (values_to v s) small) (inl refl) is before ordered each in
      let text : mappings_text line false (values_to v s) (t ∷ ts) ≡ 59 ∷ (replicate m 59 ++ rest) = rw (lt-ltb line to below, count) refl in (
        r.0,
        ap (λ x. characters_from at x (between sources names line v first start segments fs b 0 1)) text
            ∙ semicolon_after at line v first start segments fs b s (replicate m 59 ++ rest) ends ∙ q.2
            ∙ ap (λ l. characters_from q.0 rest (clean l w true q.1 after b)) sum ∙ r.1,
        r.2 ∙ concat segments s t ts,
      )

  -- a comma, and then the next segment
  same_line : (t : Segment) (ts : List Segment) → RestReads ts → (at : ℕ) (v : Values) (first : Bool) (start : ℕ) (segments : List Segment) (fs : List Field) (b : ℕ) (s : Segment)
      → Ends sources names s.generated.line v first start segments s fs b → AreSmall (values_to v s) → s.generated.line ≡ t.generated.line → s.generated.column < t.generated.column
      → IsSegment sources names t → AllByRecursion (λ u. IsBefore t.generated u.generated) ts → AreOrdered ts → AllByRecursion (IsSegment sources names) ts
      → ReadsAll at (mappings_text s.generated.line false (values_to v s) (t ∷ ts)) (between sources names s.generated.line v first start segments fs b 0 1) ((segments ++ s ∷ []) ++ (t ∷ ts))
  unfolding mappings_text
  same_line t ts more at v first start segments fs b s ends small same below is before ordered each =
      let line = s.generated.line in
      let to = t.generated.line in
      let w = values_to v s in
      let after = segments ++ s ∷ [] in
      let rest = segment_text w t ++ mappings_text to false (values_to w t) ts in
      let column : w.generated < t.generated.column = subst (λ c. c < t.generated.column) (sym (generated-values_to v s)) below in
      let r = ready t ts more (suc at) w false (at + 1) after b small (inr column) is before ordered each in
      let text : mappings_text line false w (t ∷ ts) ≡ 44 ∷ rest = rw (le-ltb line to (omega arith)) refl in (
        r.0,
        ap (λ x. characters_from at x (between sources names line v first start segments fs b 0 1)) text
            ∙ comma_after at line v first start segments fs b s rest ends
            ∙ ap (λ l. characters_from (suc at) rest (clean l w false (at + 1) after b)) same ∙ r.1,
        r.2 ∙ concat segments s t ts,
      )

  last : (at : ℕ) (v : Values) (first : Bool) (start : ℕ) (segments : List Segment) (fs : List Field) (b : ℕ) (s : Segment) → Ends sources names s.generated.line v first start segments s fs b
      → ReadsAll at (mappings_text s.generated.line false (values_to v s) []) (between sources names s.generated.line v first start segments fs b 0 1) ((segments ++ s ∷ []) ++ [])
  unfolding characters_from mappings_text
  last at v first start segments fs b s ends =
      (ended sources names s.generated.line v first start segments s b, end_line-fields s.generated.line v first start segments fs b ends.0 ∙ ends.1, sym (append-nil (segments ++ s ∷ [])))

  rest_read : (ts : List Segment) → RestReads ts
  rest_read [] at v first start segments fs b s ends before ordered each small = last at v first start segments fs b s ends
  rest_read (t ∷ ts) at v first start segments fs b s ends before ordered each small =
      elim before.0 [
        | inl below ↦ next_line t ts (rest_read ts) at v first start segments fs b s ends small below each.0 ordered.0 ordered.1 each.1
        | inr beside ↦ same_line t ts (rest_read ts) at v first start segments fs b s ends small beside.0 beside.1 each.0 ordered.0 ordered.1 each.1
      ]

  -- ---- from the beginning

  separator_first : (to : ℕ) → separator 0 true to ≡ replicate to 59
  separator_first zero = refl
  separator_first (suc m) = let some : 0 < suc m = omega arith in let all : suc m - 0 ≡ suc m = omega arith in rw (lt-ltb 0 (suc m) some, all) refl

  same_either : (b : Bool) → cond b no_values no_values ≡ no_values
  same_either true = refl
  same_either false = refl

  small_none : AreSmall no_values
  small_none = record { generated = omega arith; source = omega arith; line = omega arith; column = omega arith; name = omega arith }

  all_read : (ss : List Segment) → AreOrdered ss → AllByRecursion (IsSegment sources names) ss → ReadsAll 0 (mappings_text 0 true no_values ss) (beginning sources names) ss
  unfolding characters_from mappings_text end_line
  all_read [] ordered each = (beginning sources names, refl, refl)
  all_read (t ∷ ts) ordered each =
      let to = t.generated.line in
      let rest = segment_text no_values t ++ mappings_text to false (values_to no_values t) ts in
      let q = lines_over to 0 0 no_values 0 [] 0 rest in
      let r = ready t ts (rest_read ts) q.0 no_values true q.1 [] 0 small_none (inl refl) each.0 ordered.0 ordered.1 each.1 in
      let same : values_in 0 to no_values ≡ no_values = same_either (ltb 0 to) in
      let text : mappings_text 0 true no_values (t ∷ ts) ≡ replicate to 59 ++ rest = rw (same, separator_first to) refl in
      let sum : 0 + to ≡ to = omega arith in
      (r.0, ap (λ x. characters_from 0 x (beginning sources names)) text ∙ q.2 ∙ ap (λ l. characters_from q.0 rest (clean l no_values true q.1 [] 0)) sum ∙ r.1, r.2)

  -- the characters that are written are the segments
  pub segments_of-mappings_text : (ss : List Segment) → AreOrdered ss → AllByRecursion (IsSegment sources names) ss → segments_of sources names (mappings_text 0 true no_values ss) ≡ Ok ss
  unfolding segments_of
  segments_of-mappings_text ss ordered each =
      let r = all_read ss ordered each in
      ap (λ x. x >>= λ s. Ok s.segments) r.1 ∙ ap Ok r.2
