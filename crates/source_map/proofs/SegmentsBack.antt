-- A segment that is written is read back.
use Rattle.std.proofs.Common.{◌≡◌, ℕ, ◌<◌, ◌≤◌, ltb, List, [], ◌∷◌, ◌++◌, length, Bool, true, false, ◌||◌, Option, Some, None, Ok, ◌⊎◌, inl, inr, refl, sym, ap, ◌∙◌, subst, arith, append_assoc}
use Rattle.std.specs.Prelude.{IfSome}
use Rattle.std.proofs.lemmas.Bool.{lt-ltb}
use Rattle.es_text.specs.declared.Place.{Place}
use Rattle.source_map.specs.declared.map.Segment.{Segment}
use Rattle.source_map.specs.declared.map.Target.{Target}
use Rattle.source_map.specs.declared.fields.Field.{Field}
use Rattle.source_map.specs.declared.reading.Values.{Values}
use Rattle.source_map.specs.declared.reading.Reading.{Reading}
use Rattle.source_map.specs.Outcome.{◌>>=◌}
use Rattle.source_map.specs.Segments.{limit, move_by, move_all, end_fields, characters_from}
use Rattle.source_map.specs.Maps.{IsTarget, IsName}
use Rattle.source_map.specs.Written.{signed, field_text, segment_text, placed, values_to, AreSmall}
use Rattle.source_map.proofs.FieldsBack.{moved-signed, between, field_read}

-- ---- what the fields move

field : ℕ → ℕ → ℕ → Field
field at from to = record { at = at; number = signed from to }

either_true : (b x : Bool) → (b ≡ true) ⊎ (x ≡ true) → (b || x) ≡ true
either_true true x h = refl
either_true false x (inl e) = absurd cc
either_true false x (inr e) = e

-- the column may stand there
abbrev pub Follows : Bool → ℕ → ℕ → Type 0
Follows first before column = (first ≡ true) ⊎ (before < column)

follows : (first : Bool) (a b : ℕ) → Follows first a b → (first || ltb a b) ≡ true
follows first a b (inl e) = either_true first (ltb a b) (inl e)
follows first a b (inr l) = either_true first (ltb a b) (inr (lt-ltb a b l))

move_generated : (s : Reading) (at c : ℕ) (v : Values) → c ≤ limit → Follows s.first v.generated c → move_by s 0 (field at v.generated c) v ≡ Ok (record v { generated = c })
unfolding move_by field
move_generated s at c v h f = rw (moved-signed v.generated c h, follows s.first v.generated c f) refl

move_source : (s : Reading) (at c : ℕ) (v : Values) → c ≤ limit → c < s.sources → move_by s 1 (field at v.source c) v ≡ Ok (record v { source = c })
unfolding move_by field
move_source s at c v h l = rw (moved-signed v.source c h, lt-ltb c s.sources l) refl

move_line : (s : Reading) (at c : ℕ) (v : Values) → c ≤ limit → move_by s 2 (field at v.line c) v ≡ Ok (record v { line = c })
unfolding move_by field
move_line s at c v h = rw (moved-signed v.line c h) refl

move_column : (s : Reading) (at c : ℕ) (v : Values) → c ≤ limit → move_by s 3 (field at v.column c) v ≡ Ok (record v { column = c })
unfolding move_by field
move_column s at c v h = rw (moved-signed v.column c h) refl

move_name : (s : Reading) (at c : ℕ) (v : Values) → c ≤ limit → c < s.names → move_by s 4 (field at v.name c) v ≡ Ok (record v { name = c })
unfolding move_by field
move_name s at c v h l = rw (moved-signed v.name c h, lt-ltb c s.names l) refl

moves_generated : (s : Reading) (at c : ℕ) (v : Values) (fs : List Field) → c ≤ limit → Follows s.first v.generated c
    → move_all s 0 (field at v.generated c ∷ fs) v ≡ move_all s 1 fs (record v { generated = c })
unfolding move_all
moves_generated s at c v fs h f = rw (move_generated s at c v h f) refl

moves_place : (s : Reading) (a b d : ℕ) (t : Target) (v : Values) (fs : List Field) → IsTarget s.sources s.names t
    → move_all s 1 (field a v.source t.source ∷ field b v.line t.place.line ∷ field d v.column t.place.column ∷ fs) v ≡ move_all s 4 fs (placed v t)
unfolding move_all
moves_place s a b d t v fs is =
    let w = record v { source = t.source } in
    let x = record w { line = t.place.line } in
    ap (λ r. r >>= move_all s 2 (field b v.line t.place.line ∷ field d v.column t.place.column ∷ fs)) (move_source s a t.source v is.small is.source)
    ∙ ap (λ r. r >>= move_all s 3 (field d v.column t.place.column ∷ fs)) (move_line s b t.place.line w is.line)
    ∙ ap (λ r. r >>= move_all s 4 fs) (move_column s d t.place.column x is.column)

moves_name : (s : Reading) (a n : ℕ) (v : Values) → IsName s.names n → move_all s 4 (field a v.name n ∷ []) v ≡ Ok (record v { name = n })
unfolding move_all
moves_name s a n v is = rw (move_name s a n v is.1 is.0) refl

moves_end : (s : Reading) (k : ℕ) (v : Values) → move_all s k [] v ≡ Ok v
unfolding move_all
moves_end s k v = refl

-- ---- a whole segment

module _ (sources names line : ℕ) (v : Values) (first : Bool) (start : ℕ) (segments : List Segment) where
  abbrev state : List Field → ℕ → Reading
  state fs b = between sources names line v first start segments fs b 0 1

  -- the state after the segment's end
  abbrev pub ended : Segment → ℕ → Reading
  ended s b = between sources names line (values_to v s) first start (segments ++ s ∷ []) [] b 0 1

  -- these fields are the segment's
  abbrev pub Ends : Segment → List Field → ℕ → Type 0
  Ends s fs b = (0 < length fs) × (end_fields (state fs b) ≡ Ok (ended s b))

  abbrev pub ReadsSegment : Segment → ℕ → List ℕ → ℕ → Type 0
  ReadsSegment s at rest begun =
      (after : ℕ) × (b : ℕ) × (fs : List Field) × (characters_from at (segment_text v s ++ rest) (state [] begun) ≡ characters_from after rest (state fs b)) × Ends s fs b

  end_bare : (c a b : ℕ) → c ≤ limit → Follows first v.generated c → Ends (record { generated = record { line = line; column = c }; target = None }) (field a v.generated c ∷ []) b
  unfolding end_fields
  end_bare c a b h f =
      let s = state (field a v.generated c ∷ []) b in
      (omega arith, rw (moves_generated s a c v [] h f, moves_end s 1 (record v { generated = c })) refl)

  abbrev segment : ℕ → Option Target → Segment
  segment c t = record { generated = record { line = line; column = c }; target = t }

  abbrev target : ℕ → Place → Option ℕ → Target
  target source place name = record { source = source; place = place; name = name }

  -- the four fields of a segment with a target, and more
  abbrev four : ℕ → ℕ → ℕ → ℕ → ℕ → Target → List Field → List Field
  four c a0 a1 a2 a3 t fs = field a0 v.generated c ∷ field a1 v.source t.source ∷ field a2 v.line t.place.line ∷ field a3 v.column t.place.column ∷ fs

  moves_four : (s : Reading) (c a0 a1 a2 a3 : ℕ) (t : Target) (fs : List Field) → c ≤ limit → Follows s.first v.generated c → IsTarget s.sources s.names t
      → move_all s 0 (four c a0 a1 a2 a3 t fs) v ≡ move_all s 4 fs (placed (record v { generated = c }) t)
  moves_four s c a0 a1 a2 a3 t fs h f is =
      let w = record v { generated = c } in
      moves_generated s a0 c v (field a1 v.source t.source ∷ field a2 v.line t.place.line ∷ field a3 v.column t.place.column ∷ fs) h f ∙ moves_place s a1 a2 a3 t w fs is

  end_place : (c a0 a1 a2 a3 b source : ℕ) (place : Place) → c ≤ limit → Follows first v.generated c → IsTarget sources names (target source place None)
      → Ends (segment c (Some (target source place None))) (four c a0 a1 a2 a3 (target source place None) []) b
  unfolding end_fields
  end_place c a0 a1 a2 a3 b source place h f is =
      let t = target source place None in
      let s = state (four c a0 a1 a2 a3 t []) b in
      let m : move_all s 0 (four c a0 a1 a2 a3 t []) v ≡ Ok (placed (record v { generated = c }) t) = moves_four s c a0 a1 a2 a3 t [] h f is ∙ moves_end s 4 (placed (record v { generated = c }) t) in
      (omega arith, rw m refl)

  end_named : (c a0 a1 a2 a3 a4 b source n : ℕ) (place : Place) → c ≤ limit → Follows first v.generated c → IsTarget sources names (target source place (Some n))
      → Ends (segment c (Some (target source place (Some n)))) (four c a0 a1 a2 a3 (target source place (Some n)) (field a4 v.name n ∷ [])) b
  unfolding end_fields
  end_named c a0 a1 a2 a3 a4 b source n place h f is =
      let t = target source place (Some n) in
      let fs = field a4 v.name n ∷ [] in
      let s = state (four c a0 a1 a2 a3 t fs) b in
      let w = placed (record v { generated = c }) t in
      let m : move_all s 0 (four c a0 a1 a2 a3 t fs) v ≡ Ok (record w { name = n }) = moves_four s c a0 a1 a2 a3 t fs h f is ∙ moves_name s a4 n w is.name in
      (omega arith, rw m refl)

  -- ---- its characters

  -- one field more is read, whatever follows
  abbrev Reads : List Field → ℕ → ℕ → List ℕ → ℕ → ℕ → List ℕ → Type 0
  Reads fs begun at text from to rest =
      (after : ℕ) × (b : ℕ) × (f : ℕ) × (characters_from at (text ++ rest) (state fs begun) ≡ characters_from after rest (state (fs ++ field f from to ∷ []) b))

  read_field : (from to at : ℕ) (rest : List ℕ) (fs : List Field) (begun : ℕ) → from ≤ limit → to ≤ limit → Reads fs begun at (field_text from to) from to rest
  unfolding field
  read_field from to at rest fs begun low high = field_read sources names line v first start segments from to at rest fs begun low high

  read_bare : (c at begun : ℕ) (rest : List ℕ) → AreSmall v → c ≤ limit → Follows first v.generated c → ReadsSegment (segment c None) at rest begun
  read_bare c at begun rest small h f =
      let x = field_text v.generated c in
      let r = read_field v.generated c at rest [] begun small.generated h in
      (r.0, r.1, field r.2 v.generated c ∷ [], ap (λ t. characters_from at t (state [] begun)) (append_assoc x [] rest) ∙ r.3, end_bare c r.2 r.1 h f)

  regroup_four : (x y z u more rest : List ℕ) → (x ++ ((y ++ (z ++ u)) ++ more)) ++ rest ≡ x ++ (y ++ (z ++ (u ++ (more ++ rest))))
  regroup_four x y z u more rest = simp append_assoc

  -- the four fields, before more
  ReadsFour : ℕ → ℕ → Target → List ℕ → ℕ → Type 0
  ReadsFour c at t rest begun =
      (after : ℕ) × (b : ℕ) × (a0 : ℕ) × (a1 : ℕ) × (a2 : ℕ) × (a3 : ℕ) × (characters_from at (field_text v.generated c ++ (field_text v.source t.source ++ (field_text v.line t.place.line ++ (field_text v.column t.place.column ++ rest)))) (state [] begun)
      ≡ characters_from after rest (state (four c a0 a1 a2 a3 t []) b))

  read_four : (c at begun : ℕ) (t : Target) (rest : List ℕ) → AreSmall v → c ≤ limit → IsTarget sources names t → ReadsFour c at t rest begun
  unfolding ReadsFour
  read_four c at begun t rest small h is =
      let d3 = field_text v.column t.place.column ++ rest in
      let d2 = field_text v.line t.place.line ++ d3 in
      let d1 = field_text v.source t.source ++ d2 in
      let r0 = read_field v.generated c at d1 [] begun small.generated h in
      let f0 = field r0.2 v.generated c ∷ [] in
      let r1 = read_field v.source t.source r0.0 d2 f0 r0.1 small.source is.small in
      let f1 = field r0.2 v.generated c ∷ field r1.2 v.source t.source ∷ [] in
      let r2 = read_field v.line t.place.line r1.0 d3 f1 r1.1 small.line is.line in
      let f2 = field r0.2 v.generated c ∷ field r1.2 v.source t.source ∷ field r2.2 v.line t.place.line ∷ [] in
      let r3 = read_field v.column t.place.column r2.0 rest f2 r2.1 small.column is.column in
      (r3.0, r3.1, r0.2, r1.2, r2.2, r3.2, r0.3 ∙ r1.3 ∙ r2.3 ∙ r3.3)

  read_place : (c at begun source : ℕ) (place : Place) (rest : List ℕ) → AreSmall v → c ≤ limit → Follows first v.generated c → IsTarget sources names (target source place None)
      → ReadsSegment (segment c (Some (target source place None))) at rest begun
  unfolding ReadsFour
  read_place c at begun source place rest small h f is =
      let t = target source place None in
      let r = read_four c at begun t rest small h is in (
        r.0,
        r.1,
        four c r.2 r.3 r.4 r.5 t [],
        ap (λ x. characters_from at x (state [] begun)) (regroup_four (field_text v.generated c) (field_text v.source source) (field_text v.line place.line) (field_text v.column place.column) [] rest) ∙ r.6,
        end_place c r.2 r.3 r.4 r.5 r.1 source place h f is,
      )

  read_named : (c at begun source n : ℕ) (place : Place) (rest : List ℕ) → AreSmall v → c ≤ limit → Follows first v.generated c → IsTarget sources names (target source place (Some n))
      → ReadsSegment (segment c (Some (target source place (Some n)))) at rest begun
  unfolding ReadsFour
  read_named c at begun source n place rest small h f is =
      let t = target source place (Some n) in
      let r = read_four c at begun t (field_text v.name n ++ rest) small h is in
      let q = read_field v.name n r.0 rest (four c r.2 r.3 r.4 r.5 t []) r.1 small.name is.name.1 in (
        q.0,
        q.1,
        four c r.2 r.3 r.4 r.5 t (field q.2 v.name n ∷ []),
        ap (λ x. characters_from at x (state [] begun)) (regroup_four (field_text v.generated c) (field_text v.source source) (field_text v.line place.line) (field_text v.column place.column) (field_text v.name n) rest) ∙ r.6 ∙ q.3,
        end_named c r.2 r.3 r.4 r.5 q.2 q.1 source n place h f is,
      )

  pub read_target : (c at begun : ℕ) (t : Option Target) (rest : List ℕ) → AreSmall v → c ≤ limit → Follows first v.generated c → IfSome t (IsTarget sources names) → ReadsSegment (segment c t) at rest begun
  read_target c at begun None rest small h f is = read_bare c at begun rest small h f
  read_target c at begun (Some t) rest small h f is = by_name t.name refl
    where
      by_name : (n : Option ℕ) → t.name ≡ n → ReadsSegment (segment c (Some t)) at rest begun
      by_name None e =
          let same : target t.source t.place None ≡ t = ap (λ n. target t.source t.place n) (sym e) in
          subst (λ u. ReadsSegment (segment c (Some u)) at rest begun) same (read_place c at begun t.source t.place rest small h f (subst (IsTarget sources names) (sym same) is))
      by_name (Some n) e =
          let same : target t.source t.place (Some n) ≡ t = ap (λ n. target t.source t.place n) (sym e) in
          subst (λ u. ReadsSegment (segment c (Some u)) at rest begun) same (read_named c at begun t.source n t.place rest small h f (subst (IsTarget sources names) (sym same) is))
