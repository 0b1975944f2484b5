-- What is read is a map: its segments in order, its numbers in range.
use Rattle.std.proofs.Common.{◌≡◌, ℕ, zero, suc, ◌+◌, ◌-◌, ◌*◌, ◌/◌, ◌%◌, ◌^◌, ◌<◌, ◌≤◌, ◌==◌, ltb, leb, List, [], ◌∷◌, ◌++◌, length, Bool, true, false, cond, ◌||◌, ◌&&◌, Option, Some, None, option_and_then, Result, Ok, Err, codes, ◌⊎◌, inl, inr, refl, sym, ◌∙◌, subst, arith}
use Rattle.std.specs.Prelude.{IfSome, IfOk}
use Rattle.std.specs.List.{AllByRecursion}
use Rattle.std.proofs.lemmas.Bool.{ltb-true, ltb-false, true≢false}
use Rattle.source_map.specs.declared.map.Segment.{Segment}
use Rattle.source_map.specs.declared.map.Target.{Target}
use Rattle.source_map.specs.declared.fields.Field.{Field}
use Rattle.source_map.specs.declared.reading.Values.{Values}
use Rattle.source_map.specs.declared.reading.Reading.{Reading}
use Rattle.source_map.specs.declared.fault.MapFault.{MapFault}
use Rattle.source_map.specs.declared.fault.MapFault.TheVariants.{BadDigit, BadFields, BadVersion}
use Rattle.source_map.specs.Digits.{digit_of}
use Rattle.source_map.specs.Outcome.{◌>>=◌, or_bad_index, Gives}
use Rattle.source_map.specs.Segments.{limit, moved, within, after_column, move_by, move_all, segment_at, bad_digit, end_fields, end_segment, end_line, begun_at, digit_at, character_at, characters_from, beginning, segments_of, digit_or_fault}
use Rattle.source_map.specs.Maps.{IsBefore, AreOrdered, IsTarget, IsName, IsSegment, IsMap}
use Rattle.source_map.specs.Document.{map_of, map_of_data, or_bad_json, texts_at, version_of, is_number}
use Rattle.source_map.specs.declared.map.Map.{Map}
use Rattle.std.proofs.lemmas.List.Elements.{All-from_recursion}
use Rattle.std.specs.Str.{is_utf8}
use Rattle.serde_json.specs.Data.{Data}
use Rattle.serde_json.specs.Read.{read}
use Rattle.serde_json.specs.Find.{get, as_str}
use Rattle.source_map.specs.Written.{AreSmall}
use Rattle.source_map.proofs.SegmentsBack.{Follows}

-- ---- what an answer came from

bind_ok : {A B : Type 0} (r : Result A MapFault) (f : A → Result B MapFault) (y : B) → (r >>= f) ≡ Ok y → (x : A) × (r ≡ Ok x) × (f x ≡ Ok y)
bind_ok (Ok x) f y h = (x, refl, h)
bind_ok (Err e) f y h = absurd cc

bind_some : {A B : Type 0} (o : Option A) (f : A → Option B) (y : B) → option_and_then f o ≡ Some y → (x : A) × (o ≡ Some x) × (f x ≡ Some y)
bind_some (Some x) f y h = (x, refl, h)
bind_some None f y h = absurd cc

in_range_ok : (at : ℕ) (o : Option ℕ) (x : ℕ) → or_bad_index at o ≡ Ok x → o ≡ Some x
in_range_ok at (Some y) x h = cc
in_range_ok at None x h = absurd cc

chosen : {A : Type 0} (b : Bool) (x y z : A) → cond b x y ≡ z → ((b ≡ true) × (x ≡ z)) ⊎ ((b ≡ false) × (y ≡ z))
chosen true x y z h = inl (refl, h)
chosen false x y z h = inr (refl, h)

only_some : (b : Bool) (x y : ℕ) → cond b (Some x) None ≡ Some y → (b ≡ true) × (x ≡ y)
only_some true x y h = (refl, cc)
only_some false x y h = absurd cc

unless_some : (b : Bool) (x y : ℕ) → cond b None (Some x) ≡ Some y → (b ≡ false) × (x ≡ y)
unless_some true x y h = absurd cc
unless_some false x y h = (refl, cc)

-- a value moves within its range
back_small : (value d x : ℕ) → value ≤ limit → cond (ltb value d) None (Some (value - d)) ≡ Some x → x ≤ limit
back_small value d x small h = let u = unless_some (ltb value d) (value - d) x h in omega (arith, u.1)

on_small : (value d x : ℕ) → cond (ltb limit (value + d)) None (Some (value + d)) ≡ Some x → x ≤ limit
on_small value d x h = let u = unless_some (ltb limit (value + d)) (value + d) x h in omega (arith, u.1, ltb-false limit (value + d) u.0)

either_way : (b : Bool) (p q : Option ℕ) (x : ℕ) → (p ≡ Some x → x ≤ limit) → (q ≡ Some x → x ≤ limit) → cond b p q ≡ Some x → x ≤ limit
either_way true p q x back on h = back h
either_way false p q x back on h = on h

moved_small : (value field x : ℕ) → value ≤ limit → moved value field ≡ Some x → x ≤ limit
moved_small value field x small h =
    either_way (field % 2 == 1) (cond (ltb value (field / 2)) None (Some (value - field / 2))) (cond (ltb limit (value + field / 2)) None (Some (value + field / 2))) x
    (back_small value (field / 2) x small) (on_small value (field / 2) x) h

either : (a b : Bool) → (a || b) ≡ true → (a ≡ true) ⊎ (b ≡ true)
either true b h = inl refl
either false b h = inr h

after_follows : (first : Bool) (before column x : ℕ) → after_column first before column ≡ Some x → Follows first before x × (column ≡ x)
after_follows first before column x h =
    let u = only_some (first || ltb before column) column x h in
    (elim (either first (ltb before column) u.0) [ inl e ↦ inl e | inr l ↦ inr (subst (λ c. before < c) u.1 (ltb-true before column l)) ], u.1)

within_below : (count value x : ℕ) → within count value ≡ Some x → (x < count) × (value ≡ x)
within_below count value x h = let u = only_some (ltb value count) value x h in (subst (λ c. c < count) u.1 (ltb-true value count u.0), u.1)

-- ---- what is known after k fields

record Done (s : Reading) (before : Values) (k : ℕ) (v : Values) : Type 0 where
  small : AreSmall v
  unmoved : k ≡ 0 → v.generated ≡ before.generated
  generated : 0 < k → Follows s.first before.generated v.generated
  source : 1 < k → v.source < s.sources
  name : 4 < k → v.name < s.names

move_done : (s : Reading) (before : Values) (k : ℕ) (f : Field) (v w : Values) → Done s before k v → move_by s k f v ≡ Ok w → Done s before (suc k) w
unfolding move_by
move_done s before zero f v w d h =
    let b = bind_ok (or_bad_index f.at (option_and_then (after_column s.first v.generated) (moved v.generated f.number))) (λ x. Ok (record v { generated = x })) w h in
    let o = bind_some (moved v.generated f.number) (after_column s.first v.generated) b.0 (in_range_ok f.at _ b.0 b.1) in
    let a = after_follows s.first v.generated o.0 b.0 o.2 in
    let small : b.0 ≤ limit = subst (λ x. x ≤ limit) a.1 (moved_small v.generated f.number o.0 d.small.generated o.1) in
    let is : record v { generated = b.0 } ≡ w = cc (b.2) in
    subst (Done s before 1) is (record {
      small = record { generated = small; source = d.small.source; line = d.small.line; column = d.small.column; name = d.small.name };
      unmoved = λ e. absurd (omega arith);
      generated = λ _. subst (λ g. Follows s.first g b.0) (d.unmoved refl) a.0;
      source = λ l. absurd (omega arith);
      name = λ l. absurd (omega arith);
    })
move_done s before (suc zero) f v w d h =
    let b = bind_ok (or_bad_index f.at (option_and_then (within s.sources) (moved v.source f.number))) (λ x. Ok (record v { source = x })) w h in
    let o = bind_some (moved v.source f.number) (within s.sources) b.0 (in_range_ok f.at _ b.0 b.1) in
    let a = within_below s.sources o.0 b.0 o.2 in
    let small : b.0 ≤ limit = subst (λ x. x ≤ limit) a.1 (moved_small v.source f.number o.0 d.small.source o.1) in
    let is : record v { source = b.0 } ≡ w = cc (b.2) in
    subst (Done s before 2) is (record {
      small = record { generated = d.small.generated; source = small; line = d.small.line; column = d.small.column; name = d.small.name };
      unmoved = λ e. absurd (omega arith);
      generated = λ _. d.generated (omega arith);
      source = λ _. a.0;
      name = λ l. absurd (omega arith);
    })
move_done s before (suc (suc zero)) f v w d h =
    let b = bind_ok (or_bad_index f.at (moved v.line f.number)) (λ x. Ok (record v { line = x })) w h in
    let small : b.0 ≤ limit = moved_small v.line f.number b.0 d.small.line (in_range_ok f.at _ b.0 b.1) in
    let is : record v { line = b.0 } ≡ w = cc (b.2) in
    subst (Done s before 3) is (record {
      small = record { generated = d.small.generated; source = d.small.source; line = small; column = d.small.column; name = d.small.name };
      unmoved = λ e. absurd (omega arith);
      generated = λ _. d.generated (omega arith);
      source = λ _. d.source (omega arith);
      name = λ l. absurd (omega arith);
    })
move_done s before (suc (suc (suc zero))) f v w d h =
    let b = bind_ok (or_bad_index f.at (moved v.column f.number)) (λ x. Ok (record v { column = x })) w h in
    let small : b.0 ≤ limit = moved_small v.column f.number b.0 d.small.column (in_range_ok f.at _ b.0 b.1) in
    let is : record v { column = b.0 } ≡ w = cc (b.2) in
    subst (Done s before 4) is (record {
      small = record { generated = d.small.generated; source = d.small.source; line = d.small.line; column = small; name = d.small.name };
      unmoved = λ e. absurd (omega arith);
      generated = λ _. d.generated (omega arith);
      source = λ _. d.source (omega arith);
      name = λ l. absurd (omega arith);
    })
move_done s before (suc (suc (suc (suc zero)))) f v w d h =
    let b = bind_ok (or_bad_index f.at (option_and_then (within s.names) (moved v.name f.number))) (λ x. Ok (record v { name = x })) w h in
    let o = bind_some (moved v.name f.number) (within s.names) b.0 (in_range_ok f.at _ b.0 b.1) in
    let a = within_below s.names o.0 b.0 o.2 in
    let small : b.0 ≤ limit = subst (λ x. x ≤ limit) a.1 (moved_small v.name f.number o.0 d.small.name o.1) in
    let is : record v { name = b.0 } ≡ w = cc (b.2) in
    subst (Done s before 5) is (record {
      small = record { generated = d.small.generated; source = d.small.source; line = d.small.line; column = d.small.column; name = small };
      unmoved = λ e. absurd (omega arith);
      generated = λ _. d.generated (omega arith);
      source = λ _. d.source (omega arith);
      name = λ _. a.0;
    })
move_done s before (suc (suc (suc (suc (suc k))))) f v w d h =
    let is : v ≡ w = cc h in
    subst (Done s before (suc (suc (suc (suc (suc (suc k))))))) is (record {
      small = d.small;
      unmoved = λ e. absurd (omega arith);
      generated = λ _. d.generated (omega arith);
      source = λ _. d.source (omega arith);
      name = λ _. d.name (omega arith);
    })

moves_done : (s : Reading) (before : Values) (k : ℕ) (fs : List Field) (v w : Values) → Done s before k v → move_all s k fs v ≡ Ok w → Done s before (k + length fs) w
unfolding move_all
moves_done s before k [] v w d h =
    let is : v ≡ w = cc h in
    let sum : k ≡ k + 0 = omega arith in
    subst (λ n. Done s before n w) sum (subst (Done s before k) is d)
moves_done s before k (f ∷ fs) v w d h =
    let b = bind_ok (move_by s k f v) (move_all s (suc k) fs) w h in
    let sum : suc k + length fs ≡ k + suc (length fs) = omega arith in
    subst (λ n. Done s before n w) sum (moves_done s before (suc k) fs b.0 w (move_done s before k f v b.0 d b.1) b.2)

-- ---- what is known between two characters

-- a segment stands before what may come next
abbrev IsPast : ℕ → Bool → ℕ → Segment → Type 0
IsPast line first generated t = (t.generated.line < line) ⊎ ((first ≡ false) × (t.generated.line ≡ line) × (t.generated.column ≤ generated))

record Good (ns nn : ℕ) (s : Reading) : Type 0 where
  sources : s.sources ≡ ns
  names : s.names ≡ nn
  small : AreSmall s.values
  ordered : AreOrdered s.segments
  each : AllByRecursion (IsSegment ns nn) s.segments
  past : AllByRecursion (IsPast s.line s.first s.values.generated) s.segments

-- the same after a segment's end
record Closed (ns nn : ℕ) (s : Reading) : Type 0 where
  sources : s.sources ≡ ns
  names : s.names ≡ nn
  small : AreSmall s.values
  ordered : AreOrdered s.segments
  each : AllByRecursion (IsSegment ns nn) s.segments
  past : AllByRecursion (IsPast s.line false s.values.generated) s.segments

map_all : {X : Type 0} (P Q : X → Type 0) (xs : List X) → ((x : X) → P x → Q x) → AllByRecursion P xs → AllByRecursion Q xs
map_all P Q [] f h = tt
map_all P Q (x ∷ xs) f h = (f x h.0, map_all P Q xs f h.1)

all_push : {X : Type 0} (P : X → Type 0) (xs : List X) (x : X) → AllByRecursion P xs → P x → AllByRecursion P (xs ++ x ∷ [])
all_push P [] x h last = (last, tt)
all_push P (y ∷ ys) x h last = (h.0, all_push P ys x h.1 last)

ordered_push : (ss : List Segment) (t : Segment) → AreOrdered ss → AllByRecursion (λ s. IsBefore s.generated t.generated) ss → AreOrdered (ss ++ t ∷ [])
ordered_push [] t o h = (tt, tt)
ordered_push (s ∷ ss) t o h = (all_push (λ u. IsBefore s.generated u.generated) ss t o.0 h.0, ordered_push ss t o.1 h.1)

-- a column that follows makes its segment stand after those that are past
past_before : (line : ℕ) (first : Bool) (before column : ℕ) (target : Option Target) (t : Segment) → IsPast line first before t → Follows first before column → IsBefore t.generated (record { line = line; column = column })
past_before line first before column target t (inl h) f = inl h
past_before line first before column target t (inr h) (inl e) = absurd (true≢false (sym e ∙ h.0))
past_before line first before column target t (inr h) (inr l) = inr (h.1, omega (arith, h.2, l))

named_fits : (names : ℕ) (b : Bool) (n : ℕ) → (b ≡ false → n < names) → n ≤ limit → IfSome (cond b None (Some n)) (IsName names)
named_fits names true n h small = tt
named_fits names false n h small = (h refl, small)

target_fits : (sources names : ℕ) (b : Bool) (t : Target) → (b ≡ false → IsTarget sources names t) → IfSome (cond b None (Some t)) (IsTarget sources names)
target_fits sources names true t h = tt
target_fits sources names false t h = h refl

segment_fits : (s : Reading) (before : Values) (line n : ℕ) (v : Values) → Done s before n v → IsSegment s.sources s.names (segment_at line n v)
segment_fits s before line n v d = record {
  column = d.small.generated;
  target = target_fits s.sources s.names (ltb n 4) _ (λ e. let four = ltb-false n 4 e in record {
    source = d.source (omega arith);
    small = d.small.source;
    line = d.small.line;
    column = d.small.column;
    name = named_fits s.names (ltb n 5) v.name (λ g. d.name (omega (arith, ltb-false n 5 g))) d.small.name;
  });
}

-- ---- each step keeps it

bad_digit_never : (at : ℕ) (s t : Reading) → bad_digit at s ≡ Ok t → ⊥
unfolding bad_digit
bad_digit_never at s t h = let b = bind_ok (move_all s 0 s.fields s.values) (λ v. Err (BadDigit at)) t h in absurd (cc (b.2))

counted : (n : ℕ) → ((n == 1) || ((n == 4) || (n == 5))) ≡ true → 0 < n
counted zero h = absurd cc
counted (suc n) h = omega arith

begin_done : (s : Reading) → AreSmall s.values → Done s s.values 0 s.values
begin_done s small = record { small = small; unmoved = λ e. refl; generated = λ l. absurd (omega arith); source = λ l. absurd (omega arith); name = λ l. absurd (omega arith) }

if_ok : {A : Type 0} (b : Bool) (r : Result A MapFault) (e : MapFault) (t : A) → cond b r (Err e) ≡ Ok t → (b ≡ true) × (r ≡ Ok t)
if_ok true r e t h = (refl, h)
if_ok false r e t h = absurd cc

cond_ok : {A X : Type 0} (b : Bool) (p q : Result A MapFault) (t : A) → (p ≡ Ok t → X) → (q ≡ Ok t → X) → cond b p q ≡ Ok t → X
cond_ok true p q t left right h = left h
cond_ok false p q t left right h = right h

past_open : (line : ℕ) (first : Bool) (g : ℕ) (t : Segment) → IsPast line first g t → IsPast line false g t
past_open line first g t (inl h) = inl h
past_open line first g t (inr h) = inr (refl, h.1, h.2)

past_more : (line : ℕ) (first : Bool) (g x : ℕ) → Follows first g x → (t : Segment) → IsPast line first g t → IsPast line false x t
past_more line first g x f t (inl h) = inl h
past_more line first g x (inl e) t (inr h) = absurd (true≢false (sym e ∙ h.0))
past_more line first g x (inr l) t (inr h) = inr (refl, h.1, omega (arith, h.2, l))

past_line : (line g x : ℕ) (t : Segment) → IsPast line false g t → IsPast (line + 1) true x t
past_line line g x t (inl h) = inl (omega arith)
past_line line g x t (inr h) = inl (omega (arith, h.1))

module _ (sources names : ℕ) where
  good_closed : (s : Reading) → Good sources names s → Closed sources names s
  good_closed s g = record {
    sources = g.sources;
    names = g.names;
    small = g.small;
    ordered = g.ordered;
    each = g.each;
    past = map_all (IsPast s.line s.first s.values.generated) (IsPast s.line false s.values.generated) s.segments (past_open s.line s.first s.values.generated) g.past;
  }

  end_fields_closed : (s t : Reading) → Good sources names s → end_fields s ≡ Ok t → Closed sources names t
  unfolding end_fields
  end_fields_closed s t g h =
      let n = length s.fields in
      let c = if_ok ((n == 1) || ((n == 4) || (n == 5))) (move_all s 0 s.fields s.values >>= λ v. Ok (record s { values = v; fields = []; segments = s.segments ++ segment_at s.line n v ∷ [] })) (BadFields s.start) t h in
      let b = bind_ok (move_all s 0 s.fields s.values) (λ v. Ok (record s { values = v; fields = []; segments = s.segments ++ segment_at s.line n v ∷ [] })) t c.1 in
      let v = b.0 in
      let count : 0 + n ≡ n = omega arith in
      let d = subst (λ k. Done s s.values k v) count (moves_done s s.values 0 s.fields s.values v (begin_done s g.small) b.1) in
      let f = d.generated (counted n c.0) in
      let new = segment_at s.line n v in
      let fits = subst (λ k. IsSegment k names new) g.sources (subst (λ k. IsSegment s.sources k new) g.names (segment_fits s s.values s.line n v d)) in
      let is : record s { values = v; fields = []; segments = s.segments ++ new ∷ [] } ≡ t = cc (b.2) in
      subst (Closed sources names) is (record {
        sources = g.sources;
        names = g.names;
        small = d.small;
        ordered = ordered_push s.segments new g.ordered
            (map_all (IsPast s.line s.first s.values.generated) (λ u. IsBefore u.generated new.generated) s.segments (λ u p. past_before s.line s.first s.values.generated v.generated new.target u p f) g.past);
        each = all_push (IsSegment sources names) s.segments new g.each fits;
        past = all_push (IsPast s.line false v.generated) s.segments new (map_all (IsPast s.line s.first s.values.generated) (IsPast s.line false v.generated) s.segments (past_more s.line s.first s.values.generated v.generated f) g.past) (inr (refl, refl, omega arith));
      })

  end_segment_closed : (s t : Reading) → Good sources names s → end_segment s ≡ Ok t → Closed sources names t
  unfolding end_segment
  end_segment_closed s t g h = cond_ok (s.weight == 1) (end_fields s) (bad_digit s.begun s) t (end_fields_closed s t g) (λ e. absurd (bad_digit_never s.begun s t e)) h

  end_line_closed : (s t : Reading) → Good sources names s → end_line s ≡ Ok t → Closed sources names t
  unfolding end_line
  end_line_closed s t g h =
      cond_ok (s.first && ((length s.fields == 0) && (s.weight == 1))) (Ok s) (end_segment s) t (λ e. let is : s ≡ t = cc e in subst (Closed sources names) is (good_closed s g)) (end_segment_closed s t g) h

  digit_good : (at d : ℕ) (s t : Reading) → Good sources names s → digit_at at d s ≡ Ok t → Good sources names t
  unfolding digit_at
  digit_good at d s t g h =
      let b = begun_at at s in
      let number = s.number + d % 32 * s.weight in
      let more = record s { begun = b; number = number; weight = s.weight * 32 } in
      let whole = record s { fields = s.fields ++ (record { at = b; number = number }) ∷ []; begun = b; number = 0; weight = 1 } in
      let bad : bad_digit b s ≡ Ok t → Good sources names t = λ e. absurd (bad_digit_never b s t e) in
      cond_ok (ltb (32 ^ 6) s.weight) (bad_digit b s) (cond (leb 32 d) (Ok more) (cond (ltb limit (number / 2)) (bad_digit b s) (Ok whole))) t bad
      (cond_ok (leb 32 d) (Ok more) (cond (ltb limit (number / 2)) (bad_digit b s) (Ok whole)) t
      (λ e. let is : more ≡ t = cc e in subst (Good sources names) is (record { sources = g.sources; names = g.names; small = g.small; ordered = g.ordered; each = g.each; past = g.past }))
      (cond_ok (ltb limit (number / 2)) (bad_digit b s) (Ok whole) t bad
      (λ e. let is : whole ≡ t = cc e in subst (Good sources names) is (record { sources = g.sources; names = g.names; small = g.small; ordered = g.ordered; each = g.each; past = g.past })))) h

  digit_or_good : (at : ℕ) (s t : Reading) (o : Option ℕ) → Good sources names s → digit_or_fault at s o ≡ Ok t → Good sources names t
  digit_or_good at s t None g h = absurd (bad_digit_never at s t h)
  digit_or_good at s t (Some d) g h = digit_good at d s t g h

  zero_small : (v : Values) → AreSmall v → AreSmall (record v { generated = 0 })
  zero_small v h = record { generated = omega arith; source = h.source; line = h.line; column = h.column; name = h.name }

  character_good : (at c : ℕ) (s t : Reading) → Good sources names s → character_at at c s ≡ Ok t → Good sources names t
  unfolding character_at
  character_good at c s t g h =
      let line : Reading → Result Reading MapFault = λ u. Ok (record u { line = u.line + 1; values = record u.values { generated = 0 }; first = true; start = at + 1 }) in
      let comma : Reading → Result Reading MapFault = λ u. Ok (record u { first = false; start = at + 1 }) in
      cond_ok (c == 59) (end_line s >>= line) (cond (c == 44) (end_segment s >>= comma) (digit_or_fault at s (digit_of c))) t
      (λ e. let b = bind_ok (end_line s) line t e in
      let k = end_line_closed s b.0 g b.1 in
      let u = b.0 in
      let is : record u { line = u.line + 1; values = record u.values { generated = 0 }; first = true; start = at + 1 } ≡ t = cc (b.2) in
      subst (Good sources names) is (record {
        sources = k.sources;
        names = k.names;
        small = zero_small u.values k.small;
        ordered = k.ordered;
        each = k.each;
        past = map_all (IsPast u.line false u.values.generated) (IsPast (u.line + 1) true 0) u.segments (past_line u.line u.values.generated 0) k.past;
      }))
      (cond_ok (c == 44) (end_segment s >>= comma) (digit_or_fault at s (digit_of c)) t
      (λ e. let b = bind_ok (end_segment s) comma t e in
      let k = end_segment_closed s b.0 g b.1 in
      let u = b.0 in
      let is : record u { first = false; start = at + 1 } ≡ t = cc (b.2) in
      subst (Good sources names) is (record { sources = k.sources; names = k.names; small = k.small; ordered = k.ordered; each = k.each; past = k.past }))
      (digit_or_good at s t (digit_of c) g)) h

  characters_closed : (at : ℕ) (cs : List ℕ) (s r : Reading) → Good sources names s → characters_from at cs s ≡ Ok r → Closed sources names r
  unfolding characters_from
  characters_closed at [] s r g h = end_line_closed s r g h
  characters_closed at (c ∷ cs) s r g h =
      let b = bind_ok (character_at at c s) (characters_from (suc at) cs) r h in
      characters_closed (suc at) cs b.0 r (character_good at c s b.0 g b.1) b.2

  beginning_good : Good sources names (beginning sources names)
  beginning_good = record { sources = refl; names = refl; small = record { generated = omega arith; source = omega arith; line = omega arith; column = omega arith; name = omega arith }; ordered = tt; each = tt; past = tt }

  segments_valid : (cs : List ℕ) (ss : List Segment) → segments_of sources names cs ≡ Ok ss → AreOrdered ss × AllByRecursion (IsSegment sources names) ss
  unfolding segments_of
  segments_valid cs ss h =
      let b = bind_ok (characters_from 0 cs (beginning sources names)) (λ s. Ok s.segments) ss h in
      let k = characters_closed 0 cs (beginning sources names) b.0 beginning_good b.1 in
      let is : b.0.segments ≡ ss = cc (b.2) in
      subst (λ x. AreOrdered x × AllByRecursion (IsSegment sources names) x) is (k.ordered, k.each)

-- ---- maps

with_segments : (sources names : List (List ℕ)) (mappings : List ℕ) (m : Map) → (segments_of (length sources) (length names) mappings >>= λ segments. Ok (record { sources = sources; names = names; segments = segments })) ≡ Ok m → IsMap m
with_segments sources names mappings m h =
    let b = bind_ok (segments_of (length sources) (length names) mappings) (λ segments. Ok (record { sources = sources; names = names; segments = segments })) m h in
    let v = segments_valid (length sources) (length names) mappings b.0 b.1 in
    let whole : Map = record { sources = sources; names = names; segments = b.0 } in
    let is : whole ≡ m = cc (b.2) in
    subst IsMap is (record { ordered = v.0; each = All-from_recursion (IsSegment (length sources) (length names)) b.0 v.1 })

IsMap-map_of_data : (d : Data) (m : Map) → map_of_data d ≡ Ok m → IsMap m
unfolding map_of_data
IsMap-map_of_data d m h =
    let a = bind_ok (or_bad_json (texts_at (codes "sources") d)) _ m h in
    let b = bind_ok (or_bad_json (texts_at (codes "names") d)) _ m a.2 in
    let c = bind_ok (or_bad_json (option_and_then as_str (get (codes "mappings") d))) _ m b.2 in
    with_segments a.0 b.0 c.0 m (if_ok (is_number 3 (version_of d)) _ BadVersion m c.2).1

-- what a text is read as is a map
pub IsMap-map_of : (text : List ℕ) (m : Map) → map_of text ≡ Ok m → IsMap m
unfolding map_of
IsMap-map_of text m h = let b = bind_ok (or_bad_json (cond (is_utf8 text) (read text) None)) map_of_data m h in IsMap-map_of_data b.0 m b.2

pub valid_if_given : (d : Data) (r : Result Map MapFault) → Gives r (map_of_data d) → IfOk r IsMap
valid_if_given d (Ok m) h = IsMap-map_of_data d m h
valid_if_given d (Err e) h = tt
