-- The recursions of specs/Segments, a step at a time.
use Rattle.std.proofs.Common.{◌≡◌, ◌<◌, ◌≤◌, ◌+◌, ℕ, List, length, get_or, drop, Result, Ok, Err, refl, sym, ap, subst, ◌∙◌, add-one, drop-cons}
use Rattle.source_map.specs.declared.fields.Field.{Field}
use Rattle.source_map.specs.declared.reading.Values.{Values}
use Rattle.source_map.specs.declared.reading.Reading.{Reading}
use Rattle.source_map.specs.declared.fault.MapFault.{MapFault}
use Rattle.std.proofs.lemmas.List.{drop_all}
use Rattle.source_map.specs.declared.fault.MapFault.TheVariants.{NoMap, BadBase64, BadJson, BadVersion, BadDigit, BadFields, BadIndex, OutOfMemory}
use Rattle.source_map.specs.Outcome.{◌>>=◌, Fails}
use Rattle.source_map.specs.Segments.{move_by, move_all, character_at, characters_from, end_line, beginning, segments_of}

-- one field of those that are left
pub move_all-step : (s : Reading) (k : ℕ) (fs : List Field) (v : Values) (f : Field) → k < length fs
    → move_all s k (drop k fs) v ≡ (move_by s k (get_or fs k f) v >>= move_all s (k + 1) (drop (k + 1) fs))
unfolding move_all
move_all-step s k fs v f h = rw (add-one, drop-cons fs k f) refl

-- one character of those that are left
pub characters_from-step : (at : ℕ) (cs : List ℕ) (s : Reading) → at < length cs
    → characters_from at (drop at cs) s ≡ (character_at at (get_or cs at 0) s >>= characters_from (at + 1) (drop (at + 1) cs))
unfolding characters_from
characters_from-step at cs s h = rw (add-one, drop-cons cs at 0) refl

-- after a field that moves a value, what is left gives what it gave
pub move_all-moved : (s : Reading) (k : ℕ) (fs : List Field) (v w : Values) (f : Field) (all : Result Values MapFault) → k < length fs
    → move_all s k (drop k fs) v ≡ all → Ok w ≡ move_by s k (get_or fs k f) v → move_all s (k + 1) (drop (k + 1) fs) w ≡ all
move_all-moved s k fs v w f all h before e = ap (λ r. r >>= move_all s (k + 1) (drop (k + 1) fs)) e ∙ sym (move_all-step s k fs v f h) ∙ before

-- a field's fault is that of all
pub move_all-fault : (s : Reading) (k : ℕ) (fs : List Field) (v : Values) (f : Field) (all : Result Values MapFault) (e : MapFault) → k < length fs
    → move_all s k (drop k fs) v ≡ all → Err e ≡ move_by s k (get_or fs k f) v → Err e ≡ all
move_all-fault s k fs v f all e h before is = ap (λ r. r >>= move_all s (k + 1) (drop (k + 1) fs)) is ∙ sym (move_all-step s k fs v f h) ∙ before

pub move_all-end : (s : Reading) (k : ℕ) (fs : List Field) (v : Values) → length fs ≤ k → move_all s k (drop k fs) v ≡ Ok v
unfolding move_all
move_all-end s k fs v h = rw (drop_all k fs h) refl

-- ---- the same of characters

pub characters_from-passed : (at : ℕ) (cs : List ℕ) (s t : Reading) (all : Result Reading MapFault) → at < length cs
    → characters_from at (drop at cs) s ≡ all → character_at at (get_or cs at 0) s ≡ Ok t → characters_from (at + 1) (drop (at + 1) cs) t ≡ all
characters_from-passed at cs s t all h before e = ap (λ r. r >>= characters_from (at + 1) (drop (at + 1) cs)) (sym e) ∙ sym (characters_from-step at cs s h) ∙ before

-- what a fault says of all
pub Fails-then : {A B : Type 0} (e : MapFault) (r : Result A MapFault) (f : A → Result B MapFault) (all : Result B MapFault) → (r >>= f) ≡ all → Fails e r → Fails e all
Fails-then OutOfMemory r f all h fails = tt
Fails-then NoMap r f all h fails = sym h ∙ ap (λ x. x >>= f) fails
Fails-then BadBase64 r f all h fails = sym h ∙ ap (λ x. x >>= f) fails
Fails-then BadJson r f all h fails = sym h ∙ ap (λ x. x >>= f) fails
Fails-then BadVersion r f all h fails = sym h ∙ ap (λ x. x >>= f) fails
Fails-then (BadDigit at) r f all h fails = sym h ∙ ap (λ x. x >>= f) fails
Fails-then (BadFields at) r f all h fails = sym h ∙ ap (λ x. x >>= f) fails
Fails-then (BadIndex at) r f all h fails = sym h ∙ ap (λ x. x >>= f) fails

pub characters_from-end : (at : ℕ) (cs : List ℕ) (s : Reading) → length cs ≤ at → characters_from at (drop at cs) s ≡ end_line s
unfolding characters_from
characters_from-end at cs s h = rw (drop_all at cs h) refl

-- ---- what a loop over `mappings` gives at its exits

Fails-segments : (ns nn : ℕ) (cs : List ℕ) (e : MapFault) → Fails e (characters_from 0 cs (beginning ns nn)) → Fails e (segments_of ns nn cs)
unfolding segments_of
Fails-segments ns nn cs e h = Fails-then e (characters_from 0 cs (beginning ns nn)) (λ s. Ok s.segments) _ refl h

pub segments_of-character : (ns nn at : ℕ) (cs : List ℕ) (s : Reading) (e : MapFault) → at < length cs
    → characters_from at (drop at cs) s ≡ characters_from 0 cs (beginning ns nn) → Fails e (character_at at (get_or cs at 0) s) → Fails e (segments_of ns nn cs)
segments_of-character ns nn at cs s e h before fails =
    Fails-segments ns nn cs e (Fails-then e (character_at at (get_or cs at 0) s) (characters_from (at + 1) (drop (at + 1) cs)) _ (sym (characters_from-step at cs s h) ∙ before) fails)

pub segments_of-end : (ns nn at : ℕ) (cs : List ℕ) (s : Reading) (e : MapFault) → length cs ≤ at
    → characters_from at (drop at cs) s ≡ characters_from 0 cs (beginning ns nn) → Fails e (end_line s) → Fails e (segments_of ns nn cs)
segments_of-end ns nn at cs s e h before fails = Fails-segments ns nn cs e (subst (Fails e) (sym (characters_from-end at cs s h) ∙ before) fails)

pub segments_of-whole : (ns nn at : ℕ) (cs : List ℕ) (s t : Reading) → length cs ≤ at
    → characters_from at (drop at cs) s ≡ characters_from 0 cs (beginning ns nn) → end_line s ≡ Ok t → segments_of ns nn cs ≡ Ok t.segments
unfolding segments_of
segments_of-whole ns nn at cs s t h before is = ap (λ r. r >>= λ x. Ok x.segments) (sym before ∙ characters_from-end at cs s h ∙ is)
