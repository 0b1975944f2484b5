-- Taking the files of edits, one after another.
use Rattle.std.proofs.Common.{◌≡◌, ℕ, suc, ◌+◌, ◌<◌, ◌≤◌, List, [], ◌∷◌, ◌++◌, length, map, get_or, take, drop, Option, Some, Result, Ok, Err, MatchResult, Vec, refl, sym, ap, ◌∙◌, subst, arith, drop-cons}
use Rattle.std.specs.Global.{Global}
use Rattle.std.proofs.lemmas.List.{length-take, take-append-drop, take_more}
use Rattle.es_outside.specs.Counts.{CountRose}
use Rattle.edit_list.specs.Edits.{Asked, asked_of}
use Rattle.edit_list.specs.Edits as asked
use Rattle.edit_list.specs.declared.edit.Edit.{Edit}
use Rattle.listed_builds.specs.Doing.{Step, step_of}
use Rattle.listed_builds.specs.declared.taken.Taken.{Taken}
use Rattle.module_loading.specs.Files.{Holds, Told}
use Rattle.edit_reading.specs.declared.fault.EditsFault.{EditsFault}
use Rattle.edit_reading.specs.declared.fault.EditsFault.TheVariants.{Missing, ReadFailed, FileTooLong, NotUtf8, BadEdit, MissingFile, UnreadFile}
use Rattle.edit_reading.specs.declared.fault.Unread.{Unread}
use Rattle.edit_reading.specs.declared.fault.Unread.TheVariants.{Refused, OutOfMemory}
use Rattle.edit_reading.specs.Reading.{AreEdits, AreTaken, Cause, IsListAt, IsPutOf, IsUntaken, IsUntakenAt, PutsNext, Takes, one_more}

map-both : {A B : Type 0} (f : A → B) (xs ys : List A) → map f (xs ++ ys) ≡ map f xs ++ map f ys
map-both f [] ys = refl
map-both f (x ∷ xs) ys = ap (λ list. f x ∷ list) (map-both f xs ys)

map-size : {A B : Type 0} (f : A → B) (xs : List A) → length (map f xs) ≡ length xs
map-size f [] = refl
map-size f (x ∷ xs) = ap suc (map-size f xs)

-- a count that rose since rose from before
rose_from : (old middle new : ℕ) → old ≤ middle → CountRose middle new → CountRose old new
rose_from old middle new le rose = λ no_end. let lt : middle < new = rose no_end in omega arith

-- one edit more is taken
pub took : (told : Told) (edits : List Edit) (i : ℕ) (edit : Edit) (all more : List Taken) (next : Taken) → i < length edits → edit ≡ get_or edits i edit → more ≡ all ++ next ∷ []
    → AreTaken told (map asked_of (take i edits)) (map step_of all) → Takes told (asked_of edit) (step_of next) → AreTaken told (map asked_of (take (i + 1) edits)) (map step_of more)
took told edits i edit all more next lt is pushed before takes =
    let here : map asked_of (take (i + 1) edits) ≡ map asked_of (take i edits) ++ asked_of edit ∷ []
    = ap (map asked_of) (take_more edits i edit lt ∙ ap (λ e. take i edits ++ e ∷ []) (sym is)) ∙ map-both asked_of (take i edits) (edit ∷ []) in
    let there : map step_of more ≡ map step_of all ++ step_of next ∷ [] = ap (map step_of) pushed ∙ map-both step_of all (next ∷ []) in
    subst (λ (e : List Asked). AreTaken told e (map step_of more)) (sym here)
    (subst (λ (s : List Step). AreTaken told (map asked_of (take i edits) ++ asked_of edit ∷ []) s) (sym there) (one_more (asked_of edit) (step_of next) before takes))

-- the edit that puts a file comes next behind those that are taken
puts_next : (told : Told) (edits : List Edit) (i : ℕ) (edit : Edit) (steps : List Step) (from : List ℕ) → i < length edits → edit ≡ get_or edits i edit → AreTaken told (map asked_of (take i edits)) steps
    → (asking : Asked) → asked_of edit ≡ asking → IsPutOf asking from → PutsNext told (map asked_of edits) i from
puts_next told edits i edit steps from lt is taken (asked.put path at) e put =
    let size : i ≡ length (map asked_of (take i edits)) = (let n = map-size asked_of (take i edits) in let m = length-take i edits in omega (arith, n, m, lt)) in
    let split : map asked_of edits ≡ map asked_of (take i edits) ++ (asked_of edit ∷ map asked_of (drop (suc i) edits))
    = sym (ap (map asked_of) (take-append-drop i edits)) ∙ map-both asked_of (take i edits) (drop i edits) ∙ ap (λ more. map asked_of (take i edits) ++ map asked_of more) (drop-cons edits i edit lt ∙ ap (λ x. x ∷ drop (suc i) edits) (sym is)) in
    let first : asked_of edit ≡ asked.put path from = e ∙ ap (asked.put path) (sym put) in
    record {
      before = map asked_of (take i edits);
      path = path;
      after = map asked_of (drop (suc i) edits);
      edits_are = split ∙ ap (λ x. map asked_of (take i edits) ++ x ∷ map asked_of (drop (suc i) edits)) first;
      count_is = size;
      steps = steps;
      taken = taken;
    }
puts_next told edits i edit steps from lt is taken (asked.dropped path) e put = absurd put
puts_next told edits i edit steps from lt is taken asked.build e put = absurd put

-- an edit that isn't taken stands behind those that are
pub untaken : (told : Told) (edits : List Edit) (i count : ℕ) (edit : Edit) (steps : List Step) (first old new : ℕ) (unread : Unread) → i < length edits → edit ≡ get_or edits i edit → count ≡ i → first ≤ old
    → AreTaken told (map asked_of (take i edits)) steps → IsUntakenAt told (asked_of edit) count old new unread → IsUntaken told (map asked_of edits) first new unread
untaken told edits i count edit steps first old new OutOfMemory lt is size le taken u = tt
untaken told edits i count edit steps first old new (Refused (MissingFile line from)) lt is size le taken u =
    record { count = i; line_is = u.0 ∙ ap (λ n. n + 1) size; next = puts_next told edits i edit steps from lt is taken (asked_of edit) refl u.1; missing = u.2 }
untaken told edits i count edit steps first old new (Refused (UnreadFile path)) lt is size le taken u =
    record { count = i; next = puts_next told edits i edit steps path lt is taken (asked_of edit) refl u.0; rose = rose_from first old new le u.1 }
untaken told edits i count edit steps first old new (Refused Missing) lt is size le taken u = absurd u
untaken told edits i count edit steps first old new (Refused ReadFailed) lt is size le taken u = absurd u
untaken told edits i count edit steps first old new (Refused FileTooLong) lt is size le taken u = absurd u
untaken told edits i count edit steps first old new (Refused (NotUtf8 at)) lt is size le taken u = absurd u
untaken told edits i count edit steps first old new (Refused (BadEdit line)) lt is size le taken u = absurd u

-- what is said of one read after others, whose count was no higher before them
untaken_cause : (told : Told) (list : List ℕ) (edits : List Asked) (first old new : ℕ) (unread : Unread) → first ≤ old → IsListAt told list edits → IsUntaken told edits old new unread → Cause told list first new unread
untaken_cause told list edits first old new OutOfMemory le at u = tt
untaken_cause told list edits first old new (Refused (MissingFile line from)) le at u = (edits, at, u)
untaken_cause told list edits first old new (Refused (UnreadFile path)) le at u =
    (edits, at, record { count = u.count; next = u.next; rose = rose_from first old new le u.rose })
untaken_cause told list edits first old new (Refused Missing) le at u = absurd u
untaken_cause told list edits first old new (Refused ReadFailed) le at u = absurd u
untaken_cause told list edits first old new (Refused FileTooLong) le at u = absurd u
untaken_cause told list edits first old new (Refused (NotUtf8 at_byte)) le at u = absurd u
untaken_cause told list edits first old new (Refused (BadEdit line)) le at u = absurd u

-- the edits of a list that is read
pub all_taken : (told after : Told) (list : List ℕ) (edits : List Asked) (first old new : ℕ) (result : Result (Vec Taken Global) Unread) → after ≡ told → first ≤ old → IsListAt told list edits
    → MatchResult result (λ taken. AreTaken after edits (map step_of taken.items)) (IsUntaken after edits old new)
    → MatchResult result (λ taken. AreEdits told list (map step_of taken.items)) (Cause told list first new)
all_taken told after list edits first old new (Ok taken) same le at t =
    record { edits = edits; listed = at; taken = subst (λ (f : Told). AreTaken f edits (map step_of taken.items)) same t }
all_taken told after list edits first old new (Err unread) same le at t =
    untaken_cause told list edits first old new unread le at (subst (λ (f : Told). IsUntaken f edits old new unread) same t)
