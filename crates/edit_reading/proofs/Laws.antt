-- Files whose edits are read have no fault of theirs, and the faults of files are all beyond a limit or none is.
use Rattle.std.proofs.Common.{◌≡◌, ℕ, ◌+◌, ◌<◌, ◌≤◌, ◌⊎◌, inl, inr, Bool, true, false, List, [], ◌∷◌, ◌++◌, length, take, Option, Some, None, Result, Ok, Err, refl, sym, ap, ◌∙◌, subst, arith}
use Rattle.std.specs.Prelude.{option_map}
use Rattle.std.specs.Str.{IsUtf8, IsValidUpTo}
use Rattle.std.proofs.lemmas.List.{take_all}
use Rattle.edit_list.specs.Edits.{Asked, edits_of}
use Rattle.edit_list.specs.Edits as asked
use Rattle.listed_builds.specs.Doing.{Step, put, dropped, build}
use Rattle.module_loading.specs.Files.{Holds, Told}
use Rattle.edit_reading.specs.declared.fault.EditsFault.{EditsFault}
use Rattle.edit_reading.specs.declared.fault.EditsFault.TheVariants.{Missing, ReadFailed, FileTooLong, NotUtf8, BadEdit, MissingFile, UnreadFile}
use Rattle.edit_reading.specs.Lines.{is_limit, is_read_fault}
use Rattle.edit_reading.specs.Reading.{AreEdits, AreTaken, HasFault, IsListAt, LacksFile, Takes, max_bytes, none, one_more}
use Rattle.es_outside.specs.Files.{read_of}

same_some : {A : Type 0} {x y : A} → Some x ≡ Some y → x ≡ y
same_some e = cc

-- ---- edits that are taken

abbrev Each : {A : Type 0} → (A → Type 0) → List A → Type 0
Each P [] = Unit {0}
Each P (x ∷ xs) = P x × Each P xs

each_more : {A : Type 0} (P : A → Type 0) (xs : List A) (x : A) → Each P xs → P x → Each P (xs ++ x ∷ [])
each_more P [] x each last = (last, tt)
each_more P (y ∷ ys) x each last = (each.0, each_more P ys x each.1 last)

each_there : {A : Type 0} (P : A → Type 0) (before : List A) (x : A) (after : List A) → Each P (before ++ x ∷ after) → P x
each_there P [] x after each = each.0
each_there P (y ∷ before) x after each = each_there P before x after each.1

each_taken : (told : Told) (edits : List Asked) (steps : List Step) → AreTaken told edits steps → Each (λ edit. (step : Step) × Takes told edit step) edits
each_taken told _ _ none = tt
each_taken told _ _ (one_more {edits = edits} {steps = steps} edit step before takes) =
    each_more (λ (e : Asked). (s : Step) × Takes told e s) edits edit (each_taken told edits steps before) (step, takes)

-- the file that is put is there
put_there : (file : List ℕ → Option (List ℕ)) (path from : List ℕ) (step : Step) → Takes (Some file) (asked.put path from) step → file from ≡ None → ⊥
put_there file path from (put at bytes) takes lacks =
    let e : option_map (read_of max_bytes) None ≡ Some bytes = subst (λ (c : Option (List ℕ)). option_map (read_of max_bytes) c ≡ Some bytes) lacks takes.1 in
    cc
put_there file path from (dropped at) takes lacks = absurd takes
put_there file path from build takes lacks = absurd takes

taken_lacks_none : (file : List ℕ → Option (List ℕ)) (edits : List Asked) (steps : List Step) (line : ℕ) (from : List ℕ) → AreTaken (Some file) edits steps → LacksFile (Some file) edits line from → ⊥
taken_lacks_none file edits steps line from taken lacks =
    let n = lacks.next in
    let each = subst (λ (e : List Asked). Each (λ (x : Asked). (s : Step) × Takes (Some file) x s) e) n.edits_are (each_taken (Some file) edits steps taken) in
    let takes = each_there (λ (x : Asked). (s : Step) × Takes (Some file) x s) n.before (asked.put n.path from) n.after each in
    put_there file n.path from takes.0 takes.1 lacks.missing

-- ---- one answer

one_list : (file : List ℕ → Option (List ℕ)) (list : List ℕ) (edits others : List Asked) → IsListAt (Some file) list edits → IsListAt (Some file) list others → edits ≡ others
one_list file list edits others a b =
    let same : a.bytes ≡ b.bytes = same_some (sym a.holds ∙ b.holds) in
    let says : Ok edits ≡ Ok others = sym a.lists.says ∙ ap edits_of same ∙ b.lists.says in
    cc

not_both : (bytes : List ℕ) (at : ℕ) → IsUtf8 bytes → IsValidUpTo bytes at → ⊥
not_both bytes at utf8 valid =
    let within : length bytes ≤ length bytes = omega arith in
    valid.longest (length bytes) valid.short (subst IsUtf8 (sym (take_all (length bytes) bytes within)) utf8)

-- edits that are read have no fault
pub read_has_no_fault : (file : List ℕ → Option (List ℕ)) (list : List ℕ) (steps : List Step) (fault : EditsFault) → AreEdits (Some file) list steps → HasFault (Some file) list fault → ⊥
read_has_no_fault file list steps Missing a h = let e = a.listed.holds in absurd (cc)
read_has_no_fault file list steps ReadFailed a h = absurd h.2
read_has_no_fault file list steps FileTooLong a h =
    let sizes : length a.listed.bytes ≡ length h.0 = ap length (same_some (sym a.listed.holds ∙ h.1)) in
    let within = a.listed.lists.within in
    let long = h.2 in
    absurd (omega arith)
read_has_no_fault file list steps (NotUtf8 at) a h =
    let same : a.listed.bytes ≡ h.0 = same_some (sym a.listed.holds ∙ h.1) in
    not_both h.0 at (subst IsUtf8 same a.listed.lists.utf8) h.2.1
read_has_no_fault file list steps (BadEdit line) a h =
    let same : a.listed.bytes ≡ h.0 = same_some (sym a.listed.holds ∙ h.1) in
    let both : Ok a.edits ≡ Err line = sym a.listed.lists.says ∙ ap edits_of same ∙ h.2.2 in
    absurd (cc)
read_has_no_fault file list steps (MissingFile line from) a h =
    let same : a.edits ≡ h.0 = one_list file list a.edits h.0 a.listed h.1 in
    taken_lacks_none file h.0 steps line from (subst (λ (e : List Asked). AreTaken (Some file) e steps) same a.taken) h.2
read_has_no_fault file list steps (UnreadFile path) a h = absurd h.2

-- the list of a fault beyond a limit is long, and that of another isn't
long_of : (file : List ℕ → Option (List ℕ)) (list : List ℕ) (f : EditsFault) → HasFault (Some file) list f → is_limit f ≡ true → (bytes : List ℕ) × (file list ≡ Some bytes) × (max_bytes < length bytes)
long_of file list Missing h e = absurd (cc)
long_of file list ReadFailed h e = absurd (cc)
long_of file list FileTooLong h e = h
long_of file list (NotUtf8 at) h e = absurd (cc)
long_of file list (BadEdit line) h e = absurd (cc)
long_of file list (MissingFile line from) h e = absurd (cc)
long_of file list (UnreadFile path) h e = absurd (cc)

short_of : (file : List ℕ → Option (List ℕ)) (list : List ℕ) (f : EditsFault) → HasFault (Some file) list f → is_limit f ≡ false → (bytes : List ℕ) → file list ≡ Some bytes → length bytes ≤ max_bytes
short_of file list Missing h e bytes is = absurd (cc)
short_of file list ReadFailed h e bytes is = absurd h.2
short_of file list FileTooLong h e bytes is = absurd (cc)
short_of file list (NotUtf8 at) h e bytes is = subst (λ (b : List ℕ). length b ≤ max_bytes) (same_some (sym h.1 ∙ is)) h.2.0
short_of file list (BadEdit line) h e bytes is = subst (λ (b : List ℕ). length b ≤ max_bytes) (same_some (sym h.1 ∙ is)) h.2.0
short_of file list (MissingFile line from) h e bytes is = subst (λ (b : List ℕ). length b ≤ max_bytes) (same_some (sym h.1.holds ∙ is)) h.1.lists.within
short_of file list (UnreadFile path) h e bytes is = absurd h.2

not_long_and_short : (file : List ℕ → Option (List ℕ)) (list : List ℕ) (f g : EditsFault) → HasFault (Some file) list f → HasFault (Some file) list g → is_limit f ≡ true → is_limit g ≡ false → ⊥
not_long_and_short file list f g a b long short =
    let l = long_of file list f a long in
    let within = short_of file list g b short l.0 l.1 in
    let beyond = l.2 in
    omega (arith, within, beyond)

-- whether a fault of these files is beyond a limit
pub one_status : (file : List ℕ → Option (List ℕ)) (list : List ℕ) (f g : EditsFault) → HasFault (Some file) list f → HasFault (Some file) list g → is_limit f ≡ is_limit g
one_status file list f g a b = by_limits (is_limit f) (is_limit g) refl refl
  where
    by_limits : (x y : Bool) → is_limit f ≡ x → is_limit g ≡ y → is_limit f ≡ is_limit g
    by_limits true true p q = p ∙ sym q
    by_limits false false p q = p ∙ sym q
    by_limits true false p q = absurd (not_long_and_short file list f g a b p q)
    by_limits false true p q = absurd (not_long_and_short file list g f b a q p)

-- no read that failed is a fault of files
pub fault_is_no_read : (file : List ℕ → Option (List ℕ)) (list : List ℕ) (f : EditsFault) → HasFault (Some file) list f → is_read_fault f ≡ false
fault_is_no_read file list Missing h = refl
fault_is_no_read file list ReadFailed h = absurd h.2
fault_is_no_read file list FileTooLong h = refl
fault_is_no_read file list (NotUtf8 at) h = refl
fault_is_no_read file list (BadEdit line) h = refl
fault_is_no_read file list (MissingFile line from) h = refl
fault_is_no_read file list (UnreadFile path) h = absurd h.2
