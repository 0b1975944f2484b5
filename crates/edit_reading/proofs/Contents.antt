-- What the bytes that were read of a file say of the file.
use Rattle.std.proofs.Common.{◌≡◌, ℕ, ◌+◌, ◌<◌, ◌≤◌, List, length, map, min, take, Option, Some, None, Result, Ok, Err, MatchResult, Vec, refl, sym, ap, ◌∙◌, arith}
use Rattle.std.specs.Global.{Global}
use Rattle.std.specs.Prelude.{IfSome, option_map}
use Rattle.std.proofs.lemmas.List.{length-take, take_all}
use Rattle.es_outside.specs.Files.{read_of}
use Rattle.edit_list.specs.Edits.{asked_of}
use Rattle.edit_list.specs.declared.edit.Edit.{Edit}
use Rattle.module_loading.specs.Files.{Holds, Told}
use Rattle.edit_reading.specs.declared.fault.EditsFault.TheVariants.{Missing, ReadFailed, FileTooLong, NotUtf8, BadEdit, MissingFile, UnreadFile}
use Rattle.edit_reading.specs.declared.fault.Unread.{Unread}
use Rattle.edit_reading.specs.declared.fault.Unread.TheVariants.{Refused, OutOfMemory}
use Rattle.edit_reading.specs.Reading.{Cause, IsListAt, IsUnread, Lists}

same_some : {A : Type 0} {x y : A} → Some x ≡ Some y → x ≡ y
same_some e = cc

-- no more bytes were read than were asked for
whole : (content read : List ℕ) → take (4194304 + 1) content ≡ read → length read ≤ 4194304 → content ≡ read
whole content read e short =
    let size : min (4194304 + 1) (length content) ≡ length read = sym (length-take (4194304 + 1) content) ∙ ap length e in
    let fits : length content ≤ 4194304 + 1 = grind (arith, size, short) in
    sym (take_all (4194304 + 1) content fits) ∙ e

longer : (content read : List ℕ) → take (4194304 + 1) content ≡ read → 4194304 < length read → 4194304 < length content
longer content read e long =
    let size : min (4194304 + 1) (length content) ≡ length read = sym (length-take (4194304 + 1) content) ∙ ap length e in
    grind (arith, size, long)

short_content : (content : Option (List ℕ)) (read : List ℕ) → option_map (read_of 4194304) content ≡ Some read → length read ≤ 4194304 → content ≡ Some read
short_content None read e short = absurd (cc)
short_content (Some bytes) read e short = ap (λ z. Some z) (whole bytes read (same_some e) short)

long_content : (content : Option (List ℕ)) (read : List ℕ) → option_map (read_of 4194304) content ≡ Some read → 4194304 < length read → (bytes : List ℕ) × (content ≡ Some bytes) × (4194304 < length bytes)
long_content None read e long = absurd (cc)
long_content (Some bytes) read e long = (bytes, refl, longer bytes read (same_some e) long)

found_short : (told : Told) (path read : List ℕ) → IfSome told (λ file. option_map (read_of 4194304) (file path) ≡ Some read) → length read ≤ 4194304 → Holds told path (Some read)
found_short None path read e short = tt
found_short (Some file) path read e short = short_content (file path) read e short

found_long : (told : Told) (path read : List ℕ) → IfSome told (λ file. option_map (read_of 4194304) (file path) ≡ Some read) → 4194304 < length read
    → (bytes : List ℕ) × Holds told path (Some bytes) × (4194304 < length bytes)
found_long None path read e long = (read, tt, long)
found_long (Some file) path read e long = long_content (file path) read e long

-- what the bytes that were read have, the list has
pub found : (told : Told) (list read : List ℕ) (old new : ℕ) (result : Result (Vec Edit Global) Unread) → IfSome told (λ file. option_map (read_of 4194304) (file list) ≡ Some read)
    → MatchResult result (λ edits. Lists read (map asked_of edits.items)) (IsUnread read)
    → MatchResult result (λ edits. IsListAt told list (map asked_of edits.items)) (Cause told list old new)
found told list read old new (Ok edits) e lists = record { bytes = read; holds = found_short told list read e lists.within; lists = lists }
found told list read old new (Err OutOfMemory) e u = tt
found told list read old new (Err (Refused Missing)) e u = absurd u
found told list read old new (Err (Refused ReadFailed)) e u = absurd u
found told list read old new (Err (Refused FileTooLong)) e long = found_long told list read e long
found told list read old new (Err (Refused (NotUtf8 at))) e u = (read, found_short told list read e u.0, u)
found told list read old new (Err (Refused (BadEdit line))) e u = (read, found_short told list read e u.0, u)
found told list read old new (Err (Refused (MissingFile line from))) e u = absurd u
found told list read old new (Err (Refused (UnreadFile path))) e u = absurd u

pub missing : (told : Told) (path : List ℕ) → IfSome told (λ file. file path ≡ None) → Holds told path None
missing None path e = tt
missing (Some file) path e = e
