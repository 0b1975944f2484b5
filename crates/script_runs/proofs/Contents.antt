-- What the bytes that were read of a file say of the file.
use Rattle.std.proofs.Common.{◌≡◌, ℕ, ◌+◌, ◌<◌, ◌≤◌, List, length, min, take, Option, Some, None, Result, Ok, Err, MatchResult, refl, sym, ap, ◌∙◌, subst, arith}
use Rattle.std.specs.Prelude.{IfSome, option_map}
use Rattle.std.specs.Str.{chars}
use Rattle.std.proofs.lemmas.List.{length-take, take_all}
use Rattle.es_outside.specs.Files.{read_of}
use Rattle.run_lines.specs.declared.script_fault.ScriptFault.TheVariants.{Missing, ReadFailed, FileTooLong, NotUtf8, At}
use Rattle.script_runs.specs.declared.reading.ReadScript.{ReadScript}
use Rattle.script_runs.specs.declared.unread.Unread.{Unread}
use Rattle.script_runs.specs.declared.unread.Unread.TheVariants.{Refused, OutOfMemory}
use Rattle.script_runs.specs.Scripts.{AreScript, Cause, Holds, IsScriptAt, IsUnread, Told}

same_some : {A : Type 0} {x y : A} → Some x ≡ Some y → x ≡ y
same_some e = cc

-- no more bytes were read than were asked for
whole : (content read : List ℕ) → take (67108864 + 1) content ≡ read → length read ≤ 67108864 → content ≡ read
whole content read e short =
    let size : min (67108864 + 1) (length content) ≡ length read = sym (length-take (67108864 + 1) content) ∙ ap length e in
    let fits : length content ≤ 67108864 + 1 = grind (arith, size, short) in
    sym (take_all (67108864 + 1) content fits) ∙ e

longer : (content read : List ℕ) → take (67108864 + 1) content ≡ read → 67108864 < length read → 67108864 < length content
longer content read e long =
    let size : min (67108864 + 1) (length content) ≡ length read = sym (length-take (67108864 + 1) content) ∙ ap length e in
    grind (arith, size, long)

short_content : (content : Option (List ℕ)) (read : List ℕ) → option_map (read_of 67108864) content ≡ Some read → length read ≤ 67108864 → content ≡ Some read
short_content None read e short = absurd (cc)
short_content (Some bytes) read e short = ap (λ z. Some z) (whole bytes read (same_some e) short)

long_content : (content : Option (List ℕ)) (read : List ℕ) → option_map (read_of 67108864) content ≡ Some read → 67108864 < length read → (bytes : List ℕ) × (content ≡ Some bytes) × (67108864 < length bytes)
long_content None read e long = absurd (cc)
long_content (Some bytes) read e long = (bytes, refl, longer bytes read (same_some e) long)

found_short : (told : Told) (path read : List ℕ) → IfSome told (λ file. option_map (read_of 67108864) (file path) ≡ Some read) → length read ≤ 67108864 → Holds told path (Some read)
found_short None path read e short = tt
found_short (Some file) path read e short = short_content (file path) read e short

found_long : (told : Told) (path read : List ℕ) → IfSome told (λ file. option_map (read_of 67108864) (file path) ≡ Some read) → 67108864 < length read
    → (bytes : List ℕ) × Holds told path (Some bytes) × (67108864 < length bytes)
found_long None path read e long = (read, tt, long)
found_long (Some file) path read e long = long_content (file path) read e long

-- what the bytes that were read have, the file has
pub found : (told : Told) (path read : List ℕ) (old new : ℕ) (result : Result ReadScript Unread) → IfSome told (λ file. option_map (read_of 67108864) (file path) ≡ Some read)
    → MatchResult result (λ it. AreScript read it.script × (it.lines ≡ chars read)) (IsUnread read)
    → MatchResult result (λ it. IsScriptAt told path it.script it.lines) (Cause told path old new)
found told path read old new (Ok it) e (is_script, text) =
    record { bytes = read; holds = found_short told path read e is_script.within; text_is = text; is_script = is_script }
found told path read old new (Err OutOfMemory) e u = tt
found told path read old new (Err (Refused Missing)) e u = absurd u
found told path read old new (Err (Refused ReadFailed)) e u = absurd u
found told path read old new (Err (Refused FileTooLong)) e long = found_long told path read e long
found told path read old new (Err (Refused (NotUtf8 at))) e u = (read, found_short told path read e u.0, u)
found told path read old new (Err (Refused (At place finding))) e u = (read, found_short told path read e u.0, u)

pub missing : (told : Told) (path : List ℕ) → IfSome told (λ file. file path ≡ None) → Holds told path None
missing None path e = tt
missing (Some file) path e = e
