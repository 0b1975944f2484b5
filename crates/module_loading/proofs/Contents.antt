-- What a read of a file says of the bytes there.
use Rattle.std.proofs.Common.{◌≡◌, ℕ, ◌+◌, ◌<◌, ◌≤◌, List, length, min, take, Option, Some, None, refl, sym, ap, ◌∙◌, arith}
use Rattle.std.specs.Prelude.{IfSome, option_map}
use Rattle.std.proofs.lemmas.List.{length-take, take_all}
use Rattle.es_outside.specs.Files.{read_of}
use Rattle.module_loading.specs.Files.{Holds}
use Rattle.module_loading.proofs.Lists.{some-same}

-- no more bytes were read than were asked for
whole-read : (bytes read : List ℕ) → take (4194304 + 1) bytes ≡ read → length read ≤ 4194304 → bytes ≡ read
whole-read bytes read e small =
    let size : min (4194304 + 1) (length bytes) ≡ length read = sym (length-take (4194304 + 1) bytes) ∙ ap length e in
    let fits : length bytes ≤ 4194304 + 1 = grind (arith, size, small) in
    sym (take_all (4194304 + 1) bytes fits) ∙ e

more-read : (bytes read : List ℕ) → take (4194304 + 1) bytes ≡ read → 4194304 < length read → 4194304 < length bytes
more-read bytes read e long =
    let size : min (4194304 + 1) (length bytes) ≡ length read = sym (length-take (4194304 + 1) bytes) ∙ ap length e in
    grind (arith, size, long)

short-content : (content : Option (List ℕ)) (read : List ℕ) → option_map (read_of 4194304) content ≡ Some read → length read ≤ 4194304 → content ≡ Some read
short-content None read e small = absurd (cc)
short-content (Some bytes) read e small = ap (λ z. Some z) (whole-read bytes read (some-same e) small)

long-content : (content : Option (List ℕ)) (read : List ℕ) → option_map (read_of 4194304) content ≡ Some read → 4194304 < length read → (bytes : List ℕ) × (content ≡ Some bytes) × (4194304 < length bytes)
long-content None read e long = absurd (cc)
long-content (Some bytes) read e long = (bytes, refl, more-read bytes read (some-same e) long)

pub found-short : (told : Option (List ℕ → Option (List ℕ))) (path read : List ℕ) → IfSome told (λ file. option_map (read_of 4194304) (file path) ≡ Some read) → length read ≤ 4194304 → Holds told path (Some read)
found-short None path read e small = tt
found-short (Some file) path read e small = short-content (file path) read e small

pub found-long : (told : Option (List ℕ → Option (List ℕ))) (path read : List ℕ) → IfSome told (λ file. option_map (read_of 4194304) (file path) ≡ Some read) → 4194304 < length read
    → (bytes : List ℕ) × Holds told path (Some bytes) × (4194304 < length bytes)
found-long None path read e long = (read, tt, long)
found-long (Some file) path read e long = long-content (file path) read e long

pub found-none : (told : Option (List ℕ → Option (List ℕ))) (path : List ℕ) → IfSome told (λ file. file path ≡ None) → Holds told path None
found-none None path e = tt
found-none (Some file) path e = e
