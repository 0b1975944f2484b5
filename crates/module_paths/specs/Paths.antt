-- Paths of modules, as texts in UTF-8: the segments of a path stand between slashes.
use Rattle.std.specs.Prelude.{ℕ, ◌-◌, Bool, false, ◌==◌, ◌&&◌, ◌||◌, not, List, [], ◌∷◌, ◌++◌, codes, cond, fold, length, nat_eq, reverse, take, Option, Some, None}
use Rattle.std.specs.List.{join_with_byte, list_any, slice_split, starts_with}
use Rattle.std.specs.Str.{bytes_eq, encode_utf8_all}
use Rattle.std.specs.Char.Utf16.{has_unpaired_surrogate, utf16_lossy_chars}

abbrev pub segments : List ℕ → List (List ℕ)
segments path = slice_split (λ b. b == 47) path

-- a path that begins with a slash
abbrev pub is_absolute : List ℕ → Bool
is_absolute [] = false
is_absolute (b ∷ bs) = b == 47

-- The folder above that of these segments, of which the last one stands first: `..` takes a segment away that isn't `..` itself.
-- Where there is none, it stays in a relative path.
abbrev pub above : Bool → List (List ℕ) → List (List ℕ)
above absolute [] = cond absolute [] (codes ".." ∷ [])
above absolute (last ∷ kept) = cond (bytes_eq last (codes "..")) (codes ".." ∷ last ∷ kept) kept

-- one segment more, behind those that are kept: an empty one and `.` change nothing
abbrev pub entered : Bool → List (List ℕ) → List ℕ → List (List ℕ)
entered absolute kept segment =
    cond (bytes_eq segment [] || bytes_eq segment (codes ".")) kept
    (cond (bytes_eq segment (codes "..")) (above absolute kept) (segment ∷ kept))

-- the segments that are kept of these, in order
abbrev pub kept_of : Bool → List (List ℕ) → List (List ℕ)
kept_of absolute all = reverse (fold (entered absolute) [] all)

abbrev pub path_text : Bool → List (List ℕ) → List ℕ
path_text absolute kept = cond absolute (codes "/") [] ++ join_with_byte 47 kept

-- the path of these segments in normal form, which has one at least
abbrev pub path_of : Bool → List (List ℕ) → Option (List ℕ)
path_of absolute all = texted (kept_of absolute all)
  where
    texted : List (List ℕ) → Option (List ℕ)
    texted [] = None
    texted kept = Some (path_text absolute kept)

abbrev pub has_nul : List ℕ → Bool
has_nul text = list_any (λ c. c == 0) text

-- the normal form of a path
abbrev pub form_of : List ℕ → Option (List ℕ)
form_of path = cond (has_nul path) None (path_of (is_absolute path) (segments path))

-- a text behind the folder of a module: the module's own name is its path's last segment
abbrev pub joined : List ℕ → List ℕ → Option (List ℕ)
joined base text = path_of (is_absolute base) (folder (segments base) ++ segments text)
  where
    folder : List (List ℕ) → List (List ℕ)
    folder all = take (length all - 1) all

abbrev pub begins_path : List ℕ → Bool
begins_path units = starts_with nat_eq units (codes "./") || starts_with nat_eq units (codes "../")

-- the path that a specifier names, of which these are the units, in the module with the path `base`
abbrev pub path_from : List ℕ → List ℕ → Option (List ℕ)
path_from base units =
    cond (begins_path units && not (has_nul units || has_unpaired_surrogate units)) (joined base (encode_utf8_all (utf16_lossy_chars units))) None
