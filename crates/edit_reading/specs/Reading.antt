-- Which edits a list in a file says, with which files, or what is wrong with the list or with a file.
use Rattle.std.specs.Prelude.{◌≡◌, ℕ, ◌+◌, ◌<◌, ◌≤◌, List, [], ◌∷◌, ◌++◌, Some, None, IfSome, length, option_map, Ok, Err}
use Rattle.std.specs.Str.{IsUtf8, IsValidUpTo}
use Rattle.es_outside.specs.Counts.{CountRose}
use Rattle.es_outside.specs.Files.{read_of}
use Rattle.edit_list.specs.Edits.{Asked, edits_of}
use Rattle.edit_list.specs.Edits as asked
use Rattle.listed_builds.specs.Doing.{Step, put, dropped, build}
use Rattle.module_loading.specs.Files.{Holds, Told}
use Rattle.edit_reading.specs.declared.fault.EditsFault.{EditsFault}
use Rattle.edit_reading.specs.declared.fault.EditsFault.TheVariants.{Missing, ReadFailed, FileTooLong, NotUtf8, BadEdit, MissingFile, UnreadFile}
use Rattle.edit_reading.specs.declared.fault.Unread.{Unread}
use Rattle.edit_reading.specs.declared.fault.Unread.TheVariants.{Refused, OutOfMemory}

-- the most bytes of a list, and of a file that is put
abbrev pub max_bytes : ℕ
max_bytes = 4194304

-- ---- the list

-- These bytes are no longer than a list may be, and list these edits.
pub record Lists (bytes : List ℕ) (edits : List Asked) : Type 0 where
  pub within : length bytes ≤ max_bytes
  pub utf8 : IsUtf8 bytes
  pub says : edits_of bytes ≡ Ok edits

-- what is wrong with these bytes: their length, their encoding, or a line
abbrev pub HasListFault : List ℕ → EditsFault → Type 0
HasListFault bytes FileTooLong = max_bytes < length bytes
HasListFault bytes (NotUtf8 at) = (length bytes ≤ max_bytes) × IsValidUpTo bytes at
HasListFault bytes (BadEdit line) = (length bytes ≤ max_bytes) × IsUtf8 bytes × (edits_of bytes ≡ Err line)
HasListFault bytes _ = ⊥

-- want of memory says nothing
abbrev pub IsUnread : List ℕ → Unread → Type 0
IsUnread bytes (Refused fault) = HasListFault bytes fault
IsUnread bytes OutOfMemory = Unit {0}

-- the list that stands in the file with this path
pub record IsListAt (told : Told) (list : List ℕ) (edits : List Asked) : Type 0 where
  pub bytes : List ℕ
  pub holds : Holds told list (Some bytes)
  pub lists : Lists bytes edits

-- ---- the files

-- what is put of the file at a path: all of it, or one byte more than the limit
abbrev pub Puts : Told → List ℕ → List ℕ → Type 0
Puts told from bytes = IfSome told (λ file. option_map (read_of max_bytes) (file from) ≡ Some bytes)

-- an edit with the bytes that it puts
abbrev pub Takes : Told → Asked → Step → Type 0
Takes told (asked.put path from) (put at bytes) = (at ≡ path) × Puts told from bytes
Takes told (asked.dropped path) (dropped at) = at ≡ path
Takes told asked.build build = Unit {0}
Takes told _ _ = ⊥

-- the same of these, in order
pub data AreTaken (told : Told) : List Asked → List Step → Type 0 where
  none : AreTaken told [] []
  one_more : {edits : List Asked} {steps : List Step} (edit : Asked) (step : Step) → AreTaken told edits steps → Takes told edit step → AreTaken told (edits ++ edit ∷ []) (steps ++ step ∷ [])

-- Of these edits, behind so many whose files are there, the next one puts the file at this path.
pub record PutsNext (told : Told) (edits : List Asked) (count : ℕ) (from : List ℕ) : Type 0 where
  pub before : List Asked
  pub path : List ℕ
  pub after : List Asked
  pub edits_are : edits ≡ before ++ asked.put path from ∷ after
  pub count_is : count ≡ length before
  pub steps : List Step
  pub taken : AreTaken told before steps

-- the file that the edit of a line puts isn't there
pub record LacksFile (told : Told) (edits : List Asked) (line : ℕ) (from : List ℕ) : Type 0 where
  pub count : ℕ
  pub line_is : line ≡ count + 1
  pub next : PutsNext told edits count from
  pub missing : Holds told from None

-- the file that an edit puts couldn't be read
pub record FailsFile (told : Told) (edits : List Asked) (old new : ℕ) (from : List ℕ) : Type 0 where
  pub count : ℕ
  pub next : PutsNext told edits count from
  pub rose : CountRose old new

abbrev pub IsUntaken : Told → List Asked → ℕ → ℕ → Unread → Type 0
IsUntaken told edits old new (Refused (MissingFile line from)) = LacksFile told edits line from
IsUntaken told edits old new (Refused (UnreadFile path)) = FailsFile told edits old new path
IsUntaken told edits old new (Refused _) = ⊥
IsUntaken told edits old new OutOfMemory = Unit {0}

-- the same of one edit behind so many others
abbrev pub IsPutOf : Asked → List ℕ → Type 0
IsPutOf (asked.put path from) wanted = wanted ≡ from
IsPutOf _ wanted = ⊥

abbrev pub IsUntakenAt : Told → Asked → ℕ → ℕ → ℕ → Unread → Type 0
IsUntakenAt told edit before old new (Refused (MissingFile line from)) = (line ≡ before + 1) × IsPutOf edit from × Holds told from None
IsUntakenAt told edit before old new (Refused (UnreadFile path)) = IsPutOf edit path × CountRose old new
IsUntakenAt told edit before old new (Refused _) = ⊥
IsUntakenAt told edit before old new OutOfMemory = Unit {0}

-- ---- both

-- the edits of the list in the file with this path, with the bytes that they put
pub record AreEdits (told : Told) (list : List ℕ) (steps : List Step) : Type 0 where
  pub edits : List Asked
  pub listed : IsListAt told list edits
  pub taken : AreTaken told edits steps

-- The list is missing, or has this fault, or lacks a file.
abbrev pub HasFault : Told → List ℕ → EditsFault → Type 0
HasFault told list Missing = Holds told list None
HasFault told list (MissingFile line from) = (edits : List Asked) × IsListAt told list edits × LacksFile told edits line from
HasFault told list fault = (bytes : List ℕ) × Holds told list (Some bytes) × HasListFault bytes fault

-- a file that an edit of the list puts couldn't be read
abbrev pub HasUnreadFile : Told → List ℕ → ℕ → ℕ → List ℕ → Type 0
HasUnreadFile told list old new from = (edits : List Asked) × IsListAt told list edits × FailsFile told edits old new from

-- Why edits aren't read: a read failed, so that the count of faults rose; or the files have a fault. Want of memory says nothing.
abbrev pub Cause : Told → List ℕ → ℕ → ℕ → Unread → Type 0
Cause told list old new (Refused ReadFailed) = CountRose old new
Cause told list old new (Refused (UnreadFile path)) = HasUnreadFile told list old new path
Cause told list old new (Refused fault) = HasFault told list fault
Cause told list old new OutOfMemory = Unit {0}
