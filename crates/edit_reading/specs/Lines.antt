-- The line that says why the edits of a list aren't done.
use Rattle.std.specs.Prelude.{ℕ, Bool, true, false, List, ◌++◌, codes}
use Rattle.std.specs.Fmt.{decimal}
use Rattle.graph_refusals.specs.Quoted.{name_units, quoted}
use Rattle.edit_reading.specs.declared.fault.EditsFault.{EditsFault}
use Rattle.edit_reading.specs.declared.fault.EditsFault.TheVariants.{Missing, ReadFailed, FileTooLong, NotUtf8, BadEdit, MissingFile, UnreadFile}

-- what is said of the list's line with this number
abbrev pub line_at : List ℕ → ℕ → List ℕ → List ℕ
line_at list line text = list ++ (codes ":" ++ (decimal line ++ codes ":1: ")) ++ text

-- the line of a fault of the list with this path, or of a file that its edits need
abbrev pub line_of : List ℕ → EditsFault → List ℕ
line_of list Missing = list ++ codes ": missing\n"
line_of list ReadFailed = list ++ codes ": read fault\n"
line_of list FileTooLong = list ++ codes ": file too long\n"
line_of list (NotUtf8 at) = list ++ (codes ": not UTF-8 at byte " ++ (decimal at ++ codes "\n"))
line_of list (BadEdit line) = line_at list line (codes "bad edit\n")
line_of list (MissingFile line from) = line_at list line (codes "missing file ") ++ (quoted (name_units from) ++ codes "\n")
line_of list (UnreadFile path) = path ++ codes ": read fault\n"

-- the list is beyond a limit
abbrev pub is_limit : EditsFault → Bool
is_limit FileTooLong = true
is_limit _ = false

-- a read failed
abbrev pub is_read_fault : EditsFault → Bool
is_read_fault ReadFailed = true
is_read_fault (UnreadFile path) = true
is_read_fault _ = false
