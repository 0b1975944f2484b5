-- Which script stands in a file, or what is wrong with it.
use Rattle.std.specs.Prelude.{◌≡◌, ℕ, ◌<◌, ◌≤◌, List, Option, Some, None, length}
use Rattle.std.specs.Str.{chars, IsUtf8, IsValidUpTo}
use Rattle.es_outside.specs.Counts.{CountRose}
use Rattle.es_text.specs.declared.Place.{Place}
use Rattle.es5_ast.specs.declared.tree.Script.{Script}
use Rattle.es5_text.specs.declared.fault.Fault5.{Fault5}
use Rattle.es5_text.specs.declared.fault.Fault5.TheVariants.{Lexical5, Syntax5, Early5, Outside5, Depth5}
use Rattle.es5_text.specs.declared.fault.Fault5.TheVariants as parse
use Rattle.es5_text.specs.Read.{IsAccepted, IsRefused}
use Rattle.run_lines.specs.declared.script_fault.ScriptFault.{ScriptFault}
use Rattle.run_lines.specs.declared.script_fault.ScriptFault.TheVariants.{Missing, ReadFailed, FileTooLong, NotUtf8, At}
use Rattle.run_lines.specs.declared.script_fault.ScriptFinding.{ScriptFinding}
use Rattle.run_lines.specs.declared.script_fault.ScriptFinding.TheVariants.{Lexical, Syntax, TooDeep, Early, Outside}
use Rattle.script_runs.specs.Places.{place_in}
use Rattle.script_runs.specs.declared.unread.Unread.{Unread}
use Rattle.script_runs.specs.declared.unread.Unread.TheVariants.{Refused, OutOfMemory}

-- the most bytes of a script
abbrev pub max_script_bytes : ℕ
max_script_bytes = 67108864

-- what files tell: the bytes of each path, or nothing
abbrev pub Told : Type 0
Told = Option (List ℕ → Option (List ℕ))

-- The bytes are no longer than a script may be, and are this script.
pub record AreScript (bytes : List ℕ) (script : Script) : Type 0 where
  pub within : length bytes ≤ max_script_bytes
  pub utf8 : IsUtf8 bytes
  pub accepted : IsAccepted bytes script

-- ---- what is wrong with a text

-- what the parser's fault is, and its offset in bytes; want of memory is nothing
abbrev pub finding_of : Fault5 → Option (ScriptFinding × ℕ)
finding_of (Lexical5 at) = Some (Lexical, at)
finding_of (Syntax5 at) = Some (Syntax, at)
finding_of (Early5 rule at) = Some (Early rule, at)
finding_of (Outside5 rule at) = Some (Outside rule, at)
finding_of (Depth5 at) = Some (TooDeep, at)
finding_of parse.OutOfMemory = None

-- this finding, at the place of its offset
abbrev pub IsFoundAt : List ℕ → Fault5 → Place → ScriptFinding → Type 0
IsFoundAt text fault place finding = (at : ℕ) × (finding_of fault ≡ Some (finding, at)) × (place ≡ place_in text at)

-- what is told of a fault of the parser in this text
abbrev pub IsPlacedIn : List ℕ → Fault5 → Unread → Type 0
IsPlacedIn text fault (Refused (At place finding)) = IsFoundAt text fault place finding
IsPlacedIn text fault OutOfMemory = finding_of fault ≡ None
IsPlacedIn text fault _ = ⊥

-- the parser refuses the text, and finds this at this place
pub record IsUnparsed (bytes : List ℕ) (place : Place) (finding : ScriptFinding) : Type 0 where
  pub fault : Fault5
  pub refused : IsRefused bytes fault
  pub placed : IsFoundAt (chars bytes) fault place finding

-- what is wrong with these bytes: their length, their encoding, or what the parser finds
abbrev pub HasFaultIn : List ℕ → ScriptFault → Type 0
HasFaultIn bytes FileTooLong = max_script_bytes < length bytes
HasFaultIn bytes (NotUtf8 at) = (length bytes ≤ max_script_bytes) × IsValidUpTo bytes at
HasFaultIn bytes (At place finding) = (length bytes ≤ max_script_bytes) × IsUtf8 bytes × IsUnparsed bytes place finding
HasFaultIn bytes _ = ⊥

-- want of memory says nothing
abbrev pub IsUnread : List ℕ → Unread → Type 0
IsUnread bytes (Refused fault) = HasFaultIn bytes fault
IsUnread bytes OutOfMemory = Unit {0}

-- ---- what is wrong with a file

-- files that tell what each path stands for have this there; of other files nothing is said
abbrev pub Holds : Told → List ℕ → Option (List ℕ) → Type 0
Holds None path content = Unit {0}
Holds (Some file) path content = file path ≡ content

-- the script that stands in the file with this path
pub record IsScriptAt (told : Told) (path : List ℕ) (script : Script) (text : List ℕ) : Type 0 where
  pub bytes : List ℕ
  pub holds : Holds told path (Some bytes)
  pub text_is : text ≡ chars bytes
  pub is_script : AreScript bytes script

-- The file is missing, or its bytes have this fault.
abbrev pub HasFault : Told → List ℕ → ScriptFault → Type 0
HasFault told path Missing = Holds told path None
HasFault told path fault = (bytes : List ℕ) × Holds told path (Some bytes) × HasFaultIn bytes fault

-- Why a script isn't run: a read failed, so that the count of faults rose; or the file has a fault. Want of memory says nothing.
abbrev pub Cause : Told → List ℕ → ℕ → ℕ → Unread → Type 0
Cause told path old new (Refused ReadFailed) = CountRose old new
Cause told path old new (Refused fault) = HasFault told path fault
Cause told path old new OutOfMemory = Unit {0}
