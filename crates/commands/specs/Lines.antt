-- The lines of refusals, and the numbers of statuses.
use Rattle.std.specs.Prelude.{ℕ, if◌then◌else◌, List, [], ◌∷◌, ◌++◌, codes}
use Rattle.std.specs.Fmt.{decimal}
use Rattle.commands.specs.declared.status.Status.{Status}
use Rattle.commands.specs.declared.status.Status.TheVariants as status
use Rattle.commands.specs.declared.fault.Fault.{Fault}
use Rattle.commands.specs.declared.fault.Fault.TheVariants.{Missing, ReadFailed, FileTooLong, InGraph, InScript, InEdits, BadMap, Unlike}
use Rattle.edit_reading.specs.Lines as edits
use Rattle.edit_reading.specs.Lines.{is_read_fault}
use Rattle.edit_reading.specs.declared.fault.EditsFault.{EditsFault}
use Rattle.graph_refusals.specs.declared.fault.FileFault.{FileFault}
use Rattle.graph_refusals.specs.declared.fault.FileFault.TheVariants as in_file
use Rattle.graph_refusals.specs.Lines as graph
use Rattle.graph_refusals.specs.Lines.{is_limit}
use Rattle.run_lines.specs.ScriptFaults.{script_line}
use Rattle.run_lines.specs.ScriptFaults as script
use Rattle.run_lines.specs.declared.script_fault.ScriptFault.{ScriptFault}
use Rattle.run_lines.specs.declared.script_fault.ScriptFault.TheVariants as in_script
use Rattle.source_map.specs.declared.fault.MapFault.{MapFault}
use Rattle.source_map.specs.declared.fault.MapFault.TheVariants.{NoMap, BadBase64, BadJson, BadVersion, BadDigit, BadFields, BadIndex}

abbrev pub code_of : Status → ℕ
code_of status.Done = 0
code_of status.Refused = 1
code_of status.Usage = 2
code_of status.ReadFault = 3
code_of status.WriteFault = 4
code_of status.OutOfMemory = 5
code_of status.Limit = 6
code_of status.Threw = 7
code_of status.Left = 8
code_of status.StepsSpent = 9
code_of status.HostFault = 10

-- the line of a fault of a map: its kind, and its place where it has one, in characters of `mappings` from 0
abbrev pub map_fault_line : List ℕ → MapFault → List ℕ
map_fault_line path NoMap = path ++ (codes ": map fault NoMap" ++ 10 ∷ [])
map_fault_line path BadBase64 = path ++ (codes ": map fault BadBase64" ++ 10 ∷ [])
map_fault_line path BadJson = path ++ (codes ": map fault BadJson" ++ 10 ∷ [])
map_fault_line path BadVersion = path ++ (codes ": map fault BadVersion" ++ 10 ∷ [])
map_fault_line path (BadDigit at) = path ++ codes ": map fault BadDigit at " ++ (decimal at ++ 10 ∷ [])
map_fault_line path (BadFields at) = path ++ codes ": map fault BadFields at " ++ (decimal at ++ 10 ∷ [])
map_fault_line path (BadIndex at) = path ++ codes ": map fault BadIndex at " ++ (decimal at ++ 10 ∷ [])
map_fault_line path _ = []

-- what each fault's line says; the path is that of the file, or the word of the command
abbrev pub line_of : List ℕ → Fault → List ℕ
line_of path Missing = path ++ (codes ": missing" ++ 10 ∷ [])
line_of path ReadFailed = path ++ (codes ": read fault" ++ 10 ∷ [])
line_of path FileTooLong = path ++ (codes ": file too long" ++ 10 ∷ [])
line_of path (InGraph refusal) = graph.line_of refusal
line_of path (InScript fault) = script_line path fault
line_of path (InEdits fault) = edits.line_of path fault
line_of path (BadMap fault) = map_fault_line path fault
line_of path Unlike = path ++ (codes ": events differ" ++ 10 ∷ [])

abbrev pub usage_line : List ℕ
usage_line =
    codes "usage: es5c build ENTRY / split ENTRY / rebuild ENTRY LIST / run ENTRY [--steps N] / run5 SCRIPT [--steps N] / map SCRIPT / sample N"
    ++ 10 ∷ []

-- the status of each fault
abbrev pub graph_status_of : FileFault → Status
graph_status_of in_file.ReadFailed = status.ReadFault
graph_status_of fault = (if is_limit fault then status.Limit else status.Refused)

abbrev pub script_status_of : ScriptFault → Status
script_status_of in_script.ReadFailed = status.ReadFault
script_status_of fault = (if script.is_limit fault then status.Limit else status.Refused)

abbrev pub edits_status_of : EditsFault → Status
edits_status_of fault = (if is_read_fault fault then status.ReadFault else if edits.is_limit fault then status.Limit else status.Refused)

abbrev pub status_of : Fault → Status
status_of Missing = status.Refused
status_of ReadFailed = status.ReadFault
status_of FileTooLong = status.Limit
status_of (InGraph refusal) = graph_status_of refusal.fault
status_of (InScript fault) = script_status_of fault
status_of (InEdits fault) = edits_status_of fault
status_of (BadMap fault) = status.Refused
status_of Unlike = status.Refused
