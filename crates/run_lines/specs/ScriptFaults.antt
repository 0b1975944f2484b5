-- The lines that say why a script isn't run.
use Rattle.std.specs.Prelude.{ℕ, Bool, true, false, List, [], ◌∷◌, ◌++◌, codes}
use Rattle.std.specs.Fmt.{decimal}
use Rattle.es_text.specs.declared.Place.{Place}
use Rattle.graph_refusals.specs.Lines.{fault_text, line_of, place_text}
use Rattle.graph_refusals.specs.Lines.{finding_text as text_in_module}
use Rattle.graph_refusals.specs.declared.fault.FileFault.{FileFault}
use Rattle.graph_refusals.specs.declared.fault.FileFault.TheVariants as file
use Rattle.graph_refusals.specs.declared.fault.PlacedFault.{PlacedFault}
use Rattle.graph_refusals.specs.declared.fault.PlacedFault.TheVariants as placed
use Rattle.run_lines.specs.declared.script_fault.ScriptFault.{ScriptFault}
use Rattle.run_lines.specs.declared.script_fault.ScriptFault.TheVariants.{Missing, ReadFailed, FileTooLong, NotUtf8, At}
use Rattle.run_lines.specs.declared.script_fault.ScriptFinding.{ScriptFinding}
use Rattle.run_lines.specs.declared.script_fault.ScriptFinding.TheVariants.{Lexical, Syntax, TooDeep, Early, Outside}

-- what a module's line says of what is wrong at a place
abbrev pub graph_finding : PlacedFault → List ℕ
graph_finding fault = text_in_module fault

-- what stands at the place
abbrev pub finding_text : ScriptFinding → List ℕ
finding_text Lexical = codes "lexical fault"
finding_text Syntax = graph_finding placed.Syntax
finding_text TooDeep = graph_finding placed.TooDeep
finding_text (Early rule) = codes "early error F" ++ decimal rule
finding_text (Outside rule) = codes "outside the profile V" ++ decimal rule

-- the line of something at a place
abbrev pub placed_line : List ℕ → Place → List ℕ → List ℕ
placed_line path place text = path ++ (place_text place ++ (codes ": " ++ text)) ++ 10 ∷ []

-- the line that a module with this path has for this fault
abbrev pub file_line : List ℕ → FileFault → List ℕ
file_line path fault = line_of (record { path = path; fault = fault })

abbrev pub script_line : List ℕ → ScriptFault → List ℕ
script_line path Missing = file_line path file.Missing
script_line path ReadFailed = file_line path file.ReadFailed
script_line path FileTooLong = file_line path file.FileTooLong
script_line path (NotUtf8 at) = file_line path (file.NotUtf8 at)
script_line path (At place finding) = placed_line path place (finding_text finding)

-- the faults of a script that is beyond a limit
abbrev pub is_limit_there : ScriptFinding → Bool
is_limit_there TooDeep = true
is_limit_there _ = false

abbrev pub is_limit : ScriptFault → Bool
is_limit FileTooLong = true
is_limit (At place finding) = is_limit_there finding
is_limit _ = false
