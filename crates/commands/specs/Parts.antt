-- What the parts of a command leave, from which its outcome comes.
use Rattle.std.specs.Prelude.{◌≡◌, ℕ, ◌<◌, ◌≤◌, ◌⊎◌, List, [], Some, Result, Ok, Err, codes, length}
use Rattle.es6_ast.specs.declared.graph.Graph.{Graph}
use Rattle.first_trees.specs.declared.Module.{Module}
use Rattle.first_forms.specs.Lexing.{tokens_of}
use Rattle.first_forms.specs.Modules.{Spells}
use Rattle.first_script.specs.Script.{IsScriptOf}
use Rattle.source_map.specs.Line.{map_text_of}
use Rattle.source_map.specs.declared.fault.MapFault.{MapFault}
use Rattle.source_map.specs.declared.fault.MapFault.TheVariants as map_fault
use Rattle.command_words.specs.Words.{Asked}
use Rattle.command_words.specs.Words as asked
use Rattle.command_words.specs.declared.command.WordsFault.{WordsFault}
use Rattle.command_words.specs.declared.command.WordsFault.TheVariants as words
use Rattle.edit_reading.specs.declared.fault.EditsFault.TheVariants.{UnreadFile}
use Rattle.edit_reading.specs.declared.fault.Unread.{Unread as UnreadList}
use Rattle.edit_reading.specs.declared.fault.Unread.TheVariants as unread_list
use Rattle.listed_builds.specs.declared.fault.BuildFault.{BuildFault}
use Rattle.listed_builds.specs.declared.fault.BuildFault.TheVariants as build_fault
use Rattle.module_loading.specs.Files.{Told}
use Rattle.module_linker.specs.graph_checks.Checks.{Refuses}
use Rattle.module_linker.specs.graph_checks.Runs.{HasRunGraph}
use Rattle.pipeline.specs.Compiled.{IsCompiled}
use Rattle.graph_refusals.specs.declared.fault.GraphFault.{GraphFault}
use Rattle.graph_refusals.specs.declared.fault.GraphFault.TheVariants as graph_fault
use Rattle.graph_refusals.specs.declared.fault.FileFault.{FileFault}
use Rattle.graph_refusals.specs.declared.fault.FileFault.TheVariants as in_file
use Rattle.program_runs.specs.Around.{Hosted}
use Rattle.program_runs.specs.declared.end.RunEnd.{RunEnd}
use Rattle.sample_runs.specs.Comparing.{IsCompared}
use Rattle.sample_runs.specs.Telling.{sample_line}
use Rattle.sample_runs.specs.declared.comparison.Comparison.{Comparison}
use Rattle.sample_runs.specs.declared.comparison.Comparison.TheVariants.{Left, Same, Spent, Threw, Unlike, Unread as NoScript}
use Rattle.script_runs.specs.Runs.{HasRun}
use Rattle.script_runs.specs.declared.unread.Unread.{Unread}
use Rattle.script_runs.specs.declared.unread.Unread.TheVariants as unread
use Rattle.commands.specs.declared.status.Status.{Status}
use Rattle.commands.specs.declared.status.Status.TheVariants as status
use Rattle.commands.specs.declared.fault.Fault.{Fault}
use Rattle.commands.specs.declared.fault.Fault.TheVariants.{InGraph, InScript, InEdits, BadMap}
use Rattle.commands.specs.declared.fault.Fault.TheVariants as fault
use Rattle.commands.specs.declared.fault.CommandFault.{CommandFault}
use Rattle.commands.specs.declared.fault.CommandFault.TheVariants.{Refused, OutOfMemory}
use Rattle.commands.specs.declared.sample.Sampled.{Sampled}
use Rattle.commands.specs.Lines.{line_of, status_of, usage_line}
use Rattle.commands.specs.Outcome.{max_module_bytes, max_script_bytes, IsAccepted, IsGraphScript, IsRebuilt, IsSampled, IsSplitGraph, IsNoForm, HasMap, HasNoMap, IsMapText, map_line, OnFile, Cause, subject, Written, HasAdded, IsEnded, IsSaid, after, before, print_alone, sample_entry, sample_told}

abbrev pub map_fault_of : MapFault → CommandFault
map_fault_of map_fault.OutOfMemory = OutOfMemory
map_fault_of fault = Refused (BadMap fault)

abbrev pub graph_fault_of : GraphFault → CommandFault
graph_fault_of graph_fault.OutOfMemory = OutOfMemory
graph_fault_of (graph_fault.Refused refusal) = Refused (InGraph refusal)

abbrev pub edits_fault_of : UnreadList → CommandFault
edits_fault_of unread_list.OutOfMemory = OutOfMemory
edits_fault_of (unread_list.Refused fault) = Refused (InEdits fault)

abbrev pub build_fault_of : BuildFault → CommandFault
build_fault_of build_fault.OutOfMemory = OutOfMemory
build_fault_of (build_fault.Unread path) = Refused (InEdits (UnreadFile path))

-- what the entry itself is refused for
abbrev pub entry_refusal : List ℕ → FileFault → Fault
entry_refusal entry fault = InGraph (record { path = entry; fault = fault })

-- the entry's fault, or want of memory
abbrev pub IsEntryFault : List ℕ → FileFault → CommandFault → Type 0
IsEntryFault entry fault (Refused answer) = answer ≡ entry_refusal entry fault
IsEntryFault entry fault OutOfMemory = Unit {0}

-- The script of the bytes of an entry: that of its module where this is in one of the first forms, else the one that its graph is compiled to.
pub data IsBytesScript (hosts : List (List ℕ)) (bytes compiled : List ℕ) : List ℕ → Type 0 where
  formed : {script : List ℕ} (m : Module) → length bytes ≤ max_module_bytes → Spells hosts (tokens_of bytes) m → IsScriptOf hosts m script → IsBytesScript hosts bytes compiled script
  unformed : length bytes ≤ max_module_bytes → IsNoForm hosts bytes → IsBytesScript hosts bytes compiled compiled

-- what they hold against it
pub data RefusesBytes (hosts : List (List ℕ)) (entry bytes : List ℕ) : Fault → Type 0 where
  bytes_too_long : max_module_bytes < length bytes → RefusesBytes hosts entry bytes (entry_refusal entry in_file.FileTooLong)

abbrev pub FitsBytes : List (List ℕ) → List ℕ → List ℕ → CommandFault → Type 0
FitsBytes hosts entry bytes (Refused fault) = RefusesBytes hosts entry bytes fault
FitsBytes hosts entry bytes OutOfMemory = Unit {0}

-- The text of the map in the bytes of a script, and what they hold against it.
pub record IsBytesMap (bytes line : List ℕ) : Type 0 where
  pub text : List ℕ
  pub within : length bytes ≤ max_script_bytes
  pub holds : map_text_of bytes ≡ Ok text
  pub is_map : IsMapText text
  pub line_is : line ≡ map_line text

abbrev pub FitsScript : List ℕ → CommandFault → Type 0
FitsScript bytes (Refused fault) = HasNoMap (Some bytes) fault
FitsScript bytes OutOfMemory = Unit {0}

-- what a fault of the words leaves
abbrev pub IsMisuseOutcome : WordsFault → Written → Status → Type 0
IsMisuseOutcome words.Usage err s = IsSaid err usage_line status.Usage s
IsMisuseOutcome words.OutOfMemory err s = (s ≡ status.OutOfMemory) × HasAdded err []

-- what a fault of a command leaves, in a line about its subject
abbrev pub IsFailOutcome : List ℕ → CommandFault → Written → Status → Type 0
IsFailOutcome path (Refused fault) err s = IsSaid err (line_of path fault) (status_of fault) s
IsFailOutcome path OutOfMemory err s = (s ≡ status.OutOfMemory) × HasAdded err []

-- What a command leaves on both sinks: the text that it makes, or the line of a fault, or nothing.
pub data IsWritten (path : List ℕ) (made : List ℕ → Type 0) (fits : CommandFault → Type 0) (out err : Written) : Status → Type 0 where
  wrote : {s : Status} (bytes : List ℕ) → made bytes → IsSaid out bytes status.Done s → HasAdded err [] → IsWritten path made fits out err s
  failed : {s : Status} (fault : CommandFault) → fits fault → IsFailOutcome path fault err s → HasAdded out [] → IsWritten path made fits out err s

-- what a command is refused for, by its files, or by the reading of them
abbrev pub Fits : List (List ℕ) → Asked → Told → ℕ → ℕ → CommandFault → Type 0
Fits hosts a told old new (Refused fault) = Cause hosts a told old new fault
Fits hosts a told old new OutOfMemory = Unit {0}

-- The graph of the entry passes, and this is the script of the entry's module, or that of the graph.
pub data IsFileScript (hosts : List (List ℕ)) (told : Told) (entry : List ℕ) : List ℕ → Type 0 where
  of_module : {script : List ℕ} (m : Module) → IsAccepted hosts told entry m → IsScriptOf hosts m script → IsFileScript hosts told entry script
  of_graph : {script : List ℕ} → IsGraphScript hosts told entry script → IsFileScript hosts told entry script

-- The file, or one that tells nothing, holds a map, and this is its text on a line.
pub record IsFileMap (told : Told) (path line : List ℕ) : Type 0 where
  pub text : List ℕ
  pub accepted : OnFile told path (λ file. HasMap file text)
  pub is_map : IsMapText text
  pub line_is : line ≡ map_line text

-- what a command makes
abbrev pub MadeBy : List (List ℕ) → Asked → Told → List ℕ → Type 0
MadeBy hosts (asked.build entry) told bytes = IsFileScript hosts told entry bytes
MadeBy hosts (asked.split entry) told bytes = IsSplitGraph hosts told entry bytes
MadeBy hosts (asked.rebuild entry list) told bytes = IsRebuilt hosts told entry list bytes
MadeBy hosts (asked.map_of path) told bytes = IsFileMap told path bytes
MadeBy hosts _ told bytes = ⊥

-- what a command leaves that runs no program
abbrev pub IsAnswer : List (List ℕ) → Asked → Told → ℕ → ℕ → Written → Written → Status → Type 0
IsAnswer hosts a told old new out err s = IsWritten (subject a) (MadeBy hosts a told) (Fits hosts a told old new) out err s

-- what is told of a script: how its run ended, or in a line why it wasn't run
abbrev pub IsToldOf : List ℕ → List (List ℕ) → Written → Result RunEnd Unread → Status → Type 0
IsToldOf path hosts err (Ok e) s = IsEnded hosts err e s
IsToldOf path hosts err (Err (unread.Refused fault)) s = IsSaid err (line_of path (InScript fault)) (status_of (InScript fault)) s
IsToldOf path hosts err (Err unread.OutOfMemory) s = (s ≡ status.OutOfMemory) × HasAdded err []

-- what is told of a graph: how its run ended, or in a line why it wasn't run
abbrev pub IsToldOfGraph : List ℕ → List (List ℕ) → Written → Result RunEnd GraphFault → Status → Type 0
IsToldOfGraph path hosts err (Ok e) s = IsEnded hosts err e s
IsToldOfGraph path hosts err (Err (graph_fault.Refused refusal)) s = IsSaid err (line_of path (InGraph refusal)) (status_of (InGraph refusal)) s
IsToldOfGraph path hosts err (Err graph_fault.OutOfMemory) s = (s ≡ status.OutOfMemory) × HasAdded err []

-- what is left of a program that was run so
pub record IsTalk (hosts : List (List ℕ)) (ran : RunEnd → Type 0) (err : Written) (s : Status) : Type 0 where
  pub end : RunEnd
  pub run : ran end
  pub ended : IsEnded hosts err end s

abbrev pub TalksBy : List (List ℕ) → Asked → Told → Hosted → Hosted → Written → Written → Status → Type 0
TalksBy hosts (asked.run entry steps) told hosts_old hosts_new out err s = IsTalk hosts (HasRunGraph hosts told entry steps (before hosts_old out) (after hosts_new out)) err s
TalksBy hosts (asked.run5 path steps) told hosts_old hosts_new out err s = IsTalk hosts (HasRun told path steps (before hosts_old out) (after hosts_new out)) err s
TalksBy hosts _ told hosts_old hosts_new out err s = ⊥

-- what comes of a linked graph and the script that it is compiled to
pub record IsComparedGraph (linked : Graph) (hosts : List (List ℕ)) (comparison : Comparison) : Type 0 where
  pub script : List ℕ
  pub compiled : IsCompiled linked hosts script
  pub compared : IsCompared linked hosts script comparison

-- what comes of the sample graph, with its line
pub record IsSampledWith (count : ℕ) (sampled : Sampled) : Type 0 where
  pub is_sampled : IsSampled count sampled.comparison
  pub line_is : sampled.line.items ≡ sample_line count sampled.comparison

-- or what it is refused for
abbrev pub FitsSample : ℕ → CommandFault → Type 0
FitsSample count (Refused (InGraph refusal)) = Refuses (sample_told count) print_alone sample_entry refusal
FitsSample count (Refused _) = ⊥
FitsSample count OutOfMemory = Unit {0}

abbrev pub sample_word : List ℕ
sample_word = codes "sample"

-- a line was written to the output
abbrev pub IsPut : Written → Written → List ℕ → Status → Status → Type 0
IsPut out err line wanted s = IsSaid out line wanted s × HasAdded err []

-- a fault was written to the error stream
abbrev pub IsBlamed : Written → Written → Fault → Status → Type 0
IsBlamed out err fault s = IsSaid err (line_of sample_word fault) (status_of fault) s × HasAdded out []

-- what is told of both runs
abbrev pub IsToldOfBoth : Comparison → List ℕ → Written → Written → Status → Type 0
IsToldOfBoth (Same events) line out err s = IsPut out err line status.Done s
IsToldOfBoth (Threw seen) line out err s = IsPut out err line status.Threw s
IsToldOfBoth (Left exit path place) line out err s = IsPut out err line status.Left s
IsToldOfBoth Spent line out err s = IsPut out err line status.StepsSpent s
IsToldOfBoth Unlike line out err s = IsBlamed out err fault.Unlike s
IsToldOfBoth (NoScript f) line out err s = IsBlamed out err (InScript f) s

abbrev pub IsSampleTold : Sampled → Written → Written → Status → Type 0
IsSampleTold sampled out err s = IsToldOfBoth sampled.comparison sampled.line.items out err s

-- What the sample with so many modules beside its entry leaves: what is told of both runs, or why there are none.
pub data IsSampleOutcome (count : ℕ) (out err : Written) : Status → Type 0 where
  both_ran : {s : Status} (sampled : Sampled) → IsSampledWith count sampled → IsSampleTold sampled out err s → IsSampleOutcome count out err s
  none_ran : {s : Status} (fault : CommandFault) → FitsSample count fault → IsFailOutcome sample_word fault err s → HasAdded out [] → IsSampleOutcome count out err s

abbrev pub SamplesBy : Asked → Written → Written → Status → Type 0
SamplesBy (asked.sample count) out err s = IsSampleOutcome count out err s
SamplesBy _ out err s = ⊥

-- What a command leaves: it asked no host, or it ran a program.
abbrev pub IsCommandOutcome : List (List ℕ) → Asked → Told → ℕ → ℕ → Hosted → Hosted → Written → Written → Status → Type 0
IsCommandOutcome hosts a told old new hosts_old hosts_new out err s =
    ((IsAnswer hosts a told old new out err s ⊎ SamplesBy a out err s) × (hosts_new ≡ hosts_old)) ⊎ TalksBy hosts a told hosts_old hosts_new out err s
