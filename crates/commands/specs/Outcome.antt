-- What a command leaves, by the status that it answers.
use Rattle.std.specs.Prelude.{◌≡◌, ℕ, ◌<◌, ◌≤◌, ◌⊎◌, List, [], ◌∷◌, ◌++◌, Option, Some, None, Ok, Err, IfSome, length, codes}
use Rattle.es_outside.specs.Counts.{CountRose}
use Rattle.es_outside.specs.NamedList.{name_at}
use Rattle.es_outside.specs.Sinks.{Adds, AddsFront}
use Rattle.first_trees.specs.declared.Module.{Module}
use Rattle.first_forms.specs.Lexing.{tokens_of}
use Rattle.first_forms.specs.Modules.{Spells}
use Rattle.first_script.specs.Script.{IsScriptOf}
use Rattle.source_map.specs.Document.{map_of}
use Rattle.source_map.specs.Line.{map_text_of, script_map_of}
use Rattle.source_map.specs.declared.map.Map.{Map}
use Rattle.source_map.specs.declared.fault.MapFault.{MapFault}
use Rattle.command_words.specs.Words.{Asked, command_of}
use Rattle.command_words.specs.Words as asked
use Rattle.edit_reading.specs.Reading as of_edits
use Rattle.edit_reading.specs.Reading.{AreEdits}
use Rattle.edit_reading.specs.declared.fault.EditsFault.{EditsFault}
use Rattle.edit_reading.specs.declared.fault.EditsFault.TheVariants.{UnreadFile}
use Rattle.edit_reading.specs.declared.fault.Unread.TheVariants as unread_list
use Rattle.listed_builds.specs.Doing.{ReadsIn, Step}
use Rattle.module_loading.specs.Files.{Holds, Told}
use Rattle.graph_refusals.specs.declared.fault.Refusal.{Refusal}
use Rattle.module_linker.specs.graph_checks.Builds.{ReadsNext, WritesAll}
use Rattle.module_linker.specs.graph_checks.Runs.{HasRunGraph}
use Rattle.module_linker.specs.graph_checks.Checks.{Passes, Refuses, IsRefusedFor}
use Rattle.es6_ast.specs.declared.graph.Graph.{Graph}
use Rattle.module_linker.specs.Linking.{IsRelinked}
use Rattle.module_linker.specs.Loading.{IsGraphOf}
use Rattle.pipeline.specs.Compiled.{IsCompiled}
use Rattle.split_emit.specs.Split.{IsSplitText}
use Rattle.run_lines.specs.Endings.{host_failed_line}
use Rattle.run_lines.specs.declared.script_fault.ScriptFault.{ScriptFault}
use Rattle.program_runs.specs.Around.{Around, Hosted}
use Rattle.program_runs.specs.declared.end.RunEnd.{RunEnd}
use Rattle.program_runs.specs.declared.end.RunEnd.TheVariants as run_end
use Rattle.sample_graph.specs.Listed.{file_listed}
use Rattle.sample_graph.specs.Sample.{sample_files}
use Rattle.sample_runs.specs.Comparing.{IsCompared}
use Rattle.sample_runs.specs.Telling.{sample_line}
use Rattle.sample_runs.specs.declared.comparison.Comparison.{Comparison}
use Rattle.sample_runs.specs.declared.comparison.Comparison.TheVariants as comparison
use Rattle.script_runs.specs.Runs.{HasRun}
use Rattle.script_runs.specs.Scripts as of_script
use Rattle.script_runs.specs.declared.unread.Unread.TheVariants as unread
use Rattle.commands.specs.declared.status.Status.{Status}
use Rattle.commands.specs.declared.status.Status.TheVariants as status
use Rattle.commands.specs.declared.fault.Fault.{Fault}
use Rattle.commands.specs.declared.fault.Fault.TheVariants.{Missing, ReadFailed, FileTooLong, InGraph, InScript, InEdits, BadMap, Unlike}
use Rattle.commands.specs.Lines.{line_of, status_of, usage_line}

-- the most bytes of a module
abbrev pub max_module_bytes : ℕ
max_module_bytes = 4194304

-- the most bytes of a script
abbrev pub max_script_bytes : ℕ
max_script_bytes = 67108864

-- The graph of the entry passes every check, and the entry is this module, where the program has these hosts.
pub record IsAccepted (hosts : List (List ℕ)) (told : Told) (entry : List ℕ) (m : Module) : Type 0 where
  pub passes : Passes told hosts entry
  pub bytes : List ℕ
  pub holds : Holds told entry (Some bytes)
  pub within : length bytes ≤ max_module_bytes
  pub spells : Spells hosts (tokens_of bytes) m

-- the bytes are in none of the first forms
abbrev pub IsNoForm : List (List ℕ) → List ℕ → Type 0
IsNoForm hosts bytes = (m : Module) → Spells hosts (tokens_of bytes) m → ⊥

-- The graph of the entry is loaded and linked, and these bytes are what it is compiled to.
pub record IsBuilt (hosts : List (List ℕ)) (told : Told) (entry script : List ℕ) : Type 0 where
  pub graph : Graph
  pub loads : IsGraphOf told entry graph
  pub linked : Graph
  pub relinked : IsRelinked graph hosts linked
  pub compiled : IsCompiled linked hosts script

-- The same, where the entry is in none of the first forms.
pub record IsGraphScript (hosts : List (List ℕ)) (told : Told) (entry script : List ℕ) : Type 0 where
  pub built : IsBuilt hosts told entry script
  pub bytes : List ℕ
  pub holds : Holds told entry (Some bytes)
  pub unformed : IsNoForm hosts bytes

-- The graph of the entry is loaded and linked, and these bytes are the text of its scripts.
pub record IsSplitGraph (hosts : List (List ℕ)) (told : Told) (entry bytes : List ℕ) : Type 0 where
  pub graph : Graph
  pub loads : IsGraphOf told entry graph
  pub linked : Graph
  pub relinked : IsRelinked graph hosts linked
  pub split : IsSplitText linked hosts bytes

-- The edits of the list are read, and these bytes are what the builds of the entry among them write: each of the files as edited up to it, by
-- the modules that earlier ones loaded.
pub record IsRebuilt (hosts : List (List ℕ)) (told : Told) (entry list bytes : List ℕ) : Type 0 where
  pub steps : List Step
  pub edits : AreEdits told list steps
  pub written : WritesAll IsCompiled entry hosts told steps bytes

-- the host of the sample graph, its entry, and its files with so many modules beside the entry
abbrev pub print_alone : List (List ℕ)
print_alone = codes "print" ∷ []

abbrev pub sample_entry : List ℕ
sample_entry = codes "main.js"

abbrev pub sample_told : ℕ → Told
sample_told count = Some (file_listed (sample_files count))

-- The sample graph is loaded, linked and compiled, and this comes of its run beside that of its script.
pub record IsSampled (count : ℕ) (comparison : Comparison) : Type 0 where
  pub graph : Graph
  pub loads : IsGraphOf (sample_told count) sample_entry graph
  pub linked : Graph
  pub relinked : IsRelinked graph print_alone linked
  pub script : List ℕ
  pub compiled : IsCompiled linked print_alone script
  pub compared : IsCompared linked print_alone script comparison

-- how the command ends whose runs have a line
abbrev pub IsToldBy : Comparison → Status → Type 0
IsToldBy (comparison.Same events) s = s ≡ status.Done
IsToldBy (comparison.Threw seen) s = s ≡ status.Threw
IsToldBy (comparison.Left exit path place) s = s ≡ status.Left
IsToldBy comparison.Spent s = s ≡ status.StepsSpent
IsToldBy _ s = ⊥

-- The line of both runs of the sample graph, and how the command ends with it.
pub record IsLineOfSample (count : ℕ) (s : Status) (line : List ℕ) : Type 0 where
  pub comparison : Comparison
  pub sampled : IsSampled count comparison
  pub line_is : line ≡ sample_line count comparison
  pub told : IsToldBy comparison s

-- The graph of the entry has this fault.
pub data RefusesEntry (hosts : List (List ℕ)) (told : Told) (entry : List ℕ) : Fault → Type 0 where
  in_graph : {refusal : Refusal} → Refuses told hosts entry refusal → RefusesEntry hosts told entry (InGraph refusal)

-- The file is a script that holds the text of a map.
pub record HasMap (file : Option (List ℕ)) (text : List ℕ) : Type 0 where
  pub bytes : List ℕ
  pub found : file ≡ Some bytes
  pub within : length bytes ≤ max_script_bytes
  pub holds : map_text_of bytes ≡ Ok text

-- The file has this fault: it is missing, too long, or holds no map.
pub data HasNoMap : Option (List ℕ) → Fault → Type 0 where
  no_script : HasNoMap None Missing
  script_too_long : {bytes : List ℕ} → max_script_bytes < length bytes → HasNoMap (Some bytes) FileTooLong
  bad_map : {bytes : List ℕ} {fault : MapFault} → length bytes ≤ max_script_bytes → script_map_of bytes ≡ Err fault → HasNoMap (Some bytes) (BadMap fault)

-- the text is a map's
abbrev pub IsMapText : List ℕ → Type 0
IsMapText text = (m : Map) × (map_of text ≡ Ok m)

-- the text of a map as it is written, on a line
abbrev pub map_line : List ℕ → List ℕ
map_line text = text ++ 10 ∷ []

-- what the lines of a command speak of: its file, or the script of the sample
abbrev pub subject : Asked → List ℕ
subject (asked.build entry) = entry
subject (asked.map_of script) = script
subject (asked.split entry) = entry
subject (asked.rebuild entry list) = list
subject (asked.run entry steps) = entry
subject (asked.run5 path steps) = path
subject (asked.sample n) = codes "sample"

-- what files tell of a path, where they tell something
abbrev pub OnFile : Told → List ℕ → (Option (List ℕ) → Type 0) → Type 0
OnFile told path P = IfSome told (λ file. P (file path))

-- what is wrong with the script of a command, by what its files tell
abbrev pub HasScriptFault : Told → List ℕ → Fault → Type 0
HasScriptFault told path (InScript fault) = of_script.HasFault told path fault
HasScriptFault told path _ = ⊥

-- what is wrong with the edits of a command
abbrev pub HasEditsFault : Told → List ℕ → Fault → Type 0
HasEditsFault told list (InEdits fault) = of_edits.HasFault told list fault
HasEditsFault told list _ = ⊥

-- a command's fault, by what its files tell
abbrev pub HasFault : List (List ℕ) → Asked → Told → Fault → Type 0
HasFault hosts (asked.build entry) told fault = RefusesEntry hosts told entry fault
HasFault hosts (asked.split entry) told fault = RefusesEntry hosts told entry fault
HasFault hosts (asked.rebuild entry list) told fault = HasEditsFault told list fault
HasFault hosts (asked.map_of path) told fault = OnFile told path (λ file. HasNoMap file fault)
HasFault hosts (asked.run entry steps) told fault = RefusesEntry hosts told entry fault
HasFault hosts (asked.run5 path steps) told fault = HasScriptFault told path fault
HasFault hosts (asked.sample count) told fault = RefusesEntry print_alone (sample_told count) sample_entry fault

-- a command that runs no program with the hosts
abbrev pub RunsNone : Asked → Type 0
RunsNone (asked.run entry steps) = ⊥
RunsNone (asked.run5 path steps) = ⊥
RunsNone _ = Unit {0}

-- a command that makes a text of files, and runs nothing
abbrev pub MakesText : Asked → Type 0
MakesText (asked.run entry steps) = ⊥
MakesText (asked.run5 path steps) = ⊥
MakesText (asked.sample count) = ⊥
MakesText _ = Unit {0}

-- so many modules may the sample graph have beside its entry
abbrev pub IsWithin : Asked → Type 0
IsWithin (asked.sample count) = (1 ≤ count) × (count ≤ 1000)
IsWithin _ = Unit {0}

-- words that run no program
abbrev pub IsUnasking : List (List ℕ) → Type 0
IsUnasking words = (a : Asked) → command_of words ≡ Some a → RunsNone a

-- what a graph is refused for: a read that failed, or what its files hold
abbrev pub GraphCause : List (List ℕ) → Asked → Told → ℕ → ℕ → Refusal → Type 0
GraphCause hosts (asked.build entry) told old new refusal = IsRefusedFor told hosts entry old new refusal
GraphCause hosts (asked.split entry) told old new refusal = IsRefusedFor told hosts entry old new refusal
GraphCause hosts (asked.run entry steps) told old new refusal = IsRefusedFor told hosts entry old new refusal
GraphCause hosts (asked.sample count) told old new refusal = Refuses (sample_told count) print_alone sample_entry refusal
GraphCause hosts _ told old new refusal = ⊥

-- what a script isn't run for: a read that failed, or what its file holds; or what the sample graph is compiled to
abbrev pub ScriptCause : Asked → Told → ℕ → ℕ → ScriptFault → Type 0
ScriptCause (asked.run5 path steps) told old new fault = of_script.Cause told path old new (unread.Refused fault)
ScriptCause (asked.sample count) told old new fault = IsSampled count (comparison.Unread fault)
ScriptCause _ told old new fault = ⊥

-- The runs of the sample graph and of its script ended, and their events differ.
abbrev pub IsUnlike : Asked → Type 0
IsUnlike (asked.sample count) = IsSampled count comparison.Unlike
IsUnlike _ = ⊥

-- What edits aren't done for: their list or a file that they put; or a file that a build of the files as edited up to it reads, and that
-- couldn't be read, so that the count of faults rose.
pub data IsUndone (told : Told) (entry list : List ℕ) (old new : ℕ) : EditsFault → Type 0 where
  untaken : {fault : EditsFault} → of_edits.Cause told list old new (unread_list.Refused fault) → IsUndone told entry list old new fault
  unbuilt : {path : List ℕ} (steps : List Step) → AreEdits told list steps → ReadsIn (ReadsNext entry) told steps path → CountRose old new → IsUndone told entry list old new (UnreadFile path)

abbrev pub EditsCause : Asked → Told → ℕ → ℕ → EditsFault → Type 0
EditsCause (asked.rebuild entry list) told old new fault = IsUndone told entry list old new fault
EditsCause _ told old new fault = ⊥

-- What a fault comes from: a read that failed, so that the count of faults rose, events that differ, or what the files hold.
abbrev pub Cause : List (List ℕ) → Asked → Told → ℕ → ℕ → Fault → Type 0
Cause hosts a told old new ReadFailed = CountRose old new
Cause hosts a told old new Unlike = IsUnlike a
Cause hosts a told old new (InGraph refusal) = GraphCause hosts a told old new refusal
Cause hosts a told old new (InScript fault) = ScriptCause a told old new fault
Cause hosts a told old new (InEdits fault) = EditsCause a told old new fault
Cause hosts a told old new fault = HasFault hosts a told fault

-- A sink before and after a call: the bytes that it tells, and its count of faults.
pub record Written : Type 0 where
  pub old : Option (List ℕ)
  pub new : Option (List ℕ)
  pub faults_old : ℕ
  pub faults_new : ℕ

-- what a call did to a sink, by the bytes and the faults that the sink tells
abbrev pub written_of : {S : Type 0} → (S → Option (List ℕ)) → (S → ℕ) → S → S → Written
written_of bytes faults old new = record { old = bytes old; new = bytes new; faults_old = faults old; faults_new = faults new }

abbrev pub HasAdded : Written → List ℕ → Type 0
HasAdded sink piece = Adds piece sink.old sink.new

-- a fault of the sink cut off what was to be added
abbrev pub HasFailed : Written → List ℕ → Type 0
HasFailed sink piece = AddsFront piece sink.old sink.new × CountRose sink.faults_old sink.faults_new

-- What a call is given and leaves: the words, the hosts' names, what the hosts tell before and after it, the bytes of each path, if
-- they are told, the count of faults of the files, and both sinks.
pub record Call : Type 0 where
  pub words : List (List ℕ)
  pub hosts : List (List ℕ)
  pub hosts_old : Hosted
  pub hosts_new : Hosted
  pub files : Told
  pub faults_old : ℕ
  pub faults_new : ℕ
  pub out : Written
  pub err : Written

-- a call, by what files tell, its words, the hosts before and after it, the files before and after it, and what it did to both sinks
abbrev pub call_of : {F : Type 0} → (F → Told) → (F → ℕ) → List (List ℕ) → Hosted → Hosted → F → F → Written → Written → Call
call_of files faults words hosts_old hosts_new old new out err =
    record { words = words; hosts = hosts_old.names; hosts_old = hosts_old; hosts_new = hosts_new; files = files old; faults_old = faults old; faults_new = faults new; out = out; err = err }

-- What the call is to write, on the output, and how it then ends: the script of the entry's module where that is in one of the first forms, else
-- that of its graph; the scripts of the entry's graph; what its builds write among the edits of a list; the text of a script's map; or the line of
-- both runs of the sample graph.
pub data Makes (c : Call) : Status → List ℕ → Type 0 where
  script : {bytes : List ℕ} (entry : List ℕ) (m : Module) → command_of c.words ≡ Some (asked.build entry) → IsAccepted c.hosts c.files entry m → IsScriptOf c.hosts m bytes → Makes c status.Done bytes
  whole : {bytes : List ℕ} (entry : List ℕ) → command_of c.words ≡ Some (asked.build entry) → IsGraphScript c.hosts c.files entry bytes → Makes c status.Done bytes
  scripts : {bytes : List ℕ} (entry : List ℕ) → command_of c.words ≡ Some (asked.split entry) → IsSplitGraph c.hosts c.files entry bytes → Makes c status.Done bytes
  rebuilt : {bytes : List ℕ} (entry list : List ℕ) → command_of c.words ≡ Some (asked.rebuild entry list) → IsRebuilt c.hosts c.files entry list bytes → Makes c status.Done bytes
  map : (text path : List ℕ) → command_of c.words ≡ Some (asked.map_of path) → OnFile c.files path (λ file. HasMap file text) → IsMapText text → Makes c status.Done (map_line text)
  sampled : {s : Status} {line : List ℕ} (count : ℕ) → command_of c.words ≡ Some (asked.sample count) → IsLineOfSample count s line → Makes c s line

-- The call has this line for this fault.
pub record IsRefusedBy (c : Call) (fault : Fault) (line : List ℕ) : Type 0 where
  pub asked : Asked
  pub command : command_of c.words ≡ Some asked
  pub line_is : line ≡ line_of (subject asked) fault
  pub cause : Cause c.hosts asked c.files c.faults_old c.faults_new fault

-- a line that the call may write to the error stream
pub data IsLine (c : Call) : Status → List ℕ → Type 0 where
  usage : command_of c.words ≡ None → IsLine c status.Usage usage_line
  refusal : {fault : Fault} {line : List ℕ} → IsRefusedBy c fault line → IsLine c (status_of fault) line

-- The status came with its line on the error stream, and with nothing on the output.
pub record IsReported (c : Call) (s : Status) : Type 0 where
  pub line : List ℕ
  pub is_line : IsLine c s line
  pub on_err : HasAdded c.err line
  pub on_out : HasAdded c.out []

-- A sink took no more: the output a front of what is to be written, or the error stream a front of a line.
pub data IsCutOff (c : Call) : Type 0 where
  cut_output : {s : Status} (bytes : List ℕ) → Makes c s bytes → HasFailed c.out bytes → HasAdded c.err [] → IsCutOff c
  cut_line : (s : Status) (bytes : List ℕ) → IsLine c s bytes → HasFailed c.err bytes → HasAdded c.out [] → IsCutOff c

-- The status came with what the call makes on the output, and with nothing on the error stream.
abbrev pub IsWhole : Call → Status → Type 0
IsWhole c s = (bytes : List ℕ) × Makes c s bytes × HasAdded c.out bytes × HasAdded c.err []

-- What the call leaves at each status, where no program is run with the hosts.
abbrev pub IsAnswered : Call → Status → Type 0
IsAnswered c status.Done = IsWhole c status.Done
IsAnswered c status.Threw = IsWhole c status.Threw
IsAnswered c status.Left = IsWhole c status.Left
IsAnswered c status.StepsSpent = IsWhole c status.StepsSpent
IsAnswered c status.Refused = IsReported c status.Refused
IsAnswered c status.Usage = IsReported c status.Usage
IsAnswered c status.ReadFault = IsReported c status.ReadFault
IsAnswered c status.Limit = IsReported c status.Limit
IsAnswered c status.WriteFault = IsCutOff c
IsAnswered c status.OutOfMemory = HasAdded c.out [] × HasAdded c.err []
IsAnswered c status.HostFault = ⊥

-- What a sink was given: these bytes with this status; or a front of them up to a fault; or nothing, for want of memory.
pub data IsSaid (sink : Written) (bytes : List ℕ) (s : Status) : Status → Type 0 where
  said : HasAdded sink bytes → IsSaid sink bytes s s
  cut_off : HasFailed sink bytes → IsSaid sink bytes s status.WriteFault
  unsaid : HasAdded sink [] → IsSaid sink bytes s status.OutOfMemory

-- how a run ended, as a status; a host that failed is named on the error stream
abbrev pub IsEnded : List (List ℕ) → Written → RunEnd → Status → Type 0
IsEnded hosts err run_end.Ended s = (s ≡ status.Done) × HasAdded err []
IsEnded hosts err run_end.Threw s = (s ≡ status.Threw) × HasAdded err []
IsEnded hosts err run_end.Left s = (s ≡ status.Left) × HasAdded err []
IsEnded hosts err run_end.StepsSpent s = (s ≡ status.StepsSpent) × HasAdded err []
IsEnded hosts err (run_end.HostFailed host) s = IsSaid err (host_failed_line (name_at hosts host)) status.HostFault s
IsEnded hosts err run_end.WriteFailed s = (s ≡ status.WriteFault) × HasAdded err []
IsEnded hosts err run_end.OutOfMemory s = (s ≡ status.OutOfMemory) × HasAdded err []

-- the hosts and the output around a call, before it and after it
abbrev pub before : Hosted → Written → Around
before hosts out = record { hosts = hosts; output = record { bytes = out.old; faults = out.faults_old } }

abbrev pub after : Hosted → Written → Around
after hosts out = record { hosts = hosts; output = record { bytes = out.new; faults = out.faults_new } }

-- The program that the words ask for was run, the script of a file or the graph of an entry, and this is how that ended and what it left.
pub data Runs (c : Call) (e : RunEnd) : Type 0 where
  by_script : (path : List ℕ) (steps : ℕ) → command_of c.words ≡ Some (asked.run5 path steps) → HasRun c.files path steps (before c.hosts_old c.out) (after c.hosts_new c.out) e → Runs c e
  by_graph : (entry : List ℕ) (steps : ℕ) → command_of c.words ≡ Some (asked.run entry steps) → HasRunGraph c.hosts c.files entry steps (before c.hosts_old c.out) (after c.hosts_new c.out) e → Runs c e

-- The call ran a program.
pub record HasTalked (c : Call) (s : Status) : Type 0 where
  pub end : RunEnd
  pub run : Runs c end
  pub ended : IsEnded c.hosts c.err end s

-- What the call leaves at each status: it asked no host, or it ran a program.
abbrev pub IsOutcome : Call → Status → Type 0
IsOutcome c s = (IsAnswered c s × (c.hosts_new ≡ c.hosts_old)) ⊎ HasTalked c s

-- no count of faults rose
pub record IsCalm (c : Call) : Type 0 where
  pub files : CountRose c.faults_old c.faults_new → ⊥
  pub out : CountRose c.out.faults_old c.out.faults_new → ⊥
  pub err : CountRose c.err.faults_old c.err.faults_new → ⊥

-- The status that is due, where the files are told, no count rose and memory is there. A graph that passes is run,
-- and so is a script without a fault.
pub record IsDue (c : Call) (file : List ℕ → Option (List ℕ)) (s : Status) : Type 0 where
  pub no_command : command_of c.words ≡ None → s ≡ status.Usage
  pub accepted : (entry : List ℕ) → command_of c.words ≡ Some (asked.build entry) → Passes (Some file) c.hosts entry → s ≡ status.Done
  pub split : (entry : List ℕ) → command_of c.words ≡ Some (asked.split entry) → Passes (Some file) c.hosts entry → s ≡ status.Done
  pub rebuilt : (entry list : List ℕ) (steps : List Step) → command_of c.words ≡ Some (asked.rebuild entry list) → AreEdits (Some file) list steps → s ≡ status.Done
  pub mapped : (path text : List ℕ) → command_of c.words ≡ Some (asked.map_of path) → HasMap (file path) text → IsMapText text → s ≡ status.Done
  pub ran : (entry : List ℕ) (steps : ℕ) → command_of c.words ≡ Some (asked.run entry steps) → Passes (Some file) c.hosts entry → HasTalked c s
  pub ran5 : (path : List ℕ) (steps : ℕ) → command_of c.words ≡ Some (asked.run5 path steps) → ((fault : Fault) → HasScriptFault (Some file) path fault → ⊥) → HasTalked c s
  pub refused : (a : Asked) (fault : Fault) → command_of c.words ≡ Some a → HasFault c.hosts a (Some file) fault → s ≡ status_of fault

abbrev pub ComesWhenDue : Call → Status → Type 0
ComesWhenDue c s = IsCalm c → (s ≡ status.OutOfMemory → ⊥) → IfSome c.files (λ file. IsDue c file s)
