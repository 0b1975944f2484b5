-- From what the parts of a command leave to what the command leaves.
use Rattle.std.proofs.Common.{◌≡◌, ℕ, ◌+◌, ◌<◌, ◌≤◌, Bool, true, false, cond, List, [], ◌∷◌, ◌++◌, Option, Some, None, Result, Ok, Err, MatchResult, Vec, refl, sym, ap, ◌∙◌, subst, arith, length, take, min, length-take, option_map, ◌⊎◌, inl, inr, get_or}
use Rattle.std.specs.Prelude.{slice_get, slice_index_or, zero, suc}
use Rattle.std.proofs.lemmas.Bool.{cases_lt}
use Rattle.std.proofs.lemmas.Option.{slice_get-get_or, slice_get_past}
use Rattle.std.proofs.lemmas.List.{take_more}
use Rattle.std.specs.Global.{Global}
use Rattle.std.proofs.lemmas.List.{take_all}
use Rattle.std.specs.Prelude.{IfSome}
use Rattle.std.proofs.lemmas.List.{append-nil}
use Rattle.es_outside.specs.Counts.{CountRose}
use Rattle.es_outside.specs.Sinks.{Adds}
use Rattle.commands.specs.declared.status.Status.{Status}
use Rattle.commands.specs.declared.status.Status.TheVariants as status
use Rattle.commands.specs.declared.fault.Fault.{Fault}
use Rattle.commands.specs.declared.fault.Fault.TheVariants.{Missing, ReadFailed, FileTooLong, InGraph, InScript, InEdits, BadMap, Unlike}
use Rattle.es_outside.specs.Files.{read_of}
use Rattle.first_trees.specs.declared.Module.{Module}
use Rattle.first_forms.specs.Lexing.{tokens_of}
use Rattle.first_forms.specs.Modules.{Spells}
use Rattle.first_forms.specs.declared.reader.ReadFault.{ReadFault}
use Rattle.first_forms.specs.declared.reader.ReadFault.TheVariants as read
use Rattle.first_forms.specs.declared.token.Token.{Token}
use Rattle.commands.specs.declared.fault.CommandFault.{CommandFault}
use Rattle.commands.specs.declared.fault.CommandFault.TheVariants.{Refused, OutOfMemory}
use Rattle.command_words.specs.declared.command.WordsFault.{WordsFault}
use Rattle.command_words.specs.declared.command.WordsFault.TheVariants as words
use Rattle.command_words.specs.Words.{Asked, command_of}
use Rattle.command_words.specs.Words as asked
use Rattle.command_words.specs.Said.{IsRefused}
use Rattle.source_map.specs.Document.{map_of}
use Rattle.source_map.specs.Line.{map_text_of}
use Rattle.source_map.specs.Outcome.{Fails}
use Rattle.source_map.specs.declared.fault.MapFault.{MapFault}
use Rattle.source_map.specs.declared.fault.MapFault.TheVariants as map_fault
use Rattle.edit_reading.specs.Reading as of_edits
use Rattle.edit_reading.specs.Reading.{AreEdits}
use Rattle.edit_reading.specs.declared.fault.EditsFault.{EditsFault}
use Rattle.edit_reading.specs.declared.fault.EditsFault.TheVariants as in_edits
use Rattle.edit_reading.specs.declared.fault.Unread.{Unread as UnreadList}
use Rattle.edit_reading.specs.declared.fault.Unread.TheVariants as unread_list
use Rattle.listed_builds.specs.Doing.{IfUnread, IsUnread, ReadsIn, Step}
use Rattle.listed_builds.specs.declared.fault.BuildFault.{BuildFault}
use Rattle.listed_builds.specs.declared.fault.BuildFault.TheVariants as build_fault
use Rattle.module_loading.specs.Files.{Holds}
use Rattle.graph_refusals.specs.Lines.{is_placed_limit}
use Rattle.graph_refusals.specs.declared.fault.FileFault.{FileFault}
use Rattle.graph_refusals.specs.declared.fault.FileFault.TheVariants as in_file
use Rattle.graph_refusals.specs.declared.fault.GraphFault.{GraphFault}
use Rattle.graph_refusals.specs.declared.fault.GraphFault.TheVariants as graph_fault
use Rattle.graph_refusals.specs.declared.fault.Refusal.{Refusal}
use Rattle.module_linker.specs.graph_checks.Runs.{RunsGraph}
use Rattle.module_linker.specs.graph_checks.Builds.{ReadsNext, WritesAll}
use Rattle.module_linker.specs.graph_checks.Checks.{HasGraphFault, IsRefusedFor, Passes, by_files, by_reading}
use Rattle.module_linker.proofs.graph_checks.Entry.{entry_missing, entry_too_long, entry_unread}
use Rattle.module_linker.specs.Checking.{IsMadeOf}
use Rattle.pipeline.specs.Compiled.{IsCompiled}
use Rattle.split_emit.specs.Split.{IsSplitText}
use Rattle.sample_runs.specs.Telling.{sample_line}
use Rattle.sample_runs.specs.declared.comparison.Comparison.{Comparison}
use Rattle.sample_runs.specs.declared.comparison.Comparison.TheVariants as comparison
use Rattle.run_lines.specs.ScriptFaults as script_fault
use Rattle.run_lines.specs.declared.script_fault.ScriptFault.{ScriptFault}
use Rattle.run_lines.specs.declared.script_fault.ScriptFault.TheVariants as in_script
use Rattle.program_runs.specs.Around.{Around, Hosted}
use Rattle.program_runs.specs.declared.end.RunEnd.{RunEnd}
use Rattle.script_runs.specs.Runs.{Ends}
use Rattle.script_runs.specs.declared.unread.Unread.{Unread}
use Rattle.script_runs.specs.declared.unread.Unread.TheVariants as unread
use Rattle.commands.specs.Lines.{edits_status_of, graph_status_of, line_of, script_status_of, status_of, usage_line}
use Rattle.commands.specs.Outcome.{max_module_bytes, max_script_bytes, IsBuilt, IsRebuilt, IsSplitGraph, untaken, unbuilt, IsNoForm, HasMap, HasNoMap, no_script, script_too_long, bad_map, IsSampled, IsWhole, Cause, subject, Written, HasAdded, Call, HasTalked, by_script, by_graph, IsAnswered, IsEnded, IsSaid, said, cut_off, unsaid, after, before, Makes, script, whole, scripts, rebuilt, map, sampled, IsLine, usage, refusal, IsReported, cut_output, cut_line, IsOutcome}
use Rattle.commands.specs.Parts.{map_fault_of, graph_fault_of, edits_fault_of, build_fault_of, entry_refusal, IsEntryFault, IsBytesScript, formed, unformed, RefusesBytes, bytes_too_long, FitsBytes, IsBytesMap, FitsScript, Fits, IsFileScript, of_module, of_graph, IsFileMap, MadeBy, IsAnswer, IsSampleOutcome, IsToldOf, IsToldOfBoth, IsToldOfGraph, FitsSample, SamplesBy, both_ran, none_ran, sample_word, TalksBy, IsMisuseOutcome, IsFailOutcome, IsWritten, IsCommandOutcome, wrote, failed}

same_some : {A : Type 0} {x y : A} → Some x ≡ Some y → x ≡ y
same_some e = cc

-- a sink that nothing was written to
pub adds_nothing : (o : Option (List ℕ)) → Adds [] o o
adds_nothing None = tt
adds_nothing (Some bytes) = sym (append-nil bytes)

pub if_some_map : {X : Type 0} {P Q : X → Type 0} (o : Option X) → ((x : X) → P x → Q x) → IfSome o P → IfSome o Q
if_some_map None f h = tt
if_some_map (Some x) f h = f x h

-- what is read within the limit is the whole file
whole_file : (limit : ℕ) (content read : List ℕ) → take (limit + 1) content ≡ read → length read ≤ limit → content ≡ read
whole_file limit content read e short =
    let cut : length (take (limit + 1) content) ≡ min (limit + 1) (length content) = length-take (limit + 1) content in
    let same : length (take (limit + 1) content) ≡ length read = ap length e in
    let within : length content ≤ limit + 1 = omega arith in
    sym (take_all (limit + 1) content within) ∙ e

longer_file : (limit : ℕ) (content read : List ℕ) → take (limit + 1) content ≡ read → limit < length read → limit < length content
longer_file limit content read e long =
    let cut : length (take (limit + 1) content) ≡ min (limit + 1) (length content) = length-take (limit + 1) content in
    let same : length (take (limit + 1) content) ≡ length read = ap length e in
    omega arith

-- What was read is the file that was told, as far as it was read; of one that isn't told nothing is said.
whole_told : (told : Option (List ℕ → Option (List ℕ))) (path read : List ℕ) → IfSome told (λ file. option_map (read_of max_module_bytes) (file path) ≡ Some read) → length read ≤ max_module_bytes → Holds told path (Some read)
whole_told None path read e short = tt
whole_told (Some file) path read e short = by_file (file path) refl e
  where
    by_file : (content : Option (List ℕ)) → file path ≡ content → option_map (read_of max_module_bytes) (file path) ≡ Some read → file path ≡ Some read
    by_file None is e = absurd (let none : option_map (read_of max_module_bytes) None ≡ Some read = subst (λ (c : Option (List ℕ)). option_map (read_of max_module_bytes) c ≡ Some read) is e in cc)
    by_file (Some content) is e =
        let cut : option_map (read_of max_module_bytes) (Some content) ≡ Some read = subst (λ (c : Option (List ℕ)). option_map (read_of max_module_bytes) c ≡ Some read) is e in
        is ∙ ap Some (whole_file max_module_bytes content read (same_some cut) short)

-- a file of which more was read than a module may have
record IsLong (told : Option (List ℕ → Option (List ℕ))) (path : List ℕ) : Type 0 where
  content : List ℕ
  holds : Holds told path (Some content)
  long : max_module_bytes < length content

long_told : (told : Option (List ℕ → Option (List ℕ))) (path read : List ℕ) → IfSome told (λ file. option_map (read_of max_module_bytes) (file path) ≡ Some read) → max_module_bytes < length read → IsLong told path
long_told None path read e long = record { content = read; holds = tt; long = long }
long_told (Some file) path read e long = by_file (file path) refl e
  where
    by_file : (content : Option (List ℕ)) → file path ≡ content → option_map (read_of max_module_bytes) (file path) ≡ Some read → IsLong (Some file) path
    by_file None is e = absurd (let none : option_map (read_of max_module_bytes) None ≡ Some read = subst (λ (c : Option (List ℕ)). option_map (read_of max_module_bytes) c ≡ Some read) is e in cc)
    by_file (Some content) is e =
        let cut : option_map (read_of max_module_bytes) (Some content) ≡ Some read = subst (λ (c : Option (List ℕ)). option_map (read_of max_module_bytes) c ≡ Some read) is e in
        record { content = content; holds = is; long = longer_file max_module_bytes content read (same_some cut) long }

mapped_file : (file : Option (List ℕ)) (read text : List ℕ) → option_map (read_of max_script_bytes) file ≡ Some read → length read ≤ max_script_bytes → map_text_of read ≡ Ok text → HasMap file text
mapped_file None read text e short holds = absurd (cc)
mapped_file (Some content) read text e short holds =
    let whole : content ≡ read = whole_file max_script_bytes content read (same_some e) short in
    record { bytes = read; found = ap Some whole; within = short; holds = holds }

unmapped_file : (file : Option (List ℕ)) (read : List ℕ) (fault : Fault) → option_map (read_of max_script_bytes) file ≡ Some read → HasNoMap (Some read) fault → HasNoMap file fault
unmapped_file None read fault e r = absurd (cc)
unmapped_file (Some content) read fault e (script_too_long long) = script_too_long (longer_file max_script_bytes content read (same_some e) long)
unmapped_file (Some content) read fault e (bad_map {fault = f} short no_map) =
    let whole : content ≡ read = whole_file max_script_bytes content read (same_some e) short in
    subst (λ (c : List ℕ). HasNoMap (Some c) (BadMap f)) (sym whole) (bad_map short no_map)

-- a graph that is compiled passes every check
pub passes_built : {hosts : List (List ℕ)} {told : Option (List ℕ → Option (List ℕ))} {entry script : List ℕ} → IsBuilt hosts told entry script → Passes told hosts entry
passes_built b = record { graph = b.graph; loaded = b.loads; endings = b.relinked.endings; linked = b.relinked.ends }

pub passes_split : {hosts : List (List ℕ)} {told : Option (List ℕ → Option (List ℕ))} {entry bytes : List ℕ} → IsSplitGraph hosts told entry bytes → Passes told hosts entry
passes_split g = record { graph = g.graph; loaded = g.loads; endings = g.relinked.endings; linked = g.relinked.ends }

-- what the bytes of the entry hold against it
bytes_refuse : (hosts : List (List ℕ)) (told : Option (List ℕ → Option (List ℕ))) (entry read : List ℕ) (old new : ℕ) (fault : Fault) → IfSome told (λ file. option_map (read_of max_module_bytes) (file entry) ≡ Some read) → RefusesBytes hosts entry read fault → Cause hosts (asked.build entry) told old new fault
bytes_refuse hosts told entry read old new _ e (bytes_too_long long) =
    let l = long_told told entry read e long in
    by_files (entry_too_long told hosts entry l.content l.holds l.long)

bytes_script : (hosts : List (List ℕ)) (told : Option (List ℕ → Option (List ℕ))) (entry read compiled script : List ℕ) → IsBuilt hosts told entry compiled → IfSome told (λ file. option_map (read_of max_module_bytes) (file entry) ≡ Some read) → IsBytesScript hosts read compiled script → IsFileScript hosts told entry script
bytes_script hosts told entry read compiled _ built e (formed m short spells of) =
    of_module m (record { passes = passes_built built; bytes = read; holds = whole_told told entry read e short; within = short; spells = spells }) of
bytes_script hosts told entry read compiled _ built e (unformed short none) =
    of_graph (record { built = built; bytes = read; holds = whole_told told entry read e short; unformed = none })

found_entry : (hosts : List (List ℕ)) (told : Option (List ℕ → Option (List ℕ))) (entry read compiled : List ℕ) (old new : ℕ) (result : Result (Vec ℕ Global) CommandFault) → IsBuilt hosts told entry compiled → IfSome told (λ file. option_map (read_of max_module_bytes) (file entry) ≡ Some read) → MatchResult result (λ s. IsBytesScript hosts read compiled s.items) (FitsBytes hosts entry read) → MatchResult result (λ s. IsFileScript hosts told entry s.items) (Fits hosts (asked.build entry) told old new)
found_entry hosts told entry read compiled old new (Ok s) built e b = bytes_script hosts told entry read compiled s.items built e b
found_entry hosts told entry read compiled old new (Err OutOfMemory) built e b = tt
found_entry hosts told entry read compiled old new (Err (Refused fault)) built e b = bytes_refuse hosts told entry read old new fault e b

-- the same, where the bytes are those of a slice
pub found_as : (hosts : List (List ℕ)) (told : Option (List ℕ → Option (List ℕ))) (entry compiled : List ℕ) (old new : ℕ) (read slice : List ℕ) (result : Result (Vec ℕ Global) CommandFault) → slice ≡ read → IsBuilt hosts told entry compiled → IfSome told (λ file. option_map (read_of max_module_bytes) (file entry) ≡ Some read) → MatchResult result (λ s. IsBytesScript hosts slice compiled s.items) (FitsBytes hosts entry slice) → MatchResult result (λ s. IsFileScript hosts told entry s.items) (Fits hosts (asked.build entry) told old new)
found_as hosts told entry compiled old new read slice result e built f b =
    found_entry hosts told entry read compiled old new result built f (subst (λ (r : List ℕ). MatchResult result (λ s. IsBytesScript hosts r compiled s.items) (FitsBytes hosts entry r)) e b)

-- a fault of the entry itself, or want of memory
pub fits_entry : (hosts : List (List ℕ)) (told : Option (List ℕ → Option (List ℕ))) (entry : List ℕ) (old new : ℕ) (kind : FileFault) (fault : CommandFault) → IsEntryFault entry kind fault → IsRefusedFor told hosts entry old new (record { path = entry; fault = kind }) → Fits hosts (asked.build entry) told old new fault
fits_entry hosts told entry old new kind (Refused f) e r = subst (λ (x : Fault). Cause hosts (asked.build entry) told old new x) (sym e) r
fits_entry hosts told entry old new kind OutOfMemory e r = tt

pub missing_fits : (hosts : List (List ℕ)) (told : Option (List ℕ → Option (List ℕ))) (entry : List ℕ) (old new : ℕ) (fault : CommandFault) → IsEntryFault entry in_file.Missing fault → IfSome told (λ file. file entry ≡ None) → Fits hosts (asked.build entry) told old new fault
missing_fits hosts told entry old new fault e none = fits_entry hosts told entry old new in_file.Missing fault e (by_files (entry_missing told hosts entry (holds told none)))
  where
    holds : (told : Option (List ℕ → Option (List ℕ))) → IfSome told (λ file. file entry ≡ None) → Holds told entry None
    holds None none = tt
    holds (Some file) none = none

pub unread_fits : (hosts : List (List ℕ)) (told : Option (List ℕ → Option (List ℕ))) (entry : List ℕ) (old new : ℕ) (fault : CommandFault) → IsEntryFault entry in_file.ReadFailed fault → CountRose old new → Fits hosts (asked.build entry) told old new fault
unread_fits hosts told entry old new fault e rose = fits_entry hosts told entry old new in_file.ReadFailed fault e (entry_unread told hosts entry old new rose)

pub fits_bytes : (hosts : List (List ℕ)) (entry bytes : List ℕ) (kind : FileFault) (fault : CommandFault) → IsEntryFault entry kind fault → RefusesBytes hosts entry bytes (entry_refusal entry kind) → FitsBytes hosts entry bytes fault
fits_bytes hosts entry bytes kind (Refused f) e r = subst (RefusesBytes hosts entry bytes) (sym e) r
fits_bytes hosts entry bytes kind OutOfMemory e r = tt

-- no module of the first forms is spelled, where the reader says so
pub no_form : (hosts : List (List ℕ)) (bytes : List ℕ) (tokens : List Token) (fault : ReadFault) (at : ℕ) → tokens ≡ tokens_of bytes → fault ≡ read.NotBuilt at → ((m : Module) → Spells hosts tokens m → fault ≡ read.OutOfMemory) → IsNoForm hosts bytes
no_form hosts bytes tokens fault at e is complete = λ m spells.
    let none : fault ≡ read.OutOfMemory = complete m (subst (λ (ts : List Token). Spells hosts ts m) (sym e) spells) in
    let bad : read.NotBuilt at ≡ read.OutOfMemory = sym is ∙ none in
    cc

-- a fault of the graph
pub graph_fits : (hosts : List (List ℕ)) (told : Option (List ℕ → Option (List ℕ))) (entry : List ℕ) (old new : ℕ) (fault : GraphFault) → HasGraphFault told hosts entry old new fault → Fits hosts (asked.build entry) told old new (graph_fault_of fault)
graph_fits hosts told entry old new (graph_fault.Refused r) h = h
graph_fits hosts told entry old new graph_fault.OutOfMemory h = tt

-- a count that rose since rose from before
rose_from : (old middle new : ℕ) → old ≤ middle → CountRose middle new → CountRose old new
rose_from old middle new le rose = λ no_end. let lt : middle < new = rose no_end in omega arith

refused_from : (told : Option (List ℕ → Option (List ℕ))) (hosts : List (List ℕ)) (entry : List ℕ) (old middle new : ℕ) (r : Refusal) → old ≤ middle → IsRefusedFor told hosts entry middle new r → IsRefusedFor told hosts entry old new r
refused_from told hosts entry old middle new _ le (by_files r) = by_files r
refused_from told hosts entry old middle new _ le (by_reading rose next) = by_reading (rose_from old middle new le rose) next

pub fits_from : (hosts : List (List ℕ)) (told : Option (List ℕ → Option (List ℕ))) (entry : List ℕ) (old middle new : ℕ) (result : Result (Vec ℕ Global) CommandFault) → old ≤ middle → MatchResult result (λ s. IsFileScript hosts told entry s.items) (Fits hosts (asked.build entry) told middle new) → MatchResult result (λ s. IsFileScript hosts told entry s.items) (Fits hosts (asked.build entry) told old new)
fits_from hosts told entry old middle new (Ok s) le h = h
fits_from hosts told entry old middle new (Err OutOfMemory) le h = tt
fits_from hosts told entry old middle new (Err (Refused Missing)) le h = h
fits_from hosts told entry old middle new (Err (Refused ReadFailed)) le h = rose_from old middle new le h
fits_from hosts told entry old middle new (Err (Refused FileTooLong)) le h = h
fits_from hosts told entry old middle new (Err (Refused (InGraph r))) le h = refused_from told hosts entry old middle new r le h
fits_from hosts told entry old middle new (Err (Refused (InScript fault))) le h = h
fits_from hosts told entry old middle new (Err (Refused (InEdits fault))) le h = h
fits_from hosts told entry old middle new (Err (Refused (BadMap fault))) le h = h
fits_from hosts told entry old middle new (Err (Refused Unlike)) le h = h

-- the graph passed, and what is made of its entry is what the command makes
pub built_of : (hosts list : List (List ℕ)) (told told2 : Option (List ℕ → Option (List ℕ))) (entry : List ℕ) (old middle new : ℕ) (result : Result (Vec ℕ Global) CommandFault) → list ≡ hosts → told2 ≡ told → old ≤ middle → MatchResult result (λ s. IsFileScript list told2 entry s.items) (Fits list (asked.build entry) told2 middle new) → MatchResult result (λ s. IsFileScript hosts told entry s.items) (Fits hosts (asked.build entry) told old new)
built_of hosts list told told2 entry old middle new result e f le h =
    let at_told = subst (λ (t : Option (List ℕ → Option (List ℕ))). MatchResult result (λ s. IsFileScript list t entry s.items) (Fits list (asked.build entry) t middle new)) f h in
    fits_from hosts told entry old middle new result le (subst (λ (l : List (List ℕ)). MatchResult result (λ s. IsFileScript l told entry s.items) (Fits l (asked.build entry) told middle new)) e at_told)

-- what is made of the entry's graph, for a list of the hosts' names and for what files tell after it
pub built_at : (hosts list : List (List ℕ)) (told told2 : Option (List ℕ → Option (List ℕ))) (entry : List ℕ) (made : Vec ℕ Global) → list ≡ hosts → told2 ≡ told → IsMadeOf (λ g h (s : Vec ℕ Global). IsCompiled g h s.items) told entry hosts made → IsBuilt list told2 entry made.items
built_at hosts list told told2 entry made e f m =
    let here : IsBuilt hosts told entry made.items = record { graph = m.graph; loads = m.loads; linked = m.is_made.linked; relinked = m.is_made.relinked; compiled = m.is_made.is_made } in
    subst (λ (t : Option (List ℕ → Option (List ℕ))). IsBuilt list t entry made.items) (sym f) (subst (λ (l : List (List ℕ)). IsBuilt l told entry made.items) (sym e) here)

-- the scripts that are made of the entry's graph, for a list of the hosts' names
pub split_at : (hosts list : List (List ℕ)) (told : Option (List ℕ → Option (List ℕ))) (entry : List ℕ) (made : Vec ℕ Global) → list ≡ hosts → IsMadeOf (λ g h (s : Vec ℕ Global). IsSplitText g h s.items) told entry list made → IsSplitGraph hosts told entry made.items
split_at hosts list told entry made e m =
    let here : IsSplitGraph list told entry made.items = record { graph = m.graph; loads = m.loads; linked = m.is_made.linked; relinked = m.is_made.relinked; split = m.is_made.is_made } in
    subst (λ (l : List (List ℕ)). IsSplitGraph l told entry made.items) e here

pub found_map : (files : Option (List ℕ → Option (List ℕ))) (path : List ℕ) (old new : ℕ) (read : List ℕ) (result : Result (Vec ℕ Global) CommandFault) → IfSome files (λ file. option_map (read_of max_script_bytes) (file path) ≡ Some read) → MatchResult result (λ s. IsBytesMap read s.items) (FitsScript read) → MatchResult result (λ s. IsFileMap files path s.items) (Fits [] (asked.map_of path) files old new)
found_map files path old new read (Ok s) told b = record {
  text = b.text;
  accepted = if_some_map files (λ file e. mapped_file (file path) read b.text e b.within b.holds) told;
  is_map = b.is_map;
  line_is = b.line_is;
}
found_map files path old new read (Err OutOfMemory) told b = tt
found_map files path old new read (Err (Refused Missing)) told b = elim b [ ]
found_map files path old new read (Err (Refused (InGraph r))) told b = elim b [ ]
found_map files path old new read (Err (Refused (InScript f))) told b = elim b [ ]
found_map files path old new read (Err (Refused (InEdits f))) told b = elim b [ ]
found_map files path old new read (Err (Refused ReadFailed)) told b = elim b [ ]
found_map files path old new read (Err (Refused Unlike)) told b = elim b [ ]
found_map files path old new read (Err (Refused FileTooLong)) told b = if_some_map files (λ file e. unmapped_file (file path) read FileTooLong e b) told
found_map files path old new read (Err (Refused (BadMap f))) told b = if_some_map files (λ file e. unmapped_file (file path) read (BadMap f) e b) told

pub missing_script : (files : Option (List ℕ → Option (List ℕ))) (path : List ℕ) → IfSome files (λ file. file path ≡ None) → IfSome files (λ file. HasNoMap (file path) Missing)
missing_script files path told = if_some_map files (λ file e. subst (λ (o : Option (List ℕ)). HasNoMap o Missing) (sym e) no_script) told

-- a script's map that isn't read
pub map_text_fault : (bytes : List ℕ) (fault : MapFault) → length bytes ≤ max_script_bytes → Fails fault (map_text_of bytes) → FitsScript bytes (map_fault_of fault)
map_text_fault bytes map_fault.OutOfMemory short f = tt
map_text_fault bytes map_fault.NoMap short f = bad_map short (rw f refl)
map_text_fault bytes map_fault.BadBase64 short f = bad_map short (rw f refl)
map_text_fault bytes map_fault.BadJson short f = bad_map short (rw f refl)
map_text_fault bytes map_fault.BadVersion short f = bad_map short (rw f refl)
map_text_fault bytes (map_fault.BadDigit at) short f = bad_map short (rw f refl)
map_text_fault bytes (map_fault.BadFields at) short f = bad_map short (rw f refl)
map_text_fault bytes (map_fault.BadIndex at) short f = bad_map short (rw f refl)

pub map_read_fault : (bytes text : List ℕ) (fault : MapFault) → length bytes ≤ max_script_bytes → map_text_of bytes ≡ Ok text → Fails fault (map_of text) → FitsScript bytes (map_fault_of fault)
map_read_fault bytes text map_fault.OutOfMemory short e f = tt
map_read_fault bytes text map_fault.NoMap short e f = bad_map short (rw e f)
map_read_fault bytes text map_fault.BadBase64 short e f = bad_map short (rw e f)
map_read_fault bytes text map_fault.BadJson short e f = bad_map short (rw e f)
map_read_fault bytes text map_fault.BadVersion short e f = bad_map short (rw e f)
map_read_fault bytes text (map_fault.BadDigit at) short e f = bad_map short (rw e f)
map_read_fault bytes text (map_fault.BadFields at) short e f = bad_map short (rw e f)
map_read_fault bytes text (map_fault.BadIndex at) short e f = bad_map short (rw e f)

-- the outcome of a command
reported : (c : Call) (s s' : Status) (line : List ℕ) → IsLine c s line → HasAdded c.out [] → IsSaid c.err line s s' → (HasAdded c.err line → IsAnswered c s) → IsAnswered c s'
reported c s s' bytes l o (said h) as_said = as_said h
reported c s s' bytes l o (cut_off h) as_said = cut_line s bytes l h o
reported c s s' bytes l o (unsaid h) as_said = (o, h)

-- what holds of the three statuses of refusals holds of the status of a graph's fault
by_graph_status : (P : Status → Type 0) (fault : FileFault) → P status.Refused → P status.ReadFault → P status.Limit → P (graph_status_of fault)
by_graph_status P in_file.Missing refused unread limit = refused
by_graph_status P in_file.ReadFailed refused unread limit = unread
by_graph_status P in_file.FileTooLong refused unread limit = limit
by_graph_status P in_file.GraphTooLong refused unread limit = limit
by_graph_status P (in_file.NotUtf8 at) refused unread limit = refused
by_graph_status P (in_file.At place fault) refused unread limit = by_limit (is_placed_limit fault)
  where
    by_limit : (b : Bool) → P (cond b status.Limit status.Refused)
    by_limit true = limit
    by_limit false = refused

by_script_status : (P : Status → Type 0) (fault : ScriptFault) → P status.Refused → P status.ReadFault → P status.Limit → P (script_status_of fault)
by_script_status P in_script.Missing refused unread limit = refused
by_script_status P in_script.ReadFailed refused unread limit = unread
by_script_status P in_script.FileTooLong refused unread limit = limit
by_script_status P (in_script.NotUtf8 at) refused unread limit = refused
by_script_status P (in_script.At place finding) refused unread limit = by_limit (script_fault.is_limit_there finding)
  where
    by_limit : (b : Bool) → P (cond b status.Limit status.Refused)
    by_limit true = limit
    by_limit false = refused

by_edits_status : (P : Status → Type 0) (fault : EditsFault) → P status.Refused → P status.ReadFault → P status.Limit → P (edits_status_of fault)
by_edits_status P in_edits.Missing refused unread limit = refused
by_edits_status P in_edits.ReadFailed refused unread limit = unread
by_edits_status P in_edits.FileTooLong refused unread limit = limit
by_edits_status P (in_edits.NotUtf8 at) refused unread limit = refused
by_edits_status P (in_edits.BadEdit line) refused unread limit = refused
by_edits_status P (in_edits.MissingFile line from) refused unread limit = refused
by_edits_status P (in_edits.UnreadFile path) refused unread limit = unread

report_of : (c : Call) (fault : Fault) → IsReported c (status_of fault) → IsAnswered c (status_of fault)
report_of c Missing r = r
report_of c ReadFailed r = r
report_of c FileTooLong r = r
report_of c (InGraph r) reported = by_graph_status (λ (s : Status). IsReported c s → IsAnswered c s) r.fault (λ x. x) (λ x. x) (λ x. x) reported
report_of c (InScript f) reported = by_script_status (λ (s : Status). IsReported c s → IsAnswered c s) f (λ x. x) (λ x. x) (λ x. x) reported
report_of c (InEdits f) reported = by_edits_status (λ (s : Status). IsReported c s → IsAnswered c s) f (λ x. x) (λ x. x) (λ x. x) reported
report_of c (BadMap fault) r = r
report_of c Unlike r = r

pub misused : (c : Call) (fault : WordsFault) (s : Status) → IsRefused (command_of c.words) fault → HasAdded c.out [] → IsMisuseOutcome fault c.err s → IsAnswered c s
misused c words.Usage s none o h = reported c status.Usage s usage_line (usage none) o h (λ k. record { line = usage_line; is_line = usage none; on_err = k; on_out = o })
misused c words.OutOfMemory s fits o h = subst (λ (t : Status). IsAnswered c t) (sym h.0) (o, h.1)

written : (c : Call) (wanted s : Status) (bytes : List ℕ) → (IsWhole c wanted → IsAnswered c wanted) → Makes c wanted bytes → HasAdded c.err [] → IsSaid c.out bytes wanted s → IsAnswered c s
written c wanted s bytes as_whole b e (said h) = as_whole (bytes, b, h, e)
written c wanted s bytes as_whole b e (cut_off h) = cut_output bytes b h e
written c wanted s bytes as_whole b e (unsaid h) = (h, e)

fails : (c : Call) (a : Asked) (s : Status) (fault : CommandFault) → command_of c.words ≡ Some a → Fits c.hosts a c.files c.faults_old c.faults_new fault → IsFailOutcome (subject a) fault c.err s → HasAdded c.out [] → IsAnswered c s
fails c a s (Refused fault) command f h o =
    let l = refusal (record { asked = a; command = command; line_is = refl; cause = f }) in
    let line = line_of (subject a) fault in
    reported c (status_of fault) s line l o h (λ k. report_of c fault (record { line = line; is_line = l; on_err = k; on_out = o }))
fails c a s OutOfMemory command f h o = subst (λ (t : Status). IsAnswered c t) (sym h.0) (o, h.1)

makes_script : (c : Call) (entry bytes : List ℕ) → command_of c.words ≡ Some (asked.build entry) → IsFileScript c.hosts c.files entry bytes → Makes c status.Done bytes
makes_script c entry _ command (of_module m accepted of) = script entry m command accepted of
makes_script c entry _ command (of_graph g) = whole entry command g

makes : (c : Call) (a : Asked) (bytes : List ℕ) → command_of c.words ≡ Some a → MadeBy c.hosts a c.files bytes → Makes c status.Done bytes
makes c (asked.build entry) bytes command f = makes_script c entry bytes command f
makes c (asked.map_of path) bytes command f = subst (λ (b : List ℕ). Makes c status.Done b) (sym f.line_is) (map f.text path command f.accepted f.is_map)
makes c (asked.split entry) bytes command f = scripts entry command f
makes c (asked.rebuild entry list) bytes command f = rebuilt entry list command f
makes c (asked.run entry steps) bytes command f = absurd f
makes c (asked.run5 path steps) bytes command f = absurd f
makes c (asked.sample n) bytes command f = absurd f

answered : (c : Call) (a : Asked) (s : Status) → command_of c.words ≡ Some a → IsAnswer c.hosts a c.files c.faults_old c.faults_new c.out c.err s → IsAnswered c s
answered c a s command (wrote bytes f h e) = written c status.Done s bytes (λ w. w) (makes c a bytes command f) e h
answered c a s command (failed fault f h o) = fails c a s fault command f h o

talked : (c : Call) (a : Asked) (s : Status) → command_of c.words ≡ Some a → TalksBy c.hosts a c.files c.hosts_old c.hosts_new c.out c.err s → HasTalked c s
talked c (asked.build entry) s command t = absurd t
talked c (asked.map_of path) s command t = absurd t
talked c (asked.split entry) s command t = absurd t
talked c (asked.rebuild entry list) s command t = absurd t
talked c (asked.run entry steps) s command t = record { end = t.end; run = by_graph entry steps command t.run; ended = t.ended }
talked c (asked.run5 path steps) s command t = record { end = t.end; run = by_script path steps command t.run; ended = t.ended }
talked c (asked.sample n) s command t = absurd t

-- what the sample leaves, by what comes of both runs
both_told : (c : Call) (count : ℕ) (s : Status) (both : Comparison) (line : List ℕ) → command_of c.words ≡ Some (asked.sample count) → IsSampled count both → line ≡ sample_line count both
    → IsToldOfBoth both line c.out c.err s → IsAnswered c s
both_told c count s (comparison.Same events) line command is line_is t =
    written c status.Done s line (λ w. w) (sampled count command (record { comparison = comparison.Same events; sampled = is; line_is = line_is; told = refl })) t.1 t.0
both_told c count s (comparison.Threw seen) line command is line_is t =
    written c status.Threw s line (λ w. w) (sampled count command (record { comparison = comparison.Threw seen; sampled = is; line_is = line_is; told = refl })) t.1 t.0
both_told c count s (comparison.Left exit path place) line command is line_is t =
    written c status.Left s line (λ w. w) (sampled count command (record { comparison = comparison.Left exit path place; sampled = is; line_is = line_is; told = refl })) t.1 t.0
both_told c count s comparison.Spent line command is line_is t =
    written c status.StepsSpent s line (λ w. w) (sampled count command (record { comparison = comparison.Spent; sampled = is; line_is = line_is; told = refl })) t.1 t.0
both_told c count s comparison.Unlike line command is line_is t = fails c (asked.sample count) s (Refused Unlike) command is t.0 t.1
both_told c count s (comparison.Unread fault) line command is line_is t = fails c (asked.sample count) s (Refused (InScript fault)) command is t.0 t.1

none_told : (c : Call) (count : ℕ) (s : Status) (fault : CommandFault) → command_of c.words ≡ Some (asked.sample count) → FitsSample count fault → IsFailOutcome sample_word fault c.err s → HasAdded c.out [] → IsAnswered c s
none_told c count s (Refused (InGraph r)) command f h o = fails c (asked.sample count) s (Refused (InGraph r)) command f h o
none_told c count s (Refused Missing) command f h o = absurd f
none_told c count s (Refused ReadFailed) command f h o = absurd f
none_told c count s (Refused FileTooLong) command f h o = absurd f
none_told c count s (Refused (InScript fault)) command f h o = absurd f
none_told c count s (Refused (InEdits fault)) command f h o = absurd f
none_told c count s (Refused (BadMap fault)) command f h o = absurd f
none_told c count s (Refused Unlike) command f h o = absurd f
none_told c count s OutOfMemory command f h o = fails c (asked.sample count) s OutOfMemory command tt h o

sample_told_of : (c : Call) (count : ℕ) (s : Status) → command_of c.words ≡ Some (asked.sample count) → IsSampleOutcome count c.out c.err s → IsAnswered c s
sample_told_of c count s command (both_ran x with_it told) = both_told c count s x.comparison x.line.items command with_it.is_sampled with_it.line_is told
sample_told_of c count s command (none_ran fault fits h o) = none_told c count s fault command fits h o

sampled_answer : (c : Call) (a : Asked) (s : Status) → command_of c.words ≡ Some a → SamplesBy a c.out c.err s → IsAnswered c s
sampled_answer c (asked.build entry) s command h = absurd h
sampled_answer c (asked.map_of path) s command h = absurd h
sampled_answer c (asked.split entry) s command h = absurd h
sampled_answer c (asked.rebuild entry list) s command h = absurd h
sampled_answer c (asked.run entry steps) s command h = absurd h
sampled_answer c (asked.run5 path steps) s command h = absurd h
sampled_answer c (asked.sample count) s command h = sample_told_of c count s command h

answered_so : (c : Call) (a : Asked) (s : Status) → command_of c.words ≡ Some a → IsAnswer c.hosts a c.files c.faults_old c.faults_new c.out c.err s ⊎ SamplesBy a c.out c.err s → IsAnswered c s
answered_so c a s command (inl h) = answered c a s command h
answered_so c a s command (inr h) = sampled_answer c a s command h

pub done : (c : Call) (a : Asked) (s : Status) → command_of c.words ≡ Some a → IsCommandOutcome c.hosts a c.files c.faults_old c.faults_new c.hosts_old c.hosts_new c.out c.err s → IsOutcome c s
done c a s command (inl h) = inl (answered_so c a s command h.0, h.1)
done c a s command (inr t) = inr (talked c a s command t)

-- the hosts and the output of a call that left all as it was
pub same_hosts : {old new : Hosted} {out : Written} → after new out ≡ before old out → new ≡ old
same_hosts e = ap (λ (a : Around). a.hosts) e

pub same_output : {old new : Hosted} {out : Written} → after new out ≡ before old out → HasAdded out []
same_output {out = out} e = subst (λ (b : Option (List ℕ)). Adds [] out.old b) (sym (ap (λ (a : Around). a.output.bytes) e)) (adds_nothing out.old)

-- what a script leaves, by what is told of it
pub script_outcome : (told : Option (List ℕ → Option (List ℕ))) (faults_old faults_new : ℕ) (path : List ℕ) (steps : ℕ) (hosts_old hosts_new : Hosted) (out err : Written) (s : Status) (r : Result RunEnd Unread)
    → hosts_new.names ≡ hosts_old.names → Ends told faults_old faults_new path steps (before hosts_old out) (after hosts_new out) r → IsToldOf path hosts_new.names err r s
    → IsCommandOutcome hosts_old.names (asked.run5 path steps) told faults_old faults_new hosts_old hosts_new out err s
script_outcome told faults_old faults_new path steps hosts_old hosts_new out err s (Ok e) names ends t =
    inr (record { end = e; run = ends; ended = subst (λ (h : List (List ℕ)). IsEnded h err e s) names t })
script_outcome told faults_old faults_new path steps hosts_old hosts_new out err s (Err (unread.Refused f)) names ends t =
    inl (inl (failed (Refused (InScript f)) ends.cause t (same_output ends.untouched)), same_hosts ends.untouched)
script_outcome told faults_old faults_new path steps hosts_old hosts_new out err s (Err unread.OutOfMemory) names ends t =
    inl (inl (failed OutOfMemory tt t (same_output ends.untouched)), same_hosts ends.untouched)

-- a run for hosts with these names
pub run_by : (hosts list : List (List ℕ)) (told : Option (List ℕ → Option (List ℕ))) (faults_old faults_new : ℕ) (entry : List ℕ) (steps : ℕ) (old new : Around) (r : Result RunEnd GraphFault)
    → list ≡ hosts → RunsGraph list told faults_old faults_new entry steps old new r → RunsGraph hosts told faults_old faults_new entry steps old new r
run_by hosts list told faults_old faults_new entry steps old new r e h = subst (λ (l : List (List ℕ)). RunsGraph l told faults_old faults_new entry steps old new r) e h

-- what a graph leaves, by what is told of it
pub graph_outcome : (told : Option (List ℕ → Option (List ℕ))) (faults_old faults_new : ℕ) (entry : List ℕ) (steps : ℕ) (hosts_old hosts_new : Hosted) (out err : Written) (s : Status) (r : Result RunEnd GraphFault)
    → hosts_new.names ≡ hosts_old.names → RunsGraph hosts_old.names told faults_old faults_new entry steps (before hosts_old out) (after hosts_new out) r → IsToldOfGraph entry hosts_new.names err r s
    → IsCommandOutcome hosts_old.names (asked.run entry steps) told faults_old faults_new hosts_old hosts_new out err s
graph_outcome told faults_old faults_new entry steps hosts_old hosts_new out err s (Ok e) names ends t =
    inr (record { end = e; run = ends; ended = subst (λ (h : List (List ℕ)). IsEnded h err e s) names t })
graph_outcome told faults_old faults_new entry steps hosts_old hosts_new out err s (Err (graph_fault.Refused f)) names ends t =
    inl (inl (failed (Refused (InGraph f)) ends.0 t (same_output ends.1)), same_hosts ends.1)
graph_outcome told faults_old faults_new entry steps hosts_old hosts_new out err s (Err graph_fault.OutOfMemory) names ends t =
    inl (inl (failed OutOfMemory tt t (same_output ends.1)), same_hosts ends.1)

-- the same command, said otherwise
pub asked_as : (hosts : List (List ℕ)) (a b : Asked) (told : Option (List ℕ → Option (List ℕ))) (old new : ℕ) (hosts_old hosts_new : Hosted) (out err : Written) (s : Status) → a ≡ b
    → IsCommandOutcome hosts a told old new hosts_old hosts_new out err s → IsCommandOutcome hosts b told old new hosts_old hosts_new out err s
asked_as hosts a b told old new hosts_old hosts_new out err s e h = subst (λ (x : Asked). IsCommandOutcome hosts x told old new hosts_old hosts_new out err s) e h

-- a number that no host has names none
pub no_name : (names : List (List ℕ)) (number : ℕ) → None ≡ slice_get names number → [] ≡ slice_index_or names number []
no_name [] number e = refl
no_name (name ∷ names) zero e = absurd (cc)
no_name (name ∷ names) (suc number) e = no_name names number e

-- what the edits of a list aren't read for
pub edits_fit : (hosts : List (List ℕ)) (told : Option (List ℕ → Option (List ℕ))) (entry list : List ℕ) (old new : ℕ) (fault : UnreadList) → of_edits.Cause told list old new fault → Fits hosts (asked.rebuild entry list) told old new (edits_fault_of fault)
edits_fit hosts told entry list old new unread_list.OutOfMemory h = tt
edits_fit hosts told entry list old new (unread_list.Refused f) h = untaken h

-- what ends builds, by what files tell once the edits are read
pub builds_fit : (hosts : List (List ℕ)) (told after : Option (List ℕ → Option (List ℕ))) (entry list : List ℕ) (old middle new : ℕ) (steps : List Step) (fault : BuildFault) (T : Type 0) (result : Result T BuildFault)
    → result ≡ Err fault → after ≡ told → old ≤ middle → AreEdits told list steps → IfUnread result (ReadsIn (ReadsNext entry) after steps) → (IsUnread result → CountRose middle new)
    → Fits hosts (asked.rebuild entry list) told old new (build_fault_of fault)
builds_fit hosts told after entry list old middle new steps build_fault.OutOfMemory T result is same le edits reads rises = tt
builds_fit hosts told after entry list old middle new steps (build_fault.Unread path) T result is same le edits reads rises =
    let here : ReadsIn (ReadsNext entry) after steps path = subst (λ (r : Result T BuildFault). IfUnread r (ReadsIn (ReadsNext entry) after steps)) is reads in
    unbuilt steps edits (subst (λ (t : Option (List ℕ → Option (List ℕ))). ReadsIn (ReadsNext entry) t steps path) same here) (rose_from old middle new le (rises (path, is)))

-- what the builds write, for a list of the hosts' names and for what files tell once the edits are read
pub rebuilt_at : (hosts list : List (List ℕ)) (told after : Option (List ℕ → Option (List ℕ))) (entry path : List ℕ) (steps : List Step) (bytes : List ℕ) → list ≡ hosts → after ≡ told → AreEdits told path steps
    → WritesAll IsCompiled entry list after steps bytes → IsRebuilt hosts told entry path bytes
rebuilt_at hosts list told after entry path steps bytes e f edits w = record {
  steps = steps;
  edits = edits;
  written = subst (λ (h : List (List ℕ)). WritesAll IsCompiled entry h told steps bytes) e (subst (λ (t : Option (List ℕ → Option (List ℕ))). WritesAll IsCompiled entry list t steps bytes) f w);
}

-- the list of the hosts' names, one by one
pub one_more_name : (names items : List (List ℕ)) (n : ℕ) (name : List ℕ) → items ≡ take n names → slice_get names n ≡ Some name → items ++ name ∷ [] ≡ take (n + 1) names
one_more_name names items n name e here = by_case (cases_lt n (length names))
  where
    by_case : (n < length names) ⊎ (length names ≤ n) → items ++ name ∷ [] ≡ take (n + 1) names
    by_case (inl lt) =
        let read : slice_get names n ≡ Some (get_or names n name) = slice_get-get_or names n name lt in
        let same : get_or names n name ≡ name = same_some (sym read ∙ here) in
        ap (λ l. l ++ name ∷ []) e ∙ ap (λ x. take n names ++ x ∷ []) (sym same) ∙ sym (take_more names n name lt)
    by_case (inr past) = absurd (let none : slice_get names n ≡ None = slice_get_past names n past in cc)

pub all_names : (names items : List (List ℕ)) (n : ℕ) → items ≡ take n names → slice_get names n ≡ None → items ≡ names
all_names names items n e none = by_case (cases_lt n (length names))
  where
    by_case : (n < length names) ⊎ (length names ≤ n) → items ≡ names
    by_case (inl lt) = absurd (let read : slice_get names n ≡ Some (get_or names n []) = slice_get-get_or names n [] lt in cc)
    by_case (inr past) = e ∙ take_all n names past

pub wrote_slice : {path : List ℕ} {made : List ℕ → Type 0} {fits : CommandFault → Type 0} {out err : Written} {s : Status} (bytes slice : List ℕ) → slice ≡ bytes → made bytes → IsSaid out slice status.Done s → HasAdded err [] → IsWritten path made fits out err s
wrote_slice {out = out} {s = s} bytes slice e f h g = wrote bytes f (subst (λ (b : List ℕ). IsSaid out b status.Done s) e h) g

pub failed_as : {path : List ℕ} {made : List ℕ → Type 0} {fits : CommandFault → Type 0} {out err : Written} {s : Status} (fault : CommandFault) (subject : List ℕ) → subject ≡ path → fits fault → IsFailOutcome subject fault err s → HasAdded out [] → IsWritten path made fits out err s
failed_as {err = err} {s = s} fault subject e f h o = failed fault f (subst (λ (p : List ℕ). IsFailOutcome p fault err s) e h) o
