-- The status that is due, by what the call leaves.
use Rattle.std.proofs.Common.{◌≡◌, ℕ, cond, List, Option, Some, None, Result, Ok, Err, refl, sym, ap, ◌∙◌, subst, arith, length, ◌⊎◌, inl, inr}
use Rattle.std.specs.Prelude.{IfSome}
use Rattle.es_outside.specs.Counts.{CountRose}
use Rattle.commands.specs.declared.status.Status.{Status}
use Rattle.commands.specs.declared.status.Status.TheVariants as status
use Rattle.commands.specs.declared.fault.Fault.{Fault}
use Rattle.commands.specs.declared.fault.Fault.TheVariants.{Missing, ReadFailed, FileTooLong, InGraph, InScript, InEdits, BadMap, Unlike}
use Rattle.command_words.specs.Words.{Asked, command_of}
use Rattle.command_words.specs.Words as asked
use Rattle.source_map.specs.Document.{map_of}
use Rattle.source_map.specs.Line.{map_text_of}
use Rattle.source_map.specs.Outcome.{◌>>=◌}
use Rattle.source_map.specs.declared.fault.MapFault.{MapFault}
use Rattle.edit_reading.specs.Lines as edits_fault
use Rattle.edit_reading.specs.Reading as of_edits
use Rattle.edit_reading.specs.Reading.{AreEdits}
use Rattle.edit_reading.specs.declared.fault.EditsFault.{EditsFault}
use Rattle.edit_reading.specs.declared.fault.EditsFault.TheVariants as in_edits
use Rattle.edit_reading.specs.declared.fault.Unread.TheVariants as unread_list
use Rattle.edit_reading.proofs.Laws as edits_laws
use Rattle.listed_builds.specs.Doing.{Step}
use Rattle.graph_refusals.specs.Lines.{is_limit}
use Rattle.graph_refusals.specs.declared.fault.FileFault.{FileFault}
use Rattle.graph_refusals.specs.declared.fault.FileFault.TheVariants as in_file
use Rattle.graph_refusals.specs.declared.fault.Refusal.{Refusal}
use Rattle.module_linker.specs.graph_checks.Runs.{HasRunGraph}
use Rattle.module_linker.specs.graph_checks.Checks.{IsRefusedFor, Passes, Refuses, by_files, by_reading}
use Rattle.module_linker.proofs.graph_checks.Laws.{one_limit_refused, passes_or_refused, refuses_no_read}
use Rattle.sample_graph.specs.Listed.{file_listed}
use Rattle.sample_graph.specs.Sample.{sample_files}
use Rattle.sample_runs.specs.declared.comparison.Comparison.{Comparison}
use Rattle.sample_runs.specs.declared.comparison.Comparison.TheVariants as comparison
use Rattle.run_lines.specs.ScriptFaults as script_fault
use Rattle.run_lines.specs.declared.script_fault.ScriptFault.{ScriptFault}
use Rattle.run_lines.specs.declared.script_fault.ScriptFault.TheVariants as in_script
use Rattle.program_runs.specs.Around.{Around}
use Rattle.program_runs.specs.declared.end.RunEnd.{RunEnd}
use Rattle.script_runs.specs.Runs.{HasRun}
use Rattle.script_runs.specs.Scripts as of_script
use Rattle.script_runs.proofs.Laws as script_laws
use Rattle.commands.specs.Lines.{edits_status_of, graph_status_of, script_status_of, status_of}
use Rattle.commands.specs.Outcome.{untaken, unbuilt, EditsCause, RefusesEntry, in_graph, HasMap, HasNoMap, no_script, script_too_long, bad_map, IsMapText, OnFile, HasEditsFault, HasFault, HasScriptFault, GraphCause, IsSampled, IsUnlike, ScriptCause, Cause, Call, HasTalked, Runs, by_script, by_graph, IsAnswered, after, before, print_alone, sample_entry, sample_told, Makes, script, whole, scripts, rebuilt, map, sampled, IsLine, usage, refusal, cut_output, cut_line, IsOutcome, IsCalm, IsDue, ComesWhenDue}
use Rattle.commands.proofs.Outcomes.{passes_built, passes_split}

same_some : {A : Type 0} {x y : A} → Some x ≡ Some y → x ≡ y
same_some e = cc

-- a graph that passes has no fault
one_finding : (hosts : List (List ℕ)) (file : List ℕ → Option (List ℕ)) (entry : List ℕ) (fault : Fault) → Passes (Some file) hosts entry → RefusesEntry hosts (Some file) entry fault → ⊥
one_finding hosts file entry _ p (in_graph {refusal = r} refuses) = passes_or_refused file hosts entry r p refuses

-- nor has one that holds a map
one_map : (file : Option (List ℕ)) (text : List ℕ) (fault : Fault) → HasMap file text → IsMapText text → HasNoMap file fault → ⊥
one_map file text fault h is no_script = let e = h.found in absurd (cc)
one_map file text fault h is (script_too_long {bytes = bytes} long) =
    let e : length h.bytes ≡ length bytes = ap length (same_some (sym h.found)) in
    let w = h.within in
    absurd (omega arith)
one_map file text fault h is (bad_map {bytes = bytes} {fault = f} short no_map) =
    let e : h.bytes ≡ bytes = same_some (sym h.found) in
    let held : map_text_of bytes ≡ Ok text = ap map_text_of (sym e) ∙ h.holds in
    let P : Result (List ℕ) MapFault → Type 0 = λ r. (r >>= map_of) ≡ Err f in
    let none : map_of text ≡ Err f = subst P held no_map in
    let some = is.1 in
    absurd (cc)

-- the faults of a graph have one status
status_by_limit : (f : FileFault) → (f ≡ in_file.ReadFailed → ⊥) → graph_status_of f ≡ cond (is_limit f) status.Limit status.Refused
status_by_limit in_file.Missing unless = refl
status_by_limit in_file.ReadFailed unless = absurd (unless refl)
status_by_limit in_file.FileTooLong unless = refl
status_by_limit in_file.GraphTooLong unless = refl
status_by_limit (in_file.NotUtf8 at) unless = refl
status_by_limit (in_file.At place fault) unless = refl

refusal_status : (told : Option (List ℕ → Option (List ℕ))) (hosts : List (List ℕ)) (entry : List ℕ) (r : Refusal) → Refuses told hosts entry r → status_of (InGraph r) ≡ cond (is_limit r.fault) status.Limit status.Refused
refusal_status told hosts entry r refuses = status_by_limit r.fault (refuses_no_read told hosts entry r refuses)

one_status : (hosts : List (List ℕ)) (file : List ℕ → Option (List ℕ)) (entry : List ℕ) (f g : Fault) → RefusesEntry hosts (Some file) entry f → RefusesEntry hosts (Some file) entry g → status_of f ≡ status_of g
one_status hosts file entry _ _ (in_graph {refusal = r} x) (in_graph {refusal = q} y) =
    refusal_status (Some file) hosts entry r x ∙ ap (λ b. cond b status.Limit status.Refused) (one_limit_refused file hosts entry r q x y) ∙ sym (refusal_status (Some file) hosts entry q y)

one_map_status : (file : Option (List ℕ)) (f g : Fault) → HasNoMap file f → HasNoMap file g → status_of f ≡ status_of g
one_map_status file f g no_script no_script = refl
one_map_status file f g (script_too_long long) (script_too_long long2) = refl
one_map_status file f g (script_too_long long) (bad_map short h) = absurd (omega arith)
one_map_status file f g (bad_map short h) (script_too_long long) = absurd (omega arith)
one_map_status file f g (bad_map short h) (bad_map short2 h2) = refl

script_status : (file : List ℕ → Option (List ℕ)) (path : List ℕ) (f : ScriptFault) → of_script.HasFault (Some file) path f → script_status_of f ≡ cond (script_fault.is_limit f) status.Limit status.Refused
script_status file path in_script.Missing h = refl
script_status file path in_script.ReadFailed h = absurd h.2
script_status file path in_script.FileTooLong h = refl
script_status file path (in_script.NotUtf8 at) h = refl
script_status file path (in_script.At place finding) h = refl

-- and so have those of a script
one_script_status : (file : List ℕ → Option (List ℕ)) (path : List ℕ) (f g : Fault) → HasScriptFault (Some file) path f → HasScriptFault (Some file) path g → status_of f ≡ status_of g
one_script_status file path (InScript f) (InScript g) a b =
    script_status file path f a ∙ ap (λ b. cond b status.Limit status.Refused) (script_laws.one_status file path f g a b) ∙ sym (script_status file path g b)
one_script_status file path (InScript f) Missing a b = absurd b
one_script_status file path (InScript f) ReadFailed a b = absurd b
one_script_status file path (InScript f) FileTooLong a b = absurd b
one_script_status file path (InScript f) (InGraph g) a b = absurd b
one_script_status file path (InScript f) (InEdits g) a b = absurd b
one_script_status file path (InScript f) (BadMap g) a b = absurd b
one_script_status file path (InScript f) Unlike a b = absurd b
one_script_status file path Missing g a b = absurd a
one_script_status file path ReadFailed g a b = absurd a
one_script_status file path FileTooLong g a b = absurd a
one_script_status file path (InGraph f) g a b = absurd a
one_script_status file path (InEdits f) g a b = absurd a
one_script_status file path (BadMap f) g a b = absurd a
one_script_status file path Unlike g a b = absurd a

edits_status : (file : List ℕ → Option (List ℕ)) (list : List ℕ) (f : EditsFault) → of_edits.HasFault (Some file) list f → edits_status_of f ≡ cond (edits_fault.is_limit f) status.Limit status.Refused
edits_status file list in_edits.Missing h = refl
edits_status file list in_edits.ReadFailed h = absurd h.2
edits_status file list in_edits.FileTooLong h = refl
edits_status file list (in_edits.NotUtf8 at) h = refl
edits_status file list (in_edits.BadEdit line) h = refl
edits_status file list (in_edits.MissingFile line from) h = refl
edits_status file list (in_edits.UnreadFile path) h = absurd h.2

-- and those of a list of edits
one_edits_status : (file : List ℕ → Option (List ℕ)) (list : List ℕ) (f g : Fault) → HasEditsFault (Some file) list f → HasEditsFault (Some file) list g → status_of f ≡ status_of g
one_edits_status file list (InEdits f) (InEdits g) a b =
    edits_status file list f a ∙ ap (λ b. cond b status.Limit status.Refused) (edits_laws.one_status file list f g a b) ∙ sym (edits_status file list g b)
one_edits_status file list (InEdits f) Missing a b = absurd b
one_edits_status file list (InEdits f) ReadFailed a b = absurd b
one_edits_status file list (InEdits f) FileTooLong a b = absurd b
one_edits_status file list (InEdits f) (InGraph g) a b = absurd b
one_edits_status file list (InEdits f) (InScript g) a b = absurd b
one_edits_status file list (InEdits f) (BadMap g) a b = absurd b
one_edits_status file list (InEdits f) Unlike a b = absurd b
one_edits_status file list Missing g a b = absurd a
one_edits_status file list ReadFailed g a b = absurd a
one_edits_status file list FileTooLong g a b = absurd a
one_edits_status file list (InGraph f) g a b = absurd a
one_edits_status file list (InScript f) g a b = absurd a
one_edits_status file list (BadMap f) g a b = absurd a
one_edits_status file list Unlike g a b = absurd a

-- edits that are read have none
edits_alone : (file : List ℕ → Option (List ℕ)) (list : List ℕ) (steps : List Step) (f : Fault) → AreEdits (Some file) list steps → HasEditsFault (Some file) list f → ⊥
edits_alone file list steps (InEdits f) a h = edits_laws.read_has_no_fault file list steps f a h
edits_alone file list steps Missing a h = h
edits_alone file list steps ReadFailed a h = h
edits_alone file list steps FileTooLong a h = h
edits_alone file list steps (InGraph f) a h = h
edits_alone file list steps (InScript f) a h = h
edits_alone file list steps (BadMap f) a h = h
edits_alone file list steps Unlike a h = h

-- the file of a script that is run has none
run_alone : (hosts : List (List ℕ)) (file : List ℕ → Option (List ℕ)) (path : List ℕ) (steps : ℕ) (old new : Around) (e : RunEnd) (f : Fault) → HasRun (Some file) path steps old new e → HasFault hosts (asked.run5 path steps) (Some file) f → ⊥
run_alone hosts file path steps old new e (InScript f) r h = script_laws.run_has_no_fault file path steps old new e f r h
run_alone hosts file path steps old new e Missing r h = h
run_alone hosts file path steps old new e ReadFailed r h = h
run_alone hosts file path steps old new e FileTooLong r h = h
run_alone hosts file path steps old new e (InGraph f) r h = h
run_alone hosts file path steps old new e (InEdits f) r h = h
run_alone hosts file path steps old new e (BadMap f) r h = h
run_alone hosts file path steps old new e Unlike r h = h

same_fault : (hosts : List (List ℕ)) (a : Asked) (file : List ℕ → Option (List ℕ)) (f g : Fault) → HasFault hosts a (Some file) f → HasFault hosts a (Some file) g → status_of f ≡ status_of g
same_fault hosts (asked.build entry) file f g = one_status hosts file entry f g
same_fault hosts (asked.map_of path) file f g = one_map_status (file path) f g
same_fault hosts (asked.split entry) file f g = one_status hosts file entry f g
same_fault hosts (asked.rebuild entry list) file f g = one_edits_status file list f g
same_fault hosts (asked.run entry steps) file f g = one_status hosts file entry f g
same_fault hosts (asked.run5 path steps) file f g = one_script_status file path f g
same_fault hosts (asked.sample count) file f g = one_status print_alone (file_listed (sample_files count)) sample_entry f g

untaken_told : (told : Option (List ℕ → Option (List ℕ))) (list : List ℕ) (old new : ℕ) (f : EditsFault) → (CountRose old new → ⊥) → of_edits.Cause told list old new (unread_list.Refused f) → of_edits.HasFault told list f
untaken_told told list old new in_edits.Missing calm h = h
untaken_told told list old new in_edits.ReadFailed calm h = absurd (calm h)
untaken_told told list old new in_edits.FileTooLong calm h = h
untaken_told told list old new (in_edits.NotUtf8 at) calm h = h
untaken_told told list old new (in_edits.BadEdit line) calm h = h
untaken_told told list old new (in_edits.MissingFile line from) calm h = h
untaken_told told list old new (in_edits.UnreadFile path) calm h = absurd (calm h.2.rose)

edits_fault_told : (hosts : List (List ℕ)) (a : Asked) (told : Option (List ℕ → Option (List ℕ))) (old new : ℕ) (f : EditsFault) → (CountRose old new → ⊥) → EditsCause a told old new f → HasFault hosts a told (InEdits f)
edits_fault_told hosts (asked.build entry) told old new f calm h = absurd h
edits_fault_told hosts (asked.map_of path) told old new f calm h = absurd h
edits_fault_told hosts (asked.split entry) told old new f calm h = absurd h
edits_fault_told hosts (asked.rebuild entry list) told old new f calm (untaken h) = untaken_told told list old new f calm h
edits_fault_told hosts (asked.rebuild entry list) told old new _ calm (unbuilt steps edits reads rose) = absurd (calm rose)
edits_fault_told hosts (asked.run entry steps) told old new f calm h = absurd h
edits_fault_told hosts (asked.run5 path steps) told old new f calm h = absurd h
edits_fault_told hosts (asked.sample n) told old new f calm h = absurd h

-- both runs of the sample graph were made
abbrev HasSampled : Asked → Type 0
HasSampled (asked.sample count) = (both : Comparison) × IsSampled count both
HasSampled _ = ⊥

-- what a script is refused for, by what files tell, if no read failed; or it is what the sample graph is compiled to
script_fault_told : (hosts : List (List ℕ)) (a : Asked) (told : Option (List ℕ → Option (List ℕ))) (old new : ℕ) (f : ScriptFault) → (CountRose old new → ⊥) → ScriptCause a told old new f → HasFault hosts a told (InScript f) ⊎ HasSampled a
script_fault_told hosts (asked.build entry) told old new f calm h = absurd h
script_fault_told hosts (asked.map_of path) told old new f calm h = absurd h
script_fault_told hosts (asked.split entry) told old new f calm h = absurd h
script_fault_told hosts (asked.rebuild entry list) told old new f calm h = absurd h
script_fault_told hosts (asked.run entry steps) told old new f calm h = absurd h
script_fault_told hosts (asked.run5 path steps) told old new in_script.Missing calm h = inl h
script_fault_told hosts (asked.run5 path steps) told old new in_script.ReadFailed calm h = absurd (calm h)
script_fault_told hosts (asked.run5 path steps) told old new in_script.FileTooLong calm h = inl h
script_fault_told hosts (asked.run5 path steps) told old new (in_script.NotUtf8 at) calm h = inl h
script_fault_told hosts (asked.run5 path steps) told old new (in_script.At place finding) calm h = inl h
script_fault_told hosts (asked.sample count) told old new f calm h = inr (comparison.Unread f, h)

unlike_told : (hosts : List (List ℕ)) (a : Asked) (told : Option (List ℕ → Option (List ℕ))) → IsUnlike a → HasFault hosts a told Unlike ⊎ HasSampled a
unlike_told hosts (asked.build entry) told h = absurd h
unlike_told hosts (asked.map_of path) told h = absurd h
unlike_told hosts (asked.split entry) told h = absurd h
unlike_told hosts (asked.rebuild entry list) told h = absurd h
unlike_told hosts (asked.run entry steps) told h = absurd h
unlike_told hosts (asked.run5 path steps) told h = absurd h
unlike_told hosts (asked.sample count) told h = inr (comparison.Unlike, h)

-- a cause is a fault of what the files tell, if no read failed
entry_fault_told : (hosts : List (List ℕ)) (told : Option (List ℕ → Option (List ℕ))) (entry : List ℕ) (old new : ℕ) (r : Refusal) → (CountRose old new → ⊥) → IsRefusedFor told hosts entry old new r → RefusesEntry hosts told entry (InGraph r)
entry_fault_told hosts told entry old new _ calm (by_files x) = in_graph x
entry_fault_told hosts told entry old new _ calm (by_reading rose next) = absurd (calm rose)

graph_fault_told : (hosts : List (List ℕ)) (a : Asked) (told : Option (List ℕ → Option (List ℕ))) (old new : ℕ) (r : Refusal) → (CountRose old new → ⊥) → GraphCause hosts a told old new r → HasFault hosts a told (InGraph r)
graph_fault_told hosts (asked.build entry) told old new r calm h = entry_fault_told hosts told entry old new r calm h
graph_fault_told hosts (asked.map_of path) told old new r calm h = absurd h
graph_fault_told hosts (asked.split entry) told old new r calm h = entry_fault_told hosts told entry old new r calm h
graph_fault_told hosts (asked.rebuild entry list) told old new r calm h = absurd h
graph_fault_told hosts (asked.run entry steps) told old new r calm h = entry_fault_told hosts told entry old new r calm h
graph_fault_told hosts (asked.run5 path steps) told old new r calm h = absurd h
graph_fault_told hosts (asked.sample count) told old new r calm h = in_graph h

fault_told : (hosts : List (List ℕ)) (a : Asked) (told : Option (List ℕ → Option (List ℕ))) (old new : ℕ) (fault : Fault) → (CountRose old new → ⊥) → Cause hosts a told old new fault → HasFault hosts a told fault ⊎ HasSampled a
fault_told hosts a told old new Missing calm h = inl h
fault_told hosts a told old new ReadFailed calm h = absurd (calm h)
fault_told hosts a told old new FileTooLong calm h = inl h
fault_told hosts a told old new (InGraph r) calm h = inl (graph_fault_told hosts a told old new r calm h)
fault_told hosts a told old new (InScript f) calm h = script_fault_told hosts a told old new f calm h
fault_told hosts a told old new (InEdits f) calm h = inl (edits_fault_told hosts a told old new f calm h)
fault_told hosts a told old new (BadMap fault) calm h = inl h
fault_told hosts a told old new Unlike calm h = unlike_told hosts a told h

-- a graph that is run or sampled passes every check
passes_run : {hosts : List (List ℕ)} {told : Option (List ℕ → Option (List ℕ))} {entry : List ℕ} {steps : ℕ} {old new : Around} {e : RunEnd} → HasRunGraph hosts told entry steps old new e → Passes told hosts entry
passes_run r = record { graph = r.graph; loaded = r.loads; endings = r.relinked.endings; linked = r.relinked.ends }

passes_sampled : {count : ℕ} {both : Comparison} → IsSampled count both → Passes (sample_told count) print_alone sample_entry
passes_sampled x = record { graph = x.graph; loaded = x.loads; endings = x.relinked.endings; linked = x.relinked.ends }

-- The status is the one that is due, by what the call leaves.
module _ (c : Call) (file : List ℕ → Option (List ℕ)) (told : c.files ≡ Some file) where
  at_file : (P : Option (List ℕ → Option (List ℕ)) → Type 0) → P c.files → P (Some file)
  at_file P h = subst P told h

  -- the fault of the one command that is asked for
  fault_here : (a b : Asked) (fault : Fault) → command_of c.words ≡ Some a → command_of c.words ≡ Some b → HasFault c.hosts b (Some file) fault → HasFault c.hosts a (Some file) fault
  fault_here a b fault e f h = subst (λ (z : Asked). HasFault c.hosts z (Some file) fault) (same_some (sym f ∙ e)) h

  built_is_due : (entry : List ℕ) → command_of c.words ≡ Some (asked.build entry) → Passes (Some file) c.hosts entry → IsDue c file status.Done
  built_is_due entry command here = record {
    no_command = λ none. absurd (cc);
    accepted = λ entry2 command2 p. refl;
    split = λ entry2 command2 p. refl;
    rebuilt = λ entry2 list steps command2 edits. refl;
    mapped = λ path text command2 h is. refl;
    ran = λ entry3 steps3 command3 p. absurd (cc);
    ran5 = λ path3 steps3 command3 faultless. absurd (cc);
    refused = λ a fault command2 r. absurd (one_finding c.hosts file entry fault here (fault_here (asked.build entry) a fault command command2 r));
  }

  split_is_due : (entry : List ℕ) → command_of c.words ≡ Some (asked.split entry) → Passes (Some file) c.hosts entry → IsDue c file status.Done
  split_is_due entry command here = record {
    no_command = λ none. absurd (cc);
    accepted = λ entry2 command2 p. refl;
    split = λ entry2 command2 p. refl;
    rebuilt = λ entry2 list steps command2 edits. refl;
    mapped = λ path text command2 h is. refl;
    ran = λ entry3 steps3 command3 p. absurd (cc);
    ran5 = λ path3 steps3 command3 faultless. absurd (cc);
    refused = λ a fault command2 r. absurd (one_finding c.hosts file entry fault here (fault_here (asked.split entry) a fault command command2 r));
  }

  rebuilt_is_due : (entry list : List ℕ) (steps : List Step) → command_of c.words ≡ Some (asked.rebuild entry list) → AreEdits (Some file) list steps → IsDue c file status.Done
  rebuilt_is_due entry list steps command edits = record {
    no_command = λ none. absurd (cc);
    accepted = λ entry2 command2 p. refl;
    split = λ entry2 command2 p. refl;
    rebuilt = λ entry2 list2 steps2 command2 edits2. refl;
    mapped = λ path text command2 h is. refl;
    ran = λ entry3 steps3 command3 p. absurd (cc);
    ran5 = λ path3 steps3 command3 faultless. absurd (cc);
    refused = λ a fault command2 r. absurd (edits_alone file list steps fault edits (fault_here (asked.rebuild entry list) a fault command command2 r));
  }

  -- where both runs of the sample graph are made, nothing else is due
  sampled_is_due : (a : Asked) (s : Status) → command_of c.words ≡ Some a → HasSampled a → IsDue c file s
  sampled_is_due (asked.build entry) s command x = absurd x
  sampled_is_due (asked.map_of path) s command x = absurd x
  sampled_is_due (asked.split entry) s command x = absurd x
  sampled_is_due (asked.rebuild entry list) s command x = absurd x
  sampled_is_due (asked.run entry steps) s command x = absurd x
  sampled_is_due (asked.run5 path steps) s command x = absurd x
  sampled_is_due (asked.sample count) s command x = record {
    no_command = λ none. absurd (cc);
    accepted = λ entry command2 p. absurd (cc);
    split = λ entry command2 p. absurd (cc);
    rebuilt = λ entry list steps command2 edits. absurd (cc);
    mapped = λ path text command2 h is. absurd (cc);
    ran = λ entry3 steps3 command3 p. absurd (cc);
    ran5 = λ path3 steps3 command3 faultless. absurd (cc);
    refused = λ a fault command2 r. absurd (one_finding print_alone (file_listed (sample_files count)) sample_entry fault (passes_sampled x.1) (fault_here (asked.sample count) a fault command command2 r));
  }

  made_is_due : (s : Status) (bytes : List ℕ) → Makes c s bytes → IsDue c file s
  made_is_due _ bytes (script entry m command accepted same) =
      built_is_due entry command (at_file (λ t. Passes t c.hosts entry) accepted.passes)
  made_is_due _ bytes (whole entry command g) =
      built_is_due entry command (at_file (λ t. Passes t c.hosts entry) (passes_built g.built))
  made_is_due _ bytes (scripts entry command g) =
      split_is_due entry command (at_file (λ t. Passes t c.hosts entry) (passes_split g))
  made_is_due _ bytes (rebuilt entry list command r) =
      rebuilt_is_due entry list r.steps command (at_file (λ t. AreEdits t list r.steps) r.edits)
  made_is_due _ bytes (map text path command has is) =
      let here = at_file (λ t. OnFile t path (λ f. HasMap f text)) has in
      record {
        no_command = λ none. absurd (cc);
        accepted = λ entry command2 p. refl;
        split = λ entry command2 p. refl;
        rebuilt = λ entry list steps command2 edits. refl;
        mapped = λ path2 text2 command2 h is2. refl;
        ran = λ entry3 steps3 command3 p. absurd (cc);
        ran5 = λ path3 steps3 command3 faultless. absurd (cc);
        refused = λ a fault command2 r. absurd (one_map (file path) text fault here is (fault_here (asked.map_of path) a fault command command2 r));
      }
  made_is_due s bytes (sampled count command x) = sampled_is_due (asked.sample count) s command (x.comparison, x.sampled)

  refusal_is_due : (fault : Fault) (a : Asked) → command_of c.words ≡ Some a → HasFault c.hosts a (Some file) fault → IsDue c file (status_of fault)
  refusal_is_due fault a command r = record {
    no_command = λ none. absurd (cc);
    accepted = λ entry command2 p. absurd (one_finding c.hosts file entry fault p (fault_here (asked.build entry) a fault command2 command r));
    split = λ entry command2 p. absurd (one_finding c.hosts file entry fault p (fault_here (asked.split entry) a fault command2 command r));
    rebuilt = λ entry list steps command2 edits. absurd (edits_alone file list steps fault edits (fault_here (asked.rebuild entry list) a fault command2 command r));
    mapped = λ path text command2 h is. absurd (one_map (file path) text fault h is (fault_here (asked.map_of path) a fault command2 command r));
    ran = λ entry steps command2 p. absurd (one_finding c.hosts file entry fault p (fault_here (asked.run entry steps) a fault command2 command r));
    ran5 = λ path steps command2 faultless. absurd (faultless fault (fault_here (asked.run5 path steps) a fault command2 command r));
    refused = λ b fault2 command2 r2. same_fault c.hosts a file fault fault2 r (fault_here a b fault2 command command2 r2);
  }

  line_is_due : IsCalm c → (s : Status) (bytes : List ℕ) → IsLine c s bytes → IsDue c file s
  line_is_due calm s bytes (usage none) = record {
    no_command = λ n. refl;
    accepted = λ entry command p. absurd (cc);
    split = λ entry command p. absurd (cc);
    rebuilt = λ entry list steps command edits. absurd (cc);
    mapped = λ path text command h is. absurd (cc);
    ran = λ entry3 steps3 command3 p. absurd (cc);
    ran5 = λ path3 steps3 command3 faultless. absurd (cc);
    refused = λ a fault command r. absurd (cc);
  }
  line_is_due calm s bytes (refusal {fault = fault} r) = elim (fault_told c.hosts r.asked c.files c.faults_old c.faults_new fault calm.files r.cause) [
    | inl h ↦ refusal_is_due fault r.asked r.command (at_file (λ t. HasFault c.hosts r.asked t fault) h)
    | inr x ↦ sampled_is_due r.asked (status_of fault) r.command x
  ]

  answer_is_due : (s : Status) → IsCalm c → (s ≡ status.OutOfMemory → ⊥) → IsAnswered c s → IsDue c file s
  answer_is_due status.Done calm memory o = made_is_due status.Done o.0 o.1
  answer_is_due status.Threw calm memory o = made_is_due status.Threw o.0 o.1
  answer_is_due status.Left calm memory o = made_is_due status.Left o.0 o.1
  answer_is_due status.StepsSpent calm memory o = made_is_due status.StepsSpent o.0 o.1
  answer_is_due status.Refused calm memory o = line_is_due calm status.Refused o.line o.is_line
  answer_is_due status.Usage calm memory o = line_is_due calm status.Usage o.line o.is_line
  answer_is_due status.ReadFault calm memory o = line_is_due calm status.ReadFault o.line o.is_line
  answer_is_due status.Limit calm memory o = line_is_due calm status.Limit o.line o.is_line
  answer_is_due status.WriteFault calm memory (cut_output bytes b h e) = absurd (calm.out h.1)
  answer_is_due status.WriteFault calm memory (cut_line s bytes l h o) = absurd (calm.err h.1)
  answer_is_due status.OutOfMemory calm memory o = absurd (memory refl)
  answer_is_due status.HostFault calm memory o = absurd o

  talk_is_due : (s : Status) (e : RunEnd) → Runs c e → HasTalked c s → IsDue c file s
  talk_is_due s e (by_script path steps mine h) t =
      let here = at_file (λ x. HasRun x path steps (before c.hosts_old c.out) (after c.hosts_new c.out) e) h in
      record {
        no_command = λ none. absurd (cc);
        accepted = λ entry command p. absurd (cc);
        split = λ entry command p. absurd (cc);
        rebuilt = λ entry list steps2 command edits. absurd (cc);
        mapped = λ path2 text command m is. absurd (cc);
        ran = λ entry3 steps3 command3 p. absurd (cc);
        ran5 = λ path2 steps2 command faultless. t;
        refused = λ a fault command r. absurd (run_alone c.hosts file path steps (before c.hosts_old c.out) (after c.hosts_new c.out) e fault here (fault_here (asked.run5 path steps) a fault mine command r));
      }
  talk_is_due s e (by_graph entry steps mine h) t =
      let here = at_file (λ x. Passes x c.hosts entry) (passes_run h) in
      record {
        no_command = λ none. absurd (cc);
        accepted = λ entry2 command p. absurd (cc);
        split = λ entry2 command p. absurd (cc);
        rebuilt = λ entry2 list steps2 command edits. absurd (cc);
        mapped = λ path text command m is. absurd (cc);
        ran = λ entry2 steps2 command p. t;
        ran5 = λ path3 steps3 command3 faultless. absurd (cc);
        refused = λ a fault command r. absurd (one_finding c.hosts file entry fault here (fault_here (asked.run entry steps) a fault mine command r));
      }

  outcome_is_due : (s : Status) → IsCalm c → (s ≡ status.OutOfMemory → ⊥) → IsOutcome c s → IsDue c file s
  outcome_is_due s calm memory (inl o) = answer_is_due s calm memory o.0
  outcome_is_due s calm memory (inr t) = talk_is_due s t.end t.run t

pub comes_when_due : (c : Call) (s : Status) → IsOutcome c s → ComesWhenDue c s
comes_when_due c s o calm memory = by_files c.files refl
  where
    by_files : (files : Option (List ℕ → Option (List ℕ))) → c.files ≡ files → IfSome files (λ file. IsDue c file s)
    by_files None e = tt
    by_files (Some file) e = outcome_is_due c file e s calm memory o
