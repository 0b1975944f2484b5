-- A run from a script's start, as the run of the script.
use Rattle.std.proofs.Common.{◌≡◌, ℕ, List, Result, Ok, Err, subst, sym}
use Rattle.core_ast.specs.declared.whole.Core.{Core}
use Rattle.es5_ast.specs.declared.tree.Script.{Script}
use Rattle.eval5_step.specs.Stages.{ScriptConfiguration}
use Rattle.program_runs.specs.Around.{Around}
use Rattle.program_runs.specs.Outcomes.{IsOutcome, Sites, behaviour}
use Rattle.program_runs.specs.declared.end.RunEnd.{RunEnd}
use Rattle.script_core.specs.Meaning.{ScriptNext, run5, script_start, script_step}
use Rattle.script_lowering.specs.Scripts.{core_of}
use Rattle.script_runs.specs.Runs.{Ends, Runs}
use Rattle.script_runs.specs.Scripts.{Cause, IsScriptAt, Told}
use Rattle.script_runs.specs.declared.unread.Unread.{Unread}
use Rattle.script_lowering.specs.declared.sites.Sites.TheVariants.{BySpan}

pub ran : (script : Script) (core : Core) (machine : ScriptConfiguration → ScriptNext) (names host_names : List (List ℕ)) (steps : ℕ) (sites : Sites) (old new : Around) (e : RunEnd)
    → core ≡ core_of BySpan script → host_names ≡ names → machine ≡ script_step core
    → IsOutcome (behaviour machine (script_start host_names core)) steps sites old new e → IsOutcome (run5 BySpan names script) steps sites old new e
ran script core machine names host_names steps sites old new e core_is names_are machine_is o =
    let a = subst (λ (m : ScriptConfiguration → ScriptNext). IsOutcome (behaviour m (script_start host_names core)) steps sites old new e) machine_is o in
    let b = subst (λ (h : List (List ℕ)). IsOutcome (behaviour (script_step core) (script_start h core)) steps sites old new e) names_are a in
    subst (λ (k : Core). IsOutcome (behaviour (script_step k) (script_start names k)) steps sites old new e) core_is b

-- what is left of the script of a file
pub ended : (told : Told) (faults_old faults_new : ℕ) (path : List ℕ) (steps : ℕ) (old new : Around) (script : Script) (text : List ℕ) (r : Result RunEnd Unread)
    → IsScriptAt told path script text → Runs old.hosts.names script path text steps old new r → Ends told faults_old faults_new path steps old new r
ended told faults_old faults_new path steps old new script text (Ok e) is_script o = record { script = script; text = text; is_script = is_script; outcome = o }
ended told faults_old faults_new path steps old new script text (Err unread) is_script h =
    record { cause = subst (λ (u : Unread). Cause told path faults_old faults_new u) (sym h.0) tt; untouched = h.1 }
