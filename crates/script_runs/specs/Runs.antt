-- What the run of the script in a file leaves.
use Rattle.std.specs.Prelude.{◌≡◌, ℕ, List, Result, Ok, Err}
use Rattle.es5_ast.specs.declared.tree.Script.{Script}
use Rattle.program_runs.specs.Around.{Around}
use Rattle.program_runs.specs.Outcomes.{IsOutcome, Sites}
use Rattle.program_runs.specs.declared.end.RunEnd.{RunEnd}
use Rattle.script_core.specs.Meaning.{run5}
use Rattle.script_lowering.specs.declared.sites.Sites.TheVariants.{BySpan}
use Rattle.script_runs.specs.Places.{place_in}
use Rattle.script_runs.specs.Scripts.{Cause, IsScriptAt, Told}
use Rattle.script_runs.specs.declared.unread.Unread.{Unread}
use Rattle.script_runs.specs.declared.unread.Unread.TheVariants.{OutOfMemory}

-- where the sites of a script with this text stand: in its file
abbrev pub sites_in : List ℕ → List ℕ → Sites
sites_in path text = record { path = λ site. path; place = λ site. place_in text site.at }

-- The script in the file was run, and this is how that ended and what it left.
pub record HasRun (told : Told) (path : List ℕ) (steps : ℕ) (old new : Around) (e : RunEnd) : Type 0 where
  pub script : Script
  pub text : List ℕ
  pub is_script : IsScriptAt told path script text
  pub outcome : IsOutcome (run5 BySpan old.hosts.names script) steps (sites_in path text) old new e

-- It wasn't run, for this reason, and nothing changed around it.
pub record IsUnrun (told : Told) (faults_old faults_new : ℕ) (path : List ℕ) (old new : Around) (unread : Unread) : Type 0 where
  pub cause : Cause told path faults_old faults_new unread
  pub untouched : new ≡ old

abbrev pub Ends : Told → ℕ → ℕ → List ℕ → ℕ → Around → Around → Result RunEnd Unread → Type 0
Ends told faults_old faults_new path steps old new (Ok e) = HasRun told path steps old new e
Ends told faults_old faults_new path steps old new (Err unread) = IsUnrun told faults_old faults_new path old new unread

-- a script that was read was run so, or there was no memory and nothing changed
abbrev pub Runs : List (List ℕ) → Script → List ℕ → List ℕ → ℕ → Around → Around → Result RunEnd Unread → Type 0
Runs hosts script path text steps old new (Ok e) = IsOutcome (run5 BySpan hosts script) steps (sites_in path text) old new e
Runs hosts script path text steps old new (Err unread) = (unread ≡ OutOfMemory) × (new ≡ old)
