-- What is left of the run of an entry's graph.
use Rattle.std.specs.Prelude.{◌≡◌, ℕ, List, Result, Ok, Err}
use Rattle.es6_ast.specs.declared.graph.Graph.{Graph}
use Rattle.graph_refusals.specs.declared.fault.GraphFault.{GraphFault}
use Rattle.graph_runs.specs.Sites.{sites_of}
use Rattle.module_linker.specs.Linking.{IsRelinked}
use Rattle.module_linker.specs.Loading.{IsGraphOf}
use Rattle.module_linker.specs.graph_checks.Checks.{HasGraphFault}
use Rattle.module_linker.specs.graph_checks.Telling.{told_link}
use Rattle.module_links.specs.Links.{IsRefusal}
use Rattle.module_links.specs.declared.fault.LinkFault.{LinkFault}
use Rattle.module_loading.specs.Files.{Told}
use Rattle.program_runs.specs.Around.{Around}
use Rattle.program_runs.specs.Outcomes.{IsOutcome}
use Rattle.program_runs.specs.declared.end.RunEnd.{RunEnd}
use Rattle.source_meaning.specs.Step.{run6}

-- The graph of the entry is loaded and linked and was run, and this is how that ended and what it left.
pub record HasRunGraph (hosts : List (List ℕ)) (told : Told) (entry : List ℕ) (steps : ℕ) (old new : Around) (e : RunEnd) : Type 0 where
  pub graph : Graph
  pub loads : IsGraphOf told entry graph
  pub linked : Graph
  pub relinked : IsRelinked graph hosts linked
  pub outcome : IsOutcome (run6 linked) steps (sites_of linked) old new e

-- the graph of the entry was run; or it has this fault, and nothing changed around it
abbrev pub RunsGraph : List (List ℕ) → Told → ℕ → ℕ → List ℕ → ℕ → Around → Around → Result RunEnd GraphFault → Type 0
RunsGraph hosts told faults_old faults_new entry steps old new (Ok e) = HasRunGraph hosts told entry steps old new e
RunsGraph hosts told faults_old faults_new entry steps old new (Err fault) = HasGraphFault told hosts entry faults_old faults_new fault × (new ≡ old)

-- ---- the parts

-- a loaded graph is linked and was run
pub record HasRunLoaded (graph : Graph) (hosts : List (List ℕ)) (steps : ℕ) (old new : Around) (e : RunEnd) : Type 0 where
  pub linked : Graph
  pub relinked : IsRelinked graph hosts linked
  pub outcome : IsOutcome (run6 linked) steps (sites_of linked) old new e

-- or it is refused, and nothing changed
pub record IsUnrun (graph : Graph) (hosts : List (List ℕ)) (old new : Around) (answer : GraphFault) : Type 0 where
  pub fault : LinkFault
  pub refused : IsRefusal graph hosts fault
  pub told : answer ≡ told_link fault
  pub untouched : new ≡ old

abbrev pub RunsLoaded : Graph → List (List ℕ) → ℕ → Around → Around → Result RunEnd GraphFault → Type 0
RunsLoaded graph hosts steps old new (Ok e) = HasRunLoaded graph hosts steps old new e
RunsLoaded graph hosts steps old new (Err fault) = IsUnrun graph hosts old new fault
