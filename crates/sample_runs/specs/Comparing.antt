-- What is seen of the run of a linked graph beside that of a script, each for at most 2^40 steps and with undefined as every answer.
use Rattle.std.specs.Prelude.{◌≡◌, ℕ, List, Option, None, Some, Ok, length}
use Rattle.std.specs.Str.{chars}
use Rattle.answered_runs.specs.Answers.{IsAnswered}
use Rattle.es_outside.specs.declared.events.Ending.{Ending}
use Rattle.es_outside.specs.declared.events.Ending.TheVariants as ending
use Rattle.es_outside.specs.declared.events.Event.{Event}
use Rattle.es_outside.specs.declared.events.Site.{Site}
use Rattle.es5_ast.specs.declared.tree.Script.{Script}
use Rattle.es6_ast.specs.declared.graph.Graph.{Graph}
use Rattle.graph_runs.specs.Sites.{sites_of}
use Rattle.program_runs.specs.Outcomes.{Sites}
use Rattle.run_lines.specs.declared.script_fault.ScriptFault.{ScriptFault}
use Rattle.script_core.specs.Meaning.{run5}
use Rattle.script_lowering.specs.declared.sites.Sites.TheVariants.{BySpan}
use Rattle.script_runs.specs.Scripts.{AreScript, HasFaultIn}
use Rattle.source_map.specs.Line.{script_map_of}
use Rattle.source_map.specs.declared.map.Map.{Map}
use Rattle.source_meaning.specs.Step.{run6}
use Rattle.script_runs.specs.declared.unread.Unread.{Unread as NoScript}
use Rattle.script_runs.specs.declared.unread.Unread.TheVariants as no_script
use Rattle.sample_runs.specs.Same.{AreSameEvents}
use Rattle.sample_runs.specs.declared.comparison.Comparison.{Comparison}
use Rattle.sample_runs.specs.declared.comparison.Comparison.TheVariants.{Left, Same, Spent, Threw, Unlike, Unread}

abbrev pub most_steps : ℕ
most_steps = 1099511627776

-- what the graph's run shows
abbrev pub Shows6 : Graph → List Event → Option Ending → Type 0
Shows6 g events over = IsAnswered (run6 g) most_steps events over

-- what the script's run shows, with its calls placed by their first tokens
abbrev pub Shows5 : List (List ℕ) → Script → List Event → Option Ending → Type 0
Shows5 hosts script events over = IsAnswered (run5 BySpan hosts script) most_steps events over

-- The script holds a map, and its events are those of the modules up to that map.
pub record AreMapped (g : Graph) (bytes text : List ℕ) (events source : List Event) : Type 0 where
  pub map : Map
  pub holds : script_map_of bytes ≡ Ok map
  pub same : AreSameEvents map.segments text (sites_of g) events source

-- of the events of two runs that ended
abbrev pub AreCompared : Graph → List ℕ → List ℕ → List Event → List Event → Comparison → Type 0
AreCompared g bytes text events source (Same count) = AreMapped g bytes text events source × (count ≡ length source)
AreCompared g bytes text events source Unlike = AreMapped g bytes text events source → ⊥
AreCompared g bytes text events source _ = ⊥

-- of a script's run that showed this, where the graph's ended with these events
abbrev pub AfterScript : Graph → List ℕ → List ℕ → List Event → List Event → Option Ending → Comparison → Type 0
AfterScript g bytes text source events (Some ending.Ended) comparison = AreCompared g bytes text events source comparison
AfterScript g bytes text source events (Some (ending.Threw seen)) comparison = comparison ≡ Spent
AfterScript g bytes text source events (Some (ending.Left exit site)) comparison = comparison ≡ Spent
AfterScript g bytes text source events None comparison = comparison ≡ Spent

pub record IsComparedWith (g : Graph) (hosts : List (List ℕ)) (bytes : List ℕ) (script : Script) (text : List ℕ) (source : List Event) (comparison : Comparison) : Type 0 where
  pub events : List Event
  pub over : Option Ending
  pub shows : Shows5 hosts script events over
  pub after : AfterScript g bytes text source events over comparison

-- a run that left at this site
abbrev pub left_at : Sites → ℕ → Site → Comparison
left_at sites exit site = Left exit (sites.path site) (sites.place site)

-- of a graph's run that showed this
abbrev pub AfterGraph : Graph → List (List ℕ) → List ℕ → Script → List ℕ → List Event → Option Ending → Comparison → Type 0
AfterGraph g hosts bytes script text source None comparison = comparison ≡ Spent
AfterGraph g hosts bytes script text source (Some ending.Ended) comparison = IsComparedWith g hosts bytes script text source comparison
AfterGraph g hosts bytes script text source (Some (ending.Threw seen)) comparison = comparison ≡ Threw seen
AfterGraph g hosts bytes script text source (Some (ending.Left exit site)) comparison = comparison ≡ left_at (sites_of g) exit site

-- of a script with this tree and this text
pub record IsComparedRead (g : Graph) (hosts : List (List ℕ)) (bytes : List ℕ) (script : Script) (text : List ℕ) (comparison : Comparison) : Type 0 where
  pub source : List Event
  pub over : Option Ending
  pub shows : Shows6 g source over
  pub after : AfterGraph g hosts bytes script text source over comparison

-- The bytes are a script, and this comes of both runs.
pub record IsComparedScript (g : Graph) (hosts : List (List ℕ)) (bytes : List ℕ) (comparison : Comparison) : Type 0 where
  pub script : Script
  pub is_script : AreScript bytes script
  pub compared : IsComparedRead g hosts bytes script (chars bytes) comparison

-- what comes of bytes that are no script
abbrev pub ComesOfUnread : NoScript → Comparison → Type 0
ComesOfUnread (no_script.Refused fault) comparison = comparison ≡ Unread fault
ComesOfUnread no_script.OutOfMemory comparison = ⊥

-- The comparison of a graph, where the program has these hosts, with the bytes of a script.
pub data IsCompared (g : Graph) (hosts : List (List ℕ)) (bytes : List ℕ) : Comparison → Type 0 where
  of_runs : {comparison : Comparison} → IsComparedScript g hosts bytes comparison → IsCompared g hosts bytes comparison
  of_fault : {fault : ScriptFault} → HasFaultIn bytes fault → IsCompared g hosts bytes (Unread fault)
