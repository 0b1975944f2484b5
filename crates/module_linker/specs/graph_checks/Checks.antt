-- Which graphs of modules pass every check, and which fault of another comes first.
use Rattle.std.specs.Prelude.{◌≡◌, ℕ, List, length}
use Rattle.es_outside.specs.Counts.{CountRose}
use Rattle.es6_ast.specs.declared.graph.EndOf.{EndOf}
use Rattle.es6_ast.specs.declared.graph.Graph.{Graph}
use Rattle.es6_ast.specs.declared.graph.LoadedModule.{LoadedModule}
use Rattle.module_linker.specs.declared.module_checks.fault.ModuleFault.{ModuleFault}
use Rattle.module_linker.specs.module_checks.Reading.{IsRead}
use Rattle.module_linker.specs.Loading.{IsFaultOf, IsGraphOf, asked}
use Rattle.module_loading.specs.Files.{Told}
use Rattle.module_loading.specs.Loading.{FollowsFile, Loaded}
use Rattle.module_loading.specs.declared.fault.LoadFault.{LoadFault}
use Rattle.module_loading.specs.declared.fault.LoadFault.TheVariants as loads
use Rattle.module_links.specs.Links.{AreLinked, IsRefusal}
use Rattle.module_links.specs.declared.fault.LinkFault.{LinkFault}
use Rattle.graph_refusals.specs.declared.fault.GraphFault.{GraphFault}
use Rattle.graph_refusals.specs.declared.fault.GraphFault.TheVariants.{Refused, OutOfMemory}
use Rattle.graph_refusals.specs.declared.fault.FileFault.TheVariants.{ReadFailed}
use Rattle.graph_refusals.specs.declared.fault.Refusal.{Refusal}
use Rattle.module_linker.specs.graph_checks.Telling.{told_load, told_link}

-- The graph is loaded, and each name that a module of it wants of another ends in one place, where the program has these hosts.
pub record Passes (told : Told) (hosts : List (List ℕ)) (entry : List ℕ) : Type 0 where
  pub graph : Graph
  pub loaded : IsGraphOf told entry graph
  pub endings : List (List EndOf)
  pub linked : AreLinked graph hosts (length graph.modules) endings

-- a fault of loading that rests on what the files hold
abbrev pub IsOfFiles : LoadFault ModuleFault → Type 0
IsOfFiles (loads.ReadFault path) = ⊥
IsOfFiles _ = Unit {0}

-- What the graph is refused for: the first fault of loading, or of a loaded graph the first name that doesn't end in one place.
pub data Refuses (told : Told) (hosts : List (List ℕ)) (entry : List ℕ) (refusal : Refusal) : Type 0 where
  unloaded : (fault : LoadFault ModuleFault) → IsFaultOf told entry fault → IsOfFiles fault → told_load entry fault ≡ Refused refusal → Refuses told hosts entry refusal
  unlinked : (graph : Graph) (fault : LinkFault) → IsGraphOf told entry graph → IsRefusal graph hosts fault → told_link fault ≡ Refused refusal → Refuses told hosts entry refusal

-- the file at this path comes next in loading
pub record ComesNext (told : Told) (entry path : List ℕ) : Type 0 where
  pub modules : List (Loaded LoadedModule)
  pub next : FollowsFile told IsRead asked entry modules path

-- The same, or the file that came next couldn't be read, so that the count of faults rose.
pub data IsRefusedFor (told : Told) (hosts : List (List ℕ)) (entry : List ℕ) (old new : ℕ) : Refusal → Type 0 where
  by_files : {refusal : Refusal} → Refuses told hosts entry refusal → IsRefusedFor told hosts entry old new refusal
  by_reading : {path : List ℕ} → CountRose old new → ComesNext told entry path → IsRefusedFor told hosts entry old new (record { path = path; fault = ReadFailed })

-- Memory that runs out says nothing.
abbrev pub HasGraphFault : Told → List (List ℕ) → List ℕ → ℕ → ℕ → GraphFault → Type 0
HasGraphFault told hosts entry old new (Refused refusal) = IsRefusedFor told hosts entry old new refusal
HasGraphFault told hosts entry old new OutOfMemory = Unit {0}
