-- Loading the graph of an entry, where each module is read with all checks of one module.
use Rattle.std.specs.Prelude.{ℕ, List, Result, Ok, Err}
use Rattle.es_text.specs.declared.Place.{Place}
use Rattle.es6_ast.specs.declared.graph.Graph.{Graph}
use Rattle.es6_ast.specs.declared.graph.LoadedModule.{LoadedModule}
use Rattle.es6_ast.specs.declared.graph.Request.{Request}
use Rattle.module_linker.specs.declared.module_checks.fault.ModuleFault.{ModuleFault}
use Rattle.module_linker.specs.module_checks.Faults.{HasFault, IsToldFor}
use Rattle.module_linker.specs.module_checks.Reading.{IsRead}
use Rattle.module_loading.specs.declared.fault.LoadFault.{LoadFault}
use Rattle.module_loading.specs.Files.{Told}
use Rattle.module_loading.specs.Loading.{IsFault, IsGraph}

abbrev pub asked : LoadedModule → List Request
asked m = m.requests

abbrev pub with_requests : LoadedModule → List Request → LoadedModule
with_requests m requests = record m { requests = requests }

-- the place that is told of an offset in a module
abbrev pub shows : LoadedModule → ℕ → Place → Type 0
shows m at place = IsToldFor m.lines at place

-- the fault of the file at a path with these bytes, which rests on the bytes alone
abbrev pub refuses : List ℕ → List ℕ → ModuleFault → Type 0
refuses path bytes fault = HasFault bytes fault

-- the graph of the modules that the entry requests, in files that may tell what stands at each path
abbrev pub IsGraphOf : Told → List ℕ → Graph → Type 0
IsGraphOf told entry graph = IsGraph told IsRead asked entry with_requests graph.modules

-- or the first check that fails
abbrev pub IsFaultOf : Told → List ℕ → LoadFault ModuleFault → Type 0
IsFaultOf told entry fault = IsFault told IsRead asked entry shows refuses fault

abbrev pub LoadsGraph : Told → List ℕ → Result Graph (LoadFault ModuleFault) → Type 0
LoadsGraph told entry (Ok graph) = IsGraphOf told entry graph
LoadsGraph told entry (Err fault) = IsFaultOf told entry fault
