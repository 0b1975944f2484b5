-- What is written of a build: the text of its graph, or why that is refused.
use Rattle.std.specs.Prelude.{◌≡◌, ℕ, List, Option, None, length, map, Result, Ok, Err, Vec}
use Rattle.std.specs.Global.{Global}
use Rattle.es6_ast.specs.declared.graph.Graph.{Graph}
use Rattle.graph_refusals.specs.Lines.{line_of}
use Rattle.graph_refusals.specs.declared.fault.GraphFault.{GraphFault}
use Rattle.graph_refusals.specs.declared.fault.GraphFault.TheVariants as graph_fault
use Rattle.graph_refusals.specs.declared.fault.Refusal.{Refusal}
use Rattle.listed_builds.specs.Doing as listed
use Rattle.listed_builds.specs.Doing.{Map, Step}
use Rattle.listed_builds.specs.Texts.{built_text, refused_text}
use Rattle.listed_builds.specs.declared.fault.BuildFault.{BuildFault}
use Rattle.listed_builds.specs.declared.fault.BuildFault.TheVariants.{Unread, OutOfMemory}
use Rattle.module_links.specs.Links.{IsRefusal}
use Rattle.module_links.specs.declared.fault.LinkFault.{LinkFault}
use Rattle.module_loading.specs.Files.{Told}
use Rattle.module_loading.specs.Supplying.{StopsWhere}
use Rattle.module_loading.specs.declared.fault.LoadFault.{LoadFault}
use Rattle.module_loading.specs.declared.fault.LoadFault.TheVariants as loads
use Rattle.rebuild.specs.Building.{Keeps}
use Rattle.rebuild.specs.Files.{changed, file_of}
use Rattle.rebuild.specs.declared.fault.RebuildFault.{RebuildFault}
use Rattle.rebuild.specs.declared.fault.RebuildFault.TheVariants as build_fault
use Rattle.module_linker.specs.declared.module_checks.fault.ModuleFault.{ModuleFault}
use Rattle.module_linker.specs.graph_checks.Checks.{ComesNext, IsOfFiles}
use Rattle.module_linker.specs.graph_checks.Telling.{told_link, told_load}
use Rattle.module_linker.specs.module_checks.Reading.{IsRead}
use Rattle.module_linker.specs.Linking.{IsRelinked}
use Rattle.module_linker.specs.Loading.{IsGraphOf, asked, refuses, shows}

-- The text of a linked graph, behind the numbers of its build, for which so many modules were read.
pub record IsTextOf (is_text : Graph → List (List ℕ) → List ℕ → Type 0) (hosts : List (List ℕ)) (linked : Graph) (parsed : ℕ) (text : List ℕ) : Type 0 where
  pub script : List ℕ
  pub is_script : is_text linked hosts script
  pub text_is : text ≡ built_text (length linked.modules) parsed script

-- a refusal, as it is written of a build
pub record IsRefusedText (told : GraphFault) (text : List ℕ) : Type 0 where
  pub refusal : Refusal
  pub told_is : told ≡ graph_fault.Refused refusal
  pub text_is : text ≡ refused_text (line_of refusal)

module _ (is_text : Graph → List (List ℕ) → List ℕ → Type 0) (entry : List ℕ) (hosts : List (List ℕ)) (told : Told) (before after : Map) where
  -- The graph of the entry is loaded and linked. Of its modules those are read whose path isn't kept or has other bytes there, and all are kept then.
  pub record IsAccepted (text : List ℕ) : Type 0 where
    pub graph : Graph
    pub loads : IsGraphOf told entry graph
    pub linked : Graph
    pub relinked : IsRelinked graph hosts linked
    pub keeps : Keeps before after loads.modules
    pub is_text_of : IsTextOf is_text hosts linked (length (changed before (map file_of loads.modules))) text

  -- Its first fault comes as it is loaded, and the modules are kept that pass before it.
  pub record IsUnloaded (text : List ℕ) : Type 0 where
    pub fault : LoadFault ModuleFault
    pub of_files : IsOfFiles fault
    pub stops : StopsWhere IsRead asked shows refuses told entry (λ modules. Keeps before after modules) fault
    pub refused : IsRefusedText (told_load entry fault) text

  -- It is loaded, and then refused for a name; all its modules are kept.
  pub record IsUnlinked (text : List ℕ) : Type 0 where
    pub graph : Graph
    pub loads : IsGraphOf told entry graph
    pub fault : LinkFault
    pub refusal : IsRefusal graph hosts fault
    pub keeps : Keeps before after loads.modules
    pub refused : IsRefusedText (told_link fault) text

  pub data Writes (text : List ℕ) : Type 0 where
    accepted : IsAccepted text → Writes text
    unloaded : IsUnloaded text → Writes text
    unlinked : IsUnlinked text → Writes text

-- A build of the entry reads the file at this path next.
abbrev pub ReadsNext : List ℕ → Told → List ℕ → Type 0
ReadsNext entry told path = ComesNext told entry path

-- What the builds among edits write, where nothing is kept at first.
pub record WritesAll (is_text : Graph → List (List ℕ) → List ℕ → Type 0) (entry : List ℕ) (hosts : List (List ℕ)) (told : Told) (steps : List Step) (text : List ℕ) : Type 0 where
  pub kept : Map
  pub none : (path : List ℕ) → kept path ≡ None
  pub are_written : listed.WritesAll (Writes is_text entry hosts) told kept steps text

-- ---- how the faults of a build are told

abbrev pub IsRefusedAs : GraphFault → Result (Vec ℕ Global) BuildFault → Type 0
IsRefusedAs told (Ok text) = IsRefusedText told text.items
IsRefusedAs told (Err (Unread path)) = ⊥
IsRefusedAs told (Err OutOfMemory) = Unit {0}

-- of a fault of loading that is told in some way, unless there is no memory to tell it
abbrev pub IsLoadTold : List ℕ → LoadFault ModuleFault → Result (Vec ℕ Global) BuildFault → Type 0
IsLoadTold entry (loads.ReadFault path) result = result ≡ Err (Unread path)
IsLoadTold entry fault result = IsRefusedAs (told_load entry fault) result

abbrev pub IsToldAs : List ℕ → RebuildFault ModuleFault LinkFault → Result (Vec ℕ Global) BuildFault → Type 0
IsToldAs entry (build_fault.Load fault) result = IsLoadTold entry fault result
IsToldAs entry (build_fault.Link fault) result = IsRefusedAs (told_link fault) result
IsToldAs entry build_fault.OutOfMemory result = result ≡ Err OutOfMemory
